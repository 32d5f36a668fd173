use mathlib.Core.Path.{◌≡◌}
use Rattle.format.specs.Range.{bytes_of}
use Rattle.import_id.specs.Import.{string_start}
use Rattle.rows.proofs.Laws.{Writing}
use Rattle.import_table.specs.Imports.{string_row}
use Rattle.import_table.proofs.write_strings.Given as goal

abbrev pub invariant-loop-j : goal.invariant-loop-j
invariant-loop-j l = record {
  written : Writing (string_row l.file l.ids) 2 l.count l.initial.out l.out l.j;
  start : l.at ≡ string_start (bytes_of l.file l.ids) l.j;
}
