use mathlib.Core.Path.{◌≡◌}
use Rattle.file_tables.proofs.Sections.{Left}
use Rattle.file_tables.specs.Tables.{sections_of}
use Rattle.file_tables.proofs.scan_sections.Given as goal

abbrev pub invariant-loop-i : goal.invariant-loop-i
invariant-loop-i l = Left l.file l.h l.i × (l.sections ≡ sections_of l.file l.h l.i)
