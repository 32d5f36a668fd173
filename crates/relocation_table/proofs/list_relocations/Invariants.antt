use Rattle.relocation_table.specs.Rows.{relocation_row}
use Rattle.relocation_table.proofs.list_relocations.Given as goal

abbrev pub ghost-write_rows : goal.ghost-write_rows
ghost-write_rows a = relocation_row a.row.0.now a.row.1.now
