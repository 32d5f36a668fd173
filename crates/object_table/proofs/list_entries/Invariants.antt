use Rattle.object_table.specs.Table.{entry_row}
use Rattle.object_table.proofs.list_entries.Given as goal

abbrev pub ghost-write_rows : goal.ghost-write_rows
ghost-write_rows a = entry_row a.row.0.now a.row.1.now a.row.2.now
