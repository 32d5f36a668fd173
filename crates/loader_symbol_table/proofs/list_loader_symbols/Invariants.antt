use Rattle.loader_symbol_table.specs.Rows.{loader_symbol_row}
use Rattle.loader_symbol_table.proofs.list_loader_symbols.Given as goal

abbrev pub ghost-write_rows : goal.ghost-write_rows
ghost-write_rows a = loader_symbol_row a.row.0.now a.row.1.now
