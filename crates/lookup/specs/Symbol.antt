-- A loader symbol looked up by its index, from 3: the module's refusals, then INDEX.
use Rattle.std.specs.Prelude.{ℕ, ◌+◌, ◌-◌, not, ◌||◌, List, ltb, Err, Ok, Result}
use Rattle.refusal.specs.declared.Refusal.TheVariants.{Index}
use Rattle.refusal.specs.declared.IndexItem.TheVariants.{NoLoaderSymbol}
use Rattle.refusal.specs.Order.{refuse_if, by_verdict}
use Rattle.refusal.specs.Refusal.{accepted_head}
use Rattle.offset.specs.Report.{refusal_head}
use Rattle.loader_symbol.specs.declared.LoaderEntry.{LoaderEntry}
use Rattle.loader_header.specs.declared.LoaderTables.{LoaderTables}
use Rattle.loader_symbol.specs.Symbol.{entry_start, entry_at, name_in}
use Rattle.loadable.specs.declared.Loadable.{Loadable}
use Rattle.loadable.specs.Loadable.{loadable_at}
use Rattle.lookup.specs.declared.LoaderSymbolReport.{LoaderSymbolReport}
use Rattle.refusal.specs.declared.Refusal.{Refusal}
use Rattle.format.specs.declared.FileRange.{FileRange}
use Rattle.refusal.specs.Verdict.{Verdict}

-- INDEX: 0, 1 and 2 are text, data and bss; the table's own start at 3
unfoldable pub index_check : LoaderTables → ℕ → Verdict
index_check t i = refuse_if (ltb i 3 || not (ltb i (3 + t.nsyms))) (Index (NoLoaderSymbol i))

-- the symbol with index i of the module l
unfoldable pub entry_of : List ℕ → Loadable → ℕ → LoaderEntry
entry_of file l i = entry_at l.layout.format (entry_start l.tables (i - 3)) file

unfoldable pub symbol_in : List ℕ → Result Loadable Refusal → ℕ → Result LoaderEntry Refusal
symbol_in file (Err x) i = Err x
symbol_in file (Ok l) i = by_verdict (index_check l.tables i) (Ok (entry_of file l i)) Err

unfoldable pub loader_symbol_at : List ℕ → ℕ → Result LoaderEntry Refusal
loader_symbol_at file i = symbol_in file (loadable_at file) i

-- where its name lies, without its closing zero
unfoldable pub name_of : List ℕ → Loadable → ℕ → Result FileRange Refusal
name_of file l i = name_in file l.tables.strings (entry_start l.tables (i - 3)) i (entry_of file l i).name

unfoldable pub symbol_name_in : List ℕ → Result Loadable Refusal → ℕ → Result FileRange Refusal
symbol_name_in file (Err x) i = Err x
symbol_name_in file (Ok l) i = by_verdict (index_check l.tables i) (name_of file l i) Err

unfoldable pub loader_name_at : List ℕ → ℕ → Result FileRange Refusal
loader_name_at file i = symbol_name_in file (loadable_at file) i

-- the answer in document 01's numbers
abbrev pub report_of_loader_symbol : List ℕ → Result LoaderEntry Refusal → LoaderSymbolReport
report_of_loader_symbol file (Ok e) =
    record { head = accepted_head; value = e.value; scnum = e.scnum; smtype = e.smtype; smclas = e.smclas; ifile = e.ifile; parm = e.parm }
report_of_loader_symbol file (Err x) =
    record { head = refusal_head file x; value = 0; scnum = 0; smtype = 0; smclas = 0; ifile = 0; parm = 0 }

abbrev pub loader_symbol_report : List ℕ → ℕ → LoaderSymbolReport
loader_symbol_report file i = report_of_loader_symbol file (loader_symbol_at file i)
