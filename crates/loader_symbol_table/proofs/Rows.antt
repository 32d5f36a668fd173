-- The rows of loader symbols are of one length, and how much memory they need. Assumes nothing.
use mathlib.Core.Path.{◌≡◌, refl}
use mathlib.Core.List.{List}
use Prim.Native.Nat.{ℕ, ◌*◌}
use lib.ListN.{length}
use Rattle.loadable.specs.declared.Loadable.{Loadable}
use Rattle.loadable.specs.Loadable.{loadable_at, report_of_module, module_report}
use Rattle.module_table.specs.Table.{table_check}
use Rattle.module_table.proofs.Tables.{Needs, needs-by}
use Rattle.loader_symbol_table.specs.Rows.{loader_symbol_row, loader_symbols}

pub loader-symbol-even : (file : List ℕ) (l : Loadable) (j : ℕ) → length (loader_symbol_row file l j) ≡ 9
unfolding loader_symbol_row
loader-symbol-even file l j = refl

module _ (file : List ℕ) where
  pub loader-symbols-need : Needs loader_symbols file (9 * (module_report file).symbols)
  unfolding table_check
  loader-symbols-need = needs-by loader_symbols (λ a. (report_of_module file a).symbols) file (λ l. refl) (λ x. refl) (loader-symbol-even file) (loadable_at file)
