-- The rows of relocation entries are of one length, and how much memory they need. Assumes nothing.
use mathlib.Core.Path.{◌≡◌, refl}
use mathlib.Core.List.{List}
use Prim.Native.Nat.{ℕ, ◌*◌}
use lib.ListN.{length}
use Rattle.loadable.specs.declared.Loadable.{Loadable}
use Rattle.loadable.specs.Loadable.{loadable_at, report_of_module, module_report}
use Rattle.module_table.specs.Table.{table_check}
use Rattle.module_table.proofs.Tables.{Needs, needs-by}
use Rattle.relocation_table.specs.Rows.{relocation_row, relocations}

pub relocation-even : (file : List ℕ) (l : Loadable) (j : ℕ) → length (relocation_row file l j) ≡ 8
unfolding relocation_row
relocation-even file l j = refl

module _ (file : List ℕ) where
  pub relocations-need : Needs relocations file (8 * (module_report file).relocations)
  unfolding table_check
  relocations-need = needs-by relocations (λ a. (report_of_module file a).relocations) file (λ l. refl) (λ x. refl) (relocation-even file) (loadable_at file)
