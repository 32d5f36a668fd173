-- What the refusals of an import id's strings name is there. Assumes nothing.
use Prim.Native.Nat.{ℕ, ◌+◌, ◌*◌}
use mathlib.Core.Path.{refl}
use mathlib.Core.Bool.{not}
use mathlib.Core.List.{List}
use lib.Dec.{ltb}
use Rattle.refusal.specs.declared.IndexItem.TheVariants.{NoImportId}
use Rattle.refusal.specs.declared.Refusal.TheVariants.{Index}
use Rattle.refusal.specs.Order.{by_verdict}
use Rattle.refusal.proofs.Causes.{Causes, RangeCauses, cause-if}
use Rattle.offset.specs.Named.{Named}
use Rattle.offset.proofs.Named.{plain-named}
use Rattle.format.specs.declared.FileRange.{FileRange}
use Rattle.loadable.specs.Loadable.{loadable_at}
use Rattle.loadable.proofs.Named.{LoadableCauses, loadable-named}
use Rattle.import_id.specs.declared.ImportString.{ImportString}
use Rattle.import_id.specs.Import.{id_check, string_of, place_of, import_in, import_at}
use Rattle.std.specs.Prelude.{Err, Ok, Result}
use Rattle.refusal.specs.declared.Refusal.{Refusal}
use Rattle.loadable.specs.declared.Loadable.{Loadable}
use Rattle.refusal.specs.Verdict.{Verdict}

-- request 4: of an import id's strings
pub import-named : (file : List ℕ) (n : ℕ) (w : ImportString) → RangeCauses (Named file) (import_at file n w)
unfolding import_at import_in id_check
import-named file n w = by (loadable_at file) (loadable-named file)
  where
    found : (v : Verdict) (r : FileRange) → Causes (Named file) v → RangeCauses (Named file) (by_verdict v (Ok r) Err)
    found (Ok tt) r c = tt
    found (Err x) r c = c

    by : (a : Result Loadable Refusal) → LoadableCauses (Named file) a → RangeCauses (Named file) (import_in file a n w)
    by (Err x) c = c
    by (Ok l) c =
        found (id_check l.tables n) (string_of file l.tables.ids (3 * n + place_of w))
        (cause-if (Named file) (not (ltb n l.tables.nimpid)) (Index (NoImportId n)) (λ _. plain-named file (Index (NoImportId n)) (λ s. refl) (λ _ e. e)))
