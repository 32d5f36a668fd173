-- What a section look-up's refusals name is there. Assumes nothing.
use Prim.Native.Nat.{ℕ}
use mathlib.Core.Path.{refl}
use mathlib.Core.Bool.{◌||◌}
use mathlib.Core.List.{List}
use lib.Dec.{eqb, ltb}
use Rattle.format.specs.declared.SectionNumber.{SectionNumber}
use Rattle.refusal.specs.declared.IndexItem.TheVariants.{NoSection}
use Rattle.refusal.specs.declared.Refusal.TheVariants.{Index}
use Rattle.refusal.proofs.Causes.{Causes, cause-if, cause-then}
use Rattle.offset.specs.Named.{Named}
use Rattle.offset.proofs.Named.{plain-named}
use Rattle.header.specs.Open.{open_of}
use Rattle.header.proofs.Named.{opened-named}
use Rattle.section_lookup.specs.Lookup.{number_check, lookup_check}

-- request 4: of a section and of its name
pub section-named : (file : List ℕ) (n : SectionNumber) → Causes (Named file) (lookup_check file n)
unfolding lookup_check number_check
section-named file n =
    cause-then (Named file) (open_of file).verdict _ (opened-named file)
    (λ _. cause-if (Named file) (eqb n.0 0 || ltb (open_of file).summary.count n.0) (Index (NoSection n)) (λ _. plain-named file (Index (NoSection n)) (λ s. refl) (λ _ e. e)))
