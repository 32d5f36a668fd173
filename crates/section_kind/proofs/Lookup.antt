-- Looking flags up in a list, one kind at a time. Assumes nothing.
use mathlib.Core.Path.{◌≡◌, refl}
use Prim.Native.Nat.{ℕ, zero, suc, ◌+◌, ◌<◌}
use native.Mathlib.Omega.{arith}
use borrow.Author.Tests.{eq-eqb, ne_eqb}
use lib.ListN.{length, get_or, drop}
use mathlib.Core.Bool.{Bool, true, false, cond, ◌||◌}
use mathlib.Core.List.{List, [], ◌∷◌}
use lib.Dec.{eqb}
use Rattle.section_kind.specs.declared.SectionKind.{SectionKind}
use Rattle.section_kind.specs.declared.SectionKind.TheVariants.{Deleted}
use Rattle.std.proofs.Common.{Some}
use Rattle.std.specs.List.{find}
use Rattle.section_kind.specs.Kind.{flags_of, kind_in}

-- what is found in a list is the first kind there that has the flags
pub kind-found : (low : ℕ) (ks : List SectionKind) → find (λ k. eqb (flags_of k) low) ks ≡ kind_in low ks
kind-found low [] = refl
kind-found low (k ∷ ks) = by-test (eqb (flags_of k) low) (kind-found low ks)
  where
    by-test : (b : Bool) → find (λ k. eqb (flags_of k) low) ks ≡ kind_in low ks → cond b (Some k) (find (λ k. eqb (flags_of k) low) ks) ≡ cond b (Some k) (kind_in low ks)
    by-test true h = refl
    by-test false h = h

-- the kind at place i has the flags
pub kind-here : (low : ℕ) (ks : List SectionKind) (i : ℕ) → i < length ks → flags_of (get_or ks i Deleted) ≡ low → kind_in low (drop i ks) ≡ Some (get_or ks i Deleted)
kind-here low [] i h e = absurd (omega arith)
kind-here low (k ∷ ks) zero h e = rw (eq-eqb (flags_of k) low e) refl
kind-here low (k ∷ ks) (suc i) h e = kind-here low ks i (omega arith) e

-- it has not: the next ones decide
pub kind-next : (low : ℕ) (ks : List SectionKind) (i : ℕ) → i < length ks → (flags_of (get_or ks i Deleted) ≡ low → ⊥) → kind_in low (drop (i + 1) ks) ≡ kind_in low (drop i ks)
kind-next low [] i h n = absurd (omega arith)
kind-next low (k ∷ ks) zero h n = rw (ne_eqb (flags_of k) low n) refl
kind-next low (k ∷ ks) (suc i) h n = let s : suc i + 1 ≡ suc (i + 1) = omega arith in rw s (kind-next low ks i (omega arith) n)

-- the last of some tests
pub or-none : (b : Bool) → (b || false) ≡ b
or-none true = refl
or-none false = refl
