-- What holds of the refusal that an order of checks gives. Assumes nothing.
use Prim.Native.Nat.{ℕ, zero, suc, ◌+◌, ◌≤◌, ◌<◌}
use mathlib.Core.Path.{◌≡◌, refl}
use mathlib.Core.Bool.{Bool, true, false}
use native.Mathlib.Omega.{arith}
use Rattle.refusal.specs.declared.Refusal.{Refusal}
use Rattle.refusal.specs.Order.{◌or_else◌, refuse_if, first_of}
use Rattle.std.specs.Prelude.{Err, Ok, Result}
use Rattle.format.specs.declared.FileRange.{FileRange}
use Rattle.refusal.specs.Verdict.{Verdict}

-- P holds of the verdict's refusal, if it has one
abbrev pub Causes : (Refusal → Type 0) → Verdict → Type 0
Causes P (Ok tt) = Unit {0}
Causes P (Err x) = P x

-- of an answer with a part of the file
abbrev pub RangeCauses : (Refusal → Type 0) → Result FileRange Refusal → Type 0
RangeCauses P (Ok r) = Unit {0}
RangeCauses P (Err x) = P x

module _ (P : Refusal → Type 0) where
  pub cause-if : (b : Bool) (x : Refusal) → (b ≡ true → P x) → Causes P (refuse_if b x)
  cause-if true x h = h refl
  cause-if false x h = tt

  pub cause-then : (v w : Verdict) → Causes P v → (v ≡ Ok tt → Causes P w) → Causes P (v or_else w)
  cause-then (Ok tt) w h k = k refl
  cause-then (Err x) w h k = h

  pub cause-test : (b : Bool) (x : Refusal) (w : Verdict) → (b ≡ true → P x) → (b ≡ false → Causes P w) → Causes P (refuse_if b x or_else w)
  cause-test true x w h k = h refl
  cause-test false x w h k = k refl

  pub cause-first : (check : ℕ → Verdict) (i n : ℕ) → ((j : ℕ) → i ≤ j → j < i + n → Causes P (check j)) → Causes P (first_of check i n)
  unfolding first_of
  cause-first check i zero h = tt
  cause-first check i (suc n) h = cause-then (check i) (first_of check (suc i) n) (h i (omega arith) (omega arith)) (λ _. cause-first check (suc i) n (λ j a b. h j (omega arith) (omega arith)))

  pub cause-of : {v : Verdict} {x : Refusal} → Causes P v → v ≡ Err x → P x
  cause-of h e = rw e at h
