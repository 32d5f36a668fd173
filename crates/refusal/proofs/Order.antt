-- The first refusal in an order of checks, and of a table. Assumes nothing.
use mathlib.Core.Path.{◌≡◌, refl, sym, ◌∙◌, ap}
use mathlib.Core.Bool.{Bool, true, false, not}
use mathlib.Core.List.{List, [], ◌∷◌}
use Prim.Native.Nat.{ℕ, zero, suc, ◌+◌, ◌-◌, ◌≤◌, ◌<◌}
use native.Mathlib.Decide.{ℕ_discrete}
use native.Mathlib.Numerals.{add-one}
use native.Mathlib.Nat.{sub-zero}
use native.Mathlib.Omega.{arith}
use Rattle.refusal.specs.declared.Refusal.{Refusal}
use Rattle.refusal.specs.Refusal.{is_refused}
use Rattle.refusal.specs.Order.{◌or_else◌, refuse_if, first_refusal, first_of, by_verdict}
use lib.Dec.{eqb, ltb}
use borrow.Author.Tests.{eqb-true, not-false, ltb-false}
use Rattle.std.specs.Prelude.{Err, Ok, Result, IsErr, IsErrAnd}
use Rattle.refusal.specs.Verdict.{Verdict}

-- what a `?` hands on
pub handed : {A : Type 0} {r : Result A Refusal} {x : Refusal} → IsErr r × IsErrAnd r (λ y. y ≡ x) → r ≡ Err x
handed {r = Err y} e = rw e.1
handed {r = Ok a} e = absurd e.1

-- a refusal is no acceptance
pub not-accepted : {A : Type 0} {x : Refusal} → ◌≡◌ {A = Verdict} (Err x) (Ok tt) → A
not-accepted e = let z : ◌≡◌ {A = ℕ} 0 1 = cc in absurd (omega arith)

-- a verdict that does not refuse accepts
pub accepts : (v : Verdict) → is_refused v ≡ false → v ≡ Ok tt
accepts (Ok tt) e = refl
accepts (Err x) e = cc

-- what a test of a verdict a tells of b, which a is
pub told : {a b : Verdict} {s t : Bool} → a ≡ b → s ≡ is_refused a → s ≡ t → is_refused b ≡ t
told e h k = ap is_refused (sym e) ∙ sym h ∙ k

pub told-accepted : {a b : Verdict} {s : Bool} → a ≡ b → s ≡ is_refused a → s ≡ false → b ≡ Ok tt
told-accepted {b = b} e h k = accepts b (told e h k)

-- a first verdict that accepts is passed over, and one that refuses is given
pub go_on : (v w : Verdict) → is_refused v ≡ false → (v or_else w) ≡ w
go_on (Ok tt) w e = refl
go_on (Err x) w e = cc

pub stop : (v w : Verdict) → is_refused v ≡ true → (v or_else w) ≡ v
stop (Ok tt) w e = cc
stop (Err x) w e = refl

-- the same for one test
pub test-passed : {b : Bool} {z : Verdict} (x : Refusal) (w : Verdict) → b ≡ false → z ≡ w → z ≡ (refuse_if b x or_else w)
test-passed x w e h = rw e h

pub test-refused : {b : Bool} (x : Refusal) (w : Verdict) → b ≡ true → Err x ≡ (refuse_if b x or_else w)
test-refused x w e = rw e

pub refused-if : (b : Bool) (x : Refusal) → is_refused (refuse_if b x) ≡ b
refused-if true x = refl
refused-if false x = refl

-- both parts of an order that accepts accept
pub accepted-first : (v w : Verdict) → (v or_else w) ≡ Ok tt → v ≡ Ok tt
accepted-first (Ok tt) w e = refl
accepted-first (Err x) w e = e

pub accepted-rest : (v w : Verdict) → (v or_else w) ≡ Ok tt → w ≡ Ok tt
accepted-rest (Ok tt) w e = e
accepted-rest (Err x) w e = cc

pub accepted-test : (b : Bool) (x : Refusal) → refuse_if b x ≡ Ok tt → b ≡ false
accepted-test true x e = cc
accepted-test false x e = refl

-- a test that accepts, by what it compares
pub accepted-equal : (a b : ℕ) (x : Refusal) → refuse_if (not (eqb a b)) x ≡ Ok tt → a ≡ b
accepted-equal a b x e = eqb-true a b (not-false (eqb a b) (accepted-test (not (eqb a b)) x e))

pub accepted-most : (a b : ℕ) (x : Refusal) → refuse_if (ltb a b) x ≡ Ok tt → b ≤ a
accepted-most a b x e = ltb-false a b (accepted-test (ltb a b) x e)

-- the last verdict of an order stands for itself
pub accepted-last : (v : Verdict) → v ≡ (v or_else Ok tt)
accepted-last (Ok tt) = refl
accepted-last (Err x) = refl

-- a list of checks accepts exactly where each of them does
abbrev pub EachAccepts : List Verdict → Type 0
EachAccepts [] = Unit {0}
EachAccepts (v ∷ vs) = (v ≡ Ok tt) × EachAccepts vs

pub each-accepts : (vs : List Verdict) → first_refusal vs ≡ Ok tt → EachAccepts vs
each-accepts [] e = tt
each-accepts (v ∷ vs) e = (accepted-first v (first_refusal vs) e, each-accepts vs (accepted-rest v (first_refusal vs) e))

pub all-accept : (vs : List Verdict) → EachAccepts vs → first_refusal vs ≡ Ok tt
all-accept [] e = refl
all-accept (v ∷ vs) e = rw e.0 (all-accept vs e.1)

-- what holds of both outcomes of a verdict holds of what is given by it
pub by-verdict : {A : Type 0} (P : A → Type 0) (v : Verdict) {a : A} {f : Refusal → A} → (v ≡ Ok tt → P a) → ((x : Refusal) → P (f x)) → P (by_verdict v a f)
by-verdict P (Ok tt) h k = h refl
by-verdict P (Err x) h k = k x

module _ (check : ℕ → Verdict) where
  first-open : (n i : ℕ) → i < n → first_of check i (n - i) ≡ (check i or_else first_of check (i + 1) (n - (i + 1)))
  unfolding first_of
  first-open n i h =
      let e : n - i ≡ suc (n - (i + 1)) = omega arith in
      rw (e, add-one i) refl

  -- a loop over a table: its start, a turn, a refusal, its end
  pub first-start : (n : ℕ) → first_of check 0 n ≡ first_of check 0 (n - 0)
  first-start n = rw (sub-zero n) refl

  pub first-turn : (n i : ℕ) → i < n → is_refused (check i) ≡ false → first_of check i (n - i) ≡ first_of check (i + 1) (n - (i + 1))
  first-turn n i h e = first-open n i h ∙ go_on (check i) _ e

  pub first-stop : (n i : ℕ) → i < n → is_refused (check i) ≡ true → first_of check i (n - i) ≡ check i
  first-stop n i h e = first-open n i h ∙ stop (check i) _ e

  pub first-end : (n i : ℕ) → n ≤ i → first_of check i (n - i) ≡ Ok tt
  unfolding first_of
  first-end n i h =
      let e : n - i ≡ 0 = omega arith in
      rw e refl

  -- where none refuses, each accepts
  pub first-all : (n i : ℕ) → first_of check i n ≡ Ok tt → (j : ℕ) → i ≤ j → j < i + n → check j ≡ Ok tt
  unfolding first_of
  first-all zero i e j a b = absurd (omega arith)
  first-all (suc n) i e j a b = by_place (λ u v w. first-all n (suc i) u j v w) (check i) refl e (ℕ_discrete i j)
    where
      by_place : (first_of check (suc i) n ≡ Ok tt → suc i ≤ j → j < suc i + n → check j ≡ Ok tt) → (v : Verdict) → check i ≡ v → (v or_else first_of check (suc i) n) ≡ Ok tt → Dec (i ≡ j) → check j ≡ Ok tt
      by_place rest (Ok tt) q k (yes p) = rw (← p) q
      by_place rest (Ok tt) q k (no p) = rest k (omega arith) (omega arith)
      by_place rest (Err x) q k d = cc
