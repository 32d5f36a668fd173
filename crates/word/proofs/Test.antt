-- The laws of tests that every crate cites. Assumes nothing.
use mathlib.Core.Path.{◌≡◌, refl, sym, ◌∙◌}
use mathlib.Core.Bool.{Bool, true, false, cond, ◌&&◌, ◌||◌}
use Prim.Native.Nat.{ℕ, ◌+◌, ◌≤◌, ◌<◌}
use borrow.Author.Tests.{lt-ltb, le-ltb, ltb-true, ltb-false}
use lib.Dec.{ltb}
use Rattle.word.specs.Test.{past}

-- what holds of both cases of a choice, each under its test, holds of the choice
pub either : {A : Type 0} (P : A → Type 0) (b : Bool) {x y : A} → (b ≡ true → P x) → (b ≡ false → P y) → P (cond b x y)
either P true h k = h refl
either P false h k = k refl

-- a choice whose test is false, and one whose test is true
pub skip : {A : Type 0} {b : Bool} {z : A} (x y : A) → b ≡ false → z ≡ y → z ≡ cond b x y
skip x y e h = rw e h

pub here : {A : Type 0} {b : Bool} {z : A} (x y : A) → b ≡ true → z ≡ x → z ≡ cond b x y
here x y e h = rw e h

-- both parts of a conjunction that holds, and of a disjunction that does not
pub and_first : (a b : Bool) → (a && b) ≡ true → a ≡ true
and_first true b e = refl
and_first false b e = e

pub and_second : (a b : Bool) → (a && b) ≡ true → b ≡ true
and_second true b e = e
and_second false b e = cc

pub or-first : (a b : Bool) → (a || b) ≡ false → a ≡ false
or-first true b e = e
or-first false b e = refl

pub or-second : (a b : Bool) → (a || b) ≡ false → b ≡ false
or-second true b e = cc
or-second false b e = e

-- what one value is by two accounts of it
pub found : {A : Type 0} {r x y : A} → r ≡ x → r ≡ y → x ≡ y
found p q = sym p ∙ q

-- `past` from the numbers, and back
pub past-yes : (from size end : ℕ) → end < from + size → past from size end ≡ true
unfolding past
past-yes from size end h = lt-ltb end (from + size) h

pub past-no : (from size end : ℕ) → from + size ≤ end → past from size end ≡ false
unfolding past
past-no from size end h = le-ltb end (from + size) h

pub past-not : (from size end : ℕ) → past from size end ≡ false → from + size ≤ end
unfolding past
past-not from size end h = ltb-false end (from + size) h

-- `past` by another comparison
pub past_by : (a b from size end : ℕ) → (a < b → end < from + size) → (b ≤ a → from + size ≤ end) → ltb a b ≡ past from size end
past_by a b from size end over under = decide (ltb a b) refl
  where
    decide : (t : Bool) → ltb a b ≡ t → t ≡ past from size end
    decide true e = sym (past-yes from size end (over (ltb-true a b e)))
    decide false e = sym (past-no from size end (under (ltb-false a b e)))
