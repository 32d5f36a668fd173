-- Laws of the search for a module's sections. Assumes nothing.
use Prim.Native.Nat.{ℕ, zero, suc, ◌+◌, ◌-◌, ◌≤◌, ◌<◌}
use mathlib.Core.Path.{◌≡◌, refl, sym, ◌∙◌, ap}
use mathlib.Core.Bool.{Bool, true, false, cond, ◌&&◌, ◌||◌}
use mathlib.Core.List.{List}
use native.Mathlib.Numerals.{add-one}
use native.Mathlib.Omega.{arith}
use lib.Dec.{eqb}
use borrow.Author.Tests.{eqb-true}
use Rattle.word.proofs.Test.{and_first, and_second}
use Rattle.refusal.specs.declared.Refusal.TheVariants.{Thread}
use Rattle.refusal.specs.declared.ThreadItem.TheVariants.{ThreadSection}
use Rattle.refusal.specs.Refusal.{is_refused}
use Rattle.refusal.proofs.Order.{refused-if}
use Rattle.section.specs.declared.Section.{Section}
use Rattle.header.specs.declared.Summary.{Summary}
use Rattle.parts.specs.declared.Tallies.{Tallies}
use Rattle.parts.specs.Sections.{flag_at, tally, tally_of, tallies_of, one_each, thread_at}
use Rattle.std.specs.Prelude.{Err}

-- one section more
pub tally-more : (sections : List Section) (flag i : ℕ) {b : Bool} → b ≡ eqb (flag_at sections i) flag → cond b (record { count = (tally sections flag i).count + 1; last = i + 1 }) (tally sections flag i) ≡ tally sections flag (i + 1)
unfolding tally
tally-more sections flag i {b} e = same ∙ ap (tally sections flag) (sym (add-one i))
  where
    same : cond b (record { count = (tally sections flag i).count + 1; last = i + 1 }) (tally sections flag i) ≡ tally sections flag (suc i)
    same = rw e

-- a tally counts no more sections than there are, and its last is among them
pub tally-few : (sections : List Section) (flag n : ℕ) → ((tally sections flag n).count ≤ n) × ((tally sections flag n).last ≤ n)
unfolding tally
tally-few sections flag zero = (omega arith, omega arith)
tally-few sections flag (suc i) = by-test (eqb (flag_at sections i) flag) (tally-few sections flag i)
  where
    by-test : (b : Bool) → ((tally sections flag i).count ≤ i) × ((tally sections flag i).last ≤ i) → ((cond b (record { count = (tally sections flag i).count + 1; last = i + 1 }) (tally sections flag i)).count ≤ suc i) × ((cond b (record { count = (tally sections flag i).count + 1; last = i + 1 }) (tally sections flag i)).last ≤ suc i)
    by-test true h = (omega arith, omega arith)
    by-test false h = (omega arith, omega arith)

-- where one was counted there is a last one
pub tally-some : (sections : List Section) (flag n : ℕ) → 0 < (tally sections flag n).count → 0 < (tally sections flag n).last
unfolding tally
tally-some sections flag zero h = absurd (omega arith)
tally-some sections flag (suc i) h = by-test (eqb (flag_at sections i) flag) (tally-some sections flag i) h
  where
    by-test : (b : Bool) → (0 < (tally sections flag i).count → 0 < (tally sections flag i).last) → 0 < (cond b (record { count = (tally sections flag i).count + 1; last = i + 1 }) (tally sections flag i)).count → 0 < (cond b (record { count = (tally sections flag i).count + 1; last = i + 1 }) (tally sections flag i)).last
    by-test true k h = omega arith
    by-test false k h = k h

-- and it is of the kind
tally-kind : (sections : List Section) (flag n : ℕ) → 0 < (tally sections flag n).count → flag_at sections ((tally sections flag n).last - 1) ≡ flag
unfolding tally
tally-kind sections flag zero h = absurd (omega arith)
tally-kind sections flag (suc i) h = by-test (eqb (flag_at sections i) flag) refl (tally-kind sections flag i) h
  where
    by-test : (b : Bool) → eqb (flag_at sections i) flag ≡ b → (0 < (tally sections flag i).count → flag_at sections ((tally sections flag i).last - 1) ≡ flag)
        → 0 < (cond b (record { count = (tally sections flag i).count + 1; last = i + 1 }) (tally sections flag i)).count
        → flag_at sections ((cond b (record { count = (tally sections flag i).count + 1; last = i + 1 }) (tally sections flag i)).last - 1) ≡ flag
    by-test true e k h = let q : i + 1 - 1 ≡ i = omega arith in rw q (eqb-true (flag_at sections i) flag e)
    by-test false e k h = k h

-- two kinds that are there have different numbers
kinds-apart : (y : Summary) (a b : ℕ) → 0 < (tally_of y a).count → 0 < (tally_of y b).count → (a ≡ b → ⊥) → (tally_of y a).last ≡ (tally_of y b).last → ⊥
kinds-apart y a b h k n e = n (sym (tally-kind y.sections a y.count h) ∙ ap (λ (i : ℕ). flag_at y.sections (i - 1)) e ∙ tally-kind y.sections b y.count k)

-- a kind that is there once has its number among the sections
pub one_known : (y : Summary) (flag : ℕ) → eqb (tally_of y flag).count 1 ≡ true → (0 < (tally_of y flag).last) × ((tally_of y flag).last ≤ y.count)
one_known y flag e =
    let one = eqb-true (tally_of y flag).count 1 e in
    (tally-some y.sections flag y.count (omega arith), (tally-few y.sections flag y.count).1)

pub record Known (y : Summary) (t : Tallies) : Type 0 where
  pub text : (0 < t.text.last) × (t.text.last ≤ y.count)
  pub «data» : (0 < t.«data».last) × (t.«data».last ≤ y.count)
  pub bss : (0 < t.bss.last) × (t.bss.last ≤ y.count)
  pub loader : (0 < t.loader.last) × (t.loader.last ≤ y.count)
  -- neither data nor bss is the text section
  pub apart : (t.«data».last ≡ t.text.last → ⊥) × (t.bss.last ≡ t.text.last → ⊥)

all_known : (y : Summary) → one_each (tallies_of y) ≡ true → Known y (tallies_of y)
unfolding one_each tallies_of
all_known y e =
    let a = eqb (tally_of y 0x0020).count 1 in
    let b = eqb (tally_of y 0x0040).count 1 in
    let c = eqb (tally_of y 0x0080).count 1 in
    let d = eqb (tally_of y 0x1000).count 1 in
    let abc = and_first (a && b && c) d e in
    let ab = and_first (a && b) c abc in
    let text = eqb-true (tally_of y 0x0020).count 1 (and_first a b ab) in
    let «data» = eqb-true (tally_of y 0x0040).count 1 (and_second a b ab) in
    let bss = eqb-true (tally_of y 0x0080).count 1 (and_second (a && b) c abc) in
    record {
      text = one_known y 0x0020 (and_first a b ab);
      «data» = one_known y 0x0040 (and_second a b ab);
      bss = one_known y 0x0080 (and_second (a && b) c abc);
      loader = one_known y 0x1000 (and_second (a && b && c) d e);
      apart = (
        kinds-apart y 0x0040 0x0020 (omega (arith, «data»)) (omega (arith, text)) (λ z. omega arith),
        kinds-apart y 0x0080 0x0020 (omega (arith, bss)) (omega (arith, text)) (λ z. omega arith),
      );
    }

pub each-known : (y : Summary) {t : Tallies} → t ≡ tallies_of y → one_each t ≡ true → Known y t
each-known y q e = rw q (all_known y (rw q at e))

-- a section refuses exactly where it is thread-local
pub thread-told : (sections : List Section) (i : ℕ) {b : Bool} → b ≡ (eqb (flag_at sections i) 0x0400 || eqb (flag_at sections i) 0x0800) → is_refused (thread_at sections i) ≡ b
unfolding thread_at
thread-told sections i e = rw (← e) (refused-if _ _)

pub thread-refused : (sections : List Section) (i : ℕ) → (eqb (flag_at sections i) 0x0400 || eqb (flag_at sections i) 0x0800) ≡ true → thread_at sections i ≡ Err (Thread (ThreadSection (record { 0 = i + 1 })))
unfolding thread_at
thread-refused sections i e = rw e
