-- Ranges share a byte exactly where the test says so. Assumes nothing.
use mathlib.Core.Path.{◌≡◌, refl, sym, ◌∙◌}
use mathlib.Core.Bool.{Bool, true, false, not, ◌&&◌}
use mathlib.Core.List.{List, [], ◌∷◌}
use Prim.Native.Nat.{ℕ, ◌+◌, ◌≤◌, ◌<◌}
use native.Mathlib.Decide.{dec_le}
use native.Mathlib.Omega.{arith}
use native.Mathlib.Numerals.{add-one}
use lib.Dec.{eqb}
use lib.ListN.{length, get_or, take, drop, drop_of_length-le}
use lib.Seq.{length-take-le, drop-cons, get_or-take}
use borrow.Author.Tests.{eq-eqb, ne_eqb, eqb-false, ltb-true, not-true}
use Rattle.std.specs.List.{list_any}
use Rattle.word.specs.Test.{past}
use Rattle.word.proofs.Test.{and_first, and_second, or-first, or-second, past-yes}
use Rattle.format.specs.declared.FileRange.{FileRange}
use Rattle.format.specs.Range.{range}
use Rattle.shared_range.specs.Shared.{Holds, shares, shares_one, shares_two, Disjoint, DisjointAll, Separate}

past-told : (from size end : ℕ) → past from size end ≡ true → end < from + size
unfolding past
past-told from size end h = ltb-true end (from + size) h

-- ---- the test

module _ (a b : FileRange) where
  -- empty ranges share nothing
  pub first-empty : a.length ≡ 0 → false ≡ shares a b
  unfolding shares
  first-empty e = rw (eq-eqb a.length 0 e) refl

  pub second_empty : b.length ≡ 0 → false ≡ shares a b
  unfolding shares
  second_empty e = rw (eq-eqb b.length 0 e) (no-and (not (eqb a.length 0)))
    where
      no-and : (t : Bool) → false ≡ (t && false)
      no-and true = refl
      no-and false = refl

  -- others by their ends
  by-ends : (a.length ≡ 0 → ⊥) → (b.length ≡ 0 → ⊥) → shares a b ≡ (past b.start.0 b.length a.start.0 && past a.start.0 a.length b.start.0)
  unfolding shares
  by-ends n m = rw (ne_eqb a.length 0 n, ne_eqb b.length 0 m) refl

  pub both_ends : {t : Bool} → (a.length ≡ 0 → ⊥) → (b.length ≡ 0 → ⊥) → past b.start.0 b.length a.start.0 ≡ true → t ≡ past a.start.0 a.length b.start.0 → t ≡ shares a b
  both_ends n m e h = h ∙ sym (by-ends n m ∙ rw e refl)

  pub not-both : {t : Bool} → (a.length ≡ 0 → ⊥) → (b.length ≡ 0 → ⊥) → t ≡ past b.start.0 b.length a.start.0 → t ≡ false → t ≡ shares a b
  not-both n m e h = h ∙ sym (by-ends n m ∙ rw (sym e ∙ h) refl)

  -- ranges that hold one byte share it
  pub shared-told : (k : ℕ) → Holds a k → Holds b k → shares a b ≡ true
  shared-told k h g =
      let al = h.low in
      let ah = h.high in
      let bl = g.low in
      let bh = g.high in
      by-ends (omega arith) (omega arith)
      ∙ rw (past-yes b.start.0 b.length a.start.0 (omega arith), past-yes a.start.0 a.length b.start.0 (omega arith)) refl

  -- ranges that are told to share a byte have one in common
  pub shared-byte : shares a b ≡ true → (k : ℕ) × Holds a k × Holds b k
  unfolding shares
  shared-byte e =
      let an = eqb-false a.length 0 (not-true (eqb a.length 0) (and_first (not (eqb a.length 0)) _ e)) in
      let rest = and_second (not (eqb a.length 0)) _ e in
      let bn = eqb-false b.length 0 (not-true (eqb b.length 0) (and_first (not (eqb b.length 0)) _ rest)) in
      let meet = and_second (not (eqb b.length 0)) _ rest in
      let ab = past-told b.start.0 b.length a.start.0 (and_first (past b.start.0 b.length a.start.0) _ meet) in
      let ba = past-told a.start.0 a.length b.start.0 (and_second (past b.start.0 b.length a.start.0) _ meet) in
      by_order (dec_le a.start.0 b.start.0) an bn ab ba
    where
      by_order : Dec (a.start.0 ≤ b.start.0) → (a.length ≡ 0 → ⊥) → (b.length ≡ 0 → ⊥) → a.start.0 < b.start.0 + b.length → b.start.0 < a.start.0 + a.length → (k : ℕ) × Holds a k × Holds b k
      by_order (yes c) an bn ab ba = (b.start.0, record { low = c; high = ba }, record { low = omega arith; high = omega arith })
      by_order (no c) an bn ab ba = (a.start.0, record { low = omega arith; high = omega arith }, record { low = omega arith; high = ab })

-- ---- no two share a byte

pub apart : (a b : FileRange) → shares a b ≡ false → Disjoint a b
apart a b e = record { none = λ k h g. let z : true ≡ false = sym (shared-told a b k h g) ∙ e in absurd (let y : ◌≡◌ {A = ℕ} 0 1 = cc in omega arith) }

pub apart-all : (a : FileRange) (rs : List FileRange) → shares_one a rs ≡ false → DisjointAll a rs
unfolding shares_one
apart-all a [] e = tt
apart-all a (b ∷ rs) e = (apart a b (or-first (shares a b) (shares_one a rs) e), apart-all a rs (or-second (shares a b) (shares_one a rs) e))

-- where no two are told to share a byte, none do
pub separate : (rs : List FileRange) → shares_two rs ≡ false → Separate rs
unfolding shares_two
separate [] e = tt
separate (a ∷ rs) e = (apart-all a rs (or-first (shares_one a rs) (shares_two rs) e), separate rs (or-second (shares_one a rs) (shares_two rs) e))

-- and the other way: where no two share a byte, none are told to
apart-told : (a b : FileRange) → Disjoint a b → shares a b ≡ false
apart-told a b d = by-test (shares a b) refl
  where
    by-test : (t : Bool) → shares a b ≡ t → t ≡ false
    by-test true e = absurd (let s = shared-byte a b e in d.none s.0 s.1 s.2)
    by-test false e = refl

apart-all-told : (a : FileRange) (rs : List FileRange) → DisjointAll a rs → shares_one a rs ≡ false
unfolding shares_one
apart-all-told a [] d = refl
apart-all-told a (b ∷ rs) d = rw (apart-told a b d.0, apart-all-told a rs d.1) refl

pub separate-told : (rs : List FileRange) → Separate rs → shares_two rs ≡ false
unfolding shares_two
separate-told [] d = refl
separate-told (a ∷ rs) d = rw (apart-all-told a rs d.0, separate-told rs d.1) refl

-- ---- loops over the first n of an array of ranges

pub one-any : (a : FileRange) (rs : List FileRange) → list_any (shares a) rs ≡ shares_one a rs
unfolding shares_one
one-any a [] = refl
one-any a (b ∷ rs) = rw (one-any a rs) refl

module _ (rs : List FileRange) (n : ℕ) (k : n ≤ length rs) where
  abbrev left : ℕ → List FileRange
  left i = drop i (take n rs)

  first-left : (i : ℕ) → i < n → left i ≡ get_or rs i (range 0 0) ∷ left (i + 1)
  first-left i h =
      let l : i < length (take n rs) = rw (length-take-le n rs k) h in
      rw (drop-cons (take n rs) i (range 0 0) l, get_or-take n rs i (range 0 0) h, add-one i) refl

  none_left : (i : ℕ) → n ≤ i → left i ≡ []
  none_left i h = drop_of_length-le (take n rs) {i = i} (rw (length-take-le n rs k) h)

  pub two-found : (i : ℕ) → i < n → shares_one (get_or rs i (range 0 0)) (left (i + 1)) ≡ true → true ≡ shares_two (left i)
  unfolding shares_two
  two-found i h e = rw (first-left i h, e) refl

  pub two-next : (i : ℕ) → i < n → shares_one (get_or rs i (range 0 0)) (left (i + 1)) ≡ false → shares_two (left (i + 1)) ≡ shares_two (left i)
  unfolding shares_two
  two-next i h e = rw (first-left i h, e) refl

  pub two-end : (i : ℕ) → n ≤ i → shares_two (left i) ≡ false
  unfolding shares_two
  two-end i h = rw (none_left i h) refl
