-- The laws of zeros: the first, the last, how many. Assumes nothing.
use mathlib.Core.Path.{◌≡◌, refl}
use mathlib.Core.Bool.{Bool, true, false, cond, not, ◌||◌}
use mathlib.Core.List.{List, [], ◌∷◌}
use Prim.Native.Nat.{ℕ, zero, suc, ◌+◌, ◌-◌, ◌≤◌, ◌<◌, suc-le-suc, zero-le}
use native.Mathlib.Decide.{ℕ_discrete, dec_le}
use native.Mathlib.Nat.{add-zero, zero-add, suc-add}
use native.Mathlib.Numerals.{add-one}
use native.Mathlib.Omega.{arith}
use borrow.Author.Tests.{eq-eqb, ne_eqb, lt-ltb, le-ltb, ltb-false}
use lib.Dec.{eqb, ltb}
use lib.ListN.{length, get_or, take, drop, drop_of_length-le, length-drop}
use lib.Seq.{drop-cons, drop-drop, take_all}
use Rattle.std.proofs.Common.{Some, None}
use Rattle.std.specs.List.{position, position_or_len}
use Rattle.std.specs.Option.{unwrap_or}
use Rattle.word.specs.Zero.{first_zero, zeros_in, end_before, zero_end}

-- a zero at i, and something else at i
pub zero-here : (s : List ℕ) (i : ℕ) → i < length s → get_or s i 0 ≡ 0 → first_zero (drop i s) ≡ 0
unfolding first_zero
zero-here s i h e = rw (drop-cons s i 0, e)

pub zero-later : (s : List ℕ) (i : ℕ) → i < length s → (get_or s i 0 ≡ 0 → ⊥) → first_zero (drop i s) ≡ suc (first_zero (drop (i + 1) s))
unfolding first_zero
zero-later s i h n = rw (add-one, drop-cons s i 0, ne_eqb (get_or s i 0) 0 n)

-- one element more is counted
pub zeros-more : (s : List ℕ) (i : ℕ) → i < length s → zeros_in (drop i s) ≡ zeros_in (get_or s i 0 ∷ []) + zeros_in (drop (i + 1) s)
unfolding zeros_in
zeros-more s i h = rw (add-one, drop-cons s i 0) (by-test (eqb (get_or s i 0) 0) (zeros_in (drop (suc i) s)))
  where
    by-test : (b : Bool) (n : ℕ) → cond b (suc n) n ≡ cond b 1 0 + n
    by-test true n = omega arith
    by-test false n = omega arith

pub zeros-end : (s : List ℕ) (i : ℕ) → length s ≤ i → zeros_in (drop i s) ≡ 0
unfolding zeros_in
zeros-end s i h = rw (drop_of_length-le s h)

-- whether there is one: the answer so far, or one from i on
pub zero-among : (s : List ℕ) (i : ℕ) (b : Bool) → i < length s → (b || ltb 0 (zeros_in (drop i s))) ≡ (eqb (get_or s i 0) 0 || b || ltb 0 (zeros_in (drop (i + 1) s)))
unfolding zeros_in
zero-among s i b h = rw (add-one, drop-cons s i 0) (by-test (eqb (get_or s i 0) 0) b (zeros_in (drop (suc i) s)))
  where
    by-test : (a b : Bool) (n : ℕ) → (b || ltb 0 (cond a (suc n) n)) ≡ (a || b || ltb 0 n)
    by-test true true n = refl
    by-test true false n = lt-ltb 0 (suc n) (omega arith)
    by-test false true n = refl
    by-test false false n = refl

pub zero-among-none : (s : List ℕ) (i : ℕ) (b : Bool) → length s ≤ i → (b || ltb 0 (zeros_in (drop i s))) ≡ b
zero-among-none s i true h = refl
zero-among-none s i false h = rw (zeros-end s i h) (le-ltb 0 0 (omega arith))

pub no_zero : (s : List ℕ) → ltb 0 (zeros_in s) ≡ false → zeros_in s ≡ 0
no_zero s e = omega (arith, ltb-false 0 (zeros_in s) e)

-- there are no more than elements
pub zeros-few : (s : List ℕ) → zeros_in s ≤ length s
unfolding zeros_in
zeros-few [] = zero-le
zeros-few (x ∷ xs) = by-test (eqb x 0) (zeros-few xs)
  where
    by-test : (b : Bool) → zeros_in xs ≤ length xs → cond b (suc (zeros_in xs)) (zeros_in xs) ≤ suc (length xs)
    by-test true h = suc-le-suc h
    by-test false h = omega arith

-- a list is counted in two parts
zeros-split : (d : ℕ) (s : List ℕ) → zeros_in s ≡ zeros_in (take d s) + zeros_in (drop d s)
unfolding zeros_in
zeros-split zero s = omega arith
zeros-split (suc d) [] = omega arith
zeros-split (suc d) (x ∷ xs) = by-test (eqb x 0) (zeros-split d xs)
  where
    by-test : (b : Bool) → zeros_in xs ≡ zeros_in (take d xs) + zeros_in (drop d xs) → cond b (suc (zeros_in xs)) (zeros_in xs) ≡ cond b (suc (zeros_in (take d xs))) (zeros_in (take d xs)) + zeros_in (drop d xs)
    by-test true h = omega arith
    by-test false h = h

-- the first zero of a list that starts with a block without one lies behind the block
zero-behind : (d : ℕ) (s : List ℕ) → d ≤ length s → zeros_in (take d s) ≡ 0 → first_zero s ≡ d + first_zero (drop d s)
unfolding first_zero zeros_in
zero-behind zero s h e = omega arith
zero-behind (suc d) [] h e = absurd (omega arith)
zero-behind (suc d) (x ∷ xs) h e = by-test (eqb x 0) (zero-behind d xs (omega arith)) e
  where
    by-test : (b : Bool) → (zeros_in (take d xs) ≡ 0 → first_zero xs ≡ d + first_zero (drop d xs)) → cond b (suc (zeros_in (take d xs))) (zeros_in (take d xs)) ≡ 0 → cond b 0 (suc (first_zero xs)) ≡ suc d + first_zero (drop d xs)
    by-test true rest e = absurd (omega arith)
    by-test false rest e = omega (arith, rest e)

-- the two laws for the block from `at` to `end`
pub zeros-block : (s : List ℕ) (at end : ℕ) → at ≤ end → zeros_in (drop at s) ≡ zeros_in (take (end - at) (drop at s)) + zeros_in (drop end s)
zeros-block s at end h =
    let e : at + (end - at) ≡ end = omega arith in
    rw (zeros-split (end - at) (drop at s), drop-drop (end - at) at s, e)

pub zero-block : (s : List ℕ) (at end : ℕ) → at ≤ end → end ≤ length s → zeros_in (take (end - at) (drop at s)) ≡ 0 → at + first_zero (drop at s) ≡ end + first_zero (drop end s)
zero-block s at end h l z =
    let e : at + (end - at) ≡ end = omega arith in
    let behind = rw (drop-drop (end - at) at s, e) at (zero-behind (end - at) (drop at s) (rw (length-drop at s) (omega arith)) z) in
    omega arith

-- the part of a slice from a place to its end
pub rest_all : (s : List ℕ) (at : ℕ) → take (length s - at) (drop at s) ≡ drop at s
rest_all s at = take_all (length s - at) (drop at s) (rw (length-drop at s) (omega arith))

-- the first zero is never past the end
pub zero-within : (s : List ℕ) → first_zero s ≤ length s
unfolding first_zero
zero-within [] = zero-le
zero-within (x ∷ xs) = by-test (eqb x 0) (zero-within xs)
  where
    by-test : (b : Bool) → first_zero xs ≤ length xs → cond b 0 (suc (first_zero xs)) ≤ suc (length xs)
    by-test true h = zero-le
    by-test false h = suc-le-suc h

-- it is the place that a search gives, or the length
first-place : (s : List ℕ) → position_or_len (λ x. eqb x 0) s ≡ first_zero s
unfolding first_zero
first-place [] = refl
first-place (x ∷ xs) = by-test (eqb x 0) (first-place xs)
  where
    by-test : (b : Bool) → position_or_len (λ x. eqb x 0) xs ≡ first_zero xs → cond (not b) (1 + position_or_len (λ x. eqb x 0) xs) 0 ≡ cond b 0 (suc (first_zero xs))
    by-test true h = refl
    by-test false h = omega (arith, h)

pub first-position : (s : List ℕ) → unwrap_or (position (λ x. eqb x 0) s) (length s) ≡ first_zero s
first-position s = rw (first-place s) (by-test (ltb (first_zero s) (length s)) refl (zero-within s))
  where
    by-test : (b : Bool) → ltb (first_zero s) (length s) ≡ b → first_zero s ≤ length s → unwrap_or (cond b (Some (first_zero s)) None) (length s) ≡ first_zero s
    by-test true e h = refl
    by-test false e h = omega (arith, ltb-false (first_zero s) (length s) e)

-- behind the first zero there is one zero less
pub zero-counted : (s : List ℕ) → 0 < zeros_in s → (first_zero s < length s) × (zeros_in s ≡ suc (zeros_in (drop (suc (first_zero s)) s)))
unfolding first_zero zeros_in
zero-counted [] h = absurd (omega arith)
zero-counted (x ∷ xs) h = by-test (eqb x 0) (zero-counted xs) h
  where
    by-test : (b : Bool) → (0 < zeros_in xs → (first_zero xs < length xs) × (zeros_in xs ≡ suc (zeros_in (drop (suc (first_zero xs)) xs)))) → 0 < cond b (suc (zeros_in xs)) (zeros_in xs)
        → (cond b 0 (suc (first_zero xs)) < suc (length xs)) × (cond b (suc (zeros_in xs)) (zeros_in xs) ≡ suc (zeros_in (drop (cond b 0 (suc (first_zero xs))) xs)))
    by-test true rest k = (omega arith, refl)
    by-test false rest k = let r = rest k in (omega arith, r.1)

-- a zero d places after o is found from o
zero-by : (s : List ℕ) (d o : ℕ) → o + d < length s → get_or s (o + d) 0 ≡ 0 → first_zero (drop o s) ≤ d
zero-by s zero o h e = rw (zero-here s o (omega arith) (rw (add-zero o) at e)) zero-le
zero-by s (suc d) o h e =
    let same : o + suc d ≡ o + 1 + d = omega arith in
    by_first (zero-by s d (o + 1) (omega arith) (rw same at e)) (ℕ_discrete (get_or s o 0) 0)
  where
    by_first : first_zero (drop (o + 1) s) ≤ d → Dec (get_or s o 0 ≡ 0) → first_zero (drop o s) ≤ suc d
    by_first rest (yes z) = rw (zero-here s o (omega arith) z) zero-le
    by_first rest (no z) = rw (zero-later s o (omega arith) z) (suc-le-suc rest)

-- where none of n places from o is a zero, none is found among them
zero-absent : (s : List ℕ) (n o : ℕ) → o + n ≤ length s → ((k : ℕ) → o ≤ k → k < length s → get_or s k 0 ≡ 0 → ⊥) → n ≤ first_zero (drop o s)
zero-absent s zero o h none = zero-le
zero-absent s (suc n) o h none =
    rw (zero-later s o (omega arith) (none o (omega arith) (omega arith))) (suc-le-suc (zero-absent s n (o + 1) (omega arith) (λ k a b. none k (omega arith) b)))

-- n is one past the last zero of s, or 0 where there is none
pub record ZeroEnd (s : List ℕ) (n : ℕ) : Type 0 where
  pub within : n ≤ length s
  pub after : (k : ℕ) → n ≤ k → k < length s → get_or s k 0 ≡ 0 → ⊥
  pub last : 0 < n → get_or s (n - 1) 0 ≡ 0

-- that is what the definition gives
zero-ends : (s : List ℕ) → ZeroEnd s (zero_end s)
unfolding zero_end
zero-ends [] = record { within = zero-le; after = λ k a b e. omega arith; last = λ h. absurd (omega arith) }
zero-ends (x ∷ xs) = by-rest (zero_end xs) (zero-ends xs) (ℕ_discrete x 0)
  where
    next : (n : ℕ) → ZeroEnd xs n → (k : ℕ) → n ≤ k → suc k < suc (length xs) → get_or xs k 0 ≡ 0 → ⊥
    next n z k a b e = z.after k a (omega arith) e

    behind : (n : ℕ) → ZeroEnd xs n → (k : ℕ) → suc n ≤ k → k < suc (length xs) → get_or (x ∷ xs) k 0 ≡ 0 → ⊥
    behind n z zero a b e = omega arith
    behind n z (suc k) a b e = next n z k (omega arith) b e

    none : (x ≡ 0 → ⊥) → ZeroEnd xs 0 → (k : ℕ) → k < suc (length xs) → get_or (x ∷ xs) k 0 ≡ 0 → ⊥
    none p z zero b e = p e
    none p z (suc k) b e = next 0 z k (omega arith) b e

    by-rest : (n : ℕ) → ZeroEnd xs n → Dec (x ≡ 0) → ZeroEnd (x ∷ xs) (end_before (eqb x 0) n)
    by-rest (suc n) z d =
        let w = z.within in
        let p : suc (suc n) - 1 ≡ suc n = omega arith in
        let q : suc n - 1 ≡ n = omega arith in
        record { within = omega arith; after = behind (suc n) z; last = λ h. rw p (rw q at (z.last (omega arith))) }
    by-rest zero z (yes e) = rw (eq-eqb x 0 e) record { within = omega arith; after = behind 0 z; last = λ h. e }
    by-rest zero z (no p) = rw (ne_eqb x 0 p) record { within = zero-le; after = λ k a b e. none p z k b e; last = λ h. absurd (omega arith) }

-- and nothing else is
pub zero-end-is : (s : List ℕ) (n : ℕ) → ZeroEnd s n → n ≡ zero_end s
zero-end-is s n z = by_order (dec_le n (zero_end s)) (dec_le (zero_end s) n)
  where
    below : (a b : ℕ) → ZeroEnd s a → ZeroEnd s b → a < b → ⊥
    below a b y z h = let w = z.within in y.after (b - 1) (omega arith) (omega arith) (z.last (omega arith))

    by_order : Dec (n ≤ zero_end s) → Dec (zero_end s ≤ n) → n ≡ zero_end s
    by_order (yes a) (yes b) = omega arith
    by_order (no a) d = absurd (below (zero_end s) n (zero-ends s) z (omega arith))
    by_order (yes a) (no b) = absurd (below n (zero_end s) z (zero-ends s) (omega arith))

pub zero-end-within : (s : List ℕ) → zero_end s ≤ length s
zero-end-within s = (zero-ends s).within

-- exactly the places below it have a zero at or after them
pub zero-known : (s : List ℕ) (o : ℕ) → o < zero_end s → first_zero (drop o s) < length s - o
zero-known s o h =
    let n = zero_end s in
    let z = zero-ends s in
    let w = z.within in
    let place : o + (n - 1 - o) ≡ n - 1 = omega arith in
    let found = zero-by s (n - 1 - o) o (omega arith) (rw place (z.last (omega arith))) in
    omega arith

pub zero-unknown : (s : List ℕ) (o : ℕ) → zero_end s ≤ o → length s - o ≤ first_zero (drop o s)
zero-unknown s o h = by_end (dec_le o (length s))
  where
    by_end : Dec (o ≤ length s) → length s - o ≤ first_zero (drop o s)
    by_end (yes l) = zero-absent s (length s - o) o (omega arith) (λ k a b. (zero-ends s).after k (omega arith) b)
    by_end (no l) = let e : length s - o ≡ 0 = omega arith in rw e zero-le

-- without a zero there is no last one
zero-end-none : (s : List ℕ) → zeros_in s ≡ 0 → zero_end s ≡ 0
unfolding zero_end zeros_in
zero-end-none [] e = refl
zero-end-none (x ∷ xs) e = by-test (eqb x 0) (zero-end-none xs) e
  where
    by-test : (b : Bool) → (zeros_in xs ≡ 0 → zero_end xs ≡ 0) → cond b (suc (zeros_in xs)) (zeros_in xs) ≡ 0 → end_before b (zero_end xs) ≡ 0
    by-test true rest e = absurd (omega arith)
    by-test false rest e = rw (rest e)

-- a block without one at the end leaves the last zero where it is
zero-end-before : (i d : ℕ) (s : List ℕ) → zeros_in (take d (drop i s)) ≡ 0 → zero_end (take (i + d) s) ≡ zero_end (take i s)
unfolding zero_end
zero-end-before zero d s e = rw (zero-add d, zero-end-none (take d s) e)
zero-end-before (suc i) d [] e = rw (suc-add i d)
zero-end-before (suc i) d (x ∷ xs) e = rw (suc-add i d, zero-end-before i d xs e)

pub zero-end-block : (s : List ℕ) (at end : ℕ) → at ≤ end → zeros_in (take (end - at) (drop at s)) ≡ 0 → zero_end (take end s) ≡ zero_end (take at s)
zero-end-block s at end h z =
    let e : at + (end - at) ≡ end = omega arith in
    rw e at (zero-end-before at (end - at) s z)
