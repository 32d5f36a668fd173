-- The addresses by section number, and that their differences are a build's and a move's shifts. Assumes nothing.
use Prim.Native.Nat.{ℕ, zero, suc, ◌+◌, ◌≤◌, ◌<◌}
use mathlib.Core.Path.{◌≡◌, refl, sym, ◌∙◌, ap, ap₂, fun_ext}
use mathlib.Core.Bool.{Bool, true, false, cond}
use mathlib.Core.List.{List}
use native.Mathlib.Decide.{dec_lt, ℕ_discrete}
use native.Mathlib.Numerals.{add-one}
use native.Mathlib.Omega.{arith}
use lib.ListN.{length, get_or, set, replicate, length-set, length-replicate, get_or-replicate, get_or-eq_default}
use lib.Seq.{get_or-set_same, get_or-set_other}
use lib.IntN.{ℤ, pos, neg_ℤ, ◌+ℤ◌, ◌-ℤ◌, +ℤ_comm, +ℤ_assoc, neg_ℤ-neg_ℤ, neg_ℤ-+ℤ, -ℤ-+ℤ_cancel}
use Rattle.section.specs.declared.Section.{Section}
use Rattle.file_tables.specs.Tables.{blank_section}
use Rattle.header.specs.declared.Summary.{Summary}
use Rattle.symbol.specs.declared.Tables.{Tables}
use Rattle.object_history.specs.Object.{Placed, Plan, unplaced, section_of, move_of, displacements, differences}
use Rattle.object_plan.specs.Object.{placed_at, placed_in, object_of}
use Rattle.object_plan.specs.Shifts.{address_shifts, numbers}
use Rattle.object_plan.specs.Ready.{ObjectReady}
use Rattle.object_plan.proofs.Ready.{object-sections, sections-few}
use Rattle.object_shifts.specs.Places.{placed_address, places_by, places_of, recorded_of}

-- ---- the sections

placed-in : (y : Summary) (i n k : ℕ) → k < n → get_or (placed_in y i n) k unplaced ≡ placed_at y (i + k)
unfolding placed_in
placed-in y i zero k h = absurd (omega arith)
placed-in y i (suc n) zero h = ap (placed_at y) (let e : i ≡ i + 0 = omega arith in e)
placed-in y i (suc n) (suc k) h = placed-in y (suc i) n k (omega arith) ∙ ap (placed_at y) (let e : suc i + k ≡ i + suc k = omega arith in e)

pub placed-length : (y : Summary) (i n : ℕ) → length (placed_in y i n) ≡ n
unfolding placed_in
placed-length y i zero = refl
placed-length y i (suc n) = ap suc (placed-length y (suc i) n)

pub placed-here : (y : Summary) (n k : ℕ) → k < n → get_or (placed_in y 0 n) k unplaced ≡ placed_at y k
placed-here y n k h = placed-in y 0 n k h ∙ ap (placed_at y) (let e : 0 + k ≡ k = omega arith in e)

placed_past : (y : Summary) (n k : ℕ) → n ≤ k → get_or (placed_in y 0 n) k unplaced ≡ unplaced
placed_past y n k h = get_or-eq_default (placed_in y 0 n) unplaced (omega (arith, placed-length y 0 n))

-- ---- the addresses

module _ (t : List Section) (a : ℕ → ℕ) where
  abbrev address_at : ℕ → ℕ
  address_at k = placed_address (get_or t k blank_section) (a k)

  places-length : (n : ℕ) → length (places_by t a n) ≡ numbers
  unfolding places_by
  places-length zero = length-replicate {A = ℕ} numbers 0
  places-length (suc n) = length-set (places_by t a n) (suc n) _ ∙ places-length n

  -- a number that none of the first n sections has
  places-other : (n j : ℕ) → ((k : ℕ) → k < n → j ≡ suc k → ⊥) → get_or (places_by t a n) j 0 ≡ 0
  unfolding places_by
  places-other zero j h = by (dec_lt j numbers)
    where
      by : Dec (j < numbers) → ◌≡◌ {A = ℕ} (get_or (replicate numbers 0) j 0) 0
      by (yes l) = get_or-replicate numbers j 0 0 l
      by (no l) = get_or-eq_default (replicate numbers 0) 0 {n = j} (omega (arith, length-replicate {A = ℕ} numbers 0))
  places-other (suc n) j h =
      get_or-set_other (places_by t a n) (suc n) j _ 0 (λ e. h n (omega arith) e) ∙ places-other n j (λ k l e. h k (omega arith) e)

  places-here : (n k : ℕ) → n < numbers → k < n → get_or (places_by t a n) (suc k) 0 ≡ address_at k
  unfolding places_by
  places-here zero k f l = absurd (omega arith)
  places-here (suc n) k f l = by (λ z. places-here n k (omega arith) z) (ℕ_discrete k n)
    where
      by : (k < n → get_or (places_by t a n) (suc k) 0 ≡ address_at k) → Dec (k ≡ n) → get_or (set (places_by t a n) (suc n) (address_at n)) (suc k) 0 ≡ address_at k
      by rest (yes e) = rw e (get_or-set_same (places_by t a n) (suc n) (address_at n) 0 (omega (arith, places-length n)))
      by rest (no e) = get_or-set_other (places_by t a n) (suc n) (suc k) (address_at n) 0 (λ z. e (omega arith)) ∙ rest (omega arith)

  -- a loop over the sections: its start, and a turn
  pub places-start : replicate numbers 0 ≡ places_by t a 0
  unfolding places_by
  places-start = refl

  pub places-turn : (k : ℕ) {out : List ℕ} {v : ℕ} → out ≡ places_by t a k → v ≡ address_at k → set out (k + 1) v ≡ places_by t a (k + 1)
  unfolding places_by
  places-turn k {out} {v} e h =
      ap₂ (λ (l : List ℕ) (n : ℕ). set l (k + 1) n) e h ∙ ap (λ (j : ℕ). set (places_by t a k) j (address_at k)) (add-one k) ∙ ap (places_by t a) (sym (add-one k))

-- ---- shifts

-- what two addresses differ by, from a common one
from-common : (a b c : ℤ) → a -ℤ b ≡ (a -ℤ c) -ℤ (b -ℤ c)
from-common a b c =
    sym
    (ap (λ (z : ℤ). (a -ℤ c) +ℤ z) (neg_ℤ-+ℤ b (neg_ℤ c) ∙ ap (λ (z : ℤ). neg_ℤ b +ℤ z) (neg_ℤ-neg_ℤ c) ∙ +ℤ_comm (neg_ℤ b) c)
    ∙ sym (+ℤ_assoc (a -ℤ c) c (neg_ℤ b)) ∙ ap (λ (z : ℤ). z -ℤ b) (-ℤ-+ℤ_cancel a c))

-- of one section
built-one : (s : Placed) (a : ℕ) → pos (cond s.placed a 0) -ℤ pos (cond s.placed s.address 0) ≡ move_of s a
unfolding move_of
built-one s a = by s.placed
  where
    by : (b : Bool) → pos (cond b a 0) -ℤ pos (cond b s.address 0) ≡ cond b (pos a -ℤ pos s.address) (pos 0)
    by true = refl
    by false = refl

moved-one : (s : Placed) (a b : ℕ) → pos (cond s.placed b 0) -ℤ pos (cond s.placed a 0) ≡ move_of s b -ℤ move_of s a
unfolding move_of
moved-one s a b = by s.placed
  where
    by : (t : Bool) → pos (cond t b 0) -ℤ pos (cond t a 0) ≡ cond t (pos b -ℤ pos s.address) (pos 0) -ℤ cond t (pos a -ℤ pos s.address) (pos 0)
    by true = from-common (pos b) (pos a) (pos s.address)
    by false = refl

module _ (file : List ℕ) (y : Summary) (t : Tables) (r : ObjectReady file y t) where
  section-here : (k : ℕ) → k < y.count → section_of (object_of file) k ≡ placed_at y k
  section-here k l = ap (λ (ss : List Placed). get_or ss k unplaced) (object-sections file y t r) ∙ placed-here y y.count k l

  section-past : (k : ℕ) → y.count ≤ k → section_of (object_of file) k ≡ unplaced
  section-past k l = ap (λ (ss : List Placed). get_or ss k unplaced) (object-sections file y t r) ∙ placed_past y y.count k l

  few : y.count < numbers
  few = omega (arith, sections-few file y t r)

  -- the address under a number
  here : (a : ℕ → ℕ) (k : ℕ) → k < y.count → get_or (places_by y.sections a y.count) (suc k) 0 ≡ placed_address (get_or y.sections k blank_section) (a k)
  here a k l = places-here y.sections a y.count k few l

  past : (a : ℕ → ℕ) (k : ℕ) → y.count ≤ k → get_or (places_by y.sections a y.count) (suc k) 0 ≡ 0
  past a k l = places-other y.sections a y.count (suc k) (λ j h e. absurd (omega arith))

  none : (a : ℕ → ℕ) → get_or (places_by y.sections a y.count) 0 0 ≡ 0
  none a = places-other y.sections a y.count 0 (λ j h e. absurd (omega arith))

  -- a build's shifts: from the recorded addresses to the plan's
  pub built-shifts : (p : Plan) → address_shifts (places_of y p) (recorded_of y) ≡ displacements (object_of file) p
  unfolding address_shifts places_of recorded_of displacements
  built-shifts p = fun_ext each
    where
      plan : ℕ → ℕ
      plan k = get_or p k 0

      recorded : ℕ → ℕ
      recorded k = (get_or y.sections k blank_section).vaddr.0

      each : (n : ℕ) → pos (get_or (places_by y.sections plan y.count) n 0) -ℤ pos (get_or (places_by y.sections recorded y.count) n 0) ≡ displacements (object_of file) p n
      each zero = rw (none plan, none recorded) refl
      each (suc k) = by (dec_lt k y.count)
        where
          by : Dec (k < y.count) → pos (get_or (places_by y.sections plan y.count) (suc k) 0) -ℤ pos (get_or (places_by y.sections recorded y.count) (suc k) 0) ≡ move_of (section_of (object_of file) k) (get_or p k 0)
          by (yes l) = rw (here plan k l, here recorded k l, section-here k l) (built-one (placed_at y k) (get_or p k 0))
          by (no l) = rw (past plan k (omega arith), past recorded k (omega arith), section-past k (omega arith)) (built-one unplaced (get_or p k 0))

  -- a move's: from one plan's to another's
  pub moved-shifts : (p q : Plan) → address_shifts (places_of y q) (places_of y p) ≡ differences (object_of file) p q
  unfolding address_shifts places_of differences displacements
  moved-shifts p q = fun_ext each
    where
      from : ℕ → ℕ
      from k = get_or p k 0

      to : ℕ → ℕ
      to k = get_or q k 0

      each : (n : ℕ) → pos (get_or (places_by y.sections to y.count) n 0) -ℤ pos (get_or (places_by y.sections from y.count) n 0) ≡ displacements (object_of file) q n -ℤ displacements (object_of file) p n
      each zero = rw (none to, none from) refl
      each (suc k) = by (dec_lt k y.count)
        where
          by : Dec (k < y.count) → pos (get_or (places_by y.sections to y.count) (suc k) 0) -ℤ pos (get_or (places_by y.sections from y.count) (suc k) 0)
              ≡ move_of (section_of (object_of file) k) (get_or q k 0) -ℤ move_of (section_of (object_of file) k) (get_or p k 0)
          by (yes l) = rw (here to k l, here from k l, section-here k l) (moved-one (placed_at y k) (get_or p k 0) (get_or q k 0))
          by (no l) = rw (past to k (omega arith), past from k (omega arith), section-past k (omega arith)) (moved-one unplaced (get_or p k 0) (get_or q k 0))
