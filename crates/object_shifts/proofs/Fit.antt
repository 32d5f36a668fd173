-- Plans checked. Assumes nothing.
use Prim.Native.Nat.{ℕ, ◌+◌, ◌-◌, ◌≤◌, ◌<◌}
use mathlib.Core.Path.{◌≡◌, refl, sym, ◌∙◌, ap}
use mathlib.Core.Bool.{Bool, true, false, not, ◌&&◌}
use mathlib.Core.List.{List}
use native.Mathlib.Decide.{dec_le}
use native.Mathlib.Omega.{arith}
use lib.Dec.{ltb, leb}
use lib.ListN.{length, get_or}
use borrow.Author.Tests.{eq-eqb, ne_eqb, lt-ltb, le-ltb, le-leb, lt-leb}
use Rattle.section_kind.specs.Kind.{is_placed_kind}
use Rattle.format.specs.Layout.{address_limit}
use Rattle.refusal.specs.declared.PlanItem.TheVariants.{SectionAddress}
use Rattle.refusal.specs.declared.RoomItem.TheVariants.{AddressList}
use Rattle.refusal.specs.declared.Refusal.TheVariants as refusal
use Rattle.refusal.specs.Refusal.{is_refused}
use Rattle.refusal.specs.Order.{first_of, refuse_if}
use Rattle.refusal.proofs.Order.{refused-if, first-turn, first-stop, first-start, accepted-equal}
use Rattle.header.specs.declared.Summary.{Summary}
use Rattle.symbol.specs.declared.Tables.{Tables}
use Rattle.object.specs.Sections.{section_at}
use Rattle.object_history.specs.Object.{Plan, list_check, address_check, section_check, fit_check}
use Rattle.object_plan.specs.Object.{placed_in, object_of}
use Rattle.object_plan.specs.Ready.{ObjectReady}
use Rattle.object_shifts.specs.Places.{planned_by}
use Rattle.object_shifts.proofs.Places.{placed-length, placed-here}
use Rattle.std.specs.Prelude.{Err, Ok}

-- ---- ROOM 2

module _ (y : Summary) (p : Plan) where
  pub list-whole : length p ≡ y.count → (Ok tt) ≡ list_check (planned_by y) p
  unfolding list_check
  list-whole e = rw (placed-length y 0 y.count, eq-eqb (length p) y.count e) refl

  pub list-other : (length p ≡ y.count → ⊥) → Err (refusal.Room AddressList) ≡ list_check (planned_by y) p
  unfolding list_check
  list-other n = rw (placed-length y 0 y.count, ne_eqb (length p) y.count n) refl

  -- a list that passes it has an address for each section
  pub list-accepted : list_check (planned_by y) p ≡ Ok tt → length p ≡ y.count
  unfolding list_check
  list-accepted e = accepted-equal (length p) (length (placed_in y 0 y.count)) (refusal.Room AddressList) e ∙ placed-length y 0 y.count

-- ---- an address and a size up to the last address

pub fits_not : (last a size : ℕ) → last < a → false ≡ (ltb a (last + 1) && leb (a + size) (last + 1))
fits_not last a size h = rw (le-ltb a (last + 1) (omega arith)) refl

pub fits-empty : (last a size : ℕ) → a ≤ last → size ≡ 0 → true ≡ (ltb a (last + 1) && leb (a + size) (last + 1))
fits-empty last a size h e = rw (lt-ltb a (last + 1) (omega arith), le-leb (a + size) (last + 1) (omega arith)) refl

pub fits_by : (last a size : ℕ) → a ≤ last → 0 < size → leb (size - 1) (last - a) ≡ (ltb a (last + 1) && leb (a + size) (last + 1))
fits_by last a size h p = rw (lt-ltb a (last + 1) (omega arith)) (by (dec_le (size - 1) (last - a)))
  where
    by : Dec (size - 1 ≤ last - a) → leb (size - 1) (last - a) ≡ leb (a + size) (last + 1)
    by (yes e) = rw (le-leb (size - 1) (last - a) e, le-leb (a + size) (last + 1) (omega arith)) refl
    by (no n) = rw (lt-leb (size - 1) (last - a) (omega arith), lt-leb (a + size) (last + 1) (omega arith)) refl

-- ---- PLAN

-- a section with no place in a plan is not refused, and one with a place where it does not fit
pub refuses-not : {a : Bool} (b : Bool) → a ≡ false → false ≡ (a && not b)
refuses-not b e = rw e refl

pub refuses-placed : {a b f : Bool} → a ≡ true → f ≡ b → not f ≡ (a && not b)
refuses-placed e h = rw (e, h) refl

module _ (y : Summary) (p : Plan) (last : ℕ) (e : last + 1 ≡ address_limit y.format) (k : ℕ) (l : k < y.count) where
  -- whether the section with place k does not fit
  abbrev pub Overruns : Bool
  Overruns = is_placed_kind (section_at y k).kind && not (ltb (get_or p k 0) (last + 1) && leb (get_or p k 0 + (section_at y k).size) (last + 1))

  section-check : section_check (planned_by y) p k ≡ refuse_if Overruns (refusal.Plan (SectionAddress (record { 0 = k + 1 })))
  unfolding section_check address_check
  section-check = rw (placed-here y y.count k l, e) refl

  -- a turn of the loop, and where it stops
  module _ {b : Bool} (h : b ≡ Overruns) where
    told : {t : Bool} → b ≡ t → is_refused (section_check (planned_by y) p k) ≡ t
    told z = ap is_refused section-check ∙ refused-if Overruns _ ∙ sym h ∙ z

    pub fit-turn : b ≡ false → first_of (section_check (planned_by y) p) k (y.count - k) ≡ first_of (section_check (planned_by y) p) (k + 1) (y.count - (k + 1))
    fit-turn z = first-turn (section_check (planned_by y) p) y.count k l (told z)

    pub fit-stop : b ≡ true → first_of (section_check (planned_by y) p) k (y.count - k) ≡ Err (refusal.Plan (SectionAddress (record { 0 = k + 1 })))
    fit-stop z =
        first-stop (section_check (planned_by y) p) y.count k l (told z) ∙ section-check
        ∙ ap (λ (b : Bool). refuse_if b (refusal.Plan (SectionAddress (record { 0 = k + 1 })))) (sym h ∙ z)

pub fit-start : (y : Summary) (p : Plan) → fit_check (planned_by y) p ≡ first_of (section_check (planned_by y) p) 0 (y.count - 0)
unfolding fit_check
fit-start y p = ap (first_of (section_check (planned_by y) p) 0) (placed-length y 0 y.count) ∙ first-start (section_check (planned_by y) p) y.count

-- ---- the file's own object

module _ (file : List ℕ) (y : Summary) (t : Tables) (r : ObjectReady file y t) (p : Plan) where
  pub list-check : list_check (planned_by y) p ≡ list_check (object_of file) p
  unfolding list_check object_of
  list-check = rw r.sections.opened.summary refl

  pub fit-check : fit_check (planned_by y) p ≡ fit_check (object_of file) p
  unfolding fit_check section_check object_of
  fit-check = rw r.sections.opened.summary refl
