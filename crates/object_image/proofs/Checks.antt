-- The checks of a call in their order. Assumes nothing.
use Prim.Native.Nat.{ℕ}
use mathlib.Core.Path.{◌≡◌, refl, sym, ◌∙◌, ap}
use mathlib.Core.Bool.{Bool, true, false}
use mathlib.Core.List.{List}
use lib.ListN.{length}
use borrow.Author.Tests.{eq-eqb, ne_eqb}
use Rattle.refusal.specs.declared.RoomItem.TheVariants.{ObjectBuffer}
use Rattle.refusal.specs.declared.Refusal.TheVariants as refusal
use Rattle.refusal.specs.Refusal.{is_refused}
use Rattle.refusal.specs.Order.{◌or_else◌}
use Rattle.refusal.proofs.Order.{told, go_on, stop, accepted-first, accepted-rest, accepted-equal}
use Rattle.header.specs.declared.Summary.{Summary}
use Rattle.symbol.specs.declared.Tables.{Tables}
use Rattle.object.specs.declared.ObjectFile.{ObjectFile}
use Rattle.object.specs.Check.{file_of}
use Rattle.object_history.specs.Object.{Plan, list_check, fit_check, displacements, differences}
use Rattle.object_history.specs.Call.{build, move, room_check, range_check, call_check}
use Rattle.object_plan.specs.Object.{object_of}
use Rattle.object_plan.specs.Ready.{ObjectReady}
use Rattle.object_plan.proofs.Ready.{object-verdict}
use Rattle.object_raw.proofs.Bytes.{raw-length}
use Rattle.object_shifts.specs.Places.{planned_by}
use Rattle.object_shifts.proofs.Fit.{list-accepted, list-check, fit-check}
use Rattle.std.specs.Prelude.{Err, Ok}
use Rattle.refusal.specs.Verdict.{Verdict}

-- ---- the first refusal of an order, by what the tests of the verdicts said

-- the first refuses
pub refused-here : {z a : Verdict} {s : Bool} (b : Verdict) → z ≡ a → s ≡ is_refused z → s ≡ true → z ≡ (a or_else b)
refused-here {a = a} b e h k = e ∙ sym (stop a b (told e h k))

-- the first accepts
pub accepted-here : {z v a : Verdict} {s : Bool} (b : Verdict) → v ≡ a → s ≡ is_refused v → s ≡ false → z ≡ b → z ≡ (a or_else b)
accepted-here {a = a} b e h k r = r ∙ sym (go_on a b (told e h k))

-- an order of checks and one more can be read from either end
or-two : (a b c : Verdict) → ((a or_else b) or_else c) ≡ (a or_else b or_else c)
or-two (Ok tt) b c = refl
or-two (Err x) b c = refl

pub or-three : (a b c d : Verdict) → ((a or_else b or_else c) or_else d) ≡ (a or_else b or_else c or_else d)
or-three (Ok tt) b c d = or-two b c d
or-three (Err x) b c d = refl

or-four : (a b c d e : Verdict) → ((a or_else b or_else c or_else d) or_else e) ≡ (a or_else b or_else c or_else d or_else e)
or-four (Ok tt) b c d e = or-three b c d e
or-four (Err x) b c d e = refl

pub or-five : (a b c d e f : Verdict) → ((a or_else b or_else c or_else d or_else e) or_else f) ≡ (a or_else b or_else c or_else d or_else e or_else f)
or-five (Ok tt) b c d e f = or-four b c d e f
or-five (Err x) b c d e f = refl

-- ---- an object file that is accepted

module _ (file : List ℕ) (y : Summary) (t : Tables) (r : ObjectReady file y t) where
  -- ROOM 0, by the measured length
  module _ (size : ℕ) {m : ObjectFile} (e : m ≡ file_of (length file) y) where
    measured : m.length ≡ length (object_of file).raw
    measured = ap (λ (f : ObjectFile). f.length) e ∙ (unfold file_of in sym (raw-length file y t r))

    pub room-same : size ≡ m.length → (Ok tt) ≡ room_check (object_of file) size
    unfolding room_check
    room-same h = rw (eq-eqb size (length (object_of file).raw) (h ∙ measured)) refl

    pub room-other : (size ≡ m.length → ⊥) → Err (refusal.Room ObjectBuffer) ≡ room_check (object_of file) size
    unfolding room_check
    room-other n = rw (ne_eqb size (length (object_of file).raw) (λ h. n (h ∙ sym measured))) refl

  -- ROOM 2 and PLAN, by the sections alone
  pub list-judged : (p : Plan) {v : Verdict} → v ≡ list_check (planned_by y) p → v ≡ list_check (object_of file) p
  list-judged p e = e ∙ list-check file y t r p

  pub fit-judged : (p : Plan) {v : Verdict} → v ≡ fit_check (planned_by y) p → v ≡ fit_check (object_of file) p
  fit-judged p e = e ∙ fit-check file y t r p

  -- what a list and a buffer that pass are
  pub list-told : (p : Plan) → list_check (object_of file) p ≡ Ok tt → length p ≡ y.count
  list-told p e = list-accepted y p (list-check file y t r p ∙ e)

  room-told : (size : ℕ) → room_check (object_of file) size ≡ Ok tt → size ≡ length (object_of file).raw
  unfolding room_check
  room-told size e = accepted-equal size (length (object_of file).raw) (refusal.Room ObjectBuffer) e

  -- a build's checks before RANGE, and what they leave known
  abbrev pub plan_check : Plan → ℕ → Verdict
  plan_check p size = list_check (object_of file) p or_else fit_check (object_of file) p or_else room_check (object_of file) size

  pub plan-known : (p : Plan) (size : ℕ) → plan_check p size ≡ Ok tt → (length p ≡ y.count) × (size ≡ length (object_of file).raw)
  plan-known p size e =
      let a = accepted-rest (list_check (object_of file) p) _ e in
      (list-told p (accepted-first _ _ e), room-told size (accepted-rest (fit_check (object_of file) p) _ a))

  pub build-order : (p : Plan) (size : ℕ) (x : List ℕ)
      → (plan_check p size or_else range_check (object_of file) (displacements (object_of file) p) (object_of file).raw) ≡ call_check (object_of file) size x (build p)
  unfolding call_check
  build-order p size x = or-three (list_check (object_of file) p) (fit_check (object_of file) p) (room_check (object_of file) size) _ ∙ rw (object-verdict file y t r) refl

  -- the same of a move
  abbrev pub plans_check : Plan → Plan → ℕ → Verdict
  plans_check p q size =
      list_check (object_of file) p or_else list_check (object_of file) q or_else fit_check (object_of file) p or_else fit_check (object_of file) q or_else room_check (object_of file) size

  pub plans-known : (p q : Plan) (size : ℕ) → plans_check p q size ≡ Ok tt → (length p ≡ y.count) × (length q ≡ y.count) × (size ≡ length (object_of file).raw)
  plans-known p q size e =
      let a = accepted-rest (list_check (object_of file) p) _ e in
      let b = accepted-rest (list_check (object_of file) q) _ a in
      let c = accepted-rest (fit_check (object_of file) p) _ b in
      (list-told p (accepted-first _ _ e), list-told q (accepted-first _ _ a), room-told size (accepted-rest (fit_check (object_of file) q) _ c))

  pub move-order : (p q : Plan) (size : ℕ) (x : List ℕ)
      → (plans_check p q size or_else range_check (object_of file) (differences (object_of file) p q) x) ≡ call_check (object_of file) size x (move p q)
  unfolding call_check
  move-order p q size x =
      or-five (list_check (object_of file) p) (list_check (object_of file) q) (fit_check (object_of file) p) (fit_check (object_of file) q) (room_check (object_of file) size) _
      ∙ rw (object-verdict file y t r) refl
