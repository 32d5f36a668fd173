-- The checks of a call in their order. Assumes nothing.
use mathlib.Core.Path.{◌≡◌, refl, sym, ◌∙◌, ap}
use mathlib.Core.Bool.{Bool, true, false}
use mathlib.Core.List.{List}
use Prim.Native.Nat.{ℕ}
use lib.ListN.{length}
use borrow.Author.Tests.{eq-eqb, ne_eqb}
use Rattle.refusal.specs.declared.RoomItem.TheVariants.{TextBuffer, DataBuffer}
use Rattle.refusal.specs.declared.Refusal.TheVariants as refusal
use Rattle.refusal.specs.Refusal.{is_refused}
use Rattle.refusal.specs.Order.{◌or_else◌}
use Rattle.refusal.proofs.Order.{told, told-accepted, go_on, stop, accepted-first, accepted-rest}
use Rattle.loadable.specs.declared.Loadable.{Loadable}
use Rattle.loadable.specs.Valid.{Valid}
use Rattle.history.specs.Plan.{Plan, list_room, list_check, fit_check, plan_check}
use Rattle.history.specs.Call.{build, move, buffer_room, room_check, call_check}
use Rattle.history.proofs.Check.{room-lengths}
use Rattle.plan.specs.Relocatable.{relocatable_of}
use Rattle.plan.proofs.Raw.{length-raw-text, length-raw-data}
use Rattle.plan.proofs.Fit.{list-accepted, list-check}
use Rattle.std.specs.Prelude.{Err, Ok}
use Rattle.refusal.specs.Verdict.{Verdict}

-- ---- the first refusal of an order, by what the tests of the verdicts said

-- the first refuses
pub refused-here : {z a : Verdict} {s : Bool} (b : Verdict) → z ≡ a → s ≡ is_refused z → s ≡ true → z ≡ (a or_else b)
refused-here {a = a} b e h k = e ∙ sym (stop a b (told e h k))

-- the first accepts
pub accepted-here : {z v a : Verdict} {s : Bool} (b : Verdict) → v ≡ a → s ≡ is_refused v → s ≡ false → z ≡ b → z ≡ (a or_else b)
accepted-here {a = a} b e h k r = r ∙ sym (go_on a b (told e h k))

-- an order of three checks can be read from either end
pub or_assoc : (a b c : Verdict) → ((a or_else b) or_else c) ≡ (a or_else b or_else c)
or_assoc (Ok tt) b c = refl
or_assoc (Err x) b c = refl

-- ---- ROOM 0, 1

module _ (t d tl dl : ℕ) where
  -- a text buffer of another length is refused
  pub text-room : (tl ≡ t → ⊥) → Err (refusal.Room TextBuffer) ≡ buffer_room t d tl dl
  unfolding buffer_room
  text-room n = rw (ne_eqb tl t n) refl

  -- then a data buffer of another length
  pub data-room : tl ≡ t → (dl ≡ d → ⊥) → Err (refusal.Room DataBuffer) ≡ buffer_room t d tl dl
  unfolding buffer_room
  data-room e n = rw (eq-eqb tl t e, ne_eqb dl d n) refl

  -- buffers of the images' lengths are accepted
  pub both-room : tl ≡ t → dl ≡ d → (Ok tt) ≡ buffer_room t d tl dl
  unfolding buffer_room
  both-room e h = rw (eq-eqb tl t e, eq-eqb dl d h) refl

-- ---- ROOM 2

-- a list that passes it has an address for each loader symbol
pub list-told : (n k : ℕ) {v : Verdict} {s : Bool} → v ≡ list_room n k → s ≡ is_refused v → s ≡ false → k ≡ n
list-told n k e h z = list-accepted n k (told-accepted e h z)

-- the same of a move's two lists
pub lists-told : (n j k : ℕ) {v : Verdict} {s : Bool} → v ≡ (list_room n j or_else list_room n k) → s ≡ is_refused v → s ≡ false → (j ≡ n) × (k ≡ n)
lists-told n j k e h z =
    let a = told-accepted e h z in
    (list-accepted n j (accepted-first _ _ a), list-accepted n k (accepted-rest (list_room n j) _ a))

-- ---- the checks of a module

module _ (file : List ℕ) (l : Loadable) where
  -- a module's images have the sizes that its layout says
  pub room-sizes : Valid file l → (tl dl : ℕ) {z : Verdict} → z ≡ buffer_room l.layout.parts.text.size l.layout.image tl dl → z ≡ room_check (relocatable_of file l) tl dl
  unfolding room_check relocatable_of
  room-sizes v tl dl e = rw (length-raw-text file l v, length-raw-data file l v) e

  -- ROOM 2, then PLAN; the module is accepted
  pub plan-order : (p : Plan) → (list_room l.tables.nsyms (length p.list) or_else fit_check (relocatable_of file l) p) ≡ plan_check (relocatable_of file l) p
  plan-order p = ap (λ (v : Verdict). v or_else fit_check (relocatable_of file l) p) (sym (list-check file l p)) ∙ (unfold plan_check relocatable_of in refl)

  -- a move: both lists, both plans, ROOM
  pub move-order : (p q : Plan) (tl dl : ℕ)
      → ((list_room l.tables.nsyms (length p.list) or_else list_room l.tables.nsyms (length q.list))
      or_else (fit_check (relocatable_of file l) p or_else fit_check (relocatable_of file l) q)
      or_else room_check (relocatable_of file l) tl dl)
      ≡ call_check (relocatable_of file l) tl dl (move p q)
  move-order p q tl dl = rw (← list-check file l p, ← list-check file l q) in_order
    where
      in_order : ((list_check (relocatable_of file l) p or_else list_check (relocatable_of file l) q) or_else (fit_check (relocatable_of file l) p or_else fit_check (relocatable_of file l) q)
          or_else room_check (relocatable_of file l) tl dl)
          ≡ call_check (relocatable_of file l) tl dl (move p q)
      in_order = unfold call_check relocatable_of in
          or_assoc (list_check (relocatable_of file l) p) (list_check (relocatable_of file l) q) _
          ∙ ap (λ (v : Verdict). list_check (relocatable_of file l) p or_else list_check (relocatable_of file l) q or_else v)
          (or_assoc (fit_check (relocatable_of file l) p) (fit_check (relocatable_of file l) q) (room_check (relocatable_of file l) tl dl))

  module _ (v : Valid file l) (tl dl : ℕ) where
    -- buffers that pass ROOM 0 and 1 have the sizes of the module's images
    sizes-told : room_check (relocatable_of file l) tl dl ≡ Ok tt → (tl ≡ l.layout.parts.text.size) × (dl ≡ l.layout.image)
    unfolding room_check relocatable_of
    sizes-told e = rw (length-raw-text file l v, length-raw-data file l v) at (room-lengths (relocatable_of file l) tl dl e)

    -- an accepted build: its list and both buffers have the right lengths
    pub build-lengths : (p : Plan) → call_check (relocatable_of file l) tl dl (build p) ≡ Ok tt
        → (length p.list ≡ l.tables.nsyms) × (tl ≡ l.layout.parts.text.size) × (dl ≡ l.layout.image)
    unfolding call_check
    build-lengths p e =
        let a = plan-order p ∙ accepted-first (plan_check (relocatable_of file l) p) _ e in
        let r = sizes-told (accepted-rest (plan_check (relocatable_of file l) p) _ e) in
        (list-accepted _ _ (accepted-first _ _ a), r.0, r.1)

    -- an accepted move
    pub move-lengths : (p q : Plan) → call_check (relocatable_of file l) tl dl (move p q) ≡ Ok tt
        → (length p.list ≡ l.tables.nsyms) × (length q.list ≡ l.tables.nsyms) × (tl ≡ l.layout.parts.text.size) × (dl ≡ l.layout.image)
    move-lengths p q e =
        let a = move-order p q tl dl ∙ e in
        let lists : Verdict = list_room l.tables.nsyms (length p.list) or_else list_room l.tables.nsyms (length q.list) in
        let b = accepted-first lists _ a in
        let r = sizes-told (accepted-rest (fit_check (relocatable_of file l) p or_else fit_check (relocatable_of file l) q) _ (accepted-rest lists _ a)) in (
          list-accepted _ _ (accepted-first _ _ b),
          list-accepted _ _ (accepted-rest (list_room l.tables.nsyms (length p.list)) _ b),
          r.0,
          r.1,
        )
