-- What an accepted call tells of its buffers and of other calls. Assumes nothing.
use mathlib.Core.Path.{◌≡◌, sym, ap, ap₂}
use mathlib.Core.Bool.{not}
use mathlib.Core.List.{List}
use Prim.Native.Nat.{ℕ}
use lib.Dec.{eqb}
use lib.ListN.{length}
use Rattle.refusal.specs.declared.RoomItem.TheVariants.{TextBuffer, DataBuffer}
use Rattle.refusal.specs.declared.Refusal.TheVariants as refusal
use Rattle.refusal.specs.Order.{◌or_else◌, refuse_if}
use Rattle.refusal.proofs.Order.{accepted-first, accepted-rest, accepted-equal}
use Rattle.history.specs.Images.{Images, lengths, All, Inside}
use Rattle.history.specs.Plan.{Relocatable, Plan, Sound, list_check, fit_check, plan_check}
use Rattle.history.specs.Call.{Call, build, move, buffer_room, room_check, call_check, effect, run, Accepts, machine_of}
use Rattle.book.proofs.Call.{LengthLaws, effect-lengths, run-lengths}
use Rattle.history.proofs.Apply.{apply_all-lengths, inside-lengths}
use Rattle.std.specs.Prelude.{Ok}
use Rattle.refusal.specs.Verdict.{Verdict}

-- ---- the parts of an accepted move

-- the checks of a move, each passed
record MoveAccepted (m : Relocatable) (tl dl : ℕ) (p q : Plan) : Type 0 where
  module-accepted : m.verdict ≡ Ok tt
  from_list : list_check m p ≡ Ok tt
  to-list : list_check m q ≡ Ok tt
  from-fits : fit_check m p ≡ Ok tt
  to-fits : fit_check m q ≡ Ok tt
  room : room_check m tl dl ≡ Ok tt

-- an accepted move passed each of its checks
move-parts : (m : Relocatable) (tl dl : ℕ) (p q : Plan) → call_check m tl dl (move p q) ≡ Ok tt → MoveAccepted m tl dl p q
unfolding call_check
move-parts m tl dl p q e =
    let a = accepted-rest m.verdict _ e in
    let b = accepted-rest (list_check m p) _ a in
    let c = accepted-rest (list_check m q) _ b in
    let d = accepted-rest (fit_check m p) _ c in
    record {
      module-accepted = accepted-first _ _ e;
      from_list = accepted-first _ _ a;
      to-list = accepted-first _ _ b;
      from-fits = accepted-first _ _ c;
      to-fits = accepted-first _ _ d;
      room = accepted-rest (fit_check m q) _ d;
    }

-- an order of two verdicts that accept accepts
both-accept : {v w : Verdict} → v ≡ Ok tt → w ≡ Ok tt → (v or_else w) ≡ Ok tt
both-accept e h = rw e h

-- where a move is accepted, so is the move back
pub move-back-accepted : (m : Relocatable) (tl dl : ℕ) (p q : Plan) → call_check m tl dl (move p q) ≡ Ok tt → call_check m tl dl (move q p) ≡ Ok tt
unfolding call_check
move-back-accepted m tl dl p q e =
    let a = move-parts m tl dl p q e in
    both-accept a.module-accepted (both-accept a.to-list (both-accept a.from_list (both-accept a.to-fits (both-accept a.from-fits a.room))))

-- where a move is accepted, so is a build for the plan that it reaches
pub build-reached-accepted : (m : Relocatable) (tl dl : ℕ) (p q : Plan) → call_check m tl dl (move p q) ≡ Ok tt → call_check m tl dl (build q) ≡ Ok tt
unfolding call_check plan_check
build-reached-accepted m tl dl p q e =
    let a = move-parts m tl dl p q e in
    both-accept (both-accept a.module-accepted (both-accept a.to-list a.to-fits)) a.room

-- ---- an accepted call has buffers of the raw images' lengths

-- an accepted call passed ROOM 0 and 1
room-accepted : (m : Relocatable) (tl dl : ℕ) (c : Call) → call_check m tl dl c ≡ Ok tt → room_check m tl dl ≡ Ok tt
unfolding call_check
room-accepted m tl dl (build p) e = accepted-rest (plan_check m p) _ e
room-accepted m tl dl (move p q) e = (move-parts m tl dl p q e).room

-- buffers that pass ROOM 0 and 1 have the images' lengths
pub buffer-lengths : (t d tl dl : ℕ) → buffer_room t d tl dl ≡ Ok tt → (tl ≡ t) × (dl ≡ d)
unfolding buffer_room
buffer-lengths t d tl dl e = (
  accepted-equal tl t (refusal.Room TextBuffer) (accepted-first _ _ e),
  accepted-equal dl d (refusal.Room DataBuffer) (accepted-rest (refuse_if (not (eqb tl t)) (refusal.Room TextBuffer)) _ e),
)

-- those of a module the raw images'
pub room-lengths : (m : Relocatable) (tl dl : ℕ) → room_check m tl dl ≡ Ok tt → (tl ≡ length m.raw.text) × (dl ≡ length m.raw.dat)
unfolding room_check
room-lengths m tl dl e = buffer-lengths (length m.raw.text) (length m.raw.dat) tl dl e

-- a module meets what keeping lengths asks
pub module-lengths : (m : Relocatable) → LengthLaws (machine_of m)
module-lengths m =
    record {
      room = λ x c e. let r = room-lengths m _ _ (room-accepted m (length x.text) (length x.dat) c e) in ap₂ (λ (t d : ℕ). (t, d)) r.0 r.1;
      keeps = λ s x. apply_all-lengths m.entries s x;
    }

-- so a verdict on what a call leaves is the verdict before it
pub verdict-after : (m : Relocatable) (c d : Call) (x : Images)
    → call_check m (length (effect m c x).text) (length (effect m c x).dat) d ≡ call_check m (length x.text) (length x.dat) d
unfolding effect
verdict-after m c d x = ap (λ (l : ℕ × ℕ). call_check m l.0 l.1 d) (effect-lengths (machine_of m) (module-lengths m) c x)

-- and on what a list of calls leaves
pub verdict-after-all : (m : Relocatable) (cs : List Call) (d : Call) (x : Images)
    → call_check m (length (run m cs x).text) (length (run m cs x).dat) d ≡ call_check m (length x.text) (length x.dat) d
unfolding run
verdict-after-all m cs d x = ap (λ (l : ℕ × ℕ). call_check m l.0 l.1 d) (run-lengths (machine_of m) (module-lengths m) cs x)

-- ---- the entries lie inside

-- buffers of the raw images' lengths
pub lengths-inside : (m : Relocatable) → Sound m → (x : Images) → lengths x ≡ lengths m.raw → All (Inside x) m.entries
lengths-inside m sound x e = inside-lengths m.entries m.raw x (sym e) sound.inside

-- the buffers of an accepted call
pub accepted-inside : (m : Relocatable) → Sound m → (c : Call) (x : Images) → Accepts m x c → All (Inside x) m.entries
accepted-inside m sound c x e = lengths-inside m sound x ((module-lengths m).room x c e)
