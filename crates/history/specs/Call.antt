-- Builds and moves: what a call answers, and what it leaves in the two buffers.
use Rattle.std.specs.Prelude.{not, List, ℕ, eqb, length, ◌≡◌, Err, Ok, Result}
use Rattle.refusal.specs.declared.RoomItem.TheVariants.{TextBuffer, DataBuffer}
use Rattle.refusal.specs.declared.Refusal.TheVariants as refusal
use Rattle.refusal.specs.Order.{◌or_else◌, refuse_if, by_verdict}
use Rattle.history.specs.Images.{Images, lengths, apply_all}
use Rattle.history.specs.Plan.{Relocatable, Plan, list_check, fit_check, plan_check, displacements, differences, reached_by}
use Rattle.book.specs.Machine.{Machine}
use Rattle.book.specs.Machine as machine
pub use Rattle.book.specs.Machine.Call.{build, move}
use Rattle.refusal.specs.declared.Refusal.{Refusal}
use Rattle.history.specs.declared.Reached.{Reached}
use Rattle.refusal.specs.Verdict.{Verdict}

-- a build for a plan, or a move from a plan to another
abbrev pub Call : Type 0
Call = machine.Call Plan

-- the plan that a call reaches where it is accepted
abbrev pub plan_reached : Call → Plan
plan_reached (build p) = p
plan_reached (move p q) = q

-- ROOM 0, 1: buffers of tl and dl bytes for images of t and d
unfoldable pub buffer_room : ℕ → ℕ → ℕ → ℕ → Verdict
buffer_room t d tl dl = refuse_if (not (eqb tl t)) (refusal.Room TextBuffer) or_else refuse_if (not (eqb dl d)) (refusal.Room DataBuffer)

-- of the buffers only the lengths count
unfoldable pub room_check : Relocatable → ℕ → ℕ → Verdict
room_check m tl dl = buffer_room (length m.raw.text) (length m.raw.dat) tl dl

-- for a move both lists, then the from plan, then the to plan
unfoldable pub call_check : Relocatable → ℕ → ℕ → Call → Verdict
call_check m tl dl (build p) = plan_check m p or_else room_check m tl dl
call_check m tl dl (move p q) =
    m.verdict or_else list_check m p or_else list_check m q or_else fit_check m p or_else fit_check m q or_else room_check m tl dl

-- a call is accepted on buffers of the lengths of x
abbrev pub Accepts : Relocatable → Images → Call → Type 0
Accepts m x c = call_check m (length x.text) (length x.dat) c ≡ Ok tt

-- a module's builds and moves, an instance of the general ones: a verdict reads of the buffers the two lengths alone
abbrev pub machine_of : Relocatable → Machine Images (ℕ × ℕ) Plan
machine_of m =
    record {
      raw = m.raw;
      displacements = displacements m;
      apply = apply_all m.entries;
      lengths = lengths;
      check = λ l x c. call_check m l.0 l.1 c;
    }

-- what an accepted call leaves in the buffers; a move takes them as they are
unfoldable pub accepted : Relocatable → Call → Images → Images
unfolding differences
accepted m c x = machine.accepted (machine_of m) c x

-- what a call leaves in the buffers: a refusal changes nothing
unfoldable pub effect : Relocatable → Call → Images → Images
unfolding accepted
effect m c x = machine.effect (machine_of m) c x

-- what a call answers
unfoldable pub answer_of : Relocatable → ℕ → ℕ → Call → Result Reached Refusal
answer_of m tl dl c = by_verdict (call_check m tl dl c) (Ok (reached_by m (plan_reached c))) Err

-- each call on what the last one left
unfoldable pub run : Relocatable → List Call → Images → Images
unfolding machine.run effect
run m cs x = machine.run (machine_of m) cs x
