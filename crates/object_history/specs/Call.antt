-- Builds and moves of an object file: what a call is refused for, and what it leaves in the buffer.
use Rattle.std.specs.Prelude.{◌≡◌, not, List, ℕ, eqb, length, Ok}
use Rattle.refusal.specs.declared.RoomItem.TheVariants.{ObjectBuffer}
use Rattle.refusal.specs.declared.Refusal.TheVariants as refusal
use Rattle.refusal.specs.Order.{◌or_else◌, refuse_if}
pub use Rattle.book.specs.Machine.Call.{build, move}
use Rattle.book.specs.Machine.{Shifts, Machine}
use Rattle.book.specs.Machine as machine
use Rattle.object_history.specs.Entry.{apply_all}
use Rattle.object_history.specs.Range.{range_from}
use Rattle.object_history.specs.Object.{Object, Plan, displacements, differences, list_check, fit_check}
use Rattle.refusal.specs.Verdict.{Verdict}

-- a build for a plan, or a move from a plan to another
abbrev pub Call : Type 0
Call = machine.Call Plan

-- ROOM 0
unfoldable pub room_check : Object → ℕ → Verdict
room_check o len = refuse_if (not (eqb len (length o.raw))) (refusal.Room ObjectBuffer)

-- RANGE, by the shifts, of the bytes that they are applied to
unfoldable pub range_check : Object → Shifts → List ℕ → Verdict
range_check o s x = range_from o.entries s x o.entries

-- for a move both lists, then the from plan, then the to plan; RANGE last: of a build from the raw bytes, of a move from what the buffer holds
unfoldable pub call_check : Object → ℕ → List ℕ → Call → Verdict
call_check o len x (build p) =
    o.verdict or_else list_check o p or_else fit_check o p or_else room_check o len or_else range_check o (displacements o p) o.raw
call_check o len x (move p q) =
    o.verdict or_else list_check o p or_else list_check o q or_else fit_check o p or_else fit_check o q or_else room_check o len
    or_else range_check o (differences o p q) x

-- an object file as a machine of builds and moves
abbrev pub machine_of : Object → Machine (List ℕ) ℕ Plan
machine_of o = record { raw = o.raw; displacements = displacements o; apply = apply_all o.entries; lengths = length; check = call_check o }

-- a call is accepted on a buffer
abbrev pub Accepts : Object → List ℕ → Call → Type 0
Accepts o x c = call_check o (length x) x c ≡ Ok tt

-- what a call leaves in the buffer: a refusal changes nothing
unfoldable pub effect : Object → Call → List ℕ → List ℕ
effect o c x = machine.effect (machine_of o) c x

-- each call on what the last one left
unfoldable pub run : Object → List Call → List ℕ → List ℕ
unfolding machine.run effect
run o cs x = machine.run (machine_of o) cs x

-- the shifts of a call, and the bytes that they are applied to where it is accepted
abbrev pub shifts_of : Object → Call → Shifts
shifts_of o (build p) = displacements o p
shifts_of o (move p q) = differences o p q

abbrev pub start_of : Object → Call → List ℕ → List ℕ
start_of o (build p) x = o.raw
start_of o (move p q) x = x
