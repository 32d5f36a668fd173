use Rattle.text.specs.Text.{digits}
use lib.Seq.{sets}
use Prim.Native.Nat.{◌+◌, ◌-◌, ◌/◌, ◌^◌}
use mathlib.Core.Path.{◌≡◌}
use Rattle.text.proofs.put_digits.Given as goal

-- The digits from i on stand in the buffer, and what is left of v is its quotient by the base to their number.
abbrev pub invariant-loop-i : goal.invariant-loop-i
invariant-loop-i l = (l.out ≡ sets l.initial.out (l.at + l.i) (digits l.base (l.count - l.i) l.v)) × (l.rest ≡ l.v / l.base ^ (l.count - l.i))
