use lib.ListN.{take}
use Rattle.listing.specs.Listing.{section_lines}
use Rattle.text.proofs.Stores.{Wrote}
use Prim.Native.Nat.{◌+◌, ◌*◌, ◌≤◌}
use Rattle.listing.proofs.put_section_lines.Given as goal

-- The lines of the first i sections stand in the buffer, each at most 49 bytes long.
abbrev pub invariant-loop-i : goal.invariant-loop-i
invariant-loop-i l = (l.next ≤ 50 + 49 * l.i) × Wrote l.initial.out l.at (section_lines l.f 1 (take l.i l.s-items)) l.out l.next
