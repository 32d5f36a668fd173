use Prim.Native.Nat.{◌+◌, ◌-◌, ◌*◌, ◌≤◌}
use lib.ListN.{length}
use Rattle.record.specs.Record.{bad_from, image_slots}
use mathlib.Core.Path.{◌≡◌}
use Rattle.record_text.proofs.judge_image.Given as goal

abbrev pub invariant-loop-line : goal.invariant-loop-line
invariant-loop-line l = (l.p ≤ length l.t) × (bad_from (l.first + l.line) l.p (image_slots (l.address + 32 * l.line) (l.n - 32 * l.line)) l.t ≡ bad_from l.first l.at (image_slots l.address l.n) l.t) × (l.first + l.line ≤ l.p + 1)
