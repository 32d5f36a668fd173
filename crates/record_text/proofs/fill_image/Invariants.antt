use Prim.Native.Nat.{ℕ, ◌+◌, ◌-◌, ◌*◌, ◌/◌}
use lib.Seq.{sets}
use lib.ListN.{length}
use Rattle.record.specs.Record.{read_from, image_slots}
use mathlib.Core.Path.{◌≡◌}
use Rattle.record_text.proofs.fill_image.Given as goal

abbrev pub invariant-loop-line : goal.invariant-loop-line
invariant-loop-line l = (l.p + (15 * ((length l.initial.dst - 32 * l.line + 31) / 32) + 2 * (length l.initial.dst - 32 * l.line)) ≡ l.at + (15 * ((length l.initial.dst + 31) / 32) + 2 * length l.initial.dst)) × ((a : ℕ) → sets l.dst (32 * l.line) (read_from l.p (image_slots (a + 32 * l.line) (length l.initial.dst - 32 * l.line)) l.t) ≡ sets l.initial.dst 0 (read_from l.at (image_slots a (length l.initial.dst)) l.t))
