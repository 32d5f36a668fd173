use Prim.Native.Nat.{◌+◌, ◌-◌, ◌*◌}
use lib.Seq.{sets}
use lib.ListN.{length, drop}
use Rattle.record.specs.Record.{text_length, image_slots, written}
use mathlib.Core.Path.{◌≡◌}
use Rattle.record_text.proofs.put_image.Given as goal

abbrev pub invariant-loop-line : goal.invariant-loop-line
invariant-loop-line l = (l.p + text_length (image_slots (l.address + 32 * l.line) (length l.image - 32 * l.line)) ≡ l.at + text_length (image_slots l.address (length l.image))) × (sets l.out l.p (written (image_slots (l.address + 32 * l.line) (length l.image - 32 * l.line)) (drop (32 * l.line) l.image)) ≡ sets l.initial.out l.at (written (image_slots l.address (length l.image)) l.image))
