use Prim.Native.Nat.{◌+◌, ◌-◌}
use lib.ListN.{length, take, drop, length-take, length-drop}
use Rattle.record.specs.Record.{leading, slot}
use Rattle.record.proofs.Stores.{line-stored, checksum-by}
use mathlib.Core.Path.{◌≡◌, refl}
use native.Mathlib.Omega.{arith}
use Rattle.record_line.proofs.put_line.Goals as goal

pub returns : goal.returns
returns c = let a = c.args in let k = c.requires in let ds = take a.n (drop a.from a.image.now) in let many : length ds ≡ a.n = simp (length-take, length-drop) (omega arith) in let part : a.from + a.n - a.from ≡ a.n = omega arith in line-stored a.out.now _ _ _ _ a.at _ a.kind a.address a.n _ ds many c.put_lead.ensures c.put_run.ensures refl (checksum-by (leading (slot a.kind a.address a.n)) ds _ _ (rw part at c.sum_bytes-sum.ensures.0) c.line_checksum.ensures) c.put_hex.ensures c.put.ensures
