use Prim.Native.Nat.{◌+◌, ◌-◌}
use lib.ListN.{length, take, drop, length-take, length-drop}
use Rattle.record.specs.Record.{leading, slot}
use Rattle.record.proofs.Stores.{line-stored, checksum-by}
use mathlib.Core.Path.{◌≡◌}
use native.Mathlib.Omega.{arith}
use Rattle.record_line.proofs.put_whole.Goals as goal

pub returns : goal.returns
returns c = let a = c.args in let k = c.requires in let ds = take 32 (drop a.from a.image.now) in let many : length ds ≡ 32 = simp (length-take, length-drop) (omega arith) in let part : a.from + 32 - a.from ≡ 32 = omega arith in line-stored a.out.now _ _ _ _ a.at (a.at + 76) 51 a.address 32 _ ds many c.put_lead.ensures c.put_run.ensures (omega arith) (checksum-by (leading (slot 51 a.address 32)) ds _ _ (rw part at c.sum_bytes-sum.ensures.0) c.line_checksum.ensures) c.put_hex.ensures c.put.ensures
