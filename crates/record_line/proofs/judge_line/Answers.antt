use Prim.Native.Nat.{◌+◌}
use Rattle.record.specs.Record.{leading, slot, data_at}
use Rattle.record.proofs.Stores.{checksum-by}
use Rattle.record.proofs.Judge.{line-judged, line-short}
use native.Mathlib.Omega.{arith}
use Rattle.record_line.proofs.judge_line.Goals as goal

pub returns-then-t-p : goal.returns-then-t-p
returns-then-t-p c = let a = c.args in line-short a.t.now a.p a.kind a.address a.n (omega arith)

pub returns : goal.returns
returns c = let a = c.args in line-judged a.t.now a.p a.kind a.address a.n _ _ _ _ _ (omega arith) c.miss_lead-lead.ensures.0 c.scan_data-d.ensures.1 (checksum-by (leading (slot a.kind a.address a.n)) (data_at a.t.now (a.p + 12) a.n) _ _ c.scan_data-d.ensures.0 c.line_checksum.ensures) c.miss_hex-check.ensures.0 c.miss-last.ensures.0
