use Rattle.branch_range.proofs.CellLaws.{scan-stop, scan-turn, scan-end}
use Rattle.branch_range.proofs.Known.{word-inside}
use native.Mathlib.Omega.{arith}
use Rattle.branch_range.proofs.scan.Goals as goal

pub field_in-g-requires : goal.field_in-g-requires
field_in-g-requires c = let r = c.requires.0 in (r.ready, omega (arith, r.few, c.loop-i-test.true), r.held _ c.loop-i-test.true)

pub is_out-requires : goal.is_out-requires
is_out-requires c = let a = c.args in (word-inside a.file.now a.f a.s a.n _ _ a.origin _ c.requires.0 c.loop-i-test.true c.field_in-g.ensures c.requires.2, c.requires.1)

pub returns-then-is_out : goal.returns-then-is_out
returns-then-is_out c = scan-stop _ _ _ _ _ _ c.loop-i.invariant _ _ c.loop-i-test.true c.field_in-g.ensures c.is_out.ensures c.if-is_out.true

pub loop-i-preserved : goal.loop-i-preserved
loop-i-preserved c = scan-turn _ _ _ _ _ _ c.loop-i.invariant _ c.field_in-g.ensures c.is_out.ensures c.if-is_out.false

pub returns : goal.returns
returns c = scan-end _ _ _ _ _ _ c.loop-i.invariant _ c.loop-i-test.false
