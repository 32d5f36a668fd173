use Prim.Native.Nat.{◌+◌, ◌*◌}
use Rattle.record.proofs.Judge.{judge-next, judge-bad, judge-end, line-room}
use mathlib.Core.Path.{◌≡◌, ◌∙◌, sym}
use native.Mathlib.Omega.{arith}
use Rattle.record_text.proofs.judge_image.Goals as goal

pub returns-then-not-judge_line : goal.returns-then-not-judge_line
returns-then-not-judge_line c =
    let a = c.args in
    let l = c.loop-line in
    judge-bad a.t.now (a.first + l.line) l.p a.address a.n (32 * l.line) (omega arith) (rw c.next_count-c.ensures at (sym c.judge_line.ensures ∙ c.if-not-judge_line.true)) ∙ l.invariant.1

pub loop-line-preserved : goal.loop-line-preserved
loop-line-preserved c =
    let a = c.args in
    let l = c.loop-line in
    let e = c.next_count-c.ensures in
    let good = sym c.judge_line.ensures ∙ c.if-not-judge_line.false in
    let room = line-room a.t.now l.p _ _ _ good in
    let next : 32 * (l.line + 1) ≡ 32 * l.line + 32 = omega arith in
    let line : a.first + (l.line + 1) ≡ a.first + l.line + 1 = omega arith in
    (room, rw (next, line, e) (judge-next a.t.now (a.first + l.line) l.p a.address a.n (32 * l.line) (omega arith) (rw e at good)) ∙ l.invariant.1, omega (arith, l.invariant.2))

pub returns : goal.returns
returns c = let a = c.args in let l = c.loop-line in judge-end a.t.now (a.first + l.line) l.p a.address a.n (32 * l.line) (omega arith) ∙ l.invariant.1
