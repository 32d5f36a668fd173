use Rattle.std.proofs.Common.{length-take, get_or-take, ◌<◌}
use mathlib.Core.Path.{◌∙◌, sym}
use native.Mathlib.Omega.{arith}
use Rattle.parts.proofs.Tallied.{thread-refused, thread-told}
use Rattle.word.proofs.Test.{found}
use Rattle.refusal.proofs.Order.{first-turn, first-stop, first-end}
use Rattle.parts.specs.Sections.{thread_at}
use Rattle.parts.proofs.check_thread.Goals as goal

pub returns-then-is_thread : goal.returns-then-is_thread
returns-then-is_thread c =
    let a = c.args in
    let l = c.loop-i in
    let h : l.i < a.count = omega (arith, length-take a.count a.sections) in
    let e = rw (c.flags.ensures, get_or-take) at c.is_thread.ensures in
    sym (l.invariant ∙ first-stop (thread_at a.sections) a.count l.i h (thread-told a.sections l.i e ∙ c.if-is_thread.true) ∙ thread-refused a.sections l.i (found e c.if-is_thread.true))

pub loop-i-preserved : goal.loop-i-preserved
loop-i-preserved c =
    let a = c.args in
    let l = c.loop-i in
    let h : l.i < a.count = omega (arith, length-take a.count a.sections) in
    let e = rw (c.flags.ensures, get_or-take) at c.is_thread.ensures in
    l.invariant ∙ first-turn (thread_at a.sections) a.count l.i h (thread-told a.sections l.i e ∙ c.if-is_thread.false)

pub returns : goal.returns
returns c = sym (c.loop-i.invariant ∙ first-end (thread_at c.args.sections) c.args.count c.loop-i.i (omega (arith, length-take c.args.count c.args.sections)))
