use Rattle.std.proofs.Common.{take, arith, length-take-le}
use Rattle.lister.proofs.Listed.{on_ok, front, read_all, read_part}
use Rattle.lister.proofs.list_file.Goals as goal

pub returns-then-branch : goal.returns-then-branch
returns-then-branch g c =
    let n = c.in_ok-n.ensures in
    let read = length-take-le c.in_ok-n.n c.read_full.new.buffer n.within in
    on_ok c.write_all.result (read_part _ _ _ _ (take c.in_ok-n.n c.read_full.new.buffer) c.in_ok-has_more.field-0 n.bytes (λ h. n.end (omega (arith, rw read at h))) c.in_ok-has_more.ensures c.if-branch.true)
    c.write_all.ensures.bytes

pub returns : goal.returns
returns g c =
    let n = c.in_ok-n.ensures in
    let read = length-take-le c.in_ok-n.n c.read_full.new.buffer n.within in
    let text = c.list_headers-end.ensures in
    on_ok c.write_all-2.result (read_all _ _ _ _ (take c.in_ok-n.n c.read_full.new.buffer) _ c.in_ok-has_more.field-0 n.bytes c.in_ok-has_more.ensures c.if-branch.false (rw read (omega (arith, n.within)))
    (rw text.text (front _ _ _ (omega (arith, text.next, text.within.0)) text.next)))
    c.write_all-2.ensures.bytes
