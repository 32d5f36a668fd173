-- The verdict that opening gives decides; an accepted file has at most 32 sections.
use Rattle.listing.specs.Listing.{listing}
use Rattle.header.proofs.Accepted.{opened_inside}
use mathlib.Core.Path.{◌∙◌}
use Rattle.listing.proofs.list_headers.Goals as goal

pub put_summary-requires : goal.put_summary-requires
put_summary-requires c = let o = c.open-o.ensures.cause in rw o (opened_inside c.args.file.now (rw o at c.in-Ok.is)).few

pub returns-in-Err : goal.returns-in-Err
unfolding listing
returns-in-Err c = let n = c.count_in.ensures in let e = c.put_refusal_line.ensures in rw (← c.open-o.ensures.cause, c.in-Err.is, ← c.refusal_head.ensures) record { next = n.same ∙ e.next; text = e.text; within = n.within }

pub returns-in-Ok : goal.returns-in-Ok
unfolding listing
returns-in-Ok c = let n = c.count_in-in-Ok.ensures in let e = c.put_summary.ensures in rw (← c.open-o.ensures.cause, c.in-Ok.is) record { next = n.same ∙ e.next; text = e.text; within = n.within }
