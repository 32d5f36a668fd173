use Rattle.word.proofs.Test.{found}
use Rattle.auxiliary.specs.Auxiliary.{sizes_agree}
use Rattle.auxiliary.proofs.do_sizes_agree.Goals as goal

pub returns-then-not-same_extent : goal.returns-then-not-same_extent
unfolding sizes_agree
returns-then-not-same_extent c = rw (found c.same_extent.ensures c.if-not-same_extent.true)

pub returns-then-not-same_extent-2 : goal.returns-then-not-same_extent-2
unfolding sizes_agree
returns-then-not-same_extent-2 c = rw (found c.same_extent.ensures c.if-not-same_extent.false, found c.same_extent-2.ensures c.if-not-same_extent-2.true)

pub returns : goal.returns
unfolding sizes_agree
returns c = rw (found c.same_extent.ensures c.if-not-same_extent.false, found c.same_extent-2.ensures c.if-not-same_extent-2.false)
