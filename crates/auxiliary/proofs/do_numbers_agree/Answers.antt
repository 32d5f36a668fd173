use Rattle.word.proofs.Test.{found}
use Rattle.auxiliary.specs.Auxiliary.{numbers_agree}
use Rattle.auxiliary.proofs.do_numbers_agree.Goals as goal

pub returns-then-not-same_section : goal.returns-then-not-same_section
unfolding numbers_agree
returns-then-not-same_section c = rw (found c.same_section.ensures c.if-not-same_section.true)

pub returns-then-not-same_section-2 : goal.returns-then-not-same_section-2
unfolding numbers_agree
returns-then-not-same_section-2 c = rw (found c.same_section.ensures c.if-not-same_section.false, found c.same_section-2.ensures c.if-not-same_section-2.true)

pub returns-then-not-same_section-3 : goal.returns-then-not-same_section-3
unfolding numbers_agree
returns-then-not-same_section-3 c = rw (found c.same_section.ensures c.if-not-same_section.false, found c.same_section-2.ensures c.if-not-same_section-2.false, found c.same_section-3.ensures c.if-not-same_section-3.true)

pub returns : goal.returns
unfolding numbers_agree
returns c = rw (found c.same_section.ensures c.if-not-same_section.false, found c.same_section-2.ensures c.if-not-same_section-2.false, found c.same_section-3.ensures c.if-not-same_section-3.false) c.same_section-4.ensures
