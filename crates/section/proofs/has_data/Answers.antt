use Rattle.word.proofs.Test.{found}
use Rattle.section.specs.Section.{has_raw_data}
use Rattle.section.proofs.has_data.Goals as goal

pub returns-then-may_have_raw : goal.returns-then-may_have_raw
unfolding has_raw_data
returns-then-may_have_raw c = rw (found c.may_have_raw.ensures c.if-may_have_raw.true)

pub returns : goal.returns
unfolding has_raw_data
returns c = rw (found c.may_have_raw.ensures c.if-may_have_raw.false)
