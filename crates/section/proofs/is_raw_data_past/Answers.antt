use Rattle.word.proofs.Test.{found}
use Rattle.section.specs.Section.{raw_data_past}
use Rattle.section.proofs.is_raw_data_past.Goals as goal

pub returns-then-has_data : goal.returns-then-has_data
unfolding raw_data_past
returns-then-has_data c = rw (found c.has_data.ensures c.if-has_data.true) c.ends_past.ensures

pub returns : goal.returns
unfolding raw_data_past
returns c = rw (found c.has_data.ensures c.if-has_data.false)
