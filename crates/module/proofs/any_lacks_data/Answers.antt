use Rattle.word.proofs.Test.{found}
use Rattle.module.proofs.any_lacks_data.Goals as goal

pub returns-then-lacks_data : goal.returns-then-lacks_data
returns-then-lacks_data c = rw (found c.lacks_data.ensures c.if-lacks_data.true)

pub returns-then-lacks_data-2 : goal.returns-then-lacks_data-2
returns-then-lacks_data-2 c = rw (found c.lacks_data.ensures c.if-lacks_data.false, found c.lacks_data-2.ensures c.if-lacks_data-2.true)

pub returns : goal.returns
returns c = rw (found c.lacks_data.ensures c.if-lacks_data.false, found c.lacks_data-2.ensures c.if-lacks_data-2.false) c.lacks_data-3.ensures
