use Rattle.offset.proofs.address_place.Goals as goal

pub returns-in-Misplaced : goal.returns-in-Misplaced
returns-in-Misplaced c = rw c.in-Misplaced.is c.header_place.ensures

pub returns-in-BssBelowData : goal.returns-in-BssBelowData
returns-in-BssBelowData c = rw c.in-BssBelowData.is c.header_place-in-BssBelowData.ensures
