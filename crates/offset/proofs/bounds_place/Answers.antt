use Rattle.offset.proofs.bounds_place.Goals as goal

pub returns-in-RawData : goal.returns-in-RawData
returns-in-RawData c = rw c.in-RawData.is c.header_place.ensures

pub returns-in-SectionTable : goal.returns-in-SectionTable
returns-in-SectionTable c = rw c.in-SectionTable.is c.header_place-in-SectionTable.ensures
