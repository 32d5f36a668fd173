use Rattle.offset.proofs.thread_place.Goals as goal

pub returns-in-ThreadSection : goal.returns-in-ThreadSection
returns-in-ThreadSection c = rw c.in-ThreadSection.is c.header_place.ensures

pub returns-in-ThreadSymbol : goal.returns-in-ThreadSymbol
returns-in-ThreadSymbol c = rw c.in-ThreadSymbol.is c.relocation_place.ensures
