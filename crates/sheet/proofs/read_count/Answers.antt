use native.Mathlib.Omega.{arith}
use Rattle.sheet.proofs.read_count.Goals as goal

pub get16-requires : goal.get16-requires
get16-requires c = let h = rw c.in-Old.is at c.requires in omega arith

pub get32-requires : goal.get32-requires
get32-requires c = let h = rw c.in-New.is at c.requires in omega arith

pub returns-in-Old : goal.returns-in-Old
returns-in-Old c = rw c.in-Old.is c.get16.ensures

pub returns-in-New : goal.returns-in-New
returns-in-New c = rw c.in-New.is c.get32.ensures
