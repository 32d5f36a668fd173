use mathlib.Core.Path.{refl}
use Rattle.word.proofs.Test.{found}
use Rattle.offset.proofs.Found.{known_small}
use Rattle.offset.proofs.Inside.{known-length}
use Rattle.offset.proofs.offset_of.Goals as goal

pub offset_in-requires : goal.offset_in-requires
offset_in-requires c = let a = c.args in let e = found c.find_starts-a.ensures c.in-Some.is in (known_small a.file.now e, known-length a.file.now e)

pub returns-in-None : goal.returns-in-None
returns-in-None c = rw (← c.find_starts-a.ensures, c.in-None.is) refl

pub returns-in-Some : goal.returns-in-Some
returns-in-Some c = rw (← c.find_starts-a.ensures, c.in-Some.is) c.offset_in.ensures
