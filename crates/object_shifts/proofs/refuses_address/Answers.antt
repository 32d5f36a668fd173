use mathlib.Core.Bool.{◌&&◌}
use Prim.Native.Nat.{◌+◌}
use lib.Dec.{ltb, leb}
use Rattle.object_shifts.proofs.Fit.{refuses-not, refuses-placed}
use Rattle.word.proofs.Test.{found}
use Rattle.object_shifts.proofs.refuses_address.Goals as goal

pub returns-then-not-is_placed : goal.returns-then-not-is_placed
returns-then-not-is_placed c = let a = c.args in refuses-not (ltb a.a (a.last + 1) && leb (a.a + a.s.size) (a.last + 1)) (found c.is_placed.ensures c.if-not-is_placed.true)

pub returns : goal.returns
returns c = refuses-placed (found c.is_placed.ensures c.if-not-is_placed.false) c.fits_up_to.ensures
