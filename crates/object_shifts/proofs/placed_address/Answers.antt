use mathlib.Core.Path.{refl}
use Rattle.word.proofs.Test.{found, here, skip}
use Rattle.object_shifts.proofs.placed_address.Goals as goal

pub returns-then-is_placed : goal.returns-then-is_placed
returns-then-is_placed c = here _ _ (found c.is_placed.ensures c.if-is_placed.true) refl

pub returns : goal.returns
returns c = skip _ _ (found c.is_placed.ensures c.if-is_placed.false) refl
