use mathlib.Core.Path.{sym, ◌∙◌}
use Rattle.address_put.proofs.New.{put-moved, put-still}
use Rattle.address_put.proofs.put_address.Goals as goal

pub returns-then-does_move : goal.returns-then-does_move
returns-then-does_move c = λ m p g l h. put-moved _ _ _ _ _ _ _ (sym c.does_move.ensures ∙ c.if-does_move.true) c.read_field-old.ensures.value (c.new_address-new.ensures m p g l h) c.put_number.ensures

pub returns-else-does_move : goal.returns-else-does_move
returns-else-does_move c = λ m p g l h. put-still _ _ _ _ _ _ (sym c.does_move.ensures ∙ c.if-does_move.false)
