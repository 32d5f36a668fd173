use native.Mathlib.Nat.{add-sub_cancel_left}
use Rattle.format.proofs.text_of.Goals as goal

pub returns : goal.returns
returns c = simp (c.first_zero.ensures, add-sub_cancel_left)
