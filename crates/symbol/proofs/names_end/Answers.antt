use native.Mathlib.Nat.{add-sub_cancel_left}
use Rattle.symbol.proofs.names_end.Goals as goal

pub returns : goal.returns
returns c = simp add-sub_cancel_left at c.zero_end.ensures
