use Rattle.word.proofs.Test.{found}
use Rattle.line_lookup.specs.Lookup.{line_table_in}
use Rattle.line_lookup.proofs.Tables.{text-known}
use Rattle.line_find.proofs.line_table_in.Goals as goal
use Rattle.refusal.proofs.Order.{handed}
use mathlib.Core.Path.{refl}

pub find_table-a-requires : goal.find_table-a-requires
find_table-a-requires c = let a = c.args in let k = text-known a.y a.n (found c.in_ok-check_text.ensures refl) in (k.0, k.1, c.requires)

pub returns-in_err-check_text : goal.returns-in_err-check_text
unfolding line_table_in
returns-in_err-check_text c = rw (handed c.from_residual.ensures) (rw (← c.in_err-check_text.ensures))

pub returns : goal.returns
unfolding line_table_in
returns c = rw (← c.in_ok-check_text.ensures, ← c.find_table-a.ensures) c.with_format.ensures
