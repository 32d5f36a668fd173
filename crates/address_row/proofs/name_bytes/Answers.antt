use Rattle.address_row.proofs.Words.{name-stored}
use Rattle.address_row.proofs.name_bytes.Goals as goal

pub returns : goal.returns
returns c = let a = c.args in rw (c.put64-4.ensures, c.put64-3.ensures, c.put64-2.ensures, c.put64.ensures) (name-stored a.a a.b a.c a.d)
