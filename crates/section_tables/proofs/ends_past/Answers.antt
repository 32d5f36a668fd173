use mathlib.Core.Path.{sym}
use native.Mathlib.Omega.{arith}
use Rattle.word.proofs.Test.{past-yes}
use Rattle.table_kind.proofs.Places.{some_bytes}
use Rattle.section_tables.proofs.Tables.{ends_by}
use Rattle.section_tables.proofs.ends_past.Goals as goal

pub returns-then-len-start : goal.returns-then-len-start
returns-then-len-start c = sym (past-yes _ _ _ (omega arith))

pub nonzero_div-result : goal.nonzero_div-result
nonzero_div-result c = rw c.entry_length.ensures (some_bytes c.args.k c.args.f)

pub returns : goal.returns
returns c = let a = c.args in ends_by a.k a.f a.start a.count a.len (omega arith) c.entry_length.ensures
