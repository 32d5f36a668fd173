use Rattle.std.proofs.Common.{rules}
use Rattle.record.proofs.Values.{length-values, values-lt, joined-values}
use Rattle.record_line.proofs.fill_line.Goals as goal

pub put_joined-requires : goal.put_joined-requires
put_joined-requires c = let a = c.args in let e = c.put_values.ensures.values in (rw e (length-values a.t.now a.p 64), λ k. rw e (values-lt a.t.now a.p 64 k), search rules)

pub returns : goal.returns
returns c = let a = c.args in rw (c.put_values.ensures.values, joined-values a.t.now a.p 32) at c.put_joined.ensures
