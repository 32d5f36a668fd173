use Rattle.std.proofs.Common.{rules}
use lib.ListN.{replicate}
use Rattle.record.specs.Record.{sum_of}
use Rattle.record.proofs.Values.{length-values, values-lt, digits-values, line-joined}
use mathlib.Core.Path.{◌∙◌, ap, refl}
use Rattle.record_line.proofs.scan_line.Goals as goal

pub put_joined-requires : goal.put_joined-requires
put_joined-requires c = let a = c.args in let e = c.put_values-wrong.ensures.values in (rw e (length-values a.t.now a.p 64), λ k. rw e (values-lt a.t.now a.p 64 k), search rules)

pub returns : goal.returns
returns c = let a = c.args in let v = c.put_values-wrong.ensures in let b = line-joined a.t.now _ (replicate 32 0) _ a.p v.values refl c.put_joined.ensures in (c.sum_bytes-sum.ensures.0 ∙ ap sum_of b, rw (digits-values a.t.now a.p 32) at v.wrong.0, c.sum_bytes-sum.ensures.1, v.wrong.1)
