use native.Mathlib.Omega.{arith}
use Rattle.srecord.proofs.Checks.{shares-by}
use Rattle.srecord.proofs.shares_address.Goals as goal
use Rattle.srecord.proofs.shares_address.Goals.{then-a-b, else-a-b, then-b-k, else-b-k}

pub returns : goal.returns
returns c =
    let a = c.args in
    elim c.if-a-b.branch [
      | then-a-b u ↦
          elim c.if-b-k.branch [
            | then-b-k w ↦ shares-by a.a a.n a.b a.k c.if-a-b.start c.if-b-k.end (omega arith) (omega arith)
            | else-b-k w ↦ shares-by a.a a.n a.b a.k c.if-a-b.start c.if-b-k.end (omega arith) (omega arith)
          ]
      | else-a-b u ↦
          elim c.if-b-k.branch [
            | then-b-k w ↦ shares-by a.a a.n a.b a.k c.if-a-b.start c.if-b-k.end (omega arith) (omega arith)
            | else-b-k w ↦ shares-by a.a a.n a.b a.k c.if-a-b.start c.if-b-k.end (omega arith) (omega arith)
          ]
    ]
