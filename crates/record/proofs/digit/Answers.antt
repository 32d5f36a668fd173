use Rattle.record.proofs.Hex.{digit-number, digit-letter}
use Rattle.record.proofs.digit.Goals as goal
use Rattle.record.proofs.digit.Goals.{then-d-gt9, else-d-gt9}

pub returns : goal.returns
returns c =
    elim c.if-d-gt9.branch [
      | then-d-gt9 w ↦ digit-letter c.args.d _ w.if-d-gt9.true w.letter-is
      | else-d-gt9 w ↦ digit-number c.args.d _ w.if-d-gt9.false w.letter-is
    ]
