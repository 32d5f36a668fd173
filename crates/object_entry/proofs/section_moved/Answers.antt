use Rattle.object_entry.proofs.Entries.{moved-low, moved-high}
use Rattle.object_entry.proofs.section_moved.Goals as goal

pub returns-then-scnum-lt32768 : goal.returns-then-scnum-lt32768
returns-then-scnum-lt32768 c = moved-low c.args.scnum c.if-scnum-lt32768.true

pub returns : goal.returns
returns c = moved-high c.args.scnum c.if-scnum-lt32768.false
