-- A part that lies in the buffer is as long as it says.
use lib.Seq.{length-take-le}
use mathlib.Core.Path.{sym, refl}
use Rattle.listing.proofs.count_in.Goals as goal

-- A part that lies in the buffer is as long as it says.
pub returns-clause-same : goal.returns-clause-same
returns-clause-same c = refl

-- A part that lies in the buffer is as long as it says.
pub returns-clause-within : goal.returns-clause-within
returns-clause-within c = (c.requires, sym (length-take-le c.args.end c.args.out.now c.requires))
