use Rattle.script.specs.Tally.{accepted_one}
use Rattle.script.proofs.accepted_one.Goals as goal

pub returns-in-Ok : goal.returns-in-Ok
unfolding accepted_one
returns-in-Ok g c = rw c.in-Ok.is

pub returns-in-Err : goal.returns-in-Err
unfolding accepted_one
returns-in-Err g c = rw c.in-Err.is
