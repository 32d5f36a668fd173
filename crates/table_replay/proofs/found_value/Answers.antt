use mathlib.Core.Path.{refl}
use Rattle.table_replay.proofs.found_value.Goals as goal

pub returns-in-Err : goal.returns-in-Err
returns-in-Err c = rw c.in-Err.is refl
