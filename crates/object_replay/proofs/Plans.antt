-- Every list of calls is the list of a script.
use mathlib.Core.Path.{◌≡◌}
use mathlib.Core.List.{List, []}
use Rattle.script.proofs.Encode.{Readable, plan-numbers-read, encode-decode}
use Rattle.object_history.specs.Call.{Call}
use Rattle.object_replay.specs.Script.{plans, calls_of, plan_numbers, encode}

plans-readable : Readable plans plan_numbers
plans-readable s at p rest e =
    let told = plan-numbers-read s at [] p rest e in
    record { end = told.0; plan = told.1 }

pub object-encode-decode : (cs : List Call) → calls_of (encode cs) ≡ cs
object-encode-decode cs = encode-decode plans plan_numbers plans-readable cs
