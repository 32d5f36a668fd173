-- Every list of calls is the list of a script: the one that `encode` gives.
use mathlib.Core.Path.{◌≡◌, refl}
use mathlib.Core.List.{List, [], ◌∷◌, ◌++◌}
use Rattle.script.proofs.Encode.{Readable, from-get_d, from_first, plan-numbers-read}
use Rattle.script.proofs.Encode as script
use Rattle.history.specs.Call.{Call}
use Rattle.replay.specs.Script.{plan_at, plans, calls_of, plan_numbers, encode}

-- a plan's numbers are read as the plan
plans-readable : Readable plans plan_numbers
plans-readable s at p rest e = record { end = (plan-numbers-read s at (p.text ∷ p.dat ∷ []) p.list rest e).0; plan = reads }
  where
    reads : plan_at s at ≡ p
    reads = unfold plan_at in
        (rw (from_first s at (plan_numbers p ++ rest) e, from-get_d s at (plan_numbers p ++ rest) e 1, (plan-numbers-read s at (p.text ∷ p.dat ∷ []) p.list rest e).1)
        refl)

-- every list of calls is the list of some numbers
pub encode-decode : (cs : List Call) → calls_of (encode cs) ≡ cs
encode-decode cs = script.encode-decode plans plan_numbers plans-readable cs
