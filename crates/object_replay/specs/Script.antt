-- A list of calls of an object file as numbers; a plan is how many addresses it has, and those.
use Rattle.std.specs.Prelude.{List, ◌∷◌, ℕ, length}
use Rattle.script.specs.Script.{Reader}
use Rattle.script.specs.Script as script
use Rattle.object_history.specs.Object.{Plan}
use Rattle.object_history.specs.Call.{Call}

-- where the plan at a place ends, 0 where it is cut short
abbrev pub plan_end : List ℕ → ℕ → ℕ
plan_end s at = script.plan_end 0 s at

abbrev pub plan_at : List ℕ → ℕ → Plan
plan_at s at = script.plan_list 0 s at

abbrev pub plans : Reader Plan
plans = record { end = plan_end; plan = plan_at }

abbrev pub call_end : List ℕ → ℕ → ℕ
call_end s at = script.call_end plan_end s at

abbrev pub call_at : List ℕ → ℕ → Call
call_at s at = script.call_at plans s at

-- every list of numbers is a list of calls
abbrev pub calls_of : List ℕ → List Call
calls_of s = script.calls_of plans s

-- ---- and back

abbrev pub plan_numbers : Plan → List ℕ
plan_numbers p = length p ∷ p

abbrev pub encode : List Call → List ℕ
encode cs = script.encode plan_numbers cs
