-- A list of calls as numbers; a plan is its text address, its data address, how many addresses its list has, and those.
use Rattle.std.specs.Prelude.{List, ◌∷◌, ℕ, ◌+◌, length, get_or}
use Rattle.script.specs.Script.{Reader}
use Rattle.script.specs.Script as script
use Rattle.history.specs.Plan.{Plan}
use Rattle.history.specs.Call.{Call}

-- where the plan at a place ends, 0 where it is cut short
abbrev pub plan_end : List ℕ → ℕ → ℕ
plan_end s at = script.plan_end 2 s at

unfoldable pub plan_at : List ℕ → ℕ → Plan
plan_at s at = record { text = get_or s at 0; dat = get_or s (at + 1) 0; list = script.plan_list 2 s at }

abbrev pub plans : Reader Plan
plans = record { end = plan_end; plan = plan_at }

abbrev pub call_end : List ℕ → ℕ → ℕ
call_end s at = script.call_end plan_end s at

abbrev pub call_at : List ℕ → ℕ → Call
call_at s at = script.call_at plans s at

-- every list of numbers is a list of calls
abbrev pub calls_of : List ℕ → List Call
calls_of s = script.calls_of plans s

-- ---- and back

abbrev pub plan_numbers : Plan → List ℕ
plan_numbers p = p.text ∷ p.dat ∷ length p.list ∷ p.list

-- the numbers of a list of calls: calls_of gives the list back
abbrev pub encode : List Call → List ℕ
encode cs = script.encode plan_numbers cs
