-- A list of calls as numbers: 0 and a plan is a build, any other number and two plans a move. What is cut short ends the list.
use Rattle.std.specs.Prelude.{cond, List, [], ◌∷◌, ◌++◌, ℕ, zero, suc, ◌+◌, ◌-◌, length, get_or, take, drop, eqb, leb, ltb}
use Rattle.book.specs.Machine.{Call}
use Rattle.book.specs.Machine.Call.{build, move}

-- ---- plans: so many numbers at their head, then how many numbers their list has, and those

-- where the plan at a place ends, 0 where it is cut short
unfoldable pub plan_end : ℕ → List ℕ → ℕ → ℕ
plan_end head s at =
    cond (leb (at + (head + 1)) (length s))
    (cond (leb (get_or s (at + head) 0) (length s - (at + (head + 1)))) (at + (head + 1) + get_or s (at + head) 0) 0)
    0

-- its list
unfoldable pub plan_list : ℕ → List ℕ → ℕ → List ℕ
plan_list head s at = take (get_or s (at + head) 0) (drop (at + (head + 1)) s)

-- ---- calls

-- how plans are read: where the plan at a place ends, 0 where it is cut short, and the plan
pub record Reader (P : Type 0) : Type 0 where
  pub end : List ℕ → ℕ → ℕ
  pub plan : List ℕ → ℕ → P

-- where the call at a place ends, 0 where there is none, by where plans end
unfoldable pub call_end : (List ℕ → ℕ → ℕ) → List ℕ → ℕ → ℕ
call_end end s at =
    cond (ltb at (length s))
    (cond (eqb (get_or s at 0) 0) (end s (at + 1)) (cond (eqb (end s (at + 1)) 0) 0 (end s (end s (at + 1)))))
    0

module _ {P : Type 0} (r : Reader P) where
  unfoldable pub call_at : List ℕ → ℕ → Call P
  call_at s at = cond (eqb (get_or s at 0) 0) (build (r.plan s (at + 1))) (move (r.plan s (at + 1)) (r.plan s (r.end s (at + 1))))

  -- at most n calls from a place
  unfoldable pub calls_from : ℕ → List ℕ → ℕ → List (Call P)
  calls_from zero s at = []
  calls_from (suc n) s at = cond (eqb (call_end r.end s at) 0) [] (call_at s at ∷ calls_from n s (call_end r.end s at))

  -- every list of numbers is a list of calls; a call takes at least one number, so this is all of them
  unfoldable pub calls_of : List ℕ → List (Call P)
  calls_of s = calls_from (length s) s 0

-- ---- and back

module _ {P : Type 0} (numbers : P → List ℕ) where
  unfoldable pub call_numbers : Call P → List ℕ
  call_numbers (build p) = 0 ∷ numbers p
  call_numbers (move p q) = 1 ∷ (numbers p ++ numbers q)

  -- the numbers of a list of calls: calls_of gives the list back
  unfoldable pub encode : List (Call P) → List ℕ
  encode [] = []
  encode (c ∷ cs) = call_numbers c ++ encode cs
