-- What a call adds for each symbol: in a build for q the plan's displacements, in a move from p to q what the two plans' differ by.
use Rattle.std.specs.Prelude.{◌≡◌, ℕ, ◌^◌, Bool, true, false, List, ℤ, ◌-ℤ◌, slice_index_or}
use Rattle.update.specs.Update.{remainder}
use Rattle.history.specs.declared.Followed.{Followed}
use Rattle.history.specs.declared.Followed.TheVariants as followed
use Rattle.history.specs.Images.{Shifts}
use Rattle.history.specs.Plan.{Relocatable, Plan, followed_by, displacement_of}

-- the exact shift of what follows an address; `moving` tells a move from a build
unfoldable pub shift_of : Relocatable → Bool → Plan → Plan → Followed → ℤ
shift_of m true p q f = displacement_of m q f -ℤ displacement_of m p f
shift_of m false p q f = displacement_of m q f

-- of each symbol
abbrev pub shifts_of : Relocatable → Bool → Plan → Plan → Shifts
shifts_of m moving p q k = shift_of m moving p q (followed_by m k)

-- the code keeps shifts modulo 2^64; d has those of the three implicit symbols: t of text, b of data and of bss, which moves with data
pub record Displaced (d : List ℕ) (t b : ℤ) : Type 0 where
  pub text : slice_index_or d 0 0 ≡ remainder t (2 ^ 64)
  pub dat : slice_index_or d 1 0 ≡ remainder b (2 ^ 64)
  pub bss : slice_index_or d 2 0 ≡ remainder b (2 ^ 64)

-- Q holds of the shifts of any two plans that have these lists and whose shifts of text, data and bss are d's
abbrev pub ForPlans : Relocatable → List ℕ → Bool → List ℕ → List ℕ → (Shifts → Type 0) → Type 0
ForPlans m d moving from to Q =
    (p q : Plan) → p.list ≡ from → q.list ≡ to → Displaced d (shift_of m moving p q followed.Text) (shift_of m moving p q followed.Data) → Q (shifts_of m moving p q)
