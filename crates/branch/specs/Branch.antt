-- A branch word's signed value, and which values are in range.
use Rattle.std.specs.Prelude.{ℕ, suc, ◌+◌, ◌-◌, ◌*◌, ◌/◌, ◌%◌, ◌^◌, Bool, cond, ◌&&◌, ◌||◌, ℤ, pos, negsuc, ◌-ℤ◌, ◌==◌, nat_le, nat_lt}
use Rattle.update.specs.Update.{remainder}
use Rattle.field_kind.specs.Field.{branch_limit}
use Rattle.branch.specs.declared.Sum.{Sum}

-- a number below 2^26 as a signed one
abbrev pub signed : ℕ → ℤ
signed n = cond (nat_lt n 33554432) (pos n) (pos n -ℤ pos branch_limit)

-- a branch word's signed value: its low 26 bits, the bottom two of which belong to the instruction
unfoldable pub branch_value : ℕ → ℤ
branch_value v = signed (v % branch_limit / 4 * 4)

-- from -33,554,432 to 33,554,428 in steps of 4
unfoldable pub in_range : ℤ → Bool
in_range (pos n) = nat_le n 33554428 && n % 4 == 0
in_range (negsuc n) = nat_le (suc n) 33554432 && suc n % 4 == 0

-- ---- for the contracts of sums

-- an exact sum's remainder modulo 2^96
unfoldable pub wide : ℤ → ℕ
wide z = remainder z (2 ^ 96)

abbrev pub sum_of : Sum → ℕ
sum_of s = s.high * 2 ^ 64 + s.low

-- the test of a value by its remainder
unfoldable pub wide_in_range : ℕ → Bool
wide_in_range r = (nat_le r 33554428 || nat_le (2 ^ 96 - 33554432) r) && r % 4 == 0
