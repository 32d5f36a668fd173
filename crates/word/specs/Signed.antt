-- Signed numbers: two's complement, and integers compared.
use Rattle.std.specs.Prelude.{Bool, true, false, cond, ℕ, ◌-◌, ltb, leb, ℤ, pos, negsuc}

-- the signed number that 16 bits stand for: from 8000 hex on it is n - 10000 hex
unfoldable pub signed16 : ℕ → ℤ
signed16 n = cond (ltb n 0x8000) (pos n) (negsuc (0xFFFF - n))

-- whether a is at most b
abbrev pub lebℤ : ℤ → ℤ → Bool
lebℤ (pos a) (pos b) = leb a b
lebℤ (pos a) (negsuc b) = false
lebℤ (negsuc a) (pos b) = true
lebℤ (negsuc a) (negsuc b) = leb b a
