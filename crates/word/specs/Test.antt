-- A test in exact arithmetic.
use Rattle.std.specs.Prelude.{Bool, ℕ, ◌+◌, ltb}

-- `size` from `from` ends past `end`
unfoldable pub past : ℕ → ℕ → ℕ → Bool
past from size end = ltb end (from + size)
