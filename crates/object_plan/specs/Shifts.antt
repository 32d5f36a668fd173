-- Shifts as builds and moves hold them: two addresses for each section number.
use Rattle.std.specs.Prelude.{List, ℕ, get_or, pos, ◌-ℤ◌}
use Rattle.book.specs.Machine.{Shifts}

-- the shift of each number: the first list's address minus the second's, exact
unfoldable pub address_shifts : List ℕ → List ℕ → Shifts
address_shifts to from k = pos (get_or to k 0) -ℤ pos (get_or from k 0)

-- how many numbers there are: 0, which stands for no section, and those of the sections
abbrev pub numbers : ℕ
numbers = 33
