-- Serves internal contracts only: the search over windows. One cell for each 4 bytes of a window: a sum's remainder modulo 2^96, its low 64 bits in one array, the high 32 in another.
use Rattle.std.specs.Prelude.{◌≡◌, Bool, true, false, cond, ◌&&◌, List, ℕ, zero, suc, ◌+◌, ◌-◌, ◌*◌, ◌/◌, ◌^◌, ◌≤◌, ◌<◌, length, get_or, leb, eqb, ℤ, pos, nat_abs, ◌+ℤ◌}
use Rattle.book.specs.Machine.{Shifts}
use Rattle.field_kind.specs.declared.ObjectField.{ObjectField}
use Rattle.branch.specs.Branch.{branch_value, wide, wide_in_range}
use Rattle.object_history.specs.declared.ObjectEntry.{ObjectEntry}
use Rattle.object_history.specs.Entry.{amount_of}
use Rattle.object_history.specs.Range.{is_branch}
use Rattle.branch_range.specs.Range.{is_out}

-- ---- what is known of a section's entries and of the shifts

-- the branch words of n entries are among the bytes from start up to end, and no two share a byte
pub record Words (r : ℕ → ObjectEntry) (n start end : ℕ) : Type 0 where
  pub inside : (i : ℕ) → i < n → is_branch (r i).field.kind ≡ true → (start ≤ (r i).field.offset) × ((r i).field.offset + 4 ≤ end)
  pub apart : (i j : ℕ) → i < n → j < n → is_branch (r i).field.kind ≡ true → is_branch (r j).field.kind ≡ true
      → (r i).field.offset < (r j).field.offset + 4 → (r j).field.offset < (r i).field.offset + 4 → (r i).field.offset ≡ (r j).field.offset

-- sums of n entries stay below 2^95
pub record Small (n : ℕ) (s : Shifts) : Type 0 where
  pub few : n < 2 ^ 28
  pub shifts : (k : ℕ) → nat_abs (s k) ≤ 2 ^ 65

-- ---- cells

-- a branch in the cell x of the window from base
abbrev pub is_in_cell : ℕ → ℕ → ObjectField → Bool
is_in_cell base x g = is_branch g.kind && (leb base g.offset && eqb ((g.offset - base) / 4) x)

-- x is the cell of a field among n cells, or n
pub record CellOut (g : ObjectField) (base n x : ℕ) : Type 0 where
  pub within : x ≤ n
  pub only : (y : ℕ) → y < n → is_in_cell base y g ≡ eqb y x

-- what a cell holds
abbrev pub cell_of : List ℕ → List ℕ → ℕ → ℕ
cell_of low high x = get_or high x 0 * 2 ^ 64 + get_or low x 0

-- z added to the sum in cell x
pub record AddOut (z : ℤ) (x : ℕ) (low₀ high₀ low high : List ℕ) : Type 0 where
  pub low_size : length low ≡ length low₀
  pub high_size : length high ≡ length high₀
  pub there : cell_of low high x ≡ wide (pos (cell_of low₀ high₀ x) +ℤ z)
  pub else : (y : ℕ) → (y ≡ x → ⊥) → cell_of low high y ≡ cell_of low₀ high₀ y

-- c₀ made all zeros
pub record Zeros (c₀ c : List ℕ) : Type 0 where
  pub size : length c ≡ length c₀
  pub zero : (x : ℕ) → get_or c x 0 ≡ 0

-- ---- all entries added

-- the exact sum of the first i entries in the cell x
unfoldable pub cell_sum : (ℕ → ObjectEntry) → Shifts → ℕ → ℕ → ℕ → ℤ
cell_sum r s base x zero = pos 0
cell_sum r s base x (suc i) = cond (is_in_cell base x (r i).field) (amount_of (r i) s) (pos 0) +ℤ cell_sum r s base x i

-- each cell has the remainder of the sum of the first i entries in it
abbrev pub CellsAre : (ℕ → ObjectEntry) → Shifts → ℕ → ℕ → List ℕ → List ℕ → Type 0
CellsAre r s base i low high = (x : ℕ) → x < length low → cell_of low high x ≡ wide (cell_sum r s base x i)

-- what adding entry i leaves
pub record StepOut (r : ℕ → ObjectEntry) (s : Shifts) (base i : ℕ) (low₀ high₀ low high : List ℕ) : Type 0 where
  pub low_size : length low ≡ length low₀
  pub high_size : length high ≡ length high₀
  pub cells : CellsAre r s base i low₀ high₀ → CellsAre r s base (suc i) low high

-- x is next, or less where g is a branch at x
pub record LowerOut (g : ObjectField) (end next x : ℕ) : Type 0 where
  pub low : end ≤ x
  pub high : x ≤ next
  pub none : is_branch g.kind ≡ true → end ≤ g.offset → x ≤ g.offset

-- of i entries, none is a branch from end on and before next
abbrev pub Skipped : (ℕ → ObjectEntry) → ℕ → ℕ → ℕ → Type 0
Skipped r i end next = (j : ℕ) → j < i → is_branch (r j).field.kind ≡ true → end ≤ (r j).field.offset → next ≤ (r j).field.offset

-- the cells with n entries added, and where the next window may start
pub record AllOut (r : ℕ → ObjectEntry) (s : Shifts) (n base size next : ℕ) (low high : List ℕ) : Type 0 where
  pub low_size : length low ≡ size
  pub high_size : length high ≡ size
  pub cells : CellsAre r s base n low high
  pub further : base + 4 * size ≤ next
  pub skipped : Skipped r n (base + 4 * size) next

-- ---- words judged by their cells

-- a field is a branch in the window, and its cell shows that it is out of range
pub record OutBy (word : ℕ → ℕ) (base : ℕ) (low high : List ℕ) (g : ObjectField) : Type 0 where
  pub cell : ℕ
  pub below : cell < length low
  pub inside : is_in_cell base cell g ≡ true
  pub bad : wide_in_range (wide (pos (cell_of low high cell) +ℤ branch_value (word g.offset))) ≡ false

pub record JudgeOut (word : ℕ → ℕ) (base : ℕ) (low high : List ℕ) (g : ObjectField) (b : Bool) : Type 0 where
  pub hit : b ≡ true → OutBy word base low high g
  pub miss : b ≡ false → OutBy word base low high g → ⊥

-- x is the first of n fields that is out by its cell, or n
pub record ScanOut (g : ℕ → ObjectField) (word : ℕ → ℕ) (base : ℕ) (low high : List ℕ) (n x : ℕ) : Type 0 where
  pub within : x ≤ n
  pub before : (i : ℕ) → i < x → OutBy word base low high (g i) → ⊥
  pub here : x < n → OutBy word base low high (g x)

-- what the windows below upto have found of n entries
pub record SweepOut (r : ℕ → ObjectEntry) (n : ℕ) (s : Shifts) (word : ℕ → ℕ) (upto x : ℕ) : Type 0 where
  pub within : x ≤ n
  pub before : (i : ℕ) → i < x → (r i).field.offset < upto → is_out r n s word i ≡ false
  pub here : x < n → is_out r n s word x ≡ true
