-- Serves internal contracts only: the pass over branches in ascending order. The entries on one word follow each other, so one sum is held at a time.
use Rattle.std.specs.Prelude.{◌≡◌, true, false, cond, ℕ, ◌≤◌, ◌<◌, ltb, ◌+ℤ◌}
use Rattle.book.specs.Machine.{Shifts}
use Rattle.field_kind.specs.declared.ObjectField.{ObjectField}
use Rattle.branch.specs.Branch.{branch_value, sum_of, wide, wide_in_range}
use Rattle.object_history.specs.declared.ObjectEntry.{ObjectEntry}
use Rattle.object_history.specs.Range.{is_branch}
use Rattle.branch_range.specs.declared.Run.{Run}
use Rattle.branch_range.specs.Range.{sum_on, is_out}

-- k is the first of n fields that is a branch, or n
pub record FirstBranch (g : ℕ → ObjectField) (n k : ℕ) : Type 0 where
  pub within : k ≤ n
  pub before : (j : ℕ) → j < k → is_branch (g j).kind ≡ false
  pub here : k < n → is_branch (g k).kind ≡ true

-- by the sums of the first i entries, x is the first of those below upto that is out of range, or n where none is
pub record Found (r : ℕ → ObjectEntry) (i : ℕ) (s : Shifts) (word : ℕ → ℕ) (n upto x : ℕ) : Type 0 where
  pub within : x ≤ n
  pub before : (j : ℕ) → j < upto → j < x → is_out r i s word j ≡ false
  pub here : x < n → (x < upto) × (is_out r i s word x ≡ true)

-- what is known after the first i of n entries: the last word, the first entry on it, and its sum so far; of the words before it, which is out of range
pub record Ascended (r : ℕ → ObjectEntry) (s : Shifts) (word : ℕ → ℕ) (n i : ℕ) (run : Run) : Type 0 where
  pub begun : run.start < i
  pub branch : is_branch (r run.start).field.kind ≡ true
  pub place : (r run.start).field.offset ≡ run.at
  pub earlier : (j : ℕ) → j < run.start → is_branch (r j).field.kind ≡ true → (r j).field.offset < run.at
  pub later : (j : ℕ) → run.start ≤ j → j < i → is_branch (r j).field.kind ≡ true → (r j).field.offset ≡ run.at
  pub total : sum_of run.sum ≡ wide (branch_value (word run.at) +ℤ sum_on r i s run.at)
  pub found : Found r i s word n run.start run.first

-- the first that is out of range, the last word included
unfoldable pub closed : Run → ℕ → ℕ
closed run n = cond (ltb run.first n) run.first (cond (wide_in_range (sum_of run.sum)) n run.start)
