-- RANGE of a section's own table: the exact sum on each branch word, and the first entry that is out of range.
use Rattle.std.specs.Prelude.{◌≡◌, Bool, true, false, cond, not, ◌&&◌, List, ℕ, zero, suc, ◌+◌, ◌-◌, ◌≤◌, ◌<◌, ℤ, pos, ◌+ℤ◌}
use Rattle.word.specs.Number.{field_at}
use Rattle.book.specs.Machine.{Shifts}
use Rattle.branch.specs.Branch.{branch_value, in_range}
use Rattle.object_history.specs.declared.ObjectEntry.{ObjectEntry}
use Rattle.object_history.specs.Entry.{amount_of}
use Rattle.object_history.specs.Range.{is_branch, is_on}
use Rattle.section_relocation.specs.declared.ObjectSection.{ObjectSection}

-- the exact sum of the first n of numbered entries on the branch word at an offset
unfoldable pub sum_on : (ℕ → ObjectEntry) → ℕ → Shifts → ℕ → ℤ
sum_on r zero s off = pos 0
sum_on r (suc n) s off = cond (is_on off (r n)) (amount_of (r n) s) (pos 0) +ℤ sum_on r n s off

-- entry i of n is on a branch word whose sum is out of range; `word` gives the word at an offset of the buffer
unfoldable pub is_out : (ℕ → ObjectEntry) → ℕ → Shifts → (ℕ → ℕ) → ℕ → Bool
is_out r n s word i = is_branch (r i).field.kind && not (in_range (branch_value (word (r i).field.offset) +ℤ sum_on r n s (r i).field.offset))

-- x is the first of n entries that is out of range, or n
pub record FirstOut (r : ℕ → ObjectEntry) (n : ℕ) (s : Shifts) (word : ℕ → ℕ) (x : ℕ) : Type 0 where
  pub within : x ≤ n
  pub before : (i : ℕ) → i < x → is_out r n s word i ≡ false
  pub here : x < n → is_out r n s word x ≡ true

-- the word at an offset of the buffer, where the section's bytes lie from `origin` on in `bytes`
abbrev pub word_from : List ℕ → ℕ → ObjectSection → ℕ → ℕ
word_from bytes origin p off = field_at 4 (origin + (off - p.place)) bytes
