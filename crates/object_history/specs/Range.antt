-- RANGE: the exact sum of a branch word's value and of all entries on it.
use Rattle.std.specs.Prelude.{Bool, true, false, cond, not, ◌&&◌, List, [], ◌∷◌, ℕ, eqb, ℤ, pos, ◌+ℤ◌, Ok}
use Rattle.word.specs.Number.{field_at}
use Rattle.refusal.specs.declared.Refusal.TheVariants as refusal
use Rattle.refusal.specs.Order.{◌or_else◌, refuse_if}
use Rattle.book.specs.Machine.{Shifts}
use Rattle.field_kind.specs.declared.FieldKind.{FieldKind}
use Rattle.field_kind.specs.declared.FieldKind.TheVariants.{Nothing, Four, Eight, Branch}
use Rattle.branch.specs.Branch.{branch_value, in_range}
use Rattle.object_history.specs.declared.ObjectEntry.{ObjectEntry}
use Rattle.object_history.specs.Entry.{amount_of}
use Rattle.refusal.specs.Verdict.{Verdict}

abbrev pub is_branch : FieldKind → Bool
is_branch Nothing = false
is_branch Four = false
is_branch Eight = false
is_branch Branch = true

-- an entry on the branch word at an offset
abbrev pub is_on : ℕ → ObjectEntry → Bool
is_on off e = is_branch e.field.kind && eqb e.field.offset off

-- the exact sum of all entries on the word
unfoldable pub amounts_on : ℕ → List ObjectEntry → Shifts → ℤ
amounts_on off [] s = pos 0
amounts_on off (e ∷ es) s = cond (is_on off e) (amount_of e s) (pos 0) +ℤ amounts_on off es s

-- the value that the branch word of x at an offset would get by the shifts
unfoldable pub branch_sum : List ObjectEntry → Shifts → List ℕ → ℕ → ℤ
branch_sum es s x off = branch_value (field_at 4 off x) +ℤ amounts_on off es s

-- an entry is on a branch word whose sum is out of range
unfoldable pub out_of_range : List ObjectEntry → Shifts → List ℕ → ObjectEntry → Bool
out_of_range es s x e = is_branch e.field.kind && not (in_range (branch_sum es s x e.field.offset))

module _ (es : List ObjectEntry) (s : Shifts) (x : List ℕ) where
  -- the first such entry of some
  unfoldable pub range_from : List ObjectEntry → Verdict
  range_from [] = Ok tt
  range_from (e ∷ ds) = refuse_if (out_of_range es s x e) (refusal.Range e.name) or_else range_from ds
