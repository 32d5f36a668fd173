-- OVERLAP: the first entry of a section's table whose field shares a byte with an earlier entry's field and is not the same field, over pairs.
use Rattle.std.specs.Prelude.{◌≡◌, Bool, true, false, not, cond, ◌&&◌, List, ℕ, zero, suc, ◌+◌, ◌≤◌, ◌<◌, ltb, eqb}
use Rattle.format.specs.declared.Format.{Format}
use Rattle.field_kind.specs.declared.FieldKind.{FieldKind}
use Rattle.field_kind.specs.declared.FieldKind.TheVariants.{Nothing, Four, Eight, Branch}
use Rattle.field_kind.specs.declared.ObjectField.{ObjectField}
use Rattle.field_kind.specs.Field.{bytes_in}
use Rattle.section_relocation.specs.declared.ObjectSection.{ObjectSection}
use Rattle.section_relocation.specs.Entry.{entry_in, is_held, TableReady}

-- ---- the rule, to be computed

-- a number for each kind
abbrev pub kind_number : FieldKind → ℕ
kind_number Nothing = 0
kind_number Four = 1
kind_number Eight = 2
kind_number Branch = 3

abbrev pub same_field : ObjectField → ObjectField → Bool
same_field a b = eqb a.offset b.offset && eqb (kind_number a.kind) (kind_number b.kind)

-- each has a byte, they share one, and they are not the same field, kind included
unfoldable pub overlaps : ObjectField → ObjectField → Bool
overlaps a b =
    ltb 0 (bytes_in a.kind) && (ltb 0 (bytes_in b.kind)
    && (ltb a.offset (b.offset + bytes_in b.kind) && (ltb b.offset (a.offset + bytes_in a.kind) && not (same_field a b))))

-- field e overlaps with one of the first n entries
unfoldable pub meets_one : (ℕ → ObjectField) → ObjectField → ℕ → Bool
meets_one r e zero = false
meets_one r e (suc n) = cond (overlaps (r n) e) true (meets_one r e n)

-- entry i overlaps with an earlier one
unfoldable pub meets : (ℕ → ObjectField) → ℕ → Bool
meets r i = meets_one r (r i) i

-- ---- the same as a statement

-- two fields that share a byte and are not the same field
pub record Overlapping (a b : ObjectField) : Type 0 where
  pub byte : ℕ
  pub in_a : (a.offset ≤ byte) × (byte < a.offset + bytes_in a.kind)
  pub in_b : (b.offset ≤ byte) × (byte < b.offset + bytes_in b.kind)
  pub differ : (a.offset ≡ b.offset) × (a.kind ≡ b.kind) → ⊥

-- entry i overlaps with an earlier one
pub record Meets (r : ℕ → ObjectField) (i : ℕ) : Type 0 where
  pub other : ℕ
  pub earlier : other < i
  pub overlap : Overlapping (r other) (r i)

-- x is the first of n entries that overlaps with an earlier one, or n
pub record First (r : ℕ → ObjectField) (n x : ℕ) : Type 0 where
  pub within : x ≤ n
  pub before : (i : ℕ) → i < x → Meets r i → ⊥
  pub here : x < n → Meets r x

-- what the checks of the first n entries, each by itself, leave known
pub record Readable (file : List ℕ) (f : Format) (s : ObjectSection) (n : ℕ) : Type 0 where
  pub ready : TableReady file f s
  pub few : n ≤ s.count
  pub held : (i : ℕ) → i < n → is_held f s (entry_in file f s i) ≡ true
