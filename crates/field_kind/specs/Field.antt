-- Kinds of field, and an exact integer added to a field.
use Rattle.std.specs.Prelude.{◌≡◌, ◌⊎◌, List, ℕ, ◌+◌, ◌*◌, ◌/◌, ◌%◌, ◌≤◌, length, ℤ, pos, ◌+ℤ◌}
use Rattle.update.specs.Update.{update, remainder, add_in, Apart}
use Rattle.field_kind.specs.declared.FieldKind.{FieldKind}
use Rattle.field_kind.specs.declared.FieldKind.TheVariants.{Nothing, Four, Eight, Branch}
use Rattle.field_kind.specs.declared.ObjectField.{ObjectField}

abbrev pub bytes_in : FieldKind → ℕ
bytes_in Nothing = 0
bytes_in Four = 4
bytes_in Eight = 8
bytes_in Branch = 4

-- 2^26: a branch is the low 26 bits of its word
abbrev pub branch_limit : ℕ
branch_limit = 67108864

-- a word of 4 bytes with z added to its low 26 bits; what passes them is dropped, and the high six bits stay
unfoldable pub add_low : ℤ → ℕ → ℕ
add_low z v = v / branch_limit % 64 * branch_limit + remainder (pos v +ℤ z) branch_limit

-- z added to the number in a field
unfoldable pub add_it : FieldKind → ℤ → ℕ → ℕ
add_it Nothing z v = add_in 0 z v
add_it Four z v = add_in 4 z v
add_it Eight z v = add_in 8 z v
add_it Branch z v = add_low z v

abbrev pub place : ℕ → FieldKind → ObjectField
place off kind = record { offset = off; kind = kind }

-- z added to a field of the bytes
unfoldable pub add_to : ObjectField → ℤ → List ℕ → List ℕ
add_to f z bs = update (bytes_in f.kind) f.offset (add_it f.kind z) bs

abbrev pub FieldInside : List ℕ → ObjectField → Type 0
FieldInside x f = f.offset + bytes_in f.kind ≤ length x

abbrev pub FieldsApart : ObjectField → ObjectField → Type 0
FieldsApart f g = Apart f.offset (bytes_in f.kind) g.offset (bytes_in g.kind)

-- two fields are the same, kind included, or share no byte
abbrev pub FieldsCompatible : ObjectField → ObjectField → Type 0
FieldsCompatible f g = (f ≡ g) ⊎ FieldsApart f g
