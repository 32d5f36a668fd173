-- An object file's entries applied to its buffer.
use Rattle.std.specs.Prelude.{List, ℕ, ℤ, neg_ℤ, ◌-ℤ◌}
use Rattle.field_kind.specs.declared.ObjectField.{ObjectField}
use Rattle.field_kind.specs.Field.{add_to, FieldInside, FieldsCompatible}
use Rattle.book.specs.Machine.{Shifts}
use Rattle.book.specs.Entries as entries
use Rattle.object_history.specs.declared.AmountKind.{AmountKind}
use Rattle.object_history.specs.declared.AmountKind.TheVariants.{Plus, Minus, Relative}
use Rattle.object_history.specs.declared.ObjectEntry.{ObjectEntry}

-- by the shifts of an entry's symbol and of its own section
abbrev pub amount_by : AmountKind → ℤ → ℤ → ℤ
amount_by Plus symbol section = symbol
amount_by Minus symbol section = neg_ℤ symbol
amount_by Relative symbol section = symbol -ℤ section

abbrev pub amount_of : ObjectEntry → Shifts → ℤ
amount_of e s = amount_by e.amount (s e.symbol) (s e.name.section.0)

abbrev pub fields : entries.Fields (List ℕ) ObjectField ObjectEntry
fields = record { add = add_to; place = λ e. e.field; amount = amount_of }

-- each entry applied in order
unfoldable pub apply_all : List ObjectEntry → Shifts → List ℕ → List ℕ
unfolding entries.apply_all
apply_all es s x = entries.apply_all fields es s x

-- ---- what holds of the entries of an accepted file

abbrev pub Inside : List ℕ → ObjectEntry → Type 0
Inside x e = FieldInside x e.field

abbrev pub Compatible : ObjectEntry → ObjectEntry → Type 0
Compatible e g = FieldsCompatible e.field g.field
