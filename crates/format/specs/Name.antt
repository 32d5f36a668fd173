-- Where a symbol's entry keeps its name.
use Rattle.std.specs.Prelude.{ℕ, cond, List, eqb}
use Rattle.word.specs.Number.{field_in}
use Rattle.format.specs.declared.Format.{Format}
use Rattle.format.specs.declared.Format.TheVariants.{Xcoff32, Xcoff64}
use Rattle.format.specs.declared.NameField.{NameField}
use Rattle.format.specs.declared.NameField.TheVariants.{Short, Offset}
use Rattle.format.specs.Layout.{symbol_layout, zeroes_field}

-- the name is in the entry itself (XCOFF32, its first word not 0), or an offset leads to it
unfoldable pub name_field : Format → ℕ → List ℕ → NameField
name_field Xcoff32 base file =
    cond (eqb (field_in zeroes_field base file) 0) (Offset (field_in (symbol_layout Xcoff32).offset base file)) Short
name_field Xcoff64 base file = Offset (field_in (symbol_layout Xcoff64).offset base file)
