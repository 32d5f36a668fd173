-- A loader symbol from its numbers, read one by one. Assumes nothing.
use Prim.Native.Nat.{ℕ}
use mathlib.Core.Path.{◌≡◌, refl}
use mathlib.Core.List.{List}
use Rattle.word.specs.Number.{field, field_in}
use Rattle.word.specs.declared.Width.TheVariants.{One, Four}
use Rattle.format.specs.declared.Format.{Format}
use Rattle.format.specs.declared.NameField.{NameField}
use Rattle.format.specs.declared.SymbolLayout.{SymbolLayout}
use Rattle.format.specs.Layout.{symbol_layout}
use Rattle.format.specs.Name.{name_field}
use Rattle.loader_symbol.specs.Symbol.{entry_at}

pub entry-is : (f : Format) (base : ℕ) (file : List ℕ) {l : SymbolLayout} {n : NameField} {v1 v2 v3 v4 v5 v6 : ℕ} → l ≡ symbol_layout f → n ≡ name_field f base file
    → v1 ≡ field_in l.value base file → v2 ≡ field_in l.scnum base file → v3 ≡ field_in (field 14 One) base file → v4 ≡ field_in (field 15 One) base file → v5 ≡ field_in (field 16 Four) base file → v6 ≡ field_in (field 20 Four) base file
    → record { name = n; value = v1; scnum = v2; smtype = v3; smclas = v4; ifile = v5; parm = v6 } ≡ entry_at f base file
unfolding entry_at
entry-is f base file el en e1 e2 e3 e4 e5 e6 = rw (en, e1, e2, e3, e4, e5, e6, el) refl
