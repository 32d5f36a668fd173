-- The row of a relocation entry: the entry, and the field that builds and moves change.
use Rattle.std.specs.Prelude.{ℕ, List, [], ◌∷◌}
use Rattle.relocation.specs.Relocation.{bytes_wide, entry_in}
use Rattle.loadable.specs.declared.Loadable.{Loadable}
use Rattle.plan.specs.Relocatable.{relocation_at}
use Rattle.refusal.specs.Refusal.{one_if}
use Rattle.module_table.specs.Table.{Table}

-- relocation entry i as it stands, and its field: 1 in text, 0 in data; the offset in that image; the bytes; 1 where it subtracts
unfoldable pub relocation_row : List ℕ → Loadable → ℕ → List ℕ
relocation_row file l i =
    let e = entry_in file l.layout.format l.tables i in
    let r = relocation_at file l i in
    e.address.0 ∷ e.symbol ∷ e.rtype ∷ e.scnum ∷ one_if r.place.text ∷ r.place.offset ∷ bytes_wide r.place.wide ∷ one_if r.minus ∷ []

abbrev pub relocations : Table
relocations = record { width = 8; count = λ l. l.tables.nreloc; row = relocation_row }
