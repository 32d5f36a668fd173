-- What an accepted module guarantees. Images and moves rest on this and on nothing else.
use Rattle.std.specs.Prelude.{ℕ, ◌<◌, ◌+◌, ◌≡◌, List, Ok}
use Rattle.module.specs.Inside.{ModuleInside}
use Rattle.loader.specs.Inside.{LoaderInside}
use Rattle.relocation.specs.Relocation.{entry_in, own_at, place_at, EntriesInside, PlaceInside}
use Rattle.field_overlap.specs.Overlap.{Compatible}
use Rattle.loadable.specs.declared.Loadable.{Loadable}

pub record Valid (file : List ℕ) (l : Loadable) : Type 0 where
  -- sections with bytes, and the loader section's tables, are in the file
  pub sections : ModuleInside file l.layout
  pub loader : LoaderInside file l.layout l.tables
  pub entries : EntriesInside file l.layout.format l.tables
  -- each entry is accepted by itself
  pub own : (i : ℕ) → i < l.tables.nreloc → own_at file l.layout.format l.layout.parts l.tables i ≡ Ok tt
  -- its field is inside its section
  pub inside : (i : ℕ) → i < l.tables.nreloc → PlaceInside l.layout.parts (place_at file l.layout.format l.layout.parts l.tables i)
  -- its symbol is text, data, bss or in the table
  pub known : (i : ℕ) → i < l.tables.nreloc → (entry_in file l.layout.format l.tables i).symbol < 3 + l.tables.nsyms
  -- two fields are the same or share no byte
  pub pairs : (i j : ℕ) → i < j → j < l.tables.nreloc → Compatible (place_at file l.layout.format l.layout.parts l.tables i) (place_at file l.layout.format l.layout.parts l.tables j)
