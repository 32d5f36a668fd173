-- What is known once an object file is accepted: of all its sections, and of one.
use Rattle.std.specs.Prelude.{◌≡◌, List, ℕ, ◌≤◌, Ok}
use Rattle.format.specs.Limit.{section_limit}
use Rattle.header.specs.declared.Summary.{Summary}
use Rattle.symbol.specs.declared.Tables.{Tables}
use Rattle.section_relocation.specs.declared.ObjectSection.{ObjectSection}
use Rattle.section_entries.specs.Entries.{entries_check, EntriesReady}
use Rattle.object.specs.Check.{tables_check, SectionsReady}

pub record ObjectReady (file : List ℕ) (y : Summary) (t : Tables) : Type 0 where
  pub sections : SectionsReady file y t
  pub tables : tables_check file y ≡ Ok tt

pub record PartReady (file : List ℕ) (t : Tables) (s : ObjectSection) : Type 0 where
  pub entries : EntriesReady file t s
  pub good : entries_check file t s ≡ Ok tt
  pub number : s.number.0 ≤ section_limit
