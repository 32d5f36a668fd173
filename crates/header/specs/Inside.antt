-- What an accepted file guarantees to whatever reads it further.
use Rattle.std.specs.Prelude.{ℕ, ◌+◌, ◌*◌, ◌≤◌, ◌<◌, List, length, get_or}
use Rattle.format.specs.Layout.{symbol_length}
use Rattle.format.specs.Limit.{file_limit, section_limit}
use Rattle.section.specs.Section.{SectionWithin}
use Rattle.header.specs.declared.Summary.{Summary}
use Rattle.file_header.specs.Header.{section_start}
use Rattle.file_tables.specs.Tables.{blank_section}

-- its headers, tables and raw data are in the file, its sections in the address space
pub record Inside (file : List ℕ) (y : Summary) : Type 0 where
  pub small : length file ≤ file_limit
  pub few : y.count ≤ section_limit
  pub headers : section_start y.format y.opthdr y.count ≤ length file
  pub symbols : y.symbols.start.0 + y.symbols.count * symbol_length ≤ length file
  pub strings : y.symbols.strings.start.0 + y.symbols.strings.length ≤ length file
  pub sections : (i : ℕ) → i < y.count → SectionWithin y.format (length file) (get_or y.sections i blank_section)
