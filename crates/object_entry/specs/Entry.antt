-- Entries of an object file: LREL, and each as it is applied.
use Rattle.std.specs.Prelude.{ℕ, Bool, true, false, not, ◌&&◌, List, Err, Ok, Result}
use Rattle.format.specs.declared.SymbolIndex.{SymbolIndex}
use Rattle.refusal.specs.declared.Refusal.TheVariants.{SectionLrel}
use Rattle.refusal.specs.Order.{refuse_if}
use Rattle.symbol.specs.declared.Tables.{Tables}
use Rattle.symbol.specs.declared.SymbolSection.{SymbolSection}
use Rattle.symbol.specs.declared.SymbolSection.TheVariants.{Debug, Absolute, Undefined, In}
use Rattle.symbol.specs.Entry.{entry_of}
use Rattle.symbol.specs.Symbol.{section_in, symbol_in}
use Rattle.section_relocation.specs.declared.ObjectSection.{ObjectSection}
use Rattle.section_relocation.specs.declared.SectionEntry.{SectionEntry}
use Rattle.section_relocation.specs.Entry.{entry_in, effect_of, effect_or, is_held, field_of, name_of}
use Rattle.object_history.specs.declared.ObjectEntry.{ObjectEntry}
use Rattle.refusal.specs.declared.Refusal.{Refusal}
use Rattle.symbol.specs.declared.Symbol.{Symbol}
use Rattle.refusal.specs.Verdict.{Verdict}

-- a symbol that reads: INDEX, AUX, SECTION, NAME and VISIBILITY accept it
abbrev pub is_read : Result Symbol Refusal → Bool
is_read (Ok s) = true
is_read (Err x) = false

-- LREL, where not: an entry that is known, its field inside the section, and its symbol
unfoldable pub is_good : List ℕ → Tables → ObjectSection → SectionEntry → Bool
is_good file t s e = is_held t.format s e && is_read (symbol_in file t e.symbol)

-- of entry i of a section's table
unfoldable pub own_at : List ℕ → Tables → ObjectSection → ℕ → Verdict
own_at file t s i = refuse_if (not (is_good file t s (entry_in file t.format s i))) (SectionLrel (name_of s i))

-- the number of the section that a symbol moves with, 0 where it is in none
abbrev pub section_moved : SymbolSection → ℕ
section_moved (In n) = n.0
section_moved Debug = 0
section_moved Absolute = 0
section_moved Undefined = 0

unfoldable pub symbol_moves : List ℕ → Tables → SymbolIndex → ℕ
symbol_moves file t i = section_moved (section_in (entry_of file t i).scnum)

-- the entry as it is applied
unfoldable pub applied : List ℕ → Tables → ObjectSection → ℕ → SectionEntry → ObjectEntry
applied file t s i e =
    record {
      field = field_of t.format s e;
      amount = (effect_or (effect_of t.format e)).amount;
      symbol = symbol_moves file t e.symbol;
      name = name_of s i;
    }

-- entry i of a section's table
unfoldable pub object_entry : List ℕ → Tables → ObjectSection → ℕ → ObjectEntry
object_entry file t s i = applied file t s i (entry_in file t.format s i)
