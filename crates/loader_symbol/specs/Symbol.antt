-- Loader symbols: what an entry's 24 bytes hold, and LSYM.
use Rattle.std.specs.Prelude.{ℕ, ◌+◌, ◌-◌, ◌*◌, ◌/◌, ◌%◌, ◌≤◌, Bool, true, false, not, cond, ◌&&◌, ◌||◌, List, eqb, ltb, length, take, drop, Err, Ok, Result}
use Rattle.word.specs.Number.{field, field_at, field_in}
use Rattle.word.specs.declared.Width.TheVariants.{One, Four}
use Rattle.word.specs.Test.{past}
use Rattle.word.specs.Zero.{first_zero}
use Rattle.format.specs.declared.Format.{Format}
use Rattle.format.specs.declared.FileRange.{FileRange}
use Rattle.format.specs.declared.NameField.{NameField}
use Rattle.format.specs.declared.NameField.TheVariants.{Short, Offset}
use Rattle.format.specs.Layout.{symbol_layout, short_name, loader_symbol_length}
use Rattle.format.specs.Limit.{file_limit, loader_symbol_limit}
use Rattle.format.specs.Name.{name_field}
use Rattle.format.specs.Range.{range, text_in}
use Rattle.refusal.specs.declared.Refusal.TheVariants.{Lsym}
use Rattle.refusal.specs.Order.{refuse_if}
use Rattle.parts.specs.declared.Parts.{Parts}
use Rattle.loader_header.specs.declared.LoaderTables.{LoaderTables}
use Rattle.loader_symbol.specs.declared.LoaderEntry.{LoaderEntry}
use Rattle.refusal.specs.declared.Refusal.{Refusal}
use Rattle.refusal.specs.Verdict.{Verdict}

-- where the loader symbol with place i in the table starts
abbrev pub entry_start : LoaderTables → ℕ → ℕ
entry_start t i = t.symbols.0 + i * loader_symbol_length

-- the tables are in the file
pub record TablesInside (file : List ℕ) (t : LoaderTables) : Type 0 where
  pub small : length file ≤ file_limit
  pub few : t.nsyms ≤ loader_symbol_limit
  pub symbols : t.symbols.0 + t.nsyms * loader_symbol_length ≤ length file
  pub ids : t.ids.start.0 + t.ids.length ≤ length file
  pub strings : t.strings.start.0 + t.strings.length ≤ length file

-- the 24 bytes at base; name, value and section number stand where the symbol table has them
unfoldable pub entry_at : Format → ℕ → List ℕ → LoaderEntry
entry_at f base file =
    record {
      name = name_field f base file;
      value = field_in (symbol_layout f).value base file;
      scnum = field_in (symbol_layout f).scnum base file;
      smtype = field_in (field 14 One) base file;
      smclas = field_in (field 15 One) base file;
      ifile = field_in (field 16 Four) base file;
      parm = field_in (field 20 Four) base file;
    }

-- a string name: the 2 bytes before it are its length, which counts its one closing zero; all of it lies in the table
unfoldable pub string_in : List ℕ → FileRange → ℕ → ℕ → Result FileRange Refusal
string_in file strings o i =
    let n = field_at 2 (strings.start.0 + o - 2) file in
    cond (ltb o 2 || ltb strings.length o) (Err (Lsym i))
    (cond (eqb n 0 || past o n strings.length) (Err (Lsym i))
    (cond (eqb (first_zero (take n (drop (strings.start.0 + o) file))) (n - 1)) (Ok (range (strings.start.0 + o) (n - 1)))
    (Err (Lsym i))))

-- where the name of the loader symbol at base lies; i is its index, from 3
unfoldable pub name_in : List ℕ → FileRange → ℕ → ℕ → NameField → Result FileRange Refusal
name_in file strings base i Short = Ok (text_in short_name base file)
name_in file strings base i (Offset o) = string_in file strings o i

abbrev pub is_found : Result FileRange Refusal → Bool
is_found (Ok r) = true
is_found (Err x) = false

-- 40 hex of the type: imported
abbrev pub is_imported : ℕ → Bool
is_imported smtype = eqb (smtype / 64 % 2) 1

-- imported: section 0, file id 0 or below the id count. Else: file id 0, section text, data or bss
unfoldable pub is_placed : Parts → ℕ → LoaderEntry → Bool
is_placed p nimpid e =
    cond (is_imported e.smtype)
    (eqb e.scnum 0 && (eqb e.ifile 0 || ltb e.ifile nimpid))
    (eqb e.ifile 0 && (eqb e.scnum p.text.number.0 || eqb e.scnum p.«data».number.0 || eqb e.scnum p.bss.number.0))

-- LSYM: the type's low bits are above 3, or it is not placed, or its name lies nowhere
unfoldable pub entry_check : List ℕ → Format → Parts → LoaderTables → ℕ → LoaderEntry → Verdict
entry_check file f p t k e =
    refuse_if (not (ltb (e.smtype % 8) 4 && is_placed p t.nimpid e && is_found (name_in file t.strings (entry_start t k) (k + 3) e.name))) (Lsym (k + 3))

-- the loader symbol with place k in the table, which is index k + 3
unfoldable pub symbol_check : List ℕ → Format → Parts → LoaderTables → ℕ → Verdict
symbol_check file f p t k = entry_check file f p t k (entry_at f (entry_start t k) file)
