-- A symbol looked up in a file by its index, and its name.
use Rattle.std.specs.Prelude.{ℕ, suc, ◌-◌, ◌^◌, Bool, true, false, List, ℤ, pos, negsuc, Err, None, Ok, Option, Result, Some}
use Rattle.format.specs.declared.SymbolIndex.{SymbolIndex}
use Rattle.refusal.specs.Refusal.{accepted_head, one_if}
use Rattle.refusal.specs.Order.{by_verdict}
use Rattle.offset.specs.Report.{refusal_head}
use Rattle.header.specs.Open.{open_of}
use Rattle.symbol.specs.declared.Tables.{Tables}
use Rattle.symbol.specs.Entry.{tables_at, entry_of}
use Rattle.symbol.specs.Name.{name_in}
use Rattle.symbol.specs.Symbol.{scnum_of, symbol_in}
use Rattle.symbol_lookup.specs.declared.SymbolReport.{SymbolReport}
use Rattle.refusal.specs.declared.Refusal.{Refusal}
use Rattle.symbol.specs.declared.Symbol.{Symbol}
use Rattle.format.specs.declared.FileRange.{FileRange}

-- opening's refusals come first
unfoldable pub symbol_at : List ℕ → SymbolIndex → Result Symbol Refusal
symbol_at file i = by_verdict (open_of file).verdict (symbol_in file (tables_at file) i) Err

-- where the symbol's name lies; its refusals are those of the symbol
unfoldable pub name_behind : List ℕ → Tables → SymbolIndex → Result Symbol Refusal → Result FileRange Refusal
name_behind file t i (Err x) = Err x
name_behind file t i (Ok s) = name_in file t i (entry_of file t i)

-- a name looked up
unfoldable pub symbol_name_at : List ℕ → SymbolIndex → Result FileRange Refusal
symbol_name_at file i = name_behind file (tables_at file) i (symbol_at file i)

-- a signed number in 64 bits, two's complement
abbrev pub signed64 : ℤ → ℕ
signed64 (pos n) = n
signed64 (negsuc n) = 2 ^ 64 - suc n

-- a visibility in numbers: 0 none, 1 internal, 2 hidden, 3 protected, 4 exported
abbrev pub claims : Option ℕ → Bool
claims None = false
claims (Some n) = true

abbrev pub visibility_number : Option ℕ → ℕ
visibility_number None = 0
visibility_number (Some n) = n

-- the answer in the documents' numbers
abbrev pub report_of_symbol : List ℕ → Result Symbol Refusal → SymbolReport
report_of_symbol file (Ok s) =
    record {
      head = accepted_head;
      value = s.value;
      scnum = signed64 (scnum_of s.section);
      ntype = s.ntype;
      sclass = s.sclass;
      numaux = s.numaux;
      has_visibility = one_if (claims s.visibility);
      visibility = visibility_number s.visibility;
    }
report_of_symbol file (Err x) =
    record {
      head = refusal_head file x;
      value = 0;
      scnum = 0;
      ntype = 0;
      sclass = 0;
      numaux = 0;
      has_visibility = 0;
      visibility = 0;
    }

abbrev pub symbol_report : List ℕ → SymbolIndex → SymbolReport
symbol_report file i = report_of_symbol file (symbol_at file i)
