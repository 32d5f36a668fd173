-- What the answer for an address says of a file: the statement that `proofs/Answered` shows of `line_at`.
use Rattle.std.specs.Prelude.{ℕ, ◌≡◌, List, Err, Ok, Result}
use Rattle.format.specs.declared.SectionNumber.{SectionNumber}
use Rattle.line.specs.declared.LineError.{LineError}
use Rattle.line.specs.Meaning.{Answers}
use Rattle.line_lookup.specs.declared.LineTable.{LineTable}
use Rattle.line_lookup.specs.Lookup.{entries_in, lookup_of, line_table_at}
use Rattle.refusal.specs.declared.Refusal.{Refusal}
use Rattle.line.specs.declared.LineFound.{LineFound}

-- r is an answer that is true of the table t: GROUP where a line entry comes before any function entry; NOLINE where that is not so and every address is above the
-- one asked for; else the entry with the greatest address not above it, the first such, with the symbol that opened its group (`line/specs/Meaning`)
pub record TrueOf (file : List ℕ) (address : ℕ) (t : LineTable) (r : Result LineFound Refusal) : Type 0 where
  pub answer : Result LineFound LineError
  pub same : r ≡ lookup_of answer
  pub holds : Answers (entries_in file t) address t.count answer

-- of the table of section n, or the refusal for which there is none
abbrev pub SaysBy : List ℕ → ℕ → Result LineTable Refusal → Result LineFound Refusal → Type 0
SaysBy file address (Ok t) r = TrueOf file address t r
SaysBy file address (Err x) r = r ≡ Err x

abbrev pub Says : List ℕ → SectionNumber → ℕ → Result LineFound Refusal → Type 0
Says file n address r = SaysBy file address (line_table_at file n) r
