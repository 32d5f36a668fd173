-- What the answer for an address is, in terms of the table alone: the statement that `proofs/Search` shows of `answer_in`.
use Rattle.std.specs.Prelude.{ℕ, ◌≤◌, ◌<◌, ◌≡◌, Err, Ok, Result}
use Rattle.format.specs.declared.SymbolIndex.{SymbolIndex}
use Rattle.line.specs.declared.LineMark.{LineMark}
use Rattle.line.specs.declared.LineEntry.TheVariants.{Function, Line}
use Rattle.line.specs.declared.LineFound.{LineFound}
use Rattle.line.specs.declared.LineError.{LineError}
use Rattle.line.specs.declared.LineError.TheVariants.{Group, NoLine}
use Rattle.line.specs.Search.{Entries}

-- entry i is a line entry with this mark
abbrev pub Marks : Entries → ℕ → LineMark → Type 0
Marks e i m = e i ≡ Line m

-- k is the symbol of the last function entry before entry i
pub record GroupOf (e : Entries) (i : ℕ) (k : SymbolIndex) : Type 0 where
  pub opener : ℕ
  pub before : opener < i
  pub opens : e opener ≡ Function k
  pub last : (j : ℕ) → opener < j → j < i → (k' : SymbolIndex) → e j ≡ Function k' → ⊥

-- the entry with the greatest address not above a, the first such of n, with the symbol that opened its group
pub record Nearest (e : Entries) (a n : ℕ) (r : LineFound) : Type 0 where
  pub inside : r.number < n
  pub marks : Marks e r.number r.mark
  pub reached : r.mark.address.0 ≤ a
  pub nearest : (j : ℕ) (m : LineMark) → j < n → Marks e j m → m.address.0 ≤ a → m.address.0 ≤ r.mark.address.0
  pub first : (j : ℕ) (m : LineMark) → j < r.number → Marks e j m → m.address.0 ≤ a → m.address.0 < r.mark.address.0
  pub group : GroupOf e r.number r.symbol

-- the first entry is a line entry
pub record Ungrouped (e : Entries) (n : ℕ) : Type 0 where
  pub some : 0 < n
  pub mark : LineMark
  pub marks : Marks e 0 mark

-- no entry's address is at or below a
abbrev pub AllAbove : Entries → ℕ → ℕ → Type 0
AllAbove e a n = (j : ℕ) (m : LineMark) → j < n → Marks e j m → a < m.address.0

-- what each answer says of the table
abbrev pub Answers : Entries → ℕ → ℕ → Result LineFound LineError → Type 0
Answers e a n (Err Group) = Ungrouped e n
Answers e a n (Err NoLine) = (Ungrouped e n → ⊥) × AllAbove e a n
Answers e a n (Ok r) = (Ungrouped e n → ⊥) × Nearest e a n r
