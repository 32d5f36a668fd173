-- Laws of entries with their symbols. Assumes nothing.
use Prim.Native.Nat.{ℕ, ◌≤◌, ◌<◌}
use mathlib.Core.Path.{◌≡◌, refl, ◌∙◌, ap}
use mathlib.Core.Bool.{Bool, true, false, not}
use mathlib.Core.List.{List}
use native.Mathlib.Decide.{ℕ_discrete, dec_lt}
use native.Mathlib.Omega.{arith}
use borrow.Author.Tests.{leb-true, not-false}
use Rattle.word.proofs.Test.{and_first, and_second}
use Rattle.refusal.specs.declared.Refusal.TheVariants.{SectionLrel, Scnum}
use Rattle.refusal.proofs.Order.{accepted-test}
use Rattle.symbol.specs.declared.Tables.{Tables}
use Rattle.symbol.specs.declared.Symbol.{Symbol}
use Rattle.symbol.specs.Entry.{entry_of}
use Rattle.symbol.specs.Symbol.{section_in, is_section, scnum_check, symbol_in}
use Rattle.symbol.proofs.Sections.{section-positive, named_none, named-section, named-debug, named-absolute}
use Rattle.symbol.proofs.Checks.{symbol-known, symbol-accepted}
use Rattle.section_relocation.specs.declared.ObjectSection.{ObjectSection}
use Rattle.section_relocation.specs.declared.SectionEntry.{SectionEntry}
use Rattle.section_relocation.specs.Entry.{entry_in, is_held, field_in, name_of}
use Rattle.object_entry.specs.Entry.{is_read, is_good, own_at, section_moved, symbol_moves, applied, object_entry}
use Rattle.std.specs.Prelude.{Err, Ok, Result}
use Rattle.refusal.specs.declared.Refusal.{Refusal}

-- ---- LREL

module _ (file : List ℕ) (t : Tables) (s : ObjectSection) (i : ℕ) {e : SectionEntry} (p : e ≡ entry_in file t.format s i) where
  pub own-unheld : {b : Bool} → b ≡ is_held t.format s e → b ≡ false → Err (SectionLrel (name_of s i)) ≡ own_at file t s i
  unfolding own_at is_good
  own-unheld q h = rw (← p) (rw (← q) (rw h refl))

  pub own-by : {b c : Bool} {a : Result Symbol Refusal} → b ≡ is_held t.format s e → b ≡ true → a ≡ symbol_in file t e.symbol → c ≡ is_read a → c ≡ false
      → Err (SectionLrel (name_of s i)) ≡ own_at file t s i
  unfolding own_at is_good
  own-by q h r k l = rw (← p) (rw (← q) (rw (h, ← r) (rw (← k) (rw l refl))))

  pub own-good : {b c : Bool} {a : Result Symbol Refusal} → b ≡ is_held t.format s e → b ≡ true → a ≡ symbol_in file t e.symbol → c ≡ is_read a → c ≡ true → (Ok tt) ≡ own_at file t s i
  unfolding own_at is_good
  own-good q h r k l = rw (← p) (rw (← q) (rw (h, ← r) (rw (← k) (rw l refl))))

-- ---- the section that a symbol moves with

moved-zero : (n : ℕ) → n ≡ 0 → 0 ≡ section_moved (section_in n)
moved-zero n e = ap section_moved (named_none n e)

moved-some : (n : ℕ) → (n ≡ 0 → ⊥) → n < 0x8000 → n ≡ section_moved (section_in n)
moved-some n z h = ap section_moved (named-section n z h)

pub moved-low : (n : ℕ) → n < 0x8000 → n ≡ section_moved (section_in n)
moved-low n h = by (ℕ_discrete n 0)
  where
    by : Dec (n ≡ 0) → n ≡ section_moved (section_in n)
    by (yes e) = e ∙ moved-zero n e
    by (no z) = moved-some n z h

pub moved-high : (n : ℕ) → 0x8000 ≤ n → 0 ≡ section_moved (section_in n)
moved-high n h = by (dec_lt n 0xFFFF)
  where
    by : Dec (n < 0xFFFF) → 0 ≡ section_moved (section_in n)
    by (yes l) = ap section_moved (named-debug n h l)
    by (no l) = ap section_moved (named-absolute n (omega arith))

moved-few : (nscns n : ℕ) → is_section nscns n ≡ true → section_moved (section_in n) ≤ nscns
moved-few nscns n g = by (dec_lt n 0x8000)
  where
    by : Dec (n < 0x8000) → section_moved (section_in n) ≤ nscns
    by (yes l) = rw (← moved-low n l) (leb-true n nscns (section-positive nscns n l ∙ g))
    by (no l) = rw (← moved-high n (omega arith)) (omega arith)

-- ---- an entry that LREL accepts

read_found : (a : Result Symbol Refusal) → is_read a ≡ true → (s : Symbol) × (a ≡ Ok s)
read_found (Ok s) h = (s, refl)
read_found (Err x) h = absurd (let z : ◌≡◌ {A = ℕ} 0 1 = cc in omega arith)

module _ (file : List ℕ) (t : Tables) (s : ObjectSection) (i : ℕ) (h : own_at file t s i ≡ Ok tt) where
  abbrev entry : SectionEntry
  entry = entry_in file t.format s i

  good : is_good file t s entry ≡ true
  unfolding own_at
  good = not-false _ (accepted-test (not (is_good file t s entry)) (SectionLrel (name_of s i)) h)

  pub held : is_held t.format s entry ≡ true
  held = from good
    where
      from : is_good file t s entry ≡ true → is_held t.format s entry ≡ true
      from g = unfold is_good in and_first _ _ g

  read : is_read (symbol_in file t entry.symbol) ≡ true
  read = from good
    where
      from : is_good file t s entry ≡ true → is_read (symbol_in file t entry.symbol) ≡ true
      from g = unfold is_good in and_second (is_held t.format s entry) _ g

  symbol-read : (x : Symbol) × (symbol_in file t entry.symbol ≡ Ok x)
  symbol-read = read_found (symbol_in file t entry.symbol) read

  -- its symbol is in the table
  pub symbol-there : entry.symbol.0 < t.count
  symbol-there = symbol-known file t entry.symbol symbol-read.1

  scnum-good : is_section t.nscns (entry_of file t entry.symbol).scnum ≡ true
  scnum-good = not-false _ (accepted-test (not (is_section t.nscns (entry_of file t entry.symbol).scnum)) (Scnum entry.symbol) (unfold scnum_check in (symbol-accepted file t entry.symbol symbol-read.1).1.0))

  -- and what it moves with is a section of the file, or 0
  pub symbol-few : symbol_moves file t entry.symbol ≤ t.nscns
  unfolding symbol_moves
  symbol-few = moved-few t.nscns (entry_of file t entry.symbol).scnum scnum-good

-- the field of an entry as it is applied
pub entry-field : (file : List ℕ) (t : Tables) (s : ObjectSection) (i : ℕ) → (object_entry file t s i).field ≡ field_in file t.format s i
unfolding object_entry applied field_in
entry-field file t s i = refl

pub entry-name : (file : List ℕ) (t : Tables) (s : ObjectSection) (i : ℕ) → (object_entry file t s i).name ≡ name_of s i
unfolding object_entry applied
entry-name file t s i = refl

pub entry-symbol : (file : List ℕ) (t : Tables) (s : ObjectSection) (i : ℕ) → (object_entry file t s i).symbol ≡ symbol_moves file t (entry_in file t.format s i).symbol
unfolding object_entry applied
entry-symbol file t s i = refl
