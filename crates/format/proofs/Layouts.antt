-- Every field of a header lies inside it. Assumes nothing.
use Prim.Native.Nat.{ℕ, ◌+◌, ◌≤◌}
use mathlib.Core.Path.{◌≡◌}
use native.Mathlib.Omega.{arith}
use lib.Dec.{lit≤}
use Rattle.word.specs.declared.Field.{Field}
use Rattle.word.specs.Number.{bytes_in}
use Rattle.format.specs.declared.Format.{Format}
use Rattle.format.specs.declared.Format.TheVariants.{Xcoff32, Xcoff64}
use Rattle.format.specs.declared.HeaderLayout.{HeaderLayout}
use Rattle.format.specs.declared.SectionLayout.{SectionLayout}
use Rattle.format.specs.declared.AuxLayout.{AuxLayout}
use Rattle.format.specs.declared.AuxNumbers.{AuxNumbers}
use Rattle.format.specs.declared.SymbolLayout.{SymbolLayout}
use Rattle.format.specs.Layout.{header_layout, section_layout, aux_layout, aux_numbers, symbol_layout, symbol_length}

-- a field of what starts at base ends at or before n
abbrev pub FieldInside : Field → ℕ → ℕ → Type 0
FieldInside f base n = base + f.offset + bytes_in f.width ≤ n

-- the fields of a file header, in a file of n bytes
pub record HeaderInside (l : HeaderLayout) (n : ℕ) : Type 0 where
  pub nscns : FieldInside l.nscns 0 n
  pub symptr : FieldInside l.symptr 0 n
  pub nsyms : FieldInside l.nsyms 0 n
  pub opthdr : FieldInside l.opthdr 0 n
  pub flags : FieldInside l.flags 0 n

header-fields : (f : Format) (n : ℕ) → (header_layout f).length ≤ n → HeaderInside (header_layout f) n
header-fields Xcoff32 n h = record { nscns = omega arith; symptr = omega arith; nsyms = omega arith; opthdr = omega arith; flags = omega arith }
header-fields Xcoff64 n h = record { nscns = omega arith; symptr = omega arith; nsyms = omega arith; opthdr = omega arith; flags = omega arith }

pub header-inside : (f : Format) {l : HeaderLayout} (n : ℕ) → l ≡ header_layout f → (header_layout f).length ≤ n → HeaderInside l n
header-inside f n e h = rw e (header-fields f n h)

-- the fields of a section header at base, in a file of n bytes
pub record SectionInside (l : SectionLayout) (base n : ℕ) : Type 0 where
  pub name : FieldInside l.name base n
  pub paddr : FieldInside l.paddr base n
  pub vaddr : FieldInside l.vaddr base n
  pub size : FieldInside l.size base n
  pub scnptr : FieldInside l.scnptr base n
  pub relptr : FieldInside l.relptr base n
  pub lnnoptr : FieldInside l.lnnoptr base n
  pub nreloc : FieldInside l.nreloc base n
  pub nlnno : FieldInside l.nlnno base n
  pub flags : FieldInside l.flags base n

section-fields : (f : Format) (base n : ℕ) → base + (section_layout f).length ≤ n → SectionInside (section_layout f) base n
section-fields Xcoff32 base n h = record { name = omega arith; paddr = omega arith; vaddr = omega arith; size = omega arith; scnptr = omega arith; relptr = omega arith; lnnoptr = omega arith; nreloc = omega arith; nlnno = omega arith; flags = omega arith }
section-fields Xcoff64 base n h = record { name = omega arith; paddr = omega arith; vaddr = omega arith; size = omega arith; scnptr = omega arith; relptr = omega arith; lnnoptr = omega arith; nreloc = omega arith; nlnno = omega arith; flags = omega arith }

pub section-inside : (f : Format) {l : SectionLayout} (base n : ℕ) → l ≡ section_layout f → base + (section_layout f).length ≤ n → SectionInside l base n
section-inside f base n e h = rw e (section-fields f base n h)

-- the fields of an auxiliary header at base, in a file of n bytes
pub record AuxInside (l : AuxLayout) (base n : ℕ) : Type 0 where
  pub tsize : FieldInside l.tsize base n
  pub dsize : FieldInside l.dsize base n
  pub bsize : FieldInside l.bsize base n
  pub entry : FieldInside l.entry base n
  pub tstart : FieldInside l.tstart base n
  pub dstart : FieldInside l.dstart base n
  pub toc : FieldInside l.toc base n

aux-fields : (f : Format) (base n : ℕ) → base + (aux_layout f).length ≤ n → AuxInside (aux_layout f) base n
aux-fields Xcoff32 base n h = record { tsize = omega arith; dsize = omega arith; bsize = omega arith; entry = omega arith; tstart = omega arith; dstart = omega arith; toc = omega arith }
aux-fields Xcoff64 base n h = record { tsize = omega arith; dsize = omega arith; bsize = omega arith; entry = omega arith; tstart = omega arith; dstart = omega arith; toc = omega arith }

pub aux-inside : (f : Format) {l : AuxLayout} (base n : ℕ) → l ≡ aux_layout f → base + (aux_layout f).length ≤ n → AuxInside l base n
aux-inside f base n e h = rw e (aux-fields f base n h)

pub record AuxNumbersInside (l : AuxNumbers) (base n : ℕ) : Type 0 where
  pub snentry : FieldInside l.snentry base n
  pub sntext : FieldInside l.sntext base n
  pub sndata : FieldInside l.sndata base n
  pub sntoc : FieldInside l.sntoc base n
  pub snloader : FieldInside l.snloader base n
  pub snbss : FieldInside l.snbss base n

numbers-fields : (f : Format) (base n : ℕ) → base + (aux_layout f).length ≤ n → AuxNumbersInside aux_numbers base n
numbers-fields Xcoff32 base n h = record { snentry = omega arith; sntext = omega arith; sndata = omega arith; sntoc = omega arith; snloader = omega arith; snbss = omega arith }
numbers-fields Xcoff64 base n h = record { snentry = omega arith; sntext = omega arith; sndata = omega arith; sntoc = omega arith; snloader = omega arith; snbss = omega arith }

pub aux-numbers-inside : (f : Format) {l : AuxNumbers} (base n : ℕ) → l ≡ aux_numbers → base + (aux_layout f).length ≤ n → AuxNumbersInside l base n
aux-numbers-inside f base n e h = rw e (numbers-fields f base n h)

-- the fields of a symbol table entry at base, in a file of n bytes
pub record SymbolInside (l : SymbolLayout) (base n : ℕ) : Type 0 where
  pub offset : FieldInside l.offset base n
  pub value : FieldInside l.value base n
  pub scnum : FieldInside l.scnum base n
  pub ntype : FieldInside l.ntype base n
  pub sclass : FieldInside l.sclass base n
  pub numaux : FieldInside l.numaux base n

symbol-fields : (f : Format) (base n : ℕ) → base + symbol_length ≤ n → SymbolInside (symbol_layout f) base n
symbol-fields Xcoff32 base n h = record { offset = omega arith; value = omega arith; scnum = omega arith; ntype = omega arith; sclass = omega arith; numaux = omega arith }
symbol-fields Xcoff64 base n h = record { offset = omega arith; value = omega arith; scnum = omega arith; ntype = omega arith; sclass = omega arith; numaux = omega arith }

pub symbol-inside : (f : Format) {l : SymbolLayout} (base n : ℕ) → l ≡ symbol_layout f → base + symbol_length ≤ n → SymbolInside l base n
symbol-inside f base n e h = rw e (symbol-fields f base n h)

-- how long the headers are
pub header-short : (f : Format) → (header_layout f).length ≤ 24
header-short Xcoff32 = lit≤ tt
header-short Xcoff64 = lit≤ tt

pub section-short : (f : Format) → (section_layout f).length ≤ 72
section-short Xcoff32 = lit≤ tt
section-short Xcoff64 = lit≤ tt
