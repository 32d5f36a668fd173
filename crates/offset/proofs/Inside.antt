-- Every offset lies in the file or at its end, whatever the cause and the file. Assumes nothing.
use Prim.Native.Nat.{ℕ, ◌+◌, ◌-◌, ◌*◌, ◌≤◌}
use mathlib.Core.Path.{◌≡◌, refl}
use mathlib.Core.Bool.{Bool, true, false, cond}
use mathlib.Core.List.{List}
use native.Mathlib.Nat.{mul-le-mul_right}
use native.Mathlib.Omega.{arith}
use lib.Dec.{ltb}
use lib.ListN.{length}
use Rattle.word.specs.Number.{field_in}
use Rattle.word.specs.Test.{past}
use Rattle.word.proofs.Test.{past-not, either}
use Rattle.format.specs.declared.Format.{Format}
use Rattle.format.specs.Layout.{magic_field, format_of, section_layout, symbol_length, loader_symbol_length, relocation_layout}
use Rattle.format.specs.Limit.{file_limit}
use Rattle.refusal.specs.declared.Refusal.{Refusal}
use Rattle.refusal.specs.declared.Refusal.TheVariants.{Short, Magic, Limit, Kind, Bounds, Address, Strings, Index, Aux, Name, Scnum, Csect, Module, Thread, Loader, Lsym, Lrel, SectionLrel, Overlap, SectionOverlap, Plan, Room, Sheet, Record, Form, Clash, Range, Full, Absent, Long, Shared, Visibility, NoLine, Group}
use Rattle.refusal.specs.declared.SectionRelocation.{SectionRelocation}
use Rattle.table_kind.specs.declared.TableKind.TheVariants.{Relocations as RelocationTable}
use Rattle.table_kind.specs.Kind.{entry_length}
use Rattle.refusal.specs.declared.LimitItem.{LimitItem}
use Rattle.refusal.specs.declared.LimitItem.TheVariants.{File, Sections, LoaderSymbols, SheetList, Relocations, DataImage, SalvageReport}
use Rattle.refusal.specs.declared.BoundsItem.{BoundsItem}
use Rattle.refusal.specs.declared.BoundsItem.TheVariants.{RawData, SectionTable, SymbolTable, StringTable}
use Rattle.refusal.specs.declared.AddressItem.{AddressItem}
use Rattle.refusal.specs.declared.AddressItem.TheVariants.{Misplaced, BssBelowData}
use Rattle.refusal.specs.declared.ThreadItem.{ThreadItem}
use Rattle.refusal.specs.declared.ThreadItem.TheVariants.{ThreadSection, ThreadSymbol}
use Rattle.refusal.specs.Order.{if_accepted}
use Rattle.file_header.specs.Header.{header_at, header_check}
use Rattle.offset.specs.declared.Starts.{Starts}
use Rattle.offset.specs.Offset.{placed, entry_place, loader_in, starts_as, starts_by, starts_of, header_place, symbol_place, loader_symbol_place, relocation_place, section_table, section_relocation_place, limit_place, bounds_place, address_place, thread_place, offset_in, offset_by, offset_of}
use Rattle.std.specs.Prelude.{Err, None, Ok, Option, Some}
use Rattle.refusal.specs.Verdict.{Verdict}

-- a place behind a start, and an entry's place, are in the file: 0 where they are not
placed-in : (len start off : ℕ) → placed len start off ≤ len
placed-in len start off = by (past start off len) refl
  where
    by : (b : Bool) → past start off len ≡ b → cond b 0 (start + off) ≤ len
    by true e = omega arith
    by false e = past-not start off len e

entry_in_lem : (len start n k : ℕ) → entry_place len start n k ≤ len
entry_in_lem len start n k = by (past start ((k + 1) * n) len) refl
  where
    by : (b : Bool) → past start ((k + 1) * n) len ≡ b → cond b 0 (start + k * n) ≤ len
    by true e = omega arith
    by false e = let p = past-not start ((k + 1) * n) len e in let m : k * n ≤ (k + 1) * n = mul-le-mul_right n (omega arith) in omega arith

-- the starts that are offsets by themselves are in the file
record Within (s : Starts) : Type 0 where
  strings : s.strings ≤ s.length
  loader : s.loader ≤ s.length

module _ (file : List ℕ) (s : Starts) (b : Within s) where
  header-in : (n : ℕ) → header_place s n ≤ s.length
  header-in n = entry_in_lem s.length s.sections (section_layout s.format).length (n - 1)

  symbol-in : (i : ℕ) → symbol_place s i ≤ s.length
  symbol-in i = entry_in_lem s.length s.symbols symbol_length i

  loader-symbol-in : (i : ℕ) → loader_symbol_place s i ≤ s.length
  loader-symbol-in i = entry_in_lem s.length s.lsyms loader_symbol_length (i - 3)

  relocation-in : (i : ℕ) → relocation_place s i ≤ s.length
  relocation-in i = entry_in_lem s.length s.lrels (relocation_layout s.format).length i

  section-relocation-in : (e : SectionRelocation) → section_relocation_place file s e ≤ s.length
  section-relocation-in e = entry_in_lem s.length (section_table file s e.section.0) (entry_length RelocationTable s.format) e.index

  limit-in : (i : LimitItem) → limit_place s i ≤ s.length
  limit-in LoaderSymbols = b.loader
  limit-in Relocations = b.loader
  limit-in File = omega arith
  limit-in Sections = omega arith
  limit-in SheetList = omega arith
  limit-in DataImage = omega arith
  limit-in SalvageReport = omega arith

  bounds-in : (i : BoundsItem) → bounds_place s i ≤ s.length
  bounds-in (RawData n) = header-in n.0
  bounds-in (SectionTable n) = header-in n.0
  bounds-in SymbolTable = omega arith
  bounds-in StringTable = omega arith

  address-in : (i : AddressItem) → address_place s i ≤ s.length
  address-in (Misplaced n) = header-in n.0
  address-in (BssBelowData n) = header-in n.0

  thread-in : (i : ThreadItem) → thread_place s i ≤ s.length
  thread-in (ThreadSection n) = header-in n.0
  thread-in (ThreadSymbol i) = relocation-in i.0

  offset-in : (x : Refusal) → offset_in file s x ≤ s.length
  offset-in (Limit i) = limit-in i
  offset-in (Kind n) = header-in n.0
  offset-in (Bounds i) = bounds-in i
  offset-in (Address i) = address-in i
  offset-in Strings = b.strings
  offset-in (Aux i) = symbol-in i.0
  offset-in (Name i) = symbol-in i.0
  offset-in (Scnum i) = symbol-in i.0
  offset-in (Csect i) = symbol-in i.0
  offset-in (Visibility i) = symbol-in i.0
  offset-in (Thread i) = thread-in i
  offset-in (Loader i) = b.loader
  offset-in (Lsym i) = loader-symbol-in i
  offset-in (Lrel i) = relocation-in i.0
  offset-in (SectionLrel e) = section-relocation-in e
  offset-in (Overlap i) = relocation-in i.0
  offset-in (SectionOverlap e) = section-relocation-in e
  offset-in (Range e) = section-relocation-in e
  offset-in Short = omega arith
  offset-in Magic = omega arith
  offset-in (Index i) = omega arith
  offset-in (Module i) = omega arith
  offset-in (Plan i) = omega arith
  offset-in (Room i) = omega arith
  offset-in Sheet = omega arith
  offset-in (Record i) = omega arith
  offset-in Form = omega arith
  offset-in Clash = omega arith
  offset-in Full = omega arith
  offset-in Absent = omega arith
  offset-in Long = omega arith
  offset-in Shared = omega arith
  offset-in NoLine = omega arith
  offset-in Group = omega arith

module _ (file : List ℕ) where
  abbrev Inside : Option Starts → Type 0
  Inside None = Unit {0}
  Inside (Some s) = (s.length ≡ length file) × Within s

  starts-in : (f : Format) → Inside (Some (starts_as f file))
  unfolding starts_as
  starts-in f =
      let h = header_at f file in
      (refl, record { strings = placed-in (length file) h.symptr.0 (h.nsyms * symbol_length); loader = placed-in (length file) (loader_in file h h.nscns) 0 })

  by-header : (f : Format) (v : Verdict) → Inside (if_accepted v (Some (starts_as f file)) None)
  by-header f (Ok tt) = starts-in f
  by-header f (Err x) = tt

  by-magic : (a : Option Format) → Inside (starts_by file a)
  by-magic None = tt
  by-magic (Some f) = by-header f (header_check f file)

  starts-inside : Inside (starts_of file)
  unfolding starts_of
  starts-inside =
      either Inside (ltb file_limit (length file)) (λ _. tt)
      (λ _. either Inside (ltb (length file) 2) (λ _. tt)
      (λ _. by-magic (format_of (field_in magic_field 0 file))))

  pub known-length : {s : Starts} → starts_of file ≡ Some s → s.length ≡ length file
  known-length e = (rw e at starts-inside).0

  by-starts : (x : Refusal) (a : Option Starts) → Inside a → offset_by file a x ≤ length file
  by-starts x None b = omega arith
  by-starts x (Some s) b = let p = offset-in file s b.1 x in let e = b.0 in omega arith

  -- request 4: "an offset is at most the file's length"
  pub offset-inside : (x : Refusal) → offset_of file x ≤ length file
  offset-inside x = by-starts x (starts_of file) starts-inside
