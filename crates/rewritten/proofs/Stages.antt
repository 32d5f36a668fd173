-- The changes that make a written file, each in its own range; and what each leaves alone. Assumes nothing.
use mathlib.Core.Path.{◌≡◌, refl}
use mathlib.Core.Bool.{false}
use mathlib.Core.List.{List}
use Prim.Native.Nat.{ℕ, suc, ◌+◌, ◌*◌, ◌≤◌, ◌<◌}
use native.Mathlib.Omega.{arith}
use native.Mathlib.Nat.{mul-le-mul_right, suc-mul}
use native.Mathlib.Decide.{dec_lt}
use lib.ListN.{length}
use Rattle.word.specs.declared.Field.{Field}
use Rattle.word.specs.Number.{bytes_in}
use Rattle.word.proofs.Test.{or-first, or-second}
use Rattle.format.specs.declared.Format.{Format}
use Rattle.format.specs.declared.Format.TheVariants.{Xcoff32, Xcoff64}
use Rattle.format.specs.declared.FileRange.{FileRange}
use Rattle.format.specs.Layout.{header_layout, section_layout, aux_layout, symbol_layout, loader_layout, loader_symbol_length, relocation_layout}
use Rattle.format.specs.Range.{range}
use Rattle.file_header.specs.Header.{section_start}
use Rattle.header.specs.declared.Summary.{Summary}
use Rattle.parts.specs.Sections.{flag_at}
use Rattle.module.specs.declared.Module.{Module}
use Rattle.loader_symbol.specs.Symbol as symbol
use Rattle.relocation.specs.Relocation as relocation
use Rattle.loadable.specs.declared.Loadable.{Loadable}
use Rattle.history.specs.declared.Followed.{Followed}
use Rattle.history.specs.declared.Followed.TheVariants as followed
use Rattle.format.proofs.Layouts.{aux-inside}
use Rattle.written.specs.Written.{put_header, anchor_follows}
use Rattle.plan.specs.Relocatable.{followed_at}
use Rattle.shared_range.specs.Shared.{Holds, Disjoint, shares_two}
use Rattle.frame.specs.Change.{Local}
use Rattle.written.specs.Written.{put_address, flag_follows, entry_follows, put_section, put_aux, put_symbol, put_entry}
use Rattle.written.specs.Shared.{part_range, header_range, strings_size, file_ranges, loader_ranges, is_shared}
use Rattle.shared_range.proofs.Shared.{separate}
use Rattle.frame.proofs.Change.{wider, both-local}
use Rattle.rewritten.proofs.Fields.{address-local}
use Rattle.written.proofs.Found.{Within}

-- ---- parts that share no byte, by name

pub record Clear (file : List ℕ) (y : Summary) (l : Loadable) : Type 0 where
  pub header-text : Disjoint (header_range y) (part_range l.layout.parts.text)
  pub header-data : Disjoint (header_range y) (part_range l.layout.parts.«data»)
  pub header-loader : Disjoint (header_range y) (part_range l.layout.parts.loader)
  pub header-strings : Disjoint (header_range y) (range y.symbols.strings.start.0 (strings_size (length file) y))
  pub text-data : Disjoint (part_range l.layout.parts.text) (part_range l.layout.parts.«data»)
  pub text-loader : Disjoint (part_range l.layout.parts.text) (part_range l.layout.parts.loader)
  pub text-strings : Disjoint (part_range l.layout.parts.text) (range y.symbols.strings.start.0 (strings_size (length file) y))
  pub data-loader : Disjoint (part_range l.layout.parts.«data») (part_range l.layout.parts.loader)
  pub data-strings : Disjoint (part_range l.layout.parts.«data») (range y.symbols.strings.start.0 (strings_size (length file) y))
  pub loader-strings : Disjoint (part_range l.layout.parts.loader) (range y.symbols.strings.start.0 (strings_size (length file) y))

pub clear : (file : List ℕ) (y : Summary) (l : Loadable) → is_shared file y l ≡ false → Clear file y l
unfolding is_shared file_ranges
clear file y l e =
    let s = separate (file_ranges file y l.layout) (or-first (shares_two (file_ranges file y l.layout)) _ e) in
    record {
      header-text = s.0.0;
      header-data = s.0.1.0;
      header-loader = s.0.1.1.0;
      header-strings = s.0.1.1.1.1.0;
      text-data = s.1.0.0;
      text-loader = s.1.0.1.0;
      text-strings = s.1.0.1.1.1.0;
      data-loader = s.1.1.0.0;
      data-strings = s.1.1.0.1.1.0;
      loader-strings = s.1.1.1.0.1.0;
    }

abbrev pub symbol_table_range : Loadable → FileRange
symbol_table_range l = range l.tables.symbols.0 (l.tables.nsyms * loader_symbol_length)

abbrev pub entry_table_range : Loadable → FileRange
entry_table_range l = range l.tables.relocations.0 (l.tables.nreloc * (relocation_layout l.layout.format).length)

abbrev pub loader_header_range : Loadable → FileRange
loader_header_range l = range l.layout.parts.loader.start.0 (loader_layout l.layout.format).length

pub record LoaderClear (l : Loadable) : Type 0 where
  pub header-symbols : Disjoint (loader_header_range l) (symbol_table_range l)
  pub header-entries : Disjoint (loader_header_range l) (entry_table_range l)
  pub symbols-entries : Disjoint (symbol_table_range l) (entry_table_range l)
  pub symbols-ids : Disjoint (symbol_table_range l) l.tables.ids
  pub symbols-strings : Disjoint (symbol_table_range l) l.tables.strings
  pub entries-ids : Disjoint (entry_table_range l) l.tables.ids
  pub entries-strings : Disjoint (entry_table_range l) l.tables.strings

pub loader-clear : (file : List ℕ) (y : Summary) (l : Loadable) → is_shared file y l ≡ false → LoaderClear l
unfolding is_shared loader_ranges
loader-clear file y l e =
    let s = separate (loader_ranges l) (or-second (shares_two (file_ranges file y l.layout)) _ e) in
    record {
      header-symbols = s.0.0;
      header-entries = s.0.1.0;
      symbols-entries = s.1.0.0;
      symbols-ids = s.1.0.1.0;
      symbols-strings = s.1.0.1.1.0;
      entries-ids = s.1.1.0.0;
      entries-strings = s.1.1.0.1.0;
    }

pub flip : {a b : FileRange} → Disjoint a b → Disjoint b a
flip d = record { none = λ k h g. d.none k g h }

-- ranges inside disjoint ranges are disjoint
pub sub : {a b : FileRange} (c d : FileRange) → Within c a → Within d b → Disjoint a b → Disjoint c d
sub c d h g e = record { none = λ k p q. e.none k (h k p) (g k q) }

pub whole : (a : FileRange) → Within a a
whole a k h = h

-- ---- entries of a table

abbrev pub section_range : Summary → ℕ → FileRange
section_range y i = range (section_start y.format y.opthdr i) (section_layout y.format).length

abbrev pub symbol_range : Loadable → ℕ → FileRange
symbol_range l k = range (symbol.entry_start l.tables k) loader_symbol_length

abbrev pub entry_range : Loadable → ℕ → FileRange
entry_range l i = range (relocation.entry_start l.layout.format l.tables i) (relocation_layout l.layout.format).length

-- entries of one length, one behind the other: no two share a byte, and all are in the table
module _ (start len : ℕ) where
  abbrev entry_of : ℕ → FileRange
  entry_of i = range (start + i * len) len

  before : (i j : ℕ) → i < j → start + i * len + len ≤ start + j * len
  before i j h =
      let m : suc i * len ≤ j * len = mul-le-mul_right len h in
      omega (arith, m, suc-mul i len)

  pub entries-alone : (i j x : ℕ) → Holds (entry_of i) x → Holds (entry_of j) x → i ≡ j
  entries-alone i j x a b = by_order (dec_lt i j) (dec_lt j i)
    where
      by_order : Dec (i < j) → Dec (j < i) → i ≡ j
      by_order (yes p) d = absurd (let l = a.low in let h = a.high in let m = b.low in omega (arith, before i j p))
      by_order (no p) (yes q) = absurd (let l = b.low in let h = b.high in let m = a.low in omega (arith, before j i q))
      by_order (no p) (no q) = omega arith

  pub entries-within : (n i : ℕ) → i < n → Within (entry_of i) (range start (n * len))
  entries-within n i h x g =
      let l = g.low in
      let u = g.high in
      record { low = omega arith; high = omega (arith, before i n h) }

-- ---- the changes

module _ (new : Followed → ℕ → ℕ) (file : List ℕ) where
  -- an address put in stays in the record that holds its field
  pub address-in : (f : Followed) (a : Field) (base len : ℕ) → a.offset + bytes_in a.width ≤ len → Local (range base len) (λ bs. put_address new file f a base bs)
  address-in f a base len h =
      wider (range base len) (λ k g. let l = g.low in let u = g.high in record { low = omega arith; high = omega arith }) (address-local new file f a base)

  pub section-local : (y : Summary) (i : ℕ) → Local (section_range y i) (λ bs. put_section new file y i bs)
  unfolding put_section put_header
  section-local y i =
      let f = flag_follows (flag_at y.sections i) in
      let base = section_start y.format y.opthdr i in
      let p = section-fits y.format in
      both-local (λ bs. put_address new file f (section_layout y.format).vaddr base bs) (λ bs. put_address new file f (section_layout y.format).paddr base bs)
      (address-in f (section_layout y.format).vaddr base (section_layout y.format).length p.0)
      (address-in f (section_layout y.format).paddr base (section_layout y.format).length p.1)
    where
      section-fits : (f : Format) → ((section_layout f).vaddr.offset + bytes_in (section_layout f).vaddr.width ≤ (section_layout f).length) × ((section_layout f).paddr.offset + bytes_in (section_layout f).paddr.width ≤ (section_layout f).length)
      section-fits Xcoff32 = (omega arith, omega arith)
      section-fits Xcoff64 = (omega arith, omega arith)

  pub symbol-local : (l : Loadable) (k : ℕ) → Local (symbol_range l k) (λ bs. put_symbol new file l k bs)
  unfolding put_symbol
  symbol-local l k = address-in (followed_at file l k) (symbol_layout l.layout.format).value (symbol.entry_start l.tables k) loader_symbol_length (fits l.layout.format)
    where
      fits : (f : Format) → (symbol_layout f).value.offset + bytes_in (symbol_layout f).value.width ≤ loader_symbol_length
      fits Xcoff32 = omega arith
      fits Xcoff64 = omega arith

  pub entry-local : (l : Loadable) (i : ℕ) → Local (entry_range l i) (λ bs. put_entry new file l i bs)
  unfolding put_entry
  entry-local l i =
      let f = l.layout.format in
      address-in (entry_follows l.layout.parts (relocation.entry_in file f l.tables i)) (relocation_layout f).address (relocation.entry_start f l.tables i) (relocation_layout f).length (fits f)
    where
      fits : (f : Format) → (relocation_layout f).address.offset + bytes_in (relocation_layout f).address.width ≤ (relocation_layout f).length
      fits Xcoff32 = omega arith
      fits Xcoff64 = omega arith

  pub aux-local : (m : Module) → Local (range (header_layout m.format).length (aux_layout m.format).length) (λ bs. put_aux new file m bs)
  unfolding put_aux
  aux-local m =
      let a = aux_layout m.format in
      let base = (header_layout m.format).length in
      let fe = anchor_follows m.parts m.entry in
      let ft = anchor_follows m.parts m.toc in
      let i = aux-inside m.format 0 a.length refl (omega arith) in
      both-local (λ bs. put_address new file followed.Text a.tstart base bs) (λ bs. put_address new file followed.Data a.dstart base (put_address new file fe a.entry base (put_address new file ft a.toc base bs)))
      (address-in followed.Text a.tstart base a.length (omega (arith, i.tstart)))
      (both-local (λ bs. put_address new file followed.Data a.dstart base bs) (λ bs. put_address new file fe a.entry base (put_address new file ft a.toc base bs))
      (address-in followed.Data a.dstart base a.length (omega (arith, i.dstart)))
      (both-local (λ bs. put_address new file fe a.entry base bs) (λ bs. put_address new file ft a.toc base bs)
      (address-in fe a.entry base a.length (omega (arith, i.entry))) (address-in ft a.toc base a.length (omega (arith, i.toc)))))
