-- Readers give the same of two files that agree on the bytes they read. Assumes nothing.
use mathlib.Core.Path.{◌≡◌, refl, ap}
use mathlib.Core.Bool.{Bool, true, false, not, cond, ◌||◌}
use mathlib.Core.List.{List}
use Prim.Native.Nat.{ℕ, ◌+◌, ◌-◌, ◌≤◌}
use native.Mathlib.Omega.{arith}
use lib.Dec.{lit≤, ltb, eqb}
use borrow.Author.Tests.{ltb-false}
use Rattle.word.specs.Test.{past}
use Rattle.word.proofs.Test.{or-first, or-second, past-not}
use Rattle.format.specs.declared.FileRange.{FileRange}
use Rattle.format.specs.declared.NameField.{NameField}
use Rattle.format.specs.declared.NameField.TheVariants.{Short, Offset}
use Rattle.word.specs.declared.Width.TheVariants as width
use Rattle.word.specs.declared.Width.TheVariants.{Two, Four, Eight}
use Rattle.word.specs.Number.{field_at, field}
use Rattle.format.specs.declared.Format.{Format}
use Rattle.format.specs.declared.Format.TheVariants.{Xcoff32, Xcoff64}
use Rattle.format.specs.Layout.{header_layout, section_layout, aux_layout, aux_numbers, symbol_layout, short_name, zeroes_field, symbol_length, loader_layout, relocation_layout, loader_symbol_length}
use Rattle.format.specs.Name.{name_field}
use Rattle.format.proofs.Layouts.{FieldInside, header-inside, section-inside, aux-inside, aux-numbers-inside, symbol-inside}
use Rattle.section.specs.Section.{section_header_at}
use Rattle.file_header.specs.Header.{header_at}
use Rattle.auxiliary.specs.Auxiliary.{aux_at}
use Rattle.loader_header.specs.Header.{loader_header_at, symbols_offset, relocations_offset}
use Rattle.loader_symbol.specs.Symbol as symbol
use Rattle.relocation.specs.Relocation as relocation
use Rattle.debug_section.specs.Debug.{length_field, length_width, length_at, leaves, has_string}
use Rattle.symbol.specs.Entry as entry
use Rattle.symbol.specs.Name as name
use Rattle.format.specs.declared.SymbolIndex.{SymbolIndex}
use Rattle.frame.specs.Same.{Same}
use Rattle.frame.proofs.Same.{same-within, same_number, same-field, same_text}
use Rattle.std.specs.Prelude.{None, Ok, Option, Some}

-- the file header
pub header-same : (f : Format) {xs ys : List ℕ} → Same 0 (header_layout f).length xs ys → header_at f xs ≡ header_at f ys
unfolding header_at
header-same f e =
    let i = header-inside f (header_layout f).length refl (omega arith) in
    rw (
      same-field (header_layout f).nscns i.nscns e,
      same-field (header_layout f).symptr i.symptr e,
      same-field (header_layout f).nsyms i.nsyms e,
      same-field (header_layout f).opthdr i.opthdr e,
      same-field (header_layout f).flags i.flags e,
    ) refl

-- a section header
pub section-same : (f : Format) (base : ℕ) {xs ys : List ℕ} → Same base (section_layout f).length xs ys → section_header_at f base xs ≡ section_header_at f base ys
unfolding section_header_at
section-same f base e =
    let i = section-inside f 0 (section_layout f).length refl (omega arith) in
    rw (
      same-field (section_layout f).paddr i.paddr e,
      same-field (section_layout f).vaddr i.vaddr e,
      same-field (section_layout f).size i.size e,
      same-field (section_layout f).scnptr i.scnptr e,
      same-field (section_layout f).relptr i.relptr e,
      same-field (section_layout f).lnnoptr i.lnnoptr e,
      same-field (section_layout f).nreloc i.nreloc e,
      same-field (section_layout f).nlnno i.nlnno e,
      same-field (section_layout f).flags i.flags e,
    ) refl

-- the auxiliary header
pub aux-same : (f : Format) (base : ℕ) {xs ys : List ℕ} → Same base (aux_layout f).length xs ys → aux_at f base xs ≡ aux_at f base ys
unfolding aux_at
aux-same f base e =
    let i = aux-inside f 0 (aux_layout f).length refl (omega arith) in
    let j = aux-numbers-inside f 0 (aux_layout f).length refl (omega arith) in
    rw (
      same-field (aux_layout f).tsize i.tsize e,
      same-field (aux_layout f).dsize i.dsize e,
      same-field (aux_layout f).bsize i.bsize e,
      same-field (aux_layout f).entry i.entry e,
      same-field (aux_layout f).tstart i.tstart e,
      same-field (aux_layout f).dstart i.dstart e,
      same-field (aux_layout f).toc i.toc e,
      same-field aux_numbers.snentry j.snentry e,
      same-field aux_numbers.sntext j.sntext e,
      same-field aux_numbers.sndata j.sndata e,
      same-field aux_numbers.sntoc j.sntoc e,
      same-field aux_numbers.snloader j.snloader e,
      same-field aux_numbers.snbss j.snbss e,
    ) refl

-- the name of a symbol as its entry has it: in the first 12 bytes
name-same : (f : Format) (base : ℕ) {n : ℕ} {xs ys : List ℕ} → symbol_length ≤ n → Same base n xs ys → name_field f base xs ≡ name_field f base ys
unfolding name_field
name-same Xcoff32 base {n} h e =
    let i = symbol-inside Xcoff32 0 n refl h in
    rw (same-field zeroes_field (omega arith) e, same-field (symbol_layout Xcoff32).offset i.offset e) refl
name-same Xcoff64 base {n} h e = rw (same-field (symbol_layout Xcoff64).offset (symbol-inside Xcoff64 0 n refl h).offset e) refl

-- a loader symbol's entry
pub loader-entry-same : (f : Format) (base : ℕ) {xs ys : List ℕ} → Same base loader_symbol_length xs ys → symbol.entry_at f base xs ≡ symbol.entry_at f base ys
unfolding symbol.entry_at
loader-entry-same f base e =
    let i = symbol-inside f 0 loader_symbol_length refl (lit≤ tt) in
    rw (
      name-same f base (lit≤ tt) e,
      same-field (symbol_layout f).value i.value e,
      same-field (symbol_layout f).scnum i.scnum e,
      same-field (field 14 width.One) (lit≤ tt) e,
      same-field (field 15 width.One) (lit≤ tt) e,
      same-field (field 16 Four) (lit≤ tt) e,
      same-field (field 20 Four) (lit≤ tt) e,
    ) refl

-- a relocation entry
pub relocation-same : (f : Format) (base : ℕ) {xs ys : List ℕ} → Same base (relocation_layout f).length xs ys → relocation.entry_at f base xs ≡ relocation.entry_at f base ys
unfolding relocation.entry_at
relocation-same Xcoff32 base e =
    rw (same-field (relocation_layout Xcoff32).address (lit≤ tt) e, same-field (relocation_layout Xcoff32).symbol (lit≤ tt) e, same-field (field 8 Two) (lit≤ tt) e, same-field (field 10 Two) (lit≤ tt) e) refl
relocation-same Xcoff64 base e =
    rw (same-field (relocation_layout Xcoff64).address (lit≤ tt) e, same-field (relocation_layout Xcoff64).symbol (lit≤ tt) e, same-field (field 8 Two) (lit≤ tt) e, same-field (field 10 Two) (lit≤ tt) e) refl

-- the loader header
pub loader-header-same : (f : Format) (base : ℕ) {xs ys : List ℕ} → Same base (loader_layout f).length xs ys → loader_header_at f base xs ≡ loader_header_at f base ys
unfolding loader_header_at symbols_offset relocations_offset
loader-header-same Xcoff32 base e =
    rw (
      same-field (field 0 Four) (lit≤ tt) e,
      same-field (field 4 Four) (lit≤ tt) e,
      same-field (field 8 Four) (lit≤ tt) e,
      same-field (field 12 Four) (lit≤ tt) e,
      same-field (field 16 Four) (lit≤ tt) e,
      same-field (field 20 Four) (lit≤ tt) e,
      same-field (field 24 Four) (lit≤ tt) e,
      same-field (field 28 Four) (lit≤ tt) e,
    ) refl
loader-header-same Xcoff64 base e =
    rw (
      same-field (field 0 Four) (lit≤ tt) e,
      same-field (field 4 Four) (lit≤ tt) e,
      same-field (field 8 Four) (lit≤ tt) e,
      same-field (field 12 Four) (lit≤ tt) e,
      same-field (field 16 Four) (lit≤ tt) e,
      same-field (field 20 Four) (lit≤ tt) e,
      same-field (field 24 Eight) (lit≤ tt) e,
      same-field (field 32 Eight) (lit≤ tt) e,
      same-field (field 40 Eight) (lit≤ tt) e,
      same-field (field 48 Eight) (lit≤ tt) e,
    ) refl

-- ---- tests decide what is read

-- a choice is the same where both its outcomes are
pub cond_same : {A : Type 0} (b : Bool) {x y u v : A} → (b ≡ true → x ≡ u) → (b ≡ false → y ≡ v) → cond b x y ≡ cond b u v
cond_same true h k = h refl
cond_same false h k = k refl

-- a loader symbol's string: in the table
pub string-same : (r : FileRange) (o i : ℕ) {xs ys : List ℕ} → Same r.start.0 r.length xs ys → symbol.string_in xs r o i ≡ symbol.string_in ys r o i
unfolding symbol.string_in
string-same r o i {xs} {ys} e =
    cond_same (ltb o 2 || ltb r.length o) (λ _. refl)
    (λ h. let low = ltb-false o 2 (or-first (ltb o 2) (ltb r.length o) h) in
    let high = ltb-false r.length o (or-second (ltb o 2) (ltb r.length o) h) in
    let n = field_at 2 (r.start.0 + o - 2) ys in
    rw (same_number 2 (r.start.0 + o - 2) (omega arith) (omega arith) e)
    (cond_same (eqb n 0 || past o n r.length) (λ _. refl)
    (λ k. let in_table = past-not o n r.length (or-second (eqb n 0) (past o n r.length) k) in
    rw (same-within (r.start.0 + o) n (omega arith) (omega arith) e).bytes refl)))

-- so is its name's place
pub loader-name-same : (r : FileRange) (base i : ℕ) (a : NameField) {xs ys : List ℕ} → Same base loader_symbol_length xs ys → Same r.start.0 r.length xs ys
    → symbol.name_in xs r base i a ≡ symbol.name_in ys r base i a
unfolding symbol.name_in
loader-name-same r base i Short d e = ap Ok (same_text short_name (lit≤ tt) d)
loader-name-same r base i (Offset o) d e = string-same r o i e

-- ---- tables whose judging takes the table's bytes already: the law is one rewrite

-- a symbol table entry
pub symbol-entry-same : (f : Format) (base : ℕ) {xs ys : List ℕ} → Same base symbol_length xs ys → entry.entry_at f base xs ≡ entry.entry_at f base ys
unfolding entry.entry_at
symbol-entry-same f base e =
    let i = symbol-inside f 0 symbol_length refl (omega arith) in
    rw (
      name-same f base (omega arith) e,
      same-field (symbol_layout f).value i.value e,
      same-field (symbol_layout f).scnum i.scnum e,
      same-field (symbol_layout f).ntype i.ntype e,
      same-field (symbol_layout f).sclass i.sclass e,
      same-field (symbol_layout f).numaux i.numaux e,
    ) refl

-- a symbol's string
pub string-room-same : (r : FileRange) (o : ℕ) (i : SymbolIndex) {xs ys : List ℕ} → Same r.start.0 r.length xs ys → name.string_room xs r o i ≡ name.string_room ys r o i
unfolding name.string_room
string-room-same r o i e = rw e.bytes refl

-- a string of the debug section: its length, and so whether the section holds it
length-inside : (f : Format) → FieldInside (length_field f) 0 (length_width f)
length-inside Xcoff32 = lit≤ tt
length-inside Xcoff64 = lit≤ tt

pub debug-length-same : (f : Format) (d : FileRange) (o : ℕ) {xs ys : List ℕ} → length_width f ≤ o → o ≤ d.length → Same d.start.0 d.length xs ys
    → length_at f xs d o ≡ length_at f ys d o
unfolding length_at
debug-length-same f d o low high e =
    same-field (length_field f) (length-inside f) (same-within (d.start.0 + o - length_width f) (length_width f) (omega arith) (omega arith) e)

leaves-same : (f : Format) (d : FileRange) (o : ℕ) {xs ys : List ℕ} → Same d.start.0 d.length xs ys → leaves f xs d o ≡ leaves f ys d o
unfolding leaves
leaves-same f d o {xs} {ys} e = by_tests (ltb o (length_width f)) (ltb d.length o) refl refl
  where
    by_tests : (s t : Bool) → ltb o (length_width f) ≡ s → ltb d.length o ≡ t
        → ((s || t) || past o (length_at f xs d o) d.length) ≡ ((s || t) || past o (length_at f ys d o) d.length)
    by_tests true t a b = refl
    by_tests false true a b = refl
    by_tests false false a b = rw (debug-length-same f d o (ltb-false o (length_width f) a) (ltb-false d.length o b) e) refl

abbrev pub SameDebug : Option FileRange → List ℕ → List ℕ → Type 0
SameDebug None xs ys = Unit {0}
SameDebug (Some d) xs ys = Same d.start.0 d.length xs ys

pub has-string-same : (f : Format) (d : Option FileRange) (o : ℕ) (xs ys : List ℕ) → SameDebug d xs ys → has_string f xs d o ≡ has_string f ys d o
unfolding has_string
has-string-same f None o xs ys e = refl
has-string-same f (Some d) o xs ys e = ap not (leaves-same f d o e)
