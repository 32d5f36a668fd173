-- What opening's refusals name is there, and what an opened file's symbols are. Assumes nothing.
use Prim.Native.Nat.{ℕ, ◌+◌, ◌*◌, ◌≤◌, ◌<◌}
use mathlib.Core.Path.{◌≡◌, refl, sym, ◌∙◌}
use mathlib.Core.Bool.{◌&&◌}
use mathlib.Core.List.{List}
use native.Mathlib.Omega.{arith}
use native.Mathlib.Decide.{ℕ_discrete}
use borrow.Author.Tests.{ltb-false, eq-eqb, ne_eqb}
use lib.Dec.{eqb, ltb}
use lib.ListN.{length, get_or}
use Rattle.word.specs.Number.{field_in, field_at}
use Rattle.word.specs.Test.{past}
use Rattle.word.proofs.Test.{past-not, either}
use Rattle.section_kind.specs.Kind.{kind_of}
use Rattle.format.specs.declared.Format.{Format}
use Rattle.format.specs.Layout.{magic_field, format_of, header_layout, symbol_length}
use Rattle.format.specs.Limit.{file_limit, section_limit}
use Rattle.refusal.specs.declared.BoundsItem.TheVariants as bounds
use Rattle.refusal.specs.declared.AddressItem.TheVariants as address
use Rattle.refusal.specs.declared.LimitItem.TheVariants.{File, Sections}
use Rattle.refusal.specs.declared.Refusal.{Refusal}
use Rattle.refusal.specs.declared.Refusal.TheVariants.{Short, Magic, Limit, Kind, Bounds, Address, Strings}
use Rattle.refusal.specs.Order.{refuse_if}
use Rattle.refusal.proofs.Order.{not-accepted, accepted-first, accepted-rest, accepted-most, first-all}
use Rattle.refusal.proofs.Causes.{Causes, cause-if, cause-test, cause-then, cause-first}
use Rattle.section.specs.declared.SectionHeader.{SectionHeader}
use Rattle.section.specs.Section.{section_header_at, raw_data_past, misplaced, judge_kind, judge_section}
use Rattle.file_header.specs.declared.FileHeader.{FileHeader}
use Rattle.file_header.specs.Header.{header_at, header_check, section_start}
use Rattle.file_header.proofs.Checked.{few}
use Rattle.offset.specs.Offset.{starts_as, header_place, symbol_place}
use Rattle.offset.specs.Named.{NamesHeader, NamesSymbol, Named}
use Rattle.offset.proofs.Named.{Headed, plain-named, named_by, header-named, symbol-named, strings-named}
use Rattle.file_tables.specs.Tables.{blank_section, judged_at, verdict_of, record_of, sections_check, symbols_end, strings_check, symbols_check, symbol_table}
use Rattle.file_tables.proofs.Symbols.{symbols-inside}
use Rattle.header.specs.Open.{format_check, magic_check, open_check, summary_with, summary_as, summary_by, open_of}
use Rattle.header.proofs.Accepted.{section-record, open-verdict, small-file, magic-accepted, checks}
use Rattle.std.specs.Prelude.{None, Ok, Option, Some}
use Rattle.section_kind.specs.declared.SectionKind.{SectionKind}

module _ (file : List ℕ) where
  abbrev P : Refusal → Type 0
  P = Named file

  -- ---- a file whose headers are whole

  module _ (f : Format) (g : Headed file f) where
    abbrev h : FileHeader
    h = header_at f file

    -- section i + 1
    by_kind : (i : ℕ) → i < h.nscns → (s : SectionHeader) (k : Option SectionKind) → Causes P (verdict_of (judge_kind h.format (length file) s (record { 0 = i + 1 }) k))
    unfolding judge_kind
    by_kind i p s None = named_by file f g (Kind (record { 0 = i + 1 })) (header-named file f g (i + 1) (omega arith) (omega arith))
    by_kind i p s (Some k) =
        either (λ a. Causes P (verdict_of a)) (raw_data_past k (length file) s) (λ _. named_by file f g (Bounds (bounds.RawData (record { 0 = i + 1 }))) (header-named file f g (i + 1) (omega arith) (omega arith)))
        (λ _. either (λ a. Causes P (verdict_of a)) (misplaced h.format k s) (λ _. named_by file f g (Address (address.Misplaced (record { 0 = i + 1 }))) (header-named file f g (i + 1) (omega arith) (omega arith)))
        (λ _. tt))

    section-named : (i : ℕ) → i < h.nscns → Causes P (verdict_of (judged_at file h i))
    unfolding judged_at judge_section
    section-named i p = let s = section_header_at h.format (section_start h.format h.opthdr i) file in by_kind i p s (kind_of s.flags)

    sections-named : Causes P (sections_check file h)
    unfolding sections_check
    sections-named = cause-first P (λ i. verdict_of (judged_at file h i)) 0 h.nscns (λ j _ q. section-named j (omega arith))

    strings-check-named : h.symptr.0 + h.nsyms * symbol_length ≤ length file → Causes P (strings_check file (symbols_end h))
    unfolding strings_check symbols_end
    strings-check-named q =
        let n = field_at 4 (symbols_end h) file in
        either (Causes P) (eqb (symbols_end h) (length file)) (λ _. tt)
        (λ _. cause-test P (past (symbols_end h) 4 (length file)) (Bounds bounds.StringTable) _ (λ _. plain-named file (Bounds bounds.StringTable) (λ s. refl) (λ _ e. e))
        (λ _. cause-test P (ltb 0 n && ltb n 4) Strings _ (λ _. named_by file f g Strings (strings-named file f g q))
        (λ _. cause-if P (past (symbols_end h) n (length file)) (Bounds bounds.StringTable) (λ _. plain-named file (Bounds bounds.StringTable) (λ s. refl) (λ _ e. e)))))

    symbols-named : Causes P (symbols_check file h)
    unfolding symbols_check
    symbols-named =
        either (Causes P) (eqb h.nsyms 0) (λ _. tt)
        (λ _. cause-test P (past h.symptr.0 (h.nsyms * symbol_length) (length file)) (Bounds bounds.SymbolTable) _ (λ _. plain-named file (Bounds bounds.SymbolTable) (λ s. refl) (λ _ e. e))
        (λ a. strings-check-named (past-not h.symptr.0 (h.nsyms * symbol_length) (length file) a)))

  -- ---- any file

  header-check-named : (f : Format) → Causes P (header_check f file)
  unfolding header_check
  header-check-named f =
      let h = header_at f file in
      cause-test P (ltb (length file) (header_layout f).length) Short _ (λ _. plain-named file Short (λ s. refl) (λ _ e. e))
      (λ _. cause-test P (ltb section_limit h.nscns) (Limit Sections) _ (λ _. plain-named file (Limit Sections) (λ s. refl) (λ _ e. e))
      (λ _. cause-if P (ltb (length file) (section_start f h.opthdr h.nscns)) Short (λ _. plain-named file Short (λ s. refl) (λ _ e. e))))

  module _ (small : length file ≤ file_limit) (two : 2 ≤ length file) where
    by-magic : (a : Option Format) → format_of (field_in magic_field 0 file) ≡ a → Causes P (magic_check file a)
    unfolding format_check
    by-magic None m = plain-named file Magic (λ s. refl) (λ _ e. e)
    by-magic (Some f) m =
        cause-then P (header_check f file) _ (header-check-named f)
        (λ e. let g : Headed file f = record { small = small; two = two; magic = m; headers = e } in
        cause-then P (sections_check file (header_at f file)) _ (sections-named f g) (λ _. symbols-named f g))

  -- request 4: what a refusal of opening names is there
  pub open-named : Causes P (open_check file)
  unfolding open_check
  open-named =
      cause-test P (ltb file_limit (length file)) (Limit File) _ (λ _. plain-named file (Limit File) (λ s. refl) (λ _ e. e))
      (λ a. cause-test P (ltb (length file) 2) Short _ (λ _. plain-named file Short (λ s. refl) (λ _ e. e))
      (λ b. by-magic (ltb-false file_limit (length file) a) (ltb-false (length file) 2 b) (format_of (field_in magic_field 0 file)) refl))

-- ---- an opened file

-- its format, and what its checks have left known
pub record Opens (file : List ℕ) : Type 0 where
  pub accepted : (open_of file).verdict ≡ Ok tt
  pub format : Format
  pub headed : Headed file format
  pub sections : sections_check file (header_at format file) ≡ Ok tt
  pub symbols : symbols_check file (header_at format file) ≡ Ok tt
  pub summary : (open_of file).summary ≡ summary_as format file

module _ (file : List ℕ) (e : (open_of file).verdict ≡ Ok tt) where
  two_bytes : 2 ≤ length file
  two_bytes =
      accepted-most (length file) 2 Short (accepted-first (refuse_if (ltb (length file) 2) Short) _ (accepted-rest (refuse_if (ltb file_limit (length file)) (Limit File)) _ (checks file e)))

  summary-is : (open_of file).summary ≡ summary_by file (format_of (field_in magic_field 0 file))
  unfolding open_of
  summary-is = rw (sym (open-verdict file) ∙ e) refl

  opens_by : (a : Option Format) → format_of (field_in magic_field 0 file) ≡ a → magic_check file a ≡ Ok tt → (open_of file).summary ≡ summary_by file a → Opens file
  unfolding format_check
  opens_by None m k y = not-accepted k
  opens_by (Some f) m k y =
      let h = header_at f file in
      let r = accepted-rest (header_check f file) _ k in
      record {
        accepted = e;
        format = f;
        headed = record { small = small-file file e; two = two_bytes; magic = m; headers = accepted-first (header_check f file) _ k };
        sections = accepted-first (sections_check file h) _ r;
        symbols = accepted-rest (sections_check file h) _ r;
        summary = y;
      }

  pub opens : Opens file
  opens = opens_by (format_of (field_in magic_field 0 file)) refl (magic-accepted file e) summary-is

module _ (file : List ℕ) (o : Opens file) where
  abbrev f : Format
  f = o.format

  pub format-is : (open_of file).summary.format ≡ f
  unfolding summary_as summary_with header_at
  format-is = rw o.summary refl

  pub count-is : (open_of file).summary.count ≡ (header_at f file).nscns
  unfolding summary_as summary_with
  count-is = rw o.summary refl

  -- a section that it has is accepted, and its record is the one that was judged
  pub section-accepted : (i : ℕ) → i < (header_at f file).nscns → verdict_of (judged_at file (header_at f file) i) ≡ Ok tt
  unfolding sections_check
  section-accepted i p = let h = header_at f file in first-all (λ j. verdict_of (judged_at file h j)) h.nscns 0 o.sections i (omega arith) (omega arith)

  pub section-is : (i : ℕ) → i < (header_at f file).nscns → get_or (open_of file).summary.sections i blank_section ≡ record_of (judged_at file (header_at f file) i)
  unfolding summary_as summary_with
  section-is i p = let h = header_at f file in rw o.summary (section-record file h h.nscns i (few f file o.headed.headers) p)

  -- the header of a section that it has
  pub section-there : (n : ℕ) → 0 < n → n ≤ (open_of file).summary.count → NamesHeader file (header_at f file) n (header_place (starts_as f file) n)
  section-there n p q = header-named file f o.headed n p (rw count-is at q)

  symbols-by : (i : ℕ) → Dec ((header_at f file).nsyms ≡ 0) → i < (symbol_table file (header_at f file)).count → NamesSymbol file (header_at f file) i (symbol_place (starts_as f file) i)
  unfolding symbol_table
  symbols-by i (yes z) p = absurd (let q = rw (eq-eqb (header_at f file).nsyms 0 z) at p in omega arith)
  symbols-by i (no n) p =
      let h = header_at f file in
      symbol-named file f o.headed i (rw (ne_eqb h.nsyms 0 n) at p) (symbols-inside file h o.symbols n)

  -- an entry that its symbol table has
  pub symbol-there : (i : ℕ) → i < (open_of file).summary.symbols.count → NamesSymbol file (header_at f file) i (symbol_place (starts_as f file) i)
  unfolding summary_as summary_with
  symbol-there i p = symbols-by i (ℕ_discrete (header_at f file).nsyms 0) (rw o.summary at p)

-- what opening refuses a file for is there
pub opened-named : (file : List ℕ) → Causes (Named file) (open_of file).verdict
opened-named file = rw (open-verdict file) (open-named file)
