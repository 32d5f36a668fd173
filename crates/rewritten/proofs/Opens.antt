-- A written file opens, with the new addresses in its sections. Assumes nothing.
use mathlib.Core.Path.{◌≡◌, refl, sym, ◌∙◌, ap, subst}
use mathlib.Core.Bool.{true, false, ◌&&◌, ◌||◌}
use mathlib.Core.Logic.{◌⊎◌, inl, inr}
use mathlib.Core.List.{List}
use Prim.Native.Nat.{ℕ, ◌+◌, ◌-◌, ◌*◌, ◌≤◌, ◌<◌}
use native.Mathlib.Decide.{ℕ_discrete}
use native.Mathlib.Omega.{arith}
use lib.ListN.{length, get_or, take}
use lib.Dec.{eqb, ltb}
use borrow.Author.Tests.{eq-eqb, ne_eqb, ltb-false, lt-ltb}
use Rattle.word.specs.Test.{past}
use Rattle.refusal.proofs.Order.{accepted-first, accepted-rest, accepted-test}
use Rattle.word.specs.Number.{field_at, field_in}
use Rattle.word.proofs.Test.{either}
use Rattle.format.specs.declared.Format.{Format}
use Rattle.format.specs.declared.Format.TheVariants.{Xcoff32, Xcoff64}
use Rattle.section_kind.specs.declared.SectionKind.{SectionKind}
use Rattle.section_kind.specs.declared.SectionKind.TheVariants as kind
use Rattle.section_kind.specs.Kind.{flags_of, is_placed_kind}
use Rattle.format.specs.Layout.{magic_field, format_of, header_layout, section_layout, aux_layout, address_limit, symbol_length}
use Rattle.refusal.specs.Order.{refuse_if}
use Rattle.section.specs.declared.SectionHeader.{SectionHeader}
use Rattle.section.specs.declared.Section.{Section}
use Rattle.section.specs.Section.{section_header_at, judge_section}
use Rattle.file_header.specs.declared.FileHeader.{FileHeader}
use Rattle.file_header.specs.Header.{header_at, header_check, section_start}
use Rattle.file_tables.specs.Tables.{blank_section, judged_at, verdict_of, record_of, sections_check, sections_of, symbols_check, symbols_end, strings_check, strings_length, symbol_table}
use Rattle.header.specs.declared.Summary.{Summary}
use Rattle.header.specs.Open.{summary_with, open_of}
use Rattle.file_header.proofs.Checked.{header-complete}
use Rattle.parts.specs.Sections.{flag_at, tally_of, part_at, parts_of}
use Rattle.module.specs.Module.{image_length, aux_of, module_check, module_with}
use Rattle.written.specs.Written.{anchor_follows}
use Rattle.loadable.specs.declared.Loadable.{Loadable}
use Rattle.history.specs.declared.Followed.{Followed}
use Rattle.history.specs.declared.Followed.TheVariants as followed
use Rattle.history.specs.Images.{Images}
use Rattle.frame.specs.Same.{Same}
use Rattle.written.specs.Written.{put_header, put_section, flag_follows}
use Rattle.written.specs.Shared.{strings_size}
use Rattle.written.specs.Moved.{Fresh, moved_header, moved_section}
use Rattle.field_overlap.proofs.Rule.{no_true}
use Rattle.frame.proofs.Same.{same_number}
use Rattle.frame.proofs.Readers.{header-same, section-same}
use Rattle.header.specs.Open.{summary_as}
use Rattle.header.proofs.Accepted.{section-record}
use Rattle.frame.proofs.Open.{Reads, reads-opened, symbols-same, table_same, accept-all, judged-found, strings-of, section-in-area}
use Rattle.rewritten.proofs.Fields.{section-put}
use Rattle.rewritten.proofs.Judge.{judge-moved, tally-one}
use Rattle.rewritten.proofs.Parts.{Ones, Moves, with_sections}
use Rattle.written.proofs.Found.{TablesWithin}
use Rattle.rewritten.proofs.Stages.{Clear, LoaderClear}
use Rattle.rewritten.proofs.Read.{w3, w6, length3, length6, header_read, section-read, section-before, strings-read}
use Rattle.std.specs.Prelude.{Ok}

-- all that the theorem rests on: the file opens, no two parts share a byte, and the new addresses fit
pub record Ready (new : Followed → ℕ → ℕ) (x : Images) (file : List ℕ) (f : Format) (l : Loadable) : Type 0 where
  pub reads : Reads f file
  pub apart : Clear file (summary_as f file) l
  pub loader_apart : LoaderClear l
  pub within : TablesWithin l
  pub format : l.layout.format ≡ (summary_as f file).format
  pub long : (aux_layout (summary_as f file).format).length ≤ (summary_as f file).opthdr
  pub text_length : length x.text ≡ l.layout.parts.text.size
  pub data_length : length (take l.layout.parts.«data».size x.dat) ≡ l.layout.parts.«data».size
  pub ones : Ones (summary_as f file)
  pub moves : Moves new (address_limit f) (parts_of (summary_as f file))
  pub holds : (parts_of (summary_as f file)).«data».size ≤ image_length (parts_of (summary_as f file))
  pub text : Fresh new (address_limit f) followed.Text
  pub dat : Fresh new (address_limit f) followed.Data
  pub still : Fresh new (address_limit f) followed.Nothing
  pub is : module_with (summary_as f file).format (parts_of (summary_as f file)) (aux_of file (summary_as f file)) ≡ l.layout
  pub check : module_check file (summary_as f file) ≡ Ok tt
  pub entry : Fresh new (address_limit f) (anchor_follows l.layout.parts l.layout.entry)
  pub toc : Fresh new (address_limit f) (anchor_follows l.layout.parts l.layout.toc)

-- a summary's fields in terms of the header
module _ (f : Format) (file : List ℕ) where
  pub format-of : (summary_as f file).format ≡ f
  unfolding summary_as summary_with header_at
  format-of = refl

  pub sections-count : (summary_as f file).count ≡ (header_at f file).nscns
  unfolding summary_as summary_with
  sections-count = refl

  pub opthdr-of : (summary_as f file).opthdr ≡ (header_at f file).opthdr
  unfolding summary_as summary_with
  opthdr-of = refl

  header-format : (header_at f file).format ≡ f
  unfolding header_at
  header-format = refl

  -- the record of section i
  pub record_of_lem : Reads f file → (i : ℕ) → i < (header_at f file).nscns → get_or (summary_as f file).sections i blank_section ≡ record_of (judged_at file (header_at f file) i)
  unfolding summary_as summary_with
  record_of_lem r i b = section-record file (header_at f file) (header_at f file).nscns i (header-complete f file r.header).few b

judged-is : (f : Format) (file ys : List ℕ) (i : ℕ) → judged_at ys (header_at f file) i ≡ judge_section f (length ys) (section_header_at f (section_start f (header_at f file).opthdr i) ys) (record { 0 = i + 1 })
unfolding judged_at header_at
judged-is f file ys i = refl

-- what the check of the strings tells of their length
stated-test : (file : List ℕ) (h : FileHeader) → symbols_check file h ≡ Ok tt → (h.nsyms ≡ 0 → ⊥) → (symbols_end h ≡ length file → ⊥) → (ltb 0 (field_at 4 (symbols_end h) file) && ltb (field_at 4 (symbols_end h) file) 4) ≡ false
unfolding symbols_check strings_check
stated-test file h e z n =
    let v = field_at 4 (symbols_end h) file in
    let a = accepted-rest (refuse_if (past h.symptr.0 (h.nsyms * symbol_length) (length file)) _) _ (rw (ne_eqb h.nsyms 0 z) at e) in
    let b = accepted-rest (refuse_if (past (symbols_end h) 4 (length file)) _) _ (rw (ne_eqb (symbols_end h) (length file) n) at a) in
    accepted-test (ltb 0 v && ltb v 4) _ (accepted-first (refuse_if (ltb 0 v && ltb v 4) _) _ b)

size_is : (f : Format) (file : List ℕ) → ((header_at f file).nsyms ≡ 0 → ⊥) → (symbols_end (header_at f file) ≡ length file → ⊥)
    → (field_at 4 (symbols_end (header_at f file)) file ≡ 0) ⊎ (4 ≤ field_at 4 (symbols_end (header_at f file)) file) → 4 ≤ strings_size (length file) (summary_as f file)
unfolding strings_size summary_as summary_with symbol_table strings_length
size_is f file z n (inl e) =
    let h = header_at f file in
    rw (ne_eqb h.nsyms 0 z) (rw (ne_eqb h.nsyms 0 z, ne_eqb (symbols_end h) (length file) n, eq-eqb (field_at 4 (symbols_end h) file) 0 e) (omega arith))
size_is f file z n (inr e) =
    let h = header_at f file in
    rw (ne_eqb h.nsyms 0 z) (rw (ne_eqb h.nsyms 0 z, ne_eqb (symbols_end h) (length file) n, ne_eqb (field_at 4 (symbols_end h) file) 0 (λ q. absurd (omega arith))) e)

-- a string table has its four length bytes, or the file ends where it would start
pub strings-size : (f : Format) (file : List ℕ) → Reads f file → ((header_at f file).nsyms ≡ 0 → ⊥) → ((summary_as f file).symbols.strings.start.0 ≡ length file) ⊎ (4 ≤ strings_size (length file) (summary_as f file))
strings-size f file r z = by_end (ℕ_discrete (symbols_end h) (length file))
  where
    h : FileHeader
    h = header_at f file

    stated : (symbols_end h ≡ length file → ⊥) → (field_at 4 (symbols_end h) file ≡ 0) ⊎ (4 ≤ field_at 4 (symbols_end h) file)
    stated n = by_length (field_at 4 (symbols_end h) file) (ℕ_discrete (field_at 4 (symbols_end h) file) 0) (stated-test file h r.symbols z n)
      where
        by_length : (v : ℕ) → Dec (v ≡ 0) → (ltb 0 v && ltb v 4) ≡ false → (v ≡ 0) ⊎ (4 ≤ v)
        by_length v (yes e) t = inl e
        by_length v (no e) t = inr (ltb-false v 4 (rw (lt-ltb 0 v (omega arith)) at t))

    by_end : Dec (symbols_end h ≡ length file) → ((summary_as f file).symbols.strings.start.0 ≡ length file) ⊎ (4 ≤ strings_size (length file) (summary_as f file))
    by_end (yes e) = inl (strings-of f file z ∙ e)
    by_end (no n) = inr (size_is f file z n (stated n))

part-at : (ss : List Section) (n i : ℕ) (s : Section) → n ≡ i + 1 → get_or ss i blank_section ≡ s → ((part_at ss n).address.0 ≡ s.vaddr.0) × ((part_at ss n).size ≡ s.size)
unfolding part_at
part-at ss n i s e q =
    let z : n - 1 ≡ i = omega arith in
    (rw (z, q) refl, rw (z, q) refl)

module _ (new : Followed → ℕ → ℕ) (x : Images) (file : List ℕ) (f : Format) (l : Loadable) (g : Ready new x file f l) where
  abbrev y : Summary
  y = summary_as f file

  abbrev h : FileHeader
  h = header_at f file

  abbrev pub W : List ℕ
  W = w6 new x file y l

  pub length-written : length W ≡ length file
  length-written = length6 new x file y l g.apart g.loader_apart g.within g.format g.long g.text_length g.data_length

  -- the file header is the same
  header-bytes : Same 0 (header_layout f).length W file
  unfolding summary_as summary_with header_at
  header-bytes = header_read new x file y l g.apart g.loader_apart g.within g.format g.long g.text_length g.data_length

  pub header-kept : header_at f W ≡ h
  header-kept = header-same f header-bytes

  -- ---- a section

  fresh-flag : (flag : ℕ) → Fresh new (address_limit f) (flag_follows flag)
  unfolding flag_follows
  fresh-flag flag =
      either (λ t. Fresh new (address_limit f) t) (eqb flag 0x0020) (λ _. g.text)
      (λ _. either (λ t. Fresh new (address_limit f) t) (eqb flag 0x0040 || eqb flag 0x0080) (λ _. g.dat) (λ _. g.still))

  section-room : (i : ℕ) → i < h.nscns → section_start f h.opthdr i + (section_layout f).length ≤ length file
  section-room i b =
      let e : section_start f h.opthdr h.nscns ≤ length file = subst (λ (t : Format). section_start t h.opthdr h.nscns ≤ length file) (header-format f file) (header-complete f file g.reads.header).inside in
      omega (arith, section-in-area f h.opthdr h.nscns i b)

  module _ (i : ℕ) (b : i < h.nscns) where
    abbrev base : ℕ
    base = section_start f h.opthdr i

    abbrev s : Section
    s = record_of (judged_at file h i)

    follows : Followed
    follows = flag_follows (flag_at y.sections i)

    read-now : Same base (section_layout f).length W (put_section new file y i (w3 new x file y l))
    unfolding summary_as summary_with header_at
    read-now = section-read new x file y l g.apart g.loader_apart g.within g.format g.long g.text_length g.data_length i b

    read-before : Same base (section_layout f).length file (w3 new x file y l)
    unfolding summary_as summary_with header_at
    read-before = section-before new x file y l g.apart g.loader_apart g.within g.format g.long g.text_length g.data_length i b

    put_is : put_section new file y i (w3 new x file y l) ≡ put_header new file f (flag_follows (flag_at y.sections i)) base (w3 new x file y l)
    unfolding put_section summary_as summary_with header_at
    put_is = refl

    length_before : length (w3 new x file y l) ≡ length file
    length_before = length3 new x file y l g.apart g.loader_apart g.within g.format g.long g.text_length g.data_length

    pub header-moved : section_header_at f base W ≡ moved_header new (flag_follows (flag_at y.sections i)) (section_header_at f base file)
    header-moved =
        section-same f base read-now
        ∙ ap (section_header_at f base) put_is
        ∙ section-put new file f (flag_follows (flag_at y.sections i)) base (w3 new x file y l) (rw length_before (section-room i b)) (fresh-flag (flag_at y.sections i)) read-before
        ∙ ap (λ (t : SectionHeader). moved_header new (flag_follows (flag_at y.sections i)) t) (sym (section-same f base read-before))

    flag_is : flag_at y.sections i ≡ flags_of s.kind
    flag_is = ap (λ (t : Section). flags_of t.kind) (record_of_lem f file g.reads i b)

    -- the one section of its kind is the part of the module
    part-is : (flag : ℕ) → flags_of s.kind ≡ flag → (tally_of y flag).count ≡ 1 → ((part_at y.sections (tally_of y flag).last).address.0 ≡ s.vaddr.0) × ((part_at y.sections (tally_of y flag).last).size ≡ s.size)
    part-is flag e one = part-at y.sections (tally_of y flag).last i s (tally-one y.sections flag y.count i one (rw (sections-count f file) b) (flag_is ∙ e)) (record_of_lem f file g.reads i b)

    fits : (k : SectionKind) → s.kind ≡ k → is_placed_kind k ≡ true → new (flag_follows (flags_of k)) s.vaddr.0 + s.size ≤ address_limit f
    unfolding flag_follows
    fits kind.Text e p =
        let q = part-is 0x0020 (ap flags_of e) g.ones.text in
        let v : new followed.Text (part_at y.sections (tally_of y 0x0020).last).address.0 + (part_at y.sections (tally_of y 0x0020).last).size ≤ address_limit f = unfold parts_of in g.moves.text-end in
        omega (arith, ap (new followed.Text) q.0, q.1)
    fits kind.Data e p =
        let q = part-is 0x0040 (ap flags_of e) g.ones.dat in
        let v : new followed.Data (part_at y.sections (tally_of y 0x0040).last).address.0 + image_length (parts_of y) ≤ address_limit f = unfold parts_of in g.moves.data-end in
        let u : (part_at y.sections (tally_of y 0x0040).last).size ≤ image_length (parts_of y) = unfold parts_of in g.holds in
        omega (arith, ap (new followed.Data) q.0, q.1)
    fits kind.Bss e p =
        let q = part-is 0x0080 (ap flags_of e) g.ones.bss in
        let v : new followed.Data (part_at y.sections (tally_of y 0x0080).last).address.0 + (part_at y.sections (tally_of y 0x0080).last).size ≤ address_limit f = unfold parts_of in g.moves.bss-end in
        omega (arith, ap (new followed.Data) q.0, q.1)
    fits kind.Deleted e p = no_true p
    fits kind.Pad e p = no_true p
    fits kind.Dwarf e p = no_true p
    fits kind.Except e p = no_true p
    fits kind.Info e p = no_true p
    fits kind.Tdata e p = no_true p
    fits kind.Tbss e p = no_true p
    fits kind.Loader e p = no_true p
    fits kind.Debug e p = no_true p
    fits kind.Typchk e p = no_true p
    fits kind.Ovrflo e p = no_true p

    pub judged-moved : judged_at W h i ≡ Ok (moved_section new s)
    judged-moved =
        judged-is f file W i
        ∙ ap (λ (n : ℕ). judge_section f n (section_header_at f base W) (record { 0 = i + 1 })) length-written
        ∙ ap (λ (t : SectionHeader). judge_section f (length file) t (record { 0 = i + 1 })) (header-moved ∙ ap (λ (n : ℕ). moved_header new (flag_follows n) (section_header_at f base file)) flag_is)
        ∙ judge-moved new f (length file) (record { 0 = i + 1 }) (section_header_at f base file) s (sym (judged-is f file file i) ∙ judged-found file h g.reads.sections i b) (λ p. fits s.kind refl p)

  -- ---- the whole file

  pub section-moved : (i : ℕ) → i < h.nscns → get_or (sections_of W h h.nscns) i blank_section ≡ moved_section new (get_or y.sections i blank_section)
  section-moved i b =
      section-record W h h.nscns i (header-complete f file g.reads.header).few b
      ∙ ap record_of (judged-moved i b)
      ∙ ap (moved_section new) (sym (record_of_lem f file g.reads i b))

  check-kept : header_check f W ≡ header_check f file
  unfolding header_check
  check-kept = rw (length-written, header-kept) refl

  strings-kept : (h.nsyms ≡ 0 → ⊥) → Same (symbols_end h) 4 W file
  strings-kept z =
      subst (λ (n : ℕ). Same n 4 W file) (strings-of f file z)
      (strings-read new x file y l g.apart g.loader_apart g.within g.format g.long g.text_length g.data_length (strings-size f file g.reads z))

  magic-kept : field_in magic_field 0 W ≡ field_in magic_field 0 file
  magic-kept = by-format f header-bytes
    where
      by-format : (f : Format) → Same 0 (header_layout f).length W file → field_in magic_field 0 W ≡ field_in magic_field 0 file
      by-format Xcoff32 e = same_number 2 0 (omega arith) (omega arith) e
      by-format Xcoff64 e = same_number 2 0 (omega arith) (omega arith) e

  -- a written file passes each check
  pub written-reads : Reads f W
  written-reads =
      let r = g.reads in
      record {
        small = rw length-written r.small;
        long = rw length-written r.long;
        magic = ap format_of magic-kept ∙ r.magic;
        header = check-kept ∙ r.header;
        sections = ap (sections_check W) header-kept ∙ all;
        symbols = ap (symbols_check W) header-kept ∙ symbols-same h W file length-written strings-kept ∙ r.symbols;
      }
    where
      all : sections_check W h ≡ Ok tt
      all = unfold sections_check in accept-all (λ i. verdict_of (judged_at W h i)) 0 h.nscns (λ i b. ap verdict_of (judged-moved i (omega arith)))

  summary-written : summary_as f W ≡ with_sections y (sections_of W h h.nscns)
  unfolding summary_as summary_with
  summary-written = rw (header-kept, table_same h W file length-written strings-kept) refl

  -- it opens to the first file's summary with the new addresses in its sections
  pub written-opens : open_of W ≡ record { verdict = Ok tt; summary = with_sections y (sections_of W h h.nscns) }
  written-opens = reads-opened f W written-reads ∙ ap (λ (t : Summary). record { verdict = Ok tt; summary = t }) summary-written
