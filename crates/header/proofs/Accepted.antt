-- What an accepted file guarantees, for the crates above. Assumes nothing.
use Prim.Native.Nat.{ℕ, zero, suc, ◌+◌, ◌*◌, ◌≤◌, ◌<◌}
use mathlib.Core.Path.{◌≡◌, refl, ◌∙◌}
use mathlib.Core.List.{List}
use native.Mathlib.Decide.{ℕ_discrete}
use native.Mathlib.Omega.{arith}
use lib.Dec.{ltb}
use lib.ListN.{length, get_or, set, length-set, length-replicate}
use lib.Seq.{get_or-set_same, get_or-set_other}
use borrow.Author.Tests.{ltb-false, eq-eqb, ne_eqb}
use Rattle.word.specs.Number.{field_in}
use Rattle.format.specs.declared.Format.{Format}
use Rattle.format.specs.Layout.{magic_field, format_of, symbol_length}
use Rattle.format.specs.Limit.{file_limit, section_limit}
use Rattle.refusal.specs.declared.Refusal.TheVariants.{Short, Limit}
use Rattle.refusal.specs.declared.LimitItem.TheVariants.{File}
use Rattle.refusal.specs.Order.{◌or_else◌, refuse_if, by_verdict}
use Rattle.refusal.proofs.Order.{not-accepted, accepted-first, accepted-rest, accepted-test, first-all}
use Rattle.section.specs.Section.{section_header_at, SectionWithin}
use Rattle.section.proofs.Judged.{Judged, section-judged}
use Rattle.file_header.specs.declared.FileHeader.{FileHeader}
use Rattle.header.specs.declared.Summary.{Summary}
use Rattle.file_header.specs.Header.{header_at, section_start, header_check}
use Rattle.file_header.proofs.Checked.{few, header-complete}
use Rattle.file_tables.specs.Tables.{blank_section, blank_sections, judged_at, verdict_of, record_of, sections_check, sections_of, symbols_check, symbol_table}
use Rattle.header.specs.Inside.{Inside}
use Rattle.header.specs.Open.{summary_with, format_check, magic_check, open_check, refused_by, accepted_with, summary_as, summary_by, open_of}
use Rattle.file_tables.proofs.Symbols.{symbols-inside, strings-inside}
use Rattle.std.specs.Prelude.{Err, None, Ok, Option, Result, Some}
use Rattle.refusal.specs.declared.Refusal.{Refusal}
use Rattle.section.specs.declared.Section.{Section}
use Rattle.refusal.specs.Verdict.{Verdict}

-- ---- the sections

-- each record stands at its place
length-sections : (file : List ℕ) (h : FileHeader) (n : ℕ) → length (sections_of file h n) ≡ section_limit
unfolding sections_of blank_sections
length-sections file h zero = length-replicate 32 blank_section
length-sections file h (suc n) = length-set (sections_of file h n) n (record_of (judged_at file h n)) ∙ length-sections file h n

pub section-record : (file : List ℕ) (h : FileHeader) (n i : ℕ) → n ≤ section_limit → i < n → get_or (sections_of file h n) i blank_section ≡ record_of (judged_at file h i)
unfolding sections_of
section-record file h zero i l k = absurd (omega arith)
section-record file h (suc n) i l k = by_place (section-record file h n i (omega arith)) (ℕ_discrete i n)
  where
    by_place : (i < n → get_or (sections_of file h n) i blank_section ≡ record_of (judged_at file h i)) → Dec (i ≡ n) → get_or (set (sections_of file h n) n (record_of (judged_at file h n))) i blank_section ≡ record_of (judged_at file h i)
    by_place before (yes p) = rw p (get_or-set_same (sections_of file h n) n (record_of (judged_at file h n)) blank_section (rw (length-sections file h n) l))
    by_place before (no p) = get_or-set_other (sections_of file h n) n i (record_of (judged_at file h n)) blank_section p ∙ before (omega arith)

-- an accepted section is inside the file and the address space
found_inside : (f : Format) (len : ℕ) (a : Result Section Refusal) → Judged f len a → verdict_of a ≡ Ok tt → SectionWithin f len (record_of a)
found_inside f len (Ok s) j e = j
found_inside f len (Err x) j e = not-accepted e

judged-inside : (file : List ℕ) (h : FileHeader) (i : ℕ) → verdict_of (judged_at file h i) ≡ Ok tt → SectionWithin h.format (length file) (record_of (judged_at file h i))
unfolding judged_at
judged-inside file h i e =
    found_inside h.format (length file) (judged_at file h i) (section-judged h.format (length file) (section_header_at h.format (section_start h.format h.opthdr i) file) (record { 0 = i + 1 })) e

-- ---- the whole file

module _ (file : List ℕ) (h : FileHeader) (e : symbols_check file h ≡ Ok tt) where
  symbols-in : Dec (h.nsyms ≡ 0) → (symbol_table file h).start.0 + (symbol_table file h).count * symbol_length ≤ length file
  unfolding symbol_table
  symbols-in (yes z) = rw (eq-eqb h.nsyms 0 z) (omega arith)
  symbols-in (no n) = rw (ne_eqb h.nsyms 0 n) (symbols-inside file h e n)

  strings-in : Dec (h.nsyms ≡ 0) → (symbol_table file h).strings.start.0 + (symbol_table file h).strings.length ≤ length file
  unfolding symbol_table
  strings-in (yes z) = rw (eq-eqb h.nsyms 0 z) (omega arith)
  strings-in (no n) = rw (ne_eqb h.nsyms 0 n) (strings-inside file h e n)

-- the checks that are passed give it
checked-inside : (f : Format) (file : List ℕ) → length file ≤ file_limit → header_check f file ≡ Ok tt → sections_check file (header_at f file) ≡ Ok tt → symbols_check file (header_at f file) ≡ Ok tt
    → Inside file (summary_with file (header_at f file) (sections_of file (header_at f file) (header_at f file).nscns))
unfolding summary_with sections_check
checked-inside f file l e k m =
    let h = header_at f file in
    record {
      small = l;
      few = few f file e;
      headers = (header-complete f file e).inside;
      symbols = symbols-in file h m (ℕ_discrete h.nsyms 0);
      strings = strings-in file h m (ℕ_discrete h.nsyms 0);
      sections = λ i p. rw (section-record file h h.nscns i (few f file e) p)
          (judged-inside file h i (first-all (λ j. verdict_of (judged_at file h j)) h.nscns 0 k i (omega arith) (omega arith)));
    }

-- what opening says is what the order of its checks gives
opened-by : (v : Verdict) (y : Summary) → (by_verdict v (accepted_with y) refused_by).verdict ≡ v
opened-by (Ok tt) y = refl
opened-by (Err x) y = refl

pub open-verdict : (file : List ℕ) → (open_of file).verdict ≡ open_check file
unfolding open_of
open-verdict file = opened-by (open_check file) (summary_by file (format_of (field_in magic_field 0 file)))

module _ (file : List ℕ) (e : (open_of file).verdict ≡ Ok tt) where
  accepted-check : open_check file ≡ Ok tt
  accepted-check = rw (open-verdict file) at e

  pub checks : (refuse_if (ltb file_limit (length file)) (Limit File) or_else refuse_if (ltb (length file) 2) Short or_else magic_check file (format_of (field_in magic_field 0 file))) ≡ Ok tt
  unfolding open_check
  checks = accepted-check

  pub small-file : length file ≤ file_limit
  small-file =
      ltb-false file_limit (length file)
      (accepted-test (ltb file_limit (length file)) (Limit File) (accepted-first (refuse_if (ltb file_limit (length file)) (Limit File)) _ checks))

  pub magic-accepted : magic_check file (format_of (field_in magic_field 0 file)) ≡ Ok tt
  magic-accepted = accepted-rest (refuse_if (ltb (length file) 2) Short) _ (accepted-rest (refuse_if (ltb file_limit (length file)) (Limit File)) _ checks)

  by-format : (a : Option Format) → magic_check file a ≡ Ok tt → Inside file (summary_by file a)
  unfolding format_check summary_as
  by-format None k = not-accepted k
  by-format (Some f) k =
      let h = header_at f file in
      let r = accepted-rest (header_check f file) _ k in
      checked-inside f file small-file (accepted-first (header_check f file) _ k) (accepted-first (sections_check file h) _ r) (accepted-rest (sections_check file h) _ r)

  -- an accepted file is inside its bounds
  pub opened_inside : Inside file (open_of file).summary
  unfolding open_of
  opened_inside = rw accepted-check (by-format (format_of (field_in magic_field 0 file)) magic-accepted)
