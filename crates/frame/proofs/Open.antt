-- What an accepted file reads as, both ways; and files that open alike. Assumes nothing.
use mathlib.Core.Path.{◌≡◌, refl, sym, ◌∙◌, ap, subst}
use mathlib.Core.Bool.{Bool, true, false, ◌&&◌}
use mathlib.Core.List.{List}
use Prim.Native.Nat.{ℕ, zero, suc, ◌+◌, ◌≤◌, ◌<◌}
use native.Mathlib.Omega.{arith}
use lib.ListN.{length}
use lib.Dec.{ltb, leb, eqb}
use native.Mathlib.Decide.{ℕ_discrete}
use borrow.Author.Tests.{le-ltb, ltb-false, eq-eqb, ne_eqb, eqb-false, leb-true}
use Rattle.word.specs.Number.{field_at, field_in}
use Rattle.format.specs.declared.Format.{Format}
use Rattle.format.specs.declared.Format.TheVariants.{Xcoff32, Xcoff64}
use Rattle.format.specs.Layout.{magic_field, format_of, header_layout, section_layout}
use Rattle.format.specs.Limit.{file_limit}
use Rattle.refusal.specs.declared.Refusal.TheVariants as refusal
use Rattle.refusal.specs.declared.LimitItem.TheVariants.{File}
use Rattle.refusal.specs.Order.{◌or_else◌, refuse_if, first_of}
use Rattle.refusal.proofs.Order.{accepted-first, accepted-rest, accepted-test, not-accepted, first-all}
use Rattle.file_header.specs.declared.FileHeader.{FileHeader}
use Rattle.file_header.specs.Header.{header_at, header_check, section_start}
use Rattle.file_tables.specs.Tables.{judged_at, verdict_of, record_of, sections_check, sections_of, symbols_check, symbols_end, strings_check, strings_length, symbol_table}
use Rattle.header.specs.declared.Summary.{Summary}
use Rattle.header.specs.declared.Opened.{Opened}
use Rattle.header.specs.Open.{summary_with, format_check, magic_check, open_check, accepted_with, summary_as, open_of}
use Rattle.header.proofs.Accepted.{checks, small-file, magic-accepted}
use Rattle.visibility.specs.Visibility.{version_by, has_version2}
use Rattle.frame.specs.Same.{Same}
use Rattle.frame.proofs.Same.{same-within, same_number}
use Rattle.frame.proofs.Readers.{header-same, section-same, cond_same}
use Rattle.std.specs.Prelude.{Err, None, Ok, Option, Result, Some}
use Rattle.refusal.specs.declared.Refusal.{Refusal}
use Rattle.section.specs.declared.Section.{Section}
use Rattle.refusal.specs.Verdict.{Verdict}

-- ---- an accepted file, check by check

pub record Reads (f : Format) (file : List ℕ) : Type 0 where
  pub small : length file ≤ file_limit
  pub long : 2 ≤ length file
  pub magic : format_of (field_in magic_field 0 file) ≡ Some f
  pub header : header_check f file ≡ Ok tt
  pub sections : sections_check file (header_at f file) ≡ Ok tt
  pub symbols : symbols_check file (header_at f file) ≡ Ok tt

-- a file that passes each check opens to its summary
pub reads-opened : (f : Format) (file : List ℕ) → Reads f file → open_of file ≡ accepted_with (summary_as f file)
unfolding open_of open_check format_check
reads-opened f file r =
    rw (le-ltb file_limit (length file) r.small, le-ltb (length file) 2 r.long, r.magic, r.header, r.sections, r.symbols) refl

-- an accepted file passes each check
pub opened-reads : (file : List ℕ) → (open_of file).verdict ≡ Ok tt → (f : Format) × Reads f file
opened-reads file e = by-magic (format_of (field_in magic_field 0 file)) refl (magic-accepted file e)
  where
    long : 2 ≤ length file
    long =
        ltb-false (length file) 2
        (accepted-test (ltb (length file) 2) refusal.Short (accepted-first (refuse_if (ltb (length file) 2) refusal.Short) _ (accepted-rest (refuse_if (ltb file_limit (length file)) (refusal.Limit File)) _ (checks file e))))

    by-magic : (a : Option Format) → format_of (field_in magic_field 0 file) ≡ a → magic_check file a ≡ Ok tt → (f : Format) × Reads f file
    by-magic None q k = not-accepted k
    by-magic (Some f) q k =
        let h = header_at f file in
        let c : (header_check f file or_else sections_check file h or_else symbols_check file h) ≡ (Ok tt) = unfold format_check in k in
        let r = accepted-rest (header_check f file) _ c in (
          f,
          record {
            small = small-file file e;
            long = long;
            magic = q;
            header = accepted-first (header_check f file) _ c;
            sections = accepted-first (sections_check file h) _ r;
            symbols = accepted-rest (sections_check file h) _ r;
          },
        )

-- ---- files that agree on the header area and on the string table's length

-- two functions that agree on the first places
pub first-same : (f g : ℕ → Verdict) (i n : ℕ) → ((k : ℕ) → k < i + n → f k ≡ g k) → first_of f i n ≡ first_of g i n
unfolding first_of
first-same f g i zero h = refl
first-same f g i (suc n) h =
    rw (h i (omega arith), first-same f g (suc i) n (λ k b. h k (omega arith))) refl

-- a header area starts with the file header, and holds each section header
header-short : (f : Format) (opthdr n : ℕ) → (header_layout f).length ≤ section_start f opthdr n
unfolding section_start
header-short f opthdr n = omega arith

pub section-in-area : (f : Format) (opthdr n i : ℕ) → i < n → section_start f opthdr i + (section_layout f).length ≤ section_start f opthdr n
unfolding section_start
section-in-area Xcoff32 opthdr n i h = omega arith
section-in-area Xcoff64 opthdr n i h = omega arith

magic-in : (f : Format) (opthdr n : ℕ) → 2 ≤ section_start f opthdr n
unfolding section_start
magic-in Xcoff32 opthdr n = omega arith
magic-in Xcoff64 opthdr n = omega arith

-- ---- symbols and strings: the four length bytes, where there are symbols

module _ (h : FileHeader) (xs ys : List ℕ) (l : length xs ≡ length ys) (strings : (h.nsyms ≡ 0 → ⊥) → Same (symbols_end h) 4 xs ys) where
  length-same : eqb h.nsyms 0 ≡ false → field_at 4 (symbols_end h) xs ≡ field_at 4 (symbols_end h) ys
  length-same z = same_number 4 (symbols_end h) (omega arith) (omega arith) (strings (eqb-false h.nsyms 0 z))

  pub symbols-same : symbols_check xs h ≡ symbols_check ys h
  unfolding symbols_check strings_check
  symbols-same = cond_same (eqb h.nsyms 0) (λ _. refl) (λ z. rw (l, length-same z) refl)

  pub table_same : symbol_table xs h ≡ symbol_table ys h
  unfolding symbol_table strings_length
  table_same = cond_same (eqb h.nsyms 0) (λ _. refl) (λ z. rw (l, length-same z) refl)

module _ (f : Format) (xs ys : List ℕ) (l : length xs ≡ length ys)
    (area : Same 0 (section_start f (header_at f xs).opthdr (header_at f xs).nscns) xs ys) (strings : ((header_at f xs).nsyms ≡ 0 → ⊥) → Same (symbols_end (header_at f xs)) 4 xs ys) where
  abbrev h : FileHeader
  h = header_at f xs

  header-alike : header_at f xs ≡ header_at f ys
  header-alike = header-same f (same-within 0 (header_layout f).length (omega arith) (omega (arith, header-short f h.opthdr h.nscns)) area)

  judged-alike : (i : ℕ) → i < h.nscns → judged_at xs h i ≡ judged_at ys h i
  unfolding judged_at header_at
  judged-alike i b =
      rw (l, section-same f (section_start f h.opthdr i) (same-within (section_start f h.opthdr i) (section_layout f).length (omega arith) (omega (arith, section-in-area f h.opthdr h.nscns i b)) area)) refl

  sections-alike : (n : ℕ) → n ≤ h.nscns → sections_of xs h n ≡ sections_of ys h n
  unfolding sections_of
  sections-alike zero b = refl
  sections-alike (suc i) b = rw (sections-alike i (omega arith), judged-alike i (omega arith)) refl

  checks-alike : sections_check xs h ≡ sections_check ys h
  unfolding sections_check
  checks-alike = first-same (λ i. verdict_of (judged_at xs h i)) (λ i. verdict_of (judged_at ys h i)) 0 h.nscns (λ k b. ap verdict_of (judged-alike k (omega arith)))

  -- a file with the magic number of f that passes each check, and one that agrees with it
  pub reads_same : Reads f xs → format_of (field_in magic_field 0 ys) ≡ Some f → Reads f ys
  unfolding header_check
  reads_same r m =
      record {
        small = rw l at r.small;
        long = rw l at r.long;
        magic = m;
        header = rw (header-alike, l) at r.header;
        sections = subst (λ (t : FileHeader). sections_check ys t ≡ Ok tt) header-alike (sym checks-alike ∙ r.sections);
        symbols = subst (λ (t : FileHeader). symbols_check ys t ≡ Ok tt) header-alike (sym (symbols-same h xs ys l strings) ∙ r.symbols);
      }

  pub summary-same : summary_as f xs ≡ summary_as f ys
  unfolding summary_as summary_with
  summary-same = rw (← header-alike, sections-alike h.nscns (omega arith), table_same h xs ys l strings) refl

pub magic-same : (f : Format) (opthdr n : ℕ) {xs ys : List ℕ} → Same 0 (section_start f opthdr n) xs ys → field_in magic_field 0 xs ≡ field_in magic_field 0 ys
magic-same f opthdr n e = same_number 2 0 (omega arith) (omega (arith, magic-in f opthdr n)) e

-- of an opened file: the area of its headers
abbrev pub header_length : Summary → ℕ
header_length y = section_start y.format y.opthdr y.count

-- the auxiliary version of two files that agree on the header area
and_same : (a : Bool) {b c : Bool} → (a ≡ true → b ≡ c) → (a && b) ≡ (a && c)
and_same true h = h refl
and_same false h = refl

version-by : (f : Format) (opthdr n : ℕ) {xs ys : List ℕ} → Same 0 (section_start f opthdr n) xs ys → version_by f xs opthdr ≡ version_by f ys opthdr
unfolding section_start
version-by Xcoff32 opthdr n e =
    and_same (leb 4 opthdr) (λ h. let k = leb-true 4 opthdr h in ap (λ (v : ℕ). eqb v 2) (same_number 2 22 (omega arith) (omega arith) e))
version-by Xcoff64 opthdr n e = refl

pub version-same : (y : Summary) {xs ys : List ℕ} → Same 0 (header_length y) xs ys → has_version2 xs y ≡ has_version2 ys y
unfolding has_version2
version-same y e = version-by y.format y.opthdr y.count e

-- a summary in terms of the header
pub area_of : (f : Format) (file : List ℕ) → header_length (summary_as f file) ≡ section_start f (header_at f file).opthdr (header_at f file).nscns
unfolding summary_as summary_with header_at
area_of f file = refl

pub count_of : (f : Format) (file : List ℕ) → Dec ((header_at f file).nsyms ≡ 0) → (summary_as f file).symbols.count ≡ (header_at f file).nsyms
unfolding summary_as summary_with symbol_table
count_of f file (yes z) = rw (eq-eqb (header_at f file).nsyms 0 z) (sym z)
count_of f file (no z) = rw (ne_eqb (header_at f file).nsyms 0 z) refl

pub strings-of : (f : Format) (file : List ℕ) → ((header_at f file).nsyms ≡ 0 → ⊥) → (summary_as f file).symbols.strings.start.0 ≡ symbols_end (header_at f file)
unfolding summary_as summary_with symbol_table
strings-of f file z = rw (ne_eqb (header_at f file).nsyms 0 z) refl

-- files of one length that agree on the header area and, where there are symbols, on the string table's four length bytes open to the same answer
pub open-same : (xs ys : List ℕ) → length xs ≡ length ys → (open_of xs).verdict ≡ Ok tt → Same 0 (header_length (open_of xs).summary) xs ys
    → (((open_of xs).summary.symbols.count ≡ 0 → ⊥) → Same (open_of xs).summary.symbols.strings.start.0 4 xs ys) → open_of xs ≡ open_of ys
open-same xs ys l e area strings = by-format (opened-reads xs e).0 (opened-reads xs e).1
  where
    by-format : (f : Format) → Reads f xs → open_of xs ≡ open_of ys
    by-format f r =
        let h = header_at f xs in
        let q : (open_of xs).summary ≡ summary_as f xs = ap (λ (o : Opened). o.summary) (reads-opened f xs r) in
        let a : Same 0 (section_start f h.opthdr h.nscns) xs ys = rw (q, area_of f xs) at area in
        let n : (open_of xs).summary.symbols.count ≡ h.nsyms = rw q (count_of f xs (ℕ_discrete h.nsyms 0)) in
        let s : (h.nsyms ≡ 0 → ⊥) → Same (symbols_end h) 4 xs ys = λ z. rw (q, strings-of f xs z) at (strings (λ c. z (sym n ∙ c))) in
        let m : format_of (field_in magic_field 0 ys) ≡ Some f = ap format_of (sym (magic-same f h.opthdr h.nscns a)) ∙ r.magic in
        reads-opened f xs r ∙ ap accepted_with (summary-same f xs ys l a s) ∙ sym (reads-opened f ys (reads_same f xs ys l a s r m))

-- ---- the section records of an accepted file

-- where each check accepts, so do all
pub accept-all : (f : ℕ → Verdict) (i n : ℕ) → ((k : ℕ) → k < i + n → f k ≡ Ok tt) → first_of f i n ≡ Ok tt
unfolding first_of
accept-all f i zero h = refl
accept-all f i (suc n) h = rw (h i (omega arith)) (accept-all f (suc i) n (λ k b. h k (omega arith)))

answer-found : (a : Result Section Refusal) → verdict_of a ≡ Ok tt → a ≡ Ok (record_of a)
answer-found (Ok s) e = refl
answer-found (Err x) e = not-accepted e

pub judged-found : (file : List ℕ) (h : FileHeader) → sections_check file h ≡ Ok tt → (i : ℕ) → i < h.nscns → judged_at file h i ≡ Ok (record_of (judged_at file h i))
unfolding sections_check
judged-found file h e i b = answer-found (judged_at file h i) (first-all (λ j. verdict_of (judged_at file h j)) h.nscns 0 e i (omega arith) (omega arith))
