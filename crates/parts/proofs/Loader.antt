-- The loader section that parts find starts where offsets find it. Assumes nothing.
use Prim.Native.Nat.{ℕ, zero, suc, ◌+◌, ◌-◌, ◌≤◌, ◌<◌}
use mathlib.Core.Path.{◌≡◌, refl, ◌∙◌, ap}
use mathlib.Core.Bool.{Bool, true, false, cond}
use mathlib.Core.List.{List}
use native.Mathlib.Omega.{arith}
use native.Mathlib.Decide.{ℕ_discrete}
use borrow.Author.Tests.{eqb-true, ne_eqb}
use lib.Dec.{eqb}
use lib.ListN.{length, get_or}
use Rattle.word.proofs.Test.{either}
use Rattle.section_kind.specs.declared.SectionKind.{SectionKind}
use Rattle.section_kind.specs.declared.SectionKind.TheVariants.{Loader}
use Rattle.section_kind.specs.Kind.{flags_of, kind_of}
use Rattle.section_kind.proofs.List.{loader-flags}
use Rattle.format.specs.declared.FileOffset.{FileOffset}
use Rattle.format.specs.declared.Format.{Format}
use Rattle.format.specs.declared.SectionNumber.{SectionNumber}
use Rattle.refusal.proofs.Order.{not-accepted}
use Rattle.section.specs.declared.Section.{Section}
use Rattle.section.specs.declared.SectionHeader.{SectionHeader}
use Rattle.section.specs.Section.{section_header_at, has_raw_data, raw_data_past, misplaced, section_of, judge_kind, judge_section}
use Rattle.file_header.specs.declared.FileHeader.{FileHeader}
use Rattle.file_header.specs.Header.{header_at, section_start}
use Rattle.file_tables.specs.Tables.{blank_section, judged_at, verdict_of, record_of}
use Rattle.offset.specs.Offset.{loader_in}
use Rattle.offset.specs.Named.{loader_start}
use Rattle.header.specs.Open.{open_of}
use Rattle.header.proofs.Accepted.{opened_inside}
use Rattle.header.proofs.Named.{Opens, count-is, section-accepted, section-is}
use Rattle.parts.proofs.Tallied.{tally-few}
use Rattle.parts.specs.Sections.{flag_at, tally, tally_of, part_at}
use Rattle.std.specs.Prelude.{Err, None, Ok, Option, Result, Some}
use Rattle.refusal.specs.declared.Refusal.{Refusal}

-- what an accepted section's record keeps of its header
abbrev Kept : SectionHeader → Result Section Refusal → Type 0
Kept s (Ok r) = (r.scnptr ≡ s.scnptr) × ((eqb (flags_of r.kind) (flags_of Loader) ≡ eqb s.flags (flags_of Loader)) × (r.raw ≡ has_raw_data r.kind s))
Kept s (Err x) = Unit {0}

kept-kind : (f : Format) (len : ℕ) (s : SectionHeader) (n : SectionNumber) (a : Option SectionKind) → kind_of s.flags ≡ a → Kept s (judge_kind f len s n a)
unfolding judge_kind section_of
kept-kind f len s n None e = tt
kept-kind f len s n (Some k) e =
    either (Kept s) (raw_data_past k len s) (λ _. tt) (λ _. either (Kept s) (misplaced f k s) (λ _. tt) (λ _. (refl, (loader-flags s.flags k e, refl))))

kept-found : (s : SectionHeader) (a : Result Section Refusal) → Kept s a → verdict_of a ≡ Ok tt → Kept s (Ok (record_of a))
kept-found s (Ok r) k e = k
kept-found s (Err x) k e = not-accepted e

-- a section with the loader's flag and a pointer has raw data
has-raw : (k : SectionKind) (s : SectionHeader) → flags_of k ≡ flags_of Loader → (s.scnptr.0 ≡ 0 → ⊥) → has_raw_data k s ≡ true
unfolding has_raw_data
has-raw k s e n = rw (e, ne_eqb s.scnptr.0 0 n) refl

-- where a section with this number starts; 0 where there is none
abbrev start_of : List Section → ℕ → ℕ
start_of sections last = cond (eqb last 0) 0 (get_or sections (last - 1) blank_section).scnptr.0

module _ (file : List ℕ) (o : Opens file) where
  abbrev h : FileHeader
  h = header_at o.format file

  abbrev sections : List Section
  sections = (open_of file).summary.sections

  abbrev s : ℕ → SectionHeader
  s i = section_header_at h.format (section_start h.format h.opthdr i) file

  kept : (i : ℕ) → i < h.nscns → Kept (s i) (Ok (get_or sections i blank_section))
  unfolding judged_at judge_section
  kept i p =
      rw (section-is file o i p)
      (kept-found (s i) (judged_at file h i) (kept-kind h.format (length file) (s i) (record { 0 = i + 1 }) (kind_of (s i).flags) refl) (section-accepted file o i p))

  starts-alike : (n : ℕ) → n ≤ h.nscns → loader_in file h n ≡ start_of sections (tally sections (flags_of Loader) n).last
  unfolding loader_in tally
  starts-alike zero l = refl
  starts-alike (suc i) l = let k = kept i (omega arith) in rw k.1.0 (by (eqb (s i).flags (flags_of Loader)) k.0 (starts-alike i (omega arith)))
    where
      by : (b : Bool) → (get_or sections i blank_section).scnptr ≡ (s i).scnptr → loader_in file h i ≡ start_of sections (tally sections (flags_of Loader) i).last
          → cond b (s i).scnptr.0 (loader_in file h i) ≡ start_of sections (cond b (record { count = (tally sections (flags_of Loader) i).count + 1; last = i + 1 }) (tally sections (flags_of Loader) i)).last
      by true k r = let e : i + 1 - 1 ≡ i = omega arith in rw (ne_eqb (i + 1) 0 (λ z. omega arith), e, k) refl
      by false k r = r

  -- the last section of a kind has its flag
  last-flag : (flag n : ℕ) → 0 < (tally sections flag n).last → flag_at sections ((tally sections flag n).last - 1) ≡ flag
  unfolding tally
  last-flag flag zero l = absurd (omega arith)
  last-flag flag (suc i) l = by (eqb (flag_at sections i) flag) refl (last-flag flag i) l
    where
      by : (b : Bool) → eqb (flag_at sections i) flag ≡ b → (0 < (tally sections flag i).last → flag_at sections ((tally sections flag i).last - 1) ≡ flag)
          → 0 < (cond b (record { count = (tally sections flag i).count + 1; last = i + 1 }) (tally sections flag i)).last
          → flag_at sections ((cond b (record { count = (tally sections flag i).count + 1; last = i + 1 }) (tally sections flag i)).last - 1) ≡ flag
      by true e r q = let z : i + 1 - 1 ≡ i = omega arith in rw z (eqb-true (flag_at sections i) flag e)
      by false e r q = r q

  -- a loader section starts in the file or at its end: with raw data it is in the file, without it starts at 0
  start-inside : (i : ℕ) → i < h.nscns → flag_at sections i ≡ flags_of Loader → (get_or sections i blank_section).scnptr.0 ≤ length file
  start-inside i p e = by (ℕ_discrete (get_or sections i blank_section).scnptr.0 0)
    where
      k : Kept (s i) (Ok (get_or sections i blank_section))
      k = kept i p

      by : Dec ((get_or sections i blank_section).scnptr.0 ≡ 0) → (get_or sections i blank_section).scnptr.0 ≤ length file
      by (yes z) = omega arith
      by (no n) =
          let w = (opened_inside file o.accepted).sections i (rw (count-is file o) p) in
          let raw : (get_or sections i blank_section).raw ≡ true = k.1.1 ∙ has-raw (get_or sections i blank_section).kind (s i) e (λ z. n (ap (λ (x : FileOffset). x.0) k.0 ∙ z)) in
          let q = w.data-in raw in omega arith

  abbrev last : ℕ
  last = (tally sections (flags_of Loader) h.nscns).last

  last-there : 0 < last → (loader_start file h ≡ (get_or sections (last - 1) blank_section).scnptr.0) × (loader_start file h ≤ length file)
  last-there l =
      let some : start_of sections last ≡ (get_or sections (last - 1) blank_section).scnptr.0 = rw (ne_eqb last 0 (λ z. omega arith)) refl in
      let e = starts-alike h.nscns (omega arith) ∙ some in
      let few = (tally-few sections (flags_of Loader) h.nscns).1 in
      (e, rw e (start-inside (last - 1) (omega arith) (last-flag (flags_of Loader) h.nscns l)))

  -- the loader section, where there is one
  pub loader-there : 0 < (tally_of (open_of file).summary (flags_of Loader)).last
      → (loader_start file h ≡ (part_at sections (tally_of (open_of file).summary (flags_of Loader)).last).start.0) × (loader_start file h ≤ length file)
  unfolding part_at
  loader-there l = let c = count-is file o in rw c (last-there (rw c at l))
