-- Sections with new addresses are judged as before. Assumes nothing.
use mathlib.Core.Path.{◌≡◌, refl, sym, ◌∙◌, ap, subst}
use mathlib.Core.Bool.{Bool, true, false, not, cond, ◌&&◌, ◌||◌}
use mathlib.Core.List.{List}
use Prim.Native.Nat.{ℕ, zero, suc, ◌+◌, ◌-◌, ◌≤◌, ◌<◌}
use native.Mathlib.Decide.{ℕ_discrete}
use native.Mathlib.Omega.{arith}
use lib.Dec.{eqb}
use borrow.Author.Tests.{eq-eqb, eqb-true, eqb-false, not-false}
use Rattle.word.specs.Test.{past}
use Rattle.word.proofs.Test.{or-first, past-no}
use Rattle.format.specs.declared.Format.{Format}
use Rattle.section_kind.specs.declared.SectionKind.{SectionKind}
use Rattle.format.specs.declared.SectionNumber.{SectionNumber}
use Rattle.section_kind.specs.Kind.{kind_of, flags_of, is_placed_kind}
use Rattle.format.specs.Layout.{address_limit}
use Rattle.refusal.specs.declared.Refusal.TheVariants as refusal
use Rattle.refusal.specs.declared.BoundsItem.TheVariants.{RawData}
use Rattle.refusal.specs.declared.AddressItem.TheVariants.{Misplaced}
use Rattle.section.specs.declared.SectionHeader.{SectionHeader}
use Rattle.section.specs.declared.Section.{Section}
use Rattle.section.specs.Section.{has_raw_data, raw_data_past, misplaced, section_of, judge_kind, judge_section}
use Rattle.parts.specs.Sections.{flag_at, tally}
use Rattle.history.specs.declared.Followed.{Followed}
use Rattle.written.specs.Written.{flag_follows}
use Rattle.written.specs.Moved.{moved_header, moved_section}
use Rattle.std.specs.Prelude.{Err, None, Ok, Option, Some}

-- ---- one section

module _ (g : ℕ → ℕ) where
  -- of a placed section both addresses are equal and it ends in the address space; so it is where both are changed alike and it still ends there
  placed-moved : (b : Bool) (v p size limit : ℕ) → (b && (not (eqb v p) || past v size limit)) ≡ false → (b ≡ true → g v + size ≤ limit)
      → (b && (not (eqb (g v) (g p)) || past (g v) size limit)) ≡ false
  placed-moved false v p size limit e h = refl
  placed-moved true v p size limit e h =
      let q : v ≡ p = eqb-true v p (not-false (eqb v p) (or-first (not (eqb v p)) (past v size limit) e)) in
      rw (eq-eqb (g v) (g p) (ap g q), past-no (g v) size limit (h refl)) refl

module _ (new : Followed → ℕ → ℕ) (f : Format) (len : ℕ) (n : SectionNumber) where
  abbrev header_of : SectionKind → SectionHeader → SectionHeader
  header_of k h = moved_header new (flag_follows (flags_of k)) h

  misplaced-moved : (k : SectionKind) (h : SectionHeader) → misplaced f k h ≡ false
      → (is_placed_kind k ≡ true → new (flag_follows (flags_of k)) h.vaddr.0 + h.size ≤ address_limit f) → misplaced f k (header_of k h) ≡ false
  unfolding misplaced
  misplaced-moved k h e fits = placed-moved (new (flag_follows (flags_of k))) (is_placed_kind k) h.vaddr.0 h.paddr.0 h.size (address_limit f) e fits

  raw-moved : (k : SectionKind) (h : SectionHeader) → raw_data_past k len (header_of k h) ≡ raw_data_past k len h
  unfolding raw_data_past has_raw_data
  raw-moved k h = refl

  section-moved : (k : SectionKind) (h : SectionHeader) → section_of k (header_of k h) ≡ moved_section new (section_of k h)
  unfolding section_of has_raw_data
  section-moved k h = refl

  judged-here : (k : SectionKind) (h : SectionHeader) → raw_data_past k len h ≡ false → misplaced f k h ≡ false → kind_of h.flags ≡ Some k
      → (is_placed_kind k ≡ true → new (flag_follows (flags_of k)) h.vaddr.0 + h.size ≤ address_limit f)
      → judge_section f len (header_of (section_of k h).kind h) n ≡ Ok (moved_section new (section_of k h))
  unfolding judge_section judge_kind section_of
  judged-here k h ea eb ek fits = rw (ek, raw-moved k h, ea, misplaced-moved k h eb fits, section-moved k h) refl

  abbrev Moved : SectionHeader → Section → Type 0
  Moved h s = judge_section f len (header_of s.kind h) n ≡ Ok (moved_section new s)

  abbrev Fits : Section → Type 0
  Fits s = is_placed_kind s.kind ≡ true → new (flag_follows (flags_of s.kind)) s.vaddr.0 + s.size ≤ address_limit f

  fits-here : (k : SectionKind) (h : SectionHeader) → Fits (section_of k h) → is_placed_kind k ≡ true → new (flag_follows (flags_of k)) h.vaddr.0 + h.size ≤ address_limit f
  unfolding section_of
  fits-here k h g = g

  by_tests : (k : SectionKind) (h : SectionHeader) (a b : Bool) (s : Section) → raw_data_past k len h ≡ a → misplaced f k h ≡ b
      → cond a (Err (refusal.Bounds (RawData n))) (cond b (Err (refusal.Address (Misplaced n))) (Ok (section_of k h))) ≡ Ok s
      → Fits s → kind_of h.flags ≡ Some k → Moved h s
  by_tests k h true b s ea eb q fits ek = cc
  by_tests k h false true s ea eb q fits ek = cc
  by_tests k h false false s ea eb q fits ek =
      let z : section_of k h ≡ s = cc in
      subst (λ (t : Section). Moved h t) z (judged-here k h ea eb ek (fits-here k h (subst (λ (t : Section). Fits t) (sym z) fits)))

  by_kind : (h : SectionHeader) (s : Section) (a : Option SectionKind) → kind_of h.flags ≡ a → judge_kind f len h n a ≡ Ok s → Fits s → Moved h s
  unfolding judge_kind
  by_kind h s None ek q fits = cc
  by_kind h s (Some k) ek q fits = by_tests k h (raw_data_past k len h) (misplaced f k h) s refl refl q fits ek

  -- a section that is accepted is accepted with its new addresses
  pub judge-moved : (h : SectionHeader) (s : Section) → judge_section f len h n ≡ Ok s → Fits s → Moved h s
  judge-moved h s q fits = by_kind h s (kind_of h.flags) refl (unfold judge_section in q) fits

-- ---- which section is which

module _ (ss ts : List Section) (flag : ℕ) where
  pub tally-same : (n : ℕ) → ((i : ℕ) → i < n → flag_at ss i ≡ flag_at ts i) → tally ss flag n ≡ tally ts flag n
  unfolding tally
  tally-same zero h = refl
  tally-same (suc i) h = rw (h i (omega arith), tally-same i (λ j b. h j (omega arith))) refl

module _ (ss : List Section) (flag : ℕ) where
  -- the last that is counted is of the kind
  pub tally-here : (n : ℕ) → 0 < (tally ss flag n).count → flag_at ss ((tally ss flag n).last - 1) ≡ flag
  unfolding tally
  tally-here zero h = absurd (omega arith)
  tally-here (suc i) h = by-test (eqb (flag_at ss i) flag) refl (tally-here i) h
    where
      by-test : (b : Bool) → eqb (flag_at ss i) flag ≡ b → (0 < (tally ss flag i).count → flag_at ss ((tally ss flag i).last - 1) ≡ flag)
          → 0 < (cond b (record { count = (tally ss flag i).count + 1; last = i + 1 }) (tally ss flag i)).count
          → flag_at ss ((cond b (record { count = (tally ss flag i).count + 1; last = i + 1 }) (tally ss flag i)).last - 1) ≡ flag
      by-test true e k h = let q : i + 1 - 1 ≡ i = omega arith in rw q (eqb-true (flag_at ss i) flag e)
      by-test false e k h = k h

  tally-none : (n i : ℕ) → (tally ss flag n).count ≡ 0 → i < n → flag_at ss i ≡ flag → ⊥
  unfolding tally
  tally-none zero i z b e = omega arith
  tally-none (suc n) i z b e = by-test (eqb (flag_at ss n) flag) refl (tally-none n i) (ℕ_discrete i n) z
    where
      by-test : (t : Bool) → eqb (flag_at ss n) flag ≡ t → ((tally ss flag n).count ≡ 0 → i < n → flag_at ss i ≡ flag → ⊥) → Dec (i ≡ n)
          → (cond t (record { count = (tally ss flag n).count + 1; last = n + 1 }) (tally ss flag n)).count ≡ 0 → ⊥
      by-test true q k d z = omega arith
      by-test false q k (yes p) z = eqb-false (flag_at ss n) flag q (ap (λ (j : ℕ). flag_at ss j) (sym p) ∙ e)
      by-test false q k (no p) z = k z (omega arith) e

  -- where one is counted, it is the only one of the kind
  pub tally-one : (n i : ℕ) → (tally ss flag n).count ≡ 1 → i < n → flag_at ss i ≡ flag → (tally ss flag n).last ≡ i + 1
  unfolding tally
  tally-one zero i z b e = absurd (omega arith)
  tally-one (suc n) i z b e = by-test (eqb (flag_at ss n) flag) refl (tally-one n i) (ℕ_discrete i n) z
    where
      by-test : (t : Bool) → eqb (flag_at ss n) flag ≡ t → ((tally ss flag n).count ≡ 1 → i < n → flag_at ss i ≡ flag → (tally ss flag n).last ≡ i + 1) → Dec (i ≡ n)
          → (cond t (record { count = (tally ss flag n).count + 1; last = n + 1 }) (tally ss flag n)).count ≡ 1
          → (cond t (record { count = (tally ss flag n).count + 1; last = n + 1 }) (tally ss flag n)).last ≡ i + 1
      by-test true q k (yes p) z = rw p refl
      by-test true q k (no p) z = absurd (tally-none n i (omega arith) (omega arith) e)
      by-test false q k (yes p) z = absurd (eqb-false (flag_at ss n) flag q (ap (λ (j : ℕ). flag_at ss j) (sym p) ∙ e))
      by-test false q k (no p) z = k z (omega arith) e
