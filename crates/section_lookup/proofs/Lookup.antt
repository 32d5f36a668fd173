-- Laws of a section that is looked up. Assumes nothing.
use Prim.Native.Nat.{ℕ, ◌+◌, ◌-◌, ◌≤◌, ◌<◌}
use mathlib.Core.Path.{◌≡◌, refl, ap}
use mathlib.Core.Bool.{false, true≢false, ◌||◌}
use mathlib.Core.List.{List}
use native.Mathlib.Decide.{ℕ_discrete}
use native.Mathlib.Omega.{arith}
use lib.Dec.{eqb, ltb}
use lib.ListN.{length, get_or}
use borrow.Author.Tests.{ltb-false, eq-eqb, ne_eqb}
use Rattle.format.specs.declared.SectionNumber.{SectionNumber}
use Rattle.format.specs.declared.FileRange.{FileRange}
use Rattle.format.specs.Layout.{section_layout}
use Rattle.format.specs.declared.SectionLayout.{SectionLayout}
use Rattle.format.proofs.Layouts.{FieldInside, section-inside}
use Rattle.format.proofs.Ranges.{text-inside}
use Rattle.refusal.specs.declared.Refusal.{Refusal}
use Rattle.refusal.specs.Order.{◌or_else◌, by_verdict}
use Rattle.refusal.specs.Part.{Within}
use Rattle.offset.proofs.Report.{range_inside}
use Rattle.refusal.proofs.Order.{accepted-first, accepted-rest, accepted-test}
use Rattle.offset.specs.Report.{report_of_range, InFile}
use Rattle.header.specs.declared.Opened.{Opened}
use Rattle.file_header.specs.Header.{section_start}
use Rattle.file_tables.specs.Tables.{blank_section}
use Rattle.header.specs.Open.{open_of}
use Rattle.section_lookup.specs.Lookup.{number_check, lookup_check, section_at, name_of, section_name_at}
use Rattle.file_header.proofs.Fields.{section-whole}
use Rattle.header.specs.Inside.{Inside}
use Rattle.header.proofs.Accepted.{opened_inside}
use Rattle.std.specs.Prelude.{Err, Ok}
use Rattle.refusal.specs.Verdict.{Verdict}

-- the number of a section that is there
number_in : (count : ℕ) (n : SectionNumber) → number_check count n ≡ Ok tt → (eqb n.0 0 || ltb count n.0) ≡ false
unfolding number_check
number_in count n e = accepted-test (eqb n.0 0 || ltb count n.0) _ e

pub number-known : (count : ℕ) (n : SectionNumber) → number_check count n ≡ Ok tt → (0 < n.0) × (n.0 ≤ count)
number-known count n e = known (ℕ_discrete n.0 0) (number_in count n e)
  where
    known : Dec (n.0 ≡ 0) → (eqb n.0 0 || ltb count n.0) ≡ false → (0 < n.0) × (n.0 ≤ count)
    known (yes z) t = absurd (true≢false (rw (eq-eqb n.0 0 z) at t))
    known (no z) t = (omega arith, ltb-false count n.0 (rw (ne_eqb n.0 0 z) at t))

-- equal openings have the same count
pub same_count : {o o' : Opened} → o ≡ o' → o.summary.count ≡ o'.summary.count
same_count e = ap (λ (x : Opened). x.summary.count) e

module _ (file : List ℕ) (n : SectionNumber) where
  -- the verdict that was found is the one of the look-up
  pub looked-up : {o : Opened} {v : Verdict} → o ≡ open_of file → v ≡ (o.verdict or_else number_check o.summary.count n) → v ≡ lookup_check file n
  unfolding lookup_check
  looked-up e k = rw e at k

  module _ (e : lookup_check file n ≡ Ok tt) where
    accepted : (open_of file).verdict ≡ Ok tt
    accepted = unfold lookup_check in accepted-first (open_of file).verdict _ e

    pub inside : Inside file (open_of file).summary
    inside = opened_inside file accepted

    pub known : (0 < n.0) × (n.0 ≤ (open_of file).summary.count)
    known = unfold lookup_check in number-known (open_of file).summary.count n (accepted-rest (open_of file).verdict _ e)

    -- the header of any section that the file has is whole
    pub header-whole : (i : ℕ) → i < (open_of file).summary.count → section_start (open_of file).summary.format (open_of file).summary.opthdr i + (section_layout (open_of file).summary.format).length ≤ length file
    header-whole i h = section-whole (open_of file).summary.format (open_of file).summary.opthdr (open_of file).summary.count i (length file) h inside.headers

    pub name-whole : {o : Opened} {l : SectionLayout} {base : ℕ} (i : ℕ) → i < (open_of file).summary.count → o ≡ open_of file → l ≡ section_layout o.summary.format
        → base ≡ section_start o.summary.format o.summary.opthdr i → FieldInside l.name base (length file)
    name-whole i h q a b = rw (b, a, q) (section-inside (open_of file).summary.format (section_start (open_of file).summary.format (open_of file).summary.opthdr i) (length file) refl (header-whole i h)).name

  -- the answers by that verdict
  pub section-refused : {v : Verdict} (x : Refusal) → v ≡ lookup_check file n → v ≡ Err x → Err x ≡ section_at file n
  unfolding section_at
  section-refused x e k = rw (← e, k)

  pub section-found : {o : Opened} {v : Verdict} → o ≡ open_of file → v ≡ lookup_check file n → v ≡ Ok tt → Ok (get_or o.summary.sections (n.0 - 1) blank_section) ≡ section_at file n
  unfolding section_at
  section-found q e k = rw (q, ← e, k)

  pub name-refused : {v : Verdict} (x : Refusal) → v ≡ lookup_check file n → v ≡ Err x → Err x ≡ section_name_at file n
  unfolding section_name_at
  name-refused x e k = rw (← e, k)

  pub name-found : {v : Verdict} {r : FileRange} → v ≡ lookup_check file n → v ≡ Ok tt → r ≡ name_of file (open_of file).summary n → Ok r ≡ section_name_at file n
  unfolding section_name_at
  name-found e k q = rw (q, ← e, k)

  -- the name lies in the file
  name_in_lem : (v : Verdict) → lookup_check file n ≡ v → Within (length file) (by_verdict v (Ok (name_of file (open_of file).summary n)) Err)
  unfolding name_of
  name_in_lem (Err x) e = tt
  name_in_lem (Ok tt) e =
      let k = known e in
      text-inside _ _ file (name-whole e (n.0 - 1) (omega arith) refl refl refl)

  pub name-within : Within (length file) (section_name_at file n)
  unfolding section_name_at
  name-within = name_in_lem (lookup_check file n) refl

  pub section-name-inside : InFile file (report_of_range file (section_name_at file n))
  section-name-inside = range_inside file (section_name_at file n) name-within
