-- The parts of a module whose sections have new addresses. Assumes nothing.
use mathlib.Core.Path.{◌≡◌, refl, ap}
use mathlib.Core.Bool.{true, false, not, ◌&&◌}
use mathlib.Core.List.{List}
use Prim.Native.Nat.{ℕ, ◌+◌, ◌-◌, ◌≤◌, ◌<◌}
use native.Mathlib.Decide.{ℕ_discrete}
use native.Mathlib.Omega.{arith}
use lib.ListN.{get_or}
use lib.Dec.{eqb}
use borrow.Author.Tests.{eq-eqb, ne_eqb, eqb-true, le-ltb, not-false}
use Rattle.word.proofs.Test.{and_first, and_second}
use Rattle.refusal.specs.Order.{refuse_if}
use Rattle.refusal.proofs.Order.{accepted-first, accepted-test}
use Rattle.section.specs.declared.Section.{Section}
use Rattle.file_tables.specs.Tables.{blank_section}
use Rattle.header.specs.declared.Summary.{Summary}
use Rattle.auxiliary.specs.declared.AuxHeader.{AuxHeader}
use Rattle.auxiliary.specs.Auxiliary.{numbers_agree, sizes_agree}
use Rattle.parts.specs.declared.Part.{Part}
use Rattle.parts.specs.declared.Parts.{Parts}
use Rattle.parts.specs.Sections.{flag_at, tally, tally_of, tallies_of, one_each, part_at, parts_of, thread_at, thread_check}
use Rattle.parts.proofs.Tallied.{tally-few, tally-some}
use Rattle.format.specs.declared.SectionNumber.{SectionNumber}
use Rattle.module.proofs.Extent.{bss-after, image-bss, parts-image}
use Rattle.module.specs.Module.{lacks_data, is_anchor, bss_below, image_length, parts_check}
use Rattle.history.specs.declared.Followed.{Followed}
use Rattle.history.specs.declared.Followed.TheVariants as followed
use Rattle.written.specs.Written.{flag_follows}
use Rattle.written.specs.Moved.{moved_section, moved_part, moved_parts, moved_aux}
use Rattle.frame.proofs.Open.{first-same}
use Rattle.rewritten.proofs.Judge.{tally-same, tally-here}
use Rattle.std.specs.Prelude.{Ok}

-- there is one of each kind
pub record Ones (y : Summary) : Type 0 where
  pub text : (tally_of y 0x0020).count ≡ 1
  pub dat : (tally_of y 0x0040).count ≡ 1
  pub bss : (tally_of y 0x0080).count ≡ 1
  pub loader : (tally_of y 0x1000).count ≡ 1

pub ones : (y : Summary) → one_each (tallies_of y) ≡ true → Ones y
unfolding one_each tallies_of
ones y e =
    let a = eqb (tally_of y 0x0020).count 1 in
    let b = eqb (tally_of y 0x0040).count 1 in
    let c = eqb (tally_of y 0x0080).count 1 in
    let d = eqb (tally_of y 0x1000).count 1 in
    let abc = and_first (a && b && c) d e in
    let ab = and_first (a && b) c abc in
    record {
      text = eqb-true (tally_of y 0x0020).count 1 (and_first a b ab);
      dat = eqb-true (tally_of y 0x0040).count 1 (and_second a b ab);
      bss = eqb-true (tally_of y 0x0080).count 1 (and_second (a && b) c abc);
      loader = eqb-true (tally_of y 0x1000).count 1 (and_second (a && b && c) d e);
    }

-- a summary with other section records
abbrev pub with_sections : Summary → List Section → Summary
with_sections y ts = record { format = y.format; count = y.count; sections = ts; symbols = y.symbols; opthdr = y.opthdr; flags = y.flags }

module _ (new : Followed → ℕ → ℕ) (y : Summary) (ts : List Section)
    (moved : (i : ℕ) → i < y.count → get_or ts i blank_section ≡ moved_section new (get_or y.sections i blank_section)) (still : (x : ℕ) → new followed.Nothing x ≡ x) where
  flag_same : (i : ℕ) → i < y.count → flag_at ts i ≡ flag_at y.sections i
  flag_same i b = rw (moved i b) refl

  tally-alike : (flag : ℕ) → tally ts flag y.count ≡ tally y.sections flag y.count
  tally-alike flag = tally-same ts y.sections flag y.count flag_same

  pub tallies-moved : tallies_of (with_sections y ts) ≡ tallies_of y
  unfolding tallies_of
  tallies-moved = rw (tally-alike 0x0020, tally-alike 0x0040, tally-alike 0x0080, tally-alike 0x1000) refl

  pub thread-moved : thread_check (with_sections y ts) ≡ thread_check y
  unfolding thread_check thread_at
  thread-moved = first-same (thread_at ts) (thread_at y.sections) 0 y.count (λ k b. rw (flag_same k (omega arith)) refl)

  part_moved : (flag : ℕ) → (tally_of y flag).count ≡ 1 → part_at ts (tally_of y flag).last ≡ moved_part new (flag_follows flag) (part_at y.sections (tally_of y flag).last)
  unfolding part_at
  part_moved flag one =
      let a : 0 < (tally_of y flag).last = tally-some y.sections flag y.count (omega arith) in
      let b : (tally_of y flag).last ≤ y.count = (tally-few y.sections flag y.count).1 in
      let here : flag_at y.sections ((tally_of y flag).last - 1) ≡ flag = tally-here y.sections flag y.count (omega arith) in
      rw (moved ((tally_of y flag).last - 1) (omega arith), here) refl

  loader-still : (p : Part) → moved_part new followed.Nothing p ≡ p
  loader-still p = rw (still p.address.0) refl

  pub parts-moved : Ones y → parts_of (with_sections y ts) ≡ moved_parts new (parts_of y)
  unfolding parts_of flag_follows
  parts-moved o =
      rw (tally-alike 0x0020, tally-alike 0x0040, tally-alike 0x0080, tally-alike 0x1000, part_moved 0x0020 o.text, part_moved 0x0040 o.dat, part_moved 0x0080 o.bss, part_moved 0x1000 o.loader)
      (rw (loader-still (part_at y.sections (tally_of y 0x1000).last)) refl)

-- ---- the new addresses keep each section in one piece

pub record Moves (new : Followed → ℕ → ℕ) (limit : ℕ) (p : Parts) : Type 0 where
  pub text-end : new followed.Text p.text.address.0 + p.text.size ≤ limit
  pub data-end : new followed.Data p.«data».address.0 + image_length p ≤ limit
  pub bss-end : new followed.Data p.bss.address.0 + p.bss.size ≤ limit
  pub text_in : (a : ℕ) → p.text.address.0 ≤ a → a < p.text.address.0 + p.text.size → new followed.Text a ≡ new followed.Text p.text.address.0 + (a - p.text.address.0)
  pub data-in : (a : ℕ) → p.«data».address.0 ≤ a → a < p.«data».address.0 + image_length p → new followed.Data a ≡ new followed.Data p.«data».address.0 + (a - p.«data».address.0)

module _ (new : Followed → ℕ → ℕ) (limit : ℕ) (p : Parts) (v : Moves new limit p) where
  -- a bss that is not empty keeps its distance from data
  bss-moved : bss_below p ≡ false → (p.bss.size ≡ 0 → ⊥) → new followed.Data p.bss.address.0 ≡ new followed.Data p.«data».address.0 + (p.bss.address.0 - p.«data».address.0)
  bss-moved e n =
      let a = bss-after p e n in
      v.data-in p.bss.address.0 (omega arith) (omega (arith, image-bss p n))

  pub below-moved : bss_below p ≡ false → Dec (p.bss.size ≡ 0) → bss_below (moved_parts new p) ≡ false
  unfolding bss_below
  below-moved e (yes z) = rw (eq-eqb p.bss.size 0 z) refl
  below-moved e (no n) =
      let a = bss-after p e n in
      let q = bss-moved e n in
      rw (ne_eqb p.bss.size 0 n, le-ltb (new followed.Data p.bss.address.0) (new followed.Data p.«data».address.0 + p.«data».size) (omega arith)) refl

  pub image-moved : bss_below p ≡ false → Dec (p.bss.size ≡ 0) → image_length (moved_parts new p) ≡ image_length p
  unfolding image_length
  image-moved e (yes z) = rw (eq-eqb p.bss.size 0 z) refl
  image-moved e (no n) = rw (ne_eqb p.bss.size 0 n, bss-moved e n) (omega arith)

  module _ (a : AuxHeader) (fe ft : Followed) (e : parts_check p a ≡ Ok tt) where
    agree : (numbers_agree p a && sizes_agree p a) ≡ true
    agree = unfold parts_check in
        not-false (numbers_agree p a && sizes_agree p a) (accepted-test (not (numbers_agree p a && sizes_agree p a)) _ (accepted-first (refuse_if (not (numbers_agree p a && sizes_agree p a)) _) _ e))

    numbers-moved : numbers_agree (moved_parts new p) (moved_aux new fe ft a) ≡ numbers_agree p a
    unfolding numbers_agree
    numbers-moved = refl

    sizes-moved : sizes_agree (moved_parts new p) (moved_aux new fe ft a) ≡ true
    unfolding sizes_agree
    sizes-moved =
        let h = and_second (numbers_agree p a) _ agree in
        let t = eqb a.tsize p.text.size && eqb a.tstart.0 p.text.address.0 in
        let d = eqb a.dsize p.«data».size && eqb a.dstart.0 p.«data».address.0 in
        let td = and_first (t && d) _ h in
        let b = and_second (t && d) _ h in
        let ts = and_first (eqb a.tsize p.text.size) _ (and_first t d td) in
        let ta = eqb-true a.tstart.0 p.text.address.0 (and_second (eqb a.tsize p.text.size) _ (and_first t d td)) in
        let ds = and_first (eqb a.dsize p.«data».size) _ (and_second t d td) in
        let da = eqb-true a.dstart.0 p.«data».address.0 (and_second (eqb a.dsize p.«data».size) _ (and_second t d td)) in
        rw (
          ts,
          eq-eqb (new followed.Text a.tstart.0) (new followed.Text p.text.address.0) (ap (new followed.Text) ta),
          ds,
          eq-eqb (new followed.Data a.dstart.0) (new followed.Data p.«data».address.0) (ap (new followed.Data) da),
          b,
        ) refl

    lacks-moved : (f : Followed) (q : Part) → lacks_data (moved_part new f q) ≡ lacks_data q
    unfolding lacks_data
    lacks-moved f q = refl

    anchor-moved : (n : SectionNumber) → is_anchor (moved_parts new p) n ≡ is_anchor p n
    unfolding is_anchor
    anchor-moved n = refl

    -- the checks of a module's parts pass
    pub check-moved : parts_check (moved_parts new p) (moved_aux new fe ft a) ≡ Ok tt
    unfolding parts_check
    check-moved =
        let image = parts-image p a e in
        let dec = ℕ_discrete p.bss.size 0 in
        rw (
          numbers-moved,
          sizes-moved,
          and_first (numbers_agree p a) _ agree,
          lacks-moved followed.Text p.text,
          lacks-moved followed.Data p.«data»,
          anchor-moved a.snentry,
          anchor-moved a.sntoc,
          below-moved image.0 dec,
          image-moved image.0 dec,
        )
        (rw (and_first (numbers_agree p a) _ agree, and_second (numbers_agree p a) _ agree, image.0) at e)
