-- The order of MODULE 1 and THREAD, and what an accepted module guarantees, for the crates above. Assumes nothing.
use Prim.Native.Nat.{ℕ, ◌-◌, ◌≤◌, ◌<◌}
use mathlib.Core.Path.{◌≡◌, refl, subst}
use mathlib.Core.Bool.{true, false, not, ◌&&◌, ◌||◌}
use mathlib.Core.List.{List}
use native.Mathlib.Decide.{ℕ_discrete}
use native.Mathlib.Omega.{arith}
use lib.Dec.{ltb}
use lib.ListN.{length, get_or}
use borrow.Author.Tests.{le-ltb, ne_eqb, not-false}
use Rattle.word.proofs.Test.{and_first, and_second, or-first, or-second}
use Rattle.format.specs.Layout.{aux_layout}
use Rattle.refusal.specs.declared.Refusal.TheVariants as refusal
use Rattle.refusal.specs.declared.ModuleItem.TheVariants.{SectionSet}
use Rattle.refusal.specs.Order.{refuse_if}
use Rattle.refusal.proofs.Order.{accepted-first, accepted-rest, accepted-test, by-verdict}
use Rattle.header.specs.declared.Summary.{Summary}
use Rattle.header.specs.Inside.{Inside}
use Rattle.header.specs.Open.{open_of}
use Rattle.file_tables.specs.Tables.{blank_section}
use Rattle.header.proofs.Accepted.{opened_inside}
use Rattle.auxiliary.specs.declared.AuxHeader.{AuxHeader}
use Rattle.parts.specs.declared.Parts.{Parts}
use Rattle.module.specs.declared.Module.{Module}
use Rattle.parts.specs.Sections.{tallies_of, one_each, part_at, parts_of, thread_check}
use Rattle.auxiliary.specs.Auxiliary.{numbers_agree, sizes_agree}
use Rattle.module.specs.Module.{lacks_data, is_anchor, bss_below, image_length, parts_check, aux_of, module_check, module_with, module_in, module_at}
use Rattle.module.specs.Inside.{PartInside, ModuleInside}
use Rattle.parts.proofs.Tallied.{each-known}
use Rattle.module.proofs.Extent.{bss-after, image-plain, image-bss, parts-image}
use Rattle.std.specs.Prelude.{Err, Ok, Result}
use Rattle.refusal.specs.declared.Refusal.{Refusal}

-- MODULE 1 is given whatever THREAD would say
pub set-before-thread : (file : List ℕ) (y : Summary) → (aux_layout y.format).length ≤ y.opthdr → one_each (tallies_of y) ≡ false
    → module_check file y ≡ Err (refusal.Module SectionSet)
unfolding module_check
set-before-thread file y a e = rw (le-ltb y.opthdr (aux_layout y.format).length a, e) refl

-- a section among those of an accepted file, with bytes only where it has raw data
part_in : (file : List ℕ) (y : Summary) → Inside file y → (n : ℕ) → 0 < n → n ≤ y.count → lacks_data (part_at y.sections n) ≡ false → PartInside (length file) (part_at y.sections n)
unfolding part_at lacks_data
part_in file y i n a b e h =
    let s = get_or y.sections (n - 1) blank_section in
    let full : (s.size ≡ 0 → ⊥) = λ z. absurd (omega arith) in
    (i.sections (n - 1) (omega arith)).data-in (not-false s.raw (rw (ne_eqb s.size 0 full) at e))

-- the data image holds the data section
image_holds : (p : Parts) → bss_below p ≡ false → Dec (p.bss.size ≡ 0) → p.«data».size ≤ image_length p
image_holds p e (yes z) = rw (image-plain p z) (omega arith)
image_holds p e (no n) = rw (image-bss p n) (let h = bss-after p e n in omega arith)

-- the tests of the parts that were passed
parts-data : (p : Parts) (a : AuxHeader) → parts_check p a ≡ Ok tt → (lacks_data p.text || lacks_data p.«data» || lacks_data p.loader) ≡ false
unfolding parts_check
parts-data p a e =
    let lacks = lacks_data p.text || lacks_data p.«data» || lacks_data p.loader in
    accepted-test lacks _ (accepted-first (refuse_if lacks _) _ (accepted-rest (refuse_if (not (numbers_agree p a && sizes_agree p a)) _) _ e))

parts-anchors : (p : Parts) (a : AuxHeader) → parts_check p a ≡ Ok tt → (is_anchor p a.snentry && is_anchor p a.sntoc) ≡ true
unfolding parts_check
parts-anchors p a e =
    let lacks = lacks_data p.text || lacks_data p.«data» || lacks_data p.loader in
    let good = is_anchor p a.snentry && is_anchor p a.sntoc in
    let r = accepted-rest (refuse_if lacks _) _ (accepted-rest (refuse_if (not (numbers_agree p a && sizes_agree p a)) _) _ e) in
    not-false good (accepted-test (not good) _ (accepted-first (refuse_if (not good) _) _ r))

-- the checks that are passed give it
checked-inside : (file : List ℕ) (y : Summary) → Inside file y → one_each (tallies_of y) ≡ true → parts_check (parts_of y) (aux_of file y) ≡ Ok tt → ModuleInside file (module_with y.format (parts_of y) (aux_of file y))
unfolding parts_of part_at tallies_of module_with
checked-inside file y i one e =
    let p = parts_of y in
    let a = aux_of file y in
    let k = each-known y refl one in
    let lacks = parts-data p a e in
    let anchors = parts-anchors p a e in
    let image = parts-image p a e in
    let pair = or-first (lacks_data p.text || lacks_data p.«data») (lacks_data p.loader) lacks in
    record {
      small = i.small;
      text = part_in file y i _ k.text.0 k.text.1 (or-first (lacks_data p.text) (lacks_data p.«data») pair);
      «data» = part_in file y i _ k.«data».0 k.«data».1 (or-second (lacks_data p.text) (lacks_data p.«data») pair);
      loader = part_in file y i _ k.loader.0 k.loader.1 (or-second (lacks_data p.text || lacks_data p.«data») (lacks_data p.loader) lacks);
      apart = k.apart;
      image = refl;
      holds = image_holds p image.0 (ℕ_discrete p.bss.size 0);
      few = image.1;
      entry = and_first (is_anchor p a.snentry) (is_anchor p a.sntoc) anchors;
      toc = and_second (is_anchor p a.snentry) (is_anchor p a.sntoc) anchors;
    }

-- of an answer: it holds where a module is found
abbrev Answered : List ℕ → Result Module Refusal → Type 0
Answered file (Ok m) = ModuleInside file m
Answered file (Err x) = Unit {0}

module-answered : (file : List ℕ) (y : Summary) → Inside file y → Answered file (module_in file y)
unfolding module_in module_check
module-answered file y i =
    by-verdict (Answered file) (module_check file y)
    (λ e. let r1 = accepted-rest (refuse_if (ltb y.opthdr (aux_layout y.format).length) _) _ e in
    let r2 = accepted-rest (refuse_if (not (one_each (tallies_of y))) _) _ r1 in
    checked-inside file y i
    (not-false (one_each (tallies_of y)) (accepted-test (not (one_each (tallies_of y))) _ (accepted-first (refuse_if (not (one_each (tallies_of y))) _) _ r1)))
    (accepted-rest (thread_check y) _ r2))
    (λ x. tt)

-- an accepted module's sections are inside the file
pub module-inside : (file : List ℕ) (m : Module) → module_at file ≡ Ok m → ModuleInside file m
unfolding module_at
module-inside file m e = subst (Answered file) e (by-verdict (Answered file) (open_of file).verdict (λ k. module-answered file (open_of file).summary (opened_inside file k)) (λ x. tt))
