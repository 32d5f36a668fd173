-- Laws of the data image's extent. Assumes nothing.
use Prim.Native.Nat.{ℕ, ◌+◌, ◌-◌, ◌≤◌}
use mathlib.Core.Path.{◌≡◌}
use mathlib.Core.Bool.{false, not, ◌&&◌, ◌||◌}
use mathlib.Core.List.{List}
use native.Mathlib.Omega.{arith}
use lib.Dec.{ltb}
use lib.ListN.{length}
use borrow.Author.Tests.{eq-eqb, ne_eqb, ltb-false}
use Rattle.format.specs.Layout.{header_layout, aux_layout}
use Rattle.format.specs.Limit.{data_image_limit}
use Rattle.refusal.specs.Order.{refuse_if}
use Rattle.refusal.proofs.Order.{accepted-first, accepted-rest, accepted-test}
use Rattle.header.specs.declared.Summary.{Summary}
use Rattle.file_header.specs.Header.{section_start}
use Rattle.header.specs.Inside.{Inside}
use Rattle.auxiliary.specs.declared.AuxHeader.{AuxHeader}
use Rattle.parts.specs.declared.Parts.{Parts}
use Rattle.module.specs.Module.{lacks_data, is_anchor, bss_below, image_length, parts_check}
use Rattle.auxiliary.specs.Auxiliary.{numbers_agree, sizes_agree}
use Rattle.std.specs.Prelude.{Ok}

-- a bss that is not empty starts at or after data's end
pub bss-after : (p : Parts) → bss_below p ≡ false → (p.bss.size ≡ 0 → ⊥) → p.«data».address.0 + p.«data».size ≤ p.bss.address.0
unfolding bss_below
bss-after p e n = ltb-false p.bss.address.0 (p.«data».address.0 + p.«data».size) (rw (ne_eqb p.bss.size 0 n) at e)

pub image-plain : (p : Parts) → p.bss.size ≡ 0 → image_length p ≡ p.«data».size
unfolding image_length
image-plain p e = rw (eq-eqb p.bss.size 0 e)

pub image-bss : (p : Parts) → (p.bss.size ≡ 0 → ⊥) → image_length p ≡ p.bss.address.0 - p.«data».address.0 + p.bss.size
unfolding image_length
image-bss p n = rw (ne_eqb p.bss.size 0 n)

-- what the checks of the parts leave known
pub parts-image : (p : Parts) (a : AuxHeader) → parts_check p a ≡ Ok tt → (bss_below p ≡ false) × (image_length p ≤ data_image_limit)
unfolding parts_check
parts-image p a e =
    let r1 = accepted-rest (refuse_if (not (numbers_agree p a && sizes_agree p a)) _) _ e in
    let r2 = accepted-rest (refuse_if (lacks_data p.text || lacks_data p.«data» || lacks_data p.loader) _) _ r1 in
    let r3 = accepted-rest (refuse_if (not (is_anchor p a.snentry && is_anchor p a.sntoc)) _) _ r2 in (
      accepted-test (bss_below p) _ (accepted-first (refuse_if (bss_below p) _) _ r3),
      ltb-false data_image_limit (image_length p) (accepted-test (ltb data_image_limit (image_length p)) _ (accepted-rest (refuse_if (bss_below p) _) _ r3)),
    )

-- the auxiliary header is in the header area
pub aux-in : (file : List ℕ) (y : Summary) → Inside file y → (aux_layout y.format).length ≤ y.opthdr → (header_layout y.format).length + (aux_layout y.format).length ≤ length file
unfolding section_start
aux-in file y i h = let k = i.headers in omega arith
