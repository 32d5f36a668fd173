-- The entry and TOC addresses in a plan. Assumes nothing.
use Rattle.std.proofs.Common.{◌≡◌, ℕ, ◌+◌, ◌%◌, ◌^◌, ◌<◌, ℤ, pos, ◌+ℤ◌, ◌-ℤ◌, refl, ap, ◌∙◌, ap₂, lit<, eq-eqb, ne_eqb}
use Prim.Native.Nat.{◌∣◌}
use native.Mathlib.Nat.{dvd-mul_left, dvd_refl, mod-mod_of_dvd}
use lib.IntN.{+ℤ_comm}
use Rattle.update.specs.Update.{remainder}
use Rattle.update.proofs.Remainder.{remainder-cong}
use Rattle.format.specs.declared.Format.{Format}
use Rattle.format.specs.declared.Format.TheVariants.{Xcoff32, Xcoff64}
use Rattle.format.specs.Layout.{address_limit}
use Rattle.module.specs.declared.Anchor.{Anchor}
use Rattle.loadable.specs.declared.Loadable.{Loadable}
use Rattle.history.specs.Plan.{displacement_of, moved_address, reached_by}
use Rattle.plan.specs.Relocatable.{anchored, relocatable_of}
use Rattle.apply.proofs.Stands.{narrowed, stands}
use Rattle.displacement.specs.declared.Addresses.{Addresses}
use Rattle.displacement.specs.Reach.{IsMoved, IsReached}
use Rattle.std.specs.Prelude.{None, Option, Some}
use Rattle.format.specs.declared.VirtualAddress.{VirtualAddress}

-- ---- a sum that drops at the limit

-- the limit of addresses is not 0
limit-positive : (f : Format) → 0 < address_limit f
limit-positive Xcoff32 = lit< tt
limit-positive Xcoff64 = lit< tt

-- it divides 2^64
limit-divides : (f : Format) → address_limit f ∣ 2 ^ 64
limit-divides Xcoff32 = dvd-mul_left 4294967296 4294967296
limit-divides Xcoff64 = dvd_refl (2 ^ 64)

-- a wrapping sum at 64 bits drops at XCOFF32's limit by its remainder
pub sum-32 : (f : Format) (a d s : ℕ) → f ≡ Xcoff32 → s ≡ (a + d) % 2 ^ 64 → s % 4294967296 ≡ (a + d) % address_limit f
sum-32 f a d s e h = rw (e, h) (mod-mod_of_dvd 4294967296 (a + d) (limit-divides Xcoff32))

-- and at XCOFF64's by itself
pub sum_64 : (f : Format) (a d s : ℕ) → f ≡ Xcoff64 → s ≡ (a + d) % 2 ^ 64 → s ≡ (a + d) % address_limit f
sum_64 f a d s e h = rw (e, h) refl

-- the sum with an exact displacement modulo 2^64 is the exact sum, which drops at the limit
pub sum-exact : (f : Format) (a d : ℕ) (z : ℤ) → d ≡ remainder z (2 ^ 64) → (a + d) % address_limit f ≡ remainder (pos a +ℤ z) (address_limit f)
sum-exact f a d z h =
    let m : ℕ = address_limit f in
    let same : remainder (pos d) m ≡ remainder z m = narrowed m (limit-positive f) (limit-divides f) (pos d) z (stands d z h) in
    exact a d m ∙ ap (λ (k : ℤ). remainder k m) (+ℤ_comm (pos a) (pos d)) ∙ remainder-cong m (limit-positive f) (pos d) z (pos a) same
    ∙ ap (λ (k : ℤ). remainder k m) (+ℤ_comm z (pos a))
  where
    exact : (a d m : ℕ) → (a + d) % m ≡ remainder (pos a +ℤ pos d) m
    exact a d m = unfold remainder in refl

-- ---- an anchor

module _ (l : Loadable) (a : Anchor) (at : Addresses) where
  -- section 0 means that there is none
  pub anchor-nowhere : a.section.0 ≡ 0 → IsMoved l a at None
  unfolding anchored moved_address
  anchor-nowhere e file list = rw (eq-eqb a.section.0 0 e) refl

  module _ (d r : ℕ) (here : a.section.0 ≡ 0 → ⊥) (sum : r ≡ (a.address.0 + d) % address_limit l.layout.format) where
    -- an anchor in text moves with text
    pub anchor-text : a.section.0 ≡ l.layout.parts.text.number.0 → d ≡ remainder (pos at.text.0 -ℤ pos l.layout.parts.text.address.0) (2 ^ 64)
        → IsMoved l a at (Some (record { 0 = r }))
    unfolding anchored moved_address displacement_of relocatable_of
    anchor-text e s file list =
        rw (ne_eqb a.section.0 0 here, eq-eqb a.section.0 l.layout.parts.text.number.0 e)
        (ap (λ (x : ℕ). Some (record { 0 = x })) (sum ∙ sum-exact l.layout.format a.address.0 d _ s))

    -- any other moves with data
    pub anchor-data : (a.section.0 ≡ l.layout.parts.text.number.0 → ⊥)
        → d ≡ remainder (pos at.«data».0 -ℤ pos l.layout.parts.«data».address.0) (2 ^ 64) → IsMoved l a at (Some (record { 0 = r }))
    unfolding anchored moved_address displacement_of relocatable_of
    anchor-data e s file list =
        rw (ne_eqb a.section.0 0 here, ne_eqb a.section.0 l.layout.parts.text.number.0 e)
        (ap (λ (x : ℕ). Some (record { 0 = x })) (sum ∙ sum-exact l.layout.format a.address.0 d _ s))

-- both anchors make the answer
pub both-reached : (l : Loadable) (at : Addresses) (entry toc : Option VirtualAddress) → IsMoved l l.layout.entry at entry → IsMoved l l.layout.toc at toc
    → IsReached l at (record { entry = entry; toc = toc })
unfolding reached_by relocatable_of
both-reached l at entry toc e t file list = ap₂ (λ (a b : Option VirtualAddress). record { entry = a; toc = b }) (e file list) (t file list)
