-- What a loop over the entries of one format rests on. Assumes nothing.
use Rattle.std.proofs.Common.{◌≡◌, ℕ, ◌+◌, ◌%◌, ◌<◌, ◌≤◌, Bool, true, false, not, ◌&&◌, ltb, List, refl, arith, ne_eqb, eqb-true}
use borrow.Author.Tests.{not-false}
use Rattle.word.proofs.Test.{and_first, and_second}
use Rattle.format.specs.declared.Format.{Format}
use Rattle.format.specs.declared.Format.TheVariants.{Xcoff32}
use Rattle.refusal.specs.Order.{refuse_if}
use Rattle.refusal.proofs.Order.{accepted-rest, accepted-test}
use Rattle.parts.specs.declared.Parts.{Parts}
use Rattle.relocation.specs.declared.RelocationEntry.{RelocationEntry}
use Rattle.relocation.specs.Relocation.{is_thread, is_type, is_width, width_bits, bytes_wide, is_wide, is_held, is_good, own_check, own_at, place_of, place_at, entry_in}
use Rattle.loadable.specs.declared.Loadable.{Loadable}
use Rattle.loadable.specs.Valid.{Valid}
use Rattle.history.specs.declared.Relocation.{Relocation}
use Rattle.history.specs.Images.{Images, apply_all}
use Rattle.plan.specs.Relocatable.{relocation_at, relocations_from, relocatable_of}
use Rattle.apply.specs.Shift.{ForPlans}
use Rattle.std.specs.Prelude.{Ok}

-- ---- fields of XCOFF32 are of 4 bytes

-- an entry that is accepted by itself is good
own-good : (f : Format) (p : Parts) (nsyms i : ℕ) (e : RelocationEntry) → own_check f p nsyms i e ≡ Ok tt → is_good f p nsyms e ≡ true
unfolding own_check
own-good f p nsyms i e q = not-false (is_good f p nsyms e) (accepted-test (not (is_good f p nsyms e)) _ (accepted-rest (refuse_if (is_thread e) _) _ q))

-- so its width is one of the format's
good-width : (f : Format) (p : Parts) (nsyms : ℕ) (e : RelocationEntry) → is_good f p nsyms e ≡ true → is_width f (width_bits e.rtype) ≡ true
unfolding is_good
good-width f p nsyms e q =
    let a = is_type (e.rtype % 256) in
    let b = is_width f (width_bits e.rtype) in
    let c = is_held p e in
    let d = ltb e.symbol (3 + nsyms) in
    and_second a b (and_first (a && b) c (and_first (a && b && c) d q))

-- in XCOFF32 that is 32 bits
width_narrow : (e : RelocationEntry) → is_width Xcoff32 (width_bits e.rtype) ≡ true → is_wide e.rtype ≡ false
unfolding is_width
width_narrow e q = ne_eqb (width_bits e.rtype) 64 (λ h. omega (arith, h, eqb-true (width_bits e.rtype) 32 q))

own-narrow : {f : Format} (p : Parts) (nsyms i : ℕ) (e : RelocationEntry) → f ≡ Xcoff32 → own_check f p nsyms i e ≡ Ok tt → is_wide e.rtype ≡ false
own-narrow {f} p nsyms i e n q = width_narrow e (rw n at (good-width f p nsyms e (own-good f p nsyms i e q)))

-- of an accepted module's entry i
pub entry-narrow : (file : List ℕ) (l : Loadable) (i : ℕ) (e : Relocation) → Valid file l → i < l.tables.nreloc → l.layout.format ≡ Xcoff32
    → e ≡ relocation_at file l i → e.place.wide ≡ false
unfolding relocation_at place_at place_of own_at
entry-narrow file l i e v h n r =
    rw r (own-narrow l.layout.parts l.tables.nsyms i (entry_in file l.layout.format l.tables i) n (v.own i h))

-- a field of that width is of 4 bytes
pub narrow-bytes : {wide : Bool} (off n : ℕ) → wide ≡ false → off + bytes_wide wide ≤ n → off + 4 ≤ n
narrow-bytes off n w h = rw w at h

-- ---- a module with its format written out is that module

pub known-format : (l : Loadable) {f : Format} → l.layout.format ≡ f
    → record { layout = record { format = f; parts = l.layout.parts; image = l.layout.image; entry = l.layout.entry; toc = l.layout.toc }; tables = l.tables } ≡ l
known-format l h = rw (← h) refl

-- what holds of it, and its entries applied, are those of the module
pub kept : {w l : Loadable} (P : Loadable → Type 0) → w ≡ l → P l → P w
kept P e h = rw e h

pub applied-same : {w l : Loadable} (file d from to : List ℕ) (moving : Bool) (x y : Images) → w ≡ l
    → ForPlans (relocatable_of file w) d moving from to (λ s. y ≡ apply_all (relocations_from file w 0 w.tables.nreloc) s x)
    → ForPlans (relocatable_of file l) d moving from to (λ s. y ≡ apply_all (relocations_from file l 0 l.tables.nreloc) s x)
applied-same file d from to moving x y e h = rw e at h
