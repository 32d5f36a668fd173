-- Bench figures of document 01, computed from the definitions. Assumes nothing.
use mathlib.Core.Path.{◌≡◌, refl}
use mathlib.Core.Bool.{true, false}
use mathlib.Core.List.{[], ◌∷◌, map}
use Rattle.format.specs.declared.Format.TheVariants.{Xcoff32, Xcoff64}
use Rattle.parts.specs.declared.Part.{Part}
use Rattle.relocation.specs.Relocation.{is_width, width_bits, subtracts, is_inside, own_check, is_good, is_type, is_thread}
use Prim.Native.Nat.{ℕ}
use Rattle.format.specs.declared.Format.{Format}
use Rattle.parts.specs.declared.Parts.{Parts}
use Rattle.refusal.specs.declared.Refusal.TheVariants.{Lrel}
use Rattle.relocation.specs.declared.RelocationEntry.{RelocationEntry}
use Rattle.std.specs.Prelude.{Err}

-- P7: type 3F01 subtracts, and is 64 bits wide
pub p7 : (subtracts 0x3F01 ≡ true) × (width_bits 0x3F01 ≡ 64) × (is_width Xcoff64 (width_bits 0x3F01) ≡ true)
unfolding is_width
p7 = (refl, refl, refl)

-- P8: an entry of type 0F00 is LREL, whatever else it holds: its width is 16
pub p8 : (f : Format) (p : Parts) (nsyms i : ℕ) (e : RelocationEntry) → e.rtype ≡ 0x0F00 → is_thread e ≡ false → own_check f p nsyms i e ≡ Err (Lrel (record { 0 = i }))
unfolding own_check is_good is_width is_type
p8 Xcoff32 p nsyms i e t h = rw (h, t) refl
p8 Xcoff64 p nsyms i e t h = rw (h, t) refl

-- a section at 10000000 of 100 hex bytes
unfoldable pub section : Part
section = record { number = record { 0 = 1 }; address = record { 0 = 0x10000000 }; size = 0x100; start = record { 0 = 0 }; raw = true }

-- a 32-bit field at 100000FC is inside it, one at 100000FD is not
pub last-field : map (λ a. is_inside section (record { address = record { 0 = a }; symbol = 0; rtype = 0x1F00; scnum = 1 })) (0x100000FC ∷ 0x100000FD ∷ []) ≡ true ∷ false ∷ []
unfolding section is_inside
last-field = refl
