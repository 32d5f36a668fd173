-- Relocation entries applied in a copy of the file: one and all. Assumes nothing.
use mathlib.Core.Path.{◌≡◌, refl, sym, ◌∙◌, ap}
use mathlib.Core.Bool.{Bool, true, false, cond}
use mathlib.Core.List.{List}
use Prim.Native.Nat.{ℕ, ◌+◌, ◌-◌, ◌^◌, ◌≤◌, ◌<◌}
use native.Mathlib.Omega.{arith}
use lib.ListN.{length}
use lib.IntN.{pos}
use Rattle.update.specs.Update.{remainder, add_field}
use Rattle.format.specs.Limit.{file_limit}
use Rattle.relocation.specs.Relocation.{bytes_wide}
use Rattle.parts.specs.declared.Parts.{Parts}
use Rattle.loadable.specs.declared.Loadable.{Loadable}
use Rattle.loadable.specs.Valid.{Valid}
use Rattle.history.specs.declared.Relocation.{Relocation}
use Rattle.history.specs.Images.{Shifts, signed}
use Rattle.plan.specs.Relocatable.{relocation_at, relocations_from}
use Rattle.plan.proofs.Symbols.{entries-turn, entries-end}
use Rattle.apply.proofs.Stands.{stands}
use Rattle.apply.proofs.Entries.{field_alike, field-inside}
use Rattle.rewrite.specs.InPlace.{place_entry, place_all}

bytes-some : (b : Bool) → 0 < bytes_wide b
bytes-some true = omega arith
bytes-some false = omega arith

module _ (file : List ℕ) (l : Loadable) (i : ℕ) (e : Relocation) where
  -- a field of text is where the file has the section's bytes
  module _ (v : Valid file l) (h : i < l.tables.nreloc) (r : e ≡ relocation_at file l i) where
    pub text-place : e.place.text ≡ true → (l.layout.parts.text.start.0 + e.place.offset + bytes_wide e.place.wide ≤ length file) × (length file ≤ file_limit)
    text-place t =
        let b : e.place.offset + bytes_wide e.place.wide ≤ l.layout.parts.text.size = rw t at (field-inside file l i e v h r) in
        (let w = bytes-some e.place.wide in let s = v.sections.text (omega arith) in omega arith, v.entries.small)

    pub data-place : e.place.text ≡ false → (l.layout.parts.«data».start.0 + e.place.offset + bytes_wide e.place.wide ≤ length file) × (length file ≤ file_limit)
    data-place t =
        let b : e.place.offset + bytes_wide e.place.wide ≤ l.layout.parts.«data».size = rw t at (field-inside file l i e v h r) in
        (let w = bytes-some e.place.wide in let s = v.sections.«data» (omega arith) in omega arith, v.entries.small)

  -- z is the number by which the entry's field is changed
  module _ (s : Shifts) (z : ℕ) (xs ys : List ℕ) (r : e ≡ relocation_at file l i) (h : z ≡ remainder (s e.symbol) (2 ^ 64)) where
    placed : (start : ℕ) → cond e.place.text l.layout.parts.text.start.0 l.layout.parts.«data».start.0 ≡ start
        → ys ≡ add_field (bytes_wide e.place.wide) (start + e.place.offset) (signed e.minus (pos z)) xs → ys ≡ place_entry l.layout.parts (relocation_at file l i) s xs
    unfolding place_entry
    placed start q b =
        b ∙ field_alike e.place.wide e.minus (start + e.place.offset) (pos z) (s e.symbol) xs (stands z (s e.symbol) h)
        ∙ ap (λ (n : ℕ). add_field (bytes_wide e.place.wide) (n + e.place.offset) (signed e.minus (s e.symbol)) xs) (sym q)
        ∙ ap (λ (t : Relocation). place_entry l.layout.parts t s xs) r

    pub text-placed : e.place.text ≡ true → ys ≡ add_field (bytes_wide e.place.wide) (l.layout.parts.text.start.0 + e.place.offset) (signed e.minus (pos z)) xs
        → ys ≡ place_entry l.layout.parts (relocation_at file l i) s xs
    text-placed t b = placed l.layout.parts.text.start.0 (rw t refl) b

    pub data-placed : e.place.text ≡ false → ys ≡ add_field (bytes_wide e.place.wide) (l.layout.parts.«data».start.0 + e.place.offset) (signed e.minus (pos z)) xs
        → ys ≡ place_entry l.layout.parts (relocation_at file l i) s xs
    data-placed t b = placed l.layout.parts.«data».start.0 (rw t refl) b

-- ---- a loop over the entries, by the work that is left

module _ (file : List ℕ) (l : Loadable) (p : Parts) (s : Shifts) (n : ℕ) where
  pub place-turn : (i : ℕ) (xs ys : List ℕ) → i < n → ys ≡ place_entry p (relocation_at file l i) s xs
      → place_all p (relocations_from file l (i + 1) (n - (i + 1))) s ys ≡ place_all p (relocations_from file l i (n - i)) s xs
  unfolding place_all
  place-turn i xs ys h e = rw (e, entries-turn file l n i h) refl

  pub place_end : (i : ℕ) (bs : List ℕ) → n ≤ i → place_all p (relocations_from file l i (n - i)) s bs ≡ bs
  unfolding place_all
  place_end i bs h = rw (entries-end file l n i h) refl
