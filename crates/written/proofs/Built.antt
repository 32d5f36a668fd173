-- The images built from a file, by its sections. Assumes nothing.
use mathlib.Core.Path.{◌≡◌, refl, sym, ◌∙◌, ap}
use mathlib.Core.Bool.{Bool, true, false, cond}
use mathlib.Core.List.{List, ◌++◌}
use Prim.Native.Nat.{ℕ, zero, suc, ◌+◌, ◌-◌, ◌≤◌, ◌<◌}
use native.Mathlib.Decide.{dec_lt}
use native.Mathlib.Omega.{arith}
use lib.ListN.{length, get_or, take, drop, replicate, length-drop, length-replicate, get_or-replicate, take-append-drop}
use lib.Seq.{ext_get_or, get_or-drop, get_or-append-add}
use Rattle.word.proofs.Number.{length-field}
use Rattle.relocation.specs.Relocation.{place_at}
use Rattle.loadable.specs.declared.Loadable.{Loadable}
use Rattle.loadable.specs.Valid.{Valid}
use Rattle.history.specs.declared.Relocation.{Relocation}
use Rattle.history.specs.Images.{apply_all, All, InField}
use Rattle.history.specs.Plan.{Relocatable, Plan, displacements, built_images}
use Rattle.history.proofs.Apply.{apply_all-lengths, length-in}
use Rattle.history.proofs.Bytes.{apply_all-outside}
use Rattle.plan.specs.Relocatable.{relocation_at, relocations_from, raw_data, relocatable_of}
use Rattle.plan.proofs.Raw.{length-raw-text, length-raw-data}

-- ---- the data image behind the data section stays 0

pub all_from : (file : List ℕ) (l : Loadable) (P : Relocation → Type 0) (i n : ℕ) → ((j : ℕ) → i ≤ j → j < i + n → P (relocation_at file l j)) → All P (relocations_from file l i n)
unfolding relocations_from
all_from file l P i zero h = tt
all_from file l P i (suc n) h = (h i (omega arith) (omega arith), all_from file l P (suc i) n (λ j a b. h j (omega arith) (omega arith)))

pub part_length : (n start : ℕ) (file : List ℕ) → (0 < n → start + n ≤ length file) → Dec (0 < n) → length (take n (drop start file)) ≡ n
part_length n start file h (yes s) = length-field n start file (h s)
part_length n start file h (no s) = let e : n ≡ 0 = omega arith in rw e refl

module _ (file : List ℕ) (l : Loadable) (v : Valid file l) (p : Plan) where
  abbrev m : Relocatable
  m = relocatable_of file l

  abbrev size : ℕ
  size = l.layout.parts.«data».size

  data-part : (t : Bool) (a b : ℕ) → t ≡ false → cond t a b ≡ b
  data-part true a b e = let z : ◌≡◌ {A = ℕ} 0 1 = cc in absurd (omega arith)
  data-part false a b e = refl

  -- no field lies behind the data section
  no_field : (k : ℕ) → size ≤ k → All (λ e. InField false k e → ⊥) m.entries
  no_field k h = unfold relocatable_of in all_from file l (λ e. InField false k e → ⊥) 0 l.tables.nreloc (λ j a b. at j (omega arith))
    where
      at : (j : ℕ) → j < l.tables.nreloc → InField false k (relocation_at file l j) → ⊥
      at j b = unfold relocation_at in
          (λ f. let place = place_at file l.layout.format l.layout.parts l.tables j in
          let i = (v.inside j b).inside in
          let d = data-part place.text l.layout.parts.text.size l.layout.parts.«data».size f.0 in
          let low = f.1 in
          let high = f.2 in
          omega arith)

  raw-zero : (j : ℕ) → size + j < l.layout.image → get_or m.raw.dat (size + j) 0 ≡ 0
  raw-zero j b =
      unfold relocatable_of raw_data in
      (let part = take size (drop l.layout.parts.«data».start.0 file) in
      let n : length part ≡ size = part_length size l.layout.parts.«data».start.0 file v.sections.«data» (dec_lt 0 size) in
      ap (λ (k : ℕ). get_or (part ++ replicate (l.layout.image - size) 0) (k + j) 0) (sym n)
      ∙ get_or-append-add part (replicate (l.layout.image - size) 0) j 0
      ∙ get_or-replicate (l.layout.image - size) j 0 0 (omega arith))

  pub length-built : length (built_images m p).dat ≡ l.layout.image
  unfolding built_images relocatable_of
  length-built = length-in false (apply_all m.entries (displacements m p) m.raw) m.raw (apply_all-lengths m.entries (displacements m p) m.raw) ∙ length-raw-data file l v

  pub length-built-text : length (built_images m p).text ≡ l.layout.parts.text.size
  unfolding built_images relocatable_of
  length-built-text = length-in true (apply_all m.entries (displacements m p) m.raw) m.raw (apply_all-lengths m.entries (displacements m p) m.raw) ∙ length-raw-text file l v

  built-zero : (j : ℕ) → size + j < l.layout.image → get_or (built_images m p).dat (size + j) 0 ≡ 0
  unfolding built_images
  built-zero j b = apply_all-outside false (size + j) m.entries (displacements m p) m.raw (no_field (size + j) (omega arith)) ∙ raw-zero j b

  -- the built data image is its data section and zeros
  pub built-data : take size (built_images m p).dat ++ replicate (l.layout.image - size) 0 ≡ (built_images m p).dat
  built-data =
      let d = (built_images m p).dat in
      ap (λ (r : List ℕ). take size d ++ r) (sym tail) ∙ take-append-drop size d
    where
      lengths : length (drop size (built_images m p).dat) ≡ length {A = ℕ} (replicate (l.layout.image - size) 0)
      lengths = length-drop size (built_images m p).dat ∙ ap (λ (n : ℕ). n - size) length-built ∙ sym (length-replicate {0} {A = ℕ} (l.layout.image - size) 0)

      tail : drop size (built_images m p).dat ≡ replicate (l.layout.image - size) 0
      tail =
          ext_get_or 0 (drop size (built_images m p).dat) (replicate (l.layout.image - size) 0) lengths
          (λ j b. let q : j < l.layout.image - size = omega (arith, length-drop size (built_images m p).dat, length-built) in
          get_or-drop size (built_images m p).dat j 0 ∙ built-zero j (omega arith) ∙ sym (get_or-replicate (l.layout.image - size) j 0 0 q))
