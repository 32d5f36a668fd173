-- The raw images of an accepted module are as long as its text section and its data image. Assumes nothing.
use mathlib.Core.Path.{◌≡◌, refl, ◌∙◌}
use mathlib.Core.List.{List}
use Prim.Native.Nat.{ℕ, ◌-◌, ◌≤◌, ◌<◌}
use native.Mathlib.Decide.{dec_lt}
use native.Mathlib.Omega.{arith}
use lib.ListN.{length, take, drop, replicate, length-append, length-replicate}
use Rattle.word.proofs.Number.{length-field}
use Rattle.parts.specs.declared.Part.{Part}
use Rattle.module.specs.Inside.{PartInside}
use Rattle.loadable.specs.declared.Loadable.{Loadable}
use Rattle.loadable.specs.Valid.{Valid}
use Rattle.plan.specs.Relocatable.{raw_text, raw_data}

-- a section's bytes in the file are as many as its size
length_part : (file : List ℕ) (p : Part) → PartInside (length file) p → Dec (0 < p.size) → length (take p.size (drop p.start.0 file)) ≡ p.size
length_part file p h (yes s) = length-field p.size p.start.0 file (h s)
length_part file p h (no s) = let e : p.size ≡ 0 = omega arith in rw e refl

module _ (file : List ℕ) (l : Loadable) (v : Valid file l) where
  -- the raw text image is as long as the text section
  pub length-raw-text : length (raw_text file l.layout) ≡ l.layout.parts.text.size
  unfolding raw_text
  length-raw-text = length_part file l.layout.parts.text v.sections.text (dec_lt 0 l.layout.parts.text.size)

  -- the raw data image is as long as the data image
  pub length-raw-data : length (raw_data file l.layout) ≡ l.layout.image
  unfolding raw_data
  length-raw-data =
      let p = l.layout.parts.«data» in
      let holds : p.size ≤ l.layout.image = v.sections.holds in
      length-append (take p.size (drop p.start.0 file)) (replicate (l.layout.image - p.size) 0)
      ∙ rw (length_part file p v.sections.«data» (dec_lt 0 p.size), length-replicate) (omega arith)
