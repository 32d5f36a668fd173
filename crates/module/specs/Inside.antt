-- What an accepted module guarantees of its sections.
use Rattle.std.specs.Prelude.{ℕ, ◌+◌, ◌≤◌, ◌<◌, ◌≡◌, true, List, length}
use Rattle.format.specs.Limit.{file_limit, data_image_limit}
use Rattle.parts.specs.declared.Part.{Part}
use Rattle.module.specs.declared.Module.{Module}
use Rattle.module.specs.Module.{image_length, is_anchor}

-- a section that has bytes has them in the file's `len` bytes
abbrev pub PartInside : ℕ → Part → Type 0
PartInside len p = 0 < p.size → p.start.0 + p.size ≤ len

pub record ModuleInside (file : List ℕ) (m : Module) : Type 0 where
  pub small : length file ≤ file_limit
  pub text : PartInside (length file) m.parts.text
  pub «data» : PartInside (length file) m.parts.«data»
  pub loader : PartInside (length file) m.parts.loader
  -- neither data nor bss is the text section
  pub apart : (m.parts.«data».number.0 ≡ m.parts.text.number.0 → ⊥) × (m.parts.bss.number.0 ≡ m.parts.text.number.0 → ⊥)
  pub image : m.image ≡ image_length m.parts
  pub holds : m.parts.«data».size ≤ m.image
  pub few : m.image ≤ data_image_limit
  pub entry : is_anchor m.parts m.entry.section ≡ true
  pub toc : is_anchor m.parts m.toc.section ≡ true
