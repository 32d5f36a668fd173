-- LSYM by what a loader symbol's bytes hold. Assumes nothing.
use Prim.Native.Nat.{ℕ, ◌+◌, ◌%◌, ◌<◌}
use mathlib.Core.Path.{◌≡◌, refl}
use mathlib.Core.Bool.{Bool, true, false, not, ◌&&◌}
use mathlib.Core.List.{List}
use lib.Dec.{ltb}
use borrow.Author.Tests.{le-ltb}
use Rattle.format.specs.declared.Format.{Format}
use Rattle.refusal.specs.declared.Refusal.{Refusal}
use Rattle.refusal.specs.declared.Refusal.TheVariants.{Lsym}
use Rattle.refusal.specs.Order.{refuse_if}
use Rattle.parts.specs.declared.Parts.{Parts}
use Rattle.loader_header.specs.declared.LoaderTables.{LoaderTables}
use Rattle.loader_symbol.specs.declared.LoaderEntry.{LoaderEntry}
use Rattle.loader_symbol.specs.Symbol.{is_placed, entry_check}
use Rattle.std.specs.Prelude.{Err}

-- of three tests the middle one fails
second-fails : (a c : Bool) (x : Refusal) → refuse_if (not (a && false && c)) x ≡ Err x
second-fails true c x = refl
second-fails false c x = refl

module _ (file : List ℕ) (f : Format) (p : Parts) (t : LoaderTables) (k : ℕ) (e : LoaderEntry) where
  -- type low bits above 3 are LSYM
  pub type-above : 3 < e.smtype % 8 → entry_check file f p t k e ≡ Err (Lsym (k + 3))
  unfolding entry_check
  type-above h = rw (le-ltb (e.smtype % 8) 4 h) refl

  -- an import with a section or an unknown file id, another symbol with a file id or without a section of its own: LSYM
  pub not-placed : is_placed p t.nimpid e ≡ false → entry_check file f p t k e ≡ Err (Lsym (k + 3))
  unfolding entry_check
  not-placed h = rw h (second-fails (ltb (e.smtype % 8) 4) _ _)
