-- Laws of the places of the loader section's tables. Assumes nothing.
use Prim.Native.Nat.{ℕ, ◌+◌, ◌*◌, ◌≤◌, ◌<◌}
use mathlib.Core.Path.{◌≡◌}
use mathlib.Core.Bool.{false}
use native.Mathlib.Omega.{arith}
use lib.Dec.{lit≤}
use borrow.Author.Tests.{eq-eqb, ne_eqb}
use Rattle.word.proofs.Test.{past-not}
use Rattle.format.specs.declared.Format.{Format}
use Rattle.format.specs.declared.Format.TheVariants.{Xcoff32, Xcoff64}
use Rattle.format.specs.declared.LoaderLayout.{LoaderLayout}
use Rattle.format.specs.declared.SymbolLayout.{SymbolLayout}
use Rattle.format.specs.Layout.{loader_layout, loader_symbol_length, relocation_layout, symbol_layout}
use Rattle.format.proofs.Layouts.{FieldInside}
use Rattle.loader_header.specs.Header.{table_past, place_of}

-- the loader header holds its first five numbers
pub header-long : (f : Format) → 32 ≤ (loader_layout f).length
header-long Xcoff32 = lit≤ tt
header-long Xcoff64 = lit≤ tt

-- and its other fields, in a file of n bytes
pub record LoaderInside (l : LoaderLayout) (base n : ℕ) : Type 0 where
  pub impoff : FieldInside l.impoff base n
  pub stlen : FieldInside l.stlen base n
  pub stoff : FieldInside l.stoff base n

loader-fields : (f : Format) (base n : ℕ) → base + (loader_layout f).length ≤ n → LoaderInside (loader_layout f) base n
loader-fields Xcoff32 base n h = record { impoff = omega arith; stlen = omega arith; stoff = omega arith }
loader-fields Xcoff64 base n h = record { impoff = omega arith; stlen = omega arith; stoff = omega arith }

pub loader-inside : (f : Format) {l : LoaderLayout} (base n : ℕ) → l ≡ loader_layout f → base + (loader_layout f).length ≤ n → LoaderInside l base n
loader-inside f base n e h = rw e (loader-fields f base n h)

-- a relocation entry is at most 16 bytes
pub entry-short : (f : Format) (n : ℕ) → n < 4294967296 → n * (relocation_layout f).length < 68719476736
entry-short Xcoff32 n h = omega arith
entry-short Xcoff64 n h = omega arith

-- a table that is not empty and does not pass the section ends in it
pub table-in : (off len size : ℕ) → table_past off len size ≡ false → (len ≡ 0 → ⊥) → off + len ≤ size
unfolding table_past
table-in off len size e n = past-not off len size (rw (ne_eqb len 0 n) at e)

pub place-empty : (start off len : ℕ) → len ≡ 0 → place_of start off len ≡ start
place-empty start off len e = rw (eq-eqb len 0 e)

pub place-full : (start off len : ℕ) → (len ≡ 0 → ⊥) → place_of start off len ≡ start + off
place-full start off len n = rw (ne_eqb len 0 n)

-- value and section number of a loader symbol, in a file of n bytes
entry-fields : (f : Format) (base n : ℕ) → base + loader_symbol_length ≤ n → FieldInside (symbol_layout f).value base n × FieldInside (symbol_layout f).scnum base n
entry-fields Xcoff32 base n h = (omega arith, omega arith)
entry-fields Xcoff64 base n h = (omega arith, omega arith)

pub entry-inside : (f : Format) {l : SymbolLayout} (base n : ℕ) → l ≡ symbol_layout f → base + loader_symbol_length ≤ n → FieldInside l.value base n × FieldInside l.scnum base n
entry-inside f base n e h = rw e (entry-fields f base n h)
