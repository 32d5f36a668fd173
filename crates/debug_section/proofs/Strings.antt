-- The strings of the debug section. Assumes nothing.
use Prim.Native.Nat.{ℕ, ◌+◌, ◌-◌, ◌≤◌, ◌<◌}
use mathlib.Core.Path.{◌≡◌, refl}
use mathlib.Core.Bool.{Bool, true, false, not, ◌||◌}
use mathlib.Core.List.{List}
use native.Mathlib.Omega.{arith}
use borrow.Author.Tests.{lt-ltb, le-ltb, ltb-false, not-true}
use lib.Dec.{ltb}
use lib.ListN.{length}
use Rattle.word.specs.declared.Field.{Field}
use Rattle.word.specs.Number.{bytes_in, field_in}
use Rattle.word.specs.Test.{past}
use Rattle.word.proofs.Test.{past-not, or-first, or-second}
use Rattle.format.specs.declared.Format.{Format}
use Rattle.format.specs.declared.Format.TheVariants.{Xcoff32, Xcoff64}
use Rattle.format.specs.declared.FileRange.{FileRange}
use Rattle.debug_section.specs.Debug.{length_field, length_width, length_at, leaves, has_string, string_range, DebugInside}
use Rattle.std.specs.Prelude.{None, Option, Some}

-- the length before a string is inside the file where the section is
pub length-placed : (f : Format) (d : FileRange) (o : ℕ) {l : Field} {n len : ℕ} → l ≡ length_field f → n ≡ bytes_in l.width → d.start.0 + d.length ≤ len → length_width f ≤ o → o ≤ d.length
    → (n ≤ d.start.0 + o) × (d.start.0 + o - n + l.offset + bytes_in l.width ≤ len)
length-placed f d o {l} {n} {len} e z h low high = rw (z, e) (by-format f low)
  where
    by-format : (f : Format) → length_width f ≤ o → (length_width f ≤ d.start.0 + o) × (d.start.0 + o - length_width f + (length_field f).offset + length_width f ≤ len)
    by-format Xcoff32 k = (omega arith, omega arith)
    by-format Xcoff64 k = (omega arith, omega arith)

-- how wide it is, as the code finds it
pub width_is : (f : Format) {l : Field} {n : ℕ} → l ≡ length_field f → n ≡ bytes_in l.width → n ≡ length_width f
width_is f e z = rw e at z

pub length-read : (f : Format) (file : List ℕ) (d : FileRange) (o : ℕ) {l : Field} {n r : ℕ} → l ≡ length_field f → n ≡ bytes_in l.width → r ≡ field_in l (d.start.0 + o - n) file → r ≡ length_at f file d o
unfolding length_at
length-read f file d o e z q = rw (width_is f e z, e) at q

module _ (f : Format) (file : List ℕ) (d : FileRange) (o : ℕ) where
  -- the length leaves the section, before it or behind it
  pub length_before : o < length_width f → false ≡ has_string f file (Some d) o
  unfolding has_string leaves
  length_before h = rw (lt-ltb o (length_width f) h) refl

  pub length-behind : length_width f ≤ o → d.length < o → false ≡ has_string f file (Some d) o
  unfolding has_string leaves
  length-behind k h = rw (le-ltb o (length_width f) k, lt-ltb d.length o h) refl

  -- the length is inside: by the string
  pub string-judged : {n : ℕ} {p : Bool} → length_width f ≤ o → o ≤ d.length → n ≡ length_at f file d o → p ≡ past o n d.length → not p ≡ has_string f file (Some d) o
  unfolding has_string leaves
  string-judged k h e q = rw (le-ltb o (length_width f) k, le-ltb d.length o h, q, e) refl

  -- a string that is there lies inside the section, its length before it
  pub record StringInside : Type 0 where
    pub low : length_width f ≤ o
    pub high : o + length_at f file d o ≤ d.length

  pub string-inside : has_string f file (Some d) o ≡ true → StringInside
  unfolding has_string leaves
  string-inside e =
      let a = ltb o (length_width f) in
      let b = ltb d.length o in
      let p = past o (length_at f file d o) d.length in
      let none : ((a || b) || p) ≡ false = not-true ((a || b) || p) e in
      record { low = ltb-false o (length_width f) (or-first a b (or-first (a || b) p none)); high = past-not o (length_at f file d o) d.length (or-second (a || b) p none) }

-- the bytes of a string that is there are in the file
pub range_inside : (f : Format) (file : List ℕ) (d : Option FileRange) (o : ℕ) → DebugInside (length file) d → has_string f file d o ≡ true → (string_range f file d o).start.0 + (string_range f file d o).length ≤ length file
unfolding string_range
range_inside f file None o h e = omega arith
range_inside f file (Some d) o h e = omega (arith, h, (string-inside f file d o e).high)
