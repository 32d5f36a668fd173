-- What a visibility that is accepted says. Assumes nothing.
use Prim.Native.Nat.{ℕ, ◌≤◌}
use mathlib.Core.Path.{◌≡◌, refl}
use mathlib.Core.Bool.{Bool, true, false, cond, ◌&&◌}
use borrow.Author.Tests.{ltb-false}
use lib.Dec.{ltb}
use Rattle.visibility.specs.Visibility.{is_claimed, visibility_bits, is_unknown, visibility_of}
use Rattle.std.specs.Prelude.{None, Option, Some}

-- one of the five
abbrev pub Known : Option ℕ → Type 0
Known None = Unit {0}
Known (Some n) = n ≤ 4

pub visibility-known : (version2 : Bool) (sclass ntype : ℕ) → is_unknown version2 sclass ntype ≡ false → Known (visibility_of version2 sclass ntype)
unfolding is_unknown visibility_of
visibility-known version2 sclass ntype = by-claim (is_claimed version2 sclass)
  where
    by-claim : (b : Bool) → (b && ltb 4 (visibility_bits ntype)) ≡ false → Known (cond b (Some (visibility_bits ntype)) None)
    by-claim true e = ltb-false 4 (visibility_bits ntype) e
    by-claim false e = tt

-- nothing is said of XCOFF64, of another version, nor of another class
pub not-claimed : (version2 : Bool) (sclass ntype : ℕ) → is_claimed version2 sclass ≡ false → visibility_of version2 sclass ntype ≡ None
unfolding visibility_of
not-claimed version2 sclass ntype e = rw e refl
