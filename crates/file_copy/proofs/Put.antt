-- Numbers of which the low bytes are put. Assumes nothing.
use mathlib.Core.Path.{◌≡◌, refl, sym, ◌∙◌}
use mathlib.Core.List.{List}
use Prim.Native.Nat.{ℕ, ◌+◌, ◌/◌, ◌%◌, ◌^◌, ◌≤◌, ◌<◌}
use native.Mathlib.Nat.{zero-add, add-zero}
use native.Mathlib.Omega.{arith}
use lib.ListN.{set}
use Rattle.update.specs.Update.{bytes_of_number, put_field}
use Rattle.update.proofs.Laws.{put-split, put_one}

-- what passes the width is dropped
pub put_low : (w off v : ℕ) (bs : List ℕ) → put_field w off (v % 256 ^ w) bs ≡ put_field w off v bs
put_low w off v bs =
    let e : put_field w off v bs ≡ put_field w (off + 0) (v % 256 ^ w) (put_field 0 off (v / 256 ^ w) bs) = rw (zero-add w) at (put-split 0 w off v bs) in
    let z : put_field 0 off (v / 256 ^ w) bs ≡ bs = unfold put_field bytes_of_number in refl in
    sym (e ∙ rw (z, add-zero off) refl)

pub put_byte : (off v : ℕ) (bs : List ℕ) → set bs off (v % 256) ≡ put_field 1 off v bs
put_byte off v bs = sym (put_one off (v % 256) bs (omega arith)) ∙ put_low 1 off v bs

pub below : (a n : ℕ) → a + 1 ≤ n → a < n
below a n h = omega arith
