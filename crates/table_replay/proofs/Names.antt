-- Names that are read from a script. Assumes nothing.
use mathlib.Core.Path.{◌≡◌, refl, ◌∙◌, ap}
use mathlib.Core.List.{List, map}
use Prim.Native.Nat.{ℕ, ◌+◌, ◌%◌, ◌≤◌, ◌<◌}
use native.Mathlib.Numerals.{add-one}
use native.Mathlib.Omega.{arith}
use lib.ListN.{length, get_or, take, drop, set, replicate, length-map, length-drop, length-replicate, get_or-map}
use Rattle.std.proofs.Common.{drop_of_length-le}
use lib.Seq.{sets, drop-cons, sets-eq, take_at, length-take-le}
use Rattle.update.specs.Update.{Bytes}
use Rattle.table_replay.specs.Script.{low_byte, bytes_at}

-- a name is a list of bytes
pub bytes-name : (s : List ℕ) (from n : ℕ) → Bytes (bytes_at s from n)
unfolding bytes_at
bytes-name s from n k =
    let e : get_or (map low_byte (take n (drop from s))) k 0 ≡ get_or (take n (drop from s)) k 0 % 256 = get_or-map low_byte (take n (drop from s)) k 0 in
    omega arith

pub length-name : (s : List ℕ) (from n : ℕ) → from + n ≤ length s → length (bytes_at s from n) ≡ n
unfolding bytes_at
length-name s from n h =
    length-map (take n (drop from s)) low_byte ∙ length-take-le n (drop from s) (omega (arith, length-drop from s))

-- the loop that stores them: a byte more, and its end
module _ (s : List ℕ) (from n : ℕ) (h : from + n ≤ length s) where
  pub store-next : (p : List ℕ) (i : ℕ) → i < n → sets (set p i (get_or (take n (drop from s)) i 0 % 256)) (i + 1) (drop (i + 1) (bytes_at s from n)) ≡ sets p i (drop i (bytes_at s from n))
  unfolding bytes_at
  store-next p i l =
      let long : i < length (bytes_at s from n) = omega (arith, length-name s from n h) in
      rw (← get_or-map low_byte (take n (drop from s)) i 0, add-one i, drop-cons (bytes_at s from n) i 0 long) refl

  pub store-end : (p : List ℕ) (i : ℕ) → n ≤ i → sets p i (drop i (bytes_at s from n)) ≡ p
  store-end p i l =
      let short : length (bytes_at s from n) ≤ i = omega (arith, length-name s from n h) in
      rw (drop_of_length-le (bytes_at s from n) short) refl

  -- the stored name is what stands in front
  pub stored-front : n ≤ 33 → take n (sets (replicate 33 0) 0 (bytes_at s from n)) ≡ bytes_at s from n
  stored-front l =
      let size = length-name s from n h in
      ap (take n) (sets-eq (bytes_at s from n) (replicate 33 0) 0 (omega (arith, length-replicate {0} {A = ℕ} 33 0)))
      ∙ take_at (bytes_at s from n) (drop (0 + length (bytes_at s from n)) (replicate 33 0)) n size
