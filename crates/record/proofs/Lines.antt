-- A line taken apart, how long lines are, and the shape of an image one line at a time. Assumes nothing.
use mathlib.Core.Path.{◌≡◌, refl, sym, ◌∙◌, ap}
use mathlib.Core.Bool.{true}
use mathlib.Core.List.{List, [], ◌∷◌, ◌++◌, append_assoc}
use Prim.Native.Nat.{ℕ, suc, ◌+◌, ◌-◌, ◌/◌, ◌<◌, min}
use native.Mathlib.Omega.{arith}
use lib.ListN.{length, take, drop, length-append, length-drop}
use lib.Seq.{length-take-le}
use Rattle.word.proofs.Test.{and_first, and_second}
use Rattle.update.specs.Update.{Bytes, bytes_of_number}
use Rattle.update.proofs.Laws.{length-bytes}
use Rattle.record.specs.Record.{hex_of, checksum, Slot, slot, leading, line_of, line_length, written, text_length, data_length, slots_in, image_slots, data_at, holds, line_bytes}
use Rattle.record.proofs.Hex.{hex-append, length-hex, holds-append, data-held}

-- what stands before the data, and behind it
unfoldable pub head_of : Slot → List ℕ
head_of s = 83 ∷ s.kind ∷ hex_of (leading s)

unfoldable pub tail_of : Slot → List ℕ → List ℕ
tail_of s ds = hex_of (checksum (leading s ++ ds) ∷ []) ++ (10 ∷ [])

pub length-head : (s : Slot) → length (head_of s) ≡ 12
unfolding head_of leading
length-head s = omega (arith, length-hex ((s.count + 5) ∷ bytes_of_number 4 s.address), length-bytes 4 s.address)

pub length-tail : (s : Slot) (ds : List ℕ) → length (tail_of s ds) ≡ 3
unfolding tail_of hex_of
length-tail s ds = refl

pub line-parts : (s : Slot) (ds : List ℕ) → line_of s ds ≡ head_of s ++ (hex_of ds ++ tail_of s ds)
unfolding line_of head_of tail_of
line-parts s ds =
    ap (λ (l : List ℕ). (83 ∷ s.kind ∷ l) ++ (10 ∷ []))
    (hex-append (leading s ++ ds) (checksum (leading s ++ ds) ∷ []) ∙ ap (λ (l : List ℕ). l ++ hex_of (checksum (leading s ++ ds) ∷ [])) (hex-append (leading s) ds))
    ∙ ap (λ (l : List ℕ). 83 ∷ s.kind ∷ l) (simp append_assoc)

pub length-line : (s : Slot) (ds : List ℕ) → length (line_of s ds) ≡ line_length (length ds)
length-line s ds =
    rw (line-parts s ds, length-append (head_of s) (hex_of ds ++ tail_of s ds), length-append (hex_of ds) (tail_of s ds))
    (omega (arith, length-head s, length-hex ds, length-tail s ds))

-- a line that is held is read as the bytes that it was written of
pub line_read : (t : List ℕ) (p : ℕ) (s : Slot) (ds : List ℕ) → length ds ≡ s.count → Bytes ds → holds t p (line_of s ds) ≡ true → data_at t (p + 12) s.count ≡ ds
line_read t p s ds n bs e =
    let parts = rw (line-parts s ds, holds-append t p (head_of s) (hex_of ds ++ tail_of s ds), length-head s, holds-append t (p + 12) (hex_of ds) (tail_of s ds)) at e in
    rw (sym n) (data-held t (p + 12) ds bs (and_first _ (holds t (p + 12 + length (hex_of ds)) (tail_of s ds)) (and_second (holds t p (head_of s)) _ parts)))

pub length-written : (ss : List Slot) (ds : List ℕ) → length ds ≡ data_length ss → length (written ss ds) ≡ text_length ss
unfolding written text_length data_length
length-written [] ds n = refl
length-written (s ∷ ss) ds n =
    let one : length (take s.count ds) ≡ s.count = length-take-le s.count ds (omega arith) in
    let more : length (drop s.count ds) ≡ data_length ss = simp length-drop (omega arith) in
    rw (length-append (line_of s (take s.count ds)) (written ss (drop s.count ds)))
    (omega (arith, length-line s (take s.count ds), length-written ss (drop s.count ds) more, one))

-- ---- an image's shape

pub slots-none : (a : ℕ) → image_slots a 0 ≡ []
unfolding image_slots slots_in
slots-none a = refl

pub slots-more : (a n : ℕ) → 0 < n → image_slots a n ≡ slot 51 a (min line_bytes n) ∷ image_slots (a + line_bytes) (n - line_bytes)
unfolding image_slots slots_in
slots-more a n h =
    let e : (n + 31) / 32 ≡ suc ((n - 32 + 31) / 32) = omega arith in
    rw e refl
