-- The laws of where a name lies. Assumes nothing.
use Prim.Native.Nat.{ℕ, zero, suc, ◌<◌}
use mathlib.Core.Path.{◌≡◌, sym, ◌∙◌}
use mathlib.Core.Bool.{Bool, true, false, cond}
use mathlib.Core.List.{List, [], ◌∷◌}
use native.Mathlib.Omega.{arith}
use borrow.Author.Tests.{eq-eqb}
use lib.Dec.{eqb}
use lib.ListN.{length, take, drop, get_or, length-take}
use lib.Seq.{get_or-take}
use Rattle.word.specs.Zero.{first_zero}
use Rattle.word.proofs.Zero.{zero-within}
use Rattle.format.specs.declared.FileRange.{FileRange}
use Rattle.format.specs.Range.{bytes_of, text_of}
use Rattle.format.proofs.Ranges.{length_part}
use Rattle.refusal.specs.Part.{range_bytes, Within}
use Rattle.symbol.specs.Name.{name_from}
use Rattle.std.specs.Prelude.{Err, Ok, Result}
use Rattle.refusal.specs.declared.Refusal.{Refusal}

-- ---- where a name lies

-- no byte is zero
abbrev pub NoZero : List ℕ → Type 0
NoZero s = (k : ℕ) → k < length s → get_or s k 0 ≡ 0 → ⊥

zero-before : (s : List ℕ) (k : ℕ) → k < first_zero s → get_or s k 0 ≡ 0 → ⊥
unfolding first_zero
zero-before [] k h e = absurd (omega arith)
zero-before (x ∷ s) zero h e = let z = rw (eq-eqb x 0 e) at h in omega arith
zero-before (x ∷ s) (suc k) h e = zero-before s k (later (eqb x 0) h) e
  where
    later : (b : Bool) → suc k < cond b 0 (suc (first_zero s)) → k < first_zero s
    later true h = absurd (omega arith)
    later false h = omega arith

-- the text in a part of the file
text-no-zero : (file : List ℕ) (r : FileRange) → NoZero (bytes_of file (text_of file r))
text-no-zero file r k h e =
    let p = r.start.0 in
    let m = r.length in
    let s = take m (drop p file) in
    let n = first_zero s in
    let l = length-take n (drop p file) in
    let w = zero-within s in
    let v = length-take m (drop p file) in
    zero-before s k (omega arith) (get_or-take m (drop p file) k 0 (omega arith) ∙ sym (get_or-take n (drop p file) k 0 (omega arith)) ∙ e)

pub name-no-zero-in : (file : List ℕ) (a : Result FileRange Refusal) → NoZero (range_bytes file (name_from file a))
name-no-zero-in file (Err x) = λ k h. absurd (omega arith)
name-no-zero-in file (Ok r) = text-no-zero file r

-- a name is no longer than the bytes that it may take
pub name-within-room : (file : List ℕ) (a : Result FileRange Refusal) → Within (length file) a → Within (length file) (name_from file a)
name-within-room file (Err x) h = tt
name-within-room file (Ok r) h = omega (arith, zero-within (bytes_of file r), length_part file r h)
