-- Laws of parts of the file. Assumes nothing.
use Prim.Native.Nat.{ℕ, ◌+◌, ◌≤◌}
use mathlib.Core.List.{List}
use native.Mathlib.Omega.{arith}
use lib.ListN.{length, take, drop, length-take, length-drop}
use Rattle.word.specs.declared.Field.{Field}
use Rattle.word.specs.Number.{bytes_in}
use Rattle.word.proofs.Zero.{zero-within}
use Rattle.format.specs.Range.{text_in, bytes_of}
use Rattle.format.proofs.Layouts.{FieldInside}
use mathlib.Core.Path.{◌≡◌}
use lib.Seq.{length-take-le}
use Rattle.format.specs.declared.FileRange.{FileRange}

-- the text of a field that is in the file is in the file
pub text-inside : (f : Field) (base : ℕ) (file : List ℕ) → FieldInside f base (length file) → (text_in f base file).start.0 + (text_in f base file).length ≤ length file
unfolding text_in
text-inside f base file h =
    let part = take (bytes_in f.width) (drop (base + f.offset) file) in
    omega (arith, zero-within part, length-take (bytes_in f.width) (drop (base + f.offset) file))

-- a part of the file has its length
pub length_part : (file : List ℕ) (r : FileRange) → r.start.0 + r.length ≤ length file → length (bytes_of file r) ≡ r.length
length_part file r h = length-take-le r.length (drop r.start.0 file) (rw length-drop (omega arith))
