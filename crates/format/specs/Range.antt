-- Parts of the file.
use Rattle.std.specs.Prelude.{ℕ, ◌+◌, List, take, drop}
use Rattle.word.specs.declared.Field.{Field}
use Rattle.word.specs.Number.{bytes_in}
use Rattle.word.specs.Zero.{first_zero}
use Rattle.format.specs.declared.FileRange.{FileRange}

abbrev pub range : ℕ → ℕ → FileRange
range start length = record { start = record { 0 = start }; length = length }

-- the bytes of a part of the file
abbrev pub bytes_of : List ℕ → FileRange → List ℕ
bytes_of file r = take r.length (drop r.start.0 file)

-- the text in a part of the file: up to its first zero, or all of it
abbrev pub text_of : List ℕ → FileRange → FileRange
text_of file r = range r.start.0 (first_zero (bytes_of file r))

-- the text at the place f of what starts at base
unfoldable pub text_in : Field → ℕ → List ℕ → FileRange
text_in f base file = text_of file (range (base + f.offset) (bytes_in f.width))
