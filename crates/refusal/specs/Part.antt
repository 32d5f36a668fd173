-- A part of the file that is handed back, or a refusal.
use Rattle.std.specs.Prelude.{ℕ, ◌+◌, ◌≤◌, List, [], length, Err, Ok, Result}
use Rattle.format.specs.declared.FileRange.{FileRange}
use Rattle.format.specs.Range.{range, bytes_of}
use Rattle.refusal.specs.declared.Refusal.{Refusal}

-- the very bytes of the file: none on a refusal
abbrev pub range_bytes : List ℕ → Result FileRange Refusal → List ℕ
range_bytes file (Ok r) = bytes_of file r
range_bytes file (Err x) = []

-- a part that is found lies in a file of `len` bytes
abbrev pub Within : ℕ → Result FileRange Refusal → Type 0
Within len (Ok r) = r.start.0 + r.length ≤ len
Within len (Err x) = Unit {0}

-- where it lies: an empty range on a refusal
abbrev pub range_found : Result FileRange Refusal → FileRange
range_found (Ok r) = r
range_found (Err x) = range 0 0
