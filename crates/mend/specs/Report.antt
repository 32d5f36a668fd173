-- The report: 8 bytes for each change.
use Rattle.std.specs.Prelude.{ℕ, List, [], ◌∷◌, ◌++◌}
use Rattle.std.proofs.lemmas.List.Edits.{sets}
use Rattle.refusal.specs.Refusal.{number_of}
use Rattle.update.specs.Update.{bytes_of_number}
use Rattle.mend.specs.Mend.{Change}

-- index 4 and refusal number 4
unfoldable pub row_bytes : ℕ → ℕ → List ℕ
row_bytes index number = bytes_of_number 4 index ++ bytes_of_number 4 number

-- one behind the other
unfoldable pub report_bytes : List Change → List ℕ
report_bytes [] = []
report_bytes (c ∷ cs) = row_bytes c.index.0 (number_of c.refusal) ++ report_bytes cs

-- lent memory with these bytes from the place `at` on; the rest is untouched
unfoldable pub put_bytes : ℕ → List ℕ → List ℕ → List ℕ
put_bytes at vs bs = sets bs at vs
