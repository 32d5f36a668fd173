-- Changes of a file that stay in a range, and one done to each entry of a table.
use Rattle.std.specs.Prelude.{◌≡◌, List, ℕ, zero, suc, ◌+◌, length, get_or}
use Rattle.word.specs.declared.Field.{Field}
use Rattle.word.specs.Number.{bytes_in}
use Rattle.format.specs.declared.FileRange.{FileRange}
use Rattle.update.specs.Update.{put_field}
use Rattle.shared_range.specs.Shared.{Holds}

-- v put at the place f of what starts at base
abbrev pub put_in : Field → ℕ → ℕ → List ℕ → List ℕ
put_in f base v bs = put_field (bytes_in f.width) (base + f.offset) v bs

-- a change of each entry of a table: of entry k, then k + 1, .., n of them
unfoldable pub each_from : (ℕ → List ℕ → List ℕ) → ℕ → ℕ → List ℕ → List ℕ
each_from put k zero bs = bs
each_from put k (suc n) bs = each_from put (suc k) n (put k bs)

-- a change of a file that keeps its length, changes nothing outside the range, and makes each byte from the byte at its place alone
pub record Local (r : FileRange) (put : List ℕ → List ℕ) : Type 0 where
  pub keeps : (bs : List ℕ) → length (put bs) ≡ length bs
  pub outside : (bs : List ℕ) (k : ℕ) → (Holds r k → ⊥) → get_or (put bs) k 0 ≡ get_or bs k 0
  pub bytewise : (xs ys : List ℕ) (k : ℕ) → length xs ≡ length ys → get_or xs k 0 ≡ get_or ys k 0 → get_or (put xs) k 0 ≡ get_or (put ys) k 0
