-- What is claimed of the record text.
use Rattle.std.specs.Prelude.{List, ◌≡◌, ℕ, ◌+◌, ◌≤◌, ◌<◌, length, take}
use Rattle.update.specs.Update.{Bytes}
use Rattle.record.specs.Record.{Slot, written, text_length, data_length}

-- data bytes for every line of a shape
pub record Fills (ss : List Slot) (ds : List ℕ) : Type 0 where
  pub many : length ds ≡ data_length ss
  pub bytes : Bytes ds

-- t is the text of the shape with some data bytes
pub record IsText (ss : List Slot) (t : List ℕ) : Type 0 where
  pub dat : List ℕ
  pub fills : Fills ss dat
  pub same : t ≡ written ss dat

-- the first k lines of t are those of the shape with the data bytes ds
abbrev pub FirstLines : List Slot → ℕ → List ℕ → List ℕ → Type 0
FirstLines ss k t ds = take (text_length (take k ss)) t ≡ take (text_length (take k ss)) (written ss ds)

-- line k + 1 is the first that is bad: the k before it are the lines of some text of the shape; with it no text has them; or k is all lines, and more follows
pub record BadAfter (ss : List Slot) (k : ℕ) (t : List ℕ) : Type 0 where
  pub few : k ≤ length ss
  pub dat : List ℕ
  pub fills : Fills ss dat
  pub before : FirstLines ss k t dat
  pub bad : (ds : List ℕ) → Fills ss ds → k < length ss → FirstLines ss (k + 1) t ds → ⊥
  pub more : k ≡ length ss → text_length ss < length t
