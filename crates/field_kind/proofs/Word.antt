-- A branch word set to its sum has that added. Assumes nothing.
use mathlib.Core.Path.{◌≡◌, ◌∙◌, ap}
use mathlib.Core.List.{List}
use Prim.Native.Nat.{ℕ, ◌+◌, ◌*◌, ◌/◌, ◌%◌, ◌<◌}
use native.Mathlib.Nat.{mod-eq_of_lt, add-mod}
use native.Mathlib.Omega.{arith}
use lib.IntN.{pos}
use Rattle.word.specs.Number.{field_at}
use Rattle.update.specs.Update.{put_field, update, remainder}
use Rattle.field_kind.specs.Field.{branch_limit, add_low}

pub word_sum : (v d r : ℕ) → v < 4294967296 → r ≡ v / branch_limit * branch_limit + (v % branch_limit + d % branch_limit) % branch_limit → r ≡ add_low (pos d) v
unfolding add_low remainder
word_sum v d r h e =
    let q : v / branch_limit % 64 ≡ v / branch_limit = mod-eq_of_lt (omega arith) in
    rw (q, add-mod v d branch_limit) e

pub put-branch : (off d r v : ℕ) (bs : List ℕ) → v ≡ field_at 4 off bs → v < 4294967296
    → r ≡ v / branch_limit * branch_limit + (v % branch_limit + d % branch_limit) % branch_limit → put_field 4 off r bs ≡ update 4 off (add_low (pos d)) bs
unfolding update
put-branch off d r v bs p h e = ap (λ (k : ℕ). put_field 4 off k bs) (word_sum v d r h e ∙ ap (add_low (pos d)) p)
