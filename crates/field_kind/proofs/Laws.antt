-- Laws of fields of every kind: what composition asks of them, and what code may add. Assumes nothing.
use mathlib.Core.Path.{◌≡◌, refl, sym, ◌∙◌, ap, fun_ext}
use mathlib.Core.Logic.{◌⊎◌}
use mathlib.Core.List.{List}
use Prim.Native.Nat.{ℕ, ◌+◌, ◌/◌, ◌%◌, ◌^◌, ◌≤◌, ◌<◌, ◌∣◌}
use native.Mathlib.Nat.{mod-lt, mod-eq_of_lt, dvd-mul_left, dvd_refl, one-dvd}
use native.Mathlib.Omega.{arith}
use lib.Dec.{lit<}
use lib.ListN.{length, get_or}
use lib.Arith.{digits_lt, digits_div, digits_mod}
use lib.IntN.{ℤ, pos, ◌+ℤ◌, +ℤ_assoc, +ℤ_comm, +ℤ_idr}
use Rattle.update.specs.Update.{update, put_field, bytes_of_number, remainder, add_in, add_field, Bytes}
use Rattle.update.proofs.Remainder.{remainder-lt, remainder-small, remainder-cong, remainder-divides}
use Rattle.update.proofs.Laws.{length-update, update-outside, update-update, update_apart, add_in-lt, add_in-add_in, field_lt, put-field}
use Rattle.field_kind.specs.declared.FieldKind.{FieldKind}
use Rattle.field_kind.specs.declared.FieldKind.TheVariants.{Nothing, Four, Eight, Branch}
use Rattle.field_kind.specs.declared.ObjectField.{ObjectField}
use Rattle.field_kind.specs.Field.{bytes_in, branch_limit, add_low, add_it, add_to, place, FieldInside, FieldsApart}

-- ---- a branch

-- the high six bits of a word
abbrev high : ℕ → ℕ
high v = v / branch_limit % 64

-- a sum is a word of 4 bytes
pub add_low-lt : (z : ℤ) (v : ℕ) → add_low z v < 256 ^ 4
unfolding add_low
add_low-lt z v = digits_lt {m = 64} {c = branch_limit} (mod-lt (v / branch_limit) (lit< tt)) (remainder-lt branch_limit (lit< tt) (pos v +ℤ z))

-- its low 26 bits are the sum's
pub add_low-low : (z : ℤ) (v : ℕ) → add_low z v % branch_limit ≡ remainder (pos v +ℤ z) branch_limit
unfolding add_low
add_low-low z v = digits_mod (high v) {m = branch_limit} (remainder-lt branch_limit (lit< tt) (pos v +ℤ z))

-- its high six bits stay
add_low-high : (z : ℤ) (v : ℕ) → high (add_low z v) ≡ high v
unfolding add_low
add_low-high z v =
    ap (λ (k : ℕ). k % 64) (digits_div (high v) {m = branch_limit} (remainder-lt branch_limit (lit< tt) (pos v +ℤ z))) ∙ mod-eq_of_lt (mod-lt (v / branch_limit) (lit< tt))

-- the remainder of a number is its own low part
remainder-low : (v : ℕ) → remainder (pos v) branch_limit ≡ v % branch_limit
unfolding remainder
remainder-low v = refl

-- what is added to a sum's low 26 bits is added to the sum
pub add_low-cong : (a b : ℤ) (v : ℕ) → remainder (pos (add_low a v) +ℤ b) branch_limit ≡ remainder (pos v +ℤ a +ℤ b) branch_limit
add_low-cong a b v = remainder-cong branch_limit (lit< tt) (pos (add_low a v)) (pos v +ℤ a) b (remainder-low (add_low a v) ∙ add_low-low a v)

-- a word is told by its high bits and the remainder of the sum
by_parts : (a b : ℤ) (u v : ℕ) → high u ≡ high v → remainder (pos u +ℤ a) branch_limit ≡ remainder (pos v +ℤ b) branch_limit → add_low a u ≡ add_low b v
unfolding add_low
by_parts a b u v h r = rw (h, r) refl

-- a then b is their sum
add_low-add_low : (a b : ℤ) (v : ℕ) → add_low b (add_low a v) ≡ add_low (a +ℤ b) v
add_low-add_low a b v =
    by_parts b (a +ℤ b) (add_low a v) v (add_low-high a v) (add_low-cong a b v ∙ ap (λ (z : ℤ). remainder z branch_limit) (+ℤ_assoc (pos v) a b))

-- ---- any kind of field

-- a sum fits its field
add_it-lt : (k : FieldKind) (z : ℤ) (v : ℕ) → add_it k z v < 256 ^ bytes_in k
unfolding add_it
add_it-lt Nothing z v = add_in-lt 0 z v
add_it-lt Four z v = add_in-lt 4 z v
add_it-lt Eight z v = add_in-lt 8 z v
add_it-lt Branch z v = add_low-lt z v

-- a then b is their sum
add_it-add_it : (k : FieldKind) (a b : ℤ) (v : ℕ) → add_it k b (add_it k a v) ≡ add_it k (a +ℤ b) v
unfolding add_it
add_it-add_it Nothing a b v = add_in-add_in 0 a b v
add_it-add_it Four a b v = add_in-add_in 4 a b v
add_it-add_it Eight a b v = add_in-add_in 8 a b v
add_it-add_it Branch a b v = add_low-add_low a b v

-- an addition keeps the length
pub length-add_to : (f : ObjectField) (z : ℤ) (x : List ℕ) → length (add_to f z x) ≡ length x
unfolding add_to
length-add_to f z x = length-update (bytes_in f.kind) f.offset (add_it f.kind z) x

-- a then b is their sum
pub add_to-add_to : (f : ObjectField) (a b : ℤ) (x : List ℕ) → FieldInside x f → add_to f b (add_to f a x) ≡ add_to f (a +ℤ b) x
unfolding add_to
add_to-add_to f a b x i =
    update-update (bytes_in f.kind) f.offset (add_it f.kind a) (add_it f.kind b) x i (add_it-lt f.kind a _)
    ∙ ap (λ (g : ℕ → ℕ). update (bytes_in f.kind) f.offset g x) (fun_ext (add_it-add_it f.kind a b))

-- additions to fields apart can change places
pub add_to-apart : (f g : ObjectField) (a b : ℤ) (x : List ℕ) → FieldsApart f g → add_to f a (add_to g b x) ≡ add_to g b (add_to f a x)
unfolding add_to
add_to-apart f g a b x h =
    update_apart (bytes_in f.kind) f.offset (bytes_in g.kind) g.offset (add_it f.kind a) (add_it g.kind b) x h

-- ---- 0 added, and bytes outside

-- 0 added to a word of 4 bytes
add_low-zero : (v : ℕ) → v < 256 ^ 4 → add_low (pos 0) v ≡ v
unfolding add_low
add_low-zero v h =
    let r : remainder (pos v +ℤ pos 0) branch_limit ≡ v % branch_limit = ap (λ (z : ℤ). remainder z branch_limit) (+ℤ_idr (pos v)) ∙ remainder-low v in
    rw r (omega arith)

add_it-zero : (k : FieldKind) (v : ℕ) → v < 256 ^ bytes_in k → add_it k (pos 0) v ≡ v
unfolding add_it add_in
add_it-zero Nothing v h = ap (λ (z : ℤ). remainder z (256 ^ 0)) (+ℤ_idr (pos v)) ∙ remainder-small (256 ^ 0) (lit< tt) v h
add_it-zero Four v h = ap (λ (z : ℤ). remainder z (256 ^ 4)) (+ℤ_idr (pos v)) ∙ remainder-small (256 ^ 4) (lit< tt) v h
add_it-zero Eight v h = ap (λ (z : ℤ). remainder z (256 ^ 8)) (+ℤ_idr (pos v)) ∙ remainder-small (256 ^ 8) (lit< tt) v h
add_it-zero Branch v h = add_low-zero v h

pub add_to-zero : (f : ObjectField) (x : List ℕ) → Bytes x → FieldInside x f → add_to f (pos 0) x ≡ x
unfolding add_to update
add_to-zero f x h i =
    ap (λ (v : ℕ). put_field (bytes_in f.kind) f.offset v x) (add_it-zero f.kind _ (field_lt (bytes_in f.kind) f.offset x h i))
    ∙ put-field (bytes_in f.kind) f.offset x h i

-- an addition changes no byte outside its field
pub add_to-outside : (f : ObjectField) (z : ℤ) (k : ℕ) (x : List ℕ) → (k < f.offset) ⊎ (f.offset + bytes_in f.kind ≤ k) → get_or (add_to f z x) k 0 ≡ get_or x k 0
unfolding add_to
add_to-outside f z k x h = update-outside (bytes_in f.kind) f.offset k (add_it f.kind z) x h

-- ---- what code may add: any integer with the amount's remainder modulo 2^64

-- integers with one remainder modulo 2^64 have one modulo a divisor, whatever they are added to
sum_alike : (m : ℕ) → 0 < m → m ∣ 2 ^ 64 → (a b : ℤ) (v : ℕ) → remainder a (2 ^ 64) ≡ remainder b (2 ^ 64) → remainder (pos v +ℤ a) m ≡ remainder (pos v +ℤ b) m
sum_alike m h d a b v e =
    let r : ℤ → ℕ = λ z. remainder z m in
    let narrow : remainder a m ≡ remainder b m =
    sym (remainder-divides m (2 ^ 64) h (lit< tt) d a) ∙ ap (λ (k : ℕ). k % m) e ∙ remainder-divides m (2 ^ 64) h (lit< tt) d b in
    ap r (+ℤ_comm (pos v) a) ∙ remainder-cong m h a b (pos v) narrow ∙ ap r (+ℤ_comm b (pos v))

add_it-alike : (k : FieldKind) (a b : ℤ) (v : ℕ) → remainder a (2 ^ 64) ≡ remainder b (2 ^ 64) → add_it k a v ≡ add_it k b v
unfolding add_it add_in
add_it-alike Nothing a b v e = sum_alike (256 ^ 0) (lit< tt) (one-dvd (2 ^ 64)) a b v e
add_it-alike Four a b v e = sum_alike (256 ^ 4) (lit< tt) (dvd-mul_left 4294967296 4294967296) a b v e
add_it-alike Eight a b v e = sum_alike (256 ^ 8) (lit< tt) (dvd_refl (2 ^ 64)) a b v e
add_it-alike Branch a b v e = by_parts a b v v refl (sum_alike branch_limit (lit< tt) (dvd-mul_left branch_limit 274877906944) a b v e)

-- they have one effect on a field
pub add_to-alike : (f : ObjectField) (a b : ℤ) (x : List ℕ) → remainder a (2 ^ 64) ≡ remainder b (2 ^ 64) → add_to f a x ≡ add_to f b x
unfolding add_to
add_to-alike f a b x e = ap (λ (g : ℕ → ℕ). update (bytes_in f.kind) f.offset g x) (fun_ext (λ v. add_it-alike f.kind a b v e))

-- ---- by what a kind is told to be

pub inside-told : {k m : FieldKind} (off n : ℕ) → k ≡ m → off + bytes_in k ≤ n → off + bytes_in m ≤ n
inside-told off n e h = rw e at h

-- type 0F changes nothing
pub to-nothing : {k : FieldKind} (off : ℕ) (z : ℤ) (x : List ℕ) → k ≡ Nothing → x ≡ add_to (place off k) z x
unfolding add_to add_it update put_field bytes_of_number
to-nothing off z x e = rw e refl

pub to-four : {k : FieldKind} (off : ℕ) (z : ℤ) (x : List ℕ) → k ≡ Four → add_field 4 off z x ≡ add_to (place off k) z x
unfolding add_to add_it add_field
to-four off z x e = rw e refl

pub to-eight : {k : FieldKind} (off : ℕ) (z : ℤ) (x : List ℕ) → k ≡ Eight → add_field 8 off z x ≡ add_to (place off k) z x
unfolding add_to add_it add_field
to-eight off z x e = rw e refl

pub to-branch : {k : FieldKind} (off : ℕ) (z : ℤ) (x : List ℕ) → k ≡ Branch → update 4 off (add_low z) x ≡ add_to (place off k) z x
unfolding add_to add_it
to-branch off z x e = rw e refl
