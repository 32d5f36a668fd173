-- Serves internal contracts only: the search over windows. One cell for each byte of a window, 0 or the place of the byte in the one field that covers it.
use Rattle.std.specs.Prelude.{◌≡◌, ◌⊎◌, Bool, true, false, ◌&&◌, cond, List, ℕ, zero, suc, ◌+◌, ◌-◌, ◌≤◌, ◌<◌, length, get_or, leb, ltb}
use Rattle.field_kind.specs.declared.FieldKind.{FieldKind}
use Rattle.field_kind.specs.declared.FieldKind.TheVariants.{Nothing, Four, Eight, Branch}
use Rattle.field_kind.specs.declared.ObjectField.{ObjectField}
use Rattle.field_kind.specs.Field.{bytes_in}

-- the value of the byte at place p of a field: no two places of fields, and no two kinds, have one value
abbrev pub code : FieldKind → ℕ → ℕ
code Nothing p = 1 + p
code Four p = 1 + p
code Branch p = 5 + p
code Eight p = 9 + p

-- the byte k of the window from base is taken by another field
pub record Taken (c : List ℕ) (base k v : ℕ) : Type 0 where
  pub low : base ≤ k
  pub high : k - base < length c
  pub some : get_or c (k - base) 0 ≡ 0 → ⊥
  pub other : get_or c (k - base) 0 ≡ v → ⊥

-- c has v for the byte k, and else what c₀ has
pub record Stored (base k v : ℕ) (c₀ c : List ℕ) : Type 0 where
  pub there : (x : ℕ) → x < length c₀ → base + x ≡ k → get_or c x 0 ≡ v
  pub else : (x : ℕ) → x < length c₀ → (base + x ≡ k → ⊥) → get_or c x 0 ≡ get_or c₀ x 0

-- what marking one byte leaves and answers
pub record ByteOut (base k v : ℕ) (c₀ c : List ℕ) (r : Bool) : Type 0 where
  pub size : length c ≡ length c₀
  pub hit : r ≡ true → Taken c₀ base k v
  pub miss : r ≡ false → (Taken c₀ base k v → ⊥) × Stored base k v c₀ c

-- c with the first p bytes of the field from offset marked
pub record Marked (base offset : ℕ) (kind : FieldKind) (p : ℕ) (c₀ c : List ℕ) : Type 0 where
  pub size : length c ≡ length c₀
  pub inside : (x : ℕ) → x < length c₀ → offset ≤ base + x → base + x < offset + p → get_or c x 0 ≡ code kind (base + x - offset)
  pub outside : (x : ℕ) → x < length c₀ → (base + x < offset) ⊎ (offset + p ≤ base + x) → get_or c x 0 ≡ get_or c₀ x 0

-- none of the first p bytes of the field from offset is taken by another field
abbrev pub Free : ℕ → ℕ → FieldKind → ℕ → List ℕ → Type 0
Free base offset kind p c = (q : ℕ) → q < p → Taken c base (offset + q) (code kind q) → ⊥

-- what marking a field leaves and answers
pub record MarkOut (base offset : ℕ) (kind : FieldKind) (c₀ c : List ℕ) (r : Bool) : Type 0 where
  pub size : length c ≡ length c₀
  pub hit : r ≡ true → (q : ℕ) × (q < bytes_in kind) × Taken c₀ base (offset + q) (code kind q)
  pub miss : r ≡ false → Free base offset kind (bytes_in kind) c₀ × Marked base offset kind (bytes_in kind) c₀ c

-- c₀ made all zeros
pub record Zeros (c₀ c : List ℕ) : Type 0 where
  pub size : length c ≡ length c₀
  pub zero : (x : ℕ) → get_or c x 0 ≡ 0

-- whether e covers the byte k
abbrev pub is_covered : ObjectField → ℕ → Bool
is_covered e k = leb e.offset k && ltb k (e.offset + bytes_in e.kind)

-- the value of the byte k by the last of the first i entries that covers it, 0 where none does
unfoldable pub cover : (ℕ → ObjectField) → ℕ → ℕ → ℕ
cover r zero k = 0
cover r (suc i) k = cond (is_covered (r i) k) (code (r i).kind (k - (r i).offset)) (cover r i k)

-- entry i has, in the window of size bytes from base, a byte that an earlier entry covers as another field
pub record Hit (r : ℕ → ObjectField) (base size i : ℕ) : Type 0 where
  pub place : ℕ
  pub low : place < bytes_in (r i).kind
  pub from : base ≤ (r i).offset + place
  pub upto : (r i).offset + place - base < size
  pub some : cover r i ((r i).offset + place) ≡ 0 → ⊥
  pub other : cover r i ((r i).offset + place) ≡ code (r i).kind place → ⊥

-- each cell has the value that the first i entries give its byte
abbrev pub CellsAre : (ℕ → ObjectField) → ℕ → ℕ → List ℕ → Type 0
CellsAre r base i c = (x : ℕ) → x < length c → get_or c x 0 ≡ cover r i (base + x)

-- what marking the field of entry i leaves and answers
pub record StepOut (r : ℕ → ObjectField) (base i : ℕ) (c₀ c : List ℕ) (s : Bool) : Type 0 where
  pub size : length c ≡ length c₀
  pub hit : s ≡ true → CellsAre r base i c₀ → Hit r base (length c₀) i
  pub miss : s ≡ false → CellsAre r base i c₀ → CellsAre r base (suc i) c × (Hit r base (length c₀) i → ⊥)

-- the same, of whichever entry has the field e
abbrev pub EntryOut : ObjectField → ℕ → List ℕ → List ℕ → Bool → Type 0
EntryOut e base c₀ c s = (r : ℕ → ObjectField) (i : ℕ) → e ≡ r i → StepOut r base i c₀ c s

-- of the bytes from low up to high, none is e's
abbrev pub Untouched : ObjectField → ℕ → ℕ → Type 0
Untouched e low high = (k : ℕ) → low ≤ k → k < high → e.offset ≤ k → k < e.offset + bytes_in e.kind → ⊥

-- x is next, or less where e has a byte from x on
pub record LowerOut (e : ObjectField) (end next x : ℕ) : Type 0 where
  pub low : end ≤ x
  pub high : x ≤ next
  pub none : Untouched e end x

-- x is the first of n entries with a hit in the window, or n, and no earlier one has a byte past the window and before next
pub record PassOut (r : ℕ → ObjectField) (base size n x next : ℕ) : Type 0 where
  pub within : x ≤ n
  pub before : (i : ℕ) → i < x → Hit r base size i → ⊥
  pub here : x < n → Hit r base size x
  pub further : base + size ≤ next
  pub skipped : (i : ℕ) → i < x → Untouched (r i) (base + size) next

-- a window that has the byte k, in which entry i has no hit
pub record NoHitAt (r : ℕ → ObjectField) (i k : ℕ) : Type 0 where
  pub base : ℕ
  pub size : ℕ
  pub low : base ≤ k
  pub high : k - base < size
  pub none : Hit r base size i → ⊥

-- entry i has a hit in some window
pub record HitSomewhere (r : ℕ → ObjectField) (i : ℕ) : Type 0 where
  pub base : ℕ
  pub size : ℕ
  pub hit : Hit r base size i

-- what the windows below upto have found of n entries
pub record SweepOut (r : ℕ → ObjectField) (upto n x : ℕ) : Type 0 where
  pub within : x ≤ n
  pub before : (i : ℕ) → i < x → (k : ℕ) → k < upto → NoHitAt r i k
  pub here : x < n → HitSomewhere r x
