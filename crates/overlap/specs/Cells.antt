-- Serves internal contracts only: the search over windows. One cell for each byte of a window, 0 or the place of the byte in the one field that covers it.
use Rattle.std.specs.Prelude.{◌≡◌, ◌⊎◌, Bool, true, false, ◌&&◌, cond, List, ℕ, zero, suc, ◌+◌, ◌-◌, ◌≤◌, ◌<◌, length, get_or, leb, ltb}
use Rattle.relocation.specs.declared.FieldPlace.{FieldPlace}
use Rattle.relocation.specs.Relocation.{bytes_wide}
use Rattle.field_overlap.specs.Overlap.{same_bool}

-- the value of the byte at place p of a field: no two places of fields, and no two widths, have one value
abbrev pub code : Bool → ℕ → ℕ
code true p = 9 + p
code false p = 1 + p

-- the byte k of the window from base is taken by another field
pub record Taken (c : List ℕ) (base k v : ℕ) : Type 0 where
  pub low : base ≤ k
  pub high : k - base < length c
  pub some : get_or c (k - base) 0 ≡ 0 → ⊥
  pub other : get_or c (k - base) 0 ≡ v → ⊥

-- c has v for the byte k, and else what c₀ has
pub record Stored (base k v : ℕ) (c₀ c : List ℕ) : Type 0 where
  pub there : (x : ℕ) → x < length c₀ → base + x ≡ k → get_or c x 0 ≡ v
  pub else : (x : ℕ) → x < length c₀ → (base + x ≡ k → ⊥) → get_or c x 0 ≡ get_or c₀ x 0

-- what marking one byte leaves and answers
pub record ByteOut (base k v : ℕ) (c₀ c : List ℕ) (r : Bool) : Type 0 where
  pub size : length c ≡ length c₀
  pub hit : r ≡ true → Taken c₀ base k v
  pub miss : r ≡ false → (Taken c₀ base k v → ⊥) × Stored base k v c₀ c

-- c with the first p bytes of the field from offset marked
pub record Marked (base offset : ℕ) (wide : Bool) (p : ℕ) (c₀ c : List ℕ) : Type 0 where
  pub size : length c ≡ length c₀
  pub inside : (x : ℕ) → x < length c₀ → offset ≤ base + x → base + x < offset + p → get_or c x 0 ≡ code wide (base + x - offset)
  pub outside : (x : ℕ) → x < length c₀ → (base + x < offset) ⊎ (offset + p ≤ base + x) → get_or c x 0 ≡ get_or c₀ x 0

-- none of the first p bytes of the field from offset is taken by another field
abbrev pub Free : ℕ → ℕ → Bool → ℕ → List ℕ → Type 0
Free base offset wide p c = (q : ℕ) → q < p → Taken c base (offset + q) (code wide q) → ⊥

-- what marking a field leaves and answers
pub record MarkOut (base offset : ℕ) (wide : Bool) (c₀ c : List ℕ) (r : Bool) : Type 0 where
  pub size : length c ≡ length c₀
  pub hit : r ≡ true → (q : ℕ) × (q < bytes_wide wide) × Taken c₀ base (offset + q) (code wide q)
  pub miss : r ≡ false → Free base offset wide (bytes_wide wide) c₀ × Marked base offset wide (bytes_wide wide) c₀ c

-- c₀ made all zeros
pub record Zeros (c₀ c : List ℕ) : Type 0 where
  pub size : length c ≡ length c₀
  pub zero : (x : ℕ) → get_or c x 0 ≡ 0

-- whether e covers the byte k of the section t
abbrev pub is_covered : FieldPlace → Bool → ℕ → Bool
is_covered e t k = same_bool e.text t && (leb e.offset k && ltb k (e.offset + bytes_wide e.wide))

-- the value of the byte k by the last of the first i entries that covers it, 0 where none does
unfoldable pub cover : (ℕ → FieldPlace) → Bool → ℕ → ℕ → ℕ
cover r t zero k = 0
cover r t (suc i) k = cond (is_covered (r i) t k) (code (r i).wide (k - (r i).offset)) (cover r t i k)

-- entry i has, in the window of size bytes from base, a byte that an earlier entry covers as another field
pub record Hit (r : ℕ → FieldPlace) (t : Bool) (base size i : ℕ) : Type 0 where
  pub section : (r i).text ≡ t
  pub place : ℕ
  pub low : place < bytes_wide (r i).wide
  pub from : base ≤ (r i).offset + place
  pub upto : (r i).offset + place - base < size
  pub some : cover r t i ((r i).offset + place) ≡ 0 → ⊥
  pub other : cover r t i ((r i).offset + place) ≡ code (r i).wide place → ⊥

-- each cell has the value that the first i entries give its byte
abbrev pub CellsAre : (ℕ → FieldPlace) → Bool → ℕ → ℕ → List ℕ → Type 0
CellsAre r t base i c = (x : ℕ) → x < length c → get_or c x 0 ≡ cover r t i (base + x)

-- what marking the field of entry i leaves and answers
pub record StepOut (r : ℕ → FieldPlace) (t : Bool) (base i : ℕ) (c₀ c : List ℕ) (s : Bool) : Type 0 where
  pub size : length c ≡ length c₀
  pub hit : s ≡ true → CellsAre r t base i c₀ → Hit r t base (length c₀) i
  pub miss : s ≡ false → CellsAre r t base i c₀ → CellsAre r t base (suc i) c × (Hit r t base (length c₀) i → ⊥)

-- the same, of whichever entry has the field e
abbrev pub EntryOut : FieldPlace → Bool → ℕ → List ℕ → List ℕ → Bool → Type 0
EntryOut e t base c₀ c s = (r : ℕ → FieldPlace) (i : ℕ) → e ≡ r i → StepOut r t base i c₀ c s

-- of the bytes from low up to high of the section t, none is e's
abbrev pub Untouched : FieldPlace → Bool → ℕ → ℕ → Type 0
Untouched e t low high = e.text ≡ t → (k : ℕ) → low ≤ k → k < high → e.offset ≤ k → k < e.offset + bytes_wide e.wide → ⊥

-- x is next, or less where e has a byte from x on
pub record LowerOut (e : FieldPlace) (t : Bool) (end next x : ℕ) : Type 0 where
  pub low : end ≤ x
  pub high : x ≤ next
  pub none : Untouched e t end x

-- x is the first of n entries with a hit in the window, or n, and no earlier one has a byte past the window and before next
pub record PassOut (r : ℕ → FieldPlace) (t : Bool) (base size n x next : ℕ) : Type 0 where
  pub within : x ≤ n
  pub before : (i : ℕ) → i < x → Hit r t base size i → ⊥
  pub here : x < n → Hit r t base size x
  pub further : base + size ≤ next
  pub skipped : (i : ℕ) → i < x → Untouched (r i) t (base + size) next

-- a window that has the byte k, in which entry i has no hit
pub record NoHitAt (r : ℕ → FieldPlace) (t : Bool) (i k : ℕ) : Type 0 where
  pub base : ℕ
  pub size : ℕ
  pub low : base ≤ k
  pub high : k - base < size
  pub none : Hit r t base size i → ⊥

-- entry i has a hit in some window
pub record HitSomewhere (r : ℕ → FieldPlace) (i : ℕ) : Type 0 where
  pub section : Bool
  pub base : ℕ
  pub size : ℕ
  pub hit : Hit r section base size i

-- what the windows below upto have found of n entries
pub record SweepOut (r : ℕ → FieldPlace) (t : Bool) (upto n x : ℕ) : Type 0 where
  pub within : x ≤ n
  pub before : (i : ℕ) → i < x → (k : ℕ) → k < upto → NoHitAt r t i k
  pub here : x < n → HitSomewhere r x
