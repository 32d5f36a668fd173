-- Rows written a block at a time. Assumes nothing.
use Prim.Native.Nat.{ℕ, zero, suc, ◌+◌, ◌-◌, ◌*◌, ◌≤◌}
use mathlib.Core.Path.{◌≡◌, refl, sym, ap, ◌∙◌}
use mathlib.Core.List.{List, ◌++◌, append_assoc, append-nil}
use native.Mathlib.Omega.{arith}
use lib.ListN.{length, take, replicate, length-replicate}
use lib.Seq.{sets, length-sets}
use Rattle.format.specs.declared.Format.{Format}
use Rattle.format.specs.declared.Format.TheVariants.{Xcoff32, Xcoff64}
use Rattle.update.proofs.Stores.{sets-append, part-stored}
use Rattle.rows.specs.Rows.{rows_of}
use Rattle.rows.proofs.Laws.{Writing, length-rows, writing_start, writing-end}
use Rattle.line.specs.declared.LineBlock.{LineBlock}
use Rattle.line.specs.declared.LineEntry.{LineEntry}
use Rattle.line.specs.declared.LineEntry.TheVariants.{Function, Line}
use Rattle.line.specs.Block.{block_rows, added, block_to}
use Rattle.line.specs.Line.{line_row, line_length, entry_of}
use Rattle.line.specs.Search.{Entries}
use Rattle.line.proofs.Block.{counts}
use Rattle.line_table.specs.Table.{entry_row}

-- ---- any rows

pub rows_append : (row : ℕ → List ℕ) (m n i : ℕ) → rows_of row i (m + n) ≡ rows_of row i m ++ rows_of row (i + m) n
unfolding rows_of
rows_append row zero n i = let e : i + 0 ≡ i = omega arith in let z : 0 + n ≡ n = omega arith in rw (e, z) refl
rows_append row (suc m) n i =
    let more : suc m + n ≡ suc (m + n) = omega arith in
    let place : suc i + m ≡ i + suc m = omega arith in
    ap (rows_of row i) more
    ∙ ap (λ (l : List ℕ). row i ++ l) (rows_append row m n (suc i))
    ∙ ap (λ (z : ℕ). row i ++ (rows_of row (suc i) m ++ rows_of row z n)) place
    ∙ sym (append_assoc (row i) (rows_of row (suc i) m) (rows_of row (i + suc m) n))

rows-shift : (row : ℕ → List ℕ) (i k m : ℕ) → rows_of (λ j. row (i + j)) k m ≡ rows_of row (i + k) m
unfolding rows_of
rows-shift row i k zero = refl
rows-shift row i k (suc m) = let e : i + suc k ≡ suc (i + k) = omega arith in ap (λ (l : List ℕ). row (i + k) ++ l) (rows-shift row i (suc k) m ∙ ap (λ (j : ℕ). rows_of row j m) e)

rows_at : (f g : ℕ → List ℕ) → ((j : ℕ) → f j ≡ g j) → (m i : ℕ) → rows_of f i m ≡ rows_of g i m
unfolding rows_of
rows_at f g h zero i = refl
rows_at f g h (suc m) i = rw (h i, rows_at f g h m (suc i)) refl

-- m rows more
pub writing_more : (row : ℕ → List ℕ) (w : ℕ) → ((j : ℕ) → length (row j) ≡ w) → {l₀ out : List ℕ} (l : List ℕ) (n i m : ℕ) → i + m ≤ n
    → out ≡ sets l (i * w) (rows_of row i m) → Writing row w n l₀ l i → Writing row w n l₀ out (i + m)
writing_more row w even l n i m h e k =
    let parts : n - i ≡ m + (n - (i + m)) = omega arith in
    let place : (i + m) * w ≡ i * w + length (rows_of row i m) = rw (length-rows row w even m i) (omega arith) in
    record {
      within = h;
      same = rw e (length-sets l (i * w) (rows_of row i m) ∙ k.same);
      left = rw (e, place) (sym (sets-append l (i * w) (rows_of row i m) (rows_of row (i + m) (n - (i + m)))) ∙ ap (sets l (i * w)) (sym (rows_append row m (n - (i + m)) i)) ∙ ap (λ (z : ℕ). sets l (i * w) (rows_of row i z)) (sym parts) ∙ k.left);
    }

-- ---- rows of line entries

pub row-even : (x : LineEntry) → length (line_row x) ≡ 3
row-even (Function k) = refl
row-even (Line m) = refl

abbrev stored : Entries → ℕ → List ℕ
stored e m = sets (replicate 24 0) 0 (rows_of (entry_row e) 0 m)

added-numbers : (b : LineBlock) (x : LineEntry) → (added b x).numbers ≡ sets b.numbers (3 * b.rows) (line_row x)
unfolding added
added-numbers b x = refl

one-row : (e : Entries) (m : ℕ) → rows_of (entry_row e) (0 + m) 1 ≡ line_row (e m)
unfolding rows_of
one-row e m = let z : 0 + m ≡ m = omega arith in rw z (append-nil (line_row (e m)))

block-numbers : (e : Entries) (m : ℕ) → (block_to e m).numbers ≡ stored e m
unfolding block_to rows_of
block-numbers e zero = refl
block-numbers e (suc m) =
    let place : 3 * (block_to e m).rows ≡ 0 + length (rows_of (entry_row e) 0 m) = rw (counts e m, length-rows (entry_row e) 3 (λ j. row-even (e j)) m 0) (omega arith) in
    let parts : suc m ≡ m + 1 = omega arith in
    added-numbers (block_to e m) (e m)
    ∙ ap (λ (at : ℕ). sets (block_to e m).numbers at (line_row (e m))) place
    ∙ ap (λ (l : List ℕ). sets l (0 + length (rows_of (entry_row e) 0 m)) (line_row (e m))) (block-numbers e m)
    ∙ sym (sets-append (replicate 24 0) 0 (rows_of (entry_row e) 0 m) (line_row (e m)))
    ∙ ap (λ (l : List ℕ). sets (replicate 24 0) 0 (rows_of (entry_row e) 0 m ++ l)) (sym (one-row e m))
    ∙ ap (sets (replicate 24 0) 0) (sym (rows_append (entry_row e) m 1 0))
    ∙ ap (λ (z : ℕ). sets (replicate 24 0) 0 (rows_of (entry_row e) 0 z)) (sym parts)

-- what a block of m rows holds of the table from its own start
block-rows : (e : Entries) (m : ℕ) → m ≤ block_rows → take (3 * m) (block_to e m).numbers ≡ rows_of (entry_row e) 0 m
block-rows e m h =
    rw (block-numbers e m)
    (part-stored (replicate 24 0) 0 (3 * m) (rows_of (entry_row e) 0 m) (length-rows (entry_row e) 3 (λ j. row-even (e j)) m 0) (rw (length-replicate {0} {A = ℕ} 24 0) (omega (arith, h))))

-- a block has room for 8 rows
pub block_room : (e : Entries) (m : ℕ) {b : LineBlock} → b ≡ block_to e m → length b.numbers ≡ 24
block_room e m q = rw (q, block-numbers e m) (length-sets (replicate 24 0) 0 (rows_of (entry_row e) 0 m) ∙ length-replicate {0} {A = ℕ} 24 0)

-- the entries from entry i on
pub place_of : (f : Format) (start i j : ℕ) → start + i * line_length f + j * line_length f ≡ start + (i + j) * line_length f
place_of Xcoff32 start i j = omega arith
place_of Xcoff64 start i j = omega arith

-- a block of m entries from entry i of the table at start: the m rows from row i
pub block_of : (file : List ℕ) (start : ℕ) (f : Format) (i m : ℕ) {at : ℕ} {b : LineBlock} → at ≡ start + i * line_length f → m ≤ block_rows → b ≡ block_to (entry_of file at f) m
    → take (3 * m) b.numbers ≡ rows_of (entry_row (entry_of file start f)) i m
block_of file start f i m {at} {b} p h e =
    let zero-on : i + 0 ≡ i = omega arith in
    rw e (block-rows (entry_of file at f) m h)
    ∙ rows_at (entry_row (entry_of file at f)) (λ j. entry_row (entry_of file start f) (i + j)) (λ j. rw (p, place_of f start i j) refl) m 0
    ∙ rows-shift (entry_row (entry_of file start f)) i 0 m
    ∙ ap (λ (k : ℕ). rows_of (entry_row (entry_of file start f)) k m) zero-on

-- the places of blocks in the file, and the rows of a table in memory: they fit
pub block_inside : (f : Format) (start count len i m : ℕ) {at : ℕ} → start + count * line_length f ≤ len → i + m ≤ count → at ≡ start + i * line_length f → at + m * line_length f ≤ len
block_inside Xcoff32 start count len i m h k e = omega (arith, h, k, e)
block_inside Xcoff64 start count len i m h k e = omega (arith, h, k, e)

pub rows_fit : (f : Format) (start count len : ℕ) → start + count * line_length f ≤ len → 3 * count ≤ len
rows_fit Xcoff32 start count len h = omega (arith, h)
rows_fit Xcoff64 start count len h = omega (arith, h)

pub next-block : (f : Format) (start i m : ℕ) {at end : ℕ} → at ≡ start + i * line_length f → end ≡ at + m * line_length f → end ≡ start + (i + m) * line_length f
next-block f start i m p e = e ∙ rw p (place_of f start i m)

-- ---- the loop over the blocks

pub first-place : (f : Format) (start : ℕ) → start ≡ start + 0 * line_length f
first-place Xcoff32 start = omega arith
first-place Xcoff64 start = omega arith

-- i of the n entries at start are written, and `at` is the place of the next
pub record Listing (file : List ℕ) (start : ℕ) (f : Format) (n : ℕ) (l₀ l : List ℕ) (at i : ℕ) : Type 0 where
  pub written : Writing (entry_row (entry_of file start f)) 3 n l₀ l i
  pub place : at ≡ start + i * line_length f

module _ (file : List ℕ) (start : ℕ) (f : Format) where
  abbrev row : ℕ → List ℕ
  row = entry_row (entry_of file start f)

  even : (j : ℕ) → length (row j) ≡ 3
  even j = row-even (entry_of file start f j)

  pub listing_start : (n : ℕ) (l : List ℕ) → Listing file start f n l l start 0
  listing_start n l = record { written = writing_start row 3 even l n; place = first-place f start }

  pub listing-end : {l : List ℕ} (n i at : ℕ) (l₀ : List ℕ) → n ≤ i → length l₀ ≡ 3 * n → Listing file start f n l₀ l at i → l ≡ rows_of row 0 n
  listing-end n i at l₀ h e k = writing-end row 3 even l₀ n i h e k.written

  module _ (n i m at : ℕ) {l₀ l : List ℕ} (k : Listing file start f n l₀ l at i) (h : m ≤ block_rows) {b : LineBlock} (e : b ≡ block_to (entry_of file at f) m) where
    pub block-length : length (take (3 * m) b.numbers) ≡ 3 * m
    block-length = rw (block_of file start f i m k.place h e) (length-rows row 3 even m i)

    pub listing-next : {out : List ℕ} {end : ℕ} → i + m ≤ n → out ≡ sets l (i * 3) (take (3 * m) b.numbers) → end ≡ at + m * line_length f → Listing file start f n l₀ out end (i + m)
    listing-next g o q = record {
      written = writing_more row 3 even l n i m g (o ∙ ap (sets l (i * 3)) (block_of file start f i m k.place h e)) k.written;
      place = next-block f start i m k.place q;
    }
