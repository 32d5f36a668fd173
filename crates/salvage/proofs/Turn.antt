-- The loops over the walk by mended entries: what is left at an index, and one turn. Assumes nothing.
use mathlib.Core.Path.{◌≡◌, refl, sym, ◌∙◌, ap}
use mathlib.Core.List.{List, [], ◌∷◌, ◌++◌}
use Prim.Native.Nat.{ℕ, zero, suc, ◌+◌, ◌-◌, ◌≤◌, ◌<◌}
use native.Mathlib.Nat.{sub-zero}
use native.Mathlib.Decide.{dec_le}
use native.Mathlib.Omega.{arith}
use borrow.Author.Tests.{le-leb, lt-leb}
use lib.ListN.{length, length-append}
use Rattle.format.specs.declared.SymbolIndex.{SymbolIndex}
use Rattle.symbol.specs.declared.Tables.{Tables}
use Rattle.symbol.specs.declared.SymbolEntry.{SymbolEntry}
use Rattle.symbol.specs.Entry.{OpenTables, entry_of}
use Rattle.mend.specs.declared.EntryRefusals.{EntryRefusals}
use Rattle.mend.specs.Mend.{Change, changes_at, put_all, mended_entry}
use Rattle.mend.specs.Report.{report_bytes, put_bytes}
use Rattle.mend.specs.Entry.{refusals_of, mend_by, mended_aux, rows_by, refused_in}
use Rattle.mend.proofs.Put.{length-mend}
use Rattle.mend.proofs.Rows.{length-put-bytes, put-bytes-append}
use Rattle.mend.proofs.Mended.{aux-is, aux-inside}
use Rattle.mend.proofs.Changes.{put-append, report-append, mend-changes, report-changes, count-changes}
use Rattle.salvage.specs.Salvage.{mended_from, changes_of, changes_in}

-- ---- the symbols that are visited

module _ (file : List ℕ) (t : Tables) where
  abbrev next : ℕ → ℕ
  next i = i + 1 + (mended_entry file t (record { 0 = i })).numaux

  pub visited-end : (steps i : ℕ) → t.count ≤ i → mended_from file t steps i ≡ []
  unfolding mended_from
  visited-end zero i h = refl
  visited-end (suc steps) i h = rw (le-leb t.count i h)

  visited-step : (steps i : ℕ) → i < t.count → mended_from file t (suc steps) i ≡ record { 0 = i } ∷ mended_from file t steps (next i)
  unfolding mended_from
  visited-step steps i h = rw (lt-leb t.count i h)

  -- as many steps as reach the end are enough
  visited-enough : (a b i : ℕ) → t.count ≤ i + a → t.count ≤ i + b → mended_from file t a i ≡ mended_from file t b i
  visited-enough zero b i h k = visited-end zero i (omega arith) ∙ sym (visited-end b i (omega arith))
  visited-enough (suc a) zero i h k = visited-end (suc a) i (omega arith) ∙ sym (visited-end zero i (omega arith))
  visited-enough (suc a) (suc b) i h k = by_place (visited-enough a b (next i) (omega arith) (omega arith)) (dec_le t.count i)
    where
      by_place : mended_from file t a (next i) ≡ mended_from file t b (next i) → Dec (t.count ≤ i) → mended_from file t (suc a) i ≡ mended_from file t (suc b) i
      by_place rest (yes p) = visited-end (suc a) i p ∙ sym (visited-end (suc b) i p)
      by_place rest (no p) = visited-step a i (omega arith) ∙ ap (λ (is : List SymbolIndex). record { 0 = i } ∷ is) rest ∙ sym (visited-step b i (omega arith))

  -- ---- the changes that are left at index i

  abbrev pub left_from : ℕ → List Change
  left_from i = changes_of file t (mended_from file t (t.count - i) i)

  pub left-start : left_from 0 ≡ changes_in file t
  unfolding changes_in
  left-start = rw (sub-zero t.count) refl

  pub left_end : (i : ℕ) → t.count ≤ i → left_from i ≡ []
  unfolding changes_of
  left_end i h = rw (visited-end (t.count - i) i h) refl

  left_step : (i : ℕ) → i < t.count → left_from i ≡ changes_at file t (record { 0 = i }) ++ left_from (next i)
  unfolding changes_of
  left_step i h =
      let e : t.count - i ≡ suc (t.count - (i + 1)) = omega arith in
      ap (λ (n : ℕ). changes_of file t (mended_from file t n i)) e
      ∙ ap (changes_of file t) (visited-step (t.count - (i + 1)) i h)
      ∙ ap (λ (is : List SymbolIndex). changes_at file t (record { 0 = i }) ++ changes_of file t is) (visited-enough (t.count - (i + 1)) (t.count - next i) (next i) (omega arith) (omega arith))

  -- ---- where the loops start and end

  pub mend-start : (bs : List ℕ) → put_all t (left_from 0) bs ≡ put_all t (changes_in file t) bs
  mend-start bs = ap (λ (cs : List Change). put_all t cs bs) left-start

  pub mend-end : (i : ℕ) (bs : List ℕ) → t.count ≤ i → put_all t (left_from i) bs ≡ bs
  unfolding put_all
  mend-end i bs h = rw (left_end i h) refl

  pub count-start : 0 + length (left_from 0) ≡ length (changes_in file t)
  count-start = let z = ap length left-start in omega arith

  pub count-end : (i n total : ℕ) → t.count ≤ i → n + length (left_from i) ≡ total → n ≡ total
  count-end i n total h e = let z : length (left_from i) ≡ 0 = ap length (left_end i h) in omega arith

  pub report-room : (k : ℕ) → length (report_bytes (changes_in file t)) ≤ k → 0 + length (report_bytes (left_from 0)) ≤ k
  report-room k h = let z : length (report_bytes (left_from 0)) ≡ length (report_bytes (changes_in file t)) = ap (λ (cs : List Change). length (report_bytes cs)) left-start in omega arith

  pub report-start : (bs : List ℕ) → put_bytes 0 (report_bytes (left_from 0)) bs ≡ put_bytes 0 (report_bytes (changes_in file t)) bs
  report-start bs = ap (λ (cs : List Change). put_bytes 0 (report_bytes cs) bs) left-start

  pub report-end : (i at : ℕ) (bs : List ℕ) → t.count ≤ i → put_bytes at (report_bytes (left_from i)) bs ≡ bs
  unfolding put_bytes report_bytes
  report-end i at bs h = rw (left_end i h) refl

-- ---- a turn: the entry e at index i, the checks that refuse it, and its auxiliaries n as mended

module _ (file : List ℕ) (t : Tables) (o : OpenTables file t) (i : ℕ) (h : i < t.count) {e : SymbolEntry} {r : EntryRefusals} (a : e ≡ entry_of file t (record { 0 = i })) (b : r ≡ refusals_of file t (record { 0 = i }) e) where
  abbrev here : SymbolIndex
  here = record { 0 = i }

  abbrev left : ℕ
  left = t.count - (i + 1)

  refusals-here : r ≡ refusals_of file t here (entry_of file t here)
  refusals-here = b ∙ ap (refusals_of file t here) a

  rows-here : rows_by here r ≡ report_bytes (changes_at file t here)
  rows-here = ap (rows_by here) refusals-here ∙ report-changes file t here o

  module _ {n : ℕ} (d : n ≡ mended_aux r left e.numaux) where
    -- the next entry is in the table, or is its end
    pub next-inside : i + 1 + n ≤ t.count
    next-inside = rw (d, b) (aux-inside file t here e h)

    turn : left_from file t i ≡ changes_at file t here ++ left_from file t (i + 1 + n)
    turn =
        let q : (mended_entry file t here).numaux ≡ n = aux-is file t o here h ∙ sym (d ∙ ap (λ (x : EntryRefusals). mended_aux x left e.numaux) refusals-here ∙ ap (λ (x : SymbolEntry). mended_aux (refusals_of file t here (entry_of file t here)) left x.numaux) a) in
        left_step file t i h ∙ ap (λ (k : ℕ). changes_at file t here ++ left_from file t (i + 1 + k)) q

    pub mend-turn : (bs : List ℕ) {now : List ℕ} → now ≡ mend_by t here e r bs → put_all t (left_from file t (i + 1 + n)) now ≡ put_all t (left_from file t i) bs
    mend-turn bs {now} m =
        let q : now ≡ put_all t (changes_at file t here) bs = m ∙ ap (λ (x : SymbolEntry). mend_by t here x r bs) a ∙ ap (λ (x : EntryRefusals). mend_by t here (entry_of file t here) x bs) refusals-here ∙ mend-changes file t here bs in
        ap (put_all t (left_from file t (i + 1 + n))) q
        ∙ sym (put-append t (changes_at file t here) (left_from file t (i + 1 + n)) bs)
        ∙ sym (ap (λ (cs : List Change). put_all t cs bs) turn)

    pub count_turn : (sum total : ℕ) {m : ℕ} → m ≡ refused_in r → sum + length (left_from file t i) ≡ total → sum + m + length (left_from file t (i + 1 + n)) ≡ total
    count_turn sum total {m} q k =
        let c : m ≡ length (changes_at file t here) = q ∙ ap refused_in refusals-here ∙ count-changes file t here in
        let l = ap length turn in
        let s = length-append (changes_at file t here) (left_from file t (i + 1 + n)) in
        omega arith

    -- the report: its rows and what is left behind them
    rows-turn : report_bytes (left_from file t i) ≡ rows_by here r ++ report_bytes (left_from file t (i + 1 + n))
    rows-turn =
        ap report_bytes turn
        ∙ report-append (changes_at file t here) (left_from file t (i + 1 + n))
        ∙ ap (λ (bs : List ℕ). bs ++ report_bytes (left_from file t (i + 1 + n))) (sym rows-here)

    module _ (at : ℕ) (bs : List ℕ) where
      lengths : length (report_bytes (left_from file t i)) ≡ length (rows_by here r) + length (report_bytes (left_from file t (i + 1 + n)))
      lengths = ap length rows-turn ∙ length-append (rows_by here r) (report_bytes (left_from file t (i + 1 + n)))

      pub rows-room : (k : ℕ) → at + length (report_bytes (left_from file t i)) ≤ k → at + length (rows_by here r) ≤ k
      rows-room k q = let l = lengths in omega arith

      module _ {on : ℕ} {now : List ℕ} (p : now ≡ put_bytes at (rows_by here r) bs) (w : on ≡ at + length (rows_by here r)) where
        pub room_next : at + length (report_bytes (left_from file t i)) ≤ length bs → on + length (report_bytes (left_from file t (i + 1 + n))) ≤ length now
        room_next q =
            let l = lengths in
            let z : length now ≡ length bs = ap length p ∙ length-put-bytes at (rows_by here r) bs in
            omega arith

        pub report-turn : put_bytes on (report_bytes (left_from file t (i + 1 + n))) now ≡ put_bytes at (report_bytes (left_from file t i)) bs
        report-turn =
            rw (p, w)
            (sym (ap (λ (vs : List ℕ). put_bytes at vs bs) rows-turn ∙ put-bytes-append at (rows_by here r) (report_bytes (left_from file t (i + 1 + n))) bs))

  -- the rows of the entry have room
  pub entry-room : (at k : ℕ) → at + length (report_bytes (left_from file t i)) ≤ k → at + length (rows_by here r) ≤ k
  entry-room at k q = rows-room refl at [] k q

-- a buffer keeps its length
pub mend-keeps : (t : Tables) (i : SymbolIndex) (e : SymbolEntry) (r : EntryRefusals) (bs : List ℕ) {now : List ℕ} → now ≡ mend_by t i e r bs → length now ≡ length bs
mend-keeps t i e r bs m = ap length m ∙ length-mend t i e r bs

pub report-keeps : (at : ℕ) (vs bs : List ℕ) {now : List ℕ} → now ≡ put_bytes at vs bs → length now ≡ length bs
report-keeps at vs bs m = ap length m ∙ length-put-bytes at vs bs
