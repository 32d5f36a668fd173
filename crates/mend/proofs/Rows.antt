-- Laws of the report's rows. Assumes nothing.
use mathlib.Core.Path.{◌≡◌, refl, sym, ◌∙◌, ap}
use mathlib.Core.Bool.{Bool, true, false}
use mathlib.Core.List.{List, [], ◌++◌}
use Prim.Native.Nat.{ℕ, ◌+◌, ◌≤◌}
use native.Mathlib.Nat.{add-zero}
use native.Mathlib.Omega.{arith}
use lib.ListN.{length, length-append}
use lib.Seq.{sets, length-sets}
use Rattle.word.specs.declared.Field.{Field}
use Rattle.word.specs.declared.Width.TheVariants.{Four}
use Rattle.word.specs.Number.{field, bytes_in}
use Rattle.update.specs.Update.{put_field, bytes_of_number}
use Rattle.update.proofs.Laws.{length-bytes, length-put}
use Rattle.update.proofs.Stores.{sets-append}
use Rattle.format.specs.declared.SymbolIndex.{SymbolIndex}
use Rattle.refusal.specs.declared.Refusal.{Refusal}
use Rattle.refusal.specs.declared.Refusal.TheVariants.{Aux, Scnum, Name, Visibility}
use Rattle.refusal.specs.Refusal.{number_of, one_if}
use Rattle.mend.specs.declared.EntryRefusals.{EntryRefusals}
use Rattle.mend.specs.Report.{row_bytes, put_bytes}
use Rattle.mend.specs.Entry.{row_if, rows_by, refused_in}

pub length-row : (index number : ℕ) → length (row_bytes index number) ≡ 8
unfolding row_bytes
length-row index number =
    let a = length-bytes 4 index in
    let b = length-bytes 4 number in
    length-append (bytes_of_number 4 index) (bytes_of_number 4 number) ∙ omega arith

-- ---- one row

module _ (b : Bool) (i : SymbolIndex) (x : Refusal) where
  row_on : b ≡ true → row_if b i x ≡ row_bytes i.0 (number_of x)
  unfolding row_if
  row_on e = rw e refl

  row-off : b ≡ false → row_if b i x ≡ []
  unfolding row_if
  row-off e = rw e refl

  length-on : b ≡ true → length (row_if b i x) ≡ 8
  length-on e = ap length (row_on e) ∙ length-row i.0 (number_of x)

  module _ (at : ℕ) (bs : List ℕ) where
    pub next-on : b ≡ true → at + 8 ≡ at + length (row_if b i x)
    next-on e = let z = length-on e in omega arith

    pub next-off : b ≡ false → at ≡ at + length (row_if b i x)
    next-off e = let z : length (row_if b i x) ≡ 0 = ap length (row-off e) in omega arith

    pub sets-off : b ≡ false → bs ≡ put_bytes at (row_if b i x) bs
    unfolding put_bytes
    sets-off e = rw (row-off e) refl

    -- its two words, each by its field
    module _ {f : Field} (q : f ≡ field 0 Four) where
      pub room-first : b ≡ true → at + length (row_if b i x) ≤ length bs → at + f.offset + bytes_in f.width ≤ length bs
      room-first e h = let z = length-on e in rw q (omega arith)

      module _ {one : List ℕ} (p : one ≡ put_field (bytes_in f.width) (at + f.offset) i.0 bs) {g : Field} (k : g ≡ field 4 Four) where
        pub room-second : b ≡ true → at + length (row_if b i x) ≤ length bs → at + g.offset + bytes_in g.width ≤ length one
        room-second e h =
            let z = length-on e in
            let l : length one ≡ length bs = ap length p ∙ length-put (bytes_in f.width) (at + f.offset) i.0 bs in
            rw (k, l) (omega arith)

        pub sets-on : {n : ℕ} {two : List ℕ} → n ≡ number_of x → two ≡ put_field (bytes_in g.width) (at + g.offset) n one → b ≡ true → two ≡ put_bytes at (row_if b i x) bs
        unfolding put_bytes
        sets-on m r e = rw (r, m, p, k, q, row_on e, add-zero at) both
          where
            both : put_field 4 (at + 4) (number_of x) (put_field 4 at i.0 bs) ≡ sets bs at (row_bytes i.0 (number_of x))
            both =
                unfold put_field row_bytes in
                sym (sets-append bs at (bytes_of_number 4 i.0) (bytes_of_number 4 (number_of x)) ∙ ap (λ (n : ℕ). sets (sets bs at (bytes_of_number 4 i.0)) (at + n) (bytes_of_number 4 (number_of x))) (length-bytes 4 i.0))

-- ---- bytes put one behind the other

pub length-put-bytes : (at : ℕ) (vs bs : List ℕ) → length (put_bytes at vs bs) ≡ length bs
unfolding put_bytes
length-put-bytes at vs bs = length-sets bs at vs

pub put-bytes-append : (at : ℕ) (vs ws bs : List ℕ) → put_bytes at (vs ++ ws) bs ≡ put_bytes (at + length vs) ws (put_bytes at vs bs)
unfolding put_bytes
put-bytes-append at vs ws bs = sets-append bs at vs ws

pub fits-row : (at : ℕ) (row bs : List ℕ) {now : List ℕ} {k : ℕ} → now ≡ put_bytes at row bs → k ≤ length bs → k ≤ length now
fits-row at row bs e h = rw (e, length-put-bytes at row bs) h

-- ---- the rows of an entry, one behind the other

module _ (i : SymbolIndex) (r : EntryRefusals) (at : ℕ) where
  abbrev a : List ℕ
  a = row_if r.aux i (Aux i)

  abbrev b : List ℕ
  b = row_if r.scnum i (Scnum i)

  abbrev c : List ℕ
  c = row_if r.name i (Name i)

  abbrev d : List ℕ
  d = row_if r.visibility i (Visibility i)

  pub rows-length : length (rows_by i r) ≡ length a + length b + length c + length d
  unfolding rows_by
  rows-length =
      let x = length-append a (b ++ (c ++ d)) in
      let y = length-append b (c ++ d) in
      let z = length-append c d in
      omega arith

  pub room-1 : (k : ℕ) → at + length (rows_by i r) ≤ k → at + length a ≤ k
  room-1 k h = let z = rows-length in omega arith

  module _ {one : ℕ} (p : one ≡ at + length a) where
    pub room-2 : (k : ℕ) → at + length (rows_by i r) ≤ k → one + length b ≤ k
    room-2 k h = let z = rows-length in omega arith

    module _ {two : ℕ} (q : two ≡ one + length b) where
      pub room-3 : (k : ℕ) → at + length (rows_by i r) ≤ k → two + length c ≤ k
      room-3 k h = let z = rows-length in omega arith

      module _ {three : ℕ} (s : three ≡ two + length c) where
        pub room-4 : (k : ℕ) → at + length (rows_by i r) ≤ k → three + length d ≤ k
        room-4 k h = let z = rows-length in omega arith

        pub rows_next : {four : ℕ} → four ≡ three + length d → four ≡ at + length (rows_by i r)
        rows_next w = let z = rows-length in omega arith

        pub rows-put : (bs : List ℕ) {u v w x : List ℕ} → u ≡ put_bytes at a bs → v ≡ put_bytes one b u → w ≡ put_bytes two c v → x ≡ put_bytes three d w → x ≡ put_bytes at (rows_by i r) bs
        unfolding rows_by
        rows-put bs e f g h =
            rw (h, g, f, e, s, q, p)
            (sym (put-bytes-append at a (b ++ (c ++ d)) bs
            ∙ put-bytes-append (at + length a) b (c ++ d) (put_bytes at a bs)
            ∙ put-bytes-append (at + length a + length b) c d (put_bytes (at + length a) b (put_bytes at a bs))))

-- ---- how many

pub one-most : (b : Bool) → one_if b ≤ 1
one-most true = omega arith
one-most false = omega arith

pub four-most : (r : EntryRefusals) → refused_in r ≤ 4
unfolding refused_in
four-most r = let a = one-most r.aux in let b = one-most r.scnum in let c = one-most r.name in let d = one-most r.visibility in omega arith

pub counted : (r : EntryRefusals) {a b c d : ℕ} → a ≡ one_if r.aux → b ≡ one_if r.scnum → c ≡ one_if r.name → d ≡ one_if r.visibility → a + b + c + d ≡ refused_in r
unfolding refused_in
counted r p q s w = rw (p, q, s, w) refl
