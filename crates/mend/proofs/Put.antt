-- Laws of fields that are set. Assumes nothing.
use mathlib.Core.Path.{◌≡◌, refl, ◌∙◌}
use mathlib.Core.Bool.{Bool, true, false}
use mathlib.Core.List.{List}
use Prim.Native.Nat.{ℕ, ◌+◌, ◌≤◌}
use lib.ListN.{length}
use Rattle.word.specs.declared.Field.{Field}
use Rattle.word.specs.Number.{bytes_in}
use Rattle.update.specs.Update.{put_field}
use Rattle.update.proofs.Laws.{length-put}
use Rattle.format.specs.declared.SymbolIndex.{SymbolIndex}
use Rattle.format.specs.declared.SymbolLayout.{SymbolLayout}
use Rattle.format.specs.Layout.{symbol_layout}
use Rattle.symbol.specs.declared.Tables.{Tables}
use Rattle.symbol.specs.declared.SymbolEntry.{SymbolEntry}
use Rattle.symbol.specs.Entry.{entry_start}
use Rattle.mend.specs.declared.EntryRefusals.{EntryRefusals}
use Rattle.mend.specs.Mend.{aux_left, without_visibility}
use Rattle.mend.specs.Entry.{put_if, mend_by}

-- ---- a field set where a test holds

module _ (b : Bool) (base : ℕ) (f : Field) (v : ℕ) (bs : List ℕ) where
  pub put_on : b ≡ true → put_field (bytes_in f.width) (base + f.offset) v bs ≡ put_if b base f v bs
  unfolding put_if
  put_on e = rw e refl

  pub put-off : b ≡ false → bs ≡ put_if b base f v bs
  unfolding put_if
  put-off e = rw e refl

pub length-put-if : (b : Bool) (base : ℕ) (f : Field) (v : ℕ) (bs : List ℕ) → length (put_if b base f v bs) ≡ length bs
unfolding put_if
length-put-if true base f v bs = length-put (bytes_in f.width) (base + f.offset) v bs
length-put-if false base f v bs = refl

pub fits_after : (b : Bool) (base : ℕ) (f : Field) (v : ℕ) (bs : List ℕ) {now : List ℕ} {k : ℕ} → now ≡ put_if b base f v bs → k ≤ length bs → k ≤ length now
fits_after b base f v bs e h = rw (e, length-put-if b base f v bs) h

-- ---- the four fields of an entry

module _ (t : Tables) (i : SymbolIndex) (e : SymbolEntry) (r : EntryRefusals) (bs : List ℕ) where
  pub mended-by : {l : SymbolLayout} {n : ℕ} {one two three four : List ℕ} → l ≡ symbol_layout t.format → n ≡ without_visibility e.ntype
      → one ≡ put_if r.aux (entry_start t i.0) l.numaux (aux_left t i) bs
      → two ≡ put_if r.scnum (entry_start t i.0) l.scnum 0 one
      → three ≡ put_if r.name (entry_start t i.0) l.offset 0 two
      → four ≡ put_if r.visibility (entry_start t i.0) l.ntype n three
      → four ≡ mend_by t i e r bs
  unfolding mend_by
  mended-by q m a b c d = rw (d, c, b, a, m, q) refl

  pub length-mend : length (mend_by t i e r bs) ≡ length bs
  unfolding mend_by
  length-mend =
      let l = symbol_layout t.format in
      let base = entry_start t i.0 in
      let one = put_if r.aux base l.numaux (aux_left t i) bs in
      let two = put_if r.scnum base l.scnum 0 one in
      let three = put_if r.name base l.offset 0 two in
      length-put-if r.visibility base l.ntype (without_visibility e.ntype) three
      ∙ length-put-if r.name base l.offset 0 two
      ∙ length-put-if r.scnum base l.scnum 0 one
      ∙ length-put-if r.aux base l.numaux (aux_left t i) bs
