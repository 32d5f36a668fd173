-- Before turn i the block has i entries: a turn reads the next one, and the reader steps past it.
use Rattle.std.proofs.Common.{ℕ, suc, ◌≡◌, ◌+◌, ◌*◌, ◌<◌, ◌∙◌, refl, sym, ap, List, Bor, true, ltb, arith}
use borrow.Author.Tests.{ltb-true}
use Rattle.format.specs.declared.Format.{Format}
use Rattle.table_kind.specs.declared.TableKind.TheVariants.{Lines}
use Rattle.table_kind.proofs.Places.{each-length, next_place}
use Rattle.line.specs.declared.LineEntry.{LineEntry}
use Rattle.line.specs.declared.LineBlock.{LineBlock}
use Rattle.line.specs.Line.{line_length, entry_at, entry_of}
use Rattle.line.specs.Search.{Entries}
use Rattle.line.specs.Block.{empty_block, added, block_to}
use Rattle.line_reader.proofs.pass_block.Goals as goal

one_more : (b : LineBlock) (x : LineEntry) → (added b x).rows ≡ suc b.rows
unfolding added
one_more b x = refl

first : (e : Entries) (b : LineBlock) → b ≡ empty_block → b ≡ block_to e b.rows
unfolding block_to
first e b h = rw h refl

counted : (b d : LineBlock) (x : LineEntry) → d ≡ added b x → d.rows ≡ suc b.rows
counted b d x h = ap (λ (z : LineBlock). z.rows) h ∙ one_more b x

next : (e : Entries) (b d : LineBlock) (x : LineEntry) → b ≡ block_to e b.rows → x ≡ e b.rows → d ≡ added b x → d ≡ block_to e d.rows
unfolding block_to
next e b d x hs hx ht = ht ∙ ap (added b) hx ∙ ap (λ (z : LineBlock). added z (e b.rows)) hs ∙ ap (block_to e) (sym (counted b d x ht))

entry_is : (f : Format) (file rf : List ℕ) (start ra i : ℕ) (x : LineEntry) → rf ≡ file → ra ≡ start + i * line_length f → x ≡ entry_at rf ra f → x ≡ entry_of file start f i
entry_is f file rf start ra i x p q h = cc

left : (f : Format) (start i count r end : ℕ) → r ≡ start + i * line_length f → end ≡ start + count * line_length f → true ≡ ltb r end → i < count
left f start i count r end p q h =
    each-length (λ m. start + i * m < start + count * m → i < count) (λ k. omega (arith, k)) (λ k. omega (arith, k)) (λ k. omega (arith, k)) (λ k. omega (arith, k)) Lines f
    (rw (← p, ← q) (ltb-true r end (cc)))

pub loop-r-init : goal.loop-r-init
loop-r-init c = let z : c.empty_block-b.result.rows ≡ 0 = ap (λ (b : LineBlock). b.rows) c.empty_block-b.ensures in record {
  same = ap (λ (b : Bor (List ℕ)). b.now) c.reader-r.ensures.0;
  inside = omega (arith, z);
  place = rw z (omega (arith, c.reader-r.ensures.1));
  last = c.table_end-end.ensures;
  so_far = first _ _ c.empty_block-b.ensures;
}

pub loop-r-smaller : goal.loop-r-smaller
loop-r-smaller c =
    let lt : c.loop-r.b.rows < c.args.count = left c.args.f _ _ _ _ _ c.loop-r.invariant.place c.loop-r.invariant.last c.loop-r-test.ensures in
    let n : c.add-b.result.rows ≡ suc c.loop-r.b.rows = counted _ _ _ c.add-b.ensures in
    omega (arith, lt, n)

pub loop-r-preserved : goal.loop-r-preserved
loop-r-preserved c =
    let lt : c.loop-r.b.rows < c.args.count = left c.args.f _ _ _ _ _ c.loop-r.invariant.place c.loop-r.invariant.last c.loop-r-test.ensures in
    let n : c.add-b.result.rows ≡ suc c.loop-r.b.rows = counted _ _ _ c.add-b.ensures in
    record {
      same = ap (λ (b : Bor (List ℕ)). b.now) c.step-r.ensures.0 ∙ c.loop-r.invariant.same;
      inside = omega (arith, lt, n);
      place = rw n (c.step-r.ensures.1 ∙ ap (λ (z : ℕ). z + line_length c.args.f) c.loop-r.invariant.place ∙ next_place Lines c.args.f c.args.at c.loop-r.b.rows);
      last = c.loop-r.invariant.last;
      so_far = next _ _ _ _ c.loop-r.invariant.so_far (entry_is _ _ _ _ _ _ _ c.loop-r.invariant.same c.loop-r.invariant.place c.entry-e.ensures) c.add-b.ensures;
    }
