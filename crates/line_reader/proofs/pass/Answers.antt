-- Before turn i the search has seen i entries: a turn reads the next one, and the reader steps past it.
use Rattle.std.proofs.Common.{ℕ, suc, ◌≡◌, ◌+◌, ◌*◌, ◌<◌, ◌∙◌, refl, sym, ap, List, Bor, true, ltb, arith}
use borrow.Author.Tests.{ltb-true}
use Rattle.format.specs.declared.Format.{Format}
use Rattle.table_kind.specs.declared.TableKind.TheVariants.{Lines}
use Rattle.table_kind.proofs.Places.{each-length, next_place}
use Rattle.line.specs.declared.LineEntry.{LineEntry}
use Rattle.line.specs.declared.LineEntry.TheVariants.{Function, Line}
use Rattle.line.specs.declared.LineSearch.{LineSearch}
use Rattle.line.specs.Line.{line_length, entry_at, entry_of}
use Rattle.line.specs.Search.{Entries, begun, seen, seen_to}
use Rattle.line_reader.proofs.pass.Goals as goal

one_more : (a : ℕ) (s : LineSearch) (x : LineEntry) → (seen a s x).seen ≡ suc s.seen
unfolding seen
one_more a s (Function k) = refl
one_more a s (Line m) = refl

first : (e : Entries) (a : ℕ) (s : LineSearch) → s ≡ begun → s ≡ seen_to e a s.seen
unfolding seen_to
first e a s h = rw h refl

counted : (a : ℕ) (s t : LineSearch) (x : LineEntry) → t ≡ seen a s x → t.seen ≡ suc s.seen
counted a s t x h = ap (λ (z : LineSearch). z.seen) h ∙ one_more a s x

next : (e : Entries) (a : ℕ) (s t : LineSearch) (x : LineEntry) → s ≡ seen_to e a s.seen → x ≡ e s.seen → t ≡ seen a s x → t ≡ seen_to e a t.seen
unfolding seen_to
next e a s t x hs hx ht = ht ∙ ap (seen a s) hx ∙ ap (λ (z : LineSearch). seen a z (e s.seen)) hs ∙ ap (seen_to e a) (sym (counted a s t x ht))

entry_is : (f : Format) (file rf : List ℕ) (start ra i : ℕ) (x : LineEntry) → rf ≡ file → ra ≡ start + i * line_length f → x ≡ entry_at rf ra f → x ≡ entry_of file start f i
entry_is f file rf start ra i x p q h = cc

left : (f : Format) (start i count r end : ℕ) → r ≡ start + i * line_length f → end ≡ start + count * line_length f → true ≡ ltb r end → i < count
left f start i count r end p q h =
    each-length (λ m. start + i * m < start + count * m → i < count) (λ k. omega (arith, k)) (λ k. omega (arith, k)) (λ k. omega (arith, k)) (λ k. omega (arith, k)) Lines f
    (rw (← p, ← q) (ltb-true r end (cc)))

pub loop-r-init : goal.loop-r-init
loop-r-init c = let z : c.begin-s.result.seen ≡ 0 = ap (λ (s : LineSearch). s.seen) c.begin-s.ensures in record {
  same = ap (λ (b : Bor (List ℕ)). b.now) c.reader-r.ensures.0;
  inside = omega (arith, z);
  place = rw z (omega (arith, c.reader-r.ensures.1));
  last = c.table_end-end.ensures;
  so_far = first _ _ _ c.begin-s.ensures;
}

pub loop-r-smaller : goal.loop-r-smaller
loop-r-smaller c =
    let lt : c.loop-r.s.seen < c.args.count = left c.args.f _ _ _ _ _ c.loop-r.invariant.place c.loop-r.invariant.last c.loop-r-test.ensures in
    let n : c.see-s.result.seen ≡ suc c.loop-r.s.seen = counted _ _ _ _ c.see-s.ensures in
    omega (arith, lt, n)

pub loop-r-preserved : goal.loop-r-preserved
loop-r-preserved c =
    let lt : c.loop-r.s.seen < c.args.count = left c.args.f _ _ _ _ _ c.loop-r.invariant.place c.loop-r.invariant.last c.loop-r-test.ensures in
    let n : c.see-s.result.seen ≡ suc c.loop-r.s.seen = counted _ _ _ _ c.see-s.ensures in
    record {
      same = ap (λ (b : Bor (List ℕ)). b.now) c.step-r.ensures.0 ∙ c.loop-r.invariant.same;
      inside = omega (arith, lt, n);
      place = rw n (c.step-r.ensures.1 ∙ ap (λ (z : ℕ). z + line_length c.args.f) c.loop-r.invariant.place ∙ next_place Lines c.args.f c.args.at c.loop-r.s.seen);
      last = c.loop-r.invariant.last;
      so_far = next _ _ _ _ _ c.loop-r.invariant.so_far (entry_is _ _ _ _ _ _ _ c.loop-r.invariant.same c.loop-r.invariant.place c.entry-e.ensures) c.see-s.ensures;
    }
