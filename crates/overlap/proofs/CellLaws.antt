-- The laws of the cells. Assumes nothing.
use mathlib.Core.Path.{◌≡◌, refl, sym, ◌∙◌, ap, ap₂, subst}
use mathlib.Core.Logic.{◌⊎◌, inl, inr, ⊎_elim}
use mathlib.Core.Bool.{Bool, true, false}
use mathlib.Core.List.{List}
use Prim.Native.Nat.{ℕ, zero, suc, ◌+◌, ◌-◌, ◌≤◌, ◌<◌}
use native.Mathlib.Decide.{dec_lt, dec_le, ℕ_discrete}
use native.Mathlib.Numerals.{add-one}
use native.Mathlib.Omega.{arith}
use lib.ListN.{length, get_or}
use borrow.Author.Tests.{le-leb, lt-leb, lt-ltb, le-ltb}
use Rattle.format.specs.declared.Format.{Format}
use Rattle.parts.specs.declared.Parts.{Parts}
use Rattle.loader_header.specs.declared.LoaderTables.{LoaderTables}
use Rattle.relocation.specs.declared.FieldPlace.{FieldPlace}
use Rattle.relocation.specs.Relocation.{bytes_wide, place_at}
use Rattle.field_overlap.proofs.Readable.{size_of, room}
use Rattle.field_overlap.proofs.Rule.{no_true, no_false, same_true, same_refl}
use Rattle.field_overlap.specs.Overlap.{same_bool, Meets, First, Readable}
use Rattle.overlap.specs.Cells.{code, Marked, MarkOut, cover, Hit, CellsAre, StepOut, Untouched, LowerOut, PassOut, NoHitAt, HitSomewhere, SweepOut}

-- ---- entries

module _ (r : ℕ → FieldPlace) (t : Bool) where
  cover-in : (i k : ℕ) → (r i).text ≡ t → (r i).offset ≤ k → k < (r i).offset + bytes_wide (r i).wide
      → cover r t (suc i) k ≡ code (r i).wide (k - (r i).offset)
  unfolding cover
  cover-in i k e a b = rw (same_refl (r i).text t e, le-leb (r i).offset k a, lt-ltb k ((r i).offset + bytes_wide (r i).wide) b) refl

  cover-other : (i k : ℕ) → same_bool (r i).text t ≡ false → cover r t (suc i) k ≡ cover r t i k
  unfolding cover
  cover-other i k e = rw e refl

  cover-out : (i k : ℕ) → same_bool (r i).text t ≡ true → (k < (r i).offset) ⊎ ((r i).offset + bytes_wide (r i).wide ≤ k) → cover r t (suc i) k ≡ cover r t i k
  unfolding cover
  cover-out i k e (inl h) = rw (e, lt-leb (r i).offset k h) refl
  cover-out i k e (inr h) =
      let a : (r i).offset ≤ k = omega arith in
      rw (e, le-leb (r i).offset k a, le-ltb k ((r i).offset + bytes_wide (r i).wide) h) refl

  -- an entry of the other section
  pub step_other : (base i : ℕ) (c : List ℕ) (e : FieldPlace) → e ≡ r i → same_bool e.text t ≡ false → StepOut r t base i c c false
  step_other base i c e p h =
      let h' : same_bool (r i).text t ≡ false = subst (λ (x : FieldPlace). same_bool x.text t ≡ false) p h in
      record {
        size = refl;
        hit = no_true;
        miss = λ _ are. (λ x l. are x l ∙ sym (cover-other i (base + x) h'), λ hit. no_true (sym h' ∙ same_refl (r i).text t hit.section));
      }

  marked-cells : (base i : ℕ) (c₀ c : List ℕ) → same_bool (r i).text t ≡ true → Marked base (r i).offset (r i).wide (bytes_wide (r i).wide) c₀ c
      → CellsAre r t base i c₀ → CellsAre r t base (suc i) c
  marked-cells base i c₀ c h m are x l = go (dec_le (r i).offset (base + x)) (dec_lt (base + x) ((r i).offset + bytes_wide (r i).wide))
    where
      l₀ : x < length c₀
      l₀ = omega (arith, m.size)

      go : Dec ((r i).offset ≤ base + x) → Dec (base + x < (r i).offset + bytes_wide (r i).wide) → get_or c x 0 ≡ cover r t (suc i) (base + x)
      go (yes a) (yes b) = m.inside x l₀ a b ∙ sym (cover-in i (base + x) (same_true (r i).text t h) a b)
      go (yes a) (no b) = m.outside x l₀ (inr (omega arith)) ∙ are x l₀ ∙ sym (cover-out i (base + x) h (inr (omega arith)))
      go (no a) (yes b) = m.outside x l₀ (inl (omega arith)) ∙ are x l₀ ∙ sym (cover-out i (base + x) h (inl (omega arith)))
      go (no a) (no b) = m.outside x l₀ (inl (omega arith)) ∙ are x l₀ ∙ sym (cover-out i (base + x) h (inl (omega arith)))

  cell-cover : (base i k : ℕ) (c : List ℕ) → CellsAre r t base i c → base ≤ k → k - base < length c → get_or c (k - base) 0 ≡ cover r t i k
  cell-cover base i k c are a l = are (k - base) l ∙ ap (cover r t i) (let e : base + (k - base) ≡ k = omega arith in e)

  step-mark : (base i : ℕ) (c₀ c : List ℕ) (s : Bool) → same_bool (r i).text t ≡ true → MarkOut base (r i).offset (r i).wide c₀ c s → StepOut r t base i c₀ c s
  step-mark base i c₀ c s h m = record { size = m.size; hit = hit; miss = miss }
    where
      hit : s ≡ true → CellsAre r t base i c₀ → Hit r t base (length c₀) i
      hit e are =
          let w = m.hit e in
          let q = w.0 in
          let g = cell-cover base i ((r i).offset + q) c₀ are w.2.low w.2.high in
          record {
            section = same_true (r i).text t h;
            place = q;
            low = w.1;
            from = w.2.low;
            upto = w.2.high;
            some = λ z. w.2.some (g ∙ z);
            other = λ z. w.2.other (g ∙ z);
          }

      miss : s ≡ false → CellsAre r t base i c₀ → CellsAre r t base (suc i) c × (Hit r t base (length c₀) i → ⊥)
      miss e are = (
        marked-cells base i c₀ c h (m.miss e).1 are,
        λ y. let g = cell-cover base i ((r i).offset + y.place) c₀ are y.from y.upto in
            (m.miss e).0 y.place y.low
            (record { low = y.from; high = y.upto; some = λ z. y.some (sym g ∙ z); other = λ z. y.other (sym g ∙ z) }),
      )

  pub step_same : (base i : ℕ) (c₀ c : List ℕ) (s : Bool) (e : FieldPlace) → e ≡ r i → same_bool e.text t ≡ true → MarkOut base e.offset e.wide c₀ c s
      → StepOut r t base i c₀ c s
  step_same base i c₀ c s e p h m =
      step-mark base i c₀ c s (subst (λ (x : FieldPlace). same_bool x.text t ≡ true) p h) (subst (λ (x : FieldPlace). MarkOut base x.offset x.wide c₀ c s) p m)

  -- the last entry that covers a byte
  record LastCover (i k : ℕ) : Type 0 where
    which : ℕ
    before : which < i
    section : (r which).text ≡ t
    low : (r which).offset ≤ k
    high : k < (r which).offset + bytes_wide (r which).wide
    value : cover r t i k ≡ code (r which).wide (k - (r which).offset)

  last-later : (i k : ℕ) → cover r t (suc i) k ≡ cover r t i k → LastCover i k → LastCover (suc i) k
  last-later i k e w = record { which = w.which; before = omega (arith, w.before); section = w.section; low = w.low; high = w.high; value = e ∙ w.value }

  last_step : (i k : ℕ) → (cover r t (suc i) k ≡ 0 → ⊥) → ((cover r t i k ≡ 0 → ⊥) → LastCover i k) → LastCover (suc i) k
  last_step i k h rec = section (same_bool (r i).text t) refl
    where
      earlier : cover r t (suc i) k ≡ cover r t i k → LastCover (suc i) k
      earlier e = last-later i k e (rec (λ z. h (e ∙ z)))

      field : same_bool (r i).text t ≡ true → Dec ((r i).offset ≤ k) → Dec (k < (r i).offset + bytes_wide (r i).wide) → LastCover (suc i) k
      field e (yes a) (yes b) =
          let here : (r i).text ≡ t = same_true (r i).text t e in
          record { which = i; before = omega arith; section = here; low = a; high = b; value = cover-in i k here a b }
      field e (yes a) (no b) = earlier (cover-out i k e (inr (omega arith)))
      field e (no a) (yes b) = earlier (cover-out i k e (inl (omega arith)))
      field e (no a) (no b) = earlier (cover-out i k e (inl (omega arith)))

      section : (b : Bool) → same_bool (r i).text t ≡ b → LastCover (suc i) k
      section true e = field e (dec_le (r i).offset k) (dec_lt k ((r i).offset + bytes_wide (r i).wide))
      section false e = earlier (cover-other i k e)

  cover-last : (i k : ℕ) → (cover r t i k ≡ 0 → ⊥) → LastCover i k
  cover-last zero k h = absurd (h (unfold cover in refl))
  cover-last (suc i) k h = last_step i k h (cover-last i k)

  code-some : (b : Bool) (p : ℕ) → code b p ≡ 0 → ⊥
  code-some true p e = omega arith
  code-some false p e = omega arith

  -- a byte that an earlier entry covers has a value
  some-step : (i j k : ℕ) → j < suc i → (r j).text ≡ t → (r j).offset ≤ k → k < (r j).offset + bytes_wide (r j).wide
      → (j < i → cover r t i k ≡ 0 → ⊥) → cover r t (suc i) k ≡ 0 → ⊥
  some-step i j k h e a b earlier z = section (same_bool (r i).text t) refl
    where
      rec : cover r t (suc i) k ≡ cover r t i k → (j ≡ i → ⊥) → ⊥
      rec q n = earlier (last (dec_lt j i)) (sym q ∙ z)
        where
          last : Dec (j < i) → j < i
          last (yes l) = l
          last (no l) = absurd (n (omega arith))

      mine : j ≡ i → ((r i).text ≡ t) × ((r i).offset ≤ k) × (k < (r i).offset + bytes_wide (r i).wide)
      mine q = subst (λ (x : ℕ). ((r x).text ≡ t) × ((r x).offset ≤ k) × (k < (r x).offset + bytes_wide (r x).wide)) q (e, a, b)

      field : same_bool (r i).text t ≡ true → Dec ((r i).offset ≤ k) → Dec (k < (r i).offset + bytes_wide (r i).wide) → ⊥
      field g (yes u) (yes v) = code-some (r i).wide (k - (r i).offset) (sym (cover-in i k (same_true (r i).text t g) u v) ∙ z)
      field g (yes u) (no v) = rec (cover-out i k g (inr (omega arith))) (λ q. v (mine q).2)
      field g (no u) (yes v) = rec (cover-out i k g (inl (omega arith))) (λ q. u (mine q).1)
      field g (no u) (no v) = rec (cover-out i k g (inl (omega arith))) (λ q. u (mine q).1)

      section : (b : Bool) → same_bool (r i).text t ≡ b → ⊥
      section true g = field g (dec_le (r i).offset k) (dec_lt k ((r i).offset + bytes_wide (r i).wide))
      section false g = rec (cover-other i k g) (λ q. no_true (sym g ∙ same_refl (r i).text t (mine q).0))

  cover-some : (i j k : ℕ) → j < i → (r j).text ≡ t → (r j).offset ≤ k → k < (r j).offset + bytes_wide (r j).wide → cover r t i k ≡ 0 → ⊥
  cover-some zero j k h e a b z = omega arith
  cover-some (suc i) j k h e a b z = some-step i j k h e a b (λ l. cover-some i j k l e a b) z

-- a value says which field it is of
code-inj : (a b : Bool) (p q : ℕ) → p < bytes_wide a → q < bytes_wide b → code a p ≡ code b q → (a ≡ b) × (p ≡ q)
code-inj true true p q h k e = (refl, omega arith)
code-inj true false p q h k e = absurd (omega arith)
code-inj false true p q h k e = absurd (omega arith)
code-inj false false p q h k e = (refl, omega arith)

module _ (r : ℕ → FieldPlace) where
  hit-meets : (t : Bool) (base size i : ℕ) → Hit r t base size i → Meets r i
  hit-meets t base size i h =
      let k : ℕ = (r i).offset + h.place in
      let w = cover-last r t i k h.some in
      record {
        other = w.which;
        earlier = w.before;
        overlap = record {
          section = w.section ∙ sym h.section;
          byte = k;
          in_a = (w.low, w.high);
          in_b = (omega arith, omega (arith, h.low));
          differ = λ d.
              let q : k - (r w.which).offset ≡ h.place = omega (arith, d.0) in
              h.other (w.value ∙ ap₂ code d.1 q);
        };
      }

  meets-hit : (i : ℕ) → ((j : ℕ) → j < i → Meets r j → ⊥) → (m : Meets r i) (base size : ℕ) → base ≤ m.overlap.byte → m.overlap.byte - base < size
      → Hit r (r i).text base size i
  meets-hit i none m base size a b =
      record {
        section = refl;
        place = k - (r i).offset;
        low = omega (arith, in_b);
        from = omega (arith, in_b);
        upto = omega (arith, in_b);
        some = λ z. cover-some r (r i).text i j k m.earlier m.overlap.section m.overlap.in_a.0 m.overlap.in_a.1 (ap (cover r (r i).text i) (sym there) ∙ z);
        other = λ z. other (ap (cover r (r i).text i) (sym there) ∙ z);
      }
    where
      k : ℕ
      k = m.overlap.byte

      j : ℕ
      j = m.other

      in_b : ((r i).offset ≤ k) × (k < (r i).offset + bytes_wide (r i).wide)
      in_b = m.overlap.in_b

      there : (r i).offset + (k - (r i).offset) ≡ k
      there = omega (arith, in_b)

      two : (x : ℕ) → x < i → (r x).text ≡ (r i).text → ((r x).offset ≡ (r i).offset) → ((r x).wide ≡ (r i).wide) → (r x).offset ≤ k → k < (r x).offset + bytes_wide (r x).wide → Dec (x < j) → Dec (j < x) → ⊥
      two x h e o w a b (yes l) v = none j m.earlier (record { other = x; earlier = l; overlap = record { section = e ∙ sym m.overlap.section; byte = k; in_a = (a, b); in_b = m.overlap.in_a; differ = λ d. m.overlap.differ (sym d.0 ∙ o, sym d.1 ∙ w) } })
      two x h e o w a b (no l) (yes v) = none x h (record { other = j; earlier = v; overlap = record { section = m.overlap.section ∙ sym e; byte = k; in_a = m.overlap.in_a; in_b = (a, b); differ = λ d. m.overlap.differ (d.0 ∙ o, d.1 ∙ w) } })
      two x h e o w a b (no l) (no v) =
          let q : x ≡ j = omega arith in
          m.overlap.differ (ap (λ (y : ℕ). (r y).offset) (sym q) ∙ o, ap (λ (y : ℕ). (r y).wide) (sym q) ∙ w)

      other : cover r (r i).text i k ≡ code (r i).wide (k - (r i).offset) → ⊥
      other z =
          let s = cover-some r (r i).text i j k m.earlier m.overlap.section m.overlap.in_a.0 m.overlap.in_a.1 in
          let w = cover-last r (r i).text i k s in
          let c = code-inj (r w.which).wide (r i).wide (k - (r w.which).offset) (k - (r i).offset) (omega (arith, w.low, w.high)) (omega (arith, in_b)) (sym w.value ∙ z) in
          two w.which w.before w.section (omega (arith, w.low, in_b, c.1)) c.0 w.low w.high (dec_lt w.which j) (dec_lt j w.which)

  -- a window for each byte of each field: what the passes found is the first
  passes-first : (n x : ℕ) → x ≤ n
      → ((i : ℕ) → i < x → (k : ℕ) → (r i).offset ≤ k → k < (r i).offset + bytes_wide (r i).wide
      → NoHitAt r (r i).text i k)
      → (x < n → HitSomewhere r x)
      → First r n x
  passes-first n x h below here = record { within = h; before = λ i l. before (suc i) i (omega arith) l; here = λ l. let y = here l in hit-meets y.section y.base y.size x y.hit }
    where
      before : (b i : ℕ) → i < b → i < x → Meets r i → ⊥
      before zero i u l m = omega arith
      before (suc b) i u l m =
          let y = below i l m.overlap.byte m.overlap.in_b.0 m.overlap.in_b.1 in
          y.none (meets-hit i (λ j v. before b j (omega arith) (omega arith)) m y.base y.size y.low y.high)

pub cells-none : (r : ℕ → FieldPlace) (t : Bool) (base : ℕ) (c : List ℕ) → ((x : ℕ) → get_or c x 0 ≡ 0) → CellsAre r t base 0 c
unfolding cover
cells-none r t base c h x l = h x

module _ (r : ℕ → FieldPlace) where
  pass-before : (t : Bool) (base size i : ℕ) → ((j : ℕ) → j < i → Hit r t base size j → ⊥) → (Hit r t base size i → ⊥)
      → (j : ℕ) → j < i + 1 → Hit r t base size j → ⊥
  pass-before t base size i h n j l y = go (ℕ_discrete j i)
    where
      go : Dec (j ≡ i) → ⊥
      go (yes e) = n (subst (λ (x : ℕ). Hit r t base size x) e y)
      go (no d) = h j (omega arith) y

  -- windows
  pub sweep-turn : (t : Bool) (base w n b x next : ℕ) → SweepOut r t base n b → PassOut r t base w b x next → SweepOut r t next n x
  sweep-turn t base w n b x next s p = record { within = omega (arith, s.within, p.within); before = before; here = here }
    where
      before : (i : ℕ) → i < x → (k : ℕ) → k < next → NoHitAt r t i k
      before i l k h = go (dec_lt k base) (dec_lt k (base + w))
        where
          go : Dec (k < base) → Dec (k < base + w) → NoHitAt r t i k
          go (yes u) v = s.before i (omega (arith, p.within)) k u
          go (no u) (yes v) = record { base = base; size = w; low = omega arith; high = omega arith; none = p.before i l }
          go (no u) (no v) =
              record {
                base = base + w;
                size = next - (base + w);
                low = omega arith;
                high = omega arith;
                none = λ y. p.skipped i l y.section ((r i).offset + y.place) y.from (omega (arith, y.upto, y.from, p.further)) (omega arith) (omega (arith, y.low));
              }

      here : x < n → HitSomewhere r x
      here l = go (dec_lt x b)
        where
          go : Dec (x < b) → HitSomewhere r x
          go (yes u) = record { section = t; base = base; size = w; hit = p.here u }
          go (no u) =
              let e : b ≡ x = omega (arith, p.within) in
              subst (λ (y : ℕ). HitSomewhere r y) e (s.here (omega arith))

  two-sweeps : (n a x s s' : ℕ) → SweepOut r true s n a → SweepOut r false s' a x
      → ((i : ℕ) → i < n → ((r i).offset + bytes_wide (r i).wide ≤ s) ⊎ ((r i).text ≡ true → ⊥))
      → ((i : ℕ) → i < n → ((r i).offset + bytes_wide (r i).wide ≤ s') ⊎ ((r i).text ≡ false → ⊥))
      → First r n x
  two-sweeps n a x s s' p q fit fit' = passes-first r n x (omega (arith, p.within, q.within)) below here
    where
      below : (i : ℕ) → i < x → (k : ℕ) → (r i).offset ≤ k → k < (r i).offset + bytes_wide (r i).wide → NoHitAt r (r i).text i k
      below i l k lo hi = go (r i).text refl
        where
          go : (b : Bool) → (r i).text ≡ b → NoHitAt r (r i).text i k
          go true e =
              let room : (r i).offset + bytes_wide (r i).wide ≤ s = ⊎_elim (λ y. y) (λ y. absurd (y e)) (fit i (omega (arith, p.within, q.within))) in
              subst (λ (b : Bool). NoHitAt r b i k) (sym e) (p.before i (omega (arith, q.within)) k (omega arith))
          go false e =
              let room : (r i).offset + bytes_wide (r i).wide ≤ s' = ⊎_elim (λ y. y) (λ y. absurd (y e)) (fit' i (omega (arith, p.within, q.within))) in
              subst (λ (b : Bool). NoHitAt r b i k) (sym e) (q.before i l k (omega arith))

      here : x < n → HitSomewhere r x
      here l = go (dec_lt x a)
        where
          go : Dec (x < a) → HitSomewhere r x
          go (yes u) = q.here u
          go (no u) =
              let e : a ≡ x = omega (arith, q.within) in
              subst (λ (y : ℕ). HitSomewhere r y) e (p.here (omega arith))

  -- what the first i entries leave of a pass
  pub record PassSoFar (t : Bool) (base size i next : ℕ) : Type 0 where
    pub none : (j : ℕ) → j < i → Hit r t base size j → ⊥
    pub further : base + size ≤ next
    pub skipped : (j : ℕ) → j < i → Untouched (r j) t (base + size) next

  pub so-far-none : (t : Bool) (base size next : ℕ) → base + size ≤ next → PassSoFar t base size 0 next
  so-far-none t base size next h = record { none = λ j l. absurd (omega arith); further = h; skipped = λ j l. absurd (omega arith) }

  pub pass-stop : (t : Bool) (base i n next : ℕ) (c₀ c c' : List ℕ) (s : Bool) (size : ℕ) → i < n → length c ≡ length c₀ → CellsAre r t base i c
      → PassSoFar t base (length c₀) i next → StepOut r t base i c c' s → s ≡ true → length c₀ ≡ size → PassOut r t base size n i next
  pass-stop t base i n next c₀ c c' s size l e are so st h z =
      subst (λ (k : ℕ). PassOut r t base k n i next) z
      (record {
        within = omega arith;
        before = so.none;
        here = λ _. subst (λ (k : ℕ). Hit r t base k i) e (st.hit h are);
        further = so.further;
        skipped = so.skipped;
      })

  untouched-turn : (t : Bool) (end next next' i : ℕ) (e : FieldPlace) → e ≡ r i → ((j : ℕ) → j < i → Untouched (r j) t end next) → LowerOut e t end next next'
      → (j : ℕ) → j < i + 1 → Untouched (r j) t end next'
  untouched-turn t end next next' i e q h low j l = go (ℕ_discrete j i)
    where
      go : Dec (j ≡ i) → Untouched (r j) t end next'
      go (yes d) = subst (λ (x : FieldPlace). Untouched x t end next') (q ∙ ap r (sym d)) low.none
      go (no d) = λ sec k a b. h j (omega arith) sec k a (omega (arith, low.high))

  pub pass-turn : (t : Bool) (base i end next next' : ℕ) (e : FieldPlace) (c₀ c c' : List ℕ) (s : Bool) → length c ≡ length c₀ → CellsAre r t base i c
      → PassSoFar t base (length c₀) i next → StepOut r t base i c c' s → s ≡ false → e ≡ r i → end ≡ base + length c₀ → LowerOut e t end next next'
      → (length c' ≡ length c₀) × CellsAre r t base (i + 1) c' × PassSoFar t base (length c₀) (i + 1) next'
  pass-turn t base i end next next' e c₀ c c' s z are so st h q w low =
      let m = st.miss h are in
      let low' : LowerOut e t (base + length c₀) next next' = subst (λ (x : ℕ). LowerOut e t x next next') w low in (
        st.size ∙ z,
        subst (λ (k : ℕ). CellsAre r t base k c') (sym (add-one i)) m.0,
        record {
          none = pass-before t base (length c₀) i so.none (λ y. m.1 (subst (λ (k : ℕ). Hit r t base k i) (sym z) y));
          further = low'.low;
          skipped = untouched-turn t (base + length c₀) next next' i e q so.skipped low';
        },
      )

  pub pass-end : (t : Bool) (base i n next size : ℕ) (c₀ : List ℕ) → i ≤ n → n ≤ i → PassSoFar t base (length c₀) i next → length c₀ ≡ size
      → PassOut r t base size n n next
  pass-end t base i n next size c₀ a b so z =
      subst (λ (k : ℕ). PassOut r t base k n n next) z
      (record {
        within = omega arith;
        before = λ j l. so.none j (omega arith);
        here = λ l. absurd (omega arith);
        further = so.further;
        skipped = λ j l. so.skipped j (omega arith);
      })

-- ---- the entries of a file

module _ (file : List ℕ) (f : Format) (p : Parts) (t : LoaderTables) where
  pub sections-first : (n a x : ℕ) → Readable file f p t n → SweepOut (place_at file f p t) true p.text.size n a
      → SweepOut (place_at file f p t) false p.«data».size a x → First (place_at file f p t) n x
  sections-first n a x v y z =
      two-sweeps (place_at file f p t) n a x p.text.size p.«data».size y z
      (λ i l. in-text i l (place_at file f p t i).text refl) (λ i l. in-data i l (place_at file f p t i).text refl)
    where
      in-text : (i : ℕ) → i < n → (b : Bool) → (place_at file f p t i).text ≡ b
          → ((place_at file f p t i).offset + bytes_wide (place_at file f p t i).wide ≤ p.text.size) ⊎ ((place_at file f p t i).text ≡ true → ⊥)
      in-text i l true e = inl (omega (arith, room file f p t n i v l, ap (size_of p) e))
      in-text i l false e = inr (λ h. no_true (sym e ∙ h))

      in-data : (i : ℕ) → i < n → (b : Bool) → (place_at file f p t i).text ≡ b
          → ((place_at file f p t i).offset + bytes_wide (place_at file f p t i).wide ≤ p.«data».size) ⊎ ((place_at file f p t i).text ≡ false → ⊥)
      in-data i l true e = inr (λ h. no_false (sym e ∙ h))
      in-data i l false e = inl (omega (arith, room file f p t n i v l, ap (size_of p) e))
