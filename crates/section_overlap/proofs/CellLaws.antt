-- The laws of the cells. Assumes nothing.
use mathlib.Core.Path.{◌≡◌, refl, sym, ◌∙◌, ap, ap₂, subst}
use mathlib.Core.Logic.{◌⊎◌, inl, inr}
use mathlib.Core.Bool.{Bool, true, false}
use mathlib.Core.List.{List}
use Prim.Native.Nat.{ℕ, zero, suc, ◌+◌, ◌-◌, ◌≤◌, ◌<◌}
use native.Mathlib.Decide.{dec_lt, dec_le, ℕ_discrete}
use native.Mathlib.Numerals.{add-one}
use native.Mathlib.Omega.{arith}
use lib.ListN.{length, get_or, set, get_or-eq_default}
use lib.Seq.{get_or-set_same, get_or-set_other}
use borrow.Author.Tests.{le-leb, lt-leb, lt-ltb, le-ltb}
use Rattle.field_kind.specs.declared.FieldKind.{FieldKind}
use Rattle.field_kind.specs.declared.FieldKind.TheVariants.{Nothing, Four, Eight, Branch}
use Rattle.field_kind.specs.declared.ObjectField.{ObjectField}
use Rattle.field_kind.specs.Field.{bytes_in}
use Rattle.section_overlap.specs.Overlap.{Meets, First}
use Rattle.section_overlap.specs.Cells.{code, Marked, MarkOut, cover, Hit, CellsAre, StepOut, Untouched, LowerOut, PassOut, NoHitAt, HitSomewhere, SweepOut}

-- ---- entries

module _ (r : ℕ → ObjectField) where
  cover-in : (i k : ℕ) → (r i).offset ≤ k → k < (r i).offset + bytes_in (r i).kind → cover r (suc i) k ≡ code (r i).kind (k - (r i).offset)
  unfolding cover
  cover-in i k a b = rw (le-leb (r i).offset k a, lt-ltb k ((r i).offset + bytes_in (r i).kind) b) refl

  cover-out : (i k : ℕ) → (k < (r i).offset) ⊎ ((r i).offset + bytes_in (r i).kind ≤ k) → cover r (suc i) k ≡ cover r i k
  unfolding cover
  cover-out i k (inl h) = rw (lt-leb (r i).offset k h) refl
  cover-out i k (inr h) =
      let a : (r i).offset ≤ k = omega arith in
      rw (le-leb (r i).offset k a, le-ltb k ((r i).offset + bytes_in (r i).kind) h) refl

  marked-cells : (base i : ℕ) (c₀ c : List ℕ) → Marked base (r i).offset (r i).kind (bytes_in (r i).kind) c₀ c
      → CellsAre r base i c₀ → CellsAre r base (suc i) c
  marked-cells base i c₀ c m are x l = go (dec_le (r i).offset (base + x)) (dec_lt (base + x) ((r i).offset + bytes_in (r i).kind))
    where
      l₀ : x < length c₀
      l₀ = omega (arith, m.size)

      go : Dec ((r i).offset ≤ base + x) → Dec (base + x < (r i).offset + bytes_in (r i).kind) → get_or c x 0 ≡ cover r (suc i) (base + x)
      go (yes a) (yes b) = m.inside x l₀ a b ∙ sym (cover-in i (base + x) a b)
      go (yes a) (no b) = m.outside x l₀ (inr (omega arith)) ∙ are x l₀ ∙ sym (cover-out i (base + x) (inr (omega arith)))
      go (no a) (yes b) = m.outside x l₀ (inl (omega arith)) ∙ are x l₀ ∙ sym (cover-out i (base + x) (inl (omega arith)))
      go (no a) (no b) = m.outside x l₀ (inl (omega arith)) ∙ are x l₀ ∙ sym (cover-out i (base + x) (inl (omega arith)))

  cell-cover : (base i k : ℕ) (c : List ℕ) → CellsAre r base i c → base ≤ k → k - base < length c → get_or c (k - base) 0 ≡ cover r i k
  cell-cover base i k c are a l = are (k - base) l ∙ ap (cover r i) (let e : base + (k - base) ≡ k = omega arith in e)

  step-mark : (base i : ℕ) (c₀ c : List ℕ) (s : Bool) → MarkOut base (r i).offset (r i).kind c₀ c s → StepOut r base i c₀ c s
  step-mark base i c₀ c s m = record { size = m.size; hit = hit; miss = miss }
    where
      hit : s ≡ true → CellsAre r base i c₀ → Hit r base (length c₀) i
      hit e are =
          let w = m.hit e in
          let q = w.0 in
          let g = cell-cover base i ((r i).offset + q) c₀ are w.2.low w.2.high in
          record {
            place = q;
            low = w.1;
            from = w.2.low;
            upto = w.2.high;
            some = λ z. w.2.some (g ∙ z);
            other = λ z. w.2.other (g ∙ z);
          }

      miss : s ≡ false → CellsAre r base i c₀ → CellsAre r base (suc i) c × (Hit r base (length c₀) i → ⊥)
      miss e are = (
        marked-cells base i c₀ c (m.miss e).1 are,
        λ y. let g = cell-cover base i ((r i).offset + y.place) c₀ are y.from y.upto in
            (m.miss e).0 y.place y.low
            (record { low = y.from; high = y.upto; some = λ z. y.some (sym g ∙ z); other = λ z. y.other (sym g ∙ z) }),
      )

  pub step_same : (base i : ℕ) (c₀ c : List ℕ) (s : Bool) (e : ObjectField) → e ≡ r i → MarkOut base e.offset e.kind c₀ c s → StepOut r base i c₀ c s
  step_same base i c₀ c s e p m = step-mark base i c₀ c s (subst (λ (x : ObjectField). MarkOut base x.offset x.kind c₀ c s) p m)

  -- the last entry that covers a byte
  record LastCover (i k : ℕ) : Type 0 where
    which : ℕ
    before : which < i
    low : (r which).offset ≤ k
    high : k < (r which).offset + bytes_in (r which).kind
    value : cover r i k ≡ code (r which).kind (k - (r which).offset)

  last-later : (i k : ℕ) → cover r (suc i) k ≡ cover r i k → LastCover i k → LastCover (suc i) k
  last-later i k e w = record { which = w.which; before = omega (arith, w.before); low = w.low; high = w.high; value = e ∙ w.value }

  last_step : (i k : ℕ) → (cover r (suc i) k ≡ 0 → ⊥) → ((cover r i k ≡ 0 → ⊥) → LastCover i k) → LastCover (suc i) k
  last_step i k h rec = field (dec_le (r i).offset k) (dec_lt k ((r i).offset + bytes_in (r i).kind))
    where
      earlier : cover r (suc i) k ≡ cover r i k → LastCover (suc i) k
      earlier e = last-later i k e (rec (λ z. h (e ∙ z)))

      field : Dec ((r i).offset ≤ k) → Dec (k < (r i).offset + bytes_in (r i).kind) → LastCover (suc i) k
      field (yes a) (yes b) = record { which = i; before = omega arith; low = a; high = b; value = cover-in i k a b }
      field (yes a) (no b) = earlier (cover-out i k (inr (omega arith)))
      field (no a) b = earlier (cover-out i k (inl (omega arith)))

  cover-last : (i k : ℕ) → (cover r i k ≡ 0 → ⊥) → LastCover i k
  cover-last zero k h = absurd (h (unfold cover in refl))
  cover-last (suc i) k h = last_step i k h (cover-last i k)

  code-some : (b : FieldKind) (p : ℕ) → code b p ≡ 0 → ⊥
  code-some Nothing p e = omega arith
  code-some Four p e = omega arith
  code-some Eight p e = omega arith
  code-some Branch p e = omega arith

  -- a byte that an earlier entry covers has a value
  some-step : (i j k : ℕ) → j < suc i → (r j).offset ≤ k → k < (r j).offset + bytes_in (r j).kind → (j < i → cover r i k ≡ 0 → ⊥) → cover r (suc i) k ≡ 0 → ⊥
  some-step i j k h a b earlier z = field (dec_le (r i).offset k) (dec_lt k ((r i).offset + bytes_in (r i).kind))
    where
      rec : cover r (suc i) k ≡ cover r i k → (j ≡ i → ⊥) → ⊥
      rec q n = earlier (last (dec_lt j i)) (sym q ∙ z)
        where
          last : Dec (j < i) → j < i
          last (yes l) = l
          last (no l) = absurd (n (omega arith))

      mine : j ≡ i → ((r i).offset ≤ k) × (k < (r i).offset + bytes_in (r i).kind)
      mine q = subst (λ (x : ℕ). ((r x).offset ≤ k) × (k < (r x).offset + bytes_in (r x).kind)) q (a, b)

      field : Dec ((r i).offset ≤ k) → Dec (k < (r i).offset + bytes_in (r i).kind) → ⊥
      field (yes u) (yes v) = code-some (r i).kind (k - (r i).offset) (sym (cover-in i k u v) ∙ z)
      field (yes u) (no v) = rec (cover-out i k (inr (omega arith))) (λ q. v (mine q).1)
      field (no u) v = rec (cover-out i k (inl (omega arith))) (λ q. u (mine q).0)

  cover-some : (i j k : ℕ) → j < i → (r j).offset ≤ k → k < (r j).offset + bytes_in (r j).kind → cover r i k ≡ 0 → ⊥
  cover-some zero j k h a b z = omega arith
  cover-some (suc i) j k h a b z = some-step i j k h a b (λ l. cover-some i j k l a b) z

-- a value says which field it is of
code-inj : (a b : FieldKind) (p q : ℕ) → p < bytes_in a → q < bytes_in b → code a p ≡ code b q → (a ≡ b) × (p ≡ q)
code-inj Nothing b p q h k e = absurd (omega arith)
code-inj Four Nothing p q h k e = absurd (omega arith)
code-inj Eight Nothing p q h k e = absurd (omega arith)
code-inj Branch Nothing p q h k e = absurd (omega arith)
code-inj Four Four p q h k e = (refl, omega arith)
code-inj Four Eight p q h k e = absurd (omega arith)
code-inj Four Branch p q h k e = absurd (omega arith)
code-inj Eight Four p q h k e = absurd (omega arith)
code-inj Eight Eight p q h k e = (refl, omega arith)
code-inj Eight Branch p q h k e = absurd (omega arith)
code-inj Branch Four p q h k e = absurd (omega arith)
code-inj Branch Eight p q h k e = absurd (omega arith)
code-inj Branch Branch p q h k e = (refl, omega arith)

module _ (r : ℕ → ObjectField) where
  hit-meets : (base size i : ℕ) → Hit r base size i → Meets r i
  hit-meets base size i h =
      let k : ℕ = (r i).offset + h.place in
      let w = cover-last r i k h.some in
      record {
        other = w.which;
        earlier = w.before;
        overlap = record {
          byte = k;
          in_a = (w.low, w.high);
          in_b = (omega arith, omega (arith, h.low));
          differ = λ d.
              let q : k - (r w.which).offset ≡ h.place = omega (arith, d.0) in
              h.other (w.value ∙ ap₂ code d.1 q);
        };
      }

  meets-hit : (i : ℕ) → ((j : ℕ) → j < i → Meets r j → ⊥) → (m : Meets r i) (base size : ℕ) → base ≤ m.overlap.byte → m.overlap.byte - base < size → Hit r base size i
  meets-hit i none m base size a b =
      record {
        place = k - (r i).offset;
        low = omega (arith, in_b);
        from = omega (arith, in_b);
        upto = omega (arith, in_b);
        some = λ z. cover-some r i j k m.earlier m.overlap.in_a.0 m.overlap.in_a.1 (ap (cover r i) (sym there) ∙ z);
        other = λ z. other (ap (cover r i) (sym there) ∙ z);
      }
    where
      k : ℕ
      k = m.overlap.byte

      j : ℕ
      j = m.other

      in_b : ((r i).offset ≤ k) × (k < (r i).offset + bytes_in (r i).kind)
      in_b = m.overlap.in_b

      there : (r i).offset + (k - (r i).offset) ≡ k
      there = omega (arith, in_b)

      two : (x : ℕ) → x < i → ((r x).offset ≡ (r i).offset) → ((r x).kind ≡ (r i).kind) → (r x).offset ≤ k → k < (r x).offset + bytes_in (r x).kind → Dec (x < j) → Dec (j < x) → ⊥
      two x h o w a b (yes l) v = none j m.earlier (record { other = x; earlier = l; overlap = record { byte = k; in_a = (a, b); in_b = m.overlap.in_a; differ = λ d. m.overlap.differ (sym d.0 ∙ o, sym d.1 ∙ w) } })
      two x h o w a b (no l) (yes v) = none x h (record { other = j; earlier = v; overlap = record { byte = k; in_a = m.overlap.in_a; in_b = (a, b); differ = λ d. m.overlap.differ (d.0 ∙ o, d.1 ∙ w) } })
      two x h o w a b (no l) (no v) =
          let q : x ≡ j = omega arith in
          m.overlap.differ (ap (λ (y : ℕ). (r y).offset) (sym q) ∙ o, ap (λ (y : ℕ). (r y).kind) (sym q) ∙ w)

      other : cover r i k ≡ code (r i).kind (k - (r i).offset) → ⊥
      other z =
          let s = cover-some r i j k m.earlier m.overlap.in_a.0 m.overlap.in_a.1 in
          let w = cover-last r i k s in
          let c = code-inj (r w.which).kind (r i).kind (k - (r w.which).offset) (k - (r i).offset) (omega (arith, w.low, w.high)) (omega (arith, in_b)) (sym w.value ∙ z) in
          two w.which w.before (omega (arith, w.low, in_b, c.1)) c.0 w.low w.high (dec_lt w.which j) (dec_lt j w.which)

  -- a window for each byte of each field: what the passes found is the first
  pub passes-first : (n x : ℕ) → x ≤ n
      → ((i : ℕ) → i < x → (k : ℕ) → (r i).offset ≤ k → k < (r i).offset + bytes_in (r i).kind
      → NoHitAt r i k)
      → (x < n → HitSomewhere r x)
      → First r n x
  passes-first n x h below here = record { within = h; before = λ i l. before (suc i) i (omega arith) l; here = λ l. let y = here l in hit-meets y.base y.size x y.hit }
    where
      before : (b i : ℕ) → i < b → i < x → Meets r i → ⊥
      before zero i u l m = omega arith
      before (suc b) i u l m =
          let y = below i l m.overlap.byte m.overlap.in_b.0 m.overlap.in_b.1 in
          y.none (meets-hit i (λ j v. before b j (omega arith) (omega arith)) m y.base y.size y.low y.high)

pub zero_turn : (c : List ℕ) (i : ℕ) → i < length c → ((x : ℕ) → x < i → get_or c x 0 ≡ 0) → (x : ℕ) → x < i + 1 → get_or (set c i 0) x 0 ≡ 0
zero_turn c i l h x k = go (ℕ_discrete x i)
  where
    go : Dec (x ≡ i) → get_or (set c i 0) x 0 ≡ 0
    go (yes e) = ap (λ (j : ℕ). get_or (set c i 0) j 0) e ∙ get_or-set_same c i 0 0 l
    go (no n) = get_or-set_other c i x 0 0 n ∙ h x (omega arith)

pub zero-end : (c : List ℕ) → ((x : ℕ) → x < length c → get_or c x 0 ≡ 0) → (x : ℕ) → get_or c x 0 ≡ 0
zero-end c h x = go (dec_lt x (length c))
  where
    go : Dec (x < length c) → get_or c x 0 ≡ 0
    go (yes l) = h x l
    go (no l) = get_or-eq_default c 0 (omega arith)

pub cells-none : (r : ℕ → ObjectField) (base : ℕ) (c : List ℕ) → ((x : ℕ) → get_or c x 0 ≡ 0) → CellsAre r base 0 c
unfolding cover
cells-none r base c h x l = h x

module _ (r : ℕ → ObjectField) where
  pass-before : (base size i : ℕ) → ((j : ℕ) → j < i → Hit r base size j → ⊥) → (Hit r base size i → ⊥)
      → (j : ℕ) → j < i + 1 → Hit r base size j → ⊥
  pass-before base size i h n j l y = go (ℕ_discrete j i)
    where
      go : Dec (j ≡ i) → ⊥
      go (yes e) = n (subst (λ (x : ℕ). Hit r base size x) e y)
      go (no d) = h j (omega arith) y

  -- windows: no field has a byte below `start`
  pub sweep-none : (start n : ℕ) → ((i : ℕ) → i < n → 0 < bytes_in (r i).kind → start ≤ (r i).offset) → SweepOut r start n n
  sweep-none start n low =
      record {
        within = omega arith;
        before = λ i l k h. record { base = k; size = 1; low = omega arith; high = omega arith; none = λ y. omega (arith, low i l (omega (arith, y.low)), y.upto, y.from) };
        here = λ l. absurd (omega arith);
      }

  pub sweep-turn : (base w n b x next : ℕ) → SweepOut r base n b → PassOut r base w b x next → SweepOut r next n x
  sweep-turn base w n b x next s p = record { within = omega (arith, s.within, p.within); before = before; here = here }
    where
      before : (i : ℕ) → i < x → (k : ℕ) → k < next → NoHitAt r i k
      before i l k h = go (dec_lt k base) (dec_lt k (base + w))
        where
          go : Dec (k < base) → Dec (k < base + w) → NoHitAt r i k
          go (yes u) v = s.before i (omega (arith, p.within)) k u
          go (no u) (yes v) = record { base = base; size = w; low = omega arith; high = omega arith; none = p.before i l }
          go (no u) (no v) =
              record {
                base = base + w;
                size = next - (base + w);
                low = omega arith;
                high = omega arith;
                none = λ y. p.skipped i l ((r i).offset + y.place) y.from (omega (arith, y.upto, y.from, p.further)) (omega arith) (omega (arith, y.low));
              }

      here : x < n → HitSomewhere r x
      here l = go (dec_lt x b)
        where
          go : Dec (x < b) → HitSomewhere r x
          go (yes u) = record { base = base; size = w; hit = p.here u }
          go (no u) =
              let e : b ≡ x = omega (arith, p.within) in
              subst (λ (y : ℕ). HitSomewhere r y) e (s.here (omega arith))

  pub sweep-end : (base upto n x : ℕ) → upto ≤ base → SweepOut r base n x → SweepOut r upto n x
  sweep-end base upto n x h s = record { within = s.within; before = λ i l k u. s.before i l k (omega arith); here = s.here }

  -- windows over all fields give the first
  pub sweep-first : (n x end : ℕ) → SweepOut r end n x → ((i : ℕ) → i < n → (r i).offset + bytes_in (r i).kind ≤ end) → First r n x
  sweep-first n x end p fit =
      passes-first r n x p.within (λ i l k a b. p.before i l k (omega (arith, fit i (omega (arith, p.within))))) p.here

  -- what the first i entries leave of a pass
  pub record PassSoFar (base size i next : ℕ) : Type 0 where
    pub none : (j : ℕ) → j < i → Hit r base size j → ⊥
    pub further : base + size ≤ next
    pub skipped : (j : ℕ) → j < i → Untouched (r j) (base + size) next

  pub so-far-none : (base size next : ℕ) → base + size ≤ next → PassSoFar base size 0 next
  so-far-none base size next h = record { none = λ j l. absurd (omega arith); further = h; skipped = λ j l. absurd (omega arith) }

  pub pass-stop : (base i n next : ℕ) (c₀ c c' : List ℕ) (s : Bool) (size : ℕ) → i < n → length c ≡ length c₀ → CellsAre r base i c
      → PassSoFar base (length c₀) i next → StepOut r base i c c' s → s ≡ true → length c₀ ≡ size → PassOut r base size n i next
  pass-stop base i n next c₀ c c' s size l e are so st h z =
      subst (λ (k : ℕ). PassOut r base k n i next) z
      (record {
        within = omega arith;
        before = so.none;
        here = λ _. subst (λ (k : ℕ). Hit r base k i) e (st.hit h are);
        further = so.further;
        skipped = so.skipped;
      })

  untouched-turn : (end next next' i : ℕ) (e : ObjectField) → e ≡ r i → ((j : ℕ) → j < i → Untouched (r j) end next) → LowerOut e end next next'
      → (j : ℕ) → j < i + 1 → Untouched (r j) end next'
  untouched-turn end next next' i e q h low j l = go (ℕ_discrete j i)
    where
      go : Dec (j ≡ i) → Untouched (r j) end next'
      go (yes d) = subst (λ (x : ObjectField). Untouched x end next') (q ∙ ap r (sym d)) low.none
      go (no d) = λ k a b. h j (omega arith) k a (omega (arith, low.high))

  pub pass-turn : (base i end next next' : ℕ) (e : ObjectField) (c₀ c c' : List ℕ) (s : Bool) → length c ≡ length c₀ → CellsAre r base i c
      → PassSoFar base (length c₀) i next → StepOut r base i c c' s → s ≡ false → e ≡ r i → end ≡ base + length c₀ → LowerOut e end next next'
      → (length c' ≡ length c₀) × CellsAre r base (i + 1) c' × PassSoFar base (length c₀) (i + 1) next'
  pass-turn base i end next next' e c₀ c c' s z are so st h q w low =
      let m = st.miss h are in
      let low' : LowerOut e (base + length c₀) next next' = subst (λ (x : ℕ). LowerOut e x next next') w low in (
        st.size ∙ z,
        subst (λ (k : ℕ). CellsAre r base k c') (sym (add-one i)) m.0,
        record {
          none = pass-before base (length c₀) i so.none (λ y. m.1 (subst (λ (k : ℕ). Hit r base k i) (sym z) y));
          further = low'.low;
          skipped = untouched-turn (base + length c₀) next next' i e q so.skipped low';
        },
      )

  pub pass-end : (base i n next size : ℕ) (c₀ : List ℕ) → i ≤ n → n ≤ i → PassSoFar base (length c₀) i next → length c₀ ≡ size
      → PassOut r base size n n next
  pass-end base i n next size c₀ a b so z =
      subst (λ (k : ℕ). PassOut r base k n n next) z
      (record {
        within = omega arith;
        before = λ j l. so.none j (omega arith);
        here = λ l. absurd (omega arith);
        further = so.further;
        skipped = λ j l. so.skipped j (omega arith);
      })
