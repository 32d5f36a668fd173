-- What a search has found, in terms of the table. Assumes nothing.
use Prim.Native.Nat.{ℕ, zero, suc, ◌≤◌, ◌<◌}
use mathlib.Core.Path.{◌≡◌, refl, sym, ap, subst, ◌∙◌}
use mathlib.Core.Bool.{Bool, true, false, cond}
use native.Mathlib.Decide.{ℕ_discrete, dec_lt}
use native.Mathlib.Omega.{arith}
use borrow.Author.Tests.{leb-true, leb-false, ltb-true, ltb-false, ne_eqb}
use lib.Dec.{eqb, leb}
use Rattle.word.proofs.Test.{either}
use Rattle.format.specs.declared.SymbolIndex.{SymbolIndex}
use Rattle.line.specs.declared.LineMark.{LineMark}
use Rattle.line.specs.declared.LineEntry.{LineEntry}
use Rattle.line.specs.declared.LineEntry.TheVariants.{Function, Line}
use Rattle.line.specs.declared.LineFound.{LineFound}
use Rattle.line.specs.declared.LineSearch.{LineSearch}
use Rattle.line.specs.declared.LineError.{LineError}
use Rattle.line.specs.declared.LineError.TheVariants.{Group, NoLine}
use Rattle.line.specs.Search.{Entries, is_below, better, seen, seen_to, best_answer, answer_of, answer_in}
use Rattle.line.specs.Meaning.{Marks, GroupOf, Nearest, Ungrouped, AllAbove, Answers}
use Rattle.std.specs.Prelude.{None, Option, Some, Err, Ok, Result}

one_more : (a : ℕ) (s : LineSearch) (x : LineEntry) → (seen a s x).seen ≡ suc s.seen
unfolding seen
one_more a s (Function k) = refl
one_more a s (Line m) = refl

-- a pass counts its entries
pub counts : (e : Entries) (a n : ℕ) → (seen_to e a n).seen ≡ n
unfolding seen_to
counts e a zero = refl
counts e a (suc n) = one_more a (seen_to e a n) (e n) ∙ ap suc (counts e a n)

abbrev truth : Bool → Type 0
truth true = Unit {0}
truth false = ⊥

-- an entry is of one kind
abbrev is_line : LineEntry → Type 0
is_line (Function k) = ⊥
is_line (Line m) = Unit {0}

apart : (k : SymbolIndex) (m : LineMark) → Function k ≡ Line m → ⊥
apart k m q = subst is_line (sym q) tt

-- a number below suc n is below n or n
upto : {P : Type 0} (j n : ℕ) → j < suc n → (j < n → P) → (j ≡ n → P) → P
upto {P} j n h f g = go (ℕ_discrete j n)
  where
    go : Dec (j ≡ n) → P
    go (yes q) = g q
    go (no q) = f (omega (arith, h, q))

module _ (e : Entries) (a : ℕ) where
  abbrev symbol_to : ℕ → SymbolIndex
  symbol_to n = (seen_to e a n).symbol

  -- what the best of the first n entries is
  record Near (n : ℕ) (r : LineFound) : Type 0 where
    inside : r.number < n
    marks : Marks e r.number r.mark
    reached : r.mark.address.0 ≤ a
    nearest : (j : ℕ) (m : LineMark) → j < n → Marks e j m → m.address.0 ≤ a → m.address.0 ≤ r.mark.address.0
    first : (j : ℕ) (m : LineMark) → j < r.number → Marks e j m → m.address.0 ≤ a → m.address.0 < r.mark.address.0
    symbol : r.symbol ≡ symbol_to r.number

  abbrev Best : ℕ → Option LineFound → Type 0
  Best n None = AllAbove e a n
  Best n (Some r) = Near n r

  -- what is found stays so past an entry that is not nearer
  abbrev Passed : Option LineFound → LineMark → Type 0
  Passed None m = a < m.address.0
  Passed (Some r) m = m.address.0 ≤ a → m.address.0 ≤ r.mark.address.0

  stays : (n : ℕ) (b : Option LineFound) → Best n b → ((m : LineMark) → Marks e n m → Passed b m) → Best (suc n) b
  stays n None h p = λ j m l q. upto j n l (λ k. h j m k q) (λ k. p m (subst (λ (i : ℕ). Marks e i m) k q))
  stays n (Some r) h p = record {
    inside = omega (arith, h.inside);
    marks = h.marks;
    reached = h.reached;
    nearest = λ j m l q t. upto j n l (λ k. h.nearest j m k q t) (λ k. p m (subst (λ (i : ℕ). Marks e i m) k q) t);
    first = h.first;
    symbol = h.symbol;
  }

  same-mark : (n : ℕ) (m m' : LineMark) → Marks e n m → Marks e n m' → m ≡ m'
  same-mark n m m' q q' = ap mark_of (sym q ∙ q')
    where
      mark_of : LineEntry → LineMark
      mark_of (Function k) = m
      mark_of (Line x) = x

  -- one that is nearer than all before
  abbrev Under : ℕ → LineMark → Type 0
  Under n x = (j : ℕ) (m : LineMark) → j < n → Marks e j m → m.address.0 ≤ a → m.address.0 < x.address.0

  under : (n : ℕ) (b : Option LineFound) (x : LineMark) → Best n b → is_below b x.address.0 ≡ true → Under n x
  unfolding is_below
  under n None x h t = λ j m l q r. absurd (omega (arith, h j m l q, r))
  under n (Some y) x h t = λ j m l q r. omega (arith, h.nearest j m l q r, ltb-true y.mark.address.0 x.address.0 t)

  found : (n : ℕ) (x : LineMark) (k : SymbolIndex) → Marks e n x → x.address.0 ≤ a → k ≡ symbol_to n → Under n x → Near (suc n) (record { number = n; mark = x; symbol = k })
  found n x k q t c u = record {
    inside = omega arith;
    marks = q;
    reached = t;
    nearest = λ j m l w r. upto j n l (λ i. omega (arith, u j m i w r)) (λ i. subst (λ (y : LineMark). m.address.0 ≤ y.address.0) (same-mark n m x (subst (λ (z : ℕ). Marks e z m) i w) q) (omega arith));
    first = u;
    symbol = c;
  }

  not-below : (b : Option LineFound) (x m : LineMark) → is_below b x.address.0 ≡ false → m ≡ x → Passed b m
  unfolding is_below
  not-below None x m t q = absurd (subst truth t tt)
  not-below (Some y) x m t q = λ _. subst (λ (z : LineMark). z.address.0 ≤ y.mark.address.0) (sym q) (ltb-false _ _ t)

  beyond : (b : Option LineFound) (x m : LineMark) → a < x.address.0 → m ≡ x → Passed b m
  beyond None x m l q = subst (λ (z : LineMark). a < z.address.0) (sym q) l
  beyond (Some y) x m l q = λ t. absurd (omega (arith, l, subst (λ (z : LineMark). z.address.0 ≤ a) q t))

  -- the better of what was found and entry n
  better-one : (n : ℕ) (b : Option LineFound) (x : LineMark) (k : SymbolIndex) → Marks e n x → k ≡ symbol_to n → Best n b → Best (suc n) (better a b (record { number = n; mark = x; symbol = k }))
  unfolding better
  better-one n b x k q c h =
      either (Best (suc n)) (leb x.address.0 a)
      (λ t. either (Best (suc n)) (is_below b x.address.0)
      (λ u. found n x k q (leb-true _ _ t) c (under n b x h u))
      (λ u. stays n b h (λ m w. not-below b x m u (same-mark n m x w q))))
      (λ t. stays n b h (λ m w. beyond b x m (leb-false _ _ t) (same-mark n m x w q)))

  best-next : (n : ℕ) (s : LineSearch) (x : LineEntry) → e n ≡ x → s.seen ≡ n → s.symbol ≡ symbol_to n → Best n s.best → Best (suc n) (seen a s x).best
  unfolding seen
  best-next n s (Function k) q c d h = stays n s.best h (λ m w. absurd (apart k m (sym q ∙ w)))
  best-next n s (Line m) q c d h = subst (λ (i : ℕ). Best (suc n) (better a s.best (record { number = i; mark = m; symbol = s.symbol }))) (sym c) (better-one n s.best m s.symbol q d h)

  best_of : (n : ℕ) → Best n (seen_to e a n).best
  unfolding seen_to
  best_of zero = λ j m l q. absurd (omega (arith, l))
  best_of (suc n) = best-next n (seen_to e a n) (e n) refl (counts e a n) refl (best_of n)

  -- whether the first entry is a line entry
  abbrev Judged : ℕ → Bool → Type 0
  Judged n true = Ungrouped e n
  Judged n false = Ungrouped e n → ⊥

  more : (n : ℕ) (b : Bool) → 0 < n → Judged n b → Judged (suc n) b
  more n true l h = record { some = omega arith; mark = h.mark; marks = h.marks }
  more n false l h = λ s. h (record { some = l; mark = s.mark; marks = s.marks })

  opened : (n : ℕ) (b : Bool) (k : SymbolIndex) → e n ≡ Function k → Judged n b → Judged (suc n) b
  opened zero true k q h = absurd (omega (arith, h.some))
  opened zero false k q h = λ s. apart k s.mark (sym q ∙ s.marks)
  opened (suc n) b k q h = more (suc n) b (omega arith) h

  marked : (n : ℕ) (b : Bool) (m : LineMark) → e n ≡ Line m → Judged n b → Judged (suc n) (cond (eqb n 0) true b)
  marked zero b m q h = record { some = omega arith; mark = m; marks = q }
  marked (suc n) b m q h = rw (ne_eqb (suc n) 0 (λ w. omega (arith, w))) (more (suc n) b (omega arith) h)

  judged-next : (n : ℕ) (s : LineSearch) (x : LineEntry) → e n ≡ x → s.seen ≡ n → Judged n s.ungrouped → Judged (suc n) (seen a s x).ungrouped
  unfolding seen
  judged-next n s (Function k) q c h = opened n s.ungrouped k q h
  judged-next n s (Line m) q c h = subst (λ (i : ℕ). Judged (suc n) (cond (eqb i 0) true s.ungrouped)) (sym c) (marked n s.ungrouped m q h)

  judged : (n : ℕ) → Judged n (seen_to e a n).ungrouped
  unfolding seen_to
  judged zero = λ s. absurd (omega (arith, s.some))
  judged (suc n) = judged-next n (seen_to e a n) (e n) refl (counts e a n) (judged n)

  -- the group that an entry is in
  group-next : (n : ℕ) (s : LineSearch) (x : LineEntry) → e n ≡ x → (Ungrouped e (suc n) → ⊥) → (0 < n → GroupOf e n s.symbol) → GroupOf e (suc n) (seen a s x).symbol
  unfolding seen
  group-next n s (Function k) q grouped h = record { opener = n; before = omega arith; opens = q; last = λ j l r k' w. absurd (omega (arith, l, r)) }
  group-next zero s (Line m) q grouped h = absurd (grouped (record { some = omega arith; mark = m; marks = q }))
  group-next (suc n) s (Line m) q grouped h =
      let g = h (omega arith) in
      record {
        opener = g.opener;
        before = omega (arith, g.before);
        opens = g.opens;
        last = λ j l r k' w. upto j (suc n) r (λ i. g.last j l i k' w) (λ i. apart k' m (sym w ∙ ap e i ∙ q));
      }

  group_of : (n : ℕ) → 0 < n → (Ungrouped e n → ⊥) → GroupOf e n (symbol_to n)
  unfolding seen_to
  group_of zero l grouped = absurd (omega (arith, l))
  group_of (suc n) l grouped =
      group-next n (seen_to e a n) (e n) refl grouped (λ p. group_of n p (λ s. grouped (record { some = l; mark = s.mark; marks = s.marks })))

  whole : (n : ℕ) (r : LineFound) → (Ungrouped e n → ⊥) → Near n r → Nearest e a n r
  whole n r grouped h = record {
    inside = h.inside;
    marks = h.marks;
    reached = h.reached;
    nearest = h.nearest;
    first = h.first;
    group = subst (λ (k : SymbolIndex). GroupOf e r.number k) (sym h.symbol) (group_of r.number (later r.number refl) (λ s. grouped (record { some = omega (arith, h.inside); mark = s.mark; marks = s.marks })));
  }
    where
      later : (i : ℕ) → i ≡ r.number → 0 < i
      later zero q = absurd (grouped (record { some = omega (arith, h.inside); mark = r.mark; marks = ap e q ∙ h.marks }))
      later (suc i) q = omega arith

  by_parts : (n : ℕ) (b : Bool) (x : Option LineFound) → Judged n b → Best n x → Answers e a n (cond b (Err Group) (best_answer x))
  unfolding best_answer
  by_parts n true x s h = s
  by_parts n false None s h = (s, h)
  by_parts n false (Some r) s h = (s, whole n r s h)

  -- THE ANSWER: the entry with the greatest address not above the one asked for, the first such in table order, with the symbol of the last function entry before it; and when there is none
  pub answered : (n : ℕ) → Answers e a n (answer_in e a n)
  unfolding answer_of
  answered n = by_parts n (seen_to e a n).ungrouped (seen_to e a n).best (judged n) (best_of n)

  -- neither of two numbers is below the other
  level : (i j : ℕ) → (i < j → ⊥) → (j < i → ⊥) → i ≡ j
  level i j f g = go (ℕ_discrete i j)
    where
      either_way : (i ≡ j → ⊥) → Dec (i < j) → ⊥
      either_way q (yes l) = f l
      either_way q (no l) = g (omega (arith, q, l))

      go : Dec (i ≡ j) → i ≡ j
      go (yes q) = q
      go (no q) = absurd (either_way q (dec_lt i j))

  same-symbol : (k k' : SymbolIndex) → Function k ≡ Function k' → k ≡ k'
  same-symbol k k' q = ap symbol_of q
    where
      symbol_of : LineEntry → SymbolIndex
      symbol_of (Function x) = x
      symbol_of (Line m) = k

  same-group : (i j : ℕ) (k k' : SymbolIndex) → i ≡ j → GroupOf e i k → GroupOf e j k' → k ≡ k'
  same-group i j k k' w g h =
      let o = level g.opener h.opener (λ l. g.last h.opener l (omega (arith, h.before, w)) k' h.opens) (λ l. h.last g.opener l (omega (arith, g.before, w)) k g.opens) in
      same-symbol k k' (sym g.opens ∙ ap e o ∙ h.opens)

  not_earlier : (n : ℕ) (r r' : LineFound) → Nearest e a n r → Nearest e a n r' → r.number < r'.number → ⊥
  not_earlier n r r' p q l = omega (arith, q.first r.number r.mark l p.marks p.reached, p.nearest r'.number r'.mark q.inside q.marks q.reached)

  same-found : (n : ℕ) (r r' : LineFound) → Nearest e a n r → Nearest e a n r' → r ≡ r'
  same-found n r r' p q =
      let w = level r.number r'.number (not_earlier n r r' p q) (not_earlier n r' r q p) in
      let m = same-mark r'.number r.mark r'.mark (subst (λ (i : ℕ). Marks e i r.mark) w p.marks) q.marks in
      let k = same-group r.number r'.number r.symbol r'.symbol w p.group q.group in
      λ i. record { number = w i; mark = m i; symbol = k i }

  same : (n : ℕ) (x y : Result LineFound LineError) → Answers e a n x → Answers e a n y → x ≡ y
  same n (Err Group) (Err Group) p q = refl
  same n (Err Group) (Err NoLine) p q = absurd (q.0 p)
  same n (Err Group) (Ok r) p q = absurd (q.0 p)
  same n (Err NoLine) (Err Group) p q = absurd (p.0 q)
  same n (Err NoLine) (Err NoLine) p q = refl
  same n (Err NoLine) (Ok r) p q = absurd (omega (arith, p.1 r.number r.mark q.1.inside q.1.marks, q.1.reached))
  same n (Ok r) (Err Group) p q = absurd (p.0 q)
  same n (Ok r) (Err NoLine) p q = absurd (omega (arith, q.1 r.number r.mark p.1.inside p.1.marks, p.1.reached))
  same n (Ok r) (Ok r') p q = ap Ok (same-found n r r' p.1 q.1)

  -- and no other answer says as much of the table
  pub only-answer : (n : ℕ) (x : Result LineFound LineError) → Answers e a n x → x ≡ answer_in e a n
  only-answer n x p = same n x (answer_in e a n) p (answered n)
