-- The laws of the cells. Assumes nothing.
use borrow.Author.Count.{below_more}
use mathlib.Core.Path.{◌≡◌, refl, sym, ◌∙◌, ap, ap₂, subst}
use mathlib.Core.Bool.{Bool, true, false, cond, not, ◌&&◌}
use mathlib.Core.List.{List}
use Prim.Native.Nat.{ℕ, zero, suc, ◌+◌, ◌-◌, ◌*◌, ◌/◌, ◌^◌, ◌≤◌, ◌<◌}
use native.Mathlib.Decide.{dec_lt, dec_le, ℕ_discrete}
use native.Mathlib.Numerals.{add-one}
use native.Mathlib.Omega.{arith}
use lib.ListN.{length, get_or, set, replicate, length-set, length-replicate, get_or-replicate, get_or-eq_default}
use lib.Seq.{get_or-set_same, get_or-set_other}
use lib.Dec.{leb, eqb}
use lib.IntN.{ℤ, pos, ◌+ℤ◌, +ℤ_idl, +ℤ_comm}
use borrow.Author.Tests.{le-leb, lt-leb, eq-eqb, ne_eqb, leb-true, eqb-true, not-true, not-false}
use Rattle.word.proofs.Test.{and_first, and_second}
use Rattle.update.specs.Update.{remainder}
use Rattle.book.specs.Machine.{Shifts}
use Rattle.field_kind.specs.declared.ObjectField.{ObjectField}
use Rattle.branch.specs.declared.Sum.{Sum}
use Rattle.branch.specs.Branch.{branch_value, in_range, sum_of, wide, wide_in_range}
use Rattle.branch.proofs.Wide.{same-eqb, wide-add}
use Rattle.object_history.specs.declared.ObjectEntry.{ObjectEntry}
use Rattle.object_history.specs.Entry.{amount_of}
use Rattle.object_history.specs.Range.{is_branch, is_on}
use Rattle.section_overlap.proofs.Rule.{no_true}
use Rattle.branch_range.specs.Range.{sum_on, is_out, FirstOut}
use Rattle.branch_range.specs.Cells.{Words, Small, is_in_cell, CellOut, cell_of, AddOut, Zeros, cell_sum, CellsAre, StepOut, LowerOut, Skipped, AllOut, OutBy, JudgeOut, ScanOut, SweepOut}
use Rattle.branch_range.proofs.Sums.{word-told}

-- ---- which cell

module _ (g : ObjectField) (base n : ℕ) where
  pub cell-plain : is_branch g.kind ≡ false → CellOut g base n n
  cell-plain b = record { within = omega arith; only = λ y l. rw b (sym (ne_eqb y n (λ e. omega arith))) }

  pub cell_below : is_branch g.kind ≡ true → g.offset < base → CellOut g base n n
  cell_below b h = record { within = omega arith; only = λ y l. rw (b, lt-leb base g.offset h) (sym (ne_eqb y n (λ e. omega arith))) }

  pub cell-there : is_branch g.kind ≡ true → base ≤ g.offset → (g.offset - base) / 4 < n → CellOut g base n ((g.offset - base) / 4)
  cell-there b h l = record {
    within = omega arith;
    only = λ y m. rw (b, le-leb base g.offset h) (same-eqb ((g.offset - base) / 4) y y ((g.offset - base) / 4) sym sym);
  }

  pub cell-past : is_branch g.kind ≡ true → base ≤ g.offset → n ≤ (g.offset - base) / 4 → CellOut g base n n
  cell-past b h l = record {
    within = omega arith;
    only = λ y m. rw (b, le-leb base g.offset h) (ne_eqb ((g.offset - base) / 4) y (λ e. omega arith) ∙ sym (ne_eqb y n (λ e. omega arith)));
  }

  -- the cell itself, and others
  cell-is : {x : ℕ} → CellOut g base n x → x < n → is_in_cell base x g ≡ true
  cell-is {x} c l = c.only x l ∙ eq-eqb x x refl

  pub cell-branch : {x : ℕ} → CellOut g base n x → x < n → is_branch g.kind ≡ true
  cell-branch {x} c l = and_first _ _ (cell-is c l)

  cell-not : {x : ℕ} → CellOut g base n x → (y : ℕ) → y < n → (y ≡ x → ⊥) → is_in_cell base y g ≡ false
  cell-not {x} c y l d = c.only y l ∙ ne_eqb y x d

  cell_same : {x : ℕ} → CellOut g base n x → (y : ℕ) → y < n → is_in_cell base y g ≡ true → y ≡ x
  cell_same {x} c y l e = eqb-true y x (sym (c.only y l) ∙ e)

-- ---- a cell written

pub cell_set : (low high : List ℕ) (x a b : ℕ) (z : ℤ) → x < length low → x < length high → b * 2 ^ 64 + a ≡ wide (pos (cell_of low high x) +ℤ z)
    → AddOut z x low high (set low x a) (set high x b)
cell_set low high x a b z l h e = record {
  low_size = length-set low x a;
  high_size = length-set high x b;
  there = rw (get_or-set_same low x a 0 l, get_or-set_same high x b 0 h) e;
  else = λ y d. rw (get_or-set_other low x y a 0 d, get_or-set_other high x y b 0 d) refl;
}

-- what a fill with 0 leaves
pub filled : {c₀ c : List ℕ} → c ≡ replicate (length c₀) 0 → Zeros c₀ c
filled {c₀} {c} e = record {
  size = rw e (length-replicate (length c₀) 0);
  zero = λ x. rw e (at x (dec_lt x (length c₀)));
}
  where
    at : (x : ℕ) → Dec (x < length c₀) → get_or (replicate {A = ℕ} (length c₀) 0) x 0 ≡ 0
    at x (yes l) = get_or-replicate (length c₀) x 0 0 l
    at x (no d) = get_or-eq_default (replicate (length c₀) 0) 0 (omega (arith, length-replicate {0} {A = ℕ} (length c₀) 0))

-- ---- entries added

module _ (r : ℕ → ObjectEntry) (s : Shifts) where
  sum-other : (base x i : ℕ) → is_in_cell base x (r i).field ≡ false → cell_sum r s base x (suc i) ≡ cell_sum r s base x i
  unfolding cell_sum
  sum-other base x i h = rw h (+ℤ_idl (cell_sum r s base x i))

  sum-here : (base x i : ℕ) → is_in_cell base x (r i).field ≡ true → cell_sum r s base x (suc i) ≡ amount_of (r i) s +ℤ cell_sum r s base x i
  unfolding cell_sum
  sum-here base x i h = rw h refl

  cells-none : (base : ℕ) (low high : List ℕ) → ((x : ℕ) → get_or low x 0 ≡ 0) → ((x : ℕ) → get_or high x 0 ≡ 0) → CellsAre r s base 0 low high
  unfolding cell_sum wide remainder
  cells-none base low high a b x l = rw (a x, b x) refl

  pub step-none : (base i : ℕ) (low high : List ℕ) (g : ObjectField) {x : ℕ} → g ≡ (r i).field → CellOut g base (length low) x → length low ≤ x → StepOut r s base i low high low high
  step-none base i low high g {x} q c h = record {
    low_size = refl;
    high_size = refl;
    cells = λ are y l. are y l ∙ ap wide (sym (sum-other base y i (ap (is_in_cell base y) (sym q) ∙ cell-not g base (length low) c y l (λ e. omega arith))));
  }

  pub step-add : (base i : ℕ) (low₀ high₀ low high : List ℕ) (g : ObjectField) (e : ObjectEntry) {x : ℕ} → g ≡ (r i).field → e ≡ r i → CellOut g base (length low₀) x → x < length low₀
      → AddOut (amount_of e s) x low₀ high₀ low high → StepOut r s base i low₀ high₀ low high
  step-add base i low₀ high₀ low high g e {x} q w c h a = record { low_size = a.low_size; high_size = a.high_size; cells = cells }
    where
      amount : amount_of e s ≡ amount_of (r i) s
      amount = ap (λ (d : ObjectEntry). amount_of d s) w

      cells : CellsAre r s base i low₀ high₀ → CellsAre r s base (suc i) low high
      cells are y l = by (ℕ_discrete y x)
        where
          l₀ : y < length low₀
          l₀ = omega (arith, a.low_size)

          here : cell_of low high x ≡ wide (cell_sum r s base x (suc i))
          here =
              a.there
              ∙ ap₂ (λ (k : ℕ) (z : ℤ). wide (pos k +ℤ z)) (are x h) amount
              ∙ wide-add (cell_sum r s base x i) (amount_of (r i) s)
              ∙ ap wide (+ℤ_comm (cell_sum r s base x i) (amount_of (r i) s) ∙ sym (sum-here base x i (ap (is_in_cell base x) (sym q) ∙ cell-is g base (length low₀) c h)))

          by : Dec (y ≡ x) → cell_of low high y ≡ wide (cell_sum r s base y (suc i))
          by (yes d) = subst (λ (k : ℕ). cell_of low high k ≡ wide (cell_sum r s base k (suc i))) (sym d) here
          by (no d) = a.else y d ∙ are y l₀ ∙ ap wide (sym (sum-other base y i (ap (is_in_cell base y) (sym q) ∙ cell-not g base (length low₀) c y l₀ d)))

  skipped-turn : (i end next next' : ℕ) (g : ObjectField) → g ≡ (r i).field → Skipped r i end next → LowerOut g end next next' → Skipped r (i + 1) end next'
  skipped-turn i end next next' g q h low j l = go (ℕ_discrete j i)
    where
      go : Dec (j ≡ i) → is_branch (r j).field.kind ≡ true → end ≤ (r j).field.offset → next' ≤ (r j).field.offset
      go (yes d) = subst (λ (x : ObjectField). is_branch x.kind ≡ true → end ≤ x.offset → next' ≤ x.offset) (q ∙ ap (λ (k : ℕ). (r k).field) (sym d)) low.none
      go (no d) = λ b e. let m = h j (omega arith) b e in omega (arith, low.high)

  -- ---- all of them

  pub all_none : (base next : ℕ) (low₀ high₀ low high : List ℕ) → Zeros low₀ low → Zeros high₀ high → length high₀ ≡ length low₀ → base + 4 * length low₀ ≤ next → AllOut r s 0 base (length low) next low high
  all_none base next low₀ high₀ low high a b e h = record {
    low_size = refl;
    high_size = b.size ∙ e ∙ sym a.size;
    cells = cells-none base low high a.zero b.zero;
    further = omega (arith, a.size);
    skipped = λ j l. absurd (omega arith);
  }

  pub all-turn : (i base size end next next' : ℕ) (low₀ high₀ low high : List ℕ) (g : ObjectField) → g ≡ (r i).field → end ≡ base + 4 * size → AllOut r s i base size next low₀ high₀
      → StepOut r s base i low₀ high₀ low high → LowerOut g end next next' → AllOut r s (i + 1) base size next' low high
  all-turn i base size end next next' low₀ high₀ low high g q e a st lower = record {
    low_size = st.low_size ∙ a.low_size;
    high_size = st.high_size ∙ a.high_size;
    cells = subst (λ (k : ℕ). CellsAre r s base k low high) (sym (add-one i)) (st.cells a.cells);
    further = omega (arith, lower.low);
    skipped = subst (λ (k : ℕ). Skipped r (i + 1) k next') e (skipped-turn i end next next' g q (subst (λ (k : ℕ). Skipped r i k next) (sym e) a.skipped) lower);
  }

  pub all_end : (i n base size size' next : ℕ) (low high : List ℕ) → i ≤ n → n ≤ i → size ≡ size' → AllOut r s i base size next low high → AllOut r s n base size' next low high
  all_end i n base size size' next low high a b e h =
      subst (λ (k : ℕ). AllOut r s n base k next low high) e (subst (λ (k : ℕ). AllOut r s k base size next low high) (let q : i ≡ n = omega arith in q) h)

-- ---- words judged

module _ (word : ℕ → ℕ) (base : ℕ) (low high : List ℕ) (g : ObjectField) {x : ℕ} (c : CellOut g base (length low) x) where
  pub judge-outside : length low ≤ x → JudgeOut word base low high g false
  judge-outside h = record {
    hit = no_true;
    miss = λ _ o. let e = cell_same g base (length low) c o.cell o.below o.inside in omega (arith, o.below);
  }

  pub judge-inside : x < length low → (v : ℕ) (m : Sum) {b : Bool} → v ≡ word g.offset → sum_of m ≡ wide (pos (cell_of low high x) +ℤ branch_value v) → b ≡ wide_in_range (sum_of m)
      → JudgeOut word base low high g (not b)
  judge-inside h v m {b} q e k = record {
    hit = λ z. record { cell = x; below = h; inside = cell-is g base (length low) c h; bad = sym told ∙ not-true b z };
    miss = λ z o.
        let d = cell_same g base (length low) c o.cell o.below o.inside in
        no_true (sym o.bad ∙ ap (λ (y : ℕ). wide_in_range (wide (pos (cell_of low high y) +ℤ branch_value (word g.offset)))) d ∙ sym told ∙ not-false b z);
  }
    where
      told : b ≡ wide_in_range (wide (pos (cell_of low high x) +ℤ branch_value (word g.offset)))
      told = k ∙ ap wide_in_range (e ∙ ap (λ (y : ℕ). wide (pos (cell_of low high x) +ℤ branch_value y)) q)

module _ (g : ℕ → ObjectField) (word : ℕ → ℕ) (base : ℕ) (low high : List ℕ) (i : ℕ) (none : (j : ℕ) → j < i → OutBy word base low high (g j) → ⊥) where
  pub scan-stop : (n : ℕ) (d : ObjectField) {b : Bool} → i < n → d ≡ g i → JudgeOut word base low high d b → b ≡ true → ScanOut g word base low high n i
  scan-stop n d l q j h = record { within = omega arith; before = none; here = λ _. subst (OutBy word base low high) q (j.hit h) }

  pub scan-turn : (d : ObjectField) {b : Bool} → d ≡ g i → JudgeOut word base low high d b → b ≡ false → (k : ℕ) → k < i + 1 → OutBy word base low high (g k) → ⊥
  scan-turn d q j h = below_more (λ k. OutBy word base low high (g k) → ⊥) i none (λ o. j.miss h (subst (OutBy word base low high) (sym q) o))

  pub scan-end : (n : ℕ) → n ≤ i → ScanOut g word base low high n n
  scan-end n h = record { within = omega arith; before = λ k l. none k (omega arith); here = λ l. absurd (omega arith) }

-- ---- a cell's sum is its word's

module _ (r : ℕ → ObjectEntry) (n : ℕ) (s : Shifts) {start end : ℕ} (words : Words r n start end) where
  abbrev offset : ℕ → ℕ
  offset i = (r i).field.offset

  in_window : (base x i : ℕ) → is_in_cell base x (r i).field ≡ true → (base ≤ offset i) × ((offset i - base) / 4 ≡ x)
  in_window base x i h =
      let p = and_second (is_branch (r i).field.kind) _ h in
      (leb-true base (offset i) (and_first _ _ p), eqb-true ((offset i - base) / 4) x (and_second (leb base (offset i)) _ p))

  -- an entry is in the cell of another exactly if it is on its word
  cell-word : (base x i j : ℕ) → i < n → j < n → is_in_cell base x (r i).field ≡ true → is_in_cell base x (r j).field ≡ is_on (offset i) (r j)
  cell-word base x i j l m h = by (is_branch (r j).field.kind) refl
    where
      w : (base ≤ offset i) × ((offset i - base) / 4 ≡ x)
      w = in_window base x i h

      branch : is_branch (r i).field.kind ≡ true
      branch = and_first _ _ h

      other : is_branch (r j).field.kind ≡ true → (offset j ≡ offset i → ⊥) → (leb base (offset j) && eqb ((offset j - base) / 4) x) ≡ false
      other b d = at (dec_le base (offset j))
        where
          at : Dec (base ≤ offset j) → (leb base (offset j) && eqb ((offset j - base) / 4) x) ≡ false
          at (yes a) = rw (le-leb base (offset j) a) (ne_eqb ((offset j - base) / 4) x (λ e. d (words.apart j i m l b branch (omega (arith, w)) (omega (arith, w)))))
          at (no a) = rw (lt-leb base (offset j) (omega arith)) refl

      by : (t : Bool) → is_branch (r j).field.kind ≡ t → (t && (leb base (offset j) && eqb ((offset j - base) / 4) x)) ≡ (t && eqb (offset j) (offset i))
      by false b = refl
      by true b = at (ℕ_discrete (offset j) (offset i))
        where
          at : Dec (offset j ≡ offset i) → (leb base (offset j) && eqb ((offset j - base) / 4) x) ≡ eqb (offset j) (offset i)
          at (yes e) =
              let q : (offset j - base) / 4 ≡ x = ap (λ (k : ℕ). (k - base) / 4) e ∙ w.1 in
              let a : base ≤ offset j = omega (arith, w.0) in
              rw (le-leb base (offset j) a, eq-eqb ((offset j - base) / 4) x q, eq-eqb (offset j) (offset i) e) refl
          at (no d) = other b d ∙ sym (ne_eqb (offset j) (offset i) d)

  cell-sum : (base x i : ℕ) → i < n → is_in_cell base x (r i).field ≡ true → (m : ℕ) → m ≤ n → cell_sum r s base x m ≡ sum_on r m s (offset i)
  unfolding cell_sum sum_on
  cell-sum base x i l h zero k = refl
  cell-sum base x i l h (suc m) k =
      ap₂ (λ (b : Bool) (z : ℤ). cond b (amount_of (r m) s) (pos 0) +ℤ z) (cell-word base x i m l (omega arith) h) (cell-sum base x i l h m (omega arith))

  -- ---- what a cell says of an entry

  module _ (word : ℕ → ℕ) (small : Small n s) (base : ℕ) (low high : List ℕ) (are : CellsAre r s base n low high) where
    cell-told : (x i : ℕ) → i < n → x < length low → is_in_cell base x (r i).field ≡ true
        → wide_in_range (wide (pos (cell_of low high x) +ℤ branch_value (word (offset i)))) ≡ in_range (branch_value (word (offset i)) +ℤ sum_on r n s (offset i))
    cell-told x i l m h =
        ap wide_in_range
        (ap (λ (k : ℕ). wide (pos k +ℤ branch_value (word (offset i)))) (are x m ∙ ap wide (cell-sum base x i l h n (omega arith)))
        ∙ wide-add (sum_on r n s (offset i)) (branch_value (word (offset i)))
        ∙ ap wide (+ℤ_comm (sum_on r n s (offset i)) (branch_value (word (offset i)))))
        ∙ sym (word-told r n s (word (offset i)) (offset i) small)

    out-by : (i : ℕ) → i < n → OutBy word base low high (r i).field → is_out r n s word i ≡ true
    unfolding is_out
    out-by i l o =
        let b : is_branch (r i).field.kind ≡ true = and_first _ _ o.inside in
        let q : in_range (branch_value (word (offset i)) +ℤ sum_on r n s (offset i)) ≡ false = sym (cell-told o.cell i l o.below o.inside) ∙ o.bad in
        rw (b, q) refl

    not-out : (i : ℕ) → i < n → is_branch (r i).field.kind ≡ true → base ≤ offset i → offset i < base + 4 * length low → (OutBy word base low high (r i).field → ⊥) → is_out r n s word i ≡ false
    unfolding is_out
    not-out i l b a m h = by (in_range (branch_value (word (offset i)) +ℤ sum_on r n s (offset i))) refl
      where
        x : ℕ
        x = (offset i - base) / 4

        below : x < length low
        below = omega arith

        inside : is_in_cell base x (r i).field ≡ true
        inside = rw (b, le-leb base (offset i) a) (eq-eqb x x refl)

        by : (t : Bool) → in_range (branch_value (word (offset i)) +ℤ sum_on r n s (offset i)) ≡ t → (is_branch (r i).field.kind && not t) ≡ false
        by true q = rw b refl
        by false q = absurd (h (record { cell = x; below = below; inside = inside; bad = cell-told x i l below inside ∙ q }))

  -- ---- windows

  plain_in : (word : ℕ → ℕ) (i : ℕ) → is_branch (r i).field.kind ≡ false → is_out r n s word i ≡ false
  unfolding is_out
  plain_in word i b = rw b refl

  pub sweep-none : (word : ℕ → ℕ) → SweepOut r n s word start n
  sweep-none word = record { within = omega arith; before = before; here = λ l. absurd (omega arith) }
    where
      before : (i : ℕ) → i < n → offset i < start → is_out r n s word i ≡ false
      before i l h = by (is_branch (r i).field.kind) refl
        where
          by : (t : Bool) → is_branch (r i).field.kind ≡ t → is_out r n s word i ≡ false
          by false b = plain_in word i b
          by true b = absurd (omega (arith, words.inside i l b))

  pub sweep-turn : (word : ℕ → ℕ) → Small n s → (base size first x next : ℕ) (low high : List ℕ) (g : ℕ → ObjectField) → ((i : ℕ) → (r i).field ≡ g i)
      → SweepOut r n s word base first → AllOut r s n base size next low high → ScanOut g word base low high first x → SweepOut r n s word next x
  sweep-turn word small base size first x next low high g q w a p = record { within = omega (arith, w.within, p.within); before = before; here = here }
    where
      before : (i : ℕ) → i < x → offset i < next → is_out r n s word i ≡ false
      before i l h = by (is_branch (r i).field.kind) refl
        where
          m : i < n
          m = omega (arith, w.within, p.within)

          go : is_branch (r i).field.kind ≡ true → Dec (offset i < base) → Dec (offset i < base + 4 * size) → is_out r n s word i ≡ false
          go b (yes u) v = w.before i (omega (arith, p.within)) u
          go b (no u) (yes v) =
              not-out word small base low high a.cells i m b (omega arith) (omega (arith, a.low_size)) (λ o. p.before i l (subst (OutBy word base low high) (q i) o))
          go b (no u) (no v) = absurd (let k = a.skipped i m b (omega arith) in omega arith)

          by : (t : Bool) → is_branch (r i).field.kind ≡ t → is_out r n s word i ≡ false
          by false b = plain_in word i b
          by true b = go b (dec_lt (offset i) base) (dec_lt (offset i) (base + 4 * size))

      here : x < n → is_out r n s word x ≡ true
      here l = go (dec_lt x first)
        where
          go : Dec (x < first) → is_out r n s word x ≡ true
          go (yes u) = out-by word small base low high a.cells x l (subst (OutBy word base low high) (sym (q x)) (p.here u))
          go (no u) =
              let e : first ≡ x = omega (arith, p.within) in
              subst (λ (y : ℕ). is_out r n s word y ≡ true) e (w.here (omega arith))

  -- windows over all words give the first
  pub sweep-first : (word : ℕ → ℕ) (base x : ℕ) → end ≤ base → SweepOut r n s word base x → FirstOut r n s word x
  sweep-first word base x h w = record { within = w.within; before = before; here = w.here }
    where
      before : (i : ℕ) → i < x → is_out r n s word i ≡ false
      before i l = by (is_branch (r i).field.kind) refl
        where
          by : (t : Bool) → is_branch (r i).field.kind ≡ t → is_out r n s word i ≡ false
          by false b = plain_in word i b
          by true b = w.before i l (let k = words.inside i (omega (arith, w.within)) b in omega arith)
