-- The laws of the pass over branches in ascending order. Assumes nothing.
use borrow.Author.Count.{below_more}
use mathlib.Core.Path.{◌≡◌, refl, sym, ◌∙◌, ap, subst}
use mathlib.Core.Bool.{Bool, true, false, cond, not, ◌&&◌}
use Prim.Native.Nat.{ℕ, zero, suc, ◌+◌, ◌≤◌, ◌<◌}
use native.Mathlib.Decide.{dec_lt, ℕ_discrete}
use native.Mathlib.Numerals.{add-one}
use native.Mathlib.Omega.{arith}
use lib.Dec.{eqb, ltb}
use lib.IntN.{ℤ, pos, ◌+ℤ◌, +ℤ_idl, +ℤ_idr, +ℤ_comm, +ℤ_assoc}
use borrow.Author.Tests.{eq-eqb, ne_eqb, lt-ltb, le-ltb}
use Rattle.book.specs.Machine.{Shifts}
use Rattle.field_kind.specs.declared.ObjectField.{ObjectField}
use Rattle.branch.specs.declared.Sum.{Sum}
use Rattle.branch.specs.Branch.{branch_value, in_range, sum_of, wide, wide_in_range}
use Rattle.branch.proofs.Wide.{wide-add}
use Rattle.object_history.specs.declared.ObjectEntry.{ObjectEntry}
use Rattle.object_history.specs.Entry.{amount_of}
use Rattle.object_history.specs.Range.{is_branch, is_on}
use Rattle.section_overlap.proofs.Rule.{no_true}
use Rattle.branch_range.specs.declared.Run.{Run}
use Rattle.branch_range.specs.Range.{sum_on, is_out, FirstOut}
use Rattle.branch_range.specs.Cells.{Small}
use Rattle.branch_range.specs.Order.{FirstBranch, Found, Ascended, closed}
use Rattle.branch_range.proofs.Sums.{word-told}

-- ---- the first branch

pub branch-told : (g : ℕ → ObjectField) (i : ℕ) (d : ObjectField) {b c : Bool} → d ≡ g i → b ≡ is_branch d.kind → b ≡ c → is_branch (g i).kind ≡ c
branch-told g i d q e h = ap (λ (x : ObjectField). is_branch x.kind) (sym q) ∙ sym e ∙ h

module _ (g : ℕ → ObjectField) (i : ℕ) (none : (j : ℕ) → j < i → is_branch (g j).kind ≡ false) where
  pub branch-stop : (n : ℕ) (d : ObjectField) {b : Bool} → i < n → d ≡ g i → b ≡ is_branch d.kind → b ≡ true → FirstBranch g n i
  branch-stop n d l q e h = record { within = omega arith; before = none; here = λ _. branch-told g i d q e h }

  pub branch-turn : (d : ObjectField) {b : Bool} → d ≡ g i → b ≡ is_branch d.kind → b ≡ false → (j : ℕ) → j < i + 1 → is_branch (g j).kind ≡ false
  branch-turn d q e h = below_more (λ j. is_branch (g j).kind ≡ false) i none (branch-told g i d q e h)

  pub branch-end : (n : ℕ) → n ≤ i → FirstBranch g n n
  branch-end n h = record { within = omega arith; before = λ j l. none j (omega arith); here = λ l. absurd (omega arith) }

-- ---- the first that is out of range, the last word included

module _ (run : Run) (n : ℕ) where
  pub closed-found : run.first < n → run.first ≡ closed run n
  unfolding closed
  closed-found h = rw (lt-ltb run.first n h) refl

  pub closed_in : {b : Bool} → n ≤ run.first → b ≡ wide_in_range (sum_of run.sum) → b ≡ true → n ≡ closed run n
  unfolding closed
  closed_in h e k = rw (le-ltb run.first n h, ← e, k) refl

  pub closed-out : {b : Bool} → n ≤ run.first → b ≡ wide_in_range (sum_of run.sum) → b ≡ false → run.start ≡ closed run n
  unfolding closed
  closed-out h e k = rw (le-ltb run.first n h, ← e, k) refl

-- ---- sums

module _ (r : ℕ → ObjectEntry) (s : Shifts) (word : ℕ → ℕ) where
  abbrev offset : ℕ → ℕ
  offset i = (r i).field.offset

  abbrev IsBranch : ℕ → Type 0
  IsBranch i = is_branch (r i).field.kind ≡ true

  -- an entry that is not on a word leaves its sum
  sum-other : (i off : ℕ) → is_on off (r i) ≡ false → sum_on r (suc i) s off ≡ sum_on r i s off
  unfolding sum_on
  sum-other i off h = rw h (+ℤ_idl (sum_on r i s off))

  sum-here : (i off : ℕ) → is_on off (r i) ≡ true → sum_on r (suc i) s off ≡ amount_of (r i) s +ℤ sum_on r i s off
  unfolding sum_on
  sum-here i off h = rw h refl

  sum-none : (i off : ℕ) → ((j : ℕ) → j < i → is_on off (r j) ≡ false) → sum_on r i s off ≡ pos 0
  sum-none zero off h = unfold sum_on in refl
  sum-none (suc i) off h = sum-other i off (h i (omega arith)) ∙ sum-none i off (λ j l. h j (omega arith))

  on-plain : (i off : ℕ) → is_branch (r i).field.kind ≡ false → is_on off (r i) ≡ false
  on-plain i off b = rw b refl

  on-other : (i off : ℕ) → (IsBranch i → offset i ≡ off → ⊥) → is_on off (r i) ≡ false
  on-other i off h = by (is_branch (r i).field.kind) refl
    where
      by : (t : Bool) → is_branch (r i).field.kind ≡ t → (t && eqb (offset i) off) ≡ false
      by true b = ne_eqb (offset i) off (h b)
      by false b = refl

  on_same : (i off : ℕ) → IsBranch i → offset i ≡ off → is_on off (r i) ≡ true
  on_same i off b e = rw b (eq-eqb (offset i) off e)

  out-plain : (i n : ℕ) → is_branch (r i).field.kind ≡ false → is_out r n s word i ≡ false
  unfolding is_out
  out-plain i n b = rw b refl

  -- and whether it is out of range
  out-next : (i j : ℕ) → (IsBranch j → is_on (offset j) (r i) ≡ false) → is_out r (suc i) s word j ≡ is_out r i s word j
  out-next i j h = by (is_branch (r j).field.kind) refl
    where
      by : (t : Bool) → is_branch (r j).field.kind ≡ t → is_out r (suc i) s word j ≡ is_out r i s word j
      by true b = step (sum-other i (offset j) (h b))
        where
          step : sum_on r (suc i) s (offset j) ≡ sum_on r i s (offset j) → is_out r (suc i) s word j ≡ is_out r i s word j
          step e = unfold is_out in ap (λ (z : ℤ). is_branch (r j).field.kind && not (in_range (branch_value (word (offset j)) +ℤ z))) e
      by false b = out-plain j (suc i) b ∙ sym (out-plain j i b)

  found-next : (i n upto x : ℕ) → Found r i s word n upto x → ((j : ℕ) → j < upto → IsBranch j → is_on (offset j) (r i) ≡ false) → Found r (suc i) s word n upto x
  found-next i n upto x f h = record {
    within = f.within;
    before = λ j l m. out-next i j (h j l) ∙ f.before j l m;
    here = λ l. let w = f.here l in (w.0, out-next i x (h x w.0) ∙ w.1);
  }

  -- ---- the last word

  module _ (n i : ℕ) (run : Run) (k : Ascended r s word n i run) (small : Small i s) where
    -- an entry on the last word is in range as its sum says
    last-told : (j : ℕ) → run.start ≤ j → j < i → IsBranch j → is_out r i s word j ≡ not (wide_in_range (sum_of run.sum))
    unfolding is_out
    last-told j a l b =
        rw (b, k.later j a l b) (ap not (word-told r i s (word run.at) run.at small ∙ ap wide_in_range (sym k.total)))

    last-in : (j : ℕ) → wide_in_range (sum_of run.sum) ≡ true → run.start ≤ j → j < i → is_out r i s word j ≡ false
    last-in j h a l = by (is_branch (r j).field.kind) refl
      where
        by : (t : Bool) → is_branch (r j).field.kind ≡ t → is_out r i s word j ≡ false
        by true b = last-told j a l b ∙ ap not h
        by false b = out-plain j i b

    close-found : i ≤ n → Found r i s word n i (closed run n)
    unfolding closed
    close-found fits = by (dec_lt run.first n) (wide_in_range (sum_of run.sum)) refl
      where
        by : Dec (run.first < n) → (t : Bool) → wide_in_range (sum_of run.sum) ≡ t → Found r i s word n i (cond (ltb run.first n) run.first (cond t n run.start))
        by (yes l) t e =
            let w = k.found.here l in
            rw (lt-ltb run.first n l)
            (record { within = omega arith; before = λ j a b. k.found.before j (omega (arith, w.0)) b; here = λ _. (omega (arith, w.0, k.begun), w.1) })
        by (no l) true e =
            rw (le-ltb run.first n (omega arith))
            (record { within = omega arith; before = λ j a b. at j a (dec_lt j run.start); here = λ m. absurd (omega arith) })
          where
            at : (j : ℕ) → j < i → Dec (j < run.start) → is_out r i s word j ≡ false
            at j a (yes u) = k.found.before j u (omega (arith, k.begun))
            at j a (no u) = last-in j e (omega arith) a
        by (no l) false e =
            rw (le-ltb run.first n (omega arith))
            (record {
              within = omega (arith, k.begun);
              before = λ j a b. k.found.before j b (omega (arith, k.begun));
              here = λ _. (k.begun, last-told run.start (omega arith) k.begun k.branch ∙ ap not e);
            })

  -- ---- entries in order

  run-plain : (n i : ℕ) (run : Run) → Ascended r s word n i run → is_branch (r i).field.kind ≡ false → Ascended r s word n (suc i) run
  run-plain n i run k b = record {
    begun = omega (arith, k.begun);
    branch = k.branch;
    place = k.place;
    earlier = k.earlier;
    later = later;
    total = k.total ∙ ap (λ (z : ℤ). wide (branch_value (word run.at) +ℤ z)) (sym (sum-other i run.at (on-plain i run.at b)));
    found = found-next i n run.start run.first k.found (λ j l m. on-plain i (offset j) b);
  }
    where
      later : (j : ℕ) → run.start ≤ j → j < suc i → IsBranch j → offset j ≡ run.at
      later j a l m = go (ℕ_discrete j i)
        where
          go : Dec (j ≡ i) → offset j ≡ run.at
          go (yes e) = no_true (sym b ∙ ap (λ (x : ℕ). is_branch (r x).field.kind) (sym e) ∙ m)
          go (no e) = k.later j a (omega arith) m

  run-same : (n i : ℕ) (run : Run) (sum : Sum) → Ascended r s word n i run → IsBranch i → offset i ≡ run.at → sum_of sum ≡ wide (pos (sum_of run.sum) +ℤ amount_of (r i) s)
      → Ascended r s word n (suc i) (record { ascending = true; at = run.at; start = run.start; first = run.first; sum = sum })
  run-same n i run sum k b e h = record {
    begun = omega (arith, k.begun);
    branch = k.branch;
    place = k.place;
    earlier = k.earlier;
    later = later;
    total = total;
    found = found-next i n run.start run.first k.found (λ j l m. on-other i (offset j) (λ _ q. omega (arith, k.earlier j l m)));
  }
    where
      later : (j : ℕ) → run.start ≤ j → j < suc i → IsBranch j → offset j ≡ run.at
      later j a l m = go (ℕ_discrete j i)
        where
          go : Dec (j ≡ i) → offset j ≡ run.at
          go (yes q) = ap offset q ∙ e
          go (no q) = k.later j a (omega arith) m

      v : ℤ
      v = branch_value (word run.at)

      total : sum_of sum ≡ wide (v +ℤ sum_on r (suc i) s run.at)
      total =
          h ∙ ap (λ (x : ℕ). wide (pos x +ℤ amount_of (r i) s)) k.total
          ∙ wide-add (v +ℤ sum_on r i s run.at) (amount_of (r i) s)
          ∙ ap wide (+ℤ_assoc v (sum_on r i s run.at) (amount_of (r i) s)
          ∙ ap (λ (z : ℤ). v +ℤ z) (+ℤ_comm (sum_on r i s run.at) (amount_of (r i) s) ∙ sym (sum-here i run.at (on_same i run.at b e))))

  -- the sum of the first entry on a word
  first-total : (i : ℕ) (sum : ℕ) → IsBranch i → ((j : ℕ) → j < i → IsBranch j → offset j ≡ offset i → ⊥) → sum ≡ wide (branch_value (word (offset i)) +ℤ amount_of (r i) s)
      → sum ≡ wide (branch_value (word (offset i)) +ℤ sum_on r (suc i) s (offset i))
  first-total i sum b none h =
      h ∙ ap (λ (z : ℤ). wide (branch_value (word (offset i)) +ℤ z))
      (sym (sum-here i (offset i) (on_same i (offset i) b refl)
      ∙ ap (λ (z : ℤ). amount_of (r i) s +ℤ z) (sum-none i (offset i) (λ j l. on-other j (offset i) (none j l)))
      ∙ +ℤ_idr (amount_of (r i) s)))

  -- the first entry of a word after all others
  run-fresh : (n i first : ℕ) (a : Bool) (sum : Sum) → IsBranch i → ((j : ℕ) → j < i → IsBranch j → offset j < offset i) → Found r i s word n i first
      → sum_of sum ≡ wide (branch_value (word (offset i)) +ℤ amount_of (r i) s)
      → Ascended r s word n (suc i) (record { ascending = a; at = offset i; start = i; first = first; sum = sum })
  run-fresh n i first a sum b low f h = record {
    begun = omega arith;
    branch = b;
    place = refl;
    earlier = low;
    later = λ j a l m. ap offset (let e : j ≡ i = omega arith in e);
    total = first-total i (sum_of sum) b (λ j l m e. omega (arith, low j l m)) h;
    found = found-next i n i first f (λ j l m. on-other i (offset j) (λ _ e. omega (arith, low j l m)));
  }

  run-new : (n i : ℕ) (run : Run) (a : Bool) (sum : Sum) → Ascended r s word n i run → Small n s → i < n → IsBranch i → run.at < offset i
      → sum_of sum ≡ wide (branch_value (word (offset i)) +ℤ amount_of (r i) s)
      → Ascended r s word n (suc i) (record { ascending = a; at = offset i; start = i; first = closed run n; sum = sum })
  run-new n i run a sum k small l b u h = run-fresh n i (closed run n) a sum b low (close-found n i run k (record { few = omega (arith, small.few); shifts = small.shifts }) (omega arith)) h
    where
      low : (j : ℕ) → j < i → IsBranch j → offset j < offset i
      low j a m = go (dec_lt j run.start)
        where
          go : Dec (j < run.start) → offset j < offset i
          go (yes q) = omega (arith, k.earlier j q m)
          go (no q) = omega (arith, k.later j (omega arith) a m)

  run-first : (n i : ℕ) (sum : Sum) → FirstBranch (λ j. (r j).field) n i → i < n → sum_of sum ≡ wide (branch_value (word (offset i)) +ℤ amount_of (r i) s)
      → Ascended r s word n (suc i) (record { ascending = true; at = offset i; start = i; first = n; sum = sum })
  run-first n i sum f l h =
      run-fresh n i n true sum (f.here l) (λ j a m. no_true (sym (f.before j a) ∙ m))
      (record { within = omega arith; before = λ j a _. out-plain j i (f.before j a); here = λ m. absurd (omega arith) }) h

  -- ---- the same, as the code has it

  to-next : (n i : ℕ) (run : Run) → Ascended r s word n (suc i) run → Ascended r s word n (i + 1) run
  to-next n i run k = subst (λ (x : ℕ). Ascended r s word n x run) (sym (add-one i)) k

  module _ (g : ℕ → ObjectField) (q : (j : ℕ) → (r j).field ≡ g j) where
    branch-as : (i : ℕ) (d : ObjectField) {b c : Bool} → d ≡ g i → b ≡ is_branch d.kind → b ≡ c → is_branch (r i).field.kind ≡ c
    branch-as i d e h k = ap (λ (x : ObjectField). is_branch x.kind) (q i) ∙ branch-told g i d e h k

    offset-as : (i : ℕ) (d : ObjectField) → d ≡ g i → d.offset ≡ offset i
    offset-as i d e = ap (λ (x : ObjectField). x.offset) (e ∙ sym (q i))

    first-as : (n i : ℕ) → FirstBranch g n i → FirstBranch (λ j. (r j).field) n i
    first-as n i f = record {
      within = f.within;
      before = λ j l. ap (λ (x : ObjectField). is_branch x.kind) (q j) ∙ f.before j l;
      here = λ l. ap (λ (x : ObjectField). is_branch x.kind) (q i) ∙ f.here l;
    }

    pub begin-run : (n i : ℕ) (d : ObjectField) (sum : Sum) → d ≡ g i → FirstBranch g n i → i < n → sum_of sum ≡ wide (branch_value (word (offset i)) +ℤ amount_of (r i) s)
        → Ascended r s word n (i + 1) (record { ascending = true; at = d.offset; start = i; first = n; sum = sum })
    begin-run n i d sum e f l h =
        to-next n i _ (subst (λ (x : ℕ). Ascended r s word n (suc i) (record { ascending = true; at = x; start = i; first = n; sum = sum })) (sym (offset-as i d e)) (run-first n i sum (first-as n i f) l h))

    pub step-plain : (n i : ℕ) (run : Run) (d : ObjectField) {b : Bool} → d ≡ g i → b ≡ is_branch d.kind → b ≡ false → Ascended r s word n i run → Ascended r s word n (i + 1) run
    step-plain n i run d e h m k = to-next n i run (run-plain n i run k (branch-as i d e h m))

    pub step_same : (n i : ℕ) (run : Run) (d : ObjectField) (sum : Sum) {b : Bool} → d ≡ g i → b ≡ is_branch d.kind → b ≡ true → d.offset ≡ run.at → Ascended r s word n i run
        → sum_of sum ≡ wide (pos (sum_of run.sum) +ℤ amount_of (r i) s)
        → Ascended r s word n (i + 1) (record { ascending = true; at = run.at; start = run.start; first = run.first; sum = sum })
    step_same n i run d sum e h m u k z = to-next n i _ (run-same n i run sum k (branch-as i d e h m) (sym (offset-as i d e) ∙ u) z)

    pub step-new : (n i first : ℕ) (run : Run) (a : Bool) (d : ObjectField) (sum : Sum) {b : Bool} → d ≡ g i → b ≡ is_branch d.kind → b ≡ true → run.at < d.offset → Ascended r s word n i run → Small n s → i < n
        → first ≡ closed run n → sum_of sum ≡ wide (branch_value (word (offset i)) +ℤ amount_of (r i) s)
        → Ascended r s word n (i + 1) (record { ascending = a; at = d.offset; start = i; first = first; sum = sum })
    step-new n i first run a d sum e h m u k small l f z =
        let o = offset-as i d e in
        let w = run-new n i run a sum k small l (branch-as i d e h m) (omega arith) z in
        to-next n i _
        (subst (λ (y : ℕ). Ascended r s word n (suc i) (record { ascending = a; at = d.offset; start = i; first = y; sum = sum })) (sym f)
        (subst (λ (x : ℕ). Ascended r s word n (suc i) (record { ascending = a; at = x; start = i; first = closed run n; sum = sum })) (sym o) w))

    pub order-none : (n i : ℕ) → n ≤ i → FirstBranch g n i → FirstOut r n s word n
    order-none n i h f = let m = first-as n i f in record { within = omega arith; before = λ j l. out-plain j n (m.before j (omega arith)); here = λ l. absurd (omega arith) }

  -- ---- the end

  pub order-end : (n i : ℕ) (run : Run) {x : ℕ} → i ≤ n → n ≤ i → Ascended r s word n i run → Small n s → x ≡ closed run n → FirstOut r n s word x
  order-end n i run a b k small q =
      let e : i ≡ n = omega arith in
      let f = close-found n n run (subst (λ (y : ℕ). Ascended r s word n y run) e k) small (omega arith) in
      subst (FirstOut r n s word) (sym q) (record { within = f.within; before = λ j l. f.before j (omega (arith, f.within)) l; here = λ l. (f.here l).1 })
