-- What follows for object files: each branch exact, its bottom two bits kept, and which calls after an accepted one are accepted.
use mathlib.Core.Path.{◌≡◌, refl, sym, ◌∙◌, ap, subst, fun_ext}
use mathlib.Core.Logic.{◌⊎◌}
use mathlib.Core.Bool.{Bool, true, false, cond}
use mathlib.Core.List.{List, [], ◌∷◌, ◌++◌}
use Prim.Native.Nat.{ℕ, zero, suc, ◌+◌, ◌/◌, ◌%◌, ◌≤◌, ◌<◌}
use lib.ListN.{length, get_or}
use lib.IntN.{pos, ◌+ℤ◌, ◌-ℤ◌, +ℤ_invr}
use Rattle.word.specs.Number.{field_at}
use Rattle.update.specs.Update.{Bytes}
use Rattle.refusal.specs.declared.Refusal.{Refusal}
use Rattle.refusal.specs.Order.{◌or_else◌}
use Rattle.book.specs.Machine.{Shifts, unshifted, sum}
use Rattle.book.specs.Machine as machine
use Rattle.book.specs.Entries.{All}
use Rattle.book.proofs.Chain as chains
use Rattle.book.proofs.Call as calls
use Rattle.object_history.specs.declared.ObjectEntry.{ObjectEntry}
use Rattle.object_history.specs.Entry.{apply_all, Inside}
use Rattle.field_kind.specs.Field.{bytes_in, branch_limit}
use Rattle.object_history.specs.Range.{is_branch, amounts_on, branch_sum}
use Rattle.branch.specs.Branch.{branch_value}
use Rattle.object_history.specs.Object.{Placed, Object, Plan, Sound, section_of, move_of, displacements, differences, SamePlan, built_image, list_check, fit_check}
use Rattle.object_history.specs.Call.{Call, build, move, room_check, range_check, call_check, machine_of, Accepts, effect, run, shifts_of, start_of}
use Rattle.object_history.proofs.Entry.{apply_all-add, apply_all-length, apply_all-zero, apply_all-outside}
use Rattle.object_history.proofs.Range.{Kept, all-kept, each_two, range-after, range-zero}
use Rattle.object_history.proofs.Demand3.{build-parts, move-parts, accepted-length, inside-length, object-lawful}
use Rattle.std.specs.Prelude.{Err, Ok}
use Rattle.refusal.specs.Verdict.{Verdict}

-- what holds of each by one law holds of all
all_map : {P Q : ObjectEntry → Type 0} → ((e : ObjectEntry) → P e → Q e) → (es : List ObjectEntry) → All P es → All Q es
all_map h [] a = tt
all_map h (e ∷ es) a = (h e a.0, all_map h es a.1)

-- demand 1: "A refusal changes no byte of any buffer I lend."
pub refused-nothing : (o : Object) (c : Call) (x : List ℕ) (r : Refusal) → call_check o (length x) x c ≡ Err r → effect o c x ≡ x
unfolding effect
refused-nothing o c x r e = calls.refused-nothing (machine_of o) c x r e

-- ---- plans that name the same addresses

same_move : (s : Placed) (a b : ℕ) → (s.placed ≡ true → a ≡ b) → move_of s a ≡ move_of s b
unfolding move_of
same_move s a b h = by_place s.placed refl
  where
    by_place : (t : Bool) → s.placed ≡ t → cond t (pos a -ℤ pos s.address) (pos 0) ≡ cond t (pos b -ℤ pos s.address) (pos 0)
    by_place true q = ap (λ (n : ℕ). pos n -ℤ pos s.address) (h q)
    by_place false q = refl

same-displacements : (o : Object) (p q : Plan) → SamePlan o p q → displacements o p ≡ displacements o q
same-displacements o p q s = fun_ext each
  where
    each : (i : ℕ) → displacements o p i ≡ displacements o q i
    each zero = unfold displacements in refl
    each (suc k) = unfold displacements in same_move (section_of o k) (get_or p k 0) (get_or q k 0) (s.addresses k)

same-differences : (o : Object) (p q : Plan) → SamePlan o p q → differences o p q ≡ unshifted
unfolding differences
same-differences o p q s = fun_ext (λ i. ap (λ (d : Shifts). d i -ℤ displacements o p i) (sym (same-displacements o p q s)) ∙ +ℤ_invr (displacements o p i))

-- ---- an accepted call, by its shifts and the bytes that they are applied to

effect-start : (o : Object) (c : Call) (x : List ℕ) → Accepts o x c → effect o c x ≡ apply_all o.entries (shifts_of o c) (start_of o c x)
unfolding effect differences
effect-start o (build p) x e = calls.effect-accepted (machine_of o) (build p) x e
effect-start o (move p q) x e = calls.effect-accepted (machine_of o) (move p q) x e

start-length : (o : Object) (c : Call) (x : List ℕ) → Accepts o x c → length (start_of o c x) ≡ length o.raw
start-length o (build p) x e = refl
start-length o (move p q) x e = accepted-length o x (move p q) e

start-range : (o : Object) (c : Call) (x : List ℕ) → Accepts o x c → range_check o (shifts_of o c) (start_of o c x) ≡ Ok tt
start-range o (build p) x e = (build-parts o (length x) x p e).range
start-range o (move p q) x e = (move-parts o (length x) x p q e).range

-- ---- what RANGE guarantees

module _ (o : Object) (sound : Sound o) where
  -- every branch word is kept where RANGE accepts
  branches-kept : (s : Shifts) (x : List ℕ) → length x ≡ length o.raw → range_check o s x ≡ Ok tt
      → All (λ e. is_branch e.field.kind ≡ true → Kept o.entries s x e) o.entries
  unfolding range_check
  branches-kept s x l h =
      all-kept o.entries s x o.entries (each_two o.entries sound.pairwise)
      (inside-length o.entries o.raw x (sym l) sound.inside) h

  -- RANGE by t of what an accepted s left is RANGE by s + t of what was there
  pub range-sum : (s t : Shifts) (x : List ℕ) → length x ≡ length o.raw → range_check o s x ≡ Ok tt
      → range_check o t (apply_all o.entries s x) ≡ range_check o (sum s t) x
  range-sum s t x l h = ranges (branches-kept s x l h)
    where
      ranges : All (λ e. is_branch e.field.kind ≡ true → Kept o.entries s x e) o.entries → range_check o t (apply_all o.entries s x) ≡ range_check o (sum s t) x
      ranges k = unfold range_check in range-after o.entries s x t o.entries k

  -- request 5: "whose bottom two bits belong to the instruction and stay": of a build those of the raw bytes, of a move those in the buffer
  pub bottom-bits : (c : Call) (x : List ℕ) → Accepts o x c
      → All (λ e. is_branch e.field.kind ≡ true → field_at 4 e.field.offset (effect o c x) % 4 ≡ field_at 4 e.field.offset (start_of o c x) % 4) o.entries
  bottom-bits c x a =
      all_map (λ e k b. ap (λ (y : List ℕ). field_at 4 e.field.offset y % 4) (effect-start o c x a) ∙ (k b).bottom) o.entries
      (branches-kept (shifts_of o c) (start_of o c x) (start-length o c x a) (start-range o c x a))

  -- a branch's new value is the exact sum that RANGE judged
  pub exact-values : (c : Call) (x : List ℕ) → Accepts o x c
      → All (λ e. is_branch e.field.kind ≡ true
      → branch_value (field_at 4 e.field.offset (effect o c x)) ≡ branch_sum o.entries (shifts_of o c) (start_of o c x) e.field.offset) o.entries
  exact-values c x a =
      all_map (λ e k b. ap (λ (y : List ℕ). branch_value (field_at 4 e.field.offset y)) (effect-start o c x a) ∙ (k b).exact) o.entries
      (branches-kept (shifts_of o c) (start_of o c x) (start-length o c x a) (start-range o c x a))

  -- request 5: a branch word after an accepted call. Its signed value is the exact sum of that before and of all entries on the word; "the low end of the
  -- word, whose bottom two bits belong to the instruction and stay", and so do the six above the low 26
  pub record BranchAfter (c : Call) (x : List ℕ) (e : ObjectEntry) : Type 0 where
    pub value : branch_value (field_at 4 e.field.offset (effect o c x))
        ≡ branch_value (field_at 4 e.field.offset (start_of o c x)) +ℤ amounts_on e.field.offset o.entries (shifts_of o c)
    pub bottom : field_at 4 e.field.offset (effect o c x) % 4 ≡ field_at 4 e.field.offset (start_of o c x) % 4
    pub high : field_at 4 e.field.offset (effect o c x) / branch_limit % 64 ≡ field_at 4 e.field.offset (start_of o c x) / branch_limit % 64

  branch_kept : (c : Call) (x : List ℕ) (e : ObjectEntry) → effect o c x ≡ apply_all o.entries (shifts_of o c) (start_of o c x) → Kept o.entries (shifts_of o c) (start_of o c x) e
      → BranchAfter c x e
  unfolding branch_sum
  branch_kept c x e q k =
      record {
        value = ap (λ (y : List ℕ). branch_value (field_at 4 e.field.offset y)) q ∙ k.exact;
        bottom = ap (λ (y : List ℕ). field_at 4 e.field.offset y % 4) q ∙ k.bottom;
        high = ap (λ (y : List ℕ). field_at 4 e.field.offset y / branch_limit % 64) q ∙ k.high;
      }

  pub branches-after : (c : Call) (x : List ℕ) → Accepts o x c → All (λ e. is_branch e.field.kind ≡ true → BranchAfter c x e) o.entries
  branches-after c x a =
      all_map (λ e k b. branch_kept c x e (effect-start o c x a) (k b)) o.entries
      (branches-kept (shifts_of o c) (start_of o c x) (start-length o c x a) (start-range o c x a))

  -- ---- after an accepted build for p, a move from p to q is answered as a build for q would be

  -- the order of a move's checks where those of the from plan accept
  order-after : {f l g : Verdict} (l' g' : Verdict) {r r' s s' : Verdict} → f ≡ Ok tt → l ≡ Ok tt → g ≡ Ok tt → r ≡ r' → s ≡ s'
      → (f or_else l or_else l' or_else g or_else g' or_else r or_else s) ≡ (f or_else l' or_else g' or_else r' or_else s')
  order-after l' g' a b c d e = rw (a, b, c, d, e) refl

  range-reached : (p q : Plan) → range_check o (displacements o p) o.raw ≡ Ok tt
      → range_check o (differences o p q) (built_image o p) ≡ range_check o (displacements o q) o.raw
  unfolding built_image differences
  range-reached p q h =
      range-sum (displacements o p) (differences o p q) o.raw refl h
      ∙ ap (λ (d : Shifts). range_check o d o.raw) (chains.differences-reach (machine_of o) p q)

  built-length : (p : Plan) → length (built_image o p) ≡ length o.raw
  unfolding built_image
  built-length p = apply_all-length o.entries (displacements o p) o.raw

  pub move-as-build : (p q : Plan) (x : List ℕ) → Accepts o x (build p) → call_check o (length (built_image o p)) (built_image o p) (move p q) ≡ call_check o (length x) x (build q)
  unfolding call_check
  move-as-build p q x e =
      let a = build-parts o (length x) x p e in
      order-after (list_check o q) (fit_check o q) a.file-accepted a.plan-listed a.plan-fits
      (ap (room_check o) (built-length p ∙ sym (accepted-length o x (build p) e))) (range-reached p q a.range)

  -- ---- what builds and moves leave

  pub build-image : (p : Plan) (x : List ℕ) → Accepts o x (build p) → effect o (build p) x ≡ built_image o p
  unfolding built_image
  build-image p x e = effect-start o (build p) x e

  pub move-image : (p q : Plan) → Accepts o (built_image o p) (move p q) → effect o (move p q) (built_image o p) ≡ built_image o q
  unfolding built_image effect
  move-image p q e = chains.move-built (machine_of o) (object-lawful o sound) (built_image o p) p p q refl refl e

  -- "If a build was accepted, and each accepted move after the last such build goes from the plan that the accepted call before it reached, these are the
  -- images that demand 2 defines for the last plan so reached."
  pub reached-images : (x : List ℕ) (before : List Call) (p : Plan) (after : List Call) (r : Plan) → Accepts o (run o before x) (build p)
      → machine.Chain (machine_of o) (built_image o p) p after r → run o (before ++ (build p ∷ after)) x ≡ built_image o r
  unfolding run built_image
  reached-images x before p after r e c = chains.reached-images (machine_of o) (object-lawful o sound) x before p after r e c

  -- a build for P that is accepted, and moved to Q: the build for Q is accepted too, and leaves the same
  pub build-move : (x : List ℕ) (p q : Plan) → Accepts o x (build p) → Accepts o (effect o (build p) x) (move p q)
      → Accepts o x (build q) × (run o (build p ∷ move p q ∷ []) x ≡ effect o (build q) x)
  unfolding run
  build-move x p q a b =
      let i : effect o (build p) x ≡ built_image o p = build-image p x a in
      let c : Accepts o (built_image o p) (move p q) = subst (λ (y : List ℕ). Accepts o y (move p q)) i b in
      let d : Accepts o x (build q) = sym (move-as-build p q x a) ∙ c in
      (d, ap (effect o (move p q)) i ∙ move-image p q c ∙ sym (build-image q x d))

  -- after an accepted build, and moves that go each from the plan last reached, refused calls between them: a build for the last plan reached is accepted too
  next-build : (x : List ℕ) (p g q : Plan) → displacements o g ≡ displacements o p → Accepts o x (build p) → Accepts o (built_image o p) (move g q) → Accepts o x (build q)
  next-build x p g q s a b = unfold call_check in
      (let c = build-parts o (length x) x p a in
      let d = move-parts o (length (built_image o p)) (built_image o p) g q b in
      accept-five c.file-accepted d.to-listed d.to-fits c.room (sym (ranged c.range) ∙ d.range))
    where
      ranged : range_check o (displacements o p) o.raw ≡ Ok tt → range_check o (differences o g q) (built_image o p) ≡ range_check o (displacements o q) o.raw
      ranged h = unfold built_image differences in
          (range-sum (displacements o p) (differences o g q) o.raw refl h
          ∙ ap (λ (d : Shifts). range_check o d o.raw) (ap (λ (d : Shifts). sum d (differences o g q)) (sym s) ∙ chains.differences-reach (machine_of o) g q))

      accept-five : {u v w y z : Verdict} → u ≡ Ok tt → v ≡ Ok tt → w ≡ Ok tt → y ≡ Ok tt → z ≡ Ok tt → (u or_else v or_else w or_else y or_else z) ≡ Ok tt
      accept-five a b c d e = rw (a, b, c, d) e

  chain-accepted : (x y : List ℕ) (p : Plan) (cs : List Call) (r : Plan) → machine.Chain (machine_of o) y p cs r → y ≡ built_image o p → Accepts o x (build p) → Accepts o x (build r)
  chain-accepted x y p cs r machine.Chain.ended b a = a
  chain-accepted x y p cs r (machine.Chain.moved {o = g} {q = q} {cs = ds} e s c) b a =
      let m : Accepts o (built_image o p) (move g q) = subst (λ (z : List ℕ). Accepts o z (move g q)) b e in
      chain-accepted x (machine.effect (machine_of o) (move g q) y) q ds r c (unfold built_image in chains.move-built (machine_of o) (object-lawful o sound) y p g q s b e) (next-build x p g q s a m)
  chain-accepted x y p cs r (machine.Chain.passed {cs = ds} z e c) b a = chain-accepted x y p ds r c b a

  pub chain-build : (x : List ℕ) (p : Plan) (after : List Call) (r : Plan) → Accepts o x (build p) → machine.Chain (machine_of o) (built_image o p) p after r
      → Accepts o x (build r) × (run o (build p ∷ after) x ≡ effect o (build r) x)
  chain-build x p after r a c =
      let d = chain-accepted x (built_image o p) p after r c refl a in
      (d, reached-images x [] p after r (start a) c ∙ sym (build-image r x d))
    where
      start : Accepts o x (build p) → Accepts o (run o [] x) (build p)
      start h = unfold run in h

  -- "So for plans P, Q and R, with every call accepted, a build for P moved to Q and on to R equals building for R"; and that build is accepted
  pub build-move-move : (x : List ℕ) (p q r : Plan) → Accepts o x (build p) → Accepts o (effect o (build p) x) (move p q)
      → Accepts o (run o (build p ∷ move p q ∷ []) x) (move q r)
      → Accepts o x (build r) × (run o (build p ∷ move p q ∷ move q r ∷ []) x ≡ effect o (build r) x)
  unfolding run
  build-move-move x p q r a b c =
      let d = build-move x p q a b in
      let f = build-move x q r d.0 (subst (λ (y : List ℕ). Accepts o y (move q r)) d.1 c) in
      (f.0, ap (effect o (move q r)) d.1 ∙ f.1)

  -- "moving back restores the start": an accepted move can be moved back, and that leaves bytes as they were
  pub move-back : (x : List ℕ) → Bytes x → (p q : Plan) → Accepts o x (move p q)
      → Accepts o (effect o (move p q) x) (move q p) × (run o (move p q ∷ move q p ∷ []) x ≡ x)
  unfolding run differences
  move-back x h p q e = (back, effect-start o (move q p) y back ∙ ap (apply_all es (differences o q p)) (effect-start o (move p q) x e) ∙ restored)
    where
      es : List ObjectEntry
      es = o.entries

      y : List ℕ
      y = effect o (move p q) x

      lengths : length x ≡ length o.raw
      lengths = accepted-length o x (move p q) e

      inside : All (Inside x) es
      inside = inside-length es o.raw x (sym lengths) sound.inside

      restored : apply_all es (differences o q p) (apply_all es (differences o p q) x) ≡ x
      restored =
          apply_all-add es (differences o p q) (differences o q p) x inside sound.pairwise
          ∙ ap (λ (s : Shifts). apply_all es s x) (chains.differences-back (machine_of o) p q) ∙ apply_all-zero es x h inside

      ranged : range_check o (differences o q p) y ≡ Ok tt
      ranged =
          ap (range_check o (differences o q p)) (effect-start o (move p q) x e)
          ∙ range-sum (differences o p q) (differences o q p) x lengths (move-parts o (length x) x p q e).range
          ∙ ap (λ (s : Shifts). range_check o s x) (chains.differences-back (machine_of o) p q)
          ∙ (unfold range_check in range-zero es x es)

      all-accept : {a b c d f g h : Verdict} → a ≡ Ok tt → b ≡ Ok tt → c ≡ Ok tt → d ≡ Ok tt → f ≡ Ok tt → g ≡ Ok tt → h ≡ Ok tt
          → (a or_else b or_else c or_else d or_else f or_else g or_else h) ≡ Ok tt
      all-accept a b c d f g h = rw (a, b, c, d, f, g) h

      same-room : room_check o (length y) ≡ Ok tt
      same-room =
          ap (room_check o) (ap length (effect-start o (move p q) x e) ∙ apply_all-length es (differences o p q) x) ∙ (move-parts o (length x) x p q e).room

      back : Accepts o y (move q p)
      back = unfold call_check in
          (let a = move-parts o (length x) x p q e in
          all-accept a.file-accepted a.to-listed a.from-listed a.to-fits a.from-fits same-room ranged)

  -- "moving to the same plan changes nothing": on any bytes, whether it is accepted or refused
  pub move_same : (x : List ℕ) → Bytes x → (p q : Plan) → SamePlan o p q → effect o (move p q) x ≡ x
  move_same x h p q s = by-verdict (call_check o (length x) x (move p q)) refl
    where
      by-verdict : (v : Verdict) → call_check o (length x) x (move p q) ≡ v → effect o (move p q) x ≡ x
      by-verdict (Ok tt) e =
          effect-start o (move p q) x e ∙ ap (λ (d : Shifts). apply_all o.entries d x) (same-differences o p q s)
          ∙ apply_all-zero o.entries x h (inside-length o.entries o.raw x (sym (accepted-length o x (move p q) e)) sound.inside)
      by-verdict (Err r) e = refused-nothing o (move p q) x r e

  -- "No move changes a byte outside the fields"
  pub move-outside : (p q : Plan) (x : List ℕ) (k : ℕ) → All (λ e. (k < e.field.offset) ⊎ (e.field.offset + bytes_in e.field.kind ≤ k)) o.entries
      → get_or (effect o (move p q) x) k 0 ≡ get_or x k 0
  move-outside p q x k h = by-verdict (call_check o (length x) x (move p q)) refl
    where
      by-verdict : (v : Verdict) → call_check o (length x) x (move p q) ≡ v → get_or (effect o (move p q) x) k 0 ≡ get_or x k 0
      by-verdict (Ok tt) e =
          ap (λ (y : List ℕ). get_or y k 0) (effect-start o (move p q) x e) ∙ apply_all-outside k o.entries (differences o p q) x h
      by-verdict (Err r) e = ap (λ (y : List ℕ). get_or y k 0) (refused-nothing o (move p q) x r e)
