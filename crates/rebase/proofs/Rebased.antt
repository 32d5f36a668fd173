-- A module written for a plan builds and moves as the first one does. Assumes nothing.
use mathlib.Core.Path.{◌≡◌, refl, sym, ◌∙◌, ap, ap₂, fun_ext}
use mathlib.Core.Bool.{Bool, true, false}
use mathlib.Core.List.{List, [], ◌∷◌}
use Prim.Native.Nat.{ℕ, zero, suc, ◌+◌, ◌<◌}
use lib.Dec.{lit<}
use lib.ListN.{length, get_or, length-map, get_or-map}
use lib.IntN.{ℤ, pos, neg_ℤ, ◌+ℤ◌, ◌-ℤ◌, +ℤ_comm, +ℤ_assoc, neg_ℤ-neg_ℤ, neg_ℤ-+ℤ, -ℤ-+ℤ_cancel}
use Rattle.format.specs.declared.Format.{Format}
use Rattle.format.specs.declared.Format.TheVariants.{Xcoff32, Xcoff64}
use Rattle.format.specs.Layout.{address_limit}
use Rattle.update.specs.Update.{remainder}
use Rattle.update.proofs.Remainder.{remainder-add}
use Rattle.history.specs.declared.Followed.{Followed}
use Rattle.history.specs.declared.Followed.TheVariants as followed
use Rattle.history.specs.Images.{Images, Shifts, apply_all, length_of}
use Rattle.history.specs.Plan.{Relocatable, Plan, Anchored, limit_of, Sound, followed_by, displacement_of, displacements, differences, built_images, moved_address, reached_by, list_check, address_check, import_check, fit_check, plan_check}
use Rattle.history.specs.Plan.Anchored.{none, in_text, in_data}
use Rattle.history.specs.Call.{Call, build, move, plan_reached, room_check, call_check, accepted, effect, answer_of, run}
use Rattle.book.specs.Machine as machine
use Rattle.history.proofs.Apply.{apply_all-add, apply_all-lengths, length-in}
use Rattle.rebase.specs.Rebase.{new_address, rebased_symbol, rebased_anchor, rebased}
use Rattle.std.specs.Prelude.{Some}

limit-positive : (f : Format) → 0 < address_limit f
limit-positive Xcoff32 = lit< tt
limit-positive Xcoff64 = lit< tt

-- ---- displacements

-- a difference does not depend on what both are measured from
from-common : (a b c : ℤ) → a -ℤ b ≡ (a -ℤ c) -ℤ (b -ℤ c)
from-common a b c =
    sym (ap (λ (z : ℤ). z -ℤ b) (-ℤ-+ℤ_cancel a c))
    ∙ +ℤ_assoc (a -ℤ c) c (neg_ℤ b)
    ∙ ap (λ (z : ℤ). (a -ℤ c) +ℤ z) (+ℤ_comm c (neg_ℤ b) ∙ ap (λ (z : ℤ). neg_ℤ b +ℤ z) (sym (neg_ℤ-neg_ℤ c)) ∙ sym (neg_ℤ-+ℤ b (neg_ℤ c)))

module _ (m : Relocatable) (p : Plan) where
  -- what a symbol follows stays, with the plan's value
  followed-rebased : (i : ℕ) → followed_by (rebased m p) i ≡ rebased_symbol p (followed_by m i)
  unfolding followed_by rebased
  followed-rebased zero = refl
  followed-rebased (suc zero) = refl
  followed-rebased (suc (suc zero)) = refl
  followed-rebased (suc (suc (suc k))) = get_or-map (rebased_symbol p) m.symbols k followed.Nothing

  -- a displacement is that from the plan
  displacement-rebased : (q : Plan) (f : Followed) → displacement_of (rebased m p) q (rebased_symbol p f) ≡ displacement_of m q f -ℤ displacement_of m p f
  unfolding displacement_of rebased
  displacement-rebased q followed.Text = from-common (pos q.text) (pos p.text) (pos m.text_address)
  displacement-rebased q followed.Data = from-common (pos q.dat) (pos p.dat) (pos m.data_address)
  displacement-rebased q (followed.Import k v) = from-common (pos (get_or q.list k 0)) (pos (get_or p.list k 0)) (pos v)
  displacement-rebased q followed.Nothing = refl

  -- the displacements are the differences from the plan
  pub displacements-rebased : (q : Plan) → displacements (rebased m p) q ≡ differences m p q
  unfolding displacements differences
  displacements-rebased q =
      fun_ext (λ i. ap (displacement_of (rebased m p) q) (followed-rebased i) ∙ displacement-rebased q (followed_by m i))

  -- so differences between two plans stay
  pub differences-rebased : (q r : Plan) → differences (rebased m p) q r ≡ differences m q r
  unfolding differences
  differences-rebased q r =
      fun_ext (λ i. ap₂ (λ (s t : Shifts). s i -ℤ t i) (displacements-rebased r) (displacements-rebased q)
      ∙ unfold differences in sym (from-common (displacements m r i) (displacements m q i) (displacements m p i)))

  -- a plan's displacements and the differences from it to another are the other's
  reach : (q : Plan) → (λ i. displacements m p i +ℤ differences m p q i) ≡ displacements m q
  unfolding differences
  reach q =
      fun_ext (λ i. +ℤ_comm (displacements m p i) (displacements m q i -ℤ displacements m p i) ∙ -ℤ-+ℤ_cancel (displacements m q i) (displacements m p i))

  -- building it for any plan gives what the first module gives
  pub built-rebased : Sound m → (q : Plan) → built_images (rebased m p) q ≡ built_images m q
  unfolding built_images rebased
  built-rebased sound q =
      ap (λ (s : Shifts). apply_all m.entries s (apply_all m.entries (displacements m p) m.raw)) (displacements-rebased q)
      ∙ apply_all-add m.entries (displacements m p) (differences m p q) m.raw sound.inside sound.pairwise
      ∙ ap (λ (s : Shifts). apply_all m.entries s m.raw) (reach q)

  -- ---- it accepts the same plans and buffers

  raw-length : (u : Bool) → length_of u (rebased m p).raw ≡ length_of u m.raw
  unfolding rebased built_images
  raw-length u = length-in u (apply_all m.entries (displacements m p) m.raw) m.raw (apply_all-lengths m.entries (displacements m p) m.raw)

  symbols-length : length (rebased m p).symbols ≡ length m.symbols
  unfolding rebased
  symbols-length = length-map m.symbols (rebased_symbol p)

  address-rebased : (limit : ℕ) (list : List ℕ) (i : ℕ) (f : Followed) → address_check limit list i (rebased_symbol p f) ≡ address_check limit list i f
  unfolding address_check
  address-rebased limit list i followed.Text = refl
  address-rebased limit list i followed.Data = refl
  address-rebased limit list i (followed.Import k v) = refl
  address-rebased limit list i followed.Nothing = refl

  import-rebased : (list : List ℕ) (k : ℕ) → import_check (rebased m p) list k ≡ import_check m list k
  unfolding import_check rebased
  import-rebased list k =
      ap (address_check (limit_of m) list (k + 3)) (get_or-map (rebased_symbol p) m.symbols k followed.Nothing)
      ∙ address-rebased (limit_of m) list (k + 3) (get_or m.symbols k followed.Nothing)

  list-rebased : (q : Plan) → list_check (rebased m p) q ≡ list_check m q
  unfolding list_check
  list-rebased q = rw symbols-length refl

  fit-rebased : (q : Plan) → fit_check (rebased m p) q ≡ fit_check m q
  unfolding fit_check
  fit-rebased q = rw (raw-length true, raw-length false, symbols-length, fun_ext (import-rebased q.list), limit-rebased) refl
    where
      limit-rebased : limit_of (rebased m p) ≡ limit_of m
      limit-rebased = unfold rebased in refl

  verdict-rebased : (rebased m p).verdict ≡ m.verdict
  unfolding rebased
  verdict-rebased = refl

  -- it accepts the plans that the first module accepts
  pub plan-rebased : (q : Plan) → plan_check (rebased m p) q ≡ plan_check m q
  unfolding plan_check
  plan-rebased q = rw (list-rebased q, fit-rebased q, verdict-rebased) refl

  -- and the calls, on buffers of any lengths
  pub call-rebased : (tl dl : ℕ) (c : Call) → call_check (rebased m p) tl dl c ≡ call_check m tl dl c
  unfolding call_check room_check
  call-rebased tl dl (build q) = rw (plan-rebased q, raw-length true, raw-length false) refl
  call-rebased tl dl (move q r) = rw (list-rebased q, list-rebased r, fit-rebased q, fit-rebased r, raw-length true, raw-length false, verdict-rebased) refl

  -- ---- what calls leave and answer

  accepted-rebased : Sound m → (c : Call) (x : Images) → accepted (rebased m p) c x ≡ accepted m c x
  unfolding accepted rebased differences
  accepted-rebased sound (build q) x = unfold built_images in built-rebased sound q
  accepted-rebased sound (move q r) x = ap (λ (s : Shifts). apply_all m.entries s x) (unfold differences in differences-rebased q r)

  -- a call leaves what the first module's leaves
  pub effect-rebased : Sound m → (c : Call) (x : Images) → effect (rebased m p) c x ≡ effect m c x
  unfolding effect
  effect-rebased sound c x = rw (call-rebased (length x.text) (length x.dat) c, accepted-rebased sound c x) refl

  -- so does every list of calls
  pub run-rebased : Sound m → (cs : List Call) (x : Images) → run (rebased m p) cs x ≡ run m cs x
  unfolding run machine.run
  run-rebased sound [] x = refl
  run-rebased sound (c ∷ cs) x = ap (run (rebased m p) cs) (effect-rebased sound c x) ∙ run-rebased sound cs (effect m c x)

  -- ---- addresses

  -- a sum that dropped at the limit, with the displacement from the plan to another
  again : (q : Plan) (f : Followed) (a : ℕ)
      → remainder (pos (remainder (pos a +ℤ displacement_of m p f) (limit_of m)) +ℤ displacement_of (rebased m p) q (rebased_symbol p f)) (limit_of m)
      ≡ remainder (pos a +ℤ displacement_of m q f) (limit_of m)
  again q f a =
      let dp : ℤ = displacement_of m p f in
      let dq : ℤ = displacement_of m q f in
      remainder-add (limit_of m) (limit-positive m.format) (pos a +ℤ dp) (displacement_of (rebased m p) q (rebased_symbol p f))
      ∙ ap (λ (z : ℤ). remainder z (limit_of m))
      (ap (λ (z : ℤ). (pos a +ℤ dp) +ℤ z) (displacement-rebased q f) ∙ +ℤ_assoc (pos a) dp (dq -ℤ dp) ∙ ap (λ (z : ℤ). pos a +ℤ z) (+ℤ_comm dp (dq -ℤ dp) ∙ -ℤ-+ℤ_cancel dq dp))

  -- an address moved to p and then to q is moved to q
  pub address-again : (q : Plan) (f : Followed) (a : ℕ) → new_address (rebased m p) q (rebased_symbol p f) (new_address m p f a) ≡ new_address m q f a
  unfolding new_address rebased
  address-again q followed.Text a = again q followed.Text a
  address-again q followed.Data a = again q followed.Data a
  address-again q (followed.Import k v) a = refl
  address-again q followed.Nothing a = refl

  anchor-again : (q : Plan) (a : Anchored) → moved_address (rebased m p) q (rebased_anchor m p a) ≡ moved_address m q a
  unfolding moved_address rebased_anchor rebased new_address
  anchor-again q none = refl
  anchor-again q (in_text a) = ap (λ (n : ℕ). Some (record { 0 = n })) (again q followed.Text a)
  anchor-again q (in_data a) = ap (λ (n : ℕ). Some (record { 0 = n })) (again q followed.Data a)

  reached-rebased : (q : Plan) → reached_by (rebased m p) q ≡ reached_by m q
  unfolding reached_by rebased
  reached-rebased q = rw (anchor-again q m.entry, anchor-again q m.toc) refl

  -- a call answers what the first module's answers
  pub answer-rebased : (tl dl : ℕ) (c : Call) → answer_of (rebased m p) tl dl c ≡ answer_of m tl dl c
  unfolding answer_of
  answer-rebased tl dl c = rw (call-rebased tl dl c, reached-rebased (plan_reached c)) refl
