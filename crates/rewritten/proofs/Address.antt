-- The new addresses of an accepted plan. Assumes nothing.
use mathlib.Core.Path.{◌≡◌, refl, sym, ◌∙◌, ap}
use mathlib.Core.Bool.{true, false, not}
use Prim.Native.Nat.{ℕ, ◌+◌, ◌-◌, ◌≤◌, ◌<◌}
use native.Mathlib.Decide.{ℕ_discrete}
use native.Mathlib.Omega.{arith}
use lib.ListN.{length, get_or}
use lib.Dec.{ltb}
use lib.IntN.{ℤ, pos, ◌+ℤ◌, ◌-ℤ◌, +ℤ_comm, +ℤ_assoc, pos-+ℤ-pos, -ℤ-+ℤ_cancel}
use borrow.Author.Tests.{ltb-true, leb-true, not-false}
use Rattle.word.proofs.Test.{and_first, and_second}
use Rattle.update.specs.Update.{remainder}
use Rattle.update.proofs.Remainder.{remainder-lt, remainder-small}
use Rattle.refusal.specs.declared.Refusal.TheVariants as refusal
use Rattle.refusal.specs.declared.PlanItem.TheVariants.{TextAddress, DataAddress}
use Rattle.refusal.specs.Order.{refuse_if}
use Rattle.refusal.proofs.Order.{accepted-first, accepted-rest, accepted-test, first-all}
use Rattle.parts.specs.declared.Parts.{Parts}
use Rattle.module.specs.Module.{bss_below, image_length}
use Rattle.module.proofs.Extent.{bss-after, image-bss}
use Rattle.history.specs.declared.Followed.{Followed}
use Rattle.history.specs.declared.Followed.TheVariants as followed
use Rattle.history.specs.Plan.{Relocatable, Plan, limit_of, displacement_of, fits, list_check, address_check, import_check, fit_check, plan_check}
use Rattle.rebase.specs.Rebase.{new_address}
use Rattle.written.specs.Moved.{Fresh}
use Rattle.rewritten.proofs.Parts.{Moves}
use Rattle.std.specs.Prelude.{Ok}

-- an address moved with its section keeps its distance, where that stays below the limit
sum-exact : (a d q : ℕ) → pos (a + d) +ℤ (pos q -ℤ pos a) ≡ pos (q + d)
sum-exact a d q =
    ap (λ (z : ℤ). z +ℤ (pos q -ℤ pos a)) (sym (pos-+ℤ-pos a d) ∙ +ℤ_comm (pos a) (pos d))
    ∙ +ℤ_assoc (pos d) (pos a) (pos q -ℤ pos a)
    ∙ ap (λ (z : ℤ). pos d +ℤ z) (+ℤ_comm (pos a) (pos q -ℤ pos a) ∙ -ℤ-+ℤ_cancel (pos q) (pos a))
    ∙ +ℤ_comm (pos d) (pos q) ∙ pos-+ℤ-pos q d

moved-exact : (limit a b q : ℕ) → a ≤ b → q + (b - a) < limit → remainder (pos b +ℤ (pos q -ℤ pos a)) limit ≡ q + (b - a)
moved-exact limit a b q h l =
    let e : a + (b - a) ≡ b = omega arith in
    ap (λ (n : ℕ). remainder (pos n +ℤ (pos q -ℤ pos a)) limit) (sym e)
    ∙ ap (λ (z : ℤ). remainder z limit) (sum-exact a (b - a) q)
    ∙ remainder-small limit (omega arith) (q + (b - a)) l

-- what an accepted plan has
pub record PlanFits (m : Relocatable) (p : Plan) : Type 0 where
  pub text : p.text < limit_of m
  pub text-end : p.text + length m.raw.text ≤ limit_of m
  pub dat : p.dat < limit_of m
  pub data-end : p.dat + length m.raw.dat ≤ limit_of m
  pub imports : (k : ℕ) → k < length m.symbols → import_check m p.list k ≡ Ok tt

fits-known : (limit a size : ℕ) → fits limit a size ≡ true → (a < limit) × (a + size ≤ limit)
unfolding fits
fits-known limit a size e = (ltb-true a limit (and_first (ltb a limit) _ e), leb-true (a + size) limit (and_second (ltb a limit) _ e))

pub plan-fits : (m : Relocatable) (p : Plan) → plan_check m p ≡ Ok tt → PlanFits m p
unfolding plan_check fit_check
plan-fits m p e =
    let t = fits (limit_of m) p.text (length m.raw.text) in
    let d = fits (limit_of m) p.dat (length m.raw.dat) in
    let f = accepted-rest (list_check m p) _ (accepted-rest m.verdict _ e) in
    let r = accepted-rest (refuse_if (not t) (refusal.Plan TextAddress)) _ f in
    let tk = fits-known (limit_of m) p.text (length m.raw.text) (not-false t (accepted-test (not t) _ (accepted-first (refuse_if (not t) (refusal.Plan TextAddress)) _ f))) in
    let dk = fits-known (limit_of m) p.dat (length m.raw.dat) (not-false d (accepted-test (not d) _ (accepted-first (refuse_if (not d) (refusal.Plan DataAddress)) _ r))) in
    record {
      text = tk.0;
      text-end = tk.1;
      dat = dk.0;
      data-end = dk.1;
      imports = λ k b. first-all (import_check m p.list) (length m.symbols) 0 (accepted-rest (refuse_if (not d) (refusal.Plan DataAddress)) _ r) k (omega arith) (omega arith);
    }

module _ (m : Relocatable) (p : Plan) (k : PlanFits m p) where
  -- the section's own address is the plan's
  pub text-new : new_address m p followed.Text m.text_address ≡ p.text
  unfolding new_address displacement_of
  text-new =
      let t = k.text in
      moved-exact (limit_of m) m.text_address m.text_address p.text (omega arith) (omega arith) ∙ (let e : p.text + (m.text_address - m.text_address) ≡ p.text = omega arith in e)

  pub data-new : new_address m p followed.Data m.data_address ≡ p.dat
  unfolding new_address displacement_of
  data-new =
      let t = k.dat in
      moved-exact (limit_of m) m.data_address m.data_address p.dat (omega arith) (omega arith) ∙ (let e : p.dat + (m.data_address - m.data_address) ≡ p.dat = omega arith in e)

  text-near : (a : ℕ) → m.text_address ≤ a → p.text + (a - m.text_address) < limit_of m → new_address m p followed.Text a ≡ p.text + (a - m.text_address)
  unfolding new_address displacement_of
  text-near a h l = moved-exact (limit_of m) m.text_address a p.text h l

  data-near : (a : ℕ) → m.data_address ≤ a → p.dat + (a - m.data_address) < limit_of m → new_address m p followed.Data a ≡ p.dat + (a - m.data_address)
  unfolding new_address displacement_of
  data-near a h l = moved-exact (limit_of m) m.data_address a p.dat h l

  data-small : (a : ℕ) → new_address m p followed.Data a < limit_of m
  unfolding new_address
  data-small a = let t = k.dat in remainder-lt (limit_of m) (omega arith) (pos a +ℤ displacement_of m p followed.Data)

  text-small : (a : ℕ) → new_address m p followed.Text a < limit_of m
  unfolding new_address
  text-small a = let t = k.text in remainder-lt (limit_of m) (omega arith) (pos a +ℤ displacement_of m p followed.Text)

  -- new addresses fit their fields
  pub fresh : (i : ℕ) (f : Followed) → address_check (limit_of m) p.list i f ≡ Ok tt → Fresh (new_address m p) (limit_of m) f
  unfolding new_address address_check
  fresh i followed.Text e = text-small
  fresh i followed.Data e = data-small
  fresh i (followed.Import j v) e = λ x. ltb-true (get_or p.list j 0) (limit_of m) (not-false (ltb (get_or p.list j 0) (limit_of m)) (accepted-test (not (ltb (get_or p.list j 0) (limit_of m))) _ e))
  fresh i followed.Nothing e = λ x. refl

  pub still : (x : ℕ) → new_address m p followed.Nothing x ≡ x
  unfolding new_address
  still x = refl

  pub import-new : (j v x : ℕ) → new_address m p (followed.Import j v) x ≡ get_or p.list j 0
  unfolding new_address
  import-new j v x = refl

  -- the sections of a module keep in one piece
  pub moves : (q : Parts) → m.text_address ≡ q.text.address.0 → m.data_address ≡ q.«data».address.0 → length m.raw.text ≡ q.text.size → length m.raw.dat ≡ image_length q
      → bss_below q ≡ false → Moves (new_address m p) (limit_of m) q
  moves q ta da tl dl below =
      let te = k.text-end in
      let de = k.data-end in
      let tn : new_address m p followed.Text q.text.address.0 ≡ p.text = ap (new_address m p followed.Text) (sym ta) ∙ text-new in
      let dn : new_address m p followed.Data q.«data».address.0 ≡ p.dat = ap (new_address m p followed.Data) (sym da) ∙ data-new in
      record {
        text-end = omega arith;
        data-end = omega arith;
        bss-end = by_size (ℕ_discrete q.bss.size 0);
        text_in = λ a h l. let s = text-near a (omega arith) (omega arith) in omega arith;
        data-in = λ a h l. let s = data-near a (omega arith) (omega arith) in omega arith;
      }
    where
      by_size : Dec (q.bss.size ≡ 0) → new_address m p followed.Data q.bss.address.0 + q.bss.size ≤ limit_of m
      by_size (yes z) = let s = data-small q.bss.address.0 in omega arith
      by_size (no n) =
          let de = k.data-end in
          let a = bss-after q below n in
          let i = image-bss q n in
          let s = data-near q.bss.address.0 (omega arith) (omega arith) in
          omega arith
