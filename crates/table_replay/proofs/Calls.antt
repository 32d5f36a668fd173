-- The calls of a script one by one; its length is enough fuel for all of them. Assumes nothing.
use mathlib.Core.Path.{◌≡◌, refl, sym, ◌∙◌, ap}
use mathlib.Core.List.{List, [], ◌∷◌}
use Prim.Native.Nat.{ℕ, zero, suc, ◌+◌, ◌-◌, ◌≤◌}
use native.Mathlib.Decide.{ℕ_discrete}
use native.Mathlib.Omega.{arith}
use lib.Dec.{eqb}
use lib.ListN.{length}
use borrow.Author.Tests.{eq-eqb, ne_eqb}
use Rattle.address_book.specs.Call.{Places, Call}
use Rattle.address_book.proofs.Order.{cases}
use Rattle.address_table.specs.Run.{ByteNames}
use Rattle.table_replay.specs.Script.{call_end, call_at, calls_from, calls_of}
use Rattle.table_replay.proofs.Ends.{call_none, call-inside, call-longer}
use Rattle.table_replay.proofs.Made.{byte-call}

module _ (p : Places) (given : ℕ) (s : List ℕ) where
  -- where no call is, there are none, whatever the fuel
  pub calls-none : (n at : ℕ) → call_end s at ≡ 0 → calls_from p given n s at ≡ []
  unfolding calls_from
  calls-none zero at e = refl
  calls-none (suc n) at e = rw (eq-eqb (call_end s at) 0 e) refl

  -- where one is, it comes first
  pub calls-more : (n at : ℕ) → (call_end s at ≡ 0 → ⊥) → calls_from p given (suc n) s at ≡ call_at p given s at ∷ calls_from p given n s (call_end s at)
  unfolding calls_from
  calls-more n at nz = rw (ne_eqb (call_end s at) 0 nz) refl

  -- two amounts of fuel, both no less than the numbers left, give the same calls
  calls_same : (n k at : ℕ) → length s ≤ n + at → length s ≤ k + at → calls_from p given n s at ≡ calls_from p given k s at
  calls_same zero k at h g =
      let e = sym (call_none s at (omega arith)) in
      calls-none zero at e ∙ sym (calls-none k at e)
  calls_same (suc n) zero at h g =
      let e = sym (call_none s at (omega arith)) in
      calls-none (suc n) at e ∙ sym (calls-none zero at e)
  calls_same (suc n) (suc k) at h g = decide (ℕ_discrete (call_end s at) 0) (calls_same n k (call_end s at))
    where
      decide : Dec (call_end s at ≡ 0) → (length s ≤ n + call_end s at → length s ≤ k + call_end s at → calls_from p given n s (call_end s at) ≡ calls_from p given k s (call_end s at))
          → calls_from p given (suc n) s at ≡ calls_from p given (suc k) s at
      decide (yes e) rest = calls-none (suc n) at e ∙ sym (calls-none (suc k) at e)
      decide (no e) rest =
          let l = call-longer s at e in
          calls-more n at e ∙ ap (λ (cs : List Call). call_at p given s at ∷ cs) (rest (omega arith) (omega arith)) ∙ sym (calls-more k at e)

  -- the calls from a place where one is: it, and those from its end
  pub calls-on : (at : ℕ) → (call_end s at ≡ 0 → ⊥) → calls_from p given (length s) s at ≡ call_at p given s at ∷ calls_from p given (length s) s (call_end s at)
  calls-on at nz =
      let i = call-inside s at nz in
      let l = call-longer s at nz in
      let n : length s ≡ suc (length s - 1) = omega arith in
      ap (λ (k : ℕ). calls_from p given k s at) n ∙ calls-more (length s - 1) at nz
      ∙ ap (λ (cs : List Call). call_at p given s at ∷ cs) (calls_same (length s - 1) (length s) (call_end s at) (omega arith) (omega arith))

  -- more fuel gives no other calls: the calls of a script are all that stand in it
  pub calls-enough : (n : ℕ) → length s ≤ n → calls_from p given n s 0 ≡ calls_of p given s
  unfolding calls_of
  calls-enough n h = calls_same n (length s) 0 (omega arith) (omega arith)

  -- their names are bytes
  byte-calls : (n at : ℕ) → ByteNames (calls_from p given n s at)
  unfolding calls_from
  byte-calls zero at = tt
  byte-calls (suc n) at =
      cases (eqb (call_end s at) 0)
      (λ t. rw t tt)
      (λ t. rw t (byte-call p given s at, byte-calls n (call_end s at)))

  pub byte-script : ByteNames (calls_of p given s)
  unfolding calls_of
  byte-script = byte-calls (length s) 0
