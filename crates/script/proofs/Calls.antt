-- The calls of a script one by one; its length is enough fuel for all of them.
use mathlib.Core.Path.{◌≡◌, refl, sym, ◌∙◌, ap}
use mathlib.Core.List.{List, [], ◌∷◌}
use Prim.Native.Nat.{ℕ, zero, suc, ◌+◌, ◌-◌, ◌≤◌, ◌<◌}
use native.Mathlib.Decide.{dec_lt, ℕ_discrete}
use native.Mathlib.Omega.{arith}
use lib.ListN.{length, get_or}
use borrow.Author.Tests.{eq-eqb, ne_eqb, lt-ltb, le-ltb}
use Rattle.book.specs.Machine.{Call}
use Rattle.book.specs.Machine.Call.{build, move}
use Rattle.script.specs.Script.{Reader, call_end, call_at, calls_from, calls_of}

-- a plan that has an end ends after its start
abbrev pub Forward : (List ℕ → ℕ → ℕ) → Type 0
Forward end = (s : List ℕ) (at : ℕ) → (end s at ≡ 0 → ⊥) → at < end s at

-- ---- where a call ends, from the numbers of the script

module _ (end : List ℕ → ℕ → ℕ) (s : List ℕ) (at : ℕ) where
  -- no number is left
  pub call_none : length s ≤ at → 0 ≡ call_end end s at
  unfolding call_end
  call_none h = rw (le-ltb at (length s) h) refl

  -- a build ends with its plan
  pub call-build : at < length s → get_or s at 0 ≡ 0 → end s (at + 1) ≡ call_end end s at
  unfolding call_end
  call-build h e = rw (lt-ltb at (length s) h, eq-eqb (get_or s at 0) 0 e) refl

  -- a move whose from plan is cut short
  pub call-cut : at < length s → (get_or s at 0 ≡ 0 → ⊥) → end s (at + 1) ≡ 0 → 0 ≡ call_end end s at
  unfolding call_end
  call-cut h e z = rw (lt-ltb at (length s) h, ne_eqb (get_or s at 0) 0 e, eq-eqb (end s (at + 1)) 0 z) refl

  -- a move ends with its to plan
  pub call-move : (a b : ℕ) → at < length s → (get_or s at 0 ≡ 0 → ⊥) → a ≡ end s (at + 1) → (a ≡ 0 → ⊥) → b ≡ end s a → b ≡ call_end end s at
  unfolding call_end
  call-move a b h e p nz q = q ∙ rw (lt-ltb at (length s) h, ne_eqb (get_or s at 0) 0 e, ← p, ne_eqb a 0 nz) refl

  -- ---- a call that has an end

  module _ (nz : call_end end s at ≡ 0 → ⊥) where
    -- its first number is in the script
    pub call-inside : at < length s
    call-inside = by (dec_lt at (length s))
      where
        by : Dec (at < length s) → at < length s
        by (yes a) = a
        by (no b) = absurd (nz (sym (call_none (omega arith))))

    -- the plan of a build has an end
    pub build-there : get_or s at 0 ≡ 0 → end s (at + 1) ≡ 0 → ⊥
    build-there e h = nz (sym (call-build call-inside e) ∙ h)

    -- both plans of a move have one
    pub move-there : (get_or s at 0 ≡ 0 → ⊥) → (end s (at + 1) ≡ 0 → ⊥) × (end s (end s (at + 1)) ≡ 0 → ⊥)
    move-there e =
        let from : end s (at + 1) ≡ 0 → ⊥ = λ h. nz (sym (call-cut call-inside e h)) in
        (from, λ h. nz (sym (call-move _ _ call-inside e refl from refl) ∙ h))

module _ (end : List ℕ → ℕ → ℕ) (forward : Forward end) (s : List ℕ) where
  -- a call ends after its start
  pub call-longer : (at : ℕ) → (call_end end s at ≡ 0 → ⊥) → at < call_end end s at
  call-longer at nz = by (ℕ_discrete (get_or s at 0) 0)
    where
      by : Dec (get_or s at 0 ≡ 0) → at < call_end end s at
      by (yes e) =
          let h = forward s (at + 1) (build-there end s at nz e) in
          let k = call-build end s at (call-inside end s at nz) e in
          omega arith
      by (no e) =
          let there = move-there end s at nz e in
          let h = forward s (at + 1) there.0 in
          let g = forward s (end s (at + 1)) there.1 in
          let k = call-move end s at _ _ (call-inside end s at nz) e refl there.0 refl in
          omega arith

-- ---- one call

module _ {P : Type 0} (r : Reader P) (s : List ℕ) (at : ℕ) where
  -- 0 begins a build
  pub call_at-build : get_or s at 0 ≡ 0 → build (r.plan s (at + 1)) ≡ call_at r s at
  unfolding call_at
  call_at-build e = rw (eq-eqb (get_or s at 0) 0 e) refl

  -- any other number begins a move
  pub call_at-move : (get_or s at 0 ≡ 0 → ⊥) → move (r.plan s (at + 1)) (r.plan s (r.end s (at + 1))) ≡ call_at r s at
  unfolding call_at
  call_at-move e = rw (ne_eqb (get_or s at 0) 0 e) refl

module _ {P : Type 0} (r : Reader P) (s : List ℕ) where
  -- where no call is, there are none, whatever the fuel
  pub calls-none : (n at : ℕ) → call_end r.end s at ≡ 0 → calls_from r n s at ≡ []
  unfolding calls_from
  calls-none zero at e = refl
  calls-none (suc n) at e = rw (eq-eqb (call_end r.end s at) 0 e) refl

  -- where one is, it comes first
  pub calls-more : (n at : ℕ) → (call_end r.end s at ≡ 0 → ⊥) → calls_from r (suc n) s at ≡ call_at r s at ∷ calls_from r n s (call_end r.end s at)
  unfolding calls_from
  calls-more n at nz = rw (ne_eqb (call_end r.end s at) 0 nz) refl

-- ---- fuel

module _ {P : Type 0} (r : Reader P) (forward : Forward r.end) (s : List ℕ) where
  -- two amounts of fuel, both no less than the numbers left, give the same calls
  calls_same : (n k at : ℕ) → length s ≤ n + at → length s ≤ k + at → calls_from r n s at ≡ calls_from r k s at
  calls_same zero k at h g =
      let e = sym (call_none r.end s at (omega arith)) in
      calls-none r s zero at e ∙ sym (calls-none r s k at e)
  calls_same (suc n) zero at h g =
      let e = sym (call_none r.end s at (omega arith)) in
      calls-none r s (suc n) at e ∙ sym (calls-none r s zero at e)
  calls_same (suc n) (suc k) at h g = by (ℕ_discrete (call_end r.end s at) 0) (calls_same n k (call_end r.end s at))
    where
      by : Dec (call_end r.end s at ≡ 0) → (length s ≤ n + call_end r.end s at → length s ≤ k + call_end r.end s at → calls_from r n s (call_end r.end s at) ≡ calls_from r k s (call_end r.end s at))
          → calls_from r (suc n) s at ≡ calls_from r (suc k) s at
      by (yes e) rest = calls-none r s (suc n) at e ∙ sym (calls-none r s (suc k) at e)
      by (no e) rest =
          let l = call-longer r.end forward s at e in
          calls-more r s n at e ∙ ap (λ (cs : List (Call P)). call_at r s at ∷ cs) (rest (omega arith) (omega arith)) ∙ sym (calls-more r s k at e)

  -- the calls from a place where one is: it, and those from its end
  pub calls-on : (at : ℕ) → (call_end r.end s at ≡ 0 → ⊥) → calls_from r (length s) s at ≡ call_at r s at ∷ calls_from r (length s) s (call_end r.end s at)
  calls-on at nz =
      let i = call-inside r.end s at nz in
      let l = call-longer r.end forward s at nz in
      let n : length s ≡ suc (length s - 1) = omega arith in
      ap (λ (k : ℕ). calls_from r k s at) n ∙ calls-more r s (length s - 1) at nz
      ∙ ap (λ (cs : List (Call P)). call_at r s at ∷ cs) (calls_same (length s - 1) (length s) (call_end r.end s at) (omega arith) (omega arith))

  -- more fuel gives no other calls: the calls of a script are all that stand in it
  pub calls-enough : (n : ℕ) → length s ≤ n → calls_from r n s 0 ≡ calls_of r s
  unfolding calls_of
  calls-enough n h = calls_same n (length s) 0 (omega arith) (omega arith)
