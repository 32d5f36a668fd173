-- What a script answers and leaves: the laws of the loop over its calls.
use mathlib.Core.Path.{◌≡◌, refl, sym, ◌∙◌, ap}
use mathlib.Core.List.{List, [], ◌∷◌}
use Prim.Native.Nat.{ℕ, ◌+◌, ◌≤◌}
use native.Mathlib.Omega.{arith}
use lib.ListN.{length}
use Rattle.book.specs.Machine.{Call, Machine, effect, run}
use Rattle.script.specs.Script.{Reader, call_end, call_at, calls_from, calls_of}
use Rattle.script.specs.Tally.{answers_of, sum_of, last_of, accepted_one}
use Rattle.script.proofs.Calls.{Forward, call-longer, calls-none, calls-on}
use Rattle.std.specs.Prelude.{Result, Ok, Err}

-- at most 1 is counted of a call
pub accepted-one : {A E : Type 0} (a : Result A E) → accepted_one a ≤ 1
unfolding accepted_one
accepted-one (Ok r) = omega arith
accepted-one (Err x) = omega arith

-- the counts stay within the numbers of the script that were read
pub counted-bounds : {A E : Type 0} (end : List ℕ → ℕ → ℕ) → Forward end → (s : List ℕ) (at e calls accepted n : ℕ) (a : Result A E) → e ≡ call_end end s at → (e ≡ 0 → ⊥)
    → n ≡ accepted_one a → (accepted ≤ calls) × (calls ≤ at) → (accepted + n ≤ calls + 1) × (calls + 1 ≤ e)
counted-bounds end f s at e calls accepted n a p nz c v =
    let o = accepted-one a in
    let l = call-longer end f s at (λ z. nz (p ∙ z)) in
    (omega arith, omega arith)

-- no more calls are accepted than run
pub accepted-among : {X L P A E : Type 0} (m : Machine X L P) (ask : X → Call P → Result A E) (cs : List (Call P)) (x : X)
    → sum_of accepted_one (answers_of m ask cs x) ≤ length cs
unfolding answers_of sum_of
accepted-among m ask [] x = omega arith
accepted-among m ask (c ∷ cs) x =
    let h = accepted-among m ask cs (effect m c x) in
    let one = accepted-one (ask x c) in
    omega arith

module _ {X L P A : Type 0} (m : Machine X L P) (ask : X → Call P → A) (one : A → ℕ) (blank : A) (r : Reader P) (s : List ℕ) where
  -- the calls from a place on answer after those that were counted, and leave of x, what the whole script answers and leaves of y
  pub record Left (at calls accepted : ℕ) (last : A) (x y : X) : Type 0 where
    pub number : calls + length (calls_from r (length s) s at) ≡ length (calls_of r s)
    pub counted : accepted + sum_of one (answers_of m ask (calls_from r (length s) s at) x) ≡ sum_of one (answers_of m ask (calls_of r s) y)
    pub answer : last_of last (answers_of m ask (calls_from r (length s) s at) x) ≡ last_of blank (answers_of m ask (calls_of r s) y)
    pub leaves : run m (calls_from r (length s) s at) x ≡ run m (calls_of r s) y

  -- from the first call on it is the whole script
  pub left-first : (y : X) → Left 0 0 0 blank y y
  unfolding calls_of
  left-first y = record { number = omega arith; counted = omega arith; answer = refl; leaves = refl }

  -- where no call is, nothing is left
  pub record Whole (calls accepted : ℕ) (last : A) (x y : X) : Type 0 where
    pub number : calls ≡ length (calls_of r s)
    pub counted : accepted ≡ sum_of one (answers_of m ask (calls_of r s) y)
    pub answer : last ≡ last_of blank (answers_of m ask (calls_of r s) y)
    pub leaves : x ≡ run m (calls_of r s) y

  pub left-none : (at calls accepted : ℕ) (last : A) (x y : X) → call_end r.end s at ≡ 0 → Left at calls accepted last x y → Whole calls accepted last x y
  unfolding answers_of sum_of last_of run
  left-none at calls accepted last x y e l =
      let n = calls-none r s (length s) at e in
      record {
        number = (let z : calls ≡ calls + 0 = omega arith in z ∙ ap (λ (cs : List (Call P)). calls + length cs) (sym n) ∙ l.number);
        counted = (let z : accepted ≡ accepted + 0 = omega arith in z ∙ ap (λ (cs : List (Call P)). accepted + sum_of one (answers_of m ask cs x)) (sym n) ∙ l.counted);
        answer = ap (λ (cs : List (Call P)). last_of last (answers_of m ask cs x)) (sym n) ∙ l.answer;
        leaves = ap (λ (cs : List (Call P)). run m cs x) (sym n) ∙ l.leaves;
      }

  -- one call is made, and counted; those from its end are left
  pub left-next : Forward r.end → (at e calls accepted n : ℕ) (last a : A) (x z y : X) → e ≡ call_end r.end s at → (e ≡ 0 → ⊥)
      → a ≡ ask x (call_at r s at) → z ≡ effect m (call_at r s at) x → n ≡ one a → Left at calls accepted last x y → Left e (calls + 1) (accepted + n) a z y
  unfolding answers_of sum_of last_of run
  left-next f at e calls accepted n last a x z y p nz q w h l =
      let on = calls-on r f s at (λ k. nz (p ∙ k)) in
      let rest = calls_from r (length s) s (call_end r.end s at) in
      rw (p, h, q, w)
      (record {
        number =
            (let t : calls + 1 + length rest ≡ calls + length (call_at r s at ∷ rest) = omega arith in t ∙ ap (λ (cs : List (Call P)). calls + length cs) (sym on) ∙ l.number);
        counted =
            (let b : ℕ = sum_of one (answers_of m ask rest (effect m (call_at r s at) x)) in
            let t : accepted + one (ask x (call_at r s at)) + b ≡ accepted + (one (ask x (call_at r s at)) + b) = omega arith in
            t ∙ ap (λ (cs : List (Call P)). accepted + sum_of one (answers_of m ask cs x)) (sym on) ∙ l.counted);
        answer = ap (λ (cs : List (Call P)). last_of last (answers_of m ask cs x)) (sym on) ∙ l.answer;
        leaves = ap (λ (cs : List (Call P)). run m cs x) (sym on) ∙ l.leaves;
      })
