-- Where plans end and what their lists are, from the numbers of the script, however many stand before a plan's count.
use mathlib.Core.Path.{◌≡◌, refl, sym, ◌∙◌, ap}
use mathlib.Core.List.{List}
use Prim.Native.Nat.{ℕ, ◌+◌, ◌-◌, ◌≤◌, ◌<◌}
use native.Mathlib.Decide.{dec_le}
use native.Mathlib.Omega.{arith}
use lib.ListN.{length, get_or, take, drop}
use borrow.Author.Tests.{le-leb, lt-leb}
use Rattle.script.specs.Script.{plan_end, plan_list}
use Rattle.script.proofs.Calls.{Forward}

module _ (head : ℕ) (s : List ℕ) (at : ℕ) where
  -- its count is not in the script
  pub plan-short : length s ≤ at + head → 0 ≡ plan_end head s at
  unfolding plan_end
  plan-short h = rw (lt-leb (at + (head + 1)) (length s) (omega arith)) refl

  -- fewer numbers are left than its list has
  pub plan-over : at + head < length s → length s - (at + head + 1) < get_or s (at + head) 0 → 0 ≡ plan_end head s at
  unfolding plan_end
  plan-over h o = rw (le-leb (at + (head + 1)) (length s) (omega arith), lt-leb (get_or s (at + head) 0) (length s - (at + (head + 1))) (omega arith)) refl

  -- all of it is there
  pub plan-whole : at + head < length s → get_or s (at + head) 0 ≤ length s - (at + head + 1) → at + head + 1 + get_or s (at + head) 0 ≡ plan_end head s at
  unfolding plan_end
  plan-whole h o =
      rw (le-leb (at + (head + 1)) (length s) (omega arith), le-leb (get_or s (at + head) 0) (length s - (at + (head + 1))) (omega arith)) (omega arith)

  -- a plan that has an end lies in the script, and ends after its list
  pub record Fits : Type 0 where
    pub count : at + head < length s
    pub list : get_or s (at + head) 0 ≤ length s - (at + head + 1)
    pub end : plan_end head s at ≡ at + head + 1 + get_or s (at + head) 0

  pub plan-fits : (plan_end head s at ≡ 0 → ⊥) → Fits
  plan-fits nz = by (dec_le (at + head + 1) (length s)) (dec_le (get_or s (at + head) 0) (length s - (at + head + 1)))
    where
      by : Dec (at + head + 1 ≤ length s) → Dec (get_or s (at + head) 0 ≤ length s - (at + head + 1)) → Fits
      by (yes a) (yes b) = record { count = omega arith; list = b; end = sym (plan-whole (omega arith) b) }
      by (yes a) (no b) = absurd (nz (sym (plan-over (omega arith) (omega arith))))
      by (no a) b = absurd (nz (sym (plan-short (omega arith))))

  module _ (end : ℕ) (e : end ≡ plan_end head s at) (nz : plan_end head s at ≡ 0 → ⊥) where
    -- its list is in the script, up to its end
    pub plan-inside : (at + head + 1 ≤ end) × (end ≤ length s)
    plan-inside =
        let f = plan-fits nz in
        (omega arith, omega arith)

    -- the numbers after its count, up to its end, are its list
    pub list_read : take (end - (at + (head + 1))) (drop (at + (head + 1)) s) ≡ plan_list head s at
    unfolding plan_list
    list_read =
        let f = plan-fits nz in
        let n : end - (at + (head + 1)) ≡ get_or s (at + head) 0 = omega arith in
        ap (λ (k : ℕ). take k (drop (at + (head + 1)) s)) n

  -- the plan after it has an end, by the place where it begins
  pub next-there : (next : ℕ) → next ≡ plan_end head s at → (plan_end head s (plan_end head s at) ≡ 0 → ⊥) → plan_end head s next ≡ 0 → ⊥
  next-there next e nz h = nz (ap (plan_end head s) (sym e) ∙ h)

pub plans-forward : (head : ℕ) → Forward (plan_end head)
plans-forward head s at nz =
    let f = plan-fits head s at nz in
    omega arith
