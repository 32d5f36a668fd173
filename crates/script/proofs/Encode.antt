-- Every list of calls is the list of a script: the one that `encode` gives.
use mathlib.Core.Path.{◌≡◌, refl, sym, ◌∙◌, ap, ap₂}
use mathlib.Core.List.{List, [], ◌∷◌, ◌++◌, append_assoc}
use Prim.Native.Nat.{ℕ, zero, suc, ◌+◌, ◌-◌, ◌≤◌, ◌<◌}
use native.Mathlib.Omega.{arith}
use native.Mathlib.Nat.{add-zero}
use lib.ListN.{length, get_or, drop, length-append, length-drop}
use lib.Seq.{drop-drop, get_or-drop, drop-append_seam, take-append_seam}
use Rattle.book.specs.Machine.{Call}
use Rattle.book.specs.Machine.Call.{build, move}
use Rattle.script.specs.Script.{Reader, plan_end, plan_list, call_end, call_at, calls_from, calls_of, call_numbers, encode}
use Rattle.script.proofs.Plans.{plan-whole}
use Rattle.script.proofs.Calls.{call_none, call-build, call-move, call_at-build, call_at-move, calls-none, calls-more}

-- ---- a script by what it has from a place on

module _ (s : List ℕ) (at : ℕ) (xs : List ℕ) (e : drop at s ≡ xs) where
  -- its numbers
  pub from-get_d : (k : ℕ) → get_or s (at + k) 0 ≡ get_or xs k 0
  from-get_d k = sym (get_or-drop at s k 0) ∙ ap (λ (l : List ℕ). get_or l k 0) e

  -- the first of them
  pub from_first : get_or s at 0 ≡ get_or xs 0 0
  from_first = ap (λ (k : ℕ). get_or s k 0) (sym (add-zero at)) ∙ from-get_d 0

  -- what it has from a later place on
  pub from-drop : (k : ℕ) → drop (at + k) s ≡ drop k xs
  from-drop k = sym (drop-drop k at s) ∙ ap (drop k) e

  -- how many
  pub from-length : length s - at ≡ length xs
  from-length = sym (length-drop at s) ∙ ap length e

-- ---- numbers of plans that are read as the plans

pub record Reads {P : Type 0} (r : Reader P) (numbers : P → List ℕ) (s : List ℕ) (at : ℕ) (p : P) : Type 0 where
  pub end : r.end s at ≡ at + length (numbers p)
  pub plan : r.plan s at ≡ p

abbrev pub Readable : {P : Type 0} → Reader P → (P → List ℕ) → Type 0
Readable {P} r numbers = (s : List ℕ) (at : ℕ) (p : P) (rest : List ℕ) → drop at s ≡ numbers p ++ rest → Reads r numbers s at p

-- a plan is read from its numbers: those at its head, how many its list has, and those
pub plan-numbers-read : (s : List ℕ) (at : ℕ) (h l rest : List ℕ) → drop at s ≡ h ++ length l ∷ (l ++ rest)
    → (plan_end (length h) s at ≡ at + length (h ++ length l ∷ l)) × (plan_list (length h) s at ≡ l)
plan-numbers-read s at h l rest e = (ends, reads)
  where
    count : get_or s (at + length h) 0 ≡ length l
    count =
        from-get_d s at (h ++ length l ∷ (l ++ rest)) e (length h) ∙ ap (λ (k : ℕ). get_or (h ++ length l ∷ (l ++ rest)) k 0) (sym (add-zero (length h)))
        ∙ sym (get_or-drop (length h) (h ++ length l ∷ (l ++ rest)) 0 0) ∙ ap (λ (k : List ℕ). get_or k 0 0) (drop-append_seam h (length l ∷ (l ++ rest)))

    after : drop (at + (length h + 1)) s ≡ l ++ rest
    after =
        from-drop s at (h ++ length l ∷ (l ++ rest)) e (length h + 1) ∙ sym (drop-drop 1 (length h) (h ++ length l ∷ (l ++ rest)))
        ∙ ap (drop 1) (drop-append_seam h (length l ∷ (l ++ rest)))

    ends : plan_end (length h) s at ≡ at + length (h ++ length l ∷ l)
    ends =
        let k = from-length s at (h ++ length l ∷ (l ++ rest)) e in
        let a = length-append h (length l ∷ (l ++ rest)) in
        let b = length-append l rest in
        let d = length-append h (length l ∷ l) in
        let n = count in
        sym (plan-whole (length h) s at (omega arith) (omega arith)) ∙ (let t : at + length h + 1 + get_or s (at + length h) 0 ≡ at + length (h ++ length l ∷ l) = omega arith in t)

    reads : plan_list (length h) s at ≡ l
    reads = unfold plan_list in (rw (count, after) (take-append_seam l rest))

module _ {P : Type 0} (r : Reader P) (numbers : P → List ℕ) (readable : Readable r numbers) where
  -- the call c is at the place, and after it the numbers that follow
  record ReadCall (s : List ℕ) (at : ℕ) (c : Call P) (rest : List ℕ) : Type 0 where
    there : call_end r.end s at ≡ 0 → ⊥
    call : call_at r s at ≡ c
    after : drop (call_end r.end s at) s ≡ rest

  module _ (s : List ℕ) (at : ℕ) (rest : List ℕ) where
    -- the first number is in the script
    first-there : (k : ℕ) (xs : List ℕ) → drop at s ≡ k ∷ xs → at < length s
    first-there k xs e =
        let l = from-length s at (k ∷ xs) e in
        omega arith

    -- after a plan come the numbers that follow
    plan-rest : (at : ℕ) (p : P) (xs : List ℕ) → drop at s ≡ numbers p ++ xs → drop (r.end s at) s ≡ xs
    plan-rest at p xs e = ap (λ (k : ℕ). drop k s) (readable s at p xs e).end ∙ from-drop s at _ e (length (numbers p)) ∙ drop-append_seam (numbers p) xs

    -- a build
    build-read : (p : P) → drop at s ≡ 0 ∷ (numbers p ++ rest) → ReadCall s at (build p) rest
    build-read p e =
        let d = from-drop s at _ e 1 in
        let z = from_first s at _ e in
        let h = call-build r.end s at (first-there 0 _ e) z in
        let n = readable s (at + 1) p rest d in
        record {
          there = λ x. (let l = n.end in absurd (omega arith));
          call = sym (call_at-build r s at z) ∙ ap build n.plan;
          after = ap (λ (k : ℕ). drop k s) (sym h) ∙ plan-rest (at + 1) p rest d;
        }

    -- a move
    move_read : (p q : P) → drop at s ≡ 1 ∷ (numbers p ++ (numbers q ++ rest)) → ReadCall s at (move p q) rest
    move_read p q e =
        let d = from-drop s at _ e 1 in
        let z : get_or s at 0 ≡ 0 → ⊥ = (let o = from_first s at _ e in λ x. absurd (omega arith)) in
        let a = readable s (at + 1) p (numbers q ++ rest) d in
        let g = plan-rest (at + 1) p (numbers q ++ rest) d in
        let b = readable s (r.end s (at + 1)) q rest g in
        let h = call-move r.end s at _ _ (first-there 1 _ e) z refl (λ x. (let l = a.end in absurd (omega arith))) refl in
        record {
          there = λ x. (let l = b.end in let k = a.end in absurd (omega arith));
          call = sym (call_at-move r s at z) ∙ ap₂ (λ (u v : P). move u v) a.plan b.plan;
          after = ap (λ (k : ℕ). drop k s) (sym h) ∙ plan-rest (r.end s (at + 1)) q rest g;
        }

    -- any call
    call-read : (c : Call P) → drop at s ≡ call_numbers numbers c ++ rest → ReadCall s at c rest
    unfolding call_numbers
    call-read (build p) e = build-read p e
    call-read (move p q) e = move_read p q (e ∙ ap (λ (l : List ℕ). 1 ∷ l) (append_assoc (numbers p) (numbers q) rest))

  -- from where a list's numbers begin and are all that is left, its calls are read
  encoded-from : (cs : List (Call P)) (n : ℕ) (s : List ℕ) (at : ℕ) → length cs ≤ n → drop at s ≡ encode numbers cs → calls_from r n s at ≡ cs
  unfolding encode
  encoded-from [] n s at h e =
      let l = from-length s at [] e in
      calls-none r s n at (sym (call_none r.end s at (omega arith)))
  encoded-from (c ∷ cs) zero s at h e = absurd (omega arith)
  encoded-from (c ∷ cs) (suc n) s at h e =
      let d = call-read s at (encode numbers cs) c e in
      calls-more r s n at d.there ∙ ap (λ (k : Call P). k ∷ calls_from r n s (call_end r.end s at)) d.call
      ∙ ap (λ (l : List (Call P)). c ∷ l) (encoded-from cs n s (call_end r.end s at) (omega arith) d.after)

  -- a list has no more calls than numbers
  encode-longer : (cs : List (Call P)) → length cs ≤ length (encode numbers cs)
  unfolding encode call_numbers
  encode-longer [] = omega arith
  encode-longer (build p ∷ cs) =
      let a = length-append (numbers p) (encode numbers cs) in
      let h = encode-longer cs in
      omega arith
  encode-longer (move p q ∷ cs) =
      let a = length-append (numbers p ++ numbers q) (encode numbers cs) in
      let h = encode-longer cs in
      omega arith

  -- every list of calls is the list of some numbers
  pub encode-decode : (cs : List (Call P)) → calls_of r (encode numbers cs) ≡ cs
  unfolding calls_of
  encode-decode cs = encoded-from cs (length (encode numbers cs)) (encode numbers cs) 0 (encode-longer cs) refl
