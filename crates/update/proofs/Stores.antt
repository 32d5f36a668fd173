-- Laws of a run of stores, `sets l i vs`: at the same place, at places apart, and read back. Assumes nothing.
use Rattle.std.proofs.Common.{◌≡◌, ℕ, zero, suc, ◌+◌, ◌-◌, ◌<◌, ◌≤◌, ◌⊎◌, List, [], ◌∷◌, ◌++◌, length, get_or, take, drop, set, sym, refl, ap, ◌∙◌, inl, inr, ⊎_elim, append_assoc, append-nil, add-zero, add-suc, suc-add, zero-add, arith, drop_of_length-le, length-take-le, get_or-set_other, take_at, get_or-append-add, drop-set-lt, drop_at, set-set}
use lib.ListN.{get_or-append}
use lib.Seq.{sets, sets-eq, set_comm, take-set-le, take-nil}
use Rattle.update.specs.Update.{Apart}

module _ {A : Type 0} where
  -- a store and a run of stores apart from it can change places
  set-sets : (l : List A) (i j : ℕ) (a : A) (ws : List A) → (i < j) ⊎ (j + length ws ≤ i) → set (sets l j ws) i a ≡ sets (set l i a) j ws
  set-sets l i j a [] h = refl
  set-sets l i j a (w ∷ ws) h =
      set-sets (set l j w) i (suc j) a ws (⊎_elim (λ p. inl (omega arith)) (λ p. inr (omega arith)) h)
      ∙ ap (λ (x : List A). sets x (suc j) ws) (set_comm l j i w a (⊎_elim (λ p. omega arith) (λ p. omega arith) h))

  -- so can two runs apart
  pub sets-apart : (l : List A) (i j : ℕ) (vs ws : List A) → Apart i (length vs) j (length ws) → sets (sets l j ws) i vs ≡ sets (sets l i vs) j ws
  sets-apart l i j [] ws h = refl
  sets-apart l i j (v ∷ vs) ws h =
      ap (λ (x : List A). sets x (suc i) vs) (set-sets l i j v ws (⊎_elim (λ p. inl (omega arith)) (λ p. inr p) h))
      ∙ sets-apart (set l i v) (suc i) j vs ws (⊎_elim (λ p. inl (omega arith)) (λ p. inr (omega arith)) h)

  -- of two runs of one length at one place the later stays
  pub sets_same : (l : List A) (i : ℕ) (vs ws : List A) → length vs ≡ length ws → sets (sets l i vs) i ws ≡ sets l i ws
  sets_same l i [] [] h = refl
  sets_same l i [] (w ∷ ws) h = absurd (omega arith)
  sets_same l i (v ∷ vs) [] h = absurd (omega arith)
  sets_same l i (v ∷ vs) (w ∷ ws) h =
      ap (λ (x : List A). sets x (suc i) ws)
      (set-sets (set l i v) i (suc i) w vs (inl (omega arith)) ∙ ap (λ (x : List A). sets x (suc i) vs) (set-set l i v w))
      ∙ sets_same (set l i w) (suc i) vs ws (omega arith)

  -- two runs one after the other are one
  pub sets-append : (l : List A) (i : ℕ) (vs ws : List A) → sets l i (vs ++ ws) ≡ sets (sets l i vs) (i + length vs) ws
  sets-append l i [] ws = ap (λ (k : ℕ). sets l k ws) (sym (add-zero i))
  sets-append l i (v ∷ vs) ws =
      sets-append (set l i v) (suc i) vs ws
      ∙ ap (λ (k : ℕ). sets (sets (set l i v) (suc i) vs) k ws) (suc-add i (length vs) ∙ sym (add-suc i (length vs)))

  -- what is left after stores are dropped is that of before
  drop-sets : (n : ℕ) (l : List A) (i : ℕ) (vs : List A) → i + length vs ≤ n → drop n (sets l i vs) ≡ drop n l
  drop-sets n l i [] h = refl
  drop-sets n l i (v ∷ vs) h = drop-sets n (set l i v) (suc i) vs (omega arith) ∙ drop-set-lt n l i v (omega arith)

  -- what is taken before the stores is that of before
  take-sets : (n : ℕ) (l : List A) (i : ℕ) (vs : List A) → n ≤ i → take n (sets l i vs) ≡ take n l
  take-sets n l i [] h = refl
  take-sets n l i (v ∷ vs) h = take-sets n (set l i v) (suc i) vs (omega arith) ∙ take-set-le n l i v h

  -- m elements from n are the first n + m without the first n
  take-drop : (n m : ℕ) (l : List A) → take m (drop n l) ≡ drop n (take (n + m) l)
  take-drop zero m l = ap (λ (k : ℕ). take k l) (sym (zero-add m))
  take-drop (suc n) m [] = take-nil m ∙ sym (ap (λ (x : List A). drop (suc n) x) (take-nil (suc n + m)))
  take-drop (suc n) m (x ∷ l) = take-drop n m l ∙ ap (λ (k : ℕ). drop (suc n) (take k (x ∷ l))) (sym (suc-add n m))

  -- n elements from j, apart from the stores, are those of before
  pub part-outside : (l : List A) (i j n : ℕ) (vs : List A) → Apart i (length vs) j n → take n (drop j (sets l i vs)) ≡ take n (drop j l)
  part-outside l i j n vs (inl h) = ap (λ (x : List A). take n x) (drop-sets j l i vs h)
  part-outside l i j n vs (inr h) =
      take-drop j n (sets l i vs) ∙ ap (λ (x : List A). drop j x) (take-sets (j + n) l i vs h) ∙ sym (take-drop j n l)

  -- an element apart from the stores is that of before
  pub sets-outside : (l : List A) (i k : ℕ) (vs : List A) (d : A) → (k < i) ⊎ (i + length vs ≤ k) → get_or (sets l i vs) k d ≡ get_or l k d
  sets-outside l i k [] d h = refl
  sets-outside l i k (v ∷ vs) d h =
      sets-outside (set l i v) (suc i) k vs d (⊎_elim (λ p. inl (omega arith)) (λ p. inr (omega arith)) h)
      ∙ get_or-set_other l i k v d (⊎_elim (λ p. omega arith) (λ p. omega arith) h)

  -- a run of stores inside the list, as what is before it, the run, and what is after it
  sets-parts : (l : List A) (i : ℕ) (vs : List A) → i + length vs ≤ length l → sets l i vs ≡ take i l ++ (vs ++ drop (i + length vs) l)
  sets-parts l i vs h = sets-eq vs l i h ∙ append_assoc (take i l) vs (drop (i + length vs) l)

  -- what was stored is read back: all of it
  pub part-stored : (l : List A) (i n : ℕ) (vs : List A) → length vs ≡ n → i + n ≤ length l → take n (drop i (sets l i vs)) ≡ vs
  part-stored l i n vs e h =
      ap (λ (x : List A). take n (drop i x)) (sets-parts l i vs (omega arith))
      ∙ ap (λ (x : List A). take n x) (drop_at (take i l) (vs ++ drop (i + length vs) l) i (length-take-le i l (omega arith)))
      ∙ take_at vs (drop (i + length vs) l) n e

  -- and each element
  pub sets-inside : (l : List A) (i k : ℕ) (vs : List A) (d : A) → i + length vs ≤ length l → i ≤ k → k < i + length vs → get_or (sets l i vs) k d ≡ get_or vs (k - i) d
  sets-inside l i k vs d h a b =
      let t : length (take i l) ≡ i = length-take-le i l (omega arith) in
      let e : k ≡ length (take i l) + (k - i) = omega arith in
      let rest : List A = vs ++ drop (i + length vs) l in
      ap (λ (x : List A). get_or x k d) (sets-parts l i vs h)
      ∙ ap (λ (j : ℕ). get_or (take i l ++ rest) j d) e
      ∙ get_or-append-add (take i l) rest (k - i) d
      ∙ get_or-append vs (drop (i + length vs) l) d (k - i) (omega arith)

-- stores to every place of a list leave what was stored
pub sets-whole : (l vs : List ℕ) → length vs ≡ length l → sets l 0 vs ≡ vs
sets-whole l vs e =
    sets-eq vs l 0 (omega arith) ∙ ap (λ (x : List ℕ). vs ++ x) (drop_of_length-le l {i = 0 + length vs} (omega arith)) ∙ append-nil vs
