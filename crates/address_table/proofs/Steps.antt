-- The steps that change the table's memory, and what each number then is. Assumes nothing.
use mathlib.Core.Path.{◌≡◌, refl, sym, ◌∙◌, ap}
use mathlib.Core.Logic.{inl}
use mathlib.Core.List.{List, [], ◌∷◌, ◌++◌}
use Prim.Native.Nat.{ℕ, ◌+◌, ◌-◌, ◌*◌, ◌≤◌, ◌<◌}
use native.Mathlib.Omega.{arith}
use lib.ListN.{length, get_or, set, take, drop, replicate, length-append, length-drop, length-replicate, get_or-append}
use lib.Seq.{sets, sets-eq, length-sets, length-take-le, get_or-set_same, get_or-set_other, get_or_at, get_or-take, get_or-drop}
use Rattle.std.specs.List.{copy_within}
use Rattle.std.proofs.Common.{append_assoc}
use Rattle.update.proofs.Stores.{sets-append, sets-outside, sets-inside}
use Rattle.address_table.proofs.Match.{seven-of}
use Rattle.address_table.specs.Table.{with_row, without_row}

-- ---- what a copy within the table leaves is what the stores of the numbers leave

pub moved_up : {t : List ℕ} (m : List ℕ) (from end : ℕ) → from ≤ end → end + 8 ≤ length m → t ≡ copy_within m (from + 8) (end + 8) from → t ≡ sets m from (take (end - from) (drop (from + 8) m))
moved_up m from end h size e =
    let behind = take (end - from) (drop (from + 8) m) in
    let n : end + 8 - (from + 8) ≡ end - from = omega arith in
    let some : length behind ≡ end - from = length-take-le (end - from) (drop (from + 8) m) (omega (arith, length-drop (from + 8) m)) in
    (rw n at e) ∙ append_assoc (take from m) behind (drop (from + (end - from)) m) ∙ sym (rw (append_assoc, some) at (sets-eq behind m from (omega arith)))

-- ---- a row is taken out

length-behind : (m : List ℕ) (p n : ℕ) → length m ≡ 4097 → p < n → n ≤ 512 → length (take (n * 8 - 8 - p * 8) (drop (p * 8 + 8) m)) ≡ n * 8 - 8 - p * 8
length-behind m p n size h few = length-take-le (n * 8 - 8 - p * 8) (drop (p * 8 + 8) m) (omega (arith, length-drop (p * 8 + 8) m))

-- the rows behind it, and zeros
pub removed : {x y : List ℕ} (m : List ℕ) (p n : ℕ) → length m ≡ 4097 → p < n → n ≤ 512 → x ≡ sets m (p * 8) (take (n * 8 - 8 - p * 8) (drop (p * 8 + 8) m)) → y ≡ sets x (n * 8 - 8) (replicate 8 0) → set y 4096 (n - 1) ≡ without_row m p n
unfolding without_row
removed {x} {y} m p n size h few d e =
    let behind = take (n * 8 - 8 - p * 8) (drop (p * 8 + 8) m) in
    let place : n * 8 - 8 ≡ p * 8 + length behind = omega (arith, length-behind m p n size h few) in
    let joined : y ≡ sets m (p * 8) (behind ++ replicate 8 0) = e ∙ ap (λ (l : List ℕ). sets l (n * 8 - 8) (replicate 8 0)) d ∙ ap (λ (i : ℕ). sets (sets m (p * 8) behind) i (replicate 8 0)) place ∙ sym (sets-append m (p * 8) behind (replicate 8 0)) in
    ap (λ (l : List ℕ). set l 4096 (n - 1)) joined

-- row p of n is taken out, and the rows behind it move up
pub record Closed (m out : List ℕ) (p n : ℕ) : Type 0 where
  pub front : (j : ℕ) → j < p * 8 → get_or out j 0 ≡ get_or m j 0
  pub moved : (j : ℕ) → p * 8 ≤ j → j < n * 8 - 8 → get_or out j 0 ≡ get_or m (j + 8) 0
  pub count : get_or out 4096 0 ≡ n - 1

pub closed : (m : List ℕ) (p n : ℕ) → length m ≡ 4097 → p < n → n ≤ 512 → Closed m (without_row m p n) p n
unfolding without_row
closed m p n size h few =
    let behind = take (n * 8 - 8 - p * 8) (drop (p * 8 + 8) m) in
    let b = length-behind m p n size h few in
    let eight = length-append behind (replicate 8 0) in
    let zeros = length-replicate {0} {A = ℕ} 8 0 in
    let all = sets m (p * 8) (behind ++ replicate 8 0) in
    record {
      front = λ j l. get_or-set_other all 4096 j (n - 1) 0 (λ x. omega arith) ∙ sets-outside m (p * 8) j (behind ++ replicate 8 0) 0 (inl l);
      moved =
          λ j l r.
          let place : p * 8 + 8 + (j - p * 8) ≡ j + 8 = omega arith in
          get_or-set_other all 4096 j (n - 1) 0 (λ x. omega arith)
          ∙ sets-inside m (p * 8) j (behind ++ replicate 8 0) 0 (omega arith) l (omega arith)
          ∙ get_or-append behind (replicate 8 0) 0 (j - p * 8) (omega arith)
          ∙ get_or-take (n * 8 - 8 - p * 8) (drop (p * 8 + 8) m) (j - p * 8) 0 (omega arith)
          ∙ get_or-drop (p * 8 + 8) m (j - p * 8) 0
          ∙ ap (λ (i : ℕ). get_or m i 0) place;
      count = get_or-set_same all 4096 (n - 1) 0 (omega (arith, length-sets m (p * 8) (behind ++ replicate 8 0)));
    }

-- ---- a row is written behind the others

pub row_written : {o : List ℕ} (m ws : List ℕ) (n a : ℕ) → length ws ≡ 7 → o ≡ sets m (n * 8) (get_or ws 0 0 ∷ (get_or ws 1 0 ∷ (get_or ws 2 0 ∷ (get_or ws 3 0 ∷ (get_or ws 4 0 ∷ (get_or ws 5 0 ∷ (get_or ws 6 0 ∷ (a ∷ [])))))))) → set o 4096 (n + 1) ≡ with_row m n ws a
unfolding with_row
row_written m ws n a seven e =
    let row = ap (λ (l : List ℕ). l ++ (a ∷ [])) (seven-of ws seven) in
    ap (λ (l : List ℕ). set l 4096 (n + 1)) (e ∙ ap (sets m (n * 8)) (sym row))

-- row n is written with key words and an address, and is the last
pub record Written (m out : List ℕ) (n : ℕ) (ws : List ℕ) (a : ℕ) : Type 0 where
  pub front : (j : ℕ) → j < n * 8 → get_or out j 0 ≡ get_or m j 0
  pub words : (j : ℕ) → j < 7 → get_or out (n * 8 + j) 0 ≡ get_or ws j 0
  pub address : get_or out (n * 8 + 7) 0 ≡ a
  pub count : get_or out 4096 0 ≡ n + 1

module _ (m ws : List ℕ) (n a : ℕ) (b : n < 512) (size : length m ≡ 4097) (seven : length ws ≡ 7) where
  eight : length (ws ++ (a ∷ [])) ≡ 8
  eight = length-append ws (a ∷ []) ∙ rw seven refl

  -- the number d places into the row
  in_row : (d : ℕ) → d < 8 → get_or (with_row m n ws a) (n * 8 + d) 0 ≡ get_or (ws ++ (a ∷ [])) d 0
  unfolding with_row
  in_row d l =
      let e = eight in
      let place : n * 8 + d - n * 8 ≡ d = omega arith in
      get_or-set_other (sets m (n * 8) (ws ++ (a ∷ []))) 4096 (n * 8 + d) (n + 1) 0 (λ x. omega arith)
      ∙ sets-inside m (n * 8) (n * 8 + d) (ws ++ (a ∷ [])) 0 (omega arith) (omega arith) (omega arith)
      ∙ ap (λ (x : ℕ). get_or (ws ++ (a ∷ [])) x 0) place

  pub written : Written m (with_row m n ws a) n ws a
  unfolding with_row
  written =
      record {
        front =
            λ j l.
            get_or-set_other (sets m (n * 8) (ws ++ (a ∷ []))) 4096 j (n + 1) 0 (λ x. omega arith)
            ∙ sets-outside m (n * 8) j (ws ++ (a ∷ [])) 0 (inl l);
        words = λ j l. in_row j (omega arith) ∙ get_or-append ws (a ∷ []) 0 j (omega arith);
        address = in_row 7 (omega arith) ∙ get_or_at ws a [] 0 7 seven;
        count = get_or-set_same (sets m (n * 8) (ws ++ (a ∷ []))) 4096 (n + 1) 0 (omega (arith, length-sets m (n * 8) (ws ++ (a ∷ []))));
      }
