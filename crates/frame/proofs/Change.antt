-- Laws of changes that stay in a range. Assumes nothing.
use mathlib.Core.Path.{◌≡◌, refl, sym, ◌∙◌, ap}
use mathlib.Core.Logic.{◌⊎◌, inl, inr}
use mathlib.Core.List.{List, [], ◌∷◌}
use Prim.Native.Nat.{ℕ, zero, suc, ◌+◌, ◌-◌, ◌≤◌, ◌<◌}
use native.Mathlib.Decide.{ℕ_discrete, dec_lt, dec_le}
use native.Mathlib.Numerals.{add-one}
use native.Mathlib.Nat.{sub-zero}
use native.Mathlib.Omega.{arith}
use lib.ListN.{length, get_or, set, length-set}
use lib.Seq.{sets, length-sets, get_or-set_same, get_or-set_other, set_out}
use Rattle.update.specs.Update.{bytes_of_number, put_field}
use Rattle.update.proofs.Laws.{length-bytes}
use Rattle.update.proofs.Stores.{sets-outside}
use Rattle.format.specs.declared.FileRange.{FileRange}
use Rattle.format.specs.Range.{range}
use Rattle.frame.specs.Same.{Same}
use Rattle.shared_range.specs.Shared.{Holds, Disjoint}
use Rattle.frame.specs.Change.{each_from, Local}
use Rattle.frame.proofs.Same.{same_bytes_lem}

-- ---- bytes stored

set-bytewise : (xs ys : List ℕ) (i v k : ℕ) → length xs ≡ length ys → get_or xs k 0 ≡ get_or ys k 0 → get_or (set xs i v) k 0 ≡ get_or (set ys i v) k 0
set-bytewise xs ys i v k l e = by_place (ℕ_discrete k i) (dec_lt i (length xs))
  where
    by_place : Dec (k ≡ i) → Dec (i < length xs) → get_or (set xs i v) k 0 ≡ get_or (set ys i v) k 0
    by_place (yes p) (yes b) = rw (p, get_or-set_same xs i v 0 b, get_or-set_same ys i v 0 (rw l at b)) refl
    by_place (yes p) (no b) = rw (set_out xs i v (omega arith), set_out ys i v (omega arith)) e
    by_place (no p) b = rw (get_or-set_other xs i k v 0 p, get_or-set_other ys i k v 0 p) e

sets-bytewise : (xs ys : List ℕ) (i : ℕ) (vs : List ℕ) (k : ℕ) → length xs ≡ length ys → get_or xs k 0 ≡ get_or ys k 0 → get_or (sets xs i vs) k 0 ≡ get_or (sets ys i vs) k 0
sets-bytewise xs ys i [] k l e = e
sets-bytewise xs ys i (v ∷ vs) k l e =
    sets-bytewise (set xs i v) (set ys i v) (suc i) vs k (rw (length-set xs i v, length-set ys i v) l) (set-bytewise xs ys i v k l e)

not-held : (start n k : ℕ) → (Holds (range start n) k → ⊥) → (k < start) ⊎ (start + n ≤ k)
not-held start n k h = by_place (dec_lt k start) (dec_le (start + n) k)
  where
    by_place : Dec (k < start) → Dec (start + n ≤ k) → (k < start) ⊎ (start + n ≤ k)
    by_place (yes a) b = inl a
    by_place (no a) (yes b) = inr b
    by_place (no a) (no b) = absurd (h (record { low = omega arith; high = omega arith }))

-- bytes stored stay in their range
pub stored-local : (start : ℕ) (vs : List ℕ) → Local (range start (length vs)) (λ bs. sets bs start vs)
stored-local start vs =
    record {
      keeps = λ bs. length-sets bs start vs;
      outside = λ bs k h. sets-outside bs start k vs 0 (not-held start (length vs) k h);
      bytewise = λ xs ys k l e. sets-bytewise xs ys start vs k l e;
    }

-- a field put stays in its place
pub put_local : (w off v : ℕ) → Local (range off w) (λ bs. put_field w off v bs)
unfolding put_field
put_local w off v = rw (length-bytes w v) at (stored-local off (bytes_of_number w v))

-- ---- changes in order

-- nothing done
pub none-local : (r : FileRange) → Local r (λ bs. bs)
none-local r = record { keeps = λ bs. refl; outside = λ bs k h. refl; bytewise = λ xs ys k l e. e }

-- a change in a range is one in a wider range
pub wider : {a : FileRange} {put : List ℕ → List ℕ} (b : FileRange) → ((k : ℕ) → Holds a k → Holds b k) → Local a put → Local b put
wider b h c = record { keeps = c.keeps; outside = λ bs k g. c.outside bs k (λ x. g (h k x)); bytewise = c.bytewise }

-- two in one range
pub both-local : {r : FileRange} (f g : List ℕ → List ℕ) → Local r f → Local r g → Local r (λ bs. f (g bs))
both-local f g a b =
    record {
      keeps = λ bs. a.keeps (g bs) ∙ b.keeps bs;
      outside = λ bs k h. a.outside (g bs) k h ∙ b.outside bs k h;
      bytewise = λ xs ys k l e. a.bytewise (g xs) (g ys) k (b.keeps xs ∙ l ∙ sym (b.keeps ys)) (b.bytewise xs ys k l e);
    }

-- a change changes nothing in a range that shares no byte with its own
pub local-apart : {a : FileRange} {put : List ℕ → List ℕ} (start n : ℕ) → Local a put → Disjoint a (range start n) → (bs : List ℕ) → Same start n (put bs) bs
local-apart {a} {put} start n c d bs =
    same_bytes_lem start n (put bs) bs (c.keeps bs) (λ k l h. c.outside bs k (λ x. d.none k x (record { low = l; high = h })))

-- ---- a loop over the entries of a table: its start, a turn, its end

module _ (put : ℕ → List ℕ → List ℕ) (n : ℕ) where
  pub each_start : (bs : List ℕ) → each_from put 0 (n - 0) bs ≡ each_from put 0 n bs
  each_start bs = rw (sub-zero n) refl

  pub each_turn : (i : ℕ) (xs ys : List ℕ) → i < n → ys ≡ put i xs → each_from put (i + 1) (n - (i + 1)) ys ≡ each_from put i (n - i) xs
  unfolding each_from
  each_turn i xs ys h e =
      let q : n - i ≡ suc (n - (i + 1)) = omega arith in
      rw (q, e, add-one i) refl

  pub each-end : (i : ℕ) (bs : List ℕ) → n ≤ i → each_from put i (n - i) bs ≡ bs
  unfolding each_from
  each-end i bs h = let q : n - i ≡ 0 = omega arith in rw q refl

-- ---- each entry of a table

module _ (r : ℕ → FileRange) (put : ℕ → List ℕ → List ℕ) (each : (i : ℕ) → Local (r i) (put i)) where
  each_keeps : (k n : ℕ) (bs : List ℕ) → length (each_from put k n bs) ≡ length bs
  unfolding each_from
  each_keeps k zero bs = refl
  each_keeps k (suc n) bs = each_keeps (suc k) n (put k bs) ∙ (each k).keeps bs

  each-outside : (k n : ℕ) (bs : List ℕ) (x : ℕ) → ((i : ℕ) → k ≤ i → i < k + n → Holds (r i) x → ⊥) → get_or (each_from put k n bs) x 0 ≡ get_or bs x 0
  unfolding each_from
  each-outside k zero bs x h = refl
  each-outside k (suc n) bs x h =
      each-outside (suc k) n (put k bs) x (λ i a b. h i (omega arith) (omega arith)) ∙ (each k).outside bs x (h k (omega arith) (omega arith))

  each-bytewise : (k n : ℕ) (xs ys : List ℕ) (x : ℕ) → length xs ≡ length ys → get_or xs x 0 ≡ get_or ys x 0 → get_or (each_from put k n xs) x 0 ≡ get_or (each_from put k n ys) x 0
  unfolding each_from
  each-bytewise k zero xs ys x l e = e
  each-bytewise k (suc n) xs ys x l e =
      each-bytewise (suc k) n (put k xs) (put k ys) x ((each k).keeps xs ∙ l ∙ sym ((each k).keeps ys)) ((each k).bytewise xs ys x l e)

  -- the table changes in a range that holds its entries
  pub each_local : (s : FileRange) (n : ℕ) → ((i : ℕ) → i < n → (x : ℕ) → Holds (r i) x → Holds s x) → Local s (λ bs. each_from put 0 n bs)
  each_local s n h =
      record {
        keeps = λ bs. each_keeps 0 n bs;
        outside = λ bs x g. each-outside 0 n bs x (λ i a b c. g (h i (omega arith) x c));
        bytewise = λ xs ys x l e. each-bytewise 0 n xs ys x l e;
      }

  module _ (alone : (i j x : ℕ) → Holds (r i) x → Holds (r j) x → i ≡ j) where
    each-byte : (k n : ℕ) (bs : List ℕ) (j x : ℕ) → k ≤ j → j < k + n → Holds (r j) x → get_or (each_from put k n bs) x 0 ≡ get_or (put j bs) x 0
    unfolding each_from
    each-byte k zero bs j x a b h = absurd (omega arith)
    each-byte k (suc n) bs j x a b h = by_place (λ c. each-byte (suc k) n (put k bs) j x c (omega arith) h) (ℕ_discrete j k)
      where
        by_place : (suc k ≤ j → get_or (each_from put (suc k) n (put k bs)) x 0 ≡ get_or (put j (put k bs)) x 0) → Dec (j ≡ k)
            → get_or (each_from put (suc k) n (put k bs)) x 0 ≡ get_or (put j bs) x 0
        by_place later (yes p) =
            each-outside (suc k) n (put k bs) x (λ i c d g. absurd (let q : i ≡ j = alone i j x g h in omega arith)) ∙ ap (λ (i : ℕ). get_or (put i bs) x 0) (sym p)
        by_place later (no p) =
            later (omega arith) ∙ (each j).bytewise (put k bs) bs x ((each k).keeps bs) ((each k).outside bs x (λ g. p (alone j k x h g)))

    -- an entry of the table is as its own change alone leaves it
    pub each-entry : (n : ℕ) (bs : List ℕ) (j : ℕ) → j < n → Same (r j).start.0 (r j).length (each_from put 0 n bs) (put j bs)
    each-entry n bs j b =
        same_bytes_lem (r j).start.0 (r j).length (each_from put 0 n bs) (put j bs) (each_keeps 0 n bs ∙ sym ((each j).keeps bs))
        (λ x l h. each-byte 0 n bs j x (omega arith) (omega arith) (record { low = l; high = h }))
