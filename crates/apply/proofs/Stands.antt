-- The numbers that the code has for shifts are the exact ones modulo 2^64. Assumes nothing.
use Rattle.std.proofs.Common.{◌≡◌, ℕ, zero, suc, ◌+◌, ◌-◌, ◌%◌, ◌^◌, ◌<◌, ◌≤◌, Bool, true, false, List, get_or, ℤ, pos, ◌+ℤ◌, ◌-ℤ◌, neg_ℤ, sym, refl, ap, ◌∙◌, arith, lit<}
use Prim.Native.Nat.{◌∣◌}
use native.Mathlib.Nat.{mod-mod}
use lib.IntN.{+ℤ_assoc, +ℤ_comm, -ℤ-+ℤ_cancel, neg_ℤ-+ℤ, neg_ℤ-neg_ℤ}
use Rattle.update.specs.Update.{remainder}
use Rattle.update.proofs.Remainder.{remainder-lt, remainder-small, remainder-sub, remainder-divides}
use Rattle.loadable.specs.declared.Loadable.{Loadable}
use Rattle.history.specs.declared.Followed.{Followed}
use Rattle.history.specs.declared.Followed.TheVariants as followed
use Rattle.history.specs.Plan.{Relocatable, Plan, followed_by, displacement_of}
use Rattle.plan.specs.Relocatable.{followed_at, relocatable_of}
use Rattle.plan.proofs.Symbols.{OwnPlace, own-place-at, followed-known}
use Rattle.apply.specs.Shift.{shift_of, shifts_of, Displaced}

-- ---- remainders modulo 2^64

-- integers with one remainder modulo 2^64 have one modulo each of its divisors
pub narrowed : (m : ℕ) → 0 < m → m ∣ 2 ^ 64 → (a b : ℤ) → remainder a (2 ^ 64) ≡ remainder b (2 ^ 64) → remainder a m ≡ remainder b m
narrowed m h d a b e =
    sym (remainder-divides m (2 ^ 64) h (lit< tt) d a) ∙ ap (λ (k : ℕ). k % m) e ∙ remainder-divides m (2 ^ 64) h (lit< tt) d b

-- an integer's remainder has the same remainder
pub stands : (r : ℕ) (z : ℤ) → r ≡ remainder z (2 ^ 64) → remainder (pos r) (2 ^ 64) ≡ remainder z (2 ^ 64)
stands r z e = ap (λ (k : ℕ). remainder (pos k) (2 ^ 64)) e ∙ remainder-small (2 ^ 64) (lit< tt) (remainder z (2 ^ 64)) (remainder-lt (2 ^ 64) (lit< tt) z)

-- a number and its remainder have one remainder
same-remainder : (m n a : ℕ) → n % m ≡ a → remainder (pos n) m ≡ remainder (pos a) m
unfolding remainder
same-remainder m n a e = e ∙ sym (ap (λ (k : ℕ). k % m) (sym e) ∙ mod-mod n m ∙ e)

-- the wrapping difference is the exact one's remainder
pub difference-stands : (r a b : ℕ) → r < 2 ^ 64 → (r + b) % 2 ^ 64 ≡ a → r ≡ remainder (pos a -ℤ pos b) (2 ^ 64)
difference-stands r a b h e = remainder-sub (2 ^ 64) (lit< tt) r (pos a) (pos b) h (same-remainder (2 ^ 64) (r + b) a e)

-- ---- displacements

-- what two displacements from one recorded address differ by
pub sub-sub : (a b c : ℤ) → (a -ℤ c) -ℤ (b -ℤ c) ≡ a -ℤ b
sub-sub a b c =
    ap (λ (z : ℤ). (a -ℤ c) +ℤ z) (neg_ℤ-+ℤ b (neg_ℤ c) ∙ ap (λ (z : ℤ). neg_ℤ b +ℤ z) (neg_ℤ-neg_ℤ c) ∙ +ℤ_comm (neg_ℤ b) c)
    ∙ sym (+ℤ_assoc (a -ℤ c) c (neg_ℤ b)) ∙ ap (λ (z : ℤ). z -ℤ b) (-ℤ-+ℤ_cancel a c)

module _ (m : Relocatable) (p q : Plan) (k v r : ℕ) where
  -- in a move, the wrapping difference of its two addresses is an import's shift
  pub import-moved : (moving : Bool) (from to : List ℕ) → r < 2 ^ 64 → moving ≡ true → (r + get_or from k 0) % 2 ^ 64 ≡ get_or to k 0
      → p.list ≡ from → q.list ≡ to → r ≡ remainder (shift_of m moving p q (followed.Import k v)) (2 ^ 64)
  unfolding shift_of displacement_of
  import-moved moving from to h t e a b =
      rw (t, a, b)
      (difference-stands r (get_or to k 0) (get_or from k 0) h e
      ∙ ap (λ (z : ℤ). remainder z (2 ^ 64)) (sym (sub-sub (pos (get_or to k 0)) (pos (get_or from k 0)) (pos v))))

  -- in a build, that of its address and its recorded value
  pub import-built : (moving : Bool) (to : List ℕ) → r < 2 ^ 64 → moving ≡ false → (r + v) % 2 ^ 64 ≡ get_or to k 0
      → q.list ≡ to → r ≡ remainder (shift_of m moving p q (followed.Import k v)) (2 ^ 64)
  unfolding shift_of displacement_of
  import-built moving to h t e b = rw (t, b) (difference-stands r (get_or to k 0) v h e)

-- ---- symbols

-- symbols 0, 1 and 2 have the shift that d has at their index
pub implicit-stands : (m : Relocatable) (d : List ℕ) (moving : Bool) (p q : Plan) (k : ℕ) → k < 3
    → Displaced d (shift_of m moving p q followed.Text) (shift_of m moving p q followed.Data) → get_or d k 0 ≡ remainder (shifts_of m moving p q k) (2 ^ 64)
unfolding followed_by
implicit-stands m d moving p q zero b h = h.text
implicit-stands m d moving p q (suc zero) b h = h.dat
implicit-stands m d moving p q (suc (suc zero)) b h = h.bss
implicit-stands m d moving p q (suc (suc (suc k))) b h = absurd (omega arith)

module _ (file : List ℕ) (l : Loadable) where
  -- a loader symbol, whose index is from 3, follows what its entry says
  loader-follows : (k : ℕ) → 3 ≤ k → k < 3 + l.tables.nsyms → followed_by (relocatable_of file l) k ≡ followed_at file l (k - 3)
  loader-follows zero h b = absurd (omega arith)
  loader-follows (suc zero) h b = absurd (omega arith)
  loader-follows (suc (suc zero)) h b = absurd (omega arith)
  loader-follows (suc (suc (suc k))) h b =
      let e : k ≡ suc (suc (suc k)) - 3 = omega arith in
      followed-known file l k (omega arith) ∙ ap (followed_at file l) e

  -- the shift of what it follows is its own
  pub loader-stands : (moving : Bool) (p q : Plan) (k r : ℕ) (f : Followed) → 3 ≤ k → k < 3 + l.tables.nsyms → f ≡ followed_at file l (k - 3)
      → r ≡ remainder (shift_of (relocatable_of file l) moving p q f) (2 ^ 64) → r ≡ remainder (shifts_of (relocatable_of file l) moving p q k) (2 ^ 64)
  loader-stands moving p q k r f h b e s = rw (loader-follows k h b, ← e) s

-- a symbol that follows nothing is not shifted
pub nothing-stands : (m : Relocatable) (moving : Bool) (p q : Plan) → 0 ≡ remainder (shift_of m moving p q followed.Nothing) (2 ^ 64)
unfolding shift_of displacement_of remainder
nothing-stands m true p q = refl
nothing-stands m false p q = refl

-- an import's place is in a list of as many addresses as the module has symbols
pub import-in : (file : List ℕ) (l : Loadable) (k j v : ℕ) {f : Followed} {n : ℕ} → f ≡ followed_at file l (k - 3) → f ≡ followed.Import j v
    → k < 3 + l.tables.nsyms → 3 ≤ k → n ≡ l.tables.nsyms → j < n
import-in file l k j v e i h b s =
    let o : OwnPlace (k - 3) (followed.Import j v) = rw (sym e ∙ i) at (own-place-at file l (k - 3)) in
    omega arith
