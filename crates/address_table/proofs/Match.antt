-- Key words compared one by one. Assumes nothing.
use mathlib.Core.Path.{◌≡◌, refl, sym, ◌∙◌, ap}
use mathlib.Core.Bool.{false}
use mathlib.Core.List.{List, [], ◌∷◌}
use Prim.Native.Nat.{ℕ, ◌+◌}
use native.Mathlib.Omega.{arith}
use borrow.Author.Tests.{eqb-true, eqb-false}
use lib.Dec.{eqb}
use lib.ListN.{length, get_or}
use Rattle.address_book.specs.Book.{same_list}
use Rattle.address_book.proofs.Order.{cases, same-list, same-list-refl}
use Rattle.address_table.specs.Table.{key_words_at}

-- a word that is another one
pub differs : (ws vs : List ℕ) (j : ℕ) → (get_or vs j 0 ≡ get_or ws j 0 → ⊥) → false ≡ same_list ws vs
differs ws vs j h =
    cases (same_list ws vs)
    (λ t. absurd (h (ap (λ (l : List ℕ). get_or l j 0) (sym (same-list ws vs t)))))
    (λ t. sym t)

-- a list of seven is its seven elements
pub seven-of : (ws : List ℕ) → length ws ≡ 7 → ws ≡ get_or ws 0 0 ∷ (get_or ws 1 0 ∷ (get_or ws 2 0 ∷ (get_or ws 3 0 ∷ (get_or ws 4 0 ∷ (get_or ws 5 0 ∷ (get_or ws 6 0 ∷ []))))))
seven-of (a ∷ (b ∷ (c ∷ (d ∷ (e ∷ (f ∷ (g ∷ []))))))) h = refl
seven-of [] h = absurd (omega arith)
seven-of (a ∷ []) h = absurd (omega arith)
seven-of (a ∷ (b ∷ [])) h = absurd (omega arith)
seven-of (a ∷ (b ∷ (c ∷ []))) h = absurd (omega arith)
seven-of (a ∷ (b ∷ (c ∷ (d ∷ [])))) h = absurd (omega arith)
seven-of (a ∷ (b ∷ (c ∷ (d ∷ (e ∷ []))))) h = absurd (omega arith)
seven-of (a ∷ (b ∷ (c ∷ (d ∷ (e ∷ (f ∷ [])))))) h = absurd (omega arith)
seven-of (a ∷ (b ∷ (c ∷ (d ∷ (e ∷ (f ∷ (g ∷ (i ∷ ws)))))))) h = absurd (omega arith)

-- the last decides where the others are the same
pub last-decides : (ws m : List ℕ) (at : ℕ) → length ws ≡ 7 → get_or m at 0 ≡ get_or ws 0 0 → get_or m (at + 1) 0 ≡ get_or ws 1 0 → get_or m (at + 2) 0 ≡ get_or ws 2 0 → get_or m (at + 3) 0 ≡ get_or ws 3 0 → get_or m (at + 4) 0 ≡ get_or ws 4 0 → get_or m (at + 5) 0 ≡ get_or ws 5 0 → eqb (get_or m (at + 6) 0) (get_or ws 6 0) ≡ same_list ws (key_words_at m at)
unfolding key_words_at
last-decides ws m at h a b c d e f =
    cases (eqb (get_or m (at + 6) 0) (get_or ws 6 0))
    (λ t.
    let g : get_or m (at + 6) 0 ≡ get_or ws 6 0 = eqb-true (get_or m (at + 6) 0) (get_or ws 6 0) t in
    let same : key_words_at m at ≡ ws = rw (a, b, c, d, e, f, g) (sym (seven-of ws h)) in
    t ∙ sym (ap (same_list ws) same ∙ same-list-refl ws))
    (λ t. t ∙ differs ws (key_words_at m at) 6 (eqb-false (get_or m (at + 6) 0) (get_or ws 6 0) t))
