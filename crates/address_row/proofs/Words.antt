-- Keys are found by their words. Assumes nothing.
use Rattle.std.proofs.Common.{◌≡◌, ℕ, zero, suc, ◌+◌, ◌-◌, ◌*◌, ◌/◌, ◌%◌, ◌^◌, ◌<◌, ◌≤◌, true, ltb, List, [], ◌∷◌, ◌++◌, length, get_or, take, drop, replicate, sym, refl, ap, ◌∙◌, arith, length-append, take_at, get_or-append-add, ltb-false, ltb-true}
use Rattle.std.proofs.lemmas.List.{drop-replicate}
use lib.ListN.{length-replicate, get_or-append}
use Rattle.update.specs.Update.{Bytes, put_field}
use Rattle.update.proofs.Stores.{sets-whole}
use Rattle.word.specs.Number.{field_at}
use Rattle.sheet.specs.Sheet.{numbers_from, address_bytes}
use Rattle.sheet.proofs.Addresses.{length-addresses, addresses-numbers, write-next, write-end}
use Rattle.refusal.specs.Order.{if_accepted}
use Rattle.address_book.specs.Book.{Key, same_list, same_key}
use Rattle.address_book.specs.Call.{key_check, padded_name, name_numbers}
use Rattle.address_book.proofs.Order.{cases, no, same-list, same-list-refl, same_key_lem, same-key-refl}
use Rattle.address_row.specs.Words.{sum_of, parts_of, key_words, said, no_key, key_in}
use Rattle.std.specs.Prelude.{Err, Ok}
use Rattle.refusal.specs.Verdict.{Verdict}

-- ---- a name with zeros behind it

-- the name, and the zeros that are left of 32
pub name-zeros : (name : List ℕ) → name ++ drop (length name) (replicate 32 0) ≡ padded_name name
unfolding padded_name
name-zeros name = rw (drop-replicate {X = ℕ} (length name) 32 0) refl

pub length-padded : (name : List ℕ) → length name ≤ 32 → length (padded_name name) ≡ 32
unfolding padded_name
length-padded name h =
    length-append name (replicate (32 - length name) 0) ∙ rw (length-replicate {0} {A = ℕ} (32 - length name) 0) (omega arith)

-- the name is what stands in front
padded-front : (name : List ℕ) → take (length name) (padded_name name) ≡ name
unfolding padded_name
padded-front name = take_at name (replicate (32 - length name) 0) (length name) refl

zeros : (n k : ℕ) → ◌≡◌ {A = ℕ} (get_or (replicate n 0) k 0) 0
zeros zero k = refl
zeros (suc n) zero = refl
zeros (suc n) (suc k) = zeros n k

-- it is bytes
pub bytes-padded : (name : List ℕ) → Bytes name → Bytes (padded_name name)
unfolding padded_name
bytes-padded name b k =
    cases (ltb k (length name))
    (λ t.
    let x : k < length name = ltb-true k (length name) t in
    rw (get_or-append name (replicate (32 - length name) 0) 0 k x) (b k))
    (λ t.
    let x : length name ≤ k = ltb-false k (length name) t in
    let e : k ≡ length name + (k - length name) = omega arith in
    rw (e, get_or-append-add name (replicate (32 - length name) 0) (k - length name) 0, zeros (32 - length name) (k - length name)) (omega arith))

-- ---- words

-- the words as they are made
pub words-made : (k : Key) {p : List ℕ} {a b c d s t u v w : ℕ} → p ≡ padded_name k.name → a ≡ field_at 8 0 p → b ≡ field_at 8 8 p → c ≡ field_at 8 16 p → d ≡ field_at 8 24 p → s ≡ (c + d) % 2 ^ 64 → t ≡ (b + s) % 2 ^ 64 → u ≡ (a + t) % 2 ^ 64 → v ≡ (k.file + u) % 2 ^ 64 → w ≡ (k.bench * 64 + length k.name + v) % 2 ^ 64 → (w ∷ ((k.bench * 64 + length k.name) ∷ (k.file ∷ (a ∷ (b ∷ (c ∷ (d ∷ []))))))) ≡ key_words k
unfolding key_words parts_of sum_of name_numbers numbers_from
words-made k p a b c d s t u v w = rw (w, v, u, t, s, a, b, c, d, p) refl

-- the words of a key say that key
pub said-words : (k : Key) → Bytes k.name → length k.name ≤ 32 → said (key_words k) ≡ k
unfolding said key_words parts_of name_numbers
said-words k b h =
    let whole : address_bytes (numbers_from (padded_name k.name) 0 4) ≡ padded_name k.name = addresses-numbers (padded_name k.name) 0 4 (bytes-padded k.name b) (sym (length-padded k.name h)) in
    let bench : (k.bench * 64 + length k.name) / 64 ≡ k.bench = omega arith in
    let size : (k.bench * 64 + length k.name) % 64 ≡ length k.name = omega arith in
    rw (bench, size, whole, padded-front k.name) refl

-- a key with a bench and a name that are taken
pub record Good (k : Key) : Type 0 where
  pub taken : key_check k ≡ Ok tt
  pub owned : 0 < k.bench
  pub bench : k.bench ≤ 2
  pub short : length k.name ≤ 32
  pub bytes : Bytes k.name

-- its words are that key's
pub key_in_lem : (k : Key) → Good k → key_in (key_words k) ≡ k
unfolding key_in
key_in_lem k g = rw (said-words k g.bytes g.short, same-list-refl (key_words k), g.taken) refl

-- words that are read as a key are the key's
by-check : (k : Key) → Good k → (v : Verdict) (l : Key) → if_accepted v l no_key ≡ k → l ≡ k
by-check k g (Ok tt) l e = e
by-check k g (Err x) l e = let z : 0 ≡ k.bench = ap (λ (x : Key). x.bench) e in let o = g.owned in absurd (omega arith)

read_as : (k : Key) → Good k → (ws : List ℕ) → key_in ws ≡ k → same_list (key_words k) ws ≡ true
unfolding key_in
read_as k g ws e =
    cases (same_list (key_words (said ws)) ws)
    (λ u. let d : said ws ≡ k = by-check k g (key_check (said ws)) (said ws) (rw u at e) in rw d at u)
    (λ u.
    let d : no_key ≡ k = rw u at e in
    let z : 0 ≡ k.bench = ap (λ (x : Key). x.bench) d in
    let o = g.owned in
    absurd (omega arith))

-- a row has a key just where it has the key's words
pub found-by-words : (k : Key) (ws : List ℕ) → Good k → same_key k (key_in ws) ≡ same_list (key_words k) ws
found-by-words k ws g =
    cases (same_list (key_words k) ws)
    (λ t.
    let e : ws ≡ key_words k = sym (same-list (key_words k) ws t) in
    rw (e, key_in_lem k g, same-list-refl (key_words k)) (same-key-refl k))
    (λ t.
    rw t
    (cases (same_key k (key_in ws))
    (λ u. no (read_as k g ws (sym (same_key_lem k (key_in ws) u))) t)
    (λ u. u)))

-- ---- bytes of a name's numbers

pub name-stored : (a b c d : ℕ) → put_field 8 24 d (put_field 8 16 c (put_field 8 8 b (put_field 8 0 a (replicate 32 0)))) ≡ address_bytes (a ∷ (b ∷ (c ∷ (d ∷ []))))
name-stored a b c d =
    let all : List ℕ = a ∷ (b ∷ (c ∷ (d ∷ []))) in
    let z : List ℕ = replicate 32 0 in
    let p = put_field 8 0 a z in
    let q = put_field 8 8 b p in
    let r = put_field 8 16 c q in
    sym (write-end (put_field 8 24 d r) all 32 4 (omega arith))
    ∙ write-next r all 0 3 (omega arith)
    ∙ write-next q all 0 2 (omega arith)
    ∙ write-next p all 0 1 (omega arith)
    ∙ write-next z all 0 0 (omega arith)
    ∙ sets-whole z (address_bytes all) (length-addresses all)
