-- Every list of the request's calls is the list of a script: the one that `encode` gives. Assumes nothing.
use mathlib.Core.Path.{◌≡◌, refl, sym, ◌∙◌, ap}
use mathlib.Core.List.{List, [], ◌∷◌, ◌++◌, map, append_assoc}
use Prim.Native.Nat.{ℕ, zero, suc, ◌+◌, ◌-◌, ◌%◌, ◌≤◌, ◌<◌}
use native.Mathlib.Omega.{arith}
use lib.ListN.{length, get_or, drop, length-append}
use lib.Seq.{take-append_seam, drop-append_seam}
use Rattle.script.proofs.Encode.{from-get_d, from_first, from-drop, from-length}
use Rattle.update.specs.Update.{Bytes}
use Rattle.address_book.specs.Book.{Key}
use Rattle.address_book.specs.Call.{Places, Call, add, remove, look, fill, count, list}
use Rattle.table_replay.specs.Script.{fixed_of, name_length, call_end, low_byte, bytes_at, key_at, row_call, call_at, calls_from, calls_of, key_numbers, call_numbers, encode, Asked, AllAsked}
use Rattle.table_replay.proofs.Ends.{call_none, call-whole, row-name, no_name}
use Rattle.table_replay.proofs.Calls.{calls-none, calls-more}

-- bytes are their own low bytes
low-bytes : (l : List ℕ) → Bytes l → map low_byte l ≡ l
low-bytes [] b = refl
low-bytes (x ∷ l) b =
    let e : x % 256 ≡ x = (let h = b 0 in omega arith) in
    rw (e, low-bytes l (λ k. b (suc k))) refl

-- ---- a call's numbers are read as the call

-- the call c is at the place, and after it the numbers that follow
record ReadCall (p : Places) (given : ℕ) (s : List ℕ) (at : ℕ) (c : Call) (rest : List ℕ) : Type 0 where
  there : call_end s at ≡ 0 → ⊥
  call : call_at p given s at ≡ c
  after : drop (call_end s at) s ≡ rest

-- a call on one row: its kind, its key, and what follows
module _ (s : List ℕ) (at kind : ℕ) (k : Key) (more : List ℕ) (small : kind < 3) (b : Bytes k.name) (e : drop at s ≡ kind ∷ (key_numbers k ++ more)) where
  row-kind : get_or s at 0 ≡ kind
  row-kind = from_first s at (kind ∷ (key_numbers k ++ more)) e

  row-size : name_length s at ≡ length k.name
  unfolding key_numbers
  row-size =
      let h = row-kind in
      sym (row-name s at (omega arith)) ∙ from-get_d s at _ e 3

  row-key : key_at s at ≡ k
  unfolding key_numbers key_at bytes_at
  row-key =
      rw (row-size, from-get_d s at _ e 1, from-get_d s at _ e 2, from-drop s at _ e 4, take-append_seam k.name more, low-bytes k.name b) refl

  -- what comes after the name
  row_more : drop (at + 4 + length k.name) s ≡ more
  unfolding key_numbers
  row_more = from-drop s (at + 4) _ (from-drop s at _ e 4) (length k.name) ∙ drop-append_seam k.name more

  row_room : length s - (at + 4 + length k.name) ≡ length more
  row_room = from-length s (at + 4 + length k.name) more row_more

  row-whole : at + 4 + length k.name ≤ length s
  unfolding key_numbers
  row-whole =
      let l = from-length s at _ e in
      let a = length-append k.name more in
      omega arith

module _ (p : Places) (given : ℕ) (s : List ℕ) (at : ℕ) (rest : List ℕ) where
  add_read : (k : Key) (a : ℕ) → Bytes k.name → drop at s ≡ 0 ∷ (key_numbers k ++ (a ∷ rest)) → ReadCall p given s at (add k a) rest
  unfolding fixed_of call_at row_call
  add_read k a b e =
      let small : 0 < 3 = omega arith in
      let kind = row-kind s at 0 k (a ∷ rest) small b e in
      let size = row-size s at 0 k (a ∷ rest) small b e in
      let more = row_more s at 0 k (a ∷ rest) small b e in
      let room = row_room s at 0 k (a ∷ rest) small b e in
      let in-script = row-whole s at 0 k (a ∷ rest) small b e in
      let end : at + 5 + length k.name ≡ call_end s at = call-whole s at (sym kind) refl (sym size) (omega arith) in
      let address : get_or s (at + 4 + length k.name) 0 ≡ a = from_first s (at + 4 + length k.name) (a ∷ rest) more in
      record {
        there = λ x. absurd (omega arith);
        call = rw (kind, size, row-key s at 0 k (a ∷ rest) small b e, address) refl;
        after =
            ap (λ (i : ℕ). drop i s) (sym end ∙ (let z : at + 5 + length k.name ≡ at + 4 + length k.name + 1 = omega arith in z))
            ∙ from-drop s (at + 4 + length k.name) (a ∷ rest) more 1;
      }

  remove-read : (k : Key) → Bytes k.name → drop at s ≡ 1 ∷ (key_numbers k ++ rest) → ReadCall p given s at (remove k) rest
  unfolding fixed_of call_at row_call
  remove-read k b e =
      let small : 1 < 3 = omega arith in
      let kind = row-kind s at 1 k rest small b e in
      let size = row-size s at 1 k rest small b e in
      let end : at + 4 + length k.name ≡ call_end s at = call-whole s at (sym kind) refl (sym size) (row-whole s at 1 k rest small b e) in
      record {
        there = λ x. absurd (omega arith);
        call = rw (kind, row-key s at 1 k rest small b e) refl;
        after = ap (λ (i : ℕ). drop i s) (sym end) ∙ row_more s at 1 k rest small b e;
      }

  look-read : (k : Key) → Bytes k.name → drop at s ≡ 2 ∷ (key_numbers k ++ rest) → ReadCall p given s at (look k) rest
  unfolding fixed_of call_at row_call
  look-read k b e =
      let small : 2 < 3 = omega arith in
      let kind = row-kind s at 2 k rest small b e in
      let size = row-size s at 2 k rest small b e in
      let end : at + 4 + length k.name ≡ call_end s at = call-whole s at (sym kind) refl (sym size) (row-whole s at 2 k rest small b e) in
      record {
        there = λ x. absurd (omega arith);
        call = rw (kind, row-key s at 2 k rest small b e) refl;
        after = ap (λ (i : ℕ). drop i s) (sym end) ∙ row_more s at 2 k rest small b e;
      }

  fill-read : (n : ℕ) → drop at s ≡ 3 ∷ (n ∷ rest) → ReadCall p given s at (fill n p given) rest
  unfolding fixed_of call_at
  fill-read n e =
      let kind = from_first s at (3 ∷ (n ∷ rest)) e in
      let none = no_name s at (omega arith) in
      let l = from-length s at (3 ∷ (n ∷ rest)) e in
      let end : at + 2 + 0 ≡ call_end s at = call-whole s at (sym kind) refl none (omega arith) in
      let two : call_end s at ≡ at + 2 = omega arith in
      record {
        there = λ x. absurd (omega arith);
        call = rw (kind, from-get_d s at (3 ∷ (n ∷ rest)) e 1) refl;
        after = ap (λ (i : ℕ). drop i s) two ∙ from-drop s at (3 ∷ (n ∷ rest)) e 2;
      }

  -- any of them
  call-read : (c : Call) → Asked p given c → drop at s ≡ call_numbers c ++ rest → ReadCall p given s at c rest
  unfolding call_numbers
  call-read (add k a) b e = add_read k a b (e ∙ ap (λ (l : List ℕ). 0 ∷ l) (append_assoc (key_numbers k) (a ∷ []) rest))
  call-read (remove k) b e = remove-read k b e
  call-read (look k) b e = look-read k b e
  call-read (fill n m l) b e = rw (b.0, b.1) (fill-read n e)
  call-read (count n) b e = absurd b
  call-read (list n l) b e = absurd b

-- ---- a list of calls

module _ (p : Places) (given : ℕ) where
  -- from where a list's numbers begin and are all that is left, its calls are read
  encoded-from : (cs : List Call) (n : ℕ) (s : List ℕ) (at : ℕ) → AllAsked p given cs → length cs ≤ n → drop at s ≡ encode cs → calls_from p given n s at ≡ cs
  unfolding encode
  encoded-from [] n s at b h e =
      let l = from-length s at [] e in
      calls-none p given s n at (sym (call_none s at (omega arith)))
  encoded-from (c ∷ cs) zero s at b h e = absurd (omega arith)
  encoded-from (c ∷ cs) (suc n) s at b h e =
      let r = call-read p given s at (encode cs) c b.0 e in
      calls-more p given s n at r.there ∙ ap (λ (k : Call). k ∷ calls_from p given n s (call_end s at)) r.call
      ∙ ap (λ (l : List Call). c ∷ l) (encoded-from cs n s (call_end s at) b.1 (omega arith) r.after)

  -- a call has a number
  call-numbers : (c : Call) → Asked p given c → 1 ≤ length (call_numbers c)
  unfolding call_numbers
  call-numbers (add k a) b = omega arith
  call-numbers (remove k) b = omega arith
  call-numbers (look k) b = omega arith
  call-numbers (fill n m l) b = omega arith
  call-numbers (count n) b = absurd b
  call-numbers (list n l) b = absurd b

  -- a list has no more calls than numbers
  encode-longer : (cs : List Call) → AllAsked p given cs → length cs ≤ length (encode cs)
  unfolding encode
  encode-longer [] b = omega arith
  encode-longer (c ∷ cs) b =
      let a = length-append (call_numbers c) (encode cs) in
      let o = call-numbers c b.0 in
      let h = encode-longer cs b.1 in
      omega arith

  -- every list of the request's calls is the list of some numbers
  pub encode-decode : (cs : List Call) → AllAsked p given cs → calls_of p given (encode cs) ≡ cs
  unfolding calls_of
  encode-decode cs b = encoded-from cs (length (encode cs)) (encode cs) 0 b (encode-longer cs b) refl
