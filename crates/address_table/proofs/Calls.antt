-- Each call's answer and memory, by the tests that the code makes. Assumes nothing.
use mathlib.Core.Path.{◌≡◌, refl, sym, ◌∙◌, ap}
use mathlib.Core.List.{List}
use Prim.Native.Nat.{ℕ, ◌+◌, ◌*◌, ◌≤◌, ◌<◌}
use borrow.Author.Tests.{eq-eqb, ne_eqb, lt-ltb, le-ltb}
use lib.ListN.{get_or, set}
use Rattle.refusal.specs.declared.Refusal.{Refusal}
use Rattle.refusal.specs.declared.Refusal.TheVariants as refusal
use Rattle.refusal.specs.Order.{◌or_else◌, refuse_if, if_accepted, by_verdict}
use Rattle.update.specs.Update.{Bytes}
use Rattle.address_book.specs.Book.{Key, key, Book, Entry, none, at, find}
use Rattle.address_book.specs.Call.{Call, add, remove, look, imported, is_none, address_or, address_at, key_check, call_check, check_of, value_in, number_in, number_of}
use Rattle.address_row.specs.Words.{key_words}
use Rattle.address_row.proofs.Good.{good-key}
use Rattle.address_table.specs.Table.{taken_in, book_of, place_of, place_in, with_address, with_row, without_row, contents_applied, contents_after}
use Rattle.address_table.proofs.Memory.{length-book, look_none, look-found}
use Rattle.std.specs.Prelude.{Err, Ok, Result}
use Rattle.refusal.specs.Verdict.{Verdict}

-- ---- a key that is refused

pub find-refused : (k : Key) (b : Book) (x : Refusal) → key_check k ≡ Err x → Err x ≡ number_of b (look k)
unfolding number_in call_check
find-refused k b x e = rw e refl

-- what a call answers, and what it leaves
abbrev pub Called : List ℕ → List ℕ → Call → Verdict → Type 0
Called m o c v = (v ≡ check_of (book_of m) c) × (o ≡ contents_after m c)

no_call : (m : List ℕ) (c : Call) (x : Refusal) → check_of (book_of m) c ≡ Err x → Called m m c (Err x)
unfolding contents_after
no_call m c x e = (sym e, rw e refl)

yes-call : (m o : List ℕ) (c : Call) → check_of (book_of m) c ≡ Ok tt → o ≡ contents_applied c m → Called m o c (Ok tt)
unfolding contents_after
yes-call m o c e h = (sym e, rw e h)

pub add-refused : (k : Key) (a : ℕ) (m : List ℕ) (x : Refusal) → key_check k ≡ Err x → Called m m (add k a) (Err x)
unfolding call_check
add-refused k a m x e = no_call m (add k a) x (rw e refl)

pub remove-refused : (k : Key) (m : List ℕ) (x : Refusal) → key_check k ≡ Err x → Called m m (remove k) (Err x)
unfolding call_check
remove-refused k m x e = no_call m (remove k) x (rw e refl)

-- ---- the calls

module _ (k : Key) (v : key_check k ≡ Ok tt) (b : Bytes k.name) (m : List ℕ) {ws : List ℕ} {n p : ℕ} (w : ws ≡ key_words k) (t : n ≡ taken_in m) (e : p ≡ place_of ws m 0 n) where
  place : p ≡ place_in m k
  place = rw (← t, ← w) e

  there : p < n → place_in m k < taken_in m
  there h = rw (← place, ← t) h

  found_at : p < n → find (book_of m) k ≡ at (get_or m (place_in m k * 8 + 7) 0)
  found_at h = look-found k (good-key k v b) m (there h)

  none-there : n ≤ p → find (book_of m) k ≡ none
  none-there h = look_none k (good-key k v b) m (rw (← place, ← t) h)

  pub found-there : p < n → Ok (get_or m (p * 8 + 7) 0) ≡ number_of (book_of m) (look k)
  unfolding number_in call_check value_in
  found-there h = rw (v, found_at h, place) refl

  pub found_none : n ≤ p → Err refusal.Absent ≡ number_of (book_of m) (look k)
  unfolding number_in call_check
  found_none h = rw (v, none-there h) refl

  pub add-there : {o : List ℕ} (a : ℕ) → p < n → o ≡ set m (p * 8 + 7) a → Called m o (add k a) (Ok tt)
  unfolding call_check contents_applied with_address
  add-there {o} a h q =
      yes-call m o (add k a) (rw (v, found_at h) refl) (rw (lt-ltb (place_in m k) (taken_in m) (there h), ← place) q)

  pub add-full : (a : ℕ) → n ≤ p → n ≡ 512 → Called m m (add k a) (Err refusal.Full)
  unfolding call_check
  add-full a h q = no_call m (add k a) refusal.Full (rw (v, none-there h, length-book m, eq-eqb (taken_in m) 512 (sym t ∙ q)) refl)

  pub add-new : {o : List ℕ} (a : ℕ) → n ≤ p → (n ≡ 512 → ⊥) → o ≡ with_row m n ws a → Called m o (add k a) (Ok tt)
  unfolding call_check contents_applied
  add-new {o} a h q r =
      let free : taken_in m ≡ 512 → ⊥ = λ x. q (t ∙ x) in
      let past : taken_in m ≤ place_in m k = rw (← place, ← t) h in
      yes-call m o (add k a) (rw (v, none-there h, length-book m, ne_eqb (taken_in m) 512 free) refl)
      (rw (le-ltb (place_in m k) (taken_in m) past, ← t, ← w) r)

  pub remove-there : {o : List ℕ} → p < n → o ≡ without_row m p n → Called m o (remove k) (Ok tt)
  unfolding call_check contents_applied
  remove-there {o} h r = yes-call m o (remove k) (rw (v, found_at h) refl) (rw (← place, ← t) r)

  pub remove-none : n ≤ p → Called m m (remove k) (Err refusal.Absent)
  unfolding call_check
  remove-none h = no_call m (remove k) refusal.Absent (rw (v, none-there h) refl)

-- ---- a fill's address by a look-up

address_by : ℕ → Result ℕ Refusal → ℕ
address_by v (Ok a) = a
address_by v (Err x) = v

by-find : (v : ℕ) (c : Verdict) (e : Entry) → if_accepted c (address_or v e) v ≡ address_by v (by_verdict (c or_else refuse_if (is_none e) refusal.Absent) (Ok (address_or 0 e)) Err)
unfolding address_by
by-find v (Ok tt) none = refl
by-find v (Ok tt) (at a) = refl
by-find v (Err x) e = refl

fill-by-find : (n f v : ℕ) (name : List ℕ) (b : Book) → address_at b n (imported f name v) ≡ address_by v (number_of b (look (key n f name)))
unfolding address_at number_in call_check value_in
fill-by-find n f v name b = by-find v (key_check (key n f name)) (find b (key n f name))

pub fill-found : (n f v : ℕ) (name : List ℕ) (b : Book) {r : Result ℕ Refusal} {a : ℕ} → r ≡ number_of b (look (key n f name)) → r ≡ Ok a → a ≡ address_at b n (imported f name v)
unfolding address_by
fill-found n f v name b e h = sym (fill-by-find n f v name b ∙ ap (address_by v) (sym e ∙ h))

pub fill-recorded : (n f v : ℕ) (name : List ℕ) (b : Book) {r : Result ℕ Refusal} {x : Refusal} → r ≡ number_of b (look (key n f name)) → r ≡ Err x → v ≡ address_at b n (imported f name v)
unfolding address_by
fill-recorded n f v name b e h = sym (fill-by-find n f v name b ∙ ap (address_by v) (sym e ∙ h))
