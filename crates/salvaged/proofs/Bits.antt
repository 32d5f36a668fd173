-- Every bit that no change sets is the file's. Assumes nothing.
use mathlib.Core.Path.{◌≡◌, refl, sym, ◌∙◌, ap, subst}
use mathlib.Core.Logic.{◌⊎◌, inl, inr}
use mathlib.Core.List.{List, [], ◌∷◌, ◌++◌}
use Prim.Native.Nat.{ℕ, suc, ◌+◌, ◌-◌, ◌*◌, ◌/◌, ◌%◌, ◌^◌, ◌≤◌, ◌<◌}
use native.Mathlib.Decide.{ℕ_discrete, dec_le, dec_lt}
use native.Mathlib.Omega.{arith}
use lib.ListN.{length, get_or}
use lib.Dec.{lit≤}
use Rattle.word.specs.Number.{field_at, bytes_in, field_in}
use Rattle.word.proofs.Number.{field-split, field-one}
use Rattle.update.specs.Update.{Bytes, bytes_of_number, put_field}
use Rattle.update.proofs.Laws.{length-put, put-outside, put-inside}
use Rattle.format.specs.declared.Format.{Format}
use Rattle.format.specs.declared.Format.TheVariants.{Xcoff32, Xcoff64}
use Rattle.format.specs.declared.SymbolIndex.{SymbolIndex}
use Rattle.format.specs.declared.SymbolLayout.{SymbolLayout}
use Rattle.format.specs.Layout.{symbol_layout, symbol_length}
use Rattle.refusal.specs.declared.Refusal.{Refusal}
use Rattle.refusal.specs.Order.{by_verdict}
use Rattle.symbol.specs.declared.Tables.{Tables}
use Rattle.symbol.specs.declared.SymbolEntry.{SymbolEntry}
use Rattle.symbol.specs.Entry.{OpenTables, entry_start, entry_at, entry_of}
use Rattle.symbol.specs.Symbol.{aux_check, scnum_check, name_check, visibility_check}
use Rattle.symbol.proofs.Opened.{entry_whole}
use Rattle.frame.proofs.Change.{put_local}
use Rattle.mend.specs.Mend.{Mend, Change, whole, aux_left, without_visibility, mends_of, change_of, changes_by, changes_at, change_start, put, put_all}
use Rattle.mend.proofs.Changes.{put-append}
use Rattle.salvage.specs.Salvage.{changes_of}
use Rattle.salvaged.specs.Claim.{bit_of, SetsBit, Unset}
use Rattle.salvaged.proofs.Places.{Ascending, FileFrom, entry-local}
use Rattle.std.specs.Prelude.{Err, Ok}
use Rattle.refusal.specs.Verdict.{Verdict}

-- ---- a type without its visibility

bits-high : (x y : ℕ) → y < 256 → (x * 256 + y) / 0x1000 ≡ x / 16
bits-high x y h = omega arith

without-high : (x y q : ℕ) → y < 256 → q * 16 ≤ x → (x * 256 + y - q * 0x1000) / 256 ≡ x - q * 16
without-high x y q h k = omega arith

bits_most : (x : ℕ) → x / 16 % 8 * 16 ≤ x
bits_most x = omega arith

high_byte : (x y : ℕ) → y < 256 → x < 256 → without_visibility (x * 256 + y) / 256 % 256 ≡ x - x / 16 % 8 * 16
unfolding without_visibility
high_byte x y h k =
    rw (bits-high x y h, without-high x y (x / 16 % 8) h (bits_most x)) (small (x - x / 16 % 8 * 16) (let m = bits_most x in omega arith))
  where
    small : (n : ℕ) → n < 256 → n % 256 ≡ n
    small n l = omega arith

low_byte : (x y : ℕ) → y < 256 → without_visibility (x * 256 + y) % 256 ≡ y
unfolding without_visibility
low_byte x y h = omega arith

-- bits 4 to 6 of its first byte are cleared, and no other
cleared-0 : (x : ℕ) → bit_of (x - x / 16 % 8 * 16) 0 ≡ bit_of x 0
cleared-0 x = omega arith

cleared-1 : (x : ℕ) → bit_of (x - x / 16 % 8 * 16) 1 ≡ bit_of x 1
cleared-1 x = omega arith

cleared-2 : (x : ℕ) → bit_of (x - x / 16 % 8 * 16) 2 ≡ bit_of x 2
cleared-2 x = omega arith

cleared-3 : (x : ℕ) → bit_of (x - x / 16 % 8 * 16) 3 ≡ bit_of x 3
cleared-3 x = omega arith

cleared-7 : (x : ℕ) → bit_of (x - x / 16 % 8 * 16) 7 ≡ bit_of x 7
cleared-7 x = omega arith

cleared : (x b : ℕ) → b < 8 → (12 ≤ 8 + b → 8 + b < 15 → ⊥) → bit_of (x - x / 16 % 8 * 16) b ≡ bit_of x b
cleared x b h u = by_bit (ℕ_discrete b 0) (ℕ_discrete b 1) (ℕ_discrete b 2) (ℕ_discrete b 3) (ℕ_discrete b 7)
  where
    by_bit : Dec (b ≡ 0) → Dec (b ≡ 1) → Dec (b ≡ 2) → Dec (b ≡ 3) → Dec (b ≡ 7) → bit_of (x - x / 16 % 8 * 16) b ≡ bit_of x b
    by_bit (yes p) q r s z = rw p (cleared-0 x)
    by_bit (no p) (yes q) r s z = rw q (cleared-1 x)
    by_bit (no p) (no q) (yes r) s z = rw r (cleared-2 x)
    by_bit (no p) (no q) (no r) (yes s) z = rw s (cleared-3 x)
    by_bit (no p) (no q) (no r) (no s) (yes z) = rw z (cleared-7 x)
    by_bit (no p) (no q) (no r) (no s) (no z) = absurd (u (omega arith) (omega arith))

two_bytes : (off : ℕ) (bs : List ℕ) → off + 2 ≤ length bs → field_at 2 off bs ≡ get_or bs off 0 * 256 + get_or bs (off + 1) 0
two_bytes off bs h = let s = field-split 1 1 off bs h in let a = field-one off bs (omega arith) in let b = field-one (off + 1) bs (omega arith) in omega arith

-- put into a file that holds the type's bytes still
module _ (file mid : List ℕ) (off k b : ℕ) (bytes : Bytes file) (n : off + 2 ≤ length file) (l : length mid ≡ length file) (e : get_or mid k 0 ≡ get_or file k 0) (h : b < 8) where
  abbrev v : ℕ
  v = without_visibility (field_at 2 off file)

  abbrev one : ℕ
  one = get_or file off 0

  abbrev two : ℕ
  two = get_or file (off + 1) 0

  first : k ≡ off → (12 ≤ 8 + b → 8 + b < 15 → ⊥) → bit_of (get_or (put_field 2 off v mid) k 0) b ≡ bit_of (get_or file k 0) b
  first p u =
      let z : k - off ≡ 0 = omega arith in
      let q : get_or (bytes_of_number 2 v) 0 0 ≡ v / 256 % 256 = unfold bytes_of_number in refl in
      ap (λ (m : ℕ). bit_of m b) (put-inside 2 off v k mid (rw l n) (omega arith) (omega arith) ∙ ap (λ (m : ℕ). get_or (bytes_of_number 2 v) m 0) z ∙ q ∙ ap (λ (m : ℕ). without_visibility m / 256 % 256) (two_bytes off file n) ∙ high_byte one two (bytes (off + 1)) (bytes off))
      ∙ cleared one b h u
      ∙ ap (λ (m : ℕ). bit_of (get_or file m 0) b) (sym p)

  second : k ≡ off + 1 → bit_of (get_or (put_field 2 off v mid) k 0) b ≡ bit_of (get_or file k 0) b
  second p =
      let z : k - off ≡ 1 = omega arith in
      let q : get_or (bytes_of_number 2 v) 1 0 ≡ v / 256 ^ 0 % 256 = unfold bytes_of_number in refl in
      let w : v / 256 ^ 0 % 256 ≡ v % 256 = omega arith in
      ap (λ (m : ℕ). bit_of m b) (put-inside 2 off v k mid (rw l n) (omega arith) (omega arith) ∙ ap (λ (m : ℕ). get_or (bytes_of_number 2 v) m 0) z ∙ q ∙ w ∙ ap (λ (m : ℕ). without_visibility m % 256) (two_bytes off file n) ∙ low_byte one two (bytes (off + 1)))
      ∙ ap (λ (m : ℕ). bit_of (get_or file m 0) b) (sym p)

  type-bit : (off ≤ k → k < off + 2 → 12 ≤ 8 * (off + 2 - (k + 1)) + b → 8 * (off + 2 - (k + 1)) + b < 15 → ⊥) → bit_of (get_or (put_field 2 off v mid) k 0) b ≡ bit_of (get_or file k 0) b
  type-bit u = by_place (dec_lt k off) (ℕ_discrete k off) (ℕ_discrete k (off + 1))
    where
      outside : (k < off) ⊎ (off + 2 ≤ k) → bit_of (get_or (put_field 2 off v mid) k 0) b ≡ bit_of (get_or file k 0) b
      outside p = ap (λ (m : ℕ). bit_of m b) (put-outside 2 off v k mid p ∙ e)

      by_place : Dec (k < off) → Dec (k ≡ off) → Dec (k ≡ off + 1) → bit_of (get_or (put_field 2 off v mid) k 0) b ≡ bit_of (get_or file k 0) b
      by_place (yes p) q r = outside (inl p)
      by_place (no p) (yes q) r = first q (λ c d. u (omega arith) (omega arith) (omega arith) (omega arith))
      by_place (no p) (no q) (yes r) = second r
      by_place (no p) (no q) (no r) = outside (inr (omega arith))

-- ---- one entry

length-all : (t : Tables) (cs : List Change) (bs : List ℕ) → length (put_all t cs bs) ≡ length bs
unfolding put_all put
length-all t [] bs = refl
length-all t (c ∷ cs) bs = length-all t cs (put t c bs) ∙ length-put (bytes_in c.mend.place.width) (change_start t c) c.mend.value bs

module _ (t : Tables) (k b : ℕ) where
  pub unset-first : (cs ds : List Change) → Unset t k b (cs ++ ds) → Unset t k b cs
  unset-first [] ds u = tt
  unset-first (c ∷ cs) ds u = (u.0, unset-first cs ds u.1)

  pub unset-rest : (cs ds : List Change) → Unset t k b (cs ++ ds) → Unset t k b ds
  unset-rest [] ds u = u
  unset-rest (c ∷ cs) ds u = unset-rest cs ds u.1

  -- a change of a whole field sets every bit of it
  whole-kept : (i : SymbolIndex) (v : Verdict) (ms : List Mend) (m : Mend) → m.low ≡ 0 → m.high ≡ 8 * bytes_in m.place.width → b < 8 → (bs : List ℕ)
      → Unset t k b (by_verdict v (changes_by i ms) (λ x. change_of i m x ∷ changes_by i ms))
      → ((bs : List ℕ) → Unset t k b (changes_by i ms) → get_or (put_all t (changes_by i ms) bs) k 0 ≡ get_or bs k 0)
      → get_or (put_all t (by_verdict v (changes_by i ms) (λ x. change_of i m x ∷ changes_by i ms)) bs) k 0 ≡ get_or bs k 0
  whole-kept i (Ok tt) ms m p q h bs u later = later bs u
  whole-kept i (Err x) ms m p q h bs u later =
      unfold put_all put in
      later (put_field (bytes_in m.place.width) (change_start t (change_of i m x)) m.value bs) u.1
      ∙ (put_local (bytes_in m.place.width) (change_start t (change_of i m x)) m.value).outside bs k
      (λ z. let a = z.low in let d = z.high in u.0 (record { held = z; low = omega arith; high = omega arith }))

module _ (i : SymbolIndex) where
  changes-append : (ms ns : List Mend) → changes_by i (ms ++ ns) ≡ changes_by i ms ++ changes_by i ns
  unfolding changes_by
  changes-append [] ns = refl
  changes-append (m ∷ ms) ns = by-case m.verdict (changes-append ms ns)
    where
      by-case : (v : Verdict) → changes_by i (ms ++ ns) ≡ changes_by i ms ++ changes_by i ns
          → by_verdict v (changes_by i (ms ++ ns)) (λ x. change_of i m x ∷ changes_by i (ms ++ ns)) ≡ by_verdict v (changes_by i ms) (λ x. change_of i m x ∷ changes_by i ms) ++ changes_by i ns
      by-case (Ok tt) q = q
      by-case (Err x) q = ap (λ (cs : List Change). change_of i m x ∷ cs) q

module _ (file : List ℕ) (t : Tables) (i : SymbolIndex) (k b : ℕ) (h : b < 8) (e : SymbolEntry) (l : SymbolLayout) where
  abbrev wholes : List Mend
  wholes = whole (aux_check t.count i e) l.numaux (aux_left t i) ∷ whole (scnum_check t.nscns i e) l.scnum 0 ∷ whole (name_check file t i e) l.offset 0 ∷ []

  abbrev type_mend : Mend
  type_mend = record { verdict = visibility_check t.version2 i e; place = l.ntype; low = 12; high = 15; value = without_visibility e.ntype }

  wholes-kept : (bs : List ℕ) → Unset t k b (changes_by i wholes) → get_or (put_all t (changes_by i wholes) bs) k 0 ≡ get_or bs k 0
  unfolding changes_by
  wholes-kept bs u =
      whole-kept t k b i (aux_check t.count i e) (whole (scnum_check t.nscns i e) l.scnum 0 ∷ whole (name_check file t i e) l.offset 0 ∷ []) (whole (aux_check t.count i e) l.numaux (aux_left t i)) refl refl h bs u
      (λ bs u. whole-kept t k b i (scnum_check t.nscns i e) (whole (name_check file t i e) l.offset 0 ∷ []) (whole (scnum_check t.nscns i e) l.scnum 0) refl refl h bs u
      (λ bs u. whole-kept t k b i (name_check file t i e) [] (whole (name_check file t i e) l.offset 0) refl refl h bs u
      (λ bs u. unfold changes_by put_all in refl)))

  -- the bits of an entry's changes, of which its type's is the last
  entry-by : Bytes file → (l.ntype.offset + bytes_in l.ntype.width ≤ symbol_length) → bytes_in l.ntype.width ≡ 2 → entry_start t i.0 + symbol_length ≤ length file → e.ntype ≡ field_in l.ntype (entry_start t i.0) file
      → Unset t k b (changes_by i (mends_of l file t i e)) → bit_of (get_or (put_all t (changes_by i (mends_of l file t i e)) file) k 0) b ≡ bit_of (get_or file k 0) b
  entry-by bytes inside w n q u =
      ap (λ (bs : List ℕ). bit_of (get_or bs k 0) b) (ap (λ (cs : List Change). put_all t cs file) (changes-append i wholes (type_mend ∷ [])) ∙ put-append t (changes_by i wholes) (changes_by i (type_mend ∷ [])) file)
      ∙ last (unset-rest t k b (changes_by i wholes) (changes_by i (type_mend ∷ [])) both)
    where
      both : Unset t k b (changes_by i wholes ++ changes_by i (type_mend ∷ []))
      both = subst (λ (cs : List Change). Unset t k b cs) (changes-append i wholes (type_mend ∷ [])) u

      mid : List ℕ
      mid = put_all t (changes_by i wholes) file

      kept : get_or mid k 0 ≡ get_or file k 0
      kept = wholes-kept file (unset-first t k b (changes_by i wholes) (changes_by i (type_mend ∷ [])) both)

      same : length mid ≡ length file
      same = length-all t (changes_by i wholes) file

      off : ℕ
      off = entry_start t i.0 + l.ntype.offset

      none : {bs : List ℕ} → put_all t (changes_by i []) bs ≡ bs
      none = unfold changes_by put_all in refl

      is-put : (x : Refusal) → put t (change_of i type_mend x) mid ≡ put_field (bytes_in l.ntype.width) off (without_visibility e.ntype) mid
      is-put x = unfold put in refl

      one-put : (x : Refusal) → put_all t (change_of i type_mend x ∷ changes_by i []) mid ≡ put_all t (changes_by i []) (put t (change_of i type_mend x) mid)
      one-put x = unfold put_all in refl

      set : (x : Refusal) → (SetsBit t (change_of i type_mend x) k b → ⊥) → bit_of (get_or (put t (change_of i type_mend x) mid) k 0) b ≡ bit_of (get_or file k 0) b
      set x u =
          ap (λ (bs : List ℕ). bit_of (get_or bs k 0) b) (is-put x)
          ∙ ap (λ (m : ℕ). bit_of (get_or (put_field m off (without_visibility e.ntype) mid) k 0) b) w
          ∙ ap (λ (m : ℕ). bit_of (get_or (put_field 2 off (without_visibility m) mid) k 0) b) (q ∙ ap (λ (m : ℕ). field_at m off file) w)
          ∙ type-bit file mid off k b bytes (omega arith) same kept h
          (λ a d lo hi. u (record { held = record { low = a; high = omega arith }; low = rw w lo; high = rw w hi }))

      by-case : (v : Verdict) → Unset t k b (by_verdict v (changes_by i []) (λ x. change_of i type_mend x ∷ changes_by i []))
          → bit_of (get_or (put_all t (by_verdict v (changes_by i []) (λ x. change_of i type_mend x ∷ changes_by i [])) mid) k 0) b ≡ bit_of (get_or file k 0) b
      by-case (Ok tt) u = ap (λ (bs : List ℕ). bit_of (get_or bs k 0) b) none ∙ ap (λ (m : ℕ). bit_of m b) kept
      by-case (Err x) u = ap (λ (bs : List ℕ). bit_of (get_or bs k 0) b) (one-put x ∙ none) ∙ set x u.0

      last : Unset t k b (changes_by i (type_mend ∷ [])) → bit_of (get_or (put_all t (changes_by i (type_mend ∷ [])) mid) k 0) b ≡ bit_of (get_or file k 0) b
      last u = unfold changes_by in by-case type_mend.verdict u

-- ---- an entry of the table

module _ (file : List ℕ) (t : Tables) (bytes : Bytes file) (k b : ℕ) (h : b < 8) where
  entry-as : (f : Format) (i : SymbolIndex) → entry_start t i.0 + symbol_length ≤ length file → Unset t k b (changes_by i (mends_of (symbol_layout f) file t i (entry_at f (entry_start t i.0) file)))
      → bit_of (get_or (put_all t (changes_by i (mends_of (symbol_layout f) file t i (entry_at f (entry_start t i.0) file))) file) k 0) b ≡ bit_of (get_or file k 0) b
  entry-as Xcoff32 i n u = entry-by file t i k b h (entry_at Xcoff32 (entry_start t i.0) file) (symbol_layout Xcoff32) bytes (lit≤ tt) refl n (unfold entry_at in refl) u
  entry-as Xcoff64 i n u = entry-by file t i k b h (entry_at Xcoff64 (entry_start t i.0) file) (symbol_layout Xcoff64) bytes (lit≤ tt) refl n (unfold entry_at in refl) u

  entry-bit : OpenTables file t → (i : SymbolIndex) → i.0 < t.count → Unset t k b (changes_at file t i) → bit_of (get_or (put_all t (changes_at file t i) file) k 0) b ≡ bit_of (get_or file k 0) b
  unfolding changes_at entry_of
  entry-bit o i c u = entry-as t.format i (entry_whole file t i.0 o c) u

  -- ---- all of them

  pub bits-kept : OpenTables file t → (lo : ℕ) (is : List SymbolIndex) → Ascending file t lo is → (bs : List ℕ) → length bs ≡ length file → bit_of (get_or bs k 0) b ≡ bit_of (get_or file k 0) b → FileFrom file t lo bs
      → Unset t k b (changes_of file t is) → bit_of (get_or (put_all t (changes_of file t is) bs) k 0) b ≡ bit_of (get_or file k 0) b
  unfolding changes_of
  bits-kept o lo [] a bs l e from u = let z : put_all t [] bs ≡ bs = unfold put_all in refl in ap (λ (ys : List ℕ). bit_of (get_or ys k 0) b) z ∙ e
  bits-kept o lo (i ∷ is) a bs l e from u =
      ap (λ (ys : List ℕ). bit_of (get_or ys k 0) b) (put-append t (changes_at file t i) (changes_of file t is) bs)
      ∙ bits-kept o (suc i.0) is a.1 next long (by_place (dec_le (entry_start t i.0) k)) later (unset-rest t k b (changes_at file t i) (changes_of file t is) u)
    where
      next : List ℕ
      next = put_all t (changes_at file t i) bs

      long : length next ≡ length file
      long = (entry-local file t i).keeps bs ∙ l

      later : FileFrom file t (suc i.0) next
      later j p = (entry-local file t i).outside bs j (λ x. let z = x.high in absurd (omega arith)) ∙ from j (let q = a.0.0 in omega arith)

      by_place : Dec (entry_start t i.0 ≤ k) → bit_of (get_or next k 0) b ≡ bit_of (get_or file k 0) b
      by_place (yes p) =
          ap (λ (m : ℕ). bit_of m b) ((entry-local file t i).bytewise bs file k l (from k (let q = a.0.0 in omega arith)))
          ∙ entry-bit o i a.0.1 (unset-first t k b (changes_at file t i) (changes_of file t is) u)
      by_place (no p) = ap (λ (m : ℕ). bit_of m b) ((entry-local file t i).outside bs k (λ x. let z = x.low in absurd (omega arith))) ∙ e
