-- The branch words of a section, in the raw bytes of an object and in the file. Assumes nothing.
use Prim.Native.Nat.{ℕ, zero, suc, ◌+◌, ◌-◌, ◌*◌, ◌≤◌, ◌<◌}
use mathlib.Core.Path.{◌≡◌, refl, sym, ◌∙◌, ap, ap₂}
use mathlib.Core.List.{List, ◌++◌}
use native.Mathlib.Decide.{ℕ_discrete}
use native.Mathlib.Omega.{arith}
use lib.ListN.{length, get_or, drop, get_or-append}
use lib.Seq.{get_or-append-add, get_or-take, get_or-drop}
use Rattle.word.specs.Number.{field_at}
use Rattle.word.proofs.Number.{field-four}
use Rattle.header.specs.declared.Summary.{Summary}
use Rattle.header.specs.Inside.{Inside}
use Rattle.section_relocation.specs.declared.ObjectSection.{ObjectSection}
use Rattle.object.specs.Sections.{bytes_before, object_section}
use Rattle.object.specs.Check.{sections_check, tables_check}
use Rattle.object.proofs.Sections.{bytes-more, part-ready}
use Rattle.object_plan.specs.Object.{raw_of, raw_in}
use Rattle.object_plan.proofs.Sound.{grows, raw-one, raw-whole}
use Rattle.std.specs.Prelude.{Ok}

-- words of the same four bytes
word_same : (i j : ℕ) (xs ys : List ℕ) → i + 4 ≤ length xs → j + 4 ≤ length ys → ((n : ℕ) → n < 4 → get_or xs (i + n) 0 ≡ get_or ys (j + n) 0) → field_at 4 i xs ≡ field_at 4 j ys
word_same i j xs ys a b h = field-four i xs a ∙ bytes ∙ sym (field-four j ys b)
  where
    first : get_or xs i 0 ≡ get_or ys j 0
    first = let p : i ≡ i + 0 = omega arith in let q : j + 0 ≡ j = omega arith in ap (λ (n : ℕ). get_or xs n 0) p ∙ h 0 (omega arith) ∙ ap (λ (n : ℕ). get_or ys n 0) q

    bytes : get_or xs i 0 * 16777216 + get_or xs (i + 1) 0 * 65536 + get_or xs (i + 2) 0 * 256 + get_or xs (i + 3) 0
        ≡ get_or ys j 0 * 16777216 + get_or ys (j + 1) 0 * 65536 + get_or ys (j + 2) 0 * 256 + get_or ys (j + 3) 0
    bytes = rw (first, h 1 (omega arith), h 2 (omega arith), h 3 (omega arith)) refl

module _ (file : List ℕ) (y : Summary) (inside : Inside file y) (sections : sections_check (length file) y ≡ Ok tt) (tables : tables_check file y ≡ Ok tt) where
  abbrev part : ℕ → ObjectSection
  part k = object_section (length file) y k

  abbrev starts : ℕ → ℕ
  starts k = bytes_before (length file) y k

  -- a byte of a section, by its place among the section's own
  own-byte : (k i : ℕ) (rest : List ℕ) → k < y.count → i < (part k).size → get_or (raw_of file (part k) ++ rest) i 0 ≡ get_or file ((part k).raw.0 + i) 0
  own-byte k i rest l h =
      get_or-append (raw_of file (part k)) rest 0 i (omega (arith, raw-one file y inside sections tables k l))
      ∙ get_or-take (part k).size (drop (part k).raw.0 file) i 0 h
      ∙ get_or-drop (part k).raw.0 file i 0

  raw-byte : (k i j n : ℕ) → i < (part k).size → j ≤ k → k < j + n → j + n ≤ y.count
      → get_or (raw_in file y j n) (starts k - starts j + i) 0 ≡ get_or file ((part k).raw.0 + i) 0
  unfolding raw_in
  raw-byte k i j zero h a b c = absurd (omega arith)
  raw-byte k i j (suc n) h a b c = by_place (λ u. raw-byte k i (suc j) n h (omega arith) (omega arith) (omega arith)) (ℕ_discrete j k)
    where
      rest : List ℕ
      rest = raw_in file y (suc j) n

      by_place : (j < k → get_or rest (starts k - starts (suc j) + i) 0 ≡ get_or file ((part k).raw.0 + i) 0) → Dec (j ≡ k)
          → get_or (raw_of file (part j) ++ rest) (starts k - starts j + i) 0 ≡ get_or file ((part k).raw.0 + i) 0
      by_place more (yes e) =
          let z : starts k - starts j + i ≡ i = omega (arith, ap starts e) in
          ap₂ (λ (p : ℕ) (m : ℕ). get_or (raw_of file (part p) ++ rest) m 0) e z ∙ own-byte k i rest (omega arith) h
      by_place more (no e) =
          let f : suc j + (k - suc j) ≡ k = omega arith in
          let g : starts (suc j) ≤ starts k = omega (arith, grows file y inside sections tables (suc j) (k - suc j), ap starts f) in
          let z : starts k - starts j + i ≡ length (raw_of file (part j)) + (starts k - starts (suc j) + i) =
          omega (arith, raw-one file y inside sections tables j (omega arith), bytes-more (length file) y j) in
          ap (λ (m : ℕ). get_or (raw_of file (part j) ++ rest) m 0) z
          ∙ get_or-append-add (raw_of file (part j)) rest (starts k - starts (suc j) + i) 0 ∙ more (omega arith)

  -- the word of a section at an offset of the buffer: in the raw bytes, and in the file
  pub raw_word : (k off : ℕ) → k < y.count → starts k ≤ off → off + 4 ≤ starts (suc k)
      → field_at 4 off (raw_in file y 0 y.count) ≡ field_at 4 ((part k).raw.0 + (off - starts k)) file
  unfolding bytes_before
  raw_word k off l a b =
      word_same off ((part k).raw.0 + (off - starts k)) (raw_in file y 0 y.count) file
      (omega (arith, raw-whole file y inside sections tables, ends)) (omega (arith, (part-ready file y inside sections k l).raw (omega (arith, bytes-more (length file) y k)), bytes-more (length file) y k)) byte
    where
      ends : starts (suc k) ≤ starts y.count
      ends = let e : suc k + (y.count - suc k) ≡ y.count = omega arith in omega (arith, grows file y inside sections tables (suc k) (y.count - suc k), ap starts e)

      byte : (n : ℕ) → n < 4 → get_or (raw_in file y 0 y.count) (off + n) 0 ≡ get_or file ((part k).raw.0 + (off - starts k) + n) 0
      byte n h =
          let z : starts 0 ≡ 0 = unfold bytes_before in refl in
          let p : off + n ≡ starts k - starts 0 + (off - starts k + n) = omega arith in
          let q : (part k).raw.0 + (off - starts k + n) ≡ (part k).raw.0 + (off - starts k) + n = omega arith in
          ap (λ (m : ℕ). get_or (raw_in file y 0 y.count) m 0) p
          ∙ raw-byte k (off - starts k + n) 0 y.count (omega (arith, bytes-more (length file) y k)) (omega arith) (omega arith) (omega arith)
          ∙ ap (λ (m : ℕ). get_or file m 0) q
