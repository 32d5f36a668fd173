-- The laws of names. Assumes nothing.
use Prim.Native.Nat.{ℕ, ◌+◌, ◌-◌, ◌≤◌, ◌<◌}
use mathlib.Core.Path.{◌≡◌, refl, sym, ap}
use mathlib.Core.Bool.{Bool, true, false, cond, not, ◌||◌, ◌&&◌}
use mathlib.Core.List.{List}
use native.Mathlib.Omega.{arith}
use borrow.Author.Tests.{lt-ltb, le-ltb, lt-leb, le-leb, ltb-true, ltb-false, leb-true, leb-false, ne_eqb}
use lib.Dec.{eqb, ltb, leb}
use lib.ListN.{length, drop}
use Rattle.word.specs.Zero.{first_zero, zero_end}
use Rattle.word.proofs.Zero.{zero-end-within, zero-known, zero-unknown}
use Rattle.word.proofs.Test.{either, or-second}
use Rattle.format.specs.declared.FileRange.{FileRange}
use Rattle.format.specs.declared.SymbolIndex.{SymbolIndex}
use Rattle.format.specs.Range.{range, bytes_of}
use Rattle.format.proofs.Ranges.{length_part}
use Rattle.refusal.specs.declared.Refusal.TheVariants.{Name}
use Rattle.refusal.specs.Order.{refuse_if}
use Rattle.refusal.specs.Part.{Within}
use Rattle.refusal.proofs.Order.{not-accepted}
use Rattle.format.specs.declared.NameField.{NameField}
use Rattle.format.specs.declared.NameField.TheVariants.{Short, Offset}
use Rattle.debug_section.specs.Debug.{has_string, string_range, DebugInside}
use Rattle.debug_section.proofs.Strings.{range_inside}
use Rattle.symbol.specs.declared.Tables.{Tables}
use Rattle.symbol.specs.declared.SymbolEntry.{SymbolEntry}
use Rattle.symbol.specs.Entry.{OpenTables}
use Rattle.symbol.specs.Name.{string_room, debug_room, is_debug_class, room_by, has_name}
use Rattle.symbol.specs.Symbol.{verdict_of, name_check}
use Rattle.symbol.proofs.Opened.{TablesInside, tables-inside, entry_whole}
use Rattle.std.specs.Prelude.{Err, Ok, Result}
use Rattle.refusal.specs.declared.Refusal.{Refusal}

-- ---- a string by its offset

module _ (file : List ℕ) (strings : FileRange) (o : ℕ) (i : SymbolIndex) where
  pub string-low : o < 4 → Err (Name i) ≡ string_room file strings o i
  unfolding string_room
  string-low h = rw (lt-ltb o 4 h)

  -- no zero, or no byte, is left in the table
  pub string-open : strings.length - o ≤ first_zero (drop o (bytes_of file strings)) → Err (Name i) ≡ string_room file strings o i
  unfolding string_room
  string-open z =
      either (λ (a : Result FileRange Refusal). Err (Name i) ≡ a) (ltb o 4 || leb strings.length o) (λ _. refl)
      (λ _. rw (le-leb (strings.length - o) (first_zero (drop o (bytes_of file strings))) z))

  pub string-found : 4 ≤ o → o < strings.length → first_zero (drop o (bytes_of file strings)) < strings.length - o → Ok (range (strings.start.0 + o) (strings.length - o)) ≡ string_room file strings o i
  unfolding string_room
  string-found low h z = rw (le-ltb o 4 low, lt-leb strings.length o h, lt-leb (strings.length - o) _ z)

  -- what is found lies inside the table
  pub string-below : verdict_of (string_room file strings o i) ≡ Ok tt → o < strings.length
  unfolding string_room
  string-below =
      either (λ (a : Result FileRange Refusal). verdict_of a ≡ Ok tt → o < strings.length) (ltb o 4 || leb strings.length o) (λ _ e. not-accepted e)
      (λ p _. leb-false strings.length o (or-second (ltb o 4) (leb strings.length o) p))

  pub string-accepted : verdict_of (string_room file strings o i) ≡ Ok tt → Ok (range (strings.start.0 + o) (strings.length - o)) ≡ string_room file strings o i
  unfolding string_room
  string-accepted =
      let P : Result FileRange Refusal → Type 0 = λ a. verdict_of a ≡ Ok tt → Ok (range (strings.start.0 + o) (strings.length - o)) ≡ a in
      either P (ltb o 4 || leb strings.length o) (λ _ e. not-accepted e)
      (λ _. either P (leb (strings.length - o) (first_zero (drop o (bytes_of file strings)))) (λ _ e. not-accepted e) (λ _ _. refl))

  -- the same by the place of the last zero
  module _ (inside : strings.start.0 + strings.length ≤ length file) where
    pub string-unended : zero_end (bytes_of file strings) ≤ o → Err (Name i) ≡ string_room file strings o i
    string-unended h = string-open (rw (length_part file strings inside) at (zero-unknown (bytes_of file strings) o h))

    pub string-ended : 4 ≤ o → o < zero_end (bytes_of file strings) → (Ok tt) ≡ verdict_of (string_room file strings o i)
    string-ended low h =
        let w = zero-end-within (bytes_of file strings) in
        let n = length_part file strings inside in
        ap verdict_of (string-found low (omega arith) (rw n at (zero-known (bytes_of file strings) o h)))

    -- NAME of a string by two comparisons
    pub string-judged : verdict_of (string_room file strings o i) ≡ refuse_if (not (leb 4 o && ltb o (zero_end (bytes_of file strings)))) (Name i)
    string-judged = by-low (leb 4 o) refl (ltb o (zero_end (bytes_of file strings))) refl
      where
        by-low : (a : Bool) → leb 4 o ≡ a → (b : Bool) → ltb o (zero_end (bytes_of file strings)) ≡ b → verdict_of (string_room file strings o i) ≡ refuse_if (not (a && b)) (Name i)
        by-low false p b q = ap verdict_of (sym (string-low (leb-false 4 o p)))
        by-low true p false q = ap verdict_of (sym (string-unended (ltb-false o _ q)))
        by-low true p true q = sym (string-ended (leb-true 4 o p) (ltb-true o _ q))

-- ---- NAME of an entry of an opened file, by comparisons

pub name-judged : (file : List ℕ) (t : Tables) (i : SymbolIndex) (e : SymbolEntry) → OpenTables file t → name_check file t i e ≡ refuse_if (not (has_name file t e.sclass e.name)) (Name i)
unfolding name_check room_by debug_room has_name
name-judged file t i e o = by_field e.name
  where
    h : TablesInside file t
    h = tables-inside file t o

    by-string : (z : Bool) (r : FileRange) → verdict_of (cond z (Ok r) (Err (Name i))) ≡ refuse_if (not z) (Name i)
    by-string true r = refl
    by-string false r = refl

    by-class : (a : ℕ) (d : Bool) → verdict_of (cond d (debug_room file t a i) (string_room file t.strings a i)) ≡ refuse_if (not (cond d (has_string t.format file t.debug a) (leb 4 a && ltb a t.ends))) (Name i)
    by-class a true = by-string (has_string t.format file t.debug a) (string_range t.format file t.debug a)
    by-class a false = rw h.ends (string-judged file t.strings a i h.strings)

    by-offset : (a : ℕ) (z : Bool) → verdict_of (cond z (Ok (range 0 0)) (cond (is_debug_class e.sclass) (debug_room file t a i) (string_room file t.strings a i))) ≡ refuse_if (not (z || cond (is_debug_class e.sclass) (has_string t.format file t.debug a) (leb 4 a && ltb a t.ends))) (Name i)
    by-offset a true = refl
    by-offset a false = by-class a (is_debug_class e.sclass)

    by_field : (n : NameField) → verdict_of (room_by file t i e.sclass n) ≡ refuse_if (not (has_name file t e.sclass n)) (Name i)
    by_field Short = refl
    by_field (Offset a) = by-offset a (eqb a 0)

-- ---- the bytes that a name may take, where NAME accepts

module _ (file : List ℕ) (t : Tables) (i : SymbolIndex) (sclass o : ℕ) (e : verdict_of (room_by file t i sclass (Offset o)) ≡ Ok tt) (h : o ≡ 0 → ⊥) where
  -- of a debug class
  module _ (d : is_debug_class sclass ≡ true) where
    debug-by : (z : Bool) (r : FileRange) → verdict_of (cond z (Ok r) (Err (Name i))) ≡ Ok tt → (z ≡ true) × (Ok r ≡ cond z (Ok r) (Err (Name i)))
    debug-by true r k = (refl, refl)
    debug-by false r k = not-accepted k

    debug-both : (has_string t.format file t.debug o ≡ true) × (Ok (string_range t.format file t.debug o) ≡ debug_room file t o i)
    debug-both = unfold room_by debug_room in debug-by (has_string t.format file t.debug o) (string_range t.format file t.debug o) (rw (ne_eqb o 0 h, d) at e)

    pub debug-named : has_string t.format file t.debug o ≡ true
    debug-named = debug-both.0

    pub debug-room : {r : FileRange} → r ≡ string_range t.format file t.debug o → Ok r ≡ room_by file t i sclass (Offset o)
    unfolding room_by
    debug-room q = rw (ne_eqb o 0 h, d, q) debug-both.1

  -- of another class: the offset lies below the string table's length
  module _ (d : is_debug_class sclass ≡ false) where
    pub offset-below : o < t.strings.length
    unfolding room_by
    offset-below = string-below file t.strings o i (rw (ne_eqb o 0 h, d) at e)

    pub offset-room : {r : FileRange} → r ≡ range (t.strings.start.0 + o) (t.strings.length - o) → Ok r ≡ room_by file t i sclass (Offset o)
    unfolding room_by
    offset-room q = rw (ne_eqb o 0 h, d, q) (string-accepted file t.strings o i (rw (ne_eqb o 0 h, d) at e))

-- they are in the file
room-of-string : (file : List ℕ) (strings : FileRange) (o : ℕ) (i : SymbolIndex) → strings.start.0 + strings.length ≤ length file → Within (length file) (string_room file strings o i)
unfolding string_room
room-of-string file strings o i h =
    let n = first_zero (drop o (bytes_of file strings)) in
    either (Within (length file)) (ltb o 4 || leb strings.length o) (λ _. tt)
    (λ p. either (Within (length file)) (leb (strings.length - o) n) (λ _. tt)
    (λ _. omega (arith, h, leb-false strings.length o (or-second (ltb o 4) (leb strings.length o) p))))

room-of-debug : (file : List ℕ) (t : Tables) (o : ℕ) (i : SymbolIndex) → DebugInside (length file) t.debug → Within (length file) (debug_room file t o i)
unfolding debug_room
room-of-debug file t o i h = either (Within (length file)) (has_string t.format file t.debug o) (λ k. range_inside t.format file t.debug o h k) (λ _. tt)

pub room-in-file : (file : List ℕ) (t : Tables) (i : SymbolIndex) (sclass : ℕ) (name : NameField) → OpenTables file t → i.0 < t.count → Within (length file) (room_by file t i sclass name)
unfolding room_by
room-in-file file t i sclass Short h k = omega (arith, entry_whole file t i.0 h k)
room-in-file file t i sclass (Offset o) h k =
    let inside = tables-inside file t h in
    either (Within (length file)) (eqb o 0) (λ _. omega arith)
    (λ _. either (Within (length file)) (is_debug_class sclass) (λ _. room-of-debug file t o i inside.debug)
    (λ _. room-of-string file t.strings o i inside.strings))
