-- Laws of the symbol table and the string table. Assumes nothing.
use Prim.Native.Nat.{ℕ, ◌+◌, ◌*◌, ◌≤◌, ◌<◌}
use mathlib.Core.Path.{◌≡◌, ◌∙◌}
use mathlib.Core.Logic.{◌⊎◌, inl, inr}
use mathlib.Core.Bool.{◌&&◌}
use mathlib.Core.List.{List}
use native.Mathlib.Decide.{ℕ_discrete}
use native.Mathlib.Omega.{arith}
use lib.Dec.{ltb}
use lib.ListN.{length}
use borrow.Author.Tests.{lt-ltb, le-ltb, eq-eqb, ne_eqb}
use Rattle.word.specs.Number.{field_at}
use Rattle.word.specs.Test.{past}
use Rattle.word.proofs.Test.{past-yes, past-no, past-not}
use Rattle.format.specs.Layout.{symbol_length}
use Rattle.refusal.specs.declared.Refusal.TheVariants.{Bounds, Strings}
use Rattle.refusal.specs.declared.BoundsItem.TheVariants.{StringTable, SymbolTable}
use Rattle.refusal.specs.Order.{◌or_else◌, refuse_if}
use Rattle.refusal.proofs.Order.{accepted-first, accepted-rest, accepted-test}
use Rattle.file_header.specs.declared.FileHeader.{FileHeader}
use Rattle.file_tables.specs.Tables.{symbols_end, strings_length, strings_check, symbols_check}
use Rattle.std.specs.Prelude.{Err, Ok}

-- the string table's answer by its length n
module _ (file : List ℕ) (end n : ℕ) (e : n ≡ field_at 4 end file) where
  pub strings-none : end ≡ length file → (Ok tt) ≡ strings_check file end
  unfolding strings_check
  strings-none h = rw (eq-eqb end (length file) h)

  pub strings-cut : end < length file → length file < end + 4 → Err (Bounds StringTable) ≡ strings_check file end
  unfolding strings_check
  strings-cut h k = rw (ne_eqb end (length file) (λ q. omega arith), past-yes end 4 (length file) k)

  pub strings-zero : end + 4 ≤ length file → n ≡ 0 → (Ok tt) ≡ strings_check file end
  unfolding strings_check
  strings-zero h z = rw (ne_eqb end (length file) (λ q. omega arith), past-no end 4 (length file) h, ← e, z, past-no end 0 (length file) (omega arith))

  pub strings-short : end + 4 ≤ length file → 0 < n → n < 4 → Err Strings ≡ strings_check file end
  unfolding strings_check
  strings-short h k l = rw (ne_eqb end (length file) (λ q. omega arith), past-no end 4 (length file) h, ← e, lt-ltb 0 n k, lt-ltb n 4 l)

  strings-long : end + 4 ≤ length file → 4 ≤ n → refuse_if (past end n (length file)) (Bounds StringTable) ≡ strings_check file end
  unfolding strings_check
  strings-long h k = rw (ne_eqb end (length file) (λ q. omega arith), past-no end 4 (length file) h, ← e, lt-ltb 0 n (omega arith), le-ltb n 4 k)

  pub strings-past : end + 4 ≤ length file → 4 ≤ n → length file < end + n → Err (Bounds StringTable) ≡ strings_check file end
  strings-past h k l = (rw (past-yes end n (length file) l)) ∙ strings-long h k

  pub strings-whole : end + 4 ≤ length file → 4 ≤ n → end + n ≤ length file → (Ok tt) ≡ strings_check file end
  strings-whole h k l = (rw (past-no end n (length file) l)) ∙ strings-long h k

-- a string table that is accepted is not there, or its length bytes are in the file, and so is all of it
strings-tests : (file : List ℕ) (end : ℕ) → strings_check file end ≡ Ok tt → (end ≡ length file → ⊥) → (refuse_if (past end 4 (length file)) (Bounds StringTable) or_else refuse_if (ltb 0 (field_at 4 end file) && ltb (field_at 4 end file) 4) Strings or_else refuse_if (past end (field_at 4 end file) (length file)) (Bounds StringTable)) ≡ Ok tt
unfolding strings_check
strings-tests file end e n = rw (ne_eqb end (length file) n) at e

strings-start : (file : List ℕ) (end : ℕ) → strings_check file end ≡ Ok tt → Dec (end ≡ length file) → (end ≡ length file) ⊎ (end + 4 ≤ length file)
strings-start file end e (yes q) = inl q
strings-start file end e (no n) =
    inr (past-not end 4 (length file) (accepted-test (past end 4 (length file)) (Bounds StringTable) (accepted-first (refuse_if (past end 4 (length file)) (Bounds StringTable)) _ (strings-tests file end e n))))

strings-end : (file : List ℕ) (end : ℕ) → strings_check file end ≡ Ok tt → Dec (end ≡ length file) → end + strings_length file end ≤ length file
unfolding strings_length
strings-end file end e (yes q) = rw (eq-eqb end (length file) q) (omega arith)
strings-end file end e (no n) =
    let n4 = field_at 4 end file in
    rw (ne_eqb end (length file) n)
    (past-not end n4 (length file)
    (accepted-test (past end n4 (length file)) (Bounds StringTable)
    (accepted-rest (refuse_if (ltb 0 n4 && ltb n4 4) Strings) _
    (accepted-rest (refuse_if (past end 4 (length file)) (Bounds StringTable)) _ (strings-tests file end e n)))))

-- tables that are accepted are inside the file
module _ (file : List ℕ) (h : FileHeader) (e : symbols_check file h ≡ Ok tt) (n : h.nsyms ≡ 0 → ⊥) where
  symbols-tests : (refuse_if (past h.symptr.0 (h.nsyms * symbol_length) (length file)) (Bounds SymbolTable) or_else strings_check file (symbols_end h)) ≡ Ok tt
  symbols-tests = unfold symbols_check in rw (ne_eqb h.nsyms 0 n) at e

  strings-accepted : strings_check file (symbols_end h) ≡ Ok tt
  strings-accepted = accepted-rest (refuse_if (past h.symptr.0 (h.nsyms * symbol_length) (length file)) (Bounds SymbolTable)) _ symbols-tests

  pub symbols-inside : h.symptr.0 + h.nsyms * symbol_length ≤ length file
  symbols-inside =
      past-not h.symptr.0 (h.nsyms * symbol_length) (length file)
      (accepted-test (past h.symptr.0 (h.nsyms * symbol_length) (length file)) (Bounds SymbolTable)
      (accepted-first (refuse_if (past h.symptr.0 (h.nsyms * symbol_length) (length file)) (Bounds SymbolTable)) _ symbols-tests))

  pub strings-readable : (symbols_end h ≡ length file) ⊎ (symbols_end h + 4 ≤ length file)
  strings-readable = strings-start file (symbols_end h) strings-accepted (ℕ_discrete (symbols_end h) (length file))

  pub strings-inside : symbols_end h + strings_length file (symbols_end h) ≤ length file
  strings-inside = strings-end file (symbols_end h) strings-accepted (ℕ_discrete (symbols_end h) (length file))
