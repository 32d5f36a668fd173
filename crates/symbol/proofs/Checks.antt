-- The laws of an entry's checks. Assumes nothing.
use Prim.Native.Nat.{ℕ, ◌+◌, ◌≤◌, ◌<◌}
use mathlib.Core.Path.{◌≡◌, refl, sym, ap}
use mathlib.Core.Bool.{true, false}
use mathlib.Core.List.{List}
use native.Mathlib.Omega.{arith}
use borrow.Author.Tests.{lt-leb, le-leb, leb-false}
use lib.Dec.{leb}
use Rattle.word.specs.Test.{past}
use Rattle.word.proofs.Test.{past-not}
use Rattle.format.specs.declared.SymbolIndex.{SymbolIndex}
use Rattle.refusal.specs.declared.Refusal.{Refusal}
use Rattle.refusal.specs.declared.Refusal.TheVariants.{Index, Aux, Scnum, Name, Visibility}
use Rattle.refusal.specs.declared.IndexItem.TheVariants.{NoSymbol}
use Rattle.refusal.specs.Order.{first_refusal, by_verdict}
use Rattle.refusal.proofs.Order.{accepted-first, accepted-rest, accepted-test, EachAccepts, each-accepts}
use Rattle.visibility.specs.Visibility.{is_unknown}
use Rattle.visibility.proofs.Known.{Known, visibility-known}
use Rattle.symbol.specs.declared.Tables.{Tables}
use Rattle.symbol.specs.declared.SymbolEntry.{SymbolEntry}
use Rattle.symbol.specs.declared.Symbol.{Symbol}
use Rattle.symbol.specs.Entry.{OpenTables, entry_of}
use Rattle.symbol.specs.Name.{has_name}
use Rattle.symbol.specs.Symbol.{index_check, aux_check, is_section, scnum_check, name_check, visibility_check, symbol_checks, symbol_check, symbol_of, symbol_in}
use Rattle.symbol.proofs.Names.{name-judged}
use Rattle.std.specs.Prelude.{Err, Ok}
use Rattle.refusal.specs.Verdict.{Verdict}

-- ---- the checks in their order: AUX, SECTION, NAME, VISIBILITY

module _ (file : List ℕ) (t : Tables) (i : SymbolIndex) (e : SymbolEntry) where
  pub check-aux : past (i.0 + 1) e.numaux t.count ≡ true → Err (Aux i) ≡ first_refusal (symbol_checks file t i e)
  unfolding aux_check
  check-aux p = rw p refl

  module _ (p : past (i.0 + 1) e.numaux t.count ≡ false) where
    pub check-scnum : is_section t.nscns e.scnum ≡ false → Err (Scnum i) ≡ first_refusal (symbol_checks file t i e)
    unfolding aux_check scnum_check
    check-scnum q = rw (p, q) refl

    module _ (q : is_section t.nscns e.scnum ≡ true) (o : OpenTables file t) where
      pub check-name : has_name file t e.sclass e.name ≡ false → Err (Name i) ≡ first_refusal (symbol_checks file t i e)
      unfolding aux_check scnum_check
      check-name r = rw (p, q, name-judged file t i e o, r) refl

      module _ (r : has_name file t e.sclass e.name ≡ true) where
        pub check-visibility : is_unknown t.version2 e.sclass e.ntype ≡ true → Err (Visibility i) ≡ first_refusal (symbol_checks file t i e)
        unfolding aux_check scnum_check visibility_check
        check-visibility z = rw (p, q, name-judged file t i e o, r, z) refl

        pub check-none : is_unknown t.version2 e.sclass e.ntype ≡ false → (Ok tt) ≡ first_refusal (symbol_checks file t i e)
        unfolding aux_check scnum_check visibility_check
        check-none z = rw (p, q, name-judged file t i e o, r, z) refl

-- ---- the symbol of an opened file

module _ (file : List ℕ) (t : Tables) (i : SymbolIndex) where
  pub symbol-none : t.count ≤ i.0 → Err (Index (NoSymbol i)) ≡ symbol_in file t i
  unfolding symbol_in symbol_check index_check
  symbol-none h = rw (le-leb t.count i.0 h)

  pub symbol-judged : {e : SymbolEntry} {v : Verdict} → i.0 < t.count → e ≡ entry_of file t i → v ≡ first_refusal (symbol_checks file t i e) → by_verdict v (Ok (symbol_of t e)) Err ≡ symbol_in file t i
  unfolding symbol_in symbol_check index_check
  symbol-judged h a b = rw (b, a, lt-leb t.count i.0 h)

  -- the same by the verdict
  module _ {e : SymbolEntry} {v : Verdict} (h : i.0 < t.count) (a : e ≡ entry_of file t i) (b : v ≡ first_refusal (symbol_checks file t i e)) where
    pub symbol-found : v ≡ Ok tt → symbol_in file t i ≡ Ok (symbol_of t e)
    symbol-found k = sym (rw k at (symbol-judged h a b))

    pub symbol-refused : {x : Refusal} → v ≡ Err x → symbol_in file t i ≡ Err x
    symbol-refused k = sym (rw k at (symbol-judged h a b))

  -- what is found: an entry of the table that every check accepts
  module _ {s : Symbol} (k : symbol_in file t i ≡ Ok s) where
    found : (symbol_check file t i (entry_of file t i) ≡ Ok tt) × (symbol_of t (entry_of file t i) ≡ s)
    found = unfold symbol_in in by-verdict (symbol_check file t i (entry_of file t i)) refl k
      where
        by-verdict : (v : Verdict) → symbol_check file t i (entry_of file t i) ≡ v → by_verdict v (Ok (symbol_of t (entry_of file t i))) Err ≡ Ok s → (symbol_check file t i (entry_of file t i) ≡ Ok tt) × (symbol_of t (entry_of file t i) ≡ s)
        by-verdict (Ok tt) q e = (q, cc)
        by-verdict (Err x) q e = let z : ◌≡◌ {A = ℕ} 0 1 = cc in absurd (omega arith)

    pub symbol-known : i.0 < t.count
    symbol-known =
        unfold symbol_check index_check in
        leb-false t.count i.0 (accepted-test (leb t.count i.0) (Index (NoSymbol i)) (accepted-first (index_check t.count i) _ found.0))

    pub symbol-accepted : EachAccepts (symbol_checks file t i (entry_of file t i))
    symbol-accepted = each-accepts (symbol_checks file t i (entry_of file t i)) (unfold symbol_check in accepted-rest (index_check t.count i) _ found.0)

    pub symbol-numaux : s.numaux ≡ (entry_of file t i).numaux
    symbol-numaux = unfold symbol_of in sym (ap (λ (x : Symbol). x.numaux) found.1)

    -- its auxiliaries are in the table, and its name lies somewhere
    pub symbol-in-table : i.0 + 1 + s.numaux ≤ t.count
    symbol-in-table =
        let n = (entry_of file t i).numaux in
        rw symbol-numaux
        (past-not (i.0 + 1) n t.count (accepted-test (past (i.0 + 1) n t.count) (Aux i) (unfold aux_check in symbol-accepted.0)))

    pub name-accepted : name_check file t i (entry_of file t i) ≡ Ok tt
    name-accepted = symbol-accepted.1.1.0

    -- and a visibility that it claims is one of the five
    pub symbol-visibility : Known s.visibility
    symbol-visibility =
        let e = entry_of file t i in
        let known = accepted-test (is_unknown t.version2 e.sclass e.ntype) (Visibility i) (unfold visibility_check in symbol-accepted.1.1.1.0) in
        rw (← found.1) (unfold symbol_of in visibility-known t.version2 e.sclass e.ntype known)
