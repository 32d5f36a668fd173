-- What entries name, and what plans have in common, in a file: the fields of the loader symbols say it. Assumes nothing.
use mathlib.Core.Path.{◌≡◌, refl, sym, ◌∙◌, ap, subst}
use mathlib.Core.Bool.{Bool, true, false, not, ◌&&◌, ◌||◌}
use mathlib.Core.Logic.{◌⊎◌, inl, inr, ◌↔◌}
use mathlib.Core.List.{List}
use Prim.Native.Nat.{ℕ, ◌+◌, ◌%◌, ◌<◌}
use native.Mathlib.Decide.{dec_lt}
use native.Mathlib.Omega.{arith}
use lib.Dec.{eqb, ltb}
use lib.ListN.{get_or, get_or-eq_default}
use borrow.Author.Tests.{eq-eqb, ne_eqb, eqb-true, eqb-false, not-false}
use Rattle.word.proofs.Test.{either, and_first, and_second}
use Rattle.format.specs.declared.SectionNumber.{SectionNumber}
use Rattle.refusal.specs.declared.Refusal.TheVariants.{Lsym}
use Rattle.refusal.proofs.Order.{accepted-test}
use Rattle.parts.specs.declared.Parts.{Parts}
use Rattle.loader_symbol.specs.declared.LoaderEntry.{LoaderEntry}
use Rattle.loader_symbol.specs.Symbol.{entry_start, is_imported, is_placed, is_found, name_in, entry_check, symbol_check}
use Rattle.loadable.specs.declared.Loadable.{Loadable}
use Rattle.loadable.specs.Loadable.{loadable_at}
use Rattle.loadable.specs.Valid.{Valid}
use Rattle.loadable.proofs.Accepted.{loadable-valid}
use Rattle.history.specs.declared.Followed.{Followed}
use Rattle.history.specs.declared.Followed.TheVariants as followed
use Rattle.history.specs.Plan.{Plan, SameAddress, followed_by}
use Rattle.history.specs.Follows.{PlanAddress, LoaderSymbol, Follows, SymbolOf, AgreeBut}
use Rattle.history.specs.Follows.PlanAddress.{of_text, of_data, of_import}
use Rattle.history.proofs.Follows.{symbols-follow}
use Rattle.plan.specs.Relocatable.{followed_of, followed_in, followed_at, symbols_from, relocatable_of, relocatable_by, relocatable_at}
use Rattle.plan.specs.Follows.{DefinedIn, IsImport, symbol_at, SymbolIn, InCommonBut}
use Rattle.plan.proofs.Symbols.{length_symbols, symbol-at}
use Rattle.std.specs.Prelude.{Ok}

-- ---- what a loader symbol follows, by its fields

module _ (text : SectionNumber) (k : ℕ) (e : LoaderEntry) where
  -- what is followed says this of the fields
  abbrev Says : Followed → Type 0
  Says followed.Text = (is_imported e.smtype ≡ false) × (e.scnum ≡ text.0)
  Says followed.Data = (is_imported e.smtype ≡ false) × (e.scnum ≡ text.0 → ⊥)
  Says (followed.Import j v) = (j ≡ k) × (is_imported e.smtype ≡ true) × (e.ifile ≡ 0 → ⊥)
  Says followed.Nothing = Unit {0}

  followed-says : Says (followed_of text k e)
  unfolding followed_of
  followed-says =
      either Says (is_imported e.smtype)
      (λ i. either Says (eqb e.ifile 0) (λ z. tt) (λ z. (refl, i, eqb-false e.ifile 0 z)))
      (λ i. either Says (eqb e.scnum text.0) (λ z. (i, eqb-true e.scnum text.0 z)) (λ z. (i, eqb-false e.scnum text.0 z)))

  -- and the fields say what is followed
  says-text : is_imported e.smtype ≡ false → e.scnum ≡ text.0 → followed_of text k e ≡ followed.Text
  unfolding followed_of
  says-text i z = rw (i, eq-eqb e.scnum text.0 z) refl

  says-data : is_imported e.smtype ≡ false → (e.scnum ≡ text.0 → ⊥) → followed_of text k e ≡ followed.Data
  unfolding followed_of
  says-data i z = rw (i, ne_eqb e.scnum text.0 z) refl

  says-import : IsImport e → followed_of text k e ≡ followed.Import k e.value
  unfolding followed_of
  says-import i = rw (i.0, ne_eqb e.ifile 0 i.1) refl

-- LSYM: a symbol that is not imported is defined in text, data or bss
placed-other : (p : Parts) (n : ℕ) (e : LoaderEntry) → is_placed p n e ≡ true → is_imported e.smtype ≡ false → (e.scnum ≡ p.text.number.0 → ⊥)
    → DefinedIn p.«data» e ⊎ DefinedIn p.bss e
unfolding is_placed
placed-other p n e h i t = by_number (eqb e.scnum p.«data».number.0) refl (and_second (eqb e.ifile 0) _ (rw (i, ne_eqb e.scnum p.text.number.0 t) at h))
  where
    by_number : (b : Bool) → eqb e.scnum p.«data».number.0 ≡ b → (b || eqb e.scnum p.bss.number.0) ≡ true → DefinedIn p.«data» e ⊎ DefinedIn p.bss e
    by_number true q r = inl (i, eqb-true e.scnum p.«data».number.0 q)
    by_number false q r = inr (i, eqb-true e.scnum p.bss.number.0 r)

-- ---- the loader symbols of a module

module _ (file : List ℕ) (l : Loadable) where
  -- a symbol that follows an address is in the table
  table-follows : (k : ℕ) (f : Followed) → (followed.Nothing ≡ f → ⊥) → get_or (relocatable_of file l).symbols k followed.Nothing ≡ f
      → (k < l.tables.nsyms) × (followed_at file l k ≡ f)
  unfolding relocatable_of
  table-follows k f n e = by_place (dec_lt k l.tables.nsyms)
    where
      by_place : Dec (k < l.tables.nsyms) → (k < l.tables.nsyms) × (followed_at file l k ≡ f)
      by_place (yes h) = (h, sym (symbol-at file l l.tables.nsyms k h) ∙ e)
      by_place (no h) =
          absurd (n (sym (get_or-eq_default (symbols_from file l 0 l.tables.nsyms) followed.Nothing (rw (length_symbols file l 0 l.tables.nsyms) (omega arith))) ∙ e))

  -- and what it follows says what its fields are
  says_at : (k : ℕ) (f : Followed) → followed_at file l k ≡ f → Says l.layout.parts.text.number k (symbol_at file l k) f
  unfolding followed_in
  says_at k f e = subst (Says l.layout.parts.text.number k (symbol_at file l k)) e (followed-says l.layout.parts.text.number k (symbol_at file l k))

  -- a symbol of the table is a loader symbol
  loader-symbol : (i k : ℕ) (f : Followed) → i ≡ 3 + k → k < l.tables.nsyms → followed_of l.layout.parts.text.number k (symbol_at file l k) ≡ f
      → LoaderSymbol (relocatable_of file l) f i
  unfolding relocatable_of followed_in
  loader-symbol i k f e h s = record { place = k; index = e; follows = symbol-at file l l.tables.nsyms k h ∙ s }

module _ (file : List ℕ) (l : Loadable) (v : Valid file l) where
  -- a symbol that is not imported and not of text is defined in data or bss
  other-section : (k : ℕ) → k < l.tables.nsyms → is_imported (symbol_at file l k).smtype ≡ false → ((symbol_at file l k).scnum ≡ l.layout.parts.text.number.0 → ⊥)
      → DefinedIn l.layout.parts.«data» (symbol_at file l k) ⊎ DefinedIn l.layout.parts.bss (symbol_at file l k)
  other-section k h = placed-other l.layout.parts l.tables.nimpid (symbol_at file l k) (placed (v.loader.symbols k h))
    where
      placed : symbol_check file l.layout.format l.layout.parts l.tables k ≡ Ok tt → is_placed l.layout.parts l.tables.nimpid (symbol_at file l k) ≡ true
      placed a = unfold symbol_check entry_check in
          (let e = symbol_at file l k in
          let few = ltb (e.smtype % 8) 4 in
          let good = is_placed l.layout.parts l.tables.nimpid e in
          let found = is_found (name_in file l.tables.strings (entry_start l.tables k) (k + 3) e.name) in
          and_second few good (and_first (few && good) found (not-false _ (accepted-test (not (few && good && found)) (Lsym (k + 3)) a))))

  -- data's and bss's numbers are not text's
  not-text : (e : LoaderEntry) → DefinedIn l.layout.parts.«data» e ⊎ DefinedIn l.layout.parts.bss e
      → (is_imported e.smtype ≡ false) × (e.scnum ≡ l.layout.parts.text.number.0 → ⊥)
  not-text e (inl d) = (d.0, λ z. v.sections.apart.0 (sym d.1 ∙ z))
  not-text e (inr d) = (d.0, λ z. v.sections.apart.1 (sym d.1 ∙ z))

  -- the symbols that follow an address, by their fields
  symbol-in : (a : PlanAddress) (i : ℕ) → SymbolOf a (relocatable_of file l) i → SymbolIn file l a i
  symbol-in of_text i (inl z) = inl z
  symbol-in of_text i (inr s) =
      let t = table-follows file l s.place followed.Text (λ z. let y : ◌≡◌ {A = ℕ} 0 1 = cc in omega arith) s.follows in
      inr (record { place = s.place; index = s.index; known = t.0; holds = says_at file l s.place followed.Text t.1 })
  symbol-in of_data i (inl z) = inl z
  symbol-in of_data i (inr (inl z)) = inr (inl z)
  symbol-in of_data i (inr (inr s)) =
      let t = table-follows file l s.place followed.Data (λ z. let y : ◌≡◌ {A = ℕ} 0 1 = cc in omega arith) s.follows in
      let d = says_at file l s.place followed.Data t.1 in
      inr (inr (record { place = s.place; index = s.index; known = t.0; holds = other-section s.place t.0 d.0 d.1 }))
  symbol-in (of_import k) i (w, s) =
      let t = table-follows file l s.place (followed.Import k w) (λ z. let y : ◌≡◌ {A = ℕ} 0 1 = cc in omega arith) s.follows in
      let d = says_at file l s.place (followed.Import k w) t.1 in
      (s.index ∙ ap (λ (j : ℕ). 3 + j) (sym d.0), rw d.0 t.0, rw d.0 (d.1, d.2))

  in-symbol : (a : PlanAddress) (i : ℕ) → SymbolIn file l a i → SymbolOf a (relocatable_of file l) i
  in-symbol of_text i (inl z) = inl z
  in-symbol of_text i (inr s) =
      inr (loader-symbol file l i s.place followed.Text s.index s.known (says-text _ s.place (symbol_at file l s.place) s.holds.0 s.holds.1))
  in-symbol of_data i (inl z) = inl z
  in-symbol of_data i (inr (inl z)) = inr (inl z)
  in-symbol of_data i (inr (inr s)) =
      let d = not-text (symbol_at file l s.place) s.holds in
      inr (inr (loader-symbol file l i s.place followed.Data s.index s.known (says-data _ s.place (symbol_at file l s.place) d.0 d.1)))
  in-symbol (of_import k) i s =
      ((symbol_at file l k).value, loader-symbol file l i k (followed.Import k (symbol_at file l k).value) s.0 s.1 (says-import _ k (symbol_at file l k) s.2))

-- an accepted module is what it is to builds and moves
accepted-module : (file : List ℕ) (l : Loadable) → loadable_at file ≡ Ok l → relocatable_at file ≡ relocatable_of file l
unfolding relocatable_at relocatable_by
accepted-module file l e = rw e refl

-- the symbols of an address are text and those defined in text; data, bss and those defined in either; the import, not deferred
pub symbols-file : (file : List ℕ) (l : Loadable) → loadable_at file ≡ Ok l → (a : PlanAddress) (i : ℕ)
    → SymbolOf a (relocatable_at file) i ↔ SymbolIn file l a i
symbols-file file l q a i =
    rw (accepted-module file l q) (symbol-in file l (loadable-valid file l q) a i, in-symbol file l (loadable-valid file l q) a i)

-- ---- what plans have in common

-- lists with the same address wherever an import is followed
same_address : (p q : Plan) (f : Followed) → ((k w : ℕ) → f ≡ followed.Import k w → get_or p.list k 0 ≡ get_or q.list k 0) → SameAddress p q f
same_address p q followed.Text h = tt
same_address p q followed.Data h = tt
same_address p q (followed.Import k w) h = h k w refl
same_address p q followed.Nothing h = tt

module _ (file : List ℕ) (l : Loadable) (v : Valid file l) (p q : Plan) where
  -- from the table's imports to the symbols
  table-symbols : (i : ℕ) → ((k w : ℕ) → followed_by (relocatable_of file l) i ≡ followed.Import k w → k < l.tables.nsyms → IsImport (symbol_at file l k) → get_or p.list k 0 ≡ get_or q.list k 0)
      → SameAddress p q (followed_by (relocatable_of file l) i)
  table-symbols i c =
      same_address p q (followed_by (relocatable_of file l) i)
      (λ k w e. let s = symbol-in file l v (of_import k) i ((symbols-follow (relocatable_of file l) (of_import k) i).1 (w, e)) in c k w e s.1 s.2)

  -- an import of the table is followed by its symbol
  import-follows : (k : ℕ) → k < l.tables.nsyms → IsImport (symbol_at file l k) → Follows (of_import k) (followed_by (relocatable_of file l) (3 + k))
  import-follows k h i = (symbols-follow (relocatable_of file l) (of_import k) (3 + k)).0 (in-symbol file l v (of_import k) (3 + k) (refl, h, i))

  -- and from the symbols to the table's imports
  symbols-table : (k : ℕ) → Follows (of_import k) (followed_by (relocatable_of file l) (3 + k)) → SameAddress p q (followed_by (relocatable_of file l) (3 + k))
      → get_or p.list k 0 ≡ get_or q.list k 0
  symbols-table k (w, e) s = rw e at s

  -- an import is followed by no symbol of another
  other-import : (j k : ℕ) (f : Followed) → (k ≡ j → ⊥) → Follows (of_import k) f → Follows (of_import j) f → ⊥
  other-import j k f n (w, e) (u, d) = n (let z : followed.Import k w ≡ followed.Import j u = sym e ∙ d in cc)

  agree-common : (a : PlanAddress) → AgreeBut a (relocatable_of file l) p q → InCommonBut file l a p q
  agree-common of_text g = (g.0, λ k h i. symbols-table k (import-follows k h i) (g.1 (3 + k)))
  agree-common of_data g = (g.0, λ k h i. symbols-table k (import-follows k h i) (g.1 (3 + k)))
  agree-common (of_import j) g = (
    g.0,
    g.1,
    λ k h i n. symbols-table k (import-follows k h i) (g.2 (3 + k) (other-import j k (followed_by (relocatable_of file l) (3 + k)) n (import-follows k h i))),
  )

  common-agree : (a : PlanAddress) → InCommonBut file l a p q → AgreeBut a (relocatable_of file l) p q
  common-agree of_text c = (c.0, λ i. table-symbols i (λ k w e. c.1 k))
  common-agree of_data c = (c.0, λ i. table-symbols i (λ k w e. c.1 k))
  common-agree (of_import j) c = (c.0, c.1, λ i n. table-symbols i (λ k w e h d. c.2 k h d (λ z. n (w, e ∙ ap (λ (x : ℕ). followed.Import x w) z))))

-- plans that agree but in an address are those that have the others in common: of the imports, those of the table that are not deferred
pub agree-file : (file : List ℕ) (l : Loadable) → loadable_at file ≡ Ok l → (a : PlanAddress) (p q : Plan)
    → AgreeBut a (relocatable_at file) p q ↔ InCommonBut file l a p q
agree-file file l e a p q =
    rw (accepted-module file l e) (agree-common file l (loadable-valid file l e) p q a, common-agree file l (loadable-valid file l e) p q a)
