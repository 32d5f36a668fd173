-- Request 11 in a file: what the entries' symbols are by their own fields, and which addresses plans have in common.
use Rattle.std.specs.Prelude.{◌≡◌, true, false, ◌⊎◌, List, ℕ, ◌+◌, ◌<◌, get_or}
use Rattle.parts.specs.declared.Part.{Part}
use Rattle.loader_symbol.specs.declared.LoaderEntry.{LoaderEntry}
use Rattle.loader_symbol.specs.Symbol.{entry_start, entry_at, is_imported}
use Rattle.loadable.specs.declared.Loadable.{Loadable}
use Rattle.history.specs.Plan.{Plan}
use Rattle.history.specs.Follows.{PlanAddress}
use Rattle.history.specs.Follows.PlanAddress.{of_text, of_data, of_import}

-- a loader symbol defined in a section: not imported, and the section number is that section's
abbrev pub DefinedIn : Part → LoaderEntry → Type 0
DefinedIn p e = (is_imported e.smtype ≡ false) × (e.scnum ≡ p.number.0)

-- an import that is not deferred: its file id is not 0
abbrev pub IsImport : LoaderEntry → Type 0
IsImport e = (is_imported e.smtype ≡ true) × (e.ifile ≡ 0 → ⊥)

module _ (file : List ℕ) (l : Loadable) where
  -- the loader symbol with place k in the table
  abbrev pub symbol_at : ℕ → LoaderEntry
  symbol_at k = entry_at l.layout.format (entry_start l.tables k) file

  -- symbol i is in the table, where 3 is the first, and P holds of it
  pub record SymbolWith (P : LoaderEntry → Type 0) (i : ℕ) : Type 0 where
    pub place : ℕ
    pub index : i ≡ 3 + place
    pub known : place < l.tables.nsyms
    pub holds : P (symbol_at place)

  -- symbol i is text or a symbol defined in text; data, bss or a symbol defined in either; the import
  abbrev pub SymbolIn : PlanAddress → ℕ → Type 0
  SymbolIn of_text i = (i ≡ 0) ⊎ SymbolWith (DefinedIn l.layout.parts.text) i
  SymbolIn of_data i = (i ≡ 1) ⊎ (i ≡ 2) ⊎ SymbolWith (λ e. DefinedIn l.layout.parts.«data» e ⊎ DefinedIn l.layout.parts.bss e) i
  SymbolIn (of_import k) i = (i ≡ 3 + k) × (k < l.tables.nsyms) × IsImport (symbol_at k)

  -- the lists have the same address of every import, and of every import but the one with place j
  abbrev pub SameImportsIn : Plan → Plan → Type 0
  SameImportsIn p q = (k : ℕ) → k < l.tables.nsyms → IsImport (symbol_at k) → get_or p.list k 0 ≡ get_or q.list k 0

  abbrev pub SameImportsInBut : ℕ → Plan → Plan → Type 0
  SameImportsInBut j p q = (k : ℕ) → k < l.tables.nsyms → IsImport (symbol_at k) → (k ≡ j → ⊥) → get_or p.list k 0 ≡ get_or q.list k 0

  -- the plans have every address in common but one
  abbrev pub InCommonBut : PlanAddress → Plan → Plan → Type 0
  InCommonBut of_text p q = (p.dat ≡ q.dat) × SameImportsIn p q
  InCommonBut of_data p q = (p.text ≡ q.text) × SameImportsIn p q
  InCommonBut (of_import j) p q = (p.text ≡ q.text) × (p.dat ≡ q.dat) × SameImportsInBut j p q
