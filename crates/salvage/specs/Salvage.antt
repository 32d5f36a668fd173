-- The salvaged file: the walk over entries as mended, the changes of each, and the copy with all of them.
use Rattle.std.specs.Prelude.{ℕ, zero, suc, ◌+◌, cond, List, [], ◌∷◌, ◌++◌, leb, length}
use Rattle.format.specs.declared.SymbolIndex.{SymbolIndex}
use Rattle.symbol.specs.declared.Tables.{Tables}
use Rattle.symbol.specs.Entry.{tables_at}
use Rattle.mend.specs.Mend.{Change, changes_at, put_all, mended_entry}

-- the symbols that at most `steps` steps from index i visit: the walk goes on by the mended auxiliaries
unfoldable pub mended_from : List ℕ → Tables → ℕ → ℕ → List SymbolIndex
mended_from file t zero i = []
mended_from file t (suc steps) i =
    cond (leb t.count i) [] (record { 0 = i } ∷ mended_from file t steps (i + 1 + (mended_entry file t (record { 0 = i })).numaux))

-- each step passes an entry, so there are never more steps than entries
abbrev pub mended_in : List ℕ → Tables → List SymbolIndex
mended_in file t = mended_from file t t.count 0

-- the changes of these entries, in their order
unfoldable pub changes_of : List ℕ → Tables → List SymbolIndex → List Change
changes_of file t [] = []
changes_of file t (i ∷ is) = changes_at file t i ++ changes_of file t is

unfoldable pub changes_in : List ℕ → Tables → List Change
changes_in file t = changes_of file t (mended_in file t)

-- of a file that opens
abbrev pub changes : List ℕ → List Change
changes file = changes_in file (tables_at file)

-- the copy: all that is changed is read from the file, never from the copy
unfoldable pub salvaged : List ℕ → List ℕ
salvaged file = put_all (tables_at file) (changes file) file

-- how many changes there are
abbrev pub salvage_count : List ℕ → ℕ
salvage_count file = length (changes file)
