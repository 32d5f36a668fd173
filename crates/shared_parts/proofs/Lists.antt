-- The ranges that are compared, from the numbers that the code finds. Assumes nothing.
use mathlib.Core.Path.{◌≡◌, refl, sym, ◌∙◌}
use mathlib.Core.Bool.{Bool, true, false}
use mathlib.Core.List.{List, [], ◌∷◌}
use Prim.Native.Nat.{ℕ, ◌*◌}
use lib.ListN.{length}
use borrow.Author.Tests.{eq-eqb, ne_eqb}
use Rattle.format.specs.declared.FileRange.{FileRange}
use Rattle.format.specs.declared.LoaderLayout.{LoaderLayout}
use Rattle.format.specs.declared.RelocationLayout.{RelocationLayout}
use Rattle.format.specs.Layout.{loader_layout, loader_symbol_length, relocation_layout}
use Rattle.format.specs.Range.{range}
use Rattle.file_header.specs.Header.{section_start}
use Rattle.header.specs.declared.Summary.{Summary}
use Rattle.module.specs.declared.Module.{Module}
use Rattle.loadable.specs.declared.Loadable.{Loadable}
use Rattle.shared_range.specs.Shared.{shares_two}
use Rattle.written.specs.Shared.{part_range, symbols_range, strings_size, file_ranges, loader_ranges, is_shared}

-- ---- the string table

module _ (len : ℕ) (y : Summary) where
  pub none-without : y.symbols.count ≡ 0 → 0 ≡ strings_size len y
  unfolding strings_size
  none-without e = rw (eq-eqb y.symbols.count 0 e) refl

  module _ (n : y.symbols.count ≡ 0 → ⊥) where
    pub none-at-end : y.symbols.strings.start.0 ≡ len → 0 ≡ strings_size len y
    unfolding strings_size
    none-at-end e = rw (ne_eqb y.symbols.count 0 n, eq-eqb y.symbols.strings.start.0 len e) refl

    module _ (m : y.symbols.strings.start.0 ≡ len → ⊥) where
      pub four : y.symbols.strings.length ≡ 0 → 4 ≡ strings_size len y
      unfolding strings_size
      four e = rw (ne_eqb y.symbols.count 0 n, ne_eqb y.symbols.strings.start.0 len m, eq-eqb y.symbols.strings.length 0 e) refl

      pub stated : (y.symbols.strings.length ≡ 0 → ⊥) → y.symbols.strings.length ≡ strings_size len y
      unfolding strings_size
      stated e = rw (ne_eqb y.symbols.count 0 n, ne_eqb y.symbols.strings.start.0 len m, ne_eqb y.symbols.strings.length 0 e) refl

-- ---- the lists

pub parts_shared : (file : List ℕ) (y : Summary) (m : Module) {h s : ℕ} {t d o : FileRange} {r : Bool}
    → h ≡ section_start y.format y.opthdr y.count → s ≡ strings_size (length file) y → t ≡ part_range m.parts.text → d ≡ part_range m.parts.«data» → o ≡ part_range m.parts.loader
    → r ≡ shares_two (range 0 h ∷ t ∷ d ∷ o ∷ symbols_range y ∷ range y.symbols.strings.start.0 s ∷ []) → r ≡ shares_two (file_ranges file y m)
unfolding file_ranges
parts_shared file y m qh qs qt qd qo e = e ∙ rw (qh, qs, qt, qd, qo) refl

pub tables-shared : (l : Loadable) {h : LoaderLayout} {o : RelocationLayout} {r : Bool} → h ≡ loader_layout l.layout.format → o ≡ relocation_layout l.layout.format
    → r ≡ shares_two (range l.layout.parts.loader.start.0 h.length ∷ range l.tables.symbols.0 (l.tables.nsyms * loader_symbol_length)
    ∷ range l.tables.relocations.0 (l.tables.nreloc * o.length) ∷ l.tables.ids ∷ l.tables.strings ∷ [])
    → r ≡ shares_two (loader_ranges l)
unfolding loader_ranges
tables-shared l qh qo e = e ∙ rw (qh, qo) refl

pub either-shared : (file : List ℕ) (y : Summary) (l : Loadable) {a b : Bool} → a ≡ shares_two (file_ranges file y l.layout) → a ≡ false → b ≡ shares_two (loader_ranges l) → b ≡ is_shared file y l
unfolding is_shared
either-shared file y l e q h = h ∙ rw (sym e ∙ q) refl

pub first-shared : (file : List ℕ) (y : Summary) (l : Loadable) {a : Bool} → a ≡ shares_two (file_ranges file y l.layout) → a ≡ true → a ≡ is_shared file y l
unfolding is_shared
first-shared file y l e q = q ∙ rw (sym e ∙ q) refl
