-- The laws of the csect answers. Assumes nothing.
use Prim.Native.Nat.{ℕ, ◌≤◌, ◌<◌}
use mathlib.Core.Path.{◌≡◌, refl, sym, ap}
use mathlib.Core.Bool.{Bool, true, false, cond, ◌&&◌, and-false}
use mathlib.Core.List.{List, [], ◌∷◌}
use borrow.Author.Tests.{lt-ltb, le-ltb}
use lib.Dec.{ltb}
use Rattle.word.proofs.Test.{either}
use types.Run.{OneOf, miss}
use denote.Enum.Declared.{tag_of}
use Rattle.format.specs.declared.SymbolIndex.{SymbolIndex}
use Rattle.refusal.specs.declared.Refusal.{Refusal}
use Rattle.refusal.specs.declared.Refusal.TheVariants as refusal
use Rattle.header.specs.declared.Opened.{Opened}
use Rattle.header.specs.Open.{open_of}
use Rattle.symbol.specs.declared.Tables.{Tables}
use Rattle.symbol.specs.Entry.{OpenTables}
use Rattle.symbol.specs.Symbol.{symbol_in}
use Rattle.csect.specs.declared.Csect.{Csect}
use Rattle.csect.specs.declared.CsectType.{CsectType}
use Rattle.csect.specs.declared.CsectType.TheVariants.{Er, Sd, Ld, Cm}
use Rattle.csect.specs.Csect.{own_after}
use Rattle.csect_lookup.specs.Lookup.{is_sd_type, is_sd, is_contained, contained, csect_after, csect_in, csect_at, report_of_csect, csect_report}
use Rattle.csect.specs.contracts.CsectType.{the_type}
use Rattle.std.specs.Prelude.{Err, Ok, Result}

-- only an LD has a container
pub no_label : (file : List ℕ) (t : Tables) (i : SymbolIndex) (c : Csect) (k : CsectType) → OneOf (0 ∷ 1 ∷ 3 ∷ []) (tag_of the_type k) → is_contained file t i c k ≡ true
unfolding is_contained
no_label file t i c Er h = refl
no_label file t i c Sd h = refl
no_label file t i c Ld h = absurd (miss (0 ∷ 1 ∷ 3 ∷ []) 2 tt h)
no_label file t i c Cm h = refl

-- an LD's container: not a smaller index, no SD csect, or both
module _ (file : List ℕ) (t : Tables) (i : SymbolIndex) (c : Csect) where
  pub label-before : i.0 ≤ c.length → false ≡ is_contained file t i c Ld
  unfolding is_contained
  label-before h = rw (le-ltb c.length i.0 h)

  module _ {a : Result Csect Refusal} (e : a ≡ own_after file t (record { 0 = c.length }) (symbol_in file t (record { 0 = c.length }))) where
    pub label-loose : is_sd a ≡ false → false ≡ is_contained file t i c Ld
    unfolding is_contained
    label-loose k = rw (← e, k) (sym (and-false (ltb c.length i.0)))

    pub label-held : c.length < i.0 → is_sd a ≡ true → true ≡ is_contained file t i c Ld
    unfolding is_contained
    label-held h k = rw (lt-ltb c.length i.0 h, ← e, k)

-- an LD's container, judged by its own entry, is judged by its whole csect read: an SD needs no container, and an LD is none
sd-by : (file : List ℕ) (t : Tables) (i : SymbolIndex) (c : Csect) (k : CsectType) → c.kind ≡ k → is_sd (cond (is_contained file t i c k) (Ok c) (Err (refusal.Csect i))) ≡ is_sd_type k
unfolding is_contained
sd-by file t i c Er e = ap is_sd_type e
sd-by file t i c Sd e = ap is_sd_type e
sd-by file t i c Cm e = ap is_sd_type e
sd-by file t i c Ld e = either (λ a. is_sd a ≡ false) (is_contained file t i c Ld) (λ _. ap is_sd_type e) (λ _. refl)

sd-contained : (file : List ℕ) (t : Tables) (i : SymbolIndex) (a : Result Csect Refusal) → is_sd a ≡ is_sd (contained file t i a)
unfolding contained
sd-contained file t i (Err x) = refl
sd-contained file t i (Ok c) = sym (sd-by file t i c c.kind refl)

pub container-read : (file : List ℕ) (t : Tables) (i : SymbolIndex) (c : Csect) → is_contained file t i c Ld ≡ (ltb c.length i.0 && is_sd (csect_in file t (record { 0 = c.length })))
unfolding is_contained csect_in csect_after
container-read file t i c =
    let j : SymbolIndex = record { 0 = c.length } in
    ap (λ (b : Bool). ltb c.length i.0 && b) (sd-contained file t j (own_after file t j (symbol_in file t j)))

-- an entry's own csect, with its container and without
module _ (file : List ℕ) (t : Tables) (i : SymbolIndex) {a : Result Csect Refusal} {c : Csect} {k : CsectType} (e : a ≡ own_after file t i (symbol_in file t i)) (f : a ≡ Ok c) (q : c.kind ≡ k) where
  pub csect-by : cond (is_contained file t i c k) (Ok c) (Err (refusal.Csect i)) ≡ csect_in file t i
  unfolding csect_in csect_after contained
  csect-by = rw (← e, f, q)

  pub csect-contained : is_contained file t i c k ≡ true → Ok c ≡ csect_in file t i
  csect-contained h = rw (← csect-by, h)

-- the answer for a file
module _ (file : List ℕ) (i : SymbolIndex) where
  pub csect-refused : {o : Opened} {x : Refusal} → o ≡ open_of file → o.verdict ≡ Err x → Err x ≡ csect_at file i
  unfolding csect_at
  csect-refused e k = rw (rw e at k)

  pub csect-opened : {t : Tables} → OpenTables file t → csect_in file t i ≡ csect_at file i
  unfolding csect_at
  csect-opened o = rw (o.accepted, o.tables)

  pub csect-reported : {a : Result Csect Refusal} → a ≡ csect_at file i → (a ≡ csect_at file i) × (report_of_csect file a ≡ csect_report file i)
  csect-reported e = (e, ap (report_of_csect file) e)
