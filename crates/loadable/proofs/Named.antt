-- What the refusals of a loadable module name is there. Assumes nothing.
use Prim.Native.Nat.{ℕ, ◌*◌, ◌<◌}
use mathlib.Core.Path.{◌≡◌, refl}
use mathlib.Core.Bool.{not}
use mathlib.Core.List.{List}
use native.Mathlib.Omega.{arith}
use lib.ListN.{length}
use Rattle.format.specs.declared.Format.{Format}
use Rattle.format.specs.declared.Format.TheVariants.{Xcoff32, Xcoff64}
use Rattle.format.specs.Layout.{relocation_layout}
use Rattle.refusal.specs.declared.LoaderRelocation.{LoaderRelocation}
use Rattle.refusal.specs.declared.Refusal.{Refusal}
use Rattle.refusal.specs.declared.Refusal.TheVariants as refusal
use Rattle.refusal.specs.declared.ThreadItem.TheVariants.{ThreadSymbol}
use Rattle.refusal.specs.Order.{by_verdict}
use Rattle.refusal.proofs.Order.{accepted-first}
use Rattle.refusal.proofs.Causes.{Causes, cause-if, cause-test, cause-then, cause-first}
use Rattle.file_header.specs.declared.FileHeader.{FileHeader}
use Rattle.file_header.specs.Header.{header_at}
use Rattle.offset.specs.Offset.{starts_as, relocation_place}
use Rattle.offset.specs.Named.{NamesRelocation, Named}
use Rattle.offset.proofs.Named.{named_by, relocation-named}
use Rattle.module.specs.declared.Module.{Module}
use Rattle.module.specs.Module.{module_at}
use Rattle.module.proofs.Accepted.{module-inside}
use Rattle.module.proofs.Named.{LoaderPlace, ModuleCauses, module-named}
use Rattle.loader_header.specs.Header.{loader_header_at, tables_of, header_check, LoaderRoom}
use Rattle.loader_header.proofs.Places.{place-full}
use Rattle.loader.specs.Loader.{tables_in, loader_check, loader_in}
use Rattle.loader.proofs.Accepted.{loader-inside}
use Rattle.loader.proofs.Named.{not-empty, header_is, header-whole, loader-check-named}
use Rattle.relocation.specs.Relocation.{is_thread, is_good, entry_in, own_check, own_at, place_at}
use Rattle.field_overlap.specs.Overlap.{meets}
use Rattle.loader_entries.specs.Entries.{entry_check, entries_check}
use Rattle.loadable.specs.Loadable.{loadable_with, loadable_in, loadable_at}
use Rattle.loadable.proofs.Accepted.{loader-room}
use Rattle.std.specs.Prelude.{Err, Ok, Result}
use Rattle.loadable.specs.declared.Loadable.{Loadable}
use Rattle.refusal.specs.Verdict.{Verdict}

-- what holds of the refusal of a module's answer
abbrev pub LoadableCauses : (Refusal → Type 0) → Result Loadable Refusal → Type 0
LoadableCauses P (Ok l) = Unit {0}
LoadableCauses P (Err x) = P x

entry-long : (f : Format) → 0 < (relocation_layout f).length
entry-long Xcoff32 = omega arith
entry-long Xcoff64 = omega arith

module _ (file : List ℕ) (m : Module) (q : module_at file ≡ Ok m) (l : LoaderPlace file m) where
  abbrev P : Refusal → Type 0
  P = Named file

  abbrev h : FileHeader
  h = header_at l.opened.format file

  room : LoaderRoom (length file) m.parts.loader.start.0 m.parts.loader.size
  room = loader-room file m (module-inside file m q)

  -- ---- the entries, once the loader section is accepted
  module _ (e : loader_check file m ≡ Ok tt) where
    header-accepted : header_check file m.format m.parts.loader.start.0 m.parts.loader.size ≡ Ok tt
    unfolding loader_check
    header-accepted = accepted-first (header_check file m.format m.parts.loader.start.0 m.parts.loader.size) _ e

    tables-found : loader_in file m ≡ Ok (tables_in file m)
    unfolding loader_in
    tables-found = rw e refl

    entry_place_lem : (i : ℕ) → i < (tables_in file m).nreloc → NamesRelocation file h i (relocation_place (starts_as l.opened.format file) i)
    unfolding tables_in tables_of
    entry_place_lem i p =
        let n = loader_header_at m.format m.parts.loader.start.0 file in
        let start = place-full m.parts.loader.start.0 n.rldoff (n.nreloc * (relocation_layout m.format).length) (not-empty n.nreloc i (relocation_layout m.format).length p (entry-long m.format)) in
        relocation-named file l.opened.format l.opened.headed (header-whole file m l room header-accepted) i (rw (header_is file m l) p)
        (rw (header_is file m l, l.start, ← l.format, ← start) (loader-inside file m (tables_in file m) room tables-found).relocations)

    entry_named : (i : ℕ) → i < (tables_in file m).nreloc → Causes P (entry_check file m.format m.parts (tables_in file m) i)
    unfolding entry_check own_at own_check
    entry_named i p =
        let t = tables_in file m in
        let n = entry_in file m.format t i in
        let r : LoaderRelocation = record { 0 = i } in
        let g = l.opened.headed in
        let s = entry_place_lem i p in
        cause-then P (own_at file m.format m.parts t i) _
        (cause-test P (is_thread n) (refusal.Thread (ThreadSymbol r)) _ (λ _. named_by file l.opened.format g (refusal.Thread (ThreadSymbol r)) s)
        (λ _. cause-if P (not (is_good m.format m.parts t.nsyms n)) (refusal.Lrel r) (λ _. named_by file l.opened.format g (refusal.Lrel r) s)))
        (λ _. cause-if P (meets (place_at file m.format m.parts t) i) (refusal.Overlap r) (λ _. named_by file l.opened.format g (refusal.Overlap r) s))

    entries-named : LoadableCauses P (loadable_with file m (Ok (tables_in file m)))
    unfolding loadable_with entries_check
    entries-named = by (entries_check file m.format m.parts (tables_in file m)) (cause-first P (entry_check file m.format m.parts (tables_in file m)) 0 (tables_in file m).nreloc (λ j _ w. entry_named j (omega arith)))
      where
        by : (v : Verdict) → Causes P v → LoadableCauses P (by_verdict v (Ok (record { layout = m; tables = tables_in file m })) Err)
        by (Ok tt) c = tt
        by (Err x) c = c

  with-named : LoadableCauses P (loadable_with file m (loader_in file m))
  unfolding loader_in loadable_with
  with-named = by (loader_check file m) refl (loader-check-named file m l room)
    where
      by : (v : Verdict) → loader_check file m ≡ v → Causes P v → LoadableCauses P (loadable_with file m (by_verdict v (Ok (tables_in file m)) Err))
      by (Ok tt) e c = entries-named e
      by (Err x) e c = c

-- request 4: of everything that refuses a module
pub loadable-named : (file : List ℕ) → LoadableCauses (Named file) (loadable_at file)
unfolding loadable_at loadable_in
loadable-named file = by (module_at file) refl (module-named file)
  where
    by : (a : Result Module Refusal) → module_at file ≡ a → ModuleCauses file a → LoadableCauses (Named file) (loadable_in file a)
    by (Ok m) e c = with-named file m e c
    by (Err x) e c = c
