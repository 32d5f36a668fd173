-- What a module's refusals name is there, and where offsets find its loader section. Assumes nothing.
use Prim.Native.Nat.{ℕ, ◌+◌, ◌≤◌}
use mathlib.Core.Path.{◌≡◌, refl}
use mathlib.Core.Bool.{false, not, ◌&&◌, ◌||◌}
use mathlib.Core.List.{List}
use native.Mathlib.Omega.{arith}
use lib.Dec.{eqb, ltb}
use lib.ListN.{length}
use borrow.Author.Tests.{not-false}
use Rattle.section_kind.specs.declared.SectionKind.TheVariants.{Tdata, Tbss}
use Rattle.section_kind.specs.Kind.{flags_of}
use Rattle.format.specs.Layout.{aux_layout}
use Rattle.format.specs.Limit.{data_image_limit}
use Rattle.refusal.specs.declared.AddressItem.TheVariants.{BssBelowData}
use Rattle.refusal.specs.declared.LimitItem.TheVariants.{DataImage}
use Rattle.refusal.specs.declared.ModuleItem.{ModuleItem}
use Rattle.refusal.specs.declared.ModuleItem.TheVariants.{ShortAuxHeader, SectionSet, AuxHeaderDiffers, NoRawData, EntryOrToc}
use Rattle.refusal.specs.declared.Refusal.{Refusal}
use Rattle.refusal.specs.declared.Refusal.TheVariants as refusal
use Rattle.refusal.specs.declared.ThreadItem.TheVariants.{ThreadSection}
use Rattle.refusal.specs.Order.{refuse_if, by_verdict}
use Rattle.refusal.proofs.Order.{accepted-first, accepted-rest, accepted-test}
use Rattle.refusal.proofs.Causes.{Causes, cause-if, cause-test, cause-then, cause-first}
use Rattle.file_header.specs.Header.{header_at}
use Rattle.offset.specs.Named.{Named, loader_start}
use Rattle.offset.proofs.Named.{plain-named, named_by}
use Rattle.header.specs.declared.Summary.{Summary}
use Rattle.header.specs.Open.{open_of}
use Rattle.header.proofs.Named.{Opens, opens, opened-named, format-is, section-there}
use Rattle.parts.specs.Sections.{flag_at, tallies_of, one_each, part_at, parts_of, thread_at, thread_check}
use Rattle.parts.proofs.Loader.{loader-there}
use Rattle.parts.proofs.Tallied.{Known, each-known}
use Rattle.auxiliary.specs.Auxiliary.{numbers_agree, sizes_agree}
use Rattle.module.specs.declared.Module.{Module}
use Rattle.module.specs.Module.{lacks_data, is_anchor, bss_below, image_length, parts_check, aux_of, module_check, module_with, module_in, module_at}
use Rattle.std.specs.Prelude.{Err, Ok, Result}
use Rattle.refusal.specs.Verdict.{Verdict}

-- where offsets find the loader section of a module that is found
pub record LoaderPlace (file : List ℕ) (m : Module) : Type 0 where
  pub opened : Opens file
  pub format : m.format ≡ opened.format
  pub start : loader_start file (header_at opened.format file) ≡ m.parts.loader.start.0
  pub inside : loader_start file (header_at opened.format file) ≤ length file

-- what holds of a module's answer, and of its refusal
abbrev pub ModuleCauses : List ℕ → Result Module Refusal → Type 0
ModuleCauses file (Ok m) = LoaderPlace file m
ModuleCauses file (Err x) = Named file x

module _ (file : List ℕ) (o : Opens file) where
  abbrev P : Refusal → Type 0
  P = Named file

  abbrev y : Summary
  y = (open_of file).summary

  module-item : (i : ModuleItem) → P (refusal.Module i)
  module-item i = plain-named file (refusal.Module i) (λ s. refl) (λ _ e. e)

  thread-named : Causes P (thread_check y)
  unfolding thread_check thread_at
  thread-named =
      cause-first P (thread_at y.sections) 0 y.count
      (λ j _ q. cause-if P (eqb (flag_at y.sections j) (flags_of Tdata) || eqb (flag_at y.sections j) (flags_of Tbss)) (refusal.Thread (ThreadSection (record { 0 = j + 1 })))
      (λ _. named_by file o.format o.headed (refusal.Thread (ThreadSection (record { 0 = j + 1 }))) (section-there file o (j + 1) (omega arith) (omega arith))))

  module _ (k : Known y (tallies_of y)) where
    bss-named : P (refusal.Address (BssBelowData (parts_of y).bss.number))
    unfolding parts_of part_at tallies_of
    bss-named = named_by file o.format o.headed (refusal.Address (BssBelowData (parts_of y).bss.number)) (section-there file o (parts_of y).bss.number.0 k.bss.0 k.bss.1)

    parts-named : Causes P (parts_check (parts_of y) (aux_of file y))
    unfolding parts_check
    parts-named =
        let p = parts_of y in
        let a = aux_of file y in
        cause-test P (not (numbers_agree p a && sizes_agree p a)) (refusal.Module AuxHeaderDiffers) _ (λ _. module-item AuxHeaderDiffers)
        (λ _. cause-test P (lacks_data p.text || lacks_data p.«data» || lacks_data p.loader) (refusal.Module NoRawData) _ (λ _. module-item NoRawData)
        (λ _. cause-test P (not (is_anchor p a.snentry && is_anchor p a.sntoc)) (refusal.Module EntryOrToc) _ (λ _. module-item EntryOrToc)
        (λ _. cause-test P (bss_below p) (refusal.Address (BssBelowData p.bss.number)) _ (λ _. bss-named)
        (λ _. cause-if P (ltb data_image_limit (image_length p)) (refusal.Limit DataImage) (λ _. plain-named file (refusal.Limit DataImage) (λ s. refl) (λ _ e. e))))))

  one_each_lem : not (one_each (tallies_of y)) ≡ false → Known y (tallies_of y)
  one_each_lem e = each-known y refl (not-false (one_each (tallies_of y)) e)

  check-named : Causes P (module_check file y)
  unfolding module_check
  check-named =
      cause-test P (ltb y.opthdr (aux_layout y.format).length) (refusal.Module ShortAuxHeader) _ (λ _. module-item ShortAuxHeader)
      (λ _. cause-test P (not (one_each (tallies_of y))) (refusal.Module SectionSet) _ (λ _. module-item SectionSet)
      (λ e. cause-then P (thread_check y) _ thread-named (λ _. parts-named (one_each_lem e))))

  -- ---- a module that is found

  loader-placed : not (one_each (tallies_of y)) ≡ false → LoaderPlace file (module_with y.format (parts_of y) (aux_of file y))
  unfolding module_with parts_of tallies_of
  loader-placed e =
      let l = loader-there file o (one_each_lem e).loader.0 in
      record { opened = o; format = format-is file o; start = l.0; inside = l.1 }

  in-named : ModuleCauses file (module_in file y)
  unfolding module_in module_check
  in-named = by (module_check file y) refl check-named
    where
      by : (v : Verdict) → module_check file y ≡ v → Causes P v → ModuleCauses file (by_verdict v (Ok (module_with y.format (parts_of y) (aux_of file y))) Err)
      by (Ok tt) e c =
          let r = accepted-rest (refuse_if (ltb y.opthdr (aux_layout y.format).length) (refusal.Module ShortAuxHeader)) _ e in
          loader-placed (accepted-test (not (one_each (tallies_of y))) (refusal.Module SectionSet) (accepted-first (refuse_if (not (one_each (tallies_of y))) (refusal.Module SectionSet)) _ r))
      by (Err x) e c = c

-- request 4: of a module's sections
pub module-named : (file : List ℕ) → ModuleCauses file (module_at file)
unfolding module_at
module-named file = by (open_of file).verdict refl (opened-named file)
  where
    by : (v : Verdict) → (open_of file).verdict ≡ v → Causes (Named file) v → ModuleCauses file (by_verdict v (module_in file (open_of file).summary) Err)
    by (Ok tt) e c = in-named file (opens file e)
    by (Err x) e c = c
