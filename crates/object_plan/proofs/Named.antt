-- What the refusals of builds and moves of an object file name is there. Assumes nothing.
use Prim.Native.Nat.{ℕ, zero, suc, ◌+◌, ◌≤◌, ◌<◌}
use mathlib.Core.Path.{◌≡◌, refl, sym, subst}
use mathlib.Core.Bool.{not, ◌&&◌}
use mathlib.Core.List.{List, [], ◌∷◌}
use native.Mathlib.Omega.{arith}
use lib.Dec.{eqb, ltb, leb}
use lib.ListN.{length, get_or}
use Rattle.format.specs.declared.SectionNumber.{SectionNumber}
use Rattle.refusal.specs.declared.PlanItem.TheVariants.{SectionAddress}
use Rattle.refusal.specs.declared.RoomItem.TheVariants.{AddressList, ObjectBuffer}
use Rattle.refusal.specs.declared.SectionRelocation.{SectionRelocation}
use Rattle.refusal.specs.declared.Refusal.{Refusal}
use Rattle.refusal.specs.declared.Refusal.TheVariants as refusal
use Rattle.refusal.proofs.Order.{accepted-first, accepted-rest}
use Rattle.refusal.proofs.Causes.{Causes, cause-if, cause-test, cause-then, cause-first}
use Rattle.offset.specs.Named.{Named}
use Rattle.offset.proofs.Named.{plain-named}
use Rattle.header.specs.declared.Summary.{Summary}
use Rattle.header.specs.Open.{open_of}
use Rattle.symbol.specs.declared.Tables.{Tables}
use Rattle.symbol.specs.Entry.{tables_of}
use Rattle.book.specs.Machine.{Shifts}
use Rattle.book.specs.Entries.{All}
use Rattle.section_relocation.specs.declared.ObjectSection.{ObjectSection}
use Rattle.object_entry.proofs.Entries.{entry-name}
use Rattle.object.specs.Sections.{object_section}
use Rattle.object.specs.Check.{sections_check, tables_check, object_in, object_check}
use Rattle.object.proofs.Named.{check-named, range-named}
use Rattle.object_history.specs.declared.ObjectEntry.{ObjectEntry}
use Rattle.object_history.specs.Range.{out_of_range, range_from}
use Rattle.object_history.specs.Object.{Object, Plan, section_of, displacements, differences, list_check, address_check, section_check, fit_check}
use Rattle.object_history.specs.Call.{Call, build, move, room_check, range_check, call_check}
use Rattle.object_plan.specs.Object.{entries_from, table_entries, entries_in, object_of}
use Rattle.object_plan.proofs.Sound.{all_append}
use Rattle.std.specs.Prelude.{Ok}

-- ---- of any object, where its own refusal and those of its entries are named

module _ (file : List ℕ) (o : Object) where
  abbrev P : Refusal → Type 0
  P = Named file

  list-named : (p : Plan) → Causes P (list_check o p)
  unfolding list_check
  list-named p =
      cause-if P (not (eqb (length p) (length o.sections))) (refusal.Room AddressList) (λ _. plain-named file (refusal.Room AddressList) (λ s. refl) (λ _ e. e))

  address-named : (n : SectionNumber) → P (refusal.Plan (SectionAddress n))
  address-named n = plain-named file (refusal.Plan (SectionAddress n)) (λ s. refl) (λ _ e. e)

  fit-named : (p : Plan) → Causes P (fit_check o p)
  unfolding fit_check section_check address_check
  fit-named p =
      cause-first P (section_check o p) 0 (length o.sections)
      (λ k _ _. let s = section_of o k in let a = get_or p k 0 in
      cause-if P (s.placed && not (ltb a o.limit && leb (a + s.size) o.limit)) (refusal.Plan (SectionAddress (record { 0 = k + 1 }))) (λ _. address-named (record { 0 = k + 1 })))

  room-named : (len : ℕ) → Causes P (room_check o len)
  unfolding room_check
  room-named len =
      cause-if P (not (eqb len (length o.raw))) (refusal.Room ObjectBuffer) (λ _. plain-named file (refusal.Room ObjectBuffer) (λ s. refl) (λ _ e. e))

  from_named : (s : Shifts) (x : List ℕ) (es ds : List ObjectEntry) → All (λ e. P (refusal.Range e.name)) ds → Causes P (range_from es s x ds)
  unfolding range_from
  from_named s x es [] a = tt
  from_named s x es (d ∷ ds) a = cause-test P (out_of_range es s x d) (refusal.Range d.name) _ (λ _. a.0) (λ _. from_named s x es ds a.1)

  module _ (v : Causes P o.verdict) (a : o.verdict ≡ Ok tt → All (λ e. P (refusal.Range e.name)) o.entries) where
    range-check-named : (s : Shifts) (x : List ℕ) → o.verdict ≡ Ok tt → Causes P (range_check o s x)
    unfolding range_check
    range-check-named s x e = from_named s x o.entries o.entries (a e)

    call-named-by : (len : ℕ) (x : List ℕ) (c : Call) → Causes P (call_check o len x c)
    unfolding call_check
    call-named-by len x (build p) =
        cause-then P o.verdict _ v
        (λ e. cause-then P (list_check o p) _ (list-named p)
        (λ _. cause-then P (fit_check o p) _ (fit-named p)
        (λ _. cause-then P (room_check o len) _ (room-named len) (λ _. range-check-named (displacements o p) o.raw e))))
    call-named-by len x (move p q) =
        cause-then P o.verdict _ v
        (λ e. cause-then P (list_check o p) _ (list-named p)
        (λ _. cause-then P (list_check o q) _ (list-named q)
        (λ _. cause-then P (fit_check o p) _ (fit-named p)
        (λ _. cause-then P (fit_check o q) _ (fit-named q)
        (λ _. cause-then P (room_check o len) _ (room-named len) (λ _. range-check-named (differences o p q) x e))))))

-- ---- of the object in a file

module _ (file : List ℕ) (opened : (open_of file).verdict ≡ Ok tt) (good : sections_check (length file) (open_of file).summary ≡ Ok tt) where
  abbrev y : Summary
  y = (open_of file).summary

  abbrev part : ℕ → ObjectSection
  part k = object_section (length file) y k

  from-there : (t : Tables) (k : ℕ) → k < y.count → (i n : ℕ) → i + n ≤ (part k).count → All (λ e. Named file (refusal.Range e.name)) (entries_from file t (part k) i n)
  unfolding entries_from
  from-there t k l i zero h = tt
  from-there t k l i (suc n) h = (
    subst (λ (m : SectionRelocation). Named file (refusal.Range m)) (sym (entry-name file t (part k) i)) (range-named file opened good k l i (omega arith)),
    from-there t k l (suc i) n (omega arith),
  )

  entries-there : (k n : ℕ) → k + n ≤ y.count → All (λ e. Named file (refusal.Range e.name)) (entries_in file y k n)
  unfolding entries_in
  entries-there k zero h = tt
  entries-there k (suc n) h =
      all_append (λ e. Named file (refusal.Range e.name)) (table_entries file (tables_of file y) (part k)) (entries_in file y (suc k) n)
      (from-there (tables_of file y) k (omega arith) 0 (part k).count (omega arith)) (entries-there (suc k) n (omega arith))

accepted-entries : (file : List ℕ) → object_check file ≡ Ok tt → All (λ e. Named file (refusal.Range e.name)) (object_of file).entries
unfolding object_of
accepted-entries file e = rw e (entries-there file (opened e) (sections (inside e)) 0 (open_of file).summary.count (omega arith))
  where
    opened : object_check file ≡ Ok tt → (open_of file).verdict ≡ Ok tt
    opened q = unfold object_check in accepted-first (open_of file).verdict (object_in file (open_of file).summary) q

    inside : object_check file ≡ Ok tt → object_in file (open_of file).summary ≡ Ok tt
    inside q = unfold object_check in accepted-rest (open_of file).verdict (object_in file (open_of file).summary) q

    sections : object_in file (open_of file).summary ≡ Ok tt → sections_check (length file) (open_of file).summary ≡ Ok tt
    sections q = unfold object_in in accepted-first (sections_check (length file) (open_of file).summary) (tables_check file (open_of file).summary) q

verdict-named : (file : List ℕ) → Causes (Named file) (object_of file).verdict
unfolding object_of
verdict-named file = check-named file

entries-named : (file : List ℕ) → (object_of file).verdict ≡ Ok tt → All (λ e. Named file (refusal.Range e.name)) (object_of file).entries
entries-named file e = accepted-entries file (judged e)
  where
    judged : (object_of file).verdict ≡ Ok tt → object_check file ≡ Ok tt
    judged q = unfold object_of in q

-- request 4: of each build and move, on a buffer of any length
pub call-named : (file : List ℕ) (len : ℕ) (x : List ℕ) (c : Call) → Causes (Named file) (call_check (object_of file) len x c)
call-named file len x c = call-named-by file (object_of file) (verdict-named file) (entries-named file) len x c
