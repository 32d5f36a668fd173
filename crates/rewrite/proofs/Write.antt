-- What writing a module does, step by step. Assumes nothing.
use mathlib.Core.Path.{◌≡◌, refl, sym, ◌∙◌, ap, subst}
use mathlib.Core.Bool.{true, false}
use mathlib.Core.List.{List}
use Prim.Native.Nat.{ℕ, ◌+◌, ◌≤◌}
use lib.ListN.{length}
use borrow.Author.Tests.{eq-eqb, ne_eqb}
use Rattle.word.proofs.Test.{or-first}
use Rattle.format.specs.Layout.{header_layout, aux_layout}
use Rattle.refusal.specs.declared.Refusal.{Refusal}
use Rattle.refusal.specs.declared.Refusal.TheVariants as refusal
use Rattle.refusal.specs.declared.RoomItem.TheVariants.{AddressList, FileBuffer}
use Rattle.refusal.specs.Refusal.{is_refused}
use Rattle.refusal.specs.Order.{◌or_else◌, refuse_if, if_accepted}
use Rattle.refusal.proofs.Order.{accepted-first, accepted-rest, accepted-test, accepted-equal, go_on, stop}
use Rattle.header.specs.declared.Summary.{Summary}
use Rattle.header.specs.Open.{open_of}
use Rattle.header.specs.Inside.{Inside}
use Rattle.header.proofs.Accepted.{opened_inside}
use Rattle.loadable.specs.declared.Loadable.{Loadable}
use Rattle.loadable.specs.Loadable.{loadable_at}
use Rattle.loadable.specs.Valid.{Valid}
use Rattle.loadable.proofs.Accepted.{loadable-valid}
use Rattle.history.specs.Plan.{Relocatable, Plan, displacement_of, displacements, built_images, list_room, list_check, fit_check, plan_check}
use Rattle.history.specs.declared.Followed.{Followed}
use Rattle.plan.specs.Relocatable.{relocations_from, relocatable_of, relocatable_by, relocatable_at, no_module}
use Rattle.shared_range.specs.Shared.{Disjoint}
use Rattle.shared_range.proofs.Shared.{separate}
use Rattle.frame.specs.Change.{each_from}
use Rattle.rebase.specs.Rebase.{new_address}
use Rattle.written.specs.Written.{put_text, put_data, put_aux, put_section, put_symbol, put_entry, written_by, written}
use Rattle.written.specs.Shared.{part_range, file_ranges, is_shared}
use Rattle.written.specs.Write.{output_room, rewrite_check, written_at, output_after}
use Rattle.written.proofs.Found.{found-opened, found-format, found-aux}
use lib.IntN.{pos, ◌-ℤ◌}
use Rattle.history.specs.declared.Followed.TheVariants as followed
use Rattle.apply.specs.Shift.{shift_of, shifts_of, Displaced, ForPlans}
use Rattle.apply.proofs.Exact.{built-exact}
use Rattle.displacement.specs.declared.Addresses.{Addresses}
use Rattle.displacement.specs.Reach.{plan_of}
use Rattle.plan.proofs.Symbols.{length_symbols}
use Rattle.address_put.specs.New.{ForFormat}
use Rattle.rewrite.specs.Ready.{Ready, check_of}
use Rattle.rewrite.specs.InPlace.{place_all}
use Rattle.rewrite.proofs.InPlace.{images-placed}
use Rattle.std.specs.Prelude.{Err, Ok}
use Rattle.refusal.specs.Verdict.{Verdict}

-- ---- what is known of a module

module _ (file : List ℕ) (y : Summary) (l : Loadable) (r : Ready file y l) where
  pub ready-valid : Valid file l
  ready-valid = loadable-valid file l r.loads

  pub ready-inside : Inside file y
  ready-inside = subst (Inside file) (sym r.opens) (opened_inside file (found-opened file l r.loads))

  pub ready-format : l.layout.format ≡ y.format
  ready-format = found-format file l r.loads ∙ ap (λ (t : Summary). t.format) (sym r.opens)

  pub ready-aux : (header_layout l.layout.format).length + (aux_layout l.layout.format).length ≤ length file
  ready-aux = found-aux file l r.loads

  -- text and data share no byte
  apart_parts : is_shared file y l ≡ false → Disjoint (part_range l.layout.parts.text) (part_range l.layout.parts.«data»)
  unfolding is_shared file_ranges
  apart_parts e = (separate _ (or-first _ _ e)).1.0.0

  -- ---- the changes in order

  module _ (p : Plan) (s : is_shared file y l ≡ false) where
    abbrev M : Relocatable
    M = relocatable_of file l

    abbrev new : Followed → ℕ → ℕ
    new = new_address M p

    pub written-steps : (a b c d e f : List ℕ) → a ≡ file → b ≡ place_all l.layout.parts M.entries (displacements M p) a → c ≡ put_aux new file l.layout b
        → d ≡ each_from (put_section new file y) 0 y.count c → e ≡ each_from (put_symbol new file l) 0 l.tables.nsyms d → f ≡ each_from (put_entry new file l) 0 l.tables.nreloc e
        → f ≡ written file l p
    written-steps a b c d e f qa qb qc qd qe qf =
        qf ∙ ap (each_from (put_entry new file l) 0 l.tables.nreloc) (qe ∙ ap (each_from (put_symbol new file l) 0 l.tables.nsyms) (qd ∙ ap (each_from (put_section new file y) 0 y.count) (qc ∙ ap (put_aux new file l.layout)
        (qb ∙ ap (place_all l.layout.parts M.entries (displacements M p)) qa ∙ images-placed file l ready-valid p (apart_parts s)))))
        ∙ whole
      where
        whole : each_from (put_entry new file l) 0 l.tables.nreloc (each_from (put_symbol new file l) 0 l.tables.nsyms (each_from (put_section new file y) 0 y.count
            (put_aux new file l.layout (put_data (built_images M p) l.layout (put_text (built_images M p) l.layout file))))) ≡ written file l p
        whole = unfold written written_by in
            ap (λ (t : Summary). each_from (put_entry new file l) 0 l.tables.nreloc (each_from (put_symbol new file l) 0 l.tables.nsyms (each_from (put_section new file t) 0 t.count
            (put_aux new file l.layout (put_data (built_images M p) l.layout (put_text (built_images M p) l.layout file)))))) r.opens

-- ---- the verdict

module _ (file : List ℕ) (y : Summary) (l : Loadable) (p : Plan) (n : ℕ) {v : Verdict} (q : v ≡ plan_check (relocatable_of file l) p) where
  pub plan-refused : is_refused v ≡ true → v ≡ check_of file y l p n
  unfolding check_of
  plan-refused e = q ∙ sym (stop (plan_check (relocatable_of file l) p) _ (ap is_refused (sym q) ∙ e))

  module _ (e : is_refused v ≡ false) where
    rest : check_of file y l p n ≡ (refuse_if (is_shared file y l) refusal.Shared or_else output_room (length file) n)
    unfolding check_of
    rest = go_on (plan_check (relocatable_of file l) p) _ (ap is_refused (sym q) ∙ e)

    pub shared-refused : is_shared file y l ≡ true → Err refusal.Shared ≡ check_of file y l p n
    shared-refused h = sym (rest ∙ rw h refl)

    module _ (f : is_shared file y l ≡ false) where
      pub all-accepted : n ≡ length file → (Ok tt) ≡ check_of file y l p n
      all-accepted h = sym (rest ∙ rw f (unfold output_room in rw (eq-eqb n (length file) h) refl))

      pub room-refused : (n ≡ length file → ⊥) → Err (refusal.Room FileBuffer) ≡ check_of file y l p n
      room-refused h = sym (rest ∙ rw f (unfold output_room in rw (ne_eqb n (length file) h) refl))

-- ---- by what the file is

module _ (file : List ℕ) (p : Plan) where
  pub check-refused : (x : Refusal) (n : ℕ) → Err x ≡ loadable_at file → Err x ≡ rewrite_check file p n
  unfolding rewrite_check relocatable_at relocatable_by plan_check no_module
  check-refused x n e = rw (← e) refl

  pub check-found : (l : Loadable) (n : ℕ) {y : Summary} {v : Verdict} → loadable_at file ≡ Ok l → y ≡ (open_of file).summary → v ≡ check_of file y l p n → v ≡ rewrite_check file p n
  unfolding rewrite_check relocatable_at relocatable_by check_of
  check-found l n e q h = rw e (h ∙ rw q refl)

  pub output-refused : (out : List ℕ) {v : Verdict} → v ≡ rewrite_check file p (length out) → is_refused v ≡ true → out ≡ output_after file p out
  unfolding output_after
  output-refused out {v} e h = rw (← e) (by-verdict v h)
    where
      by-verdict : (w : Verdict) → is_refused w ≡ true → out ≡ if_accepted w (written_at file p) out
      by-verdict (Ok tt) q = cc
      by-verdict (Err x) q = refl

  pub output-written : (l : Loadable) (out xs : List ℕ) {v : Verdict} → loadable_at file ≡ Ok l → v ≡ rewrite_check file p (length out) → is_refused v ≡ false → xs ≡ written file l p → xs ≡ output_after file p out
  unfolding output_after written_at
  output-written l out xs {v} e q h w = rw (← q, e) (by-verdict v h)
    where
      by-verdict : (u : Verdict) → is_refused u ≡ false → xs ≡ if_accepted u (written file l p) out
      by-verdict (Ok tt) q = w
      by-verdict (Err x) q = cc

-- ---- the code's steps

module _ (file : List ℕ) (y : Summary) (l : Loadable) (r : Ready file y l) (at : Addresses) (imports d : List ℕ) (s : is_shared file y l ≡ false)
    (moved : Displaced d (pos at.text.0 -ℤ pos l.layout.parts.text.address.0) (pos at.«data».0 -ℤ pos l.layout.parts.«data».address.0)) where
  abbrev p : Plan
  p = plan_of at imports

  format-is : (relocatable_of file l).format ≡ l.layout.format
  unfolding relocatable_of
  format-is = refl

  shifts : Displaced d (shift_of (relocatable_of file l) false p p followed.Text) (shift_of (relocatable_of file l) false p p followed.Data)
  shifts = built-exact file l d p p moved

  displaced : Displaced d (displacement_of (relocatable_of file l) p followed.Text) (displacement_of (relocatable_of file l) p followed.Data)
  unfolding displacement_of relocatable_of
  displaced = moved

  placed : (a b : List ℕ) → ForPlans (relocatable_of file l) d false imports imports (λ t. b ≡ place_all l.layout.parts (relocations_from file l 0 l.tables.nreloc) t a)
      → b ≡ place_all l.layout.parts (relocatable_of file l).entries (displacements (relocatable_of file l) p) a
  placed a b h = ends (h p p refl refl shifts)
    where
      ends : b ≡ place_all l.layout.parts (relocations_from file l 0 l.tables.nreloc) (shifts_of (relocatable_of file l) false p p) a
          → b ≡ place_all l.layout.parts (relocatable_of file l).entries (displacements (relocatable_of file l) p) a
      ends e = unfold relocatable_of displacements shift_of in e

  pub written-by : (a b c e f g : List ℕ) → a ≡ file
      → ForPlans (relocatable_of file l) d false imports imports (λ t. b ≡ place_all l.layout.parts (relocations_from file l 0 l.tables.nreloc) t a)
      → ForFormat l.layout.format d imports (λ new. c ≡ put_aux new file l.layout b)
      → ForFormat y.format d imports (λ new. e ≡ each_from (put_section new file y) 0 y.count c)
      → ForFormat l.layout.format d imports (λ new. f ≡ each_from (put_symbol new file l) 0 l.tables.nsyms e)
      → ForFormat l.layout.format d imports (λ new. g ≡ each_from (put_entry new file l) 0 l.tables.nreloc f)
      → g ≡ written file l p
  written-by a b c e f g qa qb qc qe qf qg =
      let m = relocatable_of file l in
      written-steps file y l r p s a b c e f g qa (placed a b qb) (qc m p format-is refl displaced) (qe m p (format-is ∙ ready-format file y l r) refl displaced)
      (qf m p format-is refl displaced) (qg m p format-is refl displaced)

-- ---- what an accepted plan tells

listed : (file : List ℕ) (l : Loadable) (p : Plan) → list_check (relocatable_of file l) p ≡ Ok tt → length p.list ≡ l.tables.nsyms
unfolding list_check list_room relocatable_of
listed file l p k = accepted-equal (length p.list) (length (relocatable_of file l).symbols) (refusal.Room AddressList) k ∙ length_symbols file l 0 l.tables.nsyms

plan-listed : (m : Relocatable) (p : Plan) → plan_check m p ≡ Ok tt → list_check m p ≡ Ok tt
unfolding plan_check
plan-listed m p e = accepted-first (list_check m p) (fit_check m p) (accepted-rest m.verdict _ e)

room : (len n : ℕ) → output_room len n ≡ Ok tt → n ≡ len
unfolding output_room
room len n e = accepted-equal n len (refusal.Room FileBuffer) e

-- parts that share no byte, a list of as many addresses as loader symbols, an output of the file's length
pub accepted-known : (file : List ℕ) (y : Summary) (l : Loadable) (p : Plan) (n : ℕ) → check_of file y l p n ≡ Ok tt
    → (is_shared file y l ≡ false) × (length p.list ≡ l.tables.nsyms) × (n ≡ length file)
unfolding check_of
accepted-known file y l p n e =
    let m = relocatable_of file l in
    let plan = accepted-first (plan_check m p) _ e in
    let rest = accepted-rest (plan_check m p) _ e in (
      accepted-test (is_shared file y l) refusal.Shared (accepted-first (refuse_if (is_shared file y l) refusal.Shared) _ rest),
      listed file l p (plan-listed m p plan),
      room (length file) n (accepted-rest (refuse_if (is_shared file y l) refusal.Shared) _ rest),
    )
