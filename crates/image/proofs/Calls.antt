-- What a call answers and leaves, by what its checks said and what was written. Assumes nothing.
use mathlib.Core.Path.{◌≡◌, refl, sym, ◌∙◌, ap, subst}
use mathlib.Core.Bool.{true, false}
use mathlib.Core.List.{List}
use Prim.Native.Nat.{ℕ}
use lib.ListN.{length}
use lib.IntN.{pos, ◌-ℤ◌}
use Rattle.refusal.specs.declared.Refusal.{Refusal}
use Rattle.loadable.specs.declared.Loadable.{Loadable}
use Rattle.loadable.specs.Loadable.{loadable_at}
use Rattle.loadable.specs.Valid.{Valid}
use Rattle.loadable.proofs.Accepted.{loadable-valid}
use Rattle.history.specs.declared.Reached.{Reached}
use Rattle.history.specs.Images.{Images, apply_all}
use Rattle.history.specs.Plan.{Relocatable, Plan, plan_check, displacements, reached_by}
use Rattle.history.specs.Call.{Call, build, move, plan_reached, call_check, accepted, effect, answer_of}
use Rattle.plan.specs.Relocatable.{relocations_from, relocatable_of, no_module, relocatable_by, relocatable_at}
use Rattle.apply.specs.Shift.{shift_of, Displaced, ForPlans}
use Rattle.apply.proofs.Exact.{built-exact, moved-exact}
use Rattle.image.specs.Report.{report_of_call}
use Rattle.std.specs.Prelude.{Err, Ok, Result}

-- ---- a call of an accepted module

module _ (m : Relocatable) (c : Call) (x : Images) where
  -- what a call answers and leaves
  abbrev pub Answers : Result Reached Refusal → Images → Type 0
  Answers r y = (r ≡ answer_of m (length x.text) (length x.dat) c) × (y ≡ effect m c x)

  -- refused: nothing is changed
  pub call-refused : (r : Refusal) → call_check m (length x.text) (length x.dat) c ≡ Err r → Answers (Err r) x
  unfolding answer_of effect
  call-refused r e = (rw e refl, rw e refl)

  -- accepted
  pub call-done : (r : Reached) (y : Images) → call_check m (length x.text) (length x.dat) c ≡ Ok tt → r ≡ reached_by m (plan_reached c)
      → y ≡ accepted m c x → Answers (Ok r) y
  unfolding answer_of effect
  call-done r y e h k = (rw e (ap Ok h), rw e k)

module _ (file : List ℕ) (l : Loadable) (d : List ℕ) (x y : Images) where
  -- the raw images with each entry applied by the plan's displacements are what a build leaves
  pub build-leaves : (p : Plan) (z : Images)
      → Displaced d (pos p.text -ℤ pos l.layout.parts.text.address.0) (pos p.dat -ℤ pos l.layout.parts.«data».address.0)
      → z ≡ (relocatable_of file l).raw
      → ForPlans (relocatable_of file l) d false p.list p.list (λ s. y ≡ apply_all (relocations_from file l 0 l.tables.nreloc) s z)
      → y ≡ accepted (relocatable_of file l) (build p) x
  unfolding accepted shift_of displacements relocatable_of
  build-leaves p z h r e =
      e p p refl refl (built-exact file l d p p h) ∙ ap (apply_all (relocatable_of file l).entries (displacements (relocatable_of file l) p)) r

  -- the buffers with each entry applied by what the plans' displacements differ by are what a move leaves
  pub move-leaves : (p q : Plan) → Displaced d (pos q.text -ℤ pos p.text) (pos q.dat -ℤ pos p.dat)
      → ForPlans (relocatable_of file l) d true p.list q.list (λ s. y ≡ apply_all (relocations_from file l 0 l.tables.nreloc) s x)
      → y ≡ accepted (relocatable_of file l) (move p q) x
  unfolding accepted shift_of displacements relocatable_of
  move-leaves p q h e = e p q refl refl (moved-exact (relocatable_of file l) d p q h)

-- ---- a call of any file

module _ (file : List ℕ) {a : Result Loadable Refusal} (e : a ≡ loadable_at file) where
  -- an accepted module is valid
  pub found-valid : (l : Loadable) → a ≡ Ok l → Valid file l
  found-valid l h = loadable-valid file l (sym e ∙ h)

  -- what a public function answers and leaves
  abbrev pub Reports : Call → Images → Result Reached Refusal → Images → Type 0
  Reports c x r y =
      (r ≡ answer_of (relocatable_at file) (length x.text) (length x.dat) c)
      × ((report_of_call file r ≡ report_of_call file (answer_of (relocatable_at file) (length x.text) (length x.dat) c)) × (y ≡ effect (relocatable_at file) c x))

  -- what a call answers and leaves of the file's module is what the public function should
  reports : (m : Relocatable) (c : Call) (x : Images) (r : Result Reached Refusal) (y : Images) → m ≡ relocatable_at file → Answers m c x r y → Reports c x r y
  reports m c x r y h k =
      let b = subst (λ (n : Relocatable). Answers n c x r y) h k in
      (b.0, (ap (report_of_call file) b.0, b.1))

  -- every call of a refused file gives its refusal
  none-refused : (x : Refusal) (tl dl : ℕ) (c : Call) → call_check (no_module x) tl dl c ≡ Err x
  unfolding call_check plan_check no_module
  none-refused x tl dl (build p) = refl
  none-refused x tl dl (move p q) = refl

  -- the module is refused
  pub file-refused : (c : Call) (x : Images) (r : Refusal) → a ≡ Err r → Reports c x (Err r) x
  file-refused c x r h =
      reports (no_module r) c x (Err r) x (none_is h) (call-refused (no_module r) c x r (none-refused r (length x.text) (length x.dat) c))
    where
      none_is : a ≡ Err r → no_module r ≡ relocatable_at file
      none_is k = unfold relocatable_at relocatable_by in ap (relocatable_by file) (sym k ∙ e)

  -- it is accepted, and the call answers and leaves what it should of that module
  pub file-accepted : (c : Call) (x : Images) (l : Loadable) (r : Result Reached Refusal) (y : Images) → a ≡ Ok l
      → Answers (relocatable_of file l) c x r y → Reports c x r y
  file-accepted c x l r y h k = reports (relocatable_of file l) c x r y (found-is h) k
    where
      found-is : a ≡ Ok l → relocatable_of file l ≡ relocatable_at file
      found-is k = unfold relocatable_at relocatable_by in ap (relocatable_by file) (sym k ∙ e)
