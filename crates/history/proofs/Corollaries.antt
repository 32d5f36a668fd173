-- The sentences of the mission on plans, builds, moves and refusals, each as a theorem.
use mathlib.Core.Path.{◌≡◌, refl, sym, ◌∙◌, ap, fun_ext}
use mathlib.Core.Bool.{Bool}
use mathlib.Core.List.{List, [], ◌∷◌, ◌++◌}
use Prim.Native.Nat.{ℕ}
use lib.ListN.{length, get_or}
use lib.IntN.{pos, ◌-ℤ◌, +ℤ_invr}
use Rattle.refusal.specs.declared.Refusal.{Refusal}
use Rattle.refusal.proofs.Order.{not-accepted}
use Rattle.update.specs.Update.{Bytes}
use Rattle.history.specs.declared.Followed.{Followed}
use Rattle.history.specs.declared.Followed.TheVariants as followed
use Rattle.history.specs.Images.{Images, Shifts, apply_all, All, image_of, InField}
use Rattle.history.specs.Plan.{Relocatable, Plan, Sound, SamePlan, SameAddress, followed_by, displacement_of, displacements, differences, built_images}
use Rattle.history.specs.Call.{Call, build, move, call_check, accepted, effect, run, Accepts, machine_of}
use Rattle.history.specs.Book.{Chain}
use Rattle.history.specs.Book.Chain.{ended, moved, passed}
use Rattle.history.proofs.Apply.{apply_all-add, apply_all-zero}
use Rattle.history.proofs.Bytes.{apply_all-outside}
use Rattle.history.proofs.Check.{move-back-accepted, build-reached-accepted, accepted-inside, verdict-after, verdict-after-all}
use Rattle.history.proofs.Demand3.{module-lawful}
use Rattle.book.specs.Machine as machine
use Rattle.book.proofs.Call as calls
use Rattle.book.proofs.Chain as chains
use Rattle.std.specs.Prelude.{Err, Ok}
use Rattle.refusal.specs.Verdict.{Verdict}

-- demand 1: "A refusal changes no byte of any buffer I lend."
pub refused-nothing : (m : Relocatable) (c : Call) (x : Images) (r : Refusal) → call_check m (length x.text) (length x.dat) c ≡ Err r → effect m c x ≡ x
unfolding effect
refused-nothing m = calls.refused-nothing (machine_of m)

-- ---- plans that name the same addresses

-- such plans have the same displacement of a symbol
same-displacement : (m : Relocatable) (p q : Plan) → p.text ≡ q.text → p.dat ≡ q.dat → (f : Followed) → SameAddress p q f
    → displacement_of m p f ≡ displacement_of m q f
unfolding displacement_of
same-displacement m p q t d followed.Text a = ap (λ (n : ℕ). pos n -ℤ pos m.text_address) t
same-displacement m p q t d followed.Data a = ap (λ (n : ℕ). pos n -ℤ pos m.data_address) d
same-displacement m p q t d (followed.Import k v) a = ap (λ (n : ℕ). pos n -ℤ pos v) a
same-displacement m p q t d followed.Nothing a = refl

-- such plans have the same displacements
same-displacements : (m : Relocatable) (p q : Plan) → SamePlan m p q → displacements m p ≡ displacements m q
unfolding displacements
same-displacements m p q s = fun_ext (λ i. same-displacement m p q s.text s.dat (followed_by m i) (s.imports i))

-- "A plan names the text address, the data address and the import addresses": plans that name the same have the same images
pub same-images : (m : Relocatable) (p q : Plan) → SamePlan m p q → built_images m p ≡ built_images m q
unfolding built_images
same-images m p q s = ap (λ (d : Shifts). apply_all m.entries d m.raw) (same-displacements m p q s)

-- ---- the differences of plans

-- the differences of plans that name the same are 0
differences-same : (m : Relocatable) (p q : Plan) → SamePlan m p q → differences m p q ≡ (λ i. pos 0)
unfolding differences
differences-same m p q s =
    fun_ext (λ i. ap (λ (f : Shifts). displacements m q i -ℤ f i) (same-displacements m p q s) ∙ +ℤ_invr (displacements m q i))

-- ---- chains of moves from a build

-- what a call is answered for on buffers of the lengths of y
abbrev verdict_on : Relocatable → Images → Call → Verdict
verdict_on m y c = call_check m (length y.text) (length y.dat) c

-- a chain by the lengths of the first buffers is a chain on any buffers with the same verdicts
chain-on : (m : Relocatable) (x : Images) (p : Plan) (cs : List Call) (r : Plan) → Chain m (length x.text) (length x.dat) p cs r
    → (y : Images) → ((d : Call) → verdict_on m y d ≡ verdict_on m x d) → machine.Chain (machine_of m) y p cs r
unfolding effect
chain-on m x p cs r ended y v = machine.Chain.ended
chain-on m x p cs r (moved {o = o} {q = q} {cs = ds} e s c) y v =
    machine.Chain.moved (v (move o q) ∙ e) (same-displacements m o p s) (chain-on m x q ds r c (effect m (move o q) y) (λ d. verdict-after m (move o q) d y ∙ v d))
chain-on m x p cs r (passed {c = k} {cs = ds} z e c) y v = machine.Chain.passed z (v k ∙ e) (chain-on m x p ds r c y v)

-- "A build is the raw bytes with each entry applied in order": what an accepted one leaves, whatever the buffers held
pub build-images : (m : Relocatable) (x : Images) (p : Plan) → Accepts m x (build p) → effect m (build p) x ≡ built_images m p
unfolding effect built_images
build-images m x p e = calls.effect-accepted (machine_of m) (build p) x e

-- "a move uses the difference between two plans" and "takes the buffers as they are": what an accepted one leaves
pub move-images : (m : Relocatable) (x : Images) (p q : Plan) → Accepts m x (move p q) → effect m (move p q) x ≡ apply_all m.entries (differences m p q) x
unfolding effect
move-images m x p q e = calls.effect-accepted (machine_of m) (move p q) x e

-- "If a build was accepted, and each accepted move after the last such build goes from the plan that the accepted call before it reached, these are the
-- images that demand 2 defines for the last plan so reached."
pub reached-images : (m : Relocatable) → Sound m → (x : Images) (before : List Call) (p : Plan) (after : List Call) (r : Plan)
    → Accepts m x (build p) → Chain m (length x.text) (length x.dat) p after r → run m (before ++ (build p ∷ after)) x ≡ built_images m r
unfolding run built_images
reached-images m sound x before p after r e c =
    chains.reached-images (machine_of m) (module-lawful m sound) x before p after r (verdict-after-all m before (build p) x ∙ e)
    (chain-on m x p after r c (built_images m p) (λ d. ap (λ (y : Images). verdict_on m y d) (sym (build-images m x p e)) ∙ verdict-after m (build p) d x))

-- a plan names the same as itself
same-plan : (m : Relocatable) (p : Plan) → SamePlan m p p
same-plan m p = record { text = refl; dat = refl; imports = λ i. by-followed (followed_by m i) }
  where
    by-followed : (f : Followed) → SameAddress p p f
    by-followed followed.Text = tt
    by-followed followed.Data = tt
    by-followed (followed.Import k v) = refl
    by-followed followed.Nothing = tt

-- "So for plans P, Q and R, with every call accepted, a build for P moved to Q and on to R equals building for R"
pub build-move-move : (m : Relocatable) → Sound m → (x : Images) (p q r : Plan) → Accepts m x (build p) → Accepts m x (move p q) → Accepts m x (move q r)
    → run m (build p ∷ move p q ∷ move q r ∷ []) x ≡ effect m (build r) x
build-move-move m sound x p q r a b c =
    reached-images m sound x [] p (move p q ∷ move q r ∷ []) r a (moved b (same-plan m p) (moved c (same-plan m q) ended))
    ∙ sym (build-images m x r (build-reached-accepted m (length x.text) (length x.dat) q r c))

-- "moving back restores the start": what the build for P left
pub build-move-back : (m : Relocatable) → Sound m → (x : Images) (p q : Plan) → Accepts m x (build p) → Accepts m x (move p q)
    → run m (build p ∷ move p q ∷ move q p ∷ []) x ≡ effect m (build p) x
build-move-back m sound x p q a b = build-move-move m sound x p q p a b (move-back-accepted m (length x.text) (length x.dat) p q b)

-- an accepted move and the move back leave bytes as they were
accepted-back : (m : Relocatable) → Sound m → (x : Images) → Bytes x.text → Bytes x.dat → (p q : Plan) → Accepts m x (move p q)
    → effect m (move q p) (effect m (move p q) x) ≡ x
unfolding effect
accepted-back m sound x t d p q e =
    let y : Images = effect m (move p q) x in
    let i = accepted-inside m sound (move p q) x e in
    calls.effect-accepted (machine_of m) (move q p) y (verdict-after m (move p q) (move q p) x ∙ move-back-accepted m (length x.text) (length x.dat) p q e)
    ∙ ap (λ (z : Images). apply_all m.entries (differences m q p) z) (move-images m x p q e)
    ∙ apply_all-add m.entries (differences m p q) (differences m q p) x i sound.pairwise
    ∙ ap (λ (s : Shifts). apply_all m.entries s x) (chains.differences-back (machine_of m) p q)
    ∙ apply_all-zero m.entries x t d i

-- the same of any bytes, whether the moves are accepted or refused
pub move-back : (m : Relocatable) → Sound m → (x : Images) → Bytes x.text → Bytes x.dat → (p q : Plan)
    → run m (move p q ∷ move q p ∷ []) x ≡ x
unfolding run
move-back m sound x t d p q = by-verdict (call_check m (length x.text) (length x.dat) (move p q)) refl
  where
    by-verdict : (v : Verdict) → call_check m (length x.text) (length x.dat) (move p q) ≡ v → effect m (move q p) (effect m (move p q) x) ≡ x
    by-verdict (Ok tt) e = accepted-back m sound x t d p q e
    by-verdict (Err r) e =
        ap (effect m (move q p)) (refused-nothing m (move p q) x r e)
        ∙ calls.effect-either (machine_of m) (λ y. y ≡ x) (move q p) x
        (λ h. not-accepted (sym e ∙ move-back-accepted m (length x.text) (length x.dat) q p h)) (λ s h. refl)

-- "moving to the same plan changes nothing": on any bytes, whether it is accepted or refused
pub move_same : (m : Relocatable) → Sound m → (x : Images) → Bytes x.text → Bytes x.dat → (p q : Plan) → SamePlan m p q
    → effect m (move p q) x ≡ x
unfolding effect
move_same m sound x t d p q s = calls.effect-either (machine_of m) (λ y. y ≡ x) (move p q) x step (λ r e. refl)
  where
    step : Accepts m x (move p q) → accepted m (move p q) x ≡ x
    step e =
        ap (λ (f : Shifts). apply_all m.entries f x) (differences-same m p q s) ∙ apply_all-zero m.entries x t d (accepted-inside m sound (move p q) x e)

-- "No move changes a byte outside the fields named by the module's loader relocation entries."
pub move-outside : (m : Relocatable) (p q : Plan) (x : Images) (t : Bool) (k : ℕ) → All (λ e. InField t k e → ⊥) m.entries
    → get_or (image_of t (effect m (move p q) x)) k 0 ≡ get_or (image_of t x) k 0
unfolding effect
move-outside m p q x t k h = calls.effect-either (machine_of m) (λ y. get_or (image_of t y) k 0 ≡ get_or (image_of t x) k 0) (move p q) x step (λ r e. refl)
  where
    step : Accepts m x (move p q) → get_or (image_of t (accepted m (move p q) x)) k 0 ≡ get_or (image_of t x) k 0
    step e = apply_all-outside t k m.entries (differences m p q) x h
