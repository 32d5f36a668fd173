-- What a plan's addresses differ by from the recorded ones or from another plan's are the shifts of a build or a move. Assumes nothing.
use Rattle.std.proofs.Common.{◌≡◌, ℕ, ◌^◌, true, false, List, ℤ, pos, ◌-ℤ◌, sym, ap, ◌∙◌}
use Rattle.update.specs.Update.{remainder}
use Rattle.loadable.specs.declared.Loadable.{Loadable}
use Rattle.history.specs.declared.Followed.TheVariants as followed
use Rattle.history.specs.Plan.{Relocatable, Plan, displacement_of}
use Rattle.plan.specs.Relocatable.{relocatable_of}
use Rattle.apply.specs.Shift.{Displaced, shift_of}
use Rattle.apply.proofs.Stands.{sub-sub}

-- a build's: from the recorded addresses
pub built-exact : (file : List ℕ) (l : Loadable) (d : List ℕ) (p q : Plan)
    → Displaced d (pos q.text -ℤ pos l.layout.parts.text.address.0) (pos q.dat -ℤ pos l.layout.parts.«data».address.0)
    → Displaced d (shift_of (relocatable_of file l) false p q followed.Text) (shift_of (relocatable_of file l) false p q followed.Data)
unfolding shift_of displacement_of relocatable_of
built-exact file l d p q h = h

-- a move's: from the other plan's, so that the recorded ones drop out
pub moved-exact : (m : Relocatable) (d : List ℕ) (p q : Plan) → Displaced d (pos q.text -ℤ pos p.text) (pos q.dat -ℤ pos p.dat)
    → Displaced d (shift_of m true p q followed.Text) (shift_of m true p q followed.Data)
unfolding shift_of displacement_of
moved-exact m d p q h = record { text = h.text ∙ back p.text q.text m.text_address; dat = h.dat ∙ back p.dat q.dat m.data_address; bss = h.bss ∙ back p.dat q.dat m.data_address }
  where
    back : (a b c : ℕ) → remainder (pos b -ℤ pos a) (2 ^ 64) ≡ remainder ((pos b -ℤ pos c) -ℤ (pos a -ℤ pos c)) (2 ^ 64)
    back a b c = ap (λ (z : ℤ). remainder z (2 ^ 64)) (sym (sub-sub (pos b) (pos a) (pos c)))
