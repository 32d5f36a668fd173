-- A part's rest from one of its places. Assumes nothing.
use Prim.Native.Nat.{ℕ, zero, suc, ◌+◌, ◌-◌}
use mathlib.Core.Path.{◌≡◌, refl, sym, ◌∙◌, ap}
use mathlib.Core.List.{List, [], ◌∷◌}
use native.Mathlib.Nat.{sub-zero, zero-sub}
use native.Mathlib.Omega.{arith}
use lib.ListN.{take, drop}
use lib.Seq.{take-nil, drop-drop}
use Rattle.word.specs.Zero.{first_zero}
use Rattle.format.specs.declared.FileRange.{FileRange}
use Rattle.format.specs.Range.{bytes_of}

drop-take : (o n : ℕ) (l : List ℕ) → drop o (take n l) ≡ take (n - o) (drop o l)
drop-take zero n l = rw (sub-zero n) refl
drop-take (suc o) zero l = rw (zero-sub (suc o)) refl
drop-take (suc o) (suc n) [] = sym (take-nil (suc n - suc o))
drop-take (suc o) (suc n) (x ∷ l) =
    let e : suc n - suc o ≡ n - o = omega arith in
    rw e (drop-take o n l)

-- a part's rest from o, as the code cuts it
rest_of : (file : List ℕ) (r : FileRange) (o : ℕ) → drop o (bytes_of file r) ≡ take (r.length - o) (drop (r.start.0 + o) file)
rest_of file r o = drop-take o r.length (drop r.start.0 file) ∙ ap (take (r.length - o)) (drop-drop o r.start.0 file)

pub rest-zero : (file : List ℕ) (r : FileRange) (o : ℕ) {n : ℕ} → n ≡ first_zero (take (r.start.0 + r.length - (r.start.0 + o)) (drop (r.start.0 + o) file)) → n ≡ first_zero (drop o (bytes_of file r))
rest-zero file r o e =
    let d : r.start.0 + r.length - (r.start.0 + o) ≡ r.length - o = omega arith in
    rw rest_of (rw d at e)
