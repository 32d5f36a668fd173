-- What was read of a file decides what is written of it.
use Rattle.std.proofs.Common.{◌≡◌, ℕ, ◌+◌, ◌<◌, ◌≤◌, List, [], ◌∷◌, ◌++◌, length, take, drop, Bool, false, true, nat_lt, None, Some, IfSome, OnOk, Result, Ok, Err, refl, sym, ap, ◌∙◌, subst, arith, append-nil, true≢false}
use Rattle.std.proofs.lemmas.Bool.{lt-ltb, ltb-true, le-leb, lt-leb}
use Rattle.std.proofs.lemmas.List.{length-append}
use Rattle.std.proofs.Math.Seq.{sets, sets-eq, take-append_seam}
use Rattle.std.specs.Io.KnownBytes.{Appends, Consumes, IsAtEnd}
use Rattle.std.specs.declared.option.Option.{Option}
use Rattle.listing.specs.Listing.{listing}
use Rattle.lister.specs.Listed.{listed, too_long}

-- the text that was put at the front
pub front : (out text : List ℕ) (end : ℕ) → length text ≤ length out → end ≡ length text → take end (sets out 0 text) ≡ text
front out text end fits e = rw (e, sets-eq text out 0 (omega (arith, fits))) (take-append_seam text (drop (0 + length text) out))

pub on_ok : {T E : Type 0} (r : Result T E) {P Q : Type 0} → (P → Q) → OnOk r P → OnOk r Q
on_ok (Ok x) f p = f p
on_ok (Err e) f p = tt

none_left : (left : List ℕ) (more : Bool) → more ≡ nat_lt 0 (length left) → more ≡ false → left ≡ []
none_left [] more e empty = refl
none_left (x ∷ t) more e empty = absurd (true≢false (sym (lt-ltb 0 (length (x ∷ t)) (omega arith)) ∙ sym e ∙ empty))

short : (bytes : List ℕ) → length bytes ≤ 65536 → listed bytes ≡ listing bytes
unfolding listed
short bytes fits = rw (le-leb (length bytes) 65536 fits) refl

long : (file : List ℕ) → 65536 < length file → listed file ≡ too_long
unfolding listed
long file more = rw (lt-leb (length file) 65536 more) refl

-- nothing is left: the file is what was read
pub read_all : (old mid was now : Option (List ℕ)) (bytes text : List ℕ) (more : Bool) → Consumes old mid bytes → IfSome mid (λ left. more ≡ nat_lt 0 (length left)) → more ≡ false → length bytes ≤ 65536
    → text ≡ listing bytes → Appends was now text → IfSome old (λ file. Appends was now (listed file))
read_all None mid was now bytes text more read tells empty fits e written = tt
read_all (Some file) None was now bytes text more read tells empty fits e written = absurd read
read_all (Some file) (Some left) was now bytes text more read tells empty fits e written =
    let same : file ≡ bytes = read ∙ ap (λ l. bytes ++ l) (none_left left more tells empty) ∙ append-nil bytes in
    subst (Appends was now) (e ∙ sym (ap listed same ∙ short bytes fits)) written

past : (bytes left : List ℕ) → (length bytes < 65536 → left ≡ []) → 0 < length left → 65536 < length (bytes ++ left)
past bytes [] end more = omega (arith, more)
past bytes (x ∷ t) end more = grind (arith, end, length-append bytes (x ∷ t))

-- something is left, and the room was filled: the file is longer
pub read_part : (old mid was now : Option (List ℕ)) (bytes : List ℕ) (more : Bool) → Consumes old mid bytes → (length bytes < 65536 → IsAtEnd mid) → IfSome mid (λ left. more ≡ nat_lt 0 (length left)) → more ≡ true
    → Appends was now too_long → IfSome old (λ file. Appends was now (listed file))
read_part None mid was now bytes more read end tells some written = tt
read_part (Some file) None was now bytes more read end tells some written = absurd read
read_part (Some file) (Some left) was now bytes more read end tells some written =
    let longer = past bytes left end (ltb-true 0 (length left) (sym tells ∙ some)) in
    subst (Appends was now) (sym (long file (subst (λ l. 65536 < length l) (sym read) longer))) written
