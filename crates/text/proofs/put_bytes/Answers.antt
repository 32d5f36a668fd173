-- What a copy leaves is what the stores of its bytes leave.
use Rattle.std.proofs.Common.{◌-◌, ◌+◌, length, refl, sym, arith, append_assoc}
use Rattle.std.proofs.lemmas.List.Edits.{sets-eq, paste_all}
use Rattle.std.proofs.lemmas.Slice.{put_mid-paste}
use mathlib.Core.Path.{◌∙◌}
use Rattle.text.proofs.put_bytes.Goals as goal

pub returns-clause-text : goal.returns-clause-text
returns-clause-text c =
    let a = c.args in
    let s = a.s.now in
    put_mid-paste a.at (a.at + length s - a.at) a.out.now _ s (length s) c.copy_from_slice.ensures.after (omega arith) refl
    ∙ paste_all a.out.now a.at s (length s) refl
    ∙ sym (rw append_assoc at (sets-eq s a.out.now a.at (omega arith)))
