use Rattle.file_copy.proofs.Copy.{Copied}
use Rattle.file_copy.proofs.copy_file.Given as goal

abbrev pub invariant-loop-i : goal.invariant-loop-i
invariant-loop-i l = Copied l.file l.copy l.i
