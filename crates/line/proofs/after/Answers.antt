use Rattle.line.proofs.after.Goals as goal

pub overflow_add-result : goal.overflow_add-result
overflow_add-result c = record { fits = rw c.entry_length.ensures c.requires }

pub returns : goal.returns
returns c = rw c.entry_length.ensures
