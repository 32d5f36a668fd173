use Rattle.line_reader.proofs.find_in_table.Goals as goal

-- src/lib.rt:65:1
pub returns : goal.returns
returns c = rw (← c.pass.ensures) c.answer_of.ensures
