use mathlib.Core.Path.{◌∙◌}
use Rattle.rewrite.proofs.Write.{ready-valid, ready-inside, ready-aux, written-by}
use Rattle.rewrite.proofs.write_valid.Goals as goal

pub place_entries-requires-clause-valid : goal.place_entries-requires-clause-valid
place_entries-requires-clause-valid c = ready-valid _ _ _ c.requires.ready.0

pub place_entries-requires-clause-imports_len : goal.place_entries-requires-clause-imports_len
place_entries-requires-clause-imports_len c = (c.requires.imports_len.0, c.copy_file.auto.copy ∙ c.requires.imports_len.1)

pub put_aux-requires : goal.put_aux-requires
put_aux-requires c = (ready-aux _ _ _ c.requires.ready.0, c.place_entries.auto.out ∙ c.copy_file.auto.copy ∙ c.requires.imports_len.1)

pub put_sections-requires : goal.put_sections-requires
put_sections-requires c = (ready-inside _ _ _ c.requires.ready.0, c.put_aux.auto.out ∙ c.place_entries.auto.out ∙ c.copy_file.auto.copy ∙ c.requires.imports_len.1)

pub put_symbols-requires-clause-valid : goal.put_symbols-requires-clause-valid
put_symbols-requires-clause-valid c = ready-valid _ _ _ c.requires.ready.0

pub put_symbols-requires-clause-imports_len : goal.put_symbols-requires-clause-imports_len
put_symbols-requires-clause-imports_len c = (c.requires.imports_len.0, c.put_sections.auto.out ∙ c.put_aux.auto.out ∙ c.place_entries.auto.out ∙ c.copy_file.auto.copy ∙ c.requires.imports_len.1)

pub put_entries-requires : goal.put_entries-requires
put_entries-requires c = (ready-valid _ _ _ c.requires.ready.0, c.put_symbols.auto.out ∙ c.put_sections.auto.out ∙ c.put_aux.auto.out ∙ c.place_entries.auto.out ∙ c.copy_file.auto.copy ∙ c.requires.imports_len.1)

pub returns : goal.returns
returns c = written-by c.args.file.now c.args.y c.args.l c.requires.ready.0 c.args.at c.args.imports.now _ c.requires.ready.1 c.displacements-d.ensures _ _ _ _ _ _ c.copy_file.ensures c.place_entries.ensures c.put_aux.ensures c.put_sections.ensures c.put_symbols.ensures c.put_entries.ensures
