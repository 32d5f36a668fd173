use Rattle.word.proofs.Test.{found}
use Rattle.symbol.proofs.Opened.{tables-inside}
use Rattle.symbol.proofs.Checks.{check-aux, check-scnum, check-name, check-visibility, check-none}
use Rattle.symbol.proofs.check_entry.Goals as goal

pub returns-then-ends_past : goal.returns-then-ends_past
returns-then-ends_past c = check-aux _ _ _ _ (found c.ends_past.ensures c.if-ends_past.true)

pub returns-then-not-is_section : goal.returns-then-not-is_section
returns-then-not-is_section c = check-scnum _ _ _ _ (found c.ends_past.ensures c.if-ends_past.false) (found c.is_section.ensures c.if-not-is_section.true)

pub has_name-requires : goal.has_name-requires
has_name-requires c = (tables-inside c.args.file.now c.args.t c.requires.0).debug

pub returns-then-not-has_name : goal.returns-then-not-has_name
returns-then-not-has_name c = check-name _ _ _ _ (found c.ends_past.ensures c.if-ends_past.false) (found c.is_section.ensures c.if-not-is_section.false) c.requires.0 (found c.has_name.ensures c.if-not-has_name.true)

pub returns-then-is_unknown : goal.returns-then-is_unknown
returns-then-is_unknown c = check-visibility _ _ _ _ (found c.ends_past.ensures c.if-ends_past.false) (found c.is_section.ensures c.if-not-is_section.false) c.requires.0 (found c.has_name.ensures c.if-not-has_name.false) (found c.is_unknown.ensures c.if-is_unknown.true)

pub returns : goal.returns
returns c = check-none _ _ _ _ (found c.ends_past.ensures c.if-ends_past.false) (found c.is_section.ensures c.if-not-is_section.false) c.requires.0 (found c.has_name.ensures c.if-not-has_name.false) (found c.is_unknown.ensures c.if-is_unknown.false)
