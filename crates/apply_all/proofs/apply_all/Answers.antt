use lib.ListN.{length}
use mathlib.Core.Path.{◌≡◌}
use Rattle.format.specs.declared.Format.TheVariants as format
use Rattle.loadable.specs.declared.Loadable.{Loadable}
use Rattle.loadable.specs.Valid.{Valid}
use Rattle.apply.proofs.Formats.{applied-same, kept}
use Rattle.apply_all.proofs.apply_all.Goals as goal

pub apply_entries32-requires-clause-valid : goal.apply_entries32-requires-clause-valid
apply_entries32-requires-clause-valid c = let a = c.args in let p = c.requires in let e = c.with_format-known.ensures in kept (λ (x : Loadable). Valid a.file.now x) e p.valid

pub apply_entries32-requires-clause-from_len : goal.apply_entries32-requires-clause-from_len
apply_entries32-requires-clause-from_len c = let a = c.args in let p = c.requires in let e = c.with_format-known.ensures in kept (λ (x : Loadable). (length a.from.now ≡ x.tables.nsyms) × (length a.to.now ≡ x.tables.nsyms)) e p.from_len

pub apply_entries32-requires-clause-text_len : goal.apply_entries32-requires-clause-text_len
apply_entries32-requires-clause-text_len c = let a = c.args in let p = c.requires in let e = c.with_format-known.ensures in kept (λ (x : Loadable). (length a.text.now ≡ x.layout.parts.text.size) × (length a.«data».now ≡ x.layout.image)) e p.text_len

pub apply_entries32-requires-clause-format_value : goal.apply_entries32-requires-clause-format_value
apply_entries32-requires-clause-format_value c = let a = c.args in let p = c.requires in let e = c.with_format-known.ensures in kept (λ (x : Loadable). x.layout.format ≡ format.Xcoff32) e c.in-Xcoff32.is

pub apply_entries-requires-clause-valid : goal.apply_entries-requires-clause-valid
apply_entries-requires-clause-valid c = let a = c.args in let p = c.requires in let e = c.with_format-known-in-Xcoff64.ensures in kept (λ (x : Loadable). Valid a.file.now x) e p.valid

pub apply_entries-requires-clause-from_len : goal.apply_entries-requires-clause-from_len
apply_entries-requires-clause-from_len c = let a = c.args in let p = c.requires in let e = c.with_format-known-in-Xcoff64.ensures in kept (λ (x : Loadable). (length a.from.now ≡ x.tables.nsyms) × (length a.to.now ≡ x.tables.nsyms)) e p.from_len

pub apply_entries-requires-clause-text_len : goal.apply_entries-requires-clause-text_len
apply_entries-requires-clause-text_len c = let a = c.args in let p = c.requires in let e = c.with_format-known-in-Xcoff64.ensures in kept (λ (x : Loadable). (length a.text.now ≡ x.layout.parts.text.size) × (length a.«data».now ≡ x.layout.image)) e p.text_len

pub returns-in-Xcoff32 : goal.returns-in-Xcoff32
returns-in-Xcoff32 c = applied-same _ _ _ _ _ _ _ c.with_format-known.ensures c.apply_entries32.ensures

pub returns-in-Xcoff64 : goal.returns-in-Xcoff64
returns-in-Xcoff64 c = applied-same _ _ _ _ _ _ _ c.with_format-known-in-Xcoff64.ensures c.apply_entries.ensures
