use Rattle.std.proofs.Common.{◌-◌, arith}
use Rattle.apply.proofs.Stands.{import-in, loader-stands, nothing-stands}
use Rattle.plan.proofs.Symbols.{symbol-in}
use Rattle.word.proofs.Test.{found}
use Rattle.history.specs.declared.Followed.TheVariants as followed
use Rattle.apply.proofs.loader_shift.Goals as goal

pub followed_at-f-requires : goal.followed_at-f-requires
followed_at-f-requires c = let a = c.args in let h = c.requires.valid in symbol-in a.file.now a.l (a.symbol - 3) h.0 (omega (arith, h.1, h.2))

pub import_shift-requires : goal.import_shift-requires
import_shift-requires c = let a = c.args in let h = c.requires in let e = c.followed_at-f.ensures in (import-in a.file.now a.l a.symbol _ _ e c.in-Import.is h.valid.2 h.valid.1 h.from_len.0, import-in a.file.now a.l a.symbol _ _ e c.in-Import.is h.valid.2 h.valid.1 h.from_len.1)

pub returns-in-Text : goal.returns-in-Text
returns-in-Text c = let a = c.args in λ p q f t h. loader-stands a.file.now a.l _ p q _ _ followed.Text c.requires.valid.1 c.requires.valid.2 (found c.in-Text.is c.followed_at-f.ensures) h.text

pub returns-in-Data : goal.returns-in-Data
returns-in-Data c = let a = c.args in λ p q f t h. loader-stands a.file.now a.l _ p q _ _ followed.Data c.requires.valid.1 c.requires.valid.2 (found c.in-Data.is c.followed_at-f.ensures) h.dat

pub returns-in-Import : goal.returns-in-Import
returns-in-Import c = let a = c.args in λ p q f t h. loader-stands a.file.now a.l _ p q _ _ _ c.requires.valid.1 c.requires.valid.2 (found c.in-Import.is c.followed_at-f.ensures) (c.import_shift.ensures _ p q f t)

pub returns-in-Nothing : goal.returns-in-Nothing
returns-in-Nothing c = let a = c.args in λ p q f t h. loader-stands a.file.now a.l _ p q _ _ followed.Nothing c.requires.valid.1 c.requires.valid.2 (found c.in-Nothing.is c.followed_at-f.ensures) (nothing-stands _ _ p q)
