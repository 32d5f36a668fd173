use Prim.Native.Nat.{◌+◌, ◌*◌}
use lib.ListN.{length}
use Rattle.format.specs.Layout.{loader_symbol_length}
use mathlib.Core.Path.{ap}
use native.Mathlib.Omega.{arith}
use Rattle.format.specs.declared.SymbolLayout.{SymbolLayout}
use Rattle.format.proofs.Layouts.{symbol-inside}
use Rattle.plan.proofs.Symbols.{symbol-in}
use Rattle.written.specs.Written.{put_symbol}
use Rattle.address_put.proofs.New.{symbol-in-list, one-put}
use Rattle.address_put.proofs.put_symbol.Goals as goal

pub followed_at-f-requires : goal.followed_at-f-requires
followed_at-f-requires c = symbol-in c.args.file.now c.args.l c.args.k c.requires.valid.0 c.requires.valid.1

pub overflow_mul-base : goal.overflow_mul-base
overflow_mul-base c = omega (arith, c.requires.valid.0.loader.tables.few, c.requires.valid.1)

pub overflow_add-base : goal.overflow_add-base
overflow_add-base c = let i = symbol-in c.args.file.now c.args.l c.args.k c.requires.valid.0 c.requires.valid.1 in omega (arith, i.0, i.1)

pub put_address-requires : goal.put_address-requires
put_address-requires c = let i = symbol-in c.args.file.now c.args.l c.args.k c.requires.valid.0 c.requires.valid.1 in ((symbol-inside c.args.l.layout.format (c.args.l.tables.symbols.0 + c.args.k * loader_symbol_length) (length c.args.file.now) c.symbol_layout-s.ensures (omega (arith, i.0))).value, c.requires.imports_len.1, symbol-in-list c.args.file.now c.args.l c.args.k c.requires.imports_len.0 c.requires.valid.1 c.followed_at-f.ensures)

pub returns : goal.returns
unfolding put_symbol
returns c = λ m p g l h. one-put _ _ _ _ _ c.followed_at-f.ensures (ap (λ (t : SymbolLayout). t.value) c.symbol_layout-s.ensures) (c.put_address.ensures m p g l h)
