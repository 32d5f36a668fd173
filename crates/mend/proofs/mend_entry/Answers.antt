use Rattle.mend.proofs.Put.{fits_after, mended-by}
use Rattle.format.proofs.Layouts.{symbol-inside}
use Rattle.mend.proofs.mend_entry.Goals as goal

pub put_if-requires : goal.put_if-requires
put_if-requires c = (symbol-inside c.args.t.format _ _ c.symbol_layout-l.ensures c.requires.0).numaux

pub put_if-requires-2 : goal.put_if-requires-2
put_if-requires-2 c = fits_after _ _ _ _ _ c.put_if.ensures (symbol-inside c.args.t.format _ _ c.symbol_layout-l.ensures c.requires.0).scnum

pub put_if-requires-3 : goal.put_if-requires-3
put_if-requires-3 c = fits_after _ _ _ _ _ c.put_if-2.ensures (fits_after _ _ _ _ _ c.put_if.ensures (symbol-inside c.args.t.format _ _ c.symbol_layout-l.ensures c.requires.0).offset)

pub put_if-requires-4 : goal.put_if-requires-4
put_if-requires-4 c = fits_after _ _ _ _ _ c.put_if-3.ensures (fits_after _ _ _ _ _ c.put_if-2.ensures (fits_after _ _ _ _ _ c.put_if.ensures (symbol-inside c.args.t.format _ _ c.symbol_layout-l.ensures c.requires.0).ntype))

pub returns : goal.returns
returns c = mended-by _ _ _ _ _ c.symbol_layout-l.ensures c.without_visibility.ensures c.put_if.ensures c.put_if-2.ensures c.put_if-3.ensures c.put_if-4.ensures
