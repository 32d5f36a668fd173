-- The tables that a section has of its own: relocations (request 5) and line numbers (request 7).
use Rattle.std.specs.Prelude.{ℕ}
use Rattle.format.specs.declared.Format.{Format}
use Rattle.format.specs.declared.Format.TheVariants.{Xcoff32, Xcoff64}
use Rattle.table_kind.specs.declared.TableKind.{TableKind}
use Rattle.table_kind.specs.declared.TableKind.TheVariants.{Relocations, Lines}

-- the bytes of an entry
abbrev pub entry_length : TableKind → Format → ℕ
entry_length Relocations Xcoff32 = 10
entry_length Relocations Xcoff64 = 14
entry_length Lines Xcoff32 = 6
entry_length Lines Xcoff64 = 12
