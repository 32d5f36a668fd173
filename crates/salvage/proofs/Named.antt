-- What the refusals of salvaging name is there: nothing in the file beyond opening's. Assumes nothing.
use Prim.Native.Nat.{ℕ, ◌*◌}
use mathlib.Core.Path.{refl}
use mathlib.Core.Bool.{not}
use mathlib.Core.List.{List}
use lib.Dec.{eqb, ltb}
use lib.ListN.{length}
use Rattle.refusal.specs.declared.Refusal.{Refusal}
use Rattle.refusal.specs.declared.Refusal.TheVariants.{Limit, Room, Shared}
use Rattle.refusal.specs.declared.LimitItem.TheVariants.{SalvageReport}
use Rattle.refusal.specs.declared.RoomItem.TheVariants.{FileBuffer}
use Rattle.refusal.specs.Order.{refuse_if}
use Rattle.refusal.proofs.Causes.{Causes, cause-if, cause-then}
use Rattle.offset.specs.Named.{Named}
use Rattle.offset.proofs.Named.{plain-named}
use Rattle.header.specs.Open.{open_of}
use Rattle.header.proofs.Named.{opened-named}
use Rattle.shared_symbols.specs.Shared.{is_shared}
use Rattle.symbol.specs.Entry.{tables_at}
use Rattle.salvage.specs.Salvage.{changes_in}
use Rattle.salvage.specs.Answer.{salvageable, room_check, salvage_check}

module _ (file : List ℕ) where
  abbrev P : Refusal → Type 0
  P = Named file

  -- request 4: of counting
  pub count-named : Causes P (salvageable file)
  unfolding salvageable
  count-named =
      cause-then P (open_of file).verdict _ (opened-named file)
      (λ _. cause-if P (is_shared (open_of file).summary) Shared (λ _. plain-named file Shared (λ s. refl) (λ _ e. e)))

  room-named : (len count copy report : ℕ) → Causes P (room_check len count copy report)
  unfolding room_check
  room-named len count copy report =
      cause-then P (refuse_if (not (eqb copy len)) (Room FileBuffer)) _ (cause-if P (not (eqb copy len)) (Room FileBuffer) (λ _. plain-named file (Room FileBuffer) (λ s. refl) (λ _ e. e)))
      (λ _. cause-if P (ltb report (8 * count)) (Limit SalvageReport) (λ _. plain-named file (Limit SalvageReport) (λ s. refl) (λ _ e. e)))

  -- of salvaging
  pub salvage-named : (copy report : ℕ) → Causes P (salvage_check file copy report)
  unfolding salvage_check
  salvage-named copy report = cause-then P (salvageable file) _ count-named (λ _. room-named (length file) (length (changes_in file (tables_at file))) copy report)
