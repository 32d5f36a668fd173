-- A field put into a record, and the other fields of the record. Assumes nothing.
use mathlib.Core.Path.{◌≡◌, refl, ◌∙◌}
use mathlib.Core.Bool.{Bool, true, false, ◌||◌}
use mathlib.Core.Logic.{inl, inr}
use mathlib.Core.List.{List}
use Prim.Native.Nat.{ℕ, ◌+◌, ◌^◌, ◌<◌}
use native.Mathlib.Nat.{mod-eq_of_lt}
use native.Mathlib.Omega.{arith}
use lib.ListN.{length}
use lib.Dec.{leb}
use borrow.Author.Tests.{leb-true}
use Rattle.word.specs.declared.Field.{Field}
use Rattle.word.specs.Number.{bytes_in, field_in}
use Rattle.update.specs.Update.{Apart}
use Rattle.update.proofs.Laws.{field_put, field_apart}
use Rattle.format.specs.Range.{range}
use Rattle.format.proofs.Layouts.{FieldInside}
use Rattle.frame.specs.Change.{put_in, Local}
use Rattle.frame.proofs.Change.{put_local}

-- two fields of one record share no byte
abbrev pub fields_apart : Field → Field → Bool
fields_apart a b = leb (a.offset + bytes_in a.width) b.offset || leb (b.offset + bytes_in b.width) a.offset

fields-apart : (a b : Field) (base : ℕ) → fields_apart a b ≡ true → Apart (base + a.offset) (bytes_in a.width) (base + b.offset) (bytes_in b.width)
fields-apart a b base e = by-test (leb (a.offset + bytes_in a.width) b.offset) refl e
  where
    by-test : (t : Bool) → leb (a.offset + bytes_in a.width) b.offset ≡ t → (t || leb (b.offset + bytes_in b.width) a.offset) ≡ true
        → Apart (base + a.offset) (bytes_in a.width) (base + b.offset) (bytes_in b.width)
    by-test true q h = inl (let k = leb-true (a.offset + bytes_in a.width) b.offset q in omega arith)
    by-test false q h = inr (let k = leb-true (b.offset + bytes_in b.width) a.offset h in omega arith)

module _ (a : Field) (base v : ℕ) where
  -- a field put stays in its place
  pub field-local : Local (range (base + a.offset) (bytes_in a.width)) (put_in a base v)
  field-local = put_local (bytes_in a.width) (base + a.offset) v

  -- it holds the number put, which fits
  pub put-own : (bs : List ℕ) → FieldInside a base (length bs) → v < 256 ^ bytes_in a.width → field_in a base (put_in a base v bs) ≡ v
  put-own bs h n = field_put (bytes_in a.width) (base + a.offset) v bs h ∙ mod-eq_of_lt n

  -- another field holds what it held
  pub put_other : (b : Field) (bs : List ℕ) → fields_apart a b ≡ true → field_in b base (put_in a base v bs) ≡ field_in b base bs
  put_other b bs e = field_apart (bytes_in a.width) (base + a.offset) v (bytes_in b.width) (base + b.offset) bs (fields-apart a b base e)
