-- What the checks of the file header leave known. Assumes nothing.
use Prim.Native.Nat.{ℕ, ◌≤◌}
use mathlib.Core.Path.{◌≡◌, refl}
use mathlib.Core.List.{List}
use lib.Dec.{ltb}
use lib.ListN.{length}
use borrow.Author.Tests.{ltb-false}
use Rattle.format.specs.declared.Format.{Format}
use Rattle.format.specs.Layout.{header_layout}
use Rattle.format.specs.Limit.{section_limit}
use Rattle.refusal.specs.declared.Refusal.TheVariants.{Short, Limit}
use Rattle.refusal.specs.declared.LimitItem.TheVariants.{Sections}
use Rattle.refusal.specs.Order.{◌or_else◌, refuse_if}
use Rattle.refusal.proofs.Order.{accepted-first, accepted-rest, accepted-test}
use Rattle.file_header.specs.Header.{header_at, section_start, header_check, HeaderComplete}
use Rattle.std.specs.Prelude.{Ok}

module _ (f : Format) (file : List ℕ) (e : header_check f file ≡ Ok tt) where
  header-tests : (refuse_if (ltb (length file) (header_layout f).length) Short or_else refuse_if (ltb section_limit (header_at f file).nscns) (Limit Sections) or_else refuse_if (ltb (length file) (section_start f (header_at f file).opthdr (header_at f file).nscns)) Short) ≡ Ok tt
  unfolding header_check
  header-tests = e

  pub header-in : (header_layout f).length ≤ length file
  header-in =
      ltb-false (length file) (header_layout f).length
      (accepted-test (ltb (length file) (header_layout f).length) Short (accepted-first (refuse_if (ltb (length file) (header_layout f).length) Short) _ header-tests))

  rest : (refuse_if (ltb section_limit (header_at f file).nscns) (Limit Sections) or_else refuse_if (ltb (length file) (section_start f (header_at f file).opthdr (header_at f file).nscns)) Short) ≡ Ok tt
  rest = accepted-rest (refuse_if (ltb (length file) (header_layout f).length) Short) _ header-tests

  pub few : (header_at f file).nscns ≤ section_limit
  few =
      ltb-false section_limit (header_at f file).nscns
      (accepted-test (ltb section_limit (header_at f file).nscns) (Limit Sections) (accepted-first (refuse_if (ltb section_limit (header_at f file).nscns) (Limit Sections)) _ rest))

  headers-in : section_start f (header_at f file).opthdr (header_at f file).nscns ≤ length file
  headers-in =
      ltb-false (length file) (section_start f (header_at f file).opthdr (header_at f file).nscns)
      (accepted-test (ltb (length file) (section_start f (header_at f file).opthdr (header_at f file).nscns)) Short
      (accepted-rest (refuse_if (ltb section_limit (header_at f file).nscns) (Limit Sections)) _ rest))

format-is : (f : Format) (file : List ℕ) → (header_at f file).format ≡ f
unfolding header_at
format-is f file = refl

pub header-complete : (f : Format) (file : List ℕ) → header_check f file ≡ Ok tt → HeaderComplete file (header_at f file)
header-complete f file e = record { few = few f file e; inside = rw (format-is f file) (headers-in f file e) }
