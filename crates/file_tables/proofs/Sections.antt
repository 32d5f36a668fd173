-- Laws of the loop over the sections. Assumes nothing.
use Prim.Native.Nat.{ℕ, ◌+◌, ◌-◌, ◌≤◌, ◌<◌}
use mathlib.Core.Path.{◌≡◌, refl, ◌∙◌, ap}
use mathlib.Core.List.{List}
use native.Mathlib.Numerals.{add-one}
use native.Mathlib.Omega.{arith}
use lib.ListN.{set}
use Rattle.refusal.specs.declared.Refusal.{Refusal}
use Rattle.refusal.specs.Refusal.{is_refused}
use Rattle.refusal.specs.Order.{first_of}
use Rattle.refusal.proofs.Order.{first-start, first-turn, first-stop, first-end}
use Rattle.section.specs.declared.Section.{Section}
use Rattle.file_header.specs.declared.FileHeader.{FileHeader}
use Rattle.file_tables.specs.Tables.{judged_at, verdict_of, sections_check, sections_of, refused_scan, scan_of}
use Rattle.std.specs.Prelude.{Err, Ok}

module _ (file : List ℕ) (h : FileHeader) where
  -- the sections from i on are left to judge
  abbrev pub Left : ℕ → Type 0
  Left i = sections_check file h ≡ first_of (λ k. verdict_of (judged_at file h k)) i (h.nscns - i)

  pub left-start : Left 0
  unfolding sections_check
  left-start = first-start (λ k. verdict_of (judged_at file h k)) h.nscns

  pub left-turn : (i : ℕ) (s : Section) → i < h.nscns → judged_at file h i ≡ Ok s → Left i → Left (i + 1)
  left-turn i s l e k = k ∙ first-turn (λ k. verdict_of (judged_at file h k)) h.nscns i l (ap (λ (a : _). is_refused (verdict_of a)) e)

  left-stop : (i : ℕ) (x : Refusal) → i < h.nscns → judged_at file h i ≡ Err x → Left i → sections_check file h ≡ Err x
  left-stop i x l e k = k ∙ first-stop (λ k. verdict_of (judged_at file h k)) h.nscns i l (ap (λ (a : _). is_refused (verdict_of a)) e) ∙ ap verdict_of e

  left_end : (i : ℕ) → h.nscns ≤ i → Left i → sections_check file h ≡ Ok tt
  left_end i l k = k ∙ first-end (λ k. verdict_of (judged_at file h k)) h.nscns i l

  -- the record of one section more
  pub sections-more : (i : ℕ) (s : Section) → judged_at file h i ≡ Ok s → set (sections_of file h i) i s ≡ sections_of file h (i + 1)
  unfolding sections_of
  sections-more i s e = rw (add-one, e)

  -- what the scan gives where a section is refused, and where none is
  pub scan-refused : (i : ℕ) (x : Refusal) → i < h.nscns → judged_at file h i ≡ Err x → Left i → refused_scan x ≡ scan_of file h
  unfolding scan_of
  scan-refused i x l e k = rw (left-stop i x l e k)

  pub scan-accepted : (i : ℕ) (t : List Section) → h.nscns ≤ i → i ≤ h.nscns → Left i → t ≡ sections_of file h i → record { verdict = Ok tt; sections = t } ≡ scan_of file h
  unfolding scan_of
  scan-accepted i t l m k e = rw (left_end i l k, e, same) refl
    where
      same : i ≡ h.nscns
      same = omega arith
