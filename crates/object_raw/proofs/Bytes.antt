-- Sections' bytes copied end to end. Assumes nothing.
use Prim.Native.Nat.{ℕ, suc, ◌+◌, ◌-◌, ◌≤◌, ◌<◌}
use mathlib.Core.Path.{◌≡◌, refl, sym, ◌∙◌, ap, ap₂}
use mathlib.Core.List.{List, [], ◌++◌, append-nil, append_assoc}
use native.Mathlib.Decide.{dec_lt}
use native.Mathlib.Nat.{sub-zero}
use native.Mathlib.Numerals.{add-one}
use native.Mathlib.Omega.{arith}
use lib.ListN.{length, get_or, set, take, drop, length-drop}
use lib.Seq.{paste, paste-suc, take-paste, take_all, get_or-drop}
use Rattle.header.specs.declared.Summary.{Summary}
use Rattle.symbol.specs.declared.Tables.{Tables}
use Rattle.section_relocation.specs.declared.ObjectSection.{ObjectSection}
use Rattle.object.specs.Sections.{bytes_before, entries_before, object_section}
use Rattle.object.proofs.Sections.{ready-inside, part-place}
use Rattle.object_plan.specs.Object.{raw_of, raw_in, object_of}
use Rattle.object_plan.specs.Ready.{ObjectReady}
use Rattle.object_plan.proofs.Ready.{object-raw, part-good}
use Rattle.object_plan.proofs.Sound.{raw-whole, part-inside}

-- n bytes that are in the file where n is not 0 are n bytes
part_length : (f : List ℕ) (at n : ℕ) → (0 < n → at + n ≤ length f) → n ≤ length (drop at f)
part_length f at n h = by (dec_lt 0 n)
  where
    by : Dec (0 < n) → n ≤ length (drop at f)
    by (yes s) = rw length-drop (omega (arith, h s))
    by (no s) = omega arith

-- a turn of the loop that copies n bytes to a place
pub copy-turn : (d e f : List ℕ) (place at n i : ℕ) → e ≡ paste d place (drop at f) i → i < n → place + n ≤ length d → (0 < n → at + n ≤ length f)
    → set e (place + i) (get_or f (at + i) 0) ≡ paste d place (drop at f) (i + 1)
copy-turn d e f place at n i p h k b =
    ap₂ (λ (x : List ℕ) (v : ℕ). set x (place + i) v) p (sym (get_or-drop at f i 0))
    ∙ paste-suc d place (drop at f) i 0 (omega arith) (omega (arith, part_length f at n b))
    ∙ ap (paste d place (drop at f)) (sym (add-one i))

-- ---- the sections

module _ (file : List ℕ) (y : Summary) (t : Tables) (r : ObjectReady file y t) where
  -- the buffer is as long as its sections' bytes
  pub raw-length : length (object_of file).raw ≡ bytes_before (length file) y y.count
  raw-length =
      ap length (object-raw file y t r)
      ∙ raw-whole file y (ready-inside file y t r.sections.opened) r.sections.sections r.tables

  module _ (k : ℕ) (l : k < y.count) {place : ℕ} {s : ObjectSection} (e : place ≡ bytes_before (length file) y k) (h : s ≡ object_section (length file) y k) where
    -- a section's bytes are in the file and in the buffer
    pub part-there : (0 < s.size → s.raw.0 + s.size ≤ length file) × (place + s.size ≤ length (object_of file).raw)
    part-there = ((part-good file y t r k l h).entries.ready.raw, rw (e, h, object-raw file y t r) within)
      where
        within : bytes_before (length file) y k + (object_section (length file) y k).size ≤ length (raw_in file y 0 y.count)
        within =
            omega (
              arith,
              part-place (length file) y k (bytes_before (length file) y k) (entries_before (length file) y k),
              part-inside file y (ready-inside file y t r.sections.opened) r.sections.sections r.tables k l,
            )

    -- after it is copied, it and what was before it stand in the buffer, and the sections after it are left
    pub raw-turn : (out : List ℕ) {d : List ℕ} → length out ≡ length (object_of file).raw → d ≡ paste out place (drop s.raw.0 file) s.size
        → take place out ++ raw_in file y k (y.count - k) ≡ (object_of file).raw → take (place + s.size) d ++ raw_in file y (k + 1) (y.count - (k + 1)) ≡ (object_of file).raw
    raw-turn out {d} m p q =
        ap (λ (x : List ℕ). take (place + s.size) x ++ rest) p
        ∙ ap (λ (x : List ℕ). x ++ rest) (take-paste out place (drop s.raw.0 file) s.size (omega (arith, part-there.1)) (part_length file s.raw.0 s.size part-there.0))
        ∙ append_assoc (take place out) (raw_of file s) rest
        ∙ ap (λ (x : ObjectSection). take place out ++ (raw_of file x ++ rest)) h
        ∙ ap (λ (x : List ℕ). take place out ++ x) (sym (raw-open))
        ∙ q
      where
        rest : List ℕ
        rest = raw_in file y (k + 1) (y.count - (k + 1))

        raw-open : raw_in file y k (y.count - k) ≡ raw_of file (object_section (length file) y k) ++ rest
        raw-open = unfold raw_in in (let n : y.count - k ≡ suc (y.count - (k + 1)) = omega arith in rw (n, add-one k) refl)

  -- before the first section nothing is copied
  pub raw-start : (out : List ℕ) → take 0 out ++ raw_in file y 0 (y.count - 0) ≡ (object_of file).raw
  raw-start out = ap (raw_in file y 0) (sub-zero y.count) ∙ sym (object-raw file y t r)

  -- and after the last all of the buffer is
  pub raw-end : (k place : ℕ) {out : List ℕ} → y.count ≤ k → k ≤ y.count → place ≡ bytes_before (length file) y k → length out ≡ length (object_of file).raw
      → take place out ++ raw_in file y k (y.count - k) ≡ (object_of file).raw → out ≡ (object_of file).raw
  raw-end k place {out} g l e m q =
      let n : k ≡ y.count = omega arith in
      sym (take_all place out (omega (arith, raw-length, ap (bytes_before (length file) y) n))) ∙ sym (append-nil (take place out)) ∙ ap (λ (x : List ℕ). take place out ++ x) (sym none) ∙ q
    where
      none : raw_in file y k (y.count - k) ≡ []
      none = unfold raw_in in (let n : y.count - k ≡ 0 = omega arith in rw n refl)
