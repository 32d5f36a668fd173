-- Entries applied in a copy of the file, where it has the raw bytes, leave the built images there. Assumes nothing.
use mathlib.Core.Path.{◌≡◌, refl, sym, ◌∙◌, ap, subst}
use mathlib.Core.Bool.{Bool, true, false, cond}
use mathlib.Core.Logic.{◌⊎◌, inl, inr}
use mathlib.Core.List.{List, [], ◌∷◌}
use Prim.Native.Nat.{ℕ, zero, suc, ◌+◌, ◌-◌, ◌≤◌, ◌<◌}
use native.Mathlib.Decide.{dec_lt, dec_le}
use native.Mathlib.Omega.{arith}
use lib.ListN.{length, get_or, take, drop, set, replicate}
use lib.Seq.{sets, length-sets, ext_get_or, drop-drop, take_at, take-set-lt, get_or-take, get_or-drop, length-take-le}
use lib.IntN.{ℤ}
use Rattle.word.specs.Number.{field_at, value_of}
use Rattle.update.specs.Update.{Apart, bytes_of_number, put_field, update, add_in, add_field}
use Rattle.update.proofs.Laws.{length-bytes, length-add}
use Rattle.update.proofs.Stores.{sets-apart, part-outside, sets-outside, sets-inside, part-stored}
use Rattle.format.specs.Range.{range}
use Rattle.relocation.specs.Relocation.{bytes_wide}
use Rattle.module.specs.declared.Module.{Module}
use Rattle.loadable.specs.declared.Loadable.{Loadable}
use Rattle.loadable.specs.Valid.{Valid}
use Rattle.history.specs.declared.Relocation.{Relocation}
use Rattle.history.specs.Images.{Images, Shifts, signed, add_at, apply_entry, apply_all, All}
use Rattle.history.specs.Plan.{Relocatable, Plan, displacements, built_images}
use Rattle.plan.specs.Relocatable.{relocation_at, raw_text, raw_data, relocatable_of}
use Rattle.plan.proofs.Raw.{length-raw-text, length-raw-data}
use Rattle.shared_range.specs.Shared.{Disjoint}
use Rattle.frame.proofs.Same.{part-part}
use Rattle.written.specs.Written.{put_text, put_data}
use Rattle.written.specs.Shared.{part_range}
use Rattle.written.proofs.Built.{all_from, part_length}
use Rattle.rewrite.specs.InPlace.{place_entry, place_all}

-- ---- fields of a part that was stored

-- stored, and then a part of it stored anew
sets-within : (l vs ws : List ℕ) (i j : ℕ) → j + length ws ≤ length vs → i + length vs ≤ length l → sets (sets l i vs) (i + j) ws ≡ sets l i (sets vs j ws)
sets-within l vs ws i j a b =
    ext_get_or 0 (sets (sets l i vs) (i + j) ws) (sets l i (sets vs j ws)) (length-sets (sets l i vs) (i + j) ws ∙ length-sets l i vs ∙ sym (length-sets l i (sets vs j ws)))
    (λ k _. by_place k (dec_lt k (i + j)) (dec_le (i + j + length ws) k) (dec_lt k i) (dec_le (i + length vs) k))
  where
    n : length (sets vs j ws) ≡ length vs
    n = length-sets vs j ws

    m : length (sets l i vs) ≡ length l
    m = length-sets l i vs

    beside : (k : ℕ) → (k < i + j) ⊎ (i + j + length ws ≤ k) → Dec (k < i) → Dec (i + length vs ≤ k) → get_or (sets (sets l i vs) (i + j) ws) k 0 ≡ get_or (sets l i (sets vs j ws)) k 0
    beside k h (yes p) q = sets-outside (sets l i vs) (i + j) k ws 0 h ∙ sets-outside l i k vs 0 (inl p) ∙ sym (sets-outside l i k (sets vs j ws) 0 (inl p))
    beside k h (no p) (yes q) =
        sets-outside (sets l i vs) (i + j) k ws 0 h ∙ sets-outside l i k vs 0 (inr q) ∙ sym (sets-outside l i k (sets vs j ws) 0 (inr (let e = n in omega arith)))
    beside k h (no p) (no q) =
        sets-outside (sets l i vs) (i + j) k ws 0 h ∙ sets-inside l i k vs 0 b (omega arith) (omega arith)
        ∙ sym (sets-inside l i k (sets vs j ws) 0 (let e = n in omega arith) (omega arith) (let e = n in omega arith) ∙ sets-outside vs j (k - i) ws 0 (shift h))
      where
        shift : (k < i + j) ⊎ (i + j + length ws ≤ k) → (k - i < j) ⊎ (j + length ws ≤ k - i)
        shift (inl x) = inl (omega arith)
        shift (inr x) = inr (omega arith)

    by_place : (k : ℕ) → Dec (k < i + j) → Dec (i + j + length ws ≤ k) → Dec (k < i) → Dec (i + length vs ≤ k) → get_or (sets (sets l i vs) (i + j) ws) k 0 ≡ get_or (sets l i (sets vs j ws)) k 0
    by_place k (yes p) r s t = beside k (inl p) s t
    by_place k (no p) (yes r) s t = beside k (inr r) s t
    by_place k (no p) (no r) s t =
        let e : k - (i + j) ≡ k - i - j = omega arith in
        sets-inside (sets l i vs) (i + j) k ws 0 (let e = m in omega arith) (omega arith) (omega arith)
        ∙ ap (λ (x : ℕ). get_or ws x 0) e
        ∙ sym (sets-inside l i k (sets vs j ws) 0 (let e = n in omega arith) (omega arith) (let e = n in omega arith) ∙ sets-inside vs j (k - i) ws 0 a (omega arith) (omega arith))

-- a field of it
add-within : (w off : ℕ) (z : ℤ) (start n : ℕ) (bs part : List ℕ) → length part ≡ n → off + w ≤ n → start + n ≤ length bs → add_field w (start + off) z (sets bs start part) ≡ sets bs start (add_field w off z part)
unfolding add_field update put_field
add-within w off z start n bs part e h b =
    ap (λ (v : ℕ). sets (sets bs start part) (start + off) (bytes_of_number w (add_in w z v))) field
    ∙ sets-within bs part (bytes_of_number w (add_in w z (field_at w off part))) start off (let q = length-bytes w (add_in w z (field_at w off part)) in omega arith) (omega arith)
  where
    field : field_at w (start + off) (sets bs start part) ≡ field_at w off part
    field = unfold field_at in
        ap value_of (ap (take w) (sym (drop-drop off start (sets bs start part))) ∙ sym (part-part off w n (drop start (sets bs start part)) h) ∙ ap (λ (l : List ℕ). take w (drop off l)) (part-stored bs start n part e b))

-- a field beside it
add-beside : (w off : ℕ) (z : ℤ) (start : ℕ) (bs part : List ℕ) → Apart start (length part) off w → sets (add_field w off z bs) start part ≡ add_field w off z (sets bs start part)
unfolding add_field update put_field
add-beside w off z start bs part h =
    sets-apart bs start off part (bytes_of_number w (add_in w z (field_at w off bs))) (rw (length-bytes w (add_in w z (field_at w off bs))) h)
    ∙ ap (λ (v : ℕ). sets (sets bs start part) off (bytes_of_number w (add_in w z v))) (sym field)
  where
    field : field_at w off (sets bs start part) ≡ field_at w off bs
    field = unfold field_at in ap value_of (part-outside bs start off w part h)

-- a field of the first n bytes
take-sets : (n : ℕ) (l : List ℕ) (i : ℕ) (vs : List ℕ) → i + length vs ≤ n → take n (sets l i vs) ≡ sets (take n l) i vs
take-sets n l i [] h = refl
take-sets n l i (v ∷ vs) h = take-sets n (set l i v) (suc i) vs (omega arith) ∙ ap (λ (t : List ℕ). sets t (suc i) vs) (take-set-lt n l i v (omega arith))

take-add : (w off : ℕ) (z : ℤ) (n : ℕ) (d : List ℕ) → off + w ≤ n → take n (add_field w off z d) ≡ add_field w off z (take n d)
unfolding add_field update put_field
take-add w off z n d h =
    take-sets n d off (bytes_of_number w (add_in w z (field_at w off d))) (let q = length-bytes w (add_in w z (field_at w off d)) in omega arith)
    ∙ ap (λ (v : ℕ). sets (take n d) off (bytes_of_number w (add_in w z v))) (sym field)
  where
    field : field_at w off (take n d) ≡ field_at w off d
    field = unfold field_at in ap value_of (part-part off w n d h)

-- ---- text and data that share no byte

-- a field of the one is beside the other
field-beside : (a n b m o w : ℕ) → Disjoint (range a n) (range b m) → a ≤ o → o + w ≤ a + n → 0 < w → 0 < m → Apart b m o w
field-beside a n b m o w d l h s t = by_place (dec_le (b + m) o) (dec_le (o + w) b) (dec_le b o)
  where
    by_place : Dec (b + m ≤ o) → Dec (o + w ≤ b) → Dec (b ≤ o) → Apart b m o w
    by_place (yes p) q r = inl p
    by_place (no p) (yes q) r = inr q
    by_place (no p) (no q) (yes r) = absurd (d.none o (record { low = l; high = omega arith }) (record { low = r; high = omega arith }))
    by_place (no p) (no q) (no r) = absurd (d.none b (record { low = omega arith; high = omega arith }) (record { low = omega arith; high = omega arith }))

bytes-some : (b : Bool) → 0 < bytes_wide b
bytes-some true = omega arith
bytes-some false = omega arith

module _ (m : Module) (apart : Disjoint (part_range m.parts.text) (part_range m.parts.«data»)) (bs : List ℕ)
    (text_in : 0 < m.parts.text.size → m.parts.text.start.0 + m.parts.text.size ≤ length bs)
    (data-in : 0 < m.parts.«data».size → m.parts.«data».start.0 + m.parts.«data».size ≤ length bs) where
  abbrev ts : ℕ
  ts = m.parts.text.start.0

  abbrev tn : ℕ
  tn = m.parts.text.size

  abbrev ds : ℕ
  ds = m.parts.«data».start.0

  abbrev dn : ℕ
  dn = m.parts.«data».size

  -- both images stored
  abbrev stored : Images → List ℕ
  stored x = put_data x m (put_text x m bs)

  -- a field is in its section
  abbrev pub FieldIn : Relocation → Type 0
  FieldIn e = e.place.offset + bytes_wide e.place.wide ≤ cond e.place.text tn dn

  -- images of the sections' lengths
  pub record Whole (x : Images) : Type 0 where
    pub text : length x.text ≡ tn
    pub dat : dn ≤ length x.dat

  part-of-data : (x : Images) → Whole x → length (take dn x.dat) ≡ dn
  part-of-data x h = length-take-le dn x.dat h.dat

  place-text : (w off : ℕ) (z : ℤ) (x : Images) → Whole x → off + w ≤ tn → 0 < w → stored (add_at true w off z x) ≡ add_field w (ts + off) z (stored x)
  unfolding add_at put_text put_data
  place-text w off z x h b s =
      ap (λ (t : List ℕ). sets t ds (take dn x.dat)) (sym (add-within w off z ts tn bs x.text h.text b (text_in (omega arith)))) ∙ by-data (take dn x.dat) (part-of-data x h)
    where
      by-data : (v : List ℕ) → length v ≡ dn → sets (add_field w (ts + off) z (sets bs ts x.text)) ds v ≡ add_field w (ts + off) z (sets (sets bs ts x.text) ds v)
      by-data [] e = refl
      by-data (c ∷ v) e =
          add-beside w (ts + off) z ds (sets bs ts x.text) (c ∷ v)
          (subst (λ (n : ℕ). Apart ds n (ts + off) w) (sym e) (field-beside ts tn ds dn (ts + off) w apart (omega arith) (omega arith) s (omega arith)))

  place-data : (w off : ℕ) (z : ℤ) (x : Images) → Whole x → off + w ≤ dn → 0 < w → stored (add_at false w off z x) ≡ add_field w (ds + off) z (stored x)
  unfolding add_at put_text put_data
  place-data w off z x h b s =
      ap (λ (t : List ℕ). sets (sets bs ts x.text) ds t) (take-add w off z dn x.dat b)
      ∙ sym (add-within w off z ds dn (sets bs ts x.text) (take dn x.dat) (part-of-data x h) b (subst (λ (n : ℕ). ds + dn ≤ n) (sym (length-sets bs ts x.text)) (data-in (omega arith))))

  entry-placed : (e : Relocation) (s : Shifts) (x : Images) → Whole x → FieldIn e → stored (apply_entry e s x) ≡ place_entry m.parts e s (stored x)
  unfolding apply_entry place_entry
  entry-placed e s x h f = by-section e.place.text f
    where
      w : ℕ
      w = bytes_wide e.place.wide

      z : ℤ
      z = signed e.minus (s e.symbol)

      by-section : (t : Bool) → e.place.offset + bytes_wide e.place.wide ≤ cond t tn dn
          → stored (add_at t w e.place.offset z x) ≡ add_field w (cond t ts ds + e.place.offset) z (stored x)
      by-section true f = place-text w e.place.offset z x h f (bytes-some e.place.wide)
      by-section false f = place-data w e.place.offset z x h f (bytes-some e.place.wide)

  whole-after : (e : Relocation) (s : Shifts) (x : Images) → Whole x → Whole (apply_entry e s x)
  unfolding apply_entry
  whole-after e s x h = by-section e.place.text
    where
      w : ℕ
      w = bytes_wide e.place.wide

      z : ℤ
      z = signed e.minus (s e.symbol)

      by-section : (t : Bool) → Whole (add_at t w e.place.offset z x)
      by-section true = unfold add_at in record { text = length-add w e.place.offset z x.text ∙ h.text; dat = h.dat }
      by-section false = unfold add_at in record { text = h.text; dat = subst (λ (n : ℕ). dn ≤ n) (sym (length-add w e.place.offset z x.dat)) h.dat }

  all_placed : (es : List Relocation) (s : Shifts) (x : Images) → Whole x → All FieldIn es → stored (apply_all es s x) ≡ place_all m.parts es s (stored x)
  unfolding apply_all place_all
  all_placed [] s x h f = refl
  all_placed (e ∷ es) s x h f = all_placed es s (apply_entry e s x) (whole-after e s x h) f.1 ∙ ap (place_all m.parts es s) (entry-placed e s x h f.0)

-- ---- the module of a file

-- a part stored over itself
part-own : (start n : ℕ) (bs vs : List ℕ) → vs ≡ take n (drop start bs) → (0 < n → start + n ≤ length bs) → Dec (0 < n) → sets bs start vs ≡ bs
part-own start n bs vs e h (yes p) =
    ap (sets bs start) e
    ∙ ext_get_or 0 (sets bs start (take n (drop start bs))) bs (length-sets bs start (take n (drop start bs))) (λ k _. at k (dec_lt k start) (dec_le (start + n) k))
  where
    long : length (take n (drop start bs)) ≡ n
    long = part_length n start bs h (yes p)

    inside : (k : ℕ) → start ≤ k → k < start + n → get_or (take n (drop start bs)) (k - start) 0 ≡ get_or bs k 0
    inside k a b =
        let q : start + (k - start) ≡ k = omega arith in
        get_or-take n (drop start bs) (k - start) 0 (omega arith) ∙ get_or-drop start bs (k - start) 0 ∙ ap (λ (i : ℕ). get_or bs i 0) q

    at : (k : ℕ) → Dec (k < start) → Dec (start + n ≤ k) → get_or (sets bs start (take n (drop start bs))) k 0 ≡ get_or bs k 0
    at k (yes a) b = sets-outside bs start k (take n (drop start bs)) 0 (inl a)
    at k (no a) (yes b) = sets-outside bs start k (take n (drop start bs)) 0 (inr (let q = long in omega arith))
    at k (no a) (no b) =
        let q = long in
        let r = h p in
        sets-inside bs start k (take n (drop start bs)) 0 (omega arith) (omega arith) (omega arith) ∙ inside k (omega arith) (omega arith)
part-own start zero bs vs e h (no p) = ap (sets bs start) e
part-own start (suc n) bs vs e h (no p) = absurd (omega arith)

module _ (file : List ℕ) (l : Loadable) (v : Valid file l) (p : Plan) (apart : Disjoint (part_range l.layout.parts.text) (part_range l.layout.parts.«data»)) where
  abbrev M : Relocatable
  M = relocatable_of file l

  raw-text : M.raw.text ≡ take l.layout.parts.text.size (drop l.layout.parts.text.start.0 file)
  unfolding relocatable_of raw_text
  raw-text = refl

  raw-data : take l.layout.parts.«data».size M.raw.dat ≡ take l.layout.parts.«data».size (drop l.layout.parts.«data».start.0 file)
  unfolding relocatable_of raw_data
  raw-data =
      let n = l.layout.parts.«data».size in
      let start = l.layout.parts.«data».start.0 in
      take_at (take n (drop start file)) (replicate (l.layout.image - n) 0) n (part_length n start file v.sections.«data» (dec_lt 0 n))

  whole : Whole l.layout apart file v.sections.text v.sections.«data» M.raw
  whole = record { text = unfold relocatable_of in length-raw-text file l v; dat = long }
    where
      is : length M.raw.dat ≡ l.layout.image
      is = unfold relocatable_of in length-raw-data file l v

      long : l.layout.parts.«data».size ≤ length M.raw.dat
      long = let h = v.sections.holds in let e = is in omega arith

  fields : All (FieldIn l.layout apart file v.sections.text v.sections.«data») M.entries
  fields = unfold relocatable_of in
      all_from file l (FieldIn l.layout apart file v.sections.text v.sections.«data») 0 l.tables.nreloc (λ j a b. at j (omega arith))
    where
      at : (j : ℕ) → j < l.tables.nreloc → FieldIn l.layout apart file v.sections.text v.sections.«data» (relocation_at file l j)
      at j b = unfold relocation_at in (v.inside j b).inside

  -- the raw images stored are the file
  raw-stored : put_data M.raw l.layout (put_text M.raw l.layout file) ≡ file
  unfolding put_data put_text
  raw-stored =
      let t = l.layout.parts.text in
      let d = l.layout.parts.«data» in
      ap (λ (bs : List ℕ). sets bs d.start.0 (take d.size M.raw.dat)) (part-own t.start.0 t.size file M.raw.text raw-text v.sections.text (dec_lt 0 t.size))
      ∙ part-own d.start.0 d.size file (take d.size M.raw.dat) raw-data v.sections.«data» (dec_lt 0 d.size)

  -- so each entry applied where the raw bytes are leaves the built images in the file
  pub images-placed : place_all l.layout.parts M.entries (displacements M p) file ≡ put_data (built_images M p) l.layout (put_text (built_images M p) l.layout file)
  unfolding built_images
  images-placed =
      ap (place_all l.layout.parts M.entries (displacements M p)) (sym raw-stored)
      ∙ sym (all_placed l.layout apart file v.sections.text v.sections.«data» M.entries (displacements M p) M.raw whole fields)
