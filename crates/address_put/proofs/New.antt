-- New addresses, by what they follow. Assumes nothing.
use mathlib.Core.Path.{◌≡◌, refl, sym, ◌∙◌, ap, subst}
use mathlib.Core.Bool.{Bool, true, false, cond, ◌||◌}
use mathlib.Core.List.{List, []}
use Prim.Native.Nat.{ℕ, ◌+◌, ◌*◌, ◌%◌, ◌≤◌, ◌<◌}
use native.Mathlib.Omega.{arith}
use lib.ListN.{length, get_or}
use lib.Dec.{eqb}
use borrow.Author.Tests.{eq-eqb, ne_eqb}
use Rattle.word.specs.declared.Field.{Field}
use Rattle.word.specs.Number.{bytes_in, field_in}
use Rattle.update.specs.Update.{put_field}
use Rattle.update.proofs.Laws.{length-put}
use Rattle.format.specs.declared.Format.{Format}
use Rattle.format.specs.declared.Format.TheVariants.{Xcoff32, Xcoff64}
use Rattle.format.specs.declared.HeaderLayout.{HeaderLayout}
use Rattle.format.specs.declared.SectionLayout.{SectionLayout}
use Rattle.format.specs.declared.AuxLayout.{AuxLayout}
use Rattle.format.specs.declared.RelocationLayout.{RelocationLayout}
use Rattle.format.specs.Layout.{header_layout, section_layout, aux_layout, relocation_layout, address_limit}
use Rattle.format.proofs.Layouts.{FieldInside, AuxInside, aux-inside}
use Rattle.word.proofs.Test.{either}
use Rattle.file_header.specs.Header.{section_start}
use Rattle.header.specs.declared.Summary.{Summary}
use Rattle.header.specs.Inside.{Inside}
use Rattle.frame.proofs.Open.{section-in-area}
use Rattle.parts.specs.declared.Parts.{Parts}
use Rattle.parts.specs.Sections.{flag_at}
use Rattle.module.specs.declared.Anchor.{Anchor}
use Rattle.module.specs.declared.Module.{Module}
use Rattle.loadable.specs.declared.Loadable.{Loadable}
use Rattle.relocation.specs.declared.RelocationEntry.{RelocationEntry}
use Rattle.relocation.specs.Relocation.{entry_in}
use Rattle.history.specs.declared.Followed.{Followed}
use Rattle.history.specs.declared.Followed.TheVariants as followed
use Rattle.history.specs.Plan.{Anchored, displacement_of}
use Rattle.history.specs.Plan.Anchored.{none, in_text, in_data}
use Rattle.displacement.proofs.Anchors.{sum-exact}
use Rattle.plan.specs.Relocatable.{followed_at, anchored}
use Rattle.plan.proofs.Symbols.{OwnPlace, own-place-at}
use Rattle.rebase.specs.Rebase.{new_address}
use Rattle.frame.specs.Change.{put_in}
use Rattle.written.specs.Written.{flag_follows, anchor_by, anchor_follows, entry_follows, moves, put_address, put_header, put_section, put_aux, put_entry}
use Rattle.address_put.specs.New.{ImportIn, ForFormat}

module _ (fm : Format) (d list : List ℕ) (a r : ℕ) where
  pub text-new : {f : Followed} → f ≡ followed.Text → r ≡ (a + get_or d 0 0) % address_limit fm → ForFormat fm d list (λ new. r ≡ new f a)
  unfolding new_address
  text-new q e m p g l h = rw q (e ∙ rw (← g) (sum-exact m.format a (get_or d 0 0) (displacement_of m p followed.Text) h.text))

  pub data-new : {f : Followed} → f ≡ followed.Data → r ≡ (a + get_or d 1 0) % address_limit fm → ForFormat fm d list (λ new. r ≡ new f a)
  unfolding new_address
  data-new q e m p g l h = rw q (e ∙ rw (← g) (sum-exact m.format a (get_or d 1 0) (displacement_of m p followed.Data) h.dat))

  pub import-new : {f : Followed} {k v : ℕ} → f ≡ followed.Import k v → r ≡ get_or list k 0 → ForFormat fm d list (λ new. r ≡ new f a)
  unfolding new_address
  import-new {k = k} q e m p g l h = rw (q, l) e

  pub nothing-new : {f : Followed} → f ≡ followed.Nothing → r ≡ a → ForFormat fm d list (λ new. r ≡ new f a)
  unfolding new_address
  nothing-new q e m p g l h = rw q e

-- an import's place is in the list
pub import-place : (n : ℕ) {f : Followed} {k v : ℕ} → f ≡ followed.Import k v → ImportIn n f → k < n
import-place n q h = subst (ImportIn n) q h

-- ---- what each address follows

module _ {x : ℕ} (y : ℕ) (e : x ≡ y) where
  pub flag-text : x ≡ 0x0020 → followed.Text ≡ flag_follows y
  unfolding flag_follows
  flag-text h = rw (eq-eqb y 0x0020 (sym e ∙ h)) refl

  pub flag-data : (x ≡ 0x0020 → ⊥) → x ≡ 0x0040 → followed.Data ≡ flag_follows y
  unfolding flag_follows
  flag-data n h = rw (ne_eqb y 0x0020 (λ z. n (e ∙ z)), eq-eqb y 0x0040 (sym e ∙ h)) refl

  pub flag-bss : (x ≡ 0x0020 → ⊥) → (x ≡ 0x0040 → ⊥) → x ≡ 0x0080 → followed.Data ≡ flag_follows y
  unfolding flag_follows
  flag-bss n m h = rw (ne_eqb y 0x0020 (λ z. n (e ∙ z)), ne_eqb y 0x0040 (λ z. m (e ∙ z)), eq-eqb y 0x0080 (sym e ∙ h)) refl

  pub flag-nothing : (x ≡ 0x0020 → ⊥) → (x ≡ 0x0040 → ⊥) → (x ≡ 0x0080 → ⊥) → followed.Nothing ≡ flag_follows y
  unfolding flag_follows
  flag-nothing n m h = rw (ne_eqb y 0x0020 (λ z. n (e ∙ z)), ne_eqb y 0x0040 (λ z. m (e ∙ z)), ne_eqb y 0x0080 (λ z. h (e ∙ z))) refl

module _ (p : Parts) (a : Anchor) where
  pub anchor-nothing : a.section.0 ≡ 0 → followed.Nothing ≡ anchor_follows p a
  unfolding anchor_follows anchored
  anchor-nothing e = rw (eq-eqb a.section.0 0 e) refl

  pub anchor-text : (a.section.0 ≡ 0 → ⊥) → a.section.0 ≡ p.text.number.0 → followed.Text ≡ anchor_follows p a
  unfolding anchor_follows anchored
  anchor-text n e = rw (ne_eqb a.section.0 0 n, eq-eqb a.section.0 p.text.number.0 e) refl

  pub anchor-data : (a.section.0 ≡ 0 → ⊥) → (a.section.0 ≡ p.text.number.0 → ⊥) → followed.Data ≡ anchor_follows p a
  unfolding anchor_follows anchored
  anchor-data n m = rw (ne_eqb a.section.0 0 n, ne_eqb a.section.0 p.text.number.0 m) refl

module _ (p : Parts) (e : RelocationEntry) where
  pub entry-text : e.scnum ≡ p.text.number.0 → followed.Text ≡ entry_follows p e
  unfolding entry_follows
  entry-text h = rw (eq-eqb e.scnum p.text.number.0 h) refl

  pub entry-data : (e.scnum ≡ p.text.number.0 → ⊥) → followed.Data ≡ entry_follows p e
  unfolding entry_follows
  entry-data h = rw (ne_eqb e.scnum p.text.number.0 h) refl

-- ---- one address

module _ (new : Followed → ℕ → ℕ) (file : List ℕ) (f : Followed) (at : Field) (base : ℕ) (xs ys : List ℕ) where
  pub put-moved : moves f ≡ true → {v w : ℕ} → v ≡ field_in at base file → w ≡ new f v → ys ≡ put_field (bytes_in at.width) (base + at.offset) w xs → ys ≡ put_address new file f at base xs
  unfolding put_address
  put-moved t e h k = rw t (k ∙ ap (λ (n : ℕ). put_in at base n xs) (h ∙ ap (new f) e))

pub put-still : (new : Followed → ℕ → ℕ) (file : List ℕ) (f : Followed) (at : Field) (base : ℕ) (xs : List ℕ) → moves f ≡ false → xs ≡ put_address new file f at base xs
unfolding put_address
put-still new file f at base xs t = rw t refl

-- ---- several in order

module _ (new : Followed → ℕ → ℕ) (file : List ℕ) (fm : Format) where
  pub header-put : (f : Followed) (base : ℕ) {s : SectionLayout} (xs ys zs : List ℕ) → s ≡ section_layout fm
      → ys ≡ put_address new file f s.paddr base xs → zs ≡ put_address new file f s.vaddr base ys → zs ≡ put_header new file fm f base xs
  unfolding put_header
  header-put f base {s} xs ys zs q e h =
      h ∙ ap (put_address new file f s.vaddr base) e ∙ ap (λ (t : SectionLayout). put_address new file f t.vaddr base (put_address new file f t.paddr base xs)) q

  abbrev starts : AuxLayout → ℕ → List ℕ → List ℕ
  starts a base bs = put_address new file followed.Text a.tstart base (put_address new file followed.Data a.dstart base bs)

  pub starts-put : (base : ℕ) {a : AuxLayout} (xs ys zs : List ℕ) → a ≡ aux_layout fm
      → ys ≡ put_address new file followed.Data a.dstart base xs → zs ≡ put_address new file followed.Text a.tstart base ys → zs ≡ starts (aux_layout fm) base xs
  starts-put base {a} xs ys zs q e h = h ∙ ap (put_address new file followed.Text a.tstart base) e ∙ ap (λ (t : AuxLayout). starts t base xs) q

  module _ (p : Parts) (entry toc : Anchor) (xs ys zs ws : List ℕ) where
    abbrev anchors : AuxLayout → ℕ → Followed → Followed → List ℕ
    anchors a base fe ft = starts (aux_layout fm) base (put_address new file fe a.entry base (put_address new file ft a.toc base xs))

    -- by the layouts and what the anchors follow
    pub anchors-put : {h : HeaderLayout} {a : AuxLayout} {fe ft : Followed} → h ≡ header_layout fm → a ≡ aux_layout fm → fe ≡ anchor_follows p entry → ft ≡ anchor_follows p toc
        → ys ≡ put_address new file ft a.toc h.length xs → zs ≡ put_address new file fe a.entry h.length ys → ws ≡ starts (aux_layout fm) h.length zs
        → ws ≡ anchors (aux_layout fm) (header_layout fm).length (anchor_follows p entry) (anchor_follows p toc)
    anchors-put {h} {a} {fe} {ft} qh qa qe qt e1 e2 e3 =
        e3 ∙ ap (starts (aux_layout fm) h.length) (e2 ∙ ap (put_address new file fe a.entry h.length) e1)
        ∙ ap (λ (t : HeaderLayout). anchors a t.length fe ft) qh
        ∙ ap (λ (t : AuxLayout). anchors t (header_layout fm).length fe ft) qa
        ∙ ap (λ (t : Followed). anchors (aux_layout fm) (header_layout fm).length t ft) qe
        ∙ ap (λ (t : Followed). anchors (aux_layout fm) (header_layout fm).length (anchor_follows p entry) t) qt

pub aux-put : (new : Followed → ℕ → ℕ) (file : List ℕ) (m : Module) (xs ys : List ℕ)
    → ys ≡ anchors new file m.format m.parts m.entry m.toc xs [] [] [] (aux_layout m.format) (header_layout m.format).length (anchor_follows m.parts m.entry) (anchor_follows m.parts m.toc)
    → ys ≡ put_aux new file m xs
unfolding put_aux
aux-put new file m xs ys e = e

-- one address at a place known by its layout
pub one-put : (new : Followed → ℕ → ℕ) (file : List ℕ) (base : ℕ) (xs ys : List ℕ) {f g : Followed} {a b : Field} → f ≡ g → a ≡ b
    → ys ≡ put_address new file f a base xs → ys ≡ put_address new file g b base xs
one-put new file base xs ys {f} {g} {a} {b} q r e = e ∙ ap (λ (t : Followed). put_address new file t a base xs) q ∙ ap (λ (t : Field). put_address new file g t base xs) r

-- ---- places and imports

pub aux-at : (fm : Format) {h : HeaderLayout} {a : AuxLayout} (n : ℕ) → h ≡ header_layout fm → a ≡ aux_layout fm → (header_layout fm).length + (aux_layout fm).length ≤ n → AuxInside a h.length n
aux-at fm {h} {a} n qh qa b = aux-inside fm h.length n qa (subst (λ (t : HeaderLayout). t.length + (aux_layout fm).length ≤ n) (sym qh) b)

pub aux-room : (fm : Format) {h : HeaderLayout} (n : ℕ) → h ≡ header_layout fm → (header_layout fm).length + (aux_layout fm).length ≤ n → h.length + (aux_layout fm).length ≤ n
aux-room fm n q b = subst (λ (t : HeaderLayout). t.length + (aux_layout fm).length ≤ n) (sym q) b

pub entry_at_lem : (fm : Format) {r : RelocationLayout} (start i count n : ℕ) → r ≡ relocation_layout fm → i < count → start + count * (relocation_layout fm).length ≤ n
    → FieldInside r.address (start + i * r.length) n
entry_at_lem fm start i count n q h b = subst (λ (t : RelocationLayout). FieldInside t.address (start + i * t.length) n) (sym q) (by-format fm b)
  where
    by-format : (f : Format) → start + count * (relocation_layout f).length ≤ n → FieldInside (relocation_layout f).address (start + i * (relocation_layout f).length) n
    by-format Xcoff32 b = omega arith
    by-format Xcoff64 b = omega arith

pub entry-put : (new : Followed → ℕ → ℕ) (file : List ℕ) (l : Loadable) (i : ℕ) (xs ys : List ℕ) {r : RelocationLayout} {e : RelocationEntry} {f : Followed}
    → r ≡ relocation_layout l.layout.format → e ≡ entry_in file l.layout.format l.tables i → f ≡ entry_follows l.layout.parts e
    → ys ≡ put_address new file f r.address (l.tables.relocations.0 + i * r.length) xs → ys ≡ put_entry new file l i xs
unfolding put_entry
entry-put new file l i xs ys {r} {e} {f} q w g h =
    h ∙ ap (λ (t : Followed). put_address new file t r.address (l.tables.relocations.0 + i * r.length) xs) (g ∙ ap (entry_follows l.layout.parts) w)
    ∙ ap (λ (t : RelocationLayout). put_address new file (entry_follows l.layout.parts (entry_in file l.layout.format l.tables i)) t.address (l.tables.relocations.0 + i * t.length) xs) q

-- a section header of an opened file
pub header-room : (file : List ℕ) (y : Summary) (i : ℕ) {base : ℕ} → Inside file y → i < y.count → base ≡ section_start y.format y.opthdr i → base + (section_layout y.format).length ≤ length file
header-room file y i s h e = rw e (omega (arith, section-in-area y.format y.opthdr y.count i h, s.headers))

pub section-put : (new : Followed → ℕ → ℕ) (file : List ℕ) (y : Summary) (i : ℕ) (xs ys : List ℕ) {base : ℕ} {f : Followed}
    → base ≡ section_start y.format y.opthdr i → f ≡ flag_follows (flag_at y.sections i) → ys ≡ put_header new file y.format f base xs → ys ≡ put_section new file y i xs
unfolding put_section
section-put new file y i xs ys {base} {f} q g h =
    h ∙ ap (λ (t : Followed). put_header new file y.format t base xs) g ∙ ap (λ (n : ℕ). put_header new file y.format (flag_follows (flag_at y.sections i)) n xs) q

-- a section follows no import, and so does an anchor and an entry
module _ (n : ℕ) {f : Followed} where
  pub kind-in : (flag : ℕ) → f ≡ flag_follows flag → ImportIn n f
  unfolding flag_follows
  kind-in flag q =
      subst (ImportIn n) (sym q)
      (either (ImportIn n) (eqb flag 0x0020) (λ _. tt) (λ _. either (ImportIn n) (eqb flag 0x0040 || eqb flag 0x0080) (λ _. tt) (λ _. tt)))

  pub anchor-in : (p : Parts) (a : Anchor) → f ≡ anchor_follows p a → ImportIn n f
  unfolding anchor_follows
  anchor-in p a q = subst (ImportIn n) (sym q) (by-anchor (anchored p a))
    where
      by-anchor : (x : Anchored) → ImportIn n (anchor_by x)
      by-anchor none = tt
      by-anchor (in_text a) = tt
      by-anchor (in_data a) = tt

  pub entry-in-list : (p : Parts) (e : RelocationEntry) → f ≡ entry_follows p e → ImportIn n f
  unfolding entry_follows
  entry-in-list p e q = subst (ImportIn n) (sym q) (either (ImportIn n) (eqb e.scnum p.text.number.0) (λ _. tt) (λ _. tt))

-- an import has the place of its symbol
own_in : (n k : ℕ) (f : Followed) → k < n → OwnPlace k f → ImportIn n f
own_in n k followed.Text h o = tt
own_in n k followed.Data h o = tt
own_in n k (followed.Import j v) h o = omega arith
own_in n k followed.Nothing h o = tt

pub symbol-in-list : (file : List ℕ) (l : Loadable) (k : ℕ) {n : ℕ} {f : Followed} → n ≡ l.tables.nsyms → k < l.tables.nsyms → f ≡ followed_at file l k → ImportIn n f
symbol-in-list file l k {n} e h q = subst (ImportIn n) (sym q) (own_in n k (followed_at file l k) (omega arith) (own-place-at file l k))

pub put-length : (new : Followed → ℕ → ℕ) (file : List ℕ) (f : Followed) (at : Field) (base : ℕ) (bs : List ℕ) → length (put_address new file f at base bs) ≡ length bs
unfolding put_address
put-length new file f at base bs = one (moves f)
  where
    one : (t : Bool) → length (cond t (put_in at base (new f (field_in at base file)) bs) bs) ≡ length bs
    one true = length-put (bytes_in at.width) (base + at.offset) (new f (field_in at base file)) bs
    one false = refl
