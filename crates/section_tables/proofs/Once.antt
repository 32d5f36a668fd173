-- That the overflow header is there exactly once, in terms of the sections. Assumes nothing.
use Prim.Native.Nat.{ℕ, zero, suc, ◌+◌, ◌<◌}
use mathlib.Core.Path.{◌≡◌, refl, sym, ap, ◌∙◌}
use mathlib.Core.Bool.{Bool, true, false, cond, true≢false}
use mathlib.Core.List.{List}
use native.Mathlib.Decide.{ℕ_discrete}
use native.Mathlib.Omega.{arith}
use lib.ListN.{get_or}
use Rattle.format.specs.declared.SectionNumber.{SectionNumber}
use Rattle.section.specs.declared.Section.{Section}
use Rattle.file_tables.specs.Tables.{blank_section}
use Rattle.table_kind.specs.declared.TableKind.{TableKind}
use Rattle.section_tables.specs.declared.OverflowHeaders.{OverflowHeaders}
use Rattle.section_tables.specs.Tables.{is_overflow_of, overflow_count, overflow_step, overflow_in}

module _ (k : TableKind) (sections : List Section) (n : SectionNumber) where
  -- section i + 1 is an overflow header of section n
  abbrev Is : ℕ → Bool
  Is i = is_overflow_of (get_or sections i blank_section) n

  -- among the first c sections one alone, at index `at`, is an overflow header of section n, and it gives `count`
  pub record Once (c count : ℕ) : Type 0 where
    pub at : ℕ
    pub known : at < c
    pub here : Is at ≡ true
    pub only : (j : ℕ) → j < c → Is j ≡ true → j ≡ at
    pub gives : count ≡ overflow_count k (get_or sections at blank_section)

  abbrev None : ℕ → Type 0
  None c = (j : ℕ) → j < c → Is j ≡ false

  -- what the number of headers says
  abbrev Counted : ℕ → OverflowHeaders → Type 0
  Counted c o = (o.headers ≡ 0 → None c) × (o.headers ≡ 1 → Once c o.count)

  below : {P : Type 0} (j c : ℕ) → j < suc c → (j < c → P) → (j ≡ c → P) → P
  below {P} j c h f g = go (ℕ_discrete j c)
    where
      go : Dec (j ≡ c) → P
      go (yes q) = g q
      go (no q) = f (omega (arith, h, q))

  -- one section more
  counted-yes : (c : ℕ) (o : OverflowHeaders) → Is c ≡ true → Counted c o → Counted (suc c) (record { headers = o.headers + 1; count = overflow_count k (get_or sections c blank_section) })
  counted-yes c o e h = (
    λ z. absurd (omega (arith, z)),
    λ z. let none = h.0 (omega (arith, z)) in
        record {
          at = c;
          known = omega arith;
          here = e;
          only = λ j l q. below j c l (λ i. absurd (true≢false (sym q ∙ none j i))) (λ i. i);
          gives = refl;
        },
  )

  counted-no : (c : ℕ) (o : OverflowHeaders) → Is c ≡ false → Counted c o → Counted (suc c) o
  counted-no c o e h = (
    λ z j l. below j c l (λ i. h.0 z j i) (λ i. ap Is i ∙ e),
    λ z. let one = h.1 z in
        record {
          at = one.at;
          known = omega (arith, one.known);
          here = one.here;
          only = λ j l q. below j c l (λ i. one.only j i q) (λ i. absurd (true≢false (sym q ∙ ap Is i ∙ e)));
          gives = one.gives;
        },
  )

  counted-by : (c : ℕ) (o : OverflowHeaders) (b : Bool) → Is c ≡ b → Counted c o
      → Counted (suc c) (cond b (record { headers = o.headers + 1; count = overflow_count k (get_or sections c blank_section) }) o)
  counted-by c o true e h = counted-yes c o e h
  counted-by c o false e h = counted-no c o e h

  counted : (c : ℕ) → Counted c (overflow_in k sections n c)
  unfolding overflow_in overflow_step
  counted zero = (λ z j l. absurd (omega (arith, l)), λ z. absurd (omega (arith, z)))
  counted (suc c) = counted-by c (overflow_in k sections n c) (Is c) refl (counted c)

  -- a count of one: the header is there exactly once, and the count is its own
  pub once : (c : ℕ) → (overflow_in k sections n c).headers ≡ 1 → Once c (overflow_in k sections n c).count
  once c e = (counted c).1 e

  -- a count of none: there is no such header
  pub never : (c : ℕ) → (overflow_in k sections n c).headers ≡ 0 → (j : ℕ) → j < c → is_overflow_of (get_or sections j blank_section) n ≡ false
  never c e = (counted c).0 e
