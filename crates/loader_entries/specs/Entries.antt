-- Every relocation entry of a module, in order: THREAD, LREL, OVERLAP.
use Rattle.std.specs.Prelude.{ℕ, ◌≤◌, ◌<◌, ◌≡◌, true, false, cond, ltb, List, Ok}
use Rattle.format.specs.declared.Format.{Format}
use Rattle.format.specs.Limit.{file_limit, loader_symbol_limit}
use Rattle.refusal.specs.declared.Refusal.TheVariants.{Overlap}
use Rattle.refusal.specs.Refusal.{is_refused}
use Rattle.refusal.specs.Order.{◌or_else◌, refuse_if, first_of}
use Rattle.parts.specs.declared.Parts.{Parts}
use Rattle.loader_header.specs.declared.LoaderTables.{LoaderTables}
use Rattle.relocation.specs.Relocation.{own_at, place_at, EntriesInside}
use Rattle.field_overlap.specs.Overlap.{meets}
use Rattle.refusal.specs.Verdict.{Verdict}

-- entry i: THREAD and LREL, then OVERLAP where its field meets an earlier entry's that isn't the same
unfoldable pub entry_check : List ℕ → Format → Parts → LoaderTables → ℕ → Verdict
entry_check file f p t i = own_at file f p t i or_else refuse_if (meets (place_at file f p t) i) (Overlap (record { 0 = i }))

-- the first refusal of an entry
unfoldable pub entries_check : List ℕ → Format → Parts → LoaderTables → Verdict
entries_check file f p t = first_of (entry_check file f p t) 0 t.nreloc

-- k is the first of n checks that refuses, or n
pub record FirstRefused (check : ℕ → Verdict) (n k : ℕ) : Type 0 where
  pub within : k ≤ n
  pub before : (i : ℕ) → i < k → is_refused (check i) ≡ false
  pub here : k < n → is_refused (check k) ≡ true

-- what check k of n says; there is none from n on
abbrev pub verdict_at : (ℕ → Verdict) → ℕ → ℕ → Verdict
verdict_at check n k = cond (ltb k n) (check k) (Ok tt)

-- what the checks before these leave known
pub record EntriesReady (file : List ℕ) (f : Format) (p : Parts) (t : LoaderTables) : Type 0 where
  pub entries : EntriesInside file f t
  pub symbols : t.nsyms ≤ loader_symbol_limit
  pub text_size : p.text.size ≤ file_limit
  pub data_size : p.«data».size ≤ file_limit
