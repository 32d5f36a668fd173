-- A module whose recorded addresses are a plan's.
use Rattle.std.specs.Prelude.{ℕ, ◌≡◌, map, get_or, pos, ◌+ℤ◌}
use Rattle.update.specs.Update.{remainder}
use Rattle.history.specs.declared.Followed.{Followed}
use Rattle.history.specs.declared.Followed.TheVariants as followed
use Rattle.history.specs.Plan.{Relocatable, Plan, Anchored, limit_of, displacement_of, built_images}
use Rattle.history.specs.Plan.Anchored.{none, in_text, in_data}

-- a recorded address in a plan: moved with text or data, the sum dropped at the limit; an import's is the list's; what follows nothing stays
unfoldable pub new_address : Relocatable → Plan → Followed → ℕ → ℕ
new_address m p followed.Text a = remainder (pos a +ℤ displacement_of m p followed.Text) (limit_of m)
new_address m p followed.Data a = remainder (pos a +ℤ displacement_of m p followed.Data) (limit_of m)
new_address m p (followed.Import k v) a = get_or p.list k 0
new_address m p followed.Nothing a = a

-- an import's recorded value is the plan's
abbrev pub rebased_symbol : Plan → Followed → Followed
rebased_symbol p followed.Text = followed.Text
rebased_symbol p followed.Data = followed.Data
rebased_symbol p (followed.Import k v) = followed.Import k (get_or p.list k 0)
rebased_symbol p followed.Nothing = followed.Nothing

-- the entry point or the TOC anchor, moved
unfoldable pub rebased_anchor : Relocatable → Plan → Anchored → Anchored
rebased_anchor m p none = none
rebased_anchor m p (in_text a) = in_text (new_address m p followed.Text a)
rebased_anchor m p (in_data a) = in_data (new_address m p followed.Data a)

unfoldable pub rebased : Relocatable → Plan → Relocatable
rebased m p =
    record {
      verdict = m.verdict;
      raw = built_images m p;
      text_address = p.text;
      data_address = p.dat;
      format = m.format;
      symbols = map (rebased_symbol p) m.symbols;
      entries = m.entries;
      entry = rebased_anchor m p m.entry;
      toc = rebased_anchor m p m.toc;
    }

-- ---- the plan of a module's recorded addresses

-- the recorded value of an import; 0 at a place that is ignored
abbrev pub recorded_value : Followed → ℕ
recorded_value followed.Text = 0
recorded_value followed.Data = 0
recorded_value (followed.Import k v) = v
recorded_value followed.Nothing = 0

unfoldable pub recorded_plan : Relocatable → Plan
recorded_plan m = record { text = m.text_address; dat = m.data_address; list = map recorded_value m.symbols }

-- an import at place j of the table has place j in the list
abbrev pub OwnPlace : ℕ → Followed → Type 0
OwnPlace j followed.Text = Unit {0}
OwnPlace j followed.Data = Unit {0}
OwnPlace j (followed.Import k v) = k ≡ j
OwnPlace j followed.Nothing = Unit {0}

abbrev pub OwnPlaces : Relocatable → Type 0
OwnPlaces m = (j : ℕ) → OwnPlace j (get_or m.symbols j followed.Nothing)
