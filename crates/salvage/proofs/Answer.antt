-- The answers of salvaging, by what the code finds. Assumes nothing.
use Prim.Native.Nat.{ℕ, ◌*◌, ◌≤◌, ◌<◌}
use mathlib.Core.Path.{◌≡◌, refl, sym, ◌∙◌, ap}
use mathlib.Core.Bool.{Bool, true, false, not}
use mathlib.Core.List.{List}
use native.Mathlib.Omega.{arith}
use borrow.Author.Tests.{eq-eqb, ne_eqb, lt-ltb, le-ltb}
use lib.Dec.{eqb, ltb}
use lib.ListN.{length}
use Rattle.format.specs.Limit.{file_limit, section_limit}
use Rattle.refusal.specs.declared.Refusal.{Refusal}
use Rattle.refusal.specs.declared.Refusal.TheVariants.{Limit, Room, Shared}
use Rattle.refusal.specs.declared.LimitItem.TheVariants.{SalvageReport}
use Rattle.refusal.specs.declared.RoomItem.TheVariants.{FileBuffer}
use Rattle.refusal.specs.Order.{◌or_else◌, refuse_if, by_verdict, if_accepted}
use Rattle.refusal.proofs.Order.{accepted-first, accepted-rest, accepted-equal, accepted-most}
use Rattle.header.specs.declared.Opened.{Opened}
use Rattle.header.specs.Open.{open_of}
use Rattle.symbol.specs.declared.Tables.{Tables}
use Rattle.symbol.specs.Entry.{OpenTables}
use Rattle.symbol.proofs.Opened.{tables-inside, summary-inside}
use Rattle.shared_symbols.specs.Shared.{is_shared}
use Rattle.shared_symbols.proofs.Sections.{few-symbols}
use Rattle.mend.specs.Mend.{put_all}
use Rattle.mend.specs.Report.{report_bytes, put_bytes}
use Rattle.mend.proofs.Changes.{length-report}
use Rattle.salvage.specs.Salvage.{changes_in, salvaged}
use Rattle.salvage.specs.Answer.{salvageable, room_check, room_in, salvage_check, count_answer, salvage_answer, copy_after, report_after, report_of_count}
use Rattle.std.specs.Prelude.{Err, Ok, Result}
use Rattle.refusal.specs.Verdict.{Verdict}

-- ---- ROOM 0 and LIMIT item 5

module _ (len count copy report : ℕ) where
  pub copy-refused : (copy ≡ len → ⊥) → Err (Room FileBuffer) ≡ room_check len count copy report
  unfolding room_check
  copy-refused h = rw (ne_eqb copy len h) refl

  pub report-refused : copy ≡ len → report < 8 * count → Err (Limit SalvageReport) ≡ room_check len count copy report
  unfolding room_check
  report-refused e h = rw (eq-eqb copy len e, lt-ltb report (8 * count) h) refl

  pub room-accepted : copy ≡ len → 8 * count ≤ report → (Ok tt) ≡ room_check len count copy report
  unfolding room_check
  room-accepted e h = rw (eq-eqb copy len e, le-ltb report (8 * count) h) refl

  -- what is known where both are accepted
  module _ (k : room_check len count copy report ≡ Ok tt) where
    both : (refuse_if (not (eqb copy len)) (Room FileBuffer) or_else refuse_if (ltb report (8 * count)) (Limit SalvageReport)) ≡ Ok tt
    both = unfold room_check in k

    pub copy-fits : copy ≡ len
    copy-fits = accepted-equal copy len (Room FileBuffer) (accepted-first (refuse_if (not (eqb copy len)) (Room FileBuffer)) _ both)

    pub report-fits : 8 * count ≤ report
    report-fits = accepted-most report (8 * count) (Limit SalvageReport) (accepted-rest (refuse_if (not (eqb copy len)) (Room FileBuffer)) _ both)

-- ---- of the tables of an opened file

module _ (file : List ℕ) (t : Tables) (copy report : List ℕ) where
  abbrev room : Verdict
  room = room_in file t (length copy) (length report)

  -- the code's verdict is this one
  pub room-told : {n : ℕ} {v : Verdict} → n ≡ length (changes_in file t) → v ≡ room_check (length file) n (length copy) (length report) → v ≡ room
  room-told e h = rw e at h

  pub copy-room : {n : ℕ} {v : Verdict} → n ≡ length (changes_in file t) → v ≡ room_check (length file) n (length copy) (length report) → v ≡ Ok tt → length copy ≡ length file
  copy-room e h k = copy-fits (length file) (length (changes_in file t)) (length copy) (length report) (sym (room-told e h) ∙ k)

  pub rows_fit : {n : ℕ} {v : Verdict} → n ≡ length (changes_in file t) → v ≡ room_check (length file) n (length copy) (length report) → v ≡ Ok tt → length (report_bytes (changes_in file t)) ≤ length report
  rows_fit e h k =
      let l = length-report (changes_in file t) in
      let f = report-fits (length file) (length (changes_in file t)) (length copy) (length report) (sym (room-told e h) ∙ k) in
      omega arith

  pub tables-refused : {x : Refusal} → room ≡ Err x
      → (Err x ≡ by_verdict room (Ok (length (changes_in file t))) Err)
      × ((copy ≡ if_accepted room (put_all t (changes_in file t) file) copy) × (report ≡ if_accepted room (put_bytes 0 (report_bytes (changes_in file t)) report) report))
  tables-refused k = (rw k refl, (rw k refl, rw k refl))

  pub tables-salvaged : {n : ℕ} {one two rows : List ℕ} → room ≡ Ok tt → n ≡ length (changes_in file t)
      → one ≡ file → two ≡ put_all t (changes_in file t) one → rows ≡ put_bytes 0 (report_bytes (changes_in file t)) report
      → (Ok n ≡ by_verdict room (Ok (length (changes_in file t))) Err)
      × ((two ≡ if_accepted room (put_all t (changes_in file t) file) copy) × (rows ≡ if_accepted room (put_bytes 0 (report_bytes (changes_in file t)) report) report))
  tables-salvaged k e a b r = (rw (k, e) refl, (rw (k, b, a) refl, rw (k, r) refl))

-- there are few changes: no sum of the code passes its width
pub few-changes : (file : List ℕ) (t : Tables) (n : ℕ) → OpenTables file t → n ≤ 4 * t.count → n ≤ 4294967296
few-changes file t n o h = let i = tables-inside file t o in omega (arith, i.small, i.symbols)

-- ---- of the file

module _ (file : List ℕ) {o : Opened} (e : o ≡ open_of file) where
  pub open-refused : {x : Refusal} → o.verdict ≡ Err x → salvageable file ≡ Err x
  unfolding salvageable
  open-refused k = rw (rw e at k) refl

  module _ (k : o.verdict ≡ Ok tt) where
    pub shared-asked : (o.summary.count ≤ section_limit) × (o.summary.opthdr ≤ file_limit) × (o.summary.symbols.count ≤ file_limit)
    shared-asked = few-symbols file o.summary (summary-inside file (rw e at k) (ap (λ (x : Opened). x.summary) e))

    pub shared-refused : {b : Bool} → b ≡ is_shared o.summary → b ≡ true → salvageable file ≡ Err Shared
    unfolding salvageable
    shared-refused h q = rw (rw e at k, sym (rw e at h) ∙ q) refl

    pub none-shared : {b : Bool} → b ≡ is_shared o.summary → b ≡ false → salvageable file ≡ Ok tt
    unfolding salvageable
    none-shared h q = rw (rw e at k, sym (rw e at h) ∙ q) refl

module _ (file : List ℕ) where
  pub count-told : {a : Result ℕ Refusal} → a ≡ count_answer file → (a ≡ count_answer file) × (report_of_count file a ≡ report_of_count file (count_answer file))
  count-told e = (e, ap (report_of_count file) e)

  pub count-refused : {x : Refusal} → salvageable file ≡ Err x → Err x ≡ count_answer file
  unfolding count_answer
  count-refused k = rw k refl

  pub counted : {t : Tables} {n : ℕ} → OpenTables file t → salvageable file ≡ Ok tt → n ≡ length (changes_in file t) → Ok n ≡ count_answer file
  unfolding count_answer
  counted o k e = rw (k, e, o.tables) refl

  module _ (copy report : List ℕ) where
    abbrev Salvages : Result ℕ Refusal → List ℕ → List ℕ → Type 0
    Salvages a c r =
        (a ≡ salvage_answer file (length copy) (length report))
        × ((report_of_count file a ≡ report_of_count file (salvage_answer file (length copy) (length report)))
        × ((c ≡ copy_after file copy (length report)) × (r ≡ report_after file (length copy) report)))

    pub salvage-refused : {x : Refusal} → salvageable file ≡ Err x → Salvages (Err x) copy report
    unfolding salvage_answer copy_after report_after salvage_check
    salvage-refused k = (rw k refl, (rw k refl, (rw k refl, rw k refl)))

    pub salvage-done : {t : Tables} {a : Result ℕ Refusal} {c r : List ℕ} → OpenTables file t → salvageable file ≡ Ok tt
        → a ≡ by_verdict (room_in file t (length copy) (length report)) (Ok (length (changes_in file t))) Err
        → c ≡ if_accepted (room_in file t (length copy) (length report)) (put_all t (changes_in file t) file) copy
        → r ≡ if_accepted (room_in file t (length copy) (length report)) (put_bytes 0 (report_bytes (changes_in file t)) report) report
        → Salvages a c r
    unfolding salvage_answer copy_after report_after salvage_check salvaged
    salvage-done o k p q s =
        let x = rw o.tables at p in
        let y = rw o.tables at q in
        let z = rw o.tables at s in (rw k x, (rw k (ap (report_of_count file) x), (rw k y, rw k z)))
