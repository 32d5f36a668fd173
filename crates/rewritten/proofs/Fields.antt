-- Records of which addresses were put in anew. Assumes nothing.
use mathlib.Core.Path.{◌≡◌, refl, sym, ◌∙◌, ap}
use mathlib.Core.Bool.{Bool, true, false, cond, ◌&&◌}
use mathlib.Core.List.{List}
use Prim.Native.Nat.{ℕ, ◌+◌, ◌^◌, ◌≤◌}
use native.Mathlib.Omega.{arith}
use lib.ListN.{length}
use lib.Dec.{lit≤}
use Rattle.word.proofs.Test.{and_first, and_second}
use Rattle.word.specs.declared.Field.{Field}
use Rattle.word.specs.declared.Width.TheVariants.{One, Two, Four}
use Rattle.word.specs.Number.{field, bytes_in, field_in}
use Rattle.format.specs.declared.Format.{Format}
use Rattle.format.specs.declared.Format.TheVariants.{Xcoff32, Xcoff64}
use Rattle.format.specs.Layout.{section_layout, aux_layout, aux_numbers, symbol_layout, zeroes_field, relocation_layout, loader_symbol_length, address_limit}
use Rattle.format.specs.Name.{name_field}
use Rattle.format.specs.Range.{range}
use Rattle.section.specs.Section.{section_header_at}
use Rattle.auxiliary.specs.Auxiliary.{aux_at}
use Rattle.loader_symbol.specs.Symbol as symbol
use Rattle.relocation.specs.Relocation as relocation
use Rattle.history.specs.declared.Followed.{Followed}
use Rattle.history.specs.declared.Followed.TheVariants as followed
use Rattle.frame.specs.Same.{Same}
use Rattle.frame.specs.Change.{put_in, Local}
use Rattle.written.specs.Written.{moves, put_address, put_header}
use Rattle.written.specs.Moved.{Fresh, moved_header, moved_aux, moved_entry, moved_relocation}
use Rattle.frame.proofs.Same.{same-field}
use Rattle.frame.proofs.Change.{none-local}
use Rattle.frame.proofs.Fields.{fields_apart, field-local, put-own, put_other}

module _ (new : Followed → ℕ → ℕ) (file : List ℕ) where
  -- a change of an address stays in its field
  pub address-local : (f : Followed) (a : Field) (base : ℕ) → Local (range (base + a.offset) (bytes_in a.width)) (λ bs. put_address new file f a base bs)
  unfolding put_address
  address-local f a base = by-test (moves f)
    where
      by-test : (t : Bool) → Local (range (base + a.offset) (bytes_in a.width)) (λ bs. cond t (put_in a base (new f (field_in a base file)) bs) bs)
      by-test true = field-local a base (new f (field_in a base file))
      by-test false = none-local (range (base + a.offset) (bytes_in a.width))

  -- the field holds the new address
  pub address-own : (f : Followed) (a : Field) (base : ℕ) (bs : List ℕ) → base + a.offset + bytes_in a.width ≤ length bs → Fresh new (256 ^ bytes_in a.width) f
      → field_in a base file ≡ field_in a base bs → field_in a base (put_address new file f a base bs) ≡ new f (field_in a base bs)
  unfolding put_address
  address-own followed.Text a base bs h n e = put-own a base (new followed.Text (field_in a base file)) bs h (n (field_in a base file)) ∙ ap (new followed.Text) e
  address-own followed.Data a base bs h n e = put-own a base (new followed.Data (field_in a base file)) bs h (n (field_in a base file)) ∙ ap (new followed.Data) e
  address-own (followed.Import k v) a base bs h n e = put-own a base (new (followed.Import k v) (field_in a base file)) bs h (n (field_in a base file)) ∙ ap (new (followed.Import k v)) e
  address-own followed.Nothing a base bs h n e = sym (n (field_in a base bs))

  -- another field holds what it held
  pub address-other : (f : Followed) (a b : Field) (base : ℕ) (bs : List ℕ) → fields_apart a b ≡ true → field_in b base (put_address new file f a base bs) ≡ field_in b base bs
  unfolding put_address
  address-other f a b base bs e = by-test (moves f)
    where
      by-test : (t : Bool) → field_in b base (cond t (put_in a base (new f (field_in a base file)) bs) bs) ≡ field_in b base bs
      by-test true = put_other a base (new f (field_in a base file)) b bs e
      by-test false = refl

  address-length : (f : Followed) (a : Field) (base : ℕ) (bs : List ℕ) → length (put_address new file f a base bs) ≡ length bs
  address-length f a base bs = (address-local f a base).keeps bs

  -- a section header
  pub section-put : (fm : Format) (f : Followed) (base : ℕ) (bs : List ℕ) → base + (section_layout fm).length ≤ length bs → Fresh new (address_limit fm) f → Same base (section_layout fm).length file bs
      → section_header_at fm base (put_header new file fm f base bs) ≡ moved_header new f (section_header_at fm base bs)
  unfolding section_header_at put_header
  section-put Xcoff32 f base bs h n e =
      let L = section_layout Xcoff32 in
      let one = put_address new file f L.paddr base bs in
      let q : length one ≡ length bs = address-length f L.paddr base bs in
      rw (
        address-other f L.vaddr L.paddr base one refl,
        address-own f L.paddr base bs (omega arith) n (same-field L.paddr (lit≤ tt) e),
        address-own f L.vaddr base one (omega arith) n (same-field L.vaddr (lit≤ tt) e ∙ sym (address-other f L.paddr L.vaddr base bs refl)),
        address-other f L.paddr L.vaddr base bs refl,
        address-other f L.vaddr L.size base one refl,
        address-other f L.paddr L.size base bs refl,
        address-other f L.vaddr L.scnptr base one refl,
        address-other f L.paddr L.scnptr base bs refl,
        address-other f L.vaddr L.relptr base one refl,
        address-other f L.paddr L.relptr base bs refl,
        address-other f L.vaddr L.lnnoptr base one refl,
        address-other f L.paddr L.lnnoptr base bs refl,
        address-other f L.vaddr L.nreloc base one refl,
        address-other f L.paddr L.nreloc base bs refl,
        address-other f L.vaddr L.nlnno base one refl,
        address-other f L.paddr L.nlnno base bs refl,
        address-other f L.vaddr L.flags base one refl,
        address-other f L.paddr L.flags base bs refl,
      ) refl
  section-put Xcoff64 f base bs h n e =
      let L = section_layout Xcoff64 in
      let one = put_address new file f L.paddr base bs in
      let q : length one ≡ length bs = address-length f L.paddr base bs in
      rw (
        address-other f L.vaddr L.paddr base one refl,
        address-own f L.paddr base bs (omega arith) n (same-field L.paddr (lit≤ tt) e),
        address-own f L.vaddr base one (omega arith) n (same-field L.vaddr (lit≤ tt) e ∙ sym (address-other f L.paddr L.vaddr base bs refl)),
        address-other f L.paddr L.vaddr base bs refl,
        address-other f L.vaddr L.size base one refl,
        address-other f L.paddr L.size base bs refl,
        address-other f L.vaddr L.scnptr base one refl,
        address-other f L.paddr L.scnptr base bs refl,
        address-other f L.vaddr L.relptr base one refl,
        address-other f L.paddr L.relptr base bs refl,
        address-other f L.vaddr L.lnnoptr base one refl,
        address-other f L.paddr L.lnnoptr base bs refl,
        address-other f L.vaddr L.nreloc base one refl,
        address-other f L.paddr L.nreloc base bs refl,
        address-other f L.vaddr L.nlnno base one refl,
        address-other f L.paddr L.nlnno base bs refl,
        address-other f L.vaddr L.flags base one refl,
        address-other f L.paddr L.flags base bs refl,
      ) refl

  -- the auxiliary header with its four addresses put in
  abbrev pub aux_put : Format → Followed → Followed → ℕ → List ℕ → List ℕ
  aux_put fm fe ft base bs =
      put_address new file followed.Text (aux_layout fm).tstart base
      (put_address new file followed.Data (aux_layout fm).dstart base
      (put_address new file fe (aux_layout fm).entry base
      (put_address new file ft (aux_layout fm).toc base bs)))

  -- a field apart from all four
  abbrev aux_apart : Format → Field → Bool
  aux_apart fm b =
      (fields_apart (aux_layout fm).tstart b && fields_apart (aux_layout fm).dstart b) && (fields_apart (aux_layout fm).entry b && fields_apart (aux_layout fm).toc b)

  aux-other : (fm : Format) (fe ft : Followed) (b : Field) (base : ℕ) (bs : List ℕ) → aux_apart fm b ≡ true → field_in b base (aux_put fm fe ft base bs) ≡ field_in b base bs
  aux-other fm fe ft b base bs e =
      let A = aux_layout fm in
      let first = and_first (fields_apart A.tstart b && fields_apart A.dstart b) _ e in
      let second = and_second (fields_apart A.tstart b && fields_apart A.dstart b) _ e in
      let three = put_address new file ft A.toc base bs in
      let two = put_address new file fe A.entry base three in
      let one = put_address new file followed.Data A.dstart base two in
      address-other followed.Text A.tstart b base one (and_first (fields_apart A.tstart b) _ first)
      ∙ address-other followed.Data A.dstart b base two (and_second (fields_apart A.tstart b) _ first)
      ∙ address-other fe A.entry b base three (and_first (fields_apart A.entry b) _ second)
      ∙ address-other ft A.toc b base bs (and_second (fields_apart A.entry b) _ second)

  pub aux-put : (fm : Format) (fe ft : Followed) (base : ℕ) (bs : List ℕ) → base + (aux_layout fm).length ≤ length bs
      → Fresh new (address_limit fm) followed.Text → Fresh new (address_limit fm) followed.Data → Fresh new (address_limit fm) fe → Fresh new (address_limit fm) ft → Same base (aux_layout fm).length file bs
      → aux_at fm base (aux_put fm fe ft base bs) ≡ moved_aux new fe ft (aux_at fm base bs)
  unfolding aux_at
  aux-put Xcoff32 fe ft base bs h nt nd ne nc e =
      let A = aux_layout Xcoff32 in
      let three = put_address new file ft A.toc base bs in
      let two = put_address new file fe A.entry base three in
      let one = put_address new file followed.Data A.dstart base two in
      let q3 : length three ≡ length bs = address-length ft A.toc base bs in
      let q2 : length two ≡ length three = address-length fe A.entry base three in
      let q1 : length one ≡ length two = address-length followed.Data A.dstart base two in
      let entry3 : field_in A.entry base three ≡ field_in A.entry base bs = address-other ft A.toc A.entry base bs refl in
      let dstart2 : field_in A.dstart base two ≡ field_in A.dstart base bs = address-other fe A.entry A.dstart base three refl ∙ address-other ft A.toc A.dstart base bs refl in
      let tstart1 : field_in A.tstart base one ≡ field_in A.tstart base bs = address-other followed.Data A.dstart A.tstart base two refl ∙ address-other fe A.entry A.tstart base three refl ∙ address-other ft A.toc A.tstart base bs refl in
      let toc : field_in A.toc base (aux_put Xcoff32 fe ft base bs) ≡ new ft (field_in A.toc base bs) =
      address-other followed.Text A.tstart A.toc base one refl ∙ address-other followed.Data A.dstart A.toc base two refl ∙ address-other fe A.entry A.toc base three refl
      ∙ address-own ft A.toc base bs (omega arith) nc (same-field A.toc (lit≤ tt) e) in
      let entry : field_in A.entry base (aux_put Xcoff32 fe ft base bs) ≡ new fe (field_in A.entry base bs) =
      address-other followed.Text A.tstart A.entry base one refl ∙ address-other followed.Data A.dstart A.entry base two refl
      ∙ address-own fe A.entry base three (omega arith) ne (same-field A.entry (lit≤ tt) e ∙ sym entry3) ∙ ap (new fe) entry3 in
      let dstart : field_in A.dstart base (aux_put Xcoff32 fe ft base bs) ≡ new followed.Data (field_in A.dstart base bs) =
      address-other followed.Text A.tstart A.dstart base one refl
      ∙ address-own followed.Data A.dstart base two (omega arith) nd (same-field A.dstart (lit≤ tt) e ∙ sym dstart2) ∙ ap (new followed.Data) dstart2 in
      let tstart : field_in A.tstart base (aux_put Xcoff32 fe ft base bs) ≡ new followed.Text (field_in A.tstart base bs) =
      address-own followed.Text A.tstart base one (omega arith) nt (same-field A.tstart (lit≤ tt) e ∙ sym tstart1) ∙ ap (new followed.Text) tstart1 in
      rw (
        tstart,
        dstart,
        entry,
        toc,
        aux-other Xcoff32 fe ft A.tsize base bs refl,
        aux-other Xcoff32 fe ft A.dsize base bs refl,
        aux-other Xcoff32 fe ft A.bsize base bs refl,
        aux-other Xcoff32 fe ft aux_numbers.snentry base bs refl,
        aux-other Xcoff32 fe ft aux_numbers.sntext base bs refl,
        aux-other Xcoff32 fe ft aux_numbers.sndata base bs refl,
        aux-other Xcoff32 fe ft aux_numbers.sntoc base bs refl,
        aux-other Xcoff32 fe ft aux_numbers.snloader base bs refl,
        aux-other Xcoff32 fe ft aux_numbers.snbss base bs refl,
      ) refl
  aux-put Xcoff64 fe ft base bs h nt nd ne nc e =
      let A = aux_layout Xcoff64 in
      let three = put_address new file ft A.toc base bs in
      let two = put_address new file fe A.entry base three in
      let one = put_address new file followed.Data A.dstart base two in
      let q3 : length three ≡ length bs = address-length ft A.toc base bs in
      let q2 : length two ≡ length three = address-length fe A.entry base three in
      let q1 : length one ≡ length two = address-length followed.Data A.dstart base two in
      let entry3 : field_in A.entry base three ≡ field_in A.entry base bs = address-other ft A.toc A.entry base bs refl in
      let dstart2 : field_in A.dstart base two ≡ field_in A.dstart base bs = address-other fe A.entry A.dstart base three refl ∙ address-other ft A.toc A.dstart base bs refl in
      let tstart1 : field_in A.tstart base one ≡ field_in A.tstart base bs = address-other followed.Data A.dstart A.tstart base two refl ∙ address-other fe A.entry A.tstart base three refl ∙ address-other ft A.toc A.tstart base bs refl in
      let toc : field_in A.toc base (aux_put Xcoff64 fe ft base bs) ≡ new ft (field_in A.toc base bs) =
      address-other followed.Text A.tstart A.toc base one refl ∙ address-other followed.Data A.dstart A.toc base two refl ∙ address-other fe A.entry A.toc base three refl
      ∙ address-own ft A.toc base bs (omega arith) nc (same-field A.toc (lit≤ tt) e) in
      let entry : field_in A.entry base (aux_put Xcoff64 fe ft base bs) ≡ new fe (field_in A.entry base bs) =
      address-other followed.Text A.tstart A.entry base one refl ∙ address-other followed.Data A.dstart A.entry base two refl
      ∙ address-own fe A.entry base three (omega arith) ne (same-field A.entry (lit≤ tt) e ∙ sym entry3) ∙ ap (new fe) entry3 in
      let dstart : field_in A.dstart base (aux_put Xcoff64 fe ft base bs) ≡ new followed.Data (field_in A.dstart base bs) =
      address-other followed.Text A.tstart A.dstart base one refl
      ∙ address-own followed.Data A.dstart base two (omega arith) nd (same-field A.dstart (lit≤ tt) e ∙ sym dstart2) ∙ ap (new followed.Data) dstart2 in
      let tstart : field_in A.tstart base (aux_put Xcoff64 fe ft base bs) ≡ new followed.Text (field_in A.tstart base bs) =
      address-own followed.Text A.tstart base one (omega arith) nt (same-field A.tstart (lit≤ tt) e ∙ sym tstart1) ∙ ap (new followed.Text) tstart1 in
      rw (
        tstart,
        dstart,
        entry,
        toc,
        aux-other Xcoff64 fe ft A.tsize base bs refl,
        aux-other Xcoff64 fe ft A.dsize base bs refl,
        aux-other Xcoff64 fe ft A.bsize base bs refl,
        aux-other Xcoff64 fe ft aux_numbers.snentry base bs refl,
        aux-other Xcoff64 fe ft aux_numbers.sntext base bs refl,
        aux-other Xcoff64 fe ft aux_numbers.sndata base bs refl,
        aux-other Xcoff64 fe ft aux_numbers.sntoc base bs refl,
        aux-other Xcoff64 fe ft aux_numbers.snloader base bs refl,
        aux-other Xcoff64 fe ft aux_numbers.snbss base bs refl,
      ) refl

  -- a loader symbol
  pub symbol-put : (fm : Format) (f : Followed) (base : ℕ) (bs : List ℕ) → base + loader_symbol_length ≤ length bs → Fresh new (address_limit fm) f → Same base loader_symbol_length file bs
      → symbol.entry_at fm base (put_address new file f (symbol_layout fm).value base bs) ≡ moved_entry new f (symbol.entry_at fm base bs)
  unfolding symbol.entry_at name_field
  symbol-put Xcoff32 f base bs h n e =
      let W = (symbol_layout Xcoff32).value in
      rw (
        address-own f W base bs (omega arith) n (same-field W (lit≤ tt) e),
        address-other f W (zeroes_field) base bs refl,
        address-other f W (symbol_layout Xcoff32).offset base bs refl,
        address-other f W (symbol_layout Xcoff32).scnum base bs refl,
        address-other f W (field 14 One) base bs refl,
        address-other f W (field 15 One) base bs refl,
        address-other f W (field 16 Four) base bs refl,
        address-other f W (field 20 Four) base bs refl,
      ) refl
  symbol-put Xcoff64 f base bs h n e =
      let W = (symbol_layout Xcoff64).value in
      rw (
        address-own f W base bs (omega arith) n (same-field W (lit≤ tt) e),
        address-other f W (symbol_layout Xcoff64).offset base bs refl,
        address-other f W (symbol_layout Xcoff64).scnum base bs refl,
        address-other f W (field 14 One) base bs refl,
        address-other f W (field 15 One) base bs refl,
        address-other f W (field 16 Four) base bs refl,
        address-other f W (field 20 Four) base bs refl,
      ) refl

  -- a relocation entry
  pub relocation-put : (fm : Format) (f : Followed) (base : ℕ) (bs : List ℕ) → base + (relocation_layout fm).length ≤ length bs → Fresh new (address_limit fm) f → Same base (relocation_layout fm).length file bs
      → relocation.entry_at fm base (put_address new file f (relocation_layout fm).address base bs) ≡ moved_relocation new f (relocation.entry_at fm base bs)
  unfolding relocation.entry_at
  relocation-put Xcoff32 f base bs h n e =
      let A = (relocation_layout Xcoff32).address in
      rw (
        address-own f A base bs (omega arith) n (same-field A (lit≤ tt) e),
        address-other f A (relocation_layout Xcoff32).symbol base bs refl,
        address-other f A (field 8 Two) base bs refl,
        address-other f A (field 10 Two) base bs refl,
      ) refl
  relocation-put Xcoff64 f base bs h n e =
      let A = (relocation_layout Xcoff64).address in
      rw (
        address-own f A base bs (omega arith) n (same-field A (lit≤ tt) e),
        address-other f A (relocation_layout Xcoff64).symbol base bs refl,
        address-other f A (field 8 Two) base bs refl,
        address-other f A (field 10 Two) base bs refl,
      ) refl
