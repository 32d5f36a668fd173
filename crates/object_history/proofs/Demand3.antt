-- Demand 3 for object files: after every list of builds and moves, refused calls included, the buffer is the book's image.
use mathlib.Core.Path.{◌≡◌, sym}
use mathlib.Core.List.{List, [], ◌∷◌}
use Prim.Native.Nat.{ℕ}
use lib.ListN.{length}
use Rattle.refusal.specs.declared.RoomItem.TheVariants.{ObjectBuffer}
use Rattle.refusal.specs.declared.Refusal.TheVariants as refusal
use Rattle.refusal.proofs.Order.{accepted-first, accepted-rest, accepted-equal}
use Rattle.book.specs.Entries.{All}
use Rattle.book.proofs.Book.{Lawful}
use Rattle.book.proofs.Book as book
use Rattle.object_history.specs.declared.ObjectEntry.{ObjectEntry}
use Rattle.object_history.specs.Entry.{Inside}
use Rattle.object_history.specs.Object.{Object, Plan, Sound, displacements, differences, list_check, fit_check}
use Rattle.object_history.specs.Call.{Call, build, move, room_check, range_check, call_check, machine_of, Accepts, run}
use Rattle.object_history.specs.Book.{book_after, book_images}
use Rattle.object_history.proofs.Entry.{apply_all-add, apply_all-length}
use Rattle.std.specs.Prelude.{Ok}

-- ---- an accepted call passed each of its checks

pub record BuildAccepted (o : Object) (len : ℕ) (p : Plan) : Type 0 where
  pub file-accepted : o.verdict ≡ Ok tt
  pub plan-listed : list_check o p ≡ Ok tt
  pub plan-fits : fit_check o p ≡ Ok tt
  pub room : room_check o len ≡ Ok tt
  pub range : range_check o (displacements o p) o.raw ≡ Ok tt

pub build-parts : (o : Object) (len : ℕ) (x : List ℕ) (p : Plan) → call_check o len x (build p) ≡ Ok tt → BuildAccepted o len p
unfolding call_check
build-parts o len x p e =
    let a = accepted-rest o.verdict _ e in
    let b = accepted-rest (list_check o p) _ a in
    let c = accepted-rest (fit_check o p) _ b in
    record {
      file-accepted = accepted-first _ _ e;
      plan-listed = accepted-first _ _ a;
      plan-fits = accepted-first _ _ b;
      room = accepted-first _ _ c;
      range = accepted-rest (room_check o len) _ c;
    }

pub record MoveAccepted (o : Object) (len : ℕ) (x : List ℕ) (p q : Plan) : Type 0 where
  pub file-accepted : o.verdict ≡ Ok tt
  pub from-listed : list_check o p ≡ Ok tt
  pub to-listed : list_check o q ≡ Ok tt
  pub from-fits : fit_check o p ≡ Ok tt
  pub to-fits : fit_check o q ≡ Ok tt
  pub room : room_check o len ≡ Ok tt
  pub range : range_check o (differences o p q) x ≡ Ok tt

pub move-parts : (o : Object) (len : ℕ) (x : List ℕ) (p q : Plan) → call_check o len x (move p q) ≡ Ok tt → MoveAccepted o len x p q
unfolding call_check
move-parts o len x p q e =
    let a = accepted-rest o.verdict _ e in
    let b = accepted-rest (list_check o p) _ a in
    let c = accepted-rest (list_check o q) _ b in
    let d = accepted-rest (fit_check o p) _ c in
    let f = accepted-rest (fit_check o q) _ d in
    record {
      file-accepted = accepted-first _ _ e;
      from-listed = accepted-first _ _ a;
      to-listed = accepted-first _ _ b;
      from-fits = accepted-first _ _ c;
      to-fits = accepted-first _ _ d;
      room = accepted-first _ _ f;
      range = accepted-rest (room_check o len) _ f;
    }

-- ROOM 0: the buffer of an accepted call is as long as the raw bytes
room-accepted : (o : Object) (len : ℕ) (x : List ℕ) (c : Call) → call_check o len x c ≡ Ok tt → room_check o len ≡ Ok tt
room-accepted o len x (build p) e = (build-parts o len x p e).room
room-accepted o len x (move p q) e = (move-parts o len x p q e).room

pub accepted-length : (o : Object) (x : List ℕ) (c : Call) → Accepts o x c → length x ≡ length o.raw
unfolding room_check
accepted-length o x c e = accepted-equal (length x) (length o.raw) (refusal.Room ObjectBuffer) (room-accepted o (length x) x c e)

-- fields are inside any buffer of the same length
pub inside-length : (es : List ObjectEntry) (x y : List ℕ) → length x ≡ length y → All (Inside x) es → All (Inside y) es
inside-length [] x y h i = tt
inside-length (e ∷ es) x y h i = (rw h at i.0, inside-length es x y h i.1)

-- a sound file meets what the theorem of the book asks of a machine
pub object-lawful : (o : Object) → Sound o → Lawful (machine_of o)
object-lawful o sound =
    record {
      lengths = record { room = λ x c e. accepted-length o x c e; keeps = λ s x. apply_all-length o.entries s x };
      adds = λ s t x e. apply_all-add o.entries s t x (inside-length o.entries o.raw x (sym e) sound.inside) sound.pairwise;
    }

-- "Demand 3 holds here too, for an object file, its one buffer and the entries above."
pub demand-3 : (o : Object) → Sound o → (cs : List Call) (x : List ℕ) → run o cs x ≡ book_images o (book_after o cs x)
unfolding run book_images book_after
demand-3 o sound cs x = book.book (machine_of o) (object-lawful o sound) cs x

-- "RANGE is a refusal like any other, judged in a move from the book's images": what the operation answers from the buffer the book answers from its images
pub same-verdict : (o : Object) → Sound o → (cs : List Call) (c : Call) (x : List ℕ)
    → call_check o (length (run o cs x)) (run o cs x) c ≡ call_check o (length x) (book_images o (book_after o cs x)) c
unfolding run book_images book_after
same-verdict o sound cs c x = book.same-verdict (machine_of o) (object-lawful o sound) cs c x

-- a file with no entries, as a refused one is, is sound
pub no-entries-sound : (o : Object) → o.entries ≡ [] → Sound o
no-entries-sound o e = record { inside = rw e tt; pairwise = rw e tt }
