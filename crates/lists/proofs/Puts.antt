-- Laws of writing into a room: what two writers one after the other write is what one would.
use Prim.Native.Nat.{ℕ, suc, ◌+◌, ◌≤◌}
use mathlib.Core.Path.{◌≡◌, refl, sym, ◌∙◌, ap}
use mathlib.Core.List.{List, [], ◌∷◌, ◌++◌}
use native.Mathlib.Omega.{arith}
use lib.ListN.{length, take, drop, set, length-append}
use lib.Seq.{sets, length-sets, sets-eq, take_at}
use Rattle.lists.specs.Rooms.{Put}

-- Joined values are written one after the other.
pub sets-append : {A : Type 0} (l : List A) (i : ℕ) (u v : List A) → sets l i (u ++ v) ≡ sets (sets l i u) (i + length u) v
sets-append l i [] v = ap (λ (n : ℕ). sets l n v) (let e : i ≡ i + 0 = omega arith in e)
sets-append l i (a ∷ u) v =
    sets-append (set l i a) (suc i) u v
    ∙ ap (λ (n : ℕ). sets (sets (set l i a) (suc i) u) n v) (let e : suc i + length u ≡ i + suc (length u) = omega arith in e)

-- Nothing is written.
pub put_none : {A : Type 0} (old : List A) (at : ℕ) → Put old at [] old at
put_none old at = record { next_is = omega arith; new_is = refl }

-- Two writers.
pub put_join : {A : Type 0} {old mid new : List A} {at m next : ℕ} {u v : List A}
    → Put old at u mid m → Put mid m v new next → Put old at (u ++ v) new next
put_join {old = old} {mid} {new} {at} {m} {next} {u} {v} a b = record {
  next_is = simp length-append (omega (arith, a.next_is, b.next_is));
  new_is = b.new_is ∙ rw (a.new_is, a.next_is) (sym (sets-append old at u v));
}

-- Writing leaves the room's length.
pub put_length : {A : Type 0} {old new : List A} {at next : ℕ} {u : List A} → Put old at u new next → length new ≡ length old
put_length {old = old} {new} {at} {next} {u} a = ap length a.new_is ∙ length-sets old at u

-- Values that fit a room stand at its start, and after them it is as it was.
pub sets-front : {A : Type 0} (room values : List A) → length values ≤ length room → sets room 0 values ≡ values ++ drop (length values) room
sets-front room values h =
    let none : 0 + length values ≡ length values = omega arith in
    sets-eq values room 0 (omega arith) ∙ ap (λ (n : ℕ). values ++ drop n room) none

-- As many as were written are taken from there again.
pub take-written : {A : Type 0} (room values : List A) (n : ℕ) → length values ≡ n → length values ≤ length room
    → take n (sets room 0 values) ≡ values
take-written room values n e h = rw (sets-front room values h) (take_at values (drop (length values) room) n e)
