-- What is counted, and what is written, on the walk from the front of an input to `at`.
use Prim.Native.Nat.{ℕ, ◌+◌, ◌-◌, ◌≤◌}
use mathlib.Core.Path.{◌≡◌, refl, sym, ◌∙◌, ap}
use mathlib.Core.List.{List, ◌++◌}
use native.Mathlib.Omega.{arith}
use lib.ListN.{length, take, drop, length-append, drop_of_length-le}
use lib.Seq.{sets}
use Rattle.lists.specs.Rooms.{Put}
use Rattle.lists.proofs.Puts.{sets-append, put_length, put_join}
use Rattle.standard.specs.Answers.{done}
use Rattle.rooms.proofs.Fits.{copy_fits}
use Rattle.escaper.specs.declared.Mode.{Mode}
use Rattle.escaper.specs.Escape.{escape_from, escape, escape_stop}
use Rattle.escaper.specs.Walk.{Sound, Moves}

-- The result of the whole input is count bytes longer than that of the rest.
pub record Counted (mode : Mode) (s : List ℕ) (at count : ℕ) : Type 0 where
  pub sound : Sound s at
  pub all : length (escape mode s) ≡ count + length (escape mode (drop at s))

-- At the front nothing is counted.
pub counted_none : (mode : Mode) (s : List ℕ) → (escape_stop s).answer ≡ done → Counted mode s 0 0
counted_none mode s h = record { sound = record { there = omega arith; well_formed = h }; all = omega arith }

-- The text of a move is counted, in two parts.
pub counted-on : {mode : Mode} {s : List ℕ} {at count next : ℕ} (u v : List ℕ) → Counted mode s at count → Moves mode s at (u ++ v) next
    → Counted mode s next (count + (length u + length v))
counted-on u v h m = record { sound = m.sound; all = omega (arith, h.all, simp length-append at (ap length m.written)) }

-- At the end all is counted.
pub counted-end : {mode : Mode} {s : List ℕ} {at count : ℕ} → length s ≤ at → Counted mode s at count → count ≡ length (escape mode s)
unfolding escape_from
counted-end {s = s} l h = sym (h.all ∙ rw (drop_of_length-le s l) (omega arith))

-- With the result of the rest the room will hold the whole result.
pub record Written (mode : Mode) (s old : List ℕ) (at : ℕ) (new : List ℕ) (end : ℕ) : Type 0 where
  pub counted : Counted mode s at end
  pub same : sets old 0 (escape mode s) ≡ sets new end (escape mode (drop at s))
  pub kept : length new ≡ length old

-- At the front nothing is written.
pub written_none : (mode : Mode) (s old : List ℕ) → (escape_stop s).answer ≡ done → Written mode s old 0 old 0
written_none mode s old h = record { counted = counted_none mode s h; same = refl; kept = refl }

-- The text of a move is written where the whole result fits, in two parts.
pub written_on : {mode : Mode} {s old new mid after : List ℕ} {at next end m last : ℕ} (u v : List ℕ) → length (escape mode s) ≤ length old
    → Written mode s old at new end → Moves mode s at (u ++ v) next → Put new end (take (length new - end) u) mid m
    → Put mid m (take (length mid - m) v) after last → Written mode s old next after last
written_on {mode} {s} {old} {new} {mid} {after} {at} {next} {end} {m} {last} u v room h w p q =
    let c = counted-on u v h.counted w in
    let fits : end + (length u + length v) ≤ length old = omega (arith, c.all) in
    let a = copy_fits {from = u} (omega (arith, fits, h.kept)) p in
    let b = copy_fits {from = v} (omega (arith, fits, h.kept, put_length a, a.next_is)) q in
    let whole = put_join a b in
    record {
      counted = rw (whole.next_is, length-append) c;
      same = h.same ∙ rw (w.written, sets-append new end (u ++ v), whole.new_is, whole.next_is) refl;
      kept = put_length whole ∙ h.kept;
    }

-- At the end all is written.
pub written-end : {mode : Mode} {s old new : List ℕ} {at end : ℕ} → length s ≤ at → Written mode s old at new end → Put old 0 (escape mode s) new end
unfolding escape_from
written-end {mode} {s} {old} {new} {at} {end} l h =
    record { next_is = omega (arith, counted-end l h.counted); new_is = sym (h.same ∙ rw (drop_of_length-le s l) refl) }
