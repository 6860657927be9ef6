-- The answer for each way through `escape`: 3, 1, 9 and 0.
use Prim.Native.Nat.{ℕ, ◌≤◌, ◌<◌}
use mathlib.Core.Path.{◌≡◌, refl}
use mathlib.Core.List.{List, []}
use mathlib.Core.Logic.{◌⊎◌, inl, inr}
use lib.ListN.{length}
use borrow.Author.Tests.{lt-ltb, le-ltb, eq-eqb, ne_eqb}
use Rattle.standard.specs.declared.characters.CharRead.{CharRead}
use Rattle.standard.specs.declared.characters.CharRead.TheVariants.{Char, Incomplete, Illformed, End}
use Rattle.standard.specs.Answers.{done, ill_formed, too_long, room_asked}
use Rattle.standard.specs.Reading.{answer_to}
use Rattle.standard.proofs.Stops.{stop_cases}
use Rattle.escaper.specs.declared.Mode.{Mode}
use Rattle.escaper.specs.declared.Escaped.{Escaped}
use Rattle.escaper.specs.Escape.{escape, escape_stop, escape_answer, escape_written, escaped, escaped_of}

-- An input stops at its end or at a fault.
pub stops_with : (s : List ℕ) → ((escape_stop s).answer ≡ done) ⊎ ((escape_stop s).answer ≡ ill_formed)
stops_with s = stop_cases (λ (a : ℕ). (a ≡ done) ⊎ (a ≡ ill_formed)) (λ c. done) (inl refl) called 0 0 s
  where
    called : (r : CharRead) → (answer_to (λ c. done) r ≡ done) ⊎ (answer_to (λ c. done) r ≡ ill_formed)
    called (Char c n) = inl refl
    called (Incomplete n) = inr refl
    called (Illformed n) = inr refl
    called End = inl refl

-- The answer, and what is written.
abbrev Answered : Mode → List ℕ → ℕ → Escaped → List ℕ → Type 0
Answered mode s room r written = (r ≡ escaped_of mode s room) × (written ≡ escape_written mode s room)

module _ (mode : Mode) (s : List ℕ) (room : ℕ) where
  -- The input is too long.
  pub answer_long : 65536 < length s → Answered mode s room (escaped too_long 0 0) []
  unfolding escape_answer escape_written escaped_of
  answer_long h = rw (lt-ltb 65536 (length s) h) (refl, refl)

  module _ (short : length s ≤ 65536) where
    -- The input has a fault.
    pub answer_fault : (escape_stop s).answer ≡ ill_formed → Answered mode s room (escaped ill_formed 0 (escape_stop s).place) []
    unfolding escape_answer escape_written escaped_of
    answer_fault e = rw (le-ltb 65536 (length s) short, eq-eqb (escape_stop s).answer ill_formed e) (refl, refl)

    module _ (sound : (escape_stop s).answer ≡ ill_formed → ⊥) where
      -- The result doesn't fit.
      pub answer_room : room < length (escape mode s) → Answered mode s room (escaped room_asked (length (escape mode s)) 0) []
      unfolding escape_answer escape_written escaped_of
      answer_room h =
          rw (le-ltb 65536 (length s) short, ne_eqb (escape_stop s).answer ill_formed sound, lt-ltb room (length (escape mode s)) h) (refl, refl)

      -- The result is written.
      pub answer_done : length (escape mode s) ≤ room → Answered mode s room (escaped done (length (escape mode s)) 0) (escape mode s)
      unfolding escape_answer escape_written escaped_of
      answer_done h =
          rw (le-ltb 65536 (length s) short, ne_eqb (escape_stop s).answer ill_formed sound, le-ltb room (length (escape mode s)) h) (refl, refl)
