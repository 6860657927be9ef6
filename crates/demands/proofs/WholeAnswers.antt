-- Demand 1 for whole sources: for each line of the table of answers, when `decode_whole` and `decode_bytes` give it, and what then holds.
-- r, text' and errors' are whatever meets their contract for a source and two rooms, with room for so many error numbers: for `decode_whole` these
-- are laid plainly and room is the error room's length, for `decode_bytes` they are laid in fours and room is a quarter of it.
use Prim.Native.Nat.{ℕ, ◌+◌, ◌≤◌, ◌<◌}
use mathlib.Core.Path.{◌≡◌, refl, ◌∙◌}
use mathlib.Core.List.{List, []}
use mathlib.Core.Logic.{◌⊎◌}
use native.Mathlib.Omega.{arith}
use lib.ListN.{length}
use lib.Seq.{sets}
use Rattle.lists.specs.Layings.{Laying}
use Rattle.standard.specs.declared.Context.{Context}
use Rattle.standard.specs.Answers.{done, ill_formed, nul, too_long, context_end, room_asked}
use Rattle.standard.specs.Errors.{numbers}
use Rattle.standard.specs.NameList.{builtin}
use Rattle.standard.specs.Reading.{stop_of, covered, Reading, reading, decode}
use Rattle.decoder.specs.declared.whole.Decoded.{Decoded}
use Rattle.decoder.specs.Whole.{RoomFor, NoRoomFor, decoded, answer_of, text_named, place_named, DecodesBy}
use Rattle.decoder.proofs.Answering.{
  written_with,
  answers_too_long,
  answers_asked,
  stops_so,
  answered_for,
  one_of_six,
  stopped_for,
  answer_says,
  answer_is,
}
use Rattle.standard.proofs.Stops.{OneOf}
use Rattle.demands.proofs.Lines.{Line, line-by}

module _ {width : ℕ} {lay : List ℕ → List ℕ} (laid : Laying width lay) (room : ℕ) (context : Context) (s text errors : List ℕ) (r : Decoded)
    (text' errors' : List ℕ) (d : DecodesBy lay room context s text errors r text' errors') where
  -- The source is not too long, has its room, and stops with an answer.
  abbrev Stops : ℕ → Type 0
  Stops answer = (length s ≤ 65536) × RoomFor s (length text) room × ((stop_of context s).answer ≡ answer)

  -- The result, and rooms that nothing was written to.
  abbrev Refused : (answer asked place : ℕ) → Type 0
  Refused answer asked place = (r ≡ decoded answer asked 0 place) × (text' ≡ text) × (errors' ≡ errors)

  -- The standard's reading of the covered part.
  abbrev whole : Reading
  whole = decode builtin context (covered context s)

  -- The result, and rooms with the reading at their start.
  abbrev Read : (answer place : ℕ) → Type 0
  Read answer place =
      (r ≡ decoded answer (length whole.text) (length whole.errors) place)
      × (text' ≡ sets text 0 whole.text) × (errors' ≡ sets errors 0 (lay (numbers whole.errors)))

  -- The answer by its definition.
  abbrev answer : ℕ
  answer = answer_of context s (length text) room

  is : r.answer ≡ answer
  is = answer_is room context s text errors d

  -- An answer with which nothing is written.
  unwritten : (a : ℕ) → answer ≡ a → written_with context s a ≡ reading [] []
      → (r ≡ decoded a (text_named a s (reading [] [])) 0 (place_named a (stop_of context s))) × (text' ≡ text) × (errors' ≡ errors)
  unfolding numbers
  unwritten a e none = let k = rw none at (answer_says room context s text errors a e d) in (k.0, k.1, rw laid.none at k.2)

  -- A line of a source that stops.
  stop_line : (n : ℕ) (then : Type 0) → (n ≡ too_long → ⊥) → (n ≡ room_asked → ⊥) → (answer ≡ n → then) → Line r.answer n (Stops n) then
  stop_line n then x y so =
      line-by answer n (Stops n) then is (λ w. stops_so context s (length text) room w.0 w.1 ∙ w.2)
      (λ e. stopped_for context s (length text) room n e x y) so

  pub line_3 : Line r.answer too_long (65536 < length s) (Refused too_long 0 0)
  line_3 = line-by answer too_long _ _ is (answers_too_long context s (length text) room) (answered_for context s (length text) room).0
      (λ e. unwritten 3 e refl)

  pub line_9 : Line r.answer room_asked ((length s ≤ 65536) × NoRoomFor s (length text) room) (Refused room_asked (length s + 64) 0)
  line_9 =
      line-by answer room_asked _ _ is (λ w. answers_asked context s (length text) room w.0 w.1)
      (answered_for context s (length text) room).1 (λ e. unwritten 9 e refl)

  pub line_1 : Line r.answer ill_formed (Stops ill_formed) (Refused ill_formed 0 (stop_of context s).place)
  line_1 = stop_line ill_formed _ (λ e. omega arith) (λ e. omega arith) (λ e. unwritten 1 e refl)

  pub line_2 : Line r.answer nul (Stops nul) (Refused nul 0 (stop_of context s).place)
  line_2 = stop_line nul _ (λ e. omega arith) (λ e. omega arith) (λ e. unwritten 2 e refl)

  pub line_0 : Line r.answer done (Stops done) (Read done 0)
  line_0 = stop_line done _ (λ e. omega arith) (λ e. omega arith) (λ e. answer_says room context s text errors 0 e d)

  pub line_7 : Line r.answer context_end (Stops context_end) (Read context_end (stop_of context s).place)
  line_7 = stop_line context_end _ (λ e. omega arith) (λ e. omega arith) (λ e. answer_says room context s text errors 7 e d)

  -- No other answer is given.
  pub no_other : (r.answer ≡ too_long) ⊎ ((r.answer ≡ room_asked) ⊎ OneOf r.answer)
  no_other = rw is (one_of_six context s (length text) room)
