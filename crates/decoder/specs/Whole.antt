-- Document 01, 'Whole-slice calls', decode whole: the answer, and what is written.
use Rattle.std.specs.Prelude.{ℕ, ◌+◌, ◌*◌, ◌/◌, ◌≤◌, ◌<◌, ◌≡◌, List, [], ◌||◌, ◌⊎◌, ltb, eqb, length, if◌then◌else◌}
use Rattle.std.proofs.lemmas.List.Edits.{sets}
use Rattle.lists.specs.Bytes.{plainly, fours}
use Rattle.standard.specs.declared.Context.{Context}
use Rattle.standard.specs.Answers.{done, ill_formed, nul, too_long, context_end, room_asked, longest_slice}
use Rattle.standard.specs.Errors.{numbers}
use Rattle.standard.specs.NameList.{builtin}
use Rattle.standard.specs.Reading.{Stop, stop_of, covered, Reading, reading, decode, text_bound, errors_bound}
use Rattle.decoder.specs.declared.whole.Decoded.{Decoded}

-- The room that a source of n bytes asks for: text bytes, and error numbers.
abbrev pub text_room_for : ℕ → ℕ
text_room_for n = text_bound n + 64

abbrev pub error_room_for : ℕ → ℕ
error_room_for n = 2 * errors_bound n + 8

-- Rooms of so many text bytes and error numbers are what a source asks for.
abbrev pub RoomFor : (source : List ℕ) (text errors : ℕ) → Type 0
RoomFor s text errors = (text_room_for (length s) ≤ text) × (error_room_for (length s) ≤ errors)

-- One of them is smaller.
abbrev pub NoRoomFor : (source : List ℕ) (text errors : ℕ) → Type 0
NoRoomFor s text errors = (text < text_room_for (length s)) ⊎ (errors < error_room_for (length s))

-- An answer, given its number, text bytes, errors and place.
abbrev pub decoded : (answer text errors place : ℕ) → Decoded
decoded answer text errors place = record { answer = answer; text = text; errors = errors; place = place }

-- The answer for a source, with rooms for so many text bytes and error numbers: 3, then 9, then why the source stops.
unfoldable pub answer_of : Context → List ℕ → (text errors : ℕ) → ℕ
answer_of context s text errors =
    if ltb longest_slice (length s) then too_long
    else if ltb text (text_room_for (length s)) || ltb errors (error_room_for (length s)) then room_asked
    else (stop_of context s).answer

-- What is written: the reading, where the answer is 0 or 7, and else nothing.
unfoldable pub written_of : Context → List ℕ → (text errors : ℕ) → Reading
written_of context s text errors =
    let answer : ℕ = answer_of context s text errors in
    if eqb answer done || eqb answer context_end then decode builtin context (covered context s) else reading [] []

-- The text bytes that are named: those asked for with 9, and else those written.
abbrev pub text_named : (answer : ℕ) → List ℕ → Reading → ℕ
text_named answer s written = if eqb answer room_asked then text_room_for (length s) else length written.text

-- The place that is named: where the source stops, with 1, 2 and 7.
abbrev pub place_named : (answer : ℕ) → Stop → ℕ
place_named answer stop = if eqb answer ill_formed || eqb answer nul || eqb answer context_end then stop.place else 0

-- The whole answer.
unfoldable pub decoded_of : Context → List ℕ → (text errors : ℕ) → Decoded
decoded_of context s text errors =
    let answer : ℕ = answer_of context s text errors in
    let written : Reading = written_of context s text errors in
    decoded answer (text_named answer s written) (length written.errors) (place_named answer (stop_of context s))

-- What a call gives for a source and two rooms, with room for so many error numbers, laid so: its result, and what the rooms then hold.
pub record DecodesBy {A : Type 0} (lay : List ℕ → List A) (room : ℕ) (context : Context) (source text : List ℕ) (errors : List A) (r : Decoded)
    (text' : List ℕ) (errors' : List A) : Type 0 where
  pub answered : r ≡ decoded_of context source (length text) room
  pub texts : text' ≡ sets text 0 (written_of context source (length text) room).text
  pub numbers_of : errors' ≡ sets errors 0 (lay (numbers (written_of context source (length text) room).errors))

-- With an error room of numbers.
abbrev pub Decodes : (context : Context) (source text errors : List ℕ) (r : Decoded) (text' errors' : List ℕ) → Type 0
Decodes context source text errors = DecodesBy plainly (length errors) context source text errors

-- With an error room of bytes, four a number: odd last bytes are no room.
abbrev pub DecodesBytes : (context : Context) (source text errors : List ℕ) (r : Decoded) (text' errors' : List ℕ) → Type 0
DecodesBytes context source text errors = DecodesBy fours (length errors / 4) context source text errors
