-- What a walk of the code over bytes comes to, as the definition's walk does.
use Rattle.std.specs.Prelude.{
  ℕ,
  suc,
  ◌+◌,
  ◌-◌,
  ◌*◌,
  ◌≤◌,
  ◌≡◌,
  List,
  [],
  ◌∷◌,
  ◌++◌,
  true,
  not,
  eqb,
  ltb,
  length,
  take,
  drop,
  if◌then◌else◌,
  Option,
  Some,
  None,
}
use Rattle.standard.specs.declared.Context.{Context}
use Rattle.standard.specs.Utf8.{read_char}
use Rattle.standard.specs.Answers.{done, too_long, stream_too_long, no_room, closed, longest_slice, longest_stream}
use Rattle.standard.specs.Names.{Name}
use Rattle.standard.specs.NameList.{builtin}
use Rattle.standard.specs.Reading.{calls_for, Reading}
use Rattle.decoder.specs.Writing.{Wrote}
use Rattle.decoder.specs.declared.feeding.Walked.{Walked}
use Rattle.decoder.specs.declared.stream.Stream.{Stream}
use Rattle.decoder.specs.Machine.{Step, step}
use Rattle.decoder.specs.Stream as spec
use Rattle.decoder.specs.Turns.{Fits}

-- Why a chunk of so many bytes is refused, if it is: by the record, and how much room there is.
unfoldable pub refusal_of : List Name → Stream → (chunk text errors : ℕ) → Option ℕ
refusal_of names r chunk text errors =
    if not (spec.is_open names r) then Some closed
    else if ltb longest_slice chunk then Some too_long
    else if ltb longest_stream (r.taken + chunk) then Some stream_too_long
    else if spec.lacks_room text errors then Some no_room
    else None

-- Where an open stream can be.
pub record OpenAt (at : spec.At) : Type 0 where
  pub fits : Fits at.st
  pub few : length at.part ≤ 3
  pub begun : spec.is_part (read_char at.part) ≡ true
  pub there : length at.part ≤ at.taken

-- The record of an open stream with nothing past its counts.
pub record Open (r : Stream) : Type 0 where
  pub whole : r ≡ spec.record_of r.context (spec.at_of r)
  pub at : OpenAt (spec.at_of r)

-- A character c that is whole with the next byte, with its own bytes.
unfoldable pub char_walk : List Name → Context → spec.At → ℕ → List ℕ → spec.Walked
char_walk names context at c own =
    let t : Step = step names context at.st (spec.place_of at) c own in
    if not (eqb (calls_for context c) done)
    then spec.stops_at (calls_for context c) (spec.last_of names context (calls_for context c) at.st) at
    else spec.stops_at done t.gives (spec.at_by t.next [] (suc at.taken))

-- The next byte.
unfoldable pub byte_walk : List Name → Context → spec.At → ℕ → spec.Walked
byte_walk names context at b =
    let own : List ℕ = at.part ++ b ∷ [] in
    let answer : ℕ = spec.called_for context (read_char own) in
    let m : spec.Move = spec.move_by names context at (read_char own) own in
    if not (eqb answer done) then spec.stops_at answer (spec.last_of names context answer at.st) at
    else spec.stops_at done m.gives m.to

-- The answer, the record of where the walk ended, and what was written from w and e on.
pub record Walks (context : Context) (walk : spec.Walked) (text : List ℕ) (w : ℕ) (errors : List ℕ) (e : ℕ) (r : Walked) (text' errors' : List ℕ)
    : Type 0 where
  pub answered : r.answer ≡ walk.answer
  pub recorded : r.«record» ≡ spec.record_of context walk.stop
  pub wrote : Wrote walk.gives text w text' r.ends.text errors e errors' r.ends.errors

-- What the numbers of a walk over n bytes are bounded by.
pub record Bounded (start : Stream) (n : ℕ) (r : Walked) : Type 0 where
  pub text_few : r.ends.text ≤ 64 * n
  pub errors_few : r.ends.errors ≤ 8 * n
  pub onward : start.taken ≤ r.«record».taken
  pub there : r.«record».part_count ≤ r.«record».taken

-- A walk from a record over the bytes of s from `from` to at took all of them, and what it gave was written.
pub record Moves (r : Stream) (s : List ℕ) (from : ℕ) (text : List ℕ) (w : ℕ) (errors : List ℕ) (e : ℕ) (r' : Stream) (at : ℕ) (text' : List ℕ)
    (w' : ℕ)
    (errors' : List ℕ) (e' : ℕ) : Type 0 where
  pub onward : from ≤ at
  pub there : at ≤ length s
  pub here : spec.At
  pub gives : Reading
  pub walked : spec.walk builtin r.context (length text - w) (length errors - e) (spec.at_of r) (take (at - from) (drop from s))
      ≡ spec.stops_at done gives here
  pub opened : OpenAt here
  pub taken_is : here.taken ≡ r.taken + (at - from)
  pub recorded : r' ≡ spec.record_of r.context here
  pub wrote : Wrote gives text w text' w' errors e errors' e'
  pub text_in : w' ≤ length text'
  pub errors_in : e' ≤ length errors'
  pub text_few : w' ≤ w + 64 * (at - from)
  pub errors_few : e' ≤ e + 8 * (at - from)
