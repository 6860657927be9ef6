-- Document 01, 'The chunk decoder': the record, what counts as closed, the answers and their order, and what a call gives.
use Rattle.std.specs.Prelude.{
  ℕ,
  suc,
  ◌+◌,
  ◌-◌,
  ◌*◌,
  min,
  ◌≡◌,
  List,
  [],
  ◌∷◌,
  ◌++◌,
  Bool,
  true,
  false,
  not,
  ◌||◌,
  ◌&&◌,
  ltb,
  leb,
  eqb,
  length,
  get_or,
  take,
  drop,
  replicate,
  if◌then◌else◌,
}
use Prim.Native.Char.{code}
use Rattle.std.proofs.lemmas.List.Edits.{sets}
use Rattle.standard.specs.declared.Context.{Context}
use Rattle.standard.specs.declared.characters.CharRead.{CharRead}
use Rattle.standard.specs.declared.characters.CharRead.TheVariants.{Char, Incomplete, Illformed, End}
use Rattle.standard.specs.Utf8.{read_char}
use Rattle.standard.specs.Answers.{
  done,
  ill_formed,
  nul,
  too_long,
  stream_too_long,
  no_room,
  room_used_up,
  context_end,
  closed,
  longest_slice,
  longest_stream,
}
use Rattle.standard.specs.Errors.{numbers}
use Rattle.standard.specs.Names.{Name, stands}
use Rattle.standard.specs.Reading.{calls_for, Reading, ◌⊕◌}
use Rattle.decoder.specs.declared.stream.State.{State}
use Rattle.decoder.specs.declared.stream.State.TheVariants as kind
use Rattle.decoder.specs.declared.stream.Held.{Held}
use Rattle.decoder.specs.declared.stream.Stream.{Stream}
use Rattle.decoder.specs.declared.stream.Fed.{Fed}
use Rattle.decoder.specs.Held.{held_name}
use Rattle.decoder.specs.Machine.{
  St,
  Data,
  AfterCr,
  Begin,
  Octothorpe,
  HexBegin,
  Numeric,
  Named,
  BogusName,
  Step,
  nothing,
  step,
  finish,
}

-- The room that is asked for before a byte: text bytes, and error numbers.
abbrev pub text_room : ℕ
text_room = 64

abbrev pub errors_room : ℕ
errors_room = 8

-- They are not free.
abbrev pub lacks_room : (text errors : ℕ) → Bool
lacks_room text errors = ltb text text_room || ltb errors errors_room

-- Where an open stream is: what is held, the bytes of an incomplete character, and how many bytes were taken.
pub record At : Type 0 where
  pub st : St
  pub part : List ℕ
  pub taken : ℕ

-- Where a stream is, given the three.
abbrev pub at_by : St → List ℕ → ℕ → At
at_by st part taken = record { st = st; part = part; taken = taken }

-- The place of the character that the next byte is of.
abbrev pub place_of : At → ℕ
place_of at = at.taken - length at.part

-- The answer that the bytes of a character so far call for: as in a whole source, but that more bytes may come.
abbrev pub called_for : Context → CharRead → ℕ
called_for context (Char c n) = calls_for context c
called_for context (Incomplete n) = done
called_for context (Illformed n) = ill_formed
called_for context End = done

-- One byte more: what is released, and where the stream then is.
pub record Move : Type 0 where
  pub gives : Reading
  pub to : At

-- A move, given both.
abbrev pub moves : Reading → At → Move
moves gives to = record { gives = gives; to = to }

-- A byte that is taken: a character that is whole is a step of the machine.
abbrev pub move_by : List Name → Context → At → CharRead → List ℕ → Move
move_by names context at (Char c n) own =
    let t : Step = step names context at.st (place_of at) c own in moves t.gives (at_by t.next [] (suc at.taken))
move_by names context at (Incomplete n) own = moves nothing (at_by at.st own (suc at.taken))
move_by names context at (Illformed n) own = moves nothing at
move_by names context at End own = moves nothing at

-- What a walk over bytes comes to: its answer, what was released, and where it ended.
pub record Walked : Type 0 where
  pub answer : ℕ
  pub gives : Reading
  pub stop : At

-- A walk's end, given the three.
abbrev pub stops_at : ℕ → Reading → At → Walked
stops_at answer gives stop = record { answer = answer; gives = gives; stop = stop }

-- A walk, with what was given before it.
abbrev pub onward : Reading → Walked → Walked
onward before w = stops_at w.answer (before ⊕ w.gives) w.stop

-- What is still written where an answer closes the stream: all that is held, at the context's end.
abbrev pub last_of : List Name → Context → ℕ → St → Reading
last_of names context answer st = if eqb answer context_end then finish names context st else nothing

-- The bytes of a chunk, with so much room free: at each byte 6, then 1, 2 or 7, and else it is taken.
unfoldable pub walk : List Name → Context → (text errors : ℕ) → At → List ℕ → Walked
walk names context text errors at [] = stops_at done nothing at
walk names context text errors at (b ∷ s) =
    let own : List ℕ = at.part ++ b ∷ [] in
    let answer : ℕ = called_for context (read_char own) in
    let m : Move = move_by names context at (read_char own) own in
    if lacks_room text errors then stops_at room_used_up nothing at
    else if not (eqb answer done) then stops_at answer (last_of names context answer at.st) at
    else onward m.gives (walk names context (text - length m.gives.text) (errors - 2 * length m.gives.errors) m.to s)

-- A list with zeros after it, up to n elements.
abbrev pub padded : ℕ → List ℕ → List ℕ
padded n l = l ++ replicate (n - length l) 0

-- The store of a state: the bytes that are held, but for digits.
unfoldable pub store_of : St → List ℕ
store_of Data = []
store_of AfterCr = []
store_of (Begin q) = code "&" ∷ []
store_of (Octothorpe q) = code "&" ∷ code "#" ∷ []
store_of (HexBegin q letter) = code "&" ∷ code "#" ∷ letter ∷ []
store_of (Numeric q intro base value) = intro
store_of (Named q held) = code "&" ∷ held
store_of (BogusName q) = []

-- The place of its `&`.
unfoldable pub mark_of : St → ℕ
mark_of Data = 0
mark_of AfterCr = 0
mark_of (Begin q) = q
mark_of (Octothorpe q) = q
mark_of (HexBegin q letter) = q
mark_of (Numeric q intro base value) = q
mark_of (Named q held) = q
mark_of (BogusName q) = q

-- Its case in the record.
unfoldable pub kind_of : St → State
kind_of Data = kind.Data
kind_of AfterCr = kind.AfterCr
kind_of (Begin q) = kind.Begin
kind_of (Octothorpe q) = kind.Octothorpe
kind_of (HexBegin q letter) = kind.HexBegin
kind_of (Numeric q intro base value) = kind.Numeric base value
kind_of (Named q held) = kind.Named
kind_of (BogusName q) = kind.BogusName

-- What is held, as the record has it: nothing past a count.
unfoldable pub held_of : St → Held
held_of st =
    record { state = kind_of st; place = mark_of st; store = padded 32 (store_of st); count = length (store_of st) }

-- The record of an open stream.
unfoldable pub record_of : Context → At → Stream
record_of context at = record {
  context = context;
  held = held_of at.st;
  part = padded 3 at.part;
  part_count = length at.part;
  taken = at.taken;
}

-- A stream that closes keeps its context and taken count; all else is as when nothing is held.
unfoldable pub closed_by : Context → ℕ → Stream
closed_by context taken = record {
  context = context;
  held = record { state = kind.Closed; place = 0; store = replicate 32 0; count = 0 };
  part = replicate 3 0;
  part_count = 0;
  taken = taken;
}

-- The state that a case, a place and a store stand for.
unfoldable pub st_by : State → ℕ → List ℕ → St
st_by kind.Data q store = Data
st_by kind.AfterCr q store = AfterCr
st_by kind.Begin q store = Begin q
st_by kind.Octothorpe q store = Octothorpe q
st_by kind.HexBegin q store = HexBegin q (get_or store 2 0)
st_by (kind.Numeric base value) q store = Numeric q store base (min value 0x110000)
st_by kind.Named q store = Named q (drop 1 store)
st_by kind.BogusName q store = BogusName q
st_by kind.Closed q store = Data

-- The state of the machine that is held.
abbrev pub st_of : Held → St
st_of h = st_by h.state h.place (take h.count h.store)

-- Where a record's stream is.
abbrev pub at_of : Stream → At
at_of r = at_by (st_of r.held) (take r.part_count r.part) r.taken

-- Two lists are the same.
abbrev pub same : List ℕ → List ℕ → Bool
same s t = eqb (length s) (length t) && stands s t

-- `&#x` or `&#X`.
abbrev pub is_hex_intro : List ℕ → Bool
is_hex_intro s = same s (code "&" ∷ code "#" ∷ code "x" ∷ []) || same s (code "&" ∷ code "#" ∷ code "X" ∷ [])

-- `&` and a nonempty beginning of some name that isn't itself a name ending in `;`.
abbrev pub is_name_store : List Name → List ℕ → Bool
is_name_store names [] = false
is_name_store names (c ∷ s) = eqb c (code "&") && ltb 0 (length s) && held_name names s

-- The store is what the state says.
unfoldable pub holds : List Name → State → List ℕ → Bool
holds names kind.Data store = eqb (length store) 0
holds names kind.AfterCr store = eqb (length store) 0
holds names kind.Begin store = same store (code "&" ∷ [])
holds names kind.Octothorpe store = same store (code "&" ∷ code "#" ∷ [])
holds names kind.HexBegin store = is_hex_intro store
holds names (kind.Numeric base value) store =
    (eqb base 10 && same store (code "&" ∷ code "#" ∷ [])) || (eqb base 16 && is_hex_intro store)
holds names kind.Named store = is_name_store names store
holds names kind.BogusName store = eqb (length store) 0
holds names kind.Closed store = false

-- No bytes, or a proper beginning of a well-formed character.
abbrev pub is_part : CharRead → Bool
is_part (Char c n) = false
is_part (Incomplete n) = true
is_part (Illformed n) = false
is_part End = true

-- The record counts as open: its state is not closed, its counts are within the limits, its store is what its state says, its character bytes
-- begin a character, and neither a place nor what is held passes the taken count.
unfoldable pub is_open : List Name → Stream → Bool
is_open names r =
    leb r.held.count 32 && leb r.part_count 3 && leb r.taken longest_stream
    && holds names r.held.state (take r.held.count r.held.store)
    && is_part (read_char (take r.part_count r.part))
    && leb r.held.place r.taken
    && leb (r.held.count + r.part_count) r.taken

-- What a call comes to: its answer, bytes taken and place, what it writes, and the record afterwards.
pub record Outcome : Type 0 where
  pub answer : ℕ
  pub taken : ℕ
  pub place : ℕ
  pub gives : Reading
  pub record' : Stream

-- An outcome, given its parts.
abbrev pub outcome : (answer taken place : ℕ) → Reading → Stream → Outcome
outcome answer taken place gives record' =
    record { answer = answer; taken = taken; place = place; gives = gives; record' = record' }

-- Nothing changes.
abbrev pub refuses : ℕ → Stream → Outcome
refuses answer r = outcome answer 0 0 nothing r

-- The answers that close a stream while it is fed.
abbrev pub closes : ℕ → Bool
closes answer = eqb answer ill_formed || eqb answer nul || eqb answer context_end

-- A walk as what a call comes to, where so many bytes were taken before it.
unfoldable pub walked_to : Context → ℕ → Walked → Outcome
walked_to context before w =
    if closes w.answer
    then outcome w.answer (w.stop.taken - before) (place_of w.stop) w.gives (closed_by context w.stop.taken)
    else outcome w.answer (w.stop.taken - before) 0 w.gives (record_of context w.stop)

-- A chunk, with rooms for so many text bytes and error numbers: 8, 3, 4, 5, and then what its bytes come to.
unfoldable pub feed_of : List Name → Stream → List ℕ → (text errors : ℕ) → Outcome
feed_of names r chunk text errors =
    if not (is_open names r) then refuses closed r
    else if ltb longest_slice (length chunk) then refuses too_long r
    else if ltb longest_stream (r.taken + length chunk) then refuses stream_too_long r
    else if lacks_room text errors then refuses no_room r
    else walked_to r.context r.taken (walk names r.context text errors (at_of r) chunk)

-- The end: 8, 5, then 1 for an incomplete character, and else what is held is written.
unfoldable pub end_of : List Name → Stream → (text errors : ℕ) → Outcome
end_of names r text errors =
    if not (is_open names r) then refuses closed r
    else if lacks_room text errors then refuses no_room r
    else if ltb 0 r.part_count then outcome ill_formed 0 (place_of (at_of r)) nothing (closed_by r.context r.taken)
    else outcome done 0 0 (finish names r.context (st_of r.held)) (closed_by r.context r.taken)

-- A new stream is open, with its context and nothing taken or held.
unfoldable pub new_stream : Context → Stream
new_stream context = record_of context (at_by Data [] 0)

-- The result of a call that comes to this.
unfoldable pub fed_of : Outcome → Fed
fed_of o = record {
  answer = o.answer;
  taken = o.taken;
  text = length o.gives.text;
  errors = length o.gives.errors;
  place = o.place;
  «record» = o.record';
}

-- A call gives what it comes to: its result, and what the rooms then hold.
pub record Feeds (o : Outcome) (text errors : List ℕ) (r : Fed) (text' errors' : List ℕ) : Type 0 where
  pub answered : r ≡ fed_of o
  pub texts : text' ≡ sets text 0 o.gives.text
  pub numbers_of : errors' ≡ sets errors 0 (numbers o.gives.errors)
