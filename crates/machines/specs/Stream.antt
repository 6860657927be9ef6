-- A stream of a machine: bytes in chunks that may cut a character, rooms, a limit, and the answers in their order.
use Rattle.std.specs.Prelude.{ℕ, suc, ◌+◌, ◌-◌, List, [], ◌∷◌, ◌++◌, Bool, true, false, ◌||◌, ltb, eqb, length, if◌then◌else◌}
use Rattle.standard.specs.declared.characters.CharRead.{CharRead}
use Rattle.standard.specs.declared.characters.CharRead.TheVariants.{Char, Incomplete, Illformed, End}
use Rattle.standard.specs.Utf8.{read_char}
use Rattle.standard.specs.Answers.{done, ill_formed, too_long, stream_too_long, no_room, room_used_up, closed, longest_slice, text_room, errors_room}
use Rattle.machines.specs.Machine.{Turn, stops, takes, Machine}

-- Where an open stream is: the machine's state, the bytes of an incomplete character, and how many bytes were taken.
pub record At (State : Type 0) : Type 0 where
  pub st : State
  pub part : List ℕ
  pub taken : ℕ

-- Where it is, given the three.
abbrev pub at_by : {State : Type 0} → State → List ℕ → ℕ → At State
at_by st part taken = record { st = st; part = part; taken = taken }

-- Where a new stream is, by its first state.
abbrev pub begin : {State : Type 0} → State → At State
begin st = at_by st [] 0

-- The place of the character that the next byte is of.
abbrev pub place_of : {State : Type 0} → At State → ℕ
place_of at = at.taken - length at.part

-- A stream is still open, or it was closed after so many bytes.
pub data Stream (State : Type 0) : Type 0 where
  still : At State → Stream State
  shut : (taken : ℕ) → Stream State

-- It is open.
abbrev pub is_still : {State : Type 0} → Stream State → Bool
is_still (still at) = true
is_still (shut taken) = false

-- What a call comes to: its answer, the bytes taken of its chunk, a place, what it gives, and the stream or the record after it.
pub record Outcome (Out After : Type 0) : Type 0 where
  pub answer : ℕ
  pub taken : ℕ
  pub place : ℕ
  pub gives : Out
  pub after : After

-- What a call comes to, given these.
abbrev pub outcome : {Out After : Type 0} → (answer taken place : ℕ) → Out → After → Outcome Out After
outcome answer taken place gives after = record { answer = answer; taken = taken; place = place; gives = gives; after = after }

-- What a call of a machine's stream comes to.
abbrev pub Comes : Machine → Type 0
Comes M = Outcome M.Out (Stream M.State)

-- The room without which no byte is taken is not free.
abbrev pub lacks_room : (text numbers : ℕ) → Bool
lacks_room text numbers = ltb text text_room || ltb numbers errors_room

-- No bytes, or a proper beginning of a well-formed character.
abbrev pub is_part : CharRead → Bool
is_part (Char c n) = false
is_part (Incomplete n) = true
is_part (Illformed n) = false
is_part End = true

module _ (M : Machine) where
  -- What a turn of the machine is for the stream, whose count is then taken.
  abbrev pub lift : (taken : ℕ) → Turn M.State M.Out → Turn (At M.State) M.Out
  lift taken (stops answer place gives) = stops answer place gives
  lift taken (takes says gives next) = takes says gives (at_by next [] taken)

  -- The bytes of a character so far, by what is read of them: the machine reads it when it is whole.
  abbrev pub turn_by : At M.State → CharRead → (own : List ℕ) → Turn (At M.State) M.Out
  turn_by at (Char c n) own = lift (suc at.taken) (M.reads at.st (place_of at) c own)
  turn_by at (Incomplete n) own = takes done M.none (at_by at.st own (suc at.taken))
  turn_by at (Illformed n) own = stops ill_formed (place_of at) M.none
  turn_by at End own = stops ill_formed (place_of at) M.none

  -- The next byte.
  unfoldable pub byte : At M.State → ℕ → Turn (At M.State) M.Out
  byte at b = let own : List ℕ = at.part ++ b ∷ [] in turn_by at (read_char own) own

  -- A byte that is taken before what the bytes after it come to.
  abbrev pub onward : M.Out → Comes M → Comes M
  onward gives o = outcome o.answer (suc o.taken) o.place (M.join gives o.gives) o.after

  -- What a byte comes to, and where nothing ends the call with it, the bytes after it.
  abbrev pub walk_on : At M.State → Turn (At M.State) M.Out → (M.Out → At M.State → Comes M) → Comes M
  walk_on at (stops answer place gives) rest = outcome answer 0 place gives (shut at.taken)
  walk_on at (takes says gives next) rest =
      if eqb says done then onward gives (rest gives next) else outcome says 1 0 gives (still next)

  -- The bytes of a chunk, with so much room free.
  unfoldable pub walk : (text numbers : ℕ) → At M.State → List ℕ → Comes M
  walk text numbers at [] = outcome done 0 0 M.none (still at)
  walk text numbers at (b ∷ s) =
      if lacks_room text numbers then outcome room_used_up 0 0 M.none (still at)
      else walk_on at (byte at b) (λ gives next. walk (text - M.text gives) (numbers - M.numbers gives) next s)

  -- Nothing changes.
  abbrev pub refuses : ℕ → Stream M.State → Comes M
  refuses answer r = outcome answer 0 0 M.none r

  -- A chunk: 8, 3, 4, 5, and then what its bytes come to.
  unfoldable pub feed : (limit : ℕ) → Stream M.State → List ℕ → (text numbers : ℕ) → Comes M
  feed limit (shut taken) chunk text numbers = refuses closed (shut taken)
  feed limit (still at) chunk text numbers =
      if ltb longest_slice (length chunk) then refuses too_long (still at)
      else if ltb limit (at.taken + length chunk) then refuses stream_too_long (still at)
      else if lacks_room text numbers then refuses no_room (still at)
      else walk text numbers at chunk

  -- What the machine makes of the end.
  abbrev pub end_on : (taken : ℕ) → Turn M.State M.Out → Comes M
  end_on taken (stops answer place gives) = outcome answer 0 place gives (shut taken)
  end_on taken (takes says gives next) = outcome says 0 0 gives (still (at_by next [] taken))

  -- The end: 8, 5, then 1 for an incomplete character, and else what the machine makes of it.
  unfoldable pub end : Stream M.State → (text numbers : ℕ) → Comes M
  end (shut taken) text numbers = refuses closed (shut taken)
  end (still at) text numbers =
      if lacks_room text numbers then refuses no_room (still at)
      else if ltb 0 (length at.part) then outcome ill_formed 0 (place_of at) M.none (shut at.taken)
      else end_on at.taken (M.finish at.st)
