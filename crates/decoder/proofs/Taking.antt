-- The walk of the code over a chunk: what was taken so far is a walk that took all of it, and the rest goes on from there.
use Rattle.std.specs.Prelude.{if◌then◌else◌}
use Prim.Native.Nat.{ℕ, suc, ◌+◌, ◌-◌, ◌*◌, ◌≤◌, ◌<◌}
use mathlib.Core.Path.{◌≡◌, refl, sym, ◌∙◌, ap, ap₂, subst}
use mathlib.Core.List.{List, [], ◌∷◌, ◌++◌}
use mathlib.Core.Bool.{Bool, true, false, not}
use mathlib.Core.Logic.{◌≢◌, ◌⊎◌}
use native.Mathlib.Omega.{arith}
use lib.Dec.{eqb}
use lib.ListN.{length, get_or, take, drop, length-append, length-drop, take-append-drop, drop_of_length-le}
use lib.Seq.{drop-cons, take-add, take_all}
use borrow.Author.Tests.{eqb-false}
use Rattle.lists.proofs.Puts.{put_length}
use Rattle.standard.specs.declared.Context.{Context}
use Rattle.standard.specs.declared.characters.CharRead.{CharRead}
use Rattle.standard.specs.declared.characters.CharRead.TheVariants.{Char, Incomplete, Illformed, End}
use Rattle.standard.specs.Utf8.{read_char, encode}
use Rattle.standard.specs.Answers.{done, room_used_up}
use Rattle.standard.specs.NameList.{builtin}
use Rattle.standard.specs.Reading.{calls_for, Reading, ◌⊕◌}
use Rattle.decoder.specs.Writing.{Wrote}
use Rattle.standard.proofs.Back.{read_back}
use Rattle.decoder.proofs.Writing.{wrote_none, wrote-join}
use Rattle.standard.proofs.Joining.{numbers-length}
use Rattle.standard.proofs.Utf8.{read_end, end-length, incomplete_length}
use Rattle.decoder.specs.declared.stream.Stream.{Stream}
use Rattle.decoder.specs.declared.feeding.Walked as code
use Rattle.decoder.specs.Machine.{nothing, step}
use Rattle.decoder.specs.Stream.{
  At,
  at_by,
  place_of,
  called_for,
  move_by,
  Walked,
  stops_at,
  onward,
  last_of,
  lacks_room,
  walk,
  is_part,
  record_of,
  at_of,
}
use Rattle.decoder.specs.Turns.{Fits}
use Rattle.decoder.specs.Feeding.{OpenAt, Open, byte_walk, Walks, Bounded, Moves}
use Rattle.decoder.proofs.Keeps.{step_fits}
use Rattle.decoder.proofs.Layer.{completes_own}
use Rattle.decoder.proofs.Open.{at_back}
use Rattle.decoder.proofs.Room.{lacks-so, room-so, room-only}
use Rattle.decoder.proofs.Walks.{walk_after, walk_goes_on, walk_stops, walk_one, walk_full}

-- The record of where an open stream is.
pub open_record : (context : Context) {at : At} → OpenAt at → Open (record_of context at)
unfolding record_of
open_record context {at} o =
    let back = at_back context at o.fits in
    record { whole = ap (record_of context) (sym back); at = subst OpenAt (sym back) o }

-- The bytes of a character that is whole with one byte more are those that it is written with.
pub own_encoded : (part : List ℕ) (b c n : ℕ) → is_part (read_char part) ≡ true → read_char (part ++ b ∷ []) ≡ Char c n → encode c ≡ part ++ b ∷ []
own_encoded part b c n begun e =
    let own = part ++ b ∷ [] in
    (read_back own c n e).0 ∙ take_all n own (omega (arith, completes_own part b c n begun e))

-- What holds after a byte that makes a character whole, and after one that does not yet, holds after a byte that is taken.
pub byte_cases : (P : At → Type 0) (context : Context) (at : At) (b : ℕ) → let own = at.part ++ b ∷ [] in
    ((c n : ℕ) → read_char own ≡ Char c n → P (at_by (step builtin context at.st (place_of at) c own).next [] (suc at.taken)))
    → ((n : ℕ) → read_char own ≡ Incomplete n → P (at_by at.st own (suc at.taken))) → (byte_walk builtin context at b).answer ≡ done
    → P (byte_walk builtin context at b).stop
unfolding byte_walk
byte_cases P context at b whole part = by (read_char own) refl
  where
    own : List ℕ
    own = at.part ++ b ∷ []

    -- What is read of it and the bytes before it, as what it comes to.
    comes : (r : CharRead) (answer : ℕ) → Bool → Walked
    comes r answer taken =
        if not taken then stops_at answer (last_of builtin context answer at.st) at
        else stops_at done (move_by builtin context at r own).gives (move_by builtin context at r own).to

    character : (c n : ℕ) → read_char own ≡ Char c n → (t : Bool) → eqb (calls_for context c) done ≡ t
        → (comes (Char c n) (calls_for context c) t).answer ≡ done → P (comes (Char c n) (calls_for context c) t).stop
    character c n e false f i = absurd (omega (arith, eqb-false (calls_for context c) done f))
    character c n e true f i = whole c n e

    by : (r : CharRead) → read_char own ≡ r → (comes r (called_for context r) (eqb (called_for context r) done)).answer ≡ done
        → P (comes r (called_for context r) (eqb (called_for context r) done)).stop
    by (Char c n) e i = character c n e (eqb (calls_for context c) done) refl i
    by (Incomplete n) e i = part n e
    by (Illformed n) e i = absurd (omega arith)
    by End e i = absurd (omega (arith, length-append at.part (b ∷ []), end-length own e))

-- A byte that is taken leaves the stream open, and is counted.
pub open_byte : (context : Context) {at : At} (b : ℕ) → OpenAt at → (byte_walk builtin context at b).answer ≡ done
    → OpenAt (byte_walk builtin context at b).stop × ((byte_walk builtin context at b).stop.taken ≡ suc at.taken)
open_byte context {at} b o =
    byte_cases (λ (x : At). OpenAt x × (x.taken ≡ suc at.taken)) context at b
    (λ c n e. (
      record {
        fits =
            subst (λ (l : List ℕ). Fits (step builtin context at.st (place_of at) c l).next) (own_encoded at.part b c n o.begun e)
            (step_fits context at.st (place_of at) c o.fits);
        few = omega arith;
        begun = ap is_part (read_end [] refl);
        there = omega arith;
      },
      refl,
    ))
    (λ n e. (
      record {
        fits = o.fits;
        few = omega (arith, incomplete_length (at.part ++ b ∷ []) n e);
        begun = ap is_part e;
        there = omega (arith, length-append at.part (b ∷ []), o.there);
      },
      refl,
    ))

-- A byte that is not taken leaves the stream where it is.
byte_stays : (context : Context) (at : At) (b : ℕ) → (byte_walk builtin context at b).answer ≢ done → (byte_walk builtin context at b).stop ≡ at
unfolding byte_walk
byte_stays context at b = by (eqb (called_for context (read_char own)) done)
  where
    own : List ℕ
    own = at.part ++ b ∷ []

    comes : Bool → Walked
    comes taken =
        if not taken then stops_at (called_for context (read_char own)) (last_of builtin context (called_for context (read_char own)) at.st) at
        else stops_at done (move_by builtin context at (read_char own) own).gives (move_by builtin context at (read_char own) own).to

    by : (t : Bool) → (comes t).answer ≢ done → (comes t).stop ≡ at
    by true e = absurd (e refl)
    by false e = refl

-- A walk that ends where a stream is open is bounded.
bounded : (start : Stream) (n : ℕ) {x : code.Walked} (at : At) → OpenAt at → start.taken ≤ at.taken → x.«record» ≡ record_of start.context at
    → x.ends.text ≤ 64 * n → x.ends.errors ≤ 8 * n → Bounded start n x
unfolding record_of
bounded start n at o before is text_few errors_few =
    let taken_is = ap (λ (y : Stream). y.taken) is in
    let count_is = ap (λ (y : Stream). y.part_count) is in record {
      text_few = text_few;
      errors_few = errors_few;
      onward = omega (arith, taken_is);
      there = omega (arith, taken_is, count_is, o.there);
    }

-- With at bytes of a chunk taken: the record and the rooms are those of a walk over them that took them all.
pub record Taken (start : Stream) (chunk text₀ errors₀ : List ℕ) (r : Stream) (at : ℕ) (text : List ℕ) (w : ℕ) (errors : List ℕ) (e : ℕ)
    : Type 0 where
  pub there : at ≤ length chunk
  pub here : At
  pub still_open : OpenAt here
  pub recorded : r ≡ record_of start.context here
  pub taken_is : here.taken ≡ start.taken + at
  pub so_far : Reading
  pub walked : walk builtin start.context (length text₀) (length errors₀) (at_of start) (take at chunk) ≡ stops_at done so_far here
  pub wrote : Wrote so_far text₀ 0 text w errors₀ 0 errors e
  pub text_in : w ≤ length text
  pub errors_in : e ≤ length errors
  pub text_few : w ≤ 64 * at
  pub errors_few : e ≤ 8 * at

-- The walk over the whole chunk.
abbrev pub whole : Stream → (chunk text errors : List ℕ) → Walked
whole start chunk text errors = walk builtin start.context (length text) (length errors) (at_of start) chunk

module _ {start : Stream} {chunk text₀ errors₀ : List ℕ} where
  -- Nothing is taken yet.
  pub taken_start : Open start → Taken start chunk text₀ errors₀ start 0 text₀ 0 errors₀ 0
  unfolding walk
  taken_start o = record {
    there = omega arith;
    here = at_of start;
    still_open = o.at;
    recorded = o.whole;
    taken_is = omega arith;
    so_far = nothing;
    walked = refl;
    wrote = wrote_none text₀ 0 errors₀ 0;
    text_in = omega arith;
    errors_in = omega arith;
    text_few = omega arith;
    errors_few = omega arith;
  }

  module _ {r : Stream} {at w e : ℕ} {text errors : List ℕ} (g : Taken start chunk text₀ errors₀ r at text w errors e) where
    -- The rooms are as long as they were, and what is free in them is what the walk has left.
    pub taken_room : (length text ≡ length text₀) × (length errors ≡ length errors₀) × (w ≡ length g.so_far.text)
        × (e ≡ 2 * length g.so_far.errors)
    taken_room = (
      put_length g.wrote.texts,
      put_length g.wrote.numbers_of,
      omega (arith, g.wrote.texts.next_is),
      omega (arith, g.wrote.numbers_of.next_is, numbers-length g.so_far.errors),
    )

    -- Where it is not found lacking, there is room for the next byte.
    pub taken_free : {lacks : Bool} → lacks ≡ lacks_room (length text - w) (length errors - e) → lacks ≡ false
        → (w + 64 ≤ length text) × (e + 8 ≤ length errors)
    taken_free is free =
        let room = room-only (length text - w) (length errors - e) (sym is ∙ free) in
        (omega (arith, room.0, g.text_in), omega (arith, room.1, g.errors_in))

    -- The record is that of an open stream, of the same context, with its bytes counted.
    pub taken_open : Open r
    taken_open = subst Open (sym g.recorded) (open_record start.context g.still_open)

    taken_at : at_of r ≡ g.here
    taken_at = ap at_of g.recorded ∙ at_back start.context g.here g.still_open.fits

    pub taken_count : r.taken ≡ start.taken + at
    taken_count = ap (λ (x : At). x.taken) taken_at ∙ g.taken_is

    taken_context : r.context ≡ start.context
    unfolding record_of
    taken_context = ap (λ (x : Stream). x.context) g.recorded

    -- What is left of the room, as the code has it.
    left : (s : List ℕ) → walk_after builtin start.context g.so_far (length text₀) (length errors₀) g.here s
        ≡ walk builtin start.context (length text - w) (length errors - e) g.here s
    left s =
        let k = taken_room in
        ap₂ (λ (t n : ℕ). walk builtin start.context t n g.here s)
        (let i : length text₀ - length g.so_far.text ≡ length text - w = omega (arith, k.0, k.2) in i)
        (let i : length errors₀ - 2 * length g.so_far.errors ≡ length errors - e = omega (arith, k.1, k.3) in i)

    -- A walk over the bytes so far and some more.
    on : (s t : List ℕ) → take at chunk ++ s ≡ t → walk builtin start.context (length text₀) (length errors₀) (at_of start) t
        ≡ onward g.so_far (walk builtin start.context (length text - w) (length errors - e) g.here s)
    on s t is =
        ap (walk builtin start.context (length text₀) (length errors₀) (at_of start)) (sym is)
        ∙ walk_goes_on builtin start.context (length text₀) (length errors₀) (at_of start) (take at chunk) s (ap (λ (x : Walked). x.answer) g.walked)
        ∙ ap (λ (x : Walked). onward x.gives (walk_after builtin start.context x.gives (length text₀) (length errors₀) x.stop s))
        g.walked
        ∙ ap (onward g.so_far) (left s)

    -- The walk over the whole chunk goes on from here.
    rest : whole start chunk text₀ errors₀ ≡ onward g.so_far (walk builtin start.context (length text - w) (length errors - e) g.here
        (drop at chunk))
    rest = on (drop at chunk) chunk (take-append-drop at chunk)

    -- Some bytes more are taken.
    pub taken_more : {r' : Stream} {text' errors' : List ℕ} {w' e' : ℕ} (k : ℕ) (gives : Reading) (here : At) → at + k ≤ length chunk
        → walk builtin start.context (length text - w) (length errors - e) g.here (take k (drop at chunk)) ≡ stops_at done gives here
        → OpenAt here → here.taken ≡ start.taken + (at + k) → r' ≡ record_of start.context here
        → Wrote gives text w text' w' errors e errors' e' → w' ≤ length text' → e' ≤ length errors' → w' ≤ 64 * (at + k) → e' ≤ 8 * (at + k)
        → Taken start chunk text₀ errors₀ r' (at + k) text' w' errors' e'
    taken_more k gives here there walked opened taken recorded wrote text_in errors_in text_few errors_few = record {
      there = there;
      here = here;
      still_open = opened;
      recorded = recorded;
      taken_is = taken;
      so_far = g.so_far ⊕ gives;
      walked = on (take k (drop at chunk)) (take (at + k) chunk) (sym (take-add at k chunk)) ∙ ap (onward g.so_far) walked;
      wrote = wrote-join g.wrote wrote;
      text_in = text_in;
      errors_in = errors_in;
      text_few = text_few;
      errors_few = errors_few;
    }

    -- The bytes that a walk from here took.
    pub taken_moves : {r' : Stream} {at' w' e' : ℕ} {text' errors' : List ℕ} → Moves r chunk at text w errors e r' at' text' w' errors' e'
        → Taken start chunk text₀ errors₀ r' at' text' w' errors' e'
    taken_moves {r'} {at'} {w'} {e'} {text'} {errors'} m =
        let on = m.onward in
        let is : at + (at' - at) ≡ at' = omega (arith, on) in
        let same = ap₂ (λ (c : Context) (a : At). walk builtin c (length text - w) (length errors - e) a (take (at' - at)
        (drop at chunk))) taken_context taken_at in
        subst (λ (n : ℕ). Taken start chunk text₀ errors₀ r' n text' w' errors' e') is
        (taken_more (at' - at) m.gives m.here (omega (arith, m.there)) (sym same ∙ m.walked) m.opened
        (omega (arith, m.taken_is, taken_count)) (m.recorded ∙ ap (λ (c : Context). record_of c m.here) taken_context) m.wrote m.text_in
        m.errors_in (omega (arith, m.text_few, g.text_few)) (omega (arith, m.errors_few, g.errors_few)))

    -- The walk ends here.
    taken_ends : {x : code.Walked} {text' errors' : List ℕ} (a : ℕ) (gives : Reading) (stop : At)
        → walk builtin start.context (length text - w) (length errors - e) g.here (drop at chunk) ≡ stops_at a gives stop → x.answer ≡ a
        → x.«record» ≡ record_of start.context stop → Wrote gives text w text' x.ends.text errors e errors' x.ends.errors
        → Walks start.context (whole start chunk text₀ errors₀) text₀ 0 errors₀ 0 x text' errors'
    taken_ends {x} {text'} {errors'} a gives stop walked answered recorded wrote =
        let all = rest ∙ ap (onward g.so_far) walked in record {
          answered = answered ∙ sym (ap (λ (x : Walked). x.answer) all);
          recorded = recorded ∙ ap (λ (x : Walked). record_of start.context x.stop) (sym all);
          wrote = subst (λ (r : Reading). Wrote r text₀ 0 text' x.ends.text errors₀ 0 errors' x.ends.errors) (ap (λ (x : Walked). x.gives) (sym all))
              (wrote-join g.wrote wrote);
        }

    -- The next byte, where a walk over it is what the code's comes to.
    module _ {x : code.Walked} {text' errors' : List ℕ} (more : at < length chunk) (text_free : w + 64 ≤ length text)
        (errors_free : e + 8 ≤ length errors)
        (comes : Walks r.context (byte_walk builtin r.context (at_of r) (get_or chunk at 0)) text w errors e x text' errors'
        × ((x.ends.text ≤ w + 64) × (x.ends.errors ≤ e + 8))) where
      next : Walks r.context (byte_walk builtin r.context (at_of r) (get_or chunk at 0)) text w errors e x text' errors'
      next = comes.0

      -- What it writes is bounded.
      text_bounded : x.ends.text ≤ w + 64
      text_bounded = comes.1.0

      errors_bounded : x.ends.errors ≤ e + 8
      errors_bounded = comes.1.1

      -- There is room for it.
      room : lacks_room (length text - w) (length errors - e) ≡ false
      room = room-so (length text - w) (length errors - e) (omega arith, omega arith)

      -- The walk over it, from where the stream is.
      abbrev byte : Walked
      byte = byte_walk builtin start.context g.here (get_or chunk at 0)

      -- As the code's comes to it.
      same : byte_walk builtin r.context (at_of r) (get_or chunk at 0) ≡ byte
      same = ap₂ (λ (c : Context) (a : At). byte_walk builtin c a (get_or chunk at 0)) taken_context taken_at

      one : walk builtin start.context (length text - w) (length errors - e) g.here (get_or chunk at 0 ∷ []) ≡ byte
      one = walk_one builtin start.context (length text - w) (length errors - e) g.here (get_or chunk at 0) room

      answer_is : x.answer ≡ byte.answer
      answer_is = next.answered ∙ ap (λ (y : Walked). y.answer) same

      record_is : x.«record» ≡ record_of start.context byte.stop
      record_is = next.recorded ∙ ap₂ (λ (c : Context) (y : Walked). record_of c y.stop) taken_context same

      wrote_is : Wrote byte.gives text w text' x.ends.text errors e errors' x.ends.errors
      wrote_is = subst (λ (y : Walked). Wrote y.gives text w text' x.ends.text errors e errors' x.ends.errors) same next.wrote

      -- It is taken.
      pub taken_byte : x.answer ≡ done → Taken start chunk text₀ errors₀ x.«record» (at + 1) text' x.ends.text errors' x.ends.errors
      taken_byte e =
          let d : byte.answer ≡ done = sym answer_is ∙ e in
          let opened = open_byte start.context (get_or chunk at 0) g.still_open d in
          let same_text = put_length wrote_is.texts in
          let same-errors = put_length wrote_is.numbers_of in
          taken_more 1 byte.gives byte.stop (omega arith)
          (ap (walk builtin start.context (length text - w) (length errors - _) g.here) (ap (take 1) (drop-cons chunk at 0 more)) ∙ one
          ∙ ap (λ (a : ℕ). stops_at a byte.gives byte.stop) d)
          opened.0 (omega (arith, opened.1, g.taken_is)) record_is wrote_is
          (omega (arith, text_bounded, same_text)) (omega (arith, errors_bounded, same-errors)) (omega (arith, text_bounded, g.text_few))
          (omega (arith, errors_bounded, g.errors_few))

      -- It stops the walk.
      pub taken_stop : x.answer ≢ done
          → Walks start.context (whole start chunk text₀ errors₀) text₀ 0 errors₀ 0 x text' errors' × Bounded start (length chunk) x
      taken_stop e = (
        taken_ends byte.answer byte.gives byte.stop
            (ap (walk builtin start.context (length text - w) (length errors - _) g.here) (drop-cons chunk at 0 more)
            ∙ walk_stops builtin start.context (length text - w) (length errors - _) g.here (get_or chunk at 0 ∷ []) (drop (suc at) chunk)
            (λ f. e (answer_is ∙ sym (ap (λ (y : Walked). y.answer) one) ∙ f)) ∙ one)
            answer_is record_is wrote_is,
        bounded start (length chunk) g.here g.still_open (omega (arith, g.taken_is))
            (record_is ∙ ap (record_of start.context) (byte_stays start.context g.here (get_or chunk at 0) (λ f. e (answer_is ∙ f))))
            (omega (arith, text_bounded, g.text_few)) (omega (arith, errors_bounded, g.errors_few)),
      )

    -- The walk of the code ends here.
    abbrev ended : ℕ → code.Walked
    ended answer = record { answer = answer; «record» = r; ends = record { text = w; errors = e } }

    ended_bounded : (answer : ℕ) → Bounded start (length chunk) (ended answer)
    ended_bounded answer =
        bounded start (length chunk) g.here g.still_open (omega (arith, g.taken_is)) g.recorded (omega (arith, g.text_few, g.there))
        (omega (arith, g.errors_few, g.there))

    -- The next byte lacks its room.
    pub taken_full : at < length chunk → (length text - w < 64) ⊎ (length errors - e < 8)
        → Walks start.context (whole start chunk text₀ errors₀) text₀ 0 errors₀ 0 (ended room_used_up) text errors
        × Bounded start (length chunk) (ended room_used_up)
    taken_full more lacks = (
      taken_ends room_used_up nothing g.here
          (walk_full builtin start.context (length text - w) (length errors - e) g.here (drop at chunk) (simp length-drop (omega arith))
          (lacks-so (length text - w) (length errors - e) lacks))
          refl g.recorded (wrote_none text w errors e),
      ended_bounded room_used_up,
    )

    -- All of the chunk is taken.
    pub taken_all : length chunk ≤ at
        → Walks start.context (whole start chunk text₀ errors₀) text₀ 0 errors₀ 0 (ended done) text errors
        × Bounded start (length chunk) (ended done)
    unfolding walk
    taken_all all = (
      taken_ends done nothing g.here
          (ap (walk builtin start.context (length text - w) (length errors - e) g.here) (drop_of_length-le chunk all)) refl g.recorded
          (wrote_none text w errors e),
      ended_bounded done,
    )
