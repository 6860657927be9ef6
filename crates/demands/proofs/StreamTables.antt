-- Demand 1 for streams: for each line of the table of answers, when `feed` and `end` give it, and what then holds.
-- r is any record; fed, text' and errors' are whatever meets the contract of the call for a chunk and two rooms.
use Rattle.std.specs.Prelude.{MatchBool}
use Prim.Native.Nat.{ℕ, zero, suc, ◌+◌, ◌-◌, ◌*◌, ◌≤◌, ◌<◌}
use mathlib.Core.Path.{◌≡◌, refl, sym, ◌∙◌, ap, subst}
use mathlib.Core.List.{List, [], ◌∷◌, ◌++◌}
use mathlib.Core.Bool.{true, false}
use mathlib.Core.Logic.{◌≢◌, ◌↔◌, ◌⊎◌, inl, inr, ⊎_elim}
use native.Mathlib.Omega.{arith}
use lib.Dec.{eqb}
use lib.ListN.{length, length-append}
use lib.Seq.{sets}
use Rattle.lists.proofs.Choice.{no_way, test?, below?}
use Rattle.lists.proofs.Tables.{◌when◌with◌, Kept, Table}
use Rattle.standard.specs.declared.Context.{Context}
use Rattle.standard.specs.declared.characters.CharRead.TheVariants.{Illformed}
use Rattle.standard.specs.Contexts.{ends}
use Rattle.standard.specs.Utf8.{read_char}
use Rattle.standard.specs.Answers.{
  done,
  ill_formed,
  nul,
  too_long,
  stream_too_long,
  no_room,
  room_used_up,
  context_end,
  closed,
}
use Rattle.standard.specs.Errors.{numbers}
use Rattle.standard.specs.NameList.{builtin}
use Rattle.standard.specs.Reading.{Reading, ◌⊕◌}
use Rattle.standard.proofs.Joining.{⊕-none}
use Rattle.decoder.specs.declared.stream.Stream.{Stream}
use Rattle.decoder.specs.declared.stream.Fed.{Fed}
use Rattle.decoder.specs.Machine.{nothing, finish}
use Rattle.decoder.specs.Stream.{
  At,
  place_of,
  called_for,
  Walked,
  last_of,
  closes,
  walk,
  record_of,
  closed_by,
  st_of,
  at_of,
  is_part,
  is_open,
  Outcome,
  outcome,
  refuses,
  feed_of,
  end_of,
  fed_of,
  Feeds,
}
use Rattle.standard.proofs.Stops.{OneOf}
use Rattle.decoder.proofs.Calling.{called-one, ill_called, nul_called, end_called}
use Rattle.decoder.proofs.Returns.{feed_closed, feed_long, feed_stream_long, feed_room, end_closed, end_room, end_inside, end_done}
use Rattle.decoder.proofs.Room.{lacks-so, room-so, room?, lacks-only, room-only}
use Rattle.demands.proofs.Held.{By, Calls, as_left, closed-closed}
use Rattle.demands.proofs.WalkStops.{
  Takes,
  Stays,
  walk_lacks,
  walk_meets,
  walk_cases,
  counted,
  feed_begun,
  feed_open,
  feed_stays,
  feed_closes,
}

-- The room that a byte asks for: 64 text bytes and 8 error numbers.
abbrev pub Room : (text errors : ℕ) → Type 0
Room text errors = (64 ≤ text) × (8 ≤ errors)

abbrev pub NoRoom : (text errors : ℕ) → Type 0
NoRoom text errors = (text < 64) ⊎ (errors < 8)

-- A closed stream answers 8 to every later call, and nothing changes.
pub closed_forever : (context : Context) (n : ℕ) (chunk : List ℕ) (text errors : ℕ) → let r = closed_by context n in
    (feed_of builtin r chunk text errors ≡ refuses closed r) × (end_of builtin r text errors ≡ refuses closed r)
closed_forever context n chunk text errors =
    let shut = closed-closed context n in
    (feed_closed (closed_by context n) text errors chunk shut, end_closed (closed_by context n) text errors shut)

-- So does every stream that an answer closed.
pub closed-by : {context : Context} {r : Stream} {t : List ℕ} {g : Reading} {answer : ℕ} → Calls context r t g (By answer) → (chunk : List ℕ)
    (text errors : ℕ) → (feed_of builtin r chunk text errors ≡ refuses closed r) × (end_of builtin r text errors ≡ refuses closed r)
closed-by {context} {t = t} c chunk text errors =
    subst (λ (r : Stream). (feed_of builtin r chunk text errors ≡ refuses closed r) × (end_of builtin r text errors ≡ refuses closed r))
    (sym (as_left c).0) (closed_forever context (length t) chunk text errors)

-- The answers to a chunk are all numbers up to 8.
one_of_nine : (n : ℕ) → n ≤ 8
    → (n ≡ closed) ⊎ ((n ≡ too_long) ⊎ ((n ≡ stream_too_long) ⊎ ((n ≡ no_room) ⊎ ((n ≡ room_used_up) ⊎ ((n ≡ ill_formed) ⊎ ((n ≡ nul)
    ⊎ ((n ≡ context_end) ⊎ ((n ≡ done) ⊎ ⊥))))))))
one_of_nine zero h = inr (inr (inr (inr (inr (inr (inr (inr (inl refl))))))))
one_of_nine (suc zero) h = inr (inr (inr (inr (inr (inl refl)))))
one_of_nine (suc (suc zero)) h = inr (inr (inr (inr (inr (inr (inl refl))))))
one_of_nine (suc (suc (suc zero))) h = inr (inl refl)
one_of_nine (suc (suc (suc (suc zero)))) h = inr (inr (inl refl))
one_of_nine (suc (suc (suc (suc (suc zero))))) h = inr (inr (inr (inl refl)))
one_of_nine (suc (suc (suc (suc (suc (suc zero)))))) h = inr (inr (inr (inr (inl refl))))
one_of_nine (suc (suc (suc (suc (suc (suc (suc zero))))))) h = inr (inr (inr (inr (inr (inr (inr (inl refl)))))))
one_of_nine (suc (suc (suc (suc (suc (suc (suc (suc zero)))))))) h = inl refl
one_of_nine (suc (suc (suc (suc (suc (suc (suc (suc (suc n))))))))) h = absurd (omega (arith, h))

module _ (r : Stream) (text errors : List ℕ) (fed : Fed) (text' errors' : List ℕ) where
  -- The record counts as open, or as closed.
  abbrev pub Open : Type 0
  Open = is_open builtin r ≡ true

  abbrev pub Closed : Type 0
  Closed = is_open builtin r ≡ false

  -- The result, with rooms that have a reading at their start.
  abbrev pub Gives : (answer taken place : ℕ) → Reading → Stream → Type 0
  Gives answer taken place g later =
      (fed ≡ fed_of (outcome answer taken place g later))
      × (text' ≡ sets text 0 g.text) × (errors' ≡ sets errors 0 (numbers g.errors))

  -- Nothing changes: counts and place are 0, and the record and the rooms are as they were given.
  abbrev pub Unchanged : ℕ → Type 0
  Unchanged answer = (fed ≡ fed_of (refuses answer r)) × (text' ≡ text) × (errors' ≡ errors)

  -- The record of a stream that is here counts as open.
  abbrev pub OpenAfter : At → Type 0
  OpenAfter here = is_open builtin (record_of r.context here) ≡ true

  -- The answer and what is given, by what a call comes to.
  module _ {o : Outcome} (d : Feeds o text errors fed text' errors') where
    answered : {n taken place : ℕ} {g : Reading} {later : Stream} → o ≡ outcome n taken place g later → fed.answer ≡ n
    unfolding fed_of
    answered e = ap (λ (x : Fed). x.answer) d.answered ∙ ap (λ (x : Outcome). x.answer) e

    gives : {n taken place : ℕ} {g : Reading} {later : Stream} → o ≡ outcome n taken place g later → Gives n taken place g later
    gives e = let w = subst (λ (o : Outcome). Feeds o text errors fed text' errors') e d in (w.answered, w.texts, w.numbers_of)

  module _ (chunk : List ℕ) where
    -- What 3, 4 and 5 are given for, each after those before it.
    abbrev pub ChunkTooLong : Type 0
    ChunkTooLong = Open × (65536 < length chunk)

    abbrev pub StreamTooLong : Type 0
    StreamTooLong = Open × (length chunk ≤ 65536) × (16777216 < r.taken + length chunk)

    abbrev pub TooLittleRoom : Type 0
    TooLittleRoom = Open × (length chunk ≤ 65536) × (r.taken + length chunk ≤ 16777216) × NoRoom (length text) (length errors)

    -- None of 8, 3, 4 and 5 is.
    abbrev pub Fine : Type 0
    Fine = Open × (length chunk ≤ 65536) × (r.taken + length chunk ≤ 16777216) × Room (length text) (length errors)

    -- From the record on all of the chunk is taken: g is released, and the stream is then here.
    pub record TakesAll : Type 0 where
      pub fine : Fine
      pub g : Reading
      pub here : At
      pub took : Takes r.context (length text) (length errors) (at_of r) chunk g here

    -- A byte of the chunk, where those before it are taken.
    pub record Reaches : Type 0 where
      pub fine : Fine
      pub before : List ℕ
      pub byte : ℕ
      pub after : List ℕ
      pub split : chunk ≡ before ++ byte ∷ after
      pub g : Reading
      pub here : At
      pub took : Takes r.context (length text) (length errors) (at_of r) before g here

    -- The text bytes and error numbers that are free there.
    abbrev pub text_free : Reaches → ℕ
    text_free at = length text - length at.g.text

    abbrev pub errors_free : Reaches → ℕ
    errors_free at = length errors - 2 * length at.g.errors

    -- The answer that the byte calls for with the bytes of its character so far: 1 where it is ill-formed, 2 for NUL, 7 where the context ends.
    abbrev pub called : Reaches → ℕ
    called at = called_for r.context (read_char (at.here.part ++ at.byte ∷ []))

    -- The next byte lacks free room.
    pub record LacksRoom : Type 0 where
      pub at : Reaches
      pub lacks : NoRoom (text_free at) (errors_free at)

    -- The next byte has its room, and calls for the answer n.
    pub record Meets (n : ℕ) : Type 0 where
      pub at : Reaches
      pub room : Room (text_free at) (errors_free at)
      pub calls : called at ≡ n

    -- Bytes before one of the chunk are not more than the chunk's.
    fewer : (m : Reaches) → length m.before ≤ length chunk
    fewer m = omega (arith, ap length m.split, length-append m.before (m.byte ∷ m.after))

    -- An incomplete character there is one.
    begun : (m : Reaches) → is_part (read_char m.here.part) ≡ true
    begun m = feed_begun r chunk (length text) (length errors) m.fine m.before m.took (fewer m)

    -- The place of the byte's character is that of the byte, less the bytes of the character before it.
    pub place_there : (m : Reaches) → place_of m.here ≡ r.taken + length m.before - length m.here.part
    place_there m =
        ap (λ (n : ℕ). n - length m.here.part)
        (counted r chunk (length text) (length errors) m.fine m.before m.took (fewer m))

    -- The byte calls for 1 exactly where it is ill-formed.
    pub calls_for_1 : (m : Reaches) → (called m ≡ ill_formed) ↔ ((n : ℕ) × (read_char (m.here.part ++ m.byte ∷ []) ≡ Illformed n))
    calls_for_1 m = ill_called r.context (read_char (m.here.part ++ m.byte ∷ []))

    -- It calls for 2 exactly where it is NUL and a character begins.
    pub calls_for_2 : (m : Reaches) → (called m ≡ nul) ↔ ((m.here.part ≡ []) × (m.byte ≡ 0))
    calls_for_2 m = nul_called r.context m.here.part m.byte (begun m)

    -- It calls for 7 exactly where it is the character that ends the context, and a character begins.
    pub calls_for_7 : (m : Reaches) → (called m ≡ context_end) ↔ ((m.here.part ≡ []) × (ends r.context m.byte ≡ true))
    calls_for_7 m = end_called r.context m.here.part m.byte (begun m)

    module _ (d : Feeds (feed_of builtin r chunk (length text) (length errors)) text errors fed text' errors') where
      -- What the call comes to.
      abbrev comes : Outcome
      comes = feed_of builtin r chunk (length text) (length errors)

      -- Where all is taken.
      is_all : (w : TakesAll) → comes ≡ outcome done (length chunk) 0 w.g (record_of r.context w.here)
      is_all w = feed_stays r chunk (length text) (length errors) w.fine chunk w.took (omega arith) done refl w.took

      -- The walk over the chunk by its parts.
      abbrev parted : Reaches → List ℕ
      parted m = m.before ++ m.byte ∷ m.after

      walk_parted : (m : Reaches) {w : Walked} → walk builtin r.context (length text) (length errors) (at_of r) (parted m) ≡ w
          → walk builtin r.context (length text) (length errors) (at_of r) chunk ≡ w
      walk_parted m e = ap (walk builtin r.context (length text) (length errors) (at_of r)) m.split ∙ e

      -- Where room is lacking.
      is_full : (w : LacksRoom) → let m = w.at in
          comes ≡ outcome room_used_up (length m.before) 0 m.g (record_of r.context m.here)
      is_full w =
          let m = w.at in
          feed_stays r chunk (length text) (length errors) m.fine m.before m.took (fewer m) room_used_up refl
          (walk_parted m (walk_lacks r.context (length text) (length errors) (at_of r) m.before m.byte m.after m.g m.here m.took
          (lacks-so _ _ w.lacks)))

      -- Where an answer is called for that closes the stream.
      is_met : (n : ℕ) → closes n ≡ true → (w : Meets n) → let m = w.at in
          comes ≡ outcome n (length m.before) (place_of m.here) (m.g ⊕ last_of builtin r.context n m.here.st)
          (closed_by r.context (r.taken + length m.before))
      is_met n e w =
          let m = w.at in
          feed_closes r chunk (length text) (length errors) m.fine m.before m.took (fewer m) n
          (m.g ⊕ last_of builtin r.context n m.here.st) e
          (walk_parted m (walk_meets r.context (length text) (length errors) (at_of r) m.before m.byte m.after m.g m.here m.took n
          (room-so _ _ w.room) w.calls (λ f. no_way (sym e ∙ ap closes f))))

      -- And what is held is dropped.
      is_dropped : (n : ℕ) → closes n ≡ true → eqb n context_end ≡ false → (w : Meets n) → let m = w.at in
          comes ≡ outcome n (length m.before) (place_of m.here) m.g (closed_by r.context (r.taken + length m.before))
      is_dropped n e f w =
          let m = w.at in
          is_met n e w
          ∙ ap (λ (g : Reading). outcome n (length m.before) (place_of m.here) g (closed_by r.context (r.taken + length m.before)))
          (rw f (⊕-none m.g))

      -- What an answer is given for.
      abbrev When : ℕ → Type 0
      When n =
          MatchBool (eqb n closed) Closed
          (MatchBool (eqb n too_long) ChunkTooLong
          (MatchBool (eqb n stream_too_long) StreamTooLong
          (MatchBool (eqb n no_room) TooLittleRoom
          (MatchBool (eqb n room_used_up) LacksRoom
          (MatchBool (eqb n done) TakesAll
          (Meets n))))))

      -- Some answer, for what it is given for.
      abbrev Cause : Type 0
      Cause = (n : ℕ) × When n × (fed.answer ≡ n) × (n ≤ 8)

      cause : Cause
      cause = ⊎_elim opened (λ h. (closed, h, answered d (feed_closed r _ _ chunk h), omega arith)) (test? (is_open builtin r))
        where
          met : (m : Reaches) → Room (text_free m) (errors_free m) → OneOf (called m) → called m ≢ done → Cause
          met m room (inl k) not_done = absurd (not_done k)
          met m room (inr (inl k)) not_done =
              let w : Meets ill_formed = record { at = m; room = room; calls = k } in (ill_formed, w, answered d (is_met 1 refl w), omega arith)
          met m room (inr (inr (inl k))) not_done =
              let w : Meets nul = record { at = m; room = room; calls = k } in (nul, w, answered d (is_met 2 refl w), omega arith)
          met m room (inr (inr (inr k))) not_done =
              let w : Meets context_end = record { at = m; room = room; calls = k } in (context_end, w, answered d (is_met 7 refl w), omega arith)

          byte : (m : Reaches) → Stays r.context (length text) (length errors) m.g m.here m.byte → Cause
          byte m (inl full) =
              let w : LacksRoom = record { at = m; lacks = lacks-only _ _ full } in (room_used_up, w, answered d (is_full w), omega arith)
          byte m (inr w) = met m (room-only _ _ w.0) (called-one r.context (read_char (m.here.part ++ m.byte ∷ []))) w.1

          all : TakesAll → Cause
          all w = (done, w, answered d (is_all w), omega arith)

          fine : Fine → Cause
          fine f =
              walk_cases r.context Cause (length text) (length errors) (at_of r) chunk
              (λ g here took. all (record { fine = f; g = g; here = here; took = took }))
              (λ before b after g here split took. byte
              (record { fine = f; before = before; byte = b; after = after; split = split; g = g; here = here; took = took }))

          within : Open → length chunk ≤ 65536 → r.taken + length chunk ≤ 16777216 → Cause
          within o h k =
              ⊎_elim (λ l. (no_room, (o, h, k, l), answered d (feed_room r _ _ o chunk h k l), omega arith)) (λ l. fine (o, h, k, l))
              (room? (length text) (length errors))

          short : Open → length chunk ≤ 65536 → Cause
          short o h =
              ⊎_elim (λ k. (stream_too_long, (o, h, k), answered d (feed_stream_long r _ _ o chunk h k), omega arith)) (within o h)
              (below? 16777216 (r.taken + length chunk))

          opened : Open → Cause
          opened o =
              ⊎_elim (λ h. (too_long, (o, h), answered d (feed_long r _ _ o chunk h), omega arith)) (short o) (below? 65536 (length chunk))

      -- An answer is given for that alone.
      only : (n : ℕ) → fed.answer ≡ n → When n
      only n e = subst When (sym cause.2 ∙ e) cause.1

      -- The stream is open after bytes that are taken.
      open_before : (m : Reaches) → OpenAfter m.here
      open_before m = feed_open r chunk (length text) (length errors) m.fine m.before m.took (fewer m)

      open_all : (w : TakesAll) → OpenAfter w.here
      open_all w = feed_open r chunk (length text) (length errors) w.fine chunk w.took (omega arith)

      -- A line of a refusal.
      refusal : (n : ℕ) (W : Type 0) → (W → comes ≡ refuses n r) → (fed.answer ≡ n → W) → Kept fed.answer (n when W with Unchanged n)
      unfolding numbers
      refusal n W is only = record { only = only; given = λ w. answered d (is w); so = λ w. gives d (is w) }

      -- One that goes by what shows it.
      line : (n : ℕ) (W : Type 0) (T : W → Type 0) → (fed.answer ≡ n → W) → ((w : W) → (fed.answer ≡ n) × T w)
          → Kept fed.answer (n when W with ((w : W) → T w))
      line n W T only so = record { only = only; given = λ w. (so w).0; so = λ _ w. (so w).1 }

      -- Where the stream goes on from, and where it is closed with so many bytes before.
      abbrev on : At → Stream
      on here = record_of r.context here

      abbrev shut : List ℕ → Stream
      shut before = closed_by r.context (r.taken + length before)

      -- 8, 3, 4 and 5: nothing changes. 6: the bytes before one that lacks room are taken, what they release is written, and the stream is open.
      -- 1 and 2: the same, but that what is held is dropped, the place is the character's, and the stream is closed. 7: what is held is written. 0:
      -- all is taken.
      pub feed_table : Table fed.answer
          ((closed when Closed with Unchanged closed)
          ∷ (too_long when ChunkTooLong with Unchanged too_long)
          ∷ (stream_too_long when StreamTooLong with Unchanged stream_too_long)
          ∷ (no_room when TooLittleRoom with Unchanged no_room)
          ∷ (room_used_up when LacksRoom
          with ((w : LacksRoom) → let m = w.at in Gives room_used_up (length m.before) 0 m.g (on m.here) × OpenAfter m.here))
          ∷ (ill_formed when Meets ill_formed
          with ((w : Meets ill_formed) → let m = w.at in Gives ill_formed (length m.before) (place_of m.here) m.g (shut m.before)))
          ∷ (nul when Meets nul
          with ((w : Meets nul) → let m = w.at in Gives nul (length m.before) (place_of m.here) m.g (shut m.before)))
          ∷ (context_end when Meets context_end
          with ((w : Meets context_end) → let m = w.at in
          Gives context_end (length m.before) (place_of m.here) (m.g ⊕ finish builtin r.context m.here.st) (shut m.before)))
          ∷ (done when TakesAll with ((w : TakesAll) → Gives done (length chunk) 0 w.g (on w.here) × OpenAfter w.here))
          ∷ [])
      feed_table = record {
        each = (
          refusal closed Closed (feed_closed r _ _ chunk) (only closed),
          (
            refusal too_long ChunkTooLong (λ w. feed_long r _ _ w.0 chunk w.1) (only too_long),
            (
              refusal stream_too_long StreamTooLong (λ w. feed_stream_long r _ _ w.0 chunk w.1 w.2) (only stream_too_long),
              (
                refusal no_room TooLittleRoom (λ w. feed_room r _ _ w.0 chunk w.1 w.2 w.3) (only no_room),
                (
                  line room_used_up LacksRoom _ (only room_used_up) (λ w. (answered d (is_full w), (gives d (is_full w), open_before w.at))),
                  (
                    line ill_formed (Meets ill_formed) _ (only ill_formed)
                        (λ w. (answered d (is_met ill_formed refl w), gives d (is_dropped ill_formed refl refl w))),
                    (
                      line nul (Meets nul) _ (only nul) (λ w. (answered d (is_met nul refl w), gives d (is_dropped nul refl refl w))),
                      (
                        line context_end (Meets context_end) _ (only context_end)
                            (λ w. (answered d (is_met context_end refl w), gives d (is_met context_end refl w))),
                        (line done TakesAll _ (only done) (λ w. (answered d (is_all w), (gives d (is_all w), open_all w))), tt),
                      ),
                    ),
                  ),
                ),
              ),
            ),
          ),
        );
        no_other = one_of_nine fed.answer (omega (arith, cause.2, cause.3));
      }

  -- What 5, 1 and 0 are given for at the end: too little room; an incomplete character; none.
  abbrev pub EndNoRoom : Type 0
  EndNoRoom = Open × NoRoom (length text) (length errors)

  abbrev pub EndInside : Type 0
  EndInside = Open × Room (length text) (length errors) × (0 < r.part_count)

  abbrev pub EndWhole : Type 0
  EndWhole = Open × Room (length text) (length errors) × (r.part_count ≡ 0)

  -- The answers at the end.
  abbrev EndOneOf : ℕ → Type 0
  EndOneOf n = (n ≡ closed) ⊎ ((n ≡ no_room) ⊎ ((n ≡ ill_formed) ⊎ ((n ≡ done) ⊎ ⊥)))

  module _ (d : Feeds (end_of builtin r (length text) (length errors)) text errors fed text' errors') where
    -- What an answer is given for.
    abbrev EndWhen : ℕ → Type 0
    EndWhen n =
        MatchBool (eqb n closed) Closed
        (MatchBool (eqb n no_room) EndNoRoom
        (MatchBool (eqb n ill_formed) EndInside
        EndWhole))

    -- What the call comes to in each case.
    abbrev end_comes : Outcome
    end_comes = end_of builtin r (length text) (length errors)

    is_inside : EndInside → end_comes ≡ outcome ill_formed 0 (place_of (at_of r)) nothing (closed_by r.context r.taken)
    is_inside w = end_inside r _ _ w.0 w.1.0 w.1.1 w.2

    is_whole : EndWhole → end_comes ≡ outcome done 0 0 (finish builtin r.context (st_of r.held)) (closed_by r.context r.taken)
    is_whole w = end_done r _ _ w.0 w.1.0 w.1.1 (omega (arith, w.2))

    -- Some answer, for what it is given for.
    end_cause : (n : ℕ) × EndWhen n × (fed.answer ≡ n) × EndOneOf n
    end_cause = ⊎_elim opened (λ h. (closed, h, answered d (end_closed r _ _ h), inl refl)) (test? (is_open builtin r))
      where
        room : Open → Room (length text) (length errors) → (n : ℕ) × EndWhen n × (fed.answer ≡ n) × EndOneOf n
        room o h =
            ⊎_elim (λ k. (ill_formed, (o, h, k), answered d (is_inside (o, h, k)), inr (inr (inl refl))))
            (λ k. let w : EndWhole = (o, h, omega arith) in (done, w, answered d (is_whole w), inr (inr (inr (inl refl))))) (below? 0 r.part_count)

        opened : Open → (n : ℕ) × EndWhen n × (fed.answer ≡ n) × EndOneOf n
        opened o =
            ⊎_elim (λ h. (no_room, (o, h), answered d (end_room r _ _ o h), inr (inl refl))) (room o) (room? (length text) (length errors))

    -- An answer is given for that alone.
    end_only : (n : ℕ) → fed.answer ≡ n → EndWhen n
    end_only n e = subst EndWhen (sym end_cause.2 ∙ e) end_cause.1

    -- 8 and 5: nothing changes. 1, an incomplete character: nothing is written, what is held is dropped, and the stream is closed. 0: what is held is
    -- written, and the stream is closed.
    pub end_table : let shut = closed_by r.context r.taken in Table fed.answer
        ((closed when Closed with Unchanged closed)
        ∷ (no_room when EndNoRoom with Unchanged no_room)
        ∷ (ill_formed when EndInside with Gives ill_formed 0 (place_of (at_of r)) nothing shut)
        ∷ (done when EndWhole with Gives done 0 0 (finish builtin r.context (st_of r.held)) shut)
        ∷ [])
    unfolding numbers
    end_table = record {
      each = (
        end_line closed Closed _ (end_only closed) (λ w. (answered d (end_closed r _ _ w), gives d (end_closed r _ _ w))),
        (
          end_line no_room EndNoRoom _ (end_only no_room)
              (λ w. (answered d (end_room r _ _ w.0 w.1), gives d (end_room r _ _ w.0 w.1))),
          (
            end_line ill_formed EndInside _ (end_only ill_formed) (λ w. (answered d (is_inside w), gives d (is_inside w))),
            (end_line done EndWhole _ (end_only done) (λ w. (answered d (is_whole w), gives d (is_whole w))), tt),
          ),
        ),
      );
      no_other = subst EndOneOf (sym end_cause.2) end_cause.3;
    }
      where
        end_line : (n : ℕ) (W T : Type 0) → (fed.answer ≡ n → W) → (W → (fed.answer ≡ n) × T) → Kept fed.answer (n when W with T)
        end_line n W T only so = record { only = only; given = λ w. (so w).0; so = λ w. (so w).1 }
