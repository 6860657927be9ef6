-- What a call of the chunk decoder comes to, one law for each kind of return.
use Rattle.std.specs.Prelude.{if◌then◌else◌, Option, Some, None, is_some}
use Prim.Native.Nat.{ℕ, ◌+◌, ◌-◌, ◌/◌, ◌≤◌, ◌<◌}
use mathlib.Core.Path.{◌≡◌, refl, sym, ◌∙◌, ap, subst}
use mathlib.Core.List.{List}
use mathlib.Core.Bool.{Bool, true, false, not}
use mathlib.Core.Logic.{◌⊎◌}
use native.Mathlib.Omega.{arith}
use lib.Dec.{ltb, leb}
use lib.ListN.{length, take, length-take}
use borrow.Author.Tests.{leb-true, lt-ltb, le-ltb, ltb-true, ltb-false, not-true, not-false}
use Rattle.lists.proofs.Choice.{if_both, no_way, and_true}
use Rattle.standard.specs.declared.Context.{Context}
use Rattle.standard.specs.Answers.{done, ill_formed, too_long, stream_too_long, no_room, closed}
use Rattle.standard.specs.Errors.{numbers}
use Rattle.standard.specs.NameList.{builtin}
use Rattle.standard.specs.Reading.{Reading}
use Rattle.decoder.specs.Writing.{Wrote}
use Rattle.standard.specs.Utf8.{read_char}
use Rattle.standard.proofs.Joining.{numbers-length}
use Rattle.decoder.specs.declared.feeding.Walked as code
use Rattle.decoder.specs.declared.stream.Held.{Held}
use Rattle.decoder.specs.declared.stream.Stream.{Stream}
use Rattle.decoder.specs.declared.stream.Fed.{Fed}
use Rattle.decoder.specs.Machine.{nothing, finish}
use Rattle.decoder.specs.Stream.{
  At,
  place_of,
  Walked,
  walk,
  lacks_room,
  held_of,
  record_of,
  closed_by,
  st_of,
  at_of,
  holds,
  is_part,
  is_open,
  Outcome,
  outcome,
  refuses,
  closes,
  walked_to,
  feed_of,
  end_of,
  fed_of,
  Feeds,
}
use Rattle.decoder.specs.Turns.{Fit}
use Rattle.decoder.specs.Feeding.{refusal_of, OpenAt, Open, Walks}
use Rattle.decoder.proofs.Open.{open_fits, held_back, fit_of, at_back}
use Rattle.decoder.proofs.Room.{lacks-so, room-so, room-only}
use Rattle.decoder.proofs.Taking.{open_record}

-- What a record says that is open.
pub record Opened (r : Stream) : Type 0 where
  pub count : r.held.count ≤ 32
  pub part : r.part_count ≤ 3
  pub long : r.taken ≤ 16777216
  pub stored : holds builtin r.held.state (take r.held.count r.held.store) ≡ true
  pub begun : is_part (read_char (take r.part_count r.part)) ≡ true
  pub mark : r.held.place ≤ r.taken
  pub were : r.held.count + r.part_count ≤ r.taken

-- An open record says that.
pub opened : (r : Stream) → is_open builtin r ≡ true → Opened r
unfolding is_open
opened r e =
    let g = and_true _ (leb (r.held.count + r.part_count) r.taken) e in
    let f = and_true _ (leb r.held.place r.taken) g.0 in
    let p = and_true _ (is_part (read_char (take r.part_count r.part))) f.0 in
    let h = and_true _ (holds builtin r.held.state (take r.held.count r.held.store)) p.0 in
    let t = and_true _ (leb r.taken 16777216) h.0 in
    let c = and_true (leb r.held.count 32) (leb r.part_count 3) t.0 in
    record {
      count = leb-true r.held.count 32 c.0;
      part = leb-true r.part_count 3 c.1;
      long = leb-true r.taken 16777216 t.1;
      stored = h.1;
      begun = p.1;
      mark = leb-true r.held.place r.taken f.1;
      were = leb-true (r.held.count + r.part_count) r.taken g.1;
    }

module _ (h : Held) {x : Held} (stored : holds builtin h.state (take h.count h.store) ≡ true) (is : x ≡ held_of (st_of h)) where
  -- What is held in the record of its state is of the same state.
  pub same_state : st_of x ≡ st_of h
  same_state = ap st_of is ∙ held_back (st_of h) (open_fits h stored)

  -- It is within the limits.
  pub is_fit : Fit x
  is_fit = subst Fit (sym is) (fit_of (st_of h) (open_fits h stored))

module _ (r : Stream) (t e : ℕ) where
  -- The end: 8.
  pub end_closed : is_open builtin r ≡ false → end_of builtin r t e ≡ refuses closed r
  unfolding end_of
  end_closed o = rw o

  -- A chunk: 8.
  pub feed_closed : (chunk : List ℕ) → is_open builtin r ≡ false → feed_of builtin r chunk t e ≡ refuses closed r
  unfolding feed_of
  feed_closed chunk o = rw o

  module _ (o : is_open builtin r ≡ true) where
    -- The end: 5.
    pub end_room : (t < 64) ⊎ (e < 8) → end_of builtin r t e ≡ refuses no_room r
    unfolding end_of
    end_room h = rw (o, lacks-so t e h)

    -- 1.
    pub end_inside : 64 ≤ t → 8 ≤ e → 0 < r.part_count
        → end_of builtin r t e ≡ outcome ill_formed 0 (place_of (at_of r)) nothing (closed_by r.context r.taken)
    unfolding end_of
    end_inside h i k = rw (o, room-so t e (h, i), lt-ltb 0 r.part_count k)

    -- 0.
    pub end_done : 64 ≤ t → 8 ≤ e → r.part_count ≤ 0
        → end_of builtin r t e ≡ outcome done 0 0 (finish builtin r.context (st_of r.held)) (closed_by r.context r.taken)
    unfolding end_of
    end_done h i k = rw (o, room-so t e (h, i), le-ltb 0 r.part_count k)

    module _ (chunk : List ℕ) where
      -- A chunk: 3.
      pub feed_long : 65536 < length chunk → feed_of builtin r chunk t e ≡ refuses too_long r
      unfolding feed_of
      feed_long h = rw (o, lt-ltb 65536 (length chunk) h)

      module _ (short : length chunk ≤ 65536) where
        -- 4.
        pub feed_stream_long : 16777216 < r.taken + length chunk → feed_of builtin r chunk t e ≡ refuses stream_too_long r
        unfolding feed_of
        feed_stream_long h = rw (o, le-ltb 65536 (length chunk) short, lt-ltb 16777216 (r.taken + length chunk) h)

        module _ (fits : r.taken + length chunk ≤ 16777216) where
          -- 5.
          pub feed_room : (t < 64) ⊎ (e < 8) → feed_of builtin r chunk t e ≡ refuses no_room r
          unfolding feed_of
          feed_room h = rw (o, le-ltb 65536 (length chunk) short, le-ltb 16777216 (r.taken + length chunk) fits, lacks-so t e h)

          -- What its bytes come to.
          pub feed_walks : 64 ≤ t → 8 ≤ e
              → feed_of builtin r chunk t e ≡ walked_to r.context r.taken (walk builtin r.context t e (at_of r) chunk)
          unfolding feed_of
          feed_walks h i =
              rw (o, le-ltb 65536 (length chunk) short, le-ltb 16777216 (r.taken + length chunk) fits, room-so t e (h, i))

-- What is so where a chunk of k bytes is not refused.
pub record NotRefused (r : Stream) (k t e : ℕ) : Type 0 where
  pub stands_open : is_open builtin r ≡ true
  pub short : k ≤ 65536
  pub within : r.taken + k ≤ 16777216
  pub text_room : 64 ≤ t
  pub errors_room : 8 ≤ e

-- The number of an answer.
abbrev number : Option ℕ → ℕ
number None = 0
number (Some a) = a

-- What a chunk of k bytes is refused with before any of them is read, if it is.
module _ (r : Stream) (k t e : ℕ) {a : Option ℕ} (answers : a ≡ refusal_of builtin r k t e) where
  pub not_refused : a ≡ None → NotRefused r k t e
  unfolding refusal_of
  not_refused none =
      let f = by (is_open builtin r) (ltb 65536 k) (ltb 16777216 (r.taken + k)) (lacks_room t e) (sym answers ∙ none) in
      let room = room-only t e f.3 in
      record {
        stands_open = f.0;
        short = ltb-false 65536 k f.1;
        within = ltb-false 16777216 (r.taken + k) f.2;
        text_room = room.0;
        errors_room = room.1;
      }
    where
      by : (o l m x : Bool)
          → (if not o then Some closed else if l then Some too_long else if m then Some stream_too_long else if x then Some no_room else None) ≡ None
          → (o ≡ true) × (l ≡ false) × (m ≡ false) × (x ≡ false)
      by false l m x h = no_way (ap is_some h)
      by true true m x h = no_way (ap is_some h)
      by true false true x h = no_way (ap is_some h)
      by true false false true h = no_way (ap is_some h)
      by true false false false h = (refl, refl, refl, refl)

  module _ {answer : ℕ} (some : a ≡ Some answer) where
    -- What a call comes to that is refused with another number is refused with this one.
    refused_so : {n : ℕ} → a ≡ Some n → refuses n r ≡ refuses answer r
    refused_so is = ap (λ (o : Option ℕ). refuses (number o) r) (sym is ∙ some)

    none-way : {P : Type 0} → a ≡ None → P
    none-way is = no_way (ap is_some (sym some ∙ is))

    -- A chunk that is refused.
    pub feed_refused : (chunk : List ℕ) → length chunk ≡ k → feed_of builtin r chunk t e ≡ refuses answer r
    unfolding feed_of refusal_of
    feed_refused chunk long = rw long (by (is_open builtin r) (ltb 65536 k) (ltb 16777216 (r.taken + k)) (lacks_room t e) _ answers)
      where
        by : (o l m x : Bool) (walks : Outcome)
            → a ≡ (if not o then Some closed else if l then Some too_long else if m then Some stream_too_long else if x then Some no_room else None)
            → (if not o then refuses closed r else if l then refuses too_long r else if m then refuses stream_too_long r
            else if x then refuses no_room r else walks)
            ≡ refuses answer r
        by false l m x walks is = refused_so is
        by true true m x walks is = refused_so is
        by true false true x walks is = refused_so is
        by true false false true walks is = refused_so is
        by true false false false walks is = none-way is

    -- An end that is refused, as a chunk of no bytes is.
    pub end_refused : k ≡ 0 → end_of builtin r t e ≡ refuses answer r
    unfolding end_of refusal_of
    end_refused zero =
        by (is_open builtin r) (ltb 65536 k) (ltb 16777216 (r.taken + k)) (lacks_room t e) _ (le-ltb 65536 k (omega arith))
        (λ o. le-ltb 16777216 (r.taken + k) (omega (arith, (opened r o).long))) answers
      where
        by : (o l m x : Bool) (ends : Outcome) → l ≡ false → (o ≡ true → m ≡ false)
            → a ≡ (if not o then Some closed else if l then Some too_long else if m then Some stream_too_long else if x then Some no_room else None)
            → (if not o then refuses closed r else if x then refuses no_room r else ends) ≡ refuses answer r
        by false l m x ends short within is = refused_so is
        by true true m x ends short within is = no_way short
        by true false true x ends short within is = no_way (within refl)
        by true false false true ends short within is = refused_so is
        by true false false false ends short within is = none-way is

-- What holds of each of its returns holds of what a call comes to.
module _ (P : Outcome → Type 0) (r : Stream) (t e : ℕ) where
  -- A chunk.
  pub feed_cases : (chunk : List ℕ) → (is_open builtin r ≡ false → P (refuses closed r)) → (65536 < length chunk → P (refuses too_long r))
      → (16777216 < r.taken + length chunk → P (refuses stream_too_long r)) → (lacks_room t e ≡ true → P (refuses no_room r))
      → (is_open builtin r ≡ true → r.taken + length chunk ≤ 16777216 → lacks_room t e ≡ false
      → P (walked_to r.context r.taken (walk builtin r.context t e (at_of r) chunk)))
      → P (feed_of builtin r chunk t e)
  unfolding feed_of
  feed_cases chunk eight three four five walks =
      if_both P (not (is_open builtin r)) _ _ (λ c. eight (not-true (is_open builtin r) c))
      (λ o. if_both P (ltb 65536 (length chunk)) _ _ (λ h. three (ltb-true 65536 (length chunk) h))
      (λ h. if_both P (ltb 16777216 (r.taken + length chunk)) _ _ (λ k. four (ltb-true 16777216 (r.taken + length chunk) k))
      (λ k. if_both P (lacks_room t e) _ _ five
      (walks (not-false (is_open builtin r) o) (ltb-false 16777216 (r.taken + length chunk) k)))))

  -- The end.
  pub end_cases : (is_open builtin r ≡ false → P (refuses closed r)) → (lacks_room t e ≡ true → P (refuses no_room r))
      → (0 < r.part_count → P (outcome ill_formed 0 (place_of (at_of r)) nothing (closed_by r.context r.taken)))
      → (is_open builtin r ≡ true → lacks_room t e ≡ false → r.part_count ≤ 0
      → P (outcome done 0 0 (finish builtin r.context (st_of r.held)) (closed_by r.context r.taken)))
      → P (end_of builtin r t e)
  unfolding end_of
  end_cases eight five one none =
      if_both P (not (is_open builtin r)) _ _ (λ c. eight (not-true (is_open builtin r) c))
      (λ o. if_both P (lacks_room t e) _ _ five
      (λ room. if_both P (ltb 0 r.part_count) _ _ (λ h. one (ltb-true 0 r.part_count h))
      (λ h. none (not-false (is_open builtin r) o) room (ltb-false 0 r.part_count h))))

-- A call that comes to nothing writes nothing.
pub feeds-nothing : {o : Outcome} {answer taken place : ℕ} {r : Stream} {text errors : List ℕ} {fed : Fed} → o ≡ outcome answer taken place nothing r
    → fed ≡ fed_of (outcome answer taken place nothing r) → Feeds o text errors fed text errors
unfolding numbers
feeds-nothing e f = rw e (record { answered = f; texts = refl; numbers_of = refl })

-- A call that comes to a reading writes that.
pub wrote-feeds : {reads : Reading} {answer taken place w e : ℕ} {r : Stream} {text errors text' errors' : List ℕ} {fed : Fed}
    → Wrote reads text 0 text' w errors 0 errors' e
    → fed ≡ record { answer = answer; taken = taken; text = w; errors = e / 2; place = place; «record» = r }
    → Feeds (outcome answer taken place reads r) text errors fed text' errors'
unfolding fed_of
wrote-feeds {reads} {w = w} {e = e} wrote f =
    let g : w ≡ length reads.text = omega (arith, wrote.texts.next_is) in
    let h : e / 2 ≡ length reads.errors = omega (arith, wrote.numbers_of.next_is, numbers-length reads.errors) in
    record { answered = f ∙ rw (g, h); texts = wrote.texts.new_is; numbers_of = wrote.numbers_of.new_is }

module _ {context : Context} {w : Walked} {text errors text' errors' : List ℕ} {walked : code.Walked}
    (h : Walks context w text 0 errors 0 walked text' errors') where
  -- A walk of the code is what a call comes to.
  pub walk_feeds : {fed : Fed} (before : ℕ) → fed ≡ record {
    answer = walked.answer;
    taken = walked.«record».taken - before;
    text = walked.ends.text;
    errors = walked.ends.errors / 2;
    place = if closes walked.answer then walked.«record».taken - walked.«record».part_count else 0;
    «record» = if closes walked.answer then closed_by context walked.«record».taken else walked.«record»;
  } → Feeds (walked_to context before w) text errors fed text' errors'
  unfolding walked_to record_of
  walk_feeds {fed} before e = go (closes w.answer) (e ∙ rw (h.answered, h.recorded))
    where
      go : (t : Bool) → fed ≡ record {
        answer = w.answer;
        taken = w.stop.taken - before;
        text = walked.ends.text;
        errors = walked.ends.errors / 2;
        place = if t then place_of w.stop else 0;
        «record» = if t then closed_by context w.stop.taken else record_of context w.stop;
      }
          → Feeds (if t then outcome w.answer (w.stop.taken - before) (place_of w.stop) w.gives (closed_by context w.stop.taken)
          else outcome w.answer (w.stop.taken - before) 0 w.gives (record_of context w.stop)) text errors fed text' errors'
      go true f = wrote-feeds h.wrote f
      go false f = wrote-feeds h.wrote f

-- Where an open record's stream is.
pub opened-at : (r : Stream) → Opened r → OpenAt (at_of r)
opened-at r op = record {
  fits = open_fits r.held op.stored;
  few = omega (arith, length-take r.part_count r.part, op.part);
  begun = op.begun;
  there = omega (arith, length-take r.part_count r.part, op.were);
}

module _ (r : Stream) (op : Opened r) {x : Stream} (is : x ≡ record_of r.context (at_of r)) where
  -- The same record with nothing past its counts.
  pub cleared_open : Open x
  cleared_open = subst Open (sym is) (open_record r.context (opened-at r op))

  -- It says where the same stream is.
  cleared_at : at_of x ≡ at_of r
  cleared_at = ap at_of is ∙ at_back r.context (at_of r) (open_fits r.held op.stored)

  cleared_context : x.context ≡ r.context
  unfolding record_of
  cleared_context = ap (λ (y : Stream). y.context) is

  pub cleared_taken : x.taken ≡ r.taken
  unfolding record_of
  cleared_taken = ap (λ (y : Stream). y.taken) is

  -- A walk from it is a walk from the record.
  pub cleared_walk : (chunk : List ℕ) {text errors text' errors' : List ℕ} {walked : code.Walked}
      → Walks x.context (walk builtin x.context (length text) (length errors) (at_of x) chunk) text 0 errors 0 walked text' errors'
      → Walks r.context (walk builtin r.context (length text) (length errors) (at_of r) chunk) text 0 errors 0 walked text' errors'
  cleared_walk chunk {text} {errors} {text'} {errors'} {walked} h =
      subst (λ (y : Context × At). Walks y.0 (walk builtin y.0 (length text) (length errors) y.1 chunk) text 0 errors 0 walked text' errors')
      (λ i. (cleared_context i, cleared_at i)) h
