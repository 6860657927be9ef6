-- Document 01, 'The chunk decoder', the held rule: after any calls from a new stream, what was written is what the rule releases of the bytes
-- that were taken. `released` is the rule, by itself.
use Rattle.std.specs.Prelude.{if◌then◌else◌}
use Prim.Native.Nat.{ℕ, ◌+◌, ◌≤◌}
use mathlib.Core.Path.{◌≡◌, refl, sym, ◌∙◌, ap, subst}
use mathlib.Core.List.{List, [], ◌++◌, append-nil}
use mathlib.Core.Bool.{Bool, true, false, ◌||◌, ◌&&◌}
use mathlib.Core.Logic.{⊎_elim}
use native.Mathlib.Omega.{arith}
use lib.Dec.{leb, eqb}
use lib.ListN.{length, take, length-append}
use lib.Seq.{length-take-le, take-length}
use borrow.Author.Tests.{eqb-true}
use Rattle.lists.proofs.Choice.{no_way, test?}
use Rattle.standard.specs.declared.Context.{Context}
use Rattle.standard.specs.Answers.{done, ill_formed, context_end, longest_stream}
use Rattle.standard.specs.NameList.{builtin}
use Rattle.standard.specs.Reading as Reading
use Rattle.standard.specs.Reading.{Stop, stop_of, covered, Reading, ◌⊕◌, decode}
use Rattle.standard.proofs.Joining.{⊕-assoc, ⊕-none}
use Rattle.decoder.specs.declared.stream.Stream.{Stream}
use Rattle.decoder.specs.Held.{released}
use Rattle.decoder.specs.Machine.{nothing, finish}
use Rattle.decoder.specs.Stream.{stops_at, Outcome, holds, is_open, held_of, record_of, closed_by, closes, feed_of, end_of, new_stream, fed_of}
use Rattle.decoder.proofs.Bytes.{start}
use Rattle.decoder.proofs.StreamReads.{go_held, go_ended}
use Rattle.decoder.proofs.Tidy.{builtin_tidy}
use Rattle.decoder.proofs.Open.{fits_count}
use Rattle.decoder.proofs.Counting.{feed-counts, end-counts}
use Rattle.decoder.proofs.Cuts.{go-end}
use Rattle.decoder.proofs.Standing.{Standing, Closing, Comes, goes, stops, sound-start, standing-new, standing_taken, standing_open, feed_is, end_is}

-- A stream is still open, or an answer closed it.
pub data Phase : Type 0 where
  Still : Phase
  By : (answer : ℕ) → Phase

-- After a chunk that was answered so, and after the end.
abbrev pub fed : Phase → ℕ → Phase
fed phase answer = if closes answer then By answer else phase

abbrev pub ended : Phase → ℕ → Phase
ended phase answer = if eqb answer done || eqb answer ill_formed then By answer else phase

-- Calls from a new stream, in any order and with any chunks and rooms: the record, the bytes taken, what was given, and the phase.
pub data Calls (context : Context) : Stream → List ℕ → Reading → Phase → Type 0 where
  new : Calls context (new_stream context) [] nothing Still
  feeds : {r : Stream} {t : List ℕ} {g : Reading} {phase : Phase} → Calls context r t g phase → (chunk : List ℕ) (text errors : ℕ) (o : Outcome)
      → o ≡ feed_of builtin r chunk text errors → Calls context o.record' (t ++ take o.taken chunk) (g ⊕ o.gives) (fed phase o.answer)
  ends : {r : Stream} {t : List ℕ} {g : Reading} {phase : Phase} → Calls context r t g phase → (text errors : ℕ) (o : Outcome)
      → o ≡ end_of builtin r text errors → Calls context o.record' t (g ⊕ o.gives) (ended phase o.answer)

-- The sum of the counts of bytes taken that the calls answer.
unfoldable pub taken_sum : {context : Context} {r : Stream} {t : List ℕ} {g : Reading} {phase : Phase} → Calls context r t g phase → ℕ
taken_sum new = 0
taken_sum (feeds c chunk text errors o is) = taken_sum c + o.taken
taken_sum (ends c text errors o is) = taken_sum c + o.taken

-- What is given of the bytes taken: what the held rule releases, and after 0 or 7 all of them.
abbrev pub Gave : Context → List ℕ → Reading → Phase → Type 0
Gave context t g Still = g ≡ released builtin context t
Gave context t g (By answer) = g ≡ (if eqb answer done || eqb answer context_end then decode builtin context t else released builtin context t)

-- A record as the calls left it.
abbrev pub AsLeft : Context → Stream → List ℕ → Reading → Phase → Type 0
AsLeft context r t g Still = Standing context r t g
AsLeft context r t g (By answer) = (r ≡ closed_by context (length t)) × Gave context t g (By answer)

-- The record of a stream that closed counts as closed.
pub closed-closed : (context : Context) (n : ℕ) → is_open builtin (closed_by context n) ≡ false
unfolding is_open closed_by holds
closed-closed context n = by (leb n longest_stream) _ _ _
  where
    by : (t p a b : Bool) → (((t && false) && p) && a) && b ≡ false
    by true p a b = refl
    by false p a b = refl

-- No answer closed the stream.
abbrev pub is_still : Phase → Bool
is_still Still = true
is_still (By answer) = false

-- As long as that is so it counts as open, and then as closed.
left_open : (context : Context) (r : Stream) (t : List ℕ) (g : Reading) (phase : Phase) → AsLeft context r t g phase
    → is_open builtin r ≡ is_still phase
left_open context r t g Still s = standing_open s
left_open context r t g (By answer) w = ap (is_open builtin) w.0 ∙ closed-closed context (length t)

-- An answer that closes a stream while it is fed is not 0.
not_done : (answer : ℕ) → closes answer ≡ true → eqb answer done ≡ false
not_done answer e = ⊎_elim (λ f. no_way (sym e ∙ ap closes (eqb-true answer done f))) (λ f. f) (test? (eqb answer done))

-- Bytes that are all covered.
all-covered : (context : Context) (t : List ℕ) → stop_of context t ≡ Reading.stops done (length t) → covered context t ≡ t
all-covered context t e = ap (λ (x : Stop). take x.place t) e ∙ take-length t

-- Nothing was taken and nothing given.
same : (context : Context) (r : Stream) (t : List ℕ) (g : Reading) (phase : Phase) → AsLeft context r t g phase
    → AsLeft context r (t ++ []) (g ⊕ nothing) phase
same context r t g phase as_left =
    subst (λ (x : List ℕ × Reading). AsLeft context r x.0 x.1 phase) (λ i. (sym (append-nil t) i, sym (⊕-none g) i)) as_left

module _ {context : Context} {r : Stream} {t : List ℕ} {g : Reading} (s : Standing context r t g) where
  -- A call that closes the stream.
  closing : (chunk : List ℕ) {o : Outcome} → closes o.answer ≡ true → Closing s chunk o
      → AsLeft context o.record' (t ++ take o.taken chunk) (g ⊕ o.gives) (By o.answer)
  closing chunk {o} e c = (c.record_is ∙ ap (closed_by context) (sym long), gave (eqb o.answer context_end) refl)
    where
      took : List ℕ
      took = t ++ take o.taken chunk

      long : length (t ++ take o.taken chunk) ≡ length t + o.taken
      long = length-append t (take o.taken chunk) ∙ ap (λ (n : ℕ). length t + n) (length-take-le o.taken chunk c.within)

      gave : (u : Bool) → eqb o.answer context_end ≡ u → Gave context took (g ⊕ o.gives) (By o.answer)
      gave true f =
          let seven = eqb-true o.answer context_end f in
          let stopped = c.stopped ∙ ap (λ (a : ℕ). stops_at a (g ⊕ o.gives) c.stop) seven in
          let none = go-end context start (t ++ chunk) sound-start stopped in
          let whole = go_ended builtin context builtin_tidy took (g ⊕ c.before) c.stop c.took none in
          rw (not_done o.answer e, f)
          (ap (λ (x : Reading). g ⊕ x) (c.gave ∙ ap (λ (x : Bool). c.before ⊕ (if x then finish builtin context c.stop.st else nothing)) f)
          ∙ sym (⊕-assoc g c.before (finish builtin context c.stop.st)) ∙ whole.0
          ∙ ap (decode builtin context) (all-covered context took whole.1))
      gave false f =
          rw (not_done o.answer e, f)
          (ap (λ (x : Reading). g ⊕ x)
          (c.gave ∙ ap (λ (x : Bool). c.before ⊕ (if x then finish builtin context c.stop.st else nothing)) f ∙ ⊕-none c.before)
          ∙ (go_held builtin context builtin_tidy took (g ⊕ c.before) c.stop c.took).0)

  -- A chunk.
  after_feed : (chunk : List ℕ) (text errors : ℕ)
      → let o = feed_of builtin r chunk text errors in
      AsLeft context o.record' (t ++ take o.taken chunk) (g ⊕ o.gives) (fed Still o.answer)
  after_feed chunk text errors =
      feed_is s (λ o. AsLeft context o.record' (t ++ take o.taken chunk) (g ⊕ o.gives) (fed Still o.answer)) chunk text errors
      (same context r t g Still s) (same context r t g Still s) (same context r t g Still s) by
    where
      by : (o : Outcome) → Comes s chunk o → AsLeft context o.record' (t ++ take o.taken chunk) (g ⊕ o.gives) (fed Still o.answer)
      by o (goes e says all some within on) = rw e on
      by o (stops e c) = rw e (closing chunk e c)

  -- The end.
  after_end : (text errors : ℕ) → let o = end_of builtin r text errors in AsLeft context o.record' t (g ⊕ o.gives) (ended Still o.answer)
  after_end text errors =
      end_is s (λ o. AsLeft context o.record' t (g ⊕ o.gives) (ended Still o.answer)) text errors
      (subst (λ (x : Reading). Standing context r t x) (sym (⊕-none g)) s)
      (λ h. (refl, ⊕-none g ∙ (go_held builtin context builtin_tidy t g s.here s.went).0))
      (λ h. let whole = go_ended builtin context builtin_tidy t g s.here s.went h in
      (refl, whole.0 ∙ ap (decode builtin context) (all-covered context t whole.1)))

module _ (context : Context) (r : Stream) (t : List ℕ) (g : Reading) where
  -- A closed stream refuses every chunk.
  feed_left : (phase : Phase) → AsLeft context r t g phase → (chunk : List ℕ) (text errors : ℕ)
      → let o = feed_of builtin r chunk text errors in
      AsLeft context o.record' (t ++ take o.taken chunk) (g ⊕ o.gives) (fed phase o.answer)
  unfolding feed_of
  feed_left Still s chunk text errors = after_feed s chunk text errors
  feed_left (By answer) w chunk text errors = rw (left_open context r t g (By answer) w) (same context r t g (By answer) w)

  -- And every end.
  end_left : (phase : Phase) → AsLeft context r t g phase → (text errors : ℕ)
      → let o = end_of builtin r text errors in AsLeft context o.record' t (g ⊕ o.gives) (ended phase o.answer)
  unfolding end_of
  end_left Still s text errors = after_end s text errors
  end_left (By answer) w text errors =
      rw (left_open context r t g (By answer) w) (subst (λ (x : Reading). AsLeft context r t x (By answer)) (sym (⊕-none g)) w)

-- Every call leaves it so.
pub as_left : {context : Context} {r : Stream} {t : List ℕ} {g : Reading} {phase : Phase} → Calls context r t g phase → AsLeft context r t g phase
as_left {context} new = standing-new context
as_left {context} (feeds {r} {t} {g} {phase} c chunk text errors o is) =
    subst (λ (o : Outcome). AsLeft context o.record' (t ++ take o.taken chunk) (g ⊕ o.gives) (fed phase o.answer)) (sym is)
    (feed_left context r t g phase (as_left c) chunk text errors)
as_left {context} (ends {r} {t} {g} {phase} c text errors o is) =
    subst (λ (o : Outcome). AsLeft context o.record' t (g ⊕ o.gives) (ended phase o.answer)) (sym is)
    (end_left context r t g phase (as_left c) text errors)

-- No call takes more bytes than its chunk has, whatever the record.
pub taken_within : (r : Stream) (chunk : List ℕ) (text errors : ℕ) → (feed_of builtin r chunk text errors).taken ≤ length chunk
taken_within r chunk text errors = (feed-counts r chunk text errors).1

-- The counts of a call's result: bytes taken, text bytes and errors written.
pub counts : (o : Outcome) → ((fed_of o).taken ≡ o.taken) × ((fed_of o).text ≡ length o.gives.text) × ((fed_of o).errors ≡ length o.gives.errors)
unfolding fed_of
counts o = (refl, refl, refl)

-- The record's taken count is the sum of those that the calls answer.
taken-sum : {context : Context} {r : Stream} {t : List ℕ} {g : Reading} {phase : Phase} (c : Calls context r t g phase) → r.taken ≡ taken_sum c
unfolding taken_sum new_stream record_of
taken-sum new = refl
taken-sum (feeds {r} c chunk text errors o is) =
    subst (λ (x : Outcome). x.record'.taken ≡ taken_sum c + x.taken) (sym is)
    ((feed-counts r chunk text errors).0 ∙ ap (λ (n : ℕ). n + (feed_of builtin r chunk text errors).taken) (taken-sum c))
taken-sum (ends {r} c text errors o is) =
    subst (λ (x : Outcome). x.record'.taken ≡ taken_sum c + x.taken) (sym is)
    (omega (arith, end-counts r text errors, taken-sum c))

-- The record's taken count is the sum of the taken counts and the number of bytes taken, and what was given is what the rule releases of these.
pub held : {context : Context} {r : Stream} {t : List ℕ} {g : Reading} {phase : Phase} (c : Calls context r t g phase)
    → (r.taken ≡ taken_sum c) × (r.taken ≡ length t) × Gave context t g phase
unfolding closed_by
held {context} {r} {t} {g} {phase} c = let w = by phase (as_left c) in (taken-sum c, w.0, w.1)
  where
    by : (phase : Phase) → AsLeft context r t g phase → (r.taken ≡ length t) × Gave context t g phase
    by Still s = (standing_taken s, (go_held builtin context builtin_tidy t g s.here s.went).0)
    by (By answer) w = (taken w.0, w.1)
      where
        taken : r ≡ closed_by context (length t) → r.taken ≡ length t
        taken e = ap (λ (x : Stream). x.taken) e

-- Document 01: a new stream is open.
pub new_open : (context : Context) → is_open builtin (new_stream context) ≡ true
new_open context = standing_open (standing-new context)

-- Only an answer whose line says closed closes it: until one is given the stream counts as open, and from then on as closed.
pub open_until_closed : {context : Context} {r : Stream} {t : List ℕ} {g : Reading} {phase : Phase} → Calls context r t g phase
    → is_open builtin r ≡ is_still phase
open_until_closed {context} {r} {t} {g} {phase} c = left_open context r t g phase (as_left c)

-- Document 01: the store of held bytes has at most 32, whatever the source.
pub store-fits : {context : Context} {r : Stream} {t : List ℕ} {g : Reading} {phase : Phase} → Calls context r t g phase → r.held.count ≤ 32
unfolding closed_by record_of held_of
store-fits {context} {r} {t} {g} {phase} c = by phase (as_left c)
  where
    by : (phase : Phase) → AsLeft context r t g phase → r.held.count ≤ 32
    by Still s = subst (λ (x : Stream). x.held.count ≤ 32) (sym s.recorded) (fits_count s.here.st s.sound.opened.fits)
    by (By answer) w = subst (λ (x : Stream). x.held.count ≤ 32) (sym w.0) (omega arith)
