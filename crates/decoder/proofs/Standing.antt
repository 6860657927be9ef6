-- Calls one after the other: what an open stream's record stands for, and what a call makes of it.
use Rattle.std.specs.Prelude.{if◌then◌else◌}
use Prim.Native.Nat.{ℕ, ◌+◌, ◌-◌, ◌≤◌, ◌<◌}
use mathlib.Core.Path.{◌≡◌, refl, sym, ◌∙◌, ap, ap₂, subst}
use mathlib.Core.List.{List, [], ◌++◌}
use mathlib.Core.Bool.{Bool, true, false, ◌||◌}
use mathlib.Core.Logic.{◌≢◌, ◌⊎◌, inl, inr}
use native.Mathlib.Omega.{arith}
use lib.Dec.{eqb}
use lib.ListN.{length, take, length-append, length-take, drop_of_length-le}
use Rattle.lists.proofs.Choice.{if_both, no_way}
use Rattle.standard.specs.declared.Context.{Context}
use Rattle.standard.specs.Answers.{
  done,
  ill_formed,
  nul,
  too_long,
  stream_too_long,
  no_room,
  room_used_up,
  context_end,
  longest_slice,
  longest_stream,
}
use Rattle.standard.specs.NameList.{builtin}
use Rattle.standard.specs.Reading.{Reading, ◌⊕◌}
use Rattle.standard.proofs.Joining.{⊕-none}
use Rattle.decoder.specs.declared.stream.Stream.{Stream}
use Rattle.standard.proofs.Utf8.{read_end}
use Rattle.decoder.specs.Machine.{St, nothing, finish}
use Rattle.decoder.specs.Stream.{
  At,
  place_of,
  Walked,
  stops_at,
  onward,
  last_of,
  lacks_room,
  walk,
  store_of,
  mark_of,
  record_of,
  at_of,
  closed_by,
  is_part,
  is_open,
  Outcome,
  outcome,
  refuses,
  closes,
  walked_to,
  feed_of,
  end_of,
  new_stream,
}
use Rattle.decoder.specs.Turns.{Fits}
use Rattle.decoder.proofs.Bytes.{go, start}
use Rattle.decoder.proofs.Layer.{go_onward}
use Rattle.decoder.proofs.StreamReads.{go_held}
use Rattle.decoder.proofs.Tidy.{builtin_tidy}
use Rattle.decoder.proofs.Open.{at_back, open_again}
use Rattle.decoder.proofs.Returns.{feed_cases, end_cases}
use Rattle.decoder.proofs.Room.{room-so}
use Rattle.decoder.proofs.Cuts.{Sound, Took, walk_goes, walk_took, go-sound}

-- The record of an open stream, with the bytes t taken and g given so far.
pub record Standing (context : Context) (r : Stream) (t : List ℕ) (g : Reading) : Type 0 where
  pub here : At
  pub recorded : r ≡ record_of context here
  pub went : go builtin context start t ≡ stops_at done g here
  pub sound : Sound here
  pub short : length t ≤ longest_stream

-- A stream can be where a new one is.
pub sound-start : Sound start
unfolding store_of mark_of Fits
sound-start = record {
  opened = record { fits = tt; few = omega arith; begun = ap is_part (read_end [] refl); there = omega arith };
  mark_in = omega arith;
  store_in = omega arith;
}

-- A new stream.
pub standing-new : (context : Context) → Standing context (new_stream context) [] nothing
unfolding new_stream go
standing-new context = record { here = start; recorded = refl; went = refl; sound = sound-start; short = omega arith }

-- Nothing is written last where the stream does not close.
last_open : (context : Context) (answer : ℕ) (st : St) → closes answer ≡ false → last_of builtin context answer st ≡ nothing
last_open context answer st e = go (eqb answer ill_formed) (eqb answer nul) (eqb answer context_end) refl e
  where
    go : (a b c : Bool) → eqb answer context_end ≡ c → a || b || c ≡ false
        → (if eqb answer context_end then finish builtin context st else nothing) ≡ nothing
    go true b c f e = no_way e
    go false true c f e = no_way e
    go false false true f e = no_way e
    go false false false f e = rw f

module _ {context : Context} {r : Stream} {t : List ℕ} {g : Reading} (s : Standing context r t g) where
  -- As many bytes were taken.
  taken_here : s.here.taken ≡ length t
  taken_here = (go_held builtin context builtin_tidy t g s.here s.went).1

  pub standing_taken : r.taken ≡ length t
  unfolding record_of
  standing_taken = ap (λ (x : Stream). x.taken) s.recorded ∙ taken_here

  standing_context : r.context ≡ context
  unfolding record_of
  standing_context = ap (λ (x : Stream). x.context) s.recorded

  -- The record says where the stream is.
  standing_at : at_of r ≡ s.here
  standing_at = ap at_of s.recorded ∙ at_back context s.here s.sound.opened.fits

  -- It counts as open.
  pub standing_open : is_open builtin r ≡ true
  standing_open =
      let o = s.sound.opened in
      ap (is_open builtin) s.recorded
      ∙ open_again context s.here o.fits o.few o.begun (omega (arith, taken_here, s.short)) (omega (arith, s.sound.mark_in))
      s.sound.store_in

  -- The walk over a chunk from here.
  abbrev walked : List ℕ → (text errors : ℕ) → Walked
  walked chunk text errors = walk builtin r.context text errors (at_of r) chunk

  walked_here : (chunk : List ℕ) (text errors : ℕ) → walked chunk text errors ≡ walk builtin context text errors s.here chunk
  walked_here chunk text errors =
      ap₂ (λ (c : Context) (at : At). walk builtin c text errors at chunk) standing_context standing_at

  -- Bytes from here go on from those before.
  go_here : (u : List ℕ) → go builtin context start (t ++ u) ≡ onward g (go builtin context s.here u)
  go_here u =
      go_onward builtin context start t u (ap (λ (x : Walked). x.answer) s.went)
      ∙ ap (λ (x : Walked). onward x.gives (go builtin context x.stop u)) s.went

  -- What a walk took, with what was taken before.
  went_on : {chunk : List ℕ} {text errors : ℕ} {w : Walked} (a : Took builtin context text errors s.here chunk w)
      → go builtin context start (t ++ take a.count chunk) ≡ stops_at done (g ⊕ a.before) w.stop
  went_on {chunk = chunk} a = go_here (take a.count chunk) ∙ ap (onward g) a.taken

  -- After a call that does not close the stream it stands where its walk ended.
  standing_on : (chunk : List ℕ) (text errors : ℕ) → let w = walk builtin context text errors s.here chunk in
      closes w.answer ≡ false → length t + length chunk ≤ longest_stream
      → Standing context (record_of context w.stop) (t ++ take (w.stop.taken - length t) chunk) (g ⊕ w.gives)
  standing_on chunk text errors e short =
      subst (λ (n : ℕ). Standing context (record_of context w.stop) (t ++ take n chunk) (g ⊕ w.gives))
      (let i : a.count ≡ w.stop.taken - length t = omega (arith, a.counted, taken_here) in i)
      (record {
        here = w.stop;
        recorded = refl;
        went = went_on a ∙ ap (λ (x : Reading). stops_at done (g ⊕ x) w.stop) (sym (a.gave ∙ nothing_last));
        sound = go-sound context start (t ++ take a.count chunk) sound-start (went_on a);
        short = simp (length-append, length-take) (omega (arith, a.within));
      })
    where
      w : Walked
      w = walk builtin context text errors s.here chunk

      a : Took builtin context text errors s.here chunk (walk builtin context text errors s.here chunk)
      a = walk_took builtin context text errors s.here chunk

      nothing_last : a.before ⊕ last_of builtin context w.answer w.stop.st ≡ a.before
      nothing_last =
          ap (λ (x : Reading). a.before ⊕ x) (last_open context w.answer w.stop.st e) ∙ ⊕-none a.before

  -- A call that closes the stream: what it took and gave, and why.
  pub record Closing (chunk : List ℕ) (o : Outcome) : Type 0 where
    pub stop : At
    pub within : o.taken ≤ length chunk
    pub before : Reading
    pub took : go builtin context start (t ++ take o.taken chunk) ≡ stops_at done (g ⊕ before) stop
    pub gave : o.gives ≡ before ⊕ last_of builtin context o.answer stop.st
    pub record_is : o.record' ≡ closed_by context (length t + o.taken)
    pub place_is : o.place ≡ place_of stop
    pub stopped : go builtin context start (t ++ chunk) ≡ stops_at o.answer (g ⊕ o.gives) stop

  -- What a chunk that is not refused comes to: it closes the stream, or that stands where the walk ended.
  pub data Comes (chunk : List ℕ) : Outcome → Type 0 where
    goes : {o : Outcome} → closes o.answer ≡ false → (o.answer ≡ done) ⊎ (o.answer ≡ room_used_up) → (o.answer ≡ done → o.taken ≡ length chunk)
        → (o.answer ≡ room_used_up → 0 < o.taken) → o.taken ≤ length chunk → Standing context o.record' (t ++ take o.taken chunk)
        (g ⊕ o.gives) → Comes chunk o
    stops : {o : Outcome} → closes o.answer ≡ true → Closing chunk o → Comes chunk o

  walk_comes : (chunk : List ℕ) (text errors : ℕ) → length t + length chunk ≤ longest_stream → lacks_room text errors ≡ false
      → Comes chunk (walked_to context (length t) (walk builtin context text errors s.here chunk))
  unfolding walked_to
  walk_comes chunk text errors short room =
      if_both (Comes chunk) (closes w.answer) _ _ closing
      (λ e. goes e (says e a.says) (λ d. omega (arith, a.counted, taken_here, a.all d))
      (λ d. omega (arith, a.counted, taken_here, a.some room d)) (omega (arith, a.counted, taken_here, a.within))
      (standing_on chunk text errors e short))
    where
      w : Walked
      w = walk builtin context text errors s.here chunk

      a : Took builtin context text errors s.here chunk (walk builtin context text errors s.here chunk)
      a = walk_took builtin context text errors s.here chunk

      says : closes w.answer ≡ false → (w.answer ≡ done) ⊎ ((w.answer ≡ room_used_up) ⊎ (closes w.answer ≡ true))
          → (w.answer ≡ done) ⊎ (w.answer ≡ room_used_up)
      says e (inl d) = inl d
      says e (inr (inl d)) = inr d
      says e (inr (inr d)) = no_way (sym d ∙ e)

      closing : closes w.answer ≡ true
          → Comes chunk (outcome w.answer (w.stop.taken - length t) (place_of w.stop) w.gives (closed_by context w.stop.taken))
      closing e =
          let k : a.count ≡ w.stop.taken - length t = omega (arith, a.counted, taken_here) in
          stops {o = outcome w.answer (w.stop.taken - length t) (place_of w.stop) w.gives (closed_by context w.stop.taken)} e record {
            stop = w.stop;
            within = omega (arith, k, a.within);
            before = a.before;
            took = ap (λ (n : ℕ). go builtin context start (t ++ take n chunk)) (sym k) ∙ went_on a;
            gave = a.gave;
            record_is = ap (closed_by context) (a.counted ∙ ap₂ ◌+◌ taken_here k);
            place_is = refl;
            stopped = go_here chunk ∙ ap (onward g) (walk_goes builtin context text errors s.here chunk (not_full w.answer e));
          }
        where
          not_full : (answer : ℕ) → closes answer ≡ true → answer ≢ room_used_up
          not_full answer e f = no_way (sym e ∙ ap closes f)

  -- The walk is one from the record.
  recorded_walk : (chunk : List ℕ) (text errors : ℕ)
      → walked_to context (length t) (walk builtin context text errors s.here chunk) ≡ walked_to r.context r.taken (walked chunk text errors)
  recorded_walk chunk text errors =
      λ i. walked_to (sym standing_context i) (sym standing_taken i) (sym (walked_here chunk text errors) i)

  -- What holds of each refusal and of each walk that is not refused holds of what a chunk comes to.
  pub feed_is : (P : Outcome → Type 0) (chunk : List ℕ) (text errors : ℕ) → P (refuses too_long r) → P (refuses stream_too_long r)
      → P (refuses no_room r) → ((o : Outcome) → Comes chunk o → P o) → P (feed_of builtin r chunk text errors)
  feed_is P chunk text errors three four five later =
      feed_cases P r text errors chunk (λ e. no_way (sym standing_open ∙ e)) (λ h. three) (λ h. four) (λ h. five)
      (λ o long room. subst P (recorded_walk chunk text errors)
      (later (walked_to context (length t) (walk builtin context text errors s.here chunk))
      (walk_comes chunk text errors (omega (arith, standing_taken)) room)))

  -- A chunk for which the table gives no 3, 4 or 5 is not refused.
  pub feed_comes : (chunk : List ℕ) (text errors : ℕ) → length chunk ≤ longest_slice → length t + length chunk ≤ longest_stream
      → (64 ≤ text) × (8 ≤ errors) → Comes chunk (feed_of builtin r chunk text errors)
  feed_comes chunk text errors short long room =
      feed_cases (Comes chunk) r text errors chunk (λ e. no_way (sym standing_open ∙ e)) (λ h. absurd (omega arith))
      (λ h. absurd (omega (arith, standing_taken))) (λ lacks. no_way (sym lacks ∙ room-so text errors room))
      (λ o h k. subst (Comes chunk) (recorded_walk chunk text errors) (walk_comes chunk text errors long k))

  -- What holds of a refusal and of both ways to end holds of what the end comes to.
  pub end_is : (P : Outcome → Type 0) (text errors : ℕ) → P (refuses no_room r)
      → (0 < length s.here.part → P (outcome ill_formed 0 (place_of s.here) nothing (closed_by context (length t))))
      → (s.here.part ≡ [] → P (outcome done 0 0 (finish builtin context s.here.st) (closed_by context (length t))))
      → P (end_of builtin r text errors)
  unfolding record_of
  end_is P text errors five cut whole =
      end_cases P r text errors (λ e. no_way (sym standing_open ∙ e)) (λ h. five)
      (λ h. subst P (λ i. outcome ill_formed 0 (place_of (sym standing_at i)) nothing (closed_by (sym standing_context i) (sym standing_taken i)))
      (cut (omega (arith, count_is))))
      (λ o room h. subst P
      (λ i. outcome done 0 0 (finish builtin (sym standing_context i) (sym standing_at i).st) (closed_by (sym standing_context i)
      (sym standing_taken i)))
      (whole (drop_of_length-le s.here.part {i = 0} (omega (arith, count_is)))))
    where
      count_is : r.part_count ≡ length s.here.part
      count_is = ap (λ (x : Stream). x.part_count) s.recorded
