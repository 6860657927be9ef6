-- Document 01, 'The chunk decoder': what a call gives fits its text room and its error room (two numbers an error), whatever the record, so all of
-- it is written. And 'in every call, room past what was written keeps its contents'.
use Prim.Native.Nat.{ℕ, ◌*◌, ◌≤◌}
use mathlib.Core.Path.{◌≡◌, ◌∙◌, ap}
use mathlib.Core.List.{List, ◌++◌}
use native.Mathlib.Omega.{arith}
use lib.ListN.{length, drop}
use lib.Seq.{sets}
use Rattle.lists.proofs.Puts.{sets-front}
use Rattle.standard.specs.Errors.{numbers}
use Rattle.standard.specs.NameList.{builtin}
use Rattle.standard.proofs.Joining.{numbers-length}
use Rattle.decoder.specs.declared.stream.Stream.{Stream}
use Rattle.decoder.specs.declared.stream.Fed.{Fed}
use Rattle.decoder.specs.Stream.{Outcome, feed_of, end_of, fed_of, Feeds}
use Rattle.decoder.proofs.Fitting as fitting

-- A chunk, with rooms for so many text bytes and error numbers.
pub feed_fits : (r : Stream) (chunk : List ℕ) (text errors : ℕ) → let o = feed_of builtin r chunk text errors in
    (length o.gives.text ≤ text) × (2 * length o.gives.errors ≤ errors)
feed_fits = fitting.feed_fits

-- The end.
pub end_fits : (r : Stream) (text errors : ℕ) → let o = end_of builtin r text errors in
    (length o.gives.text ≤ text) × (2 * length o.gives.errors ≤ errors)
end_fits = fitting.end_fits

-- What every contract says of a room, where the values fit: they stand at its start, and after them it is as it was.
pub room_after : (room values : List ℕ) → length values ≤ length room → sets room 0 values ≡ values ++ drop (length values) room
room_after = sets-front

-- The rooms have what a call comes to, as many bytes and errors as its result says, and after these they are as they were.
abbrev pub Stand : Outcome → Fed → (text errors text' errors' : List ℕ) → Type 0
Stand o fed text errors text' errors' =
    (text' ≡ o.gives.text ++ drop fed.text text) × (errors' ≡ numbers o.gives.errors ++ drop (2 * fed.errors) errors)

stand : {o : Outcome} {text errors : List ℕ} {fed : Fed} {text' errors' : List ℕ}
    → (length o.gives.text ≤ length text) × (2 * length o.gives.errors ≤ length errors) → Feeds o text errors fed text' errors'
    → Stand o fed text errors text' errors'
unfolding fed_of
stand {o} {text} {errors} fit d =
    let long = numbers-length o.gives.errors in
    let twice : length (numbers o.gives.errors) ≡ 2 * length o.gives.errors = omega (arith, long) in
    rw d.answered (
      d.texts ∙ room_after text o.gives.text fit.0,
      d.numbers_of ∙ room_after errors (numbers o.gives.errors) (omega (arith, twice, fit.1))
          ∙ ap (λ (n : ℕ). numbers o.gives.errors ++ drop n errors) twice,
    )

module _ (r : Stream) (text errors : List ℕ) (fed : Fed) (text' errors' : List ℕ) where
  -- So it is after a chunk.
  pub feed_stands : (chunk : List ℕ) → let o = feed_of builtin r chunk (length text) (length errors) in
      Feeds o text errors fed text' errors' → Stand o fed text errors text' errors'
  feed_stands chunk d = stand (feed_fits r chunk (length text) (length errors)) d

  -- And after the end.
  pub end_stands : let o = end_of builtin r (length text) (length errors) in
      Feeds o text errors fed text' errors' → Stand o fed text errors text' errors'
  end_stands d = stand (end_fits r (length text) (length errors)) d
