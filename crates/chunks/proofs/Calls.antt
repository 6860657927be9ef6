-- What the loops have to know of a call, from its contract: what it wrote lies in its rooms, and what an answer says of the bytes taken.
use Prim.Native.Nat.{ℕ, ◌+◌, ◌*◌, ◌≤◌, ◌<◌}
use mathlib.Core.Path.{◌≡◌, ◌∙◌, ap}
use mathlib.Core.List.{List}
use native.Mathlib.Omega.{arith}
use lib.ListN.{length}
use lib.Seq.{length-sets}
use Rattle.lists.proofs.Choice.{if_both}
use Rattle.standard.specs.Answers.{done, room_used_up}
use Rattle.standard.specs.Errors.{numbers}
use Rattle.standard.specs.NameList.{builtin}
use Rattle.decoder.specs.declared.stream.Stream.{Stream}
use Rattle.decoder.specs.declared.stream.Fed.{Fed}
use Rattle.decoder.specs.Stream.{Walked, walk, at_of, Outcome, closes, walked_to, feed_of, end_of, fed_of, Feeds}
use Rattle.decoder.proofs.Counting.{feed-counts}
use Rattle.decoder.proofs.Cuts.{Took, walk_took}
use Rattle.decoder.proofs.Fitting.{feed_fits, end_fits}
use Rattle.decoder.proofs.Returns.{feed_cases}

-- The record counts the bytes taken; 6 took some, and 0 took all.
pub record Takes (r : Stream) (long answer taken : ℕ) (r' : Stream) : Type 0 where
  pub counted : r'.taken ≡ r.taken + taken
  pub within : taken ≤ long
  pub some : answer ≡ room_used_up → 0 < taken
  pub all : answer ≡ done → taken ≡ long

takes_of : (r : Stream) (chunk : List ℕ) (text errors : ℕ) → let o = feed_of builtin r chunk text errors in
    Takes r (length chunk) o.answer o.taken o.record'
unfolding walked_to
takes_of r chunk text errors = record { counted = counts.0; within = counts.1; some = says.0; all = says.1 }
  where
    counts : let o = feed_of builtin r chunk text errors in (o.record'.taken ≡ r.taken + o.taken) × (o.taken ≤ length chunk)
    counts = feed-counts r chunk text errors

    P : Outcome → Type 0
    P o = (o.answer ≡ room_used_up → 0 < o.taken) × (o.answer ≡ done → o.taken ≡ length chunk)

    w : Walked
    w = walk builtin r.context text errors (at_of r) chunk

    took : Took builtin r.context text errors (at_of r) chunk (walk builtin r.context text errors (at_of r) chunk)
    took = walk_took builtin r.context text errors (at_of r) chunk

    says : P (feed_of builtin r chunk text errors)
    says =
        feed_cases P r text errors chunk (λ h. (λ e. omega arith, λ e. omega arith)) (λ h. (λ e. omega arith, λ e. omega arith))
        (λ h. (λ e. omega arith, λ e. omega arith)) (λ h. (λ e. omega arith, λ e. omega arith))
        (λ o long room. if_both P (closes w.answer) _ _
        (λ t. (λ e. omega (arith, took.counted, took.some room e), λ e. omega (arith, took.counted, took.all e)))
        (λ f. (λ e. omega (arith, took.counted, took.some room e), λ e. omega (arith, took.counted, took.all e))))

-- What is given lies in rooms as long as those that were lent.
fit : {o : Outcome} {text errors text' errors' : List ℕ} {fed : Fed}
    → (length o.gives.text ≤ length text) × (2 * length o.gives.errors ≤ length errors) → Feeds o text errors fed text' errors'
    → (fed.text ≤ length text') × (2 * fed.errors ≤ length errors')
unfolding fed_of
fit {o} {text} {errors} {text'} {errors'} h d =
    let t : length text' ≡ length text = ap length d.texts ∙ length-sets text 0 o.gives.text in
    let e : length errors' ≡ length errors = ap length d.numbers_of ∙ length-sets errors 0 (numbers o.gives.errors) in
    rw d.answered (omega arith, omega arith)

module _ (r : Stream) {text errors text' errors' : List ℕ} {fed : Fed} where
  module _ (chunk : List ℕ) (d : Feeds (feed_of builtin r chunk (length text) (length errors)) text errors fed text' errors') where
    -- A chunk.
    pub feed_takes : Takes r (length chunk) fed.answer fed.taken fed.«record»
    unfolding fed_of
    feed_takes = rw d.answered (takes_of r chunk (length text) (length errors))

    pub feed_fit : (fed.text ≤ length text') × (2 * fed.errors ≤ length errors')
    feed_fit = fit (feed_fits r chunk (length text) (length errors)) d

  -- The end.
  pub end_fit : Feeds (end_of builtin r (length text) (length errors)) text errors fed text' errors'
      → (fed.text ≤ length text') × (2 * fed.errors ≤ length errors')
  end_fit d = fit (end_fits r (length text) (length errors)) d
