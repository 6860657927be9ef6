-- What a call takes, whatever the record: the record counts it, and it is no more than the chunk has.
use Prim.Native.Nat.{ℕ, ◌+◌, ◌-◌, ◌≤◌}
use mathlib.Core.Path.{◌≡◌, refl}
use mathlib.Core.List.{List}
use native.Mathlib.Omega.{arith}
use lib.ListN.{length}
use Rattle.lists.proofs.Choice.{if_both}
use Rattle.standard.specs.Answers.{closed, too_long, stream_too_long, no_room}
use Rattle.standard.specs.NameList.{builtin}
use Rattle.decoder.specs.declared.stream.Stream.{Stream}
use Rattle.decoder.specs.Stream.{
  Walked,
  walk,
  record_of,
  closed_by,
  at_of,
  Outcome,
  refuses,
  closes,
  walked_to,
  feed_of,
  end_of,
}
use Rattle.decoder.proofs.Cuts.{Took, walk_took}
use Rattle.decoder.proofs.Returns.{feed_cases, end_cases}

-- A chunk.
pub feed-counts : (r : Stream) (chunk : List ℕ) (text errors : ℕ) → let o = feed_of builtin r chunk text errors in
    (o.record'.taken ≡ r.taken + o.taken) × (o.taken ≤ length chunk)
unfolding walked_to record_of closed_by
feed-counts r chunk text errors =
    feed_cases P r text errors chunk (λ h. none closed) (λ h. none too_long) (λ h. none stream_too_long) (λ h. none no_room)
    (λ o long room. if_both P (closes w.answer) _ _ (λ t. counted) (λ f. counted))
  where
    P : Outcome → Type 0
    P o = (o.record'.taken ≡ r.taken + o.taken) × (o.taken ≤ length chunk)

    none : (answer : ℕ) → P (refuses answer r)
    none answer = (omega arith, omega arith)

    w : Walked
    w = walk builtin r.context text errors (at_of r) chunk

    took : Took builtin r.context text errors (at_of r) chunk (walk builtin r.context text errors (at_of r) chunk)
    took = walk_took builtin r.context text errors (at_of r) chunk

    counted : (w.stop.taken ≡ r.taken + (w.stop.taken - r.taken)) × (w.stop.taken - r.taken ≤ length chunk)
    counted = (omega (arith, took.counted), omega (arith, took.counted, took.within))

-- The end takes nothing.
pub end-counts : (r : Stream) (text errors : ℕ) → let o = end_of builtin r text errors in (o.record'.taken ≡ r.taken) × (o.taken ≡ 0)
unfolding closed_by
end-counts r text errors =
    end_cases (λ o. (o.record'.taken ≡ r.taken) × (o.taken ≡ 0)) r text errors (λ h. (refl, refl)) (λ h. (refl, refl)) (λ h. (refl, refl))
    (λ o room h. (refl, refl))
