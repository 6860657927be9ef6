use Prim.Native.Nat.{◌-◌}
use mathlib.Core.Path.{◌≡◌, refl, sym}
use native.Mathlib.Omega.{arith}
use lib.ListN.{length}
use lib.Seq.{length-take-le}
use borrow.Author.Rules.{rules}
use Rattle.decoder.specs.Stream.{fed_of}
use Rattle.decoder.proofs.Returns.{opened, same_state, is_fit, not_refused, end_refused, end_inside, end_done, feeds-nothing, wrote-feeds}
use Rattle.decoder.proofs.stream.Stream.end.Goals as goal

pub returns-in-Some : goal.returns-in-Some
returns-in-Some c = feeds-nothing (end_refused _ _ _ _ c.refusal.ensures c.in-Some.is refl) c.refused.ensures

pub overflow_cast-result : goal.overflow_cast-result
overflow_cast-result c =
    let goes_on = not_refused _ _ _ _ c.refusal.ensures c.in_default.is in
    omega (arith, (opened _ goes_on.stands_open).part)

pub overflow_sub-result : goal.overflow_sub-result
overflow_sub-result c =
    let goes_on = not_refused _ _ _ _ c.refusal.ensures c.in_default.is in
    omega (arith, (opened _ goes_on.stands_open).were)

pub returns-then-self-gt0 : goal.returns-then-self-gt0
unfolding fed_of
returns-then-self-gt0 c =
    let goes_on = not_refused _ _ _ _ c.refusal.ensures c.in_default.is in
    let r = c.args.self in
    let n : length r.part ≡ 3 = search (rules, c.well_formed) in
    let a = goes_on in
    let m = length-take-le r.part_count r.part (omega (arith, (opened r a.stands_open).part)) in
    feeds-nothing (end_inside _ _ _ a.stands_open a.text_room a.errors_room c.if-self-gt0.true) (λ j. record {
      answer = 1;
      taken = 0;
      text = 0;
      errors = 0;
      place = r.taken - sym m j;
      «record» = c.closed.ensures j;
    })

pub canonical-held-requires : goal.canonical-held-requires
canonical-held-requires c =
    let goes_on = not_refused _ _ _ _ c.refusal.ensures c.in_default.is in
    let p = opened _ goes_on.stands_open in
    (p.count, p.stored)

pub put_last-ends-requires : goal.put_last-ends-requires
put_last-ends-requires c =
    let goes_on = not_refused _ _ _ _ c.refusal.ensures c.in_default.is in
    let r = c.args.self in
    let a = goes_on in
    (is_fit r.held (opened r a.stands_open).stored c.canonical-held.ensures, (a.text_room, a.errors_room))

pub overflow_cast-result-2 : goal.overflow_cast-result-2
overflow_cast-result-2 c = let w = c.put_last-ends.ensures in omega (arith, w.1.0, w.1.1)

pub overflow_cast-result-3 : goal.overflow_cast-result-3
overflow_cast-result-3 c = let w = c.put_last-ends.ensures in omega (arith, w.1.0, w.1.1)

pub returns : goal.returns
returns c =
    let goes_on = not_refused _ _ _ _ c.refusal.ensures c.in_default.is in
    let r = c.args.self in
    let a = goes_on in
    let e = same_state r.held (opened r a.stands_open).stored c.canonical-held.ensures in
    rw (end_done _ _ _ a.stands_open a.text_room a.errors_room c.if-self-gt0.false)
    (wrote-feeds (rw e at c.put_last-ends.ensures.0) (rw c.closed-2.ensures))
