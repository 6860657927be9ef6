use Prim.Native.Nat.{ℕ, ◌+◌, ◌-◌, ◌≤◌}
use mathlib.Core.Path.{◌≡◌, refl, sym}
use mathlib.Core.List.{List}
use native.Mathlib.Omega.{arith}
use lib.ListN.{length, take, drop, length-drop}
use lib.Seq.{get_or-drop}
use borrow.Author.Tests.{eq-eqb}
use Rattle.standard.specs.declared.Context.{Context}
use Rattle.standard.specs.Answers.{done, nul, context_end}
use Rattle.standard.specs.Contexts.{end_byte}
use Rattle.standard.specs.Reading.{calls_for, Stop, stops}
use Rattle.standard.proofs.Looking.{Looking, looking_span, looking_end}
use Rattle.standard.proofs.Skips.{rest_from}
use Rattle.standard.proofs.Stopping.{turn_other, turn_called, turn_none, turn_size}
use Rattle.standard.proofs.Stops.{ascii-calls, calls_end, calls_none}
use Rattle.checker.specs.Spans.{ordinary, Ordinary}
use Rattle.checker.proofs.stops.find_stop.Goals as goal

-- Ordinary bytes are passed.
passed : (context : Context) {s : List ℕ} {at end n : ℕ} → Looking (calls_for context) s at → end ≡ end_byte context
    → n ≤ length (take (length s - at) (drop at s)) → Ordinary end (take (length s - at) (drop at s)) n → Looking (calls_for context) s (at + n)
passed context {s} {at} {end} {n} l is h each =
    let far = rw (rest_from s at, length-drop at s) at h in
    let same : Ordinary (end_byte context) (drop at s) n = rw (rest_from s at, is) at each in
    looking_span l (ordinary (end_byte context)) (ascii-calls context) n (omega (arith, l.there)) (λ i k. rw (get_or-drop at s i 0) at (same i k))

-- A stop by its parts.
stop_by : {r : Stop} {answer place : ℕ} → (answer ≡ r.answer) × (place ≡ r.place) → r ≡ stops answer place
stop_by p = λ i. stops (sym p.0 i) (sym p.1 i)

pub returns-then-at-s-clause-end : goal.returns-then-at-s-clause-end
returns-then-at-s-clause-end c =
    let e = c.ordinary_front-at.ensures in
    let l = passed c.args.context c.loop-at.invariant c.end_of-end.ensures e.within e.each in
    rw (looking_end l (omega (arith, c.if-at-s.true))) (refl, refl)

pub returns-in_default : goal.returns-in_default
returns-in_default c =
    let e = c.ordinary_front-at.ensures in
    let l = passed c.args.context c.loop-at.invariant c.end_of-end.ensures e.within e.each in
    record {
      end = tt;
      fault = stop_by (turn_other l (omega (arith, l.there, c.if-at-s.false)) c.read_char.ensures c.in_default.not-Char);
    }

pub returns-then-value-eq0-clause-fault : goal.returns-then-value-eq0-clause-fault
returns-then-value-eq0-clause-fault c =
    let e = c.ordinary_front-at.ensures in
    let l = passed c.args.context c.loop-at.invariant c.end_of-end.ensures e.within e.each in
    let calls : nul ≡ calls_for c.args.context c.in-Char.value = rw (eq-eqb c.in-Char.value 0 c.if-value-eq0.true) refl in
    stop_by (turn_called l (omega (arith, l.there, c.if-at-s.false)) c.read_char.ensures c.in-Char.is calls (λ z. omega arith))

pub returns-then-value-from-clause-end : goal.returns-then-value-from-clause-end
returns-then-value-from-clause-end c =
    let e = c.ordinary_front-at.ensures in
    let l = passed c.args.context c.loop-at.invariant c.end_of-end.ensures e.within e.each in
    let calls : context_end ≡ calls_for c.args.context c.in-Char.value =
    sym (calls_end c.args.context c.in-Char.value c.if-value-eq0.false (omega arith)) in
    let p = turn_called l (omega (arith, l.there, c.if-at-s.false)) c.read_char.ensures c.in-Char.is calls (λ z. omega arith) in
    rw (← p.0) (refl, p.1)

pub loop-at-preserved : goal.loop-at-preserved
loop-at-preserved c =
    let e = c.ordinary_front-at.ensures in
    let l = passed c.args.context c.loop-at.invariant c.end_of-end.ensures e.within e.each in
    let calls : done ≡ calls_for c.args.context c.in-Char.value =
    sym (calls_none c.args.context c.in-Char.value c.if-value-eq0.false (λ z. omega arith)) in
    turn_none l (omega (arith, l.there, c.if-at-s.false)) c.read_char.ensures c.in-Char.is calls refl

pub overflow_add-at-in-loop-at : goal.overflow_add-at-in-loop-at
overflow_add-at-in-loop-at c = omega (arith, (loop-at-preserved c).there)

pub loop-at-smaller : goal.loop-at-smaller
loop-at-smaller c =
    let e = c.ordinary_front-at.ensures in
    let l = passed c.args.context c.loop-at.invariant c.end_of-end.ensures e.within e.each in
    let same : calls_for c.args.context c.in-Char.value ≡ calls_for c.args.context c.in-Char.value = refl in
    omega (arith, (loop-at-preserved c).there, turn_size l (omega (arith, l.there, c.if-at-s.false)) c.read_char.ensures c.in-Char.is same)
