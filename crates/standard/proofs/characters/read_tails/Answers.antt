use Prim.Native.Nat.{ℕ, ◌+◌, ◌-◌, ◌*◌, ◌%◌}
use mathlib.Core.Path.{◌≡◌, refl, ◌∙◌, sym, ap}
use mathlib.Core.Logic.{inl, inr}
use native.Mathlib.Numerals.{add-one}
use native.Mathlib.Omega.{arith}
use lib.ListN.{drop}
use Rattle.standard.specs.declared.characters.CharRead.TheVariants.{Char}
use Rattle.standard.specs.Utf8.{tails}
use Rattle.standard.proofs.Utf8.{tails_incomplete, tails_illformed, tails_more, tails-whole}
use Rattle.standard.proofs.characters.read_tails.Goals as goal

pub returns-in_default : goal.returns-in_default
returns-in_default c =
    let l = c.loop-len in
    sym (l.invariant.0 ∙ tails_incomplete _ l.low l.high l.value l.len _ (omega arith) c.in_default.ensures.lookup.3)

pub returns-then-b-low : goal.returns-then-b-low
returns-then-b-low c =
    let l = c.loop-len in
    let there = c.in-Some.ensures.lookup.3.0 in
    let byte = c.in-Some.ensures.lookup.3.1 0 in
    sym
    (l.invariant.0 ∙ tails_illformed _ l.len l.low l.high l.value there _ (omega arith)
    (elim c.then-b-low.either [ inl below ↦ inl (omega (arith, byte, below)) | inr above ↦ inr (omega (arith, byte, above.1)) ]))

pub loop-len-preserved : goal.loop-len-preserved
loop-len-preserved c =
    let l = c.loop-len in
    let there = c.in-Some.ensures.lookup.3.0 in
    let byte = c.in-Some.ensures.lookup.3.1 0 in
    let left = c.args.lead.need + 1 - l.len in
    let more = tails_more _ l.len l.low l.high l.value there left (omega arith)
    (omega (arith, byte, c.if-b-low.false)) (omega (arith, byte, c.if-high-b.false)) in
    let value = ap (λ (b : ℕ). l.value * 64 + b % 64) (sym byte) ∙ ap (λ (b : ℕ). l.value * 64 + b) (sym c.from.ensures) in
    let e : left - 1 ≡ c.args.lead.need + 1 - (l.len + 1) = omega arith in
    let n = l.len + 1 in (
      l.invariant.0 ∙ more ∙ (λ i. tails (e i) 0x80 0xBF (value i) n (drop n c.args.rest.now)),
      refl,
      omega arith,
      omega arith,
      omega (arith, there),
      rw add-one (omega (arith, c.from.ensures)),
    )

pub returns : goal.returns
returns c =
    let l = c.loop-len in
    sym (l.invariant.0 ∙ tails-whole _ l.low l.high l.value l.len _ (omega arith) ∙ ap (Char l.value) (omega arith))
