-- finish_numeric is what meaning_of says: each test of the code is the next test of the definition.
use Rattle.std.specs.Prelude.{ℕ, ◌≤◌, ◌/◌, if◌then◌else◌}
use mathlib.Core.Path.{◌≡◌, refl, sym, ◌∙◌}
use mathlib.Core.Bool.{false, not, ◌&&◌}
use mathlib.Core.Logic.{◌≢◌}
use borrow.Author.Tests.{ne_eqb}
use Rattle.standard.specs.Classes.{noncharacter, whitespace, control}
use Rattle.standard.specs.Numbers.{replacements, replaced_by, means, meaning_of}
use Rattle.standard.proofs.Meanings.{meaning_outside, meaning_surrogate, meaning_scalar}
use Rattle.decoder.proofs.numbers.finish_numeric.Goals as goal

-- What a number means that is no surrogate, no noncharacter and not D.
of_plain : (n : ℕ) → n ≢ 0 → n ≤ 0x10FFFF → n / 0x800 ≢ 0x1B → noncharacter n ≡ false → n ≢ 0xD
    → meaning_of n ≡ (if control n && not (whitespace n) then means (replaced_by replacements n) 3 else means n 0)
of_plain n zero outside surrogate non cr = meaning_scalar n zero outside surrogate ∙ rw (non, ne_eqb n 0xD cr)

pub returns-then-n-eq0 : goal.returns-then-n-eq0
unfolding meaning_of
returns-then-n-eq0 c = rw c.if-n-eq0.true (refl, refl)

pub returns-then-n-gt1114111 : goal.returns-then-n-gt1114111
returns-then-n-gt1114111 c = rw (meaning_outside _ c.if-n-gt1114111.true) (refl, refl)

pub returns-then-n-eq27 : goal.returns-then-n-eq27
returns-then-n-eq27 c = rw (meaning_surrogate _ c.if-n-eq27.true) (refl, refl)

pub returns-then-noncharacter : goal.returns-then-noncharacter
returns-then-noncharacter c =
    rw (meaning_scalar _ c.if-n-eq0.false c.if-n-gt1114111.false c.if-n-eq27.false, sym c.noncharacter.ensures ∙ c.if-noncharacter.true)
    (refl, refl)

pub returns-then-n-eq13 : goal.returns-then-n-eq13
unfolding meaning_of replacements replaced_by
returns-then-n-eq13 c = rw c.if-n-eq13.true (refl, refl)

pub returns-then-not-control : goal.returns-then-not-control
returns-then-not-control c =
    let plain = of_plain _ c.if-n-eq0.false c.if-n-gt1114111.false c.if-n-eq27.false (sym c.noncharacter.ensures ∙ c.if-noncharacter.false)
    c.if-n-eq13.false in
    rw (plain, sym c.control.ensures ∙ c.if-not-control.true) (refl, refl)

pub returns-then-whitespace : goal.returns-then-whitespace
returns-then-whitespace c =
    let plain = of_plain _ c.if-n-eq0.false c.if-n-gt1114111.false c.if-n-eq27.false (sym c.noncharacter.ensures ∙ c.if-noncharacter.false)
    c.if-n-eq13.false in
    rw (plain, sym c.control.ensures ∙ c.if-not-control.false)
    (rw (sym c.whitespace.ensures ∙ c.if-whitespace.true) (refl, refl))

pub returns : goal.returns
returns c =
    let plain = of_plain _ c.if-n-eq0.false c.if-n-gt1114111.false c.if-n-eq27.false (sym c.noncharacter.ensures ∙ c.if-noncharacter.false)
    c.if-n-eq13.false in
    rw (plain, sym c.control.ensures ∙ c.if-not-control.false)
    (rw (sym c.whitespace.ensures ∙ c.if-whitespace.false) (c.replacement.ensures, refl))
