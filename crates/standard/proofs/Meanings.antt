-- What a number means, case by case: past the last code point, a surrogate, and a scalar value.
use Rattle.std.specs.Prelude.{if◌then◌else◌}
use Prim.Native.Nat.{ℕ, ◌/◌, ◌≤◌, ◌<◌}
use mathlib.Core.Path.{◌≡◌}
use mathlib.Core.Bool.{not, ◌||◌, ◌&&◌}
use mathlib.Core.Logic.{⊎_map}
use native.Mathlib.Omega.{arith}
use lib.Dec.{eqb}
use borrow.Author.Tests.{lt-ltb, le-ltb, ne_eqb}
use Rattle.lists.proofs.Choice.{below?, inside-between, outside_between}
use Rattle.standard.specs.Classes.{noncharacter, whitespace, control}
use Rattle.standard.specs.Numbers.{replacements, replaced_by, means, meaning_of}

-- What lies past the last code point means U+FFFD.
pub meaning_outside : (n : ℕ) → 0x10FFFF < n → meaning_of n ≡ means 0xFFFD 3
unfolding meaning_of
meaning_outside n h = rw (ne_eqb n 0 (omega arith), lt-ltb 0x10FFFF n h)

-- A surrogate means U+FFFD: it is in the range of 0x800 numbers from 0x1B * 0x800 on.
pub meaning_surrogate : (n : ℕ) → n / 0x800 ≡ 0x1B → meaning_of n ≡ means 0xFFFD 3
unfolding meaning_of
meaning_surrogate n e =
    rw (ne_eqb n 0 (omega arith), le-ltb 0x10FFFF n (omega arith), inside-between 0xD800 0xDFFF n (omega arith) (omega arith))

-- A scalar value other than NUL means a noncharacter, a control or itself.
pub meaning_scalar : (n : ℕ) → (n ≡ 0 → ⊥) → n ≤ 0x10FFFF → (n / 0x800 ≡ 0x1B → ⊥)
    → meaning_of n ≡ (if noncharacter n then means n 3
    else if eqb n 0xD || (control n && not (whitespace n)) then means (replaced_by replacements n) 3 else means n 0)
unfolding meaning_of
meaning_scalar n some inside no_surrogate =
    let outside = ⊎_map (λ (h : n < 0xD800). h) (λ (h : 0xD800 ≤ n). let k : 0xDFFF < n = omega arith in k) (below? n 0xD800) in
    rw (ne_eqb n 0 some, le-ltb 0x10FFFF n inside, outside_between 0xD800 0xDFFF n outside)
