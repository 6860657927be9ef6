-- Laws of numbers as they are lent.
use Prim.Native.Nat.{ℕ, suc, ◌+◌, ◌*◌, ◌/◌, ◌%◌, ◌≤◌, ◌<◌}
use mathlib.Core.Path.{◌≡◌, refl, ◌∙◌, ap}
use mathlib.Core.List.{List, [], ◌∷◌}
use native.Mathlib.Omega.{arith}
use lib.ListN.{length, take, drop, set}
use lib.Seq.{drop-set-lt, sets}
use Rattle.lists.specs.Bytes.{word32, four_bytes, fours, words}
use Rattle.lists.proofs.Every.{All}
use Rattle.lists.proofs.Puts.{take-written}
use Rattle.lists.specs.Layings.{Laying}
use Rattle.lists.proofs.Layings.{laid-plainly, laid-fours}
use Rattle.lists.proofs.Ways.{Way, plain, in_bytes, width, laid, room, Says, Small}

-- A number's digits to the base 256 say it.
digits_say : (n p q t : ℕ) → p ≡ n / 256 → q ≡ p / 256 → t ≡ q / 256 → t < 256
    → n % 256 + 256 * (p % 256) + 65536 * (q % 256) + 16777216 * (t % 256) ≡ n
digits_say n p q t a b c h = omega (arith, a, b, c, h)

-- So do its four bytes.
pub word-says : (n : ℕ) → Small n → word32 (four_bytes n) 0 ≡ n
word-says n h =
    let second : n / 65536 ≡ n / 256 / 256 = omega arith in
    let third : n / 16777216 ≡ n / 65536 / 256 = omega arith in
    digits_say n (n / 256) (n / 65536) (n / 16777216) refl second third (omega (arith, h))

-- Both ways lay numbers one after the other.
pub laying : (way : Way) → Laying (width way) (laid way)
laying plain = laid-plainly
laying in_bytes = laid-fours

-- Small numbers are said by their values.
pub laid-says : (way : Way) (ns : List ℕ) → All Small ns → Says way (laid way ns) ns
unfolding words fours
laid-says plain ns s = (omega arith, refl)
laid-says in_bytes ns s = (omega (arith, laid-fours.long ns), fours_say ns s)
  where
    fours_say : (ns : List ℕ) → All Small ns → words (fours ns) ≡ ns
    fours_say [] s = refl
    fours_say (n ∷ ns) s = rw (fours_say ns s.1) (ap (λ (k : ℕ). k ∷ ns) (word-says n s.0))

-- No values say no numbers.
pub says_none : (way : Way) → Says way [] []
unfolding words
says_none plain = (refl, refl)
says_none in_bytes = (refl, refl)

-- Values of no more numbers than a room has are within it.
laid-within : (way : Way) (values ns : List ℕ) → length ns ≤ room way values
    → (length (laid way ns) ≤ width way * room way values) × (length (laid way ns) ≤ length values)
laid-within plain values ns h = (omega arith, h)
laid-within in_bytes values ns h = (omega (arith, laid-fours.long ns), omega (arith, laid-fours.long ns))

-- Where they are written they say their numbers.
pub written-says : (way : Way) (values ns : List ℕ) → length ns ≤ room way values → All Small ns
    → Says way (take (width way * length ns) (sets values 0 (laid way ns))) ns
written-says way values ns h s =
    rw (take-written values (laid way ns) (width way * length ns) ((laying way).long ns) (laid-within way values ns h).1) (laid-says way ns s)

-- What is written leaves what stands after it.
keeps-rest : (values written : List ℕ) (at k : ℕ) → at + length written ≤ k → drop k (sets values at written) ≡ drop k values
keeps-rest values [] at k h = refl
keeps-rest values (a ∷ written) at k h =
    keeps-rest (set values at a) written (suc at) k (omega (arith, h)) ∙ drop-set-lt k values at a (omega (arith, h))

-- Values that are no room keep their contents.
pub written_keeps : (way : Way) (values ns : List ℕ) → length ns ≤ room way values
    → drop (width way * room way values) (sets values 0 (laid way ns)) ≡ drop (width way * room way values) values
written_keeps way values ns h = keeps-rest values (laid way ns) 0 (width way * room way values) (omega (arith, (laid-within way values ns h).0))
