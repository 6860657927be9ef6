-- The digits at the front of some bytes: how many there are, and what they make of the bytes after `&#` or `&#x`.
use Rattle.std.specs.Prelude.{if◌then◌else◌}
use Prim.Native.Nat.{ℕ, suc, ◌+◌, ◌*◌, ◌≤◌, ◌<◌, min}
use Prim.Native.Char.{code}
use mathlib.Core.Path.{◌≡◌, refl, sym, ap}
use mathlib.Core.List.{List, [], ◌∷◌}
use native.Mathlib.Omega.{arith}
use lib.Dec.{eqb}
use lib.ListN.{length, get_or, drop}
use borrow.Author.Tests.{lt-ltb, le-ltb, ne_eqb}
use Rattle.lists.specs.Notation.{next, front}
use Rattle.lists.proofs.Fronts.{front-none, front_stops, front_goes_on}
use Rattle.standard.specs.Errors.{absence_of_digits_in_numeric_character_reference}
use Rattle.standard.specs.Numbers.{digit_of, is_digit, number_from, number, meaning_of}
use Rattle.standard.specs.Pieces.{ampersand, numbered, digits_then, digits_at}
use Rattle.standard.proofs.Stopped.{number-stopped}

-- What is read of the digits from a place on, after a number: the place after them, and the number with them, stopped.
abbrev pub digits_from : (base : ℕ) → List ℕ → (value end : ℕ) → ℕ × ℕ
digits_from base s value end =
    let ds = front (is_digit base) (drop end s) in (end + length ds, min (number_from base value ds) 0x110000)

-- The two results, from the pair of them.
pub both : {a b : ℕ × ℕ} → a ≡ b → (b.0 ≡ a.0) × (b.1 ≡ a.1)
both e = (sym (ap (λ (w : ℕ × ℕ). w.0) e), sym (ap (λ (w : ℕ × ℕ). w.1) e))

module _ (base : ℕ) (s : List ℕ) (value end : ℕ) where
  -- Where no digit is left, the place and the number stay.
  digits_stay : value ≤ 0x110000 → front (is_digit base) (drop end s) ≡ [] → digits_from base s value end ≡ (end, value)
  unfolding number_from
  digits_stay stopped e = rw e (λ i. (let p : end + 0 ≡ end = omega arith in p i, let p : min value 0x110000 ≡ value = omega arith in p i))

  -- At the end of the bytes.
  pub digits_end : value ≤ 0x110000 → length s ≤ end → digits_from base s value end ≡ (end, value)
  digits_end stopped h = digits_stay stopped (front-none (is_digit base) s end h)

  -- At a byte that is no digit of the base.
  pub digits_stop : value ≤ 0x110000 → end < length s → base ≤ digit_of (get_or s end 0) → digits_from base s value end ≡ (end, value)
  digits_stop stopped there h = digits_stay stopped (front_stops (is_digit base) s end there (le-ltb _ _ h))

  -- A digit is one place, and is added to the number.
  pub digits_more : end < length s → digit_of (get_or s end 0) < base
      → digits_from base s value end ≡ digits_from base s (min (value * base + digit_of (get_or s end 0)) 0x110000) (end + 1)
  unfolding number_from
  digits_more there h =
      let ds = front (is_digit base) (drop (end + 1) s) in
      rw (front_goes_on (is_digit base) s end there (lt-ltb _ _ h))
      (λ i. (
        let p : end + suc (length ds) ≡ end + 1 + length ds = omega arith in p i,
        sym (number-stopped base (value * base + digit_of (get_or s end 0)) ds) i,
      ))

-- After `&#` or `&#x`: where no digit stands there the `&` is a piece alone, and else the digits are a reference.
pub digits_by-length : (base intro : ℕ) (s : List ℕ) → let ds = front (is_digit base) s in
    digits_at base intro s ≡ (if eqb (length ds) 0 then ampersand absence_of_digits_in_numeric_character_reference
    else numbered (intro + length ds) (meaning_of (number base ds)) (next (code ";") (drop (length ds) s)))
unfolding digits_at digits_then
digits_by-length base intro s = go (front (is_digit base) s)
  where
    go : (ds : List ℕ) → digits_then base intro ds s ≡ (if eqb (length ds) 0 then ampersand absence_of_digits_in_numeric_character_reference
        else numbered (intro + length ds) (meaning_of (number base ds)) (next (code ";") (drop (length ds) s)))
    go [] = refl
    go (d ∷ ds) = rw (ne_eqb (length (d ∷ ds)) 0 (λ e. omega arith))
