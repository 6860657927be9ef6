-- The piece at the front of some bytes: one law for each way that it is settled.
use Rattle.std.specs.Prelude.{if◌then◌else◌}
use Prim.Native.Nat.{ℕ, suc, ◌+◌, ◌-◌, ◌≤◌, ◌<◌, min}
use Prim.Native.Char.{code}
use mathlib.Core.Path.{◌≡◌, refl, ◌∙◌}
use mathlib.Core.List.{List, [], ◌∷◌}
use mathlib.Core.Bool.{Bool, true, false, ◌&&◌}
use mathlib.Core.Logic.{◌≢◌}
use native.Mathlib.Omega.{arith}
use lib.Dec.{ltb, eqb}
use lib.ListN.{length, get_or, drop, length-drop}
use lib.Seq.{drop-drop}
use borrow.Author.Tests.{eq-eqb, ne_eqb}
use Rattle.lists.specs.Notation.{next, front}
use Rattle.lists.proofs.Fronts.{front_length}
use Rattle.lists.proofs.Nexts.{next-front}
use Rattle.standard.specs.declared.Context.{Context}
use Rattle.standard.specs.declared.names.Found.{Found}
use Rattle.standard.specs.Utf8.{read_char}
use Rattle.standard.specs.Classes.{alphanumeric}
use Rattle.standard.specs.Numbers.{is_digit, number, meaning_of}
use Rattle.standard.specs.Names.{Name, longest}
use Rattle.standard.specs.Pieces.{
  piece,
  character,
  ampersand,
  numbered,
  digits_at,
  char_ref_text,
  unknown_name,
  named_by,
  stays_text,
  reference,
  piece_at,
}
use Rattle.standard.proofs.Digits.{digits_by-length}
use Rattle.standard.proofs.Stopped.{meaning_stopped}
use Rattle.standard.proofs.Narrow.{longest-fits}

-- Digits of a base from a place to an end, after their intro.
module _ (base intro from end : ℕ) (s : List ℕ) (end_is : end ≡ from + length (front (is_digit base) (drop from s))) where
  -- They end within the bytes.
  pub digits_there : from ≤ length s → end ≤ length s
  digits_there h = omega (arith, front_length (is_digit base) (drop from s), length-drop from s)

  -- Where there are none, the `&` is a piece alone.
  pub digits_none : end ≡ from → digits_at base intro (drop from s) ≡ ampersand 1
  digits_none e =
      let none : length (front (is_digit base) (drop from s)) ≡ 0 = omega arith in
      digits_by-length base intro (drop from s) ∙ rw (eq-eqb _ 0 none)

  -- Where there are some, they are a number, and one that stopped means the same.
  pub digits_some : (value : ℕ) → end ≢ from → value ≡ min (number base (front (is_digit base) (drop from s))) 0x110000
      → digits_at base intro (drop from s) ≡ numbered (intro + (end - from)) (meaning_of value) (next (code ";") (drop end s))
  digits_some value some value-is =
      let n : ℕ = length (front (is_digit base) (drop from s)) in
      let more : n ≢ 0 = λ e. some (omega arith) in
      let size_is : n ≡ end - from = omega arith in
      digits_by-length base intro (drop from s)
      ∙ rw (ne_eqb n 0 more, drop-drop n from s, ← end_is, size_is, value-is, meaning_stopped)

-- Letters and digits, and the byte after them.
pub unknown-at : (s : List ℕ) (end : ℕ) → end ≡ length (front alphanumeric s) → unknown_name s ≡ ltb 0 end && next (code ";") (drop end s)
unfolding unknown_name
unknown-at s end e = rw (next-front alphanumeric s, e)

-- The longest name is not longer than what it is found in.
pub found-there : (names : List Name) (s : List ℕ) {found : Found} → found ≡ longest names s → found.len ≤ length s
found-there names s e = rw e (longest-fits names s).0

-- What stands after an `&`, by the longest name that is found there.
module _ (context : Context) (found : Found) (s : List ℕ) where
  -- No name.
  pub by_none : (unknown : Bool) → found.len ≡ 0 → unknown_name s ≡ unknown → named_by context found s ≡ ampersand (if unknown then 4 else 0)
  unfolding named_by
  by_none unknown none e = rw (none, e)

  module _ (some : found.len ≢ 0) where
    -- A name that ends with `;`.
    pub by_closed : get_or s (found.len - 1) 0 ≡ code ";" → named_by context found s ≡ piece (suc found.len) (char_ref_text found.reference) []
    unfolding named_by
    by_closed e = rw (ne_eqb _ 0 some, e)

    module _ (unclosed : get_or s (found.len - 1) 0 ≢ code ";") where
      -- A name without `;` that stays text.
      pub by_staying : stays_text context (drop found.len s) ≡ true → named_by context found s ≡ ampersand 0
      unfolding named_by
      by_staying e = rw (ne_eqb _ 0 some, ne_eqb _ _ unclosed, e)

      -- Any other name without `;`.
      pub by_open : stays_text context (drop found.len s) ≡ false
          → named_by context found s ≡ piece (suc found.len) (char_ref_text found.reference) (2 ∷ [])
      unfolding named_by
      by_open e = rw (ne_eqb _ 0 some, ne_eqb _ _ unclosed, e)

-- The piece at the front of s goes by the first byte.
by_first : (names : List Name) (context : Context) (s : List ℕ) → 0 < length s
    → piece_at names context s ≡ (if eqb (get_or s 0 0) (code "\r") then piece (if next (code "\n") (drop 1 s) then 2 else 1) (code "\n" ∷ []) []
    else if eqb (get_or s 0 0) (code "&") then reference names context (drop 1 s)
    else character (read_char s) s)
unfolding piece_at
by_first names context [] there = absurd (omega arith)
by_first names context (c ∷ s) there = refl

module _ (names : List Name) (context : Context) (s : List ℕ) (there : 0 < length s) where
  -- A CR is a newline.
  pub first_newline : get_or s 0 0 ≡ code "\r" → piece_at names context s ≡ piece (if next (code "\n") (drop 1 s) then 2 else 1) (code "\n" ∷ []) []
  first_newline e = rw (by_first names context s there, e)

  -- An `&` may be a reference.
  pub first_reference : get_or s 0 0 ≡ code "&" → piece_at names context s ≡ reference names context (drop 1 s)
  first_reference e = rw (by_first names context s there, e)

  -- Any other byte is of a character.
  pub first_character : get_or s 0 0 ≢ code "\r" → get_or s 0 0 ≢ code "&" → piece_at names context s ≡ character (read_char s) s
  first_character p q = rw (by_first names context s there, ne_eqb _ _ p, ne_eqb _ _ q)
