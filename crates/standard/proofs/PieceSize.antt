-- A piece: it has at least one of the bytes that are there, no more errors than bytes, and with narrow names no longer a text.
use Rattle.std.specs.Prelude.{if◌then◌else◌}
use Prim.Native.Nat.{ℕ, suc, ◌+◌, ◌-◌, ◌≤◌, ◌<◌}
use Prim.Native.Char.{code}
use mathlib.Core.Path.{◌≡◌, refl}
use mathlib.Core.List.{List, [], ◌∷◌}
use mathlib.Core.Bool.{Bool, true, false, ◌&&◌, ◌||◌}
use native.Mathlib.Omega.{arith}
use lib.Dec.{ltb, eqb}
use lib.ListN.{length, get_or, drop, length-take, length-drop}
use borrow.Author.Tests.{ltb-true}
use Rattle.lists.specs.Notation.{between, next, next_passes, front}
use Rattle.lists.proofs.Choice.{if_both}
use Rattle.lists.proofs.Every.{All, every-all}
use Rattle.lists.proofs.Fronts.{front_induction, front_length}
use Rattle.lists.proofs.Nexts.{next_there}
use Rattle.standard.specs.declared.Context.{Context}
use Rattle.standard.specs.declared.characters.CharRead.{CharRead}
use Rattle.standard.specs.declared.characters.CharRead.TheVariants.{Char, Incomplete, Illformed, End}
use Rattle.standard.specs.declared.names.Found.{Found}
use Rattle.standard.specs.Utf8.{encode, read_char}
use Rattle.standard.specs.Errors.{
  no_error,
  listed,
  absence_of_digits_in_numeric_character_reference,
  missing_semicolon_after_character_reference,
  unknown_named_character_reference,
}
use Rattle.standard.specs.Contexts.{in_attribute}
use Rattle.standard.specs.Classes.{alphanumeric, character_code}
use Rattle.standard.specs.Numbers.{digit_of, is_digit, number_from, number, replacements, replaced_by, Meaning, meaning_of}
use Rattle.standard.specs.Names.{Name, longest}
use Rattle.standard.specs.Pieces.{
  Piece,
  piece,
  character,
  ampersand,
  numbered,
  digits_then,
  digits_at,
  numeric,
  char_ref_text,
  unknown_name,
  named_by,
  reference,
  piece_at,
}
use Rattle.standard.proofs.Utf8.{read_length}
use Rattle.standard.proofs.RoundTrip.{encode-short, encode_three}
use Rattle.standard.proofs.Lists.{noncharacters, c1_line_lem, meaning_listed, meanings}
use Rattle.standard.proofs.Narrow.{Narrow, FoundFits, longest-fits}

-- A piece fits in room bytes: it has some of them, no more errors than bytes, and with narrow names no longer a text.
pub record PieceFits (names : List Name) (room : ℕ) (p : Piece) : Type 0 where
  pub some : 1 ≤ p.size
  pub there : p.size ≤ room
  pub few : length p.codes ≤ p.size
  pub short : Narrow names → length p.text ≤ p.size

-- A code lists at most one error.
pub listed-few : (code : ℕ) → length (listed code) ≤ 1
listed-few code = if_both (λ (l : List ℕ). length l ≤ 1) (eqb code no_error) _ _ (λ t. omega arith) (λ f. omega arith)

-- Every element of the front passes the test.
front-passes : (p : ℕ → Bool) (s : List ℕ) → All (λ (c : ℕ). p c ≡ true) (front p s)
front-passes p = front_induction p (λ u s. All (λ (c : ℕ). p c ≡ true) u) (λ s. tt) (λ b u s e rest. (e, rest))

-- What holds of a number and of all that a table has in its second column holds of what the table puts for the number.
replaced_cases : (P : ℕ → Type 0) (entries : List (ℕ × ℕ)) (n : ℕ) → All (λ (entry : ℕ × ℕ). P entry.1) entries → P n → P (replaced_by entries n)
unfolding replaced_by
replaced_cases P [] n all h = h
replaced_cases P (entry ∷ entries) n all h =
    let later = replaced_cases P entries n all.1 h in if_both P (eqb n entry.0) _ _ (λ t. all.0) (λ f. later)

-- A number of 16 bits means a character of 16 bits.
meaning_short : (n : ℕ) → n < 0x10000 → (meaning_of n).char < 0x10000
unfolding meaning_listed replacements
meaning_short n h =
    rw (meanings n, meaning_listed, ← c1_line_lem)
    (if_both Short (eqb n 0 || between 0xD800 0xDFFF n || ltb 0x10FFFF n) _ _ (λ t. omega arith)
    (λ f. if_both Short (between 0x80 0x9F n) _ _ (λ t. replaced)
    (λ f. if_both Short (between 0x1 0x8 n || eqb n 0xB || between 0xD 0x1F n || eqb n 0x7F || noncharacters n) _ _ (λ t. h) (λ f. h))))
  where
    Short : Meaning → Type 0
    Short m = m.char < 0x10000

    replaced : replaced_by replacements n < 0x10000
    replaced =
        replaced_cases (λ (c : ℕ). c < 0x10000) replacements n
        (every-all (λ (entry : ℕ × ℕ). entry.1 < 0x10000) (λ entry. ltb entry.1 0x10000)
        (λ entry. ltb-true entry.1 0x10000) replacements refl) h

-- A number's text is not longer than its digits with their intro: one digit has 16 bits, and two digits with an intro have 4 bytes.
number_short : (base intro d : ℕ) (ds : List ℕ) → base ≤ 0x10000 → 2 ≤ intro → is_digit base d ≡ true
    → length (encode (meaning_of (number base (d ∷ ds))).char) ≤ intro + length (d ∷ ds)
unfolding number_from
number_short base intro d [] small long e =
    let h : number base (d ∷ []) < 0x10000 = omega (arith, ltb-true (digit_of d) base e) in
    omega (arith, encode_three (meaning_of (number base (d ∷ []))).char (meaning_short (number base (d ∷ [])) h))
number_short base intro d (c ∷ ds) small long e = omega (arith, encode-short (meaning_of (number base (d ∷ c ∷ ds))).char)

-- A piece with at most one byte of text and one error fits where its bytes do.
small-fits : (names : List Name) (room size : ℕ) (text codes : List ℕ) → (1 ≤ size) × (size ≤ room) → length text ≤ 1 → length codes ≤ 1
    → PieceFits names room (piece size text codes)
small-fits names room size text codes h short few =
    record { some = h.0; there = h.1; few = omega arith; short = λ narrow. omega arith }

-- An `&` alone fits where there is a byte.
ampersand-fits : (names : List Name) (room error : ℕ) → 1 ≤ room → PieceFits names room (ampersand error)
ampersand-fits names room error h = small-fits names room 1 (code "&" ∷ []) (listed error) (omega arith) (omega arith) (listed-few error)

-- A number fits where its bytes do, its `;` among them if it has one.
numbered-fits : (names : List Name) (room size : ℕ) (m : Meaning) (closed : Bool) → 2 ≤ size → size ≤ room → (closed ≡ true → size < room)
    → length (encode m.char) ≤ size → PieceFits names room (numbered size m closed)
numbered-fits names room size m true two there more short =
    record { some = omega arith; there = more refl; few = omega (arith, listed-few m.code); short = λ narrow. omega arith }
numbered-fits names room size m false two there more short =
    record { some = omega arith; there = there; few = omega (arith, listed-few m.code); short = λ narrow. short }

-- Digits that stand at the front of s, or none of them, fit with their intro.
digits_fit : (names : List Name) (base intro room : ℕ) (ds s : List ℕ) → base ≤ 0x10000 → 2 ≤ intro → intro + length s ≤ room
    → length ds ≤ length s → All (λ (c : ℕ). is_digit base c ≡ true) ds → PieceFits names room (digits_then base intro ds s)
unfolding digits_then
digits_fit names base intro room [] s small long there fit all =
    ampersand-fits names room absence_of_digits_in_numeric_character_reference (omega arith)
digits_fit names base intro room (d ∷ ds) s small long there fit all =
    numbered-fits names room (intro + length (d ∷ ds)) (meaning_of (number base (d ∷ ds))) (next (code ";") (drop (length (d ∷ ds)) s))
    (omega arith) (omega arith) (λ t. omega (arith, next_there (λ c. eqb c (code ";")) (length (d ∷ ds)) s t))
    (number_short base intro d ds small long all.0)

-- What digits of a base there are fits with their intro.
digits_at_fit : (names : List Name) (base intro room : ℕ) (s : List ℕ) → base ≤ 0x10000 → 2 ≤ intro → intro + length s ≤ room
    → PieceFits names room (digits_at base intro s)
unfolding digits_at
digits_at_fit names base intro room s small long there =
    digits_fit names base intro room (front (is_digit base) s) s small long there (front_length (is_digit base) s) (front-passes (is_digit base) s)

-- What stands after `&#` fits with it.
numeric-fits : (names : List Name) (room : ℕ) (s : List ℕ) → 2 + length s ≤ room → PieceFits names room (numeric s)
unfolding numeric
numeric-fits names room [] h = digits_at_fit names 10 2 room [] (omega arith) (omega arith) h
numeric-fits names room (c ∷ s) h =
    if_both (PieceFits names room) (next (code "x") (c ∷ s) || next (code "X") (c ∷ s)) _ _
    (λ t. digits_at_fit names 16 3 room s (omega arith) (omega arith) (omega arith))
    (λ f. digits_at_fit names 10 2 room (c ∷ s) (omega arith) (omega arith) h)

-- What a name that fits makes of s fits with its `&`.
named-fits : (names : List Name) (context : Context) (found : Found) (s : List ℕ) → FoundFits names s found
    → PieceFits names (suc (length s)) (named_by context found s)
unfolding named_by
named-fits names context found s h =
    if_both F (eqb found.len 0) _ _ (λ t. alone (if unknown_name s then unknown_named_character_reference else no_error))
    (λ f. if_both F (eqb (get_or s (found.len - 1) 0) (code ";")) _ _ (λ t. whole [] (omega arith))
    (λ f. if_both F (in_attribute context && next_passes (λ c. eqb c (code "=") || alphanumeric c) (drop found.len s)) _ _ (λ t. alone no_error)
    (λ f. whole (missing_semicolon_after_character_reference ∷ []) (omega arith))))
  where
    F : Piece → Type 0
    F = PieceFits names (suc (length s))

    alone : (error : ℕ) → F (ampersand error)
    alone error = ampersand-fits names (suc (length s)) error (omega arith)

    whole : (codes : List ℕ) → length codes ≤ 1 → F (piece (suc found.len) (char_ref_text found.reference) codes)
    whole codes few = record { some = omega arith; there = omega (arith, h.0); few = omega arith; short = h.1 }

-- What stands after an `&` fits with it.
reference-fits : (names : List Name) (context : Context) (s : List ℕ) → PieceFits names (suc (length s)) (reference names context s)
unfolding reference
reference-fits names context s =
    if_both (PieceFits names (suc (length s))) (next (code "#") s) _ _
    (λ t. numeric-fits names (suc (length s)) (drop 1 s) (omega (arith, length-drop 1 s, next_there (λ c. eqb c (code "#")) 0 s t)))
    (λ f. named-fits names context (longest names s) s (longest-fits names s))

-- A character that is read fits, and a byte of none does.
character-fits : (names : List Name) (s : List ℕ) (r : CharRead) → 0 < length s → read_char s ≡ r → PieceFits names (length s) (character r s)
character-fits names s (Char c n) h e =
    let w = read_length s c n e in
    record { some = w.0; there = w.2; few = omega (arith, listed-few (character_code c)); short = λ narrow. simp length-take (omega arith) }
character-fits names s (Incomplete n) h e = small-fits names (length s) 1 [] [] (omega arith) (omega arith) (omega arith)
character-fits names s (Illformed n) h e = small-fits names (length s) 1 [] [] (omega arith) (omega arith) (omega arith)
character-fits names s End h e = small-fits names (length s) 1 [] [] (omega arith) (omega arith) (omega arith)

-- The piece at the front of a source fits.
pub piece-fits : (names : List Name) (context : Context) (s : List ℕ) → 0 < length s → PieceFits names (length s) (piece_at names context s)
unfolding piece_at
piece-fits names context [] h = absurd (omega arith)
piece-fits names context (c ∷ s) h =
    if_both F (eqb c (code "\r")) _ _ (λ t. small-fits names _ _ (code "\n" ∷ []) [] newline (omega arith) (omega arith))
    (λ f. if_both F (eqb c (code "&")) _ _ (λ t. reference-fits names context s) (λ f. character-fits names (c ∷ s) _ h refl))
  where
    F : Piece → Type 0
    F = PieceFits names (suc (length s))

    newline : (1 ≤ (if next (code "\n") s then 2 else 1)) × ((if next (code "\n") s then 2 else 1) ≤ suc (length s))
    newline =
        if_both (λ (n : ℕ). (1 ≤ n) × (n ≤ suc (length s))) (next (code "\n") s) _ _
        (λ t. omega (arith, next_there (λ b. eqb b (code "\n")) 0 s t)) (λ f. omega arith)

-- A piece has at least one byte, and no more than there are.
pub piece-size : (names : List Name) (context : Context) (s : List ℕ) → 0 < length s
    → (1 ≤ (piece_at names context s).size) × ((piece_at names context s).size ≤ length s)
piece-size names context s h = let w = piece-fits names context s h in (w.some, w.there)
