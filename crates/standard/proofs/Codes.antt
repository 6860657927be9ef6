-- The errors of a source: their codes have one digit, and their places are in the source.
use Prim.Native.Nat.{ℕ, ◌+◌, ◌-◌, ◌<◌, ◌≤◌}
use Prim.Native.Char.{code}
use mathlib.Core.List.{List, [], ◌∷◌, ◌++◌}
use mathlib.Core.Bool.{Bool, true, false, ◌&&◌, ◌||◌}
use native.Mathlib.Omega.{arith}
use lib.Dec.{ltb, eqb}
use lib.ListN.{length, get_or, drop, length-drop}
use Rattle.lists.specs.Notation.{between, next, next_passes, front}
use Rattle.lists.proofs.Choice.{if_both}
use Rattle.lists.proofs.Every.{All}
use Rattle.standard.specs.declared.Context.{Context}
use Rattle.standard.specs.declared.characters.CharRead.{CharRead}
use Rattle.standard.specs.declared.characters.CharRead.TheVariants.{Char, Incomplete, Illformed, End}
use Rattle.standard.specs.declared.names.Found.{Found}
use Rattle.standard.specs.Utf8.{read_char}
use Rattle.standard.specs.Errors.{no_error, listed, Error, placed}
use Rattle.standard.specs.Contexts.{in_attribute}
use Rattle.standard.specs.Classes.{alphanumeric, character_code}
use Rattle.standard.specs.Numbers.{is_digit, number, Meaning, meaning_of}
use Rattle.standard.specs.Names.{Name, longest}
use Rattle.standard.specs.Pieces.{Piece, character, numbered, digits_then, digits_at, numeric, unknown_name, named_by, reference, piece_at}
use Rattle.standard.specs.Reading.{joined, decode}
use Rattle.standard.proofs.Lists.{noncharacters, with_error, characters, meaning_listed, meanings}
use Rattle.standard.proofs.PieceSize.{piece-size}
use Rattle.standard.proofs.Bounds.{pieces_induction}

-- What holds of all of two lists holds of all of them joined.
all_append : {A : Type 0} (P : A → Type 0) (a b : List A) → All P a → All P b → All P (a ++ b)
all_append P [] b p q = q
all_append P (x ∷ a) b p q = (p.0, all_append P a b p.1 q)

-- A code of one digit.
abbrev Short : ℕ → Type 0
Short code = code < 10

-- The codes of a piece have one digit.
abbrev ShortCodes : Piece → Type 0
ShortCodes p = All Short p.codes

-- A code of one digit lists such.
listed-short : (error : ℕ) → Short error → All Short (listed error)
listed-short error h = if_both (All Short) (eqb error no_error) _ _ (λ t. tt) (λ f. (h, tt))

-- What a number means has a code of one digit.
meaning_short : (n : ℕ) → Short (meaning_of n).code
unfolding meaning_listed
meaning_short n =
    rw (meanings n, meaning_listed)
    (if_both M (eqb n 0 || between 0xD800 0xDFFF n || ltb 0x10FFFF n) _ _ (λ t. omega arith)
    (λ f. if_both M (between 0x80 0x9F n) _ _ (λ t. omega arith)
    (λ f. if_both M (between 0x1 0x8 n || eqb n 0xB || between 0xD 0x1F n || eqb n 0x7F || noncharacters n) _ _ (λ t. omega arith)
    (λ f. omega arith))))
  where
    M : Meaning → Type 0
    M m = Short m.code

-- A character that stands for itself.
character-short : (r : CharRead) (s : List ℕ) → ShortCodes (character r s)
character-short (Char c n) s =
    listed-short (character_code c) (rw (characters c) (if_both Short (with_error c) _ _ (λ t. omega arith) (λ f. omega arith)))
character-short (Incomplete n) s = tt
character-short (Illformed n) s = tt
character-short End s = tt

-- A numeric reference.
numbered-short : (size n : ℕ) (closed : Bool) → ShortCodes (numbered size (meaning_of n) closed)
numbered-short size n true = listed-short (meaning_of n).code (meaning_short n)
numbered-short size n false = (omega arith, listed-short (meaning_of n).code (meaning_short n))

digits_short : (base intro : ℕ) (ds s : List ℕ) → ShortCodes (digits_then base intro ds s)
unfolding digits_then
digits_short base intro [] s = listed-short 1 (omega arith)
digits_short base intro (d ∷ ds) s =
    numbered-short (intro + length (d ∷ ds)) (number base (d ∷ ds)) (next (code ";") (drop (length (d ∷ ds)) s))

numeric-short : (s : List ℕ) → ShortCodes (numeric s)
unfolding numeric digits_at
numeric-short s =
    if_both ShortCodes (next (code "x") s || next (code "X") s) _ _ (λ t. digits_short 16 3 (front (is_digit 16) (drop 1 s)) (drop 1 s))
    (λ f. digits_short 10 2 (front (is_digit 10) s) s)

-- A named one.
named-short : (context : Context) (found : Found) (s : List ℕ) → ShortCodes (named_by context found s)
unfolding named_by
named-short context found s =
    if_both ShortCodes (eqb found.len 0) _ _ (λ t. listed-short _ (if_both Short (unknown_name s) _ _ (λ t. omega arith) (λ f. omega arith)))
    (λ f. if_both ShortCodes (eqb (get_or s (found.len - 1) 0) (code ";")) _ _ (λ t. tt)
    (λ f. if_both ShortCodes (in_attribute context && next_passes (λ c. eqb c (code "=") || alphanumeric c) (drop found.len s)) _ _ (λ t. tt)
    (λ f. (omega arith, tt))))

reference-short : (names : List Name) (context : Context) (s : List ℕ) → ShortCodes (reference names context s)
unfolding reference
reference-short names context s =
    if_both ShortCodes (next (code "#") s) _ _ (λ t. numeric-short (drop 1 s)) (λ f. named-short context (longest names s) s)

-- Each piece.
piece-short : (names : List Name) (context : Context) (s : List ℕ) → ShortCodes (piece_at names context s)
unfolding piece_at
piece-short names context [] = tt
piece-short names context (c ∷ s) =
    if_both ShortCodes (eqb c (code "\r")) _ _ (λ t. tt)
    (λ f. if_both ShortCodes (eqb c (code "&")) _ _ (λ t. reference-short names context s) (λ f. character-short (read_char (c ∷ s)) (c ∷ s)))

-- An error with a code of one digit and a place below end.
abbrev pub Placed : ℕ → Error → Type 0
Placed end e = (e.code < 10) × (e.place < end)

-- Codes of one digit that are placed.
placed-short : (offset end : ℕ) (codes : List ℕ) → offset < end → All Short codes → All (Placed end) (placed offset codes)
unfolding placed
placed-short offset end [] h all = tt
placed-short offset end (c ∷ codes) h all = ((all.0, h), placed-short offset end codes h all.1)

-- The errors of a source.
pub errors-placed : (names : List Name) (context : Context) (s : List ℕ) → All (Placed (length s)) (decode names context s).errors
unfolding joined
errors-placed names context s =
    pieces_induction names context (λ s ps. (offset end : ℕ) → offset + length s ≤ end → All (Placed end) (joined offset ps).errors)
    (λ offset end h. tt) more s 0 (length s) (omega arith)
  where
    more : (s : List ℕ) (ps : List Piece) → 0 < length s
        → ((offset end : ℕ) → offset + length (drop (piece_at names context s).size s) ≤ end → All (Placed end) (joined offset ps).errors)
        → (offset end : ℕ) → offset + length s ≤ end → All (Placed end) (joined offset (piece_at names context s ∷ ps)).errors
    more s ps some rest offset end h =
        let p : Piece = piece_at names context s in
        all_append (Placed end) (placed offset p.codes) _ (placed-short offset end p.codes (omega arith) (piece-short names context s))
        (rest (offset + p.size) end (simp length-drop (omega (arith, piece-size names context s some))))
