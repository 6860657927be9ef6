-- Document 01, 'What the bench reads' and 'Pieces': where a source stops, its pieces, and their joined text and errors.
use Rattle.std.specs.Prelude.{ℕ, zero, suc, ◌+◌, ◌-◌, List, [], ◌∷◌, ◌++◌, Bool, ◌||◌, eqb, take, if◌then◌else◌}
use Rattle.standard.specs.declared.Context.{Context}
use Rattle.standard.specs.declared.characters.CharRead.{CharRead}
use Rattle.standard.specs.declared.characters.CharRead.TheVariants.{Char, Incomplete, Illformed, End}
use Rattle.standard.specs.Utf8.{read_char}
use Rattle.standard.specs.Answers.{done, ill_formed, nul, context_end}
use Rattle.standard.specs.Contexts.{ends, refused}
use Rattle.standard.specs.Errors.{Error, placed}
use Rattle.standard.specs.Names.{Name}
use Rattle.standard.specs.Pieces.{Piece, piece_at}

-- The answer that a character of a source calls for: 2 for NUL, 7 for the context's end, 0 where reading goes on.
abbrev pub calls_for : Context → ℕ → ℕ
calls_for context c = if refused context c then nul else if ends context c then context_end else done

-- The answer that what is read calls for, where characters call for theirs: 1 for bytes that are no character.
abbrev pub answer_to : (ℕ → ℕ) → CharRead → ℕ
answer_to calls (Char c n) = calls c
answer_to calls (Incomplete n) = ill_formed
answer_to calls (Illformed n) = ill_formed
answer_to calls End = done

-- How many bytes of a character stand there.
abbrev pub size_of : CharRead → ℕ
size_of (Char c n) = n
size_of (Incomplete n) = n
size_of (Illformed n) = n
size_of End = 0

-- Why reading stops, and after how many bytes: those are the covered part.
pub record Stop : Type 0 where
  pub answer : ℕ
  pub place : ℕ

-- A stop, given its answer and its place.
abbrev pub stops : ℕ → ℕ → Stop
stops answer place = record { answer = answer; place = place }

-- Where bytes stop whose next character begins after skip of them, with place bytes before them.
unfoldable pub stop_from : (calls : ℕ → ℕ) (skip place : ℕ) → List ℕ → Stop
stop_from calls skip place [] = stops done place
stop_from calls zero place (b ∷ s) =
    let r : CharRead = read_char (b ∷ s) in
    if eqb (answer_to calls r) done then stop_from calls (size_of r - 1) (suc place) s else stops (answer_to calls r) place
stop_from calls (suc skip) place (b ∷ s) = stop_from calls skip (suc place) s

-- Where a source stops.
abbrev pub stop_of : Context → List ℕ → Stop
stop_of context s = stop_from (calls_for context) 0 0 s

-- The covered part of a source that is readable; of another, what stands before its fault.
abbrev pub covered : Context → List ℕ → List ℕ
covered context s = take (stop_of context s).place s

-- A source is readable when no fault stands before its end.
abbrev pub readable : Context → List ℕ → Bool
readable context s = eqb (stop_of context s).answer done || eqb (stop_of context s).answer context_end

-- The pieces of a covered source after its first skip bytes.
unfoldable pub pieces_from : List Name → Context → (skip : ℕ) → List ℕ → List Piece
pieces_from names context skip [] = []
pieces_from names context zero (b ∷ s) =
    let p : Piece = piece_at names context (b ∷ s) in p ∷ pieces_from names context (p.size - 1) s
pieces_from names context (suc skip) (b ∷ s) = pieces_from names context skip s

-- The pieces of a covered source.
abbrev pub pieces : List Name → Context → List ℕ → List Piece
pieces names context s = pieces_from names context 0 s

-- What is read: text, and errors with their places.
pub record Reading : Type 0 where
  pub text : List ℕ
  pub errors : List Error

-- A reading, given its text and its errors.
abbrev pub reading : List ℕ → List Error → Reading
reading text errors = record { text = text; errors = errors }

infixr 60 ◌⊕◌
-- One after the other.
abbrev pub ◌⊕◌ : Reading → Reading → Reading
a ⊕ b = reading (a.text ++ b.text) (a.errors ++ b.errors)

-- What is read of a piece at an offset.
abbrev pub reading_at : ℕ → Piece → Reading
reading_at offset p = reading p.text (placed offset p.codes)

-- Pieces joined, the first of them at an offset.
unfoldable pub joined : ℕ → List Piece → Reading
joined offset [] = reading [] []
joined offset (p ∷ ps) = reading_at offset p ⊕ joined (offset + p.size) ps

-- The reading of a covered source.
abbrev pub decode : List Name → Context → List ℕ → Reading
decode names context s = joined 0 (pieces names context s)

-- How long the text of n covered bytes can be.
abbrev pub text_bound : ℕ → ℕ
text_bound n = n

-- How many errors they can have.
abbrev pub errors_bound : ℕ → ℕ
errors_bound n = n
