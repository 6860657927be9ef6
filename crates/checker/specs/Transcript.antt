-- Document 01, 'Transcript': what a row must say, and the verdict on the rows.
use Rattle.std.specs.Prelude.{ℕ, zero, suc, ◌+◌, ◌-◌, ◌*◌, ◌%◌, List, [], ◌∷◌, Bool, not, ◌||◌, ◌&&◌, ltb, eqb, length, drop, if◌then◌else◌}
use Rattle.lists.specs.Bytes.{words}
use Rattle.standard.specs.declared.Context.{Context}
use Rattle.standard.specs.Answers.{done, too_long, not_whole, longest_slice}
use Rattle.standard.specs.Errors.{numbers}
use Rattle.standard.specs.Names.{Name, stands}
use Rattle.standard.specs.Pieces.{Piece}
use Rattle.standard.specs.Reading.{Stop, stop_of, covered, readable, pieces, Reading, joined}
use Rattle.checker.specs.declared.checking.Checked.{Checked}

-- A row: how many source bytes, text bytes and errors it has.
pub record Row : Type 0 where
  pub source : ℕ
  pub text : ℕ
  pub errors : ℕ

-- A row, given its three numbers.
abbrev pub row : ℕ → ℕ → ℕ → Row
row source text errors = record { source = source; text = text; errors = errors }

-- Numbers in threes as rows.
unfoldable pub rows_of : List ℕ → List Row
rows_of [] = []
rows_of (source ∷ []) = []
rows_of (source ∷ text ∷ []) = []
rows_of (source ∷ text ∷ errors ∷ l) = row source text errors ∷ rows_of l

-- What the rows so far have left: the pieces, the first of them at an offset, the text, and the errors as numbers.
pub record Left : Type 0 where
  pub at : ℕ
  pub pieces : List Piece
  pub text : List ℕ
  pub errors : List ℕ

-- What is left, given its offset, its pieces, its text and its errors.
abbrev pub left : ℕ → List Piece → List ℕ → List ℕ → Left
left at ps text errors = record { at = at; pieces = ps; text = text; errors = errors }

-- How many source bytes pieces have.
unfoldable pub total : List Piece → ℕ
total [] = 0
total (p ∷ ps) = p.size + total ps

-- The pieces that n source bytes reach into.
unfoldable pub reached : ℕ → List Piece → List Piece
reached n [] = []
reached zero (p ∷ ps) = []
reached (suc n) (p ∷ ps) = p ∷ reached (suc n - p.size) ps

-- The reasons, a to e, by their numbers; 0 where there is none.
abbrev pub right : ℕ
right = 0

abbrev pub no_source : ℕ
no_source = 1

abbrev pub no_piece_end : ℕ
no_piece_end = 2

abbrev pub text_differs : ℕ
text_differs = 3

abbrev pub errors_differ : ℕ
errors_differ = 4

abbrev pub remains : ℕ
remains = 5

-- Why a row is wrong, by the first reason that applies: a, no source bytes or past the covered part; b, it doesn't end at a piece end; c, text
-- differs or runs out; d, errors differ or run out.
unfoldable pub wrong : Left → Row → ℕ
wrong l r =
    let joint : List Piece = reached r.source l.pieces in
    let given : Reading = joined l.at joint in
    if eqb r.source 0 || ltb (total l.pieces) r.source then no_source
    else if not (eqb (total joint) r.source) then no_piece_end
    else if not (eqb (length given.text) r.text && stands given.text l.text) then text_differs
    else if not (eqb (length given.errors) r.errors && stands (numbers given.errors) l.errors) then errors_differ
    else right

-- What a row leaves.
abbrev pub after : Left → Row → Left
after l r =
    left (l.at + r.source) (drop (length (reached r.source l.pieces)) l.pieces) (drop r.text l.text)
    (drop (2 * r.errors) l.errors)

-- Whether nothing is left.
abbrev pub spent : Left → Bool
spent l = eqb (length l.pieces) 0 && eqb (length l.text) 0 && eqb (length l.errors) 0

-- A verdict: a reason, and a row.
pub record Verdict : Type 0 where
  pub reason : ℕ
  pub at_row : ℕ

-- A verdict, given its reason and its row.
abbrev pub verdict : ℕ → ℕ → Verdict
verdict reason at_row = record { reason = reason; at_row = at_row }

-- The verdict on rows, the first of them the i-th: the first wrong row with its reason; after the last, e where something is left.
unfoldable pub judge : (i : ℕ) → Left → List Row → Verdict
judge i l [] = if spent l then verdict right 0 else verdict remains i
judge i l (r ∷ rows) = if eqb (wrong l r) right then judge (suc i) (after l r) rows else verdict (wrong l r) i

-- The verdict on a transcript of a covered source.
abbrev pub verdict_on : List Name → Context → (source rows text errors : List ℕ) → Verdict
verdict_on names context source rows text errors = judge 0 (left 0 (pieces names context source) text errors) (rows_of rows)

-- An answer, given its number, its verdict and its place.
abbrev pub checked : ℕ → Verdict → ℕ → Checked
checked answer v place = record { answer = answer; verdict = v.reason; row = v.at_row; place = place }

-- The whole answer: 3, then 10, then 1 or 2 with its place, and else 0 with the verdict.
unfoldable pub checked_of : List Name → Context → (source rows text errors : List ℕ) → Checked
checked_of names context source rows text errors =
    let stop : Stop = stop_of context source in
    if ltb longest_slice (length source) then checked too_long (verdict right 0) 0
    else if not (eqb (length rows % 3) 0 && eqb (length errors % 2) 0) then checked not_whole (verdict right 0) 0
    else if not (readable context source) then checked stop.answer (verdict right 0) stop.place
    else checked done (verdict_on names context (covered context source) rows text errors) 0

-- The answer where rows and errors are bytes: 10 also where these are no whole numbers.
unfoldable pub checked_bytes : List Name → Context → (source rows text errors : List ℕ) → Checked
checked_bytes names context source rows text errors =
    if ltb longest_slice (length source) then checked too_long (verdict right 0) 0
    else if not (eqb (length rows % 4) 0 && eqb (length errors % 4) 0) then checked not_whole (verdict right 0) 0
    else checked_of names context source (words rows) text (words errors)
