-- Document 01, 'Transcript', by relations: what a right row is, what a good transcript is, and why a row is wrong.
-- A row is looked at where rows before it have left something (`Left`): pieces, the first of them at an offset, text, and errors as numbers.
use Prim.Native.Nat.{ℕ, ◌+◌, ◌≤◌, ◌<◌}
use mathlib.Core.Path.{◌≡◌}
use mathlib.Core.List.{List, [], ◌∷◌, ◌++◌}
use lib.ListN.{length}
use Rattle.standard.specs.Errors.{numbers}
use Rattle.standard.specs.Pieces.{Piece}
use Rattle.standard.specs.Reading.{joined}
use Rattle.checker.specs.Transcript.{Row, row, Left, total, no_source, no_piece_end, text_differs, errors_differ}

-- A row ends at a piece end: it has the bytes of the next pieces, one or more, and the rest comes after them.
pub record PieceEnd (l : Left) (r : Row) (next rest : List Piece) : Type 0 where
  pub some : 0 < length next
  pub cut : l.pieces ≡ next ++ rest
  pub bytes : r.source ≡ total next

-- The text that the standard gives these pieces is as long as the row says and is what comes next; more comes after it.
pub record TextComes (l : Left) (r : Row) (next : List Piece) (more : List ℕ) : Type 0 where
  pub count : r.text ≡ length (joined l.at next).text
  pub comes : l.text ≡ (joined l.at next).text ++ more

-- The errors that the standard gives them are as many as the row says and are what comes next; more come after them.
pub record ErrorsCome (l : Left) (r : Row) (next : List Piece) (more : List ℕ) : Type 0 where
  pub count : r.errors ≡ length (joined l.at next).errors
  pub comes : l.errors ≡ numbers (joined l.at next).errors ++ more

-- A right row, and what it leaves.
pub record Right (l : Left) (r : Row) (m : Left) : Type 0 where
  pub next : List Piece
  pub ending : PieceEnd l r next m.pieces
  pub texts : TextComes l r next m.text
  pub errors_of : ErrorsCome l r next m.errors
  pub on : m.at ≡ l.at + total next

-- Rows cut what is left: each of them is right where those before it end, and this is what they leave.
pub data Cuts : Left → List Row → Left → Type 0 where
  none : {l : Left} → Cuts l [] l
  first : {l m n : Left} {r : Row} {rows : List Row} → Right l r m → Cuts m rows n → Cuts l (r ∷ rows) n

-- Nothing is left: no pieces, no text and no errors.
abbrev pub Spent : Left → Type 0
Spent l = (l.pieces ≡ []) × (l.text ≡ []) × (l.errors ≡ [])

-- A good transcript: the rows cut all that is there.
pub record Good (l : Left) (rows : List Row) : Type 0 where
  pub end : Left
  pub cuts : Cuts l rows end
  pub spent : Spent end

-- All rows are right, and something remains.
pub record Remains (l : Left) (rows : List Row) : Type 0 where
  pub end : Left
  pub cuts : Cuts l rows end
  pub unspent : Spent end → ⊥

-- Why a row is wrong, by the first reason that applies: a, it has no bytes, or more than are left; b, it has some of those left, but ends at no piece
-- end; c, it ends at one, but the text is not right; d, the text is right, but the errors are not.
pub data Wrong (l : Left) (r : Row) : ℕ → Type 0 where
  no_bytes : r.source ≡ 0 → Wrong l r no_source
  past : total l.pieces < r.source → Wrong l r no_source
  within : 0 < r.source → r.source ≤ total l.pieces → ((next rest : List Piece) → PieceEnd l r next rest → ⊥) → Wrong l r no_piece_end
  no_text : (next rest : List Piece) → PieceEnd l r next rest → ((more : List ℕ) → TextComes l r next more → ⊥) → Wrong l r text_differs
  no_errors : (next rest : List Piece) → PieceEnd l r next rest → (more : List ℕ) → TextComes l r next more
      → ((more : List ℕ) → ErrorsCome l r next more → ⊥) → Wrong l r errors_differ

-- The first wrong row, with its reason: those before it are right.
pub record FirstWrong (l : Left) (rows : List Row) (reason : ℕ) : Type 0 where
  pub before : List Row
  pub bad : Row
  pub later : List Row
  pub rows_are : rows ≡ before ++ (bad ∷ later)
  pub here : Left
  pub cuts : Cuts l before here
  pub wrong : Wrong here bad reason

-- Groups of pieces, one after the other.
abbrev pub together : List (List Piece) → List Piece
together [] = []
together (group ∷ groups) = group ++ together groups

-- A row for each group, the first of them at an offset: its bytes, and how much text and how many errors the standard gives it.
abbrev pub rows_for : ℕ → List (List Piece) → List Row
rows_for at [] = []
rows_for at (group ∷ groups) =
    row (total group) (length (joined at group).text) (length (joined at group).errors) ∷ rows_for (at + total group) groups

-- Rows as numbers, three each.
abbrev pub in_threes : List Row → List ℕ
in_threes [] = []
in_threes (r ∷ rows) = r.source ∷ r.text ∷ r.errors ∷ in_threes rows

-- The sum of a column.
abbrev pub column : (Row → ℕ) → List Row → ℕ
column f [] = 0
column f (r ∷ rows) = f r + column f rows
