-- Meeting what a transcript should have next, and what the code finds of its rows.
use Rattle.std.specs.Prelude.{ℕ, ◌+◌, ◌*◌, ◌≤◌, ◌<◌, ◌≡◌, List, true, Option, Some, None, Result, Ok, Err, length, get_or, drop, if◌then◌else◌}
use Rattle.std.specs.Option.{option_and_then}
use Rattle.standard.specs.declared.Context.{Context}
use Rattle.standard.specs.Answers.{ill_formed, nul}
use Rattle.standard.specs.Classes.{character_code}
use Rattle.standard.specs.Errors.{listed, placed, numbers}
use Rattle.standard.specs.Names.{Name, stands}
use Rattle.standard.specs.Pieces.{Piece}
use Rattle.standard.specs.Reading.{Stop, stops, pieces, joined}
use Rattle.checker.specs.declared.lent.Places.{Places}
use Rattle.checker.specs.declared.lent.Row as code
use Rattle.checker.specs.declared.rows.Joint.{Joint}
use Rattle.checker.specs.declared.rows.Reason.{Reason}
use Rattle.checker.specs.declared.rows.Reason.TheVariants.{NoSource, NoPieceEnd, TextDiffers, ErrorsDiffer, Remains}
use Rattle.checker.specs.declared.stops.Fault.{Fault}
use Rattle.checker.specs.declared.stops.Fault.TheVariants.{IllFormed, Nul}
use Rattle.checker.specs.declared.verdicts.Wrong.{Wrong}
use Rattle.checker.specs.Spans.{lone}
use Rattle.checker.specs.Transcript.{
  Row,
  row,
  Left,
  left,
  total,
  reached,
  wrong,
  after,
  right,
  no_source,
  no_piece_end,
  text_differs,
  errors_differ,
  remains,
  Verdict,
  verdict,
}

-- The place after values that come next in l from at on; none where others come, or too few.
abbrev pub met : (values l : List ℕ) (at : ℕ) → Option ℕ
met values l at = if stands values (drop at l) then Some (at + length values) else None

-- The same from a place that may be none already.
abbrev pub met_on : (values l : List ℕ) → Option ℕ → Option ℕ
met_on values l = option_and_then (met values l)

-- The pieces that n source bytes reach into: the place after them, and those after their text and their errors where these come next.
pub record Joins (ps : List Piece) (at n : ℕ) (text : List ℕ) (t : Option ℕ) (errors : List ℕ) (e : Option ℕ) (r : Joint) : Type 0 where
  pub at_is : r.at ≡ at + total (reached n ps)
  pub text_is : r.text ≡ met_on (joined at (reached n ps)).text text t
  pub errors_is : r.errors ≡ met_on (numbers (joined at (reached n ps)).errors) errors e

-- A row of the code.
abbrev pub row_of : code.Row → Row
row_of r = row r.source r.text r.errors

-- A row of n source bytes, m text bytes and k errors is one byte that stands for itself, is next in text, and whose error, if any, is next in errors
-- up to end.
pub record ByteRow (s : List ℕ) (at n : ℕ) (text : List ℕ) (t m : ℕ) (errors : List ℕ) (e k end : ℕ) : Type 0 where
  pub source_byte : n ≡ 1
  pub text_byte : m ≡ 1
  pub alone : lone (get_or s at 0) ≡ true
  pub there : t < length text
  pub same : get_or text t 0 ≡ get_or s at 0
  pub codes : met (numbers (placed at (listed (character_code (get_or s at 0))))) errors e ≡ Some end
  pub count : end ≡ e + 2 * k

-- Places are within a source, a text and errors.
pub record IsWithin (s text errors : List ℕ) (p : Places) : Type 0 where
  pub source_there : p.source ≤ length s
  pub text_there : p.text ≤ length text
  pub errors_there : p.errors ≤ length errors

-- What is left of a covered source, its text and its errors from some places on.
abbrev pub left_at : List Name → Context → (s text errors : List ℕ) → Places → Left
left_at names context s text errors p = left p.source (pieces names context (drop p.source s)) (drop p.text text) (drop p.errors errors)

-- The reasons by their numbers.
abbrev pub number_of : Reason → ℕ
number_of NoSource = no_source
number_of NoPieceEnd = no_piece_end
number_of TextDiffers = text_differs
number_of ErrorsDiffer = errors_differ
number_of Remains = remains

-- A row is wrong for a reason.
pub record IsWrong (names : List Name) (context : Context) (s text errors : List ℕ) (from : Places) (w : Row) (reason : Reason) : Type 0 where
  pub reason_is : number_of reason ≡ wrong (left_at names context s text errors from) w

-- A row is right, and leaves what is left from end on.
pub record LeadsTo (names : List Name) (context : Context) (s text errors : List ℕ) (from : Places) (w : Row) (end : Places) : Type 0 where
  pub is_right : wrong (left_at names context s text errors from) w ≡ right
  pub leaves : after (left_at names context s text errors from) w ≡ left_at names context s text errors end
  pub on : from.source < end.source
  pub there : IsWithin s text errors end

-- A verdict of the code.
abbrev pub verdict_of : Result (Unit {0}) Wrong → Verdict
verdict_of (Ok u) = verdict right 0
verdict_of (Err w) = verdict (number_of w.reason) w.row

-- Where a fault stops a source.
abbrev pub stop_at : Fault → Stop
stop_at (IllFormed place) = stops ill_formed place
stop_at (Nul place) = stops nul place
