-- For the code's own contracts: the lines of an error room, and what stands after a text.
use Rattle.std.specs.Prelude.{ℕ, ◌-◌, ◌≤◌, ◌≡◌, List, [], ◌∷◌, ◌++◌, length, take}
use Prim.Native.Char.{code}
use Rattle.std.proofs.lemmas.List.Edits.{sets}
use Rattle.lists.specs.Rooms.{Put}
use Rattle.standard.specs.Errors.{Error, numbers}
use Rattle.reporting.specs.declared.lines.Writer.{Writer}
use Rattle.reporting.specs.Report.{decimal, pair, line, report_room, numbers_room}

-- A line for each two numbers.
unfoldable pub pair_lines : List ℕ → List ℕ
pair_lines [] = []
pair_lines (a ∷ []) = []
pair_lines (a ∷ b ∷ numbers) = line (pair a b) ++ pair_lines numbers

-- What stands after a text: LF, a line for each error, and the last line, of a word and a place.
abbrev pub after_text : (numbers word : List ℕ) (place : ℕ) → List ℕ
after_text numbers word place = (code "\n" ∷ pair_lines numbers) ++ line (word ++ decimal place)

-- A writer wrote as many of the bytes as had room, and stands after them in the same room.
pub record Wrote (old : Writer) (bytes : List ℕ) (new : Writer) : Type 0 where
  pub put : Put old.out.now old.at (take (length old.out.now - old.at) bytes) new.out.now new.at
  pub same_room : new.out.ghost_name ≡ old.out.ghost_name

-- The rooms are as long as is asked for.
pub record Roomy (out errors : List ℕ) : Type 0 where
  pub bytes_there : report_room ≤ length out
  pub numbers_there : numbers_room ≤ length errors

-- A report and the numbers of errors were written at the front of two rooms, and r is the report's length.
pub record Fills (report : List ℕ) (read : List Error) (out errors : List ℕ) (r : ℕ) (out' errors' : List ℕ) : Type 0 where
  pub written : Put out 0 report out' r
  pub numbers_of : errors' ≡ sets errors 0 (numbers read)
