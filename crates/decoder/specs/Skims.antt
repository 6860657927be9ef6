-- What the code skims of a chunk where nothing is held.
use Rattle.std.specs.Prelude.{ℕ, ◌+◌, ◌-◌, ◌*◌, ◌≤◌, ◌≡◌, List, [], Bool, true, ◌||◌, ◌&&◌, eqb, leb, length, get_or, take, drop, Option, IfSome}
use Prim.Native.Char.{code}
use Rattle.lists.specs.Notation.{every}
use Rattle.standard.specs.declared.Context.{Context}
use Rattle.standard.specs.Answers.{done}
use Rattle.standard.specs.Classes.{alphanumeric}
use Rattle.standard.specs.NameList.{builtin}
use Rattle.standard.specs.Reading.{Reading, reading_at}
use Rattle.decoder.specs.Writing.{Wrote}
use Rattle.decoder.specs.declared.pieces.Piece.{Piece}
use Rattle.decoder.specs.Machine.{Data}
use Rattle.decoder.specs.Pieces.{piece_of}
use Rattle.standard.specs.Contexts.{end_byte}
use Rattle.runs.specs.Kinds.{plain}
use Rattle.decoder.specs.Stream.{at_by, stops_at, walk}

-- The bytes of s from at to end are plain, and before each of them 64 of free bytes are free.
pub record PlainRun (context : Context) (s : List ℕ) (at free end : ℕ) : Type 0 where
  pub from : at ≤ end
  pub there : end ≤ length s
  pub fits : end + 63 ≤ at + free
  pub plains : every (plain (end_byte context)) (take (end - at) (drop at s)) ≡ true

-- A byte that may stand between the `&` and the `;` of a reference.
abbrev pub in_reference : ℕ → Bool
in_reference b = eqb b (code "#") || alphanumeric b

-- The first n bytes are one of any kind, bytes that may stand in a reference, and `;`.
pub record Closes (s : List ℕ) (n : ℕ) : Type 0 where
  pub some : 2 ≤ n
  pub there : n ≤ length s
  pub last : get_or s (n - 1) 0 ≡ code ";"
  pub between : every in_reference (take (n - 2) (drop 1 s)) ≡ true

-- So many such bytes, or none.
abbrev pub ClosesAt : List ℕ → Option ℕ → Type 0
ClosesAt s end = IfSome end (Closes s)

-- A piece at the front of s that a walk with nothing held reads as such, with nothing held after it, where its room is there.
pub record Stands (context : Context) (s : List ℕ) (p : Piece) : Type 0 where
  pub some : 1 ≤ p.size
  pub there : p.size ≤ length s
  pub walks : (text errors q : ℕ) → 64 + p.size ≤ text → 8 + 2 * p.size ≤ errors
      → walk builtin context text errors (at_by Data [] q) (take p.size s) ≡ stops_at done (reading_at q (piece_of p)) (at_by Data [] (q + p.size))

-- Such a piece, or none.
abbrev pub Alone : Context → List ℕ → Option Piece → Type 0
Alone context s piece = IfSome piece (Stands context s)

-- So much room is enough for a piece of size bytes and before each of them.
abbrev pub has_room : (size text errors : ℕ) → Bool
has_room size text errors = leb (64 + size) text && leb (8 + 2 * size) errors

-- The bytes of s from `from` to at were read with nothing held before and after, before bytes were taken before s, and what they give was written.
pub record Skims (context : Context) (before : ℕ) (s : List ℕ) (from at : ℕ) (text : List ℕ) (w : ℕ) (text' : List ℕ) (w' : ℕ) (errors : List ℕ)
    (e : ℕ)
    (errors' : List ℕ) (e' : ℕ) : Type 0 where
  pub onward : from ≤ at
  pub there : at ≤ length s
  pub gives : Reading
  pub walked : walk builtin context (length text - w) (length errors - e) (at_by Data [] (before + from)) (take (at - from) (drop from s))
      ≡ stops_at done gives (at_by Data [] (before + at))
  pub wrote : Wrote gives text w text' w' errors e errors' e'
  pub text_in : w' ≤ length text'
  pub errors_in : e' ≤ length errors'
  pub text_few : w' ≤ w + 64 * (at - from)
  pub errors_few : e' ≤ e + 8 * (at - from)
