-- Document 01, 'The chunk decoder' and 'Whole-slice calls': the answers' numbers.
use Rattle.std.specs.Prelude.{ℕ}

-- All taken, or ended.
abbrev pub done : ℕ
done = 0

-- An ill-formed byte, or at the end an incomplete character.
abbrev pub ill_formed : ℕ
ill_formed = 1

-- NUL where a character begins.
abbrev pub nul : ℕ
nul = 2

-- A chunk, a source or the escaper's input is too long.
abbrev pub too_long : ℕ
too_long = 3

-- The stream would be too long.
abbrev pub stream_too_long : ℕ
stream_too_long = 4

-- A room is too small for any byte, or in exports a wrong report length, context or mode.
abbrev pub no_room : ℕ
no_room = 5

-- The next byte lacks free room.
abbrev pub room_used_up : ℕ
room_used_up = 6

-- The context's end is met.
abbrev pub context_end : ℕ
context_end = 7

-- The stream is closed.
abbrev pub closed : ℕ
closed = 8

-- A room is too small for the whole.
abbrev pub room_asked : ℕ
room_asked = 9

-- Rows are not in threes, or errors not in pairs.
abbrev pub not_whole : ℕ
not_whole = 10

-- The longest chunk, source or escaper's input.
abbrev pub longest_slice : ℕ
longest_slice = 65536

-- The most bytes that a stream takes.
abbrev pub longest_stream : ℕ
longest_stream = 16777216

-- The text bytes and error numbers that are free before a byte is taken.
abbrev pub text_room : ℕ
text_room = 64

abbrev pub errors_room : ℕ
errors_room = 8
