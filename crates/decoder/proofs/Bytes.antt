-- The bytes of a stream, one by one, with room for all of them.
use Rattle.std.specs.Prelude.{if◌then◌else◌}
use Prim.Native.Nat.{ℕ}
use mathlib.Core.List.{List, [], ◌∷◌, ◌++◌}
use mathlib.Core.Bool.{not}
use lib.Dec.{eqb}
use Rattle.standard.specs.declared.Context.{Context}
use Rattle.standard.specs.Utf8.{read_char}
use Rattle.standard.specs.Answers.{done}
use Rattle.standard.specs.Names.{Name}
use Rattle.decoder.specs.Machine.{Data, nothing}
use Rattle.decoder.specs.Stream.{At, at_by, called_for, Move, move_by, Walked, stops_at, onward, last_of}

-- The walk over bytes without its rooms.
unfoldable pub go : List Name → Context → At → List ℕ → Walked
go names context at [] = stops_at done nothing at
go names context at (b ∷ s) =
    let own : List ℕ = at.part ++ b ∷ [] in
    let answer : ℕ = called_for context (read_char own) in
    let m : Move = move_by names context at (read_char own) own in
    if not (eqb answer done) then stops_at answer (last_of names context answer at.st) at
    else onward m.gives (go names context m.to s)

-- Where a new stream is.
abbrev pub start : At
start = at_by Data [] 0
