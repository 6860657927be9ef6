-- The machine over a covered source, character by character.
use Prim.Native.Nat.{ℕ, zero, suc, ◌-◌}
use mathlib.Core.List.{List, [], ◌∷◌}
use lib.ListN.{take}
use Rattle.standard.specs.declared.Context.{Context}
use Rattle.standard.specs.declared.characters.CharRead.{CharRead}
use Rattle.standard.specs.declared.characters.CharRead.TheVariants.{Char, Incomplete, Illformed, End}
use Rattle.standard.specs.Utf8.{read_char}
use Rattle.standard.specs.Names.{Name}
use Rattle.standard.specs.Reading.{size_of, Reading, ◌⊕◌}
use Rattle.decoder.specs.Machine.{St, Data, Step, nothing, to, step, finish}

-- A step by what is read; bytes that are no character change nothing.
abbrev pub step_read : List Name → Context → St → (p : ℕ) → CharRead → List ℕ → Step
step_read names context st p (Char c n) s = step names context st p c (take n s)
step_read names context st p (Incomplete n) s = to nothing st
step_read names context st p (Illformed n) s = to nothing st
step_read names context st p End s = to nothing st

-- The machine over a covered source whose next character begins after skip bytes, at place p.
unfoldable pub run_from : List Name → Context → St → (skip p : ℕ) → List ℕ → Reading
run_from names context st skip p [] = finish names context st
run_from names context st zero p (b ∷ s) =
    let r : CharRead = read_char (b ∷ s) in
    let t : Step = step_read names context st p r (b ∷ s) in t.gives ⊕ run_from names context t.next (size_of r - 1) (suc p) s
run_from names context st (suc skip) p (b ∷ s) = run_from names context st skip (suc p) s

-- The machine over a covered source.
abbrev pub run : List Name → Context → List ℕ → Reading
run names context s = run_from names context Data 0 0 s
