-- How the code walks through an input, for its own contracts: what the bytes begin that are not quiet, and what is written from place to place.
use Rattle.std.specs.Prelude.{ℕ, ◌≡◌, ◌≤◌, List, ◌++◌, eqb, length, drop, if◌then◌else◌}
use Prim.Native.Char.{code}
use Rattle.standard.specs.Utf8.{bytes}
use Rattle.escaper.specs.declared.Mode.{Mode}
use Rattle.escaper.specs.declared.specials.Special.{Special}
use Rattle.escaper.specs.declared.specials.Special.TheVariants.{Amp, Lt, Gt, Nbsp, Quot, Other}
use Rattle.standard.specs.Answers.{done}
use Rattle.standard.specs.Reading.{stop_from}
use Rattle.escaper.specs.Escape.{in_attribute, escape}

-- The quotation mark where that is replaced, and `<` once more where it is not.
abbrev pub quote_of : Mode → ℕ
quote_of mode = if in_attribute mode then code "\"" else code "<"

-- What a byte that is not quiet begins, with the byte after it.
unfoldable pub special_of : (b after : ℕ) → Special
special_of b after =
    if eqb b (code "&") then Amp
    else if eqb b (code "<") then Lt
    else if eqb b (code ">") then Gt
    else if eqb b (code "\"") then Quot
    else if eqb after 0xA0 then Nbsp
    else Other

-- How many bytes it has.
abbrev pub source_length : Special → ℕ
source_length Amp = 1
source_length Lt = 1
source_length Gt = 1
source_length Nbsp = 2
source_length Quot = 1
source_length Other = 2

-- What is written for it, own being its own bytes.
abbrev pub text_of : Special → (own : List ℕ) → List ℕ
text_of Amp own = bytes "&amp;"
text_of Lt own = bytes "&lt;"
text_of Gt own = bytes "&gt;"
text_of Nbsp own = bytes "&nbsp;"
text_of Quot own = bytes "&quot;"
text_of Other own = own

-- An input is read as far as `at`: the bytes from there on are well-formed.
pub record Sound (s : List ℕ) (at : ℕ) : Type 0 where
  pub there : at ≤ length s
  pub well_formed : (stop_from (λ c. done) 0 at (drop at s)).answer ≡ done

-- From `at` to next u is written.
pub record Moves (mode : Mode) (s : List ℕ) (at : ℕ) (u : List ℕ) (next : ℕ) : Type 0 where
  pub sound : Sound s next
  pub written : escape mode (drop at s) ≡ u ++ escape mode (drop next s)
