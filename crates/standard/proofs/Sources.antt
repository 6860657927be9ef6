-- Cases of sources: where a source closes, with what text and which errors.
use Prim.Native.Nat.{ℕ}
use Prim.Native.String.{String}
use mathlib.Core.List.{List}
use Rattle.standard.specs.declared.Context.{Context}
use Rattle.standard.specs.Utf8.{bytes}
use Rattle.standard.specs.Errors.{Error}
use Rattle.standard.specs.NameList.{builtin}
use Rattle.standard.specs.Answers.{done, context_end}
use Rattle.standard.specs.Reading.{Stop, stops, stop_of, covered, Reading, reading, decode}

-- What the definitions give for a source.
abbrev pub reads : Context → List ℕ → Stop × Reading
reads context s = (stop_of context s, decode builtin context (covered context s))

-- It closes with an answer at a place: at its end, or left at the context's.
abbrev pub closes : (answer place : ℕ) → String → List Error → Stop × Reading
closes answer place text errors = (stops answer place, reading (bytes text) errors)

abbrev pub end : ℕ → String → List Error → Stop × Reading
end = closes done

abbrev pub left : ℕ → String → List Error → Stop × Reading
left = closes context_end
