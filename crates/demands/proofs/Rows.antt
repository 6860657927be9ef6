-- Tables of sources: what a table says of each, and what the definitions give.
use Prim.Native.Nat.{ℕ}
use Prim.Native.String.{String}
use mathlib.Core.List.{List}
use Rattle.standard.specs.declared.Context.{Context}
use Rattle.standard.specs.Utf8.{bytes}
use Rattle.standard.specs.Errors.{Error}
use Rattle.standard.specs.NameList.{builtin}
use Rattle.standard.specs.Answers.{done, context_end}
use Rattle.standard.specs.Reading.{Stop, stops, stop_of, covered, Reading, reading, decode}

-- A source with its context, its text, its errors, and where it closes.
pub record SourceRow : Type 0 where
  pub context : Context
  pub source : List ℕ
  pub text : String
  pub errors : List Error
  pub closing : Stop

-- A row of bytes, and a row of quoted text.
abbrev pub source_row : Context → List ℕ → String → List Error → Stop → SourceRow
source_row context source text errors closing = record { context = context; source = source; text = text; errors = errors; closing = closing }

abbrev pub quoted_row : Context → String → String → List Error → Stop → SourceRow
quoted_row context source text errors closing = source_row context (bytes source) text errors closing

-- The source is at its end, or left at the context's.
abbrev pub end : ℕ → Stop
end place = stops done place

abbrev pub left : ℕ → Stop
left place = stops context_end place

-- What a row says of its source.
abbrev pub says : SourceRow → Stop × Reading
says r = (r.closing, reading (bytes r.text) r.errors)

-- What the definitions give for it.
abbrev pub gives : SourceRow → Stop × Reading
gives r = (stop_of r.context r.source, decode builtin r.context (covered r.context r.source))
