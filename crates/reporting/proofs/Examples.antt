-- Document 01, 'The bench program' and 'Marked sources': inputs and what is written for them, as one table, and the theorem that the definition
-- gives exactly these.
use Prim.Native.Nat.{ℕ}
use Prim.Native.String.{String}
use mathlib.Core.Path.{◌≡◌, refl}
use mathlib.Core.List.{List, [], ◌∷◌, ◌++◌, map}
use Rattle.standard.specs.Utf8.{bytes}
use Rattle.standard.proofs.Computing.{computing}
use Rattle.reporting.specs.Report.{decimal_by, decimal, error_lines, closing_line, source_report, for_input, report_of}

-- An input and what is written for it.
pub record InputRow : Type 0 where
  pub input : List ℕ
  pub written : String

-- A row of bytes, and a row of quoted text.
abbrev pub input_row : List ℕ → String → InputRow
input_row input written = record { input = input; written = written }

abbrev pub quoted_row : String → String → InputRow
quoted_row input written = input_row (bytes input) written

-- 'Input `T` LF `&notit;x` writes exactly `¬it;x`, `2 0`, `end 8`, each with LF.'
pub bench_example : report_of (bytes "T\n&notit;x") ≡ bytes "¬it;x\n2 0\nend 8\n"
unfolding computing decimal_by decimal error_lines closing_line source_report for_input
bench_example = refl

-- M1 to M14.
abbrev pub marked_inputs : List InputRow
marked_inputs =
    quoted_row "T\n" "\nend 0\n"
    ∷ quoted_row "T\n&amp;lt;" "&lt;\nend 8\n"
    ∷ quoted_row "T\n&notit;x" "¬it;x\n2 0\nend 8\n"
    ∷ quoted_row "T\n&notin;" "∉\nend 7\n"
    ∷ quoted_row "A\n&not=1" "&not=1\nend 6\n"
    ∷ quoted_row "A\n&not" "¬\n2 0\nend 4\n"
    ∷ quoted_row "T\n&#x110000;" "�\n3 0\nend 10\n"
    ∷ quoted_row "T\n&#128" "€\n2 0\n3 0\nend 5\n"
    ∷ quoted_row "T\n&#x;" "&#x;\n1 0\nend 4\n"
    ∷ quoted_row "T\n&#13;\r\n" "\r\n\n3 0\nend 7\n"
    ∷ quoted_row "T\n&abc;" "&abc;\n4 0\nend 5\n"
    ∷ quoted_row "T\na<b" "a\nleft 1\n"
    ∷ quoted_row "T\n&&lt" "&<\n2 1\nend 4\n"
    ∷ quoted_row "T\n&centerdot" "¢erdot\n2 0\nend 10\n"
    ∷ []

-- Starts, ends and refusals.
abbrev pub starts : List InputRow
starts =
    quoted_row "" "bad context\n"
    ∷ quoted_row "T" "bad context\n"
    ∷ quoted_row "\n" "bad context\n"
    ∷ quoted_row "t\nx" "bad context\n"
    ∷ quoted_row "T\r\nx" "bad context\n"
    ∷ quoted_row "TA\nx" "bad context\n"
    ∷ quoted_row "A\n" "\nend 0\n"
    ∷ quoted_row "A\n\"" "\nleft 0\n"
    ∷ quoted_row "A\nx<y\"z" "x<y\nleft 3\n"
    ∷ quoted_row "T\n\"<" "\"\nleft 1\n"
    ∷ quoted_row "T\n\n" "\n\nend 1\n"
    ∷ quoted_row "T\na\0" "refused 2 1\n"
    ∷ quoted_row "A\n&notit;&not\0\"" "refused 2 11\n"
    ∷ quoted_row "T\n<\0" "\nleft 0\n"
    ∷ input_row (0x54 ∷ 0xA ∷ 0x61 ∷ 0xFF ∷ []) "refused 1 1\n"
    ∷ input_row (0x54 ∷ 0xA ∷ 0xE2 ∷ 0x3C ∷ []) "refused 1 0\n"
    ∷ input_row (0x41 ∷ 0xA ∷ 0x22 ∷ 0xFF ∷ []) "\nleft 0\n"
    ∷ input_row (0x54 ∷ 0xA ∷ 0x78 ∷ 0xF0 ∷ 0x9F ∷ 0x92 ∷ []) "refused 1 1\n"
    ∷ []

-- The definition gives what each row says.
pub examples : (map (λ (r : InputRow). report_of r.input) marked_inputs ≡ map (λ (r : InputRow). bytes r.written) marked_inputs)
    × (map (λ (r : InputRow). report_of r.input) starts ≡ map (λ (r : InputRow). bytes r.written) starts)
unfolding computing decimal_by decimal error_lines closing_line source_report for_input
examples = (refl, refl)

-- So many letters.
unfoldable pub letters : ℕ → List ℕ
letters Prim.Native.Nat.zero = []
letters (Prim.Native.Nat.suc n) = 0x61 ∷ letters n

-- A source of 4,097 bytes is too long.
pub long_example : report_of (bytes "T\n" ++ letters 4097) ≡ bytes "too long\n"
unfolding computing decimal_by decimal error_lines closing_line source_report for_input letters
long_example = refl
