-- Document 01, 'The bench program' and 'Marked sources': inputs and what is written for them, as one table, and the theorem that the definition
-- gives exactly these.
use Prim.Native.Nat.{ℕ}
use Prim.Native.String.{String}
use mathlib.Core.Path.{◌≡◌, refl}
use mathlib.Core.List.{List, [], ◌∷◌, ◌++◌}
use Rattle.lists.proofs.Cases.{Case, ◌gives◌, Hold}
use Rattle.standard.specs.Utf8.{bytes}
use Rattle.standard.proofs.Computing.{computing}
use Rattle.reporting.specs.Report.{decimal_by, decimal, error_lines, closing_line, source_report, for_input, report_of}

-- What is written for an input.
abbrev pub reports : String → String → Case (List ℕ)
reports input written = report_of (bytes input) gives bytes written

-- 'Input `T` LF `&notit;x` writes exactly `¬it;x`, `2 0`, `end 8`, each with LF.'
pub bench_example : report_of (bytes "T\n&notit;x") ≡ bytes "¬it;x\n2 0\nend 8\n"
unfolding computing decimal_by decimal error_lines closing_line source_report for_input
bench_example = refl

-- M1 to M14.
abbrev pub marked_inputs : List (Case (List ℕ))
marked_inputs =
    reports "T\n" "\nend 0\n"
    ∷ reports "T\n&amp;lt;" "&lt;\nend 8\n"
    ∷ reports "T\n&notit;x" "¬it;x\n2 0\nend 8\n"
    ∷ reports "T\n&notin;" "∉\nend 7\n"
    ∷ reports "A\n&not=1" "&not=1\nend 6\n"
    ∷ reports "A\n&not" "¬\n2 0\nend 4\n"
    ∷ reports "T\n&#x110000;" "�\n3 0\nend 10\n"
    ∷ reports "T\n&#128" "€\n2 0\n3 0\nend 5\n"
    ∷ reports "T\n&#x;" "&#x;\n1 0\nend 4\n"
    ∷ reports "T\n&#13;\r\n" "\r\n\n3 0\nend 7\n"
    ∷ reports "T\n&abc;" "&abc;\n4 0\nend 5\n"
    ∷ reports "T\na<b" "a\nleft 1\n"
    ∷ reports "T\n&&lt" "&<\n2 1\nend 4\n"
    ∷ reports "T\n&centerdot" "¢erdot\n2 0\nend 10\n"
    ∷ []

-- Starts, ends and refusals.
abbrev pub starts : List (Case (List ℕ))
starts =
    reports "" "bad context\n"
    ∷ reports "T" "bad context\n"
    ∷ reports "\n" "bad context\n"
    ∷ reports "t\nx" "bad context\n"
    ∷ reports "T\r\nx" "bad context\n"
    ∷ reports "TA\nx" "bad context\n"
    ∷ reports "A\n" "\nend 0\n"
    ∷ reports "A\n\"" "\nleft 0\n"
    ∷ reports "A\nx<y\"z" "x<y\nleft 3\n"
    ∷ reports "T\n\"<" "\"\nleft 1\n"
    ∷ reports "T\n\n" "\n\nend 1\n"
    ∷ reports "T\na\0" "refused 2 1\n"
    ∷ reports "A\n&notit;&not\0\"" "refused 2 11\n"
    ∷ reports "T\n<\0" "\nleft 0\n"
    ∷ (report_of (0x54 ∷ 0xA ∷ 0x61 ∷ 0xFF ∷ []) gives bytes "refused 1 1\n")
    ∷ (report_of (0x54 ∷ 0xA ∷ 0xE2 ∷ 0x3C ∷ []) gives bytes "refused 1 0\n")
    ∷ (report_of (0x41 ∷ 0xA ∷ 0x22 ∷ 0xFF ∷ []) gives bytes "\nleft 0\n")
    ∷ (report_of (0x54 ∷ 0xA ∷ 0x78 ∷ 0xF0 ∷ 0x9F ∷ 0x92 ∷ []) gives bytes "refused 1 1\n")
    ∷ []

-- The definition gives what each row says.
pub examples : Hold marked_inputs × Hold starts
unfolding computing decimal_by decimal error_lines closing_line source_report for_input
examples = (refl, refl)

-- So many letters.
unfoldable pub letters : ℕ → List ℕ
letters Prim.Native.Nat.zero = []
letters (Prim.Native.Nat.suc n) = 0x61 ∷ letters n

-- A source of 4,097 bytes is too long.
pub long_example : report_of (bytes "T\n" ++ letters 4097) ≡ bytes "too long\n"
unfolding computing decimal_by decimal error_lines closing_line source_report for_input letters
long_example = refl
