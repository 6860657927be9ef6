-- Document 01, 'The bench program': what `report` writes is `report_of` of the input, which says each sentence there. Here its example, and that the
-- program's rooms suffice for every input.
use Prim.Native.Nat.{ℕ, ◌≤◌, ◌<◌}
use Prim.Native.Char.{code}
use mathlib.Core.Path.{◌≡◌}
use mathlib.Core.List.{List}
use lib.ListN.{length, get_or, take}
use Rattle.standard.specs.Numbers.{number}
use Rattle.standard.specs.Utf8.{bytes}
use Rattle.reporting.specs.Report.{decimal, report_of, report_room}
use Rattle.reporting.proofs.Bound as bound
use Rattle.reporting.proofs.Decimals as decimals
use Rattle.reporting.proofs.Examples as examples
use Rattle.reporting.proofs.LongInputs as long-inputs

-- 'Input `T` LF `&notit;x` writes exactly `¬it;x`, `2 0`, `end 8`, each with LF.'
pub bench_example : report_of (bytes "T\n&notit;x") ≡ bytes "¬it;x\n2 0\nend 8\n"
bench_example = examples.bench_example

-- No report is longer than the program's room for it.
pub report-fits : (input : List ℕ) → length (report_of input) ≤ report_room
report-fits = bound.report_bound

-- And none is empty: a length of 0 says that the rooms are too small.
pub report-some : (input : List ℕ) → 0 < length (report_of input)
report-some = bound.report-some

-- The program reads at most 4,099 bytes of an input: it has the report of these.
pub reads_enough : (input : List ℕ) → report_of (take 4099 input) ≡ report_of input
reads_enough = long-inputs.report-front

-- A number's digits say the number, and only that of 0 begins with a zero.
pub decimal-says : (n : ℕ) → number 10 (decimal n) ≡ n
decimal-says = decimals.decimal-says

pub no_zero_in_front : (n : ℕ) → 0 < n → code "0" < get_or (decimal n) 0 0
no_zero_in_front = decimals.no_zero_in_front
