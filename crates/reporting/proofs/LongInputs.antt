-- The program reads at most as many bytes as tell the report: a longer input has the same.
use Prim.Native.Nat.{ℕ, ◌≤◌, ◌<◌}
use mathlib.Core.Path.{◌≡◌, refl, ap}
use mathlib.Core.List.{List, [], ◌∷◌}
use mathlib.Core.Logic.{⊎_elim}
use native.Mathlib.Omega.{arith}
use lib.ListN.{length, take, drop, length-take}
use lib.Seq.{take_all}
use borrow.Author.Tests.{lt-ltb}
use Rattle.lists.proofs.Choice.{below?}
use Rattle.standard.specs.declared.Context.{Context}
use Rattle.standard.specs.declared.Context.TheVariants.{Text, Attribute}
use Rattle.standard.specs.Utf8.{bytes}
use Rattle.standard.specs.Names.{stands}
use Rattle.standard.proofs.Computing.{computing_parts}
use Rattle.reporting.specs.Report.{line, source_report, for_source, for_input, report_of, input_room}

-- What stands at the front of a list stands at the front of its first bytes.
stands-front : (a b : ℕ) (s : List ℕ) → stands (a ∷ b ∷ []) (take 4099 s) ≡ stands (a ∷ b ∷ []) s
unfolding stands
stands-front a b [] = refl
stands-front a b (c ∷ []) = refl
stands-front a b (c ∷ d ∷ s) = refl

-- A source is as long as is allowed, or longer, by its first 4,097 bytes, and in the first case they are all.
source-front : (context : Context) (s : List ℕ)
    → for_source (line (bytes "too long")) source_report context (take 4097 s) ≡ for_source (line (bytes "too long")) source_report context s
source-front context s =
    ⊎_elim
    (λ (h : 4096 < length s). let k : 4096 < length (take 4097 s) = simp length-take (omega arith) in
    rw (lt-ltb 4096 (length (take 4097 s)) k, lt-ltb 4096 (length s) h))
    (λ (h : length s ≤ 4096). ap (for_source (line (bytes "too long")) source_report context) (take_all 4097 s (omega arith)))
    (below? 4096 (length s))

-- The first bytes after the start are the first of all that stands after it.
drop-front : (s : List ℕ) → drop 2 (take 4099 s) ≡ take 4097 (drop 2 s)
drop-front [] = refl
drop-front (a ∷ []) = refl
drop-front (a ∷ b ∷ s) = refl

-- The report of an input is that of its first bytes.
pub report-front : (input : List ℕ) → report_of (take input_room input) ≡ report_of input
unfolding for_input computing_parts
report-front input =
    rw (stands-front 0x54 0xA input, stands-front 0x41 0xA input, drop-front input, source-front Text (drop 2 input))
    (rw (source-front Attribute (drop 2 input)) refl)
