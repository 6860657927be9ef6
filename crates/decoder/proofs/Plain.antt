-- Plain bytes stand for themselves, without an error, and stop no reading.
use Prim.Native.Nat.{ℕ, ◌<◌}
use mathlib.Core.Path.{◌≡◌, sym, ◌∙◌, ap}
use mathlib.Core.Bool.{true, not}
use lib.Dec.{eqb}
use borrow.Author.Tests.{eqb-false, not-true}
use Rattle.lists.proofs.Choice.{no_way, and_true}
use Rattle.standard.specs.declared.Context.{Context}
use Rattle.standard.specs.Contexts.{end_byte}
use Rattle.standard.specs.Answers.{done}
use Rattle.standard.specs.Reading.{calls_for}
use Rattle.standard.proofs.Ascii.{Plain, plain-standing}
use Rattle.standard.proofs.Stops.{calls_none}
use Rattle.runs.specs.Kinds.{standing, plain}

-- A plain byte stands for itself.
pub plain-is : (end b : ℕ) → plain end b ≡ true → Plain b
plain-is end b e = plain-standing b (and_true (standing b) (not (eqb b end)) e).0

-- It is ASCII and calls for nothing.
pub plain-calls : (context : Context) (b : ℕ) → plain (end_byte context) b ≡ true → (b < 0x80) × (calls_for context b ≡ done)
plain-calls context b e =
    let w = and_true (standing b) (not (eqb b (end_byte context))) e in (
      (plain-standing b w.0).0,
      calls_none context b (λ i. no_way (sym w.0 ∙ ap standing i)) (eqb-false b (end_byte context) (not-true (eqb b (end_byte context)) w.1)),
    )
