-- Laws of the covered part of a source: nothing after it is looked at, and how much it reads to.
use Rattle.std.specs.Prelude.{if◌then◌else◌}
use Prim.Native.Nat.{ℕ, zero, suc, ◌-◌, ◌≤◌}
use mathlib.Core.Path.{◌≡◌, refl}
use mathlib.Core.Bool.{Bool, true, false}
use mathlib.Core.List.{List, [], ◌∷◌, ◌++◌}
use native.Mathlib.Omega.{arith}
use lib.Dec.{eqb}
use lib.ListN.{length, length-take}
use lib.Seq.{take-append-le}
use Rattle.standard.specs.declared.Context.{Context}
use Rattle.standard.specs.declared.characters.CharRead.{CharRead}
use Rattle.standard.specs.declared.characters.CharRead.TheVariants.{Char, Incomplete, Illformed, End}
use Rattle.standard.specs.Utf8.{read_char}
use Rattle.standard.specs.NameList.{builtin}
use Rattle.standard.specs.Answers.{done, context_end}
use Rattle.standard.specs.Reading.{calls_for, answer_to, size_of, Stop, stops, stop_from, stop_of, covered, decode}
use Rattle.standard.proofs.Utf8.{read-append, end-length}
use Rattle.standard.proofs.Stops.{stop-place}
use Rattle.standard.proofs.Narrow.{builtin_narrow}
use Rattle.standard.proofs.Bounds.{text_fits, errors_fit}

-- Where bytes stop at the context's end they stop with more bytes too.
ends-alone : (context : Context) (skip place : ℕ) (s rest : List ℕ) → let calls = calls_for context in
    (stop_from calls skip place s).answer ≡ context_end → stop_from calls skip place (s ++ rest) ≡ stop_from calls skip place s
unfolding stop_from
ends-alone context zero place [] rest e = absurd (omega (arith, e))
ends-alone context (suc skip) place [] rest e = absurd (omega (arith, e))
ends-alone context (suc skip) place (b ∷ s) rest e = ends-alone context skip (suc place) s rest e
ends-alone context zero place (b ∷ s) rest e = go (read_char (b ∷ s)) refl (λ k f. ends-alone context k (suc place) s rest f) e
  where
    by : CharRead → List ℕ → Stop
    by r s =
        if eqb (answer_to (calls_for context) r) done then stop_from (calls_for context) (size_of r - 1) (suc place) s
        else stops (answer_to (calls_for context) r) place

    go : (r : CharRead) → read_char (b ∷ s) ≡ r
        → ((k : ℕ) → (stop_from (calls_for context) k (suc place) s).answer ≡ context_end
        → stop_from (calls_for context) k (suc place) (s ++ rest) ≡ stop_from (calls_for context) k (suc place) s)
        → (by r s).answer ≡ context_end → by (read_char (b ∷ s ++ rest)) (s ++ rest) ≡ by r s
    go (Char c n) f later e = rw (read-append (b ∷ s) rest (Char c n) f tt) (on (eqb (calls_for context c) done) e)
      where
        on : (t : Bool) → (if t then stop_from (calls_for context) (n - 1) (suc place) s else stops (calls_for context c) place).answer ≡ context_end
            → (if t then stop_from (calls_for context) (n - 1) (suc place) (s ++ rest) else stops (calls_for context c) place)
            ≡ (if t then stop_from (calls_for context) (n - 1) (suc place) s else stops (calls_for context c) place)
        on true h = later (n - 1) h
        on false h = refl
    go (Incomplete n) f later e = absurd (omega (arith, e))
    go (Illformed n) f later e = absurd (omega (arith, e))
    go End f later e = absurd (omega (arith, end-length (b ∷ s) f))

-- Whatever follows the character that ends the context, the source stops there, and the same part is covered.
pub nothing-after : (context : Context) (s rest : List ℕ) → (stop_of context s).answer ≡ context_end
    → (stop_of context (s ++ rest) ≡ stop_of context s) × (covered context (s ++ rest) ≡ covered context s)
nothing-after context s rest e =
    let same = ends-alone context 0 0 s rest e in
    (same, rw same (take-append-le (stop_of context s).place s rest (stop-place context s)))

module _ (context : Context) (s : List ℕ) where
  -- As much is covered as stands before the place where the source stops.
  pub covered_length : length (covered context s) ≡ (stop_of context s).place
  covered_length = omega (arith, length-take (stop_of context s).place s, stop-place context s)

  -- The text is not longer than the covered part.
  pub text_short : length (decode builtin context (covered context s)).text ≤ length (covered context s)
  text_short = text_fits builtin context (covered context s) builtin_narrow

  -- There are no more errors than bytes.
  pub errors_few : length (decode builtin context (covered context s)).errors ≤ length s
  errors_few = omega (arith, errors_fit builtin context (covered context s), covered_length, stop-place context s)
