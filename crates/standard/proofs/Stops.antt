-- Where a source stops: character by character, within its bytes.
use Rattle.std.specs.Prelude.{if◌then◌else◌}
use Prim.Native.Nat.{ℕ, zero, suc, ◌+◌, ◌-◌, ◌≤◌, ◌<◌}
use mathlib.Core.Path.{◌≡◌, refl, ◌∙◌, ap, ap₂}
use mathlib.Core.List.{List, [], ◌∷◌}
use mathlib.Core.Bool.{true, not, ◌&&◌}
use mathlib.Core.Logic.{◌⊎◌, inl, inr}
use native.Mathlib.Omega.{arith}
use lib.Dec.{eqb}
use lib.ListN.{length, drop}
use borrow.Author.Tests.{eq-eqb, eqb-false, ne_eqb, not-true}
use Rattle.lists.specs.Notation.{between}
use Rattle.lists.proofs.Choice.{if_both, and_true, between_true}
use Rattle.standard.specs.declared.Context.{Context}
use Rattle.standard.specs.declared.characters.CharRead.{CharRead}
use Rattle.standard.specs.declared.characters.CharRead.TheVariants.{Char, Incomplete, Illformed, End}
use Rattle.standard.specs.Utf8.{read_char}
use Rattle.standard.specs.Answers.{done, ill_formed, nul, context_end}
use Rattle.standard.specs.Contexts.{end_byte, ends, refused}
use Rattle.standard.specs.Reading.{calls_for, answer_to, size_of, Stop, stops, stop_from, stop_of}
use Rattle.standard.proofs.Utf8.{read_length, end-length}
use Rattle.standard.proofs.Skips.{drop_pred, stop_skip}

-- A source stops where its first character calls for an answer; where that calls for none, it stops where the rest does.
pub stop_unfold : (calls : ℕ → ℕ) (place : ℕ) (s : List ℕ) → 0 < length s
    → stop_from calls 0 place s ≡ (if eqb (answer_to calls (read_char s)) done
    then stop_from calls 0 (place + size_of (read_char s)) (drop (size_of (read_char s)) s)
    else stops (answer_to calls (read_char s)) place)
unfolding stop_from
stop_unfold calls place [] h = absurd (omega arith)
stop_unfold calls place (b ∷ s) h = go (read_char (b ∷ s)) refl
  where
    or_stops : CharRead → Stop → Stop
    or_stops r rest = if eqb (answer_to calls r) done then rest else stops (answer_to calls r) place

    go : (r : CharRead) → read_char (b ∷ s) ≡ r → or_stops r (stop_from calls (size_of r - 1) (suc place) s)
        ≡ or_stops r (stop_from calls 0 (place + size_of r) (drop (size_of r) (b ∷ s)))
    go (Char c n) e =
        let w = read_length (b ∷ s) c n e in
        let after : suc place + (n - 1) ≡ place + n = omega arith in
        ap (or_stops (Char c n))
        (stop_skip calls (n - 1) (suc place) s (omega arith)
        ∙ ap₂ (λ (p : ℕ) (l : List ℕ). stop_from calls 0 p l) after (drop_pred n b s w.0))
    go (Incomplete n) e = refl
    go (Illformed n) e = refl
    go End e = absurd (omega (arith, end-length (b ∷ s) e))

-- The same where there may be no byte.
pub stop-read : (calls : ℕ → ℕ) (place : ℕ) (s : List ℕ)
    → stop_from calls 0 place s ≡ (if eqb (answer_to calls (read_char s)) done
    then stop_from calls 0 (place + size_of (read_char s)) (drop (size_of (read_char s)) s)
    else stops (answer_to calls (read_char s)) place)
unfolding stop_from read_char
stop-read calls place [] = ap (stops done) (omega arith)
stop-read calls place (b ∷ s) = stop_unfold calls place (b ∷ s) (omega arith)

-- A stop is within the bytes up to end, and where all is done it is after them all.
abbrev pub Within : ℕ → Stop → Type 0
Within end r = (r.place ≤ end) × (r.answer ≡ done → r.place ≡ end)

-- A source stops within its bytes.
pub stop-within : (calls : ℕ → ℕ) (k place : ℕ) (s : List ℕ) → Within (place + length s) (stop_from calls k place s)
unfolding stop_from
stop-within calls zero place [] = (omega arith, λ e. omega arith)
stop-within calls (suc k) place [] = (omega arith, λ e. omega arith)
stop-within calls zero place (b ∷ s) =
    let w = stop-within calls (size_of (read_char (b ∷ s)) - 1) (suc place) s in
    if_both (Within (place + length (b ∷ s))) (eqb (answer_to calls (read_char (b ∷ s))) done) _ _
    (λ t. (omega arith, λ e. omega (arith, w.1 e))) (λ f. (omega arith, λ e. absurd (eqb-false _ _ f e)))
stop-within calls (suc k) place (b ∷ s) =
    let w = stop-within calls k (suc place) s in (omega arith, λ e. omega (arith, w.1 e))

-- The covered part of a source is not longer than the source.
pub stop-place : (context : Context) (s : List ℕ) → (stop_of context s).place ≤ length s
stop-place context s = omega (arith, (stop-within (calls_for context) 0 0 s).0)

-- A source that is done is covered whole.
pub stop-done : (context : Context) (s : List ℕ) → (stop_of context s).answer ≡ done → (stop_of context s).place ≡ length s
stop-done context s e = omega (arith, (stop-within (calls_for context) 0 0 s).1 e)

-- What holds of being done, and of each answer that can be called for, holds of the answer.
pub stop_cases : (P : ℕ → Type 0) (calls : ℕ → ℕ) → P done → ((r : CharRead) → P (answer_to calls r)) → (k place : ℕ) (s : List ℕ)
    → P (stop_from calls k place s).answer
unfolding stop_from
stop_cases P calls none each zero place [] = none
stop_cases P calls none each (suc k) place [] = none
stop_cases P calls none each zero place (b ∷ s) =
    let later = stop_cases P calls none each (size_of (read_char (b ∷ s)) - 1) (suc place) s in
    if_both (λ (r : Stop). P r.answer) (eqb (answer_to calls (read_char (b ∷ s))) done) _ _ (λ t. later) (λ f. each (read_char (b ∷ s)))
stop_cases P calls none each (suc k) place (b ∷ s) = stop_cases P calls none each k (suc place) s

-- What a character other than NUL calls for: the context's end, or nothing.
module _ (context : Context) (c : ℕ) (some : c ≡ 0 → ⊥) where
  pub calls_end : c ≡ end_byte context → calls_for context c ≡ context_end
  calls_end e = rw (ne_eqb c 0 some, eq-eqb c (end_byte context) e)

  pub calls_none : (c ≡ end_byte context → ⊥) → calls_for context c ≡ done
  calls_none e = rw (ne_eqb c 0 some, ne_eqb c (end_byte context) e)

-- ASCII but NUL and the end calls for nothing.
pub ascii-calls : (context : Context) (b : ℕ) → between 0x1 0x7F b && not (eqb b (end_byte context)) ≡ true
    → (b < 0x80) × (calls_for context b ≡ done)
ascii-calls context b e =
    let w = and_true (between 0x1 0x7F b) (not (eqb b (end_byte context))) e in
    let h = between_true 0x1 0x7F b w.0 in
    (omega arith, calls_none context b (omega arith) (eqb-false b (end_byte context) (not-true (eqb b (end_byte context)) w.1)))

-- A source stops with one of four answers.
abbrev pub OneOf : ℕ → Type 0
OneOf a = (a ≡ done) ⊎ ((a ≡ ill_formed) ⊎ ((a ≡ nul) ⊎ (a ≡ context_end)))

-- A character calls for one of them.
pub calls-one : (context : Context) (c : ℕ) → OneOf (calls_for context c)
calls-one context c =
    if_both OneOf (refused context c) _ _ (λ t. inr (inr (inl refl)))
    (λ f. if_both OneOf (ends context c) _ _ (λ t. inr (inr (inr refl))) (λ g. inl refl))

called : (context : Context) (r : CharRead) → OneOf (answer_to (calls_for context) r)
called context (Char c n) = calls-one context c
called context (Incomplete n) = inr (inl refl)
called context (Illformed n) = inr (inl refl)
called context End = inl refl

pub stops_with : (context : Context) (s : List ℕ) → OneOf (stop_of context s).answer
stops_with context s = stop_cases OneOf (calls_for context) (inl refl) (called context) 0 0 s
