-- What the bytes of a character so far call for: which answer, and for which byte.
use Prim.Native.Nat.{ℕ, ◌<◌}
use Prim.Native.Char.{code}
use mathlib.Core.Path.{◌≡◌, refl, sym, ◌∙◌, ap, ap₂}
use mathlib.Core.List.{List, [], ◌∷◌, ◌++◌}
use mathlib.Core.Bool.{true}
use mathlib.Core.Logic.{◌↔◌, inl, inr}
use native.Mathlib.Omega.{arith}
use lib.ListN.{length, get_or, length-append}
use borrow.Author.Tests.{eqb-true, ne_eqb, lt-ltb}
use Rattle.lists.proofs.Choice.{if_both}
use Rattle.standard.specs.declared.Context.{Context}
use Rattle.standard.specs.declared.Context.TheVariants.{Text, Attribute}
use Rattle.standard.specs.declared.characters.CharRead.{CharRead}
use Rattle.standard.specs.declared.characters.CharRead.TheVariants.{Char, Incomplete, Illformed, End}
use Rattle.standard.specs.Utf8.{read_char, octets, encode}
use Rattle.standard.specs.Answers.{ill_formed, nul, context_end}
use Rattle.standard.specs.Reading.{calls_for}
use Rattle.standard.specs.Contexts.{refused, ends}
use Rattle.standard.proofs.Ascii.{read-ascii}
use Rattle.standard.proofs.Stops.{OneOf, calls-one}
use Rattle.decoder.specs.Stream.{called_for, is_part}
use Rattle.decoder.proofs.Taking.{own_encoded}

-- The answers that the bytes of a character call for.
pub called-one : (context : Context) (r : CharRead) → OneOf (called_for context r)
called-one context (Char c n) = calls-one context c
called-one context (Incomplete n) = inl refl
called-one context (Illformed n) = inr (inl refl)
called-one context End = inl refl

-- A character below 0x80 that is whole with the next byte is that byte alone.
own-ascii : (part : List ℕ) (b c n : ℕ) → is_part (read_char part) ≡ true → read_char (part ++ b ∷ []) ≡ Char c n → c < 0x80 → (part ≡ []) × (b ≡ c)
unfolding encode octets
own-ascii part b c n begun e small = by part (sym (own_encoded part b c n begun e) ∙ one)
  where
    one : encode c ≡ c ∷ []
    one = rw (lt-ltb c 0xD800 (omega arith)) (rw (lt-ltb c 0x80 small))

    by : (l : List ℕ) → l ++ b ∷ [] ≡ c ∷ [] → (l ≡ []) × (b ≡ c)
    by [] f = (refl, ap (λ (s : List ℕ). get_or s 0 0) f)
    by (x ∷ l) f = absurd (omega (arith, ap length f, length-append l (b ∷ [])))

-- What a character calls for, the other way.
calls-nul : (context : Context) (c : ℕ) → calls_for context c ≡ nul → c ≡ 0
calls-nul context c =
    if_both (λ (a : ℕ). a ≡ nul → c ≡ 0) (refused context c) _ _ (λ t e. eqb-true c 0 t)
    (λ f. if_both (λ (a : ℕ). a ≡ nul → c ≡ 0) (ends context c) _ _ (λ t e. absurd (omega arith)) (λ t e. absurd (omega arith)))

calls_end : (context : Context) (c : ℕ) → calls_for context c ≡ context_end → ends context c ≡ true
calls_end context c =
    if_both (λ (a : ℕ). a ≡ context_end → ends context c ≡ true) (refused context c) _ _ (λ t e. absurd (omega arith))
    (λ f. if_both (λ (a : ℕ). a ≡ context_end → ends context c ≡ true) (ends context c) _ _ (λ t e. t) (λ t e. absurd (omega arith)))

calls_ill : (context : Context) (c : ℕ) → calls_for context c ≡ ill_formed → ⊥
calls_ill context c =
    if_both (λ (a : ℕ). a ≡ ill_formed → ⊥) (refused context c) _ _ (λ t e. omega arith)
    (λ f. if_both (λ (a : ℕ). a ≡ ill_formed → ⊥) (ends context c) _ _ (λ t e. omega arith) (λ t e. omega arith))

-- The character before which a source ends is below 0x80, and is not NUL.
ends-small : (context : Context) (c : ℕ) → ends context c ≡ true → (c < 0x80) × (0 < c)
ends-small Text c e = let f = eqb-true c (code "<") e in (omega (arith, f), omega (arith, f))
ends-small Attribute c e = let f = eqb-true c (code "\"") e in (omega (arith, f), omega (arith, f))

-- The bytes of a character call for 1 where the last is ill-formed.
pub ill_called : (context : Context) (q : CharRead) → (called_for context q ≡ ill_formed) ↔ ((n : ℕ) × (q ≡ Illformed n))
ill_called context q = (forth q, λ w. ap (called_for context) w.1)
  where
    forth : (q : CharRead) → called_for context q ≡ ill_formed → (n : ℕ) × (q ≡ Illformed n)
    forth (Char c n) e = absurd (calls_ill context c e)
    forth (Incomplete n) e = absurd (omega arith)
    forth (Illformed n) e = (n, refl)
    forth End e = absurd (omega arith)

module _ (context : Context) (part : List ℕ) (b : ℕ) (begun : is_part (read_char part) ≡ true) where
  -- They call for 2 where a character begins with NUL.
  pub nul_called : (called_for context (read_char (part ++ b ∷ [])) ≡ nul) ↔ ((part ≡ []) × (b ≡ 0))
  nul_called = (
    forth (read_char (part ++ b ∷ [])) refl,
    λ w. ap₂ (λ (l : List ℕ) (x : ℕ). called_for context (read_char (l ++ x ∷ []))) w.0 w.1
        ∙ ap (called_for context) (read-ascii 0 [] (omega arith)),
  )
    where
      forth : (q : CharRead) → read_char (part ++ b ∷ []) ≡ q → called_for context q ≡ nul → (part ≡ []) × (b ≡ 0)
      forth (Char c n) f e =
          let zero_is = calls-nul context c e in
          let w = own-ascii part b c n begun f (omega (arith, zero_is)) in (w.0, w.1 ∙ zero_is)
      forth (Incomplete n) f e = absurd (omega arith)
      forth (Illformed n) f e = absurd (omega arith)
      forth End f e = absurd (omega arith)

  -- They call for 7 where the next character is the one before which a source ends.
  pub end_called : (called_for context (read_char (part ++ b ∷ [])) ≡ context_end) ↔ ((part ≡ []) × (ends context b ≡ true))
  end_called = (
    forth (read_char (part ++ b ∷ [])) refl,
    λ w. let small = ends-small context b w.1 in
        ap (λ (l : List ℕ). called_for context (read_char (l ++ b ∷ []))) w.0 ∙ ap (called_for context) (read-ascii b [] small.0)
        ∙ rw (ne_eqb b 0 (λ e. omega (arith, small.1)), w.1),
  )
    where
      forth : (q : CharRead) → read_char (part ++ b ∷ []) ≡ q → called_for context q ≡ context_end → (part ≡ []) × (ends context b ≡ true)
      forth (Char c n) f e =
          let ending = calls_end context c e in
          let w = own-ascii part b c n begun f (ends-small context c ending).0 in (w.0, ap (ends context) w.1 ∙ ending)
      forth (Incomplete n) f e = absurd (omega arith)
      forth (Illformed n) f e = absurd (omega arith)
      forth End f e = absurd (omega arith)
