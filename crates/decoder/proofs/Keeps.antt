-- A step of the machine keeps to the limits of an open stream.
use Prim.Native.Nat.{ℕ, suc, ◌+◌, ◌-◌, ◌%◌, ◌≤◌, ◌<◌}
use Prim.Native.Char.{code}
use mathlib.Core.Path.{◌≡◌, refl, sym, ◌∙◌, ap, subst}
use mathlib.Core.List.{List, [], ◌++◌}
use mathlib.Core.Bool.{true, false, ◌||◌}
use mathlib.Core.Logic.{inl, inr}
use native.Mathlib.Omega.{arith}
use lib.Dec.{ltb, eqb}
use lib.ListN.{length, get_or, length-append}
use lib.Seq.{get_or-append-add}
use borrow.Author.Tests.{ne_eqb, ltb-true}
use Rattle.lists.proofs.Choice.{if_both}
use Rattle.standard.specs.declared.Context.{Context}
use Rattle.standard.specs.Classes.{alphanumeric}
use Rattle.standard.specs.Numbers.{is_digit, digit_of}
use Rattle.standard.specs.Utf8.{scalar, octets, encode}
use Rattle.standard.specs.Names.{longest, begins}
use Rattle.standard.specs.NameList.{builtin}
use Rattle.standard.proofs.RoundTrip.{encode-short}
use Rattle.decoder.specs.Held.{held_name}
use Rattle.decoder.specs.Machine.{
  St,
  Data,
  AfterCr,
  Begin,
  Octothorpe,
  HexBegin,
  Numeric,
  Named,
  BogusName,
  Step,
  step_data,
  step_bogus,
  settle,
  step_named,
  step,
}
use Rattle.decoder.specs.Stream.{store_of, mark_of}
use Rattle.decoder.specs.Turns.{Fits}
use Rattle.decoder.proofs.Open.{held-by-last}

-- The last byte of a character is `;` only where the character is.
last_byte : (c : ℕ) → eqb c (code ";") ≡ false → eqb (get_or (encode c) (length (encode c) - 1) 0) (code ";") ≡ false
unfolding encode octets
last_byte c e = if_both Last (scalar c) _ _ (λ t. of_octets c e) (λ f. refl)
  where
    Last : ℕ → Type 0
    Last d = eqb (get_or (octets d) (length (octets d) - 1) 0) (code ";") ≡ false

    Ends : List ℕ → Type 0
    Ends l = eqb (get_or l (length l - 1) 0) (code ";") ≡ false

    of_octets : (d : ℕ) → eqb d (code ";") ≡ false → Last d
    of_octets d f =
        if_both Ends (ltb d 0x80) _ _ (λ t. f)
        (λ g. if_both Ends (ltb d 0x800) _ _ (λ t. ne_eqb (0x80 + d % 64) (code ";") (omega arith))
        (λ g. if_both Ends (ltb d 0x10000) _ _ (λ t. ne_eqb (0x80 + d % 64) (code ";") (omega arith))
        (λ g. ne_eqb (0x80 + d % 64) (code ";") (omega arith))))

-- A beginning of some name that goes on with a character but `;` is held.
held_name_on : (held : List ℕ) (c : ℕ) → begins builtin (held ++ encode c) ≡ true → eqb c (code ";") ≡ false
    → held_name builtin (held ++ encode c) ≡ true
held_name_on held c e f =
    let own = encode c in
    let n = length-append held own in
    let some : 0 < length own = (encode-short c).0 in
    let last : get_or (held ++ own) (length (held ++ own) - 1) 0 ≡ get_or own (length own - 1) 0 =
    ap (λ (i : ℕ). get_or (held ++ own) i 0) (let k : length (held ++ own) - 1 ≡ length held + (length own - 1) = omega arith in k)
    ∙ get_or-append-add held own (length own - 1) 0 in
    held-by-last (held ++ own) (omega arith) ∙ rw (e, last, last_byte c f)

-- A step keeps to the limits, with its place at most t and at most n bytes held.
pub record Keeps (t n : ℕ) (s : Step) : Type 0 where
  pub fits : Fits s.next
  pub mark : mark_of s.next ≤ t
  pub store : length (store_of s.next) ≤ n

module _ (p c t n : ℕ) (here : p ≤ t) (some : 1 ≤ n) where
  -- Where nothing is held.
  data_keeps : (own : List ℕ) → Keeps t n (step_data p c own)
  unfolding step_data mark_of store_of Fits
  data_keeps own =
      if_both (Keeps t n) (eqb c (code "\r")) _ _ (λ t. record { fits = tt; mark = omega arith; store = omega arith })
      (λ f. if_both (Keeps t n) (eqb c (code "&")) _ _ (λ t. record { fits = tt; mark = here; store = some })
      (λ f. record { fits = tt; mark = omega arith; store = omega arith }))

  -- In a name that is none.
  bogus_keeps : (q : ℕ) (own : List ℕ) → q ≤ t → Keeps t n (step_bogus q p c own)
  unfolding step_bogus mark_of store_of Fits
  bogus_keeps q own before =
      if_both (Keeps t n) (alphanumeric c) _ _ (λ t. record { fits = tt; mark = before; store = omega arith })
      (λ f. if_both (Keeps t n) (eqb c (code ";")) _ _ (λ t. record { fits = tt; mark = omega arith; store = omega arith })
      (λ f. data_keeps own))

  module _ (context : Context) where
    -- In a name.
    named_keeps : (q : ℕ) (held : List ℕ) → q ≤ t → suc (length held) + length (encode c) ≤ n
        → Keeps t n (step_named builtin context q held p c (encode c))
    unfolding step_named settle mark_of store_of Fits
    named_keeps q held before room =
        let own = encode c in
        let many = encode-short c in
        if_both (Keeps t n) (begins builtin (held ++ own)) _ _
        (λ b. if_both (Keeps t n) (eqb c (code ";")) _ _ (λ t. record { fits = tt; mark = omega arith; store = omega arith })
        (λ f. record {
          fits = (held_name_on held c b f, omega (arith, length-append held own));
          mark = before;
          store = omega (arith, length-append held own);
        }))
        (λ f. if_both (Keeps t n) (eqb (longest builtin held).len 0) _ _
        (λ t. let w = bogus_keeps q own before in record { fits = w.fits; mark = w.mark; store = w.store })
        (λ f. let w = data_keeps own in record { fits = w.fits; mark = w.mark; store = w.store }))

    -- What is held is released, and the character is met with nothing held.
    then_data : (own : List ℕ) (s : Step) → s.next ≡ (step_data p c own).next → Keeps t n s
    then_data own s e =
        let w = data_keeps own in record { fits = subst Fits (sym e) w.fits; mark = rw e w.mark; store = rw e w.store }

    -- Every step keeps to the limits.
    pub step_keeps : (st : St) → Fits st → mark_of st ≤ t → length (store_of st) + length (encode c) ≤ n
        → Keeps t n (step builtin context st p c (encode c))
    unfolding step mark_of store_of Fits
    step_keeps Data f before room = data_keeps (encode c)
    step_keeps AfterCr f before room =
        if_both (Keeps t n) (eqb c (code "\n")) _ _ (λ t. record { fits = tt; mark = omega arith; store = omega arith }) (λ f. data_keeps (encode c))
    step_keeps (Begin q) f before room =
        let many = encode-short c in
        if_both (Keeps t n) (eqb c (code "#")) _ _ (λ t. record { fits = tt; mark = before; store = omega arith })
        (λ f. if_both (Keeps t n) (alphanumeric c) _ _ (λ t. named_keeps q [] before room) (λ f. then_data (encode c) _ refl))
    step_keeps (Octothorpe q) f before room =
        let many = encode-short c in
        if_both (Keeps t n) (eqb c (code "x") || eqb c (code "X")) _ _ (λ x. record { fits = x; mark = before; store = omega arith })
        (λ f. if_both (Keeps t n) (is_digit 10 c) _ _
        (λ d. record { fits = (inl (refl, refl), omega (arith, ltb-true (digit_of c) 10 d)); mark = before; store = omega arith })
        (λ f. then_data (encode c) _ refl))
    step_keeps (HexBegin q letter) f before room =
        if_both (Keeps t n) (is_digit 16 c) _ _
        (λ d. record { fits = (inr (refl, (letter, f, refl)), omega (arith, ltb-true (digit_of c) 16 d)); mark = before; store = omega arith })
        (λ f. then_data (encode c) _ refl)
    step_keeps (Numeric q intro base value) f before room =
        if_both (Keeps t n) (is_digit base c) _ _ (λ d. record { fits = (f.0, omega arith); mark = before; store = omega arith })
        (λ f. if_both (Keeps t n) (eqb c (code ";")) _ _ (λ t. record { fits = tt; mark = omega arith; store = omega arith })
        (λ f. then_data (encode c) _ refl))
    step_keeps (Named q held) f before room = named_keeps q held before room
    step_keeps (BogusName q) f before room = bogus_keeps q (encode c) before

-- A step of a state within the limits gives one within the limits.
pub step_fits : (context : Context) (st : St) (p c : ℕ) → Fits st → Fits (step builtin context st p c (encode c)).next
step_fits context st p c f =
    (step_keeps p c (mark_of st + p) (length (store_of st) + length (encode c)) (omega arith) (omega (arith, encode-short c)) context st f
    (omega arith)
    (omega arith)).fits
