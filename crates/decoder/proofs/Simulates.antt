-- Each step of the machine gives what its state says of the character, and its next state says the rest.
use Rattle.std.specs.Prelude.{if◌then◌else◌}
use Prim.Native.Nat.{ℕ, suc, ◌+◌, ◌≤◌}
use Prim.Native.Char.{code}
use mathlib.Core.Path.{◌≡◌, refl, sym, ◌∙◌, ap, subst}
use mathlib.Core.List.{List, [], ◌∷◌, ◌++◌, append_assoc}
use mathlib.Core.Bool.{Bool, true, false, ◌||◌}
use native.Mathlib.Omega.{arith}
use lib.Dec.{eqb}
use lib.ListN.{length, take, drop, length-append}
use borrow.Author.Tests.{eqb-true}
use Rattle.lists.specs.Notation.{next, next_passes}
use Rattle.lists.proofs.Choice.{no_way}
use Rattle.standard.specs.declared.Context.{Context}
use Rattle.standard.specs.declared.names.Found.{Found}
use Rattle.standard.specs.Errors.{error, listed, placed, unknown_named_character_reference}
use Rattle.standard.specs.Classes.{alphanumeric, character_code}
use Rattle.standard.specs.Numbers.{digit_of, is_digit}
use Rattle.standard.specs.Names.{Name, longest, begins}
use Rattle.standard.specs.Reading.{Reading, reading, ◌⊕◌}
use Rattle.standard.proofs.Narrow.{longest-fits}
use Rattle.standard.proofs.Joining.{⊕-assoc}
use Rattle.decoder.specs.Machine.{
  St,
  Data,
  AfterCr,
  Begin,
  Octothorpe,
  HexBegin,
  Numeric,
  Named,
  BogusName,
  Step,
  to,
  step_after,
  nothing,
  text_only,
  no_digits,
  add_digit,
  finish_numeric,
  finish_named,
  step_data,
  step_bogus,
  settle,
  step_named,
  step,
}
use Rattle.decoder.proofs.Looks.{
  Looks,
  ascii,
  wide,
  alphanumeric-ascii,
  digit-ascii,
  equal_ascii,
  looks_next,
  next-same,
  looks_own,
  looks_take,
  is_x,
  is_x_ascii,
  reference-plain,
  x_plain,
}
use Rattle.decoder.proofs.Tidy.{Tidy, Alphanumerics, next-held, settled, goes_on}
use Rattle.decoder.proofs.Unfolding.{all_append, read_from, read_character}
use Rattle.decoder.proofs.Means.{Valid, plain-held, no_hash, named-near, cr_mean, num_mean, bogus_mean, Mean, cr_read, cr_none, digits_read}
use Rattle.decoder.proofs.Holding.{
  number_more,
  number_end,
  bogus_more,
  bogus_closed,
  bogus_end,
  no_digits_read,
  decimal_none,
  hexadecimal_none,
  decimal_some,
  hexadecimal_some,
  ampersand_read,
  none_read,
  found_read,
  closed_read,
}

-- A step at p over n bytes of s: what was to be read is what it gives and what its state says of the rest.
pub record Ok (names : List Name) (context : Context) (p : ℕ) (s : List ℕ) (n : ℕ) (x : Reading) (r : Step) : Type 0 where
  pub same : x ≡ r.gives ⊕ Mean names context r.next (p + n) (drop n s)
  pub valid : Valid (p + n) r.next

-- The test of one character.
abbrev is : ℕ → ℕ → Bool
is k x = eqb x k

-- The two letters are tested one by one.
next_x : (s : List ℕ) → (next (code "x") s || next (code "X") s) ≡ next_passes is_x s
next_x [] = refl
next_x (c ∷ s) = refl

module _ (names : List Name) (context : Context) where
  -- What is read of a source from a place on.
  abbrev whole : ℕ → List ℕ → Reading
  whole = read_from names context

  -- What is the same as what was to be read.
  by : {p : ℕ} {s : List ℕ} {n : ℕ} {x y : Reading} {r : Step} → y ≡ x → Ok names context p s n x r → Ok names context p s n y r
  by e k = record { same = e ∙ k.same; valid = k.valid }

  -- What is released first.
  before : {p : ℕ} {s : List ℕ} {n : ℕ} {x y : Reading} {r : Step} (o : Reading) → y ≡ o ⊕ x → Ok names context p s n x r
      → Ok names context p s n y (step_after o r)
  before {p} {s} {n} {x} {y} {r} o e k = record {
    same = e ∙ ap (λ (z : Reading). o ⊕ z) k.same ∙ sym (⊕-assoc o r.gives (Mean names context r.next (p + n) (drop n s)));
    valid = k.valid;
  }

  -- Nothing is held.
  data_ok : (p : ℕ) {s : List ℕ} {c n : ℕ} → Looks s c n → Ok names context p s n (whole p s) (step_data p c (take n s))
  unfolding step_data Mean Valid
  data_ok p {s} {c} {n} look = go (eqb c (code "\r")) (eqb c (code "&")) refl refl
    where
      go : (t u : Bool) → eqb c (code "\r") ≡ t → eqb c (code "&") ≡ u
          → Ok names context p s n (whole p s)
          (if t then to (text_only (code "\n" ∷ [])) AfterCr
          else if u then to nothing (Begin p)
          else to (reading (take n s) (placed p (listed (character_code c)))) Data)
      go true u e f =
          looks_own (is (code "\r")) (equal_ascii (code "\r") (omega arith))
          (λ s n. Ok names context p s n (whole p s) (to (text_only (code "\n" ∷ [])) AfterCr)) look e
          (λ t. record { same = ap (λ (x : ℕ). whole p (x ∷ t)) (eqb-true c (code "\r") e) ∙ cr_read names context p t; valid = tt })
      go false true e f =
          looks_own (is (code "&")) (equal_ascii (code "&") (omega arith)) (λ s n. Ok names context p s n (whole p s) (to nothing (Begin p))) look f
          (λ t. record { same = ap (λ (x : ℕ). whole p (x ∷ t)) (eqb-true c (code "&") f); valid = omega arith })
      go false false e f = record { same = read_character names context p look e f; valid = tt }

  -- In a name that is no name.
  bogus_ok : (q p : ℕ) {s : List ℕ} {c n : ℕ} → Looks s c n
      → Ok names context p s n (bogus_mean names context q p s) (step_bogus q p c (take n s))
  unfolding step_bogus Mean Valid
  bogus_ok q p {s} {c} {n} look = go (alphanumeric c) (eqb c (code ";")) refl refl
    where
      go : (t u : Bool) → alphanumeric c ≡ t → eqb c (code ";") ≡ u
          → Ok names context p s n (bogus_mean names context q p s)
          (if t then to (text_only (take n s)) (BogusName q)
          else if u then to (reading (take n s) (error unknown_named_character_reference q ∷ [])) Data
          else step_data p c (take n s))
      go true u e f =
          looks_own alphanumeric alphanumeric-ascii
          (λ s n. Ok names context p s n (bogus_mean names context q p s) (to (text_only (take n s)) (BogusName q))) look e
          (λ t. record { same = bogus_more names context q p c t e; valid = tt })
      go false true e f =
          looks_own (is (code ";")) (equal_ascii (code ";") (omega arith))
          (λ s n. Ok names context p s n (bogus_mean names context q p s)
          (to (reading (take n s) (error unknown_named_character_reference q ∷ [])) Data)) look f
          (λ t. record {
            same =
                subst
                (λ (x : ℕ). bogus_mean names context q p (x ∷ t)
                ≡ reading (x ∷ []) (error unknown_named_character_reference q ∷ []) ⊕ whole (p + 1) t)
                (sym (eqb-true c (code ";") f)) (bogus_closed names context q p t);
            valid = tt;
          })
      go false false e f =
          by
          (bogus_end names context q p s (looks_next alphanumeric alphanumeric-ascii look ∙ e)
          (next-same (code ";") (omega arith) look ∙ f))
          (data_ok p look)

  -- After a CR.
  cr_ok : (p : ℕ) {s : List ℕ} {c n : ℕ} → Looks s c n
      → Ok names context p s n (cr_mean names context p s) (step names context AfterCr p c (take n s))
  unfolding step cr_mean Mean Valid
  cr_ok p {s} {c} {n} look = go (eqb c (code "\n")) refl
    where
      go : (t : Bool) → eqb c (code "\n") ≡ t
          → Ok names context p s n (cr_mean names context p s) (if t then to nothing Data else step_data p c (take n s))
      go true e =
          looks_own (is (code "\n")) (equal_ascii (code "\n") (omega arith))
          (λ s n. Ok names context p s n (cr_mean names context p s) (to nothing Data)) look e
          (λ t. record { same = rw e; valid = tt })
      go false e = by (cr_none names context p s (next-same (code "\n") (omega arith) look ∙ e)) (data_ok p look)

  -- The same from another place that is the same.
  at_place : {p p' : ℕ} (o : Reading) (s : List ℕ) → p ≡ p' → o ⊕ whole p s ≡ o ⊕ whole p' s
  at_place o s e = ap (λ (n : ℕ). o ⊕ whole n s) e

  -- In a number.
  number_ok : (q : ℕ) (intro : List ℕ) (base value p : ℕ) {s : List ℕ} {c n : ℕ} → base ≤ 16 → Looks s c n
      → Ok names context p s n (num_mean names context q base value p s) (step names context (Numeric q intro base value) p c (take n s))
  unfolding step Mean Valid
  number_ok q intro base value p {s} {c} {n} few look = go (is_digit base c) (eqb c (code ";")) refl refl
    where
      go : (t u : Bool) → is_digit base c ≡ t → eqb c (code ";") ≡ u
          → Ok names context p s n (num_mean names context q base value p s)
          (if t then to nothing (Numeric q intro base (add_digit base value c))
          else if u then to (finish_numeric q value true) Data
          else step_after (finish_numeric q value false) (step_data p c (take n s)))
      go true u e f =
          looks_own (is_digit base) (digit-ascii base few)
          (λ s n. Ok names context p s n (num_mean names context q base value p s) (to nothing (Numeric q intro base (add_digit base value c))))
          look e
          (λ t. record { same = number_more names context q base value p c t e; valid = few })
      go false true e f =
          looks_own (is (code ";")) (equal_ascii (code ";") (omega arith))
          (λ s n. Ok names context p s n (num_mean names context q base value p s) (to (finish_numeric q value true) Data)) look f
          (λ t. record { same = number_end names context q base value p (c ∷ t) e ∙ rw f; valid = tt })
      go false false e f =
          before (finish_numeric q value false)
          (number_end names context q base value p s (looks_next (is_digit base) (digit-ascii base few) look ∙ e)
          ∙ rw (next-same (code ";") (omega arith) look ∙ f)
          (at_place (finish_numeric q value false) s (omega arith)))
          (data_ok p look)

  -- After `&#`.
  octothorpe_ok : (q p : ℕ) {s : List ℕ} {c n : ℕ} → p ≡ suc (suc q) → Looks s c n
      → Ok names context p s n (whole q (code "&" ∷ code "#" ∷ s)) (step names context (Octothorpe q) p c (take n s))
  unfolding step Mean Valid
  octothorpe_ok q p {s} {c} {n} v look = go (is_x c) (is_digit 10 c) refl refl
    where
      go : (t u : Bool) → is_x c ≡ t → is_digit 10 c ≡ u
          → Ok names context p s n (whole q (code "&" ∷ code "#" ∷ s))
          (if t then to nothing (HexBegin q c)
          else if u then to nothing (Numeric q (code "&" ∷ code "#" ∷ []) 10 (digit_of c))
          else step_after (no_digits q (code "&" ∷ code "#" ∷ [])) (step_data p c (take n s)))
      go true u e f =
          looks_own is_x is_x_ascii (λ s n. Ok names context p s n (whole q (code "&" ∷ code "#" ∷ s)) (to nothing (HexBegin q c))) look e
          (λ t. record { same = refl; valid = (omega arith, e) })
      go false true e f =
          looks_own (is_digit 10) (digit-ascii 10 (omega arith))
          (λ s n. Ok names context p s n (whole q (code "&" ∷ code "#" ∷ s)) (to nothing (Numeric q (code "&" ∷ code "#" ∷ []) 10
          (digit_of c)))) look f
          (λ t. record {
            same =
                digits_read names context q 10 2 c (code "#" ∷ c ∷ t) t (decimal_some names context c t e) refl f
                ∙ ap (λ (n : ℕ). num_mean names context q 10 (digit_of c) n t) (let i : suc (q + 2) ≡ p + 1 = omega arith in i);
            valid = omega arith;
          })
      go false false e f =
          before (no_digits q (code "&" ∷ code "#" ∷ []))
          (no_digits_read names context q (code "#" ∷ []) s (reference-plain (code "#") refl, tt)
          (decimal_none names context s (next_x s ∙ looks_next is_x is_x_ascii look ∙ e)
          (looks_next (is_digit 10) (digit-ascii 10 (omega arith)) look ∙ f))
          ∙ at_place (no_digits q (code "&" ∷ code "#" ∷ [])) s (omega arith))
          (data_ok p look)

  -- After `&#x`.
  hexadecimal_ok : (q letter p : ℕ) {s : List ℕ} {c n : ℕ} → p ≡ suc (suc (suc q)) → is_x letter ≡ true → Looks s c n
      → Ok names context p s n (whole q (code "&" ∷ code "#" ∷ letter ∷ s)) (step names context (HexBegin q letter) p c (take n s))
  unfolding step Mean Valid
  hexadecimal_ok q letter p {s} {c} {n} v x look = go (is_digit 16 c) refl
    where
      go : (t : Bool) → is_digit 16 c ≡ t → Ok names context p s n (whole q (code "&" ∷ code "#" ∷ letter ∷ s))
          (if t then to nothing (Numeric q (code "&" ∷ code "#" ∷ letter ∷ []) 16 (digit_of c))
          else step_after (no_digits q (code "&" ∷ code "#" ∷ letter ∷ [])) (step_data p c (take n s)))
      go true e =
          looks_own (is_digit 16) (digit-ascii 16 (omega arith))
          (λ s n. Ok names context p s n (whole q (code "&" ∷ code "#" ∷ letter ∷ s)) (to nothing (Numeric q (code "&" ∷ code "#" ∷ letter ∷ []) 16
          (digit_of c)))) look e
          (λ t. record {
            same =
                digits_read names context q 16 3 c (code "#" ∷ letter ∷ c ∷ t) t (hexadecimal_some names context letter (c ∷ t) x) refl e
                ∙ ap (λ (n : ℕ). num_mean names context q 16 (digit_of c) n t) (let i : suc (q + 3) ≡ p + 1 = omega arith in i);
            valid = omega arith;
          })
      go false e =
          before (no_digits q (code "&" ∷ code "#" ∷ letter ∷ []))
          (no_digits_read names context q (code "#" ∷ letter ∷ []) s (x_plain letter x)
          (hexadecimal_none names context letter s x (looks_next (is_digit 16) (digit-ascii 16 (omega arith)) look ∙ e))
          ∙ at_place (no_digits q (code "&" ∷ code "#" ∷ letter ∷ [])) s (omega arith))
          (data_ok p look)

  -- A name goes on, or is closed by its `;`.
  goes_ok : (q p : ℕ) (h : List ℕ) {s : List ℕ} {c n : ℕ} → Tidy names → p ≡ suc (q + length h) → Alphanumerics h
      → next_passes alphanumeric (h ++ s) ≡ true → begins names (h ++ take n s) ≡ true → Looks s c n
      → Ok names context p s n (whole q (code "&" ∷ h ++ s))
      (if eqb c (code ";") then to (finish_named context q (longest names (h ++ take n s)) (h ++ take n s) []) Data
      else to nothing (Named q (h ++ take n s)))
  unfolding Mean Valid
  goes_ok q p h tidy v al first e (wide {b} {c} {n} {s = t} k l r) =
      no_way
      (sym (goes_on names h b (take n t) tidy al e (equal_ascii (code ";") (omega arith) b k)) ∙ alphanumeric-ascii b k)
  goes_ok q p h tidy v al first e (ascii {b} {s = t} k) = go (eqb b (code ";")) refl
    where
      joins : (x : ℕ) → h ++ x ∷ t ≡ (h ++ x ∷ []) ++ t
      joins x = sym (append_assoc h (x ∷ []) t)

      Closes : ℕ → Type 0
      Closes x =
          next_passes alphanumeric (h ++ x ∷ t) ≡ true → begins names (h ++ x ∷ []) ≡ true
          → whole q (code "&" ∷ h ++ x ∷ t) ≡ finish_named context q (longest names (h ++ x ∷ [])) (h ++ x ∷ []) [] ⊕ whole (p + 1) t

      closes : Closes (code ";")
      closes first e =
          ap (λ (l : List ℕ). whole q (code "&" ∷ l)) (joins (code ";"))
          ∙ closed_read names context q h t tidy al e (ap (next_passes alphanumeric) (sym (joins (code ";"))) ∙ first)
          ∙ at_place (finish_named context q (longest names (h ++ code ";" ∷ [])) (h ++ code ";" ∷ []) []) t
          (let i : suc (q + length (h ++ code ";" ∷ [])) ≡ p + 1 = simp length-append (omega arith) in i)

      go : (u : Bool) → eqb b (code ";") ≡ u → Ok names context p (b ∷ t) 1 (whole q (code "&" ∷ h ++ b ∷ t))
          (if u then to (finish_named context q (longest names (h ++ b ∷ [])) (h ++ b ∷ []) []) Data else to nothing (Named q (h ++ b ∷ [])))
      go true f = record { same = subst Closes (sym (eqb-true b (code ";") f)) closes first e; valid = tt }
      go false f = record {
        same = ap (λ (l : List ℕ). whole q (code "&" ∷ l)) (joins b);
        valid = (
          simp length-append (omega arith),
          all_append (λ (c : ℕ). alphanumeric c ≡ true) h (b ∷ []) al (goes_on names h b [] tidy al e f, tt),
          simp length-append (omega arith),
        );
      }

  -- A character that no name goes on with settles what is found.
  settles : (h : List ℕ) {s : List ℕ} {c n : ℕ} → Tidy names → Alphanumerics h → begins names (h ++ take n s) ≡ false → Looks s c n
      → longest names (h ++ s) ≡ longest names h
  settles h tidy al e (ascii {b} {s = t} k) = settled names h b t e
  settles h tidy al e (wide {b} {c} {n} {s = t} k l r) = settled names h b t (go (begins names (h ++ b ∷ [])) refl)
    where
      go : (u : Bool) → begins names (h ++ b ∷ []) ≡ u → begins names (h ++ b ∷ []) ≡ false
      go false f = f
      go true f = no_way (sym (goes_on names h b [] tidy al f (equal_ascii (code ";") (omega arith) b k)) ∙ alphanumeric-ascii b k)

  -- What is held is settled.
  settle_ok : (q p : ℕ) (h : List ℕ) {s : List ℕ} {c n : ℕ} → p ≡ suc (q + length h) → Alphanumerics h → next_passes alphanumeric (h ++ s) ≡ true
      → longest names (h ++ s) ≡ longest names h → Looks s c n
      → Ok names context p s n (whole q (code "&" ∷ h ++ s)) (settle context q (longest names h) h p c (take n s))
  unfolding settle
  settle_ok q p h {s} {c} {n} v al first found look = go (eqb (longest names h).len 0) refl
    where
      go : (t : Bool) → eqb (longest names h).len 0 ≡ t → Ok names context p s n (whole q (code "&" ∷ h ++ s))
          (if t then step_after (text_only (code "&" ∷ h)) (step_bogus q p c (take n s))
          else step_after (finish_named context q (longest names h) h (take n s)) (step_data p c (take n s)))
      go true e =
          before (text_only (code "&" ∷ h))
          (none_read names context q h s al first (ap (λ (f : Found). f.len) found ∙ eqb-true (longest names h).len 0 e)
          ∙ ap (λ (n : ℕ). text_only (code "&" ∷ h) ⊕ bogus_mean names context q n s) (sym v))
          (bogus_ok q p look)
      go false e =
          before (finish_named context q (longest names h) h (take n s))
          (found_read names context q h s (take n s) (longest names h) (plain-held h al) (no_hash (h ++ s) first) found (longest-fits names h).0
          (named-near context (longest names h) h s (take n s) e (longest-fits names h).0 (sym (looks_take (λ c. eqb c
          (code "=") || alphanumeric c) look)))
          ∙ at_place (finish_named context q (longest names h) h (take n s)) s (sym v))
          (data_ok p look)

  -- In a name.
  named_ok : (q p : ℕ) (h : List ℕ) {s : List ℕ} {c n : ℕ} → Tidy names → p ≡ suc (q + length h) → Alphanumerics h
      → next_passes alphanumeric (h ++ s) ≡ true → Looks s c n
      → Ok names context p s n (whole q (code "&" ∷ h ++ s)) (step_named names context q h p c (take n s))
  unfolding step_named
  named_ok q p h {s} {c} {n} tidy v al first look = go (begins names (h ++ take n s)) refl
    where
      go : (t : Bool) → begins names (h ++ take n s) ≡ t → Ok names context p s n (whole q (code "&" ∷ h ++ s))
          (if t then
          (if eqb c (code ";") then to (finish_named context q (longest names (h ++ take n s)) (h ++ take n s) []) Data
          else to nothing (Named q (h ++ take n s)))
          else settle context q (longest names h) h p c (take n s))
      go true e = goes_ok q p h tidy v al first e look
      go false e = settle_ok q p h v al first (settles h tidy al e look) look

  -- After `&`.
  begin_ok : (q p : ℕ) {s : List ℕ} {c n : ℕ} → Tidy names → p ≡ suc q → Looks s c n
      → Ok names context p s n (whole q (code "&" ∷ s)) (step names context (Begin q) p c (take n s))
  unfolding step Mean Valid
  begin_ok q p {s} {c} {n} tidy v look = go (eqb c (code "#")) (alphanumeric c) refl refl
    where
      go : (t u : Bool) → eqb c (code "#") ≡ t → alphanumeric c ≡ u → Ok names context p s n (whole q (code "&" ∷ s))
          (if t then to nothing (Octothorpe q)
          else if u then step_named names context q [] p c (take n s)
          else step_after (text_only (code "&" ∷ [])) (step_data p c (take n s)))
      go true u e f =
          looks_own (is (code "#")) (equal_ascii (code "#") (omega arith))
          (λ s n. Ok names context p s n (whole q (code "&" ∷ s)) (to nothing (Octothorpe q))) look e
          (λ t. record { same = ap (λ (x : ℕ). whole q (code "&" ∷ x ∷ t)) (eqb-true c (code "#") e); valid = omega arith })
      go false true e f = named_ok q p [] tidy (omega arith) tt (looks_next alphanumeric alphanumeric-ascii look ∙ f) look
      go false false e f =
          before (text_only (code "&" ∷ []))
          (ampersand_read names context q s tidy (next-same (code "#") (omega arith) look ∙ e)
          (looks_next alphanumeric alphanumeric-ascii look ∙ f)
          ∙ at_place (text_only (code "&" ∷ [])) s (sym v))
          (data_ok p look)

  -- Each step gives what its state says of the character, and its next state says the rest.
  pub step_ok : (st : St) (p : ℕ) {s : List ℕ} {c n : ℕ} → Tidy names → Valid p st → Looks s c n
      → Ok names context p s n (Mean names context st p s) (step names context st p c (take n s))
  unfolding step Mean Valid
  step_ok Data p tidy v look = data_ok p look
  step_ok AfterCr p tidy v look = cr_ok p look
  step_ok (Begin q) p tidy v look = begin_ok q p tidy v look
  step_ok (Octothorpe q) p tidy v look = octothorpe_ok q p v look
  step_ok (HexBegin q letter) p tidy v look = hexadecimal_ok q letter p v.0 v.1 look
  step_ok (Numeric q intro base value) p tidy v look = number_ok q intro base value p v look
  step_ok (Named q h) p {s} tidy v look = named_ok q p h tidy v.0 v.1 (next-held h s v.1 v.2) look
  step_ok (BogusName q) p tidy v look = bogus_ok q p look
