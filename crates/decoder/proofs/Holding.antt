-- What is read of an `&`, of what is held after it and of the bytes to come, where those end what is held and where they go on with it.
use Rattle.std.specs.Prelude.{if◌then◌else◌}
use Prim.Native.Nat.{ℕ, suc, ◌+◌, ◌-◌, ◌*◌, ◌≤◌}
use Prim.Native.Char.{code}
use mathlib.Core.Path.{◌≡◌, refl, sym, ◌∙◌, ap, ap₂}
use mathlib.Core.List.{List, [], ◌∷◌, ◌++◌}
use mathlib.Core.Bool.{Bool, true, false, ◌||◌}
use native.Mathlib.Omega.{arith}
use lib.ListN.{length, get_or, drop, length-append, get_or-append}
use lib.Seq.{get_or-append_seam}
use borrow.Author.Tests.{ne_eqb, eq-eqb}
use Rattle.lists.specs.Notation.{next, next_passes, front}
use Rattle.lists.proofs.Every.{All}
use Rattle.standard.specs.declared.Context.{Context}
use Rattle.standard.specs.declared.names.Found.{Found}
use Rattle.standard.specs.Errors.{no_error, error, placed, absence_of_digits_in_numeric_character_reference, unknown_named_character_reference}
use Rattle.standard.specs.Classes.{alphanumeric}
use Rattle.standard.specs.Numbers.{digit_of, is_digit, number_from, Meaning}
use Rattle.standard.specs.Names.{Name, longest, begins}
use Rattle.standard.specs.Pieces.{
  piece,
  ampersand,
  numbered,
  digits_then,
  digits_at,
  numeric,
  char_ref_text,
  unknown_name,
  named_by,
  reference,
  piece_at,
}
use Rattle.standard.specs.Reading.{Reading, reading, reading_at, ◌⊕◌}
use Rattle.standard.proofs.Ascii.{Plain}
use Rattle.standard.proofs.Stopped.{meaning_from}
use Rattle.decoder.specs.Machine.{text_only, no_digits, add_digit, finish_numeric, finish_named}
use Rattle.decoder.proofs.Looks.{is_x, reference-plain}
use Rattle.decoder.proofs.Tidy.{Tidy, Alphanumerics, none_found, closed-longest, closed-length}
use Rattle.decoder.proofs.Unfolding.{all_append, read_from, read_plains, read_held}
use Rattle.decoder.proofs.Means.{
  one_if,
  unknown_rest,
  unknown,
  front_empty,
  plain-held,
  unknown-held,
  no_hash,
  named-size,
  num_mean_by,
  num_mean,
  bogus_mean,
}

module _ (names : List Name) (context : Context) where
  -- What is read of a source from a place on.
  abbrev whole : ℕ → List ℕ → Reading
  whole = read_from names context

  -- A number goes on with a digit.
  pub number_more : (q base value p c : ℕ) (t : List ℕ) → is_digit base c ≡ true
      → num_mean names context q base value p (c ∷ t) ≡ num_mean names context q base (add_digit base value c) (p + 1) t
  unfolding num_mean front number_from
  number_more q base value p c t e =
      rw e
      (ap (λ (m : Meaning). reading_at q (numbered 0 m closed)
      ⊕ whole (p + (suc (length ds) + one_if closed)) (drop (suc (length ds) + one_if closed) (c ∷ t)))
      (sym (meaning_from base (value * base + digit_of c) ds))
      ∙ ap₂ (λ (at : ℕ) (l : List ℕ). finish_numeric q (number_from base (add_digit base value c) ds) closed ⊕ whole at l)
      (let i : p + (suc (length ds) + one_if closed) ≡ p + 1 + (length ds + one_if closed) = omega arith in i)
      (ap (λ (k : ℕ). drop k (c ∷ t)) (let i : suc (length ds) + one_if closed ≡ suc (length ds + one_if closed) = omega arith in i)))
    where
      ds : List ℕ
      ds = front (is_digit base) t

      closed : Bool
      closed = next (code ";") (drop (length ds) t)

  -- A number ends where no digit is next.
  pub number_end : (q base value p : ℕ) (s : List ℕ) → next_passes (is_digit base) s ≡ false
      → num_mean names context q base value p s ≡ num_mean_by names context q value p 0 (next (code ";") s) s
  unfolding num_mean number_from
  number_end q base value p s e = rw (front_empty (is_digit base) s e)

  -- An unknown name goes on with a letter or digit.
  pub bogus_more : (q p c : ℕ) (t : List ℕ) → alphanumeric c ≡ true
      → bogus_mean names context q p (c ∷ t) ≡ text_only (c ∷ []) ⊕ bogus_mean names context q (p + 1) t
  unfolding bogus_mean unknown_rest front
  bogus_more q p c t e =
      rw e (ap (λ (r : Reading). unknown q (unknown_rest t) ⊕ r) (read_plains names context p (c ∷ []) t (reference-plain c (rw e), tt)))

  -- It is closed by `;`.
  pub bogus_closed : (q p : ℕ) (t : List ℕ)
      → bogus_mean names context q p (code ";" ∷ t) ≡ reading (code ";" ∷ []) (error unknown_named_character_reference q ∷ []) ⊕ whole (p + 1) t
  unfolding bogus_mean unknown_rest front placed
  bogus_closed q p t =
      ap (λ (r : Reading). unknown q true ⊕ r) (read_plains names context p (code ";" ∷ []) t (reference-plain (code ";") refl, tt))

  -- It ends where neither is next.
  pub bogus_end : (q p : ℕ) (s : List ℕ) → next_passes alphanumeric s ≡ false → next (code ";") s ≡ false → bogus_mean names context q p s ≡ whole p s
  unfolding bogus_mean unknown_rest placed
  bogus_end q p s e f = rw (front_empty alphanumeric s e) (rw f)

  -- Without a digit `&#` and `&#x` stand for themselves.
  pub no_digits_read : (q : ℕ) (h s : List ℕ) → All Plain h
      → piece_at names context (code "&" ∷ h ++ s) ≡ ampersand absence_of_digits_in_numeric_character_reference
      → whole q (code "&" ∷ h ++ s) ≡ no_digits q (code "&" ∷ h) ⊕ whole (suc (q + length h)) s
  unfolding placed
  no_digits_read q h s all e =
      read_held names context q h s (ampersand absence_of_digits_in_numeric_character_reference) all e (omega arith) (omega arith)

  -- After `&#` no digit is next, and no `x`.
  pub decimal_none : (s : List ℕ) → (next (code "x") s || next (code "X") s) ≡ false → next_passes (is_digit 10) s ≡ false
      → piece_at names context (code "&" ∷ code "#" ∷ s) ≡ ampersand absence_of_digits_in_numeric_character_reference
  unfolding piece_at reference numeric digits_at digits_then
  decimal_none s e f = rw (e, front_empty (is_digit 10) s f)

  -- After `&#x` no digit is next.
  pub hexadecimal_none : (letter : ℕ) (s : List ℕ) → is_x letter ≡ true → next_passes (is_digit 16) s ≡ false
      → piece_at names context (code "&" ∷ code "#" ∷ letter ∷ s) ≡ ampersand absence_of_digits_in_numeric_character_reference
  unfolding piece_at reference numeric digits_at digits_then
  hexadecimal_none letter s e f = rw (e, front_empty (is_digit 16) s f)

  -- After `&#` digits may be next, with no `x` before them.
  pub decimal_some : (c : ℕ) (t : List ℕ) → is_x c ≡ false
      → piece_at names context (code "&" ∷ code "#" ∷ c ∷ t) ≡ digits_at 10 2 (c ∷ t)
  unfolding piece_at reference numeric
  decimal_some c t e = rw e

  -- After `&#x` hexadecimal digits may be next.
  pub hexadecimal_some : (letter : ℕ) (t : List ℕ) → is_x letter ≡ true
      → piece_at names context (code "&" ∷ code "#" ∷ letter ∷ t) ≡ digits_at 16 3 t
  unfolding piece_at reference numeric
  hexadecimal_some letter t e = rw e

  -- The piece of an `&` that is followed by no `#` is by the longest name.
  by_name : (s : List ℕ) → next (code "#") s ≡ false → piece_at names context (code "&" ∷ s) ≡ named_by context (longest names s) s
  unfolding piece_at reference
  by_name s e = rw e

  -- Where no name is found the `&` is a piece alone.
  pub by_none : (found : Found) (s : List ℕ) → found.len ≡ 0
      → named_by context found s ≡ ampersand (if unknown_name s then unknown_named_character_reference else no_error)
  unfolding named_by
  by_none found s e = rw (eq-eqb found.len 0 e)

  -- An `&` that no letter, digit or `#` follows stands for itself.
  pub ampersand_read : (q : ℕ) (s : List ℕ) → Tidy names → next (code "#") s ≡ false → next_passes alphanumeric s ≡ false
      → whole q (code "&" ∷ s) ≡ text_only (code "&" ∷ []) ⊕ whole (suc q) s
  unfolding unknown_name placed
  ampersand_read q s tidy e f =
      read_held names context q [] s (ampersand no_error) tt
      (by_name s e ∙ by_none (longest names s) s (none_found names s tidy f) ∙ rw f) (omega arith) (omega arith)
      ∙ ap (λ (n : ℕ). text_only (code "&" ∷ []) ⊕ whole n s) (let i : suc (q + 0) ≡ suc q = omega arith in i)

  -- Letters and digits in which no name is found stand for themselves, and their error waits.
  pub none_read : (q : ℕ) (h s : List ℕ) → Alphanumerics h → next_passes alphanumeric (h ++ s) ≡ true → (longest names (h ++ s)).len ≡ 0
      → whole q (code "&" ∷ h ++ s) ≡ text_only (code "&" ∷ h) ⊕ bogus_mean names context q (suc (q + length h)) s
  unfolding bogus_mean placed
  none_read q h s al e f =
      read_held names context q h s (ampersand (if unknown_rest s then unknown_named_character_reference else no_error)) (plain-held h al)
      (by_name (h ++ s) (no_hash (h ++ s) e) ∙ by_none (longest names (h ++ s)) (h ++ s) f
      ∙ ap (λ (t : Bool). ampersand (if t then unknown_named_character_reference else no_error)) (unknown-held h s al e))
      (omega arith) (omega arith)
      ∙ go (unknown_rest s)
    where
      go : (t : Bool)
          → (reading_at q (ampersand (if t then unknown_named_character_reference else no_error)) ⊕ text_only h) ⊕ whole (suc (q + length h)) s
          ≡ text_only (code "&" ∷ h) ⊕ (unknown q t ⊕ whole (suc (q + length h)) s)
      go true = refl
      go false = refl

  -- A name that is found in what is held is read with only the first byte of what is next.
  pub found_read : (q : ℕ) (h s own : List ℕ) (found : Found) → All Plain h → next (code "#") (h ++ s) ≡ false → longest names (h ++ s) ≡ found
      → found.len ≤ length h → named_by context found (h ++ s) ≡ named_by context found (h ++ own)
      → whole q (code "&" ∷ h ++ s) ≡ finish_named context q found h own ⊕ whole (suc (q + length h)) s
  unfolding finish_named
  found_read q h s own found all e is fits near =
      let w = named-size context found (h ++ own) in
      read_held names context q h s (named_by context found (h ++ own)) all
      (by_name (h ++ s) e ∙ ap (λ (f : Found). named_by context f (h ++ s)) is ∙ near) w.0 (omega arith)

  -- What a closed name makes of its bytes is its characters without an error.
  pub by_closed : (found : Found) (h t : List ℕ) → found.len ≡ length (h ++ code ";" ∷ [])
      → named_by context found ((h ++ code ";" ∷ []) ++ t) ≡ piece (suc found.len) (char_ref_text found.reference) []
  unfolding named_by
  by_closed found h t e = rw (ne_eqb found.len 0 (omega (arith, long)), last)
    where
      long : found.len ≡ length h + 1
      long = e ∙ length-append h (code ";" ∷ [])

      last : get_or ((h ++ code ";" ∷ []) ++ t) (found.len - 1) 0 ≡ code ";"
      last =
          get_or-append (h ++ code ";" ∷ []) t 0 (found.len - 1) (omega (arith, e, long))
          ∙ ap (λ (n : ℕ). get_or (h ++ code ";" ∷ []) n 0) (let i : found.len - 1 ≡ length h = omega (arith, long) in i)
          ∙ get_or-append_seam h (code ";") [] 0

  -- A name is read where its `;` comes.
  pub closed_read : (q : ℕ) (h t : List ℕ) → Tidy names → Alphanumerics h → begins names (h ++ code ";" ∷ []) ≡ true
      → let k = h ++ code ";" ∷ [] in next_passes alphanumeric (k ++ t) ≡ true
      → whole q (code "&" ∷ k ++ t) ≡ finish_named context q (longest names k) k [] ⊕ whole (suc (q + length k)) t
  closed_read q h t tidy al e first =
      let k = h ++ code ";" ∷ [] in
      let f = longest names k in
      let long = closed-length names h tidy al e in
      found_read q k t [] f
      (all_append Plain h (code ";" ∷ []) (plain-held h al) (reference-plain (code ";") refl, tt)) (no_hash (k ++ t) first)
      (closed-longest names h t tidy al) (omega arith) (by_closed f h t long ∙ sym (by_closed f h [] long))
