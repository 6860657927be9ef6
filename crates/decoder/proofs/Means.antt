-- What each state of the machine says of the bytes still to come, and what holds of it.
use Rattle.std.specs.Prelude.{if◌then◌else◌}
use Prim.Native.Nat.{ℕ, suc, ◌+◌, ◌-◌, ◌*◌, ◌≤◌, ◌<◌}
use Prim.Native.Char.{code}
use mathlib.Core.Path.{◌≡◌, refl, sym, ◌∙◌, ap, ap₂}
use mathlib.Core.List.{List, [], ◌∷◌, ◌++◌}
use mathlib.Core.Bool.{Bool, true, false, ◌||◌, ◌&&◌}
use native.Mathlib.Omega.{arith}
use lib.Dec.{eqb}
use lib.ListN.{length, get_or, drop, get_or-append}
use lib.Seq.{drop-append-le, drop-drop}
use Rattle.lists.specs.Notation.{next, next_passes, front}
use Rattle.lists.proofs.Choice.{facts, if_both}
use Rattle.lists.proofs.Every.{All}
use Rattle.standard.specs.declared.Context.{Context}
use Rattle.standard.specs.declared.names.Found.{Found}
use Rattle.standard.specs.Errors.{no_error, listed, placed, unknown_named_character_reference}
use Rattle.standard.specs.Contexts.{in_attribute}
use Rattle.standard.specs.Classes.{alphanumeric}
use Rattle.standard.specs.Numbers.{digit_of, is_digit, number_from, meaning_of}
use Rattle.standard.specs.Names.{Name}
use Rattle.standard.specs.Pieces.{Piece, piece, numbered, digits_then, digits_at, unknown_name, named_by, piece_at}
use Rattle.standard.specs.Reading.{Reading, reading, reading_at, ◌⊕◌}
use Rattle.decoder.specs.Machine.{St, Data, AfterCr, Begin, Octothorpe, HexBegin, Numeric, Named, BogusName, text_only, finish_numeric}
use Rattle.standard.proofs.Ascii.{Plain}
use Rattle.decoder.proofs.Looks.{is_x, reference-plain}
use Rattle.decoder.proofs.Tidy.{Alphanumerics, apart}
use Rattle.decoder.proofs.Unfolding.{read_from, read_piece}

-- One byte if the test holds, none else.
abbrev pub one_if : Bool → ℕ
one_if t = if t then 1 else 0

-- Letters and digits, none or more, and then `;`.
unfoldable pub unknown_rest : List ℕ → Bool
unknown_rest s = next (code ";") (drop (length (front alphanumeric s)) s)

-- The error of an unknown name whose `&` is at q.
abbrev pub unknown : ℕ → Bool → Reading
unknown q t = reading [] (placed q (listed (if t then unknown_named_character_reference else no_error)))

-- What holds of a state at place p.
unfoldable pub Valid : ℕ → St → Type 0
Valid p Data = Unit {0}
Valid p AfterCr = Unit {0}
Valid p (Begin q) = p ≡ suc q
Valid p (Octothorpe q) = p ≡ suc (suc q)
Valid p (HexBegin q letter) = (p ≡ suc (suc (suc q))) × (is_x letter ≡ true)
Valid p (Numeric q intro base value) = base ≤ 16
Valid p (Named q held) = (p ≡ suc (q + length held)) × Alphanumerics held × (0 < length held)
Valid p (BogusName q) = Unit {0}

-- Where none is next the front is empty.
pub front_empty : (p : ℕ → Bool) (s : List ℕ) → next_passes p s ≡ false → front p s ≡ []
unfolding front
front_empty p [] e = refl
front_empty p (c ∷ s) e = rw e

-- Letters and digits stand for themselves.
pub plain-held : (h : List ℕ) → Alphanumerics h → All Plain h
plain-held [] al = tt
plain-held (c ∷ h) al = (reference-plain c (rw al.0), plain-held h al.1)

-- Letters and digits that are held are passed over.
rest_held : (h s : List ℕ) → Alphanumerics h → unknown_rest (h ++ s) ≡ unknown_rest s
unfolding unknown_rest front
rest_held [] s al = refl
rest_held (c ∷ h) s al = rw al.0 (rest_held h s al.1)

-- Whether a name that is held is unknown is for what comes after it to say.
pub unknown-held : (h s : List ℕ) → Alphanumerics h → next_passes alphanumeric (h ++ s) ≡ true → unknown_name (h ++ s) ≡ unknown_rest s
unfolding unknown_name unknown_rest
unknown-held h s al e = rw e (rest_held h s al)

-- What begins with a letter or digit does not begin with `#`.
pub no_hash : (s : List ℕ) → next_passes alphanumeric s ≡ true → next (code "#") s ≡ false
no_hash [] e = refl
no_hash (c ∷ s) e = apart alphanumeric c (code "#") e refl

-- What a name makes of its bytes is at least the `&`, and not more than it with the name.
pub named-size : (context : Context) (found : Found) (s : List ℕ) → let x = named_by context found s in (1 ≤ x.size) × (x.size ≤ suc found.len)
unfolding named_by
named-size context found s =
    if_both Size (eqb found.len 0) _ _ (λ t. omega arith)
    (λ f. if_both Size (eqb (get_or s (found.len - 1) 0) (code ";")) _ _ (λ t. omega arith)
    (λ f. if_both Size (in_attribute context && next_passes (λ c. eqb c (code "=") || alphanumeric c) (drop found.len s)) _ _ (λ t. omega arith)
    (λ f. omega arith)))
  where
    Size : Piece → Type 0
    Size x = (1 ≤ x.size) × (x.size ≤ suc found.len)

-- Of what is next after what is held, only what the first byte is matters to a name.
pub named-near : (context : Context) (found : Found) (h s t : List ℕ) → eqb found.len 0 ≡ false → found.len ≤ length h
    → next_passes (λ c. eqb c (code "=") || alphanumeric c) s ≡ next_passes (λ c. eqb c (code "=") || alphanumeric c) t
    → named_by context found (h ++ s) ≡ named_by context found (h ++ t)
unfolding named_by
named-near context found h s t e fits same =
    rw (e, last s, last t, drop-append-le found.len h s fits, drop-append-le found.len h t fits, near (drop found.len h))
  where
    last : (l : List ℕ) → get_or (h ++ l) (found.len - 1) 0 ≡ get_or h (found.len - 1) 0
    last l = get_or-append h l 0 (found.len - 1) (omega facts)

    near : (h : List ℕ) → next_passes (λ c. eqb c (code "=") || alphanumeric c) (h ++ s) ≡ next_passes (λ c. eqb c (code "=") || alphanumeric c)
        (h ++ t)
    near [] = same
    near (x ∷ h) = refl

module _ (names : List Name) (context : Context) where
  -- What is read of a source from a place on.
  abbrev whole : ℕ → List ℕ → Reading
  whole = read_from names context

  -- An LF after a CR is passed over.
  unfoldable pub cr_mean : ℕ → List ℕ → Reading
  cr_mean p s = let k : ℕ = one_if (next (code "\n") s) in whole (p + k) (drop k s)

  -- A number, n digits more of which stand there, and whether `;` is next after them.
  abbrev pub num_mean_by : (q value p n : ℕ) → Bool → List ℕ → Reading
  num_mean_by q value p n closed s = finish_numeric q value closed ⊕ whole (p + (n + one_if closed)) (drop (n + one_if closed) s)

  -- A number with the digits that stand there.
  unfoldable pub num_mean : (q base value p : ℕ) → List ℕ → Reading
  num_mean q base value p s =
      let ds : List ℕ = front (is_digit base) s in
      num_mean_by q (number_from base value ds) p (length ds) (next (code ";") (drop (length ds) s)) s

  -- The error of an unknown name, if it is one.
  unfoldable pub bogus_mean : (q p : ℕ) → List ℕ → Reading
  bogus_mean q p s = unknown q (unknown_rest s) ⊕ whole p s

  -- What is read from a state on, with s still to come at place p.
  unfoldable pub Mean : St → ℕ → List ℕ → Reading
  Mean Data p s = whole p s
  Mean AfterCr p s = cr_mean p s
  Mean (Begin q) p s = whole q (code "&" ∷ s)
  Mean (Octothorpe q) p s = whole q (code "&" ∷ code "#" ∷ s)
  Mean (HexBegin q letter) p s = whole q (code "&" ∷ code "#" ∷ letter ∷ s)
  Mean (Numeric q intro base value) p s = num_mean q base value p s
  Mean (Named q held) p s = whole q (code "&" ∷ held ++ s)
  Mean (BogusName q) p s = bogus_mean q p s

  -- A CR is read as an LF.
  pub cr_read : (p : ℕ) (s : List ℕ) → whole p (code "\r" ∷ s) ≡ text_only (code "\n" ∷ []) ⊕ cr_mean (p + 1) s
  unfolding piece_at cr_mean placed
  cr_read p s = read_piece names context p (code "\r" ∷ s) (line (next (code "\n") s)) (omega arith) refl ∙ go (next (code "\n") s)
    where
      line : Bool → Piece
      line t = piece (if t then 2 else 1) (code "\n" ∷ []) []

      go : (t : Bool) → reading_at p (line t) ⊕ whole (p + (line t).size) (drop (line t).size (code "\r" ∷ s))
          ≡ text_only (code "\n" ∷ []) ⊕ whole (p + 1 + one_if t) (drop (one_if t) s)
      go true = ap (λ (n : ℕ). text_only (code "\n" ∷ []) ⊕ whole n (drop 1 s)) (let e : p + 2 ≡ p + 1 + 1 = omega arith in e)
      go false = ap (λ (n : ℕ). text_only (code "\n" ∷ []) ⊕ whole n s) (let e : p + 1 ≡ p + 1 + 0 = omega arith in e)

  -- No LF is passed over where none is next.
  pub cr_none : (p : ℕ) (s : List ℕ) → next (code "\n") s ≡ false → cr_mean p s ≡ whole p s
  unfolding cr_mean
  cr_none p s e = rw e (ap (λ (n : ℕ). whole n s) (let i : p + 0 ≡ p = omega arith in i))

  -- The first digit after `&#` or `&#x`, which are intro bytes.
  pub digits_read : (q base intro c : ℕ) (l t : List ℕ) → piece_at names context (code "&" ∷ l) ≡ digits_at base intro (c ∷ t)
      → drop intro (code "&" ∷ l) ≡ c ∷ t → is_digit base c ≡ true
      → whole q (code "&" ∷ l) ≡ num_mean q base (digit_of c) (suc (q + intro)) t
  unfolding digits_at digits_then num_mean front number_from
  digits_read q base intro c l t is there e =
      read_piece names context q (code "&" ∷ l) (number_piece (next (code ";") (drop n t))) (omega arith)
      (is ∙ rw e (ap (λ (v : ℕ). numbered (intro + suc n) (meaning_of (number_from base v ds)) (next (code ";") (drop n t)))
      (let i : 0 * base + digit_of c ≡ digit_of c = omega arith in i)))
      ∙ go (next (code ";") (drop n t))
    where
      ds : List ℕ
      ds = front (is_digit base) t

      n : ℕ
      n = length ds

      number_piece : Bool → Piece
      number_piece u = numbered (intro + suc n) (meaning_of (number_from base (digit_of c) ds)) u

      size : (u : Bool) → (number_piece u).size ≡ intro + suc (n + one_if u)
      size true = omega arith
      size false = omega arith

      rest : (u : Bool) → whole (q + (number_piece u).size) (drop (number_piece u).size (code "&" ∷ l))
          ≡ whole (suc (q + intro) + (n + one_if u)) (drop (n + one_if u) t)
      rest u =
          ap₂ whole (omega (arith, size u))
          (ap (λ (m : ℕ). drop m (code "&" ∷ l)) (size u) ∙ sym (drop-drop (suc (n + one_if u)) intro (code "&" ∷ l))
          ∙ ap (drop (suc (n + one_if u))) there)

      go : (u : Bool) → reading_at q (number_piece u) ⊕ whole (q + (number_piece u).size) (drop (number_piece u).size (code "&" ∷ l))
          ≡ num_mean_by q (number_from base (digit_of c) ds) (suc (q + intro)) n u t
      go true = ap (λ (r : Reading). reading_at q (number_piece true) ⊕ r) (rest true)
      go false = ap (λ (r : Reading). reading_at q (number_piece false) ⊕ r) (rest false)
