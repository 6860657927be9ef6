-- Laws of a name's beginning that is held, and of a character that may go on with it.
use Prim.Native.Nat.{ℕ, ◌-◌, ◌≤◌, ◌<◌}
use Prim.Native.Char.{code}
use mathlib.Core.Path.{◌≡◌, refl, sym, ◌∙◌, ap}
use mathlib.Core.List.{List, [], ◌∷◌, ◌++◌}
use mathlib.Core.Logic.{◌⊎◌, inl, inr, ⊎_elim}
use mathlib.Core.Bool.{Bool, true, false, not}
use native.Mathlib.Omega.{arith}
use lib.Dec.{ltb, leb, eqb}
use lib.ListN.{length, drop, length-append, drop_of_length-le}
use lib.Seq.{drop-append_seam}
use borrow.Author.Tests.{lt-ltb, le-ltb, ltb-true, leb-true, eq-eqb, eqb-true}
use Rattle.lists.specs.Notation.{next_passes}
use Rattle.lists.proofs.Choice.{if_both, no_way, test?, below?, and_true}
use Rattle.lists.proofs.Every.{All, every-all, all_member}
use Rattle.standard.specs.Utf8.{octets, written, encode, scalar}
use Rattle.standard.specs.Classes.{alphanumeric}
use Rattle.standard.specs.Names.{Name, stands, begins}
use Rattle.standard.specs.NameList.{builtin}
use Rattle.standard.proofs.Computing.{computing}
use Rattle.standard.proofs.Narrow.{stands-fits}
use Rattle.decoder.specs.Held.{closed_name, held_name}
use Rattle.decoder.specs.Turns.{ascii_of}
use Rattle.decoder.proofs.Looks.{AsciiOnly, alphanumeric-ascii, equal_ascii, own_byte}
use Rattle.decoder.proofs.Tidy.{tidy_rest, builtin_tidy, Alphanumerics, begins-some, tidy_name, goes_on, closed-length}

-- Letters and digits; or those and then `;`.
abbrev Sides : List ℕ → Type 0
Sides h = Alphanumerics h ⊎ ((g : List ℕ) × Alphanumerics g × (h ≡ g ++ code ";" ∷ []))

-- A beginning of a tidy word is letters and digits, or the word with its `;`.
open_word : (word h : List ℕ) → tidy_rest word ≡ true → stands h word ≡ true → Sides h
unfolding stands tidy_rest
open_word word [] t e = inl tt
open_word [] (x ∷ h) t e = no_way (sym e)
open_word (a ∷ word) (x ∷ h) t e =
    let w = and_true (eqb x a) (stands h word) e in go (alphanumeric a) refl (eqb-true x a w.0) w.1 (open_word word h)
  where
    go : (u : Bool) → alphanumeric a ≡ u → x ≡ a → stands h word ≡ true → (tidy_rest word ≡ true → stands h word ≡ true → Sides h) → Sides (x ∷ h)
    go true f same i later =
        let al = ap alphanumeric same ∙ f in
        ⊎_elim (λ all. inl (al, all)) (λ w. inr (x ∷ w.0, (al, w.1), ap (λ (l : List ℕ). x ∷ l) w.2)) (later (rw f at t) i)
    go false f same i later =
        let w = and_true (eqb a (code ";")) (eqb (length word) 0) (rw f at t) in
        let none = eqb-true (length word) 0 w.1 in
        let end : h ≡ [] = drop_of_length-le h {i = 0} (omega (arith, stands-fits h word i, none)) in
        inr ([], tt, λ j. (same ∙ eqb-true a (code ";") w.0) j ∷ end j)

-- The last element of a list.
pub last_is : (g : List ℕ) (b : ℕ) → drop (length (g ++ b ∷ []) - 1) (g ++ b ∷ []) ≡ b ∷ []
last_is g b =
    let size : length (g ++ b ∷ []) - 1 ≡ length g = omega (arith, length-append g (b ∷ [])) in
    ap (λ (n : ℕ). drop n (g ++ b ∷ [])) size ∙ drop-append_seam g (b ∷ [])

-- A name that its `;` closes is a closed name.
closed_is : (g : List ℕ) → Alphanumerics g → begins builtin (g ++ code ";" ∷ []) ≡ true → closed_name builtin (g ++ code ";" ∷ []) ≡ true
closed_is g al e = rw (eq-eqb _ _ (closed-length builtin g builtin_tidy al e), last_is g (code ";"))

-- What is held of a name begins one.
pub held-begins : (h : List ℕ) → held_name builtin h ≡ true → begins builtin h ≡ true
held-begins h e = (and_true (begins builtin h) (not (closed_name builtin h)) e).0

-- What is held of a name is letters and digits.
pub held-alphanumeric : (h : List ℕ) → held_name builtin h ≡ true → Alphanumerics h
held-alphanumeric h e =
    let n = begins-some builtin h (held-begins h e) in
    ⊎_elim (λ al. al)
    (λ w. no_way (sym (and_true (begins builtin h) (not (closed_name builtin h)) e).1 ∙ ap (λ (l : List ℕ). not (closed_name builtin l)) w.2
    ∙ ap not (closed_is w.0 w.1 (sym (ap (begins builtin) w.2) ∙ held-begins h e))))
    (open_word n.0.word h (tidy_name builtin builtin_tidy n.1).1 n.2)

-- No built-in name is longer than `centerdot;`.
names-short : All (λ (n : Name). length n.word ≤ 10) builtin
unfolding computing
names-short =
    every-all (λ (n : Name). length n.word ≤ 10) (λ n. leb (length n.word) 10) (λ n e. leb-true (length n.word) 10 e) builtin refl

-- So what begins one is short.
pub begins-short : (h : List ℕ) → begins builtin h ≡ true → length h ≤ 10
begins-short h e =
    let n = begins-some builtin h e in
    omega (arith, stands-fits h n.0.word n.2, all_member (λ (n : Name). length n.word ≤ 10) builtin names-short n.1)

-- Bytes that begin with none of ASCII.
data Wide : List ℕ → Type 0 where
  wide : {b : ℕ} {t : List ℕ} → 0x80 ≤ b → Wide (b ∷ t)

-- A character past ASCII has such bytes.
wide-bytes : (c : ℕ) → 0x80 ≤ c → Wide (encode c)
unfolding encode octets
wide-bytes c h =
    if_both Wide (ltb (written c) 0x80) _ _ (λ e. absurd (omega (arith, ltb-true (written c) 0x80 e, high)))
    (λ _. if_both Wide (ltb (written c) 0x800) _ _ (λ _. wide (omega arith))
    (λ _. if_both Wide (ltb (written c) 0x10000) _ _ (λ _. wide (omega arith)) (λ _. wide (omega arith))))
  where
    high : 0x80 ≤ written c
    high = if_both (λ (n : ℕ). 0x80 ≤ n) (scalar c) c 0xFFFD (λ _. h) (λ _. omega arith)

-- The byte of a character of ASCII.
ascii-byte : (c : ℕ) → c < 0x80 → encode c ≡ ascii_of c ∷ []
unfolding ascii_of
ascii-byte c h = own_byte c h ∙ rw (lt-ltb c 0x80 h)

-- The byte of another.
wide-byte : (c : ℕ) → 0x80 ≤ c → ascii_of c ≡ 0x80
unfolding ascii_of
wide-byte c h = rw (le-ltb c 0x80 h)

-- They pass no test of ASCII.
wide-next : (p : ℕ → Bool) → AsciiOnly p → {s : List ℕ} → Wide s → next_passes p s ≡ false
wide-next p only (wide {b} h) = only b h

-- The first byte of a character passes the test of ASCII that its byte passes.
pub next-ascii : (p : ℕ → Bool) → AsciiOnly p → (c : ℕ) → next_passes p (encode c) ≡ next_passes p (ascii_of c ∷ [])
next-ascii p only c =
    ⊎_elim (λ h. ap (next_passes p) (ascii-byte c h))
    (λ h. wide-next p only (wide-bytes c h) ∙ sym (ap p (wide-byte c h) ∙ only 0x80 (omega arith))) (below? c 0x80)

-- No name goes on with them.
wide-ends : (h : List ℕ) {s : List ℕ} → Alphanumerics h → Wide s → begins builtin (h ++ s) ≡ false
wide-ends h al (wide {b} {t} k) =
    ⊎_elim (λ e. no_way (sym (goes_on builtin h b t builtin_tidy al e (equal_ascii (code ";") (omega arith) b k)) ∙ alphanumeric-ascii b k))
    (λ e. e) (test? (begins builtin (h ++ b ∷ t)))

module _ (h : List ℕ) (c : ℕ) (al : Alphanumerics h) where
  -- Nor with the byte of such a character.
  wide_byte_ends : 0x80 ≤ c → begins builtin (h ++ ascii_of c ∷ []) ≡ false
  wide_byte_ends k = ap (λ (b : ℕ). begins builtin (h ++ b ∷ [])) (wide-byte c k) ∙ wide-ends h al (wide (omega arith))

  -- A name goes on with a character where it goes on with its byte.
  pub begins_ascii : begins builtin (h ++ encode c) ≡ begins builtin (h ++ ascii_of c ∷ [])
  begins_ascii =
      ⊎_elim (λ k. ap (λ (l : List ℕ). begins builtin (h ++ l)) (ascii-byte c k))
      (λ k. wide-ends h al (wide-bytes c k) ∙ sym (wide_byte_ends k)) (below? c 0x80)

  -- And that is then the character.
  pub begins_own : begins builtin (h ++ ascii_of c ∷ []) ≡ true → encode c ≡ ascii_of c ∷ []
  begins_own e = ⊎_elim (ascii-byte c) (λ k. no_way (sym e ∙ wide_byte_ends k)) (below? c 0x80)
