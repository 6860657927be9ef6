-- What a byte that is not quiet begins: the character that is read there, and what is written for it.
use Prim.Native.Nat.{ℕ, ◌+◌, ◌%◌, ◌≤◌, ◌<◌}
use Prim.Native.Char.{code}
use mathlib.Core.Path.{◌≡◌, refl, sym, ◌∙◌}
use mathlib.Core.List.{List, [], ◌∷◌}
use mathlib.Core.Bool.{true, false, and-false}
use mathlib.Core.Logic.{⊎_elim}
use native.Mathlib.Omega.{arith}
use lib.Dec.{eqb}
use lib.ListN.{get_or}
use borrow.Author.Tests.{ne_eqb, eqb-true, eqb-false}
use Rattle.lists.specs.Notation.{between}
use Rattle.lists.proofs.Choice.{if_both, no_way, between_true, test?}
use Rattle.standard.specs.declared.characters.CharRead.TheVariants.{Char}
use Rattle.standard.specs.Utf8.{tails, after_lead, read_char}
use Rattle.standard.proofs.Utf8.{is-char, if_char}
use Rattle.standard.proofs.Ascii.{read-ascii}
use Rattle.escaper.specs.declared.Mode.{Mode}
use Rattle.escaper.specs.declared.Mode.TheVariants.{Text, Attribute}
use Rattle.escaper.specs.declared.specials.Special.{Special}
use Rattle.escaper.specs.declared.specials.Special.TheVariants.{Quot}
use Rattle.escaper.specs.Escape.{written_for}
use Rattle.runs.specs.Kinds.{quiet}
use Rattle.escaper.specs.Walk.{quote_of, special_of, source_length, text_of}

-- A character c of n bytes is what x says: it has as many bytes, and the same is written for it.
abbrev Begun : Mode → (c n : ℕ) → Special → Type 0
Begun mode c n x = (n ≡ source_length x) × ((own : List ℕ) → written_for mode c own ≡ text_of x own)

-- An ASCII byte is a character of its own.
read_one : (v b : ℕ) (s : List ℕ) (c n : ℕ) → v < 0x80 → eqb b v ≡ true → read_char (b ∷ s) ≡ Char c n → (c ≡ v) × (n ≡ 1)
read_one v b s c n h t e =
    let i = eqb-true b v t in
    let r = sym (read-ascii b s (omega arith)) ∙ e in
    let j : b ≡ c = cc in
    let k : 1 ≡ n = cc in
    (omega arith, omega arith)

-- C2 begins a character of two bytes.
read_two : (s : List ℕ) (c n : ℕ) → read_char (0xC2 ∷ s) ≡ Char c n
    → (n ≡ 2) × (c ≡ 0x80 + get_or s 0 0 % 64) × (0x80 ≤ get_or s 0 0) × (get_or s 0 0 ≤ 0xBF)
unfolding read_char after_lead tails
read_two [] c n e = absurd (is-char e)
read_two (x ∷ s) c n e =
    let w = if_char (between 0x80 0xBF x) _ 1 c n e in
    let k = between_true 0x80 0xBF x w.0 in
    let v = w.1 in
    let i : 128 + x % 64 ≡ c = cc in
    let j : 2 ≡ n = cc in
    (omega arith, omega arith, k.0, k.1)

-- A byte that is not quiet and none of the others is C2.
loud_is : (mode : Mode) (b : ℕ) → eqb b (code "&") ≡ false → eqb b (code "<") ≡ false → eqb b (code ">") ≡ false → eqb b (code "\"") ≡ false
    → quiet (quote_of mode) b ≡ false → b ≡ 0xC2
unfolding quiet
loud_is mode b amp lt gt quot q = ⊎_elim (eqb-true b 0xC2) (λ f. no_way (sym (rest mode f) ∙ q)) (test? (eqb b 0xC2))
  where
    rest : (mode : Mode) → eqb b 0xC2 ≡ false → quiet (quote_of mode) b ≡ true
    rest Text f = rw (amp, lt, gt, f) refl
    rest Attribute f = rw (amp, lt, gt, f, quot) refl

-- The quotation mark is not quiet only in an attribute.
quot_written : (mode : Mode) (own : List ℕ) → quiet (quote_of mode) (code "\"") ≡ false → written_for mode (code "\"") own ≡ text_of Quot own
unfolding quiet written_for
quot_written Text own q = no_way q
quot_written Attribute own q = refl

-- A character of two bytes after C2 that is not U+00A0 is written as it stands.
other-written : (mode : Mode) (c : ℕ) (own : List ℕ) → 0x80 ≤ c → (c ≡ 0xA0 → ⊥) → written_for mode c own ≡ own
unfolding written_for
other-written mode c own h differs =
    rw (ne_eqb c (code "&") (omega arith), ne_eqb c (code "<") (omega arith), ne_eqb c (code ">") (omega arith), ne_eqb c 0xA0 differs)
    (rw (ne_eqb c (code "\"") (omega arith), and-false) refl)

-- What a byte that is not quiet begins is what special_of says.
first-begins : (mode : Mode) (b : ℕ) (s : List ℕ) (c n : ℕ) → read_char (b ∷ s) ≡ Char c n → quiet (quote_of mode) b ≡ false
    → Begun mode c n (special_of b (get_or s 0 0))
unfolding special_of written_for
first-begins mode b s c n e q =
    if_both (Begun mode c n) (eqb b (code "&")) _ _ (λ t. let w = read_one (code "&") b s c n (omega arith) t e in (w.1, λ own. rw w.0))
    (λ amp. if_both (Begun mode c n) (eqb b (code "<")) _ _ (λ t. let w = read_one (code "<") b s c n (omega arith) t e in (w.1, λ own. rw w.0))
    (λ lt. if_both (Begun mode c n) (eqb b (code ">")) _ _ (λ t. let w = read_one (code ">") b s c n (omega arith) t e in (w.1, λ own. rw w.0))
    (λ gt. if_both (Begun mode c n) (eqb b (code "\"")) _ _
    (λ t.
    let w = read_one (code "\"") b s c n (omega arith) t e in
    (w.1, λ own. rw w.0 (quot_written mode own (rw (eqb-true b (code "\"") t) at q))))
    (λ quot.
    let w = read_two s c n (rw (loud_is mode b amp lt gt quot q) at e) in
    if_both (Begun mode c n) (eqb (get_or s 0 0) 0xA0) _ _
    (λ t. let a = eqb-true (get_or s 0 0) 0xA0 t in let v : c ≡ 0xA0 = omega arith in (w.0, λ own. rw v))
    (λ f. let a = eqb-false (get_or s 0 0) 0xA0 f in (w.0, λ own. other-written mode c own (omega arith) (omega arith)))))))

-- The same of the first byte of some bytes.
pub special_begins : (mode : Mode) (s : List ℕ) (c n : ℕ) → read_char s ≡ Char c n → quiet (quote_of mode) (get_or s 0 0) ≡ false
    → Begun mode c n (special_of (get_or s 0 0) (get_or s 1 0))
unfolding read_char
special_begins mode [] c n e q = absurd (is-char e)
special_begins mode (b ∷ s) c n e q = first-begins mode b s c n e q
