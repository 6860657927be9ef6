-- Laws of meeting what should come next: one after the other, characters in a text, and numbers.
use Rattle.std.specs.Prelude.{Option, Some, None, if◌then◌else◌}
use Rattle.std.specs.Int.{w32, from_le_bytes}
use Rattle.std.proofs.Common.{get_or-take}
use Rattle.std.proofs.lemmas.Option.{cond_some, none-some}
use Prim.Native.Nat.{ℕ, zero, suc, ◌+◌, ◌*◌, ◌/◌, ◌≤◌, ◌<◌}
use mathlib.Core.Path.{◌≡◌, refl, sym, ◌∙◌, ap}
use mathlib.Core.List.{List, [], ◌∷◌, ◌++◌}
use mathlib.Core.Bool.{Bool, true, false, ◌&&◌, and-true, and_assoc, and-eq-true_iff}
use mathlib.Core.Logic.{◌≢◌, ⊎_elim}
use native.Mathlib.Omega.{arith}
use lib.Dec.{eqb}
use lib.ListN.{length, get_or, take, drop, length-append, length-drop, length-take, drop_of_length-le}
use lib.Seq.{drop-drop, drop-cons, get_or-drop}
use borrow.Author.Tests.{lt-ltb, eqb-true, eq-eqb}
use Rattle.lists.specs.Bytes.{word32, words}
use Rattle.lists.proofs.Choice.{no_way, test?}
use Rattle.standard.specs.declared.characters.CharRead.{CharRead}
use Rattle.standard.specs.declared.characters.CharRead.TheVariants.{Char}
use Rattle.standard.specs.Utf8.{read_char, written, octets, encode}
use Rattle.standard.specs.Names.{stands}
use Rattle.standard.proofs.Narrow.{stands-fits}
use Rattle.standard.proofs.RoundTrip.{encode-octets, encode-scalar}
use Rattle.standard.proofs.Back.{read_back}
use Rattle.standard.proofs.Skips.{rest_from}
use Rattle.standard.proofs.Utf8.{read_length}
use Rattle.checker.specs.Meeting.{met, met_on}

-- Two words stand one after the other.
stands-append : (a b s : List ℕ) → stands (a ++ b) s ≡ stands a s && stands b (drop (length a) s)
unfolding stands
stands-append [] b s = refl
stands-append (x ∷ a) b [] = refl
stands-append (x ∷ a) b (y ∷ s) =
    ap (λ (t : Bool). eqb x y && t) (stands-append a b s) ∙ sym (and_assoc (eqb x y) (stands a s) (stands b (drop (length a) s)))

-- A word that stands at the front is the front.
pub stands-front : (a s : List ℕ) → stands a s ≡ true → s ≡ a ++ drop (length a) s
unfolding stands
stands-front [] s e = refl
stands-front (x ∷ a) [] e = no_way (sym e)
stands-front (x ∷ a) (y ∷ s) e =
    let w = (and-eq-true_iff (eqb x y) (stands a s)).0 e in
    λ i. sym (eqb-true x y w.0) i ∷ stands-front a s w.1 i

-- The front of some bytes stands there.
pub front-stands : (n : ℕ) (s : List ℕ) → stands (take n s) s ≡ true
unfolding stands
front-stands zero s = refl
front-stands (suc n) [] = refl
front-stands (suc n) (b ∷ s) = rw (eq-eqb b b refl) (front-stands n s)

-- Values come next, or others.
pub met_hit : (values l : List ℕ) (at : ℕ) {end : ℕ} → stands values (drop at l) ≡ true → end ≡ at + length values → Some end ≡ met values l at
met_hit values l at e is = rw e (ap Some is)

pub met_miss : (values l : List ℕ) (at : ℕ) → stands values (drop at l) ≡ false → None ≡ met values l at
met_miss values l at e = rw e refl

-- What is known of values that come next.
pub met_some : (values l : List ℕ) (at : ℕ) {end : ℕ} → met values l at ≡ Some end → (stands values (drop at l) ≡ true) × (at + length values ≡ end)
met_some values l at {end} e = cond_some (stands values (drop at l)) (at + length values) end e

-- Of others.
pub met_not : (values l : List ℕ) (at : ℕ) → met values l at ≡ None → stands values (drop at l) ≡ false
met_not values l at e =
    ⊎_elim (λ t. absurd (none-some (at + length values) (sym e ∙ rw t refl))) (λ f. f) (test? (stands values (drop at l)))

-- They end within.
pub met-within : (values l : List ℕ) (at : ℕ) {end : ℕ} → at ≤ length l → met values l at ≡ Some end → (at ≤ end) × (end ≤ length l)
met-within values l at h e =
    let w = met_some values l at e in
    (omega arith, omega (arith, stands-fits values (drop at l) w.0, length-drop at l))

-- One after the other.
pub met-append : (a b l : List ℕ) (at : ℕ) → met (a ++ b) l at ≡ met_on b l (met a l at)
met-append a b l at = rw (stands-append a b (drop at l), drop-drop (length a) at l) (by_case (stands a (drop at l)))
  where
    all : at + length (a ++ b) ≡ at + length a + length b
    all = omega (arith, length-append a b)

    by_case : (t : Bool) → (if t && stands b (drop (at + length a) l) then Some (at + length (a ++ b)) else None)
        ≡ met_on b l (if t then Some (at + length a) else None)
    by_case true = rw all refl
    by_case false = refl

pub met_then : (a b l : List ℕ) (at : ℕ) {next : ℕ} {end : Option ℕ} → met a l at ≡ Some next → end ≡ met b l next → end ≡ met (a ++ b) l at
met_then a b l at e is = is ∙ sym (met-append a b l at ∙ ap (met_on b l) e)

pub met_over : (a b l : List ℕ) (at : ℕ) → met a l at ≡ None → None ≡ met (a ++ b) l at
met_over a b l at e = sym (met-append a b l at ∙ ap (met_on b l) e)

-- No values come next anywhere.
pub met_none : (l : List ℕ) (at : ℕ) → Some at ≡ met [] l at
unfolding stands
met_none l at = ap Some (omega arith)

-- The same from a place that may be none already.
pub met_on-none : (l : List ℕ) (o : Option ℕ) → o ≡ met_on [] l o
met_on-none l None = refl
met_on-none l (Some at) = met_none l at

pub met_on-append : (a b l : List ℕ) (o : Option ℕ) → met_on (a ++ b) l o ≡ met_on b l (met_on a l o)
met_on-append a b l None = refl
met_on-append a b l (Some at) = met-append a b l at

-- ASCII is one byte.
pub ascii-encoded : (c : ℕ) → c < 0x80 → encode c ≡ c ∷ []
unfolding encode octets
ascii-encoded c h = rw (lt-ltb c 0xD800 (omega arith), lt-ltb c 0x80 h) refl

-- The bytes of a number stand where it is read.
read-stands : (s : List ℕ) (c n : ℕ) → read_char s ≡ Char (written c) n → (stands (encode c) s ≡ true) × (n ≡ length (encode c))
unfolding encode
read-stands s c n e =
    let w = read_back s (written c) n e in
    let k = read_length s (written c) n e in
    let is : encode c ≡ take n s = sym (encode-octets (written c) w.1) ∙ w.0 in
    (ap (λ (t : List ℕ). stands t s) is ∙ front-stands n s, sym (ap length is ∙ simp length-take (omega arith)))

-- Where they stand it is read.
stands_read : (s : List ℕ) (c : ℕ) → stands (encode c) s ≡ true → read_char s ≡ Char (written c) (length (encode c))
stands_read s c e =
    ap read_char (stands-front (encode c) s e) ∙ (encode-scalar c (drop (length (encode c)) s)).0

-- A number is next, or it is not.
pub stands-number : (l : List ℕ) (at n : ℕ) → at < length l → stands (n ∷ []) (drop at l) ≡ eqb n (get_or l at 0)
unfolding stands
stands-number l at n h = rw (drop-cons l at 0 h) (and-true (eqb n (get_or l at 0)))

-- None is next at the end.
pub stands-nothing : (l : List ℕ) (at n : ℕ) → length l ≤ at → stands (n ∷ []) (drop at l) ≡ false
unfolding stands
stands-nothing l at n h = rw (drop_of_length-le l h) refl

-- Bytes in fours: how many numbers there are, and each.
pub words_length : (l : List ℕ) → length (words l) ≡ length l / 4
unfolding words
words_length [] = refl
words_length (a ∷ []) = refl
words_length (a ∷ b ∷ []) = refl
words_length (a ∷ b ∷ c ∷ []) = refl
words_length (a ∷ b ∷ c ∷ d ∷ l) = omega (arith, words_length l)

-- Four bytes of what is left stand that much later in the whole.
word-drop : (n : ℕ) (l : List ℕ) (i : ℕ) → word32 (drop n l) i ≡ word32 l (n + i)
word-drop n l i = rw (get_or-drop n l i 0, later 1, later 2, later 3) refl
  where
    later : (k : ℕ) → get_or (drop n l) (i + k) 0 ≡ get_or l (n + i + k) 0
    later k = get_or-drop n l (i + k) 0 ∙ ap (λ (j : ℕ). get_or l j 0) (let e : n + (i + k) ≡ n + i + k = omega arith in e)

words-at : (l : List ℕ) (i : ℕ) → i < length l / 4 → get_or (words l) i 0 ≡ word32 l (4 * i)
unfolding words
words-at [] i h = absurd (omega arith)
words-at (a ∷ []) i h = absurd (omega arith)
words-at (a ∷ b ∷ []) i h = absurd (omega arith)
words-at (a ∷ b ∷ c ∷ []) i h = absurd (omega arith)
words-at (a ∷ b ∷ c ∷ d ∷ l) zero h = refl
words-at (a ∷ b ∷ c ∷ d ∷ l) (suc i) h =
    words-at l i (omega arith) ∙ word-drop 4 (a ∷ b ∷ c ∷ d ∷ l) (4 * i)
    ∙ ap (word32 (a ∷ b ∷ c ∷ d ∷ l)) (let e : 4 + 4 * i ≡ 4 * suc i = omega arith in e)

-- A number's four bytes are read as the number.
pub words_read : (l : List ℕ) (i k : ℕ) → 4 ≤ k → i < length (words l) → let four = take k (drop (4 * i) l) in
    from_le_bytes w32 (get_or four 0 0 ∷ get_or four 1 0 ∷ get_or four 2 0 ∷ get_or four 3 0 ∷ []) ≡ get_or (words l) i 0
words_read l i k h there =
    let some : (j : ℕ) → j < 4 → get_or (take k (drop (4 * i) l)) j 0 ≡ get_or l (4 * i + j) 0 =
    λ j m. get_or-take k (drop (4 * i) l) j 0 (omega arith) ∙ get_or-drop (4 * i) l j 0 in
    let first : 4 * i + 0 ≡ 4 * i = omega arith in
    rw (some 0 (omega arith), some 1 (omega arith), some 2 (omega arith), some 3 (omega arith), first)
    (omega (arith, words-at l i (omega (arith, words_length l))))

-- A number's bytes do not stand where no character is read.
pub other-read : (s : List ℕ) (c : ℕ) (r : CharRead) → read_char s ≡ r → ((c n : ℕ) → r ≡ Char c n → ⊥) → stands (encode c) s ≡ false
other-read s c r e k =
    ⊎_elim (λ t. absurd (k (written c) (length (encode c)) (sym e ∙ stands_read s c t)))
    (λ f. f) (test? (stands (encode c) s))

-- Nor where another one is.
pub other-char : (s : List ℕ) {value n : ℕ} (c : ℕ) → read_char s ≡ Char value n → value ≢ written c → stands (encode c) s ≡ false
other-char s {value} {n} c e k =
    ⊎_elim (λ t. absurd (k (let both : Char value n ≡ Char (written c) (length (encode c)) = sym e ∙ stands_read s c t in cc)))
    (λ f. f) (test? (stands (encode c) s))

-- They stand where it is.
pub this_char : (s : List ℕ) {value n : ℕ} (c : ℕ) → read_char s ≡ Char value n → value ≡ written c
    → (stands (encode c) s ≡ true) × (n ≡ length (encode c))
this_char s {value} {n} c e k = read-stands s c n (e ∙ ap (λ (v : ℕ). Char v n) k)

-- What closes the goals of those who meet.
pub ruleset meetings = (met_hit, met_miss, met_none, met_then, met_over, met-within)

pub ruleset meet_numbers = (met_hit, met_miss, stands-nothing, stands-number)

pub ruleset meet_chars = (met_hit, met_miss, other-read, other-char, this_char, rest_from, read_length)
