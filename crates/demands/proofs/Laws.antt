-- What the other theorems lean on: characters, the longest name, the bounds of a reading, and document 01's lists.
use Rattle.std.specs.Prelude.{if◌then◌else◌}
use Prim.Native.Nat.{ℕ, zero, suc, ◌≤◌, ◌<◌, ◌-◌, ◌*◌}
use mathlib.Core.Path.{◌≡◌, refl}
use mathlib.Core.Bool.{Bool, true, false}
use mathlib.Core.List.{List, [], ◌∷◌, ◌++◌, Memᴰ}
use native.Mathlib.Omega.{arith}
use lib.Dec.{eqb}
use lib.ListN.{length, take, length-take}
use lib.Seq.{take-append-le}
use Rattle.standard.specs.declared.Context.{Context}
use Rattle.standard.specs.declared.characters.CharRead.{CharRead}
use Rattle.standard.specs.declared.characters.CharRead.TheVariants.{Char, Incomplete, Illformed, End}
use Rattle.standard.specs.Utf8.{read_char, scalar, encode}
use Rattle.standard.specs.Classes.{character_code}
use Rattle.standard.specs.Numbers.{meaning_of}
use Rattle.standard.specs.Names.{Name, stands, found_as, longest}
use Rattle.standard.specs.NameList.{builtin}
use Rattle.standard.specs.Answers.{done, context_end}
use Rattle.standard.specs.Reading.{calls_for, answer_to, size_of, Stop, stops, stop_from, stop_of, covered, decode}
use Rattle.standard.proofs.Utf8.{read-append, end-length}
use Rattle.standard.proofs.Stops.{stop-place}
use Rattle.standard.proofs.RoundTrip.{read-encode}
use Rattle.standard.proofs.Narrow.{builtin_narrow}
use Rattle.standard.proofs.Bounds.{text_fits, errors_fit}
use Rattle.standard.proofs.Back as Back
use Rattle.standard.proofs.Soonest as Soonest
use Rattle.standard.proofs.Longest as Longest
use Rattle.standard.proofs.Lists as Lists
use Rattle.standard.specs.Errors.{numbers}
use Rattle.standard.proofs.Joining.{numbers-length}
use Rattle.decoder.specs.Whole.{text_room_for, error_room_for}
use Rattle.escaper.specs.declared.Mode.{Mode}
use Rattle.escaper.specs.Escape.{escape}
use Rattle.escaper.proofs.Bound as Bound

-- A character that is read does not depend on what follows it.
pub read-alone : (s rest : List ℕ) (c n : ℕ) → read_char s ≡ Char c n → read_char (s ++ rest) ≡ Char c n
read-alone s rest c n e = read-append s rest (Char c n) e tt

-- Reading what was encoded gives it back.
pub read_encoded : (c : ℕ) (rest : List ℕ) → scalar c ≡ true → read_char (encode c ++ rest) ≡ Char c (length (encode c))
read_encoded = read-encode

-- What is read is a scalar value, and its bytes are those that were read.
pub read_back : (s : List ℕ) (c n : ℕ) → read_char s ≡ Char c n → (encode c ≡ take n s) × (scalar c ≡ true)
read_back = Back.read_back

-- An incomplete character can be completed.
pub incomplete_completes : (s : List ℕ) (n : ℕ) → read_char s ≡ Incomplete n
    → (rest : List ℕ) × (c : ℕ) × (m : ℕ) × (read_char (s ++ rest) ≡ Char c m)
incomplete_completes = Soonest.incomplete_completes

-- The bytes before an ill-formed one are a beginning of a character.
pub illformed_before : (s : List ℕ) (n : ℕ) → read_char s ≡ Illformed n → (0 < n → read_char (take n s) ≡ Incomplete n)
illformed_before = Soonest.illformed_before

-- With an ill-formed byte no character can come, whatever follows.
pub illformed_never : (s : List ℕ) (n : ℕ) → read_char s ≡ Illformed n → (rest : List ℕ) → read_char (take (suc n) s ++ rest) ≡ Illformed n
illformed_never = Soonest.illformed_never

-- Where bytes stop at the context's end they stop with more bytes too.
ends-alone : (context : Context) (skip place : ℕ) (s rest : List ℕ) → let calls = calls_for context in
    (stop_from calls skip place s).answer ≡ context_end → stop_from calls skip place (s ++ rest) ≡ stop_from calls skip place s
unfolding stop_from
ends-alone context zero place [] rest e = absurd (omega (arith, e))
ends-alone context (suc skip) place [] rest e = absurd (omega (arith, e))
ends-alone context (suc skip) place (b ∷ s) rest e = ends-alone context skip (suc place) s rest e
ends-alone context zero place (b ∷ s) rest e = go (read_char (b ∷ s)) refl (λ k f. ends-alone context k (suc place) s rest f) e
  where
    by : CharRead → List ℕ → Stop
    by r s =
        if eqb (answer_to (calls_for context) r) done then stop_from (calls_for context) (size_of r - 1) (suc place) s
        else stops (answer_to (calls_for context) r) place

    go : (r : CharRead) → read_char (b ∷ s) ≡ r
        → ((k : ℕ) → (stop_from (calls_for context) k (suc place) s).answer ≡ context_end
        → stop_from (calls_for context) k (suc place) (s ++ rest) ≡ stop_from (calls_for context) k (suc place) s)
        → (by r s).answer ≡ context_end → by (read_char (b ∷ s ++ rest)) (s ++ rest) ≡ by r s
    go (Char c n) f later e = rw (read-append (b ∷ s) rest (Char c n) f tt) (on (eqb (calls_for context c) done) e)
      where
        on : (t : Bool) → (if t then stop_from (calls_for context) (n - 1) (suc place) s else stops (calls_for context c) place).answer ≡ context_end
            → (if t then stop_from (calls_for context) (n - 1) (suc place) (s ++ rest) else stops (calls_for context c) place)
            ≡ (if t then stop_from (calls_for context) (n - 1) (suc place) s else stops (calls_for context c) place)
        on true h = later (n - 1) h
        on false h = refl
    go (Incomplete n) f later e = absurd (omega (arith, e))
    go (Illformed n) f later e = absurd (omega (arith, e))
    go End f later e = absurd (omega (arith, end-length (b ∷ s) f))

-- Nothing after the character that ends the context is looked at: whatever follows, the source stops there, and the same part is covered.
pub nothing-after : (context : Context) (s rest : List ℕ) → (stop_of context s).answer ≡ context_end
    → (stop_of context (s ++ rest) ≡ stop_of context s) × (covered context (s ++ rest) ≡ covered context s)
nothing-after context s rest e =
    let same = ends-alone context 0 0 s rest e in
    (same, rw same (take-append-le (stop_of context s).place s rest (stop-place context s)))

-- A name of the table that stands there is no longer than what is found.
pub longest-most : (names : List Name) (s : List ℕ) (n : Name) → Memᴰ n names → stands n.word s ≡ true
    → length n.word ≤ (longest names s).len
longest-most = Longest.longest-most

-- What is found is a name of the table that stands there.
pub longest-some : (names : List Name) (s : List ℕ) → 0 < (longest names s).len
    → (n : Name) × Memᴰ n names × (stands n.word s ≡ true) × (longest names s ≡ found_as n)
longest-some = Longest.longest-some

-- Decoded text is never longer than the covered part.
pub text_short : (context : Context) (s : List ℕ) → length (decode builtin context (covered context s)).text ≤ length (covered context s)
text_short context s = text_fits builtin context (covered context s) builtin_narrow

-- A source of n bytes has at most n errors.
pub errors_few : (context : Context) (s : List ℕ) → length (decode builtin context (covered context s)).errors ≤ length s
errors_few context s =
    let few = errors_fit builtin context (covered context s) in omega (arith, length-take (stop_of context s).place s)

-- The rooms that a whole source asks for always suffice.
pub rooms_suffice : (context : Context) (s : List ℕ) → (length (decode builtin context (covered context s)).text ≤ text_room_for (length s))
    × (length (numbers (decode builtin context (covered context s)).errors) ≤ error_room_for (length s))
rooms_suffice context s =
    let few = errors_few context s in
    let short = text_short context s in (
      omega (arith, length-take (stop_of context s).place s),
      omega (arith, numbers-length (decode builtin context (covered context s)).errors),
    )

-- The characters that get error 5 are those that document 01 lists.
pub characters-listed : (c : ℕ) → character_code c ≡ (if Lists.with_error c then 5 else 0)
characters-listed = Lists.characters

-- A number means what document 01 lists.
pub meanings_listed : (n : ℕ) → meaning_of n ≡ Lists.meaning_listed n
meanings_listed = Lists.meanings

-- The result of escaping is at most six times the input.
pub escape_six : (mode : Mode) (s : List ℕ) → length (escape mode s) ≤ 6 * length s
escape_six = Bound.escape_six
