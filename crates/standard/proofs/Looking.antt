-- Where a source stops, found character by character.
use Prim.Native.Nat.{ℕ, zero, suc, ◌+◌, ◌≤◌, ◌<◌}
use mathlib.Core.Path.{◌≡◌, refl, ◌∙◌, ap}
use mathlib.Core.List.{List}
use mathlib.Core.Bool.{Bool, true}
use native.Mathlib.Omega.{arith}
use lib.ListN.{length, get_or, drop, length-drop, drop_of_length-le}
use lib.Seq.{drop-cons, drop-drop, get_or-drop}
use borrow.Author.Tests.{eq-eqb, ne_eqb}
use Rattle.lists.specs.Notation.{front}
use Rattle.lists.proofs.Fronts.{front_length, front-each}
use Rattle.standard.specs.declared.characters.CharRead.{CharRead}
use Rattle.standard.specs.declared.characters.CharRead.TheVariants.{Char, Incomplete, Illformed, End}
use Rattle.standard.specs.Utf8.{read_char}
use Rattle.standard.specs.Answers.{done}
use Rattle.standard.specs.Reading.{answer_to, size_of, stops, stop_from}
use Rattle.standard.proofs.Ascii.{read-ascii}
use Rattle.standard.proofs.Stops.{stop-read}
use Rattle.standard.proofs.Utf8.{read_length, incomplete_length, illformed_length}

-- What is read has no more bytes than there are.
size-there : (s : List ℕ) → size_of (read_char s) ≤ length s
size-there s = go (read_char s) refl
  where
    go : (r : CharRead) → read_char s ≡ r → size_of r ≤ length s
    go (Char c n) e = (read_length s c n e).2
    go (Incomplete n) e = omega (arith, incomplete_length s n e)
    go (Illformed n) e = omega (arith, illformed_length s n e)
    go End e = omega arith

-- The source stops where what is left from at on does.
pub record Looking (calls : ℕ → ℕ) (s : List ℕ) (at : ℕ) : Type 0 where
  pub there : at ≤ length s
  pub same : stop_from calls 0 0 s ≡ stop_from calls 0 at (drop at s)

pub looking_start : {calls : ℕ → ℕ} {s : List ℕ} → Looking calls s 0
looking_start = record { there = omega arith; same = refl }

module _ {calls : ℕ → ℕ} {s : List ℕ} {at : ℕ} (l : Looking calls s at) where
  -- Where the next character calls for an answer, that is the source's.
  pub looking_stops : (answer_to calls (read_char (drop at s)) ≡ done → ⊥)
      → stop_from calls 0 0 s ≡ stops (answer_to calls (read_char (drop at s))) at
  looking_stops asks = l.same ∙ stop-read calls at (drop at s) ∙ rw (ne_eqb (answer_to calls (read_char (drop at s))) done asks)

  -- Where it calls for none, the source stops where what is left after it does.
  pub looking_on : answer_to calls (read_char (drop at s)) ≡ done → Looking calls s (at + size_of (read_char (drop at s)))
  looking_on goes = record {
    there = omega (arith, l.there, size-there (drop at s), length-drop at s);
    same =
        l.same ∙ stop-read calls at (drop at s) ∙ rw (eq-eqb (answer_to calls (read_char (drop at s))) done goes)
        (ap (stop_from calls 0 (at + size_of (read_char (drop at s)))) (drop-drop (size_of (read_char (drop at s))) at s));
  }

  -- Where nothing is left, the source is done.
  pub looking_end : length s ≤ at → stop_from calls 0 0 s ≡ stops done at
  unfolding stop_from
  looking_end e = l.same ∙ rw (drop_of_length-le s e)

-- ASCII bytes of which none calls for an answer are passed, given a test that tells so.
module _ {calls : ℕ → ℕ} {s : List ℕ} {at : ℕ} (l : Looking calls s at) (p : ℕ → Bool)
    (quiet : (b : ℕ) → p b ≡ true → (b < 0x80) × (calls b ≡ done)) where
  pub looking_span : (n : ℕ) → at + n ≤ length s → ((i : ℕ) → i < n → p (get_or s (at + i) 0) ≡ true) → Looking calls s (at + n)
  looking_span zero there each = let same : at + 0 ≡ at = omega arith in rw same l
  looking_span (suc n) there each =
      let b : ℕ = get_or s (at + n) 0 in
      let w = quiet b (each n (omega arith)) in
      let read : read_char (drop (at + n) s) ≡ Char b 1 = rw (drop-cons s (at + n) 0 (omega arith)) (read-ascii b (drop (suc (at + n)) s) w.0) in
      let later : at + n + 1 ≡ at + suc n = omega arith in
      rw later at (rw read at (looking_on (looking_span n (omega arith) (λ i j. each i (omega arith))) (ap (answer_to calls) read ∙ w.1)))

  -- So is the longest run of them.
  pub looking_run : {from : ℕ} → from ≡ at + length (front p (drop at s)) → Looking calls s from
  looking_run is =
      rw is
      (looking_span (length (front p (drop at s))) (omega (arith, l.there, front_length p (drop at s), length-drop at s))
      (λ i h. rw (get_or-drop at s i 0) at (front-each p (drop at s) i h)))
