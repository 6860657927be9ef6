-- Where a source stops, by the character that is read at a place.
use Prim.Native.Nat.{ℕ, ◌+◌, ◌-◌, ◌<◌}
use mathlib.Core.Path.{◌≡◌, refl, sym, ◌∙◌, ap}
use mathlib.Core.List.{List}
use mathlib.Core.Logic.{◌≢◌}
use native.Mathlib.Omega.{arith}
use lib.ListN.{length, take, drop, length-drop}
use Rattle.standard.specs.declared.characters.CharRead.{CharRead}
use Rattle.standard.specs.declared.characters.CharRead.TheVariants.{Char, Incomplete, Illformed, End}
use Rattle.standard.specs.Utf8.{read_char}
use Rattle.standard.specs.Answers.{done, ill_formed}
use Rattle.standard.specs.Reading.{answer_to, Stop, stops, stop_from}
use Rattle.standard.proofs.Skips.{rest_from}
use Rattle.standard.proofs.Utf8.{read_length, end-length}
use Rattle.standard.proofs.Looking.{Looking, looking_stops, looking_on}

-- A stop that is known, by its parts.
pub stop_is : {r : Stop} (answer place : ℕ) → r ≡ stops answer place → (answer ≡ r.answer) × (place ≡ r.place)
stop_is answer place e = (sym (ap (λ (x : Stop). x.answer) e), sym (ap (λ (x : Stop). x.place) e))

-- What is read and is no character calls for 1, where there is a byte.
other-answer : (calls : ℕ → ℕ) (s : List ℕ) (r : CharRead) → read_char s ≡ r → 0 < length s → ((c n : ℕ) → r ≡ Char c n → ⊥)
    → answer_to calls r ≡ ill_formed
other-answer calls s (Char c n) e h k = absurd (k c n refl)
other-answer calls s (Incomplete n) e h k = refl
other-answer calls s (Illformed n) e h k = refl
other-answer calls s End e h k = absurd (omega (arith, end-length s e))

module _ {calls : ℕ → ℕ} {s : List ℕ} {at : ℕ} (l : Looking calls s at) (there : at < length s) {read : CharRead}
    (reads : read ≡ read_char (take (length s - at) (drop at s))) where
  read_is : read_char (drop at s) ≡ read
  read_is = sym (reads ∙ ap read_char (rest_from s at))

  -- No character is read.
  pub turn_other : ((c n : ℕ) → read ≡ Char c n → ⊥)
      → (ill_formed ≡ (stop_from calls 0 0 s).answer) × (at ≡ (stop_from calls 0 0 s).place)
  turn_other k =
      let is = ap (answer_to calls) read_is
      ∙ other-answer calls (drop at s) read read_is (let h : 0 < length (drop at s) = simp length-drop (omega arith) in h) k in
      let some : answer_to calls (read_char (drop at s)) ≢ done = λ e. absurd (omega (arith, is, e)) in
      stop_is ill_formed at (looking_stops l some ∙ ap (λ (a : ℕ). stops a at) is)

  module _ {value n answer : ℕ} (char : read ≡ Char value n) (called : answer ≡ calls value) where
    calls_is : answer_to calls (read_char (drop at s)) ≡ answer
    calls_is = ap (answer_to calls) (read_is ∙ char) ∙ sym called

    -- A character is read that calls for an answer.
    pub turn_called : answer ≢ done → (answer ≡ (stop_from calls 0 0 s).answer) × (at ≡ (stop_from calls 0 0 s).place)
    turn_called some = stop_is answer at (looking_stops l (λ e. some (sym calls_is ∙ e)) ∙ ap (λ (a : ℕ). stops a at) calls_is)

    -- One is read that calls for none.
    pub turn_none : answer ≡ done → Looking calls s (at + n)
    turn_none e = rw (read_is ∙ char) at (looking_on l (calls_is ∙ e))

    -- It has a byte.
    pub turn_size : 0 < n
    turn_size = (read_length (drop at s) value n (read_is ∙ char)).0
