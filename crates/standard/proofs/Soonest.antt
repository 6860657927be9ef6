-- A byte is ill-formed as soon as no character has it there, and not before: an incomplete character can be completed, an ill-formed one never.
use Prim.Native.Nat.{ℕ, zero, suc, ◌+◌, ◌*◌, ◌%◌, ◌≤◌, ◌<◌}
use mathlib.Core.Path.{◌≡◌, refl, sym, subst}
use mathlib.Core.List.{List, [], ◌∷◌, ◌++◌}
use mathlib.Core.Logic.{⊎_elim}
use native.Mathlib.Omega.{arith}
use lib.ListN.{take}
use Rattle.lists.specs.Notation.{between}
use Rattle.lists.proofs.Choice.{test?, inside-between}
use Rattle.standard.specs.declared.characters.CharRead.{CharRead}
use Rattle.standard.specs.declared.characters.CharRead.TheVariants.{Char, Incomplete, Illformed}
use Rattle.standard.specs.declared.characters.Lead.{Lead}
use Rattle.std.specs.Prelude.{Option, Some, None}
use Rattle.standard.specs.Utf8.{lead_of, tails, after_lead, read_char}
use Rattle.standard.proofs.Utf8.{LeadSays, lead_says, is-char, Settled, read-append, incomplete_length, illformed_length}

-- Some bytes after s make a whole character of it.
abbrev Completes : (List ℕ → CharRead) → List ℕ → Type 0
Completes read s = (rest : List ℕ) × (c : ℕ) × (m : ℕ) × (read (s ++ rest) ≡ Char c m)

-- The low end of each range completes a character.
tails_filled : (need low high bits len : ℕ) → low ≤ high → Completes (tails need low high bits len) []
unfolding tails
tails_filled zero low high bits len h = ([], bits, len, refl)
tails_filled (suc n) low high bits len h =
    let w = tails_filled n 0x80 0xBF (bits * 64 + low % 64) (suc len) (omega arith) in
    (low ∷ w.0, w.1, w.2, rw (inside-between low high low (omega arith) h) w.3)

-- Incomplete tails can be completed.
tails_completes : (need low high bits len : ℕ) (s : List ℕ) (n : ℕ) → low ≤ high → tails need low high bits len s ≡ Incomplete n
    → Completes (tails need low high bits len) s
unfolding tails
tails_completes zero low high bits len s n k h = ([], bits, len, refl)
tails_completes (suc need) low high bits len [] n k h = tails_filled (suc need) low high bits len k
tails_completes (suc need) low high bits len (b ∷ s) n k h =
    ⊎_elim
    (λ t.
    let w = tails_completes need 0x80 0xBF (bits * 64 + b % 64) (suc len) s n (omega arith) (rw t at h) in (w.0, w.1, w.2, rw t w.3))
    (λ t. absurd (subst Settled (rw t at h) tt)) (test? (between low high b))

-- The same after a first byte.
after_completes : (b : ℕ) (l : Option Lead) (s : List ℕ) (n : ℕ) → LeadSays b l → after_lead l s ≡ Incomplete n → Completes (after_lead l) s
unfolding after_lead
after_completes b None s n k h = absurd (subst Settled h tt)
after_completes b (Some l) s n k h = tails_completes l.need l.low l.high l.bits 1 s n k.some h

-- An incomplete character can be completed.
pub incomplete_completes : (s : List ℕ) (n : ℕ) → read_char s ≡ Incomplete n
    → (rest : List ℕ) × (c : ℕ) × (m : ℕ) × (read_char (s ++ rest) ≡ Char c m)
unfolding read_char
incomplete_completes [] n h = absurd (omega (arith, incomplete_length [] n h))
incomplete_completes (b ∷ s) n h = after_completes b (lead_of b) s n (lead_says b) h

-- Where tails are ill-formed after n bytes, those that stand before are a beginning, and with one more they are ill-formed.
tails_soonest : (need low high bits len : ℕ) (s : List ℕ) (n : ℕ) → tails need low high bits len s ≡ Illformed n → (j : ℕ) × (n ≡ len + j)
    × (tails need low high bits len (take j s) ≡ Incomplete n) × (tails need low high bits len (take (suc j) s) ≡ Illformed n)
unfolding tails
tails_soonest zero low high bits len s n h = absurd (is-char (sym h))
tails_soonest (suc need) low high bits len [] n h = absurd (subst Settled (sym h) tt)
tails_soonest (suc need) low high bits len (b ∷ s) n h =
    ⊎_elim
    (λ t.
    let w = tails_soonest need 0x80 0xBF (bits * 64 + b % 64) (suc len) s n (rw t at h) in (suc w.0, omega arith, rw t w.2, rw t w.3))
    (λ t. let f = rw t at h in let e : n ≡ len = cc in (0, omega arith, cc, rw t f)) (test? (between low high b))

-- The same after a first byte.
after_soonest : (b : ℕ) (l : Option Lead) (s : List ℕ) (n : ℕ) → lead_of b ≡ l → after_lead l s ≡ Illformed n
    → (0 < n → read_char (take n (b ∷ s)) ≡ Incomplete n) × (read_char (b ∷ take n s) ≡ Illformed n)
unfolding after_lead read_char
after_soonest b None s n e h = let z : n ≡ 0 = cc in (λ p. absurd (omega arith), rw e h)
after_soonest b (Some l) s n e h =
    let w = tails_soonest l.need l.low l.high l.bits 1 s n h in
    let z : n ≡ suc w.0 = omega arith in
    subst (λ (k : ℕ). (0 < n → read_char (take k (b ∷ s)) ≡ Incomplete n) × (read_char (b ∷ take k s) ≡ Illformed n)) (sym z)
    (λ p. rw e w.2, rw e w.3)

-- The same with the first byte.
read_soonest : (s : List ℕ) (n : ℕ) → read_char s ≡ Illformed n
    → (0 < n → read_char (take n s) ≡ Incomplete n) × (read_char (take (suc n) s) ≡ Illformed n)
unfolding read_char
read_soonest [] n h = absurd (omega (arith, illformed_length [] n h))
read_soonest (b ∷ s) n h = after_soonest b (lead_of b) s n refl h

-- The bytes before an ill-formed one are a beginning of a character.
pub illformed_before : (s : List ℕ) (n : ℕ) → read_char s ≡ Illformed n → (0 < n → read_char (take n s) ≡ Incomplete n)
illformed_before s n h = (read_soonest s n h).0

-- With an ill-formed byte no character can come, whatever follows.
pub illformed_never : (s : List ℕ) (n : ℕ) → read_char s ≡ Illformed n → (rest : List ℕ) → read_char (take (suc n) s ++ rest) ≡ Illformed n
illformed_never s n h rest = read-append (take (suc n) s) rest (Illformed n) (read_soonest s n h).1 tt
