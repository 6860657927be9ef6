-- The way back of RoundTrip: from what is read to its bytes.
use Prim.Native.Nat.{ℕ, zero, suc, ◌+◌, ◌*◌, ◌%◌, ◌≤◌}
use mathlib.Core.Path.{◌≡◌, refl, ◌∙◌, ap₂}
use mathlib.Core.List.{List, [], ◌∷◌}
use mathlib.Core.Bool.{true}
use native.Mathlib.Omega.{arith}
use lib.ListN.{take}
use Rattle.lists.specs.Notation.{between}
use Rattle.lists.proofs.Choice.{between_true}
use Rattle.standard.specs.declared.characters.CharRead.TheVariants.{Char}
use Rattle.standard.specs.declared.characters.Lead.{Lead}
use Rattle.std.specs.Prelude.{Option, Some, None}
use Rattle.standard.specs.Utf8.{lead_of, tails, after_lead, read_char, scalar, octets, encode}
use Rattle.standard.proofs.Utf8.{upper, Next, LeadSays, lead_says, if_char, is-char}
use Rattle.standard.proofs.RoundTrip.{sixes, octets-sixes, size-scalar, encode-octets}

-- The tails of a whole character are its last groups of six bits, the first one in its range.
tails-back : (n low high bits len : ℕ) (s : List ℕ) (a m : ℕ) → 0x80 ≤ low → high ≤ 0xBF → tails n low high bits len s ≡ Char a m
    → (m ≡ len + n) × (bits ≡ upper n a) × Next n low high a × (sixes n a ≡ take n s)
unfolding tails
tails-back zero low high bits len s a m p q h = let e : m ≡ len = cc in (omega arith, cc, tt, refl)
tails-back (suc n) low high bits len [] a m p q h = absurd (is-char h)
tails-back (suc n) low high bits len (b ∷ s) a m p q h =
    let w = if_char (between low high b) _ len a m h in
    let k = between_true low high b w.0 in
    let v = tails-back n 0x80 0xBF (bits * 64 + b % 64) (suc len) s a m (omega arith) (omega arith) w.1 in
    (omega arith, omega arith, omega arith, ap₂ ◌∷◌ (omega arith) v.3)

-- A first byte and its tails are the bytes of a scalar value.
after-back : (b : ℕ) (l : Option Lead) (s : List ℕ) (a m : ℕ) → LeadSays b l → after_lead l s ≡ Char a m
    → (octets a ≡ take m (b ∷ s)) × (scalar a ≡ true)
unfolding after_lead
after-back b None s a m k h = absurd (is-char h)
after-back b (Some l) s a m k h =
    let w = tails-back l.need l.low l.high l.bits 1 s a m k.least k.most h in
    let z = k.only a w.1 w.2 in
    let e : m ≡ suc l.need = omega arith in
    (octets-sixes l.need a z ∙ rw (e, k.is, w.1, w.3), size-scalar l.need a z)

-- What is read is a scalar value, and its bytes are those that were read.
pub read_back : (s : List ℕ) (a m : ℕ) → read_char s ≡ Char a m → (encode a ≡ take m s) × (scalar a ≡ true)
unfolding read_char
read_back [] a m h = absurd (is-char h)
read_back (b ∷ s) a m h = let w = after-back b (lead_of b) s a m (lead_says b) h in (encode-octets a w.1 ∙ w.0, w.1)
