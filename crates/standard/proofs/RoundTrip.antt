-- What specs/Utf8.antt writes, it reads back.
use Prim.Native.Nat.{ℕ, zero, suc, ◌+◌, ◌*◌, ◌/◌, ◌%◌, ◌≤◌, ◌<◌}
use mathlib.Core.Path.{◌≡◌, refl, ◌∙◌, ap}
use mathlib.Core.List.{List, [], ◌∷◌, ◌++◌}
use mathlib.Core.Bool.{true}
use mathlib.Core.Logic.{◌≢◌, ⊎_elim}
use native.Mathlib.Nat.{zero-add}
use native.Mathlib.Omega.{arith}
use lib.Dec.{ltb, eqb}
use lib.ListN.{length}
use borrow.Author.Tests.{lt-ltb, le-ltb, eq-eqb, ne_eqb}
use Rattle.lists.specs.Notation.{between}
use Rattle.lists.proofs.Choice.{facts, if_both, or_true, below?, inside-between, between_true}
use Rattle.standard.specs.declared.characters.CharRead.TheVariants.{Char}
use Rattle.std.specs.Prelude.{Option}
use Rattle.standard.specs.declared.characters.Lead.{Lead}
use Rattle.standard.specs.Utf8.{lead_of, tails, after_lead, read_char, scalar, octets, encode, written}
use Rattle.standard.proofs.Utf8.{mark, upper, Next, Size}

-- The bytes of the last groups of six bits of a number, so many.
abbrev pub sixes : ℕ → ℕ → List ℕ
sixes zero c = []
sixes (suc n) c = (0x80 + upper n c % 64) ∷ sixes n c

-- There are so many.
length-sixes : (n c : ℕ) → length (sixes n c) ≡ n
length-sixes zero c = refl
length-sixes (suc n) c = ap suc (length-sixes n c)

-- The bytes of a scalar value are its mark with its upper bits and then groups of six.
pub octets-sixes : (n c : ℕ) → Size n c → octets c ≡ (mark n + upper n c) ∷ sixes n c
unfolding octets
octets-sixes zero c h = rw (lt-ltb c 0x80 h, zero-add)
octets-sixes (suc zero) c h = rw (le-ltb c 0x80 (omega arith), lt-ltb c 0x800 (omega arith))
octets-sixes (suc (suc zero)) c h =
    let e : c / 4096 ≡ c / 64 / 64 = omega arith in
    rw (le-ltb c 0x80 (omega arith), le-ltb c 0x800 (omega arith), lt-ltb c 0x10000 (omega arith), e)
octets-sixes (suc (suc (suc zero))) c h =
    let e : c / 4096 ≡ c / 64 / 64 = omega arith in
    let f : c / 262144 ≡ c / 64 / 64 / 64 = omega arith in
    rw (le-ltb c 0x80 (omega arith), le-ltb c 0x800 (omega arith), le-ltb c 0x10000 (omega arith), e, f)
octets-sixes (suc (suc (suc (suc n)))) c h = absurd h

-- A number below 0x110000 and not in the block of the surrogates is a scalar value.
is-scalar : (c : ℕ) → c < 0x110000 → c / 0x800 ≢ 0x1B → scalar c ≡ true
is-scalar c p q =
    ⊎_elim (λ (t : c < 0xD800). rw (lt-ltb c 0xD800 t)) (λ (t : 0xD800 ≤ c).
    rw (le-ltb c 0xD800 t) (inside-between 0xE000 0x10FFFF c (omega arith) (omega arith))) (below? c 0xD800)

-- A number of one of the four sizes is a scalar value.
pub size-scalar : (n c : ℕ) → Size n c → scalar c ≡ true
size-scalar zero c h = is-scalar c (omega arith) (omega arith)
size-scalar (suc zero) c h = is-scalar c (omega arith) (omega arith)
size-scalar (suc (suc zero)) c h = is-scalar c (omega arith) (omega arith)
size-scalar (suc (suc (suc zero))) c h = is-scalar c (omega arith) (omega arith)
size-scalar (suc (suc (suc (suc n)))) c h = absurd h

-- A scalar value is below 0x110000 and not in the block of the surrogates.
scalar_true : (c : ℕ) → scalar c ≡ true → (c < 0x110000) × (c / 0x800 ≢ 0x1B)
scalar_true c e =
    ⊎_elim (λ (t : ltb c 0xD800 ≡ true). omega facts) (λ (t : between 0xE000 0x10FFFF c ≡ true). omega (arith, between_true 0xE000 0x10FFFF c t))
    (or_true (ltb c 0xD800) (between 0xE000 0x10FFFF c) e)

-- One of the four sizes, the last one only from 0x10000.
abbrev Sized : ℕ → Type 0
Sized c = (n : ℕ) × (Size n c × (n ≤ 3) × (c < 0x10000 → n ≤ 2))

-- A scalar value has one of the four sizes.
scalar-sized : (c : ℕ) → scalar c ≡ true → Sized c
scalar-sized c e =
    let k = scalar_true c e in
    ⊎_elim (λ (p : c < 0x80). (0, omega arith)) (λ (p : 0x80 ≤ c).
    ⊎_elim (λ (q : c < 0x800). (1, omega arith)) (λ (q : 0x800 ≤ c).
    ⊎_elim (λ (r : c < 0x10000). (2, omega arith)) (λ (r : 0x10000 ≤ c). (3, omega arith)) (below? c 0x10000)) (below? c 0x800)) (below? c 0x80)

-- Groups of six bits are read back where the first is in its range.
tails-sixes : (n low high bits len c : ℕ) (s : List ℕ) → (bits ≡ upper n c) × Next n low high c
    → tails n low high bits len (sixes n c ++ s) ≡ Char c (len + n)
unfolding tails
tails-sixes zero low high bits len c s h = rw h.0 (ap (Char c) (omega arith))
tails-sixes (suc n) low high bits len c s h =
    let f : bits * 64 + (0x80 + upper n c % 64) % 64 ≡ upper n c = omega arith in
    rw (inside-between low high (0x80 + upper n c % 64) h.1.0 h.1.1)
    (tails-sixes n 0x80 0xBF _ (suc len) c s (f, any n) ∙ ap (Char c) (omega arith))
  where
    any : (k : ℕ) → Next k 0x80 0xBF c
    any zero = tt
    any (suc k) = omega arith

-- After a first byte, groups of six bits make the whole character.
abbrev Reads : ℕ → ℕ → List ℕ → Option Lead → Type 0
Reads n c s l = after_lead l (sixes n c ++ s) ≡ Char c (1 + n)

-- They do so after the first byte of a scalar value.
lead_sixes : (n b c : ℕ) (s : List ℕ) → Size n c → b ≡ mark n + upper n c → Reads n c s (lead_of b)
unfolding after_lead
lead_sixes zero b c s h e = rw (lt-ltb b 0x80 (omega arith)) (tails-sixes 0 _ _ _ 1 c s (omega arith))
lead_sixes (suc zero) b c s h e =
    rw (le-ltb b 0x80 (omega arith), le-ltb b 0xC2 (omega arith), lt-ltb b 0xE0 (omega arith)) (tails-sixes 1 _ _ _ 1 c s (omega arith))
lead_sixes (suc (suc zero)) b c s h e =
    rw (le-ltb b 0x80 (omega arith), le-ltb b 0xC2 (omega arith), le-ltb b 0xE0 (omega arith), lt-ltb b 0xF0 (omega arith))
    (if_both (Reads 2 c s) (eqb b 0xE0) _ _ (λ t0. tails-sixes 2 _ _ _ 1 c s (omega facts)) (λ t0.
    if_both (Reads 2 c s) (eqb b 0xED) _ _ (λ t1. tails-sixes 2 _ _ _ 1 c s (omega facts)) (λ t1. tails-sixes 2 _ _ _ 1 c s (omega facts))))
lead_sixes (suc (suc (suc zero))) b c s h e =
    rw (le-ltb b 0x80 (omega arith), le-ltb b 0xC2 (omega arith), le-ltb b 0xE0 (omega arith), ne_eqb b 0xE0 (omega arith))
    (rw (ne_eqb b 0xED (omega arith), le-ltb b 0xF0 (omega arith))
    (if_both (Reads 3 c s) (eqb b 0xF0) _ _ (λ t0. tails-sixes 3 _ _ _ 1 c s (omega facts)) (λ t0.
    if_both (Reads 3 c s) (ltb b 0xF4) _ _ (λ t1. tails-sixes 3 _ _ _ 1 c s (omega facts)) (λ t1.
    rw (eq-eqb b 0xF4 (omega facts)) (tails-sixes 3 _ _ _ 1 c s (omega facts))))))
lead_sixes (suc (suc (suc (suc n)))) b c s h e = absurd h

-- A scalar value has one to four bytes, and at most three below 0x10000.
octets-length : (c : ℕ) → scalar c ≡ true → (1 ≤ length (octets c)) × (length (octets c) ≤ 4) × (c < 0x10000 → length (octets c) ≤ 3)
octets-length c e =
    let k = scalar-sized c e in
    rw (octets-sixes k.0 c k.1.0, length-sixes) (omega arith, omega arith, λ p. omega (arith, k.1.2 p))

-- The bytes of a scalar value are read back as that value.
read-octets : (c : ℕ) (s : List ℕ) → scalar c ≡ true → read_char (octets c ++ s) ≡ Char c (length (octets c))
unfolding read_char
read-octets c s e =
    let k = scalar-sized c e in
    rw (octets-sixes k.0 c k.1.0, length-sixes) (lead_sixes k.0 _ c s k.1.0 refl ∙ ap (Char c) (omega arith))

-- Every number is written as a scalar value.
written-scalar : (c : ℕ) → scalar (written c) ≡ true
written-scalar c = if_both (λ (n : ℕ). scalar n ≡ true) (scalar c) c 0xFFFD (λ t. t) (λ t. refl)

-- A scalar value is written as its own bytes.
pub encode-octets : (c : ℕ) → scalar c ≡ true → encode c ≡ octets c
unfolding encode
encode-octets c e = rw e

-- Every number is written in one to four bytes.
pub encode-short : (c : ℕ) → (1 ≤ length (encode c)) × (length (encode c) ≤ 4)
unfolding encode
encode-short c = omega (arith, octets-length (written c) (written-scalar c))

-- Every number below 0x10000 is written in at most three bytes.
pub encode_three : (c : ℕ) → c < 0x10000 → length (encode c) ≤ 3
unfolding encode
encode_three c p =
    (octets-length (written c) (written-scalar c)).2 (if_both (λ n. n < 0x10000) (scalar c) c 0xFFFD (λ t. p) (λ t. omega arith))

-- Every number is read back as the scalar value that it is written as.
pub encode-scalar : (c : ℕ) (s : List ℕ) → (read_char (encode c ++ s) ≡ Char (written c) (length (encode c))) × (scalar (written c) ≡ true)
unfolding encode
encode-scalar c s = (read-octets (written c) s (written-scalar c), written-scalar c)

-- A scalar value is read back as it is.
pub read-encode : (c : ℕ) (s : List ℕ) → scalar c ≡ true → read_char (encode c ++ s) ≡ Char c (length (encode c))
read-encode c s e = rw e at (encode-scalar c s).0
