-- Bytes that are all taken, none of which ends the call: a walk with room for what they give goes on after them.
use Prim.Native.Nat.{ℕ, ◌+◌, ◌-◌, ◌≤◌, ◌<◌}
use mathlib.Core.Path.{◌≡◌, refl, sym, ◌∙◌, ap, subst}
use mathlib.Core.List.{List, [], ◌∷◌, ◌++◌, append_assoc}
use mathlib.Core.Bool.{false}
use native.Mathlib.Omega.{arith}
use lib.ListN.{length, length-append}
use borrow.Author.Tests.{le-ltb}
use Rattle.standard.specs.declared.characters.CharRead.TheVariants.{Char, Incomplete}
use Rattle.standard.specs.Answers.{done, text_room, errors_room}
use Rattle.standard.specs.Utf8.{read_char}
use Rattle.standard.proofs.Utf8.{read-begun}
use Rattle.machines.specs.Machine.{takes, Machine}
use Rattle.machines.specs.Stream.{At, at_by, lacks_room, byte, onward, walk}
use Rattle.machines.specs.Laws.{Joins, Sizes, ahead}
use Rattle.machines.proofs.Walks.{walk_goes_on}
use Rattle.machines.proofs.Table.{ahead_none, ahead_on, left_none, left_join}

-- Where so much is free a byte is taken.
pub room-there : (text numbers : ℕ) → text_room ≤ text → errors_room ≤ numbers → lacks_room text numbers ≡ false
room-there text numbers h k = rw (le-ltb text text_room h, le-ltb numbers errors_room k)

module _ (M : Machine) where
  -- From somewhere all bytes of a list are taken, none of them ends the call: g is given, and the stream is then there.
  pub data Goes : At M.State → List ℕ → (g : M.Out) → At M.State → Type 0 where
    nil : {at : At M.State} → Goes at [] M.none at
    one : {at next there : At M.State} {b : ℕ} {s : List ℕ} {g h : M.Out} → byte M at b ≡ takes done g next → Goes next s h there
        → Goes at (b ∷ s) (M.join g h) there

module _ (M : Machine) (laws : Joins M) where
  -- One list after the other.
  pub goes_append : {at next there : At M.State} {s t : List ℕ} {g h : M.Out} → Goes M at s g next → Goes M next t h there
      → Goes M at (s ++ t) (M.join g h) there
  goes_append {at} {there = there} {t = t} {h = h} nil later = subst (λ (x : M.Out). Goes M at t x there) (sym (laws.first h)) later
  goes_append {at} {there = there} {t = t} {h = k} (one {b = b} {s = s} {g = g} {h = h} e more) later =
      subst (λ (x : M.Out). Goes M at (b ∷ s ++ t) x there) (sym (laws.assoc g h k)) (one e (goes_append more later))

  -- The bytes of a character that is taken, from one that is begun on.
  char_rest : (st : M.State) (p c : ℕ) (part rest : List ℕ) → 0 < length rest → read_char (part ++ rest) ≡ Char c (length (part ++ rest))
      → {g : M.Out} {next : M.State} → M.reads st p c (part ++ rest) ≡ takes done g next
      → Goes M (at_by st part (p + length part)) rest g (at_by next [] (p + length (part ++ rest)))
  unfolding byte
  char_rest st p c part [] some e r = absurd (omega arith)
  char_rest st p c part (b ∷ []) some e {g} {next} r =
      subst (λ (x : M.Out). Goes M (at_by st part (p + length part)) (b ∷ []) x (at_by next [] (p + length (part ++ b ∷ [])))) (laws.last g)
      (one (rw (e, here, r) (ap (λ (n : ℕ). takes done g (at_by next [] n)) (omega (arith, length-append part (b ∷ []))))) nil)
    where
      here : p + length part - length part ≡ p
      here = omega arith
  char_rest st p c part (b ∷ d ∷ rest) some e {g} {next} r =
      subst (λ (x : M.Out). Goes M (at_by st part (p + length part)) (b ∷ d ∷ rest) x (at_by next [] (p + length (part ++ b ∷ d ∷ rest))))
      (laws.first g)
      (one (rw begun (ap (λ (n : ℕ). takes done M.none (at_by st (part ++ b ∷ []) n)) (omega (arith, long))))
      (subst (λ (l : List ℕ). Goes M (at_by st (part ++ b ∷ []) (p + length (part ++ b ∷ []))) (d ∷ rest) g (at_by next [] (p + length l))) same
      (char_rest st p c (part ++ b ∷ []) (d ∷ rest) (omega arith) (rw same e) (rw same r))))
    where
      same : (part ++ b ∷ []) ++ d ∷ rest ≡ part ++ b ∷ d ∷ rest
      same = append_assoc part (b ∷ []) (d ∷ rest)

      long : length (part ++ b ∷ []) ≡ length part + 1
      long = length-append part (b ∷ [])

      begun : read_char (part ++ b ∷ []) ≡ Incomplete (length (part ++ b ∷ []))
      begun =
          read-begun (part ++ b ∷ []) (d ∷ rest) c (length (part ++ b ∷ d ∷ rest)) (rw same e) (omega (arith, long))
          (omega (arith, long, length-append part (b ∷ d ∷ rest)))

  -- The bytes of a character that is taken.
  pub char_goes : (st : M.State) (p c : ℕ) (own : List ℕ) → 0 < length own → read_char own ≡ Char c (length own) → {g : M.Out} {next : M.State}
      → M.reads st p c own ≡ takes done g next → Goes M (at_by st [] p) own g (at_by next [] (p + length own))
  char_goes st p c own some e {g} {next} r =
      subst (λ (n : ℕ). Goes M (at_by st [] n) own g (at_by next [] (p + length own))) (omega arith) (char_rest st p c [] own some e r)

module _ (M : Machine) (laws : Joins M) (sizes : Sizes M) where
  -- A walk with room for all that is given, and for one byte more, goes on after them.
  pub goes_walk : {at there : At M.State} {s : List ℕ} {g : M.Out} → Goes M at s g there → (rest : List ℕ) (text numbers : ℕ)
      → text_room + M.text g ≤ text → errors_room + M.numbers g ≤ numbers
      → walk M text numbers at (s ++ rest) ≡ ahead M (length s) g (walk M (text - M.text g) (numbers - M.numbers g) there rest)
  goes_walk {at} nil rest text numbers h k =
      left_none M laws sizes (λ t n. walk M text numbers at rest ≡ ahead M 0 M.none (walk M t n at rest)) text numbers
      (ahead_none M laws sizes (walk M text numbers at rest))
  goes_walk {at} {there} (one {next = next} {b = b} {s = s} {g = g} {h = later} e more) rest text numbers h k =
      let t = sizes.text_join g later in
      let n = sizes.numbers_join g later in
      left_join M laws sizes
      (λ t n. walk M text numbers at (b ∷ s ++ rest) ≡ ahead M (length (b ∷ s)) (M.join g later) (walk M t n there rest)) text numbers g later
      (walk_goes_on M text numbers at b (s ++ rest) (room-there text numbers (omega arith) (omega arith)) done g next e refl
      ∙ ap (onward M g) (goes_walk more rest (text - M.text g) (numbers - M.numbers g) (omega arith) (omega arith))
      ∙ ahead_on M laws sizes (length s) g later _)
