-- Laws of a turn in a name: it goes on, it is closed by its `;`, or it is settled.
use Rattle.std.specs.Prelude.{if◌then◌else◌, Option, Some, None, IfSome, is_some}
use Prim.Native.Nat.{ℕ, zero, suc, ◌+◌, ◌-◌, ◌≤◌, ◌<◌}
use Prim.Native.Char.{code}
use mathlib.Core.Path.{◌≡◌, refl, sym, ◌∙◌, ap, subst}
use mathlib.Core.List.{List, [], ◌∷◌, ◌++◌, append-nil}
use mathlib.Core.Logic.{◌⊎◌, inl, inr, ◌≢◌}
use mathlib.Core.Bool.{Bool, true, false, ◌||◌}
use native.Mathlib.Omega.{arith}
use lib.Dec.{eqb}
use lib.ListN.{length, take, drop, set, length-append}
use lib.Seq.{drop-length, take-nil, take_at}
use borrow.Author.Tests.{ne_eqb, eq-eqb, eqb-true}
use Rattle.lists.specs.Notation.{next_passes, front}
use Rattle.lists.proofs.Choice.{no_way}
use Rattle.standard.specs.declared.Context.{Context}
use Rattle.standard.specs.declared.names.Found.{Found}
use Rattle.standard.specs.Utf8.{octets, encode}
use Rattle.standard.specs.Errors.{error, placed, no_error, unknown_named_character_reference}
use Rattle.standard.specs.Classes.{alphanumeric, character_code}
use Rattle.standard.specs.Names.{found_of, longest, begins}
use Rattle.standard.specs.NameList.{builtin}
use Rattle.standard.specs.Pieces as standard
use Rattle.standard.specs.Pieces.{ampersand, unknown_name, named_by, char_ref_text}
use Rattle.standard.specs.Reading.{reading, reading_at, ◌⊕◌}
use Rattle.standard.proofs.Computing.{computing}
use Rattle.standard.proofs.Narrow.{longest-fits}
use Rattle.decoder.specs.declared.pieces.Piece.{Piece}
use Rattle.decoder.specs.declared.stream.Held.{Held}
use Rattle.decoder.specs.declared.stream.State.{State}
use Rattle.decoder.specs.declared.turns.Turn.{Turn}
use Rattle.decoder.specs.Held.{held_name}
use Rattle.decoder.specs.Machine.{
  Data,
  Named,
  BogusName,
  Step,
  to,
  step_after,
  text_only,
  step_data,
  step_bogus,
  finish_named,
  settle,
  step_named,
  finish,
}
use Rattle.decoder.specs.Pieces.{piece_of, one_of, none_of}
use Rattle.decoder.specs.Stream.{store_of, mark_of, kind_of, held_of}
use Rattle.decoder.specs.Turns.{ascii_of, name_of, Stored, NameHeld, Releases, Turns, Follows}
use Rattle.decoder.proofs.Looks.{own_byte, alphanumeric-ascii, equal_ascii, or_ascii}
use Rattle.decoder.proofs.Tidy.{builtin_tidy, Alphanumerics, next-held, closed-length}
use Rattle.decoder.proofs.Means.{unknown_rest, unknown-held, named-size, named-near}
use Rattle.decoder.proofs.Holding.{by_none, by_closed}
use Rattle.decoder.proofs.TurnLaws.{
  ascii_test,
  follows_text,
  follows_none,
  all_read,
  stored_bytes,
  stored_length,
  releases,
  turns,
  turns_last,
  turns_absorbed,
  stored_more,
  hold_is,
}
use Rattle.decoder.proofs.Turning.{held-begins, held-alphanumeric, begins-short, next-ascii, begins_ascii, begins_own}

-- All but the first element, and then n - 1 of the rest.
drop_past : (n a : ℕ) (l : List ℕ) → 1 ≤ n → drop n (a ∷ l) ≡ drop (n - 1) l
drop_past zero a l h = absurd (omega arith)
drop_past (suc n) a l h = ap (λ (k : ℕ). drop k l) (let e : n ≡ suc n - 1 = omega arith in e)

-- Whether a name that ends with b is unknown.
rest-closed : (b : ℕ) → alphanumeric b ≡ false → unknown_rest (b ∷ []) ≡ eqb b (code ";")
unfolding unknown_rest front
rest-closed b e = rw e

-- Not where b is a letter or digit.
rest_open : (b : ℕ) → alphanumeric b ≡ true → unknown_rest (b ∷ []) ≡ false
unfolding unknown_rest front
rest_open b e = rw e

-- Nor at the end.
rest-none : unknown_rest [] ≡ false
unfolding unknown_rest front
rest-none = refl

-- A `;` after a name that is no name: its error is the `&`'s.
closed-step : (q p c : ℕ) (h : List ℕ) → c ≡ code ";"
    → step_after (reading (code "&" ∷ h) (error unknown_named_character_reference q ∷ [])) (step_data p c (encode c))
    ≡ step_after (text_only (code "&" ∷ h)) (step_bogus q p c (encode c))
unfolding step_data step_bogus encode octets character_code placed
closed-step q p c h e = rw e

-- Of a name and what is next after it, a piece and what is left of the name.
name-read : (q : ℕ) (h : List ℕ) (x : Piece) (y : standard.Piece) → piece_of x ≡ y → 1 ≤ y.size
    → reading_at q (piece_of x) ⊕ text_only (drop x.size (code "&" ∷ h)) ≡ reading_at q y ⊕ text_only (drop (y.size - 1) h)
name-read q h x y e some =
    ap (λ (z : standard.Piece). reading_at q z ⊕ text_only (drop z.size (code "&" ∷ h))) e
    ∙ ap (λ (l : List ℕ). reading_at q y ⊕ text_only l) (drop_past y.size (code "&") h some)

-- A closed name is read as its characters.
closed_read : (context : Context) (q : ℕ) (h : List ℕ) → Alphanumerics h → let k = h ++ code ";" ∷ [] in begins builtin k ≡ true
    → finish_named context q (longest builtin k) k [] ≡ reading (char_ref_text (longest builtin k).reference) []
unfolding finish_named placed
closed_read context q h al e =
    let k = h ++ code ";" ∷ [] in
    let found = longest builtin k in
    let long = closed-length builtin h builtin_tidy al e in
    let size : suc found.len - 1 ≡ length k = omega (arith, long) in
    ap (λ (y : standard.Piece). reading_at q y ⊕ text_only (drop (y.size - 1) k)) (by_closed builtin context found h [] long)
    ∙ ap (λ (l : List ℕ). reading (char_ref_text found.reference ++ l) []) (ap (λ (n : ℕ). drop n k) size ∙ drop-length k)
    ∙ ap (λ (l : List ℕ). reading l []) (append-nil (char_ref_text found.reference))

module _ {held : Held} {h : List ℕ} {c : ℕ} (on : NameHeld held h c) where
  -- What is held is letters and digits.
  name_letters : Alphanumerics h
  name_letters = held-alphanumeric h on.name

  -- It is short.
  pub name_short : length h ≤ 10
  name_short = begins-short h (held-begins h on.name)

  -- With the character it begins with a letter or digit.
  name_first : next_passes alphanumeric (h ++ ascii_of c ∷ []) ≡ true
  name_first = go h name_letters on.first
    where
      go : (h : List ℕ) → Alphanumerics h → (0 < length h) ⊎ (alphanumeric c ≡ true) → next_passes alphanumeric (h ++ ascii_of c ∷ []) ≡ true
      go [] al (inl e) = absurd (omega arith)
      go [] al (inr e) = ascii_test alphanumeric alphanumeric-ascii c ∙ e
      go (x ∷ h) al e = al.0

  module _ (context : Context) (p : ℕ) (x : Piece) (is : piece_of x ≡ named_by context (longest builtin h) (h ++ ascii_of c ∷ [])) where
    -- A name is found, and the character stands after it.
    pub settle_found : {t : Turn} → (longest builtin h).len ≢ 0 → Follows x p t (step_data p c (encode c))
        → Turns held p t (settle context held.place (longest builtin h) h p c (encode c))
    unfolding settle finish_named
    settle_found some follows =
        let found = longest builtin h in
        let len = ne_eqb found.len 0 some in
        let fits = (longest-fits builtin h).0 in
        let size = named-size context found (h ++ encode c) in
        let near =
        next-ascii (λ b. eqb b (code "=") || alphanumeric b)
        (or_ascii (λ b. eqb b (code "=")) alphanumeric (equal_ascii (code "=") (omega arith)) alphanumeric-ascii) c in
        let same = is ∙ named-near context found h (ascii_of c ∷ []) (encode c) len fits (sym near) in
        rw len
        (turns on.stored follows refl (name-read held.place h x (named_by context found (h ++ encode c)) same size.0)
        (omega (arith, size, fits, ap (λ (y : standard.Piece). y.size) same)))

    module _ (none : (longest builtin h).len ≡ 0) where
      -- No name is found: the `&` is alone, with an error where the name is unknown.
      none_read : {u : Bool} → unknown_rest (ascii_of c ∷ []) ≡ u → piece_of x ≡ ampersand (if u then unknown_named_character_reference else no_error)
      none_read e =
          is ∙ by_none builtin context (longest builtin h) (h ++ ascii_of c ∷ []) none
          ∙ ap (λ (t : Bool). ampersand (if t then unknown_named_character_reference else no_error))
          (unknown-held h (ascii_of c ∷ []) name_letters name_first ∙ e)

      -- Such a turn, by what the step is then.
      none_turns : {u : Bool} {t : Turn} {step : Step} → unknown_rest (ascii_of c ∷ []) ≡ u → Follows x p t step
          → Turns held p t
          (step_after (reading_at held.place (ampersand (if u then unknown_named_character_reference else no_error)) ⊕ text_only h) step)
      none_turns {u} e follows =
          let same = none_read e in
          turns on.stored follows refl (name-read held.place h x (ampersand (if u then 4 else 0)) same (omega arith))
          (omega (arith, ap (λ (y : standard.Piece). y.size) same))

      -- A letter or digit goes on with a name that is no name.
      pub settle_goes : {own : Piece} {next : Held} → alphanumeric c ≡ true → own ≡ one_of 1 c 0 0 → next ≡ held_of (BogusName held.place)
          → Turns held p (record { released = x; own = own; next = next })
          (settle context held.place (longest builtin h) h p c (encode c))
      unfolding settle step_bogus placed
      settle_goes e one next =
          rw (none, e)
          (none_turns (rest_open (ascii_of c) (ascii_test alphanumeric alphanumeric-ascii c ∙ e))
          (follows_text p c (BogusName held.place) one next))

      -- Another character ends it.
      pub settle_ends : {t : Turn} → alphanumeric c ≡ false → Follows x p t (step_data p c (encode c))
          → Turns held p t (settle context held.place (longest builtin h) h p c (encode c))
      unfolding settle placed step_bogus
      settle_ends {t} e follows = rw none (go (eqb c (code ";")) refl)
        where
          rest : unknown_rest (ascii_of c ∷ []) ≡ eqb c (code ";")
          rest =
              rest-closed (ascii_of c) (ascii_test alphanumeric alphanumeric-ascii c ∙ e)
              ∙ ascii_test (λ b. eqb b (code ";")) (equal_ascii (code ";") (omega arith)) c

          go : (u : Bool) → eqb c (code ";") ≡ u → Turns held p t (step_after (text_only (code "&" ∷ h)) (step_bogus held.place p c (encode c)))
          go true f = subst (Turns held p t) (closed-step held.place p c h (eqb-true c (code ";") f)) (none_turns (rest ∙ f) follows)
          go false f = rw (e, f) (none_turns (rest ∙ f) follows)

  -- What is held next has one byte b more, which is the character's.
  module _ {b : ℕ} {state : State} {next : Held} (is : b ≡ ascii_of c)
      (e : next ≡ record { state = state; place = held.place; store = set held.store held.count b; count = held.count + 1 }) where
    -- Those are its bytes.
    more_held : Stored next (code "&" ∷ h ++ b ∷ [])
    more_held = stored_more on.stored b (omega (arith, name_short)) (ap (λ (x : Held). x.store) e) (ap (λ (x : Held). x.count) e)

    -- There is room for it.
    pub rest_fits : held.count + 1 ≤ length next.store
    rest_fits =
        let size = length-append h (b ∷ []) in
        omega (arith, stored_length more_held (omega (arith, size, name_short)), on.stored.count_is, name_short)

    -- After its `&` the store has the name and that byte.
    pub rest_held : take (held.count + 1 - 1) (drop 1 next.store) ≡ h ++ ascii_of c ∷ []
    rest_held =
        ap (λ (l : List ℕ). take (held.count + 1 - 1) (drop 1 l)) more_held.store_is
        ∙ take_at (h ++ b ∷ []) _ (held.count + 1 - 1) (omega (arith, length-append h (b ∷ []), on.stored.count_is))
        ∙ ap (λ (x : ℕ). h ++ x ∷ []) is

  -- The character settles the name where it doesn't go on.
  pub named_settles : (context : Context) (p : ℕ) {t : Turn} → begins builtin (h ++ ascii_of c ∷ []) ≡ false
      → Turns held p t (settle context held.place (longest builtin h) h p c (encode c))
      → Turns held p t (step_named builtin context held.place h p c (encode c))
  unfolding step_named
  named_settles context p ends w = rw (begins_ascii h c name_letters ∙ ends) w

  module _ (context : Context) (p : ℕ) (goes : begins builtin (h ++ ascii_of c ∷ []) ≡ true) where
    -- The name goes on with the character.
    goes_on : begins builtin (h ++ encode c) ≡ true
    goes_on = begins_ascii h c name_letters ∙ goes

    -- One byte more is held.
    pub named_goes : {t : Turn} {count b : ℕ} {next : Held} → t ≡ record { released = none_of count; own = none_of 0; next = next }
        → count ≡ held.count → b ≡ ascii_of c
        → next ≡ record { state = kind_of (Named 0 []); place = held.place; store = set held.store held.count b; count = held.count + 1 }
        → eqb c (code ";") ≡ false → Turns held p t (step_named builtin context held.place h p c (encode c))
    unfolding step_named store_of mark_of kind_of
    named_goes {b = b} e count is next other =
        rw (goes_on, other)
        (turns_absorbed on.stored p (Named held.place (h ++ encode c)) e (count ∙ on.stored.count_is)
        (hold_is on.stored (Named held.place (h ++ encode c)) b next (omega (arith, name_short))
        (ap (λ (l : List ℕ). code "&" ∷ h ++ l) (begins_own h c name_letters goes ∙ ap (λ (x : ℕ). x ∷ []) (sym is)))))

    -- The name is closed.
    pub named_closes : {x own : Piece} {next : Held} → c ≡ code ";"
        → x ≡ record { size = held.count; reference = (longest builtin (h ++ code ";" ∷ [])).reference; first = 0; second = 0 }
        → own ≡ none_of 0 → next ≡ held_of Data
        → Turns held p (record { released = x; own = own; next = next }) (step_named builtin context held.place h p c (encode c))
    unfolding step_named placed
    named_closes {x} {own} {next} e is none empty =
        let bytes : encode c ≡ code ";" ∷ [] = ap encode e ∙ own_byte (code ";") (omega arith) in
        let closes = sym (ap (λ (l : List ℕ). begins builtin (h ++ l)) bytes) ∙ goes_on in
        rw (goes_on, eq-eqb c (code ";") e)
        (subst
        (λ (l : List ℕ). Turns held p (record { released = x; own = own; next = next })
        (to (finish_named context held.place (longest builtin (h ++ l)) (h ++ l) []) Data))
        (sym bytes)
        (turns_last on.stored (follows_none p Data none empty) is
        (all_read held.place (code "&" ∷ h)
        (record { size = held.count; reference = (longest builtin (h ++ code ";" ∷ [])).reference; first = 0; second = 0 }) refl
        on.stored.count_is
        ∙ sym (closed_read context held.place h name_letters closes))
        (omega (arith, on.stored.count_is))))

-- A name was found where it has a byte.
pub found_some : (o : Option Found) (m : ℕ) → IfSome o (λ f. (1 ≤ f.len) × (f.len ≤ m)) → is_some o ≡ true → (found_of o).len ≢ 0
found_some None m there e = no_way (sym e)
found_some (Some f) m there e = λ z. omega (arith, z, there.0)

pub found_none : (o : Option Found) → is_some o ≡ false → (found_of o).len ≡ 0
found_none None e = refl
found_none (Some f) e = no_way e

-- Nothing is a beginning of a name.
name-nothing : held_name builtin [] ≡ true
unfolding computing
name-nothing = refl

-- An `&` before a letter or digit.
pub begin-name : {held : Held} {c : ℕ} → Stored held (code "&" ∷ []) → alphanumeric c ≡ true → NameHeld held (name_of held) c
begin-name {held} {c} stored e =
    subst (λ (h : List ℕ). NameHeld held h c) (sym (ap (drop 1) (stored_bytes stored)))
    (record { stored = stored; name = name-nothing; first = inr e })

-- What is held of a name is within the store.
pub name-within : {held : Held} {h : List ℕ} → Stored held (code "&" ∷ h) → held_name builtin h ≡ true → held.count ≤ length held.store
name-within {held} {h} stored name =
    let few = begins-short h (held-begins h name) in omega (arith, stored_length stored (omega (arith, few)), stored.count_is, few)

-- What is held after the `&`, as a part of the store.
pub name-part : (n : ℕ) (l : List ℕ) → 1 ≤ n → take (n - 1) (drop 1 l) ≡ drop 1 (take n l)
name-part zero l h = absurd (omega arith)
name-part (suc n) [] h = take-nil (suc n - 1)
name-part (suc n) (a ∷ l) h = ap (λ (k : ℕ). take k l) (let e : suc n - 1 ≡ n = omega arith in e)

-- At the end what is held of a name is read as it stands.
pub name-finish : {held : Held} {h : List ℕ} (context : Context) (x : Piece) → Stored held (code "&" ∷ h) → held_name builtin h ≡ true → 0 < length h
    → piece_of x ≡ named_by context (longest builtin h) h → Releases held x (finish builtin context (Named held.place h))
unfolding finish finish_named placed
name-finish {held} {h} context x stored name some is = go (eqb (longest builtin h).len 0) refl
  where
    size : (1 ≤ (named_by context (longest builtin h) h).size) × ((named_by context (longest builtin h) h).size ≤ suc (longest builtin h).len)
    size = named-size context (longest builtin h) h

    none : (longest builtin h).len ≡ 0 → piece_of x ≡ ampersand no_error
    none e =
        let al = held-alphanumeric h name in
        is ∙ by_none builtin context (longest builtin h) h e
        ∙ ap (λ (t : Bool). ampersand (if t then unknown_named_character_reference else no_error))
        (ap unknown_name (sym (append-nil h)) ∙ unknown-held h [] al (next-held h [] al some) ∙ rest-none)

    go : (t : Bool) → eqb (longest builtin h).len 0 ≡ t → Releases held x
        (if t then text_only (code "&" ∷ h) else finish_named context held.place (longest builtin h) h [])
    go true e =
        let same = none (eqb-true (longest builtin h).len 0 e) in
        releases stored refl (name-read held.place h x (ampersand no_error) same (omega arith))
        (omega (arith, ap (λ (y : standard.Piece). y.size) same))
    go false e =
        releases stored refl
        (name-read held.place h x (named_by context (longest builtin h) h) is size.0
        ∙ ap (λ (l : List ℕ). let y = named_by context (longest builtin h) l in reading_at held.place y ⊕ text_only (drop (y.size - 1) h))
        (sym (append-nil h)))
        (omega (arith, size, (longest-fits builtin h).0, ap (λ (y : standard.Piece). y.size) is))
