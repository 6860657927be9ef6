-- Laws of the walk over a chunk: byte by byte, and then character by character.
use Rattle.std.specs.Prelude.{if◌then◌else◌}
use Prim.Native.Nat.{ℕ, suc, ◌+◌, ◌-◌, ◌*◌, ◌≤◌, ◌<◌}
use mathlib.Core.Path.{◌≡◌, refl, sym, ◌∙◌, ap, ap₂, subst}
use mathlib.Core.List.{List, [], ◌∷◌, ◌++◌, append_assoc}
use mathlib.Core.Bool.{Bool, true, false, not}
use mathlib.Core.Logic.{◌≢◌, ⊎_elim}
use native.Mathlib.Omega.{arith}
use lib.ListN.{length, take, drop, length-append}
use lib.Seq.{take_at}
use lib.Dec.{eqb}
use borrow.Author.Tests.{eqb-false}
use Rattle.lists.proofs.Choice.{below?}
use Rattle.standard.specs.declared.Context.{Context}
use Rattle.standard.specs.declared.characters.CharRead.{CharRead}
use Rattle.standard.specs.declared.characters.CharRead.TheVariants.{Char, Incomplete, Illformed, End}
use Rattle.standard.specs.Utf8.{read_char}
use Rattle.standard.specs.Answers.{done, room_used_up}
use Rattle.standard.specs.Names.{Name}
use Rattle.standard.specs.Reading.{calls_for, Reading, ◌⊕◌}
use Rattle.standard.proofs.Joining.{⊕-assoc, ⊕-none}
use Rattle.standard.proofs.Utf8.{read-append, read_length, end-length, incomplete_length, illformed_length, read_take}
use Rattle.decoder.specs.Machine.{St, Step, nothing, step}
use Rattle.decoder.specs.Feeding.{byte_walk}
use Rattle.decoder.specs.Stream.{At, at_by, called_for, Move, move_by, Walked, stops_at, onward, last_of, lacks_room, walk}

-- What is read goes beyond the first k bytes: a whole character has more, and an ill-formed byte is not among them.
abbrev Beyond : ℕ → CharRead → Type 0
Beyond k (Char c n) = k < n
Beyond k (Incomplete n) = Unit {0}
Beyond k (Illformed n) = k ≤ n
Beyond k End = Unit {0}

-- The first bytes of what is read beyond them are a beginning of a character.
read-begun : (s t : List ℕ) (r : CharRead) → read_char (s ++ t) ≡ r → 0 < length s → Beyond (length s) r → read_char s ≡ Incomplete (length s)
read-begun s t r e some beyond = go (read_char s) refl
  where
    far : (q : CharRead) → read_char (s ++ t) ≡ q → Beyond (length s) q
    far q f = subst (Beyond (length s)) (sym e ∙ f) beyond

    go : (q : CharRead) → read_char s ≡ q → q ≡ Incomplete (length s)
    go (Char c n) f = absurd (omega (arith, far (Char c n) (read-append s t (Char c n) f tt), read_length s c n f))
    go (Incomplete n) f = ap Incomplete (incomplete_length s n f).0
    go (Illformed n) f = absurd (omega (arith, far (Illformed n) (read-append s t (Illformed n) f tt), illformed_length s n f))
    go End f = absurd (omega (arith, end-length s f))

-- The bytes of a character up to b.
own-take : (part : List ℕ) (b n : ℕ) (s : List ℕ) → n ≡ suc (length part) → take n (part ++ b ∷ s) ≡ part ++ b ∷ []
own-take part b n s e =
    ap (take n) (sym (append_assoc part (b ∷ []) s)) ∙ take_at (part ++ b ∷ []) s n (length-append part (b ∷ []) ∙ omega arith)

-- What is released before, and before that.
onward_twice : (a b : Reading) (w : Walked) → onward a (onward b w) ≡ onward (a ⊕ b) w
onward_twice a b w = ap (λ (g : Reading). stops_at w.answer g w.stop) (sym (⊕-assoc a b w.gives))

-- A walk that goes on with one after a byte.
abbrev after_byte : (full taken : Bool) → At → Walked → Walked → Walked
after_byte full taken at w rest =
    if full then stops_at room_used_up nothing at else if taken then onward w.gives rest else w

-- Two walks one after the other.
module _ (names : List Name) (context : Context) where
  -- A walk with the room that is left after a reading.
  abbrev pub walk_after : Reading → (text errors : ℕ) → At → List ℕ → Walked
  walk_after g text errors at s = walk names context (text - length g.text) (errors - 2 * length g.errors) at s

  -- The room that is left after two readings.
  left_twice : (a b : Reading) (text errors : ℕ) (at : At) (s : List ℕ)
      → walk_after b (text - length a.text) (errors - 2 * length a.errors) at s ≡ walk_after (a ⊕ b) text errors at s
  left_twice a b text errors at s =
      ap₂ (λ (t e : ℕ). walk names context t e at s)
      (let i : text - length a.text - length b.text ≡ text - length (a.text ++ b.text) = simp length-append (omega arith) in i)
      (let i : errors - 2 * length a.errors - 2 * length b.errors ≡ errors - 2 * length (a.errors ++ b.errors) =
      simp length-append (omega arith) in i)

  -- What a byte comes to: no room, a stop, or what the rest comes to.
  abbrev byte_by : (full taken : Bool) (answer : ℕ) → At → Reading → Walked → Walked
  byte_by full taken answer at gives rest =
      if full then stops_at room_used_up nothing at
      else if not taken then stops_at answer (last_of names context answer at.st) at
      else onward gives rest

  -- Where all of the first bytes are taken the walk goes on from where they end.
  pub walk_goes_on : (text errors : ℕ) (at : At) (s t : List ℕ) → (walk names context text errors at s).answer ≡ done
      → let w = walk names context text errors at s in
      walk names context text errors at (s ++ t) ≡ onward w.gives (walk_after w.gives text errors w.stop t)
  unfolding walk
  walk_goes_on text errors at [] t e =
      ap₂ (λ (x y : ℕ). walk names context x y at t) (let i : text ≡ text - 0 = omega arith in i) (let i : errors ≡ errors - 0 = omega arith in i)
  walk_goes_on text errors at (b ∷ s) t e =
      go (lacks_room text errors) (eqb (called_for context (read_char own)) done) refl
      (walk names context (text - length m.gives.text) (errors - 2 * length m.gives.errors) m.to s)
      (walk names context (text - length m.gives.text) (errors - 2 * length m.gives.errors) m.to (s ++ t))
      (walk_goes_on (text - length m.gives.text) (errors - 2 * length m.gives.errors) m.to s t) e
    where
      own : List ℕ
      own = at.part ++ b ∷ []

      m : Move
      m = move_by names context at (read_char own) own

      go : (full taken : Bool) → eqb (called_for context (read_char own)) done ≡ taken → (x y : Walked)
          → (x.answer ≡ done
          → y ≡ onward x.gives (walk_after x.gives (text - length m.gives.text) (errors - 2 * length m.gives.errors) x.stop t))
          → (byte_by full taken (called_for context (read_char own)) at m.gives x).answer ≡ done
          → let w = byte_by full taken (called_for context (read_char own)) at m.gives x in
          byte_by full taken (called_for context (read_char own)) at m.gives y
          ≡ onward w.gives (walk_after w.gives text errors w.stop t)
      go true taken f x y later e = absurd (omega arith)
      go false false f x y later e = absurd (omega (arith, eqb-false (called_for context (read_char own)) done f))
      go false true f x y later e =
          ap (onward m.gives) (later e)
          ∙ onward_twice m.gives x.gives
          (walk_after x.gives (text - length m.gives.text) (errors - 2 * length m.gives.errors) x.stop t)
          ∙ ap (onward (m.gives ⊕ x.gives)) (left_twice m.gives x.gives text errors x.stop t)

  -- Two walks that take all of their bytes are one.
  pub walk_more : (text errors : ℕ) (at : At) (s t : List ℕ) {g h : Reading} {here there : At}
      → walk names context text errors at s ≡ stops_at done g here → walk_after g text errors here t ≡ stops_at done h there
      → walk names context text errors at (s ++ t) ≡ stops_at done (g ⊕ h) there
  walk_more text errors at s t {g} first second =
      walk_goes_on text errors at s t (ap (λ (w : Walked). w.answer) first)
      ∙ ap (λ (w : Walked). onward w.gives (walk_after w.gives text errors w.stop t)) first ∙ ap (onward g) second

  -- Where one of the first bytes is not taken nothing after it is looked at.
  pub walk_stops : (text errors : ℕ) (at : At) (s t : List ℕ) → (walk names context text errors at s).answer ≢ done
      → walk names context text errors at (s ++ t) ≡ walk names context text errors at s
  unfolding walk
  walk_stops text errors at [] t e = absurd (e refl)
  walk_stops text errors at (b ∷ s) t e =
      go (lacks_room text errors) (eqb (called_for context (read_char own)) done)
      (walk names context (text - length m.gives.text) (errors - 2 * length m.gives.errors) m.to s)
      (walk names context (text - length m.gives.text) (errors - 2 * length m.gives.errors) m.to (s ++ t))
      (walk_stops (text - length m.gives.text) (errors - 2 * length m.gives.errors) m.to s t) e
    where
      own : List ℕ
      own = at.part ++ b ∷ []

      m : Move
      m = move_by names context at (read_char own) own

      go : (full taken : Bool) → (x y : Walked) → (x.answer ≢ done → y ≡ x)
          → (byte_by full taken (called_for context (read_char own)) at m.gives x).answer ≢ done
          → byte_by full taken (called_for context (read_char own)) at m.gives y ≡ byte_by full taken (called_for context (read_char own)) at
          m.gives x
      go true taken x y later e = refl
      go false false x y later e = refl
      go false true x y later e = ap (onward m.gives) (later e)

  -- The walk over one byte that has its room.
  pub walk_one : (text errors : ℕ) (at : At) (b : ℕ) → lacks_room text errors ≡ false
      → walk names context text errors at (b ∷ []) ≡ byte_walk names context at b
  unfolding walk byte_walk
  walk_one text errors at b room = rw room (go (eqb (called_for context (read_char own)) done))
    where
      own : List ℕ
      own = at.part ++ b ∷ []

      m : Move
      m = move_by names context at (read_char own) own

      go : (taken : Bool) → byte_by false taken (called_for context (read_char own)) at m.gives (stops_at done nothing m.to)
          ≡ (if not taken then stops_at (called_for context (read_char own)) (last_of names context (called_for context (read_char own)) at.st) at
          else stops_at done m.gives m.to)
      go false = refl
      go true = ap (λ (g : Reading). stops_at done g m.to) (⊕-none m.gives)

  -- A walk begins with its first byte.
  pub walk_byte : (text errors : ℕ) (at : At) (b : ℕ) (s : List ℕ) → let w = byte_walk names context at b in
      walk names context text errors at (b ∷ s)
      ≡ after_byte (lacks_room text errors) (eqb w.answer done) at w (walk_after w.gives text errors w.stop s)
  unfolding walk byte_walk
  walk_byte text errors at b s = by (lacks_room text errors) (eqb (called_for context (read_char own)) done) refl
    where
      own : List ℕ
      own = at.part ++ b ∷ []

      m : Move
      m = move_by names context at (read_char own) own

      answer : ℕ
      answer = called_for context (read_char own)

      by : (full taken : Bool) → eqb (called_for context (read_char own)) done ≡ taken
          → let w = (if not taken then stops_at answer (last_of names context answer at.st) at else stops_at done m.gives m.to) in
          (if full then stops_at room_used_up nothing at
          else if not taken then stops_at answer (last_of names context answer at.st) at
          else onward m.gives (walk_after m.gives text errors m.to s))
          ≡ after_byte full (eqb w.answer done) at w (walk_after w.gives text errors w.stop s)
      by true taken f = refl
      by false false f = rw f
      by false true f = refl

module _ (names : List Name) (context : Context) (text errors : ℕ) where
  -- Where a byte lacks its room.
  pub walk_full : (at : At) (s : List ℕ) → 0 < length s → lacks_room text errors ≡ true
      → walk names context text errors at s ≡ stops_at room_used_up nothing at
  unfolding walk
  walk_full at [] some full = absurd (omega arith)
  walk_full at (b ∷ s) some full = rw full

  module _ (room : lacks_room text errors ≡ false) (st : St) where
    -- A walk from here.
    abbrev from : List ℕ → ℕ → List ℕ → Walked
    from part taken s = walk names context text errors (at_by st part taken) s

    -- A byte after which its character is not whole.
    walk_begun : (part : List ℕ) (taken b n : ℕ) (s : List ℕ) → read_char (part ++ b ∷ []) ≡ Incomplete n
        → from part taken (b ∷ s) ≡ from (part ++ b ∷ []) (suc taken) s
    unfolding walk
    walk_begun part taken b n s e =
        rw (room, e) (ap₂ (λ (t m : ℕ). walk names context t m (at_by st (part ++ b ∷ []) (suc taken)) s) (omega arith) (omega arith))

    -- A step of the machine at a place.
    abbrev step_at : ℕ → ℕ → List ℕ → Step
    step_at p c own = step names context st p c own

    -- The walk after a step, n bytes on.
    abbrev next : ℕ → ℕ → ℕ → List ℕ → List ℕ → Walked
    next p taken c own rest =
        let t : Step = step_at p c own in
        onward t.gives
        (walk names context (text - length t.gives.text) (errors - 2 * length t.gives.errors) (at_by t.next [] taken) rest)

    -- A byte after which its character is whole, and is taken.
    walk_whole : (part : List ℕ) (taken b c n : ℕ) (s : List ℕ) → read_char (part ++ b ∷ []) ≡ Char c n → calls_for context c ≡ done
        → from part taken (b ∷ s) ≡ next (taken - length part) (suc taken) c (part ++ b ∷ []) s
    unfolding walk
    walk_whole part taken b c n s e calls = rw (room, e, calls)

    -- The bytes of a character up to b, as a beginning of it.
    begun : (part : List ℕ) (b : ℕ) (s : List ℕ) (r : CharRead) → read_char (part ++ b ∷ s) ≡ r → Beyond (suc (length part)) r
        → read_char (part ++ b ∷ []) ≡ Incomplete (length (part ++ b ∷ []))
    begun part b s r e beyond =
        read-begun (part ++ b ∷ []) s r (ap read_char (append_assoc part (b ∷ []) s) ∙ e) (simp length-append (omega arith))
        (subst (λ (k : ℕ). Beyond k r) (sym (length-append part (b ∷ []) ∙ omega arith)) beyond)

    -- A character that is taken.
    pub walk_char : (part : List ℕ) (taken c n : ℕ) (s : List ℕ) → read_char (part ++ s) ≡ Char c n → length part < n → calls_for context c ≡ done
        → from part taken s ≡ next (taken - length part) (taken + (n - length part)) c (take n (part ++ s)) (drop (n - length part) s)
    walk_char part taken c n [] e short calls = absurd (omega (arith, read_length (part ++ []) c n e, length-append part []))
    walk_char part taken c n (b ∷ s) e short calls =
        ⊎_elim (more (λ e h. walk_char (part ++ b ∷ []) (suc taken) c n s e h calls)) last (below? (suc (length part)) n)
      where
        own : List ℕ
        own = part ++ b ∷ []

        long : length own ≡ suc (length part)
        long = length-append part (b ∷ []) ∙ omega arith

        more : (read_char (own ++ s) ≡ Char c n → length own < n
            → from own (suc taken) s ≡ next (suc taken - length own) (suc taken + (n - length own)) c (take n (own ++ s)) (drop (n - length own) s))
            → suc (length part) < n
            → from part taken (b ∷ s) ≡ next (taken - length part) (taken + (n - length part)) c (take n (part ++ b ∷ s)) (drop (n - length part)
            (b ∷ s))
        more later h =
            let joins : own ++ s ≡ part ++ b ∷ s = append_assoc part (b ∷ []) s in
            let less : n - length part ≡ suc (n - length own) = omega (arith, long) in
            walk_begun part taken b (length own) s (begun part b s (Char c n) e h)
            ∙ later (ap read_char joins ∙ e) (omega (arith, long))
            ∙ ap₂ (λ (p t : ℕ). next p t c (take n (own ++ s)) (drop (n - length own) s))
            (let i : suc taken - length own ≡ taken - length part = omega (arith, long) in i)
            (let i : suc taken + (n - length own) ≡ taken + (n - length part) = omega (arith, long) in i)
            ∙ ap₂ (λ (l rest : List ℕ). next (taken - length part) (taken + (n - length part)) c (take n l) rest) joins
            (ap (λ (k : ℕ). drop k (b ∷ s)) (sym less))

        last : n ≤ suc (length part)
            → from part taken (b ∷ s) ≡ next (taken - length part) (taken + (n - length part)) c (take n (part ++ b ∷ s)) (drop (n - length part)
            (b ∷ s))
        last h =
            let one : n ≡ suc (length part) = omega arith in
            let is : take n (part ++ b ∷ s) ≡ own = own-take part b n s one in
            walk_whole part taken b c n s (ap read_char (sym is) ∙ read_take (part ++ b ∷ s) c n e) calls
            ∙ ap₂ (λ (t k : ℕ). next (taken - length part) t c own (drop k (b ∷ s)))
            (let i : suc taken ≡ taken + (n - length part) = omega arith in i) (let i : 1 ≡ n - length part = omega arith in i)
            ∙ ap (λ (l : List ℕ). next (taken - length part) (taken + (n - length part)) c l (drop (n - length part) (b ∷ s))) (sym is)
