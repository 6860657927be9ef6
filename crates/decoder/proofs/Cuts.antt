-- The walk over a chunk with its rooms is the walk over the bytes that it takes, and leaves the stream open.
use Rattle.std.specs.Prelude.{if◌then◌else◌}
use Prim.Native.Nat.{ℕ, suc, ◌+◌, ◌-◌, ◌*◌, ◌≤◌, ◌<◌}
use mathlib.Core.Path.{◌≡◌, refl, sym, ◌∙◌, ap, subst}
use mathlib.Core.List.{List, [], ◌∷◌, ◌++◌}
use mathlib.Core.Bool.{Bool, true, false, not}
use mathlib.Core.Logic.{◌≢◌, ◌⊎◌, inl, inr}
use native.Mathlib.Omega.{arith}
use lib.Dec.{eqb}
use lib.ListN.{length, take, length-append}
use borrow.Author.Tests.{eqb-true, eqb-false}
use Rattle.lists.proofs.Choice.{no_way}
use Rattle.standard.specs.declared.Context.{Context}
use Rattle.standard.specs.declared.characters.CharRead.{CharRead}
use Rattle.standard.specs.declared.characters.CharRead.TheVariants.{Char, Incomplete, Illformed, End}
use Rattle.standard.specs.Utf8.{read_char, encode}
use Rattle.standard.specs.Answers.{done, room_used_up, context_end}
use Rattle.standard.specs.Names.{Name}
use Rattle.standard.specs.NameList.{builtin}
use Rattle.standard.specs.Reading.{Reading, ◌⊕◌}
use Rattle.standard.proofs.Joining.{⊕-assoc}
use Rattle.standard.proofs.RoundTrip.{encode-short}
use Rattle.standard.proofs.Utf8.{end-length}
use Rattle.standard.proofs.Stops.{OneOf}
use Rattle.decoder.specs.Machine.{nothing, step}
use Rattle.decoder.specs.Stream.{
  At,
  at_by,
  place_of,
  called_for,
  Move,
  move_by,
  Walked,
  stops_at,
  onward,
  last_of,
  lacks_room,
  walk,
  store_of,
  mark_of,
  closes,
}
use Rattle.decoder.specs.Feeding.{OpenAt, byte_walk}
use Rattle.decoder.proofs.Bytes.{go}
use Rattle.decoder.proofs.Keeps.{step_keeps}
use Rattle.decoder.proofs.Taking.{own_encoded, byte_cases, open_byte}
use Rattle.decoder.proofs.Calling.{called-one, end_called}

module _ (names : List Name) (context : Context) where
  -- What a byte comes to: a stop, or what the rest comes to.
  abbrev taking : (taken : Bool) (answer : ℕ) → At → Reading → Walked → Walked
  taking taken answer at gives rest =
      if not taken then stops_at answer (last_of names context answer at.st) at else onward gives rest

  -- Where no room is lacking the rooms don't matter.
  pub walk_goes : (text errors : ℕ) (at : At) (s : List ℕ) → (walk names context text errors at s).answer ≢ room_used_up
      → go names context at s ≡ walk names context text errors at s
  unfolding walk go
  walk_goes text errors at [] e = refl
  walk_goes text errors at (b ∷ s) e =
      by (lacks_room text errors) (eqb (called_for context (read_char own)) done)
      (go names context m.to s) (walk names context (text - length m.gives.text) (errors - 2 * length m.gives.errors) m.to s)
      (walk_goes (text - length m.gives.text) (errors - 2 * length m.gives.errors) m.to s) e
    where
      own : List ℕ
      own = at.part ++ b ∷ []

      m : Move
      m = move_by names context at (read_char own) own

      by : (full taken : Bool) (x y : Walked) → (y.answer ≢ room_used_up → x ≡ y)
          → (if full then stops_at room_used_up nothing at else taking taken (called_for context (read_char own)) at m.gives y).answer ≢ room_used_up
          → taking taken (called_for context (read_char own)) at m.gives x
          ≡ (if full then stops_at room_used_up nothing at else taking taken (called_for context (read_char own)) at m.gives y)
      by true taken x y later e = absurd (e refl)
      by false false x y later e = refl
      by false true x y later e = ap (onward m.gives) (later e)

  -- The bytes that a walk took, as a walk of their own; at the context's end what is held is written after them.
  pub record Took (text errors : ℕ) (at : At) (s : List ℕ) (w : Walked) : Type 0 where
    pub count : ℕ
    pub within : count ≤ length s
    pub counted : w.stop.taken ≡ at.taken + count
    pub before : Reading
    pub taken : go names context at (take count s) ≡ stops_at done before w.stop
    pub gave : w.gives ≡ before ⊕ last_of names context w.answer w.stop.st
    pub all : w.answer ≡ done → count ≡ length s
    pub some : lacks_room text errors ≡ false → w.answer ≡ room_used_up → 0 < count
    pub says : (w.answer ≡ done) ⊎ ((w.answer ≡ room_used_up) ⊎ (closes w.answer ≡ true))

  -- What the bytes of a character so far call for is nothing, or closes the stream.
  called : (r : CharRead) → (called_for context r ≡ done) ⊎ (closes (called_for context r) ≡ true)
  called r = closing (called-one context r)
    where
      closing : {a : ℕ} → OneOf a → (a ≡ done) ⊎ (closes a ≡ true)
      closing (inl e) = inl e
      closing (inr (inl e)) = inr (ap closes e)
      closing (inr (inr (inl e))) = inr (ap closes e)
      closing (inr (inr (inr e))) = inr (ap closes e)

  -- A byte that is taken is counted.
  move_counted : (at : At) (b : ℕ) → let own = at.part ++ b ∷ [] in eqb (called_for context (read_char own)) done ≡ true
      → (move_by names context at (read_char own) own).to.taken ≡ suc at.taken
  move_counted at b = by (read_char own) refl
    where
      own : List ℕ
      own = at.part ++ b ∷ []

      by : (r : CharRead) → read_char own ≡ r → eqb (called_for context r) done ≡ true → (move_by names context at r own).to.taken ≡ suc at.taken
      by (Char c n) e f = refl
      by (Incomplete n) e f = refl
      by (Illformed n) e f = no_way (sym f)
      by End e f = absurd (omega (arith, end-length own e, length-append at.part (b ∷ [])))

  -- A walk that takes no byte.
  took_none : (text errors : ℕ) (at : At) (s : List ℕ) (answer : ℕ) → (answer ≡ done → 0 ≡ length s)
      → (lacks_room text errors ≡ false → answer ≢ room_used_up) → (answer ≡ done) ⊎ ((answer ≡ room_used_up) ⊎ (closes answer ≡ true))
      → Took text errors at s (stops_at answer (last_of names context answer at.st) at)
  unfolding go
  took_none text errors at s answer all some says = record {
    count = 0;
    within = omega arith;
    counted = omega arith;
    before = nothing;
    taken = refl;
    gave = refl;
    all = all;
    some = λ r e. absurd (some r e);
    says = says;
  }

  -- A walk took some bytes, and all of them where it says so.
  pub walk_took : (text errors : ℕ) (at : At) (s : List ℕ) → Took text errors at s (walk names context text errors at s)
  unfolding walk go
  walk_took text errors at [] = took_none text errors at [] done (λ e. refl) (λ r e. omega arith) (inl refl)
  walk_took text errors at (b ∷ s) =
      by (lacks_room text errors) (eqb (called_for context (read_char own)) done) refl refl
      (walk names context (text - length m.gives.text) (errors - 2 * length m.gives.errors) m.to s)
      (walk_took (text - length m.gives.text) (errors - 2 * length m.gives.errors) m.to s)
    where
      own : List ℕ
      own = at.part ++ b ∷ []

      m : Move
      m = move_by names context at (read_char own) own

      by : (full taken : Bool) → lacks_room text errors ≡ full → eqb (called_for context (read_char own)) done ≡ taken → (y : Walked)
          → Took (text - length m.gives.text) (errors - 2 * length m.gives.errors) m.to s y
          → Took text errors at (b ∷ s) (if full then stops_at room_used_up nothing at else taking taken (called_for context (read_char own)) at
          m.gives y)
      by true taken room f y later =
          took_none text errors at (b ∷ s) room_used_up (λ e. absurd (omega arith)) (λ r e. no_way (sym room ∙ r)) (inr (inl refl))
      by false false room f y later =
          took_none text errors at (b ∷ s) (called_for context (read_char own))
          (λ e. absurd (eqb-false (called_for context (read_char own)) done f e)) (λ r e. not_full (called (read_char own)) e)
          (inr (inr (not_done (called (read_char own)))))
        where
          not_done : (called_for context (read_char own) ≡ done) ⊎ (closes (called_for context (read_char own)) ≡ true)
              → closes (called_for context (read_char own)) ≡ true
          not_done (inl d) = absurd (omega (arith, eqb-false (called_for context (read_char own)) done f))
          not_done (inr d) = d

          not_full : (called_for context (read_char own) ≡ done) ⊎ (closes (called_for context (read_char own)) ≡ true)
              → called_for context (read_char own) ≡ room_used_up → ⊥
          not_full (inl d) e = omega arith
          not_full (inr d) e = no_way (sym d ∙ ap closes e)
      by false true room f y later = record {
        count = suc later.count;
        within = omega (arith, later.within);
        counted = omega (arith, later.counted, move_counted at b f);
        before = m.gives ⊕ later.before;
        taken = rw f (ap (onward m.gives) later.taken);
        gave =
            ap (λ (g : Reading). m.gives ⊕ g) later.gave
            ∙ sym (⊕-assoc m.gives later.before (last_of names context y.answer y.stop.st));
        all = λ e. ap suc (later.all e);
        some = λ r e. omega arith;
        says = later.says;
      }

-- Where a stream can be whose record counts as open: its place and its store are among the bytes that were taken.
pub record Sound (at : At) : Type 0 where
  pub opened : OpenAt at
  pub mark_in : mark_of at.st ≤ at.taken
  pub store_in : length (store_of at.st) + length at.part ≤ at.taken

-- A byte that is taken leaves it so.
sound-byte : (context : Context) {at : At} (b : ℕ) → Sound at → (byte_walk builtin context at b).answer ≡ done
    → Sound (byte_walk builtin context at b).stop
sound-byte context {at} b o i =
    byte_cases (λ (x : At). OpenAt x → Sound x) context at b whole
    (λ n e opened. record { opened = opened; mark_in = omega (arith, o.mark_in); store_in = omega (arith, long, o.store_in) }) i
    (open_byte context b o.opened i).0
  where
    own : List ℕ
    own = at.part ++ b ∷ []

    long : length own ≡ suc (length at.part)
    long = length-append at.part (b ∷ []) ∙ omega arith

    whole : (c n : ℕ) → read_char own ≡ Char c n
        → let here = at_by (step builtin context at.st (place_of at) c own).next [] (suc at.taken) in OpenAt here → Sound here
    whole c n e =
        let own_is = own_encoded at.part b c n o.opened.begun e in
        let kept =
        step_keeps (place_of at) c at.taken (length (store_of at.st) + length (encode c)) (omega arith) (omega (arith, encode-short c)) context
        at.st o.opened.fits o.mark_in (omega arith) in
        subst (λ (l : List ℕ). OpenAt (at_by (step builtin context at.st (place_of at) c l).next [] (suc at.taken))
        → Sound (at_by (step builtin context at.st (place_of at) c l).next [] (suc at.taken))) own_is
        (λ opened. record {
          opened = opened;
          mark_in = omega (arith, kept.mark);
          store_in = omega (arith, kept.store, o.store_in, long, ap length own_is);
        })

-- A walk over bytes begins with its first byte.
go-byte : (context : Context) (at : At) (b : ℕ) (s : List ℕ)
    → let w = byte_walk builtin context at b in
    go builtin context at (b ∷ s) ≡ (if eqb w.answer done then onward w.gives (go builtin context w.stop s) else w)
unfolding go byte_walk
go-byte context at b s = by (eqb (called_for context (read_char own)) done) refl
  where
    own : List ℕ
    own = at.part ++ b ∷ []

    m : Move
    m = move_by builtin context at (read_char own) own

    by : (t : Bool) → eqb (called_for context (read_char own)) done ≡ t
        → let w = (if not t then stops_at (called_for context (read_char own)) (last_of builtin context (called_for context (read_char own)) at.st) at
        else stops_at done m.gives m.to) in
        (if not t then stops_at (called_for context (read_char own)) (last_of builtin context (called_for context (read_char own)) at.st) at
        else onward m.gives (go builtin context m.to s))
        ≡ (if eqb w.answer done then onward w.gives (go builtin context w.stop s) else w)
    by false f = rw f
    by true f = refl

-- Bytes that are all taken leave the stream so.
pub go-sound : (context : Context) (at : At) (s : List ℕ) {g : Reading} {here : At} → Sound at → go builtin context at s ≡ stops_at done g here
    → Sound here
unfolding go
go-sound context at [] o e = subst Sound (ap (λ (w : Walked). w.stop) e) o
go-sound context at (b ∷ s) {g} {here} o e =
    by (eqb (byte_walk builtin context at b).answer done) refl (sym (go-byte context at b s) ∙ e)
    (λ g o e. go-sound context (byte_walk builtin context at b).stop s o e)
  where
    w : Walked
    w = byte_walk builtin context at b

    by : (t : Bool) → eqb w.answer done ≡ t → (if t then onward w.gives (go builtin context w.stop s) else w) ≡ stops_at done g here
        → ((g : Reading) → Sound w.stop → go builtin context w.stop s ≡ stops_at done g here → Sound here) → Sound here
    by false f e later = absurd (omega (arith, eqb-false w.answer done f, ap (λ (x : Walked). x.answer) e))
    by true f e later =
        let rest = go builtin context w.stop s in
        let answered = ap (λ (x : Walked). x.answer) e in
        let stopped = ap (λ (x : Walked). x.stop) e in
        later rest.gives (sound-byte context b o (eqb-true w.answer done f)) (λ i. stops_at (answered i) rest.gives (stopped i))

-- A byte at which the context ends is the first of its character.
end-first : (context : Context) {at : At} (b : ℕ) → Sound at → (byte_walk builtin context at b).answer ≡ context_end
    → ((byte_walk builtin context at b).stop ≡ at) × (at.part ≡ [])
unfolding byte_walk
end-first context {at} b o = by (eqb answer done)
  where
    own : List ℕ
    own = at.part ++ b ∷ []

    answer : ℕ
    answer = called_for context (read_char own)

    comes : Bool → Walked
    comes taken =
        if not taken then stops_at answer (last_of builtin context answer at.st) at
        else stops_at done (move_by builtin context at (read_char own) own).gives (move_by builtin context at (read_char own) own).to

    by : (t : Bool) → (comes t).answer ≡ context_end → ((comes t).stop ≡ at) × (at.part ≡ [])
    by true i = absurd (omega arith)
    by false i = (refl, ((end_called context at.part b o.opened.begun).0 i).0)

-- Where a walk meets the context's end no character is incomplete.
pub go-end : (context : Context) (at : At) (s : List ℕ) {g : Reading} {stop : At} → Sound at
    → go builtin context at s ≡ stops_at context_end g stop → stop.part ≡ []
unfolding go
go-end context at [] o e = absurd (omega (arith, ap (λ (w : Walked). w.answer) e))
go-end context at (b ∷ s) {g} {stop} o e =
    by (eqb w.answer done) refl (sym (go-byte context at b s) ∙ e) (λ g o e. go-end context (byte_walk builtin context at b).stop s o e)
  where
    w : Walked
    w = byte_walk builtin context at b

    by : (t : Bool) → eqb w.answer done ≡ t → (if t then onward w.gives (go builtin context w.stop s) else w) ≡ stops_at context_end g stop
        → ((g : Reading) → Sound w.stop → go builtin context w.stop s ≡ stops_at context_end g stop → stop.part ≡ []) → stop.part ≡ []
    by false f e later =
        let first = end-first context b o (ap (λ (x : Walked). x.answer) e) in
        ap (λ (x : At). x.part) (sym (ap (λ (x : Walked). x.stop) e) ∙ first.0) ∙ first.1
    by true f e later =
        let rest = go builtin context w.stop s in
        let answered = ap (λ (x : Walked). x.answer) e in
        let stopped = ap (λ (x : Walked). x.stop) e in
        later rest.gives (sound-byte context b o (eqb-true w.answer done f)) (λ i. stops_at (answered i) rest.gives (stopped i))
