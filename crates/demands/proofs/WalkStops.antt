-- Where the walk over a chunk stops: all bytes are taken, or those before one that lacks its room or that calls for an answer.
use Prim.Native.Nat.{ℕ, ◌+◌, ◌-◌, ◌*◌, ◌≤◌}
use mathlib.Core.Path.{◌≡◌, refl, sym, ◌∙◌, ap, ap₂, subst}
use mathlib.Core.List.{List, [], ◌∷◌, ◌++◌}
use mathlib.Core.Bool.{Bool, true, false}
use mathlib.Core.Logic.{◌≢◌, ◌⊎◌, inl, inr}
use native.Mathlib.Omega.{arith}
use lib.Dec.{eqb}
use lib.ListN.{length, take, length-append, length-take}
use borrow.Author.Tests.{eqb-false, ne_eqb}
use Rattle.standard.specs.declared.Context.{Context}
use Rattle.standard.specs.Utf8.{read_char}
use Rattle.standard.specs.Answers.{done, room_used_up}
use Rattle.standard.specs.NameList.{builtin}
use Rattle.standard.specs.Reading.{Reading, ◌⊕◌}
use Rattle.standard.proofs.Joining.{⊕-none}
use Rattle.decoder.specs.declared.stream.State.{State}
use Rattle.decoder.specs.declared.stream.State.TheVariants as kind
use Rattle.decoder.specs.declared.stream.Stream.{Stream}
use Rattle.decoder.specs.Machine.{nothing}
use Rattle.decoder.specs.Stream.{
  At,
  place_of,
  called_for,
  Move,
  move_by,
  Walked,
  stops_at,
  onward,
  last_of,
  lacks_room,
  walk,
  mark_of,
  record_of,
  st_by,
  at_of,
  closed_by,
  is_part,
  is_open,
  outcome,
  closes,
  walked_to,
  feed_of,
}
use Rattle.decoder.proofs.Open.{store-back, open_again}
use Rattle.decoder.proofs.Returns.{opened, opened-at, feed_walks}
use Rattle.decoder.proofs.Cuts.{Sound, walk_goes, walk_took, go-sound}
use Rattle.decoder.proofs.Walks.{walk_after, walk_goes_on, walk_full}

-- The place that a state keeps is the record's, or none.
mark-by : (k : State) (q : ℕ) (s : List ℕ) → mark_of (st_by k q s) ≤ q
unfolding mark_of st_by
mark-by kind.Data q s = omega arith
mark-by kind.AfterCr q s = omega arith
mark-by kind.Begin q s = omega arith
mark-by kind.Octothorpe q s = omega arith
mark-by kind.HexBegin q s = omega arith
mark-by (kind.Numeric base value) q s = omega arith
mark-by kind.Named q s = omega arith
mark-by kind.BogusName q s = omega arith
mark-by kind.Closed q s = omega arith

-- An open record's stream is there.
pub open_sound : (r : Stream) → is_open builtin r ≡ true → Sound (at_of r)
open_sound r e =
    let op = opened r e in
    let kept = take r.held.count r.held.store in
    record {
      opened = opened-at r op;
      mark_in = omega (arith, mark-by r.held.state r.held.place kept, op.mark);
      store_in = omega (
        arith,
        ap length (store-back r.held.state r.held.place kept op.stored),
        length-take r.held.count r.held.store,
        length-take r.part_count r.part,
        op.were,
      );
    }

-- And its record counts as open.
pub sound_open : (context : Context) {at : At} → Sound at → at.taken ≤ 16777216 → is_open builtin (record_of context at) ≡ true
sound_open context {at} w long =
    open_again context at w.opened.fits w.opened.few w.opened.begun long w.mark_in w.store_in

module _ (context : Context) where
  -- The walk over bytes takes all of them: g is released, and the stream is then here.
  abbrev pub Takes : (text errors : ℕ) → At → List ℕ → Reading → At → Type 0
  Takes text errors at s g here = walk builtin context text errors at s ≡ stops_at done g here

  -- What the bytes of a character call for with the next one.
  abbrev pub calls : At → ℕ → ℕ
  calls here b = called_for context (read_char (here.part ++ b ∷ []))

  -- The room is lacking that is left after a reading.
  abbrev pub lacks_after : (text errors : ℕ) → Reading → Bool
  lacks_after text errors g = lacks_room (text - length g.text) (errors - 2 * length g.errors)

  -- Bytes that are all taken leave the stream open, and are counted.
  pub takes_sound : (text errors : ℕ) (at : At) (s : List ℕ) {g : Reading} {here : At} → Sound at → Takes text errors at s g here
      → Sound here × (here.taken ≡ at.taken + length s)
  takes_sound text errors at s o e =
      let answered = ap (λ (w : Walked). w.answer) e in
      let all = walk_took builtin context text errors at s in (
        go-sound context at s o (walk_goes builtin context text errors at s (λ f. omega (arith, answered, f)) ∙ e),
        omega (arith, all.counted, all.all answered, ap (λ (w : Walked). w.stop.taken) e),
      )

  module _ (text errors : ℕ) (at : At) (before : List ℕ) (b : ℕ) (after : List ℕ) (g : Reading) (here : At)
      (took : Takes text errors at before g here) where
    -- After bytes that are taken the walk goes on from there.
    from_there : walk builtin context text errors at (before ++ b ∷ after)
        ≡ onward g (walk_after builtin context g text errors here (b ∷ after))
    from_there =
        walk_goes_on builtin context text errors at before (b ∷ after) (ap (λ (w : Walked). w.answer) took)
        ∙ ap (λ (w : Walked). onward w.gives (walk_after builtin context w.gives text errors w.stop (b ∷ after))) took

    -- The next byte lacks its room.
    pub walk_lacks : lacks_after text errors g ≡ true
        → walk builtin context text errors at (before ++ b ∷ after) ≡ stops_at room_used_up g here
    walk_lacks full =
        from_there ∙ ap (onward g) (walk_full builtin context _ _ here (b ∷ after) (omega arith) full)
        ∙ ap (λ (x : Reading). stops_at room_used_up x here) (⊕-none g)

    -- It calls for an answer.
    pub walk_meets : (n : ℕ) → lacks_after text errors g ≡ false → calls here b ≡ n → n ≢ done
        → walk builtin context text errors at (before ++ b ∷ after) ≡ stops_at n (g ⊕ last_of builtin context n here.st) here
    unfolding walk
    walk_meets n room e more = from_there ∙ ap (onward g) stops
      where
        stops : walk_after builtin context g text errors here (b ∷ after) ≡ stops_at n (last_of builtin context n here.st) here
        stops = rw (room, e, ne_eqb n done more)

  -- The room that is left after two readings is lacking.
  lacks_twice : (text errors : ℕ) (f g : Reading)
      → lacks_after (text - length f.text) (errors - 2 * length f.errors) g ≡ lacks_after text errors (f ⊕ g)
  lacks_twice text errors f g =
      ap₂ lacks_room
      (let i : text - length f.text - length g.text ≡ text - length (f.text ++ g.text) = simp length-append (omega arith) in i)
      (let i : errors - 2 * length f.errors - 2 * length g.errors ≡ errors - 2 * length (f.errors ++ g.errors) =
      simp length-append (omega arith) in i)

  -- A byte is not taken: it lacks the room that is left after a reading, or has it and calls for an answer.
  abbrev pub Stays : (text errors : ℕ) → Reading → At → ℕ → Type 0
  Stays text errors g here b = (lacks_after text errors g ≡ true) ⊎ ((lacks_after text errors g ≡ false) × (calls here b ≢ done))

  -- What follows where all bytes are taken, and where those before one that is not, follows.
  pub walk_cases : (P : Type 0) (text errors : ℕ) (at : At) (s : List ℕ) → ((g : Reading) (here : At) → Takes text errors at s g here → P)
      → ((before : List ℕ) (b : ℕ) (after : List ℕ) (g : Reading) (here : At) → s ≡ before ++ b ∷ after → Takes text errors at before g here
      → Stays text errors g here b → P) → P
  unfolding walk
  walk_cases P text errors at [] all stops = all nothing at refl
  walk_cases P text errors at (b ∷ s) all stops =
      by (lacks_room text errors) (eqb (calls at b) done) refl refl
      (walk_cases P (text - length m.gives.text) (errors - 2 * length m.gives.errors) m.to s)
    where
      m : Move
      m = move_by builtin context at (read_char (at.part ++ b ∷ [])) (at.part ++ b ∷ [])

      -- Before the first byte nothing is released.
      all_free : lacks_room text errors ≡ lacks_after text errors nothing
      all_free = ap₂ lacks_room (let i : text ≡ text - 0 = omega arith in i) (let i : errors ≡ errors - 0 = omega arith in i)

      -- The room that is left after it.
      text_left : ℕ
      text_left = text - length m.gives.text

      errors_left : ℕ
      errors_left = errors - 2 * length m.gives.errors

      by : (full taken : Bool) → lacks_room text errors ≡ full → eqb (calls at b) done ≡ taken
          → (((g : Reading) (here : At) → Takes text_left errors_left m.to s g here → P)
          → ((before : List ℕ) (b : ℕ) (after : List ℕ) (g : Reading) (here : At) → s ≡ before ++ b ∷ after
          → Takes text_left errors_left m.to before g here → Stays text_left errors_left g here b → P) → P) → P
      by true taken room f later = stops [] b s nothing at refl refl (inl (sym all_free ∙ room))
      by false false room f later = stops [] b s nothing at refl refl (inr (sym all_free ∙ room, eqb-false (calls at b) done f))
      by false true room f later =
          later (λ g here took. all (m.gives ⊕ g) here (rw (room, f) (ap (onward m.gives) took)))
          (λ before c after g here split took stays.
          stops (b ∷ before) c after (m.gives ⊕ g) here (ap (λ (l : List ℕ). b ∷ l) split) (rw (room, f) (ap (onward m.gives) took))
          (subst (λ (t : Bool). (t ≡ true) ⊎ ((t ≡ false) × (calls here c ≢ done))) (lacks_twice text errors m.gives g) stays))

-- A call that is not refused.
module _ (r : Stream) (chunk : List ℕ) (t e : ℕ)
    (fine : (is_open builtin r ≡ true) × (length chunk ≤ 65536) × (r.taken + length chunk ≤ 16777216) × ((64 ≤ t) × (8 ≤ e))) where
  -- It comes to what its walk does.
  walks : {w : Walked} → walk builtin r.context t e (at_of r) chunk ≡ w → feed_of builtin r chunk t e ≡ walked_to r.context r.taken w
  walks is =
      feed_walks r t e fine.0 chunk fine.1 fine.2 fine.3.0 fine.3.1 ∙ ap (walked_to r.context r.taken) is

  module _ (s : List ℕ) {g : Reading} {here : At} (took : Takes r.context t e (at_of r) s g here) (fits : length s ≤ length chunk) where
    -- Where the stream then is.
    there : Sound here × (here.taken ≡ r.taken + length s)
    there = takes_sound r.context t e (at_of r) s (open_sound r fine.0) took

    -- The bytes that are taken are counted.
    pub counted : here.taken ≡ r.taken + length s
    counted = there.1

    -- The bytes of an incomplete character begin one.
    pub feed_begun : is_part (read_char here.part) ≡ true
    feed_begun = there.0.opened.begun

    taken_now : here.taken - r.taken ≡ length s
    taken_now = omega (arith, counted)

    -- After them the record counts as open.
    pub feed_open : is_open builtin (record_of r.context here) ≡ true
    feed_open = sound_open r.context there.0 (omega (arith, counted, fine.2))

    -- A walk that ends there and does not close the stream.
    pub feed_stays : (n : ℕ) → closes n ≡ false → walk builtin r.context t e (at_of r) chunk ≡ stops_at n g here
        → feed_of builtin r chunk t e ≡ outcome n (length s) 0 g (record_of r.context here)
    unfolding walked_to
    feed_stays n f is = walks is ∙ rw (f, taken_now)

    -- A walk that ends there and closes it.
    pub feed_closes : (n : ℕ) (last : Reading) → closes n ≡ true → walk builtin r.context t e (at_of r) chunk ≡ stops_at n last here
        → feed_of builtin r chunk t e ≡ outcome n (length s) (place_of here) last (closed_by r.context (r.taken + length s))
    unfolding walked_to
    feed_closes n last f is = walks is ∙ rw (f, taken_now, counted)
