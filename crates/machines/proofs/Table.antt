-- The table of answers, over any machine: what each answer to a chunk is given for, and that it is given for nothing else.
use Rattle.std.specs.Prelude.{MatchBool}
use Prim.Native.Nat.{ℕ, suc, ◌+◌, ◌-◌, ◌≤◌, ◌<◌}
use mathlib.Core.Path.{◌≡◌, refl, sym, ◌∙◌, ap, subst, subst₂}
use mathlib.Core.List.{List, [], ◌∷◌, ◌++◌}
use mathlib.Core.Bool.{true, false, ◌||◌}
use mathlib.Core.Logic.{◌≢◌}
use native.Mathlib.Omega.{arith}
use lib.Dec.{ltb, eqb}
use lib.ListN.{length}
use borrow.Author.Tests.{lt-ltb, le-ltb, ltb-true, ltb-false}
use Rattle.lists.proofs.Choice.{if_both, no_way, or_none}
use Rattle.standard.specs.Answers.{done, too_long, stream_too_long, no_room, room_used_up, closed, longest_slice}
use Rattle.machines.specs.Machine.{stops, takes, Machine}
use Rattle.machines.specs.Stream.{At, still, shut, is_still, outcome, Comes, lacks_room, byte, onward, walk, refuses, feed}
use Rattle.machines.specs.Records.{refused}
use Rattle.machines.specs.Laws.{Joins, Sizes, reserved, Proper, Bytes, ahead}
use Rattle.machines.proofs.Calls.{Leaves, walk_answers, walk_fine}
use Rattle.machines.proofs.Walks.{still-same, walk_cases, walk_full, walk_stop, walk_pause, walk_goes_on}

module _ (M : Machine) where
  -- With so much room all bytes of a front are taken, none of them ends the call, and given is what they give.
  abbrev pub AllTaken : (text numbers : ℕ) → At M.State → (front : List ℕ) → (given : M.Out) → (here : At M.State) → Type 0
  AllTaken text numbers at front given here = walk M text numbers at front ≡ outcome done (length front) 0 given (still here)

  -- The walk ends here, with so much room free and these bytes left.
  pub data Halts (text numbers : ℕ) (here : At M.State) : (left : List ℕ) → Comes M → Type 0 where
    -- 0: no byte is left.
    none : Halts text numbers here [] (outcome done 0 0 M.none (still here))
    -- 6: the next one lacks its room.
    full : (b : ℕ) (s : List ℕ) → lacks_room text numbers ≡ true → Halts text numbers here (b ∷ s) (outcome room_used_up 0 0 M.none (still here))
    -- An answer of the machine's that closes the stream.
    stop : (b : ℕ) (s : List ℕ) → lacks_room text numbers ≡ false → (answer place : ℕ) (g : M.Out) → byte M here b ≡ stops answer place g
        → Halts text numbers here (b ∷ s) (outcome answer 0 place g (shut here.taken))
    -- An answer of the machine's that does not, after the next byte.
    pause : (b : ℕ) (s : List ℕ) → lacks_room text numbers ≡ false → (says : ℕ) (g : M.Out) (next : At M.State)
        → byte M here b ≡ takes says g next → eqb says done ≡ false → Halts text numbers here (b ∷ s) (outcome says 1 0 g (still next))

  -- A walk over bytes: a front that is taken, and where it ends.
  pub record Ends (text numbers : ℕ) (at : At M.State) (s : List ℕ) (o : Comes M) : Type 0 where
    pub front : List ℕ
    pub left : List ℕ
    pub split : s ≡ front ++ left
    pub given : M.Out
    pub here : At M.State
    pub took : AllTaken text numbers at front given here
    pub rest : Comes M
    pub halts : Halts (text - M.text given) (numbers - M.numbers given) here left rest
    pub is : o ≡ ahead M (length front) given rest

module _ (M : Machine) (laws : Joins M) (sizes : Sizes M) where
  -- Before any byte.
  pub ahead_none : (o : Comes M) → o ≡ ahead M 0 M.none o
  ahead_none o =
      let n : o.taken ≡ o.taken + 0 = omega arith in
      λ i. outcome o.answer (n i) o.place (sym (laws.first o.gives) i) o.after

  -- One after the other: a byte, and bytes.
  pub ahead_on : (n : ℕ) (g h : M.Out) (o : Comes M) → onward M g (ahead M n h o) ≡ ahead M (suc n) (M.join g h) o
  ahead_on n g h o =
      let k : suc (o.taken + n) ≡ o.taken + suc n = omega arith in
      λ i. outcome o.answer (k i) o.place (sym (laws.assoc g h o.gives) i) o.after

  pub ahead_ahead : (m n : ℕ) (g h : M.Out) (o : Comes M) → ahead M m g (ahead M n h o) ≡ ahead M (m + n) (M.join g h) o
  ahead_ahead m n g h o =
      let k : o.taken + n + m ≡ o.taken + (m + n) = omega arith in
      λ i. outcome o.answer (k i) o.place (sym (laws.assoc g h o.gives) i) o.after

  -- The room that is left.
  module _ (P : (text numbers : ℕ) → Type 0) (text numbers : ℕ) where
    pub left_none : P text numbers → P (text - M.text M.none) (numbers - M.numbers M.none)
    left_none =
        let t : text ≡ text - M.text M.none = omega (arith, sizes.text_none) in
        let n : numbers ≡ numbers - M.numbers M.none = omega (arith, sizes.numbers_none) in subst₂ P t n

    pub left_join : (g h : M.Out) → P (text - M.text g - M.text h) (numbers - M.numbers g - M.numbers h)
        → P (text - M.text (M.join g h)) (numbers - M.numbers (M.join g h))
    left_join g h =
        let t : text - M.text g - M.text h ≡ text - M.text (M.join g h) = omega (arith, sizes.text_join g h) in
        let n : numbers - M.numbers g - M.numbers h ≡ numbers - M.numbers (M.join g h) = omega (arith, sizes.numbers_join g h) in
        subst₂ P t n

  -- Every walk ends so.
  pub walk_ends : (text numbers : ℕ) (at : At M.State) (s : List ℕ) → Ends M text numbers at s (walk M text numbers at s)
  unfolding walk
  walk_ends =
      walk_cases M (Ends M) record {
        none = λ text numbers at. at_once text numbers at [] _ none;
        full = λ text numbers at b s lacks. at_once text numbers at (b ∷ s) _ (full b s lacks);
        stop = λ text numbers at b s room answer place g e. at_once text numbers at (b ∷ s) _ (stop b s room answer place g e);
        pause = λ text numbers at b s room says g next e f. at_once text numbers at (b ∷ s) _ (pause b s room says g next e f);
        on = λ text numbers at b s room says g next e zero o later. record {
          front = b ∷ later.front;
          left = later.left;
          split = ap (λ (l : List ℕ). b ∷ l) later.split;
          given = M.join g later.given;
          here = later.here;
          took = walk_goes_on M text numbers at b later.front room says g next e zero ∙ ap (onward M g) later.took;
          rest = later.rest;
          halts = left_join (λ t n. Halts M t n later.here later.left later.rest) text numbers g later.given later.halts;
          is = ap (onward M g) later.is ∙ ahead_on (length later.front) g later.given later.rest;
        };
      }
    where
      at_once : (text numbers : ℕ) (at : At M.State) (s : List ℕ) (o : Comes M) → Halts M text numbers at s o
          → Ends M text numbers at s o
      at_once text numbers at s o h = record {
        front = [];
        left = s;
        split = refl;
        given = M.none;
        here = at;
        took = refl;
        rest = o;
        halts = left_none (λ t n. Halts M t n at s o) text numbers h;
        is = ahead_none o;
      }

  -- What ends at once is that walk.
  halts_walk : {text numbers : ℕ} {here : At M.State} {left : List ℕ} {o : Comes M}
      → Halts M text numbers here left o → walk M text numbers here left ≡ o
  unfolding walk
  halts_walk none = refl
  halts_walk {text} {numbers} {here} (full b s lacks) = walk_full M text numbers here b s lacks
  halts_walk {text} {numbers} {here} (stop b s room answer place g e) = walk_stop M text numbers here b s room answer place g e
  halts_walk {text} {numbers} {here} (pause b s room says g next e f) = walk_pause M text numbers here b s room says g next e f

  -- A walk goes on after a front that is taken.
  pub walk_append : (left : List ℕ) (text numbers : ℕ) (at : At M.State) (s : List ℕ) (given : M.Out) (here : At M.State)
      → AllTaken M text numbers at s given here
      → walk M text numbers at (s ++ left) ≡ ahead M (length s) given (walk M (text - M.text given) (numbers - M.numbers given) here left)
  walk_append left =
      walk_cases M (λ text numbers at s o. (given : M.Out) (here : At M.State) → o ≡ outcome done (length s) 0 given (still here)
      → walk M text numbers at (s ++ left) ≡ ahead M (length s) given (walk M (text - M.text given) (numbers - M.numbers given) here left)) record {
        none = λ text numbers at given here e.
            subst₂ (λ (g : M.Out) (x : At M.State).
            walk M text numbers at left ≡ ahead M 0 g (walk M (text - M.text g) (numbers - M.numbers g) x left))
            (ap (λ (o : Comes M). o.gives) e) (still-same (ap (λ (o : Comes M). o.after) e))
            (left_none (λ t n. walk M text numbers at left ≡ ahead M 0 M.none (walk M t n at left)) text numbers
            (ahead_none (walk M text numbers at left)));
        full = λ text numbers at b s lacks given here e. absurd (omega (arith, ap (λ (o : Comes M). o.answer) e));
        stop = λ text numbers at b s room answer place g e given here f. no_way (sym (ap (λ (o : Comes M). is_still o.after) f));
        pause = λ text numbers at b s room says g next e f given here k. no_way (sym (ap (λ (o : Comes M). eqb o.answer done) k) ∙ f);
        on = λ text numbers at b s room says g next e zero o later given here f.
            let count : o.taken ≡ length s = omega (arith, ap (λ (o : Comes M). o.taken) f) in
            let was : o ≡ outcome done (length s) 0 o.gives (still here) =
            λ i. outcome (f i).answer (count i) (f i).place o.gives (f i).after in
            subst (λ (x : M.Out).
            walk M text numbers at (b ∷ s ++ left) ≡ ahead M (length (b ∷ s)) x (walk M (text - M.text x) (numbers - M.numbers x) here left))
            (ap (λ (o : Comes M). o.gives) f)
            (left_join (λ t n. walk M text numbers at (b ∷ s ++ left) ≡ ahead M (length (b ∷ s)) (M.join g o.gives) (walk M t n here left)) text
            numbers g
            o.gives
            (walk_goes_on M text numbers at b (s ++ left) room says g next e zero ∙ ap (onward M g) (later o.gives here was)
            ∙ ahead_on (length s) g o.gives _));
      }

  -- And stays where it ended before the last of its bytes.
  pub walk_stays : (left : List ℕ) (text numbers : ℕ) (at : At M.State) (s : List ℕ) → (walk M text numbers at s).answer ≢ done
      → walk M text numbers at (s ++ left) ≡ walk M text numbers at s
  walk_stays left =
      walk_cases M (λ text numbers at s o. o.answer ≢ done → walk M text numbers at (s ++ left) ≡ o) record {
        none = λ text numbers at other. absurd (other refl);
        full = λ text numbers at b s lacks other. walk_full M text numbers at b (s ++ left) lacks;
        stop = λ text numbers at b s room answer place g e other. walk_stop M text numbers at b (s ++ left) room answer place g e;
        pause = λ text numbers at b s room says g next e f other. walk_pause M text numbers at b (s ++ left) room says g next e f;
        on = λ text numbers at b s room says g next e zero o later other.
            walk_goes_on M text numbers at b (s ++ left) room says g next e zero ∙ ap (onward M g) (later other);
      }

  -- So what ends so is that walk.
  pub ends_walk : (text numbers : ℕ) (at : At M.State) (s : List ℕ) {o : Comes M} → Ends M text numbers at s o → walk M text numbers at s ≡ o
  ends_walk text numbers at s e =
      ap (walk M text numbers at) e.split ∙ walk_append e.left text numbers at e.front e.given e.here e.took
      ∙ ap (ahead M (length e.front) e.given) (halts_walk e.halts) ∙ sym e.is

-- Why a chunk of an open stream is answered as it is: 3, 4, 5, each after those before it, and then where its walk ends.
module _ (M : Machine) (limit : ℕ) (at : At M.State) (chunk : List ℕ) (text numbers : ℕ) where
  pub data Why : Comes M → Type 0 where
    long : longest_slice < length chunk → Why (refuses M too_long (still at))
    beyond : length chunk ≤ longest_slice → limit < at.taken + length chunk → Why (refuses M stream_too_long (still at))
    small : length chunk ≤ longest_slice → at.taken + length chunk ≤ limit → lacks_room text numbers ≡ true → Why (refuses M no_room (still at))
    walks : {o : Comes M} → length chunk ≤ longest_slice → at.taken + length chunk ≤ limit → lacks_room text numbers ≡ false
        → Ends M text numbers at chunk o → Why o

module _ (M : Machine) (laws : Joins M) (sizes : Sizes M) (limit : ℕ) (at : At M.State) (chunk : List ℕ) (text numbers : ℕ) where
  -- It is answered for one of these.
  pub feed_why : Why M limit at chunk text numbers (feed M limit (still at) chunk text numbers)
  unfolding feed
  feed_why =
      if_both P (ltb longest_slice (length chunk)) _ _ (λ e. long (ltb-true longest_slice (length chunk) e))
      (λ e. let short = ltb-false longest_slice (length chunk) e in
      if_both P (ltb limit (at.taken + length chunk)) _ _ (λ e. beyond short (ltb-true limit (at.taken + length chunk) e))
      (λ e. let within = ltb-false limit (at.taken + length chunk) e in
      if_both P (lacks_room text numbers) _ _ (small short within)
      (λ room. walks short within room (walk_ends M laws sizes text numbers at chunk))))
    where
      P : Comes M → Type 0
      P = Why M limit at chunk text numbers

  -- And whatever one of these holds for is what it comes to.
  pub why_feed : {o : Comes M} → Why M limit at chunk text numbers o → feed M limit (still at) chunk text numbers ≡ o
  unfolding feed
  why_feed (long h) = rw (lt-ltb longest_slice (length chunk) h)
  why_feed (beyond short h) = rw (le-ltb longest_slice (length chunk) short, lt-ltb limit (at.taken + length chunk) h)
  why_feed (small short within lacks) = rw (le-ltb longest_slice (length chunk) short, le-ltb limit (at.taken + length chunk) within, lacks)
  why_feed (walks short within room e) =
      rw (le-ltb longest_slice (length chunk) short, le-ltb limit (at.taken + length chunk) within, room)
      (ends_walk M laws sizes text numbers at chunk e)

-- So each of the stream's own answers is given exactly for its own reason.
module _ (M : Machine) {Sound : At M.State → Type 0} (laws : Joins M) (sizes : Sizes M) (proper : Bytes M Sound) (limit : ℕ) (at : At M.State)
    (sound : Sound at) (chunk : List ℕ) (text numbers : ℕ) where
  -- What the call comes to.
  abbrev pub comes : Comes M
  comes = feed M limit (still at) chunk text numbers

  -- The chunk is within all limits.
  pub record Walked : Type 0 where
    pub short : length chunk ≤ longest_slice
    pub within : at.taken + length chunk ≤ limit
    pub room : lacks_room text numbers ≡ false

  -- Where a reason is picked by the answer.
  abbrev Reason : ℕ → Type 0
  Reason n =
      MatchBool (eqb n too_long) (longest_slice < length chunk)
      (MatchBool (eqb n stream_too_long) ((length chunk ≤ longest_slice) × (limit < at.taken + length chunk))
      (MatchBool (eqb n no_room) ((length chunk ≤ longest_slice) × (at.taken + length chunk ≤ limit) × (lacks_room text numbers ≡ true))
      Walked))

  reason : {o : Comes M} → Why M limit at chunk text numbers o → Reason o.answer
  reason (long h) = h
  reason (beyond short h) = (short, h)
  reason (small short within lacks) = (short, within, lacks)
  reason (walks {o} short within room e) =
      let free = subst (λ (x : Comes M). refused x.answer ≡ false) (ends_walk M laws sizes text numbers at chunk e)
      (walk_answers M sizes proper text numbers at chunk sound) in
      let n = o.answer in
      let five = or_none (eqb n closed || eqb n too_long || eqb n stream_too_long) (eqb n no_room) free in
      let four = or_none (eqb n closed || eqb n too_long) (eqb n stream_too_long) five.0 in
      let three = or_none (eqb n closed) (eqb n too_long) four.0 in
      rw (three.1, four.1, five.1) (record { short = short; within = within; room = room })

  pub only : (n : ℕ) → comes.answer ≡ n → Reason n
  only n e = subst Reason e (reason (feed_why M laws sizes limit at chunk text numbers))

  -- 6 is given only where a byte is left that lacks its room.
  abbrev pub Lacks : Comes M → Type 0
  Lacks o = (e : Ends M text numbers at chunk o)
      × ((0 < length e.left) × (lacks_room (text - M.text e.given) (numbers - M.numbers e.given) ≡ true))

  pub full_only : comes.answer ≡ room_used_up → Walked × Lacks (walk M text numbers at chunk)
  full_only six = (limits, (e, pick here e.halts (sym (ap (λ (o : Comes M). o.answer) e.is) ∙ walked)))
    where
      limits : Walked
      limits = only room_used_up six

      e : Ends M text numbers at chunk (walk M text numbers at chunk)
      e = walk_ends M laws sizes text numbers at chunk

      walked : (walk M text numbers at chunk).answer ≡ room_used_up
      walked =
          sym (ap (λ (o : Comes M). o.answer)
          (why_feed M laws sizes limit at chunk text numbers (walks limits.short limits.within limits.room e)))
          ∙ six

      here : Sound e.here
      here =
          (subst (λ (o : Comes M). Leaves Sound (at.taken + o.taken) o.after) e.took
          (walk_fine M sizes proper text numbers at e.front sound).leaves).0

      -- No answer of the machine's is 6.
      not_six : (n : ℕ) → reserved n ≡ false → n ≡ room_used_up → ⊥
      not_six n free f = no_way (sym (ap reserved f) ∙ free)

      pick : {t n : ℕ} {x : At M.State} {left : List ℕ} {rest : Comes M} → Sound x → Halts M t n x left rest → rest.answer ≡ room_used_up
          → (0 < length left) × (lacks_room t n ≡ true)
      pick h none f = absurd (omega arith)
      pick h (full b s lacks) f = (omega arith, lacks)
      pick {x = x} h (stop b s room answer place g e) f = absurd (not_six answer (subst (Proper M Sound) e (proper.byte_proper x b h)).1 f)
      pick {x = x} h (pause b s room says g next e other) f =
          absurd (not_six says (subst (Proper M Sound) e (proper.byte_proper x b h)).1 f)
