-- What every call of a stream keeps: it fits its rooms, goes on, counts what it takes, and stays where a stream can be.
use Prim.Native.Nat.{ℕ, suc, ◌+◌, ◌≤◌, ◌<◌}
use mathlib.Core.Path.{◌≡◌, refl, sym, ◌∙◌, ap, subst}
use mathlib.Core.List.{List, [], ◌∷◌, ◌++◌}
use mathlib.Core.Bool.{true, false}
use mathlib.Core.Logic.{◌≢◌, ◌⊎◌, inl, inr, ⊎_elim}
use native.Mathlib.Omega.{arith}
use lib.Dec.{ltb, eqb}
use lib.ListN.{length, drop_of_length-le}
use borrow.Author.Tests.{ltb-false, eqb-false}
use Rattle.lists.proofs.Choice.{if_both, no_way, or_none}
use Rattle.standard.specs.declared.characters.CharRead.{CharRead}
use Rattle.standard.specs.declared.characters.CharRead.TheVariants.{Char, Incomplete, Illformed, End}
use Rattle.standard.specs.Utf8.{read_char}
use Rattle.standard.specs.Answers.{done, ill_formed, too_long, stream_too_long, no_room, room_used_up, closed, longest_slice, text_room, errors_room}
use Rattle.machines.specs.Machine.{Turn, stops, takes, Machine}
use Rattle.machines.specs.Stream.{
  At,
  at_by,
  place_of,
  Stream,
  still,
  shut,
  is_still,
  outcome,
  Comes,
  lacks_room,
  lift,
  turn_by,
  byte,
  walk,
  refuses,
  feed,
  end_on,
  end,
}
use Rattle.machines.specs.Records.{refused}
use Rattle.machines.specs.Laws.{Sizes, reserved, Small, Proper, Bytes}
use Rattle.machines.proofs.Walks.{walk_cases}

-- Enough room is free.
pub room-is : (text numbers : ℕ) → lacks_room text numbers ≡ false → (text_room ≤ text) × (errors_room ≤ numbers)
room-is text numbers e =
    let w = or_none (ltb text text_room) (ltb numbers errors_room) e in (ltb-false text text_room w.0, ltb-false numbers errors_room w.1)

-- The stream took so many bytes, and is shut or where one can be.
abbrev pub Leaves : {State : Type 0} (Sound : At State → Type 0) (taken : ℕ) → Stream State → Type 0
Leaves Sound taken (still at) = Sound at × (at.taken ≡ taken)
Leaves Sound taken (shut n) = n ≡ taken

-- The count after a byte that is taken.
abbrev Counts : {State Out : Type 0} → ℕ → Turn (At State) Out → Type 0
Counts n (stops answer place g) = Unit {0}
Counts n (takes says g next) = next.taken ≡ n

module _ (M : Machine) where
  -- A byte that is taken is counted.
  pub byte_counts : (at : At M.State) (b : ℕ) {says : ℕ} {g : M.Out} {next : At M.State} → byte M at b ≡ takes says g next
      → next.taken ≡ suc at.taken
  unfolding byte
  byte_counts at b e = subst (Counts (suc at.taken)) e (by (read_char own))
    where
      own : List ℕ
      own = at.part ++ b ∷ []

      lifted : (turn : Turn M.State M.Out) → Counts (suc at.taken) (lift M (suc at.taken) turn)
      lifted (stops answer place g) = tt
      lifted (takes says g next) = refl

      by : (r : CharRead) → Counts (suc at.taken) (turn_by M at r own)
      by (Char c n) = lifted (M.reads at.st (place_of at) c own)
      by (Incomplete n) = refl
      by (Illformed n) = tt
      by End = tt

  -- What a walk comes to, whatever the machine: it takes no more than there is, and with room it takes a byte or closes the stream.
  pub record Moves (text numbers : ℕ) (s : List ℕ) (o : Comes M) : Type 0 where
    pub within : o.taken ≤ length s
    pub all : o.answer ≡ done → (is_still o.after ≡ false) ⊎ (o.taken ≡ length s)
    pub some : lacks_room text numbers ≡ false → 0 < length s → (is_still o.after ≡ false) ⊎ (0 < o.taken)

  pub walk_moves : (text numbers : ℕ) (at : At M.State) (s : List ℕ) → Moves text numbers s (walk M text numbers at s)
  walk_moves =
      walk_cases M (λ text numbers at s o. Moves text numbers s o) record {
        none = λ text numbers at. record { within = omega arith; all = λ e. inr refl; some = λ e h. absurd (omega arith) };
        full = λ text numbers at b s lacks. record {
          within = omega arith;
          all = λ e. absurd (omega arith);
          some = λ room h. no_way (sym lacks ∙ room);
        };
        stop = λ text numbers at b s room answer place g e. record { within = omega arith; all = λ e. inl refl; some = λ room h. inl refl };
        pause = λ text numbers at b s room says g next e other. record {
          within = omega arith;
          all = λ e. absurd (eqb-false says done other e);
          some = λ room h. inr (omega arith);
        };
        on = λ text numbers at b s room says g next e zero o later. record {
          within = omega (arith, later.within);
          all = λ e. ⊎_elim inl (λ i. inr (ap suc i)) (later.all e);
          some = λ room h. inr (omega arith);
        };
      }

  module _ {Sound : At M.State → Type 0} (sizes : Sizes M) (proper : Bytes M Sound) where
    -- What a call of a stream that took so many bytes comes to: it fits its rooms, its answer is not 8, and the stream is where one can be.
    pub record Fine (text numbers taken : ℕ) (o : Comes M) : Type 0 where
      pub text_fits : M.text o.gives ≤ text
      pub numbers_fit : M.numbers o.gives ≤ numbers
      pub answers : o.answer ≢ closed
      pub leaves : Leaves Sound (taken + o.taken) o.after

    -- An answer that is not reserved.
    free : (answer : ℕ) → reserved answer ≡ false → answer ≢ closed
    free answer e f = no_way (sym (ap reserved f) ∙ e)

    -- A walk refuses nothing.
    pub walk_answers : (text numbers : ℕ) (at : At M.State) (s : List ℕ) → Sound at → refused (walk M text numbers at s).answer ≡ false
    walk_answers =
        walk_cases M (λ text numbers at s o. Sound at → refused o.answer ≡ false) record {
          none = λ text numbers at h. refl;
          full = λ text numbers at b s lacks h. refl;
          stop = λ text numbers at b s room answer place g e h.
              (or_none (refused answer) (eqb answer room_used_up) (subst (Proper M Sound) e (proper.byte_proper at b h)).1).0;
          pause = λ text numbers at b s room says g next e other h.
              (or_none (refused says) (eqb says room_used_up) (subst (Proper M Sound) e (proper.byte_proper at b h)).1).0;
          on = λ text numbers at b s room says g next e zero o later h. later (subst (Proper M Sound) e (proper.byte_proper at b h)).2;
        }

    -- Nothing is given.
    fine_none : (text numbers taken answer k place : ℕ) → answer ≢ closed → (after : Stream M.State) → Leaves Sound (taken + k) after
        → Fine text numbers taken (outcome answer k place M.none after)
    fine_none text numbers taken answer k place other after leaves = record {
      text_fits = omega (arith, sizes.text_none);
      numbers_fit = omega (arith, sizes.numbers_none);
      answers = other;
      leaves = leaves;
    }

    -- A turn with enough room.
    fine_turn : (text numbers taken answer k place : ℕ) (g : M.Out) (after : Stream M.State) → lacks_room text numbers ≡ false → Small M g
        → reserved answer ≡ false → Leaves Sound (taken + k) after → Fine text numbers taken (outcome answer k place g after)
    fine_turn text numbers taken answer k place g after room small other leaves =
        let w = room-is text numbers room in record {
          text_fits = omega (arith, small.0);
          numbers_fit = omega (arith, small.1);
          answers = free answer other;
          leaves = leaves;
        }

    -- The same stream, counted another way.
    recount : (m n : ℕ) → m ≡ n → (after : Stream M.State) → Leaves Sound m after → Leaves Sound n after
    recount m n e after h = subst (λ (k : ℕ). Leaves Sound k after) e h

    pub walk_fine : (text numbers : ℕ) (at : At M.State) (s : List ℕ) → Sound at → Fine text numbers at.taken (walk M text numbers at s)
    walk_fine =
        walk_cases M (λ text numbers at s o. Sound at → Fine text numbers at.taken o) record {
          none = λ text numbers at h. fine_none text numbers at.taken done 0 0 (λ e. omega arith) (still at) (h, omega arith);
          full = λ text numbers at b s lacks h.
              fine_none text numbers at.taken room_used_up 0 0 (λ e. omega arith) (still at) (h, omega arith);
          stop = λ text numbers at b s room answer place g e h.
              let k = subst (Proper M Sound) e (proper.byte_proper at b h) in
              fine_turn text numbers at.taken answer 0 place g (shut at.taken) room k.0 k.1 (omega arith);
          pause = λ text numbers at b s room says g next e other h.
              let k = subst (Proper M Sound) e (proper.byte_proper at b h) in
              fine_turn text numbers at.taken says 1 0 g (still next) room k.0 k.1 (k.2, omega (arith, byte_counts at b e));
          on = λ text numbers at b s room says g next e zero o later h.
              let k = subst (Proper M Sound) e (proper.byte_proper at b h) in
              let rest = later k.2 in
              let w = room-is text numbers room in record {
                text_fits = rw (sizes.text_join g o.gives) (omega (arith, k.0.0, rest.text_fits));
                numbers_fit = rw (sizes.numbers_join g o.gives) (omega (arith, k.0.1, rest.numbers_fit));
                answers = rest.answers;
                leaves = recount (next.taken + o.taken) (at.taken + suc o.taken) (omega (arith, byte_counts at b e)) o.after rest.leaves;
              };
        }

    -- A chunk.
    pub feed_fine : (limit : ℕ) (at : At M.State) (chunk : List ℕ) (text numbers : ℕ) → Sound at
        → Fine text numbers at.taken (feed M limit (still at) chunk text numbers)
    unfolding feed
    feed_fine limit at chunk text numbers h =
        if_both P (ltb longest_slice (length chunk)) _ _ (λ e. refused too_long (λ f. omega arith))
        (λ e. if_both P (ltb limit (at.taken + length chunk)) _ _ (λ e. refused stream_too_long (λ f. omega arith))
        (λ e. if_both P (lacks_room text numbers) _ _ (λ e. refused no_room (λ f. omega arith)) (λ e. walk_fine text numbers at chunk h)))
      where
        P : Comes M → Type 0
        P o = Fine text numbers at.taken o

        refused : (answer : ℕ) → answer ≢ closed → P (refuses M answer (still at))
        refused answer other = fine_none text numbers at.taken answer 0 0 other (still at) (h, omega arith)

    -- The end.
    pub end_fine : (at : At M.State) (text numbers : ℕ) → Sound at → Fine text numbers at.taken (end M (still at) text numbers)
    unfolding end
    end_fine at text numbers h =
        if_both P (lacks_room text numbers) _ _ (λ e. fine_none text numbers at.taken no_room 0 0 (λ f. omega arith) (still at) (h, omega arith))
        (λ room. if_both P (ltb 0 (length at.part)) _ _
        (λ e. fine_none text numbers at.taken ill_formed 0 (place_of at) (λ f. omega arith) (shut at.taken) (omega arith))
        (λ e. by room (M.finish at.st) refl (drop_of_length-le at.part {i = 0} (ltb-false 0 (length at.part) e))))
      where
        P : Comes M → Type 0
        P o = Fine text numbers at.taken o

        by : lacks_room text numbers ≡ false → (turn : Turn M.State M.Out) → M.finish at.st ≡ turn → at.part ≡ []
            → P (end_on M at.taken turn)
        by room (stops answer place g) e none =
            let k = subst (λ (t : Turn M.State M.Out). Proper M Sound (lift M at.taken t)) e (proper.end_proper at h none) in
            fine_turn text numbers at.taken answer 0 place g (shut at.taken) room k.0 k.1 (omega arith)
        by room (takes says g next) e none =
            let k = subst (λ (t : Turn M.State M.Out). Proper M Sound (lift M at.taken t)) e (proper.end_proper at h none) in
            fine_turn text numbers at.taken says 0 0 g (still (at_by next [] at.taken)) room k.0 k.1 (k.2, omega arith)

  -- A chunk: no more is taken than there is; and where it has bytes and is not refused, a byte is taken or the stream closes.
  pub feed_moves : (limit : ℕ) (at : At M.State) (chunk : List ℕ) (text numbers : ℕ)
      → let o = feed M limit (still at) chunk text numbers in
      (o.taken ≤ length chunk) × (0 < length chunk → (refused o.answer ≡ true) ⊎ ((is_still o.after ≡ false) ⊎ (0 < o.taken)))
  unfolding feed
  feed_moves limit at chunk text numbers =
      if_both P (ltb longest_slice (length chunk)) _ _ (λ e. (omega arith, λ more. inl refl))
      (λ e. if_both P (ltb limit (at.taken + length chunk)) _ _ (λ e. (omega arith, λ more. inl refl))
      (λ e. if_both P (lacks_room text numbers) _ _ (λ e. (omega arith, λ more. inl refl))
      (λ room. let m = walk_moves text numbers at chunk in (m.within, λ more. inr (m.some room more)))))
    where
      P : Comes M → Type 0
      P o = (o.taken ≤ length chunk) × (0 < length chunk → (refused o.answer ≡ true) ⊎ ((is_still o.after ≡ false) ⊎ (0 < o.taken)))
