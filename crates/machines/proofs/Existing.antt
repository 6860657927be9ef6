-- There is a run over each source within the limit: byte by byte, with the least rooms.
use Rattle.std.specs.Prelude.{if◌then◌else◌}
use Prim.Native.Nat.{ℕ, suc, ◌+◌, ◌≤◌}
use mathlib.Core.Path.{◌≡◌, refl, sym, ◌∙◌, ap, subst}
use mathlib.Core.List.{List, [], ◌∷◌}
use mathlib.Core.Bool.{Bool, true, false}
use native.Mathlib.Omega.{arith}
use lib.Dec.{ltb, eqb}
use lib.ListN.{length, drop}
use borrow.Author.Tests.{le-ltb}
use Rattle.standard.specs.Answers.{done, ill_formed, text_room, errors_room}
use Rattle.machines.specs.Machine.{Turn, stops, takes, Machine}
use Rattle.machines.specs.Stream.{At, at_by, place_of, still, shut, is_still, Outcome, outcome, Comes, byte, onward, walk_on, walk, feed, end_on, end}
use Rattle.machines.specs.Records.{Records, feed_of, end_of}
use Rattle.machines.specs.Whole.{leaves, goes, ends, asks, RunsOver}
use Rattle.machines.specs.Laws.{Joins, Sizes, Bytes, Faithful}
use Rattle.machines.proofs.Calls.{byte_counts}
use Rattle.machines.proofs.Recording.{feed_is, feed_after, end_after}

module _ (M : Machine) where
  -- The end with the least rooms.
  end_least : (at : At M.State) (inside : Bool) → ltb 0 (length at.part) ≡ inside → (turn : Turn M.State M.Out)
      → M.finish at.st ≡ turn
      → end M (still at) text_room errors_room
      ≡ (if inside then outcome ill_formed 0 (place_of at) M.none (shut at.taken) else end_on M at.taken turn)
  unfolding end
  end_least at inside i turn e = rw (i, e)

  -- One byte with the least rooms.
  feed_least : (limit : ℕ) (at : At M.State) (b : ℕ) → suc at.taken ≤ limit → (turn : Turn (At M.State) M.Out) → byte M at b ≡ turn
      → feed M limit (still at) (b ∷ []) text_room errors_room ≡ walk_on M at turn (λ g next. outcome done 0 0 M.none (still next))
  unfolding feed walk
  feed_least limit at b short turn e = rw (le-ltb limit (at.taken + 1) (omega arith), e)

  -- One that is taken.
  feed_taken : (limit : ℕ) (at : At M.State) (b : ℕ) → suc at.taken ≤ limit → {says : ℕ} {g : M.Out} {next : At M.State}
      → byte M at b ≡ takes says g next → let o = feed M limit (still at) (b ∷ []) text_room errors_room in (o.taken ≡ 1) × (o.after ≡ still next)
  feed_taken limit at b short {says} {g} {next} e =
      subst One (sym (feed_least limit at b short (takes says g next) e)) (by (eqb says done))
    where
      One : Comes M → Type 0
      One o = (o.taken ≡ 1) × (o.after ≡ still next)

      by : (u : Bool) → One (if u then onward M g (outcome done 0 0 M.none (still next)) else outcome says 1 0 g (still next))
      by true = (refl, refl)
      by false = (refl, refl)

-- There is a run from a record.
abbrev pub HasRun : (M : Machine) {Rec : Type 0} (R : Records M Rec) (limit : ℕ) → Rec → List ℕ → Type 0
HasRun M R limit r source = (g : M.Out) × (answer : ℕ) × (place : ℕ) × RunsOver M R limit r source g answer place

module _ (M : Machine) {Sound : At M.State → Type 0} (laws : Joins M) (sizes : Sizes M) (proper : Bytes M Sound) {limit : ℕ} {Rec : Type 0}
    (R : Records M Rec) (faithful : Faithful M Sound limit R) where
  -- The end, which may be taken once.
  run_end : (r : Rec) (at : At M.State) → R.view r ≡ still at → HasRun M R limit r []
  run_end r at is = by (ltb 0 (length at.part)) refl (M.finish at.st) refl
    where
      -- What the stream is after the end.
      after : (r : Rec) (at : At M.State) → R.view r ≡ still at → {o : Comes M} → end M (still at) text_room errors_room ≡ o
          → R.view (end_of M R r text_room errors_room).after ≡ o.after
      after r at is e = end_after M sizes proper R faithful r is text_room errors_room ∙ ap (λ (o : Comes M). o.after) e

      by : (inside : Bool) → ltb 0 (length at.part) ≡ inside → (turn : Turn M.State M.Out) → M.finish at.st ≡ turn → HasRun M R limit r []
      by true i turn e = (_, _, _, ends r text_room errors_room refl (ap is_still (after r at is (end_least M at true i turn e))))
      by false i (stops answer place g) e =
          (_, _, _, ends r text_room errors_room refl (ap is_still (after r at is (end_least M at false i (stops answer place g) e))))
      by false i (takes says g next) e =
          let here = after r at is (end_least M at false i (takes says g next) e) in
          let (answer, place, h, f) = laws.once at.st e in
          let there = after (end_of M R r text_room errors_room).after (at_by next [] at.taken) here
          (end_least M (at_by next [] at.taken) false refl (stops answer place h) f) in (
            _,
            _,
            _,
            asks r text_room errors_room refl (ap is_still here)
                (ends (end_of M R r text_room errors_room).after text_room errors_room refl (ap is_still there)),
          )

  -- From a record of an open stream.
  pub runs_exist : (r : Rec) (at : At M.State) → R.view r ≡ still at → (source : List ℕ) → at.taken + length source ≤ limit
      → HasRun M R limit r source
  runs_exist r at is [] short = run_end r at is
  runs_exist r at is (b ∷ s) short = by (byte M at b) refl (λ next f h. runs_exist o.after next f s h)
    where
      o : Outcome M.Out Rec
      o = feed_of M R limit r (b ∷ []) text_room errors_room

      after : R.view (feed_of M R limit r (b ∷ []) text_room errors_room).after ≡ (feed M limit (still at) (b ∷ []) text_room errors_room).after
      after = feed_after M sizes proper R faithful r is (b ∷ []) text_room errors_room

      by : (turn : Turn (At M.State) M.Out) → byte M at b ≡ turn
          → ((next : At M.State) → R.view o.after ≡ still next → next.taken + length s ≤ limit → HasRun M R limit o.after s) → HasRun M R limit r
          (b ∷ s)
      by (stops answer place g) e later =
          let f = feed_least M limit at b (omega arith) (stops answer place g) e in
          (_, _, _, leaves r (b ∷ []) s text_room errors_room refl (ap is_still (after ∙ ap (λ (o : Comes M). o.after) f)))
      by (takes says g next) e later =
          let one = feed_taken M limit at b (omega arith) e in
          let (h, answer, place, run) = later next (after ∙ one.1) (omega (arith, byte_counts M at b e)) in
          let count : o.taken ≡ 1 = ap (λ (x : Outcome M.Out Rec). x.taken)
          (feed_is M sizes proper R faithful r is (b ∷ []) text_room errors_room) ∙ one.0 in (
            _,
            _,
            _,
            goes r (b ∷ []) s text_room errors_room refl (ap is_still (after ∙ one.1))
                (subst (λ (n : ℕ). RunsOver M R limit o.after (drop n (b ∷ s)) h answer place) (sym count) run),
          )
