-- Demand 2, document 01, 'Right, however cut': from a new stream to its closing answer, for every source and every sequence of chunk and room
-- lengths for which the table gives no 3, 4 or 5, with bytes not taken handed in again.
use Prim.Native.Nat.{ℕ, ◌+◌, ◌-◌, ◌≤◌, ◌<◌}
use mathlib.Core.Path.{◌≡◌, refl, sym, ◌∙◌, ap, subst}
use mathlib.Core.List.{List, [], ◌∷◌, ◌++◌, append_assoc, append-nil}
use mathlib.Core.Bool.{Bool, true, false}
use mathlib.Core.Logic.{◌≢◌, ◌⊎◌, inl, inr, ⊎_elim}
use native.Mathlib.Omega.{arith}
use lib.ListN.{length, take, drop, length-append, length-take, take-append-drop}
use lib.Seq.{drop-append-le}
use Rattle.lists.proofs.Choice.{if_both, no_way}
use Rattle.lists.proofs.Every.{All}
use Rattle.standard.specs.declared.Context.{Context}
use Rattle.standard.specs.Answers.{done, ill_formed, nul, too_long, stream_too_long, no_room, room_used_up, context_end, closed, longest_stream}
use Rattle.standard.specs.NameList.{builtin}
use Rattle.standard.specs.Reading.{Stop, stop_of, covered, Reading, ◌⊕◌, decode}
use Rattle.standard.proofs.Joining.{⊕-assoc, ⊕-none}
use Rattle.decoder.specs.declared.stream.Stream.{Stream}
use Rattle.decoder.specs.Held.{released}
use Rattle.decoder.specs.Machine.{nothing, finish}
use Rattle.decoder.specs.Stream.{place_of, Walked, stops_at, lacks_room, walk, at_of, Outcome, closes, walked_to, feed_of, end_of, new_stream}
use Rattle.decoder.specs.Whole.{place_named}
use Rattle.decoder.proofs.Bytes.{go, start}
use Rattle.decoder.proofs.Layer.{go_stays}
use Rattle.decoder.proofs.StreamReads.{go_held, go_ended, go_cut, go_stopped}
use Rattle.decoder.proofs.Tidy.{builtin_tidy}
use Rattle.decoder.proofs.Cuts.{Took, walk_took}
use Rattle.decoder.proofs.Returns.{feed_cases, end_cases}
use Rattle.decoder.proofs.Standing as standing
use Rattle.decoder.proofs.Standing.{Standing, Closing, Comes, standing-new, standing_open, feed_is, feed_comes, end_is}

-- The table gives no 3, 4 or 5.
abbrev pub Allowed : ℕ → Type 0
Allowed answer = (answer ≢ too_long) × (answer ≢ stream_too_long) × (answer ≢ no_room)

-- A run over a source: its chunks are handed in one after the other, up to the answer and the place that close the stream; g is what was given.
pub data Runs : Stream → (source : List ℕ) → (g : Reading) → (answer place : ℕ) → Type 0 where
  -- Nothing is left, and the source ends.
  ends : (r : Stream) (text errors : ℕ) (o : Outcome) → o ≡ end_of builtin r text errors → Allowed o.answer
      → Runs r [] o.gives o.answer o.place
  -- A chunk is answered so that the stream closes.
  leaves : (r : Stream) (chunk later : List ℕ) (text errors : ℕ) (o : Outcome) → o ≡ feed_of builtin r chunk text errors → Allowed o.answer
      → closes o.answer ≡ true → Runs r (chunk ++ later) o.gives o.answer o.place
  -- A chunk is answered so that it goes on, and what was not taken is handed in again.
  goes : (r : Stream) (chunk later : List ℕ) (text errors : ℕ) (o : Outcome) → o ≡ feed_of builtin r chunk text errors → Allowed o.answer
      → closes o.answer ≡ false → {g : Reading} {answer place : ℕ} → Runs o.record' (drop o.taken (chunk ++ later)) g answer place
      → Runs r (chunk ++ later) (o.gives ⊕ g) answer place

-- The answer and the place are those of the whole source; so is what was given where the source is readable, and else it is what the held rule
-- released before the fault.
pub record Whole (context : Context) (source : List ℕ) (g : Reading) (answer place : ℕ) : Type 0 where
  pub answered : answer ≡ (stop_of context source).answer
  pub placed : place ≡ place_named answer (stop_of context source)
  pub read : (answer ≡ done) ⊎ (answer ≡ context_end) → g ≡ decode builtin context (covered context source)
  pub held : (answer ≡ ill_formed) ⊎ (answer ≡ nul) → g ≡ released builtin context source

-- A source that is the same.
same_source : {context : Context} {s t : List ℕ} {g : Reading} {answer place : ℕ} → s ≡ t → Whole context s g answer place
    → Whole context t g answer place
same_source {context} {g = g} {answer} {place} e w = subst (λ (x : List ℕ). Whole context x g answer place) e w

-- An answer that closes a stream while it is fed is not another.
not_closing : (answer n : ℕ) → closes answer ≡ true → closes n ≡ false → answer ≢ n
not_closing answer n e f is = no_way (sym e ∙ ap closes is ∙ f)

module _ {context : Context} {r : Stream} {t : List ℕ} {g₀ : Reading} (s : Standing context r t g₀) where
  -- The source ends.
  whole_ends : (text errors : ℕ)
      → let o = end_of builtin r text errors in Allowed o.answer → Whole context (t ++ []) (g₀ ⊕ o.gives) o.answer o.place
  whole_ends text errors =
      end_is s (λ o. Allowed o.answer → Whole context (t ++ []) (g₀ ⊕ o.gives) o.answer o.place) text errors
      (λ a. absurd (a.2 refl)) (λ cut a. same_source (sym (append-nil t)) (inside cut)) (λ none a. same_source (sym (append-nil t)) (ended none))
    where
      so_far : (g₀ ≡ released builtin context t) × (s.here.taken ≡ length t)
      so_far = go_held builtin context builtin_tidy t g₀ s.here s.went

      inside : 0 < length s.here.part → Whole context t (g₀ ⊕ nothing) ill_formed (place_of s.here)
      inside cut =
          let e = go_cut builtin context builtin_tidy t g₀ s.here s.went cut in record {
            answered = sym (ap (λ (x : Stop). x.answer) e);
            placed = ap (λ (n : ℕ). n - length s.here.part) so_far.1 ∙ sym (ap (λ (x : Stop). x.place) e);
            read = λ h. absurd (⊎_elim (λ i. omega arith) (λ i. omega arith) h);
            held = λ h. ⊕-none g₀ ∙ so_far.0;
          }

      ended : s.here.part ≡ [] → Whole context t (g₀ ⊕ finish builtin context s.here.st) done 0
      ended none =
          let e = go_ended builtin context builtin_tidy t g₀ s.here s.went none in record {
            answered = sym (ap (λ (x : Stop). x.answer) e.1);
            placed = refl;
            read = λ h. e.0;
            held = λ h. absurd (⊎_elim (λ i. omega arith) (λ i. omega arith) h);
          }

  -- A chunk closes the stream.
  whole_leaves : (chunk later : List ℕ) (text errors : ℕ)
      → let o = feed_of builtin r chunk text errors in Allowed o.answer → closes o.answer ≡ true
      → Whole context (t ++ (chunk ++ later)) (g₀ ⊕ o.gives) o.answer o.place
  whole_leaves chunk later text errors =
      feed_is s
      (λ o. Allowed o.answer → closes o.answer ≡ true → Whole context (t ++ (chunk ++ later)) (g₀ ⊕ o.gives) o.answer o.place)
      chunk text errors (λ a e. absurd (a.0 refl)) (λ a e. absurd (a.1 refl)) (λ a e. absurd (a.2 refl)) by
    where
      closing : (o : Outcome) → closes o.answer ≡ true → Closing s chunk o
          → Whole context (t ++ (chunk ++ later)) (g₀ ⊕ o.gives) o.answer o.place
      closing o e c =
          let not_done : o.answer ≢ done = not_closing o.answer done e refl in
          let far : go builtin context start (t ++ (chunk ++ later)) ≡ stops_at o.answer (g₀ ⊕ o.gives) c.stop =
          ap (go builtin context start) (sym (append_assoc t chunk later))
          ∙ go_stays builtin context start (t ++ chunk) later (λ f. not_done (sym (ap (λ (w : Walked). w.answer) c.stopped) ∙ f))
          ∙ c.stopped in
          let w = go_stopped builtin context builtin_tidy (t ++ (chunk ++ later)) o.answer (g₀ ⊕ o.gives) c.stop far not_done in record {
            answered = sym (ap (λ (x : Stop). x.answer) w.0);
            placed = rw e (c.place_is ∙ sym (ap (λ (x : Stop). x.place) w.0));
            read = ⊎_elim (λ i. absurd (not_done i)) w.1;
            held = λ h. w.2 (⊎_elim (λ i j. omega arith) (λ i j. omega arith) h);
          }

      by : (o : Outcome) → Comes s chunk o → Allowed o.answer → closes o.answer ≡ true
          → Whole context (t ++ (chunk ++ later)) (g₀ ⊕ o.gives) o.answer o.place
      by o (standing.goes f says all some within on) a e = no_way (sym e ∙ f)
      by o (standing.stops f c) a e = closing o e c

  -- A chunk that does not close it.
  stands_on : (chunk : List ℕ) (text errors : ℕ) (o : Outcome) → o ≡ feed_of builtin r chunk text errors → Allowed o.answer
      → closes o.answer ≡ false → Standing context o.record' (t ++ take o.taken chunk) (g₀ ⊕ o.gives) × (o.taken ≤ length chunk)
  stands_on chunk text errors o is =
      subst On (sym is)
      (feed_is s On chunk text errors (λ a e. absurd (a.0 refl)) (λ a e. absurd (a.1 refl)) (λ a e. absurd (a.2 refl)) by)
    where
      On : Outcome → Type 0
      On o =
          Allowed o.answer → closes o.answer ≡ false
          → Standing context o.record' (t ++ take o.taken chunk) (g₀ ⊕ o.gives) × (o.taken ≤ length chunk)

      by : (o : Outcome) → Comes s chunk o → On o
      by o (standing.goes f says all some within on) a e = (on, within)
      by o (standing.stops f c) a e = no_way (sym f ∙ e)

-- The bytes taken of a chunk, and those that are handed in again, are the source.
again : (t chunk later : List ℕ) (k : ℕ) → k ≤ length chunk → (t ++ take k chunk) ++ drop k (chunk ++ later) ≡ t ++ (chunk ++ later)
again t chunk later k h =
    ap (λ (l : List ℕ). (t ++ take k chunk) ++ l) (drop-append-le k chunk later h) ∙ append_assoc t (take k chunk) (drop k chunk ++ later)
    ∙ ap (λ (l : List ℕ). t ++ l) (sym (append_assoc (take k chunk) (drop k chunk) later))
    ∙ ap (λ (l : List ℕ). t ++ (l ++ later)) (take-append-drop k chunk)

-- A run from where a stream stands gives the whole, with what was taken and given before.
whole_run : {context : Context} {r : Stream} {t : List ℕ} {g₀ : Reading} → Standing context r t g₀ →
    (source : List ℕ) {g : Reading} {answer place : ℕ}
    → Runs r source g answer place → Whole context (t ++ source) (g₀ ⊕ g) answer place
whole_run {context} {t = t} {g₀} s source (ends r text errors o is a) =
    subst (λ (o : Outcome). Allowed o.answer → Whole context (t ++ []) (g₀ ⊕ o.gives) o.answer o.place) (sym is)
    (whole_ends s text errors) a
whole_run {context} {t = t} {g₀} s source (leaves r chunk later text errors o is a e) =
    subst
    (λ (o : Outcome). Allowed o.answer → closes o.answer ≡ true
    → Whole context (t ++ (chunk ++ later)) (g₀ ⊕ o.gives) o.answer o.place)
    (sym is) (whole_leaves s chunk later text errors) a e
whole_run {context} {t = t} {g₀} s source (goes r chunk later text errors o is a e {g} {answer} {place} run) =
    let on = stands_on s chunk text errors o is a e in
    subst (λ (x : Reading). Whole context (t ++ (chunk ++ later)) x answer place) (⊕-assoc g₀ o.gives g)
    (same_source (again t chunk later o.taken on.1) (whole_run on.0 (drop o.taken (chunk ++ later)) run))

-- Joined text, joined errors, final answer and place are those of the whole, however the source is cut.
pub cutting : (context : Context) (source : List ℕ) {g : Reading} {answer place : ℕ} → Runs (new_stream context) source g answer place
    → Whole context source g answer place
cutting context source run = whole_run (standing-new context) source run

-- The answers of a run's calls, one after the other.
unfoldable pub answers : {r : Stream} {source : List ℕ} {g : Reading} {answer place : ℕ} → Runs r source g answer place → List ℕ
answers (ends r text errors o is a) = o.answer ∷ []
answers (leaves r chunk later text errors o is a e) = o.answer ∷ []
answers (goes r chunk later text errors o is a e run) = o.answer ∷ answers run

module _ {context : Context} {r : Stream} {t : List ℕ} {g₀ : Reading} (s : Standing context r t g₀) where
  -- An open stream answers no 8 to a chunk.
  feed_not_closed : (chunk : List ℕ) (text errors : ℕ) (o : Outcome) → o ≡ feed_of builtin r chunk text errors → o.answer ≢ closed
  feed_not_closed chunk text errors o is =
      subst (λ (o : Outcome). o.answer ≢ closed) (sym is)
      (feed_is s (λ o. o.answer ≢ closed) chunk text errors (λ e. omega arith) (λ e. omega arith) (λ e. omega arith) by)
    where
      by : (o : Outcome) → Comes s chunk o → o.answer ≢ closed
      by o (standing.goes f (inl d) all some within on) e = omega arith
      by o (standing.goes f (inr d) all some within on) e = omega arith
      by o (standing.stops f k) e = no_way (sym f ∙ ap closes e)

  -- Nor to its end.
  end_not_closed : (text errors : ℕ) (o : Outcome) → o ≡ end_of builtin r text errors → o.answer ≢ closed
  end_not_closed text errors o is =
      subst (λ (o : Outcome). o.answer ≢ closed) (sym is)
      (end_is s (λ o. o.answer ≢ closed) text errors (λ e. omega arith) (λ h e. omega arith) (λ h e. omega arith))

-- Nor in a run from where it stands.
run_not_closed : {context : Context} {r : Stream} {t : List ℕ} {g₀ : Reading} → Standing context r t g₀ → {source : List ℕ} {g : Reading}
    {answer place : ℕ} (run : Runs r source g answer place) → All (λ (n : ℕ). n ≢ closed) (answers run)
unfolding answers
run_not_closed s (ends r text errors o is a) = (end_not_closed s text errors o is, tt)
run_not_closed s (leaves r chunk later text errors o is a e) = (feed_not_closed s chunk text errors o is, tt)
run_not_closed s (goes r chunk later text errors o is a e run) =
    (feed_not_closed s chunk text errors o is, run_not_closed (stands_on s chunk text errors o is a e).0 run)

-- Document 01: 8 is never answered in a run from a new stream.
pub never_closed : (context : Context) {source : List ℕ} {g : Reading} {answer place : ℕ} (run : Runs (new_stream context) source g answer place)
    → All (λ (n : ℕ). n ≢ closed) (answers run)
never_closed context run = run_not_closed (standing-new context) run

-- Whatever the record, a call with a nonempty chunk that is not refused takes a byte or closes the stream.
pub progress : (r : Stream) (chunk : List ℕ) (text errors : ℕ) → 0 < length chunk → let o = feed_of builtin r chunk text errors in
    o.answer ≢ closed → Allowed o.answer → (closes o.answer ≡ true) ⊎ (0 < o.taken)
unfolding walked_to
progress r chunk text errors more =
    feed_cases P r text errors chunk (λ h n a. absurd (n refl)) (λ h n a. absurd (a.0 refl)) (λ h n a. absurd (a.1 refl))
    (λ h n a. absurd (a.2 refl))
    (λ o long room. if_both P (closes w.answer) _ _ (λ e n a. inl e) (λ f n a. inr (some room f took.says)))
  where
    P : Outcome → Type 0
    P o = o.answer ≢ closed → Allowed o.answer → (closes o.answer ≡ true) ⊎ (0 < o.taken)

    w : Walked
    w = walk builtin r.context text errors (at_of r) chunk

    took : Took builtin r.context text errors (at_of r) chunk (walk builtin r.context text errors (at_of r) chunk)
    took = walk_took builtin r.context text errors (at_of r) chunk

    some : lacks_room text errors ≡ false → closes w.answer ≡ false
        → (w.answer ≡ done) ⊎ ((w.answer ≡ room_used_up) ⊎ (closes w.answer ≡ true)) → 0 < w.stop.taken - r.taken
    some room f (inl d) = omega (arith, took.counted, took.all d)
    some room f (inr (inl d)) = omega (arith, took.counted, took.some room d)
    some room f (inr (inr d)) = no_way (sym d ∙ f)

-- There is a run of a stream over a source.
abbrev pub HasRun : Stream → List ℕ → Type 0
HasRun r source = (g : Reading) × (answer : ℕ) × (place : ℕ) × Runs r source g answer place

-- What is not refused is allowed.
comes-allowed : {context : Context} {r : Stream} {t : List ℕ} {g : Reading} (s : Standing context r t g) {chunk : List ℕ} {o : Outcome}
    → Comes s chunk o → Allowed o.answer
comes-allowed s (standing.goes f (inl d) all some within on) = (λ e. omega arith, λ e. omega arith, λ e. omega arith)
comes-allowed s (standing.goes f (inr d) all some within on) = (λ e. omega arith, λ e. omega arith, λ e. omega arith)
comes-allowed s (standing.stops {o = o} f c) =
    (not_closing o.answer too_long f refl, not_closing o.answer stream_too_long f refl, not_closing o.answer no_room f refl)

-- With enough room so is the end.
end-allowed : {context : Context} {r : Stream} {t : List ℕ} {g : Reading} → Standing context r t g → Allowed (end_of builtin r 64 8).answer
end-allowed {r = r} s =
    end_cases (λ o. Allowed o.answer) r 64 8 (λ shut. no_way (sym (standing_open s) ∙ shut)) (λ lacks. no_way (sym lacks))
    (λ h. (λ e. omega arith, λ e. omega arith, λ e. omega arith)) (λ o room h. (λ e. omega arith, λ e. omega arith, λ e. omega arith))

-- Where a stream stands there is a run over each source that is not too long: byte by byte, with the least rooms.
run-from : {context : Context} {r : Stream} {t : List ℕ} {g : Reading} → Standing context r t g → (source : List ℕ)
    → length t + length source ≤ longest_stream → HasRun r source
run-from {r = r} s [] long =
    let o = end_of builtin r 64 8 in (o.gives, o.answer, o.place, ends r 64 8 o refl (end-allowed s))
run-from {context} {r} {t} {g} s (b ∷ source) long = by (closes o.answer) refl (λ on short. run-from {r = o.record'} on source short)
  where
    o : Outcome
    o = feed_of builtin r (b ∷ []) 64 8

    comes : Comes s (b ∷ []) (feed_of builtin r (b ∷ []) 64 8)
    comes = feed_comes s (b ∷ []) 64 8 (omega arith) (omega arith) (omega arith, omega arith)

    allowed : Allowed o.answer
    allowed = comes-allowed s comes

    by : (u : Bool) → closes o.answer ≡ u
        → (Standing context o.record' (t ++ take o.taken (b ∷ [])) (g ⊕ o.gives)
        → length (t ++ take o.taken (b ∷ [])) + length source ≤ longest_stream → HasRun o.record' source)
        → HasRun r (b ∷ source)
    by true e later = (o.gives, o.answer, o.place, leaves r (b ∷ []) source 64 8 o refl allowed e)
    by false e later =
        let on = stands_on s (b ∷ []) 64 8 o refl allowed e in
        let some : 0 < o.taken =
        ⊎_elim (λ f. no_way (sym f ∙ e)) (λ h. h) (progress r (b ∷ []) 64 8 (omega arith) (feed_not_closed s (b ∷ []) 64 8 o refl) allowed) in
        let one : o.taken ≡ 1 = omega (arith, on.1) in
        let rest = later on.0 (simp (length-append, length-take) (omega (arith, one))) in
        let run = subst (λ (n : ℕ). Runs o.record' (drop n (b ∷ source)) rest.0 rest.1 rest.2) (sym one) rest.3 in
        (o.gives ⊕ rest.0, rest.1, rest.2, goes r (b ∷ []) source 64 8 o refl allowed e run)

-- From a new stream there is one over each source that the table gives no 4 for.
pub runs_exist : (context : Context) (source : List ℕ) → length source ≤ longest_stream → HasRun (new_stream context) source
runs_exist context source long = run-from (standing-new context) source (omega arith)
