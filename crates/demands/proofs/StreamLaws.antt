-- What runs and calls of a stream come to, by the definitions: `Running` is `Runs` of Cutting, and `Called` is `Calls` of Held, with what is given
-- standing in the rooms.
use Prim.Native.Nat.{ℕ, ◌+◌, ◌*◌, ◌≤◌, ◌<◌}
use mathlib.Core.Path.{◌≡◌, refl, sym, ◌∙◌, ap, subst}
use mathlib.Core.List.{List, [], ◌++◌}
use mathlib.Core.Bool.{true, false}
use mathlib.Core.Logic.{◌≢◌, ◌⊎◌}
use native.Mathlib.Omega.{arith}
use lib.ListN.{length, take, drop}
use lib.Seq.{take-append-le, take-length}
use Rattle.standard.specs.declared.Context.{Context}
use Rattle.standard.specs.Answers.{done, ill_formed, nul, context_end, closed}
use Rattle.standard.specs.Errors.{numbers}
use Rattle.standard.specs.NameList.{builtin}
use Rattle.standard.specs.Reading.{stop_of, covered, Reading, ◌⊕◌, decode}
use Rattle.standard.proofs.Joining.{numbers-append, numbers-length}
use Rattle.decoder.specs.declared.stream.Stream.{Stream}
use Rattle.decoder.specs.declared.stream.Fed.{Fed}
use Rattle.decoder.specs.Machine.{nothing}
use Rattle.decoder.specs.Held.{released}
use Rattle.decoder.specs.Whole.{place_named}
use Rattle.decoder.specs.Stream.{Outcome, closes, is_open, feed_of, end_of, fed_of, new_stream, Feeds}
use Rattle.demands.proofs.Calls.{Beginning, Feeding, Ending}
use Rattle.demands.proofs.CallLaws.{beginning_so, feeding_so, ending-so}
use Rattle.demands.proofs.Fits.{Stand, feed_stands, end_stands}
use Rattle.demands.proofs.Cutting as Cutting
use Rattle.demands.proofs.Cutting.{Allowed, Runs}
use Rattle.demands.proofs.Held as Held
use Rattle.demands.proofs.Held.{Phase, taken_sum}
use Rattle.demands.proofs.Streams.{wrote_text, wrote_errors, Running, ends, leaves, goes, Called, new, feeds}
use Rattle.demands.proofs.Streams as Streams

-- What stands at the start of a list is what is taken of it.
front : (l rest : List ℕ) (n : ℕ) → n ≡ length l → take n (l ++ rest) ≡ l
front l rest n e = rw e (take-append-le (length l) l rest (omega arith) ∙ take-length l)

-- A reading as text and numbers.
abbrev pub Is : Reading → (text numbers : List ℕ) → Type 0
Is g ts ns = (ts ≡ g.text) × (ns ≡ numbers g.errors)

-- What a call wrote is what it comes to.
wrote : {o : Outcome} {text errors : List ℕ} {f : Fed} {text' errors' : List ℕ} → Feeds o text errors f text' errors'
    → Stand o f text errors text' errors' → Is o.gives (wrote_text f text') (wrote_errors f errors')
unfolding fed_of
wrote {o} {text} {errors} {f} d s =
    let two : 2 * f.errors ≡ length (numbers o.gives.errors) =
    omega (arith, ap (λ (x : Fed). x.errors) d.answered, numbers-length o.gives.errors) in
    rw (s.0, s.1) (
      front o.gives.text (drop f.text text) f.text (ap (λ (x : Fed). x.text) d.answered),
      front (numbers o.gives.errors) (drop (2 * f.errors) errors) (2 * f.errors) two,
    )

-- Two readings, joined.
joined : (g h : Reading) {ts us ns ms : List ℕ} → Is g ts ns → Is h us ms → Is (g ⊕ h) (ts ++ us) (ns ++ ms)
joined g h a b = rw (a.0, b.0, a.1, b.1) (refl, sym (numbers-append g.errors h.errors))

module _ {r : Stream} {chunk text errors : List ℕ} {f : Fed} {text' errors' : List ℕ} (call : Feeding r chunk text errors f text' errors') where
  abbrev feed_comes : Outcome
  feed_comes = feed_of builtin r chunk (length text) (length errors)

  pub feed_wrote : Is feed_comes.gives (wrote_text f text') (wrote_errors f errors')
  feed_wrote = wrote (feeding_so call) (feed_stands r text errors f text' errors' chunk (feeding_so call))

  feed_result : f ≡ fed_of feed_comes
  feed_result = (feeding_so call).answered

module _ {r : Stream} {text errors : List ℕ} {f : Fed} {text' errors' : List ℕ} (call : Ending r text errors f text' errors') where
  abbrev end_comes : Outcome
  end_comes = end_of builtin r (length text) (length errors)

  pub end_wrote : Is end_comes.gives (wrote_text f text') (wrote_errors f errors')
  end_wrote = wrote (ending-so call) (end_stands r text errors f text' errors' (ending-so call))

  end_result : f ≡ fed_of end_comes
  end_result = (ending-so call).answered

-- A run, by the definitions.
pub record RunSo (r : Stream) (source text numbers : List ℕ) (answer place : ℕ) : Type 0 where
  pub g : Reading
  pub is : Is g text numbers
  pub runs : Runs r source g answer place

pub run-so : {r : Stream} {source ts ns : List ℕ} {answer place : ℕ} → Running r source ts ns answer place → RunSo r source ts ns answer place
unfolding fed_of
run-so (ends {r} {text} {errors} call a) =
    let o = end_comes call in
    record {
      g = o.gives;
      is = end_wrote call;
      runs = subst (λ (x : Fed). Allowed x.answer → Runs r [] o.gives x.answer x.place) (sym (end_result call))
          (λ a. Cutting.ends r (length text) (length errors) o refl a) a;
    }
run-so (leaves {r} {chunk} {text} {errors} call a e later) =
    let o = feed_comes call in
    record {
      g = o.gives;
      is = feed_wrote call;
      runs = subst (λ (x : Fed). Allowed x.answer → closes x.answer ≡ true → Runs r (chunk ++ later) o.gives x.answer x.place)
          (sym (feed_result call)) (λ a e. Cutting.leaves r chunk later (length text) (length errors) o refl a e) a e;
    }
run-so (goes {r} {chunk} {text} {errors} call a e later {answer = answer} {place} run) =
    let o = feed_comes call in
    let rest = run-so run in
    record {
      g = o.gives ⊕ rest.g;
      is = joined o.gives rest.g (feed_wrote call) rest.is;
      runs = subst
          (λ (x : Fed). Allowed x.answer → closes x.answer ≡ false
          → Runs x.«record» (drop x.taken (chunk ++ later)) rest.g answer place
          → Runs r (chunk ++ later) (o.gives ⊕ rest.g) answer place)
          (sym (feed_result call)) (λ a e run. Cutting.goes r chunk later (length text) (length errors) o refl a e run) a e rest.runs;
    }

-- From a new stream.
pub new-run-so : {context : Context} {r : Stream} {source ts ns : List ℕ} {answer place : ℕ} → Beginning context r
    → Running r source ts ns answer place → RunSo (new_stream context) source ts ns answer place
new-run-so {source = source} {ts} {ns} {answer} {place} begins run =
    subst (λ (r : Stream). RunSo r source ts ns answer place) (beginning_so begins) (run-so run)

-- Calls, by the definitions.
pub record CalledSo (context : Context) (r : Stream) (t text numbers : List ℕ) (phase : Phase) (sum : ℕ) : Type 0 where
  pub g : Reading
  pub is : Is g text numbers
  pub calls : Held.Calls context r t g phase
  pub summed : taken_sum calls ≡ sum

pub called-so : {context : Context} {r : Stream} {t ts ns : List ℕ} {phase : Phase} {sum : ℕ} → Called context r t ts ns phase sum
    → CalledSo context r t ts ns phase sum
unfolding taken_sum numbers fed_of
called-so {context} (new begins) =
    subst (λ (r : Stream). CalledSo context r [] [] [] Held.Still 0) (sym (beginning_so begins))
    (record { g = nothing; is = (refl, refl); calls = Held.new; summed = refl })
called-so {context} (feeds {r} {t} {ts} {ns} {phase} {sum} c {chunk} {text} {errors} {f} {text'} {errors'} call) =
    let o = feed_comes call in
    let s = called-so c in
    let is = joined s.g o.gives s.is (feed_wrote call) in
    subst
    (λ (x : Fed). CalledSo context x.«record» (t ++ take x.taken chunk) (ts ++ wrote_text f text') (ns ++ wrote_errors f errors')
    (Held.fed phase x.answer) (sum + x.taken))
    (sym (feed_result call))
    (record {
      g = s.g ⊕ o.gives;
      is = is;
      calls = Held.feeds s.calls chunk (length text) (length errors) o refl;
      summed = ap (λ (n : ℕ). n + o.taken) s.summed;
    })
called-so {context} (Streams.ends {r} {t} {ts} {ns} {phase} {sum} c {text} {errors} {f} {text'} {errors'} call) =
    let o = end_comes call in
    let s = called-so c in
    let is = joined s.g o.gives s.is (end_wrote call) in
    subst
    (λ (x : Fed). CalledSo context x.«record» t (ts ++ wrote_text f text') (ns ++ wrote_errors f errors') (Held.ended phase x.answer)
    (sum + x.taken))
    (sym (end_result call))
    (record {
      g = s.g ⊕ o.gives;
      is = is;
      calls = Held.ends s.calls (length text) (length errors) o refl;
      summed = ap (λ (n : ℕ). n + o.taken) s.summed;
    })

-- A run from a new stream comes to what the whole source does.
module _ {context : Context} {r : Stream} {source text errors : List ℕ} {answer place : ℕ} (begins : Beginning context r)
    (run : Running r source text errors answer place) where
  abbrev Reads : Reading → Type 0
  Reads g = (text ≡ g.text) × (errors ≡ numbers g.errors)

  pub run_whole : let stop = stop_of context source in
      (answer ≡ stop.answer) × (place ≡ place_named answer stop)
      × ((answer ≡ done) ⊎ (answer ≡ context_end) → Reads (decode builtin context (covered context source)))
      × ((answer ≡ ill_formed) ⊎ (answer ≡ nul) → Reads (released builtin context source))
  run_whole =
      let s = new-run-so begins run in
      let w = Cutting.cutting context source s.runs in
      (w.answered, w.placed, λ e. subst Reads (w.read e) s.is, λ e. subst Reads (w.held e) s.is)

-- A call's counts.
module _ {r : Stream} {chunk text errors : List ℕ} {f : Fed} {text' errors' : List ℕ} (call : Feeding r chunk text errors f text' errors') where
  pub feed_progress : 0 < length chunk → f.answer ≢ closed → Allowed f.answer → (closes f.answer ≡ true) ⊎ (0 < f.taken)
  unfolding fed_of
  feed_progress more =
      subst (λ (x : Fed). x.answer ≢ closed → Allowed x.answer → (closes x.answer ≡ true) ⊎ (0 < x.taken)) (sym (feed_result call))
      (Cutting.progress r chunk (length text) (length errors) more)

  pub feed_within : f.taken ≤ length chunk
  unfolding fed_of
  feed_within = subst (λ (x : Fed). x.taken ≤ length chunk) (sym (feed_result call)) (Held.taken_within r chunk (length text) (length errors))

-- Any calls from a new stream.
module _ {context : Context} {r : Stream} {t text errors : List ℕ} {phase : Phase} {sum : ℕ} (c : Called context r t text errors phase sum) where
  pub called_held : (r.taken ≡ sum) × (r.taken ≡ length t)
      × ((g : Reading) × (text ≡ g.text) × (errors ≡ numbers g.errors) × Held.Gave context t g phase)
  called_held =
      let s = called-so c in
      let h = Held.held s.calls in
      (h.0 ∙ s.summed, h.1, (s.g, s.is.0, s.is.1, h.2))

  pub called_open : is_open builtin r ≡ Held.is_still phase
  called_open = Held.open_until_closed (called-so c).calls

  pub called_store : r.held.count ≤ 32
  called_store = Held.store-fits (called-so c).calls
