-- The bytes of a stream, one by one, read what the standard's definition reads: what is released, where it stops, and what the end gives.
use Rattle.std.specs.Prelude.{if◌then◌else◌}
use Prim.Native.Nat.{ℕ, suc, ◌+◌, ◌-◌, ◌<◌}
use mathlib.Core.Path.{◌≡◌, refl, sym, ◌∙◌, ap, ap₂, subst}
use mathlib.Core.List.{List, [], ◌∷◌, ◌++◌, append_assoc, append-nil}
use mathlib.Core.Bool.{Bool, true, false, not}
use native.Mathlib.Omega.{arith}
use lib.Dec.{eqb}
use lib.ListN.{length, take, drop, length-append}
use lib.Seq.{take-append_seam, drop-append_seam}
use borrow.Author.Tests.{eq-eqb, ne_eqb, eqb-true, eqb-false}
use Rattle.lists.proofs.Choice.{no_way}
use Rattle.standard.specs.declared.Context.{Context}
use Rattle.standard.specs.declared.characters.CharRead.{CharRead}
use Rattle.standard.specs.declared.characters.CharRead.TheVariants.{Char, Incomplete, Illformed, End}
use Rattle.standard.specs.Utf8.{read_char}
use Rattle.standard.specs.Answers.{done, ill_formed, context_end}
use Rattle.standard.specs.Names.{Name}
use Rattle.standard.specs.Reading.{calls_for, answer_to, size_of, Stop, stops, stop_from, stop_of, covered, Reading, ◌⊕◌, decode}
use Rattle.standard.proofs.Joining.{⊕-assoc, ⊕-none}
use Rattle.standard.proofs.Stops.{stop-read}
use Rattle.standard.proofs.Utf8.{Settled, read-append, read_length, end-length}
use Rattle.decoder.specs.Held.{unheld, released}
use Rattle.decoder.specs.Machine.{St, Data, Step, nothing, step, finish}
use Rattle.decoder.proofs.Running.{step_read, run_from, run}
use Rattle.decoder.specs.Stream.{At, at_by, place_of, called_for, move_by, Walked, stops_at, onward, last_of, is_part}
use Rattle.decoder.proofs.Bytes.{go, start}
use Rattle.decoder.proofs.Tidy.{Tidy}
use Rattle.decoder.proofs.MachineReads.{run-is-decode}
use Rattle.decoder.proofs.Layer.{whole-own, completes_own}
use Rattle.decoder.proofs.HeldRule.{Holding, free, held_rule, holding_step}

-- A character that calls for nothing is passed over by where a source stops.
stop-own : (calls : ℕ → ℕ) (p : ℕ) (own t : List ℕ) (c : ℕ) → read_char own ≡ Char c (length own) → calls c ≡ done
    → stop_from calls 0 p (own ++ t) ≡ stop_from calls 0 (p + length own) t
stop-own calls p own t c e d =
    stop-read calls p (own ++ t)
    ∙ rw (read-append own t (Char c (length own)) e tt, eq-eqb (calls c) done d, drop-append_seam own t)

module _ (names : List Name) (context : Context) where
  -- The machine passes over the bytes o of a character that it has read.
  run_skip : (st : St) (p : ℕ) (o t : List ℕ) → run_from names context st (length o) p (o ++ t) ≡ run_from names context st 0 (p + length o) t
  unfolding run_from
  run_skip st p [] t = ap (λ (n : ℕ). run_from names context st 0 n t) (let e : p ≡ p + 0 = omega arith in e)
  run_skip st p (b ∷ o) t =
      run_skip st (suc p) o t
      ∙ ap (λ (n : ℕ). run_from names context st 0 n t) (let e : suc p + length o ≡ p + suc (length o) = omega arith in e)

  -- The machine takes a step on a character's own bytes.
  run_own : (st : St) (p : ℕ) (own t : List ℕ) (c : ℕ) → read_char own ≡ Char c (length own)
      → let r = step names context st p c own in
      run_from names context st 0 p (own ++ t) ≡ r.gives ⊕ run_from names context r.next 0 (p + length own) t
  unfolding run_from
  run_own st p [] t c e = absurd (omega (arith, read_length [] c 0 e))
  run_own st p (b ∷ o) t c e =
      ap by (read-append (b ∷ o) t (Char c (length (b ∷ o))) e tt) ∙ rw (take-append_seam o t)
      (ap (λ (x : Reading). r.gives ⊕ x)
      (ap (λ (k : ℕ). run_from names context r.next k (suc p) (o ++ t)) (let i : suc (length o) - 1 ≡ length o = omega arith in i)
      ∙ run_skip r.next (suc p) o t
      ∙ ap (λ (n : ℕ). run_from names context r.next 0 n t) (let i : suc p + length o ≡ p + suc (length o) = omega arith in i)))
    where
      by : CharRead → Reading
      by x =
          let r : Step = step_read names context st p x (b ∷ o ++ t) in r.gives ⊕ run_from names context r.next (size_of x - 1) (suc p) (o ++ t)

      r : Step
      r = step names context st p c (b ∷ o)

-- After the whole characters w, of which g was released, the machine is in the state st: a source that begins with them stops, is well-formed
-- and runs as what comes after them does.
pub record AfterCharacters (names : List Name) (context : Context) (w : List ℕ) (g : Reading) (st : St) : Type 0 where
  pub covers : (t : List ℕ) → stop_from (calls_for context) 0 0 (w ++ t) ≡ stop_from (calls_for context) 0 (length w) t
  pub forms : (t : List ℕ) → stop_from (λ c. done) 0 0 (w ++ t) ≡ stop_from (λ c. done) 0 (length w) t
  pub runs : (t : List ℕ) → run_from names context Data 0 0 (w ++ t) ≡ g ⊕ run_from names context st 0 (length w) t
  pub holding : Holding names context w g st

-- Where a stream is after the bytes t, of which g was released.
pub record Reached (names : List Name) (context : Context) (t : List ℕ) (g : Reading) (at : At) : Type 0 where
  pub characters : List ℕ
  pub bytes : t ≡ characters ++ at.part
  pub taken : at.taken ≡ length t
  pub begun : is_part (read_char at.part) ≡ true
  pub after : AfterCharacters names context characters g at.st

-- What an answer of the bytes t says of their reading.
pub record Stopped (names : List Name) (context : Context) (t : List ℕ) (answer : ℕ) (g : Reading) (at : At) : Type 0 where
  pub stop_is : stop_of context t ≡ stops answer (place_of at)
  pub ended : answer ≡ context_end → g ≡ decode names context (covered context t)
  pub faulty : (answer ≡ context_end → ⊥) → g ≡ released names context t

-- What a walk comes to after which the bytes t are read, with g released before it.
pub record WalkComes (names : List Name) (context : Context) (t : List ℕ) (g : Reading) (w : Walked) : Type 0 where
  pub reached : w.answer ≡ done → Reached names context t (g ⊕ w.gives) w.stop
  pub stopped : (w.answer ≡ done → ⊥) → Stopped names context t w.answer (g ⊕ w.gives) w.stop

module _ (names : List Name) (context : Context) (tidy : Tidy names) where
  -- With what the end gives, all is read.
  reads_all : {w : List ℕ} {g : Reading} {st : St} → AfterCharacters names context w g st → g ⊕ finish names context st ≡ decode names context w
  unfolding run_from stop_from
  reads_all {w} {g} {st} a =
      sym (a.runs []) ∙ ap (run names context) (append-nil w)
      ∙ run-is-decode names context w tidy
      (ap (λ (s : List ℕ). (stop_from (λ c. done) 0 0 s).answer) (sym (append-nil w)) ∙ ap (λ (s : Stop). s.answer) (a.forms []))

  -- What is released is all but the ending that is held.
  reads_held : {w : List ℕ} {g : Reading} {st : St} → AfterCharacters names context w g st → g ≡ decode names context (unheld names w)
  reads_held {w} {g} {st} a = held_rule names context tidy w g st (reads_all a) a.holding

  -- A character more.
  after_own : (w : List ℕ) (g : Reading) (st : St) (own : List ℕ) (c : ℕ) → read_char own ≡ Char c (length own) → calls_for context c ≡ done
      → AfterCharacters names context w g st
      → let r = step names context st (length w) c own in AfterCharacters names context (w ++ own) (g ⊕ r.gives) r.next
  after_own w g st own c e d a = record {
    covers = λ t. passes (calls_for context) d a.covers t;
    forms = λ t. passes (λ c. done) refl a.forms t;
    runs = λ t. ap (run_from names context Data 0 0) (append_assoc w own t) ∙ a.runs (own ++ t)
        ∙ ap (λ (x : Reading). g ⊕ x) (run_own names context st (length w) own t c e)
        ∙ sym (⊕-assoc g r.gives (run_from names context r.next 0 (length w + length own) t))
        ∙ ap (λ (n : ℕ). (g ⊕ r.gives) ⊕ run_from names context r.next 0 n t) (sym (length-append w own));
    holding = holding_step names context tidy w g st (length w) own c (reads_all a) (whole-own own c e) a.holding;
  }
    where
      r : Step
      r = step names context st (length w) c own

      passes : (calls : ℕ → ℕ) → calls c ≡ done → ((t : List ℕ) → stop_from calls 0 0 (w ++ t) ≡ stop_from calls 0 (length w) t)
          → (t : List ℕ) → stop_from calls 0 0 ((w ++ own) ++ t) ≡ stop_from calls 0 (length (w ++ own)) t
      passes calls d before t =
          ap (stop_from calls 0 0) (append_assoc w own t) ∙ before (own ++ t) ∙ stop-own calls (length w) own t c e d
          ∙ ap (λ (n : ℕ). stop_from calls 0 n t) (sym (length-append w own))

  -- Before the first byte.
  at_start : Reached names context [] nothing start
  unfolding read_char
  at_start = record {
    characters = [];
    bytes = refl;
    taken = refl;
    begun = refl;
    after = record { covers = λ t. refl; forms = λ t. refl; runs = λ t. refl; holding = free refl (λ t. refl) };
  }

  module _ {t : List ℕ} {g : Reading} {at : At} (h : Reached names context t g at) where
    -- The place of the next character is after the whole ones.
    place_after : place_of at ≡ length h.characters
    place_after =
        let long = length-append h.characters at.part in
        let same = ap length h.bytes in
        let taken = h.taken in
        omega arith

    -- Where the bytes s after them stop, those of the character that is begun with them.
    stop_after : (s : List ℕ) → stop_of context (t ++ s) ≡ stop_from (calls_for context) 0 (length h.characters) (at.part ++ s)
    stop_after s =
        ap (stop_of context) (ap (λ (l : List ℕ). l ++ s) h.bytes ∙ append_assoc h.characters at.part s)
        ∙ h.after.covers (at.part ++ s)

    -- Where a source that begins with these bytes stops at the next character, the whole ones are its covered part.
    covered_after : (s : List ℕ) → (stop_of context (t ++ s)).place ≡ length h.characters → covered context (t ++ s) ≡ h.characters
    covered_after s e =
        ap (λ (n : ℕ). take n (t ++ s)) e
        ∙ ap (take (length h.characters)) (ap (λ (l : List ℕ). l ++ s) h.bytes ∙ append_assoc h.characters at.part s)
        ∙ take-append_seam h.characters (at.part ++ s)

    -- An answer other than 0, at a byte b that makes bytes be read as they are whatever follows.
    stops_here : (b : ℕ) (s : List ℕ) (r : CharRead) → read_char (at.part ++ b ∷ []) ≡ r → Settled r
        → let answer = answer_to (calls_for context) r in eqb answer done ≡ false
        → Stopped names context (t ++ b ∷ s) answer (g ⊕ last_of names context answer at.st) at
    stops_here b s r e settled other = record {
      stop_is = stop ∙ ap (stops answer) (sym place_after);
      ended = λ i. rw (eq-eqb answer context_end i) (reads_all h.after ∙ ap (decode names context) (sym is));
      faulty = λ n. rw (ne_eqb answer context_end n)
          (⊕-none g ∙ reads_held h.after ∙ ap (λ (l : List ℕ). decode names context (unheld names l)) (sym is));
    }
      where
        answer : ℕ
        answer = answer_to (calls_for context) r

        read : read_char (at.part ++ b ∷ s) ≡ r
        read = ap read_char (sym (append_assoc at.part (b ∷ []) s)) ∙ read-append (at.part ++ b ∷ []) s r e settled

        stop : stop_of context (t ++ b ∷ s) ≡ stops answer (length h.characters)
        stop =
            stop_after (b ∷ s) ∙ stop-read (calls_for context) (length h.characters) (at.part ++ b ∷ s)
            ∙ rw read (rw other)

        is : covered context (t ++ b ∷ s) ≡ h.characters
        is = covered_after (b ∷ s) (ap (λ (x : Stop). x.place) stop)

    -- A byte that makes a character whole.
    reaches_whole : (b c n : ℕ) → read_char (at.part ++ b ∷ []) ≡ Char c n → calls_for context c ≡ done
        → let r = step names context at.st (place_of at) c (at.part ++ b ∷ []) in
        Reached names context (t ++ b ∷ []) (g ⊕ r.gives) (at_by r.next [] (suc at.taken))
    unfolding read_char
    reaches_whole b c n e d = record {
      characters = h.characters ++ own;
      bytes = joins ∙ sym (append-nil (h.characters ++ own));
      taken = simp length-append (omega (arith, h.taken));
      begun = refl;
      after =
          subst
          (λ (p : ℕ). let r = step names context at.st p c own in AfterCharacters names context (h.characters ++ own) (g ⊕ r.gives) r.next)
          (sym place_after)
          (after_own h.characters g at.st own c (e ∙ ap (Char c) (completes_own at.part b c n h.begun e)) d h.after);
    }
      where
        own : List ℕ
        own = at.part ++ b ∷ []

        joins : t ++ b ∷ [] ≡ h.characters ++ own
        joins = ap (λ (l : List ℕ). l ++ b ∷ []) h.bytes ∙ append_assoc h.characters at.part (b ∷ [])

    -- A byte that does not.
    reaches_part : (b n : ℕ) → read_char (at.part ++ b ∷ []) ≡ Incomplete n
        → Reached names context (t ++ b ∷ []) g (at_by at.st (at.part ++ b ∷ []) (suc at.taken))
    reaches_part b n e = record {
      characters = h.characters;
      bytes = ap (λ (l : List ℕ). l ++ b ∷ []) h.bytes ∙ append_assoc h.characters at.part (b ∷ []);
      taken = simp length-append (omega (arith, h.taken));
      begun = ap is_part e;
      after = h.after;
    }

  -- A walk that goes on after a byte b, with what that released.
  comes_on : (t s : List ℕ) (b : ℕ) (g o : Reading) (w : Walked) → WalkComes names context ((t ++ b ∷ []) ++ s) (g ⊕ o) w
      → WalkComes names context (t ++ b ∷ s) g (onward o w)
  comes_on t s b g o w c = record {
    reached = λ e. subst (λ (x : Reading). Reached names context (t ++ b ∷ s) x w.stop) same (rw (append_assoc t (b ∷ []) s) at (c.reached e));
    stopped = λ n.
        subst (λ (x : Reading). Stopped names context (t ++ b ∷ s) w.answer x w.stop) same (rw (append_assoc t (b ∷ []) s) at (c.stopped n));
  }
    where
      same : (g ⊕ o) ⊕ w.gives ≡ g ⊕ (o ⊕ w.gives)
      same = ⊕-assoc g o w.gives

  -- What a walk comes to from where the stream is.
  pub walk_comes : (s t : List ℕ) (g : Reading) (at : At) → Reached names context t g at → WalkComes names context (t ++ s) g (go names context at s)
  unfolding go
  walk_comes [] t g at h = record {
    reached = λ e. rw (append-nil t, ⊕-none g) h;
    stopped = λ n. absurd (n refl);
  }
  walk_comes (b ∷ s) t g at h = by_read (read_char own) refl (walk_comes s)
    where
      own : List ℕ
      own = at.part ++ b ∷ []

      by : CharRead → Walked
      by r =
          let answer : ℕ = called_for context r in
          if not (eqb answer done) then stops_at answer (last_of names context answer at.st) at
          else onward (move_by names context at r own).gives (go names context (move_by names context at r own).to s)

      -- A whole character, by the answer that it calls for.
      called : (c n : ℕ) → read_char own ≡ Char c n
          → ((t : List ℕ) (g : Reading) (at : At) → Reached names context t g at → WalkComes names context (t ++ s) g (go names context at s))
          → (u : Bool) → eqb (calls_for context c) done ≡ u
          → let m = move_by names context at (Char c n) own in
          WalkComes names context (t ++ b ∷ s) g
          (if not u then stops_at (calls_for context c) (last_of names context (calls_for context c) at.st) at
          else onward m.gives (go names context m.to s))
      called c n e later true d =
          comes_on t s b g _ _ (later (t ++ b ∷ []) _ _ (reaches_whole h b c n e (eqb-true (calls_for context c) done d)))
      called c n e later false d = record {
        reached = λ i. absurd (eqb-false (calls_for context c) done d i);
        stopped = λ i. stops_here h b s (Char c n) e tt d;
      }

      by_read : (r : CharRead) → read_char own ≡ r
          → ((t : List ℕ) (g : Reading) (at : At) → Reached names context t g at → WalkComes names context (t ++ s) g (go names context at s))
          → WalkComes names context (t ++ b ∷ s) g (by r)
      by_read (Char c n) e later = called c n e later (eqb (calls_for context c) done) refl
      by_read (Incomplete n) e later = comes_on t s b g nothing _ (rw (⊕-none g) (later (t ++ b ∷ []) g _ (reaches_part h b n e)))
      by_read (Illformed n) e later = record {
        reached = λ i. absurd (omega (arith, i));
        stopped = λ i. stops_here h b s (Illformed n) e tt refl;
      }
      by_read End e later = absurd (omega (arith, end-length own e, length-append at.part (b ∷ [])))

-- Where a beginning of a character, or nothing, stops.
stop-part : (calls : ℕ → ℕ) (p : ℕ) (part : List ℕ) → is_part (read_char part) ≡ true
    → stop_from calls 0 p part ≡ stops (if eqb (length part) 0 then done else ill_formed) p
unfolding stop_from
stop-part calls p [] e = refl
stop-part calls p (b ∷ part) e =
    rw (ne_eqb (suc (length part)) 0 (omega arith)) (stop-read calls p (b ∷ part) ∙ by (read_char (b ∷ part)) refl e)
  where
    by : (r : CharRead) → read_char (b ∷ part) ≡ r → is_part r ≡ true
        → (if eqb (answer_to calls r) done then stop_from calls 0 (p + size_of r) (drop (size_of r) (b ∷ part)) else stops (answer_to calls r) p)
        ≡ stops ill_formed p
    by (Char c n) i e = no_way (sym e)
    by (Incomplete n) i e = refl
    by (Illformed n) i e = no_way (sym e)
    by End i e = absurd (omega (arith, end-length (b ∷ part) i))

module _ (names : List Name) (context : Context) (tidy : Tidy names) where
  module _ {t : List ℕ} {g : Reading} {at : At} (h : Reached names context t g at) where
    -- Bytes that are all taken stop before the character that is begun, if one is.
    stop_reached : stop_of context t ≡ stops (if eqb (length at.part) 0 then done else ill_formed) (length h.characters)
    stop_reached =
        ap (stop_of context) (sym (append-nil t)) ∙ stop_after names context tidy h []
        ∙ ap (stop_from (calls_for context) 0 (length h.characters)) (append-nil at.part)
        ∙ stop-part (calls_for context) (length h.characters) at.part h.begun

    -- Their covered part is the whole characters.
    covered_reached : covered context t ≡ h.characters
    covered_reached =
        ap (covered context) (sym (append-nil t))
        ∙ covered_after names context tidy h []
        (ap (λ (s : List ℕ). (stop_of context s).place) (append-nil t) ∙ ap (λ (x : Stop). x.place) stop_reached)

  -- What a walk from the start comes to.
  from_start : (s : List ℕ) {a : ℕ} {g : Reading} {at : At} → go names context start s ≡ stops_at a g at
      → WalkComes names context s nothing (stops_at a g at)
  from_start s e = subst (WalkComes names context s nothing) e (walk_comes names context tidy s [] nothing start (at_start names context tidy))

  -- Bytes that are all taken released all but what is held, and are counted.
  pub go_held : (t : List ℕ) (g : Reading) (at : At) → go names context start t ≡ stops_at done g at
      → (g ≡ released names context t) × (at.taken ≡ length t)
  go_held t g at e =
      let h = (from_start t e).reached refl in
      (reads_held names context tidy h.after ∙ ap (λ (l : List ℕ). decode names context (unheld names l)) (sym (covered_reached h)), h.taken)

  -- Where they end with a whole character, what was released and what the end gives are their reading.
  pub go_ended : (t : List ℕ) (g : Reading) (at : At) → go names context start t ≡ stops_at done g at → at.part ≡ []
      → (g ⊕ finish names context at.st ≡ decode names context (covered context t)) × (stop_of context t ≡ stops done (length t))
  go_ended t g at e whole =
      let h = (from_start t e).reached refl in
      let all : t ≡ h.characters = h.bytes ∙ ap (λ (l : List ℕ). h.characters ++ l) whole ∙ append-nil h.characters in (
        reads_all names context tidy h.after ∙ ap (decode names context) (sym (covered_reached h)),
        stop_reached h
            ∙ ap₂ (λ (l u : List ℕ). stops (if eqb (length l) 0 then done else ill_formed) (length u)) whole (sym all),
      )

  -- Where they end within a character, their reading stops before it.
  pub go_cut : (t : List ℕ) (g : Reading) (at : At) → go names context start t ≡ stops_at done g at → 0 < length at.part
      → stop_of context t ≡ stops ill_formed (length t - length at.part)
  go_cut t g at e some =
      let h = (from_start t e).reached refl in
      let long = ap length h.bytes ∙ length-append h.characters at.part in
      stop_reached h
      ∙ rw (ne_eqb (length at.part) 0 (omega arith))
      (ap (stops ill_formed) (let i : length h.characters ≡ length t - length at.part = omega arith in i))

  -- An answer other than 0 is that of the whole source, at its place; and what was released is its reading up to the context's end, or all but
  -- what is held before a fault.
  pub go_stopped : (s : List ℕ) (a : ℕ) (g : Reading) (at : At) → go names context start s ≡ stops_at a g at → (a ≡ done → ⊥)
      → (stop_of context s ≡ stops a (place_of at)) × (a ≡ context_end → g ≡ decode names context (covered context s))
      × ((a ≡ context_end → ⊥) → g ≡ released names context s)
  go_stopped s a g at e other = let w = (from_start s e).stopped other in (w.stop_is, w.ended, w.faulty)
