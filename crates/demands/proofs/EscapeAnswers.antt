-- Demand 1 for escaping: for each line of the table of answers, when `escape` gives it, and what then holds.
-- r and out' are whatever meets the contract of `escape` for an input and a room.
use Prim.Native.Nat.{ℕ, ◌≤◌, ◌<◌}
use mathlib.Core.Path.{◌≡◌, ◌∙◌, ap}
use mathlib.Core.List.{List}
use mathlib.Core.Logic.{◌⊎◌, inl, inr, ⊎_elim}
use native.Mathlib.Omega.{arith}
use lib.ListN.{length}
use lib.Seq.{sets}
use borrow.Author.Tests.{lt-ltb, le-ltb}
use Rattle.lists.proofs.Choice.{below?}
use Rattle.standard.specs.Answers.{done, ill_formed, too_long, room_asked}
use Rattle.escaper.specs.declared.Mode.{Mode}
use Rattle.escaper.specs.declared.Escaped.{Escaped}
use Rattle.escaper.specs.Escape.{escape, escape_stop, escape_answer, escape_written, escaped, escaped_of, Escapes}
use Rattle.escaper.proofs.Answered.{stops_with}
use Rattle.demands.proofs.Lines.{Line, line-by}

module _ (mode : Mode) (s out : List ℕ) (r : Escaped) (out' : List ℕ) (d : Escapes mode s out r out') where
  -- The answer by its definition.
  abbrev answer : ℕ
  answer = escape_answer mode s (length out)

  -- The input is not too long, and is well-formed.
  abbrev WellFormedInput : Type 0
  WellFormedInput = (length s ≤ 65536) × ((escape_stop s).answer ≡ done)

  answer_is : r.answer ≡ answer
  unfolding escaped_of
  answer_is = ap (λ (x : Escaped). x.answer) d.answered

  -- Each case has its answer.
  long : 65536 < length s → answer ≡ too_long
  unfolding escape_answer
  long h = rw (lt-ltb 65536 (length s) h)

  faulty : (length s ≤ 65536) × ((escape_stop s).answer ≡ ill_formed) → answer ≡ ill_formed
  unfolding escape_answer
  faulty h = rw (le-ltb 65536 (length s) h.0, h.1)

  asked : WellFormedInput × (length out < length (escape mode s)) → answer ≡ room_asked
  unfolding escape_answer
  asked h = rw (le-ltb 65536 (length s) h.0.0, h.0.1, lt-ltb (length out) (length (escape mode s)) h.1)

  fits : WellFormedInput × (length (escape mode s) ≤ length out) → answer ≡ done
  unfolding escape_answer
  fits h = rw (le-ltb 65536 (length s) h.0.0, h.0.1, le-ltb (length out) (length (escape mode s)) h.1)

  -- What an answer is given for.
  abbrev For : ℕ → Type 0
  For a =
      (a ≡ too_long → 65536 < length s) × (a ≡ ill_formed → (length s ≤ 65536) × ((escape_stop s).answer ≡ ill_formed))
      × (a ≡ room_asked → WellFormedInput × (length out < length (escape mode s)))
      × (a ≡ done → WellFormedInput × (length (escape mode s) ≤ length out))

  answered_for : For answer
  answered_for = ⊎_elim is_long (λ short. ⊎_elim (is_good short) (is_faulty short) (stops_with s)) (below? 65536 (length s))
    where
      is_long : 65536 < length s → For answer
      is_long h = rw (long h) (λ e. h, λ e. absurd (omega arith), λ e. absurd (omega arith), λ e. absurd (omega arith))

      is_faulty : length s ≤ 65536 → (escape_stop s).answer ≡ ill_formed → For answer
      is_faulty short h = rw (faulty (short, h)) (λ e. absurd (omega arith), λ e. (short, h), λ e. absurd (omega arith), λ e. absurd (omega arith))

      is_good : length s ≤ 65536 → (escape_stop s).answer ≡ done → For answer
      is_good short h =
          ⊎_elim
          (λ (k : length out < length (escape mode s)). rw (asked ((short, h), k))
          (λ e. absurd (omega arith), λ e. absurd (omega arith), λ e. ((short, h), k), λ e. absurd (omega arith)))
          (λ (k : length (escape mode s) ≤ length out). rw (fits ((short, h), k))
          (λ e. absurd (omega arith), λ e. absurd (omega arith), λ e. absurd (omega arith), λ e. ((short, h), k)))
          (below? (length out) (length (escape mode s)))

  pub line_3 : Line r.answer too_long (65536 < length s) ((r ≡ escaped too_long 0 0) × (out' ≡ out))
  unfolding escaped_of escape_written
  line_3 = line-by answer too_long _ _ answer_is long answered_for.0 (λ e. (d.answered ∙ rw e, d.texts ∙ rw e))

  pub line_1 : Line r.answer ill_formed ((length s ≤ 65536) × ((escape_stop s).answer ≡ ill_formed))
      ((r ≡ escaped ill_formed 0 (escape_stop s).place) × (out' ≡ out))
  unfolding escaped_of escape_written
  line_1 = line-by answer ill_formed _ _ answer_is faulty answered_for.1 (λ e. (d.answered ∙ rw e, d.texts ∙ rw e))

  pub line_9 : Line r.answer room_asked (WellFormedInput × (length out < length (escape mode s)))
      ((r ≡ escaped room_asked (length (escape mode s)) 0) × (out' ≡ out))
  unfolding escaped_of escape_written
  line_9 = line-by answer room_asked _ _ answer_is asked answered_for.2 (λ e. (d.answered ∙ rw e, d.texts ∙ rw e))

  pub line_0 : Line r.answer done (WellFormedInput × (length (escape mode s) ≤ length out))
      ((r ≡ escaped done (length (escape mode s)) 0) × (out' ≡ sets out 0 (escape mode s)))
  unfolding escaped_of escape_written
  line_0 = line-by answer done _ _ answer_is fits answered_for.3 (λ e. (d.answered ∙ rw e, d.texts ∙ rw e))

  -- No other answer is given.
  pub no_other : (r.answer ≡ too_long) ⊎ ((r.answer ≡ ill_formed) ⊎ ((r.answer ≡ room_asked) ⊎ (r.answer ≡ done)))
  no_other =
      rw answer_is
      (⊎_elim (λ h. inl (long h))
      (λ short. ⊎_elim (λ h. ⊎_elim (λ k. inr (inr (inl (asked ((short, h), k))))) (λ k. inr (inr (inr (fits ((short, h), k)))))
      (below? (length out) (length (escape mode s)))) (λ h. inr (inl (faulty (short, h)))) (stops_with s)) (below? 65536 (length s)))
