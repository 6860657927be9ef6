-- Demand 1 for transcripts: for each line of the table of answers, when `check` gives it, and what then holds.
-- c is whatever meets the contract of `check` for a source, rows, text and errors.
use Rattle.std.specs.Prelude.{if◌then◌else◌}
use Prim.Native.Nat.{ℕ, ◌%◌, ◌≤◌, ◌<◌}
use mathlib.Core.Path.{◌≡◌, refl, sym, ◌∙◌, ap, subst}
use mathlib.Core.List.{List}
use mathlib.Core.Bool.{true, false, not, ◌||◌, ◌&&◌}
use mathlib.Core.Logic.{◌⊎◌, inl, inr, ⊎_elim}
use native.Mathlib.Omega.{arith}
use lib.Dec.{eqb}
use lib.ListN.{length}
use borrow.Author.Tests.{eqb-true, eq-eqb}
use Rattle.lists.specs.Bytes.{words}
use Rattle.lists.proofs.Choice.{no_way, test?, same?, below?, and_true}
use Rattle.standard.specs.declared.Context.{Context}
use Rattle.standard.specs.Answers.{done, ill_formed, nul, too_long, context_end, not_whole}
use Rattle.standard.specs.NameList.{builtin}
use Rattle.standard.specs.Reading.{Stop, stop_of, covered, readable}
use Rattle.standard.proofs.Stops.{OneOf, stops_with}
use Rattle.checker.specs.declared.checking.Checked.{Checked}
use Rattle.checker.specs.Transcript.{right, Verdict, verdict, verdict_on, checked, checked_of, checked_bytes}
use Rattle.checker.proofs.CheckLaws.{check_order, bytes_order}
use Rattle.demands.proofs.Lines.{Line, line-by}

-- The answers of the check.
abbrev pub Answer : ℕ → Type 0
Answer a = (a ≡ too_long) ⊎ ((a ≡ not_whole) ⊎ ((a ≡ ill_formed) ⊎ ((a ≡ nul) ⊎ (a ≡ done))))

module _ (context : Context) (source rows text errors : List ℕ) where
  -- The rows are in threes, and the errors in pairs.
  abbrev pub ThreesAndPairs : Type 0
  ThreesAndPairs = (length rows % 3 ≡ 0) × (length errors % 2 ≡ 0)

  -- The source is not too long, and rows and errors are whole: the source is read.
  abbrev pub Looked : Type 0
  Looked = (length source ≤ 65536) × ThreesAndPairs

  -- Where the source stops.
  abbrev stop : Stop
  stop = stop_of context source

  -- The verdict by its definition.
  abbrev found : Verdict
  found = verdict_on builtin context (covered context source) rows text errors

  -- What each answer is given for.
  data When : ℕ → Type 0 where
    long : 65536 < length source → When too_long
    part : length source ≤ 65536 → (ThreesAndPairs → ⊥) → When not_whole
    no_character : Looked → stop.answer ≡ ill_formed → When ill_formed
    nul_character : Looked → stop.answer ≡ nul → When nul
    reads : Looked → readable context source ≡ true → When done

  -- Rows and errors are whole where the test says so, and only there.
  whole_of : eqb (length rows % 3) 0 && eqb (length errors % 2) 0 ≡ true → ThreesAndPairs
  whole_of t =
      let w = and_true (eqb (length rows % 3) 0) (eqb (length errors % 2) 0) t in
      (eqb-true (length rows % 3) 0 w.0, eqb-true (length errors % 2) 0 w.1)

  whole_test : ThreesAndPairs → eqb (length rows % 3) 0 && eqb (length errors % 2) 0 ≡ true
  whole_test w = rw (eq-eqb (length rows % 3) 0 w.0, eq-eqb (length errors % 2) 0 w.1)

  -- The whole answer.
  abbrev all : Checked
  all = checked_of builtin context source rows text errors

  -- 3.
  says_long : 65536 < length source → all ≡ checked too_long (verdict right 0) 0
  says_long h = sym ((check_order context source rows text errors).long h)

  -- 10.
  says_part : length source ≤ 65536 → (ThreesAndPairs → ⊥) → all ≡ checked not_whole (verdict right 0) 0
  says_part short no_whole = sym ((check_order context source rows text errors).odd short no_whole)

  -- After these the answer is by whether the source is readable.
  says_looked : Looked
      → all ≡ (if not (readable context source) then checked stop.answer (verdict right 0) stop.place else checked done found 0)
  says_looked h = sym ((check_order context source rows text errors).whole h.0 h.1.0 h.1.1)

  -- 1 and 2.
  says_stop : (a : ℕ) → eqb a done || eqb a context_end ≡ false → Looked → stop.answer ≡ a → all ≡ checked a (verdict right 0) stop.place
  says_stop a f h e = says_looked h ∙ rw (e, f)

  -- 0.
  says_found : Looked → readable context source ≡ true → all ≡ checked done found 0
  says_found h e = says_looked h ∙ rw e

  -- Each answer is given for that.
  given_for : {a : ℕ} → When a → all.answer ≡ a
  given_for (long h) = rw (says_long h)
  given_for (part short no_whole) = rw (says_part short no_whole)
  given_for (no_character h e) = rw (says_stop ill_formed refl h e)
  given_for (nul_character h e) = rw (says_stop nul refl h e)
  given_for (reads h e) = rw (says_found h e)

  -- One of these is so.
  some_answer : (a : ℕ) × When a
  some_answer = ⊎_elim (λ h. (too_long, long h)) short (below? 65536 (length source))
    where
      stopped : Looked → OneOf stop.answer → (a : ℕ) × When a
      stopped h (inl e) = (done, reads h (rw e))
      stopped h (inr (inl e)) = (ill_formed, no_character h e)
      stopped h (inr (inr (inl e))) = (nul, nul_character h e)
      stopped h (inr (inr (inr e))) = (done, reads h (rw e))

      short : length source ≤ 65536 → (a : ℕ) × When a
      short h =
          ⊎_elim (λ t. stopped (h, whole_of t) (stops_with context source)) (λ f. (not_whole, part h (λ w. no_way (sym (whole_test w) ∙ f))))
          (test? (eqb (length rows % 3) 0 && eqb (length errors % 2) 0))

  -- So an answer is given for nothing else.
  only_for : (a : ℕ) → all.answer ≡ a → When a
  only_for a e = let w = some_answer in subst When (sym (given_for w.1) ∙ e) w.1

  module _ (c : Checked) (is : c ≡ all) where
    -- A line, by what its answer is given for.
    by_when : (a : ℕ) (why result : Type 0) → (When a → why) → (why → When a) → (why → c ≡ all → result) → Line c.answer a why result
    by_when a why result only given so =
        line-by all.answer a why result (ap (λ (x : Checked). x.answer) is) (λ w. given_for (given w)) (λ e. only (only_for a e))
        (λ e. so (only (only_for a e)) is)

    -- An answer without a verdict.
    abbrev Refused : (answer place : ℕ) → Type 0
    Refused answer place = c ≡ checked answer (verdict right 0) place

    pub line_3 : Line c.answer too_long (65536 < length source) (Refused too_long 0)
    line_3 = by_when too_long _ _ only long (λ h e. e ∙ says_long h)
      where
        only : When too_long → 65536 < length source
        only (long h) = h

    pub line_10 : Line c.answer not_whole ((length source ≤ 65536) × (ThreesAndPairs → ⊥)) (Refused not_whole 0)
    line_10 = by_when not_whole _ _ only (λ w. part w.0 w.1) (λ w e. e ∙ says_part w.0 w.1)
      where
        only : When not_whole → (length source ≤ 65536) × (ThreesAndPairs → ⊥)
        only (part short no_whole) = (short, no_whole)

    pub line_1 : Line c.answer ill_formed (Looked × (stop.answer ≡ ill_formed)) (Refused ill_formed stop.place)
    line_1 = by_when ill_formed _ _ only (λ w. no_character w.0 w.1) (λ w e. e ∙ says_stop ill_formed refl w.0 w.1)
      where
        only : When ill_formed → Looked × (stop.answer ≡ ill_formed)
        only (no_character h e) = (h, e)

    pub line_2 : Line c.answer nul (Looked × (stop.answer ≡ nul)) (Refused nul stop.place)
    line_2 = by_when nul _ _ only (λ w. nul_character w.0 w.1) (λ w e. e ∙ says_stop nul refl w.0 w.1)
      where
        only : When nul → Looked × (stop.answer ≡ nul)
        only (nul_character h e) = (h, e)

    -- With 0 comes the verdict: Transcript says what it is.
    pub line_0 : Line c.answer done (Looked × (readable context source ≡ true)) (c ≡ checked done found 0)
    line_0 = by_when done _ _ only (λ w. reads w.0 w.1) (λ w e. e ∙ says_found w.0 w.1)
      where
        only : When done → Looked × (readable context source ≡ true)
        only (reads h e) = (h, e)

    -- No other answer is given.
    pub no_other : Answer c.answer
    no_other = rw is (let w = some_answer in rw (given_for w.1) (one w.1))
      where
        one : {a : ℕ} → When a → Answer a
        one (long h) = inl refl
        one (part short no_whole) = inr (inl refl)
        one (no_character h e) = inr (inr (inl refl))
        one (nul_character h e) = inr (inr (inr (inl refl)))
        one (reads h e) = inr (inr (inr (inr refl)))

-- The same for `check_bytes`, whose rows and errors are bytes, four a number: 10 also where these are no whole numbers.
module _ (context : Context) (source rows text errors : List ℕ) (c : Checked) (is : c ≡ checked_bytes builtin context source rows text errors) where
  -- The bytes of both are whole numbers.
  abbrev pub Fours : Type 0
  Fours = (length rows % 4 ≡ 0) × (length errors % 4 ≡ 0)

  pub bytes_3 : 65536 < length source → c ≡ checked too_long (verdict right 0) 0
  bytes_3 h = is ∙ sym ((bytes_order context source rows text errors).long h)

  pub bytes_10 : length source ≤ 65536 → (Fours → ⊥) → c ≡ checked not_whole (verdict right 0) 0
  bytes_10 short odd = is ∙ sym ((bytes_order context source rows text errors).odd short odd)

  pub bytes_as_words : length source ≤ 65536 → Fours → c ≡ checked_of builtin context source (words rows) text (words errors)
  bytes_as_words short whole = is ∙ sym ((bytes_order context source rows text errors).whole short whole.0 whole.1)

  -- What holds in each of these three cases holds.
  pub by_bytes : (A : Type 0) → (65536 < length source → A) → (length source ≤ 65536 → (Fours → ⊥) → A) → (length source ≤ 65536 → Fours → A) → A
  by_bytes A over odd whole =
      ⊎_elim over
      (λ s. ⊎_elim
      (λ a. ⊎_elim (λ b. whole s (a, b)) (λ b. odd s (λ w. b w.1)) (same? (length errors % 4) 0))
      (λ a. odd s (λ w. a w.0)) (same? (length rows % 4) 0)) (below? 65536 (length source))

  -- Rows and errors are whole numbers, in threes and in pairs.
  abbrev pub WholeBytes : Type 0
  WholeBytes = Fours × ThreesAndPairs context source (words rows) text (words errors)

  answers : {a : ℕ} (v : Verdict) (place : ℕ) → c ≡ checked a v place → c.answer ≡ a
  answers v place e = ap (λ (x : Checked). x.answer) e

  pub bytes_line_3 : Line c.answer too_long (65536 < length source) (c ≡ checked too_long (verdict right 0) 0)
  bytes_line_3 =
      by_bytes _ (λ h. record { only = λ e. h; given = λ w. answers _ _ (bytes_3 h); so = bytes_3 })
      (λ s o. record {
        only = λ e. absurd (omega (arith, answers _ _ (bytes_10 s o), e));
        given = λ w. absurd (omega (arith, s, w));
        so = bytes_3;
      })
      (λ s f. line_3 context source (words rows) text (words errors) c (bytes_as_words s f))

  pub bytes_line_10 : Line c.answer not_whole ((length source ≤ 65536) × (WholeBytes → ⊥)) (c ≡ checked not_whole (verdict right 0) 0)
  bytes_line_10 =
      by_bytes _
      (λ h. record {
        only = λ e. absurd (omega (arith, answers _ _ (bytes_3 h), e));
        given = λ w. absurd (omega (arith, h, w.0));
        so = λ w. absurd (omega (arith, h, w.0));
      })
      (λ s o. record { only = λ e. (s, λ w. o w.0); given = λ w. answers _ _ (bytes_10 s o); so = λ w. bytes_10 s o })
      (λ s f. let l = line_10 context source (words rows) text (words errors) c (bytes_as_words s f) in record {
        only = λ e. (s, λ w. (l.only e).1 w.1);
        given = λ w. l.given (s, λ x. w.1 (f, x));
        so = λ w. l.so (s, λ x. w.1 (f, x));
      })

  -- A line of a source that is read.
  looked_line : (a : ℕ) (p result : Type 0) → (a ≡ too_long → ⊥) → (a ≡ not_whole → ⊥)
      → (c ≡ checked_of builtin context source (words rows) text (words errors)
      → Line c.answer a (Looked context source (words rows) text (words errors) × p) result)
      → Line c.answer a (((length source ≤ 65536) × WholeBytes) × p) result
  looked_line a p result x y of_words =
      by_bytes _
      (λ h. record {
        only = λ e. absurd (x (sym e ∙ answers _ _ (bytes_3 h)));
        given = λ w. absurd (omega (arith, h, w.0.0));
        so = λ w. absurd (omega (arith, h, w.0.0));
      })
      (λ s o. record {
        only = λ e. absurd (y (sym e ∙ answers _ _ (bytes_10 s o)));
        given = λ w. absurd (o w.0.1.0);
        so = λ w. absurd (o w.0.1.0);
      })
      (λ s f. let l = of_words (bytes_as_words s f) in record {
        only = λ e. ((s, (f, (l.only e).0.1)), (l.only e).1);
        given = λ w. l.given ((s, w.0.1.1), w.1);
        so = λ w. l.so ((s, w.0.1.1), w.1);
      })

  pub bytes_line_1 : let stop = stop_of context source in
      Line c.answer ill_formed (((length source ≤ 65536) × WholeBytes) × (stop.answer ≡ ill_formed))
      (c ≡ checked ill_formed (verdict right 0) stop.place)
  bytes_line_1 = looked_line ill_formed _ _ (λ e. omega arith) (λ e. omega arith) (line_1 context source (words rows) text (words errors) c)

  pub bytes_line_2 : let stop = stop_of context source in
      Line c.answer nul (((length source ≤ 65536) × WholeBytes) × (stop.answer ≡ nul)) (c ≡ checked nul (verdict right 0) stop.place)
  bytes_line_2 = looked_line nul _ _ (λ e. omega arith) (λ e. omega arith) (line_2 context source (words rows) text (words errors) c)

  pub bytes_line_0 : Line c.answer done (((length source ≤ 65536) × WholeBytes) × (readable context source ≡ true))
      (c ≡ checked done (verdict_on builtin context (covered context source) (words rows) text (words errors)) 0)
  bytes_line_0 = looked_line done _ _ (λ e. omega arith) (λ e. omega arith) (line_0 context source (words rows) text (words errors) c)

  pub bytes_no_other : Answer c.answer
  bytes_no_other =
      by_bytes _ (λ h. inl (answers _ _ (bytes_3 h))) (λ s o. inr (inl (answers _ _ (bytes_10 s o))))
      (λ s f. no_other context source (words rows) text (words errors) c (bytes_as_words s f))
