-- Demand 3: for a readable source of at most 65,536 bytes `check` accepts exactly the good transcripts; else it names the first wrong row with its
-- reason, or the row count where only something remains. RightRows says what is good, right and wrong. c is whatever meets the contract of `check`.
use Rattle.std.specs.Prelude.{if◌then◌else◌}
use Prim.Native.Nat.{ℕ, ◌+◌, ◌*◌, ◌%◌, ◌≤◌, ◌<◌}
use mathlib.Core.Path.{◌≡◌, refl, sym, ◌∙◌, ap, subst}
use mathlib.Core.List.{List, [], ◌∷◌, append-nil}
use mathlib.Core.Bool.{true}
use mathlib.Core.Logic.{◌↔◌, inl, inr}
use native.Mathlib.Omega.{arith}
use lib.Dec.{eqb}
use lib.ListN.{length, take, length-take}
use lib.Seq.{sets}
use Rattle.lists.proofs.Choice.{no_way}
use Rattle.lists.proofs.Every.{All}
use Rattle.lists.proofs.Puts.{take-written}
use Rattle.lists.specs.Layings.{Laying}
use Rattle.lists.proofs.Layings.{laid-plainly}
use Rattle.standard.specs.declared.Context.{Context}
use Rattle.standard.specs.Answers.{done, context_end}
use Rattle.standard.specs.Errors.{numbers}
use Rattle.standard.specs.NameList.{builtin}
use Rattle.standard.specs.Pieces.{Piece}
use Rattle.standard.specs.Reading.{stop_of, covered, readable, pieces_from, pieces, Reading, decode}
use Rattle.standard.proofs.Joining.{numbers-length}
use Rattle.standard.proofs.Stops.{stop-place, stop-done, OneOf, stops_with}
use Rattle.checker.specs.declared.checking.Checked.{Checked}
use Rattle.checker.specs.Transcript.{rows_of, Left, left, total, right, remains, Verdict, judge, checked, checked_of}
use Rattle.checker.proofs.RowLaws.{pieces-total}
use Rattle.decoder.specs.declared.whole.Decoded.{Decoded}
use Rattle.decoder.specs.Whole.{RoomFor, decoded, DecodesBy, Decodes}
use Rattle.demands.proofs.Lines.{Line, LineOf}
use Rattle.demands.proofs.Laws.{rooms_suffice}
use Rattle.demands.proofs.RightRows.{none, Good, Remains, FirstWrong, together, rows_for, in_threes, column}
use Rattle.demands.proofs.Reaching.{Sized, pieces-sized, pieces-some}
use Rattle.demands.proofs.Judging.{
  RowsAre,
  good,
  first_wrong,
  remaining,
  row_named,
  wrong-between,
  judge-says,
  some-verdict,
  cuts_columns,
  cuts_reads,
  groups_good,
  threes-read,
  threes-length,
}
use Rattle.demands.proofs.CheckAnswers as check_answers
use Rattle.demands.proofs.WholeAnswers as whole-answers

-- Accepted: answer 0 with verdict 0 and row 0.
abbrev pub Accepted : Checked → Type 0
Accepted c = (c.answer ≡ done) × (c.verdict ≡ right) × (c.row ≡ 0)

-- What is there before the first row: all pieces of the covered source, all text and all errors.
abbrev pub before_rows : Context → (source text errors : List ℕ) → Left
before_rows context source text errors = left 0 (pieces builtin context (covered context source)) text errors

module _ (context : Context) (source rows text errors : List ℕ) (c : Checked) (is : c ≡ checked_of builtin context source rows text errors)
    (short : length source ≤ 65536) (reads : readable context source ≡ true) where
  abbrev all : Left
  all = before_rows context source text errors

  -- Every piece has a byte.
  sized : Sized all.pieces
  sized = pieces-sized builtin context (covered context source)

  -- With rows in threes and errors in pairs the answer is 0, with a verdict.
  module _ (threes : length rows % 3 ≡ 0) (pairs : length errors % 2 ≡ 0) where
    -- The verdict is the definition's.
    answered : c ≡ checked done (judge 0 all (rows_of rows)) 0
    answered = (check_answers.line_0 context source rows text errors c is).so ((short, (threes, pairs)), reads)

    -- What the rows are, the verdict says.
    says : {reason : ℕ} (j : RowsAre all (rows_of rows) reason) → (c.verdict ≡ reason) × (c.row ≡ row_named j)
    says j =
        let e = judge-says all (rows_of rows) sized j in rw answered (ap (λ (v : Verdict). v.reason) e, ap (λ (v : Verdict). v.at_row) e)

    -- It says nothing else.
    only_so : (reason : ℕ) → c.verdict ≡ reason → RowsAre all (rows_of rows) reason
    only_so reason e = let j = some-verdict all (rows_of rows) sized in subst (RowsAre all (rows_of rows)) (sym (says j.1).0 ∙ e) j.1

    -- The verdict is 0 exactly where the transcript is good; then the row is 0.
    pub accepts : Line c.verdict right (Good all (rows_of rows)) (c.row ≡ 0)
    accepts = record { only = λ e. only (only_so right e); given = λ g. (says (good g)).0; so = λ g. (says (good g)).1 }
      where
        only : RowsAre all (rows_of rows) right → Good all (rows_of rows)
        only (good g) = g
        only (first_wrong w) = absurd (omega (arith, wrong-between w.wrong))

    -- It is a reason from a to d exactly where some row is wrong for that reason and all rows before it are right; then that row is named.
    pub names_first_wrong : (reason : ℕ) → right < reason → reason < remains
        → LineOf c.verdict reason (FirstWrong all (rows_of rows) reason) (λ w. c.row ≡ length w.before)
    names_first_wrong reason some less = record {
      only = λ e. only (only_so reason e) refl;
      given = λ w. (says (first_wrong w)).0;
      so = λ w. (says (first_wrong w)).1;
    }
      where
        only : {n : ℕ} → RowsAre all (rows_of rows) n → n ≡ reason → FirstWrong all (rows_of rows) reason
        only (good g) e = absurd (omega arith)
        only (remaining g) e = absurd (omega arith)
        only (first_wrong w) e = subst (FirstWrong all (rows_of rows)) e w

    -- It is e exactly where all rows are right and something remains; then the row count is named.
    pub names_rest : Line c.verdict remains (Remains all (rows_of rows)) (c.row ≡ length (rows_of rows))
    names_rest = record { only = λ e. only (only_so remains e); given = λ g. (says (remaining g)).0; so = λ g. (says (remaining g)).1 }
      where
        only : RowsAre all (rows_of rows) remains → Remains all (rows_of rows)
        only (remaining g) = g
        only (first_wrong w) = absurd (omega (arith, wrong-between w.wrong))

    -- No other verdict is given.
    pub no_other : c.verdict ≤ remains
    no_other = let j = some-verdict all (rows_of rows) sized in rw (says j.1).0 (at_most j.1)
      where
        at_most : {reason : ℕ} → RowsAre all (rows_of rows) reason → reason ≤ remains
        at_most (good g) = omega arith
        at_most (remaining g) = omega arith
        at_most (first_wrong w) = omega (arith, wrong-between w.wrong)

  -- The source is readable and not too long: `check` accepts exactly where the rows are in threes and are a good transcript.
  pub accepts_exactly : Accepted c ↔ ((length rows % 3 ≡ 0) × Good all (rows_of rows))
  accepts_exactly = (only, given)
    where
      only : Accepted c → (length rows % 3 ≡ 0) × Good all (rows_of rows)
      only a =
          let whole = ((check_answers.line_0 context source rows text errors c is).only a.0).0.1 in
          (whole.0, (accepts whole.0 whole.1).only a.1)

      given : (length rows % 3 ≡ 0) × Good all (rows_of rows) → Accepted c
      given (threes, g) =
          let pairs : length errors % 2 ≡ 0 = omega (arith, cuts_columns g.cuts, ap length g.spent.2) in
          (ap (λ (x : Checked). x.answer) (answered threes pairs), (accepts threes pairs).given g, (accepts threes pairs).so g)

  module _ (accepted : Accepted c) where
    -- On acceptance the three columns add up to covered length, text length and error count (two numbers an error).
    pub columns : (column (λ r. r.source) (rows_of rows) ≡ length (covered context source)) × (column (λ r. r.text) (rows_of rows) ≡ length text)
        × (2 * column (λ r. r.errors) (rows_of rows) ≡ length errors)
    unfolding total
    columns =
        let g = (accepts_exactly.0 accepted).1 in
        let w = cuts_columns g.cuts in (
          omega (arith, w.0, ap total g.spent.0, pieces-total builtin context (covered context source)),
          omega (arith, w.1, ap length g.spent.1),
          omega (arith, w.2, ap length g.spent.2),
        )

    -- Text and errors are then the standard's for the covered source: no other text and no other errors are ever accepted for it.
    pub reads_so : let given = decode builtin context (covered context source) in (text ≡ given.text) × (errors ≡ numbers given.errors)
    reads_so = let g = (accepts_exactly.0 accepted).1 in cuts_reads g.cuts g.spent

-- Any cutting passes: groups of one or more pieces, which are all pieces of the covered part together, a row for each, with the standard's text and
-- errors.
pub any_cutting_passes : (context : Context) (source : List ℕ) → length source ≤ 65536 → readable context source ≡ true
    → (groups : List (List Piece)) → All (λ (group : List Piece). 0 < length group) groups
    → together groups ≡ pieces builtin context (covered context source)
    → let given = decode builtin context (covered context source) in
    (c : Checked) → c ≡ checked_of builtin context source (in_threes (rows_for 0 groups)) given.text (numbers given.errors) → Accepted c
any_cutting_passes context source short reads groups some all c is =
    (accepts_exactly context source _ _ _ c is short reads).1
    (threes-length (rows_for 0 groups), rw (threes-read (rows_for 0 groups)) (rw all at (groups_good 0 groups some)))

-- Where nothing is covered the empty transcript passes: no rows, no text and no errors.
pub empty_passes : (context : Context) (source : List ℕ) → length source ≤ 65536 → readable context source ≡ true → covered context source ≡ []
    → (c : Checked) → c ≡ checked_of builtin context source [] [] [] → Accepted c
unfolding rows_of pieces_from
empty_passes context source short reads empty c is = (accepts_exactly context source [] [] [] c is short reads).1 (
  refl,
  record { end = before_rows context source [] []; cuts = none; spent = (rw empty, refl, refl) },
)

-- An answer 0 or 7 of `decode_whole` as a row: its place, if it names one, and else the source's length; its text bytes; its errors.
abbrev pub as_row : List ℕ → Decoded → List ℕ
as_row source d = (if eqb d.answer context_end then d.place else length source) ∷ d.text ∷ d.errors ∷ []

module _ (context : Context) (source : List ℕ) (short : length source ≤ 65536) (reads : readable context source ≡ true)
    (some : 0 < length (covered context source)) where
  -- Without rows every transcript of a covered part that isn't empty is refused.
  pub no_rows_refused : (text errors : List ℕ) → length errors % 2 ≡ 0 → (c : Checked) → c ≡ checked_of builtin context source [] text errors
      → (c.verdict ≡ remains) × (c.row ≡ 0)
  unfolding rows_of
  no_rows_refused text errors pairs c is =
      let line = names_rest context source [] text errors c is short reads refl pairs in (line.given rest, line.so rest)
    where
      rest : Remains (before_rows context source text errors) []
      rest = record {
        end = before_rows context source text errors;
        cuts = none;
        unspent = λ s. omega (arith, ap length s.0, pieces-some builtin context (covered context source) some);
      }

  -- The standard's reading of the covered part.
  abbrev whole : Reading
  whole = decode builtin context (covered context source)

  -- As one row it passes.
  pub one_row_passes : (n : ℕ) → n ≡ length (covered context source) → (c : Checked)
      → c ≡ checked_of builtin context source (n ∷ length whole.text ∷ length whole.errors ∷ []) whole.text (numbers whole.errors)
      → Accepted c
  one_row_passes n e c is =
      let ps = pieces builtin context (covered context source) in
      let bytes : n ≡ total ps = e ∙ sym (pieces-total builtin context (covered context source)) in
      any_cutting_passes context source short reads (ps ∷ []) (pieces-some builtin context (covered context source) some, tt) (append-nil ps) c
      (rw bytes at is)

  -- The place where a source stops is how much of it is covered.
  covered_length : length (covered context source) ≡ (stop_of context source).place
  covered_length = omega (arith, length-take (stop_of context source).place source, stop-place context source)

  -- However numbers are laid: the answer of a decoding into rooms that suffice is the covered part's row, and what it wrote is the standard's.
  module _ {width : ℕ} {lay : List ℕ → List ℕ} (laid : Laying width lay) (room : ℕ) (text errors : List ℕ) (d : Decoded) (text' errors' : List ℕ)
      (decodes : DecodesBy lay room context source text errors d text' errors') (suffice : RoomFor source (length text) room) where
    abbrev ReadAsRow : Type 0
    ReadAsRow = (as_row source d ≡ length (covered context source) ∷ length whole.text ∷ length whole.errors ∷ [])
        × (d.errors ≡ length whole.errors) × (take d.text text' ≡ whole.text) × (errors' ≡ sets errors 0 (lay (numbers whole.errors)))

    pub read_as_row : ReadAsRow
    read_as_row = go (stops_with context source)
      where
        text_there : take (length whole.text) (sets text 0 whole.text) ≡ whole.text
        text_there = take-written text whole.text (length whole.text) refl (omega (arith, suffice.0, (rooms_suffice context source).0))

        by_answer : (answer place : ℕ)
            → (d ≡ decoded answer (length whole.text) (length whole.errors) place) × (text' ≡ sets text 0 whole.text)
            × (errors' ≡ sets errors 0 (lay (numbers whole.errors)))
            → (if eqb answer context_end then place else length source) ≡ length (covered context source) → ReadAsRow
        by_answer answer place w covers = rw (w.0, w.1, covers) (refl, refl, text_there, w.2)

        go : OneOf (stop_of context source).answer → ReadAsRow
        go (inl e) =
            by_answer done 0 ((whole-answers.line_0 laid room context source text errors d text' errors' decodes).so (short, suffice, e))
            (omega (arith, covered_length, stop-done context source e))
        go (inr (inl e)) = no_way (sym (rw e at reads))
        go (inr (inr (inl e))) = no_way (sym (rw e at reads))
        go (inr (inr (inr e))) =
            by_answer context_end (stop_of context source).place
            ((whole-answers.line_7 laid room context source text errors d text' errors' decodes).so (short, suffice, e)) (sym covered_length)

  module _ (text errors : List ℕ) (d : Decoded) (text' errors' : List ℕ) (decodes : Decodes context source text errors d text' errors') where
    -- The answer of `decode_whole`, with what it wrote into rooms that suffice, passes as one row.
    pub whole-passes : length source + 64 ≤ length text → 2 * length source + 8 ≤ length errors
        → (c : Checked) → c ≡ checked_of builtin context source (as_row source d) (take d.text text') (take (2 * d.errors) errors')
        → Accepted c
    whole-passes text_room error-room c is =
        let r = read_as_row laid-plainly (length errors) text errors d text' errors' decodes (text_room, error-room) in
        let errors_there : take (2 * length whole.errors) (sets errors 0 (numbers whole.errors)) ≡ numbers whole.errors =
        take-written errors (numbers whole.errors) (2 * length whole.errors) (omega (arith, numbers-length whole.errors))
        (omega (arith, (rooms_suffice context source).1)) in
        one_row_passes _ refl c (is ∙ rw (r.0, r.2, r.1, r.3, errors_there))
