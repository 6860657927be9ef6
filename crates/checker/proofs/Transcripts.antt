-- Demand 3 by the definitions: which transcripts are accepted, and what is named of the others.
use Prim.Native.Nat.{ℕ, ◌*◌, ◌≤◌, ◌<◌}
use mathlib.Core.Path.{◌≡◌, refl, ◌∙◌, ap}
use mathlib.Core.List.{List, [], ◌∷◌, append-nil}
use mathlib.Core.Bool.{true}
use mathlib.Core.Logic.{◌↔◌, inl, inr}
use native.Mathlib.Omega.{arith}
use lib.ListN.{length}
use Rattle.lists.proofs.Every.{All}
use Rattle.lists.proofs.Tables.{Line, ◌when◌with◌, Table}
use Rattle.lists.proofs.TableLaws.{◌and◌, none, Some, table_by, holds}
use Rattle.lists.proofs.Ways.{Way, said, Says, Small}
use Rattle.lists.proofs.WayLaws.{says_none}
use Rattle.standard.specs.declared.Context.{Context}
use Rattle.standard.specs.Errors.{numbers}
use Rattle.standard.specs.Answers.{done}
use Rattle.standard.specs.NameList.{builtin}
use Rattle.standard.specs.Pieces.{Piece}
use Rattle.standard.specs.Reading.{covered, readable, pieces_from, pieces, decode}
use Rattle.standard.proofs.Joining.{numbers-length}
use Rattle.standard.proofs.Stops.{stop-place}
use Rattle.standard.proofs.Covered.{covered_length}
use Rattle.checker.specs.declared.checking.Checked.{Checked}
use Rattle.checker.specs.Transcript.{
  Row,
  rows_of,
  Left,
  left,
  total,
  right,
  no_source,
  no_piece_end,
  text_differs,
  errors_differ,
  remains,
  Verdict,
  verdict,
  judge,
  checked,
}
use Rattle.checker.proofs.RowLaws.{pieces-total}
use Rattle.checker.proofs.RightRows as rows_are
use Rattle.checker.proofs.RightRows.{
  InGroups,
  Accepted,
  Good,
  Remains,
  no_bytes,
  past,
  within,
  no_text,
  no_errors,
  FirstWrong,
  here,
  later,
  together,
  rows_for,
  in_threes,
  column,
}
use Rattle.checker.proofs.Reaching.{Sized, pieces-sized, pieces-some, total-least}
use Rattle.checker.proofs.Judging.{
  RowsAre,
  good,
  first_wrong,
  remaining,
  judge-says,
  some-verdict,
  verdict-few,
  cuts_columns,
  cuts_reads,
  groups_good,
  threes-read,
  threes-length,
}
use Rattle.checker.proofs.CheckTable.{ChecksAs, check_table}

module _ {way : Way} {context : Context} {source rows text errors : List ℕ} {c : Checked} (so : ChecksAs way context source rows text errors c)
    (short : length source ≤ 65536) (reads : readable context source ≡ true) where
  -- What is there before the first row, and the rows.
  abbrev all : Left
  all = left 0 (pieces builtin context (covered context source)) text (said way errors)

  abbrev given : List Row
  given = rows_of (said way rows)

  -- Every piece has a byte.
  sized : Sized all.pieces
  sized = pieces-sized builtin context (covered context source)

  -- Some row is the first wrong one, for a reason.
  abbrev First : ℕ → Type 0
  First reason = (number : ℕ) × FirstWrong all given reason number

  -- It is the row that is named.
  abbrev Named : ℕ → Type 0
  Named reason = (number : ℕ) → FirstWrong all given reason number → c.row ≡ number

  abbrev verdicts : List Line
  verdicts =
      (right when Good all given with c.row ≡ 0)
      ∷ (no_source when First no_source with Named no_source)
      ∷ (no_piece_end when First no_piece_end with Named no_piece_end)
      ∷ (text_differs when First text_differs with Named text_differs)
      ∷ (errors_differ when First errors_differ with Named errors_differ)
      ∷ (remains when Remains all given with c.row ≡ length given)
      ∷ []

  module _ (whole : InGroups way 3 rows × InGroups way 2 errors) where
    -- With rows in threes and errors in pairs the answer is 0, with a verdict.
    answered : c ≡ checked done (judge 0 all given) 0
    answered = (check_table so).each.1.1.1.1.0.so ((short, whole), reads)

    -- What the rows are, the verdict says.
    says : {v : Verdict} → RowsAre all given v → (c.verdict ≡ v.reason) × (c.row ≡ v.at_row)
    says j = rw (answered, judge-says sized j) (refl, refl)

    -- A first wrong row is named, with its reason.
    names : (reason : ℕ) → First reason → (c.verdict ≡ reason) × Named reason
    names reason w = ((says (first_wrong w.1)).0, λ n f. (says (first_wrong f)).1)

    -- Each verdict is given exactly when the rows are so.
    pub verdict_table : Table c.verdict verdicts
    verdict_table =
        table_by refl
        ((λ g. says (good g)) and names no_source and names no_piece_end and names text_differs and names errors_differ and (λ g. says (remaining g))
        and none) (some (some-verdict all given sized).1)
      where
        which : {l : Left} {later : List Row} {reason n number : ℕ} → FirstWrong l later reason n → FirstWrong all given reason number → Some verdicts
        which (here (no_bytes h)) w = inr (inl (_, w))
        which (here (past h)) w = inr (inl (_, w))
        which (here (within s there no_end)) w = inr (inr (inl (_, w)))
        which (here (no_text next rest j no_such)) w = inr (inr (inr (inl (_, w))))
        which (here (no_errors next rest j more x no_such)) w = inr (inr (inr (inr (inl (_, w)))))
        which (later x f) w = which f w

        some : {v : Verdict} → RowsAre all given v → Some verdicts
        some (good g) = inl g
        some (first_wrong w) = which w w
        some (remaining g) = inr (inr (inr (inr (inr (inl g)))))

    -- The verdict is at most 5, and names a row that is not past the pieces.
    verdict_small : (c.verdict ≤ remains) × (c.row ≤ length all.pieces)
    verdict_small =
        let v = (some-verdict all given sized).1 in
        let few = verdict-few v in (omega (arith, (says v).0, few.0), omega (arith, (says v).1, few.1))

  -- The good transcripts are accepted, and no others.
  pub accepts_exactly : Accepted c ↔ ((InGroups way 3 rows × InGroups way 2 errors) × Good all given)
  accepts_exactly = (only, λ w. (ap (λ (x : Checked). x.answer) (answered w.0), (says w.0 (good w.1)).0, (says w.0 (good w.1)).1))
    where
      only : Accepted c → (InGroups way 3 rows × InGroups way 2 errors) × Good all given
      only a =
          let whole = ((check_table so).each.1.1.1.1.0.only a.0).0.1 in
          (whole, (verdict_table whole).each.0.only a.1)

  module _ (accepted : Accepted c) where
    -- The columns add up to what is there.
    pub columns : (column (λ r. r.source) given ≡ length (covered context source)) × (column (λ r. r.text) given ≡ length text)
        × (2 * column (λ r. r.errors) given ≡ length (said way errors))
    unfolding total
    columns =
        let g = (accepts_exactly.0 accepted).1 in
        let w = cuts_columns g.1 in (
          omega (arith, w.0, ap total g.2.0, pieces-total builtin context (covered context source)),
          omega (arith, w.1, ap length g.2.1),
          omega (arith, w.2, ap length g.2.2),
        )

    -- Text and errors are the standard's.
    pub reads_so : let whole = decode builtin context (covered context source) in (text ≡ whole.text) × (said way errors ≡ numbers whole.errors)
    reads_so = let g = (accepts_exactly.0 accepted).1 in cuts_reads g.1 g.2

-- The four numbers of an answer fit into four bytes each.
pub check-small : {way : Way} {context : Context} {source rows text errors : List ℕ} {c : Checked} → ChecksAs way context source rows text errors c
    → All Small (c.answer ∷ c.verdict ∷ c.row ∷ c.place ∷ [])
check-small {context = context} {source} {c = c} so =
    let near = stop-place context source in
    let ps = pieces builtin context (covered context source) in
    let few = total-least ps (pieces-sized builtin context (covered context source)) in
    let all : total ps ≤ length source = omega (arith, near, pieces-total builtin context (covered context source), covered_length context source) in
    elim (holds (check_table so)) [
      | inl w ↦ refusal w.2 (omega arith) (omega arith)
      | inr (inl w) ↦ refusal w.2 (omega arith) (omega arith)
      | inr (inr (inl w)) ↦ refusal w.2 (omega arith) (omega (arith, w.1.0.0, near))
      | inr (inr (inr (inl w))) ↦ refusal w.2 (omega arith) (omega (arith, w.1.0.0, near))
      | inr (inr (inr (inr (inl w)))) ↦
          let k = verdict_small so w.1.0.0 w.1.1 w.1.0.1 in
          (omega (arith, w.0), (omega (arith, k.0), (omega (arith, k.1, few, all, w.1.0.0), (rw w.2 (omega arith), tt))))
      | inr (inr (inr (inr (inr w)))) ↦ elim w [ ]
    ]
  where
    refusal : {answer place : ℕ} → c ≡ checked answer (verdict right 0) place → Small answer → Small place
        → All Small (c.answer ∷ c.verdict ∷ c.row ∷ c.place ∷ [])
    refusal e a p = rw e (a, (omega arith, (omega arith, (p, tt))))

-- Transcripts of a readable source of at most 65,536 bytes that have the standard's text and errors.
module _ {way : Way} {context : Context} {source rows errors : List ℕ} {c : Checked} (short : length source ≤ 65536)
    (reads : readable context source ≡ true) (so : ChecksAs way context source rows (decode builtin context (covered context source)).text errors c)
    (errors-said : Says way errors (numbers (decode builtin context (covered context source)).errors)) where
  -- Groups of pieces, a row for each.
  pub any_cutting_passes : (groups : List (List Piece)) → All (λ (group : List Piece). 0 < length group) groups
      → together groups ≡ pieces builtin context (covered context source) → Says way rows (in_threes (rows_for 0 groups)) → Accepted c
  any_cutting_passes groups some whole said-rows =
      let pairs = numbers-length (decode builtin context (covered context source)).errors in
      (accepts_exactly so short reads).1 (
        ((said-rows.0, rw said-rows.1 (threes-length (rows_for 0 groups))), (errors-said.0, rw errors-said.1 (omega (arith, pairs)))),
        rw (said-rows.1, errors-said.1, threes-read (rows_for 0 groups)) (rw whole at (groups_good 0 groups some)),
      )

  -- All of it as one row, where a byte is covered.
  pub one_row_passes : 0 < length (covered context source)
      → (let whole = decode builtin context (covered context source) in
      Says way rows (length (covered context source) ∷ length whole.text ∷ length whole.errors ∷ [])) → Accepted c
  one_row_passes some said_row =
      let ps = pieces builtin context (covered context source) in
      let bytes = pieces-total builtin context (covered context source) in
      any_cutting_passes (ps ∷ []) (pieces-some builtin context (covered context source) some, tt) (append-nil ps) (rw bytes said_row)

-- Where nothing is covered, the empty transcript.
pub empty_passes : {way : Way} {context : Context} {source : List ℕ} {c : Checked} → length source ≤ 65536 → readable context source ≡ true
    → covered context source ≡ [] → ChecksAs way context source [] [] [] c → Accepted c
unfolding rows_of pieces_from
empty_passes {way} short reads empty so =
    let n = says_none way in
    (accepts_exactly so short reads).1 (((n.0, rw n.1), (n.0, rw n.1)), rw (n.1, empty) (_, rows_are.none, (refl, refl, refl)))

-- Where a byte is covered, no transcript without rows.
pub no_rows_refused : {way : Way} {context : Context} {source text errors : List ℕ} {c : Checked} → length source ≤ 65536
    → readable context source ≡ true → 0 < length (covered context source) → InGroups way 2 errors → ChecksAs way context source [] text errors c
    → (c.verdict ≡ remains) × (c.row ≡ 0)
unfolding rows_of
no_rows_refused {way} {context} {source} {text} {errors} short reads some pairs so =
    let n = says_none way in
    let l = (verdict_table so short reads ((n.0, rw n.1), pairs)).each.1.1.1.1.1.0 in
    let before = left 0 (pieces builtin context (covered context source)) text (said way errors) in
    let rest : Remains before (rows_of (said way [])) =
    rw n.1 (before, rows_are.none, λ s. omega (arith, ap length s.0, pieces-some builtin context (covered context source) some)) in
    (l.given rest, l.so rest ∙ rw n.1)
