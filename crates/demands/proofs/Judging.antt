-- Laws of the definition of the verdict: what it finds of a row, and of rows, is what the relations of RightRows say.
use Rattle.std.specs.Prelude.{if◌then◌else◌}
use Prim.Native.Nat.{ℕ, suc, ◌+◌, ◌*◌, ◌%◌, ◌≤◌, ◌<◌}
use mathlib.Core.Path.{◌≡◌, refl, sym, ◌∙◌, ap, subst}
use mathlib.Core.List.{List, [], ◌∷◌, ◌++◌, append-nil}
use mathlib.Core.Bool.{Bool, true, false, not, ◌&&◌}
use mathlib.Core.Logic.{◌⊎◌, inl, inr, ⊎_elim}
use native.Mathlib.Omega.{arith}
use lib.Dec.{eqb}
use lib.ListN.{length, drop, length-append}
use lib.Seq.{take-append_seam, drop-append_seam, drop_at}
use borrow.Author.Tests.{eqb-true, eqb-false, eq-eqb, ne_eqb, le-ltb, lt-ltb}
use Rattle.lists.proofs.Choice.{no_way, test?, below?, and_true, length_none}
use Rattle.lists.proofs.Every.{All}
use Rattle.standard.specs.Errors.{numbers}
use Rattle.standard.specs.Names.{stands}
use Rattle.standard.specs.Pieces.{Piece}
use Rattle.standard.specs.Reading.{Reading, ◌⊕◌, joined}
use Rattle.standard.proofs.Joining.{numbers-append, numbers-length}
use Rattle.checker.specs.Transcript.{
  Row,
  row,
  rows_of,
  Left,
  left,
  total,
  reached,
  wrong,
  after,
  spent,
  verdict,
  judge,
  right,
  no_source,
  no_piece_end,
  text_differs,
  errors_differ,
  remains,
}
use Rattle.checker.proofs.Meetings.{stands-front, front-stands}
use Rattle.demands.proofs.RightRows.{
  PieceEnd,
  TextComes,
  ErrorsCome,
  Right,
  Cuts,
  none,
  first,
  Spent,
  Good,
  Remains,
  FirstWrong,
  column,
  Wrong,
  no_bytes,
  past,
  within,
  no_text,
  no_errors,
  together,
  rows_for,
  in_threes,
}
use Rattle.demands.proofs.Reaching.{Sized, sized-parts, total-append, total-least, reached-front, reached-cut, reached-some, joined-append}

-- A word stands before all that comes after it.
stands-before : (a s : List ℕ) → stands a (a ++ s) ≡ true
stands-before a s = rw (take-append_seam a s) at (front-stands (length a) (a ++ s))

-- A test of a count and of what comes next passes where both are right, and only there.
test_comes : (n count : ℕ) (given l more : List ℕ) → count ≡ n → l ≡ given ++ more → eqb n count && stands given l ≡ true
test_comes n count given l more e comes = rw (eq-eqb n count (sym e), comes) (stands-before given more)

comes_test : (n count : ℕ) (given l : List ℕ) → eqb n count && stands given l ≡ true → (count ≡ n) × (l ≡ given ++ drop (length given) l)
comes_test n count given l e =
    let w = and_true (eqb n count) (stands given l) e in (sym (eqb-true n count w.0), stands-front given l w.1)

module _ (l : Left) (r : Row) where
  -- The tests of the text and of the errors of some pieces.
  abbrev text_test : List Piece → Bool
  text_test next = eqb (length (joined l.at next).text) r.text && stands (joined l.at next).text l.text

  abbrev errors_test : List Piece → Bool
  errors_test next = eqb (length (joined l.at next).errors) r.errors && stands (numbers (joined l.at next).errors) l.errors

  -- The text comes where its test passes, and only there.
  text_comes : (next : List Piece) → text_test next ≡ true → TextComes l r next (drop (length (joined l.at next).text) l.text)
  text_comes next e = let w = comes_test _ r.text (joined l.at next).text l.text e in record { count = w.0; comes = w.1 }

  text_passes : {next : List Piece} (more : List ℕ) → TextComes l r next more → text_test next ≡ true
  text_passes more x = test_comes _ _ _ _ more x.count x.comes

  -- So do the errors.
  errors_come : (next : List Piece) → errors_test next ≡ true
      → ErrorsCome l r next (drop (length (numbers (joined l.at next).errors)) l.errors)
  errors_come next e = let w = comes_test _ r.errors (numbers (joined l.at next).errors) l.errors e in record { count = w.0; comes = w.1 }

  errors_pass : {next : List Piece} (more : List ℕ) → ErrorsCome l r next more → errors_test next ≡ true
  errors_pass more x = test_comes _ _ _ _ more x.count x.comes

  -- The pieces that the row's bytes reach into, and those after them.
  abbrev into : List Piece
  into = reached r.source l.pieces

  abbrev beyond : List Piece
  beyond = drop (length into) l.pieces

  -- A row whose bytes are there, and are all of the pieces that they reach into, joins these.
  ends_into : 0 < r.source → r.source ≤ total l.pieces → total into ≡ r.source → PieceEnd l r into beyond
  ends_into some there e = record {
    some = reached-some r.source l.pieces some there;
    cut = reached-cut r.source l.pieces;
    bytes = sym e;
  }

  -- A row that joins pieces and passes both tests is right.
  right_row : {next rest : List Piece} → PieceEnd l r next rest → text_test next ≡ true → errors_test next ≡ true → (m : Left) × Right l r m
  right_row {next} {rest} j t u = (
    left (l.at + total next) rest _ _,
    record { next = next; ending = j; texts = text_comes next t; errors_of = errors_come next u; on = refl },
  )

  -- One that fails a test is wrong.
  wrong_text : {next rest : List Piece} → PieceEnd l r next rest → text_test next ≡ false → Wrong l r text_differs
  wrong_text {next} {rest} j f = no_text next rest j (λ more x. no_way (sym (text_passes more x) ∙ f))

  wrong_errors : {next rest : List Piece} → PieceEnd l r next rest → text_test next ≡ true → errors_test next ≡ false → Wrong l r errors_differ
  wrong_errors {next} {rest} j t f = no_errors next rest j _ (text_comes next t) (λ more x. no_way (sym (errors_pass more x) ∙ f))

  -- A row that joins pieces is right, or wrong for some reason.
  ending_decided : {next rest : List Piece} → PieceEnd l r next rest → ((m : Left) × Right l r m) ⊎ ((reason : ℕ) × Wrong l r reason)
  ending_decided {next} j =
      ⊎_elim (λ t. ⊎_elim (λ u. inl (right_row j t u)) (λ f. inr (errors_differ, wrong_errors j t f)) (test? (errors_test next)))
      (λ f. inr (text_differs, wrong_text j f)) (test? (text_test next))

  module _ (sized : Sized l.pieces) where
    -- Every piece that a row joins has a byte, and every piece after them.
    ends_sized : {next rest : List Piece} → PieceEnd l r next rest → Sized next × Sized rest
    ends_sized {next} {rest} j = sized-parts next rest (subst Sized j.cut sized)

    -- The pieces that a row joins are those that its bytes reach into.
    ends_reached : {next rest : List Piece} → PieceEnd l r next rest → into ≡ next
    ends_reached {next} {rest} j = rw (j.bytes, j.cut) (reached-front next rest (ends_sized j).0)

    -- A row that joins pieces has bytes, and no more than there are.
    ends_bytes : {next rest : List Piece} → PieceEnd l r next rest → (0 < r.source) × (r.source ≤ total l.pieces)
    ends_bytes {next} {rest} j =
        let least = total-least next (ends_sized j).0 in
        let all = ap total j.cut ∙ total-append next rest in (omega (arith, j.some, j.bytes), omega (arith, j.bytes))

    -- What is found of a row that joins pieces.
    found_ending : {next rest : List Piece} → PieceEnd l r next rest
        → wrong l r ≡ (if not (text_test next) then text_differs else if not (errors_test next) then errors_differ else right)
    unfolding wrong
    found_ending {next} j =
        let w = ends_bytes j in
        let ends = eq-eqb (total next) r.source (sym j.bytes) in
        rw (ends_reached j, ne_eqb r.source 0 (omega arith), le-ltb (total l.pieces) r.source w.1, ends)

    -- A right row is found right.
    pub right_found : {m : Left} → Right l r m → wrong l r ≡ right
    right_found {m} x = found_ending x.ending ∙ rw (text_passes m.text x.texts, errors_pass m.errors x.errors_of)

    -- What it leaves is what the definition finds after it.
    pub right_after : {m : Left} → Right l r m → after l r ≡ m
    right_after {m} x = λ i. left (on i) (pieces_after i) (text_after i) (errors_after i)
      where
        on : l.at + r.source ≡ m.at
        on = omega (arith, x.on, x.ending.bytes)

        pieces_after : beyond ≡ m.pieces
        pieces_after = rw (ends_reached x.ending, x.ending.cut) (drop-append_seam x.next m.pieces)

        text_after : drop r.text l.text ≡ m.text
        text_after = rw x.texts.comes (drop_at (joined l.at x.next).text m.text r.text (sym x.texts.count))

        errors_after : drop (2 * r.errors) l.errors ≡ m.errors
        errors_after =
            let e = (joined l.at x.next).errors in
            rw x.errors_of.comes (drop_at (numbers e) m.errors (2 * r.errors) (omega (arith, numbers-length e, x.errors_of.count)))

    -- A wrong row is found wrong for its reason.
    pub wrong_found : {reason : ℕ} → Wrong l r reason → wrong l r ≡ reason
    unfolding wrong
    wrong_found (no_bytes e) = rw (eq-eqb r.source 0 e)
    wrong_found (past h) = rw (ne_eqb r.source 0 (omega arith), lt-ltb (total l.pieces) r.source h)
    wrong_found (within some there no_end) =
        let ends = ne_eqb (total into) r.source (λ e. no_end into beyond (ends_into some there e)) in
        rw (ne_eqb r.source 0 (omega arith), le-ltb (total l.pieces) r.source there, ends)
    wrong_found (no_text next rest j no_such) =
        found_ending j ∙ ⊎_elim (λ t. absurd (no_such _ (text_comes next t))) (λ f. rw f) (test? (text_test next))
    wrong_found (no_errors next rest j more x no_such) =
        found_ending j
        ∙ rw (text_passes more x) (⊎_elim (λ t. absurd (no_such _ (errors_come next t))) (λ f. rw f) (test? (errors_test next)))

    -- A row is right, or wrong for some reason.
    pub decided : ((m : Left) × Right l r m) ⊎ ((reason : ℕ) × Wrong l r reason)
    decided =
        ⊎_elim (λ some. ⊎_elim (λ h. inr (no_source, past h)) (there some) (below? (total l.pieces) r.source))
        (λ h. inr (no_source, no_bytes (omega arith))) (below? 0 r.source)
      where
        no_end : (total into ≡ r.source → ⊥) → (next rest : List Piece) → PieceEnd l r next rest → ⊥
        no_end f next rest j = f (ap total (ends_reached j) ∙ sym j.bytes)

        there : 0 < r.source → r.source ≤ total l.pieces → ((m : Left) × Right l r m) ⊎ ((reason : ℕ) × Wrong l r reason)
        there some h =
            ⊎_elim (λ t. ending_decided (ends_into some h (eqb-true (total into) r.source t)))
            (λ f. inr (no_piece_end, within some h (no_end (eqb-false (total into) r.source f)))) (test? (eqb (total into) r.source))

-- Nothing is left where the test says so, and only there.
spent_of : (l : Left) → spent l ≡ true → Spent l
spent_of l e =
    let w = and_true (eqb (length l.pieces) 0 && eqb (length l.text) 0) (eqb (length l.errors) 0) e in
    let v = and_true (eqb (length l.pieces) 0) (eqb (length l.text) 0) w.0 in
    (length_none l.pieces v.0, length_none l.text v.1, length_none l.errors w.1)

spent_test : (l : Left) → Spent l → spent l ≡ true
spent_test l s = rw (s.0, s.1, s.2)

-- Every piece that rows leave has a byte.
cuts-sized : {l m : Left} {rows : List Row} → Sized l.pieces → Cuts l rows m → Sized m.pieces
cuts-sized sized none = sized
cuts-sized {l} sized (first {r} x c) = cuts-sized (ends_sized l r sized x.ending).1 c

-- Rows that cut are passed, and those after them are judged by what is left.
judge_cuts : {l m : Left} {rows : List Row} → Sized l.pieces → Cuts l rows m → (i : ℕ) (later : List Row)
    → judge i l (rows ++ later) ≡ judge (i + length rows) m later
unfolding judge
judge_cuts {l} sized none i later = ap (λ (k : ℕ). judge k l later) (omega arith)
judge_cuts {l} sized (first {n} {r} {rows} x c) i later =
    let count : suc i + length rows ≡ i + suc (length rows) = omega arith in
    rw (right_found l r sized x, right_after l r sized x)
    (judge_cuts (ends_sized l r sized x.ending).1 c (suc i) later ∙ ap (λ (k : ℕ). judge k n later) count)

-- The reason of a wrong row is one of a to d.
pub wrong-between : {l : Left} {r : Row} {reason : ℕ} → Wrong l r reason → (right < reason) × (reason < remains)
wrong-between (no_bytes h) = (omega arith, omega arith)
wrong-between (past h) = (omega arith, omega arith)
wrong-between (within some there no_end) = (omega arith, omega arith)
wrong-between (no_text next rest j no_such) = (omega arith, omega arith)
wrong-between (no_errors next rest j more x no_such) = (omega arith, omega arith)

-- What rows are, by the reason that a verdict on them gives.
pub data RowsAre (l : Left) (rows : List Row) : ℕ → Type 0 where
  good : Good l rows → RowsAre l rows right
  first_wrong : {reason : ℕ} → FirstWrong l rows reason → RowsAre l rows reason
  remaining : Remains l rows → RowsAre l rows remains

-- The row that it names.
abbrev pub row_named : {l : Left} {rows : List Row} {reason : ℕ} → RowsAre l rows reason → ℕ
row_named (good g) = 0
row_named (first_wrong w) = length w.before
row_named {rows} (remaining g) = length rows

module _ (l : Left) (rows : List Row) (sized : Sized l.pieces) where
  -- Rows that cut are judged by whether something is left.
  judge_end : {m : Left} → Cuts l rows m → judge 0 l rows ≡ (if spent m then verdict right 0 else verdict remains (length rows))
  unfolding judge
  judge_end {m} c =
      subst (λ (x : List Row). judge 0 l x ≡ judge (0 + length rows) m []) (append-nil rows) (judge_cuts sized c 0 [])
      ∙ ap (λ (k : ℕ). if spent m then verdict right 0 else verdict remains k) (omega arith)

  -- The verdict is what the rows are.
  pub judge-says : {reason : ℕ} (j : RowsAre l rows reason) → judge 0 l rows ≡ verdict reason (row_named j)
  unfolding judge
  judge-says (good g) = judge_end g.cuts ∙ rw (spent_test g.end g.spent)
  judge-says (remaining g) =
      judge_end g.cuts ∙ ⊎_elim (λ t. absurd (g.unspent (spent_of g.end t))) (λ f. rw f) (test? (spent g.end))
  judge-says (first_wrong {reason} w) =
      let some = wrong-between w.wrong in
      let found = wrong_found w.here w.bad (cuts-sized sized w.cuts) w.wrong in
      rw w.rows_are
      (judge_cuts sized w.cuts 0 (w.bad ∷ w.later) ∙ rw (found, ne_eqb reason 0 (omega arith)) (ap (verdict reason) (omega arith)))

-- Rows are one of these.
pub some-verdict : (l : Left) (rows : List Row) → Sized l.pieces → (reason : ℕ) × RowsAre l rows reason
some-verdict l [] sized =
    ⊎_elim (λ t. (right, good (record { end = l; cuts = none; spent = spent_of l t })))
    (λ f. (remains, remaining (record { end = l; cuts = none; unspent = λ s. no_way (sym (spent_test l s) ∙ f) }))) (test? (spent l))
some-verdict l (r ∷ rows) sized =
    ⊎_elim (λ x. on x.1 (some-verdict x.0 rows (ends_sized l r sized x.1.ending).1).1)
    (λ w. (w.0, first_wrong (record { before = []; bad = r; later = rows; rows_are = refl; here = l; cuts = none; wrong = w.1 })))
    (decided l r sized)
  where
    on : {m : Left} {reason : ℕ} → Right l r m → RowsAre m rows reason → (reason : ℕ) × RowsAre l (r ∷ rows) reason
    on x (good g) = (right, good (record { end = g.end; cuts = first x g.cuts; spent = g.spent }))
    on x (remaining g) = (remains, remaining (record { end = g.end; cuts = first x g.cuts; unspent = g.unspent }))
    on x (first_wrong {reason} w) = (
      reason,
      first_wrong (record {
        before = r ∷ w.before;
        bad = w.bad;
        later = w.later;
        rows_are = ap (λ (s : List Row). r ∷ s) w.rows_are;
        here = w.here;
        cuts = first x w.cuts;
        wrong = w.wrong;
      }),
    )

-- The columns of rows that cut are what these take from what is left.
pub cuts_columns : {l m : Left} {rows : List Row} → Cuts l rows m
    → (total l.pieces ≡ column (λ r. r.source) rows + total m.pieces) × (length l.text ≡ column (λ r. r.text) rows + length m.text)
    × (length l.errors ≡ 2 * column (λ r. r.errors) rows + length m.errors)
cuts_columns none = (omega arith, omega arith, omega arith)
cuts_columns (first {l} {m} x c) =
    let w = cuts_columns c in
    let given : Reading = joined l.at x.next in (
      omega (arith, ap total x.ending.cut, total-append x.next m.pieces, x.ending.bytes, w.0),
      omega (arith, ap length x.texts.comes, length-append given.text m.text, x.texts.count, w.1),
      omega (arith, simp (length-append, numbers-length) at (ap length x.errors_of.comes), x.errors_of.count, w.2),
    )

-- Rows that cut all have the text and the errors of all pieces.
pub cuts_reads : {l m : Left} {rows : List Row} → Cuts l rows m → Spent m
    → (l.text ≡ (joined l.at l.pieces).text) × (l.errors ≡ numbers (joined l.at l.pieces).errors)
unfolding joined numbers
cuts_reads none s = rw (s.0, s.1, s.2) (refl, refl)
cuts_reads (first {l} {m} x c) s =
    let w = cuts_reads c s in
    let here : Reading = joined l.at x.next in
    let later : Reading = joined m.at m.pieces in
    let all : joined l.at l.pieces ≡ here ⊕ later = rw (x.ending.cut, x.on) (joined-append l.at x.next m.pieces) in (
      rw (x.texts.comes, w.0) (sym (ap (λ (r : Reading). r.text) all)),
      rw (x.errors_of.comes, w.1) (sym (ap (λ (r : Reading). numbers r.errors) all ∙ numbers-append here.errors later.errors)),
    )

-- Groups of pieces as rows, with the text and the errors of all, are a good transcript.
pub groups_good : (at : ℕ) (groups : List (List Piece)) → All (λ (group : List Piece). 0 < length group) groups
    → let given = joined at (together groups) in
    Good (left at (together groups) given.text (numbers given.errors)) (rows_for at groups)
unfolding joined numbers
groups_good at [] some = record { end = left at [] [] []; cuts = none; spent = (refl, refl, refl) }
groups_good at (group ∷ groups) some =
    let good-rest = groups_good (at + total group) groups some.1 in
    record { end = good-rest.end; cuts = first whole good-rest.cuts; spent = good-rest.spent }
  where
    here : Reading
    here = joined at group

    later : Reading
    later = joined (at + total group) (together groups)

    all : joined at (group ++ together groups) ≡ here ⊕ later
    all = joined-append at group (together groups)

    whole : let given = joined at (group ++ together groups) in
        Right (left at (group ++ together groups) given.text (numbers given.errors))
        (row (total group) (length here.text) (length here.errors))
        (left (at + total group) (together groups) later.text (numbers later.errors))
    whole = record {
      next = group;
      ending = record { some = some.0; cut = refl; bytes = refl };
      texts = record { count = refl; comes = ap (λ (r : Reading). r.text) all };
      errors_of = record {
        count = refl;
        comes = ap (λ (r : Reading). numbers r.errors) all ∙ numbers-append here.errors later.errors;
      };
      on = refl;
    }

-- Rows as numbers are read back.
pub threes-read : (rows : List Row) → rows_of (in_threes rows) ≡ rows
unfolding rows_of
threes-read [] = refl
threes-read (r ∷ rows) = ap (λ (l : List Row). r ∷ l) (threes-read rows)

pub threes-length : (rows : List Row) → length (in_threes rows) % 3 ≡ 0
threes-length [] = refl
threes-length (r ∷ rows) = omega (arith, threes-length rows)
