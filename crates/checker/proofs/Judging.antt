-- Laws of the definition of the verdict: what it finds of a row, and of rows, is what the relations of RightRows say.
use Rattle.std.specs.Prelude.{if◌then◌else◌}
use Prim.Native.Nat.{ℕ, suc, ◌+◌, ◌*◌, ◌%◌, ◌≤◌, ◌<◌}
use mathlib.Core.Path.{◌≡◌, refl, sym, ◌∙◌, ap, subst}
use mathlib.Core.List.{List, [], ◌∷◌, ◌++◌}
use mathlib.Core.Bool.{Bool, true, not, ◌&&◌}
use mathlib.Core.Logic.{◌⊎◌, inl, inr, ⊎_elim}
use native.Mathlib.Omega.{arith}
use lib.Dec.{eqb}
use lib.ListN.{length, drop, length-append}
use lib.Seq.{take-append_seam, drop-append_seam, drop_at}
use borrow.Author.Tests.{eqb-true, eqb-false, eq-eqb, ne_eqb, le-ltb, lt-ltb}
use Rattle.lists.proofs.Choice.{no_way, test?, below?, and_true, length_none}
use Rattle.lists.proofs.Every.{All}
use Rattle.standard.specs.Errors.{numbers}
use Rattle.standard.specs.Names.{stands}
use Rattle.standard.specs.Pieces.{Piece}
use Rattle.standard.specs.Reading.{Reading, joined}
use Rattle.standard.proofs.Joining.{numbers-length}
use Rattle.checker.specs.Transcript.{
  Row,
  rows_of,
  Left,
  left,
  total,
  reached,
  wrong,
  after,
  spent,
  Verdict,
  verdict,
  judge,
  right,
  text_differs,
  errors_differ,
  remains,
}
use Rattle.checker.proofs.Meetings.{stands-front, front-stands}
use Rattle.checker.proofs.RightRows.{
  PieceEnd,
  Comes,
  Right,
  Cuts,
  none,
  first,
  Spent,
  Good,
  Remains,
  FirstWrong,
  here,
  later,
  column,
  Wrong,
  no_bytes,
  past,
  within,
  no_text,
  no_errors,
  together,
  rows_for,
  in_threes,
}
use Rattle.checker.proofs.Reaching.{Sized, sized-parts, total-append, total-least, reached-front, reached-cut, reached-some, joined-parts}

-- A word stands before all that comes after it.
stands-before : (a s : List ℕ) → stands a (a ++ s) ≡ true
stands-before a s = rw (take-append_seam a s) at (front-stands (length a) (a ++ s))

-- A test of a count and of what comes next passes where both are right, and only there.
passes : {n count : ℕ} {given l more : List ℕ} → Comes count n given l more → eqb n count && stands given l ≡ true
passes {n} {count} {given} {more = more} x = rw (eq-eqb n count (sym x.count), x.comes) (stands-before given more)

comes-so : {n count : ℕ} {given l : List ℕ} → eqb n count && stands given l ≡ true → Comes count n given l (drop (length given) l)
comes-so {n} {count} {given} {l} e =
    let w = and_true (eqb n count) (stands given l) e in record { count = sym (eqb-true n count w.0); comes = stands-front given l w.1 }

module _ (l : Left) (r : Row) where
  -- The tests of the text and of the errors of some pieces.
  abbrev text_test : List Piece → Bool
  text_test next = eqb (length (joined l.at next).text) r.text && stands (joined l.at next).text l.text

  abbrev errors_test : List Piece → Bool
  errors_test next = eqb (length (joined l.at next).errors) r.errors && stands (numbers (joined l.at next).errors) l.errors

  -- The pieces that the row's bytes reach into, and those after them.
  abbrev into : List Piece
  into = reached r.source l.pieces

  abbrev beyond : List Piece
  beyond = drop (length into) l.pieces

  -- A row whose bytes are there, and are all of the pieces that they reach into, joins these.
  ends_into : 0 < r.source → r.source ≤ total l.pieces → total into ≡ r.source → PieceEnd l r into beyond
  ends_into some there e = record {
    some = reached-some r.source l.pieces some there;
    cut = reached-cut r.source l.pieces;
    bytes = sym e;
  }

  module _ (sized : Sized l.pieces) where
    -- Every piece that a row joins has a byte, and every piece after them.
    ends_sized : {next rest : List Piece} → PieceEnd l r next rest → Sized next × Sized rest
    ends_sized {next} {rest} j = sized-parts next rest (subst Sized j.cut sized)

    -- The pieces that a row joins are those that its bytes reach into.
    ends_reached : {next rest : List Piece} → PieceEnd l r next rest → into ≡ next
    ends_reached {next} {rest} j = rw (j.bytes, j.cut) (reached-front next rest (ends_sized j).0)

    -- A row that joins pieces has bytes, and no more than there are.
    ends_bytes : {next rest : List Piece} → PieceEnd l r next rest → (0 < r.source) × (r.source ≤ total l.pieces)
    ends_bytes {next} {rest} j =
        let least = total-least next (ends_sized j).0 in
        let all = ap total j.cut ∙ total-append next rest in (omega (arith, j.some, j.bytes), omega (arith, j.bytes))

    -- What is found of a row that joins pieces.
    found_ending : {next rest : List Piece} → PieceEnd l r next rest
        → wrong l r ≡ (if not (text_test next) then text_differs else if not (errors_test next) then errors_differ else right)
    unfolding wrong
    found_ending {next} j =
        let w = ends_bytes j in
        let ends = eq-eqb (total next) r.source (sym j.bytes) in
        rw (ends_reached j, ne_eqb r.source 0 (omega arith), le-ltb (total l.pieces) r.source w.1, ends)

    -- A right row is found right.
    right_found : {m : Left} → Right l r m → wrong l r ≡ right
    right_found {m} x = found_ending x.ending ∙ rw (passes x.texts, passes x.errors_of)

    -- What it leaves is what the definition finds after it.
    right_after : {m : Left} → Right l r m → after l r ≡ m
    right_after {m} x =
        let given = joined l.at x.next in
        let on : l.at + r.source ≡ m.at = omega (arith, x.on, x.ending.bytes) in
        let rest : beyond ≡ m.pieces = rw (ends_reached x.ending, x.ending.cut) (drop-append_seam x.next m.pieces) in
        let texts : drop r.text l.text ≡ m.text =
        rw x.texts.comes (drop_at given.text m.text r.text (sym x.texts.count)) in
        let count : length (numbers given.errors) ≡ 2 * r.errors = omega (arith, numbers-length given.errors, x.errors_of.count) in
        let errors : drop (2 * r.errors) l.errors ≡ m.errors =
        rw x.errors_of.comes (drop_at (numbers given.errors) m.errors (2 * r.errors) count) in
        λ i. left (on i) (rest i) (texts i) (errors i)

    -- A wrong row is found wrong for its reason.
    wrong_found : {reason : ℕ} → Wrong l r reason → wrong l r ≡ reason
    unfolding wrong
    wrong_found (no_bytes e) = rw (eq-eqb r.source 0 e)
    wrong_found (past h) = rw (ne_eqb r.source 0 (omega arith), lt-ltb (total l.pieces) r.source h)
    wrong_found (within some there no_end) =
        let ends = ne_eqb (total into) r.source (λ e. no_end into beyond (ends_into some there e)) in
        rw (ne_eqb r.source 0 (omega arith), le-ltb (total l.pieces) r.source there, ends)
    wrong_found (no_text next rest j no_such) =
        found_ending j ∙ ⊎_elim (λ t. absurd (no_such _ (comes-so t))) (λ f. rw f) (test? (text_test next))
    wrong_found (no_errors next rest j more x no_such) =
        found_ending j
        ∙ rw (passes x) (⊎_elim (λ t. absurd (no_such _ (comes-so t))) (λ f. rw f) (test? (errors_test next)))

    -- A row is right, or wrong for some reason.
    decided : ((m : Left) × Right l r m) ⊎ ((reason : ℕ) × Wrong l r reason)
    decided =
        ⊎_elim (λ some. ⊎_elim (λ h. inr (_, past h))
        (λ h. ⊎_elim (λ t. joins (ends_into some h (eqb-true (total into) r.source t)))
        (λ f. inr (_, within some h (λ next rest j. eqb-false (total into) r.source f (ap total (ends_reached j) ∙ sym j.bytes))))
        (test? (eqb (total into) r.source))) (below? (total l.pieces) r.source))
        (λ h. inr (_, no_bytes (omega arith))) (below? 0 r.source)
      where
        joins : PieceEnd l r into beyond → ((m : Left) × Right l r m) ⊎ ((reason : ℕ) × Wrong l r reason)
        joins j =
            ⊎_elim
            (λ t. ⊎_elim
            (λ u. inl (left _ beyond _ _, record { next = into; ending = j; texts = comes-so t; errors_of = comes-so u; on = refl }))
            (λ f. inr (_, no_errors into beyond j _ (comes-so t) (λ more x. no_way (sym (passes x) ∙ f)))) (test? (errors_test into)))
            (λ f. inr (_, no_text into beyond j (λ more x. no_way (sym (passes x) ∙ f)))) (test? (text_test into))

-- Nothing is left where the test says so, and only there.
spent_of : (l : Left) → spent l ≡ true → Spent l
spent_of l e =
    let w = and_true (eqb (length l.pieces) 0 && eqb (length l.text) 0) (eqb (length l.errors) 0) e in
    let v = and_true (eqb (length l.pieces) 0) (eqb (length l.text) 0) w.0 in
    (length_none l.pieces v.0, length_none l.text v.1, length_none l.errors w.1)

spent_test : (l : Left) → Spent l → spent l ≡ true
spent_test l s = rw (s.0, s.1, s.2)

-- The reason of a wrong row is one of a to d.
wrong-between : {l : Left} {r : Row} {reason : ℕ} → Wrong l r reason → (right < reason) × (reason < remains)
wrong-between (no_bytes h) = (omega arith, omega arith)
wrong-between (past h) = (omega arith, omega arith)
wrong-between (within some there no_end) = (omega arith, omega arith)
wrong-between (no_text next rest j no_such) = (omega arith, omega arith)
wrong-between (no_errors next rest j more x no_such) = (omega arith, omega arith)

-- What rows are, by the verdict on them.
pub data RowsAre (l : Left) (rows : List Row) : Verdict → Type 0 where
  good : Good l rows → RowsAre l rows (verdict right 0)
  first_wrong : {reason number : ℕ} → FirstWrong l rows reason number → RowsAre l rows (verdict reason number)
  remaining : Remains l rows → RowsAre l rows (verdict remains (length rows))

-- Every piece that a right row leaves has a byte, and they are fewer than before it.
right-sized : {l m : Left} {r : Row} → Sized l.pieces → Right l r m → Sized m.pieces
right-sized {l} {r = r} sized x = (ends_sized l r sized x.ending).1

right-fewer : {l m : Left} {r : Row} → Right l r m → length m.pieces < length l.pieces
right-fewer {m = m} x = omega (arith, x.ending.some, ap length x.ending.cut ∙ length-append x.next m.pieces)

-- A right row is passed, and those after it are judged by what it leaves.
judge-right : {l m : Left} {r : Row} → Sized l.pieces → Right l r m → (i : ℕ) (rows : List Row) → judge i l (r ∷ rows) ≡ judge (suc i) m rows
unfolding judge
judge-right {l} {r = r} sized x i rows = rw (right_found l r sized x, right_after l r sized x)

judge_cuts : {l m : Left} {rows : List Row} → Sized l.pieces → Cuts l rows m → (i : ℕ) → judge i l rows ≡ judge (i + length rows) m []
judge_cuts {l} sized none i = ap (λ (k : ℕ). judge k l []) (omega arith)
judge_cuts sized (first {n = n} {rows = rows} x c) i =
    judge-right sized x i rows ∙ judge_cuts (right-sized sized x) c (suc i) ∙ ap (λ (k : ℕ). judge k n []) (omega arith)

-- The first wrong row is found, with its reason.
judge-first : {l : Left} {rows : List Row} {reason number : ℕ} → Sized l.pieces → FirstWrong l rows reason number → (i : ℕ)
    → judge i l rows ≡ verdict reason (i + number)
unfolding judge
judge-first {l} sized (here {r = r} {reason = reason} w) i =
    rw (wrong_found l r sized w, ne_eqb reason 0 (omega (arith, wrong-between w))) (ap (verdict reason) (omega arith))
judge-first sized (later {rows = rows} {reason = reason} x w) i =
    judge-right sized x i rows ∙ judge-first (right-sized sized x) w (suc i) ∙ ap (verdict reason) (omega arith)

-- The verdict is what the rows are.
pub judge-says : {l : Left} {rows : List Row} {v : Verdict} → Sized l.pieces → RowsAre l rows v → judge 0 l rows ≡ v
unfolding judge
judge-says sized (good (m, c, s)) = judge_cuts sized c 0 ∙ rw (spent_test m s)
judge-says sized (remaining (m, c, s)) =
    judge_cuts sized c 0 ∙ ⊎_elim (λ t. absurd (s (spent_of m t))) (λ f. rw f (ap (verdict remains) (omega arith))) (test? (spent m))
judge-says sized (first_wrong {reason = reason} w) = judge-first sized w 0 ∙ ap (verdict reason) (omega arith)

-- Rows are one of these.
pub some-verdict : (l : Left) (rows : List Row) → Sized l.pieces → (v : Verdict) × RowsAre l rows v
some-verdict l [] sized =
    ⊎_elim (λ t. (_, good (l, none, spent_of l t))) (λ f. (_, remaining (l, none, λ s. no_way (sym (spent_test l s) ∙ f)))) (test? (spent l))
some-verdict l (r ∷ rows) sized =
    ⊎_elim (λ x. on x.1 (some-verdict x.0 rows (right-sized sized x.1)).1) (λ w. (_, first_wrong (here w.1))) (decided l r sized)
  where
    on : {m : Left} {v : Verdict} → Right l r m → RowsAre m rows v → (v : Verdict) × RowsAre l (r ∷ rows) v
    on x (good (m, c, s)) = (_, good (m, first x c, s))
    on x (remaining (m, c, s)) = (_, remaining (m, first x c, s))
    on x (first_wrong w) = (_, first_wrong (later x w))

-- The verdict on rows is at most 5, and names a row that is not past the pieces.
pub verdict-few : {l : Left} {rows : List Row} {v : Verdict} → RowsAre l rows v → (v.reason ≤ remains) × (v.at_row ≤ length l.pieces)
verdict-few (good g) = (omega arith, omega arith)
verdict-few (remaining (m, c, s)) = (omega arith, cuts_few c)
  where
    cuts_few : {l m : Left} {rows : List Row} → Cuts l rows m → length rows ≤ length l.pieces
    cuts_few none = omega arith
    cuts_few (first x c) = omega (arith, cuts_few c, right-fewer x)
verdict-few (first_wrong w) = first_few w
  where
    first_few : {l : Left} {rows : List Row} {reason number : ℕ} → FirstWrong l rows reason number
        → (reason ≤ remains) × (number ≤ length l.pieces)
    first_few (here w) = (omega (arith, wrong-between w), omega arith)
    first_few (later x w) = let k = first_few w in (k.0, omega (arith, k.1, right-fewer x))

-- The columns of rows that cut are what these take from what is left.
pub cuts_columns : {l m : Left} {rows : List Row} → Cuts l rows m
    → (total l.pieces ≡ column (λ r. r.source) rows + total m.pieces) × (length l.text ≡ column (λ r. r.text) rows + length m.text)
    × (length l.errors ≡ 2 * column (λ r. r.errors) rows + length m.errors)
cuts_columns none = (omega arith, omega arith, omega arith)
cuts_columns (first {l} {m} x c) =
    let w = cuts_columns c in
    let given : Reading = joined l.at x.next in (
      omega (arith, ap total x.ending.cut, total-append x.next m.pieces, x.ending.bytes, w.0),
      omega (arith, ap length x.texts.comes, length-append given.text m.text, x.texts.count, w.1),
      omega (arith, simp (length-append, numbers-length) at (ap length x.errors_of.comes), x.errors_of.count, w.2),
    )

-- Rows that cut all have the text and the errors of all pieces.
pub cuts_reads : {l m : Left} {rows : List Row} → Cuts l rows m → Spent m
    → (l.text ≡ (joined l.at l.pieces).text) × (l.errors ≡ numbers (joined l.at l.pieces).errors)
unfolding joined numbers
cuts_reads none s = rw (s.0, s.1, s.2) (refl, refl)
cuts_reads (first {l} {m} x c) s =
    let w = cuts_reads c s in
    let all = joined-parts l.at x.next m.pieces in
    rw (x.ending.cut, x.texts.comes, x.errors_of.comes, w.0, w.1, x.on) (sym all.0, sym all.1)

-- Groups of pieces as rows, with the text and the errors of all, are a good transcript.
pub groups_good : (at : ℕ) (groups : List (List Piece)) → All (λ (group : List Piece). 0 < length group) groups
    → let given = joined at (together groups) in
    Good (left at (together groups) given.text (numbers given.errors)) (rows_for at groups)
unfolding joined numbers
groups_good at [] some = (left at [] [] [], none, (refl, refl, refl))
groups_good at (group ∷ groups) some =
    let rest = groups_good (at + total group) groups some.1 in
    let all = joined-parts at group (together groups) in (
      rest.0,
      first
          (record {
            next = group;
            ending = record { some = some.0; cut = refl; bytes = refl };
            texts = record { count = refl; comes = all.0 };
            errors_of = record { count = refl; comes = all.1 };
            on = refl;
          })
          rest.1,
      rest.2,
    )

-- Rows as numbers are read back.
pub threes-read : (rows : List Row) → rows_of (in_threes rows) ≡ rows
unfolding rows_of
threes-read [] = refl
threes-read (r ∷ rows) = ap (λ (l : List Row). r ∷ l) (threes-read rows)

pub threes-length : (rows : List Row) → length (in_threes rows) % 3 ≡ 0
threes-length [] = refl
threes-length (r ∷ rows) = omega (arith, threes-length rows)
