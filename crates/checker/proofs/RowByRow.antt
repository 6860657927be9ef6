-- The verdict on the rows, one after the other.
use Prim.Native.Nat.{ℕ, zero, suc, ◌+◌, ◌*◌, ◌≤◌, ◌<◌}
use mathlib.Core.Path.{◌≡◌, refl, sym, ◌∙◌, ap}
use mathlib.Core.List.{List, [], ◌∷◌}
use mathlib.Core.Bool.{true, false, ◌&&◌}
use mathlib.Core.Logic.{◌≢◌, ⊎_elim}
use native.Mathlib.Omega.{arith}
use native.Mathlib.Numerals.{add-one}
use lib.Dec.{eqb}
use lib.ListN.{length, get_or, drop, length-drop, drop_of_length-le}
use lib.Seq.{drop-cons, get_or-drop}
use borrow.Author.Tests.{eqb-true, ne_eqb}
use Rattle.lists.proofs.Choice.{and_true, test?, below?}
use Rattle.standard.specs.declared.Context.{Context}
use Rattle.standard.specs.Names.{Name}
use Rattle.standard.specs.Reading.{pieces_from, pieces}
use Rattle.standard.proofs.Bounds.{pieces_unfold}
use Rattle.checker.specs.declared.lent.Places.{Places}
use Rattle.checker.specs.declared.rows.Reason.{Reason}
use Rattle.checker.specs.declared.rows.Reason.TheVariants.{NoSource, NoPieceEnd, TextDiffers, ErrorsDiffer, Remains}
use Rattle.checker.specs.Transcript.{Row, row, rows_of, right, remains, spent, verdict, judge, verdict_on}
use Rattle.checker.specs.Spans.{Alike, PlainRow, unit_row, UnitRows, PlainRows}
use Rattle.checker.specs.Meeting.{IsWithin, left_at, number_of, IsWrong, LeadsTo}
use Rattle.checker.proofs.RowLaws.{row_plain}

-- The first of the rows that are left.
rows_next : (rows : List ℕ) (next : ℕ) → next + 3 ≤ length rows
    → rows_of (drop next rows) ≡ row (get_or rows next 0) (get_or rows (next + 1) 0) (get_or rows (next + 2) 0) ∷ rows_of (drop (next + 3) rows)
unfolding rows_of
rows_next rows next h =
    let one : next + 1 ≡ suc next = omega arith in
    let two : next + 2 ≡ suc (suc next) = omega arith in
    let three : next + 3 ≡ suc (suc (suc next)) = omega arith in
    rw (
      one,
      two,
      three,
      drop-cons rows next 0 (omega arith),
      drop-cons rows (suc next) 0 (omega arith),
      drop-cons rows (suc (suc next)) 0 (omega arith),
    )

-- The verdict is that on the rows from the i-th on, from these places on.
pub record RowByRow (names : List Name) (context : Context) (s rows text errors : List ℕ) (i : ℕ) (p : Places) : Type 0 where
  pub there : IsWithin s text errors p
  pub rows_there : 3 * i ≤ length rows
  pub few : i ≤ p.source
  pub same : verdict_on names context s rows text errors ≡ judge i (left_at names context s text errors p) (rows_of (drop (3 * i) rows))

module _ {names : List Name} {context : Context} {s rows text errors : List ℕ} {i : ℕ} {p : Places}
    (w : RowByRow names context s rows text errors i p) where
  module _ (more : 3 * i + 3 ≤ length rows) {r : Row} (source-is : r.source ≡ get_or rows (3 * i) 0) (text-is : r.text ≡ get_or rows (3 * i + 1) 0)
      (errors-is : r.errors ≡ get_or rows (3 * i + 2) 0) where
    first_row : rows_of (drop (3 * i) rows) ≡ r ∷ rows_of (drop (3 * i + 3) rows)
    first_row = rows_next rows (3 * i) more ∙ rw (← source-is, ← text-is, ← errors-is)

    -- It is wrong.
    pub row_stops : {reason : Reason} → IsWrong names context s text errors p r reason
        → verdict (number_of reason) i ≡ verdict_on names context s rows text errors
    unfolding judge
    row_stops {reason} k = sym (w.same ∙ rw (first_row, ← k.reason_is, ne_eqb (number_of reason) right (some reason)))
      where
        some : (reason : Reason) → number_of reason ≢ right
        some NoSource e = absurd (omega arith)
        some NoPieceEnd e = absurd (omega arith)
        some TextDiffers e = absurd (omega arith)
        some ErrorsDiffer e = absurd (omega arith)
        some Remains e = absurd (omega arith)

    -- It is right.
    pub row_on : {end : Places} → LeadsTo names context s text errors p r end → RowByRow names context s rows text errors (i + 1) end
    unfolding judge
    row_on {end} k = record {
      there = k.there;
      rows_there = omega arith;
      few = omega (arith, w.few, k.on);
      same =
          let next : 3 * i + 3 ≡ 3 * (i + 1) = omega arith in
          w.same ∙ rw (first_row, k.is_right, k.leaves, next, add-one i);
    }

  module _ (over : length rows ≤ 3 * i) where
    -- After the last row.
    last : verdict_on names context s rows text errors ≡ judge i (left_at names context s text errors p) []
    unfolding rows_of
    last = w.same ∙ rw (drop_of_length-le rows over)

    -- Something remains.
    pub some_remains : (p.source ≡ length s → p.text ≡ length text → p.errors ≡ length errors → ⊥)
        → verdict remains i ≡ verdict_on names context s rows text errors
    unfolding judge
    some_remains k = sym (last ∙ rw unspent)
      where
        pieces-left : length (pieces names context (drop p.source s)) ≡ 0 → p.source ≡ length s
        pieces-left e =
            ⊎_elim
            (λ (h : p.source < length s). let some : 0 < length (drop p.source s) = simp length-drop (omega arith) in
            absurd (omega (arith, ap length (pieces_unfold names context (drop p.source s) some), e)))
            (λ h. omega (arith, w.there.source_there)) (below? p.source (length s))

        unspent : spent (left_at names context s text errors p) ≡ false
        unspent =
            ⊎_elim
            (λ t. let x = and_true (eqb (length (pieces names context (drop p.source s))) 0 && eqb (length (drop p.text text)) 0)
            (eqb (length (drop p.errors errors)) 0) t in
            let y = and_true (eqb (length (pieces names context (drop p.source s))) 0) (eqb (length (drop p.text text)) 0) x.0 in
            absurd (k (pieces-left (eqb-true _ _ y.0))
            (omega (arith, eqb-true _ _ y.1, length-drop p.text text, w.there.text_there))
            (omega (arith, eqb-true _ _ x.1, length-drop p.errors errors, w.there.errors_there))))
            (λ f. f) (test? (spent (left_at names context s text errors p)))

    -- Nothing remains.
    pub none_remains : p.source ≡ length s → p.text ≡ length text → p.errors ≡ length errors
        → verdict right 0 ≡ verdict_on names context s rows text errors
    unfolding judge pieces_from
    none_remains source-over text-over errors-over =
        let source_there : length s ≤ p.source = omega arith in
        let text_there : length text ≤ p.text = omega arith in
        let errors_there : length errors ≤ p.errors = omega arith in
        sym (last ∙ rw (drop_of_length-le s source_there, drop_of_length-le text text_there, drop_of_length-le errors errors_there))

-- The numbers of a row of one byte.
unit_is : (n m k : ℕ) → unit_row n m k ≡ true → (n ≡ 1) × (m ≡ 1) × (k ≡ 0)
unit_is n m k e =
    let w = and_true (eqb n 1 && eqb m 1) (eqb k 0) e in
    let v = and_true (eqb n 1) (eqb m 1) w.0 in (eqb-true n 1 v.0, eqb-true m 1 v.1, eqb-true k 0 w.1)

-- Rows of one byte each that the text has too are right.
pub rows_plain : {names : List Name} {context : Context} {s rows text errors : List ℕ} {i : ℕ} {p : Places}
    → RowByRow names context s rows text errors i p → (n : ℕ) → PlainRows rows (3 * i) s p.source text p.text n
    → RowByRow names context s rows text errors (i + n) (record { source = p.source + n; text = p.text + n; errors = p.errors })
rows_plain {names} {context} {s} {rows} {text} {errors} {i} {p} w n plain =
    go n plain.rows_there plain.source_there plain.text_there plain.units plain.same
  where
    go : (n : ℕ) → 3 * i + 3 * n ≤ length rows → p.source + n ≤ length s → p.text + n ≤ length text → UnitRows rows (3 * i) n
        → Alike (drop p.source s) (drop p.text text) n
        → RowByRow names context s rows text errors (i + n) (record { source = p.source + n; text = p.text + n; errors = p.errors })
    go zero h k l units same =
        let a : i + 0 ≡ i = omega arith in
        let b : p.source + 0 ≡ p.source = omega arith in
        let c : p.text + 0 ≡ p.text = omega arith in rw (a, b, c) w
    go (suc n) h k l units same =
        let rest = go n (omega arith) (omega arith) (omega arith) (λ j m. units j (omega arith)) (λ j m. same j (omega arith)) in
        let u = unit_is (get_or rows (3 * i + 3 * n) 0) (get_or rows (3 * i + 3 * n + 1) 0) (get_or rows (3 * i + 3 * n + 2) 0)
        (units n (omega arith)) in
        let here : 3 * i + 3 * n ≡ 3 * (i + n) = omega arith in
        let v = rw here at u in
        let one : PlainRow s (p.source + n) 1 text (p.text + n) 1 0 = record {
          bytes = refl;
          no_errors = refl;
          there = omega arith;
          same = λ j m.
              let x : p.source + n ≡ p.source + n + j = omega arith in
              let y : p.text + n ≡ p.text + n + j = omega arith in
              rw (get_or-drop (p.source + n) s j 0, get_or-drop (p.text + n) text j 0, ← x, ← y)
              (rw (get_or-drop p.source s n 0, get_or-drop p.text text n 0) at (same n (omega arith)));
        } in
        let leads : LeadsTo names context s text errors (record { source = p.source + n; text = p.text + n; errors = p.errors }) (row 1 1 0)
        (record { source = p.source + n + 1; text = p.text + n + 1; errors = p.errors }) =
        row_plain (omega arith) rest.there (λ z. omega arith) one in
        let a : i + n + 1 ≡ i + suc n = omega arith in
        let b : p.source + n + 1 ≡ p.source + suc n = omega arith in
        let c : p.text + n + 1 ≡ p.text + suc n = omega arith in
        rw (a, b, c) at (row_on rest (omega arith) (sym v.0) (sym v.1) (sym v.2) leads)
