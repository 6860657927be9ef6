-- A row, by what was met of it: the reason why it is wrong, and what it leaves.
use Rattle.std.specs.Prelude.{Some, None}
use Rattle.std.proofs.lemmas.Option.{same_Some}
use Prim.Native.Nat.{ℕ, zero, suc, ◌+◌, ◌-◌, ◌*◌, ◌≤◌, ◌<◌}
use mathlib.Core.Path.{◌≡◌, refl, sym, ◌∙◌, ap}
use mathlib.Core.List.{List, [], ◌∷◌}
use mathlib.Core.Bool.{true, false, ◌||◌, ◌&&◌, and-false}
use mathlib.Core.Logic.{◌≢◌}
use native.Mathlib.Omega.{arith}
use lib.Dec.{ltb, eqb}
use lib.ListN.{length, drop, length-drop}
use lib.Seq.{drop-drop}
use borrow.Author.Tests.{eq-eqb, ne_eqb, lt-ltb, le-ltb}
use Rattle.standard.specs.declared.Context.{Context}
use Rattle.standard.specs.Errors.{numbers}
use Rattle.standard.specs.Names.{Name, stands}
use Rattle.standard.specs.Pieces.{Piece, piece_at}
use Rattle.standard.specs.Reading.{pieces_from, pieces, Reading, joined}
use Rattle.standard.proofs.Bounds.{pieces_unfold, pieces_induction}
use Rattle.standard.proofs.PieceSize.{piece-size}
use Rattle.standard.proofs.Joining.{numbers-length}
use Rattle.checker.specs.declared.lent.Places.{Places}
use Rattle.checker.specs.declared.rows.Joint.{Joint}
use Rattle.checker.specs.declared.rows.Reason.TheVariants.{NoSource, NoPieceEnd, TextDiffers, ErrorsDiffer}
use Rattle.checker.specs.Transcript.{Row, left, total, reached, wrong}
use Rattle.checker.specs.Spans.{PlainRow}
use Rattle.checker.specs.Meeting.{Joins, ByteRow, IsWithin, IsWrong, LeadsTo}
use Rattle.checker.proofs.Meetings.{met_some, met_not, met-within}
use Rattle.checker.proofs.Walking.{Walking, walk-byte-row, walk-run, walked}

-- The pieces of a source have its bytes.
pub pieces-total : (names : List Name) (context : Context) (s : List ℕ) → total (pieces names context s) ≡ length s
unfolding total
pieces-total names context =
    pieces_induction names context (λ s ps. total ps ≡ length s) refl
    (λ s ps h rest. omega (arith, piece-size names context s h, length-drop (piece_at names context s).size s))

-- Where the pieces that n bytes reach into have n bytes, the others are those of what is left.
reached-rest : (names : List Name) (context : Context) (s : List ℕ) (n : ℕ) → let ps = pieces names context s in
    total (reached n ps) ≡ n → drop (length (reached n ps)) ps ≡ pieces names context (drop n s)
unfolding reached total pieces_from
reached-rest names context s n e =
    (pieces_induction names context Rest (refl, λ n e. none n) more s).1 n e
  where
    Rest : List ℕ → List Piece → Type 0
    Rest s ps =
        (ps ≡ pieces names context s)
        × ((n : ℕ) → total (reached n ps) ≡ n → drop (length (reached n ps)) ps ≡ pieces names context (drop n s))

    none : (n : ℕ) → drop (length (reached n [])) [] ≡ pieces names context (drop n [])
    none zero = refl
    none (suc n) = refl

    more : (s : List ℕ) (ps : List Piece) → 0 < length s → Rest (drop (piece_at names context s).size s) ps → Rest s (piece_at names context s ∷ ps)
    more s ps h rest = (whole, later)
      where
        whole : piece_at names context s ∷ ps ≡ pieces names context s
        whole = rw rest.0 (sym (pieces_unfold names context s h))

        later : (n : ℕ) → total (reached n (piece_at names context s ∷ ps)) ≡ n
            → drop (length (reached n (piece_at names context s ∷ ps))) (piece_at names context s ∷ ps) ≡ pieces names context (drop n s)
        later zero e = whole
        later (suc n) e =
            let size : ℕ = (piece_at names context s).size in
            let all : size + (suc n - size) ≡ suc n = omega arith in
            rest.1 (suc n - size) (omega arith) ∙ rw (drop-drop (suc n - size) size s, all)

-- A row that has no source bytes, or goes past the covered part.
module _ {names : List Name} {context : Context} {s text errors : List ℕ} {from : Places} {w : Row} where
  pub row_empty : w.source ≡ 0 → IsWrong names context s text errors from w NoSource
  unfolding wrong
  row_empty none = record { reason_is = rw (eq-eqb w.source 0 none) }

  pub row_past : w.source ≢ 0 → length s - from.source < w.source → IsWrong names context s text errors from w NoSource
  unfolding wrong
  row_past some h = record {
    reason_is =
        rw (
          ne_eqb w.source 0 some,
          pieces-total names context (drop from.source s),
          length-drop from.source s,
          lt-ltb (length s - from.source) w.source h,
        );
  }

-- A row that has bytes, and not more than are left, and what was met of them.
pub record RowMet (names : List Name) (context : Context) (s text errors : List ℕ) (from : Places) (w : Row) (joint : Joint) : Type 0 where
  pub some : w.source ≢ 0
  pub fits : w.source ≤ length s - from.source
  pub joins : Joins (pieces names context (drop from.source s)) from.source (from.source + w.source - from.source) text (Some from.text) errors
      (Some from.errors) joint

module _ {names : List Name} {context : Context} {s text errors : List ℕ} {from : Places} {w : Row} {joint : Joint}
    (m : RowMet names context s text errors from w joint) where
  -- The pieces that the row reaches into, and what they give.
  abbrev into : List Piece
  into = reached w.source (pieces names context (drop from.source s))

  abbrev given : Reading
  given = joined from.source into

  row_met : Joins (pieces names context (drop from.source s)) from.source w.source text (Some from.text) errors (Some from.errors) joint
  row_met = let same : from.source + w.source - from.source ≡ w.source = omega arith in rw same at m.joins

  passes-a : eqb w.source 0 || ltb (total (pieces names context (drop from.source s))) w.source ≡ false
  passes-a =
      rw (ne_eqb w.source 0 m.some, pieces-total names context (drop from.source s), length-drop from.source s)
      (le-ltb (length s - from.source) w.source m.fits)

  -- It ends inside a piece.
  pub row_inside : joint.at ≢ from.source + w.source → IsWrong names context s text errors from w NoPieceEnd
  unfolding wrong
  row_inside other = record { reason_is = rw (passes-a, ne_eqb (total into) w.source (λ z. other (omega (arith, row_met.at_is, z)))) }

  module _ (ends : joint.at ≡ from.source + w.source) where
    -- The pieces have its bytes.
    bytes : total into ≡ w.source
    bytes = omega (arith, row_met.at_is, ends)

    -- Its text is another.
    pub row_text : joint.text ≡ None → IsWrong names context s text errors from w TextDiffers
    unfolding wrong
    row_text f = record {
      reason_is =
          rw (
            passes-a,
            eq-eqb (total into) w.source bytes,
            met_not given.text text from.text (sym row_met.text_is ∙ f),
            and-false (eqb (length given.text) w.text),
          );
    }

    module _ {text-end : ℕ} (texts : joint.text ≡ Some text-end) where
      text_met : (stands given.text (drop from.text text) ≡ true) × (from.text + length given.text ≡ text-end)
      text_met = met_some given.text text from.text (sym row_met.text_is ∙ texts)

      -- It has another length.
      pub row_text_count : text-end - from.text ≢ w.text → IsWrong names context s text errors from w TextDiffers
      unfolding wrong
      row_text_count other = record {
        reason_is =
            rw (
              passes-a,
              eq-eqb (total into) w.source bytes,
              ne_eqb (length given.text) w.text (λ z. other (omega (arith, text_met, z))),
            );
      }

      module _ (count : text-end - from.text ≡ w.text) where
        passes_c : eqb (length given.text) w.text && stands given.text (drop from.text text) ≡ true
        passes_c = rw (eq-eqb (length given.text) w.text (omega (arith, text_met)), text_met.0) refl

        -- Its errors are others.
        pub row_errors : joint.errors ≡ None → IsWrong names context s text errors from w ErrorsDiffer
        unfolding wrong
        row_errors f = record {
          reason_is =
              rw (
                passes-a,
                eq-eqb (total into) w.source bytes,
                passes_c,
                met_not (numbers given.errors) errors from.errors (sym row_met.errors_is ∙ f),
                and-false (eqb (length given.errors) w.errors),
              );
        }

        module _ {errors-end : ℕ} (sound : joint.errors ≡ Some errors-end) where
          errors_met : (stands (numbers given.errors) (drop from.errors errors) ≡ true) × (from.errors + 2 * length given.errors ≡ errors-end)
          errors_met =
              let k = met_some (numbers given.errors) errors from.errors (sym row_met.errors_is ∙ sound) in
              (k.0, omega (arith, k.1, numbers-length given.errors))

          -- They are more or fewer.
          pub row_errors_count : errors-end - from.errors ≢ 2 * w.errors → IsWrong names context s text errors from w ErrorsDiffer
          unfolding wrong
          row_errors_count other = record {
            reason_is =
                rw (
                  passes-a,
                  eq-eqb (total into) w.source bytes,
                  passes_c,
                  ne_eqb (length given.errors) w.errors (λ z. other (omega (arith, errors_met, z))),
                );
          }

          -- All is right.
          pub row_right : errors-end - from.errors ≡ 2 * w.errors → IsWithin s text errors from
              → LeadsTo names context s text errors from w (record { source = joint.at; text = text-end; errors = errors-end })
          unfolding wrong
          row_right numbers-count there = record {
            is_right =
                rw (
                  passes-a,
                  eq-eqb (total into) w.source bytes,
                  passes_c,
                  eq-eqb (length given.errors) w.errors (omega (arith, errors_met)),
                  errors_met.0,
                );
            leaves = λ i. left (sym ends i) (left_pieces i) (left_text i) (left_errors i);
            on = omega (arith, m.some);
            there = record {
              source_there = omega (arith, there.source_there, m.fits);
              text_there = (met-within given.text text from.text there.text_there (sym row_met.text_is ∙ texts)).1;
              errors_there = (met-within (numbers given.errors) errors from.errors there.errors_there (sym row_met.errors_is ∙ sound)).1;
            };
          }
            where
              left_pieces : drop (length into) (pieces names context (drop from.source s)) ≡ pieces names context (drop joint.at s)
              left_pieces = reached-rest names context (drop from.source s) w.source bytes ∙ rw (drop-drop w.source from.source s, ends)

              left_text : drop w.text (drop from.text text) ≡ drop text-end text
              left_text =
                  let end : from.text + w.text ≡ text-end = omega (arith, text_met) in
                  drop-drop w.text from.text text ∙ ap (λ (i : ℕ). drop i text) end

              left_errors : drop (2 * w.errors) (drop from.errors errors) ≡ drop errors-end errors
              left_errors =
                  let end : from.errors + 2 * w.errors ≡ errors-end = omega (arith, errors_met) in
                  drop-drop (2 * w.errors) from.errors errors ∙ ap (λ (i : ℕ). drop i errors) end

-- Before the first piece of a row.
start : {names : List Name} {context : Context} {s text errors : List ℕ} {from : Places} (w : Row) → IsWithin s text errors from
    → Walking names context s (from.source + w.source) text errors
    (Joins (pieces names context (drop from.source s)) from.source (from.source + w.source - from.source) text (Some from.text) errors
    (Some from.errors)) from.source (Some from.text) (Some from.errors)
start w there = record {
  there = there.source_there;
  text_there = λ i e. omega (arith, there.text_there, same_Some _ _ e);
  errors_there = λ i e. omega (arith, there.errors_there, same_Some _ _ e);
  rest = λ r j. j;
}

module _ {names : List Name} {context : Context} {s text errors : List ℕ} {from : Places} {w : Row}
    (fits : w.source ≤ length s - from.source) (there : IsWithin s text errors from) where
  -- A row of bytes that the text has too.
  pub row_plain : w.source ≢ 0 → PlainRow s from.source w.source text from.text w.text w.errors
      → LeadsTo names context s text errors from w
      (record { source = from.source + w.source; text = from.text + w.source; errors = from.errors })
  row_plain some p =
      let joins = walked (walk-run (start w there) w.source (omega arith) (omega (arith, there.source_there)) p.there p.same) (omega arith) in
      row_right (record { some = some; fits = fits; joins = joins }) refl refl (omega (arith, p.bytes)) refl (omega (arith, p.no_errors)) there

  -- A row of one byte that stands for itself.
  pub row_byte : {end : ℕ} → ByteRow s from.source w.source text from.text w.text errors from.errors w.errors end
      → LeadsTo names context s text errors from w (record { source = from.source + 1; text = from.text + 1; errors = end })
  row_byte p =
      let some : w.source ≢ 0 = λ z. omega (arith, p.source_byte) in
      let joins = walked (walk-byte-row (start w there) (omega (arith, there.source_there, p.source_byte)) p) (omega (arith, p.source_byte)) in
      row_right (record { some = some; fits = fits; joins = joins }) (omega (arith, p.source_byte)) refl (omega (arith, p.text_byte)) refl
      (omega (arith, p.count)) there
