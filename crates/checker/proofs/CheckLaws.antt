-- The whole answer, one law for each way that the check returns.
use Rattle.std.specs.Prelude.{if◌then◌else◌}
use Prim.Native.Nat.{ℕ, ◌%◌, ◌≤◌, ◌<◌}
use mathlib.Core.Path.{◌≡◌, refl, ◌∙◌, ap}
use mathlib.Core.List.{List}
use mathlib.Core.Bool.{true, false, not, ◌||◌, ◌&&◌}
use mathlib.Core.Logic.{⊎_elim}
use lib.Dec.{ltb, eqb}
use lib.ListN.{length, take}
use borrow.Author.Tests.{eq-eqb, ne_eqb, lt-ltb, le-ltb}
use Rattle.lists.specs.Bytes.{words}
use Rattle.lists.proofs.Choice.{same?}
use Rattle.standard.specs.declared.Context.{Context}
use Rattle.standard.specs.Answers.{done, context_end, too_long, not_whole, longest_slice}
use Rattle.standard.specs.NameList.{builtin}
use Rattle.standard.specs.Names.{table_of, records}
use Rattle.standard.specs.Reading.{stop_of, covered, readable}
use Rattle.standard.proofs.BuiltinNames.{table-read}
use Rattle.checker.specs.declared.checking.Checked.{Checked}
use Rattle.checker.specs.declared.stops.Fault.{Fault}
use Rattle.checker.specs.declared.stops.Fault.TheVariants.{IllFormed, Nul}
use Rattle.checker.specs.Meeting.{stop_at}
use Rattle.checker.specs.Transcript.{right, Verdict, verdict, verdict_on, checked, checked_of, checked_bytes}

-- The order of a check's answers: the source is too long, rows and errors are not both whole, and the rest where they are.
pub record InOrder (m n : ℕ) (source rows errors : List ℕ) (rest all : Checked) : Type 0 where
  pub long : longest_slice < length source → checked too_long (verdict right 0) 0 ≡ all
  pub odd : length source ≤ longest_slice → ((length rows % m ≡ 0) × (length errors % n ≡ 0) → ⊥) → checked not_whole (verdict right 0) 0 ≡ all
  pub whole : length source ≤ longest_slice → length rows % m ≡ 0 → length errors % n ≡ 0 → rest ≡ all

in_order : (m n : ℕ) (source rows errors : List ℕ) (rest : Checked) → InOrder m n source rows errors rest
    (if ltb longest_slice (length source) then checked too_long (verdict right 0) 0
    else if not (eqb (length rows % m) 0 && eqb (length errors % n) 0) then checked not_whole (verdict right 0) 0 else rest)
in_order m n source rows errors rest = record {
  long = λ h. rw (lt-ltb longest_slice (length source) h);
  odd = λ s h. rw (le-ltb longest_slice (length source) s)
      (⊎_elim (λ r. rw (eq-eqb (length rows % m) 0 r, ne_eqb (length errors % n) 0 (λ e. h (r, e)))) (λ r. rw (ne_eqb (length rows % m) 0 r))
      (same? (length rows % m) 0));
  whole = λ s r e. rw (le-ltb longest_slice (length source) s, eq-eqb (length rows % m) 0 r, eq-eqb (length errors % n) 0 e);
}

-- A source with a fault is not read.
unread : (fault : Fault) → eqb (stop_at fault).answer done || eqb (stop_at fault).answer context_end ≡ false
unread (IllFormed place) = refl
unread (Nul place) = refl

module _ (context : Context) (source rows text errors : List ℕ) where
  -- Rows in threes and errors in pairs are whole.
  pub check_order : let stop = stop_of context source in InOrder 3 2 source rows errors
      (if not (readable context source) then checked stop.answer (verdict right 0) stop.place
      else checked done (verdict_on builtin context (covered context source) rows text errors) 0)
      (checked_of builtin context source rows text errors)
  unfolding checked_of
  check_order = in_order 3 2 source rows errors _

  -- Where they are bytes, both are in fours.
  pub bytes_order : InOrder 4 4 source rows errors (checked_of builtin context source (words rows) text (words errors))
      (checked_bytes builtin context source rows text errors)
  unfolding checked_bytes
  bytes_order = in_order 4 4 source rows errors _

  module _ (short : length source ≤ longest_slice) (threes : length rows % 3 ≡ 0) (pairs : length errors % 2 ≡ 0) where
    -- The source is not readable.
    pub check_fault : (fault : Fault) → stop_of context source ≡ stop_at fault
        → checked (stop_at fault).answer (verdict right 0) (stop_at fault).place ≡ checked_of builtin context source rows text errors
    check_fault fault e = rw (← check_order.whole short threes pairs, e, unread fault)

    -- It is, and the rows are judged.
    pub check_judged : {end : ℕ} → readable context source ≡ true → end ≡ (stop_of context source).place → {table : List ℕ}
        → table ≡ table_of builtin → {v : Verdict} → v ≡ verdict_on (records table) context (take end source) rows text errors
        → checked done v 0 ≡ checked_of builtin context source rows text errors
    check_judged t e {table} is w =
        let names : records table ≡ builtin = ap records is ∙ table-read in
        rw (← check_order.whole short threes pairs, t, w, names, e)
