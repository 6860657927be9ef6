-- What is written of a source after `decode_whole` has read it, one law for each way that it stops.
use Prim.Native.Nat.{ℕ, ◌+◌, ◌*◌, ◌≤◌}
use Prim.Native.Char.{code}
use mathlib.Core.Path.{◌≡◌, sym, ap}
use mathlib.Core.List.{List, [], ◌∷◌, ◌++◌, append_assoc}
use mathlib.Core.Bool.{true}
use mathlib.Core.Logic.{inl, inr}
use native.Mathlib.Omega.{arith}
use lib.ListN.{length, take, length-append}
use lib.Seq.{sets, length-sets}
use Rattle.lists.specs.Rooms.{Put}
use Rattle.lists.proofs.TableLaws.{holds}
use Rattle.lists.proofs.Ways.{plain}
use Rattle.lists.proofs.Puts.{put_join, put_length, take-written}
use Rattle.standard.specs.declared.Context.{Context}
use Rattle.standard.specs.Utf8.{bytes}
use Rattle.standard.specs.Answers.{done, context_end}
use Rattle.standard.specs.Errors.{numbers}
use Rattle.standard.specs.NameList.{builtin}
use Rattle.standard.specs.Reading.{stop_of, covered, readable, Reading, decode}
use Rattle.standard.proofs.Joining.{numbers-length}
use Rattle.decoder.specs.declared.whole.Decoded.{Decoded}
use Rattle.decoder.specs.Whole.{Decodes}
use Rattle.decoder.proofs.WholeTable.{DecodesAs, rooms_suffice, whole_table}
use Rattle.reporting.specs.Report.{decimal, pair, line, closing_line, source_report, source_errors}
use Rattle.reporting.specs.Lines.{pair_lines, after_text, Roomy, Fills}
use Rattle.reporting.proofs.Bound.{source_bound}
use Rattle.reporting.proofs.LineLaws.{pair_lines_lem}

-- The reading of a source.
abbrev reading_of : Context → List ℕ → Reading
reading_of context s = decode builtin context (covered context s)

-- The report of a source that is read: its text, and what stands after that.
report-read : (context : Context) (s last : List ℕ) → readable context s ≡ true → closing_line (stop_of context s) (length s) ≡ last
    → source_report context s ≡ (reading_of context s).text ++ ((code "\n" ∷ pair_lines (numbers (reading_of context s).errors)) ++ last)
unfolding source_report
report-read context s last t e = rw (t, e, pair_lines_lem (reading_of context s).errors) (simp append_assoc)

-- A source was decoded that is not too long, into rooms that are long enough.
pub record Called (context : Context) (s out errors : List ℕ) (r : Decoded) (out' errors' : List ℕ) : Type 0 where
  pub short : length s ≤ 4096
  pub rooms : Roomy out errors
  pub decodes : Decodes context s out errors r out' errors'

-- The three together.
pub called : {context : Context} {s out errors out' errors' : List ℕ} {r : Decoded} → length s ≤ 4096 → Roomy out errors
    → Decodes context s out errors r out' errors' → Called context s out errors r out' errors'
called short rooms decodes = record { short = short; rooms = rooms; decodes = decodes }

-- It was read: its text and the numbers of its errors are in the two rooms.
pub record Read (context : Context) (s out errors : List ℕ) (r : Decoded) (out' errors' : List ℕ) : Type 0 where
  pub call : Called context s out errors r out' errors'
  pub so : readable context s ≡ true
  pub text : Put out 0 (reading_of context s).text out' r.text
  pub count : 2 * r.errors ≡ length (numbers (reading_of context s).errors)
  pub numbers_of : errors' ≡ sets errors 0 (numbers (reading_of context s).errors)

module _ {context : Context} {s out errors out' errors' : List ℕ} {r : Decoded} where
  module _ (call : Called context s out errors r out' errors') where
    -- What was decoded, by the table of answers.
    so : DecodesAs plain context s out errors r out' errors'
    so = record { is = call.decodes }

    -- A source was read if both were written and are counted.
    read_so : readable context s ≡ true → r.text ≡ length (reading_of context s).text → r.errors ≡ length (reading_of context s).errors
        → out' ≡ sets out 0 (reading_of context s).text → errors' ≡ sets errors 0 (numbers (reading_of context s).errors)
        → Read context s out errors r out' errors'
    read_so t n m o e = record {
      call = call;
      so = t;
      text = record { next_is = omega arith; new_is = o };
      count = omega (arith, numbers-length (reading_of context s).errors);
      numbers_of = e;
    }

    -- A source that is done was read, and its last line says so.
    pub read_end : r.answer ≡ done → Read context s out errors r out' errors'
    read_end e =
        let l = (whole_table so).each.1.1.0 in
        let w = l.so (l.only e) in read_so (rw (l.only e).2) (rw w.0) (rw w.0) w.1 w.2

    pub closing_end : r.answer ≡ done → closing_line (stop_of context s) (length s) ≡ line (bytes "end " ++ decimal (length s))
    unfolding closing_line
    closing_end e = rw ((whole_table so).each.1.1.0.only e).2

    -- One that its context ends was read, and its last line says so.
    pub read_left : r.answer ≡ context_end → Read context s out errors r out' errors'
    read_left e =
        let l = (whole_table so).each.1.1.1.1.1.0 in
        let w = l.so (l.only e) in read_so (rw (l.only e).2) (rw w.0) (rw w.0) w.1 w.2

    pub closing_left : r.answer ≡ context_end → closing_line (stop_of context s) (length s) ≡ line (bytes "left " ++ decimal r.place)
    unfolding closing_line
    closing_left e = let l = (whole_table so).each.1.1.1.1.1.0 in rw ((l.only e).2, (l.so (l.only e)).0)

    -- Of any other nothing was written, and its last line is its report.
    refused_so : (r.answer ≡ done → ⊥) → (r.answer ≡ context_end → ⊥) → (out' ≡ out) × (errors' ≡ errors)
        × (source_report context s ≡ line (bytes "refused " ++ pair r.answer r.place)) × (source_errors context s ≡ [])
    unfolding source_report source_errors closing_line
    refused_so x y = elim (holds (whole_table so)) [
      | inl w ↦ absurd (omega (arith, w.1, call.short))
      | inr (inl (e, (short, inl k), w)) ↦ absurd (omega (arith, k, call.short, call.rooms.bytes_there))
      | inr (inl (e, (short, inr k), w)) ↦ absurd (omega (arith, k, call.short, call.rooms.numbers_there))
      | inr (inr (inl w)) ↦ absurd (x w.0)
      | inr (inr (inr (inl w))) ↦ (w.2.1, w.2.2, rw (w.1.2, w.2.0), rw w.1.2)
      | inr (inr (inr (inr (inl w)))) ↦ (w.2.1, w.2.2, rw (w.1.2, w.2.0), rw w.1.2)
      | inr (inr (inr (inr (inr (inl w))))) ↦ absurd (y w.0)
      | inr (inr (inr (inr (inr (inr w))))) ↦ elim w [ ]
    ]

    -- Its line has room.
    pub refused_room : (r.answer ≡ done → ⊥) → (r.answer ≡ context_end → ⊥)
        → 0 + length (line (bytes "refused " ++ pair r.answer r.place)) ≤ length out'
    refused_room x y =
        let w = refused_so x y in
        rw w.0 (omega (arith, rw w.2 at (source_bound context s call.short), call.rooms.bytes_there))

    -- With it the report is written.
    pub refused_written : (r.answer ≡ done → ⊥) → (r.answer ≡ context_end → ⊥) → {out'' : List ℕ} {n : ℕ}
        → Put out' 0 (line (bytes "refused " ++ pair r.answer r.place)) out'' n
        → Fills (source_report context s) (source_errors context s) out errors n out'' errors'
    unfolding numbers
    refused_written x y p =
        let w = refused_so x y in record { written = rw w.2 (rw w.0 at p); numbers_of = rw w.3 w.1 }

  module _ (read : Read context s out errors r out' errors') where
    -- The numbers have room.
    numbers_fit : length (numbers (reading_of context s).errors) ≤ length errors
    numbers_fit = omega (arith, (rooms_suffice context s).1, read.call.short, read.call.rooms.numbers_there)

    -- As many as are counted are there.
    pub numbers_there : 2 * r.errors ≤ length errors'
    numbers_there = rw (read.numbers_of, length-sets) (omega (arith, read.count, numbers_fit))

    -- They are those of the errors.
    numbers_front : take (2 * r.errors) errors' ≡ numbers (reading_of context s).errors
    numbers_front =
        rw read.numbers_of (take-written errors (numbers (reading_of context s).errors) (2 * r.errors) (sym read.count) numbers_fit)

    module _ (word : List ℕ) (place : ℕ) (e : closing_line (stop_of context s) (length s) ≡ line (word ++ decimal place)) where
      -- What stands after the text has room.
      pub rest_room : r.text + length (after_text (take (2 * r.errors) errors') word place) ≤ length out'
      rest_room =
          rw numbers_front
          (omega (
            arith,
            source_bound context s read.call.short,
            read.call.rooms.bytes_there,
            put_length read.text,
            read.text.next_is,
            ap length (report-read context s (line (word ++ decimal place)) read.so e),
            length-append (reading_of context s).text (after_text (numbers (reading_of context s).errors) word place),
          ))

      -- With it the report is written.
      pub rest_written : {out'' : List ℕ} {n : ℕ} → Put out' r.text (after_text (take (2 * r.errors) errors') word place) out'' n
          → Fills (source_report context s) (source_errors context s) out errors n out'' errors'
      unfolding source_errors
      rest_written p = record {
        written = rw (report-read context s (line (word ++ decimal place)) read.so e) (put_join read.text (rw numbers_front at p));
        numbers_of = rw read.so read.numbers_of;
      }
