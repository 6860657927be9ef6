-- What is written of an input, one law for each way through `report`.
use Prim.Native.Nat.{ℕ, ◌≤◌, ◌<◌}
use mathlib.Core.Path.{◌≡◌, ◌∙◌, refl}
use mathlib.Core.List.{List, []}
use mathlib.Core.Bool.{true, false, and-false}
use mathlib.Core.Logic.{◌⊎◌, ⊎_elim}
use lib.Dec.{leb}
use lib.ListN.{length, drop}
use borrow.Author.Tests.{lt-ltb, le-ltb, le-leb, lt-leb}
use Rattle.lists.specs.Rooms.{Put}
use Rattle.lists.proofs.Puts.{put_none}
use Rattle.standard.specs.declared.Context.{Context}
use Rattle.standard.specs.declared.Context.TheVariants.{Text, Attribute}
use Rattle.standard.specs.Utf8.{bytes}
use Rattle.standard.specs.Errors.{numbers}
use Rattle.standard.proofs.Computing.{computing_parts}
use Rattle.reporting.specs.Report.{
  line,
  source_report,
  source_errors,
  longest_source,
  for_source,
  for_input,
  report_room,
  numbers_room,
  roomy,
  Reports,
}
use Rattle.reporting.specs.Lines.{Roomy, Fills}
use Rattle.reporting.proofs.Starts.{begins_with, stands_prefix}

-- What is written of a source, be it too long or not.
abbrev SourceFills : Context → (s out errors : List ℕ) (r : ℕ) (out' errors' : List ℕ) → Type 0
SourceFills context s = Fills (for_source (line (bytes "too long")) source_report context s) (for_source [] source_errors context s)

-- A source that is too long.
pub source-long : {out out' : List ℕ} {r : ℕ} (context : Context) (s errors : List ℕ) → longest_source < length s
    → Put out 0 (line (bytes "too long")) out' r → SourceFills context s out errors r out' errors
unfolding numbers
source-long context s errors h p = rw (lt-ltb longest_source (length s) h) (record { written = p; numbers_of = refl })

-- Any other.
pub source-short : {out errors out' errors' : List ℕ} {r : ℕ} (context : Context) (s : List ℕ) → length s ≤ longest_source
    → Fills (source_report context s) (source_errors context s) out errors r out' errors' → SourceFills context s out errors r out' errors'
source-short context s h f = rw (le-ltb longest_source (length s) h) f

module _ {input out errors : List ℕ} where
  -- Into rooms that are too small nothing is written.
  nothing_written : roomy (length out) (length errors) ≡ false → Reports input out errors 0 out errors
  unfolding numbers
  nothing_written e = record { written = rw e (put_none out 0); numbers_of = rw e }

  pub small_rooms : (length out < report_room) ⊎ ((report_room ≤ length out) × (length errors < numbers_room)) → Reports input out errors 0 out errors
  small_rooms =
      ⊎_elim (λ h. nothing_written (rw (lt-leb report_room (length out) h)))
      (λ h. nothing_written (rw (lt-leb numbers_room (length errors) h.1) (and-false (leb report_room (length out)))))

  module _ {r : ℕ} {out' errors' : List ℕ} (rooms : Roomy out errors) where
    -- Else what is called for.
    report_written : Fills (for_input (line (bytes "bad context")) (line (bytes "too long")) source_report input)
        (for_input [] [] source_errors input)
        out errors r out' errors' → Reports input out errors r out' errors'
    report_written f =
        let e : roomy (length out) (length errors) ≡ true =
        rw (le-leb report_room (length out) rooms.bytes_there, le-leb numbers_room (length errors) rooms.numbers_there) in
        record { written = rw e f.written; numbers_of = rw e f.numbers_of }

    -- After `T` and LF, a text.
    pub report_text : {source : List ℕ} → begins_with (bytes "T\n") input ≡ true → source ≡ drop 2 input
        → SourceFills Text source out errors r out' errors' → Reports input out errors r out' errors'
    unfolding for_input computing_parts
    report_text t e f = report_written (rw (stands_prefix (bytes "T\n") input ∙ t) (rw e at f))

    -- After `A` and LF, an attribute.
    pub report_attribute : {source : List ℕ} → begins_with (bytes "T\n") input ≡ false → begins_with (bytes "A\n") input ≡ true
        → source ≡ drop 2 input → SourceFills Attribute source out errors r out' errors' → Reports input out errors r out' errors'
    unfolding for_input computing_parts
    report_attribute t a e f =
        report_written (rw (stands_prefix (bytes "T\n") input ∙ t, stands_prefix (bytes "A\n") input ∙ a) (rw e at f))

    -- Any other start.
    pub report_bad : begins_with (bytes "T\n") input ≡ false → begins_with (bytes "A\n") input ≡ false
        → Put out 0 (line (bytes "bad context")) out' r → errors' ≡ errors → Reports input out errors r out' errors'
    unfolding for_input computing_parts numbers
    report_bad t a p e =
        report_written (rw (stands_prefix (bytes "T\n") input ∙ t, stands_prefix (bytes "A\n") input ∙ a)
        (record { written = p; numbers_of = e }))
