-- What it means that a public function was called: this function, lent these values, gave this result and left these contents.
-- Each relation is made of the functions' own `ensures` alone: `Reads.Post` is that clause as the checker reads it from the source. So a theorem over
-- it speaks of the function, and where its `ensures` drifts the law of the relation (CallLaws) is refused.
use Prim.Native.Nat.{ℕ}
use mathlib.Core.Path.{◌≡◌}
use mathlib.Core.List.{List, []}
use mathlib.Core.Option.{some}
use lib.ListN.{length}
use contract.Lifetimes.{Lfts}
use denote.Triple.Entry.{Args, Res}
use denote.Triple.Clauses.{Ended, AtExit}
use borrow.Fn.Kinds.{ended_of}
use Rattle.lists.proofs.Ways.{Way, plain, in_bytes}
use Rattle.standard.specs.declared.Context.{Context}
use Rattle.decoder.proofs.decode_whole as DecodeWhole
use Rattle.decoder.proofs.decode_bytes as DecodeBytes
use Rattle.decoder.specs.declared.whole.Decoded.{Decoded}
use Rattle.decoder.specs.Whole.{decoded}
use Rattle.decoder.proofs.stream.Stream.new as New
use Rattle.decoder.proofs.stream.Stream.feed as Feed
use Rattle.decoder.proofs.stream.Stream.end as End
use Rattle.decoder.specs.declared.stream.Stream.{Stream}
use Rattle.decoder.specs.declared.stream.Fed.{Fed}
use Rattle.escaper.proofs.escape as Escape
use Rattle.escaper.specs.declared.Mode.{Mode}
use Rattle.escaper.specs.declared.Escaped.{Escaped}
use Rattle.escaper.specs.Escape.{escaped}
use Rattle.checker.proofs.check as Check
use Rattle.checker.proofs.check_bytes as CheckBytes
use Rattle.checker.specs.declared.checking.Checked.{Checked}
use Rattle.checker.specs.Transcript.{verdict, checked}
use Rattle.exports.proofs.plankskein_decode as PlankskeinDecode
use Rattle.exports.proofs.plankskein_escape as PlankskeinEscape
use Rattle.exports.proofs.plankskein_check as PlankskeinCheck
use Rattle.exports.specs.Exports.{context_of, mode_of}
use Rattle.exports.proofs.Report.{fields}
use Rattle.reporting.proofs.report as Report

-- A function's `requires` is of what it is lent; its `ensures` is also of its result, and of what it leaves of what it was lent.
abbrev pub Lifetimes : Ended → Type 0
Lifetimes function = Lfts function.signature.lifetimes

abbrev pub Requires : Ended → Type 1
Requires function = (κs : Lifetimes function) → Args function.signature κs → Type 0

abbrev pub Ensures : Ended → Type 1
Ensures function = (κs : Lifetimes function) → Args function.signature κs → Res function.signature κs → AtExit function κs → Type 0

-- A call that meets the `ensures`. Of what is lent, and of what is left, `.0` is the first parameter, `.1 .0` the second, `.1 .1 .0` the third, and
-- so on; `.now` is what a slice holds.
pub record Call (function : Ended) (ensures : Ensures function) : Type 0 where
  pub lifetimes : Lifetimes function
  pub lent : Args function.signature lifetimes
  pub result : Res function.signature lifetimes
  pub left : AtExit function lifetimes
  pub meets : ensures lifetimes lent result left

-- Decoding a whole source into a text room and an error room. Of the export, where it is used rightly: with a report of 16 bytes and a number that
-- means the context. Its result is what the report then says.
pub data Decoding : Way → Context → (source text errors : List ℕ) → Decoded → (text' errors' : List ℕ) → Type 0 where
  decode_whole : (c : Call (ended_of 3 DecodeWhole.Kinds.ps DecodeWhole.Kinds.r) DecodeWhole.Reads.Post)
      → Decoding plain c.lent.0 c.lent.1.0.now c.lent.1.1.0.now c.lent.1.1.1.0.now c.result
      c.left.1.1.0.now c.left.1.1.1.0.now
  decode_bytes : (c : Call (ended_of 3 DecodeBytes.Kinds.ps DecodeBytes.Kinds.r) DecodeBytes.Reads.Post)
      → Decoding in_bytes c.lent.0 c.lent.1.0.now c.lent.1.1.0.now c.lent.1.1.1.0.now c.result
      c.left.1.1.0.now c.left.1.1.1.0.now
  plankskein_decode : (c : Call (ended_of 4 PlankskeinDecode.Kinds.ps PlankskeinDecode.Kinds.r) PlankskeinDecode.Reads.Post) (context : Context)
      → length c.lent.1.1.1.1.0.now ≡ 16 → context_of c.lent.0 ≡ some context
      → Decoding in_bytes context c.lent.1.0.now c.lent.1.1.0.now c.lent.1.1.1.0.now
      (fields decoded c.left.1.1.1.1.0.now) c.left.1.1.0.now c.left.1.1.1.0.now

-- A new stream; one that is handed a chunk, with a text room and an error room; and one that is ended.
pub data Beginning : Context → Stream → Type 0 where
  new : (c : Call (ended_of 0 New.Kinds.ps New.Kinds.r) New.Reads.Post) → Beginning c.lent.0 c.result

pub data Feeding : Stream → (chunk text errors : List ℕ) → Fed → (text' errors' : List ℕ) → Type 0 where
  feed : (c : Call (ended_of 3 Feed.Kinds.ps Feed.Kinds.r) Feed.Reads.Post)
      → Feeding c.lent.0 c.lent.1.0.now c.lent.1.1.0.now c.lent.1.1.1.0.now c.result
      c.left.1.1.0.now c.left.1.1.1.0.now

pub data Ending : Stream → (text errors : List ℕ) → Fed → (text' errors' : List ℕ) → Type 0 where
  end : (c : Call (ended_of 2 End.Kinds.ps End.Kinds.r) End.Reads.Post)
      → Ending c.lent.0 c.lent.1.0.now c.lent.1.1.0.now c.result c.left.1.0.now c.left.1.1.0.now

-- Escaping an input into a room.
pub data Escaping : Mode → (input out : List ℕ) → Escaped → (out' : List ℕ) → Type 0 where
  escape : (c : Call (ended_of 2 Escape.Kinds.ps Escape.Kinds.r) Escape.Reads.Post)
      → Escaping c.lent.0 c.lent.1.0.now c.lent.1.1.0.now c.result c.left.1.1.0.now
  plankskein_escape : (c : Call (ended_of 3 PlankskeinEscape.Kinds.ps PlankskeinEscape.Kinds.r) PlankskeinEscape.Reads.Post) (mode : Mode)
      → length c.lent.1.1.1.0.now ≡ 16 → mode_of c.lent.0 ≡ some mode
      → Escaping mode c.lent.1.0.now c.lent.1.1.0.now (fields (λ a t e p. escaped a t p) c.left.1.1.1.0.now)
      c.left.1.1.0.now

-- Checking a transcript: rows, text and errors of a source.
pub data Checking : Way → Context → (source rows text errors : List ℕ) → Checked → Type 0 where
  check : (c : Call (ended_of 4 Check.Kinds.ps Check.Kinds.r) Check.Reads.Post)
      → Checking plain c.lent.0 c.lent.1.0.now c.lent.1.1.0.now c.lent.1.1.1.0.now c.lent.1.1.1.1.0.now c.result
  check_bytes : (c : Call (ended_of 4 CheckBytes.Kinds.ps CheckBytes.Kinds.r) CheckBytes.Reads.Post)
      → Checking in_bytes c.lent.0 c.lent.1.0.now c.lent.1.1.0.now c.lent.1.1.1.0.now c.lent.1.1.1.1.0.now
      c.result
  plankskein_check : (c : Call (ended_of 5 PlankskeinCheck.Kinds.ps PlankskeinCheck.Kinds.r) PlankskeinCheck.Reads.Post) (context : Context)
      → length c.lent.1.1.1.1.1.0.now ≡ 16 → context_of c.lent.0 ≡ some context
      → Checking in_bytes context c.lent.1.0.now c.lent.1.1.0.now c.lent.1.1.1.0.now c.lent.1.1.1.1.0.now
      (fields (λ a v r p. checked a (verdict v r) p) c.left.1.1.1.1.1.0.now)

-- Calling an export, rightly or wrongly: with a number, rooms ([] stands for one that it has not) and a report.
pub data Exporting : (number : ℕ) (text errors report : List ℕ) (returned : ℕ) (text' errors' report' : List ℕ) → Type 0 where
  plankskein_decode : (c : Call (ended_of 4 PlankskeinDecode.Kinds.ps PlankskeinDecode.Kinds.r) PlankskeinDecode.Reads.Post)
      → Exporting c.lent.0 c.lent.1.1.0.now c.lent.1.1.1.0.now c.lent.1.1.1.1.0.now c.result
      c.left.1.1.0.now c.left.1.1.1.0.now c.left.1.1.1.1.0.now
  plankskein_escape : (c : Call (ended_of 3 PlankskeinEscape.Kinds.ps PlankskeinEscape.Kinds.r) PlankskeinEscape.Reads.Post)
      → Exporting c.lent.0 c.lent.1.1.0.now [] c.lent.1.1.1.0.now c.result c.left.1.1.0.now []
      c.left.1.1.1.0.now
  plankskein_check : (c : Call (ended_of 5 PlankskeinCheck.Kinds.ps PlankskeinCheck.Kinds.r) PlankskeinCheck.Reads.Post)
      → Exporting c.lent.0 [] [] c.lent.1.1.1.1.1.0.now c.result [] [] c.left.1.1.1.1.1.0.now

-- Writing the bench program's report of an input.
pub data Reporting : (input out errors : List ℕ) (r : ℕ) (out' errors' : List ℕ) → Type 0 where
  report : (c : Call (ended_of 3 Report.Kinds.ps Report.Kinds.r) Report.Reads.Post)
      → Reporting c.lent.0.now c.lent.1.0.now c.lent.1.1.0.now c.result c.left.1.0.now c.left.1.1.0.now
