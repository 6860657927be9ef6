-- What a laboratory relies on: what `decode_bytes` answers and writes, handed on as it is, passes `check_bytes`.
use Prim.Native.Nat.{ℕ, ◌+◌, ◌*◌, ◌/◌, ◌%◌, ◌≤◌, ◌<◌}
use mathlib.Core.Path.{◌≡◌, refl, ◌∙◌, ap}
use mathlib.Core.List.{List, [], ◌∷◌}
use mathlib.Core.Bool.{true}
use native.Mathlib.Omega.{arith}
use lib.ListN.{length, take, length-take}
use lib.Seq.{length-sets}
use Rattle.lists.specs.Bytes.{fours}
use Rattle.lists.proofs.Layings.{laid-fours}
use Rattle.standard.specs.declared.Context.{Context}
use Rattle.standard.specs.Errors.{numbers}
use Rattle.standard.specs.NameList.{builtin}
use Rattle.standard.specs.Reading.{stop_of, covered, readable, Reading, decode}
use Rattle.checker.specs.declared.checking.Checked.{Checked}
use Rattle.checker.specs.Transcript.{checked_bytes}
use Rattle.decoder.specs.declared.whole.Decoded.{Decoded}
use Rattle.decoder.specs.Whole.{DecodesBytes}
use Rattle.demands.proofs.Laws.{text_short, errors_few}
use Rattle.demands.proofs.ReportNumbers.{fours_say, written_read}
use Rattle.demands.proofs.Transcript.{Accepted, as_row, one_row_passes, read_as_row}
use Rattle.demands.proofs.CheckAnswers as check_answers

module _ (context : Context) (source : List ℕ) (short : length source ≤ 65536) (reads : readable context source ≡ true)
    (some : 0 < length (covered context source)) (text errors : List ℕ) (d : Decoded) (text' errors' : List ℕ)
    (decodes : DecodesBytes context source text errors d text' errors') where
  -- The standard's reading of the covered part.
  abbrev whole : Reading
  whole = decode builtin context (covered context source)

  -- The answer of `decode_bytes` as one row in bytes, with what it wrote into rooms that suffice, passes.
  pub bytes_pass : length source + 64 ≤ length text → 2 * length source + 8 ≤ length errors / 4
      → (c : Checked) → c ≡ checked_bytes builtin context source (fours (as_row source d)) (take d.text text') (take (8 * d.errors) errors')
      → Accepted c
  bytes_pass text_room error-room c is =
      let r = read_as_row context source short reads some laid-fours (length errors / 4) text errors d text' errors' decodes
      (text_room, error-room) in
      let near = length-take (stop_of context source).place source in
      let few = errors_few context source in
      let small = fours_say (length (covered context source) ∷ length whole.text ∷ length whole.errors ∷ []) (
        omega (arith, near, short),
        (omega (arith, text_short context source, near, short), (omega (arith, few, short), tt)),
      ) in
      let room : length errors' ≡ length errors = ap length r.3 ∙ length-sets errors 0 (fours (numbers whole.errors)) in
      let long : length (take (8 * d.errors) errors') % 4 ≡ 0 =
      omega (arith, length-take (8 * d.errors) errors', room, r.1, few, error-room) in
      let numbers_there = written_read context source errors d.errors errors' short error-room r.1 r.3 in
      let given = check_answers.bytes_as_words context source _ _ _ c is short (omega (arith, laid-fours.long (as_row source d)), long) in
      one_row_passes context source short reads some _ refl c (given ∙ rw (numbers_there, r.2, r.0, small))
