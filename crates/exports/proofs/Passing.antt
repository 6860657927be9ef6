-- What whole decoding answers and writes, handed on as it is, passes the check.
use Rattle.std.specs.Prelude.{if◌then◌else◌}
use Prim.Native.Nat.{ℕ, ◌*◌, ◌<◌}
use mathlib.Core.Path.{◌≡◌}
use mathlib.Core.List.{List, [], ◌∷◌}
use mathlib.Core.Logic.{◌⊎◌}
use lib.Dec.{eqb}
use lib.ListN.{length, take}
use Rattle.lists.proofs.Ways.{Way, width, Says}
use Rattle.standard.specs.declared.Context.{Context}
use Rattle.standard.specs.Answers.{done, context_end}
use Rattle.standard.specs.Reading.{covered}
use Rattle.decoder.specs.declared.whole.Decoded.{Decoded}
use Rattle.decoder.proofs.WholeTable.{DecodesAs, was_read}
use Rattle.checker.specs.declared.checking.Checked.{Checked}
use Rattle.checker.proofs.RightRows.{Accepted}
use Rattle.checker.proofs.CheckTable.{ChecksAs}
use Rattle.checker.proofs.Transcripts.{one_row_passes}

-- With 0 and 7, as one row: the place, if it is named, and else the source's length; the text bytes; the errors.
pub whole-passes : {way : Way} {context : Context} {source text errors rows : List ℕ} {d : Decoded} {text' errors' : List ℕ} {c : Checked}
    → DecodesAs way context source text errors d text' errors' → (d.answer ≡ done) ⊎ (d.answer ≡ context_end) → 0 < length (covered context source)
    → Says way rows ((if eqb d.answer context_end then d.place else length source) ∷ d.text ∷ d.errors ∷ [])
    → ChecksAs way context source rows (take d.text text') (take (width way * (2 * d.errors)) errors') c → Accepted c
whole-passes so e some row-said checks =
    let r = was_read so e in
    one_row_passes r.short r.reads (rw r.texts at checks) r.errors_of some (rw (r.covers, r.text_count, r.error_count) at row-said)
