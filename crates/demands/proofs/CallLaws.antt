-- What a call says, by the definitions that the `ensures` cite: one law for each relation of Calls, and for each function its own `ensures`.
use Prim.Native.Nat.{ℕ}
use mathlib.Core.Path.{◌≡◌}
use mathlib.Core.List.{List}
use lib.ListN.{length}
use Rattle.lists.proofs.Ways.{Way}
use Rattle.standard.specs.declared.Context.{Context}
use Rattle.standard.specs.NameList.{builtin}
use Rattle.decoder.specs.declared.whole.Decoded.{Decoded}
use Rattle.decoder.proofs.WholeTable.{DecodesAs}
use Rattle.decoder.specs.declared.stream.Stream.{Stream}
use Rattle.decoder.specs.declared.stream.Fed.{Fed}
use Rattle.decoder.specs.Stream.{new_stream, feed_of, end_of, Feeds}
use Rattle.escaper.specs.declared.Mode.{Mode}
use Rattle.escaper.specs.declared.Escaped.{Escaped}
use Rattle.escaper.specs.Escape.{Escapes}
use Rattle.checker.specs.declared.checking.Checked.{Checked}
use Rattle.checker.proofs.CheckTable.{ChecksAs}
use Rattle.exports.proofs.Uses.{Called, decode_used, decode_called, escape_used, escape_called, check_used, check_called}
use Rattle.reporting.specs.Report.{Reports}
use Rattle.demands.proofs.Calls.{
  Decoding,
  decode_whole,
  decode_bytes,
  plankskein_decode,
  Beginning,
  new,
  Feeding,
  feed,
  Ending,
  end,
  Escaping,
  escape,
  plankskein_escape,
  Checking,
  check,
  check_bytes,
  plankskein_check,
  Exporting,
  Reporting,
  report,
}

pub decoding_so : {way : Way} {context : Context} {source text errors : List ℕ} {d : Decoded} {text' errors' : List ℕ}
    → Decoding way context source text errors d text' errors' → DecodesAs way context source text errors d text' errors'
decoding_so (decode_whole c) = record { is = c.meets }
decoding_so (decode_bytes c) = record { is = c.meets }
decoding_so (plankskein_decode c context h m) = (decode_used _ _ _ _ _ c.meets context h m).0

pub beginning_so : {context : Context} {r : Stream} → Beginning context r → r ≡ new_stream context
beginning_so (new c) = c.meets

pub feeding_so : {r : Stream} {chunk text errors : List ℕ} {fed : Fed} {text' errors' : List ℕ} → Feeding r chunk text errors fed text' errors'
    → Feeds (feed_of builtin r chunk (length text) (length errors)) text errors fed text' errors'
feeding_so (feed c) = c.meets

pub ending-so : {r : Stream} {text errors : List ℕ} {fed : Fed} {text' errors' : List ℕ} → Ending r text errors fed text' errors'
    → Feeds (end_of builtin r (length text) (length errors)) text errors fed text' errors'
ending-so (end c) = c.meets

pub escaping_so : {mode : Mode} {input out : List ℕ} {e : Escaped} {out' : List ℕ} → Escaping mode input out e out' → Escapes mode input out e out'
escaping_so (escape c) = c.meets
escaping_so (plankskein_escape c mode h m) = (escape_used _ _ _ _ c.meets mode h m).0

pub checking_so : {way : Way} {context : Context} {source rows text errors : List ℕ} {c : Checked}
    → Checking way context source rows text errors c → ChecksAs way context source rows text errors c
checking_so (check c) = record { is = c.meets }
checking_so (check_bytes c) = record { is = c.meets }
checking_so (plankskein_check c context h m) = (check_used _ _ _ _ _ _ c.meets context h m).0

pub reporting_so : {input out errors : List ℕ} {r : ℕ} {out' errors' : List ℕ} → Reporting input out errors r out' errors'
    → Reports input out errors r out' errors'
reporting_so (report c) = c.meets

pub exporting_so : {number : ℕ} {text errors report : List ℕ} {returned : ℕ} {text' errors' report' : List ℕ}
    → Exporting number text errors report returned text' errors' report' → Called number text errors report returned text' errors' report'
exporting_so (plankskein_decode c) = decode_called _ _ _ _ _ c.meets
exporting_so (plankskein_escape c) = escape_called _ _ _ _ c.meets
exporting_so (plankskein_check c) = check_called _ _ _ _ _ _ c.meets
