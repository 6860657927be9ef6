-- What is promised: each theorem that a reader relies on, in full, in the order of document 01 ('What should be built, and its rules'): its three
-- demands, then 'What counts as proved', then its other sentences. Each is proved by citing one law, which stands in the crate that it is about.
-- That a function was called is said by the relations of Calls, which are made of the functions' own `ensures`. A table of answers is `Table`, and
-- how numbers are lent is `Way` (lists/proofs/Tables and Ways); what a good transcript is, is in checker/proofs/RightRows; all else is in specs/.
use Rattle.std.specs.Prelude.{if◌then◌else◌}
use Prim.Native.Nat.{ℕ, suc, ◌+◌, ◌-◌, ◌*◌, ◌≤◌, ◌<◌}
use Prim.Native.Char.{code}
use mathlib.Core.Path.{◌≡◌, refl}
use mathlib.Core.Bool.{true, false}
use mathlib.Core.List.{List, [], ◌∷◌, ◌++◌, Memᴰ}
use mathlib.Core.Logic.{◌≢◌, ◌↔◌, ◌⊎◌}
use lib.Dec.{eqb}
use lib.ListN.{length, get_or, take, drop}
use lib.Seq.{sets}
use borrow.Fn.Kinds.{ended_of}
use Rattle.lists.specs.Bytes.{word32}
use Rattle.lists.proofs.Every.{All}
use Rattle.lists.proofs.Tables.{◌when◌with◌, Kept, Table}
use Rattle.lists.proofs.Ways.{Way, in_bytes, width, laid, said, room, Says, Small}
use Rattle.lists.proofs.Cases.{Hold}
use Rattle.lists.proofs.Puts as Puts
use Rattle.lists.proofs.WayLaws as WayLaws
use Rattle.standard.specs.declared.Context.{Context}
use Rattle.standard.specs.Contexts.{ends}
use Rattle.standard.specs.declared.characters.CharRead.TheVariants.{Char, Incomplete, Illformed}
use Rattle.standard.specs.Utf8.{read_char, scalar, encode, bytes}
use Rattle.standard.specs.Answers.{
  done,
  ill_formed,
  nul,
  too_long,
  stream_too_long,
  no_room,
  room_used_up,
  context_end,
  closed,
  room_asked,
  not_whole,
}
use Rattle.standard.specs.Errors.{numbers}
use Rattle.standard.specs.Classes.{character_code}
use Rattle.standard.specs.Numbers.{number, meaning_of}
use Rattle.standard.specs.Names.{Name, stands, found_as, longest}
use Rattle.standard.specs.NameList.{builtin}
use Rattle.standard.specs.Pieces.{Piece}
use Rattle.standard.specs.Reading.{stop_of, covered, readable, pieces, Reading, ◌⊕◌, decode}
use Rattle.standard.proofs.Utf8 as Utf8
use Rattle.standard.proofs.RoundTrip as RoundTrip
use Rattle.standard.proofs.Back as Back
use Rattle.standard.proofs.Soonest as Soonest
use Rattle.standard.proofs.Covered as Covered
use Rattle.standard.proofs.Lists as Lists
use Rattle.standard.proofs.BuiltinNames as NameTests
use Rattle.standard.proofs.Longest as Longest
use Rattle.standard.proofs.Edges as Edges
use Rattle.decoder.specs.declared.whole.Decoded.{Decoded}
use Rattle.decoder.specs.Whole.{text_room_for, error_room_for, RoomFor, NoRoomFor, place_named, decoded}
use Rattle.decoder.specs.declared.stream.Stream.{Stream}
use Rattle.decoder.specs.declared.stream.Fed.{Fed}
use Rattle.decoder.specs.Machine.{nothing, finish}
use Rattle.decoder.specs.Held.{released}
use Rattle.decoder.specs.Stream.{At, place_of, closes, record_of, closed_by, st_of, at_of, is_open, refuses, feed_of, end_of, new_stream}
use Rattle.decoder.proofs.WholeTable as WholeTable
use Rattle.escaper.specs.declared.Mode.{Mode}
use Rattle.escaper.specs.declared.Escaped.{Escaped}
use Rattle.escaper.specs.Escape.{escape, escape_stop, escaped}
use Rattle.escaper.proofs.EscapeTable as EscapeTable
use Rattle.escaper.proofs.EscapeEdges as EscapeEdges
use Rattle.escaper.proofs.Bound as EscapeBound
use Rattle.checker.specs.declared.checking.Checked.{Checked}
use Rattle.checker.specs.Transcript.{
  Row,
  rows_of,
  Left,
  left,
  right,
  no_source,
  no_piece_end,
  text_differs,
  errors_differ,
  remains,
  verdict,
  verdict_on,
  checked,
}
use Rattle.checker.proofs.RightRows.{InGroups, Accepted, Good, Remains, FirstWrong, together, rows_for, in_threes, column}
use Rattle.checker.proofs.CheckTable as CheckTable
use Rattle.checker.proofs.Transcripts as Transcripts
use Rattle.checker.proofs.CheckEdges as CheckEdges
use Rattle.exports.proofs.Report.{RightUse}
use Rattle.exports.proofs.Uses as Uses
use Rattle.exports.proofs.Passing as Passing
use Rattle.exports.proofs.ExportEdges as ExportEdges
use Rattle.reporting.specs.Report.{decimal, report_of, errors_of, report_room, numbers_room}
use Rattle.reporting.proofs.ReportCalls as ReportCalls
use Rattle.reporting.proofs.ExampleCases as ReportExamples
use Rattle.reporting.proofs.Bound as ReportBound
use Rattle.reporting.proofs.LongInputs as LongInputs
use Rattle.reporting.proofs.Decimals as Decimals
use Rattle.standard.proofs.characters.read_char as ReadChar
use Rattle.standard.proofs.names.longest_name as LongestName
use Rattle.standard.proofs.names.begins_name as BeginsName
use Rattle.standard.proofs.table.builtin_names as BuiltinNames
use Rattle.standard.proofs.table.builtin_table as BuiltinTable
use Rattle.standard.proofs.records.Records.of as RecordsOf
use Rattle.runs.proofs.ascii_end as AsciiEnd
use Rattle.runs.proofs.ordinary_end as OrdinaryEnd
use Rattle.runs.proofs.plain_end as PlainEnd
use Rattle.runs.proofs.quiet_end as QuietEnd
use Rattle.rooms.proofs.copy as Copy
use Rattle.rooms.proofs.put_numbers as PutNumbers
use Rattle.decoder.proofs.decode_whole as DecodeWhole
use Rattle.decoder.proofs.decode_bytes as DecodeBytes
use Rattle.decoder.proofs.stream.Stream.new as New
use Rattle.decoder.proofs.stream.Stream.feed as Feed
use Rattle.decoder.proofs.stream.Stream.end as End
use Rattle.escaper.proofs.escape as Escape
use Rattle.checker.proofs.check as Check
use Rattle.checker.proofs.check_bytes as CheckBytes
use Rattle.reporting.proofs.report as Report
use Rattle.exports.proofs.plankskein_decode as PlankskeinDecode
use Rattle.exports.proofs.plankskein_escape as PlankskeinEscape
use Rattle.exports.proofs.plankskein_check as PlankskeinCheck
use Rattle.demands.proofs.Calls.{Call, Decoding, Beginning, Feeding, Ending, Escaping, Checking, Exporting, Reporting}
use Rattle.demands.proofs.CallLaws.{decoding_so, feeding_so, ending-so, escaping_so, checking_so, exporting_so, reporting_so}
use Rattle.demands.proofs.Streams.{Running, Called}
use Rattle.demands.proofs.StreamLaws as StreamLaws
use Rattle.demands.proofs.StreamTables as Chunks
use Rattle.demands.proofs.Cutting as Cutting
use Rattle.demands.proofs.Held as Held
use Rattle.demands.proofs.Held.{Phase}
use Rattle.demands.proofs.Settled.{Settled, SettledBytes, settled}
use Rattle.demands.proofs.Unique as Unique
use Rattle.demands.proofs.MarkedCases as Marked

-- DEMAND 1: TOTAL. The table of answers: each is given exactly when its line says, then the rest of the line is so, and no other answer is given.
-- (That no public function has a `requires` is `total` of Settled, under 'What counts as proved'.)

-- 'Decode whole: 3; then 9 if text room is under source length + 64 or error numbers under twice the source length + 8; then 1 or 2 .. Else 0 or 7':
-- `decode_whole`, `decode_bytes` and `plankskein_decode`.
module _ {way : Way} {context : Context} {source text errors : List ℕ} {d : Decoded} {text' errors' : List ℕ}
    (call : Decoding way context source text errors d text' errors') where
  -- The source is not too long, has its room, and stops with an answer.
  abbrev Stops : ℕ → Type 0
  Stops answer = (length source ≤ 65536) × RoomFor source (length text) (room way errors) × ((stop_of context source).answer ≡ answer)

  -- 'Nothing written': the result, and both rooms as they were.
  abbrev Unwritten : (answer asked place : ℕ) → Type 0
  Unwritten answer asked place = (d ≡ decoded answer asked 0 place) × (text' ≡ text) × (errors' ≡ errors)

  -- The standard's reading of the covered part.
  abbrev whole : Reading
  whole = decode builtin context (covered context source)

  -- The result, and both rooms with the reading at their start.
  abbrev Written : (answer place : ℕ) → Type 0
  Written answer place =
      (d ≡ decoded answer (length whole.text) (length whole.errors) place)
      × (text' ≡ sets text 0 whole.text) × (errors' ≡ sets errors 0 (laid way (numbers whole.errors)))

  pub decode_answers : let place = (stop_of context source).place in Table d.answer
      ((too_long when 65536 < length source with Unwritten too_long 0 0)
      ∷ (room_asked when (length source ≤ 65536) × NoRoomFor source (length text) (room way errors)
      with Unwritten room_asked (length source + 64) 0)
      ∷ (done when Stops done with Written done 0)
      ∷ (ill_formed when Stops ill_formed with Unwritten ill_formed 0 place)
      ∷ (nul when Stops nul with Unwritten nul 0 place)
      ∷ (context_end when Stops context_end with Written context_end place)
      ∷ [])
  decode_answers = WholeTable.whole_table (decoding_so call)

-- 'Order 3, 1, 9; 9 exactly if the result doesn't fit, with its length': `escape` and `plankskein_escape`.
module _ {mode : Mode} {input out : List ℕ} {e : Escaped} {out' : List ℕ} (call : Escaping mode input out e out') where
  abbrev WellFormed : Type 0
  WellFormed = (length input ≤ 65536) × ((escape_stop input).answer ≡ done)

  pub escape_answers : let result = escape mode input in Table e.answer
      ((too_long when 65536 < length input with (e ≡ escaped too_long 0 0) × (out' ≡ out))
      ∷ (ill_formed when (length input ≤ 65536) × ((escape_stop input).answer ≡ ill_formed)
      with (e ≡ escaped ill_formed 0 (escape_stop input).place) × (out' ≡ out))
      ∷ (room_asked when WellFormed × (length out < length result) with (e ≡ escaped room_asked (length result) 0) × (out' ≡ out))
      ∷ (done when WellFormed × (length result ≤ length out) with (e ≡ escaped done (length result) 0) × (out' ≡ sets out 0 result))
      ∷ [])
  escape_answers = EscapeTable.escape_table (escaping_so call)

-- 'The check order is 3, 10, then 1 or 2 in the covered part; answer 0 with a verdict': `check`, `check_bytes` and `plankskein_check`.
module _ {way : Way} {context : Context} {source rows text errors : List ℕ} {c : Checked}
    (call : Checking way context source rows text errors c) where
  -- Rows are in threes and errors in pairs, of whole numbers.
  abbrev Whole : Type 0
  Whole = InGroups way 3 rows × InGroups way 2 errors

  -- A source that is looked at.
  abbrev Looked : Type 0
  Looked = (length source ≤ 65536) × Whole

  pub check_answers : let stop = stop_of context source in Table c.answer
      ((too_long when 65536 < length source with c ≡ checked too_long (verdict right 0) 0)
      ∷ (not_whole when (length source ≤ 65536) × (Whole → ⊥) with c ≡ checked not_whole (verdict right 0) 0)
      ∷ (ill_formed when Looked × (stop.answer ≡ ill_formed) with c ≡ checked ill_formed (verdict right 0) stop.place)
      ∷ (nul when Looked × (stop.answer ≡ nul) with c ≡ checked nul (verdict right 0) stop.place)
      ∷ (done when Looked × (readable context source ≡ true)
      with c ≡ checked done (verdict_on builtin context (covered context source) (said way rows) text (said way errors)) 0)
      ∷ [])
  check_answers = CheckTable.check_table (checking_so call)

-- 'Another report length, or a context or escape mode other than 0 (text) and 1 (attribute), returns 5 first and touches nothing'; else 'the answer
-- is returned as well': `plankskein_decode`, `plankskein_escape` and `plankskein_check`.
module _ {number : ℕ} {text errors report : List ℕ} {returned : ℕ} {text' errors' report' : List ℕ}
    (call : Exporting number text errors report returned text' errors' report') where
  pub export_5 : Kept returned (no_room when (RightUse report number → ⊥) with (text' ≡ text) × (errors' ≡ errors) × (report' ≡ report))
  export_5 = (exporting_so call).0

  pub answer_returned : RightUse report number → returned ≡ word32 report' 0
  answer_returned = (exporting_so call).1

-- 'A field not named for an answer is 0': `plankskein_escape` reports no errors.
pub no_errors-reported : (c : Call (ended_of 3 PlankskeinEscape.Kinds.ps PlankskeinEscape.Kinds.r) PlankskeinEscape.Reads.Post)
    → RightUse c.lent.1.1.1.0.now c.lent.0 → word32 c.left.1.1.1.0.now 8 ≡ 0
no_errors-reported c = Uses.escape_no_errors _ _ _ _ c.meets

-- The chunk decoder, whatever the record: `Stream::feed`. How far a call reads is said by records of StreamAnswers: `TakesAll`, all of the chunk is
-- taken; `LacksRoom`, a byte lacks free room; `Meets n`, a byte calls for the answer n. Each has the bytes before it, which are taken, what they
-- release (g), and where the stream is then (here). `Gives` is the result with g in the rooms, `Unchanged` a refusal: counts and place 0, record and
-- rooms as they were.
module _ {r : Stream} {chunk text errors : List ℕ} {f : Fed} {text' errors' : List ℕ} (call : Feeding r chunk text errors f text' errors') where
  -- The record counts as open.
  abbrev Open : Type 0
  Open = is_open builtin r ≡ true

  abbrev All-taken : Type 0
  All-taken = Chunks.TakesAll r text errors f text' errors' chunk

  abbrev Lacks : Type 0
  Lacks = Chunks.LacksRoom r text errors f text' errors' chunk

  abbrev Meets : ℕ → Type 0
  Meets = Chunks.Meets r text errors f text' errors' chunk

  abbrev Gives : (answer taken place : ℕ) → Reading → Stream → Type 0
  Gives = Chunks.Gives r text errors f text' errors'

  abbrev Unchanged : ℕ → Type 0
  Unchanged = Chunks.Unchanged r text errors f text' errors'

  -- The stream goes on from here; or it is closed, with so many bytes before.
  abbrev on : At → Stream
  on here = record_of r.context here

  abbrev shut : List ℕ → Stream
  shut before = closed_by r.context (r.taken + length before)

  pub feed_answers : Table f.answer
      ((closed when is_open builtin r ≡ false with Unchanged closed)
      ∷ (too_long when Open × (65536 < length chunk) with Unchanged too_long)
      ∷ (stream_too_long when Open × (length chunk ≤ 65536) × (16777216 < r.taken + length chunk) with Unchanged stream_too_long)
      ∷ (no_room when Open × (length chunk ≤ 65536) × (r.taken + length chunk ≤ 16777216) × ((length text < 64) ⊎ (length errors < 8))
      with Unchanged no_room)
      ∷ (room_used_up when Lacks
      with ((w : Lacks) → let m = w.at in Gives room_used_up (length m.before) 0 m.g (on m.here) × (is_open builtin (on m.here) ≡ true)))
      ∷ (ill_formed when Meets ill_formed
      with ((w : Meets ill_formed) → let m = w.at in Gives ill_formed (length m.before) (place_of m.here) m.g (shut m.before)))
      ∷ (nul when Meets nul
      with ((w : Meets nul) → let m = w.at in Gives nul (length m.before) (place_of m.here) m.g (shut m.before)))
      ∷ (context_end when Meets context_end
      with ((w : Meets context_end) → let m = w.at in
      Gives context_end (length m.before) (place_of m.here) (m.g ⊕ finish builtin r.context m.here.st) (shut m.before)))
      ∷ (done when All-taken
      with ((w : All-taken) → Gives done (length chunk) 0 w.g (on w.here) × (is_open builtin (on w.here) ≡ true)))
      ∷ [])
  feed_answers = Chunks.feed_table r text errors f text' errors' chunk (feeding_so call)

-- `Stream::end`.
module _ {r : Stream} {text errors : List ℕ} {f : Fed} {text' errors' : List ℕ} (call : Ending r text errors f text' errors') where
  abbrev Ended : (answer place : ℕ) → Reading → Stream → Type 0
  Ended answer place = Chunks.Gives r text errors f text' errors' answer 0 place

  abbrev Room : Type 0
  Room = (64 ≤ length text) × (8 ≤ length errors)

  pub end_answers : let opened = is_open builtin r ≡ true in
      let shut = closed_by r.context r.taken in
      let unchanged = Chunks.Unchanged r text errors f text' errors' in
      Table f.answer
      ((closed when is_open builtin r ≡ false with unchanged closed)
      ∷ (no_room when opened × ((length text < 64) ⊎ (length errors < 8)) with unchanged no_room)
      ∷ (ill_formed when opened × Room × (0 < r.part_count) with Ended ill_formed (place_of (at_of r)) nothing shut)
      ∷ (done when opened × Room × (r.part_count ≡ 0) with Ended done 0 (finish builtin r.context (st_of r.held)) shut)
      ∷ [])
  end_answers = Chunks.end_table r text errors f text' errors' (ending-so call)

-- What a byte calls for, with the bytes of its character so far: 1 exactly where it is ill-formed, 2 where it is NUL and 7 where it ends the context.
module _ {r : Stream} {chunk text errors : List ℕ} {f : Fed} {text' errors' : List ℕ} (m : Chunks.Reaches r text errors f text' errors' chunk) where
  pub calls_for_1 : (Chunks.called r text errors f text' errors' chunk m ≡ ill_formed)
      ↔ ((n : ℕ) × (read_char (m.here.part ++ m.byte ∷ []) ≡ Illformed n))
  calls_for_1 = Chunks.calls_for_1 r text errors f text' errors' chunk m

  pub calls_for_2 : (Chunks.called r text errors f text' errors' chunk m ≡ nul) ↔ ((m.here.part ≡ []) × (m.byte ≡ 0))
  calls_for_2 = Chunks.calls_for_2 r text errors f text' errors' chunk m

  pub calls_for_7 : (Chunks.called r text errors f text' errors' chunk m ≡ context_end)
      ↔ ((m.here.part ≡ []) × (ends r.context m.byte ≡ true))
  calls_for_7 = Chunks.calls_for_7 r text errors f text' errors' chunk m

  -- 'The place of its first byte.'
  pub place_there : place_of m.here ≡ r.taken + length m.before - length m.here.part
  place_there = Chunks.place_there r text errors f text' errors' chunk m

-- A closed stream answers 8 to every later call, and nothing changes.
pub closed_forever : (context : Context) (n : ℕ) (chunk : List ℕ) (text errors : ℕ) → let r = closed_by context n in
    (feed_of builtin r chunk text errors ≡ refuses closed r) × (end_of builtin r text errors ≡ refuses closed r)
closed_forever = Chunks.closed_forever

-- DEMAND 2: RIGHT, HOWEVER CUT.

-- With 0 and 7 the text and the errors that stand in the rooms, as many as the result says, are the standard's reading of the covered part; and 'odd
-- last bytes of an error room don't count as room': they keep their contents.
module _ {way : Way} {context : Context} {source text errors : List ℕ} {d : Decoded} {text' errors' : List ℕ}
    (call : Decoding way context source text errors d text' errors') where
  pub decode_right : (d.answer ≡ done) ⊎ (d.answer ≡ context_end) → let whole = decode builtin context (covered context source) in
      (take d.text text' ≡ whole.text) × Says way (take (width way * (2 * d.errors)) errors') (numbers whole.errors)
  decode_right e = let r = WholeTable.was_read (decoding_so call) e in (r.texts, r.errors_of)

  pub odd_bytes : drop (width way * room way errors) errors' ≡ drop (width way * room way errors) errors
  odd_bytes = WholeTable.odd_kept (decoding_so call)

-- 'Numbers in slices are four bytes, little-endian': the bytes of numbers below 2^32 say them.
pub bytes_say : (ns : List ℕ) → All Small ns → Says in_bytes (laid in_bytes ns) ns
bytes_say = WayLaws.laid-says in_bytes

-- 'In every call, room past what was written keeps its contents': what it means that a room then is `sets room 0 written`.
pub room_after : (room written : List ℕ) → length written ≤ length room → sets room 0 written ≡ written ++ drop (length written) room
room_after = Puts.sets-front

-- 'However a source is cut': a run from a new stream to the answer that closes it, over any chunks and rooms that the table gives no 3, 4 or 5 for,
-- bytes not taken handed in again. Answer and place are the whole source's; with 0 and 7 the text and the errors in the rooms, joined, are the
-- standard's reading of the covered part; with 1 and 2 they are what the held rule released before the fault.
pub cutting : {context : Context} {r : Stream} {source text errors : List ℕ} {answer place : ℕ} → Beginning context r
    → Running r source text errors answer place → let stop = stop_of context source in
    let whole = decode builtin context (covered context source) in
    let before = released builtin context source in
    (answer ≡ stop.answer) × (place ≡ place_named answer stop)
    × ((answer ≡ done) ⊎ (answer ≡ context_end) → (text ≡ whole.text) × (errors ≡ numbers whole.errors))
    × ((answer ≡ ill_formed) ⊎ (answer ≡ nul) → (text ≡ before.text) × (errors ≡ numbers before.errors))
cutting begins run = StreamLaws.run_whole begins run

-- None of a run's answers is 8; and over each source of at most 16,777,216 bytes there is a run.
pub never_closed : (context : Context) {source : List ℕ} {g : Reading} {answer place : ℕ}
    (run : Cutting.Runs (new_stream context) source g answer place)
    → All (λ (n : ℕ). n ≢ closed) (Cutting.answers run)
never_closed = Cutting.never_closed

pub runs_exist : (context : Context) (source : List ℕ) → length source ≤ 16777216 → Cutting.HasRun (new_stream context) source
runs_exist = Cutting.runs_exist

module _ {r : Stream} {chunk text errors : List ℕ} {f : Fed} {text' errors' : List ℕ} (call : Feeding r chunk text errors f text' errors') where
  -- Whatever the record, each call with a nonempty chunk that is not refused takes a byte or closes the stream; and none takes more than the chunk.
  pub progress : 0 < length chunk → f.answer ≢ closed → Cutting.Allowed f.answer → (closes f.answer ≡ true) ⊎ (0 < f.taken)
  progress = StreamLaws.feed_progress call

  pub taken_within : f.taken ≤ length chunk
  taken_within = StreamLaws.feed_within call

-- 'The held rule', after any calls from a new stream, refused ones among them: the record's taken count is the number of bytes taken and the sum of
-- the calls' taken counts; and the text and the errors in the rooms, joined, are what the rule releases of these bytes (`released`), or after 0 and 7
-- all that they read as.
pub held : {context : Context} {r : Stream} {t text errors : List ℕ} {phase : Phase} {sum : ℕ} → Called context r t text errors phase sum
    → (r.taken ≡ sum) × (r.taken ≡ length t)
    × ((g : Reading) × (text ≡ g.text) × (errors ≡ numbers g.errors) × Held.Gave context t g phase)
held = StreamLaws.called_held

-- 'A new stream is open, and only an answer whose line says closed closes it.' 'A store of held bytes, at most 32, whatever the source.'
pub open_until_closed : {context : Context} {r : Stream} {t text errors : List ℕ} {phase : Phase} {sum : ℕ}
    → Called context r t text errors phase sum → is_open builtin r ≡ Held.is_still phase
open_until_closed = StreamLaws.called_open

pub store-fits : {context : Context} {r : Stream} {t text errors : List ℕ} {phase : Phase} {sum : ℕ} → Called context r t text errors phase sum
    → r.held.count ≤ 32
store-fits = StreamLaws.called_store

-- DEMAND 3: A CHECKER THAT NEVER ASKS THE DECODER. Here of a readable source of at most 65,536 bytes.
module _ {way : Way} {context : Context} {source rows text errors : List ℕ} {c : Checked} (call : Checking way context source rows text errors c)
    (short : length source ≤ 65536) (reads : readable context source ≡ true) where
  -- All pieces of the covered part, all text and all errors; and the rows.
  abbrev all : Left
  all = left 0 (pieces builtin context (covered context source)) text (said way errors)

  abbrev given : List Row
  given = rows_of (said way rows)

  -- It accepts exactly the good transcripts.
  pub accepts_exactly : Accepted c ↔ ((InGroups way 3 rows × InGroups way 2 errors) × Good all given)
  accepts_exactly = Transcripts.accepts_exactly (checking_so call) short reads

  -- Some row is the first wrong one, for a reason; and that row is named.
  abbrev First : ℕ → Type 0
  First reason = (number : ℕ) × FirstWrong all given reason number

  abbrev Named : ℕ → Type 0
  Named reason = (number : ℕ) → FirstWrong all given reason number → c.row ≡ number

  -- 'Row number, counted from 0, and reason. Row by row: a, .. d. After the last row: e, ..', and no other verdict.
  pub verdicts : InGroups way 3 rows × InGroups way 2 errors → Table c.verdict
      ((right when Good all given with c.row ≡ 0)
      ∷ (no_source when First no_source with Named no_source)
      ∷ (no_piece_end when First no_piece_end with Named no_piece_end)
      ∷ (text_differs when First text_differs with Named text_differs)
      ∷ (errors_differ when First errors_differ with Named errors_differ)
      ∷ (remains when Remains all given with c.row ≡ length given)
      ∷ [])
  verdicts = Transcripts.verdict_table (checking_so call) short reads

  -- 'On acceptance the three columns add up to covered length, text length and error count' (two numbers an error).
  pub columns : Accepted c
      → (column (λ r. r.source) given ≡ length (covered context source)) × (column (λ r. r.text) given ≡ length text)
      × (2 * column (λ r. r.errors) given ≡ length (said way errors))
  columns = Transcripts.columns (checking_so call) short reads

  -- No text and no errors but the standard's are ever accepted.
  pub reads_so : Accepted c → let whole = decode builtin context (covered context source) in
      (text ≡ whole.text) × (said way errors ≡ numbers whole.errors)
  reads_so = Transcripts.reads_so (checking_so call) short reads

-- 'A row may join any number of pieces from one up': groups of pieces, which are all pieces together, a row for each, pass in every cutting.
pub any_cutting_passes : {way : Way} {context : Context} {source rows errors : List ℕ} {c : Checked} → length source ≤ 65536
    → readable context source ≡ true → let whole = decode builtin context (covered context source) in
    Checking way context source rows whole.text errors c → Says way errors (numbers whole.errors)
    → (groups : List (List Piece)) → All (λ (group : List Piece). 0 < length group) groups
    → together groups ≡ pieces builtin context (covered context source) → Says way rows (in_threes (rows_for 0 groups)) → Accepted c
any_cutting_passes short reads call = Transcripts.any_cutting_passes short reads (checking_so call)

-- An answer 0 or 7 as a row: its place, if it names one, and else the source's length; its text bytes; its errors.
abbrev pub as_row : List ℕ → Decoded → List ℕ
as_row source d = (if eqb d.answer context_end then d.place else length source) ∷ d.text ∷ d.errors ∷ []

-- What decoding a whole source answers with 0 or 7, and what it wrote, passes as one row where a byte is covered.
pub whole-passes : {way : Way} {context : Context} {source text errors rows : List ℕ} {d : Decoded} {text' errors' : List ℕ} {c : Checked}
    → Decoding way context source text errors d text' errors' → (d.answer ≡ done) ⊎ (d.answer ≡ context_end)
    → 0 < length (covered context source) → Says way rows (as_row source d)
    → Checking way context source rows (take d.text text') (take (width way * (2 * d.errors)) errors') c → Accepted c
whole-passes decodes e some row checks = Passing.whole-passes (decoding_so decodes) e some row (checking_so checks)

-- Where no byte is covered the empty transcript passes; where one is, none without rows does.
pub empty_passes : {way : Way} {context : Context} {source : List ℕ} {c : Checked} → length source ≤ 65536 → readable context source ≡ true
    → covered context source ≡ [] → Checking way context source [] [] [] c → Accepted c
empty_passes short reads none call = Transcripts.empty_passes short reads none (checking_so call)

pub no_rows_refused : {way : Way} {context : Context} {source text errors : List ℕ} {c : Checked} → length source ≤ 65536
    → readable context source ≡ true → 0 < length (covered context source) → InGroups way 2 errors
    → Checking way context source [] text errors c → (c.verdict ≡ remains) × (c.row ≡ 0)
no_rows_refused short reads some pairs call = Transcripts.no_rows_refused short reads some pairs (checking_so call)

-- WHAT COUNTS AS PROVED. 'Every public function promises its complete result and the later contents of whatever it was lent, on refusal as on
-- success; a proof shows that no second answer fits.' And none has a `requires`.
pub read-char_settled : Settled (ended_of 1 ReadChar.Kinds.ps ReadChar.Kinds.r) ReadChar.Reads.Pre ReadChar.Reads.Post (λ κs e. [])
read-char_settled = settled _ _ (λ κs a. tt) (λ κs a x e p. (p, refl))

pub longest-name_settled : Settled (ended_of 2 LongestName.Kinds.ps LongestName.Kinds.r) LongestName.Reads.Pre LongestName.Reads.Post (λ κs e. [])
longest-name_settled = settled _ _ (λ κs a. tt) (λ κs a x e p. (p, refl))

pub begins-name_settled : Settled (ended_of 2 BeginsName.Kinds.ps BeginsName.Kinds.r) BeginsName.Reads.Pre BeginsName.Reads.Post (λ κs e. [])
begins-name_settled = settled _ _ (λ κs a. tt) (λ κs a x e p. (p, refl))

pub builtin-names_settled : Settled (ended_of 0 BuiltinNames.Kinds.ps BuiltinNames.Kinds.r) BuiltinNames.Reads.Pre BuiltinNames.Reads.Post
    (λ κs e. [])
builtin-names_settled = settled _ _ (λ κs a. tt) (λ κs a x e p. (p, refl))

pub builtin-table_settled : SettledBytes (ended_of 1 BuiltinTable.Kinds.ps BuiltinTable.Kinds.r) BuiltinTable.Reads.Pre BuiltinTable.Reads.Post
    (λ κs x. x.now)
builtin-table_settled = record { total = λ κs a. tt; unique = Unique.builtin_table }

pub records-of_settled : SettledBytes (ended_of 1 RecordsOf.Kinds.ps RecordsOf.Kinds.r) RecordsOf.Reads.Pre RecordsOf.Reads.Post
    (λ κs x. x.rest.now)
records-of_settled = record { total = λ κs a. tt; unique = Unique.records }

pub ascii-end_settled : Settled (ended_of 1 AsciiEnd.Kinds.ps AsciiEnd.Kinds.r) AsciiEnd.Reads.Pre AsciiEnd.Reads.Post (λ κs e. [])
ascii-end_settled = settled _ _ (λ κs a. tt) (λ κs a x e p. (p, refl))

pub ordinary-end_settled : Settled (ended_of 1 OrdinaryEnd.Kinds.ps OrdinaryEnd.Kinds.r) OrdinaryEnd.Reads.Pre OrdinaryEnd.Reads.Post (λ κs e. [])
ordinary-end_settled = settled _ _ (λ κs a. tt) (λ κs a x e p. (p, refl))

pub plain-end_settled : Settled (ended_of 1 PlainEnd.Kinds.ps PlainEnd.Kinds.r) PlainEnd.Reads.Pre PlainEnd.Reads.Post (λ κs e. [])
plain-end_settled = settled _ _ (λ κs a. tt) (λ κs a x e p. (p, refl))

pub quiet-end_settled : Settled (ended_of 1 QuietEnd.Kinds.ps QuietEnd.Kinds.r) QuietEnd.Reads.Pre QuietEnd.Reads.Post (λ κs e. [])
quiet-end_settled = settled _ _ (λ κs a. tt) (λ κs a x e p. (p, refl))

pub copy_settled : Settled (ended_of 2 Copy.Kinds.ps Copy.Kinds.r) Copy.Reads.Pre Copy.Reads.Post (λ κs e. e.1.0.now ∷ [])
copy_settled = settled _ _ (λ κs a. tt) (λ κs a x e p. (p.next_is, λ i. p.new_is i ∷ []))

pub put_numbers_settled : Settled (ended_of 2 PutNumbers.Kinds.ps PutNumbers.Kinds.r) PutNumbers.Reads.Pre PutNumbers.Reads.Post
    (λ κs e. e.1.0.now ∷ [])
put_numbers_settled = settled _ _ (λ κs a. tt) (λ κs a x e p. (p.next_is, λ i. p.new_is i ∷ []))

pub decode-whole_settled : Settled (ended_of 3 DecodeWhole.Kinds.ps DecodeWhole.Kinds.r) DecodeWhole.Reads.Pre DecodeWhole.Reads.Post
    (λ κs e. e.1.1.0.now ∷ e.1.1.1.0.now ∷ [])
decode-whole_settled = settled _ _ (λ κs a. tt) (λ κs a x e p. (p.answered, λ i. p.texts i ∷ p.numbers_of i ∷ []))

pub decode-bytes_settled : Settled (ended_of 3 DecodeBytes.Kinds.ps DecodeBytes.Kinds.r) DecodeBytes.Reads.Pre DecodeBytes.Reads.Post
    (λ κs e. e.1.1.0.now ∷ e.1.1.1.0.now ∷ [])
decode-bytes_settled = settled _ _ (λ κs a. tt) (λ κs a x e p. (p.answered, λ i. p.texts i ∷ p.numbers_of i ∷ []))

pub new_settled : Settled (ended_of 0 New.Kinds.ps New.Kinds.r) New.Reads.Pre New.Reads.Post (λ κs e. [])
new_settled = settled _ _ (λ κs a. tt) (λ κs a x e p. (p, refl))

pub feed_settled : Settled (ended_of 3 Feed.Kinds.ps Feed.Kinds.r) Feed.Reads.Pre Feed.Reads.Post (λ κs e. e.1.1.0.now ∷ e.1.1.1.0.now ∷ [])
feed_settled = settled _ _ (λ κs a. tt) (λ κs a x e p. (p.answered, λ i. p.texts i ∷ p.numbers_of i ∷ []))

pub end_settled : Settled (ended_of 2 End.Kinds.ps End.Kinds.r) End.Reads.Pre End.Reads.Post (λ κs e. e.1.0.now ∷ e.1.1.0.now ∷ [])
end_settled = settled _ _ (λ κs a. tt) (λ κs a x e p. (p.answered, λ i. p.texts i ∷ p.numbers_of i ∷ []))

pub escape_settled : Settled (ended_of 2 Escape.Kinds.ps Escape.Kinds.r) Escape.Reads.Pre Escape.Reads.Post (λ κs e. e.1.1.0.now ∷ [])
escape_settled = settled _ _ (λ κs a. tt) (λ κs a x e p. (p.answered, λ i. p.texts i ∷ []))

pub check_settled : Settled (ended_of 4 Check.Kinds.ps Check.Kinds.r) Check.Reads.Pre Check.Reads.Post (λ κs e. [])
check_settled = settled _ _ (λ κs a. tt) (λ κs a x e p. (p, refl))

pub check-bytes_settled : Settled (ended_of 4 CheckBytes.Kinds.ps CheckBytes.Kinds.r) CheckBytes.Reads.Pre CheckBytes.Reads.Post (λ κs e. [])
check-bytes_settled = settled _ _ (λ κs a. tt) (λ κs a x e p. (p, refl))

pub report_settled : Settled (ended_of 3 Report.Kinds.ps Report.Kinds.r) Report.Reads.Pre Report.Reads.Post (λ κs e. e.1.0.now ∷ e.1.1.0.now ∷ [])
report_settled = settled _ _ (λ κs a. tt) (λ κs a x e p. (p.written.next_is, λ i. p.written.new_is i ∷ p.numbers_of i ∷ []))

pub plankskein_decode_settled : Settled (ended_of 4 PlankskeinDecode.Kinds.ps PlankskeinDecode.Kinds.r) PlankskeinDecode.Reads.Pre
    PlankskeinDecode.Reads.Post
    (λ κs e. e.1.1.0.now ∷ e.1.1.1.0.now ∷ e.1.1.1.1.0.now ∷ [])
plankskein_decode_settled = settled _ _ (λ κs a. tt) (λ κs a x e p. (p.answered, λ i. p.texts i ∷ p.numbers_of i ∷ p.reports i ∷ []))

pub plankskein_escape_settled : Settled (ended_of 3 PlankskeinEscape.Kinds.ps PlankskeinEscape.Kinds.r) PlankskeinEscape.Reads.Pre
    PlankskeinEscape.Reads.Post
    (λ κs e. e.1.1.0.now ∷ e.1.1.1.0.now ∷ [])
plankskein_escape_settled = settled _ _ (λ κs a. tt) (λ κs a x e p. (p.answered, λ i. p.texts i ∷ p.reports i ∷ []))

pub plankskein_check_settled : Settled (ended_of 5 PlankskeinCheck.Kinds.ps PlankskeinCheck.Kinds.r) PlankskeinCheck.Reads.Pre
    PlankskeinCheck.Reads.Post
    (λ κs e. e.1.1.1.1.1.0.now ∷ [])
plankskein_check_settled = settled _ _ (λ κs a. tt) (λ κs a x e p. (p.answered, λ i. p.reports i ∷ []))

-- 'M1 to M14 make a single proved table.'
pub marked : Hold Marked.table
marked = Marked.marked

-- Further sources, inputs, transcripts and calls at the edges of the rules, those that document 01 has as 'only run' among them.
pub edges : Hold Edges.table
edges = Edges.edges

pub escape_edges : Hold EscapeEdges.table
escape_edges = EscapeEdges.escape_edges

pub check_edges : Hold CheckEdges.table
check_edges = CheckEdges.check_edges

pub export_edges : Hold ExportEdges.table
export_edges = ExportEdges.export_edges

-- FURTHER SENTENCES.

-- 'UTF-8 is as in RFC 3629': what is read does not depend on what follows, gives back what was encoded, and is the encoding of a scalar value.
pub read-alone : (s rest : List ℕ) (c n : ℕ) → read_char s ≡ Char c n → read_char (s ++ rest) ≡ Char c n
read-alone s rest c n e = Utf8.read-append s rest (Char c n) e tt

pub read_encoded : (c : ℕ) (rest : List ℕ) → scalar c ≡ true → read_char (encode c ++ rest) ≡ Char c (length (encode c))
read_encoded = RoundTrip.read-encode

pub read_back : (s : List ℕ) (c n : ℕ) → read_char s ≡ Char c n → (encode c ≡ take n s) × (scalar c ≡ true)
read_back = Back.read_back

-- 'A byte is ill-formed as soon as no well-formed character has it after the bytes of its character so far.'
pub incomplete_completes : (s : List ℕ) (n : ℕ) → read_char s ≡ Incomplete n
    → (rest : List ℕ) × (c : ℕ) × (m : ℕ) × (read_char (s ++ rest) ≡ Char c m)
incomplete_completes = Soonest.incomplete_completes

pub illformed_before : (s : List ℕ) (n : ℕ) → read_char s ≡ Illformed n → (0 < n → read_char (take n s) ≡ Incomplete n)
illformed_before = Soonest.illformed_before

pub illformed_never : (s : List ℕ) (n : ℕ) → read_char s ≡ Illformed n → (rest : List ℕ) → read_char (take (suc n) s ++ rest) ≡ Illformed n
illformed_never = Soonest.illformed_never

-- 'Nothing after it is looked at': whatever follows the character that ends the context, the source stops there, and the same part is covered.
pub nothing-after : (context : Context) (s rest : List ℕ) → (stop_of context s).answer ≡ context_end
    → (stop_of context (s ++ rest) ≡ stop_of context s) × (covered context (s ++ rest) ≡ covered context s)
nothing-after = Covered.nothing-after

-- 'Error 5 for U+0001-0008, ..', and what a number means: document 01's lists.
pub characters-listed : (c : ℕ) → character_code c ≡ (if Lists.with_error c then 5 else 0)
characters-listed = Lists.characters

pub meanings_listed : (n : ℕ) → meaning_of n ≡ Lists.meaning_listed n
meanings_listed = Lists.meanings

-- 'Names, 216': the list in standard/specs/NameList.
pub names-counted : length builtin ≡ 216
names-counted = NameTests.count

-- 'The longest table name standing there': a name of the table that stands there is found, and none that stands there is longer.
pub longest-some : (names : List Name) (s : List ℕ) → 0 < (longest names s).len
    → (n : Name) × Memᴰ n names × (stands n.word s ≡ true) × (longest names s ≡ found_as n)
longest-some = Longest.longest-some

pub longest-most : (names : List Name) (s : List ℕ) (n : Name) → Memᴰ n names → stands n.word s ≡ true
    → length n.word ≤ (longest names s).len
longest-most = Longest.longest-most

-- 'Decoded text is never longer than the covered part.' A source of n bytes has at most n errors, so the rooms that are asked for suffice.
pub text_short : (context : Context) (s : List ℕ) → length (decode builtin context (covered context s)).text ≤ length (covered context s)
text_short = Covered.text_short

pub errors_few : (context : Context) (s : List ℕ) → length (decode builtin context (covered context s)).errors ≤ length s
errors_few = Covered.errors_few

pub rooms_suffice : (context : Context) (s : List ℕ) → (length (decode builtin context (covered context s)).text ≤ text_room_for (length s))
    × (length (numbers (decode builtin context (covered context s)).errors) ≤ error_room_for (length s))
rooms_suffice = WholeTable.rooms_suffice

-- 'Its length, which is at most six times the input.'
pub escape_six : (mode : Mode) (s : List ℕ) → length (escape mode s) ≤ 6 * length s
escape_six = EscapeBound.escape_six

-- 'The bench program': into rooms of the program's sizes `report` writes the report of its input, and gives its length; into smaller ones nothing.
module _ {input out errors : List ℕ} {r : ℕ} {out' errors' : List ℕ} (call : Reporting input out errors r out' errors') where
  pub report_written : report_room ≤ length out → numbers_room ≤ length errors
      → (r ≡ length (report_of input)) × (out' ≡ sets out 0 (report_of input)) × (errors' ≡ sets errors 0 (numbers (errors_of input)))
  report_written = ReportCalls.rooms_enough (reporting_so call)

  pub report_unwritten : (length out < report_room) ⊎ (length errors < numbers_room) → (r ≡ 0) × (out' ≡ out) × (errors' ≡ errors)
  report_unwritten = ReportCalls.rooms_short (reporting_so call)

-- 'Input `T` LF `&notit;x` writes exactly `¬it;x`, `2 0`, `end 8`, each with LF.'
pub bench_example : report_of (bytes "T\n&notit;x") ≡ bytes "¬it;x\n2 0\nend 8\n"
bench_example = ReportExamples.bench_example

-- M1 to M14 as the program writes them; starts, ends and refusals; and a source one byte too long.
pub program_examples : Hold ReportExamples.marked_inputs × Hold ReportExamples.starts
program_examples = ReportExamples.examples

pub long_example : report_of (bytes "T\n" ++ ReportExamples.letters 4097) ≡ bytes "too long\n"
long_example = ReportExamples.long_example

-- No report is longer than the program's room for it, and none is empty; and it is that of the first 4,099 bytes, which the program reads.
pub report-fits : (input : List ℕ) → length (report_of input) ≤ report_room
report-fits = ReportBound.report_bound

pub report-some : (input : List ℕ) → 0 < length (report_of input)
report-some = ReportBound.report-some

pub reads_enough : (input : List ℕ) → report_of (take 4099 input) ≡ report_of input
reads_enough = LongInputs.report-front

-- A number's digits say the number, and only that of 0 begins with a zero.
pub decimal-says : (n : ℕ) → number 10 (decimal n) ≡ n
decimal-says = Decimals.decimal-says

pub no_zero_in_front : (n : ℕ) → 0 < n → code "0" < get_or (decimal n) 0 0
no_zero_in_front = Decimals.no_zero_in_front
