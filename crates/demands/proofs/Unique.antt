-- Document 01, 'What counts as proved': of each public function, two results that meet its `ensures` on the same arguments are equal.
-- `Reads.Post` is the function's own `ensures`, as the checker reads it from the source.
use Prim.Native.Nat.{ℕ}
use mathlib.Core.Path.{◌≡◌, sym, ◌∙◌}
use mathlib.Core.List.{List}
use contract.Lifetimes.{Lfts}
use denote.Triple.Clauses.{AtExit}
use borrow.Fn.Kinds.{ParamKind, ResultKind, Dens, res_t, ended_of, Out}
use Rattle.decoder.proofs.decode_whole.Kinds as decode-whole-kinds
use Rattle.decoder.proofs.decode_whole.Reads as decode-whole-reads
use Rattle.decoder.proofs.decode_bytes.Kinds as decode-bytes-kinds
use Rattle.decoder.proofs.decode_bytes.Reads as decode-bytes-reads
use Rattle.decoder.proofs.stream.Stream.new.Kinds as new-kinds
use Rattle.decoder.proofs.stream.Stream.new.Reads as new-reads
use Rattle.decoder.proofs.stream.Stream.feed.Kinds as feed-kinds
use Rattle.decoder.proofs.stream.Stream.feed.Reads as feed-reads
use Rattle.decoder.proofs.stream.Stream.end.Kinds as end-kinds
use Rattle.decoder.proofs.stream.Stream.end.Reads as end_reads
use Rattle.escaper.proofs.escape.Kinds as escape-kinds
use Rattle.escaper.proofs.escape.Reads as escape-reads
use Rattle.checker.proofs.check.Kinds as check-kinds
use Rattle.checker.proofs.check.Reads as check-reads
use Rattle.checker.proofs.check_bytes.Kinds as check-bytes-kinds
use Rattle.checker.proofs.check_bytes.Reads as check-bytes-reads
use Rattle.exports.proofs.plankskein_decode.Kinds as plankskein-decode-kinds
use Rattle.exports.proofs.plankskein_decode.Reads as plankskein-decode-reads
use Rattle.exports.proofs.plankskein_escape.Kinds as plankskein-escape-kinds
use Rattle.exports.proofs.plankskein_escape.Reads as plankskein-escape-reads
use Rattle.exports.proofs.plankskein_check.Kinds as plankskein-check-kinds
use Rattle.exports.proofs.plankskein_check.Reads as plankskein-check-reads
use Rattle.reporting.proofs.report.Kinds as report-kinds
use Rattle.reporting.proofs.report.Reads as report-reads
use Rattle.rooms.proofs.copy.Kinds as copy-kinds
use Rattle.rooms.proofs.copy.Reads as copy-reads
use Rattle.rooms.proofs.put_numbers.Kinds as put-numbers-kinds
use Rattle.rooms.proofs.put_numbers.Reads as put-numbers-reads
use Rattle.runs.proofs.ascii_end.Kinds as ascii-end-kinds
use Rattle.runs.proofs.ascii_end.Reads as ascii-end-reads
use Rattle.runs.proofs.ordinary_end.Kinds as ordinary-end-kinds
use Rattle.runs.proofs.ordinary_end.Reads as ordinary-end-reads
use Rattle.runs.proofs.plain_end.Kinds as plain-end-kinds
use Rattle.runs.proofs.plain_end.Reads as plain-end-reads
use Rattle.runs.proofs.quiet_end.Kinds as quiet-end-kinds
use Rattle.runs.proofs.quiet_end.Reads as quiet-end-reads
use Rattle.standard.proofs.characters.read_char.Kinds as read-char-kinds
use Rattle.standard.proofs.characters.read_char.Reads as read-char-reads
use Rattle.standard.proofs.names.longest_name.Kinds as longest-name-kinds
use Rattle.standard.proofs.names.longest_name.Reads as longest-name-reads
use Rattle.standard.proofs.names.begins_name.Kinds as begins-name-kinds
use Rattle.standard.proofs.names.begins_name.Reads as begins-name-reads
use Rattle.standard.proofs.table.builtin_names.Kinds as builtin-names-kinds
use Rattle.standard.proofs.table.builtin_names.Reads as builtin-names-reads
use Rattle.standard.proofs.table.builtin_table.Kinds as builtin-table-kinds
use Rattle.standard.proofs.table.builtin_table.Reads as builtin-table-reads
use Rattle.standard.proofs.records.Records.of.Kinds as records-kinds
use Rattle.standard.proofs.records.Records.of.Reads as records-reads

-- An `ensures` of a function with n lifetimes, parameters ps and result r leaves one result only.
abbrev pub Fixes : (n : ℕ) (ps : List (ParamKind n)) (r : ResultKind n) → Out n ps r → Type 0
Fixes n ps r ensures =
    (κs : Lfts n) (a : Dens κs ps) (x y : (res_t r κs).Denot) (e f : AtExit (ended_of n ps r) κs) → ensures κs a x e → ensures κs a y f → x ≡ y

-- What equals the same is equal.
pub only : {A : Type 0} {x y z : A} → x ≡ z → y ≡ z → x ≡ y
only p q = p ∙ sym q

pub read-char : Fixes 1 read-char-kinds.ps read-char-kinds.r read-char-reads.Post
read-char κs a x y e f p q = only p q

pub longest-name : Fixes 2 longest-name-kinds.ps longest-name-kinds.r longest-name-reads.Post
longest-name κs a x y e f p q = only p q

pub begins-name : Fixes 2 begins-name-kinds.ps begins-name-kinds.r begins-name-reads.Post
begins-name κs a x y e f p q = only p q

pub builtin_names : Fixes 0 builtin-names-kinds.ps builtin-names-kinds.r builtin-names-reads.Post
builtin_names κs a x y e f p q = only p q

-- What is handed back points at bytes, and these are settled.
pub builtin_table : (κs : Lfts 1) (a : Dens κs builtin-table-kinds.ps) (x y : (res_t builtin-table-kinds.r κs).Denot)
    (e f : AtExit (ended_of 1 builtin-table-kinds.ps builtin-table-kinds.r) κs) → builtin-table-reads.Post κs a x e
    → builtin-table-reads.Post κs a y f → x.now ≡ y.now
builtin_table κs a x y e f p q = only p q

pub records : (κs : Lfts 1) (a : Dens κs records-kinds.ps) (x y : (res_t records-kinds.r κs).Denot)
    (e f : AtExit (ended_of 1 records-kinds.ps records-kinds.r) κs) → records-reads.Post κs a x e → records-reads.Post κs a y f
    → x.rest.now ≡ y.rest.now
records κs a x y e f p q = only p q

pub ascii-end : Fixes 1 ascii-end-kinds.ps ascii-end-kinds.r ascii-end-reads.Post
ascii-end κs a x y e f p q = only p q

pub ordinary-end : Fixes 1 ordinary-end-kinds.ps ordinary-end-kinds.r ordinary-end-reads.Post
ordinary-end κs a x y e f p q = only p q

pub plain_end : Fixes 1 plain-end-kinds.ps plain-end-kinds.r plain-end-reads.Post
plain_end κs a x y e f p q = only p q

pub quiet-end : Fixes 1 quiet-end-kinds.ps quiet-end-kinds.r quiet-end-reads.Post
quiet-end κs a x y e f p q = only p q

pub new_stream_lem : Fixes 0 new-kinds.ps new-kinds.r new-reads.Post
new_stream_lem κs a x y e f p q = only p q

pub check : Fixes 4 check-kinds.ps check-kinds.r check-reads.Post
check κs a x y e f p q = only p q

pub check_bytes : Fixes 4 check-bytes-kinds.ps check-bytes-kinds.r check-bytes-reads.Post
check_bytes κs a x y e f p q = only p q

-- An `ensures` of a function with lent buffers leaves one result and, of each buffer, one content: lent picks them out of the parameters at exit.
abbrev pub FixesLent : (n : ℕ) (ps : List (ParamKind n)) (r : ResultKind n) (B : Type 0) → ((κs : Lfts n) → AtExit (ended_of n ps r) κs → B)
    → Out n ps r → Type 0
FixesLent n ps r B lent ensures =
    (κs : Lfts n) (a : Dens κs ps) (x y : (res_t r κs).Denot) (e f : AtExit (ended_of n ps r) κs) → ensures κs a x e → ensures κs a y f
    → (x ≡ y) × (lent κs e ≡ lent κs f)

-- The place after, and the room.
pub copy : FixesLent 2 copy-kinds.ps copy-kinds.r (List ℕ) (λ κs e. e.1.0.now) copy-reads.Post
copy κs a x y e f p q = (only p.next_is q.next_is, only p.new_is q.new_is)

pub put_numbers : FixesLent 2 put-numbers-kinds.ps put-numbers-kinds.r (List ℕ) (λ κs e. e.1.0.now) put-numbers-reads.Post
put_numbers κs a x y e f p q = (only p.next_is q.next_is, only p.new_is q.new_is)

-- The answer, the text room and the error room.
pub decode_whole : FixesLent 3 decode-whole-kinds.ps decode-whole-kinds.r (List ℕ × List ℕ)
    (λ κs e. (e.1.1.0.now, e.1.1.1.0.now)) decode-whole-reads.Post
decode_whole κs a x y e f p q = (
  only p.answered q.answered,
  λ i. (only p.texts q.texts i, only p.numbers_of q.numbers_of i),
)

pub decode_bytes : FixesLent 3 decode-bytes-kinds.ps decode-bytes-kinds.r (List ℕ × List ℕ)
    (λ κs e. (e.1.1.0.now, e.1.1.1.0.now)) decode-bytes-reads.Post
decode_bytes κs a x y e f p q = (
  only p.answered q.answered,
  λ i. (only p.texts q.texts i, only p.numbers_of q.numbers_of i),
)

-- The answer with its record, the text room and the error room: of a chunk, and of the end.
pub feed : FixesLent 3 feed-kinds.ps feed-kinds.r (List ℕ × List ℕ) (λ κs e. (e.1.1.0.now, e.1.1.1.0.now)) feed-reads.Post
feed κs a x y e f p q = (
  only p.answered q.answered,
  λ i. (only p.texts q.texts i, only p.numbers_of q.numbers_of i),
)

pub end : FixesLent 2 end-kinds.ps end-kinds.r (List ℕ × List ℕ) (λ κs e. (e.1.0.now, e.1.1.0.now)) end_reads.Post
end κs a x y e f p q = (
  only p.answered q.answered,
  λ i. (only p.texts q.texts i, only p.numbers_of q.numbers_of i),
)

-- The answer, and the room.
pub escape : FixesLent 2 escape-kinds.ps escape-kinds.r (List ℕ) (λ κs e. e.1.1.0.now) escape-reads.Post
escape κs a x y e f p q = (only p.answered q.answered, only p.texts q.texts)

-- The length of the report, its room and the error room.
pub report : FixesLent 3 report-kinds.ps report-kinds.r (List ℕ × List ℕ) (λ κs e. (e.1.0.now, e.1.1.0.now)) report-reads.Post
report κs a x y e f p q = (
  only p.written.next_is q.written.next_is,
  λ i. (only p.written.new_is q.written.new_is i, only p.numbers_of q.numbers_of i),
)

-- For C: the number returned, each room, and the report.
pub plankskein_decode : FixesLent 4 plankskein-decode-kinds.ps plankskein-decode-kinds.r (List ℕ × List ℕ × List ℕ)
    (λ κs e. (e.1.1.0.now, e.1.1.1.0.now, e.1.1.1.1.0.now)) plankskein-decode-reads.Post
plankskein_decode κs a x y e f p q = (
  only p.answered q.answered,
  λ i. (only p.texts q.texts i, only p.numbers_of q.numbers_of i, only p.reports q.reports i),
)

pub plankskein_escape : FixesLent 3 plankskein-escape-kinds.ps plankskein-escape-kinds.r (List ℕ × List ℕ)
    (λ κs e. (e.1.1.0.now, e.1.1.1.0.now)) plankskein-escape-reads.Post
plankskein_escape κs a x y e f p q = (
  only p.answered q.answered,
  λ i. (only p.texts q.texts i, only p.reports q.reports i),
)

pub plankskein_check : FixesLent 5 plankskein-check-kinds.ps plankskein-check-kinds.r (List ℕ) (λ κs e. e.1.1.1.1.1.0.now)
    plankskein-check-reads.Post
plankskein_check κs a x y e f p q = (only p.answered q.answered, only p.reports q.reports)
