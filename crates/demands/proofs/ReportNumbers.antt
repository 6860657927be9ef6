-- Document 01, 'numbers in slices are four bytes, little-endian': four bytes say each number that the exports report, and each of the errors that are
-- written, since it is below 2^32.
use Prim.Native.Nat.{ℕ, ◌+◌, ◌*◌, ◌/◌, ◌%◌, ◌≤◌, ◌<◌}
use mathlib.Core.Path.{◌≡◌, refl, ◌∙◌, ap}
use mathlib.Core.List.{List, [], ◌∷◌}
use mathlib.Core.Logic.{◌⊎◌, inl, inr}
use native.Mathlib.Omega.{arith}
use lib.ListN.{length, take, length-append, length-take}
use lib.Seq.{sets}
use Rattle.lists.specs.Bytes.{word32, four_bytes, fours, words}
use Rattle.lists.proofs.Every.{All}
use Rattle.lists.proofs.Puts.{take-written}
use Rattle.lists.proofs.Layings.{laid-fours}
use Rattle.standard.specs.declared.Context.{Context}
use Rattle.standard.specs.Answers.{done, ill_formed, nul, too_long, context_end, room_asked, not_whole}
use Rattle.standard.specs.Errors.{Error, numbers}
use Rattle.standard.specs.NameList.{builtin}
use Rattle.standard.specs.Reading.{stop_of, covered, pieces, decode}
use Rattle.standard.proofs.Joining.{numbers-length}
use Rattle.standard.proofs.Stops.{stop-within, stop-place}
use Rattle.decoder.specs.declared.whole.Decoded.{Decoded}
use Rattle.decoder.specs.Whole.{DecodesBytes}
use Rattle.escaper.specs.declared.Mode.{Mode}
use Rattle.escaper.specs.declared.Escaped.{Escaped}
use Rattle.escaper.specs.Escape.{escaped, Escapes}
use Rattle.checker.specs.declared.checking.Checked.{Checked}
use Rattle.checker.specs.Transcript.{
  Row,
  rows_of,
  Left,
  left,
  right,
  remains,
  Verdict,
  verdict,
  judge,
  verdict_on,
  checked,
  checked_of,
  checked_bytes,
}
use Rattle.checker.proofs.RowLaws.{pieces-total}
use Rattle.standard.proofs.Codes.{Placed, errors-placed}
use Rattle.demands.proofs.RightRows.{Cuts, none, first}
use Rattle.demands.proofs.Reaching.{Sized, pieces-sized, total-least}
use Rattle.demands.proofs.Judging.{wrong-between, RowsAre, good, first_wrong, remaining, row_named, judge-says, some-verdict}
use Rattle.demands.proofs.Laws.{text_short, errors_few, escape_six}
use Rattle.demands.proofs.DecodedBytes.{Did, refused, read, did}
use Rattle.demands.proofs.Exports.{ReportHolds}
use Rattle.demands.proofs.WholeAnswers as whole-answers
use Rattle.demands.proofs.EscapeAnswers as escape_answers
use Rattle.demands.proofs.CheckAnswers as check_answers

-- A number that fits into four bytes.
abbrev pub Small : ℕ → Type 0
Small n = n < 4294967296

-- A number's digits to the base 256 say it.
digits_say : (n p q t : ℕ) → p ≡ n / 256 → q ≡ p / 256 → t ≡ q / 256 → t < 256
    → n % 256 + 256 * (p % 256) + 65536 * (q % 256) + 16777216 * (t % 256) ≡ n
digits_say n p q t a b c h = omega (arith, a, b, c, h)

word-says : (n : ℕ) → Small n → word32 (four_bytes n) 0 ≡ n
word-says n h =
    let second : n / 65536 ≡ n / 256 / 256 = omega arith in
    let third : n / 16777216 ≡ n / 65536 / 256 = omega arith in
    digits_say n (n / 256) (n / 65536) (n / 16777216) refl second third (omega (arith, h))

-- Its four bytes say it.
pub fours_say : (ns : List ℕ) → All Small ns → words (fours ns) ≡ ns
unfolding words fours
fours_say [] s = refl
fours_say (n ∷ ns) s = rw (fours_say ns s.1) (ap (λ (k : ℕ). k ∷ ns) (word-says n s.0))

-- So a report of such numbers is read back.
pub report-read : {r : ℕ} {report' : List ℕ} (answer second third place : ℕ) → ReportHolds r report' answer second third place
    → All Small (answer ∷ second ∷ third ∷ place ∷ []) → words report' ≡ answer ∷ second ∷ third ∷ place ∷ []
report-read answer second third place w s = rw w.1 (fours_say (answer ∷ second ∷ third ∷ place ∷ []) s)

-- The four numbers of an answer of `decode_bytes` are small.
pub decode-small : {d : Decoded} {text' errors' : List ℕ} (context : Context) (source text errors : List ℕ)
    → DecodesBytes context source text errors d text' errors' → All Small (d.answer ∷ d.text ∷ d.errors ∷ d.place ∷ [])
decode-small {d} {text'} {errors'} context source text errors w = by (did context source text errors d text' errors' w)
  where
    by : Did context source text errors d text' errors' → All Small (d.answer ∷ d.text ∷ d.errors ∷ d.place ∷ [])
    by (refused answer asked place is a b c kept) = rw is (omega (arith, a), (omega (arith, b), (omega arith, (omega (arith, c), tt))))
    by (read answer place is a b short roomy written) =
        let few = errors_few context source in
        let text_few = text_short context source in
        rw is (
          omega (arith, a),
          (
            omega (arith, short, text_few, length-take (stop_of context source).place source),
            (omega (arith, short, few), (omega (arith, b), tt)),
          ),
        )

-- So are the numbers of errors whose places are in a source.
numbers-small : (end : ℕ) (errors : List Error) → end ≤ 65536 → All (Placed end) errors → All Small (numbers errors)
unfolding numbers
numbers-small end [] h all = tt
numbers-small end (e ∷ errors) h all = (omega (arith, all.0.0), (omega (arith, h, all.0.1), numbers-small end errors h all.1))

-- Errors that were written are read back.
pub written_read : (context : Context) (source errors : List ℕ) (count : ℕ) (errors' : List ℕ) → length source ≤ 65536
    → 2 * length source + 8 ≤ length errors / 4 → count ≡ length (decode builtin context (covered context source)).errors
    → errors' ≡ sets errors 0 (fours (numbers (decode builtin context (covered context source)).errors))
    → words (take (8 * count) errors') ≡ numbers (decode builtin context (covered context source)).errors
written_read context source errors count errors' short roomy is written =
    let part = covered context source in
    let all = (decode builtin context part).errors in
    let near = length-take (stop_of context source).place source in
    let long : length (fours (numbers all)) ≡ 8 * count = omega (arith, laid-fours.long (numbers all), numbers-length all, is) in
    let front =
    ap (take (8 * count)) written
    ∙ take-written errors (fours (numbers all)) (8 * count) long (omega (arith, long, is, roomy, errors_few context source)) in
    ap words front ∙ fours_say (numbers all) (numbers-small (length part) all (omega (arith, near, short)) (errors-placed builtin context part))

-- With 0 and 7 the errors that `decode_bytes` wrote are read back: as many as its answer says, and they are the standard's.
pub errors-read : {d : Decoded} {text' errors' : List ℕ} (context : Context) (source text errors : List ℕ)
    → DecodesBytes context source text errors d text' errors' → (d.answer ≡ done) ⊎ (d.answer ≡ context_end)
    → words (take (8 * d.errors) errors') ≡ numbers (decode builtin context (covered context source)).errors
errors-read {d} {text'} {errors'} context source text errors w (inl e) =
    let l = whole-answers.line_0 laid-fours (length errors / 4) context source text errors d text' errors' w in
    let c = l.only e in
    written_read context source errors d.errors errors' c.0 c.1.1 (ap (λ (x : Decoded). x.errors) (l.so c).0) (l.so c).2
errors-read {d} {text'} {errors'} context source text errors w (inr e) =
    let l = whole-answers.line_7 laid-fours (length errors / 4) context source text errors d text' errors' w in
    let c = l.only e in
    written_read context source errors d.errors errors' c.0 c.1.1 (ap (λ (x : Decoded). x.errors) (l.so c).0) (l.so c).2

-- Rows that cut are no more than the pieces.
cuts_few : {l m : Left} {rows : List Row} → Cuts l rows m → length rows ≤ length l.pieces
cuts_few none = omega arith
cuts_few {l} (first {m = m} x c) =
    omega (arith, cuts_few c, x.ending.some, ap length x.ending.cut ∙ length-append x.next m.pieces)

-- A verdict is at most 5, and names a row that is not past the pieces.
verdict_small : (l : Left) (rows : List Row) → Sized l.pieces → ((judge 0 l rows).reason ≤ remains) × ((judge 0 l rows).at_row ≤ length l.pieces)
verdict_small l rows sized = let v = some-verdict l rows sized in rw (judge-says l rows sized v.1) (by v.1)
  where
    by : {reason : ℕ} (j : RowsAre l rows reason) → (reason ≤ remains) × (row_named j ≤ length l.pieces)
    by (good g) = (omega arith, omega arith)
    by (remaining g) = (omega arith, cuts_few g.cuts)
    by (first_wrong w) = (omega (arith, (wrong-between w.wrong).1), cuts_few w.cuts)

-- Those of an answer of `escape`, and no errors.
pub escape_small : {e : Escaped} {out' : List ℕ} (mode : Mode) (input out : List ℕ) → Escapes mode input out e out'
    → All Small (e.answer ∷ e.text ∷ 0 ∷ e.place ∷ [])
escape_small {e} {out'} mode input out w = go (escape_answers.no_other mode input out e out' w)
  where
    given : {answer text place : ℕ} → e ≡ escaped answer text place → Small answer → Small text → Small place
        → All Small (e.answer ∷ e.text ∷ 0 ∷ e.place ∷ [])
    given x a b p = rw x (a, (b, (omega arith, (p, tt))))

    go : (e.answer ≡ too_long) ⊎ ((e.answer ≡ ill_formed) ⊎ ((e.answer ≡ room_asked) ⊎ (e.answer ≡ done)))
        → All Small (e.answer ∷ e.text ∷ 0 ∷ e.place ∷ [])
    go (inl x) = let l = escape_answers.line_3 mode input out e out' w in given (l.so (l.only x)).0 (omega arith) (omega arith) (omega arith)
    go (inr (inl x)) =
        let l = escape_answers.line_1 mode input out e out' w in
        given (l.so (l.only x)).0 (omega arith) (omega arith) (omega (arith, (l.only x).0, (stop-within (λ c. done) 0 0 input).0))
    go (inr (inr (inl x))) =
        let l = escape_answers.line_9 mode input out e out' w in
        given (l.so (l.only x)).0 (omega arith) (omega (arith, (l.only x).0.0, escape_six mode input)) (omega arith)
    go (inr (inr (inr x))) =
        let l = escape_answers.line_0 mode input out e out' w in
        given (l.so (l.only x)).0 (omega arith) (omega (arith, (l.only x).0.0, escape_six mode input)) (omega arith)

-- Those of an answer of `check_bytes`.
pub check-small : {c : Checked} (context : Context) (source rows text errors : List ℕ) → c ≡ checked_bytes builtin context source rows text errors
    → All Small (c.answer ∷ c.verdict ∷ c.row ∷ c.place ∷ [])
check-small {c} context source rows text errors is =
    check_answers.by_bytes context source rows text errors c is _
    (λ h. refusal too_long 0 (check_answers.bytes_3 context source rows text errors c is h) (omega arith) (omega arith))
    (λ s o. refusal not_whole 0 (check_answers.bytes_10 context source rows text errors c is s o) (omega arith) (omega arith))
    (λ s f. let k = check_answers.bytes_as_words context source rows text errors c is s f in
    looked k (check_answers.no_other context source (words rows) text (words errors) c k))
  where
    given : {answer place : ℕ} (v : Verdict) → c ≡ checked answer v place → Small answer → Small v.reason → Small v.at_row → Small place
        → All Small (c.answer ∷ c.verdict ∷ c.row ∷ c.place ∷ [])
    given v x a b r p = rw x (a, (b, (r, (p, tt))))

    refusal : (answer place : ℕ) → c ≡ checked answer (verdict right 0) place → Small answer → Small place
        → All Small (c.answer ∷ c.verdict ∷ c.row ∷ c.place ∷ [])
    refusal answer place x a p = given (verdict right 0) x a (omega arith) (omega arith) p

    looked : c ≡ checked_of builtin context source (words rows) text (words errors) → check_answers.Answer c.answer
        → All Small (c.answer ∷ c.verdict ∷ c.row ∷ c.place ∷ [])
    looked k (inl x) =
        let l = check_answers.line_3 context source (words rows) text (words errors) c k in
        refusal too_long 0 (l.so (l.only x)) (omega arith) (omega arith)
    looked k (inr (inl x)) =
        let l = check_answers.line_10 context source (words rows) text (words errors) c k in
        refusal not_whole 0 (l.so (l.only x)) (omega arith) (omega arith)
    looked k (inr (inr (inl x))) =
        let l = check_answers.line_1 context source (words rows) text (words errors) c k in
        refusal ill_formed (stop_of context source).place (l.so (l.only x)) (omega arith)
        (omega (arith, (l.only x).0.0, stop-place context source))
    looked k (inr (inr (inr (inl x)))) =
        let l = check_answers.line_2 context source (words rows) text (words errors) c k in
        refusal nul (stop_of context source).place (l.so (l.only x)) (omega arith) (omega (arith, (l.only x).0.0, stop-place context source))
    looked k (inr (inr (inr (inr x)))) =
        let l = check_answers.line_0 context source (words rows) text (words errors) c k in
        let ps = pieces builtin context (covered context source) in
        let small = verdict_small (left 0 ps text (words errors)) (rows_of (words rows)) (pieces-sized builtin context (covered context source)) in
        let few = total-least ps (pieces-sized builtin context (covered context source)) in
        let all = pieces-total builtin context (covered context source) in
        given (verdict_on builtin context (covered context source) (words rows) text (words errors)) (l.so (l.only x)) (omega arith)
        (omega (arith, small.0)) (omega (arith, small.1, few, all, (l.only x).0.0, length-take (stop_of context source).place source))
        (omega arith)
