-- Document 01, 'decode whole, escape and check are also exported': what a C user relies on.
-- r and what stands with ' are whatever meets the contract of an export: the number returned, and the later contents of what was lent.
use Prim.Native.Nat.{ℕ, ◌*◌, ◌/◌, ◌%◌, ◌≤◌}
use mathlib.Core.Path.{◌≡◌, refl, sym, ◌∙◌, ap}
use mathlib.Core.List.{List, [], ◌∷◌}
use mathlib.Core.Logic.{◌⊎◌, inl, inr, ⊎_elim}
use native.Mathlib.Omega.{arith}
use lib.ListN.{length, drop}
use lib.Seq.{sets}
use Rattle.lists.specs.Bytes.{fours}
use Rattle.lists.proofs.Choice.{same?}
use Rattle.lists.proofs.Layings.{laid-fours}
use Rattle.standard.specs.declared.Context.{Context}
use Rattle.standard.specs.declared.Context.TheVariants.{Text, Attribute}
use Rattle.standard.specs.Answers.{too_long, no_room, room_asked, not_whole}
use Rattle.standard.specs.NameList.{builtin}
use Rattle.standard.proofs.Stops.{OneOf}
use Rattle.decoder.specs.declared.whole.Decoded.{Decoded}
use Rattle.decoder.specs.Whole.{decoded_of, Decodes, DecodesBytes}
use Rattle.escaper.specs.declared.Mode.{Mode}
use Rattle.escaper.specs.declared.Mode.TheVariants as mode
use Rattle.escaper.specs.declared.Escaped.{Escaped}
use Rattle.escaper.specs.Escape.{escape_written, escaped_of, Escapes}
use Rattle.checker.specs.declared.checking.Checked.{Checked}
use Rattle.checker.specs.Transcript.{checked_bytes}
use Rattle.exports.specs.Exports.{Given, untouched, meant, context_of, mode_of, asked, decodes, escapes, checks, Gives}
use Rattle.exports.proofs.Laws.{report-whole, asked-length, asked-text, asked_attribute, asked-other}
use Rattle.demands.proofs.Lines.{Line}
use Rattle.demands.proofs.DecodedBytes.{odd_kept}
use Rattle.demands.proofs.WholeAnswers as whole-answers
use Rattle.demands.proofs.EscapeAnswers as escape_answers
use Rattle.demands.proofs.CheckAnswers as check_answers

-- A report of 16 bytes, and 0 (text) or 1 (attribute).
abbrev pub RightUse : (report : List ℕ) (number : ℕ) → Type 0
RightUse report number = (length report ≡ 16) × ((number ≡ 0) ⊎ (number ≡ 1))

abbrev pub WrongUse : (report : List ℕ) (number : ℕ) → Type 0
WrongUse report number = RightUse report number → ⊥

-- The report holds four numbers, and the first of them is returned.
abbrev pub ReportHolds : (r : ℕ) (report' : List ℕ) (answer second third place : ℕ) → Type 0
ReportHolds r report' answer second third place = (r ≡ answer) × (report' ≡ fours (answer ∷ second ∷ third ∷ place ∷ []))

-- `decode_bytes` answers as `decode_whole` does where the error room has as many numbers, writes the same text, and the same numbers as bytes.
pub decode_as_whole : {d w : Decoded} {text' errors' text'' room' : List ℕ} (context : Context) (source text errors room : List ℕ)
    → length room ≡ length errors / 4 → DecodesBytes context source text errors d text' errors' → Decodes context source text room w text'' room'
    → (d ≡ w) × (text' ≡ text'') × (ns : List ℕ) × (errors' ≡ sets errors 0 (fours ns)) × (room' ≡ sets room 0 ns)
decode_as_whole context source text errors room h x y = let z = rw h at y in (
  x.answered ∙ sym z.answered,
  x.texts ∙ sym z.texts,
  _,
  x.numbers_of,
  z.numbers_of,
)

-- Of each export: 5 is returned exactly where it is used wrongly, since its answers have no 5, and then nothing is touched.
module _ {A : Type 0} (text attribute : A) (number : ℕ) (gives : A → Given) (never : (a : A) → (gives a).returned ≡ no_room → ⊥) where
  abbrev all : List ℕ → Given
  all report = asked report (meant text attribute number) gives

  wrong_use : (report : List ℕ) → WrongUse report number → all report ≡ untouched
  wrong_use report w =
      ⊎_elim (λ h. asked-other report text attribute number gives h (λ e. w (h, inl e)) (λ e. w (h, inr e)))
      (asked-length report text attribute number gives) (same? (length report) 16)

  right_use : (report : List ℕ) → RightUse report number → (all report).returned ≡ no_room → ⊥
  right_use report (h, inl e) = rw (asked-text report text attribute number gives h e) (never text)
  right_use report (h, inr e) = rw (asked_attribute report text attribute number gives h e) (never attribute)

  line_5 : {t e report t' e' report' : List ℕ} {r : ℕ} → Gives (all report) t e report r t' e' report'
      → Line r no_room (WrongUse report number) ((t' ≡ t) × (e' ≡ e) × (report' ≡ report))
  line_5 {report = report} g = record {
    only = λ e u. right_use report u (sym g.answered ∙ e);
    given = λ w. g.answered ∙ rw (wrong_use report w);
    so = λ w. (g.texts ∙ rw (wrong_use report w), g.numbers_of ∙ rw (wrong_use report w), g.reports ∙ rw (wrong_use report w));
  }

-- `plankskein_decode`.
module _ (number : ℕ) (source text errors report : List ℕ) (r : ℕ) (text' errors' report' : List ℕ)
    (g : Gives (asked report (context_of number) (decodes source text errors)) text errors report r text' errors' report') where
  decode_never : (context : Context) → (decodes source text errors context).returned ≡ no_room → ⊥
  unfolding decodes
  decode_never context =
      other (whole-answers.no_other laid-fours (length errors / 4) context source text errors
      (decoded_of context source (length text) (length errors / 4)) _ _ (record { answered = refl; texts = refl; numbers_of = refl }))
    where
      other : {a : ℕ} → (a ≡ too_long) ⊎ ((a ≡ room_asked) ⊎ OneOf a) → a ≡ no_room → ⊥
      other (inl k) e = omega (arith, k, e)
      other (inr (inl k)) e = omega (arith, k, e)
      other (inr (inr (inl k))) e = omega (arith, k, e)
      other (inr (inr (inr (inl k)))) e = omega (arith, k, e)
      other (inr (inr (inr (inr (inl k))))) e = omega (arith, k, e)
      other (inr (inr (inr (inr (inr k))))) e = omega (arith, k, e)

  -- 5 exactly for another report length or context; then nothing is touched.
  pub decode_5 : Line r no_room (WrongUse report number) ((text' ≡ text) × (errors' ≡ errors) × (report' ≡ report))
  decode_5 = line_5 Text Attribute number (decodes source text errors) decode_never g

  -- What `decode_bytes` gives, returned and reported: answer, text bytes, errors, place.
  abbrev pub AsDecode : Context → Type 0
  AsDecode context =
      (d : Decoded) × DecodesBytes context source text errors d text' errors' × ReportHolds r report' d.answer d.text d.errors d.place

  decode_used : (context : Context) → length report ≡ 16
      → asked report (context_of number) (decodes source text errors) ≡ decodes source text errors context → AsDecode context
  unfolding decodes
  decode_used context h e = let w = rw e at g in (
    decoded_of context source (length text) (length errors / 4),
    record { answered = refl; texts = w.texts; numbers_of = w.numbers_of },
    (w.answered, w.reports ∙ report-whole report _ _ _ _ h),
  )

  -- 0 is text and 1 attribute.
  pub decode_text : length report ≡ 16 → number ≡ 0 → AsDecode Text
  decode_text h e = decode_used Text h (asked-text report Text Attribute number (decodes source text errors) h e)

  pub decode_attribute : length report ≡ 16 → number ≡ 1 → AsDecode Attribute
  decode_attribute h e = decode_used Attribute h (asked_attribute report Text Attribute number (decodes source text errors) h e)

  -- 'Odd last bytes of an error room don't count as room': they keep their contents.
  pub odd_bytes : drop (4 * (length errors / 4)) errors' ≡ drop (4 * (length errors / 4)) errors
  odd_bytes = ⊎_elim right_use (λ w. ap (drop (4 * (length errors / 4))) (decode_5.so w).1) use?
    where
      use? : RightUse report number ⊎ WrongUse report number
      use? =
          ⊎_elim (λ h. ⊎_elim (λ e. inl (h, inl e)) (λ a. ⊎_elim (λ e. inl (h, inr e)) (λ b. inr (λ u. ⊎_elim a b u.1)) (same? number 1))
          (same? number 0)) (λ h. inr (λ u. h u.0)) (same? (length report) 16)

      right_use : RightUse report number → drop (4 * (length errors / 4)) errors' ≡ drop (4 * (length errors / 4)) errors
      right_use (h, inl e) = let w = decode_text h e in odd_kept Text source text errors w.0 text' errors' w.1
      right_use (h, inr e) = let w = decode_attribute h e in odd_kept Attribute source text errors w.0 text' errors' w.1

-- `plankskein_escape`.
module _ (number : ℕ) (input out report : List ℕ) (r : ℕ) (out' report' : List ℕ)
    (g : Gives (asked report (mode_of number) (escapes input out)) out [] report r out' [] report') where
  escape_never : (mode : Mode) → (escapes input out mode).returned ≡ no_room → ⊥
  unfolding escapes
  escape_never mode e =
      ⊎_elim (λ k. omega (arith, k, e)) (⊎_elim (λ k. omega (arith, k, e)) (⊎_elim (λ k. omega (arith, k, e)) (λ k. omega (arith, k, e))))
      (escape_answers.no_other mode input out (escaped_of mode input (length out)) (sets out 0 (escape_written mode input (length out)))
      (record { answered = refl; texts = refl }))

  -- 5 exactly for another report length or mode; then nothing is touched.
  pub escape_5 : Line r no_room (WrongUse report number) ((out' ≡ out) × (report' ≡ report))
  escape_5 =
      let l = line_5 mode.Text mode.Attribute number (escapes input out) escape_never g in
      record { only = l.only; given = l.given; so = λ w. ((l.so w).0, (l.so w).2) }

  -- What `escape` gives, returned and reported: answer, text bytes, no errors, place.
  abbrev pub AsEscape : Mode → Type 0
  AsEscape mode = (e : Escaped) × Escapes mode input out e out' × ReportHolds r report' e.answer e.text 0 e.place

  escape_used : (mode : Mode) → length report ≡ 16 → asked report (mode_of number) (escapes input out) ≡ escapes input out mode → AsEscape mode
  unfolding escapes
  escape_used mode h e = let w = rw e at g in (
    escaped_of mode input (length out),
    record { answered = refl; texts = w.texts },
    (w.answered, w.reports ∙ report-whole report _ _ _ _ h),
  )

  -- 0 is text and 1 attribute.
  pub escape_text : length report ≡ 16 → number ≡ 0 → AsEscape mode.Text
  escape_text h e = escape_used mode.Text h (asked-text report mode.Text mode.Attribute number (escapes input out) h e)

  pub escape_attribute : length report ≡ 16 → number ≡ 1 → AsEscape mode.Attribute
  escape_attribute h e = escape_used mode.Attribute h (asked_attribute report mode.Text mode.Attribute number (escapes input out) h e)

-- `plankskein_check`.
module _ (number : ℕ) (source rows text errors report : List ℕ) (r : ℕ) (report' : List ℕ)
    (g : Gives (asked report (context_of number) (checks source rows text errors)) [] [] report r [] [] report') where
  -- The answer of `check_bytes`.
  abbrev pub answer : Context → Checked
  answer context = checked_bytes builtin context source rows text errors

  -- An answer of the table, and no 5.
  check_answer : (context : Context) → check_answers.Answer (answer context).answer
  check_answer context = check_answers.bytes_no_other context source rows text errors (answer context) refl

  check_never : (context : Context) → (checks source rows text errors context).returned ≡ no_room → ⊥
  unfolding checks
  check_never context = other (check_answer context)
    where
      other : {a : ℕ} → check_answers.Answer a → a ≡ no_room → ⊥
      other (inl k) e = omega (arith, k, e)
      other (inr (inl k)) e = omega (arith, k, e)
      other (inr (inr (inl k))) e = omega (arith, k, e)
      other (inr (inr (inr (inl k)))) e = omega (arith, k, e)
      other (inr (inr (inr (inr k)))) e = omega (arith, k, e)

  -- 5 exactly for another report length or context; then nothing is touched.
  pub check_5 : Line r no_room (WrongUse report number) (report' ≡ report)
  check_5 =
      let l = line_5 Text Attribute number (checks source rows text errors) check_never g in
      record { only = l.only; given = l.given; so = λ w. (l.so w).2 }

  -- What `check_bytes` gives, returned and reported: answer, verdict, row, place.
  abbrev pub AsCheck : Context → Type 0
  AsCheck context = (c : Checked) × (c ≡ answer context) × ReportHolds r report' c.answer c.verdict c.row c.place

  check_used : (context : Context) → length report ≡ 16
      → asked report (context_of number) (checks source rows text errors) ≡ checks source rows text errors context → AsCheck context
  unfolding checks
  check_used context h e = let w = rw e at g in (answer context, refl, (w.answered, w.reports ∙ report-whole report _ _ _ _ h))

  -- 0 is text and 1 attribute.
  pub check_text : length report ≡ 16 → number ≡ 0 → AsCheck Text
  check_text h e = check_used Text h (asked-text report Text Attribute number (checks source rows text errors) h e)

  pub check_attribute : length report ≡ 16 → number ≡ 1 → AsCheck Attribute
  check_attribute h e = check_used Attribute h (asked_attribute report Text Attribute number (checks source rows text errors) h e)

  -- 'Rows or errors whose bytes aren't whole numbers are 10.'
  pub check_10 : RightUse report number → length source ≤ 65536 → ((length rows % 4 ≡ 0) × (length errors % 4 ≡ 0) → ⊥)
      → ReportHolds r report' not_whole 0 0 0
  check_10 u short odd = ⊎_elim (λ e. ten Text (check_text u.0 e)) (λ e. ten Attribute (check_attribute u.0 e)) u.1
    where
      ten : (context : Context) → AsCheck context → ReportHolds r report' not_whole 0 0 0
      ten context w = rw (check_answers.bytes_10 context source rows text errors w.0 w.1 short odd) at w.2
