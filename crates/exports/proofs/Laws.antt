-- Laws of reports, and of what is given.
use Prim.Native.Nat.{ℕ}
use mathlib.Core.Path.{◌≡◌, refl, ◌∙◌, ap}
use mathlib.Core.List.{List, [], ◌∷◌, ◌++◌, append-nil}
use native.Mathlib.Omega.{arith}
use lib.ListN.{length, drop_of_length-le}
use lib.Seq.{sets}
use borrow.Author.Tests.{eq-eqb, ne_eqb}
use Rattle.lists.specs.Bytes.{fours}
use Rattle.lists.proofs.Puts.{sets-front}
use Rattle.standard.specs.declared.Context.{Context}
use Rattle.standard.specs.declared.Context.TheVariants.{Text, Attribute}
use Rattle.standard.specs.Contexts.{number_of as context_number}
use Rattle.standard.specs.NameList.{builtin}
use Rattle.decoder.specs.declared.whole.Decoded.{Decoded}
use Rattle.decoder.specs.Whole.{DecodesBytes}
use Rattle.escaper.specs.declared.Mode.{Mode}
use Rattle.escaper.specs.declared.Mode.TheVariants as modes
use Rattle.escaper.specs.Escape.{number_of as mode_number}
use Rattle.escaper.specs.declared.Escaped.{Escaped}
use Rattle.escaper.specs.Escape.{Escapes}
use Rattle.checker.specs.declared.checking.Checked.{Checked}
use Rattle.checker.specs.Transcript.{checked_bytes}
use Rattle.exports.specs.Exports.{Given, untouched, meant, context_of, mode_of, asked, decodes, escapes, checks, Gives}

-- A report of the right length is its four numbers and nothing else.
pub report-whole : (report : List ℕ) (a b c d : ℕ) → length report ≡ 16 → sets report 0 (fours (a ∷ b ∷ c ∷ d ∷ [])) ≡ fours (a ∷ b ∷ c ∷ d ∷ [])
unfolding fours
report-whole report a b c d h =
    let numbers = fours (a ∷ b ∷ c ∷ d ∷ []) in
    sets-front report numbers (omega arith) ∙ ap (λ (l : List ℕ). numbers ++ l) (drop_of_length-le report {i = 16} (omega arith)) ∙ append-nil numbers

-- 5 for another report length.
pub asked-length : {A : Type 0} (report : List ℕ) (text attribute : A) (number : ℕ) (gives : A → Given) → (length report ≡ 16 → ⊥)
    → asked report (meant text attribute number) gives ≡ untouched
unfolding asked
asked-length report text attribute number gives h = rw (ne_eqb (length report) 16 h)

-- 0 means text.
pub asked-text : {A : Type 0} (report : List ℕ) (text attribute : A) (number : ℕ) (gives : A → Given) → length report ≡ 16 → number ≡ 0
    → asked report (meant text attribute number) gives ≡ gives text
unfolding asked meant
asked-text report text attribute number gives h e = rw (eq-eqb (length report) 16 h, e)

-- 1 means attribute.
pub asked_attribute : {A : Type 0} (report : List ℕ) (text attribute : A) (number : ℕ) (gives : A → Given) → length report ≡ 16 → number ≡ 1
    → asked report (meant text attribute number) gives ≡ gives attribute
unfolding asked meant
asked_attribute report text attribute number gives h e = rw (eq-eqb (length report) 16 h, e)

-- 5 for any other number.
pub asked-other : {A : Type 0} (report : List ℕ) (text attribute : A) (number : ℕ) (gives : A → Given) → length report ≡ 16 → (number ≡ 0 → ⊥)
    → (number ≡ 1 → ⊥) → asked report (meant text attribute number) gives ≡ untouched
unfolding asked meant
asked-other report text attribute number gives h e f = rw (eq-eqb (length report) 16 h, ne_eqb number 0 e, ne_eqb number 1 f)

-- A context, or a mode, that has the number is meant.
pub asked_context : (report : List ℕ) (context : Context) (number : ℕ) (gives : Context → Given) → length report ≡ 16
    → number ≡ context_number context → asked report (context_of number) gives ≡ gives context
asked_context report Text number gives h e = asked-text report Text Attribute number gives h e
asked_context report Attribute number gives h e = asked_attribute report Text Attribute number gives h e

pub asked_mode : (report : List ℕ) (mode : Mode) (number : ℕ) (gives : Mode → Given) → length report ≡ 16
    → number ≡ mode_number mode → asked report (mode_of number) gives ≡ gives mode
asked_mode report modes.Text number gives h e = asked-text report modes.Text modes.Attribute number gives h e
asked_mode report modes.Attribute number gives h e = asked_attribute report modes.Text modes.Attribute number gives h e

-- What is given for equals.
pub gives_as : {given same : Given} {text errors report text' errors' report' : List ℕ} {r : ℕ} → given ≡ same
    → Gives same text errors report r text' errors' report' → Gives given text errors report r text' errors' report'
gives_as e g = rw e g

-- 5 leaves all as it was.
pub gives-untouched : {given : Given} (text errors report : List ℕ) → given ≡ untouched → Gives given text errors report 5 text errors report
gives-untouched text errors report e = rw e (record { answered = refl; texts = refl; numbers_of = refl; reports = refl })

-- What `decode_bytes` gives, reported.
pub decode-reported : {report report' text' errors' : List ℕ} {d : Decoded} {r : ℕ} (context : Context) (source text errors : List ℕ)
    → DecodesBytes context source text errors d text' errors'
    → (r ≡ d.answer) × (report' ≡ sets report 0 (fours (d.answer ∷ d.text ∷ d.errors ∷ d.place ∷ [])))
    → Gives (decodes source text errors context) text errors report r text' errors' report'
unfolding decodes
decode-reported {report = report} context source text errors g p = record {
  answered = p.0 ∙ ap (λ (x : Decoded). x.answer) g.answered;
  texts = g.texts;
  numbers_of = g.numbers_of;
  reports = p.1 ∙ ap (λ (x : Decoded). sets report 0 (fours (x.answer ∷ x.text ∷ x.errors ∷ x.place ∷ []))) g.answered;
}

-- What `escape` gives, reported.
pub escape-reported : {mode : Mode} {input out out' report report' : List ℕ} {e : Escaped} {r : ℕ} → Escapes mode input out e out'
    → (r ≡ e.answer) × (report' ≡ sets report 0 (fours (e.answer ∷ e.text ∷ 0 ∷ e.place ∷ [])))
    → Gives (escapes input out mode) out [] report r out' [] report'
unfolding escapes
escape-reported {report = report} d p = record {
  answered = p.0 ∙ ap (λ (x : Escaped). x.answer) d.answered;
  texts = d.texts;
  numbers_of = refl;
  reports = p.1 ∙ ap (λ (x : Escaped). sets report 0 (fours (x.answer ∷ x.text ∷ 0 ∷ x.place ∷ []))) d.answered;
}

-- What `check_bytes` gives, reported.
pub check-reported : {report report' : List ℕ} {c : Checked} {r : ℕ} (context : Context) (source rows text errors : List ℕ)
    → c ≡ checked_bytes builtin context source rows text errors
    → (r ≡ c.answer) × (report' ≡ sets report 0 (fours (c.answer ∷ c.verdict ∷ c.row ∷ c.place ∷ [])))
    → Gives (checks source rows text errors context) [] [] report r [] [] report'
unfolding checks
check-reported {report = report} context source rows text errors is p = record {
  answered = p.0 ∙ ap (λ (x : Checked). x.answer) is;
  texts = refl;
  numbers_of = refl;
  reports = p.1 ∙ ap (λ (x : Checked). sets report 0 (fours (x.answer ∷ x.verdict ∷ x.row ∷ x.place ∷ []))) is;
}
