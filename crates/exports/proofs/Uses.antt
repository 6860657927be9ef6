-- What the exports return and report, by the definitions: 5 for wrong use, and else the four numbers of an answer.
use Prim.Native.Nat.{ℕ, ◌/◌}
use mathlib.Core.Path.{◌≡◌, refl, sym, ◌∙◌, ap}
use mathlib.Core.List.{List, [], ◌∷◌}
use mathlib.Core.Logic.{inl, inr, ⊎_elim}
use mathlib.Core.Option.{some}
use lib.ListN.{length}
use borrow.Author.Tests.{eq-eqb}
use lib.Seq.{sets}
use Rattle.lists.specs.Bytes.{word32, fours}
use Rattle.lists.proofs.Choice.{same?}
use Rattle.lists.proofs.Every.{All}
use Rattle.lists.proofs.Tables.{◌when◌with◌, Kept}
use Rattle.lists.proofs.TableLaws.{never}
use Rattle.lists.proofs.Ways.{in_bytes, Small}
use Rattle.lists.proofs.WayLaws.{word-says}
use Rattle.standard.specs.declared.Context.{Context}
use Rattle.standard.specs.Answers.{no_room}
use Rattle.standard.specs.NameList.{builtin}
use Rattle.decoder.specs.Whole.{decoded, decoded_of}
use Rattle.decoder.proofs.WholeTable.{DecodesAs, whole_table, whole_small}
use Rattle.escaper.specs.declared.Mode.{Mode}
use Rattle.escaper.specs.declared.Mode.TheVariants as mode
use Rattle.escaper.specs.declared.Escaped.{Escaped}
use Rattle.escaper.specs.Escape.{escaped, escaped_of, Escapes}
use Rattle.escaper.proofs.EscapeTable.{escape_table, escape_small}
use Rattle.checker.specs.Transcript.{verdict, checked, checked_bytes}
use Rattle.checker.proofs.CheckTable.{ChecksAs, check_table}
use Rattle.checker.proofs.Transcripts.{check-small}
use Rattle.exports.specs.Exports.{Given, untouched, meant, context_of, mode_of, asked, decodes, escapes, checks, Gives}
use Rattle.exports.proofs.Report.{RightUse, fields}
use Rattle.exports.proofs.Laws.{report-whole, asked-length, asked-other}

-- 5 is returned exactly for wrong use, and then nothing is touched; else what the report has for the answer is returned.
abbrev pub Called : (number : ℕ) (text errors report : List ℕ) (returned : ℕ) (text' errors' report' : List ℕ) → Type 0
Called number text errors report returned text' errors' report' =
    Kept returned (no_room when (RightUse report number → ⊥) with (text' ≡ text) × (errors' ≡ errors) × (report' ≡ report))
    × (RightUse report number → returned ≡ word32 report' 0)

-- An answer of small numbers is read back from its report, and is returned.
reported-so : {A : Type 0} (make : ℕ → ℕ → ℕ → ℕ → A) (report : List ℕ) {report' : List ℕ} {r : ℕ} (a b c d : ℕ) → length report ≡ 16
    → r ≡ a → report' ≡ sets report 0 (fours (a ∷ b ∷ c ∷ d ∷ [])) → All Small (a ∷ b ∷ c ∷ d ∷ [])
    → (fields make report' ≡ make a b c d) × (r ≡ word32 report' 0)
unfolding fours
reported-so make report a b c d h is e s = rw (e, report-whole report a b c d h, is) (
  λ i. make (word-says a s.0 i) (word-says b s.1.0 i) (word-says c s.1.1.0 i) (word-says d s.1.1.1.0 i),
  sym (word-says a s.0),
)

module _ {A : Type 0} (text attribute : A) (number : ℕ) (gives : A → Given) (report : List ℕ) where
  abbrev all : Given
  all = asked report (meant text attribute number) gives

  -- A number that means something, with a report of the right length, is a right use, and gives what is given for that.
  used : (a : A) → length report ≡ 16 → meant text attribute number ≡ some a → all ≡ gives a
  unfolding asked
  used a h e = rw (eq-eqb (length report) 16 h, e)

  -- A right use means text or attribute.
  means : RightUse report number → (a : A) × (meant text attribute number ≡ some a)
  unfolding meant
  means (h, inl e) = (text, rw e)
  means (h, inr e) = (attribute, rw e)

  -- A wrong one touches nothing.
  unused : (RightUse report number → ⊥) → all ≡ untouched
  unused w =
      ⊎_elim (λ h. asked-other report text attribute number gives h (λ e. w (h, inl e)) (λ e. w (h, inr e)))
      (asked-length report text attribute number gives) (same? (length report) 16)

  -- Where no answer is 5 it is returned exactly for wrong use; and where each answer is returned as it is reported, so it is.
  called : ((a : A) → (gives a).returned ≡ no_room → ⊥) → {t e t' e' report' : List ℕ} {r : ℕ} → Gives all t e report r t' e' report'
      → ((a : A) → length report ≡ 16 → meant text attribute number ≡ some a → r ≡ word32 report' 0) → Called number t e report r t' e' report'
  called no-5 g returned = (
    record {
      only = λ e u. let m = means u in no-5 m.0 (rw (used m.0 u.0 m.1) at (sym g.answered ∙ e));
      given = λ w. g.answered ∙ rw (unused w);
      so = λ w. (g.texts ∙ rw (unused w), g.numbers_of ∙ rw (unused w), g.reports ∙ rw (unused w));
    },
    λ u. let m = means u in returned m.0 u.0 m.1,
  )

-- `plankskein_decode`.
module _ (number : ℕ) (source text errors report : List ℕ) {r : ℕ} {text' errors' report' : List ℕ}
    (g : Gives (asked report (context_of number) (decodes source text errors)) text errors report r text' errors' report') where
  -- What `decode_bytes` gives is reported, and the answer is returned.
  pub decode_used : (context : Context) → length report ≡ 16 → context_of number ≡ some context
      → DecodesAs in_bytes context source text errors (fields decoded report') text' errors' × (r ≡ word32 report' 0)
  unfolding decodes
  decode_used context h m =
      let w = rw (used _ _ number _ report context h m) at g in
      let d = decoded_of context source (length text) (length errors / 4) in
      let so : DecodesAs in_bytes context source text errors d text' errors' =
      record { is = record { answered = refl; texts = w.texts; numbers_of = w.numbers_of } } in
      let k = reported-so decoded report d.answer d.text d.errors d.place h w.answered w.reports (whole_small so) in
      (rw k.0 so, k.1)

  pub decode_called : Called number text errors report r text' errors' report'
  unfolding decodes
  decode_called =
      called _ _ number (decodes source text errors) report
      (λ context. never 5 (whole_table {way = in_bytes} {context = context} {source = source} {text = text} {errors = errors}
      (record { is = record { answered = refl; texts = refl; numbers_of = refl } })) refl) g (λ context h m. (decode_used context h m).1)

-- `plankskein_escape`.
module _ (number : ℕ) (input out report : List ℕ) {r : ℕ} {out' report' : List ℕ}
    (g : Gives (asked report (mode_of number) (escapes input out)) out [] report r out' [] report') where
  -- What `escape` gives is reported, with no errors, and the answer is returned.
  pub escape_used : (mode : Mode) → length report ≡ 16 → mode_of number ≡ some mode
      → Escapes mode input out (fields (λ a t e p. escaped a t p) report') out' × (r ≡ word32 report' 0) × (word32 report' 8 ≡ 0)
  unfolding escapes
  escape_used mode h m =
      let w = rw (used _ _ number _ report mode h m) at g in
      let e = escaped_of mode input (length out) in
      let so : Escapes mode input out e out' = record { answered = refl; texts = w.texts } in
      let k =
      reported-so {A = Escaped × ℕ} (λ a t e p. (escaped a t p, e)) report e.answer e.text 0 e.place h w.answered w.reports
      (escape_small so) in
      (rw (ap (λ (x : Escaped × ℕ). x.0) k.0) so, k.1, ap (λ (x : Escaped × ℕ). x.1) k.0)

  pub escape_no_errors : RightUse report number → word32 report' 8 ≡ 0
  escape_no_errors u = let m = means mode.Text mode.Attribute number (escapes input out) report u in (escape_used m.0 u.0 m.1).2

  pub escape_called : Called number out [] report r out' [] report'
  unfolding escapes
  escape_called =
      called _ _ number (escapes input out) report (λ mode. never 5 (escape_table {out = out} (record { answered = refl; texts = refl })) refl) g
      (λ mode h m. (escape_used mode h m).1)

-- `plankskein_check`.
module _ (number : ℕ) (source rows text errors report : List ℕ) {r : ℕ} {report' : List ℕ}
    (g : Gives (asked report (context_of number) (checks source rows text errors)) [] [] report r [] [] report') where
  -- What `check_bytes` gives is reported, and the answer is returned.
  pub check_used : (context : Context) → length report ≡ 16 → context_of number ≡ some context
      → ChecksAs in_bytes context source rows text errors (fields (λ a v r p. checked a (verdict v r) p) report') × (r ≡ word32 report' 0)
  unfolding checks
  check_used context h m =
      let w = rw (used _ _ number _ report context h m) at g in
      let c = checked_bytes builtin context source rows text errors in
      let so : ChecksAs in_bytes context source rows text errors c = record { is = refl } in
      let k =
      reported-so (λ a v r p. checked a (verdict v r) p) report c.answer c.verdict c.row c.place h w.answered w.reports
      (check-small so) in
      (rw k.0 so, k.1)

  pub check_called : Called number [] [] report r [] [] report'
  unfolding checks
  check_called =
      called _ _ number (checks source rows text errors) report (λ context. never 5 (check_table {way = in_bytes} (record { is = refl })) refl) g
      (λ context h m. (check_used context h m).1)
