-- Meeting the pieces of a row, one after the other.
use Rattle.std.specs.Prelude.{Option, Some, None}
use Rattle.std.proofs.lemmas.Option.{none-some}
use Prim.Native.Nat.{ℕ, zero, suc, ◌+◌, ◌-◌, ◌≤◌, ◌<◌}
use Prim.Native.Char.{code}
use mathlib.Core.Path.{◌≡◌, refl, sym, ◌∙◌, ap}
use mathlib.Core.List.{List, [], ◌∷◌}
use mathlib.Core.Bool.{true, false, not, ◌||◌, ◌&&◌}
use native.Mathlib.Omega.{arith}
use lib.Dec.{ltb, eqb}
use lib.ListN.{length, get_or, drop, length-drop}
use lib.Seq.{drop-drop, drop-cons, get_or-drop}
use borrow.Author.Tests.{ltb-true, eqb-true, eq-eqb, not-true}
use Rattle.lists.specs.Notation.{between}
use Rattle.lists.proofs.Choice.{and_true}
use Rattle.standard.specs.declared.Context.{Context}
use Rattle.standard.specs.Classes.{character_code}
use Rattle.standard.specs.Errors.{listed, numbers, placed}
use Rattle.standard.specs.Names.{Name}
use Rattle.standard.specs.Pieces as standard
use Rattle.standard.specs.Reading.{pieces, joined}
use Rattle.standard.proofs.Ascii.{read-ascii, Plain, plain-standing}
use Rattle.standard.proofs.Bounds.{pieces_unfold}
use Rattle.standard.proofs.PieceSize.{piece-size}
use Rattle.standard.proofs.Joining.{numbers-append}
use Rattle.checker.specs.declared.rows.Joint.{Joint}
use Rattle.checker.specs.Transcript.{total, reached}
use Rattle.checker.specs.Spans.{alike, Alike}
use Rattle.checker.specs.Meeting.{met, met_on, Joins, ByteRow}
use Rattle.checker.proofs.Meetings.{met_hit, met-within, met_on-none, met_on-append, stands-number}

-- The pieces of a row: the places after them, their text and their errors.
abbrev joint : ℕ → Option ℕ → Option ℕ → Joint
joint at text errors = record { at = at; text = text; errors = errors }

-- No bytes reach into no pieces.
reached-none : (ps : List standard.Piece) → reached 0 ps ≡ []
unfolding reached
reached-none [] = refl
reached-none (p ∷ ps) = refl

module _ {text errors : List ℕ} where
  -- Where the row is over, all of it was met.
  joins_none : (ps : List standard.Piece) (at : ℕ) (t e : Option ℕ) → Joins ps at 0 text t errors e (joint at t e)
  unfolding total joined numbers
  joins_none ps at t e = record {
    at_is = rw (reached-none ps) (omega arith);
    text_is = rw (reached-none ps) (met_on-none text t);
    errors_is = rw (reached-none ps) (met_on-none errors e);
  }

  -- A piece, and then those after it.
  joins_one : (p : standard.Piece) (ps : List standard.Piece) (at n : ℕ) {t t' e e' : Option ℕ} {r : Joint} → 0 < n → t' ≡ met_on p.text text t
      → e' ≡ met_on (numbers (placed at p.codes)) errors e → Joins ps (at + p.size) (n - p.size) text t' errors e' r
      → Joins (p ∷ ps) at n text t errors e r
  unfolding reached total joined
  joins_one p ps at zero h texts codes rest = absurd (omega arith)
  joins_one p ps at (suc n) {t} {e = e} h texts codes rest =
      let later : List ℕ = numbers (joined (at + p.size) (reached (suc n - p.size) ps)).errors in
      record {
        at_is = omega (arith, rest.at_is);
        text_is =
            rest.text_is
            ∙ rw (texts, met_on-append p.text (joined (at + p.size) (reached (suc n - p.size) ps)).text text t);
        errors_is =
            rest.errors_is
            ∙ rw (
              codes,
              numbers-append (placed at p.codes) (joined (at + p.size) (reached (suc n - p.size) ps)).errors,
              met_on-append (numbers (placed at p.codes)) later errors e,
            );
      }

-- A place that may be none is within.
abbrev pub Inside : List ℕ → Option ℕ → Type 0
Inside l o = (at : ℕ) → o ≡ Some at → at ≤ length l

-- What is met ends within.
inside-on : (values l : List ℕ) (o : Option ℕ) → Inside l o → Inside l (met_on values l o)
inside-on values l None h end e = absurd (none-some end e)
inside-on values l (Some at) h end e = (met-within values l at (h at refl) e).1

-- From at to end the pieces of a row were not met yet; where they are, all of them are.
pub record Walking (names : List Name) (context : Context) (s : List ℕ) (end : ℕ) (text errors : List ℕ) (whole : Joint → Type 0) (at : ℕ)
    (t e : Option ℕ) : Type 0 where
  pub there : at ≤ length s
  pub text_there : Inside text t
  pub errors_there : Inside errors e
  pub rest : (r : Joint) → Joins (pieces names context (drop at s)) at (end - at) text t errors e r → whole r

module _ {names : List Name} {context : Context} {s : List ℕ} {end : ℕ} {text errors : List ℕ} {whole : Joint → Type 0} {at : ℕ} {t e : Option ℕ}
    (w : Walking names context s end text errors whole at t e) where
  -- All of them were.
  pub walked : end ≤ at → whole (joint at t e)
  walked h =
      let none : end - at ≡ 0 = omega arith in
      w.rest (joint at t e) (rw none (joins_none (pieces names context (drop at s)) at t e))

  module _ (inside : at < end) (byte : at < length s) (p : standard.Piece) (is : p ≡ standard.piece_at names context (drop at s)) where
    some_left : 0 < length (drop at s)
    some_left = simp length-drop (omega arith)

    -- The next piece has a byte, and is there.
    pub piece_there : (0 < p.size) × (at + p.size ≤ length s)
    piece_there =
        let size_is : p.size ≡ (standard.piece_at names context (drop at s)).size = ap (λ (q : standard.Piece). q.size) is in
        let k = piece-size names context (drop at s) some_left in
        (omega arith, omega (arith, length-drop at s))

    split : pieces names context (drop at s) ≡ p ∷ pieces names context (drop (at + p.size) s)
    split = pieces_unfold names context (drop at s) some_left ∙ rw (← is, drop-drop p.size at s)

    -- It was met too.
    pub walk_goes_on : {t' e' : Option ℕ} → t' ≡ met_on p.text text t → e' ≡ met_on (numbers (placed at p.codes)) errors e
        → Walking names context s end text errors whole (at + p.size) t' e'
    walk_goes_on {t'} {e'} texts codes = record {
      there = piece_there.1;
      text_there = rw texts (inside-on p.text text t w.text_there);
      errors_there = rw codes (inside-on (numbers (placed at p.codes)) errors e w.errors_there);
      rest = λ r j. w.rest r (rw split (joins_one p (pieces names context (drop (at + p.size) s)) at (end - at) (omega arith) texts codes
          (rw less j)));
    }
      where
        less : end - at - p.size ≡ end - (at + p.size)
        less = omega arith

-- A byte that stands for itself is a piece, with the error of its class.
Lone : ℕ → Type 0
Lone b = (b < 0x80) × (eqb b (code "\r") ≡ false) × (eqb b (code "&") ≡ false)

lone-piece : (names : List Name) (context : Context) (b : ℕ) (s : List ℕ) → Lone b
    → standard.piece 1 (b ∷ []) (listed (character_code b)) ≡ standard.piece_at names context (b ∷ s)
unfolding standard.piece_at Lone
lone-piece names context b s h = rw (h.1, h.2, read-ascii b s h.0)

-- Such a byte is met where the text has it next.
walk_byte : {names : List Name} {context : Context} {s : List ℕ} {end : ℕ} {text errors : List ℕ} {whole : Joint → Type 0} {at t : ℕ}
    {e e' : Option ℕ} → Walking names context s end text errors whole at (Some t) e → at < end → at < length s → Lone (get_or s at 0)
    → t < length text → get_or text t 0 ≡ get_or s at 0
    → e' ≡ met_on (numbers (placed at (listed (character_code (get_or s at 0))))) errors e
    → Walking names context s end text errors whole (at + 1) (Some (t + 1)) e'
walk_byte {names} {context} {s} {text = text} {at = at} {t} w inside byte alone there same codes =
    let b : ℕ = get_or s at 0 in
    let front : standard.piece 1 (b ∷ []) (listed (character_code b)) ≡ standard.piece_at names context (drop at s) =
    rw (drop-cons s at 0 byte) (lone-piece names context b (drop (suc at) s) alone) in
    let next : Some (t + 1) ≡ met (b ∷ []) text t =
    met_hit (b ∷ []) text t (stands-number text t b there ∙ eq-eqb b (get_or text t 0) (sym same)) refl in
    walk_goes_on w inside byte (standard.piece 1 (b ∷ []) (listed (character_code b))) front next codes

-- A row of one such byte.
pub walk-byte-row : {names : List Name} {context : Context} {s : List ℕ} {at n : ℕ} {text : List ℕ} {t m : ℕ} {errors : List ℕ}
    {e k end : ℕ} {whole : Joint → Type 0} → Walking names context s (at + n) text errors whole at (Some t) (Some e) → at < length s
    → ByteRow s at n text t m errors e k end → Walking names context s (at + n) text errors whole (at + 1) (Some (t + 1)) (Some end)
unfolding Lone
walk-byte-row {s = s} {at} w byte p =
    let b : ℕ = get_or s at 0 in
    let u = and_true (ltb b 0x80 && not (eqb b (code "\r"))) (not (eqb b (code "&"))) p.alone in
    let v = and_true (ltb b 0x80) (not (eqb b (code "\r"))) u.0 in
    walk_byte w (omega (arith, p.source_byte)) byte (ltb-true b 0x80 v.0, not-true (eqb b (code "\r")) v.1, not-true (eqb b (code "&")) u.1)
    p.there p.same (sym p.codes)

-- A byte that is alike stands for itself without an error.
alike-plain : (b c : ℕ) → alike b c ≡ true → Plain b × (b ≡ c)
alike-plain b c e =
    let w = and_true (between 0x20 0x7E b && not (eqb b (code "&")) || eqb b 0xA || eqb b 0x9) (eqb b c) e in
    (plain-standing b w.0, eqb-true b c w.1)

-- Bytes that the text has too are met, each as a piece.
pub walk-run : {names : List Name} {context : Context} {s : List ℕ} {end : ℕ} {text errors : List ℕ} {whole : Joint → Type 0} {at t : ℕ}
    {e : Option ℕ} → Walking names context s end text errors whole at (Some t) e → (n : ℕ) → at + n ≤ end → at + n ≤ length s
    → t + n ≤ length text → Alike (drop at s) (drop t text) n → Walking names context s end text errors whole (at + n) (Some (t + n)) e
unfolding placed numbers Lone
walk-run {at = at} {t} w zero h k l same =
    let here : at + 0 ≡ at = omega arith in
    let there : t + 0 ≡ t = omega arith in rw (here, there) w
walk-run {s = s} {text = text} {errors} {at = at} {t} {e} w (suc n) h k l same =
    let rest = walk-run w n (omega arith) (omega arith) (omega arith) (λ i j. same i (omega arith)) in
    let one = rw (get_or-drop at s n 0, get_or-drop t text n 0) at (same n (omega arith)) in
    let alone = alike-plain (get_or s (at + n) 0) (get_or text (t + n) 0) one in
    let plain = alone.0 in
    let here : at + n + 1 ≡ at + suc n = omega arith in
    let there : t + n + 1 ≡ t + suc n = omega arith in
    rw (here, there) at
    (walk_byte {e' = e} rest (omega arith) (omega arith) (plain.0, plain.1, plain.2) (omega arith) (sym alone.1)
    (rw plain.3 (met_on-none errors e)))

-- What is met from a place that is there, and from none.
pub met_from : (values l : List ℕ) {o : Option ℕ} {at : ℕ} {r : Option ℕ} → o ≡ Some at → r ≡ met values l at → r ≡ met_on values l o
met_from values l e is = is ∙ sym (ap (met_on values l) e)

pub met_nowhere : (values l : List ℕ) (o : Option ℕ) {r : Option ℕ} → ((at : ℕ) → o ≡ Some at → ⊥) → r ≡ o → r ≡ met_on values l o
met_nowhere values l None k is = is
met_nowhere values l (Some at) k is = absurd (k at refl)
