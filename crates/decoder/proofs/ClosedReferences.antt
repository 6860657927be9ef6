-- A reference that ends in its own `;`: its bytes through the walk with nothing held are read as a piece.
use Rattle.std.specs.Prelude.{if◌then◌else◌}
use Prim.Native.Nat.{ℕ, suc, ◌+◌, ◌-◌, ◌*◌, ◌≤◌, ◌<◌}
use Prim.Native.Char.{code}
use mathlib.Core.Path.{◌≡◌, refl, sym, ◌∙◌, ap, ap₂, subst}
use mathlib.Core.List.{List, [], ◌∷◌, ◌++◌}
use mathlib.Core.Bool.{Bool, true, false, not}
use native.Mathlib.Omega.{arith}
use lib.Dec.{eqb}
use lib.ListN.{length, get_or, length-append, drop_of_length-le}
use borrow.Author.Tests.{le-ltb}
use Rattle.lists.proofs.Choice.{if_both}
use Rattle.lists.proofs.Every.{All}
use Rattle.standard.specs.declared.Context.{Context}
use Rattle.standard.specs.Utf8.{read_char}
use Rattle.standard.specs.Answers.{done}
use Rattle.standard.specs.Names.{longest, begins}
use Rattle.standard.specs.Numbers.{digit_of}
use Rattle.standard.specs.NameList.{builtin}
use Rattle.standard.specs.Pieces as standard
use Rattle.standard.specs.Pieces.{piece_at}
use Rattle.standard.specs.Reading.{calls_for, Reading, reading_at, ◌⊕◌}
use Rattle.standard.proofs.Ascii.{read-ascii}
use Rattle.standard.proofs.Bounds.{reading-fits}
use Rattle.standard.proofs.Narrow.{builtin_narrow}
use Rattle.standard.proofs.Joining.{⊕-assoc, ⊕-none}
use Rattle.decoder.specs.Machine.{
  St,
  Data,
  AfterCr,
  Begin,
  Octothorpe,
  HexBegin,
  Numeric,
  Named,
  BogusName,
  Step,
  nothing,
  step_data,
  step_bogus,
  settle,
  step_named,
  step,
}
use Rattle.decoder.specs.Stream.{At, at_by, Walked, stops_at, onward, walk, called_for, Move, move_by, last_of}
use Rattle.decoder.proofs.Room.{room-so}
use Rattle.decoder.proofs.Bytes.{go}
use Rattle.decoder.proofs.Looks.{ascii}
use Rattle.decoder.proofs.Means.{Valid, Mean}
use Rattle.decoder.proofs.Simulates.{Ok, step_ok}
use Rattle.decoder.proofs.Tidy.{builtin_tidy}
use Rattle.decoder.proofs.Unfolding.{read_from, read_nothing, read_piece}

-- After a `;` nothing is held.
semicolon_data : (context : Context) (st : St) (p : ℕ) (own : List ℕ) → Valid p st → (step builtin context st p (code ";") own).next ≡ Data
unfolding step step_data step_bogus step_named settle digit_of Valid
semicolon_data context Data p own v = refl
semicolon_data context AfterCr p own v = refl
semicolon_data context (Begin q) p own v = refl
semicolon_data context (Octothorpe q) p own v = refl
semicolon_data context (HexBegin q letter) p own v = refl
semicolon_data context (Numeric q intro base value) p own v = rw (le-ltb 16 base v)
semicolon_data context (Named q held) p own v =
    if_both (λ (s : Step). s.next ≡ Data) (begins builtin (held ++ own)) _ _ (λ t. refl)
    (λ f. if_both (λ (s : Step). s.next ≡ Data) (eqb (longest builtin held).len 0) _ _ (λ t. refl) (λ f. refl))
semicolon_data context (BogusName q) p own v = refl

-- A byte of a reference: ASCII, and it stops no reading.
abbrev pub Passes : Context → ℕ → Type 0
Passes context b = (b < 0x80) × (calls_for context b ≡ done)

-- Such bytes from a state on: what they give, and the state after them, which owes the rest.
record Ran (context : Context) (st : St) (p : ℕ) (q : List ℕ) : Type 0 where
  gives : Reading
  next : St
  went : go builtin context (at_by st [] p) q ≡ stops_at done gives (at_by next [] (p + length q))
  means : Mean builtin context st p q ≡ gives ⊕ Mean builtin context next (p + length q) []
  none : length q ≡ 0 → next ≡ st
  last : 0 < length q → get_or q (length q - 1) 0 ≡ code ";" → next ≡ Data

ran : (context : Context) (st : St) (p : ℕ) (q : List ℕ) → Valid p st → All (Passes context) q → Ran context st p q
unfolding go
ran context st p [] valid all = record {
  gives = nothing;
  next = st;
  went = ap (λ (n : ℕ). stops_at done nothing (at_by st [] n)) (let i : p ≡ p + 0 = omega arith in i);
  means = ap (λ (n : ℕ). Mean builtin context st n []) (let i : p ≡ p + 0 = omega arith in i);
  none = λ e. refl;
  last = λ some e. absurd (omega arith);
}
ran context st p (b ∷ q) valid all =
    let ok = step_ok builtin context st p builtin_tidy valid (ascii {s = q} all.0.0) in
    go_on ok (ran context (step builtin context st p b (b ∷ [])).next (p + 1) q ok.valid all.1)
  where
    t : Step
    t = step builtin context st p b (b ∷ [])

    go_on : Ok builtin context p (b ∷ q) 1 (Mean builtin context st p (b ∷ q)) (step builtin context st p b (b ∷ []))
        → Ran context (step builtin context st p b (b ∷ [])).next (p + 1) q → Ran context st p (b ∷ q)
    go_on ok later =
        let long : p + 1 + length q ≡ p + suc (length q) = omega arith in record {
          gives = t.gives ⊕ later.gives;
          next = later.next;
          went =
              rw (read-ascii b [] all.0.0, all.0.1)
              (ap (λ (n : ℕ). onward (step builtin context st n b (b ∷ [])).gives
              (go builtin context (at_by (step builtin context st n b (b ∷ [])).next [] (suc p)) q)) (let i : p - 0 ≡ p = omega arith in i)
              ∙ ap (λ (n : ℕ). onward t.gives (go builtin context (at_by t.next [] n) q)) (let i : suc p ≡ p + 1 = omega arith in i)
              ∙ ap (onward t.gives) later.went
              ∙ ap (λ (n : ℕ). stops_at done (t.gives ⊕ later.gives) (at_by later.next [] n)) long);
          means =
              ok.same ∙ ap (λ (x : Reading). t.gives ⊕ x) later.means
              ∙ sym (⊕-assoc t.gives later.gives (Mean builtin context later.next (p + 1 + length q) []))
              ∙ ap (λ (n : ℕ). (t.gives ⊕ later.gives) ⊕ Mean builtin context later.next n []) long;
          none = λ e. absurd (omega arith);
          last = λ some e. ends q later e;
        }
      where
        ends : (q : List ℕ) (later : Ran context (step builtin context st p b (b ∷ [])).next (p + 1) q)
            → get_or (b ∷ q) (suc (length q) - 1) 0 ≡ code ";" → later.next ≡ Data
        ends [] later e =
            later.none refl ∙ ap (λ (x : ℕ). (step builtin context st p x (b ∷ [])).next) e ∙ semicolon_data context st p (b ∷ []) valid
        ends (c ∷ q) later e =
            let n : suc (length (c ∷ q)) - 1 ≡ suc (length (c ∷ q) - 1) = omega arith in
            later.last (omega arith) (ap (λ (k : ℕ). get_or (b ∷ c ∷ q) k 0) (sym n) ∙ e)

-- Where bytes end in `;` they are read as pieces, and nothing is held after them.
go_closed : (context : Context) (p : ℕ) (q : List ℕ) → All (Passes context) q → 0 < length q → get_or q (length q - 1) 0 ≡ code ";"
    → go builtin context (at_by Data [] p) q ≡ stops_at done (read_from builtin context p q) (at_by Data [] (p + length q))
unfolding Valid Mean
go_closed context p q all some e =
    let r = ran context Data p q tt all in
    let nothing-held = r.last some e in
    let same : read_from builtin context p q ≡ r.gives =
    r.means ∙ ap (λ (st : St). r.gives ⊕ Mean builtin context st (p + length q) []) nothing-held
    ∙ ap (λ (x : Reading). r.gives ⊕ x) (read_nothing builtin context (p + length q)) ∙ ⊕-none r.gives in
    r.went ∙ ap₂ (λ (g : Reading) (st : St). stops_at done g (at_by st [] (p + length q))) (sym same) nothing-held

-- A walk with room for all that it gives, and for one byte more, never lacks room.
walk-roomy : (context : Context) (text errors : ℕ) (at : At) (s : List ℕ) {g : Reading} {here : At} → go builtin context at s ≡ stops_at done g here
    → 64 + length g.text ≤ text → 8 + 2 * length g.errors ≤ errors → walk builtin context text errors at s ≡ stops_at done g here
unfolding walk go
walk-roomy context text errors at [] e h k = e
walk-roomy context text errors at (b ∷ s) {g} {here} e h k =
    rw (room-so text errors (omega arith, omega arith))
    (by (eqb (called_for context (read_char own)) done) e
    (λ x y z w. walk-roomy context (text - length m.gives.text) (errors - 2 * length m.gives.errors) m.to s {g = x} y z w))
  where
    own : List ℕ
    own = at.part ++ b ∷ []

    m : Move
    m = move_by builtin context at (read_char own) own

    rest : Walked
    rest = go builtin context m.to s

    walked : Walked
    walked = walk builtin context (text - length m.gives.text) (errors - 2 * length m.gives.errors) m.to s

    taking : Bool → Walked → Walked
    taking taken x =
        if not taken then stops_at (called_for context (read_char own)) (last_of builtin context (called_for context (read_char own)) at.st) at
        else onward m.gives x

    by : (t : Bool) → taking t rest ≡ stops_at done g here
        → ((x : Reading) → rest ≡ stops_at done x here → 64 + length x.text ≤ text - length m.gives.text
        → 8 + 2 * length x.errors ≤ errors - 2 * length m.gives.errors → walked ≡ stops_at done x here)
        → taking t walked ≡ stops_at done g here
    by false e later = e
    by true e later =
        let answered = ap (λ (x : Walked). x.answer) e in
        let stopped = ap (λ (x : Walked). x.stop) e in
        let given : m.gives ⊕ rest.gives ≡ g = ap (λ (x : Walked). x.gives) e in
        let texts = sym (length-append m.gives.text rest.gives.text) ∙ ap (λ (x : Reading). length x.text) given in
        let numbers = sym (length-append m.gives.errors rest.gives.errors) ∙ ap (λ (x : Reading). length x.errors) given in
        ap (onward m.gives)
        (later rest.gives (λ i. stops_at (answered i) rest.gives (stopped i)) (omega (arith, texts)) (omega (arith, numbers)))
        ∙ ap (λ (x : Reading). stops_at done x here) given

-- The bytes of one piece that end in `;`, with nothing held and room for them.
pub walk-closed : (context : Context) (text errors p : ℕ) (q : List ℕ) (x : standard.Piece) → All (Passes context) q → 0 < length q
    → get_or q (length q - 1) 0 ≡ code ";" → piece_at builtin context q ≡ x → x.size ≡ length q → 64 + length q ≤ text → 8 + 2 * length q ≤ errors
    → walk builtin context text errors (at_by Data [] p) q ≡ stops_at done (reading_at p x) (at_by Data [] (p + length q))
walk-closed context text errors p q x all some last is size h k =
    let one : read_from builtin context p q ≡ reading_at p x =
    read_piece builtin context p q x some is
    ∙ ap (λ (l : List ℕ). reading_at p x ⊕ read_from builtin context (p + x.size) l) (drop_of_length-le q
    (let i : length q ≤ x.size = omega arith in i))
    ∙ ap (λ (r : Reading). reading_at p x ⊕ r) (read_nothing builtin context (p + x.size)) ∙ ⊕-none (reading_at p x) in
    let few = reading-fits builtin context q p in
    let short = few.1 builtin_narrow in
    subst (λ (r : Reading). walk builtin context text errors (at_by Data [] p) q ≡ stops_at done r (at_by Data [] (p + length q))) one
    (walk-roomy context text errors (at_by Data [] p) q (go_closed context p q all some last) (omega (arith, short)) (omega (arith, few.0)))
