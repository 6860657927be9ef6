-- The walk over a covered source: what was read so far is written, and with what is still to be read it is the whole reading.
use Prim.Native.Nat.{ℕ, ◌+◌, ◌-◌, ◌*◌, ◌≤◌, ◌<◌}
use mathlib.Core.Path.{◌≡◌, refl, sym, ◌∙◌, ap}
use mathlib.Core.List.{List, []}
use native.Mathlib.Nat.{mul_comm, mul-add, mul-le-mul_left, mul-le-mul_right}
use native.Mathlib.Omega.{arith}
use lib.ListN.{length, take, drop, length-append, length-drop, drop_of_length-le}
use lib.Seq.{drop-drop}
use Rattle.lists.specs.Rooms.{Put}
use Rattle.lists.proofs.Puts.{put_none, put_length, take-written}
use Rattle.lists.specs.Layings.{Laying}
use borrow.Author.Tests.{eq-eqb}
use Rattle.lists.proofs.Choice.{length_none}
use Rattle.standard.specs.declared.Context.{Context}
use Rattle.standard.specs.NameList.{builtin}
use Rattle.standard.specs.Pieces as standard
use Rattle.standard.specs.Pieces.{piece_at}
use Rattle.standard.specs.Reading.{pieces_from, pieces, Reading, reading, reading_at, ◌⊕◌, joined, decode}
use Rattle.standard.specs.Errors.{numbers}
use Rattle.standard.proofs.Ascii.{joined-run}
use Rattle.standard.proofs.Bounds.{pieces_unfold, text_fits, errors_fit}
use Rattle.standard.proofs.Joining.{numbers-length, ⊕-assoc, ⊕-none}
use Rattle.standard.proofs.Narrow.{builtin_narrow}
use Rattle.standard.proofs.PieceSize.{piece-size}
use Rattle.standard.proofs.Skips.{rest_from}
use Rattle.decoder.specs.declared.pieces.Piece.{Piece}
use Rattle.decoder.specs.Pieces.{piece_of}
use Rattle.standard.specs.Contexts.{end_byte}
use Rattle.runs.specs.Kinds.{plain}
use Rattle.decoder.specs.Skims.{PlainRun}
use Rattle.decoder.specs.Writing.{WroteBy, Wrote, read_from, Advances}
use Rattle.decoder.proofs.Plain.{plain-is}
use Rattle.decoder.proofs.Writing.{by_none, by_join, wrote_text, wrote-join}

-- A piece that is read at at.
module _ (context : Context) (s : List ℕ) (at : ℕ) (q : Piece)
    (q-is : piece_of q ≡ piece_at builtin context (take (length s - at) (drop at s))) (more : at < length s) where
  piece_is : piece_of q ≡ piece_at builtin context (drop at s)
  piece_is = q-is ∙ rw (rest_from s at)

  left : 0 < length (drop at s)
  left = simp length-drop (omega arith)

  -- It has a byte, and ends within the source.
  pub piece_there : (0 < q.size) × (at + q.size ≤ length s)
  piece_there =
      let size = ap (λ (x : standard.Piece). x.size) piece_is in
      let some = piece-size builtin context (drop at s) left in
      (omega arith, omega (arith, length-drop at s))

  -- What is read from at on is the piece, and what is read after it.
  piece_splits : read_from context s at ≡ reading_at at (piece_of q) ⊕ read_from context s (at + q.size)
  unfolding joined
  piece_splits =
      rw (pieces_unfold builtin context (drop at s) left, drop-drop (piece_at builtin context (drop at s)).size at s)
      (ap (λ (p : standard.Piece). reading_at at p ⊕ read_from context s (at + p.size)) (sym piece_is))

-- A run of plain bytes that is copied.
module _ {context : Context} {s : List ℕ} {at free end : ℕ} (run : PlainRun context s at free end) {text mid : List ℕ} {w m : ℕ}
    (put : Put text w (take (end - at) (drop at s)) mid m) where
  -- What is read from at on is the run, and what is read after it.
  run_splits : read_from context s at ≡ reading (take (end - at) (drop at s)) [] ⊕ read_from context s end
  run_splits =
      let from = run.from in
      let there = run.there in
      joined-run builtin context (plain (end_byte context)) (plain-is (end_byte context)) (end - at) (drop at s) at (simp length-drop (omega arith))
      run.plains
      ∙ rw (drop-drop (end - at) at s)
      (ap (λ (n : ℕ). reading (take (end - at) (drop at s)) [] ⊕ read_from context s n) (let i : at + (end - at) ≡ end = omega arith in i))

  -- Nothing stands after it.
  pub advances_run : (errors : List ℕ) (e : ℕ) → at < end → Advances context s at end text w mid m errors e errors e
  advances_run errors e onward = record {
    onward = onward;
    there = run.there;
    gives = reading (take (end - at) (drop at s)) [];
    splits = run_splits;
    wrote = wrote_text errors e put;
    few = omega arith;
  }

  -- The piece after it is written.
  pub advances_piece : {errors text' errors' : List ℕ} {e w' e' : ℕ} (q : Piece)
      → piece_of q ≡ piece_at builtin context (take (length s - end) (drop end s)) → end < length s
      → Wrote (reading_at end (piece_of q)) mid m text' w' errors e errors' e' → e' ≤ e + 4
      → Advances context s at (end + q.size) text w text' w' errors e errors' e'
  advances_piece {errors = errors} {e = e} q q-is more wrote few =
      let there = piece_there context s end q q-is more in
      let copied : Reading = reading (take (end - at) (drop at s)) [] in record {
        onward = omega (arith, run.from);
        there = there.1;
        gives = copied ⊕ reading_at end (piece_of q);
        splits = run_splits ∙ ap (λ (r : Reading). copied ⊕ r) (piece_splits context s end q q-is more)
            ∙ sym (⊕-assoc copied (reading_at end (piece_of q)) (read_from context s (end + q.size)));
        wrote = wrote-join (wrote_text errors e put) wrote;
        few = few;
      }

-- The rooms as they were lent, and as they are with at bytes read: text up to w and errors, laid so, up to e are written.
pub record Going {A : Type 0} (lay : List ℕ → List A) (context : Context) (s text₀ : List ℕ) (errors₀ : List A) (at : ℕ) (text : List ℕ) (w : ℕ)
    (errors : List A) (e : ℕ) : Type 0 where
  pub there : at ≤ length s
  pub so_far : Reading
  pub whole : so_far ⊕ read_from context s at ≡ decode builtin context s
  pub wrote : WroteBy lay so_far text₀ 0 text w errors₀ 0 errors e

module _ {A : Type 0} {width : ℕ} {lay : List ℕ → List A} (laid : Laying width lay) {context : Context} {s text₀ : List ℕ} {errors₀ : List A} where
  -- Nothing is read yet.
  pub going_start : Going lay context s text₀ errors₀ 0 text₀ 0 errors₀ 0
  going_start = record { there = omega arith; so_far = reading [] []; whole = refl; wrote = by_none laid text₀ 0 errors₀ 0 }

  module _ {at w e : ℕ} {text : List ℕ} {errors : List A} (g : Going lay context s text₀ errors₀ at text w errors e) where
    -- More was read, and is written with its numbers laid so.
    pub going_on : {text' few few' : List ℕ} {errors' : List A} {next w' e' n n' : ℕ} (a : Advances context s at next text w text' w' few n few' n')
        → WroteBy lay a.gives text w text' w' errors e errors' e' → Going lay context s text₀ errors₀ next text' w' errors' e'
    going_on {next = next} a wrote = record {
      there = a.there;
      so_far = g.so_far ⊕ a.gives;
      whole = ⊕-assoc g.so_far a.gives (read_from context s next) ∙ ap (λ (x : Reading). g.so_far ⊕ x) (sym a.splits) ∙ g.whole;
      wrote = by_join laid g.wrote wrote;
    }

    -- Where all is read, the whole is written.
    pub going_end : length s ≤ at → WroteBy lay (decode builtin context s) text₀ 0 text w errors₀ 0 errors e
    unfolding pieces_from joined
    going_end done = rw (sym whole) g.wrote
      where
        whole : g.so_far ≡ decode builtin context s
        whole =
            sym (⊕-none g.so_far) ∙ ap (λ (l : List ℕ). g.so_far ⊕ joined at (pieces builtin context l)) (sym (drop_of_length-le s done))
            ∙ g.whole

    -- What is written so far is within the bounds of the whole, and the rooms are as long as they were.
    pub going_room : (w ≤ length s) × (e ≤ width * (2 * length s)) × (length text ≡ length text₀) × (length errors ≡ length errors₀)
    going_room =
        let t = ap (λ (r : Reading). length r.text) g.whole in
        let n = ap (λ (r : Reading). length r.errors) g.whole in
        let p = g.wrote.texts in
        let q = g.wrote.numbers_of in
        let m : length (numbers g.so_far.errors) ≤ 2 * length s =
        omega (arith, numbers-length g.so_far.errors, simp length-append at n, errors_fit builtin context s) in (
          omega (arith, p.next_is, simp length-append at t, text_fits builtin context s builtin_narrow),
          (let k : length (numbers g.so_far.errors) * width ≤ 2 * length s * width = mul-le-mul_right width m in
              omega (
                arith,
                q.next_is,
                laid.long (numbers g.so_far.errors),
                mul_comm width (length (numbers g.so_far.errors)),
                mul_comm width (2 * length s),
              )),
          put_length p,
          put_length q,
        )

-- The numbers of a piece have room after those of m errors' numbers.
pub room_left : (each m : ℕ) {e n room : ℕ} → e ≤ each * m → each * (m + 8) ≤ room → n ≤ 4 → e + each * n ≤ room
room_left each m {n = n} h k few = omega (arith, h, k, mul-add each m 8, mul-le-mul_left each (let l : n ≤ 8 = omega (arith, few) in l))

-- A reading whose numbers were written into an array, and from there laid so.
pub wrote_through : {A : Type 0} {lay : List ℕ → List A} {r : Reading} {text text' few few' : List ℕ} {errors errors' : List A}
    {w w' n e e' : ℕ} → Wrote r text w text' w' few 0 few' n → n ≤ length few → Put errors e (lay (take n few')) errors' e'
    → WroteBy lay r text w text' w' errors e errors' e'
wrote_through {r = r} {few = few} {n = n} a h p =
    let is : n ≡ length (numbers r.errors) = omega (arith, a.numbers_of.next_is) in
    record {
      texts = a.texts;
      numbers_of = rw (a.numbers_of.new_is, is, take-written few (numbers r.errors) (length (numbers r.errors)) refl (omega arith)) at p;
    }

-- A reading without errors needs no room for their numbers.
pub wrote_nothing : {A : Type 0} {each : ℕ} {lay : List ℕ → List A} (laid : Laying each lay) {r : Reading} {text text' few few' : List ℕ} {w w' n : ℕ}
    → Wrote r text w text' w' few 0 few' n → n ≡ 0 → (errors : List A) (e : ℕ) → WroteBy lay r text w text' w' errors e errors e
wrote_nothing {lay = lay} laid {r} a none errors e =
    record {
      texts = a.texts;
      numbers_of = rw (ap lay (length_none (numbers r.errors) (eq-eqb _ 0 (omega (arith, a.numbers_of.next_is, none)))) ∙ laid.none)
          (put_none errors e);
    }
