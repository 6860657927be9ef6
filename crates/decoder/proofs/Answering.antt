-- The answers of a whole source: when each is given, and what then meets the contract.
use Rattle.std.specs.Prelude.{if◌then◌else◌}
use Prim.Native.Nat.{ℕ, ◌+◌, ◌*◌, ◌/◌, ◌≤◌, ◌<◌}
use mathlib.Core.Path.{◌≡◌, refl, sym, ◌∙◌, ap, subst}
use mathlib.Core.List.{List, []}
use mathlib.Core.Bool.{true, false, ◌||◌}
use mathlib.Core.Logic.{◌⊎◌, inl, inr, ⊎_elim, ⊎_map}
use native.Mathlib.Nat.{mul-div_cancel_left}
use native.Mathlib.Omega.{arith}
use lib.Dec.{ltb, eqb}
use lib.ListN.{length, take}
use lib.Seq.{sets, length-take-le}
use borrow.Author.Tests.{lt-ltb, le-ltb, eqb-true}
use Rattle.lists.proofs.Choice.{no_way, or_true, below?, test?}
use Rattle.lists.specs.Layings.{Laying}
use Rattle.standard.specs.declared.Context.{Context}
use Rattle.standard.specs.Answers.{done, too_long, context_end, room_asked}
use Rattle.standard.specs.Errors.{numbers}
use Rattle.standard.specs.NameList.{builtin}
use Rattle.standard.specs.Reading.{stop_of, covered, Reading, reading, decode}
use Rattle.decoder.specs.Writing.{WroteBy, unread_of, end_named, ReadCovered}
use Rattle.standard.proofs.Bounds.{text_fits, errors_fit}
use Rattle.standard.proofs.Narrow.{builtin_narrow}
use Rattle.standard.proofs.Joining.{numbers-length}
use Rattle.standard.proofs.Stops.{stop-place, OneOf, stops_with}
use Rattle.decoder.specs.declared.whole.Decoded.{Decoded}
use Rattle.decoder.specs.Whole.{RoomFor, NoRoomFor, decoded, answer_of, written_of, text_named, place_named, decoded_of, DecodesBy}

-- What is written with an answer.
abbrev pub written_with : Context → List ℕ → ℕ → Reading
written_with context s answer =
    if eqb answer done || eqb answer context_end then decode builtin context (covered context s) else reading [] []

-- The answers of a whole source.
abbrev pub OneOfSix : ℕ → Type 0
OneOfSix a = (a ≡ too_long) ⊎ ((a ≡ room_asked) ⊎ OneOf a)

-- A source stops with neither 3 nor 9.
stop-other : {a : ℕ} → OneOf a → (a ≡ too_long → ⊥) × (a ≡ room_asked → ⊥)
stop-other (inl k) = (λ e. omega arith, λ e. omega arith)
stop-other (inr (inl k)) = (λ e. omega arith, λ e. omega arith)
stop-other (inr (inr (inl k))) = (λ e. omega arith, λ e. omega arith)
stop-other (inr (inr (inr k))) = (λ e. omega arith, λ e. omega arith)

-- Rooms of so many bytes and numbers.
module _ (context : Context) (s : List ℕ) (text errors : ℕ) where
  -- 3.
  pub answers_too_long : 65536 < length s → answer_of context s text errors ≡ too_long
  unfolding answer_of
  answers_too_long h = rw (lt-ltb 65536 (length s) h)

  module _ (short : length s ≤ 65536) where
    -- 9.
    pub answers_asked : NoRoomFor s text errors → answer_of context s text errors ≡ room_asked
    unfolding answer_of
    answers_asked h = rw (le-ltb 65536 (length s) short) (go h)
      where
        go : NoRoomFor s text errors → (if ltb text (length s + 64) || ltb errors (2 * length s + 8) then 9 else (stop_of context s).answer) ≡ 9
        go (inl k) = rw (lt-ltb text (length s + 64) k)
        go (inr k) = rw (lt-ltb errors (2 * length s + 8) k) (⊎_elim (λ e. rw e) (λ e. rw e) (test? (ltb text (length s + 64))))

    -- With room, the answer is why the source stops.
    pub stops_so : RoomFor s text errors → answer_of context s text errors ≡ (stop_of context s).answer
    unfolding answer_of
    stops_so room =
        rw (le-ltb 65536 (length s) short, le-ltb text (length s + 64) room.0, le-ltb errors (2 * length s + 8) room.1)

  -- What an answer is given for: 3, 9, and else why the source stops.
  abbrev pub For : ℕ → Type 0
  For a =
      (a ≡ too_long → 65536 < length s) × (a ≡ room_asked → (length s ≤ 65536) × NoRoomFor s text errors)
      × ((a ≡ too_long → ⊥) → (a ≡ room_asked → ⊥) → (length s ≤ 65536) × RoomFor s text errors × ((stop_of context s).answer ≡ a))

  -- What holds of each answer where it is given holds of the answer.
  answer_cases : (P : ℕ → Type 0) → (65536 < length s → P too_long) → (length s ≤ 65536 → NoRoomFor s text errors → P room_asked)
      → (length s ≤ 65536 → RoomFor s text errors → P (stop_of context s).answer) → P (answer_of context s text errors)
  answer_cases P long asked stops = ⊎_elim (λ h. rw (answers_too_long h) (long h)) short (below? 65536 (length s))
    where
      errors_room : length s ≤ 65536 → length s + 64 ≤ text → P (answer_of context s text errors)
      errors_room h k =
          ⊎_elim (λ l. rw (answers_asked h (inr l)) (asked h (inr l))) (λ l. rw (stops_so h (k, l)) (stops h (k, l)))
          (below? errors (2 * length s + 8))

      short : length s ≤ 65536 → P (answer_of context s text errors)
      short h = ⊎_elim (λ k. rw (answers_asked h (inl k)) (asked h (inl k))) (errors_room h) (below? text (length s + 64))

  pub answered_for : For (answer_of context s text errors)
  answered_for =
      let stopped = stop-other (stops_with context s) in
      answer_cases For (λ h. (λ e. h, λ e. absurd (omega arith), λ x y. absurd (x refl)))
      (λ short h. (λ e. absurd (omega arith), λ e. (short, h), λ x y. absurd (y refl)))
      (λ short room. (λ e. absurd (stopped.0 e), λ e. absurd (stopped.1 e), λ x y. (short, room, refl)))

  -- No other answer is given.
  pub one_of_six : OneOfSix (answer_of context s text errors)
  one_of_six = answer_cases OneOfSix (λ h. inl refl) (λ short h. inr (inl refl)) (λ short room. inr (inr (stops_with context s)))

  -- A source with another answer is not too long, has its room, and stops so.
  pub stopped_for : (a : ℕ) → answer_of context s text errors ≡ a → (a ≡ too_long → ⊥) → (a ≡ room_asked → ⊥)
      → (length s ≤ 65536) × RoomFor s text errors × ((stop_of context s).answer ≡ a)
  stopped_for a e x y = (subst For e answered_for).2 x y

-- A source that stops is answered so.
pub unread-stopped : (context : Context) (s : List ℕ) (a place : ℕ) → a ≡ (stop_of context s).answer → place ≡ (stop_of context s).place
    → decoded a 0 0 place
    ≡ decoded a (text_named a s (reading [] [])) 0 (if eqb a too_long || eqb a room_asked then 0 else (stop_of context s).place)
unread-stopped context s a place e p = go (stops_with context s)
  where
    go : OneOf (stop_of context s).answer
        → decoded a 0 0 place
        ≡ decoded a (text_named a s (reading [] [])) 0 (if eqb a too_long || eqb a room_asked then 0 else (stop_of context s).place)
    go (inl k) = rw (e ∙ k, p)
    go (inr (inl k)) = rw (e ∙ k, p)
    go (inr (inr (inl k))) = rw (e ∙ k, p)
    go (inr (inr (inr k))) = rw (e ∙ k, p)

module _ {A : Type 0} {lay : List ℕ → List A} (room : ℕ) (context : Context) (s text : List ℕ) (errors : List A) {r : Decoded} {text' : List ℕ}
    {errors' : List A} where
  -- By the answer's number alone.
  by_answer : (a : ℕ) → answer_of context s (length text) room ≡ a
      → r ≡ decoded a (text_named a s (written_with context s a)) (length (written_with context s a).errors) (place_named a (stop_of context s))
      → text' ≡ sets text 0 (written_with context s a).text → errors' ≡ sets errors 0 (lay (numbers (written_with context s a).errors))
      → DecodesBy lay room context s text errors r text' errors'
  unfolding decoded_of written_of
  by_answer a e answered texts nums = record { answered = answered ∙ rw e; texts = rw e texts; numbers_of = rw e nums }

  -- What meets the contract is what the answer's number says.
  pub answer_says : (a : ℕ) → answer_of context s (length text) room ≡ a → DecodesBy lay room context s text errors r text' errors'
      → (r ≡ decoded a (text_named a s (written_with context s a)) (length (written_with context s a).errors) (place_named a (stop_of context s)))
      × (text' ≡ sets text 0 (written_with context s a).text) × (errors' ≡ sets errors 0 (lay (numbers (written_with context s a).errors)))
  unfolding decoded_of written_of
  answer_says a e d = (d.answered ∙ rw e, d.texts ∙ rw e, d.numbers_of ∙ rw e)

  -- Its number is the answer.
  pub answer_is : DecodesBy lay room context s text errors r text' errors' → r.answer ≡ answer_of context s (length text) room
  unfolding decoded_of
  answer_is d = ap (λ (x : Decoded). x.answer) d.answered

-- From the answer before anything is written.
module _ {A : Type 0} (room : ℕ) (context : Context) (s text : List ℕ) (errors : List A) {stop : Decoded}
    (unread : stop ≡ unread_of context s (length text) room) where
  answers : stop.answer ≡ answer_of context s (length text) room
  answers = ap (λ (x : Decoded). x.answer) unread

  -- Where the source is not readable nothing is written.
  pub whole_unread : {width : ℕ} {lay : List ℕ → List A} → Laying width lay → eqb stop.answer done || eqb stop.answer context_end ≡ false
      → DecodesBy lay room context s text errors stop text errors
  unfolding decoded_of written_of numbers
  whole_unread laid f =
      let g = rw answers at f in
      let e : written_of context s (length text) room ≡ reading [] [] = rw g in
      record {
        answered = unread ∙ rw e (ap (decoded _ _ 0) (named _ (one_of_six context s (length text) room) g));
        texts = rw e;
        numbers_of = rw (e, laid.none);
      }
    where
      named : (a : ℕ) → OneOfSix a → eqb a done || eqb a context_end ≡ false
          → (if eqb a too_long || eqb a room_asked then 0 else (stop_of context s).place) ≡ place_named a (stop_of context s)
      named a (inl e) g = rw e
      named a (inr (inl e)) g = rw e
      named a (inr (inr (inl e))) g = no_way (rw e at g)
      named a (inr (inr (inr (inl e)))) g = rw e
      named a (inr (inr (inr (inr (inl e))))) g = rw e
      named a (inr (inr (inr (inr (inr e))))) g = no_way (rw e at g)

  module _ (reads : eqb stop.answer done || eqb stop.answer context_end ≡ true) where
    -- Its answer is 0 or 7.
    either : (stop.answer ≡ done) ⊎ (stop.answer ≡ context_end)
    either =
        ⊎_map (eqb-true stop.answer done) (eqb-true stop.answer context_end)
        (or_true (eqb stop.answer done) (eqb stop.answer context_end) reads)

    -- It is read up to where it stops.
    stops_there : stop.place ≡ (stop_of context s).place
    stops_there = ap (λ (x : Decoded). x.place) unread ∙ go either
      where
        go : (stop.answer ≡ done) ⊎ (stop.answer ≡ context_end)
            → (if eqb (answer_of context s (length text) room) too_long || eqb (answer_of context s (length text) room) room_asked then 0
            else (stop_of context s).place)
            ≡ (stop_of context s).place
        go (inl e) = rw (sym answers ∙ e)
        go (inr e) = rw (sym answers ∙ e)

    -- That part is there, and has its rooms.
    pub part_fits : (stop.place ≤ length s) × (stop.place ≤ 65536) × (stop.place + 64 ≤ length text) × (2 * stop.place + 8 ≤ room)
    part_fits =
        let stopped = stop-other {a = stop.answer} (⊎_elim (λ e. inl e) (λ e. inr (inr (inr e))) either) in
        let k = stopped_for context s (length text) room stop.answer (sym answers) stopped.0 stopped.1 in
        let h = stop-place context s in
        (omega (arith, stops_there, h), omega (arith, stops_there, h, k), omega (arith, stops_there, h, k), omega (arith, stops_there, h, k))

    -- It was read.
    pub whole_read : {lay : List ℕ → List A} {r : Decoded} {text' : List ℕ} {errors' : List A}
        → ReadCovered lay context (take stop.place s) stop.answer text errors r text' errors'
        → DecodesBy lay room context s text errors r text' errors'
    whole_read {lay} {r} {text'} {errors'} w = go either
      where
        go : (stop.answer ≡ done) ⊎ (stop.answer ≡ context_end) → DecodesBy lay room context s text errors r text' errors'
        go (inl e) = by_answer room context s text errors 0 (sym answers ∙ e) (w.answered ∙ rw (e, stops_there)) (w.texts ∙ rw stops_there)
            (w.numbers_of ∙ rw stops_there)
        go (inr e) = by_answer room context s text errors 7 (sym answers ∙ e)
            (w.answered ∙ rw (e, stops_there, length-take-le _ s (stop-place context s))) (w.texts ∙ rw stops_there)
            (w.numbers_of ∙ rw stops_there)

-- What was written of a covered part says how much it is.
pub reads_of : {A : Type 0} {lay : List ℕ → List A} {context : Context} {s : List ℕ} {answer place w e : ℕ} {text text' : List ℕ}
    {errors errors' : List A}
    → (n : ℕ) → n ≡ length (decode builtin context s).errors → place ≡ end_named answer (length s)
    → WroteBy lay (decode builtin context s) text 0 text' w errors 0 errors' e
    → ReadCovered lay context s answer text errors (decoded answer w n place) text' errors'
reads_of {context = context} {s} {w = w} n is place_is wrote =
    let f : w ≡ length (decode builtin context s).text = omega (arith, wrote.texts.next_is) in
    record { answered = rw (f, is, place_is); texts = wrote.texts.new_is; numbers_of = wrote.numbers_of.new_is }

-- Of a covered source at most 65,536 bytes and errors are written, each error as two numbers.
pub wrote-few : {A : Type 0} {each : ℕ} {lay : List ℕ → List A} → Laying each lay → (context : Context) (s : List ℕ)
    {text text' : List ℕ} {errors errors' : List A} {w e : ℕ} → length s ≤ 65536
    → WroteBy lay (decode builtin context s) text 0 text' w errors 0 errors' e
    → (w ≤ 65536) × (e ≡ each * (2 * length (decode builtin context s).errors)) × (length (decode builtin context s).errors ≤ 65536)
wrote-few {each = each} laid context s h wrote =
    let l = (decode builtin context s).errors in
    let n : length (numbers l) ≡ 2 * length l = omega (arith, numbers-length l) in
    let k = laid.long (numbers l) ∙ ap (λ (m : ℕ). each * m) n in (
      omega (arith, wrote.texts.next_is, text_fits builtin context s builtin_narrow),
      omega (arith, wrote.numbers_of.next_is, k),
      omega (arith, errors_fit builtin context s),
    )

-- Elements that stand for n errors are counted as n: by how many each number takes, and by two numbers each.
pub counted-few : {each taken n e : ℕ} → 0 < each → taken ≡ each → e ≡ each * (2 * n) → e / taken / 2 ≡ n
counted-few {each} {n = n} {e} some same k =
    let d : e / each ≡ 2 * n = ap (λ (m : ℕ). m / each) k ∙ mul-div_cancel_left (2 * n) some in
    ap (λ (m : ℕ). e / m / 2) same ∙ omega (arith, d)
