-- The table of answers of whole decoding, by the definitions: when each is given, and what result and rooms then are.
use Rattle.std.specs.Prelude.{if◌then◌else◌}
use Prim.Native.Nat.{ℕ, ◌+◌, ◌*◌, ◌≤◌, ◌<◌}
use mathlib.Core.Path.{◌≡◌, refl, sym, ◌∙◌, ap}
use mathlib.Core.List.{List, [], ◌∷◌}
use mathlib.Core.Bool.{true, ◌||◌}
use mathlib.Core.Logic.{◌⊎◌, inl, inr, ⊎_elim, ⊎_map}
use native.Mathlib.Omega.{arith}
use lib.Dec.{eqb}
use lib.ListN.{length, take, drop}
use lib.Seq.{sets}
use Rattle.lists.proofs.Choice.{below?}
use Rattle.lists.proofs.Every.{All}
use Rattle.lists.proofs.Puts.{take-written}
use Rattle.lists.proofs.Tables.{◌when◌with◌, Table}
use Rattle.lists.proofs.TableLaws.{◌and◌, none, table_by, holds}
use Rattle.standard.proofs.Covered.{covered_length, text_short, errors_few}
use Rattle.standard.proofs.Codes.{Placed, errors-placed}
use Rattle.standard.proofs.Joining.{numbers-length}
use Rattle.lists.proofs.Ways.{Way, width, laid, room, Says, Small}
use Rattle.lists.proofs.WayLaws.{laying, written-says, written_keeps}
use Rattle.standard.specs.declared.Context.{Context}
use Rattle.standard.specs.Answers.{done, ill_formed, nul, too_long, context_end, room_asked}
use Rattle.standard.specs.Errors.{Error, numbers}
use Rattle.standard.specs.NameList.{builtin}
use Rattle.standard.specs.Reading.{stop_of, covered, readable, Reading, reading, decode}
use Rattle.standard.proofs.Stops.{stops_with, stop-place, stop-done}
use Rattle.decoder.specs.declared.whole.Decoded.{Decoded}
use Rattle.decoder.specs.Whole.{text_room_for, error_room_for, RoomFor, NoRoomFor, decoded, answer_of, text_named, place_named, DecodesBy}
use Rattle.decoder.proofs.Answering.{written_with, answers_too_long, answers_asked, stops_so, answer_says, answer_is}

-- The rooms that a source asks for always suffice.
pub rooms_suffice : (context : Context) (s : List ℕ) → (length (decode builtin context (covered context s)).text ≤ text_room_for (length s))
    × (length (numbers (decode builtin context (covered context s)).errors) ≤ error_room_for (length s))
rooms_suffice context s =
    let few = errors_few context s in
    let short = text_short context s in (
      omega (arith, covered_length context s, stop-place context s),
      omega (arith, numbers-length (decode builtin context (covered context s)).errors),
    )

-- The numbers of errors whose places are in a short source are small.
numbers-small : (end : ℕ) (errors : List Error) → end ≤ 65536 → All (Placed end) errors → All Small (numbers errors)
unfolding numbers
numbers-small end [] h all = tt
numbers-small end (e ∷ errors) h all = (omega (arith, all.0.0), (omega (arith, h, all.0.1), numbers-small end errors h all.1))

-- What whole decoding gives, however its error room lays numbers.
pub record DecodesAs (way : Way) (context : Context) (source text errors : List ℕ) (d : Decoded) (text' errors' : List ℕ) : Type 0 where
  pub is : DecodesBy (laid way) (room way errors) context source text errors d text' errors'

module _ {way : Way} {context : Context} {source text errors : List ℕ} {d : Decoded} {text' errors' : List ℕ}
    (so : DecodesAs way context source text errors d text' errors') where
  -- The source is not too long, has its room, and stops with an answer.
  abbrev Stops : ℕ → Type 0
  Stops answer = (length source ≤ 65536) × RoomFor source (length text) (room way errors) × ((stop_of context source).answer ≡ answer)

  -- The result, and rooms that nothing was written to.
  abbrev Refused : (answer asked place : ℕ) → Type 0
  Refused answer asked place = (d ≡ decoded answer asked 0 place) × (text' ≡ text) × (errors' ≡ errors)

  -- The standard's reading of the covered part.
  abbrev whole : Reading
  whole = decode builtin context (covered context source)

  -- The result, and rooms with the reading at their start.
  abbrev Read : (answer place : ℕ) → Type 0
  Read answer place =
      (d ≡ decoded answer (length whole.text) (length whole.errors) place)
      × (text' ≡ sets text 0 whole.text) × (errors' ≡ sets errors 0 (laid way (numbers whole.errors)))

  -- The answer by its definition, and what it says.
  abbrev answer : ℕ
  answer = answer_of context source (length text) (room way errors)

  read : (n : ℕ) → answer ≡ n → let given = written_with context source n in
      (d.answer ≡ n) × ((d ≡ decoded n (text_named n source given) (length given.errors) (place_named n (stop_of context source)))
      × (text' ≡ sets text 0 given.text) × (errors' ≡ sets errors 0 (laid way (numbers given.errors))))
  read n e = (
    answer_is (room way errors) context source text errors so.is ∙ e,
    answer_says (room way errors) context source text errors n e so.is,
  )

  -- An answer with which nothing is written.
  unread : (n : ℕ) → answer ≡ n → written_with context source n ≡ reading [] []
      → (d.answer ≡ n) × Refused n (text_named n source (reading [] [])) (place_named n (stop_of context source))
  unfolding numbers
  unread n e nothing = let k = rw nothing at (read n e) in (k.0, (k.1.0, k.1.1, rw (laying way).none at k.1.2))

  -- A source that stops is answered so.
  stopped : {n : ℕ} → Stops n → answer ≡ n
  stopped w = stops_so context source (length text) (room way errors) w.0 w.1 ∙ w.2

  -- When each answer is given, and what result and rooms then are.
  pub whole_table : let place = (stop_of context source).place in
      Table d.answer
      ((too_long when 65536 < length source with Refused too_long 0 0)
      ∷ (room_asked when (length source ≤ 65536) × NoRoomFor source (length text) (room way errors) with Refused room_asked (length source + 64) 0)
      ∷ (done when Stops done with Read done 0)
      ∷ (ill_formed when Stops ill_formed with Refused ill_formed 0 place)
      ∷ (nul when Stops nul with Refused nul 0 place)
      ∷ (context_end when Stops context_end with Read context_end place)
      ∷ [])
  whole_table = table_by refl
      ((λ h. unread 3 (answers_too_long context source (length text) (room way errors) h) refl)
      and (λ w. unread 9 (answers_asked context source (length text) (room way errors) w.0 w.1) refl)
      and (λ w. read 0 (stopped w))
      and (λ w. unread 1 (stopped w) refl)
      and (λ w. unread 2 (stopped w) refl)
      and (λ w. read 7 (stopped w))
      and none)
      (⊎_elim inl (λ short. ⊎_elim (λ k. inr (inl (short, inl k)))
      (λ k. ⊎_elim (λ l. inr (inl (short, inr l)))
      (λ l. let stops : (n : ℕ) → (stop_of context source).answer ≡ n → Stops n = λ n e. (short, (k, l), e) in
      inr (inr (⊎_map (stops 0) (⊎_map (stops 1) (⊎_map (stops 2) (λ e. inl (stops 7 e)))) (stops_with context source))))
      (below? (room way errors) (2 * length source + 8))) (below? (length text) (length source + 64))) (below? 65536 (length source)))

  -- A source that was read: it is short and readable, and the result is a row of the covered part; at the start of the rooms stand the text, and
  -- values that say the errors' numbers.
  pub record WasRead : Type 0 where
    pub short : length source ≤ 65536
    pub reads : readable context source ≡ true
    pub covers : (if eqb d.answer context_end then d.place else length source) ≡ length (covered context source)
    pub text_count : d.text ≡ length whole.text
    pub error_count : d.errors ≡ length whole.errors
    pub texts : take d.text text' ≡ whole.text
    pub errors_of : Says way (take (width way * (2 * d.errors)) errors') (numbers whole.errors)

  -- With 0 and 7 it was.
  pub was_read : (d.answer ≡ done) ⊎ (d.answer ≡ context_end) → WasRead
  was_read =
      ⊎_elim
      (λ e. let l = whole_table.each.1.1.0 in
      by (l.only e) (l.so (l.only e)) (omega (arith, covered_length context source, stop-done context source (l.only e).2)) refl)
      (λ e. let l = whole_table.each.1.1.1.1.1.0 in by (l.only e) (l.so (l.only e)) (sym (covered_length context source)) refl)
    where
      by : {n place : ℕ} → Stops n → Read n place → (if eqb n context_end then place else length source) ≡ length (covered context source)
          → eqb n done || eqb n context_end ≡ true → WasRead
      by w r covers e =
          let enough = rooms_suffice context source in
          let twice : length (numbers whole.errors) ≡ 2 * length whole.errors = omega (arith, numbers-length whole.errors) in
          let near : length (covered context source) ≤ 65536 = omega (arith, w.0, covered_length context source, stop-place context source) in
          let small = numbers-small _ whole.errors near (errors-placed builtin context (covered context source)) in
          record {
            short = w.0;
            reads = rw w.2 e;
            covers = rw r.0 covers;
            text_count = ap (λ (x : Decoded). x.text) r.0;
            error_count = ap (λ (x : Decoded). x.errors) r.0;
            texts = rw (r.0, r.1) (take-written text whole.text (length whole.text) refl (omega (arith, w.1.0, enough.0)));
            errors_of = rw (r.0, r.2, ← twice) (written-says way errors (numbers whole.errors) (omega (arith, w.1.1, enough.1)) small);
          }

  -- It refused and wrote nothing, or it read the source; its numbers fit into four bytes each.
  data Did : Type 0 where
    refused : {n asked place : ℕ} → Refused n asked place → Small n → Small asked → Small place → Did
    read_it : {n place : ℕ} → Stops n → Read n place → Small n → Small place → Did

  did : Did
  did =
      let near = stop-place context source in
      elim (holds whole_table) [
        | inl w ↦ refused w.2 (omega arith) (omega arith) (omega arith)
        | inr (inl w) ↦ refused w.2 (omega arith) (omega (arith, w.1.0)) (omega arith)
        | inr (inr (inl w)) ↦ read_it w.1 w.2 (omega arith) (omega arith)
        | inr (inr (inr (inl w))) ↦ refused w.2 (omega arith) (omega arith) (omega (arith, w.1.0, near))
        | inr (inr (inr (inr (inl w)))) ↦ refused w.2 (omega arith) (omega arith) (omega (arith, w.1.0, near))
        | inr (inr (inr (inr (inr (inl w))))) ↦ read_it w.1 w.2 (omega arith) (omega (arith, w.1.0, near))
        | inr (inr (inr (inr (inr (inr w))))) ↦ elim w [ ]
      ]

  -- So do the four numbers of its answer.
  pub whole_small : All Small (d.answer ∷ d.text ∷ d.errors ∷ d.place ∷ [])
  whole_small =
      let short : length whole.text ≤ length source =
      omega (arith, text_short context source, covered_length context source, stop-place context source) in
      elim did [
        | refused r a t p ↦ rw r.0 (a, (t, (omega arith, (p, tt))))
        | read_it w r a p ↦ rw r.0 (a, (omega (arith, short, w.0), (omega (arith, w.0, errors_few context source), (p, tt))))
      ]

  -- Values that are no room for a number keep their contents.
  pub odd_kept : drop (width way * room way errors) errors' ≡ drop (width way * room way errors) errors
  odd_kept = elim did [
    | refused r a t p ↦ ap (drop (width way * room way errors)) r.2
    | read_it w r a p ↦
        ap (drop (width way * room way errors)) r.2
        ∙ written_keeps way errors (numbers whole.errors) (omega (arith, w.1.1, (rooms_suffice context source).1))
  ]
