-- What the writers of the decoder come to: a reading in a text room and an error room, and the answer that tells of it.
use Rattle.std.specs.Prelude.{ℕ, ◌+◌, ◌≤◌, ◌<◌, ◌≡◌, List, [], ◌||◌, eqb, length, drop, if◌then◌else◌}
use Rattle.std.proofs.lemmas.List.Edits.{sets}
use Rattle.lists.specs.Bytes.{plainly}
use Rattle.lists.specs.Rooms.{Put}
use Rattle.standard.specs.declared.Context.{Context}
use Rattle.standard.specs.Answers.{too_long, context_end, room_asked}
use Rattle.standard.specs.Errors.{numbers}
use Rattle.standard.specs.NameList.{builtin}
use Rattle.standard.specs.Reading.{stop_of, pieces, Reading, reading, ◌⊕◌, joined, decode}
use Rattle.decoder.specs.declared.whole.Decoded.{Decoded}
use Rattle.decoder.specs.declared.writers.Ends.{Ends}
use Rattle.decoder.specs.Whole.{decoded, answer_of, text_named}

-- A reading was written into a text room from w on, and into an error room from e on, with its numbers laid so.
pub record WroteBy {A : Type 0} (lay : List ℕ → List A) (r : Reading) (text : List ℕ) (w : ℕ) (text' : List ℕ) (w' : ℕ)
    (errors : List A) (e : ℕ) (errors' : List A) (e' : ℕ) : Type 0 where
  pub texts : Put text w r.text text' w'
  pub numbers_of : Put errors e (lay (numbers r.errors)) errors' e'

-- The same in a room of numbers.
abbrev pub Wrote : (r : Reading) (text : List ℕ) (w : ℕ) (text' : List ℕ) (w' : ℕ) (errors : List ℕ) (e : ℕ) (errors' : List ℕ) (e' : ℕ) → Type 0
Wrote = WroteBy plainly

-- The same from where the writing ended before to where it ends then.
abbrev pub Writes : Reading → Ends → (text errors : List ℕ) → Ends → (text' errors' : List ℕ) → Type 0
Writes r ends text errors ends' text' errors' = Wrote r text ends.text text' ends'.text errors ends.errors errors' ends'.errors

-- After it the room is free that is asked for before a byte.
abbrev pub Free : Ends → (text errors : List ℕ) → Type 0
Free ends text errors = (ends.text + 64 ≤ length text) × (ends.errors + 8 ≤ length errors)

-- No more than that was used.
abbrev pub Used : Ends → Ends → Type 0
Used ends ends' = (ends'.text ≤ ends.text + 64) × (ends'.errors ≤ ends.errors + 8)

-- What is read of s from at on.
abbrev pub read_from : Context → List ℕ → ℕ → Reading
read_from context s at = joined at (pieces builtin context (drop at s))

-- The bytes of s from at to next were read, and what they give, with at most two errors, was written.
pub record Advances (context : Context) (s : List ℕ) (at next : ℕ) (text : List ℕ) (w : ℕ) (text' : List ℕ) (w' : ℕ) (errors : List ℕ) (e : ℕ)
    (errors' : List ℕ) (e' : ℕ) : Type 0 where
  pub onward : at < next
  pub there : next ≤ length s
  pub gives : Reading
  pub splits : read_from context s at ≡ gives ⊕ read_from context s next
  pub wrote : Wrote gives text w text' w' errors e errors' e'
  pub few : e' ≤ e + 4

-- The answer as it is before anything is written, with where the source stops, also where it is read to its end.
abbrev pub unread_of : Context → List ℕ → (text errors : ℕ) → Decoded
unread_of context s text errors =
    let answer : ℕ = answer_of context s text errors in
    decoded answer (text_named answer s (reading [] [])) 0
    (if eqb answer too_long || eqb answer room_asked then 0 else (stop_of context s).place)

-- The place that is named where a covered part of so many bytes is read.
abbrev pub end_named : (answer length : ℕ) → ℕ
end_named answer length = if eqb answer context_end then length else 0

-- A covered part was read: the result says what was written, and the rooms hold it, the error numbers laid so.
pub record ReadCovered {A : Type 0} (lay : List ℕ → List A) (context : Context) (s : List ℕ) (answer : ℕ) (text : List ℕ) (errors : List A)
    (r : Decoded) (text' : List ℕ) (errors' : List A) : Type 0 where
  pub answered : r
      ≡ decoded answer (length (decode builtin context s).text) (length (decode builtin context s).errors) (end_named answer (length s))
  pub texts : text' ≡ sets text 0 (decode builtin context s).text
  pub numbers_of : errors' ≡ sets errors 0 (lay (numbers (decode builtin context s).errors))
