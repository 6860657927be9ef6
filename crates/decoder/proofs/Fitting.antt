-- What a call gives fits its rooms: a byte asks for 64 text bytes and 8 error numbers, and no step of the machine gives more.
use Rattle.std.specs.Prelude.{if◌then◌else◌}
use Prim.Native.Nat.{ℕ, suc, ◌+◌, ◌-◌, ◌*◌, ◌≤◌}
use Prim.Native.Char.{code}
use mathlib.Core.Path.{◌≡◌}
use mathlib.Core.List.{List, [], ◌∷◌, ◌++◌}
use mathlib.Core.Bool.{Bool, true, false, not, ◌||◌}
use native.Mathlib.Omega.{arith}
use lib.Dec.{eqb}
use lib.ListN.{length, get_or, drop, length-append, length-drop}
use borrow.Author.Tests.{eqb-true}
use Rattle.lists.proofs.Choice.{if_both}
use Rattle.standard.specs.declared.Context.{Context}
use Rattle.standard.specs.declared.characters.CharRead.{CharRead}
use Rattle.standard.specs.declared.characters.CharRead.TheVariants.{Char, Incomplete, Illformed, End}
use Rattle.standard.specs.declared.names.Found.{Found}
use Rattle.standard.specs.Utf8.{read_char}
use Rattle.standard.specs.Answers.{done, context_end}
use Rattle.standard.specs.Classes.{alphanumeric, character_code}
use Rattle.standard.specs.Errors.{no_error, missing_semicolon_after_character_reference, unknown_named_character_reference}
use Rattle.standard.specs.Names.{longest, begins}
use Rattle.standard.specs.NameList.{builtin}
use Rattle.standard.specs.Numbers.{is_digit, Meaning, meaning_of}
use Rattle.standard.specs.Pieces.{Piece, piece, ampersand, numbered, char_ref_text, stays_text, unknown_name, named_by}
use Rattle.standard.specs.Reading.{Reading, reading_at, ◌⊕◌}
use Rattle.standard.proofs.Bounds.{length-placed}
use Rattle.standard.proofs.Narrow.{FoundFits, builtin_narrow, longest-fits}
use Rattle.standard.proofs.PieceSize.{listed-few}
use Rattle.standard.proofs.RoundTrip.{encode-short}
use Rattle.decoder.specs.declared.stream.Stream.{Stream}
use Rattle.decoder.specs.Machine.{
  St,
  Data,
  AfterCr,
  Begin,
  Octothorpe,
  HexBegin,
  Numeric,
  Named,
  BogusName,
  Step,
  step_after,
  nothing,
  text_only,
  step_data,
  step_bogus,
  no_digits,
  finish_numeric,
  finish_named,
  settle,
  step_named,
  step,
  finish,
}
use Rattle.decoder.specs.Stream.{
  At,
  place_of,
  called_for,
  move_by,
  Walked,
  onward,
  lacks_room,
  walk,
  at_of,
  st_of,
  Outcome,
  closes,
  walked_to,
  feed_of,
  end_of,
}
use Rattle.decoder.specs.Turns.{Fits}
use Rattle.decoder.specs.Feeding.{OpenAt, byte_walk}
use Rattle.decoder.proofs.Open.{held-short}
use Rattle.decoder.proofs.Returns.{opened, opened-at, feed_cases, end_cases}
use Rattle.decoder.proofs.Room.{room-only}
use Rattle.decoder.proofs.Taking.{open_byte}
use Rattle.decoder.proofs.Turning.{begins-short}
use Rattle.decoder.proofs.Walks.{walk_after, walk_byte}

-- A reading has at most so many text bytes and errors.
abbrev Few : (text errors : ℕ) → Reading → Type 0
Few text errors g = (length g.text ≤ text) × (length g.errors ≤ errors)

-- A reading that has fewer.
few-more : {a b m n : ℕ} (g : Reading) → Few a b g → a ≤ m → b ≤ n → Few m n g
few-more g x h k = (omega arith, omega arith)

-- What two readings have together.
few-join : {a b c d m n : ℕ} (f g : Reading) → Few a b f → Few c d g → a + c ≤ m → b + d ≤ n → Few m n (f ⊕ g)
few-join f g x y h k = (simp length-append (omega arith), simp length-append (omega arith))

-- What is read of a piece has its text, and an error for each code.
piece-few : {a b : ℕ} (q : ℕ) (p : Piece) → length p.text ≤ a → length p.codes ≤ b → Few a b (reading_at q p)
piece-few q p t e = (t, rw length-placed e)

-- A number has one character, and at most two errors.
number-few : (q value : ℕ) (semicolon : Bool) → Few 4 2 (finish_numeric q value semicolon)
number-few q value semicolon = go semicolon
  where
    m : Meaning
    m = meaning_of value

    go : (semicolon : Bool) → Few 4 2 (finish_numeric q value semicolon)
    go true = piece-few q (numbered 0 m true) (encode-short m.char).1 (omega (arith, listed-few m.code))
    go false = piece-few q (numbered 0 m false) (encode-short m.char).1 (omega (arith, listed-few m.code))

-- A name that was found in what is held has no more bytes than that with its `&`, and at most one error.
named-few : (context : Context) (q : ℕ) (found : Found) (held next : List ℕ) → FoundFits builtin held found
    → Few (suc (length held)) 1 (finish_named context q found held next)
unfolding finish_named named_by
named-few context q found held next h =
    if_both P (eqb found.len 0) _ _ (λ t. alone (if unknown_name (held ++ next) then unknown_named_character_reference else no_error))
    (λ f. if_both P (eqb (get_or (held ++ next) (found.len - 1) 0) (code ";")) _ _ (λ t. whole [] (omega arith))
    (λ f. if_both P (stays_text context (drop found.len (held ++ next))) _ _ (λ t. alone no_error)
    (λ f. whole (missing_semicolon_after_character_reference ∷ []) (omega arith))))
  where
    P : Piece → Type 0
    P p = Few (suc (length held)) 1 (reading_at q p ⊕ text_only (drop (p.size - 1) held))

    alone : (error : ℕ) → P (ampersand error)
    alone error =
        few-join {a = 1} {c = length held} {d = 0} (reading_at q (ampersand error)) (text_only held)
        (piece-few q (ampersand error) (omega arith) (listed-few error)) (omega arith, omega arith) (omega arith) (omega arith)

    whole : (codes : List ℕ) → length codes ≤ 1 → P (piece (suc found.len) (char_ref_text found.reference) codes)
    whole codes few =
        let p = piece (suc found.len) (char_ref_text found.reference) codes in
        let rest = drop (p.size - 1) held in
        few-join {c = length rest} {d = 0} (reading_at q p) (text_only rest) (piece-few q p (h.1 builtin_narrow) few) (omega arith, omega arith)
        (omega (arith, h.0, length-drop (p.size - 1) held)) (omega arith)

-- A character c with its own bytes, at place p.
module _ (p c : ℕ) (own : List ℕ) (short : length own ≤ 4) where
  -- Where nothing is held.
  data_few : Few 4 1 (step_data p c own).gives
  unfolding step_data
  data_few =
      if_both P (eqb c (code "\r")) _ _ (λ t. (omega arith, omega arith))
      (λ f. if_both P (eqb c (code "&")) _ _ (λ t. (omega arith, omega arith)) (λ f. (short, rw length-placed (listed-few (character_code c)))))
    where
      P : Step → Type 0
      P s = Few 4 1 s.gives

  -- In a name that is none.
  bogus_few : (q : ℕ) → Few 4 1 (step_bogus q p c own).gives
  unfolding step_bogus
  bogus_few q =
      if_both P (alphanumeric c) _ _ (λ t. (short, omega arith))
      (λ f. if_both P (eqb c (code ";")) _ _ (λ t. (short, omega arith)) (λ f. data_few))
    where
      P : Step → Type 0
      P s = Few 4 1 s.gives

  -- What a step of an open stream gives.
  abbrev Small : Step → Type 0
  Small s = Few 64 4 s.gives

  -- What is released, with the character where nothing is held then.
  then_data : {a b : ℕ} (g : Reading) → Few a b g → a ≤ 60 → b ≤ 3 → Small (step_after g (step_data p c own))
  then_data g x h k = few-join g (step_data p c own).gives x data_few (omega arith) (omega arith)

  module _ (context : Context) where
    -- In a name.
    in_name_few : (q : ℕ) (held : List ℕ) → length held ≤ 31 → Small (step_named builtin context q held p c own)
    unfolding step_named settle
    in_name_few q held few =
        if_both Small (begins builtin (held ++ own)) _ _
        (λ b. if_both Small (eqb c (code ";")) _ _
        (λ t. few-more (finish_named context q (longest builtin (held ++ own)) (held ++ own) [])
        (named-few context q (longest builtin (held ++ own)) (held ++ own) [] (longest-fits builtin (held ++ own)))
        (omega (arith, begins-short (held ++ own) b)) (omega arith))
        (λ f. (omega arith, omega arith)))
        (λ f. if_both Small (eqb (longest builtin held).len 0) _ _
        (λ t. few-join {a = 32} {b = 0} (text_only (code "&" ∷ held)) (step_bogus q p c own).gives (omega arith, omega arith) (bogus_few q)
        (omega arith)
        (omega arith))
        (λ f. then_data (finish_named context q (longest builtin held) held own)
        (named-few context q (longest builtin held) held own (longest-fits builtin held)) (omega arith) (omega arith)))

    -- No step gives more than what a byte asks for.
    step_few : (st : St) → Fits st → Small (step builtin context st p c own)
    unfolding step Fits
    step_few Data f = few-more (step_data p c own).gives data_few (omega arith) (omega arith)
    step_few AfterCr f =
        if_both Small (eqb c (code "\n")) _ _ (λ t. (omega arith, omega arith))
        (λ f. few-more (step_data p c own).gives data_few (omega arith) (omega arith))
    step_few (Begin q) f =
        if_both Small (eqb c (code "#")) _ _ (λ t. (omega arith, omega arith))
        (λ f. if_both Small (alphanumeric c) _ _ (λ t. in_name_few q [] (omega arith))
        (λ f. then_data {a = 1} {b = 0} (text_only (code "&" ∷ [])) (omega arith, omega arith) (omega arith) (omega arith)))
    step_few (Octothorpe q) f =
        if_both Small (eqb c (code "x") || eqb c (code "X")) _ _ (λ x. (omega arith, omega arith))
        (λ f. if_both Small (is_digit 10 c) _ _ (λ d. (omega arith, omega arith))
        (λ f. then_data {a = 2} {b = 1} (no_digits q (code "&" ∷ code "#" ∷ [])) (omega arith, omega arith) (omega arith) (omega arith)))
    step_few (HexBegin q letter) f =
        if_both Small (is_digit 16 c) _ _ (λ d. (omega arith, omega arith))
        (λ f. then_data {a = 3} {b = 1} (no_digits q (code "&" ∷ code "#" ∷ letter ∷ [])) (omega arith, omega arith) (omega arith) (omega arith))
    step_few (Numeric q intro base value) f =
        if_both Small (is_digit base c) _ _ (λ d. (omega arith, omega arith))
        (λ f. if_both Small (eqb c (code ";")) _ _
        (λ t. few-more (finish_numeric q value true) (number-few q value true) (omega arith) (omega arith))
        (λ f. then_data (finish_numeric q value false) (number-few q value false) (omega arith) (omega arith)))
    step_few (Named q held) f = in_name_few q held (held-short held f.0)
    step_few (BogusName q) f = few-more (step_bogus q p c own).gives (bogus_few q) (omega arith) (omega arith)

-- Nor does the end.
finish-few : (context : Context) (st : St) → Fits st → Few 64 4 (finish builtin context st)
unfolding finish Fits
finish-few context Data f = (omega arith, omega arith)
finish-few context AfterCr f = (omega arith, omega arith)
finish-few context (Begin q) f = (omega arith, omega arith)
finish-few context (Octothorpe q) f = (omega arith, omega arith)
finish-few context (HexBegin q letter) f = (omega arith, omega arith)
finish-few context (Numeric q intro base value) f = few-more (finish_numeric q value false) (number-few q value false) (omega arith) (omega arith)
finish-few context (Named q held) f =
    let few = held-short held f.0 in
    if_both (Few 64 4) (eqb (longest builtin held).len 0) _ _ (λ t. (omega arith, omega arith))
    (λ f. few-more (finish_named context q (longest builtin held) held [])
    (named-few context q (longest builtin held) held [] (longest-fits builtin held)) (omega arith) (omega arith))
finish-few context (BogusName q) f = (omega arith, omega arith)

-- Nor does a byte, taken or not.
byte-few : (context : Context) {at : At} (b : ℕ) → OpenAt at → Few 64 4 (byte_walk builtin context at b).gives
unfolding byte_walk
byte-few context {at} b o =
    if_both (λ (w : Walked). Few 64 4 w.gives) (not (eqb (called_for context (read_char own)) done)) _ _
    (λ t. if_both (Few 64 4) (eqb (called_for context (read_char own)) context_end) _ _ (λ t. finish-few context at.st o.fits)
    (λ f. (omega arith, omega arith)))
    (λ f. taken (read_char own))
  where
    own : List ℕ
    own = at.part ++ b ∷ []

    taken : (r : CharRead) → Few 64 4 (move_by builtin context at r own).gives
    taken (Char c n) = step_few (place_of at) c own (omega (arith, length-append at.part (b ∷ []), o.few)) context at.st o.fits
    taken (Incomplete n) = (omega arith, omega arith)
    taken (Illformed n) = (omega arith, omega arith)
    taken End = (omega arith, omega arith)

-- A reading fits rooms for so many text bytes and error numbers.
abbrev FitsRooms : (text errors : ℕ) → Reading → Type 0
FitsRooms text errors g = (length g.text ≤ text) × (2 * length g.errors ≤ errors)

-- What a byte asks for suffices for what it gives.
small-fits : (text errors : ℕ) (g : Reading) → Few 64 4 g → lacks_room text errors ≡ false → FitsRooms text errors g
small-fits text errors g few room = let h = room-only text errors room in (omega arith, omega arith)

-- A walk gives what fits its rooms.
walk-fits : (context : Context) (text errors : ℕ) (at : At) (s : List ℕ) → OpenAt at
    → FitsRooms text errors (walk builtin context text errors at s).gives
unfolding walk
walk-fits context text errors at [] o = (omega arith, omega arith)
walk-fits context text errors at (b ∷ s) o =
    rw (walk_byte builtin context text errors at b s)
    (if_both P (lacks_room text errors) _ _ (λ t. (omega arith, omega arith))
    (λ room. if_both P (eqb w.answer done) _ _
    (λ t. on room (walk-fits context (text - length w.gives.text) (errors - 2 * length w.gives.errors) w.stop s
    (open_byte context b o (eqb-true w.answer done t)).0))
    (λ f. small-fits text errors w.gives few room)))
  where
    w : Walked
    w = byte_walk builtin context at b

    P : Walked → Type 0
    P x = FitsRooms text errors x.gives

    few : Few 64 4 (byte_walk builtin context at b).gives
    few = byte-few context b o

    rest : Walked
    rest = walk_after builtin context w.gives text errors w.stop s

    on : lacks_room text errors ≡ false → FitsRooms (text - length w.gives.text) (errors - 2 * length w.gives.errors) rest.gives
        → P (onward w.gives rest)
    on room r = let h = small-fits text errors w.gives few room in (simp length-append (omega arith), simp length-append (omega arith))

-- What a chunk gives fits its rooms, whatever the record.
pub feed_fits : (r : Stream) (chunk : List ℕ) (text errors : ℕ) → FitsRooms text errors (feed_of builtin r chunk text errors).gives
unfolding walked_to
feed_fits r chunk text errors =
    feed_cases P r text errors chunk (λ h. none) (λ h. none) (λ h. none) (λ h. none)
    (λ o long room. let h = walk-fits r.context text errors (at_of r) chunk (opened-at r (opened r o)) in
    if_both P (closes (walk builtin r.context text errors (at_of r) chunk).answer) _ _ (λ t. h) (λ f. h))
  where
    P : Outcome → Type 0
    P o = FitsRooms text errors o.gives

    none : FitsRooms text errors nothing
    none = (omega arith, omega arith)

-- So does what the end gives.
pub end_fits : (r : Stream) (text errors : ℕ) → FitsRooms text errors (end_of builtin r text errors).gives
end_fits r text errors =
    end_cases (λ o. FitsRooms text errors o.gives) r text errors (λ h. none) (λ h. none) (λ h. none)
    (λ o room h. small-fits text errors (finish builtin r.context (st_of r.held))
    (finish-few r.context (st_of r.held) (opened-at r (opened r o)).fits) room)
  where
    none : FitsRooms text errors nothing
    none = (omega arith, omega arith)
