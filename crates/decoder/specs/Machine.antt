-- The machine: a covered source, character by character, with what is held as its state. The states are those of CharRefTokenizer.
use Rattle.std.specs.Prelude.{ℕ, ◌+◌, ◌-◌, ◌*◌, min, List, [], ◌∷◌, ◌++◌, Bool, true, false, ◌||◌, eqb, drop, if◌then◌else◌}
use Prim.Native.Char.{code}
use Rattle.standard.specs.declared.Context.{Context}
use Rattle.standard.specs.declared.names.Found.{Found}
use Rattle.standard.specs.Errors.{
  error,
  listed,
  placed,
  absence_of_digits_in_numeric_character_reference,
  unknown_named_character_reference,
}
use Rattle.standard.specs.Classes.{alphanumeric, character_code}
use Rattle.standard.specs.Numbers.{digit_of, is_digit, meaning_of}
use Rattle.standard.specs.Names.{Name, longest, begins}
use Rattle.standard.specs.Pieces.{Piece, numbered, named_by}
use Rattle.standard.specs.Reading.{Reading, reading, reading_at, ◌⊕◌}

-- What is held; q is the place of the `&`, whose error may wait.
pub data St : Type 0 where
  -- Nothing; and nothing after a CR, whose LF is to be passed over.
  Data : St
  AfterCr : St
  -- `&`; `&#`; `&#x` or `&#X`, with its letter.
  Begin : (q : ℕ) → St
  Octothorpe : (q : ℕ) → St
  HexBegin : (q letter : ℕ) → St
  -- `&#` or `&#x`, which is the intro, and digits, of which only the number is kept.
  Numeric : (q : ℕ) (intro : List ℕ) (base value : ℕ) → St
  -- `&` and a beginning of some name that is no name with its `;`.
  Named : (q : ℕ) (held : List ℕ) → St
  -- Nothing: letters and digits after an `&` that begins no name pass, and error 4 waits for their `;`.
  BogusName : (q : ℕ) → St

-- A step: what is released, and the next state.
pub record Step : Type 0 where
  pub gives : Reading
  pub next : St

-- A step, given both.
abbrev pub to : Reading → St → Step
to gives next = record { gives = gives; next = next }

-- What is released before a step.
abbrev pub step_after : Reading → Step → Step
step_after before step = to (before ⊕ step.gives) step.next

-- The reading of nothing.
abbrev pub nothing : Reading
nothing = reading [] []

-- Characters that stand for themselves without an error.
abbrev pub text_only : List ℕ → Reading
text_only text = reading text []

-- Nothing is held: a CR, an `&`, or a character c with its own bytes at place p.
unfoldable pub step_data : (p c : ℕ) (own : List ℕ) → Step
step_data p c own =
    if eqb c (code "\r") then to (text_only (code "\n" ∷ [])) AfterCr
    else if eqb c (code "&") then to nothing (Begin p)
    else to (reading own (placed p (listed (character_code c)))) Data

-- In a name that is no name.
unfoldable pub step_bogus : (q p c : ℕ) (own : List ℕ) → Step
step_bogus q p c own =
    if alphanumeric c then to (text_only own) (BogusName q)
    else if eqb c (code ";") then to (reading own (error unknown_named_character_reference q ∷ [])) Data
    else step_data p c own

-- `&#` or `&#x` without a digit.
abbrev pub no_digits : ℕ → List ℕ → Reading
no_digits q held = reading held (error absence_of_digits_in_numeric_character_reference q ∷ [])

-- One digit more. A number stops at the first past the last code point, and means the same there.
abbrev pub add_digit : (base value c : ℕ) → ℕ
add_digit base value c = min (value * base + digit_of c) 0x110000

-- A number, with its `;` or without.
abbrev pub finish_numeric : (q value : ℕ) → Bool → Reading
finish_numeric q value semicolon = reading_at q (numbered 0 (meaning_of value) semicolon)

-- A name that was found in what is held, with what is next after that; what is held past the piece stands for itself.
unfoldable pub finish_named : Context → ℕ → Found → (held next : List ℕ) → Reading
finish_named context q found held next =
    let p : Piece = named_by context found (held ++ next) in reading_at q p ⊕ text_only (drop (p.size - 1) held)

-- What is held of a name is settled by a character that no name goes on with.
unfoldable pub settle : Context → ℕ → Found → List ℕ → (p c : ℕ) (own : List ℕ) → Step
settle context q found held p c own =
    if eqb found.len 0 then step_after (text_only (code "&" ∷ held)) (step_bogus q p c own)
    else step_after (finish_named context q found held own) (step_data p c own)

-- One more character of a name: it goes on, it is closed by its `;`, or it is settled.
unfoldable pub step_named : List Name → Context → ℕ → List ℕ → (p c : ℕ) (own : List ℕ) → Step
step_named names context q held p c own =
    if begins names (held ++ own)
    then (if eqb c (code ";") then to (finish_named context q (longest names (held ++ own)) (held ++ own) []) Data
    else to nothing (Named q (held ++ own)))
    else settle context q (longest names held) held p c own

-- After a CR.
abbrev pub step_after_cr : (p c : ℕ) (own : List ℕ) → Step
step_after_cr p c own = if eqb c (code "\n") then to nothing Data else step_data p c own

-- After `&`.
abbrev pub step_begin : List Name → Context → (q p c : ℕ) (own : List ℕ) → Step
step_begin names context q p c own =
    if eqb c (code "#") then to nothing (Octothorpe q)
    else if alphanumeric c then step_named names context q [] p c own
    else step_after (text_only (code "&" ∷ [])) (step_data p c own)

-- After `&#`.
abbrev pub step_octothorpe : (q p c : ℕ) (own : List ℕ) → Step
step_octothorpe q p c own =
    if eqb c (code "x") || eqb c (code "X") then to nothing (HexBegin q c)
    else if is_digit 10 c then to nothing (Numeric q (code "&" ∷ code "#" ∷ []) 10 (digit_of c))
    else step_after (no_digits q (code "&" ∷ code "#" ∷ [])) (step_data p c own)

-- After `&#x`.
abbrev pub step_hex_begin : (q letter p c : ℕ) (own : List ℕ) → Step
step_hex_begin q letter p c own =
    if is_digit 16 c then to nothing (Numeric q (code "&" ∷ code "#" ∷ letter ∷ []) 16 (digit_of c))
    else step_after (no_digits q (code "&" ∷ code "#" ∷ letter ∷ [])) (step_data p c own)

-- In a number.
abbrev pub step_numeric : (q : ℕ) (intro : List ℕ) (base value p c : ℕ) (own : List ℕ) → Step
step_numeric q intro base value p c own =
    if is_digit base c then to nothing (Numeric q intro base (add_digit base value c))
    else if eqb c (code ";") then to (finish_numeric q value true) Data
    else step_after (finish_numeric q value false) (step_data p c own)

-- A character c with its own bytes at place p.
unfoldable pub step : List Name → Context → St → (p c : ℕ) (own : List ℕ) → Step
step names context Data p c own = step_data p c own
step names context AfterCr p c own = step_after_cr p c own
step names context (Begin q) p c own = step_begin names context q p c own
step names context (Octothorpe q) p c own = step_octothorpe q p c own
step names context (HexBegin q letter) p c own = step_hex_begin q letter p c own
step names context (Numeric q intro base value) p c own = step_numeric q intro base value p c own
step names context (Named q held) p c own = step_named names context q held p c own
step names context (BogusName q) p c own = step_bogus q p c own

-- At the end what is held is read as the last pieces.
unfoldable pub finish : List Name → Context → St → Reading
finish names context Data = nothing
finish names context AfterCr = nothing
finish names context (Begin q) = text_only (code "&" ∷ [])
finish names context (Octothorpe q) = no_digits q (code "&" ∷ code "#" ∷ [])
finish names context (HexBegin q letter) = no_digits q (code "&" ∷ code "#" ∷ letter ∷ [])
finish names context (Numeric q intro base value) = finish_numeric q value false
finish names context (Named q held) =
    if eqb (longest names held).len 0 then text_only (code "&" ∷ held) else finish_named context q (longest names held) held []
finish names context (BogusName q) = nothing
