-- What a turn of the code stands for: what it releases and holds, as the machine's step does.
use Rattle.std.specs.Prelude.{ℕ, ◌≤◌, ◌<◌, ◌≡◌, List, [], ◌∷◌, true, ◌⊎◌, ltb, length, take, drop, if◌then◌else◌}
use Prim.Native.Char.{code}
use Rattle.standard.specs.Classes.{alphanumeric}
use Rattle.standard.specs.Reading.{Reading, reading_at, ◌⊕◌}
use Rattle.standard.specs.NameList.{builtin}
use Rattle.decoder.specs.declared.pieces.Piece.{Piece}
use Rattle.decoder.specs.declared.stream.Held.{Held}
use Rattle.decoder.specs.declared.turns.Turn.{Turn}
use Rattle.decoder.specs.Pieces.{piece_of}
use Rattle.decoder.specs.Held.{is_x, held_name}
use Rattle.decoder.specs.Machine.{St, Data, AfterCr, Begin, Octothorpe, HexBegin, Numeric, Named, BogusName, Step, text_only}
use Rattle.decoder.specs.Stream.{padded, st_of, held_of}

-- A character as a byte where it is ASCII, and else as one that no ASCII test passes.
unfoldable pub ascii_of : ℕ → ℕ
ascii_of c = if ltb c 0x80 then c else 0x80

-- What a machine's state has within the limits.
unfoldable pub Fits : St → Type 0
Fits Data = Unit {0}
Fits AfterCr = Unit {0}
Fits (Begin q) = Unit {0}
Fits (Octothorpe q) = Unit {0}
Fits (HexBegin q letter) = is_x letter ≡ true
Fits (Numeric q intro base value) =
    (((base ≡ 10) × (intro ≡ code "&" ∷ code "#" ∷ []))
    ⊎ ((base ≡ 16) × ((letter : ℕ) × (is_x letter ≡ true) × (intro ≡ code "&" ∷ code "#" ∷ letter ∷ []))))
    × (value ≤ 0x110000)
Fits (Named q held) = (held_name builtin held ≡ true) × (0 < length held)
Fits (BogusName q) = Unit {0}

-- What is held is a state's, within the limits.
pub record Fit (h : Held) : Type 0 where
  pub whole : h ≡ held_of (st_of h)
  pub fits : Fits (st_of h)

-- The bytes s are held.
pub record Stored (held : Held) (s : List ℕ) : Type 0 where
  pub store_is : held.store ≡ padded 32 s
  pub count_is : held.count ≡ length s

-- What is held after the `&`.
abbrev pub name_of : Held → List ℕ
name_of held = drop 1 (take held.count held.store)

-- An `&` and a name's beginning h that goes on are held, or the `&` before a letter or digit c.
pub record NameHeld (held : Held) (h : List ℕ) (c : ℕ) : Type 0 where
  pub stored : Stored held (code "&" ∷ h)
  pub name : held_name builtin h ≡ true
  pub first : (0 < length h) ⊎ (alphanumeric c ≡ true)

-- What is released of what is held: a piece, and the store's own bytes after it.
abbrev pub released_of : Held → Piece → Reading
released_of h released = reading_at h.place (piece_of released) ⊕ text_only (drop released.size (take h.count h.store))

-- A piece is all that a state releases.
pub record Releases (h : Held) (released : Piece) (r : Reading) : Type 0 where
  pub gives : released_of h released ≡ r
  pub within : released.size ≤ h.count

-- A turn at place p is a step of the machine.
pub record Turns (h : Held) (p : ℕ) (t : Turn) (s : Step) : Type 0 where
  pub gives : released_of h t.released ⊕ reading_at p (piece_of t.own) ≡ s.gives
  pub next : t.next ≡ held_of s.next
  pub within : t.released.size ≤ h.count

-- What a turn at place p does after a piece is a step of the machine.
pub record Follows (released : Piece) (p : ℕ) (t : Turn) (s : Step) : Type 0 where
  pub first : t.released ≡ released
  pub gives : reading_at p (piece_of t.own) ≡ s.gives
  pub next : t.next ≡ held_of s.next
