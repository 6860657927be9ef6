-- Laws of what the code writes and keeps of one character, as the walk over one byte has it.
use Prim.Native.Nat.{ℕ, zero, suc, ◌+◌, ◌-◌, ◌≤◌}
use mathlib.Core.Path.{◌≡◌, refl, sym, ◌∙◌, ap, subst}
use mathlib.Core.List.{List, [], ◌∷◌, ◌++◌}
use mathlib.Core.Logic.{◌≢◌}
use native.Mathlib.Omega.{arith}
use native.Mathlib.Numerals.{add-one}
use lib.ListN.{length, get_or, take, drop, set, length-append, length-take}
use lib.Seq.{take-add, take-suc-set, drop_at, length-take-le}
use borrow.Author.Tests.{ne_eqb}
use Rattle.lists.specs.Rooms.{Put}
use Rattle.standard.specs.declared.characters.CharRead.TheVariants.{Char, Incomplete, Illformed}
use Rattle.standard.specs.Utf8.{read_char, encode}
use Rattle.standard.specs.Answers.{done}
use Rattle.standard.specs.Errors.{placed}
use Rattle.standard.specs.NameList.{builtin}
use Rattle.standard.specs.Pieces.{encodes}
use Rattle.standard.specs.Reading.{calls_for, Reading, reading_at, ◌⊕◌}
use Rattle.decoder.specs.Writing.{Wrote}
use Rattle.standard.proofs.Joining.{⊕-none}
use Rattle.decoder.proofs.Writing.{wrote_none}
use Rattle.standard.proofs.Utf8.{incomplete_length}
use Rattle.rooms.proofs.Fits.{copy_fits}
use Rattle.decoder.specs.declared.pieces.Piece.{Piece}
use Rattle.decoder.specs.declared.stream.Held.{Held}
use Rattle.decoder.specs.declared.stream.Stream.{Stream}
use Rattle.decoder.specs.declared.feeding.Walked as code
use Rattle.decoder.specs.Machine.{step}
use Rattle.decoder.specs.Pieces.{piece_of, none_of}
use Rattle.decoder.specs.Stream.{at_by, padded, Walked, last_of, store_of, held_of, st_of, record_of, at_of}
use Rattle.decoder.specs.Turns.{Fit}
use Rattle.decoder.specs.Feeding.{Open, char_walk, byte_walk, Walks}
use Rattle.decoder.proofs.Open.{fits_count}
use Rattle.decoder.proofs.Padded.{padded-length}
use Rattle.decoder.proofs.Taking.{own_encoded}

-- The store's bytes from a piece's size on are copied, at most 32 of them.
pub rest_copied : (h : Held) (released : Piece) → length h.store ≡ 32 → released.size ≤ h.count → h.count ≤ 32
    → {text text' : List ℕ} {w w' : ℕ} → w + 32 ≤ length text
    → Put text w (take (length text - w) (take (h.count - released.size) (drop released.size h.store))) text' w'
    → Put text w (drop released.size (take h.count h.store)) text' w' × (w' ≤ w + 32)
rest_copied h released long within count {text} {text'} {w} {w'} room put =
    let rest : List ℕ = take (h.count - released.size) (drop released.size h.store) in
    let same : rest ≡ drop released.size (take h.count h.store) = sym cut in
    let few : length rest ≤ 32 = simp length-take (omega arith) in
    let p = copy_fits (omega arith) put in
    (subst (λ (l : List ℕ). Put text w l text' w') same p, omega (arith, p.next_is))
  where
    -- The first bytes without the very first are those after these.
    cut : drop released.size (take h.count h.store) ≡ take (h.count - released.size) (drop released.size h.store)
    cut =
        let k : released.size + (h.count - released.size) ≡ h.count = omega arith in
        ap (λ (n : ℕ). drop released.size (take n h.store)) (sym k)
        ∙ ap (drop released.size) (take-add released.size (h.count - released.size) h.store)
        ∙ drop_at (take released.size h.store) (take (h.count - released.size) (drop released.size h.store)) released.size
        (length-take-le released.size h.store (omega arith))

-- A reading was written, and so was one that is the same.
pub wrote_as : {a b : Reading} {text text' errors errors' : List ℕ} {w w' e e' : ℕ} → a ≡ b → Wrote a text w text' w' errors e errors' e'
    → Wrote b text w text' w' errors e errors' e'
wrote_as {text = text} {text'} {errors} {errors'} {w} {w'} {e} {e'} is wrote =
    subst (λ (r : Reading). Wrote r text w text' w' errors e errors' e') is wrote

-- A piece that has nothing gives nothing.
pub none-gives : (p size : ℕ) (before : Reading) → before ⊕ reading_at p (piece_of (none_of size)) ≡ before
unfolding encodes placed
none-gives p size before = ⊕-none before

-- What is held is at most 32 bytes.
pub fit_count : (h : Held) → Fit h → h.count ≤ 32
unfolding held_of
fit_count h fit = omega (arith, fits_count (st_of h) fit.fits, ap (λ (x : Held). x.count) fit.whole)

-- The record with n bytes of a character and one byte more taken.
pub keeps-byte : (r : Stream) (own : List ℕ) (n : ℕ) → n ≤ length own → r.held ≡ held_of (st_of r.held) → {part : List ℕ}
    → part ≡ padded 3 (take n own)
    → record { context = r.context; held = r.held; part = part; part_count = n; taken = r.taken + 1 }
    ≡ record_of r.context (at_by (st_of r.held) (take n own) (r.taken + 1))
unfolding record_of
keeps-byte r own n there held {part} is = λ i. record {
  context = r.context;
  held = held i;
  part = is i;
  part_count = sym (length-take-le n own there) i;
  taken = r.taken + 1;
}

-- The store is 32 bytes long.
pub fit_long : (h : Held) → Fit h → length h.store ≡ 32
unfolding held_of
fit_long h fit = ap (λ (x : Held). length x.store) fit.whole ∙ padded-length 32 (store_of (st_of h)) (fits_count (st_of h) fit.fits)

module _ (r : Stream) (o : Open r) where
  -- What the record of an open stream holds fits.
  pub open_fit : Fit r.held
  unfolding record_of
  open_fit = record { whole = ap (λ (x : Stream). x.held) o.whole; fits = o.at.fits }

  -- The bytes of a character so far are as many as their count says, at most three, and were taken.
  pub part_long : (length (take r.part_count r.part) ≡ r.part_count) × (r.part_count ≤ 3) × (r.part_count ≤ r.taken)
  unfolding record_of
  part_long =
      let e = ap (λ (x : Stream). x.part_count) o.whole in
      (sym e, omega (arith, e, o.at.few), omega (arith, e, o.at.there))

  -- There is room for three of them.
  pub open_part : length r.part ≡ 3
  unfolding record_of
  open_part =
      ap (λ (x : Stream). length x.part) o.whole ∙ padded-length 3 (at_of r).part o.at.few

  -- The bytes that are read with the next one.
  pub own_list : length r.part ≡ 3 → (b : ℕ)
      → take (r.part_count + 1) (set (get_or r.part 0 0 ∷ get_or r.part 1 0 ∷ get_or r.part 2 0 ∷ 0 ∷ []) r.part_count b)
      ≡ (at_of r).part ++ b ∷ []
  own_list three b =
      let l : List ℕ = get_or r.part 0 0 ∷ get_or r.part 1 0 ∷ get_or r.part 2 0 ∷ 0 ∷ [] in
      ap (λ (n : ℕ). take n (set l r.part_count b)) (add-one r.part_count)
      ∙ take-suc-set l r.part_count b (omega (arith, part_long.1))
      ∙ ap (λ (s : List ℕ). s ++ b ∷ []) (front r.part r.part_count three part_long.1)
    where
      front : (s : List ℕ) (n : ℕ) → length s ≡ 3 → n ≤ 3 → take n (get_or s 0 0 ∷ get_or s 1 0 ∷ get_or s 2 0 ∷ 0 ∷ []) ≡ take n s
      front [] n e h = absurd (omega arith)
      front (x ∷ []) n e h = absurd (omega arith)
      front (x ∷ y ∷ []) n e h = absurd (omega arith)
      front (x ∷ y ∷ z ∷ []) zero e h = refl
      front (x ∷ y ∷ z ∷ []) (suc zero) e h = refl
      front (x ∷ y ∷ z ∷ []) (suc (suc zero)) e h = refl
      front (x ∷ y ∷ z ∷ []) (suc (suc (suc n))) e h = go n (omega arith)
        where
          go : (n : ℕ) → n ≤ 0 → take (suc (suc (suc n))) (x ∷ y ∷ z ∷ 0 ∷ []) ≡ take (suc (suc (suc n))) (x ∷ y ∷ z ∷ [])
          go zero h = refl
          go (suc n) h = absurd (omega arith)
      front (x ∷ y ∷ z ∷ v ∷ s) n e h = absurd (omega arith)

  -- Bytes that are not a whole character yet are at most three.
  pub kept_few : (b : ℕ) {n : ℕ} → read_char ((at_of r).part ++ b ∷ []) ≡ Incomplete n → r.part_count + 1 ≤ 3
  kept_few b {n} read =
      omega (arith, incomplete_length ((at_of r).part ++ b ∷ []) n read, length-append (at_of r).part (b ∷ []), part_long.0)

  module _ {text text' errors errors' : List ℕ} {w w' e e' : ℕ} where
    -- A character that is not taken.
    pub char_stops : (c : ℕ) {answer : ℕ} → answer ≡ calls_for r.context c → answer ≢ done
        → Wrote (last_of builtin r.context answer (st_of r.held)) text w text' w' errors e errors' e'
        → Walks r.context (char_walk builtin r.context (at_of r) c (encode c)) text w errors e
        (record { answer = answer; «record» = r; ends = record { text = w'; errors = e' } }) text' errors'
    unfolding char_walk
    char_stops c {answer} is calls wrote = rw (← is, ne_eqb answer done calls) (record { answered = refl; recorded = o.whole; wrote = wrote })

    -- A character that is taken.
    pub char_goes : (c : ℕ) → calls_for r.context c ≡ done → {next : Held}
        → let t = step builtin r.context (st_of r.held) (r.taken - r.part_count) c (encode c) in
        next ≡ held_of t.next → Wrote t.gives text w text' w' errors e errors' e'
        → Walks r.context (char_walk builtin r.context (at_of r) c (encode c)) text w errors e
        (record {
          answer = 0;
          «record» = record { context = r.context; held = next; part = 0 ∷ 0 ∷ 0 ∷ []; part_count = 0; taken = r.taken + 1 };
          ends = record { text = w'; errors = e' };
        }) text' errors'
    unfolding char_walk record_of
    char_goes c calls is wrote =
        rw (calls, part_long.0) (record { answered = refl; recorded = rw (is, add-one r.taken); wrote = wrote })

  -- A byte with which a character is whole.
  byte_is_char : (b c n : ℕ) → read_char ((at_of r).part ++ b ∷ []) ≡ Char c n
      → char_walk builtin r.context (at_of r) c (encode c) ≡ byte_walk builtin r.context (at_of r) b
  unfolding char_walk byte_walk
  byte_is_char b c n read = rw (own_encoded (at_of r).part b c n o.at.begun read, read)

  module _ {text errors : List ℕ} {w e : ℕ} where
    pub byte_char : (b : ℕ) {c n : ℕ} {x : code.Walked} {text' errors' : List ℕ} → read_char ((at_of r).part ++ b ∷ []) ≡ Char c n
        → Walks r.context (char_walk builtin r.context (at_of r) c (encode c)) text w errors e x text' errors'
        → Walks r.context (byte_walk builtin r.context (at_of r) b) text w errors e x text' errors'
    byte_char b {c} {n} {x} {text'} {errors'} read walks =
        subst (λ (y : Walked). Walks r.context y text w errors e x text' errors') (byte_is_char b c n read) walks

    -- A byte with which it is not whole yet.
    pub byte_kept : (b : ℕ) {n : ℕ} {kept : Stream} → read_char ((at_of r).part ++ b ∷ []) ≡ Incomplete n
        → kept ≡ record_of r.context (at_by (st_of r.held) ((at_of r).part ++ b ∷ []) (r.taken + 1))
        → Walks r.context (byte_walk builtin r.context (at_of r) b) text w errors e
        (record { answer = 0; «record» = kept; ends = record { text = w; errors = e } }) text errors
    unfolding byte_walk
    byte_kept b read is =
        rw read
        (record {
          answered = refl;
          recorded = is ∙ ap (λ (n : ℕ). record_of r.context (at_by (st_of r.held) ((at_of r).part ++ b ∷ []) n)) (add-one r.taken);
          wrote = wrote_none text w errors e;
        })

    -- An ill-formed byte.
    pub byte_ill : (b : ℕ) {n : ℕ} → read_char ((at_of r).part ++ b ∷ []) ≡ Illformed n
        → Walks r.context (byte_walk builtin r.context (at_of r) b) text w errors e
        (record { answer = 1; «record» = r; ends = record { text = w; errors = e } }) text errors
    unfolding byte_walk
    byte_ill b read = rw read (record { answered = refl; recorded = o.whole; wrote = wrote_none text w errors e })
