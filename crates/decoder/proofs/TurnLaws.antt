-- Laws of a turn: the ASCII tests of a character, the bytes that are held, and what is released of them before a step.
use Prim.Native.Nat.{ℕ, suc, ◌+◌, ◌-◌, ◌≤◌, ◌<◌, min}
use Prim.Native.Char.{code}
use mathlib.Core.Path.{◌≡◌, refl, sym, ◌∙◌, ap, subst}
use mathlib.Core.List.{List, [], ◌∷◌, ◌++◌, append_assoc, append-nil}
use mathlib.Core.Bool.{Bool, true, false}
use mathlib.Core.Logic.{◌≢◌, ⊎_elim}
use native.Mathlib.Omega.{arith}
use lib.Dec.{ltb, eqb}
use lib.ListN.{length, get_or, take, drop, set, replicate, length-append, length-replicate}
use lib.Seq.{drop-length, take-append_seam, set-append_seam}
use borrow.Author.Tests.{lt-ltb, le-ltb, eq-eqb, ne_eqb, eqb-true}
use Rattle.lists.proofs.Choice.{below?, or_true}
use Rattle.standard.specs.declared.Context.{Context}
use Rattle.standard.specs.Utf8.{octets, encode}
use Rattle.standard.specs.Errors.{placed}
use Rattle.standard.specs.Classes.{alphanumeric, character_code}
use Rattle.standard.specs.Numbers.{digit_of, is_digit, meaning_of}
use Rattle.standard.specs.NameList.{builtin}
use Rattle.standard.specs.Pieces as standard
use Rattle.standard.specs.Pieces.{encodes, ampersand}
use Rattle.standard.specs.Reading.{Reading, reading, reading_at, ◌⊕◌}
use Rattle.decoder.specs.declared.pieces.Piece.{Piece}
use Rattle.decoder.specs.declared.stream.Held.{Held}
use Rattle.decoder.specs.declared.stream.State.{State}
use Rattle.decoder.specs.declared.stream.State.TheVariants as kind
use Rattle.decoder.specs.declared.turns.Turn.{Turn}
use Rattle.decoder.specs.Machine.{St, Data, AfterCr, Begin, Step, to, step_after, nothing, text_only, finish_numeric, step_data, step, finish}
use Rattle.decoder.specs.Pieces.{piece_of, one_of, none_of}
use Rattle.decoder.specs.Stream.{padded, store_of, mark_of, kind_of, held_of, st_by, st_of}
use Rattle.decoder.specs.Turns.{ascii_of, Fits, Fit, Stored, released_of, Releases, Turns, Follows}
use Rattle.decoder.proofs.Looks.{AsciiOnly, alphanumeric-ascii, digit-ascii, equal_ascii, passes-ascii, is_x, is_x_ascii}
use Rattle.decoder.proofs.PieceLaws.{one-is, one_code, alone}

-- A test that only ASCII passes, of a character as a byte.
pub ascii_test : (p : ℕ → Bool) → AsciiOnly p → (c : ℕ) → p (ascii_of c) ≡ p c
unfolding ascii_of
ascii_test p only c =
    ⊎_elim (λ h. rw (lt-ltb c 0x80 h)) (λ h. rw (le-ltb c 0x80 h) (only 0x80 (omega arith) ∙ sym (only c h))) (below? c 0x80)

-- A character's byte b against an ASCII byte k.
module _ (k : ℕ) (few : k < 0x80) (c : ℕ) {b : ℕ} (is : b ≡ ascii_of c) where
  -- It is that.
  pub ascii_is : b ≡ k → eqb c k ≡ true
  ascii_is e = sym (ascii_test (λ x. eqb x k) (equal_ascii k few) c) ∙ eq-eqb _ k (sym is ∙ e)

  -- It is not.
  pub ascii_not : b ≢ k → eqb c k ≡ false
  ascii_not e = sym (ascii_test (λ x. eqb x k) (equal_ascii k few) c) ∙ ne_eqb _ k (λ same. e (is ∙ same))

-- A character is a letter or digit where its byte is one.
pub ascii_letter : (c : ℕ) {b : ℕ} {r t : Bool} → b ≡ ascii_of c → r ≡ alphanumeric b → r ≡ t → alphanumeric c ≡ t
ascii_letter c is read e = sym (read ∙ ap alphanumeric is ∙ ascii_test alphanumeric alphanumeric-ascii c) ∙ e

-- A character whose byte is an ASCII byte is that byte.
ascii-own : (k : ℕ) → k < 0x80 → (c : ℕ) {b : ℕ} → b ≡ ascii_of c → b ≡ k → c ≡ b
ascii-own k few c is e = eqb-true c k (ascii_is k few c is e) ∙ sym e

-- A character is `x` or `X` where its byte b is, and it is that byte.
module _ (c : ℕ) {b : ℕ} (is : b ≡ ascii_of c) where
  pub ascii_x : {t : Bool} → is_x b ≡ t → is_x c ≡ t
  ascii_x e = sym (ascii_test is_x is_x_ascii c) ∙ ap is_x (sym is) ∙ e

  pub ascii_x_own : is_x b ≡ true → c ≡ b
  ascii_x_own e =
      ⊎_elim (λ h. ascii-own (code "x") (omega arith) c is (eqb-true b (code "x") h))
      (λ h. ascii-own (code "X") (omega arith) c is (eqb-true b (code "X") h)) (or_true (eqb b (code "x")) (eqb b (code "X")) e)

-- A character's byte b as a digit of a base.
module _ (base : ℕ) (few : base ≤ 16) (c : ℕ) {b digit : ℕ} (is : b ≡ ascii_of c) (counts : digit ≡ digit_of b) where
  -- The test is the character's.
  digit_test : ltb digit base ≡ is_digit base c
  digit_test = rw (counts, is) (ascii_test (is_digit base) (digit-ascii base few) c)

  -- It is one, and counts as the character does.
  pub ascii_digit : digit < base → (is_digit base c ≡ true) × (digit_of c ≡ digit)
  unfolding ascii_of
  ascii_digit h =
      let e : is_digit base c ≡ true = sym digit_test ∙ lt-ltb digit base h in
      let low = passes-ascii (is_digit base) (digit-ascii base few) c e in
      (e, sym (counts ∙ ap digit_of (is ∙ rw (lt-ltb c 0x80 low))))

  -- It is none.
  pub ascii_no_digit : base ≤ digit → is_digit base c ≡ false
  ascii_no_digit h = sym digit_test ∙ le-ltb digit base h

-- What holds a state's bytes in its case at its place is that state as it is held.
held_as : (st : St) {held : Held} → held.state ≡ kind_of st → held.place ≡ mark_of st → Stored held (store_of st) → held ≡ held_of st
unfolding held_of
held_as st e f stored = λ i. record { state = e i; place = f i; store = stored.store_is i; count = stored.count_is i }

-- What a state holds is its bytes.
pub held-stored : {held : Held} (st : St) → held ≡ held_of st → Stored held (store_of st)
unfolding held_of
held-stored st e = record { store_is = ap (λ (h : Held). h.store) e; count_is = ap (λ (h : Held). h.count) e }

-- A character without an error of its own, after a piece x.
pub follows_text : {x own : Piece} {next : Held} (p c : ℕ) (st : St) → own ≡ one_of 1 c 0 0 → next ≡ held_of st
    → Follows x p (record { released = x; own = own; next = next }) (to (text_only (encode c)) st)
unfolding placed
follows_text p c st e is = record { first = refl; gives = ap (reading_at p) (ap piece_of e ∙ one_code 1 c 0); next = is }

-- A character that gives nothing, after a piece x.
pub follows_none : {x own : Piece} {next : Held} (p : ℕ) (st : St) → own ≡ none_of 0 → next ≡ held_of st
    → Follows x p (record { released = x; own = own; next = next }) (to nothing st)
unfolding encodes placed
follows_none p st e is = record { first = refl; gives = ap (λ (y : Piece). reading_at p (piece_of y)) e; next = is }

-- A piece of all the bytes s.
pub all_read : (q : ℕ) (s : List ℕ) (x : Piece) {y : standard.Piece} → piece_of x ≡ y → x.size ≡ length s
    → reading_at q (piece_of x) ⊕ text_only (drop x.size s) ≡ reading_at q y
all_read q s x {y} e n =
    (λ i. reading_at q (e i) ⊕ text_only (drop (n i) s)) ∙ (λ i. reading_at q y ⊕ text_only (drop-length s i))
    ∙ (λ i. reading (append-nil y.text i) (append-nil (placed q y.codes) i))

-- An `&` alone, and the bytes s after it.
pub alone-read : (q error : ℕ) (s : List ℕ)
    → reading_at q (piece_of (one_of 1 0x26 error 0)) ⊕ text_only s ≡ reading_at q (ampersand error) ⊕ text_only s
alone-read q error s = ap (λ (y : standard.Piece). reading_at q y ⊕ text_only s) (alone error)

module _ {held : Held} {s : List ℕ} (stored : Stored held s) where
  -- The bytes that are held are the first of the store.
  pub stored_bytes : take held.count held.store ≡ s
  stored_bytes = rw (stored.store_is, stored.count_is) (take-append_seam s (replicate (32 - length s) 0))

  -- The store has 32 bytes.
  pub stored_length : length s ≤ 32 → length held.store ≡ 32
  stored_length few = ap length stored.store_is ∙ simp (length-append, length-replicate) (omega arith)

  -- What is released of them.
  released_is : (x : Piece) → released_of held x ≡ reading_at held.place (piece_of x) ⊕ text_only (drop x.size s)
  released_is x = ap (λ (l : List ℕ). reading_at held.place (piece_of x) ⊕ text_only (drop x.size l)) stored_bytes

  -- A piece and the bytes after it are released.
  pub releases : {x y : Piece} {r : Reading} → x ≡ y → reading_at held.place (piece_of y) ⊕ text_only (drop y.size s) ≡ r → y.size ≤ length s
      → Releases held x r
  releases {x} {y} same e fits = record {
    gives = ap (released_of held) same ∙ released_is y ∙ e;
    within = rw (same, stored.count_is) fits;
  }

  -- They are released, and then the step is taken.
  pub turns : {x y : Piece} {p : ℕ} {t : Turn} {step : Step} {before : Reading} → Follows x p t step → x ≡ y
      → reading_at held.place (piece_of y) ⊕ text_only (drop y.size s) ≡ before → y.size ≤ length s → Turns held p t (step_after before step)
  turns follows same e fits =
      let r = releases (follows.first ∙ same) e fits in
      record { gives = λ i. r.gives i ⊕ follows.gives i; next = follows.next; within = r.within }

  -- They are released, and the character gives nothing.
  pub turns_last : {x y : Piece} {p : ℕ} {t : Turn} {st : St} {before : Reading} → Follows x p t (to nothing st) → x ≡ y
      → reading_at held.place (piece_of y) ⊕ text_only (drop y.size s) ≡ before → y.size ≤ length s → Turns held p t (to before st)
  turns_last {before = before} follows same e fits =
      let w = turns follows same e fits in
      record {
        gives = w.gives ∙ (λ i. reading (append-nil before.text i) (append-nil before.errors i));
        next = w.next;
        within = w.within;
      }

  -- A number of all of them, with its `;`.
  pub number_closed : (value : ℕ) {char error : ℕ} → char ≡ (meaning_of value).char → error ≡ (meaning_of value).code
      → reading_at held.place (piece_of (one_of held.count char error 0)) ⊕ text_only (drop held.count s)
      ≡ finish_numeric held.place value true
  number_closed value {char} {error} c e =
      all_read held.place s (one_of held.count char error 0) (one_code held.count char error) stored.count_is ∙ rw (c, e)

  -- A number without it.
  pub number_open : (value : ℕ) {char error : ℕ} → char ≡ (meaning_of value).char → error ≡ (meaning_of value).code
      → reading_at held.place (piece_of (one_of held.count char 2 error)) ⊕ text_only (drop held.count s)
      ≡ finish_numeric held.place value false
  number_open value {char} {error} c e =
      all_read held.place s (one_of held.count char 2 error) (one-is held.count char 2 error) stored.count_is ∙ rw (c, e)

  -- Nothing is released.
  pub turns_absorbed : {t : Turn} {count : ℕ} {next : Held} (p : ℕ) (st : St) → t ≡ record { released = none_of count; own = none_of 0; next = next }
      → count ≡ length s → next ≡ held_of st → Turns held p t (to nothing st)
  unfolding encodes placed
  turns_absorbed {t} {count} {next} p st e n is =
      turns {x = none_of count}
      (record {
        first = ap (λ (u : Turn). u.released) e;
        gives = ap (λ (u : Turn). reading_at p (piece_of u.own)) e;
        next = ap (λ (u : Turn). u.next) e ∙ is;
      })
      refl (λ i. text_only ((ap (λ (m : ℕ). drop m s) n ∙ drop-length s) i)) (omega arith)

  -- One byte more is held.
  pub stored_more : (b : ℕ) {more : Held} → length s < 32 → more.store ≡ set held.store held.count b → more.count ≡ held.count + 1
      → Stored more (s ++ b ∷ [])
  stored_more b few store count = record {
    store_is =
        let room : 32 - length s ≡ suc (31 - length s) = omega arith in
        let left : 32 - (length s + 1) ≡ 31 - length s = omega arith in
        store ∙ rw (stored.store_is, stored.count_is, room, set-append_seam, length-append, left, append_assoc);
    count_is = count ∙ rw (stored.count_is, length-append);
  }

  -- So what is held is another state.
  pub hold_is : (st : St) (b : ℕ) {next : Held}
      → next ≡ record { state = kind_of st; place = mark_of st; store = set held.store held.count b; count = held.count + 1 }
      → length s < 32 → store_of st ≡ s ++ b ∷ [] → next ≡ held_of st
  hold_is st b {next} e few is =
      held_as st (ap (λ (h : Held). h.state) e) (ap (λ (h : Held). h.place) e)
      (subst (Stored next) (sym is) (stored_more b few (ap (λ (h : Held). h.store) e) (ap (λ (h : Held). h.count) e)))

  -- The bytes stay, in another state.
  pub numeric_is : (st : St) {next : Held} → next ≡ record { state = kind_of st; place = mark_of st; store = held.store; count = held.count }
      → store_of st ≡ s → next ≡ held_of st
  numeric_is st e is =
      held_as st (ap (λ (h : Held). h.state) e) (ap (λ (h : Held). h.place) e)
      (record {
        store_is = ap (λ (h : Held). h.store) e ∙ stored.store_is ∙ ap (padded 32) (sym is);
        count_is = ap (λ (h : Held). h.count) e ∙ stored.count_is ∙ ap length (sym is);
      })

-- What is held, where it fits and its case is known.
module _ {held : Held} {kind : State} (fit : Fit held) (is : held.state ≡ kind) where
  -- The state that it is.
  abbrev told : St
  told = st_by kind held.place (take held.count held.store)

  -- It is that state as it is held.
  pub told_whole : held ≡ held_of told
  told_whole = fit.whole ∙ ap (λ (k : State). held_of (st_by k held.place (take held.count held.store))) is

  -- Its bytes.
  pub told_stored : Stored held (store_of told)
  told_stored = held-stored told told_whole

  -- The state fits.
  pub told_fits : Fits told
  told_fits = subst (λ (k : State). Fits (st_by k held.place (take held.count held.store))) is fit.fits

  -- A turn of that state is a turn of what is held.
  pub told_turns : (context : Context) (p c : ℕ) {t : Turn} → Turns held p t (step builtin context told p c (encode c))
      → Turns held p t (step builtin context (st_of held) p c (encode c))
  told_turns context p c {t} =
      subst (λ (k : State). Turns held p t (step builtin context (st_by k held.place (take held.count held.store)) p c (encode c))) (sym is)

  -- What it ends with is what is held ends with.
  pub told_releases : (context : Context) {x : Piece} → Releases held x (finish builtin context told)
      → Releases held x (finish builtin context (st_of held))
  told_releases context {x} =
      subst (λ (k : State). Releases held x (finish builtin context (st_by k held.place (take held.count held.store)))) (sym is)

-- A number that fits: its base, and its value that is within the limit.
pub number_fits : {held : Held} {base value : ℕ} → Fit held → held.state ≡ kind.Numeric base value → (base ≤ 16) × (value ≡ min value 0x110000)
unfolding Fits st_by held_of kind_of
number_fits {held} {base} {value} fit is =
    (⊎_elim (λ w. omega (arith, w.0)) (λ w. omega (arith, w.0)) (told_fits fit is).0, same)
  where
    whole : held.state ≡ kind.Numeric base (min value 0x110000)
    whole = ap (λ (h : Held). h.state) (told_whole fit is)

    same : value ≡ min value 0x110000
    same = cc

-- The letter of `&#x` is the third byte.
pub letter_is : {held : Held} (letter : ℕ) → Stored held (code "&" ∷ code "#" ∷ letter ∷ []) → letter ≡ get_or held.store 2 0
letter_is letter stored = rw stored.store_is

-- A piece x at the front, and then a character c where nothing is held.
module _ {x own : Piece} {p c : ℕ} {next : Held} where
  -- A CR.
  pub data_cr : c ≡ code "\r" → own ≡ one_of 1 0xA 0 0 → next ≡ held_of AfterCr
      → Follows x p (record { released = x; own = own; next = next }) (step_data p c (encode c))
  unfolding step_data encodes encode octets placed
  data_cr e f is = record { first = refl; gives = rw (e, f); next = rw (e, is) }

  -- An `&`.
  pub data_begin : c ≢ code "\r" → c ≡ code "&" → own ≡ none_of 0 → next ≡ held_of (Begin p)
      → Follows x p (record { released = x; own = own; next = next }) (step_data p c (encode c))
  unfolding step_data encodes placed
  data_begin other e f is = record { first = refl; gives = rw (e, f); next = rw (e, is) }

  -- Another character.
  pub data_other : c ≢ code "\r" → c ≢ code "&" → own ≡ one_of 1 c (character_code c) 0 → next ≡ held_of Data
      → Follows x p (record { released = x; own = own; next = next }) (step_data p c (encode c))
  unfolding step_data
  data_other other none e is = record {
    first = refl;
    gives = ap (reading_at p) (ap piece_of e ∙ one_code 1 c (character_code c)) ∙ rw (ne_eqb c (code "\r") other, ne_eqb c (code "&") none);
    next = is ∙ rw (ne_eqb c (code "\r") other, ne_eqb c (code "&") none);
  }
