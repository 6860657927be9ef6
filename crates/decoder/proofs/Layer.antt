-- The bytes of a stream one by one: a list after another, and the own bytes of a whole character.
use Rattle.std.specs.Prelude.{if◌then◌else◌}
use Prim.Native.Nat.{ℕ, suc, ◌≤◌, ◌<◌}
use Prim.Native.Char.{code}
use mathlib.Core.Path.{◌≡◌, refl, sym, ◌∙◌, ap, subst}
use mathlib.Core.List.{List, [], ◌∷◌, ◌++◌}
use mathlib.Core.Logic.{⊎_elim}
use mathlib.Core.Bool.{Bool, true, false, not}
use native.Mathlib.Omega.{arith}
use lib.Dec.{ltb, eqb}
use lib.ListN.{length, take, drop, length-append, take-append-drop}
use lib.Seq.{take-length, take-append-le}
use borrow.Author.Tests.{le-ltb, eq-eqb, ne_eqb}
use Rattle.lists.specs.Notation.{next_passes}
use Rattle.lists.proofs.Choice.{no_way, if_both, below?}
use Rattle.lists.proofs.Every.{All}
use Rattle.standard.specs.declared.Context.{Context}
use Rattle.standard.specs.declared.characters.CharRead.TheVariants.{Char}
use Rattle.standard.specs.Utf8.{octets, read_char}
use Rattle.standard.specs.Answers.{done}
use Rattle.standard.specs.Names.{Name}
use Rattle.standard.specs.Reading.{Reading}
use Rattle.standard.proofs.Back.{read_back}
use Rattle.standard.proofs.RoundTrip.{encode-octets}
use Rattle.standard.proofs.Utf8.{read-append, read_length, read_take}
use Rattle.decoder.specs.Stream.{At, called_for, move_by, Walked, stops_at, onward, last_of, is_part}
use Rattle.decoder.proofs.AnyMachine.{Ran, ran, before, run, run_append}
use Rattle.decoder.proofs.Bytes.{go}
use Rattle.decoder.proofs.Looks.{Looks, ascii, wide, looks, AsciiOnly, equal_ascii}

-- The machine of a stream, byte by byte: the bytes of the character so far, the answer that it calls for, its move, and what is released last.
module _ (names : List Name) (context : Context) where
  abbrev own : At → ℕ → List ℕ
  own at b = at.part ++ b ∷ []

  abbrev calls : At → ℕ → ℕ
  calls at b = called_for context (read_char (own at b))

  abbrev gives : At → ℕ → Reading
  gives at b = (move_by names context at (read_char (own at b)) (own at b)).gives

  abbrev next : At → ℕ → At
  next at b = (move_by names context at (read_char (own at b)) (own at b)).to

  abbrev last : At → ℕ → Reading
  last at b = last_of names context (calls at b) at.st

  -- What a run comes to, as a walk.
  abbrev walked : Ran At → Walked
  walked r = stops_at r.answer r.gives r.stop

  -- A walk is a run of this machine.
  go_run : (at : At) (s : List ℕ) → go names context at s ≡ walked (run calls gives next last at s)
  unfolding go run
  go_run at [] = refl
  go_run at (b ∷ s) = choice (not (eqb (calls at b) done)) (go_run (next at b) s)
    where
      choice : (u : Bool) → go names context (next at b) s ≡ walked (run calls gives next last (next at b) s)
          → (if u then stops_at (calls at b) (last at b) at else onward (gives at b) (go names context (next at b) s))
          ≡ walked (if u then ran (calls at b) (last at b) at else before (gives at b) (run calls gives next last (next at b) s))
      choice true later = refl
      choice false later = ap (onward (gives at b)) later

  -- A walk that goes on over t where it was not stopped.
  abbrev pub then_go : List ℕ → Walked → Walked
  then_go t w = if eqb w.answer done then onward w.gives (go names context w.stop t) else w

  -- So a walk over two lists is a walk over the first that goes on over the second.
  pub go_append : (at : At) (s t : List ℕ) → go names context at (s ++ t) ≡ then_go t (go names context at s)
  go_append at s t =
      let r = run calls gives next last at s in
      go_run at (s ++ t) ∙ ap walked (run_append calls gives next last at s t) ∙ choice (eqb r.answer done) r ∙ ap (then_go t) (sym (go_run at s))
    where
      choice : (u : Bool) (r : Ran At) → walked (if u then before r.gives (run calls gives next last r.stop t) else r)
          ≡ (if u then onward r.gives (go names context r.stop t) else walked r)
      choice true r = ap (onward r.gives) (sym (go_run r.stop t))
      choice false r = refl

module _ (names : List Name) (context : Context) (at : At) (s t : List ℕ) where
  -- So it goes on where the first list is all taken.
  pub go_onward : let w = go names context at s in w.answer ≡ done
      → go names context at (s ++ t) ≡ onward w.gives (go names context w.stop t)
  go_onward e = go_append names context at s t ∙ rw (eq-eqb (go names context at s).answer done e)

  -- And it stays where it was stopped.
  pub go_stays : let w = go names context at s in (w.answer ≡ done → ⊥) → go names context at (s ++ t) ≡ w
  go_stays n = go_append names context at s t ∙ rw (ne_eqb (go names context at s).answer done n)

-- A byte past ASCII.
abbrev High : ℕ → Type 0
High b = 0x80 ≤ b

-- The bytes of a character past ASCII are past ASCII.
octets-high : (c : ℕ) → 0x80 ≤ c → All High (octets c)
unfolding octets
octets-high c h =
    rw (le-ltb c 0x80 h)
    (if_both (All High) (ltb c 0x800) _ _ (λ t. omega arith)
    (λ t. if_both (All High) (ltb c 0x10000) _ _ (λ u. omega arith) (λ u. omega arith)))

-- The own bytes of a character c: one of ASCII, or several past it.
pub data Own : List ℕ → ℕ → Type 0 where
  one : {b : ℕ} → b < 0x80 → Own (b ∷ []) b
  several : {b c : ℕ} {o : List ℕ} → 0x80 ≤ c → All High (b ∷ o) → Own (b ∷ o) c

-- A character that is at the front of no more bytes than it has.
looks_whole : {s : List ℕ} {c n : ℕ} → Looks s c n → n ≡ length s → Own s c
looks_whole (ascii {b} {s = []} h) e = one h
looks_whole (ascii {b} {s = x ∷ s} h) e = absurd (omega arith)
looks_whole (wide {b} {c} {n} {s} h k r) e =
    let w = read_back (b ∷ s) c (suc n) r in
    let own : octets c ≡ b ∷ s
    = sym (encode-octets c w.1) ∙ w.0 ∙ ap (λ (i : ℕ). take i (b ∷ s)) e ∙ take-length (b ∷ s) in
    several k (subst (All High) own (octets-high c k))

-- What is read of bytes and takes them all.
pub whole-own : (own : List ℕ) (c : ℕ) → read_char own ≡ Char c (length own) → Own own c
whole-own own c e = looks_whole (looks own c (length own) e) refl

-- The byte that makes a character whole is its last.
pub completes_own : (part : List ℕ) (b c n : ℕ) → is_part (read_char part) ≡ true → read_char (part ++ b ∷ []) ≡ Char c n
    → n ≡ length (part ++ b ∷ [])
completes_own part b c n h e =
    let w = read_length (part ++ b ∷ []) c n e in
    ⊎_elim (λ (k : length part < n). let i = length-append part (b ∷ []) in omega arith) early (below? (length part) n)
  where
    early : n ≤ length part → n ≡ length (part ++ b ∷ [])
    early k =
        let before : read_char (take n part) ≡ Char c n
        = ap read_char (sym (take-append-le n part (b ∷ []) k)) ∙ read_take (part ++ b ∷ []) c n e in
        let all : read_char part ≡ Char c n
        = ap read_char (sym (take-append-drop n part)) ∙ read-append (take n part) (drop n part) (Char c n) before tt in
        no_way (sym h ∙ ap is_part all)

module _ (p : ℕ → Bool) (only : AsciiOnly p) where
  -- A character that passes a test of ASCII is its own byte.
  pub own_byte : (P : List ℕ → Type 0) {own : List ℕ} {c : ℕ} → Own own c → p c ≡ true → P (c ∷ []) → P own
  own_byte P (one h) e is = is
  own_byte P (several {b} {c} k all) e is = no_way (sym e ∙ only c k)

  -- Where it fails the test so does the first byte.
  pub own_fails : {own : List ℕ} {c : ℕ} → Own own c → p c ≡ false → (t : List ℕ) → next_passes p (own ++ t) ≡ false
  own_fails (one h) e t = e
  own_fails (several {b} k all) e t = only b all.0

-- No byte is an `&`.
abbrev pub Calm : List ℕ → Type 0
Calm s = All (λ (c : ℕ). eqb c (code "&") ≡ false) s

-- No byte past ASCII is one.
high_calm : (s : List ℕ) → All High s → Calm s
high_calm [] all = tt
high_calm (b ∷ s) all = (equal_ascii (code "&") (omega arith) b all.0, high_calm s all.1)

-- A character that is no `&` has none among its bytes.
pub own_calm : {own : List ℕ} {c : ℕ} → Own own c → eqb c (code "&") ≡ false → Calm own
own_calm (one h) e = (e, tt)
own_calm (several {b} {c} {o} k all) e = high_calm (b ∷ o) all
