-- What each state of the machine says is held: a character more holds it on or ends it, and an `&` settles it as the end does.
use Rattle.std.specs.Prelude.{if◌then◌else◌}
use Prim.Native.Nat.{ℕ, ◌-◌, ◌≤◌}
use Prim.Native.Char.{code}
use mathlib.Core.Path.{◌≡◌, refl, sym, ◌∙◌, ap, subst}
use mathlib.Core.List.{List, [], ◌∷◌, ◌++◌, append_assoc, append-nil}
use mathlib.Core.Bool.{Bool, true, false}
use native.Mathlib.Omega.{arith}
use lib.Dec.{eqb}
use lib.ListN.{length, drop}
use borrow.Author.Tests.{eqb-true, le-ltb}
use Rattle.lists.specs.Notation.{next, next_passes, every}
use Rattle.lists.proofs.Choice.{no_way, if_both}
use Rattle.standard.specs.declared.Context.{Context}
use Rattle.standard.specs.declared.names.Found.{Found}
use Rattle.standard.specs.Errors.{listed, placed}
use Rattle.standard.specs.Classes.{alphanumeric, character_code}
use Rattle.standard.specs.Numbers.{digit_of, is_digit}
use Rattle.standard.specs.Names.{Name, longest, begins}
use Rattle.standard.specs.Pieces.{Piece, named_by}
use Rattle.standard.specs.Reading.{Reading, reading, reading_at, ◌⊕◌}
use Rattle.standard.proofs.Narrow.{longest-fits}
use Rattle.standard.proofs.Joining.{⊕-none}
use Rattle.decoder.specs.Held.{is_x, held_name, held_number, held_after}
use Rattle.decoder.specs.Machine.{
  St,
  Data,
  AfterCr,
  Begin,
  Octothorpe,
  HexBegin,
  Numeric,
  Named,
  BogusName,
  Step,
  to,
  step_after,
  nothing,
  text_only,
  no_digits,
  add_digit,
  finish_numeric,
  finish_named,
  step_data,
  step_bogus,
  settle,
  step_named,
  step,
  finish,
}
use Rattle.decoder.proofs.Looks.{alphanumeric-ascii, digit-ascii, equal_ascii, is_x_ascii}
use Rattle.decoder.proofs.Means.{named-near}
use Rattle.decoder.proofs.Tidy.{Tidy, Alphanumerics, goes_on}
use Rattle.decoder.proofs.Unfolding.{all_append}
use Rattle.decoder.proofs.Layer.{Own, one, several, own_byte, own_fails}
use Rattle.decoder.proofs.HeldNames.{begins-more, begins-first, unheld_name, held_letters, closed_unheld, begins_ampersand}

-- The states in which nothing is held.
abbrev pub idle : St → Bool
idle Data = true
idle AfterCr = true
idle (Begin q) = false
idle (Octothorpe q) = false
idle (HexBegin q letter) = false
idle (Numeric q intro base value) = false
idle (Named q held) = false
idle (BogusName q) = true

-- What is held with the bytes t after it is still held.
abbrev pub held_on : List Name → St → List ℕ → Bool
held_on names Data t = false
held_on names AfterCr t = false
held_on names (Begin q) t = held_after names t
held_on names (Octothorpe q) t = held_number t
held_on names (HexBegin q letter) t = every (is_digit 16) t
held_on names (Numeric q intro base value) t = every (is_digit base) t
held_on names (Named q held) t = held_name names (held ++ t)
held_on names (BogusName q) t = false

-- Something is held, and is what the state says.
abbrev pub SomethingHeld : List Name → St → Type 0
SomethingHeld names Data = ⊥
SomethingHeld names AfterCr = ⊥
SomethingHeld names (Begin q) = Unit {0}
SomethingHeld names (Octothorpe q) = Unit {0}
SomethingHeld names (HexBegin q letter) = Unit {0}
SomethingHeld names (Numeric q intro base value) = base ≤ 16
SomethingHeld names (Named q held) = Alphanumerics held × (begins names held ≡ true)
SomethingHeld names (BogusName q) = ⊥

-- A step on the own bytes of a character that is no `&`: what is held is over, or it goes on and nothing is released.
pub data Goes (names : List Name) (st : St) (own : List ℕ) (r : Step) : Type 0 where
  over : idle r.next ≡ true → ((t : List ℕ) → held_on names st (own ++ t) ≡ false) → Goes names st own r
  on : r.gives ≡ nothing → SomethingHeld names r.next → ((t : List ℕ) → held_on names st (own ++ t) ≡ held_on names r.next t)
      → Goes names st own r

-- Where a test fails at the next element, not every element passes.
every_fails : (p : ℕ → Bool) {own : List ℕ} {c : ℕ} → Own own c → (t : List ℕ) → next_passes p (own ++ t) ≡ false → every p (own ++ t) ≡ false
every_fails p (one h) t e = rw e
every_fails p (several k all) t e = rw e

-- Neither `x` nor a digit: no number.
number_fails : {own : List ℕ} {c : ℕ} → Own own c → (t : List ℕ) → next_passes is_x (own ++ t) ≡ false → next_passes (is_digit 10) (own ++ t) ≡ false
    → held_number (own ++ t) ≡ false
number_fails (one h) t e f = rw (e, f)
number_fails (several k all) t e f = rw (e, f)

-- After `&`, what is no `#` is a name's beginning if it is held.
after-name : (names : List Name) {own : List ℕ} {c : ℕ} → Own own c → (t : List ℕ) → next (code "#") (own ++ t) ≡ false
    → held_after names (own ++ t) ≡ held_name names (own ++ t)
after-name names (one h) t e = rw e
after-name names (several k all) t e = rw e

-- Nothing is held after a character that is no `&` where nothing was.
data_idle : (p c : ℕ) (own : List ℕ) → eqb c (code "&") ≡ false → idle (step_data p c own).next ≡ true
unfolding step_data
data_idle p c own e = go (eqb c (code "\r"))
  where
    go : (u : Bool) → idle (if u then to (text_only (code "\n" ∷ [])) AfterCr
        else if eqb c (code "&") then to nothing (Begin p)
        else to (reading own (placed p (listed (character_code c)))) Data).next ≡ true
    go true = refl
    go false = rw e

-- Nor in a name that is no name.
bogus_idle : (q p c : ℕ) (own : List ℕ) → eqb c (code "&") ≡ false → idle (step_bogus q p c own).next ≡ true
unfolding step_bogus
bogus_idle q p c own e =
    if_both Idle (alphanumeric c) _ _ (λ i. refl) (λ i. if_both Idle (eqb c (code ";")) _ _ (λ j. refl) (λ j. data_idle p c own e))
  where
    Idle : Step → Type 0
    Idle r = idle r.next ≡ true

-- Nor in any idle state.
pub idle-step : (names : List Name) (context : Context) (st : St) (p c : ℕ) (own : List ℕ) → idle st ≡ true → eqb c (code "&") ≡ false
    → idle (step names context st p c own).next ≡ true
unfolding step
idle-step names context Data p c own i e = data_idle p c own e
idle-step names context AfterCr p c own i e =
    if_both (λ (r : Step). idle r.next ≡ true) (eqb c (code "\n")) _ _ (λ j. refl) (λ j. data_idle p c own e)
idle-step names context (Begin q) p c own i e = no_way (sym i)
idle-step names context (Octothorpe q) p c own i e = no_way (sym i)
idle-step names context (HexBegin q letter) p c own i e = no_way (sym i)
idle-step names context (Numeric q intro base value) p c own i e = no_way (sym i)
idle-step names context (Named q held) p c own i e = no_way (sym i)
idle-step names context (BogusName q) p c own i e = bogus_idle q p c own e

-- At the end an idle state releases nothing.
pub idle-finish : (names : List Name) (context : Context) (st : St) → idle st ≡ true → finish names context st ≡ nothing
unfolding finish
idle-finish names context Data i = refl
idle-finish names context AfterCr i = refl
idle-finish names context (Begin q) i = no_way (sym i)
idle-finish names context (Octothorpe q) i = no_way (sym i)
idle-finish names context (HexBegin q letter) i = no_way (sym i)
idle-finish names context (Numeric q intro base value) i = no_way (sym i)
idle-finish names context (Named q held) i = no_way (sym i)
idle-finish names context (BogusName q) i = refl

-- What is held is held with nothing after it.
pub held_now : (names : List Name) (st : St) → SomethingHeld names st → held_on names st [] ≡ true
held_now names Data k = absurd k
held_now names AfterCr k = absurd k
held_now names (Begin q) k = refl
held_now names (Octothorpe q) k = refl
held_now names (HexBegin q letter) k = refl
held_now names (Numeric q intro base value) k = refl
held_now names (Named q held) k = rw (append-nil held) (held_letters names held k.0 k.1)
held_now names (BogusName q) k = absurd k

-- An `&` is a digit of no base up to sixteen.
no_digit : (base : ℕ) → base ≤ 16 → is_digit base (code "&") ≡ false
unfolding digit_of
no_digit base few = le-ltb 16 base few

-- With an `&` after it nothing is held.
pub held-over : (names : List Name) (st : St) (t : List ℕ) → Tidy names → SomethingHeld names st → held_on names st (code "&" ∷ t) ≡ false
held-over names Data t tidy k = absurd k
held-over names AfterCr t tidy k = absurd k
held-over names (Begin q) t tidy k = unheld_name names (code "&" ∷ t) (begins_ampersand names [] t tidy tt)
held-over names (Octothorpe q) t tidy k = rw (no_digit 10 (omega arith))
held-over names (HexBegin q letter) t tidy k = rw (no_digit 16 (omega arith))
held-over names (Numeric q intro base value) t tidy k = rw (no_digit base k)
held-over names (Named q held) t tidy k = unheld_name names (held ++ code "&" ∷ t) (begins_ampersand names held t tidy k.0)
held-over names (BogusName q) t tidy k = absurd k

-- What a state says is held after a character is what another says.
same-goes : {names : List Name} {st other : St} {own : List ℕ} {r : Step}
    → ((t : List ℕ) → held_on names st (own ++ t) ≡ held_on names other (own ++ t)) → Goes names other own r → Goes names st own r
same-goes same (over i f) = over i (λ t. same t ∙ f t)
same-goes same (on g k f) = on g k (λ t. same t ∙ f t)

module _ (names : List Name) (context : Context) (tidy : Tidy names) where
  -- A character that a name goes on with is a letter or digit, or `;`.
  letters : (h : List ℕ) {own : List ℕ} {c : ℕ} → Alphanumerics h → Own own c → begins names (h ++ own) ≡ true → eqb c (code ";") ≡ false
      → Alphanumerics own
  letters h al (one {b} k) f j = (goes_on names h b [] tidy al f j, tt)
  letters h al (several {b} {c} {o} k all) f j =
      no_way
      (sym (goes_on names h b o tidy al f (equal_ascii (code ";") (omega arith) b all.0)) ∙ alphanumeric-ascii b all.0)

  -- A name goes on, is closed, or is settled.
  named_goes : (q p : ℕ) (h : List ℕ) {own : List ℕ} {c : ℕ} → Alphanumerics h → Own own c → eqb c (code "&") ≡ false
      → Goes names (Named q h) own (step_named names context q h p c own)
  unfolding step_named settle
  named_goes q p h {own} {c} al is e = go (begins names (h ++ own)) refl
    where
      Closes : List ℕ → Type 0
      Closes own = begins names (h ++ own) ≡ true → (t : List ℕ) → held_name names (h ++ (own ++ t)) ≡ false

      closing : (u : Bool) → eqb c (code ";") ≡ u → begins names (h ++ own) ≡ true → Goes names (Named q h) own
          (if u then to (finish_named context q (longest names (h ++ own)) (h ++ own) []) Data else to nothing (Named q (h ++ own)))
      closing true j f =
          over refl
          (own_byte (λ c. eqb c (code ";")) (equal_ascii (code ";") (omega arith)) Closes is j
          (subst (λ (x : ℕ). Closes (x ∷ [])) (sym (eqb-true c (code ";") j)) (λ i t. closed_unheld names h t tidy al i)) f)
      closing false j f =
          on refl (all_append (λ (c : ℕ). alphanumeric c ≡ true) h own al (letters h al is f j), f)
          (λ t. ap (held_name names) (sym (append_assoc h own t)))

      go : (t : Bool) → begins names (h ++ own) ≡ t → Goes names (Named q h) own
          (if t then (if eqb c (code ";") then to (finish_named context q (longest names (h ++ own)) (h ++ own) []) Data
          else to nothing (Named q (h ++ own)))
          else settle context q (longest names h) h p c own)
      go true f = closing (eqb c (code ";")) refl f
      go false f =
          over
          (if_both (λ (r : Step). idle r.next ≡ true) (eqb (longest names h).len 0) _ _ (λ i. bogus_idle q p c own e)
          (λ i. data_idle p c own e))
          (λ t. unheld_name names (h ++ (own ++ t)) (ap (begins names) (sym (append_assoc h own t)) ∙ begins-more names (h ++ own) t f))

  -- After `&`.
  begin_goes : (q p : ℕ) {own : List ℕ} {c : ℕ} → Own own c → eqb c (code "&") ≡ false
      → Goes names (Begin q) own (step names context (Begin q) p c own)
  unfolding step
  begin_goes q p {own} {c} is e = go (eqb c (code "#")) (alphanumeric c) refl refl
    where
      name : eqb c (code "#") ≡ false → (t : List ℕ) → held_after names (own ++ t) ≡ held_name names (own ++ t)
      name i t = after-name names is t (own_fails (λ c. eqb c (code "#")) (equal_ascii (code "#") (omega arith)) is i t)

      none : alphanumeric c ≡ false → {own : List ℕ} → Own own c → (t : List ℕ) → begins names (own ++ t) ≡ false
      none j (one {b} k) t = begins-first names b t tidy j
      none j (several {b} {c} {o} k all) t = begins-first names b (o ++ t) tidy (alphanumeric-ascii b all.0)

      go : (t u : Bool) → eqb c (code "#") ≡ t → alphanumeric c ≡ u → Goes names (Begin q) own
          (if t then to nothing (Octothorpe q)
          else if u then step_named names context q [] p c own
          else step_after (text_only (code "&" ∷ [])) (step_data p c own))
      go true u i j =
          own_byte (λ c. eqb c (code "#")) (equal_ascii (code "#") (omega arith))
          (λ own. Goes names (Begin q) own (to nothing (Octothorpe q))) is i (on refl tt (λ t. rw i))
      go false true i j = same-goes {other = Named q []} (name i) (named_goes q p [] tt is e)
      go false false i j = over (data_idle p c own e) (λ t. name i t ∙ unheld_name names (own ++ t) (none j is t))

  -- After `&#`.
  octothorpe_goes : (q p : ℕ) {own : List ℕ} {c : ℕ} → Own own c → eqb c (code "&") ≡ false
      → Goes names (Octothorpe q) own (step names context (Octothorpe q) p c own)
  unfolding step
  octothorpe_goes q p {own} {c} is e = go (is_x c) (is_digit 10 c) refl refl
    where
      go : (t u : Bool) → is_x c ≡ t → is_digit 10 c ≡ u → Goes names (Octothorpe q) own
          (if t then to nothing (HexBegin q c)
          else if u then to nothing (Numeric q (code "&" ∷ code "#" ∷ []) 10 (digit_of c))
          else step_after (no_digits q (code "&" ∷ code "#" ∷ [])) (step_data p c own))
      go true u i j =
          own_byte is_x is_x_ascii (λ own. Goes names (Octothorpe q) own (to nothing (HexBegin q c))) is i (on refl tt (λ t. rw i))
      go false true i j =
          own_byte (is_digit 10) (digit-ascii 10 (omega arith))
          (λ own. Goes names (Octothorpe q) own (to nothing (Numeric q (code "&" ∷ code "#" ∷ []) 10 (digit_of c)))) is j
          (on refl (omega arith) (λ t. rw (i, j)))
      go false false i j =
          over (data_idle p c own e)
          (λ t. number_fails is t (own_fails is_x is_x_ascii is i t) (own_fails (is_digit 10) (digit-ascii 10 (omega arith)) is j t))

  -- One digit more, or none.
  digit_goes : (st : St) (base : ℕ) {own : List ℕ} {c : ℕ} (next : St) (r : Step) → base ≤ 16 → Own own c
      → ((t : List ℕ) → held_on names st t ≡ every (is_digit base) t) → ((t : List ℕ) → held_on names next t ≡ every (is_digit base) t)
      → SomethingHeld names next → idle r.next ≡ true → Goes names st own (if is_digit base c then to nothing next else r)
  digit_goes st base {own} {c} next r few is from goal keeps i = go (is_digit base c) refl
    where
      go : (t : Bool) → is_digit base c ≡ t → Goes names st own (if t then to nothing next else r)
      go true j =
          own_byte (is_digit base) (digit-ascii base few) (λ own. Goes names st own (to nothing next)) is j
          (on refl keeps (λ t. from (c ∷ t) ∙ rw j (sym (goal t))))
      go false j =
          over i (λ t. from (own ++ t) ∙ every_fails (is_digit base) is t (own_fails (is_digit base) (digit-ascii base few) is j t))

  -- What is held goes on or is over, in each state.
  pub goes : (st : St) (p : ℕ) {own : List ℕ} {c : ℕ} → SomethingHeld names st → Own own c → eqb c (code "&") ≡ false
      → Goes names st own (step names context st p c own)
  unfolding step
  goes Data p k is e = absurd k
  goes AfterCr p k is e = absurd k
  goes (Begin q) p k is e = begin_goes q p is e
  goes (Octothorpe q) p k is e = octothorpe_goes q p is e
  goes (HexBegin q letter) p {own} {c} k is e =
      digit_goes (HexBegin q letter) 16 (Numeric q (code "&" ∷ code "#" ∷ letter ∷ []) 16 (digit_of c)) _ (omega arith) is (λ t. refl) (λ t. refl)
      (omega arith) (data_idle p c own e)
  goes (Numeric q intro base value) p {own} {c} k is e =
      digit_goes (Numeric q intro base value) base (Numeric q intro base (add_digit base value c)) _ k is (λ t. refl) (λ t. refl) k
      (if_both (λ (r : Step). idle r.next ≡ true) (eqb c (code ";")) _ _ (λ i. refl) (λ i. data_idle p c own e))
  goes (Named q held) p k is e = named_goes q p held k.0 is e
  goes (BogusName q) p k is e = absurd k

  -- What is next after a name that is held is `&` or nothing: it makes the same of its bytes.
  named_last : (found : Found) (h : List ℕ) → eqb found.len 0 ≡ false → found.len ≤ length h
      → named_by context found (h ++ code "&" ∷ []) ≡ named_by context found (h ++ [])
  named_last found h e fits = named-near context found h (code "&" ∷ []) [] e fits refl

  -- An `&` settles a name as the end does.
  named_ampersand : (q p : ℕ) (h : List ℕ) → Alphanumerics h
      → step_named names context q h p (code "&") (code "&" ∷ []) ≡ to (finish names context (Named q h)) (Begin p)
  unfolding step_named settle step_bogus step_data finish finish_named
  named_ampersand q p h al = rw (begins_ampersand names h [] tidy al) (go (eqb (longest names h).len 0) refl)
    where
      go : (u : Bool) → eqb (longest names h).len 0 ≡ u
          → (if u then step_after (text_only (code "&" ∷ h)) (step_bogus q p (code "&") (code "&" ∷ []))
          else step_after (finish_named context q (longest names h) h (code "&" ∷ [])) (step_data p (code "&") (code "&" ∷ [])))
          ≡ to (if u then text_only (code "&" ∷ h) else finish_named context q (longest names h) h []) (Begin p)
      go true e = ap (λ (o : Reading). to o (Begin p)) (⊕-none (text_only (code "&" ∷ h)))
      go false e =
          ap (λ (o : Reading). to o (Begin p))
          (⊕-none (finish_named context q (longest names h) h (code "&" ∷ []))
          ∙ ap (λ (x : Piece). reading_at q x ⊕ text_only (drop (x.size - 1) h)) (named_last (longest names h) h e (longest-fits names h).0))

  -- An `&` settles what is held as the end does.
  pub kept_ampersand : (st : St) (p : ℕ) → SomethingHeld names st
      → step names context st p (code "&") (code "&" ∷ []) ≡ to (finish names context st) (Begin p)
  unfolding step step_data finish
  kept_ampersand Data p k = absurd k
  kept_ampersand AfterCr p k = absurd k
  kept_ampersand (Begin q) p k = refl
  kept_ampersand (Octothorpe q) p k = rw (no_digit 10 (omega arith))
  kept_ampersand (HexBegin q letter) p k = rw (no_digit 16 (omega arith))
  kept_ampersand (Numeric q intro base value) p k =
      rw (no_digit base k) (ap (λ (o : Reading). to o (Begin p)) (⊕-none (finish_numeric q value false)))
  kept_ampersand (Named q held) p k = named_ampersand q p held k.0
  kept_ampersand (BogusName q) p k = absurd k

  -- Where nothing is held it releases nothing.
  pub idle_ampersand : (st : St) (p : ℕ) → idle st ≡ true → step names context st p (code "&") (code "&" ∷ []) ≡ to nothing (Begin p)
  unfolding step step_data step_bogus
  idle_ampersand Data p i = refl
  idle_ampersand AfterCr p i = refl
  idle_ampersand (Begin q) p i = no_way (sym i)
  idle_ampersand (Octothorpe q) p i = no_way (sym i)
  idle_ampersand (HexBegin q letter) p i = no_way (sym i)
  idle_ampersand (Numeric q intro base value) p i = no_way (sym i)
  idle_ampersand (Named q held) p i = no_way (sym i)
  idle_ampersand (BogusName q) p i = refl
