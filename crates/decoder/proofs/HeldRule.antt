-- What the machine releases is what stands before the ending that is held: the rule of specs/Held.antt.
use Prim.Native.Nat.{ℕ}
use Prim.Native.Char.{code}
use mathlib.Core.Path.{◌≡◌, refl, sym, ◌∙◌, ap, subst}
use mathlib.Core.List.{List, [], ◌∷◌, ◌++◌, append_assoc, append-nil}
use mathlib.Core.Bool.{Bool, true, false}
use native.Mathlib.Omega.{arith}
use lib.Dec.{eqb}
use borrow.Author.Tests.{eqb-true}
use Rattle.standard.specs.declared.Context.{Context}
use Rattle.standard.specs.Names.{Name}
use Rattle.standard.specs.Reading.{Reading, ◌⊕◌, decode}
use Rattle.standard.proofs.Joining.{⊕-none}
use Rattle.decoder.specs.Held.{held_after, unheld}
use Rattle.decoder.specs.Machine.{St, Begin, Step, to, step, finish}
use Rattle.decoder.proofs.Looks.{equal_ascii}
use Rattle.decoder.proofs.Tidy.{Tidy}
use Rattle.decoder.proofs.Unfolding.{all_append}
use Rattle.decoder.proofs.Layer.{Own, own_byte, Calm, own_calm}
use Rattle.decoder.proofs.HeldStates.{
  idle,
  held_on,
  SomethingHeld,
  Goes,
  over,
  on,
  idle-step,
  idle-finish,
  held_now,
  held-over,
  goes,
  kept_ampersand,
  idle_ampersand,
}

-- After the bytes w, of which g was released, nothing is held; or an `&` and r are, which u stand before.
pub data Holding (names : List Name) (context : Context) (w : List ℕ) (g : Reading) (st : St) : Type 0 where
  free : idle st ≡ true → ((t : List ℕ) → unheld names (w ++ t) ≡ w ++ unheld names t) → Holding names context w g st
  holds : (u r : List ℕ) → w ≡ u ++ code "&" ∷ r
      → ((t : List ℕ) → unheld names (u ++ code "&" ∷ t) ≡ u ++ unheld names (code "&" ∷ t)) → Calm r → g ≡ decode names context u
      → SomethingHeld names st → ((t : List ℕ) → held_after names (r ++ t) ≡ held_on names st t) → Holding names context w g st

-- Bytes without an `&` are not held.
calm_unheld : (names : List Name) (r t : List ℕ) → Calm r → unheld names (r ++ t) ≡ r ++ unheld names t
unfolding unheld
calm_unheld names [] t calm = refl
calm_unheld names (c ∷ r) t calm = rw calm.0 (ap (λ (l : List ℕ). c ∷ l) (calm_unheld names r t calm.1))

-- An `&` whose bytes are no longer held stands before what is held of the rest.
over-unheld : (names : List Name) (r t : List ℕ) → Calm r → held_after names (r ++ t) ≡ false
    → unheld names (code "&" ∷ r ++ t) ≡ code "&" ∷ r ++ unheld names t
unfolding unheld
over-unheld names r t calm e = rw e (ap (λ (l : List ℕ). code "&" ∷ l) (calm_unheld names r t calm))

-- The same with u before it.
settled_unheld : (names : List Name) (w u r t : List ℕ) → w ≡ u ++ code "&" ∷ r
    → ((t : List ℕ) → unheld names (u ++ code "&" ∷ t) ≡ u ++ unheld names (code "&" ∷ t)) → Calm r → held_after names (r ++ t) ≡ false
    → unheld names (w ++ t) ≡ w ++ unheld names t
settled_unheld names w u r t is before calm e =
    rw is
    (ap (unheld names) (append_assoc u (code "&" ∷ r) t) ∙ before (r ++ t)
    ∙ ap (λ (l : List ℕ). u ++ l) (over-unheld names r t calm e) ∙ sym (append_assoc u (code "&" ∷ r) (unheld names t)))

module _ (names : List Name) (context : Context) (tidy : Tidy names) where
  -- What was released is the reading of all that stands before the ending that is held.
  pub held_rule : (w : List ℕ) (g : Reading) (st : St) → g ⊕ finish names context st ≡ decode names context w → Holding names context w g st
      → g ≡ decode names context (unheld names w)
  unfolding unheld
  held_rule w g st reads (free i rest) =
      sym (⊕-none g) ∙ ap (λ (o : Reading). g ⊕ o) (sym (idle-finish names context st i)) ∙ reads
      ∙ ap (decode names context) (sym (ap (unheld names) (sym (append-nil w)) ∙ rest [] ∙ append-nil w))
  held_rule w g st reads (holds u r is before calm e keeps f) =
      e ∙ ap (decode names context) (sym (ap (unheld names) is ∙ before r ∙ rw held (append-nil u)))
    where
      held : held_after names r ≡ true
      held = ap (held_after names) (sym (append-nil r)) ∙ f [] ∙ held_now names st keeps

  -- A character more, with its own bytes at place p.
  pub holding_step : (w : List ℕ) (g : Reading) (st : St) (p : ℕ) (own : List ℕ) (c : ℕ) → g ⊕ finish names context st ≡ decode names context w
      → Own own c → Holding names context w g st
      → let r = step names context st p c own in Holding names context (w ++ own) (g ⊕ r.gives) r.next
  holding_step w g st p own c reads is h = go (eqb c (code "&")) refl
    where
      After : List ℕ → ℕ → Type 0
      After own c = let r = step names context st p c own in Holding names context (w ++ own) (g ⊕ r.gives) r.next

      -- An `&` is held, and all before it is released.
      begun : step names context st p (code "&") (code "&" ∷ []) ≡ to (finish names context st) (Begin p)
          → ((t : List ℕ) → unheld names (w ++ code "&" ∷ t) ≡ w ++ unheld names (code "&" ∷ t)) → After (code "&" ∷ []) (code "&")
      begun e before =
          subst (λ (r : Step). Holding names context (w ++ code "&" ∷ []) (g ⊕ r.gives) r.next) (sym e)
          (holds w [] refl before tt reads tt (λ t. refl))

      ampersand : Holding names context w g st → After (code "&" ∷ []) (code "&")
      ampersand (free i rest) =
          begun (idle_ampersand names context tidy st p i ∙ ap (λ (o : Reading). to o (Begin p)) (sym (idle-finish names context st i)))
          (λ t. rest (code "&" ∷ t))
      ampersand (holds u r is before calm e keeps f) =
          begun (kept_ampersand names context tidy st p keeps)
          (λ t. settled_unheld names w u r (code "&" ∷ t) is before calm (f (code "&" ∷ t) ∙ held-over names st t tidy keeps))

      -- A character after what is held.
      kept : (u r : List ℕ) → w ≡ u ++ code "&" ∷ r
          → ((t : List ℕ) → unheld names (u ++ code "&" ∷ t) ≡ u ++ unheld names (code "&" ∷ t)) → Calm (r ++ own) → g ≡ decode names context u
          → ((t : List ℕ) → held_after names (r ++ t) ≡ held_on names st t)
          → Goes names st own (step names context st p c own) → After own c
      kept u r is before calm e f (over i later) =
          free i
          (λ t. settled_unheld names (w ++ own) u (r ++ own) t (ap (λ (l : List ℕ). l ++ own) is ∙ append_assoc u (code "&" ∷ r) own) before calm
          (ap (held_after names) (append_assoc r own t) ∙ f (own ++ t) ∙ later t))
      kept u r is before calm e f (on gives keeps later) =
          holds u (r ++ own) (ap (λ (l : List ℕ). l ++ own) is ∙ append_assoc u (code "&" ∷ r) own) before calm
          (ap (λ (o : Reading). g ⊕ o) gives ∙ ⊕-none g ∙ e) keeps
          (λ t. ap (held_after names) (append_assoc r own t) ∙ f (own ++ t) ∙ later t)

      other : eqb c (code "&") ≡ false → Holding names context w g st → After own c
      other e (free i rest) =
          free (idle-step names context st p c own i e)
          (λ t. ap (unheld names) (append_assoc w own t) ∙ rest (own ++ t)
          ∙ ap (λ (l : List ℕ). w ++ l) (calm_unheld names own t (own_calm is e)) ∙ sym (append_assoc w own (unheld names t)))
      other e (holds u r at before calm i keeps f) =
          kept u r at before (all_append (λ (c : ℕ). eqb c (code "&") ≡ false) r own calm (own_calm is e)) i f
          (goes names context tidy st p keeps is e)

      go : (t : Bool) → eqb c (code "&") ≡ t → After own c
      go true e =
          own_byte (λ c. eqb c (code "&")) (equal_ascii (code "&") (omega arith)) (λ own. After own c) is e
          (subst (λ (x : ℕ). After (x ∷ []) x) (sym (eqb-true c (code "&") e)) (ampersand h))
      go false e = other e h
