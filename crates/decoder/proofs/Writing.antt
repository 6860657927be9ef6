-- Readings are written one after the other, whichever way their numbers are laid.
use Prim.Native.Nat.{ℕ}
use mathlib.Core.List.{List, []}
use Rattle.lists.specs.Rooms.{Put}
use Rattle.lists.proofs.Puts.{put_none, put_join}
use Rattle.lists.specs.Layings.{Laying}
use Rattle.lists.proofs.Layings.{laid-plainly}
use Rattle.standard.specs.Errors.{numbers}
use Rattle.standard.specs.Reading.{Reading, reading, ◌⊕◌}
use Rattle.standard.proofs.Joining.{numbers-append}
use Rattle.decoder.specs.Writing.{WroteBy, Wrote}

module _ {A : Type 0} {width : ℕ} {lay : List ℕ → List A} (laid : Laying width lay) where
  -- No reading is written.
  pub by_none : (text : List ℕ) (w : ℕ) (errors : List A) (e : ℕ) → WroteBy lay (reading [] []) text w text w errors e errors e
  unfolding numbers
  by_none text w errors e = record { texts = put_none text w; numbers_of = rw laid.none (put_none errors e) }

  -- Text alone is written.
  pub by_text : {t text text' : List ℕ} {w w' : ℕ} (errors : List A) (e : ℕ) → Put text w t text' w'
      → WroteBy lay (reading t []) text w text' w' errors e errors e
  unfolding numbers
  by_text errors e p = record { texts = p; numbers_of = rw laid.none (put_none errors e) }

  -- Two readings are written one after the other.
  pub by_join : {a b : Reading} {t t' t'' : List ℕ} {w w' w'' : ℕ} {n n' n'' : List A} {e e' e'' : ℕ} → WroteBy lay a t w t' w' n e n' e'
      → WroteBy lay b t' w' t'' w'' n' e' n'' e'' → WroteBy lay (a ⊕ b) t w t'' w'' n e n'' e''
  by_join {a} {b} x y = record {
    texts = put_join x.texts y.texts;
    numbers_of = rw (numbers-append a.errors b.errors, laid.join (numbers a.errors) (numbers b.errors))
        (put_join x.numbers_of y.numbers_of);
  }

-- The same three in a room of numbers.
pub wrote_none : (text : List ℕ) (w : ℕ) (errors : List ℕ) (e : ℕ) → Wrote (reading [] []) text w text w errors e errors e
wrote_none = by_none laid-plainly

pub wrote_text : {t text text' : List ℕ} {w w' : ℕ} (errors : List ℕ) (e : ℕ) → Put text w t text' w'
    → Wrote (reading t []) text w text' w' errors e errors e
wrote_text = by_text laid-plainly

pub wrote-join : {a b : Reading} {t t' t'' : List ℕ} {w w' w'' : ℕ} {n n' n'' : List ℕ} {e e' e'' : ℕ} → Wrote a t w t' w' n e n' e'
    → Wrote b t' w' t'' w'' n' e' n'' e'' → Wrote (a ⊕ b) t w t'' w'' n e n'' e''
wrote-join = by_join laid-plainly
