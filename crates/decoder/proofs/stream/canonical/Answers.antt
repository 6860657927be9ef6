use Prim.Native.Nat.{ℕ}
use mathlib.Core.Path.{◌≡◌, sym, ◌∙◌, ap, refl}
use mathlib.Core.List.{List}
use mathlib.Core.Bool.{true}
use native.Mathlib.Omega.{arith}
use lib.ListN.{length, take}
use lib.Seq.{length-take-le}
use borrow.Author.Rules.{rules}
use Rattle.lists.proofs.Choice.{no_way}
use Rattle.standard.specs.NameList.{builtin}
use Rattle.decoder.specs.declared.stream.State.{State}
use Rattle.decoder.specs.declared.stream.State.TheVariants as kind
use Rattle.decoder.specs.declared.stream.Held.{Held}
use Rattle.decoder.specs.Stream.{padded, store_of, kind_of, mark_of, held_of, st_by, holds}
use Rattle.decoder.proofs.Open.{store-back}
use Rattle.decoder.proofs.stream.canonical.Goals as goal

-- A case, a place and a store.
abbrev with : State → ℕ → List ℕ → Held
with k q s = record { state = k; place = q; store = padded 32 s; count = length s }

-- In every state but the first two and numbers the record is that of the state.
others : (k : State) (q : ℕ) (s : List ℕ) → (k ≡ kind.Data → ⊥) → (k ≡ kind.AfterCr → ⊥)
    → ((base value : ℕ) → k ≡ kind.Numeric base value → ⊥) → holds builtin k s ≡ true
    → held_of (st_by k q s) ≡ with k q s
unfolding held_of kind_of mark_of st_by holds
others kind.Data q s d r n e = absurd (d refl)
others kind.AfterCr q s d r n e = absurd (r refl)
others kind.Begin q s d r n e = ap (with kind.Begin q) (store-back kind.Begin q s e)
others kind.Octothorpe q s d r n e = ap (with kind.Octothorpe q) (store-back kind.Octothorpe q s e)
others kind.HexBegin q s d r n e = ap (with kind.HexBegin q) (store-back kind.HexBegin q s e)
others (kind.Numeric base value) q s d r n e = absurd (n base value refl)
others kind.Named q s d r n e = ap (with kind.Named q) (store-back kind.Named q s e)
others kind.BogusName q s d r n e = ap (with kind.BogusName q) (store-back kind.BogusName q s e)
others kind.Closed q s d r n e = no_way (sym e)

pub returns-in-Data : goal.returns-in-Data
unfolding st_by
returns-in-Data c = c.«data».ensures ∙ rw c.in-Data.is

pub returns-in-AfterCr : goal.returns-in-AfterCr
unfolding st_by
returns-in-AfterCr c = c.after_cr.ensures ∙ rw c.in-AfterCr.is

pub returns-in-Numeric : goal.returns-in-Numeric
unfolding st_by held_of kind_of mark_of store_of
returns-in-Numeric c =
    let h = c.args.held in
    let n : length h.store ≡ 32 = search rules in
    let s = take h.count h.store in
    let counts : h.count ≡ length s = sym (length-take-le h.count h.store (omega arith)) in
    (λ i. record {
      state = kind.Numeric c.in-Numeric.base (c.stopped.ensures i);
      place = h.place;
      store = c.padded-store.ensures i;
      count = counts i;
    })
    ∙ ap (λ (x : State). held_of (st_by x h.place s)) (sym c.in-Numeric.is)

pub returns-in_default : goal.returns-in_default
unfolding st_by
returns-in_default c =
    let h = c.args.held in
    let n : length h.store ≡ 32 = search rules in
    let s = take h.count h.store in
    let counts : h.count ≡ length s = sym (length-take-le h.count h.store (omega arith)) in
    (λ i. record { state = h.state; place = h.place; store = c.padded-store.ensures i; count = counts i })
    ∙ sym (others h.state h.place s c.in_default.not-Data c.in_default.not-AfterCr c.in_default.not-Numeric c.requires.1)
