use Prim.Native.Nat.{ℕ}
use mathlib.Core.Path.{◌≡◌, refl, ◌∙◌, ap}
use mathlib.Core.List.{List}
use mathlib.Core.Logic.{inl, inr}
use native.Mathlib.Omega.{arith}
use Rattle.standard.specs.declared.Context.{Context}
use Rattle.standard.specs.Errors.{placed}
use Rattle.standard.specs.Numbers.{meaning_of}
use Rattle.standard.specs.Names.{longest}
use Rattle.standard.specs.NameList.{builtin}
use Rattle.standard.specs.Pieces.{encodes, named_by}
use Rattle.decoder.specs.declared.stream.State.{State}
use Rattle.decoder.specs.declared.stream.State.TheVariants as kind
use Rattle.decoder.specs.Machine.{text_only, finish}
use Rattle.decoder.specs.Stream.{store_of, st_by, st_of}
use Rattle.decoder.specs.Turns.{Fits}
use Rattle.decoder.proofs.NameTurns.{name-within, name-part, name-finish}
use Rattle.decoder.proofs.TurnLaws.{alone-read, releases, number_open, told_stored, told_fits, told_releases, number_fits, held-stored}
use Rattle.decoder.proofs.turns.finish.Goals as goal

-- Where nothing is held nothing is released.
others : (context : Context) (k : State) (q : ℕ) (s : List ℕ) → (k ≡ kind.Begin → ⊥) → (k ≡ kind.Octothorpe → ⊥) → (k ≡ kind.HexBegin → ⊥)
    → ((base value : ℕ) → k ≡ kind.Numeric base value → ⊥) → (k ≡ kind.Named → ⊥)
    → text_only (store_of (st_by k q s)) ≡ finish builtin context (st_by k q s)
unfolding finish store_of st_by
others context kind.Data q s b o h n m = refl
others context kind.AfterCr q s b o h n m = refl
others context kind.Begin q s b o h n m = absurd (b refl)
others context kind.Octothorpe q s b o h n m = absurd (o refl)
others context kind.HexBegin q s b o h n m = absurd (h refl)
others context (kind.Numeric base value) q s b o h n m = absurd (n base value refl)
others context kind.Named q s b o h n m = absurd (m refl)
others context kind.BogusName q s b o h n m = refl
others context kind.Closed q s b o h n m = refl

pub slice_bounds-named-count : goal.slice_bounds-named-count
unfolding st_by store_of
slice_bounds-named-count c = omega (arith, (told_stored c.requires c.in-Named.is).count_is)

pub slice_bounds-named-start : goal.slice_bounds-named-start
unfolding st_by store_of
slice_bounds-named-start c =
    omega (arith, (told_stored c.requires c.in-Named.is).count_is)

pub slice_bounds-named-end : goal.slice_bounds-named-end
unfolding st_by store_of Fits
slice_bounds-named-end c =
    let fit = c.requires in
    let is = c.in-Named.is in
    name-within (told_stored fit is) (told_fits fit is).0

pub returns-in-Begin : goal.returns-in-Begin
unfolding st_by store_of finish placed
returns-in-Begin c =
    let is = c.in-Begin.is in
    told_releases c.requires is c.args.context
    (releases (told_stored c.requires is) c.one.ensures (alone-read c.args.held.place 0 _) (omega arith))

pub returns-in-Octothorpe : goal.returns-in-Octothorpe
unfolding st_by store_of finish placed
returns-in-Octothorpe c = elim c.in-Octothorpe.is [
  | inl is ↦ told_releases c.requires is c.args.context
      (releases (told_stored c.requires is) c.one-in-Octothorpe.ensures (alone-read c.args.held.place 1 _) (omega arith))
  | inr is ↦ told_releases c.requires is c.args.context
      (releases (told_stored c.requires is) c.one-in-Octothorpe.ensures (alone-read c.args.held.place 1 _) (omega arith))
]

pub returns-in-Numeric : goal.returns-in-Numeric
unfolding st_by store_of finish
returns-in-Numeric c =
    let is = c.in-Numeric.is in
    let stored = told_stored c.requires is in
    let meant = c.finish_numeric-meant.ensures in
    told_releases c.requires is c.args.context
    (releases stored c.one-in-Numeric.ensures (number_open stored _ (meant.0 ∙ ap (λ (n : ℕ). (meaning_of n).char) (number_fits c.requires is).1)
    (meant.1 ∙ ap (λ (n : ℕ). (meaning_of n).code) (number_fits c.requires is).1)) (omega (arith, stored.count_is)))

pub returns-in-Named : goal.returns-in-Named
unfolding st_by store_of Fits
returns-in-Named c =
    let is = c.in-Named.is in
    let stored = told_stored c.requires is in
    let fits = told_fits c.requires is in
    let part = name-part c.args.held.count c.args.held.store (omega (arith, stored.count_is)) in
    told_releases c.requires is c.args.context
    (name-finish c.args.context c.named.result stored fits.0 fits.1
    (c.named.ensures ∙ ap (λ (h : List ℕ). named_by c.args.context (longest builtin h) h) part))

pub returns-in_default : goal.returns-in_default
unfolding encodes placed
returns-in_default c =
    releases (held-stored (st_of c.args.held) c.requires.whole) c.none.ensures
    (others c.args.context c.args.held.state _ _ c.in_default.not-Begin c.in_default.not-Octothorpe c.in_default.not-HexBegin
    c.in_default.not-Numeric c.in_default.not-Named) (omega arith)
