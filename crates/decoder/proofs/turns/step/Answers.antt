use Prim.Native.Nat.{ℕ}
use Prim.Native.Char.{code}
use mathlib.Core.Path.{refl, subst}
use mathlib.Core.List.{◌∷◌, []}
use mathlib.Core.Logic.{inl, inr}
use native.Mathlib.Omega.{arith}
use Rattle.standard.specs.Errors.{placed}
use Rattle.standard.specs.Pieces.{encodes}
use Rattle.decoder.specs.Machine.{step}
use Rattle.decoder.specs.Stream.{store_of, st_by}
use Rattle.decoder.specs.Turns.{Fits, Stored}
use Rattle.decoder.proofs.TurnLaws.{turns, told_whole, told_stored, told_fits, told_turns, number_fits, letter_is}
use Rattle.decoder.proofs.turns.step.Goals as goal

pub turn_after_cr-requires : goal.turn_after_cr-requires
unfolding store_of st_by
turn_after_cr-requires c = told_stored c.requires c.in-AfterCr.is

pub turn_begin-requires : goal.turn_begin-requires
unfolding store_of st_by
turn_begin-requires c =
    told_stored c.requires c.in-Begin.is

pub turn_octothorpe-requires : goal.turn_octothorpe-requires
unfolding store_of st_by
turn_octothorpe-requires c = told_stored c.requires c.in-Octothorpe.is

pub turn_hex_begin-requires : goal.turn_hex_begin-requires
unfolding store_of st_by
turn_hex_begin-requires c =
    let stored = told_stored c.requires c.in-HexBegin.is in
    subst (λ (x : ℕ). Stored c.args.held (code "&" ∷ code "#" ∷ x ∷ [])) (letter_is _ stored) stored

pub turn_numeric-requires : goal.turn_numeric-requires
unfolding store_of st_by
turn_numeric-requires c =
    let fit = c.requires in
    let number = number_fits fit c.in-Numeric.is in
    (told_stored fit c.in-Numeric.is, number.0, omega (arith, number.1))

pub turn_named-requires : goal.turn_named-requires
unfolding store_of st_by Fits
turn_named-requires c =
    let fit = c.requires in
    let fits = told_fits fit c.in-Named.is in
    record { stored = told_stored fit c.in-Named.is; name = fits.0; first = inl fits.1 }

pub turn_bogus_name-requires : goal.turn_bogus_name-requires
unfolding st_by
turn_bogus_name-requires c = told_whole c.requires c.in-BogusName.is

pub returns-in-Data : goal.returns-in-Data
unfolding store_of st_by step encodes placed
returns-in-Data c = elim c.in-Data.is [
  | inl is ↦ told_turns c.requires is c.args.context c.args.p c.args.c
      (turns (told_stored c.requires is) c.turn_data.ensures c.none.ensures refl (omega arith))
  | inr is ↦ told_turns c.requires is c.args.context c.args.p c.args.c
      (turns (told_stored c.requires is) c.turn_data.ensures c.none.ensures refl (omega arith))
]

pub returns-in-AfterCr : goal.returns-in-AfterCr
unfolding st_by step
returns-in-AfterCr c =
    told_turns c.requires c.in-AfterCr.is c.args.context c.args.p c.args.c c.turn_after_cr.ensures

pub returns-in-Begin : goal.returns-in-Begin
unfolding st_by step
returns-in-Begin c =
    told_turns c.requires c.in-Begin.is c.args.context c.args.p c.args.c c.turn_begin.ensures

pub returns-in-Octothorpe : goal.returns-in-Octothorpe
unfolding st_by step
returns-in-Octothorpe c =
    told_turns c.requires c.in-Octothorpe.is c.args.context c.args.p c.args.c c.turn_octothorpe.ensures

pub returns-in-HexBegin : goal.returns-in-HexBegin
unfolding st_by step store_of
returns-in-HexBegin c =
    let is = c.in-HexBegin.is in
    told_turns c.requires is c.args.context c.args.p c.args.c
    (rw (letter_is _ (told_stored c.requires is)) c.turn_hex_begin.ensures)

pub returns-in-Numeric : goal.returns-in-Numeric
unfolding st_by step
returns-in-Numeric c =
    let is = c.in-Numeric.is in
    told_turns c.requires is c.args.context c.args.p c.args.c
    (rw (← (number_fits c.requires is).1) c.turn_numeric.ensures)

pub returns-in-Named : goal.returns-in-Named
unfolding st_by step
returns-in-Named c =
    told_turns c.requires c.in-Named.is c.args.context c.args.p c.args.c c.turn_named.ensures

pub returns-in-BogusName : goal.returns-in-BogusName
unfolding st_by step
returns-in-BogusName c =
    told_turns c.requires c.in-BogusName.is c.args.context c.args.p c.args.c c.turn_bogus_name.ensures
