use Prim.Native.Nat.{ℕ}
use mathlib.Core.Path.{refl, ap, subst}
use mathlib.Core.List.{List, []}
use native.Mathlib.Omega.{arith}
use lib.ListN.{drop}
use Rattle.standard.specs.Utf8.{encode}
use Rattle.standard.specs.Errors.{placed}
use Rattle.standard.specs.NameList.{builtin}
use Rattle.decoder.specs.Machine.{Octothorpe, step_named}
use Rattle.decoder.specs.Stream.{store_of, mark_of, kind_of}
use Rattle.decoder.specs.Turns.{Turns}
use Rattle.decoder.proofs.TurnLaws.{ascii_letter, ascii_is, ascii_not, alone-read, stored_bytes, turns, turns_absorbed, hold_is}
use Rattle.decoder.proofs.NameTurns.{begin-name}
use Rattle.decoder.proofs.turns.turn_begin.Goals as goal

pub returns-then-b-eq35 : goal.returns-then-b-eq35
unfolding store_of mark_of kind_of
returns-then-b-eq35 c =
    rw (ascii_is 0x23 (omega arith) c.args.c c.ascii-b.ensures c.if-b-eq35.true)
    (turns_absorbed c.requires c.args.p (Octothorpe c.args.held.place) c.absorbed.ensures refl
    (hold_is c.requires (Octothorpe c.args.held.place) _ c.hold.ensures (omega arith) (rw c.if-b-eq35.true)))

pub turn_named-requires : goal.turn_named-requires
turn_named-requires c =
    begin-name c.requires (ascii_letter c.args.c c.ascii-b.ensures c.alphanumeric.ensures c.if-alphanumeric.true)

pub returns-then-alphanumeric : goal.returns-then-alphanumeric
returns-then-alphanumeric c =
    rw (
      ascii_not 0x23 (omega arith) c.args.c c.ascii-b.ensures c.if-b-eq35.false,
      ascii_letter c.args.c c.ascii-b.ensures c.alphanumeric.ensures c.if-alphanumeric.true,
    )
    (subst
    (λ (h : List ℕ). Turns c.args.held c.args.p c.turn_named.result
    (step_named builtin c.args.context c.args.held.place h c.args.p c.args.c (encode c.args.c)))
    (ap (drop 1) (stored_bytes c.requires)) c.turn_named.ensures)

pub returns : goal.returns
unfolding placed
returns c =
    let is = c.ascii-b.ensures in
    rw (
      ascii_not 0x23 (omega arith) c.args.c is c.if-b-eq35.false,
      ascii_letter c.args.c is c.alphanumeric.ensures c.if-alphanumeric.false,
    )
    (turns c.requires c.turn_data.ensures c.one.ensures (alone-read c.args.held.place 0 []) (omega arith))
