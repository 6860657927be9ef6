use Prim.Native.Nat.{ℕ}
use mathlib.Core.Path.{◌≡◌, refl, sym, ◌∙◌, ap}
use mathlib.Core.List.{◌∷◌, [], ◌++◌}
use native.Mathlib.Omega.{arith}
use borrow.Author.Tests.{eqb-true}
use Rattle.standard.specs.declared.names.CharRef.{CharRef}
use Rattle.standard.specs.declared.names.Found.{Found}
use Rattle.standard.specs.Names.{longest, begins}
use Rattle.standard.specs.NameList.{builtin}
use Rattle.decoder.specs.Stream.{kind_of}
use Rattle.decoder.specs.Turns.{ascii_of, name_of}
use Rattle.decoder.proofs.TurnLaws.{ascii_is, ascii_not}
use Rattle.decoder.proofs.NameTurns.{name_short, rest_fits, rest_held, named_settles, named_goes, named_closes}
use Rattle.decoder.proofs.turns.turn_named.Goals as goal

pub hold-next-requires : goal.hold-next-requires
hold-next-requires c = omega (arith, name_short c.requires, c.requires.stored.count_is)

pub overflow_add-rest : goal.overflow_add-rest
overflow_add-rest c =
    omega (arith, name_short c.requires, c.requires.stored.count_is)

pub slice_bounds-rest-end : goal.slice_bounds-rest-end
slice_bounds-rest-end c =
    rest_fits c.requires c.ascii-b.ensures c.hold-next.ensures

pub settle-requires : goal.settle-requires
settle-requires c =
    let begins-byte : begins builtin (name_of c.args.held ++ ascii_of c.args.c ∷ []) ≡ c.begins_name.result =
    sym (c.begins_name.ensures ∙ ap (begins builtin) (rest_held c.requires c.ascii-b.ensures c.hold-next.ensures)) in
    let rest = rest_held c.requires c.ascii-b.ensures c.hold-next.ensures in
    (c.requires, rest, ap (begins builtin) rest ∙ begins-byte ∙ c.if-not-begins_name.true)

pub returns-then-not-begins_name : goal.returns-then-not-begins_name
returns-then-not-begins_name c =
    let begins-byte : begins builtin (name_of c.args.held ++ ascii_of c.args.c ∷ []) ≡ c.begins_name.result =
    sym (c.begins_name.ensures ∙ ap (begins builtin) (rest_held c.requires c.ascii-b.ensures c.hold-next.ensures)) in
    named_settles c.requires c.args.context c.args.p (begins-byte ∙ c.if-not-begins_name.true)
    c.settle.ensures

pub returns-then-b-eq59 : goal.returns-then-b-eq59
returns-then-b-eq59 c =
    let begins-byte : begins builtin (name_of c.args.held ++ ascii_of c.args.c ∷ []) ≡ c.begins_name.result =
    sym (c.begins_name.ensures ∙ ap (begins builtin) (rest_held c.requires c.ascii-b.ensures c.hold-next.ensures)) in
    let is = c.ascii-b.ensures in
    let semicolon = c.if-b-eq59.true in
    let rest = rest_held c.requires is c.hold-next.ensures ∙ ap (λ (x : ℕ). name_of c.args.held ++ x ∷ []) (sym is ∙ semicolon) in
    let found = c.longest_name.ensures.longest ∙ ap (longest builtin) rest in
    named_closes c.requires c.args.context c.args.p (begins-byte ∙ c.if-not-begins_name.false)
    (eqb-true c.args.c 0x3B (ascii_is 0x3B (omega arith) c.args.c is semicolon))
    (ap (λ (r : CharRef). record { size = c.args.held.count; reference = r; first = 0; second = 0 })
    (c.reference_of.ensures ∙ ap (λ (f : Found). f.reference) found))
    c.none.ensures c.«data».ensures

pub returns : goal.returns
unfolding kind_of
returns c =
    let begins-byte : begins builtin (name_of c.args.held ++ ascii_of c.args.c ∷ []) ≡ c.begins_name.result =
    sym (c.begins_name.ensures ∙ ap (begins builtin) (rest_held c.requires c.ascii-b.ensures c.hold-next.ensures)) in
    let is = c.ascii-b.ensures in
    named_goes c.requires c.args.context c.args.p (begins-byte ∙ c.if-not-begins_name.false)
    c.absorbed.ensures refl is c.hold-next.ensures (ascii_not 0x3B (omega arith) c.args.c is c.if-b-eq59.false)
