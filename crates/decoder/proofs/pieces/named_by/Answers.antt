use mathlib.Core.Path.{sym, ◌∙◌, ap}
use mathlib.Core.Bool.{true, false}
use native.Mathlib.Omega.{arith}
use Rattle.standard.specs.declared.names.Found.{Found}
use Rattle.standard.specs.Names.{found_of}
use Rattle.decoder.specs.Pieces.{piece_of}
use Rattle.decoder.proofs.NameLaws.{named_none, named_closed, named_stays, named_open}
use Rattle.decoder.proofs.pieces.named_by.Goals as goal

pub returns-then-unknown_name : goal.returns-then-unknown_name
returns-then-unknown_name c =
    let none = ap found_of c.in_default.is in
    ap piece_of c.one.ensures ∙ named_none _ _ _ true (ap (λ (f : Found). f.len) none) (sym c.unknown_name.ensures ∙ c.if-unknown_name.true)

pub returns-in_default : goal.returns-in_default
returns-in_default c =
    let none = ap found_of c.in_default.is in
    ap piece_of c.one-in_default.ensures
    ∙ named_none _ _ _ false (ap (λ (f : Found). f.len) none) (sym c.unknown_name.ensures ∙ c.if-unknown_name.false)

pub returns-then-rest-len-eq59 : goal.returns-then-rest-len-eq59
returns-then-rest-len-eq59 c =
    let some = rw c.in-Some.is at c.requires in
    rw c.in-Some.is (named_closed _ _ _ (λ z. omega (arith, z, some.0)) c.if-rest-len-eq59.true)

pub returns-then-stays_text : goal.returns-then-stays_text
returns-then-stays_text c =
    let some = rw c.in-Some.is at c.requires in
    let named = ap piece_of c.one-then-stays_text.ensures
    ∙ named_stays _ _ _ (λ z. omega (arith, z, some.0)) c.if-rest-len-eq59.false (sym c.stays_text.ensures ∙ c.if-stays_text.true) in
    rw c.in-Some.is named

pub returns : goal.returns
returns c =
    let some = rw c.in-Some.is at c.requires in
    rw c.in-Some.is (named_open _ _ _ (λ z. omega (arith, z, some.0)) c.if-rest-len-eq59.false (sym c.stays_text.ensures ∙ c.if-stays_text.false))
