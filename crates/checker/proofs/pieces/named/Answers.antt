use mathlib.Core.Path.{refl, sym, ◌∙◌, ap}
use mathlib.Core.Bool.{true, false}
use native.Mathlib.Omega.{arith}
use Rattle.standard.specs.Names.{found_of}
use Rattle.standard.proofs.Longest.{found-kept, found-so}
use Rattle.checker.specs.Pieces.{piece_of}
use Rattle.checker.proofs.PieceLaws.{name_there, name_none, name_closed, name_stays, name_open}
use Rattle.checker.proofs.pieces.named.Goals as goal

pub returns-then-from-end : goal.returns-then-from-end
returns-then-from-end c =
    let a = c.args in
    let found_is = ap found_of (sym c.in_default.is ∙ c.longest_name.ensures) ∙ found-kept _ _ in
    ap piece_of c.one.ensures
    ∙ name_none _ a.context a.s.now a.from found_is true refl c.letters_end-end.ensures (rw c.next_is.ensures at c.if-from-end.true)

pub returns-in_default : goal.returns-in_default
returns-in_default c =
    let a = c.args in
    let found_is = ap found_of (sym c.in_default.is ∙ c.longest_name.ensures) ∙ found-kept _ _ in
    ap piece_of c.one-in_default.ensures
    ∙ name_none _ a.context a.s.now a.from found_is false refl c.letters_end-end.ensures (rw c.next_is.ensures at c.if-from-end.false)

pub overflow_add-from : goal.overflow_add-from
overflow_add-from c =
    let a = c.args in
    let found = found-so _ _ c.longest_name.ensures c.in-Some.is in
    omega (arith, name_there _ a.context a.s.now a.from found.0 c.requires, found.1)

pub bounds-s-from : goal.bounds-s-from
bounds-s-from c =
    let a = c.args in
    let found = found-so _ _ c.longest_name.ensures c.in-Some.is in
    omega (arith, name_there _ a.context a.s.now a.from found.0 c.requires, found.1)

pub overflow_add-result : goal.overflow_add-result
overflow_add-result c =
    let a = c.args in
    let found = found-so _ _ c.longest_name.ensures c.in-Some.is in
    omega (arith, name_there _ a.context a.s.now a.from found.0 c.requires, found.1)

pub returns-then-s-from-eq59 : goal.returns-then-s-from-eq59
returns-then-s-from-eq59 c =
    let a = c.args in
    let found = found-so _ _ c.longest_name.ensures c.in-Some.is in
    name_closed _ a.context a.s.now a.from found.0 (λ none. omega (arith, none, found.1)) c.if-s-from-eq59.true

pub overflow_add-from-2 : goal.overflow_add-from-2
overflow_add-from-2 c =
    let a = c.args in
    let found = found-so _ _ c.longest_name.ensures c.in-Some.is in
    omega (arith, name_there _ a.context a.s.now a.from found.0 c.requires, found.1)

pub returns-then-stays_text : goal.returns-then-stays_text
returns-then-stays_text c =
    let a = c.args in
    let found = found-so _ _ c.longest_name.ensures c.in-Some.is in
    ap piece_of c.one-then-stays_text.ensures
    ∙ name_stays _ a.context a.s.now a.from found.0 (λ none. omega (arith, none, found.1)) c.if-s-from-eq59.false
    (sym c.stays_text.ensures ∙ c.if-stays_text.true)

pub overflow_add-result-2 : goal.overflow_add-result-2
overflow_add-result-2 c =
    let a = c.args in
    let found = found-so _ _ c.longest_name.ensures c.in-Some.is in
    omega (arith, name_there _ a.context a.s.now a.from found.0 c.requires, found.1)

pub returns : goal.returns
returns c =
    let a = c.args in
    let found = found-so _ _ c.longest_name.ensures c.in-Some.is in
    name_open _ a.context a.s.now a.from found.0 (λ none. omega (arith, none, found.1)) c.if-s-from-eq59.false
    (sym c.stays_text.ensures ∙ c.if-stays_text.false)
