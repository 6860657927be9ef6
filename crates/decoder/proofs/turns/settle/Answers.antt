use mathlib.Core.Path.{◌≡◌, sym, ◌∙◌, ap}
use mathlib.Core.List.{[]}
use Rattle.standard.specs.declared.names.Found.{Found}
use Rattle.standard.specs.Names.{found_of, longest, begins}
use Rattle.standard.specs.NameList.{builtin}
use Rattle.standard.specs.Pieces.{named_by}
use Rattle.decoder.specs.Turns.{ascii_of, name_of}
use Rattle.decoder.proofs.Tidy.{settled}
use Rattle.decoder.proofs.TurnLaws.{ascii_letter}
use Rattle.decoder.proofs.NameTurns.{found_some, found_none, settle_found, settle_goes, settle_ends}
use Rattle.decoder.proofs.turns.settle.Goals as goal

pub named_by-released-requires : goal.named_by-released-requires
named_by-released-requires c = c.longest_name-found.ensures.there

pub returns-then-is_some : goal.returns-then-is_some
returns-then-is_some c =
    let found_is : found_of c.longest_name-found.result ≡ longest builtin (name_of c.args.held) =
    c.longest_name-found.ensures.longest ∙ ap (longest builtin) c.requires.1
    ∙ settled builtin (name_of c.args.held) (ascii_of c.args.c) [] (sym (ap (begins builtin) c.requires.1) ∙ c.requires.2) in
    let named-is = c.named_by-released.ensures ∙ (λ i. named_by c.args.context (found_is i) (c.requires.1 i)) in
    let some = found_some c.longest_name-found.result _ c.longest_name-found.ensures.there (sym c.is_some.ensures ∙ c.if-is_some.true) in
    settle_found c.requires.0 c.args.context c.args.p _ named-is (λ none. some (ap (λ (f : Found). f.len) found_is ∙ none)) c.turn_data.ensures

pub returns-then-not-alphanumeric : goal.returns-then-not-alphanumeric
returns-then-not-alphanumeric c =
    let found_is : found_of c.longest_name-found.result ≡ longest builtin (name_of c.args.held) =
    c.longest_name-found.ensures.longest ∙ ap (longest builtin) c.requires.1
    ∙ settled builtin (name_of c.args.held) (ascii_of c.args.c) [] (sym (ap (begins builtin) c.requires.1) ∙ c.requires.2) in
    let named-is = c.named_by-released.ensures ∙ (λ i. named_by c.args.context (found_is i) (c.requires.1 i)) in
    let none = found_none c.longest_name-found.result (sym c.is_some.ensures ∙ c.if-is_some.false) in
    settle_ends c.requires.0 c.args.context c.args.p _ named-is (sym (ap (λ (f : Found). f.len) found_is) ∙ none)
    (ascii_letter c.args.c c.ascii.ensures c.alphanumeric.ensures c.if-not-alphanumeric.true) c.turn_data-then-not-alphanumeric.ensures

pub returns : goal.returns
returns c =
    let found_is : found_of c.longest_name-found.result ≡ longest builtin (name_of c.args.held) =
    c.longest_name-found.ensures.longest ∙ ap (longest builtin) c.requires.1
    ∙ settled builtin (name_of c.args.held) (ascii_of c.args.c) [] (sym (ap (begins builtin) c.requires.1) ∙ c.requires.2) in
    let named-is = c.named_by-released.ensures ∙ (λ i. named_by c.args.context (found_is i) (c.requires.1 i)) in
    let none = found_none c.longest_name-found.result (sym c.is_some.ensures ∙ c.if-is_some.false) in
    settle_goes c.requires.0 c.args.context c.args.p _ named-is (sym (ap (λ (f : Found). f.len) found_is) ∙ none)
    (ascii_letter c.args.c c.ascii.ensures c.alphanumeric.ensures c.if-not-alphanumeric.false)
    c.one.ensures c.bogus_name.ensures
