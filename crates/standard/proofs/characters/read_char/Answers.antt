-- The code is what the definition says: the first byte by lead_of, the others by read_tails.
use mathlib.Core.Path.{sym, ◌∙◌, ap}
use native.Mathlib.Omega.{arith}
use lib.ListN.{get_or}
use Rattle.std.specs.Prelude.{None}
use Rattle.standard.specs.Utf8.{lead_of, after_lead}
use Rattle.standard.proofs.Utf8.{read_end, read_lead, lead_most}
use Rattle.standard.proofs.characters.read_char.Goals as goal

pub returns-in_default : goal.returns-in_default
returns-in_default c = sym (read_end _ (omega (arith, c.in_default.ensures.item.3)))

pub read_tails-requires : goal.read_tails-requires
read_tails-requires c =
    let first = c.in-Some.ensures.item.3 in
    let lead = ap lead_of (sym (first.1 0)) ∙ sym c.lead_of.ensures ∙ c.in-Some-lead_of.is in
    let most = lead_most (get_or c.args.rest.now 0 0) _ lead in
    record { some = first.0; few = most.0; seven_bits = most.1 }

pub returns-in-Some-lead_of : goal.returns-in-Some-lead_of
unfolding after_lead
returns-in-Some-lead_of c =
    let first = c.in-Some.ensures.item.3 in
    let lead = ap lead_of (sym (first.1 0)) ∙ sym c.lead_of.ensures ∙ c.in-Some-lead_of.is in
    c.read_tails.ensures ∙ sym (read_lead _ _ first.0 lead)

pub returns-in-None : goal.returns-in-None
unfolding after_lead
returns-in-None c =
    let first = c.in-Some.ensures.item.3 in
    sym (read_lead _ None first.0 (ap lead_of (sym (first.1 0)) ∙ sym c.lead_of.ensures ∙ c.in-None.is))
