use mathlib.Core.Path.{◌∙◌, ap}
use Rattle.standard.specs.declared.names.Found.{Found}
use Rattle.standard.specs.Pieces as standard
use Rattle.decoder.proofs.pieces.named.Goals as goal

pub returns : goal.returns
returns c =
    c.named_by.ensures ∙ ap (λ (f : Found). standard.named_by c.args.context f c.args.rest.now) c.longest_name.ensures.longest
