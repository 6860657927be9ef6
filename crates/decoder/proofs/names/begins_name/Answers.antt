use mathlib.Core.Path.{◌∙◌, ap}
use mathlib.Core.List.{List}
use Rattle.standard.specs.Names.{Name, begins, records}
use Rattle.standard.proofs.BuiltinNames.{table-read}
use Rattle.decoder.proofs.names.begins_name.Goals as goal

pub returns : goal.returns
returns c =
    c.begins_name.ensures ∙ ap (λ (names : List Name). begins names c.args.rest.now) (ap records c.builtin_table.ensures ∙ table-read)
