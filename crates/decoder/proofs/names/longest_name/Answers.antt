use Prim.Native.Nat.{◌≤◌}
use mathlib.Core.Path.{sym, ◌∙◌, refl, ap, subst}
use mathlib.Core.List.{List}
use lib.ListN.{length}
use Rattle.std.specs.Prelude.{Option, IfSome}
use Rattle.standard.specs.declared.names.Found.{Found}
use Rattle.standard.specs.Names.{Name, found_of, found_where, longest, records}
use Rattle.standard.specs.NameList.{builtin}
use Rattle.standard.proofs.BuiltinNames.{table-read}
use Rattle.standard.proofs.FrontPiece.{found-there}
use Rattle.standard.proofs.Longest.{found-kept, found-some}
use Rattle.decoder.proofs.names.longest_name.Goals as goal

pub returns-clause-longest : goal.returns-clause-longest
returns-clause-longest c =
    let s = c.args.rest.now in
    let read = ap records c.builtin_table.ensures ∙ table-read in
    ap found_of (c.longest_name.ensures ∙ ap (λ (names : List Name). found_where (longest names s)) read) ∙ found-kept builtin s

pub returns-clause-there : goal.returns-clause-there
returns-clause-there c =
    let s = c.args.rest.now in
    let names = records c.builtin_table.result.now in
    subst (λ (o : Option Found). IfSome o (λ f. (1 ≤ f.len) × (f.len ≤ length s))) (sym c.longest_name.ensures)
    (found-some (longest names s) (length s) (found-there names s refl))
