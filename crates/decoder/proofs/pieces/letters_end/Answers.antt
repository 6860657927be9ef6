use Prim.Native.Nat.{ℕ, ◌<◌, ◌≤◌}
use mathlib.Core.Path.{◌≡◌}
use mathlib.Core.List.{List}
use mathlib.Core.Bool.{true, false}
use lib.ListN.{length, get_or}
use borrow.Author.Rules.{rules}
use Rattle.lists.proofs.Fronts.{front_ends}
use Rattle.standard.specs.Classes.{alphanumeric}
use Rattle.decoder.proofs.pieces.letters_end.Goals as goal

pub returns : goal.returns
returns c =
    let s : List ℕ = c.args.rest.now in
    let n : ℕ = c.unwrap_or.result in
    let within : n ≤ length s = search rules in
    let each : (i : ℕ) → i < n → alphanumeric (get_or s i 0) ≡ true = search rules in
    let end : n < length s → alphanumeric (get_or s n 0) ≡ false = search rules in
    front_ends alphanumeric s n within each end
