use Prim.Native.Nat.{ℕ, ◌+◌, ◌-◌, ◌<◌, ◌≤◌}
use mathlib.Core.Path.{◌≡◌, ap}
use mathlib.Core.List.{List}
use mathlib.Core.Bool.{true, false}
use lib.ListN.{length, get_or, take, drop}
use borrow.Author.Rules.{rules}
use Rattle.lists.proofs.Fronts.{front_ends}
use Rattle.standard.specs.Classes.{alphanumeric}
use Rattle.standard.proofs.Skips.{rest_from}
use Rattle.checker.proofs.pieces.letters_end.Goals as goal

pub returns : goal.returns
returns c =
    let s : List ℕ = c.args.s.now in
    let from : ℕ = c.args.from in
    let n : ℕ = c.unwrap_or.result in
    let l : List ℕ = take (length s - from) (drop from s) in
    let within : n ≤ length l = search rules in
    let each : (i : ℕ) → i < n → alphanumeric (get_or l i 0) ≡ true = search rules in
    let end : n < length l → alphanumeric (get_or l n 0) ≡ false = search rules in
    ap (λ (m : ℕ). from + m) (rw (rest_from s from) at (front_ends alphanumeric l n within each end))
