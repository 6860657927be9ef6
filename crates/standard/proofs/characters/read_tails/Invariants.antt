-- The invariant: what all bytes give is what those that are left give.
use Prim.Native.Nat.{◌≤◌, ◌<◌, ◌+◌, ◌-◌}
use mathlib.Core.Path.{◌≡◌}
use lib.ListN.{length, drop}
use Rattle.standard.specs.Utf8.{tails}
use Rattle.standard.proofs.Utf8.{cap}
use Rattle.standard.proofs.characters.read_tails.Given as goal

abbrev pub invariant-loop-len : goal.invariant-loop-len
invariant-loop-len l =
    (tails l.lead.need l.lead.low l.lead.high l.lead.bits 1 (drop 1 l.rest)
    ≡ tails (l.len-end - l.len) l.low l.high l.value l.len (drop l.len l.rest))
    × (l.len-end ≡ l.lead.need + 1) × (l.len ≤ l.len-end) × (1 ≤ l.len) × (l.len ≤ length l.rest) × (l.value < cap l.len)
