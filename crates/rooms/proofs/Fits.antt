-- What fits is written whole.
use Prim.Native.Nat.{ℕ, ◌+◌, ◌-◌, ◌*◌, ◌/◌, ◌≤◌}
use mathlib.Core.List.{List}
use native.Mathlib.Omega.{arith}
use lib.ListN.{length, take}
use lib.Seq.{take_all}
use Rattle.lists.specs.Bytes.{fours}
use Rattle.lists.specs.Rooms.{Put}

-- What `copy` writes of bytes that fit is all of them.
pub copy_fits : {old from new : List ℕ} {at next : ℕ} → at + length from ≤ length old → Put old at (take (length old - at) from) new next
    → Put old at from new next
copy_fits {old} {from} {at = at} h p = rw (take_all (length old - at) from (omega arith)) at p

-- What `put_numbers` writes of numbers that fit is all of them.
pub numbers_fit : {old new : List ℕ} {at next : ℕ} (numbers : List ℕ) → at + 4 * length numbers ≤ length old
    → Put old at (fours (take ((length old - at) / 4) numbers)) new next → Put old at (fours numbers) new next
numbers_fit {old} {at = at} numbers h p = rw (take_all ((length old - at) / 4) numbers (omega arith)) at p
