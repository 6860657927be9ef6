-- What a C user lends and reads: right use of an export, and the four numbers of a report.
use Prim.Native.Nat.{ℕ}
use mathlib.Core.Path.{◌≡◌}
use mathlib.Core.List.{List}
use mathlib.Core.Logic.{◌⊎◌}
use lib.ListN.{length}
use Rattle.lists.specs.Bytes.{word32}

-- A report of 16 bytes, and 0 (text) or 1 (attribute).
abbrev pub RightUse : (report : List ℕ) (number : ℕ) → Type 0
RightUse report number = (length report ≡ 16) × ((number ≡ 0) ⊎ (number ≡ 1))

-- What a report says: its four numbers, of four bytes each.
abbrev pub fields : {A : Type 0} → (ℕ → ℕ → ℕ → ℕ → A) → (report : List ℕ) → A
fields make report = make (word32 report 0) (word32 report 4) (word32 report 8) (word32 report 12)
