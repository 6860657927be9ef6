-- Laws of writing into a part of a room, and of elements and numbers written one after the other.
use Prim.Native.Nat.{ℕ, ◌+◌, ◌-◌, ◌≤◌, ◌<◌}
use mathlib.Core.Path.{◌≡◌, refl, sym, ◌∙◌}
use mathlib.Core.List.{List, [], ◌∷◌, append-nil, append_assoc}
use native.Mathlib.Numerals.{add-one}
use native.Mathlib.Omega.{arith}
use lib.ListN.{length, get_or, take, drop, set}
use lib.Seq.{sets-eq, drop-drop, take-add, take-suc}
use borrow.Rule.Slice.PartMut.{put_mid}
use Rattle.lists.specs.Bytes.{four_bytes, fours}
use Rattle.lists.specs.Rooms.{Put}
use Rattle.lists.proofs.Puts.{put_join}
use Rattle.lists.proofs.Layings.{laid-fours}

-- A part of a room that then holds other values was written.
pub put_part : {old part values : List ℕ} {at next : ℕ} → part ≡ values → next ≡ at + length values → next ≤ length old
    → Put old at values (put_mid at (next - at) old part) next
put_part {old} {part} {values} {at} {next} part_is next_is fits =
    let n : next - at ≡ length values = omega (arith, next_is) in
    record {
      next_is = next_is;
      new_is =
          rw (part_is, drop-drop (next - at) at old, n)
          (sym (sets-eq values old at (omega (arith, next_is)) ∙ append_assoc (take at old) values (drop (at + length values) old)));
    }

-- What is written after the first i elements of a list are the n elements after them.
pub put_next : {old mid new : List ℕ} {at m next : ℕ} (from : List ℕ) (i n : ℕ) → Put old at (take i from) mid m
    → Put mid m (take n (drop i from)) new next → Put old at (take (i + n) from) new next
put_next from i n a b = rw (take-add i n from) (put_join a b)

-- The next element is written after the first i of them.
pub put_element : {old mid : List ℕ} {at m : ℕ} (from : List ℕ) (i : ℕ) → i < length from → Put old at (take i from) mid m
    → Put old at (take (i + 1) from) (set mid m (get_or from i 0)) (m + 1)
put_element from i h a = rw (add-one i, take-suc from i 0 h) (put_join a (record { next_is = refl; new_is = refl }))

-- The next number is written after the first i of them.
pub put_number-next : {old mid new : List ℕ} {at m next : ℕ} (numbers : List ℕ) (i : ℕ) → i < length numbers
    → Put old at (fours (take i numbers)) mid m → Put mid m (four_bytes (get_or numbers i 0)) new next
    → Put old at (fours (take (i + 1) numbers)) new next
unfolding fours
put_number-next numbers i h a b =
    rw (add-one i, take-suc numbers i 0 h, laid-fours.join (take i numbers) (get_or numbers i 0 ∷ []), append-nil (four_bytes (get_or numbers i 0)))
    (put_join a b)
