-- Laws of writing one thing after the other into a room.
use Prim.Native.Nat.{ℕ, zero, suc, ◌-◌}
use mathlib.Core.Path.{◌≡◌, refl, ◌∙◌, ap}
use mathlib.Core.List.{List, [], ◌∷◌, ◌++◌}
use native.Mathlib.Omega.{arith}
use lib.ListN.{length, take, length-take}
use Rattle.lists.proofs.Puts.{put_join, put_none, put_length}
use Rattle.reporting.specs.declared.lines.Writer.{Writer}
use Rattle.reporting.specs.Lines.{Wrote}

-- The front of two lists is that of the first, and what is left of it of the second.
take-append : (n : ℕ) (u v : List ℕ) → take n (u ++ v) ≡ take n u ++ take (n - length u) v
take-append zero u v = let e : 0 - length u ≡ 0 = omega arith in rw e
take-append (suc n) [] v = let e : suc n - 0 ≡ suc n = omega arith in rw e
take-append (suc n) (a ∷ u) v =
    let e : suc n - suc (length u) ≡ n - length u = omega arith in rw e (ap (λ (l : List ℕ). a ∷ l) (take-append n u v))

-- Of nothing all is taken.
take-none : (n : ℕ) → take {A = ℕ} n [] ≡ []
take-none zero = refl
take-none (suc n) = refl

-- Two things are written one after the other.
pub wrote_join : {a b c : Writer} {u v : List ℕ} → Wrote a u b → Wrote b v c → Wrote a (u ++ v) c
wrote_join {a} {b} {c} {u} {v} p q =
    let room : ℕ = length a.out.now - a.at in
    let left : room - length u ≡ length b.out.now - b.at = omega (arith, p.put.next_is, put_length p.put, length-take room u) in
    record { put = rw (take-append room u v, left) (put_join p.put q.put); same_room = q.same_room ∙ p.same_room }

-- Nothing is written.
pub wrote_none : (a : Writer) → Wrote a [] a
wrote_none a = record { put = rw (take-none (length a.out.now - a.at)) (put_none a.out.now a.at); same_room = refl }
