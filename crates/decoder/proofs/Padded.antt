-- Laws of a list with zeros after it: an array whose front is filled.
use Prim.Native.Nat.{ℕ, zero, suc, ◌+◌, ◌-◌, ◌≤◌}
use mathlib.Core.Path.{◌≡◌, refl, ◌∙◌, ap}
use mathlib.Core.List.{List, ◌++◌}
use native.Mathlib.Omega.{arith}
use native.Mathlib.Numerals.{unary_clauses}
use lib.ListN.{length, take, drop, replicate, length-append, length-replicate}
use Rattle.lists.specs.Rooms.{Put}
use Rattle.lists.proofs.Puts.{sets-front}
use Rattle.rooms.proofs.Fits.{copy_fits}
use Rattle.decoder.specs.Stream.{padded}

-- It is as long as it is to be.
pub padded-length : (n : ℕ) (l : List ℕ) → length l ≤ n → length (padded n l) ≡ n
padded-length n l h = length-append l (replicate (n - length l) 0) ∙ ap (λ (k : ℕ). length l + k) (length-replicate (n - length l) 0) ∙ omega arith

abbrev zeros : ℕ → List ℕ
zeros n = replicate n 0

drop-zeros : (k n : ℕ) → k ≤ n → drop k (zeros n) ≡ zeros (n - k)
drop-zeros zero n h = simp unary_clauses refl
drop-zeros (suc k) zero h = absurd (omega arith)
drop-zeros (suc k) (suc n) h = simp unary_clauses (drop-zeros k n (omega arith))

-- A list is copied into zeros.
pub padded_copied : (n : ℕ) (l : List ℕ) {new : List ℕ} {next : ℕ} → length l ≤ n → Put (zeros n) 0 (take (length (zeros n) - 0) l) new next
    → new ≡ padded n l
padded_copied n l h put =
    let long : length (zeros n) ≡ n = length-replicate n 0 in
    (copy_fits {old = zeros n} {from = l} (omega (arith, long)) put).new_is ∙ sets-front (zeros n) l (omega (arith, long))
    ∙ ap (λ (r : List ℕ). l ++ r) (drop-zeros (length l) n h)
