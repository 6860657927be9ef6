-- What skips some bytes before it begins is what begins after them: after these laws nobody speaks of skip.
use Rattle.std.specs.Prelude.{if◌then◌else◌}
use Prim.Native.Nat.{ℕ, zero, suc, ◌+◌, ◌-◌, ◌≤◌}
use mathlib.Core.Path.{◌≡◌, refl, ◌∙◌, ap}
use mathlib.Core.List.{List, [], ◌∷◌}
use native.Mathlib.Omega.{arith}
use native.Mathlib.Numerals.{sub-one}
use lib.Dec.{leb}
use lib.ListN.{length, take, drop, length-drop}
use lib.Seq.{take_all}
use Rattle.standard.specs.declared.Context.{Context}
use Rattle.standard.specs.Names.{Name, record_at, records_from}
use Rattle.standard.specs.Reading.{stop_from, pieces_from}

-- To drop one element less from one element less is the same.
pub drop_pred : (n b : ℕ) (s : List ℕ) → 1 ≤ n → drop (n - 1) s ≡ drop n (b ∷ s)
drop_pred zero b s h = absurd (omega arith)
drop_pred (suc n) b s h = rw (sub-one (suc n))

-- The part of a slice from a place on is the list without what stands before.
pub rest_from : (s : List ℕ) (a : ℕ) → take (length s - a) (drop a s) ≡ drop a s
rest_from s a = take_all (length s - a) (drop a s) (simp length-drop (omega arith))

-- A function that skips one element by one skips the first k of a list.
pub skip_drops {ℓ} : {A : Type ℓ} (f : ℕ → List ℕ → A) → ((k : ℕ) → f k [] ≡ f 0 []) → ((k b : ℕ) (s : List ℕ) → f (suc k) (b ∷ s) ≡ f k s)
    → (k : ℕ) (s : List ℕ) → f k s ≡ f 0 (drop k s)
skip_drops f none one zero s = refl
skip_drops f none one (suc k) [] = none (suc k)
skip_drops f none one (suc k) (b ∷ s) = one k b s ∙ skip_drops f none one k s

-- The pieces after k bytes are those of the rest.
pub pieces_skip : (names : List Name) (context : Context) (k : ℕ) (s : List ℕ)
    → pieces_from names context k s ≡ pieces_from names context 0 (drop k s)
unfolding pieces_from
pieces_skip names context = skip_drops (pieces_from names context) (λ k. refl) (λ k b s. refl)

-- The records after k bytes are those of the rest.
records_skip : (k : ℕ) (l : List ℕ) → records_from k l ≡ records_from 0 (drop k l)
unfolding records_from
records_skip = skip_drops records_from (λ k. refl) (λ k b s. refl)

-- The records of a table are its first record, if that is whole, and those of the rest.
pub records_unfold : (n : ℕ) (l : List ℕ)
    → records_from 0 (n ∷ l) ≡ (if leb (n + 8) (length l) then record_at l 0 n ∷ records_from 0 (drop (n + 8) l) else [])
unfolding records_from
records_unfold n l = ap (λ (rest : List Name). if leb (n + 8) (length l) then record_at l 0 n ∷ rest else []) (records_skip (n + 8) l)

-- A source stops after k bytes where the rest stops, with k bytes more before it.
pub stop_skip : (calls : ℕ → ℕ) (k place : ℕ) (s : List ℕ) → k ≤ length s → stop_from calls k place s ≡ stop_from calls 0 (place + k) (drop k s)
unfolding stop_from
stop_skip calls zero place s h = ap (λ (p : ℕ). stop_from calls 0 p s) (omega arith)
stop_skip calls (suc k) place [] h = absurd (omega arith)
stop_skip calls (suc k) place (b ∷ s) h =
    stop_skip calls k (suc place) s (omega arith) ∙ ap (λ (p : ℕ). stop_from calls 0 p (drop k s)) (omega arith)
