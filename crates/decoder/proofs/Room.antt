-- The room that is asked for before a byte, by its test.
use Prim.Native.Nat.{ℕ, ◌≤◌, ◌<◌}
use mathlib.Core.Path.{◌≡◌, sym, ◌∙◌}
use mathlib.Core.Bool.{true, false}
use mathlib.Core.Logic.{◌⊎◌, inl, inr, ⊎_elim}
use lib.Dec.{ltb}
use borrow.Author.Tests.{lt-ltb, le-ltb}
use Rattle.lists.proofs.Choice.{no_way, test?, below?}
use Rattle.decoder.specs.Stream.{lacks_room}

-- Too little room.
pub lacks-so : (t e : ℕ) → (t < 64) ⊎ (e < 8) → lacks_room t e ≡ true
lacks-so t e (inl h) = rw (lt-ltb t 64 h)
lacks-so t e (inr h) = rw (lt-ltb e 8 h) (⊎_elim (λ f. rw f) (λ f. rw f) (test? (ltb t 64)))

-- Enough room.
pub room-so : (t e : ℕ) → (64 ≤ t) × (8 ≤ e) → lacks_room t e ≡ false
room-so t e h = rw (le-ltb t 64 h.0, le-ltb e 8 h.1)

-- There is too little room, or enough.
pub room? : (t e : ℕ) → ((t < 64) ⊎ (e < 8)) ⊎ ((64 ≤ t) × (8 ≤ e))
room? t e = ⊎_elim (λ h. inl (inl h)) (λ h. ⊎_elim (λ k. inl (inr k)) (λ k. inr (h, k)) (below? e 8)) (below? t 64)

-- The test holds for too little room alone, and fails for enough.
pub lacks-only : (t e : ℕ) → lacks_room t e ≡ true → (t < 64) ⊎ (e < 8)
lacks-only t e h = ⊎_elim (λ k. k) (λ k. no_way (sym h ∙ room-so t e k)) (room? t e)

pub room-only : (t e : ℕ) → lacks_room t e ≡ false → (64 ≤ t) × (8 ≤ e)
room-only t e h = ⊎_elim (λ k. no_way (sym (lacks-so t e k) ∙ h)) (λ k. k) (room? t e)
