-- Document 01, 'In every call, room past what was written keeps its contents': what writing into a lent room means.
use Rattle.std.specs.Prelude.{ℕ, ◌+◌, ◌≡◌, List, length}
use Rattle.std.proofs.lemmas.List.Edits.{sets}

-- The values were written into old from at on: new is what the room then holds, and next the place after them.
pub record Put {A : Type 0} (old : List A) (at : ℕ) (values new : List A) (next : ℕ) : Type 0 where
  pub next_is : next ≡ at + length values
  pub new_is : new ≡ sets old at values
