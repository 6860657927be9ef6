-- The length of a long array comes by a law: computing it takes as many steps as it has elements.
use Rattle.std.proofs.Common.{◌≡◌, ℕ, length, replicate, sym}
use lib.ListN.{length-replicate}

pub zeros : (n : ℕ) → n ≡ length (replicate {A = ℕ} n 0)
zeros n = sym (length-replicate {A = ℕ} n 0)
