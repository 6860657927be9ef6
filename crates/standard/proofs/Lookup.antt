-- Laws of names and of tables of names.
use Rattle.std.specs.Prelude.{Option, Some, None, IfSome}
use Prim.Native.Nat.{ℕ, ◌+◌, ◌≤◌, ◌<◌}
use mathlib.Core.Path.{◌≡◌, refl, ◌∙◌, ap}
use mathlib.Core.List.{List, [], ◌∷◌}
use mathlib.Core.Bool.{Bool, true, false, ◌&&◌, and-false}
use native.Mathlib.Numerals.{add-one}
use native.Mathlib.Omega.{arith}
use lib.Dec.{ltb}
use lib.ListN.{length, get_or, take, drop, drop_of_length-le}
use lib.Seq.{get_or-drop, get_or-take, drop-cons, drop-drop}
use borrow.Author.Tests.{lt-ltb, le-ltb, le-leb, lt-leb, eq-eqb, ne_eqb}
use Rattle.lists.specs.Bytes.{word32}
use Rattle.standard.proofs.Skips.{records_unfold}
use Rattle.standard.specs.declared.names.Found.{Found}
use Rattle.standard.specs.Names.{Name, name, stands, longer, found_as, found_of, found_where, longest_from, begins, records_from, records}

-- A word and what it should stand at the front of, both from i on: the word is used up, the bytes are, they differ, they agree.
module _ (w s : List ℕ) (i : ℕ) where
  pub stands_end : length w ≤ i → stands (drop i w) (drop i s) ≡ true
  unfolding stands
  stands_end h = rw (drop_of_length-le w h)

  module _ (h : i < length w) where
    pub stands_short : length s ≤ i → stands (drop i w) (drop i s) ≡ false
    unfolding stands
    stands_short k = rw (drop-cons w i 0 h, drop_of_length-le s k)

    pub stands_other : i < length s → (get_or w i 0 ≡ get_or s i 0 → ⊥) → stands (drop i w) (drop i s) ≡ false
    unfolding stands
    stands_other k e = rw (drop-cons w i 0 h, drop-cons s i 0 k, ne_eqb (get_or w i 0) (get_or s i 0) e)

    pub stands_same : i < length s → get_or w i 0 ≡ get_or s i 0 → stands (drop i w) (drop i s) ≡ stands (drop (i + 1) w) (drop (i + 1) s)
    unfolding stands
    stands_same k e = rw (add-one i, drop-cons w i 0 h, drop-cons s i 0 k, eq-eqb (get_or w i 0) (get_or s i 0) e)

-- The longer of what was found and another name: it is no longer, it stands there, it doesn't.
module _ (f : Found) (n : Name) (s : List ℕ) where
  pub longer_not : length n.word ≤ f.len → longer f n s ≡ f
  unfolding longer
  longer_not k = rw (le-ltb f.len (length n.word) k)

  pub longer_hit : f.len < length n.word → stands n.word s ≡ true → longer f n s ≡ found_as n
  unfolding longer
  longer_hit k e = rw (lt-ltb f.len (length n.word) k, e)

  pub longer_miss : stands n.word s ≡ false → longer f n s ≡ f
  unfolding longer
  longer_miss e = rw (e, and-false (ltb f.len (length n.word)))

-- The records of a table: there are no bytes, too few for a record, or a record and what follows it.
pub records_none : (t : List ℕ) → length t ≡ 0 → records t ≡ []
unfolding records_from
records_none [] h = refl
records_none (n ∷ t) h = absurd (omega arith)

module _ (n : ℕ) (t : List ℕ) where
  pub records_cut : length t < n + 8 → records (n ∷ t) ≡ []
  records_cut h = rw (records_unfold n t, lt-leb (n + 8) (length t) h)

  pub records_more : n + 8 ≤ length t
      → records (n ∷ t) ≡ name (take n t) (word32 (take 8 (drop n t)) 0) (word32 (take 8 (drop n t)) 4) ∷ records (drop 8 (drop n t))
  records_more h =
      let at : (i m : ℕ) → i < 8 → n + i ≡ m → get_or (take 8 (drop n t)) i 0 ≡ get_or t m 0
      = λ i m l e. get_or-take 8 (drop n t) i 0 l ∙ get_or-drop n t i 0 ∙ ap (λ (k : ℕ). get_or t k 0) e in
      let p : ℕ = 0 + n in
      let q : ℕ = 0 + n + 4 in
      rw (records_unfold n t, le-leb (n + 8) (length t) h, drop-drop 8 n t)
      (rw (at 0 p (omega arith) (omega arith), at 1 (p + 1) (omega arith) (omega arith), at 2 (p + 2) (omega arith) (omega arith)) (
      rw (at 3 (p + 3) (omega arith) (omega arith), at 4 q (omega arith) (omega arith), at 5 (q + 1) (omega arith) (omega arith)) (
      rw (at 6 (q + 2) (omega arith) (omega arith), at 7 (q + 3) (omega arith) (omega arith)) refl
      )
      ))

-- What was found, where that is a name, is what was found, if no name was found of no bytes.
pub found_back : (o : Option Found) → IfSome o (λ f. 0 < f.len) → o ≡ found_where (found_of o)
found_back None h = refl
found_back (Some f) h = rw (ne_eqb f.len 0 (λ z. omega (arith, z, h))) refl

pub longest-end : (f : Found) (s : List ℕ) → longest_from f [] s ≡ f
unfolding longest_from
longest-end f s = refl

pub longest-more : (f : Found) (n : Name) (names : List Name) (s : List ℕ) → longest_from f (n ∷ names) s ≡ longest_from (longer f n s) names s
unfolding longest_from
longest-more f n names s = refl

pub begins-none : (s : List ℕ) → begins [] s ≡ false
unfolding begins
begins-none s = refl

pub begins_hit : (n : Name) (names : List Name) (s : List ℕ) → stands s n.word ≡ true → begins (n ∷ names) s ≡ true
unfolding begins
begins_hit n names s e = rw e

pub begins_miss : (n : Name) (names : List Name) (s : List ℕ) → stands s n.word ≡ false → begins (n ∷ names) s ≡ begins names s
unfolding begins
begins_miss n names s e = rw e
