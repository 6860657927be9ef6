-- The longest name that stands at the front of some bytes: one of the list that stands there, and none that stands there is longer.
use Prim.Native.Nat.{ℕ, ◌≤◌, ◌<◌}
use mathlib.Core.Path.{◌≡◌, refl, sym, ◌∙◌, ap, subst}
use mathlib.Core.Logic.{⊎_elim}
use mathlib.Core.List.Memᴰ
use mathlib.Core.List.{List, [], ◌∷◌, Memᴰ}
use mathlib.Core.Bool as Bool
use mathlib.Core.Bool.{true, ◌&&◌}
use native.Mathlib.Omega.{arith}
use lib.Dec.{eqb, ltb}
use lib.ListN.{length}
use borrow.Author.Tests.{ne_eqb}
use Rattle.std.specs.Prelude.{Option, Some, IfSome}
use Rattle.lists.proofs.Choice.{facts, if_both, and_true}
use Rattle.standard.specs.declared.names.Found.{Found}
use Rattle.standard.specs.Names.{Name, stands, no_name, found_as, found_of, found_where, longer, longest_from, longest}
use Rattle.standard.proofs.Narrow.{longest_cases, longest-fits}

-- The longer one is not shorter than what was found, nor than the name where that stands there.
longer-most : (found : Found) (n : Name) (s : List ℕ)
    → (found.len ≤ (longer found n s).len) × (stands n.word s ≡ true → length n.word ≤ (longer found n s).len)
unfolding longer
longer-most found n s =
    if_both Most (ltb found.len (length n.word) && stands n.word s) _ _
    (λ t. (omega (facts, (and_true (ltb found.len (length n.word)) (stands n.word s) t).0), λ e. omega arith))
    (λ f. (omega arith, λ e. omega (facts, rw (e, Bool.and-true) at f)))
  where
    Most : Found → Type 0
    Most f = (found.len ≤ f.len) × (stands n.word s ≡ true → length n.word ≤ f.len)

-- The longest one is not shorter than what was found, nor than any name of the list that stands there.
longest-from-most : (found : Found) (names : List Name) (s : List ℕ) → (found.len ≤ (longest_from found names s).len)
    × ((n : Name) → Memᴰ n names → stands n.word s ≡ true → length n.word ≤ (longest_from found names s).len)
unfolding longest_from
longest-from-most found [] s = (omega arith, λ n i e. absurd (Memᴰ.not-nil i))
longest-from-most found (m ∷ names) s =
    let k = longer-most found m s in
    let w = longest-from-most (longer found m s) names s in
    (omega arith, λ n i e. ⊎_elim (λ same. rw same (omega (arith, k.1 (rw same at e)))) (λ later. w.1 n later e) (Memᴰ.cases_cons i))

-- A name of the list that stands there is no longer than what is found.
pub longest-most : (names : List Name) (s : List ℕ) (n : Name) → Memᴰ n names → stands n.word s ≡ true
    → length n.word ≤ (longest names s).len
unfolding longest
longest-most names s = (longest-from-most no_name names s).1

-- What is found is a name of the list that stands there.
pub longest-some : (names : List Name) (s : List ℕ) → 0 < (longest names s).len
    → (n : Name) × Memᴰ n names × (stands n.word s ≡ true) × (longest names s ≡ found_as n)
longest-some names s =
    longest_cases (λ (f : Found). 0 < f.len → (n : Name) × Memᴰ n names × (stands n.word s ≡ true) × (f ≡ found_as n)) s names
    (λ h. absurd (omega arith)) (λ n i some e h. (n, i, e, refl))

-- Where no name was found, nothing was: the code's answer tells what is found.
pub found-kept : (names : List Name) (s : List ℕ) → found_of (found_where (longest names s)) ≡ longest names s
found-kept names s =
    longest_cases (λ (f : Found). found_of (found_where f) ≡ f) s names refl
    (λ n i some e. rw (ne_eqb (length n.word) 0 (λ z. omega (arith, z, some))) refl)

-- A name that is found has a byte, and as many bytes at most as it is found in.
pub found-some : (f : Found) (m : ℕ) → f.len ≤ m → IfSome (found_where f) (λ g. (1 ≤ g.len) × (g.len ≤ m))
found-some f m h =
    if_both (λ (o : Option Found). IfSome o (λ g. (1 ≤ g.len) × (g.len ≤ m))) (eqb f.len 0) _ _ (λ t. tt) (λ t. (omega facts, h))

-- A name that the code gives is the longest one, and has a byte.
pub found-so : (names : List Name) (s : List ℕ) {o : Option Found} {f : Found} → o ≡ found_where (longest names s) → o ≡ Some f
    → (f ≡ longest names s) × (1 ≤ f.len)
found-so names s is some = (
  ap found_of (sym some ∙ is) ∙ found-kept names s,
  (subst (λ (o : Option Found). IfSome o (λ g. (1 ≤ g.len) × (g.len ≤ length s))) (sym is ∙ some)
      (found-some (longest names s) (length s) (longest-fits names s).0)).0,
)
