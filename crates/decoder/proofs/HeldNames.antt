-- Which beginnings of a name are held: what begins no name isn't, nor is what goes on past a `;` or with an `&`.
use Prim.Native.Nat.{ℕ, ◌-◌}
use Prim.Native.Char.{code}
use mathlib.Core.Path.{◌≡◌, refl, sym, ◌∙◌, ap}
use mathlib.Core.List.{List, [], ◌∷◌, ◌++◌}
use mathlib.Core.Bool.{Bool, true, false, ◌||◌, ◌&&◌, and-false}
use native.Mathlib.Omega.{arith}
use lib.Dec.{eqb}
use lib.ListN.{length, drop, length-append}
use lib.Seq.{drop-append_seam}
use borrow.Author.Tests.{eq-eqb, eqb-true}
use Rattle.lists.specs.Notation.{next, next_passes}
use Rattle.lists.proofs.Choice.{no_way, and_true}
use Rattle.standard.specs.Classes.{alphanumeric}
use Rattle.standard.specs.Names.{Name, stands, longest, begins}
use Rattle.decoder.specs.Held.{held_name}
use Rattle.decoder.proofs.Tidy.{Tidy, tidy_rest, Alphanumerics, apart, goes_on, closed-length}
use Rattle.decoder.proofs.Unfolding.{all_drop}

-- What stands at the front of no word does not with more after it.
stands-more : (s t word : List ℕ) → stands s word ≡ false → stands (s ++ t) word ≡ false
unfolding stands
stands-more [] t word e = no_way e
stands-more (a ∷ s) t [] e = refl
stands-more (a ∷ s) t (b ∷ word) e = go (eqb a b) refl e (stands-more s t word)
  where
    go : (u : Bool) → eqb a b ≡ u → u && stands s word ≡ false → (stands s word ≡ false → stands (s ++ t) word ≡ false)
        → eqb a b && stands (s ++ t) word ≡ false
    go true f i later = rw f (later i)
    go false f i later = rw f

-- What begins no name begins none with more after it.
pub begins-more : (names : List Name) (s t : List ℕ) → begins names s ≡ false → begins names (s ++ t) ≡ false
unfolding begins
begins-more [] s t e = refl
begins-more (n ∷ names) s t e = go (stands s n.word) refl e (begins-more names s t)
  where
    go : (u : Bool) → stands s n.word ≡ u → u || begins names s ≡ false → (begins names s ≡ false → begins names (s ++ t) ≡ false)
        → stands (s ++ t) n.word || begins names (s ++ t) ≡ false
    go true f i later = no_way i
    go false f i later = rw (stands-more s t n.word f) (later i)

-- What stands at the front of no tidy word begins no tidy name.
begins-none : (names : List Name) (s : List ℕ) → Tidy names
    → ((word : List ℕ) → next_passes alphanumeric word ≡ true → tidy_rest word ≡ true → stands s word ≡ false) → begins names s ≡ false
unfolding begins
begins-none [] s tidy rule = refl
begins-none (n ∷ names) s tidy rule =
    let w = and_true (next_passes alphanumeric n.word) (tidy_rest n.word) tidy.0 in
    rw (rule n.word w.0 w.1) (begins-none names s tidy.1 rule)

-- A tidy word begins with a letter or digit.
stands-first : (b : ℕ) (t word : List ℕ) → alphanumeric b ≡ false → next_passes alphanumeric word ≡ true → stands (b ∷ t) word ≡ false
unfolding stands
stands-first b t [] e i = no_way (sym i)
stands-first b t (a ∷ word) e i = go (eqb b a) refl
  where
    go : (u : Bool) → eqb b a ≡ u → eqb b a && stands t word ≡ false
    go true f = no_way (sym i ∙ ap alphanumeric (sym (eqb-true b a f)) ∙ e)
    go false f = rw f

-- So does what begins a name.
pub begins-first : (names : List Name) (b : ℕ) (t : List ℕ) → Tidy names → alphanumeric b ≡ false → begins names (b ∷ t) ≡ false
begins-first names b t tidy e = begins-none names (b ∷ t) tidy (λ word i rest. stands-first b t word e i)

-- A tidy word has nothing after its `;`.
stands-past : (h : List ℕ) (x : ℕ) (t word : List ℕ) → tidy_rest word ≡ true → Alphanumerics h → stands (h ++ code ";" ∷ x ∷ t) word ≡ false
unfolding stands tidy_rest
stands-past [] x t [] e al = refl
stands-past (y ∷ h) x t [] e al = refl
stands-past [] x t (a ∷ []) e al = and-false (eqb (code ";") a)
stands-past [] x t (a ∷ y ∷ word) e al = go (eqb (code ";") a) refl
  where
    go : (u : Bool) → eqb (code ";") a ≡ u → u && stands (x ∷ t) (y ∷ word) ≡ false
    go true f = absurd (omega (arith, eqb-true (length (y ∷ word)) 0 (rw (sym (eqb-true (code ";") a f)) at e)))
    go false f = refl
stands-past (y ∷ h) x t (a ∷ word) e al = go (eqb y a) refl (stands-past h x t word)
  where
    go : (u : Bool) → eqb y a ≡ u → (tidy_rest word ≡ true → Alphanumerics h → stands (h ++ code ";" ∷ x ∷ t) word ≡ false)
        → u && stands (h ++ code ";" ∷ x ∷ t) word ≡ false
    go true f later = later (rw (ap alphanumeric (sym (eqb-true y a f)) ∙ al.0) at e) al.1
    go false f later = refl

-- No letter or digit is a `;`.
no_semicolon : (s : List ℕ) → Alphanumerics s → next (code ";") s ≡ false
no_semicolon [] al = refl
no_semicolon (c ∷ s) al = apart alphanumeric c (code ";") al.0 refl

module _ (names : List Name) where
  -- What begins no name is not held.
  pub unheld_name : (s : List ℕ) → begins names s ≡ false → held_name names s ≡ false
  unheld_name s e = rw e

  -- Letters and digits that begin a name are held.
  pub held_letters : (h : List ℕ) → Alphanumerics h → begins names h ≡ true → held_name names h ≡ true
  held_letters h al e =
      rw (
        e,
        no_semicolon (drop (length h - 1) h) (all_drop (λ (c : ℕ). alphanumeric c ≡ true) (length h - 1) h al),
        and-false (eqb (longest names h).len (length h)),
      )

  -- A name with its `;` is not held, nor is anything after it.
  pub closed_unheld : (h t : List ℕ) → Tidy names → Alphanumerics h → begins names (h ++ code ";" ∷ []) ≡ true
      → held_name names (h ++ code ";" ∷ t) ≡ false
  closed_unheld h (x ∷ t) tidy al e =
      unheld_name (h ++ code ";" ∷ x ∷ t)
      (begins-none names (h ++ code ";" ∷ x ∷ t) tidy (λ word i rest. stands-past h x t word rest al))
  closed_unheld h [] tidy al e =
      let k : List ℕ = h ++ code ";" ∷ [] in
      let last : length k - 1 ≡ length h = simp length-append (omega arith) in
      let ending : next (code ";") (drop (length k - 1) k) ≡ true
      = ap (λ (n : ℕ). next (code ";") (drop n k)) last ∙ ap (next (code ";")) (drop-append_seam h (code ";" ∷ [])) in
      rw (e, eq-eqb (longest names k).len (length k) (closed-length names h tidy al e), ending)

  -- No name goes on with `&`.
  pub begins_ampersand : (h t : List ℕ) → Tidy names → Alphanumerics h → begins names (h ++ code "&" ∷ t) ≡ false
  begins_ampersand h t tidy al = go (begins names (h ++ code "&" ∷ t)) refl
    where
      go : (u : Bool) → begins names (h ++ code "&" ∷ t) ≡ u → begins names (h ++ code "&" ∷ t) ≡ false
      go true f = no_way (sym (goes_on names h (code "&") t tidy al f refl))
      go false f = f
