-- Open records: a store that is what its state says, the states within the limits, and the record of such a state.
use Rattle.std.specs.Prelude.{if◌then◌else◌}
use Prim.Native.Nat.{ℕ, suc, ◌+◌, ◌-◌, ◌≤◌, ◌<◌, min}
use Prim.Native.Char.{code}
use mathlib.Core.Path.{◌≡◌, refl, sym, ◌∙◌, ap, ap₂, subst}
use mathlib.Core.List.{List, [], ◌∷◌, ◌++◌}
use mathlib.Core.Bool.{Bool, true, false, not, ◌&&◌, and-true, and-false}
use mathlib.Core.Logic.{inl, inr, ⊎_elim}
use native.Mathlib.Omega.{arith}
use lib.Dec.{ltb, eqb, eqb-suc-suc}
use lib.Pointwise.{pointwise}
use lib.ListN.{length, get_or, take, drop, replicate, length-append}
use lib.Seq.{take-suc, take_all, take-append_seam}
use borrow.Author.Tests.{eq-eqb, eqb-true, ltb-true, lt-ltb, le-leb, ne_eqb}
use Rattle.lists.proofs.Choice as choice
use Rattle.lists.proofs.Choice.{no_way, or_true, length_none}
use Rattle.lists.proofs.Nexts.{next_at}
use Rattle.standard.specs.declared.Context.{Context}
use Rattle.standard.specs.Classes.{alphanumeric}
use Rattle.standard.specs.Utf8.{read_char}
use Rattle.standard.specs.Names.{stands, longest, begins}
use Rattle.standard.specs.NameList.{builtin}
use Rattle.standard.proofs.Narrow.{stands-fits}
use Rattle.decoder.proofs.Turning.{begins-short}
use Rattle.decoder.specs.declared.stream.State.{State}
use Rattle.decoder.specs.declared.stream.State.TheVariants as kind
use Rattle.decoder.specs.declared.stream.Held.{Held}
use Rattle.decoder.specs.Held.{is_x, closed_name, held_name}
use Rattle.decoder.specs.Machine.{St, Data, AfterCr, Begin, Octothorpe, HexBegin, Numeric, Named, BogusName}
use Rattle.decoder.specs.Stream.{
  At,
  store_of,
  mark_of,
  kind_of,
  held_of,
  record_of,
  st_by,
  st_of,
  at_of,
  same,
  is_hex_intro,
  is_name_store,
  holds,
  is_part,
  is_open,
}
use Rattle.decoder.specs.Turns.{Fits, Fit}
use Rattle.decoder.proofs.Tidy.{tidy_rest, Alphanumerics, builtin_tidy, begins-some, tidy_name, closed-length}

-- Lists that are the same by the test are equal.
same_equal : (s t : List ℕ) → same s t ≡ true → s ≡ t
unfolding stands
same_equal [] [] e = refl
same_equal [] (b ∷ t) e =
    absurd (omega (arith, eqb-true 0 (suc (length t)) (choice.and_true (eqb 0 (suc (length t))) true e).0))
same_equal (a ∷ s) [] e =
    absurd (omega (arith, eqb-true (suc (length s)) 0 (choice.and_true (eqb (suc (length s)) 0) false e).0))
same_equal (a ∷ s) (b ∷ t) e =
    let w = choice.and_true (eqb (suc (length s)) (suc (length t))) (eqb a b && stands s t) e in
    let u = choice.and_true (eqb a b) (stands s t) w.1 in
    let n : length s ≡ length t = omega (arith, eqb-true (suc (length s)) (suc (length t)) w.0) in
    ap₂ ◌∷◌ (eqb-true a b u.0) (same_equal s t (rw (eq-eqb (length s) (length t) n) u.1))

-- What stands before the last byte of a tidy word's beginning is letters and digits.
before_last : (word g : List ℕ) (b : ℕ) → tidy_rest word ≡ true → stands (g ++ b ∷ []) word ≡ true → Alphanumerics g
unfolding stands tidy_rest
before_last word [] b e i = tt
before_last [] (x ∷ g) b e i = no_way (sym i)
before_last (a ∷ word) (x ∷ g) b e i =
    let w = choice.and_true (eqb x a) (stands (g ++ b ∷ []) word) i in
    go (alphanumeric a) refl e (eqb-true x a w.0) w.1 (before_last word g b)
  where
    go : (t : Bool) → alphanumeric a ≡ t → (if t then tidy_rest word else eqb a (code ";") && eqb (length word) 0) ≡ true → x ≡ a
        → stands (g ++ b ∷ []) word ≡ true → (tidy_rest word ≡ true → stands (g ++ b ∷ []) word ≡ true → Alphanumerics g)
        → (alphanumeric x ≡ true) × Alphanumerics g
    go true f rest is on later = (ap alphanumeric is ∙ f, later rest on)
    go false f rest is on later =
        let none = eqb-true (length word) 0 (choice.and_true (eqb a (code ";")) (eqb (length word) 0) rest).1 in
        absurd (omega (arith, none, stands-fits (g ++ b ∷ []) word on, length-append g (b ∷ [])))

-- A list is its elements before the last and the last.
last_apart : (h : List ℕ) → 0 < length h → h ≡ take (length h - 1) h ++ get_or h (length h - 1) 0 ∷ []
last_apart h some =
    sym (take_all (suc (length h - 1)) h (omega arith)) ∙ take-suc h (length h - 1) 0 (omega arith)

-- A beginning of a built-in name is closed exactly if its last byte is `;`.
closed-by-last : (h : List ℕ) → 0 < length h → begins builtin h ≡ true → closed_name builtin h ≡ eqb (get_or h (length h - 1) 0) (code ";")
closed-by-last h some e =
    rw (next_at (λ b. eqb b (code ";")) h (length h - 1) (omega arith)) (go (eqb (get_or h (length h - 1) 0) (code ";")) refl)
  where
    g : List ℕ
    g = take (length h - 1) h

    go : (t : Bool) → eqb (get_or h (length h - 1) 0) (code ";") ≡ t → eqb (longest builtin h).len (length h) && t ≡ t
    go false f = and-false (eqb (longest builtin h).len (length h))
    go true f =
        let is : h ≡ g ++ code ";" ∷ [] =
        last_apart h some ∙ ap (λ (b : ℕ). g ++ b ∷ []) (eqb-true (get_or h (length h - 1) 0) (code ";") f) in
        let b : begins builtin (g ++ code ";" ∷ []) ≡ true = ap (begins builtin) (sym is) ∙ e in
        let w = begins-some builtin (g ++ code ";" ∷ []) b in
        let al = before_last w.0.word g (code ";") (tidy_name builtin builtin_tidy w.1).1 w.2 in
        let long = closed-length builtin g builtin_tidy al b in
        and-true (eqb (longest builtin h).len (length h))
        ∙ eq-eqb (longest builtin h).len (length h) (ap (λ (l : List ℕ). (longest builtin l).len) is ∙ long ∙ ap length (sym is))

-- A beginning of a built-in name is held exactly if its last byte is no `;`.
pub held-by-last : (h : List ℕ) → 0 < length h → held_name builtin h ≡ begins builtin h && not (eqb (get_or h (length h - 1) 0) (code ";"))
held-by-last h some = go (begins builtin h) refl
  where
    go : (t : Bool) → begins builtin h ≡ t → t && not (closed_name builtin h) ≡ t && not (eqb (get_or h (length h - 1) 0) (code ";"))
    go false e = refl
    go true e = ap not (closed-by-last h some e)

-- Slices are equal where their lists are the same.
pub pointwise-same : (s t : List ℕ) → pointwise eqb s t ≡ same s t
unfolding stands
pointwise-same [] [] = refl
pointwise-same [] (b ∷ t) = rw (ne_eqb 0 (length (b ∷ t)) (λ e. omega (arith, e))) refl
pointwise-same (a ∷ s) [] = rw (and-false (eqb (length (a ∷ s)) 0)) refl
pointwise-same (a ∷ s) (b ∷ t) = rw (pointwise-same s t, eqb-suc-suc (length s) (length t)) (swap (eqb a b) (eqb (length s) (length t)) (stands s t))
  where
    swap : (p q r : Bool) → p && (q && r) ≡ q && (p && r)
    swap true q r = refl
    swap false true r = refl
    swap false false r = refl

-- A store of two bytes or more has a name exactly if `&` stands first, then a beginning of some name, and its last byte is no `;`.
pub name-some : (s : List ℕ) → 2 ≤ length s
    → is_name_store builtin s
    ≡ eqb (get_or s 0 0) (code "&") && (begins builtin (take (length s - 1) (drop 1 s)) && not (eqb (get_or s (length s - 1) 0) (code ";")))
name-some [] two = absurd (omega arith)
name-some (c ∷ h) two =
    let less : suc (length h) - 1 ≡ length h = omega arith in
    let at : suc (length h - 1) ≡ length h = omega arith in
    let last : get_or h (length h - 1) 0 ≡ get_or (c ∷ h) (length h) 0 = ap (λ (i : ℕ). get_or (c ∷ h) i 0) at in
    rw (less, take_all (length h) h (omega arith), lt-ltb 0 (length h) (omega arith), and-true (eqb c (code "&")), held-by-last h (omega arith), last)

-- `&#x` or `&#X`, as a list with its letter.
hex_intro : (s : List ℕ) → is_hex_intro s ≡ true → (letter : ℕ) × (is_x letter ≡ true) × (s ≡ code "&" ∷ code "#" ∷ letter ∷ [])
hex_intro s e = ⊎_elim (λ f. (code "x", refl, same_equal s _ f)) (λ f. (code "X", refl, same_equal s _ f)) (or_true _ _ e)

-- A state whose store is what it says is within the limits.
fits_by : (k : State) (q : ℕ) (s : List ℕ) → holds builtin k s ≡ true → Fits (st_by k q s)
unfolding holds st_by Fits
fits_by kind.Data q s e = tt
fits_by kind.AfterCr q s e = tt
fits_by kind.Begin q s e = tt
fits_by kind.Octothorpe q s e = tt
fits_by kind.HexBegin q s e = let w = hex_intro s e in ap (λ (l : List ℕ). is_x (get_or l 2 0)) w.2 ∙ w.1
fits_by (kind.Numeric base value) q s e = (
  ⊎_elim
      (λ f. let w = choice.and_true (eqb base 10) (same s (code "&" ∷ code "#" ∷ [])) f in
      inl (eqb-true base 10 w.0, same_equal s (code "&" ∷ code "#" ∷ []) w.1))
      (λ f. let w = choice.and_true (eqb base 16) (is_hex_intro s) f in inr (eqb-true base 16 w.0, hex_intro s w.1))
      (or_true (eqb base 10 && same s (code "&" ∷ code "#" ∷ [])) (eqb base 16 && is_hex_intro s) e),
  omega arith,
)
fits_by kind.Named q [] e = no_way (sym e)
fits_by kind.Named q (c ∷ s) e =
    let w = choice.and_true (eqb c (code "&") && ltb 0 (length s)) (held_name builtin s) e in
    (w.1, ltb-true 0 (length s) (choice.and_true (eqb c (code "&")) (ltb 0 (length s)) w.0).1)
fits_by kind.BogusName q s e = tt
fits_by kind.Closed q s e = no_way (sym e)

-- The state of a held record whose store is what its state says is within the limits.
pub open_fits : (h : Held) → holds builtin h.state (take h.count h.store) ≡ true → Fits (st_of h)
open_fits h e = fits_by h.state h.place (take h.count h.store) e

-- A store that is what the state says is the state's own.
pub store-back : (k : State) (q : ℕ) (s : List ℕ) → holds builtin k s ≡ true → store_of (st_by k q s) ≡ s
unfolding holds st_by store_of
store-back kind.Data q s e = sym (length_none s e)
store-back kind.AfterCr q s e = sym (length_none s e)
store-back kind.Begin q s e = sym (same_equal s _ e)
store-back kind.Octothorpe q s e = sym (same_equal s _ e)
store-back kind.HexBegin q s e = let w = hex_intro s e in rw w.2
store-back (kind.Numeric base value) q s e = refl
store-back kind.Named q [] e = no_way (sym e)
store-back kind.Named q (c ∷ s) e =
    let w = choice.and_true (eqb c (code "&") && ltb 0 (length s)) (held_name builtin s) e in
    ap (λ (b : ℕ). b ∷ s) (sym (eqb-true c (code "&") (choice.and_true (eqb c (code "&")) (ltb 0 (length s)) w.0).0))
store-back kind.BogusName q s e = sym (length_none s e)
store-back kind.Closed q s e = no_way (sym e)

-- A number that is within the limits stays.
stopped-same : (value : ℕ) → value ≤ 0x110000 → min value 0x110000 ≡ value
stopped-same value h = omega arith

-- A state within the limits stands for itself with its case, its place and its store.
by-back : (st : St) → Fits st → st_by (kind_of st) (mark_of st) (store_of st) ≡ st
unfolding st_by kind_of mark_of store_of Fits
by-back Data f = refl
by-back AfterCr f = refl
by-back (Begin q) f = refl
by-back (Octothorpe q) f = refl
by-back (HexBegin q letter) f = refl
by-back (Numeric q intro base value) f = ap (Numeric q intro base) (stopped-same value f.1)
by-back (Named q held) f = refl
by-back (BogusName q) f = refl

-- A state within the limits is that of its held record.
pub held_back : (st : St) → Fits st → st_of (held_of st) ≡ st
unfolding held_of
held_back st f = ap (st_by (kind_of st) (mark_of st)) (take-append_seam (store_of st) _) ∙ by-back st f

-- Its held record is within the limits.
pub fit_of : (st : St) → Fits st → Fit (held_of st)
fit_of st f = record { whole = ap held_of (sym (held_back st f)); fits = subst Fits (sym (held_back st f)) f }

-- What is held of a name has at most 31 bytes.
pub held-short : (h : List ℕ) → held_name builtin h ≡ true → length h ≤ 31
held-short h e = omega (arith, begins-short h (choice.and_true (begins builtin h) (not (closed_name builtin h)) e).0)

-- Document 01: the store never needs more than 32 bytes.
pub fits_count : (st : St) → Fits st → length (store_of st) ≤ 32
unfolding store_of Fits
fits_count Data f = omega arith
fits_count AfterCr f = omega arith
fits_count (Begin q) f = omega arith
fits_count (Octothorpe q) f = omega arith
fits_count (HexBegin q letter) f = omega arith
fits_count (Numeric q intro base value) f = ⊎_elim (λ w. omega (arith, ap length w.1)) (λ w. omega (arith, ap length w.1.2)) f.0
fits_count (Named q held) f = omega (arith, held-short held f.0)
fits_count (BogusName q) f = omega arith

-- `&#x` or `&#X` by its letter.
intro_hex : (letter : ℕ) → is_x letter ≡ true → is_hex_intro (code "&" ∷ code "#" ∷ letter ∷ []) ≡ true
unfolding stands
intro_hex letter e = rw (and-true (eqb letter (code "x")), and-true (eqb letter (code "X"))) e

-- The store of a state within the limits is what the state says.
fits-holds : (st : St) → Fits st → holds builtin (kind_of st) (store_of st) ≡ true
unfolding holds kind_of store_of stands Fits
fits-holds Data f = refl
fits-holds AfterCr f = refl
fits-holds (Begin q) f = refl
fits-holds (Octothorpe q) f = refl
fits-holds (HexBegin q letter) f = intro_hex letter f
fits-holds (Numeric q intro base value) f = ⊎_elim (λ w. rw (w.0, w.1)) (λ w. rw (w.0, w.1.2) (intro_hex w.1.0 w.1.1)) f.0
fits-holds (Named q held) f = rw (lt-ltb 0 (length held) f.1) f.0
fits-holds (BogusName q) f = refl

-- Two tests that hold hold at once.
both : {t u : Bool} → t ≡ true → u ≡ true → t && u ≡ true
both e f = rw e f

-- The record of a state within the limits is open again.
pub open_again : (context : Context) (at : At) → Fits at.st → length at.part ≤ 3 → is_part (read_char at.part) ≡ true → at.taken ≤ 16777216
    → mark_of at.st ≤ at.taken → length (store_of at.st) + length at.part ≤ at.taken → is_open builtin (record_of context at) ≡ true
unfolding is_open record_of held_of
open_again context at f few part long mark held =
    both (both (both (both (both (both (le-leb _ 32 (fits_count at.st f)) (le-leb _ 3 few)) (le-leb _ 16777216 long))
    (rw (take-append_seam (store_of at.st)) (fits-holds at.st f))) (rw (take-append_seam at.part) part)) (le-leb _ _ mark))
    (le-leb _ _ held)

-- The record of a place in a stream, within the limits, says that place.
pub at_back : (context : Context) (at : At) → Fits at.st → at_of (record_of context at) ≡ at
unfolding record_of
at_back context at f =
    λ i. record { st = held_back at.st f i; part = take-append_seam at.part (replicate (3 - length at.part) 0) i; taken = at.taken }
