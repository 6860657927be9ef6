-- Tidy names, and their lookup in what is held: it decides once no name goes on, or once a name is closed.
use Rattle.std.specs.Prelude.{if◌then◌else◌}
use Prim.Native.Nat.{ℕ, ◌<◌}
use Prim.Native.Char.{code}
use mathlib.Core.Path.{◌≡◌, refl, sym, ◌∙◌, ap}
use mathlib.Core.List.{List, [], ◌∷◌, ◌++◌, Memᴰ}
use mathlib.Core.Bool.{Bool, true, false, ◌||◌, ◌&&◌}
use native.Mathlib.Omega.{arith}
use lib.Dec.{ltb, eqb}
use lib.ListN.{length}
use borrow.Author.Tests.{eq-eqb, ne_eqb, eqb-true, eqb-false}
use Rattle.lists.specs.Notation.{next_passes}
use Rattle.lists.proofs.Choice.{no_way, and_true}
use Rattle.lists.proofs.Every.{All, every-all, all_member}
use Rattle.standard.specs.declared.names.Found.{Found}
use Rattle.standard.specs.Classes.{alphanumeric}
use Rattle.standard.specs.Names.{Name, stands, no_name, found_as, longer, longest_from, longest, begins}
use Rattle.standard.specs.NameList.{builtin}
use Rattle.standard.proofs.Computing.{computing}
use Rattle.standard.proofs.Longest.{longest-most}
use Rattle.standard.proofs.Narrow.{longest_cases, longest-fits}

-- Letters and digits, and then nothing or one `;`.
unfoldable pub tidy_rest : List ℕ → Bool
tidy_rest [] = true
tidy_rest (c ∷ word) = if alphanumeric c then tidy_rest word else eqb c (code ";") && eqb (length word) 0

-- One or more letters or digits, and then nothing or one `;`.
abbrev pub tidy_word : List ℕ → Bool
tidy_word word = next_passes alphanumeric word && tidy_rest word

-- Every name is tidy.
abbrev pub Tidy : List Name → Type 0
Tidy names = All (λ n. tidy_word n.word ≡ true) names

-- The built-in names are tidy.
pub builtin_tidy : Tidy builtin
unfolding computing tidy_rest
builtin_tidy = every-all (λ n. tidy_word n.word ≡ true) (λ n. tidy_word n.word) (λ n e. e) builtin refl

-- Every byte is a letter or a digit.
abbrev pub Alphanumerics : List ℕ → Type 0
Alphanumerics h = All (λ (c : ℕ). alphanumeric c ≡ true) h

-- What is held begins with a letter or digit.
pub next-held : (h s : List ℕ) → Alphanumerics h → 0 < length h → next_passes alphanumeric (h ++ s) ≡ true
next-held [] s al some = absurd (omega arith)
next-held (c ∷ h) s al some = al.0

-- What passes a test is nothing that fails it.
pub apart : (p : ℕ → Bool) (c k : ℕ) → p c ≡ true → p k ≡ false → eqb c k ≡ false
apart p c k e f = ne_eqb c k (λ same. no_way (sym e ∙ ap p same ∙ f))

-- Equality is symmetric as a test.
eqb_swap : (a b : ℕ) → eqb a b ≡ eqb b a
eqb_swap a b = go (eqb a b) refl
  where
    go : (t : Bool) → eqb a b ≡ t → eqb a b ≡ eqb b a
    go true e = e ∙ sym (eq-eqb b a (sym (eqb-true a b e)))
    go false e = e ∙ sym (ne_eqb b a (λ f. eqb-false a b e (sym f)))

-- A word that does not go on with b stands there where it stands in what is held.
settled_word : (word h : List ℕ) (b : ℕ) (t : List ℕ) → stands (h ++ b ∷ []) word ≡ false → stands word (h ++ b ∷ t) ≡ stands word h
unfolding stands
settled_word [] [] b t e = refl
settled_word [] (x ∷ h) b t e = refl
settled_word (a ∷ word) [] b t e = go (eqb b a) refl e
  where
    go : (u : Bool) → eqb b a ≡ u → u && true ≡ false → eqb a b && stands word t ≡ false
    go true f i = no_way i
    go false f i = rw (eqb_swap a b ∙ f)
settled_word (a ∷ word) (x ∷ h) b t e = go (eqb a x) refl (settled_word word h b t)
  where
    go : (u : Bool) → eqb a x ≡ u → (stands (h ++ b ∷ []) word ≡ false → stands word (h ++ b ∷ t) ≡ stands word h)
        → eqb a x && stands word (h ++ b ∷ t) ≡ eqb a x && stands word h
    go false f later = rw f
    go true f later = rw (f, later (rw (eqb_swap x a, f) at e))

-- A tidy word that begins with letters and digits goes on with a tidy word.
tidy_on : (a : ℕ) (word : List ℕ) → alphanumeric a ≡ true → tidy_rest (a ∷ word) ≡ true → tidy_rest word ≡ true
unfolding tidy_rest
tidy_on a word e t = rw e at t

-- A tidy word that stands where what is held is closed stands in that.
closed-word : (word h t : List ℕ) → tidy_rest word ≡ true → Alphanumerics h
    → stands word ((h ++ code ";" ∷ []) ++ t) ≡ stands word (h ++ code ";" ∷ [])
unfolding stands tidy_rest
closed-word [] h t e al = refl
closed-word (a ∷ []) [] t e al = refl
closed-word (a ∷ x ∷ word) [] t e al = go (eqb a (code ";")) refl
  where
    go : (u : Bool) → eqb a (code ";") ≡ u → eqb a (code ";") && stands (x ∷ word) t ≡ eqb a (code ";") && false
    go false f = rw f
    go true f = absurd (omega (arith, eqb-true (length (x ∷ word)) 0 (rw (eqb-true a (code ";") f) at e)))
closed-word (a ∷ word) (x ∷ h) t e al = go (eqb a x) refl (closed-word word h t)
  where
    go : (u : Bool) → eqb a x ≡ u
        → (tidy_rest word ≡ true → Alphanumerics h → stands word ((h ++ code ";" ∷ []) ++ t) ≡ stands word (h ++ code ";" ∷ []))
        → eqb a x && stands word ((h ++ code ";" ∷ []) ++ t) ≡ eqb a x && stands word (h ++ code ";" ∷ [])
    go false f later = rw f
    go true f later = rw (f, later (tidy_on a word (ap alphanumeric (eqb-true a x f) ∙ al.0) e) al.1)

-- A tidy word that goes on with b after letters and digits has a letter or digit there, or is closed by it.
goes-on-word : (word h : List ℕ) (b : ℕ) (t : List ℕ) → tidy_rest word ≡ true → Alphanumerics h → stands (h ++ b ∷ t) word ≡ true
    → eqb b (code ";") ≡ false → alphanumeric b ≡ true
unfolding stands tidy_rest
goes-on-word [] [] b t e al i q = no_way (sym i)
goes-on-word [] (x ∷ h) b t e al i q = no_way (sym i)
goes-on-word (a ∷ word) [] b t e al i q = go (alphanumeric a) refl (eqb-true b a (and_true (eqb b a) (stands t word) i).0)
  where
    go : (u : Bool) → alphanumeric a ≡ u → b ≡ a → alphanumeric b ≡ true
    go true f same = ap alphanumeric same ∙ f
    go false f same =
        no_way (sym (and_true (eqb a (code ";")) (eqb (length word) 0) (rw f at e)).0 ∙ ap (λ (x : ℕ). eqb x (code ";")) (sym same) ∙ q)
goes-on-word (a ∷ word) (x ∷ h) b t e al i q =
    let w = and_true (eqb x a) (stands (h ++ b ∷ t) word) i in
    goes-on-word word h b t (tidy_on a word (ap alphanumeric (sym (eqb-true x a w.0)) ∙ al.0) e) al.1 w.1 q

-- A tidy word that is closed by `;` after letters and digits is at its end.
closes-word : (word h : List ℕ) → tidy_rest word ≡ true → Alphanumerics h → stands (h ++ code ";" ∷ []) word ≡ true
    → word ≡ h ++ code ";" ∷ []
unfolding stands tidy_rest
closes-word [] [] e al i = no_way (sym i)
closes-word [] (x ∷ h) e al i = no_way (sym i)
closes-word (a ∷ []) [] e al i = ap (λ (x : ℕ). x ∷ []) (sym (eqb-true (code ";") a (and_true (eqb (code ";") a) true i).0))
closes-word (a ∷ x ∷ word) [] e al i =
    let same = eqb-true (code ";") a (and_true (eqb (code ";") a) true i).0 in
    absurd (omega (arith, eqb-true (length (x ∷ word)) 0 (rw (sym same) at e)))
closes-word (a ∷ word) (x ∷ h) e al i =
    let w = and_true (eqb x a) (stands (h ++ code ";" ∷ []) word) i in
    let same = eqb-true x a w.0 in
    λ j. sym same j ∷ closes-word word h (tidy_on a word (ap alphanumeric (sym same) ∙ al.0) e) al.1 w.1 j

-- A word that stands in two lists alike is found in both alike.
longer-same : (found : Found) (n : Name) (s t : List ℕ) → stands n.word s ≡ stands n.word t → longer found n s ≡ longer found n t
unfolding longer
longer-same found n s t e = ap (λ (u : Bool). if ltb found.len (length n.word) && u then found_as n else found) e

-- No name that what is held begins goes on with b: the held decides what is found.
settled_from : (names : List Name) (found : Found) (h : List ℕ) (b : ℕ) (t : List ℕ) → begins names (h ++ b ∷ []) ≡ false
    → longest_from found names (h ++ b ∷ t) ≡ longest_from found names h
unfolding longest_from begins
settled_from [] found h b t e = refl
settled_from (n ∷ names) found h b t e =
    go (stands (h ++ b ∷ []) n.word) refl e (settled_from names (longer found n h) h b t)
  where
    go : (u : Bool) → stands (h ++ b ∷ []) n.word ≡ u → u || begins names (h ++ b ∷ []) ≡ false
        → (begins names (h ++ b ∷ []) ≡ false
        → longest_from (longer found n h) names (h ++ b ∷ t) ≡ longest_from (longer found n h) names h)
        → longest_from (longer found n (h ++ b ∷ t)) names (h ++ b ∷ t) ≡ longest_from (longer found n h) names h
    go true f i later = no_way i
    go false f i later =
        ap (λ (g : Found). longest_from g names (h ++ b ∷ t)) (longer-same found n _ _ (settled_word n.word h b t f)) ∙ later i

-- The same of all names.
pub settled : (names : List Name) (h : List ℕ) (b : ℕ) (t : List ℕ) → begins names (h ++ b ∷ []) ≡ false
    → longest names (h ++ b ∷ t) ≡ longest names h
unfolding longest
settled names = settled_from names no_name

-- What is held and closed can't be outgrown.
closed-from : (names : List Name) (found : Found) (h t : List ℕ) → Tidy names → Alphanumerics h
    → longest_from found names ((h ++ code ";" ∷ []) ++ t) ≡ longest_from found names (h ++ code ";" ∷ [])
unfolding longest_from
closed-from [] found h t tidy al = refl
closed-from (n ∷ names) found h t tidy al =
    ap (λ (g : Found). longest_from g names ((h ++ code ";" ∷ []) ++ t))
    (longer-same found n _ _ (closed-word n.word h t (and_true (next_passes alphanumeric n.word) (tidy_rest n.word) tidy.0).1 al))
    ∙ closed-from names (longer found n (h ++ code ";" ∷ [])) h t tidy.1 al

-- The same of all names.
pub closed-longest : (names : List Name) (h t : List ℕ) → Tidy names → Alphanumerics h
    → longest names ((h ++ code ";" ∷ []) ++ t) ≡ longest names (h ++ code ";" ∷ [])
unfolding longest
closed-longest names = closed-from names no_name

-- What begins some name begins a name of the list.
pub begins-some : (names : List Name) (s : List ℕ) → begins names s ≡ true → (n : Name) × Memᴰ n names × (stands s n.word ≡ true)
unfolding begins
begins-some [] s e = no_way (sym e)
begins-some (n ∷ names) s e = go (stands s n.word) refl e (begins-some names s)
  where
    go : (u : Bool) → stands s n.word ≡ u → u || begins names s ≡ true
        → (begins names s ≡ true → (m : Name) × Memᴰ m names × (stands s m.word ≡ true))
        → (m : Name) × Memᴰ m (n ∷ names) × (stands s m.word ≡ true)
    go true f i later = (n, Memᴰ.head refl, f)
    go false f i later = let w = later i in (w.0, Memᴰ.tail w.1, w.2)

-- Each name of tidy names begins with a letter or digit, and is letters and digits, and then nothing or `;`.
pub tidy_name : (names : List Name) {n : Name} → Tidy names → Memᴰ n names
    → (next_passes alphanumeric n.word ≡ true) × (tidy_rest n.word ≡ true)
tidy_name names {n} tidy i =
    and_true (next_passes alphanumeric n.word) (tidy_rest n.word) (all_member (λ n. tidy_word n.word ≡ true) names tidy i)

-- What begins some name goes on after letters and digits with one more of them, or is closed by `;`.
pub goes_on : (names : List Name) (h : List ℕ) (b : ℕ) (t : List ℕ) → Tidy names → Alphanumerics h → begins names (h ++ b ∷ t) ≡ true
    → eqb b (code ";") ≡ false → alphanumeric b ≡ true
goes_on names h b t tidy al e q =
    let w = begins-some names (h ++ b ∷ t) e in
    goes-on-word w.0.word h b t (tidy_name names tidy w.1).1 al w.2 q

-- What begins some name and is closed is that name.
pub closed-length : (names : List Name) (h : List ℕ) → Tidy names → Alphanumerics h → begins names (h ++ code ";" ∷ []) ≡ true
    → (longest names (h ++ code ";" ∷ [])).len ≡ length (h ++ code ";" ∷ [])
closed-length names h tidy al e =
    let k = h ++ code ";" ∷ [] in
    let w = begins-some names k e in
    let same = closes-word w.0.word h (tidy_name names tidy w.1).1 al w.2 in
    let most = longest-most names k w.0 w.1 (ap (λ (l : List ℕ). stands l k) same ∙ ap (stands k) (sym same) ∙ w.2) in
    omega (arith, ap length same, (longest-fits names k).0)

-- Where a word stands that begins with a letter or digit, one is next.
stands-next : (word s : List ℕ) → next_passes alphanumeric word ≡ true → stands word s ≡ true → next_passes alphanumeric s ≡ true
unfolding stands
stands-next [] s t i = no_way (sym t)
stands-next (a ∷ word) [] t i = no_way (sym i)
stands-next (a ∷ word) (b ∷ s) t i = ap alphanumeric (sym (eqb-true a b (and_true (eqb a b) (stands word s) i).0)) ∙ t

-- Where no letter or digit is next, no name is found.
pub none_found : (names : List Name) (s : List ℕ) → Tidy names → next_passes alphanumeric s ≡ false → (longest names s).len ≡ 0
none_found names s tidy e =
    longest_cases (λ (f : Found). f.len ≡ 0) s names refl
    (λ n i some there. no_way (sym (stands-next n.word s (tidy_name names tidy i).0 there) ∙ e))
