-- The walk through a well-formed input: from `at` to `next` some text is written, by a run of quiet bytes or by what one other byte begins.
use Rattle.std.specs.Prelude.{if◌then◌else◌}
use Prim.Native.Nat.{ℕ, zero, suc, ◌+◌, ◌-◌, ◌≤◌, ◌<◌}
use mathlib.Core.Path.{◌≡◌, refl, sym, ◌∙◌, ap, ap₂}
use mathlib.Core.List.{List, [], ◌∷◌, ◌++◌, append_assoc}
use mathlib.Core.Bool.{Bool, true, false}
use native.Mathlib.Omega.{arith}
use lib.Dec.{eqb}
use lib.ListN.{length, get_or, take, drop, length-drop}
use lib.Seq.{take-nil, drop-drop, get_or-drop}
use Rattle.lists.specs.Notation.{front, every}
use Rattle.lists.proofs.Choice.{if_both, and_true}
use Rattle.lists.proofs.Fronts.{front-is-take, front_length}
use Rattle.standard.specs.declared.characters.CharRead.{CharRead}
use Rattle.standard.specs.declared.characters.CharRead.TheVariants.{Char, Incomplete, Illformed, End}
use Rattle.standard.specs.Utf8.{read_char}
use Rattle.standard.specs.Answers.{done}
use Rattle.standard.specs.Reading.{answer_to, size_of, Stop, stops, stop_from}
use Rattle.standard.proofs.Utf8.{read_length, end-length, is-char}
use Rattle.standard.proofs.Skips.{drop_pred, skip_drops}
use Rattle.standard.proofs.Stops.{stop_unfold}
use Rattle.escaper.specs.declared.Mode.{Mode}
use Rattle.escaper.specs.Escape.{written_for, escape_from, escape}
use Rattle.escaper.specs.declared.specials.Special.{Special}
use Rattle.runs.specs.Kinds.{quiet}
use Rattle.escaper.specs.Walk.{quote_of, special_of, source_length, text_of, Sound, Moves}
use Rattle.escaper.proofs.Begins.{special_begins}
use Rattle.escaper.proofs.Quiet.{quiet-character}

-- Bytes whose next character begins after skip of them, with place bytes before them, are well-formed.
abbrev WellFormed : (skip place : ℕ) → List ℕ → Type 0
WellFormed skip place s = (stop_from (λ c. done) skip place s).answer ≡ done

-- Well-formed bytes begin with a character, and what is left of them after its first byte is well-formed.
well_formed_character : (place b : ℕ) (s : List ℕ) → WellFormed 0 place (b ∷ s)
    → (c : ℕ) × (n : ℕ) × (read_char (b ∷ s) ≡ Char c n) × WellFormed (n - 1) (suc place) s
unfolding stop_from
well_formed_character place b s = go (read_char (b ∷ s)) refl
  where
    go : (r : CharRead) → read_char (b ∷ s) ≡ r
        → (if eqb (answer_to (λ c. done) r) done then stop_from (λ c. done) (size_of r - 1) (suc place) s
        else stops (answer_to (λ c. done) r) place).answer ≡ done
        → (c : ℕ) × (n : ℕ) × (read_char (b ∷ s) ≡ Char c n) × WellFormed (n - 1) (suc place) s
    go (Char c n) e h = (c, n, e, h)
    go (Incomplete n) e h = absurd (omega arith)
    go (Illformed n) e h = absurd (omega arith)
    go End e h = absurd (omega (arith, end-length (b ∷ s) e))

-- The bytes u at the front, with the k bytes that are left of a character, are written as they stand, and what is left is well-formed.
abbrev Run : Mode → (k place : ℕ) (s u : List ℕ) → Type 0
Run mode k place s u =
    (take k s ++ escape_from mode k s ≡ u ++ escape mode (drop (length u) s)) × WellFormed 0 (place + length u) (drop (length u) s)

-- The same with one byte more at the front.
one_more : (mode : Mode) (k place b : ℕ) (s u : List ℕ) → Run mode k (suc place) s u
    → (b ∷ take k s ++ escape_from mode k s ≡ b ∷ u ++ escape mode (drop (length u) s)) × WellFormed 0 (place + suc (length u)) (drop (length u) s)
one_more mode k place b s u r =
    let e : place + suc (length u) ≡ suc place + length u = omega arith in (ap (◌∷◌ b) r.0, rw e r.1)

-- A run of quiet bytes is written as it stands, and what is left is well-formed.
run-from : (mode : Mode) (k place : ℕ) (s : List ℕ) → every (quiet (quote_of mode)) (take k s) ≡ true → WellFormed k place s
    → Run mode k place s (front (quiet (quote_of mode)) s)
unfolding front escape_from stop_from
run-from mode k place [] q w = (rw (take-nil {A = ℕ} k), refl)
run-from mode (suc k) place (b ∷ s) q w =
    let t = and_true (quiet (quote_of mode) b) (every (quiet (quote_of mode)) (take k s)) q in
    rw t.0 (one_more mode k place b s (front (quiet (quote_of mode)) s) (run-from mode k (suc place) s t.1 w))
run-from mode zero place (b ∷ s) q w =
    if_both (Run mode zero place (b ∷ s)) (quiet (quote_of mode) b) _ _
    (λ t.
    let k = well_formed_character place b s w in
    let v = quiet-character mode b s k.0 k.1 k.2 t in
    let r = one_more mode (k.1 - 1) place b s (front (quiet (quote_of mode)) s) (run-from mode (k.1 - 1) (suc place) s v.0 k.3) in
    (rw (k.2, v.1) r.0, r.1))
    (λ f. let e : place + 0 ≡ place = omega arith in (refl, rw e w))

-- The result after k bytes is that of the rest.
escape_skip : (mode : Mode) (k : ℕ) (s : List ℕ) → escape_from mode k s ≡ escape mode (drop k s)
unfolding escape_from
escape_skip mode = skip_drops (escape_from mode) (λ k. refl) (λ k b s. refl)

-- The result begins with what is written for the first character.
escape_unfold : (mode : Mode) (s : List ℕ) (c n : ℕ) → read_char s ≡ Char c n
    → escape mode s ≡ written_for mode c (take n s) ++ escape mode (drop n s)
unfolding escape_from read_char
escape_unfold mode [] c n e = absurd (is-char e)
escape_unfold mode (b ∷ s) c n e =
    let some = (read_length (b ∷ s) c n e).0 in
    rw e (ap (◌++◌ (written_for mode c (take n (b ∷ s)))) (escape_skip mode (n - 1) s ∙ ap (escape mode) (drop_pred n b s some)))

-- After the longest front whose every element passes stands none, or one that fails.
front_ends : (p : ℕ → Bool) (s : List ℕ) → length (front p s) < length s → p (get_or s (length (front p s)) 0) ≡ false
unfolding front
front_ends p [] = λ h. absurd (omega arith)
front_ends p (c ∷ s) =
    if_both (λ (u : List ℕ). length u < suc (length s) → p (get_or (c ∷ s) (length u) 0) ≡ false) (p c) _ _
    (λ t h. front_ends p s (omega arith)) (λ f h. f)

-- The byte at `at`, if there is one, is not quiet.
abbrev pub Loud : Mode → List ℕ → ℕ → Type 0
Loud mode s at = at < length s → quiet (quote_of mode) (get_or s at 0) ≡ false

-- A run of quiet bytes is written as it stands, and it ends before a byte that is not quiet or at the end.
run-moves : (mode : Mode) (s : List ℕ) (at next : ℕ) → Sound s at → next ≡ at + length (front (quiet (quote_of mode)) (drop at s))
    → Moves mode s at (take (next - at) (drop at s)) next × Loud mode s next
run-moves mode s at next h e =
    let u : List ℕ = front (quiet (quote_of mode)) (drop at s) in
    let r = run-from mode 0 at (drop at s) refl h.well_formed in
    let size : length u ≡ next - at = omega arith in
    let t : u ≡ take (next - at) (drop at s) = rw size at (front-is-take (quiet (quote_of mode)) (drop at s)) in
    let d : drop (length u) (drop at s) ≡ drop next s = drop-drop (length u) at s ∙ ap (λ (n : ℕ). drop n s) (sym e) in
    let l : next ≤ length s = omega (arith, front_length (quiet (quote_of mode)) (drop at s), length-drop at s) in (
      record { sound = record { there = l; well_formed = rw (d, sym e) at r.1 }; written = r.0 ∙ ap₂ (λ (v w : List ℕ). v ++ escape mode w) t d },
      λ there. rw (get_or-drop at s (length u) 0, sym e) at (front_ends (quiet (quote_of mode)) (drop at s) (simp length-drop (omega arith))),
    )

-- Well-formed bytes begin with a character.
sound-character : (place : ℕ) (s : List ℕ) → 0 < length s → WellFormed 0 place s → (c : ℕ) × (n : ℕ) × (read_char s ≡ Char c n)
sound-character place [] h w = absurd (omega arith)
sound-character place (b ∷ s) h w = let k = well_formed_character place b s w in (k.0, k.1, k.2)

-- A character is passed, and it is there.
stop-character : (s : List ℕ) (at c n : ℕ) → at < length s → read_char (drop at s) ≡ Char c n
    → (stop_from (λ c. done) 0 at (drop at s) ≡ stop_from (λ c. done) 0 (at + n) (drop (at + n) s)) × (1 ≤ n) × (at + n ≤ length s)
stop-character s at c n h e =
    let w = read_length (drop at s) c n e in
    let l = length-drop at s in (
      stop_unfold (λ c. done) at (drop at s) (omega arith) ∙ rw e (ap (stop_from (λ c. done) 0 (at + n)) (drop-drop n at s)),
      omega arith,
      omega arith,
    )

-- What a byte that is not quiet begins is written as it says.
special_moves : (mode : Mode) (s : List ℕ) (at next : ℕ) (x : Special) → Sound s at → at < length s → Loud mode s at
    → x ≡ special_of (get_or s at 0) (get_or s (at + 1) 0) → next ≡ at + source_length x
    → Moves mode s at (text_of x (take (next - at) (drop at s))) next × (at < next)
special_moves mode s at next x h there loud e n =
    let k = sound-character at (drop at s) (simp length-drop (omega arith)) h.well_formed in
    let m = stop-character s at k.0 k.1 there k.2 in
    let first : get_or (drop at s) 0 0 ≡ get_or s at 0 = get_or-drop at s 0 0 ∙ ap (λ (i : ℕ). get_or s i 0)
    (let z : at + 0 ≡ at = omega arith in z) in
    let g = rw (first, get_or-drop at s 1 0, sym e) at (special_begins mode (drop at s) k.0 k.1 k.2 (rw first (loud there))) in
    let size : k.1 ≡ next - at = omega arith in
    let i : at + k.1 ≡ next = omega arith in (
      record {
        sound = record { there = omega arith; well_formed = rw i at (sym (ap (λ (r : Stop). r.answer) m.0) ∙ h.well_formed) };
        written = escape_unfold mode (drop at s) k.0 k.1 k.2 ∙ rw (g.1, drop-drop k.1 at s, i, size) refl;
      },
      omega arith,
    )

-- The walk's next run, as the code finds it: its bytes are written as they stand, and it ends before a byte that is not quiet or at the end.
pub run_passed : {mode : Mode} {s : List ℕ} {at quote end : ℕ} → Sound s at → quote ≡ quote_of mode
    → end ≡ at + length (front (quiet quote) (drop at s)) → Moves mode s at (take (end - at) (drop at s)) end × Loud mode s end
run_passed {mode} {s} {at} {quote} {end} h q e = run-moves mode s at end h (rw q at e)

-- And what the byte at its end begins, as the code finds it.
pub special_passed : {mode : Mode} {s u : List ℕ} {at end size : ℕ} {x : Special} → Moves mode s at u end × Loud mode s end → end < length s
    → x ≡ special_of (get_or s end 0) (get_or s (end + 1) 0) → size ≡ source_length x
    → Moves mode s end (text_of x (take (end + size - end) (drop end s))) (end + size) × (end < end + size)
special_passed {mode} {s} {end = end} {size} {x} run there is n =
    special_moves mode s end (end + size) x run.0.sound there run.1 is (rw n refl)

-- One move after another.
pub moves_join : {mode : Mode} {s u v : List ℕ} {at mid next : ℕ} → Moves mode s at u mid → Moves mode s mid v next → Moves mode s at (u ++ v) next
moves_join {u = u} {v} a b = record { sound = b.sound; written = a.written ∙ rw b.written (sym (append_assoc u v _)) }
