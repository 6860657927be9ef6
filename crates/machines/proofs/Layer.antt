-- From characters to bytes: a machine whose turns are proper for characters is one whose turns are proper for bytes.
use Prim.Native.Nat.{ℕ, suc, ◌+◌, ◌≤◌, ◌<◌}
use mathlib.Core.Path.{◌≡◌, refl, sym, ◌∙◌, ap, subst, subst₂}
use mathlib.Core.List.{List, [], ◌∷◌, ◌++◌}
use mathlib.Core.Bool.{true}
use mathlib.Core.Logic.{⊎_elim}
use native.Mathlib.Omega.{arith}
use lib.ListN.{length, take, drop, length-append, take-append-drop}
use lib.Seq.{take-append-le}
use Rattle.lists.proofs.Choice.{no_way, below?}
use Rattle.standard.specs.declared.characters.CharRead.{CharRead}
use Rattle.standard.specs.declared.characters.CharRead.TheVariants.{Char, Incomplete, Illformed, End}
use Rattle.standard.specs.Utf8.{read_char}
use Rattle.standard.proofs.Utf8.{read_end, read-append, read_length, read_take}
use Rattle.machines.specs.Machine.{Turn, stops, takes, Machine}
use Rattle.machines.specs.Stream.{At, place_of, is_part, lift, turn_by, byte}
use Rattle.machines.specs.Laws.{Sizes, Small, Proper, Bytes, Characters, Reaching}

-- The byte that makes a character whole is its last.
pub completes_own : (part : List ℕ) (b c n : ℕ) → is_part (read_char part) ≡ true → read_char (part ++ b ∷ []) ≡ Char c n
    → n ≡ length (part ++ b ∷ [])
completes_own part b c n h e =
    let w = read_length (part ++ b ∷ []) c n e in
    ⊎_elim (λ (k : length part < n). let i = length-append part (b ∷ []) in omega arith) early (below? (length part) n)
  where
    early : n ≤ length part → n ≡ length (part ++ b ∷ [])
    early k =
        let before : read_char (take n part) ≡ Char c n
        = ap read_char (sym (take-append-le n part (b ∷ []) k)) ∙ read_take (part ++ b ∷ []) c n e in
        let all : read_char part ≡ Char c n
        = ap read_char (sym (take-append-drop n part)) ∙ read-append (take n part) (drop n part) (Char c n) before tt in
        no_way (sym h ∙ ap is_part all)

module _ (M : Machine) {Good : M.State → (place taken : ℕ) → Type 0} (sizes : Sizes M) (proper : Characters M Good) where
  -- A turn of the machine after which no character is begun.
  lift_proper : (place taken : ℕ) → place ≡ taken → (turn : Turn M.State M.Out) → Proper M (λ next. Good next place place) turn
      → Proper M (Reaching Good) (lift M taken turn)
  lift_proper place taken same (stops answer p g) k = k
  lift_proper place taken same (takes says g next) k =
      (k.0, k.1, record { good = subst₂ (Good next) (omega (arith, same)) same k.2; begun = ap is_part (read_end [] refl); there = omega arith })

  none_small : Small M M.none
  none_small = (omega (arith, sizes.text_none), omega (arith, sizes.numbers_none))

  pub bytes_proper : Bytes M (Reaching Good)
  unfolding byte
  bytes_proper = record {
    byte_proper = λ at b h. by at b h (read_char (at.part ++ b ∷ [])) refl;
    end_proper = λ at h e.
        let here : place_of at ≡ at.taken = omega (arith, ap length e) in
        lift_proper (place_of at) at.taken here (M.finish at.st)
        (proper.end_proper at.st (place_of at) (subst (Good at.st (place_of at)) (sym here) h.good));
  }
    where
      by : (at : At M.State) (b : ℕ) → Reaching Good at → (r : CharRead) → read_char (at.part ++ b ∷ []) ≡ r
          → Proper M (Reaching Good) (turn_by M at r (at.part ++ b ∷ []))
      by at b h (Char c n) e =
          let own = at.part ++ b ∷ [] in
          let long = length-append at.part (b ∷ []) in
          lift_proper (place_of at + length own) (suc at.taken) (omega (arith, h.there)) (M.reads at.st (place_of at) c own)
          (proper.char_proper at.st (place_of at) at.taken c own h.good (omega (arith, h.there))
          (e ∙ ap (Char c) (completes_own at.part b c n h.begun e)))
      by at b h (Incomplete n) e =
          let long = length-append at.part (b ∷ []) in (
            none_small,
            refl,
            record {
              good =
                  subst (λ (n : ℕ). Good at.st n (suc at.taken)) (omega (arith, h.there)) (proper.one_more at.st (place_of at) at.taken h.good);
              begun = ap is_part e;
              there = omega (arith, h.there);
            },
          )
      by at b h (Illformed n) e = (none_small, refl)
      by at b h End e = (none_small, refl)
