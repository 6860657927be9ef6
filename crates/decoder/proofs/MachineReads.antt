-- The machine over a covered source reads what the standard's definition reads.
use Rattle.std.specs.Prelude.{if◌then◌else◌}
use Prim.Native.Nat.{ℕ, zero, suc, ◌+◌, ◌-◌, ◌<◌}
use Prim.Native.Char.{code}
use mathlib.Core.Path.{◌≡◌, refl, sym, ◌∙◌, ap, ap₂, subst}
use mathlib.Core.List.{List, [], ◌∷◌, ◌++◌, append-nil}
use mathlib.Core.Bool.{Bool, true, false}
use native.Mathlib.Omega.{arith}
use lib.Dec.{eqb}
use lib.ListN.{length, take, drop}
use borrow.Author.Tests.{eqb-true}
use Rattle.standard.specs.declared.Context.{Context}
use Rattle.standard.specs.declared.characters.CharRead.{CharRead}
use Rattle.standard.specs.declared.characters.CharRead.TheVariants.{Char, Incomplete, Illformed, End}
use Rattle.standard.specs.declared.names.Found.{Found}
use Rattle.standard.specs.Answers.{done}
use Rattle.standard.specs.Utf8.{read_char}
use Rattle.standard.specs.Names.{Name, longest}
use Rattle.standard.specs.Reading.{answer_to, size_of, stops, stop_from, Reading, ◌⊕◌, decode}
use Rattle.standard.proofs.Narrow.{longest-fits}
use Rattle.standard.proofs.Joining.{⊕-none}
use Rattle.standard.proofs.Skips.{drop_pred}
use Rattle.standard.proofs.Utf8.{read_length, end-length}
use Rattle.decoder.specs.Machine.{
  St,
  Data,
  AfterCr,
  Begin,
  Octothorpe,
  HexBegin,
  Numeric,
  Named,
  BogusName,
  text_only,
  no_digits,
  finish_numeric,
  finish_named,
  finish,
  Step,
  step,
}
use Rattle.decoder.proofs.Running.{step_read, run_from, run}
use Rattle.decoder.proofs.Looks.{looks, reference-plain, x_plain}
use Rattle.decoder.proofs.Tidy.{Tidy, Alphanumerics, next-held}
use Rattle.decoder.proofs.Unfolding.{read_from, read_nothing}
use Rattle.decoder.proofs.Means.{Valid, plain-held, no_hash, Mean, cr_mean}
use Rattle.decoder.proofs.Holding.{number_end, bogus_end, no_digits_read, decimal_none, hexadecimal_none, ampersand_read, none_read, found_read}
use Rattle.decoder.proofs.Simulates.{step_ok}

-- Every character of a source is whole and well-formed.
abbrev pub WellFormed : List ℕ → Type 0
WellFormed s = (stop_from (λ c. done) 0 0 s).answer ≡ done

module _ (names : List Name) (context : Context) (tidy : Tidy names) where
  -- What is read of a source from a place on.
  abbrev whole : ℕ → List ℕ → Reading
  whole = read_from names context

  -- What is read before the end is all.
  ends : (o : Reading) (p : ℕ) → o ⊕ whole p [] ≡ o
  ends o p = ap (λ (r : Reading). o ⊕ r) (read_nothing names context p) ∙ ⊕-none o

  -- What is held of a name is read at the end.
  end_named_lem : (q : ℕ) (h : List ℕ) → Alphanumerics h → 0 < length h → whole q (code "&" ∷ h ++ []) ≡ finish names context (Named q h)
  unfolding finish
  end_named_lem q h al some = go (eqb (longest names h).len 0) refl
    where
      found : longest names (h ++ []) ≡ longest names h
      found = ap (longest names) (append-nil h)

      go : (t : Bool) → eqb (longest names h).len 0 ≡ t → whole q (code "&" ∷ h ++ [])
          ≡ (if t then text_only (code "&" ∷ h) else finish_named context q (longest names h) h [])
      go true e =
          none_read names context q h [] al (next-held h [] al some)
          (ap (λ (f : Found). f.len) found ∙ eqb-true (longest names h).len 0 e)
          ∙ ap (λ (r : Reading). text_only (code "&" ∷ h) ⊕ r) (bogus_end names context q (suc (q + length h)) [] refl refl)
          ∙ ends (text_only (code "&" ∷ h)) (suc (q + length h))
      go false e =
          found_read names context q h [] [] (longest names h) (plain-held h al) (no_hash (h ++ []) (next-held h [] al some)) found
          (longest-fits names h).0 refl
          ∙ ends (finish_named context q (longest names h) h []) (suc (q + length h))

  -- At the end what is held is read as the last pieces.
  end_ok : (st : St) (p : ℕ) → Valid p st → Mean names context st p [] ≡ finish names context st
  unfolding Mean Valid finish cr_mean
  end_ok Data p v = read_nothing names context p
  end_ok AfterCr p v = read_nothing names context (p + 0)
  end_ok (Begin q) p v = ampersand_read names context q [] tidy refl refl ∙ ends (text_only (code "&" ∷ [])) (suc q)
  end_ok (Octothorpe q) p v =
      no_digits_read names context q (code "#" ∷ []) [] (reference-plain (code "#") refl, tt) (decimal_none names context [] refl refl)
      ∙ ends (no_digits q (code "&" ∷ code "#" ∷ [])) (suc (q + 1))
  end_ok (HexBegin q letter) p v =
      no_digits_read names context q (code "#" ∷ letter ∷ []) [] (x_plain letter v.1)
      (hexadecimal_none names context letter [] v.1 refl)
      ∙ ends (no_digits q (code "&" ∷ code "#" ∷ letter ∷ [])) (suc (q + 2))
  end_ok (Numeric q intro base value) p v =
      number_end names context q base value p [] refl ∙ ends (finish_numeric q value false) (p + 0)
  end_ok (Named q h) p v = end_named_lem q h v.1 v.2
  end_ok (BogusName q) p v = bogus_end names context q p [] refl refl ∙ read_nothing names context p

  -- From a valid state on the machine gives what the state says of the bytes still to come, after k of them.
  run_means : (st : St) (k p place : ℕ) (s : List ℕ) → (stop_from (λ c. done) k place s).answer ≡ done → Valid (p + k) st
      → run_from names context st k p s ≡ Mean names context st (p + k) (drop k s)
  unfolding run_from stop_from
  run_means st zero p place [] ok v = sym (end_ok st (p + 0) v)
  run_means st (suc k) p place [] ok v = sym (end_ok st (p + suc k) v)
  run_means st (suc k) p place (b ∷ s) ok v =
      let e : suc p + k ≡ p + suc k = omega arith in
      run_means st k (suc p) (suc place) s ok (subst (λ (n : ℕ). Valid n st) (sym e) v)
      ∙ ap (λ (n : ℕ). Mean names context st n (drop k s)) e
  run_means st zero p place (b ∷ s) ok v = go (read_char (b ∷ s)) refl ok (λ st k p place. run_means st k p place s)
    where
      go : (r : CharRead) → read_char (b ∷ s) ≡ r
          → (if eqb (answer_to (λ c. done) r) done then stop_from (λ c. done) (size_of r - 1) (suc place) s
          else stops (answer_to (λ c. done) r) place).answer ≡ done
          → ((st : St) (k p place : ℕ) → (stop_from (λ c. done) k place s).answer ≡ done → Valid (p + k) st
          → run_from names context st k p s ≡ Mean names context st (p + k) (drop k s))
          → (step_read names context st p r (b ∷ s)).gives
          ⊕ run_from names context (step_read names context st p r (b ∷ s)).next (size_of r - 1) (suc p) s
          ≡ Mean names context st (p + 0) (b ∷ s)
      go (Char c n) e ok later =
          let here : p + 0 ≡ p = omega arith in
          let k = step_ok names context st p tidy (subst (λ (m : ℕ). Valid m st) here v) (looks (b ∷ s) c n e) in
          let t : Step = step names context st p c (take n (b ∷ s)) in
          let some = (read_length (b ∷ s) c n e).0 in
          let on : suc p + (n - 1) ≡ p + n = omega arith in
          ap (λ (r : Reading). t.gives ⊕ r)
          (later t.next (n - 1) (suc p) (suc place) ok (subst (λ (m : ℕ). Valid m t.next) (sym on) k.valid)
          ∙ ap₂ (Mean names context t.next) on (drop_pred n b s some))
          ∙ sym k.same ∙ ap (λ (m : ℕ). Mean names context st m (b ∷ s)) (sym here)
      go (Incomplete n) e ok later = absurd (omega (arith, ok))
      go (Illformed n) e ok later = absurd (omega (arith, ok))
      go End e ok later = absurd (omega (arith, end-length (b ∷ s) e))

-- The machine reads what the standard's definition reads.
pub run-is-decode : (names : List Name) (context : Context) (s : List ℕ) → Tidy names → WellFormed s → run names context s ≡ decode names context s
unfolding Mean Valid
run-is-decode names context s tidy ok = run_means names context tidy Data 0 0 0 s ok tt
