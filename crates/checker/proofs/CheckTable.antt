-- The table of answers of the check, by the definitions: when each is given, and what the result then is.
use Rattle.std.specs.Prelude.{if◌then◌else◌}
use Prim.Native.Nat.{ℕ, ◌%◌, ◌≤◌, ◌<◌}
use mathlib.Core.Path.{◌≡◌, refl, sym, ◌∙◌, ap}
use mathlib.Core.List.{List, [], ◌∷◌}
use mathlib.Core.Bool.{true, false, not, ◌||◌}
use mathlib.Core.Logic.{◌⊎◌, inl, inr, ⊎_elim}
use native.Mathlib.Omega.{arith}
use lib.Dec.{eqb}
use lib.ListN.{length}
use Rattle.lists.specs.Bytes.{words}
use Rattle.lists.proofs.Choice.{same?, below?}
use Rattle.lists.proofs.Tables.{◌when◌with◌, Table}
use Rattle.lists.proofs.TableLaws.{◌and◌, none, table_by}
use Rattle.lists.proofs.Ways.{Way, plain, in_bytes, said}
use Rattle.standard.specs.declared.Context.{Context}
use Rattle.standard.specs.Answers.{done, ill_formed, nul, too_long, context_end, not_whole}
use Rattle.standard.specs.NameList.{builtin}
use Rattle.standard.specs.Reading.{stop_of, covered, readable}
use Rattle.standard.proofs.Stops.{stops_with}
use Rattle.checker.specs.declared.checking.Checked.{Checked}
use Rattle.checker.specs.Transcript.{right, verdict, verdict_on, checked, checked_of, checked_bytes}
use Rattle.checker.proofs.CheckLaws.{check_order, bytes_order}
use Rattle.checker.proofs.RightRows.{InGroups}

-- The whole answer, however rows and errors are lent.
abbrev checked_as : Way → Context → (source rows text errors : List ℕ) → Checked
checked_as plain = checked_of builtin
checked_as in_bytes = checked_bytes builtin

-- What the check gives, however rows and errors are lent.
pub record ChecksAs (way : Way) (context : Context) (source rows text errors : List ℕ) (c : Checked) : Type 0 where
  pub is : c ≡ checked_as way context source rows text errors

-- Both are so, or they are not.
both? : {A B : Type 0} → A ⊎ (A → ⊥) → B ⊎ (B → ⊥) → (A × B) ⊎ (A × B → ⊥)
both? (inl a) (inl b) = inl (a, b)
both? (inl a) (inr f) = inr (λ w. f w.1)
both? (inr f) b = inr (λ w. f w.0)

module _ (context : Context) (source rows text errors : List ℕ) where
  -- The order of the answers, however rows and errors are lent: the source is too long, rows and errors are not both whole, and the rest.
  record Order (way : Way) : Type 0 where
    long : 65536 < length source → checked too_long (verdict right 0) 0 ≡ checked_as way context source rows text errors
    odd : length source ≤ 65536 → (InGroups way 3 rows × InGroups way 2 errors → ⊥)
        → checked not_whole (verdict right 0) 0 ≡ checked_as way context source rows text errors
    whole : length source ≤ 65536 → InGroups way 3 rows × InGroups way 2 errors → let stop = stop_of context source in
        (if not (readable context source) then checked stop.answer (verdict right 0) stop.place
        else checked done (verdict_on builtin context (covered context source) (said way rows) text (said way errors)) 0)
        ≡ checked_as way context source rows text errors

  order : (way : Way) → Order way
  order plain = let o = check_order context source rows text errors in record {
    long = o.long;
    odd = λ s h. o.odd s (λ w. h ((omega arith, w.0), (omega arith, w.1)));
    whole = λ s w. o.whole s w.0.1 w.1.1;
  }
  order in_bytes =
      let o = bytes_order context source rows text errors in
      let p = check_order context source (words rows) text (words errors) in
      record {
        long = o.long;
        odd = λ s h. ⊎_elim (λ f. p.odd s (λ w. h ((f.0, w.0), (f.1, w.1))) ∙ o.whole s f.0 f.1) (o.odd s)
            (both? (same? (length rows % 4) 0) (same? (length errors % 4) 0));
        whole = λ s w. p.whole s w.0.1 w.1.1 ∙ o.whole s w.0.0 w.1.0;
      }

module _ {way : Way} {context : Context} {source rows text errors : List ℕ} {c : Checked} (so : ChecksAs way context source rows text errors c) where
  -- The source is not too long, and rows and errors are whole: the source is read.
  abbrev Looked : Type 0
  Looked = (length source ≤ 65536) × (InGroups way 3 rows × InGroups way 2 errors)

  -- A result by its definition.
  gives : {r : Checked} → r ≡ checked_as way context source rows text errors → (c.answer ≡ r.answer) × (c ≡ r)
  gives e = (ap (λ (x : Checked). x.answer) (so.is ∙ sym e), so.is ∙ sym e)

  -- 1 and 2.
  stopped : (n : ℕ) → eqb n done || eqb n context_end ≡ false → Looked × ((stop_of context source).answer ≡ n)
      → (c.answer ≡ n) × (c ≡ checked n (verdict right 0) (stop_of context source).place)
  stopped n f w = rw (w.1, f) at (gives ((order context source rows text errors way).whole w.0.0 w.0.1))

  pub check_table : let stop = stop_of context source in
      Table c.answer
      ((too_long when 65536 < length source with c ≡ checked too_long (verdict right 0) 0)
      ∷ (not_whole when (length source ≤ 65536) × (InGroups way 3 rows × InGroups way 2 errors → ⊥) with c ≡ checked not_whole (verdict right 0) 0)
      ∷ (ill_formed when Looked × (stop.answer ≡ ill_formed) with c ≡ checked ill_formed (verdict right 0) stop.place)
      ∷ (nul when Looked × (stop.answer ≡ nul) with c ≡ checked nul (verdict right 0) stop.place)
      ∷ (done when Looked × (readable context source ≡ true)
      with c ≡ checked done (verdict_on builtin context (covered context source) (said way rows) text (said way errors)) 0)
      ∷ [])
  check_table = table_by refl
      ((λ h. gives ((order context source rows text errors way).long h))
      and (λ w. gives ((order context source rows text errors way).odd w.0 w.1))
      and stopped ill_formed refl
      and stopped nul refl
      and (λ w. rw w.1 at (gives ((order context source rows text errors way).whole w.0.0 w.0.1)))
      and none)
      (⊎_elim inl (λ short. ⊎_elim (λ w. inr (inr (⊎_elim (λ e. inr (inr (inl ((short, w), rw e)))) (⊎_elim (λ e. inl ((short, w), e))
      (⊎_elim (λ e. inr (inl ((short, w), e))) (λ e. inr (inr (inl ((short, w), rw e)))))) (stops_with context source))))
      (λ odd. inr (inl (short, odd))) (both? (both? (same? _ _) (same? _ _)) (both? (same? _ _) (same? _ _)))) (below? 65536 (length source)))
