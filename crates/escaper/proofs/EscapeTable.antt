-- The table of answers of escaping, by the definitions: when each is given, and what result and room then are.
use Prim.Native.Nat.{ℕ, ◌≤◌, ◌<◌}
use mathlib.Core.Path.{◌≡◌, refl, sym, ◌∙◌, ap}
use mathlib.Core.List.{List, [], ◌∷◌}
use mathlib.Core.Logic.{inl, inr, ⊎_elim}
use native.Mathlib.Omega.{arith}
use lib.ListN.{length}
use lib.Seq.{sets}
use Rattle.lists.proofs.Choice.{below?}
use Rattle.lists.proofs.Every.{All}
use Rattle.lists.proofs.Tables.{◌when◌with◌, Table}
use Rattle.lists.proofs.TableLaws.{◌and◌, none, table_by, holds}
use Rattle.lists.proofs.Ways.{Small}
use Rattle.standard.specs.Answers.{done, ill_formed, too_long, room_asked}
use Rattle.standard.proofs.Stops.{stop-within}
use Rattle.escaper.specs.declared.Mode.{Mode}
use Rattle.escaper.specs.declared.Escaped.{Escaped}
use Rattle.escaper.specs.Escape.{escape, escape_stop, escape_written, escaped, escaped_of, Escapes}
use Rattle.escaper.proofs.Answered.{stops_with, answer_long, answer_fault, answer_room, answer_done}
use Rattle.escaper.proofs.Bound.{escape_six}

module _ {mode : Mode} {input out : List ℕ} {e : Escaped} {out' : List ℕ} (so : Escapes mode input out e out') where
  -- The input is not too long, and is well-formed.
  abbrev WellFormed : Type 0
  WellFormed = (length input ≤ 65536) × ((escape_stop input).answer ≡ done)

  -- A result and what is written, by the definitions.
  says : {r : Escaped} {written : List ℕ} → (r ≡ escaped_of mode input (length out)) × (written ≡ escape_written mode input (length out))
      → (e.answer ≡ r.answer) × ((e ≡ r) × (out' ≡ sets out 0 written))
  says w =
      let is = so.answered ∙ sym w.0 in
      (ap (λ (x : Escaped). x.answer) is, (is, so.texts ∙ ap (sets out 0) (sym w.1)))

  pub escape_table : Table e.answer
      ((too_long when 65536 < length input with (e ≡ escaped too_long 0 0) × (out' ≡ out))
      ∷ (ill_formed when (length input ≤ 65536) × ((escape_stop input).answer ≡ ill_formed)
      with (e ≡ escaped ill_formed 0 (escape_stop input).place) × (out' ≡ out))
      ∷ (room_asked when WellFormed × (length out < length (escape mode input))
      with (e ≡ escaped room_asked (length (escape mode input)) 0) × (out' ≡ out))
      ∷ (done when WellFormed × (length (escape mode input) ≤ length out)
      with (e ≡ escaped done (length (escape mode input)) 0) × (out' ≡ sets out 0 (escape mode input)))
      ∷ [])
  escape_table = table_by refl
      ((λ h. says (answer_long mode input (length out) h))
      and (λ w. says (answer_fault mode input (length out) w.0 w.1))
      and (λ w. says (answer_room mode input (length out) w.0.0 (λ e. omega (arith, e, w.0.1)) w.1))
      and (λ w. says (answer_done mode input (length out) w.0.0 (λ e. omega (arith, e, w.0.1)) w.1))
      and none)
      (⊎_elim inl (λ short. ⊎_elim (λ h. ⊎_elim (λ k. inr (inr (inl ((short, h), k)))) (λ k. inr (inr (inr (inl ((short, h), k)))))
      (below? (length out) (length (escape mode input)))) (λ h. inr (inl (short, h))) (stops_with input)) (below? 65536 (length input)))

  -- The numbers of an answer fit into four bytes each.
  pub escape_small : All Small (e.answer ∷ e.text ∷ 0 ∷ e.place ∷ [])
  escape_small =
      let six = escape_six mode input in
      elim (holds escape_table) [
        | inl w ↦ small w.2.0 (omega arith) (omega arith) (omega arith)
        | inr (inl w) ↦ small w.2.0 (omega arith) (omega arith) (omega (arith, w.1.0, (stop-within (λ c. done) 0 0 input).0))
        | inr (inr (inl w)) ↦ small w.2.0 (omega arith) (omega (arith, w.1.0.0, six)) (omega arith)
        | inr (inr (inr (inl w))) ↦ small w.2.0 (omega arith) (omega (arith, w.1.0.0, six)) (omega arith)
        | inr (inr (inr (inr w))) ↦ elim w [ ]
      ]
    where
      small : {a t p : ℕ} → e ≡ escaped a t p → Small a → Small t → Small p → All Small (e.answer ∷ e.text ∷ 0 ∷ e.place ∷ [])
      small is a t p = rw is (a, (t, (omega arith, (p, tt))))
