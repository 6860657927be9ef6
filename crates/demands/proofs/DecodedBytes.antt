-- For Exports and ReportNumbers: what `decode_bytes` did, by whether it wrote.
use Prim.Native.Nat.{ℕ, suc, ◌+◌, ◌*◌, ◌/◌, ◌≤◌}
use mathlib.Core.Path.{◌≡◌, refl, ◌∙◌, ap}
use mathlib.Core.List.{List, [], ◌∷◌}
use mathlib.Core.Logic.{◌⊎◌, inl, inr}
use native.Mathlib.Omega.{arith}
use lib.ListN.{length, drop, set}
use lib.Seq.{drop-set-lt, sets}
use Rattle.lists.specs.Bytes.{fours}
use Rattle.lists.proofs.Layings.{laid-fours}
use Rattle.standard.specs.declared.Context.{Context}
use Rattle.standard.specs.Answers.{too_long, room_asked}
use Rattle.standard.specs.Errors.{numbers}
use Rattle.standard.specs.NameList.{builtin}
use Rattle.standard.specs.Reading.{stop_of, covered, Reading, decode}
use Rattle.standard.proofs.Stops.{OneOf, stop-place}
use Rattle.decoder.specs.declared.whole.Decoded.{Decoded}
use Rattle.decoder.specs.Whole.{decoded, DecodesBytes}
use Rattle.demands.proofs.Laws.{rooms_suffice}
use Rattle.demands.proofs.WholeAnswers as whole-answers

-- What is written leaves what stands after it.
keeps-rest : (values room : List ℕ) (at k : ℕ) → at + length values ≤ k → drop k (sets room at values) ≡ drop k room
keeps-rest [] room at k h = refl
keeps-rest (a ∷ values) room at k h =
    keeps-rest values (set room at a) (suc at) k (omega (arith, h)) ∙ drop-set-lt k room at a (omega (arith, h))

module _ (context : Context) (source text errors : List ℕ) (d : Decoded) (text' errors' : List ℕ) where
  -- How many numbers there is room for.
  abbrev room : ℕ
  room = length errors / 4

  abbrev whole : Reading
  whole = decode builtin context (covered context source)

  -- It refused and wrote nothing, or it read the source.
  pub data Did : Type 0 where
    refused : (answer asked place : ℕ) → d ≡ decoded answer asked 0 place → answer ≤ 10 → asked ≤ 65600 → place ≤ 65536 → errors' ≡ errors → Did
    read : (answer place : ℕ) → d ≡ decoded answer (length whole.text) (length whole.errors) place → answer ≤ 10 → place ≤ 65536
        → length source ≤ 65536 → 2 * length source + 8 ≤ room → errors' ≡ sets errors 0 (fours (numbers whole.errors)) → Did

  module _ (w : DecodesBytes context source text errors d text' errors') where
    pub did : Did
    did = by (whole-answers.no_other laid-fours room context source text errors d text' errors' w)
      where
        by : (d.answer ≡ too_long) ⊎ ((d.answer ≡ room_asked) ⊎ OneOf d.answer) → Did
        by (inl e) =
            let l = whole-answers.line_3 laid-fours room context source text errors d text' errors' w in
            let so = l.so (l.only e) in
            refused 3 0 0 so.0 (omega arith) (omega arith) (omega arith) so.2
        by (inr (inl e)) =
            let l = whole-answers.line_9 laid-fours room context source text errors d text' errors' w in
            let so = l.so (l.only e) in
            refused 9 (length source + 64) 0 so.0 (omega arith) (omega (arith, (l.only e).0)) (omega arith) so.2
        by (inr (inr (inl e))) =
            let l = whole-answers.line_0 laid-fours room context source text errors d text' errors' w in
            let so = l.so (l.only e) in
            read 0 0 so.0 (omega arith) (omega arith) (l.only e).0 (l.only e).1.1 so.2
        by (inr (inr (inr (inl e)))) =
            let l = whole-answers.line_1 laid-fours room context source text errors d text' errors' w in
            let so = l.so (l.only e) in
            refused 1 0 (stop_of context source).place so.0 (omega arith) (omega arith)
            (omega (arith, (l.only e).0, stop-place context source)) so.2
        by (inr (inr (inr (inr (inl e))))) =
            let l = whole-answers.line_2 laid-fours room context source text errors d text' errors' w in
            let so = l.so (l.only e) in
            refused 2 0 (stop_of context source).place so.0 (omega arith) (omega arith)
            (omega (arith, (l.only e).0, stop-place context source)) so.2
        by (inr (inr (inr (inr (inr e))))) =
            let l = whole-answers.line_7 laid-fours room context source text errors d text' errors' w in
            let so = l.so (l.only e) in
            read 7 (stop_of context source).place so.0 (omega arith) (omega (arith, (l.only e).0, stop-place context source)) (l.only e).0
            (l.only e).1.1 so.2

    -- Odd last bytes of its error room are left.
    pub odd_kept : drop (4 * room) errors' ≡ drop (4 * room) errors
    odd_kept = by did
      where
        by : Did → drop (4 * room) errors' ≡ drop (4 * room) errors
        by (refused answer asked place is a b c kept) = ap (drop (4 * room)) kept
        by (read answer place is a b short roomy written) =
            let all = numbers whole.errors in
            ap (drop (4 * room)) written
            ∙ keeps-rest (fours all) errors 0 (4 * room) (omega (arith, roomy, (rooms_suffice context source).1, laid-fours.long all))
