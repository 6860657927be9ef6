-- What stood in the buffer, and then what the read put there, is what both consumed.
use Rattle.std.proofs.Common.{◌≡◌, ℕ, ◌+◌, ◌-◌, ◌≤◌, List, ◌++◌, rules, length, take, drop, sym, ap, ◌∙◌, subst, le_refl, drop_at, length-take-le}
use Rattle.std.proofs.lemmas.Slice.{take-put_mid_below}
use Rattle.std.proofs.KnownBytes.{Consumes-trans}
use Rattle.std.specs.Io.KnownBytes.{Consumes}
use borrow.Rule.Slice.PartMut.{put_mid, post_of}
use lib.Seq.{take-add, take-append-le}
use Rattle.input.proofs.read_full.Goals as goal

-- What is put into a list from a place on comes after what stands before the place.
take-put_mid : (at k n : ℕ) (xs ys : List ℕ) → at ≤ length xs → n ≤ length ys → take at xs ++ take n ys ≡ take (at + n) (put_mid at k xs ys)
take-put_mid at k n xs ys within fits =
    let all = put_mid at k xs ys in
    let before = take-put_mid_below at k xs ys at (le_refl at) within in
    let behind = drop_at (take at xs) (ys ++ post_of at k xs) at (length-take-le at xs within) in
    sym (
    take-add at n all ∙ ap (λ l. l ++ take n (drop at all)) before
    ∙ ap (λ l. take at xs ++ l) (ap (take n) behind ∙ take-append-le n ys (post_of at k xs) fits)
    )

pub loop-count-preserved : goal.loop-count-preserved
loop-count-preserved g c =
    let at = c.loop-count.count in
    let k = length c.loop-count.buffer - at in
    let joined = take-put_mid at k c.in_ok-got.got c.loop-count.buffer c.read.new.buf c.loop-count.invariant.1 (search rules) in
    (search rules, search rules, subst (Consumes _ _) joined (Consumes-trans _ _ _ _ _ c.loop-count.invariant.2 c.in_ok-got.ensures.bytes.0))
