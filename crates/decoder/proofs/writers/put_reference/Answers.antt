use mathlib.Core.Path.{◌≡◌}
use native.Mathlib.Omega.{arith}
use lib.ListN.{length, get_or}
use borrow.Author.Rules.{rules}
use Rattle.lists.proofs.Puts.{put_none, put_join, put_length}
use Rattle.standard.specs.Pieces.{encodes}
use Rattle.standard.proofs.References.{encodes_one, encodes-both}
use Rattle.standard.proofs.RoundTrip.{encode-short}
use Rattle.decoder.proofs.writers.put_reference.Goals as goal

pub returns-then-reference-eq0 : goal.returns-then-reference-eq0
unfolding encodes
returns-then-reference-eq0 c = rw c.if-reference-eq0.true (put_none _ _, omega arith)

pub returns-then-reference-eq1 : goal.returns-then-reference-eq1
returns-then-reference-eq1 c =
    let l = c.args.reference.chars in
    let two : length l ≡ 2 = search rules in
    let p = c.put_char-next.ensures in
    rw (c.if-reference-eq1.true, encodes_one l two) (p, omega (arith, p.next_is, encode-short (get_or l 0 0)))

pub put_char-requires : goal.put_char-requires
put_char-requires c =
    let a = c.args in
    let e = c.put_char-next.ensures in
    omega (arith, e.next_is, put_length e, encode-short (get_or a.reference.chars 0 0))

pub returns : goal.returns
returns c =
    let r = c.args.reference in
    let two : length r.chars ≡ 2 = search rules in
    let p = c.put_char-next.ensures in
    let q = c.put_char.ensures in
    rw (encodes-both r.chars r.num_chars two (omega arith))
    (put_join p q, omega (arith, p.next_is, q.next_is, encode-short (get_or r.chars 0 0), encode-short (get_or r.chars 1 0)))
