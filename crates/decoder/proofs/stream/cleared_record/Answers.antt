use mathlib.Core.Path.{◌≡◌, sym}
use native.Mathlib.Omega.{arith}
use lib.ListN.{length}
use lib.Seq.{length-take-le}
use borrow.Author.Rules.{rules}
use Rattle.decoder.specs.Stream.{record_of}
use Rattle.decoder.proofs.Returns.{opened}
use Rattle.decoder.proofs.stream.cleared_record.Goals as goal

pub canonical-requires : goal.canonical-requires
canonical-requires c =
    let p = opened c.args.«record» c.requires in
    (p.count, p.stored)

pub padded-requires : goal.padded-requires
padded-requires c =
    let p = opened c.args.«record» c.requires in
    let three : length c.args.«record».part ≡ 3 = search rules in
    (omega arith, (p.part, omega (arith, p.part, three)))

pub returns : goal.returns
unfolding record_of
returns c =
    let r = c.args.«record» in
    let p = opened r c.requires in
    let three : length r.part ≡ 3 = search rules in
    λ i. record {
      context = r.context;
      held = c.canonical.ensures i;
      part = c.padded.ensures i;
      part_count = sym (length-take-le r.part_count r.part (omega (arith, p.part, three))) i;
      taken = r.taken;
    }
