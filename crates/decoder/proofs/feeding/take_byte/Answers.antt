use Prim.Native.Nat.{ℕ, ◌+◌}
use mathlib.Core.Path.{sym, ◌∙◌, ap}
use mathlib.Core.List.{List, [], ◌∷◌, ◌++◌}
use native.Mathlib.Omega.{arith}
use lib.ListN.{take, length-take, length-set, length-append}
use Rattle.standard.specs.Utf8.{read_char}
use Rattle.standard.proofs.Utf8.{end-length}
use Rattle.decoder.specs.Stream.{at_by, st_of, record_of, at_of}
use Rattle.decoder.proofs.Releasing.{open_fit, open_part, part_long, own_list, kept_few, byte_char, byte_kept, byte_ill}
use Rattle.decoder.proofs.feeding.take_byte.Goals as goal

pub with_byte-own-requires : goal.with_byte-own-requires
with_byte-own-requires c = omega (arith, part_long c.args.«record» c.requires.0)

pub overflow_add-own : goal.overflow_add-own
overflow_add-own c = omega (arith, part_long c.args.«record» c.requires.0)

pub slice_bounds-own-end : goal.slice_bounds-own-end
slice_bounds-own-end c =
    rw c.with_byte-own.ensures (simp length-set (omega (arith, part_long c.args.«record» c.requires.0)))

pub slice_bounds-read_char-end : goal.slice_bounds-read_char-end
slice_bounds-read_char-end c =
    rw c.with_byte-own.ensures (simp (length-take, length-set) (omega (arith, part_long c.args.«record» c.requires.0)))

pub take_char-requires : goal.take_char-requires
take_char-requires c = c.requires

pub overflow_add-n : goal.overflow_add-n
overflow_add-n c =
    omega (arith, part_long c.args.«record» c.requires.0)

pub keep_byte-requires : goal.keep_byte-requires
keep_byte-requires c =
    let r = c.args.«record» in
    let own = ap (take (r.part_count + 1)) c.with_byte-own.ensures ∙ own_list r c.requires.0 (open_part r c.requires.0) c.args.b in
    let read = ap read_char (sym own) ∙ sym c.read_char.ensures in
    let few = kept_few r c.requires.0 c.args.b (read ∙ c.in-Incomplete.is) in
    (few, rw c.with_byte-own.ensures (simp length-set (omega (arith, few))), c.requires.1, (open_fit r c.requires.0).whole)

pub returns-in-Char : goal.returns-in-Char
returns-in-Char c =
    let r = c.args.«record» in
    let own = ap (take (r.part_count + 1)) c.with_byte-own.ensures ∙ own_list r c.requires.0 (open_part r c.requires.0) c.args.b in
    let read = ap read_char (sym own) ∙ sym c.read_char.ensures in
    let t = c.take_char.ensures in
    let v = c.in-Char.is in
    (byte_char r c.requires.0 c.args.b (read ∙ v) t.0, t.1)

pub returns-in-Incomplete : goal.returns-in-Incomplete
returns-in-Incomplete c =
    let r = c.args.«record» in
    let own = ap (take (r.part_count + 1)) c.with_byte-own.ensures ∙ own_list r c.requires.0 (open_part r c.requires.0) c.args.b in
    let read = ap read_char (sym own) ∙ sym c.read_char.ensures in (
      byte_kept r c.requires.0 c.args.b (read ∙ c.in-Incomplete.is)
          (c.keep_byte.ensures ∙ ap (λ (l : List ℕ). record_of r.context (at_by (st_of r.held) l (r.taken + 1))) own),
      (omega arith, omega arith),
    )

pub returns-in-Illformed : goal.returns-in-Illformed
returns-in-Illformed c =
    let r = c.args.«record» in
    let own = ap (take (r.part_count + 1)) c.with_byte-own.ensures ∙ own_list r c.requires.0 (open_part r c.requires.0) c.args.b in
    let read = ap read_char (sym own) ∙ sym c.read_char.ensures in
    (byte_ill r c.requires.0 c.args.b (read ∙ c.in-Illformed.is), (omega arith, omega arith))

pub returns-in-End : goal.returns-in-End
returns-in-End c =
    let r = c.args.«record» in
    let own = ap (take (r.part_count + 1)) c.with_byte-own.ensures ∙ own_list r c.requires.0 (open_part r c.requires.0) c.args.b in
    let read = ap read_char (sym own) ∙ sym c.read_char.ensures in
    let all = (at_of r).part ++ c.args.b ∷ [] in
    absurd (omega (arith, end-length all (read ∙ c.in-End.is), length-append (at_of r).part (c.args.b ∷ [])))
