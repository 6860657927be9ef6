-- What is written after the text, by why the source stops.
use native.Mathlib.Omega.{arith}
use lib.ListN.{length, length-take}
use Rattle.standard.specs.Utf8.{bytes}
use Rattle.standard.proofs.Computing.{computing_parts}
use Rattle.reporting.proofs.Sources.{
  called,
  read_end,
  closing_end,
  read_left,
  closing_left,
  refused_room,
  refused_written,
  numbers_there,
  rest_room,
  rest_written,
}
use Rattle.reporting.proofs.write_source.Goals as goal

pub slice_bounds-put_read-end : goal.slice_bounds-put_read-end
slice_bounds-put_read-end c =
    numbers_there (read_end (called c.requires.short c.requires.rooms c.decode_whole-decoded.ensures) c.in-0.is)

pub slice_bounds-put_read-end-in-0 : goal.slice_bounds-put_read-end-in-0
slice_bounds-put_read-end-in-0 c =
    simp length-take
    (omega (arith, numbers_there (read_end (called c.requires.short c.requires.rooms c.decode_whole-decoded.ensures) c.in-0.is)))

pub put_read-requires : goal.put_read-requires
unfolding computing_parts
put_read-requires c =
    let k = called c.requires.short c.requires.rooms c.decode_whole-decoded.ensures in
    rest_room (read_end k c.in-0.is) (bytes "end ") (length c.args.s.now) (closing_end k c.in-0.is)

pub returns-in-0 : goal.returns-in-0
unfolding computing_parts
returns-in-0 c =
    let k = called c.requires.short c.requires.rooms c.decode_whole-decoded.ensures in
    rest_written (read_end k c.in-0.is) (bytes "end ") (length c.args.s.now) (closing_end k c.in-0.is) c.put_read.ensures

pub slice_bounds-put_read-end-in-7 : goal.slice_bounds-put_read-end-in-7
slice_bounds-put_read-end-in-7 c =
    numbers_there (read_left (called c.requires.short c.requires.rooms c.decode_whole-decoded.ensures) c.in-7.is)

pub slice_bounds-put_read-end-in-7-2 : goal.slice_bounds-put_read-end-in-7-2
slice_bounds-put_read-end-in-7-2 c =
    simp length-take
    (omega (arith, numbers_there (read_left (called c.requires.short c.requires.rooms c.decode_whole-decoded.ensures) c.in-7.is)))

pub put_read-requires-in-7 : goal.put_read-requires-in-7
unfolding computing_parts
put_read-requires-in-7 c =
    let k = called c.requires.short c.requires.rooms c.decode_whole-decoded.ensures in
    rest_room (read_left k c.in-7.is) (bytes "left ") _ (closing_left k c.in-7.is)

pub returns-in-7 : goal.returns-in-7
unfolding computing_parts
returns-in-7 c =
    let k = called c.requires.short c.requires.rooms c.decode_whole-decoded.ensures in
    rest_written (read_left k c.in-7.is) (bytes "left ") _ (closing_left k c.in-7.is) c.put_read-in-7.ensures

pub put_refused-requires : goal.put_refused-requires
put_refused-requires c =
    refused_room (called c.requires.short c.requires.rooms c.decode_whole-decoded.ensures) (λ e. omega arith) (λ e. omega arith)

pub returns-in_default : goal.returns-in_default
returns-in_default c =
    let k = called c.requires.short c.requires.rooms c.decode_whole-decoded.ensures in
    refused_written k (λ e. omega arith) (λ e. omega arith) c.put_refused.ensures
