-- What a search reads tests of numbers by: a test's value from the fact, and a smaller bound for a larger one.
use Prim.Native.Nat.{zero-le}
use native.Mathlib.Nat.{lt_of_lt_of_le}
use lib.Dec.{lit≤}
use borrow.Author.Tests.{lt-ltb, le-ltb, le-leb, lt-leb, eq-eqb, ne_eqb}

pub ruleset tests = (tt, lit≤, zero-le, lt_of_lt_of_le, lt-ltb, le-ltb, le-leb, lt-leb, eq-eqb, ne_eqb)
