use mathlib.Core.Path.{refl}
use native.Mathlib.Omega.{arith}
use borrow.Author.Rules.{rules}
use borrow.Author.Tests.{lt-ltb, le-ltb, le-leb, lt-leb}
use Rattle.decoder.proofs.writers.replaced.Goals as goal

ruleset tests = (rules, lt-ltb, le-ltb, le-leb, lt-leb)

pub returns-then-c-lt55296 : goal.returns-then-c-lt55296
returns-then-c-lt55296 c = rw (lt-ltb _ _ c.if-c-lt55296.true) (refl, omega arith)

pub returns-then-c-lt57344 : goal.returns-then-c-lt57344
returns-then-c-lt57344 c = search tests

pub returns-then-c-lt1114112 : goal.returns-then-c-lt1114112
returns-then-c-lt1114112 c = search tests

pub returns : goal.returns
returns c = search tests
