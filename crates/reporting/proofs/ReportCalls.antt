-- What `report` gives, by whether its rooms suffice.
use Prim.Native.Nat.{ℕ, ◌≤◌, ◌<◌}
use mathlib.Core.Path.{◌≡◌}
use mathlib.Core.List.{List}
use mathlib.Core.Bool.{true, false}
use mathlib.Core.Logic.{◌⊎◌, ⊎_elim}
use native.Mathlib.Omega.{arith}
use lib.Dec.{leb}
use lib.ListN.{length}
use lib.Seq.{sets}
use borrow.Author.Tests.{le-leb, lt-leb}
use Rattle.lists.proofs.Choice.{test?}
use Rattle.standard.specs.Errors.{numbers}
use Rattle.reporting.specs.Report.{report_of, errors_of, report_room, numbers_room, roomy, Reports}

module _ {input out errors : List ℕ} {r : ℕ} {out' errors' : List ℕ} (so : Reports input out errors r out' errors') where
  -- All is written.
  pub rooms_enough : report_room ≤ length out → numbers_room ≤ length errors
      → (r ≡ length (report_of input)) × (out' ≡ sets out 0 (report_of input)) × (errors' ≡ sets errors 0 (numbers (errors_of input)))
  rooms_enough h k =
      let e : roomy (length out) (length errors) ≡ true = rw (le-leb report_room (length out) h) (le-leb numbers_room (length errors) k) in
      let w = rw e at so.written in (omega (arith, w.next_is), w.new_is, rw e at so.numbers_of)

  -- Nothing is.
  pub rooms_short : (length out < report_room) ⊎ (length errors < numbers_room) → (r ≡ 0) × (out' ≡ out) × (errors' ≡ errors)
  unfolding numbers
  rooms_short h =
      let e : roomy (length out) (length errors) ≡ false =
      ⊎_elim (λ k. rw (lt-leb report_room (length out) k))
      (λ k. rw (lt-leb numbers_room (length errors) k) (⊎_elim (λ t. rw t) (λ f. rw f) (test? (leb report_room (length out))))) h in
      let w = rw e at so.written in (omega (arith, w.next_is), w.new_is, rw e at so.numbers_of)
