-- Calls of a stream, one after the other, each by the functions' own `ensures` (Calls): a run over a source, and any calls from a new stream.
-- What a call wrote is what its rooms then hold, as many text bytes and errors (two numbers each) as its result says.
use Prim.Native.Nat.{ℕ, ◌+◌, ◌*◌}
use mathlib.Core.Path.{◌≡◌}
use mathlib.Core.List.{List, [], ◌++◌}
use mathlib.Core.Bool.{true, false}
use lib.ListN.{take, drop}
use Rattle.standard.specs.declared.Context.{Context}
use Rattle.decoder.specs.declared.stream.Stream.{Stream}
use Rattle.decoder.specs.declared.stream.Fed.{Fed}
use Rattle.decoder.specs.Stream.{closes}
use Rattle.demands.proofs.Calls.{Beginning, Feeding, Ending}
use Rattle.demands.proofs.Cutting.{Allowed}
use Rattle.demands.proofs.Held.{Phase, Still, fed, ended}

-- What a call wrote to its text room, and to its error room.
abbrev pub wrote_text : Fed → List ℕ → List ℕ
wrote_text f text' = take f.text text'

abbrev pub wrote_errors : Fed → List ℕ → List ℕ
wrote_errors f errors' = take (2 * f.errors) errors'

-- A run over a source, for which the table gives no 3, 4 or 5: its chunks are handed in one after the other, up to the answer and the place that
-- close the stream; all text and all numbers of errors that were written, joined.
pub data Running : Stream → (source text numbers : List ℕ) → (answer place : ℕ) → Type 0 where
  -- Nothing is left, and the source ends.
  ends : {r : Stream} {text errors : List ℕ} {f : Fed} {text' errors' : List ℕ} → Ending r text errors f text' errors' → Allowed f.answer
      → Running r [] (wrote_text f text') (wrote_errors f errors') f.answer f.place
  -- A chunk is answered so that the stream closes.
  leaves : {r : Stream} {chunk text errors : List ℕ} {f : Fed} {text' errors' : List ℕ} → Feeding r chunk text errors f text' errors'
      → Allowed f.answer → closes f.answer ≡ true → (later : List ℕ)
      → Running r (chunk ++ later) (wrote_text f text') (wrote_errors f errors') f.answer f.place
  -- A chunk is answered so that it goes on, and what was not taken is handed in again.
  goes : {r : Stream} {chunk text errors : List ℕ} {f : Fed} {text' errors' : List ℕ} → Feeding r chunk text errors f text' errors'
      → Allowed f.answer → closes f.answer ≡ false → (later : List ℕ) {ts ns : List ℕ} {answer place : ℕ}
      → Running f.«record» (drop f.taken (chunk ++ later)) ts ns answer place
      → Running r (chunk ++ later) (wrote_text f text' ++ ts) (wrote_errors f errors' ++ ns) answer place

-- Calls from a new stream, in any order and with any chunks and rooms: the record, the bytes taken, all text and all numbers of errors that were
-- written, the phase, and the sum of the taken counts.
pub data Called (context : Context) : Stream → (taken text numbers : List ℕ) → Phase → ℕ → Type 0 where
  new : {r : Stream} → Beginning context r → Called context r [] [] [] Still 0
  feeds : {r : Stream} {t ts ns : List ℕ} {phase : Phase} {sum : ℕ} → Called context r t ts ns phase sum
      → {chunk text errors : List ℕ} {f : Fed} {text' errors' : List ℕ} → Feeding r chunk text errors f text' errors'
      → Called context f.«record» (t ++ take f.taken chunk) (ts ++ wrote_text f text') (ns ++ wrote_errors f errors')
      (fed phase f.answer) (sum + f.taken)
  ends : {r : Stream} {t ts ns : List ℕ} {phase : Phase} {sum : ℕ} → Called context r t ts ns phase sum
      → {text errors : List ℕ} {f : Fed} {text' errors' : List ℕ} → Ending r text errors f text' errors'
      → Called context f.«record» t (ts ++ wrote_text f text') (ns ++ wrote_errors f errors') (ended phase f.answer) (sum + f.taken)
