-- A named reference as the decoder's piece, and what its readers see.
use Rattle.std.specs.Prelude.{if◌then◌else◌}
use Prim.Native.Nat.{ℕ, ◌+◌, ◌-◌}
use Prim.Native.Char.{code}
use mathlib.Core.Path.{◌≡◌, sym, ◌∙◌}
use mathlib.Core.List.{List, [], ◌∷◌}
use mathlib.Core.Bool.{Bool, true, false}
use mathlib.Core.Logic.{◌≢◌}
use native.Mathlib.Numerals.{add-one}
use lib.ListN.{get_or, drop}
use Rattle.standard.specs.declared.Context.{Context}
use Rattle.standard.specs.declared.names.Found.{Found}
use Rattle.standard.specs.Pieces.{piece, char_ref_text, unknown_name, named_by, stays_text}
use Rattle.standard.proofs.FrontPiece.{by_none, by_closed, by_staying, by_open}
use Rattle.decoder.specs.Pieces.{piece_of, one_of}
use Rattle.decoder.proofs.PieceLaws.{alone}

-- What stands after an `&`, by the longest name that is found there.
module _ (context : Context) (found : Found) (s : List ℕ) where
  -- No name.
  pub named_none : (unknown : Bool) → found.len ≡ 0 → unknown_name s ≡ unknown
      → piece_of (one_of 1 0x26 (if unknown then 4 else 0) 0) ≡ named_by context found s
  named_none unknown none e = alone (if unknown then 4 else 0) ∙ sym (by_none context found s unknown none e)

  module _ (some : found.len ≢ 0) where
    -- A name that ends with `;`.
    pub named_closed : get_or s (found.len - 1) 0 ≡ code ";" → piece (found.len + 1) (char_ref_text found.reference) [] ≡ named_by context found s
    named_closed e = rw (by_closed context found s some e, add-one)

    module _ (unclosed : get_or s (found.len - 1) 0 ≢ code ";") where
      -- A name without `;` that stays text.
      pub named_stays : stays_text context (drop found.len s) ≡ true → piece_of (one_of 1 0x26 0 0) ≡ named_by context found s
      named_stays e = alone 0 ∙ sym (by_staying context found s some unclosed e)

      -- Any other name without `;`.
      pub named_open : stays_text context (drop found.len s) ≡ false
          → piece (found.len + 1) (char_ref_text found.reference) (2 ∷ []) ≡ named_by context found s
      named_open e = rw (by_open context found s some unclosed e, add-one)
