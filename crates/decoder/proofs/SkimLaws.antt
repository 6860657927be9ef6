-- Laws of what is skimmed: runs of plain bytes and characters that stand for themselves, through the walk with nothing held.
use Rattle.std.specs.Prelude.{if◌then◌else◌}
use Prim.Native.Nat.{ℕ, zero, suc, ◌+◌, ◌-◌, ◌*◌, ◌≤◌, ◌<◌, min}
use Prim.Native.Char.{code}
use mathlib.Core.Path.{◌≡◌, refl, sym, ◌∙◌, ap, ap₂, subst}
use mathlib.Core.List.{List, [], ◌∷◌, ◌++◌}
use mathlib.Core.Bool.{Bool, true, false, ◌||◌}
use mathlib.Core.Logic.{◌≢◌}
use native.Mathlib.Omega.{arith}
use lib.Dec.{eqb, leb}
use lib.ListN.{length, get_or, take, drop, length-take, length-drop, drop_of_length-le}
use lib.Seq.{get_or-take, get_or-drop, take-suc, length-take-le, take_all, take-add, take-take, drop_at, drop-drop}
use borrow.Author.Tests.{eqb-true, ne_eqb, leb-true}
use Rattle.lists.specs.Notation.{front, every}
use Rattle.lists.specs.Rooms.{Put}
use Rattle.lists.proofs.Choice.{no_way, and_true}
use Rattle.lists.proofs.Every.{All}
use Rattle.lists.proofs.Fronts.{front-is-take, front_length}
use Rattle.lists.proofs.Puts.{put_length}
use Rattle.standard.specs.declared.Context.{Context}
use Rattle.standard.specs.declared.Context.TheVariants.{Text, Attribute}
use Rattle.standard.specs.declared.characters.CharRead.TheVariants.{Char}
use Rattle.standard.specs.Utf8.{read_char}
use Rattle.standard.specs.Answers.{done}
use Rattle.standard.specs.Classes.{alphanumeric, character_code}
use Rattle.standard.specs.Errors.{listed, placed}
use Rattle.standard.specs.NameList.{builtin}
use Rattle.standard.specs.Pieces as standard
use Rattle.standard.specs.Pieces.{character, piece_at}
use Rattle.standard.specs.Reading.{calls_for, Reading, reading, reading_at, ◌⊕◌}
use Rattle.decoder.specs.Writing.{Wrote}
use Rattle.standard.proofs.Ascii.{read-ascii}
use Rattle.standard.proofs.Joining.{⊕-none, numbers-length}
use Rattle.decoder.proofs.Writing.{wrote_none, wrote_text, wrote-join}
use Rattle.standard.proofs.Utf8.{read_end, read_length, read_take}
use Rattle.decoder.specs.declared.pieces.Piece.{Piece}
use Rattle.decoder.specs.declared.stream.State.TheVariants as kind
use Rattle.decoder.specs.declared.stream.Held.{Held}
use Rattle.decoder.specs.declared.stream.Stream.{Stream}
use Rattle.decoder.specs.Machine.{Data, Step, nothing, step_data, step}
use Rattle.decoder.specs.Pieces.{piece_of, one_of}
use Rattle.standard.specs.Contexts.{end_byte}
use Rattle.runs.specs.Kinds.{plain}
use Rattle.decoder.specs.Stream.{At, at_by, Walked, stops_at, onward, lacks_room, walk, is_part, st_by, held_of, record_of, at_of}
use Rattle.decoder.specs.Turns.{Fits}
use Rattle.decoder.specs.Feeding.{OpenAt, Open, Moves}
use Rattle.decoder.specs.Skims.{PlainRun, in_reference, Closes, Stands, has_room, Skims}
use Rattle.decoder.proofs.ClosedReferences.{Passes, walk-closed}
use Rattle.decoder.proofs.PieceLaws.{character-read}
use Rattle.decoder.proofs.Room.{room-only}
use Rattle.decoder.proofs.Looks.{Looks, ascii, wide, looks, passes-ascii, alphanumeric-ascii}
use Rattle.standard.proofs.Stops.{calls_none}
use Rattle.decoder.proofs.Plain.{plain-is, plain-calls}
use Rattle.decoder.proofs.Unfolding.{all_append}
use Rattle.decoder.proofs.Room.{room-so}
use Rattle.decoder.proofs.Walks.{walk_more, walk_char}

-- What a step with nothing held comes to, with the walk after it.
abbrev stepped : Context → (text errors p c k : ℕ) (own rest : List ℕ) → Walked
stepped context text errors p c k own rest =
    let t : Step = step builtin context Data p c own in
    onward t.gives (walk builtin context (text - length t.gives.text) (errors - 2 * length t.gives.errors) (at_by t.next [] k) rest)

module _ (context : Context) where
  -- A character that stands for itself, alone and with nothing held.
  walk_alone : (text errors p c n : ℕ) (s : List ℕ) → 64 ≤ text → 8 ≤ errors → read_char s ≡ Char c n → calls_for context c ≡ done
      → eqb c (code "\r") ≡ false → eqb c (code "&") ≡ false
      → walk builtin context text errors (at_by Data [] p) (take n s)
      ≡ stops_at done (reading (take n s) (placed p (listed (character_code c)))) (at_by Data [] (p + n))
  unfolding walk step step_data
  walk_alone text errors p c n s h k read calls no-cr no-ampersand =
      let some = read_length s c n read in
      let own = read_take s c n read in
      let long : length (take n s) ≡ n = length-take-le n s some.2 in
      let all : length (take n s) ≤ n = omega (arith, long) in
      walk_char builtin context text errors (room-so text errors (h, k)) Data [] p c n (take n s) own (omega (arith, some)) calls
      ∙ ap₂ (λ (q m : ℕ). stepped context text errors q c (p + m) (take n (take n s)) (drop m (take n s)))
      (let i : p - 0 ≡ p = omega arith in i) (let i : n - 0 ≡ n = omega arith in i)
      ∙ ap₂ (λ (own rest : List ℕ). stepped context text errors p c (p + n) own rest) (take_all n (take n s) all)
      (drop_of_length-le (take n s) all)
      ∙ rw (no-cr, no-ampersand)
      (ap (λ (g : Reading). stops_at done g (at_by Data [] (p + n))) (⊕-none (reading (take n s) (placed p (listed (character_code c))))))

  -- A run of plain bytes gives itself.
  walk_plain : (text errors p : ℕ) (l : List ℕ) → every (plain (end_byte context)) l ≡ true → length l + 63 ≤ text → 8 ≤ errors
      → walk builtin context text errors (at_by Data [] p) l ≡ stops_at done (reading l []) (at_by Data [] (p + length l))
  unfolding walk placed
  walk_plain text errors p [] e h k = ap (λ (n : ℕ). stops_at done nothing (at_by Data [] n)) (omega arith)
  walk_plain text errors p (b ∷ l) e h k =
      let w = and_true (plain (end_byte context) b) (every (plain (end_byte context)) l) e in
      let q = plain-is (end_byte context) b w.0 in
      let c = plain-calls context b w.0 in
      let first =
      walk_alone text errors p b 1 (b ∷ l) (omega arith) k (read-ascii b l c.0) c.1 q.1 q.2
      ∙ ap (λ (x : ℕ). stops_at done (reading (b ∷ []) (placed p (listed x))) (at_by Data [] (p + 1))) q.3 in
      walk_more builtin context text errors (at_by Data [] p) (b ∷ []) l first
      (walk_plain (text - 1) (errors - 0) (p + 1) l w.1 (omega arith) (omega arith))
      ∙ ap (λ (n : ℕ). stops_at done (reading (b ∷ l) []) (at_by Data [] n)) (let i : p + 1 + length l ≡ p + suc (length l) = omega arith in i)

module _ {context : Context} {before : ℕ} {s : List ℕ} {from : ℕ} {text errors : List ℕ} {w e : ℕ} where
  -- Nothing is skimmed yet.
  pub skims_start : from ≤ length s → w ≤ length text → e ≤ length errors
      → Skims context before s from from text w text w errors e errors e
  unfolding walk
  skims_start there text_in errors_in = record {
    onward = omega arith;
    there = there;
    gives = nothing;
    walked =
        ap (λ (n : ℕ). walk builtin context (length text - w) (length errors - e) (at_by Data [] (before + from)) (take n (drop from s)))
        (let i : from - from ≡ 0 = omega arith in i);
    wrote = wrote_none text w errors e;
    text_in = text_in;
    errors_in = errors_in;
    text_few = omega arith;
    errors_few = omega arith;
  }

  module _ {at w' e' : ℕ} {text' errors' : List ℕ} (g : Skims context before s from at text w text' w' errors e errors' e') where
    -- Some bytes more.
    skims_on : {text'' errors'' : List ℕ} {w'' e'' : ℕ} (k : ℕ) (h : Reading) → at + k ≤ length s
        → walk builtin context (length text' - w') (length errors' - e') (at_by Data [] (before + at)) (take k (drop at s))
        ≡ stops_at done h (at_by Data [] (before + (at + k)))
        → Wrote h text' w' text'' w'' errors' e' errors'' e'' → w'' ≤ length text'' → e'' ≤ length errors'' → w'' ≤ w' + 64 * k → e'' ≤ e' + 8 * k
        → Skims context before s from (at + k) text w text'' w'' errors e errors'' e''
    skims_on {text''} {errors''} {w''} {e''} k h there second wrote text_in errors_in text_few errors_few = record {
      onward = omega (arith, g.onward);
      there = there;
      gives = g.gives ⊕ h;
      walked =
          ap (walk builtin context (length text - w) (length errors - e) (at_by Data [] (before + from))) split
          ∙ walk_more builtin context (length text - w) (length errors - e) (at_by Data [] (before + from)) (take (at - from) (drop from s))
          (take k (drop at s)) g.walked
          (ap₂ (λ (t n : ℕ). walk builtin context t n (at_by Data [] (before + at)) (take k (drop at s)))
          (let i : length text - w - length g.gives.text ≡ length text' - w' =
          omega (arith, g.wrote.texts.next_is, put_length g.wrote.texts) in i)
          (let i : length errors - e - 2 * length g.gives.errors ≡ length errors' - e' =
          omega (arith, g.wrote.numbers_of.next_is, numbers-length g.gives.errors, put_length g.wrote.numbers_of) in i)
          ∙ second);
      wrote = wrote-join g.wrote wrote;
      text_in = text_in;
      errors_in = errors_in;
      text_few = omega (arith, g.text_few, g.onward);
      errors_few = omega (arith, g.errors_few, g.onward);
    }
      where
        split : take (at + k - from) (drop from s) ≡ take (at - from) (drop from s) ++ take k (drop at s)
        split =
            let on = g.onward in
            ap (λ (n : ℕ). take n (drop from s)) (let i : at + k - from ≡ at - from + k = omega (arith, on) in i)
            ∙ take-add (at - from) k (drop from s)
            ∙ ap (λ (l : List ℕ). take (at - from) (drop from s) ++ take k l)
            (drop-drop (at - from) from s ∙ ap (λ (n : ℕ). drop n s) (let i : from + (at - from) ≡ at = omega (arith, on) in i))

    -- A run is copied.
    pub skims_run : {text'' : List ℕ} {w'' : ℕ} (end : ℕ) → 8 ≤ length errors' - e' → PlainRun context s at (length text' - w') end
        → Put text' w' (take (end - at) (drop at s)) text'' w'' → Skims context before s from end text w text'' w'' errors e errors' e'
    skims_run {text''} {w''} end room run put =
        let k : ℕ = end - at in
        let there = run.there in
        let onward = run.from in
        let long : length (take k (drop at s)) ≡ k = length-take-le k (drop at s) (simp length-drop (omega arith)) in
        let is : at + k ≡ end = omega arith in
        subst (λ (n : ℕ). Skims context before s from n text w text'' w'' errors e errors' e') is
        (skims_on k (reading (take k (drop at s)) []) (omega arith)
        (walk_plain context (length text' - w') (length errors' - e') (before + at) (take k (drop at s)) run.plains
        (omega (arith, long, run.fits)) room
        ∙ ap (λ (n : ℕ). stops_at done (reading (take k (drop at s)) []) (at_by Data [] n)) (omega (arith, long)))
        (wrote_text errors' e' put) (omega (arith, put.next_is, put_length put, long, run.fits)) g.errors_in
        (omega (arith, put.next_is, long)) (omega arith))

    -- A piece is written.
    pub skims_alone : {text'' errors'' : List ℕ} {w'' e'' : ℕ} (p : Piece) → 64 + p.size ≤ length text' - w' → 8 + 2 * p.size ≤ length errors' - e'
        → Stands context (drop at s) p → Wrote (reading_at (before + at) (piece_of p)) text' w' text'' w'' errors' e' errors'' e'' → w'' ≤ w' + 8
        → e'' ≤ e' + 4
        → Skims context before s from (at + p.size) text w text'' w'' errors e errors'' e''
    skims_alone p text_room errors_room a wrote text_few errors_few =
        let some = a.some in
        skims_on p.size (reading_at (before + at) (piece_of p)) (omega (arith, a.there, length-drop at s, g.there))
        (a.walks (length text' - w') (length errors' - e') (before + at) text_room errors_room
        ∙ ap (λ (n : ℕ). stops_at done (reading_at (before + at) (piece_of p)) (at_by Data [] n)) (omega arith))
        wrote (omega (arith, put_length wrote.texts)) (omega (arith, put_length wrote.numbers_of)) (omega arith) (omega arith)

    -- Where it is not found lacking, there is room for a byte.
    pub skims_free : {lacks : Bool} → lacks ≡ lacks_room (length text' - w') (length errors' - e') → lacks ≡ false
        → (64 ≤ length text' - w') × (8 ≤ length errors' - e')
    skims_free is free = room-only (length text' - w') (length errors' - e') (sym is ∙ free)

    -- Where a piece is found to have its room, that is there.
    pub skims_fits : (p : Piece) {has : Bool} → has ≡ has_room p.size (length text' - w') (length errors' - e') → has ≡ true
        → (64 + p.size ≤ length text' - w') × (8 + 2 * p.size ≤ length errors' - e')
    skims_fits p is fits =
        let f = and_true (leb (64 + p.size) (length text' - w')) (leb (8 + 2 * p.size) (length errors' - e')) (sym is ∙ fits) in
        (leb-true (64 + p.size) (length text' - w') f.0, leb-true (8 + 2 * p.size) (length errors' - e') f.1)

-- Where nothing is held a stream is open.
open_data : (n : ℕ) → OpenAt (at_by Data [] n)
unfolding Fits
open_data n = record { fits = tt; few = omega arith; begun = ap is_part (read_end [] refl); there = omega arith }

-- A walk over no bytes.
pub moves-none : (r : Stream) → Open r → {s text errors : List ℕ} {at w e : ℕ} → at ≤ length s → w ≤ length text → e ≤ length errors
    → Moves r s at text w errors e r at text w errors e
unfolding walk
moves-none r o {s} {text} {errors} {at} {w} {e} there text_in errors_in =
    let none : at - at ≡ 0 = omega arith in record {
      onward = omega arith;
      there = there;
      here = at_of r;
      gives = nothing;
      walked = ap (λ (n : ℕ). walk builtin r.context (length text - w) (length errors - e) (at_of r) (take n (drop at s))) none;
      opened = o.at;
      taken_is = omega arith;
      recorded = o.whole;
      wrote = wrote_none text w errors e;
      text_in = text_in;
      errors_in = errors_in;
      text_few = omega arith;
      errors_few = omega arith;
    }

-- What was skimmed, as a walk from a record with nothing held.
pub moves_skim : (r : Stream) → r.held.state ≡ kind.Data → r.part_count ≡ 0
    → {s text errors text' errors' : List ℕ} {at end w e w' e' before : ℕ}
    → before ≡ r.taken - at → at ≤ r.taken → Skims r.context before s at end text w text' w' errors e errors' e' → {nothing-held : Held}
    → nothing-held ≡ held_of Data
    → Moves r s at text w errors e
    (record { context = r.context; held = nothing-held; part = 0 ∷ 0 ∷ 0 ∷ []; part_count = 0; taken = before + end }) end text' w' errors' e'
unfolding record_of st_by
moves_skim r state count {s} {text} {errors} {at = at} {end} {w} {e} {before = before} before-is there k is = record {
  onward = k.onward;
  there = k.there;
  here = at_by Data [] (before + end);
  gives = k.gives;
  walked = ap (λ (a : At). walk builtin r.context (length text - w) (length errors - e) a (take (end - at) (drop at s))) here ∙ k.walked;
  opened = open_data (before + end);
  taken_is = omega (arith, k.onward);
  recorded = rw is;
  wrote = k.wrote;
  text_in = k.text_in;
  errors_in = k.errors_in;
  text_few = k.text_few;
  errors_few = k.errors_few;
}
  where
    here : at_of r ≡ at_by Data [] (before + at)
    here = rw (state, count) (ap (λ (n : ℕ). at_by Data [] n) (let i : r.taken ≡ before + at = omega arith in i))

-- The front of a list passes its test.
front-every : (p : ℕ → Bool) (s : List ℕ) → every p (front p s) ≡ true
unfolding front
front-every p [] = refl
front-every p (c ∷ s) = go (p c) refl (front-every p s)
  where
    go : (t : Bool) → p c ≡ t → every p (front p s) ≡ true → every p (if t then c ∷ front p s else []) ≡ true
    go true e later = rw e later
    go false e later = refl

-- Plain bytes from at on, of as many as have their room.
pub run-plain : (context : Context) (s : List ℕ) (at free : ℕ) → at ≤ length s → 64 ≤ free → {limit end : ℕ} → limit ≡ min (length s - at) (free - 63)
    → end ≡ at + length (front (plain (end_byte context)) (drop at (take (at + limit) s))) → PlainRun context s at free end
run-plain context s at free there room {limit} {end} limit_is end_is =
    let few = front_length p l in
    let short = length-drop at (take (at + limit) s) in
    let few-more = length-take (at + limit) s in record {
      from = omega arith;
      there = omega (arith, few, short, few-more);
      fits = omega (arith, few, short, few-more);
      plains = ap (every p) same ∙ front-every p l;
    }
  where
    p : ℕ → Bool
    p = plain (end_byte context)

    l : List ℕ
    l = drop at (take (at + limit) s)

    -- What stands there is the front of it.
    same : take (end - at) (drop at s) ≡ front p l
    same =
        let cut : l ≡ take limit (drop at s) =
        ap (drop at) (take-add at limit s) ∙ drop_at (take at s) (take limit (drop at s)) at (length-take-le at s there) in
        let few = front_length p l in
        let n = length (front p l) in
        let small : n ≤ limit = omega (arith, few, ap length cut, length-take limit (drop at s)) in
        ap (λ (k : ℕ). take k (drop at s)) (let i : end - at ≡ n = omega arith in i)
        ∙ sym (take-take n limit (drop at s) small) ∙ ap (take n) (sym cut) ∙ sym (front-is-take p l)

-- A run is as long as it says.
pub run_length : {context : Context} {s : List ℕ} {at free end : ℕ} → PlainRun context s at free end
    → length (take (end - at) (drop at s)) + 63 ≤ free
run_length {s = s} {at} {free} {end} r =
    let there = r.there in
    let from = r.from in
    omega (arith, r.fits, length-take-le (end - at) (drop at s) (simp length-drop (omega arith)))

-- A character that was read and calls for nothing stands for itself.
pub stands-alone : {context : Context} {s : List ℕ} {c n error : ℕ} {p : Piece} → read_char s ≡ Char c n → calls_for context c ≡ done
    → c ≢ code "\r" → c ≢ code "&" → error ≡ character_code c → p ≡ one_of n c error 0 → Stands context s p
stands-alone {context} {s} {c} {n} {error} {p} read calls no-cr no-ampersand error-is is =
    subst (Stands context s) (sym is) (record {
      some = some.0;
      there = some.2;
      walks = λ text errors q h k. walk_alone context text errors q c n s (omega (arith, h)) (omega (arith, k)) read calls (ne_eqb c
          (code "\r") no-cr)
          (ne_eqb c (code "&") no-ampersand)
          ∙ ap (λ (x : standard.Piece). stops_at done (reading_at q x) (at_by Data [] (q + n))) (sym piece_is);
    })
  where
    some : (1 ≤ n) × (n ≤ 4) × (n ≤ length s)
    some = read_length s c n read

    piece_is : piece_of (one_of n c error 0) ≡ standard.piece n (take n s) (listed (character_code c))
    piece_is = character-read s read error-is ∙ ap (λ r. character r s) read

-- A byte of a reference is ASCII and calls for nothing.
reference-passes : (context : Context) (b : ℕ) → in_reference b ≡ true → Passes context b
reference-passes context b e =
    let h = go (eqb b (code "#")) (alphanumeric b) refl refl e in
    (h.0, calls_none context b (λ i. no_way (sym e ∙ ap in_reference i)) (λ i. no_way (sym e ∙ ap in_reference i ∙ end_not context)))
  where
    go : (t u : Bool) → eqb b (code "#") ≡ t → alphanumeric b ≡ u → t || u ≡ true → (b < 0x80) × Unit {0}
    go true u f g h = (omega (arith, eqb-true b (code "#") f), tt)
    go false true f g h = (passes-ascii alphanumeric alphanumeric-ascii b g, tt)
    go false false f g h = no_way (sym h)

    end_not : (context : Context) → in_reference (end_byte context) ≡ false
    end_not Text = refl
    end_not Attribute = refl

-- The `;` that ends a reference does so too, and its `&`.
semicolon_passes : (context : Context) → Passes context (code ";")
semicolon_passes Text = (omega arith, refl)
semicolon_passes Attribute = (omega arith, refl)

ampersand-passes : (context : Context) → Passes context (code "&")
ampersand-passes Text = (omega arith, refl)
ampersand-passes Attribute = (omega arith, refl)

-- What every element passes holds of all of them.
all_pass : (context : Context) (l : List ℕ) → every in_reference l ≡ true → All (Passes context) l
all_pass context [] e = tt
all_pass context (b ∷ l) e =
    let w = and_true (in_reference b) (every in_reference l) e in (reference-passes context b w.0, all_pass context l w.1)

-- The first n bytes of which the first and the last are known.
first-last : (s : List ℕ) (n a b : ℕ) → 2 ≤ n → n ≤ length s → get_or s 0 0 ≡ a → get_or s (n - 1) 0 ≡ b
    → take n s ≡ a ∷ take (n - 2) (drop 1 s) ++ b ∷ []
first-last [] n a b some there e f = absurd (omega arith)
first-last (x ∷ s) zero a b some there e f = absurd (omega arith)
first-last (x ∷ s) (suc zero) a b some there e f = absurd (omega arith)
first-last (x ∷ s) (suc (suc k)) a b some there e f =
    let last : get_or s k 0 ≡ b = ap (λ (m : ℕ). get_or (x ∷ s) m 0) (let i : suc k ≡ suc (suc k) - 1 = omega arith in i) ∙ f in
    ap₂ (λ (y : ℕ) (l : List ℕ). y ∷ l) e (take-suc s k 0 (omega arith) ∙ ap (λ (y : ℕ). take k s ++ y ∷ []) last)
    ∙ ap (λ (m : ℕ). a ∷ take m s ++ b ∷ []) (let i : k ≡ suc (suc k) - 2 = omega arith in i)

-- The piece of some bytes that begin with `&` is by what follows it.
front-reference : (context : Context) (s : List ℕ) (n : ℕ) → 1 ≤ n → n ≤ length s → get_or s 0 0 ≡ code "&"
    → piece_at builtin context (take n s) ≡ standard.reference builtin context (take (n - 1) (drop 1 s))
unfolding piece_at
front-reference context [] n some there e = absurd (omega arith)
front-reference context (x ∷ s) zero some there e = absurd (omega arith)
front-reference context (x ∷ s) (suc m) some there e =
    rw e (ap (λ (k : ℕ). standard.reference builtin context (take k s)) (let i : m ≡ suc m - 1 = omega arith in i))

-- A reference that ends in its own `;` stands for itself.
pub stands-closed : {context : Context} {s : List ℕ} {n : ℕ} {p : Piece} → Closes s n → get_or s 0 0 ≡ code "&"
    → piece_of p ≡ standard.reference builtin context (take (n - 1) (drop 1 s)) → p.size ≡ n → Stands context s p
stands-closed {context} {s} {n} {p} c first is size = record {
  some = omega (arith, c.some);
  there = omega (arith, c.there);
  walks = λ text errors q h k.
      ap (λ (m : ℕ). walk builtin context text errors (at_by Data [] q) (take m s)) size
      ∙ walk-closed context text errors q (take n s) (piece_of p) all (omega (arith, long, c.some)) last front
      (size ∙ sym long) (omega (arith, long)) (omega (arith, long))
      ∙ ap (λ (m : ℕ). stops_at done (reading_at q (piece_of p)) (at_by Data [] (q + m))) (long ∙ sym size);
}
  where
    long : length (take n s) ≡ n
    long = length-take-le n s c.there

    between : List ℕ
    between = take (n - 2) (drop 1 s)

    -- The bytes are `&`, those between, and `;`.
    parts : take n s ≡ code "&" ∷ between ++ code ";" ∷ []
    parts = first-last s n (code "&") (code ";") c.some c.there first c.last

    all : All (Passes context) (take n s)
    all = subst (All (Passes context)) (sym parts) (
      ampersand-passes context,
      all_append (Passes context) between (code ";" ∷ []) (all_pass context between c.between) (semicolon_passes context, tt),
    )

    last : get_or (take n s) (length (take n s) - 1) 0 ≡ code ";"
    last = ap (λ (m : ℕ). get_or (take n s) (m - 1) 0) long ∙ get_or-take n s (n - 1) 0 (omega (arith, c.some)) ∙ c.last

    front : piece_at builtin context (take n s) ≡ piece_of p
    front =
        front-reference context s n (omega (arith, c.some)) c.there first ∙ sym is

-- Bytes of a reference so far, and one more.
pub between_more : (s : List ℕ) (at : ℕ) → 1 ≤ at → at < length s → every in_reference (take (at - 1) (drop 1 s)) ≡ true
    → in_reference (get_or s at 0)
    ≡ true
    → every in_reference (take (at + 1 - 1) (drop 1 s)) ≡ true
between_more s at some there so_far more =
    let k = at - 1 in
    let l = drop 1 s in
    ap (λ (m : ℕ). every in_reference (take m l)) (let i : at + 1 - 1 ≡ suc k = omega arith in i)
    ∙ ap (every in_reference) (take-suc l k 0 (simp length-drop (omega arith)))
    ∙ every_both (take k l) (get_or l k 0) so_far
    (ap in_reference (get_or-drop 1 s k 0 ∙ ap (λ (m : ℕ). get_or s m 0) (let i : 1 + k ≡ at = omega arith in i)) ∙ more)
  where
    every_both : (l : List ℕ) (b : ℕ) → every in_reference l ≡ true → in_reference b ≡ true → every in_reference (l ++ b ∷ []) ≡ true
    every_both [] b e f = rw f
    every_both (x ∷ l) b e f =
        let w = and_true (in_reference x) (every in_reference l) e in rw w.0 (every_both l b w.1 f)

-- Where the next byte is `;` they are closed.
pub closes_at : (s : List ℕ) (at : ℕ) → 1 ≤ at → at < length s → every in_reference (take (at - 1) (drop 1 s)) ≡ true → get_or s at 0 ≡ code ";"
    → Closes s (at + 1)
closes_at s at some there so_far e = record {
  some = omega arith;
  there = omega arith;
  last = ap (λ (m : ℕ). get_or s m 0) (let i : at + 1 - 1 ≡ at = omega arith in i) ∙ e;
  between = ap (λ (m : ℕ). every in_reference (take m (drop 1 s))) (let i : at + 1 - 2 ≡ at - 1 = omega arith in i) ∙ so_far;
}

-- A character that is read as `&` is that byte.
pub ampersand-first : (s : List ℕ) (c n : ℕ) → read_char s ≡ Char c n → c ≡ code "&" → (0 < length s) × (get_or s 0 0 ≡ code "&")
ampersand-first s c n read e = by (looks s c n read) e
  where
    by : {s : List ℕ} {c n : ℕ} → Looks s c n → c ≡ code "&" → (0 < length s) × (get_or s 0 0 ≡ code "&")
    by (ascii h) e = (omega arith, e)
    by (wide h k f) e = absurd (omega arith)
