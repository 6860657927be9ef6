-- An example, so that the laws are seen to ask for nothing odd: text with tags as tokens. A tag ends its call with 21 and leaves the stream open,
-- one that is open at the end is answered first, with 22, and a name that is too long is answered at its tag, with 16.
use Rattle.std.specs.Prelude.{if◌then◌else◌}
use Prim.Native.Nat.{ℕ, ◌≤◌}
use Prim.Native.Char.{code}
use mathlib.Core.Path.{◌≡◌, refl, sym, ap, subst}
use mathlib.Core.List.{List, [], ◌∷◌, ◌++◌, append_assoc, append-nil}
use mathlib.Core.Bool.{Bool, true, false, ◌&&◌}
use native.Mathlib.Omega.{arith}
use lib.Dec.{leb, eqb}
use lib.ListN.{length, length-append}
use borrow.Author.Tests.{leb-true, le-leb}
use Rattle.lists.proofs.Choice.{if_both, no_way, and_true}
use Rattle.standard.specs.Utf8.{read_char, after_lead, tails, bytes, encode, octets}
use Rattle.standard.proofs.Utf8.{read_length}
use Rattle.machines.specs.Machine.{Turn, stops, takes, Machine}
use Rattle.machines.specs.Stream.{At, Stream, still, shut, is_still, begin, is_part, byte}
use Rattle.machines.specs.Records.{Records}
use Rattle.machines.specs.Whole.{final, whole, RunsOver}
use Rattle.machines.specs.Laws.{Joins, Sizes, Proper, Bytes, Characters, Reaching, Faithful}
use Rattle.machines.proofs.Walks.{still-same}
use Rattle.machines.proofs.Layer.{bytes_proper}
use Rattle.machines.proofs.Cutting as any

-- Text, and tags with their names.
pub record Out : Type 0 where
  pub text : List ℕ
  pub tags : List (List ℕ)

abbrev out : List ℕ → List (List ℕ) → Out
out text tags = record { text = text; tags = tags }

-- Text; and a tag at a place, with its name so far.
pub data St : Type 0 where
  Text : St
  Tag : (q : ℕ) (name : List ℕ) → St

abbrev reads : St → (place c : ℕ) (own : List ℕ) → Turn St Out
reads Text place c own = if eqb c (code "<") then takes 0 (out [] []) (Tag place []) else takes 0 (out own []) Text
reads (Tag q name) place c own =
    if eqb c (code ">") then takes 21 (out [] (name ∷ [])) Text
    else if leb 256 (length name) then stops 16 q (out [] [])
    else takes 0 (out [] []) (Tag q (name ++ own))

abbrev finish : St → Turn St Out
finish Text = stops 0 0 (out [] [])
finish (Tag q name) = takes 22 (out [] (name ∷ [])) Text

abbrev pub tags : Machine
tags = record {
  Out = Out;
  none = out [] [];
  join = λ a b. out (a.text ++ b.text) (a.tags ++ b.tags);
  text = λ g. length g.text;
  numbers = λ g. 0;
  State = St;
  reads = reads;
  finish = finish;
}

joins : Joins tags
joins = record {
  assoc = λ a b c i. out (append_assoc a.text b.text c.text i) (append_assoc a.tags b.tags c.tags i);
  first = λ a. refl;
  last = λ a i. out (append-nil a.text i) (append-nil a.tags i);
  once = λ st e. by st e;
}
  where
    -- After the end is taken there is text.
    Then : Turn St Out → Type 0
    Then (stops answer place g) = Unit {0}
    Then (takes says g next) = (answer : ℕ) × (place : ℕ) × (h : Out) × (finish next ≡ stops answer place h)

    after : (st : St) → Then (finish st)
    after Text = tt
    after (Tag q name) = (0, 0, out [] [], refl)

    by : (st : St) {says : ℕ} {g : Out} {next : St} → finish st ≡ takes says g next
        → (answer : ℕ) × (place : ℕ) × (h : Out) × (finish next ≡ stops answer place h)
    by st e = subst Then e (after st)

sizes : Sizes tags
sizes = record {
  text_none = refl;
  numbers_none = refl;
  text_join = λ a b. length-append a.text b.text;
  numbers_join = λ a b. refl;
}

-- Every state is good at every place.
abbrev Any : St → (place taken : ℕ) → Type 0
Any st place taken = Unit {0}

characters : Characters tags Any
characters = record {
  char_proper = λ st place taken c own h more e. by st place c own (omega (arith, read_length own c (length own) e));
  end_proper = λ st place h. end st;
  one_more = λ st place taken h. h;
}
  where
    by : (st : St) (place c : ℕ) (own : List ℕ) → length own ≤ 4 → Proper tags (λ next. Unit {0}) (reads st place c own)
    by Text place c own few =
        if_both (Proper tags (λ next. Unit {0})) (eqb c (code "<")) _ _ (λ e. ((omega arith, omega arith), refl, tt))
        (λ e. ((omega arith, omega arith), refl, tt))
    by (Tag q name) place c own few =
        if_both (Proper tags (λ next. Unit {0})) (eqb c (code ">")) _ _ (λ e. ((omega arith, omega arith), refl, tt))
        (λ e. if_both (Proper tags (λ next. Unit {0})) (leb 256 (length name)) _ _ (λ e. ((omega arith, omega arith), refl))
        (λ e. ((omega arith, omega arith), refl, tt)))

    end : (st : St) → Proper tags (λ next. Unit {0}) (finish st)
    end Text = ((omega arith, omega arith), refl)
    end (Tag q name) = ((omega arith, omega arith), refl, tt)

proper : Bytes tags (Reaching Any)
proper = bytes_proper tags sizes characters

-- A record is a stream that says where it is; one that can be nowhere counts as closed.
module _ (limit : ℕ) where
  abbrev fits : At St → Bool
  fits at = is_part (read_char at.part) && leb (length at.part) at.taken && leb at.taken limit

  abbrev view : Stream St → Stream St
  view (still at) = if fits at then still at else shut at.taken
  view (shut taken) = shut taken

  abbrev pub records : Records tags (Stream St)
  records = record { view = view; keep = still; close = λ r taken. shut taken }

  faithful : Faithful tags (Reaching Any) limit records
  faithful = record {
    opens = λ r e. by r e;
    keeps = λ at h short. rw (h.begun, le-leb (length at.part) at.taken h.there, le-leb at.taken limit short);
    closes = λ r taken. refl;
  }
    where
      opened : (at next : At St) (u : Bool) → fits at ≡ u → (if u then still at else shut at.taken) ≡ still next
          → Reaching Any next × (next.taken ≤ limit)
      opened at next true e f =
          let w = and_true _ (leb at.taken limit) e in
          let v = and_true (is_part (read_char at.part)) _ w.0 in
          subst (λ (x : At St). Reaching Any x × (x.taken ≤ limit)) (still-same f)
          (record { good = tt; begun = v.0; there = leb-true _ _ v.1 }, leb-true at.taken limit w.1)
      opened at next false e f = no_way (sym (ap is_still f))

      by : (r : Stream St) {next : At St} → view r ≡ still next → Reaching Any next × (next.taken ≤ limit)
      by (still at) {next} e = opened at next (fits at) refl e
      by (shut taken) e = no_way (sym (ap is_still e))

  -- However a source is cut into chunks, its text and its tags are those of the whole.
  pub cutting : {source : List ℕ} {g : Out} {answer place : ℕ}
      → RunsOver tags records limit (still (begin Text)) source g answer place
      → whole tags (begin Text) source ≡ final answer place g
  unfolding read_char
  cutting run = any.cutting tags joins sizes proper records faithful run (begin Text) (rw (le-leb 0 limit (omega arith)))

-- And so they are for a text.
pub example : whole tags (begin Text) (bytes "a<b>c<d") ≡ final 0 0 (out (bytes "ac") (bytes "b" ∷ bytes "d" ∷ []))
unfolding whole byte read_char after_lead tails bytes encode octets
example = refl
