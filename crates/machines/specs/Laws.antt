-- What a machine has to show, so that the laws of proofs/ hold of its streams.
use Rattle.std.specs.Prelude.{ℕ, suc, ◌+◌, ◌≤◌, ◌<◌, ◌≡◌, List, [], Bool, true, false, ◌||◌, eqb, length}
use Rattle.standard.specs.declared.characters.CharRead.TheVariants.{Char}
use Rattle.standard.specs.Utf8.{read_char}
use Rattle.standard.specs.Answers.{room_used_up, text_room, errors_room}
use Rattle.machines.specs.Machine.{Turn, stops, takes, Machine}
use Rattle.machines.specs.Stream.{At, place_of, still, shut, outcome, Comes, is_part, lift, byte}
use Rattle.machines.specs.Records.{Records, refused}

-- Outputs join, and an end that is taken is not taken again.
pub record Joins (M : Machine) : Type 0 where
  pub assoc : (a b c : M.Out) → M.join (M.join a b) c ≡ M.join a (M.join b c)
  pub first : (a : M.Out) → M.join M.none a ≡ a
  pub last : (a : M.Out) → M.join a M.none ≡ a
  pub once : (st : M.State) {says : ℕ} {g : M.Out} {next : M.State} → M.finish st ≡ takes says g next
      → (answer : ℕ) × (place : ℕ) × (h : M.Out) × (M.finish next ≡ stops answer place h)

-- Sizes add up.
pub record Sizes (M : Machine) : Type 0 where
  pub text_none : M.text M.none ≡ 0
  pub numbers_none : M.numbers M.none ≡ 0
  pub text_join : (a b : M.Out) → M.text (M.join a b) ≡ M.text a + M.text b
  pub numbers_join : (a b : M.Out) → M.numbers (M.join a b) ≡ M.numbers a + M.numbers b

-- The answers that are the stream's and no machine's.
abbrev pub reserved : ℕ → Bool
reserved a = refused a || eqb a room_used_up

-- A turn gives no more than the room that is free before it, its answer is not reserved, and what it leads to is sound.
abbrev pub Small : (M : Machine) → M.Out → Type 0
Small M g = (M.text g ≤ text_room) × (M.numbers g ≤ errors_room)

abbrev pub Proper : (M : Machine) {S : Type 0} (Sound : S → Type 0) → Turn S M.Out → Type 0
Proper M Sound (stops answer place g) = Small M g × (reserved answer ≡ false)
Proper M Sound (takes says g next) = Small M g × (reserved says ≡ false) × Sound next

-- Where a stream can be: each byte and each end that is taken leads there again.
pub record Bytes (M : Machine) (Sound : At M.State → Type 0) : Type 0 where
  pub byte_proper : (at : At M.State) (b : ℕ) → Sound at → Proper M Sound (byte M at b)
  pub end_proper : (at : At M.State) → Sound at → at.part ≡ [] → Proper M Sound (lift M at.taken (M.finish at.st))

-- The same by characters: what states can be before a character at a place, after so many bytes.
pub record Characters (M : Machine) (Good : M.State → (place taken : ℕ) → Type 0) : Type 0 where
  pub char_proper : (st : M.State) (place taken c : ℕ) (own : List ℕ) → Good st place taken → taken < place + length own
      → read_char own ≡ Char c (length own) → Proper M (λ next. Good next (place + length own) (place + length own)) (M.reads st place c own)
  pub end_proper : (st : M.State) (place : ℕ) → Good st place place → Proper M (λ next. Good next place place) (M.finish st)
  pub one_more : (st : M.State) (place taken : ℕ) → Good st place taken → Good st place (suc taken)

-- Where a stream can be, by what its state can be.
pub record Reaching {State : Type 0} (Good : State → (place taken : ℕ) → Type 0) (at : At State) : Type 0 where
  pub good : Good at.st (place_of at) at.taken
  pub begun : is_part (read_char at.part) ≡ true
  pub there : length at.part ≤ at.taken

-- A record that counts as open is of where a stream can be within the limit, and what is written there reads back.
pub record Faithful (M : Machine) (Sound : At M.State → Type 0) (limit : ℕ) {Rec : Type 0} (R : Records M Rec) : Type 0 where
  pub opens : (r : Rec) {at : At M.State} → R.view r ≡ still at → Sound at × (at.taken ≤ limit)
  pub keeps : (at : At M.State) → Sound at → at.taken ≤ limit → R.view (R.keep at) ≡ still at
  pub closes : (r : Rec) (taken : ℕ) → R.view (R.close r taken) ≡ shut taken

-- So many bytes that are taken and what they give, before what the bytes after them come to.
abbrev pub ahead : (M : Machine) → (taken : ℕ) → M.Out → Comes M → Comes M
ahead M taken gives o = outcome o.answer (o.taken + taken) o.place (M.join gives o.gives) o.after

-- What a byte with its room comes to by itself.
abbrev pub alone : (M : Machine) → At M.State → Turn (At M.State) M.Out → Comes M
alone M at (stops answer place gives) = outcome answer 0 place gives (shut at.taken)
alone M at (takes says gives next) = outcome says 1 0 gives (still next)
