-- What a listing's runs are lent, where they begin, and what a round of the listing, one run, promises.
use Rattle.std.specs.Prelude.{ℕ, ◌*◌, ◌≤◌, ◌≡◌, List, [], ◌∷◌, ◌++◌, length, codes, decimal, Result, Ok, Err}
use Rattle.definition.specs.Answers.{RunAnswer}
use Rattle.definition.specs.Basics.{Bytes}
use Rattle.definition.specs.State.{started}
use Rattle.definition.specs.Item.{Step, record_size, words}
use Rattle.lemmas.specs.Over.{Wrote}
use Rattle.either_run.specs.Either.{first_of, EitherOutcome, either_refusal, either_items}
use Rattle.either_run.specs.declared.Saved.{Saved}
use Rattle.listing_lines.specs.Line.{line, lines}
use Rattle.listing_rounds.specs.declared.rounds.Round.{Round}

-- the state that a listing begins with, of either run: its nine numbers are line 1, column 0
abbrev pub AtFirst : Saved → Type 0
AtFirst from = first_of from ≡ started 1 0

-- a text that is listed, and its start
pub record Begun (s : Bytes) (from : Saved) : Type 0 where
  pub short : length s ≤ 60000
  pub is : AtFirst from

-- records for 1,024 items, a payload that has room for any of a listed text, and room for the items' lines
pub record Lent (rs : List ℕ) (ps out : Bytes) : Type 0 where
  pub records : length rs ≡ 1024 * record_size
  pub payload : length ps ≡ 262144
  pub lines : length out ≡ 108544

-- a run with the answer r was refused with this number, and the buffer is as it was
pub record Refuses (r : RunAnswer Saved) (before : Bytes) (number : ℕ) (after : Bytes) : Type 0 where
  pub refusal : r.refusal ≡ number
  pub some : number ≡ 0 → ⊥
  pub same : after ≡ before

-- the lines of the items of a run with the answer r and the records rs, and nothing else, were written to the buffer
pub record Lists (r : RunAnswer Saved) (rs : List ℕ) (before : Bytes) (bytes items stop : ℕ) (next : Saved) (after : Bytes) : Type 0 where
  pub taken : r.refusal ≡ 0
  pub all_items : items ≡ r.count
  pub reason : stop ≡ r.stop
  pub state : next ≡ r.state
  pub written : Wrote (lines r.count rs) before after bytes

-- what is told of a run with the answer r and the records rs, and left in the buffer
unfoldable pub Told : RunAnswer Saved → List ℕ → Bytes → Result Round ℕ → Bytes → Type 0
Told r rs before (Err number) after = Refuses r before number after
Told r rs before (Ok x) after = Lists r rs before x.bytes x.items x.stop x.next after

-- what a round answers, and leaves in the buffer
abbrev pub Rounded : EitherOutcome → Bytes → Result Round ℕ → Bytes → Type 0
Rounded o = Told o.0 o.1

-- the lines of items; word 6, which no line shows, is 0 here
unfoldable pub lines_of : List Step → Bytes
lines_of [] = []
lines_of (t ∷ ts) = line (words t.item 0) ++ lines_of ts

-- the lines of all items of a text from a state on
abbrev pub listing : Bytes → Bytes → Bytes → Saved → Bytes
listing s name f from = lines_of (either_items s name f from)

-- how a listing ends: with the number of a refusal, or with the count of all items
abbrev pub Ending : Type 0
Ending = Result ℕ ℕ

-- how a listing from a state on ends
abbrev pub Ends : Bytes → Bytes → Bytes → Saved → Ending → Type 0
Ends s name f from (Err number) = (number ≡ either_refusal s name f from) × (number ≡ 0 → ⊥)
Ends s name f from (Ok count) = (either_refusal s name f from ≡ 0) × (count ≡ length (either_items s name f from))

-- a line of a word and a number
abbrev pub told : Bytes → ℕ → Bytes
told word number = word ++ (codes " " ++ (decimal number ++ codes "\n"))

-- what a listing that ends so writes before its last line: nothing where it is refused
abbrev pub before_last : Bytes → Bytes → Bytes → Saved → Ending → Bytes
before_last s name f from (Err number) = []
before_last s name f from (Ok count) = listing s name f from

-- its last line
abbrev pub last_line : Ending → Bytes
last_line (Err number) = told (codes "REFUSED") number
last_line (Ok count) = told (codes "END") count
