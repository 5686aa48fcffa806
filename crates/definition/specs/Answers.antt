-- What the operations answer, in document 01's numbers; and for each answer of the code, a Result or an enum, its number and the values
-- beside it.
use Rattle.std.specs.Prelude.{ℕ, List, ◌++◌, codes, decimal, Result, Ok, Err}
use Rattle.definition.specs.declared.answers.StartRefusal.{StartRefusal}
use Rattle.definition.specs.declared.answers.StartRefusal.TheVariants.{Line, Column}
use Rattle.definition.specs.declared.answers.ClassRefusal.{ClassRefusal}
use Rattle.definition.specs.declared.answers.ClassRefusal.TheVariants.{Length, Layout, Ranges}
use Rattle.definition.specs.declared.answers.RunRefusal.{RunRefusal}
use Rattle.definition.specs.declared.answers.RunRefusal.TheVariants.{TextLength, NameLength, Classes, IllFormed, UnsoundState, LineZero}
use Rattle.definition.specs.declared.answers.Stop.{Stop}
use Rattle.definition.specs.declared.answers.Stop.TheVariants.{End, RecordsFull, PayloadFull}
use Rattle.definition.specs.declared.answers.Ran.{Ran}

-- ---- the answers. S is the saved state: `State` of the first run, `Utf16State` of the second

-- start's: a refusal number with a state of zeros, or 0 with the state
pub record StartAnswer (S : Type 0) : Type 0 where
  pub refusal : ℕ
  pub state : S

-- run's: a refusal number (and for refusal 8 the offset of the first byte where no legal sequence starts) with the state given, or 0 with
-- the stop, the count of whole items and the state after them
pub record RunAnswer (S : Type 0) : Type 0 where
  pub refusal : ℕ
  pub offset : ℕ
  pub stop : ℕ
  pub count : ℕ
  pub state : S

-- ---- the numbers

abbrev pub start_number : StartRefusal → ℕ
start_number Line = 1
start_number Column = 2

abbrev pub class_number : ClassRefusal → ℕ
class_number Length = 3
class_number Layout = 4
class_number Ranges = 5

abbrev pub run_number : RunRefusal → ℕ
run_number TextLength = 6
run_number NameLength = 7
run_number (Classes r) = class_number r
run_number (IllFormed offset) = 8
run_number UnsoundState = 9
run_number LineZero = 10

-- the offset, which only refusal 8 has
abbrev pub run_offset : RunRefusal → ℕ
run_offset TextLength = 0
run_offset NameLength = 0
run_offset (Classes r) = 0
run_offset (IllFormed offset) = offset
run_offset UnsoundState = 0
run_offset LineZero = 0

abbrev pub stop_number : Stop → ℕ
stop_number End = 0
stop_number RecordsFull = 1
stop_number PayloadFull = 2

-- ---- what a Result says

-- of a start; `zeros` is the state that a refused one gives
abbrev pub start_said : {S : Type 0} → S → Result S StartRefusal → StartAnswer S
start_said zeros (Ok st) = record { refusal = 0; state = st }
start_said zeros (Err r) = record { refusal = start_number r; state = zeros }

-- of a class check
abbrev pub check_said : Result Unit ClassRefusal → ℕ
check_said (Ok _) = 0
check_said (Err r) = class_number r

-- of what refuses a run: the refusal's number and offset
abbrev pub refusal_said : Result Unit RunRefusal → ℕ × ℕ
refusal_said (Ok _) = (0, 0)
refusal_said (Err r) = (run_number r, run_offset r)

-- of a run that isn't refused
abbrev pub ran_said : {S : Type 0} → Ran S → RunAnswer S
ran_said r = record { refusal = 0; offset = 0; stop = stop_number r.stop; count = r.count; state = r.state }

-- of a run from the state st. "Any refusal .. hands back the given state, no items and stop 0"
abbrev pub run_said : {S : Type 0} → S → Result (Ran S) RunRefusal → RunAnswer S
run_said st (Ok r) = ran_said r
run_said st (Err r) = record { refusal = run_number r; offset = run_offset r; stop = 0; count = 0; state = st }

-- ---- what a refusal says in words

abbrev pub start_words : StartRefusal → List ℕ
start_words Line = codes "the line is above 1,000,000"
start_words Column = codes "the column is above 1,000,000"

abbrev pub class_words : ClassRefusal → List ℕ
class_words Length = codes "the class file has fewer than 48 or more than 65,536 bytes"
class_words Layout = codes "the class file has a wrong offset or length"
class_words Ranges = codes "the class file has a range that is out of order or ends above U+10FFFF"

abbrev pub run_words : RunRefusal → List ℕ
run_words TextLength = codes "the text has more than 1,048,576 bytes"
run_words NameLength = codes "the name has more than 4,096 bytes"
run_words (Classes r) = class_words r
run_words (IllFormed offset) = codes "ill-formed UTF-8 at offset " ++ decimal offset
run_words UnsoundState = codes "the saved state is unsound"
run_words LineZero = codes "the saved state has a line 0"
