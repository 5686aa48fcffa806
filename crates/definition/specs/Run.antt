-- `run`, the third of document 01's operations: refusals, stops, and both lent buffers after it.
-- s is the text, name the file's name, f the class file; rs is the records' buffer, ps the payload's.
use Rattle.std.specs.Prelude.{ℕ, ◌+◌, ◌-◌, ◌*◌, Bool, true, false, List, ◌++◌, ltb, eqb, length, take, drop, if◌then◌else◌}
use Rattle.definition.specs.Basics.{Bytes, Turn, again, done, loop}
use Rattle.definition.specs.Text.{first_bad}
use Rattle.definition.specs.ClassFile.{class_check}
use Rattle.definition.specs.Answers.{RunAnswer}
use Rattle.definition.specs.State.{sound}
use Rattle.definition.specs.Item.{Step, record_size, words}
use Rattle.definition.specs.Token.{step}
use Rattle.definition.specs.declared.State.{State}

-- the answer, and both buffers
abbrev pub Outcome : Type 0
Outcome = RunAnswer State × List ℕ × Bytes

-- ---- buffers

-- l with the elements from index `at` on replaced by vs
unfoldable pub put : List ℕ → ℕ → List ℕ → List ℕ
put l at vs = take at l ++ (vs ++ drop (at + length vs) l)

-- ---- items

-- where a run stands: the state, both buffers, and how many items and payload bytes are written
pub record Writing : Type 0 where
  pub state : State
  pub records : List ℕ
  pub payload : Bytes
  pub count : ℕ
  pub used : ℕ

abbrev pub stopped : ℕ → Writing → Outcome
stopped stop a = (record { refusal = 0; offset = 0; stop = stop; count = a.count; state = a.state }, a.records, a.payload)

-- an item written from the first free number, its payload from the first free byte
abbrev pub written : Writing → Step → Writing
written a t = record {
  state = t.next;
  records = put a.records (record_size * a.count) (words t.item a.used);
  payload = put a.payload a.used t.payload;
  count = a.count + 1;
  used = a.used + length t.payload;
}

-- the end is stop 0, by document 02 "fewer than 18 numbers left" stop 1, "a payload longer than the bytes left" stop 2; "1 goes before 2"
unfoldable pub run_turn : Bytes → Bytes → Bytes → Writing → Turn Writing Outcome
run_turn s name f a =
    elim (eqb a.state.mode 2) [
      | true ↦ done (stopped 0 a)
      | false ↦ elim (ltb (length a.records - record_size * a.count) record_size) [
        | true ↦ done (stopped 1 a)
        | false ↦
            let t = step s name f a.state in
            elim (ltb (length a.payload - a.used) (length t.payload)) [
              | true ↦ done (stopped 2 a)
              | false ↦ again (written a t)
            ]
      ]
    ]

-- each item but the last reads a byte or more or leaves a level of a comment; a level's opening is two bytes
abbrev pub most_items : Bytes → State → ℕ
most_items s st = length s - st.offset + st.depth + 2

unfoldable pub run_items : Bytes → Bytes → Bytes → State → List ℕ → Bytes → Outcome
run_items s name f st rs ps =
    loop (run_turn s name f) (stopped 0) (most_items s st) (record { state = st; records = rs; payload = ps; count = 0; used = 0 })

-- ---- refusals

unfoldable pub text_too_long : ℕ → Bool
text_too_long n = ltb 1048576 n

unfoldable pub name_too_long : ℕ → Bool
name_too_long n = ltb 4096 n

-- the refusal of a run, and refusal 8's offset; 0 for a run that is not refused
unfoldable pub refusal : Bytes → Bytes → Bytes → State → ℕ × ℕ
refusal s name f st =
    elim (text_too_long (length s)) [
      | true ↦ (6, 0)
      | false ↦ elim (name_too_long (length name)) [
        | true ↦ (7, 0)
        | false ↦ elim (eqb (class_check f) 0) [
          | false ↦ (class_check f, 0)
          | true ↦ elim (ltb (first_bad s) (length s)) [
            | true ↦ (8, first_bad s)
            | false ↦ if sound s st then (0, 0) else (9, 0)
          ]
        ]
      ]
    ]

-- "Any refusal alters no lent buffer and hands back the given state, no items and stop 0"
abbrev pub refused : ℕ × ℕ → State → RunAnswer State
refused (number, offset) st = record { refusal = number; offset = offset; stop = 0; count = 0; state = st }

unfoldable pub run : Bytes → Bytes → Bytes → State → List ℕ → Bytes → Outcome
run s name f st rs ps =
    let r = refusal s name f st in
    elim (eqb r.0 0) [
      | true ↦ run_items s name f st rs ps
      | false ↦ (refused r st, rs, ps)
    ]
