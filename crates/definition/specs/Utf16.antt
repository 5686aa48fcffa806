-- Document 02, K2: "a second run that gives the same items, payloads unchanged", with the positions of an editor: lines from 0, columns in
-- UTF-16 units. So an item of this run is the first run's, and each of its positions is that of the same place, counted by another weight.
-- s is the text, name the file's name, f the class file, g the saved state of this run, w the weight; rs and ps are the lent buffers.
use Rattle.std.specs.Prelude.{ℕ, zero, suc, ◌-◌, Bool, true, false, ◌&&◌, ◌||◌, List, [], ◌∷◌, ◌++◌, ltb, eqb, if◌then◌else◌}
use Rattle.definition.specs.Basics.{Bytes, again, done, loop, fuel}
use Rattle.definition.specs.Text.{after}
use Rattle.definition.specs.Position.{Weight, col_by}
use Rattle.definition.specs.Answers.{StartAnswer, RunAnswer}
use Rattle.definition.specs.State.{state_words, sound, start, nine_zeros}
use Rattle.definition.specs.Item.{Step}
use Rattle.definition.specs.Token.{token_turn, step}
use Rattle.definition.specs.Run.{put, run_items, refusal}
use Rattle.definition.specs.Items.{records_of}
use Rattle.definition.specs.declared.Pos.{Pos}
use Rattle.definition.specs.declared.State.{State}
use Rattle.definition.specs.declared.Item.{Item}
use Rattle.definition.specs.declared.Extra.{Extra}
use Rattle.definition.specs.declared.Extra.TheVariants.{NoExtra, CharLit, Blob, LexError, Comment}
use Rattle.definition.specs.declared.Utf16State.{Utf16State}

-- "A character above U+FFFF counts two units, any other counts one."
unfoldable pub utf16 : Weight
utf16 c = elim (ltb 0xFFFF c) [ true ↦ 2 | false ↦ 1 ]

-- ---- the saved state, which "holds both columns, of the line start and of the comment start"

-- the eleven numbers: document 01's nine, and then the second columns (their order: docs/DECISIONS.md)
abbrev pub utf16_state_words : Utf16State → List ℕ
utf16_state_words g = state_words g.first ++ (g.column ∷ g.comment ∷ [])

-- a state with another column of its line start
abbrev pub with_column : State → ℕ → State
with_column st column = record {
  offset = st.offset;
  line = st.line;
  bol = st.bol;
  column = column;
  comments = st.comments;
  mode = st.mode;
  depth = st.depth;
  comment = st.comment;
}

-- the nine numbers, with both second columns in the places of the first
abbrev pub by_second : Utf16State → State
by_second g = record {
  offset = g.first.offset;
  line = g.first.line;
  bol = g.first.bol;
  column = g.column;
  comments = g.first.comments;
  mode = g.first.mode;
  depth = g.first.depth;
  comment = record { line = g.first.comment.line; col = g.comment };
}

-- ---- positions

-- the offset after n characters from byte i on
unfoldable pub skip_chars : Bytes → ℕ → ℕ → ℕ
skip_chars s i zero = i
skip_chars s i (suc n) = skip_chars s (after s i) n

-- the place of a position p on the line that a state a is on: so many characters after the line's start as its column is greater
abbrev pub place_of : Bytes → State → Pos → ℕ
place_of s a p = skip_chars s a.bol (p.col - a.column)

-- the second position of that place, where the line's start has the second column `column`: "Lines are the lexer's own less one, and columns
-- count from its line starts". The column rule is the one of the first run, `col_of`, with another weight
abbrev pub second_pos : Weight → Bytes → State → ℕ → Pos → Pos
second_pos w s a column p = record { line = p.line - 1; col = col_by w s (with_column a column) (place_of s a p) }

-- ---- items

-- where `next_token` gives its item: after what it skips
unfoldable pub chosen_at : Bytes → Bytes → Bytes → State → State
chosen_at s name f st = loop (λ a. elim (token_turn s name f a) [ again b ↦ again b | done t ↦ done a ]) (λ a. a) (fuel s) st

-- where a step gives its item; in a comment nothing is skipped
unfoldable pub given_at : Bytes → Bytes → Bytes → State → State
given_at s name f st = elim (eqb st.mode 1) [ true ↦ st | false ↦ chosen_at s name f st ]

-- the second column of the line's start, in a state a that the next step from g comes to: g's own on g's line, 0 on every line that begins
-- later, as `new_line` sets the first
abbrev pub column_in : Utf16State → State → ℕ
column_in g a = if eqb a.line g.first.line then g.column else 0

-- the second position of p, which an item has that is given at a, where the state after it is `next`: p is on the line of one of the two
unfoldable pub second : Weight → Bytes → Utf16State → State → State → Pos → Pos
second w s g a next p = let b = if eqb p.line a.line then a else next in second_pos w s b (column_in g b) p

-- the same for the start of an item: in a comment it is the comment's start, whose second column is in the state
unfoldable pub second_start : Weight → Bytes → Utf16State → State → State → Pos → Pos
second_start w s g a next p =
    elim (eqb g.first.mode 1) [
      | true ↦ record { line = p.line - 1; col = g.comment }
      | false ↦ second w s g a next p
    ]

-- "those positions" are all that an item has: words 2 to 5, and of blobs and errors words 11 to 14
abbrev pub second_extra : (Pos → Pos) → Extra → Extra
second_extra q NoExtra = NoExtra
second_extra q (CharLit c) = CharLit c
second_extra q (Blob n pos snap) = Blob n (q pos) (q snap)
second_extra q (LexError n p1 p2) = LexError n (q p1) (q p2)
second_extra q (Comment closed) = Comment closed

abbrev pub second_item : Pos → (Pos → Pos) → Item → Item
second_item sp q t = record {
  kind = t.kind;
  sp = sp;
  ep = q t.ep;
  length = t.length;
  comments = t.comments;
  extra = second_extra q t.extra;
  from = t.from;
  to = t.to;
}

-- a step from g: the first run's, but for its item's positions. "Comment trimming still goes by characters": the payload is the first run's
unfoldable pub second_step : Weight → Bytes → Bytes → Bytes → Utf16State → Step
second_step w s name f g =
    let st = g.first in
    let t = step s name f st in
    let a = given_at s name f st in
    record {
      item = second_item (second_start w s g a t.next t.item.sp) (second w s g a t.next) t.item;
      payload = t.payload;
      next = t.next;
    }

-- the state after it; in a comment, where it has begun is where its last piece has begun
unfoldable pub second_next : Weight → Bytes → Bytes → Bytes → Utf16State → Utf16State
second_next w s name f g =
    let t = second_step w s name f g in
    record { first = t.next; column = column_in g t.next; comment = if eqb t.next.mode 1 then t.item.sp.col else 0 }

-- n steps one after another from g, and the state after them
unfoldable pub second_steps : Weight → Bytes → Bytes → Bytes → ℕ → Utf16State → List Step
second_steps w s name f zero g = []
second_steps w s name f (suc n) g = second_step w s name f g ∷ second_steps w s name f n (second_next w s name f g)

unfoldable pub second_after : Weight → Bytes → Bytes → Bytes → ℕ → Utf16State → Utf16State
second_after w s name f zero g = g
second_after w s name f (suc n) g = second_after w s name f n (second_next w s name f g)

-- ---- start

-- a refused start gives eleven zeros
abbrev pub utf16_zeros : Utf16State
utf16_zeros = record { first = nine_zeros; column = 0; comment = 0 }

-- "Its start puts the given column in both": in both columns of the line start
unfoldable pub utf16_start : ℕ → ℕ → StartAnswer Utf16State
utf16_start line column =
    let a = start line column in
    record { refusal = a.refusal; state = record { first = a.state; column = a.state.column; comment = 0 } }

-- ---- refusals

-- "10 when the state's line, or in mode 1 its comment start line, is 0"
unfoldable pub line_zero : Utf16State → Bool
line_zero g = let st = g.first in eqb st.line 0 || (eqb st.mode 1 && eqb st.comment.line 0)

-- the first run's refusals; then 9 too, as "each second column obeys every rule of the first"; 10 is "tested after 9"
unfoldable pub utf16_refusal : Bytes → Bytes → Bytes → Utf16State → ℕ × ℕ
utf16_refusal s name f g =
    let r = refusal s name f g.first in
    elim (eqb r.0 0) [
      | true ↦ if sound s (by_second g) then (if line_zero g then (10, 0) else (0, 0)) else (9, 0)
      | false ↦ r
    ]

-- ---- the run

-- the answer, and both buffers
abbrev pub Utf16Outcome : Type 0
Utf16Outcome = RunAnswer Utf16State × List ℕ × Bytes

abbrev pub utf16_answer : ℕ × ℕ → ℕ → ℕ → Utf16State → RunAnswer Utf16State
utf16_answer (number, offset) stop count g = record { refusal = number; offset = offset; stop = stop; count = count; state = g }

-- as many items as the first run writes from the nine numbers, with these positions; all else is the first run's
unfoldable pub utf16_run : Bytes → Bytes → Bytes → Utf16State → List ℕ → Bytes → Utf16Outcome
utf16_run s name f g rs ps =
    let r = utf16_refusal s name f g in
    elim (eqb r.0 0) [
      | true ↦
          let o = run_items s name f g.first rs ps in
          let n = o.0.count in
          (utf16_answer (0, 0) o.0.stop n (second_after utf16 s name f n g), put rs 0 (records_of 0 (second_steps utf16 s name f n g)), o.2)
      | false ↦ (utf16_answer r 0 0 g, rs, ps)
    ]
