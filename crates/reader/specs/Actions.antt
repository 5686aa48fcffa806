-- What an action on a choice stands for, and what is asked where it is carried out. s is the text, name the file's name, f the class
-- file, at the cursor where the reader stands, e the choice's end.
use Rattle.std.specs.Prelude.{ℕ, ◌≤◌, ◌≡◌, [], length}
use Prim.Native.String.{String}
use Rattle.definition.specs.Basics.{Bytes, done}
use Rattle.definition.specs.Kinds.{kind}
use Rattle.definition.specs.Position.{pos_of, cur_pos}
use Rattle.definition.specs.State.{advance}
use Rattle.definition.specs.Item.{Step, tok, lex_error}
use Rattle.definition.specs.Comment.{line_comment}
use Rattle.definition.specs.Token.{TokenTurn}
use Rattle.definition.specs.declared.State.{State}
use Rattle.definition.specs.declared.Extra.{Extra}
use Rattle.definition.specs.declared.Extra.TheVariants.{NoExtra}
use Rattle.state.specs.Sound.{Stands}
use Rattle.laws_progress.specs.Walks.{Onward}
use Rattle.reader.specs.Described.{bytes_of, Sized, Describes}
use Rattle.reader.specs.Standing.{Standing}
use Rattle.reader.specs.declared.Cursor.{Cursor}
use Rattle.reader.specs.declared.Payload.{Payload}
use Rattle.reader.specs.declared.actions.Action.{Action}
use Rattle.reader.specs.declared.actions.Action.TheVariants.{Token, Error, LineComment}

-- a token that is read from st up to e, and whose position is that of i
abbrev pub spanned : Bytes → State → ℕ → ℕ → ℕ → Bytes → Extra → Step
spanned s st i e k text extra = let next = advance st e in tok k text st.offset (pos_of s st i) (cur_pos s next) extra next

-- a choice that ends at e was made where the reader stands, between comments
pub record Chose (s : Bytes) (at : Cursor) (e : ℕ) : Type 0 where
  pub standing : Standing s at.st at.known
  pub between : at.st.mode ≡ 0
  pub onward : Onward s at.st.offset e

-- what a token up to e asks for, whose position is that of i
pub record Spans (s name : Bytes) (at : Cursor) (i e : ℕ) (p : Payload) : Type 0 where
  pub standing : Standing s at.st at.known
  pub from : at.st.bol ≤ i
  pub within : i ≤ length s
  pub next : Stands s (advance at.st e)
  pub sized : Sized name p

-- p describes the bytes that it stands for: they lie in the text, and are as many as it says
abbrev pub Described : Bytes → Bytes → Payload → Type 0
Described s name p = (f : Bytes) → Describes s name f p (bytes_of s name f p)

-- the step of the definition that an action stands for
abbrev pub action_step : Bytes → Bytes → Bytes → State → ℕ → Action → Step
action_step s name f st e (Token k i to p) = spanned s st i to k (bytes_of s name f p) NoExtra
action_step s name f st e (Error n p) = lex_error s st n (bytes_of s name f p) (cur_pos s st) (pos_of s st e)
action_step s name f st e LineComment = line_comment s st.offset [] st

-- what carrying it out asks for, besides that the choice was made
abbrev pub Fits : Bytes → Bytes → Cursor → Action → Type 0
Fits s name at (Token k i to p) = Spans s name at i to p × Described s name p
Fits s name at (Error n p) = Sized name p × Described s name p
Fits s name at LineComment = Unit {0}

-- r stands for what the definition's rule t gives, whatever the class file is, and can be carried out
pub record Rules (s name : Bytes) (at : Cursor) (e : ℕ) (t : TokenTurn) (r : Action) : Type 0 where
  pub is : (f : Bytes) → t ≡ done (action_step s name f at.st e r)
  pub fits : Fits s name at r

-- what a rule gives that makes a token of a kind, k being its number
abbrev pub RulesOf : Bytes → Cursor → ℕ → ℕ → (String → TokenTurn) → Action → Type 0
RulesOf s at e k t r = (name : Bytes) (x : String) → k ≡ kind x → Rules s name at e (t x) r
