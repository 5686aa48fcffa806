-- What stands ahead of a reader, and which item that is. s is the text, name the file's name, f the class file, at the cursor where the
-- reader stands, here the one after white space and line ends.
use Rattle.std.specs.Prelude.{◌≤◌, ◌≡◌, Bool, List, length}
use Rattle.definition.specs.Basics.{Bytes}
use Rattle.definition.specs.Select.{select}
use Rattle.definition.specs.Comment.{comment}
use Rattle.definition.specs.Item.{Step}
use Rattle.definition.specs.Token.{next_token}
use Rattle.definition.specs.Utf16.{chosen_at}
use Rattle.definition.specs.declared.Choice.{Choice}
use Rattle.definition.specs.declared.State.{State}
use Rattle.select.specs.Standing.{Lent}
use Rattle.reader.specs.Standing.{Standing}
use Rattle.reader.specs.declared.Cursor.{Cursor}
use Rattle.reader.specs.Actions.{Chose, Fits, action_step}
use Rattle.rule_table.specs.Rules.{rule_of}
use Rattle.rule_table.specs.declared.table.Rule.{Rule}
use Rattle.rule_table.specs.declared.table.Rule.TheVariants as rules
use Rattle.lookahead.specs.declared.Lookahead.{Lookahead}
use Rattle.lookahead.specs.declared.Lookahead.TheVariants as lookahead
use Rattle.lookahead.specs.declared.NextItem.{NextItem}
use Rattle.lookahead.specs.declared.NextItem.TheVariants.{ByReader, ByAction, InComment}

-- a reader stands between comments, with what is lent to `select`
pub record Looks (s f : Bytes) (ops symbols : List Bool) (at : Cursor) : Type 0 where
  pub standing : Standing s at.st at.known
  pub between : at.st.mode ≡ 0
  pub lent : Lent f ops symbols

-- a choice with its rule, made where a reader stands between comments
pub record Faces (s f : Bytes) (here : Cursor) (c : Choice) (rule : Rule) : Type 0 where
  pub standing : Standing s here.st here.known
  pub between : here.st.mode ≡ 0
  pub chosen : c ≡ select s f here.st.offset
  pub ruled : rule_of c.place ≡ rule

-- such a choice, where the item read from there is the one read from `at`, and is given there
pub record SeesRule (s f : Bytes) (at here : Cursor) (c : Choice) (rule : Rule) : Type 0 where
  pub faces : Faces s f here c rule
  pub same : (name : Bytes) → length name ≤ 4096 → next_token s name f here.st ≡ next_token s name f at.st
  pub given : (name : Bytes) → length name ≤ 4096 → here.st ≡ chosen_at s name f at.st

-- r is such a choice
abbrev pub Sees : Bytes → Bytes → Cursor → Lookahead → Type 0
Sees s f at (lookahead.Action here c rule) = SeesRule s f at here c (rules.Action rule)
Sees s f at (lookahead.Reader here c rule) = SeesRule s f at here c (rules.Reader rule)

-- ---- the next item

-- the step of the definition that it stands for
abbrev pub ahead_step : Bytes → Bytes → Bytes → State → NextItem → Step
ahead_step s name f st (ByReader c rule) = next_token s name f st
ahead_step s name f st (ByAction e x) = action_step s name f st e x
ahead_step s name f st InComment = comment s st.offset st

-- what reading it asks for
abbrev pub Readable : Bytes → Bytes → Bytes → Cursor → NextItem → Type 0
Readable s name f here (ByReader c rule) = Faces s f here c (rules.Reader rule)
Readable s name f here (ByAction e x) = Chose s here e × Fits s name here x
Readable s name f here InComment = Standing s here.st here.known × (here.st.mode ≡ 1)
