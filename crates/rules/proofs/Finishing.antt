-- What is built of an action is what it stands for. Rests on the definitions alone.
use Prim.Native.Nat.{ℕ}
use mathlib.Core.Path.{◌≡◌}
use lib.Seq.{slice_empty}
use Rattle.definition.specs.Basics.{Bytes}
use Rattle.definition.specs.Text.{lexeme}
use Rattle.definition.specs.Position.{pos_of, cur_pos}
use Rattle.definition.specs.Item.{lex_error}
use Rattle.definition.specs.Comment.{line_comment}
use Rattle.definition.specs.declared.Extra.TheVariants.{NoExtra}
use Rattle.reader.specs.Described.{bytes_of, Describes, Reads}
use Rattle.reader.specs.declared.Cursor.{Cursor}
use Rattle.reader.specs.declared.Payload.{Payload}
use Rattle.reader.specs.declared.Read.{Read}
use Rattle.read_comment.specs.LineCommentContracts.{ReadsAny}
use Rattle.reader.specs.Actions.{spanned, Chose, action_step, Fits}
use Rattle.reader.specs.declared.actions.Action.{Action}
use Rattle.reader.specs.declared.actions.Action.TheVariants.{Token, Error, LineComment}

-- the action x on a choice that ends at e is carried out
abbrev Carried : Bytes → Bytes → Cursor → ℕ → Action → Read → Type 0
Carried s name at e x r = (f : Bytes) → Reads s name f (action_step s name f at.st e x) r

module _ {s name : Bytes} {at : Cursor} {e : ℕ} {r : Read} (h : Chose s at e) (x : Action) where
  pub token_finished : {k i to : ℕ} {p : Payload} → x ≡ Token k i to p → Fits s name at x
      → ((f bytes : Bytes) → Describes s name f p bytes → Reads s name f (spanned s at.st i to k bytes NoExtra) r) → Carried s name at e x r
  token_finished {k} {i} {to} {p} q asked build f =
      let fits = rw q at asked in
      rw q (build f (bytes_of s name f p) (fits.1 f))

  pub error_finished : {n : ℕ} {p : Payload} → x ≡ Error n p → Fits s name at x
      → ((f bytes : Bytes) → Describes s name f p bytes → Reads s name f (lex_error s at.st n bytes (cur_pos s at.st) (pos_of s at.st e)) r) → Carried s name at e x r
  error_finished {n} {p} q asked build f =
      let fits = rw q at asked in
      rw q (build f (bytes_of s name f p) (fits.1 f))

  pub line_finished : x ≡ LineComment → ReadsAny s (line_comment s at.st.offset (lexeme s at.st.offset at.st.offset) at.st) r → Carried s name at e x r
  line_finished q c f = rw (q, ← slice_empty at.st.offset s) (c name f)
