-- Actions that stand for what a rule gives. Rests on nothing.
use Prim.Native.Nat.{ℕ}
use mathlib.Core.Path.{◌≡◌, refl, sym, ap, ◌∙◌}
use mathlib.Core.List.{[]}
use lib.ListN.{length}
use Rattle.definition.specs.Basics.{Bytes, done}
use Rattle.definition.specs.Position.{pos_of, cur_pos}
use Rattle.definition.specs.Item.{lex_error}
use Rattle.definition.specs.Comment.{line_comment}
use Rattle.definition.specs.Token.{TokenTurn}
use Rattle.definition.specs.declared.Extra.TheVariants.{NoExtra}
use Rattle.reader.specs.Described.{Sized, Describes}
use Rattle.reader.specs.declared.Cursor.{Cursor}
use Rattle.reader.specs.declared.Payload.{Payload}
use Rattle.reader.specs.declared.actions.Action.{Action}
use Rattle.reader.specs.declared.actions.Action.TheVariants.{Token, Error, LineComment}
use Rattle.reader.specs.Actions.{spanned, Spans, Described, Rules}

-- what describes some bytes describes what it stands for
stands_for : {s name : Bytes} {p : Payload} {bytes : Bytes} → ((f : Bytes) → Describes s name f p bytes) → Described s name p
stands_for d f = record { is = refl; long = (d f).long ∙ ap length (sym (d f).is); inside = (d f).inside }

module _ {s name : Bytes} {at : Cursor} {e : ℕ} {t : TokenTurn} where
  module _ {p : Payload} (bytes : Bytes) (d : (f : Bytes) → Describes s name f p bytes) where
    -- a token
    pub token_rules : {k i to : ℕ} → Spans s name at i to p → t ≡ done (spanned s at.st i to k bytes NoExtra) → Rules s name at e t (Token k i to p)
    token_rules {k} {i} {to} h q = record {
      is = λ f. q ∙ ap (λ (b : Bytes). done (spanned s at.st i to k b NoExtra)) (sym (d f).is);
      fits = (h, stands_for d);
    }

    -- an error
    pub error_rules : {n : ℕ} → Sized name p → t ≡ done (lex_error s at.st n bytes (cur_pos s at.st) (pos_of s at.st e)) → Rules s name at e t (Error n p)
    error_rules {n} h q = record {
      is = λ f. q ∙ ap (λ (b : Bytes). done (lex_error s at.st n b (cur_pos s at.st) (pos_of s at.st e))) (sym (d f).is);
      fits = (h, stands_for d);
    }

  -- a line's comment
  pub line_rules : t ≡ done (line_comment s at.st.offset [] at.st) → Rules s name at e t LineComment
  line_rules q = record { is = λ f. q; fits = tt }

  -- what stands for a rule stands for what is the same
  pub rules_same : {u : TokenTurn} {r : Action} → t ≡ u → Rules s name at e u r → Rules s name at e t r
  rules_same q h = record { is = λ f. q ∙ h.is f; fits = h.fits }
