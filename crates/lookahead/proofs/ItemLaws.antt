-- A choice whose rule neither passes white space nor a line end gives an item, and so does the text's end. Rests on the table of rules.
use Rattle.std.specs.Prelude.{Option, Some, None}
use Prim.Native.Nat.{ℕ}
use Prim.Native.String.{String}
use mathlib.Core.Path.{◌≡◌, refl, ap, subst, sym, ◌∙◌}
use mathlib.Core.List.{List}
use lib.Dec.{eqb}
use lib.ListN.{length}
use Rattle.definition.specs.Basics.{Bytes, done}
use Rattle.definition.specs.Text.{lexeme}
use Rattle.definition.specs.Tables.{Entry, find, constructors, keywords, uoperators}
use Rattle.definition.specs.Kinds.{kind}
use Rattle.definition.specs.Matchers.{no_comment}
use Rattle.definition.specs.Numbers.{clean_number, int_of_string}
use Rattle.definition.specs.Item.{Step}
use Rattle.definition.specs.Select.{select}
use Rattle.definition.specs.Token.{TokenTurn, reserved_prefix, starts_with, finish, finish_entry, finish_word, act, token_turn}
use Rattle.definition.specs.declared.Choice.{Choice}
use Rattle.definition.specs.declared.State.{State}
use Rattle.lemmas.proofs.Cases.{by_test, by_lt, by_le}
use Rattle.rule_table.specs.Rules.{rule_of, action_does, reader_does, does}
use Rattle.rule_table.specs.declared.table.Rule.{Rule}
use Rattle.rule_table.specs.declared.table.Rule.TheVariants.{White, Newline, Action, Reader}
use Rattle.rule_table.specs.declared.table.ActionRule.{ActionRule}
use Rattle.rule_table.specs.declared.table.ActionRule.TheVariants.{Plain, KwOp, Ident, Constructor, Number, UInt8, BadNumber, Gt, Op, UOperator}
use Rattle.rule_table.specs.declared.table.ReaderRule.{ReaderRule}
use Rattle.rule_table.specs.declared.table.ReaderRule.TheVariants.{TripleBacktick, Lang, CharLit, CommentStart, LineComment, StringLit, Any}
use Rattle.rules.proofs.RuleLaws.{act_is, chosen_tabled}

-- a turn gives an item
pub record Gives (t : TokenTurn) : Type 0 where
  pub item : Step
  pub is : t ≡ done item

-- the rules that do
abbrev pub GivesItem : Rule → Type 0
GivesItem White = ⊥
GivesItem Newline = ⊥
GivesItem (Action r) = Unit {0}
GivesItem (Reader r) = Unit {0}

module _ (s name f : Bytes) (st : State) where
  word_gives : (e : ℕ) (table : List Entry) (k : String) → Gives (finish_word s st e table k)
  word_gives e table k = go (find (lexeme s st.offset e) table)
    where
      go : (x : Option Entry) → Gives (elim x [ Some y ↦ finish_entry s st e y | None ↦ finish s st e (kind k) (lexeme s st.offset e) ])
      go (Some y) = record { item = _; is = refl }
      go None = record { item = _; is = refl }

  action_gives : (r : ActionRule) (k e w : ℕ) → Gives (action_does s name r st k e w)
  action_gives Plain k e w = record { item = _; is = refl }
  action_gives KwOp k e w = record { item = _; is = refl }
  action_gives Ident k e w =
      by_test Gives (starts_with (lexeme s st.offset e) reserved_prefix) (λ _. record { item = _; is = refl }) (λ _. word_gives e keywords "IDENT")
  action_gives Constructor k e w = word_gives e constructors "NAME"
  action_gives Number k e w = record { item = _; is = refl }
  action_gives UInt8 k e w =
      by_lt Gives 255 (int_of_string (clean_number (lexeme s st.offset e))) (λ _. record { item = _; is = refl }) (λ _. record { item = _; is = refl })
  action_gives BadNumber k e w = record { item = _; is = refl }
  action_gives Gt k e w = record { item = _; is = refl }
  action_gives Op k e w =
      by_test Gives (eqb (no_comment s st.offset e) st.offset) (λ _. record { item = _; is = refl }) (λ _. record { item = _; is = refl })
  action_gives UOperator k e w = word_gives e uoperators "OPINFIX4"

  reader_gives : (r : ReaderRule) (e : ℕ) → Gives (reader_does s f r st e)
  reader_gives TripleBacktick e = record { item = _; is = refl }
  reader_gives Lang e = record { item = _; is = refl }
  reader_gives CharLit e = record { item = _; is = refl }
  reader_gives CommentStart e = record { item = _; is = refl }
  reader_gives LineComment e = record { item = _; is = refl }
  reader_gives StringLit e = record { item = _; is = refl }
  reader_gives Any e = record { item = _; is = refl }

  rule_gives : (r : Rule) (k e w : ℕ) → GivesItem r → Gives (does s name f r st k e w)
  rule_gives White k e w z = absurd z
  rule_gives Newline k e w z = absurd z
  rule_gives (Action r) k e w z = action_gives r k e w
  rule_gives (Reader r) k e w z = reader_gives r e

  -- The turn at a choice whose rule does.
  pub turn_gives : (c : Choice) → c ≡ select s f st.offset → {r : Rule} → rule_of c.place ≡ r → GivesItem r → Gives (token_turn s name f st)
  unfolding token_turn
  turn_gives c q {r} is z =
      by_le Gives (length s) st.offset (λ _. record { item = _; is = refl })
      (λ _. subst (λ (x : Choice). Gives (act s name f st x)) q
      (subst Gives (sym (act_is s name f st c (chosen_tabled s f st.offset q).place ∙ ap (λ (x : Rule). does s name f x st c.place c.end c.word) is))
      (rule_gives r c.place c.end c.word z)))
