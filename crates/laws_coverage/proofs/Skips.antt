-- What is skipped: `next_token` calls itself after a choice of place 7, 8 or 29 alone, and reading goes on where that choice ends. Rests on
-- the rules of the places, looked at one by one, and on there being fifty (crate `laws_longest`).
use Rattle.std.specs.Prelude.{Option, Some, None}
use Prim.Native.Nat.{ℕ, zero, suc, ◌+◌, ◌≤◌}
use Prim.Native.String.{String}
use mathlib.Core.Path.{◌≡◌, refl, sym, subst}
use mathlib.Core.List.{List, ◌∷◌}
use mathlib.Core.Logic.{inl, inr}
use native.Mathlib.Omega.{arith}
use lib.Dec.{ltb, eqb}
use lib.ListN.{length, get_or}
use Rattle.definition.specs.Basics.{Bytes, again}
use Rattle.definition.specs.Text.{lexeme}
use Rattle.definition.specs.Tables.{Entry, find}
use Rattle.definition.specs.Kinds.{kind}
use Rattle.definition.specs.Matchers.{no_comment}
use Rattle.definition.specs.Numbers.{clean_number, int_of_string}
use Rattle.definition.specs.Rules.{RWhite, RNewline, RInFStar, RAny, place_rules, chosen_rule}
use Rattle.definition.specs.Select.{select}
use Rattle.definition.specs.Token.{TokenTurn, reserved_prefix, starts_with, finish, finish_entry, finish_word, ident, uint8, op, by_rule, act, token_turn}
use Rattle.definition.specs.declared.Choice.{Choice}
use Rattle.definition.specs.declared.State.{State}
use Rattle.lemmas.proofs.Loops.{Leads, Any}
use Rattle.lemmas.proofs.Cases.{by_test, by_le}
use Rattle.lemmas.proofs.Each.{Numbered, no_more, ◌⨟◌, numbered_within}
use Rattle.laws_longest.proofs.Law.{select_longest}
use Rattle.laws_coverage.specs.Coverage.{SkipPlace}

-- if a turn goes on, k is the place of one of the three rules, and reading goes on at e
abbrev IfSkips : ℕ → ℕ → TokenTurn → Type 0
IfSkips k e = Leads (λ (b : State). SkipPlace k × (b.offset ≡ e)) Any

module _ (s name f : Bytes) (st : State) (e w : ℕ) where
  -- the three rules that skip
  white_turn : IfSkips 7 e (by_rule s name f st e RWhite)
  white_turn = (inl refl, refl)

  newline_turn : IfSkips 8 e (by_rule s name f st e RNewline)
  newline_turn = (inr (inl refl), refl)

  in_f_star_turn : IfSkips 29 e (by_rule s name f st e RInFStar)
  in_f_star_turn = (inr (inr refl), refl)

  -- those that look further before they give an item
  word_turn : (k : ℕ) (table : List Entry) (d : String) → IfSkips k e (finish_word s st e table d)
  word_turn k table d = go (find (lexeme s st.offset e) table)
    where
      go : (x : Option Entry) → IfSkips k e (elim x [ Some y ↦ finish_entry s st e y | None ↦ finish s st e (kind d) (lexeme s st.offset e) ])
      go (Some y) = tt
      go None = tt

  ident_turn : (k : ℕ) → IfSkips k e (ident s st e)
  ident_turn k = by_test (IfSkips k e) (starts_with (lexeme s st.offset e) reserved_prefix) (λ _. tt) (λ _. word_turn k _ _)

  uint8_turn : (k : ℕ) → IfSkips k e (uint8 s st e)
  uint8_turn k = by_test (IfSkips k e) (ltb 255 (int_of_string (clean_number (lexeme s st.offset e)))) (λ _. tt) (λ _. tt)

  op_turn : (k : ℕ) (d : String) → IfSkips k e (op s st e d)
  op_turn k d = by_test (IfSkips k e) (eqb (no_comment s st.offset e) st.offset) (λ _. tt) (λ _. tt)

  -- every place
  place_turns : Numbered (λ k r. IfSkips k e (by_rule s name f st e r)) 1 (place_rules w)
  unfolding place_rules
  place_turns =
      tt ⨟ tt ⨟ tt ⨟ tt ⨟ tt ⨟ tt
      ⨟ white_turn  -- 7 RWhite
      ⨟ newline_turn  -- 8 RNewline
      ⨟ tt ⨟ tt ⨟ tt ⨟ tt ⨟ tt
      ⨟ ident_turn 14  -- RIdent
      ⨟ word_turn 15 _ _  -- RConstructor
      ⨟ tt
      ⨟ uint8_turn 17  -- RUInt8
      ⨟ tt ⨟ tt ⨟ tt ⨟ tt ⨟ tt ⨟ tt ⨟ tt ⨟ tt ⨟ tt ⨟ tt ⨟ tt
      ⨟ in_f_star_turn  -- 29 RInFStar
      ⨟ tt ⨟ tt ⨟ tt ⨟ tt ⨟ tt ⨟ tt ⨟ tt ⨟ tt ⨟ tt
      ⨟ op_turn 39 _ ⨟ op_turn 40 _ ⨟ op_turn 41 _ ⨟ op_turn 42 _ ⨟ op_turn 43 _  -- ROp
      ⨟ op_turn 44 _ ⨟ op_turn 45 _ ⨟ op_turn 46 _ ⨟ op_turn 47 _ ⨟ op_turn 48 _
      ⨟ word_turn 49 _ _  -- RUOperator
      ⨟ tt
      ⨟ no_more

module _ (s name f : Bytes) (st : State) where
  c : Choice
  c = select s f st.offset

  -- the rule of the choice; where that is none of the places, `RAny` gives an item
  rule_turn : c.place ≤ 50 → (k : ℕ) → c.place ≡ k → IfSkips c.place c.end (by_rule s name f st c.end (get_or (RAny ∷ place_rules c.word) k RAny))
  unfolding place_rules
  rule_turn h zero q = tt
  rule_turn h (suc k) q =
      let r : 1 + k ≡ c.place = omega arith in
      subst (λ (m : ℕ). IfSkips m c.end (by_rule s name f st c.end (get_or (place_rules c.word) k RAny))) r
      (numbered_within RAny (place_turns s name f st c.end c.word) k (omega arith))

  choice_turn : IfSkips c.place c.end (token_turn s name f st)
  unfolding token_turn act chosen_rule c
  choice_turn =
      by_le (IfSkips c.place c.end) (length s) st.offset (λ _. tt)
      (λ l. rule_turn (select_longest s f st.offset (omega arith)).place c.place refl)

  -- What is skipped was chosen by one of the three rules, up to where the choice ends.
  pub skips_there : {next : State} → token_turn s name f st ≡ again next → SkipPlace (select s f st.offset).place × ((select s f st.offset).end ≡ next.offset)
  unfolding c
  skips_there {next} e =
      let p : SkipPlace c.place × (next.offset ≡ c.end) = subst (IfSkips c.place c.end) e choice_turn in
      (p.0, sym p.1)
