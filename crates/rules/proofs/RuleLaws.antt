-- What is done with a choice is what its place's rule does, and what that asks for holds. Rests on the laws of choices and of sound
-- states; that the table of rules is the definition's is computed.
use Prim.Native.Nat.{ℕ, zero, suc, ◌+◌, ◌-◌, ◌<◌}
use native.Mathlib.Omega.{arith}
use mathlib.Core.Path.{◌≡◌, refl, sym, ap, subst, ◌∙◌}
use mathlib.Core.Bool.{Bool, true, false, not, ◌&&◌, ◌||◌, false≢true}
use mathlib.Core.List.{List, [], ◌∷◌, map}
use lib.Dec.{eqb}
use lib.ListN.{get_or, get_or-map}
use borrow.Author.Tests.{eqb-true, ne_eqb}
use Rattle.definition.specs.Basics.{Bytes, done}
use Rattle.definition.specs.Chars.{count_up}
use Rattle.definition.specs.Select.{select}
use Rattle.definition.specs.State.{advance, new_line}
use Rattle.definition.specs.Rules.{RAny, place_rules, chosen_rule}
use Rattle.definition.specs.Token.{TokenTurn, any, by_rule, act}
use Rattle.definition.specs.declared.Choice.{Choice}
use Rattle.definition.specs.declared.State.{State}
use Rattle.lemmas.proofs.Cases.{both, either}
use Rattle.laws_progress.proofs.Choices.{Fits, select_fits}
use Rattle.reader.specs.Described.{KnownAt, Turns}
use Rattle.reader.specs.Cursors.{moved, next_line}
use Rattle.reader.specs.Standing.{Standing}
use Rattle.reader.specs.declared.Cursor.{Cursor}
use Rattle.reader.specs.declared.ReadResult.{ReadResult}
use Rattle.reader.proofs.Standing.{known_kept, known_line}
use Rattle.laws_run.proofs.Moving.{stands_within}
use Rattle.reader.specs.Actions.{Chose, Rules, action_step}
use Rattle.reader.specs.declared.actions.Action.{Action}
use Rattle.rule_table.specs.Plain.{place_kinds}
use Rattle.rule_table.specs.Rules.{rule_list, rule_of, action_does, does}
use Rattle.rule_table.specs.Tabled.{table_size, Tabled}
use Rattle.rule_table.specs.declared.table.Rule.{Rule}
use Rattle.rule_table.specs.declared.table.Rule.TheVariants as rules
use Rattle.rule_table.specs.declared.table.Rule.TheVariants.{White, Newline}
use Rattle.rule_table.specs.declared.table.ActionRule.{ActionRule}
use Rattle.rule_table.specs.declared.table.ActionRule.TheVariants.{Plain, KwOp, Ident, Constructor, Number, UInt8, BadNumber, Gt, Op, UOperator}
use Rattle.rule_table.specs.declared.table.ReaderRule.{ReaderRule}
use Rattle.rule_table.specs.declared.table.ReaderRule.TheVariants.{TripleBacktick, Lang, CharLit, CommentStart, LineComment, StringLit, Any}
use Rattle.rules.specs.Acting.{Acts}
use Rattle.rules.proofs.Tabling.{select_tabled}

-- what counts up from n has n + k at k
counted : (n m k d : ℕ) → k < m → get_or (count_up n m) k d ≡ n + k
unfolding count_up
counted n zero k d h = absurd (omega arith)
counted n (suc m) zero d h = omega arith
counted n (suc m) (suc k) d h = let q = counted (suc n) m k d (omega arith) in omega (arith, q)

module _ (s name f : Bytes) (st : State) where
  -- the definition's rules of all places are those of the table
  rules_are : (e w : ℕ) → map (by_rule s name f st e) (place_rules w) ≡ map (λ (k : ℕ). does s name f (rule_of k) st k e w) (count_up 1 50)
  unfolding place_rules rule_list place_kinds count_up
  rules_are e w = refl

  -- what is done with a choice
  pub act_is : (c : Choice) → c.place < 51 → act s name f st c ≡ does s name f (rule_of c.place) st c.place c.end c.word
  unfolding act chosen_rule rule_list
  act_is c h = go c.place h
    where
      by : ℕ → TokenTurn
      by k = does s name f (rule_of k) st k c.end c.word

      go : (k : ℕ) → k < 51 → by_rule s name f st c.end (get_or (RAny ∷ place_rules c.word) k RAny) ≡ by k
      go zero l = refl
      go (suc j) l =
          sym (get_or-map (by_rule s name f st c.end) (place_rules c.word) j RAny)
          ∙ ap (λ (l : List TokenTurn). get_or l j (any s st)) (rules_are c.end c.word)
          ∙ get_or-map by (count_up 1 50) j 0
          ∙ ap by (counted 1 50 j 0 (omega arith) ∙ next)
        where
          next : 1 + j ≡ suc j
          next = omega arith

  -- so whoever does what the rule of a choice does has done what is done with the choice
  pub act_turns : (c : Choice) (r : Rule) (t : ReadResult) → c.place < 51 → rule_of c.place ≡ r
      → Turns s name f (does s name f r st c.place c.end c.word) t → Turns s name f (act s name f st c) t
  act_turns c r t h q d =
      subst (λ (x : TokenTurn). Turns s name f x t)
      (ap (λ (x : Rule). does s name f x st c.place c.end c.word) (sym q) ∙ sym (act_is c h)) d

-- ---- choices

-- a choice is one of the places, with a word of its table
pub chosen_tabled : (s f : Bytes) (i : ℕ) {c : Choice} → c ≡ select s f i → Tabled c
chosen_tabled s f i q = subst Tabled (sym q) (select_tabled i s f)

-- the rules that need a place: all but the one that finds no place chosen
abbrev reads_chosen : ReaderRule → Bool
reads_chosen TripleBacktick = true
reads_chosen Lang = true
reads_chosen CharLit = true
reads_chosen CommentStart = true
reads_chosen LineComment = true
reads_chosen StringLit = true
reads_chosen Any = false

abbrev pub needs_place : Rule → Bool
needs_place White = true
needs_place Newline = true
needs_place (rules.Action r) = true
needs_place (rules.Reader r) = reads_chosen r

-- where the rule of a choice needs a place one was chosen, so the choice ends after where the reader stands
pub some_chosen : {s : Bytes} (f : Bytes) {at : Cursor} {c : Choice} → Standing s at.st at.known → at.st.mode ≡ 0 → c ≡ select s f at.st.offset
    → {r : Rule} → rule_of c.place ≡ r → needs_place r ≡ true → Chose s at c.end
unfolding rule_list
some_chosen {s} f {at} {c} standing between q {r} p z =
    let fits = subst (Fits s at.st.offset) (sym q) (select_fits s at.st.offset f) in
    let needs : needs_place (rule_of c.place) ≡ true = ap needs_place p ∙ z in
    let some : eqb c.place 0 ≡ false = ne_eqb c.place 0 (λ o. false≢true (subst (λ (k : ℕ). needs_place (rule_of k) ≡ true) o needs)) in
    record { standing = standing; between = between; onward = (fits.chosen some).onward }

module _ {s name f : Bytes} {at : Cursor} {c : Choice} (h : Acts s name f at c) where
  pub tabled : Tabled c
  tabled = chosen_tabled s f at.st.offset h.chosen

  module _ {r : Rule} (q : rule_of c.place ≡ r) where
    -- a choice whose rule needs a place ends after where the reader stands
    pub chose : needs_place r ≡ true → Chose s at c.end
    chose z = some_chosen f h.standing h.between h.chosen q z

    pub turns_by_rule : (t : ReadResult) → Turns s name f (does s name f r at.st c.place c.end c.word) t → Turns s name f (act s name f at.st c) t
    turns_by_rule t d = act_turns s name f at.st c r t tabled.place q d

  -- the step that an action stands for is what is done
  pub ruled_acts : {r : ActionRule} {x : Action} → rule_of c.place ≡ rules.Action r
      → Rules s name at c.end (action_does s name r at.st c.place c.end c.word) x → act s name f at.st c ≡ done (action_step s name f at.st c.end x)
  ruled_acts q ruled =
      act_is s name f at.st c tabled.place
      ∙ ap (λ (x : Rule). does s name f x at.st c.place c.end c.word) q
      ∙ ruled.is f

-- ---- words of keyword operators

-- the rule of keywords before operator characters
abbrev gives_kw_op : ActionRule → Bool
gives_kw_op Plain = false
gives_kw_op KwOp = true
gives_kw_op Ident = false
gives_kw_op Constructor = false
gives_kw_op Number = false
gives_kw_op UInt8 = false
gives_kw_op BadNumber = false
gives_kw_op Gt = false
gives_kw_op Op = false
gives_kw_op UOperator = false

abbrev is_kw_op : Rule → Bool
is_kw_op White = false
is_kw_op Newline = false
is_kw_op (rules.Action r) = gives_kw_op r
is_kw_op (rules.Reader r) = false

-- only the entry numbered k of a list whose first is numbered n is that rule
abbrev only : ℕ → ℕ → List Rule → Bool
only k n [] = true
only k n (x ∷ l) = (not (is_kw_op x) || eqb n k) && only k (suc n) l

only_at : (k n : ℕ) (l : List Rule) → only k n l ≡ true → (j : ℕ) → is_kw_op (get_or l j (rules.Reader Any)) ≡ true → n + j ≡ k
only_at k n [] t j q = absurd (false≢true q)
only_at k n (x ∷ l) t zero q =
    let h = (both (not (is_kw_op x) || eqb n k) (only k (suc n) l) t).0 in
    either (not (is_kw_op x)) (eqb n k) (λ a. absurd (false≢true (sym (ap not q) ∙ a))) (λ a. let e = eqb-true n k a in omega (arith, e)) h
only_at k n (x ∷ l) t (suc j) q =
    let e = only_at k (suc n) l (both (not (is_kw_op x) || eqb n k) (only k (suc n) l) t).1 j q in
    omega (arith, e)

-- it is that of place 12, whose table has nine words
pub keyword_word : {c : Choice} → Tabled c → rule_of c.place ≡ rules.Action KwOp → c.word < 9
unfolding table_size rule_list
keyword_word {c} h q =
    let e = only_at 12 0 rule_list refl c.place (ap is_kw_op q) in
    let k : c.place ≡ 12 = omega (arith, e) in
    subst (λ (k : ℕ). c.word < table_size k) k h.word

-- ---- what is passed

module _ {s : Bytes} {at : Cursor} {e : ℕ} (h : Chose s at e) where
  pub end_fits : e < 4294967296
  end_fits = omega (arith, h.onward.within, h.standing.stands.short)

  pub line_fits : at.st.line < 4294967295
  line_fits = omega (arith, h.standing.stands.sound.line, stands_within h.standing.stands, h.standing.stands.short)

  -- on the same line, and to the next
  pub moved_turns : {p : Cursor} → p ≡ moved at e → (p.st ≡ advance at.st e) × KnownAt s (advance at.st e) p.known
  moved_turns q = rw q (refl, known_kept at.st (advance at.st e) refl refl h.standing.cached)

  pub line_turns : {p : Cursor} → p ≡ next_line at e → (p.st ≡ new_line (advance at.st e)) × KnownAt s (new_line (advance at.st e)) p.known
  line_turns q = rw q (refl, known_line s at.st e)
