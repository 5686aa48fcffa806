-- What every turn of `next_token` says, what every step keeps, and that every state that a run comes to is sound. Rests on the walk over
-- the rules (Rules), on the longest match (crate `laws_longest`) for what a choice's rule asks, and on what every form keeps (FormLaws).
use Prim.Native.Nat.{ℕ, zero, suc, ◌+◌, ◌≤◌, ◌<◌}
use mathlib.Core.Path.{◌≡◌, refl, sym, ap, ap₂, subst, ◌∙◌}
use mathlib.Core.Bool.{true, not, false≢true}
use mathlib.Core.List.{List, [], ◌∷◌, ◌++◌}
use native.Mathlib.Omega.{arith}
use lib.Dec.{eqb}
use lib.ListN.{length, get_or}
use lib.Seq.{length-slice}
use borrow.Author.Tests.{eqb-true, eqb-false, eq-eqb, ne_eqb}
use Rattle.definition.specs.Basics.{Bytes, loop, fuel, ch, codes}
use Rattle.definition.specs.Utf8.{encode, encode_all}
use Rattle.definition.specs.Text.{byte_is}
use Rattle.definition.specs.Tables.{cps, op_tokens}
use Rattle.definition.specs.Rules.{Rule, RAny, place_rules, chosen_rule}
use Rattle.definition.specs.Select.{select}
use Rattle.definition.specs.Item.{Step, error_here}
use Rattle.definition.specs.Comment.{comment}
use Rattle.definition.specs.Token.{by_rule, act, token_turn, next_token, step}
use Rattle.definition.specs.Regex.{In, Permits, word}
use Rattle.definition.specs.Patterns.{pattern, patterns}
use Rattle.definition.specs.Longest.{Permitted, Longest}
use Rattle.definition.specs.Reading.{Reached, given, skipped, gave, carried}
use Rattle.definition.specs.declared.Choice.{Choice}
use Rattle.definition.specs.declared.State.{State}
use Rattle.lemmas.proofs.Loops.{says, Leads, leads_map, Falls, Any, loop_keeps, loop_same, loop_unroll}
use Rattle.lemmas.proofs.Cases.{by_test, by_le}
use Rattle.lemmas.proofs.Each.{Numbered, no_more, ◌⨟◌, numbered_within}
use Rattle.state.specs.Sound.{Stands}
use Rattle.laws_progress.proofs.Characters.{char_at}
use Rattle.laws_progress.proofs.Walks.{rest, Onward, char_onward}
use Rattle.laws_progress.proofs.Cuts.{slash_at}
use Rattle.laws_progress.proofs.Choices.{kw_op_place, Chosen, select_fits}
use Rattle.laws_longest.proofs.Language.{permits_at}
use Rattle.laws_longest.proofs.Law.{select_longest}
use Rattle.laws_run.proofs.Sizes.{entry_small}
use Rattle.laws_run.proofs.Moving.{stands_within}
use Rattle.laws_run.proofs.Paths.{ahead_here, Path, stay, path_path, path_reads, Goes, goes_stands, going_falls}
use Rattle.laws_run.specs.Left.{Opened}
use Rattle.laws_run.specs.Budget.{budget, longest_payload}
use Rattle.laws_run.proofs.FormLaws.{budget_most, most_budget, piece_sound, piece_kept, form_kept, eof_kept, error_kept, path_kept}
use Rattle.laws_run.proofs.Forms.{error, Kept}
use Rattle.laws_run.proofs.CommentReader.{comment_piece}
use Rattle.laws_run.proofs.Rules.{Says, Asks, rule_says}

-- ---- the words that stand for the name are long

-- a word's language is the word
word_in : (cs w : List ℕ) → In (word cs) w → w ≡ cs
word_in [] w e = e
word_in (c ∷ cs) w (u, v, e, (a, q, t), h) = e ∙ ap₂ (λ (x y : List ℕ). x ++ y) (q ∙ ap (λ (x : ℕ). x ∷ []) (eqb-true a c t)) (word_in cs v h)

-- so what is permitted is as long as the word
permitted_size : (cs : List ℕ) (s : Bytes) (i e : ℕ) → Permits (word cs) s i e → e ≡ i + length (encode_all cs)
permitted_size cs s i e p =
    let n = ap length (p.bytes ∙ ap encode_all (word_in cs p.chars p.fits)) in
    omega (arith, n, length-slice i e s p.within, p.forward)

-- ---- what the rule of a choice asks

module _ (s f : Bytes) (U : Type 0) (st : State) (e w : ℕ) where
  abbrev i : ℕ
  i = st.offset

  -- a keyword operator begins with no slash
  no_slash : Chosen s i kw_op_place e → byte_is (ch "/") s i ≡ true → ⊥
  no_slash c t =
      let p = c.no_slash refl in
      let q = (slash_at s i t).1 in
      let r = p.read in
      let z : p.code ≡ ch "/" = cc in
      absurd (false≢true (subst (λ x. not (eqb x (ch "/")) ≡ true) z p.passes))

  -- of a choice of place k the place's rule gets what it asks
  abbrev Gets : ℕ → Rule → Type 0
  Gets k r = Chosen s i k e → Permitted s f k i e → Asks s U st e r

  -- `__SOURCE_FILE__` and `__FILELINE__`
  file_long : Permitted s f 4 i e → i + 12 ≤ e
  unfolding pattern patterns encode_all encode
  file_long p = omega (arith, permitted_size (codes "__SOURCE_FILE__") s i e p)

  file_line_long : Permitted s f 6 i e → i + 12 ≤ e
  unfolding pattern patterns encode_all encode
  file_line_long p = omega (arith, permitted_size (codes "__FILELINE__") s i e p)

  -- a `>` is one byte
  gt_one : Permitted s f 38 i e → Onward s i (i + 1)
  unfolding pattern patterns
  gt_one p =
      let c = (permits_at s (pattern f 38) i e p).1.1 in
      let q = eqb-true c.code (ch ">") c.passes in
      subst (λ (n : ℕ). Onward s i (i + n)) ((char_at c.read).ascii (omega (arith, q))) (char_onward c.read)

  -- most rules ask nothing
  plain : {X Y : Type 0} → X → Y → Unit {0}
  plain _ _ = tt

  place_gets : Numbered Gets 1 (place_rules w)
  unfolding place_rules op_tokens cps encode_all encode
  place_gets =
      plain ⨟ plain ⨟ plain
      ⨟ (λ _ p. file_long p)  -- 4 RSourceFile
      ⨟ plain
      ⨟ (λ _ p. file_line_long p)  -- 6 RFileLine
      ⨟ plain ⨟ plain ⨟ plain ⨟ plain ⨟ plain
      ⨟ (λ c _. no_slash c)  -- 12 RKwOp
      ⨟ plain ⨟ plain ⨟ plain ⨟ plain ⨟ plain ⨟ plain ⨟ plain ⨟ plain ⨟ plain ⨟ plain ⨟ plain ⨟ plain ⨟ plain ⨟ plain ⨟ plain ⨟ plain
      ⨟ plain ⨟ plain ⨟ plain ⨟ plain ⨟ plain ⨟ plain ⨟ plain
      ⨟ (λ _ _. entry_small op_tokens w refl)  -- 36 ROpToken
      ⨟ plain
      ⨟ (λ _ p. gt_one p)  -- 38 RGt
      ⨟ plain ⨟ plain ⨟ plain ⨟ plain ⨟ plain ⨟ plain ⨟ plain ⨟ plain ⨟ plain ⨟ plain ⨟ plain ⨟ plain
      ⨟ no_more

-- so does the rule of the choice at st; where that is none of the places, the rule is `RAny`
choice_gets : (s f : Bytes) (st : State) (c : Choice) → Longest s f st.offset c → ((c.place ≡ 0 → ⊥) → Chosen s st.offset c.place c.end)
    → (k : ℕ) → c.place ≡ k → Asks s (c.place ≡ 0) st c.end (get_or (RAny ∷ place_rules c.word) k RAny)
unfolding place_rules
choice_gets s f st c l h zero q = q
choice_gets s f st c l h (suc k) q =
    let n : c.place ≡ 0 → ⊥ = λ z. absurd (omega arith) in
    let r : 1 + k ≡ c.place = omega arith in
    numbered_within RAny (place_gets s f (c.place ≡ 0) st c.end c.word) k (omega (arith, l.place))
    (subst (λ (m : ℕ). Chosen s st.offset m c.end) (sym r) (h n))
    (subst (λ (m : ℕ). Permitted s f m st.offset c.end) (sym r) (l.fits n))

-- ---- turns

-- a state in which a token comes next: neither in a comment nor past the end
pub record Outside (st : State) : Type 0 where
  pub no_comment : st.mode ≡ 1 → ⊥
  pub going : st.mode ≡ 2 → ⊥

pub zero_outside : {st : State} → st.mode ≡ 0 → Outside st
zero_outside m = record { no_comment = λ n. absurd (omega arith); going = λ n. absurd (omega arith) }

outside_zero : {s : Bytes} {st : State} → Outside st → Stands s st → st.mode ≡ 0
outside_zero {s} {st} n h =
    let a = n.no_comment in
    let b = n.going in
    omega (arith, h.sound.mode)

module _ (s name f : Bytes) where
  -- what is done with the choice at st; error 6 says that none of the places was chosen
  pub act_says : (st : State) → st.offset ≤ length s → Says s name ((select s f st.offset).place ≡ 0) st (act s name f st (select s f st.offset))
  unfolding act chosen_rule
  act_says st h = go c.place refl
    where
      c : Choice
      c = select s f st.offset

      chosen : (c.place ≡ 0 → ⊥) → Chosen s st.offset c.place c.end
      chosen n = (select_fits s st.offset f).chosen (ne_eqb c.place 0 n)

      asks : (k : ℕ) → c.place ≡ k → Asks s (c.place ≡ 0) st c.end (get_or (RAny ∷ place_rules c.word) k RAny)
      asks = choice_gets s f st c (select_longest s f st.offset h) chosen

      go : (k : ℕ) → c.place ≡ k → Says s name (c.place ≡ 0) st (by_rule s name f st c.end (get_or (RAny ∷ place_rules c.word) k RAny))
      go zero q = error 6 [] stay ahead_here (omega arith) (λ _. q)
      go (suc k) q =
          rule_says s name (c.place ≡ 0) st (chosen (λ z. absurd (omega arith))).onward f (get_or (RAny ∷ place_rules c.word) (suc k) RAny) (asks (suc k) q)

  -- Before the text's end a turn of `next_token` skips something, or gives an item of some form.
  pub turn_says : (st : State) → st.offset < length s → Says s name ((select s f st.offset).place ≡ 0) st (token_turn s name f st)
  unfolding token_turn
  turn_says st h =
      by_le (Says s name ((select s f st.offset).place ≡ 0) st) (length s) st.offset (λ l. absurd (omega arith)) (λ _. act_says st (omega arith))

  -- Everywhere a turn skips something, or gives an item that keeps all that is kept.
  pub turn_keeps : (st : State) → Outside st → Leads (Goes s (Unit {0}) st) (Kept s name st) (token_turn s name f st)
  unfolding token_turn
  turn_keeps st n =
      by_le (Leads (Goes s (Unit {0}) st) (Kept s name st)) (length s) st.offset (λ _. eof_kept st _ _ (outside_zero n))
      (λ l. leads_map (λ b g. g) (λ t k. form_kept (outside_zero n) (omega arith) k) (act s name f st (select s f st.offset)) (act_says st (omega arith)))

  -- from a sound state between comments a turn comes to one
  pub token_turn_stands : (st : State) → Stands s st → st.mode ≡ 0
      → Leads (λ b. Stands s b × (b.mode ≡ 0)) (λ t. Stands s t.next) (token_turn s name f st)
  token_turn_stands st h m =
      leads_map (λ b g. let k = goes_stands g h in (k.0, k.1 ∙ m)) (λ t k. k.sound h) (token_turn s name f st) (turn_keeps st (zero_outside m))

  -- ---- `next_token`

  -- what a turn skips is a path, from any state on
  pub turn_skips : (st : State) → Leads (Goes s (Unit {0}) st) Any (token_turn s name f st)
  unfolding token_turn
  turn_skips st =
      by_le (Leads (Goes s (Unit {0}) st) Any) (length s) st.offset (λ _. tt)
      (λ l. leads_map (λ b g. g) (λ t k. tt) (act s name f st (select s f st.offset)) (act_says st (omega arith)))

  -- each turn reads something
  pub token_falls : Falls (token_turn s name f) Any (λ st. rest s st.offset) Any
  token_falls = going_falls s (λ st. st) (token_turn s name f) Any (λ st. Any) (λ st b p c. c) turn_skips

  -- more fuel and another `out` change nothing
  pub token_enough : (out : State → Step) (n : ℕ) (st : State) → rest s st.offset < n → loop (token_turn s name f) out n st ≡ next_token s name f st
  unfolding next_token
  token_enough out n st h = loop_same token_falls out _ n (fuel s) st tt h (omega arith)

  -- `next_token` is what its first turn says
  pub token_unroll : (st : State) → next_token s name f st ≡ says (token_turn s name f st) (next_token s name f)
  unfolding next_token
  token_unroll st = loop_unroll token_falls _ (fuel s) st tt (omega arith)

  -- after a path a state is still one
  path_outside : {st a : State} → Path s st a → Outside st → Outside a
  path_outside p n =
      let q = (path_reads p).mode in
      record { no_comment = λ m. n.no_comment (sym q ∙ m); going = λ m. n.going (sym q ∙ m) }

  -- the next token
  next_token_kept : (st : State) → Outside st → Kept s name st (next_token s name f st)
  unfolding next_token
  next_token_kept st n =
      loop_keeps (token_turn s name f) (Path s st) (Kept s name st) (λ a. error_here s a 6)
      (λ a p. leads_map (λ b g. path_path p g.path) (λ t k. path_kept p k) (token_turn s name f a) (turn_keeps a (path_outside p n)))
      (λ a p. path_kept p (ended_kept a (path_outside p n))) (fuel s) st stay
    where
      -- past its fuel it would be an error
      ended_kept : (a : State) → Outside a → Kept s name a (error_here s a 6)
      ended_kept a n = error_kept a (outside_zero n)

  -- ---- steps

  -- Between comments a step is the next token; in one it is the comment's next piece.
  pub step_between : (st : State) → st.mode ≡ 0 → step s name f st ≡ next_token s name f st
  unfolding step
  step_between st m = rw (step, ne_eqb st.mode 1 (λ e. absurd (omega (arith, m, e))))

  pub step_inside : (st : State) → st.mode ≡ 1 → step s name f st ≡ comment s st.offset st
  unfolding step
  step_inside st m = rw (step, eq-eqb st.mode 1 m)

  -- What every step keeps.
  pub step_kept : (st : State) → Opened st → (st.mode ≡ 2 → ⊥) → Kept s name st (step s name f st)
  unfolding step
  step_kept st o n =
      by_test (Kept s name st) (eqb st.mode 1)
      (λ t. let m = eqb-true st.mode 1 t in piece_kept (o m) m (comment_piece s st.offset st (omega arith) m))
      (λ t. next_token_kept st record { no_comment = eqb-false st.mode 1 t; going = n })

  -- A step from a sound state comes to one.
  pub step_stands : (st : State) → Stands s st → (st.mode ≡ 2 → ⊥) → Stands s (step s name f st).next
  step_stands st h n = (step_kept st h.sound.opened n).sound h

  -- A step's payload, and what is left to spend after it.
  pub payload_bound : length name ≤ 4096 → (st : State) → Stands s st → (st.mode ≡ 2 → ⊥) → length (step s name f st).payload + budget s (step s name f st).next ≤ budget s st
  payload_bound named st h n = omega (arith, (step_kept st h.sound.opened n).bounded h named, most_budget s st n)

  -- With a short name it has at most four bytes for each byte of the text, and a hundred.
  pub payload_short : length name ≤ 50 → (st : State) → Stands s st → (st.mode ≡ 2 → ⊥) → length (step s name f st).payload ≤ longest_payload s
  payload_short named st h n = (step_kept st h.sound.opened n).short h named

  -- Every state that a run comes to is sound.
  pub reached_stands : {g st : State} → Reached s name f g st → Stands s g → Stands s st
  reached_stands given h = h
  reached_stands (skipped {st} {next} r m e) h =
      let v : Goes s (Unit {0}) st next = subst (Leads (Goes s (Unit {0}) st) (Kept s name st)) e (turn_keeps st (zero_outside m)) in
      (goes_stands v (reached_stands r h)).0
  reached_stands (gave {st} {t} r m e) h =
      let v : Kept s name st t = subst (Leads (Goes s (Unit {0}) st) (Kept s name st)) e (turn_keeps st (zero_outside m)) in
      v.sound (reached_stands r h)
  reached_stands (carried {st} r m) h = piece_sound (comment_piece s st.offset st (omega arith) m) (reached_stands r h) m

-- What a run can write of payloads at all: 402 bytes for each of the longest text.
pub budget_small : (s : Bytes) (st : State) → Stands s st → budget s st ≤ 421527552
budget_small s st h = omega (arith, budget_most s st, h.sound.comments, stands_within h, h.short)
