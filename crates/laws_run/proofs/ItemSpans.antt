-- Document 02, K3: "16 and 17 are the start and end offset of the bytes the item was read from". Every item ends where the state after it
-- stands; one that is no ERROR starts where its choice was made (EOF: where the text has ended), or, in a comment, where the state before it
-- stands; and an ERROR is empty.
-- An item is what a step gives; these hold of a step from any state of any text. Rests on the walk over the rules (Rules, Steps) and on
-- pieces of comments (CommentReader).
use Prim.Native.Nat.{ℕ, ◌≤◌, ◌<◌}
use mathlib.Core.Path.{◌≡◌, refl, sym, ap, subst, ◌∙◌}
use mathlib.Core.List.{List, [], ◌∷◌, ◌++◌}
use native.Mathlib.Omega.{arith}
use lib.Dec.{eqb}
use lib.ListN.{length, get_or}
use borrow.Author.Tests.{eqb-true}
use Rattle.definition.specs.Basics.{Bytes, Turn, again, done, fuel}
use Rattle.definition.specs.Kinds.{kind}
use Rattle.definition.specs.Item.{Step, error_here, extra_words, words}
use Rattle.definition.specs.Select.{select}
use Rattle.definition.specs.Token.{act, token_turn, next_token, step}
use Rattle.definition.specs.declared.State.{State}
use Rattle.definition.specs.declared.Item.{Item}
use Rattle.definition.specs.declared.Extra.{Extra}
use Rattle.definition.specs.declared.Extra.TheVariants.{NoExtra, CharLit, Blob, LexError, Comment}
use Rattle.lemmas.proofs.Loops.{Leads, leads_map, Falls, Any, loop_gives}
use Rattle.lemmas.proofs.Cases.{by_test, by_equal, by_le}
use Rattle.laws_progress.proofs.Walks.{rest}
use Rattle.laws_run.proofs.Paths.{path_reads}
use Rattle.laws_run.proofs.Forms.{nothing, code_point, Piece, Form, token, blob, line, opened, error, IsError}
use Rattle.laws_run.proofs.FormLaws.{piece_forward, form_last}
use Rattle.laws_run.proofs.CommentReader.{comment_piece}
use Rattle.laws_run.proofs.Steps.{act_says, token_falls, step_inside}

-- ---- words 16 and 17 of a record

-- they are the item's `from` and `to`
pub last_words : (t : Item) (used : ℕ) → (get_or (words t used) 16 0 ≡ t.from) × (get_or (words t used) 17 0 ≡ t.to)
last_words t used = go t.extra
  where
    after : Extra → List ℕ
    after x = extra_words x ++ (t.from ∷ t.to ∷ [])

    go : (x : Extra) → (get_or (after x) 7 0 ≡ t.from) × (get_or (after x) 8 0 ≡ t.to)
    go NoExtra = (refl, refl)
    go (CharLit c) = (refl, refl)
    go (Blob n p q) = (refl, refl)
    go (LexError n p q) = (refl, refl)
    go (Comment b) = (refl, refl)

-- ---- the span of an item that is given at st

-- it ends where the state after it stands, which isn't before st; if it is no ERROR it starts at st; and an ERROR is empty, has that kind,
-- and is the last
pub record Span (st : State) (t : Step) : Type 0 where
  pub to : t.item.to ≡ t.next.offset
  pub forward : st.offset ≤ t.next.offset
  pub from : (IsError t.item.extra → ⊥) → t.item.from ≡ st.offset
  pub empty : IsError t.item.extra → (t.item.from ≡ t.item.to) × (t.item.kind ≡ kind "ERROR")
  pub ends : IsError t.item.extra → t.next.mode ≡ 2

-- of an item that is no ERROR
plain_span : {st : State} {t : Step} → st.offset ≤ t.next.offset → t.item.to ≡ t.next.offset → t.item.from ≡ st.offset
    → (IsError t.item.extra → ⊥) → Span st t
plain_span l to from n = record { to = to; forward = l; from = λ _. from; empty = λ e. absurd (n e); ends = λ e. absurd (n e) }

-- a piece of a comment that began at byte `from`
piece_from : {s : Bytes} {from : ℕ} {st : State} {t : Step} → Piece s from st t → t.item.from ≡ from
piece_from p = ap (λ (x : Step). x.item.from) p.is

piece_to : {s : Bytes} {from : ℕ} {st : State} {t : Step} → Piece s from st t → t.item.to ≡ t.next.offset
piece_to p = subst (λ (x : Step). x.item.to ≡ x.next.offset) (sym p.is) refl

pub piece_span : {s : Bytes} {st a : State} {t : Step} → Piece s st.offset a t → st.offset ≤ a.offset → Span st t
piece_span p l =
    plain_span (omega (arith, piece_forward p)) (piece_to p) (piece_from p) (subst (λ (x : Step). IsError x.item.extra) p.is)

-- every form
pub form_span : {s name : Bytes} {U : Type 0} {st : State} {t : Step} → Form s name U st t → Span st t
form_span (token k text nothing at p l b) = plain_span (omega arith) refl refl (λ e. e)
form_span (token k text (code_point c) at p l b) = plain_span (omega arith) refl refl (λ e. e)
form_span (blob k title contents at p e l b) = plain_span (omega arith) refl refl (λ e. e)
form_span (line text at o b) = plain_span (omega (arith, o.past)) refl refl (λ e. e)
form_span (opened o p) = piece_span p (omega (arith, o.past))
form_span (error n text p at b u) = record {
  to = refl;
  forward = (path_reads p).ahead.forward;
  from = λ plain. absurd (plain tt);
  empty = λ _. (refl, refl);
  ends = λ _. refl;
}

-- where the reading is over after it, it is empty, and its kind is ERROR
pub form_over : {s name : Bytes} {U : Type 0} {st : State} {t : Step} → st.mode ≡ 0 → Form s name U st t → t.next.mode ≡ 2
    → (t.item.from ≡ t.item.to) × (t.item.kind ≡ kind "ERROR")
form_over m v q = (form_span v).empty (form_last m v q)

module _ (s name f : Bytes) where
  -- what a turn gives; at the text's end there is no choice, and EOF is empty there
  pub turn_span : (st : State) → Leads Any (Span st) (token_turn s name f st)
  unfolding token_turn
  turn_span st =
      by_le (Leads Any (Span st)) (length s) st.offset (λ _. plain_span (omega arith) refl refl (λ e. e))
      (λ l. leads_map (λ b g. tt) (λ t v. form_span v) (act s name f st (select s f st.offset)) (act_says s name f st (omega arith)))

  -- ---- where the choice was made

  -- from st one comes to a state by what is skipped
  pub data Skipped (st : State) : State → Type 0 where
    nothing_yet : Skipped st st
    and_then : {a b : State} → Skipped st a → token_turn s name f a ≡ again b → Skipped st b

  -- t is given there: at a choice or, for EOF, where the text has ended
  pub record Chosen (st : State) (t : Step) : Type 0 where
    pub at : State
    pub skipped : Skipped st at
    pub gives : token_turn s name f at ≡ done t

  -- each turn skips something, or gives the item
  chosen_falls : (st : State) → Falls (token_turn s name f) (Skipped st) (λ a. rest s a.offset) (Chosen st)
  chosen_falls st = record { at = λ a p. go a p (token_turn s name f a) refl ((token_falls s name f).at a tt) }
    where
      go : (a : State) → Skipped st a → (t : Turn State Step) → token_turn s name f a ≡ t → Leads (λ b. Any b × (rest s b.offset < rest s a.offset)) Any t
          → Leads (λ b. Skipped st b × (rest s b.offset < rest s a.offset)) (Chosen st) t
      go a p (again b) e l = (and_then p e, l.1)
      go a p (done t) e l = record { at = a; skipped = p; gives = e }

  -- outside a comment every item is given so
  pub item_chosen : (st : State) → (st.mode ≡ 1 → ⊥) → Chosen st (step s name f st)
  unfolding step next_token
  item_chosen st n =
      by_test (Chosen st) (eqb st.mode 1) (λ t. absurd (n (eqb-true st.mode 1 t)))
      (λ _. loop_gives (chosen_falls st) (λ a. error_here s a 6) (fuel s) st nothing_yet (omega arith))

  module _ (st : State) where
    -- the item
    abbrev t : Step
    t = step s name f st

    -- its span, where it is given at a choice
    chosen_span : (c : Chosen st t) → Span c.at t
    chosen_span c = subst (Leads Any (Span c.at)) c.gives (turn_span c.at)

    -- in a comment it is a piece
    pub carried_piece : st.mode ≡ 1 → Piece s st.offset st (step s name f st)
    carried_piece m = subst (Piece s st.offset st) (sym (step_inside s name f st m)) (comment_piece s st.offset st (omega arith) m)

    -- what holds outside a comment and in one
    either_way : (P : Step → Type 0) → (Chosen st t → P t) → (st.mode ≡ 1 → P t) → P t
    either_way P outside inside =
        by_equal st.mode 1 inside (λ n. outside (item_chosen st n))

    -- ---- the laws, over the numbers of the item's record

    module _ (used : ℕ) where
      -- Word 17 is the offset of the state after the item.
      pub span_end : get_or (words (step s name f st).item used) 17 0 ≡ (step s name f st).next.offset
      span_end = (last_words t.item used).1 ∙ either_way (λ (x : Step). x.item.to ≡ x.next.offset) (λ c. (chosen_span c).to) (λ m. piece_to (carried_piece m))

      -- Word 16 is the offset of the choice, if the item is no ERROR. (EOF comes from no choice: it is given where the text has ended.)
      pub span_start : (c : Chosen st (step s name f st)) → (IsError (step s name f st).item.extra → ⊥)
          → get_or (words (step s name f st).item used) 16 0 ≡ c.at.offset
      span_start c plain = (last_words t.item used).0 ∙ (chosen_span c).from plain

      -- In mode 1 it is the offset of the state before: "A comment's later piece starts where the last ended".
      pub span_carried : st.mode ≡ 1 → get_or (words (step s name f st).item used) 16 0 ≡ st.offset
      span_carried m = (last_words t.item used).0 ∙ piece_from (carried_piece m)

      -- An ERROR is empty, and has that kind: so an item of another kind is none.
      pub span_of_error : IsError (step s name f st).item.extra
          → (get_or (words (step s name f st).item used) 16 0 ≡ get_or (words (step s name f st).item used) 17 0) × ((step s name f st).item.kind ≡ kind "ERROR")
      span_of_error e =
          let h = either_way (λ (x : Step). IsError x.item.extra → (x.item.from ≡ x.item.to) × (x.item.kind ≡ kind "ERROR"))
          (λ c. (chosen_span c).empty) (λ m y. absurd (subst (λ (x : Step). IsError x.item.extra) (carried_piece m).is y)) e in
          ((last_words t.item used).0 ∙ h.0 ∙ sym (last_words t.item used).1, h.1)
