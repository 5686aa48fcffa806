-- Where the positions of an item stand: at a character's first byte or the text's end, on the line of the state where the item is given, or of
-- the state after it; and how lines go on from state to state. Rests on the forms of items (Forms) and on where they are given (Choosing).
use Prim.Native.Nat.{ℕ}
use mathlib.Core.Path.{◌≡◌, refl, sym, subst, ◌∙◌}
use mathlib.Core.List.{[]}
use mathlib.Core.Logic.{inl, inr}
use native.Mathlib.Omega.{arith}
use lib.ListN.{length}
use Rattle.definition.specs.Basics.{Bytes}
use Rattle.definition.specs.Position.{col_by, pos_of, cur_pos}
use Rattle.definition.specs.Kinds.{kind}
use Rattle.definition.specs.State.{ended, close_comment}
use Rattle.definition.specs.Item.{Step, tok}
use Rattle.definition.specs.Select.{select}
use Rattle.definition.specs.Token.{act, token_turn, step}
use Rattle.definition.specs.Utf16.{chosen_at, given_at}
use Rattle.definition.specs.declared.Pos.{Pos}
use Rattle.definition.specs.declared.State.{State}
use Rattle.definition.specs.declared.Extra.{Extra}
use Rattle.definition.specs.declared.Extra.TheVariants.{NoExtra}
use Rattle.lemmas.proofs.Loops.{Leads, leads_map, Any}
use Rattle.lemmas.proofs.Cases.{by_equal, by_lt, by_le}
use Rattle.state.specs.Sound.{Stands}
use Rattle.laws_run.specs.Places.{On, ExtraOn, Placed, PiecePlaced, Lines}
use Rattle.laws_run.proofs.Moving.{clean_character, stands_clean, open_stands}
use Rattle.laws_run.proofs.Paths.{Ahead, ahead_here, walk_ahead, Path, stay, on, line, inner, path_reads, path_stands}
use Rattle.laws_run.proofs.Forms.{Plain, nothing, code_point, Piece, Form, token, blob, line as a_line, opened, error}
use Rattle.laws_run.proofs.Steps.{act_says, step_between}
use Rattle.laws_run.proofs.Choosing.{chosen_given, chosen_stands, given_between, given_inside, given_path}
use Rattle.laws_run.proofs.ItemSpans.{carried_piece}

-- ---- lines

-- one reading after another
lines_lines : {a b c : State} → Lines a b → Lines b c → Lines a c
lines_lines {a} {b} {c} g h =
    let f = g.forward in
    let f' = h.forward in
    record {
      forward = omega arith;
      same = λ q.
          let x = g.same (omega arith) in
          let y = h.same (omega arith) in
          (y.0 ∙ x.0, y.1 ∙ x.1);
    }

-- b is on the line that a is on; its start is the same
abbrev OnLine : State → State → Type 0
OnLine a b = (b.line ≡ a.line) × (b.bol ≡ a.bol) × (b.column ≡ a.column)

line_lines : {a b : State} → OnLine a b → Lines a b
line_lines q = record { forward = omega arith; same = λ _. (q.1, q.2) }

-- a return from a comment stays there
closing_line : (a : State) → OnLine a (close_comment a)
unfolding close_comment
closing_line a = by_lt (OnLine a) 1 a.depth (λ _. (refl, refl, refl)) (λ _. (refl, refl, refl))

-- by a path one comes to the same line or a later one
path_lines : {s : Bytes} {st b : State} → Path s st b → Lines st b
path_lines stay = line_lines (refl, refl, refl)
path_lines (on j p h) = lines_lines (path_lines p) (line_lines (refl, refl, refl))
path_lines (line j p h l) =
    lines_lines (path_lines p) record { forward = omega arith; same = λ q. absurd (omega arith) }
path_lines (inner p m h w) = lines_lines (path_lines p) (line_lines (refl, refl, refl))

-- ---- places

module _ {s : Bytes} where
  -- a place ahead of a sound state is on its line
  ahead_on : {a : State} {i : ℕ} → Stands s a → Ahead s a.offset i → On s a (pos_of s a i)
  ahead_on {a} {i} h g =
      record { place = i; is = refl; after = omega (arith, h.sound.order, g.forward); character = clean_character (g.clean (stands_clean h)) }

  -- so is where it stands
  here_on : {a : State} → Stands s a → On s a (cur_pos s a)
  here_on h = ahead_on h ahead_here

  -- what is on a line is on it by every state there
  pub line_on : {a b : State} {p : Pos} → OnLine a b → On s a p → On s b p
  unfolding col_by
  line_on {a} {b} q o =
      record { place = o.place; is = rw (q.0, q.1, q.2) o.is; after = omega (arith, o.after, q.1); character = o.character }

  -- ---- pieces of comments

  module _ {from : ℕ} {st : State} {t : Step} (p : Piece s from st t) where
    piece_places : Stands s st → PiecePlaced s st t.next t.item
    piece_places h = subst (λ (x : Step). PiecePlaced s st x.next x.item) (sym p.is) record {
      start = (path_reads p.path).comment;
      end = line_on (closing_line p.last) (here_on (path_stands p.path h));
      closed = p.closed;
      extra = refl;
    }

    piece_lines : Lines st t.next
    piece_lines =
        subst (λ (x : Step). Lines st x.next) (sym p.is) (lines_lines (path_lines p.path) (line_lines (closing_line p.last)))

    -- if the comment goes on, its start is the piece's
    piece_began : t.next.mode ≡ 1 → t.next.comment ≡ t.item.sp
    unfolding close_comment
    piece_began =
        subst (λ (x : Step). x.next.mode ≡ 1 → x.next.comment ≡ x.item.sp) (sym p.is)
        (by_lt (λ (b : State). b.mode ≡ 1 → b.comment ≡ p.last.comment) 1 p.last.depth (λ _ _. refl) (λ _ m. absurd (omega arith)))

-- ---- items that are given between comments

-- what is shown of one that is given at st: where its positions stand, how lines go on, and where a comment began that goes on after it
record Situated (s : Bytes) (st : State) (t : Step) : Type 0 where
  placed : Placed s st t.next t.item
  lines : Lines st t.next
  began : t.next.mode ≡ 1 → t.next.comment ≡ t.item.sp

-- a token has no position besides its range
plain_on : (s : Bytes) (a b : State) {x : Extra} → Plain x → ExtraOn s a b x
plain_on s a b nothing = tt
plain_on s a b (code_point c) = tt

module _ {s : Bytes} where
  -- at its end a text gives EOF
  eof_situated : {st : State} → Stands s st → Situated s st (tok (kind "EOF") [] st.offset (cur_pos s st) (cur_pos s st) NoExtra (ended st))
  eof_situated h = record {
    placed = record { start = inl (here_on h); end = line_on (refl, refl, refl) (here_on h); extra = tt };
    lines = line_lines (refl, refl, refl);
    began = λ q. absurd (omega arith);
  }

  module _ {st : State} (h : Stands s st) (m : st.mode ≡ 0) where
    -- a path comes to no comment
    none_open : {A : Type 0} {a : State} → Path s st a → a.mode ≡ 1 → A
    none_open p q = absurd (omega (arith, (path_reads p).mode))

    form_situated : {name : Bytes} {U : Type 0} {t : Step} → Form s name U st t → Situated s st t
    form_situated (token {a} k text x at p l b) = record {
      placed = record { start = inl (ahead_on h at); end = here_on (path_stands p h); extra = plain_on s st a x };
      lines = path_lines p;
      began = none_open p;
    }
    form_situated (blob k title contents at p e l b) = record {
      placed = record {
        start = inr (line_on (refl, refl, refl) (here_on (path_stands p h)));
        end = here_on (path_stands (on _ p e) h);
        extra = (inl (ahead_on h at), inl (here_on h));
      };
      lines = path_lines (on _ p e);
      began = none_open p;
    }
    form_situated (a_line text at o b) = record {
      placed = record { start = inl (ahead_on h at); end = line_on (refl, refl, refl) (ahead_on h (walk_ahead o.walk)); extra = tt };
      lines = line_lines (refl, refl, refl);
      began = λ q. absurd (omega arith);
    }
    form_situated (opened o p) =
        let q = piece_places p (open_stands h m o) in
        record {
          placed = record {
            start = inl (subst (On s st) (sym q.start) (here_on h));
            end = q.end;
            extra = subst (ExtraOn s st _) (sym q.extra) tt;
          };
          lines = lines_lines (line_lines (refl, refl, refl)) (piece_lines p);
          began = piece_began p;
        }
    form_situated (error n text p at b u) =
        let k = path_stands p h in
        let stop = line_on (refl, refl, refl) (here_on k) in
        record {
          placed = record { start = inr stop; end = stop; extra = (inr stop, inr (line_on (refl, refl, refl) (ahead_on k at))) };
          lines = lines_lines (path_lines p) (line_lines (refl, refl, refl));
          began = λ q. absurd (omega arith);
        }

module _ (s name f : Bytes) where
  turn_situated : (st : State) → Stands s st → st.mode ≡ 0 → Leads Any (Situated s st) (token_turn s name f st)
  unfolding token_turn
  turn_situated st h m =
      by_le (Leads Any (Situated s st)) (length s) st.offset (λ _. eof_situated h)
      (λ l. leads_map (λ b g. tt) (λ t v. form_situated h m v) (act s name f st (select s f st.offset)) (act_says s name f st (omega arith)))

  -- ---- steps

  -- Lines go on to where a step gives its item,
  pub given_lines : (st : State) → Lines st (given_at s name f st)
  given_lines st = path_lines (given_path s name f st)

  module _ (st : State) (h : Stands s st) where
    -- the item of a step between comments
    step_situated : st.mode ≡ 0 → Situated s (given_at s name f st) (step s name f st)
    step_situated m =
        let a = chosen_at s name f st in
        let k = chosen_stands s name f st h m in
        rw (given_between s name f st m, step_between s name f st m)
        (subst (Leads Any (Situated s a)) (chosen_given s name f st).gives (turn_situated a k.0 k.1))

    -- Between comments the positions of a step's item stand on the line where it is given, or on the line of the state after it.
    pub step_placed : st.mode ≡ 0 → Placed s (given_at s name f st) (step s name f st).next (step s name f st).item
    step_placed m = (step_situated m).placed

    -- In a comment its start is the comment's, and it has but one position more.
    pub piece_placed : st.mode ≡ 1 → PiecePlaced s st (step s name f st).next (step s name f st).item
    piece_placed m = piece_places (carried_piece s name f st m) h

    module _ (going : st.mode ≡ 2 → ⊥) where
      -- a sound state that hasn't ended is between comments or in one
      pub either_way : {A : Type 0} → (st.mode ≡ 0 → A) → (st.mode ≡ 1 → A) → A
      either_way between inside = by_equal st.mode 1 inside (λ n. between (omega (arith, h.sound.mode, n, going)))

      -- from there on to the state after it,
      pub next_lines : Lines (given_at s name f st) (step s name f st).next
      next_lines =
          either_way (λ m. (step_situated m).lines)
          (λ m. rw (given_inside s name f st m) (piece_lines (carried_piece s name f st m)))

      -- and so over the whole step.
      pub step_lines : Lines st (step s name f st).next
      step_lines = lines_lines (given_lines st) next_lines

      -- In a comment that goes on after it, where the comment began is where the item says that it did.
      pub comment_start : (step s name f st).next.mode ≡ 1 → (step s name f st).next.comment ≡ (step s name f st).item.sp
      comment_start = either_way (λ m. (step_situated m).began) (λ m. piece_began (carried_piece s name f st m))
