-- Comments: one walk over a turn of `comment`, in which the state goes on by a path. From it that its fuel never runs out, and that what
-- it gives is a piece; and a line's comment. Rests on paths and forms, and on the ends of matchers and runs (crate `laws_progress`).
use Prim.Native.Nat.{ℕ, ◌+◌, ◌-◌, ◌≤◌, ◌<◌}
use mathlib.Core.Path.{◌≡◌, refl, ◌∙◌}
use mathlib.Core.Bool.{Bool, true, false, not, ◌&&◌}
use mathlib.Core.List.{◌++◌}
use native.Mathlib.Omega.{arith}
use lib.ListN.{length, length-append}
use Rattle.definition.specs.Basics.{Bytes, Turn, loop, fuel, ch}
use Rattle.definition.specs.Utf8.{encode, encode_all}
use Rattle.definition.specs.Text.{byte_is, lexeme, run_end, after}
use Rattle.definition.specs.Chars.{is_newline_char}
use Rattle.definition.specs.Tables.{cps}
use Rattle.definition.specs.Position.{col_by}
use Rattle.definition.specs.Matchers.{match_newline}
use Rattle.definition.specs.State.{advance, deeper}
use Rattle.definition.specs.Item.{Step}
use Rattle.definition.specs.Comment.{comment_stop, terminate, comment_turn, comment, line_comment}
use Rattle.definition.specs.declared.State.{State}
use Rattle.lemmas.proofs.Loops.{says, Leads, leads_map, Falls, Any, loop_keeps, loop_same, loop_unroll}
use Rattle.lemmas.proofs.Cases.{by_test, by_lt, by_le, by_match}
use Rattle.state.specs.Sound.{Stands}
use Rattle.laws_progress.proofs.Walks.{rest, Onward, walk_past, walk_forward, star_walks, Clean}
use Rattle.laws_progress.proofs.Matches.{newline_ends}
use Rattle.laws_progress.proofs.Scans.{after_walks, after_onward, two_onward}
use Rattle.laws_run.proofs.Moving.{closing_stands}
use Rattle.laws_run.proofs.Sizes.{part_size, trim_size}
use Rattle.laws_run.proofs.Paths.{Ahead, walk_ahead, Path, stay, on, inner, path_path, path_reads, Goes, goes_on, goes_line, path_stands, goes_stands}
use Rattle.laws_run.proofs.Forms.{Piece, Form, line as a_line}

-- in a comment whose text from here on has whole characters only
abbrev pub InComment : Bytes → State → Type 0
InComment s st = Clean s st.offset × (st.mode ≡ 1)

module _ (s : Bytes) (from : ℕ) where
  -- a piece that began at byte `from` ends at st
  pub data CommentEnd (st : State) : Step → Type 0 where
    ends : {b : State} (closed : Bool) → Path s st b → CommentEnd st (terminate s from st.offset closed b)

  -- a turn of `comment`
  comment_leads : (st : State) → st.mode ≡ 1 → Leads (Goes s (Clean s st.offset) st) (CommentEnd st) (comment_turn s from st)
  comment_leads st m =
      by_lt L i (run_end comment_stop s i) (λ h. goes_on st (walk_past (star_walks _ s i) h)) λ _.
      by_test L (byte_is (ch "(") s i && byte_is (ch "*") s (i + 1)) (λ t. opening (two_onward s (ch "(") (ch "*") i (omega arith) (omega arith) t)) λ _.
      by_match L (match_newline s i) (λ nl q. goes_line st ((newline_ends s i).at q)) λ _.
      by_test L (byte_is (ch "*") s i && byte_is (ch ")") s (i + 1))
      (λ t. ends true (on (i + 2) stay (walk_ahead (two_onward s (ch "*") (ch ")") i (omega arith) (omega arith) t).walk))) λ _.
      by_le L (length s) i (λ _. ends false stay) λ h.
      record { path = on (after s i) stay (walk_ahead (after_walks s i)); moves = λ c. let o = after_onward s i c h in omega arith }
    where
      L : Turn State Step → Type 0
      L = Leads (Goes s (Clean s st.offset) st) (CommentEnd st)

      i : ℕ
      i = st.offset

      opening : Onward s i (i + 2) → Goes s (Clean s i) st (deeper (advance st (i + 2)))
      opening o = record { path = inner stay m (walk_ahead o.walk) o.within; moves = λ _. omega (arith, o.within) }

  -- in a clean text each turn reads something
  pub comment_falls : Falls (comment_turn s from) (InComment s) (λ st. rest s st.offset) Any
  comment_falls = record {
    at = λ st h. leads_map
        (λ b g. let r = path_reads g.path in ((r.ahead.clean h.0, r.mode ∙ h.1), g.moves h.0)) (λ t _. tt)
        (comment_turn s from st) (comment_leads st h.1);
  }

  -- from a sound state a turn comes to one, and in a comment it stays in it, or ends a level
  pub comment_turn_stands : (st : State) → Stands s st → st.mode ≡ 1
      → Leads (λ b. Stands s b × (b.mode ≡ 1)) (λ t. Stands s t.next) (comment_turn s from st)
  comment_turn_stands st h m = leads_map (λ b g. let k = goes_stands g h in (k.0, k.1 ∙ m)) end (comment_turn s from st) (comment_leads st m)
    where
      end : (t : Step) → CommentEnd st t → Stands s t.next
      end t (ends closed p) = closing_stands (path_stands p h) ((path_reads p).mode ∙ m)

  -- more fuel and another `out` change nothing
  pub comment_enough : (out : State → Step) (n : ℕ) (st : State) → InComment s st → rest s st.offset < n → loop (comment_turn s from) out n st ≡ comment s from st
  unfolding comment
  comment_enough out n st c h = loop_same comment_falls out _ n (fuel s) st c h (omega arith)

  -- `comment` is what its first turn says
  pub comment_unroll : (st : State) → InComment s st → comment s from st ≡ says (comment_turn s from st) (comment s from)
  unfolding comment
  comment_unroll st c = loop_unroll comment_falls _ (fuel s) st c (omega arith)

  module _ (st : State) (began : from ≤ st.offset) where
    -- the piece ends where one came to
    piece : {a : State} {t : Step} → Path s st a → CommentEnd a t → Piece s from st t
    unfolding cps encode_all encode
    piece {a} p (ends {b} closed q) =
        let r = path_reads p in
        let e = path_reads q in
        record {
          began = began;
          last = b;
          path = path_path p q;
          text = _;
          closed = closed;
          is = refl;
          small = omega (
            arith,
            trim_size b.comment.col (lexeme s from a.offset ++ cps "*)"),
            length-append (lexeme s from a.offset) (cps "*)"),
            part_size s from a.offset,
            r.ahead.forward,
            e.ahead.forward,
          );
        }

    -- A piece of a comment.
    pub comment_piece : st.mode ≡ 1 → Piece s from st (comment s from st)
    unfolding comment
    comment_piece m =
        loop_keeps (comment_turn s from) (Path s st) (Piece s from st) (λ a. terminate s from a.offset false a)
        (λ a p. leads_map (λ b g. path_path p g.path) (λ t e. piece p e) (comment_turn s from a) (comment_leads a ((path_reads p).mode ∙ m)))
        (λ a p. piece p (ends false stay)) (fuel s) st stay

-- A line's comment from j on, where a part of the text up to j, or nothing, stands before it; st is where that part begins.
pub line_comment_form : {s name : Bytes} {U : Type 0} (pre : Bytes) (st : State) (j : ℕ) → Ahead s st.offset j
    → Onward s st.offset (run_end is_newline_char s j) → length pre ≤ j - st.offset
    → Form s name U st (line_comment s st.offset pre (advance st j))
unfolding line_comment col_by
line_comment_form {s} pre st j h o l =
    a_line (pre ++ lexeme s j (run_end is_newline_char s j)) h o
    (omega (
      arith,
      length-append pre (lexeme s j (run_end is_newline_char s j)),
      part_size s j (run_end is_newline_char s j),
      h.forward,
      walk_forward (star_walks (λ c. not (is_newline_char c)) s j),
    ))
