-- What each change that reading makes to a state keeps of its soundness. Rests on the laws of walks: after a walk by whole
-- characters a character stands, or the text's end.
use Prim.Native.Nat.{ℕ, ◌+◌, ◌≤◌, ◌<◌}
use mathlib.Core.Path.{◌≡◌, refl, sym, subst, ◌∙◌}
use mathlib.Core.Bool.{true, not, false≢true}
use native.Mathlib.Omega.{arith}
use lib.Dec.{ltb, leb}
use lib.ListN.{length, get_or}
use borrow.Author.Tests.{lt-ltb, le-ltb, le-leb, eq-eqb, ltb-true, eqb-true, not-true}
use Rattle.definition.specs.Basics.{Bytes}
use Rattle.definition.specs.Text.{first_bad, star}
use Rattle.definition.specs.State.{at_character, advance, new_line, one_more_comment, ended, open_comment, deeper, close_comment}
use Rattle.definition.specs.Position.{is_continuation, cur_pos}
use Rattle.definition.specs.declared.State.{State}
use Rattle.lemmas.proofs.Cases.{by_lt, by_if, both_true}
use Rattle.utf8.proofs.Character.{char_read}
use Rattle.utf8.proofs.Boundaries.{char_starts}
use Rattle.state.specs.Sound.{Sound, Stands}
use Rattle.position.proofs.Counting.{column_small}
use Rattle.laws_progress.proofs.Characters.{char_at}
use Rattle.laws_progress.proofs.Walks.{Walk, here, on, Onward, walk_to, walk_within, walk_forward, star_walks, Clean, clean_walk}

-- the text has whole characters only where no offset is bad
pub first_bad_clean : (s : Bytes) → length s ≤ first_bad s → Clean s 0
unfolding first_bad
first_bad_clean s h =
    let u = star_walks (λ c. true) s 0 in
    let q : star (λ c. true) s 0 ≡ length s = omega (arith, walk_within u (omega arith)) in
    subst (Walk s 0) q u

-- in a clean text an offset that is at a character, or at the end, is one
pub at_character_clean : (s : Bytes) (i : ℕ) → Clean s 0 → at_character s i ≡ true → Clean s i
unfolding at_character is_continuation
at_character_clean s i c = by_if (λ t. t ≡ true → Clean s i) (ltb i (length s)) inside (λ _ t. here (eqb-true i (length s) t))
  where
    inside : ltb i (length s) ≡ true → not (is_continuation (get_or s i 0)) ≡ true → Clean s i
    inside h t = clean_walk (walk_to i c (omega arith) (ltb-true i (length s) h) λ x.
        false≢true
        (sym (not-true (is_continuation (get_or s i 0)) t)
        ∙ both_true (leb 0x80 (get_or s i 0)) (leb (get_or s i 0) 0xBF) (le-leb _ _ x.least) (le-leb (get_or s i 0) 0xBF (omega (arith, x.most))))) c

module _ {s : Bytes} where
  -- where whole characters begin, one of them stands or the text ends
  pub clean_character : {i : ℕ} → Clean s i → at_character s i ≡ true
  unfolding at_character
  clean_character {i} (here q) = rw (le-ltb i (length s) (omega arith)) (eq-eqb i (length s) q)
  clean_character {i} (on c w q u) =
      let a = char_at q in
      rw (lt-ltb i (length s) (omega (arith, a.some, a.within)), char_starts (char_read q)) refl

  -- a sound state in a legal text has whole characters ahead of it
  pub stands_clean : {st : State} → Stands s st → Clean s st.offset
  stands_clean {st} h = at_character_clean s st.offset (first_bad_clean s h.legal) h.sound.offset

  -- and stands within the text
  pub stands_within : {st : State} → Stands s st → st.offset ≤ length s
  stands_within h = walk_forward (stands_clean h)

  -- the text being what it was, a state is to be sound
  stands_by : {st b : State} → Stands s st → Sound s b → Stands s b
  stands_by h m = record { short = h.short; legal = h.legal; sound = m }

  module _ {st : State} (h : Stands s st) where
    -- reading on to a character
    pub advance_stands : (j : ℕ) → Clean s j → st.offset ≤ j → Stands s (advance st j)
    advance_stands j c l =
        let m = h.sound in
        stands_by h
        record {
          offset = clean_character c;
          bol = m.bol;
          order = omega (arith, m.order);
          line = omega (arith, m.line);
          column = m.column;
          comments = omega (arith, m.comments);
          mode = m.mode;
          opened = m.opened;
          level = m.level;
          nowhere = m.nowhere;
          comment_line = m.comment_line;
          comment_col = m.comment_col;
        }

    -- the same by a walk
    pub walk_stands : {j : ℕ} → Walk s st.offset j → Stands s (advance st j)
    walk_stands {j} u = advance_stands j (clean_walk u (stands_clean h)) (walk_forward u)

    -- a line more, for a byte or more
    pub new_line_stands : (j : ℕ) → Clean s j → st.offset < j → Stands s (new_line (advance st j))
    new_line_stands j c l =
        let m = h.sound in
        stands_by h
        record {
          offset = clean_character c;
          bol = clean_character c;
          order = omega arith;
          line = omega (arith, m.line);
          column = omega arith;
          comments = omega (arith, m.comments);
          mode = m.mode;
          opened = m.opened;
          level = m.level;
          nowhere = m.nowhere;
          comment_line = omega (arith, m.comment_line);
          comment_col = m.comment_col;
        }

    -- a comment more, where the counts leave room for it
    pub one_more_stands : st.comments + st.depth < st.offset → Stands s (one_more_comment st)
    one_more_stands l =
        let m = h.sound in
        stands_by h
        record {
          offset = m.offset;
          bol = m.bol;
          order = m.order;
          line = m.line;
          column = m.column;
          comments = omega (arith, l);
          mode = m.mode;
          opened = m.opened;
          level = m.level;
          nowhere = m.nowhere;
          comment_line = m.comment_line;
          comment_col = m.comment_col;
        }

    module _ (in_comment : st.mode ≡ 1) where
      -- a level more, for two bytes
      pub deeper_stands : Clean s (st.offset + 2) → Stands s (deeper (advance st (st.offset + 2)))
      deeper_stands c =
          let m = (advance_stands (st.offset + 2) c (omega arith)).sound in
          stands_by h
          record {
            offset = m.offset;
            bol = m.bol;
            order = m.order;
            line = m.line;
            column = m.column;
            comments = omega (arith, h.sound.comments);
            mode = m.mode;
            opened = λ _. omega arith;
            level = λ n. absurd (n in_comment);
            nowhere = m.nowhere;
            comment_line = m.comment_line;
            comment_col = m.comment_col;
          }

      -- a level less: the comment that it ends is counted instead
      pub closing_stands : Stands s (close_comment st)
      unfolding close_comment
      closing_stands =
          let m = h.sound in
          let d = m.opened in_comment in
          by_lt (Stands s) 1 st.depth
          (λ l. stands_by h
          record {
            offset = m.offset;
            bol = m.bol;
            order = m.order;
            line = m.line;
            column = m.column;
            comments = omega (arith, m.comments);
            mode = omega arith;
            opened = λ _. omega arith;
            level = λ n. absurd (n refl);
            nowhere = λ n. absurd (n refl);
            comment_line = m.comment_line;
            comment_col = m.comment_col;
          })
          (λ l. stands_by h
          record {
            offset = m.offset;
            bol = m.bol;
            order = m.order;
            line = m.line;
            column = m.column;
            comments = omega (arith, m.comments, d);
            mode = omega arith;
            opened = λ q. absurd (omega arith);
            level = λ _. refl;
            nowhere = λ _. (refl, refl);
            comment_line = omega arith;
            comment_col = omega arith;
          })

    module _ (between : st.mode ≡ 0) where
      -- then it is in no comment
      outside : st.mode ≡ 1 → ⊥
      outside n = absurd (omega arith)

      -- the reading's end, between comments
      pub ended_stands : Stands s (ended st)
      ended_stands =
          let m = h.sound in
          stands_by h
          record {
            offset = m.offset;
            bol = m.bol;
            order = m.order;
            line = m.line;
            column = m.column;
            comments = m.comments;
            mode = omega arith;
            opened = λ q. absurd (omega arith);
            level = λ _. m.level outside;
            nowhere = λ _. m.nowhere outside;
            comment_line = m.comment_line;
            comment_col = m.comment_col;
          }

      -- an opening, between comments: one level, for a byte or more. Its start is a position of the state's line
      pub open_stands : {e : ℕ} → Onward s st.offset e → Stands s (open_comment (advance st e) (cur_pos s st))
      open_stands {e} o =
          let m = (walk_stands o.walk).sound in
          let p = h.sound in
          stands_by h
          record {
            offset = m.offset;
            bol = m.bol;
            order = m.order;
            line = m.line;
            column = m.column;
            comments = omega (arith, p.comments, o.past);
            mode = omega arith;
            opened = λ _. omega arith;
            level = λ n. absurd (n refl);
            nowhere = λ n. absurd (n refl);
            comment_line = omega arith;
            comment_col = omega (arith, column_small s st st.offset, p.column, stands_within h, h.short);
          }
