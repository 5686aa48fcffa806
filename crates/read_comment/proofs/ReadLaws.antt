-- What is read is what the definition's `line_comment` gives. Rests on the laws of runs and of columns.
use Prim.Native.Nat.{ℕ, ◌-◌, ◌≤◌}
use mathlib.Core.Path.{◌≡◌, refl, sym, ap, ◌∙◌}
use mathlib.Core.Bool.{true}
use mathlib.Core.List.{◌++◌}
use native.Mathlib.Omega.{arith}
use lib.ListN.{length, take, drop, length-take}
use lib.Seq.{slice, length-slice, take-take}
use Rattle.definition.specs.Basics.{Bytes, ch}
use Rattle.definition.specs.Text.{lexeme, star, run_end}
use Rattle.definition.specs.Chars.{is_newline_char}
use Rattle.definition.specs.Position.{one_each}
use Rattle.definition.specs.State.{advance, one_more_comment}
use Rattle.definition.specs.Item.{item_of}
use Rattle.definition.specs.Comment.{line_comment}
use Rattle.definition.specs.declared.State.{State}
use Rattle.definition.specs.declared.Extra.TheVariants.{Comment}
use Rattle.lemmas.proofs.Lists.{slice_then_drop}
use Rattle.laws_progress.proofs.Walks.{walk_within, walk_forward, star_walks}
use Rattle.star.specs.Stops.{goes_on}
use Rattle.star.proofs.StopLaws.{line_stop}
use Rattle.laws_run.proofs.Moving.{stands_within}
use Rattle.position.specs.Columns.{Asked, located}
use Rattle.position.specs.declared.Located.{Located}
use Rattle.position.proofs.Counting.{known_again}
use Rattle.reader.specs.declared.Cursor.{Cursor}
use Rattle.reader.specs.declared.Payload.TheVariants.{Part}
use Rattle.reader.proofs.Standing.{asks, known_kept, stays}
use Rattle.read_comment.specs.LineCommentContracts.{After, ReadsAny}

-- Two parts of a text in a row are one.
slice_slice : (i j k : ℕ) (s : Bytes) → i ≤ j → j ≤ k → k ≤ length s → slice i j s ++ slice j k s ≡ slice i k s
slice_slice i j k s p q r =
    let n : j ≤ length (take k s) = omega (arith, length-take k s) in
    ap (λ (l : Bytes). drop i l ++ slice j k s) (sym (take-take j k s q)) ∙ slice_then_drop i j (take k s) p n

-- where a line's comment may end: after its start, within the text
pub record LineEnd (s : Bytes) (st : State) (to : ℕ) : Type 0 where
  pub on : st.offset ≤ to
  pub within : to ≤ length s
  pub fits : to ≤ 1048576

module _ {s : Bytes} {from to : ℕ} {at : Cursor} (h : After s from at) (e : to ≡ star (goes_on (ch "\n") (ch "\n")) s at.st.offset) where
  -- A line's comment ends there.
  pub line_ends : LineEnd s at.st to
  line_ends =
      let w = star_walks (goes_on (ch "\n") (ch "\n")) s at.st.offset in
      let l : to ≤ length s = omega (arith, walk_within w (stands_within h.standing.stands)) in
      record { on = omega (arith, walk_forward w); within = l; fits = omega (arith, h.standing.stands.short) }

  -- Its end's column may be asked for, from its start's.
  pub line_asked : {start : Located} → start ≡ located s at.st at.st.offset → Asked one_each s at.st start.known to
  line_asked {start} p = let w = line_ends in asks (stays start h.standing p) to (omega (arith, h.standing.stands.sound.order, w.on)) w.within

  -- What is made of its end and its positions is what `line_comment` gives.
  pub line_reads : {n : ℕ} {start end : Located} {next : State}
      → n ≡ to - from
      → start ≡ located s at.st at.st.offset
      → end ≡ located s at.st to
      → next ≡ one_more_comment (advance at.st to)
      → ReadsAny s (line_comment s from (lexeme s from at.st.offset) at.st) (record {
        item = item_of 0 n from start.pos end.pos (Comment true) next;
        payload = Part from to;
        next = next;
        known = end.known;
      })
  unfolding line_comment
  line_reads {n} {start} {end} {next} q a b t name f =
      let w = line_ends in
      let line : to ≡ run_end is_newline_char s at.st.offset = e ∙ line_stop s at.st.offset in
      let bytes : lexeme s from to ≡ lexeme s from at.st.offset ++ lexeme s at.st.offset to =
      sym (slice_slice from at.st.offset to s h.order w.on w.within) in
      let long : to - from ≡ length (lexeme s from at.st.offset ++ lexeme s at.st.offset to) =
      sym (length-slice from to s w.within) ∙ ap length bytes in
      rw (← line) record {
        item = rw (q ∙ long, a, b, t) refl;
        payload = record { is = bytes; long = long; inside = w.within };
        next = t;
        known = rw b (known_kept at.st _ refl refl (known_again _ s at.st to (omega (arith, h.standing.stands.sound.order, w.on))));
      }
