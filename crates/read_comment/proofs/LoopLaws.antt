-- `comment` turn by turn: what is still to be read gives what the whole gives. Rests on the laws of its loop, and that each turn keeps a
-- sound state sound.
use Prim.Native.Nat.{ℕ, ◌<◌}
use mathlib.Core.Path.{◌≡◌, refl, sym, subst, ◌∙◌}
use mathlib.Core.List.{[]}
use Rattle.definition.specs.Basics.{Bytes}
use Rattle.definition.specs.Comment.{comment_turn, comment}
use Rattle.definition.specs.declared.State.{State}
use Rattle.lemmas.proofs.Loops.{Leads, Any, leads_both}
use Rattle.state.specs.Sound.{Stands}
use Rattle.laws_progress.proofs.Walks.{rest, Clean}
use Rattle.laws_run.proofs.CommentReader.{comment_unroll, comment_falls, comment_turn_stands}
use Rattle.laws_run.proofs.Moving.{stands_clean}
use Rattle.reader.specs.Described.{Reads}
use Rattle.reader.specs.declared.Cursor.{Cursor}
use Rattle.reader.specs.declared.Read.{Read}
use Rattle.reader.specs.declared.ReadResult.{ReadResult}
use Rattle.reader.specs.declared.ReadResult.TheVariants.{Done, Again}
use Rattle.reader.proofs.Turning.{GoesOn, turned_done, turned_again}
use Rattle.read_comment.specs.LineCommentContracts.{ReadsAny}
use Rattle.read_comment.specs.CommentContracts.{InComment, TurnsAny}

-- here, in the comment, what is to be read is what was to be read at first
pub record Going (s : Bytes) (from : ℕ) (first here : Cursor) : Type 0 where
  pub inside : InComment s here
  pub same : comment s from here.st ≡ comment s from first.st

pub going_starts : {s : Bytes} (from : ℕ) {at : Cursor} → InComment s at → Going s from at at
going_starts from h = record { inside = h; same = refl }

module _ {s : Bytes} {from : ℕ} {first here : Cursor} (g : Going s from first here) where
  clean : Clean s here.st.offset
  clean = stands_clean g.inside.standing.stands

  -- What a turn has read is what the comment gives.
  pub going_ends : {m : ReadResult} {r : Read} → m ≡ Done r → TurnsAny s (comment_turn s from here.st) m → ReadsAny s (comment s from first.st) r
  going_ends {m} {r} e h name f =
      subst (λ t. Reads s name f t r) (sym (comment_unroll s from here.st (clean, g.inside.mode)) ∙ g.same)
      (turned_done s name f (comment_turn s from here.st) (comment s from) r ((rw e at h) name f))

  -- what holds of the state where a turn goes on
  abbrev Kept : State → Type 0
  Kept b = (Stands s b × (b.mode ≡ 1)) × ((Clean s b.offset × (b.mode ≡ 1)) × (rest s b.offset < rest s here.st.offset))

  kept : Leads Kept Any (comment_turn s from here.st)
  kept =
      leads_both _ _ _ _ (comment_turn s from here.st)
      (comment_turn_stands s from here.st g.inside.standing.stands g.inside.mode)
      ((comment_falls s from).at here.st (clean, g.inside.mode))

  module _ {m : ReadResult} {p : Cursor} (e : m ≡ Again p) (h : TurnsAny s (comment_turn s from here.st) m) where
    on : GoesOn s [] [] Kept (comment_turn s from here.st) (comment s from) p
    on = turned_again s [] [] Kept Any (comment_turn s from here.st) (comment s from) p kept ((rw e at h) [] [])

    -- Where it goes on the comment does.
    pub going_on : Going s from first p
    going_on = record {
      inside = record { standing = record { stands = on.holds.0.0; cached = on.known }; mode = on.holds.0.1 };
      same = sym on.same ∙ sym (comment_unroll s from here.st (clean, g.inside.mode)) ∙ g.same;
    }

    -- Something was read.
    pub going_less : rest s p.st.offset < rest s here.st.offset
    going_less = on.holds.1.1
