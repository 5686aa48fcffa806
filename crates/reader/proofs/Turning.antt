-- A loop of a reader, turn by turn: what a turn has read is what the definition's loop gives, and where it goes on the
-- definition's loop goes on. Rests on nothing but the definition.
use mathlib.Core.Path.{◌≡◌, sym, ap, subst}
use Rattle.definition.specs.Basics.{Bytes, Turn, again, done}
use Rattle.definition.specs.Item.{Step}
use Rattle.definition.specs.declared.State.{State}
use Rattle.lemmas.proofs.Loops.{says, Leads}
use Rattle.reader.specs.declared.Read.{Read}
use Rattle.reader.specs.declared.Cursor.{Cursor}
use Rattle.reader.specs.declared.ReadResult.TheVariants.{Done, Again}
use Rattle.reader.specs.Described.{KnownAt, Reads, Turns}

module _ (s name f : Bytes) where
  -- the turn answers
  pub turned_done : (t : Turn State Step) (k : State → Step) (r : Read) → Turns s name f t (Done r) → Reads s name f (says t k) r
  turned_done (again b) k r h = absurd h
  turned_done (done t) k r h = h

  -- what a turn that goes on says of the place where it does, if turns lead to places of which P holds
  pub record GoesOn (P : State → Type 0) (t : Turn State Step) (k : State → Step) (p : Cursor) : Type 0 where
    pub same : says t k ≡ k p.st
    pub known : KnownAt s p.st p.known
    pub holds : P p.st

  pub turned_again : (P : State → Type 0) (Q : Step → Type 0) (t : Turn State Step) (k : State → Step) (p : Cursor)
      → Leads P Q t → Turns s name f t (Again p) → GoesOn P t k p
  turned_again P Q (again b) k p l h = record {
    same = ap k (sym h.0);
    known = subst (λ (st : State). KnownAt s st p.known) (sym h.0) h.1;
    holds = subst P (sym h.0) l;
  }
  turned_again P Q (done t) k p l h = absurd h
