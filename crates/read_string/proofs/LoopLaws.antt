-- The reader's loop: what is still to be read gives what the whole gives, turn by turn. Rests on the laws of the literal read so
-- far, and on the soundness of the definition's turns.
use Prim.Native.Nat.{ℕ, ◌+◌, ◌-◌, ◌≤◌, ◌<◌}
use mathlib.Core.Path.{◌≡◌, refl, sym, ap, subst, ◌∙◌}
use mathlib.Core.List.{[], ◌++◌, append-nil}
use native.Mathlib.Omega.{arith}
use lib.ListN.{length}
use lib.Seq.{length-slice}
use Rattle.definition.specs.Basics.{Bytes, Turn, again, done}
use Rattle.definition.specs.State.{advance, new_line}
use Rattle.definition.specs.Item.{Step}
use Rattle.definition.specs.Strings.{string_turn, string_lit}
use Rattle.definition.specs.declared.Pos.{Pos}
use Rattle.definition.specs.declared.State.{State}
use Rattle.lemmas.proofs.Loops.{says, Leads}
use Rattle.state.specs.Sound.{Stands}
use Rattle.laws_run.specs.Going.{string_from}
use Rattle.laws_run.proofs.StringReader.{string_unroll, string_is, string_turn_stands}
use Rattle.laws_run.proofs.Moving.{stands_within}
use Rattle.reader.specs.declared.Cursor.{Cursor}
use Rattle.reader.specs.declared.Read.{Read}
use Rattle.reader.specs.declared.ReadResult.TheVariants.{Done, Again}
use Rattle.reader.specs.Described.{KnownAt, Reads, Turns}
use Rattle.reader.specs.Standing.{Standing}
use Rattle.read_string.specs.declared.moves.Move.{Move}
use Rattle.read_string.specs.declared.moves.Move.TheVariants.{Copy, Skip, Line, Char, Surrogate, Close, Open}
use Rattle.read_string.specs.Moves.{string_move}
use Rattle.read_string.specs.Ends.{Past, Goes, adds, added, ends_at, On}
use Rattle.read_string.specs.Literal.{does, states, Held}
use Rattle.read_string.specs.Asks.{Safe, Turning, Reader}
use Rattle.read_string.proofs.TurnLaws.{turn_does}
use Rattle.read_string.proofs.Goes.{move_goes}
use Rattle.read_string.proofs.HeldLaws.{held_starts, held_on}

-- how many bytes a move adds
pub added_is : (s : Bytes) (i : ℕ) (m : Move) → Goes s i m → added i m ≡ length (adds s i m)
added_is s i (Copy e) g = sym (length-slice i e s g.within)
added_is s i (Skip e) g = refl
added_is s i (Line e) g = sym (length-slice i e s g.within)
added_is s i (Char c e) g = refl
added_is s i Surrogate g = refl
added_is s i (Close e) g = refl
added_is s i Open g = refl

-- a move after which the literal goes on reads something
pub on_past : {s : Bytes} {i : ℕ} (m : Move) → On m → Goes s i m → Past s i (ends_at i m)
on_past (Copy e) o g = g
on_past (Skip e) o g = g
on_past (Line e) o g = g
on_past (Char c e) o g = g.0
on_past Surrogate o g = absurd o
on_past (Close e) o g = absurd o
on_past Open o g = absurd o

-- a turn of the definition leads to a place to stand
abbrev LeadsSafe : Bytes → Turn (State × Bytes) Step → Type 0
LeadsSafe s = Leads (λ (b : State × Bytes). Stands s b.0 × (b.0.mode ≡ 0)) (λ (t : Step). Stands s t.next)

module _ (s name f : Bytes) (quote : ℕ) (sp : Pos) (st : State) (acc : Bytes) where
  -- whether it does doesn't depend on what was read
  states_safe : (m : Move) → LeadsSafe s (does s quote sp st acc m) → Safe s quote sp st m
  states_safe (Copy e) h = h
  states_safe (Skip e) h = h
  states_safe (Line e) h = h
  states_safe (Char c e) h = h
  states_safe Surrogate h = h
  states_safe (Close e) h = h
  states_safe Open h = h

  -- what a turn has read is what it says
  turn_done : (t : Turn (State × Bytes) Step) (k : State × Bytes → Step) (r : Read) → Turns s name f (states t) (Done r) → Reads s name f (says t k) r
  turn_done (again a) k r h = absurd h
  turn_done (done t) k r h = h

  -- what a turn that goes on at p says of it
  record GoesOn (k : State × Bytes → Step) (m : Move) (p : Cursor) : Type 0 where
    on : On m
    offset : p.st.offset ≡ ends_at st.offset m
    same : says (does s quote sp st acc m) k ≡ k (p.st, acc ++ adds s st.offset m)
    stands : Stands s p.st × (p.st.mode ≡ 0)
    known : KnownAt s p.st p.known

  module _ (k : State × Bytes → Step) (p : Cursor) where
    -- it goes on from b
    goes_on_from : (b : State) (m : Move) → On m → b.offset ≡ ends_at st.offset m → says (does s quote sp st acc m) k ≡ k (b, acc ++ adds s st.offset m)
        → Stands s b × (b.mode ≡ 0) → (p.st ≡ b) × KnownAt s b p.known → GoesOn k m p
    goes_on_from b m o q e l h = record {
      on = o;
      offset = rw h.0 q;
      same = rw h.0 e;
      stands = rw h.0 l;
      known = rw h.0 h.1;
    }

    -- a turn, by what is done
    turn_again : (m : Move) → Safe s quote sp st m → Turns s name f (states (does s quote sp st acc m)) (Again p) → GoesOn k m p
    turn_again (Copy e) l h = goes_on_from (advance st e) (Copy e) tt refl refl l h
    turn_again (Skip e) l h =
        goes_on_from (new_line (advance st e)) (Skip e) tt refl (ap (λ (x : Bytes). k (new_line (advance st e), x)) (sym (append-nil acc))) l h
    turn_again (Line e) l h = goes_on_from (new_line (advance st e)) (Line e) tt refl refl l h
    turn_again (Char c e) l h = goes_on_from (advance st e) (Char c e) tt refl refl l h
    turn_again Surrogate l h = absurd h
    turn_again (Close e) l h = absurd h
    turn_again Open l h = absurd h

-- ---- the loop

-- acc is read of the literal, and what is still to be read gives what the whole gives
pub record Reading (s f : Bytes) (quote : ℕ) (sp : Pos) (from count : ℕ) (first here : Cursor) : Type 0 where
  pub acc : Bytes
  pub standing : Standing s here.st here.known
  pub between : here.st.mode ≡ 0
  pub same : string_from s f quote sp (here.st, acc) ≡ string_lit s f first.st quote sp
  pub held : Held s f from here.st.offset count acc

-- before the first turn
pub reading_starts : {s f : Bytes} {quote : ℕ} {sp : Pos} {at : Cursor} → Reader s f at → Reading s f quote sp at.st.offset 0 at at
reading_starts {s} {f} {quote} {sp} {at} h = record {
  acc = [];
  standing = h.standing;
  between = h.between;
  same = sym (string_is s f quote sp at.st);
  held = held_starts s f at.st.offset (stands_within h.standing.stands);
}

-- no count is larger than the text
pub reading_small : {s f : Bytes} {quote : ℕ} {sp : Pos} {from count : ℕ} {first here : Cursor} → Reading s f quote sp from count first here → count ≤ 1048576
reading_small k =
    let h = k.held in
    omega (arith, h.counted, h.short, h.within, k.standing.stands.short)

module _ {s f : Bytes} {quote : ℕ} {sp : Pos} {from count : ℕ} {first here : Cursor} (k : Reading s f quote sp from count first here)
    {m : Move} (e : m ≡ string_move s f here.st.offset) where
  -- the turn is what is done with the move
  turn_is : string_turn s f quote sp (here.st, k.acc) ≡ does s quote sp here.st k.acc m
  turn_is = turn_does s f quote sp here.st k.acc ∙ ap (does s quote sp here.st k.acc) (sym e)

  -- so the turn may be taken
  pub reading_turns : Turning s count here quote sp m
  reading_turns = record {
    standing = k.standing;
    safe =
        states_safe s [] f quote sp here.st k.acc m
        (subst (LeadsSafe s) turn_is (string_turn_stands s f quote sp (here.st, k.acc) k.standing.stands k.between));
    small = omega (arith, reading_small k);
  }

  -- what is still to be read, by its first turn
  unrolled : says (does s quote sp here.st k.acc m) (string_from s f quote sp) ≡ string_lit s f first.st quote sp
  unrolled =
      sym (string_unroll s f quote sp (here.st, k.acc) ∙ ap (λ (t : Turn (State × Bytes) Step). says t (string_from s f quote sp)) turn_is) ∙ k.same

  module _ (name : Bytes) where
    -- what a turn has read is the whole
    pub reading_ends : (r : Read) → Turns s name f (states (does s quote sp here.st k.acc m)) (Done r) → Reads s name f (string_lit s f first.st quote sp) r
    reading_ends r t =
        subst (λ (x : Step). Reads s name f x r) unrolled
        (turn_done s name f quote sp here.st k.acc (does s quote sp here.st k.acc m) (string_from s f quote sp) r t)

    -- a turn that goes on reads something, and stands in the literal again
    pub reading_goes_on : (p : Cursor) (n : ℕ) → n ≡ added here.st.offset m → Turns s name f (states (does s quote sp here.st k.acc m)) (Again p)
        → Reading s f quote sp from (count + n) first p × (length s - p.st.offset < length s - here.st.offset)
    reading_goes_on p n c t =
        let i = here.st.offset in
        let g : Goes s i m = subst (Goes s i) (sym e) (move_goes s i f) in
        let a = turn_again s name f quote sp here.st k.acc (string_from s f quote sp) p m reading_turns.safe t in
        let past = on_past m a.on g in
        let h = held_on k.held m n a.on g (sym e) (c ∙ added_is s i m g) in (
          record {
            acc = k.acc ++ adds s i m;
            standing = record { stands = a.stands.0; cached = a.known };
            between = a.stands.1;
            same = sym a.same ∙ unrolled;
            held = rw a.offset h;
          },
          omega (arith, a.offset, past.past, past.within),
        )
