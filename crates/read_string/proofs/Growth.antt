-- A literal only gets longer: what is read of one begins what it holds, unless it is an error. Rests on the laws of loops.
use Prim.Native.Nat.{ℕ, ◌≤◌, ◌<◌}
use mathlib.Core.Path.{◌≡◌, refl, sym, ap, subst, ◌∙◌}
use mathlib.Core.List.{[], ◌∷◌, ◌++◌, append-nil, append_assoc}
use native.Mathlib.Omega.{arith}
use lib.ListN.{length, length-append}
use Rattle.definition.specs.Basics.{Bytes, Turn, fuel}
use Rattle.definition.specs.Utf8.{encode}
use Rattle.definition.specs.Text.{lexeme}
use Rattle.definition.specs.State.{no_pos, started, advance}
use Rattle.definition.specs.Item.{Step}
use Rattle.definition.specs.Strings.{string_turn}
use Rattle.definition.specs.declared.State.{State}
use Rattle.lemmas.proofs.Loops.{Leads, loop_keeps}
use Rattle.laws_run.specs.Going.{string_from}
use Rattle.read_string.specs.declared.moves.Move.{Move}
use Rattle.read_string.specs.declared.moves.Move.TheVariants.{Copy, Skip, Line, Char, Surrogate, Close, Open}
use Rattle.read_string.specs.Moves.{string_move}
use Rattle.read_string.specs.Literal.{does, literal_from}
use Rattle.read_string.proofs.TurnLaws.{turn_does}

-- x begins with acc
pub record Begins (acc x : Bytes) : Type 0 where
  pub more : Bytes
  pub is : x ≡ acc ++ more

-- what acc has grown to: nothing, where an error ends the literal, or what begins with acc
pub data Grows (acc l : Bytes) : Type 0 where
  wrong : l ≡ [] → Grows acc l
  right : Begins acc l → Grows acc l

-- more after it
begins_on : {acc x : Bytes} (y : Bytes) → Begins acc x → Begins acc (x ++ y)
begins_on {acc} {x} y h = record { more = h.more ++ y; is = ap (λ (z : Bytes). z ++ y) h.is ∙ append_assoc acc h.more y }

-- a list without elements
no_more : (l : Bytes) → length l ≤ 0 → l ≡ []
no_more [] h = refl
no_more (x ∷ l) h = absurd (omega arith)

module _ {acc l : Bytes} where
  -- what isn't empty is as long as what it began with
  pub grows_longer : Grows acc l → 0 < length l → length acc ≤ length l
  grows_longer (wrong e) h = absurd (omega (arith, ap length e))
  grows_longer (right b) h = omega (arith, ap length b.is, length-append acc b.more)

  -- and what is no longer is that
  pub grows_ends : Grows acc l → length l ≡ length acc → l ≡ acc
  grows_ends (wrong e) h = e ∙ sym (no_more acc (omega (arith, ap length e)))
  grows_ends (right b) h =
      let n : length b.more ≤ 0 = omega (arith, ap length b.is, length-append acc b.more) in
      b.is ∙ ap (λ (x : Bytes). acc ++ x) (no_more b.more n) ∙ append-nil acc

module _ (s f acc : Bytes) where
  -- acc is what is read of the literal at first
  abbrev Growing : Turn (State × Bytes) Step → Type 0
  Growing = Leads (λ (a : State × Bytes). Begins acc a.1) (λ (t : Step). Grows acc t.payload)

  -- what is done with a move
  does_grow : (st : State) (x : Bytes) (m : Move) → Begins acc x → Growing (does s 0 no_pos st x m)
  does_grow st x (Copy e) h = begins_on (lexeme s st.offset e) h
  does_grow st x (Skip e) h = h
  does_grow st x (Line e) h = begins_on (lexeme s st.offset e) h
  does_grow st x (Char c e) h = begins_on (encode c) h
  does_grow st x Surrogate h = wrong refl
  does_grow st x (Close e) h = right h
  does_grow st x Open h = wrong refl

  -- a turn
  turn_grows : (a : State × Bytes) → Begins acc a.1 → Growing (string_turn s f 0 no_pos a)
  turn_grows a h = subst Growing (sym (turn_does s f 0 no_pos a.0 a.1)) (does_grow a.0 a.1 (string_move s f a.0.offset) h)

  -- The literal begins with what is read of it.
  pub literal_grows : (i : ℕ) → Grows acc (literal_from s f i acc)
  unfolding string_from
  literal_grows i =
      loop_keeps (string_turn s f 0 no_pos) (λ (a : State × Bytes). Begins acc a.1) (λ (t : Step). Grows acc t.payload) _ turn_grows (λ a _. wrong refl)
      (fuel s) (advance (started 0 0) i, acc) (record { more = []; is = sym (append-nil acc) })
