-- What a literal holds, move by move, and that it is the same from any state at its byte. Rests on the laws of loops.
use Prim.Native.Nat.{ℕ, zero, suc}
use mathlib.Core.Path.{◌≡◌, refl, sym, ap, ap₂, subst, ◌∙◌}
use mathlib.Core.List.{[], ◌++◌, append-nil}
use Rattle.definition.specs.Basics.{Bytes, Turn, again, done, loop, fuel}
use Rattle.definition.specs.Utf8.{encode}
use Rattle.definition.specs.Text.{lexeme}
use Rattle.definition.specs.State.{no_pos, started, advance, new_line}
use Rattle.definition.specs.Item.{Step}
use Rattle.definition.specs.Strings.{string_turn}
use Rattle.definition.specs.declared.State.{State}
use Rattle.lemmas.proofs.Loops.{says}
use Rattle.laws_run.specs.Going.{string_from}
use Rattle.laws_run.proofs.StringReader.{string_unroll, string_is}
use Rattle.reader.specs.Described.{literal}
use Rattle.read_string.specs.declared.moves.Move.{Move}
use Rattle.read_string.specs.declared.moves.Move.TheVariants.{Copy, Skip, Line, Char, Surrogate, Close, Open}
use Rattle.read_string.specs.Moves.{string_move}
use Rattle.read_string.specs.Ends.{adds, ends_at, On}
use Rattle.read_string.specs.Literal.{does, literal_from}
use Rattle.read_string.proofs.TurnLaws.{turn_does}

-- ---- two loops, turn by turn

-- P holds of what two turns call themselves with, Q of what they answer
abbrev Both : {A R : Type 0} → (A → A → Type 0) → (R → R → Type 0) → Turn A R → Turn A R → Type 0
Both P Q (again a) (again b) = P a b
Both P Q (again a) (done t) = ⊥
Both P Q (done r) (again b) = ⊥
Both P Q (done r) (done t) = Q r t

module _ {A R : Type 0} (turn turn' : A → Turn A R) (out out' : A → R) (P : A → A → Type 0) (Q : R → R → Type 0) where
  -- loops that take the same turns answer the same
  loop_both : ((a b : A) → P a b → Both P Q (turn a) (turn' b)) → ((a b : A) → P a b → Q (out a) (out' b))
      → (n : ℕ) (a b : A) → P a b → Q (loop turn out n a) (loop turn' out' n b)
  unfolding loop
  loop_both step ends zero a b p = ends a b p
  loop_both step ends (suc n) a b p = go (turn a) (turn' b) (step a b p) (loop_both step ends n)
    where
      go : (t u : Turn A R) → Both P Q t u → ((a b : A) → P a b → Q (loop turn out n a) (loop turn' out' n b))
          → Q (elim t [ again a ↦ loop turn out n a | done r ↦ r ]) (elim u [ again b ↦ loop turn' out' n b | done r ↦ r ])
      go (again a) (again b) h rest = rest a b h
      go (again a) (done r) h rest = absurd h
      go (done r) (again b) h rest = absurd h
      go (done r) (done t) h rest = h

module _ (s f : Bytes) where
  -- ---- a literal is the same from any state at its byte

  -- two states stand at the same byte, with the same bytes read
  abbrev Alike : State × Bytes → State × Bytes → Type 0
  Alike a b = (a.0.offset ≡ b.0.offset) × (a.1 ≡ b.1)

  -- two items have the same payload
  abbrev Equal : Step → Step → Type 0
  Equal t u = t.payload ≡ u.payload

  -- what is done with a move
  does_both : (st st' : State) (acc acc' : Bytes) (m : Move) → st.offset ≡ st'.offset → acc ≡ acc'
      → Both Alike Equal (does s 0 no_pos st acc m) (does s 0 no_pos st' acc' m)
  does_both st st' acc acc' (Copy e) p q = (refl, ap₂ (λ (x : Bytes) (i : ℕ). x ++ lexeme s i e) q p)
  does_both st st' acc acc' (Skip e) p q = (refl, q)
  does_both st st' acc acc' (Line e) p q = (refl, ap₂ (λ (x : Bytes) (i : ℕ). x ++ lexeme s i e) q p)
  does_both st st' acc acc' (Char c e) p q = (refl, ap (λ (x : Bytes). x ++ encode c) q)
  does_both st st' acc acc' Surrogate p q = refl
  does_both st st' acc acc' (Close e) p q = q
  does_both st st' acc acc' Open p q = refl

  -- a turn
  turn_both : (a b : State × Bytes) → Alike a b → Both Alike Equal (string_turn s f 0 no_pos a) (string_turn s f 0 no_pos b)
  turn_both a b h =
      let u = does_both a.0 b.0 a.1 b.1 (string_move s f a.0.offset) h.0 h.1 in
      subst (Both Alike Equal (string_turn s f 0 no_pos a))
      (ap (λ (i : ℕ). does s 0 no_pos b.0 b.1 (string_move s f i)) h.0 ∙ sym (turn_does s f 0 no_pos b.0 b.1))
      (subst (λ (t : Turn (State × Bytes) Step). Both Alike Equal t (does s 0 no_pos b.0 b.1 (string_move s f a.0.offset)))
      (sym (turn_does s f 0 no_pos a.0 a.1)) u)

  -- the payload is the same from any state at that byte
  same_payload : (st st' : State) (acc : Bytes) → st.offset ≡ st'.offset
      → (string_from s f 0 no_pos (st, acc)).payload ≡ (string_from s f 0 no_pos (st', acc)).payload
  unfolding string_from
  same_payload st st' acc e =
      loop_both (string_turn s f 0 no_pos) (string_turn s f 0 no_pos) _ _ Alike Equal turn_both (λ a b _. refl) (fuel s) (st, acc) (st', acc) (e, refl)

  -- ---- move by move

  -- before the first byte nothing is held
  pub literal_starts : (i : ℕ) → literal_from s f i [] ≡ literal s f i
  literal_starts i = sym (ap (λ (t : Step). t.payload) (string_is s f 0 no_pos (advance (started 0 0) i)))

  module _ (i : ℕ) (acc : Bytes) where
    -- the literal by the move at its byte
    by_move : (m : Move) → string_move s f i ≡ m
        → literal_from s f i acc ≡ (says (does s 0 no_pos (advance (started 0 0) i) acc m) (string_from s f 0 no_pos)).payload
    by_move m e =
        let st = advance (started 0 0) i in
        ap (λ (t : Step). t.payload)
        (string_unroll s f 0 no_pos (st, acc)
        ∙ ap (λ (t : Turn (State × Bytes) Step). says t (string_from s f 0 no_pos)) (turn_does s f 0 no_pos st acc ∙ ap (does s 0 no_pos st acc) e))

    -- a move after which it goes on
    pub literal_on : (m : Move) → On m → string_move s f i ≡ m → literal_from s f i acc ≡ literal_from s f (ends_at i m) (acc ++ adds s i m)
    literal_on (Copy e) o q = by_move (Copy e) q
    literal_on (Skip e) o q =
        by_move (Skip e) q
        ∙ same_payload (new_line (advance (started 0 0) e)) (advance (started 0 0) e) acc refl
        ∙ ap (literal_from s f e) (sym (append-nil acc))
    literal_on (Line e) o q =
        by_move (Line e) q ∙ same_payload (new_line (advance (started 0 0) e)) (advance (started 0 0) e) (acc ++ lexeme s i e) refl
    literal_on (Char c e) o q = by_move (Char c e) q
    literal_on Surrogate o q = absurd o
    literal_on (Close e) o q = absurd o
    literal_on Open o q = absurd o

    -- the quote ends it, and so does an error
    pub literal_closed : (e : ℕ) → string_move s f i ≡ Close e → literal_from s f i acc ≡ acc
    literal_closed e q = by_move (Close e) q

    -- as an unpaired surrogate does
    pub literal_surrogate : string_move s f i ≡ Surrogate → literal_from s f i acc ≡ []
    literal_surrogate q = by_move Surrogate q

    -- or the text's end
    pub literal_open : string_move s f i ≡ Open → literal_from s f i acc ≡ []
    literal_open q = by_move Open q
