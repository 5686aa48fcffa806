-- A turn does what stands at the state's offset asks for. Rests on nothing but the definition.
use Prim.Native.Nat.{ℕ}
use mathlib.Core.Path.{◌≡◌}
use lib.Dec.{ltb, leb}
use lib.ListN.{length}
use Rattle.definition.specs.Basics.{Bytes, ch}
use Rattle.definition.specs.Text.{byte_is, run_end}
use Rattle.definition.specs.Matchers.{only, match_newline, match_escape}
use Rattle.definition.specs.Escapes.{unescape, is_surrogate, is_high_half}
use Rattle.definition.specs.Strings.{string_stop, match_low_half, escape_turn, string_turn}
use Rattle.definition.specs.declared.Pos.{Pos}
use Rattle.definition.specs.declared.State.{State}
use Rattle.lemmas.proofs.Cases.{by_found, by_outcome}
use Rattle.read_string.specs.Moves.{surrogate_move, escape_move, last_move, stop_move, broken_line, string_move}
use Rattle.read_string.specs.Literal.{does}

-- The turn, case by case.
pub turn_does : (s f : Bytes) (quote : ℕ) (sp : Pos) (st : State) (acc : Bytes) → string_turn s f quote sp (st, acc) ≡ does s quote sp st acc (string_move s f st.offset)
unfolding string_move stop_move escape_move surrogate_move last_move escape_turn
turn_does s f quote sp st acc =
    let i = st.offset in
    by_outcome (ltb i (run_end string_stop s i)) (λ t. rw (string_turn, string_move, t)) λ t.
    by_found (broken_line s i) (λ nl b. rw (string_turn, string_move, t, b)) λ b.
    by_found (match_newline s i) (λ nl n. rw (string_turn, string_move, stop_move, t, b, n)) λ n.
    by_found (match_escape s i)
    (λ e q. by_outcome (is_surrogate (unescape s i))
    (λ u. by_found (only (is_high_half (unescape s i)) (match_low_half s e))
    (λ _ p. rw (string_turn, string_move, stop_move, t, b, n, q, escape_turn, escape_move, u, surrogate_move, p))
    (λ p. rw (string_turn, string_move, stop_move, t, b, n, q, escape_turn, escape_move, u, surrogate_move, p)))
    (λ u. rw (string_turn, string_move, stop_move, t, b, n, q, escape_turn, escape_move, u))) λ q.
    by_outcome (byte_is (ch "\"") s i) (λ c. rw (string_turn, string_move, stop_move, t, b, n, q, last_move, c)) λ c.
    by_outcome (leb (length s) i)
    (λ l. rw (string_turn, string_move, stop_move, t, b, n, q, last_move, c, l))
    (λ l. rw (string_turn, string_move, stop_move, t, b, n, q, last_move, c, l))
