-- What stands at an offset of a literal, from what the code found there. Rests on the laws of bytes and of runs.
use Rattle.std.specs.Prelude.{Option, Some, None}
use Prim.Native.Nat.{ℕ, ◌+◌, ◌≤◌, ◌<◌}
use mathlib.Core.Path.{◌≡◌, sym, ap, ◌∙◌}
use mathlib.Core.Bool.{true, false}
use lib.Dec.{eqb}
use lib.ListN.{length, get_or}
use borrow.Author.Tests.{lt-ltb, le-ltb, le-leb, lt-leb, eq-eqb, ne_eqb}
use Rattle.definition.specs.Basics.{Bytes, ch}
use Rattle.definition.specs.Text.{byte_is, star, run_end}
use Rattle.definition.specs.Chars.{is_anywhite}
use Rattle.definition.specs.Matchers.{match_newline, match_escape}
use Rattle.definition.specs.Escapes.{unescape, is_surrogate, is_high_half, is_low_half, joined}
use Rattle.definition.specs.Strings.{string_stop, match_low_half}
use Rattle.lemmas.proofs.Cases.{by_outcome}
use Rattle.star.specs.Stops.{goes_on}
use Rattle.match_lit.proofs.ByteLaws.{has_within, has_past}
use Rattle.read_string.specs.declared.moves.Move.{Move}
use Rattle.read_string.specs.declared.moves.Move.TheVariants.{Copy, Skip, Line, Char, Surrogate, Close, Open}
use Rattle.read_string.specs.Moves.{surrogate_move, escape_move, last_move, stop_move, broken_line, string_move}

-- ---- the surrogate c, whose escape ends at e

module _ (s : Bytes) (c e : ℕ) where
  -- no high half
  pub surrogate_not_high : is_high_half c ≡ false → Surrogate ≡ surrogate_move s c e
  unfolding surrogate_move
  surrogate_not_high t = rw (surrogate_move, t)

  module _ (high : is_high_half c ≡ true) where
    -- no escape after it
    pub surrogate_last : match_escape s e ≡ None → Surrogate ≡ surrogate_move s c e
    unfolding surrogate_move match_low_half
    surrogate_last q =
        by_outcome (is_low_half (unescape s e)) (λ t. rw (surrogate_move, high, match_low_half, t, q)) (λ t. rw (surrogate_move, high, match_low_half, t))

    -- no low half after it
    pub surrogate_not_low : {l : ℕ} → l ≡ unescape s e → is_low_half l ≡ false → Surrogate ≡ surrogate_move s c e
    unfolding surrogate_move match_low_half
    surrogate_not_low q t = rw (surrogate_move, high, match_low_half, ← q, t)

    -- a low half after it
    pub surrogate_pair : {l n pair_end : ℕ} → match_escape s e ≡ Some pair_end → l ≡ unescape s e → is_low_half l ≡ true → n ≡ joined c l
        → Char n pair_end ≡ surrogate_move s c e
    unfolding surrogate_move match_low_half
    surrogate_pair {pair_end = end} m q t j = rw (surrogate_move, high, match_low_half, ← q, t, m) (ap (λ (x : ℕ). Char x end) (j ∙ ap (joined c) q))

module _ (s : Bytes) (i : ℕ) where
  -- ---- an escape

  module _ {c : ℕ} (e : ℕ) (q : c ≡ unescape s i) where
    -- of a surrogate
    pub escape_surrogate : {m : Move} → is_surrogate c ≡ true → m ≡ surrogate_move s c e → m ≡ escape_move s i e
    unfolding escape_move
    escape_surrogate t h = rw (escape_move, ← q, t) (h ∙ ap (λ (x : ℕ). surrogate_move s x e) q)

    -- of a character
    pub escape_char : is_surrogate c ≡ false → Char c e ≡ escape_move s i e
    unfolding escape_move
    escape_char t = rw (escape_move, ← q, t) (ap (λ (x : ℕ). Char x e) q)

  -- ---- the quote, the text's end, or a lone byte

  -- whether the byte is a quote
  quote_here : (h : i < length s) → byte_is (ch "\"") s i ≡ eqb (get_or s i 0) 34
  quote_here h = has_within (λ x. eqb x 34) s i h

  -- past the end
  pub last_open : length s ≤ i → Open ≡ last_move s i
  unfolding last_move
  last_open h = rw (last_move, has_past (λ x. eqb x 34) s i h, le-leb _ _ h)

  -- a quote
  pub last_close : i < length s → get_or s i 0 ≡ 34 → Close (i + 1) ≡ last_move s i
  unfolding last_move
  last_close h e = rw (last_move, quote_here h, eq-eqb _ 34 e)

  -- another byte
  pub last_lone : i < length s → (get_or s i 0 ≡ 34 → ⊥) → Copy (i + 1) ≡ last_move s i
  unfolding last_move
  last_lone h n = rw (last_move, quote_here h, ne_eqb _ 34 n, lt-leb _ _ h)

  -- ---- neither a run nor a continued line

  -- a line's end
  pub stop_line : {nl : ℕ} → match_newline s i ≡ Some nl → Line nl ≡ stop_move s i
  unfolding stop_move
  stop_line e = rw (stop_move, e)

  -- an escape
  pub stop_escape : {m : Move} (e : ℕ) → match_newline s i ≡ None → match_escape s i ≡ Some e → m ≡ escape_move s i e → m ≡ stop_move s i
  unfolding stop_move
  stop_escape e n q h = rw (stop_move, n, q) h

  -- none of both
  pub stop_last : {m : Move} → match_newline s i ≡ None → match_escape s i ≡ None → m ≡ last_move s i → m ≡ stop_move s i
  unfolding stop_move
  stop_last n q h = rw (stop_move, n, q) h

  -- ---- a backslash and a line's end

  -- after a backslash
  pub broken_on : {m : Option ℕ} → byte_is (ch "\\") s i ≡ true → m ≡ match_newline s (i + 1) → m ≡ broken_line s i
  broken_on t e = rw t e

  -- elsewhere
  pub broken_off : byte_is (ch "\\") s i ≡ false → None ≡ broken_line s i
  broken_off t = rw t

  -- ---- the whole

  module _ (f : Bytes) {j : ℕ} (run : j ≡ star (goes_on (ch "\\") (ch "\"")) s i) where
    -- a run of the code's is one of the definition's
    ends : run_end string_stop s i ≡ j
    unfolding string_stop
    ends = sym run

    -- a run
    pub move_run : i < j → Copy j ≡ string_move s f i
    unfolding string_move
    move_run h = rw (string_move, ends, lt-ltb i j h) (ap Copy (sym ends))

    -- a continued line
    pub move_skip : {k : ℕ} (nl : ℕ) → j ≤ i → broken_line s i ≡ Some nl → k ≡ star (is_anywhite f) s nl → Skip k ≡ string_move s f i
    unfolding string_move
    move_skip nl h e q = rw (string_move, ends, le-ltb i j h, e, q)

    -- neither
    pub move_stop : {m : Move} → j ≤ i → broken_line s i ≡ None → m ≡ stop_move s i → m ≡ string_move s f i
    unfolding string_move
    move_stop h e q = rw (string_move, ends, le-ltb i j h, e) q
