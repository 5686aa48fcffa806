-- Where what stands in a literal ends: after its start, and within the text; and what it adds is no longer than it is. Rests on
-- the ends of matchers and runs (crate `laws_progress`) and on what escapes stand for.
use Rattle.std.specs.Prelude.{Some}
use Prim.Native.Nat.{ℕ, ◌+◌, ◌-◌, ◌<◌}
use mathlib.Core.Path.{◌≡◌}
use native.Mathlib.Omega.{arith}
use lib.ListN.{length}
use Rattle.definition.specs.Basics.{Bytes, ch}
use Rattle.definition.specs.Text.{byte_is, run_end}
use Rattle.definition.specs.Chars.{is_anywhite}
use Rattle.definition.specs.Matchers.{only, match_newline, match_escape}
use Rattle.definition.specs.Escapes.{unescape, is_surrogate, is_high_half, is_low_half, joined}
use Rattle.definition.specs.Strings.{string_stop, match_low_half}
use Rattle.lemmas.proofs.Cases.{by_test, by_lt, by_le, by_match}
use Rattle.utf8.proofs.Character.{encode_size}
use Rattle.laws_progress.proofs.Walks.{Onward, walk_past, walk_onward, onward_walk, star_walks}
use Rattle.laws_progress.proofs.Ends.{Ends, ends_map, ends_only}
use Rattle.laws_progress.proofs.Matches.{after_walk, byte_is_onward, newline_ends, escape_ends}
use Rattle.escapes.proofs.Surrogates.{joined_small, surrogate_bytes}
use Rattle.read_string.specs.declared.moves.Move.TheVariants.{Char}
use Rattle.read_string.specs.Moves.{surrogate_move, escape_move, last_move, stop_move, broken_line, string_move}
use Rattle.read_string.specs.Ends.{Past, Goes}
use Rattle.read_string.proofs.EscapeLaws.{escape_shrinks}

module _ (s : Bytes) (i : ℕ) where
  -- a walk of a character or more
  onward_past : {e : ℕ} → Onward s i e → Past s i e
  onward_past o = record { past = o.past; within = o.within }

  -- four bytes or more, which are the escape of c, and the escape of a low half after them: more than the four bytes of a character
  pair_goes : (c e : ℕ) → Onward s i e → 3 < e - i
      → Ends (λ pair_end. Goes s i (Char (joined c (unescape s e)) pair_end)) (only (is_high_half c) (match_low_half s e))
  unfolding match_low_half
  pair_goes c e o long =
      ends_only (is_high_half c) λ high.
      ends_only (is_low_half (unescape s e)) λ low.
      ends_map (λ pair_end p. (
        onward_past (walk_onward o.walk p),
        record { small = joined_small (record { high = high; low = low }); fewer = omega (arith, (encode_size (joined c (unescape s e))).1, p.past) },
      )) (escape_ends s e)

  -- an escape
  escape_goes : (e : ℕ) → match_escape s i ≡ Some e → Goes s i (escape_move s i e)
  unfolding escape_move surrogate_move
  escape_goes e q =
      let c = unescape s i in
      let o = (escape_ends s i).at q in
      let h = (escape_shrinks s i).at q in
      by_test (Goes s i) (is_surrogate c)
      (λ t. by_match (Goes s i) (only (is_high_half c) (match_low_half s e))
      (λ pair_end p. (pair_goes c e o (omega (arith, h.fewer, surrogate_bytes c t))).at p) (λ _. tt))
      (λ _. (onward_past o, record { small = h.small; fewer = h.fewer }))

  -- the quote, the text's end, or a lone byte
  last_goes : Goes s i (last_move s i)
  unfolding last_move
  last_goes =
      by_test (Goes s i) (byte_is (ch "\"") s i) (λ t. onward_past (byte_is_onward s (ch "\"") i (omega arith) t)) λ _.
      by_le (Goes s i) (length s) i (λ _. tt) (λ h. record { past = omega arith; within = omega arith })

  -- neither a run nor a continued line
  stop_goes : Goes s i (stop_move s i)
  unfolding stop_move
  stop_goes =
      by_match (Goes s i) (match_newline s i) (λ nl q. onward_past ((newline_ends s i).at q)) λ _.
      by_match (Goes s i) (match_escape s i) escape_goes (λ _. last_goes)

  -- a backslash and a line's end
  broken : Ends (Onward s i) (broken_line s i)
  broken = ends_only (byte_is (ch "\\") s i) (λ t. after_walk s (byte_is_onward s (ch "\\") i (omega arith) t).walk (newline_ends s (i + 1)))

  -- Whatever stands there.
  pub move_goes : (f : Bytes) → Goes s i (string_move s f i)
  unfolding string_move
  move_goes f =
      by_lt (Goes s i) i (run_end string_stop s i) (λ h. onward_past (walk_past (star_walks _ s i) h)) λ _.
      by_match (Goes s i) (broken_line s i) (λ nl q. onward_past (onward_walk (broken.at q) (star_walks (is_anywhite f) s nl))) (λ _. stop_goes)
