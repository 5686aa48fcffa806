-- What stands at an offset of a blob, from what the code found there. Rests on the laws of runs.
use Rattle.std.specs.Prelude.{Some, None}
use Prim.Native.Nat.{ℕ, ◌≤◌, ◌<◌}
use mathlib.Core.Path.{◌≡◌, sym, ap, ◌∙◌}
use borrow.Author.Tests.{lt-ltb, le-ltb, le-leb, lt-leb}
use lib.ListN.{length}
use Rattle.definition.specs.Basics.{Bytes, ch}
use Rattle.definition.specs.Text.{star, run_end, after}
use Rattle.definition.specs.Chars.{is_newline_char}
use Rattle.definition.specs.Tables.{cps}
use Rattle.definition.specs.Matchers.{match_lit, match_newline}
use Rattle.definition.specs.Blob.{blob_stop}
use Rattle.star.specs.Stops.{goes_on}
use Rattle.star.proofs.StopLaws.{one_stop, line_stop}
use Rattle.read_blob.specs.declared.Move.{Move}
use Rattle.read_blob.specs.declared.Move.TheVariants.{Close, Open, Line, On}
use Rattle.read_blob.specs.Moves.{contents_move, inside_move, blob_move, lang_move}

module _ (s : Bytes) (i : ℕ) where
  -- ---- in a blob

  -- what a run of the contents, or a backtick, is
  pub move_run : {j : ℕ} → j ≡ star (goes_on (ch "`") (ch "`")) s i → i < j → On j ≡ contents_move s i
  unfolding contents_move blob_stop
  move_run {j} run h =
      let ends : run_end blob_stop s i ≡ j = sym (run ∙ one_stop (ch "`") s i) in
      rw (ends, lt-ltb i j h)

  pub move_after : {j k : ℕ} → j ≡ star (goes_on (ch "`") (ch "`")) s i → j ≤ i → k ≡ after s i → On k ≡ contents_move s i
  unfolding contents_move blob_stop
  move_after {j} run h e =
      let ends : run_end blob_stop s i ≡ j = sym (run ∙ one_stop (ch "`") s i) in
      rw (ends, le-ltb i j h, e)

  -- what stands before the contents
  pub move_open : length s ≤ i → Open ≡ inside_move s i
  unfolding inside_move
  move_open h = rw (inside_move, le-leb _ _ h)

  pub move_line : {nl : ℕ} → i < length s → match_newline s i ≡ Some nl → Line nl ≡ inside_move s i
  unfolding inside_move
  move_line h e = rw (inside_move, lt-leb _ _ h, e)

  pub move_on : {m : Move} → i < length s → match_newline s i ≡ None → m ≡ contents_move s i → m ≡ inside_move s i
  unfolding inside_move
  move_on h e q = rw (inside_move, lt-leb _ _ h, e) q

  -- and before that
  pub move_close : {e : ℕ} → match_lit s (cps "```") i ≡ Some e → Close e ≡ blob_move s i
  unfolding blob_move
  move_close q = rw (blob_move, q)

  pub move_inside : {m : Move} → match_lit s (cps "```") i ≡ None → m ≡ inside_move s i → m ≡ blob_move s i
  unfolding blob_move
  move_inside q h = rw (blob_move, q) h

  -- ---- in another language's text

  -- at the end
  pub lang_end : length s ≤ i → Close i ≡ lang_move s i
  unfolding lang_move
  lang_end h = rw (lang_move, le-leb _ _ h)

  module _ {j : ℕ} (inside : i < length s) (run : j ≡ star (goes_on (ch "\n") (ch "\n")) s i) where
    line : run_end is_newline_char s i ≡ j
    line = sym (run ∙ line_stop s i)

    -- a run
    pub lang_run : i < j → On j ≡ lang_move s i
    unfolding lang_move
    lang_run h = rw (lang_move, lt-leb _ _ inside, line, lt-ltb i j h) (ap On (sym line))

    -- a line's end
    pub lang_line : j ≤ i → {nl : ℕ} → match_newline s i ≡ Some nl → Line nl ≡ lang_move s i
    unfolding lang_move
    lang_line h e = rw (lang_move, lt-leb _ _ inside, line, le-ltb i j h, e)

    -- neither
    pub lang_open : j ≤ i → match_newline s i ≡ None → Open ≡ lang_move s i
    unfolding lang_move
    lang_open h e = rw (lang_move, lt-leb _ _ inside, line, le-ltb i j h, e)
