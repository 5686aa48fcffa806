-- No fuel of the definition ever runs out. `loop` stands in eleven definitions; for each, `.._enough` says that more fuel and
-- another `out` change nothing, and `.._unroll` that it is what its first turn says, with itself for a further call. Where a
-- definition only begins a loop, the loop has a name, `.._from` or `show_onto`, and `.._is` says what the definition is by it. (Those of
-- readers and runs stand in specs/Going.antt.)
--   star          for any text and offset
--   backtick      `match_backtick_ident`: for any text and offset
--   no_comment    where the end that it is given is the text's; every choice of `select` has such an end
--   show          for any number
--   comment       in a comment, from an offset on from which the text has whole characters only (`InComment`)
--   string        `string_lit`: for any text and state
--   blob          from an offset on from which the text has whole characters only (`Clean`)
--   lang          `use_lang`: for any text and state
--   token         `next_token`: for any text and state
--   chosen        `chosen_at`: for any text and state
--   run           `run_items`: from a state that has a level open if it is in a comment (`Opened`)
-- What `comment`, `blob` and `run_items` ask holds at the start of every run that isn't refused (`run_stands`, and a sound state has it:
-- `stands_clean`), at every state that it comes to (`reached_stands`), and after every choice at such a state (`choice_clean`). Rests on
-- the laws that it passes on, and assumes nothing.
pub use Rattle.utf8.proofs.Star.{star_enough, star_unroll}
pub use Rattle.laws_progress.proofs.Scans.{
  backtick_from,
  backtick_enough,
  backtick_unroll,
  backtick_is,
  no_comment_enough,
  no_comment_unroll,
  show_onto,
  show_enough,
  show_unroll,
  show_is,
}
pub use Rattle.laws_progress.proofs.Choices.{choice_clean}
pub use Rattle.laws_run.proofs.Moving.{stands_clean}
pub use Rattle.laws_run.proofs.CommentReader.{InComment, comment_enough, comment_unroll}
pub use Rattle.laws_run.proofs.StringReader.{string_enough, string_unroll, string_is}
pub use Rattle.laws_run.proofs.BlobReader.{blob_enough, blob_unroll, blob_is, lang_enough, lang_unroll, lang_is}
pub use Rattle.laws_run.proofs.Steps.{token_enough, token_unroll, reached_stands}
pub use Rattle.laws_run.proofs.Choosing.{chosen_enough, chosen_unroll}
pub use Rattle.laws_run.proofs.Refusals.{run_stands}
pub use Rattle.laws_run.proofs.RunFuel.{run_enough, run_unroll, run_is}
