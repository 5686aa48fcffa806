-- The fast path has room for nothing.
use Rattle.utf16_turn.proofs.LookLaws.{written_long, tokens_asked, looked}
use Rattle.utf16_turn.proofs.look_ahead.Goals as goal

pub slice_bounds-write_tokens-end-2 : goal.slice_bounds-write_tokens-end-2
slice_bounds-write_tokens-end-2 c = written_long c.requires.0

pub write_tokens-tokens-requires : goal.write_tokens-tokens-requires
write_tokens-tokens-requires c = let p = c.requires in (tokens_asked p.0, p.1)

pub returns : goal.returns
returns c =
    looked c.requires.0 c.write_tokens-tokens.ensures
