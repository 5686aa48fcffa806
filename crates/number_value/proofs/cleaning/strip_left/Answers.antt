-- `strip_left` answers where the first byte that stays is, or the end.
use borrow.Author.Rules.{rules}
use Rattle.std.proofs.lemmas.Iterator.{YieldsList-from_slice}
use Rattle.std.proofs.lemmas.Iterator.Search.{position_from_yields_List}
use Rattle.number_value.proofs.Stripping.{stays, left_found}
use Rattle.number_value.proofs.cleaning.strip_left.Goals as goal

pub returns : goal.returns
returns c =
    let s = c.args.lexeme.now in
    let found = position_from_yields_List stays _ _ _ c.position.ensures.ran (YieldsList-from_slice s cc) (λ x b q k. search rules) in
    rw c.unwrap_or.ensures (left_found s c.position.result found)
