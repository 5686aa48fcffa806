-- `at_beyond_ascii` is the best of places 7, 8, 12, 14, 15 and 49; where an identifier begins, 15 and 49 leave it as it is.
use Rattle.std.specs.Prelude.{Some}
use mathlib.Core.Path.{refl, sym, ap, ◌∙◌}
use Rattle.select_places.proofs.Chains.{kept, placed}
use Rattle.select_unicode.proofs.After.{three_up, no_ident, ident_chosen}
use Rattle.select_unicode.proofs.at_beyond_ascii.Goals as goal

pub constructor_after-requires : goal.constructor_after-requires
constructor_after-requires c = c.requires.0

pub uoperator-requires : goal.uoperator-requires
uoperator-requires c = c.requires.0

pub returns-then-is_ident_start : goal.returns-then-is_ident_start
returns-then-is_ident_start c =
    let start =
    kept c.keep-best.ensures
    (placed _ _ c.try_place-best.ensures
    (placed _ _ c.alone-best.ensures refl c.white_after.ensures)
    c.line_end.ensures)
    c.quantifier.ensures
    in
    let a = c.args in
    ident_chosen a.text.now a.file.now a.i a.c a.j (sym c.is_ident_start.ensures ∙ c.if-is_ident_start.true)
    (placed a.i 14 c.try_place.ensures start (ap Some c.star_decoded.ensures))

pub returns : goal.returns
returns c =
    let start =
    kept c.keep-best.ensures
    (placed _ _ c.try_place-best.ensures
    (placed _ _ c.alone-best.ensures refl c.white_after.ensures)
    c.line_end.ensures)
    c.quantifier.ensures
    in
    placed _ _ c.try_place-2.ensures
    (placed _ _ c.try_place-best-2.ensures
    (start ∙ no_ident _ _ _ (three_up _ _ _ _) (sym c.is_ident_start.ensures ∙ c.if-is_ident_start.false))
    c.constructor_after.ensures)
    c.uoperator.ensures
