-- The three words are tried in the table's order.
use mathlib.Core.Path.{sym, ◌∙◌}
use Rattle.definition.specs.Utf8.{encode, encode_all}
use Rattle.definition.specs.Tables.{cps, keywords, constructors, uoperators}
use Rattle.table_words.specs.Words.{words}
use Rattle.table_keywords.specs.Places.{place}
use Rattle.table_keywords.proofs.constructors.constructor.Goals as goal

pub returns-then-is_word : goal.returns-then-is_word
unfolding place words keywords constructors uoperators cps encode_all encode
returns-then-is_word c =
    let e = sym c.is_word.ensures ∙ c.if-is_word.true in
    rw (place, e)

pub returns-then-is_word-2 : goal.returns-then-is_word-2
unfolding place words keywords constructors uoperators cps encode_all encode
returns-then-is_word-2 c =
    let n = sym c.is_word.ensures ∙ c.if-is_word.false in
    let e = sym c.is_word-2.ensures ∙ c.if-is_word-2.true in
    rw (place, n, place, e)

pub returns-then-is_word-3 : goal.returns-then-is_word-3
unfolding place words keywords constructors uoperators cps encode_all encode
returns-then-is_word-3 c =
    let n = sym c.is_word.ensures ∙ c.if-is_word.false in
    let m = sym c.is_word-2.ensures ∙ c.if-is_word-2.false in
    let e = sym c.is_word-3.ensures ∙ c.if-is_word-3.true in
    rw (place, n, place, m, place, e)

pub returns : goal.returns
unfolding place words keywords constructors uoperators cps encode_all encode
returns c =
    let n = sym c.is_word.ensures ∙ c.if-is_word.false in
    let m = sym c.is_word-2.ensures ∙ c.if-is_word-2.false in
    let e = sym c.is_word-3.ensures ∙ c.if-is_word-3.false in
    rw (place, n, place, m, place, e)
