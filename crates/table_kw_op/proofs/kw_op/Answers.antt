-- `kw_op` is what trying every keyword operator gives: none is there where the word that the text's byte begins would have no operator
-- character after it, and no word begins another, so the first that fits is the only one. It stands in the text, so the sum fits.
use mathlib.Core.Path.{sym, ◌∙◌}
use Rattle.definition.specs.Utf8.{encode, encode_all}
use Rattle.definition.specs.Tables.{cps, kw_op_rules}
use Rattle.table_words.proofs.TableLaws.{row_length, row_short}
use Rattle.table_kw_op.proofs.Computed.{kw_ops, kw_short}
use Rattle.table_kw_op.proofs.Searches.{kw_past, kw_reach_none, kw_none, kw_no, kw_yes}
use native.Mathlib.Omega.{arith}
use Rattle.table_kw_op.proofs.kw_op.Goals as goal

pub returns-then-text-i : goal.returns-then-text-i
returns-then-text-i c = c.nothing.ensures ∙ sym (kw_past _ _ c.if-text-i.true)

pub returns-then-not-passes_at : goal.returns-then-not-passes_at
returns-then-not-passes_at c =
    c.nothing-then-not-passes_at.ensures
    ∙ sym (kw_reach_none _ _ c.if-text-i.false c.in-Some.ensures (sym c.passes_at.ensures ∙ c.if-not-passes_at.true))

pub returns-in_default-kw_op_word : goal.returns-in_default-kw_op_word
returns-in_default-kw_op_word c =
    c.nothing-in_default-kw_op_word.ensures ∙ sym (kw_none _ _ (omega (arith, c.in_default-kw_op_word.ensures)))

pub overflow_add-i-2 : goal.overflow_add-i-2
unfolding kw_op_rules cps encode_all encode
overflow_add-i-2 c =
    let k = c.in-Some-kw_op_word.word in
    omega (arith, row_length kw_ops k, row_short 6 kw_ops kw_short k)

pub returns-in_default-plus_ascii : goal.returns-in_default-plus_ascii
unfolding kw_op_rules cps encode_all encode
returns-in_default-plus_ascii c =
    let k = c.in-Some-kw_op_word in
    c.nothing-in_default-plus_ascii.ensures
    ∙ sym (kw_no _ _ k.ensures.0 k.ensures.1 (row_length kw_ops k.word) (sym c.plus_ascii.ensures ∙ c.in_default-plus_ascii.is))

pub returns : goal.returns
unfolding kw_op_rules cps encode_all encode
returns c =
    let k = c.in-Some-kw_op_word in
    sym (kw_yes _ _ k.ensures.0 k.ensures.1 (row_length kw_ops k.word) (sym c.plus_ascii.ensures ∙ c.in-Some-plus_ascii.is))
