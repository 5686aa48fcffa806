use mathlib.Core.Path.{sym, ◌∙◌}
use Rattle.definition.specs.Utf8.{encode, encode_all}
use Rattle.definition.specs.Tables.{cps, kw_op_rules}
use Rattle.match_lit.proofs.ByteLaws.{has_inside}
use Rattle.table_words.proofs.RowLaws.{next_word, this_word, none_left}
use Rattle.table_words.proofs.TableLaws.{compared, compare_index, compare_stop, compare_on, compare_start, row_length}
use Rattle.table_kw_op.proofs.Computed.{kw_ops, kw_short, kw_count}
use native.Mathlib.Omega.{arith}
use Rattle.table_kw_op.proofs.kw_op_word.Goals as goal

pub loop-j-init : goal.loop-j-init
unfolding kw_op_rules cps encode_all encode
loop-j-init c = compare_start kw_ops _ (omega (arith, kw_count)) (row_length kw_ops c.words.k)

pub kw_op_byte-requires : goal.kw_op_byte-requires
kw_op_byte-requires c = (c.words-test.true, compare_index 6 kw_ops kw_short _ c.loop-j.invariant c.loop-j-test.true)

pub words-preserved : goal.words-preserved
words-preserved c =
    let v = c.loop-j.invariant in
    let none = compare_stop 6 kw_ops kw_short _ v c.loop-j-test.true c.kw_op_byte.ensures (sym c.byte_is.ensures ∙ c.if-not-byte_is.true) in
    next_word _ _ _ _ v.row none c.words.invariant

pub overflow_add-end : goal.overflow_add-end
overflow_add-end c = omega (arith, has_inside _ _ _ (sym c.byte_is.ensures ∙ c.if-not-byte_is.false))

pub loop-j-preserved : goal.loop-j-preserved
loop-j-preserved c =
    compare_on 6 kw_ops kw_short _ c.loop-j.invariant c.loop-j-test.true c.kw_op_byte.ensures (sym c.byte_is.ensures ∙ c.if-not-byte_is.false)

pub returns-in-words : goal.returns-in-words
returns-in-words c =
    let v = c.loop-j.invariant in
    (this_word _ _ _ _ v.row (compared 6 kw_ops kw_short _ v c.loop-j-test.false) c.words.invariant, c.words-test.true)

pub returns : goal.returns
returns c =
    let past = none_left _ _ _ _ (omega (arith, c.words-test.false, kw_count)) c.words.invariant in
    omega (arith, past, c.words.auto.k-end, c.words-test.false)
