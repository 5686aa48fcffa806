use mathlib.Core.Path.{sym, ap, ◌∙◌}
use Rattle.definition.specs.Utf8.{encode, encode_all}
use Rattle.definition.specs.Tables.{cps, early_literals, words_of}
use Rattle.definition.specs.Matchers.{match_lit}
use Rattle.definition.specs.Select.{none_at}
use Rattle.match_lit.proofs.ByteLaws.{has_inside}
use Rattle.table_words.specs.Rows.{try_rows}
use Rattle.table_words.proofs.RowLaws.{none_start, keep_later, words_rows, row_skip, row_take, row_done}
use Rattle.table_words.proofs.TableLaws.{compared, compare_index, compare_stop, compare_on, compare_start, row_length, own_number}
use Rattle.table_early.proofs.Computed.{early, early_short}
use native.Mathlib.Omega.{arith}
use Rattle.table_early.proofs.longest_early.Goals as goal

pub words-init : goal.words-init
unfolding early_literals
words-init c =
    let a = c.args in
    (none_start c.nothing-best.ensures, ap (try_rows a.i 1 (λ w. match_lit a.text.now w a.i) early) c.nothing-best.ensures ∙ sym (words_rows a.i 1 (λ w. match_lit a.text.now w a.i) 0 (words_of early_literals) (none_at a.i)))

pub loop-j-init : goal.loop-j-init
unfolding early_literals cps encode_all encode
loop-j-init c = compare_start early _ c.words-test.true (row_length early c.words.k)

pub early_byte-requires : goal.early_byte-requires
early_byte-requires c = (c.words-test.true, compare_index 20 early early_short _ c.loop-j.invariant c.loop-j-test.true)

pub words-preserved-then-not-byte_is : goal.words-preserved-then-not-byte_is
unfolding early_literals
words-preserved-then-not-byte_is c =
    let none = compare_stop 20 early early_short _ c.loop-j.invariant c.loop-j-test.true c.early_byte.ensures (sym c.byte_is.ensures ∙ c.if-not-byte_is.true) in
    (c.words.invariant.0, row_skip _ 1 _ early _ 15 _ c.words-test.true (omega arith) none c.words.invariant.0 ∙ c.words.invariant.1)

pub overflow_add-end : goal.overflow_add-end
overflow_add-end c = omega (arith, has_inside _ _ _ (sym c.byte_is.ensures ∙ c.if-not-byte_is.false))

pub loop-j-preserved : goal.loop-j-preserved
loop-j-preserved c =
    compare_on 20 early early_short _ c.loop-j.invariant c.loop-j-test.true c.early_byte.ensures (sym c.byte_is.ensures ∙ c.if-not-byte_is.false)

pub words-preserved : goal.words-preserved
unfolding early_literals
words-preserved c =
    let there = compared 20 early early_short _ c.loop-j.invariant c.loop-j-test.false in
    let number = own_number (words_of early_literals) c.words.k c.words-test.true in (
      rw c.keep-best.ensures (keep_later _ _ c.words.invariant.0),
      row_take _ 1 _ early _ 15 _ c.words-test.true (omega arith) there number c.keep-best.ensures ∙ c.words.invariant.1,
    )

pub returns : goal.returns
returns c = sym (row_done _ 1 _ early _ 15 _ c.words-test.false) ∙ c.words.invariant.1
