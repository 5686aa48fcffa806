-- What fails the test is no keyword. The first word of the table with the lexeme's key is where the search begins; what it seeks among is the
-- table.
use native.Mathlib.Omega.{arith}
use Prim.Native.Nat.{◌<◌}
use mathlib.Core.Path.{refl, sym, ◌∙◌}
use Rattle.definition.specs.Utf8.{encode, encode_all}
use Rattle.definition.specs.Tables.{cps, keywords, constructors, uoperators}
use Rattle.table_words.specs.Words.{words}
use Rattle.table_keywords.specs.Places.{key, hop}
use Rattle.table_keywords.proofs.Chains.{up_to_at, firsts, first_at, key_small, chain_begins, seek_table}
use Rattle.table_keywords.proofs.LookupLengths.{no_keyword}
use Rattle.table_keywords.proofs.keyword.Goals as goal

pub returns-then-not-may_be_keyword : goal.returns-then-not-may_be_keyword
returns-then-not-may_be_keyword c = sym (no_keyword _ (sym c.may_be_keyword.ensures ∙ c.if-not-may_be_keyword.true))

pub bounds-key : goal.bounds-key
bounds-key c =
    let h : c.key.result < 64 = rw c.key.ensures (key_small _) in
    omega arith

pub overflow_cast-key : goal.overflow_cast-key
unfolding firsts words keywords constructors uoperators cps encode_all encode key hop
overflow_cast-key c = omega (arith, up_to_at 119 (firsts 0 0 64) refl c.key.result)

pub follow-requires : goal.follow-requires
unfolding firsts words keywords constructors uoperators cps encode_all encode key hop
follow-requires c =
    let id = c.args.id.now in
    chain_begins id 0 86 _ (rw c.key.ensures (first_at 0 id)) (omega arith) (omega arith)

pub returns : goal.returns
unfolding firsts words keywords constructors uoperators cps encode_all encode key hop
returns c =
    let id = c.args.id.now in
    c.follow.ensures ∙ seek_table id 0 86 _ (rw c.key.ensures (first_at 0 id)) (omega arith) (omega arith)
