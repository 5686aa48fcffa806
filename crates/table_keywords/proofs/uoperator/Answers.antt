-- The first word of the table with the lexeme's key is where the search begins; what it seeks among is the table.
use native.Mathlib.Omega.{arith}
use Prim.Native.Nat.{◌<◌}
use mathlib.Core.Path.{refl, ◌∙◌}
use Rattle.definition.specs.Utf8.{encode, encode_all}
use Rattle.definition.specs.Tables.{cps, keywords, constructors, uoperators}
use Rattle.table_words.specs.Words.{words}
use Rattle.table_keywords.specs.Places.{key, hop}
use Rattle.table_keywords.proofs.Chains.{up_to_at, firsts, first_at, key_small, chain_begins, seek_table}
use Rattle.table_keywords.proofs.uoperator.Goals as goal

pub bounds-key : goal.bounds-key
bounds-key c =
    let h : c.key.result < 64 = rw c.key.ensures (key_small _) in
    omega arith

pub overflow_cast-key : goal.overflow_cast-key
unfolding firsts words keywords constructors uoperators cps encode_all encode key hop
overflow_cast-key c = omega (arith, up_to_at 119 (firsts 89 0 64) refl c.key.result)

pub follow-requires : goal.follow-requires
unfolding firsts words keywords constructors uoperators cps encode_all encode key hop
follow-requires c =
    let id = c.args.id.now in
    chain_begins id 89 119 _ (rw c.key.ensures (first_at 89 id)) (omega arith) (omega arith)

pub returns : goal.returns
unfolding firsts words keywords constructors uoperators cps encode_all encode key hop
returns c =
    let id = c.args.id.now in
    c.follow.ensures ∙ seek_table id 89 119 _ (rw c.key.ensures (first_at 89 id)) (omega arith) (omega arith)
