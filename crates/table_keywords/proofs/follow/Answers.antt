use native.Mathlib.Omega.{arith}
use Prim.Native.Nat.{◌<◌}
use mathlib.Core.Path.{refl, sym, ◌∙◌}
use Rattle.definition.specs.Utf8.{encode, encode_all}
use Rattle.definition.specs.Tables.{cps, keywords, constructors, uoperators}
use Rattle.table_words.specs.Words.{words}
use Rattle.table_keywords.specs.Places.{key, hop}
use Rattle.table_keywords.proofs.Chains.{up_to_at, nexts, next_at, next_later, seeking_starts, seeking_found, seeking_goes_on, seeking_ends}
use Rattle.table_keywords.proofs.follow.Goals as goal

pub loop-k-init : goal.loop-k-init
loop-k-init c = seeking_starts c.requires

pub is_word-requires : goal.is_word-requires
is_word-requires c = omega (arith, c.loop-k.invariant.ends)

pub returns-then-is_word : goal.returns-then-is_word
returns-then-is_word c =
    seeking_found c.loop-k.invariant c.loop-k-test.true (sym c.is_word.ensures ∙ c.if-is_word.true)

pub bounds-k : goal.bounds-k
bounds-k c =
    omega (arith, c.loop-k.invariant.ends)

pub overflow_cast-k : goal.overflow_cast-k
unfolding nexts words keywords constructors uoperators cps encode_all encode key hop
overflow_cast-k c = omega (arith, up_to_at 119 (nexts 0 words) refl c.loop-k.k)

pub loop-k-smaller : goal.loop-k-smaller
unfolding nexts words keywords constructors uoperators cps encode_all encode key hop
loop-k-smaller c =
    let k = c.loop-k.k in
    let h : k < 119 = omega (arith, c.loop-k.invariant.ends) in
    omega (arith, next_at k h, next_later k)

pub loop-k-preserved : goal.loop-k-preserved
unfolding nexts words keywords constructors uoperators cps encode_all encode key hop
loop-k-preserved c =
    let k = c.loop-k.k in
    let h : k < 119 = omega (arith, c.loop-k.invariant.ends) in
    rw (next_at k h) (seeking_goes_on c.loop-k.invariant c.loop-k-test.true (sym c.is_word.ensures ∙ c.if-is_word.false))

pub returns : goal.returns
returns c = seeking_ends c.loop-k.invariant c.loop-k-test.false
