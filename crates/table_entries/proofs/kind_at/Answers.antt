-- `kind_at` is the kind of the definition's entry: in each range the rule gives what its tables give.
use Prim.Native.Nat.{ℕ, ◌+◌, ◌-◌}
use mathlib.Core.Path.{refl}
use mathlib.Core.List.{map}
use lib.ListN.{get_or}
use Rattle.definition.specs.Kinds.{kind, kind_names, number_from}
use Rattle.definition.specs.Tables.{Entry, keywords, constructors, uoperators, op_tokens, mixfix_rules, entry}
use Rattle.table_entries.specs.Entries.{entries}
use Rattle.table_entries.proofs.TextLaws.{each_from}
use native.Mathlib.Omega.{arith}
use Rattle.table_entries.proofs.kind_at.Goals as goal

pub returns-then-k-lt21 : goal.returns-then-k-lt21
unfolding entries keywords constructors uoperators op_tokens mixfix_rules kind kind_names number_from
returns-then-k-lt21 c = each_from (λ (k : ℕ). k + 1) (λ (k : ℕ). kind (entry entries k).kind) 0 21 refl c.args.k (omega arith) (omega arith)

pub returns-then-k-lt-FIRST_VARIABLE : goal.returns-then-k-lt-FIRST_VARIABLE
unfolding entries keywords constructors uoperators op_tokens mixfix_rules kind kind_names number_from
returns-then-k-lt-FIRST_VARIABLE c = each_from (λ (k : ℕ). k) (λ (k : ℕ). kind (entry entries k).kind) 21 45 refl c.args.k (omega arith) (omega arith)

pub returns-then-k-lt89 : goal.returns-then-k-lt89
unfolding entries keywords constructors uoperators op_tokens mixfix_rules kind kind_names number_from
returns-then-k-lt89 c = each_from (λ (k : ℕ). 65) (λ (k : ℕ). kind (entry entries k).kind) 66 23 refl c.args.k (omega arith) (omega arith)

pub returns-then-k-lt119 : goal.returns-then-k-lt119
unfolding entries keywords constructors uoperators op_tokens mixfix_rules kind kind_names number_from
returns-then-k-lt119 c =
    each_from (λ (k : ℕ). get_or (map (λ (e : Entry). kind e.kind) uoperators) (k - 89) 0) (λ (k : ℕ). kind (entry entries k).kind) 89 30 refl c.args.k (omega arith) (omega arith)

pub returns-then-k-lt172 : goal.returns-then-k-lt172
unfolding entries keywords constructors uoperators op_tokens mixfix_rules kind kind_names number_from
returns-then-k-lt172 c = each_from (λ (k : ℕ). k - 119 + 66) (λ (k : ℕ). kind (entry entries k).kind) 119 53 refl c.args.k (omega arith) (omega arith)

pub returns-then-k-lt176 : goal.returns-then-k-lt176
unfolding entries keywords constructors uoperators op_tokens mixfix_rules kind kind_names number_from
returns-then-k-lt176 c = each_from (λ (k : ℕ). 146) (λ (k : ℕ). kind (entry entries k).kind) 172 4 refl c.args.k (omega arith) (omega arith)

pub returns : goal.returns
unfolding entries keywords constructors uoperators op_tokens mixfix_rules kind kind_names number_from
returns c = each_from (λ (k : ℕ). 147) (λ (k : ℕ). kind (entry entries k).kind) 176 4 refl c.args.k (omega arith) (omega arith)
