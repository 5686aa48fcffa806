-- Each arm has the rule of its places, and none of the others has one.
use Prim.Native.Nat.{ℕ}
use mathlib.Core.Path.{refl}
use mathlib.Core.List.{List, [], ◌∷◌}
use Rattle.definition.specs.Basics.{mem_cp}
use Rattle.rule_table.specs.Rules.{rule_list, rule_of}
use Rattle.rule_table.specs.declared.table.Rule.TheVariants.{Reader}
use Rattle.rule_table.specs.declared.table.ReaderRule.TheVariants.{Any}
use Rattle.rule_table.proofs.Keys.{of_keys, of_others}
use Rattle.rule_table.proofs.table.rule_of.Goals as goal

-- The keys of the arms, from the last to the first.
abbrev arms : List (List ℕ)
arms =
    (49 ∷ []) ∷ (40 ∷ 42 ∷ 44 ∷ 46 ∷ 48 ∷ []) ∷ (39 ∷ 41 ∷ 43 ∷ 45 ∷ 47 ∷ []) ∷ (38 ∷ []) ∷ (31 ∷ []) ∷ (30 ∷ []) ∷ (28 ∷ []) ∷ (27 ∷ []) ∷ (17 ∷ []) ∷ (19 ∷ 21 ∷ 23 ∷ 25 ∷ []) ∷ (16 ∷ 18 ∷ 20 ∷ 22 ∷ 24 ∷ []) ∷ (15 ∷ []) ∷ (14 ∷ []) ∷ (12 ∷ []) ∷ (10 ∷ []) ∷ (9 ∷ []) ∷ (8 ∷ []) ∷ (7 ∷ 29 ∷ []) ∷ (3 ∷ []) ∷ (2 ∷ []) ∷ (4 ∷ 6 ∷ 26 ∷ 32 ∷ 34 ∷ 36 ∷ 50 ∷ []) ∷ (1 ∷ 5 ∷ 11 ∷ 13 ∷ 33 ∷ 35 ∷ 37 ∷ []) ∷ []

pub returns-in-1 : goal.returns-in-1
unfolding rule_list
returns-in-1 c = of_keys rule_of (1 ∷ 5 ∷ 11 ∷ 13 ∷ 33 ∷ 35 ∷ 37 ∷ []) refl c.in-1.is

pub returns-in-4 : goal.returns-in-4
unfolding rule_list
returns-in-4 c = of_keys rule_of (4 ∷ 6 ∷ 26 ∷ 32 ∷ 34 ∷ 36 ∷ 50 ∷ []) refl c.in-4.is

pub returns-in-2 : goal.returns-in-2
unfolding rule_list
returns-in-2 c = of_keys rule_of (2 ∷ []) refl c.in-2.is

pub returns-in-3 : goal.returns-in-3
unfolding rule_list
returns-in-3 c = of_keys rule_of (3 ∷ []) refl c.in-3.is

pub returns-in-7 : goal.returns-in-7
unfolding rule_list
returns-in-7 c = of_keys rule_of (7 ∷ 29 ∷ []) refl c.in-7.is

pub returns-in-8 : goal.returns-in-8
unfolding rule_list
returns-in-8 c = of_keys rule_of (8 ∷ []) refl c.in-8.is

pub returns-in-9 : goal.returns-in-9
unfolding rule_list
returns-in-9 c = of_keys rule_of (9 ∷ []) refl c.in-9.is

pub returns-in-10 : goal.returns-in-10
unfolding rule_list
returns-in-10 c = of_keys rule_of (10 ∷ []) refl c.in-10.is

pub returns-in-12 : goal.returns-in-12
unfolding rule_list
returns-in-12 c = of_keys rule_of (12 ∷ []) refl c.in-12.is

pub returns-in-14 : goal.returns-in-14
unfolding rule_list
returns-in-14 c = of_keys rule_of (14 ∷ []) refl c.in-14.is

pub returns-in-15 : goal.returns-in-15
unfolding rule_list
returns-in-15 c = of_keys rule_of (15 ∷ []) refl c.in-15.is

pub returns-in-16 : goal.returns-in-16
unfolding rule_list
returns-in-16 c = of_keys rule_of (16 ∷ 18 ∷ 20 ∷ 22 ∷ 24 ∷ []) refl c.in-16.is

pub returns-in-19 : goal.returns-in-19
unfolding rule_list
returns-in-19 c = of_keys rule_of (19 ∷ 21 ∷ 23 ∷ 25 ∷ []) refl c.in-19.is

pub returns-in-17 : goal.returns-in-17
unfolding rule_list
returns-in-17 c = of_keys rule_of (17 ∷ []) refl c.in-17.is

pub returns-in-27 : goal.returns-in-27
unfolding rule_list
returns-in-27 c = of_keys rule_of (27 ∷ []) refl c.in-27.is

pub returns-in-28 : goal.returns-in-28
unfolding rule_list
returns-in-28 c = of_keys rule_of (28 ∷ []) refl c.in-28.is

pub returns-in-30 : goal.returns-in-30
unfolding rule_list
returns-in-30 c = of_keys rule_of (30 ∷ []) refl c.in-30.is

pub returns-in-31 : goal.returns-in-31
unfolding rule_list
returns-in-31 c = of_keys rule_of (31 ∷ []) refl c.in-31.is

pub returns-in-38 : goal.returns-in-38
unfolding rule_list
returns-in-38 c = of_keys rule_of (38 ∷ []) refl c.in-38.is

pub returns-in-39 : goal.returns-in-39
unfolding rule_list
returns-in-39 c = of_keys rule_of (39 ∷ 41 ∷ 43 ∷ 45 ∷ 47 ∷ []) refl c.in-39.is

pub returns-in-40 : goal.returns-in-40
unfolding rule_list
returns-in-40 c = of_keys rule_of (40 ∷ 42 ∷ 44 ∷ 46 ∷ 48 ∷ []) refl c.in-40.is

pub returns-in-49 : goal.returns-in-49
unfolding rule_list
returns-in-49 c = of_keys rule_of (49 ∷ []) refl c.in-49.is

pub returns-in_default : goal.returns-in_default
unfolding rule_list mem_cp
returns-in_default c = of_others arms rule_list (Reader Any) c.args.place refl refl c.in_default.in_default-own.rest
