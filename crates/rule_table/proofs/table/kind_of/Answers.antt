-- Each arm has the kind that its places' names have, and none of the others names one.
use Prim.Native.Nat.{ℕ}
use mathlib.Core.Path.{refl, ◌∙◌}
use mathlib.Core.List.{List, [], ◌∷◌, map}
use lib.ListN.{get_or-map}
use Rattle.definition.specs.Basics.{mem_cp}
use Rattle.definition.specs.Kinds.{kind, kind_names, number_from}
use Rattle.rule_table.specs.Plain.{place_kinds, kind_of}
use Rattle.rule_table.proofs.Keys.{of_keys, of_others}
use Rattle.rule_table.proofs.table.kind_of.Goals as goal

-- The keys of the arms, from the last to the first.
abbrev arms : List (List ℕ)
arms =
    (48 ∷ []) ∷ (47 ∷ []) ∷ (46 ∷ []) ∷ (45 ∷ []) ∷ (43 ∷ []) ∷ (42 ∷ []) ∷ (41 ∷ []) ∷ (40 ∷ []) ∷ (39 ∷ []) ∷ (37 ∷ 44 ∷ []) ∷ (35 ∷ []) ∷ (34 ∷ []) ∷ (33 ∷ []) ∷ (32 ∷ []) ∷ (26 ∷ []) ∷ (25 ∷ []) ∷ (24 ∷ []) ∷ (23 ∷ []) ∷ (22 ∷ []) ∷ (21 ∷ []) ∷ (20 ∷ []) ∷ (19 ∷ []) ∷ (18 ∷ []) ∷ (17 ∷ []) ∷ (13 ∷ []) ∷ (11 ∷ []) ∷ (5 ∷ 16 ∷ []) ∷ (4 ∷ 6 ∷ []) ∷ []

pub returns-in-4 : goal.returns-in-4
unfolding place_kinds kind kind_names number_from
returns-in-4 c = of_keys kind_of (4 ∷ 6 ∷ []) refl c.in-4.is

pub returns-in-5 : goal.returns-in-5
unfolding place_kinds kind kind_names number_from
returns-in-5 c = of_keys kind_of (5 ∷ 16 ∷ []) refl c.in-5.is

pub returns-in-11 : goal.returns-in-11
unfolding place_kinds kind kind_names number_from
returns-in-11 c = of_keys kind_of (11 ∷ []) refl c.in-11.is

pub returns-in-13 : goal.returns-in-13
unfolding place_kinds kind kind_names number_from
returns-in-13 c = of_keys kind_of (13 ∷ []) refl c.in-13.is

pub returns-in-17 : goal.returns-in-17
unfolding place_kinds kind kind_names number_from
returns-in-17 c = of_keys kind_of (17 ∷ []) refl c.in-17.is

pub returns-in-18 : goal.returns-in-18
unfolding place_kinds kind kind_names number_from
returns-in-18 c = of_keys kind_of (18 ∷ []) refl c.in-18.is

pub returns-in-19 : goal.returns-in-19
unfolding place_kinds kind kind_names number_from
returns-in-19 c = of_keys kind_of (19 ∷ []) refl c.in-19.is

pub returns-in-20 : goal.returns-in-20
unfolding place_kinds kind kind_names number_from
returns-in-20 c = of_keys kind_of (20 ∷ []) refl c.in-20.is

pub returns-in-21 : goal.returns-in-21
unfolding place_kinds kind kind_names number_from
returns-in-21 c = of_keys kind_of (21 ∷ []) refl c.in-21.is

pub returns-in-22 : goal.returns-in-22
unfolding place_kinds kind kind_names number_from
returns-in-22 c = of_keys kind_of (22 ∷ []) refl c.in-22.is

pub returns-in-23 : goal.returns-in-23
unfolding place_kinds kind kind_names number_from
returns-in-23 c = of_keys kind_of (23 ∷ []) refl c.in-23.is

pub returns-in-24 : goal.returns-in-24
unfolding place_kinds kind kind_names number_from
returns-in-24 c = of_keys kind_of (24 ∷ []) refl c.in-24.is

pub returns-in-25 : goal.returns-in-25
unfolding place_kinds kind kind_names number_from
returns-in-25 c = of_keys kind_of (25 ∷ []) refl c.in-25.is

pub returns-in-26 : goal.returns-in-26
unfolding place_kinds kind kind_names number_from
returns-in-26 c = of_keys kind_of (26 ∷ []) refl c.in-26.is

pub returns-in-32 : goal.returns-in-32
unfolding place_kinds kind kind_names number_from
returns-in-32 c = of_keys kind_of (32 ∷ []) refl c.in-32.is

pub returns-in-33 : goal.returns-in-33
unfolding place_kinds kind kind_names number_from
returns-in-33 c = of_keys kind_of (33 ∷ []) refl c.in-33.is

pub returns-in-34 : goal.returns-in-34
unfolding place_kinds kind kind_names number_from
returns-in-34 c = of_keys kind_of (34 ∷ []) refl c.in-34.is

pub returns-in-35 : goal.returns-in-35
unfolding place_kinds kind kind_names number_from
returns-in-35 c = of_keys kind_of (35 ∷ []) refl c.in-35.is

pub returns-in-37 : goal.returns-in-37
unfolding place_kinds kind kind_names number_from
returns-in-37 c = of_keys kind_of (37 ∷ 44 ∷ []) refl c.in-37.is

pub returns-in-39 : goal.returns-in-39
unfolding place_kinds kind kind_names number_from
returns-in-39 c = of_keys kind_of (39 ∷ []) refl c.in-39.is

pub returns-in-40 : goal.returns-in-40
unfolding place_kinds kind kind_names number_from
returns-in-40 c = of_keys kind_of (40 ∷ []) refl c.in-40.is

pub returns-in-41 : goal.returns-in-41
unfolding place_kinds kind kind_names number_from
returns-in-41 c = of_keys kind_of (41 ∷ []) refl c.in-41.is

pub returns-in-42 : goal.returns-in-42
unfolding place_kinds kind kind_names number_from
returns-in-42 c = of_keys kind_of (42 ∷ []) refl c.in-42.is

pub returns-in-43 : goal.returns-in-43
unfolding place_kinds kind kind_names number_from
returns-in-43 c = of_keys kind_of (43 ∷ []) refl c.in-43.is

pub returns-in-45 : goal.returns-in-45
unfolding place_kinds kind kind_names number_from
returns-in-45 c = of_keys kind_of (45 ∷ []) refl c.in-45.is

pub returns-in-46 : goal.returns-in-46
unfolding place_kinds kind kind_names number_from
returns-in-46 c = of_keys kind_of (46 ∷ []) refl c.in-46.is

pub returns-in-47 : goal.returns-in-47
unfolding place_kinds kind kind_names number_from
returns-in-47 c = of_keys kind_of (47 ∷ []) refl c.in-47.is

pub returns-in-48 : goal.returns-in-48
unfolding place_kinds kind kind_names number_from
returns-in-48 c = of_keys kind_of (48 ∷ []) refl c.in-48.is

pub returns-in_default : goal.returns-in_default
unfolding place_kinds kind kind_names number_from mem_cp
returns-in_default c = of_others arms (map kind place_kinds) 0 c.args.place refl refl c.in_default.in_default-own.rest ∙ get_or-map kind place_kinds c.args.place ""
