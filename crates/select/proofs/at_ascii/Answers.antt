-- Each arm of the `match` is a group of characters, and its answer what is chosen at them.
use Prim.Native.Nat.{ℕ}
use mathlib.Core.Path.{refl, sym, ◌∙◌}
use mathlib.Core.List.{List, [], ◌∷◌}
use Rattle.definition.specs.Basics.{codes, mem_cp}
use Rattle.select.specs.Standing.{decided}
use Rattle.select.proofs.Standing.{stands}
use Rattle.select.proofs.Groups.{groups}
use Rattle.select.proofs.Others.{other}
use Rattle.select.proofs.at_ascii.Goals as goal

-- The keys of the arms, from the last to the first.
abbrev arms : List (List ℕ)
arms =
    (codes ",:\\") ∷ (codes ")[]{}") ∷ (codes "-") ∷ (codes "$") ∷ (codes "=") ∷ (codes "&") ∷ (codes "!?~") ∷
    (codes "+") ∷ (codes "@^") ∷ (codes ">") ∷ (codes "*") ∷ (codes ".") ∷ (codes "|") ∷ (codes "<") ∷ (codes "/") ∷
    (codes "(") ∷ (codes ";") ∷ (codes "%") ∷ (codes "#") ∷ (codes "\"") ∷ (codes "`") ∷ (codes "'") ∷ (codes "_") ∷
    (codes "ru") ∷ (codes "fm") ∷ (codes "aeil") ∷ (codes "s") ∷ (10 ∷ 13 ∷ []) ∷ (12 ∷ []) ∷ (9 ∷ 11 ∷ 32 ∷ []) ∷ []

pub at_other-requires : goal.at_other-requires
unfolding mem_cp decided
at_other-requires c =
    let given = c.requires in
    (given.0.classes, other arms refl refl given.1 c.in_default.in_default-own.rest)

pub returns-in-9 : goal.returns-in-9
unfolding mem_cp
returns-in-9 c = c.at_white.ensures
    ∙ sym ((groups _ _ _).white (stands (9 ∷ 11 ∷ 32 ∷ []) (9 ∷ 11 ∷ 12 ∷ 32 ∷ []) refl c.requires.1 c.in-9.is))

pub returns-in-12 : goal.returns-in-12
unfolding mem_cp
returns-in-12 c = c.at_white-in-12.ensures
    ∙ sym ((groups _ _ _).white (stands (12 ∷ []) (9 ∷ 11 ∷ 12 ∷ 32 ∷ []) refl c.requires.1 c.in-12.is))

pub returns-in-10 : goal.returns-in-10
unfolding mem_cp
returns-in-10 c = c.at_line_end.ensures
    ∙ sym ((groups _ _ _).line_end (stands (10 ∷ 13 ∷ []) (10 ∷ 13 ∷ []) refl c.requires.1 c.in-10.is))

pub returns-in-115 : goal.returns-in-115
unfolding mem_cp
returns-in-115 c = c.at_early_letter.ensures
    ∙ sym ((groups _ _ _).early_letter (stands (codes "s") (codes "s") refl c.requires.1 c.in-115.is))

pub returns-in-97 : goal.returns-in-97
unfolding mem_cp
returns-in-97 c = c.at_keyword_letter.ensures
    ∙ sym ((groups _ _ _).keyword_letter (stands (codes "aeil") (codes "aefilm") refl c.requires.1 c.in-97.is))

pub returns-in-102 : goal.returns-in-102
unfolding mem_cp
returns-in-102 c = c.at_keyword_letter-in-102.ensures
    ∙ sym ((groups _ _ _).keyword_letter (stands (codes "fm") (codes "aefilm") refl c.requires.1 c.in-102.is))

pub returns-in-114 : goal.returns-in-114
unfolding mem_cp
returns-in-114 c = c.at_token_letter.ensures
    ∙ sym ((groups _ _ _).token_letter (stands (codes "ru") (codes "ru") refl c.requires.1 c.in-114.is))

pub returns-in-95 : goal.returns-in-95
unfolding mem_cp
returns-in-95 c = c.at_underscore.ensures
    ∙ sym ((groups _ _ _).underscore (stands (codes "_") (codes "_") refl c.requires.1 c.in-95.is))

pub returns-in-39 : goal.returns-in-39
unfolding mem_cp
returns-in-39 c = c.at_quote.ensures
    ∙ sym ((groups _ _ _).quote (stands (codes "'") (codes "'") refl c.requires.1 c.in-39.is))

pub returns-in-96 : goal.returns-in-96
unfolding mem_cp
returns-in-96 c = c.at_backtick.ensures
    ∙ sym ((groups _ _ _).backtick (stands (codes "`") (codes "`") refl c.requires.1 c.in-96.is))

pub returns-in-34 : goal.returns-in-34
unfolding mem_cp
returns-in-34 c = c.at_double_quote.ensures
    ∙ sym ((groups _ _ _).double_quote (stands (codes "\"") (codes "\"") refl c.requires.1 c.in-34.is))

pub returns-in-35 : goal.returns-in-35
unfolding mem_cp
returns-in-35 c = c.at_hash.ensures
    ∙ sym ((groups _ _ _).hash (stands (codes "#") (codes "#") refl c.requires.1 c.in-35.is))

pub returns-in-37 : goal.returns-in-37
unfolding mem_cp
returns-in-37 c = c.at_percent.ensures
    ∙ sym ((groups _ _ _).percent (stands (codes "%") (codes "%") refl c.requires.1 c.in-37.is))

pub returns-in-59 : goal.returns-in-59
unfolding mem_cp
returns-in-59 c = c.at_semicolon.ensures
    ∙ sym ((groups _ _ _).semicolon (stands (codes ";") (codes ";") refl c.requires.1 c.in-59.is))

pub returns-in-40 : goal.returns-in-40
unfolding mem_cp
returns-in-40 c = c.at_paren.ensures
    ∙ sym ((groups _ _ _).paren (stands (codes "(") (codes "(") refl c.requires.1 c.in-40.is))

pub returns-in-47 : goal.returns-in-47
unfolding mem_cp
returns-in-47 c = c.at_slash.ensures
    ∙ sym ((groups _ _ _).slash (stands (codes "/") (codes "/") refl c.requires.1 c.in-47.is))

pub returns-in-60 : goal.returns-in-60
unfolding mem_cp
returns-in-60 c = c.at_less.ensures
    ∙ sym ((groups _ _ _).less (stands (codes "<") (codes "<") refl c.requires.1 c.in-60.is))

pub returns-in-124 : goal.returns-in-124
unfolding mem_cp
returns-in-124 c = c.at_bar.ensures
    ∙ sym ((groups _ _ _).bar (stands (codes "|") (codes "|") refl c.requires.1 c.in-124.is))

pub returns-in-46 : goal.returns-in-46
unfolding mem_cp
returns-in-46 c = c.at_point.ensures
    ∙ sym ((groups _ _ _).point (stands (codes ".") (codes ".") refl c.requires.1 c.in-46.is))

pub returns-in-42 : goal.returns-in-42
unfolding mem_cp
returns-in-42 c = c.at_star.ensures
    ∙ sym ((groups _ _ _).star (stands (codes "*") (codes "*") refl c.requires.1 c.in-42.is))

pub returns-in-62 : goal.returns-in-62
unfolding mem_cp
returns-in-62 c = c.at_operator.ensures
    ∙ sym ((groups _ _ _).greater (stands (codes ">") (codes ">") refl c.requires.1 c.in-62.is))

pub returns-in-64 : goal.returns-in-64
unfolding mem_cp
returns-in-64 c = c.at_operator-in-64.ensures
    ∙ sym ((groups _ _ _).power (stands (codes "@^") (codes "@^") refl c.requires.1 c.in-64.is))

pub returns-in-43 : goal.returns-in-43
unfolding mem_cp
returns-in-43 c = c.at_operator-in-43.ensures
    ∙ sym ((groups _ _ _).sum (stands (codes "+") (codes "+") refl c.requires.1 c.in-43.is))

pub returns-in-33 : goal.returns-in-33
unfolding mem_cp
returns-in-33 c = c.at_token_operator.ensures
    ∙ sym ((groups _ _ _).prefix (stands (codes "!?~") (codes "!?~") refl c.requires.1 c.in-33.is))

pub returns-in-38 : goal.returns-in-38
unfolding mem_cp
returns-in-38 c = c.at_token_operator-in-38.ensures
    ∙ sym ((groups _ _ _).ampersand (stands (codes "&") (codes "&") refl c.requires.1 c.in-38.is))

pub returns-in-61 : goal.returns-in-61
unfolding mem_cp
returns-in-61 c = c.at_token_operator-in-61.ensures
    ∙ sym ((groups _ _ _).equals (stands (codes "=") (codes "=") refl c.requires.1 c.in-61.is))

pub returns-in-36 : goal.returns-in-36
unfolding mem_cp
returns-in-36 c = c.at_token_operator-in-36.ensures
    ∙ sym ((groups _ _ _).dollar (stands (codes "$") (codes "$") refl c.requires.1 c.in-36.is))

pub returns-in-45 : goal.returns-in-45
unfolding mem_cp
returns-in-45 c = c.at_token_operator-in-45.ensures
    ∙ sym ((groups _ _ _).minus (stands (codes "-") (codes "-") refl c.requires.1 c.in-45.is))

pub returns-in-41 : goal.returns-in-41
unfolding mem_cp
returns-in-41 c = c.at_token.ensures
    ∙ sym ((groups _ _ _).bracket (stands (codes ")[]{}") (codes "),:[\\]{}") refl c.requires.1 c.in-41.is))

pub returns-in-44 : goal.returns-in-44
unfolding mem_cp
returns-in-44 c = c.at_token-in-44.ensures
    ∙ sym ((groups _ _ _).bracket (stands (codes ",:\\") (codes "),:[\\]{}") refl c.requires.1 c.in-44.is))
