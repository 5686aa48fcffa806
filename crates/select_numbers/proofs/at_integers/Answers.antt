-- `at_integers` is the best of places 16 to 25: the ends of the digits are handed to each.
use mathlib.Core.Path.{refl}
use Rattle.definition.specs.Tables.{cps}
use Rattle.definition.specs.Utf8.{encode, encode_all}
use Rattle.select_places.proofs.Chains.{kept, placed}
use Rattle.select_numbers.proofs.LatestEnd.{ends_latest}
use Rattle.select_numbers.proofs.at_integers.Goals as goal

pub try_suffix-best-requires : goal.try_suffix-best-requires
try_suffix-best-requires c = c.requires

pub try_usuffix-best-requires : goal.try_usuffix-best-requires
try_usuffix-best-requires c = c.requires

pub try_suffix-best-requires-2 : goal.try_suffix-best-requires-2
try_suffix-best-requires-2 c = c.requires

pub try_usuffix-best-requires-2 : goal.try_usuffix-best-requires-2
try_usuffix-best-requires-2 c = c.requires

pub try_suffix-best-requires-3 : goal.try_suffix-best-requires-3
try_suffix-best-requires-3 c = c.requires

pub try_usuffix-best-requires-3 : goal.try_usuffix-best-requires-3
try_usuffix-best-requires-3 c = c.requires

pub try_suffix-best-requires-4 : goal.try_suffix-best-requires-4
try_suffix-best-requires-4 c = c.requires

pub try_suffix-requires : goal.try_suffix-requires
try_suffix-requires c = c.requires

pub returns : goal.returns
unfolding cps encode_all encode
returns c =
    kept c.try_suffix.ensures
    (kept c.try_suffix-best-4.ensures
    (kept c.try_usuffix-best-3.ensures
    (kept c.try_suffix-best-3.ensures
    (kept c.try_usuffix-best-2.ensures
    (kept c.try_suffix-best-2.ensures
    (kept c.try_usuffix-best.ensures
    (kept c.try_suffix-best.ensures
    (placed _ _ c.try_place-best.ensures
    (placed _ _ c.alone-best.ensures refl (ends_latest _ _ c.latest.ensures c.requires))
    c.byte_after.ensures)
    refl)
    refl)
    refl)
    refl)
    refl)
    refl)
    refl)
    refl
