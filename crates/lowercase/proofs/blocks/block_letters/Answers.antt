-- Each arm has the letters that the definition's table gives for its block, which antt computes.
use mathlib.Core.Path.{refl}
use Rattle.definition.specs.ClassFile.{in_ranges}
use Rattle.definition.specs.Lowercase.{ll_tbl}
use Rattle.lowercase.specs.Blocks.{letters}
use Rattle.lowercase.proofs.BlockLaws.{computed}
use Rattle.lowercase.proofs.blocks.block_letters.Goals as goal

pub returns-in_default : goal.returns-in_default
returns-in_default c = c.without_letters.ensures

pub returns-in-0 : goal.returns-in-0
unfolding letters in_ranges ll_tbl
returns-in-0 c = rw c.in-0.is (computed 0 refl)

pub returns-in-1 : goal.returns-in-1
unfolding letters in_ranges ll_tbl
returns-in-1 c = rw c.in-1.is (computed 1 refl)

pub returns-in-2 : goal.returns-in-2
unfolding letters in_ranges ll_tbl
returns-in-2 c = rw c.in-2.is (computed 2 refl)

pub returns-in-3 : goal.returns-in-3
unfolding letters in_ranges ll_tbl
returns-in-3 c = rw c.in-3.is (computed 3 refl)

pub returns-in-4 : goal.returns-in-4
unfolding letters in_ranges ll_tbl
returns-in-4 c = rw c.in-4.is (computed 4 refl)

pub returns-in-5 : goal.returns-in-5
unfolding letters in_ranges ll_tbl
returns-in-5 c = rw c.in-5.is (computed 5 refl)

pub returns-in-6 : goal.returns-in-6
unfolding letters in_ranges ll_tbl
returns-in-6 c = rw c.in-6.is (computed 6 refl)

pub returns-in-7 : goal.returns-in-7
unfolding letters in_ranges ll_tbl
returns-in-7 c = rw c.in-7.is (computed 7 refl)

pub returns-in-8 : goal.returns-in-8
unfolding letters in_ranges ll_tbl
returns-in-8 c = rw c.in-8.is (computed 8 refl)

pub returns-in-9 : goal.returns-in-9
unfolding letters in_ranges ll_tbl
returns-in-9 c = rw c.in-9.is (computed 9 refl)

pub returns-in-10 : goal.returns-in-10
unfolding letters in_ranges ll_tbl
returns-in-10 c = rw c.in-10.is (computed 10 refl)

pub returns-in-11 : goal.returns-in-11
unfolding letters in_ranges ll_tbl
returns-in-11 c = rw c.in-11.is (computed 11 refl)

pub returns-in-12 : goal.returns-in-12
unfolding letters in_ranges ll_tbl
returns-in-12 c = rw c.in-12.is (computed 12 refl)

pub returns-in-13 : goal.returns-in-13
unfolding letters in_ranges ll_tbl
returns-in-13 c = rw c.in-13.is (computed 13 refl)

pub returns-in-14 : goal.returns-in-14
unfolding letters in_ranges ll_tbl
returns-in-14 c = rw c.in-14.is (computed 14 refl)

pub returns-in-15 : goal.returns-in-15
unfolding letters in_ranges ll_tbl
returns-in-15 c = rw c.in-15.is (computed 15 refl)

pub returns-in-16 : goal.returns-in-16
unfolding letters in_ranges ll_tbl
returns-in-16 c = rw c.in-16.is (computed 16 refl)

pub returns-in-17 : goal.returns-in-17
unfolding letters in_ranges ll_tbl
returns-in-17 c = rw c.in-17.is (computed 17 refl)

pub returns-in-18 : goal.returns-in-18
unfolding letters in_ranges ll_tbl
returns-in-18 c = rw c.in-18.is (computed 18 refl)

pub returns-in-19 : goal.returns-in-19
unfolding letters in_ranges ll_tbl
returns-in-19 c = rw c.in-19.is (computed 19 refl)

pub returns-in-20 : goal.returns-in-20
unfolding letters in_ranges ll_tbl
returns-in-20 c = rw c.in-20.is (computed 20 refl)

pub returns-in-21 : goal.returns-in-21
unfolding letters in_ranges ll_tbl
returns-in-21 c = rw c.in-21.is (computed 21 refl)

pub returns-in-22 : goal.returns-in-22
unfolding letters in_ranges ll_tbl
returns-in-22 c = rw c.in-22.is (computed 22 refl)

pub returns-in-132 : goal.returns-in-132
unfolding letters in_ranges ll_tbl
returns-in-132 c = rw c.in-132.is (computed 132 refl)

pub returns-in-133 : goal.returns-in-133
unfolding letters in_ranges ll_tbl
returns-in-133 c = rw c.in-133.is (computed 133 refl)

pub returns-in-134 : goal.returns-in-134
unfolding letters in_ranges ll_tbl
returns-in-134 c = rw c.in-134.is (computed 134 refl)
