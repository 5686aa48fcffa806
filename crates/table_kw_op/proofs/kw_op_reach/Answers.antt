-- Each arm's number is how long each word is that begins with its byte, which is computed from the definition's table.
use native.Mathlib.Omega.{arith}
use Rattle.definition.specs.Utf8.{encode, encode_all}
use Rattle.definition.specs.Tables.{cps, kw_op_rules}
use Rattle.table_kw_op.proofs.kw_op_reach.Goals as goal

pub returns-in-109 : goal.returns-in-109
unfolding kw_op_rules cps encode_all encode
returns-in-109 c = record { short = omega arith; each = rw c.in-109.is }

pub returns-in-105 : goal.returns-in-105
unfolding kw_op_rules cps encode_all encode
returns-in-105 c = record { short = omega arith; each = rw c.in-105.is }

pub returns-in-108 : goal.returns-in-108
unfolding kw_op_rules cps encode_all encode
returns-in-108 c = record { short = omega arith; each = rw c.in-108.is }

pub returns-in-101 : goal.returns-in-101
unfolding kw_op_rules cps encode_all encode
returns-in-101 c = record { short = omega arith; each = rw c.in-101.is }

pub returns-in-102 : goal.returns-in-102
unfolding kw_op_rules cps encode_all encode
returns-in-102 c = record { short = omega arith; each = rw c.in-102.is }

pub returns-in-97 : goal.returns-in-97
unfolding kw_op_rules cps encode_all encode
returns-in-97 c = record { short = omega arith; each = rw c.in-97.is }

pub returns-in-59 : goal.returns-in-59
unfolding kw_op_rules cps encode_all encode
returns-in-59 c = record { short = omega arith; each = rw c.in-59.is }
