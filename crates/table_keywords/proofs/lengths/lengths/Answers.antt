-- Each arm has the lengths that the definition's keywords give for its byte; no keyword begins with any other byte of ASCII.
use Rattle.definition.specs.Utf8.{encode, encode_all}
use Rattle.definition.specs.Tables.{cps, keywords}
use Rattle.table_keywords.specs.Lengths.{lengths, with_bit}
use Rattle.table_keywords.proofs.LengthLaws.{no_first}
use Rattle.table_keywords.proofs.lengths.lengths.Goals as goal

pub returns-in_default : goal.returns-in_default
returns-in_default c = no_first _ c.requires c.in_default.in_default-own.rest

pub returns-in-95 : goal.returns-in-95
unfolding lengths with_bit keywords cps encode_all encode
returns-in-95 c = rw c.in-95.is

pub returns-in-97 : goal.returns-in-97
unfolding lengths with_bit keywords cps encode_all encode
returns-in-97 c = rw c.in-97.is

pub returns-in-98 : goal.returns-in-98
unfolding lengths with_bit keywords cps encode_all encode
returns-in-98 c = rw c.in-98.is

pub returns-in-99 : goal.returns-in-99
unfolding lengths with_bit keywords cps encode_all encode
returns-in-99 c = rw c.in-99.is

pub returns-in-100 : goal.returns-in-100
unfolding lengths with_bit keywords cps encode_all encode
returns-in-100 c = rw c.in-100.is

pub returns-in-101 : goal.returns-in-101
unfolding lengths with_bit keywords cps encode_all encode
returns-in-101 c = rw c.in-101.is

pub returns-in-102 : goal.returns-in-102
unfolding lengths with_bit keywords cps encode_all encode
returns-in-102 c = rw c.in-102.is

pub returns-in-105 : goal.returns-in-105
unfolding lengths with_bit keywords cps encode_all encode
returns-in-105 c = rw c.in-105.is

pub returns-in-108 : goal.returns-in-108
unfolding lengths with_bit keywords cps encode_all encode
returns-in-108 c = rw c.in-108.is

pub returns-in-109 : goal.returns-in-109
unfolding lengths with_bit keywords cps encode_all encode
returns-in-109 c = rw c.in-109.is

pub returns-in-110 : goal.returns-in-110
unfolding lengths with_bit keywords cps encode_all encode
returns-in-110 c = rw c.in-110.is

pub returns-in-111 : goal.returns-in-111
unfolding lengths with_bit keywords cps encode_all encode
returns-in-111 c = rw c.in-111.is

pub returns-in-112 : goal.returns-in-112
unfolding lengths with_bit keywords cps encode_all encode
returns-in-112 c = rw c.in-112.is

pub returns-in-113 : goal.returns-in-113
unfolding lengths with_bit keywords cps encode_all encode
returns-in-113 c = rw c.in-113.is

pub returns-in-114 : goal.returns-in-114
unfolding lengths with_bit keywords cps encode_all encode
returns-in-114 c = rw c.in-114.is

pub returns-in-115 : goal.returns-in-115
unfolding lengths with_bit keywords cps encode_all encode
returns-in-115 c = rw c.in-115.is

pub returns-in-116 : goal.returns-in-116
unfolding lengths with_bit keywords cps encode_all encode
returns-in-116 c = rw c.in-116.is

pub returns-in-117 : goal.returns-in-117
unfolding lengths with_bit keywords cps encode_all encode
returns-in-117 c = rw c.in-117.is

pub returns-in-118 : goal.returns-in-118
unfolding lengths with_bit keywords cps encode_all encode
returns-in-118 c = rw c.in-118.is

pub returns-in-119 : goal.returns-in-119
unfolding lengths with_bit keywords cps encode_all encode
returns-in-119 c = rw c.in-119.is
