-- What is lent to `select`, and which ASCII character stands at an offset. s is the text, f the class file, i the offset.
use Rattle.std.specs.Prelude.{ℕ, ◌<◌, ◌≡◌, Bool, false, List, ◌∷◌, length}
use Rattle.definition.specs.Basics.{Bytes, codes, mem_cp}
use Rattle.definition.specs.Utf8.{sequence_at}
use Rattle.definition.specs.ClassFile.{class_check}
use Rattle.definition.specs.Chars.{ascii_table, op_char_cps, symbolchar_cps}
use Rattle.definition.specs.declared.Sequence.TheVariants.{Char}

-- the ASCII characters that decide the choice by themselves
unfoldable pub decided : List ℕ
decided = 9 ∷ 10 ∷ 11 ∷ 12 ∷ 13 ∷ codes " !\"#$%&'()*+,-./:;<=>?@[\\]^_`aefilmrsu{|}~"

-- what is lent to `select`: a class file that passes the class check, and the tables of operator and of symbol characters
pub record Lent (f : Bytes) (ops symbols : List Bool) : Type 0 where
  pub classes : class_check f ≡ 0
  pub operators : ops ≡ ascii_table op_char_cps
  pub symbolchars : symbols ≡ ascii_table symbolchar_cps

-- the ASCII character c stands at i
pub record Ascii (s : Bytes) (i c : ℕ) : Type 0 where
  pub read : sequence_at s i ≡ Char c 1
  pub small : c < 128
  pub within : i < length s

-- a character c stands there that is none of those with which a line end, white space, an operator, a quote or a keyword begins
pub record Other (s : Bytes) (i c : ℕ) : Type 0 where
  pub ascii : Ascii s i c
  pub none : mem_cp c decided ≡ false
