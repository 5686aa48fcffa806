-- What the writer of literals asks for. s is the text, f the class file, out the buffer that is lent.
use Rattle.std.specs.Prelude.{ℕ, ◌-◌, ◌≤◌, ◌≡◌, length}
use Rattle.definition.specs.Basics.{Bytes}
use Rattle.definition.specs.ClassFile.{class_check}
use Rattle.reader.specs.Described.{literal}
use Rattle.read_string.specs.declared.moves.Move.{Move}
use Rattle.read_string.specs.Ends.{Goes, adds}

-- the part from i up to e lies in the text and fits
pub record Copies (s : Bytes) (i e : ℕ) (out : Bytes) : Type 0 where
  pub within : e ≤ length s
  pub room : e - i ≤ length out

-- what a move at i adds fits
pub record Puts (s : Bytes) (m : Move) (i : ℕ) (out : Bytes) : Type 0 where
  pub goes : Goes s i m
  pub room : length (adds s i m) ≤ length out

-- the literal from byte `from` on has n bytes, and they fit
pub record Writes (s f : Bytes) (from n : ℕ) (out : Bytes) : Type 0 where
  pub accepted : class_check f ≡ 0
  pub long : n ≡ length (literal s f from)
  pub room : n ≤ length out
