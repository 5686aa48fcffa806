-- What the writers of payloads ask for. s is the text, name the file's name, f the class file, out the buffer that is lent.
use Rattle.std.specs.Prelude.{ℕ, ◌≤◌, ◌≡◌, length, Some}
use Rattle.definition.specs.Basics.{Bytes}
use Rattle.definition.specs.ClassFile.{class_check}
use Rattle.reader.specs.declared.Payload.{Payload}
use Rattle.reader.specs.Described.{bytes_of, length_of, short_length, Inside}

-- the description is right for the text, and its bytes fit
pub record Writable (s name f : Bytes) (p : Payload) (out : Bytes) : Type 0 where
  pub accepted : class_check f ≡ 0
  pub long : length_of name p ≡ length (bytes_of s name f p)
  pub inside : Inside s p
  pub room : length_of name p ≤ length out

-- the description is one of the short ones, right for the text, and its `size` bytes fit
pub record ShortFits (s : Bytes) (p : Payload) (size : ℕ) (out : Bytes) : Type 0 where
  pub short : short_length p ≡ Some size
  pub inside : Inside s p
  pub room : size ≤ length out
