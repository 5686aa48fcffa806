-- What `short_length` tells of a payload: where it is a number, the payload has so many bytes; and it is none where a `match` on the
-- payload has left out parts of the text and texts of the tables. Rests on nothing but the definition of the lengths.
use Rattle.std.specs.Prelude.{Some, None}
use Prim.Native.Nat.{ℕ}
use mathlib.Core.Path.{◌≡◌, refl}
use Rattle.definition.specs.Basics.{Bytes}
use Rattle.reader.specs.declared.Payload.{Payload}
use Rattle.reader.specs.declared.Payload.TheVariants.{Part, Text, Greater, Name, Line, FileLine, Literal, Piece, Blob}
use Rattle.reader.specs.Described.{length_of, short_length}

pub short_long : (name : Bytes) (p : Payload) (n : ℕ) → short_length p ≡ Some n → length_of name p ≡ n
short_long name (Part from to) n e = cc
short_long name (Text k) n e = cc
short_long name (Greater from to) n e = cc
short_long name Name n e = cc
short_long name (Line m) n e = cc
short_long name (FileLine m) n e = cc
short_long name (Literal from m) n e = cc
short_long name (Piece from to width m) n e = cc
short_long name (Blob from to contents end) n e = cc

-- neither a part of the text nor a text of the tables
pub record Other (p : Payload) : Type 0 where
  pub part : (from to : ℕ) → p ≡ Part from to → ⊥
  pub text : (k : ℕ) → p ≡ Text k → ⊥

pub short_other : (p : Payload) → Other p → short_length p ≡ None
short_other (Part from to) o = absurd (o.part from to refl)
short_other (Text k) o = absurd (o.text k refl)
short_other (Greater from to) o = refl
short_other Name o = refl
short_other (Line n) o = refl
short_other (FileLine n) o = refl
short_other (Literal from n) o = refl
short_other (Piece from to width n) o = refl
short_other (Blob from to contents end) o = refl
