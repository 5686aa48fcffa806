-- Payloads that are a part of the text or a text of the tables: what their writer asks of those that copy their bytes, and what it
-- leaves where there are none. Rests on the lengths of descriptions.
use Rattle.std.specs.Prelude.{Some, None}
use Prim.Native.Nat.{ℕ, ◌<◌, ◌≤◌}
use mathlib.Core.Path.{◌≡◌, refl, ◌∙◌}
use mathlib.Core.List.{[], ◌∷◌}
use native.Mathlib.Omega.{arith}
use lib.ListN.{length, get_or}
use lib.Seq.{length-slice}
use Rattle.definition.specs.Basics.{Bytes}
use Rattle.lemmas.specs.Over.{over}
use Rattle.table_entries.specs.Entries.{texts}
use Rattle.payload_write.specs.Asks.{Copies}
use Rattle.reader.specs.declared.Payload.{Payload}
use Rattle.reader.specs.declared.Payload.TheVariants.{Part, Text, Greater, Name, Line, FileLine, Literal, Piece, Blob}
use Rattle.reader.specs.Described.{bytes_of, short_length, Inside}
use Rattle.reader.proofs.Short.{short_long, Other, short_other}
use Rattle.payload_write.specs.Writable.{ShortFits}

-- a part is copied
pub part_fits : {s out : Bytes} {from to size : ℕ} → ShortFits s (Part from to) size out → Copies s from to out
part_fits {from = from} {to = to} {size = size} w =
    record { within = w.inside; room = omega (arith, short_long [] (Part from to) size w.short, w.room) }

-- a text is copied
pub text_fits : {s out : Bytes} {k size : ℕ} → ShortFits s (Text k) size out → (k < 181) × (length (get_or texts k []) ≤ length out)
text_fits {k = k} {size = size} w = (w.inside, omega (arith, short_long [] (Text k) size w.short, w.room))

-- a short payload has as many bytes as its length says
short_bytes : (s name f : Bytes) (p : Payload) (n : ℕ) → Inside s p → short_length p ≡ Some n → length (bytes_of s name f p) ≡ n
short_bytes s name f (Part from to) n h e = length-slice from to s h ∙ short_long name (Part from to) n e
short_bytes s name f (Text k) n h e = short_long name (Text k) n e
short_bytes s name f (Greater from to) n h e = cc
short_bytes s name f Name n h e = cc
short_bytes s name f (Line m) n h e = cc
short_bytes s name f (FileLine m) n h e = cc
short_bytes s name f (Literal from m) n h e = cc
short_bytes s name f (Piece from to width m) n h e = cc
short_bytes s name f (Blob from to contents end) n h e = cc

-- no bytes leave a buffer as it was
over_none : (bs l : Bytes) → length bs ≡ 0 → l ≡ over bs l
unfolding over
over_none [] l e = refl
over_none (b ∷ bs) l e = absurd (omega arith)

pub nothing_short : {s out : Bytes} (name f : Bytes) (p : Payload) (size : ℕ) → size ≡ 0 → ShortFits s p size out → out ≡ over (bytes_of s name f p) out
nothing_short {s} {out} name f p size z w = over_none (bytes_of s name f p) out (short_bytes s name f p size w.inside w.short ∙ z)

-- no other payload is short
pub no_other : {s out : Bytes} (p : Payload) (size : ℕ) → ShortFits s p size out → Other p → ⊥
no_other p size w h =
    let e : short_length p ≡ None = short_other p h in
    let z : ◌≡◌ {A = ℕ} 0 1 = cc w.short in
    omega arith
