-- The laws of a text, for every layer above to cite: decoding against encoding, legal texts and the first bad offset, the characters
-- after an offset, boundaries, and runs. Rests on `definition`, on `lemmas` and on the files beside this one, which prove them.
use Rattle.std.specs.Prelude.{Some, None}
use Prim.Native.Nat.{ℕ, ◌+◌, ◌≤◌, ◌<◌}
use mathlib.Core.Path.{◌≡◌, refl, sym, ap, subst, ◌∙◌}
use mathlib.Core.Bool.{Bool, true, false}
use mathlib.Core.List.{List, [], ◌∷◌, ◌++◌}
use mathlib.Core.Logic.{◌↔◌}
use native.Mathlib.Omega.{arith}
use lib.ListN.{length}
use lib.Seq.{slice}
use Rattle.definition.specs.Basics.{Bytes}
use Rattle.definition.specs.Utf8.{encode, Scalar, Scalars, encode_all, Legal, Boundary, sequence_at}
use Rattle.definition.specs.Text.{get, next, star, first_bad}
use Rattle.definition.specs.State.{at_character}
use Rattle.definition.specs.declared.Sequence.{Sequence}
use Rattle.definition.specs.declared.Sequence.TheVariants.{Char, Bad, End}
use Rattle.lemmas.proofs.Cases.{by_order}
use Rattle.utf8.specs.Chars.{CharAt, CharTo, Rest, Run, Next, chars_from, first_letter, take_while}
use Rattle.utf8.proofs.Reading.{read_end, get_of, next_of, NoChar, with_none}
use Rattle.utf8.proofs.Character.{read_encode, end_read, char_read, read_char, char_within}
use Rattle.utf8.proofs.Runs.{by_char, chars_on, chars_none, chars_are, encode_injective}
use Rattle.utf8.proofs.Star.{by_star, star_from, star_within, star_ends, star_is, star_run, star_greatest}
use Rattle.utf8.proofs.Boundaries.{boundary_start, boundary_end, legal_whole, boundary_next, rest_is, between_legal, char_before, boundary_character, character_boundary}

-- ---- decoding and encoding

-- A character is read at an offset exactly where its encoding stands there.
pub read_is_written : (s : Bytes) (i c w : ℕ) → sequence_at s i ≡ Char c w ↔ CharAt s i c w
read_is_written s i c w = (char_read, read_char)

-- A scalar value's bytes, with any bytes after them, are read as it.
pub written_is_read : (c : ℕ) → Scalar c → (rest : Bytes) → sequence_at (encode c ++ rest) 0 ≡ Char c (length (encode c))
written_is_read = read_encode

-- The end is read exactly past the text.
pub end_is_past : (s : Bytes) (i : ℕ) → sequence_at s i ≡ End ↔ length s ≤ i
end_is_past s i = (end_read s i, read_end s i)

-- A character has a byte at least, and ends within the text.
pub char_fits : {s : Bytes} {i c w : ℕ} → CharAt s i c w → (1 ≤ w) × (i + w ≤ length s)
char_fits = char_within

-- ---- the characters from an offset on

-- After a boundary of a legal text stands the encoding of the characters that are read there.
pub rest_encodes : {s : Bytes} {i : ℕ} → Legal s → Boundary s i → Rest s i (chars_from s i)
rest_encodes = rest_is

-- It is the encoding of no others.
pub rest_unique : {s : Bytes} {i : ℕ} {cs : List ℕ} → Rest s i cs → chars_from s i ≡ cs
rest_unique {s} {i} {cs} r = chars_are s cs i r.scalars r.bytes

-- Two lists of scalar values with the same encoding are the same.
pub encode_all_injective : (cs ds : List ℕ) → Scalars cs → Scalars ds → encode_all cs ≡ encode_all ds → cs ≡ ds
encode_all_injective = encode_injective

-- `get` is the first of the characters, or that there is none.
pub get_first : (s : Bytes) (i : ℕ) → get s i ≡ first_letter (chars_from s i)
get_first s i =
    by_char s i
    (λ c w e. get_of s i e ∙ ap first_letter (sym (chars_on s i c w e)))
    (λ h. get_of s i refl ∙ with_none (sequence_at s i) i (λ c j. Some c) None h ∙ ap first_letter (sym (chars_none s i h)))

-- Where a character stands, `get` gives it, and `next` goes past it.
pub char_reads : {s : Bytes} {i c w : ℕ} → CharAt s i c w → (get s i ≡ Some c) × (next s i ≡ Some (i + w))
char_reads {s} {i} a = (get_of s i (read_char a), next_of s i (read_char a))

-- `next` goes nowhere else, and the characters there are those after the first.
pub next_others : (s : Bytes) (i j : ℕ) → next s i ≡ Some j → Next s i j
next_others s i j n = by_char s i some none
  where
    some : (c w : ℕ) → sequence_at s i ≡ Char c w → Next s i j
    some c w e =
        let q : Some (i + w) ≡ Some j = sym (next_of s i e) ∙ n in
        let same : i + w ≡ j = cc in
        record {
          code = c;
          width = w;
          stands = char_read e;
          ends = sym same;
          read = get_of s i e;
          others = chars_on s i c w e ∙ ap (λ (k : ℕ). c ∷ chars_from s k) same;
        }

    none : NoChar (sequence_at s i) → Next s i j
    none h =
        let q : None ≡ Some j = sym (next_of s i refl ∙ with_none (sequence_at s i) i (λ c k. Some k) None h) ∙ n in
        let z : ◌≡◌ {A = ℕ} 0 1 = cc in
        absurd (omega arith)

-- Where it goes nowhere there are none.
pub next_nothing : (s : Bytes) (i : ℕ) → next s i ≡ None → chars_from s i ≡ []
next_nothing s i n = by_char s i some (chars_none s i)
  where
    some : (c w : ℕ) → sequence_at s i ≡ Char c w → chars_from s i ≡ []
    some c w e =
        let q : Some (i + w) ≡ None = sym (next_of s i e) ∙ n in
        let z : ◌≡◌ {A = ℕ} 0 1 = cc in
        absurd (omega arith)

-- ---- boundaries

-- 0 is one, in any text.
pub start_is_boundary : (s : Bytes) → Boundary s 0
start_is_boundary = boundary_start

-- The end is one exactly in a legal text.
pub end_is_boundary : (s : Bytes) → Legal s ↔ Boundary s (length s)
end_is_boundary s = (boundary_end, legal_whole)

-- Past a character at a boundary stands the next boundary.
pub next_is_boundary : {s : Bytes} {i c w : ℕ} → Boundary s i → CharAt s i c w → Boundary s (i + w)
next_is_boundary = boundary_next

-- At a boundary with another after it stands a character, which ends at that other or before it.
pub char_between : {s : Bytes} {i j : ℕ} → Boundary s i → Boundary s j → i < j → CharTo s i j
char_between = char_before

-- At each boundary before the end of a legal text stands a character.
pub char_at_boundary : {s : Bytes} {i : ℕ} → Legal s → Boundary s i → i < length s → CharTo s i (length s)
char_at_boundary l b h = char_before b (boundary_end l) h

-- No boundary lies strictly within a character.
pub none_within : {s : Bytes} {i j c w : ℕ} → Boundary s i → CharAt s i c w → Boundary s j → i < j → i + w ≤ j
none_within {s} {i} {j} {c} {w} b a d h =
    let to = char_before b d h in
    let q : Char c w ≡ Char to.code to.width = sym (read_char a) ∙ read_char to.stands in
    let same : w ≡ to.width = cc in
    omega (arith, to.ends)

-- The bytes between two boundaries are legal.
pub between_is_legal : {s : Bytes} {i j : ℕ} → Boundary s i → Boundary s j → i ≤ j → Legal (slice i j s)
between_is_legal = between_legal

-- The boundaries of a legal text are its end and the offsets of bytes that continue no character.
pub boundary_by_byte : {s : Bytes} (i : ℕ) → Legal s → Boundary s i ↔ at_character s i ≡ true
boundary_by_byte i l = (boundary_character l, character_boundary i l)

-- ---- runs of characters that pass a test

-- The run from i is the longest prefix of the characters from i on that passes, at any offset of any bytes.
pub star_prefix : (f : ℕ → Bool) (s : Bytes) (i : ℕ) → star f s i ≡ i + length (encode_all (take_while f (chars_from s i)))
star_prefix = star_is

-- Characters that pass stand from i to its end.
pub star_passes : (f : ℕ → Bool) (s : Bytes) (i : ℕ) → Run f s i (star f s i)
star_passes = star_run

-- They stand to no later end.
pub star_is_greatest : (f : ℕ → Bool) (s : Bytes) {i e : ℕ} → Run f s i e → e ≤ star f s i
star_is_greatest f s r = star_greatest f s r

-- No character that passes stands at its end.
pub star_longest : (f : ℕ → Bool) (s : Bytes) (i c w : ℕ) → sequence_at s (star f s i) ≡ Char c w → f c ≡ false
star_longest = star_ends

-- It ends no sooner than it starts, and within the text.
pub star_bounds : (f : ℕ → Bool) (s : Bytes) (i : ℕ) → (i ≤ star f s i) × (i ≤ length s → star f s i ≤ length s)
star_bounds f s i = (star_from f s i, star_within f s i)

-- From a boundary it ends at a boundary.
pub star_boundary : (f : ℕ → Bool) (s : Bytes) (i : ℕ) → Boundary s i → Boundary s (star f s i)
star_boundary f s =
    by_star f s (λ i e. Boundary s i → Boundary s e) (λ i h b. b) (λ i c w q t b. b)
    (λ i c w e q t ih b. ih (boundary_next b (char_read q)))

-- ---- the first bad offset

-- All before it is legal.
pub first_bad_boundary : (s : Bytes) → Boundary s (first_bad s)
unfolding first_bad
first_bad_boundary s = star_boundary (λ c. true) s 0 (boundary_start s)

-- Before the end no legal sequence starts there.
pub first_bad_is_bad : (s : Bytes) → first_bad s < length s → sequence_at s (first_bad s) ≡ Bad
unfolding first_bad
first_bad_is_bad s h = go (sequence_at s (first_bad s)) refl
  where
    go : (t : Sequence) → sequence_at s (first_bad s) ≡ t → sequence_at s (first_bad s) ≡ Bad
    go (Char c w) e =
        let q : true ≡ false = star_ends (λ c. true) s 0 c w e in
        let z : ◌≡◌ {A = ℕ} 0 1 = cc in
        absurd (omega arith)
    go Bad e = e
    go End e = absurd (omega (arith, end_read s (first_bad s) e))

-- It is the length exactly where the text is legal.
pub first_bad_legal : (s : Bytes) → first_bad s ≡ length s ↔ Legal s
first_bad_legal s = (λ e. legal_whole (subst (Boundary s) e (first_bad_boundary s)), whole)
  where
    bad : Legal s → first_bad s < length s → ⊥
    bad l h =
        let q = first_bad_is_bad s h in
        let r = read_char (char_at_boundary l (first_bad_boundary s) h).stands in
        let z : ◌≡◌ {A = ℕ} 0 1 = cc in
        omega arith

    whole : Legal s → first_bad s ≡ length s
    whole l = by_order (first_bad s) (length s) (λ h. absurd (bad l h)) (λ h. omega (arith, (first_bad_boundary s).within))
