-- One of the ASCII characters of a list stands at an offset: what such a character passes, every character of the list does, and that is
-- computed. Rests on the law of first characters.
use Rattle.std.specs.Prelude.{Option, Some, None}
use Prim.Native.Nat.{ℕ, ◌+◌, ◌≤◌, ◌<◌}
use Prim.Native.String.{String}
use mathlib.Core.Path.{◌≡◌, refl, ap, ◌∙◌}
use mathlib.Core.Bool.{Bool, true, false, not}
use mathlib.Core.List.{List}
use lib.ListN.{length, get_or}
use borrow.Author.Tests.{not-true}
use native.Mathlib.Omega.{arith}
use types.Run.{OneOf}
use Rattle.definition.specs.Basics.{Bytes, codes, mem_cp}
use Rattle.definition.specs.Utf8.{sequence_at}
use Rattle.definition.specs.Text.{with_char, char_has, star}
use Rattle.definition.specs.Chars.{is_symbolchar, is_ident_start, is_constructor_start, is_ident_char}
use Rattle.definition.specs.Matchers.{◌then◌, only, one, match_ident, match_constructor}
use Rattle.definition.specs.Select.{select, one_of_then_symbols}
use Rattle.definition.specs.declared.Sequence.{Sequence}
use Rattle.definition.specs.declared.Sequence.TheVariants.{Char}
use Rattle.lemmas.proofs.Cases.{by_order}
use Rattle.lemmas.proofs.Members.{all_in, mem_yes}
use Rattle.utf8.proofs.Reading.{read_end, NoChar}
use Rattle.laws_progress.proofs.Characters.{ascii_at}
use Rattle.star.proofs.RunLaws.{ascii_byte}
use Rattle.laws_longest.proofs.Starts.{all_pass, listed_passes}
use Rattle.laws_longest.proofs.Places.{has_read}
use Rattle.select_places.specs.Groups.{symbols_after, name_after}
use Rattle.select.specs.Standing.{Ascii}
use Rattle.select.proofs.First.{begins, among, select_among}

-- One of the ASCII characters of a list stands at i.
pub record Stands (chars : List ℕ) (s : Bytes) (i : ℕ) : Type 0 where
  pub code : ℕ
  pub read : sequence_at s i ≡ Char code 1
  pub listed : mem_cp code chars ≡ true

-- A character that passes a test, and one that doesn't.
pub one_read : (p : ℕ → Bool) (s : Bytes) (i c w : ℕ) → sequence_at s i ≡ Char c w → one p s i ≡ only (p c) (Some (i + w))
unfolding one
one_read p s i c w q = ap (λ (t : Sequence). with_char t i (λ c j. elim (p c) [ true ↦ Some j | false ↦ None ]) None) q ∙ go (p c)
  where
    go : (t : Bool) → elim t [ true ↦ Some (i + w) | false ↦ None ] ≡ only t (Some (i + w))
    go true = refl
    go false = refl

module _ {chars : List ℕ} {s : Bytes} {i : ℕ} (h : Stands chars s i) where
  -- What every character of the list passes, the one at i passes.
  passes : (p : ℕ → Bool) → all_pass p chars ≡ true → p h.code ≡ true
  passes p t = listed_passes p chars t h.code h.listed

  -- If only some places may begin with the characters of the list, they decide the choice.
  pub tried : (f : Bytes) (ks : List ℕ) → all_pass (begins f ks) chars ≡ true → select s f i ≡ among ks s f i
  tried f ks t = select_among s f i ks h.code 1 h.read (passes (begins f ks) t)

  -- A test that they all pass,
  pub has : (p : ℕ → Bool) → all_pass p chars ≡ true → char_has p s i ≡ true
  has p t = has_read p s i h.code 1 h.read ∙ passes p t

  -- one that they all fail,
  pub has_not : (p : ℕ → Bool) → all_pass (λ c. not (p c)) chars ≡ true → char_has p s i ≡ false
  has_not p t = has_read p s i h.code 1 h.read ∙ not-true (p h.code) (passes (λ c. not (p c)) t)

  -- and a matcher of one such character.
  one_passes : (p : ℕ → Bool) → all_pass p chars ≡ true → one p s i ≡ Some (i + 1)
  one_passes p t = one_read p s i h.code 1 h.read ∙ ap (λ (b : Bool). only b (Some (i + 1))) (passes p t)

  -- An operator goes on with symbol characters,
  pub operator : (first : String) → all_pass (λ c. mem_cp c (codes first)) chars ≡ true → one_of_then_symbols s i first ≡ symbols_after s i
  unfolding one_of_then_symbols
  operator first t = ap (λ (m : Option ℕ). m then λ e. Some (star is_symbolchar s e)) (one_passes (λ c. mem_cp c (codes first)) t)

  -- and a name with identifier characters.
  pub name : (f : Bytes) → all_pass is_ident_start chars ≡ true → match_ident s f i ≡ name_after s f i
  unfolding match_ident
  name f t = ap (λ (m : Option ℕ). m then λ j. Some (star (is_ident_char f) s j)) (one_passes is_ident_start t)

  pub capital_name : (f : Bytes) → all_pass (is_constructor_start f) chars ≡ true → match_constructor s f i ≡ name_after s f i
  unfolding match_constructor
  capital_name f t = ap (λ (m : Option ℕ). m then λ j. Some (star (is_ident_char f) s j)) (one_passes (is_constructor_start f) t)

-- A character that is one of the keys of an arm.
pub stands : {s : Bytes} {i c : ℕ} (keys chars : List ℕ) → all_in keys chars ≡ true → Ascii s i c → OneOf keys c → Stands chars s i
stands {c = c} keys chars t h k = record { code = c; read = h.read; listed = mem_yes keys chars c t k }

-- Past the text's end no character stands.
pub no_char_past : (s : Bytes) (i : ℕ) → length s ≤ i → NoChar (sequence_at s i)
no_char_past s i h = rw (read_end s i h) tt

-- A byte below 128 is a character by itself.
pub ascii_stands : {s : Bytes} {i : ℕ} → i < length s → get_or s i 0 < 128 → Ascii s i (get_or s i 0)
ascii_stands {s} {i} l h = record { read = ascii_at s i l h; small = h; within = l }

-- A character that begins with another byte is beyond ASCII.
pub beyond_stands : (s : Bytes) (i : ℕ) {c w : ℕ} → sequence_at s i ≡ Char c w → 128 ≤ get_or s i 0 → 128 ≤ c
beyond_stands s i {c} q h = by_order c 128 (λ l. let e = ascii_byte s i q l in absurd (omega (arith, e))) (λ l. l)
