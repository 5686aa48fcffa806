-- What `unescape` is, an equation for each way that the code takes. Rests on the laws of reading (crate `utf8`).
use Rattle.std.specs.Prelude.{Some, None}
use Prim.Native.Nat.{ℕ, ◌+◌, ◌≤◌, ◌<◌}
use mathlib.Core.Path.{◌≡◌, sym, ap, ◌∙◌}
use mathlib.Core.Bool.{true, false}
use mathlib.Core.List.{List, [], ◌∷◌}
use native.Mathlib.Omega.{arith}
use lib.Dec.{eqb}
use lib.ListN.{length, get_or}
use borrow.Author.Tests.{lt-ltb, le-ltb, eq-eqb, ne_eqb}
use Rattle.definition.specs.Basics.{Bytes, codes}
use Rattle.definition.specs.Utf8.{sequence_at}
use Rattle.definition.specs.Text.{with_char, byte, byte_has, byte_is}
use Rattle.definition.specs.Escapes.{code_at, unescape}
use Rattle.definition.specs.declared.Sequence.{Sequence}
use Rattle.lemmas.proofs.Cases.{by_order}
use Rattle.utf8.proofs.Reading.{byte_within, byte_end, read_end}
use Rattle.escapes.specs.Asks.{escaped}

-- The code point sees nothing but what stands at the offset.
pub code_of : (s : Bytes) (i : ℕ) {t : Sequence} → sequence_at s i ≡ t → code_at s i ≡ with_char t i (λ c j. c) 0
unfolding code_at
code_of s i e = ap (λ (t : Sequence). with_char t i (λ c j. c) 0) e

-- Where a byte is read it stands there.
pub byte_read : (s : Bytes) (i : ℕ) {b : ℕ} → byte s i ≡ Some b → (i < length s) × (get_or s i 0 ≡ b)
byte_read s i e =
    by_order i (length s)
    (λ h. let q : Some (get_or s i 0) ≡ Some _ = sym (byte_within s i h) ∙ e in (h, cc))
    (λ h. let q : None ≡ Some _ = sym (byte_end s i h) ∙ e in absurd (let z : ◌≡◌ {A = ℕ} 0 1 = cc in omega arith))

-- Where none is read the text has ended.
pub past_read : (s : Bytes) (i : ℕ) → byte s i ≡ None → length s ≤ i
past_read s i e =
    by_order i (length s)
    (λ h. let q : Some (get_or s i 0) ≡ None = sym (byte_within s i h) ∙ e in absurd (let z : ◌≡◌ {A = ℕ} 0 1 = cc in omega arith))
    (λ h. h)

-- A test of a byte that is read.
is_read : (s : Bytes) (i b x : ℕ) → byte s i ≡ Some b → byte_is x s i ≡ eqb b x
unfolding byte_has
is_read s i b x e =
    let r = byte_read s i e in
    rw (byte_has, lt-ltb i (length s) r.0, r.1)

-- No test passes past the end.
is_past : (s : Bytes) (i x : ℕ) → length s ≤ i → byte_is x s i ≡ false
unfolding byte_has
is_past s i x h = rw (byte_has, le-ltb i (length s) h)

-- At the end nothing is denoted.
code_past : (s : Bytes) (i : ℕ) → length s ≤ i → code_at s i ≡ 0
code_past s i h = code_of s i (read_end s i h)

module _ (s : Bytes) (i : ℕ) where
  -- Past the end.
  pub unescape_past : byte s i ≡ None → 0 ≡ unescape s i
  unfolding unescape
  unescape_past e =
      let h = past_read s i e in
      rw (unescape, is_past s i 92 h) (sym (code_past s i h))

  -- A byte other than a backslash begins a character.
  pub unescape_plain : (b : ℕ) → byte s i ≡ Some b → (b ≡ 92 → ⊥) → code_at s i ≡ unescape s i
  unfolding unescape
  unescape_plain b e n = rw (unescape, is_read s i b 92 e, ne_eqb b 92 n)

  module _ (b : ℕ) (e : byte s i ≡ Some b) (slash : b ≡ 92) where
    is_slash : byte_is 92 s i ≡ true
    is_slash = is_read s i b 92 e ∙ eq-eqb b 92 slash

    -- A backslash that ends the text denotes nothing.
    pub unescape_open : byte s (i + 1) ≡ None → 0 ≡ unescape s i
    unfolding unescape
    unescape_open p =
        let h = past_read s (i + 1) p in
        simp (unescape, is_slash, is_past s (i + 1) 48 h, is_past s (i + 1) 98 h, is_past s (i + 1) 116 h, is_past s (i + 1) 110 h, is_past s (i + 1) 118 h, is_past s (i + 1) 102 h, is_past s (i + 1) 114 h, is_past s (i + 1) 117 h, is_past s (i + 1) 120 h, code_past s (i + 1) h)

    -- After a backslash the byte decides.
    pub unescape_slash : (c : ℕ) → byte s (i + 1) ≡ Some c → escaped s i c ≡ unescape s i
    unfolding unescape escaped
    unescape_slash c q =
        simp (unescape, escaped, is_slash, is_read s (i + 1) c 48 q, is_read s (i + 1) c 98 q, is_read s (i + 1) c 116 q, is_read s (i + 1) c 110 q, is_read s (i + 1) c 118 q, is_read s (i + 1) c 102 q, is_read s (i + 1) c 114 q, is_read s (i + 1) c 117 q, is_read s (i + 1) c 120 q)

-- ---- a byte that is none of the letters

-- x is none of the numbers, the first of which was asked last
abbrev pub Spared : List ℕ → ℕ → Type 0
Spared [] x = Unit {0}
Spared (k ∷ ks) x = Spared ks x × (x ≡ k → ⊥)

-- Such a byte stands for the character that begins with it.
pub escaped_other : (s : Bytes) (i c : ℕ) → Spared (codes "xurfvntb0") c → escaped s i c ≡ code_at s (i + 1)
unfolding escaped
escaped_other s i c x =
    let u = x.0 in
    let r = u.0 in
    let f = r.0 in
    let v = f.0 in
    let n = v.0 in
    let t = n.0 in
    let b = t.0 in
    let o = b.0 in
    simp (escaped, ne_eqb c 48 o.1, ne_eqb c 98 b.1, ne_eqb c 116 t.1, ne_eqb c 110 n.1, ne_eqb c 118 v.1, ne_eqb c 102 f.1, ne_eqb c 114 r.1, ne_eqb c 117 u.1, ne_eqb c 120 x.1)
