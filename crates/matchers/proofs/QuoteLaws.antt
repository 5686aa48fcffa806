-- Escapes and names in backticks, by what stands at the offset. Rests on the laws of one character and of the loop of names in backticks.
use Rattle.std.specs.Prelude.{if◌then◌else◌, Option, Some, None}
use Rattle.std.specs.Bool.{then_some}
use Prim.Native.Nat.{ℕ, ◌+◌, ◌≤◌, ◌<◌}
use mathlib.Core.Path.{◌≡◌, refl, sym, ap, subst, fun_ext, ◌∙◌}
use mathlib.Core.Bool.{Bool, true, false, not, ◌&&◌, ◌||◌}
use mathlib.Core.List.{List}
use native.Mathlib.Omega.{arith}
use lib.Dec.{ltb, eqb}
use lib.ListN.{length, get_or}
use borrow.Author.Tests.{lt-ltb, eq-eqb, ne_eqb, eqb-true}
use Rattle.definition.specs.Basics.{Bytes, Turn, again, done, ch, codes, mem_cp}
use Rattle.definition.specs.Utf8.{sequence_at}
use Rattle.definition.specs.Text.{with_char, byte, byte_has, byte_is}
use Rattle.definition.specs.Chars.{is_hex, is_newline_char}
use Rattle.definition.specs.Matchers.{only, one, match_escape, match_char, backtick_turn, match_backtick_ident}
use Rattle.definition.specs.declared.Sequence.{Sequence}
use Rattle.definition.specs.declared.Sequence.TheVariants.{Char}
use Rattle.lemmas.proofs.Cases.{by_order}
use Rattle.lemmas.proofs.Loops.{says, Leads}
use Rattle.utf8.proofs.Reading.{byte_within, byte_end, with_none}
use Rattle.laws_progress.proofs.Characters.{ascii_at}
use Rattle.laws_progress.proofs.Walks.{Onward, byte_passes}
use Rattle.laws_progress.proofs.Ends.{Ends}
use Rattle.laws_progress.proofs.Matches.{backtick_leads}
use Rattle.laws_progress.proofs.Scans.{backtick_from, backtick_unroll, backtick_is}
use Rattle.matchers.proofs.NameLaws.{and_false}
use Rattle.matchers.specs.Parts.{hex_pair, in_backticks, backtick_part}
use Rattle.match_lit.proofs.ByteLaws.{has_within, has_past, then_only}
use Rattle.star.specs.Stops.{goes_on}
use Rattle.star.proofs.RunLaws.{one_no, no_char}

-- ---- escapes

module _ (p : ℕ → Bool) (s : Bytes) (i : ℕ) where
  -- What is read as a byte decides a test of it.
  octet_has : (c : ℕ) → byte s i ≡ Some c → byte_has p s i ≡ p c
  octet_has c e =
      by_order i (length s)
      (λ h. let q : Some (get_or s i 0) ≡ Some c = sym (byte_within s i h) ∙ e in let same : get_or s i 0 ≡ c = cc in has_within p s i h ∙ ap p same)
      (λ h. let q : None ≡ Some c = sym (byte_end s i h) ∙ e in absurd (let z : ◌≡◌ {A = ℕ} 0 1 = cc in omega arith))

  -- Where none is read no test passes.
  octet_past : byte s i ≡ None → byte_has p s i ≡ false
  octet_past e =
      by_order i (length s)
      (λ h. let q : Some (get_or s i 0) ≡ None = sym (byte_within s i h) ∙ e in absurd (let z : ◌≡◌ {A = ℕ} 0 1 = cc in omega arith))
      (λ h. has_past p s i h)

-- the bytes that make an escape by themselves
abbrev letters : List ℕ
letters = codes "\\\"'bfntrv0"

-- what stands after a backslash at i and the byte c
abbrev pub escape_rest : Bytes → ℕ → ℕ → Option ℕ
escape_rest s i c =
    if mem_cp c letters then Some (i + 2) else
    if eqb c (ch "x") && hex_pair s (i + 2) then Some (i + 4) else
    if eqb c (ch "u") && (hex_pair s (i + 2) && hex_pair s (i + 4)) then Some (i + 6) else
    None

-- A conjunction regrouped.
and_assoc : (a b c : Bool) → a && (b && c) ≡ (a && b) && c
and_assoc true b c = refl
and_assoc false b c = refl

module _ (s : Bytes) (i c : ℕ) where
  -- A letter ends an escape.
  pub rest_letter : mem_cp c letters ≡ true → escape_rest s i c ≡ Some (i + 2)
  rest_letter l = rw l

  module _ (l : mem_cp c letters ≡ false) where
    -- Any other escape has two hexadecimal digits.
    pub rest_none : hex_pair s (i + 2) ≡ false → escape_rest s i c ≡ None
    rest_none h = rw (l, h, and_false (eqb c (ch "x")), and_false (eqb c (ch "u")))

    module _ (h : hex_pair s (i + 2) ≡ true) where
      -- After x that is all.
      pub rest_x : c ≡ ch "x" → escape_rest s i c ≡ Some (i + 4)
      rest_x e = rw (l, eq-eqb c (ch "x") e, h)

      -- Without x or u they make no escape.
      pub rest_neither : (c ≡ ch "x" → ⊥) → (c ≡ ch "u" → ⊥) → escape_rest s i c ≡ None
      rest_neither n m = rw (l, ne_eqb c (ch "x") n, ne_eqb c (ch "u") m)

      -- After u two more follow.
      pub rest_u : c ≡ ch "u" → escape_rest s i c ≡ only (hex_pair s (i + 4)) (Some (i + 6))
      rest_u e = let n : c ≡ ch "x" → ⊥ = omega arith in rw (l, ne_eqb c (ch "x") n, eq-eqb c (ch "u") e, h) (go (hex_pair s (i + 4)))
        where
          go : (t : Bool) → (if t then Some (i + 6) else None) ≡ only t (Some (i + 6))
          go true = refl
          go false = refl

module _ (s : Bytes) (i : ℕ) where
  -- After a backslash the next byte decides.
  pub escape_at : {c : ℕ} → byte_is (ch "\\") s i ≡ true → byte s (i + 1) ≡ Some c → match_escape s i ≡ escape_rest s i c
  unfolding match_escape hex_pair
  escape_at {c} t e =
      let three : i + 2 + 1 ≡ i + 3 = omega arith in
      let five : i + 4 + 1 ≡ i + 5 = omega arith in
      let hex : ℕ → Bool = λ k. byte_has is_hex s (i + k) in
      let group = and_assoc (hex 2) (hex 3) (hex 4 && hex 5) in
      rw (t, octet_has (λ c. mem_cp c letters) s (i + 1) c e, octet_has (λ x. eqb x (ch "x")) s (i + 1) c e, octet_has (λ x. eqb x (ch "u")) s (i + 1) c e, three, five, group)

  -- With no byte after it a backslash is no escape.
  pub escape_past : byte_is (ch "\\") s i ≡ true → byte s (i + 1) ≡ None → match_escape s i ≡ None
  unfolding match_escape
  escape_past t e = rw (t, octet_past (λ c. mem_cp c letters) s (i + 1) e, octet_past (λ x. eqb x (ch "x")) s (i + 1) e, octet_past (λ x. eqb x (ch "u")) s (i + 1) e)

  -- `match_char` sees nothing but what stands at the offset.
  char_of : {t : Sequence} → sequence_at s i ≡ t
      → match_char s i ≡ with_char t i (λ c j. elim (eqb c (ch "\\")) [ true ↦ match_escape s i | false ↦ Some j ]) None
  unfolding match_char
  char_of e = ap (λ (t : Sequence). with_char t i (λ c j. elim (eqb c (ch "\\")) [ true ↦ match_escape s i | false ↦ Some j ]) None) e

  -- Where no character stands it finds none.
  pub char_other : {t : Sequence} → t ≡ sequence_at s i → ((c w : ℕ) → t ≡ Char c w → ⊥) → match_char s i ≡ None
  char_other {t} e h = char_of (sym e) ∙ with_none t i _ None (no_char t h)

  module _ {c w : ℕ} (e : sequence_at s i ≡ Char c w) where
    -- At a backslash it is an escape.
    pub char_slash : c ≡ ch "\\" → match_char s i ≡ match_escape s i
    char_slash q = char_of e ∙ rw (eq-eqb c (ch "\\") q, with_char)

    -- Any other character is one by itself.
    pub char_plain : (c ≡ ch "\\" → ⊥) → match_char s i ≡ Some (i + w)
    char_plain n = char_of e ∙ rw (ne_eqb c (ch "\\") n, with_char)

-- ---- names in backticks

-- A part is a run's, between backticks.
ticks_run : (c : ℕ) → goes_on (ch "`") (ch "`") c ≡ in_backticks c
unfolding in_backticks
ticks_run c = go (eqb c (ch "`")) (is_newline_char c)
  where
    go : (a b : Bool) → not (a || (a || b)) ≡ not a && not b
    go true b = refl
    go false b = refl

-- One character of it is one of the run.
pub one_tick : (s : Bytes) (i : ℕ) → one (goes_on (ch "`") (ch "`")) s i ≡ one in_backticks s i
one_tick s i = ap (λ (p : ℕ → Bool). one p s i) (fun_ext ticks_run)

-- A backtick stands in no part.
pub ticks_tick : (c : ℕ) → c ≡ ch "`" → in_backticks c ≡ false
unfolding in_backticks
ticks_tick c e = rw (eq-eqb c (ch "`") e)

-- Nor does a line end.
pub ticks_newline : (c : ℕ) → is_newline_char c ≡ true → in_backticks c ≡ false
unfolding in_backticks
ticks_newline c e = rw e (and_false (not (eqb c (ch "`"))))

-- Any other character may.
pub ticks_yes : (c : ℕ) → (c ≡ ch "`" → ⊥) → is_newline_char c ≡ false → in_backticks c ≡ true
unfolding in_backticks
ticks_yes c n e = rw (ne_eqb c (ch "`") n, e)

module _ (s : Bytes) (j : ℕ) where
  -- At a backtick a part is what stands after it.
  pub part_tick : byte_is (ch "`") s j ≡ true → backtick_part s j ≡ one in_backticks s (j + 1)
  unfolding backtick_part
  part_tick t =
      let h = byte_passes (λ x. eqb x (ch "`")) s j t in
      let same : get_or s j 0 ≡ ch "`" = eqb-true (get_or s j 0) (ch "`") h.1 in
      let none : one in_backticks s j ≡ None = one_no in_backticks s j (ascii_at s j h.0 (omega arith)) (ticks_tick (get_or s j 0) same) in
      rw (none, backtick_part) (rw t)

  -- Elsewhere it is what stands there.
  pub part_other : byte_is (ch "`") s j ≡ false → backtick_part s j ≡ one in_backticks s j
  unfolding backtick_part
  part_other t = go (one in_backticks s j)
    where
      go : (m : Option ℕ) → elim m [ Some k ↦ Some k | None ↦ only (byte_is (ch "`") s j) (one in_backticks s (j + 1)) ] ≡ m
      go (Some k) = refl
      go None = rw t

  -- two backticks
  abbrev twice : Bool
  twice = byte_is (ch "`") s j && byte_is (ch "`") s (j + 1)

  -- what a turn says of a part
  abbrev part_turn : ℕ → Option ℕ → Turn (ℕ × ℕ) (Option ℕ)
  part_turn n (Some k) = again (k, n + 1)
  part_turn n None = done (only (ltb 0 n && twice) (Some (j + 2)))

  -- A turn of the loop goes by the part at its offset.
  turn_is : (n : ℕ) → backtick_turn s (j, n) ≡ part_turn n (backtick_part s j)
  unfolding backtick_part in_backticks
  turn_is n = first (one in_backticks s j) (only (byte_is (ch "`") s j) (one in_backticks s (j + 1)))
    where
      second : (b : Option ℕ) → elim b [ Some k ↦ again (k, n + 1) | None ↦ done (only (ltb 0 n && twice) (Some (j + 2))) ] ≡ part_turn n b
      second (Some k) = refl
      second None = refl

      first : (a b : Option ℕ)
          → elim a [
            | Some k ↦ again (k, n + 1)
            | None ↦ elim b [ Some k ↦ again (k, n + 1) | None ↦ done (only (ltb 0 n && twice) (Some (j + 2))) ]
          ]
          ≡ part_turn n (elim a [ Some k ↦ Some k | None ↦ b ])
      first (Some k) b = refl
      first None b = second b

  -- After a part the loop goes on.
  pub ident_on : {k : ℕ} (n : ℕ) → backtick_part s j ≡ Some k → backtick_from s (j, n) ≡ backtick_from s (k, n + 1)
  ident_on n e = backtick_unroll s (j, n) ∙ ap (λ (t : Turn (ℕ × ℕ) (Option ℕ)). says t (backtick_from s)) (turn_is n ∙ ap (part_turn n) e)

  -- Where there is none it ends.
  pub ident_end : (n : ℕ) → backtick_part s j ≡ None → backtick_from s (j, n) ≡ only (ltb 0 n && twice) (Some (j + 2))
  ident_end n e = backtick_unroll s (j, n) ∙ ap (λ (t : Turn (ℕ × ℕ) (Option ℕ)). says t (backtick_from s)) (turn_is n ∙ ap (part_turn n) e)

  -- A part ends past its start, within the text.
  pub part_past : {k : ℕ} → backtick_part s j ≡ Some k → (j < k) × (k ≤ length s)
  part_past {k} e =
      let o : Leads (λ (b : ℕ × ℕ). Onward s j b.0) (Ends (Onward s j)) (again (k, 0 + 1)) = subst (Leads (λ (b : ℕ × ℕ). Onward s j b.0) (Ends (Onward s j))) (turn_is 0 ∙ ap (part_turn 0) e) (backtick_leads s j 0) in
      (o.past, o.within)

-- The loop's parts from after two backticks go on at j, after one or more.
abbrev pub PartsTo : Bytes → ℕ → ℕ → Type 0
PartsTo s i j = (n : ℕ) × (0 < n) × (backtick_from s (j, n) ≡ backtick_from s (i + 2, 0))

-- After the first part they do,
pub parts_first : (s : Bytes) (i : ℕ) {k : ℕ} → backtick_part s (i + 2) ≡ Some k → PartsTo s i k
parts_first s i e = (1, omega arith, sym (ident_on s (i + 2) 0 e))

-- and after each further one.
pub parts_next : (s : Bytes) (i j : ℕ) {k : ℕ} → PartsTo s i j → backtick_part s j ≡ Some k → PartsTo s i k
parts_next s i j parts e = (parts.0 + 1, omega arith, sym (ident_on s j parts.0 e) ∙ parts.2)

module _ (s : Bytes) (i : ℕ) where
  -- Without two backticks there is no name.
  pub ident_no : byte_is (ch "`") s i && byte_is (ch "`") s (i + 1) ≡ false → match_backtick_ident s i ≡ None
  ident_no t = backtick_is s i ∙ rw t

  module _ (j n : ℕ) (t : byte_is (ch "`") s i && byte_is (ch "`") s (i + 1) ≡ true) (q : backtick_from s (j, n) ≡ backtick_from s (i + 2, 0))
      (e : backtick_part s j ≡ None) where
    -- With them it ends where the loop's last part does.
    ident_is : match_backtick_ident s i ≡ only (ltb 0 n && (byte_is (ch "`") s j && byte_is (ch "`") s (j + 1))) (Some (j + 2))
    ident_is = backtick_is s i ∙ rw t (sym q ∙ ident_end s j n e)

    -- A name has a part.
    pub ident_empty : n ≡ 0 → match_backtick_ident s i ≡ None
    ident_empty h = ident_is ∙ rw h

  module _ (t : byte_is (ch "`") s i && byte_is (ch "`") s (i + 1) ≡ true) where
    -- With one it goes on to the two backticks after the last part.
    pub ident_ends : (j : ℕ) → PartsTo s i j → backtick_part s j ≡ None → {m : Option ℕ} {b : Bool} → m ≡ then_some b (j + 2)
        → b ≡ byte_is (ch "`") s j && byte_is (ch "`") s (j + 1) → m ≡ match_backtick_ident s i
    ident_ends j (n, some, parts) e answer is =
        let last : backtick_from s (j, n) ≡ only (byte_is (ch "`") s j && byte_is (ch "`") s (j + 1)) (Some (j + 2)) = ident_end s j n e ∙ rw (lt-ltb 0 n some) in
        answer ∙ then_only _ (j + 2) ∙ rw (is, backtick_is s i, t) (sym last ∙ parts)
