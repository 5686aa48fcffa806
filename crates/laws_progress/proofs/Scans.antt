-- The loops over characters, bytes and digits move on and have fuel enough: for each, what a turn does, that more fuel or
-- another `out` changes nothing, and that it is what its first turn says. Rests on the laws of loops, walks and matchers.
use Rattle.std.specs.Prelude.{Option, None}
use Prim.Native.Nat.{ℕ, suc, ◌+◌, ◌-◌, ◌≤◌, ◌<◌}
use mathlib.Core.Path.{◌≡◌, refl, sym, subst, ◌∙◌}
use mathlib.Core.Bool.{Bool, true, ◌&&◌}
use mathlib.Core.List.{[]}
use native.Mathlib.Omega.{arith}
use lib.ListN.{length}
use Rattle.definition.specs.Basics.{Bytes, Turn, loop, fuel, ch}
use Rattle.definition.specs.Utf8.{sequence_at}
use Rattle.definition.specs.Text.{with_char, byte_is, star_turn, star, after}
use Rattle.definition.specs.Matchers.{only, backtick_turn, match_backtick_ident, no_comment_turn, no_comment}
use Rattle.definition.specs.Numbers.{show_turn, show}
use Rattle.definition.specs.declared.Sequence.{Sequence}
use Rattle.definition.specs.declared.Sequence.TheVariants.{Char, Bad, End}
use Rattle.lemmas.proofs.Loops.{says, Leads, leads_map, Falls, Any, loop_same, loop_unroll, loop_unroll_by}
use Rattle.lemmas.proofs.Cases.{by_test, by_lt, by_le, both}
use Rattle.utf8.proofs.Star.{star_unroll}
use Rattle.laws_progress.proofs.Walks.{rest, Walk, here, Onward, onward_walk, char_onward, star_walks, Clean, clean_char}
use Rattle.laws_progress.proofs.Matches.{small_is, byte_is_onward, byte_more, backtick_leads}

-- ---- `star`

-- a run of a character or more
pub star_onward : (f : ℕ → Bool) (s : Bytes) (i c w : ℕ) → sequence_at s i ≡ Char c w → f c ≡ true → Onward s i (star f s i)
star_onward f s i c w q p = subst (Onward s i) (sym (star_unroll f s i ∙ turn)) (onward_walk (char_onward q) (star_walks f s (i + w)))
  where
    turn : says (star_turn f s i) (star f s) ≡ star f s (i + w)
    turn = simp (q, p)

-- ---- one character, and two bytes

module _ (s : Bytes) where
  -- the offset after the character at i is i or a walk from it
  pub after_walks : (i : ℕ) → Walk s i (after s i)
  unfolding after
  after_walks i = go (sequence_at s i) refl
    where
      go : (q : Sequence) → sequence_at s i ≡ q → Walk s i (with_char q i (λ c j. j) i)
      go (Char c w) q = (char_onward q).walk
      go Bad q = here refl
      go End q = here refl

  -- before the end of a clean text it is past i
  pub after_onward : (i : ℕ) → Clean s i → i < length s → Onward s i (after s i)
  unfolding after
  after_onward i c h = let p = clean_char c h in subst (λ q. Onward s i (with_char q i (λ c j. j) i)) (sym p.read) (char_onward p.read)

  -- two bytes of ASCII
  pub two_onward : (x y i : ℕ) → x < 0x80 → y < 0x80 → byte_is x s i && byte_is y s (i + 1) ≡ true → Onward s i (i + 2)
  two_onward x y i h k t =
      let p = both (byte_is x s i) (byte_is y s (i + 1)) t in
      byte_more s (small_is y k) i 1 2 refl (byte_is_onward s x i h p.0) p.1

-- ---- names in backticks

-- the loop of `match_backtick_ident`, with n parts read before j
unfoldable pub backtick_from : Bytes → ℕ × ℕ → Option ℕ
backtick_from s a = loop (backtick_turn s) (λ a. None) (fuel s) a

-- a turn moves on by a character or two
pub backtick_falls : (s : Bytes) → Falls (backtick_turn s) Any (λ a. rest s a.0) Any
backtick_falls s = record { at = λ a _. leads_map (λ b o. (tt, omega arith)) (λ r _. tt) (backtick_turn s a) (backtick_leads s a.0 a.1) }

-- more fuel and another `out` change nothing
pub backtick_enough : (s : Bytes) (out : ℕ × ℕ → Option ℕ) (n : ℕ) (a : ℕ × ℕ) → rest s a.0 < n → loop (backtick_turn s) out n a ≡ backtick_from s a
unfolding backtick_from
backtick_enough s out n a h = loop_same (backtick_falls s) out (λ a. None) n (fuel s) a tt h (omega arith)

-- the loop is what its first turn says
pub backtick_unroll : (s : Bytes) (a : ℕ × ℕ) → backtick_from s a ≡ says (backtick_turn s a) (backtick_from s)
unfolding backtick_from
backtick_unroll s a = loop_unroll (backtick_falls s) (λ a. None) (fuel s) a tt (omega arith)

-- what `match_backtick_ident` is, by its loop
pub backtick_is : (s : Bytes) (i : ℕ) → match_backtick_ident s i ≡ only (byte_is (ch "`") s i && byte_is (ch "`") s (i + 1)) (backtick_from s (i + 2, 0))
unfolding match_backtick_ident backtick_from
backtick_is s i = refl

-- ---- `no_comment`

-- a turn of `no_comment` moves on by a byte, up to e
pub no_comment_falls : (s : Bytes) (e : ℕ) → Falls (no_comment_turn s e) Any (λ j. e - j) Any
no_comment_falls s e = record { at = λ j _. by_le (L j) e (j + 1) (λ _. tt) (λ h. by_test (L j) (slashes j) (λ _. tt) (λ _. (tt, omega arith))) }
  where
    L : ℕ → Turn ℕ ℕ → Type 0
    L j = Leads (λ k. Any k × (e - k < e - j)) Any

    slashes : ℕ → Bool
    slashes j = byte_is (ch "/") s j && byte_is (ch "/") s (j + 1)

-- more fuel and another `out` change nothing, where e is the text's
pub no_comment_enough : (s : Bytes) (e : ℕ) (out : ℕ → ℕ) (n i : ℕ) → e ≤ length s → e - i < n → loop (no_comment_turn s e) out n i ≡ no_comment s i e
unfolding no_comment
no_comment_enough s e out n i h k = loop_same (no_comment_falls s e) out (λ j. e) n (fuel s) i tt k (omega arith)

-- `no_comment` is what its first turn says
pub no_comment_unroll : (s : Bytes) (e i : ℕ) → e ≤ length s → no_comment s i e ≡ says (no_comment_turn s e i) (λ j. no_comment s j e)
unfolding no_comment
no_comment_unroll s e i h = loop_unroll (no_comment_falls s e) (λ j. e) (fuel s) i tt (omega arith)

-- ---- `show`

-- n in front of digits: the loop of `show`
unfoldable pub show_onto : ℕ × Bytes → Bytes
show_onto a = loop show_turn (λ b. b.1) (suc a.0) a

-- a turn of `show` takes a digit off
pub show_falls : Falls show_turn Any (λ a. a.0) Any
show_falls = record { at = λ a _. by_lt (Leads (λ b. Any b × (b.0 < a.0)) Any) a.0 10 (λ _. tt) (λ h. (tt, omega arith)) }

-- more fuel and another `out` change nothing
pub show_enough : (out : ℕ × Bytes → Bytes) (n : ℕ) (a : ℕ × Bytes) → a.0 < n → loop show_turn out n a ≡ show_onto a
unfolding show_onto
show_enough out n a h = loop_same show_falls out (λ b. b.1) n (suc a.0) a tt h (omega arith)

-- the loop is what its first turn says
pub show_unroll : (a : ℕ × Bytes) → show_onto a ≡ says (show_turn a) show_onto
unfolding show_onto
show_unroll a = loop_unroll_by show_falls (λ b. b.1) (λ b. suc b.0) (λ b _. omega arith) a tt

-- what `show` is, by its loop
pub show_is : (n : ℕ) → show n ≡ show_onto (n, [])
unfolding show show_onto
show_is n = refl
