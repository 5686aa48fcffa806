-- Moving on through a text by whole characters: what such a walk says of its two ends, and that runs of characters and
-- bytes of ASCII are walks. Rests on the laws of one character.
use Prim.Native.Nat.{ℕ, ◌+◌, ◌-◌, ◌≤◌, ◌<◌}
use mathlib.Core.Path.{◌≡◌, refl, sym, subst}
use mathlib.Core.Bool.{Bool, true, false, false≢true}
use native.Mathlib.Omega.{arith}
use lib.Dec.{ltb, eqb}
use lib.ListN.{length, get_or}
use borrow.Author.Tests.{ltb-true, ltb-false, eqb-true, eqb-false}
use Rattle.definition.specs.Basics.{Bytes, again, done, fuel}
use Rattle.definition.specs.Utf8.{sequence_at}
use Rattle.definition.specs.Text.{with_char, char_has, byte_has, star_turn, star}
use Rattle.definition.specs.declared.Sequence.{Sequence}
use Rattle.definition.specs.declared.Sequence.TheVariants.{Char, Bad, End}
use Rattle.lemmas.proofs.Loops.{Leads, loop_keeps}
use Rattle.lemmas.proofs.Cases.{by_test, by_lt}
pub use Rattle.laws_progress.specs.Walks.{Walk, here, on, Onward, rest}
use Rattle.laws_progress.proofs.Characters.{Tail, char_at, ascii_at}

-- one walk after another
pub walk_walk : {s : Bytes} {i j e : ℕ} → Walk s i j → Walk s j e → Walk s i e
walk_walk {s} {i} {j} {e} (here q) v = subst (λ k. Walk s k e) (sym q) v
walk_walk (on c w q u) v = on c w q (walk_walk u v)

-- a walk stays within the text
pub walk_within : {s : Bytes} {i e : ℕ} → Walk s i e → i ≤ length s → e ≤ length s
walk_within (here q) h = omega arith
walk_within (on c w q u) h = walk_within u (char_at q).within

-- a walk never goes back
pub walk_forward : {s : Bytes} {i e : ℕ} → Walk s i e → i ≤ e
walk_forward (here q) = omega arith
walk_forward (on c w q u) = omega (arith, walk_forward u)

module _ {s : Bytes} {i j e : ℕ} where
  -- moving on, and then more
  pub onward_walk : Onward s i j → Walk s j e → Onward s i e
  onward_walk o v = record {
    past = omega (arith, walk_forward v);
    within = walk_within v o.within;
    walk = walk_walk o.walk v;
  }

  -- moving on after a walk
  pub walk_onward : Walk s i j → Onward s j e → Onward s i e
  walk_onward u o = record { past = omega (arith, walk_forward u); within = o.within; walk = walk_walk u o.walk }

  -- moving on twice
  pub onward_onward : Onward s i j → Onward s j e → Onward s i e
  onward_onward o p = onward_walk o p.walk

-- a character moves on
pub char_onward : {s : Bytes} {i c w : ℕ} → sequence_at s i ≡ Char c w → Onward s i (i + w)
char_onward {s} {i} {c} {w} q = let a = char_at q in record { past = omega arith; within = a.within; walk = on c w q (here refl) }

-- ---- tests

-- the byte that passes a test is one of the text's
pub byte_passes : (p : ℕ → Bool) (s : Bytes) (i : ℕ) → byte_has p s i ≡ true → (i < length s) × (p (get_or s i 0) ≡ true)
unfolding byte_has
byte_passes p s i = by_lt (λ b. b ≡ true → (i < length s) × (p (get_or s i 0) ≡ true)) i (length s) (λ h e. (h, e)) (λ h e. absurd (false≢true e))

-- a byte that passes a test that only ASCII passes moves on by one
pub byte_onward : (p : ℕ → Bool) (s : Bytes) (i : ℕ) → ((b : ℕ) → p b ≡ true → b < 0x80) → byte_has p s i ≡ true → Onward s i (i + 1)
byte_onward p s i small e = let h = byte_passes p s i e in char_onward (ascii_at s i h.0 (small _ h.1))

-- the character that passes a test
pub record Passes (p : ℕ → Bool) (s : Bytes) (i : ℕ) : Type 0 where
  pub code : ℕ
  pub width : ℕ
  pub read : sequence_at s i ≡ Char code width
  pub passes : p code ≡ true

-- where a test of a character passes there is one
pub char_passes : (p : ℕ → Bool) (s : Bytes) (i : ℕ) → char_has p s i ≡ true → Passes p s i
unfolding char_has
char_passes p s i = go (sequence_at s i) refl
  where
    go : (q : Sequence) → sequence_at s i ≡ q → with_char q i (λ c j. p c) false ≡ true → Passes p s i
    go (Char c w) q e = record { code = c; width = w; read = q; passes = e }
    go Bad q e = absurd (false≢true e)
    go End q e = absurd (false≢true e)

-- a character of ASCII that passes a test is one byte
pub char_onward_one : (p : ℕ → Bool) (s : Bytes) (i : ℕ) → ((c : ℕ) → p c ≡ true → c < 0x80) → char_has p s i ≡ true → Onward s i (i + 1)
char_onward_one p s i small e =
    let h = char_passes p s i e in
    subst (λ w. Onward s i (i + w)) ((char_at h.read).ascii (small h.code h.passes)) (char_onward h.read)

-- ---- runs

-- a run of characters is a walk
pub star_walks : (f : ℕ → Bool) (s : Bytes) (i : ℕ) → Walk s i (star f s i)
unfolding star
star_walks f s i = loop_keeps (star_turn f s) (Walk s i) (Walk s i) (λ j. j) (λ j u. go j u (sequence_at s j) refl) (λ j u. u) (fuel s) i (here refl)
  where
    go : (j : ℕ) → Walk s i j → (q : Sequence) → sequence_at s j ≡ q
        → Leads (Walk s i) (Walk s i) (with_char q j (λ c k. elim (f c) [ true ↦ again k | false ↦ done j ]) (done j))
    go j u (Char c w) q = by_test (Leads (Walk s i) (Walk s i)) (f c) (λ _. walk_walk u (on c w q (here refl))) (λ _. u)
    go j u Bad q = u
    go j u End q = u

-- ---- clean texts: from here on they are whole characters

-- from i on the text has whole characters only
abbrev pub Clean : Bytes → ℕ → Type 0
Clean s i = Walk s i (length s)

-- two walks from one offset go the same way
pub walk_rest : {s : Bytes} {i j n : ℕ} → Walk s i j → Walk s i n → j ≤ n → Walk s j n
walk_rest {s} {i} {j} {n} (here p) v h = subst (λ k. Walk s k n) p v
walk_rest {s} {i} {j} {n} (on c w p u) (here q) h = absurd (omega (arith, walk_forward u, (char_at p).some))
walk_rest {s} {i} {j} {n} (on c w p u) (on d x q v) h =
    let z : x ≡ w = cc in
    walk_rest u (subst (λ k. Walk s (i + k) n) z v) h

-- a clean text stays clean after a walk
pub clean_walk : {s : Bytes} {i j : ℕ} → Walk s i j → Clean s i → Clean s j
clean_walk {s} {i} u c = walk_rest u c (walk_within u (walk_forward c))

-- a walk that gets on is of a character or more
pub walk_past : {s : Bytes} {i j : ℕ} → Walk s i j → i < j → Onward s i j
walk_past (here p) h = absurd (omega arith)
walk_past (on c w p u) h = onward_walk (char_onward p) u

-- before its end a clean text has a character
pub clean_char : {s : Bytes} {i : ℕ} → Clean s i → i < length s → Passes (λ c. true) s i
clean_char (here p) h = absurd (omega arith)
clean_char (on c w p u) h = record { code = c; width = w; read = p; passes = refl }

-- a walk over an offset whose byte continues no character comes by there
pub walk_to : {s : Bytes} {i e : ℕ} (j : ℕ) → Walk s i e → i ≤ j → j < e → (Tail (get_or s j 0) → ⊥) → Walk s i j
walk_to {s} {i} {e} j (here p) h k n = absurd (omega arith)
walk_to {s} {i} {e} j (on c w p u) h k n = go (ltb j (i + w)) refl (λ m. walk_to j u m k n)
  where
    go : (t : Bool) → ltb j (i + w) ≡ t → (i + w ≤ j → Walk s (i + w) j) → Walk s i j
    go false q rest = on c w p (rest (ltb-false _ _ q))
    go true q rest = first (eqb i j) refl
      where
        first : (t : Bool) → eqb i j ≡ t → Walk s i j
        first true r = here (eqb-true _ _ r)
        first false r =
            let b : i ≡ j → ⊥ = eqb-false i j r in
            let d : 0 < j - i = omega arith in
            let x : j - i < w = omega (arith, ltb-true j (i + w) q) in
            let y : i + (j - i) ≡ j = omega arith in
            absurd (n (subst (λ m. Tail (get_or s m 0)) y ((char_at p).tails (j - i) d x)))
