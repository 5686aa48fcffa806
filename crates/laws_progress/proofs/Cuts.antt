-- What `no_comment` leaves of a match: all of it, or what stands before a slash, and that is whole characters too. Rests on
-- the laws of walks.
use Prim.Native.Nat.{ℕ, ◌+◌, ◌≤◌, ◌<◌}
use mathlib.Core.Path.{◌≡◌, refl, sym, subst}
use mathlib.Core.Bool.{Bool, true, false, not, ◌&&◌}
use native.Mathlib.Omega.{arith}
use lib.Dec.{eqb}
use lib.ListN.{get_or}
use borrow.Author.Tests.{eqb-true, eqb-false}
use Rattle.definition.specs.Basics.{Bytes, fuel, ch}
use Rattle.definition.specs.Utf8.{sequence_at}
use Rattle.definition.specs.Text.{byte_is}
use Rattle.definition.specs.Chars.{is_newline_char}
use Rattle.definition.specs.Matchers.{no_comment_turn, no_comment}
use Rattle.definition.specs.declared.Sequence.TheVariants.{Char}
use Rattle.lemmas.proofs.Loops.{Leads, loop_keeps}
use Rattle.lemmas.proofs.Cases.{by_test, by_le, both}
use Rattle.laws_progress.proofs.Characters.{ascii_at}
use Rattle.laws_progress.proofs.Walks.{Walk, Onward, walk_past, walk_to, byte_passes}

-- a slash is no newline
pub slash_goes_on : not (is_newline_char (ch "/")) ≡ true
unfolding is_newline_char
slash_goes_on = refl

module _ (s : Bytes) where
  -- a slash is read as a slash
  pub slash_at : (i : ℕ) → byte_is (ch "/") s i ≡ true → (get_or s i 0 ≡ ch "/") × (sequence_at s i ≡ Char (ch "/") 1)
  slash_at i t =
      let h = byte_passes (λ b. eqb b (ch "/")) s i t in
      let q = eqb-true (get_or s i 0) (ch "/") h.1 in
      (q, rw q at (ascii_at s i h.0 (omega arith)))

  -- from j on up to e it cuts nothing, or it cuts at a slash
  pub data Cut (j e r : ℕ) : Type 0 where
    whole : r ≡ e → Cut j e r
    cut : j ≤ r → r < e → byte_is (ch "/") s r ≡ true → Cut j e r

  -- it does one of the two
  pub no_comment_cuts : (j e : ℕ) → Cut j e (no_comment s j e)
  unfolding no_comment
  no_comment_cuts j e = loop_keeps (no_comment_turn s e) (λ k. j ≤ k) (Cut j e) (λ k. e) turn (λ k h. whole refl) (fuel s) j (omega arith)
    where
      turn : (k : ℕ) → j ≤ k → Leads (λ k. j ≤ k) (Cut j e) (no_comment_turn s e k)
      turn k h =
          by_le (Leads (λ k. j ≤ k) (Cut j e)) e (k + 1) (λ _. whole refl) λ l.
          by_test (Leads (λ k. j ≤ k) (Cut j e)) (byte_is (ch "/") s k && byte_is (ch "/") s (k + 1))
          (λ t. cut h (omega arith) (both _ _ t).0) (λ _. omega arith)

  -- what it cuts off a walk leaves a walk
  pub no_comment_walks : (i j e : ℕ) → Walk s i e → i ≤ j → Walk s i (no_comment s j e)
  no_comment_walks i j e u h = go (no_comment s j e) (no_comment_cuts j e)
    where
      go : (r : ℕ) → Cut j e r → Walk s i r
      go r (whole q) = subst (Walk s i) (sym q) u
      go r (cut k l t) = let q = slash_at r t in walk_to r u (omega arith) l (λ x. omega (arith, x.least, q.0))

  -- it leaves something, unless it cuts at i
  pub no_comment_onward : (i j e : ℕ) → Onward s i e → i ≤ j → (byte_is (ch "/") s i ≡ true → i < j) → Onward s i (no_comment s j e)
  no_comment_onward i j e o h n = walk_past (no_comment_walks i j e o.walk h) (go (no_comment s j e) (no_comment_cuts j e))
    where
      go : (r : ℕ) → Cut j e r → i < r
      go r (whole q) = omega (arith, o.past)
      go r (cut k l t) = at (eqb r i) refl
        where
          at : (b : Bool) → eqb r i ≡ b → i < r
          at true q = let p = eqb-true r i q in omega (arith, n (subst (λ x. byte_is (ch "/") s x ≡ true) p t))
          at false q = let p : r ≡ i → ⊥ = eqb-false r i q in omega arith

  -- where it leaves nothing a slash stands
  pub no_comment_slash : (i e : ℕ) → i < e → no_comment s i e ≡ i → byte_is (ch "/") s i ≡ true
  no_comment_slash i e h q = go (no_comment s i e) (no_comment_cuts i e) q
    where
      go : (r : ℕ) → Cut i e r → r ≡ i → byte_is (ch "/") s i ≡ true
      go r (whole p) q = absurd (omega arith)
      go r (cut k l t) q = subst (λ x. byte_is (ch "/") s x ≡ true) q t
