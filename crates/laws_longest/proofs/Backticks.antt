-- A name in backticks: the loop that reads it finds the one end of its pattern. Each turn is decided by the characters that stand there:
-- one that the name may have, one after a backtick, or neither. Rests on the shapes and on the laws of loops.
use Rattle.std.specs.Prelude.{Option, Some, None}
use Prim.Native.Nat.{ℕ, ◌+◌, ◌-◌, ◌≤◌, ◌<◌}
use mathlib.Core.Path.{◌≡◌, refl, sym, subst, ◌∙◌}
use mathlib.Core.Bool.{Bool, true, not, ◌&&◌}
use mathlib.Core.Logic.{◌⊎◌, inl, inr}
use native.Mathlib.Omega.{arith}
use lib.Dec.{ltb, eqb}
use lib.ListN.{length}
use borrow.Author.Tests.{lt-ltb, ltb-true}
use Rattle.definition.specs.Basics.{Bytes, Turn, loop, fuel, ch}
use Rattle.definition.specs.Text.{byte_is}
use Rattle.definition.specs.Chars.{is_newline_char}
use Rattle.definition.specs.Matchers.{only, one, backtick_turn, match_backtick_ident}
use Rattle.definition.specs.Regex.{Re, seq, alt, at_least_one}
use Rattle.definition.specs.Patterns.{text, backtick_free}
use Rattle.lemmas.proofs.Cases.{by_match}
use Rattle.lemmas.proofs.Loops.{Leads, Falls, loop_gives}
use Rattle.laws_progress.proofs.Matches.{small_is}
use Rattle.laws_longest.proofs.Language.{Step, Chain, stop, step, At}
use Rattle.laws_longest.proofs.Ends.{Right, Single, some_end, right_map, right_only, right_both, right_head, single_alt}
use Rattle.laws_longest.proofs.Starts.{step_on, step_same, chain_forward, at_forward, at_ahead, at_single, apart}
use Rattle.laws_longest.proofs.Shapes.{one_right, step_single, right_here, right_byte, right_letter}
use Rattle.laws_longest.proofs.Literals.{not_both}

-- A character that a name in backticks may have.
abbrev ok : ℕ → Bool
ok c = not (eqb c (ch "`")) && not (is_newline_char c)

-- One such, or one after a backtick.
abbrev item : Re
item = alt backtick_free (seq (text "`") backtick_free)

-- A backtick is none.
ok_or_tick : (c : ℕ) → ok c ≡ true → eqb c (ch "`") ≡ true → ⊥
ok_or_tick c = not_both ok (ch "`") refl c

module _ (s : Bytes) where
  -- ---- an item

  -- It ends in one place.
  item_single : (j : ℕ) → Single (At s item j)
  item_single j = single_alt (step_single s) (at_single s (seq (text "`") backtick_free) j refl) (λ a b x y. apart s backtick_free (seq (text "`") backtick_free) j a b refl refl ok_or_tick x y)

  -- It ends within the text.
  item_within : (j k : ℕ) → At s item j k → k ≤ length s
  item_within j k (inl a) = (step_on a).1
  item_within j k (inr (m, a, b)) = (step_on b).1

  -- None stands where two backticks do.
  item_or_ticks : (j k e : ℕ) → At s item j k → At s (text "``") j e → ⊥
  item_or_ticks j k e (inl a) b = apart s backtick_free (text "``") j k e refl refl ok_or_tick a b
  item_or_ticks j k e (inr (m, (m', a, q), x)) (n, b, (n', y, r)) =
      let z : m ≡ n = sym q ∙ (step_same a b).0 in
      ok_or_tick x.code x.passes (step_same x (subst (λ (v : ℕ). Step s (λ c. eqb c (ch "`")) v n') (sym z) y)).1

  -- A backtick and a character after it are found by the second test of a turn.
  after_right : (j : ℕ) → Right (At s (seq (text "`") backtick_free) j) (only (byte_is (ch "`") s j) (one ok s (j + 1)))
  after_right j = right_letter s (ch "`") (omega arith) j (j + 1) refl (λ _. one_right s ok (j + 1))

  -- Two backticks are found by their tests.
  ticks_right : (j : ℕ) → Right (At s (text "``") j) (only (byte_is (ch "`") s j && byte_is (ch "`") s (j + 1)) (Some (j + 2)))
  ticks_right j =
      right_both (Some (j + 2)) (byte_is (ch "`") s j) (byte_is (ch "`") s (j + 1))
      (right_byte s (small_is (ch "`") (omega arith)) j (j + 1) refl λ _.
      right_byte s (small_is (ch "`") (omega arith)) (j + 1) (j + 2) (omega arith) λ _. right_here s)

  -- ---- what is still to be read

  -- From j on, n items having been read: items, one in all at least, and two backticks, which end at e.
  abbrev Left : ℕ × ℕ → ℕ → Type 0
  Left (j, n) e = (m : ℕ) × Chain (At s item) j m × ((0 < n) ⊎ (j < m)) × At s (text "``") m e

  -- An item is read: what is left starts after it.
  read_on : (j n k : ℕ) → At s item j k → (e : ℕ) → Left (j, n) e → Left (k, n + 1) e
  read_on j n k a e (m, stop q, h, t) = absurd (item_or_ticks j k e a (subst (λ (x : ℕ). At s (text "``") x e) (sym q) t))
  read_on j n k a e (m, step x b c, h, t) = (m, subst (λ (y : ℕ). Chain (At s item) y m) (item_single j x k b a) c, inl (omega arith), t)

  -- And what is left after it was left before.
  read_back : (j n k : ℕ) → At s item j k → (e : ℕ) → Left (k, n + 1) e → Left (j, n) e
  read_back j n k a e (m, c, h, t) = (m, step k a c, inr (omega (arith, at_ahead s item j k refl a, chain_forward s (at_forward s item) c)), t)

  -- Where no item stands only the backticks are left.
  none_left : (j n : ℕ) → ((k : ℕ) → At s item j k → ⊥) → Right (Left (j, n)) (only (ltb 0 n && (byte_is (ch "`") s j && byte_is (ch "`") s (j + 1))) (Some (j + 2)))
  none_left j n no_item =
      right_both (Some (j + 2)) (ltb 0 n) (byte_is (ch "`") s j && byte_is (ch "`") s (j + 1))
      (right_only (ltb 0 n) (λ e h. lt-ltb 0 n (at_least e h)) (λ t. right_map (λ e h. (j, stop refl, inl (ltb-true 0 n t), h)) ticks (ticks_right j)))
    where
      here : (m : ℕ) → Chain (At s item) j m → j ≡ m
      here m (stop q) = q
      here m (step k a c) = absurd (no_item k a)

      at_least : (e : ℕ) → Left (j, n) e → 0 < n
      at_least e (m, c, inl h, t) = h
      at_least e (m, c, inr h, t) = absurd (omega (arith, here m c))

      ticks : (e : ℕ) → Left (j, n) e → At s (text "``") j e
      ticks e (m, c, h, t) = subst (λ (x : ℕ). At s (text "``") x e) (sym (here m c)) t

  -- ---- the loop

  module _ (start : ℕ × ℕ) where
    -- Nothing of what there is to read is lost, or added.
    record Kept (a : ℕ × ℕ) : Type 0 where
      to : (e : ℕ) → Left start e → Left a e
      from : (e : ℕ) → Left a e → Left start e

    -- An item that a turn reads is one more, and the rest gets shorter.
    turn_on : (j n k : ℕ) → Kept (j, n) → At s item j k → Kept (k, n + 1) × (length s - k < length s - j)
    turn_on j n k h a = (
      record { to = λ e x. read_on j n k a e (h.to e x); from = λ e x. h.from e (read_back j n k a e x) },
      omega (arith, at_ahead s item j k refl a, item_within j k a),
    )

    -- Each turn reads an item, or answers rightly.
    turns : Falls (backtick_turn s) Kept (λ a. length s - a.0) (Right (Left start))
    turns = record { at = λ a h. go a.0 a.1 h }
      where
        go : (j n : ℕ) → Kept (j, n) → Leads (λ b. Kept b × (length s - b.0 < length s - j)) (Right (Left start)) (backtick_turn s (j, n))
        go j n h =
            let L : Turn (ℕ × ℕ) (Option ℕ) → Type 0 = Leads (λ b. Kept b × (length s - b.0 < length s - j)) (Right (Left start)) in
            by_match L (one ok s j) (λ k q. turn_on j n k h (inl ((one_right s ok j).fits k q))) λ first.
            by_match L (only (byte_is (ch "`") s j) (one ok s (j + 1))) (λ k q. turn_on j n k h (inr ((after_right j).fits k q))) λ second.
            right_map h.from h.to (none_left j n (no_item j first second))
          where
            no_item : (j : ℕ) → one ok s j ≡ None → only (byte_is (ch "`") s j) (one ok s (j + 1)) ≡ None → (k : ℕ) → At s item j k → ⊥
            no_item j p q k (inl a) = some_end (sym p ∙ ((one_right s ok j).top k a).1)
            no_item j p q k (inr a) = some_end (sym q ∙ ((after_right j).top k a).1)

    -- So does the loop.
    loop_right : Right (Left start) (loop (backtick_turn s) (λ a. None) (fuel s) start)
    loop_right = loop_gives turns (λ a. None) (fuel s) start (record { to = λ e x. x; from = λ e x. x }) (omega arith)

  -- `match_backtick_ident` finds the end of a name in backticks.
  pub backtick_right : (i : ℕ) → Right (At s (seq (text "``") (seq (at_least_one item) (text "``"))) i) (match_backtick_ident s i)
  unfolding match_backtick_ident
  backtick_right i =
      right_head (i + 2) (byte_is (ch "`") s i && byte_is (ch "`") s (i + 1)) (at_single s (text "``") i refl) (ticks_right i)
      (λ _. right_map out into (loop_right (i + 2, 0)))
    where
      out : (e : ℕ) → Left (i + 2, 0) e → At s (seq (at_least_one item) (text "``")) (i + 2) e
      out e (m, step k a c, h, t) = (m, (k, a, c), t)
      out e (m, stop q, inl h, t) = absurd (omega arith)
      out e (m, stop q, inr h, t) = absurd (omega arith)

      into : (e : ℕ) → At s (seq (at_least_one item) (text "``")) (i + 2) e → Left (i + 2, 0) e
      into e (m, (k, a, c), t) = (m, step k a c, inr (omega (arith, at_ahead s item (i + 2) k refl a, chain_forward s (at_forward s item) c)), t)
