-- What a line comment cuts off a choice, and actions on what is left. Rests on the laws of cuts.
use Prim.Native.Nat.{ℕ, zero, suc, ◌+◌, ◌-◌, ◌≤◌, ◌<◌}
use Prim.Native.String.{String}
use native.Mathlib.Omega.{arith}
use mathlib.Core.Path.{◌≡◌, refl, sym, subst}
use mathlib.Core.Bool.{Bool, true, ◌&&◌}
use mathlib.Core.List.{List, [], ◌∷◌}
use lib.Dec.{leb}
use lib.ListN.{length, get_or}
use lib.Seq.{length-slice}
use borrow.Author.Tests.{eq-eqb, ne_eqb, leb-true}
use Rattle.definition.specs.Basics.{Bytes, ch}
use Rattle.definition.specs.Utf8.{encode, encode_all}
use Rattle.definition.specs.Text.{lexeme}
use Rattle.definition.specs.Kinds.{kind}
use Rattle.definition.specs.Tables.{KwOp, cps, kw_op_rules, kw_op_entry, no_kw_op}
use Rattle.definition.specs.Matchers.{no_comment}
use Rattle.definition.specs.State.{advance}
use Rattle.definition.specs.Token.{kw_op, gt, op}
use Rattle.definition.specs.declared.State.{State}
use Rattle.state.specs.Sound.{Stands}
use Rattle.lemmas.proofs.Cases.{both}
use Rattle.laws_progress.proofs.Cuts.{no_comment_walks}
use Rattle.laws_run.proofs.Moving.{walk_stands, stands_within}
use Rattle.reader.specs.Described.{Describes}
use Rattle.reader.specs.declared.Cursor.{Cursor}
use Rattle.reader.specs.declared.Payload.TheVariants.{Part, Greater}
use Rattle.reader.proofs.Describing.{part_describes}
use Rattle.reader.specs.declared.actions.Action.TheVariants.{Token, LineComment}
use Rattle.reader.specs.Actions.{Chose, Spans, Rules}
use Rattle.reader.proofs.Spanning.{part_sized, spans_to}
use Rattle.reader.proofs.ActionLaws.{token_rules, line_rules}

-- the kind by whether something is left
rest_some : (l : Bytes) (a b : ℕ) → 0 < length l → elim l [ [] ↦ a | x ∷ m ↦ b ] ≡ b
rest_some [] a b h = absurd (omega arith)
rest_some (x ∷ l) a b h = refl

rest_none : (l : Bytes) (a b : ℕ) → length l ≡ 0 → elim l [ [] ↦ a | x ∷ m ↦ b ] ≡ a
rest_none [] a b h = refl
rest_none (x ∷ l) a b h = absurd (omega arith)

module _ {s : Bytes} {at : Cursor} {e : ℕ} (h : Chose s at e) where
  abbrev st : State
  st = at.st

  abbrev i : ℕ
  i = st.offset

  -- a cut leaves whole characters
  pub cut_stands : {to : ℕ} (j : ℕ) → i ≤ j → to ≡ no_comment s j e → Stands s (advance st to)
  cut_stands {to} j l q =
      subst (λ (k : ℕ). Stands s (advance st k)) (sym q) (walk_stands h.standing.stands (no_comment_walks s i j e h.onward.walk l))

  pub cut_within : {to : ℕ} (j : ℕ) → i ≤ j → to ≡ no_comment s j e → to ≤ length s
  cut_within j l q = stands_within (cut_stands j l q)

  -- a token may end at the cut
  pub cut_spans : {name : Bytes} {to from : ℕ} → to ≡ no_comment s i e → Spans s name at i to (Part from to)
  cut_spans q = spans_to h (cut_stands i (omega arith) q) (part_sized h (cut_within i (omega arith) q))

  -- so may one that begins after a `>`
  pub gt_spans : {name : Bytes} {to : ℕ} → to ≡ no_comment s (i + 1) e → Spans s name at (i + 1) to (Greater (i + 1) to)
  gt_spans {name} {to} q =
      let l : i ≤ i + 1 = omega arith in
      let w : to ≤ length s = cut_within (i + 1) l q in
      record {
        standing = h.standing;
        from = omega (arith, h.standing.stands.sound.order);
        within = omega (arith, h.onward.past, h.onward.within);
        next = cut_stands (i + 1) l q;
        sized = record { listed = tt; small = omega (arith, h.standing.stands.short) };
      }

  module _ (name : Bytes) where
    -- a keyword before operators, and by itself
    module _ {to n : ℕ} (x : KwOp) (q : to ≡ no_comment s i e) (m : n ≡ length (cps x.word)) where
      size : length (lexeme s (i + n) to) ≡ to - (i + n)
      size = length-slice (i + n) to s (cut_within i (omega arith) q)

      describes : (f : Bytes) → Describes s name f (Part (i + n) to) (lexeme s (i + n) to)
      describes f = part_describes s name f (i + n) to (cut_within i (omega arith) q)

      pub kw_before_rules : {k : ℕ} → i + n < to → k ≡ kind x.op_kind → Rules s name at e (kw_op s st e x) (Token k i to (Part (i + n) to))
      kw_before_rules l p =
          token_rules (lexeme s (i + n) to) describes (cut_spans q)
          (rw (← q, ← m, rest_some (lexeme s (i + n) to) (kind x.kind) (kind x.op_kind) (omega (arith, size)), ← p) refl)

      pub kw_plain_rules : {k : ℕ} → to ≤ i + n → k ≡ kind x.kind → Rules s name at e (kw_op s st e x) (Token k i to (Part (i + n) to))
      kw_plain_rules l p =
          token_rules (lexeme s (i + n) to) describes (cut_spans q)
          (rw (← q, ← m, rest_none (lexeme s (i + n) to) (kind x.kind) (kind x.op_kind) (omega (arith, size)), ← p) refl)

    -- `>` and what is left after it
    pub gt_rules : {to : ℕ} → to ≡ no_comment s (i + 1) e → Rules s name at e (gt s st e) (Token (kind "OPINFIX0c") (i + 1) to (Greater (i + 1) to))
    gt_rules {to} q =
        let w : to ≤ length s = cut_within (i + 1) (omega arith) q in
        token_rules (ch ">" ∷ lexeme s (i + 1) to) (λ f. record { is = refl; long = omega (arith, length-slice (i + 1) to s w); inside = w }) (gt_spans q)
        (rw (← q) refl)

    -- an operator, or a line's comment where nothing is left
    pub cut_away : {to : ℕ} (x : String) → to ≡ no_comment s i e → to ≡ i → Rules s name at e (op s st e x) LineComment
    cut_away {to} x q z = line_rules (rw (op, ← q, eq-eqb to i z) refl)

    pub op_rules : {to k : ℕ} (x : String) → to ≡ no_comment s i e → (to ≡ i → ⊥) → k ≡ kind x → Rules s name at e (op s st e x) (Token k i to (Part i to))
    op_rules {to} {k} x q z p =
        token_rules (lexeme s i to) (λ f. part_describes s name f i to (cut_within i (omega arith) q)) (cut_spans q)
        (rw (op, ← q, ne_eqb to i z, ← q, ← p) refl)

-- no word before operators is long
abbrev words_short : List KwOp → Bool
words_short [] = true
words_short (x ∷ xs) = leb (length (cps x.word)) 6 && words_short xs

word_short : (table : List KwOp) → words_short table ≡ true → (w : ℕ) → length (cps (get_or table w no_kw_op).word) ≤ 6
unfolding cps encode_all
word_short [] t w = omega arith
word_short (x ∷ xs) t zero = leb-true _ _ (both (leb (length (cps x.word)) 6) (words_short xs) t).0
word_short (x ∷ xs) t (suc w) = word_short xs (both (leb (length (cps x.word)) 6) (words_short xs) t).1 w

pub kw_op_short : (n w : ℕ) → n ≡ length (cps (kw_op_entry w).word) → n ≤ 6
unfolding kw_op_rules cps encode_all encode
kw_op_short n w q = omega (arith, q, word_short kw_op_rules refl w)
