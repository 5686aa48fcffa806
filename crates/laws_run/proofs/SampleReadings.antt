-- Demand 3 says something: from `EveryReading` alone, whatever the class file and the file's name are, the place and the end of the choice
-- are known at reading positions of sample texts. The samples stand at the end. What `select` chooses is computed nowhere here.
-- Rests on the laws of derivatives (crate `definition`, Samples), by which a computed test tells whether a word is in a pattern's language,
-- and on UTF-8: ASCII bytes are the encoding of one list of characters alone.
use Prim.Native.Nat.{ℕ, zero, suc, ◌≤◌, ◌<◌}
use mathlib.Core.Path.{◌≡◌, refl, sym, ap, ap₂, subst, ◌∙◌}
use mathlib.Core.Bool.{Bool, true, not, ◌&&◌, false≢true}
use mathlib.Core.List.{List, [], ◌∷◌}
use mathlib.Core.Logic.{inl}
use native.Mathlib.Omega.{arith}
use lib.Dec.{ltb}
use lib.ListN.{length, take, drop, get_or}
use lib.Seq.{get_or-take}
use borrow.Author.Tests.{ltb-true}
use Rattle.definition.specs.Basics.{Bytes, done, loop, mem_cp}
use Rattle.definition.specs.Utf8.{Scalars, encode, encode_all, sequence, sequence_at}
use Rattle.definition.specs.Text.{lexeme, char_has, byte_has, star}
use Rattle.definition.specs.Chars.{is_digit, is_hex, is_lower, is_ident_start, is_constructor_start, is_ident_char, is_anywhite, is_newline_char, is_op_char, is_symbolchar, is_uoperator, in_table, ascii_table, count_up}
use Rattle.definition.specs.Tables.{cps, early_literals, kw_op_rules, op_tokens, mixfix_rules}
use Rattle.definition.specs.Kinds.{kind}
use Rattle.definition.specs.Position.{cur_pos}
use Rattle.definition.specs.Matchers.{one, match_newline, no_comment}
use Rattle.definition.specs.Rules.{place_rules, chosen_rule}
use Rattle.definition.specs.Select.{select}
use Rattle.definition.specs.State.{started, advance, close_comment}
use Rattle.definition.specs.Item.{tok}
use Rattle.definition.specs.Comment.{comment, comment_stop}
use Rattle.definition.specs.Regex.{Re, never, Permits}
use Rattle.definition.specs.Patterns.{patterns, pattern}
use Rattle.definition.specs.Longest.{Permitted, Longest}
use Rattle.definition.specs.Token.{act, token_turn}
use Rattle.definition.specs.Reading.{EveryReading, given, gave, carried, GivesError}
use Rattle.definition.specs.Samples.{accepts}
use Rattle.definition.specs.declared.Choice.{Choice}
use Rattle.definition.specs.declared.State.{State}
use Rattle.definition.specs.declared.Extra.TheVariants.{NoExtra}
use Rattle.definition.proofs.Samples.{accepted_in, in_accepted}
use Rattle.lemmas.proofs.Cases.{both, both_true, by_order}
use Rattle.utf8.proofs.EncodingLaws.{encode_1}
use Rattle.utf8.proofs.Laws.{encode_all_injective}

-- ---- words of ASCII

-- all characters are below 128
abbrev ascii : List ℕ → Bool
ascii [] = true
ascii (a ∷ w) = ltb a 128 && ascii w

ascii_scalars : (w : List ℕ) → ascii w ≡ true → Scalars w
ascii_scalars [] h = tt
ascii_scalars (a ∷ w) h =
    let p = both (ltb a 128) (ascii w) h in
    let small : a < 128 = ltb-true a 128 p.0 in
    (record { small = omega arith; no_surrogate = inl (omega arith) }, ascii_scalars w p.1)

-- a part of them is such a word too
ascii_take : (n : ℕ) (w : List ℕ) → ascii w ≡ true → ascii (take n w) ≡ true
ascii_take zero w h = refl
ascii_take (suc n) [] h = refl
ascii_take (suc n) (a ∷ w) h = let p = both (ltb a 128) (ascii w) h in both_true (ltb a 128) (ascii (take n w)) p.0 (ascii_take n w p.1)

ascii_drop : (n : ℕ) (w : List ℕ) → ascii w ≡ true → ascii (drop n w) ≡ true
ascii_drop zero w h = h
ascii_drop (suc n) [] h = refl
ascii_drop (suc n) (a ∷ w) h = ascii_drop n w (both (ltb a 128) (ascii w) h).1

ascii_part : (s : Bytes) (i e : ℕ) → ascii s ≡ true → ascii (lexeme s i e) ≡ true
ascii_part s i e h = ascii_drop i (take e s) (ascii_take e s h)

-- they are encoded as they are
ascii_bytes : (w : List ℕ) → ascii w ≡ true → encode_all w ≡ w
unfolding encode_all
ascii_bytes [] h = refl
ascii_bytes (a ∷ w) h =
    let p = both (ltb a 128) (ascii w) h in
    rw (encode_1 a (ltb-true a 128 p.0)) (ap₂ (λ (b : ℕ) (v : List ℕ). b ∷ v) refl (ascii_bytes w p.1))

module _ (r : Re) (s : Bytes) (i e : ℕ) (a : ascii s ≡ true) where
  -- a part that is permitted is accepted as a word,
  permits_accepts : Permits r s i e → accepts r (lexeme s i e) ≡ true
  permits_accepts p =
      let w : List ℕ = lexeme s i e in
      let plain : ascii w ≡ true = ascii_part s i e a in
      let same : p.chars ≡ w = encode_all_injective p.chars w p.scalars (ascii_scalars w plain) (sym p.bytes ∙ sym (ascii_bytes w plain)) in
      subst (λ v. accepts r v ≡ true) same (in_accepted r p.chars p.fits)

  -- and one that is accepted is permitted
  accepts_permits : i ≤ e → e ≤ length s → accepts r (lexeme s i e) ≡ true → Permits r s i e
  accepts_permits forward within h =
      let w : List ℕ = lexeme s i e in
      let plain : ascii w ≡ true = ascii_part s i e a in
      record { forward = forward; within = within; chars = w; scalars = ascii_scalars w plain; bytes = sym (ascii_bytes w plain); fits = accepted_in r w h }

-- ---- a word and the places

-- no expression of a list accepts the word
abbrev none_accepts : List Re → List ℕ → Bool
none_accepts [] w = true
none_accepts (r ∷ rs) w = not (accepts r w) && none_accepts rs w

-- the patterns by place; place 0, which there is none of, has one that permits nothing
abbrev by_place : Bytes → List Re
by_place f = never ∷ patterns f

refused : (rs : List Re) (w : List ℕ) (k : ℕ) → none_accepts rs w ≡ true → accepts (get_or rs k never) w ≡ true → ⊥
refused [] w k n h = false≢true (accepted_in never w h).2
refused (r ∷ rs) w zero n h = false≢true (sym (ap not h) ∙ (both (not (accepts r w)) (none_accepts rs w) n).0)
refused (r ∷ rs) w (suc k) n h = refused rs w k (both (not (accepts r w)) (none_accepts rs w) n).1 h

-- What tests show of the ASCII text s, under the class file f: place p has the part from i up to e, no earlier place has it, and no place
-- has a longer one.
record Decides (s f : Bytes) (i e p : ℕ) : Type 0 where
  plain : ascii s ≡ true
  ahead : i < e
  within : e ≤ length s
  has : accepts (pattern f p) (lexeme s i e) ≡ true
  first : none_accepts (take p (by_place f)) (lexeme s i e) ≡ true
  longest : (b : ℕ) → e < b → b ≤ length s → none_accepts (by_place f) (lexeme s i b) ≡ true

-- Then a choice that is right has that place and that end.
decided : {s f : Bytes} {i e p : ℕ} (c : Choice) → Decides s f i e p → Longest s f i c → (c.place ≡ p) × (c.end ≡ e)
unfolding pattern
decided {s} {f} {i} {e} {p} c d l = (omega (arith, no_later, no_earlier), same_end)
  where
    permitted : Permitted s f p i e
    permitted = accepts_permits (pattern f p) s i e d.plain (omega (arith, d.ahead)) d.within d.has

    chosen : Permitted s f c.place i c.end
    chosen = l.fits (λ z. l.nothing.0 z p e d.ahead permitted)

    no_longer : c.end ≤ e
    no_longer =
        by_order e c.end
        (λ h.
        let accepted = permits_accepts (pattern f c.place) s i c.end d.plain chosen in
        absurd (refused (by_place f) (lexeme s i c.end) c.place (d.longest c.end h chosen.within) accepted))
        (λ h. h)

    same_end : c.end ≡ e
    same_end = omega (arith, no_longer, l.longest p e permitted)

    no_later : c.place ≤ p
    no_later = by_order p c.place (λ h. absurd (l.first p h (subst (Permitted s f p i) (sym same_end) permitted))) (λ h. h)

    no_earlier : p ≤ c.place
    no_earlier =
        by_order c.place p
        (λ h.
        let w = lexeme s i e in
        let accepted = permits_accepts (pattern f c.place) s i e d.plain (subst (Permitted s f c.place i) same_end chosen) in
        let among = sym (get_or-take p (by_place f) c.place never h) in
        absurd (refused (take p (by_place f)) w c.place d.first (subst (λ r. accepts r w ≡ true) among accepted)))
        (λ h. h)

-- ---- the samples

-- one byte of the text is after the part: b is its end
last_end : (P : ℕ → Type 0) (e : ℕ) → P (suc e) → (b : ℕ) → e < b → b ≤ suc e → P b
last_end P e h b l w = subst P (omega arith) h

minus_slashes_decides : (f : Bytes) → Decides (cps "-//c") f 0 3 47
unfolding
    cps encode_all encode pattern patterns early_literals kw_op_rules op_tokens mixfix_rules mem_cp is_digit is_hex is_lower
    is_ident_start is_constructor_start is_ident_char is_anywhite is_newline_char is_op_char is_symbolchar is_uoperator in_table
    ascii_table count_up
minus_slashes_decides f = record {
  plain = refl;
  ahead = omega arith;
  within = omega arith;
  has = refl;
  first = refl;
  longest = last_end (λ b. none_accepts (by_place f) (lexeme (cps "-//c") 0 b) ≡ true) 3 refl;
}

-- Document 01: "`-//c` is OPINFIX2 `-`". At the start of this text the choice is place 47, the family of OPINFIX2, with `-//`: no place has
-- `-//c`, and no earlier one `-//`. (That its token is cut before `//` comes after the choice.)
pub minus_slashes : (f name : Bytes) → EveryReading (cps "-//c") name f (started 1 0)
    → ((select (cps "-//c") f 0).place ≡ 47) × ((select (cps "-//c") f 0).end ≡ 3)
unfolding cps encode_all encode
minus_slashes f name every = decided (select (cps "-//c") f 0) (minus_slashes_decides f) (every (started 1 0) given refl (omega arith)).longest

-- its token is cut before `//`, so that the next reading position is at byte 1
minus_read : (f name : Bytes) (c : Choice) → c.place ≡ 47 → c.end ≡ 3
    → act (cps "-//c") name f (started 1 0) c
    ≡ done (tok (kind "OPINFIX2") (cps "-") 0 (cur_pos (cps "-//c") (started 1 0)) (cur_pos (cps "-//c") (advance (started 1 0) 1)) NoExtra (advance (started 1 0) 1))
unfolding act chosen_rule place_rules no_comment loop byte_has cps encode_all encode
minus_read f name c p e = rw (p, e) refl

minus_turn : (f name : Bytes) → (select (cps "-//c") f 0).place ≡ 47 → (select (cps "-//c") f 0).end ≡ 3
    → token_turn (cps "-//c") name f (started 1 0)
    ≡ done (tok (kind "OPINFIX2") (cps "-") 0 (cur_pos (cps "-//c") (started 1 0)) (cur_pos (cps "-//c") (advance (started 1 0) 1)) NoExtra (advance (started 1 0) 1))
unfolding token_turn cps encode_all encode
minus_turn f name p e = minus_read f name (select (cps "-//c") f 0) p e

slashes_decide : (f : Bytes) → Decides (cps "-//c") f 1 3 30
unfolding
    cps encode_all encode pattern patterns early_literals kw_op_rules op_tokens mixfix_rules mem_cp is_digit is_hex is_lower
    is_ident_start is_constructor_start is_ident_char is_anywhite is_newline_char is_op_char is_symbolchar is_uoperator in_table
    ascii_table count_up
slashes_decide f = record {
  plain = refl;
  ahead = omega arith;
  within = omega arith;
  has = refl;
  first = refl;
  longest = last_end (λ b. none_accepts (by_place f) (lexeme (cps "-//c") 1 b) ≡ true) 3 refl;
}

-- There the choice is place 30, the line comment, with `//`: place 48 has `//` too, and is later.
pub slashes : (f name : Bytes) → EveryReading (cps "-//c") name f (started 1 0)
    → ((select (cps "-//c") f 1).place ≡ 30) × ((select (cps "-//c") f 1).end ≡ 3)
unfolding cps encode_all encode
slashes f name every =
    let first = minus_slashes f name every in
    let there = gave given refl (minus_turn f name first.0 first.1) in
    decided (select (cps "-//c") f 1) (slashes_decide f) (every (advance (started 1 0) 1) there refl (omega arith)).longest

-- a state that was saved inside the comment of the next text, after its opening
abbrev pub in_comment : State
in_comment = record { offset = 2; line = 1; bol = 0; column = 0; comments = 0; mode = 1; depth = 1; comment = record { line = 1; col = 0 } }

-- after the comment a run stands between items
comment_read : ((comment (cps "(* x *)-//c") 2 in_comment).next.mode ≡ 0) × ((comment (cps "(* x *)-//c") 2 in_comment).next.offset ≡ 7)
unfolding cps encode_all encode comment loop star sequence_at sequence comment_stop is_newline_char match_newline one char_has byte_has close_comment
comment_read = (refl, refl)

after_comment_decides : (f : Bytes) → Decides (cps "(* x *)-//c") f 7 10 47
unfolding
    cps encode_all encode pattern patterns early_literals kw_op_rules op_tokens mixfix_rules mem_cp is_digit is_hex is_lower
    is_ident_start is_constructor_start is_ident_char is_anywhite is_newline_char is_op_char is_symbolchar is_uoperator in_table
    ascii_table count_up
after_comment_decides f = record {
  plain = refl;
  ahead = omega arith;
  within = omega arith;
  has = refl;
  first = refl;
  longest = last_end (λ b. none_accepts (by_place f) (lexeme (cps "(* x *)-//c") 7 b) ≡ true) 10 refl;
}

-- A comment is carried over: where it has been read the run comes to a reading position, and there the choice is place 47 with `-//` too.
pub after_comment : (f name : Bytes) → EveryReading (cps "(* x *)-//c") name f in_comment
    → ((select (cps "(* x *)-//c") f 7).place ≡ 47) × ((select (cps "(* x *)-//c") f 7).end ≡ 10)
unfolding cps encode_all encode
after_comment f name every =
    let s = cps "(* x *)-//c" in
    let after = (comment s 2 in_comment).next in
    let there : Longest s f after.offset (select s f after.offset) =
    (every after (carried given refl) comment_read.0 (omega (arith, comment_read.1))).longest
    in
    decided (select s f 7) (after_comment_decides f) (subst (λ i. Longest s f i (select s f i)) comment_read.1 there)

no_place_has_backslash : (f : Bytes) (e : ℕ) → 0 < e → e ≤ length (cps "\\") → none_accepts (by_place f) (lexeme (cps "\\") 0 e) ≡ true
unfolding
    cps encode_all encode pattern patterns early_literals kw_op_rules op_tokens mixfix_rules mem_cp is_digit is_hex is_lower
    is_ident_start is_constructor_start is_ident_char is_anywhite is_newline_char is_op_char is_symbolchar is_uoperator in_table
    ascii_table count_up
no_place_has_backslash f = last_end (λ e. none_accepts (by_place f) (lexeme (cps "\\") 0 e) ≡ true) 0 refl

-- "unexpected char exactly when no rule permits a byte": no place has a backslash, so that at the start of this text none is chosen, and
-- error 6 is given.
pub backslash_unexpected : (f name : Bytes) → EveryReading (cps "\\") name f (started 1 0)
    → ((select (cps "\\") f 0).place ≡ 0) × GivesError 6 (token_turn (cps "\\") name f (started 1 0))
unfolding cps encode_all encode pattern
backslash_unexpected f name every =
    let s = cps "\\" in
    let right = every (started 1 0) given refl (omega arith) in
    let none : (select s f 0).place ≡ 0 =
    right.longest.nothing.1
    (λ k e l p. refused (by_place f) (lexeme s 0 e) k (no_place_has_backslash f e l p.within) (permits_accepts (pattern f k) s 0 e refl p))
    in
    (none, right.unexpected.1 none)
