-- The one walk over the rules: what each does with a choice is skipped, or gives an item of a form that is known (Forms). Rests on the
-- forms of what the readers give, and on what `no_comment` leaves (crate `laws_progress`).
use Rattle.std.specs.Prelude.{Option, Some, None}
use Prim.Native.Nat.{ℕ, ◌+◌, ◌-◌, ◌≤◌}
use Prim.Native.String.{String}
use mathlib.Core.Path.{◌≡◌, refl}
use mathlib.Core.Bool.{true, not}
use mathlib.Core.List.{List, [], ◌∷◌, ◌++◌}
use mathlib.Core.Logic.{inl, inr}
use native.Mathlib.Omega.{arith}
use lib.Dec.{eqb}
use lib.ListN.{length, length-append}
use borrow.Author.Tests.{eqb-true, eqb-false}
use Rattle.definition.specs.Basics.{Bytes, Turn, ch}
use Rattle.definition.specs.Utf8.{encode, encode_all}
use Rattle.definition.specs.Text.{byte_is, lexeme}
use Rattle.definition.specs.Chars.{is_newline_char}
use Rattle.definition.specs.Tables.{Entry, cps, find, keywords, constructors, uoperators}
use Rattle.definition.specs.Position.{pos_of, cur_pos}
use Rattle.definition.specs.Kinds.{kind}
use Rattle.definition.specs.Matchers.{no_comment}
use Rattle.definition.specs.Numbers.{clean_number, int_of_string, show}
use Rattle.definition.specs.Rules.{Rule, REarly, RTripleBacktick, RLang, RSourceFile, RLine, RFileLine, RWhite, RNewline, RCharLit, RCharLitB, RBacktick, RKwOp, RSemiSemi, RIdent, RConstructor, RInt, RUInt8, RNumber, RReal, RBadNumber, RCommentStart, RInFStar, RLineComment, RString, RBacktickIdent, RPipeLeft, RPipeRight, RDotDot, ROpToken, RLt, RGt, ROp, RUOperator, RMixfix, RAny}
use Rattle.definition.specs.State.{advance, open_comment}
use Rattle.definition.specs.Item.{Step, lex_error}
use Rattle.definition.specs.Token.{reserved_prefix, starts_with, finish, finish_entry, finish_word, char_lit, kw_op, ident, uint8, gt, op, by_rule}
use Rattle.definition.specs.declared.State.{State}
use Rattle.lemmas.proofs.Loops.{Leads}
use Rattle.lemmas.proofs.Cases.{by_test, by_lt}
use Rattle.laws_progress.proofs.Walks.{Onward, onward_walk, walk_past, walk_forward, star_walks}
use Rattle.laws_progress.proofs.Cuts.{slash_goes_on, slash_at, no_comment_walks, no_comment_onward, no_comment_slash}
use Rattle.laws_progress.proofs.Scans.{star_onward}
use Rattle.laws_run.proofs.Sizes.{part_size, part_within, texts_small, find_small, clean_size, line_size}
use Rattle.laws_run.proofs.Paths.{ahead_here, walk_ahead, stay, on, Goes, goes_on, goes_line}
use Rattle.laws_run.proofs.Forms.{Small, nothing, code_point, Form, token, opened, error}
use Rattle.laws_run.proofs.CommentReader.{comment_piece, line_comment_form}
use Rattle.laws_run.proofs.StringReader.{string_form}
use Rattle.laws_run.proofs.BlobReader.{blob_form, lang_form}

-- what a turn of `next_token` at st may say: it skips a byte or more, or gives an item of some form
abbrev pub Says : Bytes → Bytes → Type 0 → State → Turn State Step → Type 0
Says s name U st = Leads (Goes s (Unit {0}) st) (Form s name U st)

-- what a rule asks besides of a choice that ends at e: a keyword operator doesn't begin with a slash, the words that stand for the name
-- are long, the text of an operator token is short, and a `>` is one byte. `RAny` says U
abbrev pub Asks : Bytes → Type 0 → State → ℕ → Rule → Type 0
Asks s U st e (REarly k) = Unit {0}
Asks s U st e RTripleBacktick = Unit {0}
Asks s U st e RLang = Unit {0}
Asks s U st e RSourceFile = st.offset + 12 ≤ e
Asks s U st e RLine = Unit {0}
Asks s U st e RFileLine = st.offset + 12 ≤ e
Asks s U st e RWhite = Unit {0}
Asks s U st e RNewline = Unit {0}
Asks s U st e RCharLit = Unit {0}
Asks s U st e RCharLitB = Unit {0}
Asks s U st e RBacktick = Unit {0}
Asks s U st e (RKwOp x) = byte_is (ch "/") s st.offset ≡ true → ⊥
Asks s U st e RSemiSemi = Unit {0}
Asks s U st e RIdent = Unit {0}
Asks s U st e RConstructor = Unit {0}
Asks s U st e RInt = Unit {0}
Asks s U st e RUInt8 = Unit {0}
Asks s U st e (RNumber k) = Unit {0}
Asks s U st e RReal = Unit {0}
Asks s U st e RBadNumber = Unit {0}
Asks s U st e RCommentStart = Unit {0}
Asks s U st e RInFStar = Unit {0}
Asks s U st e RLineComment = Unit {0}
Asks s U st e RString = Unit {0}
Asks s U st e RBacktickIdent = Unit {0}
Asks s U st e RPipeLeft = Unit {0}
Asks s U st e RPipeRight = Unit {0}
Asks s U st e RDotDot = Unit {0}
Asks s U st e (ROpToken k text) = length (cps text) ≤ 100
Asks s U st e RLt = Unit {0}
Asks s U st e RGt = Onward s st.offset (st.offset + 1)
Asks s U st e (ROp k) = Unit {0}
Asks s U st e RUOperator = Unit {0}
Asks s U st e (RMixfix k) = Unit {0}
Asks s U st e RAny = U

module _ (s name : Bytes) (U : Type 0) (st : State) where
  abbrev i : ℕ
  i = st.offset

  -- ---- tokens

  -- a token up to j
  up_to : {j : ℕ} (k : ℕ) (text : Bytes) → Onward s i j → Small name st (advance st j) text → Says s name U st (finish s st j k text)
  up_to {j} k text o b = token k text nothing ahead_here (on j stay (walk_ahead o.walk)) o.past b

  -- with a text that is at most as long as what was read and a hundred bytes
  short_up_to : {j : ℕ} (k : ℕ) (text : Bytes) → Onward s i j → length text ≤ (j - i) + 100 → Says s name U st (finish s st j k text)
  short_up_to k text o b = up_to k text o (λ _. inl (omega arith))

  module _ {e : ℕ} (o : Onward s i e) where
    -- with a part of what was read
    part_up_to : (k from to : ℕ) → i ≤ from → to ≤ e → Says s name U st (finish s st e k (lexeme s from to))
    part_up_to k from to h l = short_up_to k (lexeme s from to) o (omega (arith, part_size s from to))

    -- a token that its word decides
    word_says : (table : List Entry) (k : String) → texts_small table ≡ true → Says s name U st (finish_word s st e table k)
    word_says table k small = go (find (lexeme s i e) table) refl
      where
        go : (x : Option Entry) → find (lexeme s i e) table ≡ x
            → Says s name U st (elim x [ Some y ↦ finish_entry s st e y | None ↦ finish s st e (kind k) (lexeme s i e) ])
        go (Some y) q = short_up_to (kind y.kind) (cps y.text) o (omega (arith, find_small (lexeme s i e) table y small q))
        go None q = part_up_to (kind k) i e (omega arith) (omega arith)

    -- an error at st without a payload, of the range up to e
    error_says : (n : ℕ) → (n ≡ 6 → ⊥) → Form s name U st (lex_error s st n [] (cur_pos s st) (pos_of s st e))
    error_says n u = error n [] stay (walk_ahead o.walk) (omega arith) (λ q. absurd (u q))

    -- an identifier, unless its prefix is reserved
    ident_says : Says s name U st (ident s st e)
    unfolding keywords cps encode_all encode
    ident_says =
        by_test (Says s name U st) (starts_with (lexeme s i e) reserved_prefix)
        (λ _. error_says 3 (λ q. absurd (omega arith))) (λ _. word_says keywords "IDENT" refl)

    -- a cleaned number
    number_says : (k : ℕ) → Says s name U st (finish s st e k (clean_number (lexeme s i e)))
    number_says k = short_up_to k (clean_number (lexeme s i e)) o (omega (arith, clean_size (lexeme s i e), part_size s i e))

    -- a number of a byte, unless it is too big
    uint8_says : Says s name U st (uint8 s st e)
    uint8_says =
        by_lt (Says s name U st) 255 (int_of_string (clean_number (lexeme s i e)))
        (λ _. error_says 4 (λ q. absurd (omega arith))) (λ _. number_says (kind "UINT8"))

    -- a character
    char_says : Says s name U st (char_lit s st e)
    char_says = token _ [] (code_point _) ahead_here (on e stay (walk_ahead o.walk)) o.past (λ _. inl (omega arith))

    -- a keyword before operators, which begins with no slash
    kw_op_says : (x : _) → (byte_is (ch "/") s i ≡ true → ⊥) → Says s name U st (kw_op s st e x)
    kw_op_says x n =
        let c = no_comment_onward s i i e o (omega arith) (λ t. absurd (n t)) in
        let rest = lexeme s (i + length (cps x.word)) (no_comment s i e) in
        token _ rest nothing ahead_here (on (no_comment s i e) stay (walk_ahead c.walk)) c.past
        (λ _. inl (omega (arith, part_size s (i + length (cps x.word)) (no_comment s i e))))

    -- a `>`, which the payload has too; its position is the one after it
    gt_says : Onward s i (i + 1) → Says s name U st (gt s st e)
    gt_says first =
        let c = no_comment_onward s i (i + 1) e o (omega arith) (λ _. omega arith) in
        token _ (ch ">" ∷ lexeme s (i + 1) (no_comment s (i + 1) e)) nothing (walk_ahead first.walk)
        (on (no_comment s (i + 1) e) stay (walk_ahead c.walk)) c.past (λ _. inl (omega (arith, part_size s (i + 1) (no_comment s (i + 1) e))))

    -- an operator; cut to nothing it is a line's comment, which begins with the slash
    op_says : (k : String) → Says s name U st (op s st e k)
    op_says k =
        by_test (Says s name U st) (eqb e' i)
        (λ t.
        let q = slash_at s i (no_comment_slash s i e o.past (eqb-true e' i t)) in
        line_comment_form [] st i ahead_here (star_onward (λ c. not (is_newline_char c)) s i (ch "/") 1 q.1 slash_goes_on) (omega arith))
        (λ t.
        let q : e' ≡ i → ⊥ = eqb-false e' i t in
        let u = no_comment_walks s i i e o.walk (omega arith) in
        short_up_to (kind k) (lexeme s i e') (walk_past u (omega (arith, walk_forward u))) (omega (arith, part_size s i e')))
      where
        e' : ℕ
        e' = no_comment s i e

    -- the file's name and the line's number
    file_line_says : i + 12 ≤ e → Says s name U st (finish s st e (kind "STRING") (name ++ (cps "(" ++ (show st.line ++ cps ")"))))
    unfolding cps encode_all encode
    file_line_says h = up_to (kind "STRING") (name ++ (cps "(" ++ (show st.line ++ cps ")"))) o λ l.
        inr (
          omega (
            arith,
            length-append name (cps "(" ++ (show st.line ++ cps ")")),
            length-append (cps "(") (show st.line ++ cps ")"),
            length-append (show st.line) (cps ")"),
            line_size st.line l,
          ),
          h,
        )

    -- ---- every rule

    -- What each rule does with a choice.
    pub rule_says : (f : Bytes) (r : Rule) → Asks s U st e r → Says s name U st (by_rule s name f st e r)
    unfolding constructors uoperators cps encode_all encode
    rule_says f (REarly k) h = short_up_to (kind k) [] o (omega arith)
    rule_says f RTripleBacktick h = blob_form 3 st o
    rule_says f RLang h = lang_form 6 st o
    rule_says f RSourceFile h = up_to (kind "STRING") name o (λ _. inr (omega arith, h))
    rule_says f RLine h = up_to (kind "INT") (show st.line) o (λ l. inl (omega (arith, line_size st.line l)))
    rule_says f RFileLine h = file_line_says h
    rule_says f RWhite h = goes_on st o
    rule_says f RNewline h = goes_line st o
    rule_says f RCharLit h = char_says
    rule_says f RCharLitB h = char_says
    rule_says f RBacktick h = short_up_to (kind "BACKTICK") [] o (omega arith)
    rule_says f (RKwOp x) h = kw_op_says x h
    rule_says f RSemiSemi h = short_up_to (kind "SEMICOLON_OP") [] o (omega arith)
    rule_says f RIdent h = ident_says
    rule_says f RConstructor h = word_says constructors "NAME" refl
    rule_says f RInt h = number_says (kind "INT")
    rule_says f RUInt8 h = uint8_says
    rule_says f (RNumber k) h = number_says (kind k)
    rule_says f RReal h = part_up_to (kind "REAL") i (e - 1) (omega arith) (omega arith)
    rule_says f RBadNumber h = error 5 (lexeme s i e) stay (walk_ahead o.walk) (omega (arith, part_within s i e)) (λ q. absurd (omega arith))
    rule_says f RCommentStart h = opened o (comment_piece s i (open_comment (advance st e) (cur_pos s st)) (omega (arith, o.past)) refl)
    rule_says f RInFStar h = goes_on st o
    rule_says f RLineComment h =
        line_comment_form (lexeme s i e) st e (walk_ahead o.walk) (onward_walk o (star_walks (λ c. not (is_newline_char c)) s e)) (part_size s i e)
    rule_says f RString h = string_form s f st o
    rule_says f RBacktickIdent h = part_up_to (kind "IDENT") (i + 2) (e - 2) (omega arith) (omega arith)
    rule_says f RPipeLeft h = short_up_to (kind "PIPE_LEFT") [] o (omega arith)
    rule_says f RPipeRight h = short_up_to (kind "PIPE_RIGHT") [] o (omega arith)
    rule_says f RDotDot h = short_up_to (kind "DOT_DOT") [] o (omega arith)
    rule_says f (ROpToken k text) h = short_up_to (kind k) (cps text) o (omega (arith, h))
    rule_says f RLt h = short_up_to (kind "OPINFIX0c") (cps "<") o (omega arith)
    rule_says f RGt h = gt_says h
    rule_says f (ROp k) h = op_says k
    rule_says f RUOperator h = word_says uoperators "OPINFIX4" refl
    rule_says f (RMixfix k) h = part_up_to (kind k) i e (omega arith) (omega arith)
    rule_says f RAny h = error 6 [] stay ahead_here (omega arith) (λ _. h)
