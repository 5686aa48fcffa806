-- The patterns of `select`'s 50 places as plain regular expressions, from the source's comments and names. f is the class file.
-- No matcher stands in them: that the matchers find their longest parts is what is to be proved.
use Rattle.std.specs.Prelude.{ℕ, not, ◌&&◌, List, [], ◌∷◌, map, eqb, get_or}
use Prim.Native.String.{String}
use Rattle.definition.specs.Basics.{Bytes, ch, codes, mem_cp, between}
use Rattle.definition.specs.Chars.{
  is_digit,
  is_hex,
  is_op_char,
  is_symbolchar,
  is_ident_start,
  is_constructor_start,
  is_ident_char,
  is_anywhite,
  is_newline_char,
  is_uoperator,
}
use Rattle.definition.specs.Tables.{words_of, early_literals, kw_op_words, op_tokens, mixfix_rules}
use Rattle.definition.specs.Regex.{Re, chr, seq, alt, many, never, at_least_one, opt, word, any_word}

-- ---- parts of patterns

-- a word as it is written; one of the characters of a string
abbrev pub text : String → Re
text s = word (codes s)

abbrev pub one_of : String → Re
one_of s = chr (λ c. mem_cp c (codes s))

-- "a table within a pattern stands for any one of its words"
abbrev pub one_word : List String → Re
one_word xs = any_word (map codes xs)

abbrev pub nl : Re
nl = alt (text "\r\n") (chr is_newline_char)

abbrev pub identifier : Bytes → Re
identifier f = seq (chr is_ident_start) (many (chr (is_ident_char f)))

abbrev pub constructor : Bytes → Re
constructor f = seq (chr (is_constructor_start f)) (many (chr (is_ident_char f)))

-- escape_char = '\\', (Chars "\\\"'bfntrv0" | "x", hex, hex | "u", hex, hex, hex, hex)
abbrev pub escape_char : Re
escape_char =
    let hex = chr is_hex in
    seq (text "\\")
    (alt (one_of "\\\"'bfntrv0") (alt (seq (text "x") (seq hex hex)) (seq (text "u") (seq hex (seq hex (seq hex hex))))))

-- char = Compl '\\' | escape_char
abbrev pub any_char : Re
any_char = alt (chr (λ c. not (eqb c (ch "\\")))) escape_char

abbrev pub integer : Re
integer = at_least_one (chr is_digit)

abbrev pub xinteger : Re
xinteger =
    seq (text "0")
    (alt (seq (one_of "xX") (at_least_one (chr is_hex)))
    (alt (seq (one_of "oO") (at_least_one (chr (between (ch "0") (ch "7")))))
    (seq (one_of "bB") (at_least_one (one_of "01")))))

abbrev pub any_integer : Re
any_integer = alt integer xinteger

abbrev pub suffixed : String → Re
suffixed s = seq any_integer (text s)

abbrev pub usuffixed : String → Re
usuffixed s = seq any_integer (seq (one_of "uU") (text s))

-- floatp = Plus digit, '.', Star digit
abbrev pub floatp : Re
floatp = seq integer (seq (text ".") (many (chr is_digit)))

-- floate = Plus digit, Opt ('.', Star digit), Chars "eE", Opt (Chars "+-"), Plus digit
abbrev pub floate : Re
floate = seq integer (seq (opt (seq (text ".") (many (chr is_digit)))) (seq (one_of "eE") (seq (opt (one_of "+-")) integer)))

abbrev pub ieee64 : Re
ieee64 = alt floatp floate

abbrev pub xieee64 : Re
xieee64 = seq xinteger (text "LF")

-- Compl ('`' | nl)
abbrev pub backtick_free : Re
backtick_free = chr (λ c. not (eqb c (ch "`")) && not (is_newline_char c))

abbrev pub symbols : Re
symbols = many (chr is_symbolchar)

-- ---- the 50 patterns, in place order

unfoldable pub patterns : Bytes → List Re
patterns f =
    one_word (words_of early_literals)  -- 1 REarly
    ∷ seq (text "```") (identifier f)  -- 2 RTripleBacktick
    ∷ seq (text "#lang-") (identifier f)  -- 3 RLang
    ∷ text "__SOURCE_FILE__"  -- 4 RSourceFile
    ∷ text "__LINE__"  -- 5 RLine
    ∷ text "__FILELINE__"  -- 6 RFileLine
    ∷ at_least_one (chr (is_anywhite f))  -- 7 RWhite
    ∷ nl  -- 8 RNewline
    ∷ seq (text "'") (seq any_char (text "'"))  -- 9 RCharLit
    ∷ seq (text "'") (seq any_char (text "'B"))  -- 10 RCharLitB
    ∷ text "`"  -- 11 RBacktick
    ∷ seq (one_word kw_op_words) (at_least_one (chr is_op_char))  -- 12 RKwOp
    ∷ text ";;"  -- 13 RSemiSemi
    ∷ identifier f  -- 14 RIdent
    ∷ constructor f  -- 15 RConstructor
    ∷ any_integer  -- 16 RInt
    ∷ alt (usuffixed "y") (suffixed "z")  -- 17 RUInt8
    ∷ suffixed "y"  -- 18 RNumber INT8
    ∷ usuffixed "s"  -- 19 RNumber UINT16
    ∷ suffixed "s"  -- 20 RNumber INT16
    ∷ usuffixed "l"  -- 21 RNumber UINT32
    ∷ suffixed "l"  -- 22 RNumber INT32
    ∷ usuffixed "L"  -- 23 RNumber UINT64
    ∷ suffixed "L"  -- 24 RNumber INT64
    ∷ suffixed "sz"  -- 25 RNumber SIZET
    ∷ seq floatp (text "R")  -- 26 RReal
    ∷ seq (alt integer (alt xinteger (alt ieee64 xieee64))) (at_least_one (chr (is_ident_char f)))  -- 27 RBadNumber
    ∷ text "(*"  -- 28 RCommentStart
    ∷ text "// IN F*:"  -- 29 RInFStar
    ∷ text "//"  -- 30 RLineComment
    ∷ text "\""  -- 31 RString
    ∷ seq (text "``") (seq (at_least_one (alt backtick_free (seq (text "`") backtick_free))) (text "``"))  -- 32 RBacktickIdent
    ∷ text "<|"  -- 33 RPipeLeft
    ∷ text "|>"  -- 34 RPipeRight
    ∷ text ".."  -- 35 RDotDot
    ∷ one_word (words_of op_tokens)  -- 36 ROpToken
    ∷ text "<"  -- 37 RLt
    ∷ seq (text ">") symbols  -- 38 RGt
    ∷ seq (text "**") symbols  -- 39 ROp OPINFIX3R
    ∷ seq (text "|->") symbols  -- 40 ROp OPINFIX4
    ∷ seq (one_of "!~?") symbols  -- 41 ROp OPPREFIX
    ∷ seq (one_of "|") symbols  -- 42 ROp OPINFIX0a
    ∷ seq (one_of "&") symbols  -- 43 ROp OPINFIX0b
    ∷ seq (one_of "=<") symbols  -- 44 ROp OPINFIX0c
    ∷ seq (one_of "$") symbols  -- 45 ROp OPINFIX0d
    ∷ seq (one_of "@^") symbols  -- 46 ROp OPINFIX1
    ∷ seq (one_of "+-") symbols  -- 47 ROp OPINFIX2
    ∷ seq (one_of "*/%") symbols  -- 48 ROp OPINFIX3L
    ∷ chr (is_uoperator f)  -- 49 RUOperator
    ∷ one_word (words_of mixfix_rules)  -- 50 RMixfix
    ∷ []

-- the pattern of place k; a number that is no place has one that permits nothing
unfoldable pub pattern : Bytes → ℕ → Re
pattern f k = get_or (never ∷ patterns f) k never
