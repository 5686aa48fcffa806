-- What `select` chooses at each ASCII character: a line for each group of characters, and the places that may begin with them. Rests on the
-- law of first characters; which places may begin with a character, and which tests it passes, is computed.
use Prim.Native.Nat.{ℕ}
use mathlib.Core.Path.{◌≡◌, refl, ◌∙◌}
use mathlib.Core.List.{[], ◌∷◌}
use lib.Dec.{eqb}
use Rattle.definition.specs.Basics.{Bytes, ch, codes, mem_cp}
use Rattle.definition.specs.Chars.{count_up, ascii_table, in_table, is_digit, is_op_char, is_lower, is_ident_start, is_constructor_start, is_anywhite, is_newline_char, is_uoperator}
use Rattle.definition.specs.Tables.{early_literals, kw_op_rules, op_tokens, mixfix_rules}
use Rattle.definition.specs.Matchers.{plus, match_newline}
use Rattle.definition.specs.Select.{found, places, try_all, select}
use Rattle.definition.specs.Patterns.{patterns}
use Rattle.laws_longest.proofs.Places.{white_fast, line_fast}
use Rattle.select_places.specs.Groups.{
  at_capital,
  at_letter,
  at_early_letter,
  at_keyword_letter,
  at_token_letter,
  at_underscore,
  at_quote,
  at_backtick,
  at_double_quote,
  at_operator,
  at_token,
  at_token_operator,
  at_hash,
  at_percent,
  at_semicolon,
  at_paren,
  at_slash,
  at_less,
  at_bar,
  at_point,
  at_star,
  at_digit,
}
use Rattle.select.proofs.First.{begins, among, white_path, line_path}
use Rattle.select.proofs.Standing.{Stands, tried, has, has_not, operator, name, capital_name}

-- Which group decides at which characters.
pub record Groups (s f : Bytes) (i : ℕ) : Type 0 where
  pub white : Stands (9 ∷ 11 ∷ 12 ∷ 32 ∷ []) s i → select s f i ≡ found i 7 0 (plus (is_anywhite f) s i)
  pub line_end : Stands (10 ∷ 13 ∷ []) s i → select s f i ≡ found i 8 0 (match_newline s i)
  pub capital : Stands (codes "ABCDEFGHIJKLMNOPQRSTUVWXYZ") s i → select s f i ≡ at_capital s f i
  pub letter : Stands (codes "bcdghjknopqtvwxyz") s i → select s f i ≡ at_letter s f i
  pub early_letter : Stands (codes "s") s i → select s f i ≡ at_early_letter s f i
  pub keyword_letter : Stands (codes "aefilm") s i → select s f i ≡ at_keyword_letter s f i
  pub token_letter : Stands (codes "ru") s i → select s f i ≡ at_token_letter s f i
  pub underscore : Stands (codes "_") s i → select s f i ≡ at_underscore s f i
  pub quote : Stands (codes "'") s i → select s f i ≡ at_quote s f i
  pub backtick : Stands (codes "`") s i → select s f i ≡ at_backtick s f i
  pub double_quote : Stands (codes "\"") s i → select s f i ≡ at_double_quote i
  pub hash : Stands (codes "#") s i → select s f i ≡ at_hash s f i
  pub percent : Stands (codes "%") s i → select s f i ≡ at_percent s i
  pub semicolon : Stands (codes ";") s i → select s f i ≡ at_semicolon s i
  pub paren : Stands (codes "(") s i → select s f i ≡ at_paren s i
  pub slash : Stands (codes "/") s i → select s f i ≡ at_slash s i
  pub less : Stands (codes "<") s i → select s f i ≡ at_less s i
  pub bar : Stands (codes "|") s i → select s f i ≡ at_bar s i
  pub point : Stands (codes ".") s i → select s f i ≡ at_point s i
  pub star : Stands (codes "*") s i → select s f i ≡ at_star s i
  pub greater : Stands (codes ">") s i → select s f i ≡ at_operator s i 38
  pub power : Stands (codes "@^") s i → select s f i ≡ at_operator s i 46
  pub sum : Stands (codes "+") s i → select s f i ≡ at_operator s i 47
  pub prefix : Stands (codes "!?~") s i → select s f i ≡ at_token_operator s i 41
  pub ampersand : Stands (codes "&") s i → select s f i ≡ at_token_operator s i 43
  pub equals : Stands (codes "=") s i → select s f i ≡ at_token_operator s i 44
  pub dollar : Stands (codes "$") s i → select s f i ≡ at_token_operator s i 45
  pub minus : Stands (codes "-") s i → select s f i ≡ at_token_operator s i 47
  pub bracket : Stands (codes "),:[\\]{}") s i → select s f i ≡ at_token s i
  pub digit : Stands (codes "0123456789") s i → select s f i ≡ at_digit s f i

-- Each group holds the places that may begin with its characters, without the tests that these pass.
pub groups : (s f : Bytes) (i : ℕ) → Groups s f i
unfolding among places try_all begins patterns early_literals kw_op_rules op_tokens mixfix_rules mem_cp count_up ascii_table in_table is_digit is_op_char is_lower is_ident_start is_constructor_start is_anywhite is_newline_char is_uoperator
groups s f i =
    record {
      white = λ h. white_path s f i (has h white_fast refl);
      line_end = λ h. line_path s f i (has_not h white_fast refl) (has h line_fast refl);
      capital = λ h. tried h f (15 ∷ []) refl ∙ rw (capital_name h f refl);
      letter = λ h. tried h f (14 ∷ []) refl ∙ rw (name h f refl);
      early_letter = λ h. tried h f (1 ∷ 14 ∷ []) refl ∙ rw (name h f refl);
      keyword_letter = λ h. tried h f (12 ∷ 14 ∷ []) refl ∙ rw (name h f refl);
      token_letter = λ h. tried h f (14 ∷ 36 ∷ []) refl ∙ rw (name h f refl);
      underscore = λ h. tried h f (4 ∷ 5 ∷ 6 ∷ 14 ∷ []) refl ∙ rw (has h (λ c. eqb c (ch "_")) refl, name h f refl);
      quote = λ h. tried h f (9 ∷ 10 ∷ 14 ∷ []) refl ∙ rw (has h (λ c. eqb c (ch "'")) refl, name h f refl);
      backtick = λ h. tried h f (1 ∷ 2 ∷ 11 ∷ 32 ∷ []) refl ∙ rw (has h (λ c. eqb c (ch "`")) refl);
      double_quote = λ h. tried h f (31 ∷ []) refl ∙ rw (has h (λ c. eqb c (ch "\"")) refl);
      hash = λ h. tried h f (1 ∷ 3 ∷ 36 ∷ []) refl ∙ rw (has h (λ c. eqb c (ch "#")) refl);
      percent = λ h. tried h f (1 ∷ 36 ∷ 48 ∷ []) refl ∙ rw (has h is_op_char refl, operator h "*/%" refl);
      semicolon = λ h. tried h f (12 ∷ 13 ∷ 36 ∷ []) refl ∙ rw (has h (λ c. eqb c (ch ";")) refl);
      paren = λ h. tried h f (28 ∷ 36 ∷ []) refl ∙ rw (has h (λ c. eqb c (ch "(")) refl);
      slash = λ h. tried h f (29 ∷ 30 ∷ 36 ∷ 48 ∷ []) refl ∙ rw (has h (λ c. eqb c (ch "/")) refl, has h is_op_char refl, operator h "*/%" refl);
      less = λ h. tried h f (33 ∷ 36 ∷ 37 ∷ 44 ∷ []) refl ∙ rw (has h (λ c. eqb c (ch "<")) refl, has h is_op_char refl, operator h "=<" refl);
      bar = λ h. tried h f (34 ∷ 36 ∷ 40 ∷ 42 ∷ []) refl ∙ rw (has h (λ c. eqb c (ch "|")) refl, has h is_op_char refl, operator h "|" refl);
      point = λ h. tried h f (35 ∷ 36 ∷ 50 ∷ []) refl ∙ rw (has h (λ c. eqb c (ch ".")) refl);
      star = λ h. tried h f (39 ∷ 48 ∷ []) refl ∙ rw (has h is_op_char refl, operator h "*/%" refl);
      greater = λ h. tried h f (38 ∷ []) refl ∙ rw (has h is_op_char refl, has h (λ c. eqb c (ch ">")) refl);
      power = λ h. tried h f (46 ∷ []) refl ∙ rw (has h is_op_char refl, operator h "@^" refl);
      sum = λ h. tried h f (47 ∷ []) refl ∙ rw (has h is_op_char refl, operator h "+-" refl);
      prefix = λ h. tried h f (36 ∷ 41 ∷ []) refl ∙ rw (has h is_op_char refl, operator h "!~?" refl);
      ampersand = λ h. tried h f (36 ∷ 43 ∷ []) refl ∙ rw (has h is_op_char refl, operator h "&" refl);
      equals = λ h. tried h f (36 ∷ 44 ∷ []) refl ∙ rw (has h is_op_char refl, operator h "=<" refl);
      dollar = λ h. tried h f (36 ∷ 45 ∷ []) refl ∙ rw (has h is_op_char refl, operator h "$" refl);
      minus = λ h. tried h f (36 ∷ 47 ∷ []) refl ∙ rw (has h is_op_char refl, operator h "+-" refl);
      bracket = λ h. tried h f (36 ∷ []) refl;
      digit = λ h. tried h f (16 ∷ 17 ∷ 18 ∷ 19 ∷ 20 ∷ 21 ∷ 22 ∷ 23 ∷ 24 ∷ 25 ∷ 26 ∷ 27 ∷ []) refl ∙ rw (has h is_digit refl);
    }
