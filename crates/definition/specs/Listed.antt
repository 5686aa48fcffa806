-- A whole text as a list of items: what the tables of cases and the test vectors compute.
use Rattle.std.specs.Prelude.{ℕ, zero, suc, ◌+◌, ◌*◌, true, false, List, [], ◌∷◌, ◌++◌, eqb, length, take, drop, get_or, replicate, if◌then◌else◌}
use Rattle.definition.specs.Basics.{Bytes}
use Rattle.definition.specs.State.{started}
use Rattle.definition.specs.Item.{record_size}
use Rattle.definition.specs.Run.{Outcome}
use Rattle.definition.specs.Basics.{loop, mem_cp, same}
use Rattle.definition.specs.Utf8.{encode, encode_all, tail_bits, two, three_bytes, three, four_bytes, four, sequence, sequence_at}
use Rattle.definition.specs.Text.{char_has, byte_has, star, after, first_bad}
use Rattle.definition.specs.ClassFile.{
  in_ranges,
  little_endian,
  class_count,
  class_offset,
  counts_before,
  class_start,
  read_ranges,
  ranges_of,
  bad_class_length,
  offsets_right,
  laid_out,
  ascending,
  ranges_right,
  class_check,
  is_lu,
  is_lt,
  is_lo,
  is_lm,
  is_zs,
  is_sm,
}
use Rattle.definition.specs.Lowercase.{ll_tbl, is_ll}
use Rattle.definition.specs.Chars.{
  is_digit,
  is_hex,
  count_up,
  ascii_table,
  in_table,
  is_op_char,
  is_symbolchar,
  is_lower,
  is_ident_start,
  is_constructor_start,
  is_ident_char,
  is_anywhite,
  is_newline_char,
  is_uoperator,
}
use Rattle.definition.specs.Position.{is_continuation, weight_at, count_chars, col_by}
use Rattle.definition.specs.Kinds.{kind_names, number_from, kind}
use Rattle.definition.specs.Tables.{cps, find, keywords, constructors, op_tokens, uoperators, early_literals, kw_op_rules, mixfix_rules}
use Rattle.definition.specs.Matchers.{
  later,
  max_list,
  one,
  match_lit,
  plus,
  match_newline,
  match_ident,
  match_constructor,
  match_escape,
  match_char,
  match_char_lit,
  match_integer,
  match_xinteger,
  any_integer_ends,
  match_int_suffix,
  match_int_usuffix,
  match_floatp,
  skip_sign,
  is_e,
  match_floate,
  match_real,
  match_bad_number,
  match_backtick_ident,
  no_comment,
}
use Rattle.definition.specs.Rules.{place_rules, chosen_rule}
use Rattle.definition.specs.Select.{keep, try_words, try_all, one_of_then_symbols, lit_then_symbols, places, select}
use Rattle.definition.specs.Numbers.{
  strips,
  strip_left,
  strip_if_last,
  strip_right,
  clean_number,
  digit_value,
  value_from,
  base_of,
  after_zero,
  int_of_string,
  show,
}
use Rattle.definition.specs.Escapes.{code_at, hex_value, unescape, is_surrogate, is_high_half, is_low_half}
use Rattle.definition.specs.Trim.{onto_first, split_lines, join_lines, empty_prefix, trim_width, maybe_trim_lines}
use Rattle.definition.specs.State.{close_comment, at_character, offsets_sound, counts_sound, depth_sound, comment_sound, sound, start}
use Rattle.definition.specs.Comment.{comment_stop, comment, line_comment}
use Rattle.definition.specs.Strings.{string_stop, match_low_half, escape_turn, string_lit}
use Rattle.definition.specs.Blob.{blob_stop, blob, use_lang}
use Rattle.definition.specs.Token.{starts_with, act, token_turn, next_token, step}
use Rattle.definition.specs.Run.{put, run_turn, run_items, text_too_long, name_too_long, refusal, run}

-- a record with word 6 set to 0
abbrev pub without_place : List ℕ → List ℕ
without_place ws = take 6 ws ++ (0 ∷ drop 7 ws)

-- how many payload bytes a record has: word 7, and for a blob word 10 besides
abbrev pub payload_length : List ℕ → ℕ
payload_length ws = get_or ws 7 0 + (if eqb (get_or ws 9 0) 2 then get_or ws 10 0 else 0)

-- n records of the buffers, each with its payload's bytes after it
unfoldable pub read_back : ℕ → List ℕ → Bytes → List (List ℕ)
read_back zero rs ps = []
read_back (suc n) rs ps =
    let ws = take record_size rs in
    (without_place ws ++ take (payload_length ws) (drop (get_or ws 6 0) ps)) ∷ read_back n (drop record_size rs) ps

-- what a run says: its items; or 0, the refusal and, for refusal 8, the offset
unfoldable pub said : Outcome → List (List ℕ)
said (answer, rs, ps) =
    elim (eqb answer.refusal 0) [
      | true ↦ read_back answer.count rs ps
      | false ↦ (0 ∷ answer.refusal ∷ (if eqb answer.refusal 8 then answer.offset ∷ [] else [])) ∷ []
    ]

-- a run over a whole text from 1:0, its name `stdin`, its buffers large enough: an item reads a byte or more, or is one of
-- the unclosed pieces that end a text, of which each has a `(*`, or is the end; and with a name so short no payload has more
-- than four bytes for each byte of its item. The line below names all that it rests on, so that a claim about it computes
unfoldable pub listed : Bytes → Bytes → List (List ℕ)
unfolding
    read_back said
    loop mem_cp same encode encode_all tail_bits two three_bytes three four_bytes four sequence sequence_at char_has byte_has star first_bad
    in_ranges little_endian class_count class_offset counts_before class_start read_ranges ranges_of bad_class_length offsets_right laid_out
    ascending ranges_right class_check is_lu is_lt is_lo is_lm is_zs is_sm ll_tbl is_ll is_digit is_hex count_up ascii_table in_table
    is_op_char is_symbolchar is_lower is_ident_start is_constructor_start is_ident_char is_anywhite is_newline_char is_uoperator
    is_continuation weight_at count_chars col_by kind_names number_from kind cps find keywords constructors op_tokens uoperators
    early_literals kw_op_rules mixfix_rules later max_list one match_lit plus match_newline match_ident match_constructor match_escape
    match_char match_char_lit match_integer match_xinteger any_integer_ends match_int_suffix match_int_usuffix match_floatp skip_sign is_e
    match_floate match_real match_bad_number match_backtick_ident no_comment keep try_words try_all one_of_then_symbols lit_then_symbols
    places select strips strip_left strip_if_last strip_right clean_number digit_value value_from base_of after_zero int_of_string show code_at
    hex_value unescape is_surrogate is_high_half is_low_half onto_first split_lines join_lines empty_prefix trim_width maybe_trim_lines
    close_comment at_character offsets_sound counts_sound depth_sound comment_sound sound start after comment_stop comment line_comment
    string_stop match_low_half escape_turn string_lit blob_stop blob use_lang place_rules chosen_rule starts_with act token_turn next_token
    step put run_turn run_items text_too_long name_too_long refusal run
listed text classes =
    said (run text (cps "stdin") classes (started 1 0) (replicate (record_size * (length text + 1)) 0) (replicate (4 * length text) 0))
