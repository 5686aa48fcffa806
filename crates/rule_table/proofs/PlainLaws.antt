-- What the tokens hold that their places and words decide. Rests on the laws of descriptions and of entries.
use Prim.Native.Nat.{ℕ, ◌+◌, ◌≤◌, ◌<◌}
use native.Mathlib.Omega.{arith}
use mathlib.Core.Path.{◌≡◌, refl, sym, ap, subst, ◌∙◌}
use mathlib.Core.List.{[], ◌++◌}
use lib.ListN.{length, get_or, length-append}
use Rattle.definition.specs.Basics.{Bytes}
use Rattle.definition.specs.Utf8.{encode, encode_all}
use Rattle.definition.specs.Text.{lexeme}
use Rattle.definition.specs.Tables.{Entry, cps, keywords, constructors, uoperators, op_tokens, mixfix_rules, entry}
use Rattle.definition.specs.Numbers.{show}
use Rattle.definition.specs.Token.{finish}
use Rattle.definition.specs.declared.Choice.{Choice}
use Rattle.table_entries.specs.Entries.{entries, texts}
use Rattle.laws_run.proofs.Moving.{stands_within}
use Rattle.laws_run.proofs.Sizes.{line_size}
use Rattle.reader.specs.declared.Cursor.{Cursor}
use Rattle.reader.specs.declared.Payload.{Payload}
use Rattle.reader.specs.declared.Payload.TheVariants.{Part, Text, Name, Line, FileLine}
use Rattle.reader.proofs.Describing.{part_describes}
use Rattle.reader.specs.Actions.{Chose, Rules}
use Rattle.reader.specs.declared.actions.Action.TheVariants.{Token}
use Rattle.reader.proofs.Spanning.{part_sized, nothing_describes, nothing_sized, spans}
use Rattle.reader.proofs.ActionLaws.{token_rules}
use Rattle.rule_words.proofs.Entries.{text_sized, text_describes, entry_text, stored_entry, op_tokens_stored, mixfix_stored}
use Rattle.rule_table.specs.Keys.{Missing}
use Rattle.rule_table.specs.Plain.{kind_of, table_kinds, plain_kind, plain_texts, plain_text, Gives}
use Rattle.rule_table.specs.Tabled.{table_size, Tabled}
use Rattle.rule_table.proofs.Keys.{missing}

-- ---- words

module _ {c : Choice} (h : Tabled c) where
  word_in : (k : ℕ) → c.place ≡ k → c.word < table_size k
  word_in k q = subst (λ (n : ℕ). c.word < table_size n) q h.word

  pub early_word : c.place ≡ 1 → c.word < 15
  unfolding table_size
  early_word q = word_in 1 q

  pub token_word : c.place ≡ 36 → c.word < 53
  unfolding table_size
  token_word q = word_in 36 q

  pub mixfix_word : c.place ≡ 50 → c.word < 8
  unfolding table_size
  mixfix_word q = word_in 50 q

-- ---- kinds

-- the kind of a place with a table, and of one without
pub kind_at_key : {n : ℕ} (k w key : ℕ) → k ≡ key → n ≡ plain_kind key w → n ≡ plain_kind k w
kind_at_key k w key q e = e ∙ ap (λ (m : ℕ). plain_kind m w) (sym q)

pub kind_without : {n : ℕ} (k w : ℕ) → Missing (table_kinds w) k → n ≡ kind_of k → n ≡ plain_kind k w
kind_without k w m e = e ∙ sym (missing k (table_kinds w) (kind_of k) m)

-- ---- entries

-- an operator token, and a mixfix word
pub token_entry : (w : ℕ) → w < 53 → entry entries (119 + w) ≡ entry op_tokens w
unfolding op_tokens
token_entry w h = stored_entry op_tokens_stored w h

pub mixfix_entry : (w : ℕ) → w < 8 → entry entries (172 + w) ≡ entry mixfix_rules w
unfolding mixfix_rules
mixfix_entry w h = stored_entry mixfix_stored w h

-- the last text
last_text : get_or texts 180 [] ≡ cps "<"
unfolding texts entries keywords constructors uoperators op_tokens mixfix_rules
last_text = refl

-- lines have at most seven digits
line_short : {s : Bytes} {at : Cursor} {e : ℕ} → Chose s at e → length (show at.st.line) ≤ 7
line_short {s} {at} h = line_size at.st.line (omega (arith, h.standing.stands.sound.line, stands_within h.standing.stands, h.standing.stands.short))

module _ {s : Bytes} (name : Bytes) {at : Cursor} {e : ℕ} (h : Chose s at e) (named : length name ≤ 4096) where
  -- the name, the line, and both
  pub name_gives : Gives s name Name name
  name_gives = record { sized = record { listed = tt; small = omega arith }; describes = λ f. record { is = refl; long = refl; inside = tt } }

  pub line_gives : Gives s name (Line at.st.line) (show at.st.line)
  line_gives = record { sized = record { listed = tt; small = omega (arith, line_short h) }; describes = λ f. record { is = refl; long = refl; inside = tt } }

  pub file_line_gives : Gives s name (FileLine at.st.line) (name ++ (cps "(" ++ (show at.st.line ++ cps ")")))
  unfolding cps encode_all encode
  file_line_gives = record {
    sized = record { listed = tt; small = omega (arith, line_short h) };
    describes = λ f. record {
      is = refl;
      long = omega (
        arith,
        length-append name (cps "(" ++ (show at.st.line ++ cps ")")),
        length-append (cps "(") (show at.st.line ++ cps ")"),
        length-append (show at.st.line) (cps ")"),
      );
      inside = tt;
    };
  }

  pub part_gives : {j : ℕ} (i m : ℕ) → j ≡ m → m ≤ e → Gives s name (Part i j) (lexeme s i m)
  part_gives i m q l =
      let w : m ≤ length s = omega (arith, h.onward.within) in
      rw q (record { sized = part_sized h w; describes = λ f. part_describes s name f i m w })

  -- a text of the tables
  pub token_gives : (w : ℕ) → w < 53 → Gives s name (Text (119 + w)) (cps (entry op_tokens w).text)
  token_gives w l =
      let q : get_or texts (119 + w) [] ≡ cps (entry op_tokens w).text = entry_text (119 + w) (omega arith) ∙ ap (λ (x : Entry). cps x.text) (token_entry w l) in
      subst (Gives s name (Text (119 + w))) q (record { sized = text_sized (omega arith); describes = λ f. text_describes (omega arith) })

  pub less_gives : Gives s name (Text 180) (cps "<")
  less_gives = subst (Gives s name (Text 180)) last_text (record { sized = text_sized (omega arith); describes = λ f. text_describes (omega arith) })

  -- what is given at a place is given there
  pub given_at : {p : Payload} (k w key : ℕ) → k ≡ key → Gives s name p (plain_text s name at.st key e w) → Gives s name p (plain_text s name at.st k e w)
  given_at {p} k w key q g = subst (λ (n : ℕ). Gives s name p (plain_text s name at.st n e w)) (sym q) g

  -- nothing at the others
  pub nothing_gives : (k w : ℕ) → Missing (plain_texts s name at.st e w) k → Gives s name (Part 0 0) (plain_text s name at.st k e w)
  nothing_gives k w m =
      subst (Gives s name (Part 0 0)) (sym (missing k (plain_texts s name at.st e w) [] m))
      (record { sized = nothing_sized; describes = λ f. nothing_describes s name f })

-- ---- the token

pub plain_rules : {s name : Bytes} {at : Cursor} {e : ℕ} {p : Payload} {k kd : ℕ} {bytes : Bytes} → Chose s at e → k ≡ kd → Gives s name p bytes
    → Rules s name at e (finish s at.st e kd bytes) (Token k at.st.offset e p)
plain_rules {s} {name} {at} {e} {p} {k} {kd} {bytes} h q g = token_rules bytes g.describes (spans h g.sized) (rw q refl)
