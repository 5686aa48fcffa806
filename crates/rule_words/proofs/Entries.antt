-- A lexeme that is found in a table gives the token of the table's entry. Rests on the laws of look-ups.
use Rattle.std.specs.Prelude.{Option, Some, None}
use Prim.Native.Nat.{ℕ, suc, ◌+◌, ◌-◌, ◌≤◌, ◌<◌}
use Prim.Native.String.{String}
use native.Mathlib.Nat.{le_of_lt}
use native.Mathlib.Omega.{arith}
use mathlib.Core.Path.{◌≡◌, refl, sym, ap, subst, ◌∙◌}
use mathlib.Core.Bool.{Bool, true, false}
use mathlib.Core.List.{List, [], ◌∷◌, ◌++◌, map}
use lib.ListN.{length, get_or, take, drop, length-map, get_or-append, get_or-map}
use lib.Seq.{get_or-append-add}
use Rattle.definition.specs.Basics.{Bytes, same}
use Rattle.definition.specs.Utf8.{encode, encode_all}
use Rattle.definition.specs.Text.{lexeme}
use Rattle.definition.specs.Kinds.{kind}
use Rattle.definition.specs.Tables.{Entry, cps, keywords, constructors, uoperators, op_tokens, mixfix_rules, entry, no_entry}
use Rattle.definition.specs.Token.{finish, finish_entry, finish_word, ident, starts_with, reserved_prefix}
use Rattle.definition.specs.declared.State.{State}
use Rattle.lemmas.proofs.Cases.{by_test}
use Rattle.table_words.specs.Words.{spelled}
use Rattle.table_keywords.specs.Places.{place}
use Rattle.table_keywords.proofs.Finds.{entry_at, found}
use Rattle.table_entries.specs.Entries.{entries, texts}
use Rattle.table_entries.proofs.TextLaws.{short_at}
use Rattle.reader.specs.Described.{Sized, Describes}
use Rattle.reader.specs.declared.Cursor.{Cursor}
use Rattle.reader.specs.declared.Payload.TheVariants.{Part, Text}
use Rattle.reader.proofs.Describing.{part_describes}
use Rattle.reader.specs.declared.actions.Action.{Action}
use Rattle.reader.specs.declared.actions.Action.TheVariants.{Token, Error}
use Rattle.reader.specs.Actions.{Chose, Rules}
use Rattle.rule_words.specs.Worded.{worded, Placed}
use Rattle.reader.proofs.Parts.{part_is}
use Rattle.reader.proofs.Spanning.{nothing_describes, nothing_sized, part_sized, spans}
use Rattle.reader.proofs.ActionLaws.{token_rules, error_rules, rules_same}

-- ---- texts of the tables

-- no text is long
text_short : (k : ℕ) → length (get_or texts k []) ≤ 7
unfolding texts entries keywords constructors uoperators op_tokens mixfix_rules cps encode_all encode
text_short k = short_at texts refl k

pub text_sized : {name : Bytes} {k : ℕ} → k < 181 → Sized name (Text k)
text_sized {name} {k} h = record { listed = h; small = omega (arith, text_short k) }

-- a text is described by its number
pub text_describes : {s name f : Bytes} {k : ℕ} → k < 181 → Describes s name f (Text k) (get_or texts k [])
text_describes h = record { is = refl; long = refl; inside = h }

-- a text but the last is that of its entry
pub entry_text : (k : ℕ) → k < 180 → get_or texts k [] ≡ cps (entry entries k).text
unfolding texts entries keywords constructors uoperators op_tokens mixfix_rules cps encode_all
entry_text k h =
    get_or-append (map (λ (e : Entry). cps e.text) entries) (cps "<" ∷ []) [] k h
    ∙ get_or-map (λ (e : Entry). cps e.text) entries k no_entry

-- ---- tables among the entries

-- the entries are those before a table, the table's, and the others; n are before it
pub record Stored (n : ℕ) (table : List Entry) : Type 0 where
  pub front : List Entry
  pub back : List Entry
  pub all : entries ≡ front ++ (table ++ back)
  pub begins : length front ≡ n

pub stored_entry : {n : ℕ} {table : List Entry} → Stored n table → (j : ℕ) → j < length table → entry entries (n + j) ≡ entry table j
stored_entry {n} {table} h j l =
    ap (λ (es : List Entry). entry es (n + j)) h.all
    ∙ ap (λ (m : ℕ). entry (h.front ++ (table ++ h.back)) (m + j)) (sym h.begins)
    ∙ get_or-append-add h.front (table ++ h.back) j no_entry
    ∙ get_or-append table h.back no_entry j l

-- the five tables
pub keywords_stored : Stored 0 keywords
unfolding entries
keywords_stored = record { front = []; back = constructors ++ (uoperators ++ (op_tokens ++ mixfix_rules)); all = refl; begins = refl }

pub constructors_stored : Stored 86 constructors
unfolding entries keywords
constructors_stored = record { front = keywords; back = uoperators ++ (op_tokens ++ mixfix_rules); all = refl; begins = refl }

pub uoperators_stored : Stored 89 uoperators
unfolding entries keywords constructors
uoperators_stored = record { front = keywords ++ constructors; back = op_tokens ++ mixfix_rules; all = refl; begins = refl }

pub op_tokens_stored : Stored 119 op_tokens
unfolding entries keywords constructors uoperators
op_tokens_stored = record { front = keywords ++ (constructors ++ uoperators); back = mixfix_rules; all = refl; begins = refl }

pub mixfix_stored : Stored 172 mixfix_rules
unfolding entries keywords constructors uoperators op_tokens mixfix_rules
mixfix_stored = record { front = keywords ++ (constructors ++ (uoperators ++ op_tokens)); back = []; all = refl; begins = refl }

-- ---- look-ups

-- a place is one of the table's
pub record Inside (n m : ℕ) (w : ℕ) : Type 0 where
  pub from : n ≤ w
  pub to : w < n + m

abbrev Between : ℕ → ℕ → Option ℕ → Type 0
Between n m (Some w) = Inside n m w
Between n m None = Unit {0}

place_between : (n : ℕ) (id : Bytes) (ws : List Bytes) → Between n (length ws) (place n id ws)
unfolding place
place_between n id [] = tt
place_between n id (w ∷ ws) =
    by_test (Between n (suc (length ws))) (same w id) (λ _. record { from = omega arith; to = omega arith }) (λ _. wider (place (suc n) id ws) (place_between (suc n) id ws))
  where
    wider : (x : Option ℕ) → Between (suc n) (length ws) x → Between n (suc (length ws)) x
    wider (Some v) h = record { from = omega (arith, h.from); to = omega (arith, h.to) }
    wider None h = tt

-- so it is one of the words
pub placed : {word : Option ℕ} (n : ℕ) (id : Bytes) (table : List Entry) → n + length (spelled table) ≤ 119 → word ≡ place n id (spelled table) → Placed word
placed {word} n id table l q = subst Placed (sym q) (go (place n id (spelled table)) (place_between n id (spelled table)))
  where
    go : (x : Option ℕ) → Between n (length (spelled table)) x → Placed x
    go (Some w) h = omega (arith, h.to)
    go None h = tt

module _ (s : Bytes) (st : State) (e : ℕ) where
  -- what the definition makes of an entry that was found, or of none
  table_turn : (n : ℕ) (table : List Entry) (x : String) → Stored n table → n + length table ≤ 180
      → finish_word s st e table x ≡ worded s st e (place n (lexeme s st.offset e) (spelled table)) (kind x)
  table_turn n table x h l =
      rw (finish_word, found n (lexeme s st.offset e) table) (go (place n (lexeme s st.offset e) (spelled table)) (place_between n (lexeme s st.offset e) (spelled table)))
    where
      go : (w : Option ℕ) → Between n (length (spelled table)) w
          → elim (entry_at n table w) [ Some y ↦ finish_entry s st e y | None ↦ finish s st e (kind x) (lexeme s st.offset e) ] ≡ worded s st e w (kind x)
      go (Some w) b =
          let m : length (spelled table) ≡ length table = length-map table (λ (y : Entry). cps y.word) in
          let q : n + (w - n) ≡ w = omega (arith, b.from) in
          let p : entry entries w ≡ entry table (w - n) =
          ap (λ (k : ℕ). entry entries k) (sym q) ∙ stored_entry h (w - n) (omega (arith, b.from, b.to)) in
          rw (entry_text w (omega (arith, b.to)), p)
      go None b = refl

-- whether the prefix is reserved
reserved_test : (s : Bytes) (i e : ℕ) {t : Bool} → i ≤ e → t ≡ starts_with (take (e - i) (drop i s)) reserved_prefix → starts_with (lexeme s i e) reserved_prefix ≡ t
reserved_test s i e o q = sym (q ∙ ap (λ (id : Bytes). starts_with id reserved_prefix) (part_is i e s o))

module _ {s : Bytes} {at : Cursor} {e : ℕ} (h : Chose s at e) where
  abbrev st : State
  st = at.st

  module _ (name : Bytes) where
    -- an action on the word that a table has for the lexeme stands for what the definition gives
    pub table_rules : {r : Action} (word : Option ℕ) (k n : ℕ) (table : List Entry) (x : String) → Stored n table → n + length table ≤ 180
        → word ≡ place n (take (e - st.offset) (drop st.offset s)) (spelled table) → k ≡ kind x
        → Rules s name at e (worded s st e word k) r → Rules s name at e (finish_word s st e table x) r
    table_rules word k n table x stored l q p d =
        let id = lexeme s st.offset e in
        let found_at : word ≡ place n id (spelled table) = q ∙ ap (λ (id : Bytes). place n id (spelled table)) (part_is st.offset e s (le_of_lt h.onward.past)) in
        rules_same
        (table_turn s st e n table x stored l ∙ ap (λ (m : ℕ). worded s st e (place n id (spelled table)) m) (sym p) ∙ ap (λ (w : Option ℕ). worded s st e w k) (sym found_at)) d

    -- a word of the tables, or none
    pub word_rules : (word : Option ℕ) (k given kd : ℕ) → k < 119 → word ≡ Some k → kd ≡ kind (entry entries k).kind
        → Rules s name at e (worded s st e word given) (Token kd st.offset e (Text k))
    word_rules word k given kd l q p =
        rw q (token_rules (get_or texts k []) (λ f. text_describes (omega arith)) (spans h (text_sized (omega arith))) (rw p refl))

    pub lexeme_rules : (word : Option ℕ) (kd : ℕ) → word ≡ None → Rules s name at e (worded s st e word kd) (Token kd st.offset e (Part st.offset e))
    lexeme_rules word kd q =
        rw q
        (token_rules (lexeme s st.offset e) (λ f. part_describes s name f st.offset e h.onward.within) (spans h (part_sized h h.onward.within)) refl)

    -- identifiers
    module _ (t : Bool) (q : t ≡ starts_with (take (e - st.offset) (drop st.offset s)) reserved_prefix) where
      pub reserved_rules : t ≡ true → Rules s name at e (ident s st e) (Error 3 (Part 0 0))
      reserved_rules y =
          error_rules [] (λ f. nothing_describes s name f) nothing_sized (rw (ident, reserved_test s st.offset e (le_of_lt h.onward.past) q ∙ y) refl)

      pub ident_rules : {r : Action} → t ≡ false → Rules s name at e (finish_word s st e keywords "IDENT") r → Rules s name at e (ident s st e) r
      ident_rules y d = rules_same (rw (ident, reserved_test s st.offset e (le_of_lt h.onward.past) q ∙ y) refl) d
