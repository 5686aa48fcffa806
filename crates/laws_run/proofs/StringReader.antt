-- Strings: one walk over a turn of `string_lit`, in which the state goes on by a path. From it that its fuel never runs out, and which form
-- its item has. Rests on paths and forms, and on the ends of matchers and runs (crate `laws_progress`).
use Rattle.std.specs.Prelude.{Option, Some, None}
use Prim.Native.Nat.{ℕ, ◌+◌, ◌-◌, ◌*◌, ◌≤◌, ◌<◌}
use mathlib.Core.Path.{◌≡◌, refl, ap, subst, ◌∙◌}
use mathlib.Core.Bool.{Bool, true, false, not, ◌&&◌, ◌||◌}
use mathlib.Core.List.{[], ◌++◌}
use mathlib.Core.Logic.{inl}
use native.Mathlib.Omega.{arith}
use lib.Dec.{eqb}
use lib.ListN.{length, length-append}
use Rattle.definition.specs.Basics.{Bytes, Turn, loop, fuel, ch}
use Rattle.definition.specs.Utf8.{encode, sequence_at}
use Rattle.definition.specs.Text.{with_char, char_has, byte_is, lexeme, run_end}
use Rattle.definition.specs.Chars.{is_newline_char, is_anywhite}
use Rattle.definition.specs.Kinds.{kind}
use Rattle.definition.specs.Position.{cur_pos}
use Rattle.definition.specs.Matchers.{only, one, match_newline, match_escape}
use Rattle.definition.specs.Escapes.{unescape, is_surrogate, is_high_half, is_low_half, joined}
use Rattle.definition.specs.State.{advance, new_line}
use Rattle.definition.specs.Item.{Step, tok, error_here}
use Rattle.definition.specs.Strings.{string_stop, match_low_half, escape_turn, string_turn, string_lit}
use Rattle.definition.specs.declared.Pos.{Pos}
use Rattle.definition.specs.declared.State.{State}
use Rattle.definition.specs.declared.Extra.TheVariants.{NoExtra}
use Rattle.definition.specs.declared.Sequence.TheVariants.{Char}
use Rattle.lemmas.proofs.Loops.{says, Leads, leads_map, Falls, Any, loop_keeps, loop_same, loop_unroll}
use Rattle.lemmas.proofs.Cases.{by_test, by_lt, by_le, by_match, either}
use Rattle.utf8.proofs.Character.{encode_size}
use Rattle.laws_progress.proofs.Characters.{char_at}
use Rattle.state.specs.Sound.{Stands}
use Rattle.laws_progress.proofs.Walks.{rest, Onward, onward_walk, walk_past, char_onward, star_walks, Clean, clean_walk, clean_char, Passes}
use Rattle.laws_progress.proofs.Ends.{Ends, ends_only}
use Rattle.laws_progress.proofs.Matches.{small_is, after_walk, byte_is_onward, newline_ends, escape_ends}
use Rattle.laws_progress.proofs.Scans.{star_onward}
use Rattle.laws_run.specs.Going.{string_from}
use Rattle.laws_run.proofs.Moving.{walk_stands, ended_stands}
use Rattle.laws_run.proofs.Sizes.{part_size}
use Rattle.laws_run.proofs.Paths.{ahead_here, walk_ahead, Path, stay, on, path_path, path_reads, Goes, goes_on, goes_line, goes_stands}
use Rattle.laws_run.proofs.Forms.{Form, token, error, nothing}

module _ (s : Bytes) where
  -- a character that passes a test is found
  one_found : (p : ℕ → Bool) (i c w : ℕ) → sequence_at s i ≡ Char c w → p c ≡ true → one p s i ≡ Some (i + w)
  unfolding one
  one_found p i c w q t =
      ap (λ r. with_char r i (λ c j. elim (p c) as (λ _. Option ℕ) [ true ↦ Some j | false ↦ None ]) None) q
      ∙ ap (λ b. elim b as (λ _. Option ℕ) [ true ↦ Some (i + w) | false ↦ None ]) t

  -- where a newline stands, one is found
  newline_found : (i c w : ℕ) → sequence_at s i ≡ Char c w → is_newline_char c ≡ true → match_newline s i ≡ None → ⊥
  unfolding match_newline
  newline_found i c w q n =
      by_test (λ m. m ≡ None → ⊥) (char_has (λ c. eqb c (ch "\r")) s i && byte_is (ch "\n") s (i + 1))
      (λ _ e. let z : ◌≡◌ {A = ℕ} 0 1 = cc in omega arith)
      (λ _ e. let o = one_found is_newline_char i c w q n in let z : ◌≡◌ {A = ℕ} 0 1 = cc in omega arith)

  -- a byte at which a string neither goes on nor ends is a character: it can only be a backslash
  lone_clean : (i : ℕ) → run_end string_stop s i ≤ i → match_newline s i ≡ None → i < length s → Clean s i → Clean s (i + 1)
  unfolding string_stop
  lone_clean i h n k c = go (string_stop x) refl
    where
      p : Passes (λ c. true) s i
      p = clean_char c k

      x : ℕ
      x = p.code

      -- a character of ASCII is one byte
      ascii : x < 0x80 → Clean s (i + 1)
      ascii small = subst (λ w. Clean s (i + w)) ((char_at p.read).ascii small) (clean_walk (char_onward p.read).walk c)

      go : (t : Bool) → string_stop x ≡ t → Clean s (i + 1)
      go false e = absurd (omega (arith, (star_onward (λ y. not (string_stop y)) s i x p.width p.read (ap not e)).past))
      go true e =
          either (eqb x (ch "\\")) (eqb x (ch "\"") || is_newline_char x) (λ t. ascii (small_is (ch "\\") (omega arith) x t))
          (either (eqb x (ch "\"")) (is_newline_char x) (λ t. ascii (small_is (ch "\"") (omega arith) x t))
          (λ t. absurd (newline_found i x p.width p.read t n))) e

  module _ (f : Bytes) (from : ℕ) (sp : Pos) where
    -- a string that is read as far as acc ends at st: with its quote, or in an error
    pub data StringEnd (st : State) (acc : Bytes) : Step → Type 0 where
      quote : Onward s st.offset (st.offset + 1)
          → StringEnd st acc (tok (kind "STRING") acc from sp (cur_pos s (advance st (st.offset + 1))) NoExtra (advance st (st.offset + 1)))
      fails : (n : ℕ) → (n ≡ 6 → ⊥) → StringEnd st acc (error_here s st n)

    -- a turn goes on from a to b, with four bytes more for each byte that is read
    pub record Grows (a b : State × Bytes) : Type 0 where
      pub goes : Goes s (Any a.0) a.0 b.0
      pub more : length b.1 ≤ length a.1 + 4 * (b.0.offset - a.0.offset)

    -- with a part of the text
    grows_by_part : (st b : State) (acc : Bytes) → Goes s (Any st) st b → Grows (st, acc) (b, acc ++ lexeme s st.offset b.offset)
    grows_by_part st b acc g =
        let i = st.offset in
        record { goes = g; more = omega (arith, length-append acc (lexeme s i b.offset), part_size s i b.offset) }

    -- a turn of `string_lit`
    pub string_leads : (a : State × Bytes) → Leads (Grows a) (StringEnd a.0 a.1) (string_turn s f from sp a)
    unfolding match_low_half escape_turn
    string_leads a =
        by_lt L i j (λ h. grows_by_part st (advance st j) acc (goes_on st (walk_past (star_walks _ s i) h))) λ run.
        by_match L (only (byte_is (ch "\\") s i) (match_newline s (i + 1)))
        (λ nl q. record { goes = goes_line st (onward_walk (broken.at q) (star_walks (is_anywhite f) s nl)); more = omega arith }) λ _.
        by_match L (match_newline s i) (λ nl q. grows_by_part st (new_line (advance st nl)) acc (goes_line st ((newline_ends s i).at q))) λ no_newline.
        by_match L (match_escape s i) (λ e q. escape_leads e ((escape_ends s i).at q)) λ _.
        by_test L (byte_is (ch "\"") s i) (λ t. quote (byte_is_onward s (ch "\"") i (omega arith) t)) λ _.
        by_le L (length s) i (λ _. fails 1 (λ n. absurd (omega arith))) λ h.
        grows_by_part st (advance st (i + 1)) acc record {
          path = on (i + 1) stay record { forward = omega arith; within = λ _. omega arith; clean = lone_clean i run no_newline h };
          moves = λ _. omega arith;
        }
      where
        L : Turn (State × Bytes) Step → Type 0
        L = Leads (Grows a) (StringEnd a.0 a.1)

        st : State
        st = a.0

        acc : Bytes
        acc = a.1

        i : ℕ
        i = st.offset

        j : ℕ
        j = run_end string_stop s i

        -- a backslash and a newline
        broken : Ends (Onward s i) (only (byte_is (ch "\\") s i) (match_newline s (i + 1)))
        broken = ends_only (byte_is (ch "\\") s i) (λ t. after_walk s (byte_is_onward s (ch "\\") i (omega arith) t).walk (newline_ends s (i + 1)))

        -- a character is at most 4 bytes
        escaped : (c e : ℕ) → Onward s i e → Grows a (advance st e, acc ++ encode c)
        escaped c e o = record { goes = goes_on st o; more = omega (arith, length-append acc (encode c), (encode_size c).1, o.past) }

        -- the escape of a low half, after what ends at e
        low_half : (e : ℕ) → Onward s i e → Ends (Onward s i) (match_low_half s e)
        low_half e o = ends_only (is_low_half (unescape s e)) (λ _. after_walk s o.walk (escape_ends s e))

        -- an escape, or a pair of them
        escape_leads : (e : ℕ) → Onward s i e → L (escape_turn s st acc e)
        escape_leads e o =
            let c = unescape s i in
            by_test L (is_surrogate c)
            (λ _. by_match L (only (is_high_half c) (match_low_half s e))
            (λ pair_end q. escaped (joined c (unescape s e)) pair_end ((ends_only (is_high_half c) (λ _. low_half e o)).at q))
            (λ _. fails 7 (λ n. absurd (omega arith))))
            (λ _. escaped c e o)

    -- each turn reads something
    pub string_falls : Falls (string_turn s f from sp) (λ a. Any a.0) (λ a. rest s a.0.offset) Any
    string_falls = record { at = λ a _. leads_map (λ b g. (tt, g.goes.moves tt)) (λ t _. tt) (string_turn s f from sp a) (string_leads a) }

    -- from a sound state between comments a turn comes to one
    pub string_turn_stands : (a : State × Bytes) → Stands s a.0 → a.0.mode ≡ 0
        → Leads (λ b. Stands s b.0 × (b.0.mode ≡ 0)) (λ t. Stands s t.next) (string_turn s f from sp a)
    string_turn_stands a h m = leads_map (λ b g. let k = goes_stands g.goes h in (k.0, k.1 ∙ m)) end (string_turn s f from sp a) (string_leads a)
      where
        end : (t : Step) → StringEnd a.0 a.1 t → Stands s t.next
        end t (quote o) = walk_stands h o.walk
        end t (fails n u) = ended_stands h m

    -- more fuel and another `out` change nothing
    pub string_enough : (out : State × Bytes → Step) (n : ℕ) (a : State × Bytes) → rest s a.0.offset < n → loop (string_turn s f from sp) out n a ≡ string_from s f from sp a
    unfolding string_from
    string_enough out n a h = loop_same string_falls out _ n (fuel s) a tt h (omega arith)

    -- the loop is what its first turn says
    pub string_unroll : (a : State × Bytes) → string_from s f from sp a ≡ says (string_turn s f from sp a) (string_from s f from sp)
    unfolding string_from
    string_unroll a = loop_unroll string_falls _ (fuel s) a tt (omega arith)

    -- what `string_lit` is, by its loop
    pub string_is : (st : State) → string_lit s f st from sp ≡ string_from s f from sp (st, [])
    unfolding string_lit string_from
    string_is st = refl

  -- a string that began at st
  module _ (f : Bytes) (st : State) where
    abbrev from : ℕ
    from = st.offset

    abbrev sp : Pos
    sp = cur_pos s st

    -- it is read as far as a
    record Literal (a : State × Bytes) : Type 0 where
      path : Path s st a.0
      past : st.offset < a.0.offset
      few : length a.1 ≤ 4 * (a.0.offset - st.offset)

    literal_on : {a b : State × Bytes} → Literal a → Grows f from sp a b → Literal b
    literal_on p g =
        let r = path_reads g.goes.path in
        record {
          path = path_path p.path g.goes.path;
          past = omega (arith, p.past, r.ahead.forward);
          few = omega (arith, p.few, g.more, p.past, r.ahead.forward);
        }

    literal_ends : {name : Bytes} {U : Type 0} {a : State × Bytes} {t : Step} → Literal a → StringEnd f from sp a.0 a.1 t → Form s name U st t
    literal_ends {a = a} p (quote o) =
        token (kind "STRING") a.1 nothing ahead_here (on (a.0.offset + 1) p.path (walk_ahead o.walk)) (omega (arith, p.past))
        (λ _. inl (omega (arith, p.few, p.past)))
    literal_ends p (fails n u) = error n [] p.path ahead_here (omega arith) (λ q. absurd (u q))

    -- A string that was opened by the part up to e.
    pub string_form : {name : Bytes} {U : Type 0} {e : ℕ} → Onward s st.offset e
        → Form s name U st (string_lit s f (advance st e) st.offset (cur_pos s st))
    unfolding string_lit
    string_form {name} {U} {e} o =
        loop_keeps (string_turn s f from sp) Literal (Form s name U st) (λ a. error_here s a.0 1)
        (λ a p. leads_map (λ b g. literal_on p g) (λ t x. literal_ends p x) (string_turn s f from sp a) (string_leads f from sp a))
        (λ a p. literal_ends p (fails 1 (λ n. absurd (omega arith)))) (fuel s) (advance st e, [])
        record { path = on e stay (walk_ahead o.walk); past = o.past; few = omega arith }
