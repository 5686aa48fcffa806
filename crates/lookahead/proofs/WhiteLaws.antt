-- At a blank and at a line end of ASCII a turn goes on after them. Rests on the laws of choices, of runs and of line ends.
use Rattle.std.specs.Prelude.{Option, Some}
use Prim.Native.Nat.{ℕ, ◌+◌, ◌<◌}
use native.Mathlib.Omega.{arith}
use mathlib.Core.Path.{◌≡◌, refl, sym, ap, subst, ◌∙◌}
use mathlib.Core.Bool.{Bool, true, false, ◌||◌}
use lib.Dec.{eqb}
use lib.ListN.{get_or}
use borrow.Author.Tests.{eqb-true}
use Rattle.definition.specs.Basics.{Bytes}
use Rattle.definition.specs.Text.{byte_has, star}
use Rattle.definition.specs.Chars.{is_anywhite}
use Rattle.definition.specs.Matchers.{◌then◌, plus, match_newline}
use Rattle.definition.specs.Select.{found, select}
use Rattle.definition.specs.declared.Choice.{Choice}
use Rattle.lemmas.proofs.Cases.{either}
use Rattle.laws_progress.proofs.Characters.{ascii_at}
use Rattle.laws_progress.proofs.Walks.{byte_passes}
use Rattle.laws_progress.proofs.Choices.{Fits, select_fits}
use Rattle.laws_longest.proofs.Places.{white_fast, line_fast, has_read}
use Rattle.star.proofs.RunLaws.{one_yes}
use Rattle.star.specs.Blanks.{is_blank}
use Rattle.star.specs.TestLaws.{small_blank, ascii_white}
use Rattle.select.proofs.First.{white_path, line_path}
use Rattle.reader.specs.Cursors.{moved, next_line}
use Rattle.reader.specs.declared.Cursor.{Cursor}
use Rattle.reader.specs.declared.ReadResult.TheVariants.{Again}
use Rattle.reader.specs.Actions.{Chose}
use Rattle.rule_table.specs.Rules.{rule_list}
use Rattle.rule_table.specs.declared.table.Rule.TheVariants.{White, Newline}
use Rattle.rules.proofs.RuleLaws.{act_turns, moved_turns, line_turns}
use Rattle.lookahead.specs.White.{Between, Passes}
use Rattle.lookahead.proofs.TurnLaws.{turn_acts}

-- ---- line ends of ASCII

-- LF and CR, which begin a line end
abbrev is_line_end : ℕ → Bool
is_line_end c = eqb c 10 || eqb c 13

-- both are characters of ASCII
small_line_end : (c : ℕ) → is_line_end c ≡ true → c < 0x80
small_line_end c = either (eqb c 10) (eqb c 13) (λ t. let e = eqb-true c 10 t in omega (arith, e)) (λ t. let e = eqb-true c 13 t in omega (arith, e))

-- no line end is a blank
line_no_blank : (c : ℕ) → is_line_end c ≡ true → is_blank c ≡ false
line_no_blank c = either (eqb c 10) (eqb c 13) (λ t. ap is_blank (eqb-true c 10 t)) (λ t. ap is_blank (eqb-true c 13 t))

-- ---- what is chosen there

module _ (s f : Bytes) (i : ℕ) where
  pub blank_selects : {e : ℕ} → byte_has is_blank s i ≡ true → e ≡ star (is_anywhite f) s (i + 1) → select s f i ≡ record { place = 7; end = e; word = 0 }
  unfolding plus
  blank_selects {e} t q =
      let b = byte_passes is_blank s i t in
      let small = small_blank (get_or s i 0) b.1 in
      let read = ascii_at s i b.0 small in
      white_path s f i (has_read white_fast s i (get_or s i 0) 1 read ∙ b.1)
      ∙ ap (λ (m : Option ℕ). found i 7 0 (m then λ j. Some (star (is_anywhite f) s j))) (one_yes (is_anywhite f) s i read (ascii_white f (get_or s i 0) small ∙ b.1))
      ∙ ap (λ (n : ℕ). found i 7 0 (Some n)) (sym q)

  pub line_selects : {e : ℕ} → byte_has is_line_end s i ≡ true → match_newline s i ≡ Some e → select s f i ≡ record { place = 8; end = e; word = 0 }
  line_selects {e} t q =
      let b = byte_passes is_line_end s i t in
      let read = ascii_at s i b.0 (small_line_end (get_or s i 0) b.1) in
      line_path s f i (has_read white_fast s i (get_or s i 0) 1 read ∙ line_no_blank (get_or s i 0) b.1) (has_read line_fast s i (get_or s i 0) 1 read ∙ b.1)
      ∙ ap (found i 8 0) q

-- ---- what is passed

module _ {s f : Bytes} {at : Cursor} (h : Between s f at) where
  -- what a place chooses ends after where the reader stands
  chose : {k e : ℕ} → select s f at.st.offset ≡ record { place = k; end = e; word = 0 } → eqb k 0 ≡ false → Chose s at e
  chose {k} {e} q z =
      let fits = subst (Fits s at.st.offset) q (select_fits s at.st.offset f) in
      record { standing = h.standing; between = h.between; onward = (fits.chosen z).onward }

  -- white space
  pub blank_chose : {e : ℕ} → byte_has is_blank s at.st.offset ≡ true → e ≡ star (is_anywhite f) s (at.st.offset + 1) → Chose s at e
  blank_chose t q = chose (blank_selects s f at.st.offset t q) refl

  pub blank_passes : {e : ℕ} {p : Cursor} → byte_has is_blank s at.st.offset ≡ true → e ≡ star (is_anywhite f) s (at.st.offset + 1) → p ≡ moved at e → Passes s f at.st (Some p)
  unfolding rule_list
  blank_passes {e} {p} t q m name =
      let c : Choice = record { place = 7; end = e; word = 0 } in
      turn_acts s name f at.st c (Again p) (byte_passes is_blank s at.st.offset t).0 (sym (blank_selects s f at.st.offset t q))
      (act_turns s name f at.st c White (Again p) (omega arith) refl (moved_turns (blank_chose t q) m))

  -- a line end
  pub line_chose : {e : ℕ} → byte_has is_line_end s at.st.offset ≡ true → match_newline s at.st.offset ≡ Some e → Chose s at e
  line_chose t q = chose (line_selects s f at.st.offset t q) refl

  pub line_passes : {e : ℕ} {p : Cursor} → byte_has is_line_end s at.st.offset ≡ true → match_newline s at.st.offset ≡ Some e → p ≡ next_line at e → Passes s f at.st (Some p)
  unfolding rule_list
  line_passes {e} {p} t q m name =
      let c : Choice = record { place = 8; end = e; word = 0 } in
      turn_acts s name f at.st c (Again p) (byte_passes is_line_end s at.st.offset t).0 (sym (line_selects s f at.st.offset t q))
      (act_turns s name f at.st c Newline (Again p) (omega arith) refl (line_turns (line_chose t q) m))
