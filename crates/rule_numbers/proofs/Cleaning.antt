-- Cleaned numbers, and actions on numbers. Rests on the laws of parts.
use Prim.Native.Nat.{ℕ, ◌+◌, ◌-◌, ◌≤◌}
use Prim.Native.String.{String}
use native.Mathlib.Omega.{arith}
use mathlib.Core.Path.{◌≡◌, refl, sym, ap, subst, ◌∙◌}
use mathlib.Core.Bool.{Bool, true, false}
use mathlib.Core.List.{[]}
use lib.Dec.{ltb}
use lib.ListN.{length, take, drop, length-take, length-drop}
use Rattle.definition.specs.Basics.{Bytes}
use Rattle.definition.specs.Text.{lexeme}
use Rattle.definition.specs.Kinds.{kind}
use Rattle.definition.specs.Numbers.{clean_number, int_of_string}
use Rattle.definition.specs.Token.{number, uint8, bad_number}
use Rattle.definition.specs.declared.State.{State}
use Rattle.number_value.specs.CleaningContracts.{Cleaned}
use Rattle.number_value.specs.declared.cleaning.Part.{Part as Span}
use Rattle.reader.specs.Described.{Describes}
use Rattle.reader.specs.declared.Cursor.{Cursor}
use Rattle.reader.specs.declared.Payload.TheVariants.{Part}
use Rattle.reader.proofs.Describing.{part_describes}
use Rattle.reader.specs.declared.actions.Action.TheVariants.{Token, Error}
use Rattle.reader.specs.Actions.{Chose, Spans, Rules}
use Rattle.rule_numbers.specs.Cleaned.{CleanedAt}
use Rattle.reader.proofs.Parts.{part_is, part_of_part}
use Rattle.reader.proofs.Spanning.{nothing_describes, nothing_sized, part_sized, spans}
use Rattle.reader.proofs.ActionLaws.{token_rules, error_rules}

-- the part that is left of a lexeme is a part of the text
pub cleaned_at : {s : Bytes} {i e : ℕ} {p : Span} → i ≤ e → e ≤ length s → Cleaned (take (e - i) (drop i s)) p
    → CleanedAt s i e (record { from = i + p.from; to = i + p.to })
cleaned_at {s} {i} {e} {p} h l c =
    let w : p.to ≤ e - i = omega (arith, length-take (e - i) (drop i s), length-drop i s, c.within) in
    record {
      ordered = omega (arith, c.ordered);
      within = omega arith;
      is = sym (part_of_part i e p.from p.to s h w) ∙ c.is ∙ ap clean_number (part_is i e s h);
    }

-- it is described by where it stands
cleaned_describes : (s name f : Bytes) (i e : ℕ) (p : Span) → CleanedAt s i e p → e ≤ length s → Describes s name f (Part p.from p.to) (clean_number (lexeme s i e))
cleaned_describes s name f i e p c l =
    subst (Describes s name f (Part p.from p.to)) c.is
    (part_describes s name f p.from p.to (omega (arith, c.within)))

-- whether it is above 255
big_test : {s : Bytes} {i e : ℕ} {p : Span} {t : Bool} → CleanedAt s i e p → t ≡ ltb 255 (int_of_string (take (p.to - p.from) (drop p.from s)))
    → ltb 255 (int_of_string (clean_number (lexeme s i e))) ≡ t
big_test {s} {i} {e} {p} c q = sym (q ∙ ap (λ (n : Bytes). ltb 255 (int_of_string n)) (part_is p.from p.to s c.ordered ∙ c.is))

module _ {s : Bytes} {at : Cursor} {e : ℕ} (h : Chose s at e) where
  abbrev st : State
  st = at.st

  module _ (name : Bytes) where
    module _ (p : Span) (c : CleanedAt s st.offset e p) where
      described : (f : Bytes) → Describes s name f (Part p.from p.to) (clean_number (lexeme s st.offset e))
      described f = cleaned_describes s name f st.offset e p c h.onward.within

      fitting : Spans s name at st.offset e (Part p.from p.to)
      fitting = spans h (part_sized h (omega (arith, c.within, h.onward.within)))

      -- a number
      pub number_rules : (k : ℕ) (x : String) → k ≡ kind x → Rules s name at e (number s st e x) (Token k st.offset e (Part p.from p.to))
      number_rules k x q = token_rules (clean_number (lexeme s st.offset e)) described fitting (rw q refl)

      -- one of a byte
      module _ (t : Bool) (q : t ≡ ltb 255 (int_of_string (take (p.to - p.from) (drop p.from s)))) where
        pub big_rules : t ≡ true → Rules s name at e (uint8 s st e) (Error 4 (Part 0 0))
        big_rules y = error_rules [] (λ f. nothing_describes s name f) nothing_sized (rw (uint8, big_test c q ∙ y) refl)

        pub uint8_rules : t ≡ false → Rules s name at e (uint8 s st e) (Token (kind "UINT8") st.offset e (Part p.from p.to))
        uint8_rules y = token_rules (clean_number (lexeme s st.offset e)) described fitting (rw (uint8, big_test c q ∙ y) refl)

    -- error 5 has the whole lexeme
    pub bad_rules : Rules s name at e (bad_number s st e) (Error 5 (Part st.offset e))
    bad_rules =
        error_rules (lexeme s st.offset e) (λ f. part_describes s name f st.offset e h.onward.within) (part_sized h h.onward.within) refl
