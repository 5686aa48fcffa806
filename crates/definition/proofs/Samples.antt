-- The samples are words of their patterns' languages. Rests on the laws of derivatives, which stand here: what is accepted by them is in
-- the language, and what is in the language is accepted.
use Prim.Native.Nat.{ℕ}
use Prim.Native.String.{String}
use mathlib.Core.Path.{◌≡◌, refl, sym, ap, subst, ◌∙◌}
use mathlib.Core.Bool.{Bool, true, false, ◌&&◌, ◌||◌, false≢true}
use mathlib.Core.List.{List, [], ◌∷◌, ◌++◌}
use mathlib.Core.Logic.{◌⊎◌, inl, inr, ⊎_elim}
use Rattle.definition.specs.Basics.{Bytes, codes, mem_cp}
use Rattle.definition.specs.Chars.{
  is_digit,
  is_hex,
  is_lower,
  is_ident_start,
  is_constructor_start,
  is_ident_char,
  is_anywhite,
  is_newline_char,
  is_op_char,
  is_symbolchar,
  in_table,
  ascii_table,
  count_up,
}
use Rattle.definition.specs.Tables.{early_literals, kw_op_rules, op_tokens, mixfix_rules}
use Rattle.definition.specs.Regex.{Re, eps, chr, seq, alt, many, never, Many, none, more, In}
use Rattle.definition.specs.Patterns.{patterns, pattern}
use Rattle.definition.specs.Samples.{nullable, if_so, after_char, accepts, samples, Sampled, all_accepted}
use Rattle.definition.proofs.Computed.{both}

-- one of two tests passes
one_of_two : (a b : Bool) → a || b ≡ true → (a ≡ true) ⊎ (b ≡ true)
one_of_two true b e = inl refl
one_of_two false b e = inr e

-- nothing is in the language of nothing
never_in : {X : Type 0} {w : List ℕ} → In never w → X
never_in h = absurd (false≢true h.2)

-- what is nullable has the empty text
null_in : (r : Re) → nullable r ≡ true → In r []
null_in eps e = refl
null_in (chr p) e = absurd (false≢true e)
null_in (seq r q) e =
    let p = both (nullable r) (nullable q) e in
    ([], [], refl, null_in r p.0, null_in q p.1)
null_in (alt r q) e = ⊎_elim (λ t. inl (null_in r t)) (λ t. inr (null_in q t)) (one_of_two (nullable r) (nullable q) e)
null_in (many r) e = none refl

-- a test that passes leaves what it guards
so_in : {X : Type 0} (w : List ℕ) (t : Bool) (r : Re) → In (if_so t r) w → (t ≡ true → In r w → X) → X
so_in w true r h k = k refl h
so_in w false r h k = never_in h

-- what may follow a character follows it
char_in : (a : ℕ) (r : Re) (w : List ℕ) → In (after_char a r) w → In r (a ∷ w)
char_in a eps w h = never_in h
char_in a (chr p) w h = so_in w (p a) eps h (λ e k. (a, ap (λ (v : List ℕ). a ∷ v) k, e))
char_in a (seq r q) w h =
    ⊎_elim
    (λ k. (a ∷ k.0, k.1, ap (λ (v : List ℕ). a ∷ v) k.2, char_in a r k.0 k.3, k.4))
    (λ k. so_in w (nullable r) (after_char a q) k (λ e j. ([], a ∷ w, refl, null_in r e, char_in a q w j))) h
char_in a (alt r q) w h = ⊎_elim (λ k. inl (char_in a r w k)) (λ k. inr (char_in a q w k)) h
char_in a (many r) w h = more (a ∷ h.0) h.1 (ap (λ (v : List ℕ). a ∷ v) h.2) (char_in a r h.0 h.3) h.4

-- What is accepted is in the language.
pub accepted_in : (r : Re) (w : List ℕ) → accepts r w ≡ true → In r w
accepted_in r [] e = null_in r e
accepted_in r (a ∷ w) e = char_in a r w (accepted_in (after_char a r) w e)

-- ---- the other way

-- a list with a first element isn't empty
no_first : {X : Type 0} {a : ℕ} {w : List ℕ} → a ∷ w ≡ [] → X
no_first e = let h : false ≡ true = cc in absurd (false≢true h)

-- one of two tests that passes lets both together pass
left_passes : (a b : Bool) → a ≡ true → a || b ≡ true
left_passes true b e = refl
left_passes false b e = absurd (false≢true e)

right_passes : (a b : Bool) → b ≡ true → a || b ≡ true
right_passes true b e = refl
right_passes false b e = e

both_pass : (a b : Bool) → a ≡ true → b ≡ true → a && b ≡ true
both_pass true b e g = g
both_pass false b e g = absurd (false≢true e)

-- what has the empty text is nullable
in_null : (r : Re) → In r [] → nullable r ≡ true
in_null eps h = refl
in_null (chr p) h = no_first (sym h.1)
in_null (seq r q) ([], [], e, h, k) = both_pass (nullable r) (nullable q) (in_null r h) (in_null q k)
in_null (seq r q) ([], b ∷ v, e, h, k) = no_first (sym e)
in_null (seq r q) (a ∷ u, v, e, h, k) = no_first (sym e)
in_null (alt r q) (inl h) = left_passes (nullable r) (nullable q) (in_null r h)
in_null (alt r q) (inr h) = right_passes (nullable r) (nullable q) (in_null q h)
in_null (many r) h = refl

-- what a test that passes guards is left
in_so : (w : List ℕ) (t : Bool) (r : Re) → t ≡ true → In r w → In (if_so t r) w
in_so w true r e h = h
in_so w false r e h = absurd (false≢true e)

-- words one after the other that have a first character have a first word with it
first_word : (P : List ℕ → Type 0) (a : ℕ) (w x : List ℕ) → x ≡ a ∷ w → Many P x
    → (u : List ℕ) × (v : List ℕ) × (w ≡ u ++ v) × P (a ∷ u) × Many P v
first_word P a w x q (none e) = no_first (sym q ∙ e)
first_word P a w x q (more [] v e h k) = first_word P a w v (sym e ∙ q) k
first_word P a w x q (more (b ∷ u) v e h k) =
    let begins : a ∷ w ≡ b ∷ (u ++ v) = sym q ∙ e in
    let head : b ≡ a = cc in
    let others : w ≡ u ++ v = cc in
    (u, v, others, subst (λ c. P (c ∷ u)) head h, k)

-- what follows a character may follow it
in_char : (a : ℕ) (r : Re) (w : List ℕ) → In r (a ∷ w) → In (after_char a r) w
in_char a eps w h = no_first h
in_char a (chr p) w (b, e, h) =
    let head : a ≡ b = cc in
    let alone : w ≡ [] = cc in
    in_so w (p a) eps (ap p head ∙ h) alone
in_char a (seq r q) w ([], v, e, h, k) = inr (in_so w (nullable r) (after_char a q) (in_null r h) (in_char a q w (subst (In q) (sym e) k)))
in_char a (seq r q) w (b ∷ u, v, e, h, k) =
    let head : a ≡ b = cc in
    let others : w ≡ u ++ v = cc in
    inl (u, v, others, in_char a r u (subst (λ c. In r (c ∷ u)) (sym head) h), k)
in_char a (alt r q) w (inl h) = inl (in_char a r w h)
in_char a (alt r q) w (inr h) = inr (in_char a q w h)
in_char a (many r) w h =
    let m = first_word (In r) a w (a ∷ w) refl h in
    (m.0, m.1, m.2, in_char a r m.0 m.3, m.4)

-- What is in the language is accepted.
pub in_accepted : (r : Re) (w : List ℕ) → In r w → accepts r w ≡ true
in_accepted r [] h = in_null r h
in_accepted r (a ∷ w) h = in_accepted (after_char a r) w (in_char a r w h)

-- ---- the samples

all_in : (f : Bytes) (xs : List (ℕ × String)) → all_accepted f xs ≡ true → Sampled f xs
all_in f [] e = tt
all_in f (x ∷ xs) e =
    let p = both (accepts (pattern f x.0) (codes x.1)) (all_accepted f xs) e in
    (accepted_in (pattern f x.0) (codes x.1) p.0, all_in f xs p.1)

-- Each sample is a word of its place's pattern, whatever the class file.
pub samples_hold : (f : Bytes) → Sampled f samples
unfolding
    pattern patterns early_literals kw_op_rules op_tokens mixfix_rules mem_cp is_digit is_hex is_lower is_ident_start is_constructor_start
    is_ident_char is_anywhite is_newline_char is_op_char is_symbolchar in_table ascii_table count_up
samples_hold f = all_in f samples refl
