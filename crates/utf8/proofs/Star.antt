-- `star` turn by turn, with no fuel to see, and what it is of the characters. Rests on `definition`, `lemmas` and the laws of runs.
use Prim.Native.Nat.{ℕ, ◌+◌, ◌-◌, ◌≤◌, ◌<◌}
use mathlib.Core.Path.{◌≡◌, refl, sym, ap, ◌∙◌}
use mathlib.Core.Bool.{Bool, true, false}
use mathlib.Core.List.{List, [], ◌∷◌, ◌++◌, append_assoc}
use native.Mathlib.Nat.{add-zero}
use native.Mathlib.Omega.{arith}
use lib.ListN.{length, drop, length-append}
use Rattle.definition.specs.Basics.{Bytes, Turn, again, done, loop, fuel}
use Rattle.definition.specs.Utf8.{encode, encode_all, Scalars, sequence_at}
use Rattle.definition.specs.Text.{with_char, star_turn, star}
use Rattle.definition.specs.declared.Sequence.{Sequence}
use Rattle.definition.specs.declared.Sequence.TheVariants.{Char, Bad, End}
use Rattle.lemmas.proofs.Cases.{by_outcome, by_test}
use Rattle.lemmas.proofs.Loops.{says, Leads, Falls, Any, loop_same, loop_unroll}
use Rattle.utf8.specs.Chars.{Pass, Run, chars_from, take_while}
use Rattle.utf8.proofs.Reading.{NoChar, with_none}
use Rattle.utf8.proofs.Character.{char_read, char_within, read_at}
use Rattle.utf8.proofs.Runs.{by_chars, chars_on, chars_none, drop_next}

module _ (f : ℕ → Bool) (s : Bytes) where
  -- A turn of `star` that calls again has less of the text before it.
  pub star_falls : Falls (star_turn f s) Any (λ i. length s - i) Any
  star_falls = record { at = λ i _. go i (sequence_at s i) refl }
    where
      go : (i : ℕ) (q : Sequence) → sequence_at s i ≡ q
          → Leads (λ j. Any j × (length s - j < length s - i)) Any (with_char q i (λ c j. elim (f c) [ true ↦ again j | false ↦ done i ]) (done i))
      go i (Char c w) q = by_test (Leads (λ j. Any j × (length s - j < length s - i)) Any) (f c) (λ _. let a = char_within (char_read q) in (tt, omega arith)) (λ _. tt)
      go i Bad q = tt
      go i End q = tt

  -- More fuel and another answer past it change nothing.
  pub star_enough : (out : ℕ → ℕ) (n i : ℕ) → length s - i < n → loop (star_turn f s) out n i ≡ star f s i
  unfolding star
  star_enough out n i h = loop_same star_falls out (λ j. j) n (fuel s) i tt h (omega arith)

  -- `star` is what its first turn says.
  pub star_unroll : (i : ℕ) → star f s i ≡ says (star_turn f s i) (star f s)
  unfolding star
  star_unroll i = loop_unroll star_falls (λ j. j) (fuel s) i tt (omega arith)

  -- A character that passes is passed over.
  pub star_on : (i c w : ℕ) → sequence_at s i ≡ Char c w → f c ≡ true → star f s i ≡ star f s (i + w)
  star_on i c w e t = star_unroll i ∙ simp (e, t)

  -- At one that doesn't pass the run ends.
  pub star_stop : (i c w : ℕ) → sequence_at s i ≡ Char c w → f c ≡ false → star f s i ≡ i
  star_stop i c w e t = star_unroll i ∙ simp (e, t)

  -- Where no character stands it ends too.
  pub star_none : (i : ℕ) → NoChar (sequence_at s i) → star f s i ≡ i
  star_none i h = star_unroll i ∙ ap (λ (t : Turn ℕ ℕ). says t (star f s)) (with_none (sequence_at s i) i _ (done i) h)

  -- What holds of each offset where a run ends there, and of a character that passes from what follows it, holds of each offset and the
  -- end of its run.
  pub by_star : (P : ℕ → ℕ → Type 0)
      → ((i : ℕ) → NoChar (sequence_at s i) → P i i)
      → ((i c w : ℕ) → sequence_at s i ≡ Char c w → f c ≡ false → P i i)
      → ((i c w e : ℕ) → sequence_at s i ≡ Char c w → f c ≡ true → P (i + w) e → P i e)
      → (i : ℕ) → P i (star f s i)
  by_star P none stop on = by_chars s (λ i. P i (star f s i)) (λ i h. rw (star_none i h) (none i h)) turn
    where
      turn : (i c w : ℕ) → sequence_at s i ≡ Char c w → P (i + w) (star f s (i + w)) → P i (star f s i)
      turn i c w e ih =
          by_outcome (f c)
          (λ t. rw (star_on i c w e t) (on i c w (star f s (i + w)) e t ih))
          (λ t. rw (star_stop i c w e t) (stop i c w e t))

  -- The run ends no sooner than it starts.
  pub star_from : (i : ℕ) → i ≤ star f s i
  star_from = by_star (λ i e. i ≤ e) (λ i h. omega arith) (λ i c w q t. omega arith) (λ i c w e q t ih. omega arith)

  -- It ends within the text, where it starts within.
  pub star_within : (i : ℕ) → i ≤ length s → star f s i ≤ length s
  star_within =
      by_star (λ i e. i ≤ length s → e ≤ length s) (λ i h k. k) (λ i c w q t k. k)
      (λ i c w e q t ih k. ih (char_within (char_read q)).1)

  -- No character that passes stands where it ends.
  pub star_ends : (i c w : ℕ) → sequence_at s (star f s i) ≡ Char c w → f c ≡ false
  star_ends i c w =
      by_star (λ i e. sequence_at s e ≡ Char c w → f c ≡ false)
      (λ i h q. absurd (none i h q))
      (λ i d v e t q. passed i d v e t q)
      (λ i d v e q t ih. ih)
      i
    where
      none : (i : ℕ) → NoChar (sequence_at s i) → sequence_at s i ≡ Char c w → ⊥
      none i h q = rw q at h

      passed : (i d v : ℕ) → sequence_at s i ≡ Char d v → f d ≡ false → sequence_at s i ≡ Char c w → f c ≡ false
      passed i d v e t q = let same : c ≡ d = cc in rw same t

  -- ---- the longest prefix of the characters

  -- What passes is kept.
  kept : (c : ℕ) (cs : List ℕ) → f c ≡ true → take_while f (c ∷ cs) ≡ c ∷ take_while f cs
  unfolding take_while
  kept c cs t = rw (t, take_while)

  -- From what doesn't pass on nothing is.
  cut : (c : ℕ) (cs : List ℕ) → f c ≡ false → take_while f (c ∷ cs) ≡ []
  unfolding take_while
  cut c cs t = rw (t, take_while)

  -- The run's bytes are those of the longest prefix of the characters that passes.
  pub star_is : (i : ℕ) → star f s i ≡ i + length (encode_all (take_while f (chars_from s i)))
  unfolding encode_all take_while
  star_is = by_star (λ i e. e ≡ i + length (encode_all (take_while f (chars_from s i)))) none stop on
    where
      size : (i : ℕ) (cs : List ℕ) → take_while f (chars_from s i) ≡ cs → length (encode_all (take_while f (chars_from s i))) ≡ length (encode_all cs)
      size i cs q = ap (λ (l : List ℕ). length (encode_all l)) q

      none : (i : ℕ) → NoChar (sequence_at s i) → i ≡ i + length (encode_all (take_while f (chars_from s i)))
      none i h = omega (arith, size i [] (ap (take_while f) (chars_none s i h)))

      stop : (i c w : ℕ) → sequence_at s i ≡ Char c w → f c ≡ false → i ≡ i + length (encode_all (take_while f (chars_from s i)))
      stop i c w e t = omega (arith, size i [] (ap (take_while f) (chars_on s i c w e) ∙ cut c (chars_from s (i + w)) t))

      on : (i c w e : ℕ) → sequence_at s i ≡ Char c w → f c ≡ true → e ≡ i + w + length (encode_all (take_while f (chars_from s (i + w))))
          → e ≡ i + length (encode_all (take_while f (chars_from s i)))
      on i c w e q t ih =
          let rest = take_while f (chars_from s (i + w)) in
          let n = size i (c ∷ rest) (ap (take_while f) (chars_on s i c w q) ∙ kept c (chars_from s (i + w)) t) in
          omega (arith, n, length-append (encode c) (encode_all rest), (char_read q).width)

  -- ---- the greatest end of a run

  -- Characters that pass stand from i to the end of the run.
  pub star_run : (i : ℕ) → Run f s i (star f s i)
  unfolding encode_all
  star_run = by_star (Run f s) (λ i h. empty i) (λ i c w q t. empty i) on
    where
      empty : (i : ℕ) → Run f s i i
      empty i = record { run = []; scalars = tt; pass = tt; bytes = refl; ends = sym (add-zero i) }

      on : (i c w e : ℕ) → sequence_at s i ≡ Char c w → f c ≡ true → Run f s (i + w) e → Run f s i e
      on i c w e q t r =
          let a = char_read q in
          record {
            run = c ∷ r.run;
            scalars = (a.scalar, r.scalars);
            pass = (t, r.pass);
            bytes = a.bytes ∙ ap (λ (l : Bytes). encode c ++ l) r.bytes ∙ sym (append_assoc (encode c) (encode_all r.run) (drop e s));
            ends = omega (arith, r.ends, a.width, length-append (encode c) (encode_all r.run));
          }

  -- Characters that pass stand no further than to its end.
  reach : (cs : List ℕ) (i : ℕ) (rest : Bytes) → Scalars cs → Pass f cs → drop i s ≡ encode_all cs ++ rest → i + length (encode_all cs) ≤ star f s i
  unfolding encode_all
  reach [] i rest sc p e = omega (arith, star_from i)
  reach (c ∷ cs) i rest sc p e =
      let q : drop i s ≡ encode c ++ (encode_all cs ++ rest) = e ∙ append_assoc (encode c) (encode_all cs) rest in
      let w = length (encode c) in
      let ih = reach cs (i + w) rest sc.1 p.1 (drop_next s i c (encode_all cs ++ rest) q) in
      omega (arith, ih, star_on i c w (read_at s i c (encode_all cs ++ rest) sc.0 q) p.0, length-append (encode c) (encode_all cs))

  -- So its end is the greatest to which such characters stand.
  pub star_greatest : {i e : ℕ} → Run f s i e → e ≤ star f s i
  star_greatest {i} {e} r = omega (arith, r.ends, reach r.run i (drop e s) r.scalars r.pass r.bytes)
