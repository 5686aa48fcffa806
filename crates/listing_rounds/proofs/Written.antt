-- What the rounds of a listing have written so far. Rests on what one round lists (RunsOn) and on what all of them list (Whole).
use Rattle.std.proofs.Common.{ℕ, ◌≡◌, List, [], ◌++◌, Option, Err, refl, sym, ap, subst, ◌∙◌, length, take, drop, append_assoc}
use Rattle.std.proofs.lemmas.List.{append-nil}
use Rattle.std.proofs.Math.Seq.{take-append_seam}
use Rattle.std.proofs.KnownBytes.{Appends-nil, Appends-trans}
use Rattle.std.specs.Io.KnownBytes.{Appends}
use Rattle.definition.specs.Basics.{Bytes}
use Rattle.lemmas.specs.Over.{Wrote, over}
use Rattle.either_run.specs.Either.{either_run, either_refusal}
use Rattle.either_run.specs.declared.Saved.{Saved}
use Rattle.listing_rounds.specs.Rounds.{Lists, Ends, listing}
use Rattle.listing_rounds.proofs.Whole.{round_lines, no_lines}
use Rattle.listing_rounds.proofs.RunsOn.{run_taken}

-- what was written to the front of a buffer
front_is : {vs before after : List ℕ} {count : ℕ} → Wrote vs before after count → take count after ≡ vs
unfolding over
front_is {vs} {before} {after} {count} w =
    ap (λ n. take n after) w.all ∙ ap (take (length vs)) w.bytes ∙ take-append_seam vs (drop (length vs) before)

-- the writer held a, and holds b: what it took and the lines from the state reached are the lines from the state begun with; a listing that
-- is refused has written nothing
pub record Written (s name f : Bytes) (from₀ from : Saved) (a b : Option (List ℕ)) : Type 0 where
  pub bytes : Bytes
  pub taken : Appends a b bytes
  pub rest : listing s name f from₀ ≡ bytes ++ listing s name f from
  pub silent : (either_refusal s name f from₀ ≡ 0 → ⊥) → bytes ≡ []

pub written_none : (s name f : Bytes) (from : Saved) (a : Option (List ℕ)) → Written s name f from from a a
written_none s name f from a = record { bytes = []; taken = Appends-nil a; rest = refl; silent = λ n. refl }

module _ {s name f : Bytes} {from₀ from : Saved} {a b : Option (List ℕ)} (w : Written s name f from₀ from a b) where
  -- a listing that ends with a refusal has written nothing
  pub written_refused : (number : ℕ) → Ends s name f from₀ (Err number) → Appends a b []
  written_refused number e = subst (Appends a b) (w.silent (λ z. e.1 (e.0 ∙ z))) w.taken

  module _ (rs : List ℕ) (ps : Bytes) {out out' : Bytes} {next : Saved} {bytes items stop : ℕ}
      (l : Lists (either_run s name f from rs ps).0 (either_run s name f from rs ps).1 out bytes items stop next out')
      (same : either_refusal s name f from ≡ either_refusal s name f from₀) (c : Option (List ℕ)) (p : Appends b c (take bytes out')) where
    -- what a round writes, and then the lines from the state that it hands back, are the lines from its own
    pub written_on : Written s name f from₀ next a c
    written_on =
        let o = either_run s name f from rs ps in
        let taken : either_refusal s name f from ≡ 0 = run_taken s name f from rs ps l.taken in
        let part = take bytes out' in
        let here : listing s name f from ≡ part ++ listing s name f next =
        round_lines s name f from rs ps taken
        ∙ ap (λ (x : Bytes). x ++ listing s name f o.0.state) (sym (front_is l.written))
        ∙ ap (λ (y : Saved). part ++ listing s name f y) (sym l.state) in
        record {
          bytes = w.bytes ++ part;
          taken = Appends-trans a b c w.bytes part w.taken p;
          rest = w.rest ∙ ap (λ (x : Bytes). w.bytes ++ x) here ∙ sym (append_assoc w.bytes part (listing s name f next));
          silent = λ n. absurd (n (sym same ∙ taken));
        }

    -- after the last round all lines are written
    pub written_all : stop ≡ 0 → Appends a c (listing s name f from₀)
    written_all q =
        let v = written_on in
        let taken : either_refusal s name f from ≡ 0 = run_taken s name f from rs ps l.taken in
        let none : listing s name f next ≡ [] = ap (listing s name f) l.state ∙ no_lines s name f from rs ps taken (sym l.reason ∙ q) in
        subst (Appends a c) (sym (v.rest ∙ ap (λ (x : Bytes). v.bytes ++ x) none ∙ append-nil v.bytes)) v.taken
