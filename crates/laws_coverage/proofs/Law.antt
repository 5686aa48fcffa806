-- Document 02, K4: nothing is lost between items. Rests on the turns of a reading (Turns), on where the bytes stand that each takes
-- (Parts), on what is skipped (Skips), on counting (Counting), and on the steps of a text (crate `laws_run`, Items).
use Prim.Native.Nat.{ℕ, ◌≤◌}
use mathlib.Core.Path.{◌≡◌, refl, sym, ap, ap₂, subst, ◌∙◌}
use mathlib.Core.List.{List, [], ◌∷◌, ◌++◌}
use native.Mathlib.Omega.{arith}
use Rattle.definition.specs.Basics.{Bytes, again, done}
use Rattle.definition.specs.Item.{Step}
use Rattle.definition.specs.Token.{TokenTurn, token_turn, next_token, step}
use Rattle.definition.specs.Run.{refusal}
use Rattle.definition.specs.Items.{steps_of}
use Rattle.definition.specs.Reading.{Reached, skipped as reached_skipped}
use Rattle.definition.specs.declared.State.{State}
use Rattle.lemmas.proofs.Loops.{says}
use Rattle.lemmas.proofs.Cases.{by_equal}
use Rattle.state.specs.Sound.{Stands}
use Rattle.laws_run.proofs.Steps.{token_unroll, step_between, step_inside}
use Rattle.laws_run.proofs.Items.{steps_of_end, steps_of_on}
use Rattle.laws_run.proofs.Refusals.{run_stands}
use Rattle.laws_coverage.specs.Coverage.{
  Taking,
  skipped,
  gave,
  takings,
  Part,
  steps_in,
  span,
  spans_in,
  skips_in,
  in_part,
  held,
  times,
  limit,
  OnlySkips,
  Forward,
  EofOrFailed,
  Last,
  NothingLost,
}
use Rattle.laws_coverage.proofs.Turns.{Turned, turned_going, carried_going, stands, by_turns}
use Rattle.laws_coverage.proofs.Parts.{Placed, skip_forward, skip_outside, skip_going, item_last, item_placed, piece_next, piece_placed}
use Rattle.laws_coverage.proofs.Skips.{skips_there}
use Rattle.laws_coverage.proofs.Counting.{empty, joined}

-- ---- order

-- what goes forward from a byte on does so from any before it
earlier : (o : ℕ) {o' : ℕ} (ps : List Part) → o ≤ o' → Forward o' ps → Forward o ps
earlier o [] l h = tt
earlier o (p ∷ ps) l (a, b, h) = (omega arith, b, h)

-- an item's span before others
placed_forward : {st : State} {t : Step} (ps : List Part) → Placed st t → Forward t.next.offset ps → Forward st.offset (span t ∷ ps)
placed_forward ps p h = (p.begins, p.ordered, subst (λ (o : ℕ). Forward o ps) (sym p.to) h)

-- ---- each byte once

-- what is taken from st on has each byte from there up to some limit once, and no other; that limit is where the choice of the last item
-- was made, or where st stands, if no item is left
record Covers (st : State) (ts : List Taking) : Type 0 where
  upto : ℕ
  ahead : st.offset ≤ upto
  once : (b : ℕ) → times b ts ≡ in_part b (st.offset, upto)
  limited : (o : ℕ) → (st.mode ≡ 2 → o ≡ st.offset) → limit o ts ≡ upto

module _ {st : State} {ts : List Taking} where
  -- with an item before it, which is empty if it is the last
  covers_given : {t : Step} → Placed st t → (t.next.mode ≡ 2 → ts ≡ []) → Covers t.next ts → Covers st (gave st.offset t ∷ ts)
  unfolding steps_in skips_in held limit
  covers_given {t} p none c =
      by_equal t.next.mode 2
      (λ m. record {
        upto = st.offset;
        ahead = omega arith;
        once = λ b.
            let h : in_part b (span t) ≡ 0 = subst (λ (i : ℕ). in_part b (t.item.from, i) ≡ 0) (p.is_empty m) (empty b t.item.from) in
            ap (λ (l : List Taking). times b (gave st.offset t ∷ l)) (none m) ∙ omega (arith, h, empty b st.offset);
        limited = λ o _. ap (limit st.offset) (none m);
      })
      (λ n.
      let l : st.offset ≤ t.next.offset = omega (arith, p.begins, p.ordered, p.to) in
      record {
        upto = c.upto;
        ahead = omega (arith, c.ahead);
        once = λ b.
            let h : in_part b (span t) ≡ in_part b (st.offset, t.next.offset) = ap₂ (λ (i j : ℕ). in_part b (i, j)) (p.goes_on n) p.to in
            omega (arith, h, c.once b, joined b st.offset t.next.offset c.upto l c.ahead);
        limited = λ o _. c.limited st.offset (λ m. absurd (n m));
      })

  -- with what is skipped before it
  covers_skip : {next : State} (place : ℕ) → st.offset ≤ next.offset → (next.mode ≡ 2 → ⊥) → Covers next ts
      → Covers st (skipped place st.offset next.offset ∷ ts)
  unfolding steps_in skips_in held limit
  covers_skip {next} place l going c = record {
    upto = c.upto;
    ahead = omega (arith, c.ahead);
    once = λ b. omega (arith, c.once b, joined b st.offset next.offset c.upto l c.ahead);
    limited = λ o _. c.limited o (λ w. absurd (going w));
  }

-- nothing is taken where the reading has ended
covers_end : {st : State} → st.mode ≡ 2 → Covers st []
unfolding steps_in skips_in held limit
covers_end {st} m = record { upto = st.offset; ahead = omega arith; once = λ b. sym (empty b st.offset); limited = λ o h. h m }

-- ---- the limit

limit_last : (o : ℕ) (before : List Taking) (at : ℕ) (t : Step) → limit o (before ++ (gave at t ∷ [])) ≡ at
unfolding limit
limit_last o [] at t = refl
limit_last o (skipped place from to ∷ ts) at t = limit_last o ts at t
limit_last o (gave i u ∷ ts) at t = limit_last i ts at t

-- ---- the items

-- outside a comment the step is what the turn says
turn_step : (s name f : Bytes) (st : State) {x : TokenTurn} → st.mode ≡ 0 → token_turn s name f st ≡ x → step s name f st ≡ says x (next_token s name f)
turn_step s name f st m e = step_between s name f st m ∙ token_unroll s name f st ∙ ap (λ y. says y (next_token s name f)) e

module _ (s name f : Bytes) (g : State) where
  -- ---- the last item

  -- given at the choice st
  last_given : {ts : List Taking} (before : List Taking) {st : State} {t : Step} → ts ≡ before ++ (gave st.offset t ∷ [])
      → Turned s name f g st (done t) → EofOrFailed s st t → Last s name f g ts
  last_given before {st} {t} e k ends = record {
    before = before;
    st = st;
    t = t;
    is_last = e;
    reached = k.reached;
    outside = k.outside;
    gives = k.says;
    ends = ends;
    limited = ap (limit g.offset) e ∙ limit_last g.offset before st.offset t;
  }

  -- with one more turn before
  last_after : {ts : List Taking} (x : Taking) → Last s name f g ts → Last s name f g (x ∷ ts)
  last_after x l =
      last_given (x ∷ l.before) (ap (λ (ts : List Taking). x ∷ ts) l.is_last)
      (record { reached = l.reached; outside = l.outside; says = l.gives }) l.ends

  -- until the reading has ended there is one
  abbrev Ends : State → List Taking → Type 0
  Ends st ts = (st.mode ≡ 2 → ⊥) → Last s name f g ts

  module _ (sound : Stands s g) where
    item_ends : {st : State} {t : Step} {ts : List Taking} → Turned s name f g st (done t) → (t.next.mode ≡ 2 → ts ≡ []) → Ends t.next ts
        → Last s name f g (gave st.offset t ∷ ts)
    item_ends {st} {t} k none h =
        by_equal t.next.mode 2
        (λ m. last_given [] (ap (λ (l : List Taking). gave st.offset t ∷ l) (none m)) k (item_last s name f g sound k m).1)
        (λ n. last_after (gave st.offset t) (h n))

    -- ---- the steps

    -- the step at st, and those after it, are the steps of st
    step_first : {st : State} {t : Step} {ts : List Step} → Reached s name f g st → (st.mode ≡ 2 → ⊥) → step s name f st ≡ t
        → ts ≡ steps_of s name f t.next → t ∷ ts ≡ steps_of s name f st
    step_first {st} {t} {ts} r n e h =
        subst (λ (u : Step). ts ≡ steps_of s name f u.next → u ∷ ts ≡ steps_of s name f st) e
        (λ q. ap (λ (l : List Step). step s name f st ∷ l) q ∙ sym (steps_of_on s name f st (stands s name f g sound r).sound.opened n)) h

    -- what is skipped changes none of them
    skip_same : {st next : State} → Turned s name f g st (again next) → steps_of s name f next ≡ steps_of s name f st
    skip_same {st} {next} k =
        let r : Reached s name f g next = reached_skipped k.reached k.outside k.says in
        let same : step s name f st ≡ step s name f next =
        turn_step s name f st k.outside k.says ∙ sym (step_between s name f next (skip_outside s name f g k)) in
        sym (step_first r (skip_going s name f g k) refl refl) ∙ step_first k.reached (turned_going s name f g k) same refl

    -- ---- over all turns

    only_skips : OnlySkips s f (takings s name f g)
    only_skips = by_turns s name f g sound (λ st ts. OnlySkips s f ts) record {
      at_end = λ m. tt;
      over_skip = λ {st} k h. let p = skips_there s name f st k.says in (p.0, refl, p.1, h);
      over_item = λ k none h. h;
      over_piece = λ k h. h;
    }

    forward : Forward g.offset (spans_in (takings s name f g))
    unfolding steps_in
    forward = by_turns s name f g sound (λ st ts. Forward st.offset (spans_in ts)) record {
      at_end = λ m. tt;
      over_skip = λ {st} {next} {ts} k h. earlier st.offset (spans_in ts) (skip_forward s name f g k) h;
      over_item = λ {st} {t} {ts} k none h. placed_forward (spans_in ts) (item_placed s name f g sound k) h;
      over_piece = λ {st} {ts} k h. placed_forward (spans_in ts) (piece_placed s name f g sound k) h;
    }

    covers : Covers g (takings s name f g)
    covers = by_turns s name f g sound Covers record {
      at_end = covers_end;
      over_skip = λ k c. covers_skip _ (skip_forward s name f g k) (skip_going s name f g k) c;
      over_item = λ k none c. covers_given (item_placed s name f g sound k) none c;
      over_piece = λ k c. covers_given (piece_placed s name f g sound k) (λ m. absurd (piece_next s name f g sound k m)) c;
    }

    ends : Ends g (takings s name f g)
    ends = by_turns s name f g sound Ends record {
      at_end = λ m n. absurd (n m);
      over_skip = λ k h _. last_after (skipped _ _ _) (h (skip_going s name f g k));
      over_item = λ k none h _. item_ends k none h;
      over_piece = λ k h _. last_after (gave _ _) (h (piece_next s name f g sound k));
    }

    items : steps_in (takings s name f g) ≡ steps_of s name f g
    unfolding steps_in
    items = by_turns s name f g sound (λ st ts. steps_in ts ≡ steps_of s name f st) record {
      at_end = λ {st} m. sym (steps_of_end s name f st m);
      over_skip = λ k h. h ∙ skip_same k;
      over_item = λ {st} k none h. step_first k.reached (turned_going s name f g k) (turn_step s name f st k.outside k.says) h;
      over_piece = λ {st} k h. step_first k.reached (carried_going s name f g k) (step_inside s name f st k.inside) h;
    }

    -- From a sound state on nothing is lost between items.
    pub nothing_lost : NothingLost s name f g
    nothing_lost = record {
      once = λ b. covers.once b ∙ ap (λ (u : ℕ). in_part b (g.offset, u)) (sym (covers.limited g.offset (λ _. refl)));
      skips = only_skips;
      forward = forward;
      items = items;
      last = ends;
    }

  -- So from every state that a run isn't refused with.
  pub run_lossless : (refusal s name f g).0 ≡ 0 → NothingLost s name f g
  run_lossless taken = nothing_lost (run_stands s name f g taken)
