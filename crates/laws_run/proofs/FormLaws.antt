-- Every form of an item keeps what every item is to keep (Forms). Rests on what a path keeps (Paths) and on what each change of a state
-- keeps (Moving).
use Prim.Native.Nat.{ℕ, ◌+◌, ◌-◌, ◌*◌, ◌≤◌, ◌<◌}
use mathlib.Core.Path.{◌≡◌, refl, sym, subst, ◌∙◌}
use mathlib.Core.Bool.{Bool, true, false}
use mathlib.Core.List.{[]}
use mathlib.Core.Logic.{⊎_elim}
use native.Mathlib.Nat.{add-zero}
use native.Mathlib.Omega.{arith}
use lib.Dec.{eqb}
use lib.ListN.{length, length-append}
use borrow.Author.Tests.{eqb-true}
use Rattle.definition.specs.Basics.{Bytes}
use Rattle.definition.specs.Kinds.{kind}
use Rattle.definition.specs.State.{advance, one_more_comment, ended, close_comment}
use Rattle.definition.specs.Item.{Step, tok, error_here, add_comment}
use Rattle.definition.specs.Reading.{error_number}
use Rattle.definition.specs.declared.Pos.{Pos}
use Rattle.definition.specs.declared.State.{State}
use Rattle.definition.specs.declared.Extra.{Extra}
use Rattle.definition.specs.declared.Extra.TheVariants.{NoExtra, Comment}
use Rattle.lemmas.proofs.Cases.{by_test, by_lt}
use Rattle.state.specs.Sound.{Stands}
use Rattle.laws_progress.proofs.Walks.{clean_walk}
use Rattle.laws_run.specs.Left.{level, awake, left, Opened}
use Rattle.laws_run.specs.Budget.{most, budget, longest_payload}
use Rattle.laws_run.specs.Split.{payload_size}
use Rattle.laws_run.proofs.Moving.{stands_within, walk_stands, one_more_stands, closing_stands, ended_stands, open_stands}
use Rattle.laws_run.proofs.Paths.{Path, on, Reads, path_reads, path_stands}
use Rattle.laws_run.proofs.Buffers.{Measured}
use Rattle.laws_run.proofs.Forms.{Plain, nothing, code_point, Piece, Form, token, blob, line, opened, error, IsError, Gives, Kept}

-- ---- the budget

module _ (s : Bytes) where
  -- never more than `most` is left to spend
  pub budget_most : (st : State) → budget s st ≤ most s st
  unfolding budget
  budget_most st = by_test (λ (n : ℕ). n ≤ most s st) (eqb st.mode 2) (λ _. omega arith) (λ _. omega arith)

  -- and no less until the reading has ended
  pub most_budget : (st : State) → (st.mode ≡ 2 → ⊥) → most s st ≤ budget s st
  unfolding budget
  most_budget st n = by_test (λ (k : ℕ). most s st ≤ k) (eqb st.mode 2) (λ t. absurd (n (eqb-true st.mode 2 t))) (λ _. omega arith)

-- the reading is awake once
pub awake_small : (m : ℕ) → awake m ≤ 1
awake_small m = by_test (λ (n : ℕ). n ≤ 1) (eqb m 2) (λ _. omega arith) (λ _. omega arith)

-- and until its end it is
pub awake_yet : (m : ℕ) → (m ≡ 2 → ⊥) → awake m ≡ 1
awake_yet m n = by_test (λ (k : ℕ). k ≡ 1) (eqb m 2) (λ t. absurd (n (eqb-true m 2 t))) (λ _. refl)

-- ---- records

-- an item that is no blob has its payload's length in word 7, and so has a comment; a blob has its name's length there, and its
-- contents' in word 10
plain_measured : {x : Extra} {from : ℕ} (k : ℕ) (text : Bytes) (sp ep : Pos) (next : State) → Plain x → Measured (tok k text from sp ep x next)
unfolding payload_size
plain_measured k text sp ep next nothing = record { size = λ used. add-zero (length text) }
plain_measured k text sp ep next (code_point c) = record { size = λ used. add-zero (length text) }

comment_measured : {from : ℕ} (text : Bytes) (sp ep : Pos) (closed : Bool) (next : State) → Measured (add_comment text from sp ep closed next)
unfolding payload_size
comment_measured text sp ep true next = record { size = λ used. add-zero (length text) }
comment_measured text sp ep false next = record { size = λ used. add-zero (length text) }

-- ---- a piece of a comment

-- leaving a level reads nothing
closing_offset : (a : State) → (close_comment a).offset ≡ a.offset
unfolding close_comment
closing_offset a = by_lt (λ (b : State). b.offset ≡ a.offset) 1 a.depth (λ _. refl) (λ _. refl)

-- it takes the level off, or ends the comment; two bytes of payload are paid by it
record Closing (s : Bytes) (a b : State) : Type 0 where
  less : left s b ≤ level s a
  opened : Opened b
  paid : most s b + 2 ≤ most s a
  goes_on : b.mode ≡ 2 → ⊥

closing : (s : Bytes) (a : State) → 1 ≤ a.depth → Closing s a (close_comment a)
unfolding close_comment
closing s a h = by_lt (Closing s a) 1 a.depth
    (λ k. record { less = omega arith; opened = λ _. omega arith; paid = omega arith; goes_on = λ m. absurd (omega arith) })
    (λ k. record { less = omega arith; opened = λ m. absurd (omega arith); paid = omega arith; goes_on = λ m. absurd (omega arith) })

module _ {s : Bytes} {st : State} where
  module _ {from : ℕ} {t : Step} (level_open : 1 ≤ st.depth) (p : Piece s from st t) where
    r : Reads s st p.last
    r = path_reads p.path

    c : Closing s p.last (close_comment p.last)
    c = closing s p.last (omega (arith, r.deep))

    pub piece_gives : Gives s st t
    piece_gives = subst (Gives s st) (sym p.is) record {
      clean = λ l. rw (closing_offset p.last) (r.ahead.clean l);
      within = λ l. omega (arith, closing_offset p.last, r.ahead.within l);
      less = omega (arith, c.less, r.fewer);
      opened = λ _. c.opened;
    }

    pub piece_goes_on : t.next.mode ≡ 2 → ⊥
    piece_goes_on = subst (λ (x : Step). x.next.mode ≡ 2 → ⊥) (sym p.is) c.goes_on

    pub piece_measured : Measured t
    piece_measured = subst Measured (sym p.is) (comment_measured p.text _ _ p.closed _)

    -- the piece's bytes before st are paid besides
    pub piece_bounded : st.offset ≤ length s → length t.payload + budget s t.next ≤ (st.offset - from) + most s st
    piece_bounded l =
        subst (λ (x : Step). length x.payload + budget s x.next ≤ (st.offset - from) + most s st) (sym p.is)
        (omega (arith, p.began, p.small, r.ahead.forward, r.spent l, c.paid, budget_most s (close_comment p.last)))

    pub piece_short : st.offset ≤ length s → length t.payload ≤ length s + 2
    piece_short l = subst (λ (x : Step). length x.payload ≤ length s + 2) (sym p.is) (omega (arith, p.small, r.ahead.within l))

  -- reading doesn't go back
  pub piece_forward : {from : ℕ} {t : Step} → Piece s from st t → st.offset ≤ t.next.offset
  piece_forward p =
      subst (λ (x : Step). st.offset ≤ x.next.offset) (sym p.is) (omega (arith, closing_offset p.last, (path_reads p.path).ahead.forward))

  pub piece_sound : {from : ℕ} {t : Step} → Piece s from st t → Stands s st → st.mode ≡ 1 → Stands s t.next
  piece_sound p h m =
      subst (λ (x : Step). Stands s x.next) (sym p.is) (closing_stands (path_stands p.path h) ((path_reads p.path).mode ∙ m))

-- a piece that is carried over from an earlier run, or goes on in this one
pub piece_kept : {s name : Bytes} {st : State} {t : Step} → 1 ≤ st.depth → st.mode ≡ 1 → Piece s st.offset st t → Kept s name st t
piece_kept d m p = record {
  gives = piece_gives d p;
  sound = λ h. piece_sound p h m;
  bounded = λ h _. omega (arith, piece_bounded d p (stands_within h));
  short = λ h _. omega (arith, piece_short d p (stands_within h));
  measured = piece_measured d p;
}

-- ---- every form

-- a byte that is read pays a hundred bytes of payload, and twelve pay the longest name with a line's number
plenty : (n b m i : ℕ) {j k : ℕ} → b ≤ m → 399 * (j - i) + m ≤ k → i < j → n ≤ 4 * (j - i) + 100 → n + b ≤ k
plenty n b m i h r l c = omega arith

enough : (n b m i name : ℕ) {j k : ℕ} → b ≤ m → 399 * (j - i) + m ≤ k → name ≤ 4096 → n ≤ name + 9 → i + 12 ≤ j → n + b ≤ k
enough n b m i name h r q c d = omega arith

module _ {s : Bytes} {st : State} where
  -- an item after which reading goes on, past where it stood
  onward_gives : {a : State} (t : Step) → t.next ≡ a → Path s st a → st.offset < a.offset → st.offset ≤ length s → Gives s st t
  onward_gives {a} t e p l w =
      let r = path_reads p in
      subst (λ (b : State). Gives s st (record { item = t.item; payload = t.payload; next = b })) (sym e) record {
        clean = r.ahead.clean;
        within = r.ahead.within;
        less = omega (arith, awake_small a.mode, r.less w);
        opened = λ h n. omega (arith, h (sym r.mode ∙ n), r.deep);
      }

  -- a line's number has seven digits at most
  line_small : Stands s st → st.line < 10000000
  line_small h = omega (arith, h.sound.line, stands_within h, h.short)

module _ {s name : Bytes} {U : Type 0} {st : State} where
  pub form_gives : {t : Step} → st.offset ≤ length s → Form s name U st t → Gives s st t
  form_gives w (token k text x at p l b) = onward_gives _ refl p l w
  form_gives w (blob k title contents at p e l b) = onward_gives _ refl (on _ p e) l w
  form_gives w (line text at o b) = record {
    clean = clean_walk o.walk;
    within = λ _. o.within;
    less = omega (arith, awake_small st.mode, o.past, o.within);
    opened = λ h. h;
  }
  form_gives w (opened o p) =
      let g = piece_gives (omega arith) p in
      record {
        clean = λ c. g.clean (clean_walk o.walk c);
        within = λ _. g.within o.within;
        less = omega (arith, g.less, o.past, o.within);
        opened = λ _. g.opened (λ _. omega arith);
      }
  form_gives w (error {a} n text p at b u) =
      let r = path_reads p in
      record { clean = r.ahead.clean; within = r.ahead.within; less = omega (arith, r.fewer); opened = λ _ m. absurd (omega arith) }

  pub form_measured : {t : Step} → Form s name U st t → Measured t
  unfolding payload_size
  form_measured (token k text x at p l b) = plain_measured k text _ _ _ x
  form_measured (blob k title contents at p e l b) = record { size = λ used. sym (length-append title contents) }
  form_measured (line text at o b) = comment_measured text _ _ true _
  form_measured (opened o p) = piece_measured (omega arith) p
  form_measured (error n text p at b u) = record { size = λ used. add-zero (length text) }

  -- an error of number 6 says U
  pub form_number : {t : Step} → Form s name U st t → error_number t.item.extra ≡ 6 → U
  form_number (token k text nothing at p l b) q = absurd (omega arith)
  form_number (token k text (code_point c) at p l b) q = absurd (omega arith)
  form_number (blob k title contents at p e l b) q = absurd (omega arith)
  form_number (line text at o b) q = absurd (omega arith)
  form_number (opened o p) q =
      let z : error_number (Comment p.closed) ≡ 6 = subst (λ (x : Step). error_number x.item.extra ≡ 6) p.is q in absurd (omega arith)
  form_number (error n text p at b u) q = u q

  module _ (m : st.mode ≡ 0) where
    -- if the reading is over after it, it is an ERROR
    pub form_last : {t : Step} → Form s name U st t → t.next.mode ≡ 2 → IsError t.item.extra
    form_last (token k text x at p l b) q = let r = path_reads p in absurd (omega (arith, r.mode))
    form_last (blob k title contents at p e l b) q = let r = path_reads p in absurd (omega (arith, r.mode))
    form_last (line text at o b) q = absurd (omega arith)
    form_last (opened o p) q = absurd (piece_goes_on (omega arith) p q)
    form_last (error n text p at b u) q = tt

    pub form_sound : {t : Step} → Form s name U st t → Stands s st → Stands s t.next
    form_sound (token k text x at p l b) h = path_stands p h
    form_sound (blob k title contents at p e l b) h = path_stands (on _ p e) h
    form_sound (line text at o b) h = one_more_stands (walk_stands h o.walk) (omega (arith, h.sound.comments, o.past))
    form_sound (opened o p) h = piece_sound p (open_stands h m o) refl
    form_sound (error n text p at b u) h = ended_stands (path_stands p h) ((path_reads p).mode ∙ m)

  pub form_bounded : {t : Step} → Form s name U st t → Stands s st → length name ≤ 4096 → length t.payload + budget s t.next ≤ most s st
  unfolding budget
  form_bounded (token {a} k text x at p l b) h n =
      let r = (path_reads p).spent (stands_within h) in
      ⊎_elim (λ c. plenty (length text) _ _ _ (budget_most s a) r l c) (λ c. enough (length text) _ _ _ _ (budget_most s a) r n c.0 c.1) (b (line_small h))
  form_bounded (blob {a} {e = j} k title contents at p e l b) h n =
      omega (arith, length-append title contents, (path_reads (on _ p e)).spent (stands_within h), budget_most s (advance a j))
  form_bounded (line {j = j} text at o b) h n = omega (arith, o.within, o.past, budget_most s (one_more_comment (advance st j)))
  form_bounded (opened o p) h n = omega (arith, piece_bounded (omega arith) p o.within, o.past, o.within)
  form_bounded (error {a} n' text p at b u) h n = omega (arith, (path_reads p).spent (stands_within h))

  pub form_short : {t : Step} → Form s name U st t → Stands s st → length name ≤ 50 → length t.payload ≤ longest_payload s
  form_short (token k text x at p l b) h n =
      let w = (path_reads p).ahead.within (stands_within h) in
      ⊎_elim (λ c. omega (arith, c)) (λ c. omega (arith, c.0)) (b (line_small h))
  form_short (blob k title contents at p e l b) h n =
      omega (arith, length-append title contents, (path_reads (on _ p e)).ahead.within (stands_within h))
  form_short (line text at o b) h n = omega (arith, o.within)
  form_short (opened o p) h n = omega (arith, piece_short (omega arith) p o.within)
  form_short (error n' text p at b u) h n = omega arith

  -- Every form keeps all of it.
  pub form_kept : {t : Step} → (Stands s st → st.mode ≡ 0) → st.offset ≤ length s → Form s name U st t → Kept s name st t
  form_kept m w f = record {
    gives = form_gives w f;
    sound = λ h. form_sound (m h) f h;
    bounded = form_bounded f;
    short = form_short f;
    measured = form_measured f;
  }

-- ---- the text's end, and what is skipped before an item

-- at its end a text gives EOF
pub eof_kept : {s name : Bytes} (st : State) (sp ep : Pos) → (Stands s st → st.mode ≡ 0) → Kept s name st (tok (kind "EOF") [] st.offset sp ep NoExtra (ended st))
unfolding budget
eof_kept st sp ep m = record {
  gives = record { clean = λ c. c; within = λ h. h; less = omega arith; opened = λ _ n. absurd (omega arith) };
  sound = λ h. ended_stands h (m h);
  bounded = λ _ _. omega arith;
  short = λ _ _. omega arith;
  measured = plain_measured _ [] sp ep (ended st) nothing;
}

-- an error where it stands, without a payload
pub error_kept : {s name : Bytes} {n : ℕ} (st : State) → (Stands s st → st.mode ≡ 0) → Kept s name st (error_here s st n)
unfolding budget payload_size
error_kept st m = record {
  gives = record { clean = λ c. c; within = λ h. h; less = omega arith; opened = λ _ n. absurd (omega arith) };
  sound = λ h. ended_stands h (m h);
  bounded = λ _ _. omega arith;
  short = λ _ _. omega arith;
  measured = record { size = λ used. refl };
}

-- an item after a path
pub path_kept : {s name : Bytes} {st a : State} {t : Step} → Path s st a → Kept s name a t → Kept s name st t
path_kept p k =
    let r = path_reads p in
    let g = k.gives in
    record {
      gives = record {
        clean = λ c. g.clean (r.ahead.clean c);
        within = λ h. g.within (r.ahead.within h);
        less = omega (arith, g.less, r.fewer);
        opened = λ o. g.opened (λ m. omega (arith, o (sym r.mode ∙ m), r.deep));
      };
      sound = λ h. k.sound (path_stands p h);
      bounded = λ h n. omega (arith, k.bounded (path_stands p h) n, r.spent (stands_within h));
      short = λ h. k.short (path_stands p h);
      measured = k.measured;
    }
