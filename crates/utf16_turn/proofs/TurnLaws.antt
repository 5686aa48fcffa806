-- A turn of the second run, from what the first run's turn did and from what was counted of the record that it wrote. Rests on the laws of
-- the second run's steps (crate `laws_utf16`), of positions counted again (crate `utf16_positions`), and on that a turn looks at its records
-- only for their length.
use Rattle.std.specs.Prelude.{if◌then◌else◌}
use Prim.Native.Nat.{ℕ, ◌+◌, ◌-◌, ◌*◌, ◌≤◌}
use mathlib.Core.Path.{◌≡◌, refl, sym, ap, ap₂, subst, ◌∙◌}
use mathlib.Core.List.{List}
use native.Mathlib.Omega.{arith}
use lib.Dec.{eqb}
use lib.ListN.{length, get_or}
use borrow.Rule.Slice.PartMut.{mid_of, put_mid}
use Rattle.definition.specs.Basics.{Bytes, again}
use Rattle.definition.specs.Item.{Step, record_size, words}
use Rattle.definition.specs.Token.{step}
use Rattle.definition.specs.Run.{put, Writing, run_turn}
use Rattle.definition.specs.Utf16.{utf16, given_at, column_in, second_start, second_step, second_next}
use Rattle.definition.specs.declared.Pos.{Pos}
use Rattle.definition.specs.declared.State.{State}
use Rattle.definition.specs.declared.Utf16State.{Utf16State}
use Rattle.lemmas.proofs.Cases.{by_equal}
use Rattle.lemmas.proofs.Tails.{length_put}
use Rattle.state.specs.Sound.{Stands}
use Rattle.laws_run.proofs.Moving.{stands_within}
use Rattle.laws_run.proofs.Steps.{step_stands}
use Rattle.laws_run.proofs.Choosing.{given_stands}
use Rattle.laws_run.proofs.Buffers.{words_size}
use Rattle.laws_utf16.specs.Same.{SamePlace}
use Rattle.laws_utf16.proofs.OneStep.{start_column, same_record}
use Rattle.reader.specs.declared.Cursor.{Cursor}
use Rattle.lookahead.specs.declared.NextItem.{NextItem}
use Rattle.utf16_positions.specs.Places.{line_in, begun_at, Begins, LinesFromOne}
use Rattle.utf16_positions.proofs.Seconds.{here_is, carried_is, item_is}
use Rattle.run_turn.specs.Running.{writing, Ran, StandsAhead}
use Rattle.utf16_turn.specs.Turning.{begun_in, Recountable, RecountedItem, cursor_of, Utf16Between, Utf16Wrote}
use Rattle.run_turn.specs.declared.TurnResult.TheVariants.{Wrote}
use Rattle.utf16_turn.specs.declared.Utf16Cursor.{Utf16Cursor}
use Rattle.utf16_turn.proofs.Parts.{part_there, part_again}
use Rattle.utf16_turn.proofs.ShadowLaws.{WritesAlike, shadow_writes}
use Rattle.utf16_turn.proofs.SecondColumns.{begun_carried, begun_here}

-- where an item of a step from g begins
begun_is : (s : Bytes) (g : Utf16State) (a n : State) (p : Pos)
    → begun_at s (line_in g a) (line_in g n) (begun_in g) p ≡ second_start utf16 s g a n p
begun_is s g a n p =
    by_equal g.first.mode 1
    (λ m. rw (← begun_carried g m) (carried_is s g a n p m))
    (λ m. rw (← begun_here g m) (here_is s g a n p m))

module _ {s name f : Bytes} {at : Utf16Cursor} {count used : ℕ} {rs : List ℕ} {ps : Bytes} (b : Utf16Between s name f at count used rs ps)
    {next : Cursor} {used' : ℕ} {rs₁ : List ℕ} {ps' : Bytes}
    (ran : Ran s (run_turn s name f (writing (cursor_of at) count used rs ps)) count at.state.first (Wrote next used') rs₁ ps')
    {here : Cursor} {item : NextItem} (ahead : StandsAhead s name f (cursor_of at) here item) where
  abbrev g : Utf16State
  g = at.state

  abbrev t : Step
  t = step s name f g.first

  abbrev first : ℕ
  first = record_size * count

  -- the first run's turn wrote the next item
  wrote : WritesAlike s name f g.first count used ps rs rs refl (writing next (count + 1) used' rs₁ ps')
  wrote = shadow_writes s name f g.first count used ps rs rs refl (writing next (count + 1) used' rs₁ ps') ran.0

  next_is : next.st ≡ t.next
  next_is = ap (λ (a : Writing). a.state) wrote.is

  given_is : here.st ≡ given_at s name f g.first
  given_is = ahead.given wrote.going

  records_are : rs₁ ≡ put rs first (words t.item used)
  records_are = ap (λ (a : Writing). a.records) wrote.is

  -- its record stands in the part that is lent
  pub part_fits : first + record_size ≤ length rs
  part_fits = omega (arith, wrote.fits, b.between.kept.begun)

  item_size : length (words t.item used) ≡ record_size
  item_size = words_size t.item used

  -- as long as the code has it
  lent_size : first + record_size - first ≡ length (words t.item used)
  lent_size = omega (arith, item_size)

  part_is : mid_of first (first + record_size - first) rs₁ ≡ words t.item used
  part_is =
      ap₂ (λ (n : ℕ) (l : List ℕ). mid_of first n l) lent_size records_are
      ∙ part_there rs first (words t.item used) (omega (arith, part_fits))

  -- ---- what counting asks for

  begins : (a : State) → Stands s a → Begins s (line_in g a)
  begins a h = record {
    short = h.short;
    within = omega (arith, h.sound.order, stands_within h);
    margin = start_column s g b.stands a;
  }

  -- a position that has its second has a line
  place_line : {p q : Pos} → SamePlace s name f g p q → 1 ≤ p.line
  place_line x = omega (arith, ap (λ (p : Pos). p.line) x.first, x.line)

  lines : LinesFromOne (words t.item used)
  lines =
      let r = same_record s name f g b.stands wrote.going used in
      record {
        start = by_equal g.first.mode 1 (λ m. omega (arith, (r.start.inside m).1)) (λ n. place_line (r.start.outside n));
        end = place_line r.end;
        extra = λ h. let x = r.extra (omega arith) in (place_line x.0, place_line x.1);
      }

  pub counting_asked : Recountable s at here.st next (mid_of first (first + record_size - first) rs₁)
  counting_asked = record {
    here_begins = begins here.st (subst (Stands s) (sym given_is) (given_stands s name f g.first b.stands.first).0);
    next_begins = begins next.st (subst (Stands s) (sym next_is) (step_stands s name f g.first b.stands.first wrote.going));
    tallied = b.tallied;
    size = ap length part_is ∙ item_size;
    lines = rw part_is lines;
  }

  -- ---- what it gives

  module _ {on : Utf16Cursor} {r : List ℕ} (c : RecountedItem s at here.st next (mid_of first (first + record_size - first) rs₁) on r) where
    record_is : r ≡ words (second_step utf16 s name f g).item used
    unfolding second_step
    record_is =
        rw (← given_is, ← next_is) (item_is s g here.st next.st (begun_in g) (begun_is s g here.st next.st) c.again t.item used part_is)

    first_is : on.state.first ≡ next.st
    first_is = ap (λ (x : Utf16State). x.first) c.state

    state_is : on.state ≡ second_next utf16 s name f g
    unfolding second_next second_step record_is
    state_is =
        c.state
        ∙ ap₂ (λ (n : State) (k : ℕ). record { first = n; column = column_in g n; comment = if eqb n.mode 1 then k else 0 }) next_is
        (ap (λ (l : List ℕ). get_or l 3 0) record_is)

    pub item_counted : Utf16Wrote s name f at count used rs ps on used' (put_mid first (first + record_size - first) rs₁ r) ps'
    item_counted =
        let u = second_step utf16 s name f g in
        let size : length r ≡ length (words t.item used) = ap length record_is ∙ words_size u.item used ∙ sym item_size in
        record {
          first = ran.0
              ∙ ap₂ (λ (x : State) (l : List ℕ). again (record { state = x; records = l; payload = ps'; count = count + 1; used = used' })) (sym first_is) records_are;
          records = ap₂ (λ (n : ℕ) (l : List ℕ). put_mid first n l r) lent_size records_are
              ∙ part_again rs first (words t.item used) (omega (arith, part_fits)) r size
              ∙ ap (put rs first) record_is;
          state = state_is;
          known = rw (first_is, c.known) ran.1;
          tallied = c.again.tallied;
        }

    -- the buffer keeps its length
    pub counted_length : length (put_mid first (first + record_size - first) rs₁ r) ≡ length rs
    counted_length =
        let u = second_step utf16 s name f g in
        ap length item_counted.records ∙ length_put rs first (words u.item used) (omega (arith, words_size u.item used, part_fits))
