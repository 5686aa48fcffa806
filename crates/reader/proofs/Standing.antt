-- What may be asked where a reader stands, and what is known after it reads on. Rests on the laws of columns and of sound states.
use Prim.Native.Nat.{ℕ, ◌-◌, ◌≤◌}
use mathlib.Core.Path.{◌≡◌}
use native.Mathlib.Nat.{le_refl}
use native.Mathlib.Omega.{arith}
use lib.ListN.{length}
use Rattle.definition.specs.Basics.{Bytes}
use Rattle.definition.specs.Position.{one_each, count_chars, col_by, pos_of}
use Rattle.definition.specs.State.{advance, new_line}
use Rattle.definition.specs.declared.State.{State}
use Rattle.position.specs.Columns.{Asked, column_at, located}
use Rattle.position.specs.declared.Cache.{Cache}
use Rattle.position.specs.declared.Located.{Located}
use Rattle.position.proofs.Counting.{known_again}
use Rattle.laws_run.proofs.Moving.{stands_within}
use Rattle.reader.specs.Described.{KnownAt}
use Rattle.reader.specs.Standing.{Standing}

module _ {s : Bytes} {st : State} where
  -- the column of any offset of the line from the state on
  pub asks : {known : Cache} → Standing s st known → (i : ℕ) → st.bol ≤ i → i ≤ length s → Asked one_each s st known i
  asks h i from to = record {
    short = h.stands.short;
    margin = h.stands.sound.column;
    cached = h.cached;
    from = from;
    to = to;
  }

  -- that of the state's own offset
  pub asks_here : {known : Cache} → Standing s st known → Asked one_each s st known st.offset
  asks_here h = asks h st.offset h.stands.sound.order (stands_within h.stands)

  -- a column that was asked for is known
  pub known_asked : {known : Cache} → Standing s st known → (i : ℕ) → st.bol ≤ i → KnownAt s st (column_at one_each s st i)
  known_asked h i from = known_again one_each s st i from

-- where a line begins, its column is 0
pub known_line : (s : Bytes) (st : State) (i : ℕ) → KnownAt s (new_line (advance st i)) (record { off = i; col = 0 })
unfolding count_chars col_by
known_line s st i =
    let z : i - i ≡ 0 = omega arith in
    record { after = le_refl i; column = rw z }

-- what is known of a line is known of every state of that line
pub known_kept : {s : Bytes} {known : Cache} (st next : State) → next.bol ≡ st.bol → next.column ≡ st.column → KnownAt s st known → KnownAt s next known
unfolding col_by
known_kept st next b c h = record { after = rw b h.after; column = rw (b, c) h.column }

-- the column of an offset is the same in every state of a line
pub position_kept : (s : Bytes) (st next : State) (i : ℕ) → next.line ≡ st.line → next.bol ≡ st.bol → next.column ≡ st.column → pos_of s next i ≡ pos_of s st i
unfolding col_by
position_kept s st next i l b c = rw (l, b, c)

-- a reader that asked for its own position stands where it stood
pub stays : {s : Bytes} {st : State} {known : Cache} (here : Located) → Standing s st known → here ≡ located s st st.offset → Standing s st here.known
stays {s} {st} here h e = rw e (record { stands = h.stands; cached = known_asked h st.offset h.stands.sound.order })
