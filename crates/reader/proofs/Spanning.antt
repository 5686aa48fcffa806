-- What a token up to a choice's end asks for, and where its positions are asked for. Rests on the laws of where a reader stands.
use Prim.Native.Nat.{ℕ, ◌≤◌}
use mathlib.Core.Path.{◌≡◌, refl}
use mathlib.Core.List.{[]}
use native.Mathlib.Omega.{arith}
use lib.ListN.{length}
use Rattle.definition.specs.Basics.{Bytes}
use Rattle.definition.specs.Position.{one_each}
use Rattle.definition.specs.State.{advance}
use Rattle.definition.specs.declared.State.{State}
use Rattle.state.specs.Sound.{Stands}
use Rattle.position.specs.Columns.{Asked, located}
use Rattle.position.specs.declared.Located.{Located}
use Rattle.position.specs.declared.Cache.{Cache}
use Rattle.laws_run.proofs.Moving.{walk_stands, stands_within}
use Rattle.reader.specs.Described.{Sized, Describes}
use Rattle.reader.specs.Standing.{Standing}
use Rattle.reader.specs.declared.Cursor.{Cursor}
use Rattle.reader.specs.declared.Payload.{Payload}
use Rattle.reader.specs.declared.Payload.TheVariants.{Part}
use Rattle.reader.proofs.Standing.{asks, known_asked}
use Rattle.reader.specs.Actions.{Chose, Spans}

-- a reader that asked for the position of an offset of its line stands where it stood
pub asked_stands : {s : Bytes} {st : State} {known : Cache} {i : ℕ} (there : Located) → Standing s st known → st.bol ≤ i → there ≡ located s st i → Standing s st there.known
asked_stands {s} {st} {known} {i} there h l q = rw q (record { stands = h.stands; cached = known_asked h i l })

-- nothing is described by the part from 0 to 0
pub nothing_describes : (s name f : Bytes) → Describes s name f (Part 0 0) []
nothing_describes s name f = record { is = refl; long = refl; inside = omega arith }

pub nothing_sized : {name : Bytes} → Sized name (Part 0 0)
nothing_sized = record { listed = tt; small = omega arith }

module _ {s : Bytes} {at : Cursor} {e : ℕ} (h : Chose s at e) where
  -- after the choice reading stands
  pub after_choice : Stands s (advance at.st e)
  after_choice = walk_stands h.standing.stands h.onward.walk

  -- on the same line
  pub same_line : at.st.bol ≤ e
  same_line = omega (arith, h.standing.stands.sound.order, h.onward.past)

  -- a part of the text is not too long
  pub part_sized : {name : Bytes} {i j : ℕ} → j ≤ length s → Sized name (Part i j)
  part_sized l = record { listed = tt; small = omega (arith, h.standing.stands.short) }

  -- a token may end wherever reading stands
  pub spans_to : {name : Bytes} {j : ℕ} {p : Payload} → Stands s (advance at.st j) → Sized name p → Spans s name at at.st.offset j p
  spans_to n z = record {
    standing = h.standing;
    from = h.standing.stands.sound.order;
    within = stands_within h.standing.stands;
    next = n;
    sized = z;
  }

  -- so at the choice's end
  pub spans : {name : Bytes} {p : Payload} → Sized name p → Spans s name at at.st.offset e p
  spans z = spans_to after_choice z

  -- the positions of the choice's ends are asked for one after the other
  pub end_asked : (start : Located) → start ≡ located s at.st at.st.offset → Asked one_each s at.st start.known e
  end_asked start q = asks (asked_stands start h.standing h.standing.stands.sound.order q) e same_line h.onward.within
