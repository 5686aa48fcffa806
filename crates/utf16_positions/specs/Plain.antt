-- Records whose positions are known without a count. s is the text, t the line and its place that are known, r the record.
use Rattle.std.specs.Prelude.{ℕ, ◌+◌, ◌-◌, ◌≤◌, ◌≡◌, List, [], ◌∷◌, length, get_or, Option, None}
use Rattle.std.proofs.lemmas.List.Edits.{sets}
use Rattle.definition.specs.Basics.{Bytes}
use Rattle.definition.specs.Item.{record_size}
use Rattle.position.specs.AsciiRuns.{Ascii}
use Rattle.utf16_positions.specs.declared.LineStart.{LineStart}
use Rattle.utf16_positions.specs.declared.Place.{Place}
use Rattle.utf16_positions.specs.declared.Tally.{Tally}

-- a record has no positions but its start and its end, one after the other on the line whose place is known, and not before it
pub record OnKnown (here : LineStart) (t : Tally) (r : List ℕ) : Type 0 where
  pub same : t.start ≡ here
  pub few : get_or r 9 0 ≤ 1
  pub start_line : get_or r 2 0 ≡ here.line
  pub end_line : get_or r 4 0 ≡ here.line
  pub after : t.place.col ≤ get_or r 3 0
  pub order : get_or r 3 0 ≤ get_or r 5 0

-- the byte where it ends, if there is nothing but ASCII from the known place up to there
abbrev pub plain_end : Tally → List ℕ → ℕ
plain_end t r = t.place.off + (get_or r 5 0 - t.place.col)

-- such a record, and there is nothing but ASCII from the known place up to its end
pub record PlainHere (s : Bytes) (here : LineStart) (t : Tally) (r : List ℕ) : Type 0 where
  pub on : OnKnown here t r
  pub ascii : Ascii s t.place.off (plain_end t r)
  pub within : plain_end t r ≤ length s

-- such a record of an item that begins at a place of a line
pub record Plain (s : Bytes) (here : LineStart) (carried : Option ℕ) (t : Tally) (r : List ℕ) : Type 0 where
  pub not_carried : carried ≡ None
  pub plain : PlainHere s here t r

-- the place at a column, from a place before it with nothing but ASCII between
abbrev pub plain_place : Place → ℕ → Place
plain_place p col = record { off = p.off + (col - p.col); col = col; units = p.units + (col - p.col) }

-- a column that isn't before a place, and sums that fit
pub record Ahead (p : Place) (col : ℕ) : Type 0 where
  pub after : p.col ≤ col
  pub bytes : p.off + (col - p.col) ≤ 1048576
  pub units : p.units ≤ 2048576

-- the same of both columns of a record, whose lines are 1 or more
pub record Short (t : Tally) (r : List ℕ) : Type 0 where
  pub size : length r ≡ record_size
  pub start_line : 1 ≤ get_or r 2 0
  pub end_line : 1 ≤ get_or r 4 0
  pub start : Ahead t.place (get_or r 3 0)
  pub end : Ahead t.place (get_or r 5 0)

-- what the record and the known place become
pub record PlainAgain (t : Tally) (r : List ℕ) (t' : Tally) (r' : List ℕ) : Type 0 where
  pub tally : t' ≡ record { start = t.start; place = plain_place t.place (get_or r 5 0) }
  pub words : r' ≡ sets r 2 ((get_or r 2 0 - 1) ∷ (plain_place t.place (get_or r 3 0)).units ∷ (get_or r 4 0 - 1) ∷ (plain_place t.place (get_or r 5 0)).units ∷ [])
