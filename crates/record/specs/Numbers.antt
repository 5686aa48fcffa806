-- A record's eighteen numbers in the order of the code: word 0 and words 9 to 14 as a struct, word 15, which is 0, and words 16 and 17.
-- And the item that is a token without more.
use Rattle.std.specs.Prelude.{ℕ, List, [], ◌∷◌}
use Rattle.definition.specs.Item.{mark}
use Rattle.definition.specs.declared.Pos.{Pos}
use Rattle.definition.specs.declared.Item.{Item}
use Rattle.definition.specs.declared.Extra.{Extra}
use Rattle.definition.specs.declared.Extra.TheVariants.{NoExtra, CharLit, Blob, LexError, Comment}
use Rattle.record.specs.declared.ExtraNumbers.{ExtraNumbers}

abbrev pub extra_numbers : Extra → ExtraNumbers
extra_numbers NoExtra = record { sort = 1; tag = 0; first = 0; line = 0; col = 0; to_line = 0; to_col = 0 }
extra_numbers (CharLit c) = record { sort = 1; tag = 1; first = c; line = 0; col = 0; to_line = 0; to_col = 0 }
extra_numbers (Blob n pos snap) = record { sort = 1; tag = 2; first = n; line = pos.line; col = pos.col; to_line = snap.line; to_col = snap.col }
extra_numbers (LexError n p1 p2) = record { sort = 1; tag = 3; first = n; line = p1.line; col = p1.col; to_line = p2.line; to_col = p2.col }
extra_numbers (Comment closed) = record { sort = 2; tag = mark closed; first = 0; line = 0; col = 0; to_line = 0; to_col = 0 }

-- the numbers of a record
abbrev pub numbers : ℕ → Pos → Pos → ℕ → ℕ → ℕ → ExtraNumbers → ℕ → ℕ → List ℕ
numbers kind sp ep used size comments n from to =
    n.sort
    ∷ kind
    ∷ sp.line
    ∷ sp.col
    ∷ ep.line
    ∷ ep.col
    ∷ used
    ∷ size
    ∷ comments
    ∷ n.tag
    ∷ n.first
    ∷ n.line
    ∷ n.col
    ∷ n.to_line
    ∷ n.to_col
    ∷ 0
    ∷ from
    ∷ to
    ∷ []

-- a token that holds nothing besides its kind, its range and its payload, which has `size` bytes
abbrev pub plain_item : ℕ → Pos → Pos → ℕ → ℕ → ℕ → ℕ → Item
plain_item kind sp ep size comments from to = record {
  kind = kind;
  sp = sp;
  ep = ep;
  length = size;
  comments = comments;
  extra = NoExtra;
  from = from;
  to = to;
}
