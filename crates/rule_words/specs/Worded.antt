-- What a word of the tables gives. s is the text, st the state at the choice, e the choice's end.
use Rattle.std.specs.Prelude.{ℕ, ◌<◌, [], get_or, Option, Some, None}
use Rattle.definition.specs.Basics.{Bytes}
use Rattle.definition.specs.Text.{lexeme}
use Rattle.definition.specs.Kinds.{kind}
use Rattle.definition.specs.Tables.{entry}
use Rattle.definition.specs.Token.{TokenTurn, finish}
use Rattle.definition.specs.declared.State.{State}
use Rattle.table_entries.specs.Entries.{entries, texts}

-- the token of a word of the tables, or the lexeme with a kind
abbrev pub worded : Bytes → State → ℕ → Option ℕ → ℕ → TokenTurn
worded s st e (Some w) k = finish s st e (kind (entry entries w).kind) (get_or texts w [])
worded s st e None k = finish s st e k (lexeme s st.offset e)

-- a word of the tables in which lexemes are looked up
abbrev pub Placed : Option ℕ → Type 0
Placed (Some w) = w < 119
Placed None = Unit {0}
