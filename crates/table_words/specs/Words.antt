-- The words of the tables in which a whole lexeme is looked up.
use Rattle.std.specs.Prelude.{List, ◌++◌, map}
use Rattle.definition.specs.Basics.{Bytes}
use Rattle.definition.specs.Tables.{Entry, cps, keywords, constructors, uoperators}

-- the words of a table
abbrev pub spelled : List Entry → List Bytes
spelled table = map (λ e. cps e.word) table

-- the words of the three tables
unfoldable pub words : List Bytes
words = spelled (keywords ++ (constructors ++ uoperators))
