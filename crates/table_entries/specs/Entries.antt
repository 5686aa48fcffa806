-- The entries of the tables by which a word decides its token, one table after the other, and the texts of their tokens.
use Rattle.std.specs.Prelude.{List, [], ◌∷◌, ◌++◌, map}
use Rattle.definition.specs.Basics.{Bytes}
use Rattle.definition.specs.Tables.{Entry, cps, keywords, constructors, uoperators, op_tokens, mixfix_rules}

unfoldable pub entries : List Entry
entries = keywords ++ (constructors ++ (uoperators ++ (op_tokens ++ mixfix_rules)))

-- the entries' texts, and that of the token `<`
unfoldable pub texts : List Bytes
texts = map (λ (e : Entry). cps e.text) entries ++ (cps "<" ∷ [])
