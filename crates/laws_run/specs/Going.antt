-- The loops of the definition from any state of theirs on: the definitions begin them, these go on with them. s is the text, name the
-- file's name, f the class file.
use Rattle.std.specs.Prelude.{ℕ}
use Rattle.definition.specs.Basics.{Bytes, loop, fuel}
use Rattle.definition.specs.Item.{Step, error_here}
use Rattle.definition.specs.Strings.{string_turn}
use Rattle.definition.specs.Blob.{Header, unterminated, blob_turn, lang_turn}
use Rattle.definition.specs.Run.{Outcome, Writing, stopped, run_turn, most_items}
use Rattle.definition.specs.declared.Pos.{Pos}
use Rattle.definition.specs.declared.State.{State}

-- `string_lit`, with what is read of the literal, which began at byte `from`, whose position is sp
unfoldable pub string_from : Bytes → Bytes → ℕ → Pos → State × Bytes → Step
string_from s f from sp a = loop (string_turn s f from sp) (λ a. error_here s a.0 1) (fuel s) a

-- `blob` and `use_lang`, whose contents begin at byte `from`
unfoldable pub blob_from : Bytes → ℕ → Header → State → Step
blob_from s from h st = loop (blob_turn s from h) (unterminated s) (fuel s) st

unfoldable pub lang_from : Bytes → ℕ → Header → State → Step
lang_from s from h st = loop (lang_turn s from h) (unterminated s) (fuel s) st

-- `run_items`, from where a run stands
unfoldable pub run_from : Bytes → Bytes → Bytes → Writing → Outcome
run_from s name f a = loop (run_turn s name f) (stopped 0) (most_items s a.state) a
