-- What the functions of the reader ask for: where it stands, and that what it does next leads to a place to stand. s is the text,
-- count how many bytes the literal has so far.
use Rattle.std.specs.Prelude.{ℕ, ◌<◌, ◌≡◌, []}
use Rattle.definition.specs.Basics.{Bytes}
use Rattle.definition.specs.ClassFile.{class_check}
use Rattle.definition.specs.State.{advance}
use Rattle.definition.specs.declared.Pos.{Pos}
use Rattle.definition.specs.declared.State.{State}
use Rattle.lemmas.specs.Loops.{Leads}
use Rattle.state.specs.Sound.{Stands}
use Rattle.reader.specs.Standing.{Standing}
use Rattle.reader.specs.declared.Cursor.{Cursor}
use Rattle.read_string.specs.declared.moves.Move.{Move}
use Rattle.read_string.specs.Literal.{does, states}

-- where a move leads is a place to stand
abbrev pub Safe : Bytes → ℕ → Pos → State → Move → Type 0
Safe s quote sp st m = Leads (λ b. Stands s b × (b.mode ≡ 0)) (λ t. Stands s t.next) (states (does s quote sp st [] m))

-- the closing quote ends at e
pub record Closing (s : Bytes) (count : ℕ) (at : Cursor) (e : ℕ) : Type 0 where
  pub standing : Standing s at.st at.known
  pub next : Stands s (advance at.st e)
  pub small : count < 4294967296

-- m is done next
pub record Turning (s : Bytes) (count : ℕ) (at : Cursor) (quote : ℕ) (sp : Pos) (m : Move) : Type 0 where
  pub standing : Standing s at.st at.known
  pub safe : Safe s quote sp at.st m
  pub small : count < 4294967296

-- a literal begins, between comments; f is the class file
pub record Reader (s f : Bytes) (at : Cursor) : Type 0 where
  pub accepted : class_check f ≡ 0
  pub standing : Standing s at.st at.known
  pub between : at.st.mode ≡ 0
