-- A literal, move by move: what the definition's turn makes of a move, and what is known of a literal that is read up to some
-- byte. s is the text, f the class file.
use Rattle.std.specs.Prelude.{ℕ, ◌-◌, ◌≤◌, ◌≡◌, [], ◌++◌, length}
use Rattle.definition.specs.Basics.{Bytes, Turn, again, done}
use Rattle.definition.specs.Utf8.{encode}
use Rattle.definition.specs.Text.{lexeme}
use Rattle.definition.specs.Position.{cur_pos}
use Rattle.definition.specs.Kinds.{kind}
use Rattle.definition.specs.State.{no_pos, started, advance, new_line}
use Rattle.definition.specs.Item.{Step, tok, lex_error}
use Rattle.definition.specs.declared.Pos.{Pos}
use Rattle.definition.specs.declared.State.{State}
use Rattle.definition.specs.declared.Extra.TheVariants.{NoExtra}
use Rattle.laws_run.specs.Going.{string_from}
use Rattle.reader.specs.Described.{literal}
use Rattle.read_string.specs.declared.moves.Move.{Move}
use Rattle.read_string.specs.declared.moves.Move.TheVariants.{Copy, Skip, Line, Char, Surrogate, Close, Open}

-- the literal that began at byte `quote`, whose position is sp, and ends before byte e, where st stands at its closing quote
abbrev pub closed : Bytes → Bytes → ℕ → Pos → State → ℕ → Step
closed s acc quote sp st e = tok (kind "STRING") acc quote sp (cur_pos s (advance st e)) NoExtra (advance st e)

-- what a turn makes of what stands at the state's offset
abbrev pub does : Bytes → ℕ → Pos → State → Bytes → Move → Turn (State × Bytes) Step
does s quote sp st acc (Copy e) = again (advance st e, acc ++ lexeme s st.offset e)
does s quote sp st acc (Skip e) = again (new_line (advance st e), acc)
does s quote sp st acc (Line e) = again (new_line (advance st e), acc ++ lexeme s st.offset e)
does s quote sp st acc (Char c e) = again (advance st e, acc ++ encode c)
does s quote sp st acc Surrogate = done (lex_error s st 7 [] (cur_pos s st) (cur_pos s st))
does s quote sp st acc (Close e) = done (closed s acc quote sp st e)
does s quote sp st acc Open = done (lex_error s st 1 [] (cur_pos s st) (cur_pos s st))

-- a turn, as far as it is about states
abbrev pub states : Turn (State × Bytes) Step → Turn State Step
states (again a) = again a.0
states (done t) = done t

-- the literal whose bytes before byte i are acc
abbrev pub literal_from : Bytes → Bytes → ℕ → Bytes → Bytes
literal_from s f i acc = (string_from s f 0 no_pos (advance (started 0 0) i, acc)).payload

-- the literal from byte `from` on is read up to byte i: acc is what it holds so far, count bytes. It holds no more bytes than
-- were read, and where it holds as many they are those that were read
pub record Held (s f : Bytes) (from i count : ℕ) (acc : Bytes) : Type 0 where
  pub spells : literal_from s f i acc ≡ literal s f from
  pub counted : count ≡ length acc
  pub begun : from ≤ i
  pub within : i ≤ length s
  pub short : length acc ≤ i - from
  pub plain : length acc ≡ i - from → acc ≡ lexeme s from i
