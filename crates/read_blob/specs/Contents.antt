-- `blob` and `use_lang` as one loop, by whether the contents are another language's (lang); and where their reader stands.
-- s is the text, from the byte where the contents begin, h the definition's header.
use Rattle.std.specs.Prelude.{ℕ, ◌≤◌, ◌≡◌, Bool, true, false, length}
use Rattle.definition.specs.Basics.{Bytes, Turn, again, done}
use Rattle.definition.specs.Text.{lexeme}
use Rattle.definition.specs.Position.{cur_pos}
use Rattle.definition.specs.Kinds.{kind}
use Rattle.definition.specs.State.{advance, new_line}
use Rattle.definition.specs.Item.{Step, blob_tok}
use Rattle.definition.specs.Blob as source
use Rattle.definition.specs.declared.State.{State}
use Rattle.reader.specs.Standing.{Standing}
use Rattle.reader.specs.declared.Cursor.{Cursor}
use Rattle.read_blob.specs.declared.Header.{Header}
use Rattle.read_blob.specs.declared.Move.{Move}
use Rattle.read_blob.specs.declared.Move.TheVariants.{Close, Open, Line, On}

-- the definition's header
abbrev pub header_of : Bytes → Header → source.Header
header_of s h = record { name = lexeme s h.from h.to; pos = h.pos; snap = h.snap; start = h.start }

abbrev pub kind_of : Bool → ℕ
kind_of true = kind "USE_LANG_BLOB"
kind_of false = kind "BLOB"

-- a turn of either, and the whole
abbrev pub contents_turn : Bytes → Bool → ℕ → source.Header → State → Turn State Step
contents_turn s true from h st = source.lang_turn s from h st
contents_turn s false from h st = source.blob_turn s from h st

abbrev pub contents : Bytes → Bool → source.Header → State → Step
contents s true h st = source.use_lang s h st
contents s false h st = source.blob s h st

-- the blob whose contents end at st, after which reading goes on at e
abbrev pub blob_step : Bytes → Bool → ℕ → source.Header → State → ℕ → Step
blob_step s lang from h st e =
    let next = advance st e in
    blob_tok (kind_of lang) h.name (lexeme s from st.offset) h.start (cur_pos s st) (cur_pos s next) h.pos h.snap next

-- what a turn makes of what stands at the state's offset
abbrev pub does : Bytes → Bool → ℕ → source.Header → State → Move → Turn State Step
does s lang from h st (Close e) = done (blob_step s lang from h st e)
does s lang from h st Open = done (source.unterminated s st)
does s lang from h st (Line e) = again (new_line (advance st e))
does s lang from h st (On e) = again (advance st e)

-- where the reader of a blob stands
pub record InBlob (s : Bytes) (header : Header) (from : ℕ) (at : Cursor) : Type 0 where
  pub standing : Standing s at.st at.known
  pub between : at.st.mode ≡ 0
  pub begun : from ≤ at.st.offset
  pub named : header.to ≤ length s
