-- Where a run stands after its tokens. s is the text, f the class file; rs and ps are the buffers before, rs' and ps' those after.
use Rattle.std.specs.Prelude.{ℕ, ◌+◌, ◌*◌, ◌≤◌, ◌<◌, ◌≡◌, List, [], length}
use Rattle.definition.specs.Basics.{Bytes}
use Rattle.definition.specs.Item.{record_size}
use Rattle.laws_run.specs.Left.{left}
use Rattle.laws_run.specs.Going.{run_from}
use Rattle.reader.specs.declared.Cursor.{Cursor}
use Rattle.run_turn.specs.Running.{writing, Between, StandsAhead}
use Rattle.fast_path.specs.declared.TokensWritten.{TokensWritten}

-- after its tokens a run stands between two items, what is still to come is what was to come before them, whatever the file's name is,
-- there is no more to read, and what stands ahead is said
pub record WritesTokens (s f : Bytes) (start : Cursor) (begun filled : ℕ) (rs : List ℕ) (ps : Bytes) (b : TokensWritten) (rs' : List ℕ) (ps' : Bytes) : Type 0 where
  pub between : Between s [] f b.at b.count b.used rs' ps'
  pub same : (name : Bytes) → length name ≤ 4096
      → run_from s name f (writing b.at b.count b.used rs' ps') ≡ run_from s name f (writing start begun filled rs ps)
  pub ahead : (name : Bytes) → length name ≤ 4096 → StandsAhead s name f b.at b.here b.ahead
  pub less : left s b.at.st ≤ left s start.st
  -- where no record fits, nothing is written and the run stands where it stood: it has only looked ahead
  pub full : length rs < record_size * begun + record_size → (b.at ≡ start) × (b.count ≡ begun) × (b.used ≡ filled) × (rs' ≡ rs) × (ps' ≡ ps)
