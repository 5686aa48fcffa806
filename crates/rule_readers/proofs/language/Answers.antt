-- The header is the definition's, with a name after six bytes.
use Rattle.definition.specs.Blob.{use_lang}
use Rattle.rule_readers.proofs.ReadOn.{before_blob, blob_reads}
use Rattle.rule_readers.proofs.language.Goals as goal

pub use_lang-requires : goal.use_lang-requires
use_lang-requires c = before_blob c.requires c.moved.ensures 6 c.header_at.ensures

pub returns : goal.returns
returns c = λ f. blob_reads c.requires c.moved.ensures 6 c.header_at.ensures (use_lang _) (c.use_lang.ensures f)
