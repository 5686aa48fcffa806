-- The header is the definition's, with a name after three bytes.
use Rattle.definition.specs.Blob.{blob}
use Rattle.rule_readers.proofs.ReadOn.{before_blob, blob_reads}
use Rattle.rule_readers.proofs.fenced.Goals as goal

pub blob-requires : goal.blob-requires
blob-requires c = before_blob c.requires c.moved.ensures 3 c.header_at.ensures

pub returns : goal.returns
returns c = λ f. blob_reads c.requires c.moved.ensures 3 c.header_at.ensures (blob _) (c.blob.ensures f)
