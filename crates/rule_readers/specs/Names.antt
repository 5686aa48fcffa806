-- Headers of blobs as the readers hand them on. s is the text, e the choice's end.
use Rattle.std.specs.Prelude.{ℕ, ◌≡◌}
use Rattle.definition.specs.Basics.{Bytes}
use Rattle.definition.specs.Blob as source
use Rattle.read_blob.specs.Contents.{header_of}
use Rattle.read_blob.specs.declared.Header.{Header}

-- r is the definition's header h, and the name in it ends at e
pub record Names (s : Bytes) (h : source.Header) (e : ℕ) (r : Header) : Type 0 where
  pub is : header_of s r ≡ h
  pub ends : r.to ≡ e
