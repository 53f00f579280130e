-- Documents by the paths of their files.
use Rattle.std.specs.Prelude.{◌≡◌, ℕ, ℤ, cond, List, Option, Vec}
use Rattle.std.specs.BTreeMap.{get_by_text}
use Rattle.std.specs.Str.{bytes_eq}
use Rattle.std.specs.declared.alloc.Global.{Global}
use Rattle.sml_client.specs.declared.documents.Document.{Document}
use Rattle.sml_client.specs.declared.documents.Documents.{Documents}

-- the document at a path, if it is open
abbrev pub at_path : Documents → List ℕ → Option Document
at_path documents path = get_by_text documents.open path

-- Since then this stands at a path, and at others what stood there before.
abbrev pub IsSetAt : List ℕ → Option Document → Documents → Documents → Type 0
IsSetAt path document old new = (other : List ℕ) → at_path new other ≡ cond (bytes_eq path other) document (at_path old other)

-- a document of another version, with another text
abbrev pub renewed : Option ℤ → Vec ℕ Global → Document → Document
renewed number words document = record document { version = number; text = words }
