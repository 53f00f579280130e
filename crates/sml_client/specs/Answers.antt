-- What is written for an answer.
use Rattle.std.specs.Prelude.{◌≡◌, ◌++◌, ◌∷◌, ◌⊎◌, ℕ, ℤ, Bool, false, List, [], Option, None, Some, codes, decimal, length}
use Rattle.std.specs.Fmt.{signed_decimal}
use Rattle.serde_json.specs.Data.{Data}
use Rattle.serde_json.specs.Read.{read}
use Rattle.sml_reply.specs.Sinks.{in_turn}
use Rattle.sml_client.specs.Texts.{json_string}

-- a message: the length of its body, and the body
unfoldable pub message : List ℕ → List ℕ
message body = in_turn (codes "Content-Length: " ∷ decimal (length body) ∷ codes "\r\n\r\n" ∷ body ∷ [])

-- the body of an answer: an id, and what is given, by its name
unfoldable pub answer : List ℕ → List ℕ → List ℕ → List ℕ
answer id name given = in_turn (codes "{\"jsonrpc\":\"2.0\",\"id\":" ∷ id ∷ codes ",\"" ∷ name ∷ codes "\":" ∷ given ∷ codes "}" ∷ [])

-- After what was written before stands the answer to the request of this id, and nothing else. The id is JSON, and reads as
-- the request's.
pub record IsAnswered (id : Data) (name given before after : List ℕ) : Type 0 where
  pub text : List ℕ
  pub same : read text ≡ Some id
  pub written : after ≡ before ++ message (answer text name given)

-- a notification of diagnostics, which has these parameters
unfoldable pub notice : List ℕ → List ℕ
notice params = message (in_turn (codes "{\"jsonrpc\":\"2.0\",\"method\":\"textDocument/publishDiagnostics\",\"params\":" ∷ params ∷ codes "}" ∷ []))

-- such notifications, one after the other
abbrev pub notices : List (List ℕ) → List ℕ
notices [] = []
notices (p ∷ ps) = notice p ++ notices ps

-- Since then nothing was written but notifications of diagnostics.
abbrev pub OnlyTells : List ℕ → List ℕ → Type 0
OnlyTells before after = (ps : List (List ℕ)) × (after ≡ before ++ notices ps)

-- The client is told by these parameters, or, where it needn't be, of nothing.
abbrev pub TellsOf : List ℕ → Bool → List ℕ → List ℕ → Type 0
TellsOf params is_needed before after = (after ≡ before ++ notice params) ⊎ ((is_needed ≡ false) × (after ≡ before))

-- Since then one answer to the request of this id was written, and before it nothing but notifications of diagnostics.
abbrev pub AnswersOnce : Data → List ℕ → List ℕ → Type 0
AnswersOnce id before after = (told : List ℕ) × (name : List ℕ) × (given : List ℕ) × OnlyTells before told × IsAnswered id name given told after

-- a document's version, as a further member, where it has one
abbrev pub version_member : Option ℤ → List ℕ
version_member None = []
version_member (Some v) = codes ",\"version\":" ++ signed_decimal v

-- the parameters of a notification of diagnostics: their list, the file's address, and the version
abbrev pub params_json : List ℕ → Option ℤ → List ℕ → List ℕ
params_json uri version list = in_turn (codes "{\"diagnostics\":[" ∷ list ∷ codes "],\"uri\":" ∷ json_string uri ∷ version_member version ∷ codes "}" ∷ [])

-- what the client is asked, to tell of files that change on disk
abbrev pub watch_json : List ℕ
watch_json = codes "{\"jsonrpc\":\"2.0\",\"id\":\"watch\",\"method\":\"client/registerCapability\",\"params\":{\"registrations\":[{\"id\":\"watch\",\"method\":\"workspace/didChangeWatchedFiles\",\"registerOptions\":{\"watchers\":[{\"globPattern\":\"**/*.{sml,sig,fun,project}\"}]}}]}}"
