-- What the client says of itself, and what is answered.
use Rattle.std.specs.Prelude.{◌≡◌, ◌++◌, ◌∷◌, ℕ, Bool, false, cond, ◌||◌, List, [], IsSomeAnd, MatchOption, Option, None, Some, codes, option_and_then, option_map, string_bytes, unwrap_or}
use Rattle.std.specs.Str.{bytes_eq}
use Rattle.std.specs.Str.Pattern.{FindsCharSuffix, IsTrimEndMatches}
use Rattle.serde_json.specs.Data.{Data, Items, no_items, item}
use Rattle.serde_json.specs.Find.{as_str}
use Rattle.sml_client.specs.Paths.{is_file, normal_path, path_in, path_named}
use Rattle.sml_client.specs.Values.{at_names, is_true_in, items_at}
use Rattle.sml_client.specs.declared.positions.Encoding.{Encoding}
use Rattle.sml_client.specs.declared.positions.Encoding.TheVariants.{Utf8, Utf16}
use Rattle.sml_client.specs.declared.settings.Settings.{Settings}

-- what holds before the client said anything
abbrev pub unsaid : Settings
unsaid = record { encoding = Utf16; root = None; project = None; pages = None; is_nested = false; is_watching = false }

-- the name of an encoding
abbrev pub name_of : Encoding → List ℕ
name_of Utf8 = codes "utf-8"
name_of Utf16 = codes "utf-16"

-- what is answered to `initialize` by this encoding
abbrev pub welcome_json : Encoding → List ℕ
welcome_json e = codes "{\"capabilities\":{\"positionEncoding\":\"" ++ (name_of e
    ++ codes "\",\"textDocumentSync\":{\"openClose\":true,\"change\":1,\"save\":true},\"hoverProvider\":true,\"documentSymbolProvider\":true},\"serverInfo\":{\"name\":\"smlserve\",\"version\":\"1\"}}")

-- the text `utf-8`
abbrev pub says_utf8 : Data → Bool
says_utf8 d = unwrap_or (option_map (λ s. bytes_eq s (codes "utf-8")) (as_str d)) false

-- one of these is that text
abbrev pub names_utf8 : Items → Bool
names_utf8 no_items = false
names_utf8 (item d ds) = says_utf8 d || names_utf8 ds

-- the encoding that the client is answered by: UTF-8 where it offers it
abbrev pub encoding_in : Data → Encoding
encoding_in d = cond (names_utf8 (items_at (codes "capabilities" ∷ codes "general" ∷ codes "positionEncodings" ∷ []) d)) Utf8 Utf16

-- the text at a path of names
abbrev pub text_in : List (List ℕ) → Data → Option (List ℕ)
text_in names d = option_and_then as_str (at_names names d)

-- the first of some values
abbrev pub first_of : Items → Option Data
first_of no_items = None
first_of (item d ds) = Some d

-- the first thing, or else the second one
abbrev pub or_else : Option (List ℕ) → Option (List ℕ) → Option (List ℕ)
or_else None other = other
or_else (Some path) other = Some path

-- the address of the first folder of the workspace
abbrev pub folder_uri_in : Data → Option (List ℕ)
folder_uri_in d = option_and_then (text_in (codes "uri" ∷ [])) (first_of (items_at (codes "workspaceFolders" ∷ []) d))

-- the path of the workspace's root: the first folder, or what is named by an address, or by a path
abbrev pub root_in : Data → Option (List ℕ)
root_in d = or_else (option_map path_named (folder_uri_in d))
    (or_else (option_map path_named (text_in (codes "rootUri" ∷ []) d)) (option_map (λ path. normal_path (path_in [] path)) (text_in (codes "rootPath" ∷ []) d)))

-- the path of the project file: one that is named by a path lies in the root, or in this folder
abbrev pub project_in : Option (List ℕ) → List ℕ → Data → Option (List ℕ)
project_in root folder d =
    option_map (λ named. cond (is_file named) (path_named named) (normal_path (path_in (unwrap_or root folder) named))) (text_in (codes "initializationOptions" ∷ codes "project" ∷ []) d)

-- the address of the folder with the pages of codes, without the slashes at its end
abbrev pub ArePages : Data → Option (List ℕ) → Type 0
ArePages d pages = MatchOption (text_in (codes "initializationOptions" ∷ codes "pages" ∷ []) d) (pages ≡ None) (λ named. IsSomeAnd pages (λ p. IsTrimEndMatches (FindsCharSuffix 47) named p))

-- what the parameters of `initialize` say, where the server was begun in this folder
pub record Says (d : Data) (folder : List ℕ) (s : Settings) : Type 0 where
  pub encoding : s.encoding ≡ encoding_in d
  pub root : option_map string_bytes s.root ≡ root_in d
  pub project : option_map string_bytes s.project ≡ project_in (root_in d) folder d
  pub pages : ArePages d (option_map string_bytes s.pages)
  pub is_nested : s.is_nested ≡ is_true_in (codes "capabilities" ∷ codes "textDocument" ∷ codes "documentSymbol" ∷ codes "hierarchicalDocumentSymbolSupport" ∷ []) d
  pub is_watching : s.is_watching ≡ is_true_in (codes "capabilities" ∷ codes "workspace" ∷ codes "didChangeWatchedFiles" ∷ codes "dynamicRegistration" ∷ []) d
