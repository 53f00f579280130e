-- What is read where open documents stand in for files.
use Rattle.std.specs.Prelude.{◌≡◌, ℕ, List, [], ◌∷◌, map, slice_index_or, take, Option, None, Some}
use Rattle.std.specs.String.{string_bytes}
use Rattle.sml_client.specs.declared.documents.Document.{Document}
use Rattle.sml_client.specs.declared.documents.Documents.{Documents}
use Rattle.sml_client.specs.Documents.{at_path}
use Rattle.sml_client.specs.Paths.{normal_path}
use Rattle.sml_session.specs.declared.files.Listed.{Listed}
use Rattle.sml_session.specs.Files.{Giving, IsRead, IsUnitPath}
use Rattle.sml_serve.specs.declared.projects.Outcome.{Outcome}
use Rattle.sml_serve.specs.declared.projects.Outcome.TheVariants.{Project, Trouble}

-- a document's text, as far as it is asked for; or what the files may give, where none is open
abbrev pub GivenBy : Option Document → Giving → Giving
GivenBy None Gives path most text = Gives path most text
GivenBy (Some d) Gives path most text = text ≡ take most d.text.items

-- the document is the one that is open at the path
abbrev pub overlaid : Documents → Giving → Giving
overlaid documents Gives path most text = GivenBy (at_path documents (normal_path path)) Gives path most text

-- the path of a unit's file, without empty parts, `.`, and `..` after another part
abbrev pub IsPathOf : List ℕ → List ℕ → List ℕ → Type 0
IsPathOf project file path = (written : List ℕ) × IsUnitPath project file written × (path ≡ normal_path written)

abbrev pub ArePathsOf : List ℕ → List (List ℕ) → List (List ℕ) → Type 0
ArePathsOf project [] [] = Unit {0}
ArePathsOf project (file ∷ files) (path ∷ paths) = IsPathOf project file path × ArePathsOf project files paths
ArePathsOf project files paths = ⊥

-- the files of the units of a project, in its order
abbrev pub files_in : Listed → List (List ℕ)
files_in l = map (λ u. slice_index_or (map string_bytes l.files.items) u.id.index []) l.project.units.items

-- a project with the path of each unit's file
abbrev pub IsListing : List ℕ → Listed → Outcome → Type 0
IsListing path listed (Project l paths) = (l ≡ listed) × ArePathsOf path (files_in listed) (map string_bytes paths.items)
IsListing path listed (Trouble t) = ⊥

-- The project that is read, with these paths. Of what is wrong with a project file nothing is said.
abbrev pub IsOutcome : Giving → List ℕ → Outcome → Type 0
IsOutcome Gives path (Project l paths) = IsRead Gives path l × ArePathsOf path (files_in l) (map string_bytes paths.items)
IsOutcome Gives path (Trouble t) = Unit {0}
