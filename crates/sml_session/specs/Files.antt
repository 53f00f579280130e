-- What a project is read from: its project file, and the files of its units.
use Rattle.std.specs.Prelude.{◌≡◌, ◌⊎◌, ℕ, Bool, true, false, ◌==◌, List, [], ◌∷◌, ◌++◌, codes, map, slice_index}
use Rattle.std.specs.Str.{NoCharPasses}
use Rattle.std.specs.String.{string_bytes}
use Rattle.sml_projects.specs.declared.manifest.Manifest.{Manifest}
use Rattle.sml_projects.specs.declared.manifest.OrderFault.TheVariants.{Fault}
use Rattle.sml_projects.specs.declared.manifest.ProjectFault.{ProjectFault}
use Rattle.sml_projects.specs.Orders.{IsOrderFault, IsProjectOf}
use Rattle.sml_projects.specs.ProjectFiles.{IsFault, IsManifestOf, units_in}
use Rattle.sml_session.specs.declared.files.Listed.{Listed}
use Rattle.sml_session.specs.declared.stops.Stop.{Stop}
use Rattle.sml_session.specs.declared.stops.Stop.TheVariants.{Project, Unreadable, Write, Memory}

-- which bytes a source may give for a path, where it is asked for so many at most
abbrev pub Giving : Type 1
Giving = List ℕ → ℕ → List ℕ → Type 0

-- what is given later could have been given before
abbrev pub Only : Giving → Giving → Type 0
Only Before After = (path : List ℕ) (most : ℕ) (text : List ℕ) → After path most text → Before path most text

-- one byte more than the greatest unit and the greatest project file have
abbrev pub most_bytes : ℕ
most_bytes = 1048577

-- a path begins with a slash
abbrev pub is_rooted : List ℕ → Bool
is_rooted path = slice_index path 0 == 47

-- what stands up to the last slash of a path, with it; nothing where there is none
pub record IsFolderOf (path folder : List ℕ) : Type 0 where
  pub name : List ℕ
  pub whole : path ≡ folder ++ name
  pub bare : NoCharPasses (λ c. c == 47) name
  pub ends : (folder ≡ []) ⊎ ((front : List ℕ) × (folder ≡ front ++ codes "/"))

-- the path of a unit's file: as it is written, where it begins with a slash, or else in the folder of the project file
abbrev pub IsUnitPath : List ℕ → List ℕ → List ℕ → Type 0
IsUnitPath project file path = ((is_rooted file ≡ true) × (path ≡ file)) ⊎ ((is_rooted file ≡ false) × ((folder : List ℕ) × IsFolderOf project folder × (path ≡ folder ++ file)))

-- each unit's text is what the source gives for its file
abbrev pub AreTexts : Giving → List ℕ → List (List ℕ) → List (List ℕ) → Type 0
AreTexts Gives project [] [] = Unit {0}
AreTexts Gives project (file ∷ files) (text ∷ texts) = ((path : List ℕ) × IsUnitPath project file path × Gives path most_bytes text) × AreTexts Gives project files texts
AreTexts Gives project files texts = ⊥

-- The project of the project file that the source gives for a path: the units that its lines list, with their texts.
pub record IsRead (Gives : Giving) (path : List ℕ) (l : Listed) : Type 0 where
  pub text : List ℕ
  pub given : Gives path most_bytes text
  pub manifest : Manifest
  pub lists : IsManifestOf text manifest
  pub files : map string_bytes l.files.items ≡ map (λ u. u.file) (units_in manifest)
  pub texts : List (List ℕ)
  pub read : AreTexts Gives path (map string_bytes l.files.items) texts
  pub project : IsProjectOf (units_in manifest) texts l.project

-- a file that couldn't be had
abbrev pub IsNoFile : Stop → Type 0
IsNoFile (Project f) = ⊥
IsNoFile (Unreadable path) = Unit {0}
IsNoFile Write = ⊥
IsNoFile Memory = Unit {0}

-- the fault of a project file, or of the order of the units that its lines list
abbrev pub IsProjectFault : List ℕ → ProjectFault → Type 0
IsProjectFault text f = IsFault text f ⊎ ((manifest : Manifest) × IsManifestOf text manifest × IsOrderFault (units_in manifest) manifest.lines.items (Fault f))

-- why there is no project of the project file that the source gives for a path
abbrev pub IsUnread : Giving → List ℕ → Stop → Type 0
IsUnread Gives path (Project f) = (text : List ℕ) × Gives path most_bytes text × IsProjectFault text f
IsUnread Gives path (Unreadable name) = Unit {0}
IsUnread Gives path Write = ⊥
IsUnread Gives path Memory = Unit {0}
