-- Paths of units' files.
use Rattle.std.proofs.Common.{◌≡◌, ℕ, Bool, true, false, ◌||◌, cond, List, [], ◌∷◌, ◌++◌, map, Result, Ok, Err, IfOk, String, Global, ap, refl, sym, subst, ◌∙◌}
use Rattle.std.specs.String.{string_bytes}
use Rattle.sml_client.specs.Paths.{is_rooted, normal_path, path_in}
use Rattle.sml_session.specs.declared.files.Listed.{Listed}
use Rattle.sml_session.specs.Files.{Giving, IsRead, IsUnitPath}
use Rattle.sml_serve.specs.declared.projects.Outcome.{Outcome}
use Rattle.sml_serve.specs.declared.projects.Outcome.TheVariants.{Project, Trouble}
use Rattle.sml_serve.specs.Overlaid.{ArePathsOf, IsListing, IsOutcome, IsPathOf, files_in}

pub paths_push : (project : List ℕ) (files paths : List (List ℕ)) (file path : List ℕ) → ArePathsOf project files paths → IsPathOf project file path → ArePathsOf project (files ++ file ∷ []) (paths ++ path ∷ [])
paths_push project [] [] file path h k = (k, tt)
paths_push project [] (p ∷ paths) file path h k = absurd h
paths_push project (f ∷ files) [] file path h k = absurd h
paths_push project (f ∷ files) (p ∷ paths) file path h k = (h.0, paths_push project files paths file path h.1 k)

either : (b : Bool) (x y : List ℕ) → cond (b || true) x y ≡ x
either true x y = refl
either false x y = refl

-- a file in no folder
in_none : (file : List ℕ) → normal_path (path_in [] file) ≡ normal_path file
in_none file = ap normal_path (either (is_rooted file) file ([] ++ (47 ∷ file)))

pub path_made : {E : Type 0} (project file written : List ℕ) (r : Result (String Global) E) → IsUnitPath project file written
    → IfOk r (λ s. string_bytes s ≡ normal_path (path_in [] written)) → IfOk r (λ path. IsPathOf project file (string_bytes path))
path_made project file written (Ok s) is h = (written, is, h ∙ in_none written)
path_made project file written (Err e) is h = tt

-- what is listed was read
pub outcome_of : {E : Type 0} (Gives : Giving) (path : List ℕ) (l : Listed) (r : Result Outcome E) → IsRead Gives path l → IfOk r (IsListing path l) → IfOk r (IsOutcome Gives path)
outcome_of Gives path l (Ok (Project k ps)) read h =
    (subst (IsRead Gives path) (sym h.0) read, subst (λ x. ArePathsOf path (files_in x) (map string_bytes ps.items)) (sym h.0) h.1)
outcome_of Gives path l (Ok (Trouble t)) read h = absurd h
outcome_of Gives path l (Err e) read h = tt
