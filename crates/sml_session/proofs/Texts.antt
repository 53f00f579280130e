-- One more text that was read.
use Rattle.std.proofs.Common.{◌≡◌, ℕ, ◌+◌, ◌<◌, List, [], ◌∷◌, ◌++◌, length, map, take, get_or, ap, subst, sym, ◌∙◌, Vec, String, string_bytes}
use Rattle.std.specs.Global.{Global}
use Rattle.std.proofs.lemmas.List.{take_more, map-append}
use Rattle.sml_session.specs.Files.{AreTexts, IsUnitPath, most_bytes}

-- what is given for a unit's file
abbrev pub IsText : (List ℕ → ℕ → List ℕ → Type 0) → List ℕ → List ℕ → List ℕ → Type 0
IsText Gives project file text = (path : List ℕ) × IsUnitPath project file path × Gives path most_bytes text

one_more : (Gives : List ℕ → ℕ → List ℕ → Type 0) (project file text : List ℕ) (files texts : List (List ℕ)) → AreTexts Gives project files texts → IsText Gives project file text
    → AreTexts Gives project (files ++ file ∷ []) (texts ++ text ∷ [])
one_more Gives project file text [] [] h k = (k, tt)
one_more Gives project file text [] (t ∷ ts) h k = absurd h
one_more Gives project file text (f ∷ fs) [] h k = absurd h
one_more Gives project file text (f ∷ fs) (t ∷ ts) h k = (h.0, one_more Gives project file text fs ts h.1 k)

pub texts-more : (Gives : List ℕ → ℕ → List ℕ → Type 0) (project : List ℕ) (files : List (String Global)) (i : ℕ) (file : String Global) (texts new : List (Vec ℕ Global)) (text : Vec ℕ Global)
    → i < length files → file ≡ get_or files i file → AreTexts Gives project (map string_bytes (take i files)) (map (λ t. t.items) texts)
    → IsText Gives project (string_bytes file) text.items → new ≡ texts ++ text ∷ []
    → AreTexts Gives project (map string_bytes (take (i + 1) files)) (map (λ t. t.items) new)
texts-more Gives project files i file texts new text within is h given pushed =
    let names : map string_bytes (take (i + 1) files) ≡ map string_bytes (take i files) ++ string_bytes file ∷ [] =
    ap (map string_bytes) (take_more files i file within ∙ ap (λ x. take i files ++ x ∷ []) (sym is)) ∙ map-append string_bytes (take i files) (file ∷ []) in
    let bytes : map (λ t. t.items) new ≡ map (λ t. t.items) texts ++ text.items ∷ [] = ap (map (λ t. t.items)) pushed ∙ map-append (λ t. t.items) texts (text ∷ []) in
    subst (λ fs. AreTexts Gives project fs (map (λ t. t.items) new)) (sym names)
    (subst (AreTexts Gives project (map string_bytes (take i files) ++ string_bytes file ∷ [])) (sym bytes) (one_more Gives project (string_bytes file) text.items _ _ h given))
