-- What is read of a project, or why it isn't.
use Rattle.std.proofs.Common.{◌≡◌, ℕ, List, [], ◌∷◌, length, map, Vec, Result, Ok, Err, IfErr, string_bytes, sym, ap, subst, refl, inl, inr, arith, vec_len}
use Rattle.std.specs.Global.{Global}
use Rattle.std.specs.Result.{IsErrAnd}
use Rattle.std.proofs.lemmas.List.{length-map}
use Rattle.sml_projects.specs.declared.manifest.Manifest.{Manifest}
use Rattle.sml_projects.specs.declared.manifest.ManifestFault.{ManifestFault}
use Rattle.sml_projects.specs.declared.manifest.ManifestFault.TheVariants as MF
use Rattle.sml_projects.specs.declared.manifest.OrderFault.{OrderFault}
use Rattle.sml_projects.specs.declared.manifest.OrderFault.TheVariants as OF
use Rattle.sml_projects.specs.Orders.{IsOrderFault, IsProjectOf}
use Rattle.sml_projects.specs.ProjectFiles.{IsAnswerTo, units_in}
use Rattle.sml_session.specs.declared.files.Listed.{Listed}
use Rattle.sml_session.specs.declared.stops.Stop.{Stop}
use Rattle.sml_session.specs.Files.{Giving, AreTexts, IsRead, IsUnread, Only, most_bytes}
use Rattle.sml_session.specs.Stops.{stop_of_manifest, stop_of_order}

-- a project file that is no manifest
pub no_manifest : (Gives : Giving) (path text : List ℕ) (f : ManifestFault) (r : Result Listed Stop) → Gives path most_bytes text → IsAnswerTo text (Err f) → IsErrAnd r (λ s. s ≡ stop_of_manifest f)
    → IfErr r (IsUnread Gives path)
unfolding IsAnswerTo
no_manifest Gives path text f (Ok l) given h e = absurd e
no_manifest Gives path text MF.Memory (Err s) given h e = subst (IsUnread Gives path) (sym e) tt
no_manifest Gives path text (MF.Fault f) (Err s) given h e = subst (IsUnread Gives path) (sym e) (text, given, inl h)

-- units that have no order
pub no_order : (Gives : Giving) (path text : List ℕ) (m : Manifest) (f : OrderFault) (r : Result Listed Stop) → Gives path most_bytes text → IsAnswerTo text (Ok m)
    → IsOrderFault (units_in m) m.lines.items f → IsErrAnd r (λ s. s ≡ stop_of_order f) → IfErr r (IsUnread Gives path)
unfolding IsAnswerTo
no_order Gives path text m f (Ok l) given h k e = absurd e
no_order Gives path text m OF.Memory (Err s) given h k e = subst (IsUnread Gives path) (sym e) tt
no_order Gives path text m (OF.Fault f) (Err s) given h k e = subst (IsUnread Gives path) (sym e) (text, given, inr (m, h, k))

-- there is a text for each file
texts_count : (Gives : Giving) (path : List ℕ) (files texts : List (List ℕ)) → AreTexts Gives path files texts → length texts ≡ length files
texts_count Gives path [] [] h = refl
texts_count Gives path [] (t ∷ ts) h = absurd h
texts_count Gives path (f ∷ fs) [] h = absurd h
texts_count Gives path (f ∷ fs) (t ∷ ts) h = (let e = texts_count Gives path fs ts h.1 in omega (arith, e))

-- what is given later could have been given before
pub texts_before : (Before After : Giving) (path : List ℕ) (files texts : List (List ℕ)) → Only Before After → AreTexts After path files texts → AreTexts Before path files texts
texts_before Before After path [] [] only h = tt
texts_before Before After path [] (t ∷ ts) only h = absurd h
texts_before Before After path (f ∷ fs) [] only h = absurd h
texts_before Before After path (f ∷ fs) (t ∷ ts) only h = ((h.0.0, h.0.1, only h.0.0 most_bytes t h.0.2), texts_before Before After path fs ts only h.1)

pub project_read : (Gives : Giving) (path text : List ℕ) (m : Manifest) (l : Listed) (texts : Vec (Vec ℕ Global) Global) → Gives path most_bytes text → IsAnswerTo text (Ok m)
    → map string_bytes l.files.items ≡ map (λ u. u.file) (units_in m) → AreTexts Gives path (map string_bytes l.files.items) (map (λ t. t.items) texts.items)
    → (vec_len texts ≡ length (units_in m) → IsProjectOf (units_in m) (map (λ t. t.items) texts.items) l.project) → IsRead Gives path l
unfolding IsAnswerTo
project_read Gives path text m l texts given h files read made =
    let each = texts_count Gives path _ _ read in
    let items = length-map texts.items (λ t. t.items) in
    let units = length-map (units_in m) (λ u. u.file) in
    let held = texts.ok.0 in
    let same = ap length files in
    record {
      text = text;
      given = given;
      manifest = m;
      lists = h;
      files = files;
      texts = map (λ t. t.items) texts.items;
      read = read;
      project = made (omega (arith, each, items, units, held, same));
    }

-- so of what is read of it
pub read_before : (Before After : Giving) (path : List ℕ) (l : Listed) → Only Before After → IsRead After path l → IsRead Before path l
read_before Before After path l only h = record {
  text = h.text;
  given = only path most_bytes h.text h.given;
  manifest = h.manifest;
  lists = h.lists;
  files = h.files;
  texts = h.texts;
  read = texts_before Before After path (map string_bytes l.files.items) h.texts only h.read;
  project = h.project;
}
