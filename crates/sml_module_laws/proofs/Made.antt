-- Readings of modules keep to what was made.
use Rattle.std.specs.Prelude.{◌≡◌, ℕ, List, [], ◌∷◌}
use mathlib.Core.Path.{refl}
use Rattle.sml_lex.specs.declared.fault.Place.{Place}
use Rattle.sml_objects.specs.Initial.{Name, naming}
use Rattle.sml_objects.specs.Objects.{name}
use Rattle.sml_layers.specs.Explicit.{variable_name}
use Rattle.sml_layers.specs.declared.variable.Variable.{Variable}
use Rattle.sml_core_rules.specs.Objects.{Basis}
use Rattle.sml_core_rules.specs.Scopes.{run_scope}
use Rattle.sml_core_rules.specs.Scripts.{Script}
use Rattle.sml_core_rules.specs.States.{State, Window, no_window}
use Rattle.sml_core_laws.specs.Made.{IsWellMade, Takes}
use Rattle.sml_core_laws.proofs.MadeTakes.{takes-shape}
use Rattle.sml_module_rules.specs.Structures.{read_str, read_strdec, parts}
use Rattle.sml_module_laws.specs.Made.{IsResultAt, IsAddedAt, AllKeep, SignaturesSpeakOfWhatWasMade, AscriptionsSpeakOfWhatWasMade, ApplicationsSpeakOfWhatWasMade, StructuresSpeakOfWhatWasMade, DeclarationsSpeakOfWhatWasMade, PartsSpeakOfWhatWasMade, ReadingsOfModulesSpeakOfWhatWasMade}
use Rattle.sml_module_laws.proofs.Steps.{Ready, Goes, BodyAt}
use Rattle.sml_module_laws.proofs.Described.{SigAt}
use Rattle.sml_module_laws.proofs.Signatures.{sig-goes}
use Rattle.sml_module_laws.proofs.Matched.{ascribe-goes, functor-goes}
use Rattle.sml_module_laws.proofs.Structures.{Reaches, str-reaches, strdec-reaches}
use Rattle.sml_module_laws.proofs.Parts.{AllReach, parts-reach}
use Rattle.sml_module_laws.proofs.Tops.{tops-in}

ready : {P : Type 0} (unit : ℕ) (s : State P Name) (w : Window P Name) → s.window ≡ w → IsWellMade (Takes naming) (run_scope unit) s → Ready (Takes naming) (run_scope unit) w s
ready unit s w e h = record { exact = λ n k e. e; known = record { shape = takes-shape; well = h }; window = e }

pub signatures-speak : SignaturesSpeakOfWhatWasMade
signatures-speak unit G C e s t R w m c a =
    let g : Goes (Takes naming) (run_scope unit) s.window s _ (SigAt (Takes naming)) = sig-goes G C e m c in
    let d = g.ends (ready unit s s.window refl w) (R, t) a in (d.0.known.well, d.1, d.2)

pub ascriptions-speak : AscriptionsSpeakOfWhatWasMade
ascriptions-speak unit p E a R s t F w c h k =
    let g : Goes (Takes naming) (run_scope unit) s.window s _ (BodyAt (Takes naming)) = ascribe-goes p E a R c h in
    let d = g.ends (ready unit s s.window refl w) (F, t) k in (d.0.known.well, d.1, d.2)

pub applications-speak : ApplicationsSpeakOfWhatWasMade
applications-speak unit p F E s t R w f c a =
    let g : Goes (Takes naming) (run_scope unit) s.window s _ (BodyAt (Takes naming)) = functor-goes p F E f c in
    let d = g.ends (ready unit s s.window refl w) (R, t) a in (d.0.known.well, d.1, d.2)

pub structures-speak : StructuresSpeakOfWhatWasMade
structures-speak e unit B C s t E w o b c a =
    let g : Reaches (Takes naming) (run_scope unit) s (read_str (run_scope unit) B C e) (λ E t. IsResultAt (Takes naming) t E) = str-reaches B C e b c in
    let d = g.ends (ready unit s no_window o w) (E, t) a in (d.0.known.well, d.0.window, d.1, d.2)

pub declarations-speak : DeclarationsSpeakOfWhatWasMade
declarations-speak e unit B C s t E w o b c a =
    let g : Reaches (Takes naming) (run_scope unit) s (read_strdec (run_scope unit) B C e) (λ E t. IsResultAt (Takes naming) t E) = strdec-reaches B C e b c in
    let d = g.ends (ready unit s no_window o w) (E, t) a in (d.0.known.well, d.0.window, d.1, d.2)

pub parts-speak : PartsSpeakOfWhatWasMade
parts-speak unit B d = all (parts (run_scope unit) B d) (parts-reach (Takes naming) (run_scope unit) B d)
  where
    all : (ks : List (Script Place Name (Basis Name))) → AllReach (Takes naming) (run_scope unit) B ks → AllKeep unit B ks
    all [] h = tt
    all (k ∷ ks) h = (
      λ s t A w o b c a.
          let g : Reaches (Takes naming) (run_scope unit) s k (λ A t. IsAddedAt (Takes naming) t A) = h.0 s b c in
          let d = g.ends (ready unit s no_window o w) (A, t) a in (d.0.known.well, d.0.window, d.1, d.2),
      all ks h.1,
    )

-- the names of explicit variables have no parameters
pub variables : (x : Variable) → Takes naming (name (variable_name x)) 0
unfolding naming
variables x = refl

pub tops-speak : ReadingsOfModulesSpeakOfWhatWasMade
tops-speak unit B p d A initials inside h = tops-in (Takes naming) (run_scope unit) (λ n k e. e) takes-shape variables B initials inside p d A h
