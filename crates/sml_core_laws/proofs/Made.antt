-- Readings keep to what was made, and to types.
use Rattle.std.specs.Prelude.{◌≡◌, ℕ, Bool, true, false}
use Rattle.std.proofs.lemmas.Bool.{false≢true}
use mathlib.Core.Path.{refl}
use Rattle.sml_objects.specs.Initial.{Name, naming}
use Rattle.sml_objects.specs.Names.{Naming}
use Rattle.sml_objects.specs.Objects.{Head}
use Rattle.sml_core_rules.specs.Expressions.{read_dec}
use Rattle.sml_core_rules.specs.Scopes.{run_scope}
use Rattle.sml_core_rules.specs.States.{Scope}
use Rattle.sml_core_laws.proofs.MadeTakes.{takes-shape}
use Rattle.sml_core_laws.specs.Made.{ReadingsKeep, ReadingsSpeakOfWhatWasMade, ReadingsGiveTypes, Takes, IsGrown}
use Rattle.sml_core_laws.proofs.MadeShapes.{IsShape}
use Rattle.sml_core_laws.proofs.MadeScripts.{Leads, NoneAt, NoTypesAt, Known}
use Rattle.sml_core_laws.proofs.MadeExpressions.{dec-leads, DecAt}

readings-keep : (S : Head Name → ℕ → Type 0) (scope : Scope Name) → IsShape scope.names S → ReadingsKeep S scope
readings-keep S scope shape C vs d s t E w c h a =
    let leads : (b : Bool) → (b ≡ true → NoneAt S C s × NoTypesAt S vs s) → Leads S scope s (read_dec scope C vs d) (DecAt S b) = λ b none. dec-leads C vs d b c h (λ e o. (none e).0) (λ e o. (none e).1) in
    let ends : (b : Bool) → (b ≡ true → NoneAt S C s × NoTypesAt S vs s) → Known S scope t × IsGrown s t × DecAt S b E t = λ b none. let l = leads b none in l.ends (record { shape = shape; well = w }) (E, t) a in
    let r = ends false (λ e. absurd (false≢true e)) in
    (r.0.well, r.1, record { inside = r.2.0; closed = λ o m n. (ends true (λ e. (m, n))).2.1 refl o })

-- any number of parts

any-shape : {N : Type 0} (names : Naming N) → IsShape names (λ h k. Unit {0})
any-shape names = record {
  arrows = tt;
  rows = λ ls r. tt;
  tuples = λ ts. tt;
  names_alone = λ k a. tt;
  named = λ n. tt;
  test = λ h k. true;
  tested = λ h k e. tt;
  passes = λ h k s. refl;
}

pub readings-speak : ReadingsSpeakOfWhatWasMade
readings-speak scope = readings-keep (λ h k. Unit {0}) scope (any-shape scope.names)

-- as many as heads take

pub readings-give-types : ReadingsGiveTypes
readings-give-types unit = readings-keep (Takes naming) (run_scope unit) takes-shape
