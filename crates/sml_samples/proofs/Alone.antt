-- Answers to declarations of one part.
use Rattle.std.specs.Prelude.{◌≡◌, List, [], ◌∷◌, ◌++◌, Option, Some, None}
use mathlib.Core.Path.{refl}
use mathlib.Core.Logic.{inl, inr}
use Rattle.sml_lex.specs.declared.fault.Code.TheVariants.{Q2}
use Rattle.sml_lex.specs.Faults.{Fault}
use Rattle.sml_objects.specs.Initial.{Name}
use Rattle.sml_rules.specs.Answers.{Answer, refused, accepted, fault}
use Rattle.sml_core_rules.specs.Objects.{Basis}
use Rattle.sml_core_rules.specs.Expressions.{at_first}
use Rattle.sml_core_rules.specs.States.{State, Judged}
use Rattle.sml_core_rules.specs.Scripts.{Script, IsAnswer}
use Rattle.sml_module_rules.specs.Structures.{Added, add_basis, nothing, own_basis, AreFew, IsSmallBasis, IsDetermined, AreAlone, IsAnswered}
use Rattle.sml_samples.specs.Around.{Place, scope}
use Rattle.sml_samples.specs.Modules.{with_functors}

-- the basis without functors
abbrev pub top : Basis Name
top = with_functors [] []

abbrev IsOnePart : Basis Name → Script Place Name (Basis Name) → Answer Place (Added Place Name) → Type 0
IsOnePart B k o = (ms : Answer Place (List (Option (Added Place Name)))) × AreAlone scope B.names (k ∷ []) ms × IsAnswered scope B 1 ms o

-- the part is accepted, all types of it are determined, and what it binds isn't too large
pub accepts : (B : Basis Name) (k : Script Place Name (Basis Name)) (r : Basis Name × State Place Name) {A C : Basis Name} → IsAnswer scope k (at_first B.names) (accepted r) → IsDetermined scope r.1 r.0 A
    → IsSmallBasis (add_basis A nothing) → AreFew scope B.names (own_basis scope B.names (add_basis A nothing)) → C ≡ own_basis scope B.names (add_basis A nothing)
    → (js : List (Judged Place)) × IsOnePart B k (accepted (record { basis = C; judged = js }))
unfolding AreAlone
accepts B k r {A} h d small few e =
    let X : Added Place Name = record { basis = A; judged = r.1.judged } in (
      r.1.judged ++ [],
      (
        accepted (Some X ∷ []),
        inr (Some X, (accepted r, h, inl (A, d, refl)), accepted [], refl, refl),
        inr (inr (small, few, λ i. accepted (record { basis = e i; judged = r.1.judged ++ [] }))),
      ),
    )

-- the part is refused
pub refuses : (B : Basis Name) (k : Script Place Name (Basis Name)) {f : Fault Place} → IsAnswer scope k (at_first B.names) (refused f) → IsOnePart B k (refused f)
unfolding AreAlone
refuses B k {f} h = (refused f, inl (f, (refused f, h, refl), refl), refl)

-- the part is accepted, and a type of it is left open
pub stays-open : (B : Basis Name) (k : Script Place Name (Basis Name)) (r : Basis Name × State Place Name) → IsAnswer scope k (at_first B.names) (accepted r)
    → ((C : Basis Name) → ¬ (IsDetermined scope r.1 r.0 C)) → IsOnePart B k (refused (fault Q2 1))
unfolding AreAlone
stays-open B k r h n = (accepted (None ∷ []), inr (None, (accepted r, h, inr (n, refl)), accepted [], refl, refl), refl)
