-- What the functions of matching give.
use Rattle.std.specs.Prelude.{◌≡◌, ℕ, Bool, true, false, Option, Some, None, IsSome, List, [], ◌∷◌, length, nat_eq, ◌↔◌}
use Rattle.std.specs.Map.{lookup}
use Rattle.std.specs.Option.{option_map}
use Rattle.std.specs.Global.{Global}
use Rattle.std.specs.declared.rc.Rc.{Rc}
use Rattle.sml_lex.specs.declared.fault.Place.{Place}
use Rattle.sml_lex.specs.declared.fault.Code.TheVariants.{M1, M2, M6}
use Rattle.sml_tree.specs.Trees.{Id}
use Rattle.sml_objects.specs.Maps as M
use Rattle.sml_objects.specs.Objects as O
use Rattle.sml_objects.specs.Objects.{types, values, free}
use Rattle.sml_objects.specs.Types.{replace_type, replace_types}
use Rattle.sml_objects.specs.Initial.{Name, naming}
use Rattle.sml_objects.specs.Views.{name_of, scheme_of, type_of}
use Rattle.sml_objects.specs.declared.objects.TyName.{TyName}
use Rattle.sml_objects.specs.declared.objects.Scheme.{Scheme}
use Rattle.sml_objects.specs.declared.objects.MlType.{MlType}
use Rattle.sml_rules.specs.Rules.{IsOpen, AreOpen, IsInstance}
use Rattle.sml_rules.specs.Matching.{Realisation, realise_type}
use Rattle.sml_rules.specs.Answers.{Reading, give, ◌>>=◌, test, fault_at}
use Rattle.sml_piece.specs.Elaborated.{or_else}

-- this name is sent there, and no other
abbrev pub alone : Name → O.Scheme Name → Realisation Name
alone m θ n = elim (naming.same m n) [ yes _ ↦ Some θ | no _ ↦ None ]

-- each name is sent to the first of its type functions
abbrev pub sends : List (TyName × Rc Scheme Global) → Realisation Name
sends [] n = None
sends (e ∷ es) n = or_else (alone (name_of e.0) (scheme_of e.1.value) n) (sends es n)

-- the type functions of names, of each of which one is asked
module _ (p : Place) (E : O.Env Name) where
  abbrev pub read_name : Id × O.Scheme Name → Reading Place (Unit {0})
  read_name x = do
    u ← test (IsSome (M.lookup x.0 (types E))) (fault_at M1 p (x.0 ∷ []))
    v ← test ((θ : O.Scheme Name) → M.lookup x.0 (types E) ≡ Some θ → length θ.variables ≡ length x.1.variables) (fault_at M2 p (x.0 ∷ []))
    give tt

  abbrev pub read_value : Realisation Name → Id × O.Scheme Name → Reading Place (Unit {0})
  read_value φ x = do
    u ← test (IsSome (M.lookup x.0 (values E))) (fault_at M1 p (x.0 ∷ []))
    v ← test ((σ : O.Scheme Name) → M.lookup x.0 (values E) ≡ Some σ → IsInstance σ (realise_type φ x.1.body)) (fault_at M6 p (x.0 ∷ []))
    give tt

-- the realised types of these values have no bound variable
abbrev pub PlainUnder : Realisation Name → M.Map (O.Scheme Name) → Type 0
PlainUnder φ [] = Unit {0}
PlainUnder φ (x ∷ xs) = IsOpen (realise_type φ x.1.body) × PlainUnder φ xs

-- Types for some of the bound variables of a scheme.
abbrev pub Found : Type 0
Found = ℕ → Option (O.MlType Name)

abbrev pub found_in : List (ℕ × Rc MlType Global) → Found
found_in es k = option_map (λ t. type_of t.value) (lookup (nat_eq k) es)

-- each of them is what stands for its variable
abbrev pub Agrees : Found → (ℕ → O.MlType Name) → Type 0
Agrees found args = (k : ℕ) (t : O.MlType Name) → found k ≡ Some t → args k ≡ t

abbrev pub AreOpenIn : Found → Type 0
AreOpenIn found = (k : ℕ) (t : O.MlType Name) → found k ≡ Some t → IsOpen t

-- Whether a body becomes the type by the types found before and more: then those found after it are what it asks.
abbrev pub Fits : Found → Found → O.MlType Name → O.MlType Name → Bool → Type 0
Fits old new body t true =
    ((args : ℕ → O.MlType Name) → Agrees new args ↔ (Agrees old args × (t ≡ replace_type args free body))) × (AreOpenIn old → IsOpen t → AreOpenIn new)
Fits old new body t false = (args : ℕ → O.MlType Name) → Agrees old args → ¬ (t ≡ replace_type args free body)

abbrev pub FitAll : Found → Found → O.MlTypes Name → O.MlTypes Name → Bool → Type 0
FitAll old new bodies ts true =
    ((args : ℕ → O.MlType Name) → Agrees new args ↔ (Agrees old args × (ts ≡ replace_types args free bodies))) × (AreOpenIn old → AreOpen ts → AreOpenIn new)
FitAll old new bodies ts false = (args : ℕ → O.MlType Name) → Agrees old args → ¬ (ts ≡ replace_types args free bodies)

-- the answer is right
abbrev pub Decides : Type 0 → Bool → Type 0
Decides P true = P
Decides P false = ¬ P
