-- That types are read alike whatever the names are: what is read with other names for those of the environment is what was read with
-- these names in it. Different names may become one, and a name may become one with another arity or equality attribute.
use Rattle.std.specs.Prelude.{◌≡◌, List, map, Option, Some, None}
use Rattle.sml_lex.specs.declared.fault.Place.{Place}
use Rattle.sml_tree.specs.Expressions.{TypBind, DatBind}
use Rattle.sml_tree.specs.Types.{Ty}
use Rattle.sml_objects.specs.Initial.{Name}
use Rattle.sml_objects.specs.Maps.{Map}
use Rattle.sml_objects.specs.Objects.{MlType, rename_type}
use Rattle.sml_rules.specs.Answers.{Answer, refused, accepted}
use Rattle.sml_core_rules.specs.Datatypes.{Arguments, arguments_of, read_type_binds}
use Rattle.sml_core_rules.specs.Objects.{Env, TyStr, rename_env, rename_ty_str, replaced}
use Rattle.sml_core_rules.specs.Types.{read_ty}

-- what was answered, with something else for the object
abbrev pub answer_with : {P X Y : Type 0} → (X → Y) → Answer P X → Answer P Y
answer_with f (refused x) = refused x
answer_with f (accepted x) = accepted (f x)

abbrev pub rename_argument : {A B : Type 0} → (A → B) → Option (MlType A) → Option (MlType B)
rename_argument f None = None
rename_argument f (Some t) = Some (rename_type f t)

abbrev pub rename_arguments : {A B : Type 0} → (A → B) → Arguments A → Arguments B
rename_arguments f cs = replaced (rename_argument f) cs

pub record AreNatural {A B : Type 0} (f : A → B) : Type 0 where
  pub types : (C : Env A) (vs : Map (MlType A)) (ty : Ty Place) → read_ty (rename_env f C) (replaced (rename_type f) vs) ty ≡ answer_with (rename_type f) (read_ty C vs ty)
  pub bindings : (C : Env A) (m : Map (TyStr A)) (bs : List (TypBind Place))
      → read_type_binds (rename_env f C) (replaced (rename_ty_str f) m) bs ≡ answer_with (replaced (rename_ty_str f)) (read_type_binds C m bs)
  -- the arguments of the constructors of datatypes with these names
  pub arguments : (C : Env A) (ds : List (DatBind Place)) (ns : List A)
      → arguments_of (rename_env f C) ds (map f ns) ≡ answer_with (map (rename_arguments f)) (arguments_of C ds ns)

-- the same over the names of a run
abbrev pub ReadingsAreNatural : Type 0
ReadingsAreNatural = (f : Name → Name) → AreNatural f
