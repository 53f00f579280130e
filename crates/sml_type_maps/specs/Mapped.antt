-- Types with other types for their variables, and for their names applied to types.
use Rattle.std.specs.Prelude.{◌≡◌, ℕ, zero, suc, Bool, true, false, cond, nat_eq, position, List, [], ◌∷◌, map, Vec, Option, None, Some}
use Rattle.std.specs.Map.{lookup}
use Rattle.std.specs.Option.{option_map}
use Rattle.std.specs.Global.{Global}
use Rattle.std.specs.declared.rc.Rc.{Rc}
use Rattle.sml_objects.specs.Initial.{Name, naming}
use Rattle.sml_objects.specs.Objects as O
use Rattle.sml_objects.specs.Types.{applied}
use Rattle.sml_objects.specs.Fates.{type_or, seen_type}
use Rattle.sml_objects.specs.Views.{type_of, name_of, scheme_of}
use Rattle.sml_objects.specs.declared.objects.MlType.{MlType}
use Rattle.sml_objects.specs.declared.objects.Scheme.{Scheme}
use Rattle.sml_objects.specs.declared.objects.TyName.{TyName}
use Rattle.sml_type_maps.specs.declared.mapping.Image.{Image}
use Rattle.sml_type_maps.specs.declared.mapping.Image.TheVariants.{Same, Name as Other, Function}

-- Given are the types for the bound variables, for the free ones, and for a name applied to types.
module _ {N : Type 0} (b f : ℕ → O.MlType N) (n : N → O.MlTypes N → O.MlType N) where
  abbrev pub at_head : O.Head N → O.MlTypes N → O.MlType N
  at_head O.arrow ts = O.app O.arrow ts
  at_head (O.row ls) ts = O.app (O.row ls) ts
  at_head (O.name m) ts = n m ts

  unfoldable mutual
    pub mapped : O.MlType N → O.MlType N
    mapped (O.bound k) = b k
    mapped (O.free v) = f v
    mapped (O.app h ts) = at_head h (all_mapped ts)

    pub all_mapped : O.MlTypes N → O.MlTypes N
    all_mapped O.no_type = O.no_type
    all_mapped (O.and_type t ts) = O.and_type (mapped t) (all_mapped ts)

  -- the body alone
  abbrev pub mapped_body : O.Scheme N → O.Scheme N
  mapped_body σ = record { variables = σ.variables; body = mapped σ.body }

-- what a name applied to types becomes by its image
abbrev pub image_of : Image → Name → O.MlTypes Name → O.MlType Name
image_of Same n ts = O.app (O.name n) ts
image_of (Other m) n ts = O.app (O.name (name_of m)) ts
image_of (Function θ) n ts = applied (scheme_of θ.now.value) ts

abbrev pub seen : List (Rc MlType Global) → List (O.MlType Name)
seen ts = map (λ t. type_of t.value) ts

-- these types, or others for all of them
abbrev pub types_or : List (O.MlType Name) → Option (Vec (Rc MlType Global) Global) → List (O.MlType Name)
types_or ts None = ts
types_or ts (Some us) = seen us.items

-- the type in the place of another, if it changed
abbrev pub IsChanged : Option (Rc MlType Global) → O.MlType Name → O.MlType Name → Type 0
IsChanged o t u = type_or t (seen_type o) ≡ u

abbrev pub seen_scheme : Option (Rc Scheme Global) → Option (O.Scheme Name)
seen_scheme None = None
seen_scheme (Some s) = Some (scheme_of s.value)

abbrev pub scheme_or : {N : Type 0} → O.Scheme N → Option (O.Scheme N) → O.Scheme N
scheme_or s None = s
scheme_or s (Some s') = s'

abbrev pub is_same : Name → Name → Bool
is_same n m = elim (naming.same n m) [ yes _ ↦ true | no _ ↦ false ]

-- what stands for a name: the first that is listed for it
abbrev pub listed_for : {A X : Type 0} → (A → X) → List (TyName × A) → Name → Option X
listed_for see [] n = None
listed_for see (e ∷ es) n = cond (is_same n (name_of e.0)) (Some (see e.1)) (listed_for see es n)

abbrev pub functions_of : List (TyName × Rc Scheme Global) → Name → Option (O.Scheme Name)
functions_of es n = listed_for (λ s. scheme_of s.value) es n

abbrev pub names_of : List (TyName × TyName) → Name → Option Name
names_of es n = listed_for name_of es n

-- the type function of a name, or the name itself, applied to types
abbrev pub by_function : Option (O.Scheme Name) → Name → O.MlTypes Name → O.MlType Name
by_function None n ts = O.app (O.name n) ts
by_function (Some θ) n ts = applied θ ts

-- the other name, or the name itself, applied to types
abbrev pub by_name : Option Name → Name → O.MlTypes Name → O.MlType Name
by_name None n ts = O.app (O.name n) ts
by_name (Some m) n ts = O.app (O.name m) ts

-- the other name applied to types, or else this type
abbrev pub or_by_name : Option Name → O.MlTypes Name → O.MlType Name → O.MlType Name
or_by_name None ts t = t
or_by_name (Some m) ts t = O.app (O.name m) ts

-- the bound variable by its place among some, if it is one of them
abbrev pub bound_at : {N : Type 0} → List ℕ → ℕ → O.MlType N
bound_at ks k = type_or (O.bound k) (option_map (λ i. O.bound i) (position (nat_eq k) ks))

-- the bound variable in the place of a free one, by its place among some, if it is one of them
abbrev pub closed_at : {N : Type 0} → List ℕ → ℕ → O.MlType N
closed_at vs v = type_or (O.free v) (option_map (λ i. O.bound i) (position (nat_eq v) vs))

-- the type in the place of a free variable, if one is listed for it
abbrev pub known_at : List (ℕ × Rc MlType Global) → ℕ → O.MlType Name
known_at es v = type_or (O.free v) (option_map (λ t. type_of t.value) (lookup (nat_eq v) es))

abbrev pub last_or : Name → Option Name → Name
last_or n None = n
last_or n (Some m) = m

-- the name at the end of so many steps from listed name to listed name
abbrev pub last_of : ℕ → (Name → Option Name) → Name → Name
last_of zero next n = n
last_of (suc k) next n = last_or n (option_map (last_of k next) (next n))
