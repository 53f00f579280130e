-- Patterns (the Definition, section 4.10, rules 32 to 43).
use Rattle.std.specs.Prelude.{◌≡◌, ◌≤◌, Bool, true, false, List, [], ◌∷◌, ◌++◌, cond, ◌||◌, ◌&&◌, not, codes, Option, Some, None}
use Rattle.sml_lex.specs.declared.fault.Code.TheVariants.{E1, E3, E5, E7, E10}
use Rattle.sml_tree.specs.declared.patterns.ConstantKind.{ConstantKind}
use Rattle.sml_tree.specs.declared.patterns.ConstantKind.TheVariants as K
use Rattle.sml_tree.specs.Trees.{Id}
use Rattle.sml_tree.specs.Names.{Name, LongName}
use Rattle.sml_tree.specs.Types.{Ty}
use Rattle.sml_tree.specs.Patterns.{Pat, Pats, PatFields, wildcard, pat_constant, pat_name, pat_row, pat_tuple, pat_bracket, pat_apply, pat_typed, pat_as, no_pat, and_pat, pat_field, no_pat_field, and_pat_field}
use Rattle.sml_objects.specs.Maps.{Map, lookup}
use Rattle.sml_objects.specs.Names.{Naming, int, word, real, string, char}
use Rattle.sml_objects.specs.Objects.{MlType, MlTypes, no_type, and_type, named, tuple_of}
use Rattle.sml_objects.specs.Sizes.{type_size}
use Rattle.sml_layers.specs.Demands.{has_fields}
use Rattle.sml_rules.specs.Answers.{fault, fault_at}
use Rattle.sml_rules.specs.Lookups.{Found, found, no_path, no_entry}
use Rattle.sml_core_rules.specs.Objects.{Env, Value}
use Rattle.sml_core_rules.specs.Lookups.{value_at, is_same}
use Rattle.sml_core_rules.specs.States.{Scope}
use Rattle.sml_core_rules.specs.Scripts.{Script, give, refuse, ◌>>=◌, look, test, new_unknown, new_row, require}
use Rattle.sml_core_rules.specs.Types.{Fields, put_field, row_of, read_ty, type_place}
use Rattle.sml_core_rules.specs.Values.{constructs, is_constructor, is_arrow, require_equal, instance, applied, find_value}

-- The variables that patterns bind, in their order, with their types.
abbrev pub Bindings : Type 0 → Type 0
Bindings N = List (Id × MlType N)

-- a type, and the variables bound so far
pub record Typed (N X : Type 0) : Type 0 where
  pub type : X
  pub bound : Bindings N

abbrev pub typed : {N X : Type 0} → X → Bindings N → Typed N X
typed t bs = record { type = t; bound = bs }

abbrev pub is_empty : {X : Type 0} → List X → Bool
is_empty [] = true
is_empty (x ∷ xs) = false

abbrev pub pattern_place : {P : Type 0} → Pat P → P
pattern_place (wildcard p) = p
pattern_place (pat_constant p c) = p
pattern_place (pat_name p x) = p
pattern_place (pat_row p fs b) = p
pattern_place (pat_tuple p qs) = p
pattern_place (pat_bracket p q) = p
pattern_place (pat_apply p x q) = p
pattern_place (pat_typed p q t) = p
pattern_place (pat_as p x t q) = p

-- the type of a special constant of a kind
abbrev pub constant_type : {N : Type 0} → Naming N → ConstantKind → MlType N
constant_type names K.Integer = named (names.initial int)
constant_type names K.Word = named (names.initial word)
constant_type names K.Real = named (names.initial real)
constant_type names K.String = named (names.initial string)
constant_type names K.Character = named (names.initial char)

-- The type of a constraint, which has at most 10,000 nodes.
abbrev pub read_constraint : {P N : Type 0} → Env N → Map (MlType N) → Ty P → Script P N (MlType N)
read_constraint C vs ty = do
  t ← look (read_ty C vs ty)
  u ← test (type_size t ≤ 10000) (fault E7 (type_place ty))
  give t

-- Whether a short identifier that stands alone is a variable. After `rec` each is, but for `nil`, which only `[]` can be there.
abbrev pub is_variable_alone : {N : Type 0} → Bool → Env N → Id → Bool
is_variable_alone is_rec C x = (is_rec && not (is_same x (codes "nil"))) || not (is_constructor C x)

module _ {P N : Type 0} (scope : Scope N) where
  -- a variable, which no pattern of the group has bound yet
  abbrev pub bind_variable : P → Id → Bindings N → Script P N (Typed N (MlType N))
  bind_variable p x bs = do
    u ← test (lookup x bs ≡ None) (fault E10 p)
    t ← new_unknown
    give (typed t (bs ++ (x, t) ∷ []))

  -- an identifier that is a constructor or an exception, with an argument or without one
  abbrev pub constructor_instance : P → P → Bool → Value N → Script P N (MlType N)
  constructor_instance p q b v = do
    u ← test (constructs v.status ≡ true) (fault E5 q)
    w ← test (is_arrow v.scheme.body ≡ b) (fault E5 q)
    instance p v

  -- a constructor before an argument; a short identifier that is unbound is a variable
  abbrev pub found_constructor : LongName P → Found (Value N) → Script P N (Value N)
  found_constructor x (found v) = give v
  found_constructor x (no_path s) = refuse (fault_at E3 x.place s)
  found_constructor x no_entry = refuse (cond (is_empty x.id.path) (fault E5 x.place) (fault_at E1 x.place (x.id.path ++ x.id.last ∷ [])))

  -- A pattern in a context, with the explicit type variables in scope.
  module _ (is_rec : Bool) (C : Env N) (vs : Map (MlType N)) where
    abbrev pub read_named : P → LongName P → Bindings N → Script P N (Typed N (MlType N))
    read_named p x bs =
        cond (is_empty x.id.path) (cond (is_variable_alone is_rec C x.id.last) (bind_variable x.place x.id.last bs) constant_constructor) constant_constructor
      where
        constant_constructor : Script P N (Typed N (MlType N))
        constant_constructor = do
          v ← find_value C x
          t ← constructor_instance p x.place false v
          give (typed t bs)

    abbrev pub read_row : P → Bool → Fields (MlType N) → Script P N (MlType N)
    read_row p false fs = give (row_of fs)
    read_row p true fs = do
      t ← new_unknown
      u ← require (has_fields t fs) p
      w ← new_row p t
      give t

    -- a variable before `as`, of the type that stands there if one does
    abbrev pub bind_layered : P → Id → Option (Ty P) → Bindings N → Script P N (Typed N (MlType N))
    bind_layered p x None bs = bind_variable p x bs
    bind_layered p x (Some ty) bs = do
      u ← test (lookup x bs ≡ None) (fault E10 p)
      t ← read_constraint C vs ty
      give (typed t (bs ++ (x, t) ∷ []))

    abbrev pub read_layered : Name P → Option (Ty P) → Bindings N → Script P N (Typed N (MlType N))
    read_layered x ty bs = do
      u ← test ((is_rec || not (is_constructor C x.id)) ≡ true) (fault E5 x.place)
      bind_layered x.place x.id ty bs

    unfoldable mutual
      pub read_pat : Bindings N → Pat P → Script P N (Typed N (MlType N))
      read_pat bs (wildcard p) = do
        t ← new_unknown
        give (typed t bs)
      read_pat bs (pat_constant p c) = give (typed (constant_type scope.names c.kind) bs)
      read_pat bs (pat_name p x) = read_named p x bs
      read_pat bs (pat_row p fs b) = do
        r ← read_pat_fields bs [] fs
        t ← read_row p b r.type
        give (typed t r.bound)
      read_pat bs (pat_tuple p qs) = do
        r ← read_pats bs qs
        give (typed (tuple_of r.type) r.bound)
      read_pat bs (pat_bracket p q) = read_pat bs q
      read_pat bs (pat_apply p x q) = do
        v ← found_constructor x (value_at C x.id)
        t ← constructor_instance p x.place true v
        r ← read_pat bs q
        u ← applied p t r.type
        give (typed u r.bound)
      read_pat bs (pat_typed p q ty) = do
        r ← read_pat bs q
        t ← read_constraint C vs ty
        u ← require_equal p r.type t
        give (typed t r.bound)
      read_pat bs (pat_as p x ty q) = do
        t ← read_layered x ty bs
        r ← read_pat t.bound q
        u ← require_equal p t.type r.type
        give (typed t.type r.bound)

      pub read_pats : Bindings N → Pats P → Script P N (Typed N (MlTypes N))
      read_pats bs no_pat = give (typed no_type bs)
      read_pats bs (and_pat q qs) = do
        r ← read_pat bs q
        rs ← read_pats r.bound qs
        give (typed (and_type r.type rs.type) rs.bound)

      -- fields; fs has the fields before these
      pub read_pat_fields : Bindings N → Fields (MlType N) → PatFields P → Script P N (Typed N (Fields (MlType N)))
      read_pat_fields bs fs no_pat_field = give (typed fs bs)
      read_pat_fields bs fs (and_pat_field (pat_field l q) qs) = do
        r ← read_pat bs q
        read_pat_fields r.bound (put_field l.id r.type fs) qs
