-- Patterns: with which codes they are refused.
use Rattle.std.specs.Prelude.{◌≡◌, ℕ, suc, Bool, true, false, cond, List, [], ◌∷◌, Option, Some, None}
use mathlib.Core.Path.{refl}
use Rattle.sml_lex.specs.declared.fault.Code.{Code}
use Rattle.sml_lex.specs.declared.fault.Code.TheVariants.{E1, E3, E5, E7, E10}
use Rattle.sml_lex.specs.Faults.{Fault}
use Rattle.sml_tree.specs.Trees.{Id}
use Rattle.sml_tree.specs.Names.{Name, LongName}
use Rattle.sml_tree.specs.Types.{Ty}
use Rattle.sml_tree.specs.Patterns.{Pat, Pats, PatFields, wildcard, pat_constant, pat_name, pat_row, pat_tuple, pat_bracket, pat_apply, pat_typed, pat_as, no_pat, and_pat, pat_field, no_pat_field, and_pat_field}
use Rattle.sml_objects.specs.Maps.{Map}
use Rattle.sml_objects.specs.Objects.{MlType, MlTypes, bound, free, app, arrow, row, name, no_type, and_type}
use Rattle.sml_layers.specs.declared.layer.Layer.{Layer}
use Rattle.sml_layers.specs.declared.layer.Layer.TheVariants.{Equations, Finiteness, Newness, Locality, Equality, Classes, Rigidity}
use Rattle.sml_layers.specs.Layers.{code_of}
use Rattle.sml_rules.specs.Lookups.{Found, found, no_path, no_entry}
use Rattle.sml_core_rules.specs.Lookups.{value_at}
use Rattle.sml_core_rules.specs.Objects.{Env, Value, Status, variable, constructor, exception, overloaded}
use Rattle.sml_core_rules.specs.States.{Scope, State}
use Rattle.sml_core_rules.specs.Scripts.{Script, give, look, ◌>>=◌}
use Rattle.sml_core_rules.specs.Types.{Fields, put_field}
use Rattle.sml_core_rules.specs.Values.{require_attributes, require_status, instance, apply_general, applied, find_value}
use Rattle.sml_core_rules.specs.Patterns.{Bindings, typed, is_empty, is_variable_alone, read_constraint, bind_variable, constructor_instance, found_constructor, read_named, read_row, bind_layered, read_layered, read_pat, read_pats, read_pat_fields}
use Rattle.sml_refusals.specs.Codes.{demand_code, variable_code, binding_code, type_code, size_code, pattern_code}
use Rattle.sml_refusals.proofs.Refusing.{or-left, or-right, RefusesBy, refuses-then, refuses-look, refuses-cond}
use Rattle.sml_refusals.proofs.CodesOfTypes.{code-need, codes-ty}

pub demanded : (l : Layer) → demand_code (code_of l) ≡ true
demanded Equations = refl
demanded Finiteness = refl
demanded Newness = refl
demanded Locality = refl
demanded Equality = refl
demanded Classes = refl
demanded Rigidity = refl

-- the codes of patterns among others
module _ (D : Code → Bool) (inside : (c : Code) → pattern_code c ≡ true → D c ≡ true) where
  pub type-inside : (c : Code) → type_code c ≡ true → D c ≡ true
  type-inside c h = inside c (or-right (variable_code c) _ (or-left (binding_code c) _ (or-right (size_code c) _ h)))

  pub demand-inside : (l : Layer) → D (code_of l) ≡ true
  demand-inside l = inside (code_of l) (or-right (variable_code (code_of l)) _ (or-right (binding_code (code_of l)) _ (demanded l)))

  -- instances

  module _ (N : Type 0) {P : Type 0} where
    codes-attributes : (p : P) (k : ℕ) (es : List Bool) → RefusesBy D (require_attributes {N = N} p k es)
    unfolding RefusesBy
    codes-attributes p k [] = tt
    codes-attributes p k (false ∷ es) = codes-attributes p (suc k) es
    codes-attributes p k (true ∷ es) = refuses-then D _ _ (demand-inside, tt) (λ u. codes-attributes p (suc k) es)

    codes-status : (p : P) (k : ℕ) (s : Status) → RefusesBy D (require_status {N = N} p k s)
    unfolding RefusesBy
    codes-status p k variable = tt
    codes-status p k (constructor i n) = tt
    codes-status p k exception = tt
    codes-status p k (overloaded c) = refuses-then D _ _ (demand-inside, tt) (λ u. λ s. tt)

  module _ {P N : Type 0} where
    pub codes-instance : (p : P) (v : Value N) → RefusesBy D (instance p v)
    unfolding RefusesBy
    codes-instance p v =
        refuses-then D _ _ (λ k. tt) (λ k. refuses-then D _ _ (codes-attributes N p k v.scheme.variables) (λ u. refuses-then D _ _ (codes-status N p k v.status) (λ w. tt)))

    codes-general : (p : P) (t a : MlType N) → RefusesBy D (apply_general p t a)
    unfolding RefusesBy
    codes-general p t a = refuses-then D _ _ (λ v. tt) (λ b. refuses-then D _ _ (demand-inside, tt) (λ u. tt))

    pub codes-applied : (p : P) (t a : MlType N) → RefusesBy D (applied p t a)
    unfolding RefusesBy
    codes-applied p (bound k) a = codes-general p (bound k) a
    codes-applied p (free v) a = codes-general p (free v) a
    codes-applied p (app (row ls) ts) a = codes-general p (app (row ls) ts) a
    codes-applied p (app (name n) ts) a = codes-general p (app (name n) ts) a
    codes-applied p (app arrow no_type) a = codes-general p (app arrow no_type) a
    codes-applied p (app arrow (and_type t no_type)) a = codes-general p (app arrow (and_type t no_type)) a
    codes-applied p (app arrow (and_type t (and_type u no_type))) a = refuses-then D _ _ (demand-inside, tt) (λ v. tt)
    codes-applied p (app arrow (and_type t (and_type u (and_type v ts)))) a = codes-general p (app arrow (and_type t (and_type u (and_type v ts)))) a

    pub codes-value : (C : Env N) (x : LongName P) → RefusesBy D (find_value C x)
    codes-value C x = refuses-look D N _ (code-need D _ x.place x.id (value_at C x.id) (inside E1 refl) (inside E3 refl))

    pub codes-constraint : (C : Env N) (vs : Map (MlType N)) (t : Ty P) → RefusesBy D (read_constraint C vs t)
    unfolding RefusesBy
    codes-constraint C vs t = refuses-then D _ _ (refuses-look D N _ (codes-ty D type-inside C vs t)) (λ u. refuses-then D _ _ (inside E7 refl, tt) (λ w. tt))

    module _ (scope : Scope N) where
      codes-variable : (p : P) (x : Id) (bs : Bindings N) → RefusesBy D (bind_variable scope p x bs)
      unfolding RefusesBy
      codes-variable p x bs = refuses-then D _ _ (inside E10 refl, tt) (λ u. refuses-then D _ _ (λ v. tt) (λ t. tt))

      codes-constructor : (p q : P) (b : Bool) (v : Value N) → RefusesBy D (constructor_instance scope p q b v)
      unfolding RefusesBy
      codes-constructor p q b v = refuses-then D _ _ (inside E5 refl, tt) (λ u. refuses-then D _ _ (inside E5 refl, tt) (λ w. codes-instance p v))

      either-code : (b : Bool) (f g : Fault P) → D f.code ≡ true → D g.code ≡ true → D (cond b f g).code ≡ true
      either-code true f g h k = h
      either-code false f g h k = k

      codes-found : (x : LongName P) (r : Found (Value N)) → RefusesBy D (found_constructor scope x r)
      unfolding RefusesBy
      codes-found x (found v) = tt
      codes-found x (no_path s) = inside E3 refl
      codes-found x no_entry = either-code (is_empty x.id.path) _ _ (inside E5 refl) (inside E1 refl)

      module _ (is_rec : Bool) (C : Env N) (vs : Map (MlType N)) where
        codes-constant : (p : P) (x : LongName P) (bs : Bindings N)
            → RefusesBy D (find_value C x >>= λ v. constructor_instance scope p x.place false v >>= λ t. give (typed t bs))
        unfolding RefusesBy
        codes-constant p x bs = refuses-then D _ _ (codes-value C x) (λ v. refuses-then D _ _ (codes-constructor p x.place false v) (λ t. tt))

        codes-named : (p : P) (x : LongName P) (bs : Bindings N) → RefusesBy D (read_named scope is_rec C vs p x bs)
        codes-named p x bs =
            refuses-cond D (is_empty x.id.path) _ _
            (refuses-cond D (is_variable_alone is_rec C x.id.last) _ _ (codes-variable x.place x.id.last bs) (codes-constant p x bs)) (codes-constant p x bs)

        codes-row : (p : P) (b : Bool) (fs : Fields (MlType N)) → RefusesBy D (read_row scope is_rec C vs p b fs)
        unfolding RefusesBy
        codes-row p false fs = tt
        codes-row p true fs = refuses-then D _ _ (λ v. tt) (λ t. refuses-then D _ _ (demand-inside, tt) (λ u. refuses-then D _ _ (λ s. tt) (λ w. tt)))

        codes-bound : (p : P) (x : Id) (t : Option (Ty P)) (bs : Bindings N) → RefusesBy D (bind_layered scope is_rec C vs p x t bs)
        unfolding RefusesBy
        codes-bound p x None bs = codes-variable p x bs
        codes-bound p x (Some t) bs = refuses-then D _ _ (inside E10 refl, tt) (λ u. refuses-then D _ _ (codes-constraint C vs t) (λ w. tt))

        codes-layered : (x : Name P) (t : Option (Ty P)) (bs : Bindings N) → RefusesBy D (read_layered scope is_rec C vs x t bs)
        unfolding RefusesBy
        codes-layered x t bs = refuses-then D _ _ (inside E5 refl, tt) (λ u. codes-bound x.place x.id t bs)

        mutual
          unfolding read_pat read_pats read_pat_fields RefusesBy

          pub codes-pat : (bs : Bindings N) (q : Pat P) → RefusesBy D (read_pat scope is_rec C vs bs q)
          codes-pat bs (wildcard p) = refuses-then D _ _ (λ v. tt) (λ t. tt)
          codes-pat bs (pat_constant p c) = tt
          codes-pat bs (pat_name p x) = codes-named p x bs
          codes-pat bs (pat_row p fs b) = refuses-then D _ _ (codes-fields bs [] fs) (λ r. refuses-then D _ _ (codes-row p b r.type) (λ t. tt))
          codes-pat bs (pat_tuple p qs) = refuses-then D _ _ (codes-pats bs qs) (λ r. tt)
          codes-pat bs (pat_bracket p q) = codes-pat bs q
          codes-pat bs (pat_apply p x q) =
              refuses-then D _ _ (codes-found x (value_at C x.id)) (λ v. refuses-then D _ _ (codes-constructor p x.place true v) (λ t.
              refuses-then D _ _ (codes-pat bs q) (λ r. refuses-then D _ _ (codes-applied p t r.type) (λ u. tt))))
          codes-pat bs (pat_typed p q ty) =
              refuses-then D _ _ (codes-pat bs q) (λ r. refuses-then D _ _ (codes-constraint C vs ty) (λ t. refuses-then D _ _ (demand-inside, tt) (λ u. tt)))
          codes-pat bs (pat_as p x ty q) =
              refuses-then D _ _ (codes-layered x ty bs) (λ t. refuses-then D _ _ (codes-pat t.bound q) (λ r. refuses-then D _ _ (demand-inside, tt) (λ u. tt)))

          codes-pats : (bs : Bindings N) (qs : Pats P) → RefusesBy D (read_pats scope is_rec C vs bs qs)
          codes-pats bs no_pat = tt
          codes-pats bs (and_pat q qs) = refuses-then D _ _ (codes-pat bs q) (λ r. refuses-then D _ _ (codes-pats r.bound qs) (λ rs. tt))

          codes-fields : (bs : Bindings N) (fs : Fields (MlType N)) (qs : PatFields P) → RefusesBy D (read_pat_fields scope is_rec C vs bs fs qs)
          codes-fields bs fs no_pat_field = tt
          codes-fields bs fs (and_pat_field (pat_field l q) qs) = refuses-then D _ _ (codes-pat bs q) (λ r. codes-fields r.bound (put_field l.id r.type fs) qs)
