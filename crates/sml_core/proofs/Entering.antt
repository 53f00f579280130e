-- What an environment holds is bound entry by entry.
use Rattle.std.proofs.Common.{◌≡◌, [], ◌∷◌, OnOk, Result, Ok, Err, subst, sym, refl, ◌∙◌}
use Rattle.sml_lex.specs.declared.fault.Memory.{Memory}
use Rattle.sml_objects.specs.Views.{entries_of}
use Rattle.sml_bases.specs.Views.{env_of, structures_of, ty_str_of, value_of}
use Rattle.sml_bases.specs.declared.objects.Env as P
use Rattle.sml_bases.specs.declared.objects.Env.{out-Env}
use Rattle.sml_bases.proofs.EnvViews.{env_of-out}
use Rattle.sml_tree.specs.Trees.{Id}
use Rattle.sml_objects.specs.Initial.{Name}
use Rattle.sml_objects.specs.Maps.{Map}
use Rattle.sml_core_rules.specs.Objects.{Env, Structures, TyStr, Value, and_structure, extend, maps, no_structure, of_types, of_values}
use Rattle.sml_scopes.specs.Means.{Means, MeansAt}
use Rattle.sml_scopes.specs.declared.scopes.Mark.{Mark}
use Rattle.sml_scopes.specs.declared.scopes.Scopes.{Scopes}
use Rattle.sml_core.specs.Bound.{Extends}

abbrev pub of_structures : Structures (TyStr Name) (Value Name) → Env Name
of_structures ss = maps ss [] []

abbrev pub KeepsMarks : Scopes → Scopes → Type 0
KeepsMarks old new = (C : Env Name) (m : Mark) → MeansAt old m C → MeansAt new m C

-- Some entries are bound: those that are left extend what is meant now to what all extend what was meant to.
pub record IsEntering (old now : Scopes) (all rest : Env Name) : Type 0 where
  pub bound : (C : Env Name) → Means old C → (D : Env Name) × Means now D × (extend D rest ≡ extend C all)
  pub marks : KeepsMarks old now

pub none-entered : (s : Scopes) (E : Env Name) → IsEntering s s E E
none-entered s E = record { bound = λ C h. (C, h, refl); marks = λ C m h. h }

module _ (old now mid : Scopes) (all : Env Name) (stays : KeepsMarks now mid) where
  -- one more, after which these are left
  one-entered : (one more rest : Env Name) → Extends now one mid → ((D : Env Name) → extend (extend D one) rest ≡ extend D more) → IsEntering old now all more → IsEntering old mid all rest
  one-entered one more rest extends joined so = record {
    bound = λ C h. let d = so.bound C h in (extend d.0 one, extends d.0 d.1, joined d.0 ∙ d.2);
    marks = λ C m h. stays C m (so.marks C m h);
  }

  pub value-entered : (x : Id) (v : Value Name) (vs : Map (Value Name)) → Extends now (maps no_structure [] ((x, v) ∷ [])) mid → IsEntering old now all (of_values ((x, v) ∷ vs)) → IsEntering old mid all (of_values vs)
  value-entered x v vs extends so = one-entered (maps no_structure [] ((x, v) ∷ [])) (of_values ((x, v) ∷ vs)) (of_values vs) extends joined so
    where
      joined : (D : Env Name) → extend (extend D (maps no_structure [] ((x, v) ∷ []))) (of_values vs) ≡ extend D (of_values ((x, v) ∷ vs))
      joined (maps ss ts ws) = refl

  pub type-entered : (x : Id) (t : TyStr Name) (ts : Map (TyStr Name)) → Extends now (maps no_structure ((x, t) ∷ []) []) mid → IsEntering old now all (of_types ((x, t) ∷ ts)) → IsEntering old mid all (of_types ts)
  type-entered x t ts extends so = one-entered (maps no_structure ((x, t) ∷ []) []) (of_types ((x, t) ∷ ts)) (of_types ts) extends joined so
    where
      joined : (D : Env Name) → extend (extend D (maps no_structure ((x, t) ∷ []) [])) (of_types ts) ≡ extend D (of_types ((x, t) ∷ ts))
      joined (maps ss us ws) = refl

  pub structure-entered : (x : Id) (E : Env Name) (ss : Structures (TyStr Name) (Value Name)) → Extends now (maps (and_structure x E no_structure) [] []) mid
      → IsEntering old now all (of_structures (and_structure x E ss)) → IsEntering old mid all (of_structures ss)
  structure-entered x E ss extends so = one-entered (maps (and_structure x E no_structure) [] []) (of_structures (and_structure x E ss)) (of_structures ss) extends joined so
    where
      joined : (D : Env Name) → extend (extend D (maps (and_structure x E no_structure) [] [])) (of_structures ss) ≡ extend D (of_structures (and_structure x E ss))
      joined (maps rs us ws) = refl

-- none are left
pub all-entered : (old now : Scopes) (all : Env Name) → IsEntering old now all (maps no_structure [] []) → Extends old all now
all-entered old now all so = λ C h. let d = so.bound C h in subst (Means now) (stays d.0 ∙ d.2) d.1
  where
    stays : (D : Env Name) → D ≡ extend D (maps no_structure [] [])
    stays (maps ss ts vs) = refl

-- the entries of each kind, one kind after the other
pub kinds-entered : (a b c d : Scopes) (ss : Structures (TyStr Name) (Value Name)) (ts : Map (TyStr Name)) (vs : Map (Value Name)) → Extends a (of_structures ss) b → Extends b (of_types ts) c → Extends c (of_values vs) d
    → Extends a (maps ss ts vs) d
kinds-entered a b c d ss ts vs f g h = λ C m. subst (Means d) (joined C) (h (extend (extend C (of_structures ss)) (of_types ts)) (g (extend C (of_structures ss)) (f C m)))
  where
    joined : (C : Env Name) → extend (extend (extend C (of_structures ss)) (of_types ts)) (of_values vs) ≡ extend C (maps ss ts vs)
    joined (maps rs us ws) = refl

-- all that a structure holds
pub env-entered : (a b c d : Scopes) (e : P.Env) (result : Result (Unit {0}) Memory) → Extends a (of_structures (structures_of (entries_of (λ s. env_of s.value) (out-Env e).structures.entries))) b
    → Extends b (of_types (entries_of ty_str_of (out-Env e).types.entries)) c → OnOk result (Extends c (of_values (entries_of value_of (out-Env e).values.entries)) d) → OnOk result (Extends a (env_of e) d)
env-entered a b c d e (Ok x) f g h =
    subst (λ C. Extends a C d) (sym (env_of-out e))
    (kinds-entered a b c d (structures_of (entries_of (λ s. env_of s.value) (out-Env e).structures.entries)) (entries_of ty_str_of (out-Env e).types.entries) (entries_of value_of (out-Env e).values.entries) f g h)
env-entered a b c d e (Err f) g h k = tt
