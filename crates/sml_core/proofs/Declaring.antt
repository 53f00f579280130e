-- Declarations of types.
use Rattle.std.proofs.Common.{◌≡◌, List, [], None, Result, Ok, Err, map, ap, subst, sym, ◌∙◌}
use mathlib.Core.Logic.{inl, inr}
use Rattle.sml_lex.specs.Faults.{fault_of}
use Rattle.sml_lex.specs.declared.fault.Place.{Place}
use Rattle.sml_lex.specs.declared.fault.Code.TheVariants.{E7}
use Rattle.sml_tree.specs.Expressions.{TypBind}
use Rattle.sml_objects.specs.Initial.{Name}
use Rattle.sml_objects.specs.Maps.{Map}
use Rattle.sml_bases.specs.Views.{env_of}
use Rattle.sml_bases.specs.declared.objects.Env as P
use Rattle.sml_rules.specs.Answers.{Answer, accepted, fault, refused}
use Rattle.sml_core_rules.specs.Datatypes.{AreSmall, read_type_binds}
use Rattle.sml_core_rules.specs.Objects.{Env, TyStr, of_types}
use Rattle.sml_core_rules.specs.Scopes.{run_scope}
use Rattle.sml_core_rules.specs.Scripts.{IsAnswer, Script, give, look, test, ◌>>=◌}
use Rattle.sml_core_rules.specs.States.{State}
use Rattle.sml_scopes.specs.Means.{Means, MeansAt}
use Rattle.sml_scopes.specs.declared.scopes.Mark.{Mark}
use Rattle.sml_types.specs.Bindings.{AreApart, AreSpelt, TypesAnswer}
use Rattle.sml_types.specs.declared.fault.CoreFault.{CoreFault}
use Rattle.sml_types.specs.declared.fault.CoreFault.TheVariants as F
use Rattle.sml_core.specs.declared.context.Context.{Context}
use Rattle.sml_core.specs.Answered.{IsAt, unit_of}
use Rattle.sml_core.specs.Bound.{Extends}
use Rattle.sml_core.specs.Seen.{AreScoped}
use Rattle.sml_core.specs.Declarations.{DeclaresTypes}
use Rattle.sml_core.proofs.Sequences.{no-later}

-- what follows the reading of bindings
abbrev small-types : Place → Map (TyStr Name) → Script Place Name (Env Name)
small-types p ts = do
  u ← test (AreSmall (λ t. t.function) ts) (fault E7 p)
  give (of_types ts)

module _ (old : Context) (p : Place) (s : State Place Name) where
  given-types : (e : P.Env) (a : Answer Place (Map (TyStr Name))) → TypesAnswer (Ok e) p a → IsAnswer (run_scope (unit_of old)) (look a >>= small-types p) s (accepted (env_of e, s))
  unfolding IsAnswer ◌>>=◌
  given-types e (accepted ts) h = inl (h.0, ap (λ E. accepted (E, s)) h.1)
  given-types e (refused f) h = absurd h

  refused-types : (f : _) (a : Answer Place (Map (TyStr Name))) → TypesAnswer (Err (F.Fault f)) p a → IsAnswer (run_scope (unit_of old)) (look a >>= small-types p) s (refused (fault_of f))
  unfolding IsAnswer ◌>>=◌
  refused-types f (accepted ts) h = inr (h.0, ap refused h.1)
  refused-types f (refused g) h = ap refused h

-- what the bindings are answered, in an environment that the scopes mean
abbrev pub AreTypesAnswered : Context → Place → List (TypBind Place) → Result P.Env CoreFault → Type 0
AreTypesAnswered old p bs result = AreSpelt bs → AreApart (map (λ b. b.name.id) bs) → (C : Env Name) → Means old.scopes C → TypesAnswer result p (read_type_binds C [] bs)

pub types-declared : (old new : Context) (p : Place) (bs : List (TypBind Place)) (e : P.Env) → AreTypesAnswered old p bs (Ok e) → Extends old.scopes (env_of e) new.scopes
    → ((C : Env Name) (m : Mark) → MeansAt old.scopes m C → MeansAt new.scopes m C) → new ≡ record old { scopes = new.scopes; exports = new.exports; recorder = new.recorder }
    → new.recorder.wanted ≡ old.recorder.wanted → DeclaresTypes old p bs new (Ok tt)
unfolding DeclaresTypes
types-declared old new p bs e read extends marks same wanted = λ spelt apart C vs around s is sees. (
  env_of e,
  s,
  record {
    answer = given-types old p s e (read_type_binds C [] bs) (read spelt apart C sees.means);
    at = subst (λ (c : Context). c.recorder.wanted ≡ None → IsAt around c s) (sym same) (λ q. record { solver = is.solver; rows = is.rows; overloaded = is.overloaded; quiet = q }) (wanted ∙ is.quiet);
    unit = ap unit_of same;
    later = no-later s;
    bound = extends;
    marks = marks;
    scoped = λ ws h. subst (λ (c : Context). AreScoped c.explicit ws) (sym same) h;
  },
)

pub types-refused : (old new : Context) (p : Place) (bs : List (TypBind Place)) (f : CoreFault) → AreTypesAnswered old p bs (Err f) → DeclaresTypes old p bs new (Err f)
unfolding DeclaresTypes
types-refused old new p bs F.Memory read = λ spelt apart. tt
types-refused old new p bs (F.Fault f) read = λ spelt apart C vs around s is sees. refused-types old p s f (read_type_binds C [] bs) (read spelt apart C sees.means)

pub declares-memory : (old new : Context) (p : Place) (bs : List (TypBind Place)) → DeclaresTypes old p bs new (Err F.Memory)
unfolding DeclaresTypes
declares-memory old new p bs = λ spelt apart. tt
