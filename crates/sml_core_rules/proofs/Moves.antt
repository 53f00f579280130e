-- Readings of renamed objects. A renaming is a path between two worlds of names, along which a relation is carried.
use Rattle.std.proofs.Common.{◌≡◌, ℕ, List, [], ◌∷◌, map, refl, subst}
use std.Equiv.{iso_to_equiv}
use Rattle.sml_tree.specs.Expressions.{Dec}
use Rattle.sml_objects.specs.Alike.{Renaming}
use Rattle.sml_objects.specs.Maps.{Map}
use Rattle.sml_objects.specs.Names.{Naming}
use Rattle.sml_objects.specs.Objects.{MlType, rename_type}
use Rattle.sml_objects.proofs.Renaming.{rename_type-id}
use Rattle.sml_layers.specs.declared.variable.Variable.{Variable}
use Rattle.sml_layers.specs.Demands.{Ask, within, equality, of_class, variable, Demand, equal, has_fields, asks}
use Rattle.sml_rules.specs.Answers.{Answer, refused, accepted}
use Rattle.sml_rules.proofs.Worlds.{Named, Over, moved}
use Rattle.sml_core_rules.specs.Objects.{Env, replaced, rename_env}
use Rattle.sml_core_rules.specs.States.{State}
use Rattle.sml_core_rules.specs.Expressions.{IsReading}
use Rattle.sml_core_rules.specs.Contexts.{Context}
use Rattle.sml_core_rules.specs.Rules.{Declares}
use Rattle.sml_core_rules.specs.Statements.{rename_ask, rename_demand, rename_state, rename_answer, rename_context, DerivationsMove}
use Rattle.sml_core_rules.proofs.Renaming.{list-id, replaced-id, env-id}

each-id : {X : Type 0} (f : X → X) → ((x : X) → f x ≡ x) → (xs : List X) → map f xs ≡ xs
each-id f h [] = refl
each-id f h (x ∷ xs) = λ i. h x i ∷ each-id f h xs i

ask-id : {N : Type 0} (a : Ask (List N)) → rename_ask (λ n. n) a ≡ a
ask-id (within k T) = λ i. within k (list-id T i)
ask-id equality = refl
ask-id (of_class c) = refl
ask-id (variable x) = refl

demand-id : {N : Type 0} (d : Demand N (List N)) → rename_demand (λ n. n) d ≡ d
demand-id (equal t u) = λ i. equal (rename_type-id t i) (rename_type-id u i)
demand-id (has_fields t fs) = λ i. has_fields (rename_type-id t i) (replaced-id (rename_type (λ n. n)) rename_type-id fs i)
demand-id (asks a t) = λ i. asks (ask-id a i) (rename_type-id t i)

state-id : {P N : Type 0} (s : State P N) → rename_state (λ n. n) s ≡ s
state-id s = λ i. record {
  made = s.made;
  names = list-id s.names i;
  demands = each-id (rename_demand (λ n. n)) demand-id s.demands i;
  window = record {
    rows = each-id (λ r. (r.0, rename_type (λ n. n) r.1)) (λ r j. (r.0, rename_type-id r.1 j)) s.window.rows i;
    overloaded = s.window.overloaded;
  };
  is_open = s.is_open;
  judged = s.judged;
}

pub answer-id : {P N X : Type 0} (g : X → X) → ((x : X) → g x ≡ x) → (o : Answer P (X × State P N)) → rename_answer g (λ n. n) o ≡ o
answer-id g h (refused f) = refl
answer-id g h (accepted r) = λ i. accepted (h r.0 i, state-id r.1 i)

-- what a reading speaks of: the names of explicit variables, the context, the explicit variables, the state, and the answer
pub record Told (P N : Type 0) : Type 0 where
  pub variable : Variable → N
  pub context : Env N
  pub explicit : Map (MlType N)
  pub state : State P N
  pub answer : Answer P (Env N × State P N)

rename_told : {P A B : Type 0} → (A → B) → Told P A → Told P B
rename_told f x = record {
  variable = λ v. f (x.variable v);
  context = rename_env f x.context;
  explicit = replaced (rename_type f) x.explicit;
  state = rename_state f x.state;
  answer = rename_answer (rename_env f) f x.answer;
}

told-id : {P N : Type 0} (x : Told P N) → rename_told (λ n. n) x ≡ x
unfolding rename_told
told-id x = λ i. record {
  variable = x.variable;
  context = env-id x.context i;
  explicit = replaced-id (rename_type (λ n. n)) rename_type-id x.explicit i;
  state = state-id x.state i;
  answer = answer-id (rename_env (λ n. n)) env-id x.answer i;
}

told_named : {P : Type 0} → Named (Told P)
told_named = record { rename = rename_told; rename-id = told-id }

pub readings-move : {P N : Type 0} (names : Naming N) (f : Renaming names) (unit : ℕ) (var : Variable → N) (C : Env N) (vs : Map (MlType N)) (d : Dec P) (s : State P N) (o : Answer P (Env N × State P N))
    → IsReading (record { names = names; unit = unit; variable = var }) C vs d s o
    → IsReading (record { names = names; unit = unit; variable = λ x. f.to (var x) }) (rename_env f.to C) (replaced (rename_type f.to) vs) d (rename_state f.to s) (rename_answer (rename_env f.to) f.to o)
unfolding rename_told told_named
readings-move {P} {N} names f unit var C vs d s o r =
    subst {A = Over (Told P)} (λ w. IsReading (record { names = w.1; unit = unit; variable = w.2.variable }) w.2.context w.2.explicit d w.2.state w.2.answer)
    (moved told_named (iso_to_equiv (record { fun = f.to; inv = f.from; rinv = f.to-from; linv = f.from-to })) names names
    (record { attributes = f.keeps; initial = f.initial }) (record { variable = var; context = C; explicit = vs; state = s; answer = o })) r

-- what a derivation speaks of: the context and the environment
record Derived (N : Type 0) : Type 0 where
  context : Context N
  env : Env N

derived_named : Named Derived
derived_named = record {
  rename = λ f x. record { context = rename_context f x.context; env = rename_env f x.env };
  rename-id = λ x i. record {
    context = record { names = list-id x.context.names i; explicit = replaced-id (rename_type (λ n. n)) rename_type-id x.context.explicit i; env = env-id x.context.env i };
    env = env-id x.env i;
  };
}

pub derivations-move : {N : Type 0} (names : Naming N) → DerivationsMove names
unfolding derived_named
derivations-move names f eq C d E h =
    subst {A = Over Derived} (λ w. Declares w.1 eq w.2.context d w.2.env)
    (moved derived_named (iso_to_equiv (record { fun = f.to; inv = f.from; rinv = f.to-from; linv = f.from-to })) names names
    (record { attributes = f.keeps; initial = f.initial }) (record { context = C; env = E })) h
