-- Environments with variables of one type, bound one after the other or all at once.
use Rattle.std.proofs.Common.{◌≡◌, ℕ, List, [], ◌∷◌, Option, Some, None, ap, subst, sym, refl, ◌∙◌}
use Rattle.std.specs.List.{AllByRecursion}
use Rattle.std.specs.declared.cmp.Ordering.{Ordering}
use Rattle.std.specs.declared.cmp.Ordering.TheVariants.{Less, Equal, Greater}
use Rattle.sml_lex.specs.declared.fault.Place.{Place}
use Rattle.sml_tree.specs.Trees.{Id}
use Rattle.sml_tree.specs.Expressions.{Rule}
use Rattle.sml_objects.specs.Initial.{Name}
use Rattle.sml_objects.specs.Maps.{Map, join, lookup, order_of, put}
use Rattle.sml_objects.specs.Objects.{MlType, MlTypes, bound, free, app, mono, no_type, and_type}
use Rattle.sml_objects.proofs.Puts.{at, lookup-put, same_ident}
use Rattle.sml_graph.specs.Interned.{IsOver, AreOver, IsBodyOver, AreBodiesOver}
use Rattle.sml_rules.specs.Lookups.{Found, found, no_entry, no_path, entry}
use Rattle.sml_core_rules.specs.Lookups.{find_at, type_at, value_at}
use Rattle.sml_core_rules.specs.Objects.{Env, Structures, TyStr, Value, extend, maps, no_structure, variable}
use Rattle.sml_core_rules.specs.Expressions.{bound_values}
use Rattle.sml_core_rules.specs.Patterns.{Bindings}
use Rattle.sml_core_rules.specs.Rules.{AreApart}
use Rattle.sml_core_rules.specs.States.{State, Window}
use Rattle.sml_types.proofs.Extensions.{IsRising, join-put, rising-put}
use Rattle.sml_scopes.specs.Means.{Means}
use Rattle.sml_scopes.specs.declared.scopes.Scopes.{Scopes}
use Rattle.sml_asks.specs.Solvers.{IsTypeIn}
use Rattle.sml_core.specs.declared.context.Context.{Context}
use Rattle.sml_core.specs.Seen.{AreFunctionsIn, AreValuesIn, IsFunctionIn, IsValueIn, Sees}
use Rattle.sml_core.specs.Rules.{IsOpened, variable_entry, with_bound}
use Rattle.sml_core.proofs.Sequences.{functions-later, type-later, values-later}

-- the value of a variable of one type
abbrev one : MlType Name → Value Name
one t = record { scheme = mono t; status = variable }

-- bound one after the other
abbrev pub bound_on : Env Name → Bindings Name → Env Name
bound_on C [] = C
bound_on C (b ∷ bs) = bound_on (extend C (maps no_structure [] (variable_entry b.0 b.1 ∷ []))) bs

abbrev lefts : Map (Value Name) → Bindings Name → Map (Value Name)
lefts m [] = m
lefts m (b ∷ bs) = lefts (put b.0 (one b.1) m) bs

abbrev puts : Map (Value Name) → Bindings Name → Map (Value Name)
puts m [] = m
puts m (b ∷ bs) = put b.0 (one b.1) (puts m bs)

rising-bound : (bs : Bindings Name) → IsRising (bound_values bs)
rising-bound [] = tt
rising-bound (b ∷ bs) = rising-put b.0 (one b.1) (bound_values bs) (rising-bound bs)

joined-puts : (m : Map (Value Name)) (bs : Bindings Name) → join m (bound_values bs) ≡ puts m bs
joined-puts m [] = refl
joined-puts m (b ∷ bs) = join-put b.0 (one b.1) m (bound_values bs) (rising-bound bs) ∙ ap (put b.0 (one b.1)) (joined-puts m bs)

-- where none is bound twice, their order doesn't matter

exchange : (x y z : Id) (v w a : Option (Value Name)) → (order_of z y ≡ Equal → ⊥) → at (order_of x y) v (at (order_of x z) w a) ≡ at (order_of x z) w (at (order_of x y) v a)
exchange x y z v w a differ = go (order_of x y) (order_of x z) refl refl
  where
    go : (o p : Ordering) → order_of x y ≡ o → order_of x z ≡ p → at o v (at p w a) ≡ at p w (at o v a)
    go Less p i j = refl
    go Greater p i j = refl
    go Equal Less i j = refl
    go Equal Greater i j = refl
    go Equal Equal i j = absurd (differ (ap (λ u. order_of u y) (sym (same_ident x z j)) ∙ i))

differs : (o : Ordering) (t : MlType Name) (a : Option (MlType Name)) → at o (Some t) a ≡ None → (o ≡ Equal → ⊥) × (a ≡ None)
differs Less t a h = ((λ e. let f : Less ≡ Equal = e in absurd cc), h)
differs Equal t a h = let f : Some t ≡ None = h in absurd cc
differs Greater t a h = ((λ e. let f : Greater ≡ Equal = e in absurd cc), h)

earlier : (x y : Id) (t : MlType Name) (m : Map (Value Name)) (bs : Bindings Name) → lookup y bs ≡ None
    → lookup x (puts (put y (one t) m) bs) ≡ at (order_of x y) (Some (one t)) (lookup x (puts m bs))
earlier x y t m [] h = lookup-put x y (one t) m
earlier x y t m (c ∷ cs) h =
    let d = differs (order_of y c.0) c.1 (lookup y cs) h in
    lookup-put x c.0 (one c.1) (puts (put y (one t) m) cs)
    ∙ ap (at (order_of x c.0) (Some (one c.1))) (earlier x y t m cs d.1)
    ∙ exchange x c.0 y (Some (one c.1)) (Some (one t)) (lookup x (puts m cs)) d.0
    ∙ ap (at (order_of x y) (Some (one t))) (sym (lookup-put x c.0 (one c.1) (puts m cs)))

same-values : (x : Id) (m : Map (Value Name)) (bs : Bindings Name) → AreApart bs → lookup x (lefts m bs) ≡ lookup x (puts m bs)
same-values x m [] a = refl
same-values x m (b ∷ bs) a = same-values x (put b.0 (one b.1) m) bs a.1 ∙ earlier x b.0 b.1 m bs a.0 ∙ sym (lookup-put x b.0 (one b.1) (puts m bs))

bound-maps : (ss : Structures (TyStr Name) (Value Name)) (ts : Map (TyStr Name)) (m : Map (Value Name)) (bs : Bindings Name) → bound_on (maps ss ts m) bs ≡ maps ss ts (lefts m bs)
bound-maps ss ts m [] = refl
bound-maps ss ts m (b ∷ bs) = bound-maps ss ts (put b.0 (one b.1) m) bs

pub means-all : (s : Scopes) (C : Env Name) (bs : Bindings Name) → AreApart bs → Means s (bound_on C bs) → Means s (with_bound C bs)
means-all s (maps ss ts m) bs a h =
    let k : Means s (maps ss ts (lefts m bs)) = subst (Means s) (bound-maps ss ts m bs) h in
    record {
      values_are = λ x. k.values_are x ∙ same-values x m bs a ∙ ap (lookup x) (sym (joined-puts m bs));
      types_are = k.types_are;
      structures_are = k.structures_are;
      values_stand = k.values_stand;
      types_stand = k.types_stand;
      structures_stand = k.structures_stand;
    }

-- what stands in it speaks of what was made

mutual
  unfolding IsOver AreOver IsBodyOver AreBodiesOver

  over-body : (k : ℕ) (t : MlType Name) → IsOver k t → IsBodyOver 0 k t
  over-body k (bound v) o = absurd o
  over-body k (free v) o = o
  over-body k (app h ts) o = over-bodies k ts o

  over-bodies : (k : ℕ) (ts : MlTypes Name) → AreOver k ts → AreBodiesOver 0 k ts
  over-bodies k no_type o = tt
  over-bodies k (and_type t ts) o = (over-body k t o.0, over-bodies k ts o.1)

there : Found (Value Name) → Value Name → Value Name
there (found v) w = v
there (no_path s) w = w
there no_entry w = w

one-in : (made : ℕ) (names : List Name) (t : MlType Name) → IsTypeIn made names t → IsValueIn made names (one t)
one-in made names t k = record { unknowns = over-body made t k.0; mentions = k.1; status = tt }

module _ (made : ℕ) (names : List Name) (ss : Structures (TyStr Name) (Value Name)) (ts : Map (TyStr Name)) (m : Map (Value Name)) (known : AreValuesIn made names (maps ss ts m)) where
  put-in : (last : Id) (v : Value Name) (bs : Bindings Name) → AllByRecursion (λ b. IsTypeIn made names b.1) bs → entry (lookup last (puts m bs)) ≡ found v → IsValueIn made names v
  unfolding AreValuesIn value_at find_at there
  put-in last v [] a f = known (record { path = []; last = last }) v f
  put-in last v (b ∷ bs) a f = go (order_of last b.0) (ap entry (sym (lookup-put last b.0 (one b.1) (puts m bs))) ∙ f) (put-in last v bs a.1)
    where
      go : (o : Ordering) → entry (at o (Some (one b.1)) (lookup last (puts m bs))) ≡ found v → (entry (lookup last (puts m bs)) ≡ found v → IsValueIn made names v) → IsValueIn made names v
      go Less e rest = rest e
      go Greater e rest = rest e
      go Equal e rest = subst (IsValueIn made names) (ap (λ f. there f v) e) (one-in made names b.1 a.0)

  at-path : (bs : Bindings Name) → AllByRecursion (λ b. IsTypeIn made names b.1) bs → (path : List Id) (last : Id) (v : Value Name)
      → value_at (maps ss ts (join m (bound_values bs))) (record { path = path; last = last }) ≡ found v → IsValueIn made names v
  unfolding AreValuesIn value_at find_at
  at-path bs a [] last v f = put-in last v bs a (ap (λ n. entry (lookup last n)) (sym (joined-puts m bs)) ∙ f)
  at-path bs a (s ∷ path) last v f = known (record { path = s ∷ path; last = last }) v f

values-with : (made : ℕ) (names : List Name) (C : Env Name) (bs : Bindings Name) → AreValuesIn made names C → AllByRecursion (λ b. IsTypeIn made names b.1) bs → AreValuesIn made names (with_bound C bs)
unfolding AreValuesIn
values-with made names (maps ss ts m) bs known a = λ x v f. at-path made names ss ts m known bs a x.path x.last v f

functions-with : (made : ℕ) (names : List Name) (C : Env Name) (bs : Bindings Name) → AreFunctionsIn made names C → AreFunctionsIn made names (with_bound C bs)
unfolding AreFunctionsIn type_at find_at
functions-with made names (maps ss ts m) bs known = λ c t f. go c.path c.last t f
  where
    go : (path : List Id) (last : Id) (t : TyStr Name) → type_at (maps ss ts (join m (bound_values bs))) (record { path = path; last = last }) ≡ found t → IsFunctionIn made names t
    go [] last t f = known (record { path = []; last = last }) t f
    go (s ∷ path) last t f = known (record { path = s ∷ path; last = last }) t f

-- what is seen where the variables of a rule are bound
pub sees-bound : {around : Window Place Name} {old new : Context} {r : Rule Place} {C : Env Name} {vs : Map (MlType Name)} {s u : State Place Name} {t : MlType Name} {bs : Bindings Name}
    → IsOpened around old r C vs s new t bs u → Sees C vs old s → Sees (with_bound C bs) vs new u
sees-bound {around} {old} {new} {r} {C} {vs} {s} {u} {t} {bs} o sees =
    let l = o.reaches.later in
    record {
      means = o.means;
      values = values-with u.made u.names C bs (values-later s u l C sees.values) o.bound;
      functions = functions-with u.made u.names C bs (functions-later s u l C sees.functions);
      scoped = o.reaches.seen.scoped vs sees.scoped;
      variables = λ x w is. type-later s u l w (sees.variables x w is);
      spelled = sees.spelled;
    }
