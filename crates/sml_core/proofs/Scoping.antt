-- Explicit variables are scoped one after the other, those of a list that are not in scope.
use Rattle.std.proofs.Common.{◌≡◌, ℕ, Bool, true, false, cond, ◌||◌, Option, Some, None, Ok, Err, List, [], ◌∷◌, ◌++◌, refl, ap, sym, subst, ◌∙◌, Vec}
use Rattle.std.proofs.lemmas.List.{append_assoc, append-nil}
use Rattle.std.specs.Global.{Global}
use Rattle.std.specs.Option.{is_some, option_map}
use Rattle.std.specs.Prelude.{unwrap_or}
use Rattle.std.specs.Str.{bytes_eq}
use Rattle.indexmap.proofs.MapLemmas.{absent_from_lookup, insert_entry-absent}
use Rattle.sml_lex.specs.declared.fault.Place.{Place}
use Rattle.sml_tree.specs.Trees.{Id}
use Rattle.sml_tree.specs.Views.{ident_of}
use Rattle.sml_tree.specs.Withtype.{unlisted}
use Rattle.sml_tree.proofs.Tables.{given}
use Rattle.sml_objects.specs.Initial.{Name}
use Rattle.sml_objects.specs.Maps.{Map, lookup}
use Rattle.sml_objects.specs.Objects.{MlType, free}
use Rattle.sml_layers.specs.Demands.{Mentions}
use Rattle.sml_graph.specs.Asked.{count}
use Rattle.sml_graph.specs.Interned.{IsOver}
use Rattle.sml_rules.specs.Answers.{accepted}
use Rattle.sml_core_rules.specs.Datatypes.{is_equality}
use Rattle.sml_core_rules.specs.Expressions.{Begun, admit_equality, not_in_scope, scope_variables}
use Rattle.sml_core_rules.specs.Lookups.{is_listed, is_same}
use Rattle.sml_core_rules.specs.Objects.{Env}
use Rattle.sml_core_rules.specs.Scopes.{run_scope}
use Rattle.sml_core_rules.specs.Scripts.{Script, IsAnswer, give, new_unknowns, require, ◌>>=◌}
use Rattle.sml_core_rules.specs.States.{Scope, State, Window, no_window, with_window}
use Rattle.sml_core_rules.proofs.Accepted.{bind-joined}
use Rattle.sml_closing.specs.Gathered.{with_all}
use Rattle.sml_types.specs.Variables.{place_in}
use Rattle.sml_types.specs.declared.fault.CoreFault.{CoreFault}
use Rattle.sml_types.specs.declared.fault.CoreFault.TheVariants as F
use Rattle.sml_types.proofs.Listing.{by-bytes}
use Rattle.sml_asks.specs.Solvers.{IsTypeIn}
use Rattle.sml_core.specs.declared.context.Context.{Context}
use Rattle.sml_core.specs.declared.explicit.Explicit.{Explicit}
use Rattle.sml_core.specs.Answered.{IsAt, IsLater, Keeps, unit_of}
use Rattle.sml_core.specs.declared.values.Declaration.{Declaration}
use Rattle.sml_core.specs.Begun.{AddsVariable, AddsVariables, BeginsValues, IsFirst, ScopesAll, ScopesVariable, inside, scope_variable}
use Rattle.sml_core.specs.Seen.{AreScoped, Sees}
use Rattle.sml_core.proofs.Begun.{is_variable, scope_so}
use Rattle.sml_core.proofs.Binding.{same-bytes}
use Rattle.sml_core.proofs.Gathered.{neither, once, unlisted-all}
use Rattle.sml_core.proofs.Sequences.{functions-later, keeps-all, later-still, no-later, type-later, values-later}

-- tests

or-false : (b : Bool) → b || false ≡ b
or-false true = refl
or-false false = refl

is-some-mapped : {A B : Type 0} (f : A → B) (o : Option A) → is_some (option_map f o) ≡ is_some o
is-some-mapped f None = refl
is-some-mapped f (Some a) = refl

mapped-if : {A B : Type 0} (f : A → B) (b : Bool) (a : A) (o : Option A) → cond b (Some (f a)) (option_map f o) ≡ option_map f (cond b (Some a) o)
mapped-if f true a o = refl
mapped-if f false a o = refl

some-if : {A : Type 0} (b : Bool) (a : A) (o : Option A) → is_some (cond b (Some a) o) ≡ b || is_some o
some-if true a o = refl
some-if false a o = refl

exchanged : (a b c : Bool) → a || (b || c) ≡ b || (a || c)
exchanged true true c = refl
exchanged true false c = refl
exchanged false b c = refl

no-place : {A : Type 0} (o : Option A) → is_some o ≡ false → o ≡ None
no-place None h = refl
no-place (Some a) h = let e : true ≡ false = h in absurd cc

either-type : (Q : MlType Name → Type 0) (b : Bool) (t u : MlType Name) (o : Option (MlType Name)) → Q t → (o ≡ Some u → Q u) → cond b (Some t) o ≡ Some u → Q u
either-type Q true t u o q f h = subst Q (ap (λ x. unwrap_or x t) h) q
either-type Q false t u o q f h = f h

-- types with one more

looked-up : (x y : Id) (k : ℕ) (ws : Map (MlType Name)) → lookup y ((x, free k) ∷ ws) ≡ cond (bytes_eq y x) (Some (free k)) (lookup y ws)
looked-up x y k ws = by-bytes y x (lookup y ws) (Some (free k))

module _ (old new : Explicit) (x : Id) (k : ℕ) (none : place_in old.unknowns.entries x ≡ None) (adds : AddsVariable old x k new) where
  place-more : (y : Id) → place_in new.unknowns.entries y ≡ cond (bytes_eq y x) (Some k) (place_in old.unknowns.entries y)
  place-more y =
      let es = old.unknowns.entries in
      let a = adds none in
      let absent = absent_from_lookup (λ q. bytes_eq (ident_of a.0) (ident_of q)) es (ap (place_in es) a.1 ∙ none) in
      ap (λ l. place_in l y) (a.2 ∙ sym (insert_entry-absent (λ p q. bytes_eq (ident_of p) (ident_of q)) a.0 k es absent))
      ∙ given ident_of y es a.0 k ∙ ap (λ z. cond (bytes_eq y z) (Some k) (place_in es y)) a.1

  scoped-more : (ws : Map (MlType Name)) → AreScoped old ws → AreScoped new ((x, free k) ∷ ws)
  scoped-more ws scoped = λ y.
      looked-up x y k ws ∙ ap (cond (bytes_eq y x) (Some (free k))) (scoped y) ∙ mapped-if free (bytes_eq y x) k (place_in old.unknowns.entries y) ∙ ap (option_map free) (sym (place-more y))

-- one more of a script

module _ (scope : Scope Name) (p : Place) (ws : Map (MlType Name)) (x : Id) (ys : List Id) where
  abbrev then_all : ℕ → Script Place Name (List ℕ × Map (MlType Name))
  then_all k = do
    r ← scope_variables scope p ((x, free k) ∷ ws) ys
    give (k ∷ r.0, r.1)

  abbrev one_and_all : Bool → Script Place Name (List ℕ × Map (MlType Name))
  one_and_all b = do
    k ← new_unknowns 1
    u ← require (is_variable b k) p
    e ← admit_equality scope p b k
    then_all k

  module _ (s t u : State Place Name) (k : ℕ) (ks : List ℕ) (us : Map (MlType Name)) (rest : IsAnswer scope (scope_variables scope p ((x, free k) ∷ ws) ys) t (accepted ((ks, us), u))) where
    joined : (b : Bool) → IsAnswer scope (scope_so scope p b >>= then_all) s (accepted ((k ∷ ks, us), u)) → IsAnswer scope (one_and_all b) s (accepted ((k ∷ ks, us), u))
    unfolding ◌>>=◌
    joined true h = h
    joined false h = h

    one-more : IsAnswer scope (scope_variable scope p x) s (accepted (k, t)) → IsAnswer scope (scope_variables scope p ws (x ∷ ys)) s (accepted ((k ∷ ks, us), u))
    unfolding IsAnswer
    one-more first =
        joined (is_equality x) (bind-joined scope (scope_variable scope p x) then_all s (k, t) (accepted ((k ∷ ks, us), u)) first
        (bind-joined scope (scope_variables scope p ((x, free k) ∷ ws) ys) (λ r. give (k ∷ r.0, r.1)) t ((ks, us), u) (accepted ((k ∷ ks, us), u)) rest refl))

-- What is left of a list is to be asked in the state that was reached; what is answered there is answered in the first one.
pub record IsAmid (p : Place) (around : Window Place Name) (old : Context) (vs : Map (MlType Name)) (xs : List Id) (s : State Place Name) (now : Context) (ks : List ℕ) (rest seen : List Id)
    (ws : Map (MlType Name)) (t : State Place Name) : Type 0 where
  pub at : IsAt around now t
  pub unit : unit_of now ≡ unit_of old
  pub seen_still : Keeps old (record now { explicit = old.explicit })
  pub later : IsLater s t
  pub goes_on : (ls : List ℕ) (us : Map (MlType Name)) (u : State Place Name)
      → IsAnswer (run_scope (unit_of old)) (scope_variables (run_scope (unit_of old)) p ws (not_in_scope vs seen rest)) t (accepted ((ls, us), u))
      → IsAnswer (run_scope (unit_of old)) (scope_variables (run_scope (unit_of old)) p vs (not_in_scope vs [] xs)) s (accepted ((ks ++ ls, us), u))
  pub scoped : AreScoped now.explicit ws
  pub in_scope : (y : Id) → is_some (lookup y ws) ≡ is_some (lookup y vs) || is_listed y seen
  pub types : (y : Id) (u : MlType Name) → lookup y ws ≡ Some u → IsTypeIn t.made t.names u
  pub others : (y : Id) → is_listed y xs ≡ false → lookup y ws ≡ lookup y vs

-- some of the list were passed, and these unknowns are of those that were not in scope
pub record IsScoping (old : Context) (xs : List Id) (ks : List ℕ) (rest : List Id) (now : Context) : Type 0 where
  pub adds : AddsVariables old.explicit now.explicit
  pub left : (y : Id) → is_listed y xs ≡ false → is_listed y rest ≡ false
  pub amid : (p : Place) (C : Env Name) (vs : Map (MlType Name)) (around : Window Place Name) (s : State Place Name) → IsAt around old s → Sees C vs old s
      → (seen : List Id) × (ws : Map (MlType Name)) × (t : State Place Name) × IsAmid p around old vs xs s now ks rest seen ws t

pub none-scoped : (old : Context) (xs : List Id) → IsScoping old xs [] xs old
none-scoped old xs = record {
  adds = ([], sym (append-nil old.explicit.unknowns.entries));
  left = λ y h. h;
  amid = λ p C vs around s is sees. (
    [],
    vs,
    s,
    record {
      at = is;
      unit = refl;
      seen_still = keeps-all;
      later = no-later s;
      goes_on = λ ls us u a. a;
      scoped = sees.scoped;
      in_scope = λ y. sym (or-false (is_some (lookup y vs)));
      types = sees.variables;
      others = λ y h. refl;
    },
  );
}

module _ (old now : Context) (xs rest : List Id) (ks : List ℕ) (x : Id) (so : IsScoping old xs ks (x ∷ rest) now) where
  passed : (p : Place) (around : Window Place Name) (vs : Map (MlType Name)) (s t : State Place Name) (seen : List Id) (ws : Map (MlType Name)) → IsAmid p around old vs xs s now ks (x ∷ rest) seen ws t
      → (b : Bool) → is_some (place_in now.explicit.unknowns.entries x) ≡ b → is_some (lookup x vs) || is_listed x seen ≡ b
  passed p around vs s t seen ws m b e = sym (m.in_scope x) ∙ ap is_some (m.scoped x) ∙ is-some-mapped free (place_in now.explicit.unknowns.entries x) ∙ e

  -- one that is in scope
  pub one-passed : is_some (place_in now.explicit.unknowns.entries x) ≡ true → IsScoping old xs ks rest now
  one-passed there = record {
    adds = so.adds;
    left = λ y h. (neither (is_same y x) (is_listed y rest) (so.left y h)).1;
    amid = λ p C vs around s is sees.
        let m = so.amid p C vs around s is sees in
        let scope = run_scope (unit_of old) in (
          m.0,
          m.1,
          m.2,
          record {
            at = m.3.at;
            unit = m.3.unit;
            seen_still = m.3.seen_still;
            later = m.3.later;
            goes_on = λ ls us u a. m.3.goes_on ls us u
                (subst (λ b. IsAnswer scope (scope_variables scope p m.1 (cond b (not_in_scope vs m.0 rest) (x ∷ not_in_scope vs (x ∷ m.0) rest))) m.2 (accepted ((ls, us), u)))
                (sym (passed p around vs s m.2 m.0 m.1 m.3 true there)) a);
            scoped = m.3.scoped;
            in_scope = m.3.in_scope;
            types = m.3.types;
            others = m.3.others;
          },
        );
  }

  -- one that is not
  module _ (new : Context) (k : ℕ) (absent : is_some (place_in now.explicit.unknowns.entries x) ≡ false) (scopes : ScopesVariable now x new (Ok k)) where
    added-one : AddsVariable now.explicit x k new.explicit
    unfolding ScopesVariable
    added-one = scopes.0

    none : place_in now.explicit.unknowns.entries x ≡ None
    none = no-place (place_in now.explicit.unknowns.entries x) absent

    more : AddsVariables old.explicit new.explicit
    more =
        let a = added-one none in
        (so.adds.0 ++ (a.0, k) ∷ [], a.2 ∙ ap (λ es. es ++ (a.0, k) ∷ []) so.adds.1 ∙ append_assoc old.explicit.unknowns.entries so.adds.0 ((a.0, k) ∷ []))

    pub one-scoped : IsScoping old xs (ks ++ k ∷ []) rest new
    unfolding ScopesVariable IsOver Mentions
    one-scoped = record {
      adds = more;
      left = λ y h. (neither (is_same y x) (is_listed y rest) (so.left y h)).1;
      amid = λ p C vs around s is sees.
          let m = so.amid p C vs around s is sees in
          let n = scopes.1 p around m.2 m.3.at in
          let scope = run_scope (unit_of old) in
          let ws : Map (MlType Name) = (x, free k) ∷ m.1 in
          let first : IsAnswer scope (scope_variable scope p x) m.2 (accepted (k, n.0)) =
          subst (λ u. IsAnswer (run_scope u) (scope_variable (run_scope u) p x) m.2 (accepted (k, n.0))) m.3.unit n.1.answer in (
            x ∷ m.0,
            ws,
            n.0,
            record {
              at = record { solver = n.1.at.solver; rows = n.1.at.rows; overloaded = n.1.at.overloaded; quiet = n.1.at.quiet };
              unit = n.1.unit ∙ m.3.unit;
              seen_still = record { means = λ D h. n.1.seen.means D (m.3.seen_still.means D h); around = λ D l h. n.1.seen.around D l (m.3.seen_still.around D l h); scoped = λ us h. h };
              later = later-still m.3.later n.1.later;
              goes_on = λ ls us u a.
                  subst (λ l. IsAnswer scope (scope_variables scope p vs (not_in_scope vs [] xs)) s (accepted ((l, us), u))) (sym (append_assoc ks (k ∷ []) ls))
                  (m.3.goes_on (k ∷ ls) us u
                  (subst (λ b. IsAnswer scope (scope_variables scope p m.1 (cond b (not_in_scope vs m.0 rest) (x ∷ not_in_scope vs (x ∷ m.0) rest))) m.2 (accepted ((k ∷ ls, us), u)))
                  (sym (passed p around vs s m.2 m.0 m.1 m.3 false absent))
                  (one-more scope p m.1 x (not_in_scope vs (x ∷ m.0) rest) m.2 n.0 u k ls us a first)));
              scoped = scoped-more now.explicit new.explicit x k none added-one m.1 m.3.scoped;
              in_scope = λ y.
                  ap is_some (looked-up x y k m.1) ∙ some-if (bytes_eq y x) (free k) (lookup y m.1) ∙ (λ i. same-bytes y x i || m.3.in_scope y i)
                  ∙ exchanged (is_same y x) (is_some (lookup y vs)) (is_listed y m.0);
              types = λ y u e.
                  either-type (IsTypeIn n.0.made n.0.names) (bytes_eq y x) (free k) u (lookup y m.1) (n.2, tt) (λ f. type-later m.2 n.0 n.1.later u (m.3.types y u f)) (sym (looked-up x y k m.1) ∙ e);
              others = λ y h.
                  looked-up x y k m.1 ∙ ap (λ b. cond b (Some (free k)) (lookup y m.1)) (same-bytes y x ∙ (neither (is_same y x) (is_listed y rest) (so.left y h)).0) ∙ m.3.others y h;
            },
          );
    }

pub all-scoped : (old now : Context) (xs : List Id) (ks : Vec ℕ Global) → IsScoping old xs ks.items [] now → ScopesAll old xs now (Ok ks)
unfolding ScopesAll IsAnswer
all-scoped old now xs ks so = (
  so.adds,
  λ p C vs around s is sees.
      let m = so.amid p C vs around s is sees in
      let scope = run_scope (unit_of old) in (
        m.1,
        m.2,
        record {
          reaches = record {
            answer = subst (λ l. IsAnswer scope (scope_variables scope p vs (not_in_scope vs [] xs)) s (accepted ((l, m.1), m.2))) (append-nil ks.items) (m.3.goes_on [] m.1 m.2 refl);
            at = record { solver = m.3.at.solver; rows = m.3.at.rows; overloaded = m.3.at.overloaded; quiet = m.3.at.quiet };
            unit = m.3.unit;
            seen = m.3.seen_still;
            later = m.3.later;
          };
          sees = λ spelled. record {
            means = m.3.seen_still.means C sees.means;
            values = values-later s m.2 m.3.later C sees.values;
            functions = functions-later s m.2 m.3.later C sees.functions;
            scoped = m.3.scoped;
            variables = m.3.types;
            spelled = m.3.others unlisted spelled ∙ sees.spelled;
          };
        },
      ),
)

pub all-memory : (old new : Context) (xs : List Id) → ScopesAll old xs new (Err F.Memory)
unfolding ScopesAll
all-memory old new xs = tt

pub all-stopped : (old now mid : Context) (xs : List Id) (x : Id) (f : CoreFault) → ScopesVariable now x mid (Err f) → ScopesAll old xs mid (Err f)
unfolding ScopesVariable ScopesAll
all-stopped old now mid xs x F.Memory h = tt
all-stopped old now mid xs x (F.Fault g) h = absurd h

-- a declaration begins

module _ (around : Window Place Name) (old : Context) (s : State Place Name) where
  at-first : IsAt around old s → IsAt (inside around s) old (with_window no_window s)
  at-first is = record {
    solver = is.solver;
    rows = is.rows ∙ sym (append-nil (around.rows ++ s.window.rows));
    overloaded = is.overloaded ∙ sym (append-nil (around.overloaded ++ s.window.overloaded));
    quiet = is.quiet;
  }

  sees-first : (C : Env Name) (vs : Map (MlType Name)) → Sees C vs old s → Sees C vs old (with_window no_window s)
  sees-first C vs sees = record { means = sees.means; values = sees.values; functions = sees.functions; scoped = sees.scoped; variables = sees.variables; spelled = sees.spelled }

module _ (old new : Context) (ks xs : List Id) (gathered : ks ≡ with_all [] xs) where
  pub values-begun : (d : Declaration) → IsFirst old d → d.unknowns ≡ count old.solver → ScopesAll old ks new (Ok d.scoped) → BeginsValues old xs new (Ok d)
  unfolding ScopesAll BeginsValues IsAnswer ◌>>=◌
  values-begun d first unknowns scopes = (
    first,
    scopes.0,
    λ p C vs around s is sees.
        let m = scopes.1 p C vs (inside around s) (with_window no_window s) (at-first around old s is) (sees-first around old s C vs sees) in
        let scope = run_scope (unit_of old) in
        let b : Begun Place Name = record { made = s.made; window = s.window; scoped = d.scoped.items; variables = m.0 } in
        let r = m.2.reaches in
        let answer : IsAnswer scope (scope_variables scope p vs (not_in_scope vs [] xs)) (with_window no_window s) (accepted ((d.scoped.items, m.0), m.1)) =
        subst (λ ys. IsAnswer scope (scope_variables scope p vs ys) (with_window no_window s) (accepted ((d.scoped.items, m.0), m.1))) (ap (not_in_scope vs []) gathered ∙ once vs xs) r.answer in (
          b,
          m.1,
          record {
            reaches = record {
              answer = bind-joined scope (scope_variables scope p vs (not_in_scope vs [] xs)) (λ q. give (record { made = s.made; window = s.window; scoped = q.0; variables = q.1 }))
                  (with_window no_window s) ((d.scoped.items, m.0), m.1) (accepted (b, m.1)) answer refl;
              at = r.at;
              unit = r.unit;
              seen = r.seen;
              later = record { made = r.later.made; names = r.later.names };
            };
            made = unknowns ∙ is.solver.unknowns;
            scoped = refl;
            window = refl;
            sees = λ spelled. m.2.sees (subst (λ ys. is_listed unlisted ys ≡ false) (sym gathered) (unlisted-all unlisted [] xs refl spelled));
          },
        ),
  )

pub begin-stopped : (old new : Context) (ks xs : List Id) (f : CoreFault) → ScopesAll old ks new (Err f) → BeginsValues old xs new (Err f)
unfolding ScopesAll BeginsValues
begin-stopped old new ks xs F.Memory h = tt
begin-stopped old new ks xs (F.Fault g) h = absurd h

pub begin-memory : (old new : Context) (xs : List Id) → BeginsValues old xs new (Err F.Memory)
unfolding BeginsValues
begin-memory old new xs = tt
