-- The beginning of a value declaration: explicit variables are scoped, one after the other.
use Rattle.std.proofs.Common.{◌≡◌, ◌<◌, ◌+◌, ℕ, Bool, true, false, Ok, Err, List, inl, refl, ap, sym, subst, ◌∙◌, arith, Vec}
use Rattle.std.specs.Global.{Global}
use Rattle.std.specs.Str.{bytes_eq}
use Rattle.std.specs.declared.rc.Rc.{Rc}
use Rattle.indexmap.specs.IndexMap.{insert_entry}
use Rattle.indexmap.proofs.MapLemmas.{absent_from_lookup, insert_entry-absent}
use Rattle.sml_lex.specs.declared.fault.Place.{Place}
use Rattle.sml_tree.specs.Trees.{Id}
use Rattle.sml_tree.specs.Views.{ident_of}
use Rattle.sml_objects.specs.Initial.{Name}
use Rattle.sml_objects.specs.Objects.{free}
use Rattle.sml_layers.specs.Demands as D
use Rattle.sml_layers.specs.Demands.{Demand, Mentions}
use Rattle.sml_graph.specs.Asked as A
use Rattle.sml_graph.specs.Asked.{Asked}
use Rattle.sml_graph.specs.Interned.{IsOver}
use Rattle.sml_graph.specs.declared.demand.Ask.TheVariants as Ask
use Rattle.sml_rules.specs.Answers.{accepted}
use Rattle.sml_core_rules.specs.Datatypes.{is_equality}
use Rattle.sml_core_rules.specs.Expressions.{admit_equality}
use Rattle.sml_core_rules.specs.Scopes.{run_scope}
use Rattle.sml_core_rules.specs.Scripts.{Script, IsAnswer, give, new_unknowns, require, ◌>>=◌}
use Rattle.sml_core_rules.specs.States.{Scope, State, Window, with_demand, with_unknowns}
use Rattle.sml_types.specs.Variables.{place_in}
use Rattle.sml_types.specs.declared.fault.CoreFault.TheVariants as F
use Rattle.sml_asks.specs.Solvers.{IsTypeIn}
use Rattle.sml_asks.specs.Steps.{Answers, Asks, Makes}
use Rattle.sml_asks.proofs.Stepping.{ask-answer}
use Rattle.sml_core.specs.declared.context.Context.{Context}
use Rattle.sml_core.specs.declared.explicit.Explicit.{Explicit}
use Rattle.sml_core.specs.Answered.{IsAt, Reaches, unit_of}
use Rattle.sml_core.specs.Begun.{AddsVariable, ScopesVariable}

-- a table with one variable more
pub added : (old new : Explicit) (k : Rc (Vec ℕ Global) Global) (x : Id) (v : ℕ) → ident_of k ≡ x
    → new.unknowns.entries ≡ insert_entry (λ p q. bytes_eq (ident_of p) (ident_of q)) old.unknowns.entries k v → AddsVariable old x v new
added old new k x v key e = λ none.
    let es = old.unknowns.entries in
    let absent = absent_from_lookup (λ q. bytes_eq (ident_of k) (ident_of q)) es (ap (place_in es) key ∙ none) in
    (k, key, e ∙ insert_entry-absent (λ p q. bytes_eq (ident_of p) (ident_of q)) k v es absent)

-- one variable

abbrev pub is_variable : Bool → ℕ → Demand Name (List Name)
is_variable b k = D.asks (D.variable (record { number = k; equality = b })) (free k)

-- what is asked for a variable that admits equality or not
abbrev pub scope_so : Scope Name → Place → Bool → Script Place Name ℕ
scope_so scope p b = do
  k ← new_unknowns 1
  u ← require (is_variable b k) p
  e ← admit_equality scope p b k
  give k

-- the solver was asked that
abbrev pub ScopesSo : Context → Bool → Asked → ℕ → Type 0
ScopesSo old b solver k =
    (p : Place) (around : Window Place Name) (s : State Place Name) → IsAt around old s
    → (t : State Place Name) × Reaches around old (scope_so (run_scope (unit_of old)) p b) s (record old { solver = solver }) k t × (k < t.made)

module _ (old : Context) (b : Bool) (k : ℕ) (one two : Asked) (made : Makes old.solver k 1 one) (asked : Asks one (A.asks (Ask.Variable (record { number = k; equality = b })) (free k)) two (Ok tt)) where
  module _ (around : Window Place Name) (s : State Place Name) (is : IsAt around old s) where
    number : k ≡ s.made
    unfolding Makes
    number = (made (unit_of old) old.new.next s is.solver).0

    abbrev then : State Place Name
    then = with_demand (is_variable b k) (with_unknowns 1 s)

    known : IsTypeIn (s.made + 1) s.names (free k)
    unfolding IsOver Mentions
    known = (omega (arith, number), tt)

    is-variable : Answers (unit_of old) old.new.next (with_unknowns 1 s) (is_variable b k) two (Ok tt)
    unfolding Makes
    is-variable =
        ask-answer (unit_of old) old.new.next one two (with_unknowns 1 s) (made (unit_of old) old.new.next s is.solver).1 (Ok tt) (Ask.Variable (record { number = k; equality = b }))
        (D.variable (record { number = k; equality = b }))
        (free k) asked refl known

    -- the rest of the script
    from-there : (p : Place) (t : State Place Name) → IsAnswer (run_scope (unit_of old)) (admit_equality (run_scope (unit_of old)) p b k >>= λ e. give k) then (accepted (k, t))
        → IsAnswer (run_scope (unit_of old)) (scope_so (run_scope (unit_of old)) p b) s (accepted (k, t))
    unfolding IsAnswer ◌>>=◌
    from-there p t rest =
        subst (λ n. IsAnswer (run_scope (unit_of old)) (require (is_variable b n) p >>= λ u. admit_equality (run_scope (unit_of old)) p b n >>= λ e. give n) (with_unknowns 1 s) (accepted (k, t))) number
        (inl (is-variable.met, rest))

  pub scoped-plain : b ≡ false → ScopesSo old b two k
  unfolding IsAnswer ◌>>=◌
  scoped-plain plain = λ p around s is. (
    then around s is,
    record {
      answer = from-there around s is p (then around s is)
          (subst (λ c. IsAnswer (run_scope (unit_of old)) (admit_equality (run_scope (unit_of old)) p c k >>= λ e. give k) (then around s is) (accepted (k, then around s is))) (sym plain) refl);
      at = record { solver = is-variable around s is; rows = is.rows; overloaded = is.overloaded; quiet = is.quiet };
      unit = refl;
      seen = record { means = λ C h. h; around = λ C m h. h; scoped = λ vs h. h };
      later = record { made = omega arith; names = λ n h. h };
    },
    omega (arith, number around s is),
  )

  pub scoped-equality : (three : Asked) → b ≡ true → Asks two (A.asks Ask.Equality (free k)) three (Ok tt) → ScopesSo old b three k
  unfolding IsAnswer ◌>>=◌
  scoped-equality three admits asks = λ p around s is.
      let d : Demand Name (List Name) = D.asks D.equality (free k) in
      let a : Answers (unit_of old) old.new.next (then around s is) d three (Ok tt) =
      ask-answer (unit_of old) old.new.next two three (then around s is) (is-variable around s is) (Ok tt) Ask.Equality D.equality (free k) asks refl (known around s is) in
      let t : State Place Name = with_demand d (then around s is) in (
        t,
        record {
          answer = from-there around s is p t
              (subst (λ c. IsAnswer (run_scope (unit_of old)) (admit_equality (run_scope (unit_of old)) p c k >>= λ e. give k) (then around s is) (accepted (k, t))) (sym admits) (inl (a.met, refl)));
          at = record { solver = a; rows = is.rows; overloaded = is.overloaded; quiet = is.quiet };
          unit = refl;
          seen = record { means = λ C h. h; around = λ C m h. h; scoped = λ vs h. h };
          later = record { made = omega arith; names = λ n h. h };
        },
        omega (arith, number around s is),
      )

pub variable-scoped : (old mid : Context) (x : Id) (b : Bool) (k : ℕ) (solver : Asked) (explicit : Explicit) → b ≡ is_equality x → mid ≡ record old { solver = solver } → ScopesSo old b solver k
    → AddsVariable mid.explicit x k explicit → ScopesVariable old x (record mid { explicit = explicit }) (Ok k)
unfolding ScopesVariable
variable-scoped old mid x b k solver explicit e same scopes =
    subst (λ (m : Context). AddsVariable m.explicit x k explicit → ScopesVariable old x (record m { explicit = explicit }) (Ok k)) (sym same)
    (λ adds. (adds, subst (λ c. ScopesSo old c solver k) e scopes))

pub variable-memory : (old new : Context) (x : Id) → ScopesVariable old x new (Err F.Memory)
unfolding ScopesVariable
variable-memory old new x = tt
