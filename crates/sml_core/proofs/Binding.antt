-- The variables that patterns bind, and identifiers that stand alone in patterns or before an argument.
use Rattle.std.proofs.Common.{◌≡◌, ◌≢◌, ◌==◌, ℕ, Bool, codes, vec_len, true, false, cond, not, ◌&&◌, Option, Some, None, Result, Ok, Err, List, [], ◌∷◌, ◌++◌, map, Vec, refl, ap, sym, subst, ◌∙◌, inl, inr}
use Rattle.std.proofs.lemmas.Bool.{not_from_false, not_from_true, or_from, or_left, or_right, true≢false}
use Rattle.std.proofs.lemmas.List.{map-append}
use Rattle.std.specs.Global.{Global}
use Rattle.std.specs.Map as T
use Rattle.std.specs.Option.{is_some, option_map}
use Rattle.std.specs.Str.{bytes_eq}
use Rattle.std.specs.declared.rc.Rc.{Rc}
use Rattle.indexmap.specs.IndexMap.{insert_entry}
use Rattle.indexmap.proofs.MapLemmas.{absent_from_lookup, insert_entry-absent}
use Rattle.sml_lex.specs.Faults.{Fault, fault_of}
use Rattle.sml_lex.specs.declared.fault.Code.TheVariants.{E1, E5, E10}
use Rattle.sml_lex.specs.declared.fault.Place.{Place}
use Rattle.sml_tree.specs.Trees.{Id}
use Rattle.sml_tree.specs.Names.{LongName}
use Rattle.sml_tree.specs.Views.{ident_of}
use Rattle.sml_objects.specs.Initial.{Name}
use Rattle.sml_objects.specs.Maps.{Map, lookup}
use Rattle.sml_objects.specs.Objects.{MlType}
use Rattle.sml_objects.specs.Views.{type_of}
use Rattle.sml_objects.specs.declared.objects.MlType as P
use Rattle.sml_objects.specs.declared.objects.MlType.TheViews as W
use Rattle.sml_objects.proofs.SameTypes.{cases}
use Rattle.sml_objects.proofs.Vectors.{empty_items, some_items}
use Rattle.sml_objects.proofs.TypeViews.{type_of-arrow, type_of-bound, type_of-free, type_of-name, type_of-row}
use Rattle.sml_rules.specs.Answers.{accepted, fault, fault_at, refused}
use Rattle.sml_rules.specs.Lookups.{found, no_entry}
use Rattle.sml_core_rules.specs.Answers.{need}
use Rattle.sml_core_rules.specs.Lookups.{is_same, value_at}
use Rattle.sml_core_rules.specs.Objects as O
use Rattle.sml_core_rules.specs.Patterns.{Bindings, Typed, bind_variable, constructor_instance, found_constructor, is_empty, is_variable_alone, read_named, typed}
use Rattle.sml_core_rules.specs.Scopes.{run_scope}
use Rattle.sml_core_rules.specs.Scripts.{Script, IsAnswer, give, look, new_unknown, test, ◌>>=◌}
use Rattle.sml_core_rules.specs.States.{Scope, State, Window}
use Rattle.sml_core_rules.specs.Values.{constructs, find_value, instance, is_arrow, is_constructor}
use Rattle.sml_bases.specs.Views.{value_of}
use Rattle.sml_scopes.specs.Means.{Means}
use Rattle.sml_types.specs.Answered as R
use Rattle.sml_types.specs.Answered.{IsFault}
use Rattle.sml_types.specs.declared.fault.CoreFault.{CoreFault}
use Rattle.sml_types.specs.declared.fault.CoreFault.TheVariants as F
use Rattle.sml_asks.specs.Solvers.{IsTypeIn}
use Rattle.sml_core.specs.declared.context.Context.{Context}
use Rattle.sml_core.specs.declared.patterns.Variables.{Variables}
use Rattle.sml_core.specs.Answered.{AnswersAs, FindsValue, IsAt, IsLater, MakesInstance, MakesUnknown, Reaches, Types, unit_of}
use Rattle.sml_core.specs.Patterns.{AppliesConstructor, AreBoundIn, BindsType, IsMade, WithBound, bindings_of}
use Rattle.sml_core.specs.Seen.{AreValuesIn, IsValueIn, Sees}
use Rattle.sml_core.proofs.Sequences.{ends-there, keeps-all, no-later, then-answers, then-reaches, type-later}
use Rattle.sml_core.proofs.Applying.{given-reaches}
use Rattle.sml_core.proofs.Finding.{need-found}
use Rattle.sml_types.proofs.Listing.{by-bytes}

-- identifiers by their bytes

as-it-is : (b : Bool) → cond b true false ≡ b
as-it-is true = refl
as-it-is false = refl

pub same-bytes : (x y : Id) → bytes_eq x y ≡ is_same x y
same-bytes x y = sym (by-bytes x y false true ∙ as-it-is (bytes_eq x y))

-- the variables of a table, with their types

abbrev Key : Type 0
Key = Rc (Vec ℕ Global) Global

abbrev of_entries : List (Key × Rc P.MlType Global) → Bindings Name
of_entries es = map (λ e. (ident_of e.0, type_of e.1.value)) es

abbrev entry_at : Id → List (Key × Rc P.MlType Global) → Option (Rc P.MlType Global)
entry_at x es = T.lookup (λ k. bytes_eq x (ident_of k)) es

mapped-if : {A B : Type 0} (f : A → B) (b : Bool) (a : A) (o : Option A) → cond b (Some (f a)) (option_map f o) ≡ option_map f (cond b (Some a) o)
mapped-if f true a o = refl
mapped-if f false a o = refl

bound-at : (x : Id) (es : List (Key × Rc P.MlType Global)) → lookup x (of_entries es) ≡ option_map (λ t. type_of t.value) (entry_at x es)
bound-at x [] = refl
bound-at x (e ∷ es) =
    by-bytes x (ident_of e.0) (lookup x (of_entries es)) (Some (type_of e.1.value))
    ∙ ap (cond (bytes_eq x (ident_of e.0)) (Some (type_of e.1.value))) (bound-at x es)
    ∙ mapped-if (λ t. type_of t.value) (bytes_eq x (ident_of e.0)) e.1 (entry_at x es)

mapped-some : {A B : Type 0} (f : A → B) (o : Option A) → is_some o ≡ true → option_map f o ≡ None → ⊥
mapped-some f None h e = true≢false (sym h)
mapped-some f (Some a) h e = cc

mapped-none : {A B : Type 0} (f : A → B) (o : Option A) → is_some o ≡ false → option_map f o ≡ None
mapped-none f None h = refl
mapped-none f (Some a) h = absurd (true≢false h)

unmapped-none : {A B : Type 0} (f : A → B) (o : Option A) → option_map f o ≡ None → o ≡ None
unmapped-none f None h = refl
unmapped-none f (Some a) h = absurd cc

module _ (x : Id) (vars : Variables) (there : Bool) (is : there ≡ is_some (entry_at x vars.types.entries)) where
  pub bound-already : there ≡ true → lookup x (bindings_of vars) ≢ None
  bound-already h = λ e. mapped-some (λ t. type_of t.value) (entry_at x vars.types.entries) (sym is ∙ h) (sym (bound-at x vars.types.entries) ∙ e)

  pub not-bound : there ≡ false → lookup x (bindings_of vars) ≡ None
  not-bound h = bound-at x vars.types.entries ∙ mapped-none (λ t. type_of t.value) (entry_at x vars.types.entries) (sym is ∙ h)

-- one more comes last
pub bound-last : (old new : Variables) (k : Key) (t : Rc P.MlType Global) (x : Id) (u : MlType Name) → lookup x (bindings_of old) ≡ None
    → new.types.entries ≡ insert_entry (λ p q. bytes_eq (ident_of p) (ident_of q)) old.types.entries k t → ident_of k ≡ x → type_of t.value ≡ u
    → bindings_of new ≡ bindings_of old ++ (x, u) ∷ []
bound-last old new k t x u none e key is =
    let es = old.types.entries in
    let gone : entry_at x es ≡ None = unmapped-none (λ t. type_of t.value) (entry_at x es) (sym (bound-at x es) ∙ none) in
    let absent = absent_from_lookup (λ q. bytes_eq (ident_of k) (ident_of q)) es (ap (λ y. entry_at y es) key ∙ gone) in
    ap of_entries (e ∙ insert_entry-absent (λ p q. bytes_eq (ident_of p) (ident_of q)) k t es absent)
    ∙ map-append (λ (f : Key × Rc P.MlType Global). (ident_of f.0, type_of f.1.value)) es ((k, t) ∷ [])
    ∙ (λ i. of_entries es ++ (key i, is i) ∷ [])

-- their types later, and with that of one more

pub bound-later : (s t : State Place Name) → IsLater s t → (bs : Bindings Name) → AreBoundIn s bs → AreBoundIn t bs
bound-later s t l [] h = tt
bound-later s t l (b ∷ bs) h = (type-later s t l b.1 h.0, bound-later s t l bs h.1)

pub bound-also : (s : State Place Name) (x : Id) (u : MlType Name) (bs : Bindings Name) → AreBoundIn s bs → IsTypeIn s.made s.names u → AreBoundIn s (bs ++ (x, u) ∷ [])
bound-also s x u [] h k = (k, tt)
bound-also s x u (b ∷ bs) h k = (h.0, bound-also s x u bs h.1 k)

-- what is seen of an answer, alone and with the variables that are bound after it

abbrev its_type : Rc P.MlType Global → MlType Name
its_type t = type_of t.value

abbrev pub with_type : Variables → Rc P.MlType Global → Typed Name (MlType Name)
with_type after t = typed (type_of t.value) (bindings_of after)

abbrev pub Binding : Variables → Window Place Name → Context → Script Place Name (Typed Name (MlType Name)) → State Place Name → Context → Result (Rc P.MlType Global) CoreFault → Type 0
Binding after around old k s new result = AnswersAs (with_type after) (WithBound IsMade) around old k s new result

-- a condition, which holds or doesn't

pub tested : (around : Window Place Name) (c : Context) (s : State Place Name) (A : Type 0) (f : Fault Place) → IsAt around c s → A → Reaches around c (test A f) s c tt s
unfolding IsAnswer
tested around c s A f is h = record { answer = inl (h, refl); at = is; unit = refl; seen = keeps-all; later = no-later s }

pub untested : {X Y : Type 0} (view : Y → X) (Q : X → State Place Name → Type 0) (around : Window Place Name) (old new : Context) (s : State Place Name) (A : Type 0) (f : Fault Place)
    (next : (Unit {0}) → Script Place Name X) (e : CoreFault) → IsFault e f → (A → ⊥) → AnswersAs view Q around old (test A f >>= next) s new (Err e)
unfolding IsAnswer ◌>>=◌
untested view Q around old new s A f next F.Memory is h = tt
untested view Q around old new s A f next (F.Fault g) is h = inr (h, ap refused is)

pub binds-memory : (old new : Context) (vars after : Variables) (k : Bool → O.Env Name → Map (MlType Name) → Bindings Name → Script Place Name (Typed Name (MlType Name)))
    → BindsType old vars k new after (Err F.Memory)
unfolding BindsType
binds-memory old new vars after k = λ C vs around s is sees bs. tt

-- a variable

module _ (old new : Context) (vars after : Variables) (p : Place) (x : Id) where
  pub variable-again : (e : CoreFault) → IsFault e (fault E10 p) → lookup x (bindings_of vars) ≢ None
      → BindsType old vars (λ r C vs bs. bind_variable (run_scope (unit_of old)) p x bs) new after (Err e)
  unfolding BindsType
  variable-again e is again = λ C vs around s at sees known.
      untested (with_type after) (WithBound IsMade) around old new s (lookup x (bindings_of vars) ≡ None) (fault E10 p)
      (λ _. new_unknown >>= λ t. give (typed t (bindings_of vars ++ (x, t) ∷ []))) e is again

  module _ (first : lookup x (bindings_of vars) ≡ None) where
    -- after the condition
    variable-first : (around : Window Place Name) (s : State Place Name) → IsAt around old s → (result : Result (Rc P.MlType Global) CoreFault)
        → Binding after around old (new_unknown >>= λ t. give (typed t (bindings_of vars ++ (x, t) ∷ []))) s new result
        → Binding after around old (bind_variable (run_scope (unit_of old)) p x (bindings_of vars)) s new result
    variable-first around s at result then =
        then-answers (with_type after) (WithBound IsMade) (λ _. new_unknown >>= λ t. give (typed t (bindings_of vars ++ (x, t) ∷ []))) new result
        (tested around old s (lookup x (bindings_of vars) ≡ None) (fault E10 p) at first) then

    pub variable-not : (e : CoreFault) → MakesUnknown old new (Err e) → BindsType old vars (λ r C vs bs. bind_variable (run_scope (unit_of old)) p x bs) new after (Err e)
    unfolding BindsType MakesUnknown
    variable-not e makes = λ C vs around s at sees known.
        variable-first around s at (Err e)
        (ends-there (with_type after) (WithBound IsMade) its_type IsMade around old new new_unknown
        (λ t. give (typed t (bindings_of vars ++ (x, t) ∷ []))) s e (makes around s at))

    pub variable-bound : (t : Rc P.MlType Global) → MakesUnknown old new (Ok t) → bindings_of after ≡ bindings_of vars ++ (x, type_of t.value) ∷ []
        → BindsType old vars (λ r C vs bs. bind_variable (run_scope (unit_of old)) p x bs) new after (Ok t)
    unfolding BindsType MakesUnknown
    variable-bound t makes e = λ C vs around s at sees known.
        let m = makes around s at in
        let u = type_of t.value in
        let more = bindings_of vars ++ (x, u) ∷ [] in
        variable-first around s at (Ok t) (
          m.0,
          then-reaches around old new new_unknown (λ t. give (typed t (bindings_of vars ++ (x, t) ∷ []))) s m.0 u m.1 new (typed u (bindings_of after)) m.0
              (subst (λ bs. Reaches around new (give (typed u more)) m.0 new (typed u bs) m.0) (sym e) (given-reaches around new m.0 m.1.at (typed u more))),
          (m.2, subst (AreBoundIn m.0) (sym e) (bound-also m.0 x u (bindings_of vars) (bound-later s m.0 m.1.later (bindings_of vars) known) m.2)),
        )

-- an instance of a constructor or an exception

pub not-arrow : (t : P.MlType) → ((a b : Rc P.MlType Global) → t ≡ W.Arrow a b → ⊥) → is_arrow (type_of t) ≡ false
not-arrow t other =
    cases t (λ k e. ap (λ t. is_arrow (type_of t)) e ∙ ap is_arrow (type_of-bound k)) (λ v e. ap (λ t. is_arrow (type_of t)) e ∙ ap is_arrow (type_of-free v))
    (λ ls ts e. ap (λ t. is_arrow (type_of t)) e ∙ ap is_arrow (type_of-row ls ts)) (λ a b e. absurd (other a b e)) (λ n ts e. ap (λ t. is_arrow (type_of t)) e ∙ ap is_arrow (type_of-name n ts))

pub arrow-is : (t : P.MlType) (a b : Rc P.MlType Global) → t ≡ W.Arrow a b → is_arrow (type_of t) ≡ true
arrow-is t a b e = ap (λ t. is_arrow (type_of t)) e ∙ ap is_arrow (type_of-arrow a b)

module _ (old new : Context) (p q : Place) (b : Bool) (v : O.Value Name) (around : Window Place Name) (s : State Place Name) where
  abbrev Instance : Result (Rc P.MlType Global) CoreFault → Type 0
  Instance result = Types around old (constructor_instance (run_scope (unit_of old)) p q b v) s new result

  -- what is asked after the status
  abbrev by_type : Script Place Name (MlType Name)
  by_type = test (is_arrow v.scheme.body ≡ b) (fault E5 q) >>= λ _. instance p v

  not-constructor : (e : CoreFault) → IsFault e (fault E5 q) → constructs v.status ≡ false → Instance (Err e)
  not-constructor e is h =
      untested its_type IsMade around old new s (constructs v.status ≡ true) (fault E5 q) (λ _. by_type) e is (λ k. true≢false (sym k ∙ h))

  module _ (at : IsAt around old s) (is_so : constructs v.status ≡ true) where
    by-status : (result : Result (Rc P.MlType Global) CoreFault) → Types around old by_type s new result → Instance result
    by-status result then =
        then-answers its_type IsMade (λ _. by_type) new result (tested around old s (constructs v.status ≡ true) (fault E5 q) at is_so) then

    wrongly-applied : (e : CoreFault) → IsFault e (fault E5 q) → (is_arrow v.scheme.body ≡ b → ⊥) → Instance (Err e)
    wrongly-applied e is h =
        by-status (Err e) (untested its_type IsMade around old new s (is_arrow v.scheme.body ≡ b) (fault E5 q) (λ _. instance p v) e is h)

    instantiated : (result : Result (Rc P.MlType Global) CoreFault) → is_arrow v.scheme.body ≡ b → Types around old (instance p v) s new result → Instance result
    instantiated result arrow then =
        by-status result (then-answers its_type IsMade (λ _. instance p v) new result (tested around old s (is_arrow v.scheme.body ≡ b) (fault E5 q) at arrow) then)

-- a type with the variables that were bound before
pub bound-before : (old new : Context) (vars : Variables) (around : Window Place Name) (k : Script Place Name (MlType Name)) (s : State Place Name) (result : Result (Rc P.MlType Global) CoreFault)
    → AreBoundIn s (bindings_of vars) → Types around old k s new result → Binding vars around old (k >>= λ t. give (typed t (bindings_of vars))) s new result
bound-before old new vars around k s (Err e) known a =
    ends-there (with_type vars) (WithBound IsMade) its_type IsMade around old new k (λ t. give (typed t (bindings_of vars))) s e a
bound-before old new vars around k s (Ok t) known a =
    let u = typed (type_of t.value) (bindings_of vars) in (
      a.0,
      then-reaches around old new k (λ t. give (typed t (bindings_of vars))) s a.0 (type_of t.value) a.1 new u a.0 (given-reaches around new a.0 a.1.at u),
      (a.2, bound-later s a.0 a.1.later (bindings_of vars) known),
    )

-- an identifier that stands alone

full : (xs : List Key) → ¬ (xs ≡ []) → is_empty (map ident_of xs) ≡ false
full [] h = absurd (h refl)
full (x ∷ xs) h = refl

module _ (v : Vec Key Global) (empty : Bool) (is : empty ≡ (vec_len v == 0)) where
  pub empty-path : empty ≡ true → is_empty (map ident_of v.items) ≡ true
  empty-path h = ap (λ xs. is_empty (map ident_of xs)) (empty_items v (sym h ∙ is))

  pub some-path : empty ≡ false → is_empty (map ident_of v.items) ≡ false
  some-path h = full v.items (some_items v (sym h ∙ is))

-- what is known of `rec`, where that is tested first
pub bound-by-rec : (is_rec nil is_bound : Bool) (x : Id) → is_rec ≡ true → nil ≡ is_same x (codes "nil") → is_bound ≡ not nil → is_bound ≡ is_rec && not (is_same x (codes "nil"))
bound-by-rec is_rec nil is_bound x h same is = is ∙ ap not same ∙ ap (λ b. b && not (is_same x (codes "nil"))) (sym h)

pub no-rec : (is_rec is_bound : Bool) (x : Id) → is_rec ≡ false → is_bound ≡ is_rec → is_bound ≡ is_rec && not (is_same x (codes "nil"))
no-rec is_rec is_bound x h is = is ∙ h ∙ ap (λ b. b && not (is_same x (codes "nil"))) (sym h)

module _ (is_rec : Bool) (C : O.Env Name) (x : Id) where
  pub other-alone : is_constructor C x ≡ false → is_variable_alone is_rec C x ≡ true
  other-alone h = or_right (is_rec && not (is_same x (codes "nil"))) (not (is_constructor C x)) (not_from_false (is_constructor C x) h)

  module _ (is_bound : Bool) (is : is_bound ≡ is_rec && not (is_same x (codes "nil"))) where
    pub bound-alone : is_bound ≡ true → is_variable_alone is_rec C x ≡ true
    bound-alone h = or_left (is_rec && not (is_same x (codes "nil"))) (not (is_constructor C x)) (sym is ∙ h)

    pub not-alone : is_bound ≡ false → is_constructor C x ≡ true → is_variable_alone is_rec C x ≡ false
    not-alone h k = or_from (is_rec && not (is_same x (codes "nil"))) (not (is_constructor C x)) (sym is ∙ h) (not_from_true (is_constructor C x) k)

-- what is asked of one that is no variable
abbrev constant_alone : Scope Name → Place → LongName Place → O.Env Name → Bindings Name → Script Place Name (Typed Name (MlType Name))
constant_alone scope p x C bs = find_value C x >>= λ v. constructor_instance scope p x.place false v >>= λ t. give (typed t bs)

abbrev BindsNamed : Context → Variables → Place → LongName Place → Context → Variables → Result (Rc P.MlType Global) CoreFault → Type 0
BindsNamed old vars p x new after result = BindsType old vars (λ r C vs bs. read_named (run_scope (unit_of old)) r C vs p x bs) new after result

pub named-variable : (old new : Context) (vars after : Variables) (p : Place) (x : LongName Place) (result : Result (Rc P.MlType Global) CoreFault) → is_empty x.id.path ≡ true
    → ((C : O.Env Name) → Means old.scopes C → is_variable_alone vars.is_recursive C x.id.last ≡ true)
    → BindsType old vars (λ r C vs bs. bind_variable (run_scope (unit_of old)) x.place x.id.last bs) new after result
    → BindsType old vars (λ r C vs bs. read_named (run_scope (unit_of old)) r C vs p x bs) new after result
unfolding BindsType
named-variable old new vars after p x result short alone binds = λ C vs around s at sees known.
    let k = bind_variable (run_scope (unit_of old)) x.place x.id.last (bindings_of vars) in
    let j = constant_alone (run_scope (unit_of old)) p x C (bindings_of vars) in
    subst (λ k. Binding after around old k s new result)
    (sym (ap (λ b. cond b (cond (is_variable_alone vars.is_recursive C x.id.last) k j) j) short ∙ ap (λ b. cond b k j) (alone C sees.means)))
    (binds C vs around s at sees known)

both : {A : Type 1} (b c : Bool) (k j : A) → b && c ≡ false → cond b (cond c k j) j ≡ j
both true true k j h = absurd (true≢false h)
both true false k j h = refl
both false c k j h = refl

module _ (old : Context) (vars : Variables) (p : Place) (x : LongName Place)
    (other : (C : O.Env Name) → Means old.scopes C → is_empty x.id.path && is_variable_alone vars.is_recursive C x.id.last ≡ false) where
  named-constant : (new : Context) (result : Result (Rc P.MlType Global) CoreFault)
      → ((C : O.Env Name) (vs : Map (MlType Name)) (around : Window Place Name) (s : State Place Name) → IsAt around old s → Sees C vs old s → AreBoundIn s (bindings_of vars)
      → Binding vars around old (constant_alone (run_scope (unit_of old)) p x C (bindings_of vars)) s new result) → BindsNamed old vars p x new vars result
  unfolding BindsType
  named-constant new result binds = λ C vs around s at sees known.
      let k = bind_variable (run_scope (unit_of old)) x.place x.id.last (bindings_of vars) in
      let j = constant_alone (run_scope (unit_of old)) p x C (bindings_of vars) in
      subst (λ k. Binding vars around old k s new result) (sym (both (is_empty x.id.path) (is_variable_alone vars.is_recursive C x.id.last) k j (other C sees.means)))
      (binds C vs around s at sees known)

  pub named-unbound : (new : Context) (e : CoreFault) → ((C : O.Env Name) → Means old.scopes C → R.IsAnswer value_of (Err e) (need E1 x.place x.id (value_at C x.id)))
      → BindsType old vars (λ r C vs bs. read_named (run_scope (unit_of old)) r C vs p x bs) new vars (Err e)
  unfolding IsAnswer ◌>>=◌
  named-unbound new F.Memory finds = binds-memory old new vars vars _
  named-unbound new (F.Fault f) finds = named-constant new (Err (F.Fault f)) (λ C vs around s at sees known.
      subst (λ a. IsAnswer (run_scope (unit_of old)) (look a >>= λ v. constructor_instance (run_scope (unit_of old)) p x.place false v >>= λ t. give (typed t (bindings_of vars))) s (refused (fault_of f)))
      (sym (finds C sees.means)) refl)

  module _ (v : O.Value Name) (finds : (C : O.Env Name) → Means old.scopes C → need E1 x.place x.id (value_at C x.id) ≡ accepted v) where
    named-found : (new : Context) (result : Result (Rc P.MlType Global) CoreFault)
        → ((around : Window Place Name) (s : State Place Name) → IsAt around old s → IsValueIn s.made s.names v
        → Types around old (constructor_instance (run_scope (unit_of old)) p x.place false v) s new result)
        → BindsNamed old vars p x new vars result
    unfolding AreValuesIn ◌>>=◌
    named-found new result made = named-constant new result (λ C vs around s at sees known.
        let e = finds C sees.means in
        let is = sees.values x.id v (need-found E1 x.place x.id (value_at C x.id) v e) in
        subst (λ a. Binding vars around old (look a >>= λ v. constructor_instance (run_scope (unit_of old)) p x.place false v >>= λ t. give (typed t (bindings_of vars))) s new result) (sym e)
        (bound-before old new vars around (constructor_instance (run_scope (unit_of old)) p x.place false v) s result known (made around s at is)))

    pub named-no-constructor : (new : Context) (e : CoreFault) → IsFault e (fault E5 x.place) → constructs v.status ≡ false
        → BindsType old vars (λ r C vs bs. read_named (run_scope (unit_of old)) r C vs p x bs) new vars (Err e)
    named-no-constructor new e is h = named-found new (Err e) (λ around s at known. not-constructor old new p x.place false v around s e is h)

    pub named-arrow : (new : Context) (e : CoreFault) → IsFault e (fault E5 x.place) → constructs v.status ≡ true → is_arrow v.scheme.body ≡ true
        → BindsType old vars (λ r C vs bs. read_named (run_scope (unit_of old)) r C vs p x bs) new vars (Err e)
    named-arrow new e is h arrow = named-found new (Err e) (λ around s at known. wrongly-applied old new p x.place false v around s at h e is (λ k. true≢false (sym arrow ∙ k)))

    pub named-instance : (new : Context) (result : Result (Rc P.MlType Global) CoreFault) → constructs v.status ≡ true → is_arrow v.scheme.body ≡ false → MakesInstance old p v new result
        → BindsType old vars (λ r C vs bs. read_named (run_scope (unit_of old)) r C vs p x bs) new vars result
    unfolding MakesInstance
    named-instance new result h no_arrow makes = named-found new result (λ around s at known. instantiated old new p x.place false v around s at h result no_arrow (makes around s at known))

-- one before an argument

module _ (old : Context) (p : Place) (x : LongName Place) where
  pub applied-memory : (new : Context) → AppliesConstructor old p x new (Err F.Memory)
  unfolding AppliesConstructor
  applied-memory new = λ C vs around s at sees. tt

  pub applied-lost : (new : Context) (e : CoreFault) → ((C : O.Env Name) → Means old.scopes C → FindsValue x.place (Err e) (value_at C x.id)) → AppliesConstructor old p x new (Err e)
  unfolding AppliesConstructor IsAnswer ◌>>=◌
  applied-lost new F.Memory finds = λ C vs around s at sees. tt
  applied-lost new (F.Fault g) finds = λ C vs around s at sees.
      let f = finds C sees.means in
      let scope = run_scope (unit_of old) in
      subst (λ r. IsAnswer scope (found_constructor scope x r >>= λ v. constructor_instance scope p x.place true v) s (refused (fault_of g))) (sym f.1) (ap refused f.2)

  pub applied-unbound : (new : Context) (e : CoreFault) (b : Bool) → is_empty x.id.path ≡ b → IsFault e (cond b (fault E5 x.place) (fault_at E1 x.place (x.id.path ++ x.id.last ∷ [])))
      → ((C : O.Env Name) → Means old.scopes C → value_at C x.id ≡ no_entry) → AppliesConstructor old p x new (Err e)
  unfolding AppliesConstructor IsAnswer ◌>>=◌
  applied-unbound new F.Memory b short is finds = λ C vs around s at sees. tt
  applied-unbound new (F.Fault g) b short is finds = λ C vs around s at sees.
      let scope = run_scope (unit_of old) in
      subst (λ r. IsAnswer scope (found_constructor scope x r >>= λ v. constructor_instance scope p x.place true v) s (refused (fault_of g))) (sym (finds C sees.means))
      (ap refused (is ∙ ap (λ b. cond b (fault E5 x.place) (fault_at E1 x.place (x.id.path ++ x.id.last ∷ []))) (sym short)))

  module _ (v : O.Value Name) (finds : (C : O.Env Name) → Means old.scopes C → value_at C x.id ≡ found v) where
    applied-found : (new : Context) (result : Result (Rc P.MlType Global) CoreFault)
        → ((around : Window Place Name) (s : State Place Name) → IsAt around old s → IsValueIn s.made s.names v
        → Types around old (constructor_instance (run_scope (unit_of old)) p x.place true v) s new result)
        → AppliesConstructor old p x new result
    unfolding AppliesConstructor AreValuesIn ◌>>=◌
    applied-found new result made = λ C vs around s at sees.
        let scope = run_scope (unit_of old) in
        let e = finds C sees.means in
        subst (λ r. Types around old (found_constructor scope x r >>= λ v. constructor_instance scope p x.place true v) s new result) (sym e) (made around s at (sees.values x.id v e))

    pub applied-no-constructor : (new : Context) (e : CoreFault) → IsFault e (fault E5 x.place) → constructs v.status ≡ false → AppliesConstructor old p x new (Err e)
    applied-no-constructor new e is h = applied-found new (Err e) (λ around s at known. not-constructor old new p x.place true v around s e is h)

    pub applied-no-arrow : (new : Context) (e : CoreFault) → IsFault e (fault E5 x.place) → constructs v.status ≡ true → is_arrow v.scheme.body ≡ false → AppliesConstructor old p x new (Err e)
    applied-no-arrow new e is h no_arrow = applied-found new (Err e) (λ around s at known. wrongly-applied old new p x.place true v around s at h e is (λ k. true≢false (sym k ∙ no_arrow)))

    pub applied-instance : (new : Context) (result : Result (Rc P.MlType Global) CoreFault) → constructs v.status ≡ true → is_arrow v.scheme.body ≡ true → MakesInstance old p v new result
        → AppliesConstructor old p x new result
    unfolding MakesInstance
    applied-instance new result h arrow makes = applied-found new result (λ around s at known. instantiated old new p x.place true v around s at h result arrow (makes around s at known))
