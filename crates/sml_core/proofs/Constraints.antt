-- Type expressions that are read, and phrases that are constrained to what they mean.
use Rattle.std.proofs.Common.{◌≡◌, ◌≤◌, ◌<◌, ℕ, zero, suc, Bool, true, false, nat_lt, not, [], Some, None, Result, Ok, Err, Global, inl, inr, subst, sym, refl, ap, ◌∙◌, arith}
use Rattle.std.proofs.lemmas.Bool.{ltb-true, ltb-false}
use Rattle.std.specs.declared.rc.Rc.{Rc}
use Rattle.sml_lex.specs.Faults.{Fault, fault_of}
use Rattle.sml_lex.specs.declared.fault.Code.TheVariants.{E7}
use Rattle.sml_lex.specs.declared.fault.Place.{Place}
use Rattle.sml_tree.specs.Trees.{Id}
use Rattle.sml_tree.specs.Types.{Ty, Tys, TyFields, ty_variable, ty_row, ty_tuple, ty_constructor, ty_misapplied, ty_arrow, ty_bracket, no_ty, and_ty, ty_field, no_ty_field, and_ty_field}
use Rattle.sml_tree.specs.Expressions.{Exp, typed}
use Rattle.sml_tree.specs.Withtype.{unlisted}
use Rattle.sml_objects.specs.Appearance.{Stands}
use Rattle.sml_objects.specs.Initial.{Name}
use Rattle.sml_objects.specs.Maps.{Map, lookup}
use Rattle.sml_objects.specs.Objects.{MlType, MlTypes, bound, free, app, no_type, and_type}
use Rattle.sml_objects.specs.Sizes.{type_size}
use Rattle.sml_objects.specs.Types.{argument, argument_or, replace_type, replace_types}
use Rattle.sml_objects.specs.Views.{type_of}
use Rattle.sml_objects.specs.declared.objects.MlType as P
use Rattle.sml_layers.specs.Demands.{Mentions, AllMention}
use Rattle.sml_graph.specs.Interned.{IsOver, AreOver, IsBodyOver, AreBodiesOver}
use Rattle.sml_rules.specs.Answers.{Answer, accepted, refused, fault}
use Rattle.sml_core_rules.specs.Answers as A
use Rattle.sml_core_rules.specs.Objects.{Env}
use Rattle.sml_core_rules.specs.Rules.{Means, MeanAll, MeanFields}
use Rattle.sml_core_rules.specs.Scopes.{run_scope}
use Rattle.sml_core_rules.specs.Scripts.{Script, IsAnswer, give, look, test, ◌>>=◌}
use Rattle.sml_core_rules.specs.States.{State}
use Rattle.sml_core_rules.specs.Types.{count_types, put_field, read_ty, type_place}
use Rattle.sml_core_rules.specs.Values.{require_equal}
use Rattle.sml_core_rules.specs.Patterns.{read_constraint}
use Rattle.sml_core_rules.specs.Expressions.{read_exp}
use Rattle.sml_core_rules.proofs.Derived.{ty-to}
use Rattle.sml_core_rules.proofs.Refused.{refused-same}
use Rattle.sml_scopes.specs.Means as S
use Rattle.sml_types.specs.Answered as T
use Rattle.sml_types.specs.Meant.{meant}
use Rattle.sml_types.specs.declared.fault.CoreFault.{CoreFault}
use Rattle.sml_types.specs.declared.fault.CoreFault.TheVariants as F
use Rattle.sml_types.specs.declared.written.Written.{Written}
use Rattle.sml_asks.specs.Solvers.{IsTypeIn}
use Rattle.sml_core.specs.declared.context.Context.{Context}
use Rattle.sml_core.specs.Answered.{AreFieldsIn, Equates, IsPlain, Reaches, Reads, Row, unit_of}
use Rattle.sml_core.specs.Patterns.{AreMade, Constrains, IsMade, ReadsConstraint, constrain}
use Rattle.sml_core.specs.Seen.{AreFunctionsIn, AreScoped, Sees}
use Rattle.sml_core.proofs.Applying.{given-reaches}
use Rattle.sml_core.proofs.Rows.{put-in, row-mentions, row-over}
use Rattle.sml_core.proofs.Sequences.{first-refused, no-later, sees-after, then-reaches, then-refused, type-later}

-- a type that is read speaks of what was made

module _ (s : State Place Name) where
  argument-in : (u : MlType Name) (ts : MlTypes Name) (k : ℕ) → k < count_types ts → AreMade ts s → IsMade (argument_or u ts k) s
  unfolding AreOver AllMention
  argument-in u no_type k l h = absurd (omega (arith, l))
  argument-in u (and_type t ts) zero l h = (h.0.0, h.1.0)
  argument-in u (and_type t ts) (suc k) l h = argument-in u ts k (omega (arith, l)) (h.0.1, h.1.1)

  -- with types for the variables of a type function
  module _ (b : ℕ) (g : ℕ → MlType Name) (given : (k : ℕ) → k < b → IsMade (g k) s) where
    mutual
      unfolding IsOver AreOver IsBodyOver AreBodiesOver Mentions AllMention replace_type replace_types

      replaced-in : (t : MlType Name) → IsBodyOver b s.made t → Mentions (λ n. Stands n s.names) t → IsMade (replace_type g free t) s
      replaced-in (bound k) o m = given k o
      replaced-in (free v) o m = (o, tt)
      replaced-in (app h ts) o m = let a : AreMade (replace_types g free ts) s = all-replaced-in ts o m.1 in (a.0, (m.0, a.1))

      all-replaced-in : (ts : MlTypes Name) → AreBodiesOver b s.made ts → AllMention (λ n. Stands n s.names) ts → AreMade (replace_types g free ts) s
      all-replaced-in no_type o m = (tt, tt)
      all-replaced-in (and_type t ts) o m =
          let a : IsMade (replace_type g free t) s = replaced-in t o.0 m.0 in
          let b : AreMade (replace_types g free ts) s = all-replaced-in ts o.1 m.1 in ((a.0, b.0), (a.1, b.1))

  module _ (C : Env Name) (vs : Map (MlType Name)) (functions : AreFunctionsIn s.made s.names C) (variables : (x : Id) (t : MlType Name) → lookup x vs ≡ Some t → IsMade t s) where
    mutual
      unfolding Means IsOver AreOver Mentions AllMention AreFunctionsIn

      meant-in : (u : Ty Place) (t : MlType Name) → Means C vs u t → IsMade t s
      meant-in (ty_variable p x) t h = variables x t h
      meant-in (ty_row p fs) t (us, h, e) =
          let a = fields-meant-in [] fs us tt h in subst (λ t. IsMade t s) (sym e) (row-over s.made s.names us a, (tt, row-mentions s us a))
      meant-in (ty_tuple p us) t (ts, h, e) = let a = all-meant-in us ts h in subst (λ t. IsMade t s) (sym e) (a.0, (tt, a.1))
      meant-in (ty_constructor p us c) t (ts, f, h, is, k, e) =
          let known = functions c.id f is in
          let a = all-meant-in us ts h in
          subst (λ t. IsMade t s) (sym e)
          (replaced-in (count_types ts) (argument ts) (λ j l. argument-in (bound j) ts j l a) f.function.body (subst (λ n. IsBodyOver n s.made f.function.body) k known.unknowns) known.mentions)
      meant-in (ty_misapplied p us c) t h = absurd h
      meant-in (ty_arrow p u v) t (a, b, h, k, e) =
          let l = meant-in u a h in
          let r = meant-in v b k in
          subst (λ t. IsMade t s) (sym e) ((l.0, (r.0, tt)), (tt, (l.1, (r.1, tt))))
      meant-in (ty_bracket p u) t h = meant-in u t h

      all-meant-in : (us : Tys Place) (ts : MlTypes Name) → MeanAll C vs us ts → AreMade ts s
      all-meant-in no_ty ts h = subst (λ ts. AreMade ts s) (sym h) (tt, tt)
      all-meant-in (and_ty u us) ts (t, rest, h, k, e) =
          let a = meant-in u t h in
          let b = all-meant-in us rest k in
          subst (λ ts. AreMade ts s) (sym e) ((a.0, b.0), (a.1, b.1))

      fields-meant-in : (fs : Row) (es : TyFields Place) (us : Row) → AreFieldsIn fs s → MeanFields C vs fs es us → AreFieldsIn us s
      fields-meant-in fs no_ty_field us a h = subst (λ us. AreFieldsIn us s) (sym h) a
      fields-meant-in fs (and_ty_field (ty_field l u) es) us a (t, h, k) = fields-meant-in (put_field l.id t fs) es us (put-in s l.id t fs a (meant-in u t h)) k

pub read-in : (C : Env Name) (vs : Map (MlType Name)) (c : Context) (s : State Place Name) → Sees C vs c s → (u : Ty Place) (t : MlType Name) → read_ty C vs u ≡ accepted t → IsTypeIn s.made s.names t
read-in C vs c s sees u t e = meant-in s C vs sees.functions sees.variables u t (ty-to C vs u t e)

-- constraints

-- what a type expression means in what a context sees
abbrev pub IsMeant : Context → Ty Place → Result (Rc Written Global) CoreFault → Type 0
IsMeant c ty result =
    (C : Env Name) (vs : Map (MlType Name)) → S.Means c.scopes C → AreScoped c.explicit vs → lookup unlisted vs ≡ None → T.IsAnswer (λ w. meant w.value) result (read_ty C vs ty)

not-small : (b : Bool) (f g : Fault Place) → A.check (not b) f ≡ refused g → (b ≡ true) × (g ≡ f)
not-small true f g e = (refl, sym (refused-same e))
not-small false f g e = absurd cc

is-small : (b : Bool) (f : Fault Place) → A.check (not b) f ≡ accepted tt → b ≡ false
is-small true f e = absurd cc
is-small false f e = refl

module _ (old new : Context) (ty : Ty Place) where
  pub constraint-memory : ReadsConstraint old ty new (Err F.Memory)
  unfolding ReadsConstraint
  constraint-memory = λ C vs around s is sees. tt

  abbrev sized : MlType Name → Script Place Name (MlType Name)
  sized t = test (type_size t ≤ 10000) (fault E7 (type_place ty)) >>= λ u. give t

  pub constraint-unread : (f : CoreFault) → IsMeant old ty (Err f) → ReadsConstraint old ty new (Err f)
  unfolding ReadsConstraint IsAnswer ◌>>=◌
  constraint-unread F.Memory reads = λ C vs around s is sees. tt
  constraint-unread (F.Fault f) reads = λ C vs around s is sees.
      subst (λ a. IsAnswer (run_scope (unit_of old)) (look a >>= sized) s (refused (fault_of f))) (sym (reads C vs sees.means sees.scoped sees.spelled)) refl

  module _ (r : Rc Written Global) (reads : IsMeant old ty (Ok r)) (q : Place) (at : q ≡ type_place ty) (w : Written) (is_there : w ≡ r.value) where
    abbrev size_checked : Place → Written → Answer Place (Unit {0})
    size_checked q w = A.check (not (nat_lt 10000 (type_size (meant w)))) (fault E7 q)

    same-check : size_checked q w ≡ size_checked (type_place ty) r.value
    same-check = λ i. size_checked (at i) (is_there i)

    pub constraint-large : (f : CoreFault) → T.IsAnswer {X = Unit {0}} (λ u. tt) (Err f) (size_checked q w) → ReadsConstraint old ty new (Err f)
    unfolding ReadsConstraint IsAnswer ◌>>=◌
    constraint-large F.Memory large = λ C vs around s is sees. tt
    constraint-large (F.Fault f) large = λ C vs around s is sees.
        let n = type_size (meant r.value) in
        let k = not-small (nat_lt 10000 n) (fault E7 (type_place ty)) (fault_of f) (sym same-check ∙ large) in
        let over : 10000 < n = ltb-true 10000 n k.0 in
        subst (λ a. IsAnswer (run_scope (unit_of old)) (look a >>= sized) s (refused (fault_of f))) (sym (reads C vs sees.means sees.scoped sees.spelled)) (inr ((λ le. absurd (omega (arith, le, over))), ap refused k.1))

    pub constraint-read : size_checked q w ≡ accepted tt → (v : Written) → v ≡ r.value → (t : Rc P.MlType Global) → type_of t.value ≡ meant v
        → ((vs : Map (MlType Name)) → AreScoped old.explicit vs → AreScoped new.explicit vs) → new ≡ record old { explicit = new.explicit } → ReadsConstraint old ty new (Ok t)
    unfolding ReadsConstraint IsAnswer ◌>>=◌
    constraint-read small v is_made t made scoped same = λ C vs around s is sees.
        let n = type_size (meant r.value) in
        let there = reads C vs sees.means sees.scoped sees.spelled in
        let le : n ≤ 10000 = ltb-false 10000 n (is-small (nat_lt 10000 n) (fault E7 (type_place ty)) (sym same-check ∙ small)) in
        let e : type_of t.value ≡ meant r.value = made ∙ ap meant is_made in (
          s,
          subst (λ c. Reaches around old (read_constraint C vs ty) s c (type_of t.value) s) (sym same) (record {
            answer = subst (λ a. IsAnswer (run_scope (unit_of old)) (look a >>= sized) s (accepted (type_of t.value, s))) (sym there) (inl (le, ap (λ u. accepted (u, s)) e));
            at = record { solver = is.solver; rows = is.rows; overloaded = is.overloaded; quiet = is.quiet };
            unit = refl;
            seen = record { means = λ C h. h; around = λ C m h. h; scoped = scoped };
            later = no-later s;
          }),
          subst (IsTypeIn s.made s.names) (sym e) (read-in C vs old s sees ty (meant r.value) there),
        )

-- constrained phrases

module _ (old mid : Context) (p : Place) (t : MlType Name) (ty : Ty Place) where
  pub constrained-unread : (f : CoreFault) → ReadsConstraint old ty mid (Err f) → Constrains old p t ty mid (Err f)
  unfolding ReadsConstraint Constrains
  constrained-unread F.Memory reads = λ C vs around s is sees k. tt
  constrained-unread (F.Fault f) reads = λ C vs around s is sees k.
      first-refused old (read_constraint C vs ty) (λ w. require_equal p t w >>= λ u. give w) s (fault_of f) (reads C vs around s is sees)

  module _ (w : Rc P.MlType Global) (reads : ReadsConstraint old ty mid (Ok w)) (new : Context) where
    pub constrained-unequal : (f : CoreFault) → Equates mid p t (type_of w.value) new (Err f) → Constrains old p t ty new (Err f)
    unfolding ReadsConstraint Constrains Equates
    constrained-unequal F.Memory equates = λ C vs around s is sees k. tt
    constrained-unequal (F.Fault f) equates = λ C vs around s is sees k.
        let m = reads C vs around s is sees in
        then-refused around old mid (read_constraint C vs ty) (λ w. require_equal p t w >>= λ u. give w) s m.0 (type_of w.value) m.1 (fault_of f)
        (first-refused mid (require_equal p t (type_of w.value)) (λ u. give (type_of w.value)) m.0 (fault_of f) (equates around m.0 m.1.at (type-later s m.0 m.1.later t k) m.2))

    pub constrained-equal : Equates mid p t (type_of w.value) new (Ok tt) → Constrains old p t ty new (Ok w)
    unfolding ReadsConstraint Constrains Equates
    constrained-equal equates = λ C vs around s is sees k.
        let m = reads C vs around s is sees in
        let u = type_of w.value in
        let q = equates around m.0 m.1.at (type-later s m.0 m.1.later t k) m.2 in (
          q.0,
          then-reaches around old mid (read_constraint C vs ty) (λ w. require_equal p t w >>= λ u. give w) s m.0 u m.1 new u q.0
              (then-reaches around mid new (require_equal p t u) (λ x. give u) m.0 q.0 tt q.1 new u q.0 (given-reaches around new q.0 q.1.at u)),
          type-later m.0 q.0 q.1.later u m.2,
        )

-- expressions that are constrained

pub typed-refused : (old new : Context) (p : Place) (e : Exp Place) (ty : Ty Place) (f : CoreFault) → Reads old e new (Err f) → Reads old (typed p e ty) new (Err f)
unfolding Reads IsPlain read_exp
typed-refused old new p e ty F.Memory reads = λ h C vs around s is sees. tt
typed-refused old new p e ty (F.Fault f) reads = λ h C vs around s is sees.
    first-refused old (read_exp (run_scope (unit_of old)) C vs e) (λ t. constrain p t ty C vs) s (fault_of f) (reads h C vs around s is sees)

pub typed-read : (old mid new : Context) (p : Place) (e : Exp Place) (ty : Ty Place) (t : Rc P.MlType Global) (result : Result (Rc P.MlType Global) CoreFault) → Reads old e mid (Ok t)
    → Constrains mid p (type_of t.value) ty new result → Reads old (typed p e ty) new result
unfolding Reads IsPlain read_exp Constrains
typed-read old mid new p e ty t (Err F.Memory) reads constrains = λ h C vs around s is sees. tt
typed-read old mid new p e ty t (Err (F.Fault f)) reads constrains = λ h C vs around s is sees.
    let m = reads h C vs around s is sees in
    then-refused around old mid (read_exp (run_scope (unit_of old)) C vs e) (λ t. constrain p t ty C vs) s m.0 (type_of t.value) m.1 (fault_of f)
    (constrains C vs around m.0 m.1.at (sees-after m.1 sees) m.2)
typed-read old mid new p e ty t (Ok w) reads constrains = λ h C vs around s is sees.
    let m = reads h C vs around s is sees in
    let n = constrains C vs around m.0 m.1.at (sees-after m.1 sees) m.2 in
    (n.0, then-reaches around old mid (read_exp (run_scope (unit_of old)) C vs e) (λ t. constrain p t ty C vs) s m.0 (type_of t.value) m.1 new (type_of w.value) n.0 n.1, n.2)
