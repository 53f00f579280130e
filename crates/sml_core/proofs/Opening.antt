-- Rules of a match: their variables are bound, their expression is read, and the scope is left.
use Rattle.std.proofs.Common.{◌≡◌, ℕ, List, [], ◌∷◌, map, Result, Ok, Err, Bool, Vec, false, ap, subst, sym, refl, ◌∙◌}
use Rattle.std.specs.Global.{Global}
use Rattle.std.specs.declared.rc.Rc.{Rc}
use Rattle.sml_lex.specs.Faults.{fault_of}
use Rattle.sml_lex.specs.declared.fault.Place.{Place}
use Rattle.sml_tree.specs.Trees.{Id}
use Rattle.sml_tree.specs.Views.{ident_of}
use Rattle.sml_tree.specs.Expressions.{Exp, Rule, rule}
use Rattle.sml_tree.specs.Patterns.{Pat}
use Rattle.sml_objects.specs.Initial.{Name}
use Rattle.sml_objects.specs.Maps.{Map}
use Rattle.sml_objects.specs.Objects.{MlType, arrow_of}
use Rattle.sml_objects.specs.Views.{type_of}
use Rattle.sml_objects.specs.declared.objects.MlType as P
use Rattle.sml_layers.specs.declared.layer.Bound.TheVariants.{Newness}
use Rattle.sml_rules.specs.Answers.{Answer, accepted, refused}
use Rattle.sml_core_rules.specs.Objects.{Env, extend, maps, no_structure}
use Rattle.sml_core_rules.specs.Scopes.{run_scope}
use Rattle.sml_core_rules.specs.Scripts.{IsAnswer, Script, give, ◌>>=◌}
use Rattle.sml_core_rules.specs.States.{State, Window}
use Rattle.sml_core_rules.specs.Patterns.{Bindings, Typed, pattern_place, read_pat, typed}
use Rattle.sml_core_rules.specs.Expressions.{read_exp, require_bindings}
use Rattle.sml_core_rules.specs.Values.{require_so_far}
use Rattle.sml_core_rules.proofs.Accepted.{bind-joined}
use Rattle.sml_core_rules.proofs.Apart.{pat-apart}
use Rattle.sml_core_rules.proofs.Refused.{bind-refused}
use Rattle.sml_core_rules.specs.Rules.{AreApart}
use Rattle.sml_scopes.specs.Means.{IsAround, Means, MeansAt}
use Rattle.sml_scopes.specs.declared.scopes.Mark.{Mark}
use Rattle.sml_types.specs.declared.fault.CoreFault.{CoreFault}
use Rattle.sml_types.specs.declared.fault.CoreFault.TheVariants as F
use Rattle.sml_asks.specs.Solvers.{IsTypeIn}
use Rattle.sml_asks.proofs.Making.{names-are-bounds}
use Rattle.sml_core.specs.declared.context.Context.{Context}
use Rattle.sml_core.specs.declared.patterns.Variables.{Variables}
use Rattle.sml_core.specs.Answered.{AnswersAs, IsAt, IsLater, Keeps, Limits, Reaches, Reads, unit_of}
use Rattle.sml_core.specs.Bound.{Extends}
use Rattle.sml_core.specs.Patterns.{AreBoundIn, ReadsPattern, bindings_of}
use Rattle.sml_core.specs.Rules.{IsOpened, OpensRule, ReadsRule, read_rule, read_rule_pattern, variable_entry, with_bound}
use Rattle.sml_core.specs.Seen.{AreScoped, Sees}
use Rattle.sml_core.proofs.Applying.{arrow-of-parts}
use Rattle.sml_core.proofs.BoundVariables.{bound_on, means-all, sees-bound}
use Rattle.sml_core.proofs.Sequences.{later-still, no-later, type-later}

-- The variables were limited to names made so far and bound; apart from them the context sees what it saw.
pub record AreBound (around : Window Place Name) (old : Context) (p : Place) (bs : Bindings Name) (s : State Place Name) (new : Context) (u : State Place Name) : Type 0 where
  pub reaches : Reaches around old (require_bindings (run_scope (unit_of old)) p bs) s (record new { scopes = old.scopes }) tt u
  pub means : (C : Env Name) → AreApart bs → Means old.scopes C → Means new.scopes (with_bound C bs)
  pub stays : (D : Env Name) (m : Mark) → MeansAt old.scopes m D → MeansAt new.scopes m D

-- Calls limit variables, whose types speak of what was made, to names made so far, and bind them.
unfoldable pub BindsAll : Context → Place → Bindings Name → Context → Result (Unit {0}) CoreFault → Type 0
BindsAll old p bs new (Ok x) = (around : Window Place Name) (s : State Place Name) → IsAt around old s → AreBoundIn s bs → (u : State Place Name) × AreBound around old p bs s new u
BindsAll old p bs new (Err F.Memory) = Unit {0}
BindsAll old p bs new (Err (F.Fault f)) =
    (around : Window Place Name) (s : State Place Name) → IsAt around old s → AreBoundIn s bs
    → IsAnswer (run_scope (unit_of old)) (require_bindings (run_scope (unit_of old)) p bs) s (refused (fault_of f))

-- Some of the variables are limited and bound: what the others ask goes on to what all ask, and what binds them goes on to what binds all.
pub record IsBindingAt (around : Window Place Name) (old : Context) (p : Place) (bs rest : Bindings Name) (s : State Place Name) (now : Context) (u : State Place Name) : Type 0 where
  pub at : IsAt around now u
  pub unit : unit_of now ≡ unit_of old
  pub scoped : (vs : Map (MlType Name)) → AreScoped old.explicit vs → AreScoped now.explicit vs
  pub later : IsLater s u
  pub goes_on : (o : Answer Place (Unit {0} × State Place Name)) → IsAnswer (run_scope (unit_of old)) (require_bindings (run_scope (unit_of old)) p rest) u o
      → IsAnswer (run_scope (unit_of old)) (require_bindings (run_scope (unit_of old)) p bs) s o
  pub means : (C : Env Name) → Means old.scopes C → (D : Env Name) × Means now.scopes D × (bound_on D rest ≡ bound_on C bs)
  pub stays : (D : Env Name) (m : Mark) → MeansAt old.scopes m D → MeansAt now.scopes m D

abbrev pub IsBinding : Context → Place → Bindings Name → Bindings Name → Context → Type 0
IsBinding old p bs rest now = (around : Window Place Name) (s : State Place Name) → IsAt around old s → AreBoundIn s bs → (u : State Place Name) × IsBindingAt around old p bs rest s now u

pub none-bound : (old : Context) (p : Place) (bs : Bindings Name) → IsBinding old p bs bs old
none-bound old p bs = λ around s is a. (
  s,
  record {
    at = is;
    unit = refl;
    scoped = λ vs h. h;
    later = no-later s;
    goes_on = λ o h. h;
    means = λ C h. (C, h, refl);
    stays = λ D m h. h;
  },
)

all-later : (s t : State Place Name) (bs : Bindings Name) → IsLater s t → AreBoundIn s bs → AreBoundIn t bs
all-later s t [] l a = tt
all-later s t (b ∷ bs) l a = (type-later s t l b.1 a.0, all-later s t bs l a.1)

module _ (old now mid new : Context) (p : Place) (bs rest : Bindings Name) (b : Id × MlType Name) (so : IsBinding old p bs (b ∷ rest) now) (inside : (s : State Place Name) → AreBoundIn s bs → IsTypeIn s.made s.names b.1) where
  here : (around : Window Place Name) (s u : State Place Name) → AreBoundIn s bs → IsLater s u → IsTypeIn u.made u.names b.1
  here around s u a l = type-later s u l b.1 (inside s a)

  -- one more, which is limited and then bound
  pub one-bound : Limits now p b.1 Newness now.new.next mid (Ok tt) → Extends mid.scopes (maps no_structure [] (variable_entry b.0 b.1 ∷ [])) new.scopes
      → ((C : Env Name) (m : Mark) → MeansAt mid.scopes m C → MeansAt new.scopes m C) → new ≡ record mid { scopes = new.scopes } → IsBinding old p bs rest new
  unfolding Limits ◌>>=◌ IsAnswer
  one-bound limits extends stays same = λ around s is a.
      let m = so around s is a in
      let k = limits around m.0 m.0.names m.1.at (here around s m.0 a m.1.later) (names-are-bounds (unit_of now) now.new.next m.0.names m.1.at.solver.known) in
      let scope = run_scope (unit_of old) in
      let first : IsAnswer scope (require_so_far Newness p b.1) m.0 (accepted (tt, k.0)) =
      subst (λ u. IsAnswer (run_scope u) (require_so_far Newness p b.1) m.0 (accepted (tt, k.0))) m.1.unit k.1.answer in (
        k.0,
        record {
          at = subst (λ c. IsAt around c k.0) (sym same) (record { solver = k.1.at.solver; rows = k.1.at.rows; overloaded = k.1.at.overloaded; quiet = k.1.at.quiet });
          unit = ap unit_of same ∙ k.1.unit ∙ m.1.unit;
          scoped = λ vs h. subst (λ (c : Context). AreScoped c.explicit vs) (sym same) (k.1.seen.scoped vs (m.1.scoped vs h));
          later = later-still m.1.later k.1.later;
          goes_on = λ o h. m.1.goes_on o (bind-joined scope (require_so_far Newness p b.1) (λ _. require_bindings scope p rest) m.0 (tt, k.0) o first h);
          means = λ C h.
              let d = m.1.means C h in
              (extend d.0 (maps no_structure [] (variable_entry b.0 b.1 ∷ [])), extends d.0 (k.1.seen.means d.0 d.1), d.2);
          stays = λ D n h. stays D n (k.1.seen.around D n (m.1.stays D n h));
        },
      )

  pub one-not : (f : CoreFault) → Limits now p b.1 Newness now.new.next mid (Err f) → BindsAll old p bs mid (Err f)
  unfolding Limits BindsAll ◌>>=◌ IsAnswer
  one-not F.Memory limits = tt
  one-not (F.Fault f) limits = λ around s is a.
      let m = so around s is a in
      let k = limits around m.0 m.0.names m.1.at (here around s m.0 a m.1.later) (names-are-bounds (unit_of now) now.new.next m.0.names m.1.at.solver.known) in
      let scope = run_scope (unit_of old) in
      m.1.goes_on (refused (fault_of f)) (bind-refused scope (require_so_far Newness p b.1) (λ _. require_bindings scope p rest) m.0 (fault_of f)
      (subst (λ u. IsAnswer (run_scope u) (require_so_far Newness p b.1) m.0 (refused (fault_of f))) m.1.unit k))

pub all-bound : (old new : Context) (p : Place) (bs : Bindings Name) → IsBinding old p bs [] new → BindsAll old p bs new (Ok tt)
unfolding BindsAll IsAnswer
all-bound old new p bs so = λ around s is a.
    let m = so around s is a in (
      m.0,
      record {
        reaches = record {
          answer = m.1.goes_on (accepted (tt, m.0)) refl;
          at = record { solver = m.1.at.solver; rows = m.1.at.rows; overloaded = m.1.at.overloaded; quiet = m.1.at.quiet };
          unit = m.1.unit;
          seen = record { means = λ C h. h; around = λ C n h. h; scoped = m.1.scoped };
          later = m.1.later;
        };
        means = λ C apart h. let d = m.1.means C h in means-all new.scopes C bs apart (subst (Means new.scopes) d.2 d.1);
        stays = m.1.stays;
      },
    )

pub binds-memory : (old new : Context) (p : Place) (bs : Bindings Name) → BindsAll old p bs new (Err F.Memory)
unfolding BindsAll
binds-memory old new p bs = tt

-- the pattern of a rule, and its variables

module _ (old mid new : Context) (before vars : Variables) (p : Place) (q : Pat Place) (e : Exp Place) (fresh : bindings_of before ≡ []) (kind : before.is_recursive ≡ false) where
  abbrev reading : Env Name → Map (MlType Name) → Script Place Name (Typed Name (MlType Name))
  reading C vs = read_pat (run_scope (unit_of old)) false C vs [] q

  -- what a pattern without variables before it is answered
  from-none : (result : Result (Rc P.MlType Global) CoreFault) → ReadsPattern old before q mid vars result
      → (C : Env Name) (vs : Map (MlType Name)) (around : Window Place Name) (s : State Place Name) → IsAt around old s → Sees C vs old s
      → AnswersAs (λ t. typed (type_of t.value) (bindings_of vars)) (λ r u. IsTypeIn u.made u.names r.type × AreBoundIn u r.bound) around old (reading C vs) s mid result
  unfolding ReadsPattern
  from-none result reads = λ C vs around s is sees.
      subst (λ (z : Bool × Bindings Name). AnswersAs (λ t. typed (type_of t.value) (bindings_of vars)) (λ r u. IsTypeIn u.made u.names r.type × AreBoundIn u r.bound) around old
      (read_pat (run_scope (unit_of old)) z.0 C vs z.1 q) s mid result) (λ i. (kind i, fresh i))
      (reads C vs around s is sees (subst (AreBoundIn s) (sym fresh) tt))

  pub pattern-refused : (f : CoreFault) → ReadsPattern old before q mid vars (Err f) → OpensRule old (rule p q e) mid (Err f)
  unfolding OpensRule
  pattern-refused F.Memory reads = tt
  pattern-refused (F.Fault f) reads = λ C vs around s is sees.
      let scope = run_scope (unit_of old) in
      bind-refused scope (reading C vs) (λ r. require_bindings scope (pattern_place q) r.bound >>= λ u. give r) s (fault_of f) (from-none (Err (F.Fault f)) reads C vs around s is sees)

  module _ (t : Rc P.MlType Global) (reads : ReadsPattern old before q mid vars (Ok t)) where
    pub variables-refused : (f : CoreFault) → BindsAll mid (pattern_place q) (bindings_of vars) new (Err f) → OpensRule old (rule p q e) new (Err f)
    unfolding OpensRule BindsAll
    variables-refused F.Memory binds = tt
    variables-refused (F.Fault f) binds = λ C vs around s is sees.
        let scope = run_scope (unit_of old) in
        let m = from-none (Ok t) reads C vs around s is sees in
        let bs = bindings_of vars in
        let k : IsAnswer scope (require_bindings scope (pattern_place q) bs) m.0 (refused (fault_of f)) =
        subst (λ u. IsAnswer (run_scope u) (require_bindings (run_scope u) (pattern_place q) bs) m.0 (refused (fault_of f))) m.1.unit (binds around m.0 m.1.at m.2.1) in
        bind-joined scope (reading C vs) (λ r. require_bindings scope (pattern_place q) r.bound >>= λ u. give r) s (typed (type_of t.value) bs, m.0) (refused (fault_of f)) m.1.answer
        (bind-refused scope (require_bindings scope (pattern_place q) bs) (λ u. give (typed (type_of t.value) bs)) m.0 (fault_of f) k)

    pub rule-opened : BindsAll mid (pattern_place q) (bindings_of vars) new (Ok tt) → OpensRule old (rule p q e) new (Ok t)
    unfolding OpensRule BindsAll IsAnswer
    rule-opened binds = (
      bindings_of vars,
      λ C vs around s is sees.
          let scope = run_scope (unit_of old) in
          let m = from-none (Ok t) reads C vs around s is sees in
          let bs = bindings_of vars in
          let k = binds around m.0 m.1.at m.2.1 in
          let r = typed (type_of t.value) bs in
          let l = k.1.reaches in
          let then : IsAnswer scope (require_bindings scope (pattern_place q) bs) m.0 (accepted (tt, k.0)) =
          subst (λ u. IsAnswer (run_scope u) (require_bindings (run_scope u) (pattern_place q) bs) m.0 (accepted (tt, k.0))) m.1.unit l.answer in (
            k.0,
            record {
              reaches = record {
                answer = bind-joined scope (reading C vs) (λ r. require_bindings scope (pattern_place q) r.bound >>= λ u. give r) s (r, m.0) (accepted (r, k.0)) m.1.answer
                    (bind-joined scope (require_bindings scope (pattern_place q) bs) (λ u. give r) m.0 (tt, k.0) (accepted (r, k.0)) then refl);
                at = record { solver = l.at.solver; rows = l.at.rows; overloaded = l.at.overloaded; quiet = l.at.quiet };
                unit = l.unit ∙ m.1.unit;
                seen = record { means = λ D h. h; around = λ D n h. h; scoped = λ ws h. l.seen.scoped ws (m.1.seen.scoped ws h) };
                later = later-still m.1.later l.later;
              };
              type = type-later m.0 k.0 l.later (type_of t.value) m.2.0;
              bound = all-later m.0 k.0 bs l.later m.2.1;
              means = k.1.means C (pat-apart scope false C vs q [] s (r, m.0) m.1.answer tt) (m.1.seen.means C sees.means);
              stays = λ D n h. k.1.stays D n (m.1.seen.around D n h);
            },
          ),
    )

-- a rule

-- what was seen before a scope is seen after it
left-behind : (old last new : Context) (m : Mark) (C : Env Name) → Means old.scopes C → ((D : Env Name) → Means old.scopes D → MeansAt old.scopes m D)
    → ((D : Env Name) (n : Mark) → MeansAt old.scopes n D → IsAround n m) → ((D : Env Name) (n : Mark) → MeansAt old.scopes n D → MeansAt last.scopes n D)
    → ((D : Env Name) → MeansAt last.scopes m D → Means new.scopes D)
    → ((D E : Env Name) (n : Mark) → MeansAt last.scopes m E → IsAround n m → MeansAt last.scopes n D → MeansAt new.scopes n D)
    → ((vs : Map (MlType Name)) → AreScoped old.explicit vs → AreScoped new.explicit vs) → Keeps old new
left-behind old last new m C here marked inside on left around scoped = record {
  means = λ D h. left D (on D m (marked D h));
  around = λ D n h. around D C n (on C m (marked C here)) (inside D n h) (on D n h);
  scoped = scoped;
}

module _ (old mid last : Context) (p : Place) (q : Pat Place) (e : Exp Place) where
  pub open-refused : (f : CoreFault) → OpensRule old (rule p q e) mid (Err f) → ReadsRule old (rule p q e) mid (Err f)
  unfolding OpensRule ReadsRule
  open-refused F.Memory opens = λ h C vs around s is sees. tt
  open-refused (F.Fault f) opens = λ h C vs around s is sees.
      let scope = run_scope (unit_of old) in
      bind-refused scope (read_rule_pattern scope C vs (rule p q e)) (λ r. read_exp scope (with_bound C r.bound) vs e >>= λ t. give (arrow_of r.type t)) s (fault_of f) (opens C vs around s is sees)

  module _ (from : Rc P.MlType Global) (opens : OpensRule old (rule p q e) mid (Ok from)) where
    is-mid : (around : Window Place Name) (C : Env Name) (vs : Map (MlType Name)) (s u : State Place Name) (bs : Bindings Name) → IsOpened around old (rule p q e) C vs s mid (type_of from.value) bs u → IsAt around mid u
    is-mid around C vs s u bs o = let a = o.reaches.at in record { solver = a.solver; rows = a.rows; overloaded = a.overloaded; quiet = a.quiet }

    pub right-refused : (f : CoreFault) → Reads mid e last (Err f) → ReadsRule old (rule p q e) last (Err f)
    unfolding OpensRule ReadsRule Reads
    right-refused F.Memory reads = λ h C vs around s is sees. tt
    right-refused (F.Fault f) reads = λ h C vs around s is sees.
        let scope = run_scope (unit_of old) in
        let bs = opens.0 in
        let o = opens.1 C vs around s is sees in
        let n = reads h (with_bound C bs) vs around o.0 (is-mid around C vs s o.0 bs o.1) (sees-bound o.1 sees) in
        let right : IsAnswer scope (read_exp scope (with_bound C bs) vs e) o.0 (refused (fault_of f)) =
        subst (λ u. IsAnswer (run_scope u) (read_exp (run_scope u) (with_bound C bs) vs e) o.0 (refused (fault_of f))) o.1.reaches.unit n in
        bind-joined scope (read_rule_pattern scope C vs (rule p q e)) (λ r. read_exp scope (with_bound C r.bound) vs e >>= λ t. give (arrow_of r.type t)) s (typed (type_of from.value) bs, o.0)
        (refused (fault_of f)) o.1.reaches.answer
        (bind-refused scope (read_exp scope (with_bound C bs) vs e) (λ t. give (arrow_of (type_of from.value) t)) o.0 (fault_of f) right)

    pub rule-read : (new : Context) (m : Mark) (to result : Rc P.MlType Global) → Reads mid e last (Ok to) → ((D : Env Name) → Means old.scopes D → MeansAt old.scopes m D)
        → ((D : Env Name) (n : Mark) → MeansAt old.scopes n D → IsAround n m) → ((D : Env Name) → MeansAt last.scopes m D → Means new.scopes D)
        → ((D E : Env Name) (n : Mark) → MeansAt last.scopes m E → IsAround n m → MeansAt last.scopes n D → MeansAt new.scopes n D) → new ≡ record last { scopes = new.scopes }
        → type_of result.value ≡ arrow_of (type_of from.value) (type_of to.value) → ReadsRule old (rule p q e) new (Ok result)
    unfolding OpensRule ReadsRule Reads IsAnswer
    rule-read new m to result reads marked inside left around-left same is-arrow = λ h C vs around s is sees.
        let scope = run_scope (unit_of old) in
        let bs = opens.0 in
        let o = opens.1 C vs around s is sees in
        let n = reads h (with_bound C bs) vs around o.0 (is-mid around C vs s o.0 bs o.1) (sees-bound o.1 sees) in
        let k = arrow_of (type_of from.value) (type_of to.value) in
        let right : IsAnswer scope (read_exp scope (with_bound C bs) vs e) o.0 (accepted (type_of to.value, n.0)) =
        subst (λ u. IsAnswer (run_scope u) (read_exp (run_scope u) (with_bound C bs) vs e) o.0 (accepted (type_of to.value, n.0))) o.1.reaches.unit n.1.answer in (
          n.0,
          record {
            answer = subst (λ t. IsAnswer scope (read_rule scope C vs (rule p q e)) s (accepted (t, n.0))) (sym is-arrow)
                (bind-joined scope (read_rule_pattern scope C vs (rule p q e)) (λ r. read_exp scope (with_bound C r.bound) vs e >>= λ t. give (arrow_of r.type t)) s (typed (type_of from.value) bs, o.0)
                (accepted (k, n.0)) o.1.reaches.answer
                (bind-joined scope (read_exp scope (with_bound C bs) vs e) (λ t. give (arrow_of (type_of from.value) t)) o.0 (type_of to.value, n.0) (accepted (k, n.0)) right refl));
            at = subst (λ c. IsAt around c n.0) (sym same) (record { solver = n.1.at.solver; rows = n.1.at.rows; overloaded = n.1.at.overloaded; quiet = n.1.at.quiet });
            unit = ap unit_of same ∙ n.1.unit ∙ o.1.reaches.unit;
            seen = left-behind old last new m C sees.means marked inside (λ D l g. n.1.seen.around D l (o.1.stays D l g)) left around-left
                (λ ws g. subst (λ (c : Context). AreScoped c.explicit ws) (sym same) (n.1.seen.scoped ws (o.1.reaches.seen.scoped ws g)));
            later = later-still o.1.reaches.later n.1.later;
          },
          subst (IsTypeIn n.0.made n.0.names) (sym is-arrow) (arrow-of-parts n.0.made (λ x. _) (type_of from.value) (type_of to.value) (type-later o.0 n.0 n.1.later (type_of from.value) o.1.type) n.2),
        )

pub rule-memory : (old new : Context) (r : Rule Place) → ReadsRule old r new (Err F.Memory)
unfolding ReadsRule
rule-memory old new r = λ h C vs around s is sees. tt

-- the variables that are left of a table
abbrev pub bindings-left : List (Rc (Vec ℕ Global) Global × Rc P.MlType Global) → Bindings Name
bindings-left es = map (λ e. (ident_of e.0, type_of e.1.value)) es
