-- Applications: a type that is written as an arrow is taken apart, and another one is made equal to one.
use Rattle.std.proofs.Common.{OnErr, IfOk, ◌∙◌, ap, ◌≡◌, ℕ, Vec, Result, Ok, Err, subst, sym, refl}
use Rattle.std.specs.Global.{Global}
use Rattle.std.specs.declared.rc.Rc.{Rc}
use Rattle.sml_lex.specs.Faults.{fault_of}
use Rattle.sml_lex.specs.declared.fault.Place.{Place}
use Rattle.sml_tree.specs.Expressions.{Exp, apply, bracket, constant}
use Rattle.sml_tree.specs.Patterns.{Constant}
use Rattle.sml_tree.specs.declared.patterns.ConstantKind.{ConstantKind}
use Rattle.sml_tree.specs.declared.patterns.ConstantKind.TheVariants as K
use Rattle.sml_objects.specs.Initial.{Name, naming}
use Rattle.sml_objects.specs.Names.{int, word, real, string, char}
use Rattle.sml_objects.specs.Objects.{MlType, app, arrow_of, bound, free, name, types_of}
use Rattle.sml_objects.specs.Views.{type_of}
use Rattle.sml_objects.specs.declared.objects.MlType as P
use Rattle.sml_layers.specs.Demands.{Mentions, AllMention}
use Rattle.sml_graph.specs.Interned.{IsOver, AreOver}
use Rattle.sml_rules.specs.Answers.{refused}
use Rattle.sml_core_rules.specs.Scopes.{run_scope}
use Rattle.sml_core_rules.specs.Scripts.{IsAnswer, give, new_unknown, ◌>>=◌}
use Rattle.sml_core_rules.specs.States.{State, Window}
use Rattle.sml_core_rules.specs.Values.{applied, apply_general, require_equal}
use Rattle.sml_core_rules.specs.Expressions.{read_exp}
use Rattle.sml_core_rules.specs.Patterns.{constant_type}
use Rattle.sml_types.specs.declared.fault.CoreFault.{CoreFault}
use Rattle.sml_types.specs.declared.fault.CoreFault.TheVariants as F
use Rattle.sml_asks.specs.Solvers.{IsTypeIn}
use Rattle.sml_core.specs.declared.context.Context.{Context}
use Rattle.sml_core.specs.Answered.{IsAt, Types, Reaches, unit_of, MakesUnknown, Equates, Applies, AppliesSo, IsPlain, Reads}
use Rattle.sml_objects.proofs.TypeViews.{parts_of, type_of-arrow, type_of-bound, type_of-free, type_of-name, type_of-row}
use Rattle.sml_objects.specs.Views.{label_list, name_of, row_of}
use Rattle.sml_objects.specs.declared.labels.Labels.{Labels}
use Rattle.sml_objects.specs.declared.objects.TyName.{TyName}
use Rattle.sml_objects.specs.declared.objects.MlType.TheViews as V
use Rattle.sml_core.proofs.Sequences.{keeps-all, no-later, sees-after, type-later, then-reaches, then-refused, first-refused}

-- the parts of an arrow

arrow-parts : (n : ℕ) (P : Name → Type 0) (t u : MlType Name) → IsOver n (arrow_of t u) × Mentions P (arrow_of t u) → (IsOver n t × Mentions P t) × (IsOver n u × Mentions P u)
unfolding IsOver AreOver Mentions AllMention
arrow-parts n P t u k = ((k.0.0, k.1.1.0), (k.0.1.0, k.1.1.1.0))

pub arrow-of-parts : (n : ℕ) (P : Name → Type 0) (t u : MlType Name) → IsOver n t × Mentions P t → IsOver n u × Mentions P u → IsOver n (arrow_of t u) × Mentions P (arrow_of t u)
unfolding IsOver AreOver Mentions AllMention
arrow-of-parts n P t u k l = ((k.0, (l.0, tt)), (tt, (k.1, (l.1, tt))))

-- gives an object that is there, without a step
module _ {X : Type 0} (around : Window Place Name) (c : Context) (s : State Place Name) (is : IsAt around c s) (x : X) where
  pub given-reaches : Reaches around c (give x) s c x s
  unfolding IsAnswer
  given-reaches = record { answer = refl; at = is; unit = refl; seen = keeps-all; later = no-later s }

-- a written arrow

pub arrow-applied : (old new : Context) (p : Place) (from to a : MlType Name) (result : Rc P.MlType Global) → Equates old p from a new (Ok tt) → type_of result.value ≡ to
    → Applies old p (arrow_of from to) a new (Ok result)
unfolding Equates Applies
arrow-applied old new p from to a result equates e = λ around s is k l.
    let parts = arrow-parts s.made (λ n. _) from to k in
    let q = equates around s is parts.0 l in (
      q.0,
      then-reaches around old new (require_equal p from a) (λ _. give to) s q.0 tt q.1 new (type_of result.value) q.0
          (subst (λ t. Reaches around new (give to) q.0 new t q.0) (sym e) (given-reaches around new q.0 q.1.at to)),
      subst (IsTypeIn q.0.made q.0.names) (sym e) (type-later s q.0 q.1.later to parts.1),
    )

pub arrow-refused : (old new : Context) (p : Place) (from to a : MlType Name) (f : CoreFault) → Equates old p from a new (Err f) → Applies old p (arrow_of from to) a new (Err f)
unfolding Equates Applies
arrow-refused old new p from to a F.Memory equates = λ around s is k l. tt
arrow-refused old new p from to a (F.Fault f) equates = λ around s is k l.
    first-refused old (require_equal p from a) (λ _. give to) s (fault_of f) (equates around s is (arrow-parts s.made (λ n. _) from to k).0 l)

-- another type

module _ (old mid new : Context) (p : Place) (t a : MlType Name) (unknown : Rc P.MlType Global) (wanted : P.MlType) (makes : MakesUnknown old mid (Ok unknown))
    (is_wanted : type_of wanted ≡ arrow_of a (type_of unknown.value)) where
  pub general-applied : Equates mid p t (type_of wanted) new (Ok tt) → AppliesSo old p t a new (Ok unknown)
  unfolding Equates AppliesSo MakesUnknown
  general-applied equates = λ around s is k l.
      let m = makes around s is in
      let u = m.0 in
      let b = type_of unknown.value in
      let q = equates around u m.1.at (type-later s u m.1.later t k)
      (subst (IsTypeIn u.made u.names) (sym is_wanted) (arrow-of-parts u.made (λ n. _) a b (type-later s u m.1.later a l) m.2)) in
      let first : Reaches around mid (require_equal p t (arrow_of a b)) u new tt q.0 = subst (λ w. Reaches around mid (require_equal p t w) u new tt q.0) is_wanted q.1 in (
        q.0,
        then-reaches around old mid new_unknown (λ b. require_equal p t (arrow_of a b) >>= λ _. give b) s u b m.1 new b q.0
            (then-reaches around mid new (require_equal p t (arrow_of a b)) (λ _. give b) u q.0 tt first new b q.0 (given-reaches around new q.0 first.at b)),
        type-later u q.0 q.1.later b m.2,
      )

  pub general-refused : (f : CoreFault) → Equates mid p t (type_of wanted) new (Err f) → AppliesSo old p t a new (Err f)
  unfolding Equates AppliesSo MakesUnknown
  general-refused F.Memory equates = λ around s is k l. tt
  general-refused (F.Fault f) equates = λ around s is k l.
      let m = makes around s is in
      let u = m.0 in
      let b = type_of unknown.value in
      let q = equates around u m.1.at (type-later s u m.1.later t k)
      (subst (IsTypeIn u.made u.names) (sym is_wanted) (arrow-of-parts u.made (λ n. _) a b (type-later s u m.1.later a l) m.2)) in
      let first : IsAnswer (run_scope (unit_of mid)) (require_equal p t (arrow_of a b)) u (refused (fault_of f)) =
      subst (λ w. IsAnswer (run_scope (unit_of mid)) (require_equal p t w) u (refused (fault_of f))) is_wanted q in
      then-refused around old mid new_unknown (λ b. require_equal p t (arrow_of a b) >>= λ _. give b) s u b m.1 (fault_of f)
      (first-refused mid (require_equal p t (arrow_of a b)) (λ _. give b) u (fault_of f) first)

pub general-not-made : (old new : Context) (p : Place) (t a : MlType Name) (f : CoreFault) → MakesUnknown old new (Err f) → AppliesSo old p t a new (Err f)
unfolding AppliesSo MakesUnknown
general-not-made old new p t a F.Memory makes = λ around s is k l. tt
general-not-made old new p t a (F.Fault f) makes = λ around s is k l.
    first-refused old new_unknown (λ b. require_equal p t (arrow_of a b) >>= λ _. give b) s (fault_of f) (makes around s is)

pub general-memory : (old new : Context) (p : Place) (t a : MlType Name) → AppliesSo old p t a new (Err F.Memory)
unfolding AppliesSo
general-memory old new p t a = λ around s is k l. tt

-- what isn't written as an arrow is applied so

module _ (old new : Context) (p : Place) (t : P.MlType) (a : MlType Name) (result : Result (Rc P.MlType Global) CoreFault) (applies : AppliesSo old p (type_of t) a new result) where
  so : (u : MlType Name) → type_of t ≡ u → applied {P = Place} {N = Name} p u a ≡ apply_general p u a → Applies old p (type_of t) a new result
  unfolding Applies AppliesSo
  so u e general = λ around s is k l.
      let there : applied {P = Place} {N = Name} p (type_of t) a ≡ apply_general p (type_of t) a = subst (λ t. applied {P = Place} {N = Name} p t a ≡ apply_general p t a) (sym e) general in
      subst (λ k. Types around old k s new result) (sym there) (applies around s is k l)

  pub applied-bound : (k : ℕ) → t ≡ P.Bound k → Applies old p (type_of t) a new result
  applied-bound k e = so (bound k) (ap type_of e ∙ type_of-bound k) refl

  pub applied-free : (v : ℕ) → t ≡ P.Free v → Applies old p (type_of t) a new result
  applied-free v e = so (free v) (ap type_of e ∙ type_of-free v) refl

  pub applied-row : (ls : Rc Labels Global) (ts : Vec (Rc P.MlType Global) Global) → t ≡ V.Row ls ts → Applies old p (type_of t) a new result
  applied-row ls ts e = so (row_of (label_list ls.value) (parts_of ts.items)) (ap type_of e ∙ type_of-row ls ts) refl

  pub applied-name : (n : TyName) (ts : Vec (Rc P.MlType Global) Global) → t ≡ V.Name n ts → Applies old p (type_of t) a new result
  applied-name n ts e = so (app (name (name_of n)) (types_of (parts_of ts.items))) (ap type_of e ∙ type_of-name n ts) refl

-- what is

module _ (old new : Context) (p : Place) (t : P.MlType) (from to : Rc P.MlType Global) (is : t ≡ V.Arrow from to) (x y : P.MlType) (a : MlType Name) (takes : x ≡ from.value) (has : type_of y ≡ a) where
  there : (result : Result (Rc P.MlType Global) CoreFault) → Applies old p (arrow_of (type_of from.value) (type_of to.value)) a new result → Applies old p (type_of t) a new result
  there result = subst (λ t. Applies old p t a new result) (sym (ap type_of is ∙ type_of-arrow from to))

  taken : (result : Result (Unit {0}) CoreFault) → Equates old p (type_of x) (type_of y) new result → Equates old p (type_of from.value) a new result
  taken result e = subst (λ a. Equates old p (type_of from.value) a new result) has (subst (λ x. Equates old p (type_of x) (type_of y) new result) takes e)

  pub written-applied : (result : Rc P.MlType Global) → Equates old p (type_of x) (type_of y) new (Ok tt) → result.value ≡ to.value → Applies old p (type_of t) a new (Ok result)
  written-applied result e same = there (Ok result) (arrow-applied old new p (type_of from.value) (type_of to.value) a result (taken (Ok tt) e) (ap type_of same))

  pub written-refused : (f : CoreFault) → Equates old p (type_of x) (type_of y) new (Err f) → Applies old p (type_of t) a new (Err f)
  written-refused f e = there (Err f) (arrow-refused old new p (type_of from.value) (type_of to.value) a f (taken (Err f) e))

-- applications

pub function-refused : (old new : Context) (p : Place) (g e : Exp Place) (f : CoreFault) → Reads old g new (Err f) → Reads old (apply p g e) new (Err f)
unfolding Reads IsPlain read_exp
function-refused old new p g e F.Memory reads = λ h C vs around s is sees. tt
function-refused old new p g e (F.Fault f) reads = λ h C vs around s is sees.
    first-refused old (read_exp (run_scope (unit_of old)) C vs g) (λ t. read_exp (run_scope (unit_of old)) C vs e >>= λ a. applied p t a) s (fault_of f) (reads h.0 C vs around s is sees)

module _ (old mid last : Context) (p : Place) (g e : Exp Place) (function argument : Rc P.MlType Global) (reads : Reads old g mid (Ok function)) where
  pub argument-refused : (f : CoreFault) → Reads mid e last (Err f) → Reads old (apply p g e) last (Err f)
  unfolding Reads IsPlain read_exp
  argument-refused F.Memory more = λ h C vs around s is sees. tt
  argument-refused (F.Fault f) more = λ h C vs around s is sees.
      let m = reads h.0 C vs around s is sees in
      let t = type_of function.value in
      then-refused around old mid (read_exp (run_scope (unit_of old)) C vs g) (λ t. read_exp (run_scope (unit_of old)) C vs e >>= λ a. applied p t a) s m.0 t m.1 (fault_of f)
      (first-refused mid (read_exp (run_scope (unit_of old)) C vs e) (λ a. applied p t a) m.0 (fault_of f)
      (subst (λ u. IsAnswer (run_scope (unit_of mid)) (read_exp (run_scope u) C vs e) m.0 (refused (fault_of f))) m.1.unit (more h.1 C vs around m.0 m.1.at (sees-after m.1 sees))))

  module _ (new : Context) (more : Reads mid e last (Ok argument)) where
    pub application-read : (result : Result (Rc P.MlType Global) CoreFault) → Applies last p (type_of function.value) (type_of argument.value) new result → Reads old (apply p g e) new result
    unfolding Reads IsPlain read_exp Applies
    application-read (Err F.Memory) applies = λ h C vs around s is sees. tt
    application-read (Err (F.Fault f)) applies = λ h C vs around s is sees.
        let m = reads h.0 C vs around s is sees in
        let n = more h.1 C vs around m.0 m.1.at (sees-after m.1 sees) in
        let t = type_of function.value in
        let a = type_of argument.value in
        let q = applies around n.0 n.1.at (type-later m.0 n.0 n.1.later t m.2) n.2 in
        let second : Reaches around mid (read_exp (run_scope (unit_of old)) C vs e) m.0 last a n.0 =
        subst (λ u. Reaches around mid (read_exp (run_scope u) C vs e) m.0 last a n.0) m.1.unit n.1 in
        then-refused around old mid (read_exp (run_scope (unit_of old)) C vs g) (λ t. read_exp (run_scope (unit_of old)) C vs e >>= λ a. applied p t a) s m.0 t m.1 (fault_of f)
        (then-refused around mid last (read_exp (run_scope (unit_of old)) C vs e) (λ a. applied p t a) m.0 n.0 a second (fault_of f) q)
    application-read (Ok result) applies = λ h C vs around s is sees.
        let m = reads h.0 C vs around s is sees in
        let n = more h.1 C vs around m.0 m.1.at (sees-after m.1 sees) in
        let t = type_of function.value in
        let a = type_of argument.value in
        let q = applies around n.0 n.1.at (type-later m.0 n.0 n.1.later t m.2) n.2 in
        let second : Reaches around mid (read_exp (run_scope (unit_of old)) C vs e) m.0 last a n.0 =
        subst (λ u. Reaches around mid (read_exp (run_scope u) C vs e) m.0 last a n.0) m.1.unit n.1 in (
          q.0,
          then-reaches around old mid (read_exp (run_scope (unit_of old)) C vs g) (λ t. read_exp (run_scope (unit_of old)) C vs e >>= λ a. applied p t a) s m.0 t m.1 new (type_of result.value) q.0
              (then-reaches around mid last (read_exp (run_scope (unit_of old)) C vs e) (λ a. applied p t a) m.0 n.0 a second new (type_of result.value) q.0 q.1),
          q.2,
        )

-- constants, and brackets

pub constant-read : (old : Context) (p : Place) (c : Constant) (t : Rc P.MlType Global) → type_of t.value ≡ constant_type naming c.kind → Reads old (constant p c) old (Ok t)
unfolding Reads read_exp IsOver AreOver Mentions AllMention naming
constant-read old p c t e = λ h C vs around s is sees.
    (s, subst (λ u. Reaches around old (give (constant_type naming c.kind)) s old u s) (sym e) (given-reaches around old s is (constant_type naming c.kind)), subst (IsTypeIn s.made s.names) (sym e) (go c.kind is))
  where
    go : {s : State Place Name} {around : Window Place Name} (k : ConstantKind) → IsAt around old s → IsTypeIn s.made s.names (constant_type naming k)
    go K.Integer is = (tt, (is.solver.known.initials int, tt))
    go K.Word is = (tt, (is.solver.known.initials word, tt))
    go K.Real is = (tt, (is.solver.known.initials real, tt))
    go K.String is = (tt, (is.solver.known.initials string, tt))
    go K.Character is = (tt, (is.solver.known.initials char, tt))

pub bracket-read : (old new : Context) (p : Place) (e : Exp Place) (result : Result (Rc P.MlType Global) CoreFault) → Reads old e new result → Reads old (bracket p e) new result
unfolding Reads IsPlain read_exp
bracket-read old new p e (Ok t) reads = reads
bracket-read old new p e (Err F.Memory) reads = reads
bracket-read old new p e (Err (F.Fault f)) reads = reads

-- want of memory

pub read-memory : (old new : Context) (e : Exp Place) → Reads old e new (Err F.Memory)
unfolding Reads
read-memory old new e = λ h C vs around s is sees. tt

pub applied-memory : (old new : Context) (p : Place) (t a : MlType Name) → Applies old p t a new (Err F.Memory)
unfolding Applies
applied-memory old new p t a = λ around s is k l. tt

-- a constant, by what its call answers
pub constant-is : (old new : Context) (p : Place) (c : Constant) (result : Result (Rc P.MlType Global) CoreFault) → IfOk result (λ t. type_of t.value ≡ constant_type naming c.kind)
    → OnErr result (result ≡ Err F.Memory) → new ≡ old → Reads old (constant p c) new result
constant-is old new p c (Ok t) ty memory same = subst (λ n. Reads old (constant p c) n (Ok t)) (sym same) (constant-read old p c t ty)
constant-is old new p c (Err f) ty memory same = subst (Reads old (constant p c) new) (sym memory) (read-memory old new (constant p c))
