-- The forms of patterns, each read by calls that read its parts.
use Rattle.std.proofs.Common.{◌≡◌, ℕ, Bool, true, Result, Ok, Err, Option, [], Vec, subst, sym, refl}
use Rattle.std.specs.Global.{Global}
use Rattle.std.specs.declared.rc.Rc.{Rc}
use Rattle.sml_lex.specs.Faults.{fault_of}
use Rattle.sml_lex.specs.declared.fault.Place.{Place}
use Rattle.sml_tree.specs.Names.{LongName}
use Rattle.sml_tree.specs.Names as N
use Rattle.sml_tree.specs.Types.{Ty}
use Rattle.sml_tree.specs.Patterns as T
use Rattle.sml_tree.specs.Patterns.{Pat}
use Rattle.sml_tree.specs.declared.patterns.ConstantKind.{ConstantKind}
use Rattle.sml_tree.specs.declared.patterns.ConstantKind.TheVariants as K
use Rattle.sml_objects.specs.Initial.{Name, naming}
use Rattle.sml_objects.specs.Names.{int, word, real, string, char}
use Rattle.sml_objects.specs.Maps.{Map}
use Rattle.sml_objects.specs.Objects.{MlType, tuple_of, types_of}
use Rattle.sml_objects.specs.Views.{type_of}
use Rattle.sml_objects.specs.declared.objects.MlType as P
use Rattle.sml_objects.proofs.TypeViews.{parts_of}
use Rattle.sml_layers.specs.Demands.{Mentions, AllMention}
use Rattle.sml_graph.specs.Interned.{IsOver, AreOver}
use Rattle.sml_rules.specs.Answers.{refused}
use Rattle.sml_core_rules.specs.Lookups.{value_at}
use Rattle.sml_core_rules.specs.Objects.{Env}
use Rattle.sml_core_rules.specs.Scopes.{run_scope}
use Rattle.sml_core_rules.specs.Scripts.{Script, IsAnswer, give, new_unknown, ◌>>=◌}
use Rattle.sml_core_rules.specs.States.{Scope, State, Window}
use Rattle.sml_core_rules.specs.Values.{applied, require_equal}
use Rattle.sml_core_rules.specs.Patterns.{Bindings, Typed, constant_type, constructor_instance, found_constructor, read_constraint, read_layered, read_named, read_pat, read_pats, read_pat_fields, read_row, typed}
use Rattle.sml_types.specs.declared.fault.CoreFault.{CoreFault}
use Rattle.sml_types.specs.declared.fault.CoreFault.TheVariants as F
use Rattle.sml_asks.specs.Solvers.{IsTypeIn}
use Rattle.sml_core.specs.declared.context.Context.{Context}
use Rattle.sml_core.specs.declared.patterns.Variables.{Variables}
use Rattle.sml_core.specs.Answered.{AnswersAs, Applies, Equates, IsAt, MakesUnknown, Reaches, Row, Types, unit_of}
use Rattle.sml_core.specs.Patterns.{AppliesConstructor, BindsType, Constrains, IsMade, MakesRow, ReadsPattern, ReadsPatterns, ReadsPatternFields, WithBound, bindings_of, constrain, constructor_applied}
use Rattle.sml_core.proofs.Sequences.{sees-after, then-answers, then-reaches, then-refused, first-refused, type-later}
use Rattle.sml_core.proofs.Applying.{given-reaches}
use Rattle.sml_core.proofs.Associating.{associates}
use Rattle.sml_core.proofs.Binding.{bound-before, bound-later, with_type}

-- want of memory
pub pattern-memory : (old new : Context) (vars after : Variables) (q : Pat Place) → ReadsPattern old vars q new after (Err F.Memory)
unfolding ReadsPattern
pattern-memory old new vars after q = λ C vs around s is sees bound. tt

-- forms without patterns in them

pub wildcard-read : (old new : Context) (vars : Variables) (p : Place) (result : Result (Rc P.MlType Global) CoreFault) → MakesUnknown old new result → ReadsPattern old vars (T.wildcard p) new vars result
unfolding ReadsPattern MakesUnknown read_pat
wildcard-read old new vars p result makes = λ C vs around s is sees bound. bound-before old new vars around new_unknown s result bound (makes around s is)

pub constant-read : (old : Context) (vars : Variables) (p : Place) (c : T.Constant) (t : Rc P.MlType Global) → type_of t.value ≡ constant_type naming c.kind → ReadsPattern old vars (T.pat_constant p c) old vars (Ok t)
unfolding ReadsPattern read_pat IsOver AreOver Mentions AllMention naming
constant-read old vars p c t e = λ C vs around s is sees bound.
    let o = typed (constant_type naming c.kind) (bindings_of vars) in (
      s,
      subst (λ u. Reaches around old (give o) s old (typed u (bindings_of vars)) s) (sym e) (given-reaches around old s is o),
      (subst (IsTypeIn s.made s.names) (sym e) (go c.kind is), bound),
    )
  where
    go : {s : State Place Name} {around : Window Place Name} (k : ConstantKind) → IsAt around old s → IsTypeIn s.made s.names (constant_type naming k)
    go K.Integer is = (tt, (is.solver.known.initials int, tt))
    go K.Word is = (tt, (is.solver.known.initials word, tt))
    go K.Real is = (tt, (is.solver.known.initials real, tt))
    go K.String is = (tt, (is.solver.known.initials string, tt))
    go K.Character is = (tt, (is.solver.known.initials char, tt))

pub name-read : (old new : Context) (vars after : Variables) (p : Place) (x : LongName Place) (result : Result (Rc P.MlType Global) CoreFault)
    → BindsType old vars (λ r C vs bs. read_named (run_scope (unit_of old)) r C vs p x bs) new after result → ReadsPattern old vars (T.pat_name p x) new after result
unfolding ReadsPattern BindsType read_pat
name-read old new vars after p x result binds = binds

pub bracket-read : (old new : Context) (vars after : Variables) (p : Place) (q : Pat Place) (result : Result (Rc P.MlType Global) CoreFault) → ReadsPattern old vars q new after result
    → ReadsPattern old vars (T.pat_bracket p q) new after result
unfolding ReadsPattern read_pat
bracket-read old new vars after p q result reads = reads

-- a pattern that is read where others were, in the scope of the unit that they began with
read-there : (around : Window Place Name) (old mid new : Context) (vars between after : Variables) (C : Env Name) (vs : Map (MlType Name)) (q : Pat Place) (s : State Place Name)
    (result : Result (Rc P.MlType Global) CoreFault) → unit_of mid ≡ unit_of old → between.is_recursive ≡ vars.is_recursive
    → AnswersAs (with_type after) (WithBound IsMade) around mid (read_pat (run_scope (unit_of mid)) between.is_recursive C vs (bindings_of between) q) s new result
    → AnswersAs (with_type after) (WithBound IsMade) around mid (read_pat (run_scope (unit_of old)) vars.is_recursive C vs (bindings_of between) q) s new result
read-there around old mid new vars between after C vs q s result same kind a =
    subst (λ (z : ℕ × Bool). AnswersAs (with_type after) (WithBound IsMade) around mid (read_pat (run_scope z.0) z.1 C vs (bindings_of between) q) s new result)
    (λ i. (same i, kind i)) a

-- rows, and tuples

module _ {Y : Type 0} (view : Y → Row) (old mid : Context) (vars between : Variables) (p : Place) (fs : T.PatFields Place) (flexible : Bool) where
  pub fields-refused : (f : CoreFault) → ReadsPatternFields view old vars fs mid between (Err f) → ReadsPattern old vars (T.pat_row p fs flexible) mid between (Err f)
  unfolding ReadsPattern ReadsPatternFields read_pat
  fields-refused F.Memory reads = λ C vs around s is sees bound. tt
  fields-refused (F.Fault f) reads = λ C vs around s is sees bound.
      let scope = run_scope (unit_of old) in
      first-refused old (read_pat_fields scope vars.is_recursive C vs (bindings_of vars) [] fs) (λ r. read_row scope vars.is_recursive C vs p flexible r.type >>= λ t. give (typed t r.bound)) s (fault_of f)
      (reads C vs around s is sees bound)

  pub row-read : (y : Y) (new : Context) (result : Result (Rc P.MlType Global) CoreFault) → ReadsPatternFields view old vars fs mid between (Ok y) → MakesRow mid p flexible (view y) new result
      → ReadsPattern old vars (T.pat_row p fs flexible) new between result
  unfolding ReadsPattern ReadsPatternFields MakesRow read_pat
  row-read y new result reads makes = λ C vs around s is sees bound.
      let scope = run_scope (unit_of old) in
      let m = reads C vs around s is sees bound in
      let made = subst (λ u. Types around mid (read_row (run_scope u) vars.is_recursive C vs p flexible (view y)) m.0 new result) m.1.unit (makes vars.is_recursive C vs around m.0 m.1.at m.2.0) in
      then-answers (with_type between) (WithBound IsMade) (λ (r : Typed Name Row). read_row scope vars.is_recursive C vs p flexible r.type >>= λ t. give (typed t r.bound)) new result m.1
      (bound-before mid new between around (read_row scope vars.is_recursive C vs p flexible (view y)) m.0 result m.2.1 made)

module _ (old new : Context) (vars after : Variables) (p : Place) (qs : T.Pats Place) where
  pub parts-refused : (f : CoreFault) → ReadsPatterns old vars qs new after (Err f) → ReadsPattern old vars (T.pat_tuple p qs) new after (Err f)
  unfolding ReadsPattern ReadsPatterns read_pat
  parts-refused F.Memory reads = λ C vs around s is sees bound. tt
  parts-refused (F.Fault f) reads = λ C vs around s is sees bound.
      first-refused old (read_pats (run_scope (unit_of old)) vars.is_recursive C vs (bindings_of vars) qs) (λ r. give (typed (tuple_of r.type) r.bound)) s (fault_of f) (reads C vs around s is sees bound)

  pub tuple-read : (ts : Vec (Rc P.MlType Global) Global) (t : Rc P.MlType Global) → ReadsPatterns old vars qs new after (Ok ts) → type_of t.value ≡ tuple_of (types_of (parts_of ts.items))
      → ReadsPattern old vars (T.pat_tuple p qs) new after (Ok t)
  unfolding ReadsPattern ReadsPatterns read_pat IsOver Mentions
  tuple-read ts t reads e = λ C vs around s is sees bound.
      let m = reads C vs around s is sees bound in
      let us = types_of (parts_of ts.items) in
      let o = typed (tuple_of us) (bindings_of after) in (
        m.0,
        then-reaches around old new (read_pats (run_scope (unit_of old)) vars.is_recursive C vs (bindings_of vars) qs) (λ r. give (typed (tuple_of r.type) r.bound)) s m.0 (typed us (bindings_of after)) m.1 new
            (typed (type_of t.value) (bindings_of after)) m.0 (subst (λ u. Reaches around new (give o) m.0 new (typed u (bindings_of after)) m.0) (sym e) (given-reaches around new m.0 m.1.at o)),
        (subst (IsTypeIn m.0.made m.0.names) (sym e) (m.2.0.0, (tt, m.2.0.1)), m.2.1),
      )

-- a constructor before a pattern

abbrev after_constructor : Scope Name → Bool → Env Name → Map (MlType Name) → Bindings Name → Place → Pat Place → MlType Name → Script Place Name (Typed Name (MlType Name))
after_constructor scope r C vs bs p q t = do
  o ← read_pat scope r C vs bs q
  u ← applied p t o.type
  give (typed u o.bound)

module _ (old mid : Context) (vars : Variables) (p : Place) (x : LongName Place) (q : Pat Place) where
  abbrev Then : Env Name → Map (MlType Name) → MlType Name → Script Place Name (Typed Name (MlType Name))
  Then C vs t = after_constructor (run_scope (unit_of old)) vars.is_recursive C vs (bindings_of vars) p q t

  -- the constructor, and what comes then, is what a constructor before a pattern asks
  regrouped : (C : Env Name) (vs : Map (MlType Name)) → (constructor_applied (run_scope (unit_of old)) p x C >>= Then C vs) ≡ read_pat (run_scope (unit_of old)) vars.is_recursive C vs (bindings_of vars) (T.pat_apply p x q)
  unfolding read_pat
  regrouped C vs = associates (constructor_instance (run_scope (unit_of old)) p x.place true) (Then C vs) (found_constructor (run_scope (unit_of old)) x (value_at C x.id))

  pub constructor-refused : (f : CoreFault) → AppliesConstructor old p x mid (Err f) → ReadsPattern old vars (T.pat_apply p x q) mid vars (Err f)
  unfolding ReadsPattern AppliesConstructor
  constructor-refused F.Memory finds = λ C vs around s is sees bound. tt
  constructor-refused (F.Fault f) finds = λ C vs around s is sees bound.
      let scope = run_scope (unit_of old) in
      subst (λ k. IsAnswer scope k s (refused (fault_of f))) (regrouped C vs) (first-refused old (constructor_applied scope p x C) (Then C vs) s (fault_of f) (finds C vs around s is sees))

  module _ (constructor : Rc P.MlType Global) (finds : AppliesConstructor old p x mid (Ok constructor)) (last : Context) (after : Variables) where
    pub argument-refused : (f : CoreFault) → ReadsPattern mid vars q last after (Err f) → ReadsPattern old vars (T.pat_apply p x q) last after (Err f)
    unfolding ReadsPattern AppliesConstructor
    argument-refused F.Memory reads = λ C vs around s is sees bound. tt
    argument-refused (F.Fault f) reads = λ C vs around s is sees bound.
        let scope = run_scope (unit_of old) in
        let t = type_of constructor.value in
        let m = finds C vs around s is sees in
        let bs = bindings_of vars in
        let n = read-there around old mid last vars vars after C vs q m.0 (Err (F.Fault f)) m.1.unit refl (reads C vs around m.0 m.1.at (sees-after m.1 sees) (bound-later s m.0 m.1.later bs bound)) in
        subst (λ k. IsAnswer scope k s (refused (fault_of f))) (regrouped C vs)
        (then-refused around old mid (constructor_applied scope p x C) (Then C vs) s m.0 t m.1 (fault_of f)
        (first-refused mid (read_pat scope vars.is_recursive C vs bs q) (λ o. applied p t o.type >>= λ u. give (typed u o.bound)) m.0 (fault_of f) n))

    pub application-read : (argument : Rc P.MlType Global) (new : Context) (result : Result (Rc P.MlType Global) CoreFault) → ReadsPattern mid vars q last after (Ok argument)
        → Applies last p (type_of constructor.value) (type_of argument.value) new result → ReadsPattern old vars (T.pat_apply p x q) new after result
    unfolding ReadsPattern AppliesConstructor Applies
    application-read argument new result reads applies = λ C vs around s is sees bound.
        let scope = run_scope (unit_of old) in
        let t = type_of constructor.value in
        let a = type_of argument.value in
        let m = finds C vs around s is sees in
        let bs = bindings_of vars in
        let n = read-there around old mid last vars vars after C vs q m.0 (Ok argument) m.1.unit refl (reads C vs around m.0 m.1.at (sees-after m.1 sees) (bound-later s m.0 m.1.later bs bound)) in
        let rest = bound-before last new after around (applied p t a) n.0 result n.2.1 (applies around n.0 n.1.at (type-later m.0 n.0 n.1.later t m.2) n.2.0) in
        subst (λ k. AnswersAs (with_type after) (WithBound IsMade) around old k s new result) (regrouped C vs)
        (then-answers (with_type after) (WithBound IsMade) (Then C vs) new result m.1
        (then-answers (with_type after) (WithBound IsMade) (λ (o : Typed Name (MlType Name)). applied p t o.type >>= λ u. give (typed u o.bound)) new result n.1 rest))

-- a pattern before a type

abbrev after_found : Place → Ty Place → Env Name → Map (MlType Name) → Typed Name (MlType Name) → Script Place Name (Typed Name (MlType Name))
after_found p ty C vs r = do
  t ← read_constraint C vs ty
  u ← require_equal p r.type t
  give (typed t r.bound)

constrain-regrouped : (p : Place) (t : MlType Name) (ty : Ty Place) (C : Env Name) (vs : Map (MlType Name)) (bs : Bindings Name) → (constrain p t ty C vs >>= λ w. give (typed w bs)) ≡ after_found p ty C vs (typed t bs)
unfolding ◌>>=◌
constrain-regrouped p t ty C vs bs = associates (λ w. require_equal p t w >>= λ u. give w) (λ w. give (typed w bs)) (read_constraint C vs ty)

module _ (old mid : Context) (vars after : Variables) (p : Place) (q : Pat Place) (ty : Ty Place) where
  pub typed-refused : (f : CoreFault) → ReadsPattern old vars q mid after (Err f) → ReadsPattern old vars (T.pat_typed p q ty) mid after (Err f)
  unfolding ReadsPattern read_pat
  typed-refused F.Memory reads = λ C vs around s is sees bound. tt
  typed-refused (F.Fault f) reads = λ C vs around s is sees bound.
      first-refused old (read_pat (run_scope (unit_of old)) vars.is_recursive C vs (bindings_of vars) q) (after_found p ty C vs) s (fault_of f) (reads C vs around s is sees bound)

  pub typed-read : (first : Rc P.MlType Global) (new : Context) (result : Result (Rc P.MlType Global) CoreFault) → ReadsPattern old vars q mid after (Ok first)
      → Constrains mid p (type_of first.value) ty new result → ReadsPattern old vars (T.pat_typed p q ty) new after result
  unfolding ReadsPattern Constrains read_pat
  typed-read first new result reads constrains = λ C vs around s is sees bound.
      let t = type_of first.value in
      let m = reads C vs around s is sees bound in
      let rest = bound-before mid new after around (constrain p t ty C vs) m.0 result m.2.1 (constrains C vs around m.0 m.1.at (sees-after m.1 sees) m.2.0) in
      then-answers (with_type after) (WithBound IsMade) (after_found p ty C vs) new result m.1
      (subst (λ k. AnswersAs (with_type after) (WithBound IsMade) around mid k m.0 new result) (constrain-regrouped p t ty C vs (bindings_of after)) rest)

-- a variable before a pattern

abbrev after_layered : Scope Name → Bool → Env Name → Map (MlType Name) → Place → Pat Place → Typed Name (MlType Name) → Script Place Name (Typed Name (MlType Name))
after_layered scope r C vs p q t = do
  o ← read_pat scope r C vs t.bound q
  u ← require_equal p t.type o.type
  give (typed t.type o.bound)

module _ (old mid : Context) (vars between : Variables) (p : Place) (x : N.Name Place) (ty : Option (Ty Place)) (q : Pat Place) where
  abbrev Layers : Result (Rc P.MlType Global) CoreFault → Type 0
  Layers result = BindsType old vars (λ r C vs bs. read_layered (run_scope (unit_of old)) r C vs x ty bs) mid between result

  pub layered-refused : (f : CoreFault) → Layers (Err f) → ReadsPattern old vars (T.pat_as p x ty q) mid between (Err f)
  unfolding ReadsPattern BindsType read_pat
  layered-refused F.Memory layers = λ C vs around s is sees bound. tt
  layered-refused (F.Fault f) layers = λ C vs around s is sees bound.
      let scope = run_scope (unit_of old) in
      first-refused old (read_layered scope vars.is_recursive C vs x ty (bindings_of vars)) (after_layered scope vars.is_recursive C vs p q) s (fault_of f) (layers C vs around s is sees bound)

  module _ (kind : between.is_recursive ≡ vars.is_recursive) (whole : Rc P.MlType Global) (layers : Layers (Ok whole)) (last : Context) (after : Variables) where
    pub part-refused : (f : CoreFault) → ReadsPattern mid between q last after (Err f) → ReadsPattern old vars (T.pat_as p x ty q) last after (Err f)
    unfolding ReadsPattern BindsType read_pat
    part-refused F.Memory reads = λ C vs around s is sees bound. tt
    part-refused (F.Fault f) reads = λ C vs around s is sees bound.
        let scope = run_scope (unit_of old) in
        let w = typed (type_of whole.value) (bindings_of between) in
        let m = layers C vs around s is sees bound in
        let n = read-there around old mid last vars between after C vs q m.0 (Err (F.Fault f)) m.1.unit kind (reads C vs around m.0 m.1.at (sees-after m.1 sees) m.2.1) in
        then-refused around old mid (read_layered scope vars.is_recursive C vs x ty (bindings_of vars)) (after_layered scope vars.is_recursive C vs p q) s m.0 w m.1 (fault_of f)
        (first-refused mid (read_pat scope vars.is_recursive C vs w.bound q) (λ o. require_equal p w.type o.type >>= λ u. give (typed w.type o.bound)) m.0 (fault_of f) n)

    module _ (part : Rc P.MlType Global) (reads : ReadsPattern mid between q last after (Ok part)) (new : Context) where
      pub parts-unequal : (f : CoreFault) → Equates last p (type_of whole.value) (type_of part.value) new (Err f) → ReadsPattern old vars (T.pat_as p x ty q) new after (Err f)
      unfolding ReadsPattern BindsType Equates read_pat
      parts-unequal F.Memory equates = λ C vs around s is sees bound. tt
      parts-unequal (F.Fault f) equates = λ C vs around s is sees bound.
          let scope = run_scope (unit_of old) in
          let w = typed (type_of whole.value) (bindings_of between) in
          let o = typed (type_of part.value) (bindings_of after) in
          let m = layers C vs around s is sees bound in
          let n = read-there around old mid last vars between after C vs q m.0 (Ok part) m.1.unit kind (reads C vs around m.0 m.1.at (sees-after m.1 sees) m.2.1) in
          let e = equates around n.0 n.1.at (type-later m.0 n.0 n.1.later w.type m.2.0) n.2.0 in
          then-refused around old mid (read_layered scope vars.is_recursive C vs x ty (bindings_of vars)) (after_layered scope vars.is_recursive C vs p q) s m.0 w m.1 (fault_of f)
          (then-refused around mid last (read_pat scope vars.is_recursive C vs w.bound q) (λ o. require_equal p w.type o.type >>= λ u. give (typed w.type o.bound)) m.0 n.0 o n.1 (fault_of f)
          (first-refused last (require_equal p w.type o.type) (λ u. give (typed w.type o.bound)) n.0 (fault_of f) e))

      pub layered-read : Equates last p (type_of whole.value) (type_of part.value) new (Ok tt) → ReadsPattern old vars (T.pat_as p x ty q) new after (Ok whole)
      unfolding ReadsPattern BindsType Equates read_pat
      layered-read equates = λ C vs around s is sees bound.
          let scope = run_scope (unit_of old) in
          let w = typed (type_of whole.value) (bindings_of between) in
          let o = typed (type_of part.value) (bindings_of after) in
          let given = typed w.type o.bound in
          let m = layers C vs around s is sees bound in
          let n = read-there around old mid last vars between after C vs q m.0 (Ok part) m.1.unit kind (reads C vs around m.0 m.1.at (sees-after m.1 sees) m.2.1) in
          let in_n = type-later m.0 n.0 n.1.later w.type m.2.0 in
          let e = equates around n.0 n.1.at in_n n.2.0 in (
            e.0,
            then-reaches around old mid (read_layered scope vars.is_recursive C vs x ty (bindings_of vars)) (after_layered scope vars.is_recursive C vs p q) s m.0 w m.1 new given e.0
                (then-reaches around mid last (read_pat scope vars.is_recursive C vs w.bound q) (λ o. require_equal p w.type o.type >>= λ u. give (typed w.type o.bound)) m.0 n.0 o n.1 new given e.0
                (then-reaches around last new (require_equal p w.type o.type) (λ u. give given) n.0 e.0 tt e.1 new given e.0 (given-reaches around new e.0 e.1.at given))),
            (type-later n.0 e.0 e.1.later w.type in_n, bound-later n.0 e.0 e.1.later o.bound n.2.1),
          )
