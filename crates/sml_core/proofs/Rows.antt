-- Fields that are read one after the other, and rows of them.
use Rattle.std.proofs.Common.{◌≡◌, ℕ, Ok, Err, List, [], ◌∷◌, ◌++◌, map, subst, sym, refl, ◌∙◌, arith}
use Rattle.std.specs.Global.{Global}
use Rattle.std.specs.List.{AllByRecursion}
use Rattle.std.specs.declared.cmp.Ordering.{Ordering}
use Rattle.std.specs.declared.cmp.Ordering.TheVariants.{Less, Equal, Greater}
use Rattle.std.specs.declared.collections.BTreeMap.{BTreeMap}
use Rattle.std.specs.declared.rc.Rc.{Rc}
use Rattle.sml_lex.specs.Faults.{Fault, fault_of}
use Rattle.sml_lex.specs.declared.fault.Place.{Place}
use Rattle.sml_tree.specs.Trees.{Id}
use Rattle.sml_tree.specs.Names.{Name as Named}
use Rattle.sml_tree.specs.Expressions as E
use Rattle.sml_tree.specs.ExpressionViews.{fields_of}
use Rattle.sml_objects.specs.Appearance.{Stands}
use Rattle.sml_objects.specs.Initial.{Name}
use Rattle.sml_objects.specs.Maps.{Map, by_order}
use Rattle.sml_objects.specs.Labels.{label_order}
use Rattle.sml_objects.specs.Objects.{MlType, types_of}
use Rattle.sml_objects.specs.Views.{type_of}
use Rattle.sml_objects.specs.declared.objects.MlType as P
use Rattle.sml_layers.specs.Demands.{Mentions, AllMention}
use Rattle.sml_graph.specs.Interned.{IsOver, AreOver}
use Rattle.sml_rules.specs.Answers.{accepted, refused}
use Rattle.sml_rules.proofs.Sound.{accepted_same}
use Rattle.sml_core_rules.specs.Objects.{Env}
use Rattle.sml_core_rules.specs.Scopes.{run_scope}
use Rattle.sml_core_rules.specs.Scripts.{IsAnswer, give}
use Rattle.sml_core_rules.specs.States.{Scope, State}
use Rattle.sml_core_rules.specs.Types.{put_field, row_of}
use Rattle.sml_core_rules.specs.Expressions.{read_exp, read_fields}
use Rattle.sml_core_rules.proofs.Accepted.{bind-accepted, bind-joined}
use Rattle.sml_core_rules.proofs.Refused.{bind-refused}
use Rattle.sml_types.specs.Rows.{LabelKey, fields_of as row_fields}
use Rattle.sml_types.specs.declared.fault.CoreFault.{CoreFault}
use Rattle.sml_types.specs.declared.fault.CoreFault.TheVariants as F
use Rattle.sml_asks.specs.Solvers.{IsTypeIn}
use Rattle.sml_core.specs.declared.context.Context.{Context}
use Rattle.sml_core.specs.Answered.{IsLater, Reaches, IsPlain, ArePlainFields, Reads, ReadsFields, AreFieldsIn, Row, unit_of}
use Rattle.sml_core.proofs.Applying.{given-reaches}
use Rattle.sml_core.proofs.Sequences.{keeps-more, sees-after, type-later, then-reaches, first-refused}

-- the types of the fields of a map
abbrev pub row_types : List (LabelKey × Rc P.MlType Global) → Row
row_types es = row_fields (λ t. type_of t.value) es

abbrev pub row_in : BTreeMap LabelKey (Rc P.MlType Global) Global → Row
row_in m = row_types m.entries

-- what fields one after the other are answered

module _ (scope : Scope Name) (C : Env Name) (vs : Map (MlType Name)) where
  pub next-field : (xs : List (E.Field Place)) (l : Named Place) (e : E.Exp Place) (before r : Row) (s m u : State Place Name) (t : MlType Name)
      → IsAnswer scope (read_fields scope C vs before (fields_of xs)) s (accepted (r, m)) → IsAnswer scope (read_exp scope C vs e) m (accepted (t, u))
      → IsAnswer scope (read_fields scope C vs before (fields_of (xs ++ E.field l e ∷ []))) s (accepted (put_field l.id t r, u))
  unfolding read_fields IsAnswer
  next-field [] l e before r s m u t h k =
      let q : (r, m) ≡ (before, s) = accepted_same h in
      subst (λ (z : Row × State Place Name). IsAnswer scope (read_fields scope C vs before (fields_of (E.field l e ∷ []))) s (accepted (put_field l.id t z.0, u))) (sym q)
      (bind-joined scope (read_exp scope C vs e) (λ t. read_fields scope C vs (put_field l.id t before) E.no_field) s (t, u) (accepted (put_field l.id t before, u))
      (subst (λ (z : Row × State Place Name). IsAnswer scope (read_exp scope C vs e) z.1 (accepted (t, u))) q k) refl)
  next-field (E.field n x ∷ xs) l e before r s m u t h k =
      let a = bind-accepted scope (read_exp scope C vs x) (λ t. read_fields scope C vs (put_field n.id t before) (fields_of xs)) s (r, m) h in
      bind-joined scope (read_exp scope C vs x) (λ t. read_fields scope C vs (put_field n.id t before) (fields_of (xs ++ E.field l e ∷ []))) s a.0 (accepted (put_field l.id t r, u)) a.1
      (next-field xs l e (put_field n.id a.0.0 before) r a.0.1 m u t a.2 k)

  pub field-refused : (xs : List (E.Field Place)) (l : Named Place) (e : E.Exp Place) (rest : List (E.Field Place)) (before r : Row) (s m : State Place Name) (f : Fault Place)
      → IsAnswer scope (read_fields scope C vs before (fields_of xs)) s (accepted (r, m)) → IsAnswer scope (read_exp scope C vs e) m (refused f)
      → IsAnswer scope (read_fields scope C vs before (fields_of (xs ++ E.field l e ∷ rest))) s (refused f)
  unfolding read_fields IsAnswer
  field-refused [] l e rest before r s m f h k =
      let q : (r, m) ≡ (before, s) = accepted_same h in
      bind-refused scope (read_exp scope C vs e) (λ t. read_fields scope C vs (put_field l.id t before) (fields_of rest)) s f
      (subst (λ (z : Row × State Place Name). IsAnswer scope (read_exp scope C vs e) z.1 (refused f)) q k)
  field-refused (E.field n x ∷ xs) l e rest before r s m f h k =
      let a = bind-accepted scope (read_exp scope C vs x) (λ t. read_fields scope C vs (put_field n.id t before) (fields_of xs)) s (r, m) h in
      bind-joined scope (read_exp scope C vs x) (λ t. read_fields scope C vs (put_field n.id t before) (fields_of (xs ++ E.field l e ∷ rest))) s a.0 (refused f) a.1
      (field-refused xs l e rest (put_field n.id a.0.0 before) r a.0.1 m f a.2 k)

-- parts of fields that are plain

fields-front : (xs ys : List (E.Field Place)) → ArePlainFields (fields_of (xs ++ ys)) → ArePlainFields (fields_of xs)
unfolding ArePlainFields
fields-front [] ys h = tt
fields-front (E.field l x ∷ xs) ys h = (h.0, fields-front xs ys h.1)

field-at : (xs : List (E.Field Place)) (l : Named Place) (e : E.Exp Place) (ys : List (E.Field Place)) → ArePlainFields (fields_of (xs ++ E.field l e ∷ ys)) → IsPlain e
unfolding ArePlainFields
field-at [] l e ys h = h.0
field-at (E.field n x ∷ xs) l e ys h = field-at xs l e ys h.1

-- types of fields that speak of what was made

pub fields-later : (s t : State Place Name) → IsLater s t → (r : Row) → AreFieldsIn r s → AreFieldsIn r t
fields-later s t l [] a = tt
fields-later s t l (f ∷ fs) a = (type-later s t l f.1 a.0, fields-later s t l fs a.1)

pub put-in : (s : State Place Name) (l : Id) (t : MlType Name) (r : Row) → AreFieldsIn r s → IsTypeIn s.made s.names t → AreFieldsIn (put_field l t r) s
put-in s l t [] a k = (k, tt)
put-in s l t (f ∷ fs) a k = go (label_order l f.0) (put-in s l t fs a.1 k)
  where
    go : (o : Ordering) → AreFieldsIn (put_field l t fs) s → AreFieldsIn (by_order o ((l, t) ∷ f ∷ fs) ((l, t) ∷ fs) (f ∷ put_field l t fs)) s
    go Less rest = (k, a)
    go Equal rest = (k, a.1)
    go Greater rest = (a.0, rest)

pub row-over : (k : ℕ) (ns : List Name) (r : Row) → AllByRecursion (λ f. IsTypeIn k ns f.1) r → AreOver k (types_of (map (λ f. f.1) r))
unfolding AreOver
row-over k ns [] a = tt
row-over k ns (f ∷ fs) a = (a.0.0, row-over k ns fs a.1)

pub row-mentions : (s : State Place Name) (r : Row) → AreFieldsIn r s → AllMention (λ n. Stands n s.names) (types_of (map (λ f. f.1) r))
unfolding AllMention
row-mentions s [] a = tt
row-mentions s (f ∷ fs) a = (a.0.1, row-mentions s fs a.1)

-- calls that read fields

pub no-field-read : (c : Context) → ReadsFields (λ (r : Row). r) c E.no_field c (Ok [])
unfolding ReadsFields read_fields
no-field-read c = λ h C vs around s is sees. (s, given-reaches around c s is [], tt)

module _ (old mid last : Context) (es : List (E.Field Place)) (r : Row) (l : Named Place) (e : E.Exp Place) (reads : ReadsFields (λ (r : Row). r) old (fields_of es) mid (Ok r)) where
  pub one-field-more : (t : Rc P.MlType Global) → Reads mid e last (Ok t) → ReadsFields (λ (r : Row). r) old (fields_of (es ++ E.field l e ∷ [])) last (Ok (put_field l.id (type_of t.value) r))
  unfolding ReadsFields Reads
  one-field-more t more = λ h C vs around s is sees.
      let unit = unit_of old in
      let m = reads (fields-front es (E.field l e ∷ []) h) C vs around s is sees in
      let n = more (field-at es l e [] h) C vs around m.0 m.1.at (sees-after m.1 sees) in
      let second : IsAnswer (run_scope unit) (read_exp (run_scope unit) C vs e) m.0 (accepted (type_of t.value, n.0)) =
      subst (λ u. IsAnswer (run_scope u) (read_exp (run_scope u) C vs e) m.0 (accepted (type_of t.value, n.0))) m.1.unit n.1.answer in (
        n.0,
        record {
          answer = next-field (run_scope unit) C vs es l e [] r s m.0 n.0 (type_of t.value) m.1.answer second;
          at = n.1.at;
          unit = n.1.unit ∙ m.1.unit;
          seen = keeps-more m.1.seen n.1.seen;
          later = record { made = omega (arith, m.1.later.made, n.1.later.made); names = λ x h. n.1.later.names x (m.1.later.names x h) };
        },
        put-in n.0 l.id (type_of t.value) r (fields-later m.0 n.0 n.1.later r m.2) n.2,
      )

  pub one-field-refused : {Y : Type 0} (view : Y → Row) (rest : List (E.Field Place)) (f : CoreFault) → Reads mid e last (Err f) → ReadsFields view old (fields_of (es ++ E.field l e ∷ rest)) last (Err f)
  unfolding ReadsFields Reads
  one-field-refused view rest F.Memory more = λ h C vs around s is sees. tt
  one-field-refused view rest (F.Fault f) more = λ h C vs around s is sees.
      let unit = unit_of old in
      let m = reads (fields-front es (E.field l e ∷ rest) h) C vs around s is sees in
      let n = more (field-at es l e rest h) C vs around m.0 m.1.at (sees-after m.1 sees) in
      let second : IsAnswer (run_scope unit) (read_exp (run_scope unit) C vs e) m.0 (refused (fault_of f)) =
      subst (λ u. IsAnswer (run_scope u) (read_exp (run_scope u) C vs e) m.0 (refused (fault_of f))) m.1.unit n in
      field-refused (run_scope unit) C vs es l e rest [] r s m.0 (fault_of f) m.1.answer second

pub fields-memory : {Y : Type 0} (view : Y → Row) (old new : Context) (fs : E.Fields Place) → ReadsFields view old fs new (Err F.Memory)
unfolding ReadsFields
fields-memory view old new fs = λ h C vs around s is sees. tt

-- the same fields, seen in a map
pub fields-seen : {Y : Type 0} (view : Y → Row) (old new : Context) (fs : E.Fields Place) (y : Y) → ReadsFields (λ (r : Row). r) old fs new (Ok (view y)) → ReadsFields view old fs new (Ok y)
unfolding ReadsFields
fields-seen view old new fs y reads = reads

module _ {Y : Type 0} (view : Y → Row) (old new : Context) (p : Place) (fs : E.Fields Place) where
  pub row-refused : (f : CoreFault) → ReadsFields view old fs new (Err f) → Reads old (E.row p fs) new (Err f)
  unfolding ReadsFields Reads IsPlain read_exp
  row-refused F.Memory reads = λ h C vs around s is sees. tt
  row-refused (F.Fault f) reads = λ h C vs around s is sees.
      first-refused old (read_fields (run_scope (unit_of old)) C vs [] fs) (λ r. give (row_of r)) s (fault_of f) (reads h C vs around s is sees)

  pub row-read : (y : Y) (t : Rc P.MlType Global) → ReadsFields view old fs new (Ok y) → type_of t.value ≡ row_of (view y) → Reads old (E.row p fs) new (Ok t)
  unfolding ReadsFields Reads IsPlain read_exp IsOver Mentions
  row-read y t reads e = λ h C vs around s is sees.
      let m = reads h C vs around s is sees in (
        m.0,
        then-reaches around old new (read_fields (run_scope (unit_of old)) C vs [] fs) (λ r. give (row_of r)) s m.0 (view y) m.1 new (type_of t.value) m.0
            (subst (λ u. Reaches around new (give (row_of (view y))) m.0 new u m.0) (sym e) (given-reaches around new m.0 m.1.at (row_of (view y)))),
        subst (IsTypeIn m.0.made m.0.names) (sym e) (row-over m.0.made m.0.names (view y) m.2, (tt, row-mentions m.0 (view y) m.2)),
      )
