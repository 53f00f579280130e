-- Expressions that are read one after the other, and tuples of them.
use Rattle.std.proofs.Common.{◌≡◌, ℕ, Ok, Err, List, [], ◌∷◌, ◌++◌, ap, subst, sym, refl, ◌∙◌, arith}
use Rattle.std.specs.Global.{Global}
use Rattle.std.specs.List.{AllByRecursion}
use Rattle.std.specs.declared.rc.Rc.{Rc}
use Rattle.sml_lex.specs.Faults.{Fault, fault_of}
use Rattle.sml_lex.specs.declared.fault.Place.{Place}
use Rattle.sml_tree.specs.Expressions as E
use Rattle.sml_tree.specs.ExpressionViews.{exps_of}
use Rattle.sml_objects.specs.Appearance.{Stands}
use Rattle.sml_objects.specs.Initial.{Name}
use Rattle.sml_objects.specs.Maps.{Map}
use Rattle.sml_objects.specs.Objects.{MlType, MlTypes, no_type, and_type, tuple_of, types_of}
use Rattle.sml_objects.specs.Views.{type_of}
use Rattle.sml_objects.specs.declared.objects.MlType as P
use Rattle.sml_objects.proofs.TypeViews.{parts_of}
use Rattle.sml_layers.specs.Demands.{Mentions, AllMention}
use Rattle.sml_graph.specs.Interned.{IsOver, AreOver}
use Rattle.sml_rules.specs.Answers.{accepted, refused}
use Rattle.sml_rules.proofs.Sound.{accepted_same}
use Rattle.sml_core_rules.specs.Objects.{Env}
use Rattle.sml_core_rules.specs.Scopes.{run_scope}
use Rattle.sml_core_rules.specs.Scripts.{IsAnswer, give, ◌>>=◌}
use Rattle.sml_core_rules.specs.States.{Scope, State, Window}
use Rattle.sml_core_rules.specs.Expressions.{read_exp, read_exps}
use Rattle.sml_core_rules.proofs.Accepted.{bind-accepted, bind-joined}
use Rattle.sml_core_rules.proofs.Refused.{bind-refused}
use Rattle.sml_types.specs.declared.fault.CoreFault.{CoreFault}
use Rattle.sml_types.specs.declared.fault.CoreFault.TheVariants as F
use Rattle.sml_asks.specs.Solvers.{IsTypeIn}
use Rattle.sml_core.specs.declared.context.Context.{Context}
use Rattle.sml_core.specs.Answered.{IsAt, IsLater, Reaches, IsPlain, ArePlain, Reads, unit_of}
use Rattle.sml_core.specs.Seen.{Sees}
use Rattle.sml_core.proofs.Applying.{given-reaches}
use Rattle.sml_core.proofs.Sequences.{keeps-more, sees-after, type-later, then-reaches, first-refused}

-- one type more
abbrev pub with_last : MlTypes Name → MlType Name → MlTypes Name
with_last no_type t = and_type t no_type
with_last (and_type u us) t = and_type u (with_last us t)

pub last-part : (ts : List (Rc P.MlType Global)) (t : Rc P.MlType Global) → types_of (parts_of (ts ++ t ∷ [])) ≡ with_last (types_of (parts_of ts)) (type_of t.value)
last-part [] t = refl
last-part (u ∷ us) t = ap (and_type (type_of u.value)) (last-part us t)

-- what expressions one after the other are answered

module _ (scope : Scope Name) (C : Env Name) (vs : Map (MlType Name)) where
  first-read : (e : E.Exp Place) (s u : State Place Name) (t : MlType Name) → IsAnswer scope (read_exp scope C vs e) s (accepted (t, u))
      → IsAnswer scope (read_exps scope C vs (exps_of (e ∷ []))) s (accepted (and_type t no_type, u))
  unfolding read_exps IsAnswer ◌>>=◌
  first-read e s u t k = bind-joined scope (read_exp scope C vs e) (λ t. read_exps scope C vs E.no_exp >>= λ ts. give (and_type t ts)) s (t, u) (accepted (and_type t no_type, u)) k refl

  pub next-read : (xs : List (E.Exp Place)) (e : E.Exp Place) (s m u : State Place Name) (ts : MlTypes Name) (t : MlType Name) → IsAnswer scope (read_exps scope C vs (exps_of xs)) s (accepted (ts, m))
      → IsAnswer scope (read_exp scope C vs e) m (accepted (t, u)) → IsAnswer scope (read_exps scope C vs (exps_of (xs ++ e ∷ []))) s (accepted (with_last ts t, u))
  unfolding read_exps IsAnswer ◌>>=◌
  next-read [] e s m u ts t h k =
      let q : (ts, m) ≡ (no_type, s) = accepted_same h in
      subst (λ (z : MlTypes Name × State Place Name). IsAnswer scope (read_exps scope C vs (exps_of (e ∷ []))) s (accepted (with_last z.0 t, u))) (sym q)
      (first-read e s u t (subst (λ (z : MlTypes Name × State Place Name). IsAnswer scope (read_exp scope C vs e) z.1 (accepted (t, u))) q k))
  next-read (x ∷ xs) e s m u ts t h k =
      let a = bind-accepted scope (read_exp scope C vs x) (λ t. read_exps scope C vs (exps_of xs) >>= λ ts. give (and_type t ts)) s (ts, m) h in
      let b = bind-accepted scope (read_exps scope C vs (exps_of xs)) (λ ts. give (and_type a.0.0 ts)) a.0.1 (ts, m) a.2 in
      let q : (ts, m) ≡ (and_type a.0.0 b.0.0, b.0.1) = accepted_same b.2 in
      let r = next-read xs e a.0.1 b.0.1 u b.0.0 t b.1 (subst (λ (z : MlTypes Name × State Place Name). IsAnswer scope (read_exp scope C vs e) z.1 (accepted (t, u))) q k) in
      let next = bind-joined scope (read_exps scope C vs (exps_of (xs ++ e ∷ []))) (λ ts. give (and_type a.0.0 ts)) a.0.1 (with_last b.0.0 t, u) (accepted (and_type a.0.0 (with_last b.0.0 t), u)) r refl in
      subst (λ (z : MlTypes Name × State Place Name). IsAnswer scope (read_exps scope C vs (exps_of (x ∷ xs ++ e ∷ []))) s (accepted (with_last z.0 t, u))) (sym q)
      (bind-joined scope (read_exp scope C vs x) (λ t. read_exps scope C vs (exps_of (xs ++ e ∷ [])) >>= λ ts. give (and_type t ts)) s a.0 (accepted (and_type a.0.0 (with_last b.0.0 t), u)) a.1 next)

  pub next-refused : (xs : List (E.Exp Place)) (e : E.Exp Place) (rest : List (E.Exp Place)) (s m : State Place Name) (ts : MlTypes Name) (f : Fault Place)
      → IsAnswer scope (read_exps scope C vs (exps_of xs)) s (accepted (ts, m)) → IsAnswer scope (read_exp scope C vs e) m (refused f)
      → IsAnswer scope (read_exps scope C vs (exps_of (xs ++ e ∷ rest))) s (refused f)
  unfolding read_exps IsAnswer ◌>>=◌
  next-refused [] e rest s m ts f h k =
      let q : (ts, m) ≡ (no_type, s) = accepted_same h in
      bind-refused scope (read_exp scope C vs e) (λ t. read_exps scope C vs (exps_of rest) >>= λ ts. give (and_type t ts)) s f
      (subst (λ (z : MlTypes Name × State Place Name). IsAnswer scope (read_exp scope C vs e) z.1 (refused f)) q k)
  next-refused (x ∷ xs) e rest s m ts f h k =
      let a = bind-accepted scope (read_exp scope C vs x) (λ t. read_exps scope C vs (exps_of xs) >>= λ ts. give (and_type t ts)) s (ts, m) h in
      let b = bind-accepted scope (read_exps scope C vs (exps_of xs)) (λ ts. give (and_type a.0.0 ts)) a.0.1 (ts, m) a.2 in
      let q : (ts, m) ≡ (and_type a.0.0 b.0.0, b.0.1) = accepted_same b.2 in
      let r = next-refused xs e rest a.0.1 b.0.1 b.0.0 f b.1 (subst (λ (z : MlTypes Name × State Place Name). IsAnswer scope (read_exp scope C vs e) z.1 (refused f)) q k) in
      bind-joined scope (read_exp scope C vs x) (λ t. read_exps scope C vs (exps_of (xs ++ e ∷ rest)) >>= λ ts. give (and_type t ts)) s a.0 (refused f) a.1
      (bind-refused scope (read_exps scope C vs (exps_of (xs ++ e ∷ rest))) (λ ts. give (and_type a.0.0 ts)) a.0.1 f r)

-- parts of a list that is plain

plain-front : (xs ys : List (E.Exp Place)) → ArePlain (exps_of (xs ++ ys)) → ArePlain (exps_of xs)
unfolding ArePlain
plain-front [] ys h = tt
plain-front (x ∷ xs) ys h = (h.0, plain-front xs ys h.1)

plain-at : (xs : List (E.Exp Place)) (e : E.Exp Place) (ys : List (E.Exp Place)) → ArePlain (exps_of (xs ++ e ∷ ys)) → IsPlain e
unfolding ArePlain
plain-at [] e ys h = h.0
plain-at (x ∷ xs) e ys h = plain-at xs e ys h.1

-- types that speak of what was made

abbrev pub AreIn : State Place Name → List (Rc P.MlType Global) → Type 0
AreIn s ts = AllByRecursion (λ t. IsTypeIn s.made s.names (type_of t.value)) ts

pub last-in : (s t : State Place Name) → IsLater s t → (ts : List (Rc P.MlType Global)) (u : Rc P.MlType Global) → AreIn s ts → IsTypeIn t.made t.names (type_of u.value) → AreIn t (ts ++ u ∷ [])
last-in s t l [] u a k = (k, tt)
last-in s t l (x ∷ xs) u a k = (type-later s t l (type_of x.value) a.0, last-in s t l xs u a.1 k)

parts-over : (k : ℕ) (ns : List Name) (ts : List (Rc P.MlType Global)) → AllByRecursion (λ t. IsTypeIn k ns (type_of t.value)) ts → AreOver k (types_of (parts_of ts))
unfolding AreOver
parts-over k ns [] a = tt
parts-over k ns (t ∷ ts) a = (a.0.0, parts-over k ns ts a.1)

parts-mention : (s : State Place Name) (ts : List (Rc P.MlType Global)) → AreIn s ts → AllMention (λ n. Stands n s.names) (types_of (parts_of ts))
unfolding AllMention
parts-mention s [] a = tt
parts-mention s (t ∷ ts) a = (a.0.1, parts-mention s ts a.1)

-- A call reads expressions one after the other.
unfoldable pub ReadsAll : Context → List (E.Exp Place) → Context → List (Rc P.MlType Global) → Type 0
ReadsAll old es new ts =
    ArePlain (exps_of es) → (C : Env Name) (vs : Map (MlType Name)) (around : Window Place Name) (s : State Place Name) → IsAt around old s → Sees C vs old s
    → (t : State Place Name) × Reaches around old (read_exps (run_scope (unit_of old)) C vs (exps_of es)) s new (types_of (parts_of ts)) t × AreIn t ts

pub none-read : (c : Context) → ReadsAll c [] c []
unfolding ReadsAll read_exps
none-read c = λ h C vs around s is sees. (s, given-reaches around c s is no_type, tt)

module _ (old mid last : Context) (es : List (E.Exp Place)) (ts : List (Rc P.MlType Global)) (e : E.Exp Place) (reads : ReadsAll old es mid ts) where
  pub one-more : (t : Rc P.MlType Global) → Reads mid e last (Ok t) → ReadsAll old (es ++ e ∷ []) last (ts ++ t ∷ [])
  unfolding ReadsAll Reads
  one-more t more = λ h C vs around s is sees.
      let unit = unit_of old in
      let m = reads (plain-front es (e ∷ []) h) C vs around s is sees in
      let n = more (plain-at es e [] h) C vs around m.0 m.1.at (sees-after m.1 sees) in
      let second : IsAnswer (run_scope unit) (read_exp (run_scope unit) C vs e) m.0 (accepted (type_of t.value, n.0)) =
      subst (λ u. IsAnswer (run_scope u) (read_exp (run_scope u) C vs e) m.0 (accepted (type_of t.value, n.0))) m.1.unit n.1.answer in (
        n.0,
        record {
          answer = subst (λ z. IsAnswer (run_scope unit) (read_exps (run_scope unit) C vs (exps_of (es ++ e ∷ []))) s (accepted (z, n.0))) (sym (last-part ts t))
              (next-read (run_scope unit) C vs es e s m.0 n.0 (types_of (parts_of ts)) (type_of t.value) m.1.answer second);
          at = n.1.at;
          unit = n.1.unit ∙ m.1.unit;
          seen = keeps-more m.1.seen n.1.seen;
          later = record { made = omega (arith, m.1.later.made, n.1.later.made); names = λ x h. n.1.later.names x (m.1.later.names x h) };
        },
        last-in m.0 n.0 n.1.later ts t m.2 n.2,
      )

  pub one-refused : (rest : List (E.Exp Place)) (p : Place) (f : CoreFault) → Reads mid e last (Err f) → Reads old (E.tuple p (exps_of (es ++ e ∷ rest))) last (Err f)
  unfolding ReadsAll Reads IsPlain read_exp
  one-refused rest p F.Memory more = λ h C vs around s is sees. tt
  one-refused rest p (F.Fault f) more = λ h C vs around s is sees.
      let unit = unit_of old in
      let m = reads (plain-front es (e ∷ rest) h) C vs around s is sees in
      let n = more (plain-at es e rest h) C vs around m.0 m.1.at (sees-after m.1 sees) in
      let second : IsAnswer (run_scope unit) (read_exp (run_scope unit) C vs e) m.0 (refused (fault_of f)) =
      subst (λ u. IsAnswer (run_scope u) (read_exp (run_scope u) C vs e) m.0 (refused (fault_of f))) m.1.unit n in
      first-refused old (read_exps (run_scope unit) C vs (exps_of (es ++ e ∷ rest))) (λ ts. give (tuple_of ts)) s (fault_of f)
      (next-refused (run_scope unit) C vs es e rest s m.0 (types_of (parts_of ts)) (fault_of f) m.1.answer second)

pub tuple-read : (old new : Context) (es : List (E.Exp Place)) (ts : List (Rc P.MlType Global)) (p : Place) (t : Rc P.MlType Global) → ReadsAll old es new ts
    → type_of t.value ≡ tuple_of (types_of (parts_of ts)) → Reads old (E.tuple p (exps_of es)) new (Ok t)
unfolding ReadsAll Reads IsPlain read_exp IsOver Mentions
tuple-read old new es ts p t reads e = λ h C vs around s is sees.
    let m = reads h C vs around s is sees in
    let us = types_of (parts_of ts) in (
      m.0,
      then-reaches around old new (read_exps (run_scope (unit_of old)) C vs (exps_of es)) (λ ts. give (tuple_of ts)) s m.0 us m.1 new (type_of t.value) m.0
          (subst (λ u. Reaches around new (give (tuple_of us)) m.0 new u m.0) (sym e) (given-reaches around new m.0 m.1.at (tuple_of us))),
      subst (IsTypeIn m.0.made m.0.names) (sym e) (parts-over m.0.made m.0.names ts m.2, (tt, parts-mention m.0 ts m.2)),
    )
