-- Patterns and fields of patterns that are read one after the other, with the variables that they bind.
use Rattle.std.proofs.Common.{◌≡◌, ℕ, Bool, Ok, Err, List, [], ◌∷◌, ◌++◌, Vec, ap, refl, subst, sym, ◌∙◌}
use Rattle.std.specs.Global.{Global}
use Rattle.std.specs.declared.rc.Rc.{Rc}
use Rattle.sml_lex.specs.Faults.{Fault, fault_of}
use Rattle.sml_lex.specs.declared.fault.Place.{Place}
use Rattle.sml_tree.specs.Names.{Name as Named}
use Rattle.sml_tree.specs.Patterns as T
use Rattle.sml_tree.specs.Patterns.{Pat, PatField, pat_field}
use Rattle.sml_tree.specs.PatternViews.{pats_of, pat_fields_of}
use Rattle.sml_objects.specs.Initial.{Name}
use Rattle.sml_objects.specs.Maps.{Map}
use Rattle.sml_objects.specs.Objects.{MlType, MlTypes, no_type, and_type, types_of}
use Rattle.sml_objects.specs.Views.{type_of}
use Rattle.sml_objects.specs.declared.objects.MlType as P
use Rattle.sml_objects.proofs.TypeViews.{parts_of}
use Rattle.sml_layers.specs.Demands.{AllMention}
use Rattle.sml_graph.specs.Interned.{AreOver}
use Rattle.sml_rules.specs.Answers.{accepted, refused}
use Rattle.sml_rules.proofs.Sound.{accepted_same}
use Rattle.sml_core_rules.specs.Objects.{Env}
use Rattle.sml_core_rules.specs.Scopes.{run_scope}
use Rattle.sml_core_rules.specs.Scripts.{IsAnswer, Script, give, ◌>>=◌}
use Rattle.sml_core_rules.specs.States.{Scope, State}
use Rattle.sml_core_rules.specs.Types.{put_field}
use Rattle.sml_core_rules.specs.Patterns.{Bindings, Typed, read_pat, read_pats, read_pat_fields, typed}
use Rattle.sml_core_rules.proofs.Accepted.{bind-accepted, bind-joined}
use Rattle.sml_core_rules.proofs.Refused.{bind-refused}
use Rattle.sml_types.specs.declared.fault.CoreFault.{CoreFault}
use Rattle.sml_types.specs.declared.fault.CoreFault.TheVariants as F
use Rattle.sml_asks.specs.Solvers.{IsTypeIn}
use Rattle.sml_core.specs.declared.context.Context.{Context}
use Rattle.sml_core.specs.declared.patterns.Variables.{Variables}
use Rattle.sml_core.specs.Answered.{IsLater, Reaches, Row, unit_of}
use Rattle.sml_core.specs.Patterns.{AreMade, ReadsPattern, ReadsPatterns, ReadsPatternFields, bindings_of}
use Rattle.sml_core.proofs.Applying.{given-reaches}
use Rattle.sml_core.proofs.Rows.{fields-later, put-in}
use Rattle.sml_core.proofs.Sequences.{keeps-more, later-still, sees-after, type-later}
use Rattle.sml_core.proofs.Tuples.{last-part, with_last}

-- what patterns one after the other are answered

module _ (scope : Scope Name) (is_rec : Bool) (C : Env Name) (vs : Map (MlType Name)) where
  -- a pattern, and those after it
  abbrev Both : Pat Place → T.Pats Place → Bindings Name → State Place Name → Typed Name (MlTypes Name) × State Place Name → Type 0
  Both q qs bs s r =
      (one : Typed Name (MlType Name) × State Place Name) × (others : Typed Name (MlTypes Name) × State Place Name) × IsAnswer scope (read_pat scope is_rec C vs bs q) s (accepted one)
      × IsAnswer scope (read_pats scope is_rec C vs one.0.bound qs) one.1 (accepted others) × (r ≡ (typed (and_type one.0.type others.0.type) others.0.bound, others.1))

  both-read : (q : Pat Place) (qs : T.Pats Place) (bs : Bindings Name) (s : State Place Name) (r : Typed Name (MlTypes Name) × State Place Name)
      → IsAnswer scope (read_pats scope is_rec C vs bs (T.and_pat q qs)) s (accepted r) → Both q qs bs s r
  unfolding read_pats IsAnswer
  both-read q qs bs s r h = go (bind-accepted scope (read_pat scope is_rec C vs bs q) (λ o. read_pats scope is_rec C vs o.bound qs >>= together o) s r h)
    where
      together : Typed Name (MlType Name) → Typed Name (MlTypes Name) → Script Place Name (Typed Name (MlTypes Name))
      together o rs = give (typed (and_type o.type rs.type) rs.bound)

      same : (one : Typed Name (MlType Name) × State Place Name) → IsAnswer scope (read_pat scope is_rec C vs bs q) s (accepted one)
          → (others : Typed Name (MlTypes Name) × State Place Name) × IsAnswer scope (read_pats scope is_rec C vs one.0.bound qs) one.1 (accepted others) × IsAnswer scope (together one.0 others.0) others.1 (accepted r)
          → Both q qs bs s r
      same one first (others, more, is) = (one, others, first, more, accepted_same is)

      go : (one : Typed Name (MlType Name) × State Place Name) × IsAnswer scope (read_pat scope is_rec C vs bs q) s (accepted one)
          × IsAnswer scope (read_pats scope is_rec C vs one.0.bound qs >>= together one.0) one.1 (accepted r) → Both q qs bs s r
      go (one, first, rest) = same one first (bind-accepted scope (read_pats scope is_rec C vs one.0.bound qs) (together one.0) one.1 r rest)

  joined-read : (q : Pat Place) (qs : T.Pats Place) (bs : Bindings Name) (s : State Place Name) (one : Typed Name (MlType Name) × State Place Name) (others : Typed Name (MlTypes Name) × State Place Name)
      → IsAnswer scope (read_pat scope is_rec C vs bs q) s (accepted one) → IsAnswer scope (read_pats scope is_rec C vs one.0.bound qs) one.1 (accepted others)
      → IsAnswer scope (read_pats scope is_rec C vs bs (T.and_pat q qs)) s (accepted (typed (and_type one.0.type others.0.type) others.0.bound, others.1))
  unfolding read_pats IsAnswer
  joined-read q qs bs s one others first more =
      let then = λ (rs : Typed Name (MlTypes Name)). give (typed (and_type one.0.type rs.type) rs.bound) in
      let all = accepted (typed (and_type one.0.type others.0.type) others.0.bound, others.1) in
      bind-joined scope (read_pat scope is_rec C vs bs q) (λ o. read_pats scope is_rec C vs o.bound qs >>= λ rs. give (typed (and_type o.type rs.type) rs.bound)) s one all first
      (bind-joined scope (read_pats scope is_rec C vs one.0.bound qs) then one.1 others all more refl)

  next-read : (xs : List (Pat Place)) (q : Pat Place) (bs : Bindings Name) (s u : State Place Name) (r : Typed Name (MlTypes Name) × State Place Name) (t : Typed Name (MlType Name))
      → IsAnswer scope (read_pats scope is_rec C vs bs (pats_of xs)) s (accepted r) → IsAnswer scope (read_pat scope is_rec C vs r.0.bound q) r.1 (accepted (t, u))
      → IsAnswer scope (read_pats scope is_rec C vs bs (pats_of (xs ++ q ∷ []))) s (accepted (typed (with_last r.0.type t.type) t.bound, u))
  unfolding read_pats IsAnswer
  next-read [] q bs s u r t h k =
      let e : r ≡ (typed no_type bs, s) = accepted_same h in
      subst (λ (z : Typed Name (MlTypes Name) × State Place Name). IsAnswer scope (read_pats scope is_rec C vs bs (pats_of (q ∷ []))) s (accepted (typed (with_last z.0.type t.type) t.bound, u))) (sym e)
      (joined-read q T.no_pat bs s (t, u) (typed no_type t.bound, u) (subst (λ (z : Typed Name (MlTypes Name) × State Place Name). IsAnswer scope (read_pat scope is_rec C vs z.0.bound q) z.1 (accepted (t, u))) e k)
      refl)
  next-read (x ∷ xs) q bs s u r t h k = go (both-read x (pats_of xs) bs s r h) (λ m o v a b. next-read xs q m o u v t a b) k
    where
      go : (both : Both x (pats_of xs) bs s r)
          → ((cs : Bindings Name) (m : State Place Name) (v : Typed Name (MlTypes Name) × State Place Name) → IsAnswer scope (read_pats scope is_rec C vs cs (pats_of xs)) m (accepted v)
          → IsAnswer scope (read_pat scope is_rec C vs v.0.bound q) v.1 (accepted (t, u))
          → IsAnswer scope (read_pats scope is_rec C vs cs (pats_of (xs ++ q ∷ []))) m (accepted (typed (with_last v.0.type t.type) t.bound, u)))
          → IsAnswer scope (read_pat scope is_rec C vs r.0.bound q) r.1 (accepted (t, u))
          → IsAnswer scope (read_pats scope is_rec C vs bs (pats_of (x ∷ xs ++ q ∷ []))) s (accepted (typed (with_last r.0.type t.type) t.bound, u))
      go (one, others, first, more, e) then k =
          subst (λ (z : Typed Name (MlTypes Name) × State Place Name). IsAnswer scope (read_pats scope is_rec C vs bs (pats_of (x ∷ xs ++ q ∷ []))) s (accepted (typed (with_last z.0.type t.type) t.bound, u)))
          (sym e)
          (joined-read x (pats_of (xs ++ q ∷ [])) bs s one (typed (with_last others.0.type t.type) t.bound, u) first
          (then one.0.bound one.1 others more (subst (λ (z : Typed Name (MlTypes Name) × State Place Name). IsAnswer scope (read_pat scope is_rec C vs z.0.bound q) z.1 (accepted (t, u))) e k)))

  first-stops : (q : Pat Place) (qs : T.Pats Place) (bs : Bindings Name) (s : State Place Name) (f : Fault Place) → IsAnswer scope (read_pat scope is_rec C vs bs q) s (refused f)
      → IsAnswer scope (read_pats scope is_rec C vs bs (T.and_pat q qs)) s (refused f)
  unfolding read_pats
  first-stops q qs bs s f h =
      bind-refused scope (read_pat scope is_rec C vs bs q) (λ o. read_pats scope is_rec C vs o.bound qs >>= λ rs. give (typed (and_type o.type rs.type) rs.bound)) s f h

  next-refused : (xs : List (Pat Place)) (q : Pat Place) (rest : List (Pat Place)) (bs : Bindings Name) (s : State Place Name) (r : Typed Name (MlTypes Name) × State Place Name) (f : Fault Place)
      → IsAnswer scope (read_pats scope is_rec C vs bs (pats_of xs)) s (accepted r) → IsAnswer scope (read_pat scope is_rec C vs r.0.bound q) r.1 (refused f)
      → IsAnswer scope (read_pats scope is_rec C vs bs (pats_of (xs ++ q ∷ rest))) s (refused f)
  unfolding read_pats IsAnswer
  next-refused [] q rest bs s r f h k =
      let e : r ≡ (typed no_type bs, s) = accepted_same h in
      first-stops q (pats_of rest) bs s f (subst (λ (z : Typed Name (MlTypes Name) × State Place Name). IsAnswer scope (read_pat scope is_rec C vs z.0.bound q) z.1 (refused f)) e k)
  next-refused (x ∷ xs) q rest bs s r f h k = go (both-read x (pats_of xs) bs s r h) (λ cs m v a b. next-refused xs q rest cs m v f a b) k
    where
      go : (both : Both x (pats_of xs) bs s r)
          → ((cs : Bindings Name) (m : State Place Name) (v : Typed Name (MlTypes Name) × State Place Name) → IsAnswer scope (read_pats scope is_rec C vs cs (pats_of xs)) m (accepted v)
          → IsAnswer scope (read_pat scope is_rec C vs v.0.bound q) v.1 (refused f) → IsAnswer scope (read_pats scope is_rec C vs cs (pats_of (xs ++ q ∷ rest))) m (refused f))
          → IsAnswer scope (read_pat scope is_rec C vs r.0.bound q) r.1 (refused f) → IsAnswer scope (read_pats scope is_rec C vs bs (pats_of (x ∷ xs ++ q ∷ rest))) s (refused f)
      go (one, others, first, more, e) then k =
          bind-joined scope (read_pat scope is_rec C vs bs x) (λ o. read_pats scope is_rec C vs o.bound (pats_of (xs ++ q ∷ rest)) >>= λ rs. give (typed (and_type o.type rs.type) rs.bound)) s one
          (refused f) first
          (bind-refused scope (read_pats scope is_rec C vs one.0.bound (pats_of (xs ++ q ∷ rest))) (λ rs. give (typed (and_type one.0.type rs.type) rs.bound)) one.1 f
          (then one.0.bound one.1 others more (subst (λ (z : Typed Name (MlTypes Name) × State Place Name). IsAnswer scope (read_pat scope is_rec C vs z.0.bound q) z.1 (refused f)) e k)))

  -- what fields one after the other are answered

  next-field : (xs : List (PatField Place)) (l : Named Place) (q : Pat Place) (bs : Bindings Name) (before : Row) (s u : State Place Name) (r : Typed Name Row × State Place Name)
      (t : Typed Name (MlType Name)) → IsAnswer scope (read_pat_fields scope is_rec C vs bs before (pat_fields_of xs)) s (accepted r)
      → IsAnswer scope (read_pat scope is_rec C vs r.0.bound q) r.1 (accepted (t, u))
      → IsAnswer scope (read_pat_fields scope is_rec C vs bs before (pat_fields_of (xs ++ pat_field l q ∷ []))) s (accepted (typed (put_field l.id t.type r.0.type) t.bound, u))
  unfolding read_pat_fields IsAnswer
  next-field [] l q bs before s u r t h k =
      let e : r ≡ (typed before bs, s) = accepted_same h in
      subst (λ (z : Typed Name Row × State Place Name). IsAnswer scope (read_pat_fields scope is_rec C vs bs before (pat_fields_of (pat_field l q ∷ []))) s
      (accepted (typed (put_field l.id t.type z.0.type) t.bound, u))) (sym e)
      (bind-joined scope (read_pat scope is_rec C vs bs q) (λ o. read_pat_fields scope is_rec C vs o.bound (put_field l.id o.type before) T.no_pat_field) s (t, u)
      (accepted (typed (put_field l.id t.type before) t.bound, u)) (subst (λ (z : Typed Name Row × State Place Name). IsAnswer scope (read_pat scope is_rec C vs z.0.bound q) z.1 (accepted (t, u))) e k) refl)
  next-field (pat_field n x ∷ xs) l q bs before s u r t h k =
      let then = λ (fs : List (PatField Place)) (o : Typed Name (MlType Name)). read_pat_fields scope is_rec C vs o.bound (put_field n.id o.type before) (pat_fields_of fs) in
      let a = bind-accepted scope (read_pat scope is_rec C vs bs x) (then xs) s r h in
      bind-joined scope (read_pat scope is_rec C vs bs x) (then (xs ++ pat_field l q ∷ [])) s a.0 (accepted (typed (put_field l.id t.type r.0.type) t.bound, u)) a.1
      (next-field xs l q a.0.0.bound (put_field n.id a.0.0.type before) a.0.1 u r t a.2 k)

  field-refused : (xs : List (PatField Place)) (l : Named Place) (q : Pat Place) (rest : List (PatField Place)) (bs : Bindings Name) (before : Row) (s : State Place Name)
      (r : Typed Name Row × State Place Name) (f : Fault Place) → IsAnswer scope (read_pat_fields scope is_rec C vs bs before (pat_fields_of xs)) s (accepted r)
      → IsAnswer scope (read_pat scope is_rec C vs r.0.bound q) r.1 (refused f)
      → IsAnswer scope (read_pat_fields scope is_rec C vs bs before (pat_fields_of (xs ++ pat_field l q ∷ rest))) s (refused f)
  unfolding read_pat_fields IsAnswer
  field-refused [] l q rest bs before s r f h k =
      let e : r ≡ (typed before bs, s) = accepted_same h in
      bind-refused scope (read_pat scope is_rec C vs bs q) (λ o. read_pat_fields scope is_rec C vs o.bound (put_field l.id o.type before) (pat_fields_of rest)) s f
      (subst (λ (z : Typed Name Row × State Place Name). IsAnswer scope (read_pat scope is_rec C vs z.0.bound q) z.1 (refused f)) e k)
  field-refused (pat_field n x ∷ xs) l q rest bs before s r f h k =
      let then = λ (fs : List (PatField Place)) (o : Typed Name (MlType Name)). read_pat_fields scope is_rec C vs o.bound (put_field n.id o.type before) (pat_fields_of fs) in
      let a = bind-accepted scope (read_pat scope is_rec C vs bs x) (then xs) s r h in
      bind-joined scope (read_pat scope is_rec C vs bs x) (then (xs ++ pat_field l q ∷ rest)) s a.0 (refused f) a.1
      (field-refused xs l q rest a.0.0.bound (put_field n.id a.0.0.type before) a.0.1 r f a.2 k)

-- what speaks of what was made speaks of what was made later

last-made : (s t : State Place Name) → IsLater s t → (ts : MlTypes Name) (u : MlType Name) → AreMade ts s → IsTypeIn t.made t.names u → AreMade (with_last ts u) t
unfolding AreOver AllMention
last-made s t l no_type u a k = ((k.0, tt), (k.1, tt))
last-made s t l (and_type x xs) u a k =
    let here = type-later s t l x (a.0.0, a.1.0) in
    let rest = last-made s t l xs u (a.0.1, a.1.1) k in
    ((here.0, rest.0), (here.1, rest.1))

-- calls that read patterns

pub no-pattern-read : (c : Context) (vars : Variables) (ts : Vec (Rc P.MlType Global) Global) → ts.items ≡ [] → ReadsPatterns c vars T.no_pat c vars (Ok ts)
unfolding ReadsPatterns read_pats AreOver AllMention
no-pattern-read c vars ts e = λ C vs around s is sees bound. (
  s,
  subst (λ us. Reaches around c (give (typed no_type (bindings_of vars))) s c (typed (types_of (parts_of us)) (bindings_of vars)) s) (sym e) (given-reaches around c s is (typed no_type (bindings_of vars))),
  (subst (λ us. AreMade (types_of (parts_of us)) s) (sym e) (tt, tt), bound),
)

module _ (old mid last : Context) (vars between after : Variables) (kind : between.is_recursive ≡ vars.is_recursive) where
  abbrev Reading : ℕ → Bool → Env Name → Map (MlType Name) → Pat Place → Script Place Name (Typed Name (MlType Name))
  Reading unit is_rec C vs q = read_pat (run_scope unit) is_rec C vs (bindings_of between) q

  -- what a pattern is answered in the scope of the unit that a list of patterns began with
  second-read : (C : Env Name) (vs : Map (MlType Name)) (q : Pat Place) (m : State Place Name) (o : _) → unit_of mid ≡ unit_of old → IsAnswer (run_scope (unit_of mid)) (Reading (unit_of mid) between.is_recursive C vs q) m o
      → IsAnswer (run_scope (unit_of old)) (Reading (unit_of old) vars.is_recursive C vs q) m o
  second-read C vs q m o same a =
      subst (λ (z : ℕ × Bool). IsAnswer (run_scope z.0) (Reading z.0 z.1 C vs q) m o) (λ i. (same i, kind i)) a

  module _ (qs : List (Pat Place)) (q : Pat Place) (ts : Vec (Rc P.MlType Global) Global) (reads : ReadsPatterns old vars (pats_of qs) mid between (Ok ts)) where
    pub one-pattern-more : (t : Rc P.MlType Global) (us : Vec (Rc P.MlType Global) Global) → us.items ≡ ts.items ++ t ∷ [] → ReadsPattern mid between q last after (Ok t)
        → ReadsPatterns old vars (pats_of (qs ++ q ∷ [])) last after (Ok us)
    unfolding ReadsPatterns ReadsPattern
    one-pattern-more t us pushed more = λ C vs around s is sees bound.
        let scope = run_scope (unit_of old) in
        let m = reads C vs around s is sees bound in
        let n = more C vs around m.0 m.1.at (sees-after m.1 sees) m.2.1 in
        let made = types_of (parts_of ts.items) in
        let grown : types_of (parts_of us.items) ≡ with_last made (type_of t.value) = ap (λ xs. types_of (parts_of xs)) pushed ∙ last-part ts.items t in
        let second = second-read C vs q m.0 (accepted (typed (type_of t.value) (bindings_of after), n.0)) m.1.unit n.1.answer in (
          n.0,
          record {
            answer = subst (λ z. IsAnswer scope (read_pats scope vars.is_recursive C vs (bindings_of vars) (pats_of (qs ++ q ∷ []))) s (accepted (typed z (bindings_of after), n.0))) (sym grown)
                (next-read scope vars.is_recursive C vs qs q (bindings_of vars) s n.0 (typed made (bindings_of between), m.0) (typed (type_of t.value) (bindings_of after)) m.1.answer second);
            at = n.1.at;
            unit = n.1.unit ∙ m.1.unit;
            seen = keeps-more m.1.seen n.1.seen;
            later = later-still m.1.later n.1.later;
          },
          (subst (λ z. AreMade z n.0) (sym grown) (last-made m.0 n.0 n.1.later made (type_of t.value) m.2.0 n.2.0), n.2.1),
        )

    pub one-pattern-refused : (rest : List (Pat Place)) (f : CoreFault) → ReadsPattern mid between q last after (Err f) → ReadsPatterns old vars (pats_of (qs ++ q ∷ rest)) last after (Err f)
    unfolding ReadsPatterns ReadsPattern
    one-pattern-refused rest F.Memory more = λ C vs around s is sees bound. tt
    one-pattern-refused rest (F.Fault f) more = λ C vs around s is sees bound.
        let m = reads C vs around s is sees bound in
        let n = more C vs around m.0 m.1.at (sees-after m.1 sees) m.2.1 in
        next-refused (run_scope (unit_of old)) vars.is_recursive C vs qs q rest (bindings_of vars) s (typed (types_of (parts_of ts.items)) (bindings_of between), m.0) (fault_of f) m.1.answer
        (second-read C vs q m.0 (refused (fault_of f)) m.1.unit n)

  module _ (fs : List (PatField Place)) (l : Named Place) (q : Pat Place) (r : Row) (reads : ReadsPatternFields (λ (r : Row). r) old vars (pat_fields_of fs) mid between (Ok r)) where
    pub one-field-more : (t : Rc P.MlType Global) → ReadsPattern mid between q last after (Ok t)
        → ReadsPatternFields (λ (r : Row). r) old vars (pat_fields_of (fs ++ pat_field l q ∷ [])) last after (Ok (put_field l.id (type_of t.value) r))
    unfolding ReadsPatternFields ReadsPattern
    one-field-more t more = λ C vs around s is sees bound.
        let m = reads C vs around s is sees bound in
        let n = more C vs around m.0 m.1.at (sees-after m.1 sees) m.2.1 in
        let second = second-read C vs q m.0 (accepted (typed (type_of t.value) (bindings_of after), n.0)) m.1.unit n.1.answer in (
          n.0,
          record {
            answer = next-field (run_scope (unit_of old)) vars.is_recursive C vs fs l q (bindings_of vars) [] s n.0 (typed r (bindings_of between), m.0) (typed (type_of t.value) (bindings_of after)) m.1.answer second;
            at = n.1.at;
            unit = n.1.unit ∙ m.1.unit;
            seen = keeps-more m.1.seen n.1.seen;
            later = later-still m.1.later n.1.later;
          },
          (put-in n.0 l.id (type_of t.value) r (fields-later m.0 n.0 n.1.later r m.2.0) n.2.0, n.2.1),
        )

    pub one-field-refused : {Y : Type 0} (view : Y → Row) (rest : List (PatField Place)) (f : CoreFault) → ReadsPattern mid between q last after (Err f)
        → ReadsPatternFields view old vars (pat_fields_of (fs ++ pat_field l q ∷ rest)) last after (Err f)
    unfolding ReadsPatternFields ReadsPattern
    one-field-refused view rest F.Memory more = λ C vs around s is sees bound. tt
    one-field-refused view rest (F.Fault f) more = λ C vs around s is sees bound.
        let m = reads C vs around s is sees bound in
        let n = more C vs around m.0 m.1.at (sees-after m.1 sees) m.2.1 in
        field-refused (run_scope (unit_of old)) vars.is_recursive C vs fs l q rest (bindings_of vars) [] s (typed r (bindings_of between), m.0) (fault_of f) m.1.answer
        (second-read C vs q m.0 (refused (fault_of f)) m.1.unit n)

-- calls that read fields

pub no-field-read : (c : Context) (vars : Variables) → ReadsPatternFields (λ (r : Row). r) c vars T.no_pat_field c vars (Ok [])
unfolding ReadsPatternFields read_pat_fields
no-field-read c vars = λ C vs around s is sees bound. (s, given-reaches around c s is (typed [] (bindings_of vars)), (tt, bound))

-- the same fields, seen in a map
pub fields-seen : {Y : Type 0} (view : Y → Row) (old new : Context) (vars after : Variables) (fs : T.PatFields Place) (y : Y) → ReadsPatternFields (λ (r : Row). r) old vars fs new after (Ok (view y))
    → ReadsPatternFields view old vars fs new after (Ok y)
unfolding ReadsPatternFields
fields-seen view old new vars after fs y reads = reads

-- want of memory

pub patterns-memory : (old new : Context) (vars after : Variables) (qs : T.Pats Place) → ReadsPatterns old vars qs new after (Err F.Memory)
unfolding ReadsPatterns
patterns-memory old new vars after qs = λ C vs around s is sees bound. tt

pub fields-memory : {Y : Type 0} (view : Y → Row) (old new : Context) (vars after : Variables) (fs : T.PatFields Place) → ReadsPatternFields view old vars fs new after (Err F.Memory)
unfolding ReadsPatternFields
fields-memory view old new vars after fs = λ C vs around s is sees bound. tt
