-- The bindings of a value declaration before `rec`.
use Rattle.std.proofs.Common.{◌≡◌, ◌-◌, ℕ, ◌≤◌, Bool, false, List, [], ◌∷◌, ◌++◌, length, length-append, take, drop, hash_map_len, Vec, vec_len, arith, Result, Ok, Err, ap, subst, sym, refl, ◌∙◌}
use Rattle.std.proofs.lemmas.List.{append-nil, length-map, length-replicate, take_all}
use Rattle.std.proofs.Math.Seq.{drop-append_seam}
use Rattle.std.specs.Prelude.{replicate}
use Rattle.std.specs.Global.{Global}
use Rattle.std.specs.declared.rc.Rc.{Rc}
use Rattle.sml_lex.specs.Faults.{Fault, fault_of}
use Rattle.sml_lex.specs.declared.fault.Place.{Place}
use Rattle.sml_lex.specs.declared.fault.Warning.{Warning}
use Rattle.sml_tree.specs.Expressions.{Exp, ValBind, ValBinds, bind, no_bind, and_bind}
use Rattle.sml_tree.specs.Patterns.{Pat}
use Rattle.sml_tree.specs.ExpressionViews.{bind_of, exp_of}
use Rattle.sml_tree.specs.PatternViews.{pat_of}
use Rattle.sml_tree.specs.declared.expressions.ValBind as V
use Rattle.sml_tree.specs.declared.expressions.ValBind.{out-ValBind}
use Rattle.sml_tree.specs.Views.{ident_of}
use Rattle.sml_objects.specs.Initial.{Name}
use Rattle.sml_objects.specs.Maps.{Map}
use Rattle.sml_objects.specs.Objects.{MlType}
use Rattle.sml_objects.specs.Views.{type_of}
use Rattle.sml_objects.specs.declared.objects.MlType as P
use Rattle.sml_rules.specs.Answers.{Answer, accepted, refused}
use Rattle.sml_core_rules.specs.Objects.{Env}
use Rattle.sml_core_rules.specs.Lookups.{status_at}
use Rattle.sml_core_rules.specs.Scopes.{run_scope}
use Rattle.sml_core_rules.specs.Scripts.{IsAnswer, Script, give, ◌>>=◌}
use Rattle.sml_core_rules.specs.States.{Holder, Scope, State, Window, of_val, with_judged}
use Rattle.sml_core_rules.specs.Closing.{is_expansive}
use Rattle.sml_core_rules.specs.Patterns.{Bindings, Typed, pattern_place, read_pat, typed}
use Rattle.sml_core_rules.specs.Expressions.{Bound, after, bounds, judge_patterns, read_binds, read_exp}
use Rattle.sml_core_rules.specs.Values.{require_equal}
use Rattle.sml_core_rules.proofs.Accepted.{bind-joined}
use Rattle.sml_core_rules.proofs.Refused.{bind-refused}
use Rattle.sml_types.specs.declared.fault.CoreFault.{CoreFault}
use Rattle.sml_types.specs.declared.fault.CoreFault.TheVariants as F
use Rattle.sml_scopes.specs.Means.{Means}
use Rattle.sml_warnings.specs.Lost.{IsLost, OnFault, StandsIn}
use Rattle.sml_asks.specs.Solvers.{IsTypeIn}
use Rattle.sml_core.specs.declared.context.Context.{Context}
use Rattle.sml_core.specs.declared.patterns.Variables.{Variables}
use Rattle.sml_core.specs.declared.values.Declaration.{Declaration}
use Rattle.sml_core.specs.Answered.{Equates, IsAt, IsLater, Keeps, Reaches, Reads, unit_of}
use Rattle.sml_core.specs.Seen.{Sees}
use Rattle.sml_core.specs.Patterns.{AreBoundIn, ReadsPattern, bindings_of}
use Rattle.sml_core.specs.Binds.{ArePlainBinds, IsFlagged, JoinsBind, ReadsBinds, bound_of, bounds_of, bounds_with, join_bind, with_flag}
use Rattle.sml_core.proofs.Longer.{IsLonger, pat-longer}
use Rattle.sml_core.proofs.Sequences.{ends-there, keeps-all, keeps-more, later-still, no-later, sees-after, sees-later, then-answers, type-later}
use Rattle.sml_core.proofs.Binding.{bound-later}
use Rattle.sml_core.proofs.Views.{bind_of-parts}
use Rattle.sml_core.proofs.Lost.{pat-none-lost}

-- flags

module _ (vars : Variables) (flags : Vec Bool Global) (n : ℕ) (count : n ≡ hash_map_len vars.types) where
  counted : length (bindings_of vars) ≡ n
  counted = length-map vars.types.entries (λ e. (ident_of e.0, type_of e.1.value)) ∙ sym count

  -- where each variable has one, none is added
  pub flags-stay : (x : Bool) → n ≤ vec_len flags → flags.items ≡ with_flag x (bindings_of vars) flags.items
  flags-stay x le =
      let none : length (bindings_of vars) - length flags.items ≡ 0 = omega (arith, counted, flags.ok.0) in
      sym (ap (λ k. flags.items ++ replicate k x) none ∙ append-nil flags.items)

  pub flags-grow : (x y : Bool) → x ≡ y → vec_len flags ≤ n → take n flags.items ++ replicate (n - vec_len flags) x ≡ with_flag y (bindings_of vars) flags.items
  flags-grow x y e le =
      let all : take n flags.items ≡ flags.items = take_all n flags.items (omega (arith, flags.ok.0)) in
      λ i. all i ++ replicate (sym counted i - flags.ok.0 i) (e i)

-- the types of a binding are joined

module _ (around : Window Place Name) (c : Context) (warnings : Vec Warning Global) (s : State Place Name) (is : IsAt around c s) (h : Holder Place) (C : Env Name) (qs : List (Place × Pat Place)) where
  judged-reaches : Reaches around c (judge_patterns (run_scope (unit_of c)) h C qs >>= λ j. give (tt {0})) s (record c { warnings = warnings }) (tt {0})
      (with_judged (record { holder = h; patterns = qs; status = status_at C }) s)
  unfolding IsAnswer ◌>>=◌
  judged-reaches = record {
    answer = refl;
    at = record { solver = is.solver; rows = is.rows; overloaded = is.overloaded; quiet = is.quiet };
    unit = refl;
    seen = record { means = λ D k. k; around = λ D n k. k; scoped = λ vs k. k };
    later = record { made = omega arith; names = λ n k. k };
  }

-- what the judge says of a binding
abbrev pub JudgesBind : Context → Pat Place → Result (Unit {0}) CoreFault → Type 0
JudgesBind c q result = (C : Env Name) → Means c.scopes C → OnFault result (λ g. StandsIn (IsLost C g) q)

module _ (old mid : Context) (d after : Declaration) (q : Pat Place) (e : Exp Place) (t a : MlType Name) where
  -- what is asked after the types
  abbrev judged : Env Name → Unit {0} → Script Place Name (Unit {0})
  judged C u = judge_patterns (run_scope (unit_of old)) (of_val (pattern_place q)) C ((pattern_place q, q) ∷ []) >>= λ j. give tt

  abbrev AreFlagged : Env Name → Type 0
  AreFlagged C = after.expansive.items ≡ with_flag (is_expansive C e) (bindings_of d.variables) d.expansive.items

  pub bind-unequal : (f : CoreFault) → Equates old (pattern_place q) t a mid (Err f) → JoinsBind old d (bind q e) t a mid after (Err f)
  unfolding JoinsBind Equates
  bind-unequal f equates = λ C vs around s is sees k l none.
      ends-there (λ u. u) (λ u t. AreFlagged C) (λ u. u) (λ u t. Unit {0}) around old mid (require_equal (pattern_place q) t a) (judged C) s f (equates around s is k l)

  pub bind-judged : (warnings : Vec Warning Global) (result : Result (Unit {0}) CoreFault) → Equates old (pattern_place q) t a mid (Ok tt) → JudgesBind mid q result
      → ((C : Env Name) → Means mid.scopes C → AreFlagged C) → JoinsBind old d (bind q e) t a (record mid { warnings = warnings }) after result
  unfolding JoinsBind Equates
  bind-judged warnings (Err F.Memory) equates judges flags = λ C vs around s is sees k l none. tt
  bind-judged warnings (Err (F.Fault g)) equates judges flags = λ C vs around s is sees k l none.
      let n = equates around s is k l in
      absurd (none g (judges C (n.1.seen.means C sees.means)))
  bind-judged warnings (Ok x) equates judges flags = λ C vs around s is sees k l none.
      let n = equates around s is k l in
      let so = of_val (pattern_place q) in
      let qs = (pattern_place q, q) ∷ [] in
      then-answers (λ u. u) (λ u t. AreFlagged C) (judged C) (record mid { warnings = warnings }) (Ok x) n.1
      (with_judged (record { holder = so; patterns = qs; status = status_at C }) n.0, judged-reaches around mid warnings n.0 n.1.at so C qs, flags C (n.1.seen.means C sees.means))

pub bind-memory : (old new : Context) (d after : Declaration) (b : ValBind Place) (t a : MlType Name) → JoinsBind old d b t a new after (Err F.Memory)
unfolding JoinsBind
bind-memory old new d after b t a = λ C vs around s is sees k l none. tt

-- a binding by its parts, with types as they are kept
pub bind-in-parts : (old : Context) (d : Declaration) (b : V.ValBind) (t a : Rc P.MlType Global) (u w : P.MlType) → u ≡ t.value → w ≡ a.value → (new : Context) (after : Declaration) (result : Result (Unit {0}) CoreFault)
    → JoinsBind old d (bind_of b) (type_of u) (type_of w) new after result → JoinsBind old d (bind (pat_of (out-ValBind b).pat) (exp_of (out-ValBind b).exp)) (type_of t.value) (type_of a.value) new after result
bind-in-parts old d b t a u w e g new after result joins =
    subst (λ (z : ValBind Place × P.MlType × P.MlType). JoinsBind old d z.0 (type_of z.1) (type_of z.2) new after result) (λ i. (bind_of-parts b i, e i, g i)) joins

-- scripts of bindings

module _ (scope : Scope Name) (C : Env Name) (vs : Map (MlType Name)) (seen : Bindings Name) (done : List (Bound Name)) (q : Pat Place) (e : Exp Place) (rest : ValBinds Place) (s : State Place Name) where
  -- what is asked after the types
  abbrev others : Bindings Name → Script Place Name (Bindings Name × List (Bound Name))
  others bs = read_binds scope C vs bs (done ++ bounds (is_expansive C e) (after seen bs)) rest

  abbrev after-right : Typed Name (MlType Name) → MlType Name → Script Place Name (Bindings Name × List (Bound Name))
  after-right r a = join_bind scope C (bind q e) r.type a >>= λ u. others r.bound

  abbrev after-pattern : Typed Name (MlType Name) → Script Place Name (Bindings Name × List (Bound Name))
  after-pattern r = read_exp scope C vs e >>= after-right r

  abbrev Answered : Answer Place ((Bindings Name × List (Bound Name)) × State Place Name) → Type 0
  Answered o = IsAnswer scope (read_binds scope C vs seen done (and_bind (bind q e) rest)) s o

  in-parts : (o : Answer Place ((Bindings Name × List (Bound Name)) × State Place Name)) → IsAnswer scope (read_pat scope false C vs seen q >>= after-pattern) s o → Answered o
  unfolding read_binds ◌>>=◌
  in-parts o a = a

  pattern-stops : (f : Fault Place) → IsAnswer scope (read_pat scope false C vs seen q) s (refused f) → Answered (refused f)
  pattern-stops f h = in-parts (refused f) (bind-refused scope (read_pat scope false C vs seen q) after-pattern s f h)

  module _ (r : Typed Name (MlType Name) × State Place Name) (first : IsAnswer scope (read_pat scope false C vs seen q) s (accepted r)) where
    then-pattern : (o : Answer Place ((Bindings Name × List (Bound Name)) × State Place Name)) → IsAnswer scope (after-pattern r.0) r.1 o → Answered o
    then-pattern o a = in-parts o (bind-joined scope (read_pat scope false C vs seen q) after-pattern s r o first a)

    right-stops : (f : Fault Place) → IsAnswer scope (read_exp scope C vs e) r.1 (refused f) → Answered (refused f)
    right-stops f h = then-pattern (refused f) (bind-refused scope (read_exp scope C vs e) (after-right r.0) r.1 f h)

    module _ (a : MlType Name × State Place Name) (second : IsAnswer scope (read_exp scope C vs e) r.1 (accepted a)) where
      then-right : (o : Answer Place ((Bindings Name × List (Bound Name)) × State Place Name)) → IsAnswer scope (after-right r.0 a.0) a.1 o → Answered o
      then-right o h = then-pattern o (bind-joined scope (read_exp scope C vs e) (after-right r.0) r.1 a o second h)

      join-stops : (f : Fault Place) → IsAnswer scope (join_bind scope C (bind q e) r.0.type a.0) a.1 (refused f) → Answered (refused f)
      join-stops f h = then-right (refused f) (bind-refused scope (join_bind scope C (bind q e) r.0.type a.0) (λ u. others r.0.bound) a.1 f h)

      others-follow : (j : State Place Name) → IsAnswer scope (join_bind scope C (bind q e) r.0.type a.0) a.1 (accepted (tt, j))
          → (o : Answer Place ((Bindings Name × List (Bound Name)) × State Place Name)) → IsAnswer scope (others r.0.bound) j o → Answered o
      others-follow j third o h = then-right o (bind-joined scope (join_bind scope C (bind q e) r.0.type a.0) (λ u. others r.0.bound) a.1 (tt, j) o third h)

-- the variables of one more binding

all-flagged : (x : Bool) (bs : Bindings Name) → bounds_with bs (replicate (length bs) x) ≡ bounds x bs
all-flagged x [] = refl
all-flagged x (b ∷ bs) = ap (λ cs. record { id = b.0; type = b.1; expansive = x } ∷ cs) (all-flagged x bs)

flagged-also : (x : Bool) (bs new : Bindings Name) (xs : List Bool) → length xs ≡ length bs → bounds_with (bs ++ new) (xs ++ replicate (length new) x) ≡ bounds_with bs xs ++ bounds x new
flagged-also x [] new [] e = all-flagged x new
flagged-also x [] new (y ∷ ys) e = absurd (omega (arith, e))
flagged-also x (b ∷ bs) new [] e = absurd (omega (arith, e))
flagged-also x (b ∷ bs) new (y ∷ ys) e = ap (λ cs. record { id = b.0; type = b.1; expansive = y } ∷ cs) (flagged-also x bs new ys (omega (arith, e)))

module _ (x : Bool) (bs cs : Bindings Name) (xs : List Bool) (e : length xs ≡ length bs) (longer : IsLonger bs cs) where
  how-many : length cs - length xs ≡ length longer.0
  how-many = let n = ap length longer.1 in let k = length-append bs longer.0 in omega (arith, n, k, e)

  bounds-more : bounds_with cs (with_flag x cs xs) ≡ bounds_with bs xs ++ bounds x (after bs cs)
  bounds-more =
      let new : after bs cs ≡ longer.0 = ap (λ ds. drop (length bs) ds) longer.1 ∙ drop-append_seam bs longer.0 in
      (λ i. bounds_with (longer.1 i) (xs ++ replicate (how-many i) x)) ∙ flagged-also x bs longer.0 xs e ∙ ap (λ ds. bounds_with bs xs ++ bounds x ds) (sym new)

  flags-more : length (with_flag x cs xs) ≡ length cs
  flags-more =
      let n = ap length longer.1 in
      let k = length-append bs longer.0 in
      let l = length-append xs (replicate (length cs - length xs) x) in
      let m = length-replicate (length cs - length xs) x in
      omega (arith, n, k, l, m, e)

-- bindings one after the other

-- a declaration but for its variables and flags
pub same-but-bound : (d done after : Declaration) (vars : Variables) → done ≡ record d { variables = done.variables; expansive = done.expansive }
    → after ≡ record done { variables = vars; expansive = after.expansive } → after ≡ record d { variables = after.variables; expansive = after.expansive }
same-but-bound d done after vars e g =
    let v : vars ≡ after.variables = sym (ap (λ (x : Declaration). x.variables) g) in g ∙ (λ i. record (e i) { variables = v i; expansive = after.expansive })

-- Some bindings were read: what is asked from there on is what all ask.
pub record AreBindsReadAt (around : Window Place Name) (old : Context) (d : Declaration) (C : Env Name) (vs : Map (MlType Name)) (all rest : ValBinds Place) (s : State Place Name) (now : Context) (done : Declaration)
    (u : State Place Name) : Type 0 where
  pub at : IsAt around now u
  pub unit : unit_of now ≡ unit_of old
  pub seen : Keeps old now
  pub later : IsLater s u
  pub kind : done.variables.is_recursive ≡ false
  pub bound : AreBoundIn u (bindings_of done.variables)
  pub flagged : IsFlagged done
  pub plain : ArePlainBinds rest
  pub goes_on : (o : Answer Place ((Bindings Name × List (Bound Name)) × State Place Name))
      → IsAnswer (run_scope (unit_of old)) (read_binds (run_scope (unit_of old)) C vs (bindings_of done.variables) (bounds_of done) rest) u o
      → IsAnswer (run_scope (unit_of old)) (read_binds (run_scope (unit_of old)) C vs (bindings_of d.variables) (bounds_of d) all) s o

unfoldable pub AreBindsRead : Context → Declaration → ValBinds Place → ValBinds Place → Context → Declaration → Type 0
AreBindsRead old d all rest now done =
    ArePlainBinds all → d.variables.is_recursive ≡ false → IsFlagged d → (C : Env Name) (vs : Map (MlType Name)) (around : Window Place Name) (s : State Place Name) → IsAt around old s
    → Sees C vs old s → AreBoundIn s (bindings_of d.variables) → (u : State Place Name) × AreBindsReadAt around old d C vs all rest s now done u

pub no-bind-read : (old : Context) (d : Declaration) (all : ValBinds Place) → AreBindsRead old d all all old d
unfolding AreBindsRead
no-bind-read old d all = λ h kind flagged C vs around s is sees bound.
    (s, record { at = is; unit = refl; seen = keeps-all; later = no-later s; kind = kind; bound = bound; flagged = flagged; plain = h; goes_on = λ o a. a })

pub binds-read : (old now : Context) (d done : Declaration) (all : ValBinds Place) → AreBindsRead old d all no_bind now done → ReadsBinds old d all now done (Ok tt)
unfolding AreBindsRead ReadsBinds read_binds IsAnswer
binds-read old now d done all so = λ h kind flagged C vs around s is sees bound.
    let u = so h kind flagged C vs around s is sees bound in
    (u.0, record { answer = u.1.goes_on (accepted (bound_of done, u.0)) refl; at = u.1.at; unit = u.1.unit; seen = u.1.seen; later = u.1.later }, (u.1.bound, u.1.flagged))

module _ (old now mid : Context) (d done : Declaration) (vars : Variables) (all : ValBinds Place) (q : Pat Place) (e : Exp Place) (rest : ValBinds Place)
    (so : AreBindsRead old d all (and_bind (bind q e) rest) now done) where
  -- what the pattern is asked, in the unit that the bindings began with
  abbrev pattern : ℕ × Bool → Env Name → Map (MlType Name) → State Place Name → Answer Place (Typed Name (MlType Name) × State Place Name) → Type 0
  pattern z C vs u o = IsAnswer (run_scope z.0) (read_pat (run_scope z.0) z.1 C vs (bindings_of done.variables) q) u o

  pub pattern-stopped : (new : Context) (after : Declaration) (f : CoreFault) → ReadsPattern now done.variables q mid vars (Err f) → ReadsBinds old d all new after (Err f)
  unfolding AreBindsRead ReadsBinds ReadsPattern
  pattern-stopped new after F.Memory reads = λ h kind flagged C vs around s is sees bound. tt
  pattern-stopped new after (F.Fault f) reads = λ h kind flagged C vs around s is sees bound.
      let scope = run_scope (unit_of old) in
      let u = so h kind flagged C vs around s is sees bound in
      let n = reads C vs around u.0 u.1.at (sees-later u.1.seen u.1.later sees) u.1.bound in
      let first : pattern (unit_of old, false) C vs u.0 (refused (fault_of f)) = subst (λ z. pattern z C vs u.0 (refused (fault_of f))) (λ i. (u.1.unit i, u.1.kind i)) n in
      u.1.goes_on (refused (fault_of f)) (pattern-stops scope C vs (bindings_of done.variables) (bounds_of done) q e rest u.0 (fault_of f) first)

  -- The pattern of the next binding was read, in a state after those before it.
  record IsOpened (around : Window Place Name) (C : Env Name) (vs : Map (MlType Name)) (s : State Place Name) (t : MlType Name) (u m : State Place Name) : Type 0 where
    before : AreBindsReadAt around old d C vs all (and_bind (bind q e) rest) s now done u
    first : pattern (unit_of old, false) C vs u (accepted (typed t (bindings_of vars), m))
    at : IsAt around mid m
    unit : unit_of mid ≡ unit_of old
    seen : Keeps old mid
    later : IsLater s m
    sees : Sees C vs mid m
    type : IsTypeIn m.made m.names t
    bound : AreBoundIn m (bindings_of vars)

  module _ (t : Rc P.MlType Global) (reads : ReadsPattern now done.variables q mid vars (Ok t)) where
    opened : ArePlainBinds all → d.variables.is_recursive ≡ false → IsFlagged d → (C : Env Name) (vs : Map (MlType Name)) (around : Window Place Name) (s : State Place Name) → IsAt around old s
        → Sees C vs old s → AreBoundIn s (bindings_of d.variables) → (u : State Place Name) × ((m : State Place Name) × IsOpened around C vs s (type_of t.value) u m)
    unfolding AreBindsRead ReadsPattern
    opened h kind flagged C vs around s is sees bound =
        let u = so h kind flagged C vs around s is sees bound in
        let here = sees-later u.1.seen u.1.later sees in
        let n = reads C vs around u.0 u.1.at here u.1.bound in
        let o = accepted (typed (type_of t.value) (bindings_of vars), n.0) in
        let first : pattern (unit_of old, false) C vs u.0 o = subst (λ z. pattern z C vs u.0 o) (λ i. (u.1.unit i, u.1.kind i)) n.1.answer in (
          u.0,
          (
            n.0,
            record {
              before = u.1;
              first = first;
              at = n.1.at;
              unit = n.1.unit ∙ u.1.unit;
              seen = keeps-more u.1.seen n.1.seen;
              later = later-still u.1.later n.1.later;
              sees = sees-after n.1 here;
              type = n.2.0;
              bound = n.2.1;
            },
          ),
        )

    pub right-stopped : (last : Context) (after : Declaration) (f : CoreFault) → Reads mid e last (Err f) → ReadsBinds old d all last after (Err f)
    unfolding ReadsBinds Reads
    right-stopped last after F.Memory right = λ h kind flagged C vs around s is sees bound. tt
    right-stopped last after (F.Fault f) right = λ h kind flagged C vs around s is sees bound.
        let scope = run_scope (unit_of old) in
        let o = opened h kind flagged C vs around s is sees bound in
        let u = o.0 in
        let m = o.1.0 in
        let p = o.1.1 in
        let k = right p.before.plain.0 C vs around m p.at p.sees in
        let second : IsAnswer scope (read_exp scope C vs e) m (refused (fault_of f)) = subst (λ k. IsAnswer (run_scope k) (read_exp (run_scope k) C vs e) m (refused (fault_of f))) p.unit k in
        p.before.goes_on (refused (fault_of f))
        (right-stops scope C vs (bindings_of done.variables) (bounds_of done) q e rest u (typed (type_of t.value) (bindings_of vars), m) p.first (fault_of f) second)

    module _ (last : Context) (a : Rc P.MlType Global) (right : Reads mid e last (Ok a)) (new : Context) (after : Declaration) where
      pub join-stopped : (f : CoreFault) → JoinsBind last (record done { variables = vars }) (bind q e) (type_of t.value) (type_of a.value) new after (Err f) → ReadsBinds old d all new after (Err f)
      unfolding ReadsBinds Reads JoinsBind
      join-stopped F.Memory joins = λ h kind flagged C vs around s is sees bound. tt
      join-stopped (F.Fault f) joins = λ h kind flagged C vs around s is sees bound.
          let scope = run_scope (unit_of old) in
          let o = opened h kind flagged C vs around s is sees bound in
          let u = o.0 in
          let m = o.1.0 in
          let p = o.1.1 in
          let seen = bindings_of done.variables in
          let r : Typed Name (MlType Name) × State Place Name = (typed (type_of t.value) (bindings_of vars), m) in
          let k = right p.before.plain.0 C vs around m p.at p.sees in
          let same = k.1.unit ∙ p.unit in
          let second : IsAnswer scope (read_exp scope C vs e) m (accepted (type_of a.value, k.0)) =
          subst (λ k2. IsAnswer (run_scope k2) (read_exp (run_scope k2) C vs e) m (accepted (type_of a.value, k.0))) p.unit k.1.answer in
          let j = joins C vs around k.0 k.1.at (sees-after k.1 p.sees) (type-later m k.0 k.1.later (type_of t.value) p.type) k.2 (λ g l. pat-none-lost scope C false vs g q seen u r p.first l) in
          let third : IsAnswer scope (join_bind scope C (bind q e) (type_of t.value) (type_of a.value)) k.0 (refused (fault_of f)) =
          subst (λ k2. IsAnswer (run_scope k2) (join_bind (run_scope k2) C (bind q e) (type_of t.value) (type_of a.value)) k.0 (refused (fault_of f))) same j in
          p.before.goes_on (refused (fault_of f)) (join-stops scope C vs seen (bounds_of done) q e rest u r p.first (type_of a.value, k.0) second (fault_of f) third)

      pub one-bind-more : JoinsBind last (record done { variables = vars }) (bind q e) (type_of t.value) (type_of a.value) new after (Ok tt) → after.variables ≡ vars
          → vars.is_recursive ≡ done.variables.is_recursive → AreBindsRead old d all rest new after
      unfolding AreBindsRead Reads JoinsBind
      one-bind-more joins same_variables same_kind = λ h kind flagged C vs around s is sees bound.
          let scope = run_scope (unit_of old) in
          let o = opened h kind flagged C vs around s is sees bound in
          let u = o.0 in
          let m = o.1.0 in
          let p = o.1.1 in
          let seen = bindings_of done.variables in
          let r : Typed Name (MlType Name) × State Place Name = (typed (type_of t.value) (bindings_of vars), m) in
          let k = right p.before.plain.0 C vs around m p.at p.sees in
          let same = k.1.unit ∙ p.unit in
          let second : IsAnswer scope (read_exp scope C vs e) m (accepted (type_of a.value, k.0)) =
          subst (λ k2. IsAnswer (run_scope k2) (read_exp (run_scope k2) C vs e) m (accepted (type_of a.value, k.0))) p.unit k.1.answer in
          let j = joins C vs around k.0 k.1.at (sees-after k.1 p.sees) (type-later m k.0 k.1.later (type_of t.value) p.type) k.2 (λ g l. pat-none-lost scope C false vs g q seen u r p.first l) in
          let third : IsAnswer scope (join_bind scope C (bind q e) (type_of t.value) (type_of a.value)) k.0 (accepted (tt, j.0)) =
          subst (λ k2. IsAnswer (run_scope k2) (join_bind (run_scope k2) C (bind q e) (type_of t.value) (type_of a.value)) k.0 (accepted (tt, j.0))) same j.1.answer in
          let longer = pat-longer scope false C vs q seen u r p.first in
          let x = is_expansive C e in
          let xs = done.expansive.items in
          let bindings : bindings_of after.variables ≡ bindings_of vars = ap bindings_of same_variables in
          let bounds_after : bounds_of after ≡ bounds_of done ++ bounds x (drop (length seen) (bindings_of vars)) =
          (λ i. bounds_with (bindings i) (j.2 i)) ∙ bounds-more x seen (bindings_of vars) xs p.before.flagged longer in (
            j.0,
            record {
              at = j.1.at;
              unit = j.1.unit ∙ same;
              seen = keeps-more p.seen (keeps-more k.1.seen j.1.seen);
              later = later-still p.later (later-still k.1.later j.1.later);
              kind = ap (λ (v : Variables). v.is_recursive) same_variables ∙ same_kind ∙ p.before.kind;
              bound = subst (AreBoundIn j.0) (sym bindings) (bound-later m j.0 (later-still k.1.later j.1.later) (bindings_of vars) p.bound);
              flagged = ap length j.2 ∙ flags-more x seen (bindings_of vars) xs p.before.flagged longer ∙ sym (ap length bindings);
              plain = p.before.plain.1;
              goes_on = λ o b. p.before.goes_on o (others-follow scope C vs seen (bounds_of done) q e rest u r p.first (type_of a.value, k.0) second j.0 third o
                  (subst (λ (z : Bindings Name × List (Bound Name)). IsAnswer scope (read_binds scope C vs z.0 z.1 rest) j.0 o) (λ i. (bindings i, bounds_after i)) b));
            },
          )
