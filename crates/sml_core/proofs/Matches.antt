-- The rules of a match, one after the other, and what asks for a match.
use Rattle.std.proofs.Common.{◌≡◌, Vec, arith, Option, Some, None, Result, Ok, Err, subst, sym, refl, ◌∙◌}
use Rattle.std.specs.Global.{Global}
use Rattle.std.specs.declared.rc.Rc.{Rc}
use Rattle.sml_lex.specs.Faults.{fault_of}
use Rattle.sml_lex.specs.declared.fault.Place.{Place}
use Rattle.sml_lex.specs.declared.fault.Warning.{Warning}
use Rattle.sml_tree.specs.Expressions.{Exp, Rules, and_rule, fn, handle, no_rule, rule}
use Rattle.sml_tree.specs.Patterns.{Pat}
use Rattle.sml_objects.specs.Initial as I
use Rattle.sml_objects.specs.Initial.{Name, naming}
use Rattle.sml_objects.specs.Maps.{Map}
use Rattle.sml_objects.specs.Names.{exn}
use Rattle.sml_objects.specs.Objects.{MlType, arrow_of, named}
use Rattle.sml_objects.specs.Views.{type_of}
use Rattle.sml_objects.specs.declared.objects.MlType as P
use Rattle.sml_layers.specs.Demands.{Mentions, AllMention}
use Rattle.sml_graph.specs.Interned.{IsOver, AreOver}
use Rattle.sml_rules.specs.Answers.{Answer, accepted, refused}
use Rattle.sml_core_rules.specs.Objects.{Env}
use Rattle.sml_core_rules.specs.Scopes.{run_scope}
use Rattle.sml_core_rules.specs.Scripts.{IsAnswer, Script, give, new_unknown, ◌>>=◌}
use Rattle.sml_core_rules.specs.States.{Holder, State, Window, of_fn, of_handle, with_judged}
use Rattle.sml_core_rules.specs.Expressions.{exn_type, judge_patterns, like_first, read_exp, read_rules, rule_patterns}
use Rattle.sml_core_rules.specs.Lookups.{status_at}
use Rattle.sml_core_rules.specs.Values.{require_equal}
use Rattle.sml_core_rules.proofs.Accepted.{bind-joined}
use Rattle.sml_core_rules.proofs.Refused.{bind-refused}
use Rattle.sml_types.specs.declared.fault.CoreFault.{CoreFault}
use Rattle.sml_types.specs.declared.fault.CoreFault.TheVariants as F
use Rattle.sml_scopes.specs.Means.{Means}
use Rattle.sml_warnings.specs.Lost.{IsLost, OnFault, StandsInPatterns}
use Rattle.sml_asks.specs.Solvers.{IsTypeIn}
use Rattle.sml_core.specs.declared.context.Context.{Context}
use Rattle.sml_core.specs.Answered.{AnswersAs, ArePlainRules, Equates, IsAt, IsLater, IsPlain, Keeps, MakesUnknown, Reaches, Reads, unit_of}
use Rattle.sml_core.specs.Rules.{Handles, IsFirstIn, LikeFirst, ReadsRule, ReadsRules, handle_so, read_rule}
use Rattle.sml_core.specs.Seen.{Sees}
use Rattle.sml_core.specs.Patterns.{IsMade}
use Rattle.sml_core.proofs.Applying.{arrow-of-parts, given-reaches}
use Rattle.sml_core.proofs.Associating.{rules-split}
use Rattle.sml_core.proofs.Lost.{none-lost}
use Rattle.sml_core.proofs.Sequences.{ends-there, in-unit, keeps-all, keeps-more, later-still, no-later, sees-after, sees-later, then-answers, type-later}

-- a type like that of the first rule

pub like-none : (old : Context) (p : Place) (t : Rc P.MlType Global) → LikeFirst old p None (type_of t.value) old (Ok t)
unfolding LikeFirst
like-none old p t = λ around s is f k. (s, given-reaches around old s is (type_of t.value), k)

pub like-some : (old new : Context) (p : Place) (first : Rc P.MlType Global) (t : MlType Name) → Equates old p (type_of first.value) t new (Ok tt) → LikeFirst old p (Some (type_of first.value)) t new (Ok first)
unfolding LikeFirst Equates
like-some old new p first t equates = λ around s is f k.
    let q = equates around s is f k in
    then-answers (λ (t : Rc P.MlType Global). type_of t.value) (λ t u. IsTypeIn u.made u.names t) (λ u. give (type_of first.value)) new (Ok first) q.1
    (q.0, given-reaches around new q.0 q.1.at (type_of first.value), type-later s q.0 q.1.later (type_of first.value) f)

pub like-unequal : (old new : Context) (p : Place) (first t : MlType Name) (f : CoreFault) → Equates old p first t new (Err f) → LikeFirst old p (Some first) t new (Err f)
unfolding LikeFirst Equates
like-unequal old new p first t F.Memory equates = λ around s is a k. tt
like-unequal old new p first t (F.Fault f) equates = λ around s is a k.
    bind-refused (run_scope (unit_of old)) (require_equal p first t) (λ u. give first) s (fault_of f) (equates around s is a k)

-- rules

-- Some rules were read: what is asked from there on is what all ask.
pub record AreReadAt (around : Window Place Name) (old : Context) (C : Env Name) (vs : Map (MlType Name)) (m : Rules Place) (first : Option (MlType Name)) (rest : Rules Place) (s : State Place Name) (now : Context)
    (u : State Place Name) : Type 0 where
  pub at : IsAt around now u
  pub unit : unit_of now ≡ unit_of old
  pub seen : Keeps old now
  pub later : IsLater s u
  pub first_in : IsFirstIn first u
  pub plain : ArePlainRules rest
  pub goes_on : (o : Answer Place (MlType Name × State Place Name)) → IsAnswer (run_scope (unit_of old)) (read_rules (run_scope (unit_of old)) C vs first rest) u o
      → IsAnswer (run_scope (unit_of old)) (read_rules (run_scope (unit_of old)) C vs None m) s o

unfoldable pub AreRead : Context → Rules Place → Option (MlType Name) → Rules Place → Context → Type 0
AreRead old m first rest now =
    ArePlainRules m → (C : Env Name) (vs : Map (MlType Name)) (around : Window Place Name) (s : State Place Name) → IsAt around old s → Sees C vs old s
    → (u : State Place Name) × AreReadAt around old C vs m first rest s now u

pub none-read : (old : Context) (m : Rules Place) → AreRead old m None m old
unfolding AreRead
none-read old m = λ h C vs around s is sees. (s, record { at = is; unit = refl; seen = keeps-all; later = no-later s; first_in = tt; plain = h; goes_on = λ o a. a })

first-later : (first : Option (MlType Name)) (s t : State Place Name) → IsLater s t → IsFirstIn first s → IsFirstIn first t
first-later None s t l f = tt
first-later (Some u) s t l f = type-later s t l u f

abbrev as-type : Rc P.MlType Global → MlType Name
as-type t = type_of t.value

module _ (old now mid new : Context) (m : Rules Place) (first : Option (MlType Name)) (p : Place) (q : Pat Place) (e : Exp Place) (rest : Rules Place)
    (so : AreRead old m first (and_rule (rule p q e) rest) now) where
  -- what is asked after the type of a rule
  abbrev after : Env Name → Map (MlType Name) → MlType Name → Script Place Name (MlType Name)
  after C vs a = like_first (run_scope (unit_of old)) p first a >>= λ f. read_rules (run_scope (unit_of old)) C vs (Some f) rest

  abbrev this : Env Name → Map (MlType Name) → Script Place Name (MlType Name)
  this C vs = read_rule (run_scope (unit_of old)) C vs (rule p q e)

  together : (C : Env Name) (vs : Map (MlType Name)) (u : State Place Name) (o : Answer Place (MlType Name × State Place Name)) → IsAnswer (run_scope (unit_of old)) (this C vs >>= after C vs) u o
      → IsAnswer (run_scope (unit_of old)) (read_rules (run_scope (unit_of old)) C vs first (and_rule (rule p q e) rest)) u o
  together C vs u o a = subst (λ k. IsAnswer (run_scope (unit_of old)) k u o) (sym (rules-split (run_scope (unit_of old)) C vs first p q e rest)) a

  pub rule-stopped : (f : CoreFault) → ReadsRule now (rule p q e) mid (Err f) → ReadsRules old m mid (Err f)
  unfolding AreRead ReadsRule ReadsRules ArePlainRules
  rule-stopped F.Memory reads = λ h C vs around s is sees. tt
  rule-stopped (F.Fault f) reads = λ h C vs around s is sees.
      let scope = run_scope (unit_of old) in
      let u = so h C vs around s is sees in
      let n = reads u.1.plain.0 C vs around u.0 u.1.at (sees-later u.1.seen u.1.later sees) in
      let here : IsAnswer scope (this C vs) u.0 (refused (fault_of f)) =
      subst (λ k. IsAnswer (run_scope k) (read_rule (run_scope k) C vs (rule p q e)) u.0 (refused (fault_of f))) u.1.unit n in
      u.1.goes_on (refused (fault_of f)) (together C vs u.0 (refused (fault_of f)) (bind-refused scope (this C vs) (after C vs) u.0 (fault_of f) here))

  module _ (a : Rc P.MlType Global) (reads : ReadsRule now (rule p q e) mid (Ok a)) where
    pub like-stopped : (f : CoreFault) → LikeFirst mid p first (type_of a.value) new (Err f) → ReadsRules old m new (Err f)
    unfolding AreRead ReadsRule ReadsRules LikeFirst ArePlainRules
    like-stopped F.Memory like = λ h C vs around s is sees. tt
    like-stopped (F.Fault f) like = λ h C vs around s is sees.
        let scope = run_scope (unit_of old) in
        let u = so h C vs around s is sees in
        let n = reads u.1.plain.0 C vs around u.0 u.1.at (sees-later u.1.seen u.1.later sees) in
        let k = like around n.0 n.1.at (first-later first u.0 n.0 n.1.later u.1.first_in) n.2 in
        let here : IsAnswer scope (this C vs) u.0 (accepted (type_of a.value, n.0)) =
        subst (λ k. IsAnswer (run_scope k) (read_rule (run_scope k) C vs (rule p q e)) u.0 (accepted (type_of a.value, n.0))) u.1.unit n.1.answer in
        let then : IsAnswer scope (like_first scope p first (type_of a.value)) n.0 (refused (fault_of f)) =
        subst (λ k. IsAnswer (run_scope k) (like_first (run_scope k) p first (type_of a.value)) n.0 (refused (fault_of f))) (n.1.unit ∙ u.1.unit) k in
        u.1.goes_on (refused (fault_of f)) (together C vs u.0 (refused (fault_of f))
        (bind-joined scope (this C vs) (after C vs) u.0 (type_of a.value, n.0) (refused (fault_of f)) here
        (bind-refused scope (like_first scope p first (type_of a.value)) (λ f. read_rules scope C vs (Some f) rest) n.0 (fault_of f) then)))

    pub one-rule-more : (f : Rc P.MlType Global) → LikeFirst mid p first (type_of a.value) new (Ok f) → AreRead old m (Some (type_of f.value)) rest new
    unfolding AreRead ReadsRule LikeFirst ArePlainRules
    one-rule-more f like = λ h C vs around s is sees.
        let scope = run_scope (unit_of old) in
        let u = so h C vs around s is sees in
        let n = reads u.1.plain.0 C vs around u.0 u.1.at (sees-later u.1.seen u.1.later sees) in
        let k = like around n.0 n.1.at (first-later first u.0 n.0 n.1.later u.1.first_in) n.2 in
        let here : IsAnswer scope (this C vs) u.0 (accepted (type_of a.value, n.0)) =
        subst (λ k. IsAnswer (run_scope k) (read_rule (run_scope k) C vs (rule p q e)) u.0 (accepted (type_of a.value, n.0))) u.1.unit n.1.answer in
        let then : IsAnswer scope (like_first scope p first (type_of a.value)) n.0 (accepted (type_of f.value, k.0)) =
        subst (λ k2. IsAnswer (run_scope k2) (like_first (run_scope k2) p first (type_of a.value)) n.0 (accepted (type_of f.value, k.0))) (n.1.unit ∙ u.1.unit) k.1.answer in (
          k.0,
          record {
            at = k.1.at;
            unit = k.1.unit ∙ n.1.unit ∙ u.1.unit;
            seen = keeps-more u.1.seen (keeps-more n.1.seen k.1.seen);
            later = later-still u.1.later (later-still n.1.later k.1.later);
            first_in = k.2;
            plain = u.1.plain.1;
            goes_on = λ o b. u.1.goes_on o (together C vs u.0 o (bind-joined scope (this C vs) (after C vs) u.0 (type_of a.value, n.0) o here
                (bind-joined scope (like_first scope p first (type_of a.value)) (λ f. read_rules scope C vs (Some f) rest) n.0 (type_of f.value, k.0) o then b)));
          },
        )

module _ (old now : Context) (m : Rules Place) where
  pub rules-read : (t : Rc P.MlType Global) → AreRead old m (Some (type_of t.value)) no_rule now → ReadsRules old m now (Ok t)
  unfolding AreRead ReadsRules read_rules IsAnswer
  rules-read t so = λ h C vs around s is sees.
      let u = so h C vs around s is sees in (
        u.0,
        record { answer = u.1.goes_on (accepted (type_of t.value, u.0)) refl; at = u.1.at; unit = u.1.unit; seen = u.1.seen; later = u.1.later },
        u.1.first_in,
      )

  pub no-rules-read : (new : Context) (result : Result (Rc P.MlType Global) CoreFault) → AreRead old m None no_rule now → MakesUnknown now new result → ReadsRules old m new result
  unfolding AreRead ReadsRules MakesUnknown read_rules
  no-rules-read new (Err F.Memory) so makes = λ h C vs around s is sees. tt
  no-rules-read new (Err (F.Fault f)) so makes = λ h C vs around s is sees.
      let u = so h C vs around s is sees in
      u.1.goes_on (refused (fault_of f)) (subst (λ k. IsAnswer (run_scope k) new_unknown u.0 (refused (fault_of f))) u.1.unit (makes around u.0 u.1.at))
  no-rules-read new (Ok t) so makes = λ h C vs around s is sees.
      let u = so h C vs around s is sees in
      let n = makes around u.0 u.1.at in (
        n.0,
        record {
          answer = u.1.goes_on (accepted (type_of t.value, n.0)) (subst (λ k. IsAnswer (run_scope k) new_unknown u.0 (accepted (type_of t.value, n.0))) u.1.unit n.1.answer);
          at = n.1.at;
          unit = n.1.unit ∙ u.1.unit;
          seen = keeps-more u.1.seen n.1.seen;
          later = later-still u.1.later n.1.later;
        },
        n.2,
      )

pub rules-memory : (old new : Context) (m : Rules Place) → ReadsRules old m new (Err F.Memory)
unfolding ReadsRules
rules-memory old new m = λ h C vs around s is sees. tt

-- the patterns are judged

module _ (around : Window Place Name) (c : Context) (warnings : Vec Warning Global) (s : State Place Name) (is : IsAt around c s) (h : Holder Place) (C : Env Name) (m : Rules Place) (t : MlType Name) where
  judged-reaches : Reaches around c (judge_patterns (run_scope (unit_of c)) h C (rule_patterns m) >>= λ j. give t) s (record c { warnings = warnings }) t
      (with_judged (record { holder = h; patterns = rule_patterns m; status = status_at C }) s)
  unfolding IsAnswer ◌>>=◌
  judged-reaches = record {
    answer = refl;
    at = record { solver = is.solver; rows = is.rows; overloaded = is.overloaded; quiet = is.quiet };
    unit = refl;
    seen = record { means = λ D k. k; around = λ D n k. k; scoped = λ vs k. k };
    later = record { made = omega arith; names = λ n k. k };
  }

-- what the judge says of a match
abbrev pub Judges : Context → Rules Place → Result (Unit {0}) CoreFault → Type 0
Judges c m result = (C : Env Name) → Means c.scopes C → OnFault result (λ g. StandsInPatterns (IsLost C g) (rule_patterns m))

-- functions

module _ (old mid : Context) (p : Place) (m : Rules Place) where
  pub fn-refused : (f : CoreFault) → ReadsRules old m mid (Err f) → Reads old (fn p m) mid (Err f)
  unfolding ReadsRules Reads IsPlain read_exp
  fn-refused f reads = λ h C vs around s is sees.
      ends-there as-type IsMade as-type IsMade around old mid (read_rules (run_scope (unit_of old)) C vs None m) (λ t. judge_patterns (run_scope (unit_of old)) (of_fn p) C (rule_patterns m) >>= λ j. give t) s f
      (reads h C vs around s is sees)

  module _ (t : Rc P.MlType Global) (reads : ReadsRules old m mid (Ok t)) where
    pub fn-read : (warnings : Vec Warning Global) → Reads old (fn p m) (record mid { warnings = warnings }) (Ok t)
    unfolding ReadsRules Reads IsPlain read_exp
    fn-read warnings = λ h C vs around s is sees.
        let n = reads h C vs around s is sees in
        let so = of_fn p in
        then-answers as-type IsMade (λ t. judge_patterns (run_scope (unit_of old)) so C (rule_patterns m) >>= λ j. give t) (record mid { warnings = warnings }) (Ok t) n.1
        (with_judged (record { holder = so; patterns = rule_patterns m; status = status_at C }) n.0, judged-reaches around mid warnings n.0 n.1.at so C m (type_of t.value), n.2)

    pub fn-unjudged : (new : Context) (f : CoreFault) → Judges mid m (Err f) → Reads old (fn p m) new (Err f)
    unfolding ReadsRules Reads IsPlain
    fn-unjudged new F.Memory judges = λ h C vs around s is sees. tt
    fn-unjudged new (F.Fault g) judges = λ h C vs around s is sees.
        let n = reads h C vs around s is sees in
        absurd (none-lost (run_scope (unit_of old)) C vs None m s (type_of t.value, n.0) n.1.answer g (judges C (n.1.seen.means C sees.means)))

-- `handle`

module _ (old mid : Context) (p : Place) (t h : MlType Name) (m : Rules Place) (wanted : P.MlType) (is_wanted : type_of wanted ≡ arrow_of (named (I.initial exn)) t) where
  wanted-in : (around : Window Place Name) (s : State Place Name) → IsAt around old s → IsTypeIn s.made s.names t → IsTypeIn s.made s.names (type_of wanted)
  unfolding IsOver AreOver Mentions AllMention
  wanted-in around s is k = subst (IsTypeIn s.made s.names) (sym is_wanted) (arrow-of-parts s.made (λ n. _) (named (I.initial exn)) t (tt, (is.solver.known.initials exn, tt)) k)

  -- what is asked first
  asked : (result : Result (Unit {0}) CoreFault) → Equates old p h (type_of wanted) mid result
      → (around : Window Place Name) (s : State Place Name) → IsAt around old s → IsTypeIn s.made s.names t → IsTypeIn s.made s.names h
      → AnswersAs (λ u. u) (λ u t. Unit {0}) around old (require_equal p h (arrow_of (exn_type (run_scope (unit_of old))) t)) s mid result
  unfolding Equates naming
  asked result equates = λ around s is k l.
      subst (λ w. AnswersAs (λ u. u) (λ u t. Unit {0}) around old (require_equal p h w) s mid result) is_wanted (equates around s is l (wanted-in around s is k))

  pub handler-unequal : (f : CoreFault) → Equates old p h (type_of wanted) mid (Err f) → Handles old p t h m mid (Err f)
  unfolding Handles
  handler-unequal f equates = λ C vs around s is sees k l none.
      ends-there as-type IsMade (λ u. u) (λ u t. Unit {0}) around old mid (require_equal p h (arrow_of (exn_type (run_scope (unit_of old))) t))
      (λ u. judge_patterns (run_scope (unit_of old)) (of_handle p) C (rule_patterns m) >>= λ j. give t) s f (asked (Err f) equates around s is k l)

  module _ (equates : Equates old p h (type_of wanted) mid (Ok tt)) where
    pub handled-so : (warnings : Vec Warning Global) (result : Rc P.MlType Global) → type_of result.value ≡ t → Handles old p t h m (record mid { warnings = warnings }) (Ok result)
    unfolding Handles
    handled-so warnings result e = λ C vs around s is sees k l none.
        let n = asked (Ok tt) equates around s is k l in
        let so = of_handle p in
        let last = record mid { warnings = warnings } in
        then-answers as-type IsMade (λ u. judge_patterns (run_scope (unit_of old)) so C (rule_patterns m) >>= λ j. give t) last (Ok result) n.1 (
          with_judged (record { holder = so; patterns = rule_patterns m; status = status_at C }) n.0,
          subst (λ w. Reaches around mid (judge_patterns (run_scope (unit_of mid)) so C (rule_patterns m) >>= λ j. give t) n.0 last w
              (with_judged (record { holder = so; patterns = rule_patterns m; status = status_at C }) n.0)) (sym e) (judged-reaches around mid warnings n.0 n.1.at so C m t),
          subst (IsTypeIn n.0.made n.0.names) (sym e) (type-later s n.0 n.1.later t k),
        )

    pub handler-unjudged : (new : Context) (f : CoreFault) → Judges mid m (Err f) → Handles old p t h m new (Err f)
    unfolding Handles
    handler-unjudged new F.Memory judges = λ C vs around s is sees k l none. tt
    handler-unjudged new (F.Fault g) judges = λ C vs around s is sees k l none.
        let n = asked (Ok tt) equates around s is k l in
        absurd (none g (judges C (n.1.seen.means C sees.means)))

pub handles-memory : (old new : Context) (p : Place) (t h : MlType Name) (m : Rules Place) → Handles old p t h m new (Err F.Memory)
unfolding Handles
handles-memory old new p t h m = λ C vs around s is sees k l none. tt

module _ (old mid last : Context) (p : Place) (e : Exp Place) (m : Rules Place) where
  abbrev handler : Env Name → Map (MlType Name) → MlType Name → Script Place Name (MlType Name)
  handler C vs t = read_rules (run_scope (unit_of old)) C vs None m >>= λ h. handle_so (run_scope (unit_of old)) p C t h m

  pub handle-refused : (f : CoreFault) → Reads old e mid (Err f) → Reads old (handle p e m) mid (Err f)
  unfolding Reads IsPlain read_exp
  handle-refused f reads = λ h C vs around s is sees.
      ends-there as-type IsMade as-type IsMade around old mid (read_exp (run_scope (unit_of old)) C vs e) (handler C vs) s f (reads h.0 C vs around s is sees)

  module _ (t : Rc P.MlType Global) (reads : Reads old e mid (Ok t)) where
    pub handler-refused : (f : CoreFault) → ReadsRules mid m last (Err f) → Reads old (handle p e m) last (Err f)
    unfolding Reads ReadsRules IsPlain read_exp
    handler-refused f rules = λ h C vs around s is sees.
        let n = reads h.0 C vs around s is sees in
        then-answers as-type IsMade (handler C vs) last (Err f) n.1
        (ends-there as-type IsMade as-type IsMade around mid last (read_rules (run_scope (unit_of old)) C vs None m) (λ g. handle_so (run_scope (unit_of old)) p C (type_of t.value) g m) n.0 f
        (in-unit as-type IsMade around old mid last (λ u. read_rules (run_scope u) C vs None m) n.0 (Err f) n.1.unit (rules h.1 C vs around n.0 n.1.at (sees-after n.1 sees))))

    pub handle-read : (g : Rc P.MlType Global) (new : Context) (result : Result (Rc P.MlType Global) CoreFault) → ReadsRules mid m last (Ok g)
        → Handles last p (type_of t.value) (type_of g.value) m new result → Reads old (handle p e m) new result
    unfolding Reads ReadsRules IsPlain read_exp Handles
    handle-read g new result rules handles = λ h C vs around s is sees.
        let n = reads h.0 C vs around s is sees in
        let k = rules h.1 C vs around n.0 n.1.at (sees-after n.1 sees) in
        let scope = run_scope (unit_of old) in
        let r : Reaches around mid (read_rules scope C vs None m) n.0 last (type_of g.value) k.0 =
        subst (λ u. Reaches around mid (read_rules (run_scope u) C vs None m) n.0 last (type_of g.value) k.0) n.1.unit k.1 in
        let lost = none-lost scope C vs None m n.0 (type_of g.value, k.0) (subst (λ u. IsAnswer (run_scope u) (read_rules scope C vs None m) n.0 (accepted (type_of g.value, k.0))) n.1.unit r.answer) in
        let a = handles C vs around k.0 k.1.at (sees-after k.1 (sees-after n.1 sees)) (type-later n.0 k.0 k.1.later (type_of t.value) n.2) k.2 lost in
        then-answers as-type IsMade (handler C vs) new result n.1
        (then-answers as-type IsMade (λ g. handle_so scope p C (type_of t.value) g m) new result r
        (in-unit as-type IsMade around old last new (λ u. handle_so (run_scope u) p C (type_of t.value) (type_of g.value) m) k.0 result (k.1.unit ∙ n.1.unit) a))
