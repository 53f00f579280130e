-- Expressions and declarations are read to what was made.
use Rattle.std.specs.Prelude.{Bool, ℕ, ◌++◌, true, false, List, [], ◌∷◌, map, Option, Some, None, ◌≡◌}
use Rattle.std.specs.List.{AllByRecursion}
use Rattle.sml_tree.specs.Withtype.{dat_replaced}
use Rattle.sml_tree.specs.Expressions.{Exp, Exps, Fields, Rules, Dec, Decs, ValBinds, constant, name, row, tuple, let_in, bracket, apply, typed, handle, raise, fn, no_exp, and_exp, field, no_field, and_field, rule, no_rule, and_rule, val_dec, type_dec, datatype_dec, datatype_with, datatype_copy, exception_dec, local_dec, sequence_dec, open_dec, fixity_dec, no_dec, and_dec, bind, no_bind, and_bind}
use Rattle.sml_objects.specs.Maps.{Map}
use Rattle.sml_objects.specs.Names.{exn}
use Rattle.sml_objects.specs.Objects.{MlType, arrow_of, Head}
use Rattle.sml_core_rules.specs.Closing.{is_expansive, unguarded}
use Rattle.sml_core_rules.specs.Expressions as E
use Rattle.sml_core_rules.specs.Expressions.{Begun, bound_values, bounds, after, exn_type, like_first, or_unknown, read_exp, read_exps, read_fields, read_rules, read_decs, read_dec, read_binds, read_patterns, read_rights}
use Rattle.sml_core_rules.specs.Objects.{Env, empty, extend, of_values}
use Rattle.sml_core_rules.specs.Patterns.{Bindings}
use Rattle.sml_core_rules.specs.States.{Scope, State}
use Rattle.sml_core_rules.specs.Types as T
use Rattle.sml_core_rules.specs.Types.{put_field}
use Rattle.sml_core_rules.proofs.Derived.{needed}
use Rattle.std.specs.List.Sorted.{IsStrictlySortedBy}
use Rattle.std.proofs.lemmas.Bool.{false≢true}
use Rattle.sml_core_laws.proofs.MadeShapes.{Rise, put-rises, row-speaks}
use Rattle.sml_core_laws.specs.Made.{Speaks, IsTyStrIn, IsGrown, IsHeadIn}
use Rattle.sml_core_laws.proofs.MadeTypes.{all-more, all-join, each-field}
use Rattle.sml_core_laws.proofs.MadeEnvs.{extend-in, empty-in, values-in, type-found}
use Rattle.sml_core_laws.proofs.MadeScripts.{TypeAt, TypesAt, EnvAt, Done, Leads, onwards, type-up, types-up, env-up, first, gives, knows, looks, tests, makes-one, requires, equals, judges, sees, NoneAt, NoTypesAt, none-up, no-types-up, none-env, weakens}
use Rattle.sml_core_laws.proofs.MadePatterns.{AllAt, values-up, constant-in, instance-leads, applied-leads, value-leads, constraint-leads, pat-leads}
use Rattle.sml_core_laws.proofs.MadeBindings.{types-lead, datatypes-lead, exceptions-lead, opened-leads, copied-leads}
use Rattle.sml_core_laws.proofs.MadeValues.{BoundsAt, bounds-up, bounds-at, after-at, bound-at, begun-up, bindings-lead, begins, value-ends}

module _ {P N : Type 0} (S : Head N → ℕ → Type 0) where
  abbrev FirstAt : Option (MlType N) → State P N → Type 0
  FirstAt None s = Unit {0}
  FirstAt (Some t) s = TypeAt S t s

  abbrev ListAt : List (MlType N) → State P N → Type 0
  ListAt ts s = AllByRecursion (λ t. TypeAt S t s) ts

  first-up : {s t : State P N} → IsGrown s t → (f : Option (MlType N)) → FirstAt f s → FirstAt f t
  first-up g None h = tt
  first-up g (Some t) h = type-up S g t h

  list-up : {s t : State P N} → IsGrown s t → (ts : List (MlType N)) → ListAt ts s → ListAt ts t
  list-up {s} {t} g ts h = all-more (λ u. TypeAt S u s) (λ u. TypeAt S u t) (λ u k. type-up S g u k) ts h

  -- an environment with what patterns bind
  bound-env : (s : State P N) (C : Env N) (bs : Bindings N) → EnvAt S C s → TypesAt S bs s → EnvAt S (extend C (of_values (bound_values bs))) s
  bound-env s C bs c h = extend-in S s.made s.names C (of_values (bound_values bs)) c (values-in S s.made s.names (bound_values bs) (bound-at S s bs h))

  abbrev RisingAt : T.Fields (MlType N) → State P N → Type 0
  RisingAt fs s = TypesAt S fs s × Rise fs

  -- where this is asked and the state isn't open, no unknown stands in an environment, or in types
  abbrev ClosedAt : Bool → Env N → State P N → Type 0
  ClosedAt asked E s = asked ≡ true → s.is_open ≡ false → NoneAt S E s

  abbrev NoneOpenAt : Bool → Map (MlType N) → State P N → Type 0
  NoneOpenAt asked ts s = asked ≡ true → s.is_open ≡ false → NoTypesAt S ts s

  abbrev pub DecAt : Bool → Env N → State P N → Type 0
  DecAt asked E s = EnvAt S E s × ClosedAt asked E s

  closed-up : {s t : State P N} → IsGrown s t → (asked : Bool) (E : Env N) → ClosedAt asked E s → ClosedAt asked E t
  closed-up g asked E h = λ a o. none-up S g E (h a (g.stays_open o))

  none-open-up : {s t : State P N} → IsGrown s t → (asked : Bool) (ts : Map (MlType N)) → NoneOpenAt asked ts s → NoneOpenAt asked ts t
  none-open-up g asked ts h = λ a o. no-types-up S g ts (h a (g.stays_open o))

  closed-extend : (asked : Bool) (s : State P N) (E F : Env N) → ClosedAt asked E s → ClosedAt asked F s → ClosedAt asked (extend E F) s
  closed-extend asked s E F h k = λ a o. extend-in S 0 s.names E F (h a o) (k a o)

  none-dec : (asked : Bool) (s : State P N) (E : Env N) → NoneAt S E s → DecAt asked E s
  none-dec asked s E h = (none-env S s E h, (λ a o. h))

module _ {P N : Type 0} {S : Head N → ℕ → Type 0} {scope : Scope N} where
  like-first-leads : {s : State P N} (p : P) (f : Option (MlType N)) (t : MlType N) → FirstAt S f s → TypeAt S t s → Leads S scope s (like_first scope p f t) (TypeAt S)
  like-first-leads p None t h k = gives (λ w. k)
  like-first-leads p (Some f) t h k = first (equals h k) (λ u s g d. gives (λ w. type-up S g f h))

  or-unknown-leads : {s : State P N} (f : Option (MlType N)) → FirstAt S f s → Leads S scope s (or_unknown scope f) (TypeAt S)
  or-unknown-leads None h = makes-one
  or-unknown-leads (Some t) h = gives (λ w. h)

  mutual
    unfolding read_exp Speaks IsStrictlySortedBy

    exp-leads : (C : Env N) (vs : Map (MlType N)) (e : Exp P) {s : State P N} → EnvAt S C s → TypesAt S vs s → Leads S scope s (read_exp scope C vs e) (TypeAt S)
    exp-leads C vs (constant p x) {s} c h = gives (λ w. constant-in scope.names S w.shape s.made s.names w.well.initials x.kind)
    exp-leads C vs (name p x) c h = first (value-leads C x c) (λ v s g q. instance-leads p v q)
    exp-leads C vs (row p fs) c h = first (fields-lead C vs [] fs c h (tt, tt)) (λ r s g q. gives (λ w. row-speaks _ _ (IsHeadIn S s.names) r (λ ls r. (tt, w.shape.rows ls r)) q.0 q.1))
    exp-leads C vs (tuple p es) c h = first (exps-lead C vs es c h) (λ ts s g q. gives (λ w. ((tt, w.shape.tuples ts), q)))
    exp-leads C vs (let_in p ds e) c h =
        first sees (λ x s g q.
        first (decs-lead C vs empty ds false (env-up S g C c) (types-up S g vs h) (empty-in S s.made s.names) (λ a. absurd (false≢true a)) (λ a. absurd (false≢true a)) (λ a. absurd (false≢true a))) (λ E t g' f.
        let k = onwards g g' in
        first (exp-leads (extend C E) vs e (extend-in S t.made t.names C E (env-up S k C c) f.0) (types-up S k vs h)) (λ t u i a.
        first (requires a) (λ x z j d. gives (λ w. type-up S j t a)))))
    exp-leads C vs (bracket p e) c h = exp-leads C vs e c h
    exp-leads C vs (apply p f e) c h =
        first (exp-leads C vs f c h) (λ t s g a.
        first (exp-leads C vs e (env-up S g C c) (types-up S g vs h)) (λ b s' g' d. applied-leads p t b (type-up S g' t a) d))
    exp-leads C vs (typed p e ty) c h =
        first (exp-leads C vs e c h) (λ t s g a.
        first (constraint-leads C vs ty (env-up S g C c) (types-up S g vs h)) (λ v s' g' b.
        first (equals (type-up S g' t a) b) (λ u z i d. gives (λ w. type-up S i v b))))
    exp-leads C vs (handle p e m) c h =
        first (exp-leads C vs e c h) (λ t s g a.
        first (rules-lead C vs None m (env-up S g C c) (types-up S g vs h) tt) (λ v s' g' b.
        first (knows (λ w. equals b ((tt, w.shape.arrows), (((w.well.initials exn, w.shape.names_alone exn tt), tt), (type-up S g' t a, tt))))) (λ u y i d.
        first judges (λ u z j d. gives (λ w. type-up S (onwards g' (onwards i j)) t a)))))
    exp-leads C vs (raise p e) c h =
        first (exp-leads C vs e c h) (λ t s g a.
        first (knows (λ w. equals a ((w.well.initials exn, w.shape.names_alone exn tt), tt))) (λ u z i d. makes-one))
    exp-leads C vs (fn p m) c h =
        first (rules-lead C vs None m c h tt) (λ t s g a. first judges (λ u z j d. gives (λ w. type-up S j t a)))

    exps-lead : (C : Env N) (vs : Map (MlType N)) (es : Exps P) {s : State P N} → EnvAt S C s → TypesAt S vs s → Leads S scope s (read_exps scope C vs es) (AllAt S)
    exps-lead C vs no_exp c h = gives (λ w. tt)
    exps-lead C vs (and_exp e es) c h =
        first (exp-leads C vs e c h) (λ t s g a.
        first (exps-lead C vs es (env-up S g C c) (types-up S g vs h)) (λ ts s' g' b. gives (λ w. (type-up S g' t a, b))))

    fields-lead : (C : Env N) (vs : Map (MlType N)) (fs : T.Fields (MlType N)) (es : Fields P) {s : State P N} → EnvAt S C s → TypesAt S vs s → RisingAt S fs s
        → Leads S scope s (read_fields scope C vs fs es) (RisingAt S)
    fields-lead C vs fs no_field c h k = gives (λ w. k)
    fields-lead C vs fs (and_field (field l e) es) c h k =
        first (exp-leads C vs e c h) (λ t s g a.
        fields-lead C vs (put_field l.id t fs) es (env-up S g C c) (types-up S g vs h) (each-field (λ t. TypeAt S t s) l.id t fs a (types-up S g fs k.0), put-rises l.id t fs k.1))

    rules-lead : (C : Env N) (vs : Map (MlType N)) (f : Option (MlType N)) (m : Rules P) {s : State P N} → EnvAt S C s → TypesAt S vs s → FirstAt S f s
        → Leads S scope s (read_rules scope C vs f m) (TypeAt S)
    rules-lead C vs f no_rule c h k = or-unknown-leads f k
    rules-lead C vs f (and_rule (rule p q e) m) c h k =
        first (pat-leads false C vs [] q c h tt) (λ r s1 g1 a.
        first (bindings-lead _ r.bound a.1) (λ u s2 g2 d.
        let g = onwards g1 g2 in
        first (exp-leads (extend C (of_values (bound_values r.bound))) vs e (bound-env S s2 C r.bound (env-up S g C c) (types-up S g2 r.bound a.1)) (types-up S g vs h)) (λ t s3 g3 b.
        let i = onwards g g3 in
        first (knows (λ w. like-first-leads p f (arrow_of r.type t) (first-up S i f k) ((tt, w.shape.arrows), (type-up S (onwards g2 g3) r.type a.0, (b, tt))))) (λ v s4 g4 l.
        let j = onwards i g4 in rules-lead C vs (Some v) m (env-up S j C c) (types-up S j vs h) l))))

    -- Where this is asked and the state isn't open, no unknown stands in what is read with, and then none in what is given.
    decs-lead : (C : Env N) (vs : Map (MlType N)) (F : Env N) (ds : Decs P) {s : State P N} (asked : Bool) → EnvAt S C s → TypesAt S vs s → EnvAt S F s → ClosedAt S asked C s → NoneOpenAt S asked vs s → ClosedAt S asked F s
        → Leads S scope s (read_decs scope C vs F ds) (DecAt S asked)
    decs-lead C vs F no_dec asked c h k c0 h0 k0 = gives (λ w. (k, k0))
    decs-lead C vs F (and_dec d ds) asked c h k c0 h0 k0 =
        first (dec-leads C vs d asked c h c0 h0) (λ E s g a.
        decs-lead (extend C E) vs (extend F E) ds asked (extend-in S s.made s.names C E (env-up S g C c) a.0) (types-up S g vs h) (extend-in S s.made s.names F E (env-up S g F k) a.0)
        (closed-extend S asked s C E (closed-up S g asked C c0) a.1) (none-open-up S g asked vs h0) (closed-extend S asked s F E (closed-up S g asked F k0) a.1))

    pub dec-leads : (C : Env N) (vs : Map (MlType N)) (d : Dec P) {s : State P N} (asked : Bool) → EnvAt S C s → TypesAt S vs s → ClosedAt S asked C s → NoneOpenAt S asked vs s
        → Leads S scope s (read_dec scope C vs d) (DecAt S asked)
    dec-leads C vs (val_dec p xs bs rs) asked c h c0 h0 =
        first (begins p vs (map (λ x. x.id) xs ++ (unguarded bs ++ unguarded rs)) h) (λ b s1 g1 k.
        first (binds-lead C b.variables [] [] bs (env-up S g1 C c) k.1 tt tt) (λ r s2 g2 a.
        let g12 = onwards g1 g2 in
        first (patterns-lead C b.variables r.0 [] rs (env-up S g12 C c) (types-up S g2 b.variables k.1) a.0 tt) (λ q s3 g3 l.
        let g23 = onwards g2 g3 in
        first (rights-lead (extend C (of_values (bound_values q.1))) b.variables q.0 rs (bound-env S s3 C q.1 (env-up S (onwards g1 g23) C c) l.1) (types-up S g23 b.variables k.1) l.0) (λ u s4 g4 d.
        weakens
        (value-ends p b (r.1 ++ bounds false q.1) (begun-up S (onwards g23 g4) b k)
        (all-join (λ b. TypeAt S b.type s4) r.1 (bounds false q.1) (bounds-up S (onwards g3 g4) r.1 a.1) (bounds-at S s4 false q.1 (types-up S g4 q.1 l.1))))
        (λ E t g e. (e.0, (λ a. e.1)))))))
    dec-leads C vs (type_dec p bs) asked c h c0 h0 = weakens (types-lead p C bs c) (λ E t g e. none-dec S asked t E e)
    dec-leads C vs (datatype_dec p ds) asked c h c0 h0 = weakens (datatypes-lead p C ds c) (λ E t g e. none-dec S asked t E e)
    dec-leads C vs (datatype_with p ds bs) asked c h c0 h0 =
        first (datatypes-lead p C (map (dat_replaced bs) ds) c) (λ E s g a.
        first (types-lead p (extend C E) bs (extend-in S s.made s.names C E (env-up S g C c) (none-env S s E a))) (λ F t i b.
        gives (λ w. none-dec S asked t (extend E F) (extend-in S 0 t.names E F (none-up S i E a) b))))
    dec-leads C vs (datatype_copy p x y) {s} asked c h c0 h0 =
        first (looks {Q = λ t s. IsTyStrIn S s.names t} _ (λ t e. type-found S s.made s.names C y.id t c (needed _ _ y.id _ t e))) (λ t s g a.
        weakens (copied-leads x.id t a) (λ E z i e. none-dec S asked z E e))
    dec-leads C vs (exception_dec p bs) asked c h c0 h0 =
        first (exceptions-lead C vs bs) (λ m s g q.
        first tests (λ u t i d.
        gives (λ w. (
          values-in S t.made t.names m (values-up S i m (q s.made (env-up S g C c) (types-up S g vs h))),
          (λ a o. let f = g.stays_open (i.stays_open o) in none-up S i (of_values m) (values-in S 0 s.names m (q 0 (none-up S g C (c0 a f)) (no-types-up S g vs (h0 a f))))),
        ))))
    dec-leads C vs (local_dec p ds es) {s} asked c h c0 h0 =
        first (decs-lead C vs empty ds asked c h (empty-in S s.made s.names) c0 h0 (λ a o. empty-in S 0 s.names)) (λ E t g a.
        decs-lead (extend C E) vs empty es asked (extend-in S t.made t.names C E (env-up S g C c) a.0) (types-up S g vs h) (empty-in S t.made t.names)
        (closed-extend S asked t C E (closed-up S g asked C c0) a.1) (none-open-up S g asked vs h0) (λ a o. empty-in S 0 t.names))
    dec-leads C vs (sequence_dec p ds) {s} asked c h c0 h0 = decs-lead C vs empty ds asked c h (empty-in S s.made s.names) c0 h0 (λ a o. empty-in S 0 s.names)
    dec-leads C vs (open_dec p ss) asked c h c0 h0 = weakens (opened-leads C ss) (λ E t g q. (q t.made (env-up S g C c), (λ a o. q 0 (none-up S g C (c0 a (g.stays_open o))))))
    dec-leads C vs (fixity_dec p) {s} asked c h c0 h0 = gives (λ w. none-dec S asked s empty (empty-in S 0 s.names))

    binds-lead : (C : Env N) (vs : Map (MlType N)) (seen : Bindings N) (done : List (E.Bound N)) (bs : ValBinds P) {s : State P N} → EnvAt S C s → TypesAt S vs s → TypesAt S seen s → BoundsAt S done s
        → Leads S scope s (read_binds scope C vs seen done bs) (λ r t. TypesAt S r.0 t × BoundsAt S r.1 t)
    binds-lead C vs seen done no_bind c h k l = gives (λ w. (k, l))
    binds-lead C vs seen done (and_bind (bind q e) bs) c h k l =
        first (pat-leads false C vs seen q c h k) (λ r s1 g1 a.
        first (exp-leads C vs e (env-up S g1 C c) (types-up S g1 vs h)) (λ t s2 g2 b.
        first (equals (type-up S g2 r.type a.0) b) (λ u s3 g3 d.
        first judges (λ u s4 g4 d.
        let i = onwards g2 (onwards g3 g4) in
        let j = onwards g1 i in
        let now = types-up S i r.bound a.1 in
        binds-lead C vs r.bound (done ++ bounds (is_expansive C e) (after seen r.bound)) bs (env-up S j C c) (types-up S j vs h) now
        (all-join (λ b. TypeAt S b.type s4) done (bounds (is_expansive C e) (after seen r.bound)) (bounds-up S j done l) (bounds-at S s4 (is_expansive C e) (after seen r.bound) (after-at S s4 seen r.bound now)))))))

    patterns-lead : (C : Env N) (vs : Map (MlType N)) (seen new : Bindings N) (bs : ValBinds P) {s : State P N} → EnvAt S C s → TypesAt S vs s → TypesAt S seen s → TypesAt S new s
        → Leads S scope s (read_patterns scope C vs seen new bs) (λ r t. ListAt S r.0 t × TypesAt S r.1 t)
    patterns-lead C vs seen new no_bind c h k l = gives (λ w. (tt, l))
    patterns-lead C vs seen new (and_bind (bind q e) bs) c h k l =
        first (pat-leads true C vs seen q c h k) (λ r s1 g1 a.
        first (bindings-lead _ (after seen r.bound) (after-at S s1 seen r.bound a.1)) (λ u s2 g2 d.
        let g = onwards g1 g2 in
        let now = types-up S g2 r.bound a.1 in
        first (patterns-lead C vs r.bound (new ++ after seen r.bound) bs (env-up S g C c) (types-up S g vs h) now
        (all-join (λ b. TypeAt S b.1 s2) new (after seen r.bound) (types-up S g new l) (after-at S s2 seen r.bound now))) (λ x s3 g3 b.
        gives (λ w. ((type-up S (onwards g2 g3) r.type a.0, b.0), b.1)))))

    rights-lead : (C : Env N) (vs : Map (MlType N)) (ts : List (MlType N)) (bs : ValBinds P) {s : State P N} → EnvAt S C s → TypesAt S vs s → ListAt S ts s
        → Leads S scope s (read_rights scope C vs ts bs) Done
    rights-lead C vs ts no_bind c h k = gives (λ w. tt)
    rights-lead C vs [] (and_bind b bs) c h k = gives (λ w. tt)
    rights-lead C vs (t ∷ ts) (and_bind (bind q e) bs) c h k =
        first tests (λ u s1 g1 d.
        first (exp-leads C vs e (env-up S g1 C c) (types-up S g1 vs h)) (λ a s2 g2 b.
        let g = onwards g1 g2 in
        first (equals (type-up S g t k.0) b) (λ u s3 g3 d. let j = onwards g g3 in rights-lead C vs ts bs (env-up S j C c) (types-up S j vs h) (list-up S j ts k.1))))
