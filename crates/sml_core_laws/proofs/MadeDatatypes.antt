-- Bindings of datatypes have an answer: names numbered above all that were made, each with the equality attribute that the largest set
-- gives it. The arguments are read with names that don't admit equality, and the names are exchanged afterwards.
use Rattle.std.specs.Prelude.{◌≡◌, ◌≤◌, ◌<◌, ◌+◌, ◌++◌, ◌&&◌, ◌||◌, ℕ, suc, Bool, true, false, cond, not, List, [], ◌∷◌, map, length, Option, Some, None}
use Rattle.std.specs.List.{AllByRecursion}
use Rattle.std.proofs.Common.{arith}
use mathlib.Core.Path.{refl, sym, ap, subst, ◌∙◌, fun_ext}
use mathlib.Core.Logic.{inl, inr}
use std.Equiv.{◌≃◌, iso_to_equiv}
use Rattle.sml_lex.specs.declared.fault.Place.{Place}
use Rattle.sml_tree.specs.Expressions.{DatBind}
use Rattle.sml_objects.specs.Appearance.{Stands, stands}
use Rattle.sml_objects.specs.Equality.{admits_by, all_admit_by, is_ref, has_equality}
use Rattle.sml_objects.specs.Initial.{Name, initial, made, naming}
use Rattle.sml_objects.specs.Objects.{MlType, MlTypes, bound, free, app, arrow, row, name, no_type, and_type, rename_type, rename_types, Outside}
use Rattle.sml_objects.proofs.Standing.{left, found, was_found}
use Rattle.sml_rules.specs.Answers.{Answer, refused, accepted}
use Rattle.sml_core_rules.specs.Datatypes.{Arguments, Respects, AdmitAsManyAsCan, AreNew, argument_admits, arguments_admit, with_names, arguments_of}
use Rattle.sml_core_rules.specs.Objects.{Env, names_env}
use Rattle.sml_core_rules.specs.Scopes.{run_scope}
use Rattle.sml_core_rules.specs.Scripts.{IsAnswer, give, makes_datatypes}
use Rattle.sml_core_rules.specs.States.{State, with_made}
use Rattle.sml_core_rules.proofs.Flags.{same-count}
use Rattle.sml_core_rules.proofs.Mentions.{arguments_of-mention, respects-same}
use Rattle.sml_core_laws.specs.Natural.{answer_with, rename_argument, rename_arguments}
use Rattle.sml_core_laws.specs.Largest.{IsLargest, DatatypesHaveAnswers}
use Rattle.sml_core_laws.proofs.Largest.{largest-there}
use Rattle.sml_core_laws.proofs.Left.{env-left}
use Rattle.sml_core_laws.proofs.Natural.{arguments-renamed}

-- what admits equality with other names

module _ {A B : Type 0} (f : A → B) (refs : B → Bool) (eq : B → Bool) where
  abbrev refs_before : A → Bool
  refs_before n = refs (f n)

  abbrev eq_before : A → Bool
  eq_before n = eq (f n)

  mutual
    unfolding admits_by rename_type

    type-before : (v : ℕ → Bool) (t : MlType A) → admits_by refs v eq (rename_type f t) ≡ admits_by refs_before v eq_before t
    type-before v (bound k) = refl
    type-before v (free k) = refl
    type-before v (app arrow ts) = refl
    type-before v (app (row ls) ts) = types-before v ts
    type-before v (app (name n) ts) = λ i. refs (f n) || (eq (f n) && types-before v ts i)

    types-before : (v : ℕ → Bool) (ts : MlTypes A) → all_admit_by refs v eq (rename_types f ts) ≡ all_admit_by refs_before v eq_before ts
    types-before v no_type = refl
    types-before v (and_type t ts) = λ i. type-before v t i && types-before v ts i

  argument-before : (a : Option (MlType A)) → argument_admits refs eq (rename_argument f a) ≡ argument_admits refs_before eq_before a
  argument-before None = refl
  argument-before (Some t) = type-before (λ _. true) t

  arguments-before : (cs : Arguments A) → arguments_admit refs eq (rename_arguments f cs) ≡ arguments_admit refs_before eq_before cs
  arguments-before [] = refl
  arguments-before (c ∷ cs) = λ i. argument-before c.1 i && arguments-before cs i

  respects-before : (ns : List A) (gs : List (Arguments A))
      → ◌≡◌ {A = Type 0} (Respects refs eq (with_names (map f ns) (map (rename_arguments f) gs))) (Respects refs_before eq_before (with_names ns gs))
  respects-before [] gs = refl
  respects-before (n ∷ ns) [] = refl
  respects-before (n ∷ ns) (g ∷ gs) = λ i. (eq (f n) ≡ true → arguments-before g i ≡ true) × respects-before ns gs i

-- names of a unit that are numbered from one on

IsBelow : ℕ → ℕ → Name → Type 0
IsBelow u k (initial j) = Unit {0}
IsBelow u k (made v n a q) = v ≡ u → n < k

one-below : (u k j : ℕ) (n : Name) → k ≤ j → IsBelow u k n → IsBelow u j n
unfolding IsBelow
one-below u k j (initial i) h b = tt
one-below u k j (made v n a q) h b = λ e. let x = b e in omega (arith, h, x)

all-below : (u k j : ℕ) (ns : List Name) → k ≤ j → AllByRecursion (IsBelow u k) ns → AllByRecursion (IsBelow u j) ns
all-below u k j [] h b = tt
all-below u k j (n ∷ ns) h b = (one-below u k j n h b.0, all-below u k j ns h b.1)

above-all : (u : ℕ) (ns : List Name) → (k : ℕ) × AllByRecursion (IsBelow u k) ns
unfolding IsBelow
above-all u [] = (0, tt)
above-all u (initial j ∷ ns) = let r = above-all u ns in (r.0, (tt, r.1))
above-all u (made v n a q ∷ ns) = let r = above-all u ns in (r.0 + suc n, ((λ e. omega (arith)), all-below u r.0 (r.0 + suc n) ns (omega (arith)) r.1))

below-at : (u k : ℕ) (n : Name) (ns : List Name) → AllByRecursion (IsBelow u k) ns → Stands n ns → IsBelow u k n
unfolding Stands
below-at u k n [] b h = absurd h
below-at u k n (m ∷ ns) b (inl e) = subst (IsBelow u k) (sym e) b.0
below-at u k n (m ∷ ns) b (inr h) = below-at u k n ns b.1 h

module _ (u : ℕ) where
  not-below : (k j a : ℕ) (q : Bool) (n : Name) → k ≤ j → IsBelow u k n → ¬ (n ≡ made u j a q)
  unfolding IsBelow
  not-below k j a q n h b e = let x = subst (IsBelow u k) e b refl in omega (arith, h, x)

  above-outside : (k j a : ℕ) (q : Bool) (ns : List Name) → k ≤ j → AllByRecursion (IsBelow u k) ns → Outside (made u j a q) ns
  unfolding Outside
  above-outside k j a q [] h b = tt
  above-outside k j a q (n ∷ ns) h b = (not-below k j a q n h b.0, above-outside k j a q ns h b.1)

  module _ (flag : ℕ → ℕ → Bool) where
    numbered : ℕ → List (DatBind Place) → List Name
    numbered k [] = []
    numbered k (d ∷ ds) = made u k (length d.variables) (flag k (length d.variables)) ∷ numbered (suc k) ds

    are-new : (k : ℕ) (old : List Name) (ds : List (DatBind Place)) → AllByRecursion (IsBelow u k) old → AreNew naming old ds (numbered k ds)
    unfolding AreNew naming numbered IsBelow
    are-new k old [] b = refl
    are-new k old (d ∷ ds) b =
        let n = made u k (length d.variables) (flag k (length d.variables)) in (
          n,
          numbered (suc k) ds,
          above-outside k k (length d.variables) (flag k (length d.variables)) old (omega (arith)) b,
          λ j e. cc,
          refl,
          refl,
          are-new (suc k) (n ∷ old) ds ((λ e. omega (arith)), all-below u k (suc k) old (omega (arith)) b),
          refl,
        )

    are-made : (k : ℕ) (ds : List (DatBind Place)) → AllByRecursion (λ n. (naming.attributes n).maker ≡ u) (numbered k ds)
    unfolding numbered naming
    are-made k [] = tt
    are-made k (d ∷ ds) = (refl, are-made (suc k) ds)

    -- each is a name of the unit with a number from k on
    IsAbove : ℕ → Name → Type 0
    IsAbove k n = (j : ℕ) × (a : ℕ) × (n ≡ made u j a (flag j a)) × (k ≤ j)

    numbered-above : (k l : ℕ) (n : Name) (ds : List (DatBind Place)) → k ≤ l → Stands n (numbered l ds) → IsAbove k n
    unfolding Stands numbered IsAbove
    numbered-above k l n [] h s = absurd s
    numbered-above k l n (d ∷ ds) h (inl e) = (l, length d.variables, e, h)
    numbered-above k l n (d ∷ ds) h (inr s) = numbered-above k (suc l) n ds (omega (arith, h)) s

-- exchanges

xor : Bool → Bool → Bool
xor true b = not b
xor false b = b

xor-twice : (q b : Bool) → xor (xor q b) b ≡ q
unfolding xor
xor-twice true true = refl
xor-twice true false = refl
xor-twice false true = refl
xor-twice false false = refl

xor-none : (q b : Bool) → b ≡ false → xor q b ≡ q
unfolding xor
xor-none true b h = ap not h
xor-none false b h = h

module _ (eq : Name → Bool) where
  -- a name that is in the set without the attribute has the other one
  exchange : Name → Name
  exchange (initial k) = initial k
  exchange (made u n a q) = made u n a (xor q (eq (made u n a false)))

  exchange-twice : (n : Name) → exchange (exchange n) ≡ n
  unfolding exchange
  exchange-twice (initial k) = refl
  exchange-twice (made u n a q) = ap (made u n a) (xor-twice q (eq (made u n a false)))

  exchanges : Name ≃ Name
  exchanges = iso_to_equiv (record { fun = exchange; inv = exchange; rinv = exchange-twice; linv = exchange-twice })

  refs-exchanged : (n : Name) → is_ref naming (exchange n) ≡ is_ref naming n
  unfolding exchange naming
  refs-exchanged (initial k) = refl
  refs-exchanged (made u n a q) = refl

  numbered-exchanged : (u k : ℕ) (ds : List (DatBind Place)) → map exchange (numbered u (λ n a. false) k ds) ≡ numbered u (λ n a. eq (made u n a false)) k ds
  unfolding exchange numbered xor
  numbered-exchanged u k [] = refl
  numbered-exchanged u k (d ∷ ds) = ap (λ ns. made u k (length d.variables) (eq (made u k (length d.variables) false)) ∷ ns) (numbered-exchanged u (suc k) ds)

-- lists

names-of : (ns : List Name) (gs : List (Arguments Name)) → length ns ≡ length gs → map (λ d. d.0) (with_names ns gs) ≡ ns
names-of [] gs h = refl
names-of (n ∷ ns) [] h = absurd (cc)
names-of (n ∷ ns) (g ∷ gs) h = ap (λ l. n ∷ l) (names-of ns gs (cc))

image-of : (f : Name → Name) (n : Name) (ns : List Name) → Stands n (map f ns) → (m : Name) × Stands m ns × (n ≡ f m)
unfolding Stands
image-of f n [] h = absurd h
image-of f n (m ∷ ns) (inl e) = (m, inl refl, e)
image-of f n (m ∷ ns) (inr h) = let r = image-of f n ns h in (r.0, inr r.1, r.2)

each-standing : (Q : Name → Type 0) (ns : List Name) → ((n : Name) → Stands n ns → Q n) → AllByRecursion Q ns
unfolding Stands
each-standing Q [] h = tt
each-standing Q (n ∷ ns) h = (h n (inl refl), each-standing Q ns (λ m k. h m (inr k)))

not-standing : (n : Name) (ns : List Name) → ¬ (Stands n ns) → stands naming n ns ≡ false
not-standing n ns h = go (stands naming n ns) refl
  where
    go : (b : Bool) → stands naming n ns ≡ b → b ≡ false
    go true e = absurd (h (was_found naming n ns e))
    go false e = refl

map-length : {A B : Type 0} (f : A → B) (ns : List A) → length (map f ns) ≡ length ns
map-length f [] = refl
map-length f (n ∷ ns) = ap suc (map-length f ns)

module _ (u : ℕ) (C : Env Name) (ds : List (DatBind Place)) (old : List Name) (k : ℕ) (below : AllByRecursion (IsBelow u k) (names_env C ++ old)) where
  abbrev plain : List Name
  plain = numbered u (λ n a. false) k ds

  module _ (gs : List (Arguments Name)) (given : arguments_of C ds plain ≡ accepted gs) where
    largest : (eq : Name → Bool) × IsLargest naming (has_equality naming) (with_names plain gs) eq
    largest = largest-there naming (has_equality naming) (with_names plain gs)

    abbrev eq : Name → Bool
    eq = largest.0

    abbrev to : Name → Name
    to = exchange eq

    abbrev named : List Name
    named = map to plain

    abbrev with_new : List (Arguments Name)
    with_new = map (rename_arguments to) gs

    flag : ℕ → ℕ → Bool
    flag n a = eq (made u n a false)

    counted : length plain ≡ length gs
    counted = same-count naming C ds (names_env C ++ old) plain gs (are-new u (λ n a. false) k (names_env C ++ old) ds below) given

    all-plain : map (λ d. d.0) (with_names plain gs) ≡ plain
    all-plain = names-of plain gs counted

    all-named : map (λ d. d.0) (with_names named with_new) ≡ named
    all-named = names-of named with_new (map-length to plain ∙ (counted ∙ sym (map-length (rename_arguments to) gs)))

    named-numbered : named ≡ numbered u flag k ds
    unfolding flag
    named-numbered = numbered-exchanged eq u k ds

    -- what stands in the context is no new name, whatever its attribute

    context-below : (n : Name) → Stands n (names_env C) → IsBelow u k n
    context-below n h = below-at u k n (names_env C ++ old) below (left n (names_env C) old h)

    none-above : (f : ℕ → ℕ → Bool) (n : Name) → IsBelow u k n → ¬ (IsAbove u f k n)
    unfolding IsAbove
    none-above f n b (j, a, e, h) = not-below u k j a (f j a) n h b e

    context-not-plain : (n : Name) → IsBelow u k n → ¬ (Stands n plain)
    context-not-plain n b h = none-above (λ n a. false) n b (numbered-above u (λ n a. false) k k n ds (omega (arith)) h)

    context-not-named : (n : Name) → IsBelow u k n → ¬ (Stands n named)
    context-not-named n b h = none-above flag n b (numbered-above u flag k k n ds (omega (arith)) (subst (Stands n) named-numbered h))

    outside-plain : (n : Name) → ¬ (Stands n plain) → eq n ≡ has_equality naming n
    outside-plain n h = largest.1.outside n (λ s. h (subst (Stands n) all-plain s))

    stays : (n : Name) → IsBelow u k n → to n ≡ n
    unfolding exchange IsBelow naming
    stays (initial j) b = refl
    stays (made v n a q) b =
        ap (made v n a) (xor-none q (eq (made v n a false)) (outside-plain (made v n a false) (context-not-plain (made v n a false) b)))

    -- the attributes of the exchanged names are those of the set

    plain-carries : (n : Name) → Stands n plain → eq n ≡ has_equality naming (to n)
    unfolding exchange IsAbove naming xor
    plain-carries n h =
        let (j, a, e, l) = numbered-above u (λ n a. false) k k n ds (omega (arith)) h in
        subst (λ n. eq n ≡ has_equality naming (to n)) (sym e) refl

    context-carries : (n : Name) → Stands n (names_env C) → eq n ≡ has_equality naming (to n)
    context-carries n h =
        outside-plain n (context-not-plain n (context-below n h)) ∙ ap (has_equality naming) (sym (stays n (context-below n h)))

    moved-respects : (other : Name → Bool)
        → ◌≡◌ {A = Type 0} (Respects (is_ref naming) other (with_names named with_new)) (Respects (is_ref naming) (λ n. other (to n)) (with_names plain gs))
    moved-respects other =
        respects-before to (is_ref naming) other plain gs
        ∙ ap (λ refs. Respects refs (λ n. other (to n)) (with_names plain gs)) (fun_ext (refs-exchanged eq))

    same-flags : (f g : Name → Bool) → ((n : Name) → Stands n (names_env C) → f n ≡ g n) → ((n : Name) → Stands n plain → f n ≡ g n)
        → Respects (is_ref naming) f (with_names plain gs) → Respects (is_ref naming) g (with_names plain gs)
    same-flags f g context new h =
        let all = each-standing (λ n. f n ≡ g n) plain new in
        respects-same (is_ref naming) f g plain gs all (arguments_of-mention (λ n. f n ≡ g n) C ds plain gs context all given) h

    -- other sets, of the names as they were

    before : (Name → Bool) → Name → Bool
    before other n = cond (stands naming n plain) (other (to n)) (has_equality naming n)

    before-plain : (other : Name → Bool) (n : Name) → Stands n plain → other (to n) ≡ before other n
    unfolding before
    before-plain other n h = ap (λ b. cond b (other (to n)) (has_equality naming n)) (sym (found naming n plain h))

    before-outside : (other : Name → Bool) (n : Name) → ¬ (Stands n plain) → before other n ≡ has_equality naming n
    unfolding before
    before-outside other n h = ap (λ b. cond b (other (to n)) (has_equality naming n)) (not-standing n plain h)

    admit : AdmitAsManyAsCan naming (with_names named with_new)
    unfolding AdmitAsManyAsCan
    admit = (
      coe 1 0 (i. moved-respects (has_equality naming) i) (same-flags eq (λ n. has_equality naming (to n)) context-carries plain-carries largest.1.respects),
      all,
    )
      where
        all : (other : Name → Bool) → ((n : Name) → ¬ (Stands n (map (λ d. d.0) (with_names named with_new))) → other n ≡ has_equality naming n)
            → Respects (is_ref naming) other (with_names named with_new) → (n : Name) → Stands n (map (λ d. d.0) (with_names named with_new)) → other n ≡ true → has_equality naming n ≡ true
        all other outside respects n h e =
            let m = image-of to n plain (subst (Stands n) all-named h) in
            let context : (n : Name) → Stands n (names_env C) → other (to n) ≡ before other n =
            λ n s.
            let b = context-below n s in
            ap other (stays n b) ∙ (outside n (λ t. context-not-named n b (subst (Stands n) all-named t)) ∙ sym (before-outside other n (context-not-plain n b))) in
            let r = same-flags (λ n. other (to n)) (before other) context (before-plain other) (coe 0 1 (i. moved-respects other i) respects) in
            let x : before other m.0 ≡ true = sym (before-plain other m.0 m.1) ∙ (ap other (sym m.2) ∙ e) in
            let y : eq m.0 ≡ true =
            largest.1.largest (before other) (λ n s. before-outside other n (λ t. s (subst (Stands n) (sym all-plain) t))) r m.0 x in
            ap (has_equality naming) m.2 ∙ (sym (plain-carries m.0 m.1) ∙ y)

    renamed : arguments_of C ds named ≡ accepted with_new
    unfolding exchange exchanges
    renamed =
        let same = env-left (exchanges eq) C refl (λ n h. stays n (context-below n h)) in
        ap (λ C. arguments_of C ds named) (sym same) ∙ (arguments-renamed to C ds plain ∙ ap (answer_with (map (rename_arguments to))) given)

    are-new-named : AreNew naming (names_env C ++ old) ds named
    are-new-named = subst (AreNew naming (names_env C ++ old) ds) (sym named-numbered) (are-new u flag k (names_env C ++ old) ds below)

    are-made-named : AllByRecursion (λ n. (naming.attributes n).maker ≡ u) named
    are-made-named = subst (AllByRecursion (λ n. (naming.attributes n).maker ≡ u)) (sym named-numbered) (are-made u flag k ds)

pub datatypes-have-answers : DatatypesHaveAnswers
unfolding IsAnswer
datatypes-have-answers u C ds s = go (arguments_of C ds plain_names) refl
  where
    bound : (k : ℕ) × AllByRecursion (IsBelow u k) (names_env C ++ s.names)
    bound = above-all u (names_env C ++ s.names)

    plain_names : List Name
    plain_names = plain u C ds s.names bound.0 bound.1

    go : (a : Answer Place (List (Arguments Name))) → arguments_of C ds plain_names ≡ a
        → (o : Answer Place ((List Name × List (Arguments Name)) × State Place Name)) × IsAnswer (run_scope u) (makes_datatypes C ds (λ ns gs. give (ns, gs))) s o
    go (refused f) e =
        (refused f, (plain_names, are-new u (λ n a. false) bound.0 (names_env C ++ s.names) ds bound.1, are-made u (λ n a. false) bound.0 ds, inl (f, e, refl)))
    go (accepted gs) e =
        let ns = named u C ds s.names bound.0 bound.1 gs e in
        let hs = with_new u C ds s.names bound.0 bound.1 gs e in (
          accepted ((ns, hs), with_made ns s),
          (
            ns,
            are-new-named u C ds s.names bound.0 bound.1 gs e,
            are-made-named u C ds s.names bound.0 bound.1 gs e,
            inr (hs, renamed u C ds s.names bound.0 bound.1 gs e, admit u C ds s.names bound.0 bound.1 gs e, refl),
          ),
        )
