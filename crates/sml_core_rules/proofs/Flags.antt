-- Two choices of new names for the same datatypes have the same attributes: those that admit equality are the largest set
-- that respects it.
use Rattle.std.specs.Prelude.{◌≡◌, ℕ, suc, Bool, true, false, cond, List, [], ◌∷◌, length, Option, Some, None}
use Rattle.std.specs.List.{AllByRecursion}
use mathlib.Core.Path.{refl, sym, ap, subst, ◌∙◌, fun_ext}
use mathlib.Core.Logic.{inl, inr}
use mathlib.Core.List.{map}
use std.Path.{PathP, from_path_p, to_path_p}
use mathlib.Core.HLevel.{hedberg, Discrete}
use mathlib.Core.Logic.{Dec-prop}
use Rattle.sml_lex.specs.Faults.{Fault}
use Rattle.sml_tree.specs.Expressions.{DatBind}
use Rattle.sml_objects.specs.Appearance.{Stands, stands}
use Rattle.sml_objects.specs.Equality.{is_ref, has_equality}
use Rattle.sml_objects.specs.Names.{Naming, Initial, int, ref}
use Rattle.sml_rules.specs.Answers.{Answer, refused, accepted}
use Rattle.sml_core_rules.specs.Objects.{Env, names_env}
use Rattle.sml_core_rules.specs.Datatypes.{Arguments, Respects, AdmitAsManyAsCan, AreNew, with_names, arguments_of}
use Rattle.sml_core_rules.specs.Rules.{MeanAllArguments}
use Rattle.sml_objects.proofs.Standing.{found, was_found, stands-or-not}
use Rattle.sml_core_rules.proofs.Along.{Become, become-known, env-along}
use Rattle.sml_core_rules.proofs.Derived.{all-arguments-to}
use Rattle.sml_core_rules.proofs.Mentions.{arguments_of-mention, respects-same}

fault_of : {P X : Type 0} → Answer P X → Option (Fault P)
fault_of (refused f) = Some f
fault_of (accepted x) = None

abbrev pub value_of : {P X : Type 0} → Answer P (List X) → List X
value_of (refused f) = []
value_of (accepted xs) = xs

not-standing : {N : Type 0} (names : Naming N) (n : N) (ns : List N) → ¬ (Stands n ns) → stands names n ns ≡ false
not-standing names n ns h = elim (stands-or-not names n ns) [ inl e ↦ absurd (h (was_found names n ns e)) | inr e ↦ e ]

each-standing : {N : Type 0} (Q : N → Type 0) (ns : List N) → ((n : N) → Stands n ns → Q n) → AllByRecursion Q ns
unfolding Stands
each-standing Q [] h = tt
each-standing Q (n ∷ ns) h = (h n (inl refl), each-standing Q ns (λ m k. h m (inr k)))

names-of : {N : Type 0} (ns : List N) (gs : List (Arguments N)) → length ns ≡ length gs → map (λ d. d.0) (with_names ns gs) ≡ ns
names-of [] gs h = refl
names-of (n ∷ ns) [] h = absurd (cc)
names-of (n ∷ ns) (g ∷ gs) h = ap (λ l. n ∷ l) (names-of ns gs (cc))

discrete_one : {A : Type 0} (p q : Discrete A) → p ≡ q
discrete_one p q = fun_ext (λ x. fun_ext (λ y. Dec-prop (hedberg p x y) (p x y) (q x y)))

flag_or : (b c : Bool) (x : Bool) → b ≡ c → b ≡ cond x b c
flag_or b c true h = refl
flag_or b c false h = h

module _ {P N : Type 0} (names : Naming N) (C : Env N) (ds : List (DatBind P)) (old : List N) (inside : (n : N) → Stands n (names_env C) → Stands n old)
    (initials : (k : Initial) → Stands (names.initial k) old) (ns ms : List N)
    (π : ◌≡◌ {A = (M : Type 0) × M × (List M × List M)} (N, names.initial int, (old, ns)) (N, names.initial int, (old, ms))) where
  abbrev over : N ≡ N
  over i = (π i).0

  context-along : PathP (λ i. Env (over i)) C C
  context-along =
      env-along over C (become-known over (names.initial int) (names.initial int) (λ i. (π i).1) old (λ i. (π i).2.0) (names_env C) inside)

  answer-along : PathP (λ i. Answer P (List (Arguments (over i)))) (arguments_of C ds ns) (arguments_of C ds ms)
  answer-along = λ i. arguments_of (context-along i) ds ((π i).2.1)

  pub same-fault : (f g : Fault P) → arguments_of C ds ns ≡ refused f → arguments_of C ds ms ≡ refused g → f ≡ g
  unfolding fault_of
  same-fault f g h k = let e : Some f ≡ Some g = sym (ap fault_of h) ∙ ((λ i. fault_of (answer-along i)) ∙ ap fault_of k) in cc

  pub not-both : (f : Fault P) (gs : List (Arguments N)) → arguments_of C ds ns ≡ refused f → arguments_of C ds ms ≡ accepted gs → ⊥
  unfolding fault_of
  not-both f gs h k = let e : Some f ≡ None = sym (ap fault_of h) ∙ ((λ i. fault_of (answer-along i)) ∙ ap fault_of k) in absurd cc

  pub becomes : N → N
  becomes n = coe 0 1 (i. over i) n

  refs-along : PathP (λ i. over i → Bool) (is_ref names) (is_ref names)
  unfolding Stands Become
  refs-along =
      let r = become-known over (names.initial int) (names.initial int) (λ i. (π i).1) old (λ i. (π i).2.0) (names.initial ref ∷ []) (λ n. elim [ inl e ↦ subst (λ n. Stands n old) (sym e) (initials ref) | inr h ↦ absurd h ]) in
      let s : PathP (λ i. (a b : over i) → Dec (a ≡ b)) names.same names.same = to_path_p (λ i. (a b : over i) → Dec (a ≡ b)) (discrete_one _ _) in
      λ i n. elim (s i (r.0 i) n) [ yes _ ↦ true | no _ ↦ false ]

  -- the flags of the second names, for the first
  moved_flags : N → Bool
  moved_flags n = has_equality names (becomes n)

  -- the same for the datatypes alone
  new_flags : N → Bool
  new_flags n = cond (stands names n ns) (moved_flags n) (has_equality names n)

  stays : (n : N) → Stands n (names_env C) → becomes n ≡ n
  unfolding becomes Become Stands
  stays n h =
      let r = become-known over (names.initial int) (names.initial int) (λ i. (π i).1) old (λ i. (π i).2.0) (n ∷ []) (λ m. elim [ inl e ↦ subst (λ n. Stands n old) (sym e) (inside n h) | inr k ↦ absurd k ]) in
      from_path_p (λ i. over i) r.0

  flags-along : PathP (λ i. over i → Bool) moved_flags (has_equality names)
  unfolding moved_flags becomes
  flags-along = λ i n. has_equality names (coe i 1 (j. over j) n)

  same-context : (n : N) → Stands n (names_env C) → moved_flags n ≡ new_flags n
  unfolding moved_flags new_flags
  same-context n h = flag_or (moved_flags n) (has_equality names n) (stands names n ns) (ap (has_equality names) (stays n h))

  same-new : (n : N) → Stands n ns → moved_flags n ≡ new_flags n
  unfolding new_flags
  same-new n h = ap (λ b. cond b (moved_flags n) (has_equality names n)) (sym (found names n ns h))

  pub follows : (gs hs : List (Arguments N)) → length ns ≡ length gs → arguments_of C ds ns ≡ accepted gs → arguments_of C ds ms ≡ accepted hs
      → AdmitAsManyAsCan names (with_names ns gs) → AdmitAsManyAsCan names (with_names ms hs) → (n : N) → Stands n ns → has_equality names (becomes n) ≡ true → has_equality names n ≡ true
  unfolding AdmitAsManyAsCan new_flags moved_flags
  follows gs hs l e f a b n h k =
      let there : Respects (is_ref names) (has_equality names) (with_names ms (value_of (arguments_of C ds ms))) = subst (λ gs. Respects (is_ref names) (has_equality names) (with_names ms gs)) (sym (ap value_of f)) b.0 in
      let here : Respects (is_ref names) moved_flags (with_names ns (value_of (arguments_of C ds ns))) =
      coe 1 0 (i. Respects (refs-along i) (flags-along i) (with_names ((π i).2.1) (value_of (answer-along i)))) there in
      let given : Respects (is_ref names) moved_flags (with_names ns gs) = subst (λ gs. Respects (is_ref names) moved_flags (with_names ns gs)) (ap value_of e) here in
      let new : Respects (is_ref names) new_flags (with_names ns gs) =
      respects-same (is_ref names) moved_flags new_flags ns gs (each-standing (λ n. moved_flags n ≡ new_flags n) ns same-new)
      (arguments_of-mention (λ n. moved_flags n ≡ new_flags n) C ds ns gs same-context (each-standing (λ n. moved_flags n ≡ new_flags n) ns same-new) e) given in
      let all = names-of ns gs l in
      a.1 new_flags (λ m o. ap (λ b. cond b (moved_flags m) (has_equality names m)) (not-standing names m ns (λ s. o (subst (Stands m) (sym all) s)))) new n (subst (Stands n) (sym all) h)
      (sym (same-new n h) ∙ k)

  map-same : (l : List N) → map (λ n. n) l ≡ l
  map-same [] = refl
  map-same (n ∷ l) = ap (λ l. n ∷ l) (map-same l)

  pub become-others : map becomes ns ≡ ms
  unfolding becomes
  become-others = (λ i. map (λ n. coe i 1 (j. over j) n) ((π i).2.1)) ∙ map-same ms

-- the attributes of the two choices

equal-flags : (a b : Bool) → (a ≡ true → b ≡ true) → (b ≡ true → a ≡ true) → a ≡ b
equal-flags true true f g = refl
equal-flags true false f g = sym (f refl)
equal-flags false true f g = g refl
equal-flags false false f g = refl

pub equal-lists : {N : Type 0} (eq : N → Bool) (f g : N → N) (ns ms : List N) → map f ns ≡ ms → map g ms ≡ ns
    → ((n : N) → Stands n ns → eq (f n) ≡ true → eq n ≡ true) → ((m : N) → Stands m ms → eq (g m) ≡ true → eq m ≡ true) → map eq ns ≡ map eq ms
unfolding Stands
equal-lists eq f g [] [] e k h j = refl
equal-lists eq f g [] (m ∷ ms) e k h j = let x : [] ≡ m ∷ ms = e in absurd cc
equal-lists eq f g (n ∷ ns) [] e k h j = let x : [] ≡ n ∷ ns = k in absurd cc
equal-lists eq f g (n ∷ ns) (m ∷ ms) e k h j =
    let x : f n ∷ map f ns ≡ m ∷ ms = e in
    let y : g m ∷ map g ms ≡ n ∷ ns = k in
    let a : f n ≡ m = cc in
    let b : g m ≡ n = cc in
    let c : map f ns ≡ ms = cc in
    let d : map g ms ≡ ns = cc in
    let p = equal-flags (eq n) (eq m) (λ t. j m (inl refl) (ap eq b ∙ t)) (λ t. h n (inl refl) (ap eq a ∙ t)) in
    let q = equal-lists eq f g ns ms c d (λ n s. h n (inr s)) (λ m s. j m (inr s)) in λ i. p i ∷ q i

pub equal-kinds : {P N : Type 0} (names : Naming N) (unit : ℕ) (ds : List (DatBind P)) (old more ns ms : List N) → AreNew names old ds ns → AreNew names more ds ms
    → AllByRecursion (λ n. (names.attributes n).maker ≡ unit) ns → AllByRecursion (λ n. (names.attributes n).maker ≡ unit) ms → map (has_equality names) ns ≡ map (has_equality names) ms
    → map names.attributes ns ≡ map names.attributes ms
unfolding AreNew
equal-kinds names unit [] old more ns ms h k a b e = ap (map names.attributes) (h ∙ sym k)
equal-kinds names unit (d ∷ ds) old more ns ms (n, rest, o, i, y, c, h, p) (m, others, o', i', y', c', k, q) a b e =
    let a' = subst (AllByRecursion (λ n. (names.attributes n).maker ≡ unit)) p a in
    let b' = subst (AllByRecursion (λ n. (names.attributes n).maker ≡ unit)) q b in
    let e' : has_equality names n ∷ map (has_equality names) rest ≡ has_equality names m ∷ map (has_equality names) others = sym (ap (map (has_equality names)) p) ∙ (e ∙ ap (map (has_equality names)) q) in
    let first : has_equality names n ≡ has_equality names m = cc in
    let next : map (has_equality names) rest ≡ map (has_equality names) others = cc in
    let maker : (names.attributes n).maker ≡ (names.attributes m).maker = a'.0 ∙ sym b'.0 in
    let arity : (names.attributes n).arity ≡ (names.attributes m).arity = y ∙ sym y' in
    let constructors : (names.attributes n).constructors ≡ (names.attributes m).constructors = c ∙ sym c' in
    let one : names.attributes n ≡ names.attributes m = λ i. record { maker = maker i; arity = arity i; equality = first i; constructors = constructors i } in
    let all = equal-kinds names unit ds (n ∷ old) (m ∷ more) rest others h k a'.1 b'.1 next in
    ap (map names.attributes) p ∙ ((λ i. one i ∷ all i) ∙ sym (ap (map names.attributes) q))

-- as many names as datatypes, and as many arguments

pub new-count : {P N : Type 0} (names : Naming N) (ds : List (DatBind P)) (old ns : List N) → AreNew names old ds ns → length ns ≡ length ds
unfolding AreNew
new-count names [] old ns h = ap length h
new-count names (d ∷ ds) old ns (n, rest, o, i, a, c, h, e) = ap length e ∙ ap suc (new-count names ds (n ∷ old) rest h)

arguments-count : {P N : Type 0} (C : Env N) (ds : List (DatBind P)) (gs : List (Arguments N)) → MeanAllArguments C ds gs → length gs ≡ length ds
unfolding MeanAllArguments
arguments-count C [] gs h = ap length h
arguments-count C (d ∷ ds) gs (a, rest, h, k, e) = ap length e ∙ ap suc (arguments-count C ds rest k)

pub same-count : {P N : Type 0} (names : Naming N) (C : Env N) (ds : List (DatBind P)) (old ns : List N) (gs : List (Arguments N)) → AreNew names old ds ns → arguments_of C ds ns ≡ accepted gs → length ns ≡ length gs
same-count names C ds old ns gs h e = new-count names ds old ns h ∙ sym (arguments-count _ ds gs (all-arguments-to _ ds gs e))
