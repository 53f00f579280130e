-- What is specified so far, and new names.
use Rattle.std.proofs.Common.{◌≡◌, ◌<◌, ◌+◌, ℕ, true, false, List, [], ◌∷◌, ◌++◌, Option, Some, None, refl, ap, sym, ◌∙◌, subst, inl, inr, ◌⊎◌, arith}
use Rattle.std.proofs.lemmas.Bool.{true≢false}
use Rattle.std.specs.Option.{is_some, option_map}
use Rattle.std.specs.declared.cmp.Ordering.{Ordering}
use Rattle.std.specs.declared.cmp.Ordering.TheVariants.{Less, Equal, Greater}
use Rattle.std.proofs.lemmas.Cmp.{nat_list_cmp_total, tied_itself}
use Rattle.sml_lex.specs.declared.fault.Place.{Place}
use Rattle.sml_tree.specs.Trees.{Id, Spec, type_spec, val_spec}
use Rattle.sml_objects.specs.Maps.{lookup, order_of}
use Rattle.sml_objects.specs.Objects.{Env, Scheme, Sig, Basis, types, values, one_value, one_type, empty_env, extend_env, extend, mono, named, Outside, names_basis, names_env, names_sig}
use Rattle.sml_objects.specs.Initial.{Name, initial, made, naming}
use Rattle.sml_rules.specs.Every.{Every}
use Rattle.sml_rules.specs.Rules.{Item, a_type, a_value, Specified, IsNew, item_of, both, sum_from}
use Rattle.sml_rules.specs.Answers.{Answer, accepted, refused, After, give, ◌>>=◌}
use Rattle.sml_rules.specs.Readings.{read_spec, read_specs}
use Rattle.sml_rules.proofs.Sound.{bound_by, tested, given, not_refused}
use Rattle.sml_rules.proofs.Within as W
use Rattle.sml_piece.specs.Elaborated.{Tells, IsBelow, read_new, summed}
use Rattle.sml_piece.proofs.Answering.{then_any, then_refused, gives, passes}
use Rattle.sml_lex.specs.Faults as F
use Rattle.sml_objects.proofs.Puts.{at, lookup-put, same_ident}
use Rattle.sml_piece.proofs.Contexts.{value-values, value-types, type-values, type-types}

pub shown : {A B : Type 0} (f : A → B) (o : Option A) → is_some (option_map f o) ≡ is_some o
shown f None = refl
shown f (Some x) = refl

pub tells_nothing : Tells [] empty_env
unfolding Specified
tells_nothing = record { type_stands = λ t h. absurd h; type_specified = λ t h. absurd (true≢false (sym h)); value_stands = λ x h. absurd h; value_specified = λ x h. absurd (true≢false (sym h)) }

-- the identifier of an item
abbrev ident_in : Item → Id
ident_in (a_type t) = t
ident_in (a_value x) = x

abbrev is_type : Item → Type 0
is_type (a_type t) = Unit {0}
is_type (a_value x) = ⊥

there : {X : Type 0} (y x : Id) (v : X) (o : Option X) → (y ≡ x) ⊎ (is_some o ≡ true) → is_some (at (order_of y x) (Some v) o) ≡ true
there y x v o (inl e) = ap (λ q. is_some (at q (Some v) o)) (ap (λ z. order_of z x) e ∙ tied_itself nat_list_cmp_total x)
there y x v o (inr h) = on_order (order_of y x)
  where
    on_order : (q : Ordering) → is_some (at q (Some v) o) ≡ true
    on_order Less = h
    on_order Equal = refl
    on_order Greater = h

from_there : {X : Type 0} (y x : Id) (v : X) (o : Option X) (q : Ordering) → order_of y x ≡ q → is_some (at q (Some v) o) ≡ true → (y ≡ x) ⊎ (is_some o ≡ true)
from_there y x v o Less e h = inr h
from_there y x v o Greater e h = inr h
from_there y x v o Equal e h = inl (same_ident y x e)

or_map : {A B C D : Type 0} → (A → C) → (B → D) → A ⊎ B → C ⊎ D
or_map f g (inl a) = inl (f a)
or_map f g (inr b) = inr (g b)

other : {A B : Type 0} → (A → ⊥) → A ⊎ B → B
other f (inl a) = absurd (f a)
other f (inr b) = b

module _ (seen : List Item) (E : Env Name) (h : Tells seen E) where
  pub tells_type : (t : Id) (θ : Scheme Name) → Tells (a_type t ∷ seen) (extend_env E (one_type t θ))
  unfolding Specified
  tells_type t θ = record {
    type_stands = λ u s. ap is_some (ap (lookup u) (type-types E t θ) ∙ lookup-put u t θ (types E)) ∙ there u t θ (lookup u (types E)) (or_map (ap ident_in) (h.type_stands u) s);
    type_specified = λ u s. or_map (ap a_type) (h.type_specified u) (from_there u t θ (lookup u (types E)) (order_of u t) refl (sym (ap is_some (ap (lookup u) (type-types E t θ) ∙ lookup-put u t θ (types E))) ∙ s));
    value_stands = λ x s. ap (λ m. is_some (lookup x m)) (type-values E t θ) ∙ h.value_stands x (other (λ e. subst is_type (sym e) tt) s);
    value_specified = λ x s. inr (h.value_specified x (sym (ap (λ m. is_some (lookup x m)) (type-values E t θ)) ∙ s));
  }

  pub tells_value : (x : Id) (σ : Scheme Name) → Tells (a_value x ∷ seen) (extend_env E (one_value x σ))
  unfolding Specified
  tells_value x σ = record {
    type_stands = λ t s. ap (λ m. is_some (lookup t m)) (value-types E x σ) ∙ h.type_stands t (other (λ e. subst is_type e tt) s);
    type_specified = λ t s. inr (h.type_specified t (sym (ap (λ m. is_some (lookup t m)) (value-types E x σ)) ∙ s));
    value_stands = λ y s. ap is_some (ap (lookup y) (value-values E x σ) ∙ lookup-put y x σ (values E)) ∙ there y x σ (lookup y (values E)) (or_map (ap ident_in) (h.value_stands y) s);
    value_specified = λ y s. or_map (ap a_value) (h.value_specified y) (from_there y x σ (lookup y (values E)) (order_of y x) refl (sym (ap is_some (ap (lookup y) (value-values E x σ) ∙ lookup-put y x σ (values E))) ∙ s));
  }

-- new names

abbrev new_one : ℕ → ℕ → Name
new_one unit k = made unit k 0 false

abbrev number_in : Name → ℕ
number_in (initial k) = 0
number_in (made u k a q) = k

abbrev maker_in : Name → ℕ
maker_in (initial k) = 0
maker_in (made u k a q) = u

abbrev is_made : Name → Type 0
is_made (initial k) = ⊥
is_made (made u k a q) = Unit {0}

not_below : (unit count : ℕ) (n : Name) → IsBelow unit count n → ¬ (n ≡ new_one unit count)
not_below unit count (initial k) h e = subst is_made (sym e) tt
not_below unit count (made u k a q) h e = let less : k < count = h (ap maker_in e) in let same : k ≡ count = ap number_in e in omega (arith, less, same)

outside : (unit count : ℕ) (ns : List Name) → Every (IsBelow unit count) ns → Outside (new_one unit count) ns
unfolding Outside
outside unit count [] h = tt
outside unit count (n ∷ ns) h = (not_below unit count n h.0, outside unit count ns h.1)

pub is_new : (unit count : ℕ) (B : Basis Name) → Every (IsBelow unit count) (names_basis B) → IsNew naming unit B (new_one unit count)
unfolding IsNew naming
is_new unit count B h = (refl, (λ k e. subst is_made (sym e) tt), outside unit count (names_basis B) h)

-- a greater count

below_more : (unit j k : ℕ) (n : Name) → IsBelow unit j n → IsBelow unit (j + k) n
below_more unit j k (initial i) h = tt
below_more unit j k (made u m a q) h = λ e. let less : m < j = h e in omega (arith, less)

pub all_below_more : (unit j k : ℕ) (ns : List Name) → Every (IsBelow unit j) ns → Every (IsBelow unit (j + k)) ns
all_below_more unit j k [] h = tt
all_below_more unit j k (n ∷ ns) h = (below_more unit j k n h.0, all_below_more unit j k ns h.1)

-- one specification more

pub tells_more : (unit : ℕ) (B : Basis Name) (q : Spec Place) (S : Sig Name) (seen : List Item) (E : Env Name) → read_spec naming unit B q (accepted S)
    → Tells seen E → Tells (item_of q ∷ seen) (extend_env E S.body)
unfolding read_spec
tells_more unit B (type_spec p t) S seen E h k =
    let a = bound_by _ _ S h in
    subst (λ S. Tells (a_type t ∷ seen) (extend_env E S.body)) (sym (given Place _ S a.2)) (tells_type seen E k t (mono (named a.0)))
tells_more unit B (val_spec p x ty) S seen E h k =
    let a = bound_by _ _ S h in
    let b = bound_by _ _ S a.2 in
    subst (λ S. Tells (a_value x ∷ seen) (extend_env E S.body)) (sym (given Place _ S b.2)) (tells_value seen E k x (mono a.0))

pub read_of_new : (unit : ℕ) (B : Basis Name) (seen : List Item) (q : Spec Place) (S : Sig Name) → read_new unit B seen q (accepted S)
    → read_spec naming unit B q (accepted S) × (¬ (Specified (item_of q) seen))
read_of_new unit B seen q S h =
    let a = bound_by _ _ S h in
    let b = bound_by _ _ S a.2 in
    (subst (λ S. read_spec naming unit B q (accepted S)) (sym (given Place a.0 S b.2)) a.1, tested _ _ b.0 b.1)

pub specs_on : (unit : ℕ) (B : Basis Name) (seen : List Item) (q : Spec Place) (qs : List (Spec Place)) (T T' S : Sig Name) (o : Answer Place (Sig Name))
    → read_new unit B seen q (accepted S) → T' ≡ both T S → summed T' (read_specs naming unit (extend B S) (item_of q ∷ seen) qs) o
    → summed T (read_specs naming unit B seen (q ∷ qs)) o
unfolding read_specs ◌>>=◌ After
specs_on unit B seen q qs T T' S o h e (refused f, k, l) =
    let r = read_of_new unit B seen q S h in
    subst (summed T (read_specs naming unit B seen (q ∷ qs))) (sym l)
    (then_refused _ _ f (then_any _ _ S (refused f) r.0 (then_any _ _ tt (refused f) (passes _ _ r.1) (then_refused _ _ f k))))
specs_on unit B seen q qs T T' S o h e (accepted Ss, k, l) =
    let r = read_of_new unit B seen q S h in
    then_any _ _ (S ∷ Ss) o (then_any _ _ S (accepted (S ∷ Ss)) r.0 (then_any _ _ tt (accepted (S ∷ Ss)) (passes _ _ r.1) (then_any _ _ Ss (accepted (S ∷ Ss)) k (gives (S ∷ Ss)))))
    (subst (λ T. give (sum_from T Ss) o) e l)

fault_in : {X : Type 0} → F.Fault Place → Answer Place X → F.Fault Place
fault_in d (refused f) = f
fault_in d (accepted x) = d

refused_same : {X : Type 0} {f g : F.Fault Place} → ◌≡◌ {A = Answer Place X} (refused f) (refused g) → f ≡ g
unfolding fault_in
refused_same {f = f} p = ap (fault_in f) p

pub specs_fault : (unit : ℕ) (B : Basis Name) (seen : List Item) (q : Spec Place) (qs : List (Spec Place)) (T : Sig Name) (f : F.Fault Place)
    → read_new unit B seen q (refused f) → summed T (read_specs naming unit B seen (q ∷ qs)) (refused f)
unfolding read_specs ◌>>=◌ After give
specs_fault unit B seen q qs T f h = then_refused _ _ f (ends h)
  where
    ends : read_new unit B seen q (refused f) → read_specs naming unit B seen (q ∷ qs) (refused f)
    ends (refused g, k, l) = (refused g, k, ap refused (refused_same l))
    ends (accepted S, k, (refused g, l, m)) = (accepted S, k, (refused g, l, ap refused (refused_same m)))
    ends (accepted S, k, (accepted u, l, m)) = absurd (not_refused (sym m))

pub basis_below : (unit k : ℕ) (B : Basis Name) (S : Sig Name) → Every (IsBelow unit k) (names_basis B) → Every (IsBelow unit k) (names_sig S)
    → Every (IsBelow unit k) (names_basis (extend B S))
unfolding extend names_sig names_basis
basis_below unit k B S h g =
    let P = IsBelow unit k in
    W.both P (names_sig S ++ names_basis B) (names_env (extend_env B.body S.body)) (W.both P (names_sig S) (names_basis B) g h)
    (W.extended P B.body S.body (W.last P B.names (names_env B.body) h) (W.last P S.names (names_env S.body) g))

pub sum_below : (unit k : ℕ) (T S : Sig Name) → Every (IsBelow unit k) (names_sig T) → Every (IsBelow unit k) (names_sig S) → Every (IsBelow unit k) (names_sig (both T S))
unfolding names_sig
sum_below unit k T S h g =
    let P = IsBelow unit k in
    W.both P (T.names ++ S.names) (names_env (extend_env T.body S.body))
    (W.both P T.names S.names (W.first P T.names (names_env T.body) h) (W.first P S.names (names_env S.body) g))
    (W.extended P T.body S.body (W.last P T.names (names_env T.body) h) (W.last P S.names (names_env S.body) g))
