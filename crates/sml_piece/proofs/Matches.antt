-- Readings that go through a list, item by item.
use Rattle.std.proofs.Common.{◌≡◌, ℕ, Bool, cond, Option, Some, None, List, [], ◌∷◌, ◌++◌, length, IsSome, unwrap_or, Bor, Vec, Global, map, true, false, inl, inr, refl, ap, sym, ◌∙◌, subst}
use Rattle.std.proofs.lemmas.Bool.{true≢false}
use Rattle.std.proofs.lemmas.Option.{none-some}
use Rattle.std.proofs.lemmas.List.{map-append, nil_from_length}
use Rattle.std.specs.Map.Iter.{deref_pair}
use Rattle.std.specs.declared.rc.Rc.{Rc}
use Rattle.std.specs.Option.{is_some}
use Rattle.sml_lex.specs.declared.fault.Place.{Place}
use Rattle.sml_lex.specs.declared.fault.Code.TheVariants.{M1, M2, M4, M6}
use Rattle.sml_lex.specs.Faults as F
use Rattle.sml_tree.specs.Trees.{Id}
use Rattle.sml_objects.specs.Maps.{lookup}
use Rattle.sml_objects.specs.Objects as O
use Rattle.sml_objects.specs.Objects.{types, values}
use Rattle.sml_objects.specs.Initial.{Name, naming}
use Rattle.sml_tree.specs.Views.{ident_of}
use Rattle.sml_objects.specs.Views.{scheme_of, schemes_of}
use Rattle.sml_objects.specs.declared.objects.Scheme.{Scheme}
use Rattle.sml_rules.specs.Matching.{Realisation, realise_type, realise_types, realise_scheme, realised_by, is_name, apply_to}
use Rattle.sml_rules.specs.Open.{OpenFunctions, PlainFunctions, PlainValues}
use Rattle.sml_rules.proofs.Open.{open_at, same_where_open}
use Rattle.sml_objects.specs.Types.{argument}
use Rattle.sml_rules.specs.Answers.{Answer, Reading, refused, accepted, After, give, ◌>>=◌, test, fault_at}
use Rattle.sml_rules.specs.Readings.{read_names, read_types, read_values}
use Rattle.sml_piece.specs.Elaborated.{or_else}
use Rattle.sml_piece.specs.CodeMatched.{read_name, read_value, PlainUnder}
use Rattle.sml_rules.specs.Rules.{IsInstance, IsOpen, AreOpen}
use Rattle.sml_piece.proofs.Answering.{passes, fails, then_any, then_refused, gives}

abbrev Item : Type 0
Item = Id × O.Scheme Name

abbrev Test : Type 1
Test = Reading Place (Unit {0})

abbrev yes_answer : Answer Place (Unit {0})
yes_answer = accepted tt

-- A reading that asks one thing of each item of a list.
pub record IsEach (R : List Item → Test) (S : Item → Test) : Type 0 where
  pub none : R [] (accepted tt)
  pub on : (x : Item) (xs : List Item) (o : Answer Place (Unit {0})) → S x (accepted tt) → R xs o → R (x ∷ xs) o
  pub stop : (x : Item) (xs : List Item) (f : F.Fault Place) → S x (refused f) → R (x ∷ xs) (refused f)
  pub parts : (x : Item) (xs : List Item) → R (x ∷ xs) (accepted tt) → S x (accepted tt) × R xs (accepted tt)

pub each_after : (R : List Item → Test) (S : Item → Test) → IsEach R S → (xs ys : List Item) (o : Answer Place (Unit {0})) → R xs (accepted tt) → R ys o → R (xs ++ ys) o
each_after R S e [] ys o h k = k
each_after R S e (x ∷ xs) ys o h k = let p = e.parts x xs h in e.on x (xs ++ ys) o p.0 (each_after R S e xs ys o p.1 k)

pub more : (R : List Item → Test) (S : Item → Test) → IsEach R S → (xs : List Item) (x : Item) → R xs (accepted tt) → S x (accepted tt) → R (xs ++ x ∷ []) (accepted tt)
more R S e xs x h k = each_after R S e xs (x ∷ []) (accepted tt) h (e.on x [] (accepted tt) k e.none)

pub stops_at : (R : List Item → Test) (S : Item → Test) → IsEach R S → (xs : List Item) (x : Item) (ys : List Item) (f : F.Fault Place) → R xs (accepted tt) → S x (refused f)
    → R (xs ++ x ∷ ys) (refused f)
stops_at R S e xs x ys f h k = each_after R S e xs (x ∷ ys) (refused f) h (e.stop x ys f k)

not_both : {f : F.Fault Place} → yes_answer ≡ refused f → ⊥
not_both e = cc

-- two tests, and what is asked then
then_rest : (C D : Type 0) (f g : F.Fault Place) (next : Test) (o : Answer Place (Unit {0}))
    → (test C f >>= (λ u. test D g >>= (λ v. give {X = Unit {0}} tt))) (accepted tt) → next o → (test C f >>= (λ u. test D g >>= (λ v. next))) o
unfolding ◌>>=◌ After give
then_rest C D f g next o (accepted u, h, (accepted v, k, e)) r = (accepted u, h, (accepted v, k, r))
then_rest C D f g next o (accepted u, h, (refused i, k, e)) r = absurd (not_both e)
then_rest C D f g next o (refused i, h, e) r = absurd (not_both e)

stop_there : (C D : Type 0) (f g : F.Fault Place) (next : Test) (i : F.Fault Place)
    → (test C f >>= (λ u. test D g >>= (λ v. give {X = Unit {0}} tt))) (refused i) → (test C f >>= (λ u. test D g >>= (λ v. next))) (refused i)
unfolding ◌>>=◌ After give
stop_there C D f g next i (accepted u, h, (accepted v, k, e)) = absurd (not_both (sym e))
stop_there C D f g next i (accepted u, h, (refused j, k, e)) = (accepted u, h, (refused j, k, e))
stop_there C D f g next i (refused j, h, e) = (refused j, h, e)

both_parts : (C D : Type 0) (f g : F.Fault Place) (next : Test) → (test C f >>= (λ u. test D g >>= (λ v. next))) (accepted tt)
    → (test C f >>= (λ u. test D g >>= (λ v. give {X = Unit {0}} tt))) (accepted tt) × next (accepted tt)
unfolding ◌>>=◌ After give
both_parts C D f g next (accepted u, h, (accepted v, k, r)) = ((accepted u, h, (accepted v, k, refl)), r)
both_parts C D f g next (accepted u, h, (refused i, k, e)) = absurd (not_both e)
both_parts C D f g next (refused i, h, e) = absurd (not_both e)

-- one test, and what is asked then
type_parts : (C : Type 0) (f : F.Fault Place) (next : Test) → (test C f >>= (λ u. next)) (accepted tt) → test C f (accepted tt) × next (accepted tt)
unfolding ◌>>=◌ After
type_parts C f next (accepted u, h, r) = (h, r)
type_parts C f next (refused i, h, e) = absurd (not_both e)

module _ (p : Place) (E : O.Env Name) where
  pub names_each : IsEach (read_names naming p E) (read_name p E)
  unfolding read_names give
  names_each = record {
    none = refl;
    on = λ x xs o h k. then_rest _ _ _ _ _ o h k;
    stop = λ x xs f h. stop_there _ _ _ _ _ f h;
    parts = λ x xs h. both_parts _ _ _ _ _ h;
  }

  pub values_each : (φ : Realisation Name) → IsEach (read_values naming p E φ) (read_value p E φ)
  unfolding read_values give
  values_each φ = record {
    none = refl;
    on = λ x xs o h k. then_rest _ _ _ _ _ o h k;
    stop = λ x xs f h. stop_there _ _ _ _ _ f h;
    parts = λ x xs h. both_parts _ _ _ _ _ h;
  }

  pub types_each : (φ : Realisation Name) → IsEach (read_types naming p E φ) (λ x. test (lookup x.0 (types E) ≡ Some (realise_scheme φ x.1)) (fault_at M4 p (x.0 ∷ [])))
  unfolding read_types give ◌>>=◌ After
  types_each φ = record {
    none = refl;
    on = λ x xs o h k. (accepted tt, h, k);
    stop = λ x xs f h. (refused f, h, refl);
    parts = λ x xs h. type_parts _ _ _ h;
  }

is_there : {X : Type 0} (o : Option X) (x : X) → o ≡ Some x → IsSome o
is_there o x e = ap is_some e

not_there : {X : Type 0} (o : Option X) → o ≡ None → ¬ (IsSome o)
not_there o e h = true≢false (sym h ∙ ap is_some e)

pub some_same : {X : Type 0} (x y : X) → Some x ≡ Some y → x ≡ y
some_same x y e = ap (λ o. unwrap_or o x) e

only : {X : Type 0} (o : Option X) (x y : X) → o ≡ Some x → o ≡ Some y → x ≡ y
only o x y h k = some_same x y (sym h ∙ k)

tested : (C : Type 0) (f : F.Fault Place) → test C f (accepted tt) → C
unfolding test
tested C f (inl (h, e)) = h
tested C f (inr (h, e)) = absurd (not_both e)

module _ (p : Place) (E : O.Env Name) (x : Item) where
  pub found_there : read_name p E x (accepted tt) → IsSome (lookup x.0 (types E))
  unfolding ◌>>=◌ After
  found_there (accepted u, h, r) = tested _ _ h
  found_there (refused f, h, e) = absurd (not_both e)

  pub arity_there : read_name p E x (accepted tt) → (θ : O.Scheme Name) → lookup x.0 (types E) ≡ Some θ → length θ.variables ≡ length x.1.variables
  unfolding ◌>>=◌ After
  arity_there (accepted u, h, (accepted v, k, e)) = tested _ _ k
  arity_there (accepted u, h, (refused f, k, e)) = absurd (not_both e)
  arity_there (refused f, h, e) = absurd (not_both e)

  pub name_there : (θ : O.Scheme Name) → lookup x.0 (types E) ≡ Some θ → length θ.variables ≡ length x.1.variables → read_name p E x (accepted tt)
  name_there θ h k =
      then_any _ _ tt _ (passes _ _ (is_there _ θ h)) (then_any _ _ tt _ (passes _ _ (λ σ e. ap (λ s. length s.variables) (only _ σ θ e h) ∙ k)) (gives tt))

  pub name_arity : (θ : O.Scheme Name) → lookup x.0 (types E) ≡ Some θ → ¬ (length θ.variables ≡ length x.1.variables) → read_name p E x (refused (fault_at M2 p (x.0 ∷ [])))
  name_arity θ h k = then_any _ _ tt _ (passes _ _ (is_there _ θ h)) (then_refused _ _ _ (fails _ _ (λ f. k (f θ h))))

  pub name_missing : lookup x.0 (types E) ≡ None → read_name p E x (refused (fault_at M1 p (x.0 ∷ [])))
  name_missing h = then_refused _ _ _ (fails _ _ (not_there _ h))

  pub value_there : (φ : Realisation Name) (σ : O.Scheme Name) → lookup x.0 (values E) ≡ Some σ → IsInstance σ (realise_type φ x.1.body) → read_value p E φ x (accepted tt)
  value_there φ σ h k =
      then_any _ _ tt _ (passes _ _ (is_there _ σ h)) (then_any _ _ tt _ (passes _ _ (λ τ e. subst (λ s. IsInstance s (realise_type φ x.1.body)) (only _ σ τ h e) k)) (gives tt))

  pub value_not : (φ : Realisation Name) (σ : O.Scheme Name) → lookup x.0 (values E) ≡ Some σ → ¬ (IsInstance σ (realise_type φ x.1.body))
      → read_value p E φ x (refused (fault_at M6 p (x.0 ∷ [])))
  value_not φ σ h k = then_any _ _ tt _ (passes _ _ (is_there _ σ h)) (then_refused _ _ _ (fails _ _ (λ f. k (f σ h))))

  pub value_missing : (φ : Realisation Name) → lookup x.0 (values E) ≡ None → read_value p E φ x (refused (fault_at M1 p (x.0 ∷ [])))
  value_missing φ h = then_refused _ _ _ (fails _ _ (not_there _ h))

pub realised_none : (E : O.Env Name) (n : Name) → realised_by naming E [] n ≡ None
unfolding realised_by
realised_none E n = refl

-- where all names asked for so far are there, one more is sent to its type function
pub realised_more : (p : Place) (E : O.Env Name) (xs : List Item) (x : Item) (θ : O.Scheme Name) (n : Name) → read_names naming p E xs (accepted tt)
    → lookup x.0 (types E) ≡ Some θ → realised_by naming E (xs ++ x ∷ []) n ≡ or_else (realised_by naming E xs n) (cond (is_name naming n x.1.body) (Some θ) None)
unfolding realised_by
realised_more p E [] x θ n r h = ap (λ o. cond (is_name naming n x.1.body) o None) h
realised_more p E (y ∷ xs) x θ n r h =
    let q = (names_each p E).parts y xs r in
    chosen (is_name naming n y.1.body) (lookup y.0 (types E)) _ (realised_by naming E xs n) _ (found_there p E y q.0) (realised_more p E xs x θ n q.1 h)
  where
    chosen : (b : Bool) (o a c d : Option (O.Scheme Name)) → IsSome o → a ≡ or_else c d → cond b o a ≡ or_else (cond b o c) d
    chosen true None a c d s e = absurd (true≢false (sym s))
    chosen true (Some u) a c d s e = refl
    chosen false o a c d s e = e

-- the entries that a loop over a map has seen, and one more
abbrev Lent : Type 0
Lent = List (Bor (Rc (Vec ℕ Global) Global) × Bor (Rc Scheme Global))

pub entries_more : (ys : Lent) (x : Bor (Rc (Vec ℕ Global) Global)) (s : Bor (Rc Scheme Global))
    → schemes_of (map deref_pair (ys ++ (x, s) ∷ [])) ≡ schemes_of (map deref_pair ys) ++ (ident_of x.now, scheme_of s.now.value) ∷ []
entries_more ys x s =
    ap schemes_of (map-append deref_pair ys ((x, s) ∷ [])) ∙ map-append (λ e. (ident_of e.0, scheme_of e.1.value)) (map deref_pair ys) ((x.now, s.now) ∷ [])

-- all entries: those seen, the one at hand, and those after it
pub entries_split : (all s t u : List (Rc (Vec ℕ Global) Global × Rc Scheme Global)) (ys : Lent) (x : Bor (Rc (Vec ℕ Global) Global)) (σ : Bor (Rc Scheme Global))
    → s ≡ all → s ≡ map deref_pair ys ++ t → t ≡ (x.now, σ.now) ∷ u
    → schemes_of all ≡ schemes_of (map deref_pair ys) ++ (ident_of x.now, scheme_of σ.now.value) ∷ schemes_of u
entries_split all s t u ys x σ h k e =
    ap schemes_of (sym h ∙ k ∙ ap (λ l. map deref_pair ys ++ l) e) ∙ map-append (λ e. (ident_of e.0, scheme_of e.1.value)) (map deref_pair ys) ((x.now, σ.now) ∷ u)

pub plain_at : (φ : Realisation Name) (xs ys : List Item) (x : Item) → PlainUnder φ (xs ++ x ∷ ys) → IsOpen (realise_type φ x.1.body)
plain_at φ [] ys x h = h.0
plain_at φ (y ∷ xs) ys x h = plain_at φ xs ys x h.1

-- the type functions of the names of plain types have no bound variable
pub open_sent : (p : Place) (E : O.Env Name) (xs : List Item) → OpenFunctions (types E) → PlainFunctions xs → read_names naming p E xs (accepted tt)
    → (n : Name) (θ : O.Scheme Name) → realised_by naming E xs n ≡ Some θ → IsOpen θ.body
unfolding realised_by PlainFunctions
open_sent p E [] o plain r n θ e = absurd (none-some θ e)
open_sent p E (x ∷ xs) o plain r n θ e =
    let q = (names_each p E).parts x xs r in
    chosen (is_name naming n x.1.body) (lookup x.0 (types E)) (realised_by naming E xs n) e
    (λ h. open_at x.0 (types E) θ o h (nil_from_length θ.variables (arity_there p E x q.0 θ h ∙ ap length plain.0))) (λ h. open_sent p E xs o plain.1 q.1 n θ h)
  where
    chosen : (b : Bool) (o a : Option (O.Scheme Name)) → cond b o a ≡ Some θ → (o ≡ Some θ → IsOpen θ.body) → (a ≡ Some θ → IsOpen θ.body) → IsOpen θ.body
    chosen true o a e h k = h e
    chosen false o a e h k = k e

module _ (φ : Realisation Name) (sent : (n : Name) (θ : O.Scheme Name) → φ n ≡ Some θ → IsOpen θ.body) where
  by_function : (n : Name) (ts : O.MlTypes Name) → AreOpen ts → (o : Option (O.Scheme Name)) → φ n ≡ o → IsOpen (apply_to n ts o)
  unfolding IsOpen
  by_function n ts h None e = h
  by_function n ts h (Some θ) e = subst IsOpen (sym (same_where_open (argument ts) θ.body (sent n θ e))) (sent n θ e)

  mutual
    unfolding realise_type IsOpen

    realised_open : (t : O.MlType Name) → IsOpen t → IsOpen (realise_type φ t)
    realised_open (O.bound k) h = h
    realised_open (O.free v) h = h
    realised_open (O.app O.arrow ts) h = all_realised_open ts h
    realised_open (O.app (O.row ls) ts) h = all_realised_open ts h
    realised_open (O.app (O.name n) ts) h = by_function n (realise_types φ ts) (all_realised_open ts h) (φ n) refl

    all_realised_open : (ts : O.MlTypes Name) → AreOpen ts → AreOpen (realise_types φ ts)
    all_realised_open O.no_type h = h
    all_realised_open (O.and_type t ts) h = (realised_open t h.0, all_realised_open ts h.1)

  pub plain_under : (xs : List Item) → PlainValues xs → PlainUnder φ xs
  unfolding PlainValues
  plain_under [] h = tt
  plain_under (x ∷ xs) h = (realised_open x.1.body h.0, plain_under xs h.1)
