-- Mismatches at a place, as faults.
use Rattle.std.proofs.Common.{◌≡◌, ◌≤◌, ℕ, length, take, true, false, not, ◌||◌, List, [], ◌∷◌, ◌++◌, refl, ap, sym, subst, ◌∙◌, append-nil, Option, Some, None, Result, Ok, Err}
use Rattle.std.specs.Global.{Global}
use Rattle.std.specs.declared.rc.Rc.{Rc}
use Rattle.std.specs.Result.{IsErrAnd}
use Rattle.sml_lex.specs.declared.fault.Code.{Code}
use Rattle.sml_lex.specs.declared.fault.Code.TheVariants.{M1, M2, M3}
use Rattle.sml_lex.specs.declared.fault.Place.{Place}
use Rattle.sml_tree.specs.Trees.{Id, LongId}
use Rattle.sml_objects.specs.Appearance.{stands}
use Rattle.sml_objects.specs.Initial.{Name, attributes_of, naming}
use Rattle.sml_objects.specs.Equality.{has_equality}
use Rattle.sml_objects.specs.Objects as O
use Rattle.sml_objects.specs.Maps.{lookup}
use Rattle.sml_rules.specs.Answers.{Answer, accepted, refused, dotted, fault_at}
use Rattle.sml_rules.specs.Lookups.{found, no_path, no_entry, entry}
use Rattle.sml_rules.specs.Matching.{Realisation}
use Rattle.sml_core_rules.specs.Answers as A
use Rattle.sml_core_rules.specs.Lookups.{type_at}
use Rattle.sml_core_rules.specs.Objects.{Env, TyStr, types}
use Rattle.sml_core_rules.specs.States.{Scope, State}
use Rattle.sml_module_rules.specs.Realising as R
use Rattle.sml_module_rules.specs.Lines.{at_path, lines}
use Rattle.sml_module_rules.specs.Matching.{function_for}
use Rattle.sml_bases.specs.Views.{env_of, ty_str_of}
use Rattle.sml_bases.specs.declared.objects.Env as P
use Rattle.sml_bases.specs.declared.objects.TypeStr.{TypeStr}
use Rattle.sml_types.specs.Answered.{env_at}
use Rattle.sml_types.proofs.Paths.{type-long, type-nowhere}
use Rattle.sml_tree.specs.Views.{ident_of}
use Rattle.sml_match.specs.Mismatches.{IsAnswerAt, IsMismatch, IsRefused}
use Rattle.sml_match.specs.Required.{HasRequired, answers}
use Rattle.sml_match.specs.Searches.{AreSought, HasRead, given_so_far, next_of, reading, sought_by}
use Rattle.sml_match.specs.declared.realise.Search.{Search}
use Rattle.sml_match.specs.declared.mismatch.Mismatch.{Mismatch}
use Rattle.sml_match.specs.declared.mismatch.Mismatch.TheVariants.{Memory, Fault}
use Rattle.sml_match.proofs.Held.{no-more}
use Rattle.sml_match.proofs.Reading.{for-nowhere, for-nothing, for-other-arity, for-no-equality, for-found, nothing-left, same-next, then, then-found}
use Rattle.sml_match.proofs.Walks.{Key, Lines, one-structure, refused-too, structures-left, type-taken, types-left}

pub refused-by : {Y : Type 0} (p : Place) (m : Mismatch) (c : Code) (s : List Id) (a : Answer Place Y) → IsMismatch m c s → a ≡ refused (fault_at c p s) → IsRefused p m a
refused-by p Memory c s a h e = tt
refused-by p (Fault d text) c s a h e =
    e
    ∙ ap (λ d. refused (record { code = d; place = p; detail = Some (dotted s) })) (sym h.0)
    ∙ ap (λ t. refused (record { code = d; place = p; detail = Some t })) (sym h.1)

pub unmet : (U : Type 0) (scope : Scope Name) (s : State Place Name) (p : Place) (E : Env Name) (ls : Lines) (m : Mismatch) (c : Code) (path : List Id) → IsMismatch m c path
    → ((rest : Lines) → answers scope s p E (ls ++ rest) (refused (fault_at c p path))) → HasRequired scope s p E {U = U} ls (Err m)
unmet U scope s p E ls Memory c path h a = tt
unmet U scope s p E ls (Fault d text) c path h a = λ rest.
    subst (λ t. answers scope s p E (ls ++ rest) (refused (record { code = d; place = p; detail = Some t }))) (sym h.1)
    (subst (λ d. answers scope s p E (ls ++ rest) (refused (record { code = d; place = p; detail = Some (dotted path) }))) (sym h.0) (a rest))

-- an error that is passed on
pub refused-at : {X Y : Type 0} (view : X → Y) (p : Place) (r : Result X Mismatch) (m : Mismatch) (a : Answer Place Y) → IsErrAnd r (λ e. e ≡ m) → IsRefused p m a → IsAnswerAt view p r a
refused-at view p (Ok x) m a h f = absurd h
refused-at view p (Err e) m a h f = subst (λ q. IsRefused p q a) (sym h) f

pub not-met : {U : Type 0} (scope : Scope Name) (s : State Place Name) (p : Place) (E : Env Name) (ls : Lines) (r : Result U Mismatch) (m : Mismatch) → IsErrAnd r (λ e. e ≡ m)
    → HasRequired scope s p E {U = U} ls (Err m) → HasRequired scope s p E ls r
not-met {U} scope s p E ls (Ok u) m h a = absurd h
not-met {U} scope s p E ls (Err e) m h a = subst (λ q. HasRequired scope s p E {U = U} ls (Err q)) (sym h) a

pub found-type : (E F : Env Name) (x : LongId) (t : TyStr Name) → env_at E x.path ≡ found F → lookup x.last (types F) ≡ Some t → type_at E x ≡ found t
found-type E F x t h k = type-long E F x h ∙ ap entry k

pub no-type : (E F : Env Name) (x : LongId) → env_at E x.path ≡ found F → lookup x.last (types F) ≡ None → type_at E x ≡ no_entry
no-type E F x h k = type-long E F x h ∙ ap entry k

module _ (p : Place) (ns : List Name) (E : Env Name) where
  -- an error that is passed on
  pub not-read : {U : Type 0} (old new : Search) (ls : Lines) (r : Result U Mismatch) (m : Mismatch) → IsErrAnd r (λ e. e ≡ m)
      → ((rest : Lines) → IsRefused p m (reading p ns E (given_so_far old) (ls ++ rest))) → HasRead p ns E old new ls r
  not-read old new ls (Ok u) m h f = absurd h
  not-read old new ls (Err e) m h f = λ rest. subst (λ q. IsRefused p q (reading p ns E (given_so_far old) (ls ++ rest))) (sym h) (f rest)

  -- an environment whose parts are read one after the other
  pub read-on : {U : Type 0} (old mid new : Search) (ls more tail : Lines) (r : Result U Mismatch)
      → ((rest : Lines) → reading p ns E (given_so_far old) (ls ++ rest) ≡ reading p ns E (given_so_far mid) (more ++ (tail ++ rest)))
      → ((φ : Realisation Name) (rest : Lines) → reading p ns E φ (tail ++ rest) ≡ reading p ns E φ rest)
      → HasRead p ns E mid new more r → HasRead p ns E old new ls r
  read-on old mid new ls more tail (Ok u) go skip h = λ rest. go rest ∙ h (tail ++ rest) ∙ skip (given_so_far new) rest
  read-on old mid new ls more tail (Err m) go skip h = λ rest. refused-too p m _ _ (go rest) (h (tail ++ rest))

  then-refused : (m : Mismatch) (φ : Realisation Name) (n : Name) (ls : Lines) (a : Answer Place (O.Scheme Name)) → IsRefused p m a → IsRefused p m (then p ns E φ n ls a)
  unfolding A.◌>>=◌
  then-refused Memory φ n ls a h = tt
  then-refused (Fault c text) φ n ls a h = ap (then p ns E φ n ls) h

  pub type-refused : (m : Mismatch) (φ : Realisation Name) (path : List Id) (t u : List (Key × TypeStr)) (k : Key) (a : TypeStr) (n : Name) (rest : Lines) → t ≡ (k, a) ∷ u
      → next_of ns φ (ty_str_of a).function ≡ Some n → IsRefused p m (function_for naming p ns E (at_path path (ident_of k)) n (ty_str_of a))
      → IsRefused p m (reading p ns E φ (types-left path t ++ rest))
  type-refused m φ path t u k a n rest h e f =
      refused-too p m _ _ (type-taken p ns E φ path t u k a n rest h e) (then-refused m φ n (types-left path u ++ rest) _ f)

  pub type-on : (φ ψ : Realisation Name) (path : List Id) (t u : List (Key × TypeStr)) (k : Key) (a : TypeStr) (n : Name) (θ : O.Scheme Name) (rest : Lines) → t ≡ (k, a) ∷ u
      → next_of ns φ (ty_str_of a).function ≡ Some n → function_for naming p ns E (at_path path (ident_of k)) n (ty_str_of a) ≡ accepted θ
      → ((m : Name) → ψ m ≡ R.with_function naming n θ φ m)
      → reading p ns E φ (types-left path t ++ rest) ≡ reading p ns E ψ (types-left path u ++ rest)
  type-on φ ψ path t u k a n θ rest h e f g =
      type-taken p ns E φ path t u k a n rest h e
      ∙ then-found p ns E φ n (types-left path u ++ rest) _ θ f
      ∙ (λ i. reading p ns E (λ m. sym (g m) i) (types-left path u ++ rest))

  -- all that is read, where no name had a function at first
  same-start : (old : Search) (ls : Lines) → ((n : Name) → given_so_far old n ≡ None) → reading p ns E (R.no_function naming) ls ≡ reading p ns E (given_so_far old) (ls ++ [])
  same-start old ls z = (λ i. reading p ns E (λ n. sym (z n) i) ls) ∙ ap (λ l. reading p ns E (given_so_far old) l) (sym (append-nil ls))

  pub all-read : {U : Type 0} (old new : Search) (ls : Lines) (u : U) → HasRead p ns E old new ls (Ok u) → ((n : Name) → given_so_far old n ≡ None)
      → reading p ns E (R.no_function naming) ls ≡ accepted (given_so_far new)
  all-read old new ls u h z = same-start old ls z ∙ h [] ∙ nothing-left p ns E (given_so_far new)

  pub not-all-read : (m : Mismatch) (old : Search) (ls : Lines) → ((rest : Lines) → IsRefused p m (reading p ns E (given_so_far old) (ls ++ rest))) → ((n : Name) → given_so_far old n ≡ None)
      → IsRefused p m (reading p ns E (R.no_function naming) ls)
  not-all-read m old ls h z = refused-too p m _ _ (same-start old ls z) (h [])

-- the next name, by what is sought
pub next-is : (old s : Search) (ns : List Name) (θ η : O.Scheme Name) (o : Option Name) → AreSought old ns → sought_by s ≡ sought_by old
    → o ≡ next_of (sought_by s) (given_so_far s) η → η ≡ θ → next_of ns (given_so_far s) θ ≡ o
next-is old s ns θ η o so e h g =
    sym (same-next (sought_by s) ns (given_so_far s) θ (λ n. ap (stands naming n) e ∙ so n)) ∙ sym (h ∙ ap (next_of (sought_by s) (given_so_far s)) g)

names-equality : (n : Name) → has_equality naming n ≡ (attributes_of n).equality
unfolding naming
names-equality n = refl

-- what a structure has for a sought name, by what stands at the end of the path
module _ (p : Place) (ns : List Name) (E : Env Name) (path way : List Id) (x : Id) (n : Name) (t : TyStr Name) (m : Mismatch) where
  abbrev Refuses : Type 0
  Refuses = IsRefused p m (function_for naming p ns E (at_path path x) n t)

  pub at-missing : (k : ℕ) → (k ≤ length path) × (env_at E path ≡ no_path (take k path)) → way ≡ path ++ x ∷ [] → IsMismatch m M1 (take k way) → Refuses
  at-missing k h e i =
      refused-by p m M1 (take k way) _ i
      (for-nowhere p ns E (at_path path x) n t (take k path) (type-nowhere E (at_path path x) (take k path) h.1)
      ∙ ap (λ s. refused (fault_at M1 p s)) (sym (ap (take k) e ∙ no-more path k x h.0)))

  pub at-nothing : (F : Env Name) → env_at E path ≡ found F → lookup x (types F) ≡ None → way ≡ path ++ x ∷ [] → IsMismatch m M1 way → Refuses
  at-nothing F h k e i =
      refused-by p m M1 way _ i
      (for-nothing p ns E (at_path path x) n t (no-type E F (at_path path x) h k) ∙ ap (λ s. refused (fault_at M1 p s)) (sym e))

  pub at-other-arity : (F : Env Name) (u : TyStr Name) → env_at E path ≡ found F → lookup x (types F) ≡ Some u → way ≡ path ++ x ∷ []
      → ¬ (length u.function.variables ≡ length t.function.variables) → IsMismatch m M2 way → Refuses
  at-other-arity F u h k e a i =
      refused-by p m M2 way _ i
      (for-other-arity p ns E (at_path path x) n t u (found-type E F (at_path path x) u h k) a ∙ ap (λ s. refused (fault_at M2 p s)) (sym e))

  pub at-no-equality : (F : Env Name) (u : TyStr Name) → env_at E path ≡ found F → lookup x (types F) ≡ Some u → way ≡ path ++ x ∷ []
      → length u.function.variables ≡ length t.function.variables → (attributes_of n).equality ≡ true → R.admits_function naming u.function ≡ false → IsMismatch m M3 way → Refuses
  at-no-equality F u h k e a q b i =
      refused-by p m M3 way _ i
      (for-no-equality p ns E (at_path path x) n t u (found-type E F (at_path path x) u h k) a (names-equality n ∙ q) b ∙ ap (λ s. refused (fault_at M3 p s)) (sym e))

pub at-found : (p : Place) (ns : List Name) (E F : Env Name) (path : List Id) (x : Id) (n : Name) (t u : TyStr Name) → env_at E path ≡ found F → lookup x (types F) ≡ Some u
    → length u.function.variables ≡ length t.function.variables → (not (attributes_of n).equality || R.admits_function naming u.function) ≡ true
    → function_for naming p ns E (at_path path x) n t ≡ accepted u.function
at-found p ns E F path x n t u h k a q =
    for-found p ns E (at_path path x) n t u (found-type E F (at_path path x) u h k) a
    (ap (λ b. not b || R.admits_function naming u.function) (names-equality n) ∙ q)

module _ (p : Place) (ns : List Name) (E F : Env Name) (φ : Realisation Name) (path way : List Id) (t u : List (Key × Rc P.Env Global)) (k : Key) (a : Rc P.Env Global) (rest : Lines)
    (first : t ≡ (k, a) ∷ u) (e : way ≡ path ++ ident_of k ∷ []) (inside : F ≡ env_of a.value) where
  to-inside : reading p ns E φ (structures-left path t ++ rest) ≡ reading p ns E φ (lines way F ++ (structures-left path u ++ rest))
  to-inside = one-structure p ns E φ path t u k a rest first ∙ (λ i. reading p ns E φ (lines (sym e i) (sym inside i) ++ (structures-left path u ++ rest)))

  -- a structure whose lines were read
  pub structure-on : (ψ : Realisation Name) → ((more : Lines) → reading p ns E φ (lines way F ++ more) ≡ reading p ns E ψ more)
      → reading p ns E φ (structures-left path t ++ rest) ≡ reading p ns E ψ (structures-left path u ++ rest)
  structure-on ψ h = to-inside ∙ h (structures-left path u ++ rest)

  pub structure-refused : (m : Mismatch) → ((more : Lines) → IsRefused p m (reading p ns E φ (lines way F ++ more))) → IsRefused p m (reading p ns E φ (structures-left path t ++ rest))
  structure-refused m h = refused-too p m _ _ to-inside (h (structures-left path u ++ rest))
