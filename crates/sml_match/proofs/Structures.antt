-- Structures at a path, and the next of a map after those that have what is specified.
use Rattle.std.proofs.Common.{◌≡◌, ℕ, suc, List, [], ◌∷◌, ◌++◌, length, refl, ap, sym, subst, ◌∙◌, append_assoc, arith, Some, None, Result, Ok, Err}
use Rattle.std.proofs.lemmas.List.{length-append, take_all}
use Rattle.std.specs.Global.{Global}
use Rattle.std.specs.declared.cmp.Ordering.{Ordering}
use Rattle.std.specs.declared.cmp.Ordering.TheVariants.{Less, Equal, Greater}
use Rattle.std.specs.declared.rc.Rc.{Rc}
use Rattle.sml_lex.specs.declared.fault.Code.TheVariants.{M1}
use Rattle.sml_lex.specs.declared.fault.Place.{Place}
use Rattle.sml_tree.specs.Trees.{Id, LongId}
use Rattle.sml_tree.specs.Views.{ident_of}
use Rattle.sml_objects.specs.Initial.{Name}
use Rattle.sml_objects.specs.Maps.{by_order, order_of}
use Rattle.sml_objects.specs.Views.{entries_of}
use Rattle.sml_rules.specs.Answers.{fault_at, refused}
use Rattle.sml_rules.specs.Lookups.{Found, found, no_path}
use Rattle.sml_core_rules.specs.Lookups.{structure_at}
use Rattle.sml_core_rules.specs.Objects as O
use Rattle.sml_core_rules.specs.Objects.{Env, TyStr, Value, maps, no_structure, and_structure, find_structure, structures, values}
use Rattle.sml_core_rules.specs.Scopes.{run_scope}
use Rattle.sml_core_rules.specs.Scripts.{IsAnswer, look, ◌>>=◌}
use Rattle.sml_core_rules.specs.States.{Scope, State}
use Rattle.sml_module_rules.specs.Lines.{a_structure, at_path, component, lines}
use Rattle.sml_module_rules.specs.Matching.{require_lines}
use Rattle.sml_bases.specs.Views.{env_of, structures_of, value_of}
use Rattle.sml_bases.specs.declared.objects.Env as P
use Rattle.sml_bases.specs.declared.objects.Env.TheViews.{out-Env}
use Rattle.sml_bases.proofs.EnvViews.{env_of-out}
use Rattle.sml_types.specs.Answered.{env_at}
use Rattle.sml_match.specs.Mismatches.{IsMismatch}
use Rattle.sml_match.specs.Required.{AreClosedValues, AreKnownValues, HasClosedValues, HaveClosedValues, HasKnownValues, HaveKnownValues, HasRequired, answers}
use Rattle.sml_match.specs.declared.mismatch.Mismatch.{Mismatch}
use Rattle.sml_match.specs.declared.mismatch.Mismatch.TheVariants.{Memory, Fault}
use Rattle.sml_match.proofs.Held.{held-inside, held-nowhere}
use Rattle.sml_match.proofs.Refusals.{unmet}
use Rattle.sml_match.proofs.Requiring.{Outcome}
use Rattle.sml_match.proofs.Values.{values-left}
use Rattle.sml_match.proofs.Walks.{Key, Lines, structures-left, types-left}

-- an environment by its maps

pub env-lines : (path : List Id) (e : P.Env) → lines path (env_of e)
    ≡ structures-left path (out-Env e).structures.entries ++ (types-left path (out-Env e).types.entries ++ values-left path (out-Env e).values.entries)
unfolding lines
env-lines path e = ap (lines path) (env_of-out e)

pub closed-values : (E : Env Name) → HasClosedValues E → AreClosedValues (values E)
unfolding HasClosedValues
closed-values (maps ss ts vs) h = h.1

closed-structures : (E : Env Name) → HasClosedValues E → HaveClosedValues (structures E)
unfolding HasClosedValues
closed-structures (maps ss ts vs) h = h.0

pub known-parts : (e : P.Env) → HasKnownValues (env_of e) → HaveKnownValues (structures_of (entries_of (λ s. env_of s.value) (out-Env e).structures.entries)) × AreKnownValues (entries_of value_of (out-Env e).values.entries)
unfolding HasKnownValues
known-parts e h = subst HasKnownValues (env_of-out e) h

pub closed-found : (k : Id) (E F : Env Name) → HasClosedValues E → find_structure k (structures E) ≡ Some F → HasClosedValues F
unfolding HasClosedValues
closed-found k E F h e = inside (structures E) (closed-structures E h) e
  where
    inside : (ss : O.Structures (TyStr Name) (Value Name)) → HaveClosedValues ss → find_structure k ss ≡ Some F → HasClosedValues F
    inside no_structure h e = let f : None ≡ Some F = e in absurd cc
    inside (and_structure r D ss) h e = go (order_of k r) e (λ e. inside ss h.1 e)
      where
        go : (o : Ordering) → by_order o (find_structure k ss) (Some D) (find_structure k ss) ≡ Some F → (find_structure k ss ≡ Some F → HasClosedValues F) → HasClosedValues F
        go Less e n = n e
        go Equal e n = let f : Some D ≡ Some F = e in let g : D ≡ F = cc in subst HasClosedValues g h.0
        go Greater e n = n e

-- lines after lines

module _ (scope : Scope Name) (s : State Place Name) (p : Place) (E : Env Name) where
  pub required-then : (ls ks : Lines) (r : Result (Unit {0}) Mismatch) → HasRequired scope s p E {U = Unit {0}} ls (Ok tt) → HasRequired scope s p E ks r → HasRequired scope s p E (ls ++ ks) r
  required-then ls ks (Ok v) h g = λ rest o a. subst (λ l. answers scope s p E l o) (sym (append_assoc ls ks rest)) (h (ks ++ rest) o (g rest o a))
  required-then ls ks (Err Memory) h g = tt
  required-then ls ks (Err (Fault c t)) h g = λ rest. subst (λ l. answers scope s p E l (refused (record { code = c; place = p; detail = Some t.items }))) (sym (append_assoc ls ks rest)) (h (ks ++ rest) (refused (record { code = c; place = p; detail = Some t.items })) (g rest))

  pub required-not : (U : Type 0) (ls ks : Lines) (m : Mismatch) → HasRequired scope s p E {U = U} ls (Err m) → HasRequired scope s p E {U = U} (ls ++ ks) (Err m)
  required-not U ls ks Memory h = tt
  required-not U ls ks (Fault c t) h = λ rest. subst (λ l. answers scope s p E l (refused (record { code = c; place = p; detail = Some t.items }))) (sym (append_assoc ls ks rest)) (h (ks ++ rest))

  -- the line of a structure

  at-line : (x : LongId) (ls : Lines) (r : Found (Env Name)) (o : Outcome) → structure_at E x ≡ r → IsAnswer scope (look (component p x r) >>= (λ F. require_lines scope p E ls)) s o
      → answers scope s p E ((x, a_structure) ∷ ls) o
  unfolding require_lines
  at-line x ls r o h a = subst (λ r. IsAnswer scope (look (component p x r) >>= (λ F. require_lines scope p E ls)) s o) (sym h) a

  structure-met : (x : LongId) (ls : Lines) (F : Env Name) (o : Outcome) → structure_at E x ≡ found F → answers scope s p E ls o → answers scope s p E ((x, a_structure) ∷ ls) o
  unfolding ◌>>=◌ IsAnswer
  structure-met x ls F o h a = at-line x ls (found F) o h a

  no-such-structure : (x : LongId) (ls : Lines) (t : List Id) → structure_at E x ≡ no_path t → answers scope s p E ((x, a_structure) ∷ ls) (refused (fault_at M1 p t))
  unfolding ◌>>=◌ IsAnswer
  no-such-structure x ls t h = at-line x ls (no_path t) _ h refl

structure-there : (E F G : Env Name) (path : List Id) (k : Id) → env_at E path ≡ found F → find_structure k (structures F) ≡ Some G → structure_at E (at_path path k) ≡ found G
unfolding structure_at
structure-there E F G path k h g = held-inside E F G path k h g

structure-missing : (E F : Env Name) (path : List Id) (k : Id) → env_at E path ≡ found F → find_structure k (structures F) ≡ None → structure_at E (at_path path k) ≡ no_path (path ++ k ∷ [])
unfolding structure_at
structure-missing E F path k h g =
    let n = length-append path (k ∷ []) in
    (held-nowhere E F path k (suc (length path)) h g refl).1 ∙ ap no_path (take_all (suc (length path)) (path ++ k ∷ []) (omega (arith, n)))

module _ (unit : ℕ) (s : State Place Name) (p : Place) (E F : Env Name) (path : List Id) (all rest u : List (Key × Rc P.Env Global)) (k : Key) (a : Rc P.Env Global)
    (first : rest ≡ (k, a) ∷ u) (way : List Id) (e : way ≡ path ++ ident_of k ∷ []) (h : env_at E path ≡ found F)
    (so-far : (more : Lines) (o : Outcome) → answers (run_scope unit) s p E (structures-left path rest ++ more) o → answers (run_scope unit) s p E (structures-left path all ++ more) o) where
  abbrev here : Lines
  here = lines (path ++ ident_of k ∷ []) (env_of a.value)

  from-next : (more : Lines) (o : Outcome) → answers (run_scope unit) s p E ((at_path path (ident_of k), a_structure) ∷ ((here ++ structures-left path u) ++ more)) o → answers (run_scope unit) s p E (structures-left path all ++ more) o
  unfolding lines
  from-next more o g = so-far more o (subst (λ l. answers (run_scope unit) s p E (structures-left path l ++ more) o) (sym first) g)

  pub structure-missed : (U : Type 0) (m : Mismatch) → find_structure (ident_of k) (structures F) ≡ None → IsMismatch m M1 way → HasRequired (run_scope unit) s p E {U = U} (structures-left path all) (Err m)
  structure-missed U m n i =
      unmet U (run_scope unit) s p E (structures-left path all) m M1 way i
      (λ more. from-next more (refused (fault_at M1 p way))
      (subst (λ q. answers (run_scope unit) s p E ((at_path path (ident_of k), a_structure) ∷ ((here ++ structures-left path u) ++ more)) (refused (fault_at M1 p q))) (sym e)
      (no-such-structure (run_scope unit) s p E (at_path path (ident_of k)) ((here ++ structures-left path u) ++ more) (path ++ ident_of k ∷ []) (structure-missing E F path (ident_of k) h n))))

  module _ (G : Env Name) (there : find_structure (ident_of k) (structures F) ≡ Some G) where
    past : (more : Lines) (o : Outcome) → answers (run_scope unit) s p E (here ++ (structures-left path u ++ more)) o → answers (run_scope unit) s p E (structures-left path all ++ more) o
    past more o g =
        from-next more o (structure-met (run_scope unit) s p E (at_path path (ident_of k)) ((here ++ structures-left path u) ++ more) G o (structure-there E F G path (ident_of k) h there)
        (subst (λ l. answers (run_scope unit) s p E l o) (sym (append_assoc here (structures-left path u) more)) g))

    pub structure-unmet : (U : Type 0) (m : Mismatch) → HasRequired (run_scope unit) s p E {U = U} (lines way (env_of a.value)) (Err m) → HasRequired (run_scope unit) s p E {U = U} (structures-left path all) (Err m)
    structure-unmet U Memory g = tt
    structure-unmet U (Fault c t) g = λ more. past more (refused (record { code = c; place = p; detail = Some t.items })) (subst (λ w. answers (run_scope unit) s p E (lines w (env_of a.value) ++ (structures-left path u ++ more)) (refused (record { code = c; place = p; detail = Some t.items }))) e (g (structures-left path u ++ more)))

    pub structure-has : (U : Type 0) (v : U) → HasRequired (run_scope unit) s p E (lines way (env_of a.value)) (Ok v)
        → (more : Lines) (o : Outcome) → answers (run_scope unit) s p E (structures-left path u ++ more) o → answers (run_scope unit) s p E (structures-left path all ++ more) o
    structure-has U v g more o r = past more o (subst (λ w. answers (run_scope unit) s p E (lines w (env_of a.value) ++ (structures-left path u ++ more)) o) e (g (structures-left path u ++ more) o r))

pub known-next : (k : Key) (a : Rc P.Env Global) (u : List (Key × Rc P.Env Global)) → HaveKnownValues (structures_of (entries_of (λ s. env_of s.value) ((k, a) ∷ u)))
    → HasKnownValues (env_of a.value) × HaveKnownValues (structures_of (entries_of (λ s. env_of s.value) u))
unfolding HasKnownValues
known-next k a u h = h

-- what is told of environments that were lent
pub asked-of : (unit : ℕ) (s : State Place Name) (p : Place) (E : Env Name) (path : List Id) (a b c d : P.Env) (r : Result (Unit {0}) Mismatch) → a ≡ b → c ≡ d
    → env_at E path ≡ found (env_of b) → HasClosedValues (env_of b) → HasKnownValues (env_of d)
    → (env_at E path ≡ found (env_of a) → HasClosedValues (env_of a) → HasKnownValues (env_of c) → HasRequired (run_scope unit) s p E (lines path (env_of c)) r)
    → HasRequired (run_scope unit) s p E (lines path (env_of d)) r
asked-of unit s p E path a b c d r e g h o n f =
    subst (λ c. HasRequired (run_scope unit) s p E (lines path (env_of c)) r) g
    (f (subst (λ b. env_at E path ≡ found (env_of b)) (sym e) h) (subst (λ b. HasClosedValues (env_of b)) (sym e) o) (subst (λ d. HasKnownValues (env_of d)) (sym g) n))

pub none-left : (path : List Id) (es : List (Key × Rc P.Env Global)) → es ≡ [] → structures-left path es ≡ []
unfolding lines
none-left path es e = ap (structures-left path) e
