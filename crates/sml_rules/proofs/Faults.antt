-- Faults of readings stand at places of what is read.
use Rattle.std.specs.Prelude.{◌≡◌, ℕ, List, [], ◌∷◌}
use Rattle.std.specs.List.{All, Contains}
use mathlib.Core.Path.{sym, ap, subst}
use mathlib.Core.Logic.{inl, inr}
use Rattle.std.proofs.lemmas.List.Elements.{All-contains_itself}
use Rattle.sml_lex.specs.declared.fault.Code.{Code}
use Rattle.sml_lex.specs.Faults.{Fault}
use Rattle.sml_tree.specs.Trees.{LongId, Exp, Exps, Ty, Tys, Spec, CoreDec, Dec, number, name, tuple, bracket, function, no_exp, and_exp, constructor, product, arrow_to, bracket_ty, no_ty, and_ty, type_spec, val_spec, val_dec, type_dec, core, sealed, other}
use Rattle.sml_tree.specs.Places.{exp_places, exps_places, ty_places, tys_places, spec_places, specs_places, core_places, cores_places, dec_places}
use Rattle.sml_objects.specs.Names.{Naming}
use Rattle.sml_objects.specs.Maps.{Map}
use Rattle.sml_objects.specs.Objects.{Scheme, Env, Sig, Basis, empty_env, extend_env, extend}
use Rattle.sml_rules.specs.Lookups.{Found, found, no_path, no_entry}
use Rattle.sml_rules.specs.Every.{Every}
use Rattle.sml_rules.specs.Rules.{Item, item_of, apart, sum_of}
use Rattle.sml_rules.specs.Matching.{Realisation}
use Rattle.sml_rules.specs.Answers.{Answer, Reading, refused, accepted, After, give, ◌>>=◌, test, any, need}
use Rattle.sml_rules.specs.Readings.{place_of, read_ty, read_tys, read_exp, read_exps, read_core, read_cores, read_spec, read_specs, read_names, read_types, read_values, read_match, read_dec, read_top}
use Rattle.sml_rules.proofs.Sound.{not_refused}
use Rattle.sml_rules.proofs.Within.{first, last}
use Rattle.sml_rules.proofs.EveryItem.{every_of}

fault_in : {P X : Type 0} → Fault P → Answer P X → Fault P
fault_in g (refused f) = f
fault_in g (accepted x) = g

refused_same : {P X : Type 0} {f g : Fault P} → ◌≡◌ {A = Answer P X} (refused f) (refused g) → f ≡ g
unfolding fault_in
refused_same {f = f} e = ap (fault_in f) e

-- where what is read has places of this sort alone
module _ {P : Type 0} (Q : P → Type 0) where
  abbrev RefusesThere : {X : Type 0} → Reading P X → Type 0
  RefusesThere m = (f : Fault P) → m (refused f) → Q f.place

  refused_there : {X : Type 0} (f g : Fault P) → Q g.place → ◌≡◌ {A = Answer P X} (refused f) (refused g) → Q f.place
  refused_there f g h e = subst (λ f. Q f.place) (sym (refused_same e)) h

  give_there : {X : Type 0} (x : X) → RefusesThere (give x)
  unfolding give
  give_there x f h = absurd (not_refused (sym h))

  bind_there : {X Y : Type 0} (m : Reading P X) (next : X → Reading P Y) → RefusesThere m → ((x : X) → RefusesThere (next x)) → RefusesThere (m >>= next)
  unfolding ◌>>=◌ After
  bind_there m next s t f (refused g, h, k) = refused_there f g (s g h) k
  bind_there m next s t f (accepted x, h, k) = t x f k

  test_there : (C : Type 0) (g : Fault P) → Q g.place → RefusesThere (test C g)
  unfolding test
  test_there C g q f (inl h) = absurd (not_refused (sym h.1))
  test_there C g q f (inr h) = refused_there f g q h.1

  any_there : {X : Type 0} (C : X → Type 0) → RefusesThere (any C)
  unfolding any
  any_there C f h = absurd h

  need_there : {X : Type 0} (c : Code) (p : P) (x : LongId) (r : Found X) → Q p → RefusesThere (need c p x r)
  need_there c p x (found v) q = give_there v
  need_there c p x (no_path s) q = λ f h. refused_there f _ q h
  need_there c p x no_entry q = λ f h. refused_there f _ q h

  module _ {N : Type 0} where
    mutual
      unfolding read_ty

      ty_there : (C : Env N) (u : Ty P) → Every Q (ty_places u) → RefusesThere (read_ty C u)
      ty_there C (constructor p c) h = bind_there _ _ (need_there _ p c _ h.0) (λ θ. bind_there _ _ (test_there _ _ h.0) (λ u. give_there _))
      ty_there C (product us) h = bind_there _ _ (tys_there C us h) (λ ts. give_there _)
      ty_there C (arrow_to u v) h =
          bind_there _ _ (ty_there C u (first Q (ty_places u) (ty_places v) h)) (λ a. bind_there _ _ (ty_there C v (last Q (ty_places u) (ty_places v) h)) (λ b. give_there _))
      ty_there C (bracket_ty u) h = ty_there C u h

      tys_there : (C : Env N) (us : Tys P) → Every Q (tys_places us) → RefusesThere (read_tys C us)
      tys_there C no_ty h = give_there _
      tys_there C (and_ty u us) h =
          bind_there _ _ (ty_there C u (first Q (ty_places u) (tys_places us) h)) (λ t. bind_there _ _ (tys_there C us (last Q (ty_places u) (tys_places us) h)) (λ ts. give_there _))

  module _ {N : Type 0} (names : Naming N) where
    mutual
      unfolding read_exp

      exp_there : (k : ℕ) (C : Env N) (e : Exp P) → Every Q (exp_places e) → RefusesThere (read_exp names k C e)
      exp_there k C number h = give_there _
      exp_there k C (name p x) h = bind_there _ _ (need_there _ p x _ h.0) (λ σ. give_there _)
      exp_there k C (tuple es) h = bind_there _ _ (exps_there k C es h) (λ r. give_there _)
      exp_there k C (bracket e) h = exp_there k C e h
      exp_there k C (function x e) h = bind_there _ _ (exp_there _ _ e h) (λ r. give_there _)

      exps_there : (k : ℕ) (C : Env N) (es : Exps P) → Every Q (exps_places es) → RefusesThere (read_exps names k C es)
      exps_there k C no_exp h = give_there _
      exps_there k C (and_exp e es) h =
          bind_there _ _ (exp_there k C e (first Q (exp_places e) (exps_places es) h)) (λ r. bind_there _ _ (exps_there r.made C es (last Q (exp_places e) (exps_places es) h)) (λ s. give_there _))

    core_there : (C : Env N) (d : CoreDec P) → Every Q (core_places d) → RefusesThere (read_core names C d)
    unfolding read_core
    core_there C (val_dec p x e) h = bind_there _ _ (exp_there 0 C e h.1) (λ r. bind_there _ _ (test_there _ _ h.0) (λ u. give_there _))
    core_there C (type_dec p t ty) h = bind_there _ _ (ty_there C ty h.1) (λ u. bind_there _ _ (test_there _ _ h.0) (λ v. give_there _))

    cores_there : (C F : Env N) (ds : List (CoreDec P)) → Every Q (cores_places ds) → RefusesThere (read_cores names C F ds)
    unfolding read_cores
    cores_there C F [] h = give_there _
    cores_there C F (d ∷ ds) h =
        bind_there _ _ (core_there C d (first Q (core_places d) (cores_places ds) h)) (λ E. cores_there (extend_env C E) (extend_env F E) ds (last Q (core_places d) (cores_places ds) h))

    spec_there : (unit : ℕ) (B : Basis N) (q : Spec P) → Every Q (spec_places q) → RefusesThere (read_spec names unit B q)
    unfolding read_spec
    spec_there unit B (type_spec p t) h = bind_there _ _ (any_there _) (λ n. give_there _)
    spec_there unit B (val_spec p x ty) h = bind_there _ _ (ty_there B.body ty h.1) (λ t. bind_there _ _ (test_there _ _ h.0) (λ u. give_there _))

    at_spec : (q : Spec P) → Every Q (spec_places q) → Q (place_of q)
    at_spec (type_spec p t) h = h.0
    at_spec (val_spec p x ty) h = h.0

    specs_there : (unit : ℕ) (B : Basis N) (seen : List Item) (qs : List (Spec P)) → Every Q (specs_places qs) → RefusesThere (read_specs names unit B seen qs)
    unfolding read_specs
    specs_there unit B seen [] h = give_there _
    specs_there unit B seen (q ∷ qs) h =
        let own = first Q (spec_places q) (specs_places qs) h in
        bind_there _ _ (spec_there unit B q own) (λ S. bind_there _ _ (test_there _ _ (at_spec q own)) (λ u.
        bind_there _ _ (specs_there unit (extend B S) (item_of q ∷ seen) qs (last Q (spec_places q) (specs_places qs) h)) (λ Ss. give_there _)))

    names_there : (p : P) (E : Env N) (xs : Map (Scheme N)) → Q p → RefusesThere (read_names names p E xs)
    unfolding read_names
    names_there p E [] q = give_there _
    names_there p E (x ∷ xs) q = bind_there _ _ (test_there _ _ q) (λ u. bind_there _ _ (test_there _ _ q) (λ v. names_there p E xs q))

    types_there : (p : P) (E : Env N) (φ : Realisation N) (xs : Map (Scheme N)) → Q p → RefusesThere (read_types names p E φ xs)
    unfolding read_types
    types_there p E φ [] q = give_there _
    types_there p E φ (x ∷ xs) q = bind_there _ _ (test_there _ _ q) (λ u. types_there p E φ xs q)

    values_there : (p : P) (E : Env N) (φ : Realisation N) (xs : Map (Scheme N)) → Q p → RefusesThere (read_values names p E φ xs)
    unfolding read_values
    values_there p E φ [] q = give_there _
    values_there p E φ (x ∷ xs) q = bind_there _ _ (test_there _ _ q) (λ u. bind_there _ _ (test_there _ _ q) (λ v. values_there p E φ xs q))

    match_there : (p : P) (S : Sig N) (E : Env N) → Q p → RefusesThere (read_match names p S E)
    unfolding read_match
    match_there p S E q = bind_there _ _ (names_there p E _ q) (λ u. bind_there _ _ (types_there p E _ _ q) (λ v. values_there p E _ _ q))

    dec_there : (unit : ℕ) (B : Basis N) (d : Dec P) → Every Q (dec_places d) → RefusesThere (read_dec names unit B d)
    unfolding read_dec
    dec_there unit B (core d) h = bind_there _ _ (core_there B.body d h) (λ E. give_there _)
    dec_there unit B (sealed s p specs decs) h =
        bind_there _ _ (cores_there B.body empty_env decs (last Q (specs_places specs) (cores_places decs) h.1)) (λ E.
        bind_there _ _ (specs_there unit (apart B E) [] specs (first Q (specs_places specs) (cores_places decs) h.1)) (λ Ss.
        bind_there _ _ (match_there p (sum_of Ss) E h.0) (λ u. give_there _)))
    dec_there unit B (other p) h = λ f e. absurd e

    top_there : (p : P) (unit : ℕ) (B : Basis N) (d : Dec P) → Q p → Every Q (dec_places d) → RefusesThere (read_top names p unit B d)
    unfolding read_top
    top_there p unit B d q h = bind_there _ _ (dec_there unit B d h) (λ S. bind_there _ _ (test_there _ _ q) (λ u. give_there _))

pub stands_in_declaration : {P N : Type 0} (names : Naming N) (p : P) (unit : ℕ) (B : Basis N) (d : Dec P) (f : Fault P)
    → read_top names p unit B d (refused f) → Contains (p ∷ dec_places d) f.place
stands_in_declaration names p unit B d f h =
    let all = p ∷ dec_places d in
    let each = every_of (Contains all) all (All-contains_itself all) in
    top_there (Contains all) names p unit B d each.0 each.1 f h
