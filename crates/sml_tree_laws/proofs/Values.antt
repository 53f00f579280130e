-- Value declarations: what holds inside one, where its own type variables are known, and what is left of that outside.
use Rattle.std.specs.Prelude.{List, [], ◌∷◌, ◌++◌, ◌⊎◌, Option, Some, None}
use Rattle.std.proofs.Common.{inl, inr, subst, sym}
use Rattle.sml_lex.specs.declared.fault.Place.{Place}
use Rattle.sml_tree.specs.Trees.{Id}
use Rattle.sml_tree.specs.Names.{Name}
use Rattle.sml_tree.specs.Types.{Ty, Tys, TyFields, ty_variable, ty_row, ty_tuple, ty_constructor, ty_misapplied, ty_arrow, ty_bracket, no_ty, and_ty, ty_field, no_ty_field, and_ty_field}
use Rattle.sml_tree.specs.Patterns.{Pat, Pats, PatFields, wildcard, pat_constant, pat_name, pat_row, pat_tuple, pat_bracket, pat_apply, pat_typed, pat_as, no_pat, and_pat, pat_field, no_pat_field, and_pat_field}
use Rattle.sml_tree.specs.Expressions.{Exp, Exps, Fields, Rules, Dec, Decs, ValBinds, ExnBind, constant, name, row, tuple, let_in, bracket, apply, typed, handle, raise, fn, no_exp, and_exp, field, no_field, and_field, rule, no_rule, and_rule, val_dec, type_dec, datatype_dec, datatype_with, datatype_copy, exception_dec, local_dec, sequence_dec, open_dec, fixity_dec, no_dec, and_dec, bind, no_bind, and_bind, new_exception, exception_copy}
use Rattle.sml_tree.specs.Clauses.{Clause}
use Rattle.sml_objects.specs.Appearance.{Stands}
use Rattle.sml_objects.proofs.Standing.{either}
use Rattle.sml_rules.specs.Every.{Every}
use Rattle.sml_rules.proofs.EveryItem.{every_more}
use Rattle.sml_core_rules.specs.Closing.{unguarded}
use Rattle.sml_derived.specs.Derived.{while_of, it_dec}
use Rattle.sml_phrases.specs.Phrases.{Phrase, of_exp, of_exps, of_series, of_fields, of_rules, of_rest, of_dec, of_decs, of_bind, of_binds, of_values, of_round_values, of_functions, of_right_side, of_clauses, of_round_functions}
use Rattle.sml_tree_laws.specs.Scoped.{ids, binds_listed, ListsNone, DecScoped}
use Rattle.sml_tree_laws.proofs.Sits.{Any, TySits, TysSit, TyFieldsSit, TySitsIfAny, PatSits, PatsSit, PatFieldsSit, ExnBindsSit, ExpSits, ExpsSit, FieldsSit, RulesSit, DecSits, DecsSit, BindsSit, binds_all, binds_list, dec_scoped}
use Rattle.sml_tree_laws.proofs.Phrases.{ClausesSit, PhraseSits, ExpSitsIfAny, RulesSitIfAny}

pub every_at : (Q : Id → Type 0) (xs : List Id) → Every Q xs → (x : Id) → Stands x xs → Q x
unfolding Stands
every_at Q [] h x s = absurd s
every_at Q (y ∷ xs) h x (inl e) = subst Q (sym e) h.0
every_at Q (y ∷ xs) h x (inr s) = every_at Q xs h.1 x s

-- whatever holds of variables, less does

module _ {V V' : Id → Type 0} (v : (x : Id) → V x → V' x) where
  mutual
    ty_more : {P : Type 0} (t : Ty P) → TySits V t → TySits V' t
    ty_more (ty_variable p x) h = v x h
    ty_more (ty_row p fs) h = ty_fields_more fs h
    ty_more (ty_tuple p ts) h = tys_more ts h
    ty_more (ty_constructor p ts c) h = tys_more ts h
    ty_more (ty_misapplied p ts c) h = tys_more ts h
    ty_more (ty_arrow p t u) h = (ty_more t h.0, ty_more u h.1)
    ty_more (ty_bracket p t) h = ty_more t h

    tys_more : {P : Type 0} (ts : Tys P) → TysSit V ts → TysSit V' ts
    tys_more no_ty h = tt
    tys_more (and_ty t ts) h = (ty_more t h.0, tys_more ts h.1)

    ty_fields_more : {P : Type 0} (fs : TyFields P) → TyFieldsSit V fs → TyFieldsSit V' fs
    ty_fields_more no_ty_field h = tt
    ty_fields_more (and_ty_field (ty_field l t) fs) h = (ty_more t h.0, ty_fields_more fs h.1)

  ty_more_if_any : {P : Type 0} (t : Option (Ty P)) → TySitsIfAny V t → TySitsIfAny V' t
  ty_more_if_any None h = tt
  ty_more_if_any (Some t) h = ty_more t h

  mutual
    pat_more : {P : Type 0} (q : Pat P) → PatSits V q → PatSits V' q
    pat_more (wildcard p) h = tt
    pat_more (pat_constant p c) h = tt
    pat_more (pat_name p x) h = tt
    pat_more (pat_row p fs b) h = pat_fields_more fs h
    pat_more (pat_tuple p qs) h = pats_more qs h
    pat_more (pat_bracket p q) h = pat_more q h
    pat_more (pat_apply p x q) h = pat_more q h
    pat_more (pat_typed p q t) h = (pat_more q h.0, ty_more t h.1)
    pat_more (pat_as p x t q) h = (ty_more_if_any t h.0, pat_more q h.1)

    pats_more : {P : Type 0} (qs : Pats P) → PatsSit V qs → PatsSit V' qs
    pats_more no_pat h = tt
    pats_more (and_pat q qs) h = (pat_more q h.0, pats_more qs h.1)

    pat_fields_more : {P : Type 0} (fs : PatFields P) → PatFieldsSit V fs → PatFieldsSit V' fs
    pat_fields_more no_pat_field h = tt
    pat_fields_more (and_pat_field (pat_field l q) fs) h = (pat_more q h.0, pat_fields_more fs h.1)

  exns_more : {P : Type 0} (bs : List (ExnBind P)) → ExnBindsSit V bs → ExnBindsSit V' bs
  exns_more [] h = tt
  exns_more (new_exception b ∷ bs) h = (ty_more_if_any b.argument h.0, exns_more bs h.1)
  exns_more (exception_copy x y ∷ bs) h = (tt, exns_more bs h.1)

module _ {R R' : Id → Type 0} (r : (x : Id) → R x → R' x) where
  mutual
    exp_more : {P : Type 0} {V V' : Id → Type 0} → ((x : Id) → V x → V' x) → (e : Exp P) → ExpSits R V e → ExpSits R' V' e
    exp_more v (constant p c) h = tt
    exp_more v (name p x) h = tt
    exp_more v (row p fs) h = fields_more v fs h
    exp_more v (tuple p es) h = exps_more v es h
    exp_more v (let_in p ds e) h = (decs_more v ds h.0, exp_more v e h.1)
    exp_more v (bracket p e) h = exp_more v e h
    exp_more v (apply p f e) h = (exp_more v f h.0, exp_more v e h.1)
    exp_more v (typed p e t) h = (exp_more v e h.0, ty_more v t h.1)
    exp_more v (handle p e m) h = (exp_more v e h.0, rules_more v m h.1)
    exp_more v (raise p e) h = exp_more v e h
    exp_more v (fn p m) h = rules_more v m h

    exps_more : {P : Type 0} {V V' : Id → Type 0} → ((x : Id) → V x → V' x) → (es : Exps P) → ExpsSit R V es → ExpsSit R' V' es
    exps_more v no_exp h = tt
    exps_more v (and_exp e es) h = (exp_more v e h.0, exps_more v es h.1)

    fields_more : {P : Type 0} {V V' : Id → Type 0} → ((x : Id) → V x → V' x) → (fs : Fields P) → FieldsSit R V fs → FieldsSit R' V' fs
    fields_more v no_field h = tt
    fields_more v (and_field (field l e) fs) h = (exp_more v e h.0, fields_more v fs h.1)

    rules_more : {P : Type 0} {V V' : Id → Type 0} → ((x : Id) → V x → V' x) → (m : Rules P) → RulesSit R V m → RulesSit R' V' m
    rules_more v no_rule h = tt
    rules_more v (and_rule (rule p q e) m) h = ((pat_more v q h.0.0, exp_more v e h.0.1), rules_more v m h.1)

    dec_more : {P : Type 0} {V V' : Id → Type 0} → ((x : Id) → V x → V' x) → (d : Dec P) → DecSits R V d → DecSits R' V' d
    dec_more v (val_dec p xs bs rs) h = (every_more R R' r (ids xs) h.0, h.1, binds_more (λ x y. y) bs h.2, binds_more (λ x y. y) rs h.3)
    dec_more v (type_dec p bs) h = tt
    dec_more v (datatype_dec p bs) h = tt
    dec_more v (datatype_with p bs ts) h = tt
    dec_more v (datatype_copy p x c) h = tt
    dec_more v (exception_dec p bs) h = exns_more v bs h
    dec_more v (local_dec p ds es) h = (decs_more v ds h.0, decs_more v es h.1)
    dec_more v (sequence_dec p ds) h = decs_more v ds h
    dec_more v (open_dec p xs) h = tt
    dec_more v (fixity_dec p) h = tt

    decs_more : {P : Type 0} {V V' : Id → Type 0} → ((x : Id) → V x → V' x) → (ds : Decs P) → DecsSit R V ds → DecsSit R' V' ds
    decs_more v no_dec h = tt
    decs_more v (and_dec d ds) h = (dec_more v d h.0, decs_more v ds h.1)

    pub binds_more : {P : Type 0} {V V' : Id → Type 0} → ((x : Id) → V x → V' x) → (bs : ValBinds P) → BindsSit R V bs → BindsSit R' V' bs
    binds_more v no_bind h = tt
    binds_more v (and_bind (bind q e) bs) h = ((pat_more v q h.0.0, exp_more v e h.0.1), binds_more v bs h.1)

  module _ (L V : Id → Type 0) where
    clauses_more : (cs : List (Clause Place)) → ClausesSit L V R cs → ClausesSit L V R' cs
    clauses_more [] h = tt
    clauses_more (c ∷ cs) h = ((h.0.0, h.0.1, exp_more (λ x y. y) c.body h.0.2), clauses_more cs h.1)

    exp_more_if_any : (e : Option (Exp Place)) → ExpSitsIfAny L V R e → ExpSitsIfAny L V R' e
    exp_more_if_any None h = tt
    exp_more_if_any (Some e) h = exp_more (λ x y. y) e h

    rules_more_if_any : (rs : Option (Rules Place)) → RulesSitIfAny L V R rs → RulesSitIfAny L V R' rs
    rules_more_if_any None h = tt
    rules_more_if_any (Some rs) h = rules_more (λ x y. y) rs h

    -- the value declarations of a phrase list what holds R of, and so R'
    pub phrase_more : (w : Phrase) → PhraseSits L V R w → PhraseSits L V R' w
    phrase_more (of_exp e) h = exp_more (λ x y. y) e h
    phrase_more (of_exps es) h = exps_more (λ x y. y) es h
    phrase_more (of_series es) h = exps_more (λ x y. y) es h
    phrase_more (of_fields fs) h = fields_more (λ x y. y) fs h
    phrase_more (of_rules rs) h = rules_more (λ x y. y) rs h
    phrase_more (of_rest es ts a o rs) h = (exps_more (λ x y. y) es h.0, h.1, exp_more_if_any a h.2, exp_more_if_any o h.3, rules_more_if_any rs h.4)
    phrase_more (of_dec d) h = dec_more (λ x y. y) d h
    phrase_more (of_decs ds) h = decs_more (λ x y. y) ds h
    phrase_more (of_bind (bind q e)) h = (h.0, exp_more (λ x y. y) e h.1)
    phrase_more (of_binds bs) h = binds_more (λ x y. y) bs h
    phrase_more (of_values xs bs rs) h = (h.0, binds_more (λ x y. y) bs h.1, binds_more (λ x y. y) rs h.2)
    phrase_more (of_round_values ps qs ts e bs rs) h = (h.0, h.1, h.2, exp_more (λ x y. y) e h.3, binds_more (λ x y. y) bs h.4, binds_more (λ x y. y) rs h.5)
    phrase_more (of_functions xs bs) h = (h.0, binds_more (λ x y. y) bs h.1)
    phrase_more (of_right_side qs t e) h = (h.0, h.1, exp_more (λ x y. y) e h.2)
    phrase_more (of_clauses cs) h = clauses_more cs h
    phrase_more (of_round_functions ps qs t e cs bs) h = (h.0, h.1, h.2, exp_more (λ x y. y) e h.3, clauses_more cs h.4, binds_more (λ x y. y) bs h.5)
    phrase_more _ h = h

-- A value declaration of which L holds of the variables listed, V of those that occur unguarded, and In of those that value
-- declarations inside it list, where none is of the last and of one of the others.
module _ (L V In Out : Id → Type 0) (listed : (x : Id) → L x → Out x) (inner : (x : Id) → In x → Out x)
    (not_listed : (x : Id) → In x → L x → ⊥) (not_loose : (x : Id) → In x → V x → ⊥) where
  apart : (xs : List (Name Place)) (bs rs : ValBinds Place) → Every L (ids xs) → BindsSit In V bs → BindsSit In V rs → ListsNone xs bs rs
  apart xs bs rs h k l x s t = go (either x (ids xs) (unguarded bs ++ unguarded rs) t)
    where
      inside : Stands x (binds_listed bs) ⊎ Stands x (binds_listed rs) → In x
      inside (inl s) = every_at In (binds_listed bs) (binds_list In V bs k) x s
      inside (inr s) = every_at In (binds_listed rs) (binds_list In V rs l) x s

      of : In x
      of = inside (either x (binds_listed bs) (binds_listed rs) s)

      loose : Stands x (unguarded bs) ⊎ Stands x (unguarded rs) → ⊥
      loose (inl s) = not_loose x of (every_at V (unguarded bs) (binds_all In V bs k) x s)
      loose (inr s) = not_loose x of (every_at V (unguarded rs) (binds_all In V rs l) x s)

      go : Stands x (ids xs) ⊎ Stands x (unguarded bs ++ unguarded rs) → ⊥
      go (inl s) = not_listed x of (every_at L (ids xs) h x s)
      go (inr s) = loose (either x (unguarded bs) (unguarded rs) s)

  pub value_dec_sits : (V' : Id → Type 0) (p : Place) (xs : List (Name Place)) (bs rs : ValBinds Place) → Every L (ids xs) → BindsSit In V bs → BindsSit In V rs
      → DecSits Out V' (val_dec p xs bs rs)
  value_dec_sits V' p xs bs rs h k l =
      (every_more L Out listed (ids xs) h, apart xs bs rs h k l, binds_more inner (λ x y. tt) bs k, binds_more inner (λ x y. tt) rs l)

  pub while_sits : (V' : Id → Type 0) (p : Place) (a b : Exp Place) → ExpSits In V a → ExpSits In V b → ExpSits Out V' (while_of p a b)
  while_sits V' p a b h k =
      ((value_dec_sits V' p [] no_bind _ tt tt ((tt, ((tt, (((tt, (((tt, (tt, tt)), tt), k)), ((tt, tt), tt)), h)), tt)), tt), tt), (tt, tt))

  pub it_scoped : (p : Place) (e : Exp Place) → ExpSits In V e → DecScoped (it_dec p e)
  it_scoped p e h = dec_scoped Out Any (it_dec p e) (value_dec_sits Any p [] _ no_bind tt ((tt, h), tt) tt)
