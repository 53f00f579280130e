-- The rules of structures and units.
use Rattle.sml_read.specs.Grammar.{right_side}
use Rattle.sml_read.specs.Parts.{part_of}
use Rattle.sml_read.specs.declared.grammar.Symbol.TheVariants.{Of}
use Rattle.std.specs.Prelude.{◌≡◌, ℕ, suc, ◌≤◌, ◌<◌, length, List, [], ◌∷◌}
use Rattle.std.proofs.Common.{refl, arith, ◌⊎◌}
use Rattle.sml_lex.specs.declared.fault.Place.{Place}
use Rattle.sml_tree.specs.Trees.{Id}
use Rattle.sml_tree.specs.Names.{Name}
use Rattle.sml_read.specs.declared.grammar.Rule.TheVariants as G
use Rattle.sml_phrases.specs.Phrases.{Phrase, of_specs, of_str, of_str_decs, of_begun_str_bind, of_functor_argument, of_begun_fun_bind, of_begun_functor, at, name_in, specs_in, constraint_wheres_in, constraints_in, str_wheres_in, str_constraints_in, str_binds_in, fun_wheres_in, fun_constraints_in, fun_binds_in, str_in}
use Rattle.sml_flaws.specs.declared.role.Space.{Space}
use Rattle.sml_flaws.specs.declared.role.Space.TheVariants as S
use Rattle.sml_tree_laws.specs.WellBound.{MayBeValue, MayBeConstructor, SpecsBound, str_names, StrBound, StrBindsBound, signature_names, functor_names, FunBindsBound}
use Rattle.sml_tree_laws.proofs.Named.{Named, distinct}
use Rattle.sml_tree_laws.proofs.PhrasesBound.{plain, class_of, WheresBound, ConstraintsBound, PhraseBound}
use Rattle.sml_tree_laws.proofs.AccessorsBound.{dec_bound, decs_bound, str_bound, str_dec_bound, str_decs_bound, sig_bound, specs_bound, where_bound, constraint_wheres_bound, constraints_bound, str_wheres_bound, str_constraints_bound, str_binds_bound, fun_wheres_bound, fun_constraints_bound, fun_binds_bound}
use Rattle.sml_tree_laws.proofs.PartsBound.{PartsBound, one, two, pass}
use Rattle.sml_tree.specs.Signatures.{WhereType, Specs, no_spec, and_spec}
use Rattle.sml_tree.specs.Structures.{StrExp, ascribed}
use Rattle.sml_tree.specs.Clauses.{Constraint}
use Rattle.sml_read.specs.declared.grammar.StructureRule.{StructureRule}
use Rattle.sml_read.specs.declared.grammar.StructureRule.TheVariants.{StrBindAlphanumeric, SealNone, StrExpMoreNone, StrExpSigNone, StrExpWhereNone, SealColon, SealSeals, AscriptionColon, AscriptionSeals, StrBindMoreNone, StrBindSigNone, StrBindWhereNone, FunBindMoreNone, FunBindSigNone, FunBindWhereNone, StrBindMoreAscription, StrBindSigAscription, StrBindWhereAscription, StrBindMoreAnd, StrBindSigAnd, StrBindSigWhere, StrBindWhereWhere, StrBindWhereAnd, FunBindWhereAnd, ActualOpenRound, StrBindAndWhere, StrBindAndStrBind, FunBindAlphanumeric, FunArgAlphanumeric, FunArgSpecs, StrArgStrExp, StrArgStrs, FunBindMoreAscription, FunBindSigAscription, FunBindWhereAscription, FunBindMoreAnd, FunBindSigAnd, FunBindSigWhere, FunBindWhereWhere, FunBindAndWhere, FunBindAndFunBind, StrExpStrAtom, StrExpMoreAscription, StrExpSigAscription, StrExpWhereAscription, StrExpSigWhere, StrExpWhereWhere, StrExpWhereAnd, StrAtomStruct, StrAtomLongAlphanumeric, ActualNone, StrAtomAlphanumeric, StrAtomLet}
use Rattle.sml_read.specs.declared.grammar.UnitRule.{UnitRule}
use Rattle.sml_read.specs.declared.grammar.UnitRule.TheVariants.{TopStr, TopSignature, TopFunctor, StrStructure, StrCoreDec, StrLocal, StrsNone, DecsNone, SpecsNone, StrsSemicolon, DecsSemicolon, SpecsSemicolon, StrsStr, DecsDec, SpecsSpec}
use Rattle.sml_bare_mods.specs.SignatureRules.{sig_binds}
use Rattle.sml_bare_mods.specs.StructureRules.{str_place, constrained, own_constrained, and_constraint, str_binds, fun_binds, begun_fun_bind, applied, structure_phrase}
use Rattle.sml_bare_mods.specs.UnitRules.{and_specs, unit_phrase}
use Rattle.sml_tree_laws.proofs.SignaturesBound.{with_wheres_bound, and_sig_bind}

constrained_bound : (e : StrExp Place) (cs : List (Constraint Place)) → StrBound e → ConstraintsBound cs → StrBound (constrained e cs)
constrained_bound e [] h k = h
constrained_bound e (c ∷ cs) h k = constrained_bound (ascribed (str_place e) e c.ascription c.signature) cs (h, k.0) k.1

own_bound : (p : Place) (cs : List (Constraint Place)) (e : StrExp Place) → ConstraintsBound cs → StrBound e → StrBound (own_constrained p cs e)
own_bound p [] e h k = k
own_bound p (c ∷ cs) e h k = (k, h.0)

and_constraint_bound : (own : List (Constraint Place)) (ws : List (WhereType Place)) (cs : List (Constraint Place)) → ConstraintsBound own → WheresBound ws → ConstraintsBound cs
    → ConstraintsBound (and_constraint own ws cs)
and_constraint_bound [] ws cs h k l = l
and_constraint_bound (c ∷ own) ws cs h k l = (with_wheres_bound c.signature ws h.0 k, l)

and_specs_bound : (ss rest : Specs Place) → SpecsBound ss → SpecsBound rest → SpecsBound (and_specs ss rest)
and_specs_bound no_spec rest h k = k
and_specs_bound (and_spec s ss) rest h k = (h.0, and_specs_bound ss rest h.1 k)

module _ (B : Space → ℕ → ℕ → Id → Type 0) (apart : (sp : Space) (g t u : ℕ) (x : Id) → t < u → B sp g t x → B sp g u x → ⊥)
    (may_be : (sp : Space) (g t : ℕ) (x : Id) → (sp ≡ S.Constructors) ⊎ (sp ≡ S.Exceptions) → B sp g t x → MayBeConstructor x) (may_value : (g t : ℕ) (x : Id) → B S.Values g t x → MayBeValue x) where
  open_fun_bound : (g lo hi lo' hi' : ℕ) (f : Name Place) (v : Phrase) (own : List (Constraint Place)) (e : StrExp Place) → Named B S.Functors g lo' hi' (f.id ∷ []) → ConstraintsBound own → StrBound e
      → PhraseBound B plain g lo hi v → PhraseBound B plain g lo' hi' (begun_fun_bind f v own e)
  open_fun_bound g lo hi lo' hi' f (of_functor_argument x s) own e n c h k = (n, k, c, h)
  open_fun_bound g lo hi lo' hi' f (of_specs ss) own e n c h k = (n, k, c, h)
  open_fun_bound g lo hi lo' hi' f _ own e n c h k = tt

  applied_bound : (g lo hi : ℕ) (f : Name Place) (v : Phrase) → PhraseBound B plain g lo hi v → StrBound (applied f v)
  applied_bound g lo hi f (of_str e) h = h
  applied_bound g lo hi f (of_str_decs ds) h = h
  applied_bound g lo hi f _ h = tt

  module _ (g : ℕ) (t : ℕ → ℕ) (mono : (k : ℕ) → t k ≤ t (suc k)) where
    and_str : (a b n : ℕ) (v more : Phrase) → suc a ≤ b → suc b ≤ n → PhraseBound B plain g (t a) (t (suc a)) v → PhraseBound B plain g (t b) (t (suc b)) more
        → Named B S.Structures g (t 0) (t n) (str_names (str_binds v more)) × StrBindsBound (str_binds v more)
    and_str a b n (of_begun_str_bind x own e) more i l h k =
        let m = str_binds_bound B plain g (t b) (t (suc b)) more k in (
          two B g t mono S.Structures a b n (x.id ∷ []) (str_names (str_binds_in more)) i l h.0 m.0,
          (
            own_bound x.place own (constrained e (str_constraints_in more)) h.1
                (constrained_bound e (str_constraints_in more) h.2 (str_constraints_bound B plain g (t b) (t (suc b)) more k)),
            m.1,
          ),
        )
    and_str a b n _ more i l h k =
        let m = str_binds_bound B plain g (t b) (t (suc b)) more k in
        (one B g t mono S.Structures b n (str_names (str_binds_in more)) l m.0, m.1)

    and_fun : (a b n : ℕ) (v more : Phrase) → suc a ≤ b → suc b ≤ n → PhraseBound B plain g (t a) (t (suc a)) v → PhraseBound B plain g (t b) (t (suc b)) more
        → Named B S.Functors g (t 0) (t n) (functor_names (fun_binds v more)) × FunBindsBound (fun_binds v more)
    and_fun a b n (of_begun_fun_bind f x s own e) more i l h k =
        let m = fun_binds_bound B plain g (t b) (t (suc b)) more k in (
          two B g t mono S.Functors a b n (f.id ∷ []) (functor_names (fun_binds_in more)) i l h.0 m.0,
          (
            (
              h.1,
              own_bound f.place own (constrained e (fun_constraints_in more)) h.2
                  (constrained_bound e (fun_constraints_in more) h.3 (fun_constraints_bound B plain g (t b) (t (suc b)) more k)),
            ),
            m.1,
          ),
        )
    and_fun a b n (of_begun_functor f ss own e) more i l h k =
        let m = fun_binds_bound B plain g (t b) (t (suc b)) more k in (
          two B g t mono S.Functors a b n (f.id ∷ []) (functor_names (fun_binds_in more)) i l h.0 m.0,
          (
            (
              h.1,
              (
                (tt, tt),
                own_bound f.place own (constrained e (fun_constraints_in more)) h.2
                    (constrained_bound e (fun_constraints_in more) h.3 (fun_constraints_bound B plain g (t b) (t (suc b)) more k)),
              ),
            ),
            m.1,
          ),
        )
    and_fun a b n _ more i l h k =
        let m = fun_binds_bound B plain g (t b) (t (suc b)) more k in
        (one B g t mono S.Functors b n (functor_names (fun_binds_in more)) l m.0, m.1)

    pub structure_bound : (rule : StructureRule) (p : Place) (vs : List Phrase) → PartsBound B g t (G.Structures rule) vs
        → PhraseBound B (class_of (Of (part_of (G.Structures rule)))) g (t 0) (t (length (right_side (G.Structures rule)))) (structure_phrase rule p vs)
    structure_bound StrBindAlphanumeric p vs h = (
      one B g t mono S.Structures 0 4 ((name_in (at vs 0)).id ∷ []) (omega arith) (h 0 refl).1,
      (constraints_bound B plain g (t 1) (t 2) (at vs 1) (h 1 refl).0),
      (str_bound B plain g (t 3) (t 4) (at vs 3) (h 3 refl).0),
    )
    structure_bound SealNone p vs h = (tt, tt)
    structure_bound StrExpMoreNone p vs h = (tt, tt)
    structure_bound StrExpSigNone p vs h = (tt, tt)
    structure_bound StrExpWhereNone p vs h = (tt, tt)
    structure_bound SealColon p vs h = (tt, ((sig_bound B plain g (t 1) (t 2) (at vs 1) (h 1 refl).0), tt))
    structure_bound SealSeals p vs h = (tt, ((sig_bound B plain g (t 1) (t 2) (at vs 1) (h 1 refl).0), tt))
    structure_bound AscriptionColon p vs h = (tt, ((sig_bound B plain g (t 1) (t 2) (at vs 1) (h 1 refl).0), tt))
    structure_bound AscriptionSeals p vs h = (tt, ((sig_bound B plain g (t 1) (t 2) (at vs 1) (h 1 refl).0), tt))
    structure_bound StrBindMoreNone p vs h = (tt, tt, tt, tt)
    structure_bound StrBindSigNone p vs h = (tt, tt, tt, tt)
    structure_bound StrBindWhereNone p vs h = (tt, tt, tt, tt)
    structure_bound FunBindMoreNone p vs h = (tt, tt, tt, tt)
    structure_bound FunBindSigNone p vs h = (tt, tt, tt, tt)
    structure_bound FunBindWhereNone p vs h = (tt, tt, tt, tt)
    structure_bound StrBindMoreAscription p vs h = (
      tt,
      and_constraint_bound (constraints_in (at vs 0)) (str_wheres_in (at vs 1)) (str_constraints_in (at vs 1))
          (constraints_bound B plain g (t 0) (t 1) (at vs 0) (h 0 refl).0) (str_wheres_bound B plain g (t 1) (t 2) (at vs 1) (h 1 refl).0)
          (str_constraints_bound B plain g (t 1) (t 2) (at vs 1) (h 1 refl).0),
      one B g t mono S.Structures 1 2 (str_names (str_binds_in (at vs 1))) (omega arith) (str_binds_bound B plain g (t 1) (t 2) (at vs 1) (h 1 refl).0).0,
      (str_binds_bound B plain g (t 1) (t 2) (at vs 1) (h 1 refl).0).1,
    )
    structure_bound StrBindSigAscription p vs h = (
      tt,
      and_constraint_bound (constraints_in (at vs 0)) (str_wheres_in (at vs 1)) (str_constraints_in (at vs 1))
          (constraints_bound B plain g (t 0) (t 1) (at vs 0) (h 0 refl).0) (str_wheres_bound B plain g (t 1) (t 2) (at vs 1) (h 1 refl).0)
          (str_constraints_bound B plain g (t 1) (t 2) (at vs 1) (h 1 refl).0),
      one B g t mono S.Structures 1 2 (str_names (str_binds_in (at vs 1))) (omega arith) (str_binds_bound B plain g (t 1) (t 2) (at vs 1) (h 1 refl).0).0,
      (str_binds_bound B plain g (t 1) (t 2) (at vs 1) (h 1 refl).0).1,
    )
    structure_bound StrBindWhereAscription p vs h = (
      tt,
      and_constraint_bound (constraints_in (at vs 0)) (str_wheres_in (at vs 1)) (str_constraints_in (at vs 1))
          (constraints_bound B plain g (t 0) (t 1) (at vs 0) (h 0 refl).0) (str_wheres_bound B plain g (t 1) (t 2) (at vs 1) (h 1 refl).0)
          (str_constraints_bound B plain g (t 1) (t 2) (at vs 1) (h 1 refl).0),
      one B g t mono S.Structures 1 2 (str_names (str_binds_in (at vs 1))) (omega arith) (str_binds_bound B plain g (t 1) (t 2) (at vs 1) (h 1 refl).0).0,
      (str_binds_bound B plain g (t 1) (t 2) (at vs 1) (h 1 refl).0).1,
    )
    structure_bound StrBindMoreAnd p vs h = (let x = and_str 1 2 3 (at vs 1) (at vs 2) (omega arith) (omega arith) (h 1 refl).0 (h 2 refl).0 in (tt, tt, x.0, x.1))
    structure_bound StrBindSigAnd p vs h = (let x = and_str 1 2 3 (at vs 1) (at vs 2) (omega arith) (omega arith) (h 1 refl).0 (h 2 refl).0 in (tt, tt, x.0, x.1))
    structure_bound StrBindSigWhere p vs h = (
      ((where_bound B plain g (t 1) (t 2) (at vs 1) (h 1 refl).0), (str_wheres_bound B plain g (t 2) (t 3) (at vs 2) (h 2 refl).0)),
      (str_constraints_bound B plain g (t 2) (t 3) (at vs 2) (h 2 refl).0),
      one B g t mono S.Structures 2 3 (str_names (str_binds_in (at vs 2))) (omega arith) (str_binds_bound B plain g (t 2) (t 3) (at vs 2) (h 2 refl).0).0,
      (str_binds_bound B plain g (t 2) (t 3) (at vs 2) (h 2 refl).0).1,
    )
    structure_bound StrBindWhereWhere p vs h = (
      ((where_bound B plain g (t 1) (t 2) (at vs 1) (h 1 refl).0), (str_wheres_bound B plain g (t 2) (t 3) (at vs 2) (h 2 refl).0)),
      (str_constraints_bound B plain g (t 2) (t 3) (at vs 2) (h 2 refl).0),
      one B g t mono S.Structures 2 3 (str_names (str_binds_in (at vs 2))) (omega arith) (str_binds_bound B plain g (t 2) (t 3) (at vs 2) (h 2 refl).0).0,
      (str_binds_bound B plain g (t 2) (t 3) (at vs 2) (h 2 refl).0).1,
    )
    structure_bound StrBindWhereAnd p vs h = (pass B g t mono 1 2 (at vs 1) (omega arith) (h 1 refl).0)
    structure_bound FunBindWhereAnd p vs h = (pass B g t mono 1 2 (at vs 1) (omega arith) (h 1 refl).0)
    structure_bound ActualOpenRound p vs h = (pass B g t mono 1 3 (at vs 1) (omega arith) (h 1 refl).0)
    structure_bound StrBindAndWhere p vs h = (
      ((where_bound B plain g (t 0) (t 1) (at vs 0) (h 0 refl).0), (str_wheres_bound B plain g (t 1) (t 2) (at vs 1) (h 1 refl).0)),
      (str_constraints_bound B plain g (t 1) (t 2) (at vs 1) (h 1 refl).0),
      one B g t mono S.Structures 1 2 (str_names (str_binds_in (at vs 1))) (omega arith) (str_binds_bound B plain g (t 1) (t 2) (at vs 1) (h 1 refl).0).0,
      (str_binds_bound B plain g (t 1) (t 2) (at vs 1) (h 1 refl).0).1,
    )
    structure_bound StrBindAndStrBind p vs h = (let x = and_str 0 1 2 (at vs 0) (at vs 1) (omega arith) (omega arith) (h 0 refl).0 (h 1 refl).0 in (tt, tt, x.0, x.1))
    structure_bound FunBindAlphanumeric p vs h =
        open_fun_bound g (t 2) (t 3) (t 0) (t 7) (name_in (at vs 0)) (at vs 2) (constraints_in (at vs 4))
        (str_in (at vs 6)) (one B g t mono S.Functors 0 7 ((name_in (at vs 0)).id ∷ []) (omega arith) (h 0 refl).1)
        (constraints_bound B plain g (t 4) (t 5) (at vs 4) (h 4 refl).0) (str_bound B plain g (t 6) (t 7) (at vs 6) (h 6 refl).0) (h 2 refl).0
    structure_bound FunArgAlphanumeric p vs h = (sig_bound B plain g (t 2) (t 3) (at vs 2) (h 2 refl).0)
    structure_bound FunArgSpecs p vs h = (pass B g t mono 0 1 (at vs 0) (omega arith) (h 0 refl).0)
    structure_bound StrArgStrExp p vs h = (pass B g t mono 0 1 (at vs 0) (omega arith) (h 0 refl).0)
    structure_bound StrArgStrs p vs h = (pass B g t mono 0 1 (at vs 0) (omega arith) (h 0 refl).0)
    structure_bound FunBindMoreAscription p vs h = (
      tt,
      and_constraint_bound (constraints_in (at vs 0)) (fun_wheres_in (at vs 1)) (fun_constraints_in (at vs 1))
          (constraints_bound B plain g (t 0) (t 1) (at vs 0) (h 0 refl).0) (fun_wheres_bound B plain g (t 1) (t 2) (at vs 1) (h 1 refl).0)
          (fun_constraints_bound B plain g (t 1) (t 2) (at vs 1) (h 1 refl).0),
      one B g t mono S.Functors 1 2 (functor_names (fun_binds_in (at vs 1))) (omega arith) (fun_binds_bound B plain g (t 1) (t 2) (at vs 1) (h 1 refl).0).0,
      (fun_binds_bound B plain g (t 1) (t 2) (at vs 1) (h 1 refl).0).1,
    )
    structure_bound FunBindSigAscription p vs h = (
      tt,
      and_constraint_bound (constraints_in (at vs 0)) (fun_wheres_in (at vs 1)) (fun_constraints_in (at vs 1))
          (constraints_bound B plain g (t 0) (t 1) (at vs 0) (h 0 refl).0) (fun_wheres_bound B plain g (t 1) (t 2) (at vs 1) (h 1 refl).0)
          (fun_constraints_bound B plain g (t 1) (t 2) (at vs 1) (h 1 refl).0),
      one B g t mono S.Functors 1 2 (functor_names (fun_binds_in (at vs 1))) (omega arith) (fun_binds_bound B plain g (t 1) (t 2) (at vs 1) (h 1 refl).0).0,
      (fun_binds_bound B plain g (t 1) (t 2) (at vs 1) (h 1 refl).0).1,
    )
    structure_bound FunBindWhereAscription p vs h = (
      tt,
      and_constraint_bound (constraints_in (at vs 0)) (fun_wheres_in (at vs 1)) (fun_constraints_in (at vs 1))
          (constraints_bound B plain g (t 0) (t 1) (at vs 0) (h 0 refl).0) (fun_wheres_bound B plain g (t 1) (t 2) (at vs 1) (h 1 refl).0)
          (fun_constraints_bound B plain g (t 1) (t 2) (at vs 1) (h 1 refl).0),
      one B g t mono S.Functors 1 2 (functor_names (fun_binds_in (at vs 1))) (omega arith) (fun_binds_bound B plain g (t 1) (t 2) (at vs 1) (h 1 refl).0).0,
      (fun_binds_bound B plain g (t 1) (t 2) (at vs 1) (h 1 refl).0).1,
    )
    structure_bound FunBindMoreAnd p vs h = (let x = and_fun 1 2 3 (at vs 1) (at vs 2) (omega arith) (omega arith) (h 1 refl).0 (h 2 refl).0 in (tt, tt, x.0, x.1))
    structure_bound FunBindSigAnd p vs h = (let x = and_fun 1 2 3 (at vs 1) (at vs 2) (omega arith) (omega arith) (h 1 refl).0 (h 2 refl).0 in (tt, tt, x.0, x.1))
    structure_bound FunBindSigWhere p vs h = (
      ((where_bound B plain g (t 1) (t 2) (at vs 1) (h 1 refl).0), (fun_wheres_bound B plain g (t 2) (t 3) (at vs 2) (h 2 refl).0)),
      (fun_constraints_bound B plain g (t 2) (t 3) (at vs 2) (h 2 refl).0),
      one B g t mono S.Functors 2 3 (functor_names (fun_binds_in (at vs 2))) (omega arith) (fun_binds_bound B plain g (t 2) (t 3) (at vs 2) (h 2 refl).0).0,
      (fun_binds_bound B plain g (t 2) (t 3) (at vs 2) (h 2 refl).0).1,
    )
    structure_bound FunBindWhereWhere p vs h = (
      ((where_bound B plain g (t 1) (t 2) (at vs 1) (h 1 refl).0), (fun_wheres_bound B plain g (t 2) (t 3) (at vs 2) (h 2 refl).0)),
      (fun_constraints_bound B plain g (t 2) (t 3) (at vs 2) (h 2 refl).0),
      one B g t mono S.Functors 2 3 (functor_names (fun_binds_in (at vs 2))) (omega arith) (fun_binds_bound B plain g (t 2) (t 3) (at vs 2) (h 2 refl).0).0,
      (fun_binds_bound B plain g (t 2) (t 3) (at vs 2) (h 2 refl).0).1,
    )
    structure_bound FunBindAndWhere p vs h = (
      ((where_bound B plain g (t 0) (t 1) (at vs 0) (h 0 refl).0), (fun_wheres_bound B plain g (t 1) (t 2) (at vs 1) (h 1 refl).0)),
      (fun_constraints_bound B plain g (t 1) (t 2) (at vs 1) (h 1 refl).0),
      one B g t mono S.Functors 1 2 (functor_names (fun_binds_in (at vs 1))) (omega arith) (fun_binds_bound B plain g (t 1) (t 2) (at vs 1) (h 1 refl).0).0,
      (fun_binds_bound B plain g (t 1) (t 2) (at vs 1) (h 1 refl).0).1,
    )
    structure_bound FunBindAndFunBind p vs h = (let x = and_fun 0 1 2 (at vs 0) (at vs 1) (omega arith) (omega arith) (h 0 refl).0 (h 1 refl).0 in (tt, tt, x.0, x.1))
    structure_bound StrExpStrAtom p vs h =
        constrained_bound (str_in (at vs 0)) (constraints_in (at vs 1))
        (str_bound B plain g (t 0) (t 1) (at vs 0) (h 0 refl).0) (constraints_bound B plain g (t 1) (t 2) (at vs 1) (h 1 refl).0)
    structure_bound StrExpMoreAscription p vs h = (
      tt,
      and_constraint_bound (constraints_in (at vs 0)) (constraint_wheres_in (at vs 1)) (constraints_in (at vs 1))
          (constraints_bound B plain g (t 0) (t 1) (at vs 0) (h 0 refl).0) (constraint_wheres_bound B plain g (t 1) (t 2) (at vs 1) (h 1 refl).0)
          (constraints_bound B plain g (t 1) (t 2) (at vs 1) (h 1 refl).0),
    )
    structure_bound StrExpSigAscription p vs h = (
      tt,
      and_constraint_bound (constraints_in (at vs 0)) (constraint_wheres_in (at vs 1)) (constraints_in (at vs 1))
          (constraints_bound B plain g (t 0) (t 1) (at vs 0) (h 0 refl).0) (constraint_wheres_bound B plain g (t 1) (t 2) (at vs 1) (h 1 refl).0)
          (constraints_bound B plain g (t 1) (t 2) (at vs 1) (h 1 refl).0),
    )
    structure_bound StrExpWhereAscription p vs h = (
      tt,
      and_constraint_bound (constraints_in (at vs 0)) (constraint_wheres_in (at vs 1)) (constraints_in (at vs 1))
          (constraints_bound B plain g (t 0) (t 1) (at vs 0) (h 0 refl).0) (constraint_wheres_bound B plain g (t 1) (t 2) (at vs 1) (h 1 refl).0)
          (constraints_bound B plain g (t 1) (t 2) (at vs 1) (h 1 refl).0),
    )
    structure_bound StrExpSigWhere p vs h = (
      ((where_bound B plain g (t 1) (t 2) (at vs 1) (h 1 refl).0), (constraint_wheres_bound B plain g (t 2) (t 3) (at vs 2) (h 2 refl).0)),
      (constraints_bound B plain g (t 2) (t 3) (at vs 2) (h 2 refl).0),
    )
    structure_bound StrExpWhereWhere p vs h = (
      ((where_bound B plain g (t 1) (t 2) (at vs 1) (h 1 refl).0), (constraint_wheres_bound B plain g (t 2) (t 3) (at vs 2) (h 2 refl).0)),
      (constraints_bound B plain g (t 2) (t 3) (at vs 2) (h 2 refl).0),
    )
    structure_bound StrExpWhereAnd p vs h = (
      ((where_bound B plain g (t 1) (t 2) (at vs 1) (h 1 refl).0), (constraint_wheres_bound B plain g (t 2) (t 3) (at vs 2) (h 2 refl).0)),
      (constraints_bound B plain g (t 2) (t 3) (at vs 2) (h 2 refl).0),
    )
    structure_bound StrAtomStruct p vs h = (str_decs_bound B plain g (t 1) (t 2) (at vs 1) (h 1 refl).0)
    structure_bound StrAtomLongAlphanumeric p vs h = tt
    structure_bound ActualNone p vs h = tt
    structure_bound StrAtomAlphanumeric p vs h = applied_bound g (t 1) (t 2) (name_in (at vs 0)) (at vs 1) (h 1 refl).0
    structure_bound StrAtomLet p vs h = ((str_decs_bound B plain g (t 1) (t 2) (at vs 1) (h 1 refl).0), (str_bound B plain g (t 3) (t 4) (at vs 3) (h 3 refl).0))

    pub unit_bound : (rule : UnitRule) (p : Place) (vs : List Phrase) → PartsBound B g t (G.Units rule) vs
        → PhraseBound B (class_of (Of (part_of (G.Units rule)))) g (t 0) (t (length (right_side (G.Units rule)))) (unit_phrase rule p vs)
    unit_bound TopStr p vs h = (str_dec_bound B plain g (t 0) (t 1) (at vs 0) (h 0 refl).0)
    unit_bound TopSignature p vs h =
        let x = and_sig_bind B apart may_be may_value g t mono 1 2 3 (at vs 1) (at vs 2) (omega arith) (omega arith) (h 1 refl).0 (h 2 refl).0 in
        (distinct B apart S.Signatures g (t 0) (t 3) (signature_names (sig_binds (at vs 1) (at vs 2))) x.0, x.1)
    unit_bound TopFunctor p vs h =
        let x = and_fun 1 2 3 (at vs 1) (at vs 2) (omega arith) (omega arith) (h 1 refl).0 (h 2 refl).0 in
        (distinct B apart S.Functors g (t 0) (t 3) (functor_names (fun_binds (at vs 1) (at vs 2))) x.0, x.1)
    unit_bound StrStructure p vs h =
        let x = and_str 1 2 3 (at vs 1) (at vs 2) (omega arith) (omega arith) (h 1 refl).0 (h 2 refl).0 in
        (distinct B apart S.Structures g (t 0) (t 3) (str_names (str_binds (at vs 1) (at vs 2))) x.0, x.1)
    unit_bound StrCoreDec p vs h = (dec_bound B plain g (t 0) (t 1) (at vs 0) (h 0 refl).0)
    unit_bound StrLocal p vs h = ((str_decs_bound B plain g (t 1) (t 2) (at vs 1) (h 1 refl).0), (str_decs_bound B plain g (t 3) (t 4) (at vs 3) (h 3 refl).0))
    unit_bound StrsNone p vs h = tt
    unit_bound DecsNone p vs h = tt
    unit_bound SpecsNone p vs h = tt
    unit_bound StrsSemicolon p vs h = (pass B g t mono 1 2 (at vs 1) (omega arith) (h 1 refl).0)
    unit_bound DecsSemicolon p vs h = (pass B g t mono 1 2 (at vs 1) (omega arith) (h 1 refl).0)
    unit_bound SpecsSemicolon p vs h = (pass B g t mono 1 2 (at vs 1) (omega arith) (h 1 refl).0)
    unit_bound StrsStr p vs h = ((str_dec_bound B plain g (t 0) (t 1) (at vs 0) (h 0 refl).0), (str_decs_bound B plain g (t 1) (t 2) (at vs 1) (h 1 refl).0))
    unit_bound DecsDec p vs h = ((dec_bound B plain g (t 0) (t 1) (at vs 0) (h 0 refl).0), (decs_bound B plain g (t 1) (t 2) (at vs 1) (h 1 refl).0))
    unit_bound SpecsSpec p vs h =
        and_specs_bound (specs_in (at vs 0)) (specs_in (at vs 1))
        (specs_bound B plain g (t 0) (t 1) (at vs 0) (h 0 refl).0) (specs_bound B plain g (t 1) (t 2) (at vs 1) (h 1 refl).0)
    unit_bound _ p vs h = tt
