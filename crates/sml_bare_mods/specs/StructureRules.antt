-- What the rules of structure expressions, of structure bindings and of functor bindings make of their parts (the
-- Definition, sections 2.8 and 3.4): one line a rule, with the place of the phrase and all phrases from its first part
-- on. What stands after a structure expression is gathered from the end: equations of the signature expression before
-- them, constraints, and further bindings, and belongs to the phrase that is met next.
use Rattle.std.specs.Prelude.{List, [], ◌∷◌}
use Rattle.sml_lex.specs.declared.fault.Place.{Place}
use Rattle.sml_tree.specs.Names.{Name}
use Rattle.sml_tree.specs.Signatures.{WhereType}
use Rattle.sml_tree.specs.Structures.{StrExp, StrBinds, FunBind, struct_end, str_name, ascribed, functor_apply, str_let, str_bind, no_str_bind, and_str_bind}
use Rattle.sml_tree.specs.declared.structures.Ascription.TheVariants.{Transparent, Opaque}
use Rattle.sml_read.specs.declared.grammar.StructureRule.{StructureRule}
use Rattle.sml_read.specs.declared.grammar.StructureRule.TheVariants as R
use Rattle.sml_tree.specs.Clauses.{Constraint}
use Rattle.sml_derived.specs.Derived.{long, functor_apply_decs, open_functor}
use Rattle.sml_bare_mods.specs.SignatureRules.{with_wheres}
use Rattle.sml_phrases.specs.Phrases.{Phrase, nothing, of_str, of_str_decs, of_constraints, of_str_binds, of_begun_str_bind, of_functor_argument, of_specs, of_fun_binds, of_begun_fun_bind, of_begun_functor, at, name_in, long_in, sig_in, where_in, str_in, str_decs_in, constraint_wheres_in, constraints_in, str_wheres_in, str_constraints_in, str_binds_in, fun_wheres_in, fun_constraints_in, fun_binds_in}

-- the place of a structure expression
abbrev pub str_place : StrExp Place → Place
str_place (struct_end p ds) = p
str_place (str_name x) = x.place
str_place (ascribed p e a s) = p
str_place (functor_apply f e) = f.place
str_place (str_let p ds e) = p

-- a structure expression and the constraints after it
abbrev pub constrained : StrExp Place → List (Constraint Place) → StrExp Place
constrained e [] = e
constrained e (c ∷ cs) = constrained (ascribed (str_place e) e c.ascription c.signature) cs

-- a constraint, what belongs to its signature expression, and the constraints after that
abbrev pub and_constraint : List (Constraint Place) → List (WhereType Place) → List (Constraint Place) → List (Constraint Place)
and_constraint [] ws cs = cs
and_constraint (c ∷ _) ws cs = record { ascription = c.ascription; signature = with_wheres c.signature ws } ∷ cs

-- the right side of a structure or functor binding at this place, with the binding's own constraint, if it has one
abbrev pub own_constrained : Place → List (Constraint Place) → StrExp Place → StrExp Place
own_constrained p [] e = e
own_constrained p (c ∷ _) e = ascribed p e c.ascription c.signature

-- a structure binding with the constraints that belong to it, and those after it
abbrev pub str_binds : Phrase → Phrase → StrBinds Place
str_binds (of_begun_str_bind x own e) more = and_str_bind (str_bind x (own_constrained x.place own (constrained e (str_constraints_in more)))) (str_binds_in more)
str_binds _ more = str_binds_in more

-- a functor binding with the constraints that belong to it, and those after it
abbrev pub fun_binds : Phrase → Phrase → List (FunBind Place)
fun_binds (of_begun_fun_bind f x s own e) more = record { name = f; argument = x; signature = s; body = own_constrained f.place own (constrained e (fun_constraints_in more)) } ∷ fun_binds_in more
fun_binds (of_begun_functor f ss own e) more = open_functor f ss (own_constrained f.place own (constrained e (fun_constraints_in more))) ∷ fun_binds_in more
fun_binds _ more = fun_binds_in more

-- a functor binding to which constraints may still belong, from its argument
abbrev pub begun_fun_bind : Name Place → Phrase → List (Constraint Place) → StrExp Place → Phrase
begun_fun_bind f (of_functor_argument x s) own e = of_begun_fun_bind f x s own e
begun_fun_bind f (of_specs ss) own e = of_begun_functor f ss own e
begun_fun_bind f _ own e = nothing

-- a structure identifier, or a functor and its argument
abbrev pub applied : Name Place → Phrase → StrExp Place
applied f (of_str e) = functor_apply f e
applied f (of_str_decs ds) = functor_apply_decs f ds
applied f _ = str_name (long f)

-- a constraint after a structure expression, with what stands after it, in a structure expression, a structure
-- binding and a functor binding
abbrev pub after_str : Phrase → Phrase → Phrase
after_str c more = of_constraints [] (and_constraint (constraints_in c) (constraint_wheres_in more) (constraints_in more))

abbrev pub after_str_bind : Phrase → Phrase → Phrase
after_str_bind c more = of_str_binds [] (and_constraint (constraints_in c) (str_wheres_in more) (str_constraints_in more)) (str_binds_in more)

abbrev pub after_fun_bind : Phrase → Phrase → Phrase
after_fun_bind c more = of_fun_binds [] (and_constraint (constraints_in c) (fun_wheres_in more) (fun_constraints_in more)) (fun_binds_in more)

-- an equation of the signature expression before it, with what stands after it, in the same three
abbrev pub where_str : Phrase → Phrase → Phrase
where_str w more = of_constraints (where_in w ∷ constraint_wheres_in more) (constraints_in more)

abbrev pub where_str_bind : Phrase → Phrase → Phrase
where_str_bind w more = of_str_binds (where_in w ∷ str_wheres_in more) (str_constraints_in more) (str_binds_in more)

abbrev pub where_fun_bind : Phrase → Phrase → Phrase
where_fun_bind w more = of_fun_binds (where_in w ∷ fun_wheres_in more) (fun_constraints_in more) (fun_binds_in more)

abbrev pub structure_phrase : StructureRule → Place → List Phrase → Phrase
structure_phrase R.StrBindAlphanumeric p vs = of_begun_str_bind (name_in (at vs 0)) (constraints_in (at vs 1)) (str_in (at vs 3))
structure_phrase R.SealNone p vs = of_constraints [] []
structure_phrase R.SealColon p vs = of_constraints [] (record { ascription = Transparent; signature = sig_in (at vs 1) } ∷ [])
structure_phrase R.SealSeals p vs = of_constraints [] (record { ascription = Opaque; signature = sig_in (at vs 1) } ∷ [])
structure_phrase R.StrBindMoreNone p vs = of_str_binds [] [] no_str_bind
structure_phrase R.StrBindMoreAscription p vs = after_str_bind (at vs 0) (at vs 1)
structure_phrase R.StrBindMoreAnd p vs = of_str_binds [] [] (str_binds (at vs 1) (at vs 2))
structure_phrase R.AscriptionColon p vs = of_constraints [] (record { ascription = Transparent; signature = sig_in (at vs 1) } ∷ [])
structure_phrase R.AscriptionSeals p vs = of_constraints [] (record { ascription = Opaque; signature = sig_in (at vs 1) } ∷ [])
structure_phrase R.StrBindSigNone p vs = of_str_binds [] [] no_str_bind
structure_phrase R.StrBindSigWhere p vs = where_str_bind (at vs 1) (at vs 2)
structure_phrase R.StrBindSigAscription p vs = after_str_bind (at vs 0) (at vs 1)
structure_phrase R.StrBindSigAnd p vs = of_str_binds [] [] (str_binds (at vs 1) (at vs 2))
structure_phrase R.StrBindWhereNone p vs = of_str_binds [] [] no_str_bind
structure_phrase R.StrBindWhereWhere p vs = where_str_bind (at vs 1) (at vs 2)
structure_phrase R.StrBindWhereAscription p vs = after_str_bind (at vs 0) (at vs 1)
structure_phrase R.StrBindWhereAnd p vs = at vs 1
structure_phrase R.StrBindAndWhere p vs = where_str_bind (at vs 0) (at vs 1)
structure_phrase R.StrBindAndStrBind p vs = of_str_binds [] [] (str_binds (at vs 0) (at vs 1))
structure_phrase R.FunBindAlphanumeric p vs = begun_fun_bind (name_in (at vs 0)) (at vs 2) (constraints_in (at vs 4)) (str_in (at vs 6))
structure_phrase R.FunArgAlphanumeric p vs = of_functor_argument (name_in (at vs 0)) (sig_in (at vs 2))
structure_phrase R.FunBindMoreNone p vs = of_fun_binds [] [] []
structure_phrase R.FunBindMoreAscription p vs = after_fun_bind (at vs 0) (at vs 1)
structure_phrase R.FunBindMoreAnd p vs = of_fun_binds [] [] (fun_binds (at vs 1) (at vs 2))
structure_phrase R.FunBindSigNone p vs = of_fun_binds [] [] []
structure_phrase R.FunBindSigWhere p vs = where_fun_bind (at vs 1) (at vs 2)
structure_phrase R.FunBindSigAscription p vs = after_fun_bind (at vs 0) (at vs 1)
structure_phrase R.FunBindSigAnd p vs = of_fun_binds [] [] (fun_binds (at vs 1) (at vs 2))
structure_phrase R.FunBindWhereNone p vs = of_fun_binds [] [] []
structure_phrase R.FunBindWhereWhere p vs = where_fun_bind (at vs 1) (at vs 2)
structure_phrase R.FunBindWhereAscription p vs = after_fun_bind (at vs 0) (at vs 1)
structure_phrase R.FunBindWhereAnd p vs = at vs 1
structure_phrase R.FunBindAndWhere p vs = where_fun_bind (at vs 0) (at vs 1)
structure_phrase R.FunBindAndFunBind p vs = of_fun_binds [] [] (fun_binds (at vs 0) (at vs 1))
structure_phrase R.StrExpStrAtom p vs = of_str (constrained (str_in (at vs 0)) (constraints_in (at vs 1)))
structure_phrase R.StrExpMoreNone p vs = of_constraints [] []
structure_phrase R.StrExpMoreAscription p vs = after_str (at vs 0) (at vs 1)
structure_phrase R.StrExpSigNone p vs = of_constraints [] []
structure_phrase R.StrExpSigWhere p vs = where_str (at vs 1) (at vs 2)
structure_phrase R.StrExpSigAscription p vs = after_str (at vs 0) (at vs 1)
structure_phrase R.StrExpWhereNone p vs = of_constraints [] []
structure_phrase R.StrExpWhereWhere p vs = where_str (at vs 1) (at vs 2)
structure_phrase R.StrExpWhereAscription p vs = after_str (at vs 0) (at vs 1)
structure_phrase R.StrExpWhereAnd p vs = where_str (at vs 1) (at vs 2)
structure_phrase R.StrAtomStruct p vs = of_str (struct_end p (str_decs_in (at vs 1)))
structure_phrase R.StrAtomLongAlphanumeric p vs = of_str (str_name (long_in (at vs 0)))
structure_phrase R.StrAtomAlphanumeric p vs = of_str (applied (name_in (at vs 0)) (at vs 1))
structure_phrase R.StrAtomLet p vs = of_str (str_let p (str_decs_in (at vs 1)) (str_in (at vs 3)))
structure_phrase R.ActualNone p vs = nothing
structure_phrase R.ActualOpenRound p vs = at vs 1
structure_phrase _ p vs = at vs 0
