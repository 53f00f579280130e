-- What the rules of specifications make of their parts (the Definition, sections 2.8 and 3.4): one line a rule, with the
-- place of the phrase and all phrases from its first part on. What stands after a signature expression in a structure
-- description is gathered from the end, and belongs to the description that is met next.
use Rattle.std.specs.Prelude.{List, [], ◌∷◌}
use Rattle.sml_lex.specs.declared.fault.Place.{Place}
use Rattle.sml_tree.specs.Names.{Name}
use Rattle.sml_tree.specs.Expressions.{DatBind}
use Rattle.sml_tree.specs.Signatures.{Spec, StrDescs, val_spec, type_spec, eqtype_spec, datatype_spec, copy_spec, exception_spec, structure_spec, include_spec, sharing_types, sharing_structures, sig_end, sig_name, no_spec, and_spec, str_desc, no_str_desc, and_str_desc}
use Rattle.sml_read.specs.declared.grammar.SpecificationRule.{SpecificationRule}
use Rattle.sml_read.specs.declared.grammar.SpecificationRule.TheVariants as R
use Rattle.sml_derived.specs.Derived.{type_specs, includes, where_types}
use Rattle.sml_bare_mods.specs.SignatureRules.{with_wheres}
use Rattle.sml_phrases.specs.Phrases.{Phrase, nothing, of_long, of_names, of_longs, of_typ_binds, of_typ_descs, of_con_bind, of_con_binds, of_datatypes, of_constructors, of_copy, of_sig, of_wheres, of_specs, of_val_desc, of_val_descs, of_type_rest, of_begun_str_desc, of_str_descs, of_shared_types, at, name_in, names_in, long_in, longs_in, ty_in, ty_if_any, typ_binds_in, con_bind_in, con_binds_in, dat_binds_in, sig_in, wheres_in, where_in, specs_in, val_desc_in, val_descs_in, typ_descs_in, desc_wheres_in, str_descs_in}

-- one specification
abbrev pub one : Spec Place → Phrase
one s = of_specs (and_spec s no_spec)

-- a type or types after `type`
abbrev pub types : Place → Phrase → Phrase
types p (of_typ_binds (b ∷ bs)) = of_specs (type_specs p b bs)
types p (of_typ_descs ds) = one (type_spec p ds)
types p _ = nothing

-- what stands after the first type constructor after `type`
abbrev pub type_rest : List (Name Place) → Name Place → Phrase → Phrase
type_rest xs x (of_type_rest t bs) = of_typ_binds (record { variables = xs; name = x; ty = t } ∷ bs)
type_rest xs x (of_typ_descs ds) = of_typ_descs (record { variables = xs; name = x } ∷ ds)
type_rest xs x _ = nothing

-- datatypes, or a copy, after `datatype`
abbrev pub datatypes : Place → Phrase → Phrase
datatypes p (of_datatypes ds ts) = one (datatype_spec p ds)
datatypes p (of_copy x c) = one (copy_spec p x c)
datatypes p _ = nothing

-- a datatype and those after it, from its constructors
abbrev pub datatype : List (Name Place) → Name Place → Phrase → List (DatBind Place) → Phrase
datatype xs x cs ds = of_datatypes (record { variables = xs; name = x; constructors = con_binds_in cs } ∷ ds) []

-- the same without type variables, or a copy, from what stands after `=`
abbrev pub datatype_rest : Name Place → Phrase → Phrase
datatype_rest x (of_constructors cs ds ts) = of_datatypes (record { variables = []; name = x; constructors = cs } ∷ ds) []
datatype_rest x (of_long c) = of_copy x c
datatype_rest x _ = nothing

-- a structure description with what belongs to it, and those after it
abbrev pub str_descs : Phrase → Phrase → StrDescs Place
str_descs (of_begun_str_desc x s) more = and_str_desc (str_desc x (with_wheres s (desc_wheres_in more))) (str_descs_in more)
str_descs _ more = str_descs_in more

abbrev pub where_str_desc : Phrase → Phrase → Phrase
where_str_desc w more = of_str_descs (where_in w ∷ desc_wheres_in more) (str_descs_in more)

-- a signature expression or signature identifiers after `include`
abbrev pub included : Place → Phrase → Phrase
included p (of_sig s) = one (include_spec p s)
included p (of_names xs) = of_specs (includes p xs)
included p _ = nothing

-- a signature identifier after `include`, with what stands after it
abbrev pub included_name : Place → Name Place → Phrase → Phrase
included_name p x (of_wheres ws) = of_sig (where_types p (sig_name p x.id) ws)
included_name p x (of_names xs) = of_names (x ∷ xs)
included_name p x _ = nothing

-- type constructors or structures after `sharing`
abbrev pub shared : Place → Phrase → Phrase
shared p (of_shared_types cs) = one (sharing_types p cs)
shared p (of_longs cs) = one (sharing_structures p cs)
shared p _ = nothing

abbrev pub specification_phrase : SpecificationRule → Place → List Phrase → Phrase
specification_phrase R.SpecVal p vs = one (val_spec p (val_desc_in (at vs 1) ∷ val_descs_in (at vs 2)))
specification_phrase R.SpecType p vs = types p (at vs 1)
specification_phrase R.SpecEqtype p vs = one (eqtype_spec p (record { variables = names_in (at vs 1); name = name_in (at vs 2) } ∷ typ_descs_in (at vs 3)))
specification_phrase R.SpecDatatype p vs = datatypes p (at vs 1)
specification_phrase R.SpecException p vs = one (exception_spec p (con_bind_in (at vs 1) ∷ con_binds_in (at vs 2)))
specification_phrase R.SpecStructure p vs = one (structure_spec p (str_descs (at vs 1) (at vs 2)))
specification_phrase R.SpecInclude p vs = included p (at vs 1)
specification_phrase R.SpecSharing p vs = shared p (at vs 1)
specification_phrase R.ValSpecVid p vs = of_val_desc (name_in (at vs 0)) (ty_in (at vs 2))
specification_phrase R.ValSpecMoreNone p vs = of_val_descs []
specification_phrase R.ValSpecMoreAnd p vs = of_val_descs (val_desc_in (at vs 1) ∷ val_descs_in (at vs 2))
specification_phrase R.TypeSpecTvs p vs = type_rest (names_in (at vs 0)) (name_in (at vs 1)) (at vs 2)
specification_phrase R.TypeSpecRestEquals p vs = of_type_rest (ty_in (at vs 1)) (typ_binds_in (at vs 2))
specification_phrase R.TypeSpecMoreNone p vs = of_typ_descs []
specification_phrase R.TypeSpecMoreAnd p vs = of_typ_descs (record { variables = names_in (at vs 1); name = name_in (at vs 2) } ∷ typ_descs_in (at vs 3))
specification_phrase R.DatSpecSomeTvs p vs = datatype (names_in (at vs 0)) (name_in (at vs 1)) (at vs 3) (dat_binds_in (at vs 4))
specification_phrase R.DatSpecTyCon p vs = datatype_rest (name_in (at vs 0)) (at vs 2)
specification_phrase R.DatSpecRestDatatype p vs = at vs 1
specification_phrase R.DatSpecRestConSpecs p vs = of_constructors (con_binds_in (at vs 0)) (dat_binds_in (at vs 1)) []
specification_phrase R.DatSpecMoreNone p vs = of_datatypes [] []
specification_phrase R.DatSpecMoreAnd p vs = datatype (names_in (at vs 1)) (name_in (at vs 2)) (at vs 4) (dat_binds_in (at vs 5))
specification_phrase R.ConSpecsVid p vs = of_con_binds (record { name = name_in (at vs 0); argument = ty_if_any (at vs 1) } ∷ con_binds_in (at vs 2))
specification_phrase R.ConSpecsMoreNone p vs = of_con_binds []
specification_phrase R.ConSpecsMoreBar p vs = at vs 1
specification_phrase R.OfTyNone p vs = nothing
specification_phrase R.OfTyOf p vs = at vs 1
specification_phrase R.ExnSpecVid p vs = of_con_bind (name_in (at vs 0)) (ty_if_any (at vs 1))
specification_phrase R.ExnSpecMoreNone p vs = of_con_binds []
specification_phrase R.ExnSpecMoreAnd p vs = of_con_binds (con_bind_in (at vs 1) ∷ con_binds_in (at vs 2))
specification_phrase R.StrSpecAlphanumeric p vs = of_begun_str_desc (name_in (at vs 0)) (sig_in (at vs 2))
specification_phrase R.StrSpecMoreNone p vs = of_str_descs [] no_str_desc
specification_phrase R.StrSpecMoreWhere p vs = where_str_desc (at vs 1) (at vs 2)
specification_phrase R.StrSpecMoreAnd p vs = of_str_descs [] (str_descs (at vs 1) (at vs 2))
specification_phrase R.StrSpecWhereNone p vs = of_str_descs [] no_str_desc
specification_phrase R.StrSpecWhereWhere p vs = where_str_desc (at vs 1) (at vs 2)
specification_phrase R.StrSpecWhereAnd p vs = at vs 1
specification_phrase R.StrSpecAndWhere p vs = where_str_desc (at vs 0) (at vs 1)
specification_phrase R.StrSpecAndStrSpec p vs = of_str_descs [] (str_descs (at vs 0) (at vs 1))
specification_phrase R.IncludeSig p vs = of_sig (where_types p (sig_end p (specs_in (at vs 1))) (wheres_in (at vs 3)))
specification_phrase R.IncludeAlphanumeric p vs = included_name p (name_in (at vs 0)) (at vs 1)
specification_phrase R.IncludeMoreAlphanumeric p vs = of_names (name_in (at vs 0) ∷ names_in (at vs 1))
specification_phrase R.IncludeIdsNone p vs = of_names []
specification_phrase R.IncludeIdsAlphanumeric p vs = of_names (name_in (at vs 0) ∷ names_in (at vs 1))
specification_phrase R.SharingType p vs = of_shared_types (long_in (at vs 1) ∷ long_in (at vs 3) ∷ longs_in (at vs 4))
specification_phrase R.SharingLongStrId p vs = of_longs (long_in (at vs 0) ∷ long_in (at vs 2) ∷ longs_in (at vs 3))
specification_phrase R.TypeShareMoreNone p vs = of_longs []
specification_phrase R.TypeShareMoreEquals p vs = of_longs (long_in (at vs 1) ∷ longs_in (at vs 2))
specification_phrase R.StrShareMoreNone p vs = of_longs []
specification_phrase R.StrShareMoreEquals p vs = of_longs (long_in (at vs 1) ∷ longs_in (at vs 2))
specification_phrase _ p vs = at vs 0
