-- What a phrase binds: trees are well bound, and the names of lists that aren't part of a tree yet stand in the order of the
-- text, in the group g, at tokens from lo on and before hi.
use Rattle.std.specs.Prelude.{ℕ, ◌≤◌, List, [], ◌∷◌, ◌++◌, Option, Some, None}
use Rattle.sml_lex.specs.declared.fault.Place.{Place}
use Rattle.sml_tree.specs.Trees.{Id}
use Rattle.sml_tree.specs.Patterns.{Pat}
use Rattle.sml_tree.specs.Expressions.{Exp, Rules, ValBind, bind}
use Rattle.sml_tree.specs.Signatures.{WhereType}
use Rattle.sml_tree.specs.Clauses.{Clause, Constraint}
use Rattle.sml_read.specs.declared.grammar.Part.TheVariants as Part
use Rattle.sml_read.specs.declared.grammar.Symbol.{Symbol}
use Rattle.sml_read.specs.declared.grammar.Symbol.TheVariants.{Of}
use Rattle.sml_phrases.specs.Phrases.{Phrase, of_names, of_ty, of_tys, of_ty_fields, of_arguments, of_pat, of_pats, of_pat_fields, of_atoms, of_layer, of_op_atoms, of_op_layer, of_exp, of_exps, of_series, of_fields, of_rules, of_rest, of_dec, of_decs, of_bind, of_binds, of_values, of_round_values, of_functions, of_right_side, of_clauses, of_round_functions, of_typ_bind, of_typ_binds, of_con_bind, of_con_binds, of_datatypes, of_constructors, of_copy, of_exn_binds, of_sig, of_where, of_wheres, of_begun_sig_bind, of_sig_binds, of_specs, of_val_desc, of_val_descs, of_typ_descs, of_type_rest, of_begun_str_desc, of_str_descs, of_str, of_str_dec, of_str_decs, of_constraints, of_str_binds, of_begun_str_bind, of_functor_argument, of_fun_binds, of_begun_fun_bind, of_begun_functor, of_top}
use Rattle.sml_flaws.specs.declared.role.Space.{Space}
use Rattle.sml_flaws.specs.declared.role.Space.TheVariants as S
use Rattle.sml_tree_laws.specs.Scoped.{ids}
use Rattle.sml_tree_laws.specs.WellBound.{AreDistinct, ty_labels, TyBound, TysBound, TyFieldsBound, TyBoundIfAny, pat_labels, PatBound, PatsBound, PatFieldsBound, type_names, TypBindsBound, con_names, ConBindsBound, datatype_names, all_con_names, DatBindsBound, exn_names, ExnBindsBound, labels, ExpBound, ExpsBound, FieldsBound, RulesBound, DecBound, DecsBound, BindsBound, value_names, ValDescsBound, described, TypDescsBound, WhereBound, str_desc_names, SigBound, SpecsBound, StrDescsBound, str_names, StrBound, StrDecBound, StrDecsBound, StrBindsBound, signature_names, SigBindsBound, functor_names, FunBindsBound, TopBound}
use Rattle.sml_tree_laws.proofs.Named.{Named, named_wider}

-- what a list is of, by the part that it stands for: some phrases are made of lists of two kinds
pub data Class : Type 0 where
  plain : Class
  -- further type variables of a list
  variables : Class
  -- further exceptions of a specification
  exceptions : Class
  -- a binding of an exception
  exception : Class
  -- a binding of a type
  type_binding : Class
  -- an exception and a variable of a specification
  exn_desc : Class
  val_desc : Class
  -- signature identifiers
  identifiers : Class

abbrev pub class_of : Symbol → Class
class_of (Of Part.TvsMore) = variables
class_of (Of Part.ExnSpecMore) = exceptions
class_of (Of Part.ExnBind) = exception
class_of (Of Part.TypBind) = type_binding
class_of (Of Part.ExnSpec) = exn_desc
class_of (Of Part.ValSpec) = val_desc
class_of (Of Part.Include) = identifiers
class_of (Of Part.IncludeMore) = identifiers
class_of (Of Part.IncludeIds) = identifiers
class_of _ = plain

-- what a binding or a description is made of
abbrev pub Fits : Class → Phrase → Type 0
Fits type_binding (of_typ_bind xs x t) = Unit {0}
Fits type_binding _ = ⊥
Fits exception (of_con_bind x t) = Unit {0}
Fits exception (of_copy x y) = Unit {0}
Fits exception _ = ⊥
Fits exn_desc (of_con_bind x t) = Unit {0}
Fits exn_desc _ = ⊥
Fits val_desc (of_val_desc x t) = Unit {0}
Fits val_desc _ = ⊥
Fits _ _ = Unit {0}

abbrev pub con_space : Class → Space
con_space exceptions = S.Exceptions
con_space _ = S.Constructors

abbrev pub PatBoundIfAny : Option (Pat Place) → Type 0
PatBoundIfAny None = Unit {0}
PatBoundIfAny (Some q) = PatBound q

abbrev pub ExpBoundIfAny : Option (Exp Place) → Type 0
ExpBoundIfAny None = Unit {0}
ExpBoundIfAny (Some e) = ExpBound e

abbrev pub RulesBoundIfAny : Option (Rules Place) → Type 0
RulesBoundIfAny None = Unit {0}
RulesBoundIfAny (Some rs) = RulesBound rs

abbrev pub BindBound : ValBind Place → Type 0
BindBound (bind q e) = PatBound q × ExpBound e

abbrev pub ClauseBound : Clause Place → Type 0
ClauseBound c = PatsBound c.pats × TyBoundIfAny c.result × ExpBound c.body

abbrev pub ClausesBound : List (Clause Place) → Type 0
ClausesBound [] = Unit {0}
ClausesBound (c ∷ cs) = ClauseBound c × ClausesBound cs

abbrev pub WheresBound : List (WhereType Place) → Type 0
WheresBound [] = Unit {0}
WheresBound (w ∷ ws) = WhereBound w × WheresBound ws

abbrev pub ConstraintsBound : List (Constraint Place) → Type 0
ConstraintsBound [] = Unit {0}
ConstraintsBound (c ∷ cs) = SigBound c.signature × ConstraintsBound cs

module _ (B : Space → ℕ → ℕ → Id → Type 0) where
  abbrev pub VariablesBound : Class → ℕ → ℕ → ℕ → List Id → Type 0
  VariablesBound variables g lo hi xs = Named B S.Variables g lo hi xs
  VariablesBound identifiers g lo hi xs = Unit {0}
  VariablesBound _ g lo hi xs = AreDistinct xs

  abbrev pub CopyBound : Class → ℕ → ℕ → ℕ → Id → Type 0
  CopyBound exception g lo hi x = Named B S.Exceptions g lo hi (x ∷ [])
  CopyBound _ g lo hi x = Unit {0}

  abbrev pub PhraseBound : Class → ℕ → ℕ → ℕ → Phrase → Type 0
  PhraseBound c g lo hi (of_names xs) = VariablesBound c g lo hi (ids xs)
  PhraseBound c g lo hi (of_ty t) = TyBound t
  PhraseBound c g lo hi (of_tys ts) = TysBound ts
  PhraseBound c g lo hi (of_ty_fields fs) = Named B S.Labels g lo hi (ty_labels fs) × TyFieldsBound fs
  PhraseBound c g lo hi (of_arguments ts x) = TysBound ts
  PhraseBound c g lo hi (of_pat q) = PatBound q
  PhraseBound c g lo hi (of_pats qs) = PatsBound qs
  PhraseBound c g lo hi (of_pat_fields fs b) = Named B S.Labels g lo hi (pat_labels fs) × PatFieldsBound fs
  PhraseBound c g lo hi (of_atoms qs ts) = PatsBound qs × TysBound ts
  PhraseBound c g lo hi (of_layer t q) = TyBoundIfAny t × PatBoundIfAny q
  PhraseBound c g lo hi (of_op_atoms x qs ts) = PatsBound qs × TysBound ts
  PhraseBound c g lo hi (of_op_layer x t q) = TyBoundIfAny t × PatBoundIfAny q
  PhraseBound c g lo hi (of_exp e) = ExpBound e
  PhraseBound c g lo hi (of_exps es) = ExpsBound es
  PhraseBound c g lo hi (of_series es) = ExpsBound es
  PhraseBound c g lo hi (of_fields fs) = Named B S.Labels g lo hi (labels fs) × FieldsBound fs
  PhraseBound c g lo hi (of_rules rs) = RulesBound rs
  PhraseBound c g lo hi (of_rest es ts a o rs) = ExpsBound es × TysBound ts × ExpBoundIfAny a × ExpBoundIfAny o × RulesBoundIfAny rs
  PhraseBound c g lo hi (of_dec d) = DecBound d
  PhraseBound c g lo hi (of_decs ds) = DecsBound ds
  PhraseBound c g lo hi (of_bind b) = BindBound b
  PhraseBound c g lo hi (of_binds bs) = BindsBound bs
  PhraseBound c g lo hi (of_values xs bs rs) = AreDistinct (ids xs) × BindsBound bs × BindsBound rs
  PhraseBound c g lo hi (of_round_values ps qs ts e bs rs) = PatsBound ps × PatsBound qs × TysBound ts × ExpBound e × BindsBound bs × BindsBound rs
  PhraseBound c g lo hi (of_functions xs bs) = AreDistinct (ids xs) × BindsBound bs
  PhraseBound c g lo hi (of_right_side qs t e) = PatsBound qs × TyBoundIfAny t × ExpBound e
  PhraseBound c g lo hi (of_clauses cs) = ClausesBound cs
  PhraseBound c g lo hi (of_round_functions ps qs t e cs bs) = PatsBound ps × PatsBound qs × TyBoundIfAny t × ExpBound e × ClausesBound cs × BindsBound bs
  PhraseBound c g lo hi (of_typ_bind xs x t) = AreDistinct (ids xs) × Named B S.Types g lo hi (x.id ∷ []) × TyBound t
  PhraseBound c g lo hi (of_typ_binds bs) = Named B S.Types g lo hi (type_names bs) × TypBindsBound bs
  PhraseBound c g lo hi (of_con_bind x t) = Named B S.Exceptions g lo hi (x.id ∷ []) × TyBoundIfAny t
  PhraseBound c g lo hi (of_con_binds cs) = Named B (con_space c) g lo hi (con_names cs) × ConBindsBound cs
  PhraseBound c g lo hi (of_datatypes ds ts) =
      Named B S.Types g lo hi (datatype_names ds) × Named B S.Constructors g lo hi (all_con_names ds) × DatBindsBound ds × AreDistinct (type_names ts) × TypBindsBound ts
  PhraseBound c g lo hi (of_constructors cs ds ts) =
      Named B S.Types g lo hi (datatype_names ds) × Named B S.Constructors g lo hi (con_names cs ++ all_con_names ds) × ConBindsBound cs × DatBindsBound ds × AreDistinct (type_names ts) × TypBindsBound ts
  PhraseBound c g lo hi (of_copy x y) = CopyBound c g lo hi x.id
  PhraseBound c g lo hi (of_exn_binds bs) = Named B S.Exceptions g lo hi (exn_names bs) × ExnBindsBound bs
  PhraseBound c g lo hi (of_sig s) = SigBound s
  PhraseBound c g lo hi (of_where xs y t) = AreDistinct (ids xs) × TyBound t
  PhraseBound c g lo hi (of_wheres ws) = WheresBound ws
  PhraseBound c g lo hi (of_begun_sig_bind x s) = Named B S.Signatures g lo hi (x.id ∷ []) × SigBound s
  PhraseBound c g lo hi (of_sig_binds ws bs) = WheresBound ws × Named B S.Signatures g lo hi (signature_names bs) × SigBindsBound bs
  PhraseBound c g lo hi (of_specs ss) = SpecsBound ss
  PhraseBound c g lo hi (of_val_desc x t) = Named B S.Values g lo hi (x.id ∷ []) × TyBound t
  PhraseBound c g lo hi (of_val_descs ds) = Named B S.Values g lo hi (value_names ds) × ValDescsBound ds
  PhraseBound c g lo hi (of_typ_descs ds) = Named B S.Types g lo hi (described ds) × TypDescsBound ds
  PhraseBound c g lo hi (of_type_rest t bs) = TyBound t × Named B S.Types g lo hi (type_names bs) × TypBindsBound bs
  PhraseBound c g lo hi (of_begun_str_desc x s) = Named B S.Structures g lo hi (x.id ∷ []) × SigBound s
  PhraseBound c g lo hi (of_str_descs ws ds) = WheresBound ws × Named B S.Structures g lo hi (str_desc_names ds) × StrDescsBound ds
  PhraseBound c g lo hi (of_str e) = StrBound e
  PhraseBound c g lo hi (of_str_dec d) = StrDecBound d
  PhraseBound c g lo hi (of_str_decs ds) = StrDecsBound ds
  PhraseBound c g lo hi (of_constraints ws cs) = WheresBound ws × ConstraintsBound cs
  PhraseBound c g lo hi (of_str_binds ws cs bs) = WheresBound ws × ConstraintsBound cs × Named B S.Structures g lo hi (str_names bs) × StrBindsBound bs
  PhraseBound c g lo hi (of_begun_str_bind x cs e) = Named B S.Structures g lo hi (x.id ∷ []) × ConstraintsBound cs × StrBound e
  PhraseBound c g lo hi (of_functor_argument x s) = SigBound s
  PhraseBound c g lo hi (of_fun_binds ws cs bs) = WheresBound ws × ConstraintsBound cs × Named B S.Functors g lo hi (functor_names bs) × FunBindsBound bs
  PhraseBound c g lo hi (of_begun_fun_bind f x s cs e) = Named B S.Functors g lo hi (f.id ∷ []) × SigBound s × ConstraintsBound cs × StrBound e
  PhraseBound c g lo hi (of_begun_functor f ss cs e) = Named B S.Functors g lo hi (f.id ∷ []) × SpecsBound ss × ConstraintsBound cs × StrBound e
  PhraseBound c g lo hi (of_top d) = TopBound d
  PhraseBound c g lo hi _ = Unit {0}

  variables_wider : (c : Class) (g lo hi lo' hi' : ℕ) (xs : List Id) → lo' ≤ lo → hi ≤ hi' → VariablesBound c g lo hi xs → VariablesBound c g lo' hi' xs
  variables_wider plain g lo hi lo' hi' xs a b h = h
  variables_wider variables g lo hi lo' hi' xs a b h = named_wider B S.Variables g lo hi lo' hi' xs a b h
  variables_wider exceptions g lo hi lo' hi' xs a b h = h
  variables_wider exception g lo hi lo' hi' xs a b h = h
  variables_wider identifiers g lo hi lo' hi' xs a b h = h
  variables_wider val_desc g lo hi lo' hi' xs a b h = h
  variables_wider exn_desc g lo hi lo' hi' xs a b h = h
  variables_wider type_binding g lo hi lo' hi' xs a b h = h

  copy_wider : (c : Class) (g lo hi lo' hi' : ℕ) (x : Id) → lo' ≤ lo → hi ≤ hi' → CopyBound c g lo hi x → CopyBound c g lo' hi' x
  copy_wider plain g lo hi lo' hi' x a b h = h
  copy_wider variables g lo hi lo' hi' x a b h = h
  copy_wider exceptions g lo hi lo' hi' x a b h = h
  copy_wider identifiers g lo hi lo' hi' x a b h = h
  copy_wider val_desc g lo hi lo' hi' x a b h = h
  copy_wider exn_desc g lo hi lo' hi' x a b h = h
  copy_wider type_binding g lo hi lo' hi' x a b h = h
  copy_wider exception g lo hi lo' hi' x a b h = named_wider B S.Exceptions g lo hi lo' hi' (x ∷ []) a b h

  pub phrase_wider : (c : Class) (g lo hi lo' hi' : ℕ) (v : Phrase) → lo' ≤ lo → hi ≤ hi' → PhraseBound c g lo hi v → PhraseBound c g lo' hi' v
  phrase_wider c g lo hi lo' hi' (of_names xs) a b h = variables_wider c g lo hi lo' hi' (ids xs) a b h
  phrase_wider c g lo hi lo' hi' (of_ty_fields fs) a b h = (named_wider B S.Labels g lo hi lo' hi' (ty_labels fs) a b h.0, h.1)
  phrase_wider c g lo hi lo' hi' (of_pat_fields fs p) a b h = (named_wider B S.Labels g lo hi lo' hi' (pat_labels fs) a b h.0, h.1)
  phrase_wider c g lo hi lo' hi' (of_fields fs) a b h = (named_wider B S.Labels g lo hi lo' hi' (labels fs) a b h.0, h.1)
  phrase_wider c g lo hi lo' hi' (of_typ_bind xs x t) a b h = (h.0, named_wider B S.Types g lo hi lo' hi' (x.id ∷ []) a b h.1, h.2)
  phrase_wider c g lo hi lo' hi' (of_typ_binds bs) a b h = (named_wider B S.Types g lo hi lo' hi' (type_names bs) a b h.0, h.1)
  phrase_wider c g lo hi lo' hi' (of_con_bind x t) a b h = (named_wider B S.Exceptions g lo hi lo' hi' (x.id ∷ []) a b h.0, h.1)
  phrase_wider c g lo hi lo' hi' (of_con_binds cs) a b h = (named_wider B (con_space c) g lo hi lo' hi' (con_names cs) a b h.0, h.1)
  phrase_wider c g lo hi lo' hi' (of_datatypes ds ts) a b h =
      (named_wider B S.Types g lo hi lo' hi' (datatype_names ds) a b h.0, named_wider B S.Constructors g lo hi lo' hi' (all_con_names ds) a b h.1, h.2, h.3, h.4)
  phrase_wider c g lo hi lo' hi' (of_constructors cs ds ts) a b h =
      (named_wider B S.Types g lo hi lo' hi' (datatype_names ds) a b h.0, named_wider B S.Constructors g lo hi lo' hi' (con_names cs ++ all_con_names ds) a b h.1, h.2, h.3, h.4, h.5)
  phrase_wider c g lo hi lo' hi' (of_copy x y) a b h = copy_wider c g lo hi lo' hi' x.id a b h
  phrase_wider c g lo hi lo' hi' (of_exn_binds bs) a b h = (named_wider B S.Exceptions g lo hi lo' hi' (exn_names bs) a b h.0, h.1)
  phrase_wider c g lo hi lo' hi' (of_begun_sig_bind x s) a b h = (named_wider B S.Signatures g lo hi lo' hi' (x.id ∷ []) a b h.0, h.1)
  phrase_wider c g lo hi lo' hi' (of_sig_binds ws bs) a b h = (h.0, named_wider B S.Signatures g lo hi lo' hi' (signature_names bs) a b h.1, h.2)
  phrase_wider c g lo hi lo' hi' (of_val_desc x t) a b h = (named_wider B S.Values g lo hi lo' hi' (x.id ∷ []) a b h.0, h.1)
  phrase_wider c g lo hi lo' hi' (of_val_descs ds) a b h = (named_wider B S.Values g lo hi lo' hi' (value_names ds) a b h.0, h.1)
  phrase_wider c g lo hi lo' hi' (of_typ_descs ds) a b h = (named_wider B S.Types g lo hi lo' hi' (described ds) a b h.0, h.1)
  phrase_wider c g lo hi lo' hi' (of_type_rest t bs) a b h = (h.0, named_wider B S.Types g lo hi lo' hi' (type_names bs) a b h.1, h.2)
  phrase_wider c g lo hi lo' hi' (of_begun_str_desc x s) a b h = (named_wider B S.Structures g lo hi lo' hi' (x.id ∷ []) a b h.0, h.1)
  phrase_wider c g lo hi lo' hi' (of_str_descs ws ds) a b h = (h.0, named_wider B S.Structures g lo hi lo' hi' (str_desc_names ds) a b h.1, h.2)
  phrase_wider c g lo hi lo' hi' (of_str_binds ws cs bs) a b h = (h.0, h.1, named_wider B S.Structures g lo hi lo' hi' (str_names bs) a b h.2, h.3)
  phrase_wider c g lo hi lo' hi' (of_begun_str_bind x cs e) a b h = (named_wider B S.Structures g lo hi lo' hi' (x.id ∷ []) a b h.0, h.1, h.2)
  phrase_wider c g lo hi lo' hi' (of_fun_binds ws cs bs) a b h = (h.0, h.1, named_wider B S.Functors g lo hi lo' hi' (functor_names bs) a b h.2, h.3)
  phrase_wider c g lo hi lo' hi' (of_begun_fun_bind f x s cs e) a b h = (named_wider B S.Functors g lo hi lo' hi' (f.id ∷ []) a b h.0, h.1, h.2, h.3)
  phrase_wider c g lo hi lo' hi' (of_begun_functor f ss cs e) a b h = (named_wider B S.Functors g lo hi lo' hi' (f.id ∷ []) a b h.0, h.1, h.2, h.3)
  phrase_wider c g lo hi lo' hi' _ a b h = h
