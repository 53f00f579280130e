-- What a phrase of the grammar makes of its parts, before it is part of another one. `P` of the trees is the place, in lines
-- and columns, counted from the first token of the declaration.
use Rattle.std.specs.Prelude.{ℕ, List, [], ◌∷◌, drop, Bool, Option, Some, None}
use Rattle.sml_lex.specs.declared.fault.Place.{Place}
use Rattle.sml_lex.specs.Faults.{first_place}
use Rattle.sml_tree.specs.Names.{Name, LongName}
use Rattle.sml_tree.specs.Types.{Ty, Tys, TyFields, ty_tuple, no_ty, no_ty_field}
use Rattle.sml_tree.specs.Patterns.{Constant, Pat, Pats, PatFields, pat_tuple, no_pat}
use Rattle.sml_tree.specs.declared.patterns.ConstantKind.TheVariants.{Integer}
use Rattle.sml_tree.specs.Expressions.{TypBind, ConBind, DatBind, ExnBind, Exp, Exps, Fields, Rules, Dec, Decs, ValBind, ValBinds, tuple, no_exp, no_field, no_rule, fixity_dec, no_dec, bind, no_bind}
use Rattle.sml_tree.specs.Signatures.{SigExp, Specs, StrDescs, WhereType, ValDesc, TypDesc, sig_end, no_spec, no_str_desc}
use Rattle.sml_tree.specs.Structures.{StrExp, StrDec, StrDecs, StrBinds, SigBind, FunBind, TopDec, struct_end, core_dec, no_str_dec, no_str_bind, top_str}
use Rattle.sml_tree.specs.Clauses.{Clause, Constraint}

pub data Phrase : Type 0 where
  -- nothing
  nothing : Phrase
  -- a token that is neither an identifier nor a constant
  of_word : Place → Phrase
  -- an identifier without a path, a type variable or a label
  of_name : Name Place → Phrase
  -- an identifier with or without a path
  of_long : LongName Place → Phrase
  -- a special constant
  of_constant : Constant → Phrase
  -- identifiers or type variables
  of_names : List (Name Place) → Phrase
  -- long identifiers
  of_longs : List (LongName Place) → Phrase
  -- a type expression
  of_ty : Ty Place → Phrase
  -- type expressions
  of_tys : Tys Place → Phrase
  -- fields of a record type
  of_ty_fields : TyFields Place → Phrase
  -- types after the first one in round brackets, and the type constructor after these
  of_arguments : Tys Place → LongName Place → Phrase
  -- a pattern
  of_pat : Pat Place → Phrase
  -- patterns
  of_pats : Pats Place → Phrase
  -- fields of a record pattern, and whether `...` stands after them
  of_pat_fields : PatFields Place → Bool → Phrase
  -- atomic patterns, and the types after colons that follow them
  of_atoms : Pats Place → Tys Place → Phrase
  -- a type after `:` and a pattern after `as`, if they are there
  of_layer : Option (Ty Place) → Option (Pat Place) → Phrase
  -- what stands after `op`: an identifier, atomic patterns, and types after colons
  of_op_atoms : LongName Place → Pats Place → Tys Place → Phrase
  -- what stands after `op`: an identifier, perhaps a type, and a pattern after `as`
  of_op_layer : Name Place → Option (Ty Place) → Option (Pat Place) → Phrase
  -- an expression
  of_exp : Exp Place → Phrase
  -- expressions
  of_exps : Exps Place → Phrase
  -- expressions between semicolons
  of_series : Exps Place → Phrase
  -- fields of a record
  of_fields : Fields Place → Phrase
  -- rules of a match
  of_rules : Rules Place → Phrase
  -- what stands after an expression's first atomic one: further atomic ones, the types after these, the right
  -- operands of `andalso` and of `orelse`, and the match after `handle`
  of_rest : Exps Place → Tys Place → Option (Exp Place) → Option (Exp Place) → Option (Rules Place) → Phrase
  -- a declaration of the core
  of_dec : Dec Place → Phrase
  -- declarations of the core
  of_decs : Decs Place → Phrase
  -- a value binding
  of_bind : ValBind Place → Phrase
  -- value bindings
  of_binds : ValBinds Place → Phrase
  -- explicit type variables, the bindings before the first `rec`, and those after it
  of_values : List (Name Place) → ValBinds Place → ValBinds Place → Phrase
  -- what stands after `val (`: the patterns in the brackets, the atomic patterns and types after them, the right
  -- side, and further bindings without and with `rec`
  of_round_values : Pats Place → Pats Place → Tys Place → Exp Place → ValBinds Place → ValBinds Place → Phrase
  -- explicit type variables, and functions
  of_functions : List (Name Place) → ValBinds Place → Phrase
  -- a clause after its first atomic pattern: the other patterns, perhaps a type, and the right side
  of_right_side : Pats Place → Option (Ty Place) → Exp Place → Phrase
  -- clauses of a function
  of_clauses : List (Clause Place) → Phrase
  -- what stands after `fun (`: the patterns in the brackets, the rest of the first clause, the other clauses, and
  -- further functions
  of_round_functions : Pats Place → Pats Place → Option (Ty Place) → Exp Place → List (Clause Place) → ValBinds Place → Phrase
  -- a type binding: type variables, a type constructor and its right side
  of_typ_bind : List (Name Place) → Name Place → Ty Place → Phrase
  -- type bindings
  of_typ_binds : List (TypBind Place) → Phrase
  -- a constructor or an exception, and the type of its argument
  of_con_bind : Name Place → Option (Ty Place) → Phrase
  -- constructors or exceptions, with the types of their arguments
  of_con_binds : List (ConBind Place) → Phrase
  -- datatype bindings, and the type bindings after `withtype`
  of_datatypes : List (DatBind Place) → List (TypBind Place) → Phrase
  -- the constructors of a datatype, further datatype bindings, and the type bindings after `withtype`
  of_constructors : List (ConBind Place) → List (DatBind Place) → List (TypBind Place) → Phrase
  -- a type constructor, and the one that it copies
  of_copy : Name Place → LongName Place → Phrase
  -- exception bindings
  of_exn_binds : List (ExnBind Place) → Phrase
  -- a signature expression
  of_sig : SigExp Place → Phrase
  -- what stands after `where`: type variables, a type constructor and a type
  of_where : List (Name Place) → LongName Place → Ty Place → Phrase
  -- what stands after `where type`, one after the other
  of_wheres : List (WhereType Place) → Phrase
  -- a signature binding to which more may belong: its identifier and its right side
  of_begun_sig_bind : Name Place → SigExp Place → Phrase
  -- what belongs to the signature expression before it, and further signature bindings
  of_sig_binds : List (WhereType Place) → List (SigBind Place) → Phrase
  -- specifications
  of_specs : Specs Place → Phrase
  -- a variable and its type
  of_val_desc : Name Place → Ty Place → Phrase
  -- variables and their types
  of_val_descs : List (ValDesc Place) → Phrase
  -- type descriptions
  of_typ_descs : List (TypDesc Place) → Phrase
  -- the type of a type binding, and further type bindings
  of_type_rest : Ty Place → List (TypBind Place) → Phrase
  -- a structure description to which more may belong: its identifier and its signature expression
  of_begun_str_desc : Name Place → SigExp Place → Phrase
  -- what belongs to the signature expression before it, and further structure descriptions
  of_str_descs : List (WhereType Place) → StrDescs Place → Phrase
  -- type constructors that are to be shared
  of_shared_types : List (LongName Place) → Phrase
  -- a structure expression
  of_str : StrExp Place → Phrase
  -- a structure-level declaration
  of_str_dec : StrDec Place → Phrase
  -- structure-level declarations
  of_str_decs : StrDecs Place → Phrase
  -- what belongs to the signature expression before it, and the constraints after that
  of_constraints : List (WhereType Place) → List (Constraint Place) → Phrase
  -- the same, and further structure bindings
  of_str_binds : List (WhereType Place) → List (Constraint Place) → StrBinds Place → Phrase
  -- a structure binding to which constraints may still belong: its identifier, its own constraint if it has one, and
  -- its right side
  of_begun_str_bind : Name Place → List (Constraint Place) → StrExp Place → Phrase
  -- the argument of a functor, and its signature expression
  of_functor_argument : Name Place → SigExp Place → Phrase
  -- what belongs to the signature expression before it, the constraints after that, and further functor bindings
  of_fun_binds : List (WhereType Place) → List (Constraint Place) → List (FunBind Place) → Phrase
  -- a functor binding to which constraints may still belong: its identifier, its argument with the signature
  -- expression, its own constraint if it has one, and its right side
  of_begun_fun_bind : Name Place → Name Place → SigExp Place → List (Constraint Place) → StrExp Place → Phrase
  -- the same with specifications in the place of the argument
  of_begun_functor : Name Place → Specs Place → List (Constraint Place) → StrExp Place → Phrase
  -- a top-level declaration
  of_top : TopDec Place → Phrase

-- What was made of one kind, or something of that kind, at the first place, where another was.
abbrev pub name_in : Phrase → Name Place
name_in (of_name x) = x
name_in _ = record { place = first_place; id = [] }

abbrev pub long_in : Phrase → LongName Place
long_in (of_long c) = c
long_in _ = record { place = first_place; id = record { path = []; last = [] } }

abbrev pub constant_in : Phrase → Constant
constant_in (of_constant c) = c
constant_in _ = record { kind = Integer; literal = [] }

-- a numeral as a constant
abbrev pub numeral : Name Place → Constant
numeral x = record { kind = Integer; literal = x.id }

abbrev pub names_in : Phrase → List (Name Place)
names_in (of_names xs) = xs
names_in _ = []

abbrev pub longs_in : Phrase → List (LongName Place)
longs_in (of_longs cs) = cs
longs_in _ = []

abbrev pub ty_in : Phrase → Ty Place
ty_in (of_ty t) = t
ty_in _ = ty_tuple first_place no_ty

abbrev pub tys_in : Phrase → Tys Place
tys_in (of_tys ts) = ts
tys_in _ = no_ty

abbrev pub ty_fields_in : Phrase → TyFields Place
ty_fields_in (of_ty_fields fs) = fs
ty_fields_in _ = no_ty_field

abbrev pub pat_in : Phrase → Pat Place
pat_in (of_pat q) = q
pat_in _ = pat_tuple first_place no_pat

abbrev pub pats_in : Phrase → Pats Place
pats_in (of_pats qs) = qs
pats_in _ = no_pat

abbrev pub exp_in : Phrase → Exp Place
exp_in (of_exp e) = e
exp_in _ = tuple first_place no_exp

abbrev pub exps_in : Phrase → Exps Place
exps_in (of_exps es) = es
exps_in _ = no_exp

abbrev pub fields_in : Phrase → Fields Place
fields_in (of_fields fs) = fs
fields_in _ = no_field

abbrev pub rules_in : Phrase → Rules Place
rules_in (of_rules rs) = rs
rules_in _ = no_rule

abbrev pub dec_in : Phrase → Dec Place
dec_in (of_dec d) = d
dec_in _ = fixity_dec first_place

abbrev pub decs_in : Phrase → Decs Place
decs_in (of_decs ds) = ds
decs_in _ = no_dec

abbrev pub bind_in : Phrase → ValBind Place
bind_in (of_bind b) = b
bind_in _ = bind (pat_tuple first_place no_pat) (tuple first_place no_exp)

abbrev pub binds_in : Phrase → ValBinds Place
binds_in (of_binds bs) = bs
binds_in _ = no_bind

abbrev pub clauses_in : Phrase → List (Clause Place)
clauses_in (of_clauses cs) = cs
clauses_in _ = []

abbrev pub typ_binds_in : Phrase → List (TypBind Place)
typ_binds_in (of_typ_binds ts) = ts
typ_binds_in _ = []

abbrev pub con_binds_in : Phrase → List (ConBind Place)
con_binds_in (of_con_binds cs) = cs
con_binds_in _ = []

abbrev pub exn_binds_in : Phrase → List (ExnBind Place)
exn_binds_in (of_exn_binds es) = es
exn_binds_in _ = []

abbrev pub sig_in : Phrase → SigExp Place
sig_in (of_sig s) = s
sig_in _ = sig_end first_place no_spec

abbrev pub wheres_in : Phrase → List (WhereType Place)
wheres_in (of_wheres ws) = ws
wheres_in _ = []

abbrev pub specs_in : Phrase → Specs Place
specs_in (of_specs ss) = ss
specs_in _ = no_spec

abbrev pub val_descs_in : Phrase → List (ValDesc Place)
val_descs_in (of_val_descs ds) = ds
val_descs_in _ = []

abbrev pub typ_descs_in : Phrase → List (TypDesc Place)
typ_descs_in (of_typ_descs ds) = ds
typ_descs_in _ = []

abbrev pub str_in : Phrase → StrExp Place
str_in (of_str e) = e
str_in _ = struct_end first_place no_str_dec

abbrev pub str_dec_in : Phrase → StrDec Place
str_dec_in (of_str_dec d) = d
str_dec_in _ = core_dec (fixity_dec first_place)

abbrev pub str_decs_in : Phrase → StrDecs Place
str_decs_in (of_str_decs ds) = ds
str_decs_in _ = no_str_dec

abbrev pub top_in : Phrase → TopDec Place
top_in (of_top d) = d
top_in _ = top_str (core_dec (fixity_dec first_place))

-- the place of a token that is neither an identifier nor a constant
abbrev pub place_in : Phrase → Place
place_in (of_word p) = p
place_in _ = first_place

abbrev pub ty_if_any : Phrase → Option (Ty Place)
ty_if_any (of_ty t) = Some t
ty_if_any _ = None

abbrev pub pat_if_any : Phrase → Option (Pat Place)
pat_if_any (of_pat q) = Some q
pat_if_any _ = None

abbrev pub exp_if_any : Phrase → Option (Exp Place)
exp_if_any (of_exp e) = Some e
exp_if_any _ = None

abbrev pub rules_if_any : Phrase → Option (Rules Place)
rules_if_any (of_rules rs) = Some rs
rules_if_any _ = None

-- a constructor or an exception, and a variable with its type
abbrev pub con_bind_in : Phrase → ConBind Place
con_bind_in (of_con_bind x t) = record { name = x; argument = t }
con_bind_in _ = record { name = record { place = first_place; id = [] }; argument = None }

abbrev pub val_desc_in : Phrase → ValDesc Place
val_desc_in (of_val_desc x t) = record { name = x; ty = t }
val_desc_in _ = record { name = record { place = first_place; id = [] }; ty = ty_tuple first_place no_ty }

abbrev pub dat_binds_in : Phrase → List (DatBind Place)
dat_binds_in (of_datatypes ds ts) = ds
dat_binds_in _ = []

-- what stands after `where`
abbrev pub where_in : Phrase → WhereType Place
where_in (of_where xs c t) = record { variables = xs; constructor = c; ty = t }
where_in _ = record { variables = []; constructor = record { place = first_place; id = record { path = []; last = [] } }; ty = ty_tuple first_place no_ty }

-- what belongs to the signature expression before it, and further signature bindings
abbrev pub sig_wheres_in : Phrase → List (WhereType Place)
sig_wheres_in (of_sig_binds ws bs) = ws
sig_wheres_in _ = []

abbrev pub sig_binds_in : Phrase → List (SigBind Place)
sig_binds_in (of_sig_binds ws bs) = bs
sig_binds_in _ = []

-- the same of structure descriptions
abbrev pub desc_wheres_in : Phrase → List (WhereType Place)
desc_wheres_in (of_str_descs ws ds) = ws
desc_wheres_in _ = []

abbrev pub str_descs_in : Phrase → StrDescs Place
str_descs_in (of_str_descs ws ds) = ds
str_descs_in _ = no_str_desc

-- what belongs to the signature expression before it, and the constraints after that
abbrev pub constraint_wheres_in : Phrase → List (WhereType Place)
constraint_wheres_in (of_constraints ws cs) = ws
constraint_wheres_in _ = []

abbrev pub constraints_in : Phrase → List (Constraint Place)
constraints_in (of_constraints ws cs) = cs
constraints_in _ = []

-- the same, and further structure bindings
abbrev pub str_wheres_in : Phrase → List (WhereType Place)
str_wheres_in (of_str_binds ws cs bs) = ws
str_wheres_in _ = []

abbrev pub str_constraints_in : Phrase → List (Constraint Place)
str_constraints_in (of_str_binds ws cs bs) = cs
str_constraints_in _ = []

abbrev pub str_binds_in : Phrase → StrBinds Place
str_binds_in (of_str_binds ws cs bs) = bs
str_binds_in _ = no_str_bind

-- the same, and further functor bindings
abbrev pub fun_wheres_in : Phrase → List (WhereType Place)
fun_wheres_in (of_fun_binds ws cs bs) = ws
fun_wheres_in _ = []

abbrev pub fun_constraints_in : Phrase → List (Constraint Place)
fun_constraints_in (of_fun_binds ws cs bs) = cs
fun_constraints_in _ = []

abbrev pub fun_binds_in : Phrase → List (FunBind Place)
fun_binds_in (of_fun_binds ws cs bs) = bs
fun_binds_in _ = []

-- the first of these, and one after some others
abbrev pub first : List Phrase → Phrase
first [] = nothing
first (x ∷ xs) = x

abbrev pub at : List Phrase → ℕ → Phrase
at xs n = first (drop n xs)
