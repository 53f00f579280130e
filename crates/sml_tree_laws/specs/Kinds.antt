-- What each part of the grammar makes, and that each rule finds it: where a rule takes a phrase of some kind, one of that kind
-- stands there, and no tree is made up in its place.
use Rattle.std.specs.Prelude.{◌≡◌, ℕ, suc, List, [], ◌∷◌, Bool, true, false, ◌||◌, drop, Option}
use Rattle.std.specs.List.{before_first}
use Rattle.sml_lex.specs.declared.fault.Place.{Place}
use Rattle.sml_lex.specs.declared.token.Kind.{Kind}
use Rattle.sml_lex.specs.declared.token.Kind.TheVariants as K
use Rattle.sml_lex.specs.declared.token.Token.{Token}
use Rattle.sml_lex.specs.declared.token.End.{End}
use Rattle.sml_lex.specs.Faults.{Fault}
use Rattle.sml_tree.specs.Trees.{Dec}
use Rattle.sml_tree.specs.Structures.{TopDec}
use Rattle.sml_read.specs.declared.grammar.Part.{Part}
use Rattle.sml_read.specs.declared.grammar.Part.TheVariants as G
use Rattle.sml_read.specs.declared.grammar.Symbol.{Symbol}
use Rattle.sml_read.specs.declared.grammar.Symbol.TheVariants.{Word, Of}
use Rattle.sml_read.specs.declared.grammar.Node.{Node}
use Rattle.sml_read.specs.declared.grammar.Node.TheVariants.{Leaf, Inner}
use Rattle.sml_read.specs.Grammar.{right_side}
use Rattle.sml_read.specs.Extents.{starts_of}
use Rattle.sml_phrases.specs.Phrases.{Phrase, first, at, nothing, of_word, of_name, of_long, of_constant, of_names, of_longs, of_ty, of_tys, of_ty_fields, of_arguments, of_pat, of_pats, of_pat_fields, of_atoms, of_layer, of_op_atoms, of_op_layer, of_exp, of_exps, of_series, of_fields, of_rules, of_rest, of_dec, of_decs, of_bind, of_binds, of_values, of_round_values, of_functions, of_right_side, of_clauses, of_round_functions, of_typ_bind, of_typ_binds, of_con_bind, of_con_binds, of_datatypes, of_constructors, of_copy, of_exn_binds, of_sig, of_where, of_wheres, of_begun_sig_bind, of_sig_binds, of_specs, of_val_desc, of_val_descs, of_typ_descs, of_type_rest, of_begun_str_desc, of_str_descs, of_shared_types, of_str, of_str_dec, of_str_decs, of_constraints, of_str_binds, of_begun_str_bind, of_functor_argument, of_fun_binds, of_begun_fun_bind, of_begun_functor, of_top}
use Rattle.sml_reach.specs.Fits.{Fitted}
use Rattle.sml_flaws.specs.Flawed.{begins_at, ends_at}
use Rattle.sml_bare.specs.Derivations.{Source, phrases_of, first_fits}
use Rattle.sml_parse.specs.Trees.{AreTrees}

abbrev pub is_nothing : Phrase → Bool
is_nothing nothing = true
is_nothing _ = false

abbrev pub is_word : Phrase → Bool
is_word (of_word a) = true
is_word _ = false

abbrev pub is_name : Phrase → Bool
is_name (of_name a) = true
is_name _ = false

abbrev pub is_long : Phrase → Bool
is_long (of_long a) = true
is_long _ = false

abbrev pub is_constant : Phrase → Bool
is_constant (of_constant a) = true
is_constant _ = false

abbrev pub is_names : Phrase → Bool
is_names (of_names a) = true
is_names _ = false

abbrev pub is_longs : Phrase → Bool
is_longs (of_longs a) = true
is_longs _ = false

abbrev pub is_ty : Phrase → Bool
is_ty (of_ty a) = true
is_ty _ = false

abbrev pub is_tys : Phrase → Bool
is_tys (of_tys a) = true
is_tys _ = false

abbrev pub is_ty_fields : Phrase → Bool
is_ty_fields (of_ty_fields a) = true
is_ty_fields _ = false

abbrev pub is_arguments : Phrase → Bool
is_arguments (of_arguments a b) = true
is_arguments _ = false

abbrev pub is_pat : Phrase → Bool
is_pat (of_pat a) = true
is_pat _ = false

abbrev pub is_pats : Phrase → Bool
is_pats (of_pats a) = true
is_pats _ = false

abbrev pub is_pat_fields : Phrase → Bool
is_pat_fields (of_pat_fields a b) = true
is_pat_fields _ = false

abbrev pub is_atoms : Phrase → Bool
is_atoms (of_atoms a b) = true
is_atoms _ = false

abbrev pub is_layer : Phrase → Bool
is_layer (of_layer a b) = true
is_layer _ = false

abbrev pub is_op_atoms : Phrase → Bool
is_op_atoms (of_op_atoms a b c) = true
is_op_atoms _ = false

abbrev pub is_op_layer : Phrase → Bool
is_op_layer (of_op_layer a b c) = true
is_op_layer _ = false

abbrev pub is_exp : Phrase → Bool
is_exp (of_exp a) = true
is_exp _ = false

abbrev pub is_exps : Phrase → Bool
is_exps (of_exps a) = true
is_exps _ = false

abbrev pub is_series : Phrase → Bool
is_series (of_series a) = true
is_series _ = false

abbrev pub is_fields : Phrase → Bool
is_fields (of_fields a) = true
is_fields _ = false

abbrev pub is_rules : Phrase → Bool
is_rules (of_rules a) = true
is_rules _ = false

abbrev pub is_rest : Phrase → Bool
is_rest (of_rest a b c d e) = true
is_rest _ = false

abbrev pub is_dec : Phrase → Bool
is_dec (of_dec a) = true
is_dec _ = false

abbrev pub is_decs : Phrase → Bool
is_decs (of_decs a) = true
is_decs _ = false

abbrev pub is_bind : Phrase → Bool
is_bind (of_bind a) = true
is_bind _ = false

abbrev pub is_binds : Phrase → Bool
is_binds (of_binds a) = true
is_binds _ = false

abbrev pub is_values : Phrase → Bool
is_values (of_values a b c) = true
is_values _ = false

abbrev pub is_round_values : Phrase → Bool
is_round_values (of_round_values a b c d e f) = true
is_round_values _ = false

abbrev pub is_functions : Phrase → Bool
is_functions (of_functions a b) = true
is_functions _ = false

abbrev pub is_right_side : Phrase → Bool
is_right_side (of_right_side a b c) = true
is_right_side _ = false

abbrev pub is_clauses : Phrase → Bool
is_clauses (of_clauses a) = true
is_clauses _ = false

abbrev pub is_round_functions : Phrase → Bool
is_round_functions (of_round_functions a b c d e f) = true
is_round_functions _ = false

abbrev pub is_typ_bind : Phrase → Bool
is_typ_bind (of_typ_bind a b c) = true
is_typ_bind _ = false

abbrev pub is_typ_binds : Phrase → Bool
is_typ_binds (of_typ_binds a) = true
is_typ_binds _ = false

abbrev pub is_con_bind : Phrase → Bool
is_con_bind (of_con_bind a b) = true
is_con_bind _ = false

abbrev pub is_con_binds : Phrase → Bool
is_con_binds (of_con_binds a) = true
is_con_binds _ = false

abbrev pub is_datatypes : Phrase → Bool
is_datatypes (of_datatypes a b) = true
is_datatypes _ = false

abbrev pub is_constructors : Phrase → Bool
is_constructors (of_constructors a b c) = true
is_constructors _ = false

abbrev pub is_copy : Phrase → Bool
is_copy (of_copy a b) = true
is_copy _ = false

abbrev pub is_exn_binds : Phrase → Bool
is_exn_binds (of_exn_binds a) = true
is_exn_binds _ = false

abbrev pub is_sig : Phrase → Bool
is_sig (of_sig a) = true
is_sig _ = false

abbrev pub is_where : Phrase → Bool
is_where (of_where a b c) = true
is_where _ = false

abbrev pub is_wheres : Phrase → Bool
is_wheres (of_wheres a) = true
is_wheres _ = false

abbrev pub is_begun_sig_bind : Phrase → Bool
is_begun_sig_bind (of_begun_sig_bind a b) = true
is_begun_sig_bind _ = false

abbrev pub is_sig_binds : Phrase → Bool
is_sig_binds (of_sig_binds a b) = true
is_sig_binds _ = false

abbrev pub is_specs : Phrase → Bool
is_specs (of_specs a) = true
is_specs _ = false

abbrev pub is_val_desc : Phrase → Bool
is_val_desc (of_val_desc a b) = true
is_val_desc _ = false

abbrev pub is_val_descs : Phrase → Bool
is_val_descs (of_val_descs a) = true
is_val_descs _ = false

abbrev pub is_typ_descs : Phrase → Bool
is_typ_descs (of_typ_descs a) = true
is_typ_descs _ = false

abbrev pub is_type_rest : Phrase → Bool
is_type_rest (of_type_rest a b) = true
is_type_rest _ = false

abbrev pub is_begun_str_desc : Phrase → Bool
is_begun_str_desc (of_begun_str_desc a b) = true
is_begun_str_desc _ = false

abbrev pub is_str_descs : Phrase → Bool
is_str_descs (of_str_descs a b) = true
is_str_descs _ = false

abbrev pub is_shared_types : Phrase → Bool
is_shared_types (of_shared_types a) = true
is_shared_types _ = false

abbrev pub is_str : Phrase → Bool
is_str (of_str a) = true
is_str _ = false

abbrev pub is_str_dec : Phrase → Bool
is_str_dec (of_str_dec a) = true
is_str_dec _ = false

abbrev pub is_str_decs : Phrase → Bool
is_str_decs (of_str_decs a) = true
is_str_decs _ = false

abbrev pub is_constraints : Phrase → Bool
is_constraints (of_constraints a b) = true
is_constraints _ = false

abbrev pub is_str_binds : Phrase → Bool
is_str_binds (of_str_binds a b c) = true
is_str_binds _ = false

abbrev pub is_begun_str_bind : Phrase → Bool
is_begun_str_bind (of_begun_str_bind a b c) = true
is_begun_str_bind _ = false

abbrev pub is_functor_argument : Phrase → Bool
is_functor_argument (of_functor_argument a b) = true
is_functor_argument _ = false

abbrev pub is_fun_binds : Phrase → Bool
is_fun_binds (of_fun_binds a b c) = true
is_fun_binds _ = false

abbrev pub is_begun_fun_bind : Phrase → Bool
is_begun_fun_bind (of_begun_fun_bind a b c d e) = true
is_begun_fun_bind _ = false

abbrev pub is_begun_functor : Phrase → Bool
is_begun_functor (of_begun_functor a b c d) = true
is_begun_functor _ = false

abbrev pub is_top : Phrase → Bool
is_top (of_top a) = true
is_top _ = false

-- type bindings, one at least
abbrev pub is_some_typ_binds : Phrase → Bool
is_some_typ_binds (of_typ_binds (b ∷ bs)) = true
is_some_typ_binds _ = false

-- what a token makes
abbrev pub is_of_token : Kind → Phrase → Bool
is_of_token K.Alphanumeric v = is_name v
is_of_token K.Symbolic v = is_name v
is_of_token K.Star v = is_name v
is_of_token K.LongAlphanumeric v = is_long v
is_of_token K.LongSymbolic v = is_long v
is_of_token K.LongStar v = is_long v
is_of_token K.TypeVariable v = is_name v
is_of_token K.Numeral v = is_name v
is_of_token K.ZeroNumeral v = is_name v
is_of_token K.Integer v = is_constant v
is_of_token K.WordConstant v = is_constant v
is_of_token K.RealConstant v = is_constant v
is_of_token K.StringConstant v = is_constant v
is_of_token K.CharacterConstant v = is_constant v
is_of_token K.Equals v = is_name v
is_of_token _ v = is_word v

-- what a part makes
abbrev pub is_of_part : Part → Phrase → Bool
is_of_part G.Vid v = is_name v
is_of_part G.TyCon v = is_name v
is_of_part G.LongVid v = is_long v
is_of_part G.Qualified v = is_long v
is_of_part G.ExpVid v = is_long v
is_of_part G.LongTyCon v = is_long v
is_of_part G.LongStrId v = is_long v
is_of_part G.Lab v = is_name v
is_of_part G.Level v = is_name v
is_of_part G.Constant v = is_constant v
is_of_part G.Start v = is_nothing v
is_of_part G.AfterTop v = is_nothing v
is_of_part G.AfterExp v = is_nothing v
is_of_part G.Top v = is_top v
is_of_part G.Str v = is_str_dec v
is_of_part G.Strs v = is_str_decs v
is_of_part G.Decs v = is_decs v
is_of_part G.Specs v = is_specs v
is_of_part G.StrBind v = is_begun_str_bind v
is_of_part G.Seal v = is_constraints v
is_of_part G.StrBindMore v = is_str_binds v
is_of_part G.Ascription v = is_constraints v
is_of_part G.StrBindSig v = is_str_binds v
is_of_part G.StrBindWhere v = is_str_binds v
is_of_part G.StrBindAnd v = is_str_binds v
is_of_part G.FunBind v = is_begun_fun_bind v || is_begun_functor v
is_of_part G.FunArg v = is_specs v || is_functor_argument v
is_of_part G.FunBindMore v = is_fun_binds v
is_of_part G.FunBindSig v = is_fun_binds v
is_of_part G.FunBindWhere v = is_fun_binds v
is_of_part G.FunBindAnd v = is_fun_binds v
is_of_part G.StrExp v = is_str v
is_of_part G.StrExpMore v = is_constraints v
is_of_part G.StrExpSig v = is_constraints v
is_of_part G.StrExpWhere v = is_constraints v
is_of_part G.StrAtom v = is_str v
is_of_part G.Actual v = is_nothing v || (is_str v || is_str_decs v)
is_of_part G.StrArg v = is_str v || is_str_decs v
is_of_part G.Sig v = is_sig v
is_of_part G.SigAtom v = is_sig v
is_of_part G.SigMore v = is_wheres v
is_of_part G.SigWhere v = is_wheres v
is_of_part G.Where v = is_where v
is_of_part G.SigBind v = is_begun_sig_bind v
is_of_part G.SigBindMore v = is_sig_binds v
is_of_part G.SigBindWhere v = is_sig_binds v
is_of_part G.SigBindAnd v = is_sig_binds v
is_of_part G.Spec v = is_specs v
is_of_part G.ValSpec v = is_val_desc v
is_of_part G.ValSpecMore v = is_val_descs v
is_of_part G.TypeSpec v = is_some_typ_binds v || is_typ_descs v
is_of_part G.TypeSpecRest v = is_typ_descs v || is_type_rest v
is_of_part G.TypeSpecMore v = is_typ_descs v
is_of_part G.DatSpec v = is_datatypes v || is_copy v
is_of_part G.DatSpecRest v = is_long v || is_constructors v
is_of_part G.DatSpecMore v = is_datatypes v
is_of_part G.ConSpecs v = is_con_binds v
is_of_part G.ConSpecsMore v = is_con_binds v
is_of_part G.OfTy v = is_nothing v || is_ty v
is_of_part G.ExnSpec v = is_con_bind v
is_of_part G.ExnSpecMore v = is_con_binds v
is_of_part G.StrSpec v = is_begun_str_desc v
is_of_part G.StrSpecMore v = is_str_descs v
is_of_part G.StrSpecWhere v = is_str_descs v
is_of_part G.StrSpecAnd v = is_str_descs v
is_of_part G.Include v = is_names v || is_sig v
is_of_part G.IncludeMore v = is_names v || is_wheres v
is_of_part G.IncludeIds v = is_names v
is_of_part G.Sharing v = is_longs v || is_shared_types v
is_of_part G.TypeShareMore v = is_longs v
is_of_part G.StrShareMore v = is_longs v
is_of_part G.Dec v = is_dec v
is_of_part G.CoreDec v = is_dec v
is_of_part G.OpenMore v = is_longs v
is_of_part G.Fixity v = is_nothing v
is_of_part G.VidMore v = is_nothing v
is_of_part G.ValDec v = is_values v
is_of_part G.ValRound v = is_values v || is_round_values v
is_of_part G.ValBind v = is_values v
is_of_part G.ValMore v = is_values v
is_of_part G.FunDec v = is_functions v
is_of_part G.FunRound v = is_functions v || is_round_functions v
is_of_part G.Clauses v = is_bind v
is_of_part G.ClausesMore v = is_binds v
is_of_part G.Clause v = is_right_side v
is_of_part G.ClauseMore v = is_clauses v
is_of_part G.AtPats v = is_pats v
is_of_part G.Typed v = is_nothing v || is_ty v
is_of_part G.TypBind v = is_typ_bind v
is_of_part G.TypBindMore v = is_typ_binds v
is_of_part G.DatDec v = is_datatypes v || is_copy v
is_of_part G.DatRest v = is_long v || is_constructors v
is_of_part G.DatBindMore v = is_datatypes v
is_of_part G.ConBinds v = is_con_binds v
is_of_part G.ConBindsMore v = is_con_binds v
is_of_part G.MaybeOp v = is_nothing v
is_of_part G.ExnBind v = is_con_bind v || is_copy v
is_of_part G.ExnBindMore v = is_exn_binds v
is_of_part G.ExnRest v = is_nothing v || (is_long v || is_ty v)
is_of_part G.Exp v = is_exp v
is_of_part G.More v = is_nothing v || (is_exps v || is_rest v)
is_of_part G.TyRest v = is_nothing v || is_rest v
is_of_part G.AndMore v = is_nothing v || is_exp v
is_of_part G.AndRest v = is_exp v
is_of_part G.OrMore v = is_nothing v || is_exp v
is_of_part G.OrRest v = is_exp v
is_of_part G.HandleMore v = is_nothing v || is_rules v
is_of_part G.Typ v = is_exp v
is_of_part G.AtMore v = is_exps v
is_of_part G.TyMore v = is_tys v
is_of_part G.Open v = is_exp v
is_of_part G.Match v = is_rules v
is_of_part G.MatchMore v = is_rules v
is_of_part G.At v = is_exp v
is_of_part G.ExpRow v = is_fields v
is_of_part G.ExpRowMore v = is_fields v
is_of_part G.ExpRound v = is_exp v || (is_exps v || is_series v)
is_of_part G.ExpRoundMore v = is_nothing v || (is_exps v || is_series v)
is_of_part G.TupleMore v = is_exps v
is_of_part G.SequenceMore v = is_exps v
is_of_part G.ExpList v = is_exps v
is_of_part G.ExpListMore v = is_exps v
is_of_part G.LetMore v = is_exps v
is_of_part G.Pat v = is_pat v
is_of_part G.BarePat v = is_pat v
is_of_part G.OpPat v = is_op_atoms v || is_op_layer v
is_of_part G.AfterVid v = is_atoms v || is_layer v
is_of_part G.AfterVidTy v = is_tys v || is_layer v
is_of_part G.AtPatMore v = is_atoms v
is_of_part G.AtPat v = is_pat v
is_of_part G.BareAtPat v = is_pat v
is_of_part G.OtherAtPat v = is_pat v
is_of_part G.PatRound v = is_pats v
is_of_part G.PatRoundMore v = is_pats v
is_of_part G.PatList v = is_pats v
is_of_part G.PatListMore v = is_pats v
is_of_part G.PatRow v = is_pat_fields v
is_of_part G.Row v = is_pat_fields v
is_of_part G.RowRest v = is_pat v || is_layer v
is_of_part G.RowAs v = is_nothing v || is_pat v
is_of_part G.RowMore v = is_pat_fields v
is_of_part G.Ty v = is_ty v
is_of_part G.TyArrow v = is_nothing v || is_ty v
is_of_part G.Tup v = is_ty v
is_of_part G.TupMore v = is_tys v
is_of_part G.Con v = is_ty v
is_of_part G.ConMore v = is_longs v
is_of_part G.ATy v = is_ty v
is_of_part G.TyRow v = is_ty_fields v
is_of_part G.TyRowMore v = is_ty_fields v
is_of_part G.TyRound v = is_nothing v || is_arguments v
is_of_part G.TyRoundMore v = is_arguments v
is_of_part G.Tvs v = is_names v
is_of_part G.SomeTvs v = is_names v
is_of_part G.TvsMore v = is_names v

abbrev pub is_of : Symbol → Phrase → Bool
is_of (Word k) v = is_of_token k v
is_of (Of p) v = is_of_part p v

-- the phrases from the n-th on are of these symbols
abbrev pub AreOf : List Symbol → ℕ → List Phrase → Type 0
AreOf [] n vs = Unit {0}
AreOf (x ∷ symbols) n vs = (is_of x (at vs n) ≡ true) × AreOf symbols (suc n) vs

-- what is made after a node are the parts of its rule
abbrev pub FindsParts : Node → List Phrase → Type 0
FindsParts Leaf vs = Unit {0}
FindsParts (Inner rule) vs = AreOf (right_side rule) 0 vs

abbrev pub EachFindsParts : Source → List Node → List ℕ → Type 0
EachFindsParts s [] starts = Unit {0}
EachFindsParts s (node ∷ nodes) [] = Unit {0}
EachFindsParts s (node ∷ nodes) (n ∷ starts) = FindsParts node (phrases_of s nodes starts) × EachFindsParts s nodes starts

-- a declaration, or an expression, which declares `it`
abbrev pub is_declaration : Phrase → Bool
is_declaration v = is_top v || is_exp v

-- in a declaration of these nodes each rule finds its parts, and a declaration is made
abbrev pub IsMade : Source → List Node → Type 0
IsMade s nodes = EachFindsParts s nodes (starts_of 0 nodes) × (is_declaration (first (phrases_of s nodes (starts_of 0 nodes))) ≡ true)

abbrev pub WhereBegun : Bool → Type 0 → Type 0 → Type 0
WhereBegun true A B = A
WhereBegun false A B = B

-- the same of each declaration of a derivation; so many tokens stand before these nodes
abbrev pub AreMade : List ℕ → List Token → ℕ → List Node → List Fitted → Type 0
AreMade unit tokens n [] fitted = Unit {0}
AreMade unit tokens n (Leaf ∷ nodes) fitted = AreMade unit tokens (suc n) nodes fitted
AreMade unit tokens n (Inner rule ∷ nodes) fitted =
    WhereBegun (begins_at rule) (IsMade (record { unit = unit; tokens = drop n tokens; begun = n; fits = first_fits fitted }) (before_first ends_at nodes) × AreMade unit tokens n nodes (drop 1 fitted)) (AreMade unit tokens n nodes fitted)

-- in the declarations that bytes spell no part is made up
abbrev pub NoPartIsMadeUp : Type 0
NoPartIsMadeUp =
    (unit : List ℕ) (tokens : List Token) (end : End) (tops : List (TopDec Place)) (decs : List (Dec Place)) (fault : Option (Fault Place)) → (trees : AreTrees unit tokens end tops decs fault)
    → AreMade unit tokens 0 trees.nodes trees.fitted
