-- The program's phrases as those of the definitions, and what it is for a call to make one.
use Rattle.std.specs.Prelude.{◌≡◌, ℕ, List, [], ◌∷◌, ◌++◌, Bool, true, false, ◌&&◌, drop, map, replicate, reverse, Result, Ok, Err}
use Rattle.std.specs.Option.{option_map}
use Rattle.sml_lex.specs.declared.fault.Place.{Place}
use Rattle.sml_tree.specs.TypeViews.{name_of, names_of, long_name_of, ty_of, tys_of, ty_field_of, ty_fields_of}
use Rattle.sml_tree.specs.PatternViews.{constant_of, pat_of, pats_of, pat_field_of, pat_fields_of}
use Rattle.sml_tree.specs.BindingViews.{typ_bind_of, con_bind_of, dat_bind_of}
use Rattle.sml_tree.specs.ExpressionViews.{exn_bind_of, exp_of, exps_of, field_of, fields_of, rule_of, rules_of, dec_of, decs_of, bind_of, binds_of}
use Rattle.sml_tree.specs.SignatureViews.{val_desc_of, typ_desc_of, sig_of, spec_of, specs_of, str_desc_of, str_descs_of}
use Rattle.sml_tree.specs.StructureViews.{str_of, str_dec_of, str_decs_of, str_bind_of, str_binds_of, sig_bind_of, fun_bind_of, top_of}
use Rattle.sml_tree.specs.Clauses.{clause_of, Constraint}
use Rattle.sml_tree.specs.Signatures.{WhereType}
use Rattle.sml_phrases.specs.declared.low.LowWhere.{LowWhere}
use Rattle.sml_phrases.specs.declared.low.LowConstraint.{LowConstraint}
use Rattle.sml_phrases.specs.Phrases.{Phrase, nothing, of_word, of_name, of_long, of_constant, of_names, of_longs, of_ty, of_tys, of_ty_fields, of_arguments, of_pat, of_pats, of_pat_fields, of_atoms, of_layer, of_op_atoms, of_op_layer, of_exp, of_exps, of_series, of_fields, of_rules, of_rest, of_dec, of_decs, of_bind, of_binds, of_values, of_round_values, of_functions, of_right_side, of_clauses, of_round_functions, of_typ_bind, of_typ_binds, of_con_bind, of_con_binds, of_datatypes, of_constructors, of_copy, of_exn_binds, of_sig, of_where, of_wheres, of_begun_sig_bind, of_sig_binds, of_specs, of_val_desc, of_val_descs, of_typ_descs, of_type_rest, of_begun_str_desc, of_str_descs, of_shared_types, of_str, of_str_dec, of_str_decs, of_constraints, of_str_binds, of_begun_str_bind, of_functor_argument, of_fun_binds, of_begun_fun_bind, of_begun_functor, of_top}
use Rattle.sml_phrases.specs.PhraseHeights.{is_low}
use Rattle.sml_phrases.specs.declared.phrase.Rest.{Rest}
use Rattle.sml_phrases.specs.declared.phrase.Phrase as D
use Rattle.sml_phrases.specs.declared.phrase.Phrase.TheVariants as V
use Rattle.sml_phrases.specs.declared.phrase.TypePhrase.TheVariants as Types
use Rattle.sml_phrases.specs.declared.phrase.PatternPhrase.TheVariants as Patterns
use Rattle.sml_phrases.specs.declared.phrase.ExpressionPhrase.TheVariants as Expressions
use Rattle.sml_phrases.specs.declared.phrase.DeclarationPhrase.TheVariants as Declarations
use Rattle.sml_phrases.specs.declared.phrase.SignaturePhrase.TheVariants as Signatures
use Rattle.sml_phrases.specs.declared.phrase.StructurePhrase.TheVariants as Structures
use Rattle.sml_phrases.specs.declared.phrase.Failure.{Failure}
use Rattle.sml_phrases.specs.declared.phrase.Failure.TheVariants.{TooHigh, Memory}
use Rattle.sml_phrases.specs.declared.stack.Held.{Held}
use Rattle.sml_phrases.specs.declared.stack.Stack.{Stack}

-- what stands after `where type`, and a constraint
abbrev pub low_where_of : LowWhere → WhereType Place
low_where_of w = record { variables = names_of w.variables.items; constructor = long_name_of w.constructor; ty = ty_of w.ty.tree }

abbrev pub low_constraint_of : LowConstraint → Constraint Place
low_constraint_of c = record { ascription = c.ascription; signature = sig_of c.signature.tree }

-- what stands after an expression's first atomic one
abbrev pub rest_of : Rest → Phrase
rest_of rest = of_rest (exps_of (map (λ e. exp_of e.tree) (reverse rest.exps.trees.items))) (tys_of (map (λ t. ty_of t.tree) (reverse rest.tys.trees.items))) (option_map (λ e. exp_of e.tree) rest.conjunct) (option_map (λ e. exp_of e.tree) rest.disjunct) (option_map (λ rs. rules_of (map rule_of (reverse rs.trees.items))) rest.rules)

abbrev pub phrase_of : D.Phrase → Phrase
phrase_of V.Nothing = nothing
phrase_of (V.Word p) = of_word p
phrase_of (V.Name x) = of_name (name_of x)
phrase_of (V.Long c) = of_long (long_name_of c)
phrase_of (V.Constant c) = of_constant (constant_of c)
phrase_of (V.Names xs) = of_names (map name_of (reverse xs.items))
phrase_of (V.Longs cs) = of_longs (map long_name_of (reverse cs.items))
phrase_of (V.Types (Types.Ty t)) = of_ty (ty_of t.tree)
phrase_of (V.Types (Types.Tys ts)) = of_tys (tys_of (map (λ t. ty_of t.tree) (reverse ts.trees.items)))
phrase_of (V.Types (Types.TyFields fs)) = of_ty_fields (ty_fields_of (map ty_field_of (reverse fs.trees.items)))
phrase_of (V.Types (Types.Arguments ts c)) = of_arguments (tys_of (map (λ t. ty_of t.tree) (reverse ts.trees.items))) (long_name_of c)
phrase_of (V.Patterns (Patterns.Pat q)) = of_pat (pat_of q.tree)
phrase_of (V.Patterns (Patterns.Pats qs)) = of_pats (pats_of (map (λ q. pat_of q.tree) (reverse qs.trees.items)))
phrase_of (V.Patterns (Patterns.PatFields fs flexible)) = of_pat_fields (pat_fields_of (map pat_field_of (reverse fs.trees.items))) flexible
phrase_of (V.Patterns (Patterns.Atoms qs ts)) = of_atoms (pats_of (map (λ q. pat_of q.tree) (reverse qs.trees.items))) (tys_of (map (λ t. ty_of t.tree) (reverse ts.trees.items)))
phrase_of (V.Patterns (Patterns.Layer layer)) = of_layer (option_map (λ t. ty_of t.tree) layer.value.ty) (option_map (λ q. pat_of q.tree) layer.value.pat)
phrase_of (V.Patterns (Patterns.OpAtoms c qs ts)) = of_op_atoms (long_name_of c) (pats_of (map (λ q. pat_of q.tree) (reverse qs.trees.items))) (tys_of (map (λ t. ty_of t.tree) (reverse ts.trees.items)))
phrase_of (V.Patterns (Patterns.OpLayer x layer)) = of_op_layer (name_of x) (option_map (λ t. ty_of t.tree) layer.value.ty) (option_map (λ q. pat_of q.tree) layer.value.pat)
phrase_of (V.Expressions (Expressions.Exp e)) = of_exp (exp_of e.tree)
phrase_of (V.Expressions (Expressions.Exps es)) = of_exps (exps_of (map (λ e. exp_of e.tree) (reverse es.trees.items)))
phrase_of (V.Expressions (Expressions.Series es)) = of_series (exps_of (map (λ e. exp_of e.tree) (reverse es.trees.items)))
phrase_of (V.Expressions (Expressions.Fields fs)) = of_fields (fields_of (map field_of (reverse fs.trees.items)))
phrase_of (V.Expressions (Expressions.Rules rs)) = of_rules (rules_of (map rule_of (reverse rs.trees.items)))
phrase_of (V.Expressions (Expressions.Rest rest)) = rest_of rest.value
phrase_of (V.Declarations (Declarations.Dec d)) = of_dec (dec_of d.tree)
phrase_of (V.Declarations (Declarations.Decs ds)) = of_decs (decs_of (map dec_of (reverse ds.trees.items)))
phrase_of (V.Declarations (Declarations.Bind b)) = of_bind (bind_of b.tree)
phrase_of (V.Declarations (Declarations.Binds bs)) = of_binds (binds_of (map bind_of (reverse bs.trees.items)))
phrase_of (V.Declarations (Declarations.Values xs bs recs)) = of_values (map name_of (reverse xs.items)) (binds_of (map bind_of (reverse bs.trees.items))) (binds_of (map bind_of (reverse recs.trees.items)))
phrase_of (V.Declarations (Declarations.RoundValues r)) = of_round_values (pats_of (map (λ q. pat_of q.tree) (reverse r.value.inner.trees.items))) (pats_of (map (λ q. pat_of q.tree) (reverse r.value.pats.trees.items))) (tys_of (map (λ t. ty_of t.tree) (reverse r.value.tys.trees.items))) (exp_of r.value.exp.tree) (binds_of (map bind_of (reverse r.value.plain.trees.items))) (binds_of (map bind_of (reverse r.value.recursive.trees.items)))
phrase_of (V.Declarations (Declarations.Functions xs bs)) = of_functions (map name_of (reverse xs.items)) (binds_of (map bind_of (reverse bs.trees.items)))
phrase_of (V.Declarations (Declarations.RightSide r)) = of_right_side (pats_of (map (λ q. pat_of q.tree) (reverse r.value.pats.trees.items))) (option_map (λ t. ty_of t.tree) r.value.result) (exp_of r.value.body.tree)
phrase_of (V.Declarations (Declarations.Clauses cs)) = of_clauses (map clause_of (reverse cs.trees.items))
phrase_of (V.Declarations (Declarations.RoundFunctions qs r cs bs)) = of_round_functions (pats_of (map (λ q. pat_of q.tree) (reverse qs.trees.items))) (pats_of (map (λ q. pat_of q.tree) (reverse r.value.pats.trees.items))) (option_map (λ t. ty_of t.tree) r.value.result) (exp_of r.value.body.tree) (map clause_of (reverse cs.trees.items)) (binds_of (map bind_of (reverse bs.trees.items)))
phrase_of (V.Declarations (Declarations.TypBind xs x t)) = of_typ_bind (map name_of (reverse xs.items)) (name_of x) (ty_of t.tree)
phrase_of (V.Declarations (Declarations.TypBinds ts)) = of_typ_binds (map typ_bind_of (reverse ts.trees.items))
phrase_of (V.Declarations (Declarations.ConBind x t)) = of_con_bind (name_of x) (option_map (λ t. ty_of t.tree) t)
phrase_of (V.Declarations (Declarations.ConBinds cs)) = of_con_binds (map con_bind_of (reverse cs.trees.items))
phrase_of (V.Declarations (Declarations.Datatypes ds ts)) = of_datatypes (map dat_bind_of (reverse ds.trees.items)) (map typ_bind_of (reverse ts.trees.items))
phrase_of (V.Declarations (Declarations.Constructors cs ds ts)) = of_constructors (map con_bind_of (reverse cs.trees.items)) (map dat_bind_of (reverse ds.trees.items)) (map typ_bind_of (reverse ts.trees.items))
phrase_of (V.Declarations (Declarations.Copy x c)) = of_copy (name_of x) (long_name_of c)
phrase_of (V.Declarations (Declarations.ExnBinds es)) = of_exn_binds (map exn_bind_of (reverse es.trees.items))
phrase_of (V.Signatures (Signatures.Sig s)) = of_sig (sig_of s.tree)
phrase_of (V.Signatures (Signatures.Where xs c t)) = of_where (map name_of (reverse xs.items)) (long_name_of c) (ty_of t.value.tree)
phrase_of (V.Signatures (Signatures.Wheres ws)) = of_wheres (map low_where_of (reverse ws.items))
phrase_of (V.Signatures (Signatures.BegunSigBind x s)) = of_begun_sig_bind (name_of x) (sig_of s.tree)
phrase_of (V.Signatures (Signatures.SigBinds ws bs)) = of_sig_binds (map low_where_of (reverse ws.items)) (map sig_bind_of (reverse bs.trees.items))
phrase_of (V.Signatures (Signatures.Specs ss)) = of_specs (specs_of (map spec_of (reverse ss.trees.items)))
phrase_of (V.Signatures (Signatures.ValDesc x t)) = of_val_desc (name_of x) (ty_of t.tree)
phrase_of (V.Signatures (Signatures.ValDescs ds)) = of_val_descs (map val_desc_of (reverse ds.trees.items))
phrase_of (V.Signatures (Signatures.TypDescs ds)) = of_typ_descs (map typ_desc_of (reverse ds.items))
phrase_of (V.Signatures (Signatures.TypeRest t ts)) = of_type_rest (ty_of t.tree) (map typ_bind_of (reverse ts.trees.items))
phrase_of (V.Signatures (Signatures.BegunStrDesc x s)) = of_begun_str_desc (name_of x) (sig_of s.tree)
phrase_of (V.Signatures (Signatures.StrDescs ws ds)) = of_str_descs (map low_where_of (reverse ws.items)) (str_descs_of (map str_desc_of (reverse ds.trees.items)))
phrase_of (V.Signatures (Signatures.SharedTypes cs)) = of_shared_types (map long_name_of (reverse cs.items))
phrase_of (V.Structures (Structures.Str e)) = of_str (str_of e.tree)
phrase_of (V.Structures (Structures.StrDec d)) = of_str_dec (str_dec_of d.tree)
phrase_of (V.Structures (Structures.StrDecs ds)) = of_str_decs (str_decs_of (map str_dec_of (reverse ds.trees.items)))
phrase_of (V.Structures (Structures.Constraints ws cs)) = of_constraints (map low_where_of (reverse ws.items)) (map low_constraint_of (reverse cs.items))
phrase_of (V.Structures (Structures.StrBinds ws cs bs)) = of_str_binds (map low_where_of (reverse ws.items)) (map low_constraint_of (reverse cs.items)) (str_binds_of (map str_bind_of (reverse bs.trees.items)))
phrase_of (V.Structures (Structures.BegunStrBind x cs e)) = of_begun_str_bind (name_of x) (map low_constraint_of (reverse cs.items)) (str_of e.tree)
phrase_of (V.Structures (Structures.FunctorArgument x s)) = of_functor_argument (name_of x) (sig_of s.tree)
phrase_of (V.Structures (Structures.FunBinds ws cs bs)) = of_fun_binds (map low_where_of (reverse ws.items)) (map low_constraint_of (reverse cs.items)) (map fun_bind_of (reverse bs.trees.items))
phrase_of (V.Structures (Structures.BegunFunBind x y s cs e)) = of_begun_fun_bind (name_of x) (name_of y) (sig_of s.value.tree) (map low_constraint_of (reverse cs.items)) (str_of e.tree)
phrase_of (V.Structures (Structures.BegunFunctor x ss cs e)) = of_begun_functor (name_of x) (specs_of (map spec_of (reverse ss.trees.items))) (map low_constraint_of (reverse cs.items)) (str_of e.tree)
phrase_of (V.Structures (Structures.Top d)) = of_top (top_of d.tree)

-- what is held, the last first, each phrase before those below it that are nothing
abbrev pub held_in : List Held → List Phrase
held_in [] = []
held_in (h ∷ hs) = phrase_of h.phrase ∷ (replicate h.below nothing ++ held_in hs)

-- the phrases on a stack, the last one first
abbrev pub seen : Stack → List Phrase
seen stack = replicate stack.nothings nothing ++ held_in (reverse stack.held.items)

-- whether an expression comes first, and nothing after it
abbrev pub is_exp : Phrase → Bool
is_exp (of_exp e) = true
is_exp _ = false

abbrev pub is_nothing : Phrase → Bool
is_nothing nothing = true
is_nothing _ = false

abbrev pub is_alone : List Phrase → Bool
is_alone (x ∷ y ∷ xs) = is_exp x && is_nothing y
is_alone _ = false

-- A call gives what is wanted; or it is too high, and so is what is wanted; or a growth was refused.
abbrev pub Gives : {A : Type 0} → {B : Type 0} → (A → B) → (B → Bool) → B → Result A Failure → Type 0
Gives view within wanted (Ok x) = view x ≡ wanted
Gives view within wanted (Err TooHigh) = within wanted ≡ false
Gives view within wanted (Err Memory) = Unit {0}

abbrev pub Makes : Phrase → Result D.Phrase Failure → Type 0
Makes = Gives phrase_of is_low

-- A call puts what is wanted in the place of the n topmost phrases; or it is too high, and so is what is wanted; or a growth was
-- refused.
abbrev pub Puts : Phrase → ℕ → List Phrase → List Phrase → Result Unit Failure → Type 0
Puts wanted n old new (Ok _) = new ≡ wanted ∷ drop n old
Puts wanted n old new (Err TooHigh) = is_low wanted ≡ false
Puts wanted n old new (Err Memory) = Unit {0}
