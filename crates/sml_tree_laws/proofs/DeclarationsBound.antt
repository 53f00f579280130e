-- The rules of declarations of the core.
use Rattle.sml_read.specs.Grammar.{right_side}
use Rattle.sml_read.specs.Parts.{part_of}
use Rattle.sml_read.specs.declared.grammar.Symbol.TheVariants.{Of}
use Rattle.std.specs.Prelude.{◌≡◌, ℕ, zero, suc, ◌≤◌, ◌<◌, length, List, [], ◌∷◌, ◌++◌, Option, Some, None}
use Rattle.std.proofs.Common.{refl, arith, inl, inr, ◌⊎◌}
use Rattle.sml_lex.specs.declared.fault.Place.{Place}
use Rattle.sml_tree.specs.Trees.{Id}
use Rattle.sml_tree.specs.Names.{Name}
use Rattle.sml_read.specs.declared.grammar.Rule.TheVariants as G
use Rattle.sml_phrases.specs.Phrases.{Phrase, of_long, of_ty, of_atoms, of_values, of_round_values, of_functions, of_right_side, of_round_functions, of_typ_bind, of_con_bind, of_datatypes, of_constructors, of_copy, at, name_in, names_in, pat_in, bind_in, binds_in, clauses_in, exn_binds_in, typ_binds_in, con_binds_in, ty_if_any}
use Rattle.sml_flaws.specs.declared.role.Space.{Space}
use Rattle.sml_flaws.specs.declared.role.Space.TheVariants as S
use Rattle.sml_tree_laws.specs.Scoped.{ids}
use Rattle.sml_tree_laws.specs.WellBound.{AreDistinct, MayBeConstructor, TyBound, TysBound, TyBoundIfAny, PatBound, PatsBound, type_names, TypBindsBound, con_names, datatype_names, all_con_names, DatBindsBound, DatatypesBound, exn_name, exn_names, ExnBindBound, ExpBound, ExpsBound, RulesBound, DecBound, BindsBound}
use Rattle.sml_tree_laws.proofs.Named.{Named, distinct, each_named}
use Rattle.sml_tree_laws.proofs.PhrasesBound.{Class, plain, exception, type_binding, class_of, Fits, BindBound, ClauseBound, ClausesBound, PhraseBound, phrase_wider}
use Rattle.sml_tree_laws.proofs.AccessorsBound.{ty_bound, ty_bound_if_any, pats_bound, pat_bound, exp_bound, decs_bound, binds_bound, clauses_bound, bind_bound, typ_binds_bound, exn_binds_bound, con_binds_bound, names_bound, names_named}
use Rattle.sml_tree_laws.proofs.PartsBound.{PartsBound, t_le, one, two, pass}
use Rattle.sml_tree.specs.Types.{Ty}
use Rattle.sml_tree.specs.Patterns.{Pat, Pats, wildcard, pat_constant, pat_name, pat_row, pat_tuple, pat_bracket, pat_apply, pat_typed, pat_as, no_pat, and_pat}
use Rattle.sml_tree.specs.Expressions.{TypBind, ConBind, DatBind, Exp, Exps, ValBind, ValBinds, no_exp, and_exp, bind, no_bind, and_bind}
use Rattle.sml_tree.specs.Clauses.{Clause, constrained, pat_row_of, clause_rules}
use Rattle.sml_fixity.specs.declared.heads.Head.TheVariants as K
use Rattle.sml_fixity.specs.Shapes.{Shape, tree, headed}
use Rattle.sml_derived.specs.Derived.{count, row_of, hidden_from, curried, case_of, function_of}
use Rattle.sml_read.specs.declared.grammar.DeclarationRule.{DeclarationRule}
use Rattle.sml_read.specs.declared.grammar.DeclarationRule.TheVariants.{DecLocal, CoreDecVal, CoreDecFun, CoreDecType, CoreDecDatatype, CoreDecException, CoreDecOpen, CoreDecInfix, CoreDecInfixr, CoreDecNonfix, OpenMoreNone, OpenMoreLongStrId, FixityNone, FixityLevel, VidMoreNone, VidMoreVid, ValDecTypeVariable, ValDecOpenRound, ValDecRec, ValDecBarePat, ValRoundTypeVariable, ValRoundPatRound, ValBindRec, ValBindPat, ValMoreNone, ValMoreAnd, FunDecTypeVariable, FunDecOpenRound, FunDecBareAtPat, FunRoundTypeVariable, FunRoundPatRound, ClausesAtPat, ClausesMoreNone, ClausesMoreAnd, ClauseAtPats, ClauseMoreNone, ClauseMoreBar, AtPatsNone, AtPatsAtPat, TypedNone, TypedColon, TypBindTvs, TypBindMoreNone, TypBindMoreAnd, DatDecSomeTvs, DatDecTyCon, DatRestDatatype, DatRestConBinds, DatBindMoreNone, DatBindMoreAnd, DatBindMoreWithtype, ConBindsMaybeOp, ConBindsMoreNone, ConBindsMoreBar, MaybeOpNone, MaybeOpOp, ExnBindMaybeOp, ExnBindMoreNone, ExnBindMoreAnd, ExnRestNone, ExnRestOf, ExnRestEquals}
use Rattle.sml_pat_sequences.specs.PatternSequences.{pat_place}
use Rattle.sml_pat_sequences.specs.RoundPatterns.{round_pat}
use Rattle.sml_bare_decs.specs.FunctionRules.{RightSide, prefix_head, infix_head, bracketed_head, in_brackets, between, heading, right_side_in, clause, function_from, round_functions}
use Rattle.sml_bare_decs.specs.DeclarationRules.{Values, Datatypes, values_in, functions_in, atoms_in, datatypes_in, typ_bind_in, exn_bind_in, joined, datatypes_dec, datatype_of, datatype_from, exception_of, round_value, long_if_any, constructors_if_any, declaration_phrase}
use Rattle.sml_tree_laws.proofs.PatternsBound.{round_sequence_bound, round_pat_bound}

joined_bound : (bs rs : ValBinds Place) → BindsBound bs → BindsBound rs → BindsBound (joined bs rs)
joined_bound no_bind rs h k = k
joined_bound (and_bind (bind q e) bs) rs h k = (h.0, joined_bound bs rs h.1 k)

and_bind_bound : (b : ValBind Place) (bs : ValBinds Place) → BindBound b → BindsBound bs → BindsBound (and_bind b bs)
and_bind_bound (bind q e) bs h k = (h, k)

prefix_bound : (q : Pat Place) (qs : Pats Place) → PatBound q → PatsBound qs → PatsBound (prefix_head q qs).arguments
prefix_bound (pat_name p f) qs h k = k
prefix_bound (wildcard p) qs h k = (h, k)
prefix_bound (pat_constant p c) qs h k = (h, k)
prefix_bound (pat_row p fs b) qs h k = (h, k)
prefix_bound (pat_tuple p rs) qs h k = (h, k)
prefix_bound (pat_bracket p r) qs h k = (h, k)
prefix_bound (pat_apply p x r) qs h k = (h, k)
prefix_bound (pat_typed p r t) qs h k = (h, k)
prefix_bound (pat_as p x t r) qs h k = (h, k)

between_bound : (a f b : Pat Place) → PatBound a → PatBound f → PatBound b → PatsBound (between a f b).arguments
between_bound a (pat_name p f) b h k l = ((h, (l, tt)), tt)
between_bound a (wildcard p) b h k l = (h, (k, (l, tt)))
between_bound a (pat_constant p c) b h k l = (h, (k, (l, tt)))
between_bound a (pat_row p fs flexible) b h k l = (h, (k, (l, tt)))
between_bound a (pat_tuple p rs) b h k l = (h, (k, (l, tt)))
between_bound a (pat_bracket p r) b h k l = (h, (k, (l, tt)))
between_bound a (pat_apply p x r) b h k l = (h, (k, (l, tt)))
between_bound a (pat_typed p r t) b h k l = (h, (k, (l, tt)))
between_bound a (pat_as p x t r) b h k l = (h, (k, (l, tt)))

infix_bound : (a : Pat Place) (qs : Pats Place) → PatBound a → PatsBound qs → PatsBound (infix_head a qs).arguments
infix_bound a no_pat h k = (h, k)
infix_bound a (and_pat f no_pat) h k = (h, k)
infix_bound a (and_pat f (and_pat b no_pat)) h k = between_bound a f b h k.0 k.1.0
infix_bound a (and_pat f (and_pat b (and_pat c qs))) h k = (h, k)

in_brackets_bound : (p : Place) (q : Pat Place) (qs : Pats Place) → PatBound q → PatsBound qs → PatsBound (in_brackets p q qs).arguments
in_brackets_bound p (pat_apply r f q) qs h k = (h, k)
in_brackets_bound p (pat_name r f) qs h k = (h, k)
in_brackets_bound p (wildcard r) qs h k = (h, k)
in_brackets_bound p (pat_constant r c) qs h k = (h, k)
in_brackets_bound p (pat_row r fs b) qs h k = (h, k)
in_brackets_bound p (pat_tuple r rs) qs h k = (h, k)
in_brackets_bound p (pat_bracket r s) qs h k = (h, k)
in_brackets_bound p (pat_typed r s t) qs h k = (h, k)
in_brackets_bound p (pat_as r x t s) qs h k = (h, k)

bracketed_bound : (q : Pat Place) (qs : Pats Place) → PatBound q → PatsBound qs → PatsBound (bracketed_head q qs).arguments
bracketed_bound (pat_bracket p q) qs h k = in_brackets_bound p q qs h k
bracketed_bound (pat_name p f) qs h k = (h, k)
bracketed_bound (wildcard p) qs h k = (h, k)
bracketed_bound (pat_constant p c) qs h k = (h, k)
bracketed_bound (pat_row p fs b) qs h k = (h, k)
bracketed_bound (pat_tuple p rs) qs h k = (h, k)
bracketed_bound (pat_apply p x r) qs h k = (h, k)
bracketed_bound (pat_typed p r t) qs h k = (h, k)
bracketed_bound (pat_as p x t r) qs h k = (h, k)

heading_bound : (s : Option Shape) (q : Pat Place) (qs : Pats Place) → PatBound q → PatsBound qs → PatsBound (heading s q qs).arguments
heading_bound None q qs h k = (h, k)
heading_bound (Some (tree steps)) q qs h k = (h, k)
heading_bound (Some (headed K.Prefix)) q qs h k = prefix_bound q qs h k
heading_bound (Some (headed K.Infix)) q qs h k = infix_bound q qs h k
heading_bound (Some (headed K.Bracketed)) q qs h k = bracketed_bound q qs h k

hidden_bound : (p : Place) (k n : ℕ) → ExpsBound (hidden_from p k n)
hidden_bound p k zero = tt
hidden_bound p k (suc n) = (tt, hidden_bound p (suc k) n)

row_bound : (p : Place) (es : Exps Place) → ExpsBound es → ExpBound (row_of p es)
row_bound p no_exp h = tt
row_bound p (and_exp e no_exp) h = h.0
row_bound p (and_exp e (and_exp f es)) h = h

curried_bound : (p : Place) (k n : ℕ) (e : Exp Place) → ExpBound e → ExpBound (curried p k n e)
curried_bound p k zero e h = h
curried_bound p k (suc n) e h = ((tt, curried_bound p (suc k) n e h), tt)

pat_row_bound : (p : Place) (qs : Pats Place) → PatsBound qs → PatBound (pat_row_of p qs)
pat_row_bound p no_pat h = tt
pat_row_bound p (and_pat q no_pat) h = h.0
pat_row_bound p (and_pat q (and_pat r qs)) h = h

constrained_bound : (p : Place) (e : Exp Place) (t : Option (Ty Place)) → ExpBound e → TyBoundIfAny t → ExpBound (constrained p e t)
constrained_bound p e None h k = h
constrained_bound p e (Some t) h k = (h, k)

clause_rules_bound : (cs : List (Clause Place)) → ClausesBound cs → RulesBound (clause_rules cs)
clause_rules_bound [] h = tt
clause_rules_bound (c ∷ cs) h = ((pat_row_bound c.place c.pats h.0.0, constrained_bound c.place c.body c.result h.0.2 h.0.1), clause_rules_bound cs h.1)

function_of_bound : (f : Id) (c : Clause Place) (cs : List (Clause Place)) → ClauseBound c → ClausesBound cs → BindBound (function_of f c cs)
function_of_bound f c cs h k = (
  tt,
  curried_bound c.place 1 (count c.pats)
      (case_of c.place (row_of c.place (hidden_from c.place 1 (count c.pats))) (clause_rules (c ∷ cs)))
      (clause_rules_bound (c ∷ cs) (h, k), row_bound c.place (hidden_from c.place 1 (count c.pats)) (hidden_bound c.place 1 (count c.pats))),
)

abbrev RightSideBound : RightSide → Type 0
RightSideBound r = PatsBound r.pats × TyBoundIfAny r.result × ExpBound r.body

clause_bound : (s : Option Shape) (p : Place) (q : Pat Place) (r : RightSide) → PatBound q → RightSideBound r → ClauseBound (clause p (heading s q r.pats) r)
clause_bound s p q r h k = (heading_bound s q r.pats h k.0, k.1, k.2)

function_bound : (s : Option Shape) (p : Place) (q : Pat Place) (r : RightSide) (cs : List (Clause Place)) → PatBound q → RightSideBound r → ClausesBound cs → BindBound (function_from s p q r cs)
function_bound s p q r cs h k l = function_of_bound (heading s q r.pats).name (clause p (heading s q r.pats) r) cs (clause_bound s p q r h k) l

module _ (B : Space → ℕ → ℕ → Id → Type 0) (apart : (sp : Space) (g t u : ℕ) (x : Id) → t < u → B sp g t x → B sp g u x → ⊥)
    (may_be : (sp : Space) (g t : ℕ) (x : Id) → (sp ≡ S.Constructors) ⊎ (sp ≡ S.Exceptions) → B sp g t x → MayBeConstructor x) where
  abbrev ValuesBound : Values → Type 0
  ValuesBound w = AreDistinct (ids w.variables) × BindsBound w.plain × BindsBound w.recursive

  values_bound : (c : Class) (g lo hi : ℕ) (v : Phrase) → PhraseBound B c g lo hi v → ValuesBound (values_in v)
  values_bound c g lo hi (of_values xs bs rs) h = h
  values_bound c g lo hi _ h = (tt, tt, tt)

  functions_bound : (c : Class) (g lo hi : ℕ) (v : Phrase) → PhraseBound B c g lo hi v → AreDistinct (ids (functions_in v).variables) × BindsBound (functions_in v).binds
  functions_bound c g lo hi (of_functions xs bs) h = h
  functions_bound c g lo hi _ h = (tt, tt)

  all_atoms_bound : (c : Class) (g lo hi : ℕ) (v : Phrase) → PhraseBound B c g lo hi v → PatsBound (atoms_in v).pats × TysBound (atoms_in v).tys
  all_atoms_bound c g lo hi (of_atoms qs ts) h = h
  all_atoms_bound c g lo hi _ h = (tt, tt)

  right_side_bound : (c : Class) (g lo hi : ℕ) (v : Phrase) → PhraseBound B c g lo hi v → RightSideBound (right_side_in v)
  right_side_bound c g lo hi (of_right_side qs t e) h = h
  right_side_bound c g lo hi _ h = (tt, tt, tt)

  abbrev DatatypesIn : ℕ → ℕ → ℕ → Datatypes → Type 0
  DatatypesIn g lo hi w =
      Named B S.Types g lo hi (datatype_names w.datatypes) × Named B S.Constructors g lo hi (all_con_names w.datatypes)
      × DatBindsBound w.datatypes × AreDistinct (type_names w.types) × TypBindsBound w.types

  datatypes_bound : (c : Class) (g lo hi : ℕ) (v : Phrase) → PhraseBound B c g lo hi v → DatatypesIn g lo hi (datatypes_in v)
  datatypes_bound c g lo hi (of_datatypes ds ts) h = h
  datatypes_bound c g lo hi _ h = (tt, tt, tt, tt, tt)

  round_value_bound : (g lo hi lo' hi' : ℕ) (s : Option Shape) (p : Place) (v : Phrase) → lo' ≤ lo → hi ≤ hi' → PhraseBound B plain g lo hi v → PhraseBound B plain g lo' hi' (round_value s p v)
  round_value_bound g lo hi lo' hi' s p (of_round_values ps qs ts e bs rs) a b h = (tt, ((round_sequence_bound s (round_pat p ps) qs ts (round_pat_bound p ps h.0) h.1 h.2, h.3), h.4), h.5)
  round_value_bound g lo hi lo' hi' s p v a b h = phrase_wider B plain g lo hi lo' hi' v a b h

  round_functions_bound : (g lo hi lo' hi' : ℕ) (s : Option Shape) (p : Place) (v : Phrase) → lo' ≤ lo → hi ≤ hi' → PhraseBound B plain g lo hi v → PhraseBound B plain g lo' hi' (round_functions s p v)
  round_functions_bound g lo hi lo' hi' s p (of_round_functions ps qs t e cs bs) a b h = (
    tt,
    and_bind_bound (function_from s p (round_pat p ps) (record { pats = qs; result = t; body = e }) cs) bs
        (function_bound s p (round_pat p ps) (record { pats = qs; result = t; body = e }) cs (round_pat_bound p ps h.0) (h.1, h.2, h.3) h.4) h.5,
  )
  round_functions_bound g lo hi lo' hi' s p v a b h = phrase_wider B plain g lo hi lo' hi' v a b h

  -- datatypes that are bound together
  pub all_bound : (g lo hi : ℕ) (ds : List (DatBind Place)) → Named B S.Types g lo hi (datatype_names ds) → Named B S.Constructors g lo hi (all_con_names ds) → DatBindsBound ds → DatatypesBound ds
  all_bound g lo hi ds h k l = (
    distinct B apart S.Types g lo hi (datatype_names ds) h,
    distinct B apart S.Constructors g lo hi (all_con_names ds) k,
    each_named B MayBeConstructor S.Constructors (λ g t x b. may_be S.Constructors g t x (inl refl) b) g lo hi (all_con_names ds) k,
    l,
  )

  datatypes_dec_bound : (g lo hi : ℕ) (p : Place) (ds : List (DatBind Place)) (ts : List (TypBind Place)) → PhraseBound B plain g lo hi (of_datatypes ds ts) → DecBound (datatypes_dec p ds ts)
  datatypes_dec_bound g lo hi p ds [] h = all_bound g lo hi ds h.0 h.1 h.2
  datatypes_dec_bound g lo hi p ds (t ∷ ts) h = (all_bound g lo hi ds h.0 h.1 h.2, h.3, h.4)

  datatype_of_bound : (g lo hi : ℕ) (p : Place) (v : Phrase) → PhraseBound B plain g lo hi v → DecBound (datatype_of p v)
  datatype_of_bound g lo hi p (of_datatypes ds ts) h = datatypes_dec_bound g lo hi p ds ts h
  datatype_of_bound g lo hi p (of_copy x c) h = tt
  datatype_of_bound g lo hi p _ h = (tt, tt, tt, tt)

  typ_bind_bound : (g lo hi : ℕ) (v : Phrase) → Fits type_binding v → PhraseBound B type_binding g lo hi v
      → (AreDistinct (ids (typ_bind_in v).variables) × TyBound (typ_bind_in v).ty) × Named B S.Types g lo hi ((typ_bind_in v).name.id ∷ [])
  typ_bind_bound g lo hi (of_typ_bind xs x t) f h = ((h.0, h.2), h.1)
  typ_bind_bound g lo hi _ f h = absurd f

  exn_bind_bound : (g lo hi : ℕ) (v : Phrase) → Fits exception v → PhraseBound B exception g lo hi v → ExnBindBound (exn_bind_in v) × Named B S.Exceptions g lo hi (exn_name (exn_bind_in v) ∷ [])
  exn_bind_bound g lo hi (of_con_bind x t) f h = (h.1, h.0)
  exn_bind_bound g lo hi (of_copy x c) f h = (tt, h)
  exn_bind_bound g lo hi _ f h = absurd f

  module _ (g : ℕ) (t : ℕ → ℕ) (mono : (k : ℕ) → t k ≤ t (suc k)) where
    datatype_rest_bound : (x : Name Place) (v : Phrase) → Named B S.Types g (t 0) (t 1) (x.id ∷ []) → PhraseBound B plain g (t 2) (t 3) v
        → PhraseBound B plain g (t 0) (t 3) (datatype_from x (long_if_any v) (constructors_if_any v))
    datatype_rest_bound x (of_long c) n h = tt
    datatype_rest_bound x (of_constructors cs ds ts) n h = (
      two B g t mono S.Types 0 2 3 (x.id ∷ []) (datatype_names ds) (omega arith) (omega arith) n h.0,
      one B g t mono S.Constructors 2 3 (con_names cs ++ all_con_names ds) (omega arith) h.1,
      ((tt, h.2), h.3),
      h.4,
      h.5,
    )
    datatype_rest_bound x _ n h = tt

    exn_rest_bound : (x : Name Place) (v : Phrase) → Named B S.Exceptions g (t 1) (t 2) (x.id ∷ []) → PhraseBound B plain g (t 2) (t 3) v
        → PhraseBound B exception g (t 0) (t 3) (exception_of x (long_if_any v) (ty_if_any v))
    exn_rest_bound x (of_long c) n h = one B g t mono S.Exceptions 1 3 (x.id ∷ []) (omega arith) n
    exn_rest_bound x (of_ty u) n h = (one B g t mono S.Exceptions 1 3 (x.id ∷ []) (omega arith) n, h)
    exn_rest_bound x _ n h = (one B g t mono S.Exceptions 1 3 (x.id ∷ []) (omega arith) n, tt)

    -- datatypes with one more before them, from its parts
    and_datatype_bound : (a b c n : ℕ) (x : Name Place) (cs : List (ConBind Place)) (w : Datatypes) → suc a ≤ c → suc b ≤ c → suc c ≤ n → Named B S.Types g (t a) (t (suc a)) (x.id ∷ [])
        → Named B S.Constructors g (t b) (t (suc b)) (con_names cs) → DatatypesIn g (t c) (t (suc c)) w
        → Named B S.Types g (t 0) (t n) (x.id ∷ datatype_names w.datatypes) × Named B S.Constructors g (t 0) (t n) (con_names cs ++ all_con_names w.datatypes)
    and_datatype_bound a b c n x cs w i j l h k m =
        (two B g t mono S.Types a c n (x.id ∷ []) (datatype_names w.datatypes) i l h m.0, two B g t mono S.Constructors b c n (con_names cs) (all_con_names w.datatypes) j l k m.1)

    pub declaration_bound : (rule : DeclarationRule) (p : Place) (s : Option Shape) (vs : List Phrase) → PartsBound B g t (G.Declarations rule) vs
        → PhraseBound B (class_of (Of (part_of (G.Declarations rule)))) g (t 0) (t (length (right_side (G.Declarations rule)))) (declaration_phrase rule p s vs)
    declaration_bound DecLocal p s vs h = ((decs_bound B plain g (t 1) (t 2) (at vs 1) (h 1 refl).0), (decs_bound B plain g (t 3) (t 4) (at vs 3) (h 3 refl).0))
    declaration_bound CoreDecVal p s vs h = (values_bound plain g (t 1) (t 2) (at vs 1) (h 1 refl).0)
    declaration_bound CoreDecFun p s vs h = ((functions_bound plain g (t 1) (t 2) (at vs 1) (h 1 refl).0).0, tt, (functions_bound plain g (t 1) (t 2) (at vs 1) (h 1 refl).0).1)
    declaration_bound CoreDecType p s vs h = (
      distinct B apart S.Types g (t 0) (t 3) ((typ_bind_in (at vs 1)).name.id ∷ type_names (typ_binds_in (at vs 2)))
          (two B g t mono S.Types 1 2 3 ((typ_bind_in (at vs 1)).name.id ∷ []) (type_names (typ_binds_in (at vs 2))) (omega arith) (omega arith) (typ_bind_bound g (t 1) (t 2) (at vs 1) (h 1 refl).2 (h 1 refl).0).1 (typ_binds_bound B plain g (t 2) (t 3) (at vs 2) (h 2 refl).0).0),
      ((typ_bind_bound g (t 1) (t 2) (at vs 1) (h 1 refl).2 (h 1 refl).0).0, (typ_binds_bound B plain g (t 2) (t 3) (at vs 2) (h 2 refl).0).1),
    )
    declaration_bound CoreDecDatatype p s vs h = datatype_of_bound g (t 1) (t 2) p (at vs 1) (h 1 refl).0
    declaration_bound CoreDecException p s vs h =
        let n = two B g t mono S.Exceptions 1 2 3 (exn_name (exn_bind_in (at vs 1)) ∷ []) (exn_names (exn_binds_in (at vs 2))) (omega arith) (omega arith) (exn_bind_bound g (t 1) (t 2) (at vs 1) (h 1 refl).2 (h 1 refl).0).1 (exn_binds_bound B plain g (t 2) (t 3) (at vs 2) (h 2 refl).0).0 in (
          distinct B apart S.Exceptions g (t 0) (t 3) (exn_name (exn_bind_in (at vs 1)) ∷ exn_names (exn_binds_in (at vs 2))) n,
          each_named B MayBeConstructor S.Exceptions (λ g t x b. may_be S.Exceptions g t x (inr refl) b) g (t 0) (t 3)
              (exn_name (exn_bind_in (at vs 1)) ∷ exn_names (exn_binds_in (at vs 2))) n,
          ((exn_bind_bound g (t 1) (t 2) (at vs 1) (h 1 refl).2 (h 1 refl).0).0, (exn_binds_bound B plain g (t 2) (t 3) (at vs 2) (h 2 refl).0).1),
        )
    declaration_bound CoreDecOpen p s vs h = tt
    declaration_bound CoreDecInfix p s vs h = tt
    declaration_bound CoreDecInfixr p s vs h = tt
    declaration_bound CoreDecNonfix p s vs h = tt
    declaration_bound OpenMoreNone p s vs h = tt
    declaration_bound OpenMoreLongStrId p s vs h = tt
    declaration_bound FixityNone p s vs h = tt
    declaration_bound FixityLevel p s vs h = tt
    declaration_bound VidMoreNone p s vs h = tt
    declaration_bound VidMoreVid p s vs h = tt
    declaration_bound ValDecTypeVariable p s vs h = (
      distinct B apart S.Variables g (t 0) (t 1) ((name_in (at vs 0)).id ∷ []) (h 0 refl).1,
      (values_bound plain g (t 1) (t 2) (at vs 1) (h 1 refl).0).1,
      (values_bound plain g (t 1) (t 2) (at vs 1) (h 1 refl).0).2,
    )
    declaration_bound ValDecOpenRound p s vs h = round_value_bound g (t 1) (t 2) (t 0) (t 2) s p (at vs 1) (t_le B g t mono 0 1 (omega arith)) (omega arith) (h 1 refl).0
    declaration_bound ValDecRec p s vs h = (
      tt,
      tt,
      joined_bound (values_in (at vs 1)).plain (values_in (at vs 1)).recursive
          (values_bound plain g (t 1) (t 2) (at vs 1) (h 1 refl).0).1 (values_bound plain g (t 1) (t 2) (at vs 1) (h 1 refl).0).2,
    )
    declaration_bound ValBindRec p s vs h = (
      tt,
      tt,
      joined_bound (values_in (at vs 1)).plain (values_in (at vs 1)).recursive
          (values_bound plain g (t 1) (t 2) (at vs 1) (h 1 refl).0).1 (values_bound plain g (t 1) (t 2) (at vs 1) (h 1 refl).0).2,
    )
    declaration_bound ValDecBarePat p s vs h = (
      tt,
      (
        ((pat_bound B plain g (t 0) (t 1) (at vs 0) (h 0 refl).0), (exp_bound B plain g (t 2) (t 3) (at vs 2) (h 2 refl).0)),
        (values_bound plain g (t 3) (t 4) (at vs 3) (h 3 refl).0).1,
      ),
      (values_bound plain g (t 3) (t 4) (at vs 3) (h 3 refl).0).2,
    )
    declaration_bound ValBindPat p s vs h = (
      tt,
      (
        ((pat_bound B plain g (t 0) (t 1) (at vs 0) (h 0 refl).0), (exp_bound B plain g (t 2) (t 3) (at vs 2) (h 2 refl).0)),
        (values_bound plain g (t 3) (t 4) (at vs 3) (h 3 refl).0).1,
      ),
      (values_bound plain g (t 3) (t 4) (at vs 3) (h 3 refl).0).2,
    )
    declaration_bound ValRoundTypeVariable p s vs h = (
      distinct B apart S.Variables g (t 0) (t 4) ((name_in (at vs 0)).id ∷ ids (names_in (at vs 1)))
          (two B g t mono S.Variables 0 1 4 ((name_in (at vs 0)).id ∷ []) (ids (names_in (at vs 1))) (omega arith) (omega arith) (h 0 refl).1 (names_named B g (t 1) (t 2) (at vs 1) (h 1 refl).0)),
      (values_bound plain g (t 3) (t 4) (at vs 3) (h 3 refl).0).1,
      (values_bound plain g (t 3) (t 4) (at vs 3) (h 3 refl).0).2,
    )
    declaration_bound ValRoundPatRound p s vs h = (
      (pats_bound B plain g (t 0) (t 1) (at vs 0) (h 0 refl).0),
      (all_atoms_bound plain g (t 1) (t 2) (at vs 1) (h 1 refl).0).0,
      (all_atoms_bound plain g (t 1) (t 2) (at vs 1) (h 1 refl).0).1,
      (exp_bound B plain g (t 3) (t 4) (at vs 3) (h 3 refl).0),
      (values_bound plain g (t 4) (t 5) (at vs 4) (h 4 refl).0).1,
      (values_bound plain g (t 4) (t 5) (at vs 4) (h 4 refl).0).2,
    )
    declaration_bound ValMoreNone p s vs h = (tt, tt, tt)
    declaration_bound ValMoreAnd p s vs h = (pass B g t mono 1 2 (at vs 1) (omega arith) (h 1 refl).0)
    declaration_bound FunDecTypeVariable p s vs h = (
      distinct B apart S.Variables g (t 0) (t 1) ((name_in (at vs 0)).id ∷ []) (h 0 refl).1,
      and_bind_bound (bind_in (at vs 1)) (binds_in (at vs 2)) (bind_bound B plain g (t 1) (t 2) (at vs 1) (h 1 refl).0)
          (binds_bound B plain g (t 2) (t 3) (at vs 2) (h 2 refl).0),
    )
    declaration_bound FunDecOpenRound p s vs h = round_functions_bound g (t 1) (t 2) (t 0) (t 2) s p (at vs 1) (t_le B g t mono 0 1 (omega arith)) (omega arith) (h 1 refl).0
    declaration_bound FunDecBareAtPat p s vs h = (
      tt,
      and_bind_bound
          (function_from s (pat_place (pat_in (at vs 0))) (pat_in (at vs 0)) (right_side_in (at vs 1)) (clauses_in (at vs 2))) (binds_in (at vs 3))
          (function_bound s (pat_place (pat_in (at vs 0))) (pat_in (at vs 0)) (right_side_in (at vs 1)) (clauses_in (at vs 2)) (pat_bound B plain g (t 0) (t 1) (at vs 0) (h 0 refl).0) (right_side_bound plain g (t 1) (t 2) (at vs 1) (h 1 refl).0) (clauses_bound B plain g (t 2) (t 3) (at vs 2) (h 2 refl).0))
          (binds_bound B plain g (t 3) (t 4) (at vs 3) (h 3 refl).0),
    )
    declaration_bound FunRoundTypeVariable p s vs h = (
      distinct B apart S.Variables g (t 0) (t 5) ((name_in (at vs 0)).id ∷ ids (names_in (at vs 1)))
          (two B g t mono S.Variables 0 1 5 ((name_in (at vs 0)).id ∷ []) (ids (names_in (at vs 1))) (omega arith) (omega arith) (h 0 refl).1 (names_named B g (t 1) (t 2) (at vs 1) (h 1 refl).0)),
      and_bind_bound (bind_in (at vs 3)) (binds_in (at vs 4)) (bind_bound B plain g (t 3) (t 4) (at vs 3) (h 3 refl).0)
          (binds_bound B plain g (t 4) (t 5) (at vs 4) (h 4 refl).0),
    )
    declaration_bound FunRoundPatRound p s vs h = (
      (pats_bound B plain g (t 0) (t 1) (at vs 0) (h 0 refl).0),
      (right_side_bound plain g (t 1) (t 2) (at vs 1) (h 1 refl).0).0,
      (right_side_bound plain g (t 1) (t 2) (at vs 1) (h 1 refl).0).1,
      (right_side_bound plain g (t 1) (t 2) (at vs 1) (h 1 refl).0).2,
      (clauses_bound B plain g (t 2) (t 3) (at vs 2) (h 2 refl).0),
      (binds_bound B plain g (t 3) (t 4) (at vs 3) (h 3 refl).0),
    )
    declaration_bound ClausesAtPat p s vs h =
        function_bound s (pat_place (pat_in (at vs 0))) (pat_in (at vs 0)) (right_side_in (at vs 1))
        (clauses_in (at vs 2)) (pat_bound B plain g (t 0) (t 1) (at vs 0) (h 0 refl).0) (right_side_bound plain g (t 1) (t 2) (at vs 1) (h 1 refl).0)
        (clauses_bound B plain g (t 2) (t 3) (at vs 2) (h 2 refl).0)
    declaration_bound ClausesMoreNone p s vs h = tt
    declaration_bound ClausesMoreAnd p s vs h =
        and_bind_bound (bind_in (at vs 1)) (binds_in (at vs 2))
        (bind_bound B plain g (t 1) (t 2) (at vs 1) (h 1 refl).0) (binds_bound B plain g (t 2) (t 3) (at vs 2) (h 2 refl).0)
    declaration_bound ClauseAtPats p s vs h = (
      (pats_bound B plain g (t 0) (t 1) (at vs 0) (h 0 refl).0),
      (ty_bound_if_any B plain g (t 1) (t 2) (at vs 1) (h 1 refl).0),
      (exp_bound B plain g (t 3) (t 4) (at vs 3) (h 3 refl).0),
    )
    declaration_bound ClauseMoreNone p s vs h = tt
    declaration_bound ClauseMoreBar p s vs h = (
      clause_bound s (pat_place (pat_in (at vs 1))) (pat_in (at vs 1)) (right_side_in (at vs 2))
          (pat_bound B plain g (t 1) (t 2) (at vs 1) (h 1 refl).0) (right_side_bound plain g (t 2) (t 3) (at vs 2) (h 2 refl).0),
      (clauses_bound B plain g (t 3) (t 4) (at vs 3) (h 3 refl).0),
    )
    declaration_bound AtPatsNone p s vs h = tt
    declaration_bound AtPatsAtPat p s vs h = ((pat_bound B plain g (t 0) (t 1) (at vs 0) (h 0 refl).0), (pats_bound B plain g (t 1) (t 2) (at vs 1) (h 1 refl).0))
    declaration_bound TypedNone p s vs h = tt
    declaration_bound TypedColon p s vs h = (pass B g t mono 1 2 (at vs 1) (omega arith) (h 1 refl).0)
    declaration_bound TypBindTvs p s vs h = (
      (names_bound B g (t 0) (t 1) (at vs 0) (h 0 refl).0),
      one B g t mono S.Types 1 4 ((name_in (at vs 1)).id ∷ []) (omega arith) (h 1 refl).1,
      (ty_bound B plain g (t 3) (t 4) (at vs 3) (h 3 refl).0),
    )
    declaration_bound TypBindMoreNone p s vs h = (tt, tt)
    declaration_bound TypBindMoreAnd p s vs h = (
      two B g t mono S.Types 1 2 3 ((typ_bind_in (at vs 1)).name.id ∷ []) (type_names (typ_binds_in (at vs 2)))
          (omega arith) (omega arith) (typ_bind_bound g (t 1) (t 2) (at vs 1) (h 1 refl).2 (h 1 refl).0).1
          (typ_binds_bound B plain g (t 2) (t 3) (at vs 2) (h 2 refl).0).0,
      ((typ_bind_bound g (t 1) (t 2) (at vs 1) (h 1 refl).2 (h 1 refl).0).0, (typ_binds_bound B plain g (t 2) (t 3) (at vs 2) (h 2 refl).0).1),
    )
    declaration_bound DatDecSomeTvs p s vs h =
        let n = and_datatype_bound 1 3 4 5 (name_in (at vs 1)) (con_binds_in (at vs 3)) (datatypes_in (at vs 4)) (omega arith) (omega arith) (omega arith) (h 1 refl).1 (con_binds_bound B plain g (t 3) (t 4) (at vs 3) (h 3 refl).0).0 (datatypes_bound plain g (t 4) (t 5) (at vs 4) (h 4 refl).0) in (
          n.0,
          n.1,
          (
            ((names_bound B g (t 0) (t 1) (at vs 0) (h 0 refl).0), (con_binds_bound B plain g (t 3) (t 4) (at vs 3) (h 3 refl).0).1),
            (datatypes_bound plain g (t 4) (t 5) (at vs 4) (h 4 refl).0).2,
          ),
          (datatypes_bound plain g (t 4) (t 5) (at vs 4) (h 4 refl).0).3,
          (datatypes_bound plain g (t 4) (t 5) (at vs 4) (h 4 refl).0).4,
        )
    declaration_bound DatDecTyCon p s vs h = datatype_rest_bound (name_in (at vs 0)) (at vs 2) (h 0 refl).1 (h 2 refl).0
    declaration_bound DatRestDatatype p s vs h = (pass B g t mono 1 2 (at vs 1) (omega arith) (h 1 refl).0)
    declaration_bound DatRestConBinds p s vs h = (
      one B g t mono S.Types 1 2 (datatype_names (datatypes_in (at vs 1)).datatypes) (omega arith) (datatypes_bound plain g (t 1) (t 2) (at vs 1) (h 1 refl).0).0,
      two B g t mono S.Constructors 0 1 2 (con_names (con_binds_in (at vs 0)))
          (all_con_names (datatypes_in (at vs 1)).datatypes) (omega arith) (omega arith) (con_binds_bound B plain g (t 0) (t 1) (at vs 0) (h 0 refl).0).0
          (datatypes_bound plain g (t 1) (t 2) (at vs 1) (h 1 refl).0).1,
      (con_binds_bound B plain g (t 0) (t 1) (at vs 0) (h 0 refl).0).1,
      (datatypes_bound plain g (t 1) (t 2) (at vs 1) (h 1 refl).0).2,
      (datatypes_bound plain g (t 1) (t 2) (at vs 1) (h 1 refl).0).3,
      (datatypes_bound plain g (t 1) (t 2) (at vs 1) (h 1 refl).0).4,
    )
    declaration_bound DatBindMoreNone p s vs h = (tt, tt, tt, tt, tt)
    declaration_bound DatBindMoreAnd p s vs h =
        let n = and_datatype_bound 2 4 5 6 (name_in (at vs 2)) (con_binds_in (at vs 4)) (datatypes_in (at vs 5)) (omega arith) (omega arith) (omega arith) (h 2 refl).1 (con_binds_bound B plain g (t 4) (t 5) (at vs 4) (h 4 refl).0).0 (datatypes_bound plain g (t 5) (t 6) (at vs 5) (h 5 refl).0) in (
          n.0,
          n.1,
          (
            ((names_bound B g (t 1) (t 2) (at vs 1) (h 1 refl).0), (con_binds_bound B plain g (t 4) (t 5) (at vs 4) (h 4 refl).0).1),
            (datatypes_bound plain g (t 5) (t 6) (at vs 5) (h 5 refl).0).2,
          ),
          (datatypes_bound plain g (t 5) (t 6) (at vs 5) (h 5 refl).0).3,
          (datatypes_bound plain g (t 5) (t 6) (at vs 5) (h 5 refl).0).4,
        )
    declaration_bound DatBindMoreWithtype p s vs h = (
      tt,
      tt,
      tt,
      distinct B apart S.Types g (t 0) (t 3) ((typ_bind_in (at vs 1)).name.id ∷ type_names (typ_binds_in (at vs 2)))
          (two B g t mono S.Types 1 2 3 ((typ_bind_in (at vs 1)).name.id ∷ []) (type_names (typ_binds_in (at vs 2))) (omega arith) (omega arith) (typ_bind_bound g (t 1) (t 2) (at vs 1) (h 1 refl).2 (h 1 refl).0).1 (typ_binds_bound B plain g (t 2) (t 3) (at vs 2) (h 2 refl).0).0),
      ((typ_bind_bound g (t 1) (t 2) (at vs 1) (h 1 refl).2 (h 1 refl).0).0, (typ_binds_bound B plain g (t 2) (t 3) (at vs 2) (h 2 refl).0).1),
    )
    declaration_bound ConBindsMaybeOp p s vs h = (
      two B g t mono S.Constructors 1 3 4 ((name_in (at vs 1)).id ∷ []) (con_names (con_binds_in (at vs 3)))
          (omega arith) (omega arith) (h 1 refl).1 (con_binds_bound B plain g (t 3) (t 4) (at vs 3) (h 3 refl).0).0,
      ((ty_bound_if_any B plain g (t 2) (t 3) (at vs 2) (h 2 refl).0), (con_binds_bound B plain g (t 3) (t 4) (at vs 3) (h 3 refl).0).1),
    )
    declaration_bound ConBindsMoreNone p s vs h = (tt, tt)
    declaration_bound ConBindsMoreBar p s vs h = (pass B g t mono 1 2 (at vs 1) (omega arith) (h 1 refl).0)
    declaration_bound MaybeOpNone p s vs h = tt
    declaration_bound MaybeOpOp p s vs h = tt
    declaration_bound ExnBindMaybeOp p s vs h = exn_rest_bound (name_in (at vs 1)) (at vs 2) (h 1 refl).1 (h 2 refl).0
    declaration_bound ExnBindMoreNone p s vs h = (tt, tt)
    declaration_bound ExnBindMoreAnd p s vs h = (
      two B g t mono S.Exceptions 1 2 3 (exn_name (exn_bind_in (at vs 1)) ∷ []) (exn_names (exn_binds_in (at vs 2)))
          (omega arith) (omega arith) (exn_bind_bound g (t 1) (t 2) (at vs 1) (h 1 refl).2 (h 1 refl).0).1
          (exn_binds_bound B plain g (t 2) (t 3) (at vs 2) (h 2 refl).0).0,
      ((exn_bind_bound g (t 1) (t 2) (at vs 1) (h 1 refl).2 (h 1 refl).0).0, (exn_binds_bound B plain g (t 2) (t 3) (at vs 2) (h 2 refl).0).1),
    )
    declaration_bound ExnRestNone p s vs h = tt
    declaration_bound ExnRestOf p s vs h = (pass B g t mono 1 2 (at vs 1) (omega arith) (h 1 refl).0)
    declaration_bound ExnRestEquals p s vs h = (pass B g t mono 2 3 (at vs 2) (omega arith) (h 2 refl).0)
    declaration_bound _ p s vs h = (pass B g t mono 0 1 (at vs 0) (omega arith) (h 0 refl).0)
