-- Each place in identifiers, types and patterns is such a one.
use Rattle.std.specs.Prelude.{◌≡◌, ℕ, List, [], ◌∷◌, drop, Bool, true, false, if◌then◌else◌, Option, Some, None}
use Rattle.std.specs.List.{AllByRecursion}
use Rattle.std.proofs.Common.{refl}
use Rattle.sml_lex.specs.declared.fault.Place.{Place}
use Rattle.sml_lex.specs.Faults.{first_place}
use Rattle.sml_tree.specs.Names.{Name, LongName}
use Rattle.sml_tree.specs.Types.{Ty, Tys, ty_constructor, no_ty, and_ty}
use Rattle.sml_tree.specs.Patterns.{Pat, Pats, wildcard, pat_constant, pat_name, pat_row, pat_tuple, pat_bracket, pat_apply, pat_typed, pat_as, no_pat, and_pat}
use Rattle.sml_fixity.specs.declared.sequences.Step.{Step}
use Rattle.sml_fixity.specs.declared.sequences.Step.TheVariants.{Push, Apply, Combine}
use Rattle.sml_fixity.specs.Shapes.{Shape, tree, headed}
use Rattle.sml_read.specs.Grammar.{right_side}
use Rattle.sml_read.specs.Spelling.{all_empty}
use Rattle.sml_read.specs.declared.grammar.Rule.TheVariants as G
use Rattle.sml_read.specs.declared.grammar.NameRule.{NameRule}
use Rattle.sml_read.specs.declared.grammar.NameRule.TheVariants.{LongVidAlphanumeric, LongVidSymbolic, LongVidStar, ExpVidEquals, LongTyConAlphanumeric, LongTyConSymbolic, LongStrIdAlphanumeric, ConstantNumeral, ConstantZeroNumeral}
use Rattle.sml_read.specs.declared.grammar.TypeRule.{TypeRule}
use Rattle.sml_read.specs.declared.grammar.TypeRule.TheVariants.{TyTup, TyArrowNone, TyArrowArrow, TupCon, TupMoreNone, TupMoreStar, ConATy, ConMoreNone, ConMoreLongTyCon, ATyTypeVariable, ATyLongTyCon, ATyOpenCurly, ATyOpenRound, TyRowCloseCurly, TyRowLab, TyRowMoreCloseCurly, TyRowMoreComma, TyRoundCloseRound, TyRoundComma, TyRoundMoreCloseRound, TyRoundMoreComma, TvsNone, SomeTvsTypeVariable, SomeTvsOpenRound, TvsMoreNone, TvsMoreComma}
use Rattle.sml_read.specs.declared.grammar.PatternRule.{PatternRule}
use Rattle.sml_read.specs.declared.grammar.PatternRule.TheVariants.{PatOpenRound, PatAlphanumeric, PatSymbolic, PatStar, BarePatAlphanumeric, BarePatSymbolic, BarePatStar, PatOp, BarePatOp, PatOtherAtPat, BarePatOtherAtPat, OpPatVid, OpPatQualified, AfterVidNone, AfterVidAs, AfterVidColon, AfterVidAtPat, AfterVidTyNone, AfterVidTyAs, AfterVidTyColon, AtPatMoreNone, AtPatMoreAtPat, AtPatMoreColon, AtPatOpenRound, AtPatAlphanumeric, AtPatSymbolic, AtPatStar, BareAtPatAlphanumeric, BareAtPatSymbolic, BareAtPatStar, AtPatOp, BareAtPatOp, OtherAtPatWildcard, OtherAtPatConstant, OtherAtPatQualified, OtherAtPatOpenCurly, OtherAtPatOpenSquare, PatRoundCloseRound, PatRoundPat, PatRoundMoreCloseRound, PatRoundMoreComma, PatListCloseSquare, PatListPat, PatListMoreCloseSquare, PatListMoreComma, PatRowCloseCurly, RowDots, RowNumeral, RowVid, RowRestEquals, RowRestTyped, RowAsNone, RowAsAs, RowMoreNone, RowMoreComma}
use Rattle.sml_derived.specs.Derived.{long, layered}
use Rattle.sml_phrases.specs.Phrases.{Phrase, of_arguments, of_pat, of_pat_fields, of_atoms, of_layer, of_op_atoms, of_op_layer, name_in, longs_in, ty_in, tys_in, ty_if_any, pat_in, pats_in, at}
use Rattle.sml_pat_sequences.specs.PatternSequences as S
use Rattle.sml_pat_sequences.specs.RoundPatterns.{round_pat}
use Rattle.sml_bare_pats.specs.NameRules.{name_phrase}
use Rattle.sml_bare_pats.specs.TypeRules.{arrow, product, constructed, round_ty, and_argument, type_phrase}
use Rattle.sml_bare_pats.specs.PatternPhrases.{pat_fields_in, atoms_in, colons_in}
use Rattle.sml_bare_pats.specs.PatternRules.{list_pat, sequence_from, from_vid, op_from_vid, after_op, after_colon, and_atom, field_pat, and_field, pattern_phrase}
use Rattle.sml_parse.specs.EachPlace.{EachInName, EachInLongs, EachInTy, EachInTys, EachInTyIfAny, EachInPat, EachInPats, EachInPatFields}
use Rattle.sml_parse.proofs.EachPhrase.{EachInPatIfAny, EachInPhrase, EachInPhrases, all_get_or, all_set, all_drop, at_each, name_in_each, long_in_each, names_in_each, longs_in_each, ty_in_each, tys_in_each, ty_fields_in_each, ty_if_any_each, pat_in_each, pats_in_each, pat_if_any_each}

module _ (Q : Place → Type 0) (origin : Q first_place) where
  -- types
  arrow_each : (p : Place) (t : Ty Place) (u : Option (Ty Place)) → Q p → EachInTy Q t → EachInTyIfAny Q u → EachInTy Q (arrow p t u)
  arrow_each p t None o h k = h
  arrow_each p t (Some u) o h k = (o, h, k)

  product_each : (p : Place) (t : Ty Place) (ts : Tys Place) → Q p → EachInTy Q t → EachInTys Q ts → EachInTy Q (product p t ts)
  product_each p t no_ty o h k = h
  product_each p t (and_ty u us) o h k = (o, (h, k))

  constructed_each : (p : Place) (t : Ty Place) (cs : List (LongName Place)) → Q p → EachInTy Q t → EachInLongs Q cs → EachInTy Q (constructed p t cs)
  constructed_each p t [] o h k = h
  constructed_each p t (c ∷ cs) o h k = constructed_each p (ty_constructor p (and_ty t no_ty) c) cs o (o, (h, tt), k.0) k.1

  round_ty_each : (p : Place) (t : Ty Place) (v : Phrase) → Q p → EachInTy Q t → EachInPhrase Q v → EachInTy Q (round_ty p t v)
  round_ty_each p t (of_arguments ts c) o h k = (o, (h, k.0), k.1)
  round_ty_each p t _ o h k = (o, h)

  and_argument_each : (t : Ty Place) (v : Phrase) → EachInTy Q t → EachInPhrase Q v → EachInPhrase Q (and_argument t v)
  and_argument_each t (of_arguments ts c) h k = ((h, k.0), k.1)
  and_argument_each t _ h k = tt

  -- sequences of atomic patterns
  abbrev EachPat : List (Pat Place) → Type 0
  EachPat qs = AllByRecursion (EachInPat Q) qs

  pub pat_place_each : (q : Pat Place) → EachInPat Q q → Q (S.pat_place q)
  pat_place_each (wildcard p) h = h
  pat_place_each (pat_constant p c) h = h
  pat_place_each (pat_name p x) h = h.0
  pat_place_each (pat_row p fs flexible) h = h.0
  pat_place_each (pat_tuple p qs) h = h.0
  pat_place_each (pat_bracket p q) h = h.0
  pat_place_each (pat_apply p c q) h = h.0
  pat_place_each (pat_typed p q t) h = h.0
  pat_place_each (pat_as p x t q) h = h.0

  listed_each : (qs : Pats Place) → EachInPats Q qs → EachPat (S.list_of_pats qs)
  listed_each no_pat h = tt
  listed_each (and_pat q qs) h = (h.0, listed_each qs h.1)

  operator_each : (q : Pat Place) → EachInPat Q q → EachInName Q (S.operator_of q)
  operator_each (pat_name p x) h = h.1
  operator_each _ h = origin

  paired_each : (a b : Pat Place) → EachInPat Q a → EachInPat Q b → EachInPat Q (S.paired a b)
  paired_each a b h k = (pat_place_each a h, (h, (k, tt)))

  applied_each : (f q : Pat Place) → EachInPat Q f → EachInPat Q q → EachInPat Q (S.applied f q)
  applied_each (pat_name p c) q h k = (h.0, h.1, k)
  applied_each f q h k = paired_each f q h k

  combined_each : (f : Name Place) (a b : Pat Place) → EachInName Q f → EachInPat Q a → EachInPat Q b → EachInPat Q (S.combined f a b)
  combined_each f a b n h k = (pat_place_each a h, n, (pat_place_each a h, (h, (k, tt))))

  record EachBuilt (b : S.Building) : Type 0 where
    pub atoms_each : EachPat b.atoms
    pub stack_each : EachPat b.stack

  atom_each : (i : ℕ) (b : S.Building) → EachBuilt b → EachInPat Q (S.atom i b)
  atom_each i b h = all_get_or (EachInPat Q) b.atoms i S.no_operand h.atoms_each (origin, tt)

  without_each : (i : ℕ) (b : S.Building) → EachBuilt b → EachPat (S.without i b)
  without_each i b h = all_set (EachInPat Q) b.atoms i S.no_operand h.atoms_each (origin, tt)

  operand_each : (n : ℕ) (b : S.Building) → EachBuilt b → EachInPat Q (S.operand n b)
  operand_each n b h = all_get_or (EachInPat Q) b.stack n S.no_operand h.stack_each (origin, tt)

  step_each : (s : Step) (b : S.Building) → EachBuilt b → EachBuilt (S.step s b)
  step_each (Push i) b h = record { atoms_each = without_each i b h; stack_each = (atom_each i b h, h.stack_each) }
  step_each Apply b h = record {
    atoms_each = h.atoms_each;
    stack_each = (applied_each (S.operand 1 b) (S.operand 0 b) (operand_each 1 b h) (operand_each 0 b h), all_drop (EachInPat Q) 2 b.stack h.stack_each);
  }
  step_each (Combine i) b h = record {
    atoms_each = without_each i b h;
    stack_each = (
      combined_each (S.operator_of (S.atom i b)) (S.operand 1 b) (S.operand 0 b) (operator_each (S.atom i b) (atom_each i b h)) (operand_each 1 b h) (operand_each 0 b h),
      all_drop (EachInPat Q) 2 b.stack h.stack_each,
    );
  }

  joined_each : (q : Pat Place) (qs : List (Pat Place)) → EachInPat Q q → EachPat qs → EachInPat Q (S.joined q qs)
  joined_each q [] h k = h
  joined_each q (r ∷ rs) h k = joined_each (S.paired r q) rs (paired_each r q k.0 h) k.1

  steps_each : (ss : List Step) (b : S.Building) → EachBuilt b → EachInPat Q (S.pat_of_steps ss b)
  steps_each [] b h = joined_each (S.operand 0 b) (drop 1 b.stack) (operand_each 0 b h) (all_drop (EachInPat Q) 1 b.stack h.stack_each)
  steps_each (s ∷ ss) b h = steps_each ss (S.step s b) (step_each s b h)

  typed_by_each : (p : Place) (q : Pat Place) (ts : Tys Place) → Q p → EachInPat Q q → EachInTys Q ts → EachInPat Q (S.typed_by p q ts)
  typed_by_each p q no_ty o h k = h
  typed_by_each p q (and_ty t ts) o h k = typed_by_each p (pat_typed p q t) ts o (o, h, k.0) k.1

  shaped_each : (s : Option Shape) (qs : Pats Place) → EachInPats Q qs → EachInPat Q (S.shaped s qs)
  shaped_each (Some (tree steps)) qs h = steps_each steps (record { atoms = S.list_of_pats qs; stack = [] }) (record { atoms_each = listed_each qs h; stack_each = tt })
  shaped_each (Some (headed how)) qs h = (origin, tt)
  shaped_each None qs h = (origin, tt)

  sequence_pat_each : (s : Option Shape) (qs : Pats Place) (ts : Tys Place) → EachInPats Q qs → EachInTys Q ts → EachInPat Q (S.sequence_pat s qs ts)
  sequence_pat_each s qs ts h k = typed_by_each (S.pat_place (S.shaped s qs)) (S.shaped s qs) ts (pat_place_each (S.shaped s qs) (shaped_each s qs h)) (shaped_each s qs h) k

  -- patterns in round brackets
  pub round_pat_each : (p : Place) (qs : Pats Place) → Q p → EachInPats Q qs → EachInPat Q (round_pat p qs)
  round_pat_each p no_pat o h = (o, h)
  round_pat_each p (and_pat q no_pat) o h = (o, h.0)
  round_pat_each p (and_pat q (and_pat r qs)) o h = (o, h)

  pub round_sequence_each : (s : Option Shape) (q : Pat Place) (qs : Pats Place) (ts : Tys Place) → EachInPat Q q → EachInPats Q qs → EachInTys Q ts → EachInPat Q (S.round_sequence s q qs ts)
  round_sequence_each s q qs ts h k l = go (S.begins s)
    where
      go : (b : Bool) → EachInPat Q (if b then S.sequence_pat s (and_pat q qs) ts else q)
      go true = sequence_pat_each s (and_pat q qs) ts (h, k) l
      go false = h

  -- parts of patterns
  atoms_in_each : (v : Phrase) → EachInPhrase Q v → EachInPats Q (atoms_in v)
  atoms_in_each (of_atoms qs ts) h = h.0
  atoms_in_each _ h = tt

  colons_in_each : (v : Phrase) → EachInPhrase Q v → EachInTys Q (colons_in v)
  colons_in_each (of_atoms qs ts) h = h.1
  colons_in_each _ h = tt

  pat_fields_in_each : (v : Phrase) → EachInPhrase Q v → EachInPatFields Q (pat_fields_in v)
  pat_fields_in_each (of_pat_fields fs flexible) h = h
  pat_fields_in_each _ h = tt

  list_pat_each : (p : Place) (qs : Pats Place) → Q p → EachInPats Q qs → EachInPat Q (list_pat p qs)
  list_pat_each p no_pat o h = (o, o)
  list_pat_each p (and_pat q qs) o h = (o, o, (o, (h.0, (list_pat_each p qs o h.1, tt))))

  layered_each : (x : Name Place) (t : Option (Ty Place)) (q : Option (Pat Place)) → EachInName Q x → EachInTyIfAny Q t → EachInPatIfAny Q q → EachInPat Q (layered x t q)
  layered_each x None None n h k = (n, n)
  layered_each x (Some t) None n h k = (n, (n, n), h)
  layered_each x None (Some q) n h k = (n, n, h, k)
  layered_each x (Some t) (Some q) n h k = (n, n, h, k)

  sequence_from_each : (s : Option Shape) (q : Pat Place) (v : Phrase) → EachInPat Q q → EachInPhrase Q v → EachInPat Q (sequence_from s q v)
  sequence_from_each s q v h k = sequence_pat_each s (and_pat q (atoms_in v)) (colons_in v) (h, atoms_in_each v k) (colons_in_each v k)

  from_vid_each : (s : Option Shape) (p : Place) (x : Name Place) (v : Phrase) → Q p → EachInName Q x → EachInPhrase Q v → EachInPat Q (from_vid s p x v)
  from_vid_each s p x (of_layer t q) o n h = layered_each x t q n h.0 h.1
  from_vid_each s p x v o n h = sequence_from_each s (pat_name p (long x)) v (o, n) h

  op_from_vid_each : (x : Name Place) (v : Phrase) → EachInName Q x → EachInPhrase Q v → EachInPhrase Q (op_from_vid x v)
  op_from_vid_each x (of_layer t q) n h = (n, h.0, h.1)
  op_from_vid_each x v n h = (n, atoms_in_each v h, colons_in_each v h)

  after_op_each : (s : Option Shape) (p : Place) (v : Phrase) → Q p → EachInPhrase Q v → EachInPat Q (after_op s p v)
  after_op_each s p (of_op_layer x t (Some q)) o h = (o, h.0, h.1, h.2)
  after_op_each s p (of_op_layer x t None) o h = (origin, tt)
  after_op_each s p (of_op_atoms c qs ts) o h = sequence_pat_each s (and_pat (pat_name p c) qs) ts ((o, h.0), h.1) h.2
  after_op_each s p _ o h = (origin, tt)

  after_colon_each : (t : Ty Place) (v : Phrase) → EachInTy Q t → EachInPhrase Q v → EachInPhrase Q (after_colon t v)
  after_colon_each t (of_layer u q) h k = (h, k.1)
  after_colon_each t v h k = (tt, (h, tys_in_each Q origin v k))

  and_atom_each : (q : Pat Place) (v : Phrase) → EachInPat Q q → EachInPhrase Q v → EachInPhrase Q (and_atom q v)
  and_atom_each q v h k = ((h, atoms_in_each v k), colons_in_each v k)

  field_pat_each : (x : Name Place) (v : Phrase) → EachInName Q x → EachInPhrase Q v → EachInPat Q (field_pat x v)
  field_pat_each x (of_pat q) n h = h
  field_pat_each x (of_layer t q) n h = layered_each x t q n h.0 h.1
  field_pat_each x _ n h = (n, n)

  and_field_each : (l : Name Place) (q : Pat Place) (v : Phrase) → EachInName Q l → EachInPat Q q → EachInPhrase Q v → EachInPhrase Q (and_field l q v)
  and_field_each l q v n h k = ((n, h), pat_fields_in_each v k)

  -- the rules of identifiers and constants
  name_parts : (rule : NameRule) (p : Place) (vs : List Phrase) → ((k : ℕ) → EachInPhrase Q (at vs k)) → EachInPhrase Q (name_phrase rule p vs)
  name_parts LongVidAlphanumeric p vs h = name_in_each Q origin (at vs 0) (h 0)
  name_parts LongVidSymbolic p vs h = name_in_each Q origin (at vs 0) (h 0)
  name_parts LongVidStar p vs h = name_in_each Q origin (at vs 0) (h 0)
  name_parts ExpVidEquals p vs h = name_in_each Q origin (at vs 0) (h 0)
  name_parts LongTyConAlphanumeric p vs h = name_in_each Q origin (at vs 0) (h 0)
  name_parts LongTyConSymbolic p vs h = name_in_each Q origin (at vs 0) (h 0)
  name_parts LongStrIdAlphanumeric p vs h = name_in_each Q origin (at vs 0) (h 0)
  name_parts ConstantNumeral p vs h = tt
  name_parts ConstantZeroNumeral p vs h = tt
  name_parts _ p vs h = h 0

  pub name_each : (rule : NameRule) (p : Place) (vs : List Phrase) → (all_empty (right_side (G.Names rule)) ≡ false → Q p) → EachInPhrases Q vs → EachInPhrase Q (name_phrase rule p vs)
  name_each rule p vs o h = name_parts rule p vs (λ k. at_each Q origin vs k h)

  -- the rules of types
  type_parts : (rule : TypeRule) (p : Place) (vs : List Phrase) → (all_empty (right_side (G.Types rule)) ≡ false → Q p)
      → ((k : ℕ) → EachInPhrase Q (at vs k)) → EachInPhrase Q (type_phrase rule p vs)
  type_parts TyTup p vs o h = arrow_each p (ty_in (at vs 0)) (ty_if_any (at vs 1)) (o refl) (ty_in_each Q origin (at vs 0) (h 0)) (ty_if_any_each Q origin (at vs 1) (h 1))
  type_parts TyArrowNone p vs o h = tt
  type_parts TyArrowArrow p vs o h = ty_in_each Q origin (at vs 1) (h 1)
  type_parts TupCon p vs o h = product_each p (ty_in (at vs 0)) (tys_in (at vs 1)) (o refl) (ty_in_each Q origin (at vs 0) (h 0)) (tys_in_each Q origin (at vs 1) (h 1))
  type_parts TupMoreNone p vs o h = tt
  type_parts TupMoreStar p vs o h = (ty_in_each Q origin (at vs 1) (h 1), tys_in_each Q origin (at vs 2) (h 2))
  type_parts ConATy p vs o h = constructed_each p (ty_in (at vs 0)) (longs_in (at vs 1)) (o refl) (ty_in_each Q origin (at vs 0) (h 0)) (longs_in_each Q origin (at vs 1) (h 1))
  type_parts ConMoreNone p vs o h = tt
  type_parts ConMoreLongTyCon p vs o h = (long_in_each Q origin (at vs 0) (h 0), longs_in_each Q origin (at vs 1) (h 1))
  type_parts ATyTypeVariable p vs o h = o refl
  type_parts ATyLongTyCon p vs o h = (o refl, tt, long_in_each Q origin (at vs 0) (h 0))
  type_parts ATyOpenCurly p vs o h = (o refl, ty_fields_in_each Q origin (at vs 1) (h 1))
  type_parts ATyOpenRound p vs o h = round_ty_each p (ty_in (at vs 1)) (at vs 2) (o refl) (ty_in_each Q origin (at vs 1) (h 1)) (h 2)
  type_parts TyRowCloseCurly p vs o h = tt
  type_parts TyRowLab p vs o h = ((name_in_each Q origin (at vs 0) (h 0), ty_in_each Q origin (at vs 2) (h 2)), ty_fields_in_each Q origin (at vs 3) (h 3))
  type_parts TyRowMoreCloseCurly p vs o h = tt
  type_parts TyRowMoreComma p vs o h = ((name_in_each Q origin (at vs 1) (h 1), ty_in_each Q origin (at vs 3) (h 3)), ty_fields_in_each Q origin (at vs 4) (h 4))
  type_parts TyRoundCloseRound p vs o h = tt
  type_parts TyRoundComma p vs o h = and_argument_each (ty_in (at vs 1)) (at vs 2) (ty_in_each Q origin (at vs 1) (h 1)) (h 2)
  type_parts TyRoundMoreCloseRound p vs o h = (tt, long_in_each Q origin (at vs 1) (h 1))
  type_parts TyRoundMoreComma p vs o h = and_argument_each (ty_in (at vs 1)) (at vs 2) (ty_in_each Q origin (at vs 1) (h 1)) (h 2)
  type_parts TvsNone p vs o h = tt
  type_parts SomeTvsTypeVariable p vs o h = (name_in_each Q origin (at vs 0) (h 0), tt)
  type_parts SomeTvsOpenRound p vs o h = (name_in_each Q origin (at vs 1) (h 1), names_in_each Q origin (at vs 2) (h 2))
  type_parts TvsMoreNone p vs o h = tt
  type_parts TvsMoreComma p vs o h = (name_in_each Q origin (at vs 1) (h 1), names_in_each Q origin (at vs 2) (h 2))
  type_parts _ p vs o h = h 0

  pub type_each : (rule : TypeRule) (p : Place) (vs : List Phrase) → (all_empty (right_side (G.Types rule)) ≡ false → Q p) → EachInPhrases Q vs → EachInPhrase Q (type_phrase rule p vs)
  type_each rule p vs o h = type_parts rule p vs o (λ k. at_each Q origin vs k h)

  -- the rules of patterns
  pattern_parts : (rule : PatternRule) (p : Place) (s : Option Shape) (vs : List Phrase) → (all_empty (right_side (G.Patterns rule)) ≡ false → Q p)
      → ((k : ℕ) → EachInPhrase Q (at vs k)) → EachInPhrase Q (pattern_phrase rule p s vs)
  pattern_parts PatOpenRound p s vs o h =
      round_sequence_each s (round_pat p (pats_in (at vs 1))) (atoms_in (at vs 2)) (colons_in (at vs 2))
      (round_pat_each p (pats_in (at vs 1)) (o refl) (pats_in_each Q origin (at vs 1) (h 1))) (atoms_in_each (at vs 2) (h 2)) (colons_in_each (at vs 2) (h 2))
  pattern_parts PatAlphanumeric p s vs o h = from_vid_each s p (name_in (at vs 0)) (at vs 1) (o refl) (name_in_each Q origin (at vs 0) (h 0)) (h 1)
  pattern_parts PatSymbolic p s vs o h = from_vid_each s p (name_in (at vs 0)) (at vs 1) (o refl) (name_in_each Q origin (at vs 0) (h 0)) (h 1)
  pattern_parts PatStar p s vs o h = from_vid_each s p (name_in (at vs 0)) (at vs 1) (o refl) (name_in_each Q origin (at vs 0) (h 0)) (h 1)
  pattern_parts BarePatAlphanumeric p s vs o h = from_vid_each s p (name_in (at vs 0)) (at vs 1) (o refl) (name_in_each Q origin (at vs 0) (h 0)) (h 1)
  pattern_parts BarePatSymbolic p s vs o h = from_vid_each s p (name_in (at vs 0)) (at vs 1) (o refl) (name_in_each Q origin (at vs 0) (h 0)) (h 1)
  pattern_parts BarePatStar p s vs o h = from_vid_each s p (name_in (at vs 0)) (at vs 1) (o refl) (name_in_each Q origin (at vs 0) (h 0)) (h 1)
  pattern_parts PatOp p s vs o h = after_op_each s p (at vs 1) (o refl) (h 1)
  pattern_parts BarePatOp p s vs o h = after_op_each s p (at vs 1) (o refl) (h 1)
  pattern_parts PatOtherAtPat p s vs o h = sequence_from_each s (pat_in (at vs 0)) (at vs 1) (pat_in_each Q origin (at vs 0) (h 0)) (h 1)
  pattern_parts BarePatOtherAtPat p s vs o h = sequence_from_each s (pat_in (at vs 0)) (at vs 1) (pat_in_each Q origin (at vs 0) (h 0)) (h 1)
  pattern_parts OpPatVid p s vs o h = op_from_vid_each (name_in (at vs 0)) (at vs 1) (name_in_each Q origin (at vs 0) (h 0)) (h 1)
  pattern_parts OpPatQualified p s vs o h = (long_in_each Q origin (at vs 0) (h 0), atoms_in_each (at vs 1) (h 1), colons_in_each (at vs 1) (h 1))
  pattern_parts AfterVidNone p s vs o h = (tt, tt)
  pattern_parts AfterVidAs p s vs o h = (tt, pat_in_each Q origin (at vs 1) (h 1))
  pattern_parts AfterVidColon p s vs o h = after_colon_each (ty_in (at vs 1)) (at vs 2) (ty_in_each Q origin (at vs 1) (h 1)) (h 2)
  pattern_parts AfterVidAtPat p s vs o h = and_atom_each (pat_in (at vs 0)) (at vs 1) (pat_in_each Q origin (at vs 0) (h 0)) (h 1)
  pattern_parts AfterVidTyNone p s vs o h = tt
  pattern_parts AfterVidTyAs p s vs o h = (tt, pat_in_each Q origin (at vs 1) (h 1))
  pattern_parts AfterVidTyColon p s vs o h = (ty_in_each Q origin (at vs 1) (h 1), tys_in_each Q origin (at vs 2) (h 2))
  pattern_parts AtPatMoreNone p s vs o h = (tt, tt)
  pattern_parts AtPatMoreAtPat p s vs o h = and_atom_each (pat_in (at vs 0)) (at vs 1) (pat_in_each Q origin (at vs 0) (h 0)) (h 1)
  pattern_parts AtPatMoreColon p s vs o h = (tt, (ty_in_each Q origin (at vs 1) (h 1), tys_in_each Q origin (at vs 2) (h 2)))
  pattern_parts AtPatOpenRound p s vs o h = round_pat_each p (pats_in (at vs 1)) (o refl) (pats_in_each Q origin (at vs 1) (h 1))
  pattern_parts AtPatAlphanumeric p s vs o h = (o refl, name_in_each Q origin (at vs 0) (h 0))
  pattern_parts AtPatSymbolic p s vs o h = (o refl, name_in_each Q origin (at vs 0) (h 0))
  pattern_parts AtPatStar p s vs o h = (o refl, name_in_each Q origin (at vs 0) (h 0))
  pattern_parts BareAtPatAlphanumeric p s vs o h = (o refl, name_in_each Q origin (at vs 0) (h 0))
  pattern_parts BareAtPatSymbolic p s vs o h = (o refl, name_in_each Q origin (at vs 0) (h 0))
  pattern_parts BareAtPatStar p s vs o h = (o refl, name_in_each Q origin (at vs 0) (h 0))
  pattern_parts AtPatOp p s vs o h = (o refl, long_in_each Q origin (at vs 1) (h 1))
  pattern_parts BareAtPatOp p s vs o h = (o refl, long_in_each Q origin (at vs 1) (h 1))
  pattern_parts OtherAtPatWildcard p s vs o h = o refl
  pattern_parts OtherAtPatConstant p s vs o h = o refl
  pattern_parts OtherAtPatQualified p s vs o h = (o refl, long_in_each Q origin (at vs 0) (h 0))
  pattern_parts OtherAtPatOpenCurly p s vs o h = (o refl, pat_fields_in_each (at vs 1) (h 1))
  pattern_parts OtherAtPatOpenSquare p s vs o h = list_pat_each p (pats_in (at vs 1)) (o refl) (pats_in_each Q origin (at vs 1) (h 1))
  pattern_parts PatRoundCloseRound p s vs o h = tt
  pattern_parts PatRoundPat p s vs o h = (pat_in_each Q origin (at vs 0) (h 0), pats_in_each Q origin (at vs 1) (h 1))
  pattern_parts PatRoundMoreCloseRound p s vs o h = tt
  pattern_parts PatRoundMoreComma p s vs o h = (pat_in_each Q origin (at vs 1) (h 1), pats_in_each Q origin (at vs 2) (h 2))
  pattern_parts PatListCloseSquare p s vs o h = tt
  pattern_parts PatListPat p s vs o h = (pat_in_each Q origin (at vs 0) (h 0), pats_in_each Q origin (at vs 1) (h 1))
  pattern_parts PatListMoreCloseSquare p s vs o h = tt
  pattern_parts PatListMoreComma p s vs o h = (pat_in_each Q origin (at vs 1) (h 1), pats_in_each Q origin (at vs 2) (h 2))
  pattern_parts PatRowCloseCurly p s vs o h = tt
  pattern_parts RowDots p s vs o h = tt
  pattern_parts RowNumeral p s vs o h = and_field_each (name_in (at vs 0)) (pat_in (at vs 2)) (at vs 3) (name_in_each Q origin (at vs 0) (h 0)) (pat_in_each Q origin (at vs 2) (h 2)) (h 3)
  pattern_parts RowVid p s vs o h =
      let n = name_in_each Q origin (at vs 0) (h 0) in
      and_field_each (name_in (at vs 0)) (field_pat (name_in (at vs 0)) (at vs 1)) (at vs 2) n (field_pat_each (name_in (at vs 0)) (at vs 1) n (h 1)) (h 2)
  pattern_parts RowRestEquals p s vs o h = pat_in_each Q origin (at vs 1) (h 1)
  pattern_parts RowRestTyped p s vs o h = (ty_if_any_each Q origin (at vs 0) (h 0), pat_if_any_each Q origin (at vs 1) (h 1))
  pattern_parts RowAsNone p s vs o h = tt
  pattern_parts RowAsAs p s vs o h = pat_in_each Q origin (at vs 1) (h 1)
  pattern_parts RowMoreNone p s vs o h = tt
  pattern_parts RowMoreComma p s vs o h = h 1
  pattern_parts _ p s vs o h = h 0

  pub pattern_each : (rule : PatternRule) (p : Place) (s : Option Shape) (vs : List Phrase) → (all_empty (right_side (G.Patterns rule)) ≡ false → Q p)
      → EachInPhrases Q vs → EachInPhrase Q (pattern_phrase rule p s vs)
  pattern_each rule p s vs o h = pattern_parts rule p s vs o (λ k. at_each Q origin vs k h)
