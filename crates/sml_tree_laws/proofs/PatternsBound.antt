-- The rules of patterns.
use Rattle.sml_read.specs.Grammar.{right_side}
use Rattle.sml_read.specs.Parts.{part_of}
use Rattle.sml_read.specs.declared.grammar.Symbol.TheVariants.{Of}
use Rattle.std.specs.Prelude.{ℕ, suc, ◌≤◌, ◌<◌, length, List, [], ◌∷◌, Bool, true, false, Option, Some, None}
use Rattle.std.proofs.Common.{refl, arith}
use Rattle.sml_lex.specs.declared.fault.Place.{Place}
use Rattle.sml_tree.specs.Trees.{Id}
use Rattle.sml_tree.specs.Names.{Name}
use Rattle.sml_read.specs.declared.grammar.Rule.TheVariants as G
use Rattle.sml_phrases.specs.Phrases.{Phrase, of_pat, of_pat_fields, of_atoms, of_layer, of_op_atoms, of_op_layer, at, name_in, ty_in, pat_in, pats_in}
use Rattle.sml_flaws.specs.declared.role.Space.{Space}
use Rattle.sml_flaws.specs.declared.role.Space.TheVariants as S
use Rattle.sml_tree_laws.specs.WellBound.{TyBound, TysBound, TyBoundIfAny, pat_labels, PatBound, PatsBound, PatFieldsBound}
use Rattle.sml_tree_laws.proofs.Named.{Named, distinct}
use Rattle.sml_tree_laws.proofs.PhrasesBound.{Class, plain, class_of, PatBoundIfAny, PhraseBound}
use Rattle.sml_tree_laws.proofs.AccessorsBound.{ty_bound, tys_bound, ty_bound_if_any, pats_bound, pat_bound, pat_bound_if_any}
use Rattle.sml_tree_laws.proofs.PartsBound.{PartsBound, two, pass}
use Rattle.sml_tree.specs.Types.{Ty, Tys, no_ty, and_ty}
use Rattle.sml_tree.specs.Patterns.{Pat, Pats, wildcard, pat_constant, pat_name, pat_row, pat_tuple, pat_bracket, pat_apply, pat_typed, pat_as, no_pat, and_pat}
use Rattle.sml_rules.specs.Every.{Every}
use Rattle.sml_fixity.specs.declared.sequences.Step.{Step}
use Rattle.sml_fixity.specs.declared.sequences.Step.TheVariants.{Push, Apply, Combine}
use Rattle.sml_fixity.specs.Shapes.{Shape, tree, headed}
use Rattle.sml_derived.specs.Derived.{long, layered}
use Rattle.sml_read.specs.declared.grammar.PatternRule.{PatternRule}
use Rattle.sml_read.specs.declared.grammar.PatternRule.TheVariants.{PatOpenRound, PatAlphanumeric, PatSymbolic, PatStar, BarePatAlphanumeric, BarePatSymbolic, BarePatStar, PatOp, BarePatOp, PatOtherAtPat, BarePatOtherAtPat, OpPatVid, OpPatQualified, AfterVidNone, AfterVidAs, AfterVidColon, AfterVidAtPat, AfterVidTyNone, AfterVidTyAs, AfterVidTyColon, AtPatMoreNone, AtPatMoreAtPat, AtPatMoreColon, AtPatOpenRound, AtPatAlphanumeric, AtPatSymbolic, AtPatStar, BareAtPatAlphanumeric, BareAtPatSymbolic, BareAtPatStar, AtPatOp, BareAtPatOp, OtherAtPatWildcard, OtherAtPatConstant, OtherAtPatQualified, OtherAtPatOpenCurly, OtherAtPatOpenSquare, PatRoundCloseRound, PatRoundPat, PatRoundMoreCloseRound, PatRoundMoreComma, PatListCloseSquare, PatListPat, PatListMoreCloseSquare, PatListMoreComma, PatRowCloseCurly, RowDots, RowNumeral, RowVid, RowRestEquals, RowRestTyped, RowAsNone, RowAsAs, RowMoreNone, RowMoreComma, PatRowRow}
use Rattle.sml_pat_sequences.specs.PatternSequences as Q
use Rattle.sml_pat_sequences.specs.RoundPatterns.{round_pat}
use Rattle.sml_bare_pats.specs.PatternPhrases.{pat_fields_in, atoms_in, colons_in}
use Rattle.sml_bare_pats.specs.PatternRules.{list_pat, from_vid, op_from_vid, after_op, after_colon, field_pat, pattern_phrase}
use Rattle.sml_tree_laws.proofs.Phrases.{every_get_or, every_set, every_drop}
use Rattle.std.specs.Prelude.{drop, if◌then◌else◌}

abbrev EachPat : List (Pat Place) → Type 0
EachPat qs = Every (λ q. PatBound q) qs

pats_listed : (qs : Pats Place) → PatsBound qs → EachPat (Q.list_of_pats qs)
pats_listed no_pat h = tt
pats_listed (and_pat q qs) h = (h.0, pats_listed qs h.1)

applied_bound : (f q : Pat Place) → PatBound f → PatBound q → PatBound (Q.applied f q)
applied_bound (pat_name p c) q h k = k
applied_bound (wildcard p) q h k = (h, (k, tt))
applied_bound (pat_constant p c) q h k = (h, (k, tt))
applied_bound (pat_row p fs b) q h k = (h, (k, tt))
applied_bound (pat_tuple p qs) q h k = (h, (k, tt))
applied_bound (pat_bracket p r) q h k = (h, (k, tt))
applied_bound (pat_apply p x r) q h k = (h, (k, tt))
applied_bound (pat_typed p r t) q h k = (h, (k, tt))
applied_bound (pat_as p x t r) q h k = (h, (k, tt))

record PatsBuilt (b : Q.Building) : Type 0 where
  pub atoms_bound : EachPat b.atoms
  pub stack_bound : EachPat b.stack

step_bound : (s : Step) (b : Q.Building) → PatsBuilt b → PatsBuilt (Q.step s b)
step_bound (Push i) b h = record {
  atoms_bound = every_set (λ q. PatBound q) b.atoms i Q.no_operand h.atoms_bound tt;
  stack_bound = (every_get_or (λ q. PatBound q) b.atoms i Q.no_operand h.atoms_bound tt, h.stack_bound);
}
step_bound Apply b h = record {
  atoms_bound = h.atoms_bound;
  stack_bound = (
    applied_bound (Q.operand 1 b) (Q.operand 0 b)
        (every_get_or (λ q. PatBound q) b.stack 1 Q.no_operand h.stack_bound tt) (every_get_or (λ q. PatBound q) b.stack 0 Q.no_operand h.stack_bound tt),
    every_drop (λ q. PatBound q) 2 b.stack h.stack_bound,
  );
}
step_bound (Combine i) b h = record {
  atoms_bound = every_set (λ q. PatBound q) b.atoms i Q.no_operand h.atoms_bound tt;
  stack_bound = (
    (every_get_or (λ q. PatBound q) b.stack 1 Q.no_operand h.stack_bound tt, (every_get_or (λ q. PatBound q) b.stack 0 Q.no_operand h.stack_bound tt, tt)),
    every_drop (λ q. PatBound q) 2 b.stack h.stack_bound,
  );
}

pats_joined : (q : Pat Place) (qs : List (Pat Place)) → PatBound q → EachPat qs → PatBound (Q.joined q qs)
pats_joined q [] h k = h
pats_joined q (r ∷ rs) h k = pats_joined (Q.paired r q) rs (k.0, (h, tt)) k.1

steps_bound : (ss : List Step) (b : Q.Building) → PatsBuilt b → PatBound (Q.pat_of_steps ss b)
steps_bound [] b h =
    pats_joined (Q.operand 0 b) (drop 1 b.stack)
    (every_get_or (λ q. PatBound q) b.stack 0 Q.no_operand h.stack_bound tt) (every_drop (λ q. PatBound q) 1 b.stack h.stack_bound)
steps_bound (s ∷ ss) b h = steps_bound ss (Q.step s b) (step_bound s b h)

pat_typed_by : (p : Place) (q : Pat Place) (ts : Tys Place) → PatBound q → TysBound ts → PatBound (Q.typed_by p q ts)
pat_typed_by p q no_ty h k = h
pat_typed_by p q (and_ty t ts) h k = pat_typed_by p (pat_typed p q t) ts (h, k.0) k.1

pat_shaped : (s : Option Shape) (qs : Pats Place) → PatsBound qs → PatBound (Q.shaped s qs)
pat_shaped None qs h = tt
pat_shaped (Some (tree steps)) qs h = steps_bound steps (record { atoms = Q.list_of_pats qs; stack = [] }) (record { atoms_bound = pats_listed qs h; stack_bound = tt })
pat_shaped (Some (headed how)) qs h = tt

sequence_bound : (s : Option Shape) (qs : Pats Place) (ts : Tys Place) → PatsBound qs → TysBound ts → PatBound (Q.sequence_pat s qs ts)
sequence_bound s qs ts h k = pat_typed_by (Q.pat_place (Q.shaped s qs)) (Q.shaped s qs) ts (pat_shaped s qs h) k

pub round_sequence_bound : (s : Option Shape) (q : Pat Place) (qs : Pats Place) (ts : Tys Place) → PatBound q → PatsBound qs → TysBound ts → PatBound (Q.round_sequence s q qs ts)
round_sequence_bound s q qs ts h k l = go (Q.begins s)
  where
    go : (b : Bool) → PatBound (if b then Q.sequence_pat s (and_pat q qs) ts else q)
    go true = sequence_bound s (and_pat q qs) ts (h, k) l
    go false = h

pub round_pat_bound : (p : Place) (qs : Pats Place) → PatsBound qs → PatBound (round_pat p qs)
round_pat_bound p no_pat h = tt
round_pat_bound p (and_pat q no_pat) h = h.0
round_pat_bound p (and_pat q (and_pat r qs)) h = h

list_pat_bound : (p : Place) (qs : Pats Place) → PatsBound qs → PatBound (list_pat p qs)
list_pat_bound p no_pat h = tt
list_pat_bound p (and_pat q qs) h = (h.0, (list_pat_bound p qs h.1, tt))

layered_bound : (x : Name Place) (t : Option (Ty Place)) (q : Option (Pat Place)) → TyBoundIfAny t → PatBoundIfAny q → PatBound (layered x t q)
layered_bound x None None h k = tt
layered_bound x (Some t) None h k = (tt, h)
layered_bound x None (Some q) h k = (h, k)
layered_bound x (Some t) (Some q) h k = (h, k)

module _ (B : Space → ℕ → ℕ → Id → Type 0) (apart : (sp : Space) (g t u : ℕ) (x : Id) → t < u → B sp g t x → B sp g u x → ⊥) where
  pub atoms_bound : (c : Class) (g lo hi : ℕ) (v : Phrase) → PhraseBound B c g lo hi v → PatsBound (atoms_in v)
  atoms_bound c g lo hi (of_atoms qs ts) h = h.0
  atoms_bound c g lo hi _ h = tt

  pub colons_bound : (c : Class) (g lo hi : ℕ) (v : Phrase) → PhraseBound B c g lo hi v → TysBound (colons_in v)
  colons_bound c g lo hi (of_atoms qs ts) h = h.1
  colons_bound c g lo hi _ h = tt

  pat_fields_bound : (c : Class) (g lo hi : ℕ) (v : Phrase) → PhraseBound B c g lo hi v → Named B S.Labels g lo hi (pat_labels (pat_fields_in v)) × PatFieldsBound (pat_fields_in v)
  pat_fields_bound c g lo hi (of_pat_fields fs b) h = h
  pat_fields_bound c g lo hi _ h = (tt, tt)

  from_vid_bound : (g lo hi : ℕ) (s : Option Shape) (p : Place) (x : Name Place) (v : Phrase) → PhraseBound B plain g lo hi v → PatBound (from_vid s p x v)
  from_vid_bound g lo hi s p x (of_layer t q) h = layered_bound x t q h.0 h.1
  from_vid_bound g lo hi s p x v h = sequence_bound s (and_pat (pat_name p (long x)) (atoms_in v)) (colons_in v) (tt, atoms_bound plain g lo hi v h) (colons_bound plain g lo hi v h)

  op_from_vid_bound : (g lo hi lo' hi' : ℕ) (x : Name Place) (v : Phrase) → PhraseBound B plain g lo hi v → PhraseBound B plain g lo' hi' (op_from_vid x v)
  op_from_vid_bound g lo hi lo' hi' x (of_layer t q) h = h
  op_from_vid_bound g lo hi lo' hi' x v h = (atoms_bound plain g lo hi v h, colons_bound plain g lo hi v h)

  after_op_bound : (g lo hi : ℕ) (s : Option Shape) (p : Place) (v : Phrase) → PhraseBound B plain g lo hi v → PatBound (after_op s p v)
  after_op_bound g lo hi s p (of_op_layer x t (Some q)) h = h
  after_op_bound g lo hi s p (of_op_layer x t None) h = tt
  after_op_bound g lo hi s p (of_op_atoms c qs ts) h = sequence_bound s (and_pat (pat_name p c) qs) ts (tt, h.0) h.1
  after_op_bound g lo hi s p _ h = tt

  after_colon_bound : (g lo hi lo' hi' : ℕ) (t : Ty Place) (v : Phrase) → TyBound t → PhraseBound B plain g lo hi v → PhraseBound B plain g lo' hi' (after_colon t v)
  after_colon_bound g lo hi lo' hi' t (of_layer u q) h k = (h, k.1)
  after_colon_bound g lo hi lo' hi' t v h k = (tt, (h, tys_bound B plain g lo hi v k))

  field_pat_bound : (g lo hi : ℕ) (x : Name Place) (v : Phrase) → PhraseBound B plain g lo hi v → PatBound (field_pat x v)
  field_pat_bound g lo hi x (of_pat q) h = h
  field_pat_bound g lo hi x (of_layer t q) h = layered_bound x t q h.0 h.1
  field_pat_bound g lo hi x _ h = tt

  module _ (g : ℕ) (t : ℕ → ℕ) (mono : (k : ℕ) → t k ≤ t (suc k)) where
    pub pattern_bound : (rule : PatternRule) (p : Place) (s : Option Shape) (vs : List Phrase) → PartsBound B g t (G.Patterns rule) vs
        → PhraseBound B (class_of (Of (part_of (G.Patterns rule)))) g (t 0) (t (length (right_side (G.Patterns rule)))) (pattern_phrase rule p s vs)
    pattern_bound PatOpenRound p s vs h =
        round_sequence_bound s (round_pat p (pats_in (at vs 1))) (atoms_in (at vs 2)) (colons_in (at vs 2))
        (round_pat_bound p (pats_in (at vs 1)) (pats_bound B plain g (t 1) (t 2) (at vs 1) (h 1 refl).0))
        (atoms_bound plain g (t 2) (t 3) (at vs 2) (h 2 refl).0) (colons_bound plain g (t 2) (t 3) (at vs 2) (h 2 refl).0)
    pattern_bound PatAlphanumeric p s vs h = from_vid_bound g (t 1) (t 2) s p (name_in (at vs 0)) (at vs 1) (h 1 refl).0
    pattern_bound PatSymbolic p s vs h = from_vid_bound g (t 1) (t 2) s p (name_in (at vs 0)) (at vs 1) (h 1 refl).0
    pattern_bound PatStar p s vs h = from_vid_bound g (t 1) (t 2) s p (name_in (at vs 0)) (at vs 1) (h 1 refl).0
    pattern_bound BarePatAlphanumeric p s vs h = from_vid_bound g (t 1) (t 2) s p (name_in (at vs 0)) (at vs 1) (h 1 refl).0
    pattern_bound BarePatSymbolic p s vs h = from_vid_bound g (t 1) (t 2) s p (name_in (at vs 0)) (at vs 1) (h 1 refl).0
    pattern_bound BarePatStar p s vs h = from_vid_bound g (t 1) (t 2) s p (name_in (at vs 0)) (at vs 1) (h 1 refl).0
    pattern_bound PatOp p s vs h = after_op_bound g (t 1) (t 2) s p (at vs 1) (h 1 refl).0
    pattern_bound BarePatOp p s vs h = after_op_bound g (t 1) (t 2) s p (at vs 1) (h 1 refl).0
    pattern_bound PatOtherAtPat p s vs h =
        sequence_bound s (and_pat (pat_in (at vs 0)) (atoms_in (at vs 1))) (colons_in (at vs 1))
        ((pat_bound B plain g (t 0) (t 1) (at vs 0) (h 0 refl).0), (atoms_bound plain g (t 1) (t 2) (at vs 1) (h 1 refl).0))
        (colons_bound plain g (t 1) (t 2) (at vs 1) (h 1 refl).0)
    pattern_bound BarePatOtherAtPat p s vs h =
        sequence_bound s (and_pat (pat_in (at vs 0)) (atoms_in (at vs 1))) (colons_in (at vs 1))
        ((pat_bound B plain g (t 0) (t 1) (at vs 0) (h 0 refl).0), (atoms_bound plain g (t 1) (t 2) (at vs 1) (h 1 refl).0))
        (colons_bound plain g (t 1) (t 2) (at vs 1) (h 1 refl).0)
    pattern_bound OpPatVid p s vs h = op_from_vid_bound g (t 1) (t 2) (t 0) (t 2) (name_in (at vs 0)) (at vs 1) (h 1 refl).0
    pattern_bound OpPatQualified p s vs h = ((atoms_bound plain g (t 1) (t 2) (at vs 1) (h 1 refl).0), (colons_bound plain g (t 1) (t 2) (at vs 1) (h 1 refl).0))
    pattern_bound AfterVidNone p s vs h = (tt, tt)
    pattern_bound AfterVidAs p s vs h = (tt, (pat_bound B plain g (t 1) (t 2) (at vs 1) (h 1 refl).0))
    pattern_bound AfterVidColon p s vs h = after_colon_bound g (t 2) (t 3) (t 0) (t 3) (ty_in (at vs 1)) (at vs 2) (ty_bound B plain g (t 1) (t 2) (at vs 1) (h 1 refl).0) (h 2 refl).0
    pattern_bound AfterVidAtPat p s vs h = (
      ((pat_bound B plain g (t 0) (t 1) (at vs 0) (h 0 refl).0), (atoms_bound plain g (t 1) (t 2) (at vs 1) (h 1 refl).0)),
      (colons_bound plain g (t 1) (t 2) (at vs 1) (h 1 refl).0),
    )
    pattern_bound AfterVidTyNone p s vs h = tt
    pattern_bound AfterVidTyAs p s vs h = (tt, (pat_bound B plain g (t 1) (t 2) (at vs 1) (h 1 refl).0))
    pattern_bound AfterVidTyColon p s vs h = ((ty_bound B plain g (t 1) (t 2) (at vs 1) (h 1 refl).0), (tys_bound B plain g (t 2) (t 3) (at vs 2) (h 2 refl).0))
    pattern_bound AtPatMoreNone p s vs h = (tt, tt)
    pattern_bound AtPatMoreAtPat p s vs h = (
      ((pat_bound B plain g (t 0) (t 1) (at vs 0) (h 0 refl).0), (atoms_bound plain g (t 1) (t 2) (at vs 1) (h 1 refl).0)),
      (colons_bound plain g (t 1) (t 2) (at vs 1) (h 1 refl).0),
    )
    pattern_bound AtPatMoreColon p s vs h = (tt, ((ty_bound B plain g (t 1) (t 2) (at vs 1) (h 1 refl).0), (tys_bound B plain g (t 2) (t 3) (at vs 2) (h 2 refl).0)))
    pattern_bound AtPatOpenRound p s vs h = round_pat_bound p (pats_in (at vs 1)) (pats_bound B plain g (t 1) (t 2) (at vs 1) (h 1 refl).0)
    pattern_bound AtPatAlphanumeric p s vs h = tt
    pattern_bound AtPatSymbolic p s vs h = tt
    pattern_bound AtPatStar p s vs h = tt
    pattern_bound BareAtPatAlphanumeric p s vs h = tt
    pattern_bound BareAtPatSymbolic p s vs h = tt
    pattern_bound BareAtPatStar p s vs h = tt
    pattern_bound AtPatOp p s vs h = tt
    pattern_bound BareAtPatOp p s vs h = tt
    pattern_bound OtherAtPatWildcard p s vs h = tt
    pattern_bound OtherAtPatQualified p s vs h = tt
    pattern_bound OtherAtPatConstant p s vs h = (h 0 refl).1
    pattern_bound OtherAtPatOpenCurly p s vs h = (
      distinct B apart S.Labels g (t 1) (t 2) (pat_labels (pat_fields_in (at vs 1))) (pat_fields_bound plain g (t 1) (t 2) (at vs 1) (h 1 refl).0).0,
      (pat_fields_bound plain g (t 1) (t 2) (at vs 1) (h 1 refl).0).1,
    )
    pattern_bound OtherAtPatOpenSquare p s vs h = list_pat_bound p (pats_in (at vs 1)) (pats_bound B plain g (t 1) (t 2) (at vs 1) (h 1 refl).0)
    pattern_bound PatRoundCloseRound p s vs h = tt
    pattern_bound PatRoundMoreCloseRound p s vs h = tt
    pattern_bound PatListCloseSquare p s vs h = tt
    pattern_bound PatListMoreCloseSquare p s vs h = tt
    pattern_bound PatRowCloseCurly p s vs h = (tt, tt)
    pattern_bound RowDots p s vs h = (tt, tt)
    pattern_bound RowMoreNone p s vs h = (tt, tt)
    pattern_bound PatRoundPat p s vs h = ((pat_bound B plain g (t 0) (t 1) (at vs 0) (h 0 refl).0), (pats_bound B plain g (t 1) (t 2) (at vs 1) (h 1 refl).0))
    pattern_bound PatListPat p s vs h = ((pat_bound B plain g (t 0) (t 1) (at vs 0) (h 0 refl).0), (pats_bound B plain g (t 1) (t 2) (at vs 1) (h 1 refl).0))
    pattern_bound PatRoundMoreComma p s vs h = ((pat_bound B plain g (t 1) (t 2) (at vs 1) (h 1 refl).0), (pats_bound B plain g (t 2) (t 3) (at vs 2) (h 2 refl).0))
    pattern_bound PatListMoreComma p s vs h = ((pat_bound B plain g (t 1) (t 2) (at vs 1) (h 1 refl).0), (pats_bound B plain g (t 2) (t 3) (at vs 2) (h 2 refl).0))
    pattern_bound RowNumeral p s vs h = (
      two B g t mono S.Labels 0 3 4 ((name_in (at vs 0)).id ∷ []) (pat_labels (pat_fields_in (at vs 3))) (omega arith)
          (omega arith) (h 0 refl).1 (pat_fields_bound plain g (t 3) (t 4) (at vs 3) (h 3 refl).0).0,
      ((pat_bound B plain g (t 2) (t 3) (at vs 2) (h 2 refl).0), (pat_fields_bound plain g (t 3) (t 4) (at vs 3) (h 3 refl).0).1),
    )
    pattern_bound RowVid p s vs h = (
      two B g t mono S.Labels 0 2 3 ((name_in (at vs 0)).id ∷ []) (pat_labels (pat_fields_in (at vs 2))) (omega arith)
          (omega arith) (h 0 refl).1 (pat_fields_bound plain g (t 2) (t 3) (at vs 2) (h 2 refl).0).0,
      (field_pat_bound g (t 1) (t 2) (name_in (at vs 0)) (at vs 1) (h 1 refl).0, (pat_fields_bound plain g (t 2) (t 3) (at vs 2) (h 2 refl).0).1),
    )
    pattern_bound RowRestEquals p s vs h = (pat_bound B plain g (t 1) (t 2) (at vs 1) (h 1 refl).0)
    pattern_bound RowRestTyped p s vs h = ((ty_bound_if_any B plain g (t 0) (t 1) (at vs 0) (h 0 refl).0), (pat_bound_if_any B plain g (t 1) (t 2) (at vs 1) (h 1 refl).0))
    pattern_bound RowAsNone p s vs h = tt
    pattern_bound RowAsAs p s vs h = (pat_bound B plain g (t 1) (t 2) (at vs 1) (h 1 refl).0)
    pattern_bound RowMoreComma p s vs h = (pass B g t mono 1 2 (at vs 1) (omega arith) (h 1 refl).0)
    pattern_bound PatRowRow p s vs h = (pass B g t mono 0 2 (at vs 0) (omega arith) (h 0 refl).0)
    pattern_bound _ p s vs h = (pass B g t mono 0 1 (at vs 0) (omega arith) (h 0 refl).0)
