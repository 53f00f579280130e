-- What stands after `rec`, as a phrase that is part of a pattern, in its context: what it may be where the context binds.
use Rattle.std.specs.Prelude.{◌≡◌, ℕ, suc, ◌+◌, ◌-◌, ◌≤◌, ◌<◌, nat_lt, length, get_or, List, [], Bool, true, false, Option, Some, None, if◌then◌else◌}
use Rattle.std.proofs.Common.{refl, subst, sym, inl, inr, arith}
use Rattle.sml_lex.specs.declared.fault.Place.{Place}
use Rattle.sml_lex.specs.declared.token.Kind.TheVariants as K
use Rattle.sml_tree.specs.Trees.{Id}
use Rattle.sml_tree.specs.Names.{Name}
use Rattle.sml_tree.specs.Types.{Ty, Tys}
use Rattle.sml_tree.specs.Patterns.{Pat, Pats, pat_name, no_pat, and_pat}
use Rattle.sml_fixity.specs.Shapes.{Shape}
use Rattle.sml_derived.specs.Derived.{count, long, layered}
use Rattle.sml_read.specs.Grammar.{right_side}
use Rattle.sml_read.specs.Parts.{part_of}
use Rattle.sml_read.specs.declared.grammar.Part.TheVariants as Part
use Rattle.sml_read.specs.declared.grammar.Symbol.{Symbol}
use Rattle.sml_read.specs.declared.grammar.Symbol.TheVariants.{Word, Of}
use Rattle.sml_read.specs.declared.grammar.Rule.{Rule}
use Rattle.sml_read.specs.declared.grammar.Rule.TheVariants as G
use Rattle.sml_read.specs.declared.grammar.NameRule.{NameRule}
use Rattle.sml_read.specs.declared.grammar.NameRule.TheVariants as N
use Rattle.sml_read.specs.declared.grammar.PatternRule.{PatternRule}
use Rattle.sml_read.specs.declared.grammar.PatternRule.TheVariants.{PatOpenRound, PatAlphanumeric, PatSymbolic, PatStar, BarePatAlphanumeric, BarePatSymbolic, BarePatStar, PatOp, BarePatOp, PatOtherAtPat, BarePatOtherAtPat, OpPatVid, OpPatQualified, AfterVidNone, AfterVidAs, AfterVidColon, AfterVidAtPat, AfterVidTyNone, AfterVidTyAs, AfterVidTyColon, AtPatMoreNone, AtPatMoreAtPat, AtPatMoreColon, AtPatOpenRound, AtPatAlphanumeric, AtPatSymbolic, AtPatStar, BareAtPatAlphanumeric, BareAtPatSymbolic, BareAtPatStar, AtPatOp, BareAtPatOp, AtPatOtherAtPat, BareAtPatOtherAtPat, OtherAtPatWildcard, OtherAtPatConstant, OtherAtPatQualified, OtherAtPatOpenCurly, OtherAtPatOpenSquare, PatRoundCloseRound, PatRoundPat, PatRoundMoreCloseRound, PatRoundMoreComma, PatListCloseSquare, PatListPat, PatListMoreCloseSquare, PatListMoreComma, PatRowCloseCurly, PatRowRow, RowDots, RowNumeral, RowVid, RowRestEquals, RowRestTyped, RowAsNone, RowAsAs, RowMoreNone, RowMoreComma}
use Rattle.sml_phrases.specs.Phrases.{Phrase, of_pat, of_atoms, of_layer, of_op_atoms, of_op_layer, at, name_in, long_in, pat_in, pats_in, pat_if_any, ty_in}
use Rattle.sml_pat_sequences.specs.PatternSequences as P
use Rattle.sml_pat_sequences.specs.RoundPatterns.{round_pat}
use Rattle.sml_bare_pats.specs.NameRules.{name_phrase}
use Rattle.sml_bare_pats.specs.PatternPhrases.{pat_fields_in, atoms_in, colons_in}
use Rattle.sml_bare_pats.specs.PatternRules.{list_pat, from_vid, op_from_vid, after_op, after_colon, field_pat, pattern_phrase}
use Rattle.sml_bare_decs.specs.DeclarationRules.{values_in}
use Rattle.sml_flaws.specs.declared.role.Word.TheVariants as W
use Rattle.sml_flaws.specs.declared.role.Role.TheVariants as Q
use Rattle.sml_flaws.specs.declared.role.Entry.TheVariants as O
use Rattle.sml_flaws.specs.declared.mark.Context.{Context}
use Rattle.sml_flaws.specs.Roles.{roles_of, entry_of}
use Rattle.sml_flaws.specs.Marks.{entered, next, in_role}
use Rattle.sml_flaws.specs.Flaws.{is_reserved}
use Rattle.sml_tree_laws.specs.Recursive.{RecPat, RecPats, RecPatFields, RecBinds}
use Rattle.sml_tree_laws.proofs.RecSequences.{AtomRec, rec_atom}
use Rattle.sml_tree_laws.proofs.SequenceTokens.{is_quiet}

-- a symbol that takes up a token
abbrev pub starts : Symbol → Bool
starts (Word k) = true
starts (Of p) = is_quiet p

abbrev pub RecIfAny : Option (Pat Place) → Type 0
RecIfAny None = Unit {0}
RecIfAny (Some q) = RecPat q

-- the pattern of a layer
abbrev pub LayerRec : Option (Pat Place) → Type 0
LayerRec None = ⊥
LayerRec (Some q) = RecPat q

-- an identifier before `as` and a pattern, with or without `op`
abbrev pub is_layer : Phrase → Bool
is_layer (of_layer t q) = true
is_layer (of_op_layer x t q) = true
is_layer _ = false

-- used: whether a sequence uses its atomic phrase with an index
module _ (used : ℕ → ℕ → Bool) (text : ℕ → Id) where
  abbrev pub AtomsFrom : ℕ → ℕ → Pats Place → Type 0
  AtomsFrom n i no_pat = Unit {0}
  AtomsFrom n i (and_pat q qs) = AtomRec (used n) i q × AtomsFrom n (next i) qs

  abbrev pub Unused : Context → Id → Type 0
  Unused c x = c.binds ≡ true → used c.sequence c.index ≡ false → is_reserved x ≡ false

  abbrev pub NameRec : Context → Id → Type 0
  NameRec c x = c.word ≡ W.Atom → Unused c x

  abbrev pub AtomsIn : Context → ℕ → ℕ → Pats Place → Type 0
  AtomsIn c lo hi qs = (c.binds ≡ true → AtomsFrom c.sequence c.index qs) × (lo + count qs ≤ hi)

  abbrev pub AfterRec : Context → ℕ → ℕ → Phrase → Type 0
  AfterRec c lo hi (of_layer t q) = c.binds ≡ true → LayerRec q
  AfterRec c lo hi (of_atoms qs ts) = AtomsIn c lo hi qs
  AfterRec c lo hi _ = ⊥

  abbrev pub AfterTyRec : Context → Phrase → Type 0
  AfterTyRec c (of_layer t q) = c.binds ≡ true → LayerRec q
  AfterTyRec c _ = Unit {0}

  abbrev pub OpRec : Context → ℕ → ℕ → Phrase → Type 0
  OpRec c lo hi (of_op_layer x t q) = Unused c x.id × (c.binds ≡ true → LayerRec q)
  OpRec c lo hi (of_op_atoms x qs ts) = (x.id.path ≡ [] → Unused c x.id.last) × (c.binds ≡ true → AtomsFrom c.sequence (next c.index) qs) × (lo + count qs ≤ hi)
  OpRec c lo hi _ = ⊥

  abbrev pub RestRec : Context → ℕ → Phrase → Type 0
  RestRec c lo (of_pat q) = c.binds ≡ true → RecPat q
  RestRec c lo (of_layer t q) = c.binds ≡ true → (is_reserved (text (lo - 1)) ≡ false) × RecIfAny q
  RestRec c lo _ = ⊥

  -- an identifier is one token
  abbrev pub VidRec : Context → ℕ → ℕ → Phrase → Type 0
  VidRec c lo hi v = (hi ≡ suc lo) × (text lo ≡ (name_in v).id) × NameRec c (name_in v).id

  abbrev pub PatRec : Symbol → Context → ℕ → ℕ → Phrase → Type 0
  PatRec (Word K.Alphanumeric) c lo hi v = VidRec c lo hi v
  PatRec (Word K.Symbolic) c lo hi v = VidRec c lo hi v
  PatRec (Word K.Star) c lo hi v = VidRec c lo hi v
  PatRec (Word K.LongAlphanumeric) c lo hi v = (long_in v).id.path ≡ [] → ⊥
  PatRec (Word K.LongSymbolic) c lo hi v = (long_in v).id.path ≡ [] → ⊥
  PatRec (Word K.LongStar) c lo hi v = (long_in v).id.path ≡ [] → ⊥
  PatRec (Of Part.Vid) c lo hi v = VidRec c lo hi v
  PatRec (Of Part.Qualified) c lo hi v = (long_in v).id.path ≡ [] → ⊥
  PatRec (Of Part.LongVid) c lo hi v = c.word ≡ W.Atom → (long_in v).id.path ≡ [] → Unused c (long_in v).id.last
  PatRec (Of Part.AtPat) c lo hi v = c.binds ≡ true → AtomRec (used c.sequence) c.index (pat_in v)
  PatRec (Of Part.BareAtPat) c lo hi v = c.binds ≡ true → AtomRec (used c.sequence) c.index (pat_in v)
  PatRec (Of Part.OtherAtPat) c lo hi v = c.binds ≡ true → AtomRec (used c.sequence) c.index (pat_in v)
  PatRec (Of Part.Pat) c lo hi v = c.binds ≡ true → RecPat (pat_in v)
  PatRec (Of Part.BarePat) c lo hi v = c.binds ≡ true → RecPat (pat_in v)
  PatRec (Of Part.PatRound) c lo hi v = c.binds ≡ true → RecPats (pats_in v)
  PatRec (Of Part.PatRoundMore) c lo hi v = c.binds ≡ true → RecPats (pats_in v)
  PatRec (Of Part.PatList) c lo hi v = c.binds ≡ true → RecPats (pats_in v)
  PatRec (Of Part.PatListMore) c lo hi v = c.binds ≡ true → RecPats (pats_in v)
  PatRec (Of Part.PatRow) c lo hi v = c.binds ≡ true → RecPatFields (pat_fields_in v)
  PatRec (Of Part.Row) c lo hi v = c.binds ≡ true → RecPatFields (pat_fields_in v)
  PatRec (Of Part.RowMore) c lo hi v = c.binds ≡ true → RecPatFields (pat_fields_in v)
  PatRec (Of Part.RowRest) c lo hi v = RestRec c lo v
  PatRec (Of Part.RowAs) c lo hi v = c.binds ≡ true → RecIfAny (pat_if_any v)
  PatRec (Of Part.AfterVid) c lo hi v = AfterRec c lo hi v
  PatRec (Of Part.AfterVidTy) c lo hi v = AfterTyRec c v
  PatRec (Of Part.AtPatMore) c lo hi v = AtomsIn c lo hi (atoms_in v)
  PatRec (Of Part.OpPat) c lo hi v = OpRec c lo hi v
  PatRec (Of Part.ValBind) c lo hi v = c.binds ≡ true → RecBinds (values_in v).plain
  PatRec (Of Part.ValMore) c lo hi v = c.binds ≡ true → RecBinds (values_in v).plain
  PatRec _ c lo hi v = Unit {0}

  -- an identifier before `as` isn't used in a sequence that begins at its token, or at `op`
  abbrev pub Free : ℕ → PatternRule → List Phrase → Type 0
  Free a PatAlphanumeric vs = is_layer (at vs 1) ≡ true → used a 0 ≡ false
  Free a PatSymbolic vs = is_layer (at vs 1) ≡ true → used a 0 ≡ false
  Free a PatStar vs = is_layer (at vs 1) ≡ true → used a 0 ≡ false
  Free a BarePatAlphanumeric vs = is_layer (at vs 1) ≡ true → used a 0 ≡ false
  Free a BarePatSymbolic vs = is_layer (at vs 1) ≡ true → used a 0 ≡ false
  Free a BarePatStar vs = is_layer (at vs 1) ≡ true → used a 0 ≡ false
  Free a PatOp vs = is_layer (at vs 1) ≡ true → used a 0 ≡ false
  Free a BarePatOp vs = is_layer (at vs 1) ≡ true → used a 0 ≡ false
  Free a _ vs = Unit {0}

  -- what holds of the parts of a phrase, from one token to the next, in the context inside the phrase
  abbrev pub PartsPat : Context → (ℕ → ℕ) → Rule → List Phrase → Type 0
  PartsPat c t rule vs = (k : ℕ) → nat_lt k (length (right_side rule)) ≡ true
      → PatRec (get_or (right_side rule) k (Word K.Comma)) (in_role (get_or (roles_of rule) k Q.Same) c) (t k) (t (suc k)) (at vs k)
      × (starts (get_or (right_side rule) k (Word K.Comma)) ≡ true → t k < t (suc k))

  abbrev PatMade : Rule → Context → (ℕ → ℕ) → Phrase → Type 0
  PatMade rule c t v = PatRec (Of (part_of rule)) c (t 0) (t (length (right_side rule))) v

  pub name_pat : (rule : NameRule) (i a : ℕ) (c : Context) (t : ℕ → ℕ) (p : Place) (vs : List Phrase) → PartsPat (entered (entry_of (G.Names rule)) i a c) t (G.Names rule) vs → PatMade (G.Names rule) c t (name_phrase rule p vs)
  name_pat N.VidAlphanumeric i a c t p vs h = (h 0 refl).0
  name_pat N.VidSymbolic i a c t p vs h = (h 0 refl).0
  name_pat N.VidStar i a c t p vs h = (h 0 refl).0
  name_pat N.LongVidAlphanumeric i a c t p vs h = λ w e. (h 0 refl).0.2 w
  name_pat N.LongVidSymbolic i a c t p vs h = λ w e. (h 0 refl).0.2 w
  name_pat N.LongVidStar i a c t p vs h = λ w e. (h 0 refl).0.2 w
  name_pat N.LongVidQualified i a c t p vs h = λ w e. absurd ((h 0 refl).0 e)
  name_pat N.QualifiedLongAlphanumeric i a c t p vs h = (h 0 refl).0
  name_pat N.QualifiedLongSymbolic i a c t p vs h = (h 0 refl).0
  name_pat N.QualifiedLongStar i a c t p vs h = (h 0 refl).0
  name_pat _ i a c t p vs h = tt

  round_rec : (p : Place) (qs : Pats Place) → RecPats qs → RecPat (round_pat p qs)
  round_rec p no_pat h = tt
  round_rec p (and_pat q no_pat) h = h.0
  round_rec p (and_pat q (and_pat r qs)) h = h

  list_rec : (p : Place) (qs : Pats Place) → RecPats qs → RecPat (list_pat p qs)
  list_rec p no_pat h = λ e. inr refl
  list_rec p (and_pat q qs) h = (h.0, (list_rec p qs h.1, tt))

  layered_rec : (x : Name Place) (t : Option (Ty Place)) (q : Option (Pat Place)) → is_reserved x.id ≡ false → RecIfAny q → RecPat (layered x t q)
  layered_rec x None None h k = λ e. inl h
  layered_rec x (Some t) None h k = λ e. inl h
  layered_rec x None (Some q) h k = (h, k)
  layered_rec x (Some t) (Some q) h k = (h, k)

  layer_rec : (x : Name Place) (t : Option (Ty Place)) (q : Option (Pat Place)) → is_reserved x.id ≡ false → LayerRec q → RecPat (layered x t q)
  layer_rec x t None h k = absurd k
  layer_rec x None (Some q) h k = (h, k)
  layer_rec x (Some t) (Some q) h k = (h, k)

  op_from_vid_rec : (c : Context) (lo mid hi : ℕ) (x : Name Place) (v : Phrase) → lo ≤ mid → Unused c x.id → AfterRec (in_role Q.Next c) mid hi v → OpRec c lo hi (op_from_vid x v)
  op_from_vid_rec c lo mid hi x (of_layer t q) l u h = (u, h)
  op_from_vid_rec c lo mid hi x (of_atoms qs ts) l u h = let few = h.1 in ((λ e. u), h.0, omega (arith, l, few))
  op_from_vid_rec c lo mid hi x _ l u h = absurd h

  after_colon_rec : (c : Context) (lo hi : ℕ) (t : Ty Place) (v : Phrase) → lo ≤ hi → AfterTyRec c v → AfterRec c lo hi (after_colon t v)
  after_colon_rec c lo hi t (of_layer u q) l h = h
  after_colon_rec c lo hi t _ l h = ((λ b. tt), omega (arith, l))

  field_rec : (c : Context) (lo : ℕ) (x : Name Place) (v : Phrase) → text (lo - 1) ≡ x.id → c.binds ≡ true → RestRec c lo v → RecPat (field_pat x v)
  field_rec c lo x (of_pat q) e b h = h b
  field_rec c lo x (of_layer t q) e b h = let k = h b in layered_rec x t q (subst (λ i. is_reserved i ≡ false) e k.0) k.1
  field_rec c lo x _ e b h = absurd h

  -- A pattern's rule, of a phrase that begins at the token a; s is what the sequence stands for that begins there.
  module _ (rule : PatternRule) (i a : ℕ) (c : Context) (t : ℕ → ℕ) (s : Option Shape) (begun : t 0 ≡ a) (few : t (length (right_side (G.Patterns rule))) ≤ a + 1048576)
      (mono : (k : ℕ) → t k ≤ t (suc k))
      (sequence : (qs : Pats Place) (ts : Tys Place) → count qs ≤ 1048577 → AtomsFrom a 0 qs → RecPat (P.sequence_pat s qs ts))
      (pun : c.binds ≡ true → rule ≡ RowRestTyped → is_reserved (text (a - 1)) ≡ false) where
    begun_rec : (q : Pat Place) (qs : Pats Place) (ts : Tys Place) → count qs ≤ 1048576 → RecPat q → AtomsFrom a (next 0) qs → RecPat (P.round_sequence s q qs ts)
    begun_rec q qs ts l h k = go (P.begins s)
      where
        go : (b : Bool) → RecPat (if b then P.sequence_pat s (and_pat q qs) ts else q)
        go true = sequence (and_pat q qs) ts (omega (arith, l)) (rec_atom (used a) 0 q h, k)
        go false = h

    from_vid_rec : (d : Context) (lo hi : ℕ) (p : Place) (x : Name Place) (v : Phrase) → d.binds ≡ true → d.sequence ≡ a → d.index ≡ next 0 → a ≤ lo → hi ≤ a + 1048576
        → (used a 0 ≡ false → is_reserved x.id ≡ false) → (is_layer v ≡ true → used a 0 ≡ false) → AfterRec d lo hi v → RecPat (from_vid s p x v)
    from_vid_rec d lo hi p x (of_layer u q) b n e l r h w k = layer_rec x u q (h (w refl)) (k b)
    from_vid_rec d lo hi p x (of_atoms qs ts) b n e l r h w k =
        let len = k.1 in
        sequence (and_pat (pat_name p (long x)) qs) ts (omega (arith, l, r, len)) ((λ u f. inl (h u)), subst (λ m. AtomsFrom m (next 0) qs) n (subst (λ j. AtomsFrom d.sequence j qs) e (k.0 b)))
    from_vid_rec d lo hi p x _ b n e l r h w k = absurd k

    after_op_rec : (d : Context) (lo hi : ℕ) (p : Place) (v : Phrase) → d.binds ≡ true → d.sequence ≡ a → d.index ≡ 0 → a ≤ lo → hi ≤ a + 1048576 → (is_layer v ≡ true → used a 0 ≡ false) → OpRec d lo hi v → RecPat (after_op s p v)
    after_op_rec d lo hi p (of_op_layer x u None) b n e l r w k = absurd (k.1 b)
    after_op_rec d lo hi p (of_op_layer x u (Some q)) b n e l r w k =
        (k.0 b (subst (λ m. used m d.index ≡ false) (sym n) (subst (λ j. used a j ≡ false) (sym e) (w refl))), k.1 b)
    after_op_rec d lo hi p (of_op_atoms x qs ts) b n e l r w k =
        let len = k.2 in
        sequence (and_pat (pat_name p x) qs) ts (omega (arith, l, r, len)) (
          (λ u f. inl (k.0 f b (subst (λ m. used m d.index ≡ false) (sym n) (subst (λ j. used a j ≡ false) (sym e) u)))),
          subst (λ m. AtomsFrom m (next 0) qs) n (subst (λ j. AtomsFrom d.sequence (next j) qs) e (k.1 b)),
        )
    after_op_rec d lo hi p _ b n e l r w k = absurd k

    abbrev Sides : PatternRule → List Phrase → Type 0
    Sides r vs = PartsPat (entered (entry_of (G.Patterns r)) i a c) t (G.Patterns r) vs

    abbrev Few : PatternRule → Type 0
    Few r = t (length (right_side (G.Patterns r))) ≤ a + 1048576

    two_on : t 0 ≤ t 2
    two_on = let m = mono 0 in let n = mono 1 in omega (arith, m, n)

    by_rule : (r : PatternRule) (p : Place) (vs : List Phrase) → rule ≡ r → Few r → Free a r vs → Sides r vs → PatMade (G.Patterns r) c t (pattern_phrase r p s vs)
    by_rule PatOpenRound p vs same l w h = λ b.
        let k = h 2 refl in
        let len = k.0.1 in
        let n = two_on in
        begun_rec (round_pat p (pats_in (at vs 1))) (atoms_in (at vs 2)) (colons_in (at vs 2)) (omega (arith, len, l, n, begun)) (round_rec p (pats_in (at vs 1)) ((h 1 refl).0 b)) (k.0.0 b)
    by_rule PatAlphanumeric p vs same l w h = λ b. let m = mono 0 in from_vid_rec (in_role Q.Next (entered O.Sequence i a c)) (t 1) (t 2) p (name_in (at vs 0)) (at vs 1) b refl refl (omega (arith, m, begun)) l ((h 0 refl).0.2 refl b) w (h 1 refl).0
    by_rule PatSymbolic p vs same l w h = λ b. let m = mono 0 in from_vid_rec (in_role Q.Next (entered O.Sequence i a c)) (t 1) (t 2) p (name_in (at vs 0)) (at vs 1) b refl refl (omega (arith, m, begun)) l ((h 0 refl).0.2 refl b) w (h 1 refl).0
    by_rule PatStar p vs same l w h = λ b. let m = mono 0 in from_vid_rec (in_role Q.Next (entered O.Sequence i a c)) (t 1) (t 2) p (name_in (at vs 0)) (at vs 1) b refl refl (omega (arith, m, begun)) l ((h 0 refl).0.2 refl b) w (h 1 refl).0
    by_rule BarePatAlphanumeric p vs same l w h = λ b. let m = mono 0 in from_vid_rec (in_role Q.Next (entered O.Sequence i a c)) (t 1) (t 2) p (name_in (at vs 0)) (at vs 1) b refl refl (omega (arith, m, begun)) l ((h 0 refl).0.2 refl b) w (h 1 refl).0
    by_rule BarePatSymbolic p vs same l w h = λ b. let m = mono 0 in from_vid_rec (in_role Q.Next (entered O.Sequence i a c)) (t 1) (t 2) p (name_in (at vs 0)) (at vs 1) b refl refl (omega (arith, m, begun)) l ((h 0 refl).0.2 refl b) w (h 1 refl).0
    by_rule BarePatStar p vs same l w h = λ b. let m = mono 0 in from_vid_rec (in_role Q.Next (entered O.Sequence i a c)) (t 1) (t 2) p (name_in (at vs 0)) (at vs 1) b refl refl (omega (arith, m, begun)) l ((h 0 refl).0.2 refl b) w (h 1 refl).0
    by_rule PatOp p vs same l w h = λ b. let m = mono 0 in after_op_rec (entered O.Sequence i a c) (t 1) (t 2) p (at vs 1) b refl refl (omega (arith, m, begun)) l w (h 1 refl).0
    by_rule BarePatOp p vs same l w h = λ b. let m = mono 0 in after_op_rec (entered O.Sequence i a c) (t 1) (t 2) p (at vs 1) b refl refl (omega (arith, m, begun)) l w (h 1 refl).0
    by_rule PatOtherAtPat p vs same l w h = λ b.
        let k = h 1 refl in
        let len = k.0.1 in
        let m = mono 0 in
        sequence (and_pat (pat_in (at vs 0)) (atoms_in (at vs 1))) (colons_in (at vs 1)) (omega (arith, len, l, m, begun)) ((h 0 refl).0 b, k.0.0 b)
    by_rule BarePatOtherAtPat p vs same l w h = λ b.
        let k = h 1 refl in
        let len = k.0.1 in
        let m = mono 0 in
        sequence (and_pat (pat_in (at vs 0)) (atoms_in (at vs 1))) (colons_in (at vs 1)) (omega (arith, len, l, m, begun)) ((h 0 refl).0 b, k.0.0 b)
    by_rule OpPatVid p vs same l w h = let m = mono 0 in op_from_vid_rec c (t 0) (t 1) (t 2) (name_in (at vs 0)) (at vs 1) m ((h 0 refl).0.2 refl) (h 1 refl).0
    by_rule OpPatQualified p vs same l w h = let k = (h 1 refl).0.1 in let m = mono 0 in ((λ e. absurd ((h 0 refl).0 e)), (h 1 refl).0.0, omega (arith, k, m))
    by_rule AfterVidNone p vs same l w h = ((λ b. tt), omega arith)
    by_rule AfterVidAs p vs same l w h = (h 1 refl).0
    by_rule AfterVidColon p vs same l w h = let m = mono 0 in let n = mono 1 in let o = mono 2 in after_colon_rec c (t 0) (t 3) (ty_in (at vs 1)) (at vs 2) (omega (arith, m, n, o)) (h 2 refl).0
    by_rule AfterVidAtPat p vs same l w h = let m = (h 0 refl).1 refl in let k = (h 1 refl).0.1 in ((λ b. ((h 0 refl).0 b, (h 1 refl).0.0 b)), omega (arith, m, k))
    by_rule AfterVidTyNone p vs same l w h = tt
    by_rule AfterVidTyAs p vs same l w h = (h 1 refl).0
    by_rule AfterVidTyColon p vs same l w h = tt
    by_rule AtPatMoreNone p vs same l w h = ((λ b. tt), omega arith)
    by_rule AtPatMoreAtPat p vs same l w h = let m = (h 0 refl).1 refl in let k = (h 1 refl).0.1 in ((λ b. ((h 0 refl).0 b, (h 1 refl).0.0 b)), omega (arith, m, k))
    by_rule AtPatMoreColon p vs same l w h = let m = mono 0 in let n = mono 1 in let o = mono 2 in ((λ b. tt), omega (arith, m, n, o))
    by_rule AtPatOpenRound p vs same l w h = λ b. rec_atom (used c.sequence) c.index (round_pat p (pats_in (at vs 1))) (round_rec p (pats_in (at vs 1)) ((h 1 refl).0 b))
    by_rule AtPatAlphanumeric p vs same l w h = λ b u e. inl ((h 0 refl).0.2 refl b u)
    by_rule AtPatSymbolic p vs same l w h = λ b u e. inl ((h 0 refl).0.2 refl b u)
    by_rule AtPatStar p vs same l w h = λ b u e. inl ((h 0 refl).0.2 refl b u)
    by_rule BareAtPatAlphanumeric p vs same l w h = λ b u e. inl ((h 0 refl).0.2 refl b u)
    by_rule BareAtPatSymbolic p vs same l w h = λ b u e. inl ((h 0 refl).0.2 refl b u)
    by_rule BareAtPatStar p vs same l w h = λ b u e. inl ((h 0 refl).0.2 refl b u)
    by_rule AtPatOp p vs same l w h = λ b u e. inl ((h 1 refl).0 refl e b u)
    by_rule BareAtPatOp p vs same l w h = λ b u e. inl ((h 1 refl).0 refl e b u)
    by_rule AtPatOtherAtPat p vs same l w h = (h 0 refl).0
    by_rule BareAtPatOtherAtPat p vs same l w h = (h 0 refl).0
    by_rule OtherAtPatWildcard p vs same l w h = λ b. tt
    by_rule OtherAtPatConstant p vs same l w h = λ b. tt
    by_rule OtherAtPatQualified p vs same l w h = λ b u e. absurd ((h 0 refl).0 e)
    by_rule OtherAtPatOpenCurly p vs same l w h = (h 1 refl).0
    by_rule OtherAtPatOpenSquare p vs same l w h = λ b. rec_atom (used c.sequence) c.index (list_pat p (pats_in (at vs 1))) (list_rec p (pats_in (at vs 1)) ((h 1 refl).0 b))
    by_rule PatRoundCloseRound p vs same l w h = λ b. tt
    by_rule PatRoundPat p vs same l w h = λ b. ((h 0 refl).0 b, (h 1 refl).0 b)
    by_rule PatRoundMoreCloseRound p vs same l w h = λ b. tt
    by_rule PatRoundMoreComma p vs same l w h = λ b. ((h 1 refl).0 b, (h 2 refl).0 b)
    by_rule PatListCloseSquare p vs same l w h = λ b. tt
    by_rule PatListPat p vs same l w h = λ b. ((h 0 refl).0 b, (h 1 refl).0 b)
    by_rule PatListMoreCloseSquare p vs same l w h = λ b. tt
    by_rule PatListMoreComma p vs same l w h = λ b. ((h 1 refl).0 b, (h 2 refl).0 b)
    by_rule PatRowCloseCurly p vs same l w h = λ b. tt
    by_rule PatRowRow p vs same l w h = (h 0 refl).0
    by_rule RowDots p vs same l w h = λ b. tt
    by_rule RowNumeral p vs same l w h = λ b. ((h 2 refl).0 b, (h 3 refl).0 b)
    by_rule RowVid p vs same l w h = λ b.
        let one = (h 0 refl).0.0 in (
          field_rec c (t 1) (name_in (at vs 0)) (at vs 1) (subst (λ m. text m ≡ (name_in (at vs 0)).id) (let e : t 0 ≡ t 1 - 1 = omega (arith, one) in e) (h 0 refl).0.1) b (h 1 refl).0,
          (h 2 refl).0 b,
        )
    by_rule RowRestEquals p vs same l w h = (h 1 refl).0
    by_rule RowRestTyped p vs same l w h = λ b. (subst (λ m. is_reserved (text (m - 1)) ≡ false) (sym begun) (pun b same), (h 1 refl).0 b)
    by_rule RowAsNone p vs same l w h = λ b. tt
    by_rule RowAsAs p vs same l w h = (h 1 refl).0
    by_rule RowMoreNone p vs same l w h = λ b. tt
    by_rule RowMoreComma p vs same l w h = (h 1 refl).0

    pub pattern_pat : (p : Place) (vs : List Phrase) → Free a rule vs → Sides rule vs → PatMade (G.Patterns rule) c t (pattern_phrase rule p s vs)
    pattern_pat p vs w h = by_rule rule p vs refl few w h
