-- What is found of the phrases of sequences and heads beside what they make and how their identifiers are marked.
use Rattle.std.proofs.Common.{◌≡◌, ℕ, zero, suc, ◌+◌, ◌<◌, ◌≤◌, List, [], ◌∷◌, Bool, true, false, Option, Some, None, length, get_or, take, drop, refl, sym, ◌∙◌, subst, inl, inr, ◌⊎◌, arith}
use Rattle.std.specs.Prelude.{nat_lt, if◌then◌else◌}
use Rattle.std.proofs.lemmas.Option.{same_Some}
use Rattle.std.proofs.lemmas.Bool.{false≢true}
use Rattle.sml_lex.specs.declared.fault.Place.{Place}
use Rattle.sml_lex.specs.declared.token.Kind.TheVariants as K
use Rattle.sml_tree.specs.Trees.{Id}
use Rattle.sml_tree.specs.Names.{Name}
use Rattle.sml_tree.specs.Types.{Ty, Tys}
use Rattle.sml_tree.specs.Patterns.{Pat, Pats, pat_name, no_pat, and_pat}
use Rattle.sml_objects.specs.Appearance.{Stands}
use Rattle.sml_derived.specs.Derived.{long as as_long}
use Rattle.sml_fixity.specs.ItemNames.{short, after_op, long, phrase}
use Rattle.sml_fixity.specs.ItemNames as I
use Rattle.sml_fixity.specs.Shapes.{Shape, tree}
use Rattle.sml_fixity.specs.declared.sequences.Step.{Step}
use Rattle.sml_read.specs.declared.grammar.Part.TheVariants as Part
use Rattle.sml_read.specs.declared.grammar.Symbol.{Symbol}
use Rattle.sml_read.specs.declared.grammar.Symbol.TheVariants.{Word, Of}
use Rattle.sml_read.specs.declared.grammar.Rule.{Rule}
use Rattle.sml_read.specs.declared.grammar.Rule.TheVariants as G
use Rattle.sml_read.specs.declared.grammar.NameRule.{NameRule}
use Rattle.sml_read.specs.declared.grammar.NameRule.TheVariants as N
use Rattle.sml_read.specs.declared.grammar.UnitRule.{UnitRule}
use Rattle.sml_read.specs.declared.grammar.UnitRule.TheVariants as U
use Rattle.sml_read.specs.declared.grammar.StructureRule.{StructureRule}
use Rattle.sml_read.specs.declared.grammar.StructureRule.TheVariants as S
use Rattle.sml_read.specs.declared.grammar.SignatureRule.{SignatureRule}
use Rattle.sml_read.specs.declared.grammar.SignatureRule.TheVariants as H
use Rattle.sml_read.specs.declared.grammar.SpecificationRule.{SpecificationRule}
use Rattle.sml_read.specs.declared.grammar.SpecificationRule.TheVariants as C
use Rattle.sml_read.specs.declared.grammar.ExpressionRule.{ExpressionRule}
use Rattle.sml_read.specs.declared.grammar.ExpressionRule.TheVariants as E
use Rattle.sml_read.specs.declared.grammar.TypeRule.{TypeRule}
use Rattle.sml_read.specs.declared.grammar.TypeRule.TheVariants as T
use Rattle.sml_read.specs.declared.grammar.DeclarationRule.{DeclarationRule}
use Rattle.sml_read.specs.declared.grammar.DeclarationRule.TheVariants as D
use Rattle.sml_read.specs.declared.grammar.PatternRule.{PatternRule}
use Rattle.sml_read.specs.declared.grammar.PatternRule.TheVariants as P
use Rattle.sml_read.specs.Grammar.{right_side}
use Rattle.sml_read.specs.Parts.{part_of}
use Rattle.sml_phrases.specs.Phrases.{Phrase, of_atoms, of_layer, of_op_atoms, of_op_layer, of_round_functions, at, name_in, long_in, pat_in, pats_in, ty_in}
use Rattle.sml_pat_sequences.specs.PatternSequences as Q
use Rattle.sml_pat_sequences.specs.RoundPatterns.{round_pat}
use Rattle.sml_bare_pats.specs.NameRules.{name_phrase}
use Rattle.sml_bare_pats.specs.PatternPhrases.{atoms_in as pats_of, colons_in}
use Rattle.sml_bare_pats.specs.PatternRules.{from_vid, op_from_vid, after_op as pat_after_op, after_colon, pattern_phrase}
use Rattle.sml_bare_decs.specs.FunctionRules.{right_side_in}
use Rattle.sml_bare_decs.specs.DeclarationRules.{declaration_phrase}
use Rattle.sml_reach.specs.Founds.{Atom, Found, nothing, word, one, several, within, directed, atom_in, atoms_in, typed_in, inner_in, with_op, atom, is_word, before, from, sequence_in, untyped, left}
use Rattle.sml_reach.specs.Senses.{deed_of}
use Rattle.sml_reach.specs.Events.{found_at}
use Rattle.sml_reach.specs.Fits.{Fit}
use Rattle.sml_reach.specs.Reach.{first_inner}
use Rattle.sml_flaws.specs.declared.role.Word.TheVariants as W
use Rattle.sml_flaws.specs.declared.role.Role.TheVariants as R
use Rattle.sml_flaws.specs.declared.role.Entry.TheVariants as O
use Rattle.sml_flaws.specs.declared.mark.Context.{Context}
use Rattle.sml_flaws.specs.declared.mark.Mark.{Mark}
use Rattle.sml_flaws.specs.Roles.{roles_of, entry_of}
use Rattle.sml_flaws.specs.Marks.{entered, in_role}
use Rattle.sml_flaws.specs.Flaws.{is_reserved}
use Rattle.sml_tree_laws.proofs.SequenceFits.{FitsPattern}
use Rattle.sml_tree_laws.proofs.RecPatterns.{is_layer}
use Rattle.sml_tree_laws.proofs.Layers.{before_none, colon_layer, op_layer}
use Rattle.sml_tree_laws.proofs.HeadNames.{is_named, InfixNames, NameOf, ApplyName, BracketName, OneName, First, name_more, apply_more, one_more, first_more, sequence_apply}
use Rattle.sml_tree_laws.proofs.ClauseNames.{identifier, Barred}

abbrev pub op_pats : Phrase → Pats Place
op_pats (of_op_atoms x qs ts) = qs
op_pats _ = no_pat

module _ (text : ℕ → Id) (fits : List Fit) (all : List Mark) where
  -- the name is that of an identifier of this context, marked at a token from lo on and before hi
  abbrev pub Marked : Context → ℕ → ℕ → Id → Type 0
  Marked c lo hi x = (t : ℕ) × (lo ≤ t) × (t < hi) × (t ≤ 1048576) × Stands (identifier c.sequence c.index t c.binds) all × (text t ≡ x)

  -- it may be bound, or is that of the second atomic pattern of a sequence
  abbrev pub Second : ℕ → ℕ → ℕ → Id → Type 0
  Second n lo hi x = (is_reserved x ≡ false) ⊎ ((t : ℕ) × (b : Bool) × (lo ≤ t) × (t < hi) × (t ≤ 1048576) × Stands (identifier n 1 t b) all × (text t ≡ x))

  abbrev pub AtomLink : Context → ℕ → ℕ → Phrase → Found → Type 0
  AtomLink c lo hi v f = (is_named (atom_in f).name ≡ true → NameOf (Marked c lo hi) (pat_in v)) × (InfixNames (atom_in f).inner → BracketName (Second (lo + 1) lo hi) (pat_in v))

  abbrev pub ClauseLink : Context → ℕ → Pats Place → List Atom → Type 0
  ClauseLink c lo qs atoms = (mid : ℕ) × (lo ≤ mid) × First (Marked c lo mid) qs atoms × Barred text fits all c.sequence mid

  abbrev pub RoundLink : Context → ℕ → Phrase → List Atom → Type 0
  RoundLink c lo (of_round_functions ps qs u e cs bs) atoms = (m : ℕ) × (InfixNames (first_inner atoms) → OneName (Second lo lo m) ps) × ClauseLink (in_role R.Next c) m qs (drop 1 atoms)
  RoundLink c lo _ atoms = Unit {0}

  abbrev pub LayerNone : Phrase → Found → Type 0
  LayerNone v f = is_layer v ≡ true → sequence_in f ≡ None

  abbrev pub Link : Symbol → Context → ℕ → ℕ → Phrase → Found → Type 0
  Link (Word K.Alphanumeric) c lo hi v f = (hi ≡ suc lo) × (c.word ≡ W.Atom → Marked c lo hi (name_in v).id)
  Link (Word K.Symbolic) c lo hi v f = (hi ≡ suc lo) × (c.word ≡ W.Atom → Marked c lo hi (name_in v).id)
  Link (Word K.Star) c lo hi v f = (hi ≡ suc lo) × (c.word ≡ W.Atom → Marked c lo hi (name_in v).id)
  Link (Word k) c lo hi v f = hi ≡ suc lo
  Link (Of Part.Vid) c lo hi v f = c.word ≡ W.Atom → Marked c lo hi (name_in v).id
  Link (Of Part.LongVid) c lo hi v f = c.word ≡ W.Atom → is_named (atom_in f).name ≡ true → Marked c lo hi (long_in v).id.last
  Link (Of Part.Qualified) c lo hi v f = (is_named (atom_in f).name ≡ false) × (InfixNames (atom_in f).inner → ⊥)
  Link (Of Part.AtPat) c lo hi v f = AtomLink c lo hi v f
  Link (Of Part.BareAtPat) c lo hi v f = AtomLink c lo hi v f
  Link (Of Part.OtherAtPat) c lo hi v f = AtomLink c lo hi v f
  Link (Of Part.AtPats) c lo hi v f = First (Marked c lo hi) (pats_in v) (atoms_in f) × Barred text fits all c.sequence hi
  Link (Of Part.AtPatMore) c lo hi v f = First (Marked c lo hi) (pats_of v) (atoms_in f)
  Link (Of Part.AfterVid) c lo hi v f = First (Marked c lo hi) (pats_of v) (atoms_in f) × LayerNone v f
  Link (Of Part.AfterVidTy) c lo hi v f = LayerNone v f
  Link (Of Part.OpPat) c lo hi v f = First (Marked (in_role R.Next c) lo hi) (op_pats v) (drop 1 (atoms_in f)) × LayerNone v f
  Link (Of Part.BarePat) c lo hi v f = InfixNames (inner_in f) → ApplyName (Second lo lo hi) (pat_in v)
  Link (Of Part.Pat) c lo hi v f = InfixNames (inner_in f) → ApplyName (Second lo lo hi) (pat_in v)
  Link (Of Part.PatRound) c lo hi v f = InfixNames (inner_in f) → OneName (Second lo lo hi) (pats_in v)
  Link (Of Part.Clause) c lo hi v f = ClauseLink c lo (right_side_in v).pats (atoms_in f)
  Link (Of Part.FunRound) c lo hi v f = RoundLink c lo v (atoms_in f)
  Link _ c lo hi v f = Unit {0}

  marked_wider : (c : Context) (lo hi lo' hi' : ℕ) → lo' ≤ lo → hi ≤ hi' → (x : Id) → Marked c lo hi x → Marked c lo' hi' x
  marked_wider c lo hi lo' hi' l r x h = let a = h.1 in let b = h.2 in (h.0, omega (arith, l, a), omega (arith, r, b), h.3, h.4, h.5)

  second_wider : (n n' lo hi lo' hi' : ℕ) → n ≡ n' → lo' ≤ lo → hi ≤ hi' → (x : Id) → Second n lo hi x → Second n' lo' hi' x
  second_wider n n' lo hi lo' hi' e l r x (inl h) = inl h
  second_wider n n' lo hi lo' hi' e l r x (inr h) = let a = h.2 in let b = h.3 in inr (h.0, h.1, omega (arith, l, a), omega (arith, r, b), h.4, subst (λ q. Stands (identifier q 1 h.0 h.1) all) e h.5, h.6)

  marked_second : (c : Context) (n lo hi lo' hi' : ℕ) → c.sequence ≡ n → c.index ≡ 1 → lo' ≤ lo → hi ≤ hi' → (x : Id) → Marked c lo hi x → Second n lo' hi' x
  marked_second c n lo hi lo' hi' e i l r x h =
      let a = h.1 in
      let b = h.2 in
      inr (h.0, c.binds, omega (arith, l, a), omega (arith, r, b), h.3, subst (λ q. Stands (identifier q 1 h.0 c.binds) all) e (subst (λ j. Stands (identifier c.sequence j h.0 c.binds) all) i h.4), h.5)

  -- what holds of the parts of a phrase
  abbrev pub PartsLink : Context → (ℕ → ℕ) → List Phrase → List Found → Rule → Type 0
  PartsLink c t vs fs rule = (k : ℕ) → nat_lt k (length (right_side rule)) ≡ true
      → Link (get_or (right_side rule) k (Word K.Comma)) (in_role (get_or (roles_of rule) k R.Same) c) (t k) (t (suc k)) (at vs k) (get_or (take (length (right_side rule)) fs) k nothing)

  -- sequences as patterns

  module _ (A : Id → Type 0) (nil : A []) (s : Option Shape) (q : Pat Place) (qs : Pats Place) (ts : Tys Place) where
    abbrev Own : Found → Type 0
    Own f = (steps : List Step) → s ≡ Some (tree steps) → (atoms : List Atom) × (sequence_in f ≡ Some atoms) × FitsPattern atoms (tree steps)

    known : (a : Atom) (atoms : List Atom) (typed : Bool) → Own (several (a ∷ atoms) typed) → (steps : List Step) → s ≡ Some (tree steps) → FitsPattern (a ∷ atoms) (tree steps)
    known a atoms typed own steps e = let o = own steps e in subst (λ z. FitsPattern z (tree steps)) (sym (same_Some _ _ o.1)) o.2

    more_apply : (a : Atom) (f : Found) → Own (several (a ∷ atoms_in f) (typed_in f)) → First A qs (atoms_in f) → InfixNames (untyped (several (a ∷ atoms_in f) (typed_in f))) → ApplyName A (Q.sequence_pat s (and_pat q qs) ts)
    more_apply a (several atoms false) own h i = sequence_apply A nil s q qs ts a atoms (known a atoms false own) i h
    more_apply a (several atoms true) own h i = absurd i
    more_apply a nothing own h i = absurd i
    more_apply a (word k) own h i = absurd i
    more_apply a (one b) own h i = absurd i
    more_apply a (within names) own h i = absurd i
    more_apply a (directed level atoms) own h i = absurd i

    before_apply : (a : Atom) (f : Found) → Own (before a f) → First A qs (atoms_in f) → InfixNames (untyped (before a f)) → ApplyName A (Q.sequence_pat s (and_pat q qs) ts)
    before_apply a (several atoms false) own h i = sequence_apply A nil s q qs ts a atoms (known a atoms false own) i h
    before_apply a (several atoms true) own h i = absurd i
    before_apply a nothing own h i = absurd i
    before_apply a (word k) own h i = absurd i
    before_apply a (one b) own h i = absurd i
    before_apply a (within names) own h i = absurd i
    before_apply a (directed level atoms) own h i = absurd i

    from_apply : (n : ℕ) (f : Found) → Own (from n f) → First A qs (drop 1 (atoms_in f)) → InfixNames (untyped (from n f)) → ApplyName A (Q.sequence_pat s (and_pat q qs) ts)
    from_apply n (several [] typed) own h i = absurd i
    from_apply n (several (a ∷ atoms) false) own h i = sequence_apply A nil s q qs ts (atom a.name n a.inner) atoms (known (atom a.name n a.inner) atoms false own) i h
    from_apply n (several (a ∷ atoms) true) own h i = absurd i
    from_apply n nothing own h i = absurd i
    from_apply n (word k) own h i = absurd i
    from_apply n (one b) own h i = absurd i
    from_apply n (within names) own h i = absurd i
    from_apply n (directed level atoms) own h i = absurd i

  layer_names : (a : Atom) (f : Found) → sequence_in f ≡ None → InfixNames (untyped (before a f)) → ⊥
  layer_names a (several atoms typed) e i = cc
  layer_names a nothing e i = i
  layer_names a (word k) e i = i
  layer_names a (one b) e i = i
  layer_names a (within names) e i = i
  layer_names a (directed level atoms) e i = i

  op_first : (A : Id → Type 0) (x : Name Place) (a : Atom) (v : Phrase) (f : Found) → First A (pats_of v) (atoms_in f) → First A (op_pats (op_from_vid x v)) (drop 1 (atoms_in (before a f)))
  op_first A x a v f h = by_phrase v h
    where
      none : (qs : Pats Place) → First A qs []
      none no_pat = tt
      none (and_pat q qs) = tt

      by_found : (f : Found) (qs : Pats Place) → First A qs (atoms_in f) → First A qs (drop 1 (atoms_in (before a f)))
      by_found (several atoms typed) qs h = h
      by_found nothing qs h = none qs
      by_found (word k) qs h = none qs
      by_found (one b) qs h = none qs
      by_found (within names) qs h = none qs
      by_found (directed level atoms) qs h = none qs

      by_phrase : (v : Phrase) → First A (pats_of v) (atoms_in f) → First A (op_pats (op_from_vid x v)) (drop 1 (atoms_in (before a f)))
      by_phrase (of_layer t q) h = tt
      by_phrase (of_atoms qs ts) h = by_found f qs h
      by_phrase _ h = tt

  colon_first : (A : Id → Type 0) (t : Ty Place) (v : Phrase) (atoms : List Atom) → First A (pats_of (after_colon t v)) atoms
  colon_first A t (of_layer u q) atoms = tt
  colon_first A t _ atoms = tt

  pub round_bracket : (A : Id → Type 0) (p : Place) (qs : Pats Place) → OneName A qs → BracketName A (round_pat p qs)
  round_bracket A p no_pat h = tt
  round_bracket A p (and_pat q no_pat) h = h
  round_bracket A p (and_pat q (and_pat r qs)) h = tt

  round_apply : (A : Id → Type 0) (p : Place) (qs : Pats Place) → ApplyName A (round_pat p qs)
  round_apply A p no_pat = tt
  round_apply A p (and_pat q no_pat) = tt
  round_apply A p (and_pat q (and_pat r qs)) = tt

  named_op : (x : I.Name) → is_named (with_op x) ≡ true → is_named x ≡ true
  named_op (short x) h = refl
  named_op after_op h = refl
  named_op long h = h
  named_op phrase h = h

  pub name_link : (rule : NameRule) (m : ℕ) (c : Context) (t : ℕ → ℕ) (p : Place) (vs : List Phrase) (fs : List Found) → PartsLink c t vs fs (G.Names rule)
      → Link (Of (part_of (G.Names rule))) c (t 0) (t (length (right_side (G.Names rule)))) (name_phrase rule p vs) (left (deed_of (G.Names rule)) (found_at text m (G.Names rule) fs))
  name_link N.VidAlphanumeric m c t p vs fs h = (h 0 refl).1
  name_link N.VidSymbolic m c t p vs fs h = (h 0 refl).1
  name_link N.VidStar m c t p vs fs h = (h 0 refl).1
  name_link N.LongVidAlphanumeric m c t p vs fs h = λ w q. (h 0 refl).1 w
  name_link N.LongVidSymbolic m c t p vs fs h = λ w q. (h 0 refl).1 w
  name_link N.LongVidStar m c t p vs fs h = λ w q. (h 0 refl).1 w
  name_link N.LongVidQualified m c t p vs fs h = λ w q. absurd (false≢true (sym (h 0 refl).0 ∙ q))
  name_link N.QualifiedLongAlphanumeric m c t p vs fs h = (refl, λ i. i)
  name_link N.QualifiedLongSymbolic m c t p vs fs h = (refl, λ i. i)
  name_link N.QualifiedLongStar m c t p vs fs h = (refl, λ i. i)
  name_link _ m c t p vs fs h = tt

  -- s is what the sequence stands for that begins with the phrase
  module _ (i a m : ℕ) (c : Context) (t : ℕ → ℕ) (s : Option Shape) (vs : List Phrase) (fs : List Found) (begun : t 0 ≡ a) (mono : (k : ℕ) → t k ≤ t (suc k)) where
    abbrev OwnAt : PatternRule → Type 0
    OwnAt r = (steps : List Step) → s ≡ Some (tree steps) → (atoms : List Atom) × (sequence_in (found_at text m (G.Patterns r) fs) ≡ Some atoms) × FitsPattern atoms (tree steps)

    -- the sequence is the phrase's own
    abbrev pub IsOwn : PatternRule → Type 0
    IsOwn P.PatOpenRound = OwnAt P.PatOpenRound
    IsOwn P.PatAlphanumeric = OwnAt P.PatAlphanumeric
    IsOwn P.PatSymbolic = OwnAt P.PatSymbolic
    IsOwn P.PatStar = OwnAt P.PatStar
    IsOwn P.BarePatAlphanumeric = OwnAt P.BarePatAlphanumeric
    IsOwn P.BarePatSymbolic = OwnAt P.BarePatSymbolic
    IsOwn P.BarePatStar = OwnAt P.BarePatStar
    IsOwn P.PatOp = OwnAt P.PatOp
    IsOwn P.BarePatOp = OwnAt P.BarePatOp
    IsOwn P.PatOtherAtPat = OwnAt P.PatOtherAtPat
    IsOwn P.BarePatOtherAtPat = OwnAt P.BarePatOtherAtPat
    IsOwn _ = Unit {0}

    d : Context
    d = entered O.Sequence i a c

    first_second : (lo hi hi' : ℕ) (qs : Pats Place) (atoms : List Atom) → t 0 ≤ lo → hi ≤ hi' → First (Marked (in_role R.Next (entered O.Sequence i a c)) lo hi) qs atoms → First (Second (t 0) (t 0) hi') qs atoms
    first_second lo hi hi' qs atoms l r h =
        first_more (Marked (in_role R.Next (entered O.Sequence i a c)) lo hi) (Second (t 0) (t 0) hi') (marked_second (in_role R.Next (entered O.Sequence i a c)) (t 0) lo hi (t 0) hi' (sym begun) (omega arith) l r) qs atoms h

    up : (k : ℕ) → t 0 ≤ t k
    up zero = omega arith
    up (suc k) = let h = up k in let m = mono k in omega (arith, h, m)

    vid_apply : (p : Place) (x : Name Place) (v : Phrase) (f : Found) → ((steps : List Step) → s ≡ Some (tree steps) → (atoms : List Atom) × (sequence_in (before (atom (short (text m)) m []) f) ≡ Some atoms) × FitsPattern atoms (tree steps))
        → First (Second (t 0) (t 0) (t 2)) (pats_of v) (atoms_in f) → LayerNone v f → InfixNames (untyped (before (atom (short (text m)) m []) f)) → ApplyName (Second (t 0) (t 0) (t 2)) (from_vid s p x v)
    vid_apply p x (of_layer u q) f own h none i = absurd (layer_names (atom (short (text m)) m []) f (none refl) i)
    vid_apply p x v f own h none i = before_apply (Second (t 0) (t 0) (t 2)) (inl refl) s (pat_name p (as_long x)) (pats_of v) (colons_in v) (atom (short (text m)) m []) f own h i

    op_apply : (p : Place) (v : Phrase) (f : Found) → ((steps : List Step) → s ≡ Some (tree steps) → (atoms : List Atom) × (sequence_in (from m f) ≡ Some atoms) × FitsPattern atoms (tree steps))
        → First (Second (t 0) (t 0) (t 2)) (op_pats v) (drop 1 (atoms_in f)) → InfixNames (untyped (from m f)) → ApplyName (Second (t 0) (t 0) (t 2)) (pat_after_op s p v)
    op_apply p (of_op_layer x u (Some q)) f own h i = tt
    op_apply p (of_op_layer x u None) f own h i = tt
    op_apply p (of_op_atoms x qs ts) f own h i = from_apply (Second (t 0) (t 0) (t 2)) (inl refl) s (pat_name p x) qs ts m f own h i
    op_apply p _ f own h i = tt

    open_apply : (q : Pat Place) (qs : Pats Place) (ts : Tys Place) (b : Atom) (f : Found) → ApplyName (Second (t 0) (t 0) (t 3)) q
        → ((steps : List Step) → s ≡ Some (tree steps) → (atoms : List Atom) × (sequence_in (several (b ∷ atoms_in f) (typed_in f)) ≡ Some atoms) × FitsPattern atoms (tree steps)) → First (Second (t 0) (t 0) (t 3)) qs (atoms_in f)
        → InfixNames (untyped (several (b ∷ atoms_in f) (typed_in f))) → ApplyName (Second (t 0) (t 0) (t 3)) (Q.round_sequence s q qs ts)
    open_apply q qs ts b f alone own h i = go (Q.begins s)
      where
        go : (z : Bool) → ApplyName (Second (t 0) (t 0) (t 3)) (if z then Q.sequence_pat s (and_pat q qs) ts else q)
        go true = more_apply (Second (t 0) (t 0) (t 3)) (inl refl) s q qs ts b f own h i
        go false = alone

    round_one : (q : Pat Place) (qs : Pats Place) (A B : Id → Type 0) → ((x : Id) → A x → B x) → ApplyName A q → OneName B (and_pat q qs)
    round_one q no_pat A B f h = apply_more A B f q h
    round_one q (and_pat r qs) A B f h = tt

    word_names : (f g : Found) → InfixNames (inner_in (if is_word g then within (inner_in f) else nothing)) → InfixNames (inner_in f)
    word_names f g i = go (is_word g) i
      where
        go : (b : Bool) → InfixNames (inner_in (if b then within (inner_in f) else nothing)) → InfixNames (inner_in f)
        go true i = i
        go false i = absurd i

    abbrev Made : PatternRule → Place → Type 0
    Made r p = Link (Of (part_of (G.Patterns r))) c (t 0) (t (length (right_side (G.Patterns r)))) (pattern_phrase r p s vs) (left (deed_of (G.Patterns r)) (found_at text m (G.Patterns r) fs))

    pub pattern_link : (r : PatternRule) (p : Place) → IsOwn r → PartsLink (entered (entry_of (G.Patterns r)) i a c) t vs fs (G.Patterns r) → Made r p
    pattern_link P.PatOpenRound p own h =
        let l = up 2 in
        open_apply (round_pat p (pats_in (at vs 1))) (pats_of (at vs 2)) (colons_in (at vs 2)) (atom phrase m (inner_in (get_or (take 3 fs) 1 nothing))) (get_or (take 3 fs) 2 nothing) (round_apply (Second (t 0) (t 0) (t 3)) p (pats_in (at vs 1))) own
        (first_second (t 2) (t 3) (t 3) (pats_of (at vs 2)) (atoms_in (get_or (take 3 fs) 2 nothing)) l (omega arith) (h 2 refl))
    pattern_link P.PatAlphanumeric p own h =
        let l = up 1 in
        vid_apply p (name_in (at vs 0)) (at vs 1) (get_or (take 2 fs) 1 nothing) own (first_second (t 1) (t 2) (t 2) (pats_of (at vs 1)) (atoms_in (get_or (take 2 fs) 1 nothing)) l (omega arith) (h 1 refl).0) (h 1 refl).1
    pattern_link P.PatSymbolic p own h =
        let l = up 1 in
        vid_apply p (name_in (at vs 0)) (at vs 1) (get_or (take 2 fs) 1 nothing) own (first_second (t 1) (t 2) (t 2) (pats_of (at vs 1)) (atoms_in (get_or (take 2 fs) 1 nothing)) l (omega arith) (h 1 refl).0) (h 1 refl).1
    pattern_link P.PatStar p own h =
        let l = up 1 in
        vid_apply p (name_in (at vs 0)) (at vs 1) (get_or (take 2 fs) 1 nothing) own (first_second (t 1) (t 2) (t 2) (pats_of (at vs 1)) (atoms_in (get_or (take 2 fs) 1 nothing)) l (omega arith) (h 1 refl).0) (h 1 refl).1
    pattern_link P.BarePatAlphanumeric p own h =
        let l = up 1 in
        vid_apply p (name_in (at vs 0)) (at vs 1) (get_or (take 2 fs) 1 nothing) own (first_second (t 1) (t 2) (t 2) (pats_of (at vs 1)) (atoms_in (get_or (take 2 fs) 1 nothing)) l (omega arith) (h 1 refl).0) (h 1 refl).1
    pattern_link P.BarePatSymbolic p own h =
        let l = up 1 in
        vid_apply p (name_in (at vs 0)) (at vs 1) (get_or (take 2 fs) 1 nothing) own (first_second (t 1) (t 2) (t 2) (pats_of (at vs 1)) (atoms_in (get_or (take 2 fs) 1 nothing)) l (omega arith) (h 1 refl).0) (h 1 refl).1
    pattern_link P.BarePatStar p own h =
        let l = up 1 in
        vid_apply p (name_in (at vs 0)) (at vs 1) (get_or (take 2 fs) 1 nothing) own (first_second (t 1) (t 2) (t 2) (pats_of (at vs 1)) (atoms_in (get_or (take 2 fs) 1 nothing)) l (omega arith) (h 1 refl).0) (h 1 refl).1
    pattern_link P.PatOp p own h =
        let l = up 1 in op_apply p (at vs 1) (get_or (take 2 fs) 1 nothing) own (first_second (t 1) (t 2) (t 2) (op_pats (at vs 1)) (drop 1 (atoms_in (get_or (take 2 fs) 1 nothing))) l (omega arith) (h 1 refl).0)
    pattern_link P.BarePatOp p own h =
        let l = up 1 in op_apply p (at vs 1) (get_or (take 2 fs) 1 nothing) own (first_second (t 1) (t 2) (t 2) (op_pats (at vs 1)) (drop 1 (atoms_in (get_or (take 2 fs) 1 nothing))) l (omega arith) (h 1 refl).0)
    pattern_link P.PatOtherAtPat p own h =
        let l = up 1 in
        more_apply (Second (t 0) (t 0) (t 2)) (inl refl) s (pat_in (at vs 0)) (pats_of (at vs 1)) (colons_in (at vs 1)) (atom_in (get_or (take 2 fs) 0 nothing)) (get_or (take 2 fs) 1 nothing) own
        (first_second (t 1) (t 2) (t 2) (pats_of (at vs 1)) (atoms_in (get_or (take 2 fs) 1 nothing)) l (omega arith) (h 1 refl))
    pattern_link P.BarePatOtherAtPat p own h =
        let l = up 1 in
        more_apply (Second (t 0) (t 0) (t 2)) (inl refl) s (pat_in (at vs 0)) (pats_of (at vs 1)) (colons_in (at vs 1)) (atom_in (get_or (take 2 fs) 0 nothing)) (get_or (take 2 fs) 1 nothing) own
        (first_second (t 1) (t 2) (t 2) (pats_of (at vs 1)) (atoms_in (get_or (take 2 fs) 1 nothing)) l (omega arith) (h 1 refl))
    pattern_link P.OpPatVid p own h =
        let l = mono 0 in (
          op_first (Marked (in_role R.Next c) (t 0) (t 2)) (name_in (at vs 0)) (atom after_op m []) (at vs 1) (get_or (take 2 fs) 1 nothing)
              (first_more (Marked (in_role R.Next c) (t 1) (t 2)) (Marked (in_role R.Next c) (t 0) (t 2)) (marked_wider (in_role R.Next c) (t 1) (t 2) (t 0) (t 2) l (omega arith)) (pats_of (at vs 1)) (atoms_in (get_or (take 2 fs) 1 nothing)) (h 1 refl).0),
          (λ e. before_none (atom after_op m []) (get_or (take 2 fs) 1 nothing) ((h 1 refl).1 (op_layer (name_in (at vs 0)) (at vs 1) e))),
        )
    pattern_link P.OpPatQualified p own h =
        let l = mono 0 in (
          first_more (Marked (in_role R.Next c) (t 1) (t 2)) (Marked (in_role R.Next c) (t 0) (t 2)) (marked_wider (in_role R.Next c) (t 1) (t 2) (t 0) (t 2) l (omega arith)) (pats_of (at vs 1)) (atoms_in (get_or (take 2 fs) 1 nothing)) (h 1 refl),
          (λ e. absurd (false≢true e)),
        )
    pattern_link P.AfterVidNone p own h = (tt, (λ e. absurd (false≢true e)))
    pattern_link P.AfterVidAs p own h = (tt, (λ e. refl))
    pattern_link P.AfterVidColon p own h = (colon_first (Marked c (t 0) (t 3)) (ty_in (at vs 1)) (at vs 2) (atoms_in (get_or (take 3 fs) 2 nothing)), (λ e. h 2 refl (colon_layer (ty_in (at vs 1)) (at vs 2) e)))
    pattern_link P.AfterVidAtPat p own h =
        let r = mono 1 in ((λ q. name_more (Marked c (t 0) (t 1)) (Marked c (t 0) (t 2)) (marked_wider c (t 0) (t 1) (t 0) (t 2) (omega arith) r) (pat_in (at vs 0)) ((h 0 refl).0 q)), (λ e. absurd (false≢true e)))
    pattern_link P.AfterVidTyNone p own h = λ e. absurd (false≢true e)
    pattern_link P.AfterVidTyAs p own h = λ e. refl
    pattern_link P.AfterVidTyColon p own h = λ e. absurd (false≢true e)
    pattern_link P.AtPatMoreNone p own h = tt
    pattern_link P.AtPatMoreAtPat p own h = let r = mono 1 in λ q. name_more (Marked c (t 0) (t 1)) (Marked c (t 0) (t 2)) (marked_wider c (t 0) (t 1) (t 0) (t 2) (omega arith) r) (pat_in (at vs 0)) ((h 0 refl).0 q)
    pattern_link P.AtPatMoreColon p own h = tt
    pattern_link P.AtPatOpenRound p own h =
        let l = mono 0 in
        let w = h 0 refl in (
          (λ q. absurd (false≢true q)),
          (λ i. round_bracket (Second (t 0 + 1) (t 0) (t 2)) p (pats_in (at vs 1))
              (one_more (Second (t 1) (t 1) (t 2)) (Second (t 0 + 1) (t 0) (t 2)) (second_wider (t 1) (t 0 + 1) (t 1) (t 2) (t 0) (t 2) (omega (arith, w)) l (omega arith)) (pats_in (at vs 1)) (h 1 refl i))),
        )
    pattern_link P.AtPatAlphanumeric p own h = ((λ q. (h 0 refl).1 refl), (λ i. absurd i))
    pattern_link P.AtPatSymbolic p own h = ((λ q. (h 0 refl).1 refl), (λ i. absurd i))
    pattern_link P.AtPatStar p own h = ((λ q. (h 0 refl).1 refl), (λ i. absurd i))
    pattern_link P.BareAtPatAlphanumeric p own h = ((λ q. (h 0 refl).1 refl), (λ i. absurd i))
    pattern_link P.BareAtPatSymbolic p own h = ((λ q. (h 0 refl).1 refl), (λ i. absurd i))
    pattern_link P.BareAtPatStar p own h = ((λ q. (h 0 refl).1 refl), (λ i. absurd i))
    pattern_link P.AtPatOp p own h =
        let l = mono 0 in ((λ q. marked_wider c (t 1) (t 2) (t 0) (t 2) l (omega arith) _ (h 1 refl refl (named_op (atom_in (get_or (take 2 fs) 1 nothing)).name q))), (λ i. absurd i))
    pattern_link P.BareAtPatOp p own h =
        let l = mono 0 in ((λ q. marked_wider c (t 1) (t 2) (t 0) (t 2) l (omega arith) _ (h 1 refl refl (named_op (atom_in (get_or (take 2 fs) 1 nothing)).name q))), (λ i. absurd i))
    pattern_link P.AtPatOtherAtPat p own h = h 0 refl
    pattern_link P.BareAtPatOtherAtPat p own h = h 0 refl
    pattern_link P.OtherAtPatWildcard p own h = ((λ q. absurd (false≢true q)), (λ i. absurd i))
    pattern_link P.OtherAtPatConstant p own h = ((λ q. absurd (false≢true q)), (λ i. absurd i))
    pattern_link P.OtherAtPatQualified p own h = ((λ q. absurd (false≢true (sym (h 0 refl).0 ∙ q))), (λ i. absurd ((h 0 refl).1 i)))
    pattern_link P.OtherAtPatOpenCurly p own h = ((λ q. absurd (false≢true q)), (λ i. absurd i))
    pattern_link P.OtherAtPatOpenSquare p own h = ((λ q. absurd (false≢true q)), (λ i. absurd i))
    pattern_link P.PatRoundCloseRound p own h = λ i. absurd i
    pattern_link P.PatRoundPat p own h =
        let r = mono 1 in
        λ i. round_one (pat_in (at vs 0)) (pats_in (at vs 1)) (Second (t 0) (t 0) (t 1)) (Second (t 0) (t 0) (t 2)) (second_wider (t 0) (t 0) (t 0) (t 1) (t 0) (t 2) refl (omega arith) r) (h 0 refl (word_names (get_or (take 2 fs) 0 nothing) (get_or (take 2 fs) 1 nothing) i))
    pattern_link _ p own h = tt

    pub declaration_link : (r : DeclarationRule) (p : Place) → (r ≡ D.AtPatsNone → Barred text fits all c.sequence (t 0)) → PartsLink (entered (entry_of (G.Declarations r)) i a c) t vs fs (G.Declarations r)
        → Link (Of (part_of (G.Declarations r))) c (t 0) (t (length (right_side (G.Declarations r)))) (declaration_phrase r p s vs) (left (deed_of (G.Declarations r)) (found_at text m (G.Declarations r) fs))
    declaration_link D.AtPatsNone p bars h = (tt, bars refl)
    declaration_link D.AtPatsAtPat p bars h =
        let r = mono 1 in ((λ q. name_more (Marked c (t 0) (t 1)) (Marked c (t 0) (t 2)) (marked_wider c (t 0) (t 1) (t 0) (t 2) (omega arith) r) (pat_in (at vs 0)) ((h 0 refl).0 q)), (h 1 refl).1)
    declaration_link D.ClauseAtPats p bars h = (t 1, mono 0, (h 0 refl).0, (h 0 refl).1)
    declaration_link D.FunRoundPatRound p bars h = (t 1, h 0 refl, h 1 refl)
    declaration_link D.FunRoundTypeVariable p bars h = tt
    declaration_link _ p bars h = tt

  -- of other phrases nothing

  pub unit_link : (rule : UnitRule) (c : Context) (lo hi : ℕ) (v : Phrase) (f : Found) → Link (Of (part_of (G.Units rule))) c lo hi v f
  unit_link U.StartTop c lo hi v f = tt
  unit_link _ c lo hi v f = tt

  pub structure_link : (rule : StructureRule) (c : Context) (lo hi : ℕ) (v : Phrase) (f : Found) → Link (Of (part_of (G.Structures rule))) c lo hi v f
  structure_link S.SealNone c lo hi v f = tt
  structure_link _ c lo hi v f = tt

  pub signature_link : (rule : SignatureRule) (c : Context) (lo hi : ℕ) (v : Phrase) (f : Found) → Link (Of (part_of (G.Signatures rule))) c lo hi v f
  signature_link H.SigMoreNone c lo hi v f = tt
  signature_link _ c lo hi v f = tt

  pub specification_link : (rule : SpecificationRule) (c : Context) (lo hi : ℕ) (v : Phrase) (f : Found) → Link (Of (part_of (G.Specifications rule))) c lo hi v f
  specification_link C.OfTyNone c lo hi v f = tt
  specification_link _ c lo hi v f = tt

  pub expression_link : (rule : ExpressionRule) (c : Context) (lo hi : ℕ) (v : Phrase) (f : Found) → Link (Of (part_of (G.Expressions rule))) c lo hi v f
  expression_link E.OpenWhile c lo hi v f = tt
  expression_link _ c lo hi v f = tt

  pub type_link : (rule : TypeRule) (c : Context) (lo hi : ℕ) (v : Phrase) (f : Found) → Link (Of (part_of (G.Types rule))) c lo hi v f
  type_link T.TyTup c lo hi v f = tt
  type_link _ c lo hi v f = tt
