-- The name of a function, as its first clause's head gives it, may be bound.
use Rattle.std.proofs.Common.{◌≡◌, ℕ, suc, ◌+◌, ◌≤◌, List, [], ◌∷◌, Bool, true, false, Option, Some, None, get_or, take, refl, sym, ◌∙◌, subst, inl, inr, arith}
use Rattle.std.specs.Prelude.{◌==◌, if◌then◌else◌}
use Rattle.std.proofs.lemmas.Option.{same_Some}
use Rattle.std.proofs.lemmas.Bool.{eqb-true}
use Rattle.sml_lex.specs.declared.fault.Place.{Place}
use Rattle.sml_tree.specs.Trees.{Id}
use Rattle.sml_tree.specs.Patterns.{Pat, Pats, no_pat, and_pat}
use Rattle.sml_objects.specs.Appearance.{Stands}
use Rattle.sml_rules.specs.Every.{Every}
use Rattle.sml_fixity.specs.declared.heads.Head.{Head}
use Rattle.sml_fixity.specs.declared.heads.Head.TheVariants as K
use Rattle.sml_fixity.specs.Shapes.{Shape, tree, headed}
use Rattle.sml_read.specs.declared.grammar.Rule.TheVariants as G
use Rattle.sml_read.specs.declared.grammar.DeclarationRule.{DeclarationRule}
use Rattle.sml_read.specs.declared.grammar.DeclarationRule.TheVariants as D
use Rattle.sml_phrases.specs.Phrases.{Phrase, of_round_functions, at, pat_in}
use Rattle.sml_pat_sequences.specs.RoundPatterns.{round_pat}
use Rattle.sml_bare_decs.specs.FunctionRules.{heading, right_side_in}
use Rattle.sml_reach.specs.Founds.{Atom, Found, nothing, word, one, several, within, directed, atom, atom_in, atoms_in, from, sequence_in}
use Rattle.sml_reach.specs.Events.{found_at}
use Rattle.sml_reach.specs.Fits.{Fit}
use Rattle.sml_flaws.specs.declared.role.Role.TheVariants as R
use Rattle.sml_flaws.specs.declared.role.Entry.TheVariants as O
use Rattle.sml_flaws.specs.declared.mark.Context.{Context}
use Rattle.sml_flaws.specs.declared.mark.Mark.{Mark}
use Rattle.sml_flaws.specs.Roles.{entry_of}
use Rattle.sml_flaws.specs.Marks.{entered, next, in_role}
use Rattle.sml_flaws.specs.Known.{head_or, head_at}
use Rattle.sml_flaws.specs.Flaws.{is_reserved}
use Rattle.sml_bare.specs.Derivations.{shape_from}
use Rattle.sml_tree_laws.proofs.RecDeclarations.{RoundFree, HeadFree}
use Rattle.sml_tree_laws.proofs.SequenceFits.{FitsHead}
use Rattle.sml_tree_laws.proofs.HeadNames.{is_named, InfixNames, NameOf, BracketName, OneName, name_more, bracket_more, first_more, heading_free}
use Rattle.sml_tree_laws.proofs.ClauseNames.{identifier, Barred}
use Rattle.sml_tree_laws.proofs.Links.{Marked, Second, ClauseLink, RoundLink, PartsLink, round_bracket}

-- what a sequence stands for is what one of the fits with its token does
pub pick : (Q : Fit → Type 0) (fits : List Fit) (n : ℕ) (shape : Shape) → Every (λ fit. fit.token ≡ n → Q fit) fits → shape_from fits n ≡ Some shape → (fit : Fit) × Q fit × (fit.shape ≡ shape)
pick Q [] n shape h e = cc
pick Q (fit ∷ fits) n shape h e = go (fit.token == n) refl e (pick Q fits n shape h.1)
  where
    go : (b : Bool) → (fit.token == n) ≡ b → (if b then Some fit.shape else shape_from fits n) ≡ Some shape → (shape_from fits n ≡ Some shape → (fit : Fit) × Q fit × (fit.shape ≡ shape)) → (fit : Fit) × Q fit × (fit.shape ≡ shape)
    go true same e more = (fit, h.0 (eqb-true fit.token n same), same_Some fit.shape shape e)
    go false same e more = more e

head_of : (fits : List Fit) (n : ℕ) (how : Head) → shape_from fits n ≡ Some (headed how) → head_at fits n ≡ Some how
head_of [] n how e = cc
head_of (fit ∷ fits) n how e = go fit.shape (fit.token == n) e (head_of fits n how)
  where
    same : {a b : Head} → Some (headed a) ≡ Some (headed b) → Some a ≡ Some b
    same e = cc

    unlike : (b : Head) (steps : List _) → Some (tree steps) ≡ Some (headed b) → ⊥
    unlike b steps e = cc

    go : (shape : Shape) (b : Bool) → (if b then Some shape else shape_from fits n) ≡ Some (headed how) → (shape_from fits n ≡ Some (headed how) → head_at fits n ≡ Some how) → head_or shape b (head_at fits n) ≡ Some how
    go (tree steps) true e more = absurd (unlike how steps e)
    go (tree steps) false e more = more e
    go (headed h) true e more = same e
    go (headed h) false e more = more e

heading_none : (s : Option Shape) (q : Pat Place) (qs : Pats Place) → ((how : Head) → s ≡ Some (headed how) → ⊥) → is_reserved (heading s q qs).name ≡ false
heading_none None q qs h = refl
heading_none (Some (tree steps)) q qs h = refl
heading_none (Some (headed how)) q qs h = absurd (h how refl)

round_name : (A : Id → Type 0) (p : Place) (qs : Pats Place) → NameOf A (round_pat p qs)
round_name A p no_pat = tt
round_name A p (and_pat q no_pat) = tt
round_name A p (and_pat q (and_pat r qs)) = tt

abbrev Free : Id → Type 0
Free x = is_reserved x ≡ false

module _ (text : ℕ → Id) (fits : List Fit) (all : List Mark) where
  -- A head that begins at the token n: its first atomic pattern is marked in the context d, and the others in that after it.
  clause_free : (s : Option Shape) (n lo hi lo' : ℕ) (q : Pat Place) (qs : Pats Place) (a : Atom) (atoms : List Atom) (d : Context) → d.sequence ≡ n → d.index ≡ 0 → n ≤ lo → hi ≤ lo' → shape_from fits n ≡ s
      → ((how : Head) → s ≡ Some (headed how) → FitsHead (a ∷ atoms) (headed how)) → (is_named a.name ≡ true → NameOf (Marked text fits all d lo hi) q) → (InfixNames a.inner → BracketName (Second text fits all (n + 1) lo hi) q)
      → ClauseLink text fits all (in_role R.Next d) lo' qs atoms → is_reserved (heading s q qs).name ≡ false
  clause_free s n lo hi lo' q qs a atoms d same_n same_i l r shape own named round clause =
      heading_free s q qs a atoms own
      (λ e k. name_more (Marked text fits all d lo hi) Free (by_first e) q (named k))
      (λ e. first_more (Marked text fits all (in_role R.Next d) lo' clause.0) Free (by_second e) qs atoms clause.2)
      (λ e i. bracket_more (Second text fits all (n + 1) lo hi) Free (by_bracket e) q (round i))
    where
      bars : Barred text fits all n clause.0
      bars = subst (λ k. Barred text fits all k clause.0) same_n clause.3

      by_first : s ≡ Some (headed K.Prefix) → (x : Id) → Marked text fits all d lo hi x → is_reserved x ≡ false
      by_first e x h =
          let b = h.2 in
          let m = clause.1 in
          subst (λ y. is_reserved y ≡ false) h.5
          (bars K.Prefix (head_of fits n K.Prefix (shape ∙ e)) h.0 d.binds (subst (λ k. Stands (identifier k 0 h.0 d.binds) all) same_n (subst (λ j. Stands (identifier d.sequence j h.0 d.binds) all) same_i h.4)) (omega (arith, b, m, r)))

      by_second : s ≡ Some (headed K.Infix) → (x : Id) → Marked text fits all (in_role R.Next d) lo' clause.0 x → is_reserved x ≡ false
      by_second e x h =
          subst (λ y. is_reserved y ≡ false) h.5
          (bars K.Infix (head_of fits n K.Infix (shape ∙ e)) h.0 d.binds (subst (λ k. Stands (identifier k 1 h.0 d.binds) all) same_n (subst (λ j. Stands (identifier d.sequence j h.0 d.binds) all) (let f : next d.index ≡ 1 = omega (arith, same_i) in f) h.4)) h.2)

      by_bracket : s ≡ Some (headed K.Bracketed) → (x : Id) → Second text fits all (n + 1) lo hi x → is_reserved x ≡ false
      by_bracket e x (inl h) = h
      by_bracket e x (inr h) =
          let from = h.2 in
          let b = h.3 in
          let few = h.4 in
          let m = clause.1 in
          subst (λ y. is_reserved y ≡ false) h.6
          (bars K.Bracketed (head_of fits n K.Bracketed (shape ∙ e)) h.0 h.1 (subst (λ k. Stands (identifier k 1 h.0 h.1) all) (let f : n + 1 ≡ next n = omega (arith, from, few, l) in f) h.5) (omega (arith, b, m, r)))

  module _ (i a m : ℕ) (c : Context) (t : ℕ → ℕ) (s : Option Shape) (vs : List Phrase) (fs : List Found) (begun : t 0 ≡ a) (mono : (k : ℕ) → t k ≤ t (suc k)) (shape : shape_from fits a ≡ s) where
    abbrev OwnAt : DeclarationRule → Type 0
    OwnAt r = (how : Head) → s ≡ Some (headed how) → (atoms : List Atom) × (sequence_in (found_at text m (G.Declarations r) fs) ≡ Some atoms) × FitsHead atoms (headed how)

    abbrev pub IsOwn : DeclarationRule → Type 0
    IsOwn D.FunDecOpenRound = OwnAt D.FunDecOpenRound
    IsOwn D.FunDecBareAtPat = OwnAt D.FunDecBareAtPat
    IsOwn D.ClausesAtPat = OwnAt D.ClausesAtPat
    IsOwn _ = Unit {0}

    round_free : (p : Place) (v : Phrase) (f : Found) → ((how : Head) → s ≡ Some (headed how) → (atoms : List Atom) × (sequence_in (from m f) ≡ Some atoms) × FitsHead atoms (headed how))
        → t 1 ≡ t 0 + 1 → RoundLink text fits all (entered O.Function i a c) (t 1) v (atoms_in f) → RoundFree s p v
    round_free p (of_round_functions ps qs u e cs bs) f own w h = by_found f own h
      where
        none : {atoms : List Atom} → None ≡ Some atoms → ⊥
        none e = cc

        by_found : (f : Found) → ((how : Head) → s ≡ Some (headed how) → (atoms : List Atom) × (sequence_in (from m f) ≡ Some atoms) × FitsHead atoms (headed how))
            → RoundLink text fits all (entered O.Function i a c) (t 1) (of_round_functions ps qs u e cs bs) (atoms_in f) → is_reserved (heading s (round_pat p ps) qs).name ≡ false
        by_found (several [] typed) own h = heading_none s (round_pat p ps) qs (λ how k. none (own how k).1)
        by_found (several (b ∷ others) typed) own h =
            clause_free s a (t 1) h.0 h.0 (round_pat p ps) qs (atom b.name m b.inner) others (entered O.Function i a c) refl refl (omega (arith, begun, w)) (omega arith) shape
            (λ how k. let o = own how k in subst (λ z. FitsHead z (headed how)) (sym (same_Some _ _ o.1)) o.2)
            (λ k. round_name (Marked text fits all (entered O.Function i a c) (t 1) h.0) p ps)
            (λ k. round_bracket text fits all (Second text fits all (a + 1) (t 1) h.0) p ps (subst (λ n. OneName (Second text fits all n (t 1) h.0) ps) (let g : t 1 ≡ a + 1 = omega (arith, w, begun) in g) (h.1 k)))
            h.2
        by_found nothing own h = heading_none s (round_pat p ps) qs (λ how k. none (own how k).1)
        by_found (word k) own h = heading_none s (round_pat p ps) qs (λ how k. none (own how k).1)
        by_found (one b) own h = heading_none s (round_pat p ps) qs (λ how k. none (own how k).1)
        by_found (within names) own h = heading_none s (round_pat p ps) qs (λ how k. none (own how k).1)
        by_found (directed level others) own h = heading_none s (round_pat p ps) qs (λ how k. none (own how k).1)
    round_free p _ f own w h = tt

    pub head_free : (r : DeclarationRule) (p : Place) → IsOwn r → PartsLink text fits all (entered (entry_of (G.Declarations r)) i a c) t vs fs (G.Declarations r) → HeadFree s p r vs
    head_free D.FunDecOpenRound p own h = let w = h 0 refl in round_free p (at vs 1) (get_or (take 2 fs) 1 nothing) own (omega (arith, w)) (h 1 refl)
    head_free D.FunDecBareAtPat p own h =
        clause_free s a (t 0) (t 1) (t 1) (pat_in (at vs 0)) (right_side_in (at vs 1)).pats (atom_in (get_or (take 4 fs) 0 nothing)) (atoms_in (get_or (take 4 fs) 1 nothing)) (entered O.Function i a c) refl refl (omega (arith, begun)) (omega arith) shape
        (λ how k. let o = own how k in subst (λ z. FitsHead z (headed how)) (sym (same_Some _ _ o.1)) o.2) (h 0 refl).0
        (λ k. subst (λ n. BracketName (Second text fits all n (t 0) (t 1)) (pat_in (at vs 0))) (let g : t 0 + 1 ≡ a + 1 = omega (arith, begun) in g) ((h 0 refl).1 k)) (h 1 refl)
    head_free D.ClausesAtPat p own h =
        clause_free s a (t 0) (t 1) (t 1) (pat_in (at vs 0)) (right_side_in (at vs 1)).pats (atom_in (get_or (take 3 fs) 0 nothing)) (atoms_in (get_or (take 3 fs) 1 nothing)) (entered O.Function i a c) refl refl (omega (arith, begun)) (omega arith) shape
        (λ how k. let o = own how k in subst (λ z. FitsHead z (headed how)) (sym (same_Some _ _ o.1)) o.2) (h 0 refl).0
        (λ k. subst (λ n. BracketName (Second text fits all n (t 0) (t 1)) (pat_in (at vs 0))) (let g : t 0 + 1 ≡ a + 1 = omega (arith, begun) in g) ((h 0 refl).1 k)) (h 1 refl)
    head_free _ p own h = tt
