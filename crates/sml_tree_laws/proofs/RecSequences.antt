-- Sequences of atomic patterns after `rec`: the pattern that steps build, where each atomic pattern that its tree keeps may stand there.
use Rattle.std.proofs.Common.{◌≡◌, ℕ, zero, suc, ◌+◌, List, [], ◌∷◌, ◌++◌, Bool, true, false, get_or, drop, refl, sym, ap, ◌∙◌, subst, inl, inr, arith}
use Rattle.std.specs.Prelude.{set}
use Rattle.std.proofs.lemmas.List.{append-nil}
use Rattle.sml_lex.specs.declared.fault.Place.{Place}
use Rattle.sml_tree.specs.Types.{Tys, no_ty, and_ty}
use Rattle.sml_tree.specs.Patterns.{Pat, Pats, wildcard, pat_constant, pat_name, pat_row, pat_tuple, pat_bracket, pat_apply, pat_typed, pat_as, no_pat, and_pat}
use Rattle.sml_fixity.specs.declared.sequences.Step.{Step}
use Rattle.sml_fixity.specs.declared.sequences.Step.TheVariants.{Push, Apply, Combine}
use Rattle.sml_fixity.specs.Infix.{Tree, Single, Applied, Joined, postfix, IsSingle, Obeys}
use Rattle.sml_pat_sequences.specs.PatternSequences as Q
use Rattle.sml_tree_laws.specs.Recursive.{RecPat, RecPats}
use Rattle.sml_tree_laws.proofs.UsedNames.{Kept, two_parts}

module _ (used : ℕ → Bool) where
  -- an atomic pattern with this index: a name may be any where the sequence uses it
  abbrev pub AtomRec : ℕ → Pat Place → Type 0
  AtomRec i (pat_name p x) = used i ≡ false → RecPat (pat_name p x)
  AtomRec i (wildcard p) = Unit {0}
  AtomRec i (pat_constant p c) = Unit {0}
  AtomRec i (pat_row p fs b) = RecPat (pat_row p fs b)
  AtomRec i (pat_tuple p qs) = RecPats qs
  AtomRec i (pat_bracket p q) = RecPat q
  AtomRec i (pat_apply p x q) = RecPat q
  AtomRec i (pat_typed p q t) = RecPat q
  AtomRec i (pat_as p x t q) = RecPat (pat_as p x t q)

  pub rec_atom : (i : ℕ) (q : Pat Place) → RecPat q → AtomRec i q
  rec_atom i (pat_name p x) h = λ u. h
  rec_atom i (wildcard p) h = tt
  rec_atom i (pat_constant p c) h = tt
  rec_atom i (pat_row p fs b) h = h
  rec_atom i (pat_tuple p qs) h = h
  rec_atom i (pat_bracket p q) h = h
  rec_atom i (pat_apply p x q) h = h
  rec_atom i (pat_typed p q t) h = h
  rec_atom i (pat_as p x t q) h = h

  atom_rec : (i : ℕ) (q : Pat Place) → used i ≡ false → AtomRec i q → RecPat q
  atom_rec i (pat_name p x) u h = h u
  atom_rec i (wildcard p) u h = tt
  atom_rec i (pat_constant p c) u h = tt
  atom_rec i (pat_row p fs b) u h = h
  atom_rec i (pat_tuple p qs) u h = h
  atom_rec i (pat_bracket p q) u h = h
  atom_rec i (pat_apply p x q) u h = h
  atom_rec i (pat_typed p q t) u h = h
  atom_rec i (pat_as p x t q) u h = h

  abbrev pub AtomsRec : ℕ → List (Pat Place) → Type 0
  AtomsRec i [] = Unit {0}
  AtomsRec i (q ∷ qs) = AtomRec i q × AtomsRec (suc i) qs

  atoms_get : (qs : List (Pat Place)) (k j i : ℕ) → i ≡ k + j → AtomsRec k qs → AtomRec i (get_or qs j Q.no_operand)
  atoms_get [] k j i e h = tt
  atoms_get (q ∷ qs) k zero i e h = subst (λ n. AtomRec n q) (let f : k ≡ i = omega (arith, e) in f) h.0
  atoms_get (q ∷ qs) k (suc j) i e h = atoms_get qs (suc k) j i (omega (arith, e)) h.1

  atoms_set : (qs : List (Pat Place)) (k j : ℕ) → AtomsRec k qs → AtomsRec k (set qs j Q.no_operand)
  atoms_set [] k j h = tt
  atoms_set (q ∷ qs) k zero h = (tt, h.1)
  atoms_set (q ∷ qs) k (suc j) h = (h.0, atoms_set qs (suc k) j h.1)

  -- a pattern that is applied, or one that stands by itself
  abbrev Part : Bool → Pat Place → Type 0
  Part false q = RecPat q
  Part true (pat_name p x) = Unit {0}
  Part true (wildcard p) = Unit {0}
  Part true (pat_constant p c) = Unit {0}
  Part true (pat_row p fs b) = RecPat (pat_row p fs b)
  Part true (pat_tuple p qs) = RecPats qs
  Part true (pat_bracket p q) = RecPat q
  Part true (pat_apply p x q) = RecPat q
  Part true (pat_typed p q t) = RecPat q
  Part true (pat_as p x t q) = RecPat (pat_as p x t q)

  head_part : (i : ℕ) (q : Pat Place) → AtomRec i q → Part true q
  head_part i (pat_name p x) h = tt
  head_part i (wildcard p) h = tt
  head_part i (pat_constant p c) h = tt
  head_part i (pat_row p fs b) h = h
  head_part i (pat_tuple p qs) h = h
  head_part i (pat_bracket p q) h = h
  head_part i (pat_apply p x q) h = h
  head_part i (pat_typed p q t) h = h
  head_part i (pat_as p x t q) h = h

  rec_part : (head : Bool) (q : Pat Place) → RecPat q → Part head q
  rec_part false q h = h
  rec_part true q h = head_part 0 q (rec_atom 0 q h)

  applied_rec : (f q : Pat Place) → Part true f → RecPat q → RecPat (Q.applied f q)
  applied_rec (pat_name p c) q h k = k
  applied_rec (wildcard p) q h k = (h, (k, tt))
  applied_rec (pat_constant p c) q h k = (h, (k, tt))
  applied_rec (pat_row p fs b) q h k = (h, (k, tt))
  applied_rec (pat_tuple p qs) q h k = (h, (k, tt))
  applied_rec (pat_bracket p r) q h k = (h, (k, tt))
  applied_rec (pat_apply p x r) q h k = (h, (k, tt))
  applied_rec (pat_typed p r t) q h k = (h, (k, tt))
  applied_rec (pat_as p x t r) q h k = (h, (k, tt))

  single_obeys : (t : Tree) → IsSingle t → Obeys t
  single_obeys (Single a) h = tt
  single_obeys (Applied f x) h = absurd h
  single_obeys (Joined o l r) h = absurd h

  -- the steps of a tree leave a pattern on the stack
  abbrev Then : Bool → List Step → List (Pat Place) → Type 0
  Then head rest stack = (b : Q.Building) → AtomsRec 0 b.atoms → (q : Pat Place) → Part head q → b.stack ≡ q ∷ stack → RecPat (Q.pat_of_steps rest b)

  builds : (head : Bool) (t : Tree) → Obeys t → ((i : ℕ) → Kept head i t → used i ≡ false) → (rest : List Step) (b : Q.Building) → AtomsRec 0 b.atoms → Then head rest b.stack
      → RecPat (Q.pat_of_steps (postfix t ++ rest) b)
  builds false (Single a) o kept rest b h k =
      k (Q.step (Push a) b) (atoms_set b.atoms 0 a h) (Q.atom a b) (atom_rec a (Q.atom a b) (kept a refl) (atoms_get b.atoms 0 a a (omega arith) h)) refl
  builds true (Single a) o kept rest b h k =
      k (Q.step (Push a) b) (atoms_set b.atoms 0 a h) (Q.atom a b) (head_part a (Q.atom a b) (atoms_get b.atoms 0 a a (omega arith) h)) refl
  builds head (Applied f x) o kept rest b h k =
      subst (λ steps. RecPat (Q.pat_of_steps steps b)) (sym (two_parts (postfix f) (postfix x) Apply rest))
      (builds true f o.0 (λ i u. kept i (inl u)) (postfix x ++ Apply ∷ rest) b h
      (λ b1 h1 q1 p1 e1. builds false x (single_obeys x o.2) (λ i u. kept i (inr u)) (Apply ∷ rest) b1 h1
      (λ b2 h2 q2 p2 e2. k (Q.step Apply b2) h2 (Q.applied (Q.operand 1 b2) (Q.operand 0 b2))
      (rec_part head (Q.applied (Q.operand 1 b2) (Q.operand 0 b2))
      (subst (λ st. RecPat (Q.applied (get_or st 1 Q.no_operand) (get_or st 0 Q.no_operand))) (sym (e2 ∙ ap (λ st. q2 ∷ st) e1)) (applied_rec q1 q2 p1 p2)))
      (ap (λ st. Q.applied (Q.operand 1 b2) (Q.operand 0 b2) ∷ drop 2 st) (e2 ∙ ap (λ st. q2 ∷ st) e1)))))
  builds head (Joined p l r) o kept rest b h k =
      subst (λ steps. RecPat (Q.pat_of_steps steps b)) (sym (two_parts (postfix l) (postfix r) (Combine p.index) rest))
      (builds false l o.0 (λ i u. kept i (inl u)) (postfix r ++ Combine p.index ∷ rest) b h
      (λ b1 h1 q1 p1 e1. builds false r o.1 (λ i u. kept i (inr u)) (Combine p.index ∷ rest) b1 h1
      (λ b2 h2 q2 p2 e2. k (Q.step (Combine p.index) b2) (atoms_set b2.atoms 0 p.index h2) (Q.combined (Q.operator_of (Q.atom p.index b2)) (Q.operand 1 b2) (Q.operand 0 b2))
      (rec_part head (Q.combined (Q.operator_of (Q.atom p.index b2)) (Q.operand 1 b2) (Q.operand 0 b2))
      (subst (λ st. RecPats (and_pat (get_or st 1 Q.no_operand) (and_pat (get_or st 0 Q.no_operand) no_pat))) (sym (e2 ∙ ap (λ st. q2 ∷ st) e1)) (p1, (p2, tt))))
      (ap (λ st. Q.combined (Q.operator_of (Q.atom p.index b2)) (Q.operand 1 b2) (Q.operand 0 b2) ∷ drop 2 st) (e2 ∙ ap (λ st. q2 ∷ st) e1)))))

  steps_rec : (t : Tree) → Obeys t → ((i : ℕ) → Kept false i t → used i ≡ false) → (qs : List (Pat Place)) → AtomsRec 0 qs → RecPat (Q.pat_of_steps (postfix t) (record { atoms = qs; stack = [] }))
  steps_rec t o kept qs h =
      subst (λ steps. RecPat (Q.pat_of_steps steps (record { atoms = qs; stack = [] }))) (append-nil (postfix t))
      (builds false t o kept [] (record { atoms = qs; stack = [] }) h (λ b k q r e. subst (λ st. RecPat (Q.joined (get_or st 0 Q.no_operand) (drop 1 st))) (sym e) r))

  pub typed_rec : (p : Place) (q : Pat Place) (ts : Tys Place) → RecPat q → RecPat (Q.typed_by p q ts)
  typed_rec p q no_ty h = h
  typed_rec p q (and_ty t ts) h = typed_rec p (pat_typed p q t) ts h

  pub steps_pattern_rec : (t : Tree) (steps : List Step) → steps ≡ postfix t → Obeys t → ((i : ℕ) → Kept false i t → used i ≡ false) → (qs : Pats Place) → AtomsRec 0 (Q.list_of_pats qs)
      → RecPat (Q.pat_of_steps steps (record { atoms = Q.list_of_pats qs; stack = [] }))
  steps_pattern_rec t steps e o kept qs h = subst (λ ss. RecPat (Q.pat_of_steps ss (record { atoms = Q.list_of_pats qs; stack = [] }))) (sym e) (steps_rec t o kept (Q.list_of_pats qs) h)
