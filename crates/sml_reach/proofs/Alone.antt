-- What a sequence of one operand stands for.
use Rattle.std.proofs.Common.{◌≡◌, ℕ, None, ◌≤◌, true, ltb, length, get_or, arith, List, [], ◌∷◌, map, reverse, refl, sym, ap, subst, Vec, Global}
use Rattle.sml_reach.specs.declared.reach.Outcome.{Outcome}
use Rattle.sml_fixity.specs.declared.sequences.Item.{Item}
use Rattle.sml_fixity.specs.declared.sequences.Step.TheVariants.{Push}
use Rattle.sml_fixity.specs.Infix.{Single, IsTheTree}
use Rattle.sml_fixity.specs.Patterns.{IsThePattern}
use Rattle.sml_fixity.specs.Scopes.{Map}
use Rattle.sml_fixity.specs.Sequences.{role_at, role_by, roles_of}
use Rattle.sml_fixity.specs.Shapes.{tree}
use Rattle.sml_fixity.proofs.Trees.{same_tree}
use Rattle.sml_reach.specs.declared.found.Atom as P
use Rattle.sml_fixity.specs.ItemNames.{name_of}
use Rattle.sml_reach.specs.Founds.{atom, atom_of, atoms_of}
use Rattle.sml_reach.specs.Reach.{State, outcome_of, stands, fit_at, IsExpression, IsPattern}
use Rattle.sml_reach.specs.CodeAlone.{IsOperand}

the_tree : (fixities : Map) (x : Item) → role_at fixities 0 x ≡ role_by 0 None → IsTheTree (roles_of fixities (x ∷ [])) (Push 0 ∷ [])
the_tree fixities x e =
    subst (λ r. IsTheTree (r ∷ []) (Push 0 ∷ [])) (sym e)
    (record { tree = Single 0; built = refl; written = refl; obeys = tt; only = λ other y o. same_tree other (Single 0) o tt y })

the_pattern : (fixities : Map) (x : Item) → role_at fixities 0 x ≡ role_by 0 None → IsThePattern (x ∷ []) (roles_of fixities (x ∷ [])) (Push 0 ∷ [])
the_pattern fixities x e =
    subst (λ r. IsThePattern (x ∷ []) (r ∷ []) (Push 0 ∷ [])) (sym e)
    (record { the_tree = record { tree = Single 0; built = refl; written = refl; obeys = tt; only = λ other y o. same_tree other (Single 0) o tt y }; pattern = tt })

operand_is_expression : (s : State) (atoms : Vec P.Atom Global) → IsOperand s.here atoms.items → IsExpression s (atoms_of atoms) (stands (fit_at (atoms_of atoms) (tree (Push 0 ∷ []))))
operand_is_expression s atoms h =
    let e = ap (λ (xs : List P.Atom). map atom_of (reverse xs)) h.1 in
    (h.0.item ∷ [], Push 0 ∷ [], sym (ap (map (λ a. a.name)) e), the_tree s.here h.0.item h.2, refl)

operand_is_pattern : (s : State) (atoms : Vec P.Atom Global) → IsOperand s.here atoms.items → IsPattern s (atoms_of atoms) (stands (fit_at (atoms_of atoms) (tree (Push 0 ∷ []))))
operand_is_pattern s atoms h =
    let e = ap (λ (xs : List P.Atom). map atom_of (reverse xs)) h.1 in
    (h.0.item ∷ [], Push 0 ∷ [], sym (ap (map (λ a. a.name)) e), the_pattern s.here h.0.item h.2, refl)

-- whatever it is answered as

pub expression_alone : (s : State) (atoms : Vec P.Atom Global) → IsOperand s.here atoms.items → (o : Outcome) → outcome_of o ≡ stands (fit_at (atoms_of atoms) (tree (Push 0 ∷ []))) → IsExpression s (atoms_of atoms) (outcome_of o)
expression_alone s atoms h o e = subst (IsExpression s (atoms_of atoms)) (sym e) (operand_is_expression s atoms h)

pub pattern_alone : (s : State) (atoms : Vec P.Atom Global) → IsOperand s.here atoms.items → (o : Outcome) → outcome_of o ≡ stands (fit_at (atoms_of atoms) (tree (Push 0 ∷ []))) → IsPattern s (atoms_of atoms) (outcome_of o)
pattern_alone s atoms h o e = subst (IsPattern s (atoms_of atoms)) (sym e) (operand_is_pattern s atoms h)

-- an item that is written without others

pub item_is_expression : (s : State) (item : Item) (token : ℕ) → role_at s.here 0 item ≡ role_by 0 None → IsExpression s (atom (name_of item) token [] ∷ []) (stands (fit_at (atom (name_of item) token [] ∷ []) (tree (Push 0 ∷ []))))
item_is_expression s item token h = (item ∷ [], Push 0 ∷ [], refl, the_tree s.here item h, refl)

pub item_is_pattern : (s : State) (item : Item) (token : ℕ) → role_at s.here 0 item ≡ role_by 0 None → IsPattern s (atom (name_of item) token [] ∷ []) (stands (fit_at (atom (name_of item) token [] ∷ []) (tree (Push 0 ∷ []))))
item_is_pattern s item token h = (item ∷ [], Push 0 ∷ [], refl, the_pattern s.here item h, refl)

pub single : {A : Type 0} (xs : List A) (x : A) → true ≡ ltb 0 (length xs) → x ≡ get_or xs 0 x → length xs ≤ 1 → xs ≡ x ∷ []
single [] x h e k = cc
single (y ∷ []) x h e k = ap (λ z. z ∷ []) (sym e)
single (y ∷ z ∷ xs) x h e k = absurd (omega (arith, k))
