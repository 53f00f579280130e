-- A step over the nodes of a unit, and where the declarations of what is left begin.
use Rattle.std.proofs.Common.{◌≡◌, ℕ, suc, ◌+◌, ◌<◌, List, [], ◌∷◌, Bool, true, false, length, drop, get_or, refl, sym, ap, ◌∙◌, arith}
use Rattle.std.proofs.lemmas.List.{drop_more}
use Rattle.std.proofs.lemmas.Bool.{cond-true, cond-false}
use Rattle.sml_lex.specs.declared.fault.Place.{Place}
use Rattle.sml_lex.specs.declared.token.Token.{Token}
use Rattle.sml_read.specs.declared.grammar.Rule.{Rule}
use Rattle.sml_read.specs.declared.grammar.Node.{Node}
use Rattle.sml_read.specs.declared.grammar.Node.TheVariants.{Leaf, Inner}
use Rattle.sml_read.proofs.Tables.{each_rule}
use Rattle.sml_flaws.specs.Flawed.{begins_at}
use Rattle.sml_reach.specs.Places.{place_from, start_of}
use Rattle.sml_parse.specs.Within.{extents_of, begins_next}
use Rattle.sml_parse.proofs.Extents.{agree, agreed}
use Rattle.sml_shown.specs.Maps.{starts_in}

-- a declaration begins where the rule of one stands
begins_same : (r : Rule) → begins_at r ≡ begins_next r
begins_same r = agreed _ _ (each_rule (λ r. agree (begins_at r) (begins_next r)) refl r)

module _ (unit : List ℕ) (tokens : List Token) (nodes : List Node) where
  -- where the declarations of what is left begin
  abbrev pub rest : ℕ → ℕ → List Place
  rest n i = starts_in unit tokens (extents_of n (drop i nodes))

  split : (i : ℕ) (node d : Node) → i < length nodes → get_or nodes i d ≡ node → drop i nodes ≡ node ∷ drop (i + 1) nodes
  split i node d w e = drop_more nodes i d w ∙ ap (λ x. x ∷ drop (i + 1) nodes) e

  pub leaf_on : (n i : ℕ) (d : Node) → i < length nodes → get_or nodes i d ≡ Leaf → rest n i ≡ rest (n + 1) (i + 1)
  leaf_on n i d w e =
      ap (λ ns. starts_in unit tokens (extents_of n ns)) (split i Leaf d w e)
      ∙ ap (λ m. starts_in unit tokens (extents_of m (drop (i + 1) nodes))) (let s : suc n ≡ n + 1 = omega arith in s)

  pub passed_on : (n i : ℕ) (rule : Rule) (d : Node) → i < length nodes → get_or nodes i d ≡ Inner rule → begins_at rule ≡ false → rest n i ≡ rest n (i + 1)
  passed_on n i rule d w e b =
      ap (λ ns. starts_in unit tokens (extents_of n ns)) (split i (Inner rule) d w e)
      ∙ ap (starts_in unit tokens) (cond-false _ _ _ (sym (begins_same rule) ∙ b))

  pub begun_on : (n i : ℕ) (rule : Rule) (d : Node) → i < length nodes → get_or nodes i d ≡ Inner rule → begins_at rule ≡ true → rest n i ≡ place_from unit 0 (start_of tokens n 0) ∷ rest n (i + 1)
  begun_on n i rule d w e b =
      ap (λ ns. starts_in unit tokens (extents_of n ns)) (split i (Inner rule) d w e)
      ∙ ap (starts_in unit tokens) (cond-true _ _ _ (sym (begins_same rule) ∙ b))
