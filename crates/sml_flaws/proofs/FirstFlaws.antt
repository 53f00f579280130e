-- A step over the nodes of a unit, after some tokens and some declarations.
use Rattle.std.proofs.Common.{◌≡◌, ℕ, suc, ◌+◌, ◌<◌, List, [], ◌∷◌, zero, true, false, Option, Some, None, map, length, drop, get_or, refl, sym, ap, ◌∙◌, arith}
use Rattle.std.proofs.lemmas.Bool.{cond-true, cond-false, false≢true}
use Rattle.std.proofs.lemmas.List.{drop_more, drop-drop, drop-map}
use Rattle.std.specs.Prelude.{slice_get, is_some}
use Rattle.sml_lex.specs.declared.token.Token.{Token}
use Rattle.sml_lex.specs.declared.token.Kind.TheVariants.{Comma}
use Rattle.sml_tree.specs.Trees.{Id}
use Rattle.sml_read.specs.declared.grammar.Rule.{Rule}
use Rattle.sml_read.specs.declared.grammar.Node.{Node}
use Rattle.sml_read.specs.declared.grammar.Node.TheVariants.{Leaf, Inner}
use Rattle.sml_reach.specs.declared.reach.Misfit.{Misfit}
use Rattle.sml_flaws.specs.declared.flaw.Flaw.{Flaw}
use Rattle.sml_reach.specs.declared.fitted.Fitted as P
use Rattle.sml_reach.specs.Fits.{Fitted, fit_of, fitted_of}
use Rattle.sml_flaws.specs.Flaws.{flaws, first_flaw}
use Rattle.sml_flaws.specs.Flawed.{begins_at, own_nodes, flaw_in, flaw_here, or_else, first_flawed}
use Rattle.sml_reach.proofs.Somes.{none_some}
use Rattle.sml_reach.proofs.Somes.{some_same}

no_token : Token
no_token = record { kind = Comma; span = record { start = 0; «end» = 0 } }

module _ (text : ℕ → Id) (nodes : List Node) (tokens : List Token) (fitted : List Fitted) where
  -- the fault in what is left
  abbrev pub left : ℕ → ℕ → ℕ → Option Misfit
  left n count i = first_flawed text n count (drop i nodes) (drop n tokens) (drop count fitted)

  pub split : (i : ℕ) (node d : Node) → i < length nodes → get_or nodes i d ≡ node → drop i nodes ≡ node ∷ drop (i + 1) nodes
  split i node d w e = drop_more nodes i d w ∙ ap (λ x. x ∷ drop (i + 1) nodes) e

  pub leaf_on : (n count i : ℕ) (d : Node) → i < length nodes → n < length tokens → get_or nodes i d ≡ Leaf → left n count i ≡ left (n + 1) count (i + 1)
  leaf_on n count i d w t e =
      ap (λ ns. first_flawed text n count ns (drop n tokens) (drop count fitted)) (split i Leaf d w e)
      ∙ ap (λ ts. first_flawed text n count (Leaf ∷ drop (i + 1) nodes) ts (drop count fitted)) (drop_more tokens n no_token t)
      ∙ ap (λ m. first_flawed text m count (drop (i + 1) nodes) (drop (n + 1) tokens) (drop count fitted)) (let s : suc n ≡ n + 1 = omega arith in s)

  pub passed_on : (n count i : ℕ) (rule : Rule) (d : Node) → i < length nodes → get_or nodes i d ≡ Inner rule → begins_at rule ≡ false → left n count i ≡ left n count (i + 1)
  passed_on n count i rule d w e b = ap (λ ns. first_flawed text n count ns (drop n tokens) (drop count fitted)) (split i (Inner rule) d w e) ∙ cond-false _ _ _ b

  begun_on : (n count i : ℕ) (rule : Rule) (d : Node) → i < length nodes → get_or nodes i d ≡ Inner rule → begins_at rule ≡ true
      → left n count i ≡ or_else (flaw_here text (suc count) n (own_nodes (Inner rule ∷ drop (i + 1) nodes)) (drop count fitted)) (left n (count + 1) (i + 1))
  begun_on n count i rule d w e b =
      ap (λ ns. first_flawed text n count ns (drop n tokens) (drop count fitted)) (split i (Inner rule) d w e) ∙ cond-true _ _ _ b
      ∙ ap (λ fs. or_else (flaw_here text (suc count) n (own_nodes (Inner rule ∷ drop (i + 1) nodes)) (drop count fitted)) (first_flawed text n (suc count) (drop (i + 1) nodes) (drop n tokens) fs)) (drop-drop 1 count fitted)
      ∙ ap (λ k. or_else (flaw_here text (suc count) n (own_nodes (Inner rule ∷ drop (i + 1) nodes)) (drop count fitted)) (first_flawed text n k (drop (i + 1) nodes) (drop n tokens) (drop (count + 1) fitted))) (let s : suc count ≡ count + 1 = omega arith in s)

  pub next_on : (n count i : ℕ) (rule : Rule) (own : List Node) (flaw : Option Misfit) (d : Node) → i < length nodes → get_or nodes i d ≡ Inner rule → begins_at rule ≡ true
      → own ≡ own_nodes (Inner rule ∷ drop (i + 1) nodes) → flaw ≡ flaw_here text (suc count) n own (drop count fitted) → flaw ≡ None → left n count i ≡ left n (count + 1) (i + 1)
  next_on n count i rule own flaw d w e b o f none =
      begun_on n count i rule d w e b ∙ ap (λ m. or_else m (left n (count + 1) (i + 1))) (ap (λ ns. flaw_here text (suc count) n ns (drop count fitted)) (sym o) ∙ sym f ∙ none)

pub none_of : {A : Type 0} (o : Option A) → is_some o ≡ false → o ≡ None
none_of None e = refl
none_of (Some x) e = absurd (false≢true (sym e))

-- the element with a number, where there is one
pub at_some : {A : Type 0} (xs : List A) (n : ℕ) (x : A) → slice_get xs n ≡ Some x → drop n xs ≡ x ∷ drop (n + 1) xs
at_some [] n x e = absurd (none_some e)
at_some (y ∷ xs) zero x e = ap (λ z. z ∷ xs) (some_same e)
at_some (y ∷ xs) (suc n) x e = at_some xs n x e ∙ ap (λ k. x ∷ drop k (y ∷ xs)) (let s : suc (n + 1) ≡ suc n + 1 = omega arith in s)

pub here_on : (text : ℕ → Id) (count first : ℕ) (nodes : List Node) (fitted : List P.Fitted) (f : P.Fitted) (flaw : Option Flaw) → slice_get fitted count ≡ Some f → flaw ≡ first_flaw (flaws text (map fit_of f.fits.items) first nodes)
    → flaw_in (count + 1) first nodes flaw ≡ flaw_here text (suc count) first nodes (drop count (map fitted_of fitted))
here_on text count first nodes fitted f flaw e h =
    ap (flaw_in (count + 1) first nodes) h
    ∙ ap (λ k. flaw_in k first nodes (first_flaw (flaws text (map fit_of f.fits.items) first nodes))) (let s : count + 1 ≡ suc count = omega arith in s)
    ∙ sym (ap (flaw_here text (suc count) first nodes) (drop-map fitted_of count fitted ∙ ap (map fitted_of) (at_some fitted count f e)))
