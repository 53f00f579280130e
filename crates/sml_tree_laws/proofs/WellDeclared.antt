-- Each declaration that has no flaw is well bound.
use Rattle.std.proofs.Common.{◌≡◌, ℕ, ◌+◌, List, [], ◌∷◌, true, Some, refl, subst, arith}
use Rattle.std.specs.Prelude.{slice_get, drop}
use Rattle.sml_lex.specs.declared.fault.Place.{Place}
use Rattle.sml_lex.specs.declared.token.Token.{Token}
use Rattle.sml_tree.specs.Trees.{Id}
use Rattle.sml_objects.specs.Appearance.{Stands}
use Rattle.sml_read.specs.declared.grammar.Part.{Part}
use Rattle.sml_read.specs.declared.grammar.Part.TheVariants.{Top, Exp}
use Rattle.sml_read.specs.declared.grammar.Symbol.TheVariants.{Of}
use Rattle.sml_read.specs.declared.grammar.Rule.TheVariants.{Units}
use Rattle.sml_read.specs.declared.grammar.UnitRule.{UnitRule}
use Rattle.sml_read.specs.declared.grammar.UnitRule.TheVariants as U
use Rattle.sml_read.specs.declared.grammar.Node.{Node}
use Rattle.sml_read.specs.declared.grammar.Node.TheVariants.{Inner}
use Rattle.sml_read.specs.Spelling.{kinds_of}
use Rattle.sml_read.specs.Extents.{ends_of}
use Rattle.sml_phrases.specs.Phrases.{Phrase, of_exp}
use Rattle.sml_reach.specs.Events.{text_at}
use Rattle.sml_reach.specs.Fits.{Fit}
use Rattle.sml_flaws.specs.declared.role.Space.{Space}
use Rattle.sml_flaws.specs.declared.role.Entry.TheVariants as O
use Rattle.sml_flaws.specs.declared.mark.Context.{Context}
use Rattle.sml_flaws.specs.declared.mark.Mark.{Mark}
use Rattle.sml_flaws.specs.Marks.{start, entered, marks_of}
use Rattle.sml_flaws.specs.Flaws.{flaws_of, scoped_of, flaws}
use Rattle.sml_bare.specs.RulePhrases.{declaration}
use Rattle.sml_tree_laws.specs.WellBound.{TopBound}
use Rattle.sml_tree_laws.proofs.PhrasesBound.{plain, class_of, PhraseBound}
use Rattle.sml_tree_laws.proofs.AccessorsBound.{top_bound}
use Rattle.sml_tree_laws.proofs.Walk.{Goes}
use Rattle.sml_tree_laws.proofs.Clean.{both_none}
use Rattle.sml_tree_laws.proofs.BoundWalk.{suits, width_of, Marked, Claim, bounds}
use Rattle.sml_tree_laws.proofs.Declared.{source, made, counted}

declared_bound : (B : Space → ℕ → ℕ → Id → Type 0) (g lo hi : ℕ) (p : Place) (v : Phrase) → PhraseBound B plain g lo hi v → TopBound (declaration p v)
declared_bound B g lo hi p (of_exp e) h = (tt, ((tt, h), tt), tt)
declared_bound B g lo hi p v h = top_bound B plain g lo hi v h

-- So many tokens stand before the declaration, and these from its first one on.
module _ (unit : List ℕ) (tokens : List Token) (n : ℕ) (fits : List Fit) (own : List Node) (left : List Token)
    (reads : (j : ℕ) (t : Token) → slice_get left j ≡ Some t → slice_get (drop n tokens) (0 + j) ≡ Some t) where
  module _ (rule : UnitRule) (clean : flaws (text_at unit tokens) fits n (Inner (Units rule) ∷ own) ≡ []) where
    abbrev marks : List Mark
    marks = marks_of 0 n (start ∷ []) (Inner (Units rule) ∷ own)

    none : flaws_of (text_at unit tokens) fits [] marks ≡ []
    none = (both_none (flaws_of (text_at unit tokens) fits [] marks) (scoped_of (text_at unit tokens) (ends_of 0 (Inner (Units rule) ∷ own)) marks marks) clean).0

    -- the first phrase, in the first of these contexts
    first_bound : (q : Part) (c : Context) (cs : List Context) → Goes own (Of q ∷ []) (kinds_of left) → suits c.word (Of q) ≡ true → ((m : Mark) → Stands m (marks_of 1 n (c ∷ cs) own) → Stands m marks)
        → Claim (source unit tokens n fits own left reads) tokens marks (counted unit tokens n fits own left reads) fits none (Of q) c (n + width_of 0 own) (n + width_of 1 own) (made unit tokens n fits own left reads)
    first_bound q c cs g suit inc =
        bounds (source unit tokens n fits own left reads) tokens marks (counted unit tokens n fits own left reads) fits none own 1 0 n (Of q ∷ []) (c ∷ cs) left (omega arith) g (suit, tt) reads inc 0 (omega arith) (n + width_of 0 own) (n + width_of 1 own) refl refl

    declared_well : (q : Part) (c : Context) (cs : List Context) → class_of (Of q) ≡ plain → Goes own (Of q ∷ []) (kinds_of left) → suits c.word (Of q) ≡ true → ((m : Mark) → Stands m (marks_of 1 n (c ∷ cs) own) → Stands m marks) → (p : Place)
        → TopBound (declaration p (made unit tokens n fits own left reads))
    declared_well q c cs e g suit inc p =
        let whole = source unit tokens n fits own left reads in
        let B = Marked whole tokens marks (counted unit tokens n fits own left reads) fits none in
        let v = made unit tokens n fits own left reads in
        declared_bound B c.group (n + width_of 0 own) (n + width_of 1 own) p v (subst (λ k. PhraseBound B k c.group (n + width_of 0 own) (n + width_of 1 own) v) e (first_bound q c cs g suit inc).0)

  pub top_well : flaws (text_at unit tokens) fits n (Inner (Units U.StartTop) ∷ own) ≡ [] → Goes own (Of Top ∷ []) (kinds_of left) → (p : Place) → TopBound (declaration p (made unit tokens n fits own left reads))
  top_well clean g p = declared_well U.StartTop clean Top start (start ∷ []) refl g refl (λ m s. s) p

  pub next_well : flaws (text_at unit tokens) fits n (Inner (Units U.AfterTopTop) ∷ own) ≡ [] → Goes own (Of Top ∷ []) (kinds_of left) → (p : Place) → TopBound (declaration p (made unit tokens n fits own left reads))
  next_well clean g p = declared_well U.AfterTopTop clean Top start (start ∷ []) refl g refl (λ m s. s) p

  pub exp_well : flaws (text_at unit tokens) fits n (Inner (Units U.StartExp) ∷ own) ≡ [] → Goes own (Of Exp ∷ []) (kinds_of left) → (p : Place) → TopBound (declaration p (made unit tokens n fits own left reads))
  exp_well clean g p = let c = entered O.Value 0 n start in declared_well U.StartExp clean Exp c (c ∷ []) refl g refl (λ m s. s) p
