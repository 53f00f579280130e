-- An identifier before `as` begins no sequence.
use Rattle.std.proofs.Common.{◌≡◌, ℕ, List, [], ◌∷◌, true, None, get_or, take, refl, sym, subst, arith}
use Rattle.std.proofs.lemmas.List.{get_or-take}
use Rattle.std.proofs.lemmas.Bool.{false≢true}
use Rattle.sml_lex.specs.declared.fault.Place.{Place}
use Rattle.sml_tree.specs.Trees.{Id}
use Rattle.sml_tree.specs.Names.{Name}
use Rattle.sml_tree.specs.Types.{Ty}
use Rattle.sml_read.specs.declared.grammar.Rule.TheVariants as G
use Rattle.sml_read.specs.declared.grammar.PatternRule.TheVariants as P
use Rattle.sml_phrases.specs.Phrases.{Phrase, of_layer, at}
use Rattle.sml_bare_pats.specs.PatternRules.{op_from_vid, after_colon}
use Rattle.sml_reach.specs.Founds.{Atom, Found, nothing, word, one, several, within, directed, before, from, sequence_in}
use Rattle.sml_reach.specs.Events.{found_at}
use Rattle.sml_tree_laws.proofs.RecPatterns.{is_layer}

pub before_none : (a : Atom) (f : Found) → sequence_in f ≡ None → sequence_in (before a f) ≡ None
before_none a (several atoms typed) e = cc
before_none a nothing e = refl
before_none a (word n) e = refl
before_none a (one b) e = refl
before_none a (within names) e = refl
before_none a (directed level atoms) e = refl

pub from_none : (n : ℕ) (f : Found) → sequence_in f ≡ None → sequence_in (from n f) ≡ None
from_none n (several [] typed) e = refl
from_none n (several (a ∷ atoms) typed) e = cc
from_none n nothing e = refl
from_none n (word k) e = refl
from_none n (one b) e = refl
from_none n (within names) e = refl
from_none n (directed level atoms) e = refl

pub colon_layer : (t : Ty Place) (v : Phrase) → is_layer (after_colon t v) ≡ true → is_layer v ≡ true
colon_layer t (of_layer u q) h = refl
colon_layer t _ h = absurd (false≢true h)

pub op_layer : (x : Name Place) (v : Phrase) → is_layer (op_from_vid x v) ≡ true → is_layer v ≡ true
op_layer x (of_layer t q) h = refl
op_layer x _ h = absurd (false≢true h)

module _ (text : ℕ → Id) (a : ℕ) (fs : List Found) (vs : List Phrase) where
  -- with one of them no sequence begins
  pub vid_none : (is_layer (at vs 1) ≡ true → sequence_in (get_or fs 1 nothing) ≡ None) → is_layer (at vs 1) ≡ true → sequence_in (found_at text a (G.Patterns P.BarePatAlphanumeric) fs) ≡ None
  vid_none h e = before_none _ (get_or (take 2 fs) 1 nothing) (subst (λ f. sequence_in f ≡ None) (sym (get_or-take 2 fs 1 nothing (omega arith))) (h e))

  pub op_none : (is_layer (at vs 1) ≡ true → sequence_in (get_or fs 1 nothing) ≡ None) → is_layer (at vs 1) ≡ true → sequence_in (found_at text a (G.Patterns P.BarePatOp) fs) ≡ None
  op_none h e = from_none a (get_or (take 2 fs) 1 nothing) (subst (λ f. sequence_in f ≡ None) (sym (get_or-take 2 fs 1 nothing (omega arith))) (h e))
