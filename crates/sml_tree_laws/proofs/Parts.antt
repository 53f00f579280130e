-- What holds of the parts of a phrase: what holds of phrases, and of a type variable by its place in the rule.
use Rattle.std.specs.Prelude.{◌≡◌, ℕ, nat_lt, length, List, get_or, Bool, true, false}
use Rattle.sml_tree.specs.Trees.{Id}
use Rattle.sml_read.specs.declared.grammar.Rule.{Rule}
use Rattle.sml_read.specs.Grammar.{right_side}
use Rattle.sml_phrases.specs.Phrases.{Phrase, name_in, at}
use Rattle.sml_flaws.specs.declared.role.Word.{Word}
use Rattle.sml_flaws.specs.declared.role.Word.TheVariants as W
use Rattle.sml_flaws.specs.declared.role.Role.{Role}
use Rattle.sml_flaws.specs.declared.role.Role.TheVariants as Q
use Rattle.sml_flaws.specs.declared.role.Entry.{Entry}
use Rattle.sml_flaws.specs.declared.role.Entry.TheVariants as O
use Rattle.sml_flaws.specs.Roles.{roles_of, entry_of}
use Rattle.sml_tree_laws.proofs.Phrases.{PhraseSits}

module _ (L V R : Id → Type 0) where
  abbrev pub WordSits : Word → Phrase → Type 0
  WordSits W.Listed v = L (name_in v).id
  WordSits W.Variable v = V (name_in v).id
  WordSits _ v = Unit {0}

  abbrev pub RoleSits : Role → Phrase → Type 0
  RoleSits (Q.Word word) v = WordSits word v
  RoleSits _ v = Unit {0}

  abbrev pub PartSits : Role → Phrase → Type 0
  PartSits role v = PhraseSits L V R v × RoleSits role v

  abbrev pub PartsSit : Rule → List Phrase → Type 0
  PartsSit rule vs = (k : ℕ) → nat_lt k (length (right_side rule)) ≡ true → PartSits (get_or (roles_of rule) k Q.Same) (at vs k)

-- whether a phrase by a rule scopes type variables: a value declaration, and types and datatypes
abbrev pub opens_scope : Entry → Bool
opens_scope O.Value = true
opens_scope O.Types = true
opens_scope _ = false

abbrev pub scopes : Rule → Bool
scopes rule = opens_scope (entry_of rule)

abbrev pub is_value : Entry → Bool
is_value O.Value = true
is_value _ = false

abbrev pub is_types : Entry → Bool
is_types O.Types = true
is_types _ = false

abbrev pub opens_value : Rule → Bool
opens_value rule = is_value (entry_of rule)

abbrev pub opens_types : Rule → Bool
opens_types rule = is_types (entry_of rule)
