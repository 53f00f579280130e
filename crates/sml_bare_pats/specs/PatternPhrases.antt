-- What was made of one kind of pattern phrases, or something of that kind where another was.
use Rattle.std.specs.Prelude.{Bool, false}
use Rattle.sml_lex.specs.declared.fault.Place.{Place}
use Rattle.sml_tree.specs.Types.{Tys, no_ty}
use Rattle.sml_tree.specs.Patterns.{Pats, PatFields, no_pat, no_pat_field}
use Rattle.sml_phrases.specs.Phrases.{Phrase, of_atoms, of_pat_fields}

-- the fields of a record pattern, and whether `...` stands after them
abbrev pub pat_fields_in : Phrase → PatFields Place
pat_fields_in (of_pat_fields fs flexible) = fs
pat_fields_in _ = no_pat_field

abbrev pub flexible_in : Phrase → Bool
flexible_in (of_pat_fields fs flexible) = flexible
flexible_in _ = false

-- atomic patterns, and the types after the colons that follow them
abbrev pub atoms_in : Phrase → Pats Place
atoms_in (of_atoms qs ts) = qs
atoms_in _ = no_pat

abbrev pub colons_in : Phrase → Tys Place
colons_in (of_atoms qs ts) = ts
colons_in _ = no_ty
