-- What patterns in round brackets stand for.
use Rattle.sml_lex.specs.declared.fault.Place.{Place}
use Rattle.sml_tree.specs.Patterns.{Pat, Pats, pat_tuple, pat_bracket, no_pat, and_pat}

-- one pattern is in brackets, any other number of them a tuple
abbrev pub round_pat : Place → Pats Place → Pat Place
round_pat p (and_pat q no_pat) = pat_bracket p q
round_pat p qs = pat_tuple p qs
