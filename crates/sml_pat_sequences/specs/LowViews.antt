-- The program's types and patterns with their heights, as those of the definitions.
use Rattle.std.specs.Prelude.{map, reverse, Result}
use Rattle.sml_lex.specs.declared.fault.Place.{Place}
use Rattle.sml_tree.specs.Heights.{ty_height, pat_height}
use Rattle.sml_tree.specs.Types.{Ty, Tys, TyFields}
use Rattle.sml_tree.specs.TypeViews.{ty_of, tys_of, ty_field_of, ty_fields_of}
use Rattle.sml_tree.specs.Patterns.{Pat, Pats, PatFields}
use Rattle.sml_tree.specs.PatternViews.{pat_of, pats_of, pat_field_of, pat_fields_of}
use Rattle.sml_pat_sequences.specs.PatternSequences.{Building}
use Rattle.sml_phrases.specs.PhraseHeights.{low}
use Rattle.sml_phrases.specs.PhraseViews.{Gives}
use Rattle.sml_phrases.specs.declared.low.LowTy.{LowTy}
use Rattle.sml_phrases.specs.declared.low.LowTys.{LowTys}
use Rattle.sml_phrases.specs.declared.low.LowTyFields.{LowTyFields}
use Rattle.sml_phrases.specs.declared.low.LowPat.{LowPat}
use Rattle.sml_phrases.specs.declared.low.LowPats.{LowPats}
use Rattle.sml_phrases.specs.declared.low.LowPatFields.{LowPatFields}
use Rattle.sml_pat_sequences.specs.declared.pattern_sequences.Building as B
use Rattle.sml_phrases.specs.declared.phrase.Failure.{Failure}

abbrev pub low_ty_of : LowTy → Ty Place
low_ty_of t = ty_of t.tree

abbrev pub low_tys_of : LowTys → Tys Place
low_tys_of ts = tys_of (map (λ t. ty_of t.tree) (reverse ts.trees.items))

abbrev pub low_ty_fields_of : LowTyFields → TyFields Place
low_ty_fields_of fs = ty_fields_of (map ty_field_of (reverse fs.trees.items))

abbrev pub low_pat_of : LowPat → Pat Place
low_pat_of q = pat_of q.tree

abbrev pub low_pats_of : LowPats → Pats Place
low_pats_of qs = pats_of (map (λ q. pat_of q.tree) (reverse qs.trees.items))

abbrev pub low_pat_fields_of : LowPatFields → PatFields Place
low_pat_fields_of fs = pat_fields_of (map pat_field_of (reverse fs.trees.items))

abbrev pub building_of : B.Building → Building
building_of b = record { atoms = map low_pat_of b.atoms.items; stack = map low_pat_of (reverse b.stack.items) }

-- a call gives this type or this pattern, or says that it is too high
abbrev pub GivesTy : Ty Place → Result LowTy Failure → Type 0
GivesTy = Gives low_ty_of (λ t. low (ty_height t))

abbrev pub GivesPat : Pat Place → Result LowPat Failure → Type 0
GivesPat = Gives low_pat_of (λ q. low (pat_height q))
