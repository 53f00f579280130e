-- Types after which type constructors stand, and products of types.
use Rattle.std.proofs.Common.{◌≡◌, ◌≤◌, List, [], ◌∷◌, ◌++◌, map, reverse, length, arith, refl, ap, sym, ◌∙◌}
use Rattle.sml_lex.specs.declared.fault.Place.{Place}
use Rattle.sml_tree.specs.Heights.{ty_height}
use Rattle.sml_tree.specs.Names.{LongName}
use Rattle.sml_tree.specs.Types.{Ty, ty_tuple, ty_constructor, no_ty, and_ty}
use Rattle.std.proofs.lemmas.List.{length-reverse}
use Rattle.sml_tree.specs.TypeViews.{long_name_of, tys_of}
use Rattle.sml_tree.specs.declared.bare.LongIdent.{LongIdent}
use Rattle.sml_bare_pats.specs.TypeRules.{product, constructed}
use Rattle.sml_pat_sequences.specs.LowViews.{low_ty_of}
use Rattle.sml_phrases.specs.declared.low.LowTy.{LowTy}
use Rattle.sml_pat_sequences.proofs.PatternSequences.{last_first}

constructed-height : (p : Place) (t : Ty Place) (cs : List (LongName Place)) → ty_height t ≤ ty_height (constructed p t cs)
constructed-height p t [] = omega arith
constructed-height p t (c ∷ cs) = omega (arith, constructed-height p (ty_constructor p (and_ty t no_ty) c) cs)

pub constructed-next-height : (p : Place) (t whole : Ty Place) (olds rest : List LongIdent) (c : LongIdent)
    → olds ≡ rest ++ c ∷ [] → constructed p t (map long_name_of (reverse olds)) ≡ whole → ty_height (ty_constructor p (and_ty t no_ty) (long_name_of c)) ≤ ty_height whole
constructed-next-height p t whole olds rest c e so_far =
    let this : constructed p (ty_constructor p (and_ty t no_ty) (long_name_of c)) (map long_name_of (reverse rest)) ≡ whole
    = sym (ap (constructed p t) (last_first long_name_of olds rest c e)) ∙ so_far in
    rw (sym this) (constructed-height p (ty_constructor p (and_ty t no_ty) (long_name_of c)) (map long_name_of (reverse rest)))

product-more : (p : Place) (t : Ty Place) (us : List LowTy) → (length us ≡ 0 → ⊥) → product p t (tys_of (map low_ty_of us)) ≡ ty_tuple p (and_ty t (tys_of (map low_ty_of us)))
product-more p t [] some = absurd (some refl)
product-more p t (u ∷ us) some = refl

pub product-others : (p : Place) (t : Ty Place) (us : List LowTy) → (length us ≡ 0 → ⊥) → product p t (tys_of (map low_ty_of (reverse us))) ≡ ty_tuple p (and_ty t (tys_of (map low_ty_of (reverse us))))
product-others p t us some = product-more p t (reverse us) (λ e. some (sym (length-reverse us) ∙ e))
