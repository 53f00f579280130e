-- Where the identifier stands that a fault is of.
use Rattle.std.proofs.Common.{◌≡◌, ℕ, zero, suc, ◌<◌, List, [], ◌∷◌, map, length, get_or, Result, Ok, Err, ◌⊎◌, inl, inr, ap, sym, subst, ◌∙◌, arith, Vec, Global, Bool}
use Rattle.sml_lex.specs.declared.fault.Fault.{Fault}
use Rattle.sml_lex.specs.declared.fault.Place.{Place}
use Rattle.sml_tree.specs.Names.{LongName}
use Rattle.sml_tree.specs.Patterns as T
use Rattle.std.specs.Prelude.{IsErrAnd}
use Rattle.sml_tree.specs.PatternViews.{pat_of, pats_of, pat_layer, pat_field_of, pat_fields_of, pat_field_layer}
use Rattle.sml_tree.specs.declared.patterns.Pat.{Pat}
use Rattle.sml_tree.specs.declared.patterns.Pat.TheViews as V
use Rattle.sml_tree.specs.declared.patterns.PatField.{PatField, out-PatField, fold_out-PatField}
use Rattle.sml_types.specs.declared.fault.CoreFault.{CoreFault}
use Rattle.sml_types.specs.declared.fault.CoreFault.TheVariants as R
use Rattle.sml_warnings.specs.Lost.{OnFault, StandsIn, StandsInAll, StandsInFields}
use Rattle.sml_warnings.proofs.PatViews.{pat_of-row, pat_of-tuple}

-- of a fault more may be said
pub fault_on : (X : Type 0) (r : Result X CoreFault) (P Q : Fault → Type 0) → ((g : Fault) → P g → Q g) → OnFault r P → OnFault r Q
fault_on X (Ok x) P Q f h = tt
fault_on X (Err R.Memory) P Q f h = tt
fault_on X (Err (R.Fault g)) P Q f h = f g h

-- through `?`
pub fault_through : (X Y : Type 0) (r : Result Y CoreFault) (e : CoreFault) (P Q : Fault → Type 0) → IsErrAnd r (λ f. f ≡ e) → ((g : Fault) → P g → Q g) → OnFault {X = X} (Err e) P → OnFault r Q
fault_through X Y (Ok y) e P Q is f h = absurd is
fault_through X Y (Err R.Memory) e P Q is f h = tt
fault_through X Y (Err (R.Fault g)) e P Q is f h = f g (subst (λ k. OnFault {X = X} (Err k) P) (sym is) h)

module _ (F : LongName Place → Type 0) where
  pub in_row : (q : Pat) (p : Place) (v : Vec PatField Global) (b : Bool) (xs : List PatField) → q ≡ V.Row p v b → xs ≡ v.items → StandsInFields F (pat_fields_of (map pat_field_of xs)) → StandsIn F (pat_of q)
  in_row q p v b xs e i h =
      subst (StandsIn F) (sym (ap pat_of e ∙ pat_of-row p v b)) (subst (λ ys. StandsInFields F (pat_fields_of (map pat_field_of ys))) i h)

  pub in_tuple : (q : Pat) (p : Place) (v : Vec Pat Global) (xs : List Pat) → q ≡ V.Tuple p v → xs ≡ v.items → StandsInAll F (pats_of (map pat_of xs)) → StandsIn F (pat_of q)
  in_tuple q p v xs e i h =
      subst (StandsIn F) (sym (ap pat_of e ∙ pat_of-tuple p v)) (subst (λ ys. StandsInAll F (pats_of (map pat_of ys))) i h)

  pats-at : (qs : List Pat) (i : ℕ) (d : Pat) → i < length qs → StandsIn F (pat_of (get_or qs i d)) → StandsInAll F (pats_of (map pat_of qs))
  pats-at [] i d lt h = absurd (omega (arith, lt))
  pats-at (q ∷ qs) zero d lt h = inl h
  pats-at (q ∷ qs) (suc i) d lt h = inr (pats-at qs i d (omega (arith, lt)) h)

  pub pats_at : (qs : List Pat) (i : ℕ) (q : Pat) → i < length qs → q ≡ get_or qs i q → StandsIn F (pat_of q) → StandsInAll F (pats_of (map pat_of qs))
  pats_at qs i q lt is h = pats-at qs i q lt (subst (λ u. StandsIn F (pat_of u)) is h)

  one-field : (x : PatField) (rest : T.PatFields Place) → StandsIn F (pat_of (out-PatField x).pat) ⊎ StandsInFields F rest → StandsInFields F (T.and_pat_field (pat_field_of x) rest)
  one-field x rest h =
      subst (λ f. StandsInFields F (T.and_pat_field f rest)) (sym (fold_out-PatField (T.Pat Place) (T.PatField Place) pat_layer pat_field_layer x)) h

  fields-at : (xs : List PatField) (i : ℕ) (d : PatField) → i < length xs → StandsIn F (pat_of (out-PatField (get_or xs i d)).pat) → StandsInFields F (pat_fields_of (map pat_field_of xs))
  fields-at [] i d lt h = absurd (omega (arith, lt))
  fields-at (x ∷ xs) zero d lt h = one-field x (pat_fields_of (map pat_field_of xs)) (inl h)
  fields-at (x ∷ xs) (suc i) d lt h =
      one-field x (pat_fields_of (map pat_field_of xs)) (inr (fields-at xs i d (omega (arith, lt)) h))

  pub fields_at : (xs : List PatField) (i : ℕ) (x : PatField) → i < length xs → x ≡ get_or xs i x → StandsIn F (pat_of (out-PatField x).pat) → StandsInFields F (pat_fields_of (map pat_field_of xs))
  fields_at xs i x lt is h = fields-at xs i x lt (subst (λ u. StandsIn F (pat_of (out-PatField u).pat)) is h)
