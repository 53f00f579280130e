-- Names are let carry their constructors, one after the other.
use Rattle.std.proofs.Common.{◌≡◌, ◌++◌, Bool, ◌&&◌, cond, nat_eq, nat_le, List, [], ◌∷◌, Option, Some, None, refl}
use Rattle.sml_tree.specs.Trees.{Id}
use Rattle.sml_objects.specs.Initial.{Name, initial, made}
use Rattle.sml_objects.specs.Views.{maker_of}
use Rattle.sml_bases.specs.declared.objects.Basis.{out-Basis}
use Rattle.sml_objects.specs.Maps.{Map}
use Rattle.sml_core_rules.specs.Objects.{TyStr, identifiers}
use Rattle.sml_core_rules.specs.Functions.{name_of as named_by}
use Rattle.sml_type_maps.specs.NewNames.{carries, carries_too, is_new, same_number, unless_none}
use Rattle.sml_type_maps.specs.declared.new_names.NewNames.{NewNames}
use Rattle.sml_types.specs.Carried.{carries_all, carries_one}

abbrev Carried : Type 0
Carried = Name → Option (List Id)

-- one more
pub carries-push : (new : Name → Bool) (es : Map (TyStr Name)) (e : Id × TyStr Name) (f : Carried) (n : Name)
    → carries_all new (es ++ e ∷ []) f n ≡ carries_one new (named_by e.1.function) (unless_none (identifiers e.1.constructors)) (carries_all new es f) n
carries-push new [] e f n = refl
carries-push new (d ∷ es) e f n = carries-push new es e (carries_one new (named_by d.1.function) (unless_none (identifiers d.1.constructors)) f) n

-- what one step says in the end
pub one-carried : (s r : NewNames) (m : Name) (o : Option (List Id)) (f : Carried) (n : Name) → is_new s n ≡ is_new r n → carries s n ≡ f n
    → carries_too s m o n ≡ carries_one (is_new r) (Some m) o f n
one-carried s r m None f n e h = h
one-carried s r m (Some xs) f n e h = λ i. cond (e i && same_number n m) (Some xs) (h i)

-- which names are new
pub new-same : (s r : NewNames) → s.unit ≡ r.unit → s.basis ≡ r.basis → (n : Name) → is_new s n ≡ is_new r n
new-same s r u b (initial k) = refl
new-same s r u b (made v k a q) = λ i. nat_eq (maker_of (u i)) v && nat_le (out-Basis (b i).now).count k

-- what is the same before is the same after
module _ (a b : Name → Bool) (same : (n : Name) → a n ≡ b n) where
  one-same : (m : Option Name) (o : Option (List Id)) (f g : Carried) (n : Name) → f n ≡ g n → carries_one a m o f n ≡ carries_one b m o g n
  one-same None o f g n h = h
  one-same (Some m) None f g n h = h
  one-same (Some m) (Some xs) f g n h = λ i. cond (same n i && same_number n m) (Some xs) (h i)

  pub carries-same : (es : Map (TyStr Name)) (f g : Carried) → ((n : Name) → f n ≡ g n) → (n : Name) → carries_all a es f n ≡ carries_all b es g n
  carries-same [] f g h n = h n
  carries-same (e ∷ es) f g h n =
      carries-same es (carries_one a (named_by e.1.function) (unless_none (identifiers e.1.constructors)) f) (carries_one b (named_by e.1.function) (unless_none (identifiers e.1.constructors)) g)
      (λ m. one-same (named_by e.1.function) (unless_none (identifiers e.1.constructors)) f g m (h m)) n
